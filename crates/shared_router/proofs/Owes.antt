-- What each client is due at a moment is the same by the last plan and by what was decided then.
use Rattle.std.specs.Prelude.{◌≡◌, ◌+◌, ◌≤◌, ℕ, suc, nat_le, if◌then◌else◌, fold, length, take, List, [], ◌∷◌, ◌++◌, Option, Some, None}
use Rattle.std.specs.Option.{option_and_then, option_map_or}
use Rattle.std.proofs.Common.{refl, sym, ap, ◌∙◌, arith, inl, inr}
use Rattle.std.proofs.lemmas.Bool.{lt-leb}
use Rattle.std.proofs.lemmas.List.{length-take}
use Rattle.client_session.specs.Answers.{front}
use Rattle.mx_wire.specs.Log.{Log}
use Rattle.packet_frame.specs.Packets.{Framed, next_id}
use Rattle.private_model.specs.Commands.{Reply}
use Rattle.private_model.specs.Names.{ClientNo, MessageName}
use Rattle.log_story.specs.Owed.{answered_with, due_bytes, due_for, due_until, error_behind, messages, name_of, number_of, talk_of, with_word}
use Rattle.log_story.specs.Plan.{LastWord, Plan, Route, own_at, word_at}
use Rattle.log_story.specs.Tale.{Client}
use Rattle.tale_world.specs.Decided.{Agrees, Decided, plan_of}
use Rattle.tale_world.specs.Deciding.{World}
use Rattle.tale_world.proofs.Agreeing.{same_own, same_route}
use Rattle.shared_router.specs.Fixed.{Fixed}
use Rattle.shared_router.specs.More.{More}
use Rattle.shared_router.specs.Shared.{world_at}
use Rattle.shared_router.proofs.Looked.{IsLooked}
use Rattle.shared_router.proofs.Parting.{agrees_then, even_at, next, world_more}
use Rattle.shared_router.proofs.Since.{Since, log-since}

module _ (d : Decided) (moment : ℕ) (plan : Plan) (agrees : Agrees d moment plan) (replies : MessageName → Option Reply) (client : Client) (looked : IsLooked d client) where
  pub due-so : (last : List ℕ) (j : ℕ) (xs : List Framed) → j + length xs ≤ client.taken
      → due_for replies plan moment client last (suc j) xs ≡ due_for replies (plan_of d) moment client last (suc j) xs
  due-so last j [] below = refl
  due-so last j (x ∷ xs) below =
      let name : MessageName = name_of client (suc j) in
      let own = looked.own j (omega (arith, below)) in
      let route = looked.routes j (omega (arith, below)) in
      let rest = due_for replies plan moment client last (suc (suc j)) xs in
      ap (λ o. answered_with o (replies name) (number_of plan name) (next_id x.last) rest) (sym (same_own d moment plan agrees name own.0 own.1))
      ∙ ap (λ (r : Option Route). answered_with (own_at (plan_of d) moment name) (replies name) (option_map_or (λ (route : Route). route.number) r 0) (next_id x.last) rest)
      (sym (same_route d moment plan agrees name route.0 route.1))
      ∙ ap (answered_with (own_at (plan_of d) moment name) (replies name) (number_of (plan_of d) name) (next_id x.last)) (due-so last (suc j) xs (omega (arith, below)))

  until-so : due_until replies plan moment client ≡ due_until replies (plan_of d) moment client
  until-so =
      ap (λ service. front (talk_of (record plan { service = service }) client)
      ++ due_for replies plan moment client (error_behind (record plan { service = service }) client) 1 (take client.taken (messages (record plan { service = service }) client))) agrees.service
      ∙ ap (λ xs. front (talk_of (plan_of d) client) ++ xs)
      (due-so (error_behind (plan_of d) client) 0 (take client.taken (messages (plan_of d) client))
      (let short = length-take client.taken (messages (plan_of d) client) in omega (arith, short)))

  -- with the last words that are said by then
  pub bytes-so : word_at plan moment client.number ≡ word_at (plan_of d) moment client.number → due_bytes replies plan moment client ≡ due_bytes replies (plan_of d) moment client
  bytes-so words =
      ap (λ service. with_word (talk_of (record plan { service = service }) client) (due_until replies plan moment client) (word_at plan moment client.number)) agrees.service
      ∙ ap (λ xs. with_word (talk_of (plan_of d) client) xs (word_at plan moment client.number)) until-so
      ∙ ap (with_word (talk_of (plan_of d) client) (due_until replies (plan_of d) moment client)) words

module _ (fixed : Fixed) where
  abbrev said_by : ℕ → Option LastWord → Option LastWord
  said_by moment word = option_and_then (λ (word : LastWord). if nat_le word.from moment then Some word else None) word

  pub words-so : (before later : Log) (c : ClientNo)
      → word_at (plan_of (world_at fixed (before ++ later)).decided) (world_at fixed before).tale.moment c ≡ word_at (plan_of (world_at fixed before).decided) (world_at fixed before).tale.moment c
  words-so before later c =
      ap (λ (v : World More). said_by w.tale.moment (v.decided.words c)) (world_more fixed before later)
      ∙ by_words (w.decided.words c) (last.decided.words c) refl refl
    where
      w : World More
      w = world_at fixed before

      last : World More
      last = fold (next fixed) w later

      since : Since (suc w.tale.moment) last.tale.moment w.decided last.decided
      since = log-since fixed later w (even_at fixed before)

      by_words : (old new : Option LastWord) → w.decided.words c ≡ old → last.decided.words c ≡ new → said_by w.tale.moment new ≡ said_by w.tale.moment old
      by_words (Some word) new at then_at = ap (said_by w.tale.moment) (sym then_at ∙ since.said c word at)
      by_words None None at then_at = refl
      by_words None (Some word) at then_at = elim (since.words c word then_at) [
        | inl was ↦ absurd (cc (was, at))
        | inr within ↦ ap (λ b. if b then Some word else None) (lt-leb word.from w.tale.moment (omega (arith, within.0)))
      ]

  -- at each moment of a log
  pub owes-so : (before later : Log) (replies : MessageName → Option Reply) (client : Client) → IsLooked (world_at fixed before).decided client
      → due_bytes replies (plan_of (world_at fixed (before ++ later)).decided) (world_at fixed before).tale.moment client
      ≡ due_bytes replies (plan_of (world_at fixed before).decided) (world_at fixed before).tale.moment client
  owes-so before later replies client looked =
      let w : World More = world_at fixed before in
      bytes-so w.decided w.tale.moment (plan_of (world_at fixed (before ++ later)).decided) (agrees_then fixed before later) replies client looked (words-so before later client.number)
