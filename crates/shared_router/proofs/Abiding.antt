-- What a client with a last word is due goes on: it isn't heard, and takes up no more; each of its messages is answered, or its last was left.
use Rattle.std.specs.Prelude.{◌≡◌, ◌⊎◌, ◌+◌, ◌≤◌, ◌<◌, ℕ, zero, suc, Bool, true, false, ◌&&◌, ◌||◌, is_none, is_some, length, map, nat_le, nat_lt, if◌then◌else◌, List, [], ◌∷◌, ◌++◌, Option, Some, None}
use Rattle.std.specs.List.{list_any}
use Rattle.std.proofs.Common.{refl, sym, ap, ◌∙◌, subst, append_assoc, append-nil, arith, inl, inr}
use Rattle.std.proofs.lemmas.Bool.{and_parts, le-leb, leb-false, leb-true, lt-ltb}
use Rattle.client_session.specs.Answers.{messages_of}
use Rattle.mx_base.specs.declared.names.LinkId.{LinkId}
use Rattle.mx_wire.specs.Log.{Log}
use Rattle.mx_wire.specs.Moments.{AllLawful, LawfulAfter, lawful-more}
use Rattle.mx_wire.specs.Tells.{Fits}
use Rattle.mx_wire.specs.declared.entry.Entry.{Entry}
use Rattle.mx_wire.specs.declared.entry.Entry.TheVariants as entry
use Rattle.packet_frame.specs.Packets.{id_of_answer, spellings}
use Rattle.private_model.specs.Commands.{Reply}
use Rattle.private_model.specs.Names.{ClientNo, MessageName}
use Rattle.private_model.specs.Story.{is_link_id}
use Rattle.private_model.specs.View.{Setup}
use Rattle.log_story.proofs.Writing.{front-trans}
use Rattle.log_story.specs.Clients.{clients_go_on, is_answered}
use Rattle.log_story.specs.Honest.{IsFront}
use Rattle.log_story.specs.Owed.{answered_with, due_until, name_of, talk_of, with_word, word_in}
use Rattle.log_story.specs.Plan.{Alone, Behind, ForLogin, LastWord, OwnAnswer, Plan, WordPlace, is_before, own_at, word_at}
use Rattle.log_story.specs.Tale.{Client, Tale, client_gets, client_hears, is_to_server, new_client, view_of}
use Rattle.log_story.specs.Telling.{tale_step, told}
use Rattle.tale_world.specs.Decided.{Agrees, plan_of}
use Rattle.tale_world.specs.Deciding.{World}
use Rattle.router_promises.proofs.Saying.{now-tale}
use Rattle.router_promises.specs.Ends.{IsLastWord, WordRight, is_left, was_answered}
use Rattle.router_promises.specs.Now as now
use Rattle.router_promises.specs.Now.{Now, entry_now, now_at, while_ending}
use Rattle.router_promises.specs.Takings.{as_told}
use Rattle.router_promises.specs.Terms.{Terms, plan_in, setup_in, tale_at}
use Rattle.shared_router.specs.Fixed.{Fixed, IsNumbered}
use Rattle.shared_router.specs.Given.{GivenUpSo}
use Rattle.shared_router.specs.Judged.{WordsFor}
use Rattle.shared_router.specs.Known.{known}
use Rattle.shared_router.specs.More.{More}
use Rattle.shared_router.specs.Onward.{AnswerStays, AnswersStay, AnswersStaySo, GoOn, GoesOnWith, UntilGoesOnSo, WordsGoOn, WordsGoOnSo, until_in}
use Rattle.shared_router.specs.Ours.{IsOurLog, IsOurs, has_word}
use Rattle.shared_router.specs.Shared.{final_terms, world_at}
use Rattle.shared_router.proofs.Along.{IsAt, lawful_there}
use Rattle.shared_router.proofs.Among.{some_at}
use Rattle.shared_router.proofs.Answered.{AreCounted, Comes, IsBehind, IsCounted, Said, behind, ending_then, is_said, later_then, said_then}
use Rattle.shared_router.proofs.Answering.{answers_from}
use Rattle.shared_router.proofs.Coming.{IsNamed, named_at}
use Rattle.shared_router.proofs.Decidedly.{route_decided}
use Rattle.shared_router.proofs.Ended as ended
use Rattle.shared_router.proofs.Furthering.{until_along}
use Rattle.run_laws.proofs.Going.{ifs}
use Rattle.shared_router.proofs.Growing.{numbered_at}
use Rattle.shared_router.proofs.LastWords.{LoginsFor, WaitsThere, logins-there, words-along}
use Rattle.shared_router.proofs.Looked.{Each}
use Rattle.shared_router.proofs.Musts.{ending_world}
use Rattle.shared_router.proofs.Numbered.{AreNumbered}
use Rattle.shared_router.proofs.Owes.{words-so}
use Rattle.shared_router.proofs.Parting.{even_at, next, tale_then, world_more}
use Rattle.shared_router.proofs.Reasons.{given_along}
use Rattle.shared_router.proofs.Repeating.{login_front, none_any, none_on, not_accepted, not_turned, same_on, still_some, until_same, word_by, word_later, word_then}
use Rattle.shared_router.proofs.Replying.{came_then, new_same, next_moment, old_same, replies_kept}
use Rattle.shared_router.proofs.Seated.{AllOf, AreLike, clients_by, step_like, told_clients}
use Rattle.shared_router.proofs.Since.{Since, log-since}
use Rattle.shared_router.proofs.Sparing.{agrees_here}
use Rattle.shared_router.proofs.Users.{all_of}
use Rattle.shared_router.proofs.Waking.{held_then}
use Rattle.shared_router.proofs.Worded.{going-same-ends, parted_at}
use Rattle.mx_base.specs.declared.names.Port.{Port}

isnt : {A : Type 0} → false ≡ true → A
isnt is = absurd (cc)

no_some : {A B : Type 0} (a : A) → None ≡ Some a → B
no_some a is = absurd (cc)

some_of : {A : Type 0} (a b : A) → Some a ≡ Some b → a ≡ b
some_of a b is = cc

-- Along a log of ours.

module _ (fixed : Fixed) (numbered : IsNumbered fixed) (log : Log) (our : IsOurLog fixed log) where
  abbrev t : Terms
  t = final_terms fixed log

  abbrev plan : Plan
  plan = plan_in t

  abbrev setup : Setup
  setup = setup_in t

  abbrev pub replies_in : Tale → MessageName → Option Reply
  replies_in tale = (view_of setup tale).replies

  -- a message that was left: it goes nowhere, isn't answered and has no reply
  pub record IsLeftAt (tale : Tale) (m : MessageName) : Type 0 where
    pub routed : plan.routes m ≡ None
    pub own : own_at plan tale.moment m ≡ None
    pub unheard : replies_in tale m ≡ None

  abbrev pub IsLast : Tale → ClientNo → (taken : ℕ) → Type 0
  IsLast tale n taken = (is_said setup plan (replies_in tale) tale.moment n taken ≡ true) ⊎ IsLeftAt tale (record { client = n; ordinal = taken })

  -- each message before the last is answered, and where there is a last word, the last one is, or was left
  pub record IsSettled (tale : Tale) (client : Client) : Type 0 where
    pub said : Said setup plan (replies_in tale) tale.moment client
    pub last : (word : LastWord) → word_at plan tale.moment client.number ≡ Some word → IsLast tale client.number client.taken

  stays_answered : LawfulAfter (AnswersStaySo t) [] log
  stays_answered = answers_from fixed [] log log refl (replies_kept fixed numbered log our)

  -- what goes nowhere has no reply
  unheard_at : (before later : Log) → before ++ later ≡ log → (m : MessageName) → plan.routes m ≡ None → replies_in (world_at fixed before).tale m ≡ None
  unheard_at before later is m nowhere = by_reply (replies_in (world_at fixed before).tale m) refl where
    goes : is_some (replies_in (world_at fixed before).tale m) ≡ true → ⊥
    goes has =
        let route = route_decided (world_at fixed before).decided m ((held_then fixed before later log is our).1.decided.answered m has) in
        no_some route.0 (sym nowhere ∙ (agrees_here fixed numbered before later log is).routes m (Some route.0) route.1)

    by_reply : (o : Option Reply) → replies_in (world_at fixed before).tale m ≡ o → replies_in (world_at fixed before).tale m ≡ None
    by_reply None at = at
    by_reply (Some reply) at = absurd (goes (ap (λ (o : Option Reply). is_some o) at))

  module _ (before later : Log) (e : Entry) (at : IsAt log before e later) where
    abbrev w : World More
    w = world_at fixed before

    abbrev old : Tale
    old = tale_at t before

    abbrev new : Tale
    new = tale_step setup plan old e

    abbrev there : Now
    there = now_at t before

    abbrev R : MessageName → Option Reply
    R = replies_in new

    old_is : old ≡ w.tale
    old_is = old_same fixed numbered log our before later e at

    new_is : tale_at t (before ++ e ∷ []) ≡ new
    new_is = new_same fixed numbered log our before later e at

    moments : new.moment ≡ suc old.moment
    moments = ap (λ (x : Tale). x.moment) (sym new_is) ∙ next_moment fixed numbered log our before later e at

    there_is : there.tale ≡ old
    there_is = now-tale t before

    stays : AllOf (AnswersStay t old new) old.clients
    stays = subst (λ (x : Tale). AllOf (AnswersStay t old x) old.clients) new_is
        (all_of (AnswersStay t old (tale_at t (before ++ e ∷ []))) old.clients (lawful_there (AnswersStaySo t) before later log e at.is stays_answered))

    on : GoOn (until_in t old) (until_in t new) old.clients new.clients
    on = subst (λ (x : Tale). GoOn (until_in t old) (until_in t x) old.clients x.clients) new_is
        (lawful_there (UntilGoesOnSo t) before later log e at.is (until_along t log stays_answered))

    -- Words and ends.

    since : Since (suc w.tale.moment) (world_at fixed log).tale.moment w.decided (world_at fixed log).decided
    since = subst (λ (v : World More). Since (suc w.tale.moment) v.tale.moment w.decided v.decided)
        (sym (world_more fixed before (e ∷ later)) ∙ ap (world_at fixed) at.is) (log-since fixed (e ∷ later) w (even_at fixed before))

    word_since : (c : ClientNo) (word : LastWord) → plan.words c ≡ Some word → (w.decided.words c ≡ Some word) ⊎ (suc old.moment ≤ word.from)
    word_since c word is = elim (since.words c word is) [
      | inl was ↦ inl was
      | inr within ↦ inr (let from : suc w.tale.moment ≤ word.from = within.0 in let same : old.moment ≡ w.tale.moment = ap (λ (x : Tale). x.moment) old_is in omega (arith, from, same))
    ]

    -- to whom one was said before has ended
    ended_by : (c : ClientNo) (word : LastWord) → plan.words c ≡ Some word → word.from ≤ old.moment → is_before new.moment (plan.ends c) ≡ true
    ended_by c word is early = elim (word_since c word is) [
      | inl was ↦
          let has = parted_at fixed before c word was in
          let same : (ending_world fixed numbered before e).decided.ends c ≡ Some has.0 = ap (λ f. f c) (going-same-ends fixed w e).ends ∙ has.1 in
          let less : has.0 < (ending_world fixed numbered before e).tale.moment = ended.ends-early fixed numbered before later e c has.0 same in
          let count : (ending_world fixed numbered before e).tale.moment ≡ suc w.tale.moment = ended.moment-so fixed numbered before later e in
          let tale : old.moment ≡ w.tale.moment = ap (λ (x : Tale). x.moment) old_is in
          ap (is_before new.moment) ((agrees_here fixed numbered before (e ∷ later) log at.is).ended c has.0 has.1)
          ∙ lt-ltb has.0 new.moment (omega (arith, less, count, tale, moments))
      | inr late ↦ absurd (omega (arith, late, early))
    ]

    -- who comes was told none
    abbrev IsNew : ClientNo → Type 0
    IsNew c = (word : LastWord) → plan.words c ≡ Some word → suc old.moment ≤ word.from

    comes_new : (x : Entry) → Comes setup plan R new.moment IsNew old x
    comes_new (entry.Accepted port link salt) = λ word is. elim (word_since (record { 0 = length old.clients + 1 }) word is) [
      | inl was ↦
          let has = parted_at fixed before (record { 0 = length old.clients + 1 }) word was in
          let some : length old.clients + 1 ≤ length w.tale.clients = some_at fixed before (record { 0 = length old.clients + 1 }) has.0 has.1 in
          let same : length old.clients ≡ length w.tale.clients = ap (λ (x : Tale). length x.clients) old_is in
          absurd (omega (arith, some, same))
      | inr late ↦ late
    ]
    comes_new _ = tt

    -- What is answered stays so.

    said_on : (client : Client) → Said setup plan (replies_in old) old.moment client → AnswersStay t old new client → Said setup plan R new.moment client
    said_on client said stay zero below = refl
    said_on client said stay (suc i) below =
        let m : MessageName = name_of client (suc i) in
        still_some (own_at plan old.moment m) (own_at plan new.moment m) (replies_in old m) (R m) (stay i (omega (arith, below))) (said (suc i) below)

    saids : (xs : List Client) → Each (IsSettled old) xs → AllOf (AnswersStay t old new) xs → Each (Said setup plan R new.moment) xs
    saids [] settled stay = tt
    saids (x ∷ xs) settled stay = (said_on x settled.0.said stay.0, saids xs settled.1 stay.1)

    -- and what was left stays so

    not_given : (m : MessageName) → plan.routes m ≡ None → (answer : OwnAnswer) → plan.own m ≡ Some answer → answer.from ≡ suc old.moment → ⊥
    not_given m nowhere answer is from =
        let given = lawful_there (GivenUpSo t) before later log e at.is (given_along fixed numbered log our) in
        let count : there.tale.moment ≡ old.moment = ap (λ (x : Tale). x.moment) there_is in
        let up = given m answer is (omega (arith, from, count)) in
        no_some up.route (sym nowhere ∙ up.goes)

    unheard_new : (m : MessageName) → plan.routes m ≡ None → R m ≡ None
    unheard_new m nowhere =
        let whole : (before ++ e ∷ []) ++ later ≡ log = append_assoc before (e ∷ []) later ∙ at.is in
        let same : tale_at t (before ++ e ∷ []) ≡ (world_at fixed (before ++ e ∷ [])).tale =
        subst (λ (l : Log). tale_at (final_terms fixed l) (before ++ e ∷ []) ≡ (world_at fixed (before ++ e ∷ [])).tale) whole (tale_then fixed (before ++ e ∷ []) later) in
        subst (λ (x : Tale). replies_in x m ≡ None) (sym same ∙ new_is) (unheard_at (before ++ e ∷ []) later whole m nowhere)

    left_on : (m : MessageName) → IsLeftAt old m → IsLeftAt new m
    left_on m left = record {
      routed = left.routed;
      own = subst (λ n. own_at plan n m ≡ None) (sym moments) (came_then (plan.own m) old.moment left.own (not_given m left.routed));
      unheard = unheard_new m left.routed;
    }

    said_last : (n : ClientNo) (k : ℕ) → is_said setup plan (replies_in old) old.moment n k ≡ true → ((i : ℕ) → k ≡ suc i → AnswerStays (own_at plan old.moment (record { client = n; ordinal = suc i }))
        (replies_in old (record { client = n; ordinal = suc i })) (own_at plan new.moment (record { client = n; ordinal = suc i })) (R (record { client = n; ordinal = suc i })))
        → is_said setup plan R new.moment n k ≡ true
    said_last n zero said stay = refl
    said_last n (suc i) said stay =
        let m : MessageName = record { client = n; ordinal = suc i } in
        still_some (own_at plan old.moment m) (own_at plan new.moment m) (replies_in old m) (R m) (stay i refl) said

    last_on : (client : Client) → AnswersStay t old new client → IsLast old client.number client.taken → IsLast new client.number client.taken
    last_on client stay (inl said) = inl (said_last client.number client.taken said (λ i same. stay i (omega (arith, same))))
    last_on client stay (inr left) = inr (left_on (name_of client client.taken) left)

    -- A last word of this entry.

    words : AllOf (WordRight t (before ++ e ∷ []) there (now.next t there e) e) new.clients
    words = subst (λ (x : Tale). AllOf (WordRight t (before ++ e ∷ []) there (now.next t there e) e) (tale_step setup plan x e).clients) there_is
        (all_of (WordRight t (before ++ e ∷ []) there (now.next t there e) e) (now.next t there e).tale.clients
        (lawful_there (WordsFor t) before later log e at.is (words-along fixed numbered log our.fits)))

    logins : Each (WaitsThere t before) new.clients
    logins = subst (λ (x : Tale). Each (WaitsThere t before) (tale_step setup plan x e).clients) there_is
        (subst (λ (l : Log). LoginsFor (final_terms fixed l) before e) at.is (logins-there fixed numbered before later e))

    abbrev ending_in : Tale → Tale
    ending_in x = clients_go_on setup plan (view_of setup x) e (as_told setup plan x e)

    abbrev answered_in : Client → Tale → Bool
    answered_in y x = is_answered plan (ending_in x) (view_of setup (ending_in x)) y y.taken

    abbrev left_in : Client → ℕ → Bool
    left_in y n = is_none (plan.routes (name_of y y.taken)) && is_none (own_at plan n (name_of y y.taken))

    none_is : {A : Type 0} (o : Option A) → is_none o ≡ true → o ≡ None
    none_is None is = refl
    none_is (Some x) is = isnt is

    last_now : (y : Client) (word : LastWord) → IsLastWord t (before ++ e ∷ []) there e y word → IsLast new y.number y.taken
    last_now y word is = by_answered (was_answered t (while_ending t there e) y) refl is.answered where
      left : is_left t (while_ending t there e) y ≡ true → IsLast new y.number y.taken
      left gone =
          let both = and_parts (is_none (plan.routes (name_of y y.taken))) (is_none (own_at plan (ending_in there.tale).moment (name_of y y.taken)))
          (and_parts (nat_lt 0 y.taken) (left_in y (ending_in there.tale).moment) gone).1 in
          let moment : (ending_in there.tale).moment ≡ new.moment = ap (λ (x : Tale). (ending_in x).moment) there_is ∙ (ending_then setup plan old e).now in
          let nowhere : plan.routes (name_of y y.taken) ≡ None = none_is (plan.routes (name_of y y.taken)) both.0 in
          inr (record {
            routed = nowhere;
            own = subst (λ n. own_at plan n (name_of y y.taken) ≡ None) moment (none_is (own_at plan (ending_in there.tale).moment (name_of y y.taken)) both.1);
            unheard = unheard_new (name_of y y.taken) nowhere;
          })

      by_answered : (b : Bool) → was_answered t (while_ending t there e) y ≡ b → (b || is_left t (while_ending t there e) y) ≡ true → IsLast new y.number y.taken
      by_answered true said so = inl (sym (said_then setup plan R new.moment (ending_in old) (ending_then setup plan old e) y y.taken) ∙ ap (answered_in y) (sym there_is) ∙ said)
      by_answered false unsaid so = left so

    -- it is of this entry, where it is no earlier one
    word_here : (y : Client) (word : LastWord) → WordRight t (before ++ e ∷ []) there (now.next t there e) e y → plan.words y.number ≡ Some word → word.from ≤ new.moment
        → old.moment < word.from → IsLastWord t (before ++ e ∷ []) there e y word
    word_here y word right is most least =
        right.may word is (let count : there.tale.moment ≡ old.moment = ap (λ (x : Tale). x.moment) there_is in omega (arith, most, least, moments, count))

    -- Each client behind the entry.

    settled_other : (y : Client) → IsNew y.number → Said setup plan R new.moment y → WordRight t (before ++ e ∷ []) there (now.next t there e) e y → IsSettled new y
    settled_other y is_new said right = record {
      said = said;
      last = λ word is.
          let found = word_then new.moment (plan.words y.number) word is in
          last_now y word (word_here y word right found.0 found.1 (is_new word found.0));
    }

    settled_one : (x y : Client) → IsCounted setup plan R new.moment IsNew x y → Said setup plan R new.moment y
        → WordRight t (before ++ e ∷ []) there (now.next t there e) e y → IsSettled old x → AnswersStay t old new x → IsSettled new y
    settled_one x y counted said right settled stay = record { said = said; last = last } where
      last : (word : LastWord) → word_at plan new.moment y.number ≡ Some word → IsLast new y.number y.taken
      last word is = by_early (nat_le word.from old.moment) refl where
        found : (plan.words y.number ≡ Some word) × (word.from ≤ new.moment)
        found = word_then new.moment (plan.words y.number) word is

        by_early : (b : Bool) → nat_le word.from old.moment ≡ b → IsLast new y.number y.taken
        by_early false late = last_now y word (word_here y word right found.0 found.1 (leb-false word.from old.moment late))
        by_early true early =
            let its : plan.words x.number ≡ Some word = ap plan.words (sym counted.number) ∙ found.0 in
            let less : word.from ≤ old.moment = leb-true word.from old.moment early in
            let was : IsLast old x.number x.taken = settled.last word (word_by old.moment (plan.words x.number) word its less) in
            subst (λ n. IsLast new n y.taken) (sym counted.number)
            (subst (λ k. IsLast new x.number k) (sym (counted.still (ended_by x.number word its less))) (last_on x stay was))

    abbrev AreCountedNow : List Client → List Client → Type 0
    AreCountedNow xs ys = AreCounted setup plan R new.moment IsNew xs ys

    others_settled : (ys : List Client) → Each (λ (y : Client). IsNew y.number) ys → Each (Said setup plan R new.moment) ys
        → AllOf (WordRight t (before ++ e ∷ []) there (now.next t there e) e) ys → Each (IsSettled new) ys
    others_settled [] are said right = tt
    others_settled (y ∷ ys) are said right = (settled_other y are.0 said.0 right.0, others_settled ys are.1 said.1 right.1)

    all_settled : (xs ys : List Client) → AreCountedNow xs ys → Each (Said setup plan R new.moment) ys → AllOf (WordRight t (before ++ e ∷ []) there (now.next t there e) e) ys
        → Each (IsSettled old) xs → AllOf (AnswersStay t old new) xs → Each (IsSettled new) ys
    all_settled [] ys counted said right settled stay = others_settled ys counted said right
    all_settled (x ∷ xs) [] counted said right settled stay = absurd counted
    all_settled (x ∷ xs) (y ∷ ys) counted said right settled stay =
        (settled_one x y counted.0 said.0 right.0 settled.0 stay.0, all_settled xs ys counted.1 said.1 right.1 settled.1 stay.1)

    -- Who has a last word isn't heard.

    record IsHeard (x y : Client) : Type 0 where
      pub link : y.link ≡ x.link
      pub port : y.port ≡ x.port
      pub salt : y.salt ≡ x.salt
      pub read : (word : LastWord) → word_at plan old.moment x.number ≡ Some word → y.read ≡ x.read

    abbrev AreHeard : List Client → List Client → Type 0
    AreHeard [] ys = Unit {0}
    AreHeard (x ∷ xs) [] = ⊥
    AreHeard (x ∷ xs) (y ∷ ys) = IsHeard x y × AreHeard xs ys

    heard_itself : (xs : List Client) → AreHeard xs xs
    heard_itself [] = tt
    heard_itself (x ∷ xs) = (record { link = refl; port = refl; salt = refl; read = λ word is. refl }, heard_itself xs)

    heard_comes : (xs : List Client) (one : Client) → AreHeard xs (xs ++ one ∷ [])
    heard_comes [] one = tt
    heard_comes (x ∷ xs) one = (record { link = refl; port = refl; salt = refl; read = λ word is. refl }, heard_comes xs one)

    heard_gets : (link : LinkId) (count : ℕ) (xs : List Client) → AreHeard xs (map (client_gets link count) xs)
    heard_gets link count [] = tt
    heard_gets link count (x ∷ xs) = (by_test (is_link_id x.link link), heard_gets link count xs) where
      by_test : (b : Bool) → IsHeard x (if b then record x { written = x.written + count } else x)
      by_test true = record { link = refl; port = refl; salt = refl; read = λ word is. refl }
      by_test false = record { link = refl; port = refl; salt = refl; read = λ word is. refl }

    abbrev Speaks : LinkId → Client → Type 0
    Speaks link client = (is_link_id client.link link && is_some (word_at plan old.moment client.number)) ≡ false

    heard_hears : (link : LinkId) (bytes : List ℕ) (xs : List Client) → Each (Speaks link) xs → AreHeard xs (map (client_hears link bytes) xs)
    heard_hears link bytes [] speak = tt
    heard_hears link bytes (x ∷ xs) speak = (by_test (is_link_id x.link link) speak.0, heard_hears link bytes xs speak.1) where
      by_test : (b : Bool) → (b && is_some (word_at plan old.moment x.number)) ≡ false → IsHeard x (if b then record x { read = x.read ++ bytes } else x)
      by_test true none = record { link = refl; port = refl; salt = refl; read = λ word is. isnt (sym none ∙ ap (λ (o : Option LastWord). is_some o) is) }
      by_test false none = record { link = refl; port = refl; salt = refl; read = λ word is. refl }

    speak_so : (link : LinkId) (xs : List Client) → list_any (λ (c : Client). is_link_id c.link link && is_some (word_at (plan_of w.decided) w.tale.moment c.number)) xs ≡ false
        → Each (Speaks link) xs
    speak_so link xs none = each_same xs (none_any _ xs none) where
      same : (c : ClientNo) → word_at plan old.moment c ≡ word_at (plan_of w.decided) w.tale.moment c
      same c =
          ap (λ (x : Tale). word_at plan x.moment c) old_is
          ∙ subst (λ (l : Log). word_at (plan_of (world_at fixed l).decided) w.tale.moment c ≡ word_at (plan_of w.decided) w.tale.moment c) at.is (words-so fixed before (e ∷ later) c)

      each_same : (cs : List Client) → Each (λ (c : Client). (is_link_id c.link link && is_some (word_at (plan_of w.decided) w.tale.moment c.number)) ≡ false) cs → Each (Speaks link) cs
      each_same [] all = tt
      each_same (c ∷ cs) all = (ap (λ (o : Option LastWord). is_link_id c.link link && is_some o) (same c.number) ∙ all.0, each_same cs all.1)

    heard_by : (x : Entry) → IsOurs fixed before x → AreHeard old.clients (clients_by setup plan old x)
    heard_by (entry.Accepted port link salt) ours = heard_comes old.clients (new_client (length old.clients + 1) port link salt)
    heard_by (entry.Got link bytes) ours =
        ifs (AreHeard old.clients) (is_to_server old link) old.clients (map (client_hears link bytes) old.clients) (heard_itself old.clients)
        (heard_hears link bytes old.clients (subst (λ (x : Tale). Each (Speaks link) x.clients) (sym old_is) (speak_so link w.tale.clients ours.2)))
    heard_by (entry.Wrote link tag bytes) ours =
        ifs (AreHeard old.clients) (is_to_server old link) old.clients (map (client_gets link (length bytes)) old.clients) (heard_itself old.clients)
        (heard_gets link (length bytes) old.clients)
    heard_by _ ours = heard_itself old.clients

    heard_like : (xs ys zs : List Client) → AreHeard xs ys → AreLike ys zs → AreHeard xs zs
    heard_like [] ys zs heard like = tt
    heard_like (x ∷ xs) [] zs heard like = absurd heard
    heard_like (x ∷ xs) (y ∷ ys) [] heard like = absurd like
    heard_like (x ∷ xs) (y ∷ ys) (z ∷ zs) heard like = (
      record { link = like.0.link ∙ heard.0.link; port = like.0.port ∙ heard.0.port; salt = like.0.salt ∙ heard.0.salt; read = λ word is. like.0.read ∙ heard.0.read word is },
      heard_like xs ys zs heard.1 like.1,
    )

    old_numbered : AreNumbered 1 old.clients
    old_numbered = subst (λ (x : Tale). AreNumbered 1 x.clients) (sym old_is) (numbered_at fixed before)

    heard_now : IsOurs fixed before e → AreHeard old.clients new.clients
    heard_now ours =
        heard_like old.clients (clients_by setup plan old e) new.clients (heard_by e ours)
        (subst (λ (cs : List Client). AreLike cs new.clients) (told_clients setup plan old e) (step_like setup plan old e old_numbered))

    -- Who has a last word is due the same.

    abbrev IsSameNow : MessageName → Type 0
    IsSameNow m = (number id : ℕ) (rest : List ℕ) → answered_with (own_at plan old.moment m) (replies_in old m) number id rest ≡ answered_with (own_at plan new.moment m) (R m) number id rest

    said_same : (n : ClientNo) (i : ℕ) → AnswerStays (own_at plan old.moment (record { client = n; ordinal = suc i })) (replies_in old (record { client = n; ordinal = suc i }))
        (own_at plan new.moment (record { client = n; ordinal = suc i })) (R (record { client = n; ordinal = suc i }))
        → is_said setup plan (replies_in old) old.moment n (suc i) ≡ true → IsSameNow (record { client = n; ordinal = suc i })
    said_same n i stay said =
        let m : MessageName = record { client = n; ordinal = suc i } in
        same_on (own_at plan old.moment m) (own_at plan new.moment m) (replies_in old m) (R m) stay said

    left_same : (m : MessageName) → IsLeftAt old m → IsSameNow m
    left_same m left =
        let later_left = left_on m left in
        none_on (own_at plan old.moment m) (own_at plan new.moment m) (replies_in old m) (R m) left.own left.unheard later_left.own later_left.unheard

    same_each : (x : Client) → IsSettled old x → IsLast old x.number x.taken → AnswersStay t old new x → (i : ℕ) → suc i ≤ x.taken → IsSameNow (name_of x (suc i))
    same_each x settled last stay i below = by_test (nat_le (suc (suc i)) x.taken) refl where
      by_last : x.taken ≡ suc i → IsLast old x.number x.taken → IsSameNow (name_of x (suc i))
      by_last same (inl said) = said_same x.number i (stay i below) (subst (λ k. is_said setup plan (replies_in old) old.moment x.number k ≡ true) same said)
      by_last same (inr left) = left_same (name_of x (suc i)) (subst (λ k. IsLeftAt old (name_of x k)) same left)

      by_test : (b : Bool) → nat_le (suc (suc i)) x.taken ≡ b → IsSameNow (name_of x (suc i))
      by_test true more = said_same x.number i (stay i below) (settled.said (suc i) (leb-true (suc (suc i)) x.taken more))
      by_test false none = (let few : x.taken < suc (suc i) = leb-false (suc (suc i)) x.taken none in by_last (omega (arith, few, below)) last)

    abbrev with_it : Client → (number : ClientNo) → Port → (salt read : List ℕ) → (taken : ℕ) → LastWord → List ℕ
    with_it x number port salt read taken word =
        with_word (talk_of plan (record x { number = number; port = port; salt = salt; read = read; taken = taken }))
        (due_until R plan new.moment (record x { number = number; port = port; salt = salt; read = read; taken = taken })) (Some word)

    same_word : (x y : Client) (word : LastWord) → IsCounted setup plan R new.moment IsNew x y → IsHeard x y → IsSettled old x → AnswersStay t old new x
        → word_at plan old.moment x.number ≡ Some word
        → with_word (talk_of plan x) (until_in t old x) (Some word) ≡ with_word (talk_of plan y) (until_in t new y) (Some word)
    same_word x y word counted heard settled stay is =
        let found = word_then old.moment (plan.words x.number) word is in
        let taken : y.taken ≡ x.taken = counted.still (ended_by x.number word found.0 found.1) in
        ap (λ xs. with_word (talk_of plan x) xs (Some word))
        (until_same plan old.moment new.moment (replies_in old) R x (same_each x settled (settled.last word is) stay))
        ∙ sym (λ i. with_it y (counted.number i) (heard.port i) (heard.salt i) (heard.read word is i) (taken i) word)

    itself : (xs ys : List ℕ) → xs ≡ ys → IsFront xs ys
    itself xs ys same = record { rest = []; is = append-nil xs ∙ same }

    -- To whom one is said now is due more.
    new_word : (x y : Client) (word : LastWord) → y.link ≡ x.link → IsNamed before x → IsLastWord t (before ++ e ∷ []) there e y word → WaitsThere t before y
        → plan.words y.number ≡ Some word → word.from ≡ entry_now there
        → IsFront (until_in t old x) (until_in t new y) → IsFront (until_in t old x) (with_word (talk_of plan y) (until_in t new y) (Some word))
    new_word x y word link named right waits planned from goes = by_place word.place refl where
      by_place : (p : WordPlace) → word.place ≡ p → IsFront (until_in t old x) (word_in (talk_of plan y) (until_in t new y) p word.payloads)
      by_place Alone is =
          absurd (not_turned t (before ++ e ∷ []) there (while_ending t there e) e y word.place word.payloads (not_accepted before e at.fits.0 x y named link) right.why is)
      by_place ForLogin is =
          let opening = waits word planned from is in
          front-trans (until_in t old x) (until_in t new y) _ goes (login_front plan new.moment R y opening.0 opening.1 word.payloads)
      by_place Behind is =
          front-trans (until_in t old x) (until_in t new y) _ goes (record { rest = spellings (id_of_answer (messages_of (talk_of plan y)).rest) word.payloads; is = refl })

    words_one : (x y : Client) → IsCounted setup plan R new.moment IsNew x y → IsHeard x y → IsSettled old x → AnswersStay t old new x
        → WordRight t (before ++ e ∷ []) there (now.next t there e) e y → WaitsThere t before y → IsNamed before x → IsFront (until_in t old x) (until_in t new y)
        → (o p : Option LastWord) → word_at plan old.moment x.number ≡ o → word_at plan new.moment y.number ≡ p
        → GoesOnWith o p (with_word (talk_of plan x) (until_in t old x) o) (with_word (talk_of plan y) (until_in t new y) p)
    words_one x y counted heard settled stay right waits named goes None None was is = tt
    words_one x y counted heard settled stay right waits named goes None (Some word) was is =
        let found = word_then new.moment (plan.words y.number) word is in
        let least : old.moment < word.from = word_later old.moment (plan.words x.number) word (ap plan.words (sym counted.number) ∙ found.0) was in
        let most : word.from ≤ new.moment = found.1 in
        let count : there.tale.moment ≡ old.moment = ap (λ (z : Tale). z.moment) there_is in
        new_word x y word heard.link named (word_here y word right found.0 most least) waits found.0 (omega (arith, most, least, moments, count)) goes
    words_one x y counted heard settled stay right waits named goes (Some word) None was is =
        let found = word_then old.moment (plan.words x.number) word was in
        let early : word.from ≤ old.moment = found.1 in
        no_some word (sym is ∙ word_by new.moment (plan.words y.number) word (ap plan.words counted.number ∙ found.0) (omega (arith, early, moments)))
    words_one x y counted heard settled stay right waits named goes (Some word) (Some other) was is =
        let found = word_then old.moment (plan.words x.number) word was in
        let later_word = word_then new.moment (plan.words y.number) other is in
        let same : word ≡ other = some_of word other (sym found.0 ∙ ap plan.words (sym counted.number) ∙ later_word.0) in
        subst (λ z. IsFront (with_word (talk_of plan x) (until_in t old x) (Some word)) (with_word (talk_of plan y) (until_in t new y) (Some z))) same
        (itself _ _ (same_word x y word counted heard settled stay was))

    words_all : (xs ys : List Client) → AreCountedNow xs ys → AreHeard xs ys → Each (IsSettled old) xs → AllOf (AnswersStay t old new) xs
        → AllOf (WordRight t (before ++ e ∷ []) there (now.next t there e) e) ys → Each (WaitsThere t before) ys → Each (IsNamed before) xs
        → GoOn (until_in t old) (until_in t new) xs ys → WordsGoOn t old new xs ys
    words_all [] ys counted heard settled stay right waits named goes = tt
    words_all (x ∷ xs) [] counted heard settled stay right waits named goes = tt
    words_all (x ∷ xs) (y ∷ ys) counted heard settled stay right waits named goes = (
      words_one x y counted.0 heard.0 settled.0 stay.0 right.0 waits.0 named.0 goes.0 (word_at plan old.moment x.number) (word_at plan new.moment y.number) refl refl,
      words_all xs ys counted.1 heard.1 settled.1 stay.1 right.1 waits.1 named.1 goes.1,
    )

    behind_so : Each (IsSettled old) old.clients → IsBehind setup plan R new.moment IsNew old e
    behind_so settled = behind setup plan old e IsNew (comes_new e) (saids old.clients settled stays)

    go_on : IsOurs fixed before e → Each (IsSettled old) old.clients → WordsGoOn t old new old.clients new.clients
    go_on ours settled =
        words_all old.clients new.clients (behind_so settled).counted (heard_now ours) settled stays words logins
        (subst (λ (x : Tale). Each (IsNamed before) x.clients) (sym old_is) (named_at fixed before)) on

    pub words_there : IsOurs fixed before e → Each (IsSettled old) old.clients → WordsGoOnSo t before e
    words_there ours settled = subst (λ (x : Tale). WordsGoOn t old x old.clients x.clients) (sym new_is) (go_on ours settled)

    pub settled_there : Each (IsSettled old) old.clients → Each (IsSettled (tale_at t (before ++ e ∷ []))) (tale_at t (before ++ e ∷ [])).clients
    settled_there settled =
        subst (λ (x : Tale). Each (IsSettled x) x.clients) (sym new_is)
        (all_settled old.clients new.clients (behind_so settled).counted (behind_so settled).said words settled stays)

  words_from : (before later : Log) → before ++ later ≡ log → LawfulAfter Fits [] before → LawfulAfter Fits before later → LawfulAfter (IsOurs fixed) before later
      → Each (IsSettled (tale_at t before)) (tale_at t before).clients → LawfulAfter (WordsGoOnSo t) before later
  words_from before [] is so_far fits ours settled = tt
  words_from before (e ∷ later) is so_far fits ours settled =
      let at : IsAt log before e later = record { is = is; so_far = so_far; fits = fits } in (
        words_there before later e at ours.0 settled,
        words_from (before ++ e ∷ []) later (append_assoc before (e ∷ []) later ∙ is) (lawful-more Fits before e so_far fits.0) fits.1 ours.1 (settled_there before later e at settled),
      )

  pub words_kept : AllLawful (WordsGoOnSo t) log
  words_kept = words_from [] log refl tt our.fits our.ours tt
