-- Clients end where they must, and for a cause.
use Rattle.std.specs.Prelude.{◌≡◌, ◌+◌, ◌<◌, ◌≤◌, ◌⊎◌, ℕ, suc, Bool, true, false, ◌&&◌, ◌||◌, All, fold, nat_eq, if◌then◌else◌, unwrap_or, [], ◌∷◌, ◌++◌, Option, Some, None}
use Rattle.std.specs.Option.{option_and_then, option_map_or, option_or}
use Rattle.std.proofs.Common.{refl, sym, ap, ◌∙◌, subst, append_assoc, arith, inl, inr}
use Rattle.std.proofs.lemmas.Bool.{and_from, and_parts, eq-eqb, le-leb, or_cases, or_left, or_right}
use Rattle.mx_wire.specs.Log.{Log}
use Rattle.mx_wire.specs.Moments.{LawfulAfter}
use Rattle.mx_wire.specs.declared.entry.Entry.{Entry}
use Rattle.private_model.specs.Names.{ClientNo}
use Rattle.private_model.specs.View.{Setup}
use Rattle.log_story.specs.Owed.{name_of}
use Rattle.log_story.specs.Plan.{LastWord, OwnAnswer, Plan, is_before, is_by_now}
use Rattle.log_story.specs.Tale.{Client, Tale}
use Rattle.tale_world.specs.Decided.{Agrees, plan_of}
use Rattle.tale_world.specs.Deciding.{Deciding, World}
use Rattle.tale_world.specs.World.{ended_now, is_ended}
use Rattle.tale_world.proofs.Following.{step_even}
use Rattle.router_promises.proofs.Saying.{now-tale}
use Rattle.router_promises.specs.Closes.{was_starved}
use Rattle.router_promises.specs.Ends.{EndsRight, buffers_word, is_accepted, may_end, must_end}
use Rattle.router_promises.specs.Errors.{out_of_memory}
use Rattle.router_promises.specs.Now as now
use Rattle.router_promises.specs.Now.{Now, entry_now, now_at, while_ending}
use Rattle.router_promises.specs.Terms.{Terms, tale_at}
use Rattle.router_promises.specs.Uses.{error_code}
use Rattle.shared_router.specs.Ends.{Ending, away_word, client_at, ending_of, goes, has_too_much, is_refused_now, is_starved, is_turned_away, left_word, may_say_starved, must_go, says_last, told_starved, was_left, was_told_starved, word_to, words_by}
use Rattle.shared_router.specs.Fixed.{Fixed, IsNumbered, setup_of}
use Rattle.shared_router.specs.Judged.{EndsFor}
use Rattle.shared_router.specs.More.{More}
use Rattle.shared_router.specs.Shared.{final_terms, shared, world_at}
use Rattle.shared_router.proofs.Ending.{agrees-ended}
use Rattle.shared_router.proofs.Looked.{IsLooked, each-all, each-so, ending-clients, freeing-clients, going-looks, looks_at}
use Rattle.shared_router.proofs.Musts.{IsEnding, ending-so, ending_world, last_plan, must-same}
use Rattle.shared_router.proofs.Single.{IsAlone, both-each, counts_at, each-alone, going-counts}
use Rattle.shared_router.proofs.Parting as parting
use Rattle.shared_router.proofs.Parting.{even_at, fold_more, next, tale_then, world_more}
use Rattle.shared_router.proofs.Routing.{agrees_behind}
use Rattle.shared_router.proofs.Since.{going-moment, log-since, step-moment}
use Rattle.shared_router.proofs.Worded.{ended-same-ends, going-same-ends, parted_at, turned-goes}

-- what is decided of an end
ended-so : (moment : ℕ) (ends : Bool) (old : Option ℕ) (at : ℕ) → ended_now moment ends old ≡ Some at → (old ≡ Some at) ⊎ ((old ≡ None) × (ends ≡ true))
ended-so moment true None at is = inr (refl, refl)
ended-so moment true (Some n) at is = inl is
ended-so moment false old at is = inl is

ends-at : (moment : ℕ) (old : Option ℕ) → ((n : ℕ) → old ≡ Some n → n ≤ moment) → (n : ℕ) × ((ended_now moment true old ≡ Some n) × (n ≤ moment))
ends-at moment None early = (moment, (refl, omega arith))
ends-at moment (Some n) early = (n, (refl, early n refl))

none-at : {A : Type 0} (n : ℕ) → None ≡ Some n → A
none-at n is = absurd (cc)

isnt : {A : Type 0} → false ≡ true → A
isnt is = absurd (cc)

module _ (fixed : Fixed) (numbered : IsNumbered fixed) (before later : Log) (e : Entry) where
  abbrev setup : Setup
  setup = setup_of fixed

  abbrev by : Deciding More
  by = shared fixed

  abbrev log : Log
  log = before ++ e ∷ later

  abbrev t : Terms
  t = final_terms fixed log

  abbrev plan : Plan
  plan = last_plan fixed numbered log

  abbrev w : World More
  w = world_at fixed before

  abbrev d : World More
  d = ending_world fixed numbered before e

  abbrev f : World More
  f = is_ended by d e

  abbrev x : Ending
  x = ending_of fixed d e

  abbrev there : Now
  there = now_at t before

  abbrev behind : Now
  behind = now.next t there e

  pub so : IsEnding fixed numbered before e log
  so = ending-so fixed numbered before later e log refl

  pub moment-so : d.tale.moment ≡ suc w.tale.moment
  moment-so = going-moment fixed w e (even_at fixed before)

  pub entry-so : entry_now there ≡ d.tale.moment
  entry-so = (let one : w.tale.moment + 1 ≡ suc w.tale.moment = omega arith in ap (λ (tale : Tale). tale.moment + 1) so.was ∙ one ∙ sym moment-so)

  pub x-entry : entry_now x.now ≡ d.tale.moment
  x-entry = (let one : w.tale.moment + 1 ≡ suc w.tale.moment = omega arith in ap (λ (n : Now). entry_now n) so.known ∙ one ∙ sym moment-so)

  pub on_f : Agrees f.decided d.tale.moment plan
  on_f = agrees-ended fixed numbered w e plan (agrees_behind fixed numbered before later e log refl)

  -- what was decided before is of earlier entries

  pub ends-early : (c : ClientNo) (n : ℕ) → d.decided.ends c ≡ Some n → n < d.tale.moment
  ends-early c n is =
      let now_d = moment-so in
      elim ((log-since fixed before (parting.first fixed) refl).ends c n (ap (λ g. g c) (sym (going-same-ends fixed w e).ends) ∙ is)) [
        | inl none ↦ none-at n none
        | inr within ↦ omega (arith, within.1, now_d)
      ]

  pub words-early : (c : ClientNo) (word : LastWord) → d.decided.words c ≡ Some word → word.from < d.tale.moment
  words-early c word is =
      let now_d = moment-so in
      elim ((log-since fixed before (parting.first fixed) refl).words c word (ap (λ g. g c) (sym (going-same-ends fixed w e).words) ∙ is)) [
        | inl none ↦ absurd (cc)
        | inr within ↦ omega (arith, within.1, now_d)
      ]

  -- who wasn't ended has no last word
  pub no-word-yet : (c : ClientNo) → d.decided.ends c ≡ None → d.decided.words c ≡ None
  no-word-yet c none = by_word (d.decided.words c) refl where
    by_word : (o : Option LastWord) → d.decided.words c ≡ o → o ≡ None
    by_word None is = refl
    by_word (Some word) is =
        let kept = going-same-ends fixed w e in
        let has = parted_at fixed before c word (ap (λ g. g c) (sym kept.words) ∙ is) in
        none-at has.0 (sym none ∙ ap (λ g. g c) kept.ends ∙ has.1)

  -- a word that is decided at this entry is the last plan's
  pub word-kept : (c : ClientNo) (word : LastWord) → f.decided.words c ≡ Some word → plan.words c ≡ Some word
  word-kept c word is =
      let g : World More = next fixed w e in
      let last = log-since fixed later g (step_even setup by w e) in
      let world : world_at fixed log ≡ fold (next fixed) g later = world_more fixed before (e ∷ later) in
      ap (λ (v : World More). v.decided.words c) world ∙ last.said c word (ap (λ h. h c) (ended-same-ends fixed w e).words ∙ is)

  module _ (client : Client) (looked : IsLooked d.decided client) (alone : IsAlone d.tale.clients client) where
    abbrev c : ClientNo
    c = client.number

    pub ends-same : by.ends d e c ≡ goes x client
    ends-same = alone.any (goes x)

    -- one that goes is ended by now
    pub goes-ends : goes x client ≡ true → (n : ℕ) × ((plan.ends c ≡ Some n) × (n ≤ d.tale.moment))
    goes-ends going =
        let ended = ends-at d.tale.moment (d.decided.ends c) (λ n is. (let early = ends-early c n is in omega (arith, early))) in
        (ended.0, (on_f.ended c ended.0 (ap (λ b. ended_now d.tale.moment b (d.decided.ends c)) (ends-same ∙ going) ∙ ended.1.0), ended.1.1))

    -- one that ends at this entry goes
    ends-goes : plan.ends c ≡ Some d.tale.moment → (d.decided.ends c ≡ None) × (goes x client ≡ true)
    ends-goes planned = by_end (f.decided.ends c) refl where
      by_end : (o : Option ℕ) → f.decided.ends c ≡ o → (d.decided.ends c ≡ None) × (goes x client ≡ true)
      by_end None is = (let late : d.tale.moment < d.tale.moment = on_f.going c d.tale.moment is planned in absurd (omega (arith, late)))
      by_end (Some n) is =
          let same : n ≡ d.tale.moment = (let two : Some n ≡ Some d.tale.moment = sym (on_f.ended c n is) ∙ planned in cc) in
          elim (ended-so d.tale.moment (by.ends d e c) (d.decided.ends c) n is) [
            | inl old ↦ (let early : n < d.tale.moment = ends-early c n old in absurd (omega (arith, early, same)))
            | inr new ↦ (new.0, sym ends-same ∙ new.1)
          ]

    -- the last word to it at this entry
    pub word-so : (word : LastWord) → d.decided.ends c ≡ None → word_to x client ≡ Some word → plan.words c ≡ Some word
    word-so word none said =
        word-kept c word (ap (λ o. option_or o (words_by x c)) (no-word-yet c none)
        ∙ ap (λ o. if is_before d.tale.moment o then None else option_and_then (word_to x) (client_at x c)) none
        ∙ ap (option_and_then (word_to x)) alone.found ∙ said)

    said-now : (word : LastWord) → word.from ≡ entry_now x.now → plan.words c ≡ Some word
        → option_map_or (λ (word : LastWord). nat_eq word.from (entry_now there)) (plan.words c) false ≡ true
    said-now word at said =
        ap (λ (o : Option LastWord). option_map_or (λ (word : LastWord). nat_eq word.from (entry_now there)) o false) said
        ∙ eq-eqb word.from (entry_now there) (at ∙ x-entry ∙ sym entry-so)

    -- its last message was given up, since there is no memory
    told-may : was_told_starved x client ≡ true → was_starved t (entry_now there) client ≡ true
    told-may told = by_own (d.decided.own (name_of client client.taken)) refl told where
      abbrev_own : Option (Option OwnAnswer) → Bool
      abbrev_own o = option_map_or (told_starved x) (unwrap_or o None) false

      by_own : (o : Option (Option OwnAnswer)) → d.decided.own (name_of client client.taken) ≡ o
          → option_map_or (told_starved x) (unwrap_or (d.decided.own (name_of client client.taken)) None) false ≡ true
          → was_starved t (entry_now there) client ≡ true
      by_own None is told = isnt (sym (ap abbrev_own is) ∙ told)
      by_own (Some None) is told = isnt (sym (ap abbrev_own is) ∙ told)
      by_own (Some (Some answer)) is told =
          let planned : plan.own (name_of client client.taken) ≡ Some answer = so.agrees.answered (name_of client client.taken) answer is in
          let here : told_starved x answer ≡ true = sym (ap abbrev_own is) ∙ told in
          or_left _ _ (ap (λ (o : Option OwnAnswer). option_map_or (λ (a : OwnAnswer). nat_eq a.from (entry_now there) && nat_eq (error_code a.payloads) 9199) o false) planned
          ∙ ap (λ k. nat_eq answer.from k && nat_eq (error_code answer.payloads) 9199) (entry-so ∙ sym x-entry) ∙ here)

    -- Why it may end.

    abbrev word_there : Bool
    word_there = option_map_or (λ (word : LastWord). nat_eq word.from (entry_now there)) (plan.words c) false

    by-word : word_there ≡ true → may_end t there e client ≡ true
    by-word is = or_right (is_accepted e client) _ (or_right (was_starved t (entry_now there) client) word_there is)

    by-told : was_starved t (entry_now there) client ≡ true → may_end t there e client ≡ true
    by-told is = or_right (is_accepted e client) _ (or_left (was_starved t (entry_now there) client) word_there is)

    pub must-not-away : must_go x client ≡ false → is_turned_away x client ≡ false
    must-not-away none = by_test (is_turned_away x client) refl where
      by_test : (b : Bool) → is_turned_away x client ≡ b → b ≡ false
      by_test false is = refl
      by_test true is = isnt (sym none ∙ turned-goes x client is)

    -- the word that it has, where its last message was left, or it needn't go

    abbrev is_left_now : Bool
    is_left_now = is_refused_now x client && was_left x client

    abbrev starving : Bool
    starving = is_refused_now x client && may_say_starved x client

    word_by : (left away must much starved : Bool) → Option LastWord
    word_by left away must much starved =
        if left then Some (left_word x) else if away then Some (away_word x) else if must then None
        else if much then Some (says_last x client (buffers_word x.terms x.ending client))
        else if starved then Some (says_last x client out_of_memory) else None

    word-is : (left away must much starved : Bool) → is_left_now ≡ left → is_turned_away x client ≡ away → must_go x client ≡ must → has_too_much x client ≡ much
        → starving ≡ starved → word_to x client ≡ word_by left away must much starved
    unfolding word_by
    word-is left away must much starved l a m h s =
        ap (λ b. word_by b (is_turned_away x client) (must_go x client) (has_too_much x client) starving) l
        ∙ ap (λ b. word_by left b (must_go x client) (has_too_much x client) starving) a
        ∙ ap (λ b. word_by left away b (has_too_much x client) starving) m
        ∙ ap (λ b. word_by left away must b starving) h
        ∙ ap (λ b. word_by left away must much b) s

    left-is : is_left_now ≡ true → word_to x client ≡ Some (left_word x)
    unfolding word_by
    left-is is = word-is true (is_turned_away x client) (must_go x client) (has_too_much x client) starving is refl refl refl refl

    -- where it ends at this entry, the word is said
    pub left-said : plan.ends c ≡ Some d.tale.moment → is_left_now ≡ true → plan.words c ≡ Some (left_word x)
    left-said planned is = word-so (left_word x) (ends-goes planned).0 (left-is is)

    abbrev HasWord : Type 0
    HasWord = (word : LastWord) × ((word_to x client ≡ Some word) × (word.from ≡ entry_now x.now))

    word-else : (left much starved : Bool) → is_left_now ≡ left → must_go x client ≡ false → has_too_much x client ≡ much
        → starving ≡ starved → (left || (much || starved)) ≡ true → HasWord
    unfolding word_by
    word-else true much starved l m h s some = (left_word x, (left-is l, refl))
    word-else false true starved l m h s some =
        (says_last x client (buffers_word x.terms x.ending client), (word-is false false false true starved l (must-not-away m) m h s, refl))
    word-else false false true l m h s some =
        (says_last x client out_of_memory, (word-is false false false false true l (must-not-away m) m h s, refl))
    word-else false false false l m h s some = isnt some

    by-last : d.decided.ends c ≡ None → HasWord → may_end t there e client ≡ true
    by-last none has = by-word (said-now has.0 has.1.1 (word-so has.0 none has.1.0))

    either-true : (a b : Bool) → b ≡ true → (a || b) ≡ true
    either-true true b is = refl
    either-true false b is = is

    needless : must_go x client ≡ false → d.decided.ends c ≡ None → goes x client ≡ true → may_end t there e client ≡ true
    needless m none going =
        let rest : (has_too_much x client || is_starved x client) ≡ true = ap (λ b. b || (has_too_much x client || is_starved x client)) (sym m) ∙ going in
        elim (or_cases (has_too_much x client) (is_starved x client) rest) [
          | inl much ↦ said (or_right is_left_now _ (or_left (has_too_much x client) starving much))
          | inr starved ↦ (
              let parts = and_parts (is_refused_now x client) _ starved in
              elim (or_cases (is_accepted e client) _ parts.1) [
                | inl accepted ↦ or_left (is_accepted e client) _ accepted
                | inr other ↦ elim (or_cases (was_told_starved x client) _ other) [
                  | inl told ↦ by-told (told-may told)
                  | inr more ↦ elim (or_cases (was_left x client) (may_say_starved x client) more) [
                    | inl left ↦ said (or_left is_left_now _ (and_from (is_refused_now x client) (was_left x client) parts.0 left))
                    | inr says ↦ said (or_right is_left_now _ (or_right (has_too_much x client) starving (and_from (is_refused_now x client) (may_say_starved x client) parts.0 says)))
                  ]
                ]
              ]
              )
        ]
      where
        said : (is_left_now || (has_too_much x client || starving)) ≡ true → may_end t there e client ≡ true
        said some = by-last none (word-else is_left_now (has_too_much x client) starving refl m refl refl some)

    may-right : plan.ends c ≡ Some (entry_now there) → (must_end t (before ++ e ∷ []) there (while_ending t there e) e client || may_end t there e client) ≡ true
    may-right planned = by_must (must_go x client) refl where
      by_must : (must : Bool) → must_go x client ≡ must → (must_end t (before ++ e ∷ []) there (while_ending t there e) e client || may_end t there e client) ≡ true
      by_must true is = or_left _ (may_end t there e client) (must-same fixed numbered before e log so client looked ∙ is)
      by_must false is =
          let ended = ends-goes (planned ∙ ap (λ n. Some n) entry-so) in
          either-true (must_end t (before ++ e ∷ []) there (while_ending t there e) e client) (may_end t there e client) (needless is ended.0 ended.1)

    must-right : behind.tale.moment ≡ d.tale.moment → must_end t (before ++ e ∷ []) there (while_ending t there e) e client ≡ true
        → is_by_now behind.tale.moment (plan.ends c) ≡ true
    must-right now_so must =
        let going : goes x client ≡ true = or_left (must_go x client) _ (sym (must-same fixed numbered before e log so client looked) ∙ must) in
        let ended = goes-ends going in
        ap (is_by_now behind.tale.moment) ended.1.0 ∙ le-leb ended.0 behind.tale.moment (omega (arith, ended.1.1, now_so))

    ends-right : behind.tale.moment ≡ d.tale.moment → EndsRight t (before ++ e ∷ []) there behind e client
    ends-right now_so = record { must = must-right now_so; may = may-right }

  -- Each client of the tale behind the entry.

  pub behind-tale : behind.tale ≡ (next fixed w e).tale
  behind-tale =
      let step : now_at t (before ++ e ∷ []) ≡ behind = fold_more (now.next t) before (e ∷ []) (now.at_first t) in
      ap (λ (n : Now). n.tale) (sym step) ∙ now-tale t (before ++ e ∷ [])
      ∙ subst (λ l. tale_at (final_terms fixed l) (before ++ e ∷ []) ≡ (world_at fixed (before ++ e ∷ [])).tale) (append_assoc before (e ∷ []) later) (tale_then fixed (before ++ e ∷ []) later)
      ∙ ap (λ (v : World More). v.tale) (world_more fixed before (e ∷ []))

  pub behind-clients : behind.tale.clients ≡ d.tale.clients
  behind-clients =
      ap (λ (tale : Tale). tale.clients) behind-tale ∙ freeing-clients fixed f.tale.links f ∙ ending-clients (plan_of f.decided) d.tale.clients d.tale

  pub behind-moment : behind.tale.moment ≡ d.tale.moment
  behind-moment = ap (λ (tale : Tale). tale.moment) behind-tale ∙ step-moment fixed w e (even_at fixed before) ∙ sym moment-so

  pub ends-there : All (EndsRight t (before ++ e ∷ []) there behind e) behind.tale.clients
  ends-there =
      subst (All (EndsRight t (before ++ e ∷ []) there behind e)) (sym behind-clients)
      (each-all (EndsRight t (before ++ e ∷ []) there behind e) d.tale.clients
      (each-so (λ (client : Client). IsLooked d.decided client × IsAlone d.tale.clients client) (EndsRight t (before ++ e ∷ []) there behind e) d.tale.clients
      (λ client both. ends-right client both.0 both.1 behind-moment)
      (both-each (IsLooked d.decided) (IsAlone d.tale.clients) d.tale.clients (going-looks fixed w e (even_at fixed before) (looks_at fixed before))
      (each-alone 1 d.tale.clients (going-counts fixed w e (counts_at fixed before))))))

-- along a log

ends-from : (fixed : Fixed) → IsNumbered fixed → (before later whole : Log) → before ++ later ≡ whole → LawfulAfter (EndsFor (final_terms fixed whole)) before later
ends-from fixed numbered before [] whole is = tt
ends-from fixed numbered before (e ∷ later) whole is = (
  subst (λ l. EndsFor (final_terms fixed l) before e) is (ends-there fixed numbered before later e),
  ends-from fixed numbered (before ++ e ∷ []) later whole (append_assoc before (e ∷ []) later ∙ is),
)

pub ends-along : (fixed : Fixed) → IsNumbered fixed → (whole : Log) → LawfulAfter (EndsFor (final_terms fixed whole)) [] whole
ends-along fixed numbered whole = ends-from fixed numbered [] whole whole refl
