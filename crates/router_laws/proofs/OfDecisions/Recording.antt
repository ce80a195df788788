-- With an entry's deeds more is decided, and just what the longer log asks for.
use Rattle.std.specs.Prelude.{◌≡◌, ◌⊎◌, ◌+◌, ◌&&◌, ℕ, suc, Bool, true, false, is_some, nat_eq, if◌then◌else◌, length, List, [], ◌∷◌, Option, Some, None}
use Rattle.std.specs.Option.{option_map, option_or}
use Rattle.std.proofs.Common.{refl, ap, ◌∙◌, arith, inl, inr, length-append}
use Rattle.std.proofs.lemmas.Bool.{eq-eqb, eqb-true}
use Rattle.mx_wire.specs.Log.{Log}
use Rattle.mx_wire.specs.declared.entry.Entry.{Entry}
use Rattle.private_model.specs.Names.{ClientNo, MessageName}
use Rattle.log_story.specs.Plan.{LastWord, OwnAnswer, StepText}
use Rattle.tale_world.specs.Decided.{Decided}
use Rattle.core_laws.specs.entry.Cores.{with_entry}
use Rattle.core_laws.specs.entry.Grows.{IsAnsweredLater, IsEndedLater, IsMoreBy, IsToldLater}
use Rattle.router_laws.proofs.OfDecisions.Fates.{false_true}
use Rattle.router_laws.specs.decisions.Deeds.{Counts, Deeds, Fate, Word, begun_at, decided_by, ends_in, fate_at, given_at, given_with, login_at, own_with, said_at, step_with, word_with}
use Rattle.router_laws.specs.decisions.Records.{IsRecorded}

pub one_more : (log : Log) (e : Entry) → length (with_entry log e) ≡ suc (length log)
one_more log e = let size : length (with_entry log e) ≡ length log + length (e ∷ []) = length-append log (e ∷ []) in omega (arith, size)

-- What was decided stays.

pub or_stays : {A : Type 0} (was : Option A) (more : Option A) (x : A) → was ≡ Some x → option_or was more ≡ Some x
or_stays was more x is = ap (λ o. option_or o more) is

-- what isn't there yet is what comes
pub or_new : {A : Type 0} (was : Option A) (more : Option A) → was ≡ None → option_or was more ≡ more
or_new was more none = ap (λ o. option_or o more) none

module _ (deeds : Deeds) (n : Counts) (now : ℕ) where
  given_none : (payload : Option (List ℕ)) → given_with now payload None ≡ None
  given_none None = refl
  given_none (Some payload) = refl

  given_some : (payload : Option (List ℕ)) (answer : OwnAnswer) → given_with now payload (Some (Some answer)) ≡ Some (Some answer)
  given_some None answer = refl
  given_some (Some payload) answer = refl

  -- what isn't decided is the fate of its turns
  pub own_new : (m : MessageName) (was : Option (Option OwnAnswer)) → was ≡ None
      → own_with now deeds n m was ≡ option_map (λ (fate : Fate). fate.own) (fate_at deeds n m)
  own_new m was none =
      ap (λ (o : Option (Option OwnAnswer)). option_or o (option_map (λ (fate : Fate). fate.own) (fate_at deeds n m)))
      (ap (given_at deeds n now m) none ∙ by (nat_eq m.ordinal (n.taken m.client))) where
        by : (b : Bool) → (if b then given_with now (deeds.given m.client) None else None) ≡ None
        by true = given_none (deeds.given m.client)
        by false = refl

  -- an answer stays
  pub own_stays : (m : MessageName) (was : Option (Option OwnAnswer)) (answer : OwnAnswer) → was ≡ Some (Some answer)
      → own_with now deeds n m was ≡ Some (Some answer)
  own_stays m was answer is =
      ap (λ (o : Option (Option OwnAnswer)). option_or o (option_map (λ (fate : Fate). fate.own) (fate_at deeds n m)))
      (ap (given_at deeds n now m) is ∙ by (nat_eq m.ordinal (n.taken m.client))) where
        by : (b : Bool) → (if b then given_with now (deeds.given m.client) (Some (Some answer)) else Some (Some answer)) ≡ Some (Some answer)
        by true = given_some (deeds.given m.client) answer
        by false = refl

  -- a message without one is given up, or stays so

  abbrev pub up_with : (payload : List ℕ) → OwnAnswer
  up_with payload = record { from = now; payloads = payload ∷ [] }

  pub own_given : (m : MessageName) (was : Option (Option OwnAnswer)) (payload : List ℕ) → was ≡ Some None → m.ordinal ≡ n.taken m.client
      → deeds.given m.client ≡ Some payload → own_with now deeds n m was ≡ Some (Some (up_with payload))
  own_given m was payload is last gives =
      ap (λ (o : Option (Option OwnAnswer)). option_or o (option_map (λ (fate : Fate). fate.own) (fate_at deeds n m)))
      (ap (given_at deeds n now m) is
      ∙ ap (λ (b : Bool). if b then given_with now (deeds.given m.client) (Some None) else Some None) (eq-eqb m.ordinal (n.taken m.client) last)
      ∙ ap (λ (p : Option (List ℕ)). given_with now p (Some None)) gives)

  pub own_open : (m : MessageName) (was : Option (Option OwnAnswer)) → was ≡ Some None
      → (is_some (deeds.given m.client) && nat_eq m.ordinal (n.taken m.client)) ≡ false → own_with now deeds n m was ≡ Some None
  own_open m was is unless =
      ap (λ (o : Option (Option OwnAnswer)). option_or o (option_map (λ (fate : Fate). fate.own) (fate_at deeds n m)))
      (ap (given_at deeds n now m) is ∙ by (nat_eq m.ordinal (n.taken m.client)) (deeds.given m.client) unless) where
        by : (b : Bool) (payload : Option (List ℕ)) → (is_some payload && b) ≡ false
            → (if b then given_with now payload (Some None) else Some None) ≡ Some None
        by false payload e = refl
        by true None e = refl
        by true (Some payload) e = false_true true e refl

  -- either way
  pub own_later : (m : MessageName) (was : Option (Option OwnAnswer)) → was ≡ Some None
      → (own_with now deeds n m was ≡ Some None) ⊎ (payload : List ℕ) × (own_with now deeds n m was ≡ Some (Some (up_with payload)))
  own_later m was is = by (deeds.given m.client) (nat_eq m.ordinal (n.taken m.client)) refl refl where
    by : (given : Option (List ℕ)) (b : Bool) → deeds.given m.client ≡ given → nat_eq m.ordinal (n.taken m.client) ≡ b
        → (own_with now deeds n m was ≡ Some None) ⊎ (payload : List ℕ) × (own_with now deeds n m was ≡ Some (Some (up_with payload)))
    by None b gives last = inl (own_open m was is (ap (λ (p : Option (List ℕ)). is_some p && nat_eq m.ordinal (n.taken m.client)) gives))
    by (Some payload) true gives last = inr (payload, own_given m was payload is (eqb-true m.ordinal (n.taken m.client) last) gives)
    by (Some payload) false gives last =
        inl (own_open m was is (λ i. is_some (gives i) && last i))

module _ (d : Decided) (n : Counts) (log : Log) (e : Entry) (deeds : Deeds) (now : ℕ) (recorded : IsRecorded d n log) (later : suc (length log) ≡ now) where
  abbrev new : Decided
  new = decided_by deeds n log e now d

  -- More is decided.

  unanswered_then : (m : MessageName) → d.own m ≡ Some None → (new.own m ≡ Some None) ⊎ IsAnsweredLater (length log) (new.own m)
  unanswered_then m was = by (own_later deeds n now m (d.own m) was) where
    by : (new.own m ≡ Some None) ⊎ (payload : List ℕ) × (new.own m ≡ Some (Some (up_with deeds n now payload)))
        → (new.own m ≡ Some None) ⊎ IsAnsweredLater (length log) (new.own m)
    by (inl still) = inl still
    by (inr given) = inr (record { answer = up_with deeds n now given.0; is = given.1; later = omega (arith, later) })

  going_by : (c : ClientNo) (end : Option (Option Word)) → ends_in deeds c ≡ end → d.ends c ≡ None
      → (new.ends c ≡ None) ⊎ IsEndedLater d.until (new.ends c)
  going_by c None ends going = inl (λ i. option_or (going i) (option_map (λ (end : Option Word). now) (ends i)))
  going_by c (Some end) ends going =
      inr (record { at = now; is = λ i. option_or (going i) (option_map (λ (end : Option Word). now) (ends i)); later = omega (arith, later, recorded.until) })

  untold_by : (c : ClientNo) (at : Option ℕ) (end : Option (Option Word)) → d.words c ≡ None
      → (word_with now at end (d.words c) ≡ None) ⊎ IsToldLater (length log) (word_with now at end (d.words c))
  untold_by c (Some at) end untold = inl untold
  untold_by c None None untold = inl (or_new (d.words c) None untold)
  untold_by c None (Some None) untold = inl (or_new (d.words c) None untold)
  untold_by c None (Some (Some word)) untold =
      inr (record {
        word = record { from = now; place = word.place; payloads = word.payloads };
        is = or_new (d.words c) (said_at now (Some (Some word))) untold;
        later = omega (arith, later);
      })

  told_by : (c : ClientNo) (word : LastWord) (at : Option ℕ) → d.words c ≡ Some word → word_with now at (ends_in deeds c) (d.words c) ≡ Some word
  told_by c word (Some at) is = is
  told_by c word None is = or_stays (d.words c) (said_at now (ends_in deeds c)) word is

  step_stays : (begun : Option (Option StepText)) (at k : ℕ) (was : Option StepText) (step : StepText) → was ≡ Some step
      → step_with begun at k was ≡ Some step
  step_stays None at k was step is = is
  step_stays (Some more) at k was step is = by (nat_eq k at) where
    by : (b : Bool) → (if b then option_or was more else was) ≡ Some step
    by true = or_stays was more step is
    by false = is

  pub is_more : IsMoreBy (length log) d new
  is_more = record {
    service = refl;
    room = refl;
    until = omega (arith, later, recorded.until);
    logins = λ l login is. or_stays (d.logins l) (login_at e deeds l) login is;
    routes = λ m route is. or_stays (d.routes m) (option_map (λ (fate : Fate). fate.route) (fate_at deeds n m)) route is;
    steps = λ l k step is. step_stays (begun_at log e deeds l) (n.begun l) k (d.steps l k) step is;
    keys = λ k key is. is;
    answered = λ m answer is. own_stays deeds n now m (d.own m) answer is;
    unanswered = unanswered_then;
    ended = λ c at is. or_stays (d.ends c) (option_map (λ (end : Option Word). now) (ends_in deeds c)) at is;
    going = λ c going. going_by c (ends_in deeds c) refl going;
    told = λ c word is. told_by c word (d.ends c) is;
    untold = λ c untold. untold_by c (d.ends c) (ends_in deeds c) untold;
  }
