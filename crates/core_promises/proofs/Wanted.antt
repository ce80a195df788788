-- What is so of what goes to a server, by a verdict and by a draft.
use Rattle.std.specs.Prelude.{◌≡◌, Bool, true, false, [], ◌∷◌, Option, Some, None, if◌then◌else◌}
use Rattle.std.proofs.Common.{refl}
use Rattle.pin_classifier.specs.declared.class.Class.{Class}
use Rattle.pin_classifier.specs.declared.class.Refusal.{Refusal}
use Rattle.pin_classifier.specs.declared.class.Refusal.TheVariants as refusal
use Rattle.session_state.specs.Pins.{reads_own}
use Rattle.session_state.specs.declared.pin.Pin.{Pin}
use Rattle.private_model.specs.Names.{Hostgroup}
use Rattle.router_promises.specs.Errors as error
use Rattle.router_promises.specs.Verdicts.{Goes, Tells, Verdict, Wanted, is_connection_id}
use Rattle.message_judge.specs.Judging as judging

module _ (fact : Wanted → Type 0) where
  abbrev pub OfGoing : Verdict → Type 0
  OfGoing (Goes wanted) = fact wanted
  OfGoing _ = Unit {0}

  abbrev pub OfSending : judging.Draft → Type 0
  OfSending (judging.Sends class wanted) = fact wanted
  OfSending _ = Unit {0}

  -- of a draft, as it is admitted

  sent : (there : Bool) (wanted : Wanted) → fact wanted → OfGoing (judging.sent_unless there wanted)
  sent true wanted is = is
  sent false wanted is = tt

  admitted : (class : Option Class) (pin : Pin) (there : Bool) (wanted : Wanted) → fact wanted → OfGoing (judging.admitted class pin there wanted)
  admitted None pin there wanted is = sent there wanted is
  admitted (Some class) pin there wanted is = by (reads_own class pin) where
    by : (own : Bool) → OfGoing (if own then judging.sent_unless there wanted else Tells (error.diagnostics_gone ∷ []))
    by true = sent there wanted is
    by false = tt

  pub drafted : (pins : Hostgroup → Pin) (is_there : Hostgroup → Bool) (draft : judging.Draft) → OfSending draft
      → OfGoing (judging.verdict_by pins is_there draft)
  drafted pins is_there judging.Ends is = tt
  drafted pins is_there (judging.Answers payloads) is = tt
  drafted pins is_there (judging.Sends class wanted) is = admitted class _ _ wanted is

  -- by the class of its text
  pub classed : (class : Class) (why : Option Refusal) (wanted : Wanted) → (why ≡ None → is_connection_id class.shape ≡ false → fact wanted)
      → OfSending (judging.by_class class why wanted)
  classed class (Some refusal.SetsServer) wanted is = tt
  classed class (Some refusal.NamesConnection) wanted is = tt
  classed class (Some refusal.ReadsLast) wanted is = tt
  classed class None wanted is = by (is_connection_id class.shape) refl where
    by : (names : Bool) → is_connection_id class.shape ≡ names
        → OfSending (if names then judging.answers_one error.names_connection else judging.Sends (Some class) wanted)
    by true same = tt
    by false same = is refl same
