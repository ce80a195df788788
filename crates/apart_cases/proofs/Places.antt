-- What a preparation and an execute are of.
use Rattle.std.specs.Prelude.{◌≡◌, ℕ, List, Option, None, Some, ◌⊎◌}
use Rattle.std.proofs.Common.{inl, inr, subst}
use Rattle.session_vars.specs.declared.change.SlotValue.{SlotValue}
use Rattle.private_model.specs.Commands.{Args, Command, Run}
use Rattle.private_model.specs.Lawful.{IsKeyed, IsLiveRun, IsStatement, IsToldKey, PreparesFirst, PreparesThere}
use Rattle.private_model.specs.Names.{SessionName}
use Rattle.private_model.specs.Story.{Due}
use Rattle.private_model.specs.View.{Held, Link, Setup, View}

pub told-key : (setup : Setup) (n : SessionName) (key : ℕ) (text : List ℕ) (link : Link) (held : Held)
    → PreparesFirst setup n key text link held ⊎ PreparesThere setup n key text link held → IsToldKey setup key text link.told
told-key setup n key text link held is = elim is [
  | inl first ↦ first.told
  | inr there ↦ there.told
]

keyed : (setup : Setup) (view : View) (n : SessionName) (due : Due) (link : Link) → IsStatement setup view n due link
    → IsKeyed setup due.command due.key link.told link.live
keyed setup view n due link is = elim is.how [
  | inl begins ↦ begins.begins.keyed
  | inr goes_on ↦ goes_on.goes_on.keyed
]

pub live-run : (setup : Setup) (view : View) (n : SessionName) (due : Due) (link : Link) (text schema : List ℕ) (settings : List SlotValue) (args : Args)
    → IsStatement setup view n due link → due.command ≡ Run text schema settings args → IsLiveRun setup due.key text schema settings link.live
live-run setup view n due link text schema settings args is runs =
    subst (λ command. IsKeyed setup command due.key link.told link.live) runs (keyed setup view n due link is)

pub not-none : {A : Type 0} {B : Type 0} (live : Option A) (a : A) → live ≡ Some a → live ≡ None → B
not-none live a some none = absurd (cc)
