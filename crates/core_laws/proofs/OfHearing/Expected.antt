-- What stays of a link as a reply is awaited there.
use Rattle.std.specs.Prelude.{◌≡◌, false, Option, Some, None}
use Rattle.std.proofs.Common.{refl, sym, ap, ◌∙◌}
use Rattle.std.proofs.lemmas.Option.{none-some}
use Rattle.lent_link.specs.Rests.{is_resetting}
use Rattle.row_laws.specs.Rows.{is_asked}
use Rattle.link_state.specs.declared.state.Stage.{Stage}
use Rattle.link_state.specs.declared.state.Stage.TheVariants.{Quiet, Asked, Answered}
use Rattle.lent_link.specs.Hears.{expecting, expecting_at, expecting_by, expecting_if}
use Rattle.lent_link.specs.declared.link.LentLink.{LentLink}
use Rattle.lent_link.specs.declared.link.Step.{Step}
use Rattle.lent_link.specs.declared.link.Step.TheVariants.{Other, Closes, Resets}
use Rattle.lent_link.specs.declared.reading.Reading.{Reading}

pub record IsExpected (old new : LentLink) : Type 0 where
  pub step : new.step ≡ old.step
  pub spoilt : new.spoilt ≡ old.spoilt
  pub next : new.next ≡ old.next
  pub writing : new.writing ≡ old.writing
  pub first : new.first ≡ old.first
  pub number : new.number ≡ old.number

expected_stage : (link : LentLink) (stage : Stage) → IsExpected link (expecting_at stage link)
expected_stage link Quiet = record { step = refl; spoilt = refl; next = refl; writing = refl; first = refl; number = refl }
expected_stage link (Asked asking) = record { step = refl; spoilt = refl; next = refl; writing = refl; first = refl; number = refl }
expected_stage link (Answered asking) = record { step = refl; spoilt = refl; next = refl; writing = refl; first = refl; number = refl }

expected_step : (link : LentLink) (step : Step) → IsExpected link (expecting_by step link)
expected_step link (Resets number) = record { step = refl; spoilt = refl; next = refl; writing = refl; first = refl; number = refl }
expected_step link Other = expected_stage link link.state.stage
expected_step link (Closes number) = expected_stage link link.state.stage

expected_if : (link : LentLink) (reading : Option Reading) → IsExpected link (expecting_if reading link)
expected_if link None = expected_step link link.step
expected_if link (Some r) = record { step = refl; spoilt = refl; next = refl; writing = refl; first = refl; number = refl }

pub expected : (link : LentLink) → IsExpected link (expecting link)
expected link = expected_if link link.reading

-- Where no reply is under way once bytes come, none is due.

pub record IsUndue (link : LentLink) : Type 0 where
  pub none : link.reading ≡ None
  pub plain : is_resetting link.step ≡ false
  pub unasked : is_asked link.state.stage ≡ false
  pub same : expecting link ≡ link

undue_stage : (link : LentLink) (stage : Stage) → link.state.stage ≡ stage → link.reading ≡ None → is_resetting link.step ≡ false
    → expecting link ≡ expecting_at stage link → (expecting_at stage link).reading ≡ None → IsUndue link
undue_stage link Quiet same none plain is due = record { none = none; plain = plain; unasked = ap is_asked same; same = is }
undue_stage link (Answered asking) same none plain is due = record { none = none; plain = plain; unasked = ap is_asked same; same = is }
undue_stage link (Asked asking) same none plain is due = absurd (cc)

undue_step : (link : LentLink) (step : Step) → link.step ≡ step → link.reading ≡ None → expecting link ≡ expecting_by step link
    → (expecting_by step link).reading ≡ None → IsUndue link
undue_step link (Resets number) same none is due = absurd (cc)
undue_step link Other same none is due = undue_stage link link.state.stage refl none (ap is_resetting same) is due
undue_step link (Closes number) same none is due = undue_stage link link.state.stage refl none (ap is_resetting same) is due

pub undue : (link : LentLink) (reading : Option Reading) → link.reading ≡ reading → (expecting_if reading link).reading ≡ None → IsUndue link
undue link None same due =
    undue_step link link.step refl same (ap (λ (r : Option Reading). expecting_if r link) same) due
undue link (Some r) same due = absurd (none-some r (sym due ∙ same))
