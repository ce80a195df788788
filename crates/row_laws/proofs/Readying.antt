-- Whether something may begin on a link is the same for code and for the law.
use Rattle.std.specs.Prelude.{◌≡◌, ◌<◌, ◌≤◌, ℕ, Bool, true, false, not, ◌&&◌, ◌||◌, is_some, nat_lt, List, [], ◌∷◌, length, Option, Some, None}
use Rattle.std.proofs.Common.{refl, sym, ap, ◌∙◌, arith}
use Rattle.std.proofs.lemmas.Bool.{false≢true, lt-ltb, ltb-false, ltb-true}
use Rattle.std.proofs.lemmas.List.{length-take-le}
use Rattle.packet_frame.specs.Packets.{spelling}
use Rattle.server_rule.specs.Classes.{Reads}
use Rattle.server_rule.specs.Servers.{is_some_of}
use Rattle.server_side.specs.Account.{Account as Login}
use Rattle.private_model.specs.Commands.{Quit}
use Rattle.private_model.specs.View as view
use Rattle.private_model.specs.View.{Link, View}
use Rattle.log_story.specs.Plan as plan
use Rattle.log_story.specs.Plan.{StepText, step_payload, text_payload}
use Rattle.log_story.specs.Servers as servers
use Rattle.log_story.specs.Servers.{may_begin, written_in}
use Rattle.log_story.specs.Tale.{Wire, is_reset_step}
use Rattle.link_state.specs.Dones.{is_quiet}
use Rattle.link_state.specs.Writes.{is_whole}
use Rattle.link_state.specs.declared.writing.Writing.{Writing}
use Rattle.link_laws.specs.Stands.{Codes}
use Rattle.lent_link.specs.Links.{is_in}
use Rattle.lent_link.specs.Rests as rests
use Rattle.lent_link.specs.Rests.{is_resetting, is_whole_or_none}
use Rattle.lent_link.specs.declared.link.Begins.{Begins}
use Rattle.lent_link.specs.declared.link.Step.{Step}
use Rattle.lent_link.specs.declared.link.Step.TheVariants.{Other, Closes, Resets}
use Rattle.served_link.specs.declared.row.Row.{Row}
use Rattle.row_laws.specs.Rows.{Serves}
use Rattle.row_laws.specs.Written.{IsBegun, IsOver, IsSpelt, IsStepOf, IsWrittenBy}
use Rattle.row_laws.proofs.Beginning.{law_quiet}
use Rattle.row_laws.proofs.Hearing.{step_plain, step_reset}
use Rattle.row_laws.proofs.Seeing.{quiet_same}
use Rattle.row_laws.proofs.Splitting.{rest_part, rest_whole}

resets_same : (step : Step) (said : Option StepText) → IsStepOf step said → is_reset_step said ≡ is_resetting step
resets_same (Resets number) said is = step_reset (Resets number) said number refl is
resets_same Other said is = step_plain Other said refl is
resets_same (Closes number) said is = step_plain (Closes number) said refl is

-- what stands on a quiet link is one short message
pub record IsShort (w : Writing) : Type 0 where
  pub payload : List ℕ
  pub short : length payload ≤ 5
  pub bytes : w.bytes ≡ spelling 0 payload

pub short_of : (there : view.Stage) (step : Step) (quits : Bool) (link : Link) (w : Writing) → there ≡ view.Quiet → IsSpelt there step quits link w.bytes → IsShort w
short_of view.Quiet (Closes number) false link w quiet is =
    record { payload = step_payload (plan.Closes number); short = omega arith; bytes = is }
short_of view.Quiet (Resets number) false link w quiet is =
    record { payload = step_payload (plan.Resets number); short = omega arith; bytes = is }
short_of view.Quiet Other true link w quiet is =
    record { payload = text_payload Quit; short = omega arith; bytes = is }
short_of (view.Asked question) step quits link w quiet is = absurd (false≢true (ap servers.is_quiet quiet))
short_of (view.Answered question) step quits link w quiet is = absurd (false≢true (ap servers.is_quiet quiet))
short_of view.Quiet _ _ link w quiet is = absurd is

some_left : (xs : List ℕ) → 0 < length xs → is_some_of xs ≡ true
some_left [] more = absurd (omega (arith, more))
some_left (x ∷ xs) more = refl

module _ (reads : Reads) (codes : Codes) (login : Login) (seen : View) (row : Row) (wire : Wire) (link : Link)
    (stands : Serves reads codes login seen row wire link) where
  -- where the link is quiet, nothing is left over exactly where no command is written in part

  begun_whole : (w : Writing) → IsShort w → IsBegun row.link.step row.link.quits w wire.written link
      → not (is_some_of (written_in wire.written).rest) ≡ is_whole w
  begun_whole w short going = by (nat_lt w.sent (length w.bytes)) refl where
    by : (part : Bool) → nat_lt w.sent (length w.bytes) ≡ part → not (is_some_of (written_in wire.written).rest) ≡ not part
    by true part =
        let less : w.sent < length w.bytes = ltb-true w.sent (length w.bytes) part in
        let size : length wire.written ≡ w.sent = ap length going.front ∙ length-take-le w.sent w.bytes going.within in
        ap (λ (bytes : List ℕ). not (is_some_of bytes)) (rest_part short.payload w (omega (arith, short.short)) short.bytes wire.written going.front less)
        ∙ ap not (some_left wire.written (omega (arith, size, going.some)))
    by false all =
        ap (λ (bytes : List ℕ). not (is_some_of bytes))
        (rest_whole short.payload w (omega (arith, short.short)) short.bytes wire.written going.front (ltb-false w.sent (length w.bytes) all))

  over_whole : IsOver row.link.state.stage row.link.step row.link.quits wire.step wire.written → not (is_some_of (written_in wire.written).rest) ≡ true
  over_whole over = ap (λ (bytes : List ℕ). not (is_some_of bytes)) over.whole

  written_same : link.stage ≡ view.Quiet → (next : Option Begins) (writing : Option Writing)
      → IsWrittenBy next writing row.link.state.stage row.link.step row.link.quits wire.step wire.written link
      → not (is_some_of (written_in wire.written).rest) ≡ (is_some next || is_whole_or_none writing)
  written_same quiet (Some next) writing is = over_whole is.0
  written_same quiet None None is = over_whole is
  written_same quiet None (Some w) is = begun_whole w (short_of link.stage row.link.step row.link.quits link w quiet is.spelt_so) is

  begin_tests : (quiet : Bool) → servers.is_quiet link.stage ≡ quiet
      → (quiet && (not (is_some_of (written_in wire.written).rest) && not (is_reset_step wire.step)))
      ≡ (quiet && (rests.is_written row.link && not (is_resetting row.link.step)))
  begin_tests false unquiet = refl
  begin_tests true quiet =
      ap (λ (whole : Bool). whole && not (is_reset_step wire.step)) (written_same (law_quiet link.stage quiet) row.link.next row.link.writing stands.written)
      ∙ ap (λ (resets : Bool). rests.is_written row.link && not resets) (resets_same row.link.step wire.step stands.step)

  pub begin_same : (wire.entered && (servers.is_quiet link.stage && (not (is_some_of (written_in wire.written).rest) && not (is_reset_step wire.step))))
      ≡ rests.may_begin row.link
  begin_same =
      ap (λ (entered : Bool). entered && (servers.is_quiet link.stage && (not (is_some_of (written_in wire.written).rest) && not (is_reset_step wire.step)))) stands.entered
      ∙ begin_tests (servers.is_quiet link.stage) refl
      ∙ ap (λ (quiet : Bool). quiet && (rests.is_written row.link && not (is_resetting row.link.step))) (sym (quiet_same reads codes row.link.state link stands.state))
      ∙ ap (λ (entered : Bool). entered && (is_quiet row.link.state.stage && (rests.is_written row.link && not (is_resetting row.link.step))))
      (sym (ap is_in stands.inside))

  -- where something is to begin, it may

  pub over_begins : IsOver row.link.state.stage row.link.step row.link.quits wire.step wire.written
      → (wire.entered && (servers.is_quiet link.stage && (not (is_some_of (written_in wire.written).rest) && not (is_reset_step wire.step)))) ≡ true
  over_begins over =
      ap (λ (entered : Bool). entered && (servers.is_quiet link.stage && (not (is_some_of (written_in wire.written).rest) && not (is_reset_step wire.step)))) stands.entered
      ∙ ap (λ (quiet : Bool). quiet && (not (is_some_of (written_in wire.written).rest) && not (is_reset_step wire.step)))
      (sym (quiet_same reads codes row.link.state link stands.state) ∙ over.quiet)
      ∙ ap (λ (whole : Bool). whole && not (is_reset_step wire.step)) (over_whole over)
      ∙ ap not (resets_same row.link.step wire.step stands.step ∙ over.answered)

  -- and while what began isn't whole nothing else may

  pub part_waits : (w : Writing) → IsBegun row.link.step row.link.quits w wire.written link → w.sent < length w.bytes
      → (wire.entered && (servers.is_quiet link.stage && (not (is_some_of (written_in wire.written).rest) && not (is_reset_step wire.step)))) ≡ false
  part_waits w going part =
      ap (λ (entered : Bool). entered && (servers.is_quiet link.stage && (not (is_some_of (written_in wire.written).rest) && not (is_reset_step wire.step)))) stands.entered
      ∙ by (servers.is_quiet link.stage) refl where
        by : (quiet : Bool) → servers.is_quiet link.stage ≡ quiet → (quiet && (not (is_some_of (written_in wire.written).rest) && not (is_reset_step wire.step))) ≡ false
        by false unquiet = refl
        by true quiet =
            ap (λ (whole : Bool). whole && not (is_reset_step wire.step))
            (begun_whole w (short_of link.stage row.link.step row.link.quits link w (law_quiet link.stage quiet) going.spelt_so) going
            ∙ ap (λ (less : Bool). not less) (lt-ltb w.sent (length w.bytes) part))
