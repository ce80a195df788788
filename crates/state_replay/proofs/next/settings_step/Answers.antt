use Rattle.std.proofs.Common.{◌≡◌, true, sym, subst, List, ◌∙◌}
use Rattle.session_vars.specs.declared.change.Change.{Change}
use Rattle.session_vars.specs.declared.slot.Slot.TheVariants.{Names}
use Rattle.session_vars.specs.Settings.{difference_of, is_text, value_at}
use Rattle.session_vars.specs.Texts.{CanBeSet}
use Rattle.session_vars.proofs.Settable.{difference_settable}
use Rattle.state_replay.proofs.Settling.{settles}
use Rattle.state_replay.proofs.next.settings_step.Goals as goal

pub set_texts-requires : goal.set_texts-requires
set_texts-requires c =
    let e : c.as_slice.result.now ≡ difference_of c.args.told.now c.args.wanted.now = c.as_slice.ensures ∙ c.in_ok-changes.ensures in
    let text : is_text (value_at c.args.wanted.now Names) ≡ true = c.requires in
    subst (λ (changes : List Change). CanBeSet changes) (sym e) (difference_settable c.args.told.now c.args.wanted.now text)

pub returns : goal.returns
returns c =
    c.text_step.ensures
    ∙ settles c.args.told.now c.args.wanted.now c.as_slice.result.now c.in_ok-texts.texts.names c.in_ok-texts.texts.session
    (c.as_slice.ensures ∙ c.in_ok-changes.ensures) c.in_ok-texts.ensures.names c.in_ok-texts.ensures.session
