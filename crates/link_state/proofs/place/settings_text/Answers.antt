use Rattle.std.proofs.Common.{◌≡◌, true, sym, subst, List, ◌∙◌}
use Rattle.session_vars.specs.declared.change.Change.{Change}
use Rattle.session_vars.specs.declared.slot.Slot.TheVariants.{Names}
use Rattle.session_vars.specs.Settings.{difference_of, is_text, value_at}
use Rattle.session_vars.specs.Texts.{CanBeSet}
use Rattle.session_vars.proofs.Settable.{difference_settable}
use Rattle.link_state.proofs.place.settings_text.Goals as goal

pub text_of-requires : goal.text_of-requires
text_of-requires c =
    let e : c.as_slice.result.now ≡ difference_of c.args.told.now c.args.wanted.now = c.as_slice.ensures ∙ c.in_ok-changes.ensures in
    let text : is_text (value_at c.args.wanted.now Names) ≡ true = c.requires in
    subst (λ (changes : List Change). CanBeSet changes) (sym e) (difference_settable c.args.told.now c.args.wanted.now text)
