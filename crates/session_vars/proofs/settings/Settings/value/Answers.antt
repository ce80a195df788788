use Rattle.std.proofs.Common.{◌≡◌, List, length, subst}
use Rattle.session_vars.specs.Slots.{place_of}
use Rattle.session_vars.specs.declared.change.SlotValue.{SlotValue}
use Rattle.session_vars.proofs.Padded.{padded_length, padded_value}
use Rattle.session_vars.proofs.settings.Settings.value.Goals as goal

pub returns-clause-value : goal.returns-clause-value
returns-clause-value c =
    let given = c.value_in.ensures in
    let items = c.as_slice.ensures in
    let place = c.place.ensures in
    let same = padded_value c.self.inside.values.items (place_of c.args.slot) c.self.inside.otherwise c.self.invariant.rest in
    let view = c.self.view_is in
    cc

pub returns-clause-settings : goal.returns-clause-settings
returns-clause-settings c =
    let P : List SlotValue → Type 0 = λ vs. length vs ≡ 67 in
    subst P c.self.view_is (padded_length c.self.inside.values.items c.self.invariant.few)
