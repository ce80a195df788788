use Rattle.std.proofs.Common.{◌≡◌, Option, Some, None, sym, ap, ◌∙◌}
use Rattle.session_state.specs.declared.place.Place.{Place}
use Rattle.link_state.specs.Places.{calm_place, place_wish}
use Rattle.link_state.specs.Wants.{cleared, or_wish}
use Rattle.link_state.specs.declared.wish.Wish.{Wish}
use Rattle.link_state.specs.declared.wish.Wish.TheVariants.{Prepare}
use Rattle.link_state.proofs.state.LinkState.prep_wish.Goals as goal

pub returns-in-Some : goal.returns-in-Some
returns-in-Some c =
    let step : place_wish c.args.self.now.told (calm_place c.args.of_key.now c.args.self.now.told) ≡ Some c.in-Some.wish =
    ap (λ (place : Place). place_wish c.args.self.now.told place) (sym c.in_ok-place.ensures.is) ∙ sym c.in_ok-wish.ensures ∙ c.in-Some.is in
    sym (ap (λ (wish : Option Wish). or_wish wish (cleared c.args.self.now.live c.args.key Prepare)) step)

pub returns : goal.returns
returns c =
    let step : place_wish c.args.self.now.told (calm_place c.args.of_key.now c.args.self.now.told) ≡ None =
    ap (λ (place : Place). place_wish c.args.self.now.told place) (sym c.in_ok-place.ensures.is) ∙ sym c.in_ok-wish.ensures ∙ c.in-None.is in
    c.cleared.ensures ∙ sym (ap (λ (wish : Option Wish). or_wish wish (cleared c.args.self.now.live c.args.key Prepare)) step)
