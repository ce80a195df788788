use Rattle.std.specs.Prelude.{◌≡◌, List, bytes_eq, true, ℕ}
use Rattle.std.proofs.Common.{ap, arith, sym, ◌∙◌}
use Rattle.std.proofs.lemmas.Grind.{common_steps}
use Rattle.place_keys.specs.Keys.{place_key}
use Rattle.core_texts.proofs.Keeping.{place_same, same_bytes}
use Rattle.core_texts.proofs.texts.is_place.Goals as goal

pub returns : goal.returns
returns c = λ is.
    let equal : bytes_eq c.in_ok-one.one c.in_ok-other.other ≡ true = first_of (cc, grind (arith, common_steps)) in
    place_same c.places_apart.ensures c.args.a.now c.args.b.now c.value-first.ensures.settings c.value-other.ensures.settings
    (sym (ap (λ (s : List ℕ). place_key s c.args.a.now.settings) c.as_slice.ensures) ∙ sym c.in_ok-one.ensures
    ∙ same_bytes c.in_ok-one.one c.in_ok-other.other equal
    ∙ c.in_ok-other.ensures ∙ ap (λ (s : List ℕ). place_key s c.args.b.now.settings) c.as_slice-2.ensures)
