-- One more value is bound.
use Rattle.std.specs.Prelude.{◌≡◌, ℕ, zero, suc, ◌+◌, ◌-◌, ◌<◌, List, [], ◌∷◌, ◌++◌, Option, None, Some}
use Rattle.std.proofs.Common.{refl, sym, ap, ◌∙◌, arith}
use Rattle.mem_rule.specs.Statements.{Binding, bound_at, bound_from, bound_with}

bound_step : (left p at : ℕ) (b : Binding) (done : List (List ℕ)) → 0 < left → bound_from left p at b done ≡ bound_with (bound_at b p at) (λ value next. bound_from (left - 1) (p + 1) next b (done ++ value ∷ []))
bound_step zero p at b done some = absurd (omega arith)
bound_step (suc left) p at b done some = let e : suc left - 1 ≡ left = omega arith in rw e refl

-- a parameter without a value
pub none_bound : (count p at : ℕ) (b : Binding) (done : List (List ℕ)) (whole : Option (List (List ℕ))) → p < count → bound_from (count - p) p at b done ≡ whole → bound_at b p at ≡ None → None ≡ whole
none_bound count p at b done whole some is none =
    sym (bound_step (count - p) p at b done (omega arith) ∙ ap (λ got. bound_with got (λ value next. bound_from (count - p - 1) (p + 1) next b (done ++ value ∷ []))) none) ∙ is

-- one with a value
pub one_bound : (count p at : ℕ) (b : Binding) (done : List (List ℕ)) (whole : Option (List (List ℕ))) (value : List ℕ) (next : ℕ) → p < count → bound_from (count - p) p at b done ≡ whole → bound_at b p at ≡ Some (value, next)
    → bound_from (count - (p + 1)) (p + 1) next b (done ++ value ∷ []) ≡ whole
one_bound count p at b done whole value next some is there =
    let e : count - (p + 1) ≡ count - p - 1 = omega arith in
    ap (λ left. bound_from left (p + 1) next b (done ++ value ∷ [])) e
    ∙ (sym (bound_step (count - p) p at b done (omega arith) ∙ ap (λ got. bound_with got (λ value next. bound_from (count - p - 1) (p + 1) next b (done ++ value ∷ []))) there) ∙ is)
