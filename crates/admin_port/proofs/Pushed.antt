-- What is put behind others, one by one.
use Rattle.std.specs.Prelude.{◌≡◌, ◌++◌, List, [], ◌∷◌}
use Rattle.std.proofs.Common.{ap, append_assoc, ◌∙◌}

pub two : {A : Type 0} (a b d : List A) (x y : A) → d ≡ b ++ y ∷ [] → b ≡ a ++ x ∷ [] → d ≡ a ++ x ∷ y ∷ []
two {A} a b d x y last first = last ∙ ap (λ (l : List A). l ++ y ∷ []) first ∙ append_assoc a (x ∷ []) (y ∷ [])

pub three : {A : Type 0} (a b d e : List A) (x y z : A) → e ≡ d ++ z ∷ [] → d ≡ b ++ y ∷ [] → b ≡ a ++ x ∷ [] → e ≡ a ++ x ∷ y ∷ z ∷ []
three {A} a b d e x y z last behind first =
    last ∙ ap (λ (l : List A). l ++ z ∷ []) (two a b d x y behind first) ∙ append_assoc a (x ∷ y ∷ []) (z ∷ [])

pub four : {A : Type 0} (a b d e f : List A) (x y z w : A) → f ≡ e ++ w ∷ [] → e ≡ d ++ z ∷ [] → d ≡ b ++ y ∷ [] → b ≡ a ++ x ∷ []
    → f ≡ a ++ x ∷ y ∷ z ∷ w ∷ []
four {A} a b d e f x y z w last later behind first =
    last ∙ ap (λ (l : List A). l ++ w ∷ []) (three a b d e x y z later behind first) ∙ append_assoc a (x ∷ y ∷ z ∷ []) (w ∷ [])
