-- Doubled backticks, taken one byte after the other.
use Rattle.std.proofs.Common.{◌≡◌, ℕ, Bool, true, false, ◌&&◌, nat_eq, cond, List, [], ◌∷◌, refl, ◌∙◌, ap}
use Rattle.std.proofs.lemmas.Bool.{cond-true, cond-false}
use Rattle.pin_classifier.specs.Shapes.{undoubled}

-- what is left, where a first backtick may double the one before it
abbrev pub undoubled_behind : (doubles : Bool) → List ℕ → List ℕ
undoubled_behind false bytes = undoubled bytes
undoubled_behind true [] = []
undoubled_behind true (b ∷ bytes) = cond (nat_eq b 96) (undoubled bytes) (undoubled (b ∷ bytes))

cond-cons : (test : Bool) (b : ℕ) (xs ys : List ℕ) → cond test (b ∷ xs) (b ∷ ys) ≡ b ∷ cond test xs ys
cond-cons true b xs ys = refl
cond-cons false b xs ys = refl

by_backtick : (tick : Bool) (b : ℕ) (bytes : List ℕ) → nat_eq b 96 ≡ tick → undoubled (b ∷ bytes) ≡ b ∷ undoubled_behind tick bytes
by_backtick true b [] is = refl
by_backtick false b [] is = refl
by_backtick true b (c ∷ bytes) is =
    ap (λ tick. cond (tick && nat_eq c 96) (b ∷ undoubled bytes) (b ∷ undoubled (c ∷ bytes))) is
    ∙ cond-cons (nat_eq c 96) b (undoubled bytes) (undoubled (c ∷ bytes))
by_backtick false b (c ∷ bytes) is = ap (λ tick. cond (tick && nat_eq c 96) (b ∷ undoubled bytes) (b ∷ undoubled (c ∷ bytes))) is

-- a backtick that doubles the one before it
pub undoubled-left_out : (b : ℕ) (bytes : List ℕ) → nat_eq b 96 ≡ true → undoubled_behind true (b ∷ bytes) ≡ undoubled_behind false bytes
undoubled-left_out b bytes is = cond-true (nat_eq b 96) _ _ is

-- every other byte
pub undoubled-kept : (doubles : Bool) (b : ℕ) (bytes : List ℕ) → doubles && nat_eq b 96 ≡ false → undoubled_behind doubles (b ∷ bytes) ≡ b ∷ undoubled_behind (nat_eq b 96) bytes
undoubled-kept false b bytes no_double = by_backtick (nat_eq b 96) b bytes refl
undoubled-kept true b bytes no_double = cond-false (nat_eq b 96) _ _ no_double ∙ by_backtick (nat_eq b 96) b bytes refl
