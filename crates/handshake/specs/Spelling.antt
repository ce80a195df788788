-- Fields that are written one after the other.
use Rattle.std.specs.Prelude.{◌≡◌, ◌≢◌, ◌⊎◌, ℕ, Bool, true, false, List, [], ◌∷◌, ◌++◌, All, if◌then◌else◌}
use Rattle.handshake.specs.Capability.{has}

-- what ends a text
abbrev pub nul : List ℕ
nul = 0 ∷ []

-- what a NUL can end
abbrev pub IsText : List ℕ → Type 0
IsText text = All (λ b. b ≢ 0) text

-- a field that stands under a capability alone
abbrev pub under : (capability capabilities : ℕ) → List ℕ → List ℕ
under capability capabilities field = if has capability capabilities then field else []

-- fields in order, and what follows them
abbrev pub spelled : (fields : List (List ℕ)) → (more : List ℕ) → List ℕ
spelled [] more = more
spelled (field ∷ fields) more = field ++ spelled fields more

-- a NUL ends the last text, or the payload does
abbrev pub IsEnding : (ending more : List ℕ) → Type 0
IsEnding ending more = (ending ≡ nul) ⊎ ((ending ≡ []) × (more ≡ []))

-- what ends a text that is the last field or not
abbrev pub IsEndingIf : (last : Bool) → (ending more : List ℕ) → Type 0
IsEndingIf true ending more = IsEnding ending more
IsEndingIf false ending more = ending ≡ nul
