-- Texts by their numbers, which count from 1 and are never given again; and by when what clients have in work had been taken up.
use Rattle.std.specs.Prelude.{◌≡◌, ◌⊎◌, ◌<◌, ◌≤◌, ℕ, nat_eq, Option, Some}
use Rattle.std.specs.HashMap.{get}
use Rattle.mx_base.specs.declared.names.ClientNo.{ClientNo}
use Rattle.private_model.specs.Story.{Key}
use Rattle.core_texts.specs.declared.noted.Noted.{Noted}
use Rattle.core_texts.specs.declared.texts.Texts.{Texts}

-- what stands under a number
abbrev pub key_at : Texts → (number : ℕ) → Option Key
key_at t number = get nat_eq t.kept number

-- what is noted of a client
abbrev pub noted_at : Texts → ClientNo → Option Noted
noted_at t c = get nat_eq t.noted c.0

-- no number is greater than the last
abbrev pub AreCounted : Texts → Type 0
AreCounted t = (number : ℕ) (key : Key) → key_at t number ≡ Some key → number ≤ t.last

-- What stood under a number stands there; and what came has a number that none had. Nothing begins anew, or is noted.
pub record AreMore (old new : Texts) : Type 0 where
  pub last : old.last ≤ new.last
  pub since : new.since ≡ old.since
  pub noted : (c : ClientNo) → noted_at new c ≡ noted_at old c
  pub kept : (number : ℕ) (key : Key) → key_at old number ≡ Some key → key_at new number ≡ Some key
  pub fresh : (number : ℕ) (key : Key) → key_at new number ≡ Some key
      → (key_at old number ≡ Some key) ⊎ ((old.last < number) × (number ≤ new.last))

-- Those that have come by now are those of before.
abbrev pub HasBegun : Texts → Type 0
HasBegun t = t.since ≡ t.last

-- What stands under a number stood there, and what is noted was noted.
pub record AreLess (old new : Texts) : Type 0 where
  pub last : new.last ≡ old.last
  pub noted : (c : ClientNo) (one : Noted) → noted_at new c ≡ Some one → noted_at old c ≡ Some one
  pub there : (number : ℕ) (key : Key) → key_at new number ≡ Some key → key_at old number ≡ Some key
