-- The links that a loop has to look at again after a call of a machine.
use Rattle.std.specs.Prelude.{◌≡◌, ◌⊎◌, ℕ, Bool, true, false, Option, Some, None, IsSome}
use Rattle.mx_base.specs.declared.names.LinkId.{LinkId}
use Rattle.mx_base.specs.Sent.{Sent}

-- of a link that isn't among the changed ones, all that is to be read or written was to be before, and was named
pub record LeavesBe {M : Type 0} (changed reads : M → LinkId → Bool) (sends : M → LinkId → Option Sent) (old new : M) (link : LinkId) : Type 0 where
  pub read : reads new link ≡ true → (changed old link ≡ false) × (reads old link ≡ true)
  pub written : IsSome (sends new link) → (changed old link ≡ false) × IsSome (sends old link)

pub record ChangesOnly {M : Type 0} (changed reads : M → LinkId → Bool) (sends : M → LinkId → Option Sent) (old new : M) : Type 0 where
  pub others : (link : LinkId) → changed new link ≡ false → LeavesBe changed reads sends old new link

-- all that a machine says is as before
pub record SaysSame {M : Type 0} (reads : M → LinkId → Bool) (sends : M → LinkId → Option Sent) (until : M → ℕ) (is_stopped : M → Bool) (old new : M) : Type 0 where
  pub read : (link : LinkId) → reads new link ≡ reads old link
  pub written : (link : LinkId) → sends new link ≡ sends old link
  pub until_ms : until new ≡ until old
  pub stopped : is_stopped new ≡ is_stopped old

-- one changed link is named, and the others stay; none is where there is none
abbrev pub TakesChange : {M : Type 0} → (M → LinkId → Bool) → M → M → Option LinkId → Type 0
TakesChange changed old new None = (link : LinkId) → changed new link ≡ false
TakesChange changed old new (Some named) = (link : LinkId) → changed new link ≡ false → (changed old link ≡ false) ⊎ (link ≡ named)
