-- The commands of an administrator (client/server protocol, "Command Phase").
use Rattle.std.specs.Prelude.{◌≡◌, ℕ, Bool, true, false, not, ◌||◌, nat_eq, List, [], ◌∷◌, slice_get, Option, Some, None}
use Rattle.admin_port.specs.declared.command.AdminCommand.{AdminCommand}
use Rattle.admin_port.specs.declared.command.AdminCommand.TheVariants.{Query, Ping, Quit, Malformed, Unknown}

abbrev pub is_other : Option ℕ → Bool
is_other None = false
is_other (Some command) = not (nat_eq command 3 || (nat_eq command 14 || nat_eq command 1))

-- what the payload of a message is
abbrev pub IsCommand : (payload : List ℕ) → AdminCommand → Type 0
IsCommand payload (Query text) = payload ≡ 3 ∷ text.now
IsCommand payload Ping = slice_get payload 0 ≡ Some 14
IsCommand payload Quit = slice_get payload 0 ≡ Some 1
IsCommand payload Malformed = payload ≡ []
IsCommand payload Unknown = is_other (slice_get payload 0) ≡ true
