-- What a client has prepared, by its numbers, and what a message makes of it.
use Rattle.std.specs.Prelude.{◌≡◌, ℕ, Bool, ◌||◌, nat_eq, if◌then◌else◌, List, slice_index_or, Option, Some, None}
use Rattle.std.specs.Option.{option_and_then, option_map, option_or}
use Rattle.log_story.specs.Executes.{Bound, bound_after, is_for}
use Rattle.log_story.specs.Plan.{com_reset}
use Rattle.stmt_map.specs.Client.{Changes, statement_at}
use Rattle.stmt_map.specs.declared.client.ClientStatements.{ClientStatements}
use Rattle.stmt_map.specs.declared.statement.Prepared.{Prepared}
use Rattle.stmt_map.specs.declared.statement.Statement.{Statement}

-- a prepared statement, and what was bound since
pub record Numbered : Type 0 where
  pub prepared : Prepared
  pub bound : Bound

abbrev pub numbered : Statement → Numbered
numbered s = record { prepared = s.prepared; bound = record { types = s.types; long = s.long.parts } }

abbrev pub number_in : ClientStatements → (number : ℕ) → Option Numbered
number_in statements number = option_map numbered (statement_at statements number)

-- a message after which the client doesn't know the number any more (client/server protocol, "COM_STMT_CLOSE",
-- "COM_RESET_CONNECTION")
abbrev pub drops : (number : ℕ) → (payload : List ℕ) → Bool
drops number payload = is_for 0x19 number payload || nat_eq (slice_index_or payload 0 0) com_reset

-- behind a message, of which the router may have refused that it goes to a server
abbrev pub noted : (refused : Bool) → (number : ℕ) → (payload : List ℕ) → Numbered → Option Numbered
noted refused number payload one =
    if drops number payload then None
    else Some (record one { bound = bound_after one.prepared.params number refused payload one.bound })

pub record AreNoted (refused : Bool) (payload : List ℕ) (old new : ClientStatements) : Type 0 where
  pub last : new.last ≡ old.last
  pub each : (number : ℕ) → number_in new number ≡ option_and_then (noted refused number payload) (number_in old number)

-- An execute binds the types that it sends; else those stay that are bound.

abbrev pub types_by : (sent : Option (List ℕ)) → Option Numbered → Option (List ℕ)
types_by sent None = sent
types_by sent (Some one) = option_or sent one.bound.types

abbrev pub bound_with : (sent : Option (List ℕ)) → Statement → Statement
bound_with sent s = record { prepared = s.prepared; types = option_or sent s.types; long = s.long }

pub record AreBound (number : ℕ) (sent : Option (List ℕ)) (old new : ClientStatements) : Type 0 where
  pub last : new.last ≡ old.last
  pub each : Changes old new number (option_map (bound_with sent) (statement_at old number))
