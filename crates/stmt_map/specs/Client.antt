-- A client's prepared statements by their numbers.
use Rattle.std.specs.Prelude.{◌≡◌, ℕ, ◌+◌, false, nat_eq, nat_le, ◌||◌, List, [], if◌then◌else◌, Option, Some, None}
use Rattle.std.specs.HashMap.{get, hash_map_len}
use Rattle.session_vars.specs.declared.long_part.LongPart.{LongPart}
use Rattle.stmt_map.specs.declared.client.ClientStatements.{ClientStatements}
use Rattle.stmt_map.specs.declared.statement.Prepared.{Prepared}
use Rattle.stmt_map.specs.declared.statement.Statement.{Statement}
use Rattle.stmt_map.specs.Long.{grown, no_long}

abbrev pub statement_at : ClientStatements → (number : ℕ) → Option Statement
statement_at s number = get nat_eq s.statements number

-- one number's statement changes, and no other
pub record Changes (old new : ClientStatements) (number : ℕ) (statement : Option Statement) : Type 0 where
  pub same : statement_at new number ≡ statement
  pub others : (other : ℕ) → nat_eq number other ≡ false → statement_at new other ≡ statement_at old other

abbrev pub next_number : ClientStatements → Option ℕ
next_number s = if nat_le 65535 (hash_map_len s.statements) || nat_eq s.last 4294967295 then None else Some (s.last + 1)

abbrev pub fresh : Prepared → Statement
fresh prepared = record { prepared = prepared; types = None; long = no_long }

abbrev pub with_types : (types : List ℕ) → Statement → Statement
with_types types statement = record { prepared = statement.prepared; types = Some types; long = statement.long }

abbrev pub with_long : (parameter : ℕ) → (bytes : List ℕ) → Statement → Statement
with_long parameter bytes statement =
    record { prepared = statement.prepared; types = statement.types; long = grown statement.long parameter bytes }

abbrev pub used_up : Statement → Statement
used_up statement = record { prepared = statement.prepared; types = statement.types; long = no_long }

-- the long data of a statement, none where there is no statement
abbrev pub long_at : Option Statement → List LongPart
long_at None = []
long_at (Some statement) = statement.long.parts
