-- Who needs a text: a client does of its statement in work, and of each that it prepared.
use Rattle.std.specs.Prelude.{ℕ, Bool, false, ◌||◌, nat_eq, Option}
use Rattle.std.specs.List.{list_any}
use Rattle.std.specs.Map.{values_of}
use Rattle.std.specs.Option.{option_map_or}
use Rattle.stmt_map.specs.declared.client.ClientStatements.{ClientStatements}
use Rattle.stmt_map.specs.declared.statement.Statement.{Statement}
use Rattle.client_desk.specs.declared.work.Work.{Work}
use Rattle.core_tables.specs.declared.client.Client.{Client}

abbrev pub works_on : Option Work → (number : ℕ) → Bool
works_on work number = option_map_or (λ (w : Work). nat_eq w.key number) work false

abbrev pub have_prepared : ClientStatements → (number : ℕ) → Bool
have_prepared s number = list_any (λ (statement : Statement). nat_eq statement.prepared.key number) (values_of s.statements.entries)

abbrev pub needs : Client → (number : ℕ) → Bool
needs row number = works_on row.desk.work number || have_prepared row.desk.seat.statements number
