use Rattle.std.proofs.Common.{sym}
use Rattle.core_tables.specs.Tables.{tables_of}
use Rattle.marked_tables.proofs.Calls.{noted_readied, unnoted}
use Rattle.marked_tables.proofs.marked.MarkedTables.note_readied.Goals as goal

pub returns-clause-is : goal.returns-clause-is
returns-clause-is c =
    noted_readied (tables_of c.args.self.now.tables) _ c.args.client c.in-Some.row.now c.args.link (sym (rw c.in-Some.is at c.client.ensures)) c.note.ensures.is

pub returns-in_default-clause-is : goal.returns-in_default-clause-is
returns-in_default-clause-is c = unnoted (tables_of c.args.self.now.tables) c.args.client _ (sym (rw c.in_default.is at c.client.ensures))
