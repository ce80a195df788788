-- A link is readied for a client: in its row, and in what is noted of the client.
use Rattle.std.specs.Prelude.{Option, Some, None}
use Rattle.mx_base.specs.declared.names.ClientNo.{ClientNo}
use Rattle.mx_base.specs.declared.names.LinkId.{LinkId}
use Rattle.core_tables.specs.Noting.{readied}
use Rattle.core_tables.specs.Tables.{Tabled, client_changed}
use Rattle.core_tables.specs.declared.client.Client.{Client}

abbrev pub with_readied : Option LinkId → Client → Client
with_readied at row = record row { note = record row.note { readied = at } }

abbrev pub readied_for : LinkId → ClientNo → Tabled → Tabled
readied_for l c t = client_changed c (with_readied (Some l)) (readied l (Some c) t)

-- for nobody any more
abbrev pub unreadied : LinkId → ClientNo → Tabled → Tabled
unreadied l c t = client_changed c (with_readied None) (readied l None t)
