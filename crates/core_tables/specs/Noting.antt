-- What only the choice of the next act needs of clients and links is noted.
use Rattle.std.specs.Prelude.{ℕ, Option}
use Rattle.mx_base.specs.declared.names.ClientNo.{ClientNo}
use Rattle.mx_base.specs.declared.names.LinkId.{LinkId}
use Rattle.served_link.specs.Rows.{readied_for}
use Rattle.core_tables.specs.Beginning.{with_row}
use Rattle.core_tables.specs.Tables.{Tabled, client_changed, link_changed}
use Rattle.core_tables.specs.declared.client.Client.{Client}
use Rattle.core_tables.specs.declared.client.ClientNote.{ClientNote}
use Rattle.core_tables.specs.declared.server.Server.{Server}

abbrev pub with_note : ClientNote → Client → Client
with_note note row = record row { note = note }

abbrev pub noted : ClientNo → ClientNote → Tabled → Tabled
noted c note t = client_changed c (with_note note) t

-- a link is readied for a client, or for nobody
abbrev pub readied : LinkId → Option ClientNo → Tabled → Tabled
readied l client t = link_changed l (with_row (readied_for client)) t

-- where it may be lent
abbrev pub with_spot : (spot : Option ℕ) → Server → Server
with_spot spot server = record server { spot = spot }

abbrev pub shelved : LinkId → (spot : Option ℕ) → Tabled → Tabled
shelved l spot t = link_changed l (with_spot spot) t
