-- What the core keeps, as functions; and what a change of one row makes of that.
use Rattle.std.specs.Prelude.{◌≡◌, nat_eq, if◌then◌else◌, Option, Some, None}
use Rattle.std.specs.HashMap.{get}
use Rattle.std.specs.Option.{option_map}
use Rattle.mx_base.specs.declared.names.ClientNo.{ClientNo}
use Rattle.mx_base.specs.declared.names.LinkId.{LinkId}
use Rattle.core_tables.specs.declared.client.Client.{Client}
use Rattle.core_tables.specs.declared.server.Server.{Server}
use Rattle.core_tables.specs.declared.tables.Tables.{Tables}

pub record Tabled : Type 0 where
  pub clients : ClientNo → Option Client
  pub numbers : LinkId → Option ClientNo
  pub links : LinkId → Option Server

unfoldable pub tables_of : Tables → Tabled
tables_of t = record {
  clients = λ c. get nat_eq t.clients c.0;
  numbers = λ l. get nat_eq t.numbers l.0;
  links = λ l. get nat_eq t.links l.0;
}

abbrev pub no_tables : Tabled
no_tables = record { clients = λ c. None; numbers = λ l. None; links = λ l. None }

-- each row is the same
pub record IsSame (a b : Tabled) : Type 0 where
  pub clients : (c : ClientNo) → a.clients c ≡ b.clients c
  pub numbers : (l : LinkId) → a.numbers l ≡ b.numbers l
  pub links : (l : LinkId) → a.links l ≡ b.links l

-- One row is put in place of what is there, or taken out.

abbrev pub client_put : ClientNo → Option Client → Tabled → Tabled
client_put c row t = record t { clients = λ other. if nat_eq c.0 other.0 then row else t.clients other }

abbrev pub number_put : LinkId → Option ClientNo → Tabled → Tabled
number_put l c t = record t { numbers = λ other. if nat_eq l.0 other.0 then c else t.numbers other }

abbrev pub link_put : LinkId → Option Server → Tabled → Tabled
link_put l row t = record t { links = λ other. if nat_eq l.0 other.0 then row else t.links other }

-- One row changes, where it is there.

abbrev pub client_changed : ClientNo → (Client → Client) → Tabled → Tabled
client_changed c by t = client_put c (option_map by (t.clients c)) t

abbrev pub link_changed : LinkId → (Server → Server) → Tabled → Tabled
link_changed l by t = link_put l (option_map by (t.links l)) t
