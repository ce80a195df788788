-- A link to a server is opened: of the code alone.
use Rattle.std.specs.Prelude.{◌≡◌, ℕ}
use Rattle.mx_base.specs.declared.names.LinkId.{LinkId}
use Rattle.mx_base.specs.declared.names.ServerId.{ServerId}
use Rattle.server_side.specs.Account.{Account}
use Rattle.served_link.specs.declared.row.Opening.{Opening}
use Rattle.core_tables.specs.Tables.{IsSame, Tabled}
use Rattle.core_tables.specs.Writing.{opened}

-- the router logs in as this account there
pub record OpensSo (l : LinkId) (server : ServerId) (login : Account) (old new : Tabled) : Type 0 where
  pub slot : ℕ
  pub opening : Opening
  pub moment : ℕ
  pub to : opening.server ≡ server
  pub same : IsSame new (opened l slot opening login moment old)
