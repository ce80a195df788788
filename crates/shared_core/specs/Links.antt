-- What is made of the tables by what is told of links to servers.
use Rattle.mx_base.specs.declared.names.LinkId.{LinkId}
use Rattle.mx_base.specs.declared.names.ServerId.{ServerId}
use Rattle.server_side.specs.Account.{Account}
use Rattle.core_tables.specs.Tables.{Tabled}
use Rattle.router_laws.specs.links.Opens.{OpensSo}

-- It was opened, and the router logs in there.
pub record HasOpened (l : LinkId) (server : ServerId) (old new : Tabled) : Type 0 where
  pub login : Account
  pub so : OpensSo l server login old new
