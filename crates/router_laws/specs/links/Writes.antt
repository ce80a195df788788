-- Bytes of what the tables lend are written on a link to a server: of the code alone.
use Rattle.std.specs.Prelude.{◌≡◌, ◌<◌, ◌≤◌, ℕ, false, length, Some}
use Rattle.mx_base.specs.Sent.{Sent}
use Rattle.mx_base.specs.declared.names.LinkId.{LinkId}
use Rattle.lent_link.specs.Links.{is_in}
use Rattle.core_tables.specs.Passing.{sends}
use Rattle.core_tables.specs.Tables.{IsSame, Tabled}
use Rattle.core_tables.specs.Writing.{wrote_on}
use Rattle.core_tables.specs.declared.server.Server.{Server}

-- so many; in a login that didn't fail
pub record WritesSo (l : LinkId) (offer : Sent) (count : ℕ) (old new : Tabled) : Type 0 where
  pub server : Server
  pub there : old.links l ≡ Some server
  pub lent : sends l old ≡ Some offer
  pub well : is_in server.row.link.login.stage ≡ false → server.row.link.spoilt ≡ false
  pub some : 0 < count
  pub most : count ≤ length offer.bytes
  pub moment : ℕ
  pub same : IsSame new (wrote_on l count moment old)
