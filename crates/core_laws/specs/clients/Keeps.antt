-- No client and no link comes or goes.
use Rattle.std.specs.Prelude.{◌≡◌, is_some}
use Rattle.mx_base.specs.declared.names.ClientNo.{ClientNo}
use Rattle.mx_base.specs.declared.names.LinkId.{LinkId}
use Rattle.core_tables.specs.Tables.{Tabled}

-- each has a row if it had one, and a link is the client's whose it was
pub record KeepsRows (old new : Tabled) : Type 0 where
  pub clients : (c : ClientNo) → is_some (new.clients c) ≡ is_some (old.clients c)
  pub links : (l : LinkId) → is_some (new.links l) ≡ is_some (old.links l)
  pub numbers : (l : LinkId) → new.numbers l ≡ old.numbers l
