-- A client's link is closed: of the code alone.
use Rattle.std.specs.Prelude.{◌≡◌, true}
use Rattle.mx_base.specs.declared.names.ClientNo.{ClientNo}
use Rattle.mx_base.specs.declared.names.LinkId.{LinkId}
use Rattle.client_seat.specs.Seats.{is_ended}
use Rattle.core_tables.specs.Arrivals.{forgotten}
use Rattle.core_tables.specs.Tables.{IsSame, Tabled}
use Rattle.core_tables.specs.declared.client.Client.{Client}
use Rattle.router_laws.specs.clients.Speaks.{IsLinkOf}

-- It had ended, and its row goes away.
pub record PartsSo (link : LinkId) (c : ClientNo) (old new : Tabled) : Type 0 where
  pub row : Client
  pub its : IsLinkOf link c row old
  pub over : is_ended row.desk.seat.phase ≡ true
  pub same : IsSame new (forgotten c old)
