-- A client is told its last.
use Rattle.std.specs.Prelude.{ℕ, List}
use Rattle.mx_base.specs.declared.names.ClientNo.{ClientNo}
use Rattle.client_side.specs.Client.{ClientState}
use Rattle.client_seat.specs.Words.{with_word}
use Rattle.core_tables.specs.Arrivals.{seated}
use Rattle.core_tables.specs.Tables.{IsSame, Tabled, client_changed}

-- by this payload, where what is kept of its bytes is this behind it
pub record IsTold (c : ClientNo) (payload : List ℕ) (old new : Tabled) : Type 0 where
  pub client : ClientState
  pub same : IsSame new (client_changed c (seated (with_word payload client)) old)
