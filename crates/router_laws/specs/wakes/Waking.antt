-- A wake, and an open that failed: of the code alone.
use Rattle.std.specs.Prelude.{◌≡◌, ℕ, Bool, true, false, List, Some}
use Rattle.mx_base.specs.declared.names.ClientNo.{ClientNo}
use Rattle.mx_base.specs.declared.names.LinkId.{LinkId}
use Rattle.client_session.specs.Setups.{Setup as Service}
use Rattle.client_seat.specs.Seats.{is_ended}
use Rattle.core_tables.specs.Tables.{Tabled}
use Rattle.core_tables.specs.declared.client.Client.{Client}
use Rattle.core_laws.specs.clients.Going.{GivenUp}
use Rattle.router_laws.specs.wakes.Calling.{Caller, CallsSo, GivesUpAll, is_called, is_given}

-- All that waited too long are given up; then those clients go on, and all that have room again and didn't end. Nobody has to have room behind that.
pub record WakesSo (service : Service) (default : List ℕ) (given : List GivenUp) (callers : List Caller) (links : List LinkId)
    (roomy : ClientNo → Bool) (old new : Tabled) : Type 0 where
  pub late : Tabled
  pub gives : GivesUpAll given old late
  pub all_given : (c : ClientNo) → is_given given c ≡ true → is_called callers c ≡ true
  pub all_roomy : (c : ClientNo) (row : Client) → roomy c ≡ true → late.clients c ≡ Some row → is_ended row.desk.seat.phase ≡ false
      → is_called callers c ≡ true
  pub calls : CallsSo service default callers links late new

-- Where a link couldn't be opened, statements are given up, and those clients alone go on; who has room still has.
pub record FailsSo (service : Service) (default : List ℕ) (given : List GivenUp) (callers : List Caller) (links : List LinkId) (old new : Tabled)
    : Type 0 where
  pub late : Tabled
  pub gives : GivesUpAll given old late
  pub all_given : (c : ClientNo) → is_given given c ≡ true → is_called callers c ≡ true
  pub none_else : (c : ClientNo) → is_called callers c ≡ true → is_given given c ≡ true
  pub calls : CallsSo service default callers links late new
