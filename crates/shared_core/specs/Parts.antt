-- A client's link is closed that ended, and what was closed is forgotten.
use Rattle.std.specs.Prelude.{◌≡◌, true, not, is_some, Bool}
use Rattle.std.specs.List.{list_all}
use Rattle.client_desk.specs.declared.session.Session.{Session}
use Rattle.client_seat.specs.Seats.{is_ended}
use Rattle.core_tables.specs.Tables.{IsSame, Tabled}
use Rattle.core_tables.specs.declared.client.Client.{Client}
use Rattle.marked_tables.specs.Goes.{GoesOn}
use Rattle.shared_core.specs.Rows.{HasLives}
use Rattle.shared_core.specs.Stands.{tables, work_of}
use Rattle.shared_core.specs.declared.router.Router.{Router}

-- no link carries it
abbrev pub is_homeless : Session → Bool
is_homeless s = not (is_some s.home)

-- It ended, no link carries a session of it, and there are lives for it to leave them once more.
pub record MayPart (row : Client) : Type 0 where
  pub over : is_ended row.desk.seat.phase ≡ true
  pub homeless : list_all is_homeless row.desk.sessions ≡ true
  pub lives : HasLives row.desk

-- A row goes out of the tables; how many clients came and who has room again stay.
pub record ForgetsBy (without : Tabled → Tabled) (old new : Router) : Type 0 where
  pub tables : IsSame (tables new) (without (tables old))
  pub goes : GoesOn old.marked new.marked
  pub roomy : new.roomy ≡ old.roomy
  pub texts : new.texts ≡ old.texts
  pub work : work_of new ≡ work_of old
  pub came : new.came ≡ old.came
