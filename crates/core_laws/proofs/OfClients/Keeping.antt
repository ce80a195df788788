-- What follows for a client lets no client and no link come or go.
use Rattle.std.specs.Prelude.{◌≡◌, ℕ, Bool, true, false, is_some, nat_eq, if◌then◌else◌, List, [], ◌∷◌, Option, Some, None}
use Rattle.std.specs.Option.{option_map, option_map_or}
use Rattle.std.proofs.Common.{refl, sym, ap, ◌∙◌}
use Rattle.client_session.specs.Setups.{Setup as Service}
use Rattle.private_model.proofs.Maps.{client_of, link_of}
use Rattle.private_model.specs.Names.{ClientNo, LinkId}
use Rattle.client_seat.specs.Seats.{ended}
use Rattle.client_seat.specs.declared.seat.Seat.{Seat}
use Rattle.stmt_map.specs.declared.client.ClientStatements.{ClientStatements}
use Rattle.core_laws.specs.taking.Takes.{is_reset}
use Rattle.core_tables.specs.Parting.{changed_at, freed_in, freed_of, freed_row, freed_server, is_done_in, left_in, left_row, parted_in, present_in}
use Rattle.core_tables.specs.Tables.{IsSame, Tabled, client_changed, client_put, link_changed}
use Rattle.core_tables.specs.declared.client.Client.{Client}
use Rattle.core_tables.specs.declared.server.Server.{Server}
use Rattle.core_laws.proofs.OfParting.Freeing.{changed_there}
use Rattle.core_laws.specs.entry.Freeing.{all_freed}
use Rattle.core_laws.specs.clients.Follows.{FollowsSo, Leaves, Parting, PartsSo, Stays, Tells}
use Rattle.core_laws.specs.clients.Going.{Going, GoesSo}
use Rattle.core_laws.specs.clients.Keeps.{KeepsRows}
use Rattle.core_laws.specs.clients.Turns.{Answers, Choice, ComesUp, Ends, Goes, Halt, HaltsSo, IsTurn, MakesAnswer, Quits, Rests, Turns, Waits}

pub keeps_along : (old mid new : Tabled) → KeepsRows old mid → KeepsRows mid new → KeepsRows old new
keeps_along old mid new first next = record {
  clients = λ c. next.clients c ∙ first.clients c;
  links = λ l. next.links l ∙ first.links l;
  numbers = λ l. next.numbers l ∙ first.numbers l;
}

pub keeps_same : (old other new : Tabled) → KeepsRows old other → IsSame new other → KeepsRows old new
keeps_same old other new keeps same = record {
  clients = λ c. ap is_some (same.clients c) ∙ keeps.clients c;
  links = λ l. ap is_some (same.links l) ∙ keeps.links l;
  numbers = λ l. same.numbers l ∙ keeps.numbers l;
}

pub keeps_itself : (t : Tabled) → KeepsRows t t
keeps_itself t = record { clients = λ c. refl; links = λ l. refl; numbers = λ l. refl }

pub some_mapped : {A B : Type 0} (f : A → B) (o : Option A) → is_some (option_map f o) ≡ is_some o
some_mapped f None = refl
some_mapped f (Some a) = refl

-- a client's row becomes another
row_put : (c other : ClientNo) (row : Option Client) (t : Tabled) → is_some row ≡ is_some (t.clients c) → (b : Bool) → nat_eq c.0 other.0 ≡ b
    → is_some (if b then row else t.clients other) ≡ is_some (t.clients other)
row_put c other row t same true its = same ∙ ap (λ (n : ClientNo). is_some (t.clients n)) (client_of c other its)
row_put c other row t same false aside = refl

pub keeps_changed : (c : ClientNo) (by : Client → Client) (t : Tabled) → KeepsRows t (client_changed c by t)
keeps_changed c by t = record {
  clients = λ other. row_put c other (option_map by (t.clients c)) t (some_mapped by (t.clients c)) (nat_eq c.0 other.0) refl;
  links = λ l. refl;
  numbers = λ l. refl;
}

left_by : (c : ClientNo) (by : Seat → Seat) (t : Tabled) (found : Option Client) → t.clients c ≡ found
    → KeepsRows t (option_map_or (λ (row : Client). client_put c (Some (left_row by row)) (parted_in row.desk.sessions t)) found t)
left_by c by t None at = keeps_itself t
left_by c by t (Some row) at = record {
  clients = λ other. row_put c other (Some (left_row by row)) t (sym (ap is_some at)) (nat_eq c.0 other.0) refl;
  links = λ l. some_mapped _ (t.links l);
  numbers = λ l. refl;
}

pub keeps_left : (c : ClientNo) (by : Seat → Seat) (t : Tabled) → KeepsRows t (left_in c by t)
keeps_left c by t = left_by c by t (t.clients c) refl

-- one row changes
put_some : (l at : LinkId) (by : Server → Server) (t : Tabled) (b : Bool) → nat_eq l.0 at.0 ≡ b
    → is_some (if b then option_map by (t.links l) else t.links at) ≡ is_some (t.links at)
put_some l at by t true same = some_mapped by (t.links l) ∙ ap (λ (k : LinkId). is_some (t.links k)) (link_of l at same)
put_some l at by t false other = refl

pub keeps_link : (l : LinkId) (by : Server → Server) (t : Tabled) → KeepsRows t (link_changed l by t)
keeps_link l by t = record { clients = λ c. refl; links = λ at. put_some l at by t (nat_eq l.0 at.0) refl; numbers = λ at. refl }

freed_by : (l : LinkId) (t : Tabled) (b : Bool) → KeepsRows t (if b then freed_of l t else t)
freed_by l t true =
    let moved : Tabled = changed_at freed_row (present_in l t) t in
    keeps_along t moved (freed_of l t) (record { clients = λ c. changed_there freed_row (present_in l t) c (t.clients c); links = λ at. refl; numbers = λ at. refl }) (keeps_link l freed_server moved)
freed_by l t false = keeps_itself t

pub keeps_freed : (l : LinkId) (t : Tabled) → KeepsRows t (freed_in l t)
keeps_freed l t = freed_by l t (is_done_in l t)

pub keeps_all_freed : (links : List LinkId) (t : Tabled) → KeepsRows t (all_freed links t)
keeps_all_freed [] t = keeps_itself t
keeps_all_freed (l ∷ links) t =
    keeps_along t (freed_in l t) (all_freed links (freed_in l t)) (keeps_freed l t) (keeps_all_freed links (freed_in l t))

-- Turns.

module _ (service : Service) (default : List ℕ) (c : ClientNo) where
  comes_up : (old between : Tabled) → ComesUp service default c old between → KeepsRows old between
  comes_up old between up = keeps_same old _ between (keeps_changed c _ old) up.same

  -- its row changes behind that
  changes_then : (old between : Tabled) (by : Client → Client) (new : Tabled) → ComesUp service default c old between
      → IsSame new (client_changed c by between) → KeepsRows old new
  changes_then old between by new up same =
      keeps_along old between new (comes_up old between up) (keeps_same between (client_changed c by between) new (keeps_changed c by between) same)

  -- it leaves, and its row changes
  leaves_then : (old between : Tabled) (seat : Seat → Seat) (by : Client → Client) (new : Tabled) → ComesUp service default c old between
      → IsSame new (client_changed c by (left_in c seat between)) → KeepsRows old new
  leaves_then old between seat by new up same =
      keeps_along old between new (comes_up old between up)
      (keeps_same between (client_changed c by (left_in c seat between)) new
      (keeps_along between (left_in c seat between) (client_changed c by (left_in c seat between)) (keeps_left c seat between)
      (keeps_changed c by (left_in c seat between))) same)

  answer_keeps : (anew : Bool) (old between new : Tabled) (row : Client) (flag : ℕ) (packets : List ℕ) (statements : ClientStatements)
      → ComesUp service default c old between → MakesAnswer anew c flag packets statements row between new → KeepsRows old new
  answer_keeps true old between new row flag packets statements up makes = leaves_then old between _ _ new up makes.1
  answer_keeps false old between new row flag packets statements up makes = changes_then old between _ new up makes

  turn_keeps : (choice : Choice) (old new : Tabled) → IsTurn choice service default c old new → KeepsRows old new
  turn_keeps (Goes route keyed) old new turn = changes_then old turn.between _ new turn.up turn.same
  turn_keeps (Answers payloads) old new turn =
      answer_keeps (is_reset turn.up.message) old turn.between new turn.up.row turn.flag turn.packets turn.statements turn.up turn.makes

  halt_keeps : (halt : Halt) (old new : Tabled) → HaltsSo halt service default c old new → KeepsRows old new
  halt_keeps Waits old new halts = keeps_same old old new (keeps_itself old) halts.same
  halt_keeps Rests old new halts = keeps_same old _ new (keeps_changed c _ old) halts.same
  halt_keeps Quits old new halts = leaves_then old halts.between _ _ new halts.up halts.same
  halt_keeps Ends old new halts = keeps_same old _ new (keeps_left c _ old) halts.same

  pub turns_keep : (choices : List Choice) (halt : Halt) (old new : Tabled) → Turns choices halt service default c old new → KeepsRows old new
  turns_keep [] halt old new turns = halt_keeps halt old new turns
  turns_keep (choice ∷ others) halt old new turns =
      keeps_along old turns.0 new (turn_keeps choice old turns.0 turns.1) (turns_keep others halt turns.0 new turns.2)

  pub part_keeps : (parting : Parting) (old new : Tabled) → PartsSo parting c old new → KeepsRows old new
  part_keeps Stays old new parts = keeps_same old old new (keeps_itself old) parts
  part_keeps Leaves old new parts = keeps_same old _ new (keeps_left c ended old) parts.same
  part_keeps (Tells payload) old new parts =
      keeps_along old parts.between new (keeps_same old _ parts.between (keeps_changed c _ old) parts.told.same)
      (keeps_same parts.between _ new (keeps_left c ended parts.between) parts.leaves.same)

pub follows_keep_rows : (service : Service) (default : List ℕ) (c : ClientNo) (choices : List Choice) (halt : Halt) (parting : Parting)
    (links : List LinkId) (old new : Tabled) → FollowsSo service default c choices halt parting links old new → KeepsRows old new
follows_keep_rows service default c choices halt parting links old new so =
    keeps_along old so.turned new (turns_keep service default c choices halt old so.turned so.turns)
    (keeps_along so.turned so.parted new (part_keeps service default c parting so.turned so.parted so.parts)
    (keeps_same so.parted (all_freed links so.parted) new (keeps_all_freed links so.parted) so.freed))

pub going_keeps_rows : (service : Service) (default : List ℕ) (going : Option Going) (old new : Tabled) → GoesSo going service default old new
    → KeepsRows old new
going_keeps_rows service default None old new goes = keeps_same old old new (keeps_itself old) goes
going_keeps_rows service default (Some going) old new goes =
    follows_keep_rows service default going.client going.choices going.halt going.parting going.links old new goes
