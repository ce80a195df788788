-- A client's message that came up, and the tale as it is taken up.
use Rattle.std.specs.Prelude.{◌≡◌, ◌<◌, ◌+◌, ℕ, suc, Bool, slice_index_or, nat_eq, List, Option, Some, None}
use Rattle.packet_frame.specs.Packets.{Framed}
use Rattle.private_model.specs.Commands.{Command}
use Rattle.private_model.specs.View.{due_of, present}
use Rattle.log_story.specs.Clients.{taken_by}
use Rattle.log_story.specs.Executes.{requested}
use Rattle.log_story.specs.Owed.{name_of}
use Rattle.log_story.specs.Plan.{Route, com_reset, own_at}
use Rattle.log_story.specs.Tale as tales
use Rattle.log_story.specs.Tale.{Tale, with_client}
use Rattle.step_laws.specs.Seats.{IsSeated}
use Rattle.step_laws.specs.Taken.{next_of}
use Rattle.link_state.specs.declared.wish.Command.TheVariants.{Prepare}
use Rattle.run_laws.specs.Reads.{HasArgs}
use Rattle.stmt_map.specs.declared.client.ClientStatements.{ClientStatements}
use Rattle.client_desk.specs.declared.work.Work.{Work}
use Rattle.desk_laws.specs.Stands.{IsRequest}
use Rattle.core_tables.specs.Tables.{Tabled}
use Rattle.core_tables.specs.declared.client.Client.{Client}
use Rattle.core_stands.specs.Grounds.{Ground, view_on}
use Rattle.core_stands.specs.Stands.{IsKeyedFor}
use Rattle.core_laws.specs.arrival.Ups.{IsUpNext}

-- it is of a client of the tale, whose row this is
pub record IsUpOf (g : Ground) (t : Tabled) (client : tales.Client) (row : Client) : Type 0 where
  pub seated : IsSeated g.tale client
  pub there : t.clients client.number ≡ Some row
  pub up : IsUpNext g client row.desk.seat (suc client.taken)
  pub few : client.taken + 1 < 18446744073709551616

-- where it goes, and what the router itself answers to it by now

abbrev pub route_of : Ground → tales.Client → Option Route
route_of g client = g.plan.routes (name_of client (suc client.taken))

abbrev pub own_of : Ground → tales.Client → Option (List (List ℕ))
own_of g client = own_at g.plan g.tale.moment (name_of client (suc client.taken))

-- a COM_RESET_CONNECTION
abbrev pub is_reset : Framed → Bool
is_reset message = nat_eq (slice_index_or message.payload 0 0) com_reset

-- the tale as it is taken up
abbrev pub took : Ground → tales.Client → Framed → Tale
took g client message = with_client (next_of client) (taken_by g.setup g.plan client (suc client.taken) message (route_of g client) g.tale)

-- what is prepared gets the client's next number
abbrev pub IsNumberedAs : Route → Work → ClientStatements → Type 0
IsNumberedAs route work statements = work.command ≡ Prepare → (route.number ≡ statements.last + 1) × (statements.last < 4294967295)

-- It goes to a server by this route, and asks for this, which is the statement that becomes due. No copy of it is made.
pub record IsSent (g : Ground) (client : tales.Client) (message : Framed) (route : Route) (command : Command) (work : Work) : Type 0 where
  pub routed : route_of g client ≡ Some route
  pub unanswered : own_of g client ≡ None
  pub single : route.mirror ≡ None
  pub asked : requested g.setup (view_on g) g.plan client (suc client.taken) route message.payload ≡ Some (record { command = command; key = work.key })
  pub request : IsRequest g.setup.reads (suc client.taken) work.key command route.multiplex work
  pub hostgroup : work.hostgroup ≡ route.hostgroup
  pub keyed : IsKeyedFor g.setup route
      (due_of (view_on g) (present (view_on g) client.number work.hostgroup) (suc client.taken) work.key command route.multiplex) command
  pub whole : HasArgs command
