-- The laws of desks, clients and links that are composed here.
use Rattle.std.specs.Prelude.{◌≡◌, ◌<◌, ℕ, Bool, false, Option, None, Some}
use Rattle.mx_base.specs.declared.names.Hostgroup.{Hostgroup}
use Rattle.server_rule.specs.Classes.{Reads}
use Rattle.server_rule.specs.Replies.{one_number}
use Rattle.private_model.specs.Commands.{Reply, end_of, is_ok, is_prepare}
use Rattle.private_model.specs.Names.{ClientNo, LinkId, SessionName}
use Rattle.private_model.specs.Story.{Due, Happening, Heard, Question, Statement, command_of}
use Rattle.private_model.specs.View.{Answered, Setup, View, view_step}
use Rattle.log_story.specs.Tale as tales
use Rattle.log_story.specs.Tale.{tell}
use Rattle.link_state.specs.declared.asking.Asking.{Asking}
use Rattle.link_laws.specs.Stands.{Codes, IsAsking}
use Rattle.client_seat.specs.declared.seat.Seat.{Seat}
use Rattle.client_desk.specs.Desks.{heard_in, moved_by, name_of}
use Rattle.client_desk.specs.declared.desk.Desk.{Desk}
use Rattle.desk_laws.specs.Spares.{IsAside, Spares, SparesToCome, asked_for, named, touches}
use Rattle.desk_laws.specs.Stands.{AreToCome, HasRow, IsDesk}
use Rattle.core_tables.specs.Tables.{Tabled}
use Rattle.core_stands.specs.Grounds.{Ground, on, view_on}
use Rattle.core_stands.specs.Stands.{IsAt}

-- of desks
pub record DeskLaws : Type 0 where
  pub hears : (setup : Setup) (codes : Codes) (view : View) (c : ClientNo) (desk : Desk) → IsDesk setup.reads view c desk
      → (link : LinkId) (reply : Reply) (question : Question) (asking : Asking) (multiplex : Option Bool) (h : Hostgroup)
      → (view.links link).stage ≡ Answered question → IsAside question → asked_for question ≡ Some (name_of desk h)
      → IsAsking setup.reads codes asking question → reply.to_prepare ≡ is_prepare (command_of question) → HasRow desk.sessions h
      → IsDesk setup.reads (view_step setup view (Heard link reply)) c
      (heard_in h asking multiplex (end_of reply) (one_number reply.payloads) desk)
  pub answers : (setup : Setup) (codes : Codes) (view : View) (c : ClientNo) (desk : Desk) → IsDesk setup.reads view c desk
      → (link : LinkId) (reply : Reply) (n : SessionName) (due : Due) (asking : Asking) (h : Hostgroup) (seat : Seat)
      → (view.links link).stage ≡ Answered (Statement n due) → n ≡ name_of desk h → seat.client.number ≡ desk.seat.client.number
      → seat.phase ≡ desk.seat.phase → seat.place ≡ (moved_by asking.form (is_ok reply) desk.seat).place
      → IsAsking setup.reads codes asking (Statement n due) → reply.to_prepare ≡ is_prepare due.command → HasRow desk.sessions h
      → IsDesk setup.reads (view_step setup view (Heard link reply)) c
      (record (heard_in h asking due.multiplex (end_of reply) (one_number reply.payloads) desk) { seat = seat; work = None })
  pub parts : (setup : Setup) (view : View) (c : ClientNo) (desk : Desk) (e : Happening) (n : SessionName) → IsDesk setup.reads view c desk
      → named view e ≡ Some n → n.life < view.lives n.client n.hostgroup → Spares view desk e → IsDesk setup.reads (view_step setup view e) c desk
  pub comes : (setup : Setup) (view : View) (c : ClientNo) (from : ℕ) (e : Happening) → AreToCome view c from → SparesToCome view c from e
      → AreToCome (view_step setup view e) c from
  pub rows : (reads : Reads) (view : View) (c : ClientNo) (desk : Desk) → IsDesk reads view c desk → (h : Hostgroup) (link : LinkId)
      → (view.held (name_of desk h)).home ≡ Some link → HasRow desk.sessions h

-- of clients to whom nothing happens
abbrev pub OthersStay : Type 0
OthersStay =
    (g : Ground) (t other : Tabled) (client : tales.Client) (e : Happening) → IsAt g t client
    → touches (view_on g) e client.number ≡ false → other.clients client.number ≡ t.clients client.number
    → other.numbers client.link ≡ t.numbers client.link → IsAt (on g (tell e g.tale)) other client
