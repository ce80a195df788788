-- What code makes of the tables with a message that came up.
use Rattle.std.specs.Prelude.{◌≡◌, ℕ, Bool, true, false, All, List, Option, None, Some, ◌<◌, is_some}
use Rattle.mx_base.specs.declared.names.ClientNo.{ClientNo}
use Rattle.mx_base.specs.declared.names.Hostgroup.{Hostgroup}
use Rattle.packet_frame.specs.Packets.{Framed, spellings}
use Rattle.own_words.specs.Own.{IsOwnAnswer}
use Rattle.server_rule.specs.Classes.{Reads}
use Rattle.private_model.specs.Commands.{Command}
use Rattle.private_model.specs.Story.{Due, Key}
use Rattle.private_model.specs.View.{Setup}
use Rattle.run_laws.specs.Reads.{HasArgs}
use Rattle.log_story.specs.Plan.{Route}
use Rattle.client_session.specs.Answers.{is_quit}
use Rattle.client_desk.specs.declared.work.Work.{Work}
use Rattle.stmt_map.specs.declared.client.ClientStatements.{ClientStatements}
use Rattle.desk_laws.specs.Stands.{IsRequest}
use Rattle.row_laws.specs.Readied.{AreClasses}
use Rattle.core_stands.specs.Stands.{IsKeyedFor}
use Rattle.core_laws.specs.clients.Turns.{AreBoundSo, AreKeyed, Keyed, asked_by}
use Rattle.core_laws.specs.taking.Takes.{IsNumberedAs, is_reset}
use Rattle.core_tables.specs.Tables.{IsSame, Tabled, client_changed}
use Rattle.core_tables.specs.Taking.{answers, begins_anew, found_of, goes}
use Rattle.core_tables.specs.declared.client.Client.{Client}
use Rattle.core_promises.specs.Judges.{IsRoutedFor, IsToldFor}
use Rattle.core_promises.specs.Administers.{Makes}
use Rattle.core_promises.specs.Ruled.{AreKept, MakesNothing, Ruling, situation_at}
use Rattle.core_turns.specs.declared.turn.Stop.{Stop}
use Rattle.core_turns.specs.declared.turn.Stop.TheVariants as stops
use Rattle.core_turns.specs.declared.turn.Turn.{Turn}
use Rattle.core_turns.specs.declared.turn.Turn.TheVariants as turns
use Rattle.client_seat.specs.Numbers.{AreNoted}

-- Keys of texts, by their numbers; what is prepared so stands under them.

abbrev pub Keys : Type 0
Keys = (number : ℕ) → Option Key

abbrev pub AreUnder : Keys → List Keyed → Type 0
AreUnder keys keyed = All (λ (one : Keyed). keys one.number ≡ Some one.key) keyed

-- a fact of the client's row, and of the message that came up there
abbrev pub OnUp : ClientNo → Tabled → (Client → Framed → Type 0) → Type 0
OnUp c t fact = (row : Client) → t.clients c ≡ Some row → (message : Framed) → found_of row ≡ Some message → fact row message

-- The router answers it, in its own words, as the verdict says where the texts of what is prepared are kept; a COM_RESET_CONNECTION begins anew.

abbrev pub answered_so : (anew : Bool) → ClientNo → (flag : ℕ) → (packets : List ℕ) → ClientStatements → Tabled → Tabled
answered_so true c flag packets statements t = begins_anew c flag packets statements t
answered_so false c flag packets statements t = client_changed c (answers flag packets statements) t

pub record IsAnswered (ruling : Ruling) (c : ClientNo) (row : Client) (message : Framed) (old new : Tabled) : Type 0 where
  pub payloads : List (List ℕ)
  pub own : IsOwnAnswer ruling.book.rules c payloads
  pub ruled : AreKept ruling row.desk.seat.statements → IsToldFor ruling.book (situation_at ruling.keys row.desk) c message.payload payloads
  pub made : Makes row.desk.seat.port message.payload (Some payloads) ruling.was ruling.is
  pub flag : ℕ
  pub packets : List ℕ
  pub statements : ClientStatements
  pub spelt : packets ≡ spellings row.desk.seat.first payloads
  pub noted : AreNoted true message.payload row.desk.seat.statements statements
  pub makes : IsSame new (answered_so (is_reset message) c flag packets statements old)

-- It goes to a server in this hostgroup alone, as the verdict says: a statement of it is due.
pub record IsDueThere (hostgroup : Hostgroup) (ordinal : ℕ) (ruling : Ruling) (c : ClientNo) (row : Client) (message : Framed) (old new : Tabled) : Type 0 where
  pub route : Route
  pub keyed : List Keyed
  pub there : route.hostgroup ≡ hostgroup
  pub single : route.mirror ≡ None
  pub under : AreUnder ruling.keys keyed
  pub prepares : 0 < route.number → is_some (ruling.keys route.key) ≡ true
  pub ruled : AreKept ruling row.desk.seat.statements
      → IsRoutedFor ruling.book (situation_at ruling.keys row.desk) ruling.keys c message.payload route
  pub nothing : MakesNothing ruling
  pub flag : ℕ
  pub command : Command
  pub work : Work
  pub statements : ClientStatements
  pub asked : (setup : Setup) → AreKeyed keyed setup.keys
      → asked_by setup route row.desk.seat message.payload ≡ Some (record { command = command; key = work.key })
  pub request : (reads : Reads) → AreClasses reads → IsRequest reads ordinal work.key command route.multiplex work
  pub at : work.hostgroup ≡ route.hostgroup
  pub numbered : IsNumberedAs route work row.desk.seat.statements
  pub keyed_for : (setup : Setup) → AreKeyed keyed setup.keys → (due : Due) → due.key ≡ work.key → due.place ≡ row.desk.seat.place
      → IsKeyedFor setup route due command
  pub whole : AreBoundSo row.desk.seat.statements → HasArgs command
  pub noted : AreNoted false message.payload row.desk.seat.statements statements
  pub same : IsSame new (client_changed c (goes flag work statements) old)

-- The client says that it quits, which changes nothing yet.

pub record IsQuit (message : Framed) (old new : Tabled) : Type 0 where
  pub quits_only : is_reset message ≡ false
  pub says : is_quit message.payload ≡ true
  pub same : IsSame new old

abbrev pub IsStopped : Stop → Framed → (old new : Tabled) → Type 0
IsStopped (stops.Quits flag) message old new = IsQuit message old new
IsStopped _ message old new = ⊥

abbrev pub IsTakenUp : Turn → (ordinal : ℕ) → Ruling → ClientNo → Client → Framed → (old new : Tabled) → Type 0
IsTakenUp (turns.Stops stop) ordinal ruling c row message old new = IsStopped stop message old new × MakesNothing ruling
IsTakenUp turns.Answered ordinal ruling c row message old new = IsAnswered ruling c row message old new
IsTakenUp (turns.Due hostgroup) ordinal ruling c row message old new = IsDueThere hostgroup ordinal ruling c row message old new
