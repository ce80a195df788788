-- Changes of a client's row after which it has to do with no more links than before.
use Rattle.std.specs.Prelude.{◌≡◌, ℕ, Bool, true, false, nat_eq, if◌then◌else◌, List, [], ◌∷◌, ◌++◌, Option, Some, None}
use Rattle.std.proofs.Common.{◌∙◌, refl, ap, inl, inr}
use Rattle.std.proofs.lemmas.Bool.{cases_Bool}
use Rattle.mx_base.specs.declared.names.Hostgroup.{Hostgroup}
use Rattle.mx_base.specs.declared.names.LinkId.{LinkId}
use Rattle.packet_frame.specs.Packets.{Framed}
use Rattle.session_state.specs.Endings.{is_ok}
use Rattle.session_state.specs.declared.names.SessionName.{SessionName}
use Rattle.client_side.specs.Client.{ClientState}
use Rattle.client_side.specs.Steps as steps
use Rattle.client_side.specs.declared.step.ClientStep.{ClientStep}
use Rattle.client_side.specs.declared.step.ClientStep.TheVariants as says
use Rattle.client_session.specs.Setups.{Setup}
use Rattle.handshake.specs.declared.response.Response.{Response}
use Rattle.server_side.specs.Account.{Account}
use Rattle.link_state.specs.declared.asking.Form.{Form}
use Rattle.link_state.specs.declared.asking.Form.TheVariants as forms
use Rattle.stmt_map.specs.declared.client.ClientStatements.{ClientStatements}
use Rattle.client_seat.specs.Answers.{grown, replied}
use Rattle.client_seat.specs.Seats.{got, got_in, has_room, wrote}
use Rattle.client_seat.specs.Takings.{begun_anew}
use Rattle.client_seat.specs.Turns.{LoginStep, admitted, comes_up, logs_in_as, logs_in_if, looks_in, message_by, message_found, next_message, rests, stepped_in, turned_in}
use Rattle.client_seat.specs.Words.{with_word}
use Rattle.client_seat.specs.declared.phase.Phase.{Phase}
use Rattle.client_seat.specs.declared.phase.Phase.TheVariants as phase
use Rattle.client_seat.specs.declared.seat.Seat.{Seat}
use Rattle.client_desk.specs.Answers.{heard}
use Rattle.client_desk.specs.Desks.{changed, moved_by, session_of}
use Rattle.client_desk.specs.Sessions.{first_session, homed, is_in, next_session, next_sessions, put_in, stated, unhomed}
use Rattle.client_desk.specs.declared.session.Session.{Session}
use Rattle.client_desk.specs.declared.work.Work.{Work}
use Rattle.core_tables.specs.Arrivals.{seated, turn}
use Rattle.core_tables.specs.Beginning.{client_given, with_work}
use Rattle.core_tables.specs.Hearing.{Answer, at_desk, grown_by, replied_by, told_of}
use Rattle.core_tables.specs.Noting.{with_note}
use Rattle.core_tables.specs.Parting.{freed_row, given_row, gone_row, left_row}
use Rattle.core_tables.specs.Taking.{answers, found_of, goes, goes_found, passes, passes_found}
use Rattle.core_tables.specs.Writing.{client_lent, client_sent}
use Rattle.core_tables.specs.declared.client.Client.{Client}
use Rattle.core_tables.specs.declared.client.ClientNote.{ClientNote}
use Rattle.core_says.specs.Marking.{AreAway, IsClear}
use Rattle.core_says.specs.Says.{is_at}
use Rattle.core_says.proofs.Links.{home_away}
use Rattle.marked_tables.specs.Marking.{IsOther}

abbrev pub Spares : LinkId → (Client → Client) → Type 0
Spares link by = (row : Client) → IsClear link row → IsClear link (by row)

pub spares_both : (link : LinkId) (first next : Client → Client) → Spares link first → Spares link next → Spares link (λ row. next (first row))
spares_both link first next one two row clear = two (first row) (one row clear)

-- The seat.

pub seated_spares : (by : Seat → Seat) → ((seat : Seat) → (by seat).link ≡ seat.link) → (link : LinkId) → Spares link (seated by)
seated_spares by same link row clear = record {
  own = ap (λ (l : LinkId). nat_eq l.0 link.0) (same row.desk.seat) ∙ clear.own;
  readied = clear.readied;
  away = clear.away;
}

got_link : (p : Phase) (bytes : List ℕ) (seat : Seat) → (got_in p bytes seat).link ≡ seat.link
got_link phase.LoggingIn bytes seat = refl
got_link (phase.Serving account) bytes seat = refl
got_link phase.Ended bytes seat = refl

pub got_spares : (bytes : List ℕ) (link : LinkId) → Spares link (seated (got bytes))
got_spares bytes link = seated_spares (got bytes) (λ seat. got_link seat.phase bytes seat) link

pub wrote_spares : (count : ℕ) (link : LinkId) → Spares link (seated (wrote count))
wrote_spares count link = seated_spares (wrote count) (λ seat. refl) link

pub word_spares : (payload : List ℕ) (client : ClientState) (link : LinkId) → Spares link (seated (with_word payload client))
word_spares payload client link = seated_spares (with_word payload client) (λ seat. refl) link

-- What a client says next.

up_link : (b : Bool) (ordinal first : ℕ) (seat : Seat) → has_room seat ≡ b → (comes_up ordinal first seat).seat.link ≡ seat.link
up_link true ordinal first seat room = rw room refl
up_link false ordinal first seat room = rw room refl

message_link : (limit : ℕ) (step : ClientStep) (seat : Seat) → (message_by limit step seat).seat.link ≡ seat.link
message_link limit says.Nothing seat = refl
message_link limit (says.Login first) seat = refl
message_link limit (says.Message ordinal first) seat = up_link (has_room seat) ordinal first seat refl
message_link limit (says.Refused first fault) seat = refl

answered_link : (b : Bool) (limit : ℕ) (found : steps.Next) (seat : Seat)
    → (if b then message_found limit found seat else rests seat).seat.link ≡ seat.link
answered_link true limit found seat = message_link limit found.step (record seat { client = found.client })
answered_link false limit found seat = refl

next_link : (limit : ℕ) (seat : Seat) → (next_message limit seat).seat.link ≡ seat.link
next_link limit seat = answered_link seat.answered limit (steps.next_of seat.client.stage seat.client) seat

account_link : (account : Option Account) (setup : Setup) (default : List ℕ) (response : Response) (first : ℕ) (seat : Seat)
    → (logs_in_as account setup default response first seat).seat.link ≡ seat.link
account_link None setup default response first seat = refl
account_link (Some account) setup default response first seat = next_link setup.limit (admitted default account response first seat)

login_link : (setup : Setup) (default : List ℕ) (response : Option Response) (first : ℕ) (seat : Seat)
    → (logs_in_if setup default response first seat).seat.link ≡ seat.link
login_link setup default None first seat = refl
login_link setup default (Some response) first seat = account_link _ setup default response first seat

looks_link : (setup : Setup) (default : List ℕ) (step : ClientStep) (seat : Seat) → (looks_in setup default step seat).seat.link ≡ seat.link
looks_link setup default says.Nothing seat = refl
looks_link setup default (says.Login first) seat = login_link setup default _ first seat
looks_link setup default (says.Message ordinal first) seat = refl
looks_link setup default (says.Refused first fault) seat = refl

turn_link : (p : Phase) (setup : Setup) (default : List ℕ) (seat : Seat) → (turned_in p setup default seat).seat.link ≡ seat.link
turn_link phase.LoggingIn setup default seat =
    let found : LoginStep = stepped_in (steps.next_of seat.client.stage seat.client) seat in
    looks_link setup default found.step found.seat
turn_link (phase.Serving account) setup default seat = next_link setup.limit seat
turn_link phase.Ended setup default seat = refl

pub turn_spares : (setup : Setup) (default : List ℕ) (link : LinkId) → Spares link (seated (turn setup default))
turn_spares setup default link = seated_spares (turn setup default) (λ seat. turn_link seat.phase setup default seat) link

-- Its message is taken up.

anew_link : (b : Bool) (seat : Seat) → (if b then begun_anew seat else seat).link ≡ seat.link
anew_link true seat = refl
anew_link false seat = refl

passed_clear : (flag : ℕ) (statements : ClientStatements) (found : Option Framed) (link : LinkId) (row : Client) → IsClear link row
    → IsClear link (passes_found flag statements found row)
passed_clear flag statements None link row clear = clear
passed_clear flag statements (Some message) link row clear = record {
  own = ap (λ (l : LinkId). nat_eq l.0 link.0) (anew_link _ row.desk.seat) ∙ clear.own;
  readied = clear.readied;
  away = clear.away;
}

pub passes_spares : (flag : ℕ) (statements : ClientStatements) (link : LinkId) → Spares link (passes flag statements)
passes_spares flag statements link row clear = passed_clear flag statements (found_of row) link row clear

pub answers_spares : (flag : ℕ) (packets : List ℕ) (statements : ClientStatements) (link : LinkId) → Spares link (answers flag packets statements)
answers_spares flag packets statements link row clear =
    seated_spares (λ seat. replied (grown packets seat)) (λ seat. refl) link (passes flag statements row) (passes_spares flag statements link row clear)

away_more : (link : LinkId) (rows : List Session) (h : Hostgroup) (life : ℕ) → AreAway link rows → AreAway link (rows ++ first_session h life ∷ [])
away_more link [] h life away = (refl, tt)
away_more link (s ∷ rows) h life away = (away.0, away_more link rows h life away.1)

away_if : (b : Bool) (link : LinkId) (rows : List Session) (h : Hostgroup) (life : ℕ) → AreAway link rows
    → AreAway link (if b then rows else rows ++ first_session h life ∷ [])
away_if true link rows h life away = away
away_if false link rows h life away = away_more link rows h life away

sent_clear : (flag : ℕ) (work : Work) (statements : ClientStatements) (found : Option Framed) (link : LinkId) (row : Client) → IsClear link row
    → IsClear link (goes_found flag work statements found row)
sent_clear flag work statements None link row clear = clear
sent_clear flag work statements (Some message) link row clear = record {
  own = clear.own;
  readied = clear.readied;
  away = away_if _ link row.desk.sessions work.hostgroup row.desk.lefts clear.away;
}

pub goes_spares : (flag : ℕ) (work : Work) (statements : ClientStatements) (link : LinkId) → Spares link (goes flag work statements)
goes_spares flag work statements link row clear = sent_clear flag work statements (found_of row) link row clear

-- Its statement is answered by the router, and its work changes.

pub given_spares : (payload : List ℕ) (link : LinkId) → Spares link (given_row (Some payload))
given_spares payload link row clear = record { own = clear.own; readied = clear.readied; away = clear.away }

pub work_spares : (work : Option Work) (link : LinkId) → Spares link (with_work work)
work_spares work link row clear = record { own = clear.own; readied = clear.readied; away = clear.away }

pub back_spares : (name : SessionName) (ordinal : ℕ) (form : Form) (packets : List ℕ) (link : LinkId) → Spares link (client_given name ordinal form packets)
back_spares name ordinal form packets link row clear = record { own = clear.own; readied = clear.readied; away = clear.away }

-- Its sessions are left.

left_away : (link : LinkId) (rows : List Session) → AreAway link (next_sessions rows)
left_away link [] = tt
left_away link (s ∷ rows) = (refl, left_away link rows)

pub left_spares : (by : Seat → Seat) → ((seat : Seat) → (by seat).link ≡ seat.link) → (link : LinkId) → Spares link (left_row by)
left_spares by same link row clear = record {
  own = ap (λ (l : LinkId). nat_eq l.0 link.0) (same row.desk.seat) ∙ clear.own;
  readied = clear.readied;
  away = left_away link row.desk.sessions;
}

-- One session changes.

put_away : (link : LinkId) (rows : List Session) (s : Session) → is_at link s.home ≡ false → AreAway link rows → AreAway link (put_in rows s)
put_away link [] s off away = tt
put_away link (row ∷ rows) s off away = elim (cases_Bool (is_in s.hostgroup row)) [
  | inl on ↦ rw on (off, away.1)
  | inr other ↦ rw other (away.0, put_away link rows s off away.1)
]

pub session_spares : (by : Session → Session) (h : Hostgroup) (link : LinkId)
    → ((s : Session) → is_at link s.home ≡ false → is_at link (by s).home ≡ false) → Spares link (at_desk (changed by h))
session_spares by h link off row clear = record {
  own = clear.own;
  readied = clear.readied;
  away = put_away link row.desk.sessions (by (session_of row.desk h))
      (off (session_of row.desk h) (home_away row.desk.lefts row.desk.sessions h link clear.away)) clear.away;
}

pub freed_spares : (h : Hostgroup) (link : LinkId) → Spares link (freed_row h)
freed_spares h link row clear = session_spares unhomed h link (λ s off. refl) row clear

pub gone_spares : (h : Hostgroup) (link : LinkId) → Spares link (gone_row h)
gone_spares h link row clear = session_spares next_session h link (λ s off. refl) row clear

-- a statement of it goes out on a link, which is another than this
pub sent_spares : (h : Hostgroup) (l : LinkId) (lasting : Bool) (link : LinkId) → IsOther l link → Spares link (client_sent h l lasting)
sent_spares h l lasting link other row clear =
    work_spares _ link _ (session_spares (stated l lasting) h link (λ s off. other) row clear)

-- or it is lent to a session of it
pub lent_spares : (h : Hostgroup) (l link : LinkId) → IsOther l link → Spares link (client_lent h l)
lent_spares h l link other row clear = session_spares (homed l) h link (λ s off. other) row clear

-- an answer to it is heard
pub told_spares : (a : Answer) (h : Hostgroup) (link : LinkId) → Spares link (at_desk (told_of a h))
told_spares a h link row clear = session_spares (heard a.asking a.multiplex a.end a.number) h link (λ s off. off) row clear

pub grown_spares : (made : List ℕ) (link : LinkId) → Spares link (at_desk (grown_by made))
grown_spares made link row clear = record { own = clear.own; readied = clear.readied; away = clear.away }

moved_link : (form : Form) (ok : Bool) (seat : Seat) → (moved_by form ok seat).link ≡ seat.link
moved_link (forms.Text class) ok seat = refl
moved_link (forms.Prepare class) ok seat = refl
moved_link forms.Fields ok seat = refl
moved_link (forms.SetId id) ok seat = refl
moved_link forms.ReadId ok seat = refl
moved_link forms.Reset ok seat = refl

pub replied_spares : (a : Answer) (h : Hostgroup) (made : List ℕ) (link : LinkId) → Spares link (at_desk (replied_by a h made))
replied_spares a h made link row clear =
    let told : IsClear link (at_desk (told_of a h) row) = told_spares a h link row clear in
    record {
      own = ap (λ (l : LinkId). nat_eq l.0 link.0) (moved_link a.asking.form (is_ok a.end) (grown made (told_of a h row.desk).seat)) ∙ told.own;
      readied = told.readied;
      away = told.away;
    }

-- What is noted of it.

pub note_spares : (note : ClientNote) (link : LinkId) → is_at link note.readied ≡ false → Spares link (with_note note)
note_spares note link off row clear = record { own = clear.own; readied = off; away = clear.away }
