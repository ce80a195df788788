-- What bytes that are read on a link to a server make of the tables, and what they tell.
use Rattle.std.specs.Prelude.{◌≡◌, ℕ, Bool, nat_lt, is_some, if◌then◌else◌, List, length, take, Option, Some, None, Ok}
use Rattle.mx_base.specs.declared.names.Hostgroup.{Hostgroup}
use Rattle.mx_base.specs.declared.names.LinkId.{LinkId}
use Rattle.session_state.specs.Endings.{is_ok}
use Rattle.session_state.specs.declared.reply_end.ReplyEnd.{ReplyEnd}
use Rattle.link_state.specs.declared.asking.Asking.{Asking}
use Rattle.link_state.specs.declared.asking.Purpose.{Purpose}
use Rattle.link_state.specs.declared.asking.Purpose.TheVariants.{Statement, Prep, Sync, Own, End, Capture}
use Rattle.client_seat.specs.Answers.{grown}
use Rattle.client_desk.specs.Desks.{done, heard_in, moved_by}
use Rattle.client_desk.specs.declared.desk.Desk.{Desk}
use Rattle.served_link.specs.Reads.{ReadsTo}
use Rattle.served_link.specs.declared.news.News.{News}
use Rattle.served_link.specs.declared.news.News.TheVariants as news
use Rattle.served_link.specs.declared.row.Row.{Row}
use Rattle.core_tables.specs.Tables.{IsSame, Tabled, client_changed, link_changed}
use Rattle.core_tables.specs.declared.client.Client.{Client}
use Rattle.core_tables.specs.declared.said.Said.{Said}
use Rattle.core_tables.specs.declared.said.Said.TheVariants as said
use Rattle.core_tables.specs.declared.server.Server.{Server}

-- What an answer makes of the client for whom it was asked.

-- a piece of its reply came
abbrev pub grown_by : (made : List ℕ) → Desk → Desk
grown_by made desk = record desk { seat = grown made desk.seat }

-- its statement is answered, and may have moved it
abbrev pub moved_in : Asking → ReplyEnd → Desk → Desk
moved_in asking end desk = record desk { seat = moved_by asking.form (is_ok end) desk.seat }

-- the end of an answer, with what a rule says of sharing the link, and the number that was read of it
pub record Answer : Type 0 where
  pub asking : Asking
  pub multiplex : Option Bool
  pub end : ReplyEnd
  pub number : Option ℕ

abbrev pub answer_of : Asking → (multiplex : Option Bool) → ReplyEnd → (number : Option ℕ) → Answer
answer_of asking multiplex end number = record { asking = asking; multiplex = multiplex; end = end; number = number }

abbrev pub told_of : Answer → Hostgroup → Desk → Desk
told_of a h desk = heard_in h a.asking a.multiplex a.end a.number desk

-- with the last bytes of its reply
abbrev pub replied_by : Answer → Hostgroup → (made : List ℕ) → Desk → Desk
replied_by a h made desk = done (moved_in a.asking a.end (grown_by made (told_of a h desk)))

abbrev pub at_desk : (Desk → Desk) → Client → Client
at_desk by client = record client { desk = by client.desk }

abbrev pub answered_for : Purpose → Answer → (made : List ℕ) → Tabled → Tabled
answered_for (Statement n ordinal key) a made t = client_changed n.client (at_desk (replied_by a n.hostgroup made)) t
answered_for (Prep n ordinal key) a made t = client_changed n.client (at_desk (told_of a n.hostgroup)) t
answered_for (Sync n) a made t = client_changed n.client (at_desk (told_of a n.hostgroup)) t
answered_for Own a made t = t
answered_for (End n) a made t = client_changed n.client (at_desk (told_of a n.hostgroup)) t
answered_for (Capture n) a made t = client_changed n.client (at_desk (told_of a n.hostgroup)) t

-- by what was read, of a session that its client didn't leave
abbrev pub told_by : News → (multiplex : Option Bool) → (made : List ℕ) → Tabled → Tabled
told_by (news.Part n) multiplex made t = client_changed n.client (at_desk (grown_by made)) t
told_by (news.Whole asking end number used) multiplex made t =
    answered_for asking.purpose (record { asking = asking; multiplex = multiplex; end = end; number = number }) (take used made) t
told_by _ multiplex made t = t

-- of one that was left nothing is told
abbrev pub told_to : Row → News → (made : List ℕ) → Tabled → Tabled
told_to row news made t = if is_some row.left then t else told_by news row.multiplex made t

-- A row reads bytes at a moment: what it is then, what that tells, and the bytes as the client gets them.
pub record IsReading (old : Row) (bytes : List ℕ) (now : ℕ) : Type 0 where
  pub row : Row
  pub news : News
  pub made : List ℕ
  pub reads : ReadsTo (Ok news) row made old bytes now

abbrev pub with_row : Row → Server → Server
with_row row server = record server { row = row }

abbrev pub heard_on : {old : Row} {bytes : List ℕ} {now : ℕ} → LinkId → IsReading old bytes now → Tabled → Tabled
heard_on l reading t = told_to reading.row reading.news reading.made (link_changed l (with_row reading.row) t)

-- What follows, for whoever goes on; `size` is that of the bytes.
abbrev pub said_by : News → (size : ℕ) → Said
said_by news.LoggedIn size = said.LoggedIn
said_by (news.LoginFailed shuns) size = said.LoginFailed shuns
said_by (news.Whole asking end number used) size = said.Answered asking.purpose end (nat_lt used size)
said_by (news.Bad place) size = said.Bad place
said_by _ size = said.Nothing

-- Both, on a link that is there; on another nothing is read.
pub record IsHeardOn (server : Server) (l : LinkId) (bytes : List ℕ) (now : ℕ) (result : Said) (new old : Tabled) : Type 0 where
  pub reading : IsReading server.row bytes now
  pub tables : IsSame new (heard_on l reading old)
  pub tells : result ≡ said_by reading.news (length bytes)

abbrev pub IsHeardBy : Option Server → LinkId → (bytes : List ℕ) → (now : ℕ) → Said → (new old : Tabled) → Type 0
IsHeardBy None l bytes now result new old = IsSame new old × (result ≡ said.Nothing)
IsHeardBy (Some server) l bytes now result new old = IsHeardOn server l bytes now result new old

abbrev pub IsHeard : LinkId → (bytes : List ℕ) → (now : ℕ) → Said → (new old : Tabled) → Type 0
IsHeard l bytes now result new old = IsHeardBy (old.links l) l bytes now result new old
