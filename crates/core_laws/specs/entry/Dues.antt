-- What was written to clients is due to them, from entry to entry.
use Rattle.std.specs.Prelude.{◌≡◌, ◌⊎◌, ◌<◌, ◌≤◌, ℕ, suc, ◌+◌, Bool, true, false, is_some, All, length, take, List, [], ◌∷◌, ◌++◌, Some, None}
use Rattle.mx_wire.specs.Log.{Log, written_of}
use Rattle.mx_wire.specs.declared.entry.Entry.{Entry}
use Rattle.packet_frame.specs.Packets.{Framed}
use Rattle.client_seat.specs.Stands.{Known, answer_to, due_so_far}
use Rattle.private_model.specs.Commands.{Reply}
use Rattle.private_model.specs.Names.{LinkId, MessageName}
use Rattle.log_story.specs.Honest.{IsFront}
use Rattle.client_session.specs.Answers.{opening_of}
use Rattle.client_side.specs.Login.{Opening, Waits}
use Rattle.log_story.specs.Owed.{due_bytes, messages, name_of, talk_of}
use Rattle.log_story.specs.Plan.{Alone, Behind, ForLogin, LastWord, Plan, WordPlace, gives_up, own_at, word_at}
use Rattle.log_story.specs.Tale.{Client}
use Rattle.step_laws.specs.Seats.{IsSeated}
use Rattle.core_tables.specs.declared.client.Client as rows
use Rattle.core_stands.specs.Clients.{IsClient}
use Rattle.core_stands.specs.Grounds.{Ground, known_on}

-- what a client is due by now; of one that goes on these are the answers to its login and to the messages that were taken up

abbrev pub due_by : (over : Bool) → Known → Client → List ℕ
due_by true x client = due_bytes x.view.replies x.plan x.moment client
due_by false x client = due_so_far x client

abbrev pub due_on : Ground → Client → List ℕ
due_on g client = due_by (g.over client.number) (known_on g) client

-- Where one that ended was told a last word, all of its messages were answered that were taken up.
abbrev pub IsToldAll : Ground → Client → Type 0
IsToldAll g client =
    (ordinal : ℕ) (message : Framed) → is_some (word_at g.plan g.tale.moment client.number) ≡ true → 0 < ordinal → ordinal ≤ client.taken
    → is_some (answer_to (known_on g) client ordinal message) ≡ true

pub record IsWrittenTo (g : Ground) (log : Log) (client : Client) : Type 0 where
  pub size : length (written_of client.link log) ≡ client.written
  pub front : IsFront (written_of client.link log) (due_on g client)
  pub told : g.over client.number ≡ true → IsToldAll g client

-- to each
abbrev pub AreWrittenTo : Ground → Log → Type 0
AreWrittenTo g log = All (IsWrittenTo g log) g.tale.clients

-- those who go on have no last word
abbrev pub AreSilent : Ground → Type 0
AreSilent g = All (λ (client : Client). g.over client.number ≡ false → word_at g.plan g.tale.moment client.number ≡ None) g.tale.clients

-- what an entry writes on a link
abbrev pub written_by : LinkId → Entry → List ℕ
written_by l e = written_of l (e ∷ [])

-- A client behind an entry: it was there, and is due what it was due, and maybe more; or it came.

pub record IsGrown (old new : Ground) (e : Entry) (client : Client) : Type 0 where
  pub was : Client
  pub seated : IsSeated old.tale was
  pub link : client.link ≡ was.link
  pub count : client.written ≡ was.written + length (written_by was.link e)
  pub due : IsFront (due_on old was) (due_on new client)
  pub told : new.over client.number ≡ true → IsToldAll new client

pub record IsCome (log : Log) (e : Entry) (client : Client) : Type 0 where
  pub none : written_of client.link (log ++ e ∷ []) ≡ []
  pub count : client.written ≡ 0
  pub untaken : client.taken ≡ 0

-- and what an entry writes to it goes on with what was due
abbrev pub WritesTo : Ground → Log → Entry → Type 0
WritesTo g log e =
    (client : Client) → IsSeated g.tale client → IsFront (written_of client.link log ++ written_by client.link e) (due_on g client)

-- by its row, or nothing is

pub record IsTakenOf (g : Ground) (e : Entry) (client : Client) : Type 0 where
  pub row : rows.Client
  pub stands : IsClient g client row
  pub looked : g.fresh client.number ≡ false
  pub count : ℕ
  pub taken : written_by client.link e ≡ take count row.desk.seat.outbox.due

abbrev pub IsWrittenBy : Ground → Entry → Client → Type 0
IsWrittenBy g e client = (written_by client.link e ≡ []) ⊎ IsTakenOf g e client

-- A client that says more, of which more messages are taken up, and whose answers stay.

pub record Continues (x y : Known) (old new : Client) : Type 0 where
  pub plan : y.plan ≡ x.plan
  pub number : new.number ≡ old.number
  pub port : new.port ≡ old.port
  pub salt : new.salt ≡ old.salt
  pub more : List ℕ
  pub read : new.read ≡ old.read ++ more
  pub taken : old.taken ≤ new.taken
  pub within : old.taken ≤ length (messages x.plan old)
  pub answers : (ordinal : ℕ) (message : Framed) (bytes : List ℕ) → ordinal ≤ old.taken → answer_to x old ordinal message ≡ Some bytes
      → answer_to y new ordinal message ≡ Some bytes

-- its answers stay where replies do, and nothing is given up that was answered
pub record AnswersStay (x y : Known) (client : Client) : Type 0 where
  pub plan : y.plan ≡ x.plan
  pub moment : y.moment ≡ suc x.moment
  pub replies : (m : MessageName) (reply : Reply) → x.view.replies m ≡ Some reply → y.view.replies m ≡ Some reply
  pub given : (ordinal : ℕ) (reply : Reply) → ordinal ≤ client.taken → x.view.replies (name_of client ordinal) ≡ Some reply
      → own_at x.plan x.moment (name_of client ordinal) ≡ None → gives_up x.plan y.moment (name_of client ordinal) ≡ false

-- A client ends, with no last word, one behind all, or one in place of the answer to its login, which isn't there yet.

abbrev pub waits_still : Opening → Bool
waits_still (Waits switched) = true
waits_still _ = false

abbrev pub IsSaidLast : WordPlace → Plan → Client → Type 0
IsSaidLast Alone plan old = ⊥
IsSaidLast ForLogin plan old = waits_still (opening_of (talk_of plan old)) ≡ true
IsSaidLast Behind plan old = Unit {0}

abbrev pub EndsSaying : Known → Known → Client → Client → Type 0
EndsSaying x y old new = (word : LastWord) → word_at y.plan y.moment new.number ≡ Some word → IsSaidLast word.place x.plan old

-- One that ended stays so: its last word stays, and where there is one all was answered.
pub record StaysOver (x y : Known) (client : Client) : Type 0 where
  pub plan : y.plan ≡ x.plan
  pub word : word_at y.plan y.moment client.number ≡ word_at x.plan x.moment client.number
  pub answers : (ordinal : ℕ) (message : Framed) (bytes : List ℕ) → ordinal ≤ client.taken → answer_to x client ordinal message ≡ Some bytes
      → answer_to y client ordinal message ≡ Some bytes
  pub told : (ordinal : ℕ) (message : Framed) → is_some (word_at x.plan x.moment client.number) ≡ true → 0 < ordinal → ordinal ≤ client.taken
      → is_some (answer_to x client ordinal message) ≡ true

-- a client that stands there as it stood, and to which the entry writes nothing
pub record IsLeft (old new : Ground) (e : Entry) (client : Client) : Type 0 where
  pub seated : IsSeated old.tale client
  pub stay : AnswersStay (known_on old) (known_on new) client
  pub over : new.over client.number ≡ old.over client.number
  pub word : old.over client.number ≡ true
      → word_at new.plan new.tale.moment client.number ≡ word_at old.plan old.tale.moment client.number
  pub within : old.over client.number ≡ false → client.taken ≤ length (messages old.plan client)
  pub told : old.over client.number ≡ true → IsToldAll old client
  pub unwritten : written_by client.link e ≡ []
