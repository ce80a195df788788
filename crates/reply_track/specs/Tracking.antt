-- What a tracker promises.
use Rattle.std.specs.Prelude.{◌≡◌, ◌≤◌, ◌<◌, ℕ, ◌+◌, List, ◌++◌, length, take, drop}
use Rattle.mx_base.specs.Fields.{AreBytes}
use Rattle.packet_frame.specs.Packets.{spellings}
use Rattle.reply_track.specs.declared.reply.ReplyEnd.{ReplyEnd}
use Rattle.reply_track.specs.declared.reply.ReplyKind.{ReplyKind}
use Rattle.reply_track.specs.declared.reply.Progress.{Progress}
use Rattle.reply_track.specs.declared.reply.Progress.TheVariants.{More, Done, Bad}
use Rattle.reply_track.specs.declared.body.Body.TheVariants.{Due as DueBody}
use Rattle.reply_track.specs.declared.place.Place.TheVariants.{First}
use Rattle.reply_track.specs.declared.place.State.{State}
use Rattle.reply_track.specs.Grammar.{IsReply, renamed}
use Rattle.reply_track.specs.Steps.{first_due}
use Rattle.reply_track.specs.Runs.{run, renumbered}
use Rattle.reply_track.specs.Runs.Ending.{Going}

-- a reply that is sought: its kind, the ids of its first packet at the server and at the client, and the number that
-- the client knows the prepared statement by
pub record Sought : Type 0 where
  pub kind : ReplyKind
  pub server : ℕ
  pub client : ℕ
  pub number : ℕ

-- bytes are a whole reply
pub record IsWhole (sought : Sought) (bytes : List ℕ) (payloads : List (List ℕ)) (end : ReplyEnd) : Type 0 where
  pub reply : IsReply sought.kind payloads end
  pub spelled : bytes ≡ spellings sought.server payloads

-- bytes are the beginning of a reply, and more has to come
pub record GoesOn (sought : Sought) (bytes : List ℕ) : Type 0 where
  pub more : List ℕ
  pub payloads : List (List ℕ)
  pub end : ReplyEnd
  pub some : 0 < length more
  pub are : AreBytes more
  pub whole : IsWhole sought (bytes ++ more) payloads end

abbrev pub NoneGoesOn : Sought → List ℕ → Type 0
NoneGoesOn sought bytes = (more : List ℕ) (payloads : List (List ℕ)) (end : ReplyEnd) → IsWhole sought (bytes ++ more) payloads end → ⊥

-- the state in which a tracker starts, and the one that it is in when it took bytes and handed on others
abbrev pub started : Sought → State
started sought = record { server = sought.server; client = sought.client; number = sought.number; place = First; body = DueBody (first_due sought.kind) }

pub record Took (sought : Sought) (bytes made : List ℕ) (state : State) : Type 0 where
  pub small : sought.server < 256
  pub are : AreBytes bytes
  pub goes : run (started sought) bytes ≡ Going state
  pub makes : renumbered (started sought) bytes ≡ made

-- a whole reply was handed on: what the client gets is the reply, with its own ids and its own statement id
pub record IsHanded (sought : Sought) (bytes made : List ℕ) (end : ReplyEnd) : Type 0 where
  pub payloads : List (List ℕ)
  pub whole : IsWhole sought bytes payloads end
  pub handed : made ≡ spellings sought.client (renamed sought.kind sought.number payloads)

-- what the answer for a piece says, whose bytes the call rewrote, where `bytes` came before it and `made` was handed
-- on for them: the reply goes on; or it ends with so many bytes of the piece; or this byte is the first behind which
-- no reply goes on
pub record IsMore (sought : Sought) (bytes made piece new : List ℕ) (state : State) : Type 0 where
  pub goes_on : GoesOn sought (bytes ++ piece)
  pub took : Took sought (bytes ++ piece) (made ++ new) state

pub record IsDone (sought : Sought) (bytes made piece new : List ℕ) (used : ℕ) (end : ReplyEnd) : Type 0 where
  pub within : used ≤ length piece
  pub handed : IsHanded sought (bytes ++ take used piece) (made ++ take used new) end
  pub others : drop used new ≡ drop used piece

pub record IsBad (sought : Sought) (bytes piece new : List ℕ) (at : ℕ) : Type 0 where
  pub within : at < length piece
  pub good : GoesOn sought (bytes ++ take at piece)
  pub bad : NoneGoesOn sought (bytes ++ take (at + 1) piece)
  pub others : drop at new ≡ drop at piece

abbrev pub Answers : Sought → (bytes made piece new : List ℕ) → State → Progress → Type 0
Answers sought bytes made piece new state More = IsMore sought bytes made piece new state
Answers sought bytes made piece new state (Done used end) = IsDone sought bytes made piece new used end
Answers sought bytes made piece new state (Bad at) = IsBad sought bytes piece new at
