-- The bytes that a client is due, where these are the replies to its messages.
use Rattle.std.specs.Prelude.{ℕ, suc, ◌-◌, Bool, nat_eq, nat_lt, if◌then◌else◌, length, take, List, [], ◌∷◌, ◌++◌, Option, Some, None}
use Rattle.std.specs.Option.{option_map_or}
use Rattle.packet_frame.specs.Packets.{Framed, id_of_answer, next_id, spellings}
use Rattle.reply_track.specs.declared.reply.ReplyKind.{ReplyKind}
use Rattle.reply_track.specs.declared.reply.ReplyKind.TheVariants as kind
use Rattle.reply_track.specs.Grammar.{renamed}
use Rattle.client_side.specs.Login.{Fails, Opening, Says, Waits, switched_of}
use Rattle.client_session.specs.Answers.{Talk, fault_answer, front, greeted, messages_of, opening_of}
use Rattle.session_state.specs.declared.names.MessageName.{MessageName}
use Rattle.private_model.specs.Commands.{Reply}
use Rattle.log_story.specs.Plan.{Alone, Behind, ForLogin, LastWord, Plan, WordPlace, own_at, word_at}
use Rattle.log_story.specs.Tale.{Client}

abbrev pub talk_of : Plan → Client → Talk
talk_of plan client = record { setup = plan.service; port = client.port; number = client.number.0; salt = client.salt; read = client.read }

-- the messages of a client behind its login
abbrev pub messages : Plan → Client → List Framed
messages plan client = (messages_of (talk_of plan client)).messages

abbrev pub name_of : Client → (ordinal : ℕ) → MessageName
name_of client ordinal = record { client = client.number; ordinal = ordinal }

-- For its messages, in order, up to the first whose answer isn't there: what the router itself answers by now, or else the
-- reply; in packets whose ids go on from the message's, with the client's own number of what it prepared.

abbrev pub kind_of : Reply → ReplyKind
kind_of reply = if reply.to_prepare then kind.Prepare else kind.Command

-- the client's number of what a message prepares
abbrev pub number_of : Plan → MessageName → ℕ
number_of plan message = option_map_or (λ route. route.number) (plan.routes message) 0

abbrev pub answered_with : (own : Option (List (List ℕ))) → Option Reply → (number id : ℕ) → (later : List ℕ) → List ℕ
answered_with (Some payloads) reply number id later = spellings id payloads ++ later
answered_with None None number id later = []
answered_with None (Some reply) number id later = spellings id (renamed (kind_of reply) number reply.payloads) ++ later

abbrev pub due_for : (MessageName → Option Reply) → Plan → (moment : ℕ) → Client → (last : List ℕ) → (ordinal : ℕ) → List Framed → List ℕ
due_for replies plan moment client last i [] = last
due_for replies plan moment client last i (message ∷ others) =
    let name = name_of client i in
    answered_with (own_at plan moment name) (replies name) (number_of plan name) (next_id message.last)
    (due_for replies plan moment client last (suc i) others)

-- the error for a message that can't be, which is the last
abbrev pub last_error : Plan → Client → List ℕ
last_error plan client = fault_answer plan.service.limit (messages_of (talk_of plan client)).fault

-- it stands behind the answers to all messages, once all were taken up
abbrev pub error_behind : Plan → Client → List ℕ
error_behind plan client = if nat_eq client.taken (length (messages plan client)) then last_error plan client else []

-- to its login, and to the messages that were taken up
abbrev pub due_until : (MessageName → Option Reply) → Plan → (moment : ℕ) → Client → List ℕ
due_until replies plan moment client =
    front (talk_of plan client) ++ due_for replies plan moment client (error_behind plan client) 1 (take client.taken (messages plan client))

-- The last word has the id behind the last header that was read of the client, and in place of the answer to its login that answer's.

abbrev pub login_id : (read : List ℕ) → Opening → ℕ
login_id read (Waits switched) = id_of_answer read
login_id read (Says switched response id rest) = id
login_id read (Fails switched fault id) = id

abbrev pub word_in : Talk → (otherwise : List ℕ) → WordPlace → (payloads : List (List ℕ)) → List ℕ
word_in talk otherwise Alone payloads = spellings 0 payloads
word_in talk otherwise ForLogin payloads = greeted talk (switched_of (opening_of talk)) ++ spellings (login_id talk.read (opening_of talk)) payloads
word_in talk otherwise Behind payloads = otherwise ++ spellings (id_of_answer (messages_of talk).rest) payloads

abbrev pub with_word : Talk → (otherwise : List ℕ) → Option LastWord → List ℕ
with_word talk otherwise None = otherwise
with_word talk otherwise (Some word) = word_in talk otherwise word.place word.payloads

-- all that it is due by now
abbrev pub due_bytes : (MessageName → Option Reply) → Plan → (moment : ℕ) → Client → List ℕ
due_bytes replies plan moment client = with_word (talk_of plan client) (due_until replies plan moment client) (word_at plan moment client.number)

-- While too many bytes for it are unwritten, those of its login among them, a client's messages wait.

abbrev pub unwritten : (MessageName → Option Reply) → Plan → (moment : ℕ) → Client → ℕ
unwritten replies plan moment client =
    length (front (talk_of plan client) ++ due_for replies plan moment client [] 1 (take client.taken (messages plan client))) - client.written

abbrev pub has_room : (MessageName → Option Reply) → Plan → (moment : ℕ) → Client → Bool
has_room replies plan moment client = nat_lt (unwritten replies plan moment client) plan.room
