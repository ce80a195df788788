-- When the router ends a client, what the last word to it is, and when its link closes.
use Rattle.std.specs.Prelude.{◌≡◌, ◌⊎◌, ℕ, zero, suc, ◌+◌, ◌-◌, ◌≤◌, Bool, true, false, not, ◌&&◌, ◌||◌, is_none, is_some, length, nat_eq, nat_lt, List, [], ◌∷◌, ◌++◌}
use Rattle.std.specs.Prelude.{All, slice_get, sum_by, take, Option, Some, None, if◌then◌else◌}
use Rattle.std.specs.List.{list_any}
use Rattle.std.specs.Option.{option_map_or}
use Rattle.client_session.specs.Answers.{account_in, messages_of, opening_of}
use Rattle.client_side.specs.Login.{Fails, Opening, Says, Waits}
use Rattle.mx_base.specs.declared.names.LinkId.{LinkId}
use Rattle.mx_wire.specs.Log.{Log, is_link, link_of, moment_of, of_link, written_of}
use Rattle.mx_wire.specs.declared.entry.Entry.{Entry}
use Rattle.mx_wire.specs.declared.entry.Entry.TheVariants.{Accepted, Closed, Got, WriteFailed, WriteNothing, Wrote}
use Rattle.packet_frame.specs.Packets.{Found, first_message, lacking}
use Rattle.packet_frame.specs.Packets.Found.{Whole}
use Rattle.private_model.specs.Story.{Capture, Question, is_client, is_link_id, is_name}
use Rattle.private_model.specs.View.{Setup, present, session_in}
use Rattle.session_state.specs.Pins.{is_pinned}
use Rattle.log_story.specs.Clients.{concerns, is_answered}
use Rattle.log_story.specs.Owed.{messages, name_of, talk_of}
use Rattle.log_story.specs.Plan.{is_by_now, own_at}
use Rattle.log_story.specs.Tale.{Client}
use Rattle.router_promises.specs.Closes.{has_bytes, was_starved}
use Rattle.router_promises.specs.Due.{due_to, served, turned_away}
use Rattle.router_promises.specs.Errors.{buffers_full, out_of_memory}
use Rattle.router_promises.specs.Heard as heard
use Rattle.router_promises.specs.Heard.{Bad, Part, Reading, is_amiss, reading_of}
use Rattle.router_promises.specs.Now.{Now, entry_now, held_now, is_loss, link_now, next, now_at, takings_now, view_now, while_ending, wire_now}
use Rattle.router_promises.specs.Running.{is_off, status_in}
use Rattle.router_promises.specs.Takings.{Taking}
use Rattle.router_promises.specs.Terms.{Terms, plan_in, setup_in}
use Rattle.log_story.specs.Plan.{Alone, Behind, LastWord, WordPlace}
use Rattle.router_promises.specs.Verdicts.{Kind, Quits, kind_in}

-- What ends a client.

-- its link is lost or closed
abbrev pub is_closing : Entry → Bool
is_closing (Closed link) = true
is_closing _ = false

abbrev pub loses_client : Entry → Client → Bool
loses_client e client = is_link client.link (link_of e) && (is_loss e || is_closing e)

-- it isn't served
abbrev pub is_accepted : Entry → Client → Bool
is_accepted (Accepted port link salt) client = is_link_id link client.link
is_accepted _ client = false

-- its login can't be read, or it isn't who it says
abbrev pub is_refused_by : Terms → Client → Opening → Bool
is_refused_by terms client (Waits switched) = false
is_refused_by terms client (Fails switched fault id) = true
is_refused_by terms client (Says switched response id rest) =
    is_none (account_in (talk_of (plan_in terms) client) (Says switched response id rest))

abbrev pub is_refused : Terms → Client → Bool
is_refused terms client = is_refused_by terms client (opening_of (talk_of (plan_in terms) client))

-- all that it asked is answered
abbrev pub is_all_answered : Terms → Now → Client → Bool
is_all_answered terms now client =
    nat_eq client.taken (length (messages (plan_in terms) client))
    && is_answered (plan_in terms) now.tale (view_now (setup_in terms) now) client client.taken

-- and what follows can't be a message
abbrev pub is_at_fault : Terms → Now → Client → Bool
is_at_fault terms now client = is_some (messages_of (talk_of (plan_in terms) client)).fault && is_all_answered terms now client

-- a QUIT of it is taken up
abbrev pub is_quit : Kind → Bool
is_quit Quits = true
is_quit _ = false

abbrev pub is_quit_of : Terms → Client → Taking → Bool
is_quit_of terms client taking = is_client taking.client.number client.number && is_quit (kind_in terms taking)

abbrev pub quits_at : Terms → Now → Entry → Client → Bool
quits_at terms now e client = list_any (is_quit_of terms client) (takings_now terms now e)

-- a link that carries its present session breaks, as the session keeps it or a capture is due; or the capture isn't answered as it should

abbrev pub carries_client : Setup → Now → Client → LinkId → Bool
carries_client setup now client link =
    option_map_or (λ n. is_client n.client client.number && is_name n (present (view_now setup now) n.client n.hostgroup))
    (session_in (link_now setup now link).carries) false

abbrev pub is_held_fast : Setup → Now → LinkId → Bool
is_held_fast setup now link =
    option_map_or (λ n. is_pinned (held_now setup now n).pin || is_none (held_now setup now n).id)
    (session_in (link_now setup now link).carries) false

abbrev pub is_capture : Question → Bool
is_capture (Capture n) = true
is_capture _ = false

abbrev pub fails_on : (held_fast held_fast_later : Bool) → Reading → Bool
fails_on held_fast held_fast_later Part = false
fails_on held_fast held_fast_later (heard.Whole answer) =
    (is_amiss answer.question answer.reply && (held_fast || is_capture answer.question)) || (has_bytes answer.behind && held_fast_later)
fails_on held_fast held_fast_later (Bad place) = held_fast

abbrev pub breaks_on : Setup → (now later : Now) → Entry → Client → LinkId → Bool
breaks_on setup now later e client link =
    carries_client setup now client link && (
    (is_held_fast setup now link && (is_loss e || (is_closing e || status_in is_off later.servers (wire_now now link).server)))
    || fails_on (is_held_fast setup now link) (is_held_fast setup later link) (reading_of setup now e))

abbrev pub breaks_client : Setup → (now later : Now) → Entry → Client → Bool
breaks_client setup now later e client = option_map_or (breaks_on setup now later e client) (link_of e) false

abbrev pub must_end : Terms → Log → (now later : Now) → Entry → Client → Bool
must_end terms log now later e client =
    loses_client e client || ((is_accepted e client && not (served terms log client))
    || (is_refused terms client
    || (is_at_fault terms later client
    || (quits_at terms now e client || breaks_client (setup_in terms) now later e client))))

-- there is no memory for it, also as it is accepted; or a last word to it comes
abbrev pub may_end : Terms → Now → Entry → Client → Bool
may_end terms now e client =
    is_accepted e client || (was_starved terms (entry_now now) client
    || option_map_or (λ (word : LastWord). nat_eq word.from (entry_now now)) ((plan_in terms).words client.number) false)

-- A client ends at an entry exactly where it must, by what is known before clients are ended; but for want of memory and a last word.
pub record EndsRight (terms : Terms) (log : Log) (now later : Now) (e : Entry) (client : Client) : Type 0 where
  pub must : must_end terms log now (while_ending terms now e) e client ≡ true
      → is_by_now later.tale.moment ((plan_in terms).ends client.number) ≡ true
  pub may : (plan_in terms).ends client.number ≡ Some (entry_now now)
      → (must_end terms log now (while_ending terms now e) e client || may_end terms now e client) ≡ true

-- The last word: that there is no memory, or that too many bytes of clients wait.

-- the bytes of a client that are kept: those behind its last message that was taken up
abbrev pub behind_by : Found → (otherwise : List ℕ) → (List ℕ → List ℕ) → List ℕ
behind_by (Whole message rest) otherwise later = later rest
behind_by _ otherwise later = otherwise

abbrev pub behind : (count limit : ℕ) → List ℕ → List ℕ
behind zero limit bytes = bytes
behind (suc count) limit bytes = behind_by (first_message limit 0 bytes) bytes (behind count limit)

abbrev pub kept_by : Terms → Client → Opening → List ℕ
kept_by terms client (Says switched response id rest) = behind client.taken (plan_in terms).service.limit rest
kept_by terms client _ = client.read

abbrev pub kept : Terms → Client → List ℕ
kept terms client = kept_by terms client (opening_of (talk_of (plan_in terms) client))

-- one that ended at an earlier entry has none
abbrev pub kept_bytes : Terms → Now → Client → ℕ
kept_bytes terms now client =
    if option_map_or (λ entry. nat_lt entry now.tale.moment) ((plan_in terms).ends client.number) false
    then 0 else length (kept terms client)

abbrev pub kept_in_all : Terms → Now → ℕ
kept_in_all terms now = sum_by (kept_bytes terms now) now.tale.clients

-- It is measured as bytes come of a client that has nothing in work, and as what it had is answered.

abbrev pub comes_from : Entry → Client → Bool
comes_from (Got link bytes) client = is_link_id link client.link
comes_from _ client = false

abbrev pub was_answered : Terms → Now → Client → Bool
was_answered terms now client = is_answered (plan_in terms) now.tale (view_now (setup_in terms) now) client client.taken

abbrev pub is_measured : Terms → (now later : Now) → Entry → Client → Bool
is_measured terms now later e client = was_answered terms later client && (comes_from e client || not (was_answered terms now client))

abbrev pub is_too_much : Terms → (later : Now) → Client → Bool
is_too_much terms later client = nat_lt terms.router.proxy.buffer_budget (kept_in_all terms later + lacking (kept terms client))

abbrev pub buffers_word : Terms → (later : Now) → Client → List ℕ
buffers_word terms later client = buffers_full (kept_in_all terms later) (lacking (kept terms client))

abbrev pub is_alone : WordPlace → Bool
is_alone Alone = true
is_alone _ = false

-- the entry names its link, or one that carries it
abbrev pub is_at : Setup → Now → Entry → Client → Bool
is_at setup now e client = option_map_or (concerns (view_now setup now) client) (link_of e) false

-- its last message was left as it was taken up, for want of memory: it goes nowhere, and isn't answered
abbrev pub is_left : Terms → (ending : Now) → Client → Bool
is_left terms ending client =
    nat_lt 0 client.taken
    && (is_none ((plan_in terms).routes (name_of client client.taken))
    && is_none (own_at (plan_in terms) ending.tale.moment (name_of client client.taken)))

-- What the last word is, and where it stands: it wasn't served; there is no memory for what came on its link, or one that carries it, or for
-- its last message; or too many bytes wait.
pub data WordFor (terms : Terms) (log : Log) (now ending : Now) (e : Entry)
    (client : Client) : WordPlace → (payloads : List (List ℕ)) → Type 0 where
  TurnedAway : is_accepted e client ≡ true → served terms log client ≡ false → WordFor terms log now ending e client Alone turned_away
  NoMemory : (place : WordPlace) → is_alone place ≡ false → is_at (setup_in terms) now e client ≡ true
      → WordFor terms log now ending e client place (out_of_memory ∷ [])
  Left : is_left terms ending client ≡ true → WordFor terms log now ending e client Behind (out_of_memory ∷ [])
  TooMuch : (place : WordPlace) → is_alone place ≡ false → is_too_much terms ending client ≡ true
      → WordFor terms log now ending e client place (buffers_word terms ending client ∷ [])

pub record IsLastWord (terms : Terms) (log : Log) (now : Now) (e : Entry) (client : Client) (word : LastWord) : Type 0 where
  pub ends : (plan_in terms).ends client.number ≡ Some (entry_now now)
  pub answered : (was_answered terms (while_ending terms now e) client || is_left terms (while_ending terms now e) client) ≡ true
  pub why : WordFor terms log now (while_ending terms now e) e client word.place word.payloads

-- one that isn't served has its word as it is accepted
pub record WordRight (terms : Terms) (log : Log) (now later : Now) (e : Entry) (client : Client) : Type 0 where
  pub may : (word : LastWord) → (plan_in terms).words client.number ≡ Some word
      → word.from ≡ entry_now now → IsLastWord terms log now e client word
  pub away : is_accepted e client ≡ true → served terms log client ≡ false
      → (plan_in terms).words client.number ≡ Some (record { from = entry_now now; place = Alone; payloads = turned_away })
  pub must : is_measured terms now (while_ending terms now e) e client ≡ true → is_too_much terms (while_ending terms now e) client ≡ true
      → is_by_now later.tale.moment ((plan_in terms).ends client.number) ≡ true

-- The link of a client that ended closes once its bytes are written, or it was lost, or the time for it is over; where it isn't
-- served, once a write was tried of what it is told.
abbrev pub moment_in : Log → Option ℕ → ℕ
moment_in log None = 0
moment_in log (Some entry) = moment_of (take entry log)

-- it ended as it was accepted: there was no memory
abbrev pub is_unheard : Terms → Log → Client → Bool
is_unheard terms log client =
    option_map_or (λ entry. option_map_or (λ e. is_accepted e client) (slice_get log (entry - 1)) false)
    ((plan_in terms).ends client.number) false

-- a write was tried
abbrev pub is_write : Entry → Bool
is_write (Wrote link tag bytes) = true
is_write (WriteNothing link) = true
is_write (WriteFailed link) = true
is_write _ = false

pub data MayPart (terms : Terms) (log : Log) (now : Now) (client : Client) : Type 0 where
  AllWritten : written_of client.link log ≡ due_to terms now client → MayPart terms log now client
  Broken : list_any (λ e. is_loss e && is_link client.link (link_of e)) log ≡ true → MayPart terms log now client
  TimeIsOver : moment_in log ((plan_in terms).ends client.number) + terms.router.proxy.wait_ms ≤ now.clock → MayPart terms log now client
  NotServed : served terms log client ≡ false → list_any is_write (of_link client.link log) ≡ true → MayPart terms log now client
  Unheard : is_unheard terms log client ≡ true → MayPart terms log now client

pub record PartsRight (terms : Terms) (log : Log) (now : Now) (link : LinkId) (client : Client) : Type 0 where
  pub ended : client.link ≡ link → is_by_now now.tale.moment ((plan_in terms).ends client.number) ≡ true
  pub may : client.link ≡ link → MayPart terms log now client

abbrev pub PartsBy : Terms → Log → Now → Entry → Type 0
PartsBy terms log now (Closed link) = All (PartsRight terms log now link) now.tale.clients
PartsBy terms log now _ = Unit {0}

pub record EndsBy (terms : Terms) (log : Log) (now later : Now) (e : Entry) : Type 0 where
  pub ends : All (EndsRight terms (log ++ e ∷ []) now later e) later.tale.clients
  pub words : All (WordRight terms (log ++ e ∷ []) now later e) later.tale.clients
  pub parts : PartsBy terms log now e

abbrev pub EndsSo : Terms → Log → Entry → Type 0
EndsSo terms log e = EndsBy terms log (now_at terms log) (next terms (now_at terms log) e) e
