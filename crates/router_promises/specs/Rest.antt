-- What is left to do as the loop waits: nothing but what others have to do first.
use Rattle.std.specs.Prelude.{All, Bool, false, is_none, length, nat_le, not, true, ℕ, ◌&&◌, ◌+◌, ◌<◌, ◌||◌, ◌≡◌, ◌≤◌, ◌⊎◌}
use Rattle.std.specs.Prelude.{Option, Some, None}
use Rattle.std.specs.List.{list_any}
use Rattle.std.specs.Option.{option_map_or}
use Rattle.mx_base.specs.declared.names.LinkId.{LinkId}
use Rattle.mx_base.specs.declared.names.Port.{Port}
use Rattle.mx_wire.specs.Log.{Log, is_open, of_link, written_of}
use Rattle.mx_wire.specs.declared.entry.Entry.{Entry}
use Rattle.mx_wire.specs.declared.entry.Entry.TheVariants.{Woke, WaitFailed, Over, WriteFailed}
use Rattle.ready_loop.specs.Drained.{all_accepted, all_named, read_dry, write_dry}
use Rattle.server_side.specs.Login.{said_of}
use Rattle.session_state.specs.Pins.{is_pinned, needs_reset}
use Rattle.private_model.specs.Names.{SessionName}
use Rattle.private_model.specs.Story.{command_of, is_client, is_link_id, is_name}
use Rattle.private_model.specs.View.{Answered, Asked, Carried, Joined, Quiet, Setup, Stage, present, session_in}
use Rattle.log_story.specs.Honest.{IsStep, number_for}
use Rattle.log_story.specs.Owed.{has_room, name_of}
use Rattle.log_story.specs.Plan.{Route}
use Rattle.log_story.specs.Servers.{is_quiet}
use Rattle.log_story.specs.Tale.{Client, is_reset_step}
use Rattle.router_promises.specs.Closes.{is_usable}
use Rattle.router_promises.specs.Dues.{is_unsent}
use Rattle.router_promises.specs.Due.{due_to}
use Rattle.router_promises.specs.Ends.{kept, moment_in, was_answered}
use Rattle.router_promises.specs.Keys.{LinkKey, has_place, how_many, is_idle, is_opening, is_resting, is_stepping, waiting}
use Rattle.router_promises.specs.Now.{Now, held_now, is_here, link_now, now_at, present_now, view_now, wire_now}
use Rattle.router_promises.specs.Running.{is_entering, opening_on}
use Rattle.log_story.specs.Assumed.{IsWhole}
use Rattle.router_promises.specs.Terms.{Terms, plan_in, setup_in}
use Rattle.router_promises.specs.Wakes.{has_ended, wakes_at}

-- What may be left unread: the link of a client that ended, or that has something in work and sent a mebibyte more; and a link to a
-- server, while a mebibyte for its client is unwritten.

abbrev pub is_ahead : Terms → Now → Client → Bool
is_ahead terms now client = not (was_answered terms now client) && nat_le 1048576 (length (kept terms client))

abbrev pub is_behind : Terms → Now → LinkId → Client → Bool
is_behind terms now link client =
    option_map_or (λ n. is_client n.client client.number) (session_in (link_now (setup_in terms) now link).carries) false
    && not (has_room (view_now (setup_in terms) now).replies (plan_in terms) now.tale.moment client)

abbrev pub is_spared_for : Terms → Now → LinkId → Client → Bool
is_spared_for terms now link client =
    (is_link_id client.link link && (has_ended terms now client || is_ahead terms now client)) || is_behind terms now link client

abbrev pub IsRead : Terms → Log → Now → LinkId → Type 0
IsRead terms log now link = is_open link log ≡ true → (read_dry link log || list_any (is_spared_for terms now link) now.tale.clients) ≡ true

-- Clients.

-- what is on its way to a message, or its reply: on a link that is open, whole, or as far as the link takes it; a STMT_RESET on the way
-- to it is awaited

abbrev pub IsWholeOn : Setup → Now → LinkId → Stage → Type 0
IsWholeOn setup now link Quiet = is_reset_step (wire_now now link).step ≡ true
IsWholeOn setup now link (Asked question) =
    IsWhole (command_of question) (number_for question (link_now setup now link).live) (wire_now now link).written
IsWholeOn setup now link (Answered question) = Unit {0}

pub record IsUnderWay (terms : Terms) (log : Log) (now : Now) (n : SessionName) : Type 0 where
  pub link : LinkId
  pub home : (held_now (setup_in terms) now n).home ≡ Some link
  pub here : is_here log link ≡ true
  pub goes : (write_dry link log ≡ true) ⊎ IsWholeOn (setup_in terms) now link (link_now (setup_in terms) now link).stage

-- a statement waits for a link, or is under way
abbrev pub IsInWork : Terms → Log → Now → Client → Option Route → Type 0
IsInWork terms log now client None = ⊥
IsInWork terms log now client (Some route) =
    (is_unsent terms now.tale (present_now (setup_in terms) now client.number route.hostgroup) ≡ true)
    ⊎ IsUnderWay terms log now (present_now (setup_in terms) now client.number route.hostgroup)

abbrev pub is_failed_write : Entry → Bool
is_failed_write (WriteFailed link) = true
is_failed_write _ = false

-- All that it is due is written, or its link takes no more. Its last message that was taken up is answered or in work. If it ended,
-- it isn't told all, and there is time.
pub record IsAttended (terms : Terms) (log : Log) (now : Now) (client : Client) : Type 0 where
  pub told : (written_of client.link log ≡ due_to terms now client) ⊎ (write_dry client.link log ≡ true)
  pub worked : has_ended terms now client ≡ false → was_answered terms now client ≡ false
      → IsInWork terms log now client ((plan_in terms).routes (name_of client client.taken))
  pub unbroken : list_any is_failed_write (of_link client.link log) ≡ false
  pub ends : has_ended terms now client ≡ true → write_dry client.link log ≡ true
  pub in_time : has_ended terms now client ≡ true
      → now.clock < moment_in log ((plan_in terms).ends client.number) + terms.router.proxy.wait_ms

abbrev pub IsClientAtRest : Terms → Log → Now → Client → Type 0
IsClientAtRest terms log now client = is_open client.link log ≡ true → IsAttended terms log now client

-- Links to servers: each can be used, and nothing is owed there.

abbrev pub owes_reset : Setup → Now → Carried → Bool
owes_reset setup now (Joined n) =
    not (is_name n (present (view_now setup now) n.client n.hostgroup)) && needs_reset (held_now setup now n).pin
owes_reset setup now _ = false

abbrev pub owes_capture : Setup → Now → Carried → Bool
owes_capture setup now (Joined n) =
    is_name n (present (view_now setup now) n.client n.hostgroup)
    && (not (is_pinned (held_now setup now n).pin) && is_none (held_now setup now n).id)
owes_capture setup now _ = false

-- what began there is written whole
abbrev pub IsBegunWhole : Setup → Now → LinkId → Stage → Type 0
IsBegunWhole setup now link (Asked question) =
    IsWhole (command_of question) (number_for question (link_now setup now link).live) (wire_now now link).written
IsBegunWhole setup now link _ = Unit {0}

-- all that was sent there is answered: no question is open there, and no STMT_RESET
abbrev pub is_answered_on : Setup → Now → LinkId → Bool
is_answered_on setup now link = is_quiet (link_now setup now link).stage && not (is_reset_step (wire_now now link).step)

pub record OwesNothing (terms : Terms) (now : Now) (link : LinkId) : Type 0 where
  pub login : is_entering terms now.tale link ≡ true → (wire_now now link).written ≡ said_of (opening_on terms now.tale link)
  pub begun : IsBegunWhole (setup_in terms) now link (link_now (setup_in terms) now link).stage
  pub closed : IsStep (wire_now now link).step (wire_now now link).written
  pub reset : is_answered_on (setup_in terms) now link ≡ true
      → owes_reset (setup_in terms) now (link_now (setup_in terms) now link).carries ≡ false
  pub capture : is_answered_on (setup_in terms) now link ≡ true
      → owes_capture (setup_in terms) now (link_now (setup_in terms) now link).carries ≡ false

pub record IsSound (terms : Terms) (log : Log) (now : Now) (link : LinkId) : Type 0 where
  pub sound : is_usable terms log now link ≡ true
  pub stays : (wire_now now link).quits ≡ false
  pub young : is_resting terms log now link ≡ true → now.clock < (now.uses link).used + terms.router.proxy.idle_ms
  pub owes : write_dry link log ≡ false → OwesNothing terms now link

abbrev pub IsServerAtRest : Terms → Log → Now → LinkId → Type 0
IsServerAtRest terms log now link = is_open link log ≡ true → IsSound terms log now link

-- Of each key: where a link is idle, no more statements wait than links are on their way to be lent; and no more wait than links are
-- opening or on that way, or the hostgroup has no place for one more.
pub record IsShared (terms : Terms) (log : Log) (now : Now) (key : LinkKey) : Type 0 where
  pub idle : 0 < how_many is_idle terms log now key → waiting terms now key ≤ how_many is_stepping terms log now key
  pub enough : (waiting terms now key ≤ how_many is_opening terms log now key + how_many is_stepping terms log now key)
      ⊎ (has_place terms log now key.hostgroup ≡ false)

-- Nobody waits at a port, each ready link was named, and each open link was read dry, or may be left.
pub record IsAtRest (terms : Terms) (log : Log) (now : Now) : Type 0 where
  pub accepted : (port : Port) → all_accepted port log ≡ true
  pub named : all_named log ≡ true
  pub read_clients : All (λ (client : Client). IsRead terms log now client.link) now.tale.clients
  pub read_servers : All (IsRead terms log now) now.tale.links
  pub clients : All (IsClientAtRest terms log now) now.tale.clients
  pub servers : All (IsServerAtRest terms log now) now.tale.links
  pub shared : (key : LinkKey) → IsShared terms log now key

-- and asks to be woken at the first moment at which there is something to do
pub record Waits (terms : Terms) (log : Log) (now : Now) (until_ms : ℕ) : Type 0 where
  pub rests : IsAtRest terms log now
  pub until : until_ms ≡ wakes_at terms log now

abbrev pub RestsBy : Terms → Log → Now → Entry → Type 0
RestsBy terms log now (Woke until_ms now_ms) = Waits terms log now until_ms
RestsBy terms log now WaitFailed = IsAtRest terms log now
RestsBy terms log now Over = IsAtRest terms log now
RestsBy terms log now _ = Unit {0}

-- the loop waits at rest
abbrev pub RestsSo : Terms → Log → Entry → Type 0
RestsSo terms log e = RestsBy terms log (now_at terms log) e
