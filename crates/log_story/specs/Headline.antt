-- What is promised of a log's bytes at a moment.
use Rattle.std.specs.Prelude.{◌≡◌, true, false, All, [], ◌∷◌, fold, None, Some}
use Rattle.mx_wire.specs.Log.{Log, written_of}
use Rattle.mx_wire.specs.declared.entry.Entry.{Entry}
use Rattle.mx_wire.specs.declared.entry.Entry.TheVariants.{Got}
use Rattle.server_rule.specs.Servers.{Step}
use Rattle.private_model.specs.Names.{LinkId, MessageName, SessionName}
use Rattle.private_model.specs.Commands.{Reply, runs}
use Rattle.private_model.specs.Story.{Due, Statement, message_of}
use Rattle.private_model.specs.View.{Answered, Setup}
use Rattle.private_model.specs.Worlds.{Private, private_after}
use Rattle.log_story.specs.Plan.{Plan, word_at}
use Rattle.log_story.specs.Tale.{Client, Tale, Wire, first_tale, is_reset_step, is_to_server, link_in, view_of}
use Rattle.log_story.specs.Owed.{due_bytes, due_until}
use Rattle.log_story.specs.Servers.{with_run}
use Rattle.log_story.specs.Telling.{tale_step, wire_with}
use Rattle.log_story.specs.Honest.{IsFront, spelled}

abbrev pub private_of : Setup → Step → Tale → Private
private_of setup server tale = private_after setup (runs server) tale.story

-- As bytes are read, those of a reply are a front of the private reply's: its first part, or all of it.
pub record IsPrivatePart (setup : Setup) (server : Step) (tale : Tale) (wire : Wire) (n : SessionName) (due : Due) : Type 0 where
  pub reply : Reply
  pub answer : (private_of setup server tale).answers (message_of n due) ≡ Some reply
  pub front : IsFront wire.unread (spelled wire reply)

abbrev pub IsPrivateRead : Setup → Step → LinkId → Wire → Tale → Type 0
IsPrivateRead setup server link wire tale =
    (n : SessionName) (due : Due) → (link_in setup (with_run setup link tale) link).stage ≡ Answered (Statement n due) → IsPrivatePart setup server
    (with_run setup link tale) wire n due

abbrev pub IsPrivateEntry : Setup → Step → Tale → Entry → Type 0
IsPrivateEntry setup server tale (Got link bytes) =
    is_to_server tale link ≡ true → (tale.wires link).entered ≡ true → is_reset_step (tale.wires link).step ≡ false
    → IsPrivateRead setup server link (wire_with tale link bytes) tale
IsPrivateEntry setup server tale _ = Unit {0}

-- Each reply that was read is the private one, and what a client is due by what was read, but for a last word to it, is the first
-- part of what its private world owes it.
pub record IsPrivateMoment (setup : Setup) (plan : Plan) (server : Step) (tale : Tale) : Type 0 where
  pub replies : (message : MessageName) (reply : Reply) → (view_of setup tale).replies message ≡ Some reply
      → (private_of setup server tale).answers message ≡ Some reply
  pub due : (client : Client) → IsFront (due_until (view_of setup tale).replies plan tale.moment client)
      (due_until (private_of setup server tale).answers plan tale.moment client)

abbrev pub IsPrivateFrom : Setup → Plan → Step → Tale → Log → Type 0
IsPrivateFrom setup plan server tale [] = IsPrivateMoment setup plan server tale
IsPrivateFrom setup plan server tale (e ∷ log) =
    IsPrivateMoment setup plan server tale × IsPrivateEntry setup server tale e × IsPrivateFrom setup plan server (tale_step setup plan tale e) log

-- at each moment of the log, and at each read
abbrev pub HasPrivateBytes : Setup → Plan → Step → Log → Type 0
HasPrivateBytes setup plan server log = IsPrivateFrom setup plan server first_tale log

-- What was written to clients.

abbrev pub tale_of : Setup → Plan → Log → Tale
tale_of setup plan log = fold (tale_step setup plan) first_tale log

-- to each a front of what it is due by the replies that were read
abbrev pub WritesDue : Setup → Plan → Log → Type 0
WritesDue setup plan log =
    All (λ (client : Client). IsFront (written_of client.link log)
    (due_bytes (view_of setup (tale_of setup plan log)).replies plan (tale_of setup plan log).moment client)) (tale_of setup plan log).clients

-- to each, without a last word to it, a front of what its private world owes it
abbrev pub IsPrivateTo : Setup → Plan → Step → Log → Client → Type 0
IsPrivateTo setup plan server log client =
    word_at plan (tale_of setup plan log).moment client.number ≡ None → IsFront (written_of client.link log)
    (due_until (private_of setup server (tale_of setup plan log)).answers plan (tale_of setup plan log).moment client)

abbrev pub WritesPrivate : Setup → Plan → Step → Log → Type 0
WritesPrivate setup plan server log = All (IsPrivateTo setup plan server log) (tale_of setup plan log).clients
