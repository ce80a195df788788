-- The messages that are taken up at an entry of the log, each with the tale just before it is.
use Rattle.std.specs.Prelude.{List, Option, Some, [], if◌then◌else◌, length, not, slice_get, suc, zero, ℕ, ◌&&◌, ◌++◌, ◌||◌, ◌∷◌}
use Rattle.mx_wire.specs.declared.entry.Entry.{Entry}
use Rattle.packet_frame.specs.Packets.{Framed}
use Rattle.private_model.specs.Names.{MessageName}
use Rattle.private_model.specs.View.{Setup, View}
use Rattle.log_story.specs.Clients.{client_goes_on, is_event_of, next_taken}
use Rattle.log_story.specs.Owed.{messages, name_of}
use Rattle.log_story.specs.Plan.{Plan, gives_up, is_before}
use Rattle.log_story.specs.Servers.{links_are_freed}
use Rattle.log_story.specs.Tale.{Client, Tale, counted, view_of, with_client}
use Rattle.log_story.specs.Telling.{told}

pub record Taking : Type 0 where
  pub client : Client
  pub message : Framed
  pub tale : Tale

-- the ordinal of the message, and its name
abbrev pub ordinal_of : Taking → ℕ
ordinal_of taking = suc taking.client.taken

abbrev pub message_in : Taking → MessageName
message_in taking = name_of taking.client (ordinal_of taking)

abbrev pub taking_then : Client → Tale → Option Framed → Option Tale → (Tale → List Taking) → List Taking
taking_then client tale (Some message) (Some other) later = record { client = client; message = message; tale = tale } ∷ later other
taking_then client tale _ _ later = []

-- in order, as many as a client's tale takes up
abbrev pub takings_of : (most : ℕ) → Setup → Plan → Client → Tale → List Taking
takings_of zero setup plan client tale = []
takings_of (suc most) setup plan client tale =
    let next = record client { taken = suc client.taken } in
    taking_then client tale (slice_get (messages plan client) client.taken)
    (next_taken setup plan client (slice_get (messages plan client) client.taken) tale)
    (λ other. takings_of most setup plan next (with_client next other))

-- what the entry told, as clients go on; one that ends at it does so behind what it takes up
abbrev pub as_told : Setup → Plan → Tale → Entry → Tale
as_told setup plan tale e = links_are_freed setup plan (counted (told setup plan tale e))

abbrev pub takings_by : Setup → Plan → View → Entry → Tale → Client → List Taking
takings_by setup plan view e now client =
    if (is_event_of view client e || gives_up plan now.moment (name_of client client.taken))
    && not (is_before now.moment (plan.ends client.number))
    then takings_of (length (messages plan client)) setup plan client now else []

-- each client's behind those of the clients before it
abbrev pub takings_from : Setup → Plan → View → Entry → List Client → Tale → List Taking
takings_from setup plan view e [] now = []
takings_from setup plan view e (client ∷ clients) now =
    takings_by setup plan view e now client ++ takings_from setup plan view e clients (client_goes_on setup plan view e now client)

abbrev pub takings_at : Setup → Plan → Tale → Entry → List Taking
takings_at setup plan tale e =
    takings_from setup plan (view_of setup tale) e (as_told setup plan tale e).clients (as_told setup plan tale e)
