-- A link to a server behind the router's login: one command at a time, and the reply to it in pieces.
use Rattle.std.specs.Prelude.{ℕ, zero, suc, ◌+◌, ◌-◌, min, not, nat_lt, nat_eq, Bool, List, length, drop, Option, Some, None, if◌then◌else◌}
use Rattle.std.specs.Option.{option_and_then, option_map, option_map_or}
use Rattle.mx_base.specs.declared.tag.Tag.{Tag}
use Rattle.mx_base.specs.Sent.{Sent}
use Rattle.reply_track.specs.declared.place.State.{State}
use Rattle.reply_track.specs.Replying.{id_after}
use Rattle.reply_track.specs.Runs.{Ending, run, renumbered}
use Rattle.reply_track.specs.Runs.Ending.{Going, Ended, Failed}
use Rattle.reply_track.specs.Tracking.{Sought, started}
use Rattle.reply_relay.specs.declared.asked.Asked.{Asked}
use Rattle.reply_relay.specs.declared.asked.Replying.{Replying}
use Rattle.reply_relay.specs.declared.asked.Wanted.{Wanted}
use Rattle.reply_relay.specs.declared.relay.Relay.{Relay}
use Rattle.reply_relay.specs.declared.relay.Relayed.{Relayed}
use Rattle.reply_relay.specs.declared.relay.Relayed.TheVariants.{Part, Whole, Bad}

-- a count that stands still at its type's end
abbrev pub counted : (count more : ℕ) → ℕ
counted count more = min (count + more) 18446744073709551615

-- A command.

-- the reply that it has, whose ids at the server go on from the command's
abbrev pub reply_to : (packets : List ℕ) → Wanted → Sought
reply_to packets wanted = record { kind = wanted.kind; server = id_after packets; client = wanted.first; number = wanted.number }

-- nothing of that is read
abbrev pub replying_to : (packets : List ℕ) → Wanted → Replying
replying_to packets wanted =
    record { tracker = record { state = started (reply_to packets wanted) }; first = wanted.first; read = 0 }

-- nothing of it is written
abbrev pub asked_of : Tag → (packets : List ℕ) → Option Wanted → Asked
asked_of tag packets wanted = record { tag = tag; packets = packets; sent = 0; reply = option_map (replying_to packets) wanted }

abbrev pub asking : Tag → (packets : List ℕ) → Option Wanted → Relay
asking tag packets wanted = record { asked = Some (asked_of tag packets wanted) }

-- what is to be written
abbrev pub left_of : Asked → Option Sent
left_of asked =
    if nat_lt asked.sent (length asked.packets) then Some (record { tag = asked.tag; bytes = drop asked.sent asked.packets }) else None

abbrev pub relay_left : Relay → Option Sent
relay_left relay = option_and_then left_of relay.asked

-- so many bytes of it are written; one without a reply is done with its last byte
abbrev pub unless_done : Option Replying → Asked → Option Asked
unless_done (Some replying) asked = Some asked
unless_done None asked = if nat_lt asked.sent (length asked.packets) then Some asked else None

abbrev pub sent_on : (n : ℕ) → Asked → Option Asked
sent_on n asked = unless_done asked.reply (record asked { sent = asked.sent + n })

abbrev pub relay_taken : (n : ℕ) → Relay → Relay
relay_taken n relay = record { asked = option_and_then (sent_on n) relay.asked }

-- a byte of it is written, or all are
abbrev pub is_begun_of : Asked → Bool
is_begun_of asked = not (nat_eq asked.sent 0)

abbrev pub is_sent_of : Asked → Bool
is_sent_of asked = nat_eq asked.sent (length asked.packets)

-- one of which no byte is written is taken back
abbrev pub unbegun_by : (sent : ℕ) → Asked → Option Asked
unbegun_by zero asked = Some asked
unbegun_by (suc sent) asked = None

abbrev pub begun_by : (sent : ℕ) → Asked → Option Asked
begun_by zero asked = None
begun_by (suc sent) asked = Some asked

abbrev pub unbegun : Relay → Option Asked
unbegun relay = option_and_then (λ (asked : Asked). unbegun_by asked.sent asked) relay.asked

abbrev pub begun : Relay → Relay
begun relay = record { asked = option_and_then (λ (asked : Asked). begun_by asked.sent asked) relay.asked }

-- Its reply.

-- one is due once a byte of the command is written
abbrev pub due_by : (sent : ℕ) → Option Replying → Option Replying
due_by zero replying = None
due_by (suc sent) replying = replying

abbrev pub due_in : Asked → Option Replying
due_in asked = due_by asked.sent asked.reply

abbrev pub due : Relay → Option Replying
due relay = option_and_then due_in relay.asked

-- what a piece tells, what is left of the link, and the piece as the client gets it
pub record Hearing : Type 0 where
  pub told : Relayed
  pub relay : Relay
  pub piece : List ℕ

-- the reply stands so
abbrev pub followed : Replying → Relay → Relay
followed replying relay = record { asked = option_map (λ (asked : Asked). record asked { reply = Some replying }) relay.asked }

-- so many bytes more were read of it
abbrev pub read_on : (size : ℕ) → State → Replying → Replying
read_on size state replying = record replying { tracker = record { state = state }; read = counted replying.read size }

abbrev pub hearing_by : (piece : List ℕ) → Replying → Relay → Ending → Hearing
hearing_by piece replying relay (Going state) =
    record { told = Part; relay = followed (read_on (length piece) state replying) relay; piece = renumbered replying.tracker.state piece }
hearing_by piece replying relay (Ended end rest) =
    record { told = Whole (length piece - length rest) end; relay = record { asked = None }; piece = renumbered replying.tracker.state piece }
hearing_by piece replying relay (Failed rest) =
    record { told = Bad (counted replying.read (length piece - length rest)); relay = relay; piece = renumbered replying.tracker.state piece }

-- nothing may come where no reply is due
abbrev pub hears : (piece : List ℕ) → Relay → Hearing
hears piece relay = option_map_or (λ (replying : Replying). hearing_by piece replying relay (run replying.tracker.state piece))
    (due relay) (record { told = Bad 0; relay = relay; piece = piece })
