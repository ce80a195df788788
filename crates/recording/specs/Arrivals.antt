-- Entry by entry: the links that come, counted, and what an entry has for the lines of its link.
use Rattle.std.specs.Prelude.{ℕ, ◌+◌, Bool, false, List, [], ◌∷◌, if◌then◌else◌, Option, Some, None}
use Rattle.std.specs.Option.{option_and_then, option_map_or}
use Rattle.std.specs.List.{slice_get}
use Rattle.mx_base.specs.declared.names.LinkId.{LinkId}
use Rattle.mx_base.specs.declared.tag.Tag.{Tag}
use Rattle.mx_wire.specs.Log.{Log, is_link, link_of}
use Rattle.mx_wire.specs.declared.entry.Entry.{Entry}
use Rattle.mx_wire.specs.declared.entry.Entry.TheVariants.{Accepted, Opened, Wrote}
use Rattle.recording.specs.Transcript.{is_closing}
use Rattle.recording.specs.declared.arrivals.Arrivals.{Arrivals}
use Rattle.recording.specs.declared.peer.Peer.{Peer}
use Rattle.recording.specs.declared.peer.Peer.TheVariants.{Client, Server}

-- the links that came, with the entry's
abbrev pub counted : Arrivals → Entry → Arrivals
counted before (Accepted port link salt) = record { clients = before.clients + 1; servers = before.servers }
counted before (Opened server address link) = record { clients = before.clients; servers = before.servers + 1 }
counted before _ = before

-- the link that comes, and its peer
abbrev pub arrival : Arrivals → Entry → Option (Peer × LinkId)
arrival before (Accepted port link salt) = Some (Client (before.clients + 1) port, link)
arrival before (Opened server address link) = Some (Server (before.servers + 1) server, link)
arrival before _ = None

-- the place, where its entry is of the link
abbrev pub place_if : LinkId → Entry → ℕ → List ℕ
place_if link entry place = if is_link link (link_of entry) then place ∷ [] else []

abbrev pub wrote : Entry → Option (Tag × List ℕ)
wrote (Wrote link tag bytes) = Some (tag, bytes)
wrote _ = None

-- what was written at a place of the log, and whether its link was closed there
abbrev pub wrote_at : Log → ℕ → Option (Tag × List ℕ)
wrote_at log place = option_and_then wrote (slice_get log place)

abbrev pub closes_at : Log → ℕ → Bool
closes_at log place = option_map_or is_closing (slice_get log place) false
