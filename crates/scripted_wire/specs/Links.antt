-- A link of the router.
use Rattle.std.specs.Prelude.{◌≡◌, ℕ, Bool, true, false, not, ◌&&◌, ◌||◌, List, length}
use Rattle.mx_wire.specs.declared.wire.Got.{Got}
use Rattle.mx_wire.specs.declared.wire.Got.TheVariants as got
use Rattle.server_rule.specs.Servers.{Step}
use Rattle.scripted_wire.specs.Giving.{is_some_of}
use Rattle.scripted_wire.specs.Hosts.{Hosted}
use Rattle.scripted_wire.specs.Scripts.{HearsPiece, client_ends, client_read, client_unread, commands_at, is_finished}
use Rattle.scripted_wire.specs.Serving.{Served, hears, link_read, served}
use Rattle.scripted_wire.specs.declared.did.Did.{Did}
use Rattle.scripted_wire.specs.declared.did.Did.TheVariants as did
use Rattle.scripted_wire.specs.declared.link.Link.{Link}
use Rattle.scripted_wire.specs.declared.link.Peer.{Peer}
use Rattle.scripted_wire.specs.declared.link.Peer.TheVariants as peer
use Rattle.scripted_wire.specs.declared.script.Script.{Script}

abbrev pub new_link : Peer → Link
new_link who = record { peer = who; closed = false; told = false }

-- what can be read of it, and whether it ends behind that
abbrev pub unread : Peer → List ℕ
unread (peer.Client client) = client_unread client.course client.backend
unread (peer.Server link) = link.client.outgoing

abbrev pub ends : Peer → Bool
ends (peer.Client client) = client_ends client.course
ends (peer.Server link) = link.ended

-- there is something to read, or the end, of which the router wasn't told
abbrev pub has_news : Link → Bool
has_news link = not link.closed && (is_some_of (unread link.peer) || (ends link.peer && not link.told))

-- a read of it

abbrev pub peer_read : Got → Peer → Peer
peer_read answer (peer.Client client) = peer.Client (client_read answer client)
peer_read answer (peer.Server link) = peer.Server (link_read answer link)

abbrev pub tells_end : Got → (told : Bool) → Bool
tells_end got.End told = true
tells_end _ told = told

abbrev pub read_on : Got → Link → Link
read_on answer link = record { peer = peer_read answer link.peer; closed = link.closed; told = tells_end answer link.told }

-- a write on it

abbrev pub PeerHears : List Script → (piece : List ℕ) → Peer → Peer → Type 0
PeerHears scripts piece (peer.Client old) (peer.Client new) = HearsPiece (commands_at scripts old.script) piece old new
PeerHears scripts piece (peer.Server old) (peer.Server new) = new ≡ hears piece old
PeerHears scripts piece _ _ = ⊥

pub record LinkHears (scripts : List Script) (piece : List ℕ) (old new : Link) : Type 0 where
  pub peer : PeerHears scripts piece old.peer new.peer
  pub frame : new ≡ record old { peer = new.peer }

-- what a server does on it at a wake: the link, the servers and sessions behind it, and what that is in the log
pub record LinkServed : Type 0 where
  pub link : Link
  pub hosted : Hosted
  pub did : Did

abbrev pub on_link : Link → Served → LinkServed
on_link link it = record { link = record link { peer = peer.Server it.link }; hosted = it.hosted; did = it.did }

abbrev pub link_served_by : Step → Peer → Link → Hosted → LinkServed
link_served_by step (peer.Client client) link hosted = record { link = link; hosted = hosted; did = did.Nothing }
link_served_by step (peer.Server server) link hosted = on_link link (served step link.closed server hosted)

abbrev pub link_served : Step → Link → Hosted → LinkServed
link_served step link hosted = link_served_by step link.peer link hosted

-- nothing is left to read of it, and its client, where it is one's, has nothing to say and waits for nothing

abbrev pub peer_rests : List Script → Peer → Bool
peer_rests scripts (peer.Client client) = is_finished (length (commands_at scripts client.script)) client
peer_rests scripts (peer.Server link) = true

abbrev pub link_rests : List Script → Link → Bool
link_rests scripts link = link.closed || (not (has_news link) && peer_rests scripts link.peer)
