-- The transcript of a log: its links, and under each the bytes that were written on it.
use Rattle.std.specs.Prelude.{ℕ, ◌+◌, ◌&&◌, nat_eq, Bool, true, false, if◌then◌else◌, List, [], ◌∷◌, ◌++◌, codes}
use Rattle.std.specs.List.{flat_map, list_any}
use Rattle.std.specs.Fmt.{decimal}
use Rattle.hex.specs.Hex.{encode_lower}
use Rattle.mx_base.specs.declared.names.ClientNo.{ClientNo}
use Rattle.mx_base.specs.declared.names.Port.TheVariants.{Traffic, Admin}
use Rattle.mx_base.specs.declared.tag.Tag.{Tag}
use Rattle.mx_base.specs.declared.tag.Tag.TheVariants.{For, Sync, Prep, Mirror, End, Own, Reply}
use Rattle.mx_wire.specs.Log.{Log, of_link}
use Rattle.mx_wire.specs.declared.entry.Entry.{Entry}
use Rattle.mx_wire.specs.declared.entry.Entry.TheVariants.{Accepted, Opened, Wrote, Closed}
use Rattle.recording.specs.declared.peer.Peer.{Peer}
use Rattle.recording.specs.declared.peer.Peer.TheVariants.{Client, Server}

-- c<n> or s<k>
abbrev pub name : Peer → List ℕ
name (Client n port) = codes "c" ++ decimal n
name (Server k server) = codes "s" ++ decimal k

-- the peer, and what it is: a client of a port, or the server that was opened
abbrev pub title : Peer → List ℕ
title (Client n Traffic) = name (Client n Traffic) ++ codes " traffic"
title (Client n Admin) = name (Client n Admin) ++ codes " admin"
title (Server k server) = name (Server k server) ++ codes " server " ++ decimal server.0

-- a client's message, and a client's session of a hostgroup
abbrev pub numbered : ClientNo → ℕ → List ℕ
numbered client n = codes "c" ++ decimal client.0 ++ codes "/" ++ decimal n

unfoldable pub tag_text : Tag → List ℕ
tag_text (For client ordinal) = codes "for " ++ numbered client ordinal
tag_text (Sync client hostgroup) = codes "sync " ++ numbered client hostgroup.0
tag_text (Prep client ordinal) = codes "prep " ++ numbered client ordinal
tag_text (Mirror client ordinal) = codes "mirror " ++ numbered client ordinal
tag_text (End client hostgroup) = codes "end " ++ numbered client hostgroup.0
tag_text Own = codes "own"
tag_text Reply = codes "reply"

unfoldable pub same_tag : Tag → Tag → Bool
same_tag (For client ordinal) (For other n) = nat_eq client.0 other.0 && nat_eq ordinal n
same_tag (Sync client hostgroup) (Sync other h) = nat_eq client.0 other.0 && nat_eq hostgroup.0 h.0
same_tag (Prep client ordinal) (Prep other n) = nat_eq client.0 other.0 && nat_eq ordinal n
same_tag (Mirror client ordinal) (Mirror other n) = nat_eq client.0 other.0 && nat_eq ordinal n
same_tag (End client hostgroup) (End other h) = nat_eq client.0 other.0 && nat_eq hostgroup.0 h.0
same_tag Own Own = true
same_tag Reply Reply = true
same_tag _ _ = false

-- bytes that were written in a row with one tag
pub record Run : Type 0 where
  pub tag : Tag
  pub bytes : List ℕ

abbrev pub joined : Run → List Run → List Run
joined run [] = run ∷ []
joined run (next ∷ later) =
    if same_tag run.tag next.tag
    then record { tag = run.tag; bytes = run.bytes ++ next.bytes } ∷ later
    else run ∷ next ∷ later

-- each longest run of the Wrote entries with one tag
abbrev pub runs : Log → List Run
runs [] = []
runs (Wrote link tag bytes ∷ log) = joined (record { tag = tag; bytes = bytes }) (runs log)
runs (_ ∷ log) = runs log

abbrev pub run_line : Peer → Run → List ℕ
run_line peer run = name peer ++ codes " " ++ tag_text run.tag ++ codes " " ++ encode_lower run.bytes ++ codes "\n"

abbrev pub is_closing : Entry → Bool
is_closing (Closed link) = true
is_closing _ = false

abbrev pub standing : Bool → List ℕ
standing closed = if closed then codes " closed\n" else codes " open\n"

-- the lines of a link whose entries these are
unfoldable pub link_lines : Peer → Log → List ℕ
link_lines peer of_it = codes "link " ++ title peer ++ standing (list_any is_closing of_it) ++ flat_map (run_line peer) (runs of_it)

-- The lines of the links that come in these entries, of which n clients and k server links have come before.
abbrev pub lines_of : Log → ℕ → ℕ → Log → List ℕ
lines_of log n k [] = []
lines_of log n k (Accepted port link salt ∷ later) = link_lines (Client (n + 1) port) (of_link link log) ++ lines_of log (n + 1) k later
lines_of log n k (Opened server address link ∷ later) = link_lines (Server (k + 1) server) (of_link link log) ++ lines_of log n (k + 1) later
lines_of log n k (_ ∷ later) = lines_of log n k later

-- The transcript: for each link, in the order in which they came, its line, and a line for each of its runs.
unfoldable pub transcript_of : Log → List ℕ
transcript_of log = lines_of log 0 0 log
