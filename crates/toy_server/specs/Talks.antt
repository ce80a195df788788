-- What a server in code says on a connection, by what is read there.
use Rattle.std.specs.Prelude.{◌≡◌, ℕ, ◌-◌, ◌^◌, zero, suc, true, false, List, [], ◌∷◌, ◌++◌, length, Option, if◌then◌else◌}
use Rattle.std.specs.Io.KnownBytes.{Appends, Consumes}
use Rattle.mx_base.specs.declared.names.ClientNo.{ClientNo}
use Rattle.server_rule.specs.Servers.{Step}
use Rattle.scripted_wire.specs.Hosts.{Hosted}
use Rattle.scripted_wire.specs.Marks.{is_work}
use Rattle.scripted_wire.specs.Salts.{salt_of}
use Rattle.scripted_wire.specs.Serving.{Served, first_link, hears, served}
use Rattle.scripted_wire.specs.declared.server_link.LetsIn.TheVariants as whom
use Rattle.scripted_wire.specs.declared.server_link.ServerLink.{ServerLink}

-- a connection as its server sees it, and the servers with their sessions
pub record Stand : Type 0 where
  pub link : ServerLink
  pub hosted : Hosted

abbrev pub stand_of : Served → Stand
stand_of it = record { link = it.link; hosted = it.hosted }

abbrev pub goes_on : (rest : Stand → Stand) → Served → Stand
goes_on rest it = if is_work it.did then rest (stand_of it) else stand_of it

-- what was told whole is done, one after the other, until nothing is left, so often at most
unfoldable pub served_on : Step → (most : ℕ) → Stand → Stand
served_on step zero at = at
served_on step (suc most) at = goes_on (served_on step most) (served step false at.link at.hosted)

-- a piece is told
abbrev pub heard : Step → (piece : List ℕ) → Stand → Stand
heard step piece at = served_on step (2 ^ 64 - 1) (record at { link = hears piece at.link })

-- a connection, and what was written on it
pub record Talk : Type 0 where
  pub at : Stand
  pub written : List ℕ

abbrev pub begun : ServerLink → Hosted → Talk
begun link hosted = record { at = record { link = link; hosted = hosted }; written = [] }

-- nothing is left to be written
abbrev pub emptied : ServerLink → ServerLink
emptied link = record link { client = record link.client { outgoing = Rattle.std.specs.Prelude.drop (length link.client.outgoing) link.client.outgoing } }

-- what the server has said is written
abbrev pub said : Talk → Talk
said talk = record { at = record talk.at { link = emptied talk.at.link }; written = talk.written ++ talk.at.link.client.outgoing }

-- it is told these pieces, the newest of them first, and what it has said is written before each
unfoldable pub talked : Step → Talk → (pieces : List (List ℕ)) → Talk
talked step begin [] = begin
talked step begin (piece ∷ earlier) = record (said (talked step begin earlier)) { at = heard step piece (said (talked step begin earlier)).at }

-- the bytes of these pieces, the newest of them first
unfoldable pub bytes_in : (pieces : List (List ℕ)) → List ℕ
bytes_in [] = []
bytes_in (piece ∷ earlier) = bytes_in earlier ++ piece

-- What was read was told in pieces, the newest of them first, and what the server has said by then was written.
pub record IsAfter (after : (pieces : List (List ℕ)) → Talk) (unread_old unread_new written_old written_new : Option (List ℕ)) (link : ServerLink) (hosted : Hosted) : Type 0 where
  pub pieces : List (List ℕ)
  pub read : Consumes unread_old unread_new (bytes_in pieces)
  pub written : Appends written_old written_new (after pieces).written
  pub is : record { link = link; hosted = hosted } ≡ (after pieces).at

-- all that it has said to these pieces is written
abbrev pub all_said : Step → Talk → (pieces : List (List ℕ)) → Talk
all_said step begin pieces = said (talked step begin pieces)

-- the session, where there is one, is closed
abbrev pub closed : Step → Stand → Hosted
closed step at = (served step true at.link at.hosted).hosted

-- a connection of this number to the first server, from its greeting to its end
pub record IsTalk (step : Step) (number : ClientNo) (old : Hosted) (unread_old unread_new written_old written_new : Option (List ℕ)) (new : Hosted) : Type 0 where
  pub link : ServerLink
  pub hosted : Hosted
  pub exchanged : IsAfter (all_said step (begun (first_link whom.WithoutPassword 0 number (salt_of number.0)) old)) unread_old unread_new written_old written_new link hosted
  pub ended : new ≡ closed step (record { link = link; hosted = hosted })
