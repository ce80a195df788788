-- Which server is picked, and what many picks in a row give.
use Rattle.std.specs.Prelude.{◌≡◌, ℕ, ◌-◌, ◌==◌, ◌&&◌, Bool, true, false, nat_lt, List, [], ◌∷◌, All, length, count_by, slice_get, Option, None, Some, unwrap_or}
use Rattle.std.specs.List.{find}
use Rattle.mx_base.specs.declared.names.Hostgroup.{Hostgroup}
use Rattle.mx_base.specs.declared.names.ServerId.{ServerId}
use Rattle.hostgroups.specs.declared.server.Server.{Server}
use Rattle.hostgroups.specs.Rounds.{turns_of, with_turns}
use Rattle.hostgroups.specs.Servers.{belongs, server_at}
use Rattle.hostgroups.specs.Statuses.{is_online}
use Rattle.hostgroups.specs.Tables.{Holds, Table}
use Rattle.hostgroups.specs.Turns.{behind}

-- how many connections a server has; 0, where they aren't told
abbrev pub connections_at : (counts : List ℕ) → ServerId → ℕ
connections_at counts server = unwrap_or (slice_get counts (server.0 - 1)) 0

abbrev pub is_online_there : Option Server → Bool
is_online_there None = false
is_online_there (Some server) = is_online server.status

abbrev pub is_online_at : List Server → ServerId → Bool
is_online_at servers server = is_online_there (server_at servers server)

abbrev pub has_room : Option Server → (connections : ℕ) → Bool
has_room None connections = false
has_room (Some server) connections = nat_lt connections server.row.max_connections

-- a server is ONLINE, and has fewer connections than it may have
abbrev pub is_ready : List Server → (counts : List ℕ) → ServerId → Bool
is_ready servers counts server = is_online_at servers server && has_room (server_at servers server) (connections_at counts server)

-- the server that is picked: that of the first turn of one that is ready
abbrev pub picked : Table → Hostgroup → (counts : List ℕ) → Option ServerId
picked table hostgroup counts = find (is_ready table.servers counts) (turns_of table.rounds hostgroup)

-- then the turns behind it come, going round
abbrev pub after_pick : Table → Hostgroup → (counts : List ℕ) → Table
after_pick table hostgroup counts = record table {
  rounds = with_turns table.rounds hostgroup
      (behind (is_ready table.servers counts) (turns_of table.rounds hostgroup));
}

-- picks in a row, each with the connections that servers have then
abbrev pub picks : Table → Hostgroup → List (List ℕ) → List (Option ServerId)
picks table hostgroup [] = []
picks table hostgroup (counts ∷ later) = picked table hostgroup counts ∷ picks (after_pick table hostgroup counts) hostgroup later

-- each server of the hostgroup is ONLINE with room
abbrev pub AllReady : List Server → Hostgroup → (counts : List ℕ) → Type 0
AllReady servers hostgroup counts = (server : ServerId) → belongs servers hostgroup server ≡ true → is_ready servers counts server ≡ true

abbrev pub is_server : ServerId → Option ServerId → Bool
is_server server None = false
is_server server (Some other) = other.0 == server.0

-- how often a server was picked
abbrev pub times_picked : ServerId → List (Option ServerId) → ℕ
times_picked server answers = count_by (is_server server) answers

-- as many picks in a row as the hostgroup's round has turns, at each of which all its servers are ONLINE with room
pub record IsRoundOfPicks (table : Table) (hostgroup : Hostgroup) (counts : List (List ℕ)) : Type 0 where
  pub holds : Holds table
  pub whole : length counts ≡ length (turns_of table.rounds hostgroup)
  pub ready : All (AllReady table.servers hostgroup) counts
