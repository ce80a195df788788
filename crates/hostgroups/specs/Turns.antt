-- The turns of servers in the rounds of their hostgroups.
use Rattle.std.specs.Prelude.{◌≡◌, ℕ, zero, suc, ◌+◌, ◌*◌, ◌<◌, ◌≤◌, ◌==◌, Bool, if◌then◌else◌, List, ◌++◌, take, drop, length, All, count_by, sum_by, slice_get, Option, None, Some}
use Rattle.std.specs.List.{find, position_or_len}
use Rattle.mx_base.specs.declared.names.ServerId.{ServerId}
use Rattle.mx_base.specs.declared.names.Hostgroup.{Hostgroup}
use Rattle.hostgroups.specs.declared.row.ServerRow.{ServerRow}

-- how often a server stands among turns
abbrev pub times : ServerId → List ServerId → ℕ
times server turns = count_by (λ turn. turn.0 == server.0) turns

abbrev pub is_in : Hostgroup → ServerRow → Bool
is_in hostgroup row = row.hostgroup.0 == hostgroup.0

abbrev pub weight_there : Hostgroup → Option ServerRow → ℕ
weight_there hostgroup None = 0
weight_there hostgroup (Some row) = if is_in hostgroup row then row.weight else 0

-- the number n + 1 is that of the n-th row
abbrev pub row_at : List ServerRow → ℕ → Option ServerRow
row_at rows zero = None
row_at rows (suc n) = slice_get rows n

-- how many turns the server of a number has in each round of a hostgroup: its weight, and none in another's
abbrev pub weights_in : List ServerRow → Hostgroup → ServerId → ℕ
weights_in rows hostgroup server = weight_there hostgroup (row_at rows server.0)

-- the weights of a hostgroup's servers together
abbrev pub weight_of_all : List ServerRow → Hostgroup → ℕ
weight_of_all rows hostgroup = sum_by (λ row. weight_there hostgroup (Some row)) rows

-- of each n turns in a row, wherever the round begins, the server has one at most
abbrev pub IsApart : ServerId → (n : ℕ) → List ServerId → Type 0
IsApart server n turns = (over coming : List ServerId) → turns ≡ over ++ coming → times server (take n (coming ++ over)) ≤ 1

-- no server has two turns one right behind the other, but for one that has more turns than the others have together
abbrev pub IsSpread : List ServerId → Type 0
IsSpread turns = (server : ServerId) → 2 * times server turns ≤ length turns → IsApart server 2 turns

-- where no server has more turns than this one, its turns are as far from one another as there is room for
abbrev pub IsEven : List ServerId → Type 0
IsEven turns = (server : ServerId) → ((other : ServerId) → times other turns ≤ times server turns)
    → (n : ℕ) → n * times server turns ≤ length turns → IsApart server n turns

-- a full round of a hostgroup: each server stands in it as often as its weight, and its turns don't follow one another
pub record IsFullRound (rows : List ServerRow) (hostgroup : Hostgroup) (turns : List ServerId) : Type 0 where
  pub as_often : (server : ServerId) → times server turns ≡ weights_in rows hostgroup server
  pub whole : length turns ≡ weight_of_all rows hostgroup
  pub spread : IsSpread turns
  pub even : IsEven turns

-- no weight in the hostgroup is greater
abbrev pub IsWithin : Hostgroup → ℕ → List ServerRow → Type 0
IsWithin hostgroup heaviest rows = All (λ row. weight_there hostgroup (Some row) ≤ heaviest) rows

-- the greatest weight in the hostgroup, 0 where it has no server
pub record IsHeaviest (hostgroup : Hostgroup) (heaviest : ℕ) (rows : List ServerRow) : Type 0 where
  pub within : IsWithin hostgroup heaviest rows
  pub least : (most : ℕ) → IsWithin hostgroup most rows → heaviest ≤ most

-- a round from its k-th turn on: those before it come last
abbrev pub from_turn : ℕ → List ServerId → List ServerId
from_turn k turns = drop k turns ++ take k turns

-- the turns that come once the first server that is ready had its turn; all of them, where none is ready
abbrev pub behind : (ServerId → Bool) → List ServerId → List ServerId
behind ready turns = from_turn (position_or_len ready turns + 1) turns

-- the place of the next turn of a server that is ready, in a round of which so many turns are over
pub record IsNext (ready : ServerId → Bool) (turns : List ServerId) (over place : ℕ) : Type 0 where
  pub within : place < length turns
  pub found : find ready (from_turn over turns) ≡ slice_get turns place
  pub behind : behind ready (from_turn over turns) ≡ from_turn (place + 1) turns

pub record IsNone (ready : ServerId → Bool) (turns : List ServerId) (over : ℕ) : Type 0 where
  pub found : find ready (from_turn over turns) ≡ None
  pub behind : behind ready (from_turn over turns) ≡ from_turn over turns
