-- How the turns of a round are dealt to its passes.
use Rattle.std.specs.Prelude.{◌≡◌, ℕ, zero, suc, ◌+◌, ◌-◌, ◌*◌, ◌<◌, ◌≤◌, ◌==◌, Bool, nat_lt, if◌then◌else◌, List, [], ◌∷◌, ◌++◌, All, count_by, length, sum_by}
use Rattle.std.specs.List.{flat_map}
use Rattle.mx_base.specs.declared.names.ServerId.{ServerId}
use Rattle.mx_base.specs.declared.names.Hostgroup.{Hostgroup}
use Rattle.hostgroups.specs.declared.dealing.Share.{Share}
use Rattle.hostgroups.specs.declared.row.ServerRow.{ServerRow}
use Rattle.hostgroups.specs.Turns.{times, weight_of_all, weights_in}

-- a share of a round with so many passes
abbrev pub Fits : (heaviest : ℕ) → Share → Type 0
Fits heaviest share = (share.weight ≤ heaviest) × (share.first ≤ heaviest)

-- a server has a turn in the passes from `first` on, as many as its weight, going round
abbrev pub plays : (heaviest pass : ℕ) → Share → Bool
plays heaviest pass share = nat_lt (if nat_lt pass share.first then heaviest - share.first + pass else pass - share.first) share.weight

abbrev pub turn_in : (heaviest pass : ℕ) → Share → List ServerId
turn_in heaviest pass share = if plays heaviest pass share then share.server ∷ [] else []

-- the turns of one pass
abbrev pub pass_turns : (heaviest : ℕ) → List Share → (pass : ℕ) → List ServerId
pass_turns heaviest shares pass = flat_map (turn_in heaviest pass) shares

abbrev pub upto : ℕ → List ℕ
upto zero = []
upto (suc n) = upto n ++ n ∷ []

abbrev pub weight_in : ServerId → Share → ℕ
weight_in server share = if share.server.0 == server.0 then share.weight else 0

-- how many turns the shares give to a server
abbrev pub weight_of : ServerId → List Share → ℕ
weight_of server shares = sum_by (weight_in server) shares

abbrev pub shares_of : ServerId → List Share → ℕ
shares_of server shares = count_by (λ share. share.server.0 == server.0) shares

-- how many turns the shares have together
abbrev pub turns_in_all : List Share → ℕ
turns_in_all shares = sum_by (λ share. share.weight) shares

-- a share behind the others, unless it is none
abbrev pub with_share : List Share → Share → List Share
with_share shares share = if nat_lt 0 share.weight then shares ++ share ∷ [] else shares

-- the pass behind the last of so many from `first` on
abbrev pub pass_behind : (heaviest first weight : ℕ) → ℕ
pass_behind heaviest first weight = if nat_lt (first + weight) heaviest then first + weight else first + weight - heaviest

-- the shares of a hostgroup's servers in a round with so many passes
pub record AreShares (rows : List ServerRow) (hostgroup : Hostgroup) (heaviest : ℕ) (shares : List Share) : Type 0 where
  pub fits : All (Fits heaviest) shares
  pub weights : (server : ServerId) → weight_of server shares ≡ weights_in rows hostgroup server
  pub whole : turns_in_all shares ≡ weight_of_all rows hostgroup
  -- no server has two turns in a pass
  pub once : (server : ServerId) (pass : ℕ) → times server (pass_turns heaviest shares pass) ≤ 1
  -- each pass has as many turns at least as there are in all, divided by the passes
  pub even : (pass n : ℕ) → pass < heaviest → n * heaviest ≤ turns_in_all shares → n ≤ length (pass_turns heaviest shares pass)
  -- no server has two shares, and they come by weight, one with a turn in each pass first
  pub single : (server : ServerId) → shares_of server shares ≤ 1
  pub ordered : (before : List Share) (share : Share) (behind : List Share) → shares ≡ before ++ share ∷ behind
      → All (λ other. share.weight ≤ other.weight) before
  pub first : (share : Share) (others : List Share) → shares ≡ share ∷ others → share.weight ≡ heaviest
