-- The rounds of hostgroups.
use Rattle.std.specs.Prelude.{◌≡◌, ℕ, ◌==◌, Bool, nat_eq, if◌then◌else◌, List, [], ◌∷◌, Option}
use Rattle.std.specs.List.{position_from}
use Rattle.std.specs.HashMap as map
use Rattle.std.specs.declared.hash.FoldHasher.{FoldHasher}
use Rattle.std.specs.declared.hash.BuildHasherDefault.{BuildHasherDefault}
use Rattle.mx_base.specs.declared.names.Hostgroup.{Hostgroup}
use Rattle.mx_base.specs.declared.names.ServerId.{ServerId}
use Rattle.hostgroups.specs.declared.row.ServerRow.{ServerRow}
use Rattle.hostgroups.specs.Turns.{IsFullRound}

-- the turns that come in a hostgroup, going round
pub record Coming : Type 0 where
  pub hostgroup : Hostgroup
  pub turns : List ServerId

abbrev pub is_of : Hostgroup → Coming → Bool
is_of hostgroup coming = coming.hostgroup.0 == hostgroup.0

-- none, where the hostgroup has no round
abbrev pub turns_of : List Coming → Hostgroup → List ServerId
turns_of [] hostgroup = []
turns_of (first ∷ rounds) hostgroup = if is_of hostgroup first then first.turns else turns_of rounds hostgroup

abbrev pub with_turns : List Coming → Hostgroup → List ServerId → List Coming
with_turns [] hostgroup turns = []
with_turns (first ∷ rounds) hostgroup turns = if is_of hostgroup first then record first { turns = turns } ∷ rounds else first ∷ with_turns
    rounds hostgroup turns

abbrev pub place_of : List Coming → Hostgroup → Option ℕ
place_of rounds hostgroup = position_from (is_of hostgroup) 0 rounds

-- the map has the place of each hostgroup's round
abbrev pub ArePlaces : List Coming → map.HashMap ℕ ℕ (BuildHasherDefault FoldHasher) → Type 0
ArePlaces rounds places = (hostgroup : Hostgroup) → map.get nat_eq places hostgroup.0 ≡ place_of rounds hostgroup

-- what comes in each hostgroup is a full round of it
abbrev pub AreFull : List ServerRow → List Coming → Type 0
AreFull rows rounds = (hostgroup : Hostgroup) → IsFullRound rows hostgroup (turns_of rounds hostgroup)
