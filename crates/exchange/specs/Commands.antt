-- The commands on a link to a server: what was written there behind the login.
use Rattle.std.specs.Prelude.{ℕ, zero, suc, ◌-◌, Bool, true, false, not, nat_eq, nat_le, ◌&&◌, if◌then◌else◌, fold, List, [], ◌∷◌, ◌++◌, length, drop, Option, Some, None}
use Rattle.std.specs.List.{filter_map}
use Rattle.mx_base.specs.declared.names.LinkId.{LinkId}
use Rattle.mx_base.specs.declared.tag.Tag.{Tag}
use Rattle.mx_base.specs.declared.tag.Tag.TheVariants.{For, Sync, Prep, Mirror, End, Own, Reply}
use Rattle.mx_wire.specs.Log.{Log}
use Rattle.mx_wire.specs.declared.entry.Entry.{Entry}
use Rattle.mx_wire.specs.declared.entry.Entry.TheVariants.{Wrote}
use Rattle.packet_frame.specs.Packets.{Found, Nothing, Whole, Faulty, first_message}
use Rattle.server_side.specs.Account.{Account}
use Rattle.server_side.specs.Login.{Opening, Goes, LogsIn, Fails}
use Rattle.client_session.specs.Setups.{most_message}
use Rattle.exchange.specs.Logins.{is_empty, sound_of, login_on}

-- what a command is for, and its bytes that were written so far
pub record Command : Type 0 where
  pub tag : Tag
  pub bytes : List ℕ

-- the pieces that were written on a link before it was lost, each as one would be alone
abbrev pub piece : Entry → Option Command
piece (Wrote link tag bytes) = Some (record { tag = tag; bytes = bytes })
piece _ = None

abbrev pub pieces_of : LinkId → Log → List Command
pieces_of link log = filter_map piece (sound_of link log)

-- those behind the first so many bytes
abbrev pub behind : ℕ → List Command → List Command
behind n [] = []
behind zero (p ∷ pieces) = p ∷ pieces
behind (suc n) (p ∷ pieces) = if nat_le (length p.bytes) (suc n) then behind (suc n - length p.bytes) pieces else record p { bytes = drop (suc n) p.bytes } ∷ pieces

abbrev pub same_tag : Tag → Tag → Bool
same_tag (For client ordinal) (For other another) = nat_eq client.0 other.0 && nat_eq ordinal another
same_tag (Sync client hostgroup) (Sync other another) = nat_eq client.0 other.0 && nat_eq hostgroup.0 another.0
same_tag (Prep client ordinal) (Prep other another) = nat_eq client.0 other.0 && nat_eq ordinal another
same_tag (Mirror client ordinal) (Mirror other another) = nat_eq client.0 other.0 && nat_eq ordinal another
same_tag (End client hostgroup) (End other another) = nat_eq client.0 other.0 && nat_eq hostgroup.0 another.0
same_tag Own Own = true
same_tag Reply Reply = true
same_tag _ _ = false

-- a command is whole where its bytes are one message
abbrev pub most_command : ℕ
most_command = most_message

abbrev pub whole_by : Found → Bool
whole_by Nothing = false
whole_by (Whole message rest) = is_empty rest
whole_by (Faulty fault) = false

abbrev pub is_whole : Command → Bool
is_whole command = whole_by (first_message most_command 0 command.bytes)

-- a piece goes on with the last command where that isn't whole and both are for the same, and else it begins one
abbrev pub joins : Command → Command → Bool
joins last next = same_tag last.tag next.tag && not (is_whole last)

abbrev pub with_piece : List Command → Command → List Command
with_piece [] next = next ∷ []
with_piece (c ∷ []) next = if joins c next then record c { bytes = c.bytes ++ next.bytes } ∷ [] else c ∷ next ∷ []
with_piece (c ∷ d ∷ commands) next = c ∷ with_piece (d ∷ commands) next

abbrev pub commands_in : List Command → List Command
commands_in pieces = fold with_piece [] pieces

-- they stand behind what the router says in its login
abbrev pub commands_behind : Opening → List Command → List Command
commands_behind (Goes said) pieces = []
commands_behind (LogsIn said rest) pieces = commands_in (behind (length said) pieces)
commands_behind (Fails said fault) pieces = []

-- the commands on a link on which this user logs in, in the order of their first bytes
abbrev pub commands_on : Account → LinkId → Log → List Command
commands_on user link log = commands_behind (login_on user link log) (pieces_of link log)

-- the place of a client's command among them, counted from 0
abbrev pub is_command : (n i : ℕ) → Tag → Bool
is_command n i (For client ordinal) = nat_eq n client.0 && nat_eq i ordinal
is_command n i _ = false

abbrev pub place_in : (n i place : ℕ) → List Command → Option ℕ
place_in n i place [] = None
place_in n i place (c ∷ commands) = if is_command n i c.tag then Some place else place_in n i (suc place) commands

-- the link on which a client's command was begun
abbrev pub carries : (n i : ℕ) → Entry → Option LinkId
carries n i (Wrote link tag bytes) = if is_command n i tag then Some link else None
carries n i _ = None

abbrev pub first_some : Option LinkId → Option LinkId → Option LinkId
first_some (Some link) later = Some link
first_some None later = later

abbrev pub carrier_of : (n i : ℕ) → Log → Option LinkId
carrier_of n i [] = None
carrier_of n i (e ∷ log) = first_some (carries n i e) (carrier_of n i log)
