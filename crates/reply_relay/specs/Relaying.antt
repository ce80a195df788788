-- What a link's tracker stands for: the bytes that were read of a reply, in whatever pieces they came, and those that the client got for them.
use Rattle.std.specs.Prelude.{◌≡◌, ℕ, ◌+◌, ◌-◌, List, ◌++◌, length, Some, None}
use Rattle.reply_track.specs.Runs.{Ending}
use Rattle.reply_track.specs.Runs.Ending.{Going, Ended, Failed}
use Rattle.reply_track.specs.Tracking.{Sought, Took, GoesOn, IsDone, IsBad}
use Rattle.reply_relay.specs.declared.asked.Replying.{Replying}
use Rattle.reply_relay.specs.declared.relay.Relay.{Relay}
use Rattle.reply_relay.specs.declared.relay.Relayed.{Relayed}
use Rattle.reply_relay.specs.declared.relay.Relayed.TheVariants.{Part, Whole, Bad}
use Rattle.reply_relay.specs.Relays.{counted, due}

-- A reply is due, of which these bytes were read, and the client got those; how many they were is counted.
pub record IsRelaying (sought : Sought) (read passed : List ℕ) (relay : Relay) : Type 0 where
  pub replying : Replying
  pub due : due relay ≡ Some replying
  pub took : Took sought read passed replying.tracker.state
  pub count : replying.read ≡ counted 0 (length read)

-- A piece came. The reply goes on with it; or it ends with so many of its bytes, the client got the whole reply renumbered, and nothing is due; or
-- the byte at this place of the reply is the first with which none goes on.
abbrev pub IsRelayed : Sought → (read passed piece : List ℕ) → Relayed → Relay → (new : List ℕ) → Type 0
IsRelayed sought read passed piece Part relay new = GoesOn sought (read ++ piece) × IsRelaying sought (read ++ piece) (passed ++ new) relay
IsRelayed sought read passed piece (Whole used end) relay new = IsDone sought read passed piece new used end × (relay.asked ≡ None)
IsRelayed sought read passed piece (Bad at) relay new = (place : ℕ) × IsBad sought read piece new place × (at ≡ counted 0 (length read + place))

-- the same for whoever reads all the bytes of the reply anew with a piece of this size, be the client's ids as they may
abbrev pub ReadsAs : (size all : ℕ) → Relayed → Ending → Type 0
ReadsAs size all Part (Going state) = Unit {0}
ReadsAs size all (Whole used end) (Ended last rest) = (end ≡ last) × (used + length rest ≡ size)
ReadsAs size all (Bad at) (Failed rest) = at ≡ counted 0 (all - length rest)
ReadsAs size all _ _ = ⊥
