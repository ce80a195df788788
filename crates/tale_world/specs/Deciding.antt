-- How the router decides: functions of what it knows.
use Rattle.std.specs.Prelude.{ℕ, Bool, List, Option}
use Rattle.mx_base.specs.declared.tag.Tag.{Tag}
use Rattle.mx_wire.specs.declared.entry.Entry.{Entry}
use Rattle.packet_frame.specs.Packets.{Framed}
use Rattle.server_side.specs.Account.{Account}
use Rattle.private_model.specs.Names.{ClientNo, LinkId, MessageName}
use Rattle.log_story.specs.Plan.{LastWord, OwnAnswer, Route, StepText}
use Rattle.log_story.specs.Tale.{Client, Tale}
use Rattle.tale_world.specs.Decided.{Decided}

-- what was decided, the tale by it, and what else the router knows: who waits, which links are opened, closed or idle, servers' states
pub record World (X : Type 0) : Type 0 where
  pub decided : Decided
  pub tale : Tale
  pub more : X

-- As bytes begin a question, or a link logs in; as an entry is told; as messages are taken up; and as links are given back. `routed` and
-- `given` are asked of messages that never came up, and of copies: a router says None.
pub record Deciding (X : Type 0) : Type 0 where
  pub login : World X → LinkId → Account
  pub step : World X → LinkId → Tag → List ℕ → StepText
  -- what the entry changes of the rest; which messages that were taken up are given up by it, and which clients are ended
  pub hears : World X → Entry → X
  pub gives_up : World X → Entry → MessageName → Option (List (List ℕ))
  pub ends : World X → Entry → ClientNo → Bool
  -- the last word to a client that is ended
  pub words : World X → Entry → ClientNo → Option LastWord
  -- where a message goes as it comes up; whether it is answered as it is taken up; and what that changes of the rest
  pub route : World X → Client → (ordinal : ℕ) → Framed → Option Route
  pub answer : World X → Client → (ordinal : ℕ) → Framed → Option OwnAnswer
  pub takes : World X → Client → (ordinal : ℕ) → Framed → X
  pub routed : World X → MessageName → Option Route
  pub given : World X → MessageName → Option OwnAnswer
  -- what a link that is given back changes of the rest
  pub frees : World X → LinkId → X
