-- What was decided by the entries of a log, and no more.
use Rattle.std.specs.Prelude.{◌≡◌, ◌<◌, ◌≤◌, ℕ, false, true, All, is_some, nat_eq, if◌then◌else◌, length, List, Some, None}
use Rattle.mx_wire.specs.Log.{Log, accepted_links}
use Rattle.client_session.specs.Setups.{Setup as Service}
use Rattle.private_model.specs.Names.{ClientNo, LinkId, MessageName}
use Rattle.private_model.specs.View.{Setup}
use Rattle.link_laws.specs.Stands.{Codes}
use Rattle.log_story.specs.Headline.{tale_of}
use Rattle.log_story.specs.Plan.{LastWord, OwnAnswer, Plan, Route}
use Rattle.log_story.specs.Tale.{Client, Tale}
use Rattle.tale_world.specs.Decided.{Decided, first_decided}
use Rattle.core_laws.specs.entry.Tells.{Fits, IsOf}
use Rattle.router_laws.specs.decisions.Deeds.{Counts, is_opened}

-- at first that the messages before a client's first go nowhere, and aren't answered
abbrev pub first_deciding : Service → Decided
first_deciding service = record (first_decided service 1048576) {
  routes = λ m. if nat_eq m.ordinal 0 then Some None else None;
  own = λ m. if nat_eq m.ordinal 0 then Some None else None;
}

pub record IsDecided (d : Decided) (m : MessageName) : Type 0 where
  pub routed : is_some (d.routes m) ≡ true
  pub owned : is_some (d.own m) ≡ true

pub record IsUndecided (d : Decided) (m : MessageName) : Type 0 where
  pub unrouted : d.routes m ≡ None
  pub unowned : d.own m ≡ None

-- nothing was decided of a client that didn't come
pub record IsStranger (d : Decided) (n : Counts) (c : ClientNo) : Type 0 where
  pub untaken : n.taken c ≡ 0
  pub going : d.ends c ≡ None

pub record IsUnknown (d : Decided) (n : Counts) (l : LinkId) : Type 0 where
  pub nobody : d.logins l ≡ None
  pub unbegun : n.begun l ≡ 0

-- Of each message that was taken up it was decided where it goes, and whether the router answers it by now; of no other. No copies are made. Nothing was decided for
-- later, nor of clients and links that didn't come; and who goes on has no last word.
pub record IsRecorded (d : Decided) (n : Counts) (log : Log) : Type 0 where
  pub until : d.until ≡ length log
  pub taken_up : (m : MessageName) → m.ordinal ≤ n.taken m.client → IsDecided d m
  pub to_come : (m : MessageName) → n.taken m.client < m.ordinal → IsUndecided d m
  pub nowhere : (c : ClientNo) → d.routes (record { client = c; ordinal = 0 }) ≡ Some None
  pub alone : (m : MessageName) (route : Route) → d.routes m ≡ Some (Some route) → route.mirror ≡ None
  pub answered : (m : MessageName) (answer : OwnAnswer) → d.own m ≡ Some (Some answer) → answer.from ≤ length log
  pub ended : (c : ClientNo) (at : ℕ) → d.ends c ≡ Some at → at ≤ length log
  pub told : (c : ClientNo) (word : LastWord) → d.words c ≡ Some word → word.from ≤ length log
  pub silent : (c : ClientNo) → d.ends c ≡ None → d.words c ≡ None
  pub strangers : (c : ClientNo) → length (accepted_links log) < c.0 → IsStranger d n c
  pub unopened : (l : LinkId) → is_opened l log ≡ false → IsUnknown d n l
  pub unbegun : (l : LinkId) (k : ℕ) → n.begun l ≤ k → d.steps l k ≡ None

-- These are the counts of a tale.
pub record AreCountsOf (n : Counts) (tale : Tale) : Type 0 where
  pub taken : All (λ (client : Client). client.taken ≡ n.taken client.number) tale.clients
  pub begun : (l : LinkId) → (tale.wires l).begun ≡ n.begun l

-- by each plan that has what was decided
abbrev pub AreCountsBy : (default : List ℕ) → Decided → Counts → Log → Type 0
AreCountsBy default d n log =
    (setup : Setup) (codes : Codes) (plan : Plan) → IsOf d (length log) plan → Fits d.keys setup codes plan default (tale_of setup plan log)
    → AreCountsOf n (tale_of setup plan log)
