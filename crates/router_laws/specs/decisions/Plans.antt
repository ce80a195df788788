-- What each plan has at an entry that has what is decided with its deeds: the premises of the laws of entries.
use Rattle.std.specs.Prelude.{ℕ, ◌≡◌, ◌<◌, ◌≤◌, suc, ◌&&◌, not, Bool, false, true, All, is_some, length, Some, None}
use Rattle.mx_wire.specs.Log.{Log, accepted_links}
use Rattle.mx_wire.specs.declared.entry.Entry.{Entry}
use Rattle.server_side.specs.Account.{Account as Login}
use Rattle.private_model.specs.Commands.{Reply}
use Rattle.private_model.specs.Names.{ClientNo, LinkId, MessageName}
use Rattle.log_story.specs.Owed.{name_of}
use Rattle.log_story.specs.Plan.{LastWord, Route, StepText, gives_up, own_at, word_at}
use Rattle.log_story.specs.Tale.{Client}
use Rattle.step_laws.specs.Steps.{ends_now}
use Rattle.step_laws.specs.Taken.{GivesUpNone}
use Rattle.core_stands.specs.Grounds.{Ground, view_on}
use Rattle.core_laws.specs.parting.Partings.{IsCounted}
use Rattle.core_laws.specs.clients.Chosen.{PlanHas}
use Rattle.router_laws.specs.decisions.Deeds.{Deeds, begun_at, ends_in, known_with, login_at, word_of}

-- who is given up wasn't answered by the router
abbrev pub AreUngiven : Ground → (ClientNo → Bool) → Type 0
AreUngiven g given =
    All (λ (client : Client). given client.number ≡ true → own_at g.plan g.tale.moment (name_of client client.taken) ≡ None) g.tale.clients

-- and no reply to it was read
abbrev pub AreUnreplied : Ground → (ClientNo → Bool) → Type 0
AreUnreplied g given =
    All (λ (client : Client). given client.number ≡ true → (view_on g).replies (name_of client client.taken) ≡ None) g.tale.clients

-- At the next moment none of a client's messages is given up to which a reply was read; nor is it told a word, if it ended before.
pub record KeepsAnswers (g : Ground) (client : Client) : Type 0 where
  pub given : (ordinal : ℕ) (reply : Reply) → ordinal ≤ client.taken → (view_on g).replies (name_of client ordinal) ≡ Some reply
      → own_at g.plan g.tale.moment (name_of client ordinal) ≡ None → gives_up g.plan (suc g.tale.moment) (name_of client ordinal) ≡ false
  pub word : g.over client.number ≡ true → word_at g.plan (suc g.tale.moment) client.number ≡ word_at g.plan g.tale.moment client.number

-- Of a client that is there: its last message is given up or none; and where it goes on, it has these turns, and this end.
pub record HasDeeds (g : Ground) (deeds : Deeds) (client : Client) : Type 0 where
  pub counted : IsCounted g (deeds.given client.number) client
  pub keeps : is_some (deeds.given client.number) ≡ false → GivesUpNone g.plan (suc g.tale.moment) client
  pub gives : is_some (deeds.given client.number) ≡ true → gives_up g.plan (suc g.tale.moment) (name_of client client.taken) ≡ true
  pub chosen : g.over client.number ≡ false
      → PlanHas (deeds.calls client.number) (deeds.halts client.number) g.setup.keys g.plan (suc g.tale.moment) (name_of client (suc client.taken))
  pub ends : ends_now g.plan (suc g.tale.moment) client.number ≡ (not (g.over client.number) && is_some (ends_in deeds client.number))
  pub word : g.over client.number ≡ false → word_at g.plan (suc g.tale.moment) client.number ≡ word_of deeds (suc g.tale.moment) client.number

-- Of one that comes with the entry.
pub record HasNewcomer (g : Ground) (deeds : Deeds) (c : ClientNo) : Type 0 where
  pub going : g.over c ≡ false
  pub keeps : is_some (deeds.given c) ≡ false → gives_up g.plan (suc g.tale.moment) (record { client = c; ordinal = 0 }) ≡ false
  pub ends : ends_now g.plan (suc g.tale.moment) c ≡ is_some (ends_in deeds c)
  pub says : (word : LastWord) → word_of deeds (suc g.tale.moment) c ≡ Some word → g.plan.words c ≡ Some word
  pub word : word_at g.plan (suc g.tale.moment) c ≡ word_of deeds (suc g.tale.moment) c

-- All of it: nobody else is ended, no copies are made, no message is before the first, and the link has this login or this step.
pub record PlansSo (g : Ground) (log : Log) (e : Entry) (deeds : Deeds) : Type 0 where
  pub each : All (HasDeeds g deeds) g.tale.clients
  pub newcomer : (c : ClientNo) → length (accepted_links log) < c.0 → c.0 ≤ known_with log e → HasNewcomer g deeds c
  pub ends : (c : ClientNo) → c.0 ≤ known_with log e → ends_now g.plan (suc g.tale.moment) c ≡ (not (g.over c) && is_some (ends_in deeds c))
  pub strangers : (c : ClientNo) → known_with log e < c.0 → ends_now g.plan (suc g.tale.moment) c ≡ false
  pub single : (m : MessageName) (route : Route) → g.plan.routes m ≡ Some route → route.mirror ≡ None
  pub nowhere : (c : ClientNo) → g.plan.routes (record { client = c; ordinal = 0 }) ≡ None
  pub login : (l : LinkId) (login : Login) → login_at e deeds l ≡ Some login → g.plan.logins l ≡ login
  pub step : (l : LinkId) (step : StepText) → begun_at log e deeds l ≡ Some (Some step) → g.plan.steps l (g.tale.wires l).begun ≡ step

-- nobody is given up, ended or told a word
pub record EndsNone (deeds : Deeds) : Type 0 where
  pub given : (c : ClientNo) → deeds.given c ≡ None
  pub ends : (c : ClientNo) → ends_in deeds c ≡ None
