-- That all which was decided to be said is the router's own.
use Rattle.std.specs.Prelude.{◌≡◌, ◌<◌, ℕ, true, All, is_some, List, Option, None, Some}
use Rattle.query_rules.specs.declared.rule.Rule.{Rule}
use Rattle.core_texts.specs.Texts.{key_at}
use Rattle.core_texts.specs.declared.texts.Texts.{Texts}
use Rattle.private_model.specs.Names.{ClientNo, MessageName}
use Rattle.log_story.specs.Plan.{LastWord, OwnAnswer}
use Rattle.tale_world.specs.Decided.{Decided}
use Rattle.core_laws.specs.clients.Follows.{Parting, Tells}
use Rattle.core_laws.specs.clients.Going.{GivenUp, Going}
use Rattle.core_laws.specs.clients.Turns.{Answers, Choice, Goes, Keyed}
use Rattle.own_words.specs.Own.{IsFailure, IsLastWord, IsOwn, IsOwnAnswer}
use Rattle.router_laws.specs.decisions.Deeds.{Deeds, Word}

pub record DecidesOwn (rules : MessageName → List Rule) (d : Decided) : Type 0 where
  pub own : (m : MessageName) (answer : OwnAnswer) → d.own m ≡ Some (Some answer) → IsOwn (rules m) m.client answer.payloads
  pub words : (c : ClientNo) (word : LastWord) → d.words c ≡ Some word → IsLastWord word.payloads

-- Of a client: no copies are made of its messages, the texts by which they go are among those that are kept, also of what is to be
-- prepared, and what the router answers is its own.
abbrev pub IsOurs : List Rule → Texts → ClientNo → Choice → Type 0
IsOurs rules texts c (Goes route keyed) =
    (route.mirror ≡ None) × All (λ (one : Keyed). key_at texts one.number ≡ Some one.key) keyed × (0 < route.number → is_some (key_at texts route.key) ≡ true)
IsOurs rules texts c (Answers payloads) = IsOwnAnswer rules c payloads

-- its end, and how it is ended behind its turns

abbrev pub IsEndOurs : Option (Option Word) → Type 0
IsEndOurs (Some (Some word)) = IsLastWord word.payloads
IsEndOurs _ = Unit {0}

abbrev pub IsPartingOurs : Parting → Type 0
IsPartingOurs (Tells payload) = IsFailure payload
IsPartingOurs _ = Unit {0}

-- at an entry
pub record AreOurs (rules : List Rule) (texts : Texts) (deeds : Deeds) : Type 0 where
  pub calls : (c : ClientNo) → All (IsOurs rules texts c) (deeds.calls c)
  pub given : (c : ClientNo) (payload : List ℕ) → deeds.given c ≡ Some payload → IsFailure payload
  pub ends : (c : ClientNo) → IsEndOurs (deeds.ends c)

-- Of statements that are given up, and of clients that go on.

abbrev pub IsGivenOurs : GivenUp → Type 0
IsGivenOurs up = IsFailure up.payload

abbrev pub AreGivenOurs : Option GivenUp → Type 0
AreGivenOurs None = Unit {0}
AreGivenOurs (Some up) = IsGivenOurs up

pub record IsGoingOurs (rules : List Rule) (texts : Texts) (going : Going) : Type 0 where
  pub choices : All (IsOurs rules texts going.client) going.choices
  pub parting : IsPartingOurs going.parting

abbrev pub AreGoingOurs : List Rule → Texts → Option Going → Type 0
AreGoingOurs rules texts None = Unit {0}
AreGoingOurs rules texts (Some going) = IsGoingOurs rules texts going
