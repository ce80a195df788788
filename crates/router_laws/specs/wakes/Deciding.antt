-- What is decided at an entry at which statements are given up, and clients are called.
use Rattle.std.specs.Prelude.{if◌then◌else◌, All, List, [], ◌∷◌, Option, Some, None, ℕ}
use Rattle.std.specs.Option.{option_map_or}
use Rattle.query_rules.specs.declared.rule.Rule.{Rule}
use Rattle.core_texts.specs.declared.texts.Texts.{Texts}
use Rattle.private_model.specs.Names.{ClientNo}
use Rattle.private_model.specs.Story.{is_client}
use Rattle.core_laws.specs.clients.Going.{GivenUp}
use Rattle.core_laws.specs.clients.Turns.{Rests}
use Rattle.router_laws.specs.decisions.Deeds.{Deeds}
use Rattle.router_laws.specs.decisions.Goings.{end_of}
use Rattle.router_laws.specs.decisions.Speaks.{IsOurs, IsPartingOurs}
use Rattle.router_laws.specs.wakes.Calling.{Caller}

-- what a client is told in place of a reply
abbrev pub payload_in : List GivenUp → ClientNo → Option (List ℕ)
payload_in [] c = None
payload_in (up ∷ others) c = if is_client c up.client then Some up.payload else payload_in others c

-- the caller of a client
abbrev pub found_in : List Caller → ClientNo → Option Caller
found_in [] c = None
found_in (caller ∷ others) c = if is_client c caller.client then Some caller else found_in others c

abbrev pub calls_deeds : List GivenUp → List Caller → Deeds
calls_deeds given callers = record {
  given = payload_in given;
  calls = λ c. option_map_or (λ (k : Caller). k.choices) (found_in callers c) [];
  halts = λ c. option_map_or (λ (k : Caller). k.halt) (found_in callers c) Rests;
  ends = λ c. option_map_or (λ (k : Caller). end_of k.parting) (found_in callers c) None;
  login = None;
  begun = None;
}

-- what a caller is answered, and its last word, are the router's own
pub record IsCallerOurs (rules : List Rule) (texts : Texts) (k : Caller) : Type 0 where
  pub choices : All (IsOurs rules texts k.client) k.choices
  pub parting : IsPartingOurs k.parting
