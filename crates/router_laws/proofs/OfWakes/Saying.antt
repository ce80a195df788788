-- What is said of callers, and of statements that are given up, is the router's own.
use Rattle.std.specs.Prelude.{◌≡◌, ℕ, Bool, true, false, All, if◌then◌else◌, List, [], ◌∷◌, Option, Some, None}
use Rattle.std.specs.Option.{option_map_or}
use Rattle.std.proofs.Common.{refl, subst, sym}
use Rattle.std.proofs.lemmas.List.Elements.{All-head, All-nil, All-tail}
use Rattle.query_rules.specs.declared.rule.Rule.{Rule}
use Rattle.private_model.proofs.Maps.{client_of}
use Rattle.private_model.specs.Names.{ClientNo}
use Rattle.private_model.specs.Story.{is_client}
use Rattle.core_texts.specs.declared.texts.Texts.{Texts}
use Rattle.own_words.specs.Own.{IsFailure}
use Rattle.core_laws.specs.clients.Going.{GivenUp}
use Rattle.core_laws.specs.clients.Turns.{Choice}
use Rattle.router_laws.proofs.OfDecisions.Fates.{none_some}
use Rattle.router_laws.proofs.OfDecisions.Speaking.{end_ours}
use Rattle.router_laws.specs.decisions.Deeds.{Word}
use Rattle.router_laws.specs.decisions.Goings.{end_of}
use Rattle.router_laws.specs.decisions.Speaks.{AreOurs, IsEndOurs, IsGivenOurs, IsOurs}
use Rattle.router_laws.specs.wakes.Calling.{Caller}
use Rattle.router_laws.specs.wakes.Deciding.{IsCallerOurs, calls_deeds, found_in, payload_in}

payload_ours : (given : List GivenUp) → All IsGivenOurs given → (c : ClientNo) (payload : List ℕ) → payload_in given c ≡ Some payload → IsFailure payload
payload_ours [] ours c payload is = none_some None payload refl is
payload_ours (up ∷ others) ours c payload is =
    by (is_client c up.client) (payload_ours others (All-tail IsGivenOurs up others ours) c payload) is where
      by : (b : Bool) → (payload_in others c ≡ Some payload → IsFailure payload) → (if b then Some up.payload else payload_in others c) ≡ Some payload
          → IsFailure payload
      by true later has = let same : up.payload ≡ payload = cc in subst IsFailure same (All-head IsGivenOurs up others ours)
      by false later has = later has

module _ (rules : List Rule) (texts : Texts) where
  abbrev choices_in : Option Caller → List Choice
  choices_in found = option_map_or (λ (k : Caller). k.choices) found []

  abbrev end_in : Option Caller → Option (Option Word)
  end_in found = option_map_or (λ (k : Caller). end_of k.parting) found None

  choices_ours : (callers : List Caller) → All (IsCallerOurs rules texts) callers → (c : ClientNo) → All (IsOurs rules texts c) (choices_in (found_in callers c))
  choices_ours [] ours c = All-nil (IsOurs rules texts c)
  choices_ours (k ∷ ks) ours c =
      by (is_client c k.client) refl (choices_ours ks (All-tail (IsCallerOurs rules texts) k ks ours) c) where
        by : (b : Bool) → is_client c k.client ≡ b → All (IsOurs rules texts c) (choices_in (found_in ks c))
            → All (IsOurs rules texts c) (choices_in (if b then Some k else found_in ks c))
        by true is later =
            subst (λ (x : ClientNo). All (IsOurs rules texts x) k.choices) (sym (client_of c k.client is)) (All-head (IsCallerOurs rules texts) k ks ours).choices
        by false is later = later

  partings_ours : (callers : List Caller) → All (IsCallerOurs rules texts) callers → (c : ClientNo) → IsEndOurs (end_in (found_in callers c))
  partings_ours [] ours c = tt
  partings_ours (k ∷ ks) ours c = by (is_client c k.client) (partings_ours ks (All-tail (IsCallerOurs rules texts) k ks ours) c) where
    by : (b : Bool) → IsEndOurs (end_in (found_in ks c)) → IsEndOurs (end_in (if b then Some k else found_in ks c))
    by true later = end_ours k.parting (All-head (IsCallerOurs rules texts) k ks ours).parting
    by false later = later

  pub ours_of_calls : (given : List GivenUp) (callers : List Caller) → All IsGivenOurs given → All (IsCallerOurs rules texts) callers
      → AreOurs rules texts (calls_deeds given callers)
  ours_of_calls given callers up ours = record {
    calls = choices_ours callers ours;
    given = payload_ours given up;
    ends = partings_ours callers ours;
  }
