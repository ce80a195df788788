-- Where the same is known of what a client prepared, a verdict is so as well.
use Rattle.std.specs.Prelude.{◌≡◌, ◌<◌, ℕ, Bool, true, false, find, is_some, List, Option, Some, None}
use Rattle.std.specs.Option.{option_and_then}
use Rattle.std.proofs.Common.{refl, sym, ap, subst, ◌∙◌}
use Rattle.private_model.specs.Names.{ClientNo, Hostgroup, LinkId}
use Rattle.private_model.specs.Story.{Key}
use Rattle.log_story.specs.Plan.{Route}
use Rattle.mx_base.specs.declared.names.Port.{Port}
use Rattle.mx_base.specs.declared.names.Port.TheVariants.{Admin, Traffic}
use Rattle.router_promises.specs.Verdicts.{Tells, Verdict}
use Rattle.message_judge.specs.declared.caller.Prepared.{Prepared}
use Rattle.core_promises.specs.Judges.{IsRoutedFor, IsToldAt, IsToldFor, IsTransaction, IsVerdictFor, Rulebook, Situation, transaction_of}
use Rattle.core_promises.specs.Statements.{number_named}

-- what is so of a client in one is so in the other, and what it prepared under a number above 0 is the same
pub record KnowsMore (one other : Situation) : Type 0 where
  pub port : other.port ≡ one.port
  pub user : other.user ≡ one.user
  pub place : other.place ≡ one.place
  pub pins : other.pins ≡ one.pins
  pub homes : other.homes ≡ one.homes
  pub statements : (number : ℕ) (prepared : Prepared) → one.statements number ≡ Some prepared → other.statements number ≡ Some prepared
  pub back : (number : ℕ) (prepared : Prepared) → 0 < number → other.statements number ≡ Some prepared → one.statements number ≡ Some prepared
  pub given : (number : ℕ) → one.given number ≡ false → other.given number ≡ false

named : (one other : Situation) → KnowsMore one other → (number : Option ℕ) (prepared : Prepared)
    → option_and_then one.statements number ≡ Some prepared → option_and_then other.statements number ≡ Some prepared
named one other within None prepared is = is
named one other within (Some number) prepared is = within.statements number prepared is

transaction_within : (book : Rulebook) (one other : Situation) → other.pins ≡ one.pins → (found : Option Hostgroup) → IsTransaction book one found
    → IsTransaction book other found
transaction_within book one other same found is =
    let of_same : transaction_of book other ≡ transaction_of book one = (λ i. find (λ (h : Hostgroup). (same i h).tx) book.hostgroups) in
    record {
      first = λ h at. is.first h (sym of_same ∙ at);
      in_transaction = λ h at. (λ i. (same i h).tx) ∙ is.in_transaction h at;
      none = λ nowhere h. (λ i. (same i h).tx) ∙ is.none nowhere h;
    }

pub verdict_within : (book : Rulebook) (one other : Situation) → KnowsMore one other → (c : ClientNo) (payload : List ℕ) (verdict : Verdict)
    → IsVerdictFor book one c payload verdict → IsVerdictFor book other c payload verdict
verdict_within book one other within c payload verdict for = record {
  known = for.known;
  client = for.client;
  login = for.login ∙ sym within.user;
  home = for.home ∙ ap book.home (sym within.user);
  place = for.place ∙ sym within.place;
  transaction = transaction_within book one other within.pins for.known.standing.transaction for.transaction;
  pins = for.pins ∙ sym within.pins;
  there = λ h some. for.there h (ap (λ (homes : Hostgroup → Option LinkId). is_some (homes h)) (sym within.homes) ∙ some);
  flag = for.flag;
  prepared = λ prepared is. named one other within (number_named payload) prepared (for.prepared prepared is);
  named = λ number prepared is some there. for.named number prepared is some (within.back number prepared some there);
  number = λ n is. within.given n (for.number n is);
  is = for.is;
}

told_at : (port : Port) (book : Rulebook) (one other : Situation) → KnowsMore one other → (c : ClientNo) (payload : List ℕ) (payloads : List (List ℕ))
    → IsToldAt port book one c payload payloads → IsToldAt port book other c payload payloads
told_at Traffic book one other within c payload payloads told = verdict_within book one other within c payload (Tells payloads) told
told_at Admin book one other within c payload payloads told = told

pub told_within : (book : Rulebook) (one other : Situation) → KnowsMore one other → (c : ClientNo) (payload : List ℕ) (payloads : List (List ℕ))
    → IsToldFor book one c payload payloads → IsToldFor book other c payload payloads
told_within book one other within c payload payloads told =
    subst (λ (port : Port). IsToldAt port book other c payload payloads) (sym within.port) (told_at one.port book one other within c payload payloads told)

pub routed_within : (book : Rulebook) (one other : Situation) → KnowsMore one other → (keys more : (key : ℕ) → Option Key)
    → ((k : ℕ) (key : Key) → keys k ≡ Some key → more k ≡ Some key) → (c : ClientNo) (payload : List ℕ) (route : Route)
    → IsRoutedFor book one keys c payload route → IsRoutedFor book other more c payload route
routed_within book one other within keys more keep c payload route routed = record {
  wanted = routed.wanted;
  routed = routed.routed;
  keyed = λ key is. keep route.key key (routed.keyed key is);
  port = within.port ∙ routed.port;
  is = verdict_within book one other within c payload _ routed.is;
}
