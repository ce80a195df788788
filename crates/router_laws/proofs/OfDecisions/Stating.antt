-- What administrators work on, client by client, where one client goes on.
use Rattle.std.specs.Prelude.{◌≡◌, ◌<◌, ◌≤◌, ◌+◌, ℕ, suc, Bool, true, false, All, nat_eq, nat_le, nat_lt, if◌then◌else◌, length, map, List, [], ◌∷◌}
use Rattle.std.proofs.Common.{refl, sym, ap, ◌∙◌, subst, arith}
use Rattle.std.proofs.lemmas.Bool.{eqb-false, le-leb, lt-leb, ltb-false, ltb-true}
use Rattle.std.proofs.lemmas.List.Elements.{All-cons, All-nil, All-weaker}
use Rattle.mx_wire.specs.Log.{Log}
use Rattle.mx_wire.specs.declared.entry.Entry.{Entry}
use Rattle.private_model.specs.Names.{ClientNo}
use Rattle.private_model.specs.View.{Setup}
use Rattle.log_story.specs.Headline.{tale_of}
use Rattle.log_story.specs.Plan.{Plan}
use Rattle.log_story.specs.Tale.{Client, Tale}
use Rattle.log_story.specs.Telling.{tale_step}
use Rattle.step_laws.specs.Seats.{AreCounted, IsSeated, numbers}
use Rattle.core_laws.proofs.OfEntry.Going.{tale_more}
use Rattle.core_laws.proofs.OfEntry.Lists.{seated_of}
use Rattle.core_laws.specs.entry.Cores.{with_entry}
use Rattle.core_promises.specs.Administers.{Administered}
use Rattle.router_laws.proofs.OfClients.Continuing.{all_there}
use Rattle.router_laws.proofs.OfDecisions.Listing.{counted_below, is_tale_of}
use Rattle.router_laws.specs.clients.Continues.{IsThere}

-- before the client of a number: this up to the one that goes on, and that behind it
abbrev pub one_state : ClientNo → (was is : Administered) → (number : ℕ) → Administered
one_state c was is number = if nat_le number c.0 then was else is

module _ (c : ClientNo) (was is : Administered) where
  abbrev at : Bool → Administered
  at b = if b then was else is

  pub early_state : (number : ℕ) → number ≤ c.0 → one_state c was is number ≡ was
  early_state number early = ap at (le-leb number c.0 early)

  pub late_state : (number : ℕ) → c.0 < number → one_state c was is number ≡ is
  late_state number late = ap at (lt-leb number c.0 late)

  pub its_state : (P : (a b : Administered) → Type 0) → P was is → P (one_state c was is c.0) (one_state c was is (suc c.0))
  its_state P so =
      subst (λ (a : Administered). P a (one_state c was is (suc c.0))) (sym (early_state c.0 (omega arith)))
      (subst (λ (b : Administered). P was b) (sym (late_state (suc c.0) (omega arith))) so)

  pub others_state : (number : ℕ) → nat_eq c.0 number ≡ false → one_state c was is (suc number) ≡ one_state c was is number
  others_state number other = by (nat_lt number c.0) refl where
    by : (b : Bool) → nat_lt number c.0 ≡ b → one_state c was is (suc number) ≡ one_state c was is number
    by true is_less =
        let less : number < c.0 = ltb-true number c.0 is_less in
        early_state (suc number) (omega (arith, less)) ∙ sym (early_state number (omega (arith, less)))
    by false not_less =
        let apart = eqb-false c.0 number other in
        let least : c.0 ≤ number = ltb-false number c.0 not_less in
        let more : c.0 < number = omega (arith, apart, least) in
        late_state (suc number) (omega (arith, more)) ∙ sym (late_state number more)

-- Clients have the numbers from 1 on.

counted_over : (from : ℕ) (xs : List Client) → AreCounted from (map (λ (x : Client). x.number) xs) → All (λ (x : Client). from ≤ x.number.0) xs
counted_over from [] are = All-nil (λ (x : Client). from ≤ x.number.0)
counted_over from (x ∷ xs) are =
    let first : x.number.0 ≡ from = are.0 in
    All-cons (λ (y : Client). from ≤ y.number.0) x xs (omega (arith, first))
    (All-weaker (λ (y : Client). suc from ≤ y.number.0) (λ (y : Client). from ≤ y.number.0) (λ y later. omega (arith, later)) xs
    (counted_over (suc from) xs are.1))

pub record IsNumbered (tale : Tale) (c : ClientNo) : Type 0 where
  pub least : 1 ≤ c.0
  pub most : c.0 ≤ length tale.clients

pub numbered_in : (setup : Setup) (plan : Plan) (log : Log) (x : Client) → IsSeated (tale_of setup plan log) x → IsNumbered (tale_of setup plan log) x.number
numbered_in setup plan log x seated =
    let tale : Tale = tale_of setup plan log in
    let counted : AreCounted 1 (numbers tale) = (is_tale_of setup plan log).counted in
    let below : x.number.0 < 1 + length tale.clients =
    seated_of (λ (y : Client). y.number.0 < 1 + length tale.clients) tale x seated (counted_below 1 tale.clients counted) in
    record {
      least = seated_of (λ (y : Client). 1 ≤ y.number.0) tale x seated (counted_over 1 tale.clients counted);
      most = omega (arith, below);
    }

-- behind an entry too
pub numbered_then : (setup : Setup) (plan : Plan) (log : Log) (e : Entry) (x : Client) → IsSeated (tale_of setup plan log) x
    → IsNumbered (tale_of setup plan (with_entry log e)) x.number
numbered_then setup plan log e x seated =
    let old : Tale = tale_of setup plan log in
    let there : IsThere plan old e (tale_step setup plan old e) x =
    seated_of (λ (y : Client). IsThere plan old e (tale_step setup plan old e) y) old x seated (all_there setup plan old e (is_tale_of setup plan log).counted) in
    subst (IsNumbered (tale_of setup plan (with_entry log e))) there.continued.number
    (numbered_in setup plan (with_entry log e) there.now
    (subst (λ (tale : Tale). IsSeated tale there.now) (sym (tale_more setup plan log e)) there.seated))

-- where one client of these goes on
module _ (tale : Tale) (c : ClientNo) (was is : Administered) (numbered : IsNumbered tale c) where
  pub one_begins : one_state c was is 1 ≡ was
  one_begins = early_state c was is 1 numbered.least

  pub one_ends : one_state c was is (suc (length tale.clients)) ≡ is
  one_ends = let most : c.0 ≤ length tale.clients = numbered.most in late_state c was is (suc (length tale.clients)) (omega (arith, most))
