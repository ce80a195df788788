-- Why clients are ended behind their turns.
use Rattle.std.specs.Prelude.{◌≡◌, ◌<◌, ◌+◌, ◌-◌, ◌^◌, ◌⊎◌, ℕ, Bool, true, false, All, is_some, min, nat_eq, if◌then◌else◌, List, [], ◌∷◌, Option, Some, None}
use Rattle.std.specs.BTreeMap.{is_at}
use Rattle.std.specs.BTreeSet.{BTreeSet, IsEmpty}
use Rattle.std.specs.List.{list_any}
use Rattle.std.specs.Option.{option_map}
use Rattle.std.specs.Ordering.{nat_cmp}
use Rattle.std.proofs.Common.{◌∙◌, ap, arith, inl, inr, refl, subst, sym}
use Rattle.std.proofs.lemmas.Bool.{true≢false}
use Rattle.std.proofs.lemmas.List.Elements.{All-weaker}
use Rattle.mx_base.specs.declared.names.ClientNo.{ClientNo}
use Rattle.mx_base.specs.declared.names.LinkId.{LinkId}
use Rattle.private_model.proofs.Maps.{client_of}
use Rattle.session_state.specs.declared.names.SessionName.{SessionName}
use Rattle.client_seat.specs.declared.phase.Phase.{Phase}
use Rattle.client_seat.specs.declared.phase.Phase.TheVariants as phase
use Rattle.core_tables.specs.Parting.{given_row, given_up}
use Rattle.core_tables.specs.Tables.{IsSame, Tabled}
use Rattle.core_tables.specs.declared.client.Client.{Client}
use Rattle.core_laws.specs.clients.Follows.{Leaves, Parting, Stays, Tells}
use Rattle.core_laws.specs.clients.Going.{GivenUp, Going, IsCalled, is_going}
use Rattle.marked_tables.specs.Marking.{carried_at}
use Rattle.router_promises.specs.Errors.{buffers_full}
use Rattle.router_laws.specs.decisions.Causes.{carries_of}
use Rattle.router_laws.specs.decisions.Partings.{AreNotOusted, AreOusted, IsFull, IsGoingParted, IsOusted, IsPartedFor, IsUnknown}
use Rattle.router_laws.specs.wakes.Calling.{Caller, GivesUpAll}
use Rattle.shared_core.proofs.Causing.{carries_so}
use Rattle.shared_core.specs.Follows.{AreParted, IsEndedFor, IsFor, IsOut}

-- by one reason as by another

pub part-weaker : (budget : ℕ) (A B : Type 0) → (A → B) → (parting : Parting) → IsPartedFor budget A parting → IsPartedFor budget B parting
part-weaker budget A B so Stays is = tt
part-weaker budget A B so Leaves is = so is
part-weaker budget A B so (Tells payload) is = is

parts-weaker : (budget : ℕ) (A B : ClientNo → Type 0) → ((c : ClientNo) → A c → B c) → (callers : List Caller) → AreParted budget A callers
    → AreParted budget B callers
parts-weaker budget A B so callers all =
    All-weaker (λ (k : Caller). IsPartedFor budget (A k.client) k.parting) (λ (k : Caller). IsPartedFor budget (B k.client) k.parting)
    (λ k is. part-weaker budget (A k.client) (B k.client) (so k.client) k.parting is) callers all

-- Too much is kept where the sum, as far as it is counted, is more than may be.
pub full-so : (budget kept announced sum : ℕ) → sum ≡ min (kept + announced) (2 ^ 64 - 1) → budget < sum → IsFull budget (buffers_full kept announced)
full-so budget kept announced sum is more =
    record { kept = kept; announced = announced; more = omega (arith, is, more); is = refl }

-- What giving up statements leaves of a row is as before.

module _ {A : Type 0} (of : Option Client → A)
    (kept : (payload : List ℕ) (row : Option Client) → of (option_map (given_row (Some payload)) row) ≡ of row) where
  pub one-still : (c : ClientNo) (payload : List ℕ) (old new : Tabled) → IsSame new (given_up c payload old) → (d : ClientNo)
      → of (new.clients d) ≡ of (old.clients d)
  one-still c payload old new same d = ap of (same.clients d) ∙ by (nat_eq c.0 d.0) refl where
    by : (b : Bool) → nat_eq c.0 d.0 ≡ b
        → of (if b then option_map (given_row (Some payload)) (old.clients c) else old.clients d) ≡ of (old.clients d)
    by true is = kept payload (old.clients c) ∙ ap (λ (n : ClientNo). of (old.clients n)) (client_of c d is)
    by false is = refl

  pub all-still : (given : List GivenUp) (old new : Tabled) → GivesUpAll given old new → (d : ClientNo) → of (new.clients d) ≡ of (old.clients d)
  all-still [] old new same d = ap of (same.clients d)
  all-still (up ∷ others) old new gives d =
      all-still others gives.0 new gives.2 d ∙ one-still up.client up.payload old gives.0 gives.1.same d

-- Who isn't logged in wasn't before.

abbrev phase-of : Option Client → Option Phase
phase-of row = option_map (λ (client : Client). client.desk.seat.phase) row

given-phase : (payload : List ℕ) (row : Option Client) → phase-of (option_map (given_row (Some payload)) row) ≡ phase-of row
given-phase payload (Some row) = refl
given-phase payload None = refl

unknown-by : (t : Tabled) (c : ClientNo) → phase-of (t.clients c) ≡ Some phase.LoggingIn → IsUnknown t c
unknown-by t c is = by (t.clients c) refl is where
  by : (found : Option Client) → t.clients c ≡ found → phase-of found ≡ Some phase.LoggingIn → IsUnknown t c
  by None there is = absurd (let e = is in cc)
  by (Some row) there is = record { row = row; there = there; unknown = let e = is in cc }

unknown-then : (s t : Tabled) (c : ClientNo) → phase-of (s.clients c) ≡ phase-of (t.clients c) → IsUnknown s c → IsUnknown t c
unknown-then s t c same is =
    unknown-by t c (sym same ∙ (ap phase-of is.there ∙ ap (λ (p : Phase). Some p) is.unknown))

ousted-then : (a b : Bool) (s t : Tabled) (c : ClientNo) → (a ≡ true → b ≡ true) → phase-of (s.clients c) ≡ phase-of (t.clients c) → IsOusted a s c
    → IsOusted b t c
ousted-then a b s t c more same (inl came) = inl (more came)
ousted-then a b s t c more same (inr unknown) = inr (unknown-then s t c same unknown)

-- as others went on before it
pub out-then : (ending : BTreeSet ℕ) (a b : Bool) (s t : Tabled) (c : ClientNo) → a ≡ b → s.clients c ≡ t.clients c → IsOut ending a s c
    → IsOut ending b t c
out-then ending a b s t c came same out = (out.0, ousted-then a b s t c (λ is. sym came ∙ is) (ap phase-of same) out.1)

-- at a wake, as statements were given up before
pub ousted-so : (budget : ℕ) (ending : BTreeSet ℕ) (still came : Bool) → still ≡ came → (given : List GivenUp) (old mid : Tabled) → GivesUpAll given old mid
    → (callers : List Caller) → AreParted budget (IsOut ending still mid) callers → AreOusted budget came old callers
ousted-so budget ending still came same given old mid gives callers all =
    parts-weaker budget (IsOut ending still mid) (IsOusted came old)
    (λ c out. ousted-then still came mid old c (λ is. sym same ∙ is) (all-still phase-of given-phase given old mid gives c) out.1) callers all

pub ousted-more : (budget : ℕ) (a b : Bool) (t : Tabled) → (a ≡ true → b ≡ true) → (callers : List Caller) → AreOusted budget a t callers
    → AreOusted budget b t callers
ousted-more budget a b t more callers all =
    parts-weaker budget (IsOusted a t) (IsOusted b t) (λ c is. ousted-then a b t t c more refl is) callers all

-- where nobody is named
pub not-ousted : (budget : ℕ) (ending : BTreeSet ℕ) (came : Bool) (t : Tabled) → IsEmpty ending → (callers : List Caller)
    → AreParted budget (IsOut ending came t) callers → AreNotOusted budget callers
not-ousted budget ending came t empty callers all =
    parts-weaker budget (IsOut ending came t) (λ c. ⊥)
    (λ c out. true≢false (sym out.0 ∙ ap (λ (numbers : List ℕ). list_any (is_at (nat_cmp c.0)) numbers) empty)) callers all

-- Who goes on for a link that carries a session is its client.

pub going-by : (b : Bool) (c client : ClientNo) → Some client ≡ (if b then Some c else None) → (b ≡ true) × (client ≡ c)
going-by true c client is = (refl, let e = is in cc)
going-by false c client is = absurd (let e = is in cc)

called-its : (name : Option SessionName) (told : Option GivenUp) (t : Tabled) (going : Going)
    → IsCalled name told t (option_map (λ (g : Going). g.client) (Some going)) → is_some name ≡ true → IsFor name going.client t
called-its None told t going called some = absurd (true≢false (sym some))
called-its (Some name) told t going called some = (going-by (is_going (t.clients name.client)) name.client going.client called.1).1

pub parted-for : (budget : ℕ) (link : LinkId) (name : Option SessionName) (told : Option GivenUp) (t freed : Tabled) (going : Option Going)
    → name ≡ carried_at (t.links link) → IsCalled name told freed (option_map (λ (g : Going). g.client) going) → IsEndedFor budget (is_some name) going
    → IsGoingParted budget link t going
parted-for budget link name told t freed None named called why = tt
parted-for budget link name told t freed (Some going) named called why =
    part-weaker budget (is_some name ≡ true) (carries_of link t going.client ≡ true)
    (λ some. sym (carries_so link name t freed going.client named (called-its name told freed going called some)) ∙ some) going.parting why
