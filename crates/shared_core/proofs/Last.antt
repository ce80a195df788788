-- One that is told its last stays who it is.
use Rattle.std.specs.Prelude.{◌≡◌, ℕ, Bool, true, false, ◌&&◌, is_some, if◌then◌else◌, length, nat_eq, List, [], ◌∷◌, Option, Some, None, IfSome, IsSome}
use Rattle.std.specs.Option.{option_map}
use Rattle.std.specs.Str.{bytes_eq}
use Rattle.std.proofs.Common.{◌∙◌, ap, arith, refl, subst, sym}
use Rattle.std.proofs.lemmas.Bool.{eqb-true}
use Rattle.std.proofs.lemmas.Slice.Eq.{bytes_eq-Decides}
use Rattle.mx_base.specs.declared.names.ClientNo.{ClientNo}
use Rattle.private_model.proofs.Maps.{client_of, same_number}
use Rattle.client_side.specs.Client.{ClientState}
use Rattle.router_laws.specs.clients.Leaves.{is_at_rest}
use Rattle.router_laws.specs.decisions.Partings.{IsFull}
use Rattle.core_service.specs.Failures.{payload_of}
use Rattle.core_service.specs.declared.failure.Failure.{Failure}
use Rattle.client_seat.specs.Seats.{account_in}
use Rattle.client_seat.specs.Words.{with_word}
use Rattle.core_tables.specs.Arrivals.{seated}
use Rattle.core_tables.specs.Tables.{Tabled}
use Rattle.core_tables.specs.Wording.{IsTold}
use Rattle.core_tables.specs.declared.client.Client.{Client}
use Rattle.core_laws.specs.clients.Follows.{IsStillIt, LeavesThere, Tells}
use Rattle.core_laws.specs.clients.Turns.{Rests}
use Rattle.shared_core.specs.Follows.{HasParted, IsRested}
use Rattle.shared_core.specs.Telling.{HasLeftTold, HasTold, IsItStill, RestsAs, RestsThere, is_who}
use Rattle.shared_core.specs.declared.telling.Who.{Who}

left-of : (a b : Bool) → (a && b) ≡ true → a ≡ true
left-of true b is = refl
left-of false b is = absurd (let e = is in cc)

right-of : (a b : Bool) → (a && b) ≡ true → b ≡ true
right-of true b is = is
right-of false b is = absurd (let e = is in cc)

none-left : (xs : List ℕ) → nat_eq (length xs) 0 ≡ true → xs ≡ []
none-left [] is = refl
none-left (x ∷ xs) is = let e : length (x ∷ xs) ≡ 0 = eqb-true (length (x ∷ xs)) 0 is in absurd (omega (arith, e))

still-it : (who : Who) (old new : ClientState) → old.number ≡ who.number → old.salt ≡ who.salt → is_who who new ≡ true → IsStillIt old new
still-it who old new number salt is =
    let rest : Bool = bytes_eq new.salt who.salt && nat_eq (length new.outgoing) 0 in
    let others : rest ≡ true = right-of (nat_eq new.number.0 who.number.0) rest is in
    record {
      number = client_of new.number who.number (left-of (nat_eq new.number.0 who.number.0) rest is) ∙ sym number;
      salt = (bytes_eq-Decides new.salt who.salt).0 (left-of (bytes_eq new.salt who.salt) (nat_eq (length new.outgoing) 0) others) ∙ sym salt;
      drained = none-left new.outgoing (right-of (bytes_eq new.salt who.salt) (nat_eq (length new.outgoing) 0) others);
    }

pub nobody-there : (row : Option Client) → None ≡ row → IsSome row → ⊥
nobody-there row none there = let no : false ≡ true = ap is_some none ∙ there in cc

-- whose row it is then
told-row : (c : ClientNo) (payload : List ℕ) (old between : Tabled) (row now : Client) → old.clients c ≡ Some row → (told : IsTold c payload old between)
    → between.clients c ≡ Some now → now.desk.seat.client ≡ told.client
told-row c payload old between row now at told there =
    let by : Client → Client = seated (with_word payload told.client) in
    let all : Some now ≡ (if nat_eq c.0 c.0 then option_map by (old.clients c) else old.clients c) = sym there ∙ told.same.clients c in
    let one : Some now ≡ option_map by (old.clients c) =
    all ∙ ap (λ (b : Bool). if b then option_map by (old.clients c) else old.clients c) (same_number c.0) in
    let same : Some now ≡ Some (by row) = one ∙ ap (option_map by) at in
    let its : now ≡ by row = cc in
    ap (λ (r : Client). r.desk.seat.client) its

pub left-told : (who : Who) (c : ClientNo) (why : Failure) (old between new : Tabled) → (IsSome (old.clients c) → HasTold c why old between)
    → IsItStill who c between → LeavesThere c between new → RestsThere who c old → IsRested c old → HasLeftTold c why old new
left-told who c why old between new tells still leaves rests rested =
    let there : IsSome (old.clients c) = ap is_some rests.there in
    let told : HasTold c why old between = tells there in
    record {
      payload = told.payload;
      is = told.is;
      own = told.own;
      leaves = record {
        row = rests.row;
        there = rests.there;
        serves = rests.rests.serves;
        answered = rests.rests.answered;
        unfaulty = rested rests.row rests.there rests.rests.serves rests.rests.answered;
        between = between;
        told = told.told;
        still_it = let P : ClientState → Type 0 = λ s. IsStillIt rests.row.desk.seat.client s in
            subst P (told-row c told.payload old between rests.row still.row rests.there told.told still.there)
            (still-it who rests.row.desk.seat.client still.row.desk.seat.client rests.rests.number rests.rests.salt still.is);
        leaves = leaves;
      };
    }

pub told-parts : (budget : ℕ) (c : ClientNo) (why : Failure) (old new : Tabled) → IsFull budget (payload_of why) → HasLeftTold c why old new
    → HasParted budget c false Rests old new
told-parts budget c why old new full told = record {
  parting = Tells told.payload;
  word = told.own;
  once = λ is. absurd (let e = is in cc);
  parts = told.leaves;
  ended = λ is. refl;
  why = subst (IsFull budget) (sym told.is) full;
}

-- who waits for nothing

pub rests-as : (who : Who) (row : Client) → is_at_rest row ≡ true → who.number ≡ row.desk.seat.client.number → who.salt ≡ row.desk.seat.client.salt
    → RestsAs who row
rests-as who row is number salt = record {
  serves = left-of (is_some (account_in row.desk.seat.phase)) row.desk.seat.answered is;
  answered = right-of (is_some (account_in row.desk.seat.phase)) row.desk.seat.answered is;
  number = sym number;
  salt = sym salt;
}

pub some-weaker : {A : Type 0} (r : Option A) (P Q : A → Type 0) → ((x : A) → P x → Q x) → IfSome r P → IfSome r Q
some-weaker None P Q so is = tt
some-weaker (Some x) P Q so is = so x is
