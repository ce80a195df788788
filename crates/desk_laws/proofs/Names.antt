-- Names that differ, and tables with one entry put.
use Rattle.std.specs.Prelude.{◌≡◌, ◌<◌, ◌≤◌, ℕ, Bool, true, false, nat_eq, if◌then◌else◌}
use Rattle.std.proofs.Common.{refl, ap, sym, arith, subst}
use Rattle.private_model.specs.Names.{ClientNo, Hostgroup, MessageName, SessionName}
use Rattle.private_model.specs.Story.{is_client, is_hostgroup, is_message, is_name, put}
use Rattle.desk_laws.specs.Stands.{message_at, name_at}

pub same_number : (n : ℕ) → nat_eq n n ≡ true
same_number n = search arith

number_of : (a b : ℕ) → nat_eq a b ≡ true → a ≡ b
number_of a b e = grind arith

pub hostgroup_of : (a b : Hostgroup) → is_hostgroup a b ≡ true → a ≡ b
hostgroup_of a b e = let same : a.0 ≡ b.0 = number_of _ _ e in λ i. record { 0 = same i }

pub client_of : (a b : ClientNo) → is_client a b ≡ true → a ≡ b
client_of a b e = let same : a.0 ≡ b.0 = number_of _ _ e in λ i. record { 0 = same i }

pub same_client : (c : ClientNo) → is_client c c ≡ true
same_client c = same_number c.0

pub same_hostgroup : (h : Hostgroup) → is_hostgroup h h ≡ true
same_hostgroup h = same_number h.0

pub apart_numbers : (a b : ℕ) → b < a → nat_eq a b ≡ false
apart_numbers a b below = grind arith

pub flipped : (a b : Hostgroup) → is_hostgroup a b ≡ false → is_hostgroup b a ≡ false
flipped a b apart = grind arith

-- Names.

pub same_name : (n : SessionName) → is_name n n ≡ true
same_name n = rw (same_number n.client.0, same_number n.hostgroup.0, same_number n.life) refl

pub of_other_client : (c : ClientNo) (h : Hostgroup) (life : ℕ) (n : SessionName) → is_client c n.client ≡ false → is_name (name_at c h life) n ≡ false
of_other_client c h life n other = rw other refl

pub in_other_hostgroup : (c : ClientNo) (h g : Hostgroup) (life other : ℕ) → is_hostgroup h g ≡ false → is_name (name_at c h life) (name_at c g other) ≡ false
in_other_hostgroup c h g life other apart = rw (same_client c, apart) refl

pub of_other_life : (c : ClientNo) (h : Hostgroup) (life other : ℕ) → other < life → is_name (name_at c h life) (name_at c h other) ≡ false
of_other_life c h life other below = rw (same_client c, same_hostgroup h, apart_numbers life other below) refl

-- a session of the client that was left is none from the present one on
pub of_past : (lives : Hostgroup → ℕ) (c : ClientNo) (h : Hostgroup) (life : ℕ) (n : SessionName) → lives h ≤ life → n.life < lives n.hostgroup
    → is_name (name_at c h life) n ≡ false
of_past lives c h life n from past = by (is_client c n.client) (is_hostgroup h n.hostgroup) refl refl where
  by : (client hostgroup : Bool) → is_client c n.client ≡ client → is_hostgroup h n.hostgroup ≡ hostgroup → is_name (name_at c h life) n ≡ false
  by false hostgroup e f = rw e refl
  by true false e f = rw (e, f) refl
  by true true e f =
      let at : n.life < lives h = subst (λ (g : Hostgroup). n.life < lives g) (sym (hostgroup_of h n.hostgroup f)) past in
      let below : n.life < life = omega arith in
      rw (e, f, apart_numbers life n.life below) refl

-- Messages.

pub of_other_message : (c : ClientNo) (ordinal : ℕ) (m : MessageName) → is_client c m.client ≡ false → is_message (message_at c ordinal) m ≡ false
of_other_message c ordinal m other = rw other refl

pub of_other_ordinal : (c : ClientNo) (ordinal : ℕ) (m : MessageName) → nat_eq ordinal m.ordinal ≡ false → is_message (message_at c ordinal) m ≡ false
of_other_ordinal c ordinal m other = by (is_client c m.client) refl where
  by : (client : Bool) → is_client c m.client ≡ client → is_message (message_at c ordinal) m ≡ false
  by false e = rw e refl
  by true e = rw (e, other) refl

pub same_message : (m : MessageName) → is_message m m ≡ true
same_message m = rw (same_number m.client.0, same_number m.ordinal) refl

-- Tables.

pub put_here : {K A : Type 0} (is : K → K → Bool) (f : K → A) (k : K) (x : A) (j : K) → is j k ≡ true → put is f k x j ≡ x
put_here is f k x j e = ap (λ b. if b then x else f j) e

pub put_apart : {K A : Type 0} (is : K → K → Bool) (f : K → A) (k : K) (x : A) (j : K) → is j k ≡ false → put is f k x j ≡ f j
put_apart is f k x j e = ap (λ b. if b then x else f j) e
