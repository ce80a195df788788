-- One row of a table changes.
use Rattle.std.specs.Prelude.{◌≡◌, ◌⊎◌, Bool, true, false, nat_eq, if◌then◌else◌, Option, Some, None}
use Rattle.std.specs.Option.{option_map}
use Rattle.std.proofs.Common.{refl, sym, ap, ◌∙◌, inl, inr}
use Rattle.std.proofs.lemmas.Option.{none-some}
use Rattle.private_model.proofs.Maps.{client_of, link_of}
use Rattle.private_model.specs.Names.{ClientNo, LinkId}
use Rattle.core_tables.specs.Tables.{Tabled, client_changed, link_changed}
use Rattle.core_tables.specs.declared.client.Client.{Client}
use Rattle.core_tables.specs.declared.server.Server.{Server}

some_is : {A : Type 0} (a b : A) → Some a ≡ Some b → a ≡ b
some_is a b same = cc

-- the row that was there, and whether it is another now
pub record IsBefore {K A : Type 0} (table : K → Option A) (by : A → A) (c k : K) (now : A) : Type 0 where
  pub was : A
  pub there : table k ≡ Some was
  pub which : ((c ≡ k) × (now ≡ by was)) ⊎ (now ≡ was)

pub record IsNow {K A : Type 0} (changed : K → Option A) (by : A → A) (c k : K) (was : A) : Type 0 where
  pub now : A
  pub there : changed k ≡ Some now
  pub which : ((c ≡ k) × (now ≡ by was)) ⊎ (now ≡ was)

mapped : {A : Type 0} (by : A → A) (found : Option A) (now : A) → option_map by found ≡ Some now → (was : A) × (found ≡ Some was) × (now ≡ by was)
mapped by None now is = absurd (none-some now is)
mapped by (Some was) now is = (was, refl, sym (some_is (by was) now is))

pub client_before : (c : ClientNo) (by : Client → Client) (t : Tabled) (k : ClientNo) (now : Client) → (client_changed c by t).clients k ≡ Some now
    → IsBefore t.clients by c k now
client_before c by t k now is = at (nat_eq c.0 k.0) refl where
  at : (same : Bool) → nat_eq c.0 k.0 ≡ same → IsBefore t.clients by c k now
  at true e =
      let found = mapped by (t.clients c) now (sym (ap (λ (b : Bool). if b then option_map by (t.clients c) else t.clients k) e) ∙ is) in
      record { was = found.0; there = ap t.clients (sym (client_of c k e)) ∙ found.1; which = inl (client_of c k e, found.2) }
  at false e =
      record { was = now; there = sym (ap (λ (b : Bool). if b then option_map by (t.clients c) else t.clients k) e) ∙ is; which = inr refl }

pub client_now : (c : ClientNo) (by : Client → Client) (t : Tabled) (k : ClientNo) (was : Client) → t.clients k ≡ Some was
    → IsNow (client_changed c by t).clients by c k was
client_now c by t k was is = at (nat_eq c.0 k.0) refl where
  at : (same : Bool) → nat_eq c.0 k.0 ≡ same → IsNow (client_changed c by t).clients by c k was
  at true e = record {
    now = by was;
    there = ap (λ (b : Bool). if b then option_map by (t.clients c) else t.clients k) e ∙ ap (option_map by) (ap t.clients (client_of c k e) ∙ is);
    which = inl (client_of c k e, refl);
  }
  at false e = record { now = was; there = ap (λ (b : Bool). if b then option_map by (t.clients c) else t.clients k) e ∙ is; which = inr refl }

pub link_before : (c : LinkId) (by : Server → Server) (t : Tabled) (k : LinkId) (now : Server) → (link_changed c by t).links k ≡ Some now
    → IsBefore t.links by c k now
link_before c by t k now is = at (nat_eq c.0 k.0) refl where
  at : (same : Bool) → nat_eq c.0 k.0 ≡ same → IsBefore t.links by c k now
  at true e =
      let found = mapped by (t.links c) now (sym (ap (λ (b : Bool). if b then option_map by (t.links c) else t.links k) e) ∙ is) in
      record { was = found.0; there = ap t.links (sym (link_of c k e)) ∙ found.1; which = inl (link_of c k e, found.2) }
  at false e = record { was = now; there = sym (ap (λ (b : Bool). if b then option_map by (t.links c) else t.links k) e) ∙ is; which = inr refl }

pub link_now : (c : LinkId) (by : Server → Server) (t : Tabled) (k : LinkId) (was : Server) → t.links k ≡ Some was
    → IsNow (link_changed c by t).links by c k was
link_now c by t k was is = at (nat_eq c.0 k.0) refl where
  at : (same : Bool) → nat_eq c.0 k.0 ≡ same → IsNow (link_changed c by t).links by c k was
  at true e = record {
    now = by was;
    there = ap (λ (b : Bool). if b then option_map by (t.links c) else t.links k) e ∙ ap (option_map by) (ap t.links (link_of c k e) ∙ is);
    which = inl (link_of c k e, refl);
  }
  at false e = record { now = was; there = ap (λ (b : Bool). if b then option_map by (t.links c) else t.links k) e ∙ is; which = inr refl }

-- the same where the key is another
pub client_elsewhere : (c : ClientNo) (by : Client → Client) (t : Tabled) (k : ClientNo) → nat_eq c.0 k.0 ≡ false → (client_changed c by t).clients k ≡ t.clients k
client_elsewhere c by t k e = ap (λ (b : Bool). if b then option_map by (t.clients c) else t.clients k) e

pub link_elsewhere : (c : LinkId) (by : Server → Server) (t : Tabled) (k : LinkId) → nat_eq c.0 k.0 ≡ false → (link_changed c by t).links k ≡ t.links k
link_elsewhere c by t k e = ap (λ (b : Bool). if b then option_map by (t.links c) else t.links k) e
