-- In which hostgroup a client is asked for its open transaction, by its desk.
use Rattle.std.specs.Prelude.{◌≡◌, Bool, true, false, find, if◌then◌else◌, IfSome, List, [], ◌∷◌, Option, Some, None}
use Rattle.std.proofs.Common.{refl, sym, ap, subst, ◌∙◌}
use Rattle.std.proofs.lemmas.Option.{none-some}
use Rattle.mx_base.specs.declared.names.Hostgroup.{Hostgroup}
use Rattle.client_desk.specs.Desks.{session_of}
use Rattle.client_desk.specs.Sessions.{is_open}
use Rattle.client_desk.specs.declared.desk.Desk.{Desk}
use Rattle.core_promises.specs.Judges.{IsTransaction, Rulebook, Situation, transaction_of}

found-so : {A : Type 0} (p : A → Bool) (xs : List A) (x : A) → find p xs ≡ Some x → p x ≡ true
found-so p [] x is = absurd (none-some x is)
found-so {A} p (y ∷ xs) x is = by (p y) refl is (found-so p xs x) where
  by : (b : Bool) → p y ≡ b → (if b then Some y else find p xs) ≡ Some x → (find p xs ≡ Some x → p x ≡ true) → p x ≡ true
  by true its there later = let same : y ≡ x = cc in subst (λ (z : A). p z ≡ true) same its
  by false other there later = later there

if-some : {A : Type 0} (P : A → Type 0) (found : Option A) (x : A) → IfSome found P → found ≡ Some x → P x
if-some P None x holds is = absurd (none-some x is)
if-some {A} P (Some y) x holds is = let same : y ≡ x = cc in subst P same holds

module _ (desk : Desk) (hostgroups : List Hostgroup) (book : Rulebook) (situation : Situation) (listed : book.hostgroups ≡ hostgroups)
    (pins : situation.pins ≡ (λ h. (session_of desk h).pin)) where
  same : transaction_of book situation ≡ find (λ h. is_open (session_of desk h)) hostgroups
  same = λ i. find (λ (h : Hostgroup). (pins i h).tx) (listed i)

  at : (h : Hostgroup) → (situation.pins h).tx ≡ is_open (session_of desk h)
  at h = λ i. (pins i h).tx

  pub when-first : (h : Hostgroup) → Some h ≡ find (λ g. is_open (session_of desk g)) hostgroups → IsTransaction book situation (Some h)
  when-first h is = record {
    first = λ g found. is ∙ sym same ∙ found;
    in_transaction = λ g found.
        at g
        ∙ found-so (λ (k : Hostgroup). is_open (session_of desk k)) hostgroups g (sym is ∙ found);
    none = λ none. absurd (none-some h (sym none));
  }

  pub when-other : None ≡ find (λ g. is_open (session_of desk g)) hostgroups → (other : Option Hostgroup)
      → IfSome other (λ h. is_open (session_of desk h) ≡ true) → (other ≡ None → (h : Hostgroup) → is_open (session_of desk h) ≡ false)
      → IsTransaction book situation other
  when-other is other held none = record {
    first = λ g found. absurd (none-some g (is ∙ sym same ∙ found));
    in_transaction = λ g found. at g ∙ if-some (λ (h : Hostgroup). is_open (session_of desk h) ≡ true) other g held found;
    none = λ nowhere h. at h ∙ none nowhere h;
  }
