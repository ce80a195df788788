-- Keys in their order.
use Rattle.std.proofs.Common.{◌≡◌, ℕ, true, false, List, [], ◌∷◌, Ordering, nat_eq, sym, refl, ap, ◌∙◌, subst, inl, inr}
use Rattle.std.specs.declared.cmp.Ordering.TheVariants.{Less, Equal, Greater}
use Rattle.std.specs.Ordering.{nat_cmp, ordering_reverse, ordering_then, is_eq}
use Rattle.std.specs.Cmp.{IsEquivalence, IsTotalOrder, and_equiv, on_equiv, nat_eq_equiv, on_total, then_total, both_tied, tied_itself, nat_cmp_total}
use Rattle.std.specs.Cmp.Lexicographic.{slice_cmp, nat_list_cmp_total, on_texts_equal}
use Rattle.std.specs.Map.{lookup}
use Rattle.std.proofs.lemmas.Map.Lookups.{exact_bytes, exact_unsigned}
use Rattle.std.proofs.lemmas.Bool.{cases_Bool, eq-eqb, ne_eqb}
use Rattle.std.proofs.lemmas.Map.Text.{is_eq-slice_cmp}
use Rattle.pin_classifier.specs.Kinds.{printed}
use Rattle.pin_classifier.specs.declared.class.ClassName.{ClassName}
use Rattle.pin_classifier.specs.declared.class.ClassName.TheVariants.{Refused, Deep, Locks, NextTx, Diag, Plain}
use Rattle.audit_report.specs.Keys.{key_cmp, named, place_of, same_key}
use Rattle.audit_report.specs.Report.{row_cmp}
use Rattle.audit_report.specs.declared.key.Key.{Key}
use Rattle.audit_report.specs.declared.row.ReportRow.{ReportRow}

pub key-total : IsTotalOrder key_cmp
key-total = then_total (on_total (λ (k : Key). k.digest) nat_list_cmp_total) (on_total (λ (k : Key). k.name) nat_cmp_total)

both-equal : (a b : Ordering) → ordering_then a b ≡ Equal → (a ≡ Equal) × (b ≡ Equal)
both-equal Less b h = absurd (cc)
both-equal Equal b h = (refl, h)
both-equal Greater b h = absurd (cc)

pub equal : (r : Ordering) → is_eq r ≡ true → r ≡ Equal
equal Less h = absurd (cc)
equal Equal h = refl
equal Greater h = absurd (cc)

pub key-exact : (x y : Key) → key_cmp x y ≡ Equal → x ≡ y
key-exact x y h =
    let both = both-equal (slice_cmp nat_cmp x.digest y.digest) (nat_cmp x.name y.name) h in
    let digests : x.digest ≡ y.digest = exact_bytes x.digest y.digest both.0 in
    let names : x.name ≡ y.name = exact_unsigned x.name y.name both.1 in
    λ i. record { digest = digests i; name = names i }

turned : (r : Ordering) → is_eq (ordering_reverse r) ≡ is_eq r
turned Less = refl
turned Equal = refl
turned Greater = refl

name-ties : (a b : ℕ) → nat_eq a b ≡ is_eq (nat_cmp a b)
name-ties a b = elim (cases_Bool (is_eq (nat_cmp a b))) [
  | inl same ↦ (let is : a ≡ b = exact_unsigned a b (equal (nat_cmp a b) same) in eq-eqb a b is ∙ sym same)
  | inr other ↦ ne_eqb a b (λ is. let tied : nat_cmp a b ≡ Equal = subst (λ n. nat_cmp a n ≡ Equal) is (tied_itself nat_cmp_total a) in let no : true ≡ false = sym (ap is_eq tied) ∙ other in absurd (cc)) ∙ sym other
]

-- equality is what the order doesn't tell apart
pub key-ties : (a b : Key) → same_key a b ≡ is_eq (key_cmp a b)
key-ties a b = both_tied _ _ (slice_cmp nat_cmp a.digest b.digest) (nat_cmp a.name b.name) (sym (is_eq-slice_cmp a.digest b.digest)) (name-ties a.name b.name)

pub key-back : (a b : Key) → same_key a b ≡ is_eq (key_cmp b a)
key-back a b = key-ties a b ∙ ap is_eq (key-total.antisymm a b) ∙ turned (key_cmp b a)

pub key-flip : (a b : Key) → same_key a b ≡ same_key b a
key-flip a b = key-back a b ∙ sym (key-ties b a)

pub same-keys : (a b : Key) → same_key a b ≡ true → a ≡ b
same-keys a b same = key-exact a b (equal (key_cmp a b) (sym (key-ties a b) ∙ same))

pub key-equivalence : IsEquivalence same_key
key-equivalence = and_equiv (on_texts_equal (λ (k : Key). k.digest)) (on_equiv (λ (k : Key). k.name) nat_eq_equiv)

pub key-itself : (a : Key) → same_key a a ≡ true
key-itself a = key-ties a a ∙ ap is_eq (tied_itself key-total a)

-- look-ups by either are one
pub look-alike : {X : Type 0} (q : Key) (es : List (Key × X)) → lookup (same_key q) es ≡ lookup (λ k. is_eq (key_cmp q k)) es
look-alike q [] = refl
look-alike {X} q (e ∷ es) = rw (key-ties q e.0, look-alike {X = X} q es) refl

-- names stand in the order of their bytes
pub names-cmp : (a b : ClassName) → slice_cmp nat_cmp (printed a) (printed b) ≡ nat_cmp (place_of a) (place_of b)
names-cmp Deep Deep = refl
names-cmp Diag Deep = refl
names-cmp Locks Deep = refl
names-cmp NextTx Deep = refl
names-cmp Plain Deep = refl
names-cmp Refused Deep = refl
names-cmp _ _ = refl

pub named-place : (name : ClassName) → named (place_of name) ≡ name
named-place Deep = refl
named-place Diag = refl
named-place Locks = refl
named-place NextTx = refl
named-place Plain = refl
named-place Refused = refl

abbrev pub row_key : ReportRow → Key
row_key row = record { digest = row.digest; name = place_of row.class }

pub rows-cmp : (a b : ReportRow) → row_cmp a b ≡ key_cmp (row_key a) (row_key b)
rows-cmp a b = ap (ordering_then (slice_cmp nat_cmp a.digest b.digest)) (names-cmp a.class b.class)
