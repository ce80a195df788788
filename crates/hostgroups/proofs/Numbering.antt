-- One server more, and the numbers then.
use Rattle.std.proofs.Common.{◌≡◌, ℕ, suc, ◌+◌, true, false, cond, List, [], ◌∷◌, ◌++◌, length, Option, Some, None, is_some, refl, eq-eqb, sym, ap, ◌∙◌, inl, inr, arith}
use Rattle.std.specs.Option.{option_or}
use Rattle.std.proofs.lemmas.Bool.{cases_Bool, and_parts, eqb-true}
use Rattle.std.proofs.lemmas.Slice.Eq.{bytes_eq-Decides}
use Rattle.mx_base.specs.declared.names.ServerId.{ServerId}
use Rattle.hostgroups.specs.declared.row.ServerName.{ServerName}
use Rattle.hostgroups.specs.Rows.{same_server, number_from, number_of}

made : ℕ → List ℕ → ℕ → ServerName
made group ip port = record { hostgroup = record { 0 = group }; address = record { ip = ip; port = port } }

-- names that are the same are one
pub same_server-true : (a b : ServerName) → same_server a b ≡ true → a ≡ b
unfolding made
same_server-true a b h =
    let both = and_parts _ _ h in
    let place = and_parts _ _ both.1 in
    let group : a.hostgroup.0 ≡ b.hostgroup.0 = eqb-true _ _ both.0 in
    let ip : a.address.ip ≡ b.address.ip = (bytes_eq-Decides _ _).0 place.0 in
    let port : a.address.port ≡ b.address.port = eqb-true _ _ place.1 in
    let moved : made a.hostgroup.0 a.address.ip a.address.port ≡ made b.hostgroup.0 b.address.ip b.address.port = cc in
    moved

pub same_server-self : (a : ServerName) → same_server a a ≡ true
same_server-self a = rw (
  eq-eqb a.hostgroup.0 a.hostgroup.0 refl,
  (bytes_eq-Decides a.address.ip a.address.ip).1 refl,
  eq-eqb
      a.address.port a.address.port refl,
)

apart_back : (a b : ServerName) → same_server a b ≡ false → same_server b a ≡ false
apart_back a b apart =
    elim (cases_Bool (same_server b a)) [
      | inl same ↦
          let one : b ≡ a = same_server-true b a same in
          let itself : same_server a b ≡ true = rw one (same_server-self a) in
          absurd cc
      | inr other ↦ other
    ]

option_or-None : {X : Type 0} (o : Option X) → option_or o None ≡ o
option_or-None None = refl
option_or-None (Some x) = refl

number_from-last : (n : ℕ) (names : List ServerName) (last q : ServerName)
    → number_from n (names ++ last ∷ []) q ≡ option_or (number_from n names q)
    (cond (same_server q last) (Some (record { 0 = n + length names })) None)
number_from-last n [] last q = ap (λ (k : ℕ). cond (same_server q last) (Some (record { 0 = k })) None) (omega arith)
number_from-last n (first ∷ names) last q =
    elim (cases_Bool (same_server q first)) [
      | inl same ↦ rw same refl
      | inr other ↦ rw other (number_from-last (suc n) names last q ∙ ap
          (λ (k : ℕ). option_or (number_from (suc n) names q) (cond (same_server q last) (Some (record { 0 = k })) None)) (omega arith))
    ]

-- the last one has the number behind the others, and these keep theirs
pub number_of-last : (names : List ServerName) (name q : ServerName) (before after : Option ServerId) → number_of names name ≡ None
    → before ≡ number_of names q
    → after ≡ cond (same_server name q) (Some (record { 0 = length names + 1 })) before → after ≡ number_of (names ++ name ∷ []) q
number_of-last names name q before after new had has =
    elim (cases_Bool (same_server name q)) [
      | inl same ↦
          let one : name ≡ q = same_server-true name q same in
          let absent : number_of names q ≡ None = rw (← one) new in
          let itself : same_server q name ≡ true = rw one (same_server-self q) in
          let now : after ≡ Some (record { 0 = length names + 1 }) = has ∙ rw same refl in
          now ∙ sym (number_from-last 1 names name q ∙ rw (absent, itself) (ap (λ (k : ℕ). Some (record { 0 = k })) (omega arith)))
      | inr apart ↦
          let still : after ≡ number_of names q = has ∙ rw apart had in
          still ∙ sym (number_from-last 1 names name q ∙ rw (apart_back name q apart) (option_or-None (number_of names q)))
    ]

-- a name that has a number keeps it, and so do the others
pub number_of-known : (names : List ServerName) (name q : ServerName) → is_some (number_of names name) ≡ true
    → number_of names q ≡ number_of (names ++ name ∷ []) q
number_of-known names name q known =
    elim (cases_Bool (same_server q name)) [
      | inl same ↦
          let one : q ≡ name = same_server-true q name same in
          let some : is_some (number_of names q) ≡ true = rw one known in
          sym (number_from-last 1 names name q ∙ or_known (number_of names q) (cond (same_server q name) (Some (record { 0 = 1 + length names })) None) some)
      | inr apart ↦ sym (number_from-last 1 names name q ∙ rw apart (option_or-None (number_of names q)))
    ]
  where
    or_known : {X : Type 0} (o other : Option X) → is_some o ≡ true → option_or o other ≡ o
    or_known None other some = absurd cc
    or_known (Some x) other some = refl

number_from-more : (n : ℕ) (names more : List ServerName) (q : ServerName) (number : ServerId) → number_from n names q ≡ Some number
    → number_from n (names ++ more) q ≡ Some number
number_from-more n [] more q number some = absurd cc
number_from-more n (first ∷ names) more q number some =
    elim (cases_Bool (same_server q first)) [
      | inl same ↦ rw same (rw same at some)
      | inr other ↦ rw other (number_from-more (suc n) names more q number (rw other at some))
    ]

-- a name that has a number keeps it as others get theirs
pub number_of-more : (names more : List ServerName) (q : ServerName) (number : ServerId) → number_of names q ≡ Some number
    → number_of (names ++ more) q ≡ Some number
number_of-more names more q number some = number_from-more 1 names more q number some
