-- Where the inside of a quoted text and of a comment ends.
use Rattle.std.proofs.Common.{◌≡◌, ◌≢◌, ◌≤◌, ◌<◌, ℕ, zero, suc, ◌+◌, true, false, ◌&&◌, not, cond, nat_eq, nat_lt, List, [], ◌∷◌, ◌++◌, length, drop, Option, Some, None, refl, sym, ◌∙◌, ap, inl, inr, arith}
use Rattle.std.proofs.lemmas.Bool.{cond-true, cond-false, cases_Bool, both_ways, eq-eqb, ne_eqb, eqb-true, eqb-false, ltb-false, lt-ltb, and_parts, and_from, and_left, and_right, and_cases, or_parts, or_from}
use Rattle.sql_tokens.specs.Bytes.{has_byte, later}
use Rattle.sql_tokens.specs.Quotes.{escapes, is_pair, to_closing}
use Rattle.sql_tokens.specs.Comments.{closes_block, to_block_end}
use Rattle.sql_tokens.specs.Marks.{IsPlain, IsInside, ClosesAfter, BlockEndsAfter}

-- an end that was found after so many bytes was found behind them
behind_some : (count n : ℕ) (end : Option ℕ) → later count end ≡ Some n → (m : ℕ) × (end ≡ Some m) × (n ≡ count + m)
behind_some count n None h = absurd (cc)
behind_some count n (Some m) h = (m, refl, cc)

-- a byte for itself begins no pair
plain_alone : (quote b c : ℕ) → IsPlain quote b → is_pair quote b c ≡ false
plain_alone quote b c plain = or_from (escapes quote b) (nat_eq b quote && nat_eq c quote) plain.1 (and_left (nat_eq b quote) (nat_eq c quote) (ne_eqb b quote plain.0))

plain_first : (quote b : ℕ) (bytes : List ℕ) → IsPlain quote b → IsInside quote bytes → IsInside quote (b ∷ bytes)
plain_first quote b [] plain inside = plain
plain_first quote b (c ∷ bytes) plain inside = inr (plain, inside)

-- a byte that doesn't stand in front
not_in_front : (quote c : ℕ) (bytes : List ℕ) → nat_eq c quote ≡ false → has_byte (c ∷ bytes) 0 quote ≡ false
not_in_front quote c bytes h = and_right (nat_lt 0 (length (c ∷ bytes))) (nat_eq c quote) h

front_is_not : (quote c : ℕ) (bytes : List ℕ) → has_byte (c ∷ bytes) 0 quote ≡ false → nat_eq c quote ≡ false
front_is_not quote c bytes h =
    elim (and_cases (nat_lt 0 (length (c ∷ bytes))) (nat_eq c quote) h) [
      | inl e ↦ let none : length (c ∷ bytes) ≤ 0 = ltb-false 0 (length (c ∷ bytes)) e in absurd (omega arith)
      | inr e ↦ e
    ]

-- what is found closes
pub closing_closes : (quote : ℕ) (bytes : List ℕ) (n : ℕ) → to_closing quote bytes ≡ Some n → ClosesAfter quote bytes n
closing_closes quote [] n h = absurd (cc)
closing_closes quote (b ∷ []) n h =
    elim (cases_Bool (nat_eq b quote)) [
      | inl e ↦
          let one : Some 1 ≡ Some n = sym (cond-true (nat_eq b quote) (Some 1) None e) ∙ h in
          record { between = []; rest = []; parts = ap (λ (x : ℕ). x ∷ []) (eqb-true b quote e); inside = tt; single = refl; is_size = cc }
      | inr e ↦ let none : None ≡ Some n = sym (cond-false (nat_eq b quote) (Some 1) None e) ∙ h in absurd (cc)
    ]
closing_closes quote (b ∷ c ∷ bytes) n h =
    let on = later 1 (to_closing quote (c ∷ bytes)) in
    let alone = cond (nat_eq b quote) (Some 1) on in
    elim (cases_Bool (is_pair quote b c)) [
      | inl pair ↦
          let m = behind_some 2 n (to_closing quote bytes) (sym (cond-true (is_pair quote b c) (later 2 (to_closing quote bytes)) alone pair) ∙ h) in
          let r = closing_closes quote bytes m.0 m.1 in
          record { between = b ∷ c ∷ r.between; rest = r.rest; parts = ap (λ (xs : List ℕ). b ∷ c ∷ xs) r.parts; inside = inl (pair, r.inside); single = r.single; is_size = omega (arith, m.2, r.is_size) }
      | inr no_pair ↦
          let parts = or_parts (escapes quote b) (nat_eq b quote && nat_eq c quote) no_pair in
          let rest : alone ≡ Some n = sym (cond-false (is_pair quote b c) (later 2 (to_closing quote bytes)) alone no_pair) ∙ h in
          elim (cases_Bool (nat_eq b quote)) [
            | inl e ↦
                let one : Some 1 ≡ Some n = sym (cond-true (nat_eq b quote) (Some 1) on e) ∙ rest in
                let other : nat_eq c quote ≡ false = elim (and_cases (nat_eq b quote) (nat_eq c quote) parts.1) [ inl f ↦ absurd (both_ways (nat_eq b quote) f e) | inr f ↦ f ] in
                record { between = []; rest = c ∷ bytes; parts = ap (λ (x : ℕ). x ∷ c ∷ bytes) (eqb-true b quote e); inside = tt; single = not_in_front quote c bytes other; is_size = cc }
            | inr e ↦
                let m = behind_some 1 n (to_closing quote (c ∷ bytes)) (sym (cond-false (nat_eq b quote) (Some 1) on e) ∙ rest) in
                let r = closing_closes quote (c ∷ bytes) m.0 m.1 in
                record { between = b ∷ r.between; rest = r.rest; parts = ap (λ (xs : List ℕ). b ∷ xs) r.parts; inside = plain_first quote b r.between (eqb-false b quote e, parts.0) r.inside; single = r.single; is_size = omega (arith, m.2, r.is_size) }
          ]
    ]

closes_at_once : (quote : ℕ) (rest : List ℕ) → quote ≢ 92 → has_byte rest 0 quote ≡ false → to_closing quote (quote ∷ rest) ≡ Some 1
closes_at_once quote [] no_escape single = cond-true (nat_eq quote quote) (Some 1) None (eq-eqb quote quote refl)
closes_at_once quote (c ∷ rest) no_escape single =
    let alone : is_pair quote quote c ≡ false = or_from (escapes quote quote) (nat_eq quote quote && nat_eq c quote) (and_left (nat_eq quote 92) (not (nat_eq quote 96)) (ne_eqb quote 92 no_escape)) (and_right (nat_eq quote quote) (nat_eq c quote) (front_is_not quote c rest single)) in
    cond-false (is_pair quote quote c) _ _ alone ∙ cond-true (nat_eq quote quote) _ _ (eq-eqb quote quote refl)

past_plain : (quote b c n : ℕ) (bytes : List ℕ) → IsPlain quote b → to_closing quote (c ∷ bytes) ≡ Some n → to_closing quote (b ∷ c ∷ bytes) ≡ Some (suc n)
past_plain quote b c n bytes plain h = cond-false (is_pair quote b c) _ _ (plain_alone quote b c plain) ∙ cond-false (nat_eq b quote) _ _ (ne_eqb b quote plain.0) ∙ ap (later 1) h ∙ ap Some (omega arith)

-- what closes is found
pub closes_closing : (quote : ℕ) (between rest : List ℕ) → quote ≢ 92 → IsInside quote between → has_byte rest 0 quote ≡ false → to_closing quote (between ++ quote ∷ rest) ≡ Some (suc (length between))
closes_closing quote [] rest no_escape inside single = closes_at_once quote rest no_escape single
closes_closing quote (b ∷ []) rest no_escape inside single = past_plain quote b quote 1 rest inside (closes_at_once quote rest no_escape single)
closes_closing quote (b ∷ c ∷ between) rest no_escape inside single =
    elim inside [
      | inl pair ↦ cond-true (is_pair quote b c) _ _ pair.0 ∙ ap (later 2) (closes_closing quote between rest no_escape pair.1 single) ∙ ap Some (omega arith)
      | inr plain ↦ past_plain quote b c (suc (length (c ∷ between))) (between ++ quote ∷ rest) plain.0 (closes_closing quote (c ∷ between) rest no_escape plain.1 single)
    ]

-- one more place at which nothing ends
one_more : (b : ℕ) (bytes : List ℕ) (size : ℕ) → closes_block (b ∷ bytes) ≡ false → ((k : ℕ) → k < size → closes_block (drop k bytes) ≡ false) → (k : ℕ) → k < suc size → closes_block (drop k (b ∷ bytes)) ≡ false
one_more b bytes size here rest zero less = here
one_more b bytes size here rest (suc k) less = rest k (omega arith)

-- what is found ends a comment
pub block_ends : (bytes : List ℕ) (n : ℕ) → to_block_end bytes ≡ Some n → BlockEndsAfter bytes n
block_ends [] n h = absurd (cc)
block_ends (b ∷ []) n h =
    elim (cases_Bool (closes_block (b ∷ []))) [
      | inl e ↦ let slash : false ≡ true = (and_parts (has_byte (b ∷ []) 0 42) (has_byte (b ∷ []) 1 47) e).1 in absurd (cc)
      | inr e ↦ let none : None ≡ Some n = sym (cond-false (closes_block (b ∷ [])) (Some 2) None e) ∙ h in absurd (cc)
    ]
block_ends (b ∷ c ∷ bytes) n h =
    let on = later 1 (to_block_end (c ∷ bytes)) in
    elim (cases_Bool (closes_block (b ∷ c ∷ bytes))) [
      | inl e ↦
          let two : Some 2 ≡ Some n = sym (cond-true (closes_block (b ∷ c ∷ bytes)) (Some 2) on e) ∙ h in
          let both = and_parts (has_byte (b ∷ c ∷ bytes) 0 42) (has_byte (b ∷ c ∷ bytes) 1 47) e in
          let star : b ≡ 42 = eqb-true b 42 (and_parts (nat_lt 0 (length (b ∷ c ∷ bytes))) (nat_eq b 42) both.0).1 in
          let slash : c ≡ 47 = eqb-true c 47 (and_parts (nat_lt 1 (length (b ∷ c ∷ bytes))) (nat_eq c 47) both.1).1 in
          record { between = []; rest = bytes; parts = ap (λ (x : ℕ). x ∷ c ∷ bytes) star ∙ ap (λ (x : ℕ). 42 ∷ x ∷ bytes) slash; first = λ k less. absurd (omega arith); is_size = cc }
      | inr e ↦
          let m = behind_some 1 n (to_block_end (c ∷ bytes)) (sym (cond-false (closes_block (b ∷ c ∷ bytes)) (Some 2) on e) ∙ h) in
          let r = block_ends (c ∷ bytes) m.0 m.1 in
          record { between = b ∷ r.between; rest = r.rest; parts = ap (λ (xs : List ℕ). b ∷ xs) r.parts; first = one_more b (c ∷ bytes) (length r.between) e r.first; is_size = omega (arith, m.2, r.is_size) }
    ]

-- what ends a comment is found
pub ends_block : (between rest : List ℕ) → ((k : ℕ) → k < length between → closes_block (drop k (between ++ 42 ∷ 47 ∷ rest)) ≡ false) → to_block_end (between ++ 42 ∷ 47 ∷ rest) ≡ Some (suc (suc (length between)))
ends_block [] rest first =
    let star : has_byte (42 ∷ 47 ∷ rest) 0 42 ≡ true = and_from (nat_lt 0 (length (42 ∷ 47 ∷ rest))) true (lt-ltb 0 (length (42 ∷ 47 ∷ rest)) (omega arith)) refl in
    let slash : has_byte (42 ∷ 47 ∷ rest) 1 47 ≡ true = and_from (nat_lt 1 (length (42 ∷ 47 ∷ rest))) true (lt-ltb 1 (length (42 ∷ 47 ∷ rest)) (omega arith)) refl in
    cond-true (closes_block (42 ∷ 47 ∷ rest)) _ _ (and_from (has_byte (42 ∷ 47 ∷ rest) 0 42) (has_byte (42 ∷ 47 ∷ rest) 1 47) star slash)
ends_block (b ∷ between) rest first =
    cond-false (closes_block (b ∷ (between ++ 42 ∷ 47 ∷ rest))) _ _ (first 0 (omega arith))
    ∙ ap (later 1) (ends_block between rest (λ k less. first (suc k) (omega arith)))
    ∙ ap Some (omega arith)

-- the same both ways
pub closing_is : (quote : ℕ) (bytes : List ℕ) (size : ℕ) → quote ≢ 92 → ClosesAfter quote bytes size → to_closing quote bytes ≡ Some size
closing_is quote bytes size no_escape is = ap (to_closing quote) is.parts ∙ closes_closing quote is.between is.rest no_escape is.inside is.single ∙ ap Some (sym is.is_size)

pub block_is : (bytes : List ℕ) (size : ℕ) → BlockEndsAfter bytes size → to_block_end bytes ≡ Some size
block_is bytes size is = ap to_block_end is.parts ∙ ends_block is.between is.rest (λ k less. ap (λ (xs : List ℕ). closes_block (drop k xs)) (sym is.parts) ∙ is.first k less) ∙ ap Some (sym is.is_size)
