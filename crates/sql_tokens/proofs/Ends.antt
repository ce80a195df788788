-- Ends that are looked for from left to right: where they are found, and that they are within the text.
use Rattle.std.proofs.Common.{◌≡◌, ◌≤◌, ◌<◌, ℕ, ◌+◌, ◌^◌, true, false, cond, nat_eq, List, [], ◌∷◌, length, get_or, drop, not, Option, Some, None, IfSome, refl, sym, ◌∙◌, ap, arith, length-drop}
use Rattle.std.proofs.lemmas.List.{drop-drop}
use Rattle.std.proofs.lemmas.Bool.{cond_both, cond-true, cond-false, and_parts, and_left, or_from, not-true, ltb-true, eq-eqb, ne_eqb, eqb-false}
use Rattle.std.proofs.lemmas.Bool.Decides.{nat_tests}
use Rattle.sql_tokens.specs.Bytes.{has_byte, later}
use Rattle.sql_tokens.specs.Comments.{closes_block, to_block_end}
use Rattle.sql_tokens.specs.Quotes.{is_inside, is_pair, begins_pair, to_closing}

pub later-later : (a b : ℕ) (end : Option ℕ) → later a (later b end) ≡ later (a + b) end
later-later a b None = refl
later-later a b (Some n) = ap Some (omega arith)

-- an end that is found within so many bytes
abbrev pub EndsWithin : ℕ → Option ℕ → Type 0
EndsWithin size end = IfSome end (λ n. (0 < n) × (n ≤ size))

pub later-within : (count size whole : ℕ) (end : Option ℕ) → count + size ≤ whole → EndsWithin size end → EndsWithin whole (later count end)
later-within count size whole None h w = tt
later-within count size whole (Some n) h w = (omega arith, omega arith)

pub has_byte-inside : (bytes : List ℕ) (place b : ℕ) → has_byte bytes place b ≡ true → place < length bytes
has_byte-inside bytes place b h = ltb-true _ _ (and_parts _ (nat_eq (get_or bytes place 0) b) h).0

-- a search that goes on from place to place: where it stops, and what it passes
pub stops_at : (search : List ℕ → Option ℕ) (bytes : List ℕ) (i n : ℕ) → later i (search (drop i bytes)) ≡ search bytes → search (drop i bytes) ≡ Some n → Some (i + n) ≡ search bytes
stops_at search bytes i n same here = ap (later i) (sym here) ∙ same

pub passes : (search : List ℕ → Option ℕ) (bytes : List ℕ) (i n : ℕ) → later i (search (drop i bytes)) ≡ search bytes → search (drop i bytes) ≡ later n (search (drop n (drop i bytes))) → later (i + n) (search (drop (i + n) bytes)) ≡ search bytes
passes search bytes i n same here = sym (later-later i n (search (drop (i + n) bytes))) ∙ ap (later i) (sym (here ∙ ap (λ xs. later n (search xs)) (drop-drop n i bytes))) ∙ same

-- the search for `*/`
pub at_block_end : (bytes : List ℕ) → 0 < length bytes → closes_block bytes ≡ true → to_block_end bytes ≡ Some 2
at_block_end [] some h = absurd (omega arith)
at_block_end (b ∷ bytes) some h = cond-true (closes_block (b ∷ bytes)) _ _ h

pub past_inside : (bytes : List ℕ) → 0 < length bytes → closes_block bytes ≡ false → to_block_end bytes ≡ later 1 (to_block_end (drop 1 bytes))
past_inside [] some h = absurd (omega arith)
past_inside (b ∷ bytes) some h = cond-false (closes_block (b ∷ bytes)) _ _ h

pub to_block_end-within : (bytes : List ℕ) → EndsWithin (length bytes) (to_block_end bytes)
to_block_end-within [] = tt
to_block_end-within (b ∷ bytes) = cond_both (closes_block (b ∷ bytes)) (Some 2) (later 1 (to_block_end bytes)) (EndsWithin (length (b ∷ bytes)))
    (λ e. let some : 1 < length (b ∷ bytes) = has_byte-inside (b ∷ bytes) 1 47 (and_parts (has_byte (b ∷ bytes) 0 42) (has_byte (b ∷ bytes) 1 47) e).1 in (omega arith, omega arith))
    (λ _. later-within 1 (length bytes) (length (b ∷ bytes)) (to_block_end bytes) (omega arith) (to_block_end-within bytes))

-- what is found in the rest of a text that fits memory ends there too
pub later_fits : (bytes : List ℕ) (front n : ℕ) (end : Option ℕ) → front < 2 ^ 64 → length bytes < 2 ^ 64 → EndsWithin (length (drop front bytes)) end → end ≡ Some n → front + n < 2 ^ 64
later_fits bytes front n None small fits inside is = absurd (cc)
later_fits bytes front n (Some m) small fits inside is = let same : m ≡ n = cc in omega (arith, length-drop front bytes)

-- the search for a closing quote: a pair is passed, the quote alone is the end, and any other byte is passed
pub past_pair : (quote : ℕ) (bytes : List ℕ) → begins_pair quote bytes ≡ true → to_closing quote bytes ≡ later 2 (to_closing quote (drop 2 bytes))
past_pair quote [] h = absurd (cc)
past_pair quote (b ∷ []) h = absurd (cc)
past_pair quote (b ∷ c ∷ bytes) h = cond-true (is_pair quote b c) _ _ h

pub at_closing : (quote : ℕ) (bytes : List ℕ) → 0 < length bytes → begins_pair quote bytes ≡ false → get_or bytes 0 0 ≡ quote → to_closing quote bytes ≡ Some 1
at_closing quote [] some h is = absurd (omega arith)
at_closing quote (b ∷ []) some h is = grind (arith, nat_tests)
at_closing quote (b ∷ c ∷ bytes) some h is = cond-false (is_pair quote b c) _ _ h ∙ cond-true (nat_eq b quote) _ _ (eq-eqb b quote is)

pub past_byte : (quote : ℕ) (bytes : List ℕ) → 0 < length bytes → begins_pair quote bytes ≡ false → (get_or bytes 0 0 ≡ quote → ⊥) → to_closing quote bytes ≡ later 1 (to_closing quote (drop 1 bytes))
past_byte quote [] some h is = absurd (omega arith)
past_byte quote (b ∷ []) some h is = cond-false (nat_eq b quote) (Some 1) None (ne_eqb b quote is)
past_byte quote (b ∷ c ∷ bytes) some h is = cond-false (is_pair quote b c) _ _ h ∙ cond-false (nat_eq b quote) _ _ (ne_eqb b quote is)

no_pair : (quote : ℕ) (bytes : List ℕ) → is_inside quote (get_or bytes 0 0) ≡ true → begins_pair quote bytes ≡ false
no_pair quote [] inside = refl
no_pair quote (b ∷ []) inside = refl
no_pair quote (b ∷ c ∷ bytes) inside =
    let neither = and_parts (not (nat_eq b quote)) (not (nat_eq b 92)) inside in
    or_from _ _ (and_left _ _ (not-true _ neither.1)) (and_left _ _ (not-true _ neither.0))

pub past_plain : (quote : ℕ) (bytes : List ℕ) → 0 < length bytes → is_inside quote (get_or bytes 0 0) ≡ true → to_closing quote bytes ≡ later 1 (to_closing quote (drop 1 bytes))
past_plain quote bytes some inside =
    let first = get_or bytes 0 0 in
    let other : nat_eq first quote ≡ false = not-true _ (and_parts (not (nat_eq first quote)) (not (nat_eq first 92)) inside).0 in
    past_byte quote bytes some (no_pair quote bytes inside) (eqb-false first quote other)

pub to_closing-within : (quote : ℕ) (bytes : List ℕ) → EndsWithin (length bytes) (to_closing quote bytes)
to_closing-within quote [] = tt
to_closing-within quote (b ∷ []) = cond_both (nat_eq b quote) (Some 1) None (EndsWithin 1) (λ _. (omega arith, omega arith)) (λ _. tt)
to_closing-within quote (b ∷ c ∷ bytes) =
    let size = length (b ∷ c ∷ bytes) in
    let on = later 1 (to_closing quote (c ∷ bytes)) in
    cond_both (is_pair quote b c) (later 2 (to_closing quote bytes)) (cond (nat_eq b quote) (Some 1) on) (EndsWithin size)
    (λ _. later-within 2 (length bytes) size (to_closing quote bytes) (omega arith) (to_closing-within quote bytes))
    (λ _. cond_both (nat_eq b quote) (Some 1) on (EndsWithin size)
    (λ _. (omega arith, omega arith))
    (λ _. later-within 1 (length (c ∷ bytes)) size (to_closing quote (c ∷ bytes)) (omega arith) (to_closing-within quote (c ∷ bytes))))
