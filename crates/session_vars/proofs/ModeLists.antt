-- Lists of modes that stand behind one another.
use Rattle.std.proofs.Common.{◌≡◌, ◌⊎◌, ◌≤◌, ℕ, Bool, true, false, not, ◌&&◌, ◌||◌, nat_eq, List, [], ◌∷◌, ◌++◌, length, slice_index_or, refl, sym, subst, ◌∙◌, ap, inl, inr, arith}
use Rattle.std.specs.List.{list_all, list_any, slice_split, onto_first}
use Rattle.std.proofs.lemmas.Bool.{cond-true, cond-false, cases_Bool, and_parts, and_from, or_parts, or_from, not-true, not_from_false, eqb-true}
use Rattle.std.proofs.lemmas.List.{append-nil}
use Rattle.std.proofs.lemmas.List.Folds.{list_all-append, list_any-append}
use Rattle.std.proofs.lemmas.List.Splits.{length-slice_split}
use Rattle.session_vars.specs.Modes.{is_added_list, is_mode_list, new_modes}
use Rattle.session_vars.specs.Values.{has_reading_mode, is_plain_byte, is_reading_mode, without_blanks}
use Rattle.session_vars.proofs.NewModes.{behind_commas, fresh, fresh_pass, is_comma, new_are_fresh, no_comma}

-- lists that are cut at commas
onto_more : (x : ℕ) (parts more : List (List ℕ)) → 1 ≤ length parts → onto_first x (parts ++ more) ≡ onto_first x parts ++ more
onto_more x [] more some = absurd (omega arith)
onto_more x (part ∷ parts) more some = refl

pub split_joined : (p : ℕ → Bool) (c : ℕ) (xs ys : List ℕ) → p c ≡ true → slice_split p (xs ++ c ∷ ys) ≡ slice_split p xs ++ slice_split p ys
split_joined p c [] ys is = cond-true (p c) _ _ is
split_joined p c (x ∷ xs) ys is =
    elim (cases_Bool (p x)) [
      | inl e ↦ cond-true (p x) _ _ e ∙ ap (λ (parts : List (List ℕ)). [] ∷ parts) (split_joined p c xs ys is) ∙ sym (ap (λ (parts : List (List ℕ)). parts ++ slice_split p ys) (cond-true (p x) _ _ e))
      | inr e ↦
          cond-false (p x) _ _ e
          ∙ ap (onto_first x) (split_joined p c xs ys is)
          ∙ onto_more x (slice_split p xs) (slice_split p ys) (omega (arith, length-slice_split p xs))
          ∙ sym (ap (λ (parts : List (List ℕ)). parts ++ slice_split p ys) (cond-false (p x) _ _ e))
    ]

reading_joined : (xs ys : List ℕ) → has_reading_mode (xs ++ 44 ∷ ys) ≡ has_reading_mode xs || has_reading_mode ys
unfolding has_reading_mode
reading_joined xs ys =
    let test : List ℕ → Bool = λ mode. is_reading_mode (without_blanks mode) in
    ap (list_any test) (split_joined (λ b. nat_eq b 44) 44 xs ys refl) ∙ list_any-append test (slice_split (λ b. nat_eq b 44) xs) (slice_split (λ b. nat_eq b 44) ys)

-- a list behind another one, and behind none
record IsList (list : List ℕ) : Type 0 where
  rest : List ℕ
  parts : list ≡ 44 ∷ rest
  plain : list_all is_plain_byte list ≡ true
  harmless : has_reading_mode list ≡ false

list_parts : (list : List ℕ) → is_added_list list ≡ true → IsList list
list_parts [] is = absurd (cc)
list_parts (b ∷ rest) is =
    let both = and_parts (nat_eq b 44) (is_mode_list (b ∷ rest)) is in
    let modes = and_parts (list_all is_plain_byte (b ∷ rest)) (not (has_reading_mode (b ∷ rest))) both.1 in
    record { rest = rest; parts = ap (λ (first : ℕ). first ∷ rest) (eqb-true b 44 both.0); plain = modes.0; harmless = not-true _ modes.1 }

list_from : (list rest : List ℕ) → list ≡ 44 ∷ rest → list_all is_plain_byte list ≡ true → has_reading_mode list ≡ false → is_added_list list ≡ true
list_from list rest parts plain harmless =
    and_from (nat_eq (slice_index_or list 0 0) 44) (is_mode_list list) (ap (λ (l : List ℕ). nat_eq (slice_index_or l 0 0) 44) parts) (and_from (list_all is_plain_byte list) (not (has_reading_mode list)) plain (not_from_false _ harmless))

pub lists_append : (xs ys : List ℕ) → is_added_list xs ≡ true → is_added_list ys ≡ true → is_added_list (xs ++ ys) ≡ true
lists_append xs ys in_xs in_ys =
    let first = list_parts xs in_xs in
    let second = list_parts ys in_ys in
    let alone : has_reading_mode second.rest ≡ false = (or_parts (has_reading_mode []) (has_reading_mode second.rest) (sym (reading_joined [] second.rest) ∙ sym (ap has_reading_mode second.parts) ∙ second.harmless)).1 in
    list_from (xs ++ ys) (first.rest ++ ys) (ap (λ (l : List ℕ). l ++ ys) first.parts)
    (list_all-append is_plain_byte xs ys ∙ and_from _ _ first.plain second.plain)
    (ap (λ (l : List ℕ). has_reading_mode (xs ++ l)) second.parts ∙ reading_joined xs second.rest ∙ or_from _ _ first.harmless alone)

pub modes_append : (list lists : List ℕ) → is_mode_list list ≡ true → is_added_list lists ≡ true → is_mode_list (list ++ lists) ≡ true
modes_append list lists is are =
    let modes = and_parts (list_all is_plain_byte list) (not (has_reading_mode list)) is in
    let second = list_parts lists are in
    let alone_is : has_reading_mode second.rest ≡ false = (or_parts (has_reading_mode []) (has_reading_mode second.rest) (sym (reading_joined [] second.rest) ∙ sym (ap has_reading_mode second.parts) ∙ second.harmless)).1 in
    let harmless : has_reading_mode (list ++ lists) ≡ false = ap (λ (l : List ℕ). has_reading_mode (list ++ l)) second.parts ∙ reading_joined list second.rest ∙ or_from _ _ (not-true _ modes.1) alone_is in
    and_from (list_all is_plain_byte (list ++ lists)) _ (list_all-append is_plain_byte list lists ∙ and_from _ _ modes.0 second.plain) (not_from_false _ harmless)

-- a list behind a comma
none_reading : has_reading_mode [] ≡ false
unfolding has_reading_mode
none_reading = refl

pub behind_comma_list : (list : List ℕ) → is_mode_list list ≡ true → is_added_list (44 ∷ list) ≡ true
behind_comma_list list is =
    let modes = and_parts (list_all is_plain_byte list) (not (has_reading_mode list)) is in
    list_from (44 ∷ list) list refl modes.0 (reading_joined [] list ∙ or_from _ _ none_reading (not-true _ modes.1))

-- modes, each of which is a list without commas
abbrev pub is_inner : ℕ → Bool
is_inner b = is_plain_byte b && no_comma b

onto_all : (b : ℕ) (parts : List (List ℕ)) → is_inner b ≡ true → list_all (list_all is_inner) parts ≡ true → list_all (list_all is_inner) (onto_first b parts) ≡ true
onto_all b [] is all = and_from _ true (and_from (is_inner b) true is refl) refl
onto_all b (part ∷ parts) is all =
    let both = and_parts (list_all is_inner part) (list_all (list_all is_inner) parts) all in
    and_from _ _ (and_from (is_inner b) (list_all is_inner part) is both.0) both.1

pub parts_inner : (list : List ℕ) → list_all is_plain_byte list ≡ true → list_all (list_all is_inner) (slice_split is_comma list) ≡ true
parts_inner [] plain = refl
parts_inner (b ∷ list) plain =
    let both = and_parts (is_plain_byte b) (list_all is_plain_byte list) plain in
    let rest = parts_inner list both.1 in
    elim (cases_Bool (is_comma b)) [
      | inl e ↦ ap (list_all (list_all is_inner)) (cond-true (is_comma b) _ _ e) ∙ rest
      | inr e ↦ ap (list_all (list_all is_inner)) (cond-false (is_comma b) _ _ e) ∙ onto_all b (slice_split is_comma list) (and_from _ _ both.0 (ap not e)) rest
    ]

inner_plain : (mode : List ℕ) → list_all is_inner mode ≡ true → list_all is_plain_byte mode ≡ true
inner_plain [] inner = refl
inner_plain (b ∷ mode) inner =
    let both = and_parts (is_inner b) (list_all is_inner mode) inner in
    and_from _ _ (and_parts (is_plain_byte b) (no_comma b) both.0).0 (inner_plain mode both.1)

inner_whole : (mode : List ℕ) → list_all is_inner mode ≡ true → slice_split is_comma mode ≡ mode ∷ []
inner_whole [] inner = refl
inner_whole (b ∷ mode) inner =
    let both = and_parts (is_inner b) (list_all is_inner mode) inner in
    let other = not-true _ (and_parts (is_plain_byte b) (no_comma b) both.0).1 in
    cond-false (is_comma b) _ _ other ∙ ap (onto_first b) (inner_whole mode both.1)

abbrev test : List ℕ → Bool
test mode = is_reading_mode (without_blanks mode)

inner_harmless : (mode : List ℕ) → list_all is_inner mode ≡ true → test mode ≡ false → has_reading_mode mode ≡ false
unfolding has_reading_mode
inner_harmless mode inner harmless = ap (list_any test) (inner_whole mode inner) ∙ or_from _ _ harmless refl

abbrev AreModes : List (List ℕ) → Type 0
AreModes [] = Unit {0}
AreModes (mode ∷ modes) = ((list_all is_plain_byte mode ≡ true) × (has_reading_mode mode ≡ false)) × AreModes modes

all_modes : (modes : List (List ℕ)) → list_all (list_all is_inner) modes ≡ true → list_any test modes ≡ false → AreModes modes
all_modes [] inner harmless = tt
all_modes (mode ∷ modes) inner harmless =
    let both = and_parts (list_all is_inner mode) (list_all (list_all is_inner) modes) inner in
    let none = or_parts (test mode) (list_any test modes) harmless in
    ((inner_plain mode both.0, inner_harmless mode both.0 none.0), all_modes modes both.1 none.1)

-- modes behind commas are a list
modes_are_list : (mode : List ℕ) (modes : List (List ℕ)) → AreModes (mode ∷ modes) → (list_all is_plain_byte (mode ++ behind_commas modes) ≡ true) × (has_reading_mode (mode ++ behind_commas modes) ≡ false)
modes_are_list mode [] are = (ap (list_all is_plain_byte) (append-nil mode) ∙ are.0.0, ap has_reading_mode (append-nil mode) ∙ are.0.1)
modes_are_list mode (next ∷ modes) are =
    let rest = modes_are_list next modes are.1 in (
      list_all-append is_plain_byte mode (44 ∷ (next ++ behind_commas modes)) ∙ and_from _ _ are.0.0 rest.0,
      reading_joined mode (next ++ behind_commas modes) ∙ or_from _ _ are.0.1 rest.1,
    )

commas_are_lists : (modes : List (List ℕ)) → AreModes modes → (behind_commas modes ≡ []) ⊎ (is_added_list (behind_commas modes) ≡ true)
commas_are_lists [] are = inl refl
commas_are_lists (mode ∷ modes) are =
    let all = modes_are_list mode modes are in
    inr (behind_comma_list (mode ++ behind_commas modes) (and_from _ _ all.0 (not_from_false _ all.1)))

pub listed_inner : (list : List ℕ) → is_added_list list ≡ true → list_all (list_all is_inner) (slice_split is_comma list) ≡ true
listed_inner list is = parts_inner list (list_parts list is).plain

listed_modes : (list : List ℕ) → is_added_list list ≡ true → AreModes (slice_split is_comma list)
unfolding has_reading_mode
listed_modes list is = let parts = list_parts list is in all_modes (slice_split is_comma list) (parts_inner list parts.plain) parts.harmless

-- and so are those of a list that are new to a value
pub new_are_lists : (value list : List ℕ) → is_added_list list ≡ true → (new_modes value list ≡ []) ⊎ (is_added_list (new_modes value list) ≡ true)
new_are_lists value list is =
    let modes = slice_split is_comma list in
    subst (λ (new : List ℕ). (new ≡ []) ⊎ (is_added_list new ≡ true)) (sym (new_are_fresh value list))
    (commas_are_lists (fresh value modes) (fresh_pass AreModes value modes tt (λ mode more kept all. (all.1, λ rest. (all.0, rest))) (listed_modes list is)))
