-- What a collation gives is tracked.
use Rattle.std.proofs.Common.{◌≡◌, ℕ, zero, suc, ◌+◌, ◌-◌, Bool, true, false, not, ◌&&◌, ◌||◌, nat_eq, nat_lt, bytes_eq, List, [], ◌∷◌, ◌++◌, length, take, drop, slice_index_or, codes, refl, sym, inl, inr}
use Rattle.std.specs.Cmp.Lexicographic.{bytes_decides}
use Rattle.std.specs.List.{list_all, prefix_len}
use Rattle.std.proofs.lemmas.Bool.{cond_both, and_parts, or_cases, both_ways, not-true}
use Rattle.session_vars.specs.Collations.{first_names, is_served_collation, names_of, unicode_names}
use Rattle.session_vars.specs.Names.{lower_case}
use Rattle.session_vars.specs.Settings.{collation_names, collation_settings, value_at}
use Rattle.session_vars.specs.Tracked.{AreTracked, IsCharacterSet, IsTrackedValue}
use Rattle.session_vars.specs.Values.{is_character_set}
use Rattle.session_vars.specs.declared.change.SlotValue.TheVariants.{Text}
use Rattle.session_vars.specs.declared.slot.Slot.{Slot}
use Rattle.session_vars.specs.declared.slot.Slot.TheVariants.{Names}
use Rattle.session_vars.proofs.Gives.{default_tracked}
use Rattle.session_vars.proofs.Kept.{word_is_one}
use Rattle.session_vars.proofs.NamesAgain.{a_word, is_word_text}

-- the name of a character set, and such a name and a collation's, as tests that compute
is_lower : List ℕ → Bool
is_lower bytes = bytes_eq (lower_case bytes) bytes

is_set : List ℕ → Bool
is_set bytes = is_character_set bytes && is_lower bytes

is_collated : (set name bytes : List ℕ) → Bool
is_collated set name bytes = bytes_eq bytes (set ++ codes " COLLATE " ++ name) && (is_set set && (is_word_text name && is_lower name))

set_size : List ℕ → ℕ
set_size bytes = prefix_len (λ b. not (nat_eq b 32)) bytes

is_named : List ℕ → Bool
is_named bytes = nat_eq (length bytes) 0 || (is_set bytes || is_collated (take (set_size bytes) bytes) (drop (set_size bytes + 9) bytes) bytes)

all_named : (list_all is_named first_names ≡ true) × (list_all is_named unicode_names ≡ true)
unfolding is_named is_set is_lower is_word_text is_collated set_size
all_named = (refl, refl)

one_named : (texts : List (List ℕ)) (place : ℕ) → list_all is_named texts ≡ true → is_named (slice_index_or texts place []) ≡ true
unfolding is_named
one_named [] place all = refl
one_named (text ∷ texts) zero all = (and_parts (is_named text) (list_all is_named texts) all).0
one_named (text ∷ texts) (suc place) all = one_named texts place (and_parts (is_named text) (list_all is_named texts) all).1

named : (number : ℕ) → is_named (names_of number) ≡ true
unfolding is_named is_set is_lower
named number =
    let Is : List ℕ → Type 0 = λ names. is_named names ≡ true in
    cond_both (nat_eq number 255) (codes "utf8mb4") _ Is (λ _. refl)
    (λ _. cond_both (nat_lt number 192) (slice_index_or first_names number []) (slice_index_or unicode_names (number - 192) []) Is (λ _. one_named first_names number all_named.0)
    (λ _. one_named unicode_names (number - 192) all_named.1))

a_set : (bytes : List ℕ) → is_set bytes ≡ true → IsCharacterSet bytes
unfolding is_set is_lower
a_set bytes is = let both = and_parts (is_character_set bytes) (is_lower bytes) is in (both.0, (bytes_decides (lower_case bytes) bytes).0 both.1)

a_collated : (set name bytes : List ℕ) → is_collated set name bytes ≡ true → IsTrackedValue Names (Text bytes)
unfolding is_collated is_lower
a_collated set name bytes is =
    let parts = and_parts (bytes_eq bytes (set ++ codes " COLLATE " ++ name)) _ is in
    let sets = and_parts (is_set set) _ parts.1 in
    let words = and_parts (is_word_text name) (is_lower name) sets.1 in
    inr (record {
      set = set;
      name = name;
      parts = (bytes_decides bytes (set ++ codes " COLLATE " ++ name)).0 parts.0;
      is_set = a_set set sets.0;
      is_word = word_is_one name (a_word name words.0);
      is_lower = (bytes_decides (lower_case name) name).0 words.1;
    })

names_tracked : (bytes : List ℕ) → is_named bytes ≡ true → not (nat_eq (length bytes) 0) ≡ true → IsTrackedValue Names (Text bytes)
unfolding is_named
names_tracked bytes is some =
    elim (or_cases (nat_eq (length bytes) 0) _ is) [
      | inl none ↦ absurd (both_ways (nat_eq (length bytes) 0) (not-true _ some) none)
      | inr names ↦ elim (or_cases (is_set bytes) _ names) [
        | inl one ↦ inl (a_set bytes one)
        | inr two ↦ a_collated _ _ bytes two
      ]
    ]

collation_tracked : (number : ℕ) → IsTrackedValue Names (Text (collation_names number))
unfolding collation_names is_collated is_set is_lower is_word_text
collation_tracked number =
    let Gives : List ℕ → Type 0 = λ names. IsTrackedValue Names (Text names) in
    cond_both (is_served_collation number) (names_of number) (codes "utf8mb4 COLLATE utf8mb4_general_ci") Gives (λ served. names_tracked (names_of number) (named number) served)
    (λ _. a_collated (codes "utf8mb4") (codes "utf8mb4_general_ci") (codes "utf8mb4 COLLATE utf8mb4_general_ci") refl)

collation_slot : (number : ℕ) (slot : Slot) → IsTrackedValue slot (value_at (collation_settings number) slot)
collation_slot number Names = collation_tracked number
collation_slot number slot = default_tracked slot refl

pub collations_tracked : (number : ℕ) → AreTracked (collation_settings number)
collations_tracked number = (refl, collation_slot number)
