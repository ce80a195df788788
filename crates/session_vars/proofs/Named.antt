-- What is added is named from then on, and not added again.
use Rattle.std.proofs.Common.{◌≡◌, ℕ, Bool, true, false, not, ◌&&◌, ◌||◌, nat_eq, nat_le, List, [], ◌∷◌, ◌++◌, Some, None, length, map, arith, codes, refl, sym, subst, ◌∙◌, ap, inl, inr, append_assoc}
use Rattle.std.specs.Char.{to_ascii_lowercase}
use Rattle.std.specs.Cmp.Lexicographic.{bytes_decides}
use Rattle.std.specs.List.{list_all, list_any, onto_first, slice_split}
use Rattle.std.proofs.lemmas.Bool.{cond-true, cond-false, cond_both, cases_Bool, both_ways, and_parts, and_from, or_cases, or_parts, or_left, or_right, not-true, ne_eqb}
use Rattle.std.proofs.lemmas.List.Folds.{list_any-append}
use Rattle.sql_tokens.specs.Words.{same_text}
use Rattle.session_vars.specs.Modes.{added_to, as_value, grown, is_added_list, joined_text, named_by, names_mode, new_modes, own_mode, server_mode, with_modes, with_more}
use Rattle.session_vars.specs.Tracked.{IsAssignable}
use Rattle.session_vars.specs.Values.{is_plain_byte, negative_value}
use Rattle.session_vars.specs.declared.change.SlotValue.{SlotValue}
use Rattle.session_vars.specs.declared.change.SlotValue.TheVariants.{Default, Text}
use Rattle.session_vars.specs.declared.slot.Slot.TheVariants.{SqlMode}
use Rattle.session_vars.proofs.Added.{lists_back, quoted_mode, with_new}
use Rattle.session_vars.proofs.ModeLists.{is_inner, listed_inner, split_joined}
use Rattle.session_vars.proofs.NewModes.{behind_commas, fresh, fresh_pass, is_comma, new_are_fresh, no_comma}
use Rattle.session_vars.proofs.Rules.{in_quotes, inside_quotes}

-- between commas and quotes
abbrev divides : ℕ → Bool
divides b = nat_eq b 44 || nat_eq b 39

abbrev some_named : (test : List ℕ → Bool) → (value : List ℕ) → Bool
some_named test value = list_any test (slice_split divides value)

named_joined : (test : List ℕ → Bool) (b : ℕ) (front back : List ℕ) → divides b ≡ true → some_named test (front ++ b ∷ back) ≡ some_named test front || some_named test back
named_joined test b front back is = ap (list_any test) (split_joined divides b front back is) ∙ list_any-append test (slice_split divides front) (slice_split divides back)

-- a mode is what it names
inner_no_quote : (b : ℕ) → is_inner b ≡ true → nat_eq b 39 ≡ false
inner_no_quote b is =
    let plain = (and_parts (is_plain_byte b) (no_comma b) is).0 in
    let no_marks = not-true _ (and_parts (nat_le 32 b && nat_le b 126) (not (nat_eq b 39 || nat_eq b 34 || nat_eq b 92)) plain).1 in
    (or_parts (nat_eq b 39) (nat_eq b 34) (or_parts (nat_eq b 39 || nat_eq b 34) (nat_eq b 92) no_marks).0).0

inner_divides : (b : ℕ) → is_inner b ≡ true → divides b ≡ false
inner_divides b is =
    elim (cases_Bool (divides b)) [
      | inl e ↦
          elim (or_cases (nat_eq b 44) (nat_eq b 39) e) [
            | inl comma ↦ absurd (both_ways (nat_eq b 44) (not-true _ (and_parts (is_plain_byte b) (no_comma b) is).1) comma)
            | inr quote ↦ absurd (both_ways (nat_eq b 39) (inner_no_quote b is) quote)
          ]
      | inr e ↦ e
    ]

mode_whole : (mode : List ℕ) → list_all is_inner mode ≡ true → slice_split divides mode ≡ mode ∷ []
mode_whole [] inner = refl
mode_whole (b ∷ mode) inner =
    let both = and_parts (is_inner b) (list_all is_inner mode) inner in
    cond-false (divides b) _ _ (inner_divides b both.0) ∙ ap (onto_first b) (mode_whole mode both.1)

-- modes that stand behind commas, in front of a quote
grown_named : (test : List ℕ → Bool) (front back : List ℕ) (modes : List (List ℕ)) → list_all (list_all is_inner) modes ≡ true → some_named test (front ++ (behind_commas modes ++ 39 ∷ back)) ≡ some_named test front || (list_any test modes || some_named test back)
grown_named test front back [] inner = named_joined test 39 front back refl
grown_named test front back (mode ∷ modes) inner =
    let both = and_parts (list_all is_inner mode) (list_all (list_all is_inner) modes) inner in
    let rest = behind_commas modes ++ 39 ∷ back in
    let alone : some_named test mode ≡ test mode || false = ap (list_any test) (mode_whole mode both.0) in
    ap (λ (more : List ℕ). some_named test (front ++ 44 ∷ more)) (append_assoc mode (behind_commas modes) (39 ∷ back))
    ∙ named_joined test 44 front (mode ++ rest) refl
    ∙ ap (λ more. some_named test front || more) (grown_named test mode back modes both.1 ∙ ap (λ one. one || (list_any test modes || some_named test back)) alone ∙ together (test mode) (list_any test modes) (some_named test back))
  where
    together : (a b c : Bool) → (a || false) || (b || c) ≡ (a || b) || c
    together true b c = refl
    together false b c = refl

-- a value that grew by modes names what it named, and these
record IsGrowth (old new : List ℕ) (modes : List (List ℕ)) : Type 0 where
  keeps : (test : List ℕ → Bool) → some_named test old ≡ true → some_named test new ≡ true
  names : (test : List ℕ → Bool) → list_any test modes ≡ true → some_named test new ≡ true

wider : (a b c : Bool) → a || c ≡ true → a || (b || c) ≡ true
wider true b c is = refl
wider false b c is = or_right b c is

front_or : (a b c : Bool) → a ≡ true → a || (b || c) ≡ true
front_or a b c is = or_left a (b || c) is

middle_or : (a b c : Bool) → b ≡ true → a || (b || c) ≡ true
middle_or a b c is = or_right a (b || c) (or_left b c is)

at_quote : (front back : List ℕ) (modes : List (List ℕ)) → list_all (list_all is_inner) modes ≡ true → IsGrowth (front ++ 39 ∷ back) (front ++ (behind_commas modes ++ 39 ∷ back)) modes
at_quote front back modes inner = record {
  keeps = λ test is. grown_named test front back modes inner ∙ wider (some_named test front) (list_any test modes) (some_named test back) (sym (named_joined test 39 front back refl) ∙ is);
  names = λ test is. grown_named test front back modes inner ∙ middle_or (some_named test front) (list_any test modes) (some_named test back) is;
}

onto_server : (modes : List (List ℕ)) → list_all (list_all is_inner) modes ≡ true → IsGrowth [] (joined_text server_mode (behind_commas modes)) modes
onto_server modes inner =
    let front = codes "CONCAT(@@GLOBAL.sql_mode, '" in
    let back = 41 ∷ [] in
    let whole : joined_text server_mode (behind_commas modes) ≡ front ++ (behind_commas modes ++ 39 ∷ back) = append_assoc front (behind_commas modes) (39 ∷ back) in
    let at = at_quote front back modes inner in
    record {
      keeps = λ test is.
          ap (some_named test) whole
          ∙ grown_named test front back modes inner
          ∙ front_or (some_named test front) (list_any test modes) (some_named test back) (or_right (test (codes "CONCAT(@@GLOBAL.sql_mode")) _ (or_right (test (codes " ")) _ is));
      names = λ test is. ap (some_named test) whole ∙ at.names test is;
    }

onto_list : (list : List ℕ) (modes : List (List ℕ)) → list_all (list_all is_inner) modes ≡ true → IsGrowth (in_quotes list) (as_value (list ++ behind_commas modes)) modes
onto_list list modes inner =
    let new = behind_commas modes in
    let Grows : List ℕ → Type 0 = λ value. IsGrowth (in_quotes list) value modes in
    cond_both (nat_le (length (list ++ new)) 1022) (in_quotes (list ++ new)) (joined_text (39 ∷ 39 ∷ []) (44 ∷ (list ++ new))) Grows
    (λ _. subst Grows (sym (ap (λ (inner : List ℕ). 39 ∷ inner) (append_assoc list new (39 ∷ [])))) (at_quote (39 ∷ list) [] modes inner))
    (λ _.
    let empty = codes "CONCAT('', '" in
    let front = empty ++ 44 ∷ list in
    let back = 41 ∷ [] in
    let at = at_quote front back modes inner in
    let none : (test : List ℕ → Bool) → some_named test [] ≡ true → some_named test front ≡ true =
    λ test is. named_joined test 44 empty list refl ∙ or_left (some_named test empty) (some_named test list) (or_right (test (codes "CONCAT(")) _ (or_right (test []) _ (or_right (test []) _ (or_right (test (codes " ")) _ is)))) in
    subst Grows (sym (ap (λ (tail : List ℕ). empty ++ 44 ∷ tail) (append_assoc list new (39 ∷ back)))) (record {
      keeps = λ test is.
          grown_named test front back modes inner
          ∙ front_or (some_named test front) (list_any test modes) (some_named test back)
          (elim (or_cases (some_named test []) (some_named test (list ++ 39 ∷ [])) (sym (named_joined test 39 [] (list ++ 39 ∷ []) refl) ∙ is)) [
            | inl e ↦ none test e
            | inr e ↦
                elim (or_cases (some_named test list) (some_named test []) (sym (named_joined test 39 list [] refl) ∙ e)) [
                  | inl f ↦ named_joined test 44 empty list refl ∙ or_right (some_named test empty) (some_named test list) f
                  | inr f ↦ none test f
                ]
          ]);
      names = at.names;
    }))

onto_joined : (base before : List ℕ) (modes : List (List ℕ)) → list_all (list_all is_inner) modes ≡ true → IsGrowth (joined_text base before) (with_modes (joined_text base before) (behind_commas modes)) modes
onto_joined base before modes inner =
    let new = behind_commas modes in
    let start = codes "CONCAT(" ++ base ++ codes ", '" in
    let ending = codes "')" in
    subst (λ (value : List ℕ). IsGrowth (joined_text base before) value modes) (sym (with_new base before new ∙ ap (λ (front : List ℕ). front ++ ending) (sym (append_assoc start before new)) ∙ append_assoc (start ++ before) new ending)) (at_quote (start ++ before) (41 ∷ []) modes inner)

more_growth : (old : SlotValue) (modes : List (List ℕ)) → IsAssignable SqlMode old → list_all (list_all is_inner) modes ≡ true → IsGrowth (named_by old) (with_more old (behind_commas modes)) modes
unfolding negative_value
more_growth Default modes tracked inner = onto_server modes inner
more_growth (Text bytes) modes (inl one) inner =
    elim (quoted_mode (Text bytes) one.kind bytes one.gives) [
      | inl apart ↦ absurd (cc)
      | inr quoted ↦
          let list = quoted.0 in
          let new = behind_commas modes in
          subst (λ (v : SlotValue). IsGrowth (named_by v) (with_more v new) modes) (sym quoted.1.0)
          (subst (λ (inner : List ℕ). IsGrowth (in_quotes list) (as_value (inner ++ new)) modes) (sym (inside_quotes list)) (onto_list list modes inner))
    ]
more_growth (Text bytes) modes (inr (inl minus)) inner = let apart : None ≡ Some (Text bytes) = minus.gives in absurd (cc)
more_growth (Text bytes) modes (inr (inr j)) inner = subst (λ (v : SlotValue). IsGrowth (named_by v) (with_more v (behind_commas modes)) modes) (sym j.is) (onto_joined j.base j.lists modes inner)

growth : (old : SlotValue) (modes : List (List ℕ)) → IsAssignable SqlMode old → list_all (list_all is_inner) modes ≡ true → IsGrowth (named_by old) (named_by (grown old (behind_commas modes))) modes
growth old [] tracked inner = record { keeps = λ test is. is; names = λ test is. absurd (cc) }
growth old (mode ∷ modes) tracked inner =
    let new = behind_commas (mode ∷ modes) in
    subst (λ (v : SlotValue). IsGrowth (named_by old) (named_by v) (mode ∷ modes)) (sym (cond-false (nat_eq (length new) 0) old (Text (with_more old new)) (ne_eqb (length new) 0 (λ none. omega arith)))) (more_growth old (mode ∷ modes) tracked inner)

-- each mode that is added is named afterwards
same_self : (mode : List ℕ) → same_text mode mode ≡ true
same_self mode = (bytes_decides (map to_ascii_lowercase mode) (map to_ascii_lowercase mode)).1 refl

each_named : (value grown : List ℕ) (modes : List (List ℕ)) → list_all (list_all is_inner) modes ≡ true → IsGrowth value grown (fresh value modes) → list_all (names_mode grown) modes ≡ true
each_named value grown [] inner grows = refl
each_named value grown (mode ∷ modes) inner grows =
    let both = and_parts (list_all is_inner mode) (list_all (list_all is_inner) modes) inner in
    elim (cases_Bool (names_mode value mode)) [
      | inl e ↦
          let same : IsGrowth value grown (fresh value modes) = subst (IsGrowth value grown) (cond-true (names_mode value mode) _ _ e) grows in
          and_from (names_mode grown mode) _ (grows.keeps (same_text mode) e) (each_named value grown modes both.1 same)
      | inr e ↦
          let more = value ++ 44 ∷ mode in
          let new : IsGrowth value grown (mode ∷ fresh more modes) = subst (IsGrowth value grown) (cond-false (names_mode value mode) _ _ e) grows in
          let rest : IsGrowth more grown (fresh more modes) = record {
            keeps = λ test is.
                elim (or_cases (some_named test value) (some_named test mode) (sym (named_joined test 44 value mode refl) ∙ is)) [
                  | inl old ↦ new.keeps test old
                  | inr here ↦
                      elim (or_cases (test mode) false (sym (ap (list_any test) (mode_whole mode both.0)) ∙ here)) [
                        | inl it ↦ new.names test (or_left (test mode) _ it)
                        | inr none ↦ absurd (cc)
                      ]
                ];
            names = λ test is. new.names test (or_right (test mode) _ is);
          } in
          and_from (names_mode grown mode) _ (new.names (same_text mode) (or_left (same_text mode mode) _ (same_self mode))) (each_named more grown modes both.1 rest)
    ]

fresh_inner : (value : List ℕ) (modes : List (List ℕ)) → list_all (list_all is_inner) modes ≡ true → list_all (list_all is_inner) (fresh value modes) ≡ true
fresh_inner value modes inner =
    fresh_pass (λ ms. list_all (list_all is_inner) ms ≡ true) value modes refl
    (λ mode more kept all. let both = and_parts (list_all is_inner mode) (list_all (list_all is_inner) more) all in (both.1, λ rest. and_from _ _ both.0 rest)) inner

pub added_named : (old : SlotValue) (list : List ℕ) → IsAssignable SqlMode old → is_added_list list ≡ true → list_all (names_mode (named_by (added_to old (Text (joined_text own_mode list))))) (slice_split is_comma list) ≡ true
added_named old list tracked are =
    let modes = slice_split is_comma list in
    let value = named_by old in
    let inner = listed_inner list are in
    subst (λ (l : List ℕ). list_all (names_mode (named_by (grown old (new_modes value l)))) modes ≡ true) (sym (lists_back list))
    (subst (λ (new : List ℕ). list_all (names_mode (named_by (grown old new))) modes ≡ true) (sym (new_are_fresh value list))
    (each_named value (named_by (grown old (behind_commas (fresh value modes)))) modes inner (growth old (fresh value modes) tracked (fresh_inner value modes inner))))

-- and nothing is added of what is named
none_fresh : (value : List ℕ) (modes : List (List ℕ)) → list_all (names_mode value) modes ≡ true → fresh value modes ≡ []
none_fresh value [] named = refl
none_fresh value (mode ∷ modes) named =
    let both = and_parts (names_mode value mode) (list_all (names_mode value) modes) named in
    cond-true (names_mode value mode) _ _ both.0 ∙ none_fresh value modes both.1

pub named_stays : (old : SlotValue) (list : List ℕ) → list_all (names_mode (named_by old)) (slice_split is_comma list) ≡ true → added_to old (Text (joined_text own_mode list)) ≡ old
named_stays old list named =
    ap (λ (l : List ℕ). grown old (new_modes (named_by old) l)) (lists_back list)
    ∙ ap (grown old) (new_are_fresh (named_by old) list)
    ∙ ap (λ (modes : List (List ℕ)). grown old (behind_commas modes)) (none_fresh (named_by old) (slice_split is_comma list) named)
