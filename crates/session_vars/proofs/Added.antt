-- Modes to which lists are added stay tracked.
use Rattle.std.proofs.Common.{◌≡◌, ◌⊎◌, ℕ, ◌+◌, ◌-◌, true, false, not, ◌&&◌, ◌||◌, cond, nat_eq, nat_le, bytes_eq, List, [], ◌∷◌, ◌++◌, Option, Some, None, length, take, drop, codes, option_map, refl, sym, subst, ◌∙◌, ap, inl, inr, arith, append_assoc, length-append}
use Rattle.std.specs.List.{list_all}
use Rattle.std.proofs.lemmas.Bool.{cond-true, cond-false, cond_both, cases_Bool, and_parts, and_from, le-leb, leb-true}
use Rattle.std.proofs.Math.Seq.{take-append_seam}
use Rattle.sql_tokens.specs.Words.{bytes_of, inside, same_text}
use Rattle.sql_tokens.specs.declared.token.Token.{Token}
use Rattle.sql_tokens.specs.declared.token.TokenKind.{TokenKind}
use Rattle.sql_tokens.specs.declared.token.TokenKind.TheVariants.{Word, Quoted, SysVar}
use Rattle.session_vars.specs.Modes.{added_to, as_value, base_of, grown, is_added_list, is_base_list, is_front, is_mode_list, is_opening, joined, joined_at, joined_change, joined_text, joined_with, lists_behind, may_join, moved_behind, named_by, new_modes, own_mode, server_mode, takes_modes, with_modes, with_more, without_last}
use Rattle.session_vars.specs.Tracked.{IsBase, IsAssignable}
use Rattle.session_vars.specs.Values.{has_reading_mode, is_plain_byte, kept, plain_value, value_of, negative_value, is_default}
use Rattle.session_vars.specs.declared.change.Change.{Change}
use Rattle.session_vars.specs.declared.change.SlotValue.{SlotValue}
use Rattle.session_vars.specs.declared.change.SlotValue.TheVariants.{Default, Text}
use Rattle.session_vars.specs.declared.slot.Slot.{Slot}
use Rattle.session_vars.specs.declared.slot.Slot.TheVariants.{SqlMode}
use Rattle.session_vars.proofs.ModeLists.{behind_comma_list, lists_append, modes_append, new_are_lists}
use Rattle.session_vars.proofs.OneToken.{alone, some_if, quoted_value}
use Rattle.session_vars.proofs.Rules.{in_quotes, inside_quotes, quoted_piece}

-- what an expression over the mode before is
pub record AddsModes (change : Change) : Type 0 where
  pub adds : change.adds ≡ true
  pub takes : takes_modes change.slot ≡ true
  pub lists : List ℕ
  pub is : change.value ≡ Text (joined_text own_mode lists)
  pub are_lists : is_added_list lists ≡ true

last_off : (front back : List ℕ) (count : ℕ) → length back ≡ count → without_last count (front ++ back) ≡ front
last_off front back count is =
    let size : length (front ++ back) - count ≡ length front = omega (arith, length-append front back, is) in
    ap (λ n. take n (front ++ back)) size ∙ take-append_seam front back

abbrev IsNew : SlotValue → Type 0
IsNew value = IsAssignable SqlMode value

joined_is : (base lists : List ℕ) → IsBase base → is_added_list lists ≡ true → IsNew (Text (joined_text base lists))
joined_is base lists of_base are = inr (inr (record { base = base; lists = lists; takes = refl; is = refl; of_base = of_base; are_lists = are }))

list_is_new : (list : List ℕ) → is_mode_list list ≡ true → nat_le (length (in_quotes list)) 1024 ≡ true → IsNew (Text (in_quotes list))
unfolding value_of plain_value
list_is_new list is short =
    let modes = and_parts (list_all is_plain_byte list) (not (has_reading_mode list)) is in
    let by : List ℕ → Option SlotValue = λ inner. cond (not (has_reading_mode inner)) (cond (list_all is_plain_byte inner) (kept (in_quotes inner)) None) None in
    let gives : value_of SqlMode Quoted (in_quotes list) ≡ Some (Text (in_quotes list)) =
    ap by (inside_quotes list)
    ∙ cond-true (not (has_reading_mode list)) _ _ modes.1
    ∙ cond-true (list_all is_plain_byte list) _ _ modes.0
    ∙ cond-true (nat_le (length (in_quotes list)) 1024) _ _ short in
    inl (record { kind = Quoted; token = alone Quoted (in_quotes list) (quoted_piece list [] modes.0 tt); gives = gives })

-- a mode of one token is a list in quotes
pub quoted_mode : (value : SlotValue) (kind : TokenKind) (bytes : List ℕ) → value_of SqlMode kind bytes ≡ Some value → (value ≡ Default) ⊎ ((list : List ℕ) × ((value ≡ Text (in_quotes list)) × (is_mode_list list ≡ true)))
unfolding value_of plain_value
quoted_mode value Word bytes gives =
    let both = some_if (is_default bytes) _ value gives in
    let is : Some Default ≡ Some value = sym (cond-true (is_default bytes) _ _ both.0) ∙ both.1 in
    inl (cc)
quoted_mode value Quoted bytes gives =
    let list = inside bytes in
    let harmless = (some_if (not (has_reading_mode list)) _ value gives).0 in
    let quoted = quoted_value SqlMode bytes value gives in
    inr (list, (quoted.0, and_from (list_all is_plain_byte list) _ quoted.1 harmless))
quoted_mode value _ bytes gives = absurd (cc)

-- the lists that are new, where there are some
abbrev AreLists : List ℕ → Type 0
AreLists lists = (lists ≡ []) ⊎ (is_added_list lists ≡ true)

empty_base : is_base_list [] ≡ true
unfolding has_reading_mode
empty_base = refl

-- such a mode with more modes in it
value_new : (list : List ℕ) → is_mode_list list ≡ true → IsNew (Text (as_value list))
value_new list is =
    cond_both (nat_le (length list) 1022) (in_quotes list) (joined_text (39 ∷ 39 ∷ []) (44 ∷ list)) (λ (bytes : List ℕ). IsNew (Text bytes))
    (λ short. list_is_new list is (le-leb (length (in_quotes list)) 1024 (omega (arith, leb-true (length list) 1022 short, length-append list (39 ∷ [])))))
    (λ _. joined_is (39 ∷ 39 ∷ []) (44 ∷ list) (inr ([], (refl, empty_base))) (behind_comma_list list is))

pub with_new : (base before new : List ℕ) → with_modes (joined_text base before) new ≡ joined_text base (before ++ new)
with_new base before new =
    let front = codes "CONCAT(" ++ base ++ codes ", '" in
    let ending = codes "')" in
    ap (λ (kept : List ℕ). kept ++ new ++ ending) (last_off (front ++ before) ending 2 refl)
    ∙ ap (λ (kept : List ℕ). kept ++ ending) (append_assoc front before new)

more_new : (old : SlotValue) (new : List ℕ) → IsNew old → is_added_list new ≡ true → IsNew (Text (with_more old new))
unfolding negative_value
more_new Default new tracked are = joined_is server_mode new (inl refl) are
more_new (Text bytes) new (inl one) are =
    elim (quoted_mode (Text bytes) one.kind bytes one.gives) [
      | inl apart ↦ absurd (cc)
      | inr quoted ↦
          let list = quoted.0 in
          subst (λ (v : SlotValue). IsNew (Text (with_more v new))) (sym quoted.1.0)
          (subst (λ (inner : List ℕ). IsNew (Text (as_value (inner ++ new)))) (sym (inside_quotes list)) (value_new (list ++ new) (modes_append list new quoted.1.1 are)))
    ]
more_new (Text bytes) new (inr (inl minus)) are = let apart : None ≡ Some (Text bytes) = minus.gives in absurd (cc)
more_new (Text bytes) new (inr (inr j)) are =
    subst (λ (v : SlotValue). IsNew (Text (with_more v new))) (sym j.is)
    (subst (λ (bytes : List ℕ). IsNew (Text bytes)) (sym (with_new j.base j.lists new)) (joined_is j.base (j.lists ++ new) j.of_base (lists_append j.lists new j.are_lists are)))

grown_new : (old : SlotValue) (new : List ℕ) → IsNew old → AreLists new → IsNew (grown old new)
grown_new old new tracked (inl none) = subst (λ (lists : List ℕ). IsNew (grown old lists)) (sym none) tracked
grown_new old new tracked (inr are) = cond_both (nat_eq (length new) 0) old (Text (with_more old new)) IsNew (λ _. tracked) (λ _. more_new old new tracked are)

pub lists_back : (lists : List ℕ) → without_last 2 (drop 20 (joined_text own_mode lists)) ≡ lists
lists_back lists = last_off lists (codes "')") 2 refl

added_mode : (old : SlotValue) (lists : List ℕ) → IsNew old → is_added_list lists ≡ true → IsNew (added_to old (Text (joined_text own_mode lists)))
added_mode old lists tracked are = subst (λ (l : List ℕ). IsNew (grown old (new_modes (named_by old) l))) (sym (lists_back lists)) (grown_new old (new_modes (named_by old) lists) tracked (new_are_lists (named_by old) lists are))

pub added_tracked : (old : SlotValue) (change : Change) → IsAssignable SqlMode old → AddsModes change → IsAssignable SqlMode (added_to old change.value)
added_tracked old change tracked adds = subst (λ (v : SlotValue). IsNew (added_to old v)) (sym adds.is) (added_mode old adds.lists tracked adds.are_lists)

base_is : (kind : TokenKind) (bytes base : List ℕ) → base_of kind bytes ≡ Some base → (base ≡ own_mode) ⊎ IsBase base
unfolding base_of
base_is SysVar bytes base is =
    let own = same_text bytes own_mode || same_text bytes (codes "@@session.sql_mode") in
    elim (cases_Bool own) [
      | inl e ↦ let same : Some own_mode ≡ Some base = sym (cond-true own _ _ e) ∙ is in inl (cc)
      | inr e ↦ let same : Some server_mode ≡ Some base = (some_if (same_text bytes server_mode) (Some server_mode) base (sym (cond-false own _ _ e) ∙ is)).1 in inr (inl (cc))
    ]
base_is Quoted bytes base is =
    let both = some_if (is_base_list (inside bytes)) _ base is in
    let same : in_quotes (inside bytes) ≡ base = cc in
    inr (inr (inside bytes, (sym same, both.0)))
base_is _ bytes base is = absurd (cc)

-- what an expression that is read changes
abbrev pub IsReadChange : Change → Type 0
IsReadChange change = ((change.adds ≡ false) × ((takes_modes change.slot ≡ true) × IsAssignable change.slot change.value)) ⊎ AddsModes change

base_adds : (base : List ℕ) → IsBase base → bytes_eq base own_mode ≡ false
base_adds base (inl is) = ap (λ b. bytes_eq b own_mode) is
base_adds base (inr quoted) = ap (λ b. bytes_eq b own_mode) quoted.1.0

read_change : (base lists : List ℕ) → (base ≡ own_mode) ⊎ IsBase base → is_added_list lists ≡ true → IsReadChange (joined_change base lists)
read_change base lists (inl own) are =
    inr (record { adds = ap (λ b. bytes_eq b own_mode) own; takes = refl; lists = lists; is = ap (λ b. Text (joined_text b lists)) own; are_lists = are })
read_change base lists (inr of_base) are = inl (base_adds base of_base, (refl, joined_is base lists of_base are))

with_read : (base lists : Option (List ℕ)) (change : Change) → ((b : List ℕ) → base ≡ Some b → (b ≡ own_mode) ⊎ IsBase b) → joined_with base lists ≡ Some change → IsReadChange change
with_read None lists change of_base is = absurd (cc)
with_read (Some base) None change of_base is = absurd (cc)
with_read (Some base) (Some lists) change of_base is =
    let both = some_if (may_join base lists) (Some (joined_change base lists)) change is in
    let same : joined_change base lists ≡ change = cc in
    subst IsReadChange same (read_change base lists (of_base base refl) (and_parts (is_added_list lists) _ both.0).0)

at_read : (text : List ℕ) (depth : ℕ) (front : List ℕ) (tokens : List Token) (change : Change) → joined_at text depth front tokens ≡ Some change → IsReadChange change
unfolding joined_at
at_read text depth front [] change is = absurd (cc)
at_read text depth front (token ∷ []) change is = absurd (cc)
at_read text depth front (token ∷ next ∷ tokens) change is =
    elim (cases_Bool (is_opening text token next)) [
      | inl e ↦ at_read text (depth + 1) front tokens change (sym (cond-true (is_opening text token next) _ _ e) ∙ is)
      | inr e ↦
          let inner = sym (cond-false (is_opening text token next) _ _ e) ∙ is in
          elim (cases_Bool (is_front text depth token next tokens)) [
            | inl f ↦ at_read text depth (front ++ inside (bytes_of text token)) tokens change (sym (cond-true (is_front text depth token next tokens) _ _ f) ∙ inner)
            | inr f ↦
                with_read (base_of token.kind (bytes_of text token)) (option_map (λ lists. lists ++ moved_behind front) (lists_behind text depth (next ∷ tokens))) change (base_is token.kind (bytes_of text token)) (sym (cond-false (is_front text depth token next tokens) _ _ f) ∙ inner)
          ]
    ]

pub joined_tracked : (text : List ℕ) (slot : Slot) (tokens : List Token) (change : Change) → joined text slot tokens ≡ Some change → IsReadChange change
unfolding joined
joined_tracked text slot tokens change is = at_read text 0 [] tokens change (some_if (takes_modes slot && nat_le (length tokens) 60) (joined_at text 0 [] tokens) change is).1
