-- Assignments that are written for changes, and read again.
use Rattle.std.proofs.Common.{◌≡◌, ◌⊎◌, ℕ, ◌+◌, Bool, true, false, not, ◌&&◌, ◌||◌, bytes_eq, nat_eq, cond, ◌-◌, List, [], ◌∷◌, ◌++◌, Some, length, codes, slice_index_or, nat_le, Option, None, option_map, subst, sym, refl, ◌∙◌, ap, inl, inr, arith, append_assoc, length-append}
use Rattle.std.specs.List.{list_all, flat_map}
use Rattle.std.proofs.lemmas.Bool.{cond-true, cond-false, and_parts, and_from, and_left, and_right, or_from, or_left, not-true, not_from_false, eqb-true}
use Rattle.std.proofs.lemmas.List.{append-nil}
use Rattle.std.proofs.lemmas.List.Folds.{list_all-append}
use Rattle.sql_tokens.specs.Tokens.{tokens_behind}
use Rattle.sql_tokens.specs.Words.{bytes_of, inside, is_symbol_kind, is_symbol, is_word, same_text, says, word_by}
use Rattle.sql_tokens.specs.declared.token.Token.{Token}
use Rattle.sql_tokens.specs.declared.token.TokenKind.{TokenKind}
use Rattle.sql_tokens.specs.declared.token.TokenKind.TheVariants.{Word, Quoted, Number, SysVar, Symbol, Executed}
use Rattle.session_vars.specs.Assignments.{change_to, written, assigned, named_change, slot_by, slot_of_name, assignment, assignments, part_changes, with_changes}
use Rattle.session_vars.specs.Modes.{base_of, ends_with_comma, is_added_list, is_base_list, is_front, is_lone_comma, is_mode_list, is_opening, is_quoted, joined, joined_at, joined_change, joined_text, joined_with, list_of, lists_behind, lists_joined, may_join, own_mode, takes_modes}
use Rattle.session_vars.specs.Scopes.{before_comma, behind_comma, is_server_scope, names_server, deeper, divides, sets_server}
use Rattle.session_vars.specs.Slots.{slot_named, slot_of_comments}
use Rattle.session_vars.specs.Statement.{is_comment, is_session_word}
use Rattle.session_vars.specs.Texts.{is_names, value_text, written_name, assignment_text}
use Rattle.session_vars.specs.Tracked.{IsOneValue, IsNegative, IsBase, IsJoined, IsAssignable}
use Rattle.session_vars.specs.Values.{has_reading_mode, is_plain_byte, value_of, negative_value}
use Rattle.session_vars.specs.declared.change.Change.{Change}
use Rattle.session_vars.specs.declared.change.SlotValue.{SlotValue}
use Rattle.session_vars.specs.declared.change.SlotValue.TheVariants.{Text}
use Rattle.session_vars.specs.declared.slot.Slot.{Slot}
use Rattle.session_vars.specs.declared.slot.Slot.TheVariants.{SqlMode}
use Rattle.session_vars.proofs.Comments.{AreComments, IsSpelt, spelling}
use Rattle.session_vars.proofs.Joining.{with_comma}
use Rattle.session_vars.proofs.OneToken.{IsValueKind, value_kind, value_piece, number_text}
use Rattle.session_vars.proofs.Parts.{last_assigned, next_assigned}
use Rattle.session_vars.proofs.Pieces.{Stops, At, IsPiece, token_of, behind, scanned, said, behind_blank, past_blank, at_end}
use Rattle.session_vars.proofs.Unnamed.{assigned_part}
use Rattle.session_vars.proofs.Rules.{IsWordText, in_quotes, inside_quotes, number_first, word_piece, symbol_piece, number_piece, minus_piece, quoted_piece, variable_piece}

-- a token within an assignment: no comment, comma, bracket or `;`
abbrev quiet_by : TokenKind → List ℕ → Bool
quiet_by kind bytes = not (is_comment kind) && not (is_symbol_kind kind && bytes_eq bytes (44 ∷ [])) && not (is_symbol_kind kind && bytes_eq bytes (59 ∷ [])) && not (is_symbol_kind kind && bytes_eq bytes (40 ∷ [])) && not (is_symbol_kind kind && bytes_eq bytes (41 ∷ []))

abbrev pub is_quiet : (text : List ℕ) → Token → Bool
is_quiet text token = quiet_by token.kind (bytes_of text token)

pub record IsQuiet (text : List ℕ) (token : Token) : Type 0 where
  pub no_comment : is_comment token.kind ≡ false
  pub no_comma : is_symbol text token 44 ≡ false
  pub no_end : is_symbol text token 59 ≡ false
  pub no_opening : is_symbol text token 40 ≡ false
  pub no_closing : is_symbol text token 41 ≡ false

quiet_parts : (text : List ℕ) (token : Token) → is_quiet text token ≡ true → IsQuiet text token
quiet_parts text token quiet =
    let a = and_parts (not (is_comment token.kind) && not (is_symbol text token 44) && not (is_symbol text token 59) && not (is_symbol text token 40)) (not (is_symbol text token 41)) quiet in
    let b = and_parts (not (is_comment token.kind) && not (is_symbol text token 44) && not (is_symbol text token 59)) (not (is_symbol text token 40)) a.0 in
    let c = and_parts (not (is_comment token.kind) && not (is_symbol text token 44)) (not (is_symbol text token 59)) b.0 in
    let d = and_parts (not (is_comment token.kind)) (not (is_symbol text token 44)) c.0 in
    record { no_comment = not-true _ d.0; no_comma = not-true _ d.1; no_end = not-true _ c.1; no_opening = not-true _ b.1; no_closing = not-true _ a.1 }

-- tokens at whose end as many brackets are open as before the first comma: no comment, no `;` and no comma outside brackets
abbrev pub inner_by : TokenKind → List ℕ → (depth : ℕ) → Bool
inner_by kind bytes depth = not (is_comment kind) && not (is_symbol_kind kind && bytes_eq bytes (59 ∷ [])) && not (is_symbol_kind kind && bytes_eq bytes (44 ∷ []) && nat_eq depth 0)

abbrev pub deeper_by : TokenKind → List ℕ → (depth : ℕ) → ℕ
deeper_by kind bytes depth = cond (is_symbol_kind kind && bytes_eq bytes (40 ∷ [])) (depth + 1) (cond (is_symbol_kind kind && bytes_eq bytes (41 ∷ [])) (depth - 1) depth)

abbrev pub is_calm : (text : List ℕ) → (depth : ℕ) → List Token → Bool
is_calm text depth [] = nat_eq depth 0
is_calm text depth (token ∷ tokens) = inner_by token.kind (bytes_of text token) depth && is_calm text (deeper_by token.kind (bytes_of text token) depth) tokens

pub calm_step : (text : List ℕ) (depth : ℕ) (token : Token) (bytes : List ℕ) (tokens : List Token) → bytes_of text token ≡ bytes → inner_by token.kind bytes depth ≡ true → is_calm text (deeper_by token.kind bytes depth) tokens ≡ true → is_calm text depth (token ∷ tokens) ≡ true
calm_step text depth token bytes tokens is inner rest =
    and_from (inner_by token.kind (bytes_of text token) depth) _ (ap (λ said. inner_by token.kind said depth) is ∙ inner) (ap (λ said. is_calm text (deeper_by token.kind said depth) tokens) is ∙ rest)

calm_onto : (text : List ℕ) (token : Token) (tokens : List Token) → is_quiet text token ≡ true → is_calm text 0 tokens ≡ true → is_calm text 0 (token ∷ tokens) ≡ true
calm_onto text token tokens quiet rest =
    let is = quiet_parts text token quiet in
    let same : deeper text token 0 ≡ 0 = cond-false (is_symbol text token 40) _ _ is.no_opening ∙ cond-false (is_symbol text token 41) _ _ is.no_closing in
    and_from (inner_by token.kind (bytes_of text token) 0) _
    (and_from _ _ (and_from _ _ (not_from_false _ is.no_comment) (not_from_false _ is.no_end)) (not_from_false _ (and_left _ _ is.no_comma)))
    (ap (λ n. is_calm text n tokens) same ∙ rest)

-- the tokens of a value that is written
record IsValueRead (text : List ℕ) (place : ℕ) (slot : Slot) (value : SlotValue) : Type 0 where
  tokens : List Token
  scan : tokens_behind text place ≡ tokens ++ tokens_behind text (place + length (value_text value))
  gives : written text slot tokens ≡ Some (record { slot = slot; value = value; adds = false })
  calm : is_calm text 0 tokens ≡ true

value_quiet : (slot : Slot) (kind : TokenKind) (bytes : List ℕ) → IsValueKind kind → quiet_by kind bytes ≡ true
value_quiet slot Word bytes is = refl
value_quiet slot Number bytes is = refl
value_quiet slot Quoted bytes is = refl
value_quiet slot kind bytes is = absurd is

one_value : (text : List ℕ) (place : ℕ) (slot : Slot) (value : SlotValue) (rest : List ℕ) → IsOneValue slot value → At text place (value_text value ++ rest) → Stops rest → IsValueRead text place slot value
unfolding written
one_value text place slot value rest one at stops =
    let bytes = value_text value in
    let piece = value_piece slot value one.kind rest one.token one.gives stops in
    let token = token_of one.kind place bytes in
    let is : bytes_of text token ≡ bytes = said text place one.kind bytes rest at in
    let kind = value_kind slot one.kind bytes value one.gives in
    record {
      tokens = token ∷ [];
      scan = scanned text place one.kind bytes rest at piece;
      gives = ap (λ (written : List ℕ). change_to slot (value_of slot one.kind written)) is ∙ ap (change_to slot) one.gives;
      calm = calm_onto text token [] (value_quiet slot one.kind (bytes_of text token) kind) refl;
    }

negative : (text : List ℕ) (place : ℕ) (slot : Slot) (value : SlotValue) (rest : List ℕ) → IsNegative slot value → At text place (value_text value ++ rest) → Stops rest → IsValueRead text place slot value
unfolding written
negative text place slot value rest minus at stops =
    let number = minus.number in
    let is_number = number_text number minus.token in
    let at_minus : At text place ((45 ∷ []) ++ (number ++ rest)) = at ∙ ap (λ (bytes : List ℕ). bytes ++ rest) minus.parts in
    let at_number : At text (place + 1) (number ++ rest) = behind text place (45 ∷ []) (number ++ rest) at_minus in
    let sign = token_of Symbol place (45 ∷ []) in
    let token = token_of Number (place + 1) number in
    let sign_is : bytes_of text sign ≡ 45 ∷ [] = said text place Symbol (45 ∷ []) (number ++ rest) at_minus in
    let is : bytes_of text token ≡ number = said text (place + 1) Number number rest at_number in
    let size : place + 1 + length number ≡ place + length (value_text value) = omega (arith, ap (length {A = ℕ}) minus.parts) in
    record {
      tokens = sign ∷ token ∷ [];
      scan =
          scanned text place Symbol (45 ∷ []) (number ++ rest) at_minus (minus_piece number rest (number_first number is_number))
          ∙ ap (λ (tokens : List Token). sign ∷ tokens) (scanned text (place + 1) Number number rest at_number (number_piece number rest is_number stops) ∙ ap (λ n. token ∷ tokens_behind text n) size);
      gives =
          cond-true (is_symbol text sign 45) _ _ (ap (λ bytes. bytes_eq bytes (45 ∷ [])) sign_is)
          ∙ ap (λ (written : List ℕ). change_to slot (negative_value slot Number written)) is
          ∙ ap (change_to slot) minus.gives;
      calm = calm_onto text sign (token ∷ []) (ap (quiet_by Symbol) sign_is) (calm_onto text token [] refl refl);
    }

equals_piece : (rest : List ℕ) → IsPiece Symbol (61 ∷ []) rest
equals_piece rest = symbol_piece 61 rest (record { no_hash = refl; no_dash = refl; no_slash = refl; no_single = refl; no_double = refl; no_backtick = refl; no_at = refl }) refl refl refl refl

pub comma_piece : (rest : List ℕ) → IsPiece Symbol (44 ∷ []) rest
comma_piece rest = symbol_piece 44 rest (record { no_hash = refl; no_dash = refl; no_slash = refl; no_single = refl; no_double = refl; no_backtick = refl; no_at = refl }) refl refl refl refl

bracket_piece : (b : ℕ) (rest : List ℕ) → (b ≡ 40) ⊎ (b ≡ 41) → IsPiece Symbol (b ∷ []) rest
bracket_piece b rest (inl is) = subst (λ n. IsPiece Symbol (n ∷ []) rest) (sym is) (symbol_piece 40 rest (record { no_hash = refl; no_dash = refl; no_slash = refl; no_single = refl; no_double = refl; no_backtick = refl; no_at = refl }) refl refl refl refl)
bracket_piece b rest (inr is) = subst (λ n. IsPiece Symbol (n ∷ []) rest) (sym is) (symbol_piece 41 rest (record { no_hash = refl; no_dash = refl; no_slash = refl; no_single = refl; no_double = refl; no_backtick = refl; no_at = refl }) refl refl refl refl)

-- CONCAT, a mode and lists
record IsBaseRead (base rest : List ℕ) : Type 0 where
  kind : TokenKind
  piece : IsPiece kind base rest
  gives : base_of kind base ≡ Some base
  inner : inner_by kind base 1 ≡ true
  level : deeper_by kind base 1 ≡ 1
  no_word : word_by kind base ≡ None
  no_symbol : is_symbol_kind kind ≡ false
  no_front : is_quoted kind && ends_with_comma (inside base) ≡ false

base_read : (base rest : List ℕ) → IsBase base → Stops rest → IsBaseRead base rest
unfolding base_of
base_read base rest (inl is) stops = subst (λ (b : List ℕ). IsBaseRead b rest) (sym is) (record {
  kind = SysVar;
  piece = variable_piece (codes "GLOBAL.sql_mode") rest refl (omega arith) stops;
  gives = refl;
  inner = refl;
  level = refl;
  no_word = refl;
  no_symbol = refl;
  no_front = refl;
})
base_read base rest (inr quoted) stops =
    let list = quoted.0 in
    let is = quoted.1.1 in
    let both = and_parts (not (ends_with_comma list)) (is_mode_list list) is in
    let plain = (and_parts (list_all is_plain_byte list) (not (has_reading_mode list)) both.1).0 in
    let kept : List ℕ → Option (List ℕ) = λ inner. cond (is_base_list inner) (Some (in_quotes inner)) None in
    subst (λ (b : List ℕ). IsBaseRead b rest) (sym quoted.1.0) (record {
      kind = Quoted;
      piece = quoted_piece list rest plain stops;
      gives = ap kept (inside_quotes list) ∙ cond-true (is_base_list list) _ _ is;
      inner = refl;
      level = refl;
      no_word = refl;
      no_symbol = refl;
      no_front = ap ends_with_comma (inside_quotes list) ∙ not-true _ both.0;
    })

base_adds_not : (base : List ℕ) → IsBase base → bytes_eq base own_mode ≡ false
base_adds_not base (inl is) = ap (λ b. bytes_eq b own_mode) is
base_adds_not base (inr quoted) = ap (λ b. bytes_eq b own_mode) quoted.1.0

list_again : (lists : List ℕ) → list_of Quoted (in_quotes lists) ≡ Some lists
unfolding list_of
list_again lists = ap (λ (inner : List ℕ). Some inner) (inside_quotes lists)

pub mode_slot : (slot : Slot) → takes_modes slot ≡ true → slot ≡ SqlMode
mode_slot SqlMode is = refl
mode_slot _ is = absurd (cc)

no_front_by : (here quoted ends lone : Bool) → quoted && ends ≡ false → lone ≡ false → here && quoted && (ends || lone) ≡ false
no_front_by false quoted ends lone is alone = refl
no_front_by true false ends lone is alone = refl
no_front_by true true ends lone is alone = or_from ends lone is alone

-- the tokens of such an expression, read
joined_gives : (text : List ℕ) (slot : Slot) (concat opening base comma list close : Token) (b lists : List ℕ) → takes_modes slot ≡ true → says text concat (codes "CONCAT") ≡ true → is_symbol text opening 40 ≡ true → word_by base.kind (bytes_of text base) ≡ None → is_symbol_kind base.kind ≡ false → base_of base.kind (bytes_of text base) ≡ Some b → is_symbol text comma 41 ≡ false → is_symbol text comma 44 ≡ true → list_of list.kind (bytes_of text list) ≡ Some lists → is_symbol text close 41 ≡ true → is_front text 1 base comma (list ∷ close ∷ []) ≡ false → IsBase b → is_added_list lists ≡ true → written text slot (concat ∷ opening ∷ base ∷ comma ∷ list ∷ close ∷ []) ≡ Some (record { slot = slot; value = Text (joined_text b lists); adds = false })
unfolding written joined joined_at lists_behind
joined_gives text slot concat opening base comma list close b lists takes is_concat is_open no_word no_symbol is_base no_close is_comma is_list is_close no_front of_base are =
    let rest = comma ∷ list ∷ close ∷ [] in
    let end : lists_behind text 1 (close ∷ []) ≡ Some [] = cond-true (is_symbol text close 41) (lists_behind text 0 []) None is_close in
    let behind : lists_behind text 1 rest ≡ Some lists =
    cond-false (is_symbol text comma 41) _ _ no_close
    ∙ cond-true (is_symbol text comma 44) _ _ is_comma
    ∙ ap (λ (first : Option (List ℕ)). lists_joined first (lists_behind text 1 (close ∷ []))) is_list
    ∙ ap (lists_joined (Some lists)) end
    ∙ ap (λ (all : List ℕ). Some all) (append-nil lists) in
    let no_concat : says text base (codes "CONCAT") ≡ false = ap (λ named. is_word named (codes "CONCAT")) no_word in
    let change = joined_change b lists in
    let same : change ≡ record { slot = slot; value = Text (joined_text b lists); adds = false } =
    ap (λ (s : Slot). record { slot = s; value = Text (joined_text b lists); adds = bytes_eq b own_mode }) (sym (mode_slot slot takes))
    ∙ ap (λ (adds : Bool). record { slot = slot; value = Text (joined_text b lists); adds = adds }) (base_adds_not b of_base) in
    cond-true (takes_modes slot && true) _ _ (and_from _ _ takes refl)
    ∙ cond-true (is_opening text concat opening) _ _ (or_left _ _ (and_from _ _ is_concat is_open))
    ∙ cond-false (is_opening text base comma) _ _ (or_from _ _ (and_left _ _ no_concat) (and_left _ _ (and_left _ _ no_symbol)))
    ∙ cond-false (is_front text 1 base comma (list ∷ close ∷ [])) _ _ no_front
    ∙ ap (λ (found : Option (List ℕ)). joined_with found (option_map (λ lists. lists ++ []) (lists_behind text 1 rest))) is_base
    ∙ ap (λ (found : Option (List ℕ)). joined_with (Some b) (option_map (λ lists. lists ++ []) found)) behind
    ∙ ap (λ (all : List ℕ). joined_with (Some b) (Some all)) (append-nil lists)
    ∙ cond-true (may_join b lists) _ _ (and_from _ _ are (or_left _ _ (not_from_false _ (base_adds_not b of_base))))
    ∙ ap (λ (found : Change). Some found) same

joined_read : (text : List ℕ) (place : ℕ) (slot : Slot) (value : SlotValue) (rest : List ℕ) → IsJoined slot value → At text place (value_text value ++ rest) → Stops rest → IsValueRead text place slot value
joined_read text place slot value rest j at stops =
    let base = j.base in
    let lists = j.lists in
    let concat = codes "CONCAT" in
    let opening = codes "CONCAT(" in
    let gap = codes ", '" in
    let ending = codes "')" in
    let tail = lists ++ (ending ++ rest) in
    let quoted = in_quotes lists in
    let in_list : 39 ∷ tail ≡ quoted ++ 41 ∷ rest = ap (λ (bytes : List ℕ). 39 ∷ bytes) (sym (append_assoc lists (39 ∷ []) (41 ∷ rest))) in
    let at_whole : At text place (concat ++ 40 ∷ (base ++ 44 ∷ 32 ∷ 39 ∷ tail)) =
    at
    ∙ ap (λ (v : SlotValue). value_text v ++ rest) j.is
    ∙ append_assoc (opening ++ base ++ gap ++ lists) ending rest
    ∙ append_assoc (opening ++ base ++ gap) lists (ending ++ rest)
    ∙ append_assoc (opening ++ base) gap tail
    ∙ append_assoc opening base (gap ++ tail) in
    let p1 = place + 6 in
    let p2 = p1 + 1 in
    let p3 = p2 + length base in
    let p4 = p3 + 1 + 1 in
    let p5 = p4 + length quoted in
    let at_open : At text p1 (40 ∷ (base ++ 44 ∷ 32 ∷ 39 ∷ tail)) = behind text place concat _ at_whole in
    let at_base : At text p2 (base ++ 44 ∷ 32 ∷ 39 ∷ tail) = behind text p1 (40 ∷ []) _ at_open in
    let at_comma : At text p3 (44 ∷ 32 ∷ 39 ∷ tail) = behind text p2 base _ at_base in
    let at_gap : At text (p3 + 1) (32 ∷ 39 ∷ tail) = behind text p3 (44 ∷ []) _ at_comma in
    let at_list : At text p4 (quoted ++ 41 ∷ rest) = behind_blank text (p3 + 1) _ at_gap ∙ in_list in
    let at_close : At text p5 ((41 ∷ []) ++ rest) = behind text p4 quoted _ at_list in
    let plain = (and_parts (list_all is_plain_byte lists) (not (has_reading_mode lists)) (and_parts (nat_eq (slice_index_or lists 0 0) 44) (is_mode_list lists) j.are_lists).1).0 in
    let b = base_read base (44 ∷ 32 ∷ 39 ∷ tail) j.of_base (inr (inl refl)) in
    let t0 = token_of Word place concat in
    let t1 = token_of Symbol p1 (40 ∷ []) in
    let t2 = token_of b.kind p2 base in
    let t3 = token_of Symbol p3 (44 ∷ []) in
    let t4 = token_of Quoted p4 quoted in
    let t5 = token_of Symbol p5 (41 ∷ []) in
    let is0 : bytes_of text t0 ≡ concat = said text place Word concat _ at_whole in
    let is1 : bytes_of text t1 ≡ 40 ∷ [] = said text p1 Symbol (40 ∷ []) _ at_open in
    let is2 : bytes_of text t2 ≡ base = said text p2 b.kind base _ at_base in
    let is3 : bytes_of text t3 ≡ 44 ∷ [] = said text p3 Symbol (44 ∷ []) _ at_comma in
    let is4 : bytes_of text t4 ≡ quoted = said text p4 Quoted quoted _ at_list in
    let is5 : bytes_of text t5 ≡ 41 ∷ [] = said text p5 Symbol (41 ∷ []) rest at_close in
    let size : p5 + 1 ≡ place + length (value_text value) =
    omega (arith, ap (λ (v : SlotValue). length (value_text v)) j.is, length-append (opening ++ base ++ gap ++ lists) ending, length-append (opening ++ base ++ gap) lists, length-append (opening ++ base) gap, length-append opening base, length-append lists (39 ∷ [])) in
    record {
      tokens = t0 ∷ t1 ∷ t2 ∷ t3 ∷ t4 ∷ t5 ∷ [];
      scan =
          scanned text place Word concat _ at_whole (word_piece concat _ (refl, refl) (inr (inr (inl refl))))
          ∙ ap (λ (tokens : List Token). t0 ∷ tokens) (scanned text p1 Symbol (40 ∷ []) _ at_open (bracket_piece 40 _ (inl refl)))
          ∙ ap (λ (tokens : List Token). t0 ∷ t1 ∷ tokens) (scanned text p2 b.kind base _ at_base b.piece)
          ∙ ap (λ (tokens : List Token). t0 ∷ t1 ∷ t2 ∷ tokens) (scanned text p3 Symbol (44 ∷ []) _ at_comma (comma_piece _) ∙ ap (λ (tokens : List Token). t3 ∷ tokens) (past_blank text (p3 + 1) _ at_gap))
          ∙ ap (λ (tokens : List Token). t0 ∷ t1 ∷ t2 ∷ t3 ∷ tokens) (scanned text p4 Quoted quoted _ at_list (quoted_piece lists (41 ∷ rest) plain (inr (inr (inr refl)))))
          ∙ ap (λ (tokens : List Token). t0 ∷ t1 ∷ t2 ∷ t3 ∷ t4 ∷ tokens) (scanned text p5 Symbol (41 ∷ []) rest at_close (bracket_piece 41 rest (inr refl)) ∙ ap (λ n. t5 ∷ tokens_behind text n) size);
      gives =
          joined_gives text slot t0 t1 t2 t3 t4 t5 base lists j.takes
          (ap (λ word. same_text word (codes "CONCAT")) is0)
          (ap (λ bytes. bytes_eq bytes (40 ∷ [])) is1)
          (ap (word_by b.kind) is2 ∙ b.no_word)
          b.no_symbol
          (ap (base_of b.kind) is2 ∙ b.gives)
          (ap (λ bytes. bytes_eq bytes (41 ∷ [])) is3)
          (ap (λ bytes. bytes_eq bytes (44 ∷ [])) is3)
          (ap (list_of Quoted) is4 ∙ list_again lists)
          (ap (λ bytes. bytes_eq bytes (41 ∷ [])) is5)
          (no_front_by (nat_le 1 1 && is_symbol text t3 44) (is_quoted b.kind) (ends_with_comma (inside (bytes_of text t2))) (is_lone_comma text (t4 ∷ t5 ∷ []))
          (ap (λ bytes. is_quoted b.kind && ends_with_comma (inside bytes)) is2 ∙ b.no_front)
          (and_right (bytes_eq (inside (bytes_of text t4)) (44 ∷ [])) (is_symbol text t5 44) (ap (λ bytes. bytes_eq bytes (44 ∷ [])) is5)))
          j.of_base
          j.are_lists
          ∙ ap (λ (v : SlotValue). Some (record { slot = slot; value = v; adds = false })) (sym j.is);
      calm =
          calm_step text 0 t0 concat (t1 ∷ t2 ∷ t3 ∷ t4 ∷ t5 ∷ []) is0 refl
          (calm_step text 0 t1 (40 ∷ []) (t2 ∷ t3 ∷ t4 ∷ t5 ∷ []) is1 refl
          (calm_step text 1 t2 base (t3 ∷ t4 ∷ t5 ∷ []) is2 b.inner
          (ap (λ n. is_calm text n (t3 ∷ t4 ∷ t5 ∷ [])) b.level
          ∙ calm_step text 1 t3 (44 ∷ []) (t4 ∷ t5 ∷ []) is3 refl
          (calm_step text 1 t4 quoted (t5 ∷ []) is4 refl
          (calm_step text 1 t5 (41 ∷ []) [] is5 refl refl)))));
    }

value_read : (text : List ℕ) (place : ℕ) (slot : Slot) (value : SlotValue) (rest : List ℕ) → IsAssignable slot value → At text place (value_text value ++ rest) → Stops rest → IsValueRead text place slot value
value_read text place slot value rest (inl one) at stops = one_value text place slot value rest one at stops
value_read text place slot value rest (inr (inl minus)) at stops = negative text place slot value rest minus at stops
value_read text place slot value rest (inr (inr joined)) at stops = joined_read text place slot value rest joined at stops

-- the tokens of ` = value` behind a name, to its end
record IsGiven (text : List ℕ) (place : ℕ) (change : Change) : Type 0 where
  equals : Token
  values : List Token
  scan : tokens_behind text place ≡ equals ∷ values ++ tokens_behind text (place + (3 + length (value_text change.value)))
  gives : assigned text (Some change.slot) (equals ∷ values) ≡ Some change
  calm : is_calm text 0 (equals ∷ values) ≡ true

given : (text : List ℕ) (place : ℕ) (change : Change) (rest : List ℕ) → IsAssignable change.slot change.value × (change.adds ≡ false) → At text place (32 ∷ 61 ∷ 32 ∷ (value_text change.value ++ rest)) → Stops rest → IsGiven text place change
unfolding assigned
given text place change rest assignable at stops =
    let value = value_text change.value in
    let at_equals : At text (place + 1) (61 ∷ 32 ∷ (value ++ rest)) = behind_blank text place _ at in
    let behind_equals = place + 1 + 1 in
    let at_gap : At text behind_equals (32 ∷ (value ++ rest)) = behind text (place + 1) (61 ∷ []) _ at_equals in
    let at_value : At text (behind_equals + 1) (value ++ rest) = behind_blank text behind_equals _ at_gap in
    let read = value_read text (behind_equals + 1) change.slot change.value rest assignable.0 at_value stops in
    let equals = token_of Symbol (place + 1) (61 ∷ []) in
    let equals_is : bytes_of text equals ≡ 61 ∷ [] = said text (place + 1) Symbol (61 ∷ []) (32 ∷ (value ++ rest)) at_equals in
    let size : behind_equals + 1 + length value ≡ place + (3 + length value) = omega arith in
    record {
      equals = equals;
      values = read.tokens;
      scan =
          past_blank text place _ at
          ∙ scanned text (place + 1) Symbol (61 ∷ []) _ at_equals (equals_piece _)
          ∙ ap (λ (tokens : List Token). equals ∷ tokens) (past_blank text behind_equals _ at_gap ∙ read.scan ∙ ap (λ n. read.tokens ++ tokens_behind text n) size);
      gives = cond-true (is_symbol text equals 61) _ _ (ap (λ bytes. bytes_eq bytes (61 ∷ [])) equals_is) ∙ read.gives ∙ ap (λ (adds : Bool). Some (record { slot = change.slot; value = change.value; adds = adds })) (sym assignable.1);
      calm = calm_onto text equals read.tokens (ap (quiet_by Symbol) equals_is) read.calm;
    }

-- the tokens of `name = value`, to its end
pub record IsNamed (text : List ℕ) (place : ℕ) (change : Change) : Type 0 where
  pub first : Token
  pub next : Token
  pub others : List Token
  pub scan : tokens_behind text place ≡ first ∷ next ∷ others ++ tokens_behind text (place + length (assignment_text change))
  pub alone : named_change text (slot_by first.kind (bytes_of text first)) first (next ∷ others) ≡ Some change
  pub in_session : named_change text (slot_of_name text first) first (next ∷ others) ≡ Some change
  pub calm : is_calm text 0 (first ∷ next ∷ others) ≡ true
  pub no_session : is_session_word text first ≡ false
  pub no_server : names_server first.kind (bytes_of text first) ≡ false
  pub no_transaction : says text first (codes "TRANSACTION") ≡ false

-- where the name is a word
word_named : (text : List ℕ) (place : ℕ) (change : Change) (rest : List ℕ) → IsSpelt change.slot change.value → IsAssignable change.slot change.value × (change.adds ≡ false) → At text place (assignment_text change ++ rest) → Stops rest → IsNamed text place change
unfolding named_change
word_named text place change rest spelt assignable at stops =
    let name = spelt.name in
    let written = written_name change.slot change.value in
    let value = value_text change.value in
    let tail = 32 ∷ 61 ∷ 32 ∷ (value ++ rest) in
    let at_name : At text place (name ++ tail) =
    at ∙ append_assoc (written ++ codes " = ") value rest ∙ append_assoc written (codes " = ") (value ++ rest) ∙ ap (λ (n : List ℕ). n ++ tail) spelt.is in
    let g = given text (place + length name) change rest assignable (behind text place name tail at_name) stops in
    let token = token_of Word place name in
    let is : bytes_of text token ≡ name = said text place Word name tail at_name in
    let size : place + length name + (3 + length value) ≡ place + length (assignment_text change) =
    omega (arith, length-append (written ++ codes " = ") value, length-append written (codes " = "), ap (length {A = ℕ}) spelt.is) in
    let gives : assigned text (slot_named (bytes_of text token)) (g.equals ∷ g.values) ≡ Some change =
    ap (λ n. assigned text (slot_named n) (g.equals ∷ g.values)) is ∙ ap (λ slot. assigned text slot (g.equals ∷ g.values)) spelt.word.names ∙ g.gives in
    record {
      first = token;
      next = g.equals;
      others = g.values;
      scan =
          scanned text place Word name tail at_name (word_piece name tail spelt.word.word (inl refl))
          ∙ ap (λ (tokens : List Token). token ∷ tokens) (g.scan ∙ ap (λ n. g.equals ∷ g.values ++ tokens_behind text n) size);
      alone = gives;
      in_session = gives;
      calm = calm_onto text token (g.equals ∷ g.values) refl g.calm;
      no_session = ap (λ n. same_text n (codes "SESSION") || same_text n (codes "LOCAL")) is ∙ spelt.word.no_session;
      no_server = ap is_server_scope is ∙ spelt.word.no_server;
      no_transaction = ap (λ n. same_text n (codes "TRANSACTION")) is ∙ spelt.word.no_transaction;
    }

-- where two comments stand in its place
comments_named : (text : List ℕ) (place : ℕ) (change : Change) (rest : List ℕ) → AreComments change.slot change.value → IsAssignable change.slot change.value × (change.adds ≡ false) → At text place (assignment_text change ++ rest) → Stops rest → IsNamed text place change
unfolding named_change
comments_named text place change rest are assignable at stops =
    let written = written_name change.slot change.value in
    let value = value_text change.value in
    let tail = 32 ∷ 61 ∷ 32 ∷ (value ++ rest) in
    let p1 = place + length are.first in
    let p2 = p1 + 1 in
    let p3 = p2 + length are.second in
    let at_first : At text place (are.first ++ 32 ∷ (are.second ++ tail)) =
    at
    ∙ append_assoc (written ++ codes " = ") value rest
    ∙ append_assoc written (codes " = ") (value ++ rest)
    ∙ ap (λ (n : List ℕ). n ++ tail) are.spelt
    ∙ append_assoc are.first (32 ∷ are.second) tail in
    let at_gap : At text p1 (32 ∷ (are.second ++ tail)) = behind text place are.first _ at_first in
    let at_second : At text p2 (are.second ++ tail) = behind_blank text p1 _ at_gap in
    let g = given text p3 change rest assignable (behind text p2 are.second tail at_second) stops in
    let t1 = token_of Executed place are.first in
    let t2 = token_of Executed p2 are.second in
    let is1 : bytes_of text t1 ≡ are.first = said text place Executed are.first _ at_first in
    let is2 : bytes_of text t2 ≡ are.second = said text p2 Executed are.second tail at_second in
    let size : p3 + (3 + length value) ≡ place + length (assignment_text change) =
    omega (arith, length-append (written ++ codes " = ") value, length-append written (codes " = "), ap (length {A = ℕ}) are.spelt, length-append are.first (32 ∷ are.second)) in
    let gives : assigned text (slot_of_comments (bytes_of text t1) (bytes_of text t2)) (g.equals ∷ g.values) ≡ Some change =
    ap (λ n. assigned text (slot_of_comments n (bytes_of text t2)) (g.equals ∷ g.values)) is1
    ∙ ap (λ n. assigned text (slot_of_comments are.first n) (g.equals ∷ g.values)) is2
    ∙ ap (λ slot. assigned text slot (g.equals ∷ g.values)) are.names
    ∙ g.gives in
    record {
      first = t1;
      next = t2;
      others = g.equals ∷ g.values;
      scan =
          scanned text place Executed are.first _ at_first (are.is_first _)
          ∙ ap (λ (tokens : List Token). t1 ∷ tokens)
          (past_blank text p1 _ at_gap
          ∙ scanned text p2 Executed are.second tail at_second (are.is_second tail)
          ∙ ap (λ (tokens : List Token). t2 ∷ tokens) (g.scan ∙ ap (λ n. g.equals ∷ g.values ++ tokens_behind text n) size));
      alone = gives;
      in_session = gives;
      calm = calm_onto text t1 (t2 ∷ g.equals ∷ g.values) refl (calm_onto text t2 (g.equals ∷ g.values) refl g.calm);
      no_session = refl;
      no_server = refl;
      no_transaction = refl;
    }

pub named : (text : List ℕ) (place : ℕ) (change : Change) (rest : List ℕ) → is_names change.slot ≡ false → IsAssignable change.slot change.value × (change.adds ≡ false) → At text place (assignment_text change ++ rest) → Stops rest → IsNamed text place change
named text place change rest other assignable at stops =
    elim (spelling change.slot change.value other) [
      | inl spelt ↦ word_named text place change rest spelt assignable at stops
      | inr are ↦ comments_named text place change rest are assignable at stops
    ]

-- the first of these tokens names nothing of the server
abbrev pub IsUnscoped : (text : List ℕ) → List Token → Type 0
IsUnscoped text [] = ⊥
IsUnscoped text (token ∷ tokens) = names_server token.kind (bytes_of text token) ≡ false

-- the tokens of an assignment, to its end
pub record IsAssignmentRead (text : List ℕ) (place size : ℕ) (change : Change) (tokens : List Token) : Type 0 where
  pub scan : tokens_behind text place ≡ tokens ++ tokens_behind text (place + size)
  pub gives : assignment text tokens ≡ Some change
  pub calm : is_calm text 0 tokens ≡ true
  pub unscoped : IsUnscoped text tokens

-- tokens within an assignment that aren't the first set nothing of the server
inner_divides : (text : List ℕ) (depth : ℕ) (token : Token) → inner_by token.kind (bytes_of text token) depth ≡ true → divides text depth token ≡ false
inner_divides text depth token inner = not-true _ (and_parts (not (is_comment token.kind) && not (is_symbol text token 59)) (not (divides text depth token)) inner).1

calm : (text : List ℕ) (depth : ℕ) (tokens more : List Token) → is_calm text depth tokens ≡ true → sets_server text depth false (tokens ++ more) ≡ sets_server text 0 false more
calm text depth [] more is = ap (λ n. sets_server text n false more) (eqb-true depth 0 is)
calm text depth (token ∷ tokens) more is =
    let both = and_parts (inner_by token.kind (bytes_of text token) depth) _ is in
    ap (λ first. sets_server text (deeper text token depth) first (tokens ++ more)) (inner_divides text depth token both.0) ∙ calm text (deeper text token depth) tokens more both.1

-- nor do those behind a first one that doesn't
calm_first : (text : List ℕ) (tokens more : List Token) → IsUnscoped text tokens → is_calm text 0 tokens ≡ true → sets_server text 0 true (tokens ++ more) ≡ sets_server text 0 false more
calm_first text [] more unscoped is = absurd unscoped
calm_first text (token ∷ tokens) more unscoped is = ap (λ scope. (true && scope) || sets_server text (deeper text token 0) (divides text 0 token) (tokens ++ more)) unscoped ∙ calm text 0 (token ∷ tokens) more is

-- and the next comma is behind them
before_calm : (text : List ℕ) (depth : ℕ) (tokens more : List Token) → is_calm text depth tokens ≡ true → before_comma text depth (tokens ++ more) ≡ tokens ++ before_comma text 0 more
before_calm text depth [] more is = ap (λ n. before_comma text n more) (eqb-true depth 0 is)
before_calm text depth (token ∷ tokens) more is =
    let both = and_parts (inner_by token.kind (bytes_of text token) depth) _ is in
    cond-false (divides text depth token) _ _ (inner_divides text depth token both.0) ∙ ap (λ (rest : List Token). token ∷ rest) (before_calm text (deeper text token depth) tokens more both.1)

behind_calm : (text : List ℕ) (depth : ℕ) (tokens more : List Token) → is_calm text depth tokens ≡ true → behind_comma text depth (tokens ++ more) ≡ behind_comma text 0 more
behind_calm text depth [] more is = ap (λ n. behind_comma text n more) (eqb-true depth 0 is)
behind_calm text depth (token ∷ tokens) more is =
    let both = and_parts (inner_by token.kind (bytes_of text token) depth) _ is in
    cond-false (divides text depth token) _ _ (inner_divides text depth token both.0) ∙ behind_calm text (deeper text token depth) tokens more both.1

-- `name = value`
bare : (text : List ℕ) (place : ℕ) (change : Change) → (n : IsNamed text place change) → IsAssignmentRead text place (length (assignment_text change)) change (n.first ∷ n.next ∷ n.others)
unfolding assignment
bare text place change n = record {
  scan = n.scan;
  gives = cond-false (is_session_word text n.first) _ _ n.no_session ∙ n.alone;
  calm = n.calm;
  unscoped = n.no_server;
}

-- `SESSION name = value`
pub scoped : (text : List ℕ) (place : ℕ) (change : Change) (rest : List ℕ) → At text place (codes "SESSION " ++ (assignment_text change ++ rest)) → (n : IsNamed text (place + 7 + 1) change) → IsAssignmentRead text place (8 + length (assignment_text change)) change (token_of Word place (codes "SESSION") ∷ n.first ∷ n.next ∷ n.others)
unfolding assignment
scoped text place change rest at n =
    let session = token_of Word place (codes "SESSION") in
    let is : bytes_of text session ≡ codes "SESSION" = said text place Word (codes "SESSION") (32 ∷ (assignment_text change ++ rest)) at in
    let at_blank : At text (place + 7) (32 ∷ (assignment_text change ++ rest)) = behind text place (codes "SESSION") (32 ∷ (assignment_text change ++ rest)) at in
    let size : place + 7 + 1 + length (assignment_text change) ≡ place + (8 + length (assignment_text change)) = omega arith in
    record {
      scan =
          scanned text place Word (codes "SESSION") (32 ∷ (assignment_text change ++ rest)) at (word_piece (codes "SESSION") (32 ∷ (assignment_text change ++ rest)) (refl, refl) (inl refl))
          ∙ ap (λ (tokens : List Token). session ∷ tokens) (past_blank text (place + 7) _ at_blank ∙ n.scan ∙ ap (λ k. n.first ∷ n.next ∷ n.others ++ tokens_behind text k) size);
      gives = cond-true (is_session_word text session) _ _ (ap (λ word. same_text word (codes "SESSION") || same_text word (codes "LOCAL")) is) ∙ n.in_session;
      calm = calm_onto text session (n.first ∷ n.next ∷ n.others) refl n.calm;
      unscoped = ap is_server_scope is;
    }

-- a token that counts, and is no `;`
abbrev pub counts : (text : List ℕ) → Token → Bool
counts text token = not (is_comment token.kind) && not (is_symbol text token 59)

counts_calm : (text : List ℕ) (depth : ℕ) (tokens : List Token) → is_calm text depth tokens ≡ true → list_all (counts text) tokens ≡ true
counts_calm text depth [] is = refl
counts_calm text depth (token ∷ tokens) is =
    let both = and_parts (inner_by token.kind (bytes_of text token) depth) _ is in
    and_from (counts text token) _ (and_parts (counts text token) (not (divides text depth token)) both.0).0 (counts_calm text (deeper text token depth) tokens both.1)

-- the tokens of assignments with commas between them, to the end of the text
pub record IsListRead (text : List ℕ) (place : ℕ) (changes : List Change) (tokens : List Token) : Type 0 where
  pub scan : tokens_behind text place ≡ tokens
  pub gives : assignments text tokens ≡ Some changes
  pub counting : list_all (counts text) tokens ≡ true
  pub unscoped : sets_server text 0 true tokens ≡ false

-- each of these changes can be written as an assignment
abbrev pub AreAssignable : List Change → Type 0
AreAssignable [] = Unit {0}
AreAssignable (change ∷ changes) = ((is_names change.slot ≡ false) × (IsAssignable change.slot change.value × (change.adds ≡ false))) × AreAssignable changes

pub stops_before : (changes : List Change) → Stops (flat_map with_comma changes)
stops_before [] = tt
stops_before (change ∷ changes) = inr (inl refl)

-- the tokens of the assignments behind the first, each behind a comma
pub list_read : (text : List ℕ) (place size : ℕ) (change : Change) (tokens : List Token) (changes : List Change) → IsAssignmentRead text place size change tokens → AreAssignable changes → At text (place + size) (flat_map with_comma changes) → (more : List Token) × IsListRead text place (change ∷ changes) (tokens ++ more)
list_read text place size change tokens [] first assignable at = (
  [],
  record {
    scan = first.scan ∙ ap (λ (rest : List Token). tokens ++ rest) (at_end text (place + size) at);
    gives = last_assigned text (tokens ++ []) (change ∷ []) (ap (part_changes text) (before_calm text 0 tokens [] first.calm ∙ append-nil tokens) ∙ assigned_part text tokens change first.gives) (behind_calm text 0 tokens [] first.calm);
    counting = list_all-append (counts text) tokens [] ∙ and_from _ true (counts_calm text 0 tokens first.calm) refl;
    unscoped = calm_first text tokens [] first.unscoped first.calm;
  },
)
list_read text place size change tokens (next ∷ changes) first assignable at =
    let rest = flat_map with_comma changes in
    let there = assignment_text next ++ rest in
    let at_comma : At text (place + size) (44 ∷ 32 ∷ there) = at in
    let comma = token_of Symbol (place + size) (44 ∷ []) in
    let comma_is : bytes_of text comma ≡ 44 ∷ [] = said text (place + size) Symbol (44 ∷ []) (32 ∷ there) at_comma in
    let at_gap : At text (place + size + 1) (32 ∷ there) = behind text (place + size) (44 ∷ []) (32 ∷ there) at_comma in
    let start = place + size + 1 + 1 in
    let at_next : At text start there = behind_blank text (place + size + 1) there at_gap in
    let n = named text start next rest assignable.0.0 assignable.0.1 at_next (stops_before changes) in
    let following = list_read text start (length (assignment_text next)) next (n.first ∷ n.next ∷ n.others) changes (bare text start next n) assignable.1 (behind text start (assignment_text next) rest at_next) in
    let others = (n.first ∷ n.next ∷ n.others) ++ following.0 in
    let is_comma_here : divides text 0 comma ≡ true = ap (λ found. found && true) (ap (λ bytes. bytes_eq bytes (44 ∷ [])) comma_is) in
    let no_opening : is_symbol text comma 40 ≡ false = ap (λ bytes. bytes_eq bytes (40 ∷ [])) comma_is in
    let no_closing : is_symbol text comma 41 ≡ false = ap (λ bytes. bytes_eq bytes (41 ∷ [])) comma_is in
    let no_end : is_symbol text comma 59 ≡ false = ap (λ bytes. bytes_eq bytes (59 ∷ [])) comma_is in
    let depth : deeper text comma 0 ≡ 0 = cond-false (is_symbol text comma 40) _ _ no_opening ∙ cond-false (is_symbol text comma 41) _ _ no_closing in (
      comma ∷ others,
      record {
        scan = first.scan ∙ ap (λ (tail : List Token). tokens ++ tail)
            (scanned text (place + size) Symbol (44 ∷ []) (32 ∷ there) at_comma (comma_piece (32 ∷ there))
            ∙ ap (λ (tail : List Token). comma ∷ tail) (past_blank text (place + size + 1) there at_gap ∙ following.1.scan));
        gives =
            next_assigned text (tokens ++ comma ∷ others) others (change ∷ [])
            (ap (part_changes text) (before_calm text 0 tokens (comma ∷ others) first.calm ∙ ap (λ (tail : List Token). tokens ++ tail) (cond-true (divides text 0 comma) _ _ is_comma_here) ∙ append-nil tokens) ∙ assigned_part text tokens change first.gives)
            (behind_calm text 0 tokens (comma ∷ others) first.calm ∙ cond-true (divides text 0 comma) _ _ is_comma_here)
            ∙ ap (with_changes (Some (change ∷ []))) following.1.gives;
        counting = list_all-append (counts text) tokens (comma ∷ others) ∙ and_from _ _ (counts_calm text 0 tokens first.calm) (and_from (counts text comma) _ (and_from true _ refl (not_from_false _ no_end)) following.1.counting);
        unscoped =
            calm_first text tokens (comma ∷ others) first.unscoped first.calm
            ∙ ap (λ n. sets_server text n (divides text 0 comma) others) depth
            ∙ ap (λ first. sets_server text 0 first others) is_comma_here
            ∙ following.1.unscoped;
      },
    )
