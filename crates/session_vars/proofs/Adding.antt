-- Expressions that are read.
use Rattle.std.proofs.Common.{◌≡◌, ◌≤◌, ℕ, Bool, Result, IfOk, if◌then◌else◌, ◌+◌, ◌-◌, true, false, nat_eq, List, [], ◌∷◌, ◌++◌, Option, Some, None, length, get_or, slice_range, drop, option_map, refl, sym, ◌∙◌, ap, arith, append_assoc}
use Rattle.std.proofs.lemmas.Bool.{cond-true, cond-false}
use Rattle.std.proofs.lemmas.Result.{IfOk-weaker}
use Rattle.std.proofs.lemmas.List.{take_all, length-drop}
use Rattle.sql_tokens.specs.Words.{bytes_of, inside, is_symbol}
use Rattle.sql_tokens.specs.declared.token.Token.{Token}
use Rattle.session_vars.specs.Assignments.{written}
use Rattle.session_vars.specs.Modes.{base_of, is_front, is_opening, joined, joined_at, joined_with, list_of, lists_behind, lists_joined, moved_behind}
use Rattle.session_vars.specs.declared.slot.Slot.{Slot}

pub joined_of : (text : List ℕ) (slot : Slot) (tokens : List Token) → 3 ≤ length tokens → written text slot tokens ≡ joined text slot tokens
unfolding written
joined_of text slot [] long = absurd (omega arith)
joined_of text slot (a ∷ []) long = absurd (omega arith)
joined_of text slot (a ∷ b ∷ []) long = absurd (omega arith)
joined_of text slot (a ∷ b ∷ c ∷ tokens) long = refl

-- what is left behind some of a list
left_is : (n : ℕ) (tokens : List Token) → slice_range tokens n (length tokens) ≡ drop n tokens
left_is n tokens = take_all (length tokens - n) (drop n tokens) (omega (arith, length-drop n tokens))

-- behind a token
abbrev pub after_of : List Token → List Token
after_of tokens = slice_range tokens 1 (length tokens)

-- behind `CONCAT (`
pub opening_step : (none : Token) (text : List ℕ) (depth : ℕ) (front : List ℕ) (tokens : List Token) → 1 ≤ length tokens → 1 ≤ length (after_of tokens) → is_opening text (get_or tokens 0 none) (get_or (after_of tokens) 0 none) ≡ true → joined_at text (depth + 1) front (after_of (after_of tokens)) ≡ joined_at text depth front tokens
unfolding joined_at
opening_step none text depth front [] long longer is = absurd (omega arith)
opening_step none text depth front (a ∷ []) long longer is = absurd (omega arith)
opening_step none text depth front (a ∷ b ∷ tokens) long longer is =
    let after : after_of (a ∷ b ∷ tokens) ≡ b ∷ tokens = left_is 1 (a ∷ b ∷ tokens) in
    ap (λ (ts : List Token). joined_at text (depth + 1) front (after_of ts)) after
    ∙ ap (joined_at text (depth + 1) front) (left_is 1 (b ∷ tokens))
    ∙ sym (cond-true (is_opening text a b) _ _ (sym (ap (λ (ts : List Token). is_opening text a (get_or ts 0 none)) after) ∙ is))

-- behind a text in front of the mode
pub front_step : (none : Token) (text : List ℕ) (depth : ℕ) (front : List ℕ) (tokens : List Token) → 1 ≤ length tokens → 1 ≤ length (after_of tokens) → is_opening text (get_or tokens 0 none) (get_or (after_of tokens) 0 none) ≡ false → is_front text depth (get_or tokens 0 none) (get_or (after_of tokens) 0 none) (after_of (after_of tokens)) ≡ true → joined_at text depth (front ++ inside (bytes_of text (get_or tokens 0 none))) (after_of (after_of tokens)) ≡ joined_at text depth front tokens
unfolding joined_at
front_step none text depth front [] long longer other is = absurd (omega arith)
front_step none text depth front (a ∷ []) long longer other is = absurd (omega arith)
front_step none text depth front (a ∷ b ∷ tokens) long longer other is =
    let after : after_of (a ∷ b ∷ tokens) ≡ b ∷ tokens = left_is 1 (a ∷ b ∷ tokens) in
    let grown = front ++ inside (bytes_of text a) in
    let both : after_of (after_of (a ∷ b ∷ tokens)) ≡ tokens = ap after_of after ∙ left_is 1 (b ∷ tokens) in
    let there : is_front text depth a b tokens ≡ true =
    sym (ap (λ (ts : List Token). is_front text depth a (get_or ts 0 none) (after_of ts)) after ∙ ap (is_front text depth a b) (left_is 1 (b ∷ tokens))) ∙ is in
    ap (joined_at text depth grown) both
    ∙ sym (cond-false (is_opening text a b) _ _ (sym (ap (λ (ts : List Token). is_opening text a (get_or ts 0 none)) after) ∙ other)
    ∙ cond-true (is_front text depth a b tokens) _ _ there)

-- at the mode
pub base_step : (none : Token) (text : List ℕ) (depth : ℕ) (front kept : List ℕ) (tokens : List Token) → kept ≡ front → 1 ≤ length tokens → 1 ≤ length (after_of tokens) → is_opening text (get_or tokens 0 none) (get_or (after_of tokens) 0 none) ≡ false → is_front text depth (get_or tokens 0 none) (get_or (after_of tokens) 0 none) (after_of (after_of tokens)) ≡ false → joined_with (base_of (get_or tokens 0 none).kind (bytes_of text (get_or tokens 0 none))) (option_map (λ lists. lists ++ moved_behind kept) (lists_behind text depth (after_of tokens))) ≡ joined_at text depth front tokens
unfolding joined_at
base_step none text depth front kept [] same long longer other is = absurd (omega arith)
base_step none text depth front kept (a ∷ []) same long longer other is = absurd (omega arith)
base_step none text depth front kept (a ∷ b ∷ tokens) same long longer other is =
    let after : after_of (a ∷ b ∷ tokens) ≡ b ∷ tokens = left_is 1 (a ∷ b ∷ tokens) in
    let there : is_front text depth a b tokens ≡ false =
    sym (ap (λ (ts : List Token). is_front text depth a (get_or ts 0 none) (after_of ts)) after ∙ ap (is_front text depth a b) (left_is 1 (b ∷ tokens))) ∙ is in
    ap (λ (f : List ℕ). joined_with (base_of a.kind (bytes_of text a)) (option_map (λ lists. lists ++ moved_behind f) (lists_behind text depth (after_of (a ∷ b ∷ tokens))))) same
    ∙ ap (λ (ts : List Token). joined_with (base_of a.kind (bytes_of text a)) (option_map (λ lists. lists ++ moved_behind front) (lists_behind text depth ts))) after
    ∙ sym (cond-false (is_opening text a b) _ _ (sym (ap (λ (ts : List Token). is_opening text a (get_or ts 0 none)) after) ∙ other)
    ∙ cond-false (is_front text depth a b tokens) _ _ there)

-- behind a bracket that closes
pub closed_lists : (none : Token) (text : List ℕ) (depth : ℕ) (tokens : List Token) → 1 ≤ length tokens → nat_eq depth 0 ≡ false → is_symbol text (get_or tokens 0 none) 41 ≡ true → lists_behind text (depth - 1) (slice_range tokens 1 (length tokens)) ≡ lists_behind text depth tokens
unfolding lists_behind
closed_lists none text depth [] long is_open is_close = absurd (omega arith)
closed_lists none text depth (a ∷ []) long is_open is_close = ap (lists_behind text (depth - 1)) (left_is 1 (a ∷ [])) ∙ sym (cond-false (nat_eq depth 0) _ _ is_open ∙ cond-true (is_symbol text a 41) _ _ is_close)
closed_lists none text depth (a ∷ b ∷ tokens) long is_open is_close = ap (lists_behind text (depth - 1)) (left_is 1 (a ∷ b ∷ tokens)) ∙ sym (cond-false (nat_eq depth 0) _ _ is_open ∙ cond-true (is_symbol text a 41) _ _ is_close)

-- a list, and those behind it
next_lists : (none : Token) (text : List ℕ) (depth : ℕ) (tokens : List Token) → 2 ≤ length tokens → nat_eq depth 0 ≡ false → is_symbol text (get_or tokens 0 none) 41 ≡ false → is_symbol text (get_or tokens 0 none) 44 ≡ true → lists_behind text depth tokens ≡ lists_joined (list_of (get_or tokens 1 none).kind (bytes_of text (get_or tokens 1 none))) (lists_behind text depth (drop 2 tokens))
unfolding lists_behind
next_lists none text depth [] long is_open no_close is_comma = absurd (omega arith)
next_lists none text depth (a ∷ []) long is_open no_close is_comma = absurd (omega arith)
next_lists none text depth (a ∷ b ∷ tokens) long is_open no_close is_comma = cond-false (nat_eq depth 0) _ _ is_open ∙ cond-false (is_symbol text a 41) _ _ no_close ∙ cond-true (is_symbol text a 44) _ _ is_comma

onto_lists : (before list : List ℕ) (rest : Option (List ℕ)) → option_map (λ more. before ++ more) (lists_joined (Some list) rest) ≡ option_map (λ more. (before ++ list) ++ more) rest
onto_lists before list None = refl
onto_lists before list (Some rest) = ap (λ (all : List ℕ). Some all) (sym (append_assoc before list rest))

pub one_more_list : (none : Token) (text : List ℕ) (depth : ℕ) (tokens : List Token) (before list : List ℕ) → 2 ≤ length tokens → nat_eq depth 0 ≡ false → is_symbol text (get_or tokens 0 none) 41 ≡ false → is_symbol text (get_or tokens 0 none) 44 ≡ true → list_of (get_or tokens 1 none).kind (bytes_of text (get_or tokens 1 none)) ≡ Some list → option_map (λ more. (before ++ list) ++ more) (lists_behind text depth (slice_range tokens 2 (length tokens))) ≡ option_map (λ more. before ++ more) (lists_behind text depth tokens)
one_more_list none text depth tokens before list long is_open no_close is_comma is =
    let rest = lists_behind text depth (drop 2 tokens) in
    ap (λ (left : List Token). option_map (λ more. (before ++ list) ++ more) (lists_behind text depth left)) (left_is 2 tokens)
    ∙ sym (ap (option_map (λ more. before ++ more)) (next_lists none text depth tokens long is_open no_close is_comma ∙ ap (λ (first : Option (List ℕ)). lists_joined first rest) is) ∙ onto_lists before list rest)

-- an answer of the call behind
pub passed_on : {E : Type 0} (read : Result Bool E) (before after : Option (List ℕ)) (all : List ℕ) → before ≡ after → IfOk read (λ is. before ≡ (if is then Some all else None)) → IfOk read (λ is. after ≡ (if is then Some all else None))
passed_on read before after all same is = IfOk-weaker read (λ is. before ≡ (if is then Some all else None)) (λ is. after ≡ (if is then Some all else None)) (λ value e. sym same ∙ e) is

-- texts in front of the mode, behind those that stand behind it
pub front_behind : (found : Option (List ℕ)) (lists moved : List ℕ) (all : Bool) → option_map (λ more. [] ++ more) found ≡ (if all then Some lists else None) → option_map (λ more. more ++ moved) found ≡ (if all then Some (lists ++ moved) else None)
front_behind None lists moved true is = absurd (cc)
front_behind None lists moved false is = refl
front_behind (Some more) lists moved true is = let same : more ≡ lists = cc in ap (λ (first : List ℕ). Some (first ++ moved)) same
front_behind (Some more) lists moved false is = absurd (cc)
