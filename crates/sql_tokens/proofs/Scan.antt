-- The tokens of a text, one after the other.
use Rattle.std.proofs.Common.{◌≡◌, ◌≤◌, ◌<◌, ℕ, zero, suc, ◌+◌, ◌-◌, false, List, [], ◌∷◌, length, get_or, drop, Some, None, refl, inl, inr, sym, subst, ◌∙◌, ap, arith, length-drop, add-zero}
use Rattle.std.specs.List.{prefix_len}
use Rattle.std.proofs.lemmas.Bool.{cond-true, cond-false, cases_Bool}
use Rattle.std.proofs.lemmas.List.{drop-drop, get_or-drop, drop_all}
use Rattle.std.proofs.lemmas.List.Sums.{prefix_len-le-length, prefix_len_stops}
use Rattle.sql_tokens.specs.Bytes.{is_white}
use Rattle.sql_tokens.specs.Tokens.{token_at, tokens_from, tokens_behind, IsNextToken}
use Rattle.sql_tokens.specs.declared.token.Token.{Token}
use Rattle.sql_tokens.specs.declared.token.TokenKind.{TokenKind}
use Rattle.sql_tokens.proofs.Sizes.{token_at-size}

-- the bytes that are left of a token are passed
pub past_left : (place left : ℕ) (bytes : List ℕ) → left ≤ length bytes → tokens_from place left bytes ≡ tokens_from (place + left) 0 (drop left bytes)
unfolding tokens_from
past_left place zero bytes h = ap (λ n. tokens_from n 0 bytes) (sym (add-zero place))
past_left place (suc left) [] h = absurd (omega arith)
past_left place (suc left) (b ∷ bytes) h = past_left (place + 1) left bytes (omega arith) ∙ ap (λ n. tokens_from n 0 (drop left bytes)) (omega arith)

-- white space is passed
pub past_white : (place : ℕ) (bytes : List ℕ) → tokens_from place 0 bytes ≡ tokens_from (place + prefix_len is_white bytes) 0 (drop (prefix_len is_white bytes) bytes)
unfolding tokens_from
past_white place [] = refl
past_white place (b ∷ bytes) =
    let run = prefix_len is_white bytes in
    let there = λ (n : ℕ). tokens_from (place + n) 0 (drop n (b ∷ bytes)) in
    elim (cases_Bool (is_white b)) [
      | inl e ↦
          let one_more : suc run ≡ prefix_len is_white (b ∷ bytes) = sym (cond-true (is_white b) (1 + run) 0 e ∙ omega arith) in
          cond-true (is_white b) _ _ e ∙ past_white (place + 1) bytes ∙ ap (λ n. tokens_from n 0 (drop run bytes)) (omega arith) ∙ ap there one_more
      | inr e ↦
          let none : 0 ≡ prefix_len is_white (b ∷ bytes) = sym (cond-false (is_white b) (1 + run) 0 e) in
          ap (λ n. tokens_from n 0 (b ∷ bytes)) (sym (add-zero place)) ∙ ap there none
    ]

-- a token, and those behind it
pub token_first : (place : ℕ) (bytes : List ℕ) → 0 < length bytes → is_white (get_or bytes 0 0) ≡ false → tokens_from place 0 bytes ≡ record { kind = (token_at bytes).0; start = place; end = place + (token_at bytes).1 } ∷ tokens_from (place + (token_at bytes).1) 0 (drop (token_at bytes).1 bytes)
unfolding tokens_from
token_first place [] some dark = absurd (omega arith)
token_first place (b ∷ bytes) some dark =
    let size = (token_at (b ∷ bytes)).1 in
    let is_size = token_at-size (b ∷ bytes) some in
    let inside : size - 1 ≤ length bytes = omega arith in
    let there = λ (n : ℕ). tokens_from (place + n) 0 (drop n (b ∷ bytes)) in
    let one_more : suc (size - 1) ≡ size = omega arith in
    let first : Token = record { kind = (token_at (b ∷ bytes)).0; start = place; end = place + size } in
    cond-false (is_white b) _ _ dark ∙ ap (λ (rest : List Token). first ∷ rest)
    (past_left (place + 1) (size - 1) bytes inside ∙ ap (λ n. tokens_from n 0 (drop (size - 1) bytes)) (omega arith) ∙ ap there one_more)

-- where white space ends, a token begins
dark_behind : (bytes : List ℕ) → prefix_len is_white bytes < length bytes → is_white (get_or (drop (prefix_len is_white bytes) bytes) 0 0) ≡ false
dark_behind bytes h = ap is_white (get_or-drop (prefix_len is_white bytes) bytes 0 0 ∙ ap (λ n. get_or bytes n 0) (add-zero (prefix_len is_white bytes))) ∙ prefix_len_stops is_white bytes 0 h

-- where the white space behind a place ends
abbrev pub next_start : List ℕ → ℕ → ℕ
next_start text place = place + prefix_len is_white (drop place text)

pub start_within : (text : List ℕ) (place : ℕ) → place ≤ length text → next_start text place ≤ length text
start_within text place h = omega (arith, prefix_len-le-length is_white (drop place text), length-drop place text)

pub end_within : (text : List ℕ) (place : ℕ) → 0 < length (drop place text) → place + (token_at (drop place text)).1 ≤ length text
end_within text place some = let size = token_at-size (drop place text) some in omega (arith, length-drop place text)

behind_white : (text : List ℕ) (place : ℕ) → tokens_behind text place ≡ tokens_behind text (next_start text place)
behind_white text place = let run = prefix_len is_white (drop place text) in past_white place (drop place text) ∙ ap (tokens_from (place + run) 0) (drop-drop run place text)

none : (place : ℕ) (bytes : List ℕ) → bytes ≡ [] → tokens_from place 0 bytes ≡ []
unfolding tokens_from
none place bytes h = ap (tokens_from place 0) h

pub none_left : (text : List ℕ) (place : ℕ) → length (drop (next_start text place) text) ≡ 0 → IsNextToken text place None
none_left text place h = let start = next_start text place in behind_white text place ∙ none start (drop start text) (drop_all start text (omega (arith, length-drop start text)))

-- a token that begins at a place, by its kind and how many bytes it takes
abbrev pub token_from : ℕ → TokenKind × ℕ → Token
token_from start token = record { kind = token.0; start = start; end = start + token.1 }

-- the token behind the white space at a place
abbrev pub token_behind : List ℕ → ℕ → Token
token_behind text place = token_from (next_start text place) (token_at (drop (next_start text place) text))

pub next_left : (text : List ℕ) (place : ℕ) → 0 < length (drop (next_start text place) text) → IsNextToken text place (Some (token_behind text place))
next_left text place some =
    let start = next_start text place in
    let rest = drop start text in
    let run = prefix_len is_white (drop place text) in
    let size = (token_at rest).1 in
    let is : rest ≡ drop run (drop place text) = sym (drop-drop run place text) in
    let before : run < length (drop place text) = omega (arith, length-drop start text, length-drop place text) in
    let first = token_behind text place in (
      behind_white text place ∙ token_first start rest some (ap (λ (xs : List ℕ). is_white (get_or xs 0 0)) is ∙ dark_behind (drop place text) before)
          ∙ ap (λ (tokens : List Token). first ∷ tokens) (ap (tokens_from (start + size) 0) (drop-drop size start text)),
      end_within text start some,
    )

-- the same of a run, a rest and a token that are equal to these
pub next_is : (text : List ℕ) (place run : ℕ) (rest : List ℕ) (token : TokenKind × ℕ) → run ≡ prefix_len is_white (drop place text) → rest ≡ drop (place + run) text → token ≡ token_at rest → 0 < length rest → IsNextToken text place (Some (token_from (place + run) token))
next_is text place run rest token is_run is_rest is_token some =
    let start : place + run ≡ next_start text place = ap (λ n. place + n) is_run in
    let same_rest : rest ≡ drop (next_start text place) text = is_rest ∙ ap (λ n. drop n text) start in
    let same : token_behind text place ≡ token_from (place + run) token = sym (ap (λ n. token_from n token) start ∙ ap (token_from (next_start text place)) (is_token ∙ ap token_at same_rest)) in
    let P : Token → Type 0 = λ t. IsNextToken text place (Some t) in
    subst P same (next_left text place (omega (arith, ap (length {A = ℕ}) same_rest)))
