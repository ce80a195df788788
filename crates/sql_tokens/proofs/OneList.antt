-- A text has one list of tokens.
use Rattle.std.proofs.Common.{◌≡◌, ◌<◌, ℕ, ◌+◌, ◌-◌, List, [], ◌∷◌, length, get_or, drop, refl, sym, subst, ◌∙◌, ap, inl, inr, arith, length-drop}
use Rattle.std.specs.List.{prefix_len, AllByRecursion}
use Rattle.std.proofs.lemmas.Bool.{cases_lt}
use Rattle.std.proofs.lemmas.List.{get_or-drop}
use Rattle.std.proofs.lemmas.List.Sums.{prefix_len_stops}
use Rattle.sql_tokens.specs.Bytes.{is_white}
use Rattle.sql_tokens.specs.Spans.{IsTokenBehind, AreTokens, IsSpan}
use Rattle.sql_tokens.specs.Tokens.{token_at, tokens_behind}
use Rattle.sql_tokens.specs.declared.token.Token.{Token}
use Rattle.sql_tokens.proofs.Runs.{run_is, run_all, all_in_run, all_of_run}
use Rattle.sql_tokens.proofs.Sizes.{token_at-size}
use Rattle.sql_tokens.proofs.Scan.{next_start, token_from, token_behind, none_left, next_left}

-- a token behind a place is the one that the scan finds
behind_is : (text : List ℕ) (place : ℕ) (token : Token) → IsTokenBehind text place token → (next_start text place ≡ token.start) × (token_behind text place ≡ token)
behind_is text place token is =
    let bytes = drop place text in
    let gap = token.start - place in
    let there : get_or bytes gap 0 ≡ get_or text token.start 0 = get_or-drop place text gap 0 ∙ ap (λ n. get_or text n 0) (omega (arith, is.from)) in
    let run : prefix_len is_white bytes ≡ gap = run_is is_white bytes gap (omega (arith, is.from, is.some, is.to, length-drop place text)) is.white (ap is_white there ∙ is.dark) in
    let start : next_start text place ≡ token.start = ap (λ n. place + n) run ∙ omega (arith, is.from) in
    let end : token.start + (token.end - token.start) ≡ token.end = omega (arith, is.some) in
    (start, ap (λ n. token_from n (token_at (drop n text))) start ∙ ap (token_from token.start) is.rule ∙ ap (λ (n : ℕ). record { kind = token.kind; start = token.start; end = n }) end)

-- at most one list
pub only_tokens : (text : List ℕ) (place : ℕ) (tokens : List Token) → AreTokens text place tokens → tokens ≡ tokens_behind text place
only_tokens text place [] are =
    let run = run_all is_white (drop place text) are in
    sym (none_left text place (omega (arith, length-drop place text, length-drop (next_start text place) text)))
only_tokens text place (token ∷ tokens) are =
    let is = behind_is text place token are.0 in
    let some : 0 < length (drop (next_start text place) text) = omega (arith, is.0, are.0.some, are.0.to, length-drop (next_start text place) text) in
    let one : Token → List Token = λ t. t ∷ tokens_behind text t.end in
    ap (λ (rest : List Token). token ∷ rest) (only_tokens text token.end tokens are.1) ∙ ap one (sym is.1) ∙ sym (next_left text place some).0

-- the token that the scan finds is one behind the place
is_behind : (text : List ℕ) (place : ℕ) → 0 < length (drop (next_start text place) text) → IsTokenBehind text place (token_behind text place)
is_behind text place some =
    let bytes = drop place text in
    let run = prefix_len is_white bytes in
    let start = next_start text place in
    let found = token_at (drop start text) in
    let size = token_at-size (drop start text) some in
    let before : run < length bytes = omega (arith, length-drop start text, length-drop place text) in
    record {
      from = omega arith;
      some = omega (arith, size.0);
      to = (next_left text place some).1;
      white = all_in_run is_white bytes (start - place) (omega arith);
      dark = ap is_white (sym (get_or-drop place text run 0)) ∙ prefix_len_stops is_white bytes 0 before;
      rule = ap (λ (n : ℕ). (found.0, n)) (omega arith);
    }

-- and that one
are_found : (text : List ℕ) (place : ℕ) (tokens : List Token) → tokens ≡ tokens_behind text place → AreTokens text place tokens
are_found text place [] is =
    elim (cases_lt (prefix_len is_white (drop place text)) (length (drop place text))) [
      | inl before ↦
          let next = next_left text place (omega (arith, length-drop place text, length-drop (next_start text place) text)) in
          let not_empty = is ∙ next.0 in absurd (cc)
      | inr all ↦ all_of_run is_white (drop place text) all
    ]
are_found text place (token ∷ tokens) is =
    elim (cases_lt (prefix_len is_white (drop place text)) (length (drop place text))) [
      | inl before ↦
          let some : 0 < length (drop (next_start text place) text) = omega (arith, length-drop place text, length-drop (next_start text place) text) in
          let found = token_behind text place in
          let same : token ∷ tokens ≡ found ∷ tokens_behind text found.end = is ∙ (next_left text place some).0 in
          let first : found ≡ token = cc in
          let rest : tokens ≡ tokens_behind text found.end = cc in
          (subst (IsTokenBehind text place) first (is_behind text place some), are_found text token.end tokens (rest ∙ ap (λ (t : Token). tokens_behind text t.end) first))
      | inr all ↦
          let empty = none_left text place (omega (arith, length-drop place text, length-drop (next_start text place) text)) in
          let not_empty : token ∷ tokens ≡ [] = is ∙ empty in absurd (cc)
    ]

pub are_tokens : (text : List ℕ) (place : ℕ) → AreTokens text place (tokens_behind text place)
are_tokens text place = are_found text place (tokens_behind text place) refl

pub are_spans : (text : List ℕ) (place : ℕ) (tokens : List Token) → AreTokens text place tokens → AllByRecursion (IsSpan text) tokens
are_spans text place [] are = tt
are_spans text place (token ∷ tokens) are = ((are.0.some, are.0.to), are_spans text token.end tokens are.1)
