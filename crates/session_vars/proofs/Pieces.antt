-- A text that is read piece by piece.
use Rattle.std.proofs.Common.{◌≡◌, ◌⊎◌, ◌<◌, ℕ, ◌+◌, ◌-◌, Bool, true, false, List, [], ◌∷◌, ◌++◌, length, get_or, take, drop, refl, sym, ◌∙◌, ap, inl, inr, arith, length-append}
use Rattle.std.proofs.lemmas.List.{append-nil, drop_at, drop-drop}
use Rattle.std.proofs.Math.Seq.{take-append_seam}
use Rattle.std.specs.List.{prefix_len, list_all}
use Rattle.sql_tokens.specs.Bytes.{is_white}
use Rattle.sql_tokens.specs.Tokens.{token_at, tokens_from, tokens_behind}
use Rattle.sql_tokens.specs.Words.{bytes_of}
use Rattle.sql_tokens.specs.declared.token.Token.{Token}
use Rattle.sql_tokens.specs.declared.token.TokenKind.{TokenKind}
use Rattle.sql_tokens.proofs.Runs.{run_all, run_ends}
use Rattle.sql_tokens.proofs.Scan.{token_first}

-- behind a piece the text ends, or a blank, a comma or a bracket stands
abbrev pub Stops : List ℕ → Type 0
Stops [] = Unit {0}
Stops (b ∷ rest) = (b ≡ 32) ⊎ ((b ≡ 44) ⊎ ((b ≡ 40) ⊎ (b ≡ 41)))

pub stops_at : (p : ℕ → Bool) (b : ℕ) (rest : List ℕ) → Stops (b ∷ rest) → p 32 ≡ false → p 44 ≡ false → p 40 ≡ false → p 41 ≡ false → p b ≡ false
stops_at p b rest (inl same) blank comma opening closing = ap p same ∙ blank
stops_at p b rest (inr (inl same)) blank comma opening closing = ap p same ∙ comma
stops_at p b rest (inr (inr (inl same))) blank comma opening closing = ap p same ∙ opening
stops_at p b rest (inr (inr (inr same))) blank comma opening closing = ap p same ∙ closing

-- a run ends there
pub run_stops : (p : ℕ → Bool) (xs rest : List ℕ) → list_all p xs ≡ true → p 32 ≡ false → p 44 ≡ false → p 40 ≡ false → p 41 ≡ false → Stops rest → prefix_len p (xs ++ rest) ≡ length xs
run_stops p xs [] all blank comma opening closing stops = ap (prefix_len p) (append-nil xs) ∙ run_all p xs all
run_stops p xs (b ∷ rest) all blank comma opening closing stops = run_ends p xs b rest all (stops_at p b rest stops blank comma opening closing)

-- these bytes stand at this place, to the end
abbrev pub At : (text : List ℕ) → (place : ℕ) → List ℕ → Type 0
At text place bytes = drop place text ≡ bytes

-- a piece that is one token, whatever stands before it
pub record IsPiece (kind : TokenKind) (part rest : List ℕ) : Type 0 where
  pub some : 0 < length part
  pub dark : is_white (get_or part 0 0) ≡ false
  pub rule : token_at (part ++ rest) ≡ (kind, length part)

abbrev pub token_of : TokenKind → (place : ℕ) → List ℕ → Token
token_of kind place part = record { kind = kind; start = place; end = place + length part }

-- what stands behind a piece
pub behind : (text : List ℕ) (place : ℕ) (part rest : List ℕ) → At text place (part ++ rest) → At text (place + length part) rest
behind text place part rest at = sym (drop-drop (length part) place text) ∙ ap (drop (length part)) at ∙ drop_at part rest (length part) refl

front_dark : (part rest : List ℕ) → 0 < length part → is_white (get_or part 0 0) ≡ false → is_white (get_or (part ++ rest) 0 0) ≡ false
front_dark [] rest some dark = absurd (omega arith)
front_dark (b ∷ part) rest some dark = dark

-- a piece is the next token
pub scanned : (text : List ℕ) (place : ℕ) (kind : TokenKind) (part rest : List ℕ) → At text place (part ++ rest) → IsPiece kind part rest → tokens_behind text place ≡ token_of kind place part ∷ tokens_behind text (place + length part)
scanned text place kind part rest at piece =
    let found : TokenKind × ℕ → List Token = λ t. record { kind = t.0; start = place; end = place + t.1 } ∷ tokens_from (place + t.1) 0 (drop t.1 (part ++ rest)) in
    let there : drop (length part) (part ++ rest) ≡ drop (place + length part) text = drop_at part rest (length part) refl ∙ sym (behind text place part rest at) in
    ap (tokens_from place 0) at
    ∙ token_first place (part ++ rest) (omega (arith, length-append part rest, piece.some)) (front_dark part rest piece.some piece.dark)
    ∙ ap found piece.rule
    ∙ ap (λ (bytes : List ℕ). token_of kind place part ∷ tokens_from (place + length part) 0 bytes) there

-- the token's bytes are the piece
pub said : (text : List ℕ) (place : ℕ) (kind : TokenKind) (part rest : List ℕ) → At text place (part ++ rest) → bytes_of text (token_of kind place part) ≡ part
said text place kind part rest at =
    let size : place + length part - place ≡ length part = omega arith in
    ap (λ n. take n (drop place text)) size ∙ ap (take (length part)) at ∙ take-append_seam part rest

-- a blank is passed
pub behind_blank : (text : List ℕ) (place : ℕ) (rest : List ℕ) → At text place (32 ∷ rest) → At text (place + 1) rest
behind_blank text place rest at = behind text place (32 ∷ []) rest at

pub past_blank : (text : List ℕ) (place : ℕ) (rest : List ℕ) → At text place (32 ∷ rest) → tokens_behind text place ≡ tokens_behind text (place + 1)
unfolding tokens_from
past_blank text place rest at = ap (tokens_from place 0) at ∙ ap (tokens_from (place + 1) 0) (sym (behind_blank text place rest at))

-- the end of the text
pub at_end : (text : List ℕ) (place : ℕ) → At text place [] → tokens_behind text place ≡ []
unfolding tokens_from
at_end text place at = ap (tokens_from place 0) at
