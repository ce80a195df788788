-- The modes of a list that are new to a value.
use Rattle.std.proofs.Common.{◌≡◌, ◌<◌, ◌≤◌, ℕ, suc, Bool, not, cond, nat_eq, nat_lt, List, [], ◌∷◌, ◌++◌, length, take, drop, fold, append_assoc, refl, sym, ◌∙◌, ap, inl, inr, arith}
use Rattle.std.specs.List.{flat_map, onto_first, prefix_len, slice_split}
use Rattle.std.proofs.lemmas.Bool.{cond-true, cond-false, cond_both, cases_Bool, cases_lt, lt-ltb, le-ltb}
use Rattle.std.proofs.Math.Seq.{drop-append_seam}
use Rattle.std.proofs.lemmas.List.{append-nil}
use Rattle.session_vars.specs.Modes.{names_mode, new_modes, with_named}

abbrev pub is_comma : ℕ → Bool
is_comma b = nat_eq b 44

abbrev pub no_comma : ℕ → Bool
no_comma b = not (nat_eq b 44)

-- the first mode of a list, and what stands behind its comma
abbrev cut : (size : ℕ) → (list : List ℕ) → List (List ℕ)
cut size list = take size list ∷ cond (nat_lt size (length list)) (slice_split is_comma (drop (suc size) list)) []

onto_cut : (b size : ℕ) (list : List ℕ) → onto_first b (cut size list) ≡ cut (suc size) (b ∷ list)
onto_cut b size list =
    let behind = slice_split is_comma (drop (suc size) list) in
    elim (cases_lt size (length list)) [
      | inl less ↦
          ap (λ (rest : List (List ℕ)). (b ∷ take size list) ∷ rest)
          (cond-true (nat_lt size (length list)) behind [] (lt-ltb size (length list) less)
          ∙ sym (cond-true (nat_lt (suc size) (length (b ∷ list))) behind [] (lt-ltb (suc size) (length (b ∷ list)) (omega arith))))
      | inr past ↦
          ap (λ (rest : List (List ℕ)). (b ∷ take size list) ∷ rest)
          (cond-false (nat_lt size (length list)) behind [] (le-ltb size (length list) past)
          ∙ sym (cond-false (nat_lt (suc size) (length (b ∷ list))) behind [] (le-ltb (suc size) (length (b ∷ list)) (omega arith))))
    ]

is_cut : (list : List ℕ) → slice_split is_comma list ≡ cut (prefix_len no_comma list) list
is_cut [] = refl
is_cut (b ∷ list) =
    elim (cases_Bool (is_comma b)) [
      | inl e ↦
          let none : prefix_len no_comma (b ∷ list) ≡ 0 = cond-false (no_comma b) _ _ (ap not e) in
          cond-true (is_comma b) _ _ e
          ∙ sym (ap (λ n. cut n (b ∷ list)) none ∙ ap (λ (rest : List (List ℕ)). [] ∷ rest) (cond-true (nat_lt 0 (length (b ∷ list))) _ _ (lt-ltb 0 (length (b ∷ list)) (omega arith))))
      | inr e ↦
          let more : prefix_len no_comma (b ∷ list) ≡ suc (prefix_len no_comma list) = cond-true (no_comma b) _ _ (ap not e) ∙ omega arith in
          cond-false (is_comma b) _ _ e
          ∙ ap (onto_first b) (is_cut list)
          ∙ onto_cut b (prefix_len no_comma list) list
          ∙ sym (ap (λ n. cut n (b ∷ list)) more)
    ]

-- what the first mode of a list makes of a value, and then those behind its comma
pub first_named : (value list : List ℕ) (size : ℕ) → size ≡ prefix_len no_comma list → size < length list → fold with_named (with_named value (take size list)) (slice_split is_comma (drop (suc size) list)) ≡ fold with_named value (slice_split is_comma list)
first_named value list size is less =
    sym (ap (fold with_named value) (is_cut list ∙ ap (λ n. cut n list) (sym is) ∙ ap (λ (rest : List (List ℕ)). take size list ∷ rest) (cond-true (nat_lt size (length list)) _ _ (lt-ltb size (length list) less))))

pub last_named : (value list : List ℕ) (size : ℕ) → size ≡ prefix_len no_comma list → length list ≤ size → fold with_named (with_named value (take size list)) [] ≡ fold with_named value (slice_split is_comma list)
last_named value list size is past =
    sym (ap (fold with_named value) (is_cut list ∙ ap (λ n. cut n list) (sym is) ∙ ap (λ (rest : List (List ℕ)). take size list ∷ rest) (cond-false (nat_lt size (length list)) _ _ (le-ltb size (length list) past))))

-- the modes that are new to a value, each of them once
abbrev pub fresh : (value : List ℕ) → List (List ℕ) → List (List ℕ)
fresh value [] = []
fresh value (mode ∷ modes) = cond (names_mode value mode) (fresh value modes) (mode ∷ fresh (value ++ 44 ∷ mode) modes)

abbrev pub behind_commas : List (List ℕ) → List ℕ
behind_commas modes = flat_map (λ mode. 44 ∷ mode) modes

named_fresh : (value : List ℕ) (modes : List (List ℕ)) → fold with_named value modes ≡ value ++ behind_commas (fresh value modes)
named_fresh value [] = sym (append-nil value)
named_fresh value (mode ∷ modes) =
    elim (cases_Bool (names_mode value mode)) [
      | inl e ↦
          ap (λ (named : List ℕ). fold with_named named modes) (cond-true (names_mode value mode) _ _ e)
          ∙ named_fresh value modes
          ∙ sym (ap (λ (new : List (List ℕ)). value ++ behind_commas new) (cond-true (names_mode value mode) _ _ e))
      | inr e ↦
          ap (λ (named : List ℕ). fold with_named named modes) (cond-false (names_mode value mode) _ _ e)
          ∙ named_fresh (value ++ 44 ∷ mode) modes
          ∙ append_assoc value (44 ∷ mode) (behind_commas (fresh (value ++ 44 ∷ mode) modes))
          ∙ sym (ap (λ (new : List (List ℕ)). value ++ behind_commas new) (cond-false (names_mode value mode) _ _ e))
    ]

pub new_are_fresh : (value list : List ℕ) → new_modes value list ≡ behind_commas (fresh value (slice_split is_comma list))
new_are_fresh value list =
    ap (drop (length value)) (named_fresh value (slice_split is_comma list)) ∙ drop-append_seam value (behind_commas (fresh value (slice_split is_comma list)))

-- a test that all modes pass is passed by those that are new
pub fresh_pass : (P : List (List ℕ) → Type 0) (value : List ℕ) (modes : List (List ℕ)) → P [] → ((mode : List ℕ) (more kept : List (List ℕ)) → P (mode ∷ more) → P more × (P kept → P (mode ∷ kept))) → P modes → P (fresh value modes)
fresh_pass P value [] none step all = none
fresh_pass P value (mode ∷ modes) none step all =
    cond_both (names_mode value mode) (fresh value modes) (mode ∷ fresh (value ++ 44 ∷ mode) modes) P
    (λ _. fresh_pass P value modes none step (step mode modes [] all).0)
    (λ _. (step mode modes (fresh (value ++ 44 ∷ mode) modes) all).1 (fresh_pass P (value ++ 44 ∷ mode) modes none step (step mode modes [] all).0))
