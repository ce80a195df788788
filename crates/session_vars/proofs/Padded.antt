-- Settings of which the last ones, which are the defaults, may be left out.
use Rattle.std.proofs.Common.{◌≡◌, ◌≤◌, ◌<◌, ℕ, zero, suc, ◌-◌, List, [], ◌∷◌, ◌++◌, length, replicate, slice_index_or, slice_set, refl, sym, ap, ◌∙◌, arith, append_assoc}
use Rattle.std.proofs.lemmas.List.{length-append, length-replicate, length-set, set-append_left}
use Rattle.session_vars.specs.Settings.{padded}
use Rattle.session_vars.specs.declared.change.SlotValue.{SlotValue}
use Rattle.session_vars.specs.declared.change.SlotValue.TheVariants.{Default}

none : (place : ℕ) → slice_index_or {A = SlotValue} [] place Default ≡ Default
none zero = refl
none (suc place) = refl

-- behind the last value is the default
pub beyond : (values : List SlotValue) (place : ℕ) (otherwise : SlotValue) → length values ≤ place → slice_index_or values place otherwise ≡ otherwise
beyond [] zero otherwise behind = refl
beyond [] (suc place) otherwise behind = refl
beyond (v ∷ values) zero otherwise behind = absurd (omega arith)
beyond (v ∷ values) (suc place) otherwise behind = beyond values place otherwise (omega arith)

at_padding : (values : List SlotValue) (n place : ℕ) → slice_index_or (values ++ replicate n Default) place Default ≡ slice_index_or values place Default
at_padding [] zero place = refl
at_padding [] (suc n) zero = refl
at_padding [] (suc n) (suc place) = at_padding [] n place ∙ none place
at_padding (v ∷ values) n zero = refl
at_padding (v ∷ values) n (suc place) = at_padding values n place

pub padded_value : (values : List SlotValue) (place : ℕ) (otherwise : SlotValue) → otherwise ≡ Default
    → slice_index_or (padded values) place Default ≡ slice_index_or values place otherwise
padded_value values place otherwise is =
    at_padding values (67 - length values) place ∙ ap (λ (d : SlotValue). slice_index_or values place d) (sym is)

pub padded_length : (values : List SlotValue) → length values ≤ 67 → length (padded values) ≡ 67
padded_length values few =
    omega (arith, length-append values (replicate (67 - length values) Default), length-replicate (67 - length values) Default)

pub padded_more : (values : List SlotValue) → length values < 67 → padded (values ++ Default ∷ []) ≡ padded values
padded_more values few =
    let more : length (values ++ Default ∷ []) ≡ suc (length values) = omega (arith, length-append values (Default ∷ [])) in
    let left : 67 - length values ≡ suc (67 - suc (length values)) = omega arith in
    ap (λ n. (values ++ Default ∷ []) ++ replicate (67 - n) Default) more
    ∙ append_assoc values (Default ∷ []) (replicate (67 - suc (length values)) Default)
    ∙ ap (λ n. values ++ replicate n Default) (sym left)

pub padded_set : (values : List SlotValue) (place : ℕ) (value : SlotValue) → place < length values
    → padded (slice_set values place value) ≡ slice_set (padded values) place value
padded_set values place value inside =
    ap (λ n. slice_set values place value ++ replicate (67 - n) Default) (length-set values place value)
    ∙ sym (set-append_left values (replicate (67 - length values) Default) place value inside)
