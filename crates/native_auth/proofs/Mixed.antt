-- Mixing two lists byte by byte, from the front on.
use Rattle.std.proofs.Common.{◌≡◌, ◌<◌, ◌≤◌, ℕ, ◌+◌, List, [], ◌∷◌, ◌++◌, length, get_or, take, drop, set, append_assoc, arith}
use Rattle.std.specs.Prelude.{bit_xor}
use Rattle.std.proofs.lemmas.List.{drop_more, take_more_set, drop-set-lt, take_all, drop_all, append-nil}
use Rattle.native_auth.specs.Native.{xor_bytes}

-- what is mixed up to a place, and the rest as it will be
abbrev pub mixed_to : (i : ℕ) → (mixed others : List ℕ) → List ℕ
mixed_to i mixed others = take i mixed ++ xor_bytes (drop i mixed) (drop i others)

pub mixed_to-set : (i : ℕ) (mixed others : List ℕ) → i < length mixed → i < length others → mixed_to (i + 1) (set mixed i (bit_xor (get_or mixed i 0) (get_or others i 0))) others ≡ mixed_to i mixed others
mixed_to-set i mixed others within also =
    let less : i < i + 1 = omega arith in
    rw (take_more_set mixed i (bit_xor (get_or mixed i 0) (get_or others i 0)) within, drop-set-lt (i + 1) mixed i (bit_xor (get_or mixed i 0) (get_or others i 0)) less, drop_more mixed i 0 within, drop_more others i 0 also) (append_assoc (take i mixed) (bit_xor (get_or mixed i 0) (get_or others i 0) ∷ []) (xor_bytes (drop (i + 1) mixed) (drop (i + 1) others)))

pub mixed_to-all : (i : ℕ) (mixed others : List ℕ) → length mixed ≤ i → mixed_to i mixed others ≡ mixed
mixed_to-all i mixed others past = rw (take_all i mixed past, drop_all i mixed past) (append-nil mixed)
