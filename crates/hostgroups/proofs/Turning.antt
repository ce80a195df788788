-- A round that goes on behind the first server that is ready.
use Rattle.std.proofs.Common.{◌≡◌, ℕ, zero, suc, ◌+◌, ◌<◌, ◌≤◌, Bool, true, false, ◌||◌, cond, eqb, List, [], ◌∷◌, ◌++◌, length, take, drop, get_or, None, append_assoc, length-append, refl, sym, ap, ◌∙◌, arith}
use Rattle.std.specs.Prelude.{slice_get}
use Rattle.std.specs.List.{list_any, position_or_len}
use Rattle.std.proofs.Math.Seq.{drop-append_seam, take-append_seam, drop-append-add, take-append-add}
use Rattle.std.proofs.lemmas.Bool.{ne_eqb, eq-eqb, not_from_true}
use Rattle.std.proofs.lemmas.List.{drop-append-le, take-append-le, take-append-drop, length-take-le, take_all, drop_all}
use Rattle.std.proofs.lemmas.List.Folds.{find_at, prefix_len-append, list_any-append}
use Rattle.std.proofs.lemmas.List.Sums.{sum_by-append, sum_by-take-drop, prefix_len-le-length, prefix_len-drop_no}
use Rattle.mx_base.specs.declared.names.ServerId.{ServerId}
use Rattle.hostgroups.specs.Turns.{IsNext, IsNone, from_turn, times}

get-left : {X : Type 0} (xs ys : List X) (k : ℕ) → k < length xs → slice_get (xs ++ ys) k ≡ slice_get xs k
get-left [] ys k h = absurd (omega arith)
get-left (x ∷ xs) ys zero h = refl
get-left (x ∷ xs) ys (suc k) h = get-left xs ys k (omega arith)

get-right : {X : Type 0} (xs ys : List X) (k : ℕ) → slice_get (xs ++ ys) (length xs + k) ≡ slice_get ys k
get-right [] ys k = ap (slice_get ys) (omega arith)
get-right (x ∷ xs) ys k =
    let step : length (x ∷ xs) + k ≡ suc (length xs + k) = omega arith in
    rw step (get-right xs ys k)

-- where the first one that is ready stands in two lists
at-first : (ready : ServerId → Bool) (xs ys : List ServerId) → position_or_len ready xs < length xs
    → position_or_len ready (xs ++ ys) ≡ position_or_len ready xs
at-first ready xs ys h =
    let apart : eqb (position_or_len ready xs) (length xs) ≡ false = ne_eqb _ _ (λ e. absurd (omega (arith, h, e))) in
    prefix_len-append _ xs ys ∙ rw apart refl

at-second : (ready : ServerId → Bool) (xs ys : List ServerId) → length xs ≤ position_or_len ready xs
    → position_or_len ready (xs ++ ys) ≡ length xs + position_or_len ready ys
at-second ready xs ys h =
    let most : position_or_len ready xs ≤ length xs = prefix_len-le-length _ xs in
    let same : eqb (position_or_len ready xs) (length xs) ≡ true = eq-eqb _ _ (omega (arith, h, most)) in
    prefix_len-append _ xs ys ∙ rw same refl

split_turn : (over coming : List ServerId) → from_turn (length over) (over ++ coming) ≡ coming ++ over
split_turn over coming = rw (drop-append_seam over coming, take-append_seam over coming) refl

-- the first one that is ready has its turn before the round ends
later : (ready : ServerId → Bool) (over coming : List ServerId) → position_or_len ready coming < length coming
    → IsNext ready (over ++ coming) (length over) (length over + position_or_len ready coming)
later ready over coming h =
    let k = position_or_len ready coming in
    let first : position_or_len ready (coming ++ over) ≡ position_or_len ready coming = at-first ready coming over h in
    let place : length over + position_or_len ready coming + 1 ≡ length over + (position_or_len ready coming + 1) = omega arith in
    record {
      within = simp length-append (omega arith);
      found = rw (
        split_turn over coming,
        find_at ready (coming ++ over),
        first,
        get-left coming over (position_or_len ready coming) h,
        get-right over coming (position_or_len ready coming),
      ) refl;
      behind = rw (
        split_turn over coming,
        first,
        place,
        drop-append-le (position_or_len ready coming + 1) coming over (omega arith),
        take-append-le (position_or_len ready coming + 1) coming over (omega arith),
        drop-append-add over coming (position_or_len ready coming + 1),
        take-append-add over coming (position_or_len ready coming + 1),
      ) (append_assoc (drop (position_or_len ready coming + 1) coming) over (take (position_or_len ready coming + 1) coming));
    }

past : {X : Type 0} (xs : List X) → slice_get xs (length xs) ≡ None
past [] = refl
past (x ∷ xs) = past xs

ends : (turns : List ServerId) → from_turn (length turns + 1) turns ≡ turns
ends turns = rw (take_all (length turns + 1) turns (omega arith), drop_all (length turns + 1) turns (omega arith)) refl

-- it has its turn in the next round
earlier : (ready : ServerId → Bool) (over coming : List ServerId) → length coming ≤ position_or_len ready coming
    → position_or_len ready over < length over
    → IsNext ready (over ++ coming) (length over) (position_or_len ready over)
earlier ready over coming none h =
    let first : position_or_len ready (coming ++ over) ≡ length coming + position_or_len ready over = at-second ready coming over none in
    let place : length coming + position_or_len ready over + 1 ≡ length coming + (position_or_len ready over + 1) = omega arith in
    record {
      within = simp length-append (omega arith);
      found = rw (
        split_turn over coming,
        find_at ready (coming ++ over),
        first,
        get-right coming over (position_or_len ready over),
        get-left over coming (position_or_len ready over) h,
      ) refl;
      behind = rw (
        split_turn over coming,
        first,
        place,
        drop-append-add coming over (position_or_len ready over + 1),
        take-append-add coming over (position_or_len ready over + 1),
        drop-append-le (position_or_len ready over + 1) over coming (omega arith),
        take-append-le (position_or_len ready over + 1) over coming (omega arith),
      ) (sym (append_assoc (drop (position_or_len ready over + 1) over) coming (take (position_or_len ready over + 1) over)));
    }

nowhere : (ready : ServerId → Bool) (over coming : List ServerId) → length coming ≤ position_or_len ready coming
    → length over ≤ position_or_len ready over
    → IsNone ready (over ++ coming) (length over)
nowhere ready over coming none none_over =
    let most : position_or_len ready over ≤ length over = prefix_len-le-length _ over in
    let first : position_or_len ready (coming ++ over) ≡ length (coming ++ over) = at-second ready coming over none ∙ simp length-append
    (omega (arith, none_over, most)) in
    record {
      found = rw (split_turn over coming, find_at ready (coming ++ over), first) (past (coming ++ over));
      behind = rw (split_turn over coming, first) (ends (coming ++ over));
    }

-- how a round of one place is cut in two
cut : (place : ℕ) (turns : List ServerId) → place ≤ length turns → length (take place turns) ≡ place
cut place turns h = length-take-le place turns h

pub next_later : (ready : ServerId → Bool) (turns : List ServerId) (place : ℕ) → place ≤ length turns
    → position_or_len ready (drop place turns) < length (drop place turns)
    → IsNext ready turns place (place + position_or_len ready (drop place turns))
next_later ready turns place h less =
    rw (take-append-drop place turns, cut place turns h) at (later ready (take place turns) (drop place turns) less)

pub next_earlier : (ready : ServerId → Bool) (turns : List ServerId) (place : ℕ) → place ≤ length turns
    → length (drop place turns) ≤ position_or_len ready (drop place turns)
    → position_or_len ready (take place turns) < length (take place turns) → IsNext ready turns place
    (position_or_len ready (take place turns))
next_earlier ready turns place h none less =
    rw (take-append-drop place turns, cut place turns h) at (earlier ready (take place turns) (drop place turns) none less)

pub next_nowhere : (ready : ServerId → Bool) (turns : List ServerId) (place : ℕ) → place ≤ length turns
    → length (drop place turns) ≤ position_or_len ready (drop place turns)
    → length (take place turns) ≤ position_or_len ready (take place turns) → IsNone ready turns place
next_nowhere ready turns place h none none_over =
    rw (take-append-drop place turns, cut place turns h) at (nowhere ready (take place turns) (drop place turns) none none_over)

-- the same of the parts of a round as the code has them
pub next_in_round : (ready : ServerId → Bool) (turns coming : List ServerId) (over first : ℕ) → over ≤ length turns
    → coming ≡ drop over turns → first ≡ position_or_len ready coming
    → first < length coming → IsNext ready turns over (over + first)
next_in_round ready turns coming over first h is_coming is_first less =
    rw (is_first, is_coming) (next_later ready turns over h (rw (is_first, is_coming) at less))

pub next_in_later : (ready : ServerId → Bool) (turns coming passed : List ServerId) (over first place : ℕ) → over ≤ length turns
    → coming ≡ drop over turns → passed ≡ take over turns
    → first ≡ position_or_len ready coming → length coming ≤ first → place ≡ position_or_len ready passed → place < over → IsNext ready
    turns over place
next_in_later ready turns coming passed over first place h is_coming is_passed is_first none is_place less =
    let short : place < length passed = rw is_passed (rw (length-take-le over turns h) less) in
    rw (is_place, is_passed) (next_earlier ready turns over h (rw (is_first, is_coming) at none) (rw (is_place, is_passed) at short))

pub next_in_none : (ready : ServerId → Bool) (turns coming passed : List ServerId) (over first place : ℕ) → over ≤ length turns
    → coming ≡ drop over turns → passed ≡ take over turns
    → first ≡ position_or_len ready coming → length coming ≤ first → place ≡ position_or_len ready passed → over ≤ place → IsNone ready
    turns over
next_in_none ready turns coming passed over first place h is_coming is_passed is_first none is_place most =
    let long : length passed ≤ place = rw is_passed (rw (length-take-le over turns h) most) in
    next_nowhere ready turns over h (rw (is_first, is_coming) at none) (rw (is_place, is_passed) at long)

pub first_at : (ready : ServerId → Bool) (turns : List ServerId) (i : ℕ) (d : ServerId) → i < length turns
    → position_or_len ready (take i turns) ≡ i → ready (get_or turns i d) ≡ true
    → i ≡ position_or_len ready turns
first_at ready turns i d h before here =
    let size : length (take i turns) ≡ i = length-take-le i turns (omega arith) in
    let rest : position_or_len ready (drop i turns) ≡ 0 = prefix_len-drop_no _ turns i d h (not_from_true _ here) in
    let whole : position_or_len ready turns ≡ length (take i turns) + position_or_len ready (drop i turns) = rw take-append-drop at
    (at-second ready (take i turns) (drop i turns) (omega (arith, size, before))) in
    omega (arith, whole, size, rest)

-- Every turn is there still.

or_swapped : (a b : Bool) → (a || b) ≡ (b || a)
or_swapped true true = refl
or_swapped true false = refl
or_swapped false true = refl
or_swapped false false = refl

pub times-from_turn : (server : ServerId) (k : ℕ) (turns : List ServerId) → times server (from_turn k turns) ≡ times server turns
times-from_turn server k turns =
    sum_by-append (λ (turn : ServerId). cond (eqb turn.0 server.0) 1 0) (drop k turns) (take k turns)
    ∙ omega (arith, sum_by-take-drop (λ (turn : ServerId). cond (eqb turn.0 server.0) 1 0) turns k)

pub any-from_turn : (test : ServerId → Bool) (k : ℕ) (turns : List ServerId) → list_any test turns ≡ list_any test (from_turn k turns)
any-from_turn test k turns =
    let whole : list_any test turns ≡ (list_any test (take k turns) || list_any test (drop k turns)) = rw
    (← list_any-append test (take k turns) (drop k turns), take-append-drop k turns) refl in
    whole ∙ or_swapped (list_any test (take k turns)) (list_any test (drop k turns)) ∙ sym
    (list_any-append test (drop k turns) (take k turns))

pub length-from_turn : (k : ℕ) (turns : List ServerId) → length (from_turn k turns) ≡ length turns
length-from_turn k turns =
    let whole : length (take k turns ++ drop k turns) ≡ length turns = ap (λ (ts : List ServerId). length ts) (take-append-drop k turns) in
    omega (arith, whole, length-append (take k turns) (drop k turns), length-append (drop k turns) (take k turns))
