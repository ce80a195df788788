-- How often each server stands in a round that was dealt.
use Rattle.std.proofs.Common.{◌≡◌, ℕ, zero, suc, ◌+◌, ◌-◌, ◌*◌, ◌<◌, ◌≤◌, Bool, true, false, cond, eqb, ltb, leb, List, [], ◌∷◌, ◌++◌, length, take, get_or, Some, length-append, IsPermutation, max, refl, sym, ap, ◌∙◌, inl, inr, arith}
use Rattle.std.specs.List.{All, flat_map, sum_by, slice_get}
use Rattle.std.specs.List.Sorted.{IsNonDecreasingBy}
use Rattle.std.proofs.Math.Nat.{mul-suc, suc-mul, mul_comm}
use Rattle.std.proofs.Math.ListN.{get_or-append}
use Rattle.std.proofs.Math.Seq.{get_or-append_seam}
use Rattle.std.proofs.lemmas.Nat.{mul-le}
use Rattle.std.proofs.lemmas.Bool.{cases_Bool, ltb-false}
use Rattle.std.proofs.lemmas.Bool.Decides.{nat_tests}
use Rattle.std.proofs.lemmas.List.{length-take-le, take_all, take_more}
use Rattle.std.proofs.lemmas.List.Concat.{length-flat_map}
use Rattle.std.proofs.lemmas.List.Elements.{All-cons, All-head, All-tail, All-push, All-nil, All-weaker, All-more, All-get_or, All-from_get_or}
use Rattle.std.proofs.lemmas.List.Sums.{sum_by-cons, sum_by-append, sum_by_more, sum_by_push}
use Rattle.std.proofs.lemmas.List.Sorted.{All-permutation, IsPermutation-sym, sum_by-IsPermutation}
use Rattle.mx_base.specs.declared.names.ServerId.{ServerId}
use Rattle.hostgroups.specs.declared.dealing.Share.{Share}
use Rattle.hostgroups.specs.Dealing.{AreShares, Fits, pass_behind, plays, shares_of, turn_in, pass_turns, turns_in_all, upto, weight_in, weight_of, with_share}
use Rattle.hostgroups.specs.declared.row.ServerRow.{ServerRow}
use Rattle.mx_base.specs.declared.names.Hostgroup.{Hostgroup}
use Rattle.hostgroups.specs.Turns.{IsHeaviest, IsWithin, row_at, times, weight_of_all, weight_there, weights_in}

-- Sums.

sum_zero : {X : Type 0} (xs : List X) → sum_by (λ (_ : X). 0) xs ≡ 0
sum_zero [] = refl
sum_zero {X} (x ∷ xs) = rw (sum_by-cons (λ (_ : X). 0) x xs, sum_zero xs) refl

sum_same : {X : Type 0} (f g : X → ℕ) → ((x : X) → f x ≡ g x) → (xs : List X) → sum_by f xs ≡ sum_by g xs
sum_same f g same [] = refl
sum_same f g same (x ∷ xs) = rw (sum_by-cons f x xs, sum_by-cons g x xs, same x, sum_same f g same xs) refl

sum_same_at : {X : Type 0} (P : X → Type 0) (f g : X → ℕ) → ((x : X) → P x → f x ≡ g x) → (xs : List X) → All P xs
    → sum_by f xs ≡ sum_by g xs
sum_same_at P f g same [] all = refl
sum_same_at P f g same (x ∷ xs) all =
    rw (sum_by-cons f x xs, sum_by-cons g x xs, same x (All-head P x xs all), sum_same_at P f g same xs (All-tail P x xs all)) refl

sum_plus : {X : Type 0} (f g : X → ℕ) (xs : List X) → sum_by (λ x. f x + g x) xs ≡ sum_by f xs + sum_by g xs
sum_plus f g [] = refl
sum_plus f g (x ∷ xs) = rw (sum_by-cons (λ y. f y + g y) x xs, sum_by-cons f x xs, sum_by-cons g x xs, sum_plus f g xs) (omega arith)

-- rows of a table summed first, or its columns
swapped : {X Y : Type 0} (f : X → Y → ℕ) (xs : List X) (ys : List Y)
    → sum_by (λ x. sum_by (f x) ys) xs ≡ sum_by (λ y. sum_by (λ x. f x y) xs) ys
swapped f [] ys = sym (sum_zero ys)
swapped {X} {Y} f (x ∷ xs) ys =
    sum_by-cons (λ (x : X). sum_by (f x) ys) x xs
    ∙ ap (λ (n : ℕ). sum_by (f x) ys + n) (swapped f xs ys)
    ∙ sym (sum_plus (f x) (λ (y : Y). sum_by (λ (x : X). f x y) xs) ys)
    ∙ sum_same (λ (y : Y). f x y + sum_by (λ (x : X). f x y) xs) (λ (y : Y). sum_by (λ (x : X). f x y) (x ∷ xs))
    (λ (y : Y). sym (sum_by-cons (λ (x : X). f x y) x xs)) ys

pub times-flat_map : {X : Type 0} (server : ServerId) (f : X → List ServerId) (xs : List X)
    → times server (flat_map f xs) ≡ sum_by (λ x. times server (f x)) xs
times-flat_map server f [] = refl
times-flat_map {X} server f (x ∷ xs) =
    sum_by-append (λ (turn : ServerId). cond (eqb turn.0 server.0) 1 0) (f x) (flat_map f xs)
    ∙ ap (λ (n : ℕ). times server (f x) + n) (times-flat_map server f xs)
    ∙ sym (sum_by-cons (λ (x : X). times server (f x)) x xs)

-- In how many passes a share has a turn.

one : Bool → ℕ
one b = cond b 1 0

below : (bound n : ℕ) → ℕ
below bound n = sum_by (λ p. cond (ltb p bound) 1 0) (upto n)

below-is : (bound n : ℕ) → below bound n ≡ cond (ltb bound n) bound n
unfolding below
below-is bound zero = grind (arith, nat_tests)
below-is bound (suc n) =
    sum_by_push (λ p. cond (ltb p bound) 1 0) (upto n) n
    ∙ (rw (below-is bound n) (grind (arith, nat_tests)))

played : (heaviest : ℕ) (share : Share) (n : ℕ) → ℕ
played heaviest share n = sum_by (λ p. cond (plays heaviest p share) 1 0) (upto n)

here : (heaviest weight first p : ℕ) → weight ≤ heaviest → first ≤ heaviest → p < heaviest
    → cond (ltb (cond (ltb p first) (heaviest - first + p) (p - first)) weight) 1 0 + cond (ltb p first) 1 0
    ≡ cond (ltb p (first + weight)) 1 0 + cond (ltb p (first + weight - heaviest)) 1 0
here heaviest weight first p w f h = grind (arith, nat_tests)

played-below : (heaviest : ℕ) (share : Share) (n : ℕ) → Fits heaviest share → n ≤ heaviest
    → played heaviest share n + below share.first n ≡ below (share.first + share.weight) n + below (share.first + share.weight - heaviest) n
unfolding played below
played-below heaviest share zero fits h = refl
played-below heaviest share (suc n) fits h =
    let before = played-below heaviest share n fits (omega arith) in
    let now = here heaviest share.weight share.first n fits.0 fits.1 (omega arith) in
    rw (
      sum_by_push (λ p. cond (plays heaviest p share) 1 0) (upto n) n,
      sum_by_push (λ p. cond (ltb p share.first) 1 0) (upto n) n,
      sum_by_push (λ p. cond (ltb p (share.first + share.weight)) 1 0) (upto n) n,
      sum_by_push (λ p. cond (ltb p (share.first + share.weight - heaviest)) 1 0) (upto n) n,
    )
    (omega (arith, before, now))

played-all : (heaviest : ℕ) (share : Share) → Fits heaviest share → played heaviest share heaviest ≡ share.weight
played-all heaviest share fits =
    let whole = played-below heaviest share heaviest fits (omega arith) in
    let a = below-is share.first heaviest in
    let b = below-is (share.first + share.weight) heaviest in
    let c = below-is (share.first + share.weight - heaviest) heaviest in
    let w = fits.0 in
    let f = fits.1 in
    grind (arith, nat_tests)

-- How many turns a share gives.

turns_there : (server : ServerId) (heaviest pass : ℕ) (share : Share)
    → times server (turn_in heaviest pass share) ≡ cond (eqb share.server.0 server.0) (cond (plays heaviest pass share) 1 0) 0
turns_there server heaviest pass share =
    elim (cases_Bool (plays heaviest pass share)) [
      | inl in' ↦ elim (cases_Bool (eqb share.server.0 server.0)) [ inl same ↦ rw (in', same) refl | inr other ↦ rw (in', other) refl ]
      | inr out ↦ elim (cases_Bool (eqb share.server.0 server.0)) [ inl same ↦ rw (out, same) refl | inr other ↦ rw (out, other) refl ]
    ]

share_turns : (server : ServerId) (heaviest : ℕ) (share : Share) → Fits heaviest share
    → sum_by (λ pass. times server (turn_in heaviest pass share)) (upto heaviest) ≡ weight_in server share
unfolding played
share_turns server heaviest share fits =
    sum_same (λ pass. times server (turn_in heaviest pass share))
    (λ pass. cond (eqb share.server.0 server.0) (cond (plays heaviest pass share) 1 0) 0)
    (λ pass. turns_there server heaviest pass share) (upto heaviest)
    ∙ elim (cases_Bool (eqb share.server.0 server.0)) [
      | inl same ↦ rw same (played-all heaviest share fits)
      | inr other ↦ rw other (sum_zero (upto heaviest))
    ]

-- in all passes together each server has as many turns as the shares give to it
pub dealt : (server : ServerId) (heaviest : ℕ) (shares : List Share) (passes : List ℕ) → All (Fits heaviest) shares
    → IsPermutation (upto heaviest) passes
    → times server (flat_map (pass_turns heaviest shares) passes) ≡ weight_of server shares
dealt server heaviest shares passes fits permuted =
    times-flat_map server (pass_turns heaviest shares) passes
    ∙ sum_by-IsPermutation (λ pass. times server (pass_turns heaviest shares pass)) (upto heaviest) passes permuted
    ∙ sum_same (λ pass. times server (pass_turns heaviest shares pass))
    (λ pass. sum_by (λ (share : Share). times server (turn_in heaviest pass share)) shares)
    (λ pass. times-flat_map server (turn_in heaviest pass) shares) (upto heaviest)
    ∙ swapped (λ pass (share : Share). times server (turn_in heaviest pass share)) (upto heaviest) shares
    ∙ sum_same_at (Fits heaviest) (λ (share : Share). sum_by (λ pass. times server (turn_in heaviest pass share)) (upto heaviest))
    (weight_in server) (share_turns server heaviest) shares fits

upto-below : (n : ℕ) → All (λ p. p < n) (upto n)
upto-below zero = All-nil (λ p. p < 0)
upto-below (suc n) =
    All-push (λ p. p < suc n) (upto n) n (All-weaker (λ p. p < n) (λ p. p < suc n) (λ p (h : p < n). omega arith) (upto n) (upto-below n))
    (omega arith)

-- How many turns a pass has.

turns_of_share : (heaviest pass : ℕ) (share : Share) → length (turn_in heaviest pass share) ≡ cond (plays heaviest pass share) 1 0
turns_of_share heaviest pass share =
    elim (cases_Bool (plays heaviest pass share)) [ inl in' ↦ rw in' refl | inr out ↦ rw out refl ]

share_size : (heaviest : ℕ) (share : Share) → Fits heaviest share
    → sum_by (λ pass. length (turn_in heaviest pass share)) (upto heaviest) ≡ share.weight
unfolding played
share_size heaviest share fits =
    sum_same (λ pass. length (turn_in heaviest pass share)) (λ pass. cond (plays heaviest pass share) 1 0)
    (λ pass. turns_of_share heaviest pass share) (upto heaviest)
    ∙ played-all heaviest share fits

-- all passes together have as many turns as the shares give
pub dealt_all : (heaviest : ℕ) (shares : List Share) (passes : List ℕ) → All (Fits heaviest) shares → IsPermutation (upto heaviest) passes
    → length (flat_map (pass_turns heaviest shares) passes) ≡ turns_in_all shares
dealt_all heaviest shares passes fits permuted =
    length-flat_map (pass_turns heaviest shares) passes
    ∙ sum_by-IsPermutation (λ pass. length (pass_turns heaviest shares pass)) (upto heaviest) passes permuted
    ∙ sum_same (λ pass. length (pass_turns heaviest shares pass))
    (λ pass. sum_by (λ (share : Share). length (turn_in heaviest pass share)) shares)
    (λ pass. length-flat_map (turn_in heaviest pass) shares) (upto heaviest)
    ∙ swapped (λ pass (share : Share). length (turn_in heaviest pass share)) (upto heaviest) shares
    ∙ sum_same_at (Fits heaviest) (λ (share : Share). sum_by (λ pass. length (turn_in heaviest pass share)) (upto heaviest))
    (λ (share : Share). share.weight) (share_size heaviest) shares fits

-- The heaviest of the rows so far.

All-init : {X : Type 0} (P : X → Type 0) (xs : List X) (last : X) → All P (xs ++ last ∷ []) → All P xs × P last
All-init P [] last all = (All-nil P, All-head P last [] all)
All-init P (x ∷ xs) last all =
    let rest = All-init P xs last (All-tail P x (xs ++ last ∷ []) all) in
    (All-cons P x xs (All-head P x (xs ++ last ∷ []) all) rest.0, rest.1)

pub heaviest_none : (hostgroup : Hostgroup) (rows : List ServerRow) → IsHeaviest hostgroup 0 (take 0 rows)
heaviest_none hostgroup rows = record {
  within = All-nil (λ (row : ServerRow). weight_there hostgroup (Some row) ≤ 0);
  least = λ most within. omega arith;
}

pub heaviest_more : (hostgroup : Hostgroup) (heaviest : ℕ) (rows : List ServerRow) (i : ℕ) (d : ServerRow) → i < length rows
    → IsHeaviest hostgroup heaviest (take i rows)
    → IsHeaviest hostgroup (max (weight_there hostgroup (Some (get_or rows i d))) heaviest) (take (i + 1) rows)
heaviest_more hostgroup heaviest rows i d h is =
    let now = weight_there hostgroup (Some (get_or rows i d)) in
    record {
      within = All-more (λ (row : ServerRow). weight_there hostgroup (Some row) ≤ max now heaviest) rows i d h
          (All-weaker (λ (row : ServerRow). weight_there hostgroup (Some row) ≤ heaviest)
          (λ (row : ServerRow). weight_there hostgroup (Some row) ≤ max now heaviest)
          (λ row (le : weight_there hostgroup (Some row) ≤ heaviest). grind arith) (take i rows) is.within)
          (grind arith);
      least = λ most within.
          let parts = All-init (λ (row : ServerRow). weight_there hostgroup (Some row) ≤ most) (take i rows) (get_or rows i d)
          (rw (take_more rows i d h) at within) in
          let before : heaviest ≤ most = is.least most parts.0 in
          let here : weight_there hostgroup (Some (get_or rows i d)) ≤ most = parts.1 in
          grind arith;
    }

-- The shares of the rows so far.

there-last : (hostgroup : Hostgroup) (rows : List ServerRow) (last : ServerRow) (n : ℕ)
    → weight_there hostgroup (slice_get (rows ++ last ∷ []) n) ≡ weight_there hostgroup (slice_get rows n) + cond (eqb (length rows) n)
    (weight_there hostgroup (Some last)) 0
there-last hostgroup [] last zero = omega arith
there-last hostgroup [] last (suc n) = grind (arith, nat_tests)
there-last hostgroup (first ∷ rows) last zero = grind (arith, nat_tests)
there-last hostgroup (first ∷ rows) last (suc n) = there-last hostgroup rows last n ∙ grind (arith, nat_tests)

at-last : (hostgroup : Hostgroup) (rows : List ServerRow) (last : ServerRow) (n : ℕ)
    → weight_there hostgroup (row_at (rows ++ last ∷ []) n) ≡ weight_there hostgroup (row_at rows n) + cond (eqb (length rows + 1) n)
    (weight_there hostgroup (Some last)) 0
at-last hostgroup rows last zero = grind (arith, nat_tests)
at-last hostgroup rows last (suc n) = there-last hostgroup rows last n ∙ grind (arith, nat_tests)

sum_with : (f : Share → ℕ) (shares : List Share) (share : Share) → (share.weight ≡ 0 → f share ≡ 0)
    → sum_by f (with_share shares share) ≡ sum_by f shares + f share
sum_with f shares share none =
    elim (cases_Bool (ltb 0 share.weight)) [
      | inl some ↦ rw some (sum_by_push f shares share)
      | inr not ↦
          let weightless : share.weight ≡ 0 = grind (arith, nat_tests) in
          rw not (omega (arith, none weightless))
    ]

sum_with_le : (f : Share → ℕ) (shares : List Share) (share : Share) → sum_by f (with_share shares share) ≤ sum_by f shares + f share
sum_with_le f shares share =
    elim (cases_Bool (ltb 0 share.weight)) [
      | inl some ↦ rw some (omega (arith, sum_by_push f shares share))
      | inr not ↦ rw not (omega arith)
    ]

All-with : (P : Share → Type 0) (shares : List Share) (share : Share) → All P shares → P share → All P (with_share shares share)
All-with P shares share all here =
    elim (cases_Bool (ltb 0 share.weight)) [ inl some ↦ rw some (All-push P shares share all here) | inr not ↦ rw not all ]

-- no share is heavier
most_with : (most : ℕ) (shares : List Share) (share : Share) → All (λ (s : Share). s.weight ≤ most) (with_share shares share)
    → All (λ (s : Share). s.weight ≤ most) shares × (share.weight ≤ most)
most_with most shares share all =
    elim (cases_Bool (ltb 0 share.weight)) [
      | inl some ↦ All-init (λ (s : Share). s.weight ≤ most) shares share (rw some at all)
      | inr not ↦
          let light : share.weight ≤ most = grind (arith, nat_tests) in
          (rw not at all, light)
    ]

idle : (heaviest pass : ℕ) (share : Share) → share.weight ≡ 0 → plays heaviest pass share ≡ false
idle heaviest pass share none = grind (arith, nat_tests)

size_with : (heaviest pass : ℕ) (shares : List Share) (share : Share)
    → length (pass_turns heaviest (with_share shares share) pass) ≡ length (pass_turns heaviest shares pass) + cond (plays heaviest pass share)
    1 0
size_with heaviest pass shares share =
    length-flat_map (turn_in heaviest pass) (with_share shares share)
    ∙ sum_with (λ s. length (turn_in heaviest pass s)) shares share (λ none. rw (idle heaviest pass share none) refl)
    ∙ rw (length-flat_map (turn_in heaviest pass) shares, turns_of_share heaviest pass share) refl

times_with : (server : ServerId) (heaviest pass : ℕ) (shares : List Share) (share : Share)
    → times server (pass_turns heaviest (with_share shares share) pass) ≡ times server (pass_turns heaviest shares pass)
    + cond (eqb share.server.0 server.0) (cond (plays heaviest pass share) 1 0) 0
times_with server heaviest pass shares share =
    times-flat_map server (turn_in heaviest pass) (with_share shares share)
    ∙ sum_with (λ s. times server (turn_in heaviest pass s)) shares share (λ none. rw (idle heaviest pass share none) refl)
    ∙ rw (times-flat_map server (turn_in heaviest pass) shares, turns_there server heaviest pass share) refl

-- what the loop over the rows keeps
pub record Shares (rows : List ServerRow) (hostgroup : Hostgroup) (heaviest i : ℕ) (shares : List Share) (first : ℕ) : Type 0 where
  pub within : first ≤ heaviest
  pub fits : All (Fits heaviest) shares
  pub weights : (server : ServerId) → weight_of server shares ≡ weights_in (take i rows) hostgroup server
  pub whole : turns_in_all shares ≡ weight_of_all (take i rows) hostgroup
  pub once : (server : ServerId) (pass : ℕ) → times server (pass_turns heaviest shares pass) ≤ cond (leb server.0 i) 1 0
  pub single : (server : ServerId) → shares_of server shares ≤ cond (leb server.0 i) 1 0
  -- the passes before `first` have a turn more than the others
  pub even : (pass : ℕ) → pass < heaviest
      → heaviest * length (pass_turns heaviest shares pass) + first ≡ turns_in_all shares + cond (ltb pass first) heaviest 0
  pub covers : (most : ℕ) → All (λ (s : Share). s.weight ≤ most) shares → IsWithin hostgroup most (take i rows)

none_there : (hostgroup : Hostgroup) (n : ℕ) → 0 ≡ weight_there hostgroup (row_at [] n)
none_there hostgroup zero = refl
none_there hostgroup (suc n) = refl

pub shares_none : (rows : List ServerRow) (hostgroup : Hostgroup) (heaviest : ℕ) → Shares rows hostgroup heaviest 0 [] 0
shares_none rows hostgroup heaviest = record {
  within = omega arith;
  fits = All-nil (Fits heaviest);
  weights = λ server. none_there hostgroup server.0;
  whole = refl;
  once = λ server pass. omega arith;
  single = λ server. omega arith;
  even = λ pass h. grind (arith, nat_tests);
  covers = λ most all. All-nil (λ (row : ServerRow). weight_there hostgroup (Some row) ≤ most);
}

once_more : (server heaviest i old now : ℕ) (b : Bool) → old ≤ cond (leb server i) 1 0 → now ≡ old + cond (eqb (i + 1) server) (cond b 1 0) 0
    → now ≤ cond (leb server (i + 1)) 1 0
once_more server heaviest i old now true h is = grind (arith, nat_tests)
once_more server heaviest i old now false h is = grind (arith, nat_tests)

single_more : (server i old now : ℕ) → old ≤ cond (leb server i) 1 0 → now ≤ old + cond (eqb (i + 1) server) 1 0
    → now ≤ cond (leb server (i + 1)) 1 0
single_more server i old now h is = grind (arith, nat_tests)

even_more : (heaviest weight first p total turns : ℕ) → weight ≤ heaviest → first ≤ heaviest → p < heaviest
    → turns + first ≡ total + cond (ltb p first) heaviest 0
    → turns + cond (ltb (cond (ltb p first) (heaviest - first + p) (p - first)) weight) heaviest 0 + pass_behind heaviest first weight
    ≡ total + weight + cond (ltb p (pass_behind heaviest first weight)) heaviest 0
even_more heaviest weight first p total turns w f h even = grind (arith, nat_tests)

one_more : (heaviest turns : ℕ) (b : Bool) → heaviest * (turns + cond b 1 0) ≡ heaviest * turns + cond b heaviest 0
one_more heaviest turns true = ap (λ (n : ℕ). heaviest * n) (omega arith) ∙ mul-suc heaviest turns
one_more heaviest turns false = omega arith

behind_within : (heaviest first weight : ℕ) → weight ≤ heaviest → first ≤ heaviest → pass_behind heaviest first weight ≤ heaviest
behind_within heaviest first weight w f = grind (arith, nat_tests)

weightless : (server : ServerId) (share : Share) → share.weight ≡ 0 → weight_in server share ≡ 0
weightless server share none =
    elim (cases_Bool (eqb share.server.0 server.0)) [ inl same ↦ rw (same, none) refl | inr other ↦ rw other refl ]

shares_step : (rows : List ServerRow) (hostgroup : Hostgroup) (heaviest i : ℕ) (d : ServerRow) (old : List Share) (first weight : ℕ)
    → i < length rows → weight ≤ heaviest → Shares rows hostgroup heaviest i old first
    → weight ≡ weight_there hostgroup (Some (get_or rows i d))
    → Shares rows hostgroup heaviest (i + 1) (with_share old (record { server = record { 0 = i + 1 }; weight = weight; first = first }))
    (pass_behind heaviest first weight)
shares_step rows hostgroup heaviest i d old first weight h light so_far is =
    let share : Share = record { server = record { 0 = i + 1 }; weight = weight; first = first } in
    record {
      within = behind_within heaviest first weight light so_far.within;
      fits = All-with (Fits heaviest) old share so_far.fits (light, so_far.within);
      weights = λ server.
          sum_with (weight_in server) old share (weightless server share)
          ∙ rw (so_far.weights server) (sym (rw (take_more rows i d h)
          (at-last hostgroup (take i rows) (get_or rows i d) server.0 ∙ rw (length-take-le i rows (omega arith), is) refl)));
      whole =
          sum_with (λ (s : Share). s.weight) old share (λ none. none)
          ∙ omega (arith, so_far.whole, is, sum_by_more (λ (row : ServerRow). weight_there hostgroup (Some row)) rows i d h);
      once = λ server pass. once_more server.0 heaviest i _ _ (plays heaviest pass share) (so_far.once server pass)
          (times_with server heaviest pass old share);
      single = λ server. single_more server.0 i _ _ (so_far.single server)
          (sum_with_le (λ (s : Share). cond (eqb s.server.0 server.0) 1 0) old share);
      even = λ pass p.
          let now = so_far.even pass p in
          let more = even_more heaviest weight first pass (turns_in_all old) (heaviest * length (pass_turns heaviest old pass)) light
          so_far.within p now in
          let size : heaviest * length (pass_turns heaviest (with_share old share) pass) ≡ heaviest * length (pass_turns heaviest old pass)
          + cond (plays heaviest pass share) heaviest 0 =
          ap (λ (n : ℕ). heaviest * n) (size_with heaviest pass old share)
          ∙ one_more heaviest (length (pass_turns heaviest old pass)) (plays heaviest pass share) in
          let all : turns_in_all (with_share old share) ≡ turns_in_all old + weight = sum_with (λ (s : Share). s.weight) old share
          (λ none. none) in
          rw (size, all) more;
      covers = λ most all.
          let parts = most_with most old share all in
          All-more (λ (row : ServerRow). weight_there hostgroup (Some row) ≤ most) rows i d h (so_far.covers most parts.0)
          (omega (arith, parts.1, is));
    }

pub shares_more : (rows : List ServerRow) (hostgroup : Hostgroup) (heaviest i : ℕ) (d : ServerRow) (old new : List Share)
    (first next weight : ℕ) → i < length rows → IsHeaviest hostgroup heaviest rows
    → Shares rows hostgroup heaviest i old first → weight ≡ weight_there hostgroup (Some (get_or rows i d))
    → new ≡ with_share old (record { server = record { 0 = i + 1 }; weight = weight; first = first })
    → next ≡ pass_behind heaviest first weight → Shares rows hostgroup heaviest (i + 1) new next
shares_more rows hostgroup heaviest i d old new first next weight h most so_far is_weight is_new is_next =
    let here : weight_there hostgroup (Some (get_or rows i d)) ≤ heaviest = All-get_or
    (λ (row : ServerRow). weight_there hostgroup (Some row) ≤ heaviest) rows i d h most.within in
    let light : weight ≤ heaviest = omega (arith, is_weight, here) in
    let step = shares_step rows hostgroup heaviest i d old first weight h light so_far is_weight in
    rw (is_new, is_next) step

at_most_one : {n : ℕ} (b : Bool) → n ≤ cond b 1 0 → n ≤ 1
at_most_one true h = h
at_most_one false h = omega arith

enough : (heaviest first p total turns n : ℕ) → first ≤ heaviest → p < heaviest → n * heaviest ≤ total
    → heaviest * turns + first ≡ total + cond (ltb p first) heaviest 0 → n ≤ turns
enough heaviest first p total turns n f h most even =
    elim (cases_Bool (leb n turns)) [
      | inl so ↦ grind (arith, nat_tests)
      | inr few ↦
          let fewer : suc turns ≤ n = grind (arith, nat_tests) in
          let times : suc turns * heaviest ≤ n * heaviest = mul-le (suc turns) heaviest n heaviest fewer (omega arith) in
          let one : suc turns * heaviest ≡ turns * heaviest + heaviest = suc-mul turns heaviest in
          let turned : heaviest * turns ≡ turns * heaviest = mul_comm heaviest turns in
          elim (cases_Bool (ltb p first)) [
            | inl before ↦
                let more : ◌≡◌ {A = ℕ} (cond (ltb p first) heaviest 0) heaviest = rw before refl in
                absurd (omega (arith, f, h, most, times, one, turned, even, more))
            | inr behind ↦
                let same : ◌≡◌ {A = ℕ} (cond (ltb p first) heaviest 0) 0 = rw behind refl in
                let le : first ≤ p = ltb-false p first behind in
                absurd (omega (arith, le, h, most, times, one, turned, even, same))
          ]
    ]

in_order : (before : List Share) (share : Share) (behind : List Share)
    → All (λ (s : Share). s.weight ≤ 65535) (before ++ share ∷ behind)
    → IsNonDecreasingBy (λ (s : Share). 65535 - s.weight) (before ++ share ∷ behind)
    → All (λ (s : Share). share.weight ≤ s.weight) before
in_order before share behind small up =
    All-from_get_or (λ (s : Share). share.weight ≤ s.weight) before share
    (λ j h.
    let all = before ++ share ∷ behind in
    let long : length (before ++ share ∷ behind) ≡ length before + length (share ∷ behind) = length-append before (share ∷ behind) in
    let here : get_or (before ++ share ∷ behind) j share ≡ get_or before j share = get_or-append before (share ∷ behind) share j h in
    let last : get_or (before ++ share ∷ behind) (length before) share ≡ share = get_or-append_seam before share behind share in
    let le : 65535 - (get_or (before ++ share ∷ behind) j share).weight
    ≤ 65535 - (get_or (before ++ share ∷ behind) (length before) share).weight =
    up j (length before) share (omega (arith, h)) (omega (arith, long)) in
    let most : share.weight ≤ 65535 = rw last at
    (All-get_or (λ (s : Share). s.weight ≤ 65535) (before ++ share ∷ behind) (length before) share (omega (arith, long)) small) in
    let order : 65535 - (get_or before j share).weight ≤ 65535 - share.weight = rw (here, last) at le in
    omega (arith, order, most))

-- no share is heavier than the first, where they come in order
first_most : (share : Share) (others : List Share) → All (λ (s : Share). s.weight ≤ 65535) (share ∷ others)
    → IsNonDecreasingBy (λ (s : Share). 65535 - s.weight) (share ∷ others) → All (λ (s : Share). s.weight ≤ share.weight) (share ∷ others)
first_most share others small up =
    All-from_get_or (λ (s : Share). s.weight ≤ share.weight) (share ∷ others) share
    (λ j h.
    let le : 65535 - share.weight ≤ 65535 - (get_or (share ∷ others) j share).weight = up 0 j share (omega arith) h in
    let most : (get_or (share ∷ others) j share).weight ≤ 65535 = All-get_or (λ (s : Share). s.weight ≤ 65535) (share ∷ others) j share h
    small in
    omega (arith, le, most))

pub shares_sorted : (rows : List ServerRow) (hostgroup : Hostgroup) (heaviest i : ℕ) (shares sorted : List Share) (first : ℕ)
    → length rows ≤ i → heaviest ≤ 65535 → IsHeaviest hostgroup heaviest rows → Shares rows hostgroup heaviest i shares first
    → IsPermutation shares sorted → IsNonDecreasingBy (λ (s : Share). 65535 - s.weight) sorted → AreShares rows hostgroup heaviest sorted
shares_sorted rows hostgroup heaviest i shares sorted first h small most so_far permuted up =
    let all : take i rows ≡ rows = take_all i rows h in
    let fits : All (Fits heaviest) sorted = All-permutation (Fits heaviest) shares sorted permuted so_far.fits in
    let total : turns_in_all sorted ≡ turns_in_all shares = sum_by-IsPermutation (λ (s : Share). s.weight) shares sorted permuted in
    record {
      fits = fits;
      weights = λ server. sum_by-IsPermutation (weight_in server) shares sorted permuted ∙ rw all at (so_far.weights server);
      whole = total ∙ rw all at so_far.whole;
      once = λ server pass.
          let same : times server (pass_turns heaviest sorted pass) ≡ times server (pass_turns heaviest shares pass) =
          times-flat_map server (turn_in heaviest pass) sorted
          ∙ sum_by-IsPermutation (λ (s : Share). times server (turn_in heaviest pass s)) shares sorted permuted
          ∙ sym (times-flat_map server (turn_in heaviest pass) shares) in
          let bound = so_far.once server pass in
          rw same (at_most_one (leb server.0 i) bound);
      even = λ pass n p most_turns.
          let same : length (pass_turns heaviest sorted pass) ≡ length (pass_turns heaviest shares pass) =
          length-flat_map (turn_in heaviest pass) sorted
          ∙ sum_by-IsPermutation (λ (s : Share). length (turn_in heaviest pass s)) shares sorted permuted
          ∙ sym (length-flat_map (turn_in heaviest pass) shares) in
          rw same (enough heaviest first pass (turns_in_all shares) (length (pass_turns heaviest shares pass)) n so_far.within p
          (rw total at most_turns) (so_far.even pass p));
      single = λ server.
          let same : shares_of server sorted ≡ shares_of server shares =
          sum_by-IsPermutation (λ (s : Share). cond (eqb s.server.0 server.0) 1 0) shares sorted permuted in
          rw same (at_most_one (leb server.0 i) (so_far.single server));
      ordered = λ before share behind is.
          let light : All (λ (s : Share). s.weight ≤ 65535) sorted =
          All-weaker (Fits heaviest) (λ (s : Share). s.weight ≤ 65535) (λ s (fit : Fits heaviest s). omega (arith, fit.0, small)) sorted fits in
          in_order before share behind (rw is at light) (rw is at up);
      first = λ share others is.
          let light : All (λ (s : Share). s.weight ≤ 65535) sorted =
          All-weaker (Fits heaviest) (λ (s : Share). s.weight ≤ 65535) (λ s (fit : Fits heaviest s). omega (arith, fit.0, small)) sorted fits in
          let top : All (λ (s : Share). s.weight ≤ share.weight) (share ∷ others) = first_most share others (rw is at light) (rw is at up) in
          let before : All (λ (s : Share). s.weight ≤ share.weight) shares =
          All-permutation (λ (s : Share). s.weight ≤ share.weight) sorted shares (IsPermutation-sym shares sorted permuted) (rw is top) in
          let least : heaviest ≤ share.weight = most.least share.weight (rw all at (so_far.covers share.weight before)) in
          let fit : Fits heaviest share = All-head (Fits heaviest) share others (rw is at fits) in
          omega (arith, least, fit.0);
    }

pub upto-within : (n most : ℕ) → n ≤ most → All (λ p. p < most) (upto n)
upto-within n most h = All-weaker (λ p. p < n) (λ p. p < most) (λ p (le : p < n). omega arith) (upto n) (upto-below n)
