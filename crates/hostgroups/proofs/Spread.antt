-- No server has two turns one right behind the other in a round that was dealt.
use Rattle.std.proofs.Common.{◌≡◌, ℕ, suc, ◌+◌, ◌*◌, ◌<◌, ◌≤◌, Bool, true, false, ◌||◌, ◌&&◌, cond, eqb, List, [], ◌∷◌, ◌++◌, length, take, drop, append_assoc, append-nil, ◌⊎◌, IsPermutation, refl, sym, ap, subst, ◌∙◌, inl, inr, arith}
use Rattle.std.specs.List.{All, flat_map}
use Rattle.std.proofs.lemmas.Bool.{and_cases, cases_Bool, or_parts, or_from, and_left, and_right}
use Rattle.std.proofs.lemmas.Bool.Decides.{nat_tests}
use Rattle.std.proofs.lemmas.List.{take-append-drop}
use Rattle.std.proofs.lemmas.List.Elements.{All-head, All-tail, All-weaker}
use Rattle.std.proofs.lemmas.List.Sums.{sum_by-cons}
use Rattle.mx_base.specs.declared.names.Hostgroup.{Hostgroup}
use Rattle.mx_base.specs.declared.names.ServerId.{ServerId}
use Rattle.hostgroups.specs.declared.dealing.Share.{Share}
use Rattle.hostgroups.specs.declared.row.ServerRow.{ServerRow}
use Rattle.hostgroups.specs.Dealing.{AreShares, Fits, pass_turns, plays, turns_in_all, upto, weight_in, weight_of}
use Rattle.hostgroups.specs.Turns.{IsApart, IsEven, IsSpread, from_turn, times}
use Rattle.hostgroups.proofs.Deals.{dealt, dealt_all}
use Rattle.hostgroups.proofs.Turning.{length-from_turn, times-from_turn}

abbrev begins_with : ServerId → List ServerId → Bool
begins_with server [] = false
begins_with server (first ∷ turns) = eqb first.0 server.0

abbrev begins_twice : ServerId → List ServerId → Bool
begins_twice server [] = false
begins_twice server (first ∷ turns) = eqb first.0 server.0 && begins_with server turns

-- two turns of a server stand one right behind the other
abbrev has_twice : ServerId → List ServerId → Bool
has_twice server [] = false
has_twice server (turn ∷ turns) = begins_twice server (turn ∷ turns) || has_twice server turns

abbrev first_turn : List ServerId → List ServerId
first_turn [] = []
first_turn (turn ∷ turns) = turn ∷ []

-- A round that is cut somewhere.

pub times-cons : (server turn : ServerId) (turns : List ServerId)
    → times server (turn ∷ turns) ≡ cond (eqb turn.0 server.0) 1 0 + times server turns
times-cons server turn turns = sum_by-cons (λ (t : ServerId). cond (eqb t.0 server.0) 1 0) turn turns

pub bit_le : (b : Bool) → cond b 1 0 ≤ 1
bit_le true = omega arith
bit_le false = omega arith

one_of_two : (server : ServerId) (turns : List ServerId) → begins_twice server turns ≡ false → times server (take 2 turns) ≤ 1
one_of_two server [] apart = omega arith
one_of_two server (turn ∷ []) apart = omega (arith, times-cons server turn [], bit_le (eqb turn.0 server.0))
one_of_two server (turn ∷ second ∷ turns) apart =
    let all = times-cons server turn (second ∷ []) in
    let last = times-cons server second [] in
    elim (and_cases (eqb turn.0 server.0) (eqb second.0 server.0) apart) [
      | inl other ↦
          let none : ◌≡◌ {A = ℕ} (cond (eqb turn.0 server.0) 1 0) 0 = rw other refl in
          omega (arith, all, last, none, bit_le (eqb second.0 server.0))
      | inr other ↦
          let none : ◌≡◌ {A = ℕ} (cond (eqb second.0 server.0) 1 0) 0 = rw other refl in
          omega (arith, all, last, none, bit_le (eqb turn.0 server.0))
    ]

later_not : (server : ServerId) (over coming : List ServerId) → has_twice server (over ++ coming) ≡ false → has_twice server coming ≡ false
later_not server [] coming none = none
later_not server (turn ∷ over) coming none = later_not server over coming (or_parts _ _ none).1

uncut : (server : ServerId) (turns : List ServerId) → has_twice server (turns ++ first_turn turns) ≡ false
    → begins_twice server turns ≡ false
uncut server [] none = refl
uncut server (turn ∷ []) none = and_right (eqb turn.0 server.0) false refl
uncut server (turn ∷ next ∷ turns) none = (or_parts _ _ none).0

cut : (server : ServerId) (over coming : List ServerId) → has_twice server (over ++ coming ++ first_turn (over ++ coming)) ≡ false
    → begins_twice server (coming ++ over) ≡ false
cut server [] coming none = ap (begins_twice server) (append-nil coming) ∙ uncut server coming none
cut server (turn ∷ over) [] none =
    let whole : (turn ∷ over) ++ [] ≡ turn ∷ over = append-nil (turn ∷ over) in
    uncut server (turn ∷ over) (ap (λ (turns : List ServerId). has_twice server (turns ++ turn ∷ [])) (sym whole) ∙ none)
cut server (turn ∷ over) (next ∷ []) none =
    let joined = append_assoc (turn ∷ over) (next ∷ []) (turn ∷ []) in
    let last : has_twice server ((next ∷ []) ++ turn ∷ []) ≡ false =
    later_not server (turn ∷ over) ((next ∷ []) ++ turn ∷ []) (ap (has_twice server) (sym joined) ∙ none) in
    (or_parts _ _ last).0
cut server (turn ∷ over) (next ∷ second ∷ coming) none =
    let joined = append_assoc (turn ∷ over) (next ∷ second ∷ coming) (turn ∷ []) in
    let last : has_twice server ((next ∷ second ∷ coming) ++ turn ∷ []) ≡ false =
    later_not server (turn ∷ over) ((next ∷ second ∷ coming) ++ turn ∷ []) (ap (has_twice server) (sym joined) ∙ none) in
    (or_parts _ _ last).0

spread_uncut : (turns : List ServerId)
    → ((server : ServerId) → 2 * times server turns ≤ length turns → has_twice server (turns ++ first_turn turns) ≡ false)
    → IsSpread turns
spread_uncut turns apart = λ server few over coming is. one_of_two server (coming ++ over) (cut server over coming (rw is at (apart server few)))

pub spread_none : IsSpread []
spread_none = spread_uncut [] (λ server few. refl)

-- Turns of a server that are few.

-- one turn fewer are left behind a server's turn
behind_own : (server turn : ServerId) (turns : List ServerId) (n : ℕ) → eqb turn.0 server.0 ≡ true → times server (turn ∷ turns) ≤ suc n
    → times server turns ≤ n
behind_own server turn turns n own few =
    let one : ◌≡◌ {A = ℕ} (cond (eqb turn.0 server.0) 1 0) 1 = rw own refl in
    omega (arith, times-cons server turn turns, one, few)

pub behind_other : (server turn : ServerId) (turns : List ServerId) (n : ℕ) → times server (turn ∷ turns) ≤ n → times server turns ≤ n
behind_other server turn turns n few = omega (arith, times-cons server turn turns, few)

pub other's : (server turn : ServerId) (turns : List ServerId) → times server (turn ∷ turns) ≤ 0 → eqb turn.0 server.0 ≡ false
other's server turn turns none =
    elim (cases_Bool (eqb turn.0 server.0)) [
      | inl own ↦
          let one : ◌≡◌ {A = ℕ} (cond (eqb turn.0 server.0) 1 0) 1 = rw own refl in
          absurd (omega (arith, times-cons server turn turns, one, none))
      | inr other ↦ other
    ]

begins_not : (server : ServerId) (turns rest : List ServerId) → times server turns ≤ 0 → begins_with server rest ≡ false
    → begins_with server (turns ++ rest) ≡ false
begins_not server [] rest none other = other
begins_not server (turn ∷ turns) rest none other = other's server turn turns none

begins_other : (server : ServerId) (turns rest : List ServerId) → times server turns ≤ 0 → 1 ≤ length turns
    → begins_with server (turns ++ rest) ≡ false
begins_other server [] rest none some = absurd (omega arith)
begins_other server (turn ∷ turns) rest none some = other's server turn turns none

none_there : (server : ServerId) (turns rest : List ServerId) → times server turns ≤ 0 → has_twice server rest ≡ false
    → has_twice server (turns ++ rest) ≡ false
none_there server [] rest none apart = apart
none_there server (turn ∷ turns) rest none apart =
    or_from _ _ (and_left _ (begins_with server (turns ++ rest)) (other's server turn turns none))
    (none_there server turns rest (behind_other server turn turns 0 none) apart)

once_there : (server : ServerId) (turns rest : List ServerId) → times server turns ≤ 1 → begins_with server rest ≡ false
    → has_twice server rest ≡ false → has_twice server (turns ++ rest) ≡ false
once_there server [] rest once other apart = apart
once_there server (turn ∷ turns) rest once other apart =
    elim (cases_Bool (eqb turn.0 server.0)) [
      | inl own ↦
          let none : times server turns ≤ 0 = behind_own server turn turns 0 own once in
          or_from _ _ (and_right (eqb turn.0 server.0) _ (begins_not server turns rest none other)) (none_there server turns rest none apart)
      | inr not ↦ or_from _ _ (and_left _ (begins_with server (turns ++ rest)) not)
          (once_there server turns rest (behind_other server turn turns 1 once) other apart)
    ]

-- Passes that one server begins.

begin : (server first : ServerId) (turns others : ℕ → List ServerId) (passes : List ℕ)
    → All (λ pass. turns pass ≡ first ∷ others pass) passes → begins_with server (flat_map turns passes ++ first ∷ []) ≡ eqb first.0 server.0
begin server first turns others [] begun = refl
begin server first turns others (pass ∷ passes) begun =
    let here : turns pass ≡ first ∷ others pass = All-head (λ p. turns p ≡ first ∷ others p) pass passes begun in
    rw here refl

first-begins : (first : ServerId) (turns others : ℕ → List ServerId) (pass : ℕ) (passes : List ℕ)
    → All (λ p. turns p ≡ first ∷ others p) (pass ∷ passes) → first_turn (flat_map turns (pass ∷ passes)) ≡ first ∷ []
first-begins first turns others pass passes begun =
    let here : turns pass ≡ first ∷ others pass = All-head (λ p. turns p ≡ first ∷ others p) pass passes begun in
    rw here refl

-- the server that begins a pass, in which others have turns too
beginner's : (server first : ServerId) (others rest : List ServerId) → eqb first.0 server.0 ≡ true → times server (first ∷ others) ≤ 1
    → 2 ≤ length (first ∷ others) → has_twice server rest ≡ false → has_twice server (first ∷ others ++ rest) ≡ false
beginner's server first others rest own once two apart =
    let none : times server others ≤ 0 = behind_own server first others 0 own once in
    or_from _ _ (and_right (eqb first.0 server.0) _ (begins_other server others rest none (omega (arith, two))))
    (none_there server others rest none apart)

apart_in_passes : (server first : ServerId) (turns others : ℕ → List ServerId) (passes : List ℕ)
    → All (λ pass. turns pass ≡ first ∷ others pass) passes
    → All (λ pass. times server (turns pass) ≤ 1) passes
    → (eqb first.0 server.0 ≡ true → All (λ pass. 2 ≤ length (turns pass)) passes)
    → has_twice server (flat_map turns passes ++ first ∷ []) ≡ false
apart_in_passes server first turns others [] begun once two = or_from _ _ (and_right (eqb first.0 server.0) false refl) refl
apart_in_passes server first turns others (pass ∷ passes) begun once two =
    let rest = flat_map turns passes ++ first ∷ [] in
    let begun_later = All-tail (λ p. turns p ≡ first ∷ others p) pass passes begun in
    let here : turns pass ≡ first ∷ others pass = All-head (λ p. turns p ≡ first ∷ others p) pass passes begun in
    let at_once : times server (turns pass) ≤ 1 = All-head (λ p. times server (turns p) ≤ 1) pass passes once in
    let apart : has_twice server (flat_map turns passes ++ first ∷ []) ≡ false =
    apart_in_passes server first turns others passes begun_later (All-tail (λ p. times server (turns p) ≤ 1) pass passes once)
    (λ own. All-tail (λ p. 2 ≤ length (turns p)) pass passes (two own)) in
    ap (has_twice server) (append_assoc (turns pass) (flat_map turns passes) (first ∷ []))
    ∙ elim (cases_Bool (eqb first.0 server.0)) [
      | inl own ↦
          rw here (beginner's server first (others pass) (flat_map turns passes ++ first ∷ []) own (rw here at at_once)
          (rw here at (All-head (λ p. 2 ≤ length (turns p)) pass passes (two own))) apart)
      | inr other ↦ once_there server (turns pass) (flat_map turns passes ++ first ∷ []) at_once
          (begin server first turns others passes begun_later ∙ other) apart
    ]

-- The round that was dealt.

pub plays-always : (heaviest : ℕ) (share : Share) (pass : ℕ) → share.weight ≡ heaviest → share.first ≤ heaviest → pass < heaviest
    → plays heaviest pass share ≡ true
plays-always heaviest share pass most first h = grind (arith, nat_tests)

begins_each : (heaviest : ℕ) (share : Share) (others : List Share) (passes : List ℕ) → share.weight ≡ heaviest → share.first ≤ heaviest
    → All (λ pass. pass < heaviest) passes
    → All (λ pass. pass_turns heaviest (share ∷ others) pass ≡ share.server ∷ pass_turns heaviest others pass) passes
begins_each heaviest share others passes most first within =
    All-weaker (λ pass. pass < heaviest) (λ pass. pass_turns heaviest (share ∷ others) pass ≡ share.server ∷ pass_turns heaviest others pass)
    (λ pass (h : pass < heaviest). rw (plays-always heaviest share pass most first h) refl) passes within

pub no_turns : (heaviest : ℕ) (passes : List ℕ) → flat_map (pass_turns heaviest []) passes ≡ []
no_turns heaviest [] = refl
no_turns heaviest (pass ∷ passes) = no_turns heaviest passes

pub own_weight : (server : ServerId) (share : Share) (others : List Share) → eqb share.server.0 server.0 ≡ true
    → share.weight ≤ weight_of server (share ∷ others)
own_weight server share others own =
    let here : weight_in server share ≡ share.weight = rw own refl in
    omega (arith, sum_by-cons (weight_in server) share others, here)

apart_dealt : (rows : List ServerRow) (hostgroup : Hostgroup) (heaviest : ℕ) (share : Share) (others : List Share) (passes : List ℕ)
    → AreShares rows hostgroup heaviest (share ∷ others) → IsPermutation (upto heaviest) passes → All (λ pass. pass < heaviest) passes
    → (server : ServerId) → 2 * times server (flat_map (pass_turns heaviest (share ∷ others)) passes)
    ≤ length (flat_map (pass_turns heaviest (share ∷ others)) passes)
    → has_twice server (flat_map (pass_turns heaviest (share ∷ others)) passes ++ share.server ∷ []) ≡ false
apart_dealt rows hostgroup heaviest share others passes shares permuted within server few =
    let most : share.weight ≡ heaviest = shares.first share others refl in
    let fits = All-head (Fits heaviest) share others shares.fits in
    let size = dealt_all heaviest (share ∷ others) passes shares.fits permuted in
    let turns = dealt server heaviest (share ∷ others) passes shares.fits permuted in
    apart_in_passes server share.server (pass_turns heaviest (share ∷ others)) (pass_turns heaviest others) passes
    (begins_each heaviest share others passes most fits.1 within)
    (λ k d h. shares.once server _)
    (λ own.
    let enough : 2 * heaviest ≤ turns_in_all (share ∷ others) = omega
    (arith, few, size, turns, most, own_weight server share others own) in
    All-weaker (λ pass. pass < heaviest) (λ pass. 2 ≤ length (pass_turns heaviest (share ∷ others) pass))
    (λ pass (h : pass < heaviest). shares.even pass 2 h enough) passes within)

pub spread_dealt : (rows : List ServerRow) (hostgroup : Hostgroup) (heaviest : ℕ) (shares : List Share) (passes : List ℕ)
    → AreShares rows hostgroup heaviest shares → IsPermutation (upto heaviest) passes → All (λ pass. pass < heaviest) passes
    → IsSpread (flat_map (pass_turns heaviest shares) passes)
spread_dealt rows hostgroup heaviest [] passes shares permuted within =
    rw (no_turns heaviest passes) spread_none
spread_dealt rows hostgroup heaviest (share ∷ others) [] shares permuted within = spread_none
spread_dealt rows hostgroup heaviest (share ∷ others) (pass ∷ passes) shares permuted within =
    let most : share.weight ≡ heaviest = shares.first share others refl in
    let fits = All-head (Fits heaviest) share others shares.fits in
    let begun = begins_each heaviest share others (pass ∷ passes) most fits.1 within in
    spread_uncut (flat_map (pass_turns heaviest (share ∷ others)) (pass ∷ passes))
    (λ server few.
    ap (λ (first : List ServerId). has_twice server (flat_map (pass_turns heaviest (share ∷ others)) (pass ∷ passes) ++ first))
    (first-begins share.server (pass_turns heaviest (share ∷ others)) (pass_turns heaviest others) pass passes begun)
    ∙ apart_dealt rows hostgroup heaviest share others (pass ∷ passes) shares permuted within server few)

-- A round that goes on.

-- two cuts of one list: the second stands before the first, or behind it
two_cuts : (a b over coming : List ServerId) → a ++ b ≡ over ++ coming
    → ((between : List ServerId) × ((a ≡ over ++ between) × (coming ≡ between ++ b)))
    ⊎ ((between : List ServerId) × ((over ≡ a ++ between) × (b ≡ between ++ coming)))
two_cuts a b [] coming is = inl (a, (refl, sym is))
two_cuts [] b (turn ∷ over) coming is = inr (turn ∷ over, (refl, is))
two_cuts (first ∷ a) b (turn ∷ over) coming is =
    let one : first ≡ turn = cc in
    let rest : a ++ b ≡ over ++ coming = cc in
    elim (two_cuts a b over coming rest) [
      | inl before ↦ inl (before.0, (rw (one, before.1.0) refl, before.1.1))
      | inr later ↦ inr (later.0, (rw (one, later.1.0) refl, later.1.1))
    ]

-- what is true of a round wherever it is cut is true of a round from a later turn on
goes_on : (P : List ServerId → Type 0) (a b over coming : List ServerId)
    → ((over coming : List ServerId) → a ++ b ≡ over ++ coming → P (coming ++ over)) → b ++ a ≡ over ++ coming → P (coming ++ over)
goes_on P a b over coming all is =
    elim (two_cuts b a over coming is) [
      | inl before ↦
          let m = before.0 in
          let there : a ++ b ≡ a ++ over ++ m = ap (λ (ts : List ServerId). a ++ ts) before.1.0 ∙ sym (append_assoc a over m) in
          let same : coming ++ over ≡ m ++ (a ++ over) = ap (λ (ts : List ServerId). ts ++ over) before.1.1 ∙ append_assoc m a over in
          subst P (sym same) (all (a ++ over) m there)
      | inr later ↦
          let m = later.0 in
          let there : a ++ b ≡ m ++ (coming ++ b) = ap (λ (ts : List ServerId). ts ++ b) later.1.1 ∙ append_assoc m coming b in
          let same : coming ++ over ≡ coming ++ b ++ m =
          ap (λ (ts : List ServerId). coming ++ ts) later.1.0 ∙ sym (append_assoc coming b m) in
          subst P (sym same) (all m (coming ++ b) there)
    ]

apart-from_turn : (server : ServerId) (n k : ℕ) (turns : List ServerId) → IsApart server n turns → IsApart server n (from_turn k turns)
apart-from_turn server n k turns apart = λ over coming is.
    let whole : take k turns ++ drop k turns ≡ turns = take-append-drop k turns in
    goes_on (λ (ts : List ServerId). times server (take n ts) ≤ 1) (take k turns) (drop k turns) over coming (rw whole apart) is

pub spread-from_turn : (k : ℕ) (turns : List ServerId) → IsSpread turns → IsSpread (from_turn k turns)
spread-from_turn k turns spread = λ server few.
    apart-from_turn server 2 k turns
    (spread server (omega (arith, few, times-from_turn server k turns, length-from_turn k turns)))

pub even-from_turn : (k : ℕ) (turns : List ServerId) → IsEven turns → IsEven (from_turn k turns)
even-from_turn k turns even = λ server most n few.
    apart-from_turn server n k turns
    (even server (λ other. omega (arith, most other, times-from_turn other k turns, times-from_turn server k turns)) n
    (rw (times-from_turn server k turns, length-from_turn k turns) at few))
