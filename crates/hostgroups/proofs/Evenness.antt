-- The turns of a server of the greatest weight, in a round that was dealt.
use Rattle.std.proofs.Common.{◌≡◌, ℕ, zero, suc, ◌+◌, ◌*◌, ◌<◌, ◌≤◌, true, false, cond, eqb, List, [], ◌∷◌, ◌++◌, length, take, append_assoc, append-nil, length-append, IsPermutation, refl, sym, ap, subst, ◌∙◌, inl, inr, arith}
use Rattle.std.specs.List.{All, flat_map}
use Rattle.std.proofs.lemmas.Bool.{both_ways, cases_Bool, eq-eqb}
use Rattle.std.proofs.lemmas.Grind.{flat_map-append}
use Rattle.std.proofs.lemmas.Nat.{mul-le}
use Rattle.std.proofs.lemmas.List.{take-append-le}
use Rattle.std.proofs.lemmas.List.Elements.{All-append, All-cons, All-head, All-nil, All-tail, All-weaker}
use Rattle.std.proofs.lemmas.List.Sums.{sum_by-append, sum_by-cons, sum_by-take-le}
use Rattle.mx_base.specs.declared.names.Hostgroup.{Hostgroup}
use Rattle.mx_base.specs.declared.names.ServerId.{ServerId}
use Rattle.hostgroups.specs.declared.dealing.Share.{Share}
use Rattle.hostgroups.specs.declared.row.ServerRow.{ServerRow}
use Rattle.hostgroups.specs.Dealing.{AreShares, Fits, pass_turns, shares_of, turn_in, turns_in_all, upto, weight_in, weight_of}
use Rattle.hostgroups.specs.Turns.{IsApart, IsEven, IsFullRound, times}
use Rattle.hostgroups.proofs.Deals.{dealt, dealt_all}
use Rattle.hostgroups.proofs.Spread.{behind_other, bit_le, no_turns, other's, own_weight, plays-always, spread_dealt, times-cons}

-- no turn of the server stands among the n behind one of its own
abbrev Far : ServerId → (n : ℕ) → List ServerId → Type 0
Far server n [] = Unit
Far server n (turn ∷ turns) = (eqb turn.0 server.0 ≡ true → times server (take n turns) ≤ 0) × Far server n turns

take_more : (server : ServerId) (n : ℕ) (turns : List ServerId) → times server (take n turns) ≤ times server (take (suc n) turns)
take_more server zero turns = omega arith
take_more server (suc n) [] = omega arith
take_more server (suc n) (turn ∷ turns) =
    omega (
      arith,
      take_more server n turns,
      times-cons server turn (take n turns),
      times-cons server turn (take (suc n) turns),
    )

take_longer : (server : ServerId) (n : ℕ) (turns rest : List ServerId) → times server (take n turns) ≤ times server (take n (turns ++ rest))
take_longer server zero turns rest = omega arith
take_longer server (suc n) [] rest = omega arith
take_longer server (suc n) (turn ∷ turns) rest =
    omega (
      arith,
      take_longer server n turns rest,
      times-cons server turn (take n turns),
      times-cons server turn (take n (turns ++ rest)),
    )

far_apart : (server : ServerId) (n : ℕ) (turns : List ServerId) → Far server n turns → times server (take (suc n) turns) ≤ 1
far_apart server n [] far = omega arith
far_apart server n (turn ∷ turns) far =
    let all = times-cons server turn (take n turns) in
    elim (cases_Bool (eqb turn.0 server.0)) [
      | inl own ↦ omega (arith, all, far.0 own, bit_le (eqb turn.0 server.0))
      | inr other ↦
          let none : ◌≡◌ {A = ℕ} (cond (eqb turn.0 server.0) 1 0) 0 = rw other refl in
          omega (arith, all, none, far_apart server n turns far.1, take_more server n turns)
    ]

far_later : (server : ServerId) (n : ℕ) (over coming : List ServerId) → Far server n (over ++ coming) → Far server n coming
far_later server n [] coming far = far
far_later server n (turn ∷ over) coming far = far_later server n over coming far.1

far_behind : (server : ServerId) (n : ℕ) (turns rest : List ServerId) → times server turns ≤ 0 → Far server n rest
    → Far server n (turns ++ rest)
far_behind server n [] rest none far = far
far_behind server n (turn ∷ turns) rest none far = (
  λ own. absurd (both_ways _ (other's server turn turns none) own),
  far_behind server n turns rest (behind_other server turn turns 0 none) far,
)

gap_free : (server mine : ServerId) (n : ℕ) (before : List ServerId) (turns others : ℕ → List ServerId) (pass : ℕ) (passes : List ℕ)
    → All (λ p. turns p ≡ before ++ mine ∷ others p) passes → times server before ≤ 0 → times server (others pass) ≤ 0
    → n ≤ length (others pass) + length before → times server (take n (others pass ++ flat_map turns passes)) ≤ 0
gap_free server mine n before turns others pass [] are none free long =
    let whole : others pass ++ [] ≡ others pass = append-nil (others pass) in
    rw whole (omega (arith, free, sum_by-take-le (λ (t : ServerId). cond (eqb t.0 server.0) 1 0) (others pass) n))
gap_free server mine n before turns others pass (next ∷ passes) are none free long =
    let here : turns next ≡ before ++ mine ∷ others next = All-head (λ p. turns p ≡ before ++ mine ∷ others p) next passes are in
    let rest = mine ∷ others next ++ flat_map turns passes in
    let joined : others pass ++ (before ++ mine ∷ others next ++ flat_map turns passes) ≡ others pass ++ before
    ++ (mine ∷ (others next ++ flat_map turns passes)) =
    ap (λ (ts : List ServerId). others pass ++ ts) (append_assoc before (mine ∷ others next) (flat_map turns passes))
    ∙ sym (append_assoc (others pass) before (mine ∷ (others next ++ flat_map turns passes))) in
    let short : take n (others pass ++ before ++ (mine ∷ (others next ++ flat_map turns passes))) ≡ take n (others pass ++ before) =
    take-append-le n (others pass ++ before) (mine ∷ (others next ++ flat_map turns passes))
    (omega (arith, long, length-append (others pass) before)) in
    let none_in : times server (take n (others pass ++ before)) ≤ 0 =
    omega (
      arith,
      none,
      free,
      sum_by-take-le (λ (t : ServerId). cond (eqb t.0 server.0) 1 0) (others pass ++ before) n,
      sum_by-append (λ (t : ServerId). cond (eqb t.0 server.0) 1 0) (others pass) before,
    )
    in
    rw here (subst (λ (ts : List ServerId). times server (take n ts) ≤ 0) (sym joined)
    (subst (λ (ts : List ServerId). times server ts ≤ 0) (sym short) none_in))

-- passes in each of which the server has one turn, behind the same turns of others
far_in_passes : (server mine : ServerId) (n : ℕ) (before : List ServerId) (turns others : ℕ → List ServerId) (passes : List ℕ)
    → All (λ pass. turns pass ≡ before ++ mine ∷ others pass) passes → times server before ≤ 0
    → All (λ pass. times server (others pass) ≤ 0) passes
    → All (λ pass. n ≤ length (others pass) + length before) passes → Far server n (flat_map turns passes)
far_in_passes server mine n before turns others [] are none free long = tt
far_in_passes server mine n before turns others (pass ∷ passes) are none free long =
    let here : turns pass ≡ before ++ mine ∷ others pass = All-head (λ p. turns p ≡ before ++ mine ∷ others p) pass passes are in
    let are_later = All-tail (λ p. turns p ≡ before ++ mine ∷ others p) pass passes are in
    let free_here : times server (others pass) ≤ 0 = All-head (λ p. times server (others p) ≤ 0) pass passes free in
    let far : Far server n (flat_map turns passes) =
    far_in_passes server mine n before turns others passes are_later none (All-tail (λ p. times server (others p) ≤ 0) pass passes free)
    (All-tail (λ p. n ≤ length (others p) + length before) pass passes long) in
    let gap : times server (take n (others pass ++ flat_map turns passes)) ≤ 0 =
    gap_free server mine n before turns others pass passes are_later none free_here
    (All-head (λ p. n ≤ length (others p) + length before) pass passes long) in
    let joined : before ++ mine ∷ others pass ++ flat_map turns passes ≡ before ++ (mine ∷ (others pass ++ flat_map turns passes)) =
    append_assoc before (mine ∷ others pass) (flat_map turns passes) in
    rw here (subst (Far server n) (sym joined)
    (far_behind server n before (mine ∷ (others pass ++ flat_map turns passes)) none
    (λ own. gap, far_behind server n (others pass) (flat_map turns passes) free_here far)))

far_cut : (server : ServerId) (n : ℕ) (turns : List ServerId) → Far server n (turns ++ turns) → IsApart server (suc n) turns
far_cut server n turns far = λ over coming is.
    let twice : Far server n (over ++ coming ++ (over ++ coming)) = rw is at far in
    let rest : Far server n (coming ++ (over ++ coming)) = far_later server n over (coming ++ (over ++ coming))
    (subst (Far server n) (append_assoc over coming (over ++ coming)) twice) in
    let apart : times server (take (suc n) (coming ++ over ++ coming)) ≤ 1 = far_apart server n (coming ++ over ++ coming)
    (subst (Far server n) (sym (append_assoc coming over coming)) rest) in
    omega (arith, apart, take_longer server (suc n) (coming ++ over) coming)

-- the share of a server among shares
record Found (server : ServerId) (shares : List Share) : Type 0 where
  before : List Share
  mine : Share
  behind : List Share
  parts : shares ≡ before ++ mine ∷ behind
  own : eqb mine.server.0 server.0 ≡ true
  first : shares_of server before ≤ 0

shares_of-cons : (server : ServerId) (share : Share) (shares : List Share)
    → shares_of server (share ∷ shares) ≡ cond (eqb share.server.0 server.0) 1 0 + shares_of server shares
shares_of-cons server share shares = sum_by-cons (λ (s : Share). cond (eqb s.server.0 server.0) 1 0) share shares

find_share : (server : ServerId) (shares : List Share) → 1 ≤ weight_of server shares → Found server shares
find_share server [] h = absurd (omega arith)
find_share server (share ∷ shares) h =
    elim (cases_Bool (eqb share.server.0 server.0)) [
      | inl own ↦ record { before = []; mine = share; behind = shares; parts = refl; own = own; first = omega arith }
      | inr other ↦
          let light : weight_in server share ≡ 0 = rw other refl in
          let none : ◌≡◌ {A = ℕ} (cond (eqb share.server.0 server.0) 1 0) 0 = rw other refl in
          let rest = find_share server shares (omega (arith, h, light, sum_by-cons (weight_in server) share shares)) in
          record {
            before = share ∷ rest.before;
            mine = rest.mine;
            behind = rest.behind;
            parts = ap (λ (ss : List Share). share ∷ ss) rest.parts;
            own = rest.own;
            first = omega (arith, rest.first, none, shares_of-cons server share rest.before);
          }
    ]

no_share : (server : ServerId) (share : Share) (shares : List Share) → shares_of server (share ∷ shares) ≤ 0
    → eqb share.server.0 server.0 ≡ false
no_share server share shares none =
    elim (cases_Bool (eqb share.server.0 server.0)) [
      | inl own ↦
          let one : ◌≡◌ {A = ℕ} (cond (eqb share.server.0 server.0) 1 0) 1 = rw own refl in
          absurd (omega (arith, none, one, shares_of-cons server share shares))
      | inr other ↦ other
    ]

no_weight : (server : ServerId) (shares : List Share) → shares_of server shares ≤ 0 → weight_of server shares ≤ 0
no_weight server [] none = omega arith
no_weight server (share ∷ shares) none =
    let light : weight_in server share ≡ 0 = rw (no_share server share shares none) refl in
    omega (
      arith,
      light,
      sum_by-cons (weight_in server) share shares,
      no_weight server shares (omega (arith, none, shares_of-cons server share shares)),
    )

abbrev servers_of : List Share → List ServerId
servers_of [] = []
servers_of (share ∷ shares) = share.server ∷ servers_of shares

not_among : (server : ServerId) (shares : List Share) → shares_of server shares ≤ 0 → times server (servers_of shares) ≤ 0
not_among server [] none = omega arith
not_among server (share ∷ shares) none =
    let other : ◌≡◌ {A = ℕ} (cond (eqb share.server.0 server.0) 1 0) 0 = rw (no_share server share shares none) refl in
    omega (
      arith,
      other,
      times-cons server share.server (servers_of shares),
      not_among server shares (omega (arith, none, shares_of-cons server share shares)),
    )

-- shares of the greatest weight all have a turn in each pass
all_play : (heaviest pass : ℕ) (shares : List Share) → All (λ (s : Share). heaviest ≤ s.weight) shares → All (Fits heaviest) shares
    → pass < heaviest → pass_turns heaviest shares pass ≡ servers_of shares
all_play heaviest pass [] heavy fits h = refl
all_play heaviest pass (share ∷ shares) heavy fits h =
    let fit = All-head (Fits heaviest) share shares fits in
    let most : share.weight ≡ heaviest = omega (arith, fit.0, All-head (λ (s : Share). heaviest ≤ s.weight) share shares heavy) in
    let rest : pass_turns heaviest shares pass ≡ servers_of shares =
    all_play heaviest pass shares (All-tail (λ (s : Share). heaviest ≤ s.weight) share shares heavy)
    (All-tail (Fits heaviest) share shares fits) h in
    rw (plays-always heaviest share pass most fit.1 h) (ap (λ (ts : List ServerId). share.server ∷ ts) rest)

pass_parts : (heaviest pass : ℕ) (before : List Share) (mine : Share) (behind : List Share)
    → All (λ (s : Share). heaviest ≤ s.weight) before → All (Fits heaviest) before → mine.weight ≡ heaviest → mine.first ≤ heaviest
    → pass < heaviest
    → pass_turns heaviest (before ++ mine ∷ behind) pass ≡ servers_of before ++ mine.server ∷ pass_turns heaviest behind pass
pass_parts heaviest pass before mine behind heavy fits most first h =
    flat_map-append (turn_in heaviest pass) before (mine ∷ behind)
    ∙ ap (λ (ts : List ServerId). ts ++ pass_turns heaviest (mine ∷ behind) pass) (all_play heaviest pass before heavy fits h)
    ∙ rw (plays-always heaviest mine pass most first h) refl

All-parts : {X : Type 0} (P : X → Type 0) (xs ys : List X) → All P (xs ++ ys) → All P xs × All P ys
All-parts P [] ys all = (All-nil P, all)
All-parts P (x ∷ xs) ys all =
    let rest = All-parts P xs ys (All-tail P x (xs ++ ys) all) in
    (All-cons P x xs (All-head P x (xs ++ ys) all) rest.0, rest.1)

-- what is known of a pass where a server of the greatest weight is found
record Part (server : ServerId) (heaviest n : ℕ) (before : List Share) (mine : Share) (behind : List Share) (pass : ℕ) : Type 0 where
  turns : pass_turns heaviest (before ++ mine ∷ behind) pass ≡ servers_of before ++ mine.server ∷ pass_turns heaviest behind pass
  free : times server (pass_turns heaviest behind pass) ≤ 0
  long : n ≤ length (pass_turns heaviest behind pass) + length (servers_of before)

part_of : (rows : List ServerRow) (hostgroup : Hostgroup) (server : ServerId) (heaviest n : ℕ) (before : List Share) (mine : Share)
    (behind : List Share) → AreShares rows hostgroup heaviest (before ++ mine ∷ behind) → eqb mine.server.0 server.0 ≡ true
    → heaviest ≤ mine.weight
    → suc n * heaviest ≤ turns_in_all (before ++ mine ∷ behind) → (pass : ℕ) → pass < heaviest
    → Part server heaviest n before mine behind pass
part_of rows hostgroup server heaviest n before mine behind shares own heavy room pass h =
    let fits = All-parts (Fits heaviest) before (mine ∷ behind) shares.fits in
    let fit = All-head (Fits heaviest) mine behind fits.1 in
    let most : mine.weight ≡ heaviest = omega (arith, fit.0, heavy) in
    let all_heavy : All (λ (s : Share). heaviest ≤ s.weight) before =
    All-weaker (λ (s : Share). mine.weight ≤ s.weight) (λ (s : Share). heaviest ≤ s.weight)
    (λ s (le : mine.weight ≤ s.weight). omega (arith, le, heavy)) before (shares.ordered before mine behind refl) in
    let turns : pass_turns heaviest (before ++ mine ∷ behind) pass ≡ servers_of before ++ mine.server ∷ pass_turns heaviest behind pass =
    pass_parts heaviest pass before mine behind all_heavy fits.0 most fit.1 h in
    let one : ◌≡◌ {A = ℕ} (cond (eqb mine.server.0 server.0) 1 0) 1 = rw own refl in
    let once : times server (servers_of before ++ mine.server ∷ pass_turns heaviest behind pass) ≤ 1 = rw turns at (shares.once server pass)
    in
    let size : suc n ≤ length (servers_of before ++ mine.server ∷ pass_turns heaviest behind pass) = rw turns at
    (shares.even pass (suc n) h room) in
    record {
      turns = turns;
      free = omega (
        arith,
        once,
        one,
        times-cons server mine.server (pass_turns heaviest behind pass),
        sum_by-append (λ (t : ServerId). cond (eqb t.0 server.0) 1 0) (servers_of before) (mine.server ∷ pass_turns heaviest behind pass),
      );
      long = omega (arith, size, length-append (servers_of before) (mine.server ∷ pass_turns heaviest behind pass));
    }

far_of_heavy : (rows : List ServerRow) (hostgroup : Hostgroup) (server : ServerId) (heaviest n : ℕ) (before : List Share) (mine : Share)
    (behind : List Share) (passes : List ℕ) → AreShares rows hostgroup heaviest (before ++ mine ∷ behind)
    → eqb mine.server.0 server.0 ≡ true → shares_of server before ≤ 0 → heaviest ≤ mine.weight
    → suc n * heaviest ≤ turns_in_all (before ++ mine ∷ behind) → All (λ pass. pass < heaviest) passes
    → Far server n (flat_map (pass_turns heaviest (before ++ mine ∷ behind)) passes)
far_of_heavy rows hostgroup server heaviest n before mine behind passes shares own first heavy room within =
    let turns = pass_turns heaviest (before ++ mine ∷ behind) in
    let others = pass_turns heaviest behind in
    let parts : All (Part server heaviest n before mine behind) passes =
    All-weaker (λ pass. pass < heaviest) (Part server heaviest n before mine behind)
    (part_of rows hostgroup server heaviest n before mine behind shares own heavy room) passes within in
    far_in_passes server mine.server n (servers_of before) turns others passes
    (All-weaker (Part server heaviest n before mine behind)
    (λ pass. pass_turns heaviest (before ++ mine ∷ behind) pass ≡ servers_of before ++ mine.server ∷ pass_turns heaviest behind pass)
    (λ pass (part : Part server heaviest n before mine behind pass). part.turns) passes parts)
    (not_among server before first)
    (All-weaker (Part server heaviest n before mine behind) (λ pass. times server (pass_turns heaviest behind pass) ≤ 0)
    (λ pass (part : Part server heaviest n before mine behind pass). part.free) passes parts)
    (All-weaker (Part server heaviest n before mine behind)
    (λ pass. n ≤ length (pass_turns heaviest behind pass) + length (servers_of before))
    (λ pass (part : Part server heaviest n before mine behind pass). part.long) passes parts)

even_of : (rows : List ServerRow) (hostgroup : Hostgroup) (server : ServerId) (heaviest n : ℕ) (shares : List Share) (passes : List ℕ)
    → AreShares rows hostgroup heaviest shares → heaviest ≤ weight_of server shares → 0 < heaviest
    → suc n * weight_of server shares ≤ turns_in_all shares → All (λ pass. pass < heaviest) passes
    → IsApart server (suc n) (flat_map (pass_turns heaviest shares) passes)
even_of rows hostgroup server heaviest n shares passes are heavy some room within =
    let found = find_share server shares (omega (arith, heavy, some)) in
    let cut_shares : AreShares rows hostgroup heaviest (found.before ++ found.mine ∷ found.behind) = rw found.parts at are in
    let one : ◌≡◌ {A = ℕ} (cond (eqb found.mine.server.0 server.0) 1 0) 1 = rw found.own refl in
    let none_behind : shares_of server found.behind ≤ 0 = omega (
      arith,
      cut_shares.single server,
      one,
      shares_of-cons server found.mine found.behind,
      sum_by-append (λ (s : Share). cond (eqb s.server.0 server.0) 1 0) found.before (found.mine ∷ found.behind),
    )
    in
    let own : weight_in server found.mine ≡ found.mine.weight = rw found.own refl in
    let whole : heaviest ≤ weight_of server (found.before ++ found.mine ∷ found.behind) = rw found.parts at heavy in
    let mine : heaviest ≤ found.mine.weight = omega (
      arith,
      whole,
      own,
      no_weight server found.before found.first,
      no_weight server found.behind none_behind,
      sum_by-cons (weight_in server) found.mine found.behind,
      sum_by-append (weight_in server) found.before (found.mine ∷ found.behind),
    )
    in
    let less : suc n * heaviest ≤ suc n * weight_of server shares = mul-le (suc n) heaviest (suc n) (weight_of server shares) (omega arith)
    heavy in
    let room_uncut : suc n * heaviest ≤ turns_in_all shares = omega (arith, less, room) in
    let room_cut : suc n * heaviest ≤ turns_in_all (found.before ++ found.mine ∷ found.behind) = rw found.parts at room_uncut in
    let far : Far server n (flat_map (pass_turns heaviest (found.before ++ found.mine ∷ found.behind)) (passes ++ passes)) =
    far_of_heavy rows hostgroup server heaviest n found.before found.mine found.behind (passes ++ passes) cut_shares found.own found.first
    mine room_cut (All-append (λ pass. pass < heaviest) passes passes within within) in
    rw found.parts (far_cut server n (flat_map (pass_turns heaviest (found.before ++ found.mine ∷ found.behind)) passes)
    (subst (Far server n) (flat_map-append (pass_turns heaviest (found.before ++ found.mine ∷ found.behind)) passes passes) far))

pub even_none : IsEven []
even_none = λ server most n few over coming is.
    let all : times server (over ++ coming) ≡ 0 = sym (ap (times server) is) in
    omega (
      arith,
      all,
      sum_by-append (λ (t : ServerId). cond (eqb t.0 server.0) 1 0) over coming,
      sum_by-append (λ (t : ServerId). cond (eqb t.0 server.0) 1 0) coming over,
      sum_by-take-le (λ (t : ServerId). cond (eqb t.0 server.0) 1 0) (coming ++ over) n,
    )

even_some : (rows : List ServerRow) (hostgroup : Hostgroup) (heaviest : ℕ) (share : Share) (others : List Share) (passes : List ℕ)
    → AreShares rows hostgroup heaviest (share ∷ others) → IsPermutation (upto heaviest) passes → All (λ pass. pass < heaviest) passes
    → 0 < heaviest → IsEven (flat_map (pass_turns heaviest (share ∷ others)) passes)
even_some rows hostgroup heaviest share others passes shares permuted within some server most zero few = λ over coming is. omega arith
even_some rows hostgroup heaviest share others passes shares permuted within some server most (suc n) few =
    let size = dealt_all heaviest (share ∷ others) passes shares.fits permuted in
    let turns = dealt server heaviest (share ∷ others) passes shares.fits permuted in
    let first = dealt share.server heaviest (share ∷ others) passes shares.fits permuted in
    let heavy : heaviest ≤ weight_of server (share ∷ others) = omega (
      arith,
      turns,
      first,
      most share.server,
      shares.first share others refl,
      own_weight share.server share others (eq-eqb share.server.0 share.server.0 refl),
    )
    in
    even_of rows hostgroup server heaviest n (share ∷ others) passes shares heavy some (rw (turns, size) at few) within

pub even_dealt : (rows : List ServerRow) (hostgroup : Hostgroup) (heaviest : ℕ) (shares : List Share) (passes : List ℕ)
    → AreShares rows hostgroup heaviest shares → IsPermutation (upto heaviest) passes → All (λ pass. pass < heaviest) passes
    → IsEven (flat_map (pass_turns heaviest shares) passes)
even_dealt rows hostgroup heaviest [] passes shares permuted within = rw (no_turns heaviest passes) even_none
even_dealt rows hostgroup heaviest (share ∷ others) [] shares permuted within = even_none
even_dealt rows hostgroup heaviest (share ∷ others) (pass ∷ passes) shares permuted within =
    let some : pass < heaviest = All-head (λ p. p < heaviest) pass passes within in
    even_some rows hostgroup heaviest share others (pass ∷ passes) shares permuted within (omega (arith, some))

pub round_dealt : (rows : List ServerRow) (hostgroup : Hostgroup) (heaviest : ℕ) (shares : List Share) (passes : List ℕ)
    → AreShares rows hostgroup heaviest shares → IsPermutation (upto heaviest) passes → All (λ pass. pass < heaviest) passes
    → IsFullRound rows hostgroup (flat_map (pass_turns heaviest shares) passes)
round_dealt rows hostgroup heaviest shares passes are permuted within = record {
  as_often = λ server. dealt server heaviest shares passes are.fits permuted ∙ are.weights server;
  whole = dealt_all heaviest shares passes are.fits permuted ∙ are.whole;
  spread = spread_dealt rows hostgroup heaviest shares passes are permuted within;
  even = even_dealt rows hostgroup heaviest shares passes are permuted within;
}
