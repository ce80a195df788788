-- Which servers are picked, and how often.
use Rattle.std.proofs.Common.{◌≡◌, ℕ, zero, suc, ◌+◌, ◌*◌, ◌<◌, ◌≤◌, Bool, true, false, not, cond, eqb, leb, List, [], ◌∷◌, ◌++◌, length, map, take, drop, get_or, Option, Some, None, append_assoc, append-nil, refl, sym, ap, subst, ◌∙◌, inl, inr, arith}
use Rattle.std.specs.Prelude.{slice_get}
use Rattle.std.specs.List.{All, find, list_any, position_or_len}
use Rattle.std.specs.Option.{IfNone, IfSome, option_map}
use Rattle.std.proofs.lemmas.Bool.{and_parts, cases_Bool, eqb-true, eq-eqb, false_from_ne_true, not-true, or_left, or_right}
use Rattle.std.proofs.lemmas.Bool.Decides.{nat_tests}
use Rattle.std.proofs.lemmas.Nat.{mul-le}
use Rattle.std.proofs.lemmas.List.{length-map, length-take-le, take-append-drop}
use Rattle.std.proofs.lemmas.List.Elements.{All-cons, All-head, All-nil, All-tail, All-take, All-weaker, All-get_or}
use Rattle.std.proofs.lemmas.List.Sums.{sum_by-cons}
use Rattle.std.proofs.lemmas.Option.{slice_get-map, slice_get_within, get_or_from_slice_get}
use Rattle.mx_base.specs.declared.names.Hostgroup.{Hostgroup}
use Rattle.mx_base.specs.declared.names.ServerId.{ServerId}
use Rattle.hostgroups.specs.declared.row.ServerRow.{ServerRow}
use Rattle.hostgroups.specs.declared.server.Server.{Server}
use Rattle.hostgroups.specs.Picks.{AllReady, IsRoundOfPicks, after_pick, is_ready, is_server, picked, picks, times_picked}
use Rattle.hostgroups.specs.Rounds.{AreFull, Coming, turns_of}
use Rattle.hostgroups.specs.Servers.{belongs, belongs_there, in_force, nth, rows_of, turning, turning_rows}
use Rattle.hostgroups.specs.Tables.{Holds, Table}
use Rattle.hostgroups.specs.Turns.{IsApart, IsFullRound, behind, from_turn, is_in, row_at, times, weight_of_all, weight_there, weights_in}
use Rattle.hostgroups.proofs.Building.{rows_of-in_force}
use Rattle.hostgroups.proofs.Changes.{Same}
use Rattle.hostgroups.proofs.Lookups.{either-with_turns, turns_of-with_turns}
use Rattle.hostgroups.proofs.Spread.{even-from_turn, spread-from_turn}
use Rattle.hostgroups.proofs.Turning.{length-from_turn, times-from_turn}

numbered : ℕ → ServerId
numbered n = record { 0 = n }

same_number : (a b : ServerId) → eqb a.0 b.0 ≡ true → a ≡ b
unfolding numbered
same_number a b same = let moved : numbered a.0 ≡ numbered b.0 = ap numbered (eqb-true a.0 b.0 same) in moved

times-cons : (server turn : ServerId) (turns : List ServerId)
    → times server (turn ∷ turns) ≡ cond (eqb turn.0 server.0) 1 0 + times server turns
times-cons server turn turns = sum_by-cons (λ (t : ServerId). cond (eqb t.0 server.0) 1 0) turn turns

first_is : (server turn : ServerId) (turns : List ServerId) → eqb turn.0 server.0 ≡ true → 1 ≤ times server (turn ∷ turns)
first_is server turn turns same =
    let one : ◌≡◌ {A = ℕ} (cond (eqb turn.0 server.0) 1 0) 1 = rw same refl in
    omega (arith, times-cons server turn turns, one)

first_stands : (turn : ServerId) (turns : List ServerId) → 1 ≤ times turn (turn ∷ turns)
first_stands turn turns = first_is turn turn turns (eq-eqb turn.0 turn.0 refl)

rest_stands : (server turn : ServerId) (turns : List ServerId) → 1 ≤ times server turns → 1 ≤ times server (turn ∷ turns)
rest_stands server turn turns h = omega (arith, times-cons server turn turns, h)

-- a server that stands among turns
stands_in : (server turn : ServerId) (turns : List ServerId) → eqb turn.0 server.0 ≡ false → 1 ≤ times server (turn ∷ turns)
    → 1 ≤ times server turns
stands_in server turn turns other h =
    let none : ◌≡◌ {A = ℕ} (cond (eqb turn.0 server.0) 1 0) 0 = rw other refl in
    omega (arith, times-cons server turn turns, none, h)

find_some : (test : ServerId → Bool) (turns : List ServerId) (server : ServerId) → find test turns ≡ Some server
    → (test server ≡ true) × (1 ≤ times server turns)
find_some test [] server some = absurd cc
find_some test (turn ∷ turns) server some =
    elim (cases_Bool (test turn)) [
      | inl here ↦
          let found : Some turn ≡ Some server = rw here at some in
          let one : turn ≡ server = cc in
          (rw one at here, first_is server turn turns (eq-eqb turn.0 server.0 (ap (λ (t : ServerId). t.0) one)))
      | inr not ↦
          let rest = find_some test turns server (rw not at some) in
          (rest.0, rest_stands server turn turns rest.1)
    ]

find_none : (test : ServerId → Bool) (turns : List ServerId) (server : ServerId) → find test turns ≡ None → 1 ≤ times server turns
    → test server ≡ false
find_none test [] server none h = absurd (omega arith)
find_none test (turn ∷ turns) server none h =
    elim (cases_Bool (test turn)) [
      | inl here ↦ let some : Some turn ≡ None = rw here at none in absurd cc
      | inr not ↦
          elim (cases_Bool (eqb turn.0 server.0)) [
            | inl same ↦ rw (same_number turn server same) at not
            | inr other ↦ find_none test turns server (rw not at none) (stands_in server turn turns other h)
          ]
    ]

any_some : (test : ServerId → Bool) (turns : List ServerId) → list_any test turns ≡ true
    → (server : ServerId) × ((test server ≡ true) × (1 ≤ times server turns))
any_some test [] any = absurd cc
any_some test (turn ∷ turns) any =
    elim (cases_Bool (test turn)) [
      | inl here ↦ (turn, (here, first_stands turn turns))
      | inr not ↦
          let rest = any_some test turns (rw not at any) in
          (rest.0, (rest.1.0, rest_stands rest.0 turn turns rest.1.1))
    ]

any_from : (test : ServerId → Bool) (turns : List ServerId) (server : ServerId) → test server ≡ true → 1 ≤ times server turns
    → list_any test turns ≡ true
any_from test [] server is h = absurd (omega arith)
any_from test (turn ∷ turns) server is h =
    elim (cases_Bool (eqb turn.0 server.0)) [
      | inl same ↦ or_left (test turn) (list_any test turns) (rw (← same_number turn server same) at is)
      | inr other ↦ or_right (test turn) (list_any test turns) (any_from test turns server is (stands_in server turn turns other h))
    ]

-- The servers of a hostgroup are those that stand in its round.

there-belongs : (hostgroup : Hostgroup) (o : Option Server) → 1 ≤ weight_there hostgroup (option_map turning o)
    → belongs_there hostgroup o ≡ true
there-belongs hostgroup None h = absurd (omega arith)
there-belongs hostgroup (Some server) h =
    elim (cases_Bool (is_in hostgroup server.row)) [
      | inl in' ↦ elim (cases_Bool server.gone) [
        | inl gone ↦ let nothing : 1 ≤ 0 = rw (in', gone) at h in absurd (omega (arith, nothing))
        | inr there ↦ rw (in', there) refl
      ]
      | inr out ↦ let nothing : 1 ≤ 0 = rw out at h in absurd (omega (arith, nothing))
    ]

belongs-there : (hostgroup : Hostgroup) (o : Option Server) → ((server : Server) → o ≡ Some server → 1 ≤ server.row.weight)
    → belongs_there hostgroup o ≡ true → 1 ≤ weight_there hostgroup (option_map turning o)
belongs-there hostgroup None weights h = absurd cc
belongs-there hostgroup (Some server) weights h =
    let both = and_parts (is_in hostgroup server.row) (not server.gone) h in
    let there : server.gone ≡ false = not-true server.gone both.1 in
    rw (both.0, there) (weights server refl)

row_of : (servers : List Server) (n : ℕ) → row_at (turning_rows servers) n ≡ option_map turning (nth servers n)
row_of servers zero = refl
row_of servers (suc n) = slice_get-map turning servers n

weighs : (servers : List Server) (n : ℕ) → All (λ (row : ServerRow). 1 ≤ row.weight) (rows_of servers) → (server : Server)
    → nth servers n ≡ Some server → 1 ≤ server.row.weight
weighs servers zero all server some = absurd cc
weighs servers (suc n) all server some =
    let row : slice_get (rows_of servers) n ≡ Some server.row = rw some at (slice_get-map (λ (s : Server). s.row) servers n) in
    let within : n < length (rows_of servers) = slice_get_within (rows_of servers) n server.row row in
    let same : get_or (rows_of servers) n server.row ≡ server.row = get_or_from_slice_get (rows_of servers) n server.row server.row row in
    rw same at (All-get_or (λ (r : ServerRow). 1 ≤ r.weight) (rows_of servers) n server.row within all)

pub standing_belongs : (table : Table) (hostgroup : Hostgroup) (server : ServerId) → Holds table
    → 1 ≤ times server (turns_of table.rounds hostgroup) → belongs table.servers hostgroup server ≡ true
standing_belongs table hostgroup server holds h =
    there-belongs hostgroup (nth table.servers server.0) (rw (← row_of table.servers server.0) (rw (← (holds.full hostgroup).as_often server) h))

pub belonging_stands : (table : Table) (hostgroup : Hostgroup) (server : ServerId) → Holds table
    → belongs table.servers hostgroup server ≡ true → 1 ≤ times server (turns_of table.rounds hostgroup)
belonging_stands table hostgroup server holds h =
    rw ((holds.full hostgroup).as_often server, row_of table.servers server.0)
    (belongs-there hostgroup (nth table.servers server.0) (weighs table.servers server.0 holds.weights) h)

-- One pick.

pub picked_some : (table : Table) (hostgroup : Hostgroup) (counts : List ℕ) (server : ServerId) → Holds table
    → picked table hostgroup counts ≡ Some server
    → (belongs table.servers hostgroup server ≡ true) × (is_ready table.servers counts server ≡ true)
picked_some table hostgroup counts server holds some =
    let is = find_some (is_ready table.servers counts) (turns_of table.rounds hostgroup) server some in
    (standing_belongs table hostgroup server holds is.1, is.0)

pub picked_none : (table : Table) (hostgroup : Hostgroup) (counts : List ℕ) → Holds table → picked table hostgroup counts ≡ None
    → (server : ServerId) → belongs table.servers hostgroup server ≡ true → is_ready table.servers counts server ≡ false
picked_none table hostgroup counts holds none server there =
    find_none (is_ready table.servers counts) (turns_of table.rounds hostgroup) server none
    (belonging_stands table hostgroup server holds there)

pub any_online : (table : Table) (hostgroup : Hostgroup) (test : ServerId → Bool) → Holds table
    → list_any test (turns_of table.rounds hostgroup) ≡ true
    → (server : ServerId) × ((belongs table.servers hostgroup server ≡ true) × (test server ≡ true))
any_online table hostgroup test holds any =
    let one = any_some test (turns_of table.rounds hostgroup) any in
    (one.0, (standing_belongs table hostgroup one.0 holds one.1.1, one.1.0))

pub online_any : (table : Table) (hostgroup : Hostgroup) (test : ServerId → Bool) → Holds table → (server : ServerId)
    → belongs table.servers hostgroup server ≡ true → test server ≡ true
    → list_any test (turns_of table.rounds hostgroup) ≡ true
online_any table hostgroup test holds server there is =
    any_from test (turns_of table.rounds hostgroup) server is (belonging_stands table hostgroup server holds there)

pub picked_ready : (table : Table) (hostgroup : Hostgroup) (counts : List ℕ) (o : Option ServerId) → Holds table
    → o ≡ picked table hostgroup counts
    → IfSome o (λ server. (belongs table.servers hostgroup server ≡ true) × (is_ready table.servers counts server ≡ true))
picked_ready table hostgroup counts None holds is = tt
picked_ready table hostgroup counts (Some server) holds is = picked_some table hostgroup counts server holds (sym is)

pub picked_nobody : (table : Table) (hostgroup : Hostgroup) (counts : List ℕ) (o : Option ServerId) → Holds table
    → o ≡ picked table hostgroup counts
    → IfNone o ((server : ServerId) → belongs table.servers hostgroup server ≡ true → is_ready table.servers counts server ≡ false)
picked_nobody table hostgroup counts None holds is = picked_none table hostgroup counts holds (sym is)
picked_nobody table hostgroup counts (Some server) holds is = tt

full_rotated : (rows : List ServerRow) (hostgroup : Hostgroup) (k : ℕ) (turns : List ServerId) → IsFullRound rows hostgroup turns
    → IsFullRound rows hostgroup (from_turn k turns)
full_rotated rows hostgroup k turns full = record {
  as_often = λ server. times-from_turn server k turns ∙ full.as_often server;
  whole = length-from_turn k turns ∙ full.whole;
  spread = spread-from_turn k turns full.spread;
  even = even-from_turn k turns full.even;
}

-- a pick leaves each round full
pub holds_after_pick : (table : Table) (hostgroup : Hostgroup) (counts : List ℕ) → Holds table → Holds (after_pick table hostgroup counts)
holds_after_pick table hostgroup counts holds = record {
  full = λ other.
      let turns = turns_of table.rounds hostgroup in
      let over = position_or_len (is_ready table.servers counts) turns + 1 in
      elim (either-with_turns table.rounds hostgroup (from_turn over turns) other) [
        | inl kept ↦ rw kept (holds.full other)
        | inr written ↦
            rw written.0 (full_rotated (turning_rows table.servers) other over turns (rw written.1 at (holds.full other)))
      ];
  weights = holds.weights;
  few = holds.few;
}

-- so does a change of statuses
pub holds_same_rows : (servers other : List Server) (rounds : List Coming) → Same servers other
    → Holds (record { servers = servers; rounds = rounds }) → Holds (record { servers = other; rounds = rounds })
holds_same_rows servers other rounds same holds =
    let long : length other ≡ length servers =
    sym (length-map other (λ (s : Server). s.row)) ∙ ap length same.rows ∙ length-map servers (λ (s : Server). s.row) in
    record { full = rw same.turns holds.full; weights = rw same.rows holds.weights; few = omega (arith, long, holds.few) }

turning-in_force : (rows : List ServerRow) → turning_rows (map in_force rows) ≡ rows
turning-in_force [] = refl
turning-in_force (row ∷ rows) = ap (λ (rest : List ServerRow). row ∷ rest) (turning-in_force rows)

pub holds_built : (rows : List ServerRow) (rounds : List Coming) → All (λ (row : ServerRow). 1 ≤ row.weight) rows → AreFull rows rounds
    → length rows ≤ 1024 → Holds (record { servers = map in_force rows; rounds = rounds })
holds_built rows rounds weights full short =
    let long : length (map in_force rows) ≡ length rows = length-map rows in_force in
    record { full = rw (turning-in_force rows) full; weights = rw (rows_of-in_force rows) weights; few = omega (arith, long, short) }

-- Many picks.

-- where the next is ready, its turn is over
behind_first : (ready : ServerId → Bool) (turn : ServerId) (turns : List ServerId) → ready turn ≡ true
    → behind ready (turn ∷ turns) ≡ turns ++ turn ∷ []
behind_first ready turn turns is = rw is refl

in_order : (xs ys : List ServerId) (table : Table) (hostgroup : Hostgroup) (counts : List (List ℕ)) → length counts ≡ length xs
    → turns_of table.rounds hostgroup ≡ xs ++ ys
    → All (λ cs. All (λ (turn : ServerId). is_ready table.servers cs turn ≡ true) xs) counts → picks table hostgroup counts ≡ map
    (λ (turn : ServerId). Some turn) xs
in_order [] ys table hostgroup [] same turns ready = refl
in_order [] ys table hostgroup (cs ∷ counts) same turns ready = absurd (omega arith)
in_order (x ∷ xs) ys table hostgroup [] same turns ready = absurd (omega arith)
in_order (x ∷ xs) ys table hostgroup (cs ∷ counts) same turns ready =
    let now : is_ready table.servers cs x ≡ true =
    All-head (λ (turn : ServerId). is_ready table.servers cs turn ≡ true) x xs
    (All-head (λ (c : List ℕ). All (λ (turn : ServerId). is_ready table.servers c turn ≡ true) (x ∷ xs)) cs counts ready) in
    let later : All (λ (c : List ℕ). All (λ (turn : ServerId). is_ready table.servers c turn ≡ true) xs) counts =
    All-weaker (λ (c : List ℕ). All (λ (turn : ServerId). is_ready table.servers c turn ≡ true) (x ∷ xs))
    (λ (c : List ℕ). All (λ (turn : ServerId). is_ready table.servers c turn ≡ true) xs)
    (λ c (all : All (λ (turn : ServerId). is_ready table.servers c turn ≡ true) (x ∷ xs)). All-tail
    (λ (turn : ServerId). is_ready table.servers c turn ≡ true) x xs all) counts
    (All-tail (λ (c : List ℕ). All (λ (turn : ServerId). is_ready table.servers c turn ≡ true) (x ∷ xs)) cs counts ready) in
    let some : 0 < length (turns_of table.rounds hostgroup) = rw turns (omega arith) in
    let next : turns_of (after_pick table hostgroup cs).rounds hostgroup ≡ xs ++ (ys ++ x ∷ []) =
    turns_of-with_turns table.rounds hostgroup (behind (is_ready table.servers cs) (turns_of table.rounds hostgroup)) some
    ∙ rw turns (behind_first (is_ready table.servers cs) x (xs ++ ys) now)
    ∙ append_assoc xs ys (x ∷ []) in
    let first : picked table hostgroup cs ≡ Some x = rw (turns, now) refl in
    let rest : picks (after_pick table hostgroup cs) hostgroup counts ≡ map (λ (turn : ServerId). Some turn) xs =
    in_order xs (ys ++ x ∷ []) (after_pick table hostgroup cs) hostgroup counts (omega (arith, same)) next later in
    rw (first, rest) refl

times-map : (server : ServerId) (turns : List ServerId)
    → times_picked server (map (λ (turn : ServerId). Some turn) turns) ≡ times server turns
times-map server [] = refl
times-map server (turn ∷ turns) =
    sum_by-cons (λ (o : Option ServerId). cond (is_server server o) 1 0) (Some turn) (map (λ (t : ServerId). Some t) turns)
    ∙ ap (λ (n : ℕ). cond (eqb turn.0 server.0) 1 0 + n) (times-map server turns)
    ∙ sym (times-cons server turn turns)

stands_at : (turns : List ServerId) (k : ℕ) (d : ServerId) → k < length turns → 1 ≤ times (get_or turns k d) turns
stands_at [] k d h = absurd (omega arith)
stands_at (turn ∷ turns) zero d h = first_stands turn turns
stands_at (turn ∷ turns) (suc k) d h = rest_stands (get_or turns k d) turn turns (stands_at turns k d (omega arith))

-- all turns are of servers that are ready
turns_ready : (table : Table) (hostgroup : Hostgroup) (counts : List ℕ) → Holds table → AllReady table.servers hostgroup counts
    → All (λ (turn : ServerId). is_ready table.servers counts turn ≡ true) (turns_of table.rounds hostgroup)
turns_ready table hostgroup counts holds ready = λ k d h.
    ready (get_or (turns_of table.rounds hostgroup) k d)
    (standing_belongs table hostgroup (get_or (turns_of table.rounds hostgroup) k d) holds
    (stands_at (turns_of table.rounds hostgroup) k d h))

pub fair : (table : Table) (hostgroup : Hostgroup) (counts : List (List ℕ)) → IsRoundOfPicks table hostgroup counts → (server : ServerId)
    → times_picked server (picks table hostgroup counts) ≡ weights_in (turning_rows table.servers) hostgroup server
fair table hostgroup counts round server =
    let turns = turns_of table.rounds hostgroup in
    let all : All (λ (cs : List ℕ). All (λ (turn : ServerId). is_ready table.servers cs turn ≡ true) (turns_of table.rounds hostgroup))
    counts =
    All-weaker (AllReady table.servers hostgroup) (λ (cs : List ℕ). All (λ (turn : ServerId). is_ready table.servers cs turn ≡ true)
    (turns_of table.rounds hostgroup))
    (λ cs (ready : AllReady table.servers hostgroup cs). turns_ready table hostgroup cs round.holds ready)
    counts round.ready in
    let order : picks table hostgroup counts ≡ map (λ (turn : ServerId). Some turn) (turns_of table.rounds hostgroup) =
    in_order (turns_of table.rounds hostgroup) [] table hostgroup counts round.whole (sym (append-nil (turns_of table.rounds hostgroup)))
    all in
    rw order (times-map server (turns_of table.rounds hostgroup) ∙ (round.holds.full hostgroup).as_often server)

-- So many picks in a row.

-- the first turns are those of the picks
first_picks : (table : Table) (hostgroup : Hostgroup) (counts : List (List ℕ)) (server : ServerId) → Holds table
    → All (AllReady table.servers hostgroup) counts → length counts ≤ length (turns_of table.rounds hostgroup)
    → times_picked server (picks table hostgroup counts) ≡ times server (take (length counts) (turns_of table.rounds hostgroup))
first_picks table hostgroup counts server holds ready few =
    let turns = turns_of table.rounds hostgroup in
    let n = length counts in
    let all : All (λ (cs : List ℕ). All (λ (turn : ServerId). is_ready table.servers cs turn ≡ true)
    (take (length counts) (turns_of table.rounds hostgroup))) counts =
    All-weaker (AllReady table.servers hostgroup) (λ (cs : List ℕ). All (λ (turn : ServerId). is_ready table.servers cs turn ≡ true)
    (take (length counts) (turns_of table.rounds hostgroup)))
    (λ cs (now : AllReady table.servers hostgroup cs). All-take (λ (turn : ServerId). is_ready table.servers cs turn ≡ true) n turns
    (turns_ready table hostgroup cs holds now)) counts ready in
    let order : picks table hostgroup counts ≡ map (λ (turn : ServerId). Some turn) (take (length counts) (turns_of table.rounds hostgroup)) =
    in_order (take n turns) (drop n turns) table hostgroup counts (sym (length-take-le n turns few)) (sym (take-append-drop n turns)) all in
    ap (λ (answers : List (Option ServerId)). times_picked server answers) order ∙ times-map server (take n turns)

first_apart : (server : ServerId) (n : ℕ) (turns : List ServerId) → IsApart server n turns → times server (take n turns) ≤ 1
first_apart server n turns apart =
    subst (λ (ts : List ServerId). times server (take n ts) ≤ 1) (append-nil turns) (apart [] turns refl)

bit_le : (b : Bool) → cond b 1 0 ≤ 1
bit_le true = omega arith
bit_le false = omega arith

-- a hostgroup without a turn, of which nothing is picked, and one with a single turn
one_turn : (turns : List ServerId) (table : Table) (hostgroup : Hostgroup) (now next : List ℕ) (server : ServerId)
    → turns_of table.rounds hostgroup ≡ turns → length turns ≤ 1 → 2 * times server turns ≤ length turns
    → is_server server (picked table hostgroup now) ≡ false
one_turn [] table hostgroup now next server is short few =
    let none : picked table hostgroup now ≡ None = rw is refl in
    rw none refl
one_turn (turn ∷ []) table hostgroup now next server is short few =
    let other : eqb turn.0 server.0 ≡ false = false_from_ne_true _
    (λ same. absurd (omega (arith, few, first_is server turn [] same))) in
    elim (cases_Bool (is_ready table.servers now turn)) [
      | inl here ↦ let some : picked table hostgroup now ≡ Some turn = rw (is, here) refl in rw some other
      | inr not ↦ let none : picked table hostgroup now ≡ None = rw (is, not) refl in rw none refl
    ]
one_turn (turn ∷ second ∷ turns) table hostgroup now next server is short few = absurd (omega (arith, short))

second_alone : (server : ServerId) (a b : Option ServerId) → is_server server a ≡ false → times_picked server (a ∷ b ∷ []) ≤ 1
second_alone server a b other =
    let none : ◌≡◌ {A = ℕ} (cond (is_server server a) 1 0) 0 = rw other refl in
    omega (
      arith,
      none,
      bit_le (is_server server b),
      sum_by-cons (λ (o : Option ServerId). cond (is_server server o) 1 0) a (b ∷ []),
      sum_by-cons (λ (o : Option ServerId). cond (is_server server o) 1 0) b [],
    )

pub not_twice : (table : Table) (hostgroup : Hostgroup) (now next : List ℕ) → Holds table → AllReady table.servers hostgroup now
    → AllReady table.servers hostgroup next → (server : ServerId)
    → 2 * weights_in (turning_rows table.servers) hostgroup server ≤ weight_of_all (turning_rows table.servers) hostgroup
    → times_picked server (picks table hostgroup (now ∷ next ∷ [])) ≤ 1
not_twice table hostgroup now next holds ready later server light =
    let full = holds.full hostgroup in
    let few : 2 * times server (turns_of table.rounds hostgroup) ≤ length (turns_of table.rounds hostgroup) =
    rw (full.as_often server, full.whole) light in
    elim (cases_Bool (leb 2 (length (turns_of table.rounds hostgroup)))) [
      | inl two ↦
          let le : 2 ≤ length (turns_of table.rounds hostgroup) = grind (arith, nat_tests) in
          let both : All (AllReady table.servers hostgroup) (now ∷ next ∷ []) =
          All-cons (AllReady table.servers hostgroup) now (next ∷ []) ready
          (All-cons (AllReady table.servers hostgroup) next [] later (All-nil (AllReady table.servers hostgroup))) in
          let same = first_picks table hostgroup (now ∷ next ∷ []) server holds both le in
          omega (arith, same, first_apart server 2 (turns_of table.rounds hostgroup) (full.spread server few))
      | inr short ↦
          let le : length (turns_of table.rounds hostgroup) ≤ 1 = grind (arith, nat_tests) in
          second_alone server (picked table hostgroup now) (picked (after_pick table hostgroup now) hostgroup next)
          (one_turn (turns_of table.rounds hostgroup) table hostgroup now next server refl le few)
    ]

factor_le : (n t m : ℕ) → 1 ≤ t → n * t ≤ m → n ≤ m
factor_le n t m some le =
    let less : n * 1 ≤ n * t = mul-le n 1 n t (omega arith) some in
    omega (arith, less, le)

pub heaviest_apart : (table : Table) (hostgroup : Hostgroup) (counts : List (List ℕ)) → Holds table
    → All (AllReady table.servers hostgroup) counts → (server : ServerId) → belongs table.servers hostgroup server ≡ true
    → ((other : ServerId) → weights_in (turning_rows table.servers) hostgroup other ≤ weights_in (turning_rows table.servers) hostgroup server)
    → length counts * weights_in (turning_rows table.servers) hostgroup server ≤ weight_of_all (turning_rows table.servers) hostgroup
    → times_picked server (picks table hostgroup counts) ≤ 1
heaviest_apart table hostgroup counts holds ready server there most room =
    let full = holds.full hostgroup in
    let turns = turns_of table.rounds hostgroup in
    let few : length counts * times server (turns_of table.rounds hostgroup) ≤ length (turns_of table.rounds hostgroup) =
    rw (full.as_often server, full.whole) room in
    let within : length counts ≤ length (turns_of table.rounds hostgroup) =
    factor_le (length counts) (times server turns) (length turns) (belonging_stands table hostgroup server holds there) few in
    let greatest : (other : ServerId) → times other (turns_of table.rounds hostgroup) ≤ times server (turns_of table.rounds hostgroup) =
    λ other. rw (full.as_often other, full.as_often server) (most other) in
    omega (
      arith,
      first_picks table hostgroup counts server holds ready within,
      first_apart server (length counts) turns (full.even server greatest (length counts) few),
    )
