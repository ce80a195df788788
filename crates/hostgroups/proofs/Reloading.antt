-- Other rows in force.
use Rattle.std.proofs.Common.{◌≡◌, ℕ, zero, suc, ◌+◌, ◌-◌, ◌<◌, ◌≤◌, Bool, true, false, ◌&&◌, cond, nat_le, List, [], ◌∷◌, ◌++◌, length, get_or, take, drop, map, Option, Some, None, refl, sym, ap, subst, ◌∙◌, inl, inr, arith, length-append}
use Rattle.std.specs.Prelude.{filter, slice_get}
use Rattle.std.specs.List.{All}
use Rattle.std.specs.Option.{option_map, option_or}
use Rattle.std.proofs.lemmas.Bool.{cases_Bool, leb-false}
use Rattle.std.proofs.lemmas.List.{drop_more, take_more, length-map, length-take-le, map_push, take-append-drop}
use Rattle.std.proofs.lemmas.List.Elements.{All-append, All-cons, All-filter, All-get_or, All-head, All-tail, filter-append}
use Rattle.std.proofs.lemmas.List.Filters.{length-filter_more}
use Rattle.std.proofs.lemmas.List.Sums.{sum_by_more}
use Rattle.std.proofs.lemmas.Option.{get_or_from_slice_get, slice_get-map, slice_get_within}
use Rattle.mx_base.specs.declared.names.ServerId.{ServerId}
use Rattle.hostgroups.specs.declared.fault.ServersFault.{ServersFault}
use Rattle.hostgroups.specs.declared.fault.ServersFault.TheVariants.{NumbersSpent}
use Rattle.hostgroups.specs.declared.row.ServerName.{ServerName}
use Rattle.hostgroups.specs.declared.row.ServerRow.{ServerRow}
use Rattle.hostgroups.specs.declared.server.Server.{Server}
use Rattle.hostgroups.specs.Reloads.{as_named, is_new, new_rows, put_in, reload_fault, reload_fault_behind, reload_fault_of, reloaded, row_numbered, spent}
use Rattle.hostgroups.specs.Rounds.{AreFull, Coming}
use Rattle.hostgroups.specs.Rows.{connections_of, fault_of, name_of, number_from, number_of, same_server}
use Rattle.hostgroups.specs.Servers.{in_force, names_of, nth, rows_of, turning_rows}
use Rattle.hostgroups.specs.Tables.{Holds}
use Rattle.hostgroups.specs.Turns.{row_at}
use Rattle.hostgroups.proofs.Building.{Stands, rows_of-in_force, stands}
use Rattle.hostgroups.proofs.Numbering.{number_of-more, same_server-true}

pub row_at-rows : (servers : List Server) (n : ℕ) → row_at (rows_of servers) n ≡ option_map (λ s. s.row) (nth servers n)
row_at-rows servers zero = refl
row_at-rows servers (suc n) = slice_get-map (λ (s : Server). s.row) servers n

-- The row that is found by a name has it.

record Found (rows : List ServerRow) (name : ServerName) (n number : ℕ) : Type 0 where
  index : ℕ
  row : ServerRow
  place : number ≡ n + index
  there : slice_get rows index ≡ Some row
  named : name_of row ≡ name

found_from : (n : ℕ) (rows : List ServerRow) (name : ServerName) (number : ServerId) → number_from n (map name_of rows) name ≡ Some number
    → Found rows name n number.0
found_from n [] name number some = absurd cc
found_from n (row ∷ rows) name number some =
    elim (cases_Bool (same_server name (name_of row))) [
      | inl same ↦
          let is : Some number ≡ Some (record { 0 = n }) = sym (rw same at some) in
          let one : number ≡ record { 0 = n } = cc in
          record {
            index = 0;
            row = row;
            place = ap (λ (s : ServerId). s.0) one ∙ omega arith;
            there = refl;
            named = sym (same_server-true name (name_of row) same);
          }
      | inr other ↦
          let rest = found_from (suc n) rows name number (rw other at some) in
          record { index = suc rest.index; row = rest.row; place = omega (arith, rest.place); there = rest.there; named = rest.named }
    ]

-- what a server is by the rows: as it was, with one that has its name, or without
pub put_in_by : (P : Server → Type 0) (rows : List ServerRow) (server : Server) → P (put_in server None)
    → ((at : ℕ) (row : ServerRow) → slice_get rows at ≡ Some row → name_of row ≡ name_of server.row → P (put_in server (Some row)))
    → P (as_named rows server)
put_in_by P rows server gone there = by (number_of (map name_of rows) (name_of server.row)) refl where
  by : (o : Option ServerId) → number_of (map name_of rows) (name_of server.row) ≡ o → P (put_in server (row_numbered rows o))
  by None is = gone
  by (Some number) is =
      let found = found_from 1 rows (name_of server.row) number is in
      let place : number.0 ≡ suc found.index = omega (arith, found.place) in
      let row : row_at rows number.0 ≡ Some found.row = ap (row_at rows) place ∙ found.there in
      subst (λ (r : Option ServerRow). P (put_in server r)) (sym row) (there found.index found.row found.there found.named)

same_name : (rows : List ServerRow) (server : Server) → name_of (as_named rows server).row ≡ name_of server.row
same_name rows server = put_in_by (λ (s : Server). name_of s.row ≡ name_of server.row) rows server refl (λ at row there named. named)

names-as_named : (rows : List ServerRow) (servers : List Server) → names_of (map (as_named rows) servers) ≡ names_of servers
names-as_named rows [] = refl
names-as_named rows (server ∷ servers) =
    ap (λ (name : ServerName). name ∷ names_of (map (as_named rows) servers)) (same_name rows server)
    ∙ ap (λ (names : List ServerName). name_of server.row ∷ names) (names-as_named rows servers)

names-append : (servers more : List Server) → names_of (servers ++ more) ≡ names_of servers ++ names_of more
names-append [] more = refl
names-append (server ∷ servers) more = ap (λ (names : List ServerName). name_of server.row ∷ names) (names-append servers more)

pub stays : (servers : List Server) (rows : List ServerRow) (name : ServerName) (number : ServerId)
    → number_of (names_of servers) name ≡ Some number → number_of (names_of (reloaded servers rows)) name ≡ Some number
stays servers rows name number some =
    let now : names_of (reloaded servers rows) ≡ names_of servers ++ names_of (map in_force (new_rows servers rows)) =
    names-append (map (as_named rows) servers) (map in_force (new_rows servers rows))
    ∙ ap (λ (names : List ServerName). names ++ names_of (map in_force (new_rows servers rows))) (names-as_named rows servers) in
    rw now (number_of-more (names_of servers) (names_of (map in_force (new_rows servers rows))) name number some)

at-front : {X Y : Type 0} (f : X → Y) (xs : List X) (ys : List Y) (k : ℕ) (x : X) → slice_get xs k ≡ Some x → slice_get (map f xs ++ ys) k ≡ Some (f x)
at-front f [] ys k x some = absurd cc
at-front f (first ∷ xs) ys zero x some = let one : first ≡ x = cc in rw one refl
at-front f (first ∷ xs) ys (suc k) x some = at-front f xs ys k x some

pub goes_by : (servers : List Server) (rows : List ServerRow) (number : ℕ) (server : Server) → nth servers number ≡ Some server
    → nth (reloaded servers rows) number ≡ Some (as_named rows server)
goes_by servers rows zero server some = absurd cc
goes_by servers rows (suc n) server some = at-front (as_named rows) servers (map in_force (new_rows servers rows)) n server some

-- Rows, one after the other.

apart_or : {X : Type 0} (a b : Option X) → option_or a b ≡ None → (a ≡ None) × (b ≡ None)
apart_or None b none = (refl, none)
apart_or (Some x) b none = absurd cc

not_full : (new full : Bool) → cond (new && full) (Some NumbersSpent) None ≡ None → new ≡ true → full ≡ false
not_full true true none is = absurd cc
not_full true false none is = refl
not_full false full none is = absurd cc

room : (servers : List Server) (before : List ServerRow) (row : ServerRow) → spent servers before row ≡ None → is_new servers row ≡ true
    → length servers + length (new_rows servers before) < 65535
room servers before row none new =
    leb-false _ _ (not_full (is_new servers row) (nat_le 65535 (length servers + length (new_rows servers before))) none new)

-- what a loop over the rows keeps, of the rows so far
pub record Loads (servers : List Server) (rows : List ServerRow) (i : ℕ) (wanted : List Server) (connections given : ℕ) : Type 0 where
  pub stand : wanted ≡ map in_force (take i rows)
  pub counted : connections ≡ connections_of (take i rows)
  pub few : connections ≤ 10000
  pub short : i ≤ 1024
  pub numbers : given ≡ length servers + length (new_rows servers (take i rows))
  pub most : given ≤ 65535
  pub left : reload_fault_behind servers (take i rows) (drop i rows) ≡ reload_fault servers rows

pub so_far : (rows : List ServerRow) (i : ℕ) (wanted : List Server) → wanted ≡ map in_force (take i rows) → rows_of wanted ≡ take i rows
so_far rows i wanted stand = rw stand (rows_of-in_force (take i rows))

behind-drop : (servers : List Server) (rows : List ServerRow) (i : ℕ) (d : ServerRow) → i < length rows
    → reload_fault_behind servers (take i rows) (drop i rows) ≡ option_or (reload_fault_of servers (take i rows) (get_or rows i d))
    (reload_fault_behind servers (take (i + 1) rows) (drop (i + 1) rows))
behind-drop servers rows i d h = rw (drop_more rows i d h, take_more rows i d h) refl

pub load_refused : (servers : List Server) (rows : List ServerRow) (i : ℕ) (wanted : List Server) (connections given : ℕ) (d : ServerRow) (fault : ServersFault)
    → Loads servers rows i wanted connections given → i < length rows
    → Some fault ≡ reload_fault_of servers (rows_of wanted) (get_or rows i d) → reload_fault servers rows ≡ Some fault
load_refused servers rows i wanted connections given d fault loads h e =
    let here : reload_fault_of servers (take i rows) (get_or rows i d) ≡ Some fault = sym (rw (so_far rows i wanted loads.stand) at e) in
    sym loads.left ∙ behind-drop servers rows i d h ∙ rw here refl

pub load_fits : (servers : List Server) (rows : List ServerRow) (i : ℕ) (wanted : List Server) (d : ServerRow) → wanted ≡ map in_force (take i rows)
    → None ≡ reload_fault_of servers (rows_of wanted) (get_or rows i d) → Stands (take i rows) (get_or rows i d)
load_fits servers rows i wanted d stand e =
    let none : reload_fault_of servers (take i rows) (get_or rows i d) ≡ None = sym (rw (so_far rows i wanted stand) at e) in
    stands (take i rows) (get_or rows i d) (apart_or (fault_of (take i rows) (get_or rows i d)) (spent servers (take i rows) (get_or rows i d)) none).0

most_more : (given most : ℕ) (new : Bool) → given ≤ most → (new ≡ true → given < most) → given + cond new 1 0 ≤ most
most_more given most true le less = let lt = less refl in omega (arith, lt)
most_more given most false le less = omega (arith, le)

pub loads_on : (servers : List Server) (rows : List ServerRow) (i : ℕ) (wanted : List Server) (connections given : ℕ) (d : ServerRow)
    → Loads servers rows i wanted connections given → i < length rows
    → None ≡ reload_fault_of servers (rows_of wanted) (get_or rows i d)
    → Loads servers rows (i + 1) (wanted ++ in_force (get_or rows i d) ∷ []) (connections + (get_or rows i d).max_connections)
    (given + cond (is_new servers (get_or rows i d)) 1 0)
loads_on servers rows i wanted connections given d loads h e =
    let row : ServerRow = get_or rows i d in
    let here = load_fits servers rows i wanted d loads.stand e in
    let none : reload_fault_of servers (take i rows) (get_or rows i d) ≡ None = sym (rw (so_far rows i wanted loads.stand) at e) in
    let both = apart_or (fault_of (take i rows) (get_or rows i d)) (spent servers (take i rows) (get_or rows i d)) none in
    let size : length (take i rows) ≡ i = length-take-le i rows (omega arith) in
    let sum : connections_of (take (i + 1) rows) ≡ connections_of (take i rows) + (get_or rows i d).max_connections = sum_by_more
    (λ (r : ServerRow). r.max_connections) rows i d h in
    let new : length (new_rows servers (take (i + 1) rows)) ≡ length (new_rows servers (take i rows)) + cond (is_new servers (get_or rows i d)) 1 0 =
    length-filter_more (is_new servers) rows i d h in
    record {
      stand = rw (loads.stand, take_more rows i d h) (sym (map_push in_force (take i rows) (get_or rows i d)));
      counted = rw (sum, loads.counted) refl;
      few = omega (arith, here.few, loads.counted);
      short = omega (arith, here.short, size);
      numbers = omega (arith, loads.numbers, new);
      most = most_more given 65535 (is_new servers (get_or rows i d)) loads.most
          (λ is. omega (arith, loads.numbers, room servers (take i rows) (get_or rows i d) both.1 is));
      left = sym (rw none at (behind-drop servers rows i d h)) ∙ loads.left;
    }

-- those that pass of the first so many are no more than pass of all
pub passed_so_far : {X : Type 0} (p : X → Bool) (n : ℕ) (xs : List X) → length (filter p (take n xs)) ≤ length (filter p xs)
passed_so_far p n xs =
    let cut : filter p xs ≡ filter p (take n xs) ++ filter p (drop n xs) =
    ap (λ ys. filter p ys) (sym (take-append-drop n xs)) ∙ filter-append p (take n xs) (drop n xs) in
    omega (arith, ap length cut, length-append (filter p (take n xs)) (filter p (drop n xs)))

pub room_for_new : (servers : List Server) (rows : List ServerRow) (i : ℕ) (d : ServerRow) (old now : List Server) → i < length rows
    → is_new servers (get_or rows i d) ≡ true → now ≡ old ++ map in_force (new_rows servers (take i rows))
    → length old + length (new_rows servers rows) ≤ 65535 → length now < 65535
room_for_new servers rows i d old now h new is room =
    let more : length (new_rows servers (take (i + 1) rows)) ≡ length (new_rows servers (take i rows)) + cond (is_new servers (get_or rows i d)) 1 0 =
    length-filter_more (is_new servers) rows i d h in
    let one : ◌≡◌ {A = ℕ} (cond (is_new servers (get_or rows i d)) 1 0) 1 = rw new refl in
    omega (
      arith,
      more,
      one,
      passed_so_far (is_new servers) (i + 1) rows,
      room,
      ap length is,
      length-append old (map in_force (new_rows servers (take i rows))),
      length-map (new_rows servers (take i rows)) in_force,
    )

-- The table holds.

weight_at : (rows : List ServerRow) (at : ℕ) (row : ServerRow) → All (λ (r : ServerRow). 1 ≤ r.weight) rows → slice_get rows at ≡ Some row → 1 ≤ row.weight
weight_at rows at row all there =
    let same : get_or rows at row ≡ row = get_or_from_slice_get rows at row row there in
    rw same at (All-get_or (λ (r : ServerRow). 1 ≤ r.weight) rows at row (slice_get_within rows at row there) all)

weights-as_named : (rows : List ServerRow) (servers : List Server) → All (λ (r : ServerRow). 1 ≤ r.weight) rows
    → All (λ (r : ServerRow). 1 ≤ r.weight) (rows_of servers) → All (λ (r : ServerRow). 1 ≤ r.weight) (rows_of (map (as_named rows) servers))
weights-as_named rows [] all old = old
weights-as_named rows (server ∷ servers) all old =
    All-cons (λ (r : ServerRow). 1 ≤ r.weight) (as_named rows server).row (rows_of (map (as_named rows) servers))
    (put_in_by (λ (s : Server). 1 ≤ s.row.weight) rows server (All-head (λ (r : ServerRow). 1 ≤ r.weight) server.row (rows_of servers) old)
    (λ at row there named. weight_at rows at row all there))
    (weights-as_named rows servers all (All-tail (λ (r : ServerRow). 1 ≤ r.weight) server.row (rows_of servers) old))

rows-append : (servers more : List Server) → rows_of (servers ++ more) ≡ rows_of servers ++ rows_of more
rows-append [] more = refl
rows-append (server ∷ servers) more = ap (λ (rows : List ServerRow). server.row ∷ rows) (rows-append servers more)

pub holds_reloaded : (servers : List Server) (rows : List ServerRow) (rounds : List Coming) → All (λ (row : ServerRow). 1 ≤ row.weight) rows
    → All (λ (row : ServerRow). 1 ≤ row.weight) (rows_of servers) → length servers + length (new_rows servers rows) ≤ 65535
    → AreFull (turning_rows (reloaded servers rows)) rounds → Holds (record { servers = reloaded servers rows; rounds = rounds })
holds_reloaded servers rows rounds weights old few full = record {
  full = full;
  weights = rw (
    rows-append (map (as_named rows) servers) (map in_force (new_rows servers rows)),
    rows_of-in_force (new_rows servers rows),
  ) (All-append (λ (r : ServerRow). 1 ≤ r.weight) (rows_of (map (as_named rows) servers)) (new_rows servers rows)
      (weights-as_named rows servers weights old) (All-filter (is_new servers) (λ (r : ServerRow). 1 ≤ r.weight) rows weights));
  few = omega (
    arith,
    few,
    length-append (map (as_named rows) servers) (map in_force (new_rows servers rows)),
    length-map servers (as_named rows),
    length-map (new_rows servers rows) in_force,
  );
}
