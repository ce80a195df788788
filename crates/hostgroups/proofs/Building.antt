-- The faults of a table, row after row.
use Rattle.std.proofs.Common.{◌≡◌, ℕ, ◌+◌, ◌<◌, ◌≤◌, Bool, true, false, cond, nat_lt, nat_le, ◌||◌, List, [], ◌∷◌, ◌++◌, length, get_or, take, drop, map, Option, Some, None, is_some, refl, sym, ap, ◌∙◌, arith}
use Rattle.std.specs.Option.{option_or}
use Rattle.std.proofs.lemmas.Bool.{leb-false, ltb-false}
use Rattle.std.proofs.lemmas.List.{drop_more, take_more, length-take-le, map_push}
use Rattle.std.proofs.lemmas.List.Sums.{sum_by_more}
use Rattle.hostgroups.specs.declared.fault.ServersFault.{ServersFault}
use Rattle.hostgroups.specs.declared.fault.ServersFault.TheVariants.{Duplicate, TooMany}
use Rattle.hostgroups.specs.declared.row.ServerRow.{ServerRow}
use Rattle.hostgroups.specs.Rows.{name_of, number_of, has_server, connections_of, fault_of, first_fault_behind, first_fault}
use Rattle.hostgroups.specs.declared.server.Server.{Server}
use Rattle.hostgroups.specs.Servers.{in_force, rows_of}

pub rows_of-in_force : (rows : List ServerRow) → rows_of (map in_force rows) ≡ rows
rows_of-in_force [] = refl
rows_of-in_force (row ∷ rows) = ap (λ (rest : List ServerRow). row ∷ rest) (rows_of-in_force rows)

-- a row that can stand behind the others
pub record Stands (before : List ServerRow) (row : ServerRow) : Type 0 where
  pub new : number_of (map name_of before) (name_of row) ≡ None
  pub short : length before < 1024
  pub few : connections_of before + row.max_connections ≤ 10000

absent : {X : Type 0} (o : Option X) → is_some o ≡ false → o ≡ None
absent None h = refl
absent (Some x) h = absurd cc

neither : (a b : Bool) (n : ℕ) → cond a (Some (Duplicate n)) (cond b (Some TooMany) None) ≡ None → (a ≡ false) × (b ≡ false)
neither true b n h = absurd cc
neither false true n h = absurd cc
neither false false n h = (refl, refl)

no_or : (a b : Bool) → (a || b) ≡ false → (a ≡ false) × (b ≡ false)
no_or true b h = absurd cc
no_or false b h = (refl, h)

pub stands : (before : List ServerRow) (row : ServerRow) → fault_of before row ≡ None → Stands before row
stands before row h =
    let apart = neither (has_server before (name_of row)) (nat_le 1024 (length before) || nat_lt 10000
    (connections_of before + row.max_connections)) (length before + 1) h in
    let bounds = no_or _ _ apart.1 in
    record {
      new = absent _ apart.0;
      short = leb-false _ _ bounds.0;
      few = ltb-false _ _ bounds.1;
    }

-- the next row's fault, or the first one behind it
pub first_fault_behind-drop : (rows : List ServerRow) (i : ℕ) (d : ServerRow) → i < length rows
    → first_fault_behind (take i rows) (drop i rows) ≡ option_or (fault_of (take i rows) (get_or rows i d))
    (first_fault_behind (take (i + 1) rows) (drop (i + 1) rows))
first_fault_behind-drop rows i d h = rw (drop_more rows i d h, take_more rows i d h) refl

-- what a loop over the rows keeps, of the rows so far
pub record Builds (rows : List ServerRow) (i : ℕ) (servers : List Server) (connections : ℕ) : Type 0 where
  pub stand : servers ≡ map in_force (take i rows)
  pub counted : connections ≡ connections_of (take i rows)
  pub few : connections ≤ 10000
  pub short : i ≤ 1024
  pub left : first_fault_behind (take i rows) (drop i rows) ≡ first_fault rows

so_far : (rows : List ServerRow) (i : ℕ) (servers : List Server) → servers ≡ map in_force (take i rows) → rows_of servers ≡ take i rows
so_far rows i servers stand = rw stand (rows_of-in_force (take i rows))

pub refused : (rows : List ServerRow) (i : ℕ) (servers : List Server) (connections : ℕ) (d : ServerRow) (fault : ServersFault)
    → Builds rows i servers connections → i < length rows
    → Some fault ≡ fault_of (rows_of servers) (get_or rows i d) → first_fault rows ≡ Some fault
refused rows i servers connections d fault builds h e =
    let here : fault_of (take i rows) (get_or rows i d) ≡ Some fault = sym (rw (so_far rows i servers builds.stand) at e) in
    sym builds.left ∙ first_fault_behind-drop rows i d h ∙ rw here refl

pub fits : (rows : List ServerRow) (i : ℕ) (servers : List Server) (connections : ℕ) (d : ServerRow) → Builds rows i servers connections
    → i < length rows
    → None ≡ fault_of (rows_of servers) (get_or rows i d) → Stands (take i rows) (get_or rows i d)
fits rows i servers connections d builds h e = stands _ _ (sym (rw (so_far rows i servers builds.stand) at e))

pub builds_on : (rows : List ServerRow) (i : ℕ) (servers : List Server) (connections : ℕ) (d : ServerRow)
    → Builds rows i servers connections → i < length rows
    → None ≡ fault_of (rows_of servers) (get_or rows i d)
    → Builds rows (i + 1) (servers ++ in_force (get_or rows i d) ∷ []) (connections + (get_or rows i d).max_connections)
builds_on rows i servers connections d builds h e =
    let row = get_or rows i d in
    let here = fits rows i servers connections d builds h e in
    let none : fault_of (take i rows) row ≡ None = sym (rw (so_far rows i servers builds.stand) at e) in
    let size : length (take i rows) ≡ i = length-take-le i rows (omega arith) in
    let sum : connections_of (take (i + 1) rows) ≡ connections_of (take i rows) + row.max_connections = sum_by_more
    (λ (r : ServerRow). r.max_connections) rows i d h in
    record {
      stand = rw (builds.stand, take_more rows i d h) (sym (map_push in_force (take i rows) row));
      counted = rw (sum, builds.counted) refl;
      few = omega (arith, here.few, builds.counted);
      short = omega (arith, here.short, size);
      left = sym (rw none at (first_fault_behind-drop rows i d h)) ∙ builds.left;
    }
