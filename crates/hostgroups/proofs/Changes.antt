-- Servers whose status changes keep their rows.
use Rattle.std.proofs.Common.{◌≡◌, ℕ, zero, suc, ◌+◌, ◌-◌, ◌<◌, ◌≤◌, true, false, List, [], ◌∷◌, ◌++◌, length, map, take, drop, get_or, set, append-nil, Some, None, is_some, refl, ap, ◌∙◌, arith}
use Rattle.std.specs.Prelude.{slice_get}
use Rattle.std.specs.Option.{option_map}
use Rattle.std.proofs.lemmas.List.{drop_all, length-map, take_all}
use Rattle.std.proofs.lemmas.List.Edits.{map_over_more}
use Rattle.std.proofs.lemmas.Option.{slice_get_past, slice_get-get_or}
use Rattle.hostgroups.specs.declared.row.ServerRow.{ServerRow}
use Rattle.hostgroups.specs.declared.row.ServerStatus.{ServerStatus}
use Rattle.hostgroups.specs.declared.server.Server.{Server}
use Rattle.hostgroups.specs.Rows.{name_of}
use Rattle.hostgroups.specs.Servers.{changed, changed_at, names_of, nth, restated, rows_of, turning, turning_rows}

-- what a status doesn't change

map-changed_at : {X : Type 0} (of : Server → X) (change : ServerStatus → ServerStatus) → ((s : Server) → of (restated change s) ≡ of s)
    → (servers : List Server) (n : ℕ) → map of (changed_at servers n change) ≡ map of servers
map-changed_at of change same [] n = refl
map-changed_at of change same (first ∷ servers) zero = ap (λ x. x ∷ map of servers) (same first)
map-changed_at of change same (first ∷ servers) (suc n) = ap (λ rest. of first ∷ rest) (map-changed_at of change same servers n)

map-changed : {X : Type 0} (of : Server → X) (change : ServerStatus → ServerStatus) → ((s : Server) → of (restated change s) ≡ of s)
    → (servers : List Server) (number : ℕ) → map of (changed servers number change) ≡ map of servers
map-changed of change same servers zero = refl
map-changed of change same servers (suc n) = map-changed_at of change same servers n

map-restated : {X : Type 0} (of : Server → X) (change : ServerStatus → ServerStatus) → ((s : Server) → of (restated change s) ≡ of s)
    → (servers : List Server) → map of (map (restated change) servers) ≡ map of servers
map-restated of change same [] = refl
map-restated of change same (first ∷ servers) =
    ap (λ x. x ∷ map of (map (restated change) servers)) (same first) ∙ ap (λ rest. of first ∷ rest) (map-restated of change same servers)

-- servers of the same rows and turns
pub record Same (servers other : List Server) : Type 0 where
  pub rows : rows_of other ≡ rows_of servers
  pub turns : turning_rows other ≡ turning_rows servers

pub same-changed : (servers : List Server) (number : ℕ) (change : ServerStatus → ServerStatus) → Same servers (changed servers number change)
same-changed servers number change = record {
  rows = map-changed (λ (s : Server). s.row) change (λ s. refl) servers number;
  turns = map-changed turning change (λ s. refl) servers number;
}

pub same-restated : (change : ServerStatus → ServerStatus) (servers : List Server) → Same servers (map (restated change) servers)
same-restated change servers = record {
  rows = map-restated (λ (s : Server). s.row) change (λ s. refl) servers;
  turns = map-restated turning change (λ s. refl) servers;
}

pub names_of-changed : (servers : List Server) (number : ℕ) (change : ServerStatus → ServerStatus)
    → names_of (changed servers number change) ≡ names_of servers
names_of-changed servers number change = ap (map name_of) (same-changed servers number change).rows

past-changed : (servers : List Server) (n : ℕ) (change : ServerStatus → ServerStatus) → length servers ≤ n
    → changed_at servers n change ≡ servers
past-changed [] n change h = refl
past-changed (first ∷ servers) zero change h = absurd (omega arith)
past-changed (first ∷ servers) (suc n) change h = ap (λ (rest : List Server). first ∷ rest) (past-changed servers n change (omega arith))

put : (servers : List Server) (n : ℕ) (server : Server) (status : ServerStatus) → n < length servers → server ≡ get_or servers n server
    → set servers n (record server { status = status }) ≡ changed_at servers n (λ _. status)
put [] n server status h is = absurd (omega arith)
put (first ∷ servers) zero server status h is = ap (λ (s : Server). record s { status = status } ∷ servers) is
put (first ∷ servers) (suc n) server status h is = ap (λ (rest : List Server). first ∷ rest) (put servers n server status (omega arith) is)

-- no server has the number
pub unknown : (servers : List Server) (number : ℕ) (change : ServerStatus → ServerStatus) → length servers < number
    → (is_some (nth servers number) ≡ false) × (changed servers number change ≡ servers)
unknown servers zero change h = absurd (omega arith)
unknown servers (suc n) change h = (rw (slice_get_past servers n (omega arith)) refl, past-changed servers n change (omega arith))

-- the server of the number is given a status
pub known : (servers : List Server) (number : ℕ) (server : Server) (status : ServerStatus) → 0 < number → number ≤ length servers
    → server ≡ get_or servers (number - 1) server
    → (is_some (nth servers number) ≡ true) × (set servers (number - 1) (record server { status = status }) ≡ changed servers number (λ _. status))
known servers zero server status above h is = absurd (omega arith)
known servers (suc n) server status above h is =
    let at : suc n - 1 ≡ n = omega arith in
    let here : server ≡ get_or servers n server = rw at at is in
    (rw (slice_get-get_or servers n server (omega arith)) refl, rw at (put servers n server status (omega arith) here))

pub unnumbered : (servers : List Server) (number : ℕ) (change : ServerStatus → ServerStatus) → number ≡ 0
    → servers ≡ changed servers number change
unnumbered servers number change zero' = rw zero' refl

-- The status of the server of a number, once an open failed.

failed_at : (servers : List Server) (n : ℕ) (status : ServerStatus) (change : ServerStatus → ServerStatus)
    → Some status ≡ option_map (λ (s : Server). s.status) (slice_get servers n)
    → changed_at servers n (λ _. change status) ≡ changed_at servers n change
failed_at [] n status change some = refl
failed_at (first ∷ servers) zero status change some = let one : status ≡ first.status = cc in rw one refl
failed_at (first ∷ servers) (suc n) status change some = ap (λ (rest : List Server). first ∷ rest) (failed_at servers n status change some)

pub changed_so : (servers : List Server) (number : ℕ) (status : ServerStatus) (change : ServerStatus → ServerStatus)
    → Some status ≡ option_map (λ (s : Server). s.status) (nth servers number)
    → changed servers number (λ _. change status) ≡ changed servers number change
changed_so servers zero status change some = refl
changed_so servers (suc n) status change some = failed_at servers n status change some

none_at : (servers : List Server) (n : ℕ) (change : ServerStatus → ServerStatus)
    → None ≡ option_map (λ (s : Server). s.status) (slice_get servers n) → changed_at servers n change ≡ servers
none_at [] n change none = refl
none_at (first ∷ servers) zero change none = absurd cc
none_at (first ∷ servers) (suc n) change none = ap (λ (rest : List Server). first ∷ rest) (none_at servers n change none)

pub unchanged : (servers : List Server) (number : ℕ) (change : ServerStatus → ServerStatus)
    → None ≡ option_map (λ (s : Server). s.status) (nth servers number) → changed servers number change ≡ servers
unchanged servers zero change none = refl
unchanged servers (suc n) change none = none_at servers n change none

-- A loop over all servers.

any_default : (servers : List Server) (i : ℕ) (d e : Server) → i < length servers → get_or servers i d ≡ get_or servers i e
any_default [] i d e h = absurd (omega arith)
any_default (first ∷ servers) zero d e h = refl
any_default (first ∷ servers) (suc i) d e h = any_default servers i d e (omega arith)

pub restated_more : (change : ServerStatus → ServerStatus) (xs ys : List Server) (i : ℕ) (d : Server) (status : ServerStatus)
    → i < length xs → i < length ys
    → ys ≡ map (restated change) (take i xs) ++ drop i xs → status ≡ change (get_or ys i d).status
    → set ys i (record (get_or ys i d) { status = status }) ≡ map (restated change) (take (i + 1) xs) ++ drop (i + 1) xs
restated_more change xs ys i d status h within so_far is =
    rw is (map_over_more (restated change) xs ys i (get_or ys i d) h so_far (any_default ys i d (get_or ys i d) within))

pub restated_all : (change : ServerStatus → ServerStatus) (old items : List Server) (i : ℕ) → length old ≤ i
    → items ≡ map (restated change) (take i old) ++ drop i old → items ≡ map (restated change) old
restated_all change old items i h so_far =
    let none : drop i old ≡ [] = drop_all i old h in
    let whole : take i old ≡ old = take_all i old h in
    so_far ∙ rw (none, whole) (append-nil (map (restated change) old))

pub names_of-restated : (change : ServerStatus → ServerStatus) (old items : List Server) (len : ℕ) → items ≡ map (restated change) old
    → len ≡ length old
    → names_of (take len (items ++ drop (length items) old)) ≡ names_of old
names_of-restated change old items len all size =
    let as_long : length items ≡ length old = rw all (simp length-map) in
    let none : drop (length items) old ≡ [] = drop_all (length items) old (omega (arith, as_long)) in
    let whole : take len items ≡ items = take_all len items (omega (arith, as_long, size)) in
    rw (none, append-nil items, whole, all) (ap (map name_of) (same-restated change old).rows)
