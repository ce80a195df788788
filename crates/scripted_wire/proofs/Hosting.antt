-- A run in a session at a server.
use Rattle.std.proofs.Common.{◌≡◌, ◌<◌, ◌≤◌, ℕ, zero, suc, true, List, [], ◌∷◌, length, map, get_or, Some, None, arith, refl, sym, ◌∙◌, ap, subst}
use Rattle.std.specs.Prelude.{set, slice_get, OnErr, Result, Ok, Err}
use Rattle.std.specs.Option.{option_map}
use Rattle.std.proofs.lemmas.List.{length-map, map-set, set-get_or}
use Rattle.std.proofs.lemmas.Option.{slice_get-get_or, slice_get-map, slice_get_past}
use Rattle.std.proofs.Math.Seq.{map-set_same}
use Rattle.server_rule.specs.Servers.{Accepts, Step, Runs, Tests}
use Rattle.server_rule.specs.declared.command.Cmd.{Cmd}
use Rattle.server_rule.specs.declared.session.Session.{Session}
use Rattle.scripted_wire.specs.declared.hosts.Seat.{Seat}
use Rattle.scripted_wire.specs.Hosts.{Hosted, IsTaken, RunsIn}

pub found : {X : Type 0} (xs : List X) (i : ℕ) (x : X) → i < length xs → x ≡ get_or xs i x → slice_get xs i ≡ Some x
found xs i x within is = slice_get-get_or xs i x within ∙ ap (λ y. Some y) (sym is)

pub runs_in : {X : Type 0} (f : X → List ℕ) (step : Step) (at : ℕ) (cmd : Cmd) (servers : List X) (seats : List Seat) (seat : Seat) (server new : X) (session : Session) (reply : List (List ℕ))
    → (old : Hosted) → record { stored = map f servers; seats = seats } ≡ old
    → at < length seats → seat ≡ get_or seats at seat → seat.server < length servers → server ≡ get_or servers seat.server server → Runs step (f server) seat.session cmd (f new) session reply
    → RunsIn step at cmd old (Some reply) (record { stored = map f (set servers seat.server new); seats = set seats at (record { server = seat.server; session = session }) })
runs_in f step at cmd servers seats seat server new session reply old view within is inside same run =
    let seat_is : slice_get seats at ≡ Some seat = found seats at seat within is in
    let stored_is : slice_get (map f servers) seat.server ≡ Some (f server) = slice_get-map f servers seat.server ∙ ap (option_map f) (found servers seat.server server inside same) in
    subst (λ (v : Hosted). RunsIn step at cmd v (Some reply) (record { stored = map f (set servers seat.server new); seats = set seats at (record { server = seat.server; session = session }) })) view
    (record { is = rw (seat_is, stored_is) (rw (map-set f servers seat.server new, run.data_is, run.session_is, run.reply_is) refl) })

-- where there is no such server
pub no_server : {X : Type 0} (f : X → List ℕ) (step : Step) (at : ℕ) (cmd : Cmd) (servers : List X) (seats : List Seat) (seat : Seat)
    → (old : Hosted) → record { stored = map f servers; seats = seats } ≡ old
    → at < length seats → seat ≡ get_or seats at seat → length servers ≤ seat.server
    → RunsIn step at cmd old None (record { stored = map f servers; seats = set seats at seat })
no_server f step at cmd servers seats seat old view within is past =
    let seat_is : slice_get seats at ≡ Some seat = found seats at seat within is in
    let size : length (map f servers) ≡ length servers = length-map servers f in
    let stored_is : slice_get (map f servers) seat.server ≡ None = slice_get_past (map f servers) seat.server (omega arith) in
    let same : set seats at seat ≡ seats = ap (set seats at) is ∙ set-get_or seats at seat in
    subst (λ (v : Hosted). RunsIn step at cmd v None (record { stored = map f servers; seats = set seats at seat })) view (record { is = rw (same, seat_is, stored_is) refl })

-- one that was refused memory
pub stays : {X : Type 0} (f : X → List ℕ) (at : ℕ) (servers : List X) (seats : List Seat) (seat : Seat) (server new : X) (session : Session)
    → seat ≡ get_or seats at seat → server ≡ get_or servers seat.server server → f new ≡ f server → session ≡ seat.session
    → ◌≡◌ {A = Hosted} (record { stored = map f (set servers seat.server new); seats = set seats at (record { server = seat.server; session = session }) }) (record { stored = map f servers; seats = seats })
stays f at servers seats seat server new session is same kept session_is =
    let stored : map f (set servers seat.server new) ≡ map f servers = map-set_same f servers seat.server new server (kept ∙ ap f same) in
    let whole : ◌≡◌ {A = Seat} (record { server = seat.server; session = session }) (get_or seats at seat) = ap {A = Session} {B = Seat} (λ s. record { server = seat.server; session = s }) session_is ∙ is in
    let seated : set seats at (record { server = seat.server; session = session }) ≡ seats = ap (set seats at) whole ∙ set-get_or seats at seat in
    rw (stored, seated) refl

pub on_err : {T E : Type 0} {P : Type 0} (r : Result T E) → P → OnErr r P
on_err (Ok x) p = tt
on_err (Err e) p = p

-- what holds of each in a list, holds of each where one is put in another's place
all_set : {X : Type 0} (P : X → Type 0) (xs : List X) (i : ℕ) (x : X) → ((k : ℕ) (d : X) → k < length xs → P (get_or xs k d)) → P x → (k : ℕ) (d : X) → k < length (set xs i x) → P (get_or (set xs i x) k d)
all_set P [] i x all here k d small = all k d small
all_set P (y ∷ ys) zero x all here zero d small = here
all_set P (y ∷ ys) zero x all here (suc k) d small = all (suc k) d small
all_set P (y ∷ ys) (suc i) x all here zero d small = all zero d (omega arith)
all_set P (y ∷ ys) (suc i) x all here (suc k) d small = all_set P ys i x (λ k d less. all (suc k) d (omega (arith, less))) here k d (omega (arith, small))

-- behind a run servers go on taking their data and sessions
pub still_taken : {X : Type 0} (f : X → List ℕ) (tests : Tests) (step : Step) → ((stored : List ℕ) (s : Session) → Accepts tests stored s → (c : Cmd) → Accepts tests (step stored s c).stored (step stored s c).session)
    → (at : ℕ) (cmd : Cmd) (servers : List X) (seats : List Seat) (seat : Seat) (server new : X) (session : Session) (reply : List (List ℕ))
    → ((k : ℕ) (d : X) → k < length servers → tests.is_data (f (get_or servers k d)) ≡ true) → ((k : ℕ) (d : Seat) → k < length seats → IsTaken tests (get_or seats k d))
    → at < length seats → seat ≡ get_or seats at seat → seat.server < length servers → server ≡ get_or servers seat.server server → Runs step (f server) seat.session cmd (f new) session reply
    → ((k : ℕ) (d : X) → k < length (set servers seat.server new) → tests.is_data (f (get_or (set servers seat.server new) k d)) ≡ true)
    × ((k : ℕ) (d : Seat) → k < length (set seats at (record { server = seat.server; session = session })) → IsTaken tests (get_or (set seats at (record { server = seat.server; session = session })) k d))
still_taken f tests step keeps at cmd servers seats seat server new session reply kept sessions within is inside same run =
    let data_there : tests.is_data (f server) ≡ true = subst (λ x. tests.is_data (f x) ≡ true) (sym same) (kept seat.server server inside) in
    let session_there : IsTaken tests seat = subst (IsTaken tests) (sym is) (sessions at seat within) in
    let after = keeps (f server) seat.session (data_there, session_there) cmd in (
      all_set (λ x. tests.is_data (f x) ≡ true) servers seat.server new kept (subst (λ d. tests.is_data d ≡ true) (sym run.data_is) after.0),
      all_set (IsTaken tests) seats at (record { server = seat.server; session = session }) sessions
          (subst (λ (s : Session). tests.is_session s.tx s.locks s.deep s.diag ≡ true) (sym run.session_is) after.1),
    )
