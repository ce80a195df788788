-- How clients come.
use Rattle.std.specs.Prelude.{Bool, List, None, Option, Some, [], false, filter, fold, if◌then◌else◌, length, nat_eq, nat_lt, not, slice_get, suc, true, zero, ℕ, ◌++◌, ◌+◌}
use Rattle.mx_base.specs.declared.names.{LinkId.LinkId, Port.Port, Port.TheVariants.Admin, Port.TheVariants.Traffic}
use Rattle.mx_wire.specs.{Log.Log, Log.moment_of, declared.entry.Entry.Entry, declared.entry.Entry.TheVariants.Accepted, declared.entry.Entry.TheVariants.Closed}
use Rattle.{client_session.specs.Setups.Setup, std.specs.List.cons_option, std.specs.Prelude.◌∷◌}

-- The clients that are connected at a port: each from its Accepted entry there to its Closed entry.

abbrev pub without : LinkId → List LinkId → List LinkId
without link links = filter (λ other. not (nat_eq other.0 link.0)) links

abbrev pub is_port : Port → Port → Bool
is_port Traffic Traffic = true
is_port Admin Admin = true
is_port _ _ = false

abbrev pub connected_step : Port → List LinkId → Entry → List LinkId
connected_step port links (Accepted at link salt) = if is_port port at then links ++ link ∷ [] else links
connected_step port links (Closed link) = without link links
connected_step port links _ = links

abbrev pub connected_at : Port → Log → List LinkId
connected_at port log = fold (connected_step port) [] log

-- at which port and on which link a client came, with which salt, how many clients were connected there then, and the moment of the last wake
pub record Arrival : Type 0 where
  pub port : Port
  pub link : LinkId
  pub salt : List ℕ
  pub others : ℕ
  pub at : ℕ

abbrev pub arrival_in : (before : Log) → Entry → Option Arrival
arrival_in before (Accepted port link salt) = Some (record { port = port; link = link; salt = salt; others = length (connected_at port before); at = moment_of before })
arrival_in before _ = None

-- those of the entries that stand behind these
abbrev pub arrivals_behind : (before : Log) → Log → List Arrival
arrivals_behind before [] = []
arrivals_behind before (e ∷ log) = cons_option (arrival_in before e) (arrivals_behind (before ++ e ∷ []) log)

abbrev pub arrivals : Log → List Arrival
arrivals log = arrivals_behind [] log

-- that of the n-th client, counted from 1
abbrev pub arrival_of : ℕ → Log → Option Arrival
arrival_of zero log = None
arrival_of (suc n) log = slice_get (arrivals log) n

-- how many clients are served at a port at a time
abbrev pub most_at : Setup → Port → ℕ
most_at setup Traffic = setup.max_clients
most_at setup Admin = 16

-- a client is served where fewer than that were connected
abbrev pub is_served : Setup → Arrival → Bool
is_served setup came = nat_lt came.others (most_at setup came.port)

-- A client that came at a moment has ten seconds for its login; a moment is at most the last value of its type.
abbrev pub login_end : (at : ℕ) → ℕ
login_end at = if nat_lt at 18446744073709541615 then at + 10000 else 18446744073709551615

abbrev pub login_until : Arrival → ℕ
login_until came = login_end came.at
