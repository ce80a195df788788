-- The bytes that a client is due, by the replies that were read.
use Rattle.std.specs.Prelude.{ℕ, Bool, false, List, [], ◌∷◌}
use Rattle.std.specs.Option.{option_map_or}
use Rattle.client_session.specs.Arrivals.{arrival_of, is_served}
use Rattle.client_session.specs.Errors.{too_many_connections}
use Rattle.mx_wire.specs.Log.{Log}
use Rattle.log_story.specs.Headline.{WritesDue}
use Rattle.log_story.specs.Owed.{due_bytes}
use Rattle.log_story.specs.Tale.{Client}
use Rattle.router_promises.specs.Now.{Now, view_now}
use Rattle.router_promises.specs.Terms.{Terms, plan_in, setup_in}

-- a client is served where there was room for it at its port
abbrev pub served : Terms → Log → Client → Bool
served terms log client = option_map_or (is_served (plan_in terms).service) (arrival_of client.number.0 log) false

-- one that isn't is told that there is no room
abbrev pub turned_away : List (List ℕ)
turned_away = too_many_connections ∷ []

abbrev pub due_to : Terms → Now → Client → List ℕ
due_to terms now client = due_bytes (view_now (setup_in terms) now).replies (plan_in terms) now.tale.moment client

-- what was written to each client is a front of what it is due
abbrev pub DueSo : Terms → Log → Type 0
DueSo terms log = WritesDue (setup_in terms) (plan_in terms) log
