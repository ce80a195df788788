-- Why statements are given up: of the code alone.
use Rattle.std.specs.Prelude.{◌≡◌, ℕ, Bool, false, All, List, Option, None, Some}
use Rattle.std.specs.Option.{option_map_or}
use Rattle.mx_base.specs.declared.names.ClientNo.{ClientNo}
use Rattle.mx_base.specs.declared.names.LinkId.{LinkId}
use Rattle.client_session.specs.Errors.{connection_refused}
use Rattle.private_model.specs.Story.{is_client}
use Rattle.session_state.specs.declared.names.SessionName.{SessionName}
use Rattle.core_tables.specs.Parting.{name_in}
use Rattle.core_tables.specs.Tables.{Tabled}
use Rattle.core_tables.specs.declared.server.Server.{Server}
use Rattle.core_laws.specs.clients.Going.{GivenUp}
use Rattle.core_promises.specs.Causes.{IsHeardCause, IsLateCause, IsLossCause}
use Rattle.router_laws.specs.decisions.Noted.{Notes, WasNoted}

-- the row of a link carries a session of this client
abbrev pub carries_of : LinkId → Tabled → ClientNo → Bool
carries_of l t c =
    option_map_or (λ (server : Server). option_map_or (λ (n : SessionName). is_client c n.client) (name_in server.row.link.state.carries) false)
    (t.links l) false

-- as bytes come on it
abbrev pub IsHeardFor : LinkId → Tabled → Option GivenUp → Type 0
IsHeardFor l t None = Unit {0}
IsHeardFor l t (Some up) = IsHeardCause (carries_of l t up.client) up.payload

-- as it is lost
abbrev pub IsLostFor : LinkId → Tabled → Option GivenUp → Type 0
IsLostFor l t None = Unit {0}
IsLostFor l t (Some up) = IsLossCause (carries_of l t up.client) up.payload

-- at a wake, by what is noted
abbrev pub AreLate : (wait_ms now_ms : ℕ) → (came : Bool) → Notes → Tabled → List GivenUp → Type 0
AreLate wait_ms now_ms came notes t given =
    All (λ (up : GivenUp). IsLateCause wait_ms now_ms came (WasNoted notes t up.client) up.payload) given

-- where a link couldn't be opened
abbrev pub AreRefused : List GivenUp → Type 0
AreRefused given = All (λ (up : GivenUp). up.payload ≡ connection_refused) given
