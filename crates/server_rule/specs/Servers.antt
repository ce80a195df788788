-- A server: what one command does to its data and to the session of a connection.
use Rattle.std.specs.Prelude.{◌≡◌, ℕ, Bool, true, false, nat_eq, List, [], ◌∷◌}
use Rattle.session_vars.specs.Settings.{defaults}
use Rattle.server_rule.specs.declared.command.Cmd.{Cmd}
use Rattle.server_rule.specs.declared.session.Capabilities.{Capabilities}
use Rattle.server_rule.specs.declared.session.Session.{Session}

pub record Outcome : Type 0 where
  pub stored : List ℕ
  pub session : Session
  pub reply : List (List ℕ)  -- its payloads

abbrev pub Step : Type 0
Step = (stored : List ℕ) → Session → Cmd → Outcome

-- What a server takes as its data, and as a session, of which it looks at these four alone; in which deep state of a session
-- something stands that no reset takes back; and what of a session's diagnostics is shown by what reads warnings and counts of
-- changed rows, and what by FOUND_ROWS().
pub record Tests : Type 0 where
  pub is_data : List ℕ → Bool
  pub is_session : (tx locks deep diag : List ℕ) → Bool
  pub lasts : (deep : List ℕ) → Bool
  pub warnings : (diag : List ℕ) → List ℕ
  pub found : (diag : List ℕ) → List ℕ

abbrev pub Accepts : Tests → (stored : List ℕ) → Session → Type 0
Accepts tests stored s = (tests.is_data stored ≡ true) × (tests.is_session s.tx s.locks s.deep s.diag ≡ true)

-- a login asks for nothing
abbrev pub no_capabilities : Capabilities
no_capabilities = record { found_rows = false; multi_results = false; ignore_space = false }

-- a session as it is after a login or a reset, but for its schema
abbrev pub fresh : (user : List ℕ) → Capabilities → (schema : List ℕ) → Session
fresh user capabilities schema = record { user = user; capabilities = capabilities; schema = schema; settings = defaults; tx = []; locks = []; deep = []; last_id = 0; diag = [] }

-- the same but for the insert id, or for the diagnostics
abbrev pub with_id : ℕ → Session → Session
with_id n session = record session { last_id = n }

abbrev pub with_diag : List ℕ → Session → Session
with_diag diag session = record session { diag = diag }

-- they show the same, where it is asked for
pub record AgreeWhere (tests : Tests) (asks_warnings asks_found : Bool) (diag diag' : List ℕ) : Type 0 where
  pub warnings : asks_warnings ≡ true → tests.warnings diag ≡ tests.warnings diag'
  pub found : asks_found ≡ true → tests.found diag ≡ tests.found diag'

abbrev pub outcome_with_id : ℕ → Outcome → Outcome
outcome_with_id n outcome = record outcome { session = with_id n outcome.session }

abbrev pub is_some_of : List ℕ → Bool
is_some_of [] = false
is_some_of (x ∷ xs) = true

-- deep state that SET TRANSACTION alone may have left
abbrev pub is_brief : List ℕ → Bool
is_brief [] = true
is_brief (x ∷ xs) = nat_eq x 1

-- a call that answers does what the step says
pub record Runs (step : Step) (stored : List ℕ) (s : Session) (c : Cmd) (new_stored : List ℕ) (new : Session) (payloads : List (List ℕ)) : Type 0 where
  pub data_is : new_stored ≡ (step stored s c).stored
  pub session_is : new ≡ (step stored s c).session
  pub reply_is : payloads ≡ (step stored s c).reply
