-- A server that refuses every command but the two that end a session.
use Rattle.std.specs.Prelude.{ℕ, true, false, List, [], ◌∷◌}
use Rattle.server_rule.specs.Servers.{Outcome, Step, Tests, fresh}
use Rattle.server_rule.specs.declared.command.Cmd.TheVariants.{Query, InitDb, FieldList, Prepare, Run, Reset, Close}
use Rattle.server_rule.specs.declared.session.Session.{Session}

-- it takes any data and any session
abbrev pub anything : Tests
anything = record { is_data = λ stored. true; is_session = λ tx locks deep diag. true; lasts = λ deep. false; warnings = λ diag. diag; found = λ diag. diag }

-- 0xFF, code 1064, '#', SQL state 42000
abbrev pub syntax_error : List ℕ
syntax_error = 255 ∷ 40 ∷ 4 ∷ 35 ∷ 52 ∷ 50 ∷ 48 ∷ 48 ∷ 48 ∷ []

-- 0x00, no rows, no insert id, SERVER_STATUS_AUTOCOMMIT, no warnings
abbrev pub plain_ok : List ℕ
plain_ok = 0 ∷ 0 ∷ 0 ∷ 2 ∷ 0 ∷ 0 ∷ 0 ∷ []

abbrev pub refused : (stored : List ℕ) → Session → Outcome
refused stored s = record { stored = stored; session = record s { diag = [] }; reply = syntax_error ∷ [] }

abbrev pub ended : (stored : List ℕ) → Session → (reply : List (List ℕ)) → Outcome
ended stored s reply = record { stored = stored; session = fresh s.user s.capabilities s.schema; reply = reply }

abbrev pub refuses : Step
refuses stored s Reset = ended stored s (plain_ok ∷ [])
refuses stored s Close = ended stored s []
refuses stored s (Query text) = refused stored s
refuses stored s (InitDb schema) = refused stored s
refuses stored s (FieldList rest) = refused stored s
refuses stored s (Prepare text) = refused stored s
refuses stored s (Run text schema settings types nulls values long) = refused stored s
