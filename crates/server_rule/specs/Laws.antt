-- What is asked of a server. Each law is this project's own premise; whoever runs the router judges whether the servers
-- keep it.
use Rattle.std.specs.Prelude.{◌≡◌, ◌≢◌, ◌⊎◌, ℕ, ◌<◌, ◌^◌, Bool, true, false, List, [], ◌∷◌, Option, Some}
use Rattle.session_vars.specs.declared.change.Change.{Change}
use Rattle.session_vars.specs.declared.change.SlotValue.{SlotValue}
use Rattle.session_vars.specs.declared.long_part.LongPart.{LongPart}
use Rattle.session_state.specs.Classes.{Tracked, Uses, Neither, effect_of, frees_locks, is_lone_savepoint, schema_by, sets_autocommit, sets_next, settings_by, takes_locks}
use Rattle.session_state.specs.Endings.{brings_id, is_err, is_ok, shows_transaction, warns}
use Rattle.server_rule.specs.Classes.{Reads, core, effect_run, is_close, is_prepare, leaves_diag_run, leaves_found_run, outlasts_run, sees_diag, sees_found, sees_id, text_run}
use Rattle.server_rule.specs.Replies.{one_number, reply_end}
use Rattle.server_rule.specs.Servers.{Accepts, AgreeWhere, Outcome, Step, Tests, fresh, is_brief, is_some_of, outcome_with_id, with_diag, with_id}
use Rattle.server_rule.specs.Texts.{read_id_text, set_id_text}
use Rattle.server_rule.specs.declared.command.Cmd.{Cmd}
use Rattle.server_rule.specs.declared.command.Cmd.TheVariants.{Query, FieldList, Prepare, Run, Reset, Close}
use Rattle.server_rule.specs.declared.session.Session.{Session}

-- A step of accepted data and an accepted session leaves such ones, and a fresh session is accepted.
pub record KeepsTests (tests : Tests) (step : Step) : Type 0 where
  pub accepts_fresh : tests.is_session [] [] [] [] ≡ true
  pub keeps : (stored : List ℕ) (s : Session) → Accepts tests stored s → (c : Cmd) → Accepts tests (step stored s c).stored (step stored s c).session

-- The account stays: no command makes a session another user's, or changes what its login asked for.
pub record AccountLaw (tests : Tests) (step : Step) : Type 0 where
  pub user : (stored : List ℕ) (s : Session) → Accepts tests stored s → (c : Cmd) → (step stored s c).session.user ≡ s.user
  pub capabilities : (stored : List ℕ) (s : Session) → Accepts tests stored s → (c : Cmd) → (step stored s c).session.capabilities ≡ s.capabilities

-- Resets: RESET_CONNECTION is answered by one OK and leaves the session of a new login, but for its schema and for what no
-- reset takes back. That stands in no fresh session, and only a text of its class brings it. The end of a connection does the
-- same to the data, which depend neither on the insert id nor on the diagnostics, and leaves nothing else; where no
-- transaction, no lock and no other state is open, the data stay.
pub record ResetLaw (reads : Reads) (tests : Tests) (step : Step) : Type 0 where
  pub answered : (stored : List ℕ) (s : Session) → Accepts tests stored s → is_ok (reply_end false (step stored s Reset).reply) ≡ true
  pub session : (stored : List ℕ) (s : Session) → Accepts tests stored s → (step stored s Reset).session ≡ record (fresh s.user s.capabilities s.schema) { deep = (step stored s Reset).session.deep }
  pub deep : (stored : List ℕ) (s : Session) → Accepts tests stored s → tests.lasts s.deep ≡ false → (step stored s Reset).session.deep ≡ []
  pub nothing_lasts : tests.lasts [] ≡ false
  pub brings : (stored : List ℕ) (s : Session) → Accepts tests stored s → (c : Cmd) → outlasts_run reads c ≡ false → tests.lasts s.deep ≡ false → tests.lasts (step stored s c).session.deep ≡ false
  pub blind : (stored : List ℕ) (s : Session) → Accepts tests stored s → (n : ℕ) (diag : List ℕ) → Accepts tests stored (with_diag diag s) → (step stored (with_diag diag (with_id n s)) Reset).stored ≡ (step stored s Reset).stored
  pub idle : (stored : List ℕ) (s : Session) → Accepts tests stored s → s.tx ≡ [] → s.locks ≡ [] → s.deep ≡ [] → (step stored s Reset).stored ≡ stored
  pub close_reply : (stored : List ℕ) (s : Session) → Accepts tests stored s → (step stored s Close).reply ≡ []
  pub close_stored : (stored : List ℕ) (s : Session) → Accepts tests stored s → (step stored s Close).stored ≡ (step stored s Reset).stored
  pub close_session : (stored : List ℕ) (s : Session) → Accepts tests stored s → (step stored s Close).session ≡ fresh s.user s.capabilities s.schema

-- Tracked settings: a SET of tracked settings makes its changes where it is answered OK, and none else. It leaves schema,
-- locks and insert id, and it leaves data and transaction where none is open or autocommit isn't set.
pub record TrackedLaw (reads : Reads) (tests : Tests) (step : Step) : Type 0 where
  pub settings : (stored : List ℕ) (s : Session) → Accepts tests stored s → (c : Cmd) (changes : List Change) → effect_run reads c ≡ Tracked changes → (step stored s c).session.settings ≡ settings_by (Tracked changes) (is_ok (reply_end false (step stored s c).reply)) s.settings
  pub schema : (stored : List ℕ) (s : Session) → Accepts tests stored s → (c : Cmd) (changes : List Change) → effect_run reads c ≡ Tracked changes → (step stored s c).session.schema ≡ s.schema
  pub locks : (stored : List ℕ) (s : Session) → Accepts tests stored s → (c : Cmd) (changes : List Change) → effect_run reads c ≡ Tracked changes → (step stored s c).session.locks ≡ s.locks
  pub last_id : (stored : List ℕ) (s : Session) → Accepts tests stored s → (c : Cmd) (changes : List Change) → effect_run reads c ≡ Tracked changes → (step stored s c).session.last_id ≡ s.last_id
  pub calm : (stored : List ℕ) (s : Session) → Accepts tests stored s → (c : Cmd) (changes : List Change) → effect_run reads c ≡ Tracked changes → (s.tx ≡ []) ⊎ (sets_autocommit changes ≡ false) → (step stored s c).stored ≡ stored
  pub calm_tx : (stored : List ℕ) (s : Session) → Accepts tests stored s → (c : Cmd) (changes : List Change) → effect_run reads c ≡ Tracked changes → (s.tx ≡ []) ⊎ (sets_autocommit changes ≡ false) → (step stored s c).session.tx ≡ s.tx

-- Schemas: INIT_DB and USE choose the schema where they are answered OK, and leave the data and all else of the session
-- but the diagnostics.
pub record SchemaLaw (reads : Reads) (tests : Tests) (step : Step) : Type 0 where
  pub stored : (stored : List ℕ) (s : Session) → Accepts tests stored s → (c : Cmd) (schema : List ℕ) → effect_run reads c ≡ Uses schema → (step stored s c).stored ≡ stored
  pub session : (stored : List ℕ) (s : Session) → Accepts tests stored s → (c : Cmd) (schema : List ℕ) → effect_run reads c ≡ Uses schema
      → (step stored s c).session ≡ record s { schema = schema_by (Uses schema) (is_ok (reply_end false (step stored s c).reply)) s.schema; diag = (step stored s c).session.diag }

-- Ordinary texts, which aren't deep: each leaves schema and settings, unless it is one of the two kinds above. None takes
-- locks but LOCK TABLES, and none leaves other state but SET TRANSACTION, answered OK, or a savepoint whose reply shows neither
-- a transaction nor autocommit; what SET TRANSACTION left goes with the transaction that it was for.
pub record TextLaw (reads : Reads) (tests : Tests) (step : Step) : Type 0 where
  pub schema : (stored : List ℕ) (s : Session) → Accepts tests stored s → (c : Cmd) (text : List ℕ) → text_run c ≡ Some text → (reads.class text).deep ≡ false → effect_of (reads.class text) ≡ Neither → (step stored s c).session.schema ≡ s.schema
  pub settings : (stored : List ℕ) (s : Session) → Accepts tests stored s → (c : Cmd) (text : List ℕ) → text_run c ≡ Some text → (reads.class text).deep ≡ false → effect_of (reads.class text) ≡ Neither → (step stored s c).session.settings ≡ s.settings
  pub locks : (stored : List ℕ) (s : Session) → Accepts tests stored s → (c : Cmd) (text : List ℕ) → text_run c ≡ Some text → (reads.class text).deep ≡ false → takes_locks (reads.class text) (reply_end false (step stored s c).reply) ≡ false → s.locks ≡ [] → (step stored s c).session.locks ≡ []
  pub none : (stored : List ℕ) (s : Session) → Accepts tests stored s → (c : Cmd) (text : List ℕ) → text_run c ≡ Some text → (reads.class text).deep ≡ false → sets_next (reads.class text) (reply_end false (step stored s c).reply) ≡ false → is_lone_savepoint (reads.class text) (reply_end false (step stored s c).reply) ≡ false → s.deep ≡ [] → (step stored s c).session.deep ≡ []
  pub brief : (stored : List ℕ) (s : Session) → Accepts tests stored s → (c : Cmd) (text : List ℕ) → text_run c ≡ Some text → (reads.class text).deep ≡ false → is_lone_savepoint (reads.class text) (reply_end false (step stored s c).reply) ≡ false → is_brief s.deep ≡ true → is_brief (step stored s c).session.deep ≡ true
  pub ended : (stored : List ℕ) (s : Session) → Accepts tests stored s → (c : Cmd) (text : List ℕ) → text_run c ≡ Some text → (reads.class text).deep ≡ false → is_some_of s.tx ≡ true → is_some_of (step stored s c).session.tx ≡ false → is_brief s.deep ≡ true → (step stored s c).session.deep ≡ []
  pub unset : (stored : List ℕ) (s : Session) → Accepts tests stored s → (c : Cmd) (text : List ℕ) → text_run c ≡ Some text → (reads.class text).deep ≡ false → (reads.class text).next_tx ≡ true → is_err (reply_end false (step stored s c).reply) ≡ true → (step stored s c).session.deep ≡ s.deep

-- What one command does in two sessions that differ in diagnostics: the same, but for the diagnostics that it leaves; and these
-- show the same where they are its own, or where they did before.
pub record IsBlind (tests : Tests) (own_diag own_found : Bool) (diag diag' : List ℕ) (there here : Outcome) : Type 0 where
  pub stored : there.stored ≡ here.stored
  pub reply : there.reply ≡ here.reply
  pub session : there.session ≡ with_diag there.session.diag here.session
  pub warnings : (own_diag ≡ false → tests.warnings diag ≡ tests.warnings diag') → tests.warnings there.session.diag ≡ tests.warnings here.session.diag
  pub found : (own_found ≡ false → tests.found diag ≡ tests.found diag') → tests.found there.session.diag ≡ tests.found here.session.diag

-- Independence: only a text that reads diagnostics depends on what they show, and leaves older ones only where it uses no table
-- and its reply doesn't warn, or, for FOUND_ROWS(), where it is no SELECT; and only one that is marked depends on the insert id
-- or changes it. To prepare a text is neither.
pub record BlindLaw (reads : Reads) (tests : Tests) (step : Step) : Type 0 where
  pub diag : (stored : List ℕ) (s : Session) → Accepts tests stored s → (c : Cmd) (diag : List ℕ) → Accepts tests stored (with_diag diag s) → AgreeWhere tests (sees_diag reads c) (sees_found reads c) diag s.diag
      → IsBlind tests (leaves_diag_run reads c (reply_end (is_prepare c) (step stored s c).reply)) (leaves_found_run reads c (reply_end (is_prepare c) (step stored s c).reply)) diag s.diag (step stored (with_diag diag s) c) (step stored s c)
  pub last_id : (stored : List ℕ) (s : Session) → Accepts tests stored s → (c : Cmd) (n : ℕ) → sees_id reads c ≡ false → step stored (with_id n s) c ≡ outcome_with_id n (step stored s c)

-- Insert ids: a text that isn't deep changes it only where it is answered by an ERR or by an OK that shows one. The text
-- that sets it does so where it is answered OK, the text that reads it gives it in one row or an ERR; both leave all else
-- but the diagnostics, don't look at these, and the first doesn't look at the id before.
pub record IdLaw (reads : Reads) (tests : Tests) (step : Step) : Type 0 where
  pub kept : (stored : List ℕ) (s : Session) → Accepts tests stored s → (c : Cmd) (text : List ℕ) → text_run c ≡ Some text → (reads.class text).marks_id ≡ true → (reads.class text).deep ≡ false → reads.hides_id text ≡ false → brings_id (reply_end false (step stored s c).reply) ≡ false → (step stored s c).session.last_id ≡ s.last_id
  pub set_stored : (stored : List ℕ) (s : Session) → Accepts tests stored s → (n : ℕ) → n < 2 ^ 64 → (step stored s (Query (set_id_text n))).stored ≡ stored
  pub set_done : (stored : List ℕ) (s : Session) → Accepts tests stored s → (n : ℕ) → n < 2 ^ 64 → is_ok (reply_end false (step stored s (Query (set_id_text n))).reply) ≡ true → (step stored s (Query (set_id_text n))).session ≡ with_diag (step stored s (Query (set_id_text n))).session.diag (with_id n s)
  pub set_refused : (stored : List ℕ) (s : Session) → Accepts tests stored s → (n : ℕ) → n < 2 ^ 64 → is_ok (reply_end false (step stored s (Query (set_id_text n))).reply) ≡ false → (step stored s (Query (set_id_text n))).session ≡ with_diag (step stored s (Query (set_id_text n))).session.diag s
  pub set_reply : (stored : List ℕ) (s : Session) → Accepts tests stored s → (n k : ℕ) → n < 2 ^ 64 → (step stored (with_id k s) (Query (set_id_text n))).reply ≡ (step stored s (Query (set_id_text n))).reply
  pub set_diag : (stored : List ℕ) (s : Session) → Accepts tests stored s → (n k : ℕ) → n < 2 ^ 64 → (step stored (with_id k s) (Query (set_id_text n))).session.diag ≡ (step stored s (Query (set_id_text n))).session.diag
  pub set_blind : (stored : List ℕ) (s : Session) → Accepts tests stored s → (n : ℕ) → n < 2 ^ 64 → (diag : List ℕ) → Accepts tests stored (with_diag diag s) → IsBlind tests (warns (reply_end false (step stored s (Query (set_id_text n))).reply)) false diag s.diag (step stored (with_diag diag s) (Query (set_id_text n))) (step stored s (Query (set_id_text n)))
  pub read_stored : (stored : List ℕ) (s : Session) → Accepts tests stored s → (step stored s (Query read_id_text)).stored ≡ stored
  pub read_session : (stored : List ℕ) (s : Session) → Accepts tests stored s → (step stored s (Query read_id_text)).session ≡ with_diag (step stored s (Query read_id_text)).session.diag s
  pub read_row : (stored : List ℕ) (s : Session) → Accepts tests stored s → (is_err (reply_end false (step stored s (Query read_id_text)).reply) ≡ true) ⊎ (one_number (step stored s (Query read_id_text)).reply ≡ Some s.last_id)
  pub read_blind : (stored : List ℕ) (s : Session) → Accepts tests stored s → (diag : List ℕ) → Accepts tests stored (with_diag diag s) → IsBlind tests (warns (reply_end false (step stored s (Query read_id_text)).reply)) false diag s.diag (step stored (with_diag diag s) (Query read_id_text)) (step stored s (Query read_id_text))

-- Status flags: the last ones of a reply show a transaction exactly where one is open afterwards.
pub record FlagsLaw (tests : Tests) (step : Step) : Type 0 where
  pub in_trans : (stored : List ℕ) (s : Session) → Accepts tests stored s → (c : Cmd) → is_prepare c ≡ false → is_close c ≡ false → (shown : Bool) → shows_transaction (reply_end false (step stored s c).reply) ≡ Some shown → is_some_of (step stored s c).session.tx ≡ shown

-- Preparations: STMT_PREPARE and FIELD_LIST leave the data and all of the session but the diagnostics. How many
-- parameters a text has depends on the text alone, and to run it doesn't depend on autocommit as it was at its preparation.
pub record PrepareLaw (tests : Tests) (step : Step) : Type 0 where
  pub stored : (stored : List ℕ) (s : Session) → Accepts tests stored s → (text : List ℕ) → (step stored s (Prepare text)).stored ≡ stored
  pub session : (stored : List ℕ) (s : Session) → Accepts tests stored s → (text : List ℕ) → (step stored s (Prepare text)).session ≡ with_diag (step stored s (Prepare text)).session.diag s
  pub fields_stored : (stored : List ℕ) (s : Session) → Accepts tests stored s → (rest : List ℕ) → (step stored s (FieldList rest)).stored ≡ stored
  pub fields_session : (stored : List ℕ) (s : Session) → Accepts tests stored s → (rest : List ℕ) → (step stored s (FieldList rest)).session ≡ with_diag (step stored s (FieldList rest)).session.diag s
  pub params : (stored stored' : List ℕ) (s s' : Session) → Accepts tests stored s → Accepts tests stored' s' → (text : List ℕ) → is_err (reply_end true (step stored s (Prepare text)).reply) ≡ false → is_err (reply_end true (step stored' s' (Prepare text)).reply) ≡ false → (reply_end true (step stored s (Prepare text)).reply).params ≡ (reply_end true (step stored' s' (Prepare text)).reply).params
  pub run : (stored : List ℕ) (s : Session) → Accepts tests stored s → (text schema : List ℕ) (there here : List SlotValue) (types : Option (List ℕ)) (nulls values : List ℕ) (long : List LongPart) → core there ≡ core here → step stored s (Run text schema here types nulls values long) ≡ step stored s (Run text schema there types nulls values long)

-- Locks: UNLOCK TABLES, answered OK, leaves none.
pub record UnlockLaw (reads : Reads) (tests : Tests) (step : Step) : Type 0 where
  pub frees : (stored : List ℕ) (s : Session) → Accepts tests stored s → (c : Cmd) (text : List ℕ) → text_run c ≡ Some text → frees_locks (reads.class text) (reply_end false (step stored s c).reply) ≡ true → (step stored s c).session.locks ≡ []

-- one payload, which is an OK or an ERR
pub record IsOkOrErr (payloads : List (List ℕ)) : Type 0 where
  pub payload : List ℕ
  pub alone : payloads ≡ payload ∷ []
  pub kind : (is_ok (reply_end false payloads) ≡ true) ⊎ (is_err (reply_end false payloads) ≡ true)

-- Replies: to choose a schema, to set tracked settings and to set the insert id are answered by one OK or one ERR.
pub record ReplyLaw (reads : Reads) (tests : Tests) (step : Step) : Type 0 where
  pub changes : (stored : List ℕ) (s : Session) → Accepts tests stored s → (c : Cmd) → effect_run reads c ≢ Neither → IsOkOrErr (step stored s c).reply
  pub set_id : (stored : List ℕ) (s : Session) → Accepts tests stored s → (n : ℕ) → n < 2 ^ 64 → IsOkOrErr (step stored s (Query (set_id_text n))).reply

-- A tame server keeps all of them.
pub record IsTame (reads : Reads) (tests : Tests) (step : Step) : Type 0 where
  pub tests_kept : KeepsTests tests step
  pub account : AccountLaw tests step
  pub reset : ResetLaw reads tests step
  pub tracked : TrackedLaw reads tests step
  pub schemas : SchemaLaw reads tests step
  pub texts : TextLaw reads tests step
  pub blind : BlindLaw reads tests step
  pub insert_id : IdLaw reads tests step
  pub flags : FlagsLaw tests step
  pub preparing : PrepareLaw tests step
  pub unlock : UnlockLaw reads tests step
  pub replies : ReplyLaw reads tests step
