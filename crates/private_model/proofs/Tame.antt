-- The laws of a tame server, told of the router's commands: what the proof uses of them.
use Rattle.std.specs.Prelude.{◌≡◌, ◌⊎◌, ℕ, Bool, true, false, List, [], Option, Some}
use Rattle.server_rule.proofs.Ends.{Shows}
use Rattle.session_state.specs.Endings as ending
use Rattle.private_model.specs.Commands.{Account, Number, Args, Command, Outcome, Reply, FieldList, Prepare, Query, Quit, ReadId, Reset, Run, SetId, Step, class_of, end_of, fresh_of, hides_of, is_err, is_ok}
use Rattle.server_rule.specs.Classes.{Reads, core}
use Rattle.server_rule.specs.Replies.{one_number}
use Rattle.server_rule.specs.Servers.{Accepts, AgreeWhere, Tests, is_brief, is_some_of, with_diag, with_id}
use Rattle.server_rule.specs.declared.session.Session.{Session}
use Rattle.session_state.specs.Classes.{Tracked, Uses, effect_of, frees_locks, is_lone_savepoint, leaves_diag, leaves_found, schema_by, sets_autocommit, sets_next, settings_by, takes_locks}
use Rattle.session_vars.specs.declared.change.Change.{Change}
use Rattle.session_vars.specs.declared.change.SlotValue.{SlotValue}

abbrev pub account_of : Session → Account
account_of session = record { user = session.user; capabilities = session.capabilities }

abbrev pub outcome_with_id : ℕ → Outcome → Outcome
outcome_with_id n outcome = record outcome { session = with_id n outcome.session }

-- whether a transaction is open, where a reply says it
abbrev pub flags : Reply → Option Bool
flags reply = ending.shows_transaction (end_of reply)

abbrev pub brings_id : Reply → Bool
brings_id reply = ending.brings_id (end_of reply)

-- A reset leaves a fresh session but for its schema and what no reset takes back, and a quit does the same to the data.
pub record ResetLaw (reads : Reads) (tests : Tests) (step : Step) : Type 0 where
  pub session : (stored : List ℕ) (s : Session) → Accepts tests stored s → (step stored s Reset).session ≡ record (fresh_of (account_of s) s.schema) { deep = (step stored s Reset).session.deep }
  pub deep : (stored : List ℕ) (s : Session) → Accepts tests stored s → tests.lasts s.deep ≡ false → (step stored s Reset).session.deep ≡ []
  pub nothing_lasts : tests.lasts [] ≡ false
  pub brings : (stored : List ℕ) (s : Session) → Accepts tests stored s → (c : Command) → (class_of reads c).outlasts_reset ≡ false → tests.lasts s.deep ≡ false → tests.lasts (step stored s c).session.deep ≡ false
  pub blind : (stored : List ℕ) (s : Session) → Accepts tests stored s → (n : ℕ) (diag : List ℕ) → Accepts tests stored (with_diag diag s) → (step stored (with_diag diag (with_id n s)) Reset).stored ≡ (step stored s Reset).stored
  pub idle : (stored : List ℕ) (s : Session) → Accepts tests stored s → s.tx ≡ [] → s.locks ≡ [] → s.deep ≡ [] → (step stored s Reset).stored ≡ stored
  pub quit_stored : (stored : List ℕ) (s : Session) → Accepts tests stored s → (step stored s Quit).stored ≡ (step stored s Reset).stored
  pub quit_session : (stored : List ℕ) (s : Session) → Accepts tests stored s → (step stored s Quit).session ≡ fresh_of (account_of s) s.schema

-- A tracked SET leaves locks and the insert id, and data and transaction too where no transaction is open or autocommit isn't among its settings.
pub record TrackedLaw (reads : Reads) (tests : Tests) (step : Step) : Type 0 where
  pub calm : (stored : List ℕ) (s : Session) → Accepts tests stored s → (c : Command) (changes : List Change) → effect_of (class_of reads c) ≡ Tracked changes → (s.tx ≡ []) ⊎ (sets_autocommit changes ≡ false) → (step stored s c).stored ≡ stored
  pub calm_tx : (stored : List ℕ) (s : Session) → Accepts tests stored s → (c : Command) (changes : List Change) → effect_of (class_of reads c) ≡ Tracked changes → (s.tx ≡ []) ⊎ (sets_autocommit changes ≡ false) → (step stored s c).session.tx ≡ s.tx

-- A change of the schema leaves the data and all else but the diagnostics.
pub record UseLaw (reads : Reads) (tests : Tests) (step : Step) : Type 0 where
  pub stored : (stored : List ℕ) (s : Session) → Accepts tests stored s → (c : Command) (schema : List ℕ) → effect_of (class_of reads c) ≡ Uses schema → (step stored s c).stored ≡ stored
  pub session : (stored : List ℕ) (s : Session) → Accepts tests stored s → (c : Command) (schema : List ℕ) → effect_of (class_of reads c) ≡ Uses schema
      → (step stored s c).session ≡ record s { schema = schema_by (Uses schema) (is_ok (step stored s c).reply) s.schema; diag = (step stored s c).session.diag }

-- What a text that isn't deep leaves.
pub record TextLaw (reads : Reads) (tests : Tests) (step : Step) : Type 0 where
  pub schema : (stored : List ℕ) (s : Session) → Accepts tests stored s → (c : Command) → (class_of reads c).deep ≡ false → (step stored s c).session.schema ≡ schema_by (effect_of (class_of reads c)) (is_ok (step stored s c).reply) s.schema
  pub settings : (stored : List ℕ) (s : Session) → Accepts tests stored s → (c : Command) → (class_of reads c).deep ≡ false → (step stored s c).session.settings ≡ settings_by (effect_of (class_of reads c)) (is_ok (step stored s c).reply) s.settings
  pub locks : (stored : List ℕ) (s : Session) → Accepts tests stored s → (c : Command) → (class_of reads c).deep ≡ false → takes_locks (class_of reads c) (end_of (step stored s c).reply) ≡ false → s.locks ≡ [] → (step stored s c).session.locks ≡ []
  pub none : (stored : List ℕ) (s : Session) → Accepts tests stored s → (c : Command) → (class_of reads c).deep ≡ false → sets_next (class_of reads c) (end_of (step stored s c).reply) ≡ false → is_lone_savepoint (class_of reads c) (end_of (step stored s c).reply) ≡ false → s.deep ≡ [] → (step stored s c).session.deep ≡ []
  pub brief : (stored : List ℕ) (s : Session) → Accepts tests stored s → (c : Command) → (class_of reads c).deep ≡ false → is_lone_savepoint (class_of reads c) (end_of (step stored s c).reply) ≡ false → is_brief s.deep ≡ true → is_brief (step stored s c).session.deep ≡ true
  pub ended : (stored : List ℕ) (s : Session) → Accepts tests stored s → (c : Command) → (class_of reads c).deep ≡ false → is_some_of s.tx ≡ true → is_some_of (step stored s c).session.tx ≡ false → is_brief s.deep ≡ true → (step stored s c).session.deep ≡ []

-- two outcomes that are the same but for diagnostics, which show the same where they are of this command, or did before
pub record IsBlind (tests : Tests) (own_diag own_found : Bool) (diag diag' : List ℕ) (there here : Outcome) : Type 0 where
  pub stored : there.stored ≡ here.stored
  pub reply : there.reply ≡ here.reply
  pub session : there.session ≡ with_diag there.session.diag here.session
  pub warnings : (own_diag ≡ false → tests.warnings diag ≡ tests.warnings diag') → tests.warnings there.session.diag ≡ tests.warnings here.session.diag
  pub found : (own_found ≡ false → tests.found diag ≡ tests.found diag') → tests.found there.session.diag ≡ tests.found here.session.diag

abbrev pub IsBlindBy : Reads → Tests → Command → (diag diag' : List ℕ) → (there here : Outcome) → Type 0
IsBlindBy reads tests c diag diag' there here =
    IsBlind tests (leaves_diag (class_of reads c) (end_of here.reply)) (leaves_found (class_of reads c) (end_of here.reply)) diag diag' there here

abbrev pub SeesSame : Reads → Tests → Command → (diag diag' : List ℕ) → Type 0
SeesSame reads tests c diag diag' = AgreeWhere tests (class_of reads c).reads_diag (class_of reads c).reads_found diag diag'

-- What doesn't depend on the diagnostics, and what doesn't on the insert id.
pub record BlindLaw (reads : Reads) (tests : Tests) (step : Step) : Type 0 where
  pub diag : (stored : List ℕ) (s : Session) → Accepts tests stored s → (c : Command) (diag : List ℕ) → Accepts tests stored (with_diag diag s) → SeesSame reads tests c diag s.diag → IsBlindBy reads tests c diag s.diag (step stored (with_diag diag s) c) (step stored s c)
  pub last_id : (stored : List ℕ) (s : Session) → Accepts tests stored s → (c : Command) (n : ℕ) → (class_of reads c).marks_id ≡ false → step stored (with_id n s) c ≡ outcome_with_id n (step stored s c)

abbrev pub is_text : Command → Bool
is_text (Query text) = true
is_text (Run text schema settings args) = true
is_text _ = false

-- To prepare leaves all but the diagnostics, and a Run doesn't look at autocommit as it was at the preparation.
pub record PrepareLaw (reads : Reads) (tests : Tests) (step : Step) : Type 0 where
  pub stored : (stored : List ℕ) (s : Session) → Accepts tests stored s → (text : List ℕ) → (step stored s (Prepare text)).stored ≡ stored
  pub session : (stored : List ℕ) (s : Session) → Accepts tests stored s → (text : List ℕ) → (step stored s (Prepare text)).session ≡ with_diag (step stored s (Prepare text)).session.diag s
  pub fields_stored : (stored : List ℕ) (s : Session) → Accepts tests stored s → (rest : List ℕ) → (step stored s (FieldList rest)).stored ≡ stored
  pub fields_session : (stored : List ℕ) (s : Session) → Accepts tests stored s → (rest : List ℕ) → (step stored s (FieldList rest)).session ≡ with_diag (step stored s (FieldList rest)).session.diag s
  pub core : (stored : List ℕ) (s : Session) → Accepts tests stored s → (text schema : List ℕ) (there here : List SlotValue) (args : Args) → core there ≡ core here → step stored s (Run text schema here args) ≡ step stored s (Run text schema there args)

-- When the insert id changes, and the two texts that set and read it.
pub record IdLaw (reads : Reads) (tests : Tests) (step : Step) : Type 0 where
  pub kept : (stored : List ℕ) (s : Session) → Accepts tests stored s → (c : Command) → is_text c ≡ true → (class_of reads c).deep ≡ false → hides_of reads c ≡ false → brings_id (step stored s c).reply ≡ false → (step stored s c).session.last_id ≡ s.last_id
  pub set_stored : (stored : List ℕ) (s : Session) → Accepts tests stored s → (n : Number) → (step stored s (SetId n)).stored ≡ stored
  pub set_done : (stored : List ℕ) (s : Session) → Accepts tests stored s → (n : Number) → is_ok (step stored s (SetId n)).reply ≡ true → (step stored s (SetId n)).session ≡ with_diag (step stored s (SetId n)).session.diag (with_id n.value s)
  pub set_refused : (stored : List ℕ) (s : Session) → Accepts tests stored s → (n : Number) → is_ok (step stored s (SetId n)).reply ≡ false → (step stored s (SetId n)).session ≡ with_diag (step stored s (SetId n)).session.diag s
  pub set_reply : (stored : List ℕ) (s : Session) → Accepts tests stored s → (n : Number) (k : ℕ) → (step stored (with_id k s) (SetId n)).reply ≡ (step stored s (SetId n)).reply
  pub set_diag : (stored : List ℕ) (s : Session) → Accepts tests stored s → (n : Number) (k : ℕ) → (step stored (with_id k s) (SetId n)).session.diag ≡ (step stored s (SetId n)).session.diag
  pub read_stored : (stored : List ℕ) (s : Session) → Accepts tests stored s → (step stored s ReadId).stored ≡ stored
  pub read_session : (stored : List ℕ) (s : Session) → Accepts tests stored s → (step stored s ReadId).session ≡ with_diag (step stored s ReadId).session.diag s
  pub read_row : (stored : List ℕ) (s : Session) → Accepts tests stored s → (is_err (step stored s ReadId).reply ≡ true) ⊎ (one_number (step stored s ReadId).reply.payloads ≡ Some s.last_id)

-- an answer to a preparation may show no flags; what this model writes there isn't looked at
abbrev pub is_flagged : Command → Bool
is_flagged (Prepare text) = false
is_flagged _ = true

pub record Tame (reads : Reads) (tests : Tests) (step : Step) : Type 0 where
  pub accepts_fresh : tests.is_session [] [] [] [] ≡ true
  pub keeps : (stored : List ℕ) (s : Session) → Accepts tests stored s → (c : Command) → Accepts tests (step stored s c).stored (step stored s c).session
  pub account : (stored : List ℕ) (s : Session) → Accepts tests stored s → (c : Command) → account_of (step stored s c).session ≡ account_of s
  pub reset : ResetLaw reads tests step
  pub tracked : TrackedLaw reads tests step
  pub uses : UseLaw reads tests step
  pub text : TextLaw reads tests step
  pub blind : BlindLaw reads tests step
  pub id : IdLaw reads tests step
  pub prepare : PrepareLaw reads tests step
  pub in_trans : (stored : List ℕ) (s : Session) → Accepts tests stored s → (c : Command) → is_flagged c ≡ true → (shown : Bool) → flags (step stored s c).reply ≡ Some shown → is_some_of (step stored s c).session.tx ≡ shown
  pub frees : (stored : List ℕ) (s : Session) → Accepts tests stored s → (c : Command) → frees_locks (class_of reads c) (end_of (step stored s c).reply) ≡ true → (step stored s c).session.locks ≡ []
  pub shows : (stored : List ℕ) (s : Session) → Accepts tests stored s → (c : Command) → is_flagged c ≡ true → is_err (step stored s c).reply ≡ false → Shows (end_of (step stored s c).reply)
