-- Tracked settings.
use Rattle.std.specs.Prelude.{◌≡◌, ◌⊎◌, ◌≢◌, ℕ, Bool, true, false, not, ◌&&◌, ◌||◌, List, [], ◌∷◌, Option, None}
use Rattle.std.proofs.Common.{refl, sym, ap, ◌∙◌, inl, inr, arith}
use Rattle.std.proofs.lemmas.List.{get_or-set_other}
use Rattle.session_vars.specs.Settings.{applied, changed, value_at, value_after}
use Rattle.session_vars.specs.declared.change.Change.{Change}
use Rattle.session_vars.specs.declared.change.SlotValue.{SlotValue}
use Rattle.session_vars.specs.declared.change.SlotValue.TheVariants.{Default}
use Rattle.session_vars.specs.Slots.{place_of}
use Rattle.session_vars.specs.declared.slot.Slot.{Slot}
use Rattle.session_vars.specs.declared.slot.Slot.TheVariants.{Names, CharacterSetResults, CollationConnection, Autocommit, SqlMode, TimeZone, TransactionIsolation, TransactionReadOnly, SqlSafeUpdates, ForeignKeyChecks, UniqueChecks, SqlSelectLimit, GroupConcatMaxLen, LcTimeNames, LcMessages, WaitTimeout, NetReadTimeout, NetWriteTimeout, InnodbLockWaitTimeout, LockWaitTimeout, MaxExecutionTime, SqlAutoIsNull, CharacterSetServer, SqlBigSelects, SqlNotes, SqlQuoteShowCreate, DefaultStorageEngine, InteractiveTimeout, MaxStatementTime, SessionTrackSchema, SessionTrackStateChange, SessionTrackSystemVariables, SessionTrackTransactionInfo, SessionTrackGtids, TmpTableSize, MaxHeapTableSize, SortBufferSize, JoinBufferSize, ReadBufferSize, ReadRndBufferSize, BulkInsertBufferSize, MaxSortLength, MaxErrorCount, BigTables, LowPriorityUpdates, SqlWarnings, AutoIncrementIncrement, AutoIncrementOffset, DivPrecisionIncrement, DefaultWeekFormat, DefaultTmpStorageEngine, InnodbStrictMode, InnodbTableLocks, EqRangeIndexDiveLimit, OptimizerSearchDepth, OptimizerPruneLevel, LongQueryTime, UpdatableViewsWithLimit, CteMaxRecursionDepth, InformationSchemaStatsExpiry, BlockEncryptionMode, GroupReplicationConsistency, WsrepSyncWait, IdleTransactionTimeout, IdleReadonlyTransactionTimeout, IdleWriteTransactionTimeout, CheckConstraintChecks}
use Rattle.session_state.specs.Classes.{Effect, Tracked, effect_of, is_autocommit, settings_by, sets_autocommit}
use Rattle.session_state.specs.Endings.{is_ok}
use Rattle.pin_classifier.specs.Classes.{class_of}
use Rattle.server_rule.specs.Classes.{effect_run, router_reads}
use Rattle.server_rule.specs.Laws.{TrackedLaw}
use Rattle.server_rule.specs.Replies.{reply_end}
use Rattle.server_rule.specs.declared.command.Cmd.{Cmd}
use Rattle.server_rule.specs.declared.command.Cmd.TheVariants.{Query, InitDb, FieldList, Prepare, Run, Reset, Close}
use Rattle.server_rule.specs.declared.session.Session.{Session}
use Rattle.mem_rule.specs.Answers.{is_off, is_off_in}
use Rattle.mem_rule.specs.Commands.{Ran, by_effect, ran, tracks, with_settings}
use Rattle.mem_rule.specs.Notes.{notes_of}
use Rattle.mem_rule.specs.Statements.{Binding}
use Rattle.mem_rule.specs.Stored.{step, stored_after, tables_in, tests}
use Rattle.mem_rule.specs.Tables.{Tables}
use Rattle.mem_rule.proofs.Resets.{ok_is_ok}

of_effect : (e : Effect) (changes : List Change) → e ≡ Tracked changes → (text : List ℕ) (b : Option Binding) (is_binary : Bool) (place : List ℕ) (t : Tables) (s : Session) → by_effect e text b is_binary place t s ≡ tracks changes s
of_effect e changes is text b is_binary place t s = rw is refl

-- such a command makes these changes
pub tracking : (t : Tables) (s : Session) (c : Cmd) (changes : List Change) → effect_run router_reads c ≡ Tracked changes → ran t s c ≡ tracks changes s
unfolding ran router_reads
tracking t s (Query text) changes is = of_effect (effect_of (class_of text)) changes is text None false s.schema t s
tracking t s (InitDb chosen) changes is = absurd (cc)
tracking t s (FieldList rest) changes is = absurd (cc)
tracking t s (Prepare text) changes is = absurd (cc)
tracking t s (Run text place settings types nulls values long) changes is = of_effect (effect_of (class_of text)) changes is text _ true place t s
tracking t s Reset changes is = absurd (cc)
tracking t s Close changes is = absurd (cc)

-- what such a step leaves
pub record IsKept (s : Session) (r : Ran) : Type 0 where
  pub ok : is_ok (reply_end false r.reply) ≡ true
  pub settings : r.session.settings ≡ s.settings
  pub schema : r.session.schema ≡ s.schema
  pub locks : r.session.locks ≡ s.locks
  pub last_id : r.session.last_id ≡ s.last_id

kept_by : (on : Bool) (s : Session) → IsKept s (with_settings on s)
kept_by true s = record { ok = ok_is_ok _; settings = refl; schema = refl; locks = refl; last_id = refl }
kept_by false s = record { ok = ok_is_ok _; settings = refl; schema = refl; locks = refl; last_id = refl }

pub kept : (s : Session) (changes : List Change) → IsKept (record s { settings = applied s.settings changes }) (tracks changes s)
kept s changes = kept_by (is_off_in s.settings && not (is_off_in (applied s.settings changes))) (record s { settings = applied s.settings changes })

settings_are : (s : Session) (changes : List Change) → (tracks changes s).session.settings ≡ settings_by (Tracked changes) (is_ok (reply_end false (tracks changes s).reply)) s.settings
settings_are s changes = let k = kept s changes in k.settings ∙ ap (λ ok. settings_by (Tracked changes) ok s.settings) (sym k.ok)

-- Autocommit stays where it isn't set.

elsewhere : (slot : Slot) → is_autocommit slot ≡ false → 3 ≢ place_of slot
elsewhere Names isnt = λ e. omega arith
elsewhere CharacterSetResults isnt = λ e. omega arith
elsewhere CollationConnection isnt = λ e. omega arith
elsewhere Autocommit isnt = absurd (cc)
elsewhere SqlMode isnt = λ e. omega arith
elsewhere TimeZone isnt = λ e. omega arith
elsewhere TransactionIsolation isnt = λ e. omega arith
elsewhere TransactionReadOnly isnt = λ e. omega arith
elsewhere SqlSafeUpdates isnt = λ e. omega arith
elsewhere ForeignKeyChecks isnt = λ e. omega arith
elsewhere UniqueChecks isnt = λ e. omega arith
elsewhere SqlSelectLimit isnt = λ e. omega arith
elsewhere GroupConcatMaxLen isnt = λ e. omega arith
elsewhere LcTimeNames isnt = λ e. omega arith
elsewhere LcMessages isnt = λ e. omega arith
elsewhere WaitTimeout isnt = λ e. omega arith
elsewhere NetReadTimeout isnt = λ e. omega arith
elsewhere NetWriteTimeout isnt = λ e. omega arith
elsewhere InnodbLockWaitTimeout isnt = λ e. omega arith
elsewhere LockWaitTimeout isnt = λ e. omega arith
elsewhere MaxExecutionTime isnt = λ e. omega arith
elsewhere SqlAutoIsNull isnt = λ e. omega arith
elsewhere CharacterSetServer isnt = λ e. omega arith
elsewhere SqlBigSelects isnt = λ e. omega arith
elsewhere SqlNotes isnt = λ e. omega arith
elsewhere SqlQuoteShowCreate isnt = λ e. omega arith
elsewhere DefaultStorageEngine isnt = λ e. omega arith
elsewhere InteractiveTimeout isnt = λ e. omega arith
elsewhere MaxStatementTime isnt = λ e. omega arith
elsewhere SessionTrackSchema isnt = λ e. omega arith
elsewhere SessionTrackStateChange isnt = λ e. omega arith
elsewhere SessionTrackSystemVariables isnt = λ e. omega arith
elsewhere SessionTrackTransactionInfo isnt = λ e. omega arith
elsewhere SessionTrackGtids isnt = λ e. omega arith
elsewhere TmpTableSize isnt = λ e. omega arith
elsewhere MaxHeapTableSize isnt = λ e. omega arith
elsewhere SortBufferSize isnt = λ e. omega arith
elsewhere JoinBufferSize isnt = λ e. omega arith
elsewhere ReadBufferSize isnt = λ e. omega arith
elsewhere ReadRndBufferSize isnt = λ e. omega arith
elsewhere BulkInsertBufferSize isnt = λ e. omega arith
elsewhere MaxSortLength isnt = λ e. omega arith
elsewhere MaxErrorCount isnt = λ e. omega arith
elsewhere BigTables isnt = λ e. omega arith
elsewhere LowPriorityUpdates isnt = λ e. omega arith
elsewhere SqlWarnings isnt = λ e. omega arith
elsewhere AutoIncrementIncrement isnt = λ e. omega arith
elsewhere AutoIncrementOffset isnt = λ e. omega arith
elsewhere DivPrecisionIncrement isnt = λ e. omega arith
elsewhere DefaultWeekFormat isnt = λ e. omega arith
elsewhere DefaultTmpStorageEngine isnt = λ e. omega arith
elsewhere InnodbStrictMode isnt = λ e. omega arith
elsewhere InnodbTableLocks isnt = λ e. omega arith
elsewhere EqRangeIndexDiveLimit isnt = λ e. omega arith
elsewhere OptimizerSearchDepth isnt = λ e. omega arith
elsewhere OptimizerPruneLevel isnt = λ e. omega arith
elsewhere LongQueryTime isnt = λ e. omega arith
elsewhere UpdatableViewsWithLimit isnt = λ e. omega arith
elsewhere CteMaxRecursionDepth isnt = λ e. omega arith
elsewhere InformationSchemaStatsExpiry isnt = λ e. omega arith
elsewhere BlockEncryptionMode isnt = λ e. omega arith
elsewhere GroupReplicationConsistency isnt = λ e. omega arith
elsewhere WsrepSyncWait isnt = λ e. omega arith
elsewhere IdleTransactionTimeout isnt = λ e. omega arith
elsewhere IdleReadonlyTransactionTimeout isnt = λ e. omega arith
elsewhere IdleWriteTransactionTimeout isnt = λ e. omega arith
elsewhere CheckConstraintChecks isnt = λ e. omega arith

other_stays : (values : List SlotValue) (change : Change) → is_autocommit change.slot ≡ false → value_at (changed values change) Autocommit ≡ value_at values Autocommit
other_stays values change isnt = get_or-set_other values (place_of change.slot) 3 (value_after (value_at values change.slot) change) Default (elsewhere change.slot isnt)

parts : (a b : Bool) → (a || b) ≡ false → (a ≡ false) × (b ≡ false)
parts true b isnt = absurd (cc)
parts false b isnt = (refl, isnt)

autocommit_stays : (values : List SlotValue) (changes : List Change) → sets_autocommit changes ≡ false → value_at (applied values changes) Autocommit ≡ value_at values Autocommit
autocommit_stays values [] isnt = refl
autocommit_stays values (change ∷ changes) isnt =
    let both = parts (is_autocommit change.slot) (sets_autocommit changes) isnt in
    autocommit_stays (changed values change) changes both.1 ∙ other_stays values change both.0

-- nothing is committed
record IsCalm (s : Session) (r : Ran) : Type 0 where
  writes : r.writes ≡ []
  tx : r.session.tx ≡ s.tx

calm_as : (on : Bool) (s : Session) (settings : List SlotValue) → on ≡ false → IsCalm s (with_settings on (record s { settings = settings }))
calm_as true s settings isnt = absurd (cc)
calm_as false s settings isnt = record { writes = refl; tx = refl }

calm_as_empty : (on : Bool) (s : Session) (settings : List SlotValue) → s.tx ≡ [] → IsCalm s (with_settings on (record s { settings = settings }))
calm_as_empty true s settings none = record { writes = ap notes_of none; tx = sym none }
calm_as_empty false s settings none = record { writes = refl; tx = refl }

both_off : (b : Bool) → (b && not b) ≡ false
both_off true = refl
both_off false = refl

stays_off : (old new : Bool) → old ≡ new → (old && not new) ≡ false
stays_off old new same = rw same (both_off new)

calm : (s : Session) (changes : List Change) → (s.tx ≡ []) ⊎ (sets_autocommit changes ≡ false) → IsCalm s (tracks changes s)
calm s changes (inl none) = calm_as_empty (is_off_in s.settings && not (is_off_in (applied s.settings changes))) s (applied s.settings changes) none
calm s changes (inr unset) =
    calm_as (is_off_in s.settings && not (is_off_in (applied s.settings changes))) s (applied s.settings changes) (stays_off _ _ (ap is_off (sym (autocommit_stays s.settings changes unset))))

same_stored : (stored : List ℕ) (r : Ran) → r.writes ≡ [] → stored_after stored r.writes ≡ stored
same_stored stored r none = rw none refl

pub tracked : TrackedLaw router_reads tests step
unfolding step
tracked = record {
  settings = λ stored s ok c changes is. rw (tracking (tables_in stored) s c changes is) (settings_are s changes);
  schema = λ stored s ok c changes is. rw (tracking (tables_in stored) s c changes is) (kept s changes).schema;
  locks = λ stored s ok c changes is. rw (tracking (tables_in stored) s c changes is) (kept s changes).locks;
  last_id = λ stored s ok c changes is. rw (tracking (tables_in stored) s c changes is) (kept s changes).last_id;
  calm = λ stored s ok c changes is quiet. rw (tracking (tables_in stored) s c changes is) (same_stored stored (tracks changes s) (calm s changes quiet).writes);
  calm_tx = λ stored s ok c changes is quiet. rw (tracking (tables_in stored) s c changes is) (calm s changes quiet).tx;
}
