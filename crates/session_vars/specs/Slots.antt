-- The settings of a session that are tracked, and their names.
use Rattle.std.specs.Prelude.{ℕ, Bool, false, ◌||◌, ◌&&◌, bytes_eq, List, [], ◌∷◌, ◌++◌, map, Option, Some, None, find, codes, if◌then◌else◌}
use Rattle.std.specs.Char.{to_ascii_lowercase}
use Rattle.session_vars.specs.declared.slot.Slot.{Slot}
use Rattle.session_vars.specs.declared.slot.Slot.TheVariants.{Names, CharacterSetResults, CollationConnection, Autocommit, SqlMode, TimeZone, TransactionIsolation, TransactionReadOnly, SqlSafeUpdates, ForeignKeyChecks, UniqueChecks, SqlSelectLimit, GroupConcatMaxLen, LcTimeNames, LcMessages, WaitTimeout, NetReadTimeout, NetWriteTimeout, InnodbLockWaitTimeout, LockWaitTimeout, MaxExecutionTime, SqlAutoIsNull, CharacterSetServer, SqlBigSelects, SqlNotes, SqlQuoteShowCreate, DefaultStorageEngine, InteractiveTimeout, MaxStatementTime, SessionTrackSchema, SessionTrackStateChange, SessionTrackSystemVariables, SessionTrackTransactionInfo, SessionTrackGtids, TmpTableSize, MaxHeapTableSize, SortBufferSize, JoinBufferSize, ReadBufferSize, ReadRndBufferSize, BulkInsertBufferSize, MaxSortLength, MaxErrorCount, BigTables, LowPriorityUpdates, SqlWarnings, AutoIncrementIncrement, AutoIncrementOffset, DivPrecisionIncrement, DefaultWeekFormat, DefaultTmpStorageEngine, InnodbStrictMode, InnodbTableLocks, EqRangeIndexDiveLimit, OptimizerSearchDepth, OptimizerPruneLevel, LongQueryTime, UpdatableViewsWithLimit, CteMaxRecursionDepth, InformationSchemaStatsExpiry, BlockEncryptionMode, GroupReplicationConsistency, WsrepSyncWait, IdleTransactionTimeout, IdleReadonlyTransactionTimeout, IdleWriteTransactionTimeout, CheckConstraintChecks}

-- the name of the system variable; `names` stands for the three that SET NAMES sets
abbrev pub name_of : Slot → List ℕ
name_of Names = codes "names"
name_of CharacterSetResults = codes "character_set_results"
name_of CollationConnection = codes "collation_connection"
name_of Autocommit = codes "autocommit"
name_of SqlMode = codes "sql_mode"
name_of TimeZone = codes "time_zone"
name_of TransactionIsolation = codes "transaction_isolation"
name_of TransactionReadOnly = codes "transaction_read_only"
name_of SqlSafeUpdates = codes "sql_safe_updates"
name_of ForeignKeyChecks = codes "foreign_key_checks"
name_of UniqueChecks = codes "unique_checks"
name_of SqlSelectLimit = codes "sql_select_limit"
name_of GroupConcatMaxLen = codes "group_concat_max_len"
name_of LcTimeNames = codes "lc_time_names"
name_of LcMessages = codes "lc_messages"
name_of WaitTimeout = codes "wait_timeout"
name_of NetReadTimeout = codes "net_read_timeout"
name_of NetWriteTimeout = codes "net_write_timeout"
name_of InnodbLockWaitTimeout = codes "innodb_lock_wait_timeout"
name_of LockWaitTimeout = codes "lock_wait_timeout"
name_of MaxExecutionTime = codes "max_execution_time"
name_of SqlAutoIsNull = codes "sql_auto_is_null"
name_of CharacterSetServer = codes "character_set_server"
name_of SqlBigSelects = codes "sql_big_selects"
name_of SqlNotes = codes "sql_notes"
name_of SqlQuoteShowCreate = codes "sql_quote_show_create"
name_of DefaultStorageEngine = codes "default_storage_engine"
name_of InteractiveTimeout = codes "interactive_timeout"
name_of MaxStatementTime = codes "max_statement_time"
name_of SessionTrackSchema = codes "session_track_schema"
name_of SessionTrackStateChange = codes "session_track_state_change"
name_of SessionTrackSystemVariables = codes "session_track_system_variables"
name_of SessionTrackTransactionInfo = codes "session_track_transaction_info"
name_of SessionTrackGtids = codes "session_track_gtids"
name_of TmpTableSize = codes "tmp_table_size"
name_of MaxHeapTableSize = codes "max_heap_table_size"
name_of SortBufferSize = codes "sort_buffer_size"
name_of JoinBufferSize = codes "join_buffer_size"
name_of ReadBufferSize = codes "read_buffer_size"
name_of ReadRndBufferSize = codes "read_rnd_buffer_size"
name_of BulkInsertBufferSize = codes "bulk_insert_buffer_size"
name_of MaxSortLength = codes "max_sort_length"
name_of MaxErrorCount = codes "max_error_count"
name_of BigTables = codes "big_tables"
name_of LowPriorityUpdates = codes "low_priority_updates"
name_of SqlWarnings = codes "sql_warnings"
name_of AutoIncrementIncrement = codes "auto_increment_increment"
name_of AutoIncrementOffset = codes "auto_increment_offset"
name_of DivPrecisionIncrement = codes "div_precision_increment"
name_of DefaultWeekFormat = codes "default_week_format"
name_of DefaultTmpStorageEngine = codes "default_tmp_storage_engine"
name_of InnodbStrictMode = codes "innodb_strict_mode"
name_of InnodbTableLocks = codes "innodb_table_locks"
name_of EqRangeIndexDiveLimit = codes "eq_range_index_dive_limit"
name_of OptimizerSearchDepth = codes "optimizer_search_depth"
name_of OptimizerPruneLevel = codes "optimizer_prune_level"
name_of LongQueryTime = codes "long_query_time"
name_of UpdatableViewsWithLimit = codes "updatable_views_with_limit"
name_of CteMaxRecursionDepth = codes "cte_max_recursion_depth"
name_of InformationSchemaStatsExpiry = codes "information_schema_stats_expiry"
name_of BlockEncryptionMode = codes "block_encryption_mode"
name_of GroupReplicationConsistency = codes "group_replication_consistency"
name_of WsrepSyncWait = codes "wsrep_sync_wait"
name_of IdleTransactionTimeout = codes "idle_transaction_timeout"
name_of IdleReadonlyTransactionTimeout = codes "idle_readonly_transaction_timeout"
name_of IdleWriteTransactionTimeout = codes "idle_write_transaction_timeout"
name_of CheckConstraintChecks = codes "check_constraint_checks"

-- the place of a setting among them
abbrev pub place_of : Slot → ℕ
place_of Names = 0
place_of CharacterSetResults = 1
place_of CollationConnection = 2
place_of Autocommit = 3
place_of SqlMode = 4
place_of TimeZone = 5
place_of TransactionIsolation = 6
place_of TransactionReadOnly = 7
place_of SqlSafeUpdates = 8
place_of ForeignKeyChecks = 9
place_of UniqueChecks = 10
place_of SqlSelectLimit = 11
place_of GroupConcatMaxLen = 12
place_of LcTimeNames = 13
place_of LcMessages = 14
place_of WaitTimeout = 15
place_of NetReadTimeout = 16
place_of NetWriteTimeout = 17
place_of InnodbLockWaitTimeout = 18
place_of LockWaitTimeout = 19
place_of MaxExecutionTime = 20
place_of SqlAutoIsNull = 21
place_of CharacterSetServer = 22
place_of SqlBigSelects = 23
place_of SqlNotes = 24
place_of SqlQuoteShowCreate = 25
place_of DefaultStorageEngine = 26
place_of InteractiveTimeout = 27
place_of MaxStatementTime = 28
place_of SessionTrackSchema = 29
place_of SessionTrackStateChange = 30
place_of SessionTrackSystemVariables = 31
place_of SessionTrackTransactionInfo = 32
place_of SessionTrackGtids = 33
place_of TmpTableSize = 34
place_of MaxHeapTableSize = 35
place_of SortBufferSize = 36
place_of JoinBufferSize = 37
place_of ReadBufferSize = 38
place_of ReadRndBufferSize = 39
place_of BulkInsertBufferSize = 40
place_of MaxSortLength = 41
place_of MaxErrorCount = 42
place_of BigTables = 43
place_of LowPriorityUpdates = 44
place_of SqlWarnings = 45
place_of AutoIncrementIncrement = 46
place_of AutoIncrementOffset = 47
place_of DivPrecisionIncrement = 48
place_of DefaultWeekFormat = 49
place_of DefaultTmpStorageEngine = 50
place_of InnodbStrictMode = 51
place_of InnodbTableLocks = 52
place_of EqRangeIndexDiveLimit = 53
place_of OptimizerSearchDepth = 54
place_of OptimizerPruneLevel = 55
place_of LongQueryTime = 56
place_of UpdatableViewsWithLimit = 57
place_of CteMaxRecursionDepth = 58
place_of InformationSchemaStatsExpiry = 59
place_of BlockEncryptionMode = 60
place_of GroupReplicationConsistency = 61
place_of WsrepSyncWait = 62
place_of IdleTransactionTimeout = 63
place_of IdleReadonlyTransactionTimeout = 64
place_of IdleWriteTransactionTimeout = 65
place_of CheckConstraintChecks = 66

-- all but `names`, which no assignment sets
abbrev pub assigned_slots : List Slot
assigned_slots = CharacterSetResults ∷ CollationConnection ∷ Autocommit ∷ SqlMode ∷ TimeZone ∷ TransactionIsolation ∷ TransactionReadOnly ∷ SqlSafeUpdates ∷ ForeignKeyChecks ∷ UniqueChecks ∷ SqlSelectLimit ∷ GroupConcatMaxLen ∷ LcTimeNames ∷ LcMessages ∷ WaitTimeout ∷ NetReadTimeout ∷ NetWriteTimeout ∷ InnodbLockWaitTimeout ∷ LockWaitTimeout ∷ MaxExecutionTime ∷ SqlAutoIsNull ∷ CharacterSetServer ∷ SqlBigSelects ∷ SqlNotes ∷ SqlQuoteShowCreate ∷ DefaultStorageEngine ∷ InteractiveTimeout ∷ MaxStatementTime ∷ SessionTrackSchema ∷ SessionTrackStateChange ∷ SessionTrackSystemVariables ∷ SessionTrackTransactionInfo ∷ SessionTrackGtids ∷ TmpTableSize ∷ MaxHeapTableSize ∷ SortBufferSize ∷ JoinBufferSize ∷ ReadBufferSize ∷ ReadRndBufferSize ∷ BulkInsertBufferSize ∷ MaxSortLength ∷ MaxErrorCount ∷ BigTables ∷ LowPriorityUpdates ∷ SqlWarnings ∷ AutoIncrementIncrement ∷ AutoIncrementOffset ∷ DivPrecisionIncrement ∷ DefaultWeekFormat ∷ DefaultTmpStorageEngine ∷ InnodbStrictMode ∷ InnodbTableLocks ∷ EqRangeIndexDiveLimit ∷ OptimizerSearchDepth ∷ OptimizerPruneLevel ∷ LongQueryTime ∷ UpdatableViewsWithLimit ∷ CteMaxRecursionDepth ∷ InformationSchemaStatsExpiry ∷ BlockEncryptionMode ∷ GroupReplicationConsistency ∷ WsrepSyncWait ∷ IdleTransactionTimeout ∷ IdleReadonlyTransactionTimeout ∷ IdleWriteTransactionTimeout ∷ CheckConstraintChecks ∷ []

-- all of them
abbrev pub all_slots : List Slot
all_slots = Names ∷ assigned_slots

-- Other names in lower case: two settings have one before MariaDB 11.1 and MySQL 5.7.20, and the server's character set and its collation
-- are one setting.
abbrev pub is_other_name : (lower : List ℕ) → Slot → Bool
is_other_name lower TransactionIsolation = bytes_eq lower (codes "tx_isolation")
is_other_name lower TransactionReadOnly = bytes_eq lower (codes "tx_read_only")
is_other_name lower CharacterSetServer = bytes_eq lower (codes "collation_server")
is_other_name lower slot = false

-- a name in lower case is that of a setting
abbrev pub is_named : (lower : List ℕ) → Slot → Bool
is_named lower slot = bytes_eq lower (map to_ascii_lowercase (name_of slot)) || is_other_name lower slot

-- the setting that a name assigns, in any case
abbrev pub slot_named : List ℕ → Option Slot
slot_named name = find (is_named (map to_ascii_lowercase name)) assigned_slots

-- So such a setting is written for a server whose version isn't known: two comments, of which MariaDB executes the first alone
-- and MySQL the second alone.
abbrev pub mariadb_isolation : List ℕ
mariadb_isolation = codes "/*M!tx_isolation*/"

abbrev pub mysql_isolation : List ℕ
mysql_isolation = codes "/*!50720 transaction_isolation*/"

abbrev pub mariadb_read_only : List ℕ
mariadb_read_only = codes "/*M!tx_read_only*/"

abbrev pub mysql_read_only : List ℕ
mysql_read_only = codes "/*!50720 transaction_read_only*/"

-- the name by which each server knows a setting
abbrev pub spelt_name : Slot → List ℕ
spelt_name TransactionIsolation = mariadb_isolation ++ 32 ∷ mysql_isolation
spelt_name TransactionReadOnly = mariadb_read_only ++ 32 ∷ mysql_read_only
spelt_name slot = name_of slot

-- the setting that two comments name
unfoldable pub slot_of_comments : (first second : List ℕ) → Option Slot
slot_of_comments first second =
    if bytes_eq first mariadb_isolation && bytes_eq second mysql_isolation then Some TransactionIsolation
    else if bytes_eq first mariadb_read_only && bytes_eq second mysql_read_only then Some TransactionReadOnly
    else None

-- of a name behind `@@` alone: these two set the next transaction there, and not the session
abbrev pub unless_transaction : Slot → Option Slot
unless_transaction TransactionIsolation = None
unless_transaction TransactionReadOnly = None
unless_transaction slot = Some slot
