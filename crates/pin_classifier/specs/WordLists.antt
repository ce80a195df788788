-- Lists of words that matter.
use Rattle.std.specs.Prelude.{ℕ, Bool, false, List, [], ◌∷◌, codes, Option, Some, None}
use Rattle.std.specs.List.{list_any}
use Rattle.sql_tokens.specs.Words.{same_text}
use Rattle.pin_classifier.specs.declared.word_list.WordList.{WordList}
use Rattle.pin_classifier.specs.declared.word_list.WordList.TheVariants.{ThreadFunctions, LastFunctions, FromFunctions, OwnFunctions, Diagnostics, LastValues, Lasting, Limits, Stored}

-- Functions that name the session's thread. Those that read what an earlier statement left that no text needs to show: the
-- last value of a sequence, which a column's default may take, and the transaction that was written or seen last. Functions
-- whose arguments may have FROM, which names no table then. Those that read the session's own number, its insert id and what the last
-- statement left. Words by which a statement may read the warnings and errors of
-- the one before it and how many rows it changed or found, and by which it may read such a last value. And words by which a
-- SET statement may set a role, a resource group or an account, or have statements shown later, which no reset takes back, or
-- how statements are read from then on. And variables by which a statement is limited, and nothing else. And
-- the words behind CREATE and ALTER with which only views and stored programs begin.
abbrev pub words_of : WordList → List (List ℕ)
words_of ThreadFunctions = codes "PS_CURRENT_THREAD_ID" ∷ codes "PS_THREAD_ID" ∷ []
words_of LastFunctions = codes "LASTVAL" ∷ codes "WSREP_LAST_WRITTEN_GTID" ∷ codes "WSREP_LAST_SEEN_GTID" ∷ []
words_of FromFunctions = codes "EXTRACT" ∷ codes "TRIM" ∷ codes "SUBSTRING" ∷ codes "SUBSTR" ∷ codes "MID" ∷ codes "NTH_VALUE" ∷ []
words_of OwnFunctions = codes "CONNECTION_ID" ∷ codes "LAST_INSERT_ID" ∷ codes "ROW_COUNT" ∷ codes "FOUND_ROWS" ∷ []
words_of Diagnostics = codes "ROW_COUNT" ∷ codes "FOUND_ROWS" ∷ codes "WARNINGS" ∷ codes "ERRORS" ∷ codes "DIAGNOSTICS" ∷ codes "WARNING_COUNT" ∷ codes "ERROR_COUNT" ∷ []
words_of LastValues = codes "LASTVAL" ∷ codes "PREVIOUS" ∷ codes "last_gtid" ∷ codes "WSREP_LAST_WRITTEN_GTID" ∷ codes "WSREP_LAST_SEEN_GTID" ∷ []
words_of Lasting = codes "ROLE" ∷ codes "RESOURCE" ∷ codes "AUTHORIZATION" ∷ codes "profiling" ∷ codes "STATEMENT" ∷ codes "NAMES" ∷ codes "CHARACTER" ∷ codes "CHARSET" ∷ codes "sql_mode" ∷ codes "character_set_client" ∷ []
words_of Limits = codes "max_statement_time" ∷ codes "lock_wait_timeout" ∷ codes "innodb_lock_wait_timeout" ∷ []
words_of Stored = codes "VIEW" ∷ codes "PROCEDURE" ∷ codes "FUNCTION" ∷ codes "AGGREGATE" ∷ codes "TRIGGER" ∷ codes "DEFINER" ∷ codes "ALGORITHM" ∷ codes "SQL" ∷ []

-- a word that is there and is in a list
abbrev pub is_any : WordList → Option (List ℕ) → Bool
is_any list None = false
is_any list (Some word) = list_any (same_text word) (words_of list)
