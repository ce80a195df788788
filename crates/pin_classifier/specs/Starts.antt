-- How statements begin: by their first word, and the word behind it.
use Rattle.std.specs.Prelude.{ℕ, Bool, false, not, ◌||◌, ◌&&◌, List, [], ◌∷◌, ◌++◌, codes, Option, Some, None, if◌then◌else◌}
use Rattle.std.specs.List.{list_any}
use Rattle.sql_tokens.specs.declared.token.Token.{Token}
use Rattle.sql_tokens.specs.Words.{same_text, is_word}
use Rattle.pin_classifier.specs.Statement.{opening_word}
use Rattle.pin_classifier.specs.WordLists.{is_any}
use Rattle.pin_classifier.specs.declared.word_list.WordList.TheVariants as lists

-- statements on rows
abbrev pub data_words : List (List ℕ)
data_words = codes "SELECT" ∷ codes "INSERT" ∷ codes "REPLACE" ∷ codes "UPDATE" ∷ codes "DELETE" ∷ codes "WITH" ∷ codes "VALUES" ∷ codes "TABLE" ∷ codes "DO" ∷ []

-- statements on tables and other objects
abbrev pub definition_words : List (List ℕ)
definition_words = codes "CREATE" ∷ codes "ALTER" ∷ codes "DROP" ∷ codes "TRUNCATE" ∷ codes "RENAME" ∷ []

-- transactions and locks
abbrev pub transaction_words : List (List ℕ)
transaction_words = codes "BEGIN" ∷ codes "START" ∷ codes "COMMIT" ∷ codes "ROLLBACK" ∷ codes "SAVEPOINT" ∷ codes "RELEASE" ∷ codes "LOCK" ∷ codes "UNLOCK" ∷ []

-- upkeep of tables, accounts, and what stands beside them
abbrev pub upkeep_words : List (List ℕ)
upkeep_words = codes "ANALYZE" ∷ codes "OPTIMIZE" ∷ codes "CHECK" ∷ codes "REPAIR" ∷ codes "GRANT" ∷ codes "REVOKE" ∷ codes "FLUSH" ∷ codes "CHECKSUM" ∷ codes "HELP" ∷ codes "SIGNAL" ∷ []

-- what is shown, and the session itself
abbrev pub session_words : List (List ℕ)
session_words = codes "SET" ∷ codes "SHOW" ∷ codes "DESCRIBE" ∷ codes "DESC" ∷ codes "EXPLAIN" ∷ codes "USE" ∷ codes "GET" ∷ codes "KILL" ∷ []

-- the words that begin the statements whose effect on a session is known
abbrev pub known_words : List (List ℕ)
known_words = data_words ++ transaction_words ++ session_words ++ definition_words ++ upkeep_words

abbrev pub is_known : Option (List ℕ) → Bool
is_known None = false
is_known (Some word) = list_any (same_text word) known_words

-- the first token is no word and no `(`, or its word is none of these; a text without tokens doesn't begin so
abbrev pub begins_unknown : (text : List ℕ) → (first : Option Token) → Bool
begins_unknown text None = false
begins_unknown text (Some token) = not (is_known (opening_word text token))

unfoldable pub names_tables : (second : Option (List ℕ)) → Bool
names_tables second = is_word second (codes "TABLE") || is_word second (codes "TABLES")

unfoldable pub names_schema : (word : Option (List ℕ)) → Bool
names_schema word = is_word word (codes "DATABASE") || is_word word (codes "SCHEMA")

-- DROP, ALTER or CREATE OR REPLACE with DATABASE or SCHEMA, which may change the session's schema or its defaults
unfoldable pub changes_schema : (first second third fourth : Option (List ℕ)) → Bool
changes_schema first second third fourth =
    ((is_word first (codes "DROP") || is_word first (codes "ALTER")) && names_schema second)
    || (is_word first (codes "CREATE") && is_word second (codes "OR") && is_word third (codes "REPLACE") && names_schema fourth)

-- ANALYZE but for ANALYZE TABLE, with NO_WRITE_TO_BINLOG or LOCAL between them or without
unfoldable pub analyzes_other : (first second third : Option (List ℕ)) → Bool
analyzes_other first second third =
    is_word first (codes "ANALYZE") && not (names_tables second || ((is_word second (codes "NO_WRITE_TO_BINLOG") || is_word second (codes "LOCAL")) && names_tables third))

-- FLUSH but for FLUSH PRIVILEGES
unfoldable pub flushes_other : (first second : Option (List ℕ)) → Bool
flushes_other first second = is_word first (codes "FLUSH") && not (is_word second (codes "PRIVILEGES"))

-- EXPLAIN, DESCRIBE and DESC
unfoldable pub explains : (first : Option (List ℕ)) → Bool
explains first = is_word first (codes "EXPLAIN") || is_word first (codes "DESCRIBE") || is_word first (codes "DESC")

-- statements that may give the insert id by LAST_INSERT_ID with an argument and go on sharing
unfoldable pub gives_rows : (first : Option (List ℕ)) → Bool
gives_rows first = is_word first (codes "INSERT") || is_word first (codes "REPLACE") || is_word first (codes "UPDATE")

-- those that may end in RETURNING and so show no insert id
unfoldable pub returns_rows : (first : Option (List ℕ)) → Bool
returns_rows first = is_word first (codes "INSERT") || is_word first (codes "REPLACE")

-- statements that use a table by how they begin
unfoldable pub writes_tables : (first second : Option (List ℕ)) → Bool
writes_tables first second =
    is_word first (codes "INSERT") || is_word first (codes "UPDATE") || is_word first (codes "DELETE") || is_word first (codes "REPLACE") || is_word first (codes "TRUNCATE")
    || (is_word second (codes "TABLE") && (is_word first (codes "CREATE") || is_word first (codes "ALTER") || is_word first (codes "DROP")))

-- SHOW EXPLAIN and SHOW ANALYZE, which show what another connection does
unfoldable pub shows_connection : (first second : Option (List ℕ)) → Bool
shows_connection first second = is_word first (codes "SHOW") && (is_word second (codes "EXPLAIN") || is_word second (codes "ANALYZE"))

-- ROLLBACK TO, and ROLLBACK WORK TO
unfoldable pub goes_back : (second third : Option (List ℕ)) → Bool
goes_back second third = is_word second (codes "TO") || is_word third (codes "TO")

-- START but for START TRANSACTION
unfoldable pub starts_other : (first second : Option (List ℕ)) → Bool
starts_other first second = is_word first (codes "START") && not (is_word second (codes "TRANSACTION"))

-- LOCK TABLES, LOCK TABLE
unfoldable pub locks_tables : (first second : Option (List ℕ)) → Bool
locks_tables first second = is_word first (codes "LOCK") && names_tables second

-- UNLOCK TABLES, UNLOCK TABLE
unfoldable pub unlocks_tables : (first second : Option (List ℕ)) → Bool
unlocks_tables first second = is_word first (codes "UNLOCK") && names_tables second

-- LOCK and UNLOCK but for TABLE and TABLES
unfoldable pub locks_other : (first second : Option (List ℕ)) → Bool
locks_other first second = (is_word first (codes "LOCK") || is_word first (codes "UNLOCK")) && not (names_tables second)

-- COMMIT and ROLLBACK
unfoldable pub ends_transaction : (first : Option (List ℕ)) → Bool
ends_transaction first = is_word first (codes "COMMIT") || is_word first (codes "ROLLBACK")

-- SAVEPOINT and RELEASE SAVEPOINT
unfoldable pub is_savepoint : (first : Option (List ℕ)) → Bool
is_savepoint first = is_word first (codes "SAVEPOINT") || is_word first (codes "RELEASE")

-- statements that may generate an insert id
unfoldable pub makes_id : (first : Option (List ℕ)) → Bool
makes_id first = is_word first (codes "INSERT") || is_word first (codes "REPLACE") || is_word first (codes "CREATE")

-- SHOW WARNINGS, SHOW ERRORS, SHOW COUNT, GET DIAGNOSTICS and GET CURRENT
unfoldable pub shows_diagnostics : (first second : Option (List ℕ)) → Bool
shows_diagnostics first second = (is_word first (codes "SHOW") && (is_word second (codes "WARNINGS") || is_word second (codes "ERRORS") || is_word second (codes "COUNT"))) || (is_word first (codes "GET") && (is_word second (codes "DIAGNOSTICS") || is_word second (codes "CURRENT")))

-- what CREATE, ALTER, DROP, RENAME and SHOW are about: the word behind them, or behind OR REPLACE
abbrev pub subject : (second third fourth : Option (List ℕ)) → Option (List ℕ)
subject second third fourth = if is_word second (codes "OR") && is_word third (codes "REPLACE") then fourth else second

-- CREATE, ALTER, DROP and RENAME
unfoldable pub defines : (first : Option (List ℕ)) → Bool
defines first = is_word first (codes "CREATE") || is_word first (codes "ALTER") || is_word first (codes "DROP") || is_word first (codes "RENAME")

-- statements of accounts and rights: GRANT, REVOKE, those that define USER or ROLE, SHOW GRANTS and SHOW CREATE
unfoldable pub names_accounts : (first about : Option (List ℕ)) → Bool
names_accounts first about =
    is_word first (codes "GRANT")
    || is_word first (codes "REVOKE")
    || (defines first && (is_word about (codes "USER") || is_word about (codes "ROLE")))
    || (is_word first (codes "SHOW") && (is_word about (codes "GRANTS") || is_word about (codes "CREATE")))

-- those that define a view or a stored program
unfoldable pub stores : (first about : Option (List ℕ)) → Bool
stores first about = defines first && is_any lists.Stored about
