-- SET SESSION TRANSACTION, behind its SET.
use Rattle.std.specs.Prelude.{ℕ, false, ◌&&◌, List, [], ◌∷◌, codes, Option, Some, None, if◌then◌else◌}
use Rattle.sql_tokens.specs.declared.token.Token.{Token}
use Rattle.session_vars.specs.Statement.{is_session_word}
use Rattle.sql_tokens.specs.Words.{says}
use Rattle.session_vars.specs.declared.change.Change.{Change}
use Rattle.session_vars.specs.declared.change.SlotValue.TheVariants.{Text}
use Rattle.session_vars.specs.declared.slot.Slot.{Slot}
use Rattle.session_vars.specs.declared.slot.Slot.TheVariants.{TransactionIsolation, TransactionReadOnly}
use Rattle.session_vars.specs.declared.transaction.Mode.{Mode}
use Rattle.session_vars.specs.declared.transaction.Mode.TheVariants.{ReadUncommitted, ReadCommitted, RepeatableRead, Serializable, ReadOnly, ReadWrite}

-- the setting that a mode is of, and its value there
abbrev pub slot_of : Mode → Slot
slot_of ReadOnly = TransactionReadOnly
slot_of ReadWrite = TransactionReadOnly
slot_of _ = TransactionIsolation

abbrev pub value_of : Mode → List ℕ
value_of ReadUncommitted = codes "'READ-UNCOMMITTED'"
value_of ReadCommitted = codes "'READ-COMMITTED'"
value_of RepeatableRead = codes "'REPEATABLE-READ'"
value_of Serializable = codes "'SERIALIZABLE'"
value_of ReadOnly = codes "1"
value_of ReadWrite = codes "0"

-- behind READ
unfoldable pub access_mode : (text : List ℕ) → Token → Option Mode
access_mode text token =
    if says text token (codes "ONLY") then Some ReadOnly
    else if says text token (codes "WRITE") then Some ReadWrite
    else None

-- an isolation level of two words
unfoldable pub isolation_level : (text : List ℕ) → (first second : Token) → Option Mode
isolation_level text first second =
    if says text first (codes "READ") && says text second (codes "UNCOMMITTED") then Some ReadUncommitted
    else if says text first (codes "READ") && says text second (codes "COMMITTED") then Some ReadCommitted
    else if says text first (codes "REPEATABLE") && says text second (codes "READ") then Some RepeatableRead
    else None

-- `READ ONLY`, `READ WRITE`, or `ISOLATION LEVEL` and a level
unfoldable pub mode_of : (text : List ℕ) → List Token → Option Mode
mode_of text (read ∷ access ∷ []) = if says text read (codes "READ") then access_mode text access else None
mode_of text (isolation ∷ level ∷ name ∷ []) =
    if says text isolation (codes "ISOLATION") && says text level (codes "LEVEL") && says text name (codes "SERIALIZABLE") then Some Serializable else None
mode_of text (isolation ∷ level ∷ first ∷ second ∷ []) =
    if says text isolation (codes "ISOLATION") && says text level (codes "LEVEL") then isolation_level text first second else None
mode_of text _ = None

-- `SESSION TRANSACTION` or `LOCAL TRANSACTION` and a mode
unfoldable pub transaction_mode : (text : List ℕ) → List Token → Option Mode
transaction_mode text (scope ∷ transaction ∷ tokens) =
    if is_session_word text scope && says text transaction (codes "TRANSACTION") then mode_of text tokens else None
transaction_mode text _ = None

abbrev pub mode_changes : Option Mode → Option (List Change)
mode_changes None = None
mode_changes (Some mode) = Some (record { slot = slot_of mode; value = Text (value_of mode); adds = false } ∷ [])
