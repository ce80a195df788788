-- The shapes of SET statements.
use Rattle.std.specs.Prelude.{ℕ, Bool, true, not, ◌&&◌, ◌||◌, nat_le, List, [], ◌∷◌, length, filter, codes, Option, Some, None, if◌then◌else◌}
use Rattle.std.specs.List.{list_any}
use Rattle.std.specs.Option.{option_or}
use Rattle.sql_tokens.specs.declared.token.Token.{Token}
use Rattle.session_vars.specs.Assignments.{assignments}
use Rattle.session_vars.specs.Modes.{takes_modes}
use Rattle.session_vars.specs.Scopes.{sets_server}
use Rattle.session_vars.specs.Statement.{says_first, statement_of}
use Rattle.sql_tokens.specs.Words.{says}
use Rattle.session_vars.specs.Transactions.{transaction_mode, mode_changes}
use Rattle.session_vars.specs.declared.change.Change.{Change}
use Rattle.session_vars.specs.declared.shape.SetShape.{SetShape}
use Rattle.session_vars.specs.declared.shape.SetShape.TheVariants.{Tracked, Global, NextTransaction, Other, NotSet}

-- the changes of SET SESSION TRANSACTION, or else of SET NAMES and assignments
abbrev pub own_changes : (text : List ℕ) → List Token → Option (List Change)
own_changes text tokens = option_or (mode_changes (transaction_mode text tokens)) (assignments text tokens)

-- the mode is set once, or by no expression over the one before it
unfoldable pub sets_mode_once : List Change → Bool
sets_mode_once changes = nat_le (length (filter (λ change. takes_modes change.slot) changes)) 1 || not (list_any (λ change. change.adds) changes)

-- A server works out each value of a statement before it sets the first, so an expression over the mode sees the mode before
-- the statement. The last one that sets the mode says what it is then.
abbrev pub with_last_mode : List Change → List Change
with_last_mode [] = []
with_last_mode (change ∷ changes) =
    if takes_modes change.slot && list_any (λ later. takes_modes later.slot) changes then with_last_mode changes else change ∷ with_last_mode changes

abbrev pub tracked_or_other : Option (List Change) → SetShape
tracked_or_other None = Other
tracked_or_other (Some changes) = if sets_mode_once changes then Tracked changes else Tracked (with_last_mode changes)

-- by what stands behind SET, where nothing is set of the whole server
abbrev pub own_shape : (text : List ℕ) → List Token → SetShape
own_shape text tokens = if says_first text tokens (codes "TRANSACTION") then NextTransaction else tracked_or_other (own_changes text tokens)

-- by what stands behind SET
unfoldable pub shape_behind : (text : List ℕ) → List Token → SetShape
shape_behind text tokens = if sets_server text 0 true tokens then Global else own_shape text tokens

abbrev pub shape_by : (text : List ℕ) → List Token → SetShape
shape_by text [] = NotSet
shape_by text (token ∷ tokens) = if says text token (codes "SET") then shape_behind text tokens else NotSet

-- the shape of a statement
abbrev pub set_shape : (text : List ℕ) → SetShape
set_shape text = shape_by text (statement_of text)

-- the changes of a statement, where there is one and it is tracked
abbrev pub changes_in : SetShape → List Change
changes_in (Tracked changes) = changes
changes_in _ = []

abbrev pub changes_by : Option (List ℕ) → List Change
changes_by None = []
changes_by (Some text) = changes_in (set_shape text)
