-- A small server: each marked text adds itself to the data, and its OK shows an insert id; BEGIN and COMMIT open and end a
-- transaction. The affected rows of an OK say whether a schema is in use, or, where the text reads diagnostics, whether a
-- text ran before it.
use Rattle.std.specs.Prelude.{ℕ, Bool, true, false, not, ◌&&◌, ◌||◌, nat_eq, bytes_eq, if◌then◌else◌, List, [], ◌∷◌, ◌++◌, codes, drop, is_some, length, take, Option, Some, None}
use Rattle.session_vars.specs.Settings.{applied}
use Rattle.session_vars.specs.declared.change.Change.{Change}
use Rattle.session_state.specs.Classes.{Effect, Tracked, Uses, Neither, effect_of}
use Rattle.pin_classifier.specs.declared.class.Class.{Class}
use Rattle.server_rule.specs.Classes.{Reads}
use Rattle.server_rule.specs.Replies.{number_spelled}
use Rattle.server_rule.specs.Servers.{Outcome, Step, Tests, fresh, is_some_of}
use Rattle.server_rule.specs.Texts.{read_id_text}
use Rattle.server_rule.specs.declared.command.Cmd.TheVariants.{Query, InitDb, FieldList, Prepare, Run, Reset, Close}
use Rattle.server_rule.specs.declared.session.Session.{Session}

-- no locks, and no state but a transaction
abbrev pub tests : Tests
tests = record { is_data = λ stored. true; is_session = λ tx locks deep diag. not (is_some_of locks) && not (is_some_of deep); lasts = λ deep. false; warnings = λ diag. diag; found = λ diag. diag }

-- Replies.

pub data Shown : Type 0 where
  NoId : Shown
  FirstId : Shown
  LaterId : Shown

abbrev pub id_of : Shown → ℕ
id_of NoId = 0
id_of FirstId = 1
id_of LaterId = 2

abbrev pub digit : Bool → ℕ
digit true = 1
digit false = 0

-- status flags: SERVER_STATUS_AUTOCOMMIT, and SERVER_STATUS_IN_TRANS in a transaction
abbrev pub status : (in_trans : Bool) → ℕ
status true = 3
status false = 2

abbrev pub ok : (rows : Bool) → Shown → (in_trans : Bool) → List (List ℕ)
ok rows id in_trans = (0 ∷ digit rows ∷ id_of id ∷ status in_trans ∷ 0 ∷ 0 ∷ 0 ∷ []) ∷ []

abbrev pub refusal : List (List ℕ)
refusal = (255 ∷ 40 ∷ 4 ∷ 35 ∷ []) ∷ []

-- a column count, a column, an EOF, one row of one digit, an EOF
abbrev pub row : (in_trans : Bool) → (spelled : ℕ) → List (List ℕ)
row in_trans spelled = (1 ∷ []) ∷ (3 ∷ []) ∷ (254 ∷ 0 ∷ 0 ∷ 0 ∷ 0 ∷ []) ∷ (1 ∷ spelled ∷ []) ∷ (254 ∷ 0 ∷ 0 ∷ status in_trans ∷ 0 ∷ []) ∷ []

-- an insert id above 2 isn't told
abbrev pub id_row : (in_trans : Bool) → (last_id : ℕ) → List (List ℕ)
id_row in_trans last_id =
    if nat_eq last_id 0 then row in_trans 48
    else if nat_eq last_id 1 then row in_trans 49
    else if nat_eq last_id 2 then row in_trans 50
    else refusal

-- what is prepared has one parameter
abbrev pub prepared : (number : ℕ) → List (List ℕ)
prepared number = (0 ∷ number ∷ 0 ∷ 0 ∷ 0 ∷ 0 ∷ 0 ∷ 1 ∷ 0 ∷ 0 ∷ 0 ∷ 0 ∷ []) ∷ (3 ∷ []) ∷ (254 ∷ 0 ∷ 0 ∷ 0 ∷ 0 ∷ []) ∷ []

-- Texts.

pub data Kind : Type 0 where
  SetsId : ℕ → Kind
  ReadsId : Kind
  Tracks : List Change → Kind
  Chooses : (schema : List ℕ) → Kind
  Begins : Kind
  Commits : Kind
  Adds : Kind
  Shows : Kind
  Refuses : Kind

abbrev pub set_prefix : List ℕ
set_prefix = codes "SET SESSION last_insert_id = "

-- the insert id that a text sets
abbrev pub id_set : List ℕ → Option ℕ
id_set text = if bytes_eq (take (length set_prefix) text) set_prefix then number_spelled (drop (length set_prefix) text) else None

abbrev pub reads_the_id : List ℕ → Bool
reads_the_id text = bytes_eq text read_id_text

abbrev pub is_special : List ℕ → Bool
is_special text = is_some (id_set text) || reads_the_id text

abbrev pub ordinary : (is_begin is_commit marks : Bool) → Kind
ordinary true is_commit marks = Begins
ordinary false true marks = Commits
ordinary false false true = Adds
ordinary false false false = Shows

abbrev pub without_effect : (set : Option ℕ) → (reads_it deep marks is_begin is_commit : Bool) → Kind
without_effect (Some n) reads_it true true is_begin is_commit = SetsId n
without_effect (Some n) reads_it _ _ is_begin is_commit = Refuses
without_effect None true deep true is_begin is_commit = ReadsId
without_effect None true deep false is_begin is_commit = Refuses
without_effect None false deep marks is_begin is_commit = ordinary is_begin is_commit marks

abbrev pub with_effect : (special : Bool) → Kind → Kind
with_effect true kind = Refuses
with_effect false kind = kind

abbrev pub kind_by : Effect → Class → (text : List ℕ) → Kind
kind_by (Tracked changes) class text = with_effect (is_special text) (Tracks changes)
kind_by (Uses schema) class text = with_effect (is_special text) (Chooses schema)
kind_by Neither class text = without_effect (id_set text) (reads_the_id text) class.deep class.marks_id (bytes_eq text (codes "BEGIN")) (bytes_eq text (codes "COMMIT"))

abbrev pub kind_of : Class → (text : List ℕ) → Kind
kind_of class text = kind_by (effect_of class) class text

-- Steps.

abbrev pub next_id : (stored : List ℕ) → Shown
next_id [] = FirstId
next_id (x ∷ xs) = LaterId

abbrev pub answered : Session → (rows : Bool) → Shown → List (List ℕ)
answered s rows id = ok rows id (is_some_of s.tx)

-- a text leaves that it ran
abbrev pub by_kind : Kind → (rows : Bool) → (text stored : List ℕ) → Session → Outcome
by_kind (SetsId n) rows text stored s = record { stored = stored; session = record s { last_id = n; diag = 1 ∷ [] }; reply = answered s false NoId }
by_kind ReadsId rows text stored s = record { stored = stored; session = record s { diag = 1 ∷ [] }; reply = id_row (is_some_of s.tx) s.last_id }
by_kind (Tracks changes) rows text stored s = record { stored = stored; session = record s { settings = applied s.settings changes; diag = 1 ∷ [] }; reply = answered s rows NoId }
by_kind (Chooses schema) rows text stored s = record { stored = stored; session = record s { schema = schema; diag = 1 ∷ [] }; reply = answered s rows NoId }
by_kind Begins rows text stored s = record { stored = stored; session = record s { tx = 1 ∷ []; diag = 1 ∷ [] }; reply = ok rows NoId true }
by_kind Commits rows text stored s = record { stored = stored; session = record s { tx = []; diag = 1 ∷ [] }; reply = ok rows NoId false }
by_kind Adds rows text stored s = record { stored = text ++ stored; session = record s { last_id = id_of (next_id stored); diag = 1 ∷ [] }; reply = answered s rows (next_id stored) }
by_kind Shows rows text stored s = record { stored = stored; session = record s { diag = 1 ∷ [] }; reply = answered s rows NoId }
by_kind Refuses rows text stored s = record { stored = stored; session = record s { diag = 1 ∷ [] }; reply = refusal }

abbrev pub rows_by : (reads_diag : Bool) → Session → Bool
rows_by true s = is_some_of s.diag
rows_by false s = is_some_of s.schema

abbrev pub on_text : Class → (text stored : List ℕ) → Session → Outcome
on_text class text stored s = by_kind (kind_of class text) (rows_by class.reads_diag s) text stored s

-- the first byte of a text is the number of its preparation
abbrev pub number_of : List ℕ → ℕ
number_of [] = 0
number_of (byte ∷ bytes) = byte

abbrev pub tally : Reads → Step
tally reads stored s (Query text) = on_text (reads.class text) text stored s
tally reads stored s (Run text schema settings types nulls values long) = on_text (reads.class text) text stored s
tally reads stored s (InitDb schema) = record { stored = stored; session = record s { schema = schema; diag = [] }; reply = answered s false NoId }
tally reads stored s (FieldList rest) = record { stored = stored; session = record s { diag = [] }; reply = (254 ∷ 0 ∷ 0 ∷ status (is_some_of s.tx) ∷ 0 ∷ []) ∷ [] }
tally reads stored s (Prepare text) = record { stored = stored; session = record s { diag = [] }; reply = prepared (number_of text) }
tally reads stored s Reset = record { stored = stored; session = fresh s.user s.capabilities s.schema; reply = ok false NoId false }
tally reads stored s Close = record { stored = stored; session = fresh s.user s.capabilities s.schema; reply = [] }
