-- What a command does to the data and to the session in which it runs.
use Rattle.std.specs.Prelude.{◌≡◌, ℕ, ◌+◌, ◌*◌, ◌%◌, ◌^◌, Bool, true, false, not, ◌&&◌, List, [], ◌∷◌, ◌++◌, codes, filter, fold, length, map, replicate, Option, Some, None}
use Rattle.mx_base.specs.Fields.{number_bytes}
use Rattle.session_vars.specs.Settings.{applied}
use Rattle.session_vars.specs.declared.change.Change.{Change}
use Rattle.pin_classifier.specs.Classes.{class_of}
use Rattle.session_state.specs.Classes.{Effect, Tracked, Uses, Neither, effect_of}
use Rattle.server_rule.specs.Servers.{fresh}
use Rattle.server_rule.specs.declared.command.Cmd.{Cmd}
use Rattle.server_rule.specs.declared.command.Cmd.TheVariants.{Query, InitDb, FieldList, Prepare, Run, Reset, Close}
use Rattle.server_rule.specs.declared.session.Session.{Session}
use Rattle.mem_rule.specs.Answers.{column_payload, diag_of, eof_payload, err_payload, fault_bytes, is_off_in, ok_payload, payloads_of, status}
use Rattle.mem_rule.specs.Forms.{form_of}
use Rattle.mem_rule.specs.Notes.{notes_of}
use Rattle.mem_rule.specs.Scenes.{Scene, is_held_kind, place_in}
use Rattle.mem_rule.specs.Statements.{Binding, asked, said_in}
use Rattle.mem_rule.specs.Steps.{does, frees, plain_note, table_fault}
use Rattle.mem_rule.specs.Tables.{Tables, after_all}
use Rattle.mem_rule.specs.declared.answer.Fault.{Fault}
use Rattle.mem_rule.specs.declared.answer.Fault.TheVariants.{Syntax}
use Rattle.mem_rule.specs.declared.did.Did.{Did}
use Rattle.mem_rule.specs.declared.did.Said.{Said}
use Rattle.mem_rule.specs.declared.form.Form.{Form}
use Rattle.mem_rule.specs.declared.form.Form.TheVariants as forms
use Rattle.mem_rule.specs.declared.note.Note.{Note}
use Rattle.mem_rule.specs.declared.note.NoteKind.TheVariants.{Freed}

-- what is done to the data, as notes, and to the session; and the payloads of the reply
pub record Ran : Type 0 where
  pub writes : List Note
  pub session : Session
  pub reply : List (List ℕ)

abbrev pub status_of : Session → ℕ
status_of s = status s.tx s.settings

-- an OK without rows and insert id
abbrev pub plain_ok : Session → List (List ℕ)
plain_ok s = ok_payload (status_of s) 0 0 ∷ []

abbrev pub succeeds : Session → Ran
succeeds s = record { writes = []; session = record s { diag = [] }; reply = plain_ok s }

abbrev pub fails : Fault → Session → Ran
fails fault s = record { writes = []; session = record s { diag = fault_bytes fault }; reply = err_payload fault ∷ [] }

-- INIT_DB and USE
abbrev pub chooses : (schema : List ℕ) → Session → Ran
chooses schema s = succeeds (record s { schema = schema })

-- a SET of tracked settings; one that turns autocommit on commits first
abbrev pub with_settings : (turns_on : Bool) → Session → Ran
with_settings true s = record (succeeds (record s { tx = [] })) { writes = notes_of s.tx }
with_settings false s = succeeds s

abbrev pub tracks : List Change → Session → Ran
tracks changes s = with_settings (is_off_in s.settings && not (is_off_in (applied s.settings changes))) (record s { settings = applied s.settings changes })

abbrev pub scene : Tables → Session → (schema : List ℕ) → Scene
scene t s schema = record { tables = t; tx = s.tx; locks = s.locks; deep = s.deep; settings = s.settings; last_id = s.last_id; diag = s.diag; schema = schema }

-- SHOW WARNINGS leaves what it shows
abbrev pub diag_behind : Form → (old new : List ℕ) → List ℕ
diag_behind forms.Warnings old new = old
diag_behind _ old new = new

abbrev pub session_behind : Form → Session → Did → Session
session_behind form s did = record s { tx = did.tx; locks = did.locks; deep = did.deep; last_id = did.last_id; diag = diag_behind form s.diag (diag_of did.answer) }

abbrev pub ran_by : (is_binary : Bool) → Form → Session → Did → Ran
ran_by is_binary form s did = record { writes = did.writes; session = session_behind form s did; reply = payloads_of is_binary (status did.tx s.settings) did.answer }

abbrev pub says : Option Said → (is_binary : Bool) → (schema : List ℕ) → Tables → Session → Ran
says None is_binary schema t s = fails Syntax s
says (Some said) is_binary schema t s = ran_by is_binary said.form s (does said.form said (scene t s schema))

abbrev pub by_effect : Effect → (text : List ℕ) → Option Binding → (is_binary : Bool) → (schema : List ℕ) → Tables → Session → Ran
by_effect (Tracked changes) text binding is_binary schema t s = tracks changes s
by_effect (Uses chosen) text binding is_binary schema t s = chooses chosen s
by_effect Neither text binding is_binary schema t s = says (said_in text binding) is_binary schema t s

-- a text: a tracked SET and USE by its class, all others by their form
abbrev pub on_text : (text : List ℕ) → Option Binding → (is_binary : Bool) → (schema : List ℕ) → Tables → Session → Ran
on_text text binding is_binary schema t s = by_effect (effect_of (class_of text)) text binding is_binary schema t s

-- Preparations.

-- the names of the columns that a statement shows
abbrev pub columns_of : Form → List (List ℕ)
columns_of forms.Select = codes "v" ∷ []
columns_of forms.Count = codes "COUNT(*)" ∷ []
columns_of forms.Setting = codes "setting" ∷ []
columns_of forms.Variable = codes "variable" ∷ []
columns_of forms.Id = codes "LAST_INSERT_ID()" ∷ []
columns_of forms.Lock = codes "GET_LOCK" ∷ []
columns_of forms.Warnings = codes "Level" ∷ codes "Code" ∷ codes "Message" ∷ []
columns_of _ = []

abbrev pub mixed : ℕ → ℕ → ℕ
mixed sum byte = (sum * 31 + byte) % 2 ^ 32

-- the number of a preparation: a checksum of its text
abbrev pub text_number : List ℕ → ℕ
text_number text = fold mixed 7 text

-- definitions of columns or parameters, and an EOF, where there are any
abbrev pub definitions : (status : ℕ) → List (List ℕ) → List (List ℕ)
definitions status [] = []
definitions status (name ∷ names) = map column_payload (name ∷ names) ++ eof_payload status ∷ []

-- 0x00, number (4), columns (2), parameters (2), 0x00, warnings (2)
abbrev pub prepared_payload : (text : List ℕ) → (columns parameters : ℕ) → List ℕ
prepared_payload text columns parameters = 0 ∷ (number_bytes 4 (text_number text) ++ (columns % 256 ∷ 0 ∷ parameters % 256 ∷ 0 ∷ 0 ∷ 0 ∷ 0 ∷ []))

abbrev pub prepared_payloads : (text : List ℕ) → (status : ℕ) → (columns : List (List ℕ)) → (parameters : ℕ) → List (List ℕ)
prepared_payloads text status columns parameters =
    (prepared_payload text (length columns) parameters ∷ []) ++ (definitions status (replicate parameters (codes "?")) ++ definitions status columns)

abbrev pub prepared : (text : List ℕ) → (columns : List (List ℕ)) → (parameters : ℕ) → Session → Ran
prepared text columns parameters s = record { writes = []; session = record s { diag = [] }; reply = prepared_payloads text (status_of s) columns parameters }

abbrev pub prepares_form : (text : List ℕ) → Option (Form × List (Option (List ℕ))) → Session → Ran
prepares_form text None s = fails Syntax s
prepares_form text (Some form) s = prepared text (columns_of form.0) (asked form.1) s

abbrev pub prepares_by : Effect → (text : List ℕ) → Session → Ran
prepares_by Neither text s = prepares_form text (form_of text) s
prepares_by _ text s = prepared text [] 0 s

abbrev pub prepares : (text : List ℕ) → Session → Ran
prepares text s = prepares_by (effect_of (class_of text)) text s

-- FIELD_LIST: the columns of the table
abbrev pub fields_by : Option Fault → Session → Ran
fields_by (Some fault) s = fails fault s
fields_by None s = record { writes = []; session = record s { diag = [] }; reply = definitions (status_of s) (codes "id" ∷ codes "v" ∷ []) }

abbrev pub fields : Tables → Session → Ran
fields t s = fields_by (table_fault (place_in t s.locks (notes_of s.deep) s.schema)) s

-- The end of a session: what it keeps is forgotten, and its locks are free.

abbrev pub holds_lock : Note → Bool
holds_lock note = is_held_kind note.kind

abbrev pub freed : Note → Note
freed note = plain_note Freed note.key

abbrev pub ends : Session → (reply : List (List ℕ)) → Ran
ends s reply = record { writes = frees s.locks ++ map freed (filter holds_lock (notes_of s.deep)); session = fresh s.user s.capabilities s.schema; reply = reply }

abbrev pub types_of : Option (List ℕ) → List ℕ
types_of None = []
types_of (Some types) = types

-- what a command does
unfoldable pub ran : Tables → Session → Cmd → Ran
ran t s (Query text) = on_text text None false s.schema t s
ran t s (InitDb schema) = chooses schema s
ran t s (FieldList rest) = fields t s
ran t s (Prepare text) = prepares text s
ran t s (Run text schema settings types nulls values long) = on_text text (Some (record { types = types_of types; nulls = nulls; values = values; long = long })) true schema t s
ran t s Reset = ends s (ok_payload 2 0 0 ∷ [])
ran t s Close = ends s []

abbrev pub tables_after : Tables → Session → Cmd → Tables
tables_after t s c = after_all t (ran t s c).writes

-- a call that answers does what the definition says
pub record RunsIn (t : Tables) (s : Session) (c : Cmd) (new_tables : Tables) (new : Session) (payloads : List (List ℕ)) : Type 0 where
  pub tables : new_tables ≡ tables_after t s c
  pub session : new ≡ (ran t s c).session
  pub reply : payloads ≡ (ran t s c).reply
