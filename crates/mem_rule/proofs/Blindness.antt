-- Independence of the diagnostics and of the insert id.
use Rattle.std.specs.Prelude.{◌≡◌, ℕ, ◌+◌, ◌-◌, ◌^◌, Bool, true, false, not, ◌&&◌, nat_lt, is_some, List, Option, None, Some, if◌then◌else◌}
use Rattle.std.proofs.Common.{refl, ap, ◌∙◌}
use Rattle.std.proofs.lemmas.Bool.{both_ways, or_left, or_right}
use Rattle.std.specs.List.{list_any}
use Rattle.session_vars.specs.Settings.{applied}
use Rattle.session_vars.specs.Slots.{slot_named}
use Rattle.session_vars.specs.declared.change.Change.{Change}
use Rattle.session_vars.specs.declared.long_part.LongPart.{LongPart}
use Rattle.session_vars.specs.declared.slot.Slot.{Slot}
use Rattle.session_state.specs.Classes.{Effect, Tracked, Uses, Neither, effect_of}
use Rattle.pin_classifier.specs.Classes.{class_of, is_deep, marks_id, reads_diagnostics}
use Rattle.pin_classifier.specs.Judged.{judged}
use Rattle.server_rule.proofs.Blind.{blind_whole}
use Rattle.server_rule.specs.Classes.{router_reads, sees_diag, sees_id}
use Rattle.server_rule.specs.Laws.{BlindLaw}
use Rattle.server_rule.specs.Servers.{with_diag, with_id}
use Rattle.server_rule.specs.declared.command.Cmd.{Cmd}
use Rattle.server_rule.specs.declared.command.Cmd.TheVariants.{Query, InitDb, FieldList, Prepare, Run, Reset, Close}
use Rattle.server_rule.specs.declared.session.Session.{Session}
use Rattle.mem_rule.specs.Answers.{is_off_in}
use Rattle.mem_rule.specs.Commands.{Ran, by_effect, fields_by, prepares_by, prepares_form, ran, ran_by, says, scene, types_of, with_settings}
use Rattle.mem_rule.specs.Forms.{form_of}
use Rattle.mem_rule.specs.Notes.{notes_of}
use Rattle.mem_rule.specs.Scenes.{Scene, creates, deep_notes, greatest_id, is_locked, keeps, named_lock, place, place_in, seen, takes}
use Rattle.mem_rule.specs.Statements.{Binding, said_in}
use Rattle.mem_rule.specs.Steps.{does, lock_by, on_table_by, row_note, shown_by, table_fault, write_by}
use Rattle.mem_rule.specs.Stored.{step, tables_in, tests}
use Rattle.mem_rule.specs.Tables.{Tables, holds}
use Rattle.mem_rule.specs.declared.answer.Answer.{Answer}
use Rattle.mem_rule.specs.declared.answer.Answer.TheVariants.{Done}
use Rattle.mem_rule.specs.declared.answer.Fault.{Fault}
use Rattle.mem_rule.specs.declared.did.Did.{Did}
use Rattle.mem_rule.specs.declared.did.Said.{Said}
use Rattle.mem_rule.specs.declared.form.Form.{Form}
use Rattle.mem_rule.specs.declared.form.Form.TheVariants as forms
use Rattle.mem_rule.specs.declared.note.Note.{Note}
use Rattle.mem_rule.specs.declared.note.NoteKind.TheVariants.{Put}
use Rattle.mem_rule.specs.declared.place.Place.{Place}
use Rattle.mem_rule.specs.declared.place.Place.TheVariants.{Temporary, Absent, Locked, There}
use Rattle.mem_rule.proofs.Known.{Tells, told}
use Rattle.mem_rule.proofs.Running.{outcome}
use Rattle.mem_rule.proofs.Taking.{Fitted, fitted}

abbrev turns_on : List Change → Session → Bool
turns_on changes s = is_off_in s.settings && not (is_off_in (applied s.settings changes))

abbrev bound : (types : Option (List ℕ)) → (nulls values : List ℕ) → List LongPart → Option Binding
bound types nulls values long = Some (record { types = types_of types; nulls = nulls; values = values; long = long })

-- The diagnostics.

abbrev marked : (diag : List ℕ) → Scene → Scene
marked diag c = record c { diag = diag }

pick_same : (b : Bool) (x y x' y' : Did) → x' ≡ x → y' ≡ y → (if b then x' else y') ≡ (if b then x else y)
pick_same true x y x' y' ex ey = ex
pick_same false x y x' y' ex ey = ey

write_same : (diag : List ℕ) (p : Place) (keeps : Bool) (c : Scene) (note : Note) (answer : Answer) → write_by p keeps (marked diag c) note answer ≡ write_by p keeps c note answer
write_same diag Temporary keeps c note answer = refl
write_same diag Absent keeps c note answer = refl
write_same diag Locked keeps c note answer = refl
write_same diag (There at) true c note answer = refl
write_same diag (There at) false c note answer = refl

lock_same : (diag : List ℕ) (p : Place) (c : Scene) → lock_by p (marked diag c) ≡ lock_by p c
lock_same diag Temporary c = refl
lock_same diag Absent c = refl
lock_same diag Locked c = refl
lock_same diag (There at) c = refl

fault_same : (diag : List ℕ) (fault : Option Fault) (c : Scene) (did did' : Did) → did' ≡ did → on_table_by fault (marked diag c) did' ≡ on_table_by fault c did
fault_same diag None c did did' is = is
fault_same diag (Some fault) c did did' is = refl

slot_same : (diag : List ℕ) (slot : Option Slot) (c : Scene) (name : List ℕ) → shown_by slot (marked diag c) name ≡ shown_by slot c name
slot_same diag None c name = refl
slot_same diag (Some slot) c name = refl

-- but for SHOW WARNINGS
abbrev Unmarked : Form → (diag : List ℕ) → Said → Scene → Type 0
Unmarked forms.Warnings diag d c = Unit {0}
Unmarked form diag d c = does form d (marked diag c) ≡ does form d c

of_same : (form : Form) (diag : List ℕ) (d : Said) (c : Scene) → Unmarked form diag d c
of_same forms.CreateTable diag d c = pick_same (is_locked c.tables c.locks c.schema) _ _ _ _ refl refl
of_same forms.CreateTemporary diag d c = pick_same (list_any (creates c.schema) (deep_notes c)) _ _ _ _ refl refl
of_same forms.InsertAt diag d c = fault_same diag (table_fault (place c)) c _ _ (pick_same (is_some (seen c d.id)) _ _ _ _ refl (write_same diag (place c) (keeps c) c _ _))
of_same forms.Insert diag d c =
    let id = greatest_id c + 1 in
    fault_same diag (table_fault (place c)) c _ _ (pick_same (nat_lt (greatest_id c) (2 ^ 64 - 1)) _ _ _ _ (ap (λ (did : Did). record did { last_id = id }) (write_same diag (place c) (keeps c) c (row_note Put c.schema id d.text) (Done 1 id))) refl)
of_same forms.Select diag d c = fault_same diag (table_fault (place c)) c _ _ refl
of_same forms.Count diag d c = fault_same diag (table_fault (place c)) c _ _ refl
of_same forms.Update diag d c = fault_same diag (table_fault (place c)) c _ _ (pick_same (is_some (seen c d.id)) _ _ _ _ (write_same diag (place c) (keeps c) c _ _) refl)
of_same forms.Delete diag d c = fault_same diag (table_fault (place c)) c _ _ (pick_same (is_some (seen c d.id)) _ _ _ _ (write_same diag (place c) (keeps c) c _ _) refl)
of_same forms.Setting diag d c = slot_same diag (slot_named d.name) c d.name
of_same forms.Id diag d c = pick_same (nat_lt c.last_id (2 ^ 64)) _ _ _ _ refl refl
of_same forms.Lock diag d c = pick_same (list_any (takes (named_lock d.name)) (deep_notes c)) _ _ _ _ refl (pick_same (holds c.tables.held (named_lock d.name)) _ _ _ _ refl refl)
of_same forms.LockTables diag d c = fault_same diag (table_fault (place c)) c _ _ (lock_same diag (place c) c)
of_same forms.Warnings diag d c = tt
of_same _ diag d c = refl

does_same : (form : Form) (text : List ℕ) → Tells form text → reads_diagnostics (judged text) ≡ false → (diag : List ℕ) (d : Said) (c : Scene) → Unmarked form diag d c → does form d (marked diag c) ≡ does form d c
does_same forms.Warnings text tells unread diag d c is = absurd (both_ways (reads_diagnostics (judged text)) unread tells)
does_same _ text tells unread diag d c is = is

leaves_same : (form : Form) (text : List ℕ) → Tells form text → reads_diagnostics (judged text) ≡ false → (is_binary : Bool) (s : Session) (diag : List ℕ) (did : Did) → ran_by is_binary form (with_diag diag s) did ≡ ran_by is_binary form s did
leaves_same forms.Warnings text tells unread is_binary s diag did = absurd (both_ways (reads_diagnostics (judged text)) unread tells)
leaves_same _ text tells unread is_binary s diag did = refl

said_blind : (text : List ℕ) (said : Option Said) → Fitted text said → reads_diagnostics (judged text) ≡ false → (is_binary : Bool) (schema : List ℕ) (t : Tables) (s : Session) (diag : List ℕ) → says said is_binary schema t (with_diag diag s) ≡ says said is_binary schema t s
said_blind text None fits unread is_binary schema t s diag = refl
said_blind text (Some said) fits unread is_binary schema t s diag =
    let c = scene t s schema in
    let tells = told text said.form fits in
    ap (λ (did : Did). ran_by is_binary said.form (with_diag diag s) did) (does_same said.form text tells unread diag said c (of_same said.form diag said c))
    ∙ leaves_same said.form text tells unread is_binary s diag (does said.form said c)

settings_blind : (on : Bool) (s : Session) (diag : List ℕ) → with_settings on (with_diag diag s) ≡ with_settings on s
settings_blind true s diag = refl
settings_blind false s diag = refl

effect_blind : (e : Effect) (text : List ℕ) → reads_diagnostics (judged text) ≡ false → (b : Option Binding) (is_binary : Bool) (schema : List ℕ) (t : Tables) (s : Session) (diag : List ℕ) → by_effect e text b is_binary schema t (with_diag diag s) ≡ by_effect e text b is_binary schema t s
effect_blind (Tracked changes) text unread b is_binary schema t s diag = settings_blind (turns_on changes s) (record s { settings = applied s.settings changes }) diag
effect_blind (Uses chosen) text unread b is_binary schema t s diag = refl
effect_blind Neither text unread b is_binary schema t s diag = said_blind text (said_in text b) (fitted text b) unread is_binary schema t s diag

prepared_blind : (text : List ℕ) (form : Option (Form × List (Option (List ℕ)))) (s : Session) (diag : List ℕ) → prepares_form text form (with_diag diag s) ≡ prepares_form text form s
prepared_blind text None s diag = refl
prepared_blind text (Some form) s diag = refl

prepares_blind : (e : Effect) (text : List ℕ) (s : Session) (diag : List ℕ) → prepares_by e text (with_diag diag s) ≡ prepares_by e text s
prepares_blind (Tracked changes) text s diag = refl
prepares_blind (Uses chosen) text s diag = refl
prepares_blind Neither text s diag = prepared_blind text (form_of text) s diag

fields_blind : (fault : Option Fault) (s : Session) (diag : List ℕ) → fields_by fault (with_diag diag s) ≡ fields_by fault s
fields_blind None s diag = refl
fields_blind (Some fault) s diag = refl

diag_blind : (t : Tables) (s : Session) (c : Cmd) (diag : List ℕ) → sees_diag router_reads c ≡ false → ran t (with_diag diag s) c ≡ ran t s c
unfolding ran router_reads class_of
diag_blind t s (Query text) diag unread = effect_blind (effect_of (class_of text)) text unread None false s.schema t s diag
diag_blind t s (InitDb schema) diag unread = refl
diag_blind t s (FieldList rest) diag unread = fields_blind (table_fault (place_in t s.locks (notes_of s.deep) s.schema)) s diag
diag_blind t s (Prepare text) diag unread = prepares_blind (effect_of (class_of text)) text s diag
diag_blind t s (Run text schema settings types nulls values long) diag unread = effect_blind (effect_of (class_of text)) text unread (bound types nulls values long) true schema t s diag
diag_blind t s Reset diag unread = absurd (cc)
diag_blind t s Close diag unread = absurd (cc)

-- The insert id.

abbrev numbered : ℕ → Scene → Scene
numbered n c = record c { last_id = n }

abbrev did_with : ℕ → Did → Did
did_with n did = record did { last_id = n }

abbrev ran_with : ℕ → Ran → Ran
ran_with n r = record r { session = with_id n r.session }

pick_id : (n : ℕ) (b : Bool) (x y x' y' : Did) → x' ≡ did_with n x → y' ≡ did_with n y → (if b then x' else y') ≡ did_with n (if b then x else y)
pick_id n true x y x' y' ex ey = ex
pick_id n false x y x' y' ex ey = ey

write_id : (n : ℕ) (p : Place) (keeps : Bool) (c : Scene) (note : Note) (answer : Answer) → write_by p keeps (numbered n c) note answer ≡ did_with n (write_by p keeps c note answer)
write_id n Temporary keeps c note answer = refl
write_id n Absent keeps c note answer = refl
write_id n Locked keeps c note answer = refl
write_id n (There at) true c note answer = refl
write_id n (There at) false c note answer = refl

lock_id : (n : ℕ) (p : Place) (c : Scene) → lock_by p (numbered n c) ≡ did_with n (lock_by p c)
lock_id n Temporary c = refl
lock_id n Absent c = refl
lock_id n Locked c = refl
lock_id n (There at) c = refl

fault_id : (n : ℕ) (fault : Option Fault) (c : Scene) (did did' : Did) → did' ≡ did_with n did → on_table_by fault (numbered n c) did' ≡ did_with n (on_table_by fault c did)
fault_id n None c did did' is = is
fault_id n (Some fault) c did did' is = refl

show_slot_id : (n : ℕ) (slot : Option Slot) (c : Scene) (name : List ℕ) → shown_by slot (numbered n c) name ≡ did_with n (shown_by slot c name)
show_slot_id n None c name = refl
show_slot_id n (Some slot) c name = refl

-- but for those that are marked
abbrev Unnumbered : Form → ℕ → Said → Scene → Type 0
Unnumbered forms.Insert n d c = Unit {0}
Unnumbered forms.SetId n d c = Unit {0}
Unnumbered forms.Id n d c = Unit {0}
Unnumbered form n d c = does form d (numbered n c) ≡ did_with n (does form d c)

of_id : (form : Form) (n : ℕ) (d : Said) (c : Scene) → Unnumbered form n d c
of_id forms.CreateTable n d c = pick_id n (is_locked c.tables c.locks c.schema) _ _ _ _ refl refl
of_id forms.CreateTemporary n d c = pick_id n (list_any (creates c.schema) (deep_notes c)) _ _ _ _ refl refl
of_id forms.InsertAt n d c = fault_id n (table_fault (place c)) c _ _ (pick_id n (is_some (seen c d.id)) _ _ _ _ refl (write_id n (place c) (keeps c) c _ _))
of_id forms.Insert n d c = tt
of_id forms.Select n d c = fault_id n (table_fault (place c)) c _ _ refl
of_id forms.Count n d c = fault_id n (table_fault (place c)) c _ _ refl
of_id forms.Update n d c = fault_id n (table_fault (place c)) c _ _ (pick_id n (is_some (seen c d.id)) _ _ _ _ (write_id n (place c) (keeps c) c _ _) refl)
of_id forms.Delete n d c = fault_id n (table_fault (place c)) c _ _ (pick_id n (is_some (seen c d.id)) _ _ _ _ (write_id n (place c) (keeps c) c _ _) refl)
of_id forms.Setting n d c = show_slot_id n (slot_named d.name) c d.name
of_id forms.SetId n d c = tt
of_id forms.Id n d c = tt
of_id forms.Lock n d c = pick_id n (list_any (takes (named_lock d.name)) (deep_notes c)) _ _ _ _ refl (pick_id n (holds c.tables.held (named_lock d.name)) _ _ _ _ refl refl)
of_id forms.LockTables n d c = fault_id n (table_fault (place c)) c _ _ (lock_id n (place c) c)
of_id _ n d c = refl

deep_marks : (text : List ℕ) → is_deep text ≡ true → marks_id text ≡ true
unfolding marks_id
deep_marks text deep = or_left _ _ (or_right _ _ deep)

form_id : (form : Form) (text : List ℕ) → Tells form text → marks_id (judged text) ≡ false → (n : ℕ) (d : Said) (c : Scene) → Unnumbered form n d c → does form d (numbered n c) ≡ did_with n (does form d c)
form_id forms.Insert text tells unmarked n d c is = absurd (both_ways (marks_id (judged text)) unmarked tells)
form_id forms.SetId text tells unmarked n d c is = absurd (both_ways (marks_id (judged text)) unmarked (deep_marks (judged text) tells))
form_id forms.Id text tells unmarked n d c is = absurd (both_ways (marks_id (judged text)) unmarked tells)
form_id _ text tells unmarked n d c is = is

said_id : (text : List ℕ) (said : Option Said) → Fitted text said → marks_id (judged text) ≡ false → (is_binary : Bool) (schema : List ℕ) (t : Tables) (s : Session) (n : ℕ) → says said is_binary schema t (with_id n s) ≡ ran_with n (says said is_binary schema t s)
said_id text None fits unmarked is_binary schema t s n = refl
said_id text (Some said) fits unmarked is_binary schema t s n =
    let c = scene t s schema in
    ap (λ (did : Did). ran_by is_binary said.form (with_id n s) did) (form_id said.form text (told text said.form fits) unmarked n said c (of_id said.form n said c))

settings_id : (on : Bool) (s : Session) (n : ℕ) → with_settings on (with_id n s) ≡ ran_with n (with_settings on s)
settings_id true s n = refl
settings_id false s n = refl

effect_id : (e : Effect) (text : List ℕ) → marks_id (judged text) ≡ false → (b : Option Binding) (is_binary : Bool) (schema : List ℕ) (t : Tables) (s : Session) (n : ℕ) → by_effect e text b is_binary schema t (with_id n s) ≡ ran_with n (by_effect e text b is_binary schema t s)
effect_id (Tracked changes) text unmarked b is_binary schema t s n = settings_id (turns_on changes s) (record s { settings = applied s.settings changes }) n
effect_id (Uses chosen) text unmarked b is_binary schema t s n = refl
effect_id Neither text unmarked b is_binary schema t s n = said_id text (said_in text b) (fitted text b) unmarked is_binary schema t s n

prepared_id : (text : List ℕ) (form : Option (Form × List (Option (List ℕ)))) (s : Session) (n : ℕ) → prepares_form text form (with_id n s) ≡ ran_with n (prepares_form text form s)
prepared_id text None s n = refl
prepared_id text (Some form) s n = refl

prepares_id : (e : Effect) (text : List ℕ) (s : Session) (n : ℕ) → prepares_by e text (with_id n s) ≡ ran_with n (prepares_by e text s)
prepares_id (Tracked changes) text s n = refl
prepares_id (Uses chosen) text s n = refl
prepares_id Neither text s n = prepared_id text (form_of text) s n

fields_id : (fault : Option Fault) (s : Session) (n : ℕ) → fields_by fault (with_id n s) ≡ ran_with n (fields_by fault s)
fields_id None s n = refl
fields_id (Some fault) s n = refl

id_blind : (t : Tables) (s : Session) (c : Cmd) (n : ℕ) → sees_id router_reads c ≡ false → ran t (with_id n s) c ≡ ran_with n (ran t s c)
unfolding ran router_reads class_of
id_blind t s (Query text) n unmarked = effect_id (effect_of (class_of text)) text unmarked None false s.schema t s n
id_blind t s (InitDb schema) n unmarked = refl
id_blind t s (FieldList rest) n unmarked = fields_id (table_fault (place_in t s.locks (notes_of s.deep) s.schema)) s n
id_blind t s (Prepare text) n unmarked = prepares_id (effect_of (class_of text)) text s n
id_blind t s (Run text schema settings types nulls values long) n unmarked = effect_id (effect_of (class_of text)) text unmarked (bound types nulls values long) true schema t s n
id_blind t s Reset n unmarked = absurd (cc)
id_blind t s Close n unmarked = absurd (cc)

pub blindness : BlindLaw router_reads tests step
unfolding step
blindness = record {
  diag = λ stored s ok c diag there sees. blind_whole tests (λ d. refl) step stored s c diag _ _ _ _ (λ unread. ap (outcome stored) (diag_blind (tables_in stored) s c diag unread)) sees;
  last_id = λ stored s ok c n unmarked. ap (outcome stored) (id_blind (tables_in stored) s c n unmarked);
}
