-- The server keeps to sessions that it takes: their deep state stays, gets a note more, or goes.
use Rattle.std.specs.Prelude.{◌≡◌, ◌⊎◌, ℕ, ◌+◌, ◌-◌, ◌^◌, Bool, true, false, not, nat_eq, nat_lt, is_some, List, [], ◌∷◌, ◌++◌, Option, None, Some, slice_index_or}
use Rattle.std.proofs.Common.{refl, inl, inr}
use Rattle.std.specs.List.{list_any}
use Rattle.session_vars.specs.Slots.{slot_named}
use Rattle.session_vars.specs.declared.change.Change.{Change}
use Rattle.session_vars.specs.declared.slot.Slot.{Slot}
use Rattle.session_state.specs.Classes.{Effect, Tracked, Uses, Neither, effect_of}
use Rattle.pin_classifier.specs.Classes.{class_of}
use Rattle.server_rule.specs.Laws.{KeepsTests}
use Rattle.server_rule.specs.declared.command.Cmd.{Cmd}
use Rattle.server_rule.specs.declared.command.Cmd.TheVariants.{Query, InitDb, FieldList, Prepare, Run, Reset, Close}
use Rattle.server_rule.specs.declared.session.Session.{Session}
use Rattle.mem_rule.specs.Commands.{by_effect, fields_by, prepares_by, prepares_form, ran, says, scene, tracks, with_settings}
use Rattle.mem_rule.specs.Forms.{form_of}
use Rattle.mem_rule.specs.Notes.{code_of, note_bytes, notes_of}
use Rattle.mem_rule.specs.Scenes.{Scene, creates, deep_notes, greatest_id, is_locked, keeps, named_lock, place, place_in, seen, takes}
use Rattle.mem_rule.specs.Statements.{Binding, said_in}
use Rattle.mem_rule.specs.Steps.{does, lock_by, on_table_by, plain_note, row_note, rows_do, shown_by, table_fault, write_by}
use Rattle.mem_rule.specs.Stored.{step, tables_in, tests}
use Rattle.mem_rule.specs.Tables.{Tables, holds}
use Rattle.mem_rule.specs.declared.answer.Answer.{Answer}
use Rattle.mem_rule.specs.declared.answer.Answer.TheVariants.{Done}
use Rattle.mem_rule.specs.declared.answer.Fault.{Fault}
use Rattle.mem_rule.specs.declared.did.Did.{Did}
use Rattle.mem_rule.specs.declared.did.Said.{Said}
use Rattle.mem_rule.specs.declared.form.Form.{Form}
use Rattle.mem_rule.specs.declared.form.Form.TheVariants as forms
use Rattle.mem_rule.specs.declared.note.Note.{Note}
use Rattle.mem_rule.specs.declared.note.NoteKind.{NoteKind}
use Rattle.mem_rule.specs.declared.note.NoteKind.TheVariants.{Begun, Put, Removed, Created, Held, Freed, Named}
use Rattle.mem_rule.specs.declared.place.Place.{Place}
use Rattle.mem_rule.specs.declared.place.Place.TheVariants.{Temporary, Absent, Locked, There}
use Rattle.mem_rule.proofs.Picking.{pick}

abbrev pub From : (old new : List ℕ) → Type 0
From old new = (new ≡ old) ⊎ ((note : Note) × (new ≡ old ++ note_bytes note))

by_write : (p : Place) (keeps : Bool) (c : Scene) (note : Note) (answer : Answer) → From c.deep (write_by p keeps c note answer).deep
by_write Temporary keeps c note answer = inr (note, refl)
by_write Absent keeps c note answer = inl refl
by_write Locked keeps c note answer = inl refl
by_write (There at) true c note answer = inl refl
by_write (There at) false c note answer = inl refl

by_fault : (fault : Option Fault) (c : Scene) (did : Did) → From c.deep did.deep → From c.deep (on_table_by fault c did).deep
by_fault None c did from = from
by_fault (Some fault) c did from = inl refl

by_lock : (p : Place) (c : Scene) → From c.deep (lock_by p c).deep
by_lock Temporary c = inl refl
by_lock Absent c = inl refl
by_lock Locked c = inl refl
by_lock (There at) c = inl refl

by_slot : (slot : Option Slot) (c : Scene) (name : List ℕ) → From c.deep (shown_by slot c name).deep
by_slot None c name = inl refl
by_slot (Some slot) c name = inl refl

of_rows : (form : Form) (d : Said) (c : Scene) → From c.deep (rows_do form d c).deep
of_rows forms.InsertAt d c = pick (λ did. From c.deep did.deep) (is_some (seen c d.id)) _ _ (inl refl) (by_write (place c) (keeps c) c _ _)
of_rows forms.Insert d c = pick (λ did. From c.deep did.deep) (nat_lt (greatest_id c) (2 ^ 64 - 1)) _ _ (by_write (place c) (keeps c) c (row_note Put c.schema (greatest_id c + 1) d.text) (Done 1 (greatest_id c + 1))) (inl refl)
of_rows forms.Select d c = inl refl
of_rows forms.Count d c = inl refl
of_rows forms.Update d c = pick (λ did. From c.deep did.deep) (is_some (seen c d.id)) _ _ (by_write (place c) (keeps c) c _ _) (inl refl)
of_rows forms.Delete d c = pick (λ did. From c.deep did.deep) (is_some (seen c d.id)) _ _ (by_write (place c) (keeps c) c _ _) (inl refl)
of_rows _ d c = by_lock (place c) c

pub of_form : (form : Form) (d : Said) (c : Scene) → From c.deep (does form d c).deep
of_form forms.CreateTable d c = pick (λ did. From c.deep did.deep) (is_locked c.tables c.locks c.schema) _ _ (inl refl) (inl refl)
of_form forms.CreateTemporary d c = pick (λ did. From c.deep did.deep) (list_any (creates c.schema) (deep_notes c)) _ _ (inl refl) (inr (plain_note Created c.schema, refl))
of_form forms.InsertAt d c = by_fault (table_fault (place c)) c _ (of_rows forms.InsertAt d c)
of_form forms.Insert d c = by_fault (table_fault (place c)) c _ (of_rows forms.Insert d c)
of_form forms.Select d c = by_fault (table_fault (place c)) c _ (of_rows forms.Select d c)
of_form forms.Count d c = by_fault (table_fault (place c)) c _ (of_rows forms.Count d c)
of_form forms.Update d c = by_fault (table_fault (place c)) c _ (of_rows forms.Update d c)
of_form forms.Delete d c = by_fault (table_fault (place c)) c _ (of_rows forms.Delete d c)
of_form forms.Setting d c = by_slot (slot_named d.name) c d.name
of_form forms.SetVariable d c = inr (row_note Named d.name 0 d.text, refl)
of_form forms.Id d c = pick (λ did. From c.deep did.deep) (nat_lt c.last_id (2 ^ 64)) _ _ (inl refl) (inl refl)
of_form forms.Lock d c = pick (λ did. From c.deep did.deep) (list_any (takes (named_lock d.name)) (deep_notes c)) _ _ (inl refl) (pick (λ did. From c.deep did.deep) (holds c.tables.held (named_lock d.name)) _ _ (inl refl) (inr (plain_note Held (named_lock d.name), refl)))
of_form forms.LockTables d c = by_fault (table_fault (place c)) c _ (of_rows forms.LockTables d c)
of_form _ d c = inl refl

-- what becomes of it in a step
abbrev pub Left : (old new : List ℕ) → Type 0
Left old new = (new ≡ []) ⊎ From old new

stays : {old : List ℕ} → Left old old
stays = inr (inl refl)

by_said : (said : Option Said) (is_binary : Bool) (schema : List ℕ) (t : Tables) (s : Session) → Left s.deep (says said is_binary schema t s).session.deep
by_said None is_binary schema t s = stays
by_said (Some said) is_binary schema t s = inr (of_form said.form said (scene t s schema))

by_settings : (on : Bool) (s : Session) → (with_settings on s).session.deep ≡ s.deep
by_settings true s = refl
by_settings false s = refl

pub tracked_deep : (s : Session) (changes : List Change) → (tracks changes s).session.deep ≡ s.deep
tracked_deep s changes = by_settings _ _

of_effect : (e : Effect) (text : List ℕ) (b : Option Binding) (is_binary : Bool) (schema : List ℕ) (t : Tables) (s : Session) → Left s.deep (by_effect e text b is_binary schema t s).session.deep
of_effect (Tracked changes) text b is_binary schema t s = inr (inl (tracked_deep s changes))
of_effect (Uses chosen) text b is_binary schema t s = stays
of_effect Neither text b is_binary schema t s = by_said (said_in text b) is_binary schema t s

by_form : (text : List ℕ) (form : Option (Form × List (Option (List ℕ)))) (s : Session) → Left s.deep (prepares_form text form s).session.deep
by_form text None s = stays
by_form text (Some form) s = stays

of_preparation : (e : Effect) (text : List ℕ) (s : Session) → Left s.deep (prepares_by e text s).session.deep
of_preparation (Tracked changes) text s = stays
of_preparation (Uses chosen) text s = stays
of_preparation Neither text s = by_form text (form_of text) s

of_fields : (fault : Option Fault) (s : Session) → Left s.deep (fields_by fault s).session.deep
of_fields None s = stays
of_fields (Some fault) s = stays

of_command : (t : Tables) (s : Session) (c : Cmd) → Left s.deep (ran t s c).session.deep
unfolding ran
of_command t s (Query text) = of_effect (effect_of (class_of text)) text None false s.schema t s
of_command t s (InitDb schema) = stays
of_command t s (FieldList rest) = of_fields (table_fault (place_in t s.locks (notes_of s.deep) s.schema)) s
of_command t s (Prepare text) = of_preparation (effect_of (class_of text)) text s
of_command t s (Run text schema settings types nulls values long) = of_effect (effect_of (class_of text)) text _ true schema t s
of_command t s Reset = inl refl
of_command t s Close = inl refl

-- it isn't the characteristics of the next transaction
abbrev is_fine : List ℕ → Bool
is_fine deep = not (nat_eq (slice_index_or deep 0 0) 1)

kind_fine : (kind : NoteKind) → not (nat_eq (code_of kind) 1) ≡ true
kind_fine Begun = refl
kind_fine Put = refl
kind_fine Removed = refl
kind_fine Created = refl
kind_fine Held = refl
kind_fine Freed = refl
kind_fine Named = refl

more_fine : (deep : List ℕ) (note : Note) → is_fine deep ≡ true → is_fine (deep ++ note_bytes note) ≡ true
more_fine [] note fine = kind_fine note.kind
more_fine (x ∷ deep) note fine = fine

left_fine : (old new : List ℕ) → Left old new → is_fine old ≡ true → is_fine new ≡ true
left_fine old new (inl none) fine = rw none refl
left_fine old new (inr (inl same)) fine = rw same fine
left_fine old new (inr (inr (note, more))) fine = rw more (more_fine old note fine)

pub keeps_tests : KeepsTests tests step
unfolding step
keeps_tests = record { accepts_fresh = refl; keeps = λ stored s ok c. (refl, left_fine s.deep _ (of_command (tables_in stored) s c) ok.1) }
