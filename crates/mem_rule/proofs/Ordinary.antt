-- Ordinary texts.
use Rattle.std.specs.Prelude.{◌≡◌, ◌⊎◌, ℕ, ◌+◌, ◌-◌, ◌^◌, Bool, true, false, not, ◌&&◌, nat_eq, nat_lt, is_some, List, [], ◌∷◌, slice_index_or, codes, Option, None, Some}
use Rattle.std.proofs.Common.{refl, sym, ap, ◌∙◌, subst, inl, inr}
use Rattle.std.proofs.lemmas.Bool.{both_ways, cases_Bool}
use Rattle.std.specs.List.{list_any}
use Rattle.session_vars.specs.Slots.{slot_named}
use Rattle.session_vars.specs.declared.slot.Slot.{Slot}
use Rattle.session_state.specs.Classes.{Effect, Tracked, Uses, Neither, effect_of, takes_by, takes_locks}
use Rattle.session_state.specs.Endings.{is_err, is_err_kind}
use Rattle.pin_classifier.specs.Classes.{class_of, first, is_deep, is_next_transaction, locking_of, second}
use Rattle.session_vars.specs.Shapes.{set_shape}
use Rattle.session_vars.specs.Statement.{says_first}
use Rattle.session_vars.proofs.First.{other_statement}
use Rattle.sql_tokens.specs.Words.{same_text}
use Rattle.pin_classifier.specs.Judged.{judged}
use Rattle.pin_classifier.specs.Statement.{statement}
use Rattle.server_rule.specs.Classes.{router_reads}
use Rattle.server_rule.specs.Laws.{TextLaw}
use Rattle.server_rule.specs.Replies.{reply_end}
use Rattle.server_rule.specs.Servers.{is_brief}
use Rattle.server_rule.specs.declared.session.Session.{Session}
use Rattle.mem_rule.specs.Answers.{payloads_of, status}
use Rattle.mem_rule.specs.Commands.{Ran, by_effect, on_text, says, scene}
use Rattle.mem_rule.specs.Notes.{notes_of}
use Rattle.mem_rule.specs.Scenes.{Scene, creates, deep_notes, greatest_id, is_locked, keeps, named_lock, place, place_by, seen, takes}
use Rattle.mem_rule.specs.Statements.{Binding, said_in}
use Rattle.mem_rule.specs.Steps.{does, lock_by, on_table_by, row_note, shown_by, table_fault, write_by}
use Rattle.mem_rule.specs.Stored.{step, tables_in, tests}
use Rattle.mem_rule.specs.Tables.{Tables, holds, place_of}
use Rattle.mem_rule.specs.declared.answer.Answer.{Answer}
use Rattle.mem_rule.specs.declared.answer.Answer.TheVariants.{Done}
use Rattle.mem_rule.specs.declared.answer.Fault.{Fault}
use Rattle.mem_rule.specs.declared.did.Did.{Did}
use Rattle.mem_rule.specs.declared.did.Said.{Said}
use Rattle.mem_rule.specs.declared.form.Form.{Form}
use Rattle.mem_rule.specs.declared.form.Form.TheVariants as forms
use Rattle.mem_rule.specs.declared.note.Note.{Note}
use Rattle.mem_rule.specs.declared.note.NoteKind.TheVariants.{Put}
use Rattle.mem_rule.specs.declared.place.Place.{Place}
use Rattle.mem_rule.specs.declared.place.Place.TheVariants.{Temporary, Absent, Locked, There}
use Rattle.mem_rule.proofs.Endings.{ok_kind}
use Rattle.mem_rule.proofs.Known.{Tells, told}
use Rattle.mem_rule.proofs.Keeping.{tracked_deep}
use Rattle.mem_rule.proofs.Picking.{pick}
use Rattle.mem_rule.proofs.Running.{of_run}
use Rattle.mem_rule.proofs.Taking.{Fitted, fitted, pieces_of}
use Rattle.mem_rule.proofs.Telling.{head_of, starts}
use Rattle.mem_rule.proofs.Tracking.{kept}
use Rattle.mem_rule.proofs.Whole.{whole}

-- Schema and settings.

abbrev IsSame : (s new : Session) → Type 0
IsSame s new = (new.schema ≡ s.schema) × (new.settings ≡ s.settings)

said_same : (said : Option Said) (is_binary : Bool) (schema : List ℕ) (t : Tables) (s : Session) → IsSame s (says said is_binary schema t s).session
said_same None is_binary schema t s = (refl, refl)
said_same (Some said) is_binary schema t s = (refl, refl)

same : (text : List ℕ) → effect_of (class_of text) ≡ Neither → (b : Option Binding) (is_binary : Bool) (schema : List ℕ) (t : Tables) (s : Session) → IsSame s (on_text text b is_binary schema t s).session
same text none b is_binary schema t s = subst (λ (e : Effect). IsSame s (by_effect e text b is_binary schema t s).session) (sym none) (said_same (said_in text b) is_binary schema t s)

-- Locks.

abbrev Leaves : Form → Scene → Did → Type 0
Leaves forms.LockTables c did = (did.locks ≡ c.locks) ⊎ (did.answer ≡ Done 0 0)
Leaves forms.UnlockTables c did = did.locks ≡ []
Leaves _ c did = did.locks ≡ c.locks

writes_on : (p : Place) (keeps : Bool) (c : Scene) (note : Note) (answer : Answer) → (write_by p keeps c note answer).locks ≡ c.locks
writes_on Temporary keeps c note answer = refl
writes_on Absent keeps c note answer = refl
writes_on Locked keeps c note answer = refl
writes_on (There at) true c note answer = refl
writes_on (There at) false c note answer = refl

locks_on : (p : Place) (c : Scene) → ((lock_by p c).locks ≡ c.locks) ⊎ ((lock_by p c).answer ≡ Done 0 0)
locks_on Temporary c = inl refl
locks_on Absent c = inl refl
locks_on Locked c = inl refl
locks_on (There at) c = inr refl

on_fault : (fault : Option Fault) (c : Scene) (did : Did) → did.locks ≡ c.locks → (on_table_by fault c did).locks ≡ c.locks
on_fault None c did is = is
on_fault (Some fault) c did is = refl

locks_fault : (fault : Option Fault) (c : Scene) (did : Did) → (did.locks ≡ c.locks) ⊎ (did.answer ≡ Done 0 0) → ((on_table_by fault c did).locks ≡ c.locks) ⊎ ((on_table_by fault c did).answer ≡ Done 0 0)
locks_fault None c did is = is
locks_fault (Some fault) c did is = inl refl

shows_on : (slot : Option Slot) (c : Scene) (name : List ℕ) → (shown_by slot c name).locks ≡ c.locks
shows_on None c name = refl
shows_on (Some slot) c name = refl

of_locks : (form : Form) (d : Said) (c : Scene) → Leaves form c (does form d c)
of_locks forms.CreateTable d c = pick (λ did. did.locks ≡ c.locks) (is_locked c.tables c.locks c.schema) _ _ refl refl
of_locks forms.CreateTemporary d c = pick (λ did. did.locks ≡ c.locks) (list_any (creates c.schema) (deep_notes c)) _ _ refl refl
of_locks forms.InsertAt d c = on_fault (table_fault (place c)) c _ (pick (λ did. did.locks ≡ c.locks) (is_some (seen c d.id)) _ _ refl (writes_on (place c) (keeps c) c _ _))
of_locks forms.Insert d c = on_fault (table_fault (place c)) c _ (pick (λ did. did.locks ≡ c.locks) (nat_lt (greatest_id c) (2 ^ 64 - 1)) _ _ (writes_on (place c) (keeps c) c (row_note Put c.schema (greatest_id c + 1) d.text) (Done 1 (greatest_id c + 1))) refl)
of_locks forms.Select d c = on_fault (table_fault (place c)) c _ refl
of_locks forms.Count d c = on_fault (table_fault (place c)) c _ refl
of_locks forms.Update d c = on_fault (table_fault (place c)) c _ (pick (λ did. did.locks ≡ c.locks) (is_some (seen c d.id)) _ _ (writes_on (place c) (keeps c) c _ _) refl)
of_locks forms.Delete d c = on_fault (table_fault (place c)) c _ (pick (λ did. did.locks ≡ c.locks) (is_some (seen c d.id)) _ _ (writes_on (place c) (keeps c) c _ _) refl)
of_locks forms.Setting d c = shows_on (slot_named d.name) c d.name
of_locks forms.Id d c = pick (λ did. did.locks ≡ c.locks) (nat_lt c.last_id (2 ^ 64)) _ _ refl refl
of_locks forms.Lock d c = pick (λ did. did.locks ≡ c.locks) (list_any (takes (named_lock d.name)) (deep_notes c)) _ _ refl (pick (λ did. did.locks ≡ c.locks) (holds c.tables.held (named_lock d.name)) _ _ refl refl)
of_locks forms.LockTables d c = locks_fault (table_fault (place c)) c _ (locks_on (place c) c)
of_locks _ d c = refl

form_locks : (form : Form) (text : List ℕ) → Tells form text → (c : Scene) → c.locks ≡ [] → (did : Did) → Leaves form c did → (is_binary : Bool) (n : ℕ)
    → (takes_by (locking_of (first (judged text)) (second (judged text))) && not (is_err (reply_end false (payloads_of is_binary n did.answer)))) ≡ false → did.locks ≡ []
form_locks forms.LockTables text tells c none did (inl same) is_binary n free = same ∙ none
form_locks forms.LockTables text tells c none did (inr done) is_binary n free =
    let reply : is_err (reply_end false (payloads_of is_binary n did.answer)) ≡ false = ap (λ answer. is_err (reply_end false (payloads_of is_binary n answer))) done ∙ ap is_err_kind (ok_kind n 0 0) in
    absurd (both_ways _ free (ap (λ locking. takes_by locking && not (is_err (reply_end false (payloads_of is_binary n did.answer)))) tells ∙ ap not reply))
form_locks forms.UnlockTables text tells c none did leaves is_binary n free = leaves
form_locks _ text tells c none did leaves is_binary n free = leaves ∙ none

said_locks : (text : List ℕ) (said : Option Said) → Fitted text said → (is_binary : Bool) (schema : List ℕ) (t : Tables) (s : Session) → s.locks ≡ []
    → (takes_by (locking_of (first (judged text)) (second (judged text))) && not (is_err (reply_end false (says said is_binary schema t s).reply))) ≡ false → (says said is_binary schema t s).session.locks ≡ []
said_locks text None fits is_binary schema t s none free = none
said_locks text (Some said) fits is_binary schema t s none free =
    let c = scene t s schema in
    let did = does said.form said c in
    form_locks said.form text (told text said.form fits) c none did (of_locks said.form said c) is_binary (status did.tx s.settings) free

abbrev IsUnlocked : (text : List ℕ) → Ran → Type 0
IsUnlocked text r = takes_locks (class_of text) (reply_end false r.reply) ≡ false → r.session.locks ≡ []

effect_locks : (e : Effect) (text : List ℕ) (b : Option Binding) (is_binary : Bool) (schema : List ℕ) (t : Tables) (s : Session) → s.locks ≡ [] → IsUnlocked text (by_effect e text b is_binary schema t s)
unfolding class_of
effect_locks (Tracked changes) text b is_binary schema t s none free = (kept s changes).locks ∙ none
effect_locks (Uses chosen) text b is_binary schema t s none free = none
effect_locks Neither text b is_binary schema t s none free = said_locks text (said_in text b) (fitted text b) is_binary schema t s none free

-- What is deep.

abbrev IsHere : Place → Type 0
IsHere Temporary = ⊥
IsHere _ = Unit {0}

here_by : (temporary locked : Bool) (at : Option ℕ) → temporary ≡ false → IsHere (place_by temporary locked at)
here_by true locked at none = absurd (cc)
here_by false true None none = tt
here_by false false None none = tt
here_by false true (Some at) none = tt
here_by false false (Some at) none = tt

here : (c : Scene) → c.deep ≡ [] → IsHere (place c)
here c none = here_by (list_any (creates c.schema) (deep_notes c)) (is_locked c.tables c.locks c.schema) (place_of c.tables.tables c.schema) (ap (λ deep. list_any (creates c.schema) (notes_of deep)) none)

abbrev Deepens : Form → Scene → Did → Type 0
Deepens forms.CreateTemporary c did = Unit {0}
Deepens forms.SetVariable c did = Unit {0}
Deepens forms.Lock c did = Unit {0}
Deepens _ c did = did.deep ≡ c.deep

writes_deep : (p : Place) → IsHere p → (keeps : Bool) (c : Scene) (note : Note) (answer : Answer) → (write_by p keeps c note answer).deep ≡ c.deep
writes_deep Temporary is keeps c note answer = absurd is
writes_deep Absent is keeps c note answer = refl
writes_deep Locked is keeps c note answer = refl
writes_deep (There at) is true c note answer = refl
writes_deep (There at) is false c note answer = refl

locks_deep : (p : Place) (c : Scene) → (lock_by p c).deep ≡ c.deep
locks_deep Temporary c = refl
locks_deep Absent c = refl
locks_deep Locked c = refl
locks_deep (There at) c = refl

fault_deep : (fault : Option Fault) (c : Scene) (did : Did) → did.deep ≡ c.deep → (on_table_by fault c did).deep ≡ c.deep
fault_deep None c did is = is
fault_deep (Some fault) c did is = refl

shows_deep : (slot : Option Slot) (c : Scene) (name : List ℕ) → (shown_by slot c name).deep ≡ c.deep
shows_deep None c name = refl
shows_deep (Some slot) c name = refl

of_deep : (form : Form) (d : Said) (c : Scene) → IsHere (place c) → Deepens form c (does form d c)
of_deep forms.CreateTable d c is = pick (λ did. did.deep ≡ c.deep) (is_locked c.tables c.locks c.schema) _ _ refl refl
of_deep forms.CreateTemporary d c is = tt
of_deep forms.InsertAt d c is = fault_deep (table_fault (place c)) c _ (pick (λ did. did.deep ≡ c.deep) (is_some (seen c d.id)) _ _ refl (writes_deep (place c) is (keeps c) c _ _))
of_deep forms.Insert d c is = fault_deep (table_fault (place c)) c _ (pick (λ did. did.deep ≡ c.deep) (nat_lt (greatest_id c) (2 ^ 64 - 1)) _ _ (writes_deep (place c) is (keeps c) c (row_note Put c.schema (greatest_id c + 1) d.text) (Done 1 (greatest_id c + 1))) refl)
of_deep forms.Select d c is = fault_deep (table_fault (place c)) c _ refl
of_deep forms.Count d c is = fault_deep (table_fault (place c)) c _ refl
of_deep forms.Update d c is = fault_deep (table_fault (place c)) c _ (pick (λ did. did.deep ≡ c.deep) (is_some (seen c d.id)) _ _ (writes_deep (place c) is (keeps c) c _ _) refl)
of_deep forms.Delete d c is = fault_deep (table_fault (place c)) c _ (pick (λ did. did.deep ≡ c.deep) (is_some (seen c d.id)) _ _ (writes_deep (place c) is (keeps c) c _ _) refl)
of_deep forms.Setting d c is = shows_deep (slot_named d.name) c d.name
of_deep forms.SetVariable d c is = tt
of_deep forms.Id d c is = pick (λ did. did.deep ≡ c.deep) (nat_lt c.last_id (2 ^ 64)) _ _ refl refl
of_deep forms.Lock d c is = tt
of_deep forms.LockTables d c is = fault_deep (table_fault (place c)) c _ (locks_deep (place c) c)
of_deep _ d c is = refl

form_deep : (form : Form) (text : List ℕ) → Tells form text → is_deep (judged text) ≡ false → (c : Scene) (did : Did) → Deepens form c did → did.deep ≡ c.deep
form_deep forms.CreateTemporary text tells shallow c did deepens = absurd (both_ways (is_deep (judged text)) shallow tells)
form_deep forms.SetVariable text tells shallow c did deepens = absurd (both_ways (is_deep (judged text)) shallow tells)
form_deep forms.Lock text tells shallow c did deepens = absurd (both_ways (is_deep (judged text)) shallow tells)
form_deep _ text tells shallow c did deepens = deepens

said_deep : (text : List ℕ) (said : Option Said) → Fitted text said → is_deep (judged text) ≡ false → (is_binary : Bool) (schema : List ℕ) (t : Tables) (s : Session) → s.deep ≡ [] → (says said is_binary schema t s).session.deep ≡ s.deep
said_deep text None fits shallow is_binary schema t s none = refl
said_deep text (Some said) fits shallow is_binary schema t s none =
    let c = scene t s schema in form_deep said.form text (told text said.form fits) shallow c (does said.form said c) (of_deep said.form said c (here c none))

effect_deep : (e : Effect) (text : List ℕ) (b : Option Binding) (is_binary : Bool) (schema : List ℕ) (t : Tables) (s : Session) → (says (said_in text b) is_binary schema t s).session.deep ≡ s.deep → (by_effect e text b is_binary schema t s).session.deep ≡ s.deep
effect_deep (Tracked changes) text b is_binary schema t s said = tracked_deep s changes
effect_deep (Uses chosen) text b is_binary schema t s said = refl
effect_deep Neither text b is_binary schema t s said = said

-- a text that isn't deep leaves nothing deep where nothing is
shallow_stays : (text : List ℕ) → is_deep (judged text) ≡ false → (t : Tables) (s : Session) → s.deep ≡ [] → (b : Option Binding) (is_binary : Bool) (schema : List ℕ) → (on_text text b is_binary schema t s).session.deep ≡ []
shallow_stays text shallow t s none b is_binary schema = effect_deep (effect_of (class_of text)) text b is_binary schema t s (said_deep text (said_in text b) (fitted text b) shallow is_binary schema t s none) ∙ none

-- a session that is taken and has no more than a brief one has nothing deep
none_brief : (deep : List ℕ) → not (nat_eq (slice_index_or deep 0 0) 1) ≡ true → is_brief deep ≡ true → deep ≡ []
none_brief [] fine brief = refl
none_brief (x ∷ xs) fine brief = absurd (both_ways (not (nat_eq x 1)) (ap not brief) fine)

-- SET TRANSACTION has no form, so it is refused.

begins_set : (text : List ℕ) → is_next_transaction (set_shape text) ≡ true → says_first text (statement text) (codes "SET") ≡ true
begins_set text next =
    elim (cases_Bool (says_first text (statement text) (codes "SET"))) [
      | inl is ↦ is
      | inr isnt ↦ absurd (both_ways (is_next_transaction (set_shape text)) (ap is_next_transaction (other_statement text isnt)) next)
    ]

set_deep : (form : Form) (text : List ℕ) → Tells form text → same_text (head_of (pieces_of form)) (codes "SET") ≡ true → is_deep (judged text) ≡ true
set_deep forms.SetVariable text tells is = tells
set_deep forms.SetId text tells is = tells
set_deep _ text tells is = absurd (cc)

said_unset : (text : List ℕ) (said : Option Said) → Fitted text said → is_deep (judged text) ≡ false → says_first (judged text) (statement (judged text)) (codes "SET") ≡ true → (is_binary : Bool) (schema : List ℕ) (t : Tables) (s : Session) → (says said is_binary schema t s).session.deep ≡ s.deep
said_unset text None fits shallow is is_binary schema t s = refl
said_unset text (Some said) fits shallow is is_binary schema t s = absurd (both_ways (is_deep (judged text)) shallow (set_deep said.form text (told text said.form fits) (sym (starts text said.form fits (codes "SET")) ∙ subst (λ one. says_first one (statement one) (codes "SET") ≡ true) (whole text said.form fits) is)))

unset_stays : (text : List ℕ) → is_deep (judged text) ≡ false → is_next_transaction (set_shape (judged text)) ≡ true → (t : Tables) (s : Session) (b : Option Binding) (is_binary : Bool) (schema : List ℕ) → (on_text text b is_binary schema t s).session.deep ≡ s.deep
unset_stays text shallow next t s b is_binary schema = effect_deep (effect_of (class_of text)) text b is_binary schema t s (said_unset text (said_in text b) (fitted text b) shallow (begins_set (judged text) next) is_binary schema t s)

pub ordinary : TextLaw router_reads tests step
unfolding step router_reads class_of
ordinary = record {
  schema = λ stored s ok c text is shallow none. of_run (tables_in stored) s c text is (λ r. r.session.schema ≡ s.schema) (λ b is_binary schema. (same text none b is_binary schema (tables_in stored) s).0);
  settings = λ stored s ok c text is shallow none. of_run (tables_in stored) s c text is (λ r. r.session.settings ≡ s.settings) (λ b is_binary schema. (same text none b is_binary schema (tables_in stored) s).1);
  locks = λ stored s ok c text is shallow free none. of_run (tables_in stored) s c text is (IsUnlocked text) (λ b is_binary schema. effect_locks (effect_of (class_of text)) text b is_binary schema (tables_in stored) s none) free;
  none = λ stored s ok c text is shallow unset lone none. of_run (tables_in stored) s c text is (λ r. r.session.deep ≡ []) (shallow_stays text shallow (tables_in stored) s none);
  brief = λ stored s ok c text is shallow lone brief. of_run (tables_in stored) s c text is (λ r. is_brief r.session.deep ≡ true) (λ b is_binary schema. ap is_brief (shallow_stays text shallow (tables_in stored) s (none_brief s.deep ok.1 brief) b is_binary schema));
  ended = λ stored s ok c text is shallow begun over brief. of_run (tables_in stored) s c text is (λ r. r.session.deep ≡ []) (shallow_stays text shallow (tables_in stored) s (none_brief s.deep ok.1 brief));
  unset = λ stored s ok c text is shallow next err. of_run (tables_in stored) s c text is (λ r. r.session.deep ≡ s.deep) (unset_stays text shallow next (tables_in stored) s);
}
