-- Insert ids.
use Rattle.std.specs.Prelude.{◌≡◌, ◌⊎◌, ℕ, ◌+◌, ◌-◌, ◌^◌, ◌<◌, Bool, true, false, nat_lt, is_some, List, codes, decimal, Option, None, Some, if◌then◌else◌}
use Rattle.std.proofs.Common.{refl, sym, ap, ◌∙◌, subst, inl, inr, arith}
use Rattle.std.proofs.lemmas.Bool.{and_from, both_ways, lt-ltb, ltb-true, or_right}
use Rattle.std.specs.List.{list_any}
use Rattle.session_vars.specs.Slots.{slot_named}
use Rattle.session_vars.specs.declared.slot.Slot.{Slot}
use Rattle.session_state.specs.Classes.{Effect, Tracked, Uses, Neither, effect_of}
use Rattle.session_state.specs.Endings.{brings_id, is_err, is_ok, is_ok_kind}
use Rattle.session_state.specs.declared.reply_end.EndKind.TheVariants.{Ok}
use Rattle.session_state.specs.declared.reply_end.ReplyEnd.{ReplyEnd}
use Rattle.pin_classifier.specs.Classes.{class_of, is_deep}
use Rattle.pin_classifier.specs.Judged.{judged}
use Rattle.server_rule.proofs.Blind.{blind_same}
use Rattle.server_rule.specs.Classes.{router_reads}
use Rattle.server_rule.specs.Laws.{IdLaw}
use Rattle.server_rule.specs.Replies.{one_number, reply_end}
use Rattle.server_rule.specs.Servers.{with_diag, with_id}
use Rattle.server_rule.specs.Texts.{read_id_text, set_id_text}
use Rattle.server_rule.specs.declared.command.Cmd.TheVariants.{Query}
use Rattle.server_rule.specs.declared.session.Session.{Session}
use Rattle.mem_rule.specs.Answers.{payloads_of, status}
use Rattle.mem_rule.specs.Commands.{Ran, by_effect, ran, ran_by, says, scene}
use Rattle.mem_rule.specs.Notes.{text_bytes}
use Rattle.mem_rule.specs.Scenes.{Scene, creates, deep_notes, greatest_id, is_locked, keeps, named_lock, place, seen, takes}
use Rattle.mem_rule.specs.Statements.{Binding, said_in}
use Rattle.mem_rule.specs.Steps.{does, insert, lock_by, on_table_by, row_note, show, shown_by, stays, table_fault, write, write_by}
use Rattle.mem_rule.specs.Stored.{step, stored_after, tables_in, tests}
use Rattle.mem_rule.specs.Tables.{Tables, holds}
use Rattle.mem_rule.specs.declared.answer.Answer.{Answer}
use Rattle.mem_rule.specs.declared.answer.Answer.TheVariants.{Done, Refused}
use Rattle.mem_rule.specs.declared.answer.Fault.{Fault}
use Rattle.mem_rule.specs.declared.answer.Fault.TheVariants as faults
use Rattle.mem_rule.specs.declared.did.Did.{Did}
use Rattle.mem_rule.specs.declared.did.Said.{Said}
use Rattle.mem_rule.specs.declared.form.Form.{Form}
use Rattle.mem_rule.specs.declared.form.Form.TheVariants as forms
use Rattle.mem_rule.specs.declared.note.Note.{Note}
use Rattle.mem_rule.specs.declared.note.NoteKind.TheVariants.{Put}
use Rattle.mem_rule.specs.declared.place.Place.{Place}
use Rattle.mem_rule.specs.declared.place.Place.TheVariants.{Temporary, Absent, Locked, There}
use Rattle.mem_rule.proofs.Capturing.{reading, setting}
use Rattle.mem_rule.proofs.Endings.{err_is_err, ok_kind, ok_shows_id}
use Rattle.mem_rule.proofs.Known.{Tells, told}
use Rattle.mem_rule.proofs.Picking.{pick}
use Rattle.mem_rule.proofs.Resets.{ok_is_ok}
use Rattle.mem_rule.proofs.Running.{of_run, outcome}
use Rattle.mem_rule.proofs.Spelling.{row_again}
use Rattle.mem_rule.proofs.Taking.{Fitted, fitted}
use Rattle.mem_rule.proofs.Tracking.{kept}

-- an insert without an id shows the id that it leaves, and SET SESSION last_insert_id alone changes it beside
abbrev Numbers : Form → Scene → Did → Type 0
Numbers forms.Insert c did = (did.last_id ≡ c.last_id) ⊎ ((id : ℕ) × (id + 1 < 2 ^ 64) × (did.answer ≡ Done 1 (id + 1)))
Numbers forms.SetId c did = Unit {0}
Numbers _ c did = did.last_id ≡ c.last_id

writes_on : (p : Place) (keeps : Bool) (c : Scene) (note : Note) (answer : Answer) → ((write_by p keeps c note answer).last_id ≡ c.last_id) × ((write_by p keeps c note answer).answer ≡ answer)
writes_on Temporary keeps c note answer = (refl, refl)
writes_on Absent keeps c note answer = (refl, refl)
writes_on Locked keeps c note answer = (refl, refl)
writes_on (There at) true c note answer = (refl, refl)
writes_on (There at) false c note answer = (refl, refl)

locks_on : (p : Place) (c : Scene) → (lock_by p c).last_id ≡ c.last_id
locks_on Temporary c = refl
locks_on Absent c = refl
locks_on Locked c = refl
locks_on (There at) c = refl

on_fault : (fault : Option Fault) (c : Scene) (did : Did) → did.last_id ≡ c.last_id → (on_table_by fault c did).last_id ≡ c.last_id
on_fault None c did is = is
on_fault (Some fault) c did is = refl

shows_on : (slot : Option Slot) (c : Scene) (name : List ℕ) → (shown_by slot c name).last_id ≡ c.last_id
shows_on None c name = refl
shows_on (Some slot) c name = refl

inserts_by : (c : Scene) (text : List ℕ) (b : Bool) → nat_lt (greatest_id c) (2 ^ 64 - 1) ≡ b
    → Numbers forms.Insert c (if b then record (write c (row_note Put c.schema (greatest_id c + 1) text) (Done 1 (greatest_id c + 1))) { last_id = greatest_id c + 1 } else stays c (Refused faults.Duplicate))
inserts_by c text true is =
    let below = ltb-true (greatest_id c) (2 ^ 64 - 1) is in
    inr (greatest_id c, omega arith, (writes_on (place c) (keeps c) c (row_note Put c.schema (greatest_id c + 1) text) (Done 1 (greatest_id c + 1))).1)
inserts_by c text false is = inl refl

inserts_on : (fault : Option Fault) (c : Scene) (did : Did) → Numbers forms.Insert c did → Numbers forms.Insert c (on_table_by fault c did)
inserts_on None c did is = is
inserts_on (Some fault) c did is = inl refl

of_number : (form : Form) (d : Said) (c : Scene) → Numbers form c (does form d c)
of_number forms.CreateTable d c = pick (λ did. did.last_id ≡ c.last_id) (is_locked c.tables c.locks c.schema) _ _ refl refl
of_number forms.CreateTemporary d c = pick (λ did. did.last_id ≡ c.last_id) (list_any (creates c.schema) (deep_notes c)) _ _ refl refl
of_number forms.InsertAt d c = on_fault (table_fault (place c)) c _ (pick (λ did. did.last_id ≡ c.last_id) (is_some (seen c d.id)) _ _ refl (writes_on (place c) (keeps c) c _ _).0)
of_number forms.Insert d c = inserts_on (table_fault (place c)) c (insert c d.text) (inserts_by c d.text (nat_lt (greatest_id c) (2 ^ 64 - 1)) refl)
of_number forms.Select d c = on_fault (table_fault (place c)) c _ refl
of_number forms.Count d c = on_fault (table_fault (place c)) c _ refl
of_number forms.Update d c = on_fault (table_fault (place c)) c _ (pick (λ did. did.last_id ≡ c.last_id) (is_some (seen c d.id)) _ _ (writes_on (place c) (keeps c) c _ _).0 refl)
of_number forms.Delete d c = on_fault (table_fault (place c)) c _ (pick (λ did. did.last_id ≡ c.last_id) (is_some (seen c d.id)) _ _ (writes_on (place c) (keeps c) c _ _).0 refl)
of_number forms.Setting d c = shows_on (slot_named d.name) c d.name
of_number forms.SetId d c = tt
of_number forms.Id d c = pick (λ did. did.last_id ≡ c.last_id) (nat_lt c.last_id (2 ^ 64)) _ _ refl refl
of_number forms.Lock d c = pick (λ did. did.last_id ≡ c.last_id) (list_any (takes (named_lock d.name)) (deep_notes c)) _ _ refl (pick (λ did. did.last_id ≡ c.last_id) (holds c.tables.held (named_lock d.name)) _ _ refl refl)
of_number forms.LockTables d c = on_fault (table_fault (place c)) c _ (locks_on (place c) c)
of_number _ d c = refl

ok_brings : (end : ReplyEnd) (id : ℕ) → end.kind ≡ Ok → end.insert_id ≡ id + 1 → brings_id end ≡ true
ok_brings end id kind is = or_right (is_err end) _ (and_from (is_ok end) (nat_lt 0 end.insert_id) (ap is_ok_kind kind) (ap (nat_lt 0) is ∙ lt-ltb 0 (id + 1) (omega arith)))

form_number : (form : Form) (text : List ℕ) → Tells form text → is_deep (judged text) ≡ false → (c : Scene) (did : Did) → Numbers form c did → (is_binary : Bool) (n : ℕ) → brings_id (reply_end false (payloads_of is_binary n did.answer)) ≡ false → did.last_id ≡ c.last_id
form_number forms.Insert text tells shallow c did (inl same) is_binary n none = same
form_number forms.Insert text tells shallow c did (inr (id, small, done)) is_binary n none =
    let brings = ok_brings (reply_end false (payloads_of is_binary n (Done 1 (id + 1)))) id (ok_kind n 1 (id + 1)) (ok_shows_id n 1 (id + 1) (omega arith) small) in
    absurd (both_ways _ none (ap (λ answer. brings_id (reply_end false (payloads_of is_binary n answer))) done ∙ brings))
form_number forms.SetId text tells shallow c did numbers is_binary n none = absurd (both_ways (is_deep (judged text)) shallow tells)
form_number _ text tells shallow c did numbers is_binary n none = numbers

abbrev KeepsId : Session → Ran → Type 0
KeepsId s r = brings_id (reply_end false r.reply) ≡ false → r.session.last_id ≡ s.last_id

said_number : (text : List ℕ) (said : Option Said) → Fitted text said → is_deep (judged text) ≡ false → (is_binary : Bool) (schema : List ℕ) (t : Tables) (s : Session) → KeepsId s (says said is_binary schema t s)
said_number text None fits shallow is_binary schema t s none = refl
said_number text (Some said) fits shallow is_binary schema t s none =
    let c = scene t s schema in
    let did = does said.form said c in
    form_number said.form text (told text said.form fits) shallow c did (of_number said.form said c) is_binary (status did.tx s.settings) none

effect_number : (e : Effect) (text : List ℕ) → is_deep (judged text) ≡ false → (b : Option Binding) (is_binary : Bool) (schema : List ℕ) (t : Tables) (s : Session) → KeepsId s (by_effect e text b is_binary schema t s)
effect_number (Tracked changes) text shallow b is_binary schema t s none = (kept s changes).last_id
effect_number (Uses chosen) text shallow b is_binary schema t s none = refl
effect_number Neither text shallow b is_binary schema t s none = said_number text (said_in text b) (fitted text b) shallow is_binary schema t s none

-- The two texts.

set_is_ok : (t : Tables) (s : Session) (n : ℕ) → n < 2 ^ 64 → is_ok (reply_end false (ran t s (Query (set_id_text n))).reply) ≡ true
set_is_ok t s n small = ap (λ (r : Ran). is_ok (reply_end false r.reply)) (setting t s n small) ∙ ok_is_ok _

-- what holds of a row with the id, and of a refusal
of_read : (t : Tables) (s : Session) (P : Ran → Type 0) → P (ran_by false forms.Id s (show (scene t s s.schema) (codes "LAST_INSERT_ID()") (Some (text_bytes (decimal s.last_id))))) → P (ran_by false forms.Id s (stays (scene t s s.schema) (Refused faults.Syntax))) → P (ran t s (Query read_id_text))
of_read t s P shown refused = subst P (sym (reading t s)) (pick (λ did. P (ran_by false forms.Id s did)) (nat_lt s.last_id (2 ^ 64)) _ _ shown refused)

abbrev GivesId : Session → Ran → Type 0
GivesId s r = (is_err (reply_end false r.reply) ≡ true) ⊎ (one_number r.reply ≡ Some s.last_id)

gives_id : (t : Tables) (s : Session) (b : Bool) → nat_lt s.last_id (2 ^ 64) ≡ b → GivesId s (ran_by false forms.Id s (if b then show (scene t s s.schema) (codes "LAST_INSERT_ID()") (Some (text_bytes (decimal s.last_id))) else stays (scene t s s.schema) (Refused faults.Syntax)))
unfolding one_number
gives_id t s true is = inr (row_again s.last_id (ltb-true s.last_id (2 ^ 64) is))
gives_id t s false is = inl (err_is_err faults.Syntax)

pub numbering : IdLaw router_reads tests step
unfolding step router_reads class_of
numbering = record {
  kept = λ stored s ok c text is marks shallow shown none. of_run (tables_in stored) s c text is (KeepsId s) (λ b is_binary schema. effect_number (effect_of (class_of text)) text shallow b is_binary schema (tables_in stored) s) none;
  set_stored = λ stored s ok n small. ap (λ (r : Ran). stored_after stored r.writes) (setting (tables_in stored) s n small);
  set_done = λ stored s ok n small is. subst (λ (r : Ran). r.session ≡ with_diag r.session.diag (with_id n s)) (sym (setting (tables_in stored) s n small)) refl;
  set_refused = λ stored s ok n small isnt. absurd (both_ways _ isnt (set_is_ok (tables_in stored) s n small));
  set_reply = λ stored s ok n k small. ap (λ (r : Ran). r.reply) (setting (tables_in stored) (with_id k s) n small ∙ sym (setting (tables_in stored) s n small));
  set_diag = λ stored s ok n k small. ap (λ (r : Ran). r.session.diag) (setting (tables_in stored) (with_id k s) n small ∙ sym (setting (tables_in stored) s n small));
  set_blind = λ stored s ok n small diag there. blind_same tests _ _ diag s.diag _ _ (ap (outcome stored) (setting (tables_in stored) (with_diag diag s) n small ∙ sym (setting (tables_in stored) s n small)));
  read_stored = λ stored s ok. of_read (tables_in stored) s (λ (r : Ran). stored_after stored r.writes ≡ stored) refl refl;
  read_session = λ stored s ok. of_read (tables_in stored) s (λ (r : Ran). r.session ≡ with_diag r.session.diag s) refl refl;
  read_row = λ stored s ok. subst (GivesId s) (sym (reading (tables_in stored) s)) (gives_id (tables_in stored) s (nat_lt s.last_id (2 ^ 64)) refl);
  read_blind = λ stored s ok diag there. blind_same tests _ _ diag s.diag _ _ (ap (outcome stored) (reading (tables_in stored) (with_diag diag s) ∙ sym (reading (tables_in stored) s)));
}
