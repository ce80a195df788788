-- The status flags of replies show the transaction.
use Rattle.std.specs.Prelude.{◌≡◌, ◌⊎◌, ℕ, ◌+◌, ◌-◌, ◌*◌, ◌^◌, ◌<◌, Bool, true, false, nat_lt, is_some, List, [], ◌∷◌, ◌++◌, length, map, Option, None, Some, if◌then◌else◌}
use Rattle.std.proofs.Common.{refl, sym, ap, ◌∙◌, inl, inr, arith, lit<, length-append, append_assoc}
use Rattle.std.proofs.lemmas.Bool.{ltb-true}
use Rattle.std.specs.List.{list_any}
use Rattle.std.specs.Option.{option_map}
use Rattle.mx_base.specs.Decimal.{decimal_value, in_64_bits, is_decimal, number}
use Rattle.mx_base.specs.FieldLaws.{lenenc_at-again, number_at-there}
use Rattle.mx_base.specs.Fields.{lenenc, lenenc_at, number_at}
use Rattle.mx_base.specs.Steps.{◌>>=◌}
use Rattle.session_vars.specs.Slots.{slot_named}
use Rattle.session_vars.specs.declared.slot.Slot.{Slot}
use Rattle.session_state.specs.Classes.{Effect, Tracked, Uses, Neither, effect_of}
use Rattle.session_state.specs.Endings.{in_transaction, shows_transaction}
use Rattle.pin_classifier.specs.Classes.{class_of}
use Rattle.server_rule.specs.Classes.{is_close, is_prepare}
use Rattle.server_rule.specs.Laws.{FlagsLaw}
use Rattle.server_rule.specs.Replies.{end_by, last_payload, reply_end}
use Rattle.server_rule.specs.Servers.{is_some_of}
use Rattle.server_rule.specs.declared.command.Cmd.{Cmd}
use Rattle.server_rule.specs.declared.command.Cmd.TheVariants.{Query, InitDb, FieldList, Prepare, Run, Reset, Close}
use Rattle.server_rule.specs.declared.session.Session.{Session}
use Rattle.mem_rule.specs.Answers.{column_payload, eof_payload, err_payload, is_off_in, ok_payload, payloads_of, row_payloads, status, table_payloads}
use Rattle.mem_rule.specs.Commands.{by_effect, fields_by, ran, says, scene, with_settings}
use Rattle.mem_rule.specs.Forms.{form_of}
use Rattle.mem_rule.specs.Notes.{notes_of}
use Rattle.mem_rule.specs.Scenes.{Scene, creates, deep_notes, greatest_id, is_locked, keeps, named_lock, place, place_in, seen, takes}
use Rattle.mem_rule.specs.Statements.{Binding, asked, bound, filled_from, id_at, id_place, said_by, said_in, said_with}
use Rattle.mem_rule.specs.Steps.{does, lock_by, on_table_by, row_note, rows_do, shown_by, stays, table_fault, write, write_by}
use Rattle.mem_rule.specs.Stored.{step, tables_in, tests}
use Rattle.mem_rule.specs.Tables.{Tables, holds}
use Rattle.mem_rule.specs.declared.answer.Answer.{Answer}
use Rattle.mem_rule.specs.declared.answer.Answer.TheVariants.{Done, Shown, Refused}
use Rattle.mem_rule.specs.declared.answer.Fault.{Fault}
use Rattle.mem_rule.specs.declared.answer.Fault.TheVariants as faults
use Rattle.mem_rule.specs.declared.did.Did.{Did}
use Rattle.mem_rule.specs.declared.did.Said.{Said}
use Rattle.mem_rule.specs.declared.form.Form.{Form}
use Rattle.mem_rule.specs.declared.form.Form.TheVariants as forms
use Rattle.mem_rule.specs.declared.note.Note.{Note}
use Rattle.mem_rule.specs.declared.note.NoteKind.TheVariants.{Put}
use Rattle.mem_rule.specs.declared.place.Place.{Place}
use Rattle.mem_rule.specs.declared.place.Place.TheVariants.{Temporary, Absent, Locked, There}
use Rattle.mem_rule.proofs.Picking.{pick}

-- a reply shows this, or nothing
abbrev IsShown : (in_trans : Bool) → List (List ℕ) → Type 0
IsShown in_trans reply = (shows_transaction (reply_end false reply) ≡ None) ⊎ (shows_transaction (reply_end false reply) ≡ Some in_trans)

-- Numbers in an OK fit 64 bits.

abbrev IsSmall : Answer → Type 0
IsSmall (Done rows id) = (rows < 2 ^ 64) × (id < 2 ^ 64)
IsSmall (Shown columns row) = Unit {0}
IsSmall (Refused fault) = Unit {0}

by_write : (p : Place) (keeps : Bool) (c : Scene) (note : Note) (answer : Answer) → IsSmall answer → IsSmall (write_by p keeps c note answer).answer
by_write Temporary keeps c note answer small = small
by_write Absent keeps c note answer small = small
by_write Locked keeps c note answer small = small
by_write (There at) true c note answer small = small
by_write (There at) false c note answer small = small

by_fault : (fault : Option Fault) (c : Scene) (did : Did) → IsSmall did.answer → IsSmall (on_table_by fault c did).answer
by_fault None c did small = small
by_fault (Some fault) c did small = tt

by_lock : (p : Place) (c : Scene) → IsSmall (lock_by p c).answer
by_lock Temporary c = (lit< tt, lit< tt)
by_lock Absent c = (lit< tt, lit< tt)
by_lock Locked c = (lit< tt, lit< tt)
by_lock (There at) c = (lit< tt, lit< tt)

by_slot : (slot : Option Slot) (c : Scene) (name : List ℕ) → IsSmall (shown_by slot c name).answer
by_slot None c name = tt
by_slot (Some slot) c name = tt

by_insert : (c : Scene) (text : List ℕ) (b : Bool) → nat_lt (greatest_id c) (2 ^ 64 - 1) ≡ b
    → IsSmall (if b then record (write c (row_note Put c.schema (greatest_id c + 1) text) (Done 1 (greatest_id c + 1))) { last_id = greatest_id c + 1 } else stays c (Refused faults.Duplicate)).answer
by_insert c text true is =
    by_write (place c) (keeps c) c (row_note Put c.schema (greatest_id c + 1) text) (Done 1 (greatest_id c + 1)) (lit< tt, let below = ltb-true (greatest_id c) (2 ^ 64 - 1) is in omega arith)
by_insert c text false is = tt

of_rows : (form : Form) (d : Said) (c : Scene) → d.id < 2 ^ 64 → IsSmall (rows_do form d c).answer
of_rows forms.InsertAt d c small = pick (λ did. IsSmall did.answer) (is_some (seen c d.id)) _ _ tt (by_write (place c) (keeps c) c _ (Done 1 d.id) (lit< tt, small))
of_rows forms.Insert d c small = by_insert c d.text (nat_lt (greatest_id c) (2 ^ 64 - 1)) refl
of_rows forms.Select d c small = tt
of_rows forms.Count d c small = tt
of_rows forms.Update d c small = pick (λ did. IsSmall did.answer) (is_some (seen c d.id)) _ _ (by_write (place c) (keeps c) c _ (Done 1 0) (lit< tt, lit< tt)) (lit< tt, lit< tt)
of_rows forms.Delete d c small = pick (λ did. IsSmall did.answer) (is_some (seen c d.id)) _ _ (by_write (place c) (keeps c) c _ (Done 1 0) (lit< tt, lit< tt)) (lit< tt, lit< tt)
of_rows _ d c small = by_lock (place c) c

of_form : (form : Form) (d : Said) (c : Scene) → d.id < 2 ^ 64 → IsSmall (does form d c).answer
of_form forms.CreateTable d c small = pick (λ did. IsSmall did.answer) (is_locked c.tables c.locks c.schema) _ _ tt (lit< tt, lit< tt)
of_form forms.CreateTemporary d c small = pick (λ did. IsSmall did.answer) (list_any (creates c.schema) (deep_notes c)) _ _ (lit< tt, lit< tt) (lit< tt, lit< tt)
of_form forms.InsertAt d c small = by_fault (table_fault (place c)) c _ (of_rows forms.InsertAt d c small)
of_form forms.Insert d c small = by_fault (table_fault (place c)) c _ (of_rows forms.Insert d c small)
of_form forms.Select d c small = by_fault (table_fault (place c)) c _ (of_rows forms.Select d c small)
of_form forms.Count d c small = by_fault (table_fault (place c)) c _ (of_rows forms.Count d c small)
of_form forms.Update d c small = by_fault (table_fault (place c)) c _ (of_rows forms.Update d c small)
of_form forms.Delete d c small = by_fault (table_fault (place c)) c _ (of_rows forms.Delete d c small)
of_form forms.Setting d c small = by_slot (slot_named d.name) c d.name
of_form forms.Variable d c small = tt
of_form forms.Id d c small = pick (λ did. IsSmall did.answer) (nat_lt c.last_id (2 ^ 64)) _ _ tt tt
of_form forms.Lock d c small = pick (λ did. IsSmall did.answer) (list_any (takes (named_lock d.name)) (deep_notes c)) _ _ tt (pick (λ did. IsSmall did.answer) (holds c.tables.held (named_lock d.name)) _ _ tt tt)
of_form forms.LockTables d c small = by_fault (table_fault (place c)) c _ (of_rows forms.LockTables d c small)
of_form forms.Warnings d c small = tt
of_form _ d c small = (lit< tt, lit< tt)

-- so does the number in a statement
abbrev AllSmall : Option Said → Type 0
AllSmall None = Unit {0}
AllSmall (Some said) = said.id < 2 ^ 64

abbrev IdSmall : Option ℕ → Type 0
IdSmall None = Unit {0}
IdSmall (Some id) = id < 2 ^ 64

small_bits : (n : ℕ) (b : Bool) → nat_lt n (2 ^ 64) ≡ b → IdSmall (if b then Some n else None)
small_bits n true is = ltb-true n (2 ^ 64) is
small_bits n false is = tt

small_if : (b : Bool) (id : Option ℕ) → IdSmall id → IdSmall (if b then id else None)
small_if true id small = small
small_if false id small = tt

small_number : (text : List ℕ) → IdSmall (number text)
unfolding number
small_number text = small_if (is_decimal text) (in_64_bits (decimal_value text)) (small_bits (decimal_value text) (nat_lt (decimal_value text) (2 ^ 64)) refl)

small_id : (values : List (List ℕ)) (at : Option ℕ) → IdSmall (id_at values at)
small_id values None = lit< tt
small_id values (Some at) = small_number _

small_said : (id : Option ℕ) (f : ℕ → Said) → ((n : ℕ) → (f n).id ≡ n) → IdSmall id → AllSmall (option_map f id)
small_said None f same small = tt
small_said (Some id) f same small = rw (same id) small

small_by : (form : Form) (values : List (List ℕ)) → AllSmall (said_by form values)
small_by form values = small_said (id_at values (id_place form)) _ (λ n. refl) (small_id values (id_place form))

small_filled : (form : Form) (all : Option (List (List ℕ))) → AllSmall (all >>= (λ values. said_by form values))
small_filled form None = tt
small_filled form (Some values) = small_by form values

small_bound : (form : Form) (values : List (Option (List ℕ))) (bound : Option (List (List ℕ))) → AllSmall (bound >>= (λ given. filled_from values given [] >>= (λ all. said_by form all)))
small_bound form values None = tt
small_bound form values (Some given) = small_filled form (filled_from values given [])

small_with : (binding : Option Binding) (form : Option (Form × List (Option (List ℕ)))) → AllSmall (form >>= said_with binding)
small_with binding None = tt
small_with binding (Some (form, values)) = small_bound form values (bound binding (asked values))

small_in : (text : List ℕ) (binding : Option Binding) → AllSmall (said_in text binding)
small_in text binding = small_with binding (form_of text)

-- The flags of each answer.

abbrev flags : (in_trans off : Bool) → ℕ
flags in_trans off = (if in_trans then 1 else 0) + (if off then 0 else 2)

flags_show : (in_trans off : Bool) → in_transaction (Some (flags in_trans off + 256 * (0 + 256 * 0))) ≡ Some in_trans
flags_show true true = refl
flags_show true false = refl
flags_show false true = refl
flags_show false false = refl

eof_shows : (in_trans off : Bool) → shows_transaction (end_by (eof_payload (flags in_trans off))) ≡ Some in_trans
eof_shows true true = refl
eof_shows true false = refl
eof_shows false true = refl
eof_shows false false = refl

last_of : (xs : List (List ℕ)) (y : List ℕ) (ys : List (List ℕ)) → last_payload (xs ++ y ∷ ys) ≡ last_payload (y ∷ ys)
last_of [] y ys = refl
last_of (x ∷ []) y ys = refl
last_of (x ∷ next ∷ xs) y ys = last_of (next ∷ xs) y ys

behind_row : (is_binary : Bool) (row : Option (List ℕ)) (eof : List ℕ) → last_payload (eof ∷ (row_payloads is_binary row ++ (eof ∷ []))) ≡ eof
behind_row is_binary None eof = refl
behind_row is_binary (Some row) eof = refl

table_shows : (is_binary in_trans off : Bool) (columns : List (List ℕ)) (row : Option (List ℕ)) → IsShown in_trans (table_payloads is_binary (flags in_trans off) columns row)
unfolding reply_end
table_shows is_binary in_trans off columns row =
    let eof = eof_payload (flags in_trans off) in
    let last = last_of (lenenc (length columns) ∷ map column_payload columns) eof (row_payloads is_binary row ++ (eof ∷ [])) ∙ behind_row is_binary row eof in
    inr (ap (λ payload. shows_transaction (end_by payload)) last ∙ eof_shows in_trans off)

ok_shows : (in_trans off : Bool) (rows id : ℕ) → rows < 2 ^ 64 → id < 2 ^ 64 → IsShown in_trans (ok_payload (flags in_trans off) rows id ∷ [])
unfolding reply_end
ok_shows in_trans off rows id few small =
    let status = flags in_trans off in
    let payload = ok_payload status rows id in
    let first : lenenc_at 1 payload ≡ _ = lenenc_at-again rows (0 ∷ []) (lenenc id ++ (status ∷ 0 ∷ 0 ∷ 0 ∷ [])) few in
    let second : lenenc_at (length (0 ∷ lenenc rows)) payload ≡ _ = lenenc_at-again id (0 ∷ lenenc rows) (status ∷ 0 ∷ 0 ∷ 0 ∷ []) small in
    let bytes : payload ≡ (0 ∷ (lenenc rows ++ lenenc id)) ++ ((status ∷ 0 ∷ []) ++ (0 ∷ 0 ∷ [])) = ap (λ xs. 0 ∷ xs) (sym (append_assoc (lenenc rows) (lenenc id) (status ∷ 0 ∷ 0 ∷ 0 ∷ []))) in
    let place : length (0 ∷ lenenc rows) + length (lenenc id) ≡ length (0 ∷ (lenenc rows ++ lenenc id)) = omega (arith, length-append (lenenc rows) (lenenc id)) in
    let there : number_at 2 (length (0 ∷ lenenc rows) + length (lenenc id)) payload ≡ Some (status + 256 * (0 + 256 * 0)) =
    ap (λ at. number_at 2 at payload) place ∙ (ap (λ xs. number_at 2 (length (0 ∷ (lenenc rows ++ lenenc id))) xs) bytes ∙ number_at-there 2 (0 ∷ (lenenc rows ++ lenenc id)) (status ∷ 0 ∷ []) (0 ∷ 0 ∷ []) refl) in
    let one : 1 + length (lenenc rows) ≡ length (0 ∷ lenenc rows) = omega arith in
    inr (rw (first, one, second, there) (flags_show in_trans off))

fault_shows : (in_trans : Bool) (fault : Fault) → IsShown in_trans (err_payload fault ∷ [])
unfolding reply_end
fault_shows in_trans faults.NoTable = inl refl
fault_shows in_trans faults.Duplicate = inl refl
fault_shows in_trans faults.Locked = inl refl
fault_shows in_trans faults.Syntax = inl refl

answer_shows : (is_binary in_trans off : Bool) (answer : Answer) → IsSmall answer → IsShown in_trans (payloads_of is_binary (flags in_trans off) answer)
answer_shows is_binary in_trans off (Done rows id) small = ok_shows in_trans off rows id small.0 small.1
answer_shows is_binary in_trans off (Shown columns row) small = table_shows is_binary in_trans off columns row
answer_shows is_binary in_trans off (Refused fault) small = fault_shows in_trans fault

-- Commands.

plain_shows : (s : Session) → IsShown (is_some_of s.tx) (ok_payload (status s.tx s.settings) 0 0 ∷ [])
plain_shows s = ok_shows (is_some_of s.tx) (is_off_in s.settings) 0 0 (lit< tt) (lit< tt)

by_said : (said : Option Said) → AllSmall said → (is_binary : Bool) (schema : List ℕ) (t : Tables) (s : Session) → IsShown (is_some_of (says said is_binary schema t s).session.tx) (says said is_binary schema t s).reply
by_said None small is_binary schema t s = fault_shows _ faults.Syntax
by_said (Some said) small is_binary schema t s =
    let did = does said.form said (scene t s schema) in
    answer_shows is_binary (is_some_of did.tx) (is_off_in s.settings) did.answer (of_form said.form said (scene t s schema) small)

by_settings : (on : Bool) (s : Session) → IsShown (is_some_of (with_settings on s).session.tx) (with_settings on s).reply
by_settings true s = plain_shows (record s { tx = [] })
by_settings false s = plain_shows s

of_effect : (e : Effect) (text : List ℕ) (b : Option Binding) (is_binary : Bool) (schema : List ℕ) (t : Tables) (s : Session) → IsShown (is_some_of (by_effect e text b is_binary schema t s).session.tx) (by_effect e text b is_binary schema t s).reply
of_effect (Tracked changes) text b is_binary schema t s = by_settings _ _
of_effect (Uses chosen) text b is_binary schema t s = plain_shows (record s { schema = chosen })
of_effect Neither text b is_binary schema t s = by_said (said_in text b) (small_in text b) is_binary schema t s

of_fields : (fault : Option Fault) (s : Session) → IsShown (is_some_of (fields_by fault s).session.tx) (fields_by fault s).reply
unfolding reply_end
of_fields None s = inr (eof_shows (is_some_of s.tx) (is_off_in s.settings))
of_fields (Some fault) s = fault_shows _ fault

of_command : (t : Tables) (s : Session) (c : Cmd) → is_prepare c ≡ false → is_close c ≡ false → IsShown (is_some_of (ran t s c).session.tx) (ran t s c).reply
unfolding ran
of_command t s (Query text) asks stays = of_effect (effect_of (class_of text)) text None false s.schema t s
of_command t s (InitDb schema) asks stays = plain_shows (record s { schema = schema })
of_command t s (FieldList rest) asks stays = of_fields (table_fault (place_in t s.locks (notes_of s.deep) s.schema)) s
of_command t s (Prepare text) asks stays = absurd (cc)
of_command t s (Run text schema settings types nulls values long) asks stays = of_effect (effect_of (class_of text)) text _ true schema t s
of_command t s Reset asks stays = ok_shows false false 0 0 (lit< tt) (lit< tt)
of_command t s Close asks stays = absurd (cc)

told : (in_trans shown : Bool) (reply : List (List ℕ)) → IsShown in_trans reply → shows_transaction (reply_end false reply) ≡ Some shown → in_trans ≡ shown
told in_trans shown reply (inl none) is = absurd (cc)
told in_trans shown reply (inr some) is = cc

pub flags_law : FlagsLaw tests step
unfolding step
flags_law = record { in_trans = λ stored s ok c asks stays shown is. told _ shown _ (of_command (tables_in stored) s c asks stays) is }
