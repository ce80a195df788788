-- What each form tells of the class of its text, where it does something that only texts of such a class may do.
use Rattle.std.specs.Prelude.{◌≡◌, ℕ, true, List}
use Rattle.std.proofs.Common.{subst, sym}
use Rattle.pin_classifier.specs.Classes.{first, is_deep, locking_of, marks_id, reads_diagnostics, second}
use Rattle.pin_classifier.specs.Judged.{judged}
use Rattle.pin_classifier.specs.declared.class.Locking.TheVariants.{Takes as Locks}
use Rattle.mem_rule.specs.declared.form.Form.{Form}
use Rattle.mem_rule.specs.declared.form.Form.TheVariants as forms
use Rattle.mem_rule.proofs.Taking.{HasForm}
use Rattle.mem_rule.proofs.Telling.{creates_temporary, inserts, locks, locks_by_name, reads_it, sets_variable, warns}
use Rattle.mem_rule.proofs.Unscoped.{sets_id}
use Rattle.mem_rule.proofs.Whole.{whole}

abbrev Says : Form → List ℕ → Type 0
Says forms.CreateTemporary text = is_deep text ≡ true
Says forms.SetVariable text = is_deep text ≡ true
Says forms.SetId text = is_deep text ≡ true
Says forms.Lock text = is_deep text ≡ true
Says forms.LockTables text = locking_of (first text) (second text) ≡ Locks
Says forms.Insert text = marks_id text ≡ true
Says forms.Id text = marks_id text ≡ true
Says forms.Warnings text = reads_diagnostics text ≡ true
Says _ text = Unit {0}

said : (text : List ℕ) (form : Form) → HasForm text form → Says form text
said text forms.CreateTemporary has = creates_temporary text has
said text forms.SetVariable has = sets_variable text has
said text forms.SetId has = sets_id text has
said text forms.Lock has = locks_by_name text has
said text forms.LockTables has = locks text has
said text forms.Insert has = inserts text has
said text forms.Id has = reads_it text has
said text forms.Warnings has = warns text has
said text _ has = tt

abbrev pub Tells : Form → List ℕ → Type 0
Tells form text = Says form (judged text)

pub told : (text : List ℕ) (form : Form) → HasForm text form → Tells form text
told text form has = subst (Says form) (sym (whole text form has)) (said text form has)
