-- The account of a session stays.
use Rattle.std.specs.Prelude.{◌≡◌, ℕ, Bool, true, false, List, Option, Some, None}
use Rattle.std.proofs.Common.{refl}
use Rattle.session_state.specs.Classes.{Effect, Tracked, Uses, Neither, effect_of}
use Rattle.pin_classifier.specs.Classes.{class_of}
use Rattle.server_rule.specs.Laws.{AccountLaw}
use Rattle.server_rule.specs.declared.command.Cmd.{Cmd}
use Rattle.server_rule.specs.declared.command.Cmd.TheVariants.{Query, InitDb, FieldList, Prepare, Run, Reset, Close}
use Rattle.server_rule.specs.declared.session.Session.{Session}
use Rattle.mem_rule.specs.Commands.{by_effect, fields_by, prepares_by, prepares_form, ran, says, with_settings}
use Rattle.mem_rule.specs.Forms.{form_of}
use Rattle.mem_rule.specs.Notes.{notes_of}
use Rattle.mem_rule.specs.Scenes.{place_in}
use Rattle.mem_rule.specs.Statements.{Binding, said_in}
use Rattle.mem_rule.specs.Steps.{table_fault}
use Rattle.mem_rule.specs.Stored.{step, tables_in, tests}
use Rattle.mem_rule.specs.Tables.{Tables}
use Rattle.mem_rule.specs.declared.answer.Fault.{Fault}
use Rattle.mem_rule.specs.declared.did.Said.{Said}
use Rattle.mem_rule.specs.declared.form.Form.{Form}

-- two sessions are of one account
abbrev pub IsSame : Session → Session → Type 0
IsSame new old = (new.user ≡ old.user) × (new.capabilities ≡ old.capabilities)

by_settings : (on : Bool) (s : Session) → IsSame (with_settings on s).session s
by_settings true s = (refl, refl)
by_settings false s = (refl, refl)

by_said : (said : Option Said) (is_binary : Bool) (schema : List ℕ) (t : Tables) (s : Session) → IsSame (says said is_binary schema t s).session s
by_said None is_binary schema t s = (refl, refl)
by_said (Some said) is_binary schema t s = (refl, refl)

of_effect : (e : Effect) (text : List ℕ) (b : Option Binding) (is_binary : Bool) (schema : List ℕ) (t : Tables) (s : Session) → IsSame (by_effect e text b is_binary schema t s).session s
of_effect (Tracked changes) text b is_binary schema t s = let both = by_settings _ _ in both
of_effect (Uses chosen) text b is_binary schema t s = (refl, refl)
of_effect Neither text b is_binary schema t s = by_said (said_in text b) is_binary schema t s

by_form : (text : List ℕ) (form : Option (Form × List (Option (List ℕ)))) (s : Session) → IsSame (prepares_form text form s).session s
by_form text None s = (refl, refl)
by_form text (Some form) s = (refl, refl)

of_preparation : (e : Effect) (text : List ℕ) (s : Session) → IsSame (prepares_by e text s).session s
of_preparation (Tracked changes) text s = (refl, refl)
of_preparation (Uses chosen) text s = (refl, refl)
of_preparation Neither text s = by_form text (form_of text) s

of_fields : (fault : Option Fault) (s : Session) → IsSame (fields_by fault s).session s
of_fields None s = (refl, refl)
of_fields (Some fault) s = (refl, refl)

of_command : (t : Tables) (s : Session) (c : Cmd) → IsSame (ran t s c).session s
unfolding ran
of_command t s (Query text) = of_effect (effect_of (class_of text)) text None false s.schema t s
of_command t s (InitDb schema) = (refl, refl)
of_command t s (FieldList rest) = of_fields (table_fault (place_in t s.locks (notes_of s.deep) s.schema)) s
of_command t s (Prepare text) = of_preparation (effect_of (class_of text)) text s
of_command t s (Run text schema settings types nulls values long) = of_effect (effect_of (class_of text)) text _ true schema t s
of_command t s Reset = (refl, refl)
of_command t s Close = (refl, refl)

pub account : AccountLaw tests step
unfolding step
account = record { user = λ stored s ok c. (of_command (tables_in stored) s c).0; capabilities = λ stored s ok c. (of_command (tables_in stored) s c).1 }
