-- Preparations.
use Rattle.std.specs.Prelude.{◌≡◌, ℕ, true, List, [], Option, None, Some}
use Rattle.std.proofs.Common.{refl}
use Rattle.session_state.specs.Classes.{Effect, Tracked, Uses, Neither, effect_of}
use Rattle.pin_classifier.specs.Classes.{class_of}
use Rattle.server_rule.specs.Laws.{PrepareLaw}
use Rattle.server_rule.specs.Replies.{reply_end}
use Rattle.server_rule.specs.Servers.{with_diag}
use Rattle.server_rule.specs.declared.session.Session.{Session}
use Rattle.mem_rule.specs.Commands.{Ran, fields_by, prepares_by, prepares_form, ran}
use Rattle.mem_rule.specs.Forms.{form_of}
use Rattle.mem_rule.specs.Notes.{notes_of}
use Rattle.mem_rule.specs.Scenes.{place_in}
use Rattle.mem_rule.specs.Steps.{table_fault}
use Rattle.mem_rule.specs.Stored.{step, stored_after, tables_in, tests}
use Rattle.mem_rule.specs.declared.answer.Fault.{Fault}
use Rattle.mem_rule.specs.declared.form.Form.{Form}
use Rattle.mem_rule.specs.declared.note.Note.{Note}

-- nothing is written, and but for the diagnostics the session stays
record IsQuiet (s : Session) (r : Ran) : Type 0 where
  writes : r.writes ≡ []
  session : r.session ≡ with_diag r.session.diag s

by_form : (text : List ℕ) (form : Option (Form × List (Option (List ℕ)))) (s : Session) → IsQuiet s (prepares_form text form s)
by_form text None s = record { writes = refl; session = refl }
by_form text (Some form) s = record { writes = refl; session = refl }

of_effect : (e : Effect) (text : List ℕ) (s : Session) → IsQuiet s (prepares_by e text s)
of_effect (Tracked changes) text s = record { writes = refl; session = refl }
of_effect (Uses chosen) text s = record { writes = refl; session = refl }
of_effect Neither text s = by_form text (form_of text) s

of_fields : (fault : Option Fault) (s : Session) → IsQuiet s (fields_by fault s)
of_fields None s = record { writes = refl; session = refl }
of_fields (Some fault) s = record { writes = refl; session = refl }

same_stored : (stored : List ℕ) (writes : List Note) → writes ≡ [] → stored_after stored writes ≡ stored
same_stored stored writes none = rw none refl

form_params : (text : List ℕ) (form : Option (Form × List (Option (List ℕ)))) (s s' : Session) → (reply_end true (prepares_form text form s).reply).params ≡ (reply_end true (prepares_form text form s').reply).params
unfolding reply_end
form_params text None s s' = refl
form_params text (Some form) s s' = refl

params : (e : Effect) (text : List ℕ) (s s' : Session) → (reply_end true (prepares_by e text s).reply).params ≡ (reply_end true (prepares_by e text s').reply).params
unfolding reply_end
params (Tracked changes) text s s' = refl
params (Uses chosen) text s s' = refl
params Neither text s s' = form_params text (form_of text) s s'

pub preparing : PrepareLaw tests step
unfolding step ran
preparing = record {
  stored = λ stored s ok text. same_stored stored _ (of_effect (effect_of (class_of text)) text s).writes;
  session = λ stored s ok text. (of_effect (effect_of (class_of text)) text s).session;
  fields_stored = λ stored s ok rest. same_stored stored _ (of_fields (table_fault (place_in (tables_in stored) s.locks (notes_of s.deep) s.schema)) s).writes;
  fields_session = λ stored s ok rest. (of_fields (table_fault (place_in (tables_in stored) s.locks (notes_of s.deep) s.schema)) s).session;
  params = λ stored stored' s s' ok ok' text fine fine'. params (effect_of (class_of text)) text s s';
  run = λ stored s ok text schema there here types nulls values long same. refl;
}
