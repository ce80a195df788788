-- Schemas.
use Rattle.std.specs.Prelude.{◌≡◌, ℕ, Bool, true, false, List, [], Option, None}
use Rattle.std.proofs.Common.{refl, sym, ap}
use Rattle.session_state.specs.Classes.{Effect, Uses, effect_of, schema_by}
use Rattle.session_state.specs.Endings.{is_ok}
use Rattle.pin_classifier.specs.Classes.{class_of}
use Rattle.server_rule.specs.Classes.{effect_run, router_reads}
use Rattle.server_rule.specs.Laws.{SchemaLaw}
use Rattle.server_rule.specs.Replies.{reply_end}
use Rattle.server_rule.specs.declared.command.Cmd.{Cmd}
use Rattle.server_rule.specs.declared.command.Cmd.TheVariants.{Query, InitDb, FieldList, Prepare, Run, Reset, Close}
use Rattle.server_rule.specs.declared.session.Session.{Session}
use Rattle.mem_rule.specs.Commands.{by_effect, chooses, ran, status_of}
use Rattle.mem_rule.specs.Statements.{Binding}
use Rattle.mem_rule.specs.Stored.{step, tables_in, tests}
use Rattle.mem_rule.specs.Tables.{Tables}
use Rattle.mem_rule.proofs.Resets.{ok_is_ok}

of_effect : (e : Effect) (schema : List ℕ) → e ≡ Uses schema → (text : List ℕ) (b : Option Binding) (is_binary : Bool) (place : List ℕ) (t : Tables) (s : Session) → by_effect e text b is_binary place t s ≡ chooses schema s
of_effect e schema is text b is_binary place t s = rw is refl

-- such a command chooses the schema
pub choosing : (t : Tables) (s : Session) (c : Cmd) (schema : List ℕ) → effect_run router_reads c ≡ Uses schema → ran t s c ≡ chooses schema s
unfolding ran router_reads
choosing t s (Query text) schema is = of_effect (effect_of (class_of text)) schema is text None false s.schema t s
choosing t s (InitDb chosen) schema is = let same : chosen ≡ schema = cc in ap (λ x. chooses x s) same
choosing t s (FieldList rest) schema is = absurd (cc)
choosing t s (Prepare text) schema is = absurd (cc)
choosing t s (Run text place settings types nulls values long) schema is = of_effect (effect_of (class_of text)) schema is text _ true place t s
choosing t s Reset schema is = absurd (cc)
choosing t s Close schema is = absurd (cc)

chosen : (s : Session) (schema : List ℕ) → (chooses schema s).session ≡ record s { schema = schema_by (Uses schema) (is_ok (reply_end false (chooses schema s).reply)) s.schema; diag = (chooses schema s).session.diag }
chosen s schema = ap (λ ok. record s { schema = schema_by (Uses schema) ok s.schema; diag = [] }) (sym (ok_is_ok (status_of (record s { schema = schema }))))

pub schemas : SchemaLaw router_reads tests step
unfolding step
schemas = record {
  stored = λ stored s ok c schema is. rw (choosing (tables_in stored) s c schema is) refl;
  session = λ stored s ok c schema is. rw (choosing (tables_in stored) s c schema is) (chosen s schema);
}
