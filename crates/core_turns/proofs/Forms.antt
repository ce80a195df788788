-- How what goes to a server stands on a link.
use Rattle.std.specs.Prelude.{◌≡◌, ◌⊎◌, ℕ, Bool, true, false, nat_eq, drop, if◌then◌else◌, List, Option, Some, None}
use Rattle.std.specs.Option.{option_map}
use Rattle.std.proofs.Common.{refl, sym, ap, ◌∙◌, inl, inr, subst}
use Rattle.pin_classifier.specs.Classes.{class_of}
use Rattle.pin_classifier.specs.declared.class.Class.{Class}
use Rattle.private_model.specs.Commands.{Command, FieldList, InitDb, Prepare, Query}
use Rattle.log_story.specs.Executes.{text_asked}
use Rattle.log_story.specs.Plan.{com_field_list, com_init_db, com_prepare, com_query}
use Rattle.link_state.specs.Classes.{use_class}
use Rattle.link_state.specs.declared.asking.Form.{Form}
use Rattle.link_state.specs.declared.asking.Form.TheVariants as forms
use Rattle.client_seat.specs.Requests.{Asked, Says, text_in}
use Rattle.core_turns.specs.Judged.{IsPlain, IsSendable, byte_of, form_by}
use Rattle.message_judge.proofs.Commands.{split}

pub same-byte : (byte k : ℕ) → nat_eq byte k ≡ true → byte ≡ k
same-byte byte k is = split byte k (λ same. same) (λ other. absurd (cc))

abbrev says : Command → Asked
says command = Says command

asks-by : (byte k : ℕ) (rest : List ℕ) (command : Command) → byte ≡ k → text_asked k rest ≡ Some command → option_map says (text_asked byte rest) ≡ Some (Says command)
asks-by byte k rest command is asks = ap (λ (b : ℕ). option_map says (text_asked b rest)) is ∙ ap (option_map says) asks

-- a query by its class
pub query-so : (payload : List ℕ) (class : Class) (text : List ℕ) → nat_eq (byte_of payload) com_query ≡ true → class ≡ class_of text
    → IsSendable payload (Some text) (forms.Text class)
query-so payload class text query classed = record {
  command = Query text;
  asks = asks-by (byte_of payload) com_query text (Query text) (same-byte (byte_of payload) com_query query) refl;
  kind = refl;
  says = refl;
  formed = λ reads classes. record {
    is = classed ∙ sym (classes.class text);
    hides = ap (λ (c : Class). c.sets_id) classed ∙ sym (classes.hides text);
  };
  marked = λ reads classes. ap (λ (c : Class). c.marks_id) (classes.class text) ∙ sym (ap (λ (c : Class). c.marks_id) classed);
}

-- a text to be prepared
pub prepare-asks : (payload text : List ℕ) → nat_eq (byte_of payload) com_prepare ≡ true → text_in payload (Some text) ≡ Some (Says (Prepare text))
prepare-asks payload text prepares = asks-by (byte_of payload) com_prepare text (Prepare text) (same-byte (byte_of payload) com_prepare prepares) refl

-- the choice of a schema
schema-so : (payload : List ℕ) → nat_eq (byte_of payload) com_init_db ≡ true → IsSendable payload None (forms.Text (use_class (drop 1 payload)))
schema-so payload init = record {
  command = InitDb (drop 1 payload);
  asks = asks-by (byte_of payload) com_init_db (drop 1 payload) (InitDb (drop 1 payload)) (same-byte (byte_of payload) com_init_db init) refl;
  kind = refl;
  says = refl;
  formed = λ reads classes. refl;
  marked = λ reads classes. refl;
}

-- the question for a table's columns
fields-so : (payload : List ℕ) → nat_eq (byte_of payload) com_init_db ≡ false → IsPlain payload → IsSendable payload None forms.Fields
fields-so payload other is = record {
  command = FieldList (drop 1 payload);
  asks = asks-by (byte_of payload) com_field_list (drop 1 payload) (FieldList (drop 1 payload)) (by is) refl;
  kind = refl;
  says = refl;
  formed = λ reads classes. tt;
  marked = λ reads classes. refl;
}
  where
    by : (nat_eq (byte_of payload) com_init_db ≡ true) ⊎ (nat_eq (byte_of payload) com_field_list ≡ true) → byte_of payload ≡ com_field_list
    by (inl init) = absurd (cc)
    by (inr fields) = same-byte (byte_of payload) com_field_list fields

pub plain-so : (payload : List ℕ) → IsPlain payload → IsSendable payload None (form_by payload)
plain-so payload plain = by (nat_eq (byte_of payload) com_init_db) refl where
  form_if : Bool → Form
  form_if init = if init then forms.Text (use_class (drop 1 payload)) else forms.Fields

  by : (init : Bool) → nat_eq (byte_of payload) com_init_db ≡ init → IsSendable payload None (form_by payload)
  by true is = subst (λ (b : Bool). IsSendable payload None (form_if b)) (sym is) (schema-so payload is)
  by false is = subst (λ (b : Bool). IsSendable payload None (form_if b)) (sym is) (fields-so payload is plain)
