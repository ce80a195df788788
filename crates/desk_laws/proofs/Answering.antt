-- What an answer makes of a session by how it ended is what the law makes of it.
use Rattle.std.specs.Prelude.{◌≡◌, ℕ, Bool, true, false, not, if◌then◌else◌, List, Option}
use Rattle.std.proofs.Common.{refl, ap, sym, ◌∙◌}
use Rattle.mx_base.specs.Fields.{lenenc_at}
use Rattle.mx_base.specs.declared.fields.Field.{Field}
use Rattle.mx_base.specs.declared.fields.Field.TheVariants as fields
use Rattle.pin_classifier.specs.declared.class.Class.{Class}
use Rattle.session_state.specs.Endings.{is_err, is_prepared}
use Rattle.session_state.specs.Pins.{pin_after, pin_answered, pin_prepared}
use Rattle.session_state.specs.declared.pin.Pin.{Pin}
use Rattle.session_state.specs.declared.reply_end.ReplyEnd.{ReplyEnd}
use Rattle.server_rule.specs.Classes.{Reads}
use Rattle.server_rule.specs.Replies.{end_by, first_payload, is_eof_payload, is_err_payload, last_payload, ok_behind, ok_behind_rows, prepare_end_by, reply_end}
use Rattle.private_model.specs.Commands as commands
use Rattle.private_model.specs.Commands.{Command, Reply, end_of, is_prepare, pin_statement}
use Rattle.private_model.specs.Story as story
use Rattle.private_model.specs.Story.{Question, command_of}
use Rattle.private_model.specs.View.{pin_heard}
use Rattle.link_state.specs.declared.asking.Form.{Form}
use Rattle.link_state.specs.declared.asking.Form.TheVariants.{Text, Fields, Prepare, SetId, ReadId, Reset}
use Rattle.link_state.specs.declared.asking.Purpose.{Purpose}
use Rattle.link_state.specs.declared.asking.Purpose.TheVariants as purposes
use Rattle.link_laws.specs.Stands.{Codes, IsForm, IsPurpose}
use Rattle.client_desk.specs.Answers.{class_in, pin_for}
use Rattle.desk_laws.specs.Stands.{IsShared}

-- How replies end.

behind_kind : (field : Field) (payload : List ℕ) → is_prepared (ok_behind field payload) ≡ false
behind_kind (fields.Value id next) payload = refl
behind_kind _ payload = refl

rows_kind : (field : Field) (payload : List ℕ) → is_prepared (ok_behind_rows field payload) ≡ false
rows_kind (fields.Value rows next) payload = behind_kind (lenenc_at next payload) payload
rows_kind _ payload = refl

end_kind : (payload : List ℕ) → is_prepared (end_by payload) ≡ false
end_kind payload = by (is_err_payload payload) (is_eof_payload payload) refl refl where
  by : (err eof : Bool) → is_err_payload payload ≡ err → is_eof_payload payload ≡ eof → is_prepared (end_by payload) ≡ false
  by true eof e f = rw e refl
  by false true e f = rw (e, f) refl
  by false false e f = rw (e, f) (rows_kind (lenenc_at 1 payload) payload)

pub plain_reply : (to_prepare : Bool) (payloads : List (List ℕ)) → to_prepare ≡ false → is_prepared (reply_end to_prepare payloads) ≡ false
unfolding reply_end
plain_reply true payloads is = absurd (cc)
plain_reply false payloads is = end_kind (last_payload payloads)

prepare_kind : (payload : List ℕ) → is_prepared (prepare_end_by payload) ≡ not (is_err (prepare_end_by payload))
prepare_kind payload = by (is_err_payload payload) refl where
  by : (err : Bool) → is_err_payload payload ≡ err → is_prepared (prepare_end_by payload) ≡ not (is_err (prepare_end_by payload))
  by true e = rw e refl
  by false e = rw e refl

pub prepare_reply : (to_prepare : Bool) (payloads : List (List ℕ)) → to_prepare ≡ true
    → is_prepared (reply_end to_prepare payloads) ≡ not (is_err (reply_end to_prepare payloads))
unfolding reply_end
prepare_reply true payloads is = prepare_kind (first_payload payloads)
prepare_reply false payloads is = absurd (cc)

-- The Pin behind a statement.

plain_pin : (class other : Class) (multiplex shared : Option Bool) (end : ReplyEnd) (pin : Pin) → class ≡ other → multiplex ≡ shared → is_prepared end ≡ false
    → pin_answered other multiplex end pin ≡ pin_after class shared end pin
plain_pin class other multiplex shared end pin classes same plain =
    (λ i. pin_answered (sym classes i) (same i) end pin)
    ∙ sym (ap (λ (prepared : Bool). if prepared then pin_prepared class end pin else pin_answered class shared end pin) plain)

prepared_pin : (class other : Class) (multiplex shared : Option Bool) (end : ReplyEnd) (pin : Pin) → class ≡ other → multiplex ≡ shared → is_prepared end ≡ not (is_err end)
    → (if is_err end then pin_answered other multiplex end pin else pin_prepared other end pin) ≡ pin_after class shared end pin
prepared_pin class other multiplex shared end pin classes same kinds =
    by (is_err end) ∙ (λ i. if sym kinds i then pin_prepared (sym classes i) end pin else pin_answered (sym classes i) (same i) end pin) where
      by : (err : Bool)
          → (if err then pin_answered other multiplex end pin else pin_prepared other end pin)
          ≡ (if not err then pin_prepared other end pin else pin_answered other multiplex end pin)
      by true = refl
      by false = refl

pin_stated : (reads : Reads) (form : Form) (command : Command) (multiplex shared : Option Bool) (reply : Reply) (pin : Pin) → IsForm reads form command
    → reply.to_prepare ≡ is_prepare command → multiplex ≡ shared
    → pin_statement reads command multiplex reply pin ≡ pin_after (class_in form) shared (end_of reply) pin
pin_stated reads (Text class) (commands.Query text) multiplex shared reply pin is plain same =
    plain_pin class (reads.class text) multiplex shared (end_of reply) pin is.is same (plain_reply reply.to_prepare reply.payloads plain)
pin_stated reads (Text class) (commands.Run text schema settings args) multiplex shared reply pin is plain same =
    plain_pin class (reads.class text) multiplex shared (end_of reply) pin is.is same (plain_reply reply.to_prepare reply.payloads plain)
pin_stated reads (Text class) (commands.InitDb schema) multiplex shared reply pin is plain same =
    plain_pin class (commands.class_of reads (commands.InitDb schema)) multiplex shared (end_of reply) pin is same (plain_reply reply.to_prepare reply.payloads plain)
pin_stated reads Fields (commands.FieldList rest) multiplex shared reply pin is plain same =
    plain_pin (class_in Fields) (class_in Fields) multiplex shared (end_of reply) pin refl same (plain_reply reply.to_prepare reply.payloads plain)
pin_stated reads (Prepare class) (commands.Prepare text) multiplex shared reply pin is prepares same =
    prepared_pin class (reads.class text) multiplex shared (end_of reply) pin is.is same (prepare_reply reply.to_prepare reply.payloads prepares)
pin_stated reads (SetId id) (commands.SetId n) multiplex shared reply pin is plain same =
    plain_pin (class_in (SetId id)) (class_in (SetId id)) multiplex shared (end_of reply) pin refl same (plain_reply reply.to_prepare reply.payloads plain)
pin_stated reads ReadId commands.ReadId multiplex shared reply pin is plain same =
    plain_pin (class_in ReadId) (class_in ReadId) multiplex shared (end_of reply) pin refl same (plain_reply reply.to_prepare reply.payloads plain)
pin_stated reads Reset commands.Reset multiplex shared reply pin is plain same =
    plain_pin (class_in Reset) (class_in Reset) multiplex shared (end_of reply) pin refl same (plain_reply reply.to_prepare reply.payloads plain)
pin_stated reads _ _ multiplex shared reply pin is plain same = absurd is

pub pin_same : (reads : Reads) (codes : Codes) (purpose : Purpose) (form : Form) (question : Question) (shared : Option Bool) (reply : Reply) (pin : Pin) → IsPurpose codes purpose question
    → IsForm reads form (command_of question) → reply.to_prepare ≡ is_prepare (command_of question) → IsShared question shared
    → pin_heard reads question reply pin ≡ pin_for purpose form shared (end_of reply) pin
pin_same reads codes (purposes.Statement name ordinal key) form (story.Statement n due) shared reply pin for is kinds same =
    pin_stated reads form due.command due.multiplex shared reply pin is kinds same
pin_same reads codes (purposes.Prep name ordinal at) form (story.Prep n key text) shared reply pin for is kinds same = refl
pin_same reads codes (purposes.Sync name) form (story.Sync n command) shared reply pin for is kinds same = refl
pin_same reads codes purposes.Own form (story.Own command) shared reply pin for is kinds same = refl
pin_same reads codes (purposes.End name) form (story.End n) shared reply pin for is kinds same = refl
pin_same reads codes (purposes.Capture name) form (story.Capture n) shared reply pin for is kinds same = refl
pin_same reads codes _ form _ shared reply pin for is kinds same = absurd for
