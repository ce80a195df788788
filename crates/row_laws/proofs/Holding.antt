-- What an answer makes of the session that a link carries is the same for code and for the law.
use Rattle.std.specs.Prelude.{◌≡◌, ◌<◌, ℕ, Bool, true, false, not, if◌then◌else◌, List, Option, Some}
use Rattle.std.proofs.Common.{refl, sym, ap, ◌∙◌, subst}
use Rattle.mx_base.specs.Fields.{lenenc_at}
use Rattle.mx_base.specs.declared.fields.Field.{Field}
use Rattle.mx_base.specs.declared.fields.Field.TheVariants.{Value}
use Rattle.pin_classifier.specs.declared.class.Class.{Class}
use Rattle.session_state.specs.Endings as ending
use Rattle.session_state.specs.Pins.{pin_after, pin_answered, pin_prepared}
use Rattle.session_state.specs.declared.pin.Pin.{Pin}
use Rattle.session_state.specs.declared.reply_end.ReplyEnd.{ReplyEnd}
use Rattle.server_rule.specs.Classes.{Reads}
use Rattle.server_rule.specs.Replies.{err_end, first_payload, is_eof_payload, is_err_payload, last_payload, ok_behind, ok_behind_rows, one_number, prepared_end, reply_end, rows_end}
use Rattle.private_model.proofs.Maps.{same_name}
use Rattle.private_model.specs.Commands as commands
use Rattle.private_model.specs.Commands.{Command, Reply, end_of, is_prepare, pin_statement}
use Rattle.private_model.specs.Names.{SessionName}
use Rattle.private_model.specs.Story as story
use Rattle.private_model.specs.Story.{Question, command_of, is_name, put}
use Rattle.private_model.specs.View.{Held, View, held_by, held_heard, id_heard, pin_heard}
use Rattle.link_state.specs.Answers.{id_by, id_for, live_by, told_by}
use Rattle.link_state.specs.Behind.{pin_for}
use Rattle.link_state.specs.Classes.{class_in}
use Rattle.link_state.specs.States.{heard_in}
use Rattle.link_state.specs.declared.asking.Asking.{Asking}
use Rattle.link_state.specs.declared.asking.Form.{Form}
use Rattle.link_state.specs.declared.asking.Form.TheVariants.{Text, Fields, Prepare, SetId, ReadId, Reset}
use Rattle.link_state.specs.declared.asking.Purpose.{Purpose}
use Rattle.link_state.specs.declared.asking.Purpose.TheVariants as purposes
use Rattle.link_state.specs.declared.state.LinkState.{LinkState}
use Rattle.link_state.specs.declared.state.Stage.TheVariants.{Quiet, Answered}
use Rattle.link_laws.proofs.Keeps.{id_question}
use Rattle.link_laws.specs.Stands.{Codes, IsAsking, IsForm, IsPurpose}
use Rattle.served_link.specs.declared.row.LeftSession.{LeftSession}
use Rattle.row_laws.specs.Whose.{IsLeft, OfStatement, name_for}
use Rattle.row_laws.specs.Unread.{IsNumberFor}

-- How replies end: as what is prepared exactly those to a STMT_PREPARE that are no ERR.

rows_unprepared : (field : Field) (payload : List ℕ) → ending.is_prepared (ok_behind field payload) ≡ false
rows_unprepared (Value id next) payload = refl
rows_unprepared _ payload = refl

ok_unprepared : (field : Field) (payload : List ℕ) → ending.is_prepared (ok_behind_rows field payload) ≡ false
ok_unprepared (Value rows next) payload = rows_unprepared (lenenc_at next payload) payload
ok_unprepared _ payload = refl

plain_unprepared : (payloads : List (List ℕ)) → ending.is_prepared (reply_end false payloads) ≡ false
unfolding reply_end
plain_unprepared payloads = by (is_err_payload last) (is_eof_payload last) where
  last : List ℕ
  last = last_payload payloads

  by : (err eof : Bool) → ending.is_prepared (if err then err_end last else if eof then rows_end last else ok_behind_rows (lenenc_at 1 last) last) ≡ false
  by true eof = refl
  by false true = refl
  by false false = ok_unprepared (lenenc_at 1 last) last

prepared_or_err : (payloads : List (List ℕ)) → ending.is_prepared (reply_end true payloads) ≡ not (ending.is_err (reply_end true payloads))
unfolding reply_end
prepared_or_err payloads = by (is_err_payload first) where
  first : List ℕ
  first = first_payload payloads

  by : (err : Bool) → ending.is_prepared (if err then err_end first else prepared_end first) ≡ not (ending.is_err (if err then err_end first else prepared_end first))
  by true = refl
  by false = refl

-- Pins.

answered_pin : (class : Class) (multiplex : Option Bool) (end : ReplyEnd) (pin : Pin) → ending.is_prepared end ≡ false
    → pin_after class multiplex end pin ≡ pin_answered class multiplex end pin
answered_pin class multiplex end pin plain = ap (λ (prepared : Bool). if prepared then pin_prepared class end pin else pin_answered class multiplex end pin) plain

prepared_pin : (class : Class) (multiplex : Option Bool) (end : ReplyEnd) (pin : Pin) (err : Bool) → ending.is_prepared end ≡ not err
    → pin_after class multiplex end pin ≡ (if err then pin_answered class multiplex end pin else pin_prepared class end pin)
prepared_pin class multiplex end pin true is = answered_pin class multiplex end pin is
prepared_pin class multiplex end pin false is = ap (λ (prepared : Bool). if prepared then pin_prepared class end pin else pin_answered class multiplex end pin) is

module _ (reads : Reads) (payloads : List (List ℕ)) (multiplex : Option Bool) (pin : Pin) where
  abbrev reply_to : Command → Reply
  reply_to command = record { to_prepare = is_prepare command; payloads = payloads }

  stated_pin : (form : Form) (command : Command) → IsForm reads form command
      → pin_after (class_in form) multiplex (end_of (reply_to command)) pin ≡ pin_statement reads command multiplex (reply_to command) pin
  stated_pin (Text class) (commands.Query text) is =
      ap (λ (c : Class). pin_after c multiplex (reply_end false payloads) pin) is.is
      ∙ answered_pin (reads.class text) multiplex (reply_end false payloads) pin (plain_unprepared payloads)
  stated_pin (Text class) (commands.Run text schema settings args) is =
      ap (λ (c : Class). pin_after c multiplex (reply_end false payloads) pin) is.is
      ∙ answered_pin (reads.class text) multiplex (reply_end false payloads) pin (plain_unprepared payloads)
  stated_pin (Text class) (commands.InitDb schema) is =
      ap (λ (c : Class). pin_after c multiplex (reply_end false payloads) pin) is
      ∙ answered_pin (commands.class_of reads (commands.InitDb schema)) multiplex (reply_end false payloads) pin (plain_unprepared payloads)
  stated_pin Fields (commands.FieldList rest) is =
      answered_pin (class_in Fields) multiplex (reply_end false payloads) pin (plain_unprepared payloads)
  stated_pin (Prepare class) (commands.Prepare text) is =
      ap (λ (c : Class). pin_after c multiplex (reply_end true payloads) pin) is.is
      ∙ prepared_pin (reads.class text) multiplex (reply_end true payloads) pin (ending.is_err (reply_end true payloads)) (prepared_or_err payloads)
  stated_pin (SetId id) (commands.SetId n) is =
      answered_pin (class_in (SetId id)) multiplex (reply_end false payloads) pin (plain_unprepared payloads)
  stated_pin ReadId commands.ReadId is =
      answered_pin (class_in ReadId) multiplex (reply_end false payloads) pin (plain_unprepared payloads)
  stated_pin Reset commands.Reset is =
      answered_pin (class_in Reset) multiplex (reply_end false payloads) pin (plain_unprepared payloads)
  stated_pin _ _ is = absurd is

  -- a statement's word on sharing is the rules'
  abbrev Shared : Question → Type 0
  Shared question = OfStatement question (λ n due. multiplex ≡ due.multiplex)

  pub pin_same : (codes : Codes) (purpose : Purpose) (form : Form) (question : Question) → IsPurpose codes purpose question → IsForm reads form (command_of question)
      → Shared question
      → pin_for purpose form multiplex (end_of (reply_to (command_of question))) pin ≡ pin_heard reads question (reply_to (command_of question)) pin
  pin_same codes (purposes.Statement name ordinal key) form (story.Statement n due) for is shared =
      stated_pin form due.command is ∙ ap (λ (word : Option Bool). pin_statement reads due.command word (reply_to due.command) pin) shared
  pin_same codes (purposes.Prep name ordinal at) form (story.Prep n key text) for is shared = refl
  pin_same codes (purposes.Sync name) form (story.Sync n command) for is shared = refl
  pin_same codes purposes.Own form (story.Own command) for is shared = refl
  pin_same codes (purposes.End name) form (story.End n) for is shared = refl
  pin_same codes (purposes.Capture name) form (story.Capture n) for is shared = refl
  pin_same codes _ form _ for is shared = absurd for

-- Whose it is.

held_put : (held : SessionName → Held) (m n : SessionName) (h : Held) → m ≡ n → put is_name held n h m ≡ h
held_put held m n h same =
    ap (λ (name : SessionName). put is_name held n h name) same ∙ ap (λ (is : Bool). if is then h else held n) (same_name n)

same_some : (a b : SessionName) → Some a ≡ Some b → a ≡ b
same_some a b same = cc

pub held_there : (reads : Reads) (codes : Codes) (purpose : Purpose) (question : Question) (reply : Reply) (held : SessionName → Held) (m : SessionName)
    → IsPurpose codes purpose question → name_for purpose ≡ Some m → held_by reads question reply held m ≡ held_heard reads question reply (held m)
held_there reads codes (purposes.Statement name ordinal key) (story.Statement n due) reply held m for whose =
    let same : n ≡ m = sym for.name ∙ same_some name m whose in
    held_put held m n (held_heard reads (story.Statement n due) reply (held n)) (sym same)
    ∙ ap (λ (k : SessionName). held_heard reads (story.Statement n due) reply (held k)) same
held_there reads codes (purposes.Prep name ordinal at) (story.Prep n key text) reply held m for whose =
    let same : n ≡ m = sym for.name ∙ same_some name m whose in
    held_put held m n (held_heard reads (story.Prep n key text) reply (held n)) (sym same)
    ∙ ap (λ (k : SessionName). held_heard reads (story.Prep n key text) reply (held k)) same
held_there reads codes (purposes.Sync name) (story.Sync n command) reply held m for whose =
    let same : n ≡ m = sym for ∙ same_some name m whose in
    held_put held m n (held_heard reads (story.Sync n command) reply (held n)) (sym same)
    ∙ ap (λ (k : SessionName). held_heard reads (story.Sync n command) reply (held k)) same
held_there reads codes (purposes.End name) (story.End n) reply held m for whose =
    let same : n ≡ m = sym for ∙ same_some name m whose in
    held_put held m n (held_heard reads (story.End n) reply (held n)) (sym same)
    ∙ ap (λ (k : SessionName). held_heard reads (story.End n) reply (held k)) same
held_there reads codes (purposes.Capture name) (story.Capture n) reply held m for whose =
    let same : n ≡ m = sym for ∙ same_some name m whose in
    held_put held m n (held_heard reads (story.Capture n) reply (held n)) (sym same)
    ∙ ap (λ (k : SessionName). held_heard reads (story.Capture n) reply (held k)) same
held_there reads codes purposes.Own question reply held m for whose = absurd (cc)
held_there reads codes _ _ reply held m for whose = absurd for

pub held_own : (reads : Reads) (codes : Codes) (question : Question) (reply : Reply) (held : SessionName → Held) (m : SessionName)
    → IsPurpose codes purposes.Own question → held_by reads question reply held m ≡ held m
held_own reads codes (story.Own command) reply held m for = refl
held_own reads codes _ reply held m for = absurd for

-- A number counts where it was asked for.

id_numbered : (purpose : Purpose) (form : Form) (end : ReplyEnd) (number : Option ℕ) (payloads : List (List ℕ)) (id : Option ℕ) → IsNumberFor form number payloads
    → id_for purpose form end number id ≡ id_for purpose form end (one_number payloads) id
id_numbered (purposes.Prep name ordinal key) form end number payloads id is = refl
id_numbered purpose ReadId end number payloads id is = ap (λ (n : Option ℕ). id_for purpose ReadId end n id) is
id_numbered (purposes.Statement name ordinal key) (Text class) end number payloads id is = refl
id_numbered (purposes.Statement name ordinal key) Fields end number payloads id is = refl
id_numbered (purposes.Statement name ordinal key) (Prepare class) end number payloads id is = refl
id_numbered (purposes.Statement name ordinal key) (SetId n) end number payloads id is = refl
id_numbered (purposes.Statement name ordinal key) Reset end number payloads id is = refl
id_numbered (purposes.Sync name) (Text class) end number payloads id is = refl
id_numbered (purposes.Sync name) Fields end number payloads id is = refl
id_numbered (purposes.Sync name) (Prepare class) end number payloads id is = refl
id_numbered (purposes.Sync name) (SetId n) end number payloads id is = refl
id_numbered (purposes.Sync name) Reset end number payloads id is = refl
id_numbered purposes.Own (Text class) end number payloads id is = refl
id_numbered purposes.Own Fields end number payloads id is = refl
id_numbered purposes.Own (Prepare class) end number payloads id is = refl
id_numbered purposes.Own (SetId n) end number payloads id is = refl
id_numbered purposes.Own Reset end number payloads id is = refl
id_numbered (purposes.End name) (Text class) end number payloads id is = refl
id_numbered (purposes.End name) Fields end number payloads id is = refl
id_numbered (purposes.End name) (Prepare class) end number payloads id is = refl
id_numbered (purposes.End name) (SetId n) end number payloads id is = refl
id_numbered (purposes.End name) Reset end number payloads id is = refl
id_numbered (purposes.Capture name) (Text class) end number payloads id is = refl
id_numbered (purposes.Capture name) Fields end number payloads id is = refl
id_numbered (purposes.Capture name) (Prepare class) end number payloads id is = refl
id_numbered (purposes.Capture name) (SetId n) end number payloads id is = refl
id_numbered (purposes.Capture name) Reset end number payloads id is = refl

pub heard_numbered : (asking : Asking) (end : ReplyEnd) (number : Option ℕ) (payloads : List (List ℕ)) (state : LinkState) → IsNumberFor asking.form number payloads
    → heard_in (Answered asking) end number state ≡ heard_in (Answered asking) end (one_number payloads) state
heard_numbered asking end number payloads state is = λ i. record state {
  told = told_by asking.form end state.told;
  id = id_numbered asking.purpose asking.form end number payloads state.id is i;
  live = live_by asking end state.live;
  stage = Quiet;
}

-- A session that was left, behind an answer to what was asked for it.

module _ (reads : Reads) (codes : Codes) (seen new : View) (question : Question) (payloads : List (List ℕ)) (multiplex : Option Bool) (asking : Asking)
    (number : Option ℕ) (left : LeftSession) (n : SessionName) where
  abbrev reply : Reply
  reply = record { to_prepare = is_prepare (command_of question); payloads = payloads }

  abbrev behind : LeftSession
  behind = record left {
    pin = pin_for asking.purpose asking.form multiplex (end_of reply) left.pin;
    id = id_by asking (end_of reply) number left.id;
  }

  pub left_heard : IsAsking reads codes asking question → Shared reads payloads multiplex left.pin question → IsNumberFor asking.form number payloads
      → new.held n ≡ held_heard reads question reply (seen.held n) → new.lives n.client n.hostgroup ≡ seen.lives n.client n.hostgroup
      → new.lasting n ≡ seen.lasting n → IsLeft seen n left → IsLeft new n behind
  left_heard is shared numbered heard_so lives lasting was = record {
    earlier = subst (λ (life : ℕ). n.life < life) (sym lives) was.earlier;
    pin = ap (λ (h : Held). h.pin) heard_so ∙ ap (pin_heard reads question reply) was.pin
        ∙ sym (pin_same reads payloads multiplex left.pin codes asking.purpose asking.form question is.purpose is.form shared);
    id = ap (λ (h : Held). h.id) heard_so ∙ ap (id_heard reads question reply) was.id
        ∙ id_question reads codes asking.purpose asking.form question reply left.id is.purpose is.form
        ∙ sym (id_numbered asking.purpose asking.form (end_of reply) number payloads left.id numbered);
    lasting = lasting ∙ was.lasting;
  }
