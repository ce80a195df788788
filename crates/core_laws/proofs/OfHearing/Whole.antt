-- An answer is read whole: the tables stand, by what was asked.
use Rattle.std.specs.Prelude.{◌≡◌, ℕ, Bool, true, false, if◌then◌else◌, List, Option, Some}
use Rattle.std.proofs.Common.{refl, sym, ap, ◌∙◌}
use Rattle.std.proofs.lemmas.Bool.{true≢false}
use Rattle.mx_base.specs.declared.names.Hostgroup.{Hostgroup}
use Rattle.reply_track.specs.Grammar.{renamed}
use Rattle.reply_track.specs.declared.reply.ReplyKind.TheVariants as kinds
use Rattle.session_state.specs.declared.reply_end.ReplyEnd.{ReplyEnd}
use Rattle.server_rule.specs.Replies.{one_number}
use Rattle.private_model.specs.Commands as commands
use Rattle.private_model.specs.Commands.{Command, Reply, end_of, is_prepare}
use Rattle.private_model.specs.Names.{SessionName}
use Rattle.private_model.specs.Story as story
use Rattle.private_model.specs.Story.{Due, Heard, Question, command_of}
use Rattle.link_state.specs.Answers.{id_for, id_in}
use Rattle.link_state.specs.Asks.{kind_of}
use Rattle.link_state.specs.declared.asking.Asking.{Asking}
use Rattle.link_state.specs.declared.asking.Form.{Form}
use Rattle.link_state.specs.declared.asking.Form.TheVariants as forms
use Rattle.link_state.specs.declared.asking.Purpose.{Purpose}
use Rattle.link_state.specs.declared.asking.Purpose.TheVariants as purposes
use Rattle.link_laws.specs.Stands.{Codes, IsForm, IsPurpose}
use Rattle.server_rule.specs.Classes.{Reads}
use Rattle.client_desk.specs.Answers.{pin_for}
use Rattle.client_desk.specs.Desks.{session_of}
use Rattle.client_desk.specs.Sessions.{put_in}
use Rattle.client_desk.specs.declared.desk.Desk.{Desk}
use Rattle.desk_laws.specs.Spares.{IsAside, asked_for}
use Rattle.row_laws.specs.Unread.{IsNumberFor}
use Rattle.row_laws.specs.Whose.{name_for}
use Rattle.core_tables.specs.Hearing.{told_of}

-- What is kept of a question names the session that the law's does.

pub names_same : (codes : Codes) (purpose : Purpose) (question : Question) → IsPurpose codes purpose question → asked_for question ≡ name_for purpose
names_same codes (purposes.Statement name ordinal number) (story.Statement n due) is = ap (λ (m : SessionName). Some m) (sym is.name)
names_same codes (purposes.Prep name ordinal number) (story.Prep n key text) is = ap (λ (m : SessionName). Some m) (sym is.name)
names_same codes (purposes.Sync name) (story.Sync n command) is = ap (λ (m : SessionName). Some m) (sym is)
names_same codes purposes.Own (story.Own command) is = refl
names_same codes (purposes.End name) (story.End n) is = ap (λ (m : SessionName). Some m) (sym is)
names_same codes (purposes.Capture name) (story.Capture n) is = ap (λ (m : SessionName). Some m) (sym is)
names_same codes _ _ is = absurd is

abbrev pub is_stated : Purpose → Bool
is_stated (purposes.Statement n ordinal key) = true
is_stated _ = false

pub aside_same : (codes : Codes) (purpose : Purpose) (question : Question) → IsPurpose codes purpose question → is_stated purpose ≡ false → IsAside question
aside_same codes (purposes.Statement name ordinal number) (story.Statement n due) is aside = absurd (true≢false aside)
aside_same codes (purposes.Prep name ordinal number) (story.Prep n key text) is aside = tt
aside_same codes (purposes.Sync name) (story.Sync n command) is aside = tt
aside_same codes purposes.Own (story.Own command) is aside = tt
aside_same codes (purposes.End name) (story.End n) is aside = tt
aside_same codes (purposes.Capture name) (story.Capture n) is aside = tt
aside_same codes _ _ is aside = absurd is

-- a client's statement
pub record IsStatementOf (n : SessionName) (ordinal : ℕ) (question : Question) : Type 0 where
  pub due : Due
  pub is : question ≡ story.Statement n due
  pub ordinal_is : due.ordinal ≡ ordinal

pub statement_same : (codes : Codes) (n : SessionName) (ordinal key : ℕ) (question : Question) → IsPurpose codes (purposes.Statement n ordinal key) question
    → IsStatementOf n ordinal question
statement_same codes n ordinal key (story.Statement m due) is =
    record { due = due; is = ap (λ (k : SessionName). story.Statement k due) (sym is.name); ordinal_is = sym is.ordinal }
statement_same codes n ordinal key _ is = absurd is

-- The client gets the payloads by its own number of what it prepared, as the law does.

pub renamed_same : (reads : Reads) (form : Form) (command : Command) → IsForm reads form command → (number : ℕ) (payloads : List (List ℕ))
    → renamed (kind_of form) number payloads ≡ renamed (if is_prepare command then kinds.Prepare else kinds.Command) number payloads
renamed_same reads (forms.Prepare class) (commands.Prepare text) is number payloads = refl
renamed_same reads (forms.Text class) (commands.Query text) is number payloads = refl
renamed_same reads (forms.Text class) (commands.Run text schema settings args) is number payloads = refl
renamed_same reads (forms.Text class) (commands.InitDb schema) is number payloads = refl
renamed_same reads forms.Fields (commands.FieldList rest) is number payloads = refl
renamed_same reads (forms.SetId id) (commands.SetId n) is number payloads = refl
renamed_same reads forms.ReadId commands.ReadId is number payloads = refl
renamed_same reads forms.Reset commands.Reset is number payloads = refl
renamed_same reads _ _ is number payloads = absurd is

-- A desk hears the same by the number that was read as by the answer's one number.

id_by_purpose : (purpose : Purpose) (form : Form) (end : ReplyEnd) (a b old : Option ℕ) → id_in form end a old ≡ id_in form end b old
    → id_for purpose form end a old ≡ id_for purpose form end b old
id_by_purpose (purposes.Statement n ordinal key) form end a b old same = same
id_by_purpose (purposes.Prep n ordinal key) form end a b old same = refl
id_by_purpose (purposes.Sync n) form end a b old same = same
id_by_purpose purposes.Own form end a b old same = same
id_by_purpose (purposes.End n) form end a b old same = same
id_by_purpose (purposes.Capture n) form end a b old same = same

id_numbered : (form : Form) (end : ReplyEnd) (number : Option ℕ) (payloads : List (List ℕ)) (old : Option ℕ) → IsNumberFor form number payloads
    → id_in form end number old ≡ id_in form end (one_number payloads) old
id_numbered (forms.Text class) end number payloads old is = refl
id_numbered forms.Fields end number payloads old is = refl
id_numbered (forms.Prepare class) end number payloads old is = refl
id_numbered (forms.SetId id) end number payloads old is = refl
id_numbered forms.ReadId end number payloads old is = ap (λ (n : Option ℕ). id_in forms.ReadId end n old) is
id_numbered forms.Reset end number payloads old is = refl

pub told_numbered : (asking : Asking) (multiplex : Option Bool) (end : ReplyEnd) (reply : Reply) (number : Option ℕ) (h : Hostgroup) (desk : Desk)
    → end ≡ end_of reply → IsNumberFor asking.form number reply.payloads
    → told_of (record { asking = asking; multiplex = multiplex; end = end; number = number }) h desk
    ≡ told_of (record { asking = asking; multiplex = multiplex; end = end_of reply; number = one_number reply.payloads }) h desk
told_numbered asking multiplex end reply number h desk ends numbered =
    ap (λ (e : ReplyEnd). told_of (record { asking = asking; multiplex = multiplex; end = e; number = number }) h desk) ends
    ∙ ap (λ (id : Option ℕ). record desk {
      sessions = put_in desk.sessions (record (session_of desk h) {
        pin = pin_for asking.purpose asking.form multiplex (end_of reply) (session_of desk h).pin;
        id = id;
      });
    })
    (id_by_purpose asking.purpose asking.form (end_of reply) number (one_number reply.payloads) (session_of desk h).id
    (id_numbered asking.form (end_of reply) number reply.payloads (session_of desk h).id numbered))
