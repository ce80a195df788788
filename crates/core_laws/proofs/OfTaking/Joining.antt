-- What a text asks for, by what code promises of it.
use Rattle.std.specs.Prelude.{◌≡◌, ℕ, suc, Bool, IfSome, true, false, drop, if◌then◌else◌, nat_eq, slice_index_or, unwrap_or, List, Option, Some, None}
use Rattle.std.specs.Option.{option_and_then, option_map}
use Rattle.std.proofs.Common.{refl, sym, ap, ◌∙◌, subst}
use Rattle.std.proofs.lemmas.Option.{none-some}
use Rattle.mx_base.specs.declared.names.Hostgroup.{Hostgroup}
use Rattle.packet_frame.specs.Packets.{Framed, spelling}
use Rattle.pin_classifier.specs.declared.class.Class.{Class}
use Rattle.server_rule.specs.Classes.{Reads}
use Rattle.private_model.proofs.Maps.{number_of}
use Rattle.private_model.specs.Commands as commands
use Rattle.private_model.specs.Commands.{Command, class_of, is_marked}
use Rattle.private_model.specs.Names.{ClientNo}
use Rattle.private_model.specs.Story.{Due}
use Rattle.private_model.specs.View.{Setup, due_of, present}
use Rattle.log_story.specs.Executes.{text_asked}
use Rattle.log_story.specs.Plan.{Route, com_field_list, com_init_db, com_query, text_payload}
use Rattle.log_story.specs.Tale as tales
use Rattle.link_state.specs.Asks.{marks}
use Rattle.link_state.specs.declared.asking.Form.{Form}
use Rattle.link_state.specs.declared.asking.Form.TheVariants.{Text, Fields, Prepare, SetId, ReadId, Reset}
use Rattle.link_state.specs.declared.wish.Command.TheVariants as kinds
use Rattle.link_state.specs.declared.wish.Command.TheVariants.{Plain}
use Rattle.link_laws.specs.Stands.{IsForm, IsRead}
use Rattle.run_laws.specs.Reads.{HasArgs}
use Rattle.stmt_map.specs.declared.client.ClientStatements.{ClientStatements}
use Rattle.client_seat.specs.Numbers.{AreNoted}
use Rattle.client_seat.specs.Requests.{Asked, Says, asked_in, run_in, text_in}
use Rattle.desk_laws.specs.Stands.{IsRequest, is_text, kind_of}
use Rattle.core_tables.specs.Tables.{Tabled}
use Rattle.core_tables.specs.Taking.{AreNotedIn, IsDue, asked_of, found_of, text_work}
use Rattle.core_tables.specs.declared.client.Client.{Client}
use Rattle.core_stands.specs.Grounds.{Ground, view_on}
use Rattle.core_stands.specs.Stands.{IsKeyedFor}
use Rattle.core_laws.specs.taking.Joins.{IsDecided, IsUnprepared, is_field_list, is_init_db, is_query, text_of, text_route}
use Rattle.core_laws.specs.taking.Takes.{IsSent, IsUpOf}
use Rattle.core_laws.proofs.OfTaking.Standing.{requested_is}

-- a text that is no STMT_PREPARE
abbrev pub IsSaid : Command → Type 0
IsSaid command = (kind_of command ≡ Plain) × (is_text command ≡ true)

-- Its work.

marks_of : (reads : Reads) (form : Form) (command : Command) → IsForm reads form command → is_marked reads command ≡ marks form
marks_of reads (Text class) (commands.Query text) is = ap (λ (c : Class). c.marks_id) (sym is.is)
marks_of reads (Text class) (commands.Run text schema settings args) is = ap (λ (c : Class). c.marks_id) (sym is.is)
marks_of reads (Text class) (commands.InitDb schema) is = ap (λ (c : Class). c.marks_id) (sym is)
marks_of reads Fields (commands.FieldList rest) is = refl
marks_of reads (Prepare class) (commands.Prepare text) is = ap (λ (c : Class). c.marks_id) (sym is.is)
marks_of reads (SetId id) (commands.SetId n) is = refl
marks_of reads ReadId commands.ReadId is = refl
marks_of reads Reset commands.Reset is = refl
marks_of reads _ _ is = absurd is

pub as_request : (reads : Reads) (form : Form) (command : Command) (ordinal since_ms : ℕ) (hostgroup : Hostgroup) (multiplex : Option Bool)
    (packets : List ℕ) → IsForm reads form command → IsSaid command → packets ≡ spelling 0 (text_payload command)
    → IsRequest reads ordinal 0 command multiplex (text_work ordinal hostgroup since_ms multiplex form packets)
as_request reads form command ordinal since_ms hostgroup multiplex packets is said spelt = record {
  ordinal_is = refl;
  key_is = refl;
  multiplex_is = refl;
  kind = said.0;
  marks = marks_of reads form command is;
  form = is;
  body = (said.1, spelt);
}

-- What its message asks for.

pub asks_so : (row : Client) (message : Framed) (text : Option (List ℕ)) (command : Command) → found_of row ≡ Some message
    → asked_of row text ≡ Some (Says command) → asked_in row.desk.seat.statements message.payload text ≡ Some (Says command)
asks_so row message text command found asked =
    sym (ap (option_and_then (λ (m : Framed). asked_in row.desk.seat.statements m.payload text)) found) ∙ asked

pub says_so : (row : Client) (message : Framed) (text : Option (List ℕ)) (command : Command) → found_of row ≡ Some message
    → IsUnprepared message → asked_of row text ≡ Some (Says command) → text_in message.payload text ≡ Some (Says command)
says_so row message text command found unprepared asked =
    sym (ap (λ (b : Bool). if b then run_in row.desk.seat.statements message.payload else text_in message.payload text) unprepared.no_execute)
    ∙ asks_so row message text command found asked

one_said : (found command : Command) → Some (Says found) ≡ Some (Says command) → IsSaid found → IsSaid command
one_said found command is said =
    let same : found ≡ command = cc in
    subst (λ (c : Command). IsSaid c) same said

abbrev said_if : (rest : List ℕ) → (query init_db field_list prepare : Bool) → Option Asked
said_if rest query init_db field_list prepare =
    option_map (λ (c : Command). Says c)
    (if query then Some (commands.Query rest) else if init_db then Some (commands.InitDb rest)
    else if field_list then Some (commands.FieldList rest) else if prepare then Some (commands.Prepare rest) else None)

said_by : (rest : List ℕ) (command : Command) (query init_db field_list : Bool)
    → said_if rest query init_db field_list false ≡ Some (Says command) → IsSaid command
said_by rest command true init_db field_list is = one_said (commands.Query rest) command is (refl, refl)
said_by rest command false true field_list is = one_said (commands.InitDb rest) command is (refl, refl)
said_by rest command false false true is = one_said (commands.FieldList rest) command is (refl, refl)
said_by rest command false false false is = absurd (none-some (Says command) is)

pub is_said : (message : Framed) (text : Option (List ℕ)) (command : Command) → IsUnprepared message
    → text_in message.payload text ≡ Some (Says command) → IsSaid command
is_said message text command unprepared is =
    let byte : ℕ = slice_index_or message.payload 0 0 in
    let rest : List ℕ = unwrap_or text (drop 1 message.payload) in
    said_by rest command (nat_eq byte com_query) (nat_eq byte com_init_db) (nat_eq byte com_field_list)
    (sym (ap (said_if rest (nat_eq byte com_query) (nat_eq byte com_init_db) (nat_eq byte com_field_list)) unprepared.no_prepare) ∙ is)

-- What is no STMT_PREPARE or execute gets no number, and has no arguments.

pub keyed_so : (setup : Setup) (route : Route) (due : Due) (command : Command) → kind_of command ≡ Plain → route.number ≡ 0
    → IsKeyedFor setup route due command
keyed_so setup route due (commands.Prepare text) is none = absurd (let no : kinds.Prepare ≡ kinds.Plain = is in cc)
keyed_so setup route due (commands.Run text schema settings args) is none = absurd (let no : kinds.Execute ≡ kinds.Plain = is in cc)
keyed_so setup route due _ is none = none

pub whole_so : (command : Command) → kind_of command ≡ Plain → HasArgs command
whole_so (commands.Run text schema settings args) is = absurd (let no : kinds.Execute ≡ kinds.Plain = is in cc)
whole_so _ is = tt

-- What the client has prepared then, by its message.
pub noted_there : (refused : Bool) (t : Tabled) (c : ClientNo) (row : Client) (message : Framed) (statements : ClientStatements)
    → t.clients c ≡ Some row → found_of row ≡ Some message → AreNotedIn refused (t.clients c) statements
    → AreNoted refused message.payload row.desk.seat.statements statements
noted_there refused t c row message statements there found noted =
    subst (λ (f : Option Framed). IfSome f (λ (m : Framed). AreNoted refused m.payload row.desk.seat.statements statements)) found
    (subst (λ (o : Option Client). AreNotedIn refused o statements) there noted)

-- It is sent.

row_is : (t : Tabled) (client : tales.Client) (row other : Client) → t.clients client.number ≡ Some row → t.clients client.number ≡ Some other
    → other ≡ row
row_is t client row other a b = let same : Some other ≡ Some row = sym b ∙ a in cc

module _ (g : Ground) (t other : Tabled) (client : tales.Client) (row : Client) (is : IsUpOf g t client row) (flag since_ms : ℕ)
    (hostgroup : Hostgroup) (text : Option (List ℕ)) (multiplex : Option Bool) (form : Form)
    (decided : IsDecided g client is.up.message hostgroup text multiplex form)
    (due : IsDue flag text (text_work (suc client.taken) hostgroup since_ms multiplex form) client.number t other) where
  asks : text_in is.up.message.payload text ≡ Some (Says due.command)
  asks =
      says_so row is.up.message text due.command is.up.found decided.unprepared
      (subst (λ (at : Client). asked_of at text ≡ Some (Says due.command)) (row_is t client row due.row is.there due.there) due.asked)

  pub is_sent : IsSent g client is.up.message (text_route hostgroup text multiplex) due.command
      (text_work (suc client.taken) hostgroup since_ms multiplex form (spelling 0 (text_payload due.command)))
  is_sent = record {
    routed = decided.routed;
    unanswered = decided.unanswered;
    single = refl;
    asked = requested_is g.setup (view_on g) g.plan client (suc client.taken) (text_route hostgroup text multiplex) is.up.message.payload due.command asks;
    request = as_request g.setup.reads form due.command (suc client.taken) since_ms hostgroup multiplex (spelling 0 (text_payload due.command))
        (decided.formed due.command asks) (is_said is.up.message text due.command decided.unprepared asks) refl;
    hostgroup = refl;
    keyed = keyed_so g.setup (text_route hostgroup text multiplex)
        (due_of (view_on g) (present (view_on g) client.number hostgroup) (suc client.taken) 0 due.command multiplex)
        due.command (is_said is.up.message text due.command decided.unprepared asks).0 refl;
    whole = whole_so due.command (is_said is.up.message text due.command decided.unprepared asks).0;
  }

-- Its form.

said_form : (reads : Reads) (form : Form) (found command : Command) → Some (Says found) ≡ Some (Says command) → IsForm reads form found
    → IsForm reads form command
said_form reads form found command is of =
    let same : found ≡ command = cc in
    subst (λ (c : Command). IsForm reads form c) same of

module _ (reads : Reads) (message : Framed) (text : Option (List ℕ)) (command : Command)
    (is : text_in message.payload text ≡ Some (Says command)) where
  said_at : (byte : ℕ) → nat_eq (slice_index_or message.payload 0 0) byte ≡ true
      → option_map (λ (c : Command). Says c) (text_asked byte (text_of message text)) ≡ Some (Says command)
  said_at byte same =
      subst (λ (b : ℕ). option_map (λ (c : Command). Says c) (text_asked b (text_of message text)) ≡ Some (Says command))
      (number_of (slice_index_or message.payload 0 0) byte same) is

  pub query_form : (class : Class) → is_query message ≡ true → IsRead reads class (text_of message text) → IsForm reads (Text class) command
  query_form class first read =
      said_form reads (Text class) (commands.Query (text_of message text)) command (said_at com_query first) read

  pub schema_form : (class : Class) → is_init_db message ≡ true → class ≡ class_of reads (commands.InitDb (text_of message text))
      → IsForm reads (Text class) command
  schema_form class first uses =
      said_form reads (Text class) (commands.InitDb (text_of message text)) command (said_at com_init_db first) uses

  pub fields_form : is_field_list message ≡ true → IsForm reads Fields command
  fields_form first = said_form reads Fields (commands.FieldList (text_of message text)) command (said_at com_field_list first) tt
