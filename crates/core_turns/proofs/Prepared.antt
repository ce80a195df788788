-- A text goes to a server to be prepared, and what was prepared is executed there: a statement of it is due.
use Rattle.std.specs.Prelude.{◌≡◌, ◌<◌, ◌+◌, ℕ, Bool, true, false, nat_eq, List, [], ◌∷◌, Option, Some, None, is_some}
use Rattle.std.specs.Option.{option_and_then, option_map}
use Rattle.std.proofs.Common.{refl, sym, ap, subst, ◌∙◌, arith}
use Rattle.std.proofs.lemmas.List.Elements.{All-cons, All-head, All-nil, All-tail}
use Rattle.std.proofs.lemmas.Option.{same_Some}
use Rattle.session_state.specs.declared.place.Place.{Place}
use Rattle.mx_base.specs.declared.names.ClientNo.{ClientNo}
use Rattle.mx_base.specs.declared.names.Hostgroup.{Hostgroup}
use Rattle.mx_base.specs.declared.names.Port.TheVariants.{Traffic}
use Rattle.packet_frame.specs.Packets.{Framed, spelling}
use Rattle.pin_classifier.specs.Classes.{class_of}
use Rattle.pin_classifier.specs.declared.class.Class.{Class}
use Rattle.server_rule.specs.Classes.{Reads}
use Rattle.private_model.specs.Commands as commands
use Rattle.private_model.specs.Commands.{Args, Command, is_marked}
use Rattle.private_model.specs.Story.{Due, Key}
use Rattle.private_model.specs.View.{Setup}
use Rattle.run_laws.specs.Reads.{HasArgs}
use Rattle.log_story.specs.Executes.{run_key, run_schema}
use Rattle.log_story.specs.Plan.{Route, com_prepare, text_payload}
use Rattle.client_seat.specs.Requests.{Asked, Says, asked_in, request_of, text_in}
use Rattle.stmt_map.specs.Client.{next_number}
use Rattle.stmt_map.specs.declared.client.ClientStatements.{ClientStatements}
use Rattle.link_state.specs.declared.asking.Form.TheVariants as forms
use Rattle.link_state.specs.declared.wish.Command.TheVariants as wishes
use Rattle.link_laws.specs.Stands.{IsForm}
use Rattle.desk_laws.specs.Stands.{is_text, kind_of}
use Rattle.row_laws.specs.Readied.{AreClasses}
use Rattle.message_judge.specs.declared.caller.Prepared.{Prepared}
use Rattle.core_tables.specs.Tables.{Tabled}
use Rattle.core_tables.specs.Taking.{found_of, prepare_work}
use Rattle.core_tables.specs.declared.client.Client.{Client}
use Rattle.core_texts.specs.declared.texts.Texts.{Texts}
use Rattle.core_stands.specs.Stands.{IsKeyedFor, IsTextAt}
use Rattle.core_laws.proofs.OfTaking.Joining.{noted_there}
use Rattle.core_laws.specs.clients.Turns.{AreKeyed, Keyed}
use Rattle.core_promises.specs.Administers.{Administered}
use Rattle.core_promises.specs.Judges.{Rulebook}
use Rattle.core_promises.specs.Ruled.{situation_at}
use Rattle.core_texts.specs.Texts.{AreMore, key_at}
use Rattle.core_turns.specs.Judged.{IsPreparedSo, byte_of, route_by}
use Rattle.core_turns.specs.Preparing.{IsDueToPrepare, IsInMemory, stays_in}
use Rattle.core_turns.specs.Taken.{IsDueThere, OnUp}
use Rattle.core_turns.proofs.Forms.{prepare-asks}
use Rattle.core_turns.proofs.Keys.{more_verdict, ruled_by}
use Rattle.core_turns.proofs.Named.{next-few, next-is}
use Rattle.core_turns.proofs.Ups.{on-up, said-in}

-- how it goes there

abbrev pub prepare_route : Hostgroup → (text : List ℕ) → (multiplex : Option Bool) → (key number : ℕ) → Route
prepare_route hostgroup text multiplex key number =
    record { hostgroup = hostgroup; text = Some text; key = key; number = number; multiplex = multiplex; mirror = None }

abbrev pub run_route : Hostgroup → (multiplex : Option Bool) → (key : ℕ) → Route
run_route hostgroup multiplex key = record { hostgroup = hostgroup; text = None; key = key; number = 0; multiplex = multiplex; mirror = None }

-- what it asks for, by the row's message

pub asked_then : (row : Client) (message : Framed) (text : Option (List ℕ)) (asked : Asked) → found_of row ≡ Some message
    → option_and_then (λ (m : Framed). asked_in row.desk.seat.statements m.payload text) (found_of row) ≡ Some asked
    → asked_in row.desk.seat.statements message.payload text ≡ Some asked
asked_then row message text asked found is =
    subst (λ (o : Option Framed). option_and_then (λ (m : Framed). asked_in row.desk.seat.statements m.payload text) o ≡ Some asked) found is

pub first_of : (one : Keyed) (others : List Keyed) (keys : (number : ℕ) → Key) → AreKeyed (one ∷ others) keys → keys one.number ≡ one.key
first_of one others keys all = All-head (λ (k : Keyed). keys k.number ≡ k.key) one others all

pub second_of : (one two : Keyed) (keys : (number : ℕ) → Key) → AreKeyed (one ∷ two ∷ []) keys → keys two.number ≡ two.key
second_of one two keys all = All-head (λ (k : Keyed). keys k.number ≡ k.key) two [] (All-tail (λ (k : Keyed). keys k.number ≡ k.key) one (two ∷ []) all)

-- A text is prepared under the number that it has at the place where its client stands.
pub prepared_for : (setup : Setup) (hostgroup : Hostgroup) (text : List ℕ) (multiplex : Option Bool) (key number : ℕ) (row : Client) (due : Due) → 0 < number
    → setup.keys key ≡ record { text = text; place = row.desk.seat.place } → due.key ≡ key → due.place ≡ row.desk.seat.place
    → IsKeyedFor setup (prepare_route hostgroup text multiplex key number) due (commands.Prepare text)
prepared_for setup hostgroup text multiplex key number row due some stands same place =
    (sym same, (ap setup.keys same ∙ stands ∙ ap (λ (p : Place). record { text = text; place = p }) (sym place), some))

-- An execute goes by the number of its preparation, or of the same text where its client stands.

abbrev pub text_key : Prepared → Key
text_key prepared = record { text = prepared.text; place = prepared.place }

abbrev pub run_command : Prepared → (stands : List ℕ) → Args → Command
run_command prepared stands args = commands.Run prepared.text (run_schema prepared.place.schema stands) prepared.place.settings args

moved_schema : (schema stands : List ℕ) → stays_in schema stands ≡ false → run_schema schema stands ≡ stands
moved_schema [] stands moves = refl
moved_schema (byte ∷ schema) [] moves = refl
moved_schema (byte ∷ schema) (other ∷ stands) moves = (let no : true ≡ false = moves in absurd (cc))

stayed_schema : (schema stands : List ℕ) → stays_in schema stands ≡ true → run_schema schema stands ≡ schema
stayed_schema [] [] stays = refl
stayed_schema [] (byte ∷ stands) stays = (let no : false ≡ true = stays in absurd (cc))
stayed_schema (byte ∷ schema) [] stays = (let no : false ≡ true = stays in absurd (cc))
stayed_schema (byte ∷ schema) (other ∷ stands) stays = refl

-- the story's key is code's, where its route has that
pub run_key_is : (schema stands : List ℕ) (prepared_key key : ℕ) → (stays_in schema stands ≡ true → key ≡ prepared_key)
    → run_key schema stands prepared_key key ≡ key
run_key_is [] stands prepared_key key same = refl
run_key_is (byte ∷ schema) [] prepared_key key same = refl
run_key_is (byte ∷ schema) (other ∷ stands) prepared_key key same = sym (same refl)

pub run_for : (setup : Setup) (hostgroup : Hostgroup) (multiplex : Option Bool) (prepared_key key : ℕ) (prepared : Prepared) (stands : List ℕ) (args : Args)
    (due : Due) → due.key ≡ key → (stays : Bool) → stays_in prepared.place.schema stands ≡ stays
    → (stays ≡ true → setup.keys key ≡ text_key prepared)
    → (stays ≡ false → setup.keys key ≡ record { text = prepared.text; place = record { schema = stands; settings = prepared.place.settings } })
    → IsKeyedFor setup (run_route hostgroup multiplex key) due (run_command prepared stands args)
run_for setup hostgroup multiplex prepared_key key prepared stands args due same true stays here moved =
    let is : setup.keys due.key ≡ text_key prepared = ap setup.keys same ∙ here refl in (
      refl,
      subst (λ (k : Key). IsTextAt k prepared.text (run_schema prepared.place.schema stands) prepared.place.settings) (sym is)
          (refl, (stayed_schema prepared.place.schema stands stays, refl)),
    )
run_for setup hostgroup multiplex prepared_key key prepared stands args due same false stays here moved =
    let is : setup.keys due.key ≡ record { text = prepared.text; place = record { schema = stands; settings = prepared.place.settings } } =
    ap setup.keys same ∙ moved refl in (
      refl,
      subst (λ (k : Key). IsTextAt k prepared.text (run_schema prepared.place.schema stands) prepared.place.settings) (sym is)
          (refl, (moved_schema prepared.place.schema stands stays, refl)),
    )

-- So a statement is due that prepares a text.

-- by its command
record PreparesAs (text : List ℕ) (class : Class) (hostgroup : Hostgroup) (multiplex : Option Bool) (key number : ℕ) (row : Client) (command : Command) : Type 0 where
  kind : kind_of command ≡ wishes.Prepare
  says : is_text command ≡ true
  formed : (reads : Reads) → AreClasses reads → IsForm reads (forms.Prepare class) command
  marked : (reads : Reads) → AreClasses reads → is_marked reads command ≡ class.marks_id
  keyed_for : (setup : Setup) → setup.keys key ≡ record { text = text; place = row.desk.seat.place } → (due : Due) → due.key ≡ key
      → due.place ≡ row.desk.seat.place → IsKeyedFor setup (prepare_route hostgroup text multiplex key number) due command
  whole : HasArgs command

prepares_as : (text : List ℕ) (class : Class) (hostgroup : Hostgroup) (multiplex : Option Bool) (key number : ℕ) (row : Client) → class ≡ class_of text
    → 0 < number → PreparesAs text class hostgroup multiplex key number row (commands.Prepare text)
prepares_as text class hostgroup multiplex key number row classed some = record {
  kind = refl;
  says = refl;
  formed = λ reads classes. record {
    is = classed ∙ sym (classes.class text);
    hides = ap (λ (c : Class). c.sets_id) classed ∙ sym (classes.hides text);
  };
  marked = λ reads classes. ap (λ (c : Class). c.marks_id) (classes.class text ∙ sym classed);
  keyed_for = λ setup stands due same place. prepared_for setup hostgroup text multiplex key number row due some stands same place;
  whole = tt;
}

pub due_prepared : (book : Rulebook) (made : Administered) (judged texts : Texts) → AreMore judged texts → (ordinal flag since : ℕ) (hostgroup : Hostgroup) (text : List ℕ)
    (multiplex : Option Bool) (class : Class) (c : ClientNo) (old new : Tabled)
    → OnUp c old (λ row message. (nat_eq (byte_of message.payload) com_prepare ≡ true) × (class ≡ class_of text))
    → OnUp c old (λ row message. IsInMemory row.desk.seat.statements message.payload)
    → IsDueToPrepare ordinal flag since hostgroup text multiplex class c texts old new
    → OnUp c old (λ row message. row.desk.seat.port ≡ Traffic
    → IsPreparedSo book (situation_at (key_at judged) row.desk) (next_number row.desk.seat.statements) c message.payload hostgroup text multiplex
    → IsDueThere hostgroup ordinal (ruled_by book texts made made) c row message old new)
due_prepared book made judged texts more ordinal flag since hostgroup text multiplex class c old new verdict memory due =
    on-up old c due.row (λ row message. row.desk.seat.port ≡ Traffic → IsPreparedSo book (situation_at (key_at judged) row.desk) (next_number row.desk.seat.statements) c message.payload hostgroup text multiplex
    → IsDueThere hostgroup ordinal (ruled_by book texts made made) c row message old new) due.there
    (λ message found port promised.
    let row_is : due.due.row ≡ due.row = same_Some due.due.row due.row (sym due.due.there ∙ due.there) in
    let asked : asked_in due.row.desk.seat.statements message.payload (Some text) ≡ Some (Says due.due.command) =
    subst (λ (r : Client). asked_in r.desk.seat.statements message.payload (Some text) ≡ Some (Says due.due.command)) row_is
    (asked_then due.due.row message (Some text) (Says due.due.command) (ap found_of row_is ∙ found) due.due.asked) in
    let said : text_in message.payload (Some text) ≡ Some (Says due.due.command) =
    said-in due.row.desk.seat.statements message.payload (Some text) due.due.command asked in
    let on = verdict due.row due.there message found in
    let some : Some (Says (commands.Prepare text)) ≡ Some (Says due.due.command) = sym (prepare-asks message.payload text on.0) ∙ said in
    let is : commands.Prepare text ≡ due.due.command = cc in
    let statements : ClientStatements = due.row.desk.seat.statements in
    let next : promised.number ≡ statements.last + 1 = next-is statements promised.number promised.next_is in
    let few : statements.last < 4294967295 = next-few statements promised.number (memory due.row due.there message found).last promised.next_is in
    let greater : 0 < promised.number = omega (arith, next) in
    let at : PreparesAs text class hostgroup multiplex due.key promised.number due.row due.due.command =
    subst (PreparesAs text class hostgroup multiplex due.key promised.number due.row) is
    (prepares_as text class hostgroup multiplex due.key promised.number due.row on.1 greater) in
    let one : Keyed = record { number = due.key; key = record { text = text; place = due.row.desk.seat.place } } in
    record {
      route = prepare_route hostgroup text multiplex due.key promised.number;
      keyed = one ∷ [];
      there = refl;
      single = refl;
      under = All-cons (λ (k : Keyed). key_at texts k.number ≡ Some k.key) one [] due.keyed (All-nil (λ (k : Keyed). key_at texts k.number ≡ Some k.key));
      prepares = λ numbered. ap is_some due.keyed;
      ruled = λ kept. record {
        wanted = record {
          route = record (route_by hostgroup (Some text) multiplex) { number = promised.number };
          key = Some (record { text = text; place = due.row.desk.seat.place });
        };
        routed = refl;
        keyed = λ key is_key. due.keyed ∙ is_key;
        port = port;
        is = more_verdict book judged texts more due.row.desk kept c message.payload _ promised.ruled;
      };
      nothing = refl;
      flag = flag;
      command = due.due.command;
      work = prepare_work ordinal hostgroup since multiplex due.key (forms.Prepare class) (spelling 0 (text_payload due.due.command));
      statements = due.due.taken.statements;
      asked = λ setup keyed. ap (option_map (request_of setup due.row.desk.seat.place.schema due.key (λ (key : ℕ). key))) asked;
      request = λ reads classes. record {
        ordinal_is = refl;
        key_is = refl;
        multiplex_is = refl;
        kind = at.kind;
        marks = at.marked reads classes;
        form = at.formed reads classes;
        body = (at.says, refl);
      };
      at = refl;
      numbered = λ prepares. (next, few);
      keyed_for = λ setup keyed story_due key place. at.keyed_for setup (first_of one [] setup.keys keyed) story_due key place;
      whole = λ bound. at.whole;
      noted = noted_there false old c due.row message due.due.taken.statements due.there found due.due.taken.noted;
      same = due.due.taken.same;
    })
