-- What a client prepared is executed on a server: a statement of it is due.
use Rattle.std.specs.Prelude.{◌≡◌, ◌<◌, ◌&&◌, ◌||◌, ℕ, Bool, true, false, not, length, nat_eq, nat_le, slice_index_or, if◌then◌else◌, List, [], ◌∷◌, Option, Some, None}
use Rattle.std.specs.Option.{option_and_then, option_map, option_or}
use Rattle.std.proofs.Common.{refl, sym, ap, subst, ◌∙◌, arith}
use Rattle.std.proofs.lemmas.Bool.{leb-true, ne_eqb}
use Rattle.std.proofs.lemmas.List.Elements.{All-cons, All-nil}
use Rattle.std.proofs.lemmas.Option.{none-some, same_Some}
use Rattle.mx_base.specs.Fields.{number_at}
use Rattle.mx_base.specs.declared.names.ClientNo.{ClientNo}
use Rattle.mx_base.specs.declared.names.Hostgroup.{Hostgroup}
use Rattle.mx_base.specs.declared.names.Port.TheVariants.{Traffic}
use Rattle.packet_frame.specs.Packets.{Framed}
use Rattle.pin_classifier.specs.Classes.{class_of}
use Rattle.pin_classifier.specs.declared.class.Class.{Class}
use Rattle.private_model.specs.Commands as commands
use Rattle.private_model.specs.Commands.{Args}
use Rattle.private_model.specs.Story.{Key}
use Rattle.private_model.specs.View.{Setup}
use Rattle.run_laws.specs.Wholes.{AreWhole}
use Rattle.run_laws.proofs.Binding.{args_whole}
use Rattle.log_story.specs.Executes.{given_in, run_of, run_schema}
use Rattle.log_story.specs.Executes.{run_key as story_key}
use Rattle.log_story.specs.Plan.{com_execute, com_statement_reset}
use Rattle.client_seat.specs.Numbers.{Numbered, number_in, numbered}
use Rattle.client_seat.specs.Requests.{Asked, Runs, args_by, asked_in, request_of, run_in, text_in}
use Rattle.stmt_map.specs.Client.{statement_at}
use Rattle.stmt_map.specs.declared.client.ClientStatements.{ClientStatements}
use Rattle.stmt_map.specs.declared.statement.Statement.{Statement}
use Rattle.link_state.specs.declared.asking.Form.TheVariants as forms
use Rattle.link_state.specs.declared.wish.Command.TheVariants as wishes
use Rattle.router_promises.specs.Statements.{are_types, execute_size}
use Rattle.router_promises.specs.Verdicts.{unplaced}
use Rattle.message_judge.proofs.Typed.{lacks-same}
use Rattle.message_judge.specs.declared.caller.Prepared.{Prepared}
use Rattle.shared_router.proofs.Arguing.{long_enough, types_there}
use Rattle.core_tables.specs.Tables.{Tabled}
use Rattle.core_tables.specs.Taking.{found_of, run_work}
use Rattle.core_tables.specs.declared.client.Client.{Client}
use Rattle.core_texts.specs.Texts.{AreMore, key_at}
use Rattle.core_texts.specs.declared.texts.Texts.{Texts}
use Rattle.core_laws.proofs.OfTaking.Joining.{noted_there}
use Rattle.core_laws.specs.clients.Turns.{AreBoundSo, Keyed}
use Rattle.core_promises.specs.Administers.{Administered}
use Rattle.core_promises.specs.Judges.{IsVerdictFor, Rulebook}
use Rattle.core_promises.specs.Ruled.{known_as, situation_at}
use Rattle.core_promises.specs.Statements.{number_named}
use Rattle.core_turns.specs.Judged.{IsExecute, byte_of, goes_with, is_whole, route_by}
use Rattle.core_turns.specs.Preparing.{IsDueToRun, IsHeld, IsHeldIf, IsInMemory, IsRunBy, moved_key, named_as, named_in, statement_named, stays_in}
use Rattle.core_turns.specs.Taken.{IsDueThere, Keys, OnUp}
use Rattle.core_turns.specs.declared.judged.Named.{Named}
use Rattle.core_turns.proofs.Keys.{more_verdict, ruled_by}
use Rattle.core_turns.proofs.Prepared.{asked_then, first_of, run_command, run_for, run_key_is, run_route, second_of, text_key}
use Rattle.core_turns.proofs.Ups.{on-up}

then-some : {A B : Type 0} (f : A → Option B) (o : Option A) (b : B) → option_and_then f o ≡ Some b → (a : A) × ((o ≡ Some a) × (f a ≡ Some b))
then-some f None b is = absurd (none-some b is)
then-some f (Some a) b is = (a, (refl, is))

map-some : {A B : Type 0} (f : A → B) (o : Option A) (b : B) → option_map f o ≡ Some b → (a : A) × ((o ≡ Some a) × (f a ≡ b))
map-some f None b is = absurd (none-some b is)
map-some f (Some a) b is = (a, (refl, same_Some (f a) b is))

-- Which statement an execute runs.

pub record IsRunOf (texts : Texts) (statements : ClientStatements) (payload : List ℕ) (named : Named) (number : ℕ) (args : Args) : Type 0 where
  place : ℕ
  statement : Statement
  found : statement_named statements payload ≡ Some statement
  there : number_in statements place ≡ Some (numbered statement)
  number_is : number ≡ named.key
  key : Key
  keyed : key_at texts named.key ≡ Some key
  known : named.prepared ≡ known_as key statement
  args_is : args ≡ args_by (numbered statement) payload

abbrev named_by : Statement → Key → Named
named_by statement key = record { key = statement.prepared.key; prepared = known_as key statement }

abbrev runs_by : (payload : List ℕ) → Numbered → Asked
runs_by payload one = Runs one.prepared.key (args_by one payload)

same-key : (key other : ℕ) (args given : Args) → Runs key args ≡ Runs other given → other ≡ key
same-key key other args given is = cc

same-args : (key other : ℕ) (args given : Args) → Runs key args ≡ Runs other given → given ≡ args
same-args key other args given is = cc

run-of : (texts : Texts) (statements : ClientStatements) (payload : List ℕ) (named : Named) (number : ℕ) (args : Args)
    → nat_eq (byte_of payload) com_execute ≡ true → asked_in statements payload None ≡ Some (Runs number args) → named_in texts statements payload ≡ Some named
    → IsRunOf texts statements payload named number args
run-of texts statements payload named number args executes asked is =
    let run : run_in statements payload ≡ Some (Runs number args) =
    subst (λ (b : Bool). (if b then run_in statements payload else text_in payload None) ≡ Some (Runs number args)) executes asked in
    let place_is : number_named payload ≡ number_at 4 1 payload =
    ap (λ (b : Bool). if b || nat_eq (slice_index_or payload 0 0) com_statement_reset then number_at 4 1 payload else None) executes in
    let one = map-some (runs_by payload) (option_and_then (number_in statements) (number_at 4 1 payload)) (Runs number args) run in
    let at = then-some (number_in statements) (number_at 4 1 payload) one.0 one.1.0 in
    let statement = then-some (named_as texts) (statement_named statements payload) named is in
    let named_at = then-some (statement_at statements) (number_named payload) statement.0 statement.1.0 in
    let key = map-some (named_by statement.0) (key_at texts statement.0.prepared.key) named statement.1.1 in
    let same : Some named_at.0 ≡ Some at.0 = sym named_at.1.0 ∙ place_is ∙ at.1.0 in
    let place : named_at.0 ≡ at.0 = same_Some named_at.0 at.0 same in
    let there : number_in statements named_at.0 ≡ Some (numbered statement.0) = ap (option_map numbered) named_at.1.1 in
    let one_is : numbered statement.0 ≡ one.0 =
    same_Some (numbered statement.0) one.0 (sym there ∙ ap (number_in statements) place ∙ at.1.1) in
    let runs : runs_by payload (numbered statement.0) ≡ Runs number args = ap (runs_by payload) one_is ∙ one.1.1 in
    let key_is : statement.0.prepared.key ≡ named.key = ap (λ (n : Named). n.key) key.1.1 in
    record {
      place = named_at.0;
      statement = statement.0;
      found = statement.1.0;
      there = there;
      number_is = same-key statement.0.prepared.key number (args_by (numbered statement.0) payload) args runs ∙ key_is;
      key = key.0;
      keyed = subst (λ (k : ℕ). key_at texts k ≡ Some key.0) key_is key.1.0;
      known = sym (ap (λ (n : Named). n.prepared) key.1.1);
      args_is = same-args statement.0.prepared.key number (args_by (numbered statement.0) payload) args runs;
    }

-- Its arguments are whole.

both-left : (a b : Bool) → (a && b) ≡ true → a ≡ true
both-left true b is = refl
both-left false b is = absurd (let e = is in cc)

both-right : (a b : Bool) → (a && b) ≡ true → b ≡ true
both-right true b is = is
both-right false b is = absurd (let e = is in cc)

typed-so : (none typed : Bool) → not (not none && not typed) ≡ true → none ≡ false → typed ≡ true
typed-so true typed is some = absurd (let e = some in cc)
typed-so false true is some = refl
typed-so false false is some = absurd (let e = is in cc)

module _ (texts : Texts) (statements : ClientStatements) (payload : List ℕ) (named : Named) (number : ℕ) (args : Args)
    (is : IsRunOf texts statements payload named number args) (executed : IsExecute named.prepared payload) (memory : IsInMemory statements payload)
    (bound : AreBoundSo statements) where
  abbrev params : ℕ
  params = is.statement.prepared.params

  held : IsHeld is.statement
  held = subst IsHeldIf is.found memory.held

  whole-so : (nat_le (execute_size params payload) (length payload)
      && not (not (nat_eq params 0) && not (are_types params (option_or (given_in params payload).types is.statement.types)))) ≡ true
  whole-so =
      lacks-same params payload is.statement.types
      ∙ subst (λ (p : Prepared). is_whole p payload ≡ true) is.known executed.1

  sized : nat_le (execute_size params payload) (length payload) ≡ true
  sized = both-left (nat_le (execute_size params payload) (length payload)) _ whole-so

  typed : 0 < params → are_types params (option_or (given_in params payload).types is.statement.types) ≡ true
  typed some =
      typed-so (nat_eq params 0) (are_types params (option_or (given_in params payload).types is.statement.types))
      (both-right (nat_le (execute_size params payload) (length payload)) _ whole-so) (ne_eqb params 0 (λ e. omega (arith, e, some)))

  pub runs-whole : AreWhole params args
  runs-whole =
      let so = bound is.place (numbered is.statement) is.there in
      subst (AreWhole params) (sym is.args_is)
      (args_whole params (numbered is.statement).bound payload held.few so.parts held.short so.untyped
      (λ some. long_enough params payload some (leb-true (execute_size params payload) (length payload) sized))
      (λ some. types_there params (option_or (given_in params payload).types is.statement.types) (typed some)) memory.size)

-- By which number it goes.

abbrev found_key : (stays : Bool) → Prepared → (stands : List ℕ) → Key
found_key stays prepared stands = if stays then text_key prepared else moved_key prepared stands

found-by : (texts : Texts) (prepared_key : ℕ) (prepared : Prepared) (stands : List ℕ) (key : ℕ) (stays : Bool) → key_at texts prepared_key ≡ Some (text_key prepared)
    → IsRunBy stays texts prepared_key prepared stands key → key_at texts key ≡ Some (found_key stays prepared stands)
found-by texts prepared_key prepared stands key true there by = ap (key_at texts) by ∙ there
found-by texts prepared_key prepared stands key false there by = by

unmoved : (key : Key) (schema : List ℕ) → key.place.schema ≡ schema → key ≡ record key { place = record key.place { schema = schema } }
unmoved key schema is = ap (λ (s : List ℕ). record key { place = record key.place { schema = s } }) is

-- what is to stand under it does
unplaced-so : (keys : Keys) (schema stands : List ℕ) (text : Key) (key : ℕ) → text.place.schema ≡ schema
    → keys key ≡ Some (if stays_in schema stands then text else record text { place = record text.place { schema = stands } })
    → (wanted : Key) → unplaced schema text stands ≡ Some wanted → keys key ≡ Some wanted
unplaced-so keys [] [] text key schema there wanted is = there ∙ (ap Some (unmoved text [] schema) ∙ is)
unplaced-so keys [] (byte ∷ stands) text key schema there wanted is = there ∙ is
unplaced-so keys (byte ∷ prepared) [] text key schema there wanted is = there ∙ is
unplaced-so keys (byte ∷ prepared) (other ∷ stands) text key schema there wanted is = absurd (none-some wanted is)

same-by : (stays : Bool) (texts : Texts) (prepared_key : ℕ) (prepared : Prepared) (stands : List ℕ) (key : ℕ) → IsRunBy stays texts prepared_key prepared stands key
    → stays ≡ true → key ≡ prepared_key
same-by true texts prepared_key prepared stands key by is = by
same-by false texts prepared_key prepared stands key by is = absurd (let e = is in cc)

kept-so : (stays : Bool) (keys : (number : ℕ) → Key) (key : ℕ) (prepared : Prepared) (stands : List ℕ) → keys key ≡ found_key stays prepared stands
    → stays ≡ true → keys key ≡ text_key prepared
kept-so true keys key prepared stands at is = at
kept-so false keys key prepared stands at is = absurd (let e = is in cc)

moved-so : (stays : Bool) (keys : (number : ℕ) → Key) (key : ℕ) (prepared : Prepared) (stands : List ℕ) → keys key ≡ found_key stays prepared stands
    → stays ≡ false → keys key ≡ moved_key prepared stands
moved-so true keys key prepared stands at is = absurd (let e = is in cc)
moved-so false keys key prepared stands at is = at

-- what it asks for in a story
run-asked : (setup : Setup) (prepared : Prepared) (prepared_key number key : ℕ) (stands : List ℕ) (args : Args) → number ≡ prepared_key
    → setup.keys prepared_key ≡ text_key prepared → (stays_in prepared.place.schema stands ≡ true → key ≡ prepared_key)
    → run_of setup args stands key number ≡ record { command = run_command prepared stands args; key = key }
run-asked setup prepared prepared_key number key stands args number_is at stays =
    ap (run_of setup args stands key) number_is
    ∙ ap (λ (k : Key). record {
      command = commands.Run k.text (run_schema k.place.schema stands) k.place.settings args;
      key = story_key k.place.schema stands prepared_key key;
    }) at
    ∙ ap (λ (k : ℕ). record { command = run_command prepared stands args; key = k }) (run_key_is prepared.place.schema stands prepared_key key stays)

-- So a statement is due that executes it.

module _ (book : Rulebook) (made : Administered) (judged texts : Texts) (more : AreMore judged texts) (ordinal flag since : ℕ) (hostgroup : Hostgroup) (multiplex : Option Bool)
    (named : Named) (c : ClientNo) (old new : Tabled) where
  abbrev prepared : Prepared
  prepared = named.prepared

  abbrev IsRuledRun : Client → Framed → Type 0
  IsRuledRun row message = IsVerdictFor book (situation_at (key_at judged) row.desk) c message.payload
      (goes_with (route_by hostgroup None multiplex)
      (unplaced prepared.place.schema (record { text = prepared.text; place = prepared.place }) row.desk.seat.place.schema))

  module _ (due : IsDueToRun ordinal flag since hostgroup multiplex named.key prepared c texts old new) (message : Framed) (found : found_of due.row ≡ Some message)
      (is_named : named_in judged due.row.desk.seat.statements message.payload ≡ Some named) (executed : IsExecute prepared message.payload)
      (memory : IsInMemory due.row.desk.seat.statements message.payload) where
    abbrev statements : ClientStatements
    statements = due.row.desk.seat.statements

    abbrev stands : List ℕ
    stands = due.row.desk.seat.place.schema

    abbrev stays : Bool
    stays = stays_in prepared.place.schema stands

    asked : asked_in statements message.payload None ≡ Some (Runs due.due.key due.due.args)
    asked =
        let row_is : due.due.row ≡ due.row = same_Some due.due.row due.row (sym due.due.there ∙ due.there) in
        subst (λ (r : Client). asked_in r.desk.seat.statements message.payload None ≡ Some (Runs due.due.key due.due.args)) row_is
        (asked_then due.due.row message None (Runs due.due.key due.due.args) (ap found_of row_is ∙ found) due.due.asked)

    of : IsRunOf judged statements message.payload named due.due.key due.due.args
    of = run-of judged statements message.payload named due.due.key due.due.args executed.0 asked is_named

    abbrev first : Keyed
    first = record { number = named.key; key = text_key prepared }

    abbrev second : Keyed
    second = record { number = due.key; key = found_key stays prepared stands }

    first-there : key_at texts named.key ≡ Some (text_key prepared)
    first-there = more.kept named.key (text_key prepared) (of.keyed ∙ ap (λ (p : Prepared). Some (text_key p)) (sym of.known))

    second-there : key_at texts due.key ≡ Some (found_key stays prepared stands)
    second-there = found-by texts named.key prepared stands due.key stays first-there due.keyed

    same : stays ≡ true → due.key ≡ named.key
    same = same-by stays texts named.key prepared stands due.key due.keyed

    pub ran-there : due.row.desk.seat.port ≡ Traffic → IsRuledRun due.row message → IsDueThere hostgroup ordinal (ruled_by book texts made made) c due.row message old new
    ran-there port ruled = record {
      route = run_route hostgroup multiplex due.key;
      keyed = first ∷ second ∷ [];
      there = refl;
      single = refl;
      under = All-cons (λ (k : Keyed). key_at texts k.number ≡ Some k.key) first (second ∷ []) first-there
          (All-cons (λ (k : Keyed). key_at texts k.number ≡ Some k.key) second [] second-there (All-nil (λ (k : Keyed). key_at texts k.number ≡ Some k.key)));
      prepares = λ numbered. absurd (let none : 0 < 0 = numbered in omega (arith, none));
      ruled = λ kept. record {
        wanted = record {
          route = route_by hostgroup None multiplex;
          key = unplaced prepared.place.schema (record { text = prepared.text; place = prepared.place }) stands;
        };
        routed = refl;
        keyed = λ key is_key. unplaced-so (key_at texts) prepared.place.schema stands (text_key prepared) due.key refl second-there key is_key;
        port = port;
        is = more_verdict book judged texts more due.row.desk kept c message.payload _ ruled;
      };
      nothing = refl;
      flag = flag;
      command = run_command prepared stands due.due.args;
      work = run_work ordinal hostgroup since multiplex due.key (forms.Text prepared.class) due.due.args;
      statements = due.due.taken.statements;
      asked = λ setup keyed. ap (option_map (request_of setup stands due.key (λ (key : ℕ). key))) asked
          ∙ ap Some (run-asked setup prepared named.key due.due.key due.key stands due.due.args of.number_is (first_of first (second ∷ []) setup.keys keyed) same);
      request = λ reads classes. record {
        ordinal_is = refl;
        key_is = refl;
        multiplex_is = refl;
        kind = refl;
        marks = ap (λ (x : Class). x.marks_id) (classes.class prepared.text ∙ sym classed);
        form = record { is = classed ∙ sym (classes.class prepared.text); hides = ap (λ (x : Class). x.sets_id) classed ∙ sym (classes.hides prepared.text) };
        body = refl;
      };
      at = refl;
      numbered = λ prepares. (let no : wishes.Execute ≡ wishes.Prepare = prepares in absurd (cc));
      keyed_for = λ setup keyed story_due key place.
          let at = second_of first second setup.keys keyed in
          run_for setup hostgroup multiplex named.key due.key prepared stands due.due.args story_due key stays refl
          (kept-so stays setup.keys due.key prepared stands at) (moved-so stays setup.keys due.key prepared stands at);
      whole = λ bound. (
        of.statement.prepared.params,
        runs-whole judged statements message.payload named due.due.key due.due.args of executed memory bound,
      );
      noted = noted_there false old c due.row message due.due.taken.statements due.there found due.due.taken.noted;
      same = due.due.taken.same;
    }
      where
        classed : prepared.class ≡ class_of prepared.text
        classed = subst (λ (p : Prepared). p.class ≡ class_of p.text) (sym of.known) refl

  pub due_run : OnUp c old (λ row message. (named_in judged row.desk.seat.statements message.payload ≡ Some named) × IsExecute prepared message.payload)
      → OnUp c old (λ row message. IsInMemory row.desk.seat.statements message.payload)
      → IsDueToRun ordinal flag since hostgroup multiplex named.key prepared c texts old new
      → OnUp c old (λ row message. row.desk.seat.port ≡ Traffic → IsRuledRun row message → IsDueThere hostgroup ordinal (ruled_by book texts made made) c row message old new)
  due_run verdict memory due =
      on-up old c due.row (λ row message. row.desk.seat.port ≡ Traffic → IsRuledRun row message → IsDueThere hostgroup ordinal (ruled_by book texts made made) c row message old new) due.there
      (λ message found.
      let on = verdict due.row due.there message found in
      ran-there due message found on.0 on.1 (memory due.row due.there message found))
