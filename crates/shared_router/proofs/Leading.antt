-- What is asked on the way to a statement is wanted by it: steps that lead somewhere, and the preparation of its text.
use Rattle.std.specs.Prelude.{◌≡◌, ℕ, Bool, true, false, not, ◌&&◌, ◌||◌, bytes_eq, is_some, nat_eq, if◌then◌else◌, List, [], ◌∷◌, Option, Some, None}
use Rattle.std.specs.List.{list_any}
use Rattle.std.specs.Option.{option_map_or, option_or}
use Rattle.std.specs.Prelude.{unwrap_or}
use Rattle.std.proofs.Common.{refl, sym, ap, ◌∙◌, subst}
use Rattle.std.proofs.lemmas.Bool.{and_from, or_left, or_right}
use Rattle.std.proofs.lemmas.Slice.Eq.{bytes_eq-Decides}
use Rattle.session_state.specs.Pins.{is_pinned, needs_reset}
use Rattle.session_state.specs.declared.place.Place.{Place}
use Rattle.session_state.specs.declared.place.Told.{Told}
use Rattle.session_vars.specs.Settings.{difference_of}
use Rattle.session_vars.specs.Texts.{names_text, session_text}
use Rattle.private_model.proofs.Maps.{number_of, same_number}
use Rattle.private_model.specs.Commands.{Command, FieldList, InitDb, Number, Prepare, Query, Quit, ReadId, Reset, Run, SetId, is_marked}
use Rattle.private_model.specs.Names.{SessionName}
use Rattle.private_model.specs.Story.{Capture, Due, End, Own, Prep, Question, Statement, Sync, is_name}
use Rattle.private_model.specs.View.{Carried, Held, Joined, Lent, Link, Nobody, Setup, View, present}
use Rattle.log_story.specs.Servers.{is_quiet}
use Rattle.tale_world.specs.Policy.{Readied, for_session, id_step, is_unprepared, key_place, next_question, numbered, or_else, place_step, question_for}
use Rattle.tale_world.specs.Tests.{are_settings, is_id, is_schema}
use Rattle.router_promises.specs.Wants.{is_number, is_text, leads_to, places_of, prepares_first, wants, with_autocommit}
use Rattle.shared_router.specs.Wishes.{leads_by, texts}

isnt : {A : Type 0} → false ≡ true → A
isnt is = absurd (cc)

no_some : {A B : Type 0} (a : A) → None ≡ Some a → B
no_some a is = absurd (cc)

some_of : {A : Type 0} (a b : A) → Some a ≡ Some b → a ≡ b
some_of a b is = cc

-- it leads to a schema, or has a text
abbrev pub MayLead : Command → Type 0
MayLead (InitDb schema) = not (bytes_eq schema []) ≡ true
MayLead (Query text) = not (bytes_eq text []) ≡ true
MayLead _ = Unit {0}

itself : (bytes : List ℕ) → bytes_eq bytes bytes ≡ true
itself bytes = (bytes_eq-Decides bytes bytes).1 refl

turned : (a b : List ℕ) → bytes_eq a b ≡ false → bytes_eq b a ≡ false
turned a b apart = by_test (bytes_eq b a) refl where
  by_test : (c : Bool) → bytes_eq b a ≡ c → bytes_eq b a ≡ false
  by_test false is = is
  by_test true is =
      let same : b ≡ a = (bytes_eq-Decides b a).0 is in
      isnt (sym apart ∙ ap (λ x. bytes_eq a x) same ∙ itself a)

numbers_turned : (a b : ℕ) → nat_eq a b ≡ false → nat_eq b a ≡ false
numbers_turned a b apart = by_test (nat_eq b a) refl where
  by_test : (c : Bool) → nat_eq b a ≡ c → nat_eq b a ≡ false
  by_test false is = is
  by_test true is =
      let same : b ≡ a = number_of b a is in
      isnt (sym apart ∙ ap (λ x. nat_eq a x) same ∙ same_number a)

-- A step to a place.

untold : (told : Option (List ℕ)) (schema : List ℕ) → is_schema told schema ≡ false → is_text schema told ≡ false
untold None schema is = refl
untold (Some old) schema is = turned old schema is

text_so : (names session : Option (List ℕ)) (text : List ℕ) → text ≡ unwrap_or (option_or names session) [] → not (bytes_eq text []) ≡ true
    → (is_text text names || is_text text session) ≡ true
text_so (Some t) session text is some = or_left (is_text text (Some t)) _ (ap (λ x. bytes_eq x t) is ∙ itself t)
text_so None (Some t) text is some = ap (λ x. bytes_eq x t) is ∙ itself t
text_so None None text is some = isnt (sym (ap (λ x. not (bytes_eq x [])) is) ∙ some)

place_leads : (told : Told) (place : Place) (c : Command) → place_step texts told place ≡ Some c → MayLead c → leads_to c told place ≡ true
place_leads told place c is may = by_schema (is_schema told.schema place.schema) refl is where
  Leads : Command → Type 0
  Leads c = MayLead c → leads_to c told place ≡ true

  chooses : is_schema told.schema place.schema ≡ false → Leads (InitDb place.schema)
  chooses apart may =
      and_from (bytes_eq place.schema place.schema) _ (itself place.schema)
      (and_from (not (bytes_eq place.schema [])) _ may (ap not (untold told.schema place.schema apart)))

  sets : Leads (Query (leads_by told.settings place.settings))
  sets may =
      text_so (names_text (difference_of told.settings place.settings)) (session_text (difference_of told.settings place.settings))
      (leads_by told.settings place.settings) refl may

  by_settings : (b : Bool) → (if not b then Some (Query (leads_by told.settings place.settings)) else None) ≡ Some c → leads_to c told place ≡ true
  by_settings true now = no_some c now
  by_settings false now = subst Leads (some_of _ c now) sets may

  by_schema : (b : Bool) → is_schema told.schema place.schema ≡ b
      → (if not b then Some (InitDb place.schema) else if not (are_settings told.settings place.settings)
      then Some (Query (leads_by told.settings place.settings)) else None) ≡ Some c → leads_to c told place ≡ true
  by_schema false at now = subst Leads (some_of _ c now) (chooses at) may
  by_schema true at now = by_settings (are_settings told.settings place.settings) now

first_same : (link : Link) (due : Due) (command : Command) → is_unprepared link.live due command ≡ prepares_first link command due.key
first_same link due (Run text schema settings args) = refl
first_same link due (Query text) = refl
first_same link due (InitDb schema) = refl
first_same link due (FieldList rest) = refl
first_same link due (SetId n) = refl
first_same link due ReadId = refl
first_same link due (Prepare text) = refl
first_same link due Reset = refl
first_same link due Quit = refl

-- What is asked for a statement.

pub data Asked (setup : Setup) (link : Link) (held : Held) (n : SessionName) (due : Due) (step : Command → Question) : Question → Type 0 where
  Steps : (c : Command) → (MayLead c → wants setup link held due c ≡ true) → Asked setup link held n due step (step c)
  Prepares : prepares_first link due.command due.key ≡ true → Asked setup link held n due step (Prep n due.key (setup.keys due.key).text)
  States : Asked setup link held n due step (Statement n due)

module _ (fits : ℕ → Option Number) (numbers : (i : ℕ) (number : Number) → fits i ≡ Some number → number.value ≡ i) (setup : Setup) where
  module _ (link : Link) (held : Held) (n : SessionName) (due : Due) (step : Command → Question) where
    abbrev Wants : Command → Type 0
    Wants c = wants setup link held due c ≡ true

    abbrev leads_there : Command → Place → Bool
    leads_there c place = leads_to c link.told place

    its_place : (c : Command) → leads_there c due.place ≡ true → Wants c
    its_place c is = or_left (list_any (leads_to c link.told) (places_of setup link due)) _ (or_left (leads_there c due.place) _ is)

    first_place : (c : Command) → prepares_first link due.command due.key ≡ true → leads_there c (key_place texts setup due link.told) ≡ true → Wants c
    first_place c first is =
        or_left (list_any (leads_to c link.told) (places_of setup link due)) _
        (or_right (leads_there c due.place) _
        (subst (λ b. list_any (leads_to c link.told) (if b then with_autocommit link.told.settings (setup.keys due.key).place ∷ [] else []) ≡ true) (sym first)
        (or_left (leads_there c (key_place texts setup due link.told)) false is)))

    id_wants : (c : Command) → id_step setup fits due link.marked link.id held.id ≡ Some c → Wants c
    id_wants c is = by_test (is_marked setup.reads due.command) link.marked refl is where
      sets : (number : Number) (i : ℕ) → held.id ≡ Some i → number.value ≡ i → is_marked setup.reads due.command ≡ true → is_id link.id (Some i) ≡ false → Wants (SetId number)
      sets number i at same marked apart =
          or_right (list_any (leads_to (SetId number) link.told) (places_of setup link due)) _
          (and_from (is_marked setup.reads due.command) _ marked
          (and_from (is_number number.value held.id) _
          (ap (is_number number.value) at ∙ ap (λ x. nat_eq x i) same ∙ same_number i)
          (ap (λ x. not (is_number x link.id)) same ∙ ap not (other_id link.id apart))))
        where
          other_id : (o : Option ℕ) → is_id o (Some i) ≡ false → is_number i o ≡ false
          other_id None is = refl
          other_id (Some a) is = numbers_turned a i is

      by_number : (i : ℕ) → held.id ≡ Some i → is_marked setup.reads due.command ≡ true → is_id link.id (Some i) ≡ false
          → (o : Option Number) → fits i ≡ o → option_map_or (λ number. Some (SetId number)) o None ≡ Some c → Wants c
      by_number i at marked apart None there now = no_some c now
      by_number i at marked apart (Some number) there now = subst Wants (some_of (SetId number) c now) (sets number i at (numbers i number there) marked apart)

      by_id : (o : Option ℕ) → held.id ≡ o → is_marked setup.reads due.command ≡ true → is_id link.id o ≡ false
          → option_map_or (λ number. Some (SetId number)) (numbered o fits) None ≡ Some c → Wants c
      by_id None at marked apart now = no_some c now
      by_id (Some i) at marked apart now = by_number i at marked apart (fits i) refl now

      by_apart : (b : Bool) → is_id link.id held.id ≡ b → is_marked setup.reads due.command ≡ true
          → (if not b then option_map_or (λ number. Some (SetId number)) (numbered held.id fits) None else None) ≡ Some c → Wants c
      by_apart true at marked now = no_some c now
      by_apart false at marked now = by_id held.id refl marked at now

      by_test : (b was : Bool) → is_marked setup.reads due.command ≡ b
          → (if b && not (was || is_id link.id held.id) then option_map_or (λ number. Some (SetId number)) (numbered held.id fits) None else None) ≡ Some c → Wants c
      by_test false was at now = no_some c now
      by_test true true at now = no_some c now
      by_test true false at now = by_apart (is_id link.id held.id) refl at now

    abbrev Right : Question → Type 0
    Right = Asked setup link held n due step

    else_asked : (o : Option Command) (other : Question) → ((c : Command) → o ≡ Some c → MayLead c → Wants c) → Right other → Right (or_else o step other)
    else_asked None other each last = last
    else_asked (Some c) other each last = Steps c (each c refl)

    pub asked_of : Right (question_for texts fits setup n due step link held)
    asked_of = by_test (is_unprepared link.live due due.command) refl where
      by_test : (b : Bool) → is_unprepared link.live due due.command ≡ b
          → Right (if b then or_else (place_step texts link.told (key_place texts setup due link.told)) step (Prep n due.key (setup.keys due.key).text)
          else or_else (place_step texts link.told due.place) step (or_else (id_step setup fits due link.marked link.id held.id) step (Statement n due)))
      by_test true at =
          let first : prepares_first link due.command due.key ≡ true = sym (first_same link due due.command) ∙ at in
          else_asked (place_step texts link.told (key_place texts setup due link.told)) _
          (λ c is may. first_place c first (place_leads link.told (key_place texts setup due link.told) c is may)) (Prepares first)
      by_test false at =
          else_asked (place_step texts link.told due.place) _ (λ c is may. its_place c (place_leads link.told due.place c is may))
          (else_asked (id_step setup fits due link.marked link.id held.id) _ (λ c is may. id_wants c is) States)

-- By whom the link carries.

abbrev pub carrying : Carried → Link → Link
carrying c link = record link { carries = c }

pub data Source (setup : Setup) (view : View) (link : Link) (readied : Option Readied) : Carried → Question → Type 0 where
  ForWaiter : (r : Readied) (q : Question) → readied ≡ Some r → Asked setup (carrying Nobody link) (view.held r.name) r.name r.due Own q → Source setup view link readied Nobody q
  ForLent : (n : SessionName) (due : Due) (q : Question) → view.dues n ≡ Some due → Asked setup (carrying (Lent n) link) (view.held n) n due Own q
      → Source setup view link readied (Lent n) q
  ForJoined : (n : SessionName) (due : Due) (q : Question) → is_name n (present view n.client n.hostgroup) ≡ true → view.dues n ≡ Some due
      → Asked setup (carrying (Joined n) link) (view.held n) n due (Sync n) q → Source setup view link readied (Joined n) q
  Captures : (n : SessionName) → Source setup view link readied (Joined n) (Capture n)
  Ends : (n : SessionName) → Source setup view link readied (Joined n) (End n)

module _ (fits : ℕ → Option Number) (numbers : (i : ℕ) (number : Number) → fits i ≡ Some number → number.value ≡ i) (setup : Setup) (view : View) (link : Link)
    (readied : Option Readied) (q : Question) where
  due_asked : (n : SessionName) (c : Carried) (step : Command → Question) (o : Option Due)
      → option_map_or (λ due. Some (question_for texts fits setup n due step (carrying c link) (view.held n))) o None ≡ Some q
      → (due : Due) × ((o ≡ Some due) × Asked setup (carrying c link) (view.held n) n due step q)
  due_asked n c step None is = no_some q is
  due_asked n c step (Some due) is =
      (due, (refl, subst (Asked setup (carrying c link) (view.held n) n due step) (some_of _ q is) (asked_of fits numbers setup (carrying c link) (view.held n) n due step)))

  session_asked : (n : SessionName) → for_session texts fits setup view (carrying (Joined n) link) n ≡ Some q → Source setup view link readied (Joined n) q
  session_asked n is = by_present (is_name n (present view n.client n.hostgroup)) refl is where
    by_id : (b : Bool) → (if b then None else Some (Capture n)) ≡ Some q → Source setup view link readied (Joined n) q
    by_id true now = no_some q now
    by_id false now = subst (Source setup view link readied (Joined n)) (some_of (Capture n) q now) (Captures n)

    by_pin : (b : Bool) → is_name n (present view n.client n.hostgroup) ≡ true
        → (if b then option_map_or (λ due. Some (question_for texts fits setup n due (Sync n) (carrying (Joined n) link) (view.held n))) (view.dues n) None
        else if is_some (view.held n).id then None else Some (Capture n)) ≡ Some q → Source setup view link readied (Joined n) q
    by_pin true here now = let found = due_asked n (Joined n) (Sync n) (view.dues n) now in ForJoined n found.0 q here found.1.0 found.1.1
    by_pin false here now = by_id (is_some (view.held n).id) now

    by_reset : (b : Bool) → (if b then Some (End n) else None) ≡ Some q → Source setup view link readied (Joined n) q
    by_reset true now = subst (Source setup view link readied (Joined n)) (some_of (End n) q now) (Ends n)
    by_reset false now = no_some q now

    by_present : (b : Bool) → is_name n (present view n.client n.hostgroup) ≡ b
        → (if b then if is_pinned (view.held n).pin
        then option_map_or (λ due. Some (question_for texts fits setup n due (Sync n) (carrying (Joined n) link) (view.held n))) (view.dues n) None
        else if is_some (view.held n).id then None else Some (Capture n)
        else if needs_reset (view.held n).pin && not (view.lasting n) then Some (End n) else None) ≡ Some q → Source setup view link readied (Joined n) q
    by_present true here now = by_pin (is_pinned (view.held n).pin) here now
    by_present false left now = by_reset (needs_reset (view.held n).pin && not (view.lasting n)) now

  readied_asked : (o : Option Readied) → readied ≡ o
      → option_map_or (λ (r : Readied). Some (question_for texts fits setup r.name r.due Own (carrying Nobody link) (view.held r.name))) o None ≡ Some q
      → Source setup view link readied Nobody q
  readied_asked None at is = no_some q is
  readied_asked (Some r) at is =
      ForWaiter r q at
      (subst (Asked setup (carrying Nobody link) (view.held r.name) r.name r.due Own) (some_of _ q is) (asked_of fits numbers setup (carrying Nobody link) (view.held r.name) r.name r.due Own))

  if_not : (b : Bool) (o : Option Question) → (if not b then None else o) ≡ Some q → o ≡ Some q
  if_not true o is = is
  if_not false o is = no_some q is

  pub source_of : (c : Carried) → next_question texts fits setup view (carrying c link) readied ≡ Some q → Source setup view link readied c q
  source_of Nobody is = readied_asked readied refl (if_not (is_quiet link.stage && link.usable) _ is)
  source_of (Lent n) is =
      let found = due_asked n (Lent n) Own (view.dues n) (if_not (is_quiet link.stage && link.usable) _ is) in ForLent n found.0 q found.1.0 found.1.1
  source_of (Joined n) is = session_asked n (if_not (is_quiet link.stage && link.usable) _ is)
