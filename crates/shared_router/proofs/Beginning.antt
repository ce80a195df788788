-- What begins on a link to a server is the question that is wished there, and its first bytes are those of its spelling.
use Rattle.std.specs.Prelude.{◌≡◌, ℕ, Bool, true, false, not, ◌&&◌, ◌||◌, is_some, nat_eq, if◌then◌else◌, length, nat_le, slice_get, List, Option, Some, None}
use Rattle.std.specs.List.{list_any}
use Rattle.std.specs.Option.{option_map, option_map_or}
use Rattle.std.proofs.Common.{refl, sym, ap, subst}
use Rattle.private_model.specs.Commands.{Command, FieldList, InitDb, Number, Prepare, Query, Quit, ReadId, Reset, Run, SetId}
use Rattle.private_model.specs.Names.{SessionName}
use Rattle.private_model.specs.Story.{Capture, Due, End, Own, Prep, Question, Statement, Sync}
use Rattle.private_model.specs.Story.{is_name}
use Rattle.private_model.specs.View.{Carried, Held, Joined, Lent, Link, Nobody, Setup, View, present}
use Rattle.session_state.specs.Pins.{is_pinned, needs_reset}
use Rattle.log_story.specs.Plan.{Closes, Resets, StepText}
use Rattle.log_story.specs.Servers.{is_quiet}
use Rattle.tale_world.specs.Policy.{Readied, for_session, id_step, is_unprepared, key_place, next_question, or_else, place_step, question_for}
use Rattle.tale_world.specs.Wishes.{Standing, before_command, before_prepare, before_question, if_long}
use Rattle.shared_router.specs.Wishes.{texts}
use Rattle.shared_router.proofs.Spelling.{is_mute}

pub isnt : {A : Type 0} → false ≡ true → A
isnt is = absurd (cc)

pub no_some : {A B : Type 0} (a : A) → None ≡ Some a → B
no_some a is = absurd (cc)

pub some_of : {A : Type 0} (a b : A) → Some a ≡ Some b → a ≡ b
some_of a b is = cc

pub left_of : (a b : Bool) → (a && b) ≡ true → a ≡ true
left_of true b is = refl
left_of false b is = isnt is

pub right_of : (a b : Bool) → (a && b) ≡ true → b ≡ true
right_of true b is = is
right_of false b is = isnt is

-- of two tests one holds, where the other can't
pub first_of : (a b : Bool) → (a || b) ≡ true → b ≡ false → a ≡ true
first_of true b is not_b = refl
first_of false true is not_b = absurd (cc)
first_of false false is not_b = isnt is

pub and_no : (b : Bool) → (b && false) ≡ false
and_no true = refl
and_no false = refl

pub or_yes : (b : Bool) → (b || true) ≡ true
or_yes true = refl
or_yes false = refl

-- What the router says before a question is a STMT_CLOSE or a STMT_RESET.

long_mute : (long : List ℕ) (number : ℕ) (text : StepText) → if_long long number ≡ Some text → is_mute (Some text) ≡ true
long_mute long number text is = by_test (list_any (nat_eq number) long) is where
  by_test : (b : Bool) → (if b then Some (Resets number) else None) ≡ Some text → is_mute (Some text) ≡ true
  by_test true is = ap (λ (o : Option StepText). is_mute o) (sym is)
  by_test false is = no_some text is

oldest_mute : (o : Option ℕ) (text : StepText) → option_map (λ number. Closes number) o ≡ Some text → is_mute (Some text) ≡ true
oldest_mute None text is = no_some text is
oldest_mute (Some number) text is = ap (λ (o : Option StepText). is_mute o) (sym is)

prepare_mute : (number : Option ℕ) (live : List ℕ) (text : StepText) → before_prepare number live ≡ Some text → is_mute (Some text) ≡ true
prepare_mute (Some number) live text is = ap (λ (o : Option StepText). is_mute o) (sym is)
prepare_mute None live text is = by_test (nat_le 1000 (length live)) is where
  by_test : (b : Bool) → (if b then option_map (λ number. Closes number) (slice_get live 0) else None) ≡ Some text → is_mute (Some text) ≡ true
  by_test true is = oldest_mute (slice_get live 0) text is
  by_test false is = no_some text is

run_mute : (long : List ℕ) (o : Option ℕ) (text : StepText) → option_map_or (if_long long) o None ≡ Some text → is_mute (Some text) ≡ true
run_mute long None text is = no_some text is
run_mute long (Some number) text is = long_mute long number text is

command_mute : (link : Link) (standing : Standing) (key : ℕ) (command : Command) (text : StepText) → before_command link standing key command ≡ Some text → is_mute (Some text) ≡ true
command_mute link standing key (Prepare at) text is = prepare_mute (link.live key) standing.live text is
command_mute link standing key (Run at schema settings args) text is = run_mute standing.long (link.live key) text is
command_mute link standing key (Query at) text is = no_some text is
command_mute link standing key (InitDb schema) text is = no_some text is
command_mute link standing key (FieldList rest) text is = no_some text is
command_mute link standing key (SetId n) text is = no_some text is
command_mute link standing key ReadId text is = no_some text is
command_mute link standing key Reset text is = no_some text is
command_mute link standing key Quit text is = no_some text is

pub says_mute : (link : Link) (standing : Standing) (question : Question) (text : StepText) → before_question link standing question ≡ Some text → is_mute (Some text) ≡ true
says_mute link standing (Prep n key at) text is = prepare_mute (link.live key) standing.live text is
says_mute link standing (Statement n due) text is = command_mute link standing due.key due.command text is
says_mute link standing (Sync n command) text is = no_some text is
says_mute link standing (Own command) text is = no_some text is
says_mute link standing (End n) text is = no_some text is
says_mute link standing (Capture n) text is = no_some text is

-- The forms of a question.

pub data IsForm (setup : Setup) (n : SessionName) (due : Due) (step : Command → Question) : Question → Type 0 where
  Stepping : (command : Command) → IsForm setup n due step (step command)
  Preparing : IsForm setup n due step (Prep n due.key (setup.keys due.key).text)
  Stating : IsForm setup n due step (Statement n due)

else_form : (setup : Setup) (n : SessionName) (due : Due) (step : Command → Question) (o : Option Command) (other : Question) → IsForm setup n due step other
    → IsForm setup n due step (or_else o step other)
else_form setup n due step None other form = form
else_form setup n due step (Some command) other form = Stepping command

pub form_of : (fits : ℕ → Option Number) (setup : Setup) (n : SessionName) (due : Due) (step : Command → Question) (link : Link) (held : Held)
    → IsForm setup n due step (question_for texts fits setup n due step link held)
form_of fits setup n due step link held = by_test (is_unprepared link.live due due.command) where
  by_test : (b : Bool) → IsForm setup n due step
      (if b then or_else (place_step texts link.told (key_place texts setup due link.told)) step (Prep n due.key (setup.keys due.key).text)
      else or_else (place_step texts link.told due.place) step (or_else (id_step setup fits due link.marked link.id held.id) step (Statement n due)))
  by_test true = else_form setup n due step (place_step texts link.told (key_place texts setup due link.told)) _ Preparing
  by_test false =
      else_form setup n due step (place_step texts link.told due.place) _
      (else_form setup n due step (id_step setup fits due link.marked link.id held.id) _ Stating)

-- What is wished, by whom the link carries.
pub data Wished (setup : Setup) (view : View) (readied : Option Readied) : Carried → Question → Type 0 where
  ForWaiter : (r : Readied) (question : Question) → readied ≡ Some r → IsForm setup r.name r.due Own question → Wished setup view readied Nobody question
  ForLent : (n : SessionName) (due : Due) (question : Question) → view.dues n ≡ Some due → IsForm setup n due Own question → Wished setup view readied (Lent n) question
  ForJoined : (n : SessionName) (due : Due) (question : Question) → is_name n (present view n.client n.hostgroup) ≡ true → view.dues n ≡ Some due
      → IsForm setup n due (Sync n) question → Wished setup view readied (Joined n) question
  Captures : (n : SessionName) → is_name n (present view n.client n.hostgroup) ≡ true → Wished setup view readied (Joined n) (Capture n)
  Ends : (n : SessionName) → is_name n (present view n.client n.hostgroup) ≡ false → Wished setup view readied (Joined n) (End n)

module _ (fits : ℕ → Option Number) (setup : Setup) (view : View) (readied : Option Readied) (question : Question) where
  -- a question that is the one
  due_wished : (n : SessionName) (link : Link) (o : Option Due) (step : Command → Question)
      → option_map_or (λ due. Some (question_for texts fits setup n due step link (view.held n))) o None ≡ Some question
      → (due : Due) × ((o ≡ Some due) × IsForm setup n due step question)
  due_wished n link None step is = no_some question is
  due_wished n link (Some due) step is =
      (due, (refl, subst (IsForm setup n due step) (some_of _ question is) (form_of fits setup n due step link (view.held n))))

  session_wished : (link : Link) (n : SessionName) → for_session texts fits setup view link n ≡ Some question → Wished setup view readied (Joined n) question
  session_wished link n is = by_present (is_name n (present view n.client n.hostgroup)) refl is where
    by_id : (b : Bool) → is_name n (present view n.client n.hostgroup) ≡ true → (if b then None else Some (Capture n)) ≡ Some question → Wished setup view readied (Joined n) question
    by_id true here is = no_some question is
    by_id false here is = subst (Wished setup view readied (Joined n)) (some_of (Capture n) question is) (Captures n here)

    by_pin : (b : Bool) → is_name n (present view n.client n.hostgroup) ≡ true
        → (if b then option_map_or (λ due. Some (question_for texts fits setup n due (Sync n) link (view.held n))) (view.dues n) None
        else if is_some (view.held n).id then None else Some (Capture n)) ≡ Some question → Wished setup view readied (Joined n) question
    by_pin true here is =
        let found = due_wished n link (view.dues n) (Sync n) is in ForJoined n found.0 question here found.1.0 found.1.1
    by_pin false here is = by_id (is_some (view.held n).id) here is

    by_reset : (b : Bool) → is_name n (present view n.client n.hostgroup) ≡ false → (if b then Some (End n) else None) ≡ Some question → Wished setup view readied (Joined n) question
    by_reset true left is = subst (Wished setup view readied (Joined n)) (some_of (End n) question is) (Ends n left)
    by_reset false left is = no_some question is

    by_present : (b : Bool) → is_name n (present view n.client n.hostgroup) ≡ b
        → (if b then if is_pinned (view.held n).pin
        then option_map_or (λ due. Some (question_for texts fits setup n due (Sync n) link (view.held n))) (view.dues n) None
        else if is_some (view.held n).id then None else Some (Capture n)
        else if needs_reset (view.held n).pin && not (view.lasting n) then Some (End n) else None) ≡ Some question → Wished setup view readied (Joined n) question
    by_present true here is = by_pin (is_pinned (view.held n).pin) here is
    by_present false left is = by_reset (needs_reset (view.held n).pin && not (view.lasting n)) left is

  readied_wished : (link : Link) (o : Option Readied) → readied ≡ o
      → option_map_or (λ (r : Readied). Some (question_for texts fits setup r.name r.due Own link (view.held r.name))) o None ≡ Some question
      → Wished setup view readied Nobody question
  readied_wished link None at is = no_some question is
  readied_wished link (Some r) at is =
      ForWaiter r question at (subst (IsForm setup r.name r.due Own) (some_of _ question is) (form_of fits setup r.name r.due Own link (view.held r.name)))

  if_not : (b : Bool) (o : Option Question) → (if not b then None else o) ≡ Some question → o ≡ Some question
  if_not true o is = is
  if_not false o is = no_some question is

  pub carried_wished : (link : Link) (c : Carried) → next_question texts fits setup view (record link { carries = c }) readied ≡ Some question → Wished setup view readied c question
  carried_wished link Nobody is = readied_wished (record link { carries = Nobody }) readied refl (if_not (is_quiet link.stage && link.usable) _ is)
  carried_wished link (Lent n) is =
      let found = due_wished n (record link { carries = Lent n }) (view.dues n) Own (if_not (is_quiet link.stage && link.usable) _ is) in
      ForLent n found.0 question found.1.0 found.1.1
  carried_wished link (Joined n) is = session_wished (record link { carries = Joined n }) n (if_not (is_quiet link.stage && link.usable) _ is)
