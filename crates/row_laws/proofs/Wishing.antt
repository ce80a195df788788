-- What code has go to a link next is what the law wishes there.
use Rattle.std.specs.Prelude.{◌≡◌, ℕ, Bool, true, false, not, ◌&&◌, ◌||◌, is_some, nat_eq, nat_le, nat_lt, if◌then◌else◌, length, slice_get, List, [], ◌∷◌, Option, Some, None}
use Rattle.std.specs.List.{list_any}
use Rattle.std.specs.Option.{option_and_then, option_map, option_map_or}
use Rattle.std.proofs.Common.{refl, sym, ap, ◌∙◌, arith, subst}
use Rattle.std.proofs.lemmas.Bool.{false≢true}
use Rattle.std.proofs.lemmas.List.{length-set}
use Rattle.session_vars.specs.Settings.{AreSettings}
use Rattle.session_vars.specs.declared.change.SlotValue.{SlotValue}
use Rattle.session_state.specs.Pins.{is_pinned, needs_reset}
use Rattle.session_state.specs.declared.pin.Pin.{Pin}
use Rattle.session_state.specs.declared.place.Place.{Place}
use Rattle.session_state.specs.declared.place.Told.{Told}
use Rattle.private_model.specs.Commands as commands
use Rattle.private_model.specs.Commands.{Command, Number, is_marked}
use Rattle.private_model.specs.Names.{SessionName}
use Rattle.private_model.specs.Story as story
use Rattle.private_model.specs.Story.{Due, Question}
use Rattle.private_model.specs.View.{Held, Link, Setup, View}
use Rattle.log_story.specs.Plan as plan
use Rattle.log_story.specs.Plan.{StepText}
use Rattle.tale_world.specs.Policy as policy
use Rattle.tale_world.specs.Policy.{Texts, for_session, id_step, key_place, numbered, or_else, place_step, question_for}
use Rattle.tale_world.specs.Tests as tests
use Rattle.tale_world.specs.Wishes as law
use Rattle.tale_world.specs.Wishes.{Standing, before_command, before_prepare, if_long, wish_for}
use Rattle.link_laws.specs.Stands.{Codes, number_at}
use Rattle.link_state.specs.Places.{calm, calm_place, place_wish}
use Rattle.link_state.specs.Stood.{number_of}
use Rattle.link_state.specs.Wants.{cleared, cleared_by, closes, id_wanted, is_id, is_unprepared, is_unprepared_as, oldest_closed, or_id, or_wish, own_wish, own_wish_as, prep_wish, statement_wish, task_in, unlong, wish_by}
use Rattle.link_state.specs.declared.state.LinkState.{LinkState}
use Rattle.link_state.specs.declared.wish.Command as code
use Rattle.link_state.specs.declared.wish.Session.{Session}
use Rattle.link_state.specs.declared.wish.Task.{Task}
use Rattle.link_state.specs.declared.wish.Task.TheVariants as tasks
use Rattle.link_state.specs.declared.wish.Wanted.{Wanted}
use Rattle.link_state.specs.declared.wish.Wish.{Wish}
use Rattle.link_state.specs.declared.wish.Wish.TheVariants.{Schema, Settings, SetId, Prepare, Statement, Resets}
use Rattle.row_laws.specs.Wishes.{HasNumber, IsKeyed, IsSession, IsStepper, IsWish, IsWishing, kind_of, numbers_of, question_of}
use Rattle.row_laws.proofs.Settling.{IsPlaceStep, place_steps}

id_tests : (known wanted : Option ℕ) → is_id known wanted ≡ tests.is_id known wanted
id_tests (Some a) (Some b) = refl
id_tests (Some a) None = refl
id_tests None (Some b) = refl
id_tests None None = refl

length_numbers : (live : List (ℕ × ℕ)) → length (numbers_of live) ≡ length live
length_numbers [] = refl
length_numbers (e ∷ es) = grind (arith, length_numbers es)

many : (n : ℕ) (few : Bool) → nat_lt n 1000 ≡ few → nat_le 1000 n ≡ not few
many n true is = grind arith
many n false is = grind arith

-- what is said before a question, or else that
abbrev said_or : Option StepText → Question → law.Wish
said_or text question = option_map_or (λ said. law.Says said) text (law.Sends question)

module _ (setup : Setup) (n : SessionName) (due : Due) (step : Command → Question) where
  abbrev Is : Wish → law.Wish → Type 0
  Is wish wanted = IsWish setup n due step wish wanted

  -- Prepared statements.

  module _ (otherwise : Wish) (question : Question) (same : Is otherwise (law.Sends question)) where
    first_closed : (live : List (ℕ × ℕ)) → (few : Bool) → nat_lt (length live) 1000 ≡ few
        → Is (if few then otherwise else closes (slice_get live 0) otherwise) (said_or (if not few then option_map (λ number. plan.Closes number) (slice_get (numbers_of live) 0) else None) question)
    first_closed live true few = same
    first_closed [] false few = same
    first_closed (e ∷ es) false few = refl

    oldest_so : (live : List (ℕ × ℕ)) → Is (oldest_closed live otherwise) (said_or (before_prepare None (numbers_of live)) question)
    oldest_so live =
        subst (λ (large : Bool). Is (oldest_closed live otherwise) (said_or (if large then option_map (λ number. plan.Closes number) (slice_get (numbers_of live) 0) else None) question))
        (sym (ap (nat_le 1000) (length_numbers live) ∙ many (length live) (nat_lt (length live) 1000) refl))
        (first_closed live (nat_lt (length live) 1000) refl)

    cleared_so : (number : Option ℕ) (live : List (ℕ × ℕ)) → Is (cleared_by number live otherwise) (said_or (before_prepare number (numbers_of live)) question)
    cleared_so (Some number) live = refl
    cleared_so None live = oldest_so live

  -- An execute is of what has no long data there.
  reset_so : (number : Option ℕ) (long : List ℕ) → Is (unlong long number) (said_or (option_map_or (if_long long) number None) (story.Statement n due))
  reset_so None long = refl
  reset_so (Some number) long = by (list_any (nat_eq number) long) where
    by : (has : Bool) → Is (if has then Resets number else Statement) (said_or (if has then Some (plan.Resets number) else None) (story.Statement n due))
    by true = refl
    by false = refl

  module _ (codes : Codes) (live : List (ℕ × ℕ)) (long : List ℕ) (link : Link) (stands : (key : ℕ) → link.live key ≡ number_at codes live key) where
    abbrev standing : Standing
    standing = record { live = numbers_of live; long = long }

    there_is : (key number : ℕ) → codes key ≡ Some number → link.live key ≡ number_of live number
    there_is key number named = stands key ∙ ap (option_and_then (number_of live)) named

    own_so : (command : Command) (number : ℕ) → IsKeyed codes number command due.key
        → Is (own_wish_as (kind_of command) live long number) (said_or (before_command link standing due.key command) (story.Statement n due))
    own_so (commands.Prepare text) number named =
        subst (λ (found : Option ℕ). Is (cleared_by (number_of live number) live Statement) (said_or (before_prepare found (numbers_of live)) (story.Statement n due)))
        (sym (there_is due.key number named)) (cleared_so Statement (story.Statement n due) refl (number_of live number) live)
    own_so (commands.Run text schema settings args) number named =
        subst (λ (found : Option ℕ). Is (unlong long (number_of live number)) (said_or (option_map_or (if_long long) found None) (story.Statement n due)))
        (sym (there_is due.key number named)) (reset_so (number_of live number) long)
    own_so (commands.Query text) number named = refl
    own_so (commands.InitDb schema) number named = refl
    own_so (commands.FieldList rest) number named = refl
    own_so (commands.SetId id) number named = refl
    own_so commands.ReadId number named = refl
    own_so commands.Reset number named = refl
    own_so commands.Quit number named = refl

    unprepared_so : (command : Command) (number : ℕ) → IsKeyed codes number command due.key
        → is_unprepared_as (kind_of command) (number_of live number) ≡ policy.is_unprepared link.live due command
    unprepared_so (commands.Run text schema settings args) number named = ap (λ (found : Option ℕ). not (is_some found)) (sym (there_is due.key number named))
    unprepared_so (commands.Prepare text) number named = refl
    unprepared_so (commands.Query text) number named = refl
    unprepared_so (commands.InitDb schema) number named = refl
    unprepared_so (commands.FieldList rest) number named = refl
    unprepared_so (commands.SetId id) number named = refl
    unprepared_so commands.ReadId number named = refl
    unprepared_so commands.Reset number named = refl
    unprepared_so commands.Quit number named = refl

    -- what isn't prepared there is executed, so it has a key
    named_so : (command : Command) (number : ℕ) → IsKeyed codes number command due.key → is_unprepared_as (kind_of command) (number_of live number) ≡ true
        → codes due.key ≡ Some number
    named_so (commands.Run text schema settings args) number named unprepared = named
    named_so (commands.Prepare text) number named unprepared = named
    named_so (commands.Query text) number named unprepared = absurd (false≢true unprepared)
    named_so (commands.InitDb schema) number named unprepared = absurd (false≢true unprepared)
    named_so (commands.FieldList rest) number named unprepared = absurd (false≢true unprepared)
    named_so (commands.SetId id) number named unprepared = absurd (false≢true unprepared)
    named_so commands.ReadId number named unprepared = absurd (false≢true unprepared)
    named_so commands.Reset number named unprepared = absurd (false≢true unprepared)
    named_so commands.Quit number named unprepared = absurd (false≢true unprepared)

  -- Steps.

  module _ (link : Link) (standing : Standing) (stepper : IsStepper link standing step) where
    sends_step : (wish : Wish) (command : Command) → Is wish (law.Sends (step command)) → Is wish (wish_for link standing (step command))
    sends_step wish command same = subst (λ (text : Option StepText). Is wish (said_or text (step command))) (sym (stepper command)) same

    step_or : (wish : Option Wish) (command : Option Command) (other : Wish) (question : Question) → IsPlaceStep wish command
        → Is other (wish_for link standing question) → Is (or_wish wish other) (wish_for link standing (or_else command step question))
    step_or None None other question steps same = same
    step_or (Some (Schema schema)) (Some (commands.InitDb wanted)) other question steps same =
        sends_step (Schema schema) (commands.InitDb wanted) (ap (λ (s : List ℕ). step (commands.InitDb s)) (sym steps))
    step_or (Some (Settings text)) (Some (commands.Query wanted)) other question steps same =
        sends_step (Settings text) (commands.Query wanted) (ap (λ (s : List ℕ). step (commands.Query s)) (sym steps))
    step_or _ _ other question steps same = absurd steps

    module _ (fits : ℕ → Option Number) (other : Wish) (question : Question) (same : Is other (wish_for link standing question)) where
      abbrev id_or : Option ℕ → (leads : Bool) → Option Command
      id_or id leads = if leads then option_map_or (λ (number : Number). Some (commands.SetId number)) (numbered id fits) None else None

      id_so : (id : Option ℕ) (leads : Bool) → HasNumber fits id
          → Is (or_id (if leads then id else None) other) (wish_for link standing (or_else (id_or id leads) step question))
      id_so id false has = same
      id_so None true has = same
      id_so (Some m) true has =
          let number = has m refl in
          subst (λ (found : Option Number). Is (SetId m) (wish_for link standing (or_else (option_map_or (λ (number : Number). Some (commands.SetId number)) found None) step question)))
          (sym number.1) (sends_step (SetId m) (commands.SetId number.0) (record { number = number.0; value = number.2; is = refl }))

-- All of it.

calm_stays : (settings told : List SlotValue) → AreSettings settings → AreSettings (calm settings told)
calm_stays settings told are = length-set settings _ _ ∙ are

module _ (texts : Texts) (fits : ℕ → Option Number) (setup : Setup) (codes : Codes) (state : LinkState) (link : Link) (held : Held) (n : SessionName) (due : Due)
    (wanted : Wanted) (place of_key : Place) (long : List ℕ) (standing : Standing) (step : Command → Question)
    (is : IsWishing texts fits setup codes state link held due wanted place of_key long standing step) where
  abbrev Wishes : Wish → law.Wish → Type 0
  Wishes wish wished = IsWish setup n due step wish wished

  standing_is : record { live = numbers_of state.live; long = long } ≡ standing
  standing_is = λ i. record { live = sym is.live i; long = sym is.long_so i }

  there : (number : ℕ) → codes due.key ≡ Some number → link.live due.key ≡ number_of state.live number
  there number named = is.stands.live due.key ∙ ap (option_and_then (number_of state.live)) named

  -- the preparation of its text

  calmed : Place
  calmed = calm_place of_key state.told

  key_place_is : calm_place of_key state.told ≡ key_place texts setup due link.told
  key_place_is =
      ap (λ (from : Place). calm_place from state.told) is.of_key_so
      ∙ ap (λ (told : Told). calm_place (setup.keys due.key).place told) (sym is.stands.told)
      ∙ ap (λ (settings : List SlotValue). record { schema = (setup.keys due.key).place.schema; settings = settings })
      (sym (is.texts_so.calm (setup.keys due.key).place.settings link.told.settings))

  key_steps : IsPlaceStep (place_wish state.told (calm_place of_key state.told)) (place_step texts link.told (key_place texts setup due link.told))
  key_steps =
      subst (λ (to : Place). IsPlaceStep (place_wish state.told (calm_place of_key state.told)) (place_step texts link.told to)) key_place_is
      (subst (λ (told : Told). IsPlaceStep (place_wish state.told (calm_place of_key state.told)) (place_step texts told (calm_place of_key state.told)))
      (sym is.stands.told)
      (place_steps texts state.told (calm_place of_key state.told) is.texts_so is.told (calm_stays of_key.settings state.told.settings is.of_text)))

  abbrev prep : Question
  prep = story.Prep n due.key (setup.keys due.key).text

  cleared_there : codes due.key ≡ Some wanted.key → Wishes (cleared state.live wanted.key Prepare) (wish_for link standing prep)
  cleared_there named =
      subst (λ (live : List ℕ). Wishes (cleared state.live wanted.key Prepare) (said_or (before_prepare (link.live due.key) live) prep)) (sym is.live)
      (subst (λ (found : Option ℕ). Wishes (cleared state.live wanted.key Prepare) (said_or (before_prepare found (numbers_of state.live)) prep))
      (sym (there wanted.key named)) (cleared_so setup n due step Prepare prep refl (number_of state.live wanted.key) state.live))

  prep_so : codes due.key ≡ Some wanted.key
      → Wishes (prep_wish state wanted.key of_key) (wish_for link standing (or_else (place_step texts link.told (key_place texts setup due link.told)) step prep))
  prep_so named =
      step_or setup n due step link standing is.stepper (place_wish state.told (calm_place of_key state.told))
      (place_step texts link.told (key_place texts setup due link.told)) (cleared state.live wanted.key Prepare) prep key_steps (cleared_there named)

  -- the statement

  steps : IsPlaceStep (place_wish state.told place) (place_step texts link.told due.place)
  steps =
      subst (λ (told : Told). IsPlaceStep (place_wish state.told place) (place_step texts told due.place)) (sym is.stands.told)
      (subst (λ (to : Place). IsPlaceStep (place_wish state.told place) (place_step texts state.told to)) is.place_so
      (place_steps texts state.told place is.texts_so is.told is.of_place))

  own : Wishes (own_wish state.live long wanted) (wish_for link standing (story.Statement n due))
  own =
      subst (λ (there : Standing). Wishes (own_wish state.live long wanted) (wish_for link there (story.Statement n due))) standing_is
      (subst (λ (kind : code.Command). Wishes (own_wish_as kind state.live long wanted.key)
      (said_or (before_command link (record { live = numbers_of state.live; long = long }) due.key due.command) (story.Statement n due)))
      (sym is.wanted_so.command) (own_so setup n due step codes state.live long link is.stands.live due.command wanted.key is.wanted_so.key))

  abbrev leads : Bool
  leads = wanted.marks && not (state.marked || is_id state.id wanted.id)

  leads_is : leads ≡ (is_marked setup.reads due.command && not (link.marked || tests.is_id link.id held.id))
  leads_is =
      ap (λ (marks : Bool). marks && not (state.marked || is_id state.id wanted.id)) is.wanted_so.marks
      ∙ ap (λ (marked : Bool). is_marked setup.reads due.command && not (marked || is_id state.id wanted.id)) (sym is.stands.marked)
      ∙ ap (λ (same : Bool). is_marked setup.reads due.command && not (link.marked || same))
      (id_tests state.id wanted.id ∙ ap (λ (known : Option ℕ). tests.is_id known wanted.id) (sym is.stands.id) ∙ ap (tests.is_id link.id) is.wanted_so.id)

  stepped : Wishes (or_id (id_wanted wanted state.marked state.id) (own_wish state.live long wanted))
      (wish_for link standing (or_else (id_step setup fits due link.marked link.id held.id) step (story.Statement n due)))
  stepped =
      subst (λ (id : Option ℕ). Wishes (or_id (if leads then id else None) (own_wish state.live long wanted))
      (wish_for link standing (or_else (id_step setup fits due link.marked link.id held.id) step (story.Statement n due)))) (sym is.wanted_so.id)
      (subst (λ (to : Bool). Wishes (or_id (if leads then held.id else None) (own_wish state.live long wanted))
      (wish_for link standing (or_else (if to then option_map_or (λ (number : Number). Some (commands.SetId number)) (numbered held.id fits) None else None)
      step (story.Statement n due)))) leads_is
      (id_so setup n due step link standing is.stepper fits (own_wish state.live long wanted) (story.Statement n due) own held.id leads is.number))

  statement_so : Wishes (statement_wish state wanted place long) (wish_for link standing (or_else (place_step texts link.told due.place) step
      (or_else (id_step setup fits due link.marked link.id held.id) step (story.Statement n due))))
  statement_so =
      step_or setup n due step link standing is.stepper (place_wish state.told place) (place_step texts link.told due.place)
      (or_id (id_wanted wanted state.marked state.id) (own_wish state.live long wanted))
      (or_else (id_step setup fits due link.marked link.id held.id) step (story.Statement n due)) steps stepped

  -- whichever of the two it is

  abbrev prepared_first : Question
  prepared_first = or_else (place_step texts link.told (key_place texts setup due link.told)) step prep

  abbrev stated : Question
  stated = or_else (place_step texts link.told due.place) step (or_else (id_step setup fits due link.marked link.id held.id) step (story.Statement n due))

  unprepared_is : is_unprepared state.live wanted ≡ is_unprepared_as (kind_of due.command) (number_of state.live wanted.key)
  unprepared_is = ap (λ (kind : code.Command). is_unprepared_as kind (number_of state.live wanted.key)) is.wanted_so.command

  either : (unprepared : Bool) → is_unprepared_as (kind_of due.command) (number_of state.live wanted.key) ≡ unprepared
      → Wishes (if unprepared then prep_wish state wanted.key of_key else statement_wish state wanted place long)
      (wish_for link standing (if unprepared then prepared_first else stated))
  either true unprepared =
      prep_so (named_so setup n due step codes state.live long link is.stands.live due.command wanted.key is.wanted_so.key unprepared)
  either false prepared = statement_so

  pub wish_so : Wishes (wish_by state wanted place of_key long) (wish_for link standing (question_for texts fits setup n due step link held))
  wish_so =
      let test : Bool = is_unprepared_as (kind_of due.command) (number_of state.live wanted.key) in
      subst (λ (unprepared : Bool). Wishes (if unprepared then prep_wish state wanted.key of_key else statement_wish state wanted place long)
      (wish_for link standing (question_for texts fits setup n due step link held))) (sym unprepared_is)
      (subst (λ (unprepared : Bool). Wishes (if test then prep_wish state wanted.key of_key else statement_wish state wanted place long)
      (wish_for link standing (if unprepared then prepared_first else stated)))
      (unprepared_so setup n due step codes state.live long link is.stands.live due.command wanted.key is.wanted_so.key) (either test refl))

-- What a link is for.

abbrev law_task : (present pinned known resets : Bool) → SessionName → Option Question → Option Question
law_task present pinned known resets n due =
    if present then (if pinned then due else if known then None else Some (story.Capture n)) else if resets then Some (story.End n) else None

abbrev code_task : (present pinned known resets : Bool) → Task
code_task present pinned known resets =
    if not present then (if resets then tasks.Ends else tasks.Rests) else if pinned then tasks.States else if known then tasks.Rests else tasks.Captures

tasks_by : (present pinned known resets : Bool) (n : SessionName) (due : Option Question)
    → law_task present pinned known resets n due ≡ question_of (code_task present pinned known resets) n due
tasks_by true true known resets n due = refl
tasks_by true false true resets n due = refl
tasks_by true false false resets n due = refl
tasks_by false pinned known true n due = refl
tasks_by false pinned known false n due = refl

pub task_so : (texts : Texts) (fits : ℕ → Option Number) (setup : Setup) (seen : View) (link : Link) (n : SessionName) (s : Session) → IsSession seen n s
    → for_session texts fits setup seen link n
    ≡ question_of (task_in s) n (option_map_or (λ due. Some (question_for texts fits setup n due (story.Sync n) link (seen.held n))) (seen.dues n) None)
task_so texts fits setup seen link n s is =
    let due : Option Question = option_map_or (λ due. Some (question_for texts fits setup n due (story.Sync n) link (seen.held n))) (seen.dues n) None in
    let pin : Pin = (seen.held n).pin in
    let lasting : Bool = seen.lasting n in
    ap (λ (there : Bool). law_task there (is_pinned pin) (is_some (seen.held n).id) (needs_reset pin && not lasting) n due) (sym is.is_present)
    ∙ ap (λ (p : Pin). law_task s.present (is_pinned p) (is_some (seen.held n).id) (needs_reset p && not lasting) n due) (sym is.pin)
    ∙ ap (λ (id : Option ℕ). law_task s.present (is_pinned s.pin) (is_some id) (needs_reset s.pin && not lasting) n due) (sym is.id)
    ∙ ap (λ (lasts : Bool). law_task s.present (is_pinned s.pin) (is_some s.id) (needs_reset s.pin && not lasts) n due) (sym is.lasting)
    ∙ tasks_by s.present (is_pinned s.pin) (is_some s.id) (needs_reset s.pin && not s.lasting) n due
