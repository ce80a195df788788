-- What the policy asks to be sent: no step is a QUIT, and no reset comes behind a statement of which none takes back what it does.
use Rattle.std.specs.Prelude.{◌≡◌, ℕ, Bool, true, false, not, ◌&&◌, ◌||◌, is_some, nat_eq, if◌then◌else◌, Option, Some, None}
use Rattle.std.specs.List.{list_any}
use Rattle.std.specs.Option.{option_map, option_map_or}
use Rattle.std.proofs.Common.{refl, sym, ap, ◌∙◌, subst}
use Rattle.session_state.specs.Pins.{is_pinned, needs_reset}
use Rattle.session_state.specs.declared.place.Place.{Place}
use Rattle.session_state.specs.declared.place.Told.{Told}
use Rattle.private_model.specs.Commands.{Command, FieldList, InitDb, Number, Prepare, Query, Quit, ReadId, Reset, Run, SetId, is_marked}
use Rattle.private_model.specs.Names.{SessionName}
use Rattle.private_model.specs.Story.{Capture, Due, End, Own, Prep, Question, Statement, Sync, is_name}
use Rattle.private_model.specs.View.{Carried, Held, Joined, Lent, Link, Nobody, Setup, View, present}
use Rattle.log_story.specs.Plan.{Asks, Closes, Resets, StepText}
use Rattle.log_story.specs.Servers.{is_quiet}
use Rattle.tale_world.specs.Policy.{Readied, Texts, for_session, id_step, is_unprepared, key_place, next_question, numbered, or_else, place_step, question_for}
use Rattle.tale_world.specs.Tests.{are_settings, is_id, is_schema}
use Rattle.tale_world.specs.Wishes.{Says, Sends, Standing, Wish, before_command, before_prepare, before_question, if_long, wish_for}

no_some : {A B : Type 0} (a : A) → None ≡ Some a → B
no_some a is = absurd (cc)

some_is : {A : Type 0} (a b : A) → Some a ≡ Some b → a ≡ b
some_is a b is = cc

abbrev pub IsPlainStep : Command → Type 0
IsPlainStep Quit = ⊥
IsPlainStep _ = Unit {0}

module _ (texts : Texts) (fits : ℕ → Option Number) (setup : Setup) where
  place_plain : (told : Told) (place : Place) (c : Command) → place_step texts told place ≡ Some c → IsPlainStep c
  place_plain told place c is = by_schema (not (is_schema told.schema place.schema)) is where
    by_settings : (b : Bool) → (if b then Some (Query (texts.leads told.settings place.settings)) else None) ≡ Some c → IsPlainStep c
    by_settings true now = subst IsPlainStep (some_is _ c now) tt
    by_settings false now = no_some c now

    by_schema : (b : Bool) → (if b then Some (InitDb place.schema) else if not (are_settings told.settings place.settings)
        then Some (Query (texts.leads told.settings place.settings)) else None) ≡ Some c → IsPlainStep c
    by_schema true now = subst IsPlainStep (some_is _ c now) tt
    by_schema false now = by_settings (not (are_settings told.settings place.settings)) now

  id_plain : (due : Due) (marked : Bool) (link_id id : Option ℕ) (c : Command) → id_step setup fits due marked link_id id ≡ Some c → IsPlainStep c
  id_plain due marked link_id id c is = by_test (is_marked setup.reads due.command && not (marked || is_id link_id id)) is where
    by_number : (o : Option Number) → option_map_or (λ n. Some (SetId n)) o None ≡ Some c → IsPlainStep c
    by_number None now = no_some c now
    by_number (Some n) now = subst IsPlainStep (some_is (SetId n) c now) tt

    by_test : (b : Bool) → (if b then option_map_or (λ n. Some (SetId n)) (numbered id fits) None else None) ≡ Some c → IsPlainStep c
    by_test true now = by_number (numbered id fits) now
    by_test false now = no_some c now

  module _ (P : Question → Type 0) where
    else_so : (o : Option Command) (step : Command → Question) (other : Question) → ((c : Command) → o ≡ Some c → IsPlainStep c)
        → ((c : Command) → IsPlainStep c → P (step c)) → P other → P (or_else o step other)
    else_so None step other plain steps last = last
    else_so (Some c) step other plain steps last = steps c (plain c refl)

    question_so : (n : SessionName) (due : Due) (step : Command → Question) (link : Link) (held : Held) → ((c : Command) → IsPlainStep c → P (step c))
        → P (Prep n due.key (setup.keys due.key).text) → P (Statement n due) → P (question_for texts fits setup n due step link held)
    question_so n due step link held steps prep statement = by_test (is_unprepared link.live due due.command) where
      by_test : (b : Bool) → P (if b then or_else (place_step texts link.told (key_place texts setup due link.told)) step (Prep n due.key (setup.keys due.key).text)
          else or_else (place_step texts link.told due.place) step (or_else (id_step setup fits due link.marked link.id held.id) step (Statement n due)))
      by_test true =
          else_so (place_step texts link.told (key_place texts setup due link.told)) step _
          (place_plain link.told (key_place texts setup due link.told)) steps prep
      by_test false =
          else_so (place_step texts link.told due.place) step _ (place_plain link.told due.place) steps
          (else_so (id_step setup fits due link.marked link.id held.id) step (Statement n due) (id_plain due link.marked link.id held.id) steps statement)

  module _ (view : View) where
    abbrev is_past : Carried → Bool
    is_past (Joined n) = not (is_name n (present view n.client n.hostgroup)) && view.lasting n
    is_past _ = false

    -- of a link that carries this
    abbrev pub IsRight : Carried → Question → Type 0
    IsRight carried (Own command) = IsPlainStep command
    IsRight carried (Sync n command) = IsPlainStep command
    IsRight carried (End n) = is_past carried ≡ false
    IsRight carried (Capture n) = is_past carried ≡ false
    IsRight carried _ = Unit {0}

    some_right : (carried : Carried) (a q : Question) → Some a ≡ Some q → IsRight carried a → IsRight carried q
    some_right carried a q is right = subst (IsRight carried) (some_is a q is) right

    due_right : (carried : Carried) (n : SessionName) (step : Command → Question) (link : Link) (q : Question) → ((c : Command) → IsPlainStep c → IsRight carried (step c))
        → (o : Option Due) → option_map_or (λ due. Some (question_for texts fits setup n due step link (view.held n))) o None ≡ Some q → IsRight carried q
    due_right carried n step link q steps None is = no_some q is
    due_right carried n step link q steps (Some due) is =
        some_right carried _ q is (question_so (IsRight carried) n due step link (view.held n) steps tt tt)

    session_right : (link : Link) (n : SessionName) (q : Question) → for_session texts fits setup view link n ≡ Some q → IsRight (Joined n) q
    session_right link n q is = by_name (is_name n (present view n.client n.hostgroup)) refl is where
      here : Bool
      here = is_name n (present view n.client n.hostgroup)

      by_id : (b : Bool) → here ≡ true → (if b then None else Some (Capture n)) ≡ Some q → IsRight (Joined n) q
      by_id true at now = no_some q now
      by_id false at now = some_right (Joined n) (Capture n) q now (ap (λ b. not b && view.lasting n) at)

      by_pin : (b : Bool) → here ≡ true
          → (if b then option_map_or (λ due. Some (question_for texts fits setup n due (Sync n) link (view.held n))) (view.dues n) None
          else if is_some (view.held n).id then None else Some (Capture n)) ≡ Some q → IsRight (Joined n) q
      by_pin true at now = due_right (Joined n) n (Sync n) link q (λ c plain. plain) (view.dues n) now
      by_pin false at now = by_id (is_some (view.held n).id) at now

      by_reset : (needs lasting : Bool) → view.lasting n ≡ lasting → here ≡ false → (if needs && not lasting then Some (End n) else None) ≡ Some q → IsRight (Joined n) q
      by_reset true false lasts at now = some_right (Joined n) (End n) q now (ap (λ b. not here && b) lasts ∙ none here)
        where
          none : (b : Bool) → (not b && false) ≡ false
          none true = refl
          none false = refl
      by_reset true true lasts at now = no_some q now
      by_reset false lasting lasts at now = no_some q now

      by_name : (b : Bool) → here ≡ b
          → (if b then (if is_pinned (view.held n).pin then option_map_or (λ due. Some (question_for texts fits setup n due (Sync n) link (view.held n))) (view.dues n) None
          else if is_some (view.held n).id then None else Some (Capture n))
          else if needs_reset (view.held n).pin && not (view.lasting n) then Some (End n) else None) ≡ Some q → IsRight (Joined n) q
      by_name true at now = by_pin (is_pinned (view.held n).pin) at now
      by_name false at now = by_reset (needs_reset (view.held n).pin) (view.lasting n) refl at now

    none_if : {A : Type 0} (b : Bool) (x : Option A) (a : A) → (if b then None else x) ≡ Some a → x ≡ Some a
    none_if true x a is = no_some a is
    none_if false x a is = is

    pub question_right : (link : Link) (readied : Option Readied) (q : Question) → next_question texts fits setup view link readied ≡ Some q → IsRight link.carries q
    question_right link readied q is = by_carried link.carries refl where
      with_carries : Carried → Link
      with_carries c = record link { carries = c }

      at : (c : Carried) → link.carries ≡ c → next_question texts fits setup view (with_carries c) readied ≡ Some q
      at c same = subst (λ x. next_question texts fits setup view (with_carries x) readied ≡ Some q) same is

      by_readied : (o : Option Readied) → option_map_or (λ (r : Readied). Some (question_for texts fits setup r.name r.due Own (with_carries Nobody) (view.held r.name))) o None ≡ Some q
          → IsRight Nobody q
      by_readied None now = no_some q now
      by_readied (Some r) now =
          some_right Nobody _ q now (question_so (IsRight Nobody) r.name r.due Own (with_carries Nobody) (view.held r.name) (λ c plain. plain) tt tt)

      by_carried : (c : Carried) → link.carries ≡ c → IsRight link.carries q
      by_carried (Joined n) same =
          subst (λ x. IsRight x q) (sym same)
          (session_right (with_carries (Joined n)) n q
          (none_if (not (is_quiet link.stage && link.usable)) (for_session texts fits setup view (with_carries (Joined n)) n) q (at (Joined n) same)))
      by_carried (Lent n) same =
          subst (λ x. IsRight x q) (sym same)
          (due_right (Lent n) n Own (with_carries (Lent n)) q (λ c plain. plain) (view.dues n)
          (none_if (not (is_quiet link.stage && link.usable)) _ q (at (Lent n) same)))
      by_carried Nobody same =
          subst (λ x. IsRight x q) (sym same)
          (by_readied readied (none_if (not (is_quiet link.stage && link.usable)) _ q (at Nobody same)))

-- What it says for itself before a question: a STMT_RESET is of a statement with long data.

abbrev pub IsLong : Standing → StepText → Type 0
IsLong standing (Asks command) = ⊥
IsLong standing (Closes number) = Unit {0}
IsLong standing (Resets number) = list_any (nat_eq number) standing.long ≡ true

module _ (link : Link) (standing : Standing) where
  closes_so : (n : Option ℕ) (text : StepText) → option_map (λ number. Closes number) n ≡ Some text → IsLong standing text
  closes_so None text is = no_some text is
  closes_so (Some number) text is = subst (IsLong standing) (some_is (Closes number) text is) tt

  prepare_so : (o : Option ℕ) (text : StepText) → before_prepare o standing.live ≡ Some text → IsLong standing text
  prepare_so (Some number) text is = subst (IsLong standing) (some_is (Closes number) text is) tt
  prepare_so None text is = by_many _ _ is where
    by_many : (b : Bool) (o : Option ℕ) → (if b then option_map (λ number. Closes number) o else None) ≡ Some text → IsLong standing text
    by_many true o now = closes_so o text now
    by_many false o now = no_some text now

  long_so : (o : Option ℕ) (text : StepText) → option_map_or (if_long standing.long) o None ≡ Some text → IsLong standing text
  long_so None text is = no_some text is
  long_so (Some number) text is = by_test (list_any (nat_eq number) standing.long) refl is where
    by_test : (b : Bool) → list_any (nat_eq number) standing.long ≡ b → (if b then Some (Resets number) else None) ≡ Some text → IsLong standing text
    by_test true has now = subst (IsLong standing) (some_is (Resets number) text now) has
    by_test false has now = no_some text now

  command_so : (key : ℕ) (command : Command) (text : StepText) → before_command link standing key command ≡ Some text → IsLong standing text
  command_so key (Prepare bytes) text is = prepare_so (link.live key) text is
  command_so key (Run bytes schema settings args) text is = long_so (link.live key) text is
  command_so key (Query bytes) text is = no_some text is
  command_so key (InitDb schema) text is = no_some text is
  command_so key (FieldList rest) text is = no_some text is
  command_so key (SetId n) text is = no_some text is
  command_so key ReadId text is = no_some text is
  command_so key Reset text is = no_some text is
  command_so key Quit text is = no_some text is

  before_so : (q : Question) (text : StepText) → before_question link standing q ≡ Some text → IsLong standing text
  before_so (Prep n key bytes) text is = prepare_so (link.live key) text is
  before_so (Statement n due) text is = command_so due.key due.command text is
  before_so (Sync n command) text is = no_some text is
  before_so (Own command) text is = no_some text is
  before_so (End n) text is = no_some text is
  before_so (Capture n) text is = no_some text is

  abbrev pub IsRightWish : (Question → Type 0) → Wish → Type 0
  IsRightWish P (Sends q) = P q
  IsRightWish P (Says text) = IsLong standing text

  pub wish_right : (P : Question → Type 0) (q : Question) → P q → IsRightWish P (wish_for link standing q)
  wish_right P q right = by_before (before_question link standing q) refl where
    by_before : (o : Option StepText) → before_question link standing q ≡ o → IsRightWish P (option_map_or (λ text. Says text) o (Sends q))
    by_before None at = right
    by_before (Some text) at = before_so q text at
