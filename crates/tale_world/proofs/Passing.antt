-- What goes to a link that is readied for a statement passes the test.
use Rattle.std.specs.Prelude.{◌≡◌, ℕ, Bool, true, false, not, ◌&&◌, ◌||◌, is_some, bytes_eq, ◌⊎◌, if◌then◌else◌, List, [], ◌∷◌, Option, Some, None}
use Rattle.std.specs.Option.{option_map_or}
use Rattle.std.proofs.Common.{refl, sym, ap, ◌∙◌, subst, inl, inr}
use Rattle.std.proofs.lemmas.Bool.{and_from, and_parts, not-false, or_cases, or_left}
use Rattle.std.proofs.lemmas.Slice.Eq.{bytes_eq-Decides}
use Rattle.session_vars.specs.declared.change.SlotValue.{SlotValue}
use Rattle.session_vars.specs.declared.change.SlotValue.TheVariants.{Default, Text}
use Rattle.session_state.specs.Pins.{is_pinned}
use Rattle.session_state.specs.declared.place.Place.{Place}
use Rattle.server_rule.specs.Classes.{core}
use Rattle.private_model.specs.Names.{SessionName}
use Rattle.private_model.specs.Commands.{Command, FieldList, InitDb, Number, Prepare, Query, Quit, ReadId, Reset, Run, SetId, is_marked}
use Rattle.private_model.specs.Story.{Due, Own, Prep, Question, Statement}
use Rattle.private_model.specs.View.{Carried, Held, Joined, Lent, Link, Nobody, Setup, View}
use Rattle.tale_world.specs.Policy.{Texts, id_step, is_unprepared, key_place, numbered, or_else, place_step, question_for}
use Rattle.tale_world.specs.Served.{HasId}
use Rattle.tale_world.specs.Tests.{are_settings, begins_there, fits, goes_on_there, has_due, is_id, is_keyed, is_lent, is_lent_to, is_nobody, is_own_step, is_placed, is_schema}
use Rattle.tale_world.specs.Tests.{is_told_key, is_value, may_begin_question, may_lend}
use Rattle.tale_world.specs.Waits.{AreRead, IsFor, IsReached, IsRead, IsWaiting, is_of_key}
use Rattle.tale_world.proofs.Policies.{id_so, placed_so}
use Rattle.tale_world.proofs.Testing.{same_schema, same_settings}

isnt : {A : Type 0} → false ≡ true → A
isnt is = absurd (cc)

same_bytes : (xs : List ℕ) → bytes_eq xs xs ≡ true
same_bytes xs = (bytes_eq-Decides xs xs).1 refl

value_itself : (v : SlotValue) → is_value v v ≡ true
value_itself Default = refl
value_itself (Text text) = same_bytes text

settings_themselves : (xs : List SlotValue) → are_settings xs xs ≡ true
settings_themselves [] = refl
settings_themselves (x ∷ xs) = and_from (is_value x x) (are_settings xs xs) (value_itself x) (settings_themselves xs)

equal_settings : (xs ys : List SlotValue) → xs ≡ ys → are_settings xs ys ≡ true
equal_settings xs ys same = ap (are_settings xs) (sym same) ∙ settings_themselves xs

-- on a link that carries nobody, or is lent
free_so : (n : SessionName) (link : Link) (held : Held) → may_lend n link held ≡ true → (is_nobody link.carries || is_lent link.carries) ≡ true
free_so n link held is = by_carried link.carries (or_cases (is_nobody link.carries && not (is_some held.home)) (is_lent_to n link.carries) is) where
  by_carried : (carried : Carried) → ((is_nobody carried && not (is_some held.home)) ≡ true) ⊎ (is_lent_to n carried ≡ true) → (is_nobody carried || is_lent carried) ≡ true
  by_carried Nobody how = refl
  by_carried (Lent m) how = refl
  by_carried (Joined m) (inl isnt_so) = isnt isnt_so
  by_carried (Joined m) (inr isnt_so) = isnt isnt_so

module _ (texts : Texts) (numbers : ℕ → Option Number) (setup : Setup) (view : View) (n : SessionName) (due : Due) (link : Link) (read : AreRead setup texts due link.told)
    (waits : IsWaiting setup numbers view n due) (for : IsFor setup view n link) where
  abbrev Passes : Question → Type 0
  Passes question = may_begin_question setup view link question ≡ true

  whole : (question : Question) → fits setup view link question ≡ true → Passes question
  whole question is = and_from link.usable _ for.usable (and_from _ (fits setup view link question) for.quiet is)

  own_passes : (command : Command) → is_own_step setup.reads command ≡ true → Passes (Own command)
  own_passes command is = whole (Own command) (and_from _ (is_own_step setup.reads command) (free_so n link (view.held n) for.lends) is)

  -- a step to a place
  place_passes : (place : Place) → IsRead setup.reads texts link.told.settings place.settings → IsReached link.told.schema place.schema → (found : Option Command) (command : Command) → place_step texts link.told place ≡ found → found ≡ Some command → Passes (Own command)
  place_passes place reads reaches found command is same =
      by_test (is_schema link.told.schema place.schema) (are_settings link.told.settings place.settings) refl refl (is ∙ same)
    where
      some-of : (a b : Command) → Some a ≡ Some b → a ≡ b
      some-of a b is = cc

      by_test : (a b : Bool) → is_schema link.told.schema place.schema ≡ a → are_settings link.told.settings place.settings ≡ b → (if not a then Some (InitDb place.schema) else if not b then Some (Query (texts.leads link.told.settings place.settings)) else None) ≡ Some command
          → Passes (Own command)
      by_test false b here at step = subst (λ c. Passes (Own c)) (some-of _ _ step) (own_passes (InitDb place.schema) (reaches.some here))
      by_test true false here at step =
          subst (λ c. Passes (Own c)) (some-of _ _ step) (own_passes (Query (texts.leads link.told.settings place.settings)) (reads.set at))
      by_test true true here at step = absurd (cc)

  -- a step to the insert id
  id_passes : (command : Command) → id_step setup numbers due link.marked link.id (view.held n).id ≡ Some command → Passes (Own command)
  id_passes command is = by_test (is_marked setup.reads due.command && not (link.marked || is_id link.id (view.held n).id)) (numbered (view.held n).id numbers) is where
    some-of : (a b : Command) → Some a ≡ Some b → a ≡ b
    some-of a b is = cc

    by_test : (b : Bool) (number : Option Number) → (if b then option_map_or (λ n. Some (SetId n)) number None else None) ≡ Some command → Passes (Own command)
    by_test true (Some number) step = subst (λ c. Passes (Own c)) (some-of _ _ step) (own_passes (SetId number) refl)
    by_test true None step = absurd (cc)
    by_test false number step = absurd (cc)

  -- the preparation
  prep_passes : place_step texts link.told (key_place texts setup due link.told) ≡ None → Passes (Prep n due.key (setup.keys due.key).text)
  prep_passes none =
      let place : Place = key_place texts setup due link.told in
      let placed = and_parts (is_schema link.told.schema place.schema) (are_settings link.told.settings place.settings) (placed_so texts link.told place none) in
      let settings : link.told.settings ≡ place.settings = same_settings link.told.settings place.settings placed.1 in
      let core_is : core link.told.settings ≡ core (setup.keys due.key).place.settings = ap core settings ∙ read.calm in
      whole (Prep n due.key (setup.keys due.key).text)
      (and_from (is_told_key setup due.key (setup.keys due.key).text link.told) _
      (and_from _ _ (same_bytes (setup.keys due.key).text) (and_from _ _ placed.0 (equal_settings (core link.told.settings) (core (setup.keys due.key).place.settings) core_is)))
      (or_left (may_lend n link (view.held n) && not (is_pinned (view.held n).pin)) _
      (and_from (may_lend n link (view.held n)) (not (is_pinned (view.held n).pin)) for.lends waits.unpinned)))

  -- the statement
  keyed_passes : (command : Command) → is_of_key setup due command ≡ true → is_unprepared link.live due command ≡ false → is_placed link.told due.place ≡ true
      → is_keyed setup command due.key link.told link.live ≡ true
  keyed_passes (Run text schema settings args) of_key prepared placed = and_from (is_some (link.live due.key)) _ (not-false (is_some (link.live due.key)) prepared) of_key
  keyed_passes (Prepare text) of_key prepared placed =
      let parts = and_parts (is_schema link.told.schema due.place.schema) (are_settings link.told.settings due.place.settings) placed in
      let key = and_parts (bytes_eq text (setup.keys due.key).text) _ of_key in
      let rest = and_parts (is_schema (Some due.place.schema) (setup.keys due.key).place.schema) _ key.1 in
      let schema : link.told.schema ≡ Some due.place.schema = same_schema link.told.schema due.place.schema parts.0 in
      let settings : link.told.settings ≡ due.place.settings = same_settings link.told.settings due.place.settings parts.1 in
      and_from (bytes_eq text (setup.keys due.key).text) _ key.0
      (and_from _ _ (ap (λ s. is_schema s (setup.keys due.key).place.schema) schema ∙ rest.0)
      (ap (λ s. are_settings (core s) (core (setup.keys due.key).place.settings)) settings ∙ rest.1))
  keyed_passes (Query text) of_key prepared placed = refl
  keyed_passes (InitDb schema) of_key prepared placed = refl
  keyed_passes (FieldList rest) of_key prepared placed = refl
  keyed_passes (SetId number) of_key prepared placed = refl
  keyed_passes ReadId of_key prepared placed = refl
  keyed_passes Reset of_key prepared placed = refl
  keyed_passes Quit of_key prepared placed = refl

  statement_passes : is_unprepared link.live due due.command ≡ false → place_step texts link.told due.place ≡ None
      → id_step setup numbers due link.marked link.id (view.held n).id ≡ None → Passes (Statement n due)
  statement_passes prepared none no_id =
      let placed = placed_so texts link.told due.place none in
      let id : HasId setup due link.marked link.id (view.held n).id = id_so setup numbers due link.marked link.id (view.held n).id waits.in_bits no_id in
      let same_id : (not (is_marked setup.reads due.command) || is_id link.id (view.held n).id) ≡ true =
      ap (λ m. not (is_marked setup.reads due.command) || (m || is_id link.id (view.held n).id)) (sym for.unmarked) ∙ id.has in
      whole (Statement n due)
      (and_from (has_due view n due) _ waits.is_due (and_from _ _ waits.unsent (and_from _ _ waits.present (and_from _ _ waits.statement
      (and_from _ _ (keyed_passes due.command waits.of_key prepared placed)
      (or_left (begins_there setup n due link (view.held n)) (goes_on_there setup n due link (view.held n))
      (and_from (may_lend n link (view.held n)) _ for.lends (and_from _ _ waits.unpinned (and_from due.anew _ waits.anew (and_from _ _ placed
      (and_from _ _ for.account (and_from _ _ waits.blind (and_from _ _ waits.known same_id)))))))))))))

  step_or : (step : Option Command) (other : Question) → ((command : Command) → step ≡ Some command → Passes (Own command)) → (step ≡ None → Passes other)
      → Passes (or_else step Own other)
  step_or (Some command) other steps last = steps command refl
  step_or None other steps last = last refl

  pub passes_so : Passes (question_for texts numbers setup n due Own link (view.held n))
  passes_so = by_test (is_unprepared link.live due due.command) refl where
    at_key : Question
    at_key = or_else (place_step texts link.told (key_place texts setup due link.told)) Own (Prep n due.key (setup.keys due.key).text)

    by_test : (b : Bool) → is_unprepared link.live due due.command ≡ b
        → Passes (if b then or_else (place_step texts link.told (key_place texts setup due link.told)) Own (Prep n due.key (setup.keys due.key).text)
        else or_else (place_step texts link.told due.place) Own (or_else (id_step setup numbers due link.marked link.id (view.held n).id) Own (Statement n due)))
    by_test true un =
        step_or (place_step texts link.told (key_place texts setup due link.told)) (Prep n due.key (setup.keys due.key).text)
        (λ command is. place_passes (key_place texts setup due link.told) read.key read.key_schema (Some command) command is refl) prep_passes
    by_test false un =
        step_or (place_step texts link.told due.place) (or_else (id_step setup numbers due link.marked link.id (view.held n).id) Own (Statement n due))
        (λ command is. place_passes due.place read.place read.schema (Some command) command is refl)
        (λ none. step_or (id_step setup numbers due link.marked link.id (view.held n).id) (Statement n due) id_passes (statement_passes un none))
