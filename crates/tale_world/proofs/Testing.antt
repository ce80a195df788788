-- The test of a question says what the rules of sending ask for.
use Rattle.std.specs.Prelude.{◌≡◌, ◌≢◌, ◌⊎◌, ℕ, Bool, true, false, not, ◌&&◌, ◌||◌, is_some, bytes_eq, List, [], ◌∷◌, ◌++◌, Option, Some, None}
use Rattle.std.proofs.Common.{refl, sym, ap, ◌∙◌, inl, inr}
use Rattle.std.proofs.lemmas.Bool.{and_parts, not-true, or_cases}
use Rattle.std.proofs.lemmas.Slice.Eq.{bytes_eq-Decides}
use Rattle.pin_classifier.specs.declared.class.Class.{Class}
use Rattle.session_vars.specs.declared.change.SlotValue.{SlotValue}
use Rattle.session_vars.specs.declared.change.SlotValue.TheVariants.{Default, Text}
use Rattle.session_state.specs.Classes.{Effect, Neither, Tracked, Uses, effect_of, sets_autocommit, takes}
use Rattle.session_state.specs.Pins.{is_pinned, needs_reset, reads_own}
use Rattle.session_state.specs.declared.pin.Pin.{Pin}
use Rattle.session_state.specs.declared.place.Place.{Place}
use Rattle.session_state.specs.declared.place.Told.{Told}
use Rattle.server_rule.specs.Classes.{Reads, core}
use Rattle.private_model.proofs.Maps.{name_of, number_of, same_name}
use Rattle.private_model.specs.Names.{SessionName}
use Rattle.private_model.specs.Commands.{Account, Command, FieldList, InitDb, Prepare, Query, Quit, ReadId, Reset, Run, SetId, class_of, is_marked}
use Rattle.server_rule.specs.declared.session.Capabilities.{Capabilities}
use Rattle.private_model.specs.Lawful.{BeginsThere, Fits, GoesOnThere, IdsAgree, IsKeyed, IsLawful, IsOwnStep, IsPlaced}
use Rattle.private_model.specs.Lawful.{IsSet, IsStatement, IsStepOf, IsToldKey, MayCome, MayLend, MaySend, PreparesFirst, PreparesThere, is_statement}
use Rattle.private_model.specs.Story.{BecameDue, Broke, Capture, Dropped, Due, End, Freed, Gone, Happening, Heard, Left, LoggedIn, Mirrored, Own, Prep, Question, Ran, Sent, Statement, Story, Sync, Unprepared}
use Rattle.private_model.specs.Story.{is_name, message_of}
use Rattle.private_model.specs.View.{Answered, Asked, Carried, Held, Joined, Lent, Link, Nobody, Quiet, Setup, Stage, View, present, view_after}
use Rattle.log_story.specs.Servers.{is_quiet}
use Rattle.tale_world.specs.Tests.{are_flags, are_settings, begins_there, fits, goes_on_there, has_due, is_account, is_blind, is_flag, is_id, is_joined, is_keyed, is_lent, is_lent_to, is_nobody}
use Rattle.tale_world.specs.Tests.{is_own_step, is_placed, is_schema, is_set_by, is_step_of, is_told_key, is_value, may_begin_question, may_happen, may_lend, may_prepare, may_state, may_tell}

isnt : {A : Type 0} → false ≡ true → A
isnt is = absurd (cc)

-- Values.

same_bytes : (a b : List ℕ) → bytes_eq a b ≡ true → a ≡ b
same_bytes a b is = (bytes_eq-Decides a b).0 is

same_value : (a b : SlotValue) → is_value a b ≡ true → a ≡ b
same_value Default Default is = refl
same_value (Text a) (Text b) is = ap (λ x. Text x) (same_bytes a b is)
same_value Default (Text b) is = isnt is
same_value (Text a) Default is = isnt is

pub same_settings : (a b : List SlotValue) → are_settings a b ≡ true → a ≡ b
same_settings [] [] is = refl
same_settings (a ∷ xs) (b ∷ ys) is =
    let parts = and_parts (is_value a b) (are_settings xs ys) is in
    ap (λ x. x ∷ xs) (same_value a b parts.0) ∙ ap (λ zs. b ∷ zs) (same_settings xs ys parts.1)
same_settings [] (b ∷ ys) is = isnt is
same_settings (a ∷ xs) [] is = isnt is

pub same_schema : (told : Option (List ℕ)) (schema : List ℕ) → is_schema told schema ≡ true → told ≡ Some schema
same_schema (Some told) schema is = ap (λ x. Some x) (same_bytes told schema is)
same_schema None schema is = isnt is

same_flag : (a b : Bool) → is_flag a b ≡ true → a ≡ b
same_flag true b is = sym is
same_flag false b is = sym (not-true b is)

capabilities_by : (a b : Capabilities) → a.found_rows ≡ b.found_rows → a.multi_results ≡ b.multi_results → a.ignore_space ≡ b.ignore_space → a ≡ b
capabilities_by a b found several space = λ i. record { found_rows = found i; multi_results = several i; ignore_space = space i }

same_capabilities : (a b : Capabilities) → are_flags a b ≡ true → a ≡ b
same_capabilities a b is =
    let first = and_parts (is_flag a.found_rows b.found_rows) _ is in
    let later = and_parts (is_flag a.multi_results b.multi_results) (is_flag a.ignore_space b.ignore_space) first.1 in
    capabilities_by a b (same_flag a.found_rows b.found_rows first.0) (same_flag a.multi_results b.multi_results later.0)
    (same_flag a.ignore_space b.ignore_space later.1)

account_by : (a b : Account) → a.user ≡ b.user → a.capabilities ≡ b.capabilities → a ≡ b
account_by a b user capabilities = λ i. record { user = user i; capabilities = capabilities i }

pub same_account : (a b : Account) → is_account a b ≡ true → a ≡ b
same_account a b is =
    let parts = and_parts (bytes_eq a.user b.user) (are_flags a.capabilities b.capabilities) is in
    account_by a b (same_bytes a.user b.user parts.0) (same_capabilities a.capabilities b.capabilities parts.1)

ids_agree : (a b : Option ℕ) → is_id a b ≡ true → IdsAgree a b
ids_agree (Some a) (Some b) is = record { id = b; link = ap (λ x. Some x) (number_of a b is); session = refl }
ids_agree None b is = isnt is
ids_agree (Some a) None is = isnt is

none_of : {A : Type 0} (o : Option A) → not (is_some o) ≡ true → o ≡ None
none_of None is = refl
none_of (Some a) is = isnt is

some_of : {A : Type 0} (o : Option A) → is_some o ≡ true → (a : A) × (o ≡ Some a)
some_of None is = isnt is
some_of (Some a) is = (a, refl)

-- Whom a link carries.

free_so : (carried : Carried) → is_nobody carried ≡ true → carried ≡ Nobody
free_so Nobody is = refl
free_so (Lent n) is = isnt is
free_so (Joined n) is = isnt is

lent_so : (n : SessionName) (carried : Carried) → is_lent_to n carried ≡ true → carried ≡ Lent n
lent_so n (Lent m) is = ap (λ x. Lent x) (sym (name_of n m is))
lent_so n Nobody is = isnt is
lent_so n (Joined m) is = isnt is

joined_so : (n : SessionName) (carried : Carried) → is_joined n carried ≡ true → carried ≡ Joined n
joined_so n (Joined m) is = ap (λ x. Joined x) (sym (name_of n m is))
joined_so n Nobody is = isnt is
joined_so n (Lent m) is = isnt is

some_lent : (carried : Carried) → is_lent carried ≡ true → (who : SessionName) × (carried ≡ Lent who)
some_lent (Lent m) is = (m, refl)
some_lent Nobody is = isnt is
some_lent (Joined m) is = isnt is

lends_so : (n : SessionName) (link : Link) (held : Held) → may_lend n link held ≡ true → MayLend n link held
lends_so n link held is = elim (or_cases (is_nobody link.carries && not (is_some held.home)) (is_lent_to n link.carries) is) [
  | inl vacant ↦ (let parts = and_parts (is_nobody link.carries) (not (is_some held.home)) vacant in
      inl (record { free = free_so link.carries parts.0; homeless = none_of held.home parts.1 }))
  | inr lent ↦ inr (lent_so n link.carries lent)
]

-- Statements.

placed_so : (told : Told) (place : Place) → is_placed told place ≡ true → IsPlaced told place
placed_so told place is =
    let parts = and_parts (is_schema told.schema place.schema) (are_settings told.settings place.settings) is in
    record { schema = same_schema told.schema place.schema parts.0; settings = same_settings told.settings place.settings parts.1 }

told_so : (setup : Setup) (key : ℕ) (text : List ℕ) (told : Told) → is_told_key setup key text told ≡ true → IsToldKey setup key text told
told_so setup key text told is =
    let parts = and_parts (bytes_eq text (setup.keys key).text) _ is in
    let rest = and_parts (is_schema told.schema (setup.keys key).place.schema) _ parts.1 in
    record {
      text_is = same_bytes text (setup.keys key).text parts.0;
      schema = same_schema told.schema (setup.keys key).place.schema rest.0;
      core = same_settings (core told.settings) (core (setup.keys key).place.settings) rest.1;
    }

keyed_so : (setup : Setup) (command : Command) (key : ℕ) (told : Told) (live : ℕ → Option ℕ) → is_keyed setup command key told live ≡ true
    → IsKeyed setup command key told live
keyed_so setup (Run text schema settings args) key told live is =
    let parts = and_parts (is_some (live key)) _ is in
    let rest = and_parts (bytes_eq text (setup.keys key).text) _ parts.1 in
    let last = and_parts (bytes_eq schema (setup.keys key).place.schema) _ rest.1 in
    let found = some_of (live key) parts.0 in
    record {
      number = found.0;
      there = found.1;
      text_of = same_bytes text (setup.keys key).text rest.0;
      schema_of = same_bytes schema (setup.keys key).place.schema last.0;
      core_of = same_settings (core settings) (core (setup.keys key).place.settings) last.1;
    }
keyed_so setup (Prepare text) key told live is = told_so setup key text told is
keyed_so setup (Query text) key told live is = tt
keyed_so setup (InitDb schema) key told live is = tt
keyed_so setup (FieldList rest) key told live is = tt
keyed_so setup (SetId n) key told live is = tt
keyed_so setup ReadId key told live is = tt
keyed_so setup Reset key told live is = tt
keyed_so setup Quit key told live is = tt

-- where the text is marked, the other test holds
marked_so : (marked other : Bool) → (not marked || other) ≡ true → marked ≡ true → other ≡ true
marked_so true other is marks = is
marked_so false other is marks = isnt marks

begins_so : (setup : Setup) (n : SessionName) (due : Due) (link : Link) (held : Held) → is_statement due.command ≡ true
    → IsKeyed setup due.command due.key link.told link.live → begins_there setup n due link held ≡ true → BeginsThere setup n due link held
begins_so setup n due link held statement keyed is =
    let a = and_parts (may_lend n link held) _ is in
    let b = and_parts (not (is_pinned held.pin)) _ a.1 in
    let c = and_parts due.anew _ b.1 in
    let d = and_parts (is_placed link.told due.place) _ c.1 in
    let e = and_parts (is_account link.account (setup.accounts n.client)) _ d.1 in
    let f = and_parts (is_blind (class_of setup.reads due.command)) _ e.1 in
    let blind = and_parts (not (class_of setup.reads due.command).reads_diag) _ f.0 in
    let g = and_parts (is_some held.id) (not (is_marked setup.reads due.command) || is_id link.id held.id) f.1 in
    let known = some_of held.id g.0 in
    record {
      lends = lends_so n link held a.0;
      begins = record {
        statement = statement;
        keyed = keyed;
        unpinned = not-true (is_pinned held.pin) b.0;
        anew = c.0;
        placed = placed_so link.told due.place d.0;
        account = same_account link.account (setup.accounts n.client) e.0;
        blind = not-true (class_of setup.reads due.command).reads_diag blind.0;
        blind_found = not-true (class_of setup.reads due.command).reads_found blind.1;
        known = known.0;
        no_capture = known.1;
        marks = λ marked.
            let ids = ids_agree link.id held.id (marked_so (is_marked setup.reads due.command) (is_id link.id held.id) g.1 marked) in
            ids.link ∙ sym ids.session;
      };
    }

goes_on_so : (setup : Setup) (n : SessionName) (due : Due) (link : Link) (held : Held) → is_statement due.command ≡ true
    → IsKeyed setup due.command due.key link.told link.live → goes_on_there setup n due link held ≡ true → GoesOnThere setup n due link held
goes_on_so setup n due link held statement keyed is =
    let class = class_of setup.reads due.command in
    let a = and_parts (is_joined n link.carries) _ is in
    let b = and_parts (is_pinned held.pin) _ a.1 in
    let c = and_parts (not due.anew) _ b.1 in
    let d = and_parts (is_placed link.told due.place) _ c.1 in
    let own = and_parts (reads_own class held.pin) (not (is_marked setup.reads due.command) || (link.marked || is_id link.id held.id)) d.1 in
    let reads = and_parts (not class.reads_diag || (is_pinned held.pin && held.pin.own_diag)) _ own.0 in
    record {
      carries = joined_so n link.carries a.0;
      goes_on = record {
        statement = statement;
        keyed = keyed;
        pinned = b.0;
        anew = not-true due.anew c.0;
        placed = placed_so link.told due.place d.0;
        reads = record {
          diag = λ looks. (and_parts (is_pinned held.pin) held.pin.own_diag (marked_so class.reads_diag _ reads.0 looks)).1;
          found = λ looks. (and_parts (is_pinned held.pin) held.pin.own_found (marked_so class.reads_found _ reads.1 looks)).1;
        };
        marks = λ marked. how (or_cases link.marked (is_id link.id held.id) (marked_so (is_marked setup.reads due.command) (link.marked || is_id link.id held.id) own.1 marked));
      };
    }
  where
    how : (link.marked ≡ true) ⊎ (is_id link.id held.id ≡ true) → (link.marked ≡ true) ⊎ IdsAgree link.id held.id
    how (inl marked) = inl marked
    how (inr same) = inr (ids_agree link.id held.id same)

-- the due statement is the one that the view has
abbrev pub IsOfView : View → Question → Type 0
IsOfView view (Statement n due) = view.dues n ≡ Some due
IsOfView view _ = Unit {0}

statement_so : (setup : Setup) (view : View) (n : SessionName) (due : Due) (link : Link) → IsOfView view (Statement n due) → may_state setup view n due link ≡ true
    → IsStatement setup view n due link
statement_so setup view n due link of_view is =
    let a = and_parts (has_due view n due) _ is in
    let b = and_parts (not (is_some (view.carriers (message_of n due)))) _ a.1 in
    let c = and_parts (is_name n (present view n.client n.hostgroup)) _ b.1 in
    let d = and_parts (is_statement due.command) _ c.1 in
    let e = and_parts (is_keyed setup due.command due.key link.told link.live) _ d.1 in
    let keyed = keyed_so setup due.command due.key link.told link.live e.0 in
    record {
      is_due = of_view;
      unsent = none_of (view.carriers (message_of n due)) b.0;
      present = name_of n (present view n.client n.hostgroup) c.0;
      how = elim (or_cases (begins_there setup n due link (view.held n)) (goes_on_there setup n due link (view.held n)) e.1) [
        | inl begins ↦ inl (begins_so setup n due link (view.held n) d.0 keyed begins)
        | inr goes ↦ inr (goes_on_so setup n due link (view.held n) d.0 keyed goes)
      ];
    }

-- Preparations and steps.

prepare_so : (setup : Setup) (n : SessionName) (key : ℕ) (text : List ℕ) (link : Link) (held : Held) → may_prepare setup n key text link held ≡ true
    → PreparesFirst setup n key text link held ⊎ PreparesThere setup n key text link held
prepare_so setup n key text link held is =
    let parts = and_parts (is_told_key setup key text link.told) _ is in
    let told = told_so setup key text link.told parts.0 in
    elim (or_cases (may_lend n link held && not (is_pinned held.pin)) (is_joined n link.carries && is_pinned held.pin) parts.1) [
      | inl first ↦ (let both = and_parts (may_lend n link held) (not (is_pinned held.pin)) first in
          inl (record { told = told; lends = lends_so n link held both.0; unpinned = not-true (is_pinned held.pin) both.1 }))
      | inr there ↦ (let both = and_parts (is_joined n link.carries) (is_pinned held.pin) there in
          inr (record { told = told; carries = joined_so n link.carries both.0; pinned = both.1 }))
    ]

set_by : (class : Class) (tx : Bool) (effect : Effect) → effect_of class ≡ effect → is_set_by class tx effect ≡ true → IsSet class tx
set_by class tx (Tracked changes) same is =
    let a = and_parts (not class.marks_id) _ is in
    let b = and_parts (is_blind class) _ a.1 in
    let blind = and_parts (not class.reads_diag) _ b.0 in
    let c = and_parts (not class.deep) _ b.1 in
    let d = and_parts (not (takes class)) _ c.1 in
    let e = and_parts (not class.next_tx) _ d.1 in
    let f = and_parts (not class.savepoint) _ e.1 in
    let g = and_parts (not class.outlasts_reset) (not (sets_autocommit changes) || not tx) f.1 in
    record {
      changes = changes;
      effect = same;
      unmarked = not-true class.marks_id a.0;
      blind = not-true class.reads_diag blind.0;
      blind_found = not-true class.reads_found blind.1;
      shallow = not-true class.deep c.0;
      no_locks = not-true (takes class) d.0;
      next_tx = not-true class.next_tx e.0;
      savepoint = not-true class.savepoint f.0;
      resets = not-true class.outlasts_reset g.0;
      calm = λ sets. not-true tx (marked_so (sets_autocommit changes) (not tx) g.1 sets);
    }
set_by class tx (Uses schema) same is = isnt is
set_by class tx Neither same is = isnt is

some_schema : (schema : List ℕ) → not (bytes_eq schema []) ≡ true → schema ≢ []
some_schema schema is none = isnt (sym (ap not ((bytes_eq-Decides schema []).1 none)) ∙ is)

step_so : (reads : Reads) (command : Command) (pin : Pin) (id : Option ℕ) → is_step_of reads command pin id ≡ true → IsStepOf reads command pin id
step_so reads (InitDb schema) pin id is = some_schema schema is
step_so reads (Query text) pin id is = set_by (reads.class text) pin.tx (effect_of (reads.class text)) refl is
step_so reads (SetId n) pin id is = let ids = ids_agree id (Some n.value) is in ids.link ∙ sym ids.session
step_so reads (FieldList rest) pin id is = isnt is
step_so reads ReadId pin id is = isnt is
step_so reads (Prepare text) pin id is = isnt is
step_so reads (Run text schema settings args) pin id is = isnt is
step_so reads Reset pin id is = isnt is
step_so reads Quit pin id is = isnt is

own_so : (reads : Reads) (command : Command) → is_own_step reads command ≡ true → IsOwnStep reads command
own_so reads (InitDb schema) is = some_schema schema is
own_so reads (Query text) is = set_by (reads.class text) false (effect_of (reads.class text)) refl is
own_so reads (SetId n) is = tt
own_so reads Quit is = tt
own_so reads (FieldList rest) is = isnt is
own_so reads ReadId is = isnt is
own_so reads (Prepare text) is = isnt is
own_so reads (Run text schema settings args) is = isnt is
own_so reads Reset is = isnt is

left_so : (n other : SessionName) → is_name n other ≡ false → n ≢ other
left_so n other isnt_it same = isnt (sym isnt_it ∙ ap (is_name n) (sym same) ∙ same_name n)

fits_so : (setup : Setup) (view : View) (link : Link) (question : Question) → IsOfView view question → fits setup view link question ≡ true
    → Fits setup view link question
fits_so setup view link (Statement n due) of_view is = statement_so setup view n due link of_view is
fits_so setup view link (Prep n key text) of_view is = prepare_so setup n key text link (view.held n) is
fits_so setup view link (Sync n command) of_view is =
    let a = and_parts (is_joined n link.carries) _ is in
    let b = and_parts (is_pinned (view.held n).pin) (is_step_of setup.reads command (view.held n).pin (view.held n).id) a.1 in
    record { carries = joined_so n link.carries a.0; pinned = b.0; fits = step_so setup.reads command (view.held n).pin (view.held n).id b.1 }
fits_so setup view link (Own command) of_view is =
    let a = and_parts (is_nobody link.carries || is_lent link.carries) (is_own_step setup.reads command) is in
    record {
      free = elim (or_cases (is_nobody link.carries) (is_lent link.carries) a.0) [
        | inl nobody ↦ inl (free_so link.carries nobody)
        | inr lent ↦ inr (some_lent link.carries lent)
      ];
      fits = own_so setup.reads command a.1;
    }
fits_so setup view link (End n) of_view is =
    let a = and_parts (is_joined n link.carries) _ is in
    let b = and_parts (not (is_name n (present view n.client n.hostgroup))) _ a.1 in
    let c = and_parts (needs_reset (view.held n).pin) (not (view.lasting n)) b.1 in
    record {
      carries = joined_so n link.carries a.0;
      left = left_so n (present view n.client n.hostgroup) (not-true (is_name n (present view n.client n.hostgroup)) b.0);
      needed = c.0;
      resets = not-true (view.lasting n) c.1;
    }
fits_so setup view link (Capture n) of_view is =
    let a = and_parts (is_joined n link.carries) _ is in
    let b = and_parts (not (is_pinned (view.held n).pin)) (not (is_some (view.held n).id)) a.1 in
    record { carries = joined_so n link.carries a.0; unpinned = not-true (is_pinned (view.held n).pin) b.0; unknown = none_of (view.held n).id b.1 }

quiet_so : (stage : Stage) → is_quiet stage ≡ true → stage ≡ Quiet
quiet_so Quiet is = refl
quiet_so (Asked question) is = isnt is
quiet_so (Answered question) is = isnt is

-- the test is sound
pub may_send_so : (setup : Setup) (view : View) (link : Link) (question : Question) → IsOfView view question → may_begin_question setup view link question ≡ true
    → MaySend setup view link question
may_send_so setup view link question of_view is =
    let a = and_parts link.usable _ is in
    let b = and_parts (is_quiet link.stage) (fits setup view link question) a.1 in
    record { usable = a.0; quiet = quiet_so link.stage b.0; fits = fits_so setup view link question of_view b.1 }

-- What is told as a question begins.

abbrev pub IsBegun : View → Happening → Type 0
IsBegun view (Sent link question) = IsOfView view question
IsBegun view (Unprepared link number) = Unit {0}
IsBegun view (Left client) = Unit {0}
IsBegun view Broke = Unit {0}
IsBegun view _ = ⊥

abbrev pub AreBegun : Setup → List Happening → Story → Type 0
AreBegun setup [] story = Unit {0}
AreBegun setup (e ∷ es) story = AreBegun setup es story × IsBegun (view_after setup (es ++ story)) e

happens_so : (setup : Setup) (view : View) (e : Happening) → IsBegun view e → may_happen setup view e ≡ true → MayCome setup view e
happens_so setup view (Sent link question) begun is = may_send_so setup view (view.links link) question begun is
happens_so setup view (Unprepared link number) begun is = quiet_so (view.links link).stage is
happens_so setup view (Left client) begun is = tt
happens_so setup view (LoggedIn link server account) begun is = absurd begun
happens_so setup view (BecameDue client hostgroup ordinal key command multiplex) begun is = tt
happens_so setup view (Ran link) begun is = tt
happens_so setup view (Heard link reply) begun is = tt
happens_so setup view (Freed link) begun is = absurd begun
happens_so setup view (Dropped link) begun is = tt
happens_so setup view (Gone link) begun is = tt
happens_so setup view (Mirrored client job) begun is = tt
happens_so setup view Broke begun is = isnt is

pub tells_so : (setup : Setup) (es : List Happening) (story : Story) → AreBegun setup es story → may_tell setup es story ≡ true → IsLawful setup story
    → IsLawful setup (es ++ story)
tells_so setup [] story begun is lawful = lawful
tells_so setup (e ∷ es) story begun is lawful =
    let parts = and_parts (may_tell setup es story) (may_happen setup (view_after setup (es ++ story)) e) is in
    (tells_so setup es story begun.0 parts.0 lawful, happens_so setup (view_after setup (es ++ story)) e begun.1 parts.1)
