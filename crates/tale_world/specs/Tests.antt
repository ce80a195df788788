-- Whether a question may be begun, as a test of what is known.
use Rattle.std.specs.Prelude.{ℕ, Bool, true, false, not, ◌&&◌, ◌||◌, is_some, nat_eq, bytes_eq, List, [], ◌∷◌, ◌++◌, Option, Some, None}
use Rattle.std.specs.Option.{option_map_or}
use Rattle.pin_classifier.specs.declared.class.Class.{Class}
use Rattle.session_vars.specs.declared.change.SlotValue.{SlotValue}
use Rattle.session_vars.specs.declared.change.SlotValue.TheVariants.{Default, Text}
use Rattle.session_state.specs.Classes.{Effect, Tracked, effect_of, sets_autocommit, takes}
use Rattle.session_state.specs.Pins.{is_pinned, needs_reset, reads_own}
use Rattle.session_state.specs.declared.pin.Pin.{Pin}
use Rattle.session_state.specs.declared.place.Place.{Place}
use Rattle.session_state.specs.declared.place.Told.{Told}
use Rattle.server_rule.specs.Classes.{Reads, core}
use Rattle.private_model.specs.Names.{SessionName}
use Rattle.private_model.specs.Commands.{Account, Command, InitDb, Prepare, Query, Quit, Run, SetId, class_of, is_marked}
use Rattle.server_rule.specs.declared.session.Capabilities.{Capabilities}
use Rattle.private_model.specs.Lawful.{is_statement}
use Rattle.private_model.specs.Story.{Broke, Capture, Due, End, Happening, Own, Prep, Question, Sent, Statement, Story, Sync, Unprepared, is_name, message_of}
use Rattle.private_model.specs.View.{Carried, Held, Joined, Lent, Link, Nobody, Setup, View, present, view_after}
use Rattle.log_story.specs.Servers.{is_quiet}

-- Values.

abbrev pub is_value : SlotValue → SlotValue → Bool
is_value Default Default = true
is_value (Text a) (Text b) = bytes_eq a b
is_value _ _ = false

abbrev pub are_settings : List SlotValue → List SlotValue → Bool
are_settings [] [] = true
are_settings (a ∷ xs) (b ∷ ys) = is_value a b && are_settings xs ys
are_settings _ _ = false

abbrev pub is_schema : Option (List ℕ) → List ℕ → Bool
is_schema (Some told) schema = bytes_eq told schema
is_schema None schema = false

abbrev pub is_flag : Bool → Bool → Bool
is_flag true b = b
is_flag false b = not b

abbrev pub are_flags : Capabilities → Capabilities → Bool
are_flags a b =
    is_flag a.found_rows b.found_rows
    && (is_flag a.multi_results b.multi_results && is_flag a.ignore_space b.ignore_space)

abbrev pub is_account : Account → Account → Bool
is_account a b = bytes_eq a.user b.user && are_flags a.capabilities b.capabilities

-- both are known, and equal
abbrev pub is_id : Option ℕ → Option ℕ → Bool
is_id (Some a) (Some b) = nat_eq a b
is_id _ _ = false

abbrev pub is_nobody : Carried → Bool
is_nobody Nobody = true
is_nobody _ = false

abbrev pub is_lent_to : SessionName → Carried → Bool
is_lent_to n (Lent m) = is_name n m
is_lent_to n _ = false

abbrev pub is_lent : Carried → Bool
is_lent (Lent m) = true
is_lent _ = false

abbrev pub is_joined : SessionName → Carried → Bool
is_joined n (Joined m) = is_name n m
is_joined n _ = false

-- Statements.

abbrev pub is_placed : Told → Place → Bool
is_placed told place = is_schema told.schema place.schema && are_settings told.settings place.settings

abbrev pub is_told_key : Setup → (key : ℕ) → (text : List ℕ) → Told → Bool
is_told_key setup key text told =
    bytes_eq text (setup.keys key).text
    && (is_schema told.schema (setup.keys key).place.schema
    && are_settings (core told.settings) (core (setup.keys key).place.settings))

abbrev pub is_keyed : Setup → Command → (key : ℕ) → Told → (live : ℕ → Option ℕ) → Bool
is_keyed setup (Run text schema settings args) key told live =
    is_some (live key)
    && (bytes_eq text (setup.keys key).text
    && (bytes_eq schema (setup.keys key).place.schema
    && are_settings (core settings) (core (setup.keys key).place.settings)))
is_keyed setup (Prepare text) key told live = is_told_key setup key text told
is_keyed setup _ key told live = true

abbrev pub may_lend : SessionName → Link → Held → Bool
may_lend n link held = (is_nobody link.carries && not (is_some held.home)) || is_lent_to n link.carries

-- it reads nothing of earlier statements
abbrev pub is_blind : Class → Bool
is_blind class = not class.reads_diag && not class.reads_found

-- in a session without a Pin, on a link that carries nobody
abbrev pub begins_there : Setup → SessionName → Due → Link → Held → Bool
begins_there setup n due link held =
    may_lend n link held
    && (not (is_pinned held.pin)
    && (due.anew
    && (is_placed link.told due.place
    && (is_account link.account (setup.accounts n.client)
    && (is_blind (class_of setup.reads due.command)
    && (is_some held.id && (not (is_marked setup.reads due.command) || is_id link.id held.id)))))))

-- in one with a Pin, on its own link
abbrev pub goes_on_there : Setup → SessionName → Due → Link → Held → Bool
goes_on_there setup n due link held =
    is_joined n link.carries
    && (is_pinned held.pin
    && (not due.anew && (is_placed link.told due.place
    && (reads_own (class_of setup.reads due.command) held.pin
    && (not (is_marked setup.reads due.command) || (link.marked || is_id link.id held.id))))))

abbrev pub has_due : View → SessionName → Due → Bool
has_due view n due = option_map_or (λ other. nat_eq other.ordinal due.ordinal) (view.dues n) false

abbrev pub may_state : Setup → View → SessionName → Due → Link → Bool
may_state setup view n due link =
    has_due view n due
    && (not (is_some (view.carriers (message_of n due)))
    && (is_name n (present view n.client n.hostgroup)
    && (is_statement due.command
    && (is_keyed setup due.command due.key link.told link.live
    && (begins_there setup n due link (view.held n) || goes_on_there setup n due link (view.held n))))))

-- Preparations and steps.

abbrev pub may_prepare : Setup → SessionName → (key : ℕ) → (text : List ℕ) → Link → Held → Bool
may_prepare setup n key text link held =
    is_told_key setup key text link.told
    && ((may_lend n link held && not (is_pinned held.pin))
    || (is_joined n link.carries && is_pinned held.pin))

-- a tracked SET and nothing else
abbrev pub is_set_by : Class → (tx : Bool) → Effect → Bool
is_set_by class tx (Tracked changes) =
    not class.marks_id
    && (is_blind class
    && (not class.deep
    && (not (takes class) && (not class.next_tx
    && (not class.savepoint
    && (not class.outlasts_reset && (not (sets_autocommit changes) || not tx)))))))
is_set_by class tx _ = false

abbrev pub is_set : Class → (tx : Bool) → Bool
is_set class tx = is_set_by class tx (effect_of class)

abbrev pub is_step_of : Reads → Command → Pin → (id : Option ℕ) → Bool
is_step_of reads (InitDb schema) pin id = not (bytes_eq schema [])
is_step_of reads (Query text) pin id = is_set (reads.class text) pin.tx
is_step_of reads (SetId n) pin id = is_id id (Some n.value)
is_step_of reads _ pin id = false

abbrev pub is_own_step : Reads → Command → Bool
is_own_step reads (InitDb schema) = not (bytes_eq schema [])
is_own_step reads (Query text) = is_set (reads.class text) false
is_own_step reads (SetId n) = true
is_own_step reads Quit = true
is_own_step reads _ = false

abbrev pub fits : Setup → View → Link → Question → Bool
fits setup view link (Statement n due) = may_state setup view n due link
fits setup view link (Prep n key text) = may_prepare setup n key text link (view.held n)
fits setup view link (Sync n command) =
    is_joined n link.carries
    && (is_pinned (view.held n).pin
    && is_step_of setup.reads command (view.held n).pin (view.held n).id)
fits setup view link (Own command) =
    (is_nobody link.carries || is_lent link.carries) && is_own_step setup.reads command
fits setup view link (End n) =
    is_joined n link.carries
    && (not (is_name n (present view n.client n.hostgroup))
    && (needs_reset (view.held n).pin && not (view.lasting n)))
fits setup view link (Capture n) =
    is_joined n link.carries && (not (is_pinned (view.held n).pin) && not (is_some (view.held n).id))

abbrev pub may_begin_question : Setup → View → Link → Question → Bool
may_begin_question setup view link question =
    link.usable && (is_quiet link.stage && fits setup view link question)

-- What is told as a question begins, the last first.

abbrev pub may_happen : Setup → View → Happening → Bool
may_happen setup view (Sent link question) = may_begin_question setup view (view.links link) question
may_happen setup view (Unprepared link number) = is_quiet (view.links link).stage
may_happen setup view Broke = false
may_happen setup view _ = true

abbrev pub may_tell : Setup → List Happening → Story → Bool
may_tell setup [] story = true
may_tell setup (e ∷ es) story =
    may_tell setup es story && may_happen setup (view_after setup (es ++ story)) e
