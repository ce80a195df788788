-- Code's tests of values, forms and links are the law's.
use Rattle.std.specs.Prelude.{◌≡◌, ℕ, Bool, true, false, not, ◌&&◌, ◌||◌, is_some, nat_eq, bytes_eq, slice_index_or, List, [], ◌∷◌, ◌++◌, Option, Some, None}
use Rattle.std.proofs.Common.{refl, sym, ap, ◌∙◌, subst}
use Rattle.std.proofs.lemmas.Bool.{and_parts, and_from, false≢true, true≢false, not-true}
use Rattle.std.proofs.lemmas.Slice.Eq.{bytes_eq-Decides}
use Rattle.pin_classifier.specs.declared.class.Class.{Class}
use Rattle.session_vars.specs.Settings.{same_value}
use Rattle.session_vars.specs.declared.change.SlotValue.{SlotValue}
use Rattle.session_vars.specs.declared.change.SlotValue.TheVariants.{Default, Text as Value}
use Rattle.session_state.specs.Classes.{Effect, Neither, Tracked, Uses, effect_of}
use Rattle.session_state.specs.Pins.{is_pinned, reads_own}
use Rattle.session_state.specs.declared.pin.Pin.{Pin}
use Rattle.session_state.specs.declared.place.Place.{Place}
use Rattle.session_state.specs.declared.place.Told.{Told}
use Rattle.server_rule.specs.Classes.{Reads, core}
use Rattle.server_side.specs.Account.{Account as Login}
use Rattle.private_model.specs.Commands as commands
use Rattle.private_model.specs.Commands.{Command, class_of, is_marked}
use Rattle.private_model.specs.Lawful.{is_statement}
use Rattle.private_model.specs.Names.{SessionName}
use Rattle.private_model.specs.Story.{Due, Key}
use Rattle.private_model.specs.View as view
use Rattle.private_model.specs.View.{Setup}
use Rattle.log_story.specs.Plan.{Route}
use Rattle.log_story.specs.Servers.{logged_in_as}
use Rattle.tale_world.proofs.Testing.{same_settings}
use Rattle.tale_world.specs.Tests as tests
use Rattle.link_state.specs.Asks.{marks}
use Rattle.link_state.specs.Places.{is_schema}
use Rattle.link_state.specs.Wants.{is_id}
use Rattle.link_state.specs.declared.asking.Form.{Form}
use Rattle.link_state.specs.declared.asking.Form.TheVariants.{Text, Fields, Prepare, SetId, ReadId, Reset}
use Rattle.link_state.specs.declared.state.Carried.{Carried}
use Rattle.link_state.specs.declared.state.Carried.TheVariants.{Nobody, Lent, Joined}
use Rattle.link_laws.specs.Stands.{IsForm, carried_of}
use Rattle.served_link.specs.declared.row.Identity.{Identity}
use Rattle.core_stands.specs.Stands.{IsKeyedFor}
use Rattle.core_tables.specs.Passing.{are_settings, is_account, is_blind, is_flag, is_joined, is_lent, is_lent_to, is_nobody, is_placed, is_set_by, reads_its_own}

-- Values.

value_is : (a b : SlotValue) → same_value a b ≡ tests.is_value a b
value_is Default Default = refl
value_is Default (Value b) = refl
value_is (Value a) Default = refl
value_is (Value a) (Value b) = refl

settings_are : (a b : List SlotValue) → are_settings a b ≡ tests.are_settings a b
settings_are [] [] = refl
settings_are (a ∷ xs) (b ∷ ys) = λ i. value_is a b i && settings_are xs ys i
settings_are [] (b ∷ ys) = refl
settings_are (a ∷ xs) [] = refl

schema_is : (told : Option (List ℕ)) (schema : List ℕ) → is_schema told schema ≡ tests.is_schema told schema
schema_is None schema = refl
schema_is (Some told) schema = refl

pub placed_is : (told : Told) (place : Place) → is_placed told place ≡ tests.is_placed told place
placed_is told place = λ i. schema_is told.schema place.schema i && settings_are told.settings place.settings i

flag_is : (a b : Bool) → is_flag a b ≡ tests.is_flag a b
flag_is true b = refl
flag_is false b = refl

pub account_is : (identity : Identity) (login account : Login) → identity.user ≡ login.user → identity.found_rows ≡ login.found_rows
    → is_account identity account ≡ true → tests.is_account (logged_in_as login) (logged_in_as account) ≡ true
account_is identity login account user found is =
    let parts = and_parts (bytes_eq identity.user account.user) (is_flag identity.found_rows account.found_rows) is in
    let same : tests.is_flag login.found_rows account.found_rows ≡ true =
    ap (λ (b : Bool). tests.is_flag b account.found_rows) (sym found) ∙ sym (flag_is identity.found_rows account.found_rows) ∙ parts.1 in
    and_from (bytes_eq login.user account.user) (tests.is_flag login.found_rows account.found_rows && true)
    (ap (λ (u : List ℕ). bytes_eq u account.user) (sym user) ∙ parts.0)
    (and_from (tests.is_flag login.found_rows account.found_rows) true same refl)

pub id_is : (a b : Option ℕ) → is_id a b ≡ tests.is_id a b
id_is (Some a) (Some b) = refl
id_is (Some a) None = refl
id_is None (Some b) = refl
id_is None None = refl

-- Whom a link carries.

pub nobody_is : (c : Carried) → tests.is_nobody (carried_of c) ≡ is_nobody c
nobody_is Nobody = refl
nobody_is (Lent n) = refl
nobody_is (Joined n) = refl

pub lent_is : (c : Carried) → tests.is_lent (carried_of c) ≡ is_lent c
lent_is Nobody = refl
lent_is (Lent n) = refl
lent_is (Joined n) = refl

pub lent_to_is : (n : SessionName) (c : Carried) → tests.is_lent_to n (carried_of c) ≡ is_lent_to n c
lent_to_is n Nobody = refl
lent_to_is n (Lent m) = refl
lent_to_is n (Joined m) = refl

pub joined_is : (n : SessionName) (c : Carried) → tests.is_joined n (carried_of c) ≡ is_joined n c
joined_is n Nobody = refl
joined_is n (Lent m) = refl
joined_is n (Joined m) = refl

-- Forms.

class_is : (reads : Reads) (class : Class) (command : Command) → IsForm reads (Text class) command → class ≡ class_of reads command
class_is reads class (commands.Query text) is = is.is
class_is reads class (commands.Run text schema settings args) is = is.is
class_is reads class (commands.InitDb schema) is = is
class_is reads class _ is = absurd is

text_states : (reads : Reads) (class : Class) (command : Command) → IsForm reads (Text class) command → is_statement command ≡ true
text_states reads class (commands.Query text) is = refl
text_states reads class (commands.Run text schema settings args) is = refl
text_states reads class (commands.InitDb schema) is = refl
text_states reads class _ is = absurd is

pub blind_is : (reads : Reads) (form : Form) (command : Command) → IsForm reads form command → is_blind form ≡ true
    → tests.is_blind (class_of reads command) ≡ true
blind_is reads (Text class) command form is = subst (λ (c : Class). tests.is_blind c ≡ true) (class_is reads class command form) is
blind_is reads Fields (commands.FieldList rest) form is = refl
blind_is reads Fields _ form is = absurd form
blind_is reads (Prepare class) (commands.Prepare text) form is = refl
blind_is reads (Prepare class) _ form is = absurd form
blind_is reads (SetId id) command form is = absurd (false≢true is)
blind_is reads ReadId command form is = absurd (false≢true is)
blind_is reads Reset command form is = absurd (false≢true is)

pub blind_states : (reads : Reads) (form : Form) (command : Command) → IsForm reads form command → is_blind form ≡ true → is_statement command ≡ true
blind_states reads (Text class) command form is = text_states reads class command form
blind_states reads Fields (commands.FieldList rest) form is = refl
blind_states reads Fields _ form is = absurd form
blind_states reads (Prepare class) (commands.Prepare text) form is = refl
blind_states reads (Prepare class) _ form is = absurd form
blind_states reads (SetId id) command form is = absurd (false≢true is)
blind_states reads ReadId command form is = absurd (false≢true is)
blind_states reads Reset command form is = absurd (false≢true is)

pub own_is : (reads : Reads) (form : Form) (command : Command) (pin : Pin) → IsForm reads form command → reads_its_own form pin ≡ true
    → reads_own (class_of reads command) pin ≡ true
own_is reads (Text class) command pin form is = subst (λ (c : Class). reads_own c pin ≡ true) (class_is reads class command form) is
own_is reads Fields (commands.FieldList rest) pin form is = refl
own_is reads Fields _ pin form is = absurd form
own_is reads (Prepare class) (commands.Prepare text) pin form is = refl
own_is reads (Prepare class) _ pin form is = absurd form
own_is reads (SetId id) command pin form is = absurd (false≢true is)
own_is reads ReadId command pin form is = absurd (false≢true is)
own_is reads Reset command pin form is = absurd (false≢true is)

pub own_states : (reads : Reads) (form : Form) (command : Command) (pin : Pin) → IsForm reads form command → reads_its_own form pin ≡ true
    → is_statement command ≡ true
own_states reads (Text class) command pin form is = text_states reads class command form
own_states reads Fields (commands.FieldList rest) pin form is = refl
own_states reads Fields _ pin form is = absurd form
own_states reads (Prepare class) (commands.Prepare text) pin form is = refl
own_states reads (Prepare class) _ pin form is = absurd form
own_states reads (SetId id) command pin form is = absurd (false≢true is)
own_states reads ReadId command pin form is = absurd (false≢true is)
own_states reads Reset command pin form is = absurd (false≢true is)

pub marks_is : (reads : Reads) (form : Form) (command : Command) → IsForm reads form command → is_marked reads command ≡ marks form
marks_is reads (Text class) (commands.Query text) is = ap (λ (c : Class). c.marks_id) (sym is.is)
marks_is reads (Text class) (commands.Run text schema settings args) is = ap (λ (c : Class). c.marks_id) (sym is.is)
marks_is reads (Text class) (commands.InitDb schema) is = ap (λ (c : Class). c.marks_id) (sym is)
marks_is reads Fields (commands.FieldList rest) is = refl
marks_is reads (Prepare class) (commands.Prepare text) is = ap (λ (c : Class). c.marks_id) (sym is.is)
marks_is reads (SetId id) (commands.SetId n) is = refl
marks_is reads ReadId commands.ReadId is = refl
marks_is reads Reset commands.Reset is = refl
marks_is reads _ _ is = absurd is

-- What became due duly is keyed, where the link was told its place: a text by its own key, and an execute where its text is prepared there.

same_bytes : (xs : List ℕ) → bytes_eq xs xs ≡ true
same_bytes xs = (bytes_eq-Decides xs xs).1 refl

equal_bytes : (xs ys : List ℕ) → xs ≡ ys → bytes_eq xs ys ≡ true
equal_bytes xs ys same = ap (bytes_eq xs) (sym same) ∙ same_bytes xs

value_itself : (v : SlotValue) → tests.is_value v v ≡ true
value_itself Default = refl
value_itself (Value text) = same_bytes text

settings_themselves : (xs : List SlotValue) → tests.are_settings xs xs ≡ true
settings_themselves [] = refl
settings_themselves (x ∷ xs) = and_from (tests.is_value x x) (tests.are_settings xs xs) (value_itself x) (settings_themselves xs)

equal_settings : (xs ys : List SlotValue) → xs ≡ ys → tests.are_settings xs ys ≡ true
equal_settings xs ys same = ap (tests.are_settings xs) (sym same) ∙ settings_themselves xs

abbrev pub IsLiveFor : Command → (number : Option ℕ) → Type 0
IsLiveFor (commands.Run text schema settings args) number = is_some number ≡ true
IsLiveFor _ number = Unit {0}

is_told : (text : List ℕ) (told : Told) (place : Place) → tests.is_placed told place ≡ true
    → (bytes_eq text text && (tests.is_schema told.schema place.schema && tests.are_settings (core told.settings) (core place.settings))) ≡ true
is_told text told place placed =
    let parts = and_parts (tests.is_schema told.schema place.schema) (tests.are_settings told.settings place.settings) placed in
    and_from (bytes_eq text text) _ (same_bytes text)
    (and_from (tests.is_schema told.schema place.schema) _ parts.0
    (equal_settings (core told.settings) (core place.settings) (ap core (same_settings told.settings place.settings parts.1))))

pub keyed_is : (setup : Setup) (route : Route) (due : Due) (command : Command) (told : Told) (live : ℕ → Option ℕ) → IsKeyedFor setup route due command
    → tests.is_placed told due.place ≡ true → IsLiveFor command (live due.key) → tests.is_keyed setup command due.key told live ≡ true
keyed_is setup route due (commands.Prepare text) told live keyed placed lives =
    subst (λ (key : Key). (bytes_eq text key.text && (tests.is_schema told.schema key.place.schema
    && tests.are_settings (core told.settings) (core key.place.settings))) ≡ true) (sym keyed.1.0) (is_told text told due.place placed)
keyed_is setup route due (commands.Run text schema settings args) told live keyed placed lives =
    and_from (is_some (live due.key)) _ lives
    (and_from (bytes_eq text (setup.keys due.key).text) _ (equal_bytes text (setup.keys due.key).text keyed.1.0)
    (and_from (bytes_eq schema (setup.keys due.key).place.schema) _ (equal_bytes schema (setup.keys due.key).place.schema keyed.1.1.0)
    (equal_settings (core settings) (core (setup.keys due.key).place.settings) keyed.1.1.1)))
keyed_is setup route due (commands.Query text) told live keyed placed lives = refl
keyed_is setup route due (commands.InitDb schema) told live keyed placed lives = refl
keyed_is setup route due (commands.FieldList rest) told live keyed placed lives = refl
keyed_is setup route due (commands.SetId n) told live keyed placed lives = refl
keyed_is setup route due commands.ReadId told live keyed placed lives = refl
keyed_is setup route due commands.Reset told live keyed placed lives = refl
keyed_is setup route due commands.Quit told live keyed placed lives = refl

-- Steps.

pub set_is : (class : Class) (tx : Bool) (effect : Effect) → is_set_by class tx effect ≡ true → tests.is_set_by class tx effect ≡ true
set_is class tx (Tracked changes) is =
    let a = and_parts (not class.marks_id) _ is in
    let b = and_parts (not class.reads_diag) _ a.1 in
    let c = and_parts (not class.reads_found) _ b.1 in
    and_from (not class.marks_id) _ a.0
    (and_from (tests.is_blind class) _ (and_from (not class.reads_diag) (not class.reads_found) b.0 c.0) c.1)
set_is class tx (Uses schema) is = is
set_is class tx Neither is = is
