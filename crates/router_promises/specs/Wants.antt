-- The steps on a link that a statement wants: the parts of what the link was told that aren't as its client, or the preparation of
-- its text, wants them.
use Rattle.std.specs.Prelude.{ℕ, Bool, false, not, ◌&&◌, ◌||◌, bytes_eq, is_some, nat_eq, List, [], ◌∷◌, if◌then◌else◌, Option}
use Rattle.std.specs.List.{list_any}
use Rattle.std.specs.Option.{option_map_or}
use Rattle.session_state.specs.declared.place.Place.{Place}
use Rattle.session_state.specs.declared.place.Told.{Told}
use Rattle.session_vars.specs.Settings.{changed, difference_of, value_at}
use Rattle.session_vars.specs.Texts.{names_text, session_text}
use Rattle.session_vars.specs.declared.change.SlotValue.{SlotValue}
use Rattle.session_vars.specs.declared.slot.Slot.TheVariants.{Autocommit}
use Rattle.private_model.specs.Commands.{Command, InitDb, Query, Run, SetId, is_marked}
use Rattle.private_model.specs.Story.{Due}
use Rattle.private_model.specs.View.{Held, Link, Setup}

-- the place of a preparation, with autocommit as it is there
abbrev pub with_autocommit : List SlotValue → Place → Place
with_autocommit settings place =
    record place { settings = changed place.settings (record { slot = Autocommit; value = value_at settings Autocommit; adds = false }) }

-- the places to which a statement's link has to be brought: the one that its client wants, and first, where its text isn't
-- prepared there, that of its preparation

abbrev pub prepares_first : Link → Command → (key : ℕ) → Bool
prepares_first link (Run text schema settings args) key = not (is_some (link.live key))
prepares_first link _ key = false

abbrev pub places_of : Setup → Link → Due → List Place
places_of setup link due =
    due.place ∷ (if prepares_first link due.command due.key then with_autocommit link.told.settings (setup.keys due.key).place ∷ [] else [])

abbrev pub is_number : ℕ → Option ℕ → Bool
is_number n other = option_map_or (λ k. nat_eq n k) other false

abbrev pub is_text : List ℕ → Option (List ℕ) → Bool
is_text text other = option_map_or (λ t. bytes_eq text t) other false

-- a step to a place: its schema, where it has one and the link wasn't told that; SET NAMES or SET SESSION, with just what differs
abbrev pub leads_to : Command → Told → Place → Bool
leads_to (InitDb schema) told place =
    bytes_eq schema place.schema && (not (bytes_eq schema []) && not (is_text schema told.schema))
leads_to (Query text) told place =
    is_text text (names_text (difference_of told.settings place.settings))
    || is_text text (session_text (difference_of told.settings place.settings))
leads_to _ told place = false

-- the session's insert id, which the link doesn't have
abbrev pub sets_id : Setup → Command → Due → (of_link of_session : Option ℕ) → Bool
sets_id setup (SetId n) due of_link of_session =
    is_marked setup.reads due.command && (is_number n.value of_session && not (is_number n.value of_link))
sets_id setup _ due of_link of_session = false

abbrev pub wants : Setup → Link → Held → Due → Command → Bool
wants setup link held due command =
    list_any (leads_to command link.told) (places_of setup link due) || sets_id setup command due link.id held.id
