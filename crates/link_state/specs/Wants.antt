-- What goes to a link next.
use Rattle.std.specs.Prelude.{ℕ, Bool, false, not, ◌&&◌, ◌||◌, is_some, nat_eq, nat_lt, if◌then◌else◌, length, slice_get, List, Option, Some, None}
use Rattle.std.specs.List.{list_any}
use Rattle.session_state.specs.Pins.{is_pinned, needs_reset}
use Rattle.session_state.specs.declared.place.Place.{Place}
use Rattle.link_state.specs.declared.state.Carried.{Carried}
use Rattle.link_state.specs.declared.state.Carried.TheVariants.{Joined}
use Rattle.link_state.specs.declared.state.LinkState.{LinkState}
use Rattle.link_state.specs.declared.wish.Command.{Command}
use Rattle.link_state.specs.declared.wish.Command.TheVariants as commands
use Rattle.link_state.specs.declared.wish.Session.{Session}
use Rattle.link_state.specs.declared.wish.Task.{Task}
use Rattle.link_state.specs.declared.wish.Task.TheVariants.{States, Captures, Ends, Rests}
use Rattle.link_state.specs.declared.wish.Wanted.{Wanted}
use Rattle.link_state.specs.declared.wish.Wish.{Wish}
use Rattle.link_state.specs.declared.wish.Wish.TheVariants.{SetId, Prepare, Statement, Closes, Resets}
use Rattle.link_state.specs.Places.{calm_place, place_wish}
use Rattle.link_state.specs.Stood.{number_of}

-- a session that was left is ended, where a reset takes back what it did; of another that is unpinned the insert id is asked
abbrev pub task_in : Session → Task
task_in s =
    if not s.present then (if needs_reset s.pin && not s.lasting then Ends else Rests)
    else if is_pinned s.pin then States
    else if is_some s.id then Rests else Captures

abbrev pub task_of : Carried → Session → Task
task_of (Joined name) s = task_in s
task_of _ s = States

-- The step to the insert id.

-- both are known, and equal
abbrev pub is_id : (known wanted : Option ℕ) → Bool
is_id (Some a) (Some b) = nat_eq a b
is_id _ _ = false

abbrev pub id_wanted : Wanted → (marked : Bool) → (known : Option ℕ) → Option ℕ
id_wanted wanted marked known = if wanted.marks && not (marked || is_id known wanted.id) then wanted.id else None

-- Prepared statements.

abbrev pub is_unprepared_as : Command → Option ℕ → Bool
is_unprepared_as commands.Execute number = not (is_some number)
is_unprepared_as _ number = false

abbrev pub is_unprepared : List (ℕ × ℕ) → Wanted → Bool
is_unprepared live wanted = is_unprepared_as wanted.command (number_of live wanted.key)

abbrev pub closes : Option (ℕ × ℕ) → (otherwise : Wish) → Wish
closes (Some entry) otherwise = Closes entry.1
closes None otherwise = otherwise

abbrev pub oldest_closed : List (ℕ × ℕ) → (otherwise : Wish) → Wish
oldest_closed live otherwise = if nat_lt (length live) 1000 then otherwise else closes (slice_get live 0) otherwise

abbrev pub cleared_by : Option ℕ → List (ℕ × ℕ) → (otherwise : Wish) → Wish
cleared_by (Some number) live otherwise = Closes number
cleared_by None live otherwise = oldest_closed live otherwise

-- before a preparation: the statement of this text is closed, where one stands there, else the oldest of a thousand
abbrev pub cleared : List (ℕ × ℕ) → (key : ℕ) → (otherwise : Wish) → Wish
cleared live key otherwise = cleared_by (number_of live key) live otherwise

-- before an execute: its statement is reset, where long data were sent for it
abbrev pub unlong : (long : List ℕ) → Option ℕ → Wish
unlong long None = Statement
unlong long (Some number) = if list_any (nat_eq number) long then Resets number else Statement

abbrev pub own_wish_as : Command → List (ℕ × ℕ) → (long : List ℕ) → (key : ℕ) → Wish
own_wish_as commands.Plain live long key = Statement
own_wish_as commands.Prepare live long key = cleared live key Statement
own_wish_as commands.Execute live long key = unlong long (number_of live key)

abbrev pub own_wish : List (ℕ × ℕ) → (long : List ℕ) → Wanted → Wish
own_wish live long wanted = own_wish_as wanted.command live long wanted.key

-- All of it.

abbrev pub or_wish : Option Wish → Wish → Wish
or_wish (Some wish) other = wish
or_wish None other = other

abbrev pub or_id : Option ℕ → Wish → Wish
or_id (Some id) other = SetId id
or_id None other = other

abbrev pub prep_wish : LinkState → (key : ℕ) → (of_key : Place) → Wish
prep_wish state key of_key = or_wish (place_wish state.told (calm_place of_key state.told)) (cleared state.live key Prepare)

abbrev pub statement_wish : LinkState → Wanted → Place → (long : List ℕ) → Wish
statement_wish state wanted place long =
    or_wish (place_wish state.told place) (or_id (id_wanted wanted state.marked state.id) (own_wish state.live long wanted))

abbrev pub wish_by : LinkState → Wanted → (place of_key : Place) → (long : List ℕ) → Wish
wish_by state wanted place of_key long =
    if is_unprepared state.live wanted then prep_wish state wanted.key of_key
    else statement_wish state wanted place long
