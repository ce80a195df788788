-- Logs of which each entry that begins a question passes the test, and whose links are new.
use Rattle.std.specs.Prelude.{Bool, [], false, true, ◌∷◌, ◌≡◌}
use Rattle.mx_wire.specs.Log.{Log}
use Rattle.mx_wire.specs.declared.entry.Entry.{Entry}
use Rattle.mx_wire.specs.declared.entry.Entry.TheVariants.{Opened, Wrote}
use Rattle.private_model.specs.View.{Setup}
use Rattle.log_story.specs.Plan.{Plan}
use Rattle.log_story.specs.Servers.{begun_on, may_begin}
use Rattle.log_story.specs.Tale.{Tale, first_tale, is_to_server, view_of}
use Rattle.log_story.specs.Telling.{tale_step}
use Rattle.tale_world.specs.Decided.{plan_of}
use Rattle.tale_world.specs.Deciding.{Deciding, World}
use Rattle.tale_world.specs.Tests.{may_tell}
use Rattle.tale_world.specs.World.{decided_told, world_step}
use Rattle.private_model.specs.Story.{Broke, Happening, Story}
use Rattle.std.specs.List.{list_any}

abbrev pub Passes : Setup → Plan → Tale → Entry → Type 0
Passes setup plan tale (Opened server address link) = is_to_server tale link ≡ false
Passes setup plan tale (Wrote link for bytes) =
    is_to_server tale link ≡ true → may_begin setup link (tale.wires link) tale ≡ true
    → may_tell setup (begun_on setup plan tale.moment (view_of setup tale) link
    (tale.wires link) for) tale.story ≡ true
Passes setup plan tale _ = Unit {0}

abbrev pub IsTestedFrom : Setup → Plan → Tale → Log → Type 0
IsTestedFrom setup plan tale [] = Unit {0}
IsTestedFrom setup plan tale (e ∷ log) =
    Passes setup plan tale e × IsTestedFrom setup plan (tale_step setup plan tale e) log

-- the same of a world, whose plan is what was decided

abbrev pub PassesBy : {X : Type 0} → Setup → Deciding X → World X → Entry → Type 0
PassesBy setup by w e = Passes setup (plan_of (decided_told setup by w e)) w.tale e

abbrev pub IsTestedBy : {X : Type 0} → Setup → Deciding X → World X → Log → Type 0
IsTestedBy setup by w [] = Unit {0}
IsTestedBy setup by w (e ∷ log) =
    PassesBy setup by w e × IsTestedBy setup by (world_step setup by w e) log

-- each message that goes to a server asks it for something, so that no rule of sending is broken

abbrev pub is_broken : Happening → Bool
is_broken Broke = true
is_broken _ = false

abbrev pub has_broken : Story → Bool
has_broken story = list_any is_broken story

abbrev pub IsTested : Setup → Plan → Log → Type 0
IsTested setup plan log = IsTestedFrom setup plan first_tale log
