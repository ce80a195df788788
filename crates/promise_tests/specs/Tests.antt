-- The test of the whole promise.
use Rattle.std.specs.Prelude.{Bool, List, [], not, ◌&&◌, ◌++◌, ◌∷◌}
use Rattle.std.specs.List.{list_all}
use Rattle.std.specs.Prelude.{◌≡◌, true}
use Rattle.mx_wire.specs.Log.{Log}
use Rattle.mx_wire.specs.declared.entry.Entry.{Entry}
use Rattle.private_model.specs.Names.{MessageName}
use Rattle.log_story.specs.Tale.{first_tale}
use Rattle.router_promises.specs.Now.{Now, at_first, next}
use Rattle.router_promises.specs.Terms.{IsRouters, Terms, plan_in, setup_in}
use Rattle.promise_tests.specs.Judging.{Given, are_ended, closes_right, is_given, is_routed, is_single, opens_right, own_by, steps_right}
use Rattle.promise_tests.specs.Telling.{fits, is_owed, is_tagged, passes_from, says, says_who}
use Rattle.promise_tests.specs.Waiting.{leaves_few, rests}
use Rattle.tale_world.specs.Tested.{has_broken}

-- Along a log: a test of each moment, and of each entry with the moment before it.

abbrev pub each_moment : Terms → (Log → Now → Bool) → (before : Log) → Now → Log → Bool
each_moment terms test before now [] = test before now
each_moment terms test before now (e ∷ log) =
    test before now && each_moment terms test (before ++ e ∷ []) (next terms now e) log

abbrev pub each_entry : Terms → (Log → Now → Entry → Bool) → (before : Log) → Now → Log → Bool
each_entry terms test before now [] = true
each_entry terms test before now (e ∷ log) =
    test before now e && each_entry terms test (before ++ e ∷ []) (next terms now e) log

abbrev pub holds_at : Terms → Log → Now → Bool
holds_at terms log now =
    (list_all (says_who terms) now.tale.clients
    && (says terms log now && list_all (is_owed terms log now) now.tale.clients))
    && not (has_broken now.tale.story)

abbrev pub gives_right : Terms → List Given → Log → Now → Entry → Bool
gives_right terms table log now e =
    list_all (is_given terms now (next terms now e) e) table
    && (is_single now table && leaves_few terms log (next terms now e) e)

abbrev pub is_right : Terms → List Given → Log → Now → Entry → Bool
is_right terms table log now e =
    ((fits log e && is_routed terms now e)
    && (is_tagged terms log now e && steps_right terms log now e))
    && ((opens_right terms log now e && closes_right terms log now e)
    && (gives_right terms table log now e && (are_ended terms log now e && rests terms log now e)))

-- What the router answers is told by a table; it is the one of its configuration; and each moment and each entry passes.
pub record IsRight (terms : Terms) (log : Log) : Type 0 where
  pub table : List Given
  pub own : (m : MessageName) → (plan_in terms).own m ≡ own_by table m
  pub router : IsRouters terms
  pub lawful : passes_from (setup_in terms) (plan_in terms) first_tale log ≡ true
  pub moments : each_moment terms (holds_at terms) [] (at_first terms) log ≡ true
  pub entries : each_entry terms (is_right terms table) [] (at_first terms) log ≡ true
