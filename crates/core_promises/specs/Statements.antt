-- What a client has prepared, as a message of its is taken up: under which numbers, and what stands under each.
use Rattle.std.specs.Prelude.{ℕ, suc, Bool, not, ◌||◌, drop, if◌then◌else◌, is_some, map, nat_eq, slice_index_or, take, List, [], Option, Some, None}
use Rattle.std.specs.Option.{option_and_then, option_map}
use Rattle.mx_base.specs.Fields.{number_at}
use Rattle.pin_classifier.specs.Classes.{class_of}
use Rattle.private_model.specs.View.{Setup, View}
use Rattle.log_story.specs.Executes as executes
use Rattle.log_story.specs.Executes.{Bound, bound_by, prepared_by}
use Rattle.log_story.specs.Owed.{messages, name_of}
use Rattle.log_story.specs.Plan.{Plan, Route, com_execute, com_statement_reset}
use Rattle.log_story.specs.Tale.{Client, Tale, view_of}
use Rattle.router_promises.specs.Statements.{are_types, known_statement}
use Rattle.message_judge.specs.declared.caller.Prepared.{Prepared}

-- the number that an EXECUTE or a STMT_RESET names
abbrev pub number_named : (payload : List ℕ) → Option ℕ
number_named payload =
    if nat_eq (slice_index_or payload 0 0) com_execute || nat_eq (slice_index_or payload 0 0) com_statement_reset then number_at 4 1 payload else None

-- what was bound to it since
abbrev pub bound_since : Plan → Client → (number : ℕ) → executes.Prepared → Bound
bound_since plan client number known =
    bound_by known.params number (λ i. not (is_some (plan.routes (name_of client i)))) (suc known.ordinal)
    (drop known.ordinal (take client.taken (messages plan client))) (record { types = None; long = [] })

-- as its preparation went by this route
abbrev pub prepared_as : Setup → Plan → Client → (number : ℕ) → executes.Prepared → Route → Prepared
prepared_as setup plan client number known route = record {
  text = (setup.keys known.key).text;
  place = (setup.keys known.key).place;
  params = known.params;
  bound = are_types known.params (bound_since plan client number known).types;
  hostgroup = route.hostgroup;
  multiplex = route.multiplex;
  class = class_of (setup.keys known.key).text;
}

abbrev pub prepared_on : Setup → Plan → Client → (number : ℕ) → executes.Prepared → Option Prepared
prepared_on setup plan client number known = option_map (prepared_as setup plan client number known) (plan.routes (name_of client known.ordinal))

-- as its next message is taken up
abbrev pub statement_of : Setup → Plan → Client → Tale → (number : ℕ) → Option Prepared
statement_of setup plan client tale number =
    option_and_then (prepared_on setup plan client number) (known_statement (view_of setup tale) plan client number (suc client.taken))

-- whether one was prepared under this number
abbrev pub is_given : View → Plan → Client → (number : ℕ) → Bool
is_given view plan client number = is_some (prepared_by view plan client number 1 (take client.taken (messages plan client)))
