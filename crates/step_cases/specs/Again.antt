-- A log of prepared statements on one link: a text that is prepared, closed by its client, and prepared again, after a STMT_CLOSE of the
-- first; an execute with long data; more long data that the client takes back by a STMT_RESET; and an execute behind a STMT_RESET, without any.
use Rattle.std.specs.Prelude.{ℕ, List, ◌∷◌, ◌++◌, nat_eq, if◌then◌else◌, Option, Some, None, []}
use Rattle.mx_base.specs.declared.tag.Tag.TheVariants.{For, Own as OwnTag, Reply as ReplyTag}
use Rattle.mx_wire.specs.Log.{Log}
use Rattle.mx_wire.specs.declared.entry.Entry.TheVariants.{Got, Wrote}
use Rattle.packet_frame.specs.Packets.{spelling, spellings}
use Rattle.private_model.specs.Commands.{Query}
use Rattle.reply_text.specs.Replies.{ok_payload}
use Rattle.session_state.specs.declared.names.MessageName.{MessageName}
use Rattle.log_story.specs.Plan.{Asks, Closes, Plan, Resets, Route, StepText, step_payload}
use Rattle.promise_tests.specs.Judging.{Given}
use Rattle.router_promises.specs.Terms.{Decided, Terms}
use Rattle.router_cases.specs.Executed.{long_data, prepare, prepared, text, with_types, without_types}
use Rattle.router_cases.specs.Pieces.{done, plan_of, runs, starts_with, stays, terms_of}
use Rattle.router_cases.specs.Worked.{client, link, message, names_text, nothing, place, route as first_route, router}

-- the second message is a STMT_CLOSE, the fourth and sixth long data, the seventh a STMT_RESET
abbrev pub route_of : (ordinal : ℕ) → Option Route
route_of ordinal =
    if nat_eq ordinal 1 then Some (record first_route { text = Some text; number = 1 })
    else if nat_eq ordinal 3 then Some (record first_route { text = Some text; number = 2 })
    else if nat_eq ordinal 5 then Some (record first_route { text = None })
    else if nat_eq ordinal 8 then Some (record first_route { text = None })
    else None

abbrev pub at_once : (ordinal : ℕ) → (payloads : List (List ℕ)) → Given
at_once ordinal payloads =
    record { message = message 1 ordinal; answer = record { from = 0; payloads = payloads } }

abbrev pub given : List Given
given = at_once 2 [] ∷ at_once 4 [] ∷ at_once 6 [] ∷ at_once 7 (ok_payload 2 [] ∷ []) ∷ []

-- the server's first number is 7, its second 8
abbrev pub step_at : (begun : ℕ) → StepText
step_at begun =
    if nat_eq begun 2 then Closes 7 else if nat_eq begun 5 then Resets 8 else Asks (Query names_text)

abbrev pub plan : Plan
plan = record (plan_of router (λ (m : MessageName). route_of m.ordinal) given stays) {
  steps = λ l begun. step_at begun;
}

abbrev pub decided : Decided
decided = record (terms_of router plan).decided { keys = λ key. record { text = text; place = place } }

abbrev pub terms : Terms
terms = record { router = router; decided = decided; stored = nothing }

abbrev pub says : (step : StepText) → List ℕ
says step = spelling 0 (step_payload step)

abbrev pub log : Log
log =
    starts_with prepare
    ++ (Wrote (link 3) (For (client 1) 1) prepare ∷ Got (link 3) (spellings 1 (prepared 7))
    ∷ Wrote (link 1) ReplyTag (spellings 1 (prepared 1)) ∷ Got (link 1) (says (Closes 1) ++ prepare)
    ∷ Wrote (link 3) OwnTag (says (Closes 7)) ∷ Wrote (link 3) (For (client 1) 3) prepare
    ∷ Got (link 3) (spellings 1 (prepared 8)) ∷ Wrote (link 1) ReplyTag (spellings 1 (prepared 2))
    ∷ Got (link 1) (long_data 2 ++ with_types 2 0) ∷ [])
    ++ runs 3 1 1 5 (long_data 8 ++ with_types 8 0) done
    ++ (Got (link 1) (long_data 2 ++ (says (Resets 2) ++ without_types 2))
    ∷ Wrote (link 1) ReplyTag (spelling 1 (ok_payload 2 [])) ∷ Wrote (link 3) OwnTag (says (Resets 8))
    ∷ Got (link 3) done ∷ [])
    ++ runs 3 1 1 8 (with_types 8 1) done
