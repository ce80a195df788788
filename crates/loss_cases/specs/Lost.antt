-- Logs on which a link to a server is lost, and the client goes on.
use Rattle.std.specs.Prelude.{ℕ, List, ◌∷◌, ◌++◌, []}
use Rattle.client_session.specs.Errors.{connection_lost, connection_refused}
use Rattle.mx_base.specs.declared.tag.Tag.TheVariants.{For, Reply as ReplyTag}
use Rattle.mx_wire.specs.Log.{Log}
use Rattle.mx_wire.specs.declared.entry.Entry.TheVariants.{Closed, Ended, Got, Opened, WriteFailed, Wrote}
use Rattle.packet_frame.specs.Packets.{spelling}
use Rattle.promise_tests.specs.Judging.{Given}
use Rattle.router_promises.specs.Terms.{Terms}
use Rattle.router_cases.specs.Pieces.{asks, begins, does, done, goes, names_on, opens, plan_of, runs, starts_with, stays, terms_of, told_on}
use Rattle.router_cases.specs.Worked.{client, here, link, message, router, server}

abbrev pub refused_at : (ordinal from : ℕ) → (payload : List ℕ) → List Given
refused_at ordinal from payload =
    record { message = message 1 ordinal; answer = record { from = from; payloads = payload ∷ [] } }
    ∷ []

abbrev pub terms_with : List Given → Terms
terms_with given = terms_of router (plan_of router (λ m. goes does) given stays)

-- It is lost in a step that is nobody's: nobody is told, and the statement goes on another one.

abbrev pub in_step : Terms
in_step = terms_with []

abbrev pub step_log : Log
step_log =
    begins ++ (Got (link 1) asks ∷ []) ++ opens 3 ++ names_on 3
    ++ (Ended (link 3) ∷ Closed (link 3) ∷ []) ++ opens 4 ++ told_on 4
    ++ runs 4 1 1 1 asks done

-- It is lost as the reply was read in part, of which nothing was passed on: 9101.

abbrev pub in_work : Terms
in_work = terms_with (refused_at 1 15 connection_lost)

abbrev pub work_log : Log
work_log =
    starts_with asks ++ (Wrote (link 3) (For (client 1) 1) asks ∷ Got (link 3) (7 ∷ 0 ∷ 0 ∷ 1 ∷ 0 ∷ [])
    ∷ Ended (link 3) ∷ Wrote (link 1) ReplyTag (spelling 1 connection_lost) ∷ Closed (link 3) ∷ [])

-- A write of the statement's rest fails: 9101.

abbrev pub in_question : Terms
in_question = terms_with (refused_at 1 14 connection_lost)

abbrev pub question_log : Log
question_log =
    starts_with asks ++ (Wrote (link 3) (For (client 1) 1) (5 ∷ 0 ∷ 0 ∷ 0 ∷ []) ∷ WriteFailed (link 3)
    ∷ Closed (link 3) ∷ Wrote (link 1) ReplyTag (spelling 1 connection_lost) ∷ [])

-- It is lost while nobody uses it: nobody is told. The next is lost in the router's login: 9103 for the one that waits longest.

abbrev pub in_login : Terms
in_login = terms_with (refused_at 2 20 connection_refused)

abbrev pub login_log : Log
login_log =
    starts_with asks ++ runs 3 1 1 1 asks done ++ (Ended (link 3) ∷ Closed (link 3) ∷ Got (link 1) asks
    ∷ Opened server here (link 4) ∷ Ended (link 4)
    ∷ Wrote (link 1) ReplyTag (spelling 1 connection_refused)
    ∷ Closed (link 4) ∷ [])
