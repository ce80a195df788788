-- Short logs of refusals, losses and ends, one for each. What is to be closed is closed before anything else is written.
use Rattle.std.specs.Prelude.{ℕ, List, [], ◌∷◌, ◌++◌, codes, nat_eq, if◌then◌else◌, Option, Some, None}
use Rattle.client_session.specs.Errors.{bad_server_bytes, connection_lost, connection_refused}
use Rattle.hostgroups.specs.declared.row.ServerStatus.TheVariants.{OfflineSoft}
use Rattle.mx_base.specs.declared.names.ClientNo.{ClientNo}
use Rattle.mx_base.specs.declared.tag.Tag.TheVariants.{End as EndTag, For, Own as OwnTag, Reply as ReplyTag}
use Rattle.mx_wire.specs.Log.{Log}
use Rattle.mx_wire.specs.declared.entry.Entry.TheVariants.{Closed, Ended, Got, Opened, ReadNothing, Woke, WriteFailed, Wrote}
use Rattle.packet_frame.specs.Packets.{spelling, spellings}
use Rattle.private_model.specs.Commands.{Quit, Reset}
use Rattle.reply_text.specs.Replies.{err_payload}
use Rattle.server_rule.specs.Texts.{read_id_text}
use Rattle.session_state.specs.declared.names.MessageName.{MessageName}
use Rattle.log_story.specs.Plan.{Behind, Plan, Route, text_payload}
use Rattle.promise_tests.specs.Judging.{Given}
use Rattle.router_promises.specs.Errors.{buffers_full, no_connection, no_server_in, replay_refused}
use Rattle.router_promises.specs.Router.{Router}
use Rattle.router_promises.specs.Terms.{Terms}
use Rattle.router_cases.specs.Ended.{asks as begins_there, begin, begun_ok}
use Rattle.router_cases.specs.Pieces.{asks, begins, comes_on, does, done, goes, names_on, opens, plan_of, rests, stays, terms_of, told_on}
use Rattle.router_cases.specs.Worked.{client, group, here, insert, link, message, ok_with, proxy, query, router, server}
use Rattle.shared_cases.specs.Cases.{fixed}
use Rattle.shared_router.specs.Fixed.{Fixed}

-- the router that goes by it
abbrev pub by_router : Router → Fixed
by_router router = record fixed { router = router }

-- a client asks, and a link is opened for it and told its character set
abbrev pub starts_with : (asked : List ℕ) → Log
starts_with asked = begins ++ (Got (link 1) asked ∷ []) ++ opens 3 ++ told_on 3

-- its message runs there
abbrev pub runs : (sent answer : List ℕ) → Log
runs sent answer = Wrote (link 3) (For (client 1) 1) sent ∷ Got (link 3) answer ∷ Wrote (link 1) ReplyTag answer ∷ []

abbrev pub told : (payload : List ℕ) → Log
told payload = Wrote (link 1) ReplyTag (spelling 1 payload) ∷ []

abbrev pub given_to : (client ordinal from : ℕ) → (payload : List ℕ) → List Given
given_to n ordinal from payload = record { message = message n ordinal; answer = record { from = from; payloads = payload ∷ [] } } ∷ []

abbrev pub with_given : List Given → Terms
with_given given = terms_of router (plan_of router (λ m. goes does) given stays)

abbrev pub ends_at : (entry : ℕ) → ClientNo → Option ℕ
ends_at entry c = if nat_eq c.0 1 then Some entry else None

abbrev pub with_end : (text : List ℕ) → (entry : ℕ) → Terms
with_end text entry = terms_of router (plan_of router (λ m. goes text) [] (ends_at entry))

-- 9100: no server is ONLINE.

abbrev pub offline : Router
offline = record router { servers = record { hostgroup = group; address = here; weight = 1; max_connections = 1; status = OfflineSoft } ∷ [] }

abbrev pub nowhere : Terms
nowhere = terms_of offline (plan_of offline (λ m. None) (given_to 1 1 0 (no_server_in 0)) stays)

abbrev pub nowhere_log : Log
nowhere_log = begins ++ (Got (link 1) asks ∷ told (no_server_in 0))

-- 9102: the one link is in another client's transaction.

abbrev pub late_routes : MessageName → Option Route
late_routes m = if nat_eq m.client.0 1 then goes begin else goes does

abbrev pub late : Terms
late = terms_of router (plan_of router late_routes (given_to 2 1 27 (no_connection 0 100)) stays)

abbrev pub late_log : Log
late_log =
    starts_with begins_there ++ runs begins_there begun_ok ++ comes_on 2 2 ++ (Got (link 2) asks ∷ []) ++ rests
    ++ (ReadNothing (link 1) ∷ ReadNothing (link 2) ∷ ReadNothing (link 3) ∷ Woke 100 100
    ∷ Wrote (link 2) ReplyTag (spelling 1 (no_connection 0 100)) ∷ [])

-- 9104: the step is refused, and its link closed with a QUIT.

abbrev pub refusal : List ℕ
refusal = err_payload 1231 (codes "42000") (codes "no")

abbrev pub refused : Terms
refused = with_given (given_to 1 1 12 (replay_refused 1231))

abbrev pub refused_log : Log
refused_log =
    begins ++ (Got (link 1) asks ∷ []) ++ opens 3 ++ names_on 3
    ++ (Got (link 3) (spelling 1 refusal) ∷ Wrote (link 3) OwnTag (spelling 0 (text_payload Quit)) ∷ Closed (link 3) ∷ told (replay_refused 1231))

-- 9110: bytes that can't be a reply.

abbrev pub spoilt : Terms
spoilt = with_given (given_to 1 1 14 (bad_server_bytes 3))

abbrev pub spoilt_log : Log
spoilt_log =
    starts_with asks ++ (Wrote (link 3) (For (client 1) 1) asks ∷ Got (link 3) (7 ∷ 0 ∷ 0 ∷ 9 ∷ 0 ∷ []) ∷ Closed (link 3) ∷ told (bad_server_bytes 3))

-- 9112: a message that is announced is too long.

abbrev pub narrow : Router
narrow = record router { proxy = record proxy { buffer_budget = 10 } }

abbrev pub full_plan : Plan
full_plan = record (plan_of narrow (λ m. None) [] (ends_at 6)) {
  words = λ c. if nat_eq c.0 1 then Some (record { from = 6; place = Behind; payloads = buffers_full 4 20 ∷ [] }) else None;
}

abbrev pub full : Terms
full = terms_of narrow full_plan

abbrev pub full_log : Log
full_log = begins ++ (Got (link 1) (20 ∷ 0 ∷ 0 ∷ 0 ∷ []) ∷ told (buffers_full 4 20) ++ (Closed (link 1) ∷ []))

-- 9101: the link is lost in the reply, or as the question is written; in a step nobody is told.

abbrev pub in_reply : Terms
in_reply = with_given (given_to 1 1 15 connection_lost)

abbrev pub reply_log : Log
reply_log =
    starts_with asks ++ (Wrote (link 3) (For (client 1) 1) asks ∷ Got (link 3) (7 ∷ 0 ∷ 0 ∷ 1 ∷ 0 ∷ []) ∷ Ended (link 3) ∷ Closed (link 3)
    ∷ told connection_lost)

abbrev pub in_question : Terms
in_question = with_given (given_to 1 1 14 connection_lost)

abbrev pub question_log : Log
question_log =
    starts_with asks ++ (Wrote (link 3) (For (client 1) 1) (5 ∷ 0 ∷ 0 ∷ 0 ∷ []) ∷ WriteFailed (link 3) ∷ Closed (link 3) ∷ told connection_lost)

abbrev pub in_step : Terms
in_step = with_given []

abbrev pub step_log : Log
step_log =
    begins ++ (Got (link 1) asks ∷ []) ++ opens 3 ++ names_on 3 ++ (Ended (link 3) ∷ Closed (link 3) ∷ []) ++ opens 4 ++ told_on 4
    ++ (Wrote (link 4) (For (client 1) 1) asks ∷ Got (link 4) done ∷ Wrote (link 1) ReplyTag done ∷ [])

-- 9103: a link that nobody uses is lost, and the next in its login.

abbrev pub in_login : Terms
in_login = with_given (given_to 1 2 20 connection_refused)

abbrev pub login_log : Log
login_log =
    starts_with asks ++ runs asks done ++ (Ended (link 3) ∷ Closed (link 3) ∷ Got (link 1) asks ∷ Opened server here (link 4) ∷ Ended (link 4)
    ∷ Closed (link 4) ∷ told connection_refused)

-- The client ends with the link, as an insert id is asked for and in a transaction; and a client is lost in one, and its link in the reset.

abbrev pub in_capture : Terms
in_capture = with_end insert 17

abbrev pub capture_log : Log
capture_log =
    starts_with query ++ runs query (spellings 1 (ok_with 1))
    ++ (Wrote (link 3) (EndTag (client 1) group) (spelling 0 (3 ∷ read_id_text)) ∷ Ended (link 3) ∷ Closed (link 1) ∷ Closed (link 3) ∷ [])

abbrev pub in_transaction : Terms
in_transaction = with_end begin 16

abbrev pub transaction_log : Log
transaction_log = starts_with begins_there ++ runs begins_there begun_ok ++ (Ended (link 3) ∷ Closed (link 1) ∷ Closed (link 3) ∷ [])

abbrev pub reset_log : Log
reset_log =
    starts_with begins_there ++ runs begins_there begun_ok
    ++ (Ended (link 1) ∷ Closed (link 1) ∷ Wrote (link 3) (EndTag (client 1) group) (spelling 0 (text_payload Reset)) ∷ Ended (link 3)
    ∷ Closed (link 3) ∷ [])
