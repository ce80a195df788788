-- Logs of routers that refuse: short ones, one for each refusal.
use Rattle.std.specs.Prelude.{ℕ, List, ◌∷◌, ◌++◌, codes, nat_eq, if◌then◌else◌, Option, Some, None, []}
use Rattle.client_session.specs.Errors.{bad_server_bytes}
use Rattle.hostgroups.specs.declared.row.ServerStatus.TheVariants.{OfflineSoft}
use Rattle.mx_base.specs.declared.names.ClientNo.{ClientNo}
use Rattle.mx_base.specs.declared.tag.Tag.TheVariants.{For, Own as OwnTag, Reply as ReplyTag}
use Rattle.mx_wire.specs.Log.{Log}
use Rattle.mx_wire.specs.declared.entry.Entry.TheVariants.{Closed, Got, ReadNothing, Woke, Wrote}
use Rattle.packet_frame.specs.Packets.{spelling}
use Rattle.private_model.specs.Commands.{Quit}
use Rattle.reply_text.specs.Replies.{err_payload}
use Rattle.session_state.specs.declared.names.MessageName.{MessageName}
use Rattle.log_story.specs.Plan.{Behind, Plan, Route, text_payload}
use Rattle.promise_tests.specs.Judging.{Given}
use Rattle.router_promises.specs.Errors.{buffers_full, no_connection, no_server_in, replay_refused}
use Rattle.router_promises.specs.Router.{Router}
use Rattle.router_promises.specs.Terms.{Terms}
use Rattle.router_cases.specs.Ended.{asks as begins_there, begin, begun_ok}
use Rattle.router_cases.specs.Pieces.{asks, begins, comes_on, does, goes, names_on, opens, plan_of, rests, runs, starts_with, stays, terms_of}
use Rattle.router_cases.specs.Worked.{client, here, group, link, message, proxy, router}

abbrev pub answered : (from : ℕ) → (payload : List ℕ) → List Given
answered from payload =
    record { message = message 1 1; answer = record { from = from; payloads = payload ∷ [] } } ∷ []

-- The hostgroup has no server that is ONLINE.

abbrev pub offline : Router
offline = record router {
  servers = record { hostgroup = group; address = here; weight = 1; max_connections = 1; status = OfflineSoft } ∷ [];
}

abbrev pub nowhere : Terms
nowhere = terms_of offline (plan_of offline (λ m. None) (answered 0 (no_server_in 0)) stays)

abbrev pub nowhere_log : Log
nowhere_log = begins ++ (Got (link 1) asks ∷ Wrote (link 1) ReplyTag (spelling 1 (no_server_in 0)) ∷ [])

-- A statement waits too long for a link: its server has room for one, and another client's transaction is there.

abbrev pub late_routes : MessageName → Option Route
late_routes m = if nat_eq m.client.0 1 then goes begin else goes does

abbrev pub late_given : List Given
late_given =
    record { message = message 2 1; answer = record { from = 27; payloads = no_connection 0 100 ∷ [] } }
    ∷ []

abbrev pub late : Terms
late = terms_of router (plan_of router late_routes late_given stays)

abbrev pub late_log : Log
late_log =
    starts_with begins_there ++ runs 3 1 1 1 begins_there begun_ok ++ comes_on 2 2
    ++ (Got (link 2) asks ∷ []) ++ rests
    ++ (ReadNothing (link 1) ∷ ReadNothing (link 2) ∷ ReadNothing (link 3) ∷ Woke 100 100
    ∷ Wrote (link 2) ReplyTag (spelling 1 (no_connection 0 100)) ∷ [])

-- The step on the way to a statement is refused: the link closes.

abbrev pub refusal : List ℕ
refusal = err_payload 1231 (codes "42000") (codes "no")

abbrev pub refused : Terms
refused = terms_of router (plan_of router (λ m. goes does) (answered 12 (replay_refused 1231)) stays)

abbrev pub refused_log : Log
refused_log =
    begins ++ (Got (link 1) asks ∷ []) ++ opens 3 ++ names_on 3 ++ (Got (link 3) (spelling 1 refusal)
    ∷ Wrote (link 1) ReplyTag (spelling 1 (replay_refused 1231))
    ∷ Wrote (link 3) OwnTag (spelling 0 (text_payload Quit)) ∷ Closed (link 3) ∷ [])

-- Bytes come in place of a reply that can't be one: its first packet has a wrong id.

abbrev pub spoilt : Terms
spoilt = terms_of router (plan_of router (λ m. goes does) (answered 14 (bad_server_bytes 3)) stays)

abbrev pub spoilt_log : Log
spoilt_log =
    starts_with asks ++ (Wrote (link 3) (For (client 1) 1) asks ∷ Got (link 3) (7 ∷ 0 ∷ 0 ∷ 9 ∷ 0 ∷ [])
    ∷ Wrote (link 1) ReplyTag (spelling 1 (bad_server_bytes 3)) ∷ Closed (link 3) ∷ [])

-- A client announces more bytes than are kept: a last word, and its link closes.

abbrev pub narrow : Router
narrow = record router { proxy = record proxy { buffer_budget = 10 } }

abbrev pub ends_first : ClientNo → Option ℕ
ends_first c = if nat_eq c.0 1 then Some 6 else None

abbrev pub full_plan : Plan
full_plan = record (plan_of narrow (λ m. None) [] ends_first) {
  words = λ c.
      if nat_eq c.0 1 then Some (record {
        from = 6;
        place = Behind;
        payloads = buffers_full 4 20
            ∷ [];
      }) else None;
}

abbrev pub full : Terms
full = terms_of narrow full_plan

abbrev pub full_log : Log
full_log =
    begins ++ (Got (link 1) (20 ∷ 0 ∷ 0 ∷ 0 ∷ [])
    ∷ Wrote (link 1) ReplyTag (spelling 1 (buffers_full 4 20))
    ∷ Closed (link 1) ∷ [])
