-- A second worked log: a client begins a transaction and quits. The router ends it, closes its link, and resets the session that it
-- left; the link is given back, and closed a second later, as nobody needs it.
use Rattle.std.specs.Prelude.{ℕ, true, nat_eq, List, [], ◌∷◌, codes, take, if◌then◌else◌, Some, None}
use Rattle.handshake.specs.Greeting.{greeting_bytes}
use Rattle.client_session.specs.Errors.{own_ok}
use Rattle.client_side.specs.Login.{greeting_said}
use Rattle.mx_base.specs.declared.names.ClientNo.{ClientNo}
use Rattle.mx_base.specs.declared.names.Port.TheVariants.{Admin, Traffic}
use Rattle.mx_base.specs.declared.tag.Tag.TheVariants.{For, End as EndTag, Own as OwnTag, Reply as ReplyTag}
use Rattle.mx_wire.specs.Log.{Log}
use Rattle.mx_wire.specs.declared.entry.Entry.TheVariants.{Accepted, AcceptNothing, Closed, Got, NoneNamed, Opened, ReadNothing, Woke, Wrote}
use Rattle.packet_frame.specs.Packets.{spelling, spellings}
use Rattle.server_side.specs.Login.{response_said}
use Rattle.session_state.specs.declared.names.MessageName.{MessageName}
use Rattle.private_model.specs.Commands.{Query, Quit, Reset}
use Rattle.private_model.specs.Story.{BecameDue, Due, End, Freed, Gone, Left, LoggedIn, Own, Ran, Sent, Statement, Story}
use Rattle.log_story.specs.Plan.{Asks, Plan, StepText, text_payload}
use Rattle.router_promises.specs.Terms.{Decided, Terms}
use Rattle.router_cases.specs.Worked.{anybody, client, decided as first_decided, greeting, group, heard, here, link, login, names_text, never, nothing, ok_with, place}
use Rattle.router_cases.specs.Worked.{plan as first_plan, response, route as first_route, router, salt, server, session}
use Rattle.promise_tests.specs.Judging.{own_by}

abbrev pub begin : List ℕ
begin = codes "BEGIN"

abbrev pub step_at : (begun : ℕ) → StepText
step_at begun = if nat_eq begun 0 then Asks (Query names_text) else Asks Quit

-- the client ends at the sixteenth entry, by its second message
abbrev pub plan : Plan
plan = record first_plan {
  routes = λ (m : MessageName). if nat_eq m.ordinal 1
      then Some (record first_route { text = Some begin }) else None;
  own = own_by [];
  ends = λ (c : ClientNo). if nat_eq c.0 1 then Some 16 else None;
  steps = λ l begun. step_at begun;
}

abbrev pub decided : Decided
decided = record first_decided { plan = plan }

abbrev pub terms : Terms
terms = record { router = router; decided = decided; stored = nothing }

abbrev pub asks : List ℕ
asks = spelling 0 (3 ∷ begin)

-- an OK in a transaction
abbrev pub begun_ok : List ℕ
begun_ok = spellings 1 ((0 ∷ 0 ∷ 0 ∷ 3 ∷ 0 ∷ 0 ∷ 0 ∷ []) ∷ [])

abbrev pub log : Log
log =
    Woke never 0 ∷ Accepted Traffic (link 1) salt
    ∷ Wrote (link 1) ReplyTag (greeting_said 1 salt (codes "8")) ∷ Got (link 1) response
    ∷ Wrote (link 1) ReplyTag (spelling 2 own_ok) ∷ Got (link 1) asks ∷ Opened server here (link 3)
    ∷ Got (link 3) (spelling 0 (greeting_bytes greeting))
    ∷ Wrote (link 3) OwnTag (response_said login greeting) ∷ Got (link 3) (spelling 2 own_ok)
    ∷ Wrote (link 3) OwnTag (spelling 0 (3 ∷ names_text)) ∷ Got (link 3) (spellings 1 (ok_with 0))
    ∷ Wrote (link 3) (For (client 1) 1) asks
    ∷ Got (link 3) begun_ok ∷ Wrote (link 1) ReplyTag begun_ok
    ∷ Got (link 1) (spelling 0 (text_payload Quit)) ∷ Closed (link 1)
    ∷ Wrote (link 3) (EndTag (client 1) group) (spelling 0 (text_payload Reset))
    ∷ Got (link 3) (spellings 1 (ok_with 0))
    ∷ AcceptNothing Traffic ∷ AcceptNothing Admin ∷ NoneNamed ∷ ReadNothing (link 3) ∷ Woke 1000 1000
    ∷ Wrote (link 3) OwnTag (spelling 0 (text_payload Quit)) ∷ Closed (link 3) ∷ []

abbrev pub until : (n : ℕ) → Log
until n = take n log

abbrev pub due : Due
due = record {
  ordinal = 1;
  place = place;
  anew = true;
  command = Query begin;
  key = 0;
  multiplex = None;
}

abbrev pub story : Story
story =
    Gone (link 3) ∷ Freed (link 3) ∷ heard (ok_with 0) ∷ Ran (link 3) ∷ Sent (link 3) (End (session 1))
    ∷ Left (client 1) ∷ Left (client 1)
    ∷ heard ((0 ∷ 0 ∷ 0 ∷ 3 ∷ 0 ∷ 0 ∷ 0 ∷ []) ∷ []) ∷ Ran (link 3)
    ∷ Sent (link 3) (Statement (session 1) due)
    ∷ heard (ok_with 0) ∷ Ran (link 3) ∷ Sent (link 3) (Own (Query names_text))
    ∷ LoggedIn (link 3) server anybody
    ∷ BecameDue (client 1) group 1 0 (Query begin) None ∷ []
