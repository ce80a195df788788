-- More worked logs: what the router answers itself, and that a client's messages wait; what stands on a link beside questions; a
-- copy of a statement; a client that the router ends; what a server says as it drops a link; and what is sent where it may not be.
use Rattle.std.specs.Prelude.{ℕ, false, true, nat_eq, List, [], ◌∷◌, ◌++◌, codes, Some, None, if◌then◌else◌}
use Rattle.mx_base.specs.declared.names.Port.TheVariants.{Traffic}
use Rattle.mx_base.specs.declared.tag.Tag.TheVariants.{For, Mirror, End as EndTag, Own as OwnTag, Reply as ReplyTag}
use Rattle.mx_wire.specs.Log.{Log}
use Rattle.mx_wire.specs.declared.entry.Entry.TheVariants.{Accepted, Drop, Got, OpenFailed, Woke, Wrote}
use Rattle.packet_frame.specs.Packets.{spelling, spellings}
use Rattle.client_side.specs.Login.{greeting_said}
use Rattle.client_session.specs.Errors.{connection_refused, own_ok}
use Rattle.private_model.specs.Names.{ClientNo, Hostgroup, MessageName, SessionName}
use Rattle.private_model.specs.Commands.{Command, Query, Quit, Reset}
use Rattle.private_model.specs.Story.{BecameDue, Broke, Dropped, End, Freed, Left, Mirrored, Ran, Sent, Statement, Story, Unprepared}
use Rattle.small_server.specs.Stories.{came, client, due_at, group, heard, insert, link, login, message, nowhere, session}
use Rattle.small_server.specs.Tally.{FirstId, NoId, ok}
use Rattle.log_story.specs.Plan.{Closes, OwnAnswer, Plan, Resets, job_of, step_payload, text_payload}
use Rattle.log_story.specs.Tale.{Client}
use Rattle.log_cases.specs.Worked as worked
use Rattle.log_cases.specs.Worked.{first_comes, first_is_heard, first_is_read, first_ok, first_runs, query, response, router_enters, salt}

-- A client sends a PING and two inserts at once. The PING is answered as it is taken up; the first insert becomes due once that
-- answer is written and the router is woken, and is given up as no link can be opened; then the second becomes due.

abbrev pub own_of : (ordinal : ℕ) → OwnAnswer
own_of ordinal = if nat_eq ordinal 1 then record { from = 0; payloads = own_ok ∷ [] } else record { from = 8; payloads = connection_refused ∷ [] }

abbrev pub own_plan : Plan
own_plan = record worked.plan {
  room = 11;
  routes = λ (m : MessageName). if nat_eq m.ordinal 1 then None else Some worked.route;
  own = λ (m : MessageName). if nat_eq m.ordinal 3 then None else Some (own_of m.ordinal);
}

abbrev pub ping : List ℕ
ping = spelling 0 (0x0E ∷ [])

abbrev pub asks : Log
asks =
    Accepted Traffic (link 1) salt ∷ Wrote (link 1) ReplyTag (greeting_said 1 salt worked.plan.service.version) ∷ Got (link 1) response
    ∷ Wrote (link 1) ReplyTag
    (spelling 2 own_ok) ∷ Got (link 1) (ping ++ (query ++ query)) ∷ []

abbrev pub is_answered : Log
is_answered = asks ++ Wrote (link 1) ReplyTag (spelling 1 own_ok) ∷ []

abbrev pub is_woken : Log
is_woken = is_answered ++ Woke 0 0 ∷ []

abbrev pub is_given_up : Log
is_given_up = is_woken ++ OpenFailed (record { 0 = 1 }) (record { ip = 127 ∷ 0 ∷ 0 ∷ 1 ∷ []; port = 3306 })
    ∷ Wrote (link 1) ReplyTag (spelling 1 connection_refused) ∷ []

abbrev pub goes_on : Log
goes_on = is_given_up ++ Woke 0 0 ∷ []

abbrev pub given_up : Story
given_up = came 1 3 insert ∷ came 1 2 insert ∷ []

abbrev pub asker : Client
asker = record { number = client 1; port = Traffic; link = link 1; salt = salt; read = response ++ (ping ++ (query ++ query)); written = 0; taken = 3 }

-- On a link the long data of a prepared statement are dropped, and another is closed, before a client's statement is sent.

abbrev pub beside_plan : Plan
beside_plan = record worked.plan { steps = λ l begun. if nat_eq begun 0 then Resets 5 else Closes 7 }

abbrev pub beside : Log
beside =
    Wrote (link 3) OwnTag (spelling 0 (step_payload (Resets 5))) ∷ Got (link 3) (spellings 1 (ok false NoId false))
    ∷ Wrote (link 3) OwnTag (spelling 0 (step_payload (Closes 7))) ∷ []

abbrev pub beside_log : Log
beside_log = first_comes ++ (router_enters ++ (beside ++ (first_runs ++ (first_is_read ++ first_is_heard))))

abbrev pub beside_story : Story
beside_story =
    heard 3 (ok false FirstId false) ∷ Ran (link 3) ∷ Sent (link 3) (Statement (session 1) (due_at nowhere 1 true insert)) ∷ Unprepared (link 3) 7 ∷ login 3
    ∷ came 1 1 insert ∷ []

-- A statement is copied to another hostgroup: the copy is a job, which leaves as it is sent, so its link is given back.

abbrev pub other_group : Hostgroup
other_group = record { 0 = 1 }

abbrev pub copy_plan : Plan
copy_plan = record worked.plan { routes = λ m. Some (record worked.route { mirror = Some other_group }) }

abbrev pub job : ClientNo
job = job_of (message 1 1)

abbrev pub job_session : SessionName
job_session = record { client = job; hostgroup = other_group; life = 0 }

abbrev pub copy_log : Log
copy_log = first_comes ++ (router_enters ++ Wrote (link 3) (Mirror (client 1) 1) query ∷ Got (link 3) first_ok ∷ [])

abbrev pub copy_story : Story
copy_story =
    Freed (link 3) ∷ heard 3 (ok false FirstId false) ∷ Ran (link 3) ∷ Left job ∷ Sent (link 3) (Statement job_session (due_at nowhere 1 true insert)) ∷ login 3
    ∷ BecameDue job other_group 1 0 insert None ∷ Mirrored (client 1) job ∷ came 1 1 insert ∷ []

-- A client begins a transaction, and then sends a QUIT: the router ends it, and resets the session that it leaves.

abbrev pub ended_plan : Plan
ended_plan = record worked.plan {
  routes = λ (m : MessageName). if nat_eq m.ordinal 2 then None else Some worked.route;
  ends = λ c. Some 12;
}

abbrev pub begin : Command
begin = Query (codes "BEGIN")

abbrev pub begin_said : List ℕ
begin_said = spelling 0 (text_payload begin)

abbrev pub ended_log : Log
ended_log =
    Accepted Traffic (link 1) salt ∷ Wrote (link 1) ReplyTag (greeting_said 1 salt worked.plan.service.version) ∷ Got (link 1) response
    ∷ Wrote (link 1) ReplyTag (spelling 2 own_ok) ∷ Got (link 1) begin_said ∷ (router_enters ++ Wrote (link 3) (For (client 1) 1) begin_said
    ∷ Got (link 3) (spellings 1 (ok false NoId true)) ∷ Got (link 1) (spelling 0 (text_payload Quit))
    ∷ Wrote (link 3) (EndTag (client 1) group) (spelling 0 (text_payload Reset)) ∷ Got (link 3) (spellings 1 (ok false NoId false)) ∷ [])

abbrev pub ended_story : Story
ended_story =
    Freed (link 3) ∷ heard 3 (ok false NoId false) ∷ Ran (link 3) ∷ Sent (link 3) (End (session 1)) ∷ Left (client 1) ∷ heard 3 (ok false NoId true)
    ∷ Ran (link 3) ∷ Sent (link 3) (Statement (session 1) (due_at nowhere 1 true begin)) ∷ login 3 ∷ came 1 1 begin ∷ []

-- A server drops a link on which nothing stands, and says why: 4031. What is sent there then is a breach.

abbrev pub idle_too_long : List ℕ
idle_too_long = spelling 0 (0xFF ∷ 0xBF ∷ 0x0F ∷ codes "#HY000")

abbrev pub farewell_log : Log
farewell_log = first_comes ++ (router_enters ++ Drop (link 3) ∷ Got (link 3) idle_too_long ∷ [])

abbrev pub farewell_story : Story
farewell_story = Dropped (link 3) ∷ login 3 ∷ came 1 1 insert ∷ []

abbrev pub sent_behind : Log
sent_behind = farewell_log ++ Wrote (link 3) (For (client 1) 1) query ∷ []

-- A statement that was given up is sent all the same.

abbrev pub sent_late : Log
sent_late = is_given_up ++ (router_enters ++ Wrote (link 3) (For (client 1) 2) query ∷ [])

abbrev pub late_story : Story
late_story = Broke ∷ login 3 ∷ came 1 2 insert ∷ []
