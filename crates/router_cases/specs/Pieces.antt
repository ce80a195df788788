-- Pieces of worked logs, and what is decided in most of them.
use Rattle.std.specs.Prelude.{ℕ, true, List, [], ◌∷◌, ◌++◌, codes, nat_eq, if◌then◌else◌, Option, Some, None}
use Rattle.client_session.specs.Errors.{own_ok}
use Rattle.client_side.specs.Login.{greeting_said}
use Rattle.handshake.specs.Greeting.{greeting_bytes}
use Rattle.mx_base.specs.declared.names.ClientNo.{ClientNo}
use Rattle.mx_base.specs.declared.names.Port.TheVariants.{Admin, Traffic}
use Rattle.mx_base.specs.declared.tag.Tag.TheVariants.{For, Own as OwnTag, Reply as ReplyTag}
use Rattle.mx_wire.specs.Log.{Log}
use Rattle.mx_wire.specs.declared.entry.Entry.TheVariants.{Accepted, AcceptNothing, Ended, Got, NoneNamed, Opened, ReadNothing, Woke, Wrote}
use Rattle.packet_frame.specs.Packets.{spelling, spellings}
use Rattle.private_model.specs.Commands.{Query, Quit}
use Rattle.server_side.specs.Account.{Account as Login}
use Rattle.server_side.specs.Login.{response_said}
use Rattle.session_state.specs.declared.names.MessageName.{MessageName}
use Rattle.log_story.specs.Plan.{Asks, Plan, Route, StepText}
use Rattle.promise_tests.specs.Judging.{Given, own_by}
use Rattle.router_promises.specs.Router.{Router, service_of}
use Rattle.router_promises.specs.Terms.{Decided, Terms}
use Rattle.router_cases.specs.Worked.{client, decided as first_decided, greeting, here, link, login, names_text, never, nothing, ok_with, plan as first_plan, response, route as first_route, salt, server}

-- a client that comes on a link as this number, and logs in
abbrev pub comes_on : (l n : ℕ) → Log
comes_on l n =
    Accepted Traffic (link l) salt ∷ Wrote (link l) ReplyTag (greeting_said n salt (codes "8"))
    ∷ Got (link l) response
    ∷ Wrote (link l) ReplyTag (spelling 2 own_ok) ∷ []

-- the router is woken, and a client comes on link 1
abbrev pub begins : Log
begins = Woke never 0 ∷ comes_on 1 1

-- a link to the server is opened, and the router logs in there
abbrev pub opens_as : Login → (l : ℕ) → Log
opens_as login l =
    Opened server here (link l) ∷ Got (link l) (spelling 0 (greeting_bytes greeting))
    ∷ Wrote (link l) OwnTag (response_said login greeting)
    ∷ Got (link l) (spelling 2 own_ok) ∷ []

abbrev pub opens : (l : ℕ) → Log
opens l = opens_as login l

abbrev pub done : List ℕ
done = spellings 1 (ok_with 0)

-- the step to the client's character set
abbrev pub names_on : (l : ℕ) → Log
names_on l = Wrote (link l) OwnTag (spelling 0 (3 ∷ names_text)) ∷ []

-- and its answer
abbrev pub told_on : (l : ℕ) → Log
told_on l = names_on l ++ (Got (link l) done ∷ [])

-- The first client asks; a link is opened for it, and told its character set.
abbrev pub starts_with : (asked : List ℕ) → Log
starts_with asked = begins ++ (Got (link 1) asked ∷ []) ++ opens 3 ++ told_on 3

-- a message of the client of a link is sent on another, and answered
abbrev pub runs : (l of_link n ordinal : ℕ) → (sent answer : List ℕ) → Log
runs l of_link n ordinal sent answer =
    Wrote (link l) (For (client n) ordinal) sent ∷ Got (link l) answer
    ∷ Wrote (link of_link) ReplyTag answer ∷ []

-- nobody waits at a port, and no link is ready
abbrev pub rests : Log
rests = AcceptNothing Traffic ∷ AcceptNothing Admin ∷ NoneNamed ∷ []

-- a text that is nothing but a text
abbrev pub does : List ℕ
does = codes "DO 1"

abbrev pub asks : List ℕ
asks = spelling 0 (3 ∷ does)

-- What is decided: texts go to the one hostgroup; the router answers by a table; clients end, and steps begin, as they are said to.

abbrev pub goes : (text : List ℕ) → Option Route
goes text = Some (record first_route { text = Some text })

-- first the character set, then a QUIT
abbrev pub names_then_quit : (begun : ℕ) → StepText
names_then_quit begun = if nat_eq begun 0 then Asks (Query names_text) else Asks Quit

abbrev pub plan_of : Router → (MessageName → Option Route) → List Given → (ClientNo → Option ℕ) → Plan
plan_of router routes given ends = record first_plan {
  service = service_of router;
  routes = routes;
  own = own_by given;
  ends = ends;
  steps = λ l begun. names_then_quit begun;
}

abbrev pub terms_of : Router → Plan → Terms
terms_of router plan = record {
  router = router;
  decided = record first_decided { plan = plan };
  stored = nothing;
}

-- nobody ends
abbrev pub stays : ClientNo → Option ℕ
stays c = None
