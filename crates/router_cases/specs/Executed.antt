-- A third worked log: a client prepares a text, sends long data for its one parameter, and executes it twice; the second time it sends
-- no types, and NULL. Last it executes what it didn't prepare.
use Rattle.std.specs.Prelude.{ℕ, true, nat_eq, List, [], ◌∷◌, ◌++◌, codes, if◌then◌else◌, Option, Some, None}
use Rattle.client_session.specs.Errors.{own_ok}
use Rattle.client_side.specs.Login.{greeting_said}
use Rattle.handshake.specs.Greeting.{greeting_bytes}
use Rattle.mx_base.specs.declared.names.Port.TheVariants.{Traffic}
use Rattle.mx_base.specs.declared.tag.Tag.TheVariants.{For, Own as OwnTag, Reply as ReplyTag}
use Rattle.mx_wire.specs.Log.{Log}
use Rattle.mx_wire.specs.declared.entry.Entry.TheVariants.{Accepted, Got, Opened, Woke, Wrote}
use Rattle.packet_frame.specs.Packets.{spelling, spellings}
use Rattle.server_side.specs.Login.{response_said}
use Rattle.session_vars.specs.declared.long_part.LongPart.{LongPart}
use Rattle.session_state.specs.declared.names.MessageName.{MessageName}
use Rattle.private_model.specs.Commands.{Command, Prepare, Query, Run}
use Rattle.private_model.specs.Story.{BecameDue, Due, Freed, Happening, Heard, LoggedIn, Own, Ran, Sent, Statement, Story}
use Rattle.log_story.specs.Plan.{Asks, Plan, Route, com_execute, com_long_data, com_prepare, with_number}
use Rattle.router_promises.specs.Errors.{unknown_statement}
use Rattle.router_promises.specs.Terms.{Decided, Terms}
use Rattle.router_cases.specs.Worked.{anybody, client, decided as first_decided, greeting, group, heard, here, link, login, message, names_text, never, nothing, ok_with, place}
use Rattle.router_cases.specs.Worked.{plan as first_plan, response, route as first_route, router, salt, server, session}
use Rattle.promise_tests.specs.Judging.{Given, own_by}

abbrev pub text : List ℕ
text = codes "DO ?"

-- the client knows it as 1, the server as 7
abbrev pub route_of : (ordinal : ℕ) → Option Route
route_of ordinal =
    if nat_eq ordinal 1 then Some (record first_route { text = Some text; number = 1 })
    else if nat_eq ordinal 3 then Some (record first_route { text = None })
    else if nat_eq ordinal 4 then Some (record first_route { text = None })
    else None

abbrev pub given : List Given
given =
    record { message = message 1 2; answer = record { from = 0; payloads = [] } }
    ∷ record {
      message = message 1 5;
      answer = record {
        from = 0;
        payloads = unknown_statement 9 ∷ [];
      };
    } ∷ []

abbrev pub plan : Plan
plan = record first_plan {
  routes = λ (m : MessageName). route_of m.ordinal;
  own = own_by given;
  steps = λ l begun. Asks (Query names_text);
}

abbrev pub decided : Decided
decided = record first_decided { plan = plan; keys = λ key. record { text = text; place = place } }

abbrev pub terms : Terms
terms = record { router = router; decided = decided; stored = nothing }

-- What is said.

abbrev pub prepare : List ℕ
prepare = spelling 0 (com_prepare ∷ text)

abbrev pub long_data : (number : ℕ) → List ℕ
long_data number = spelling 0 (with_number com_long_data number ++ (0 ∷ 0 ∷ codes "abc"))

-- no flags, one iteration, no NULL, and a type, BLOB
abbrev pub with_types : (number null : ℕ) → List ℕ
with_types number null =
    spelling 0 (with_number com_execute number ++ (0 ∷ 1 ∷ 0 ∷ 0 ∷ 0 ∷ null ∷ 1 ∷ 252 ∷ 0 ∷ []))

-- the parameter is NULL, and no types follow
abbrev pub without_types : (number : ℕ) → List ℕ
without_types number = spelling 0 (with_number com_execute number ++ (0 ∷ 1 ∷ 0 ∷ 0 ∷ 0 ∷ 1 ∷ 0 ∷ []))

abbrev pub prepared : (number : ℕ) → List (List ℕ)
prepared number =
    (0 ∷ number ∷ 0 ∷ 0 ∷ 0 ∷ 0 ∷ 0 ∷ 1 ∷ 0 ∷ 0 ∷ 0 ∷ 0 ∷ []) ∷ (3 ∷ []) ∷ (254 ∷ 0 ∷ 0 ∷ 0 ∷ 0 ∷ [])
    ∷ []

abbrev pub done : List ℕ
done = spellings 1 (ok_with 0)

abbrev pub log : Log
log =
    Woke never 0 ∷ Accepted Traffic (link 1) salt
    ∷ Wrote (link 1) ReplyTag (greeting_said 1 salt (codes "8")) ∷ Got (link 1) response
    ∷ Wrote (link 1) ReplyTag (spelling 2 own_ok) ∷ Got (link 1) prepare ∷ Opened server here (link 3)
    ∷ Got (link 3) (spelling 0 (greeting_bytes greeting))
    ∷ Wrote (link 3) OwnTag (response_said login greeting) ∷ Got (link 3) (spelling 2 own_ok)
    ∷ Wrote (link 3) OwnTag (spelling 0 (3 ∷ names_text)) ∷ Got (link 3) done
    ∷ Wrote (link 3) (For (client 1) 1) prepare
    ∷ Got (link 3) (spellings 1 (prepared 7)) ∷ Wrote (link 1) ReplyTag (spellings 1 (prepared 1))
    ∷ Got (link 1) (long_data 1 ++ with_types 1 0)
    ∷ Wrote (link 3) (For (client 1) 3) (long_data 7 ++ with_types 7 0) ∷ Got (link 3) done
    ∷ Wrote (link 1) ReplyTag done ∷ Got (link 1) (without_types 1)
    ∷ Wrote (link 3) (For (client 1) 4) (with_types 7 1) ∷ Got (link 3) done
    ∷ Wrote (link 1) ReplyTag done ∷ Got (link 1) (with_types 9 0)
    ∷ Wrote (link 1) ReplyTag (spelling 1 (unknown_statement 9)) ∷ []

-- What it tells.

abbrev pub runs_with : (null : ℕ) → List LongPart → Command
runs_with null long =
    Run text place.schema place.settings
    (record { types = Some (252 ∷ 0 ∷ []); nulls = null ∷ []; values = []; long = long })

abbrev pub first_run : Command
first_run = runs_with 0 (record { parameter = 0; bytes = codes "abc" } ∷ [])

abbrev pub second_run : Command
second_run = runs_with 1 []

abbrev pub due_with : (ordinal : ℕ) → Command → Due
due_with ordinal command = record {
  ordinal = ordinal;
  place = place;
  anew = true;
  command = command;
  key = 0;
  multiplex = None;
}

abbrev pub comes : (ordinal : ℕ) → Command → Happening
comes ordinal command = BecameDue (client 1) group ordinal 0 command None

abbrev pub sends : (ordinal : ℕ) → Command → Happening
sends ordinal command = Sent (link 3) (Statement (session 1) (due_with ordinal command))

abbrev pub story : Story
story =
    Freed (link 3) ∷ heard (ok_with 0) ∷ Ran (link 3) ∷ sends 4 second_run ∷ comes 4 second_run
    ∷ Freed (link 3) ∷ heard (ok_with 0) ∷ Ran (link 3) ∷ sends 3 first_run ∷ comes 3 first_run
    ∷ Freed (link 3) ∷ Heard (link 3) (record { to_prepare = true; payloads = prepared 7 })
    ∷ Ran (link 3) ∷ sends 1 (Prepare text)
    ∷ heard (ok_with 0) ∷ Ran (link 3) ∷ Sent (link 3) (Own (Query names_text))
    ∷ LoggedIn (link 3) server anybody ∷ comes 1 (Prepare text) ∷ []
