-- A worked log of a prepared statement: a client prepares a text, sends long data for its one parameter, and executes it twice;
-- the second time it sends no types, and NULL.
use Rattle.std.specs.Prelude.{ℕ, false, true, nat_eq, List, [], ◌∷◌, ◌++◌, codes, Some, None, if◌then◌else◌}
use Rattle.mx_base.specs.declared.names.Port.TheVariants.{Traffic}
use Rattle.mx_base.specs.declared.tag.Tag.TheVariants.{For, Reply as ReplyTag}
use Rattle.mx_wire.specs.Log.{Log}
use Rattle.mx_wire.specs.declared.entry.Entry.TheVariants.{Accepted, Got, Wrote}
use Rattle.packet_frame.specs.Packets.{spelling, spellings}
use Rattle.client_side.specs.Login.{greeting_said}
use Rattle.client_session.specs.Errors.{own_ok}
use Rattle.session_vars.specs.Settings.{defaults}
use Rattle.session_vars.specs.declared.long_part.LongPart.{LongPart}
use Rattle.session_state.specs.declared.names.MessageName.{MessageName}
use Rattle.private_model.specs.Commands.{Command, Prepare, Run}
use Rattle.private_model.specs.Story.{BecameDue, Due, Freed, Happening, Heard, Ran, Sent, Statement, Story}
use Rattle.small_server.specs.Stories.{client, due_at, group, heard, link, login, nowhere, session}
use Rattle.small_server.specs.Tally.{NoId, ok, prepared}
use Rattle.log_story.specs.Plan.{Plan, com_execute, com_long_data, com_prepare, with_number}
use Rattle.log_story.specs.Tale.{Client}
use Rattle.log_cases.specs.Worked as worked
use Rattle.log_cases.specs.Worked.{response, router_enters, salt}

-- the text, which is its key, and its number at the server; the client knows it as 1
abbrev pub text : List ℕ
text = 7 ∷ []

abbrev pub execute_plan : Plan
execute_plan = record worked.plan {
  routes = λ (m : MessageName). if nat_eq m.ordinal 2 then None else Some (record worked.route { key = 7; number = 1 });
  own = λ (m : MessageName). if nat_eq m.ordinal 2 then Some (record { from = 0; payloads = [] }) else None;
}

-- What is said, with the client's number or the server's.

abbrev pub prepare : List ℕ
prepare = spelling 0 (com_prepare ∷ text)

abbrev pub long_data : (number : ℕ) → List ℕ
long_data number = spelling 0 (with_number com_long_data number ++ (0 ∷ 0 ∷ codes "abc"))

-- no flags, one iteration, no NULL, and a type, BLOB
abbrev pub with_types : (number null : ℕ) → List ℕ
with_types number null = spelling 0 (with_number com_execute number ++ (0 ∷ 1 ∷ 0 ∷ 0 ∷ 0 ∷ null ∷ 1 ∷ 252 ∷ 0 ∷ []))

-- the parameter is NULL, and no types follow
abbrev pub without_types : (number : ℕ) → List ℕ
without_types number = spelling 0 (with_number com_execute number ++ (0 ∷ 1 ∷ 0 ∷ 0 ∷ 0 ∷ 1 ∷ 0 ∷ []))

abbrev pub said : List ℕ
said = prepare ++ (long_data 1 ++ (with_types 1 0 ++ without_types 1))

abbrev pub done : List ℕ
done = spellings 1 (ok false NoId false)

abbrev pub execute_log : Log
execute_log =
    Accepted Traffic (link 1) salt ∷ Wrote (link 1) ReplyTag (greeting_said 1 salt worked.plan.service.version) ∷ Got (link 1) response
    ∷ Wrote (link 1) ReplyTag (spelling 2 own_ok) ∷ Got (link 1) said ∷ (router_enters ++
    Wrote (link 3) (For (client 1) 1) prepare ∷ Got (link 3) (spellings 1 (prepared 7))
    ∷ Wrote (link 3) (For (client 1) 3) (long_data 7 ++ with_types 7 0) ∷ Got (link 3) done
    ∷ Wrote (link 3) (For (client 1) 4) (with_types 7 1) ∷ Got (link 3) done ∷ [])

abbrev pub preparer : Client
preparer = record { number = client 1; port = Traffic; link = link 1; salt = salt; read = response ++ said; written = 0; taken = 4 }

-- What it tells.

abbrev pub runs_with : (null : ℕ) → List LongPart → Command
runs_with null long = Run text [] defaults (record { types = Some (252 ∷ 0 ∷ []); nulls = null ∷ []; values = []; long = long })

abbrev pub first_run : Command
first_run = runs_with 0 (record { parameter = 0; bytes = codes "abc" } ∷ [])

abbrev pub second_run : Command
second_run = runs_with 1 []

abbrev pub due_with : (ordinal : ℕ) → Command → Due
due_with ordinal command = record (due_at nowhere ordinal true command) { key = 7 }

abbrev pub comes : (ordinal : ℕ) → Command → Happening
comes ordinal command = BecameDue (client 1) group ordinal 7 command None

abbrev pub sends : (ordinal : ℕ) → Command → Happening
sends ordinal command = Sent (link 3) (Statement (session 1) (due_with ordinal command))

abbrev pub prepared_story : Story
prepared_story =
    Freed (link 3) ∷ Heard (link 3) (record { to_prepare = true; payloads = prepared 7 }) ∷ Ran (link 3) ∷ sends 1 (Prepare text)
    ∷ login 3 ∷ comes 1 (Prepare text) ∷ []

abbrev pub run_behind : (ordinal : ℕ) → Command → Story → Story
run_behind ordinal command past = Freed (link 3) ∷ heard 3 (ok false NoId false) ∷ Ran (link 3) ∷ sends ordinal command ∷ comes ordinal command ∷ past

abbrev pub first_story : Story
first_story = run_behind 3 first_run prepared_story

abbrev pub execute_story : Story
execute_story = run_behind 4 second_run first_story
