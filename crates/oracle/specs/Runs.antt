-- What a call does in a private world that has these data at a server, and this session and what is prepared in it under a name.
use Rattle.std.specs.Prelude.{◌≡◌, ℕ, true, List, Option, Some, None, if◌then◌else◌}
use Rattle.mx_base.specs.declared.names.ServerId.{ServerId}
use Rattle.session_state.specs.declared.names.SessionName.{SessionName}
use Rattle.session_state.specs.declared.place.Place.{Place}
use Rattle.server_rule.specs.Classes.{is_prepare}
use Rattle.server_rule.specs.Servers.{Step}
use Rattle.server_rule.specs.declared.command.Cmd.{Cmd}
use Rattle.server_rule.specs.declared.command.Cmd.TheVariants as cmd
use Rattle.private_model.specs.Commands.{Command, Reset, cmd_of, runs}
use Rattle.private_model.specs.Story.{Due, End, message_of}
use Rattle.private_model.specs.Worlds.{Private, closed, in_session, in_table, private_prep, private_statement}
use Rattle.oracle.specs.Entries.{prepared_at}
use Rattle.oracle.specs.declared.own.Own.{Own}

pub record IsAt (private : Private) (server : ServerId) (n : SessionName) (stored : List ℕ) (own : Own) : Type 0 where
  pub stored_is : private.stored server ≡ stored
  pub session_is : private.sessions n ≡ own.session
  pub prepared_is : (key : ℕ) → private.tables n key ≡ prepared_at own.prepared key

-- the schema and settings that a session takes before a statement, if it does
abbrev pub taken : Due → Option Place
taken due = if due.anew then Some due.place else None

-- A statement of a client ran, or the preparation of its text in a pinned session.
pub record RunsStatement (step : Step) (stored : List ℕ) (own : Own) (place : Option Place) (key : ℕ) (command : Cmd) (new_stored : List ℕ) (new : Own) (payloads : List (List ℕ)) : Type 0 where
  pub here : (private : Private) (server : ServerId) (n : SessionName) (due : Due) → IsAt private server n stored own
      → place ≡ taken due → key ≡ due.key → command ≡ cmd_of due.command
      → IsAt (private_statement (runs step) private server n due) server n new_stored new
  pub answer : (private : Private) (server : ServerId) (n : SessionName) (due : Due) → IsAt private server n stored own
      → place ≡ taken due → key ≡ due.key → command ≡ cmd_of due.command
      → (private_statement (runs step) private server n due).answers (message_of n due) ≡ Some (record { to_prepare = is_prepare command; payloads = payloads })
  pub prep : (private : Private) (server : ServerId) (n : SessionName) (text : List ℕ) → IsAt private server n stored own
      → place ≡ None → command ≡ cmd.Prepare text → IsAt (private_prep (runs step) private true server n key text) server n new_stored new

-- A step of the router ran in a session.
pub record RunsStep (step : Step) (stored : List ℕ) (own : Own) (command : Cmd) (new_stored : List ℕ) (new : Own) : Type 0 where
  pub here : (private : Private) (server : ServerId) (n : SessionName) (c : Command) → IsAt private server n stored own → command ≡ cmd_of c
      → IsAt (in_session (runs step) private server n (private.sessions n) c) server n new_stored new

-- A session that was left was reset.
pub record RunsEnd (step : Step) (stored : List ℕ) (own : Own) (new_stored : List ℕ) (new : Own) : Type 0 where
  pub here : (private : Private) (server : ServerId) (n : SessionName) → IsAt private server n stored own
      → IsAt (in_table (runs step) private server n (private.sessions n) Reset (End n)) server n new_stored new

-- A session was closed with its link.
pub record RunsClose (step : Step) (stored : List ℕ) (own : Own) (new_stored : List ℕ) (new : Own) : Type 0 where
  pub here : (private : Private) (server : ServerId) (n : SessionName) → IsAt private server n stored own
      → IsAt (closed (runs step) private server n) server n new_stored new
