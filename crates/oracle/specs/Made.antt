-- What a run makes of a session and of what is prepared in it.
use Rattle.std.specs.Prelude.{◌≡◌, ℕ, Bool, true, false, List, Option, Some, None, nat_eq}
use Rattle.session_state.specs.declared.place.Place.{Place}
use Rattle.server_rule.specs.Replies.{first_payload, is_err_payload}
use Rattle.server_rule.specs.Servers.{Outcome, Step}
use Rattle.server_rule.specs.declared.command.Cmd.{Cmd}
use Rattle.server_rule.specs.declared.command.Cmd.TheVariants as cmd
use Rattle.server_rule.specs.declared.session.Session.{Session}
use Rattle.private_model.specs.Story.{Key, put}
use Rattle.private_model.specs.Worlds.{placed}
use Rattle.oracle.specs.Entries.{prepared_at}
use Rattle.oracle.specs.declared.own.Own.{Own}

abbrev pub placed_by : Option Place → Session → Session
placed_by None session = session
placed_by (Some place) session = placed place session

abbrev pub decoded : Option Key → Cmd → Cmd
decoded (Some entry) (cmd.Run text schema settings types nulls values long) = cmd.Run entry.text entry.place.schema entry.place.settings types nulls values long
decoded _ command = command

-- what a command leaves prepared, in the session that it left
abbrev pub kept : (refused : Bool) → (key : ℕ) → (text : List ℕ) → Session → (ℕ → Option Key) → ℕ → Option Key
kept true key text s prepared = prepared
kept false key text s prepared = put nat_eq prepared key (Some (record { text = text; place = record { schema = s.schema; settings = s.settings } }))

abbrev pub prepared_by : Cmd → (refused : Bool) → (key : ℕ) → Session → (ℕ → Option Key) → ℕ → Option Key
prepared_by (cmd.Prepare text) refused key s prepared = kept refused key text s prepared
prepared_by _ refused key s prepared = prepared

abbrev pub outcome_at : Step → (stored : List ℕ) → Own → Option Place → (key : ℕ) → Cmd → Outcome
outcome_at step stored own place key command = step stored (placed_by place own.session) (decoded (prepared_at own.prepared key) command)

pub record AreRun (step : Step) (stored : List ℕ) (own : Own) (place : Option Place) (key : ℕ) (command : Cmd) (new_stored : List ℕ) (new : Own) (payloads : List (List ℕ)) : Type 0 where
  pub stored_is : new_stored ≡ (outcome_at step stored own place key command).stored
  pub session_is : new.session ≡ (outcome_at step stored own place key command).session
  pub prepared_is : (k : ℕ) → prepared_at new.prepared k ≡ prepared_by (decoded (prepared_at own.prepared key) command) (is_err_payload (first_payload payloads)) key new.session (prepared_at own.prepared) k
  pub reply_is : payloads ≡ (outcome_at step stored own place key command).reply
