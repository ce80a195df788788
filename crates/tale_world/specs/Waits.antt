-- A statement that waits, and the link that is readied for it.
use Rattle.std.specs.Prelude.{Bool, List, Option, Some, [], bytes_eq, false, is_some, not, true, ℕ, ◌&&◌, ◌≡◌}
use Rattle.session_vars.specs.declared.change.SlotValue.{SlotValue}
use Rattle.session_state.specs.Pins.{is_pinned}
use Rattle.session_state.specs.declared.place.Told.{Told}
use Rattle.server_rule.specs.Classes.{Reads, core}
use Rattle.private_model.specs.Names.{SessionName}
use Rattle.private_model.specs.Commands.{Command, Number, Prepare, Run, class_of}
use Rattle.private_model.specs.Lawful.{is_statement}
use Rattle.private_model.specs.Story.{Due, is_name, message_of}
use Rattle.private_model.specs.View.{Link, Setup, View, present}
use Rattle.log_story.specs.Servers.{is_quiet}
use Rattle.tale_world.specs.Policy.{Texts, key_place, numbered}
use Rattle.tale_world.specs.Tests.{are_settings, is_blind, has_due, is_account, is_schema, is_set, may_lend}

-- an execute or a preparation is of its key
abbrev pub is_of_key : Setup → Due → Command → Bool
is_of_key setup due (Run text schema settings args) =
    bytes_eq text (setup.keys due.key).text
    && (bytes_eq schema (setup.keys due.key).place.schema
    && are_settings (core settings) (core (setup.keys due.key).place.settings))
is_of_key setup due (Prepare text) =
    bytes_eq text (setup.keys due.key).text
    && (is_schema (Some due.place.schema) (setup.keys due.key).place.schema
    && are_settings (core due.place.settings) (core (setup.keys due.key).place.settings))
is_of_key setup due _ = true

-- it is due and unsent, in a session that is present and has no Pin, and no capture is due
pub record IsWaiting (setup : Setup) (fits : ℕ → Option Number) (view : View) (n : SessionName)
    (due : Due) : Type 0 where
  pub is_due : has_due view n due ≡ true
  pub unsent : not (is_some (view.carriers (message_of n due))) ≡ true
  pub present : is_name n (present view n.client n.hostgroup) ≡ true
  pub statement : is_statement due.command ≡ true
  pub of_key : is_of_key setup due due.command ≡ true
  pub unpinned : not (is_pinned (view.held n).pin) ≡ true
  pub anew : due.anew ≡ true
  pub blind : is_blind (class_of setup.reads due.command) ≡ true
  pub known : is_some (view.held n).id ≡ true
  pub in_bits : is_some (numbered (view.held n).id fits) ≡ true

-- the link carries nobody, or is lent for it, and is of its client's account
pub record IsFor (setup : Setup) (view : View) (n : SessionName) (link : Link) : Type 0 where
  pub usable : link.usable ≡ true
  pub quiet : is_quiet link.stage ≡ true
  pub lends : may_lend n link (view.held n) ≡ true
  pub account : is_account link.account (setup.accounts n.client) ≡ true
  pub unmarked : link.marked ≡ false

-- the text that leads from settings to others is read as a tracked SET and nothing else
pub record IsRead (reads : Reads) (texts : Texts) (from to : List SlotValue) : Type 0 where
  pub set : are_settings from to ≡ false → is_set (reads.class (texts.leads from to)) false ≡ true

-- a link that wasn't told it can be led to a schema, but not to none
pub record IsReached (told : Option (List ℕ)) (schema : List ℕ) : Type 0 where
  pub some : is_schema told schema ≡ false → not (bytes_eq schema []) ≡ true

-- so it is of those that lead to a statement's place, and to its key's but for autocommit
pub record AreRead (setup : Setup) (texts : Texts) (due : Due) (told : Told) : Type 0 where
  pub place : IsRead setup.reads texts told.settings due.place.settings
  pub schema : IsReached told.schema due.place.schema
  pub key_schema : IsReached told.schema (setup.keys due.key).place.schema
  pub key : IsRead setup.reads texts told.settings (key_place texts setup due told).settings
  pub calm : core (texts.calm (setup.keys due.key).place.settings told.settings)
      ≡ core (setup.keys due.key).place.settings
