-- A client's text goes to a server to be prepared, or what it prepared is executed: a statement of it becomes due, by the number of a text.
use Rattle.std.specs.Prelude.{◌≡◌, ◌<◌, ◌≤◌, ℕ, Bool, true, false, length, List, [], ◌∷◌, Option, Some, None}
use Rattle.std.specs.Option.{option_and_then, option_map}
use Rattle.mx_base.specs.declared.names.ClientNo.{ClientNo}
use Rattle.mx_base.specs.declared.names.Hostgroup.{Hostgroup}
use Rattle.pin_classifier.specs.declared.class.Class.{Class}
use Rattle.private_model.specs.Story.{Key}
use Rattle.run_laws.specs.Wholes.{AreShort}
use Rattle.stmt_map.specs.Client.{statement_at}
use Rattle.stmt_map.specs.declared.client.ClientStatements.{ClientStatements}
use Rattle.stmt_map.specs.declared.statement.Statement.{Statement}
use Rattle.link_state.specs.declared.asking.Form.TheVariants as forms
use Rattle.message_judge.specs.declared.caller.Prepared.{Prepared}
use Rattle.core_texts.specs.Texts.{key_at}
use Rattle.core_texts.specs.declared.texts.Texts.{Texts}
use Rattle.core_tables.specs.Tables.{Tabled}
use Rattle.core_tables.specs.Taking.{IsDue, IsRunDue, prepare_work, run_work}
use Rattle.core_tables.specs.declared.client.Client.{Client}
use Rattle.core_promises.specs.Ruled.{known_as}
use Rattle.core_promises.specs.Statements.{number_named}
use Rattle.core_turns.specs.declared.judged.Named.{Named}

-- the statement that an execute or a STMT_RESET names, where its text is kept

abbrev pub statement_named : ClientStatements → (payload : List ℕ) → Option Statement
statement_named statements payload = option_and_then (statement_at statements) (number_named payload)

abbrev pub named_as : Texts → Statement → Option Named
named_as texts statement =
    option_map (λ (key : Key). record { key = statement.prepared.key; prepared = known_as key statement }) (key_at texts statement.prepared.key)

abbrev pub named_in : Texts → ClientStatements → (payload : List ℕ) → Option Named
named_in texts statements payload = option_and_then (named_as texts) (statement_named statements payload)

abbrev pub prepared_of : Option Named → Option Prepared
prepared_of named = option_map (λ (one : Named). one.prepared) named

-- What memory bounds: how many parameters there are, and how long their long data.

pub record IsHeld (statement : Statement) : Type 0 where
  pub few : statement.prepared.params < 65536
  pub short : AreShort statement.long.parts

abbrev pub IsHeldIf : Option Statement → Type 0
IsHeldIf None = Unit {0}
IsHeldIf (Some statement) = IsHeld statement

-- of a message, of what it names, and of its client's numbers
pub record IsInMemory (statements : ClientStatements) (payload : List ℕ) : Type 0 where
  pub last : statements.last < 4294967296
  pub held : IsHeldIf (statement_named statements payload)
  pub size : length payload ≤ 18446744073709551616

-- the text, at the place where its client stands, has this number
pub record IsDueToPrepare (ordinal flag since : ℕ) (hostgroup : Hostgroup) (text : List ℕ) (multiplex : Option Bool) (class : Class) (c : ClientNo)
    (texts : Texts) (old new : Tabled) : Type 0 where
  pub row : Client
  pub there : old.clients c ≡ Some row
  pub key : ℕ
  pub keyed : key_at texts key ≡ Some (record { text = text; place = row.desk.seat.place })
  pub due : IsDue flag (Some text) (prepare_work ordinal hostgroup since multiplex key (forms.Prepare class)) c old new

-- An execute goes by the number of its preparation; where that was made in no schema and its client stands in one, or the other way round, by
-- that of the same text where its client stands.

abbrev pub stays_in : (prepared stands : List ℕ) → Bool
stays_in [] [] = true
stays_in [] (byte ∷ stands) = false
stays_in (byte ∷ prepared) [] = false
stays_in (byte ∷ prepared) (other ∷ stands) = true

abbrev pub moved_key : Prepared → (stands : List ℕ) → Key
moved_key prepared stands = record { text = prepared.text; place = record { schema = stands; settings = prepared.place.settings } }

abbrev pub IsRunBy : (stays : Bool) → Texts → (prepared_key : ℕ) → Prepared → (stands : List ℕ) → (key : ℕ) → Type 0
IsRunBy true texts prepared_key prepared stands key = key ≡ prepared_key
IsRunBy false texts prepared_key prepared stands key = key_at texts key ≡ Some (moved_key prepared stands)

abbrev pub IsRunKey : Texts → (prepared_key : ℕ) → Prepared → (stands : List ℕ) → (key : ℕ) → Type 0
IsRunKey texts prepared_key prepared stands key = IsRunBy (stays_in prepared.place.schema stands) texts prepared_key prepared stands key

pub record IsDueToRun (ordinal flag since : ℕ) (hostgroup : Hostgroup) (multiplex : Option Bool) (prepared_key : ℕ) (prepared : Prepared) (c : ClientNo)
    (texts : Texts) (old new : Tabled) : Type 0 where
  pub row : Client
  pub there : old.clients c ≡ Some row
  pub key : ℕ
  pub keyed : IsRunKey texts prepared_key prepared row.desk.seat.place.schema key
  pub due : IsRunDue flag (run_work ordinal hostgroup since multiplex key (forms.Text prepared.class)) c old new
