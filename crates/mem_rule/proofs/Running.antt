-- What holds of a text holds of the command that runs it.
use Rattle.std.specs.Prelude.{◌≡◌, ℕ, Bool, false, true, List, Option, None, Some}
use Rattle.std.proofs.Common.{subst}
use Rattle.server_rule.specs.Classes.{text_run}
use Rattle.server_rule.specs.Servers.{Outcome}
use Rattle.server_rule.specs.declared.command.Cmd.{Cmd}
use Rattle.server_rule.specs.declared.command.Cmd.TheVariants.{Query, InitDb, FieldList, Prepare, Run, Reset, Close}
use Rattle.server_rule.specs.declared.session.Session.{Session}
use Rattle.mem_rule.specs.Commands.{Ran, on_text, ran, types_of}
use Rattle.mem_rule.specs.Statements.{Binding}
use Rattle.mem_rule.specs.Stored.{stored_after}
use Rattle.mem_rule.specs.Tables.{Tables}

-- a step of the data as a list
abbrev pub outcome : (stored : List ℕ) → Ran → Outcome
outcome stored r = record { stored = stored_after stored r.writes; session = r.session; reply = r.reply }

pub of_run : (t : Tables) (s : Session) (c : Cmd) (text : List ℕ) → text_run c ≡ Some text → (P : Ran → Type 0) → ((binding : Option Binding) (is_binary : Bool) (schema : List ℕ) → P (on_text text binding is_binary schema t s)) → P (ran t s c)
unfolding ran
of_run t s (Query given) text is P holds = let same : text ≡ given = cc in subst (λ (these : List ℕ). P (on_text these None false s.schema t s)) same (holds None false s.schema)
of_run t s (Run given schema settings types nulls values long) text is P holds =
    let same : text ≡ given = cc in
    let binding : Binding = record { types = types_of types; nulls = nulls; values = values; long = long } in
    subst (λ (these : List ℕ). P (on_text these (Some binding) true schema t s)) same (holds (Some binding) true schema)
of_run t s (InitDb schema) text is P holds = absurd (cc)
of_run t s (FieldList rest) text is P holds = absurd (cc)
of_run t s (Prepare given) text is P holds = absurd (cc)
of_run t s Reset text is P holds = absurd (cc)
of_run t s Close text is P holds = absurd (cc)
