-- What the verdict says of an execute, and of a text that is to be prepared.
use Rattle.std.specs.Prelude.{◌≡◌, ℕ, Bool, true, false, List, [], ◌∷◌, Option, Some, None, Result, Ok, Err, if◌then◌else◌, unwrap_or}
use Rattle.std.specs.Option.{option_and_then}
use Rattle.std.proofs.Common.{refl, sym, ap, subst, ◌∙◌}
use Rattle.client_session.specs.Errors.{malformed_command}
use Rattle.command_parse.specs.Meaning as meaning
use Rattle.command_parse.specs.Meaning.{Meaning, has_no_reply}
use Rattle.command_parse.specs.declared.fault.CommandFault.{CommandFault}
use Rattle.command_parse.specs.declared.fault.CommandFault.TheVariants as fault
use Rattle.query_rules.specs.declared.ask.Routed.{Routed}
use Rattle.query_rules.specs.declared.ask.Stop.{Stop}
use Rattle.query_rules.specs.declared.ask.Stop.TheVariants as stop
use Rattle.query_rules.specs.declared.rule.Rule.{Rule}
use Rattle.server_rule.specs.Classes.{router_reads}
use Rattle.private_model.specs.Names.{ClientNo, Hostgroup}
use Rattle.private_model.specs.Story.{Key}
use Rattle.log_story.specs.Plan.{Route, com_execute, com_prepare}
use Rattle.router_promises.specs.Verdicts.{Goes, Wanted}
use Rattle.message_judge.specs.Judging as judging
use Rattle.message_judge.specs.declared.caller.Prepared.{Prepared}
use Rattle.core_promises.specs.Judges.{IsRoutedFor, IsVerdictFor, Knowledge, Rulebook, Situation, verdict_on}
use Rattle.core_promises.specs.Statements.{number_named}
use Rattle.core_promises.specs.Wrong.{IsOfStatement, RunsStatement}
use Rattle.core_promises.proofs.Commands.{IsRunOnly, execute-runs}
use Rattle.core_promises.proofs.Wanted.{OfGoing, OfSending, classed, drafted}

module _ (rules : List Rule) (known : Knowledge) where
  -- an execute of what is known

  record IsRun (wanted : Wanted) : Type 0 where
    one : Prepared
    is_known : known.prepared ≡ Some one
    hostgroup : wanted.route.hostgroup ≡ unwrap_or known.standing.transaction one.hostgroup
    multiplex : wanted.route.multiplex ≡ one.multiplex

  silent : (none : Bool) → OfSending IsRun (if none then judging.Answers [] else judging.answers_one malformed_command)
  silent true = tt
  silent false = tt

  faulty : (byte : ℕ) (why : CommandFault) → OfSending IsRun (judging.faulty byte why)
  faulty byte (fault.UnknownStatement id) = tt
  faulty byte fault.Empty = silent (has_no_reply byte)
  faulty byte (fault.Short at) = silent (has_no_reply byte)
  faulty byte fault.TypesMissing = silent (has_no_reply byte)

  run : (prepared : Option Prepared) → known.prepared ≡ prepared → OfSending IsRun (judging.runs known.caller known.standing prepared)
  run None is = tt
  run (Some one) is =
      classed IsRun one.class one.class.refusal _ (λ free named. record { one = one; is_known = is; hostgroup = refl; multiplex = refl })

  read : (read : Result Meaning CommandFault) → IsRunOnly read
      → OfSending IsRun (judging.by_parsed router_reads rules known.caller known.standing known.prepared com_execute read).draft
  read (Err why) is = faulty com_execute why
  read (Ok (meaning.Execute id types nulls values)) is = run known.prepared refl
  read (Ok _) is = absurd is

  runs : (rest : List ℕ) → OfGoing IsRun (verdict_on rules known (com_execute ∷ rest))
  runs rest = drafted IsRun known.pins known.is_there _ (read _ (execute-runs (judging.known_of known.prepared) (com_execute ∷ rest)))

  -- a text, by the next number

  abbrev IsNext : Wanted → Type 0
  IsNext wanted = known.standing.next_number ≡ Some wanted.route.number

  ruled : (routed : Routed) (number : ℕ) (why : Option Stop) → known.standing.next_number ≡ Some number
      → OfSending IsNext (judging.ruled router_reads known.caller known.standing routed (Some number) why)
  ruled routed number None is = classed IsNext (router_reads.class routed.text) (router_reads.class routed.text).refusal _ (λ free named. is)
  ruled routed number (Some (stop.Error text)) is = tt
  ruled routed number (Some (stop.Ok text)) is = tt

  prepared : (text : List ℕ) (number : Option ℕ) → known.standing.next_number ≡ number
      → OfSending IsNext (judging.prepares router_reads rules known.caller known.standing text number).draft
  prepared text None is = tt
  prepared text (Some number) is = ruled (judging.pass_of rules known.caller text) number (judging.pass_of rules known.caller text).stop is

  prepares : (text : List ℕ) → OfGoing IsNext (verdict_on rules known (com_prepare ∷ text))
  prepares text = drafted IsNext known.pins known.is_there _ (prepared text known.standing.next_number refl)

module _ (book : Rulebook) (situation : Situation) (keys : (key : ℕ) → Option Key) (c : ClientNo) (rest : List ℕ) (route : Route) where
  pub runs-prepared : IsRoutedFor book situation keys c (com_execute ∷ rest) route
      → RunsStatement book situation route (option_and_then situation.statements (number_named (com_execute ∷ rest)))
  runs-prepared routed =
      let for : IsVerdictFor book situation c (com_execute ∷ rest) (Goes routed.wanted) = routed.is in
      let ran : IsRun book.rules for.known routed.wanted = subst (OfGoing (IsRun book.rules for.known)) (sym for.is) (runs book.rules for.known rest) in
      record {
        transaction = for.known.standing.transaction;
        in_transaction = for.transaction;
        of = subst (IsOfStatement for.known.standing.transaction route) (sym (for.prepared ran.one ran.is_known))
            (sym (ap (λ (r : Route). r.hostgroup) routed.routed) ∙ ran.hostgroup, sym (ap (λ (r : Route). r.multiplex) routed.routed) ∙ ran.multiplex);
      }

  pub gives-new : IsRoutedFor book situation keys c (com_prepare ∷ rest) route → situation.given route.number ≡ false
  gives-new routed =
      let for : IsVerdictFor book situation c (com_prepare ∷ rest) (Goes routed.wanted) = routed.is in
      let next : IsNext book.rules for.known routed.wanted = subst (OfGoing (IsNext book.rules for.known)) (sym for.is) (prepares book.rules for.known rest) in
      ap situation.given (sym (ap (λ (r : Route). r.number) routed.routed)) ∙ for.number routed.wanted.route.number next

-- where no transaction is open
pub of-prepared : (transaction : Option Hostgroup) (route : Route) (hostgroup : Hostgroup) (statement : Option Prepared) → transaction ≡ None
    → ((one : Prepared) → statement ≡ Some one → one.hostgroup ≡ hostgroup) → IsOfStatement transaction route statement → route.hostgroup ≡ hostgroup
of-prepared transaction route hostgroup None closed there is = absurd is
of-prepared transaction route hostgroup (Some one) closed there is =
    is.0 ∙ ap (λ (t : Option Hostgroup). unwrap_or t one.hostgroup) closed ∙ there one refl
