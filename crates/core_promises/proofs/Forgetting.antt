-- What is said to a client that names a statement which it knows isn't that it is unknown.
use Rattle.std.specs.Prelude.{◌≡◌, ◌<◌, ℕ, Bool, true, false, nat_eq, slice_index_or, List, [], ◌∷◌, Option, Some, None, Result, Ok, Err, if◌then◌else◌}
use Rattle.std.proofs.Common.{refl, sym, subst}
use Rattle.std.proofs.lemmas.Bool.{true≢false}
use Rattle.client_session.specs.Errors.{malformed_command}
use Rattle.command_parse.specs.Meaning as meaning
use Rattle.command_parse.specs.Meaning.{Meaning, has_no_reply}
use Rattle.command_parse.specs.declared.fault.CommandFault.{CommandFault}
use Rattle.command_parse.specs.declared.fault.CommandFault.TheVariants as fault
use Rattle.command_parse.specs.declared.statement.Known.{Known}
use Rattle.pin_classifier.specs.declared.class.Class.{Class}
use Rattle.pin_classifier.specs.declared.class.Refusal.{Refusal}
use Rattle.pin_classifier.specs.declared.class.Refusal.TheVariants as refusal
use Rattle.query_rules.specs.declared.rule.Rule.{Rule}
use Rattle.server_rule.specs.Classes.{router_reads}
use Rattle.session_state.specs.Pins.{reads_own}
use Rattle.session_state.specs.declared.pin.Pin.{Pin}
use Rattle.private_model.specs.Names.{ClientNo, Hostgroup}
use Rattle.log_story.specs.Plan.{com_execute, com_statement_reset}
use Rattle.router_promises.specs.Errors as error
use Rattle.router_promises.specs.Verdicts.{Tells, Verdict, Wanted, is_connection_id}
use Rattle.message_judge.proofs.Commands.{is_unknown}
use Rattle.message_judge.specs.Judging as judging
use Rattle.message_judge.specs.declared.caller.Prepared.{Prepared}
use Rattle.core_promises.specs.Judges.{IsVerdictFor, Knowledge, Rulebook, Situation, verdict_on}
use Rattle.core_promises.specs.Statements.{number_named}
use Rattle.core_promises.proofs.Commands.{IsReadKnown, execute-known, reset-known}

-- One payload isn't error 1243, by the first byte of its number.

abbrev IsOther : List (List ℕ) → Type 0
IsOther [] = Unit {0}
IsOther (payload ∷ []) = nat_eq (slice_index_or payload 1 0) 219 ≡ false
IsOther (payload ∷ (other ∷ others)) = Unit {0}

abbrev IsOtherVerdict : Verdict → Type 0
IsOtherVerdict (Tells payloads) = IsOther payloads
IsOtherVerdict _ = Unit {0}

abbrev IsOtherDraft : judging.Draft → Type 0
IsOtherDraft (judging.Answers payloads) = IsOther payloads
IsOtherDraft _ = Unit {0}

sent-other : (there : Bool) (wanted : Wanted) → IsOtherVerdict (judging.sent_unless there wanted)
unfolding error.no_server_in
sent-other true wanted = tt
sent-other false wanted = refl

admitted-other : (class : Option Class) (pin : Pin) (there : Bool) (wanted : Wanted) → IsOtherVerdict (judging.admitted class pin there wanted)
unfolding error.diagnostics_gone
admitted-other None pin there wanted = sent-other there wanted
admitted-other (Some class) pin there wanted = by (reads_own class pin) where
  by : (own : Bool) → IsOtherVerdict (if own then judging.sent_unless there wanted else Tells (error.diagnostics_gone ∷ []))
  by true = sent-other there wanted
  by false = refl

drafted-other : (pins : Hostgroup → Pin) (is_there : Hostgroup → Bool) (draft : judging.Draft) → IsOtherDraft draft
    → IsOtherVerdict (judging.verdict_by pins is_there draft)
drafted-other pins is_there judging.Ends is = tt
drafted-other pins is_there (judging.Answers payloads) is = is
drafted-other pins is_there (judging.Sends class wanted) is = admitted-other class _ _ wanted

classed-other : (class : Class) (why : Option Refusal) (wanted : Wanted) → IsOtherDraft (judging.by_class class why wanted)
unfolding error.sets_server error.names_connection error.diagnostics_gone
classed-other class (Some refusal.SetsServer) wanted = refl
classed-other class (Some refusal.NamesConnection) wanted = refl
classed-other class (Some refusal.ReadsLast) wanted = refl
classed-other class None wanted = by (is_connection_id class.shape) where
  by : (names : Bool) → IsOtherDraft (if names then judging.answers_one error.names_connection else judging.Sends (Some class) wanted)
  by true = refl
  by false = tt

silent-other : (none : Bool) → IsOtherDraft (if none then judging.Answers [] else judging.answers_one malformed_command)
unfolding malformed_command
silent-other true = tt
silent-other false = refl

faulty-other : (byte : ℕ) (why : CommandFault) → is_unknown why ≡ false → IsOtherDraft (judging.faulty byte why)
faulty-other byte (fault.UnknownStatement id) other = absurd (true≢false other)
faulty-other byte fault.Empty other = silent-other (has_no_reply byte)
faulty-other byte (fault.Short at) other = silent-other (has_no_reply byte)
faulty-other byte fault.TypesMissing other = silent-other (has_no_reply byte)

module _ (rules : List Rule) (known : Knowledge) (one : Prepared) where
  read-other : (byte : ℕ) (read : Result Meaning CommandFault) → IsReadKnown read
      → IsOtherDraft (judging.by_parsed router_reads rules known.caller known.standing (Some one) byte read).draft
  read-other byte (Err why) is = faulty-other byte why is
  read-other byte (Ok (meaning.Execute id types nulls values)) is = classed-other one.class one.class.refusal _
  read-other byte (Ok (meaning.ResetStmt id)) is = refl
  read-other byte (Ok _) is = absurd is

  abbrev its : Known
  its = record { params = one.params; bound = one.bound }

  abbrev By : (payload : List ℕ) → Option Prepared → Type 0
  By payload prepared =
      IsOtherVerdict (judging.verdict_by known.pins known.is_there
      (judging.judged router_reads rules known.caller known.standing prepared payload).draft)

  runs-other : (rest : List ℕ) → known.prepared ≡ Some one → IsOtherVerdict (verdict_on rules known (com_execute ∷ rest))
  runs-other rest is =
      subst (By (com_execute ∷ rest)) (sym is)
      (drafted-other known.pins known.is_there _ (read-other com_execute _ (execute-known its (com_execute ∷ rest))))

  resets-other : (rest : List ℕ) → known.prepared ≡ Some one → IsOtherVerdict (verdict_on rules known (com_statement_reset ∷ rest))
  resets-other rest is =
      subst (By (com_statement_reset ∷ rest)) (sym is)
      (drafted-other known.pins known.is_there _ (read-other com_statement_reset _ (reset-known its (com_statement_reset ∷ rest))))

module _ (book : Rulebook) (situation : Situation) (c : ClientNo) (rest : List ℕ) (number id : ℕ) (one : Prepared) (some : 0 < number)
    (there : situation.statements number ≡ Some one) where
  known-never : IsOtherVerdict (Tells (error.unknown_statement id ∷ [])) → ⊥
  unfolding error.unknown_statement
  known-never other = true≢false other

  pub runs-known : IsVerdictFor book situation c (com_execute ∷ rest) (Tells (error.unknown_statement id ∷ []))
      → number_named (com_execute ∷ rest) ≡ Some number → ⊥
  runs-known for named =
      known-never (subst IsOtherVerdict (sym for.is) (runs-other book.rules for.known one rest (for.named number one named some there)))

  pub resets-known : IsVerdictFor book situation c (com_statement_reset ∷ rest) (Tells (error.unknown_statement id ∷ []))
      → number_named (com_statement_reset ∷ rest) ≡ Some number → ⊥
  resets-known for named =
      known-never (subst IsOtherVerdict (sym for.is) (resets-other book.rules for.known one rest (for.named number one named some there)))
