-- What the router answers itself is in its own words.
use Rattle.std.specs.Prelude.{◌≡◌, ◌≤◌, ◌<◌, ◌+◌, ◌*◌, ◌^◌, ℕ, suc, Bool, true, false, ◌||◌, bytes_eq, nat_eq, not, nat_lt, is_some, length, take, slice_index_or, List, [], ◌∷◌, Option, Some, None, Result, Ok, Err, if◌then◌else◌}
use Rattle.std.specs.Option.{option_map_or}
use Rattle.std.proofs.Common.{refl, sym, ap, subst, arith, lit<}
use Rattle.std.proofs.lemmas.Slice.Eq.{bytes_eq-Decides}
use Rattle.command_parse.specs.Meaning as meaning
use Rattle.command_parse.specs.Meaning.{Meaning, has_no_reply}
use Rattle.command_parse.specs.Whole.{close_of, execute_by, execute_of, fetch_of, long_data_of, numbered, of_known, reset_of, whole_parsed}
use Rattle.command_parse.specs.declared.fault.CommandFault.{CommandFault}
use Rattle.command_parse.specs.declared.fault.CommandFault.TheVariants as fault
use Rattle.command_parse.specs.declared.statement.Known.{Known}
use Rattle.log_story.specs.Plan.{com_execute, com_field_list, com_init_db, com_long_data, com_prepare, com_query, com_reset, com_statement_reset}
use Rattle.mx_base.specs.Fields.{AreBytes, little_endian, number_at}
use Rattle.mx_base.specs.declared.names.ClientNo.{ClientNo}
use Rattle.own_words.specs.Own as own
use Rattle.own_words.specs.Own.{IsAnswer, is_error_text, is_ok_text}
use Rattle.pin_classifier.specs.declared.class.Class.{Class}
use Rattle.pin_classifier.specs.declared.class.Refusal.{Refusal}
use Rattle.pin_classifier.specs.declared.class.Refusal.TheVariants as refusal
use Rattle.query_rules.specs.Conditions.{fires}
use Rattle.query_rules.specs.Effects.{after, answer_of, is_last}
use Rattle.query_rules.specs.Passing.{beginning, passed}
use Rattle.query_rules.specs.declared.ask.Ask.{Ask}
use Rattle.query_rules.specs.declared.ask.Routed.{Routed}
use Rattle.query_rules.specs.declared.ask.Stop.{Stop}
use Rattle.query_rules.specs.declared.ask.Stop.TheVariants as stop
use Rattle.query_rules.specs.declared.pass.Pass.{Pass}
use Rattle.query_rules.specs.declared.rule.Rule.{Rule}
use Rattle.router_promises.specs.Errors as error
use Rattle.router_promises.specs.Statements.{com_close}
use Rattle.client_session.specs.Errors.{malformed_command}
use Rattle.router_promises.specs.Verdicts.{Wanted, com_fetch, com_ping, com_quit, is_connection_id, is_taken_off}
use Rattle.server_rule.specs.Classes.{router_reads}
use Rattle.session_vars.specs.Settings.{value_at}
use Rattle.session_vars.specs.declared.slot.Slot.TheVariants.{Autocommit}
use Rattle.message_judge.specs.Drafts.{IsOwnDraft, draft_of, value_of}
use Rattle.message_judge.specs.Judging as judging
use Rattle.message_judge.specs.Told.{payloads_of}
use Rattle.message_judge.specs.declared.caller.Caller.{Caller}
use Rattle.message_judge.specs.declared.caller.Prepared.{Prepared}
use Rattle.message_judge.specs.declared.caller.Standing.{Standing}
use Rattle.message_judge.specs.declared.draft.Draft.{Draft}
use Rattle.message_judge.specs.declared.draft.Draft.TheVariants as drafts
use Rattle.message_judge.specs.declared.draft.Judged.{Judged}
use Rattle.message_judge.specs.declared.told.Told.{Told}
use Rattle.message_judge.specs.declared.told.Told.TheVariants as told
use Rattle.message_judge.proofs.Commands.{Faulty, IsRead, IsSilent, Whole, is_unknown, is_whole, long-silent, numbered-none, numbered-some, reads}

-- The number of a statement that isn't there is one of four bytes.

abbrev Fits : Result Meaning CommandFault → Type 0
Fits (Ok (meaning.Fetch id)) = id < 2 ^ 32
Fits (Err (fault.UnknownStatement id)) = id < 2 ^ 32
Fits _ = Unit {0}

pub record IsSmall (read : Result Meaning CommandFault) : Type 0 where
  pub fits : Fits read

any : (read : Result Meaning CommandFault) → Fits read → IsSmall read
any read fits = record { fits = fits }

either : (b : Bool) (this that : Result Meaning CommandFault) → IsSmall this → IsSmall that → IsSmall (if b then this else that)
either true this that first second = first
either false this that first second = second

spelt-small : (bytes : List ℕ) → AreBytes bytes → little_endian (take 4 bytes) < 2 ^ 32
spelt-small [] are = lit< tt
spelt-small (a ∷ []) are = omega (arith, are 0)
spelt-small (a ∷ b ∷ []) are = omega (arith, are 0, are 1)
spelt-small (a ∷ b ∷ c ∷ []) are = omega (arith, are 0, are 1, are 2)
spelt-small (a ∷ b ∷ c ∷ d ∷ others) are = omega (arith, are 0, are 1, are 2, are 3)

module _ (byte : ℕ) (rest : List ℕ) (are : AreBytes (byte ∷ rest)) where
  id-small : (id : ℕ) → number_at 4 1 (byte ∷ rest) ≡ Some id → id < 2 ^ 32
  id-small id is = by (nat_lt (length (byte ∷ rest)) 5) is where
    small : little_endian (take 4 rest) < 2 ^ 32
    small = spelt-small rest (λ i. are (suc i))

    by : (short : Bool) → (if short then None else Some (little_endian (take 4 rest))) ≡ Some id → id < 2 ^ 32
    by true e = absurd (cc)
    by false e =
        let same : little_endian (take 4 rest) ≡ id = cc in
        subst (λ n. n < 2 ^ 32) same small

  numbered-small : (command : ℕ → Result Meaning CommandFault) → ((id : ℕ) → id < 2 ^ 32 → IsSmall (command id)) → IsSmall (numbered (byte ∷ rest) command)
  numbered-small command each = by (number_at 4 1 (byte ∷ rest)) refl where
    by : (number : Option ℕ) → number_at 4 1 (byte ∷ rest) ≡ number → IsSmall (numbered (byte ∷ rest) command)
    by None is = subst IsSmall (sym (numbered-none (byte ∷ rest) command is)) (any (Err (fault.Short 1)) tt)
    by (Some id) is = subst IsSmall (sym (numbered-some (byte ∷ rest) command id is)) (each id (id-small id is))

  known-small : (id : ℕ) → id < 2 ^ 32 → (known : Option Known) (command : Known → Result Meaning CommandFault)
      → ((k : Known) → IsSmall (command k)) → IsSmall (of_known id known command)
  known-small id small None command each = any (Err (fault.UnknownStatement id)) small
  known-small id small (Some k) command each = each k

  fault-small : (why : CommandFault) → is_unknown why ≡ false → IsSmall (Err why)
  fault-small (fault.UnknownStatement id) other = absurd (cc)
  fault-small fault.Empty other = any (Err fault.Empty) tt
  fault-small (fault.Short at) other = any (Err (fault.Short at)) tt
  fault-small fault.TypesMissing other = any (Err fault.TypesMissing) tt

  read-small : (id : ℕ) (read : Result Meaning CommandFault) (whole : Bool) → IsRead id read whole → IsSmall read
  read-small id read whole is = elim is as (λ r w q. IsSmall r) [ Whole types nulls values ↦ any (Ok (meaning.Execute id types nulls values)) tt | Faulty why other ↦ fault-small why other ]

  silent-small : (read : Result Meaning CommandFault) → IsSilent read → IsSmall read
  silent-small (Ok (meaning.LongData id parameter bytes)) is = any (Ok (meaning.LongData id parameter bytes)) tt
  silent-small (Err (fault.UnknownStatement id)) is = absurd is
  silent-small (Err fault.Empty) is = any (Err fault.Empty) tt
  silent-small (Err (fault.Short at)) is = any (Err (fault.Short at)) tt
  silent-small (Err fault.TypesMissing) is = any (Err fault.TypesMissing) tt
  silent-small _ is = absurd is

  command-small : (known : Option Known) → IsSmall (whole_parsed known (byte ∷ rest))
  command-small known =
      either (nat_eq byte com_quit) (Ok meaning.Quit) _ (any (Ok meaning.Quit) tt)
      (either (nat_eq byte com_init_db) (Ok (meaning.InitDb rest)) _ (any (Ok (meaning.InitDb rest)) tt)
      (either (nat_eq byte com_query) (Ok (meaning.Query rest)) _ (any (Ok (meaning.Query rest)) tt)
      (either (nat_eq byte com_field_list) (Ok (meaning.FieldList rest)) _ (any (Ok (meaning.FieldList rest)) tt)
      (either (nat_eq byte com_ping) (Ok meaning.Ping) _ (any (Ok meaning.Ping) tt)
      (either (nat_eq byte com_prepare) (Ok (meaning.Prepare rest)) _ (any (Ok (meaning.Prepare rest)) tt)
      (either (nat_eq byte com_execute) (execute_of known (byte ∷ rest)) _ execute
      (either (nat_eq byte com_long_data) (long_data_of (byte ∷ rest)) _ (silent-small (long_data_of (byte ∷ rest)) (long-silent (byte ∷ rest)))
      (either (nat_eq byte com_close) (close_of (byte ∷ rest)) _ (numbered-small (λ id. Ok (meaning.Close id)) (λ id small. any (Ok (meaning.Close id)) tt))
      (either (nat_eq byte com_statement_reset) (reset_of known (byte ∷ rest)) _ resets
      (either (nat_eq byte com_fetch) (fetch_of (byte ∷ rest)) _ (numbered-small (λ id. Ok (meaning.Fetch id)) (λ id small. any (Ok (meaning.Fetch id)) small))
      (either (nat_eq byte com_reset) (Ok meaning.ResetConnection) (Ok (meaning.Refused byte)) (any (Ok meaning.ResetConnection) tt) (any (Ok (meaning.Refused byte)) tt))))))))))))
    where
      execute : IsSmall (execute_of known (byte ∷ rest))
      execute = numbered-small (λ id. of_known id known (execute_by (byte ∷ rest) id))
          (λ id small. known-small id small known (execute_by (byte ∷ rest) id) (λ k. read-small id (execute_by (byte ∷ rest) id k) (is_whole k (byte ∷ rest)) (reads id k (byte ∷ rest))))

      resets : IsSmall (reset_of known (byte ∷ rest))
      resets = numbered-small (λ id. of_known id known (λ k. Ok (meaning.ResetStmt id)))
          (λ id small. known-small id small known (λ k. Ok (meaning.ResetStmt id)) (λ k. any (Ok (meaning.ResetStmt id)) tt))

pub parsed-small : (known : Option Known) (payload : List ℕ) → AreBytes payload → IsSmall (whole_parsed known payload)
parsed-small known [] are = any (Err fault.Empty) tt
parsed-small known (byte ∷ rest) are = command-small byte rest are known

-- A text by which rules stop is of a rule.

abbrev IsOfRules : List Rule → Option Stop → Type 0
IsOfRules rules None = Unit {0}
IsOfRules rules (Some (stop.Error text)) = is_error_text rules text ≡ true
IsOfRules rules (Some (stop.Ok text)) = is_ok_text rules text ≡ true

same-bytes : (text : List ℕ) → bytes_eq text text ≡ true
same-bytes text = (bytes_eq-Decides text text).1 refl

answer-of : (rule : Rule) (rules : List Rule) → IsOfRules (rule ∷ rules) (answer_of rule)
answer-of rule rules = by rule.row.error_msg rule.row.OK_msg refl refl where
  by : (error okay : Option (List ℕ)) → rule.row.error_msg ≡ error → rule.row.OK_msg ≡ okay → IsOfRules (rule ∷ rules) (answer_of rule)
  by (Some text) okay at is = rw at (rw (same-bytes text) refl)
  by None (Some text) at is = rw (at, is) (rw (same-bytes text) refl)
  by None None at is = rw (at, is) tt

wider : (rule : Rule) (rules : List Rule) (said : Option Stop) → IsOfRules rules said → IsOfRules (rule ∷ rules) said
wider rule rules None is = tt
wider rule rules (Some (stop.Error text)) is = by (option_map_or (bytes_eq text) rule.row.error_msg false) where
  by : (here : Bool) → (here || is_error_text rules text) ≡ true
  by true = refl
  by false = is
wider rule rules (Some (stop.Ok text)) is = by (option_map_or (bytes_eq text) rule.row.OK_msg false) where
  by : (here : Bool) → (here || is_ok_text rules text) ≡ true
  by true = refl
  by false = is

passed-so : (ask : Ask) (all rules : List Rule) → ((said : Option Stop) → IsOfRules rules said → IsOfRules all said) → (pass : Pass)
    → IsOfRules all pass.stop → IsOfRules all (passed ask rules pass).stop
passed-so ask all [] among pass is = is
passed-so ask all (rule ∷ rules) among pass is =
    by (fires rule ask pass) (is_last rule) (passed-so ask all rules others pass is) (passed-so ask all rules others (after rule pass) now)
  where
    others : (said : Option Stop) → IsOfRules rules said → IsOfRules all said
    others said of = among said (wider rule rules said of)

    now : IsOfRules all (after rule pass).stop
    now = among (answer_of rule) (answer-of rule rules)

    by : (fits last : Bool) → IsOfRules all (passed ask rules pass).stop → IsOfRules all (passed ask rules (after rule pass)).stop
        → IsOfRules all (if not fits then passed ask rules pass else if last then after rule pass else passed ask rules (after rule pass)).stop
    by false last past onward = past
    by true true past onward = now
    by true false past onward = onward

stops-so : (ask : Ask) (rules : List Rule) → IsOfRules rules (passed ask rules (beginning ask)).stop
stops-so ask rules = passed-so ask rules rules (λ said is. is) (beginning ask) tt

-- What becomes of a message, by what it says.

abbrev IsSpoken : List Rule → ClientNo → judging.Draft → Type 0
IsSpoken rules c judging.Ends = Unit {0}
IsSpoken rules c (judging.Answers payloads) = IsAnswer rules c payloads
IsSpoken rules c (judging.Sends class wanted) = Unit {0}

module _ (rules : List Rule) (caller : Caller) (standing : Standing) where
  abbrev IsSo : judging.Draft → Type 0
  IsSo draft = IsSpoken rules caller.number draft

  low : judging.own_status caller standing ≤ 3
  low = by (is_taken_off (value_at caller.place.settings Autocommit)) (is_some standing.transaction) where
    by : (off open_there : Bool) → (if off then 0 else 2) + (if open_there then 1 else 0) ≤ 3
    by true true = search arith
    by true false = search arith
    by false true = search arith
    by false false = search arith

  okay : IsSo (judging.own_ok caller standing [])
  okay = own.Okay (judging.own_status caller standing) low

  classed : (class : Class) (why : Option Refusal) (wanted : Wanted) → IsSo (judging.by_class class why wanted)
  classed class (Some refusal.SetsServer) wanted = own.Refuses _ own.SetsServer
  classed class (Some refusal.NamesConnection) wanted = own.Refuses _ own.NamesConnection
  classed class (Some refusal.ReadsLast) wanted = own.Refuses _ own.DiagnosticsGone
  classed class None wanted = by (is_connection_id class.shape) where
    by : (asks : Bool) → IsSo (if asks then judging.answers_one error.names_connection else judging.Sends (Some class) wanted)
    by true = own.Refuses _ own.NamesConnection
    by false = tt

  ruled-so : (routed : Routed) (number : Option ℕ) (why : Option Stop) → IsOfRules rules why
      → IsSo (judging.ruled router_reads caller standing routed number why)
  ruled-so routed number None of = classed (router_reads.class routed.text) (router_reads.class routed.text).refusal _
  ruled-so routed number (Some (stop.Error text)) of = own.Refuses _ (own.ByRule text of)
  ruled-so routed number (Some (stop.Ok text)) of = own.OkByRule (judging.own_status caller standing) text low of

  passes-so : (text : List ℕ) (number : Option ℕ)
      → IsSo (judging.by_pass router_reads caller standing (judging.pass_of rules caller text) number).draft
  passes-so text number = ruled-so (judging.pass_of rules caller text) number (judging.pass_of rules caller text).stop (stops-so ask rules) where
    ask : Ask
    ask = record { user = caller.user; schema = caller.place.schema; flag = caller.flag; text = text; default_hostgroup = caller.home }

  asks-so : (text : List ℕ) → IsSo (judging.asks router_reads rules caller standing text).draft
  asks-so text = by (is_connection_id (router_reads.class text).shape) where
    by : (asks : Bool)
        → IsSo (if asks then judging.still caller (judging.connection_id caller standing) else judging.by_pass router_reads caller standing (judging.pass_of rules caller text) None).draft
    by true = own.Number (judging.own_status caller standing) low
    by false = passes-so text None

  prepares-so : (text : List ℕ) (next : Option ℕ) → IsSo (judging.prepares router_reads rules caller standing text next).draft
  prepares-so text None = own.Refuses _ own.TooManyStatements
  prepares-so text (Some number) = passes-so text (Some number)

  runs-so : (prepared : Option Prepared) → IsSo (judging.runs caller standing prepared)
  runs-so None = own.Refuses _ own.MalformedCommand
  runs-so (Some prepared) = classed prepared.class prepared.class.refusal _

  silent-so : (silent : Bool) → IsSo (if silent then judging.Answers [] else judging.answers_one malformed_command)
  silent-so true = own.Nothing
  silent-so false = own.Refuses _ own.MalformedCommand

  faults-so : (byte : ℕ) (why : CommandFault) → Fits (Err why) → IsSo (judging.faulty byte why)
  faults-so byte (fault.UnknownStatement id) small = own.Refuses _ (own.UnknownStatement id small)
  faults-so byte fault.Empty small = silent-so (has_no_reply byte)
  faults-so byte (fault.Short at) small = silent-so (has_no_reply byte)
  faults-so byte fault.TypesMissing small = silent-so (has_no_reply byte)

  read-so : (prepared : Option Prepared) (byte : ℕ) (read : Result Meaning CommandFault) → Fits read
      → IsSo (judging.by_parsed router_reads rules caller standing prepared byte read).draft
  read-so prepared byte (Err why) small = faults-so byte why small
  read-so prepared byte (Ok meaning.Quit) small = tt
  read-so prepared byte (Ok (meaning.InitDb schema)) small = tt
  read-so prepared byte (Ok (meaning.Query text)) small = asks-so text
  read-so prepared byte (Ok (meaning.FieldList rest)) small = tt
  read-so prepared byte (Ok (meaning.Prepare text)) small = prepares-so text standing.next_number
  read-so prepared byte (Ok meaning.Ping) small = okay
  read-so prepared byte (Ok (meaning.Execute id types nulls values)) small = runs-so prepared
  read-so prepared byte (Ok (meaning.LongData id parameter bytes)) small = own.Nothing
  read-so prepared byte (Ok (meaning.Close id)) small = own.Nothing
  read-so prepared byte (Ok (meaning.ResetStmt id)) small = okay
  read-so prepared byte (Ok (meaning.Fetch id)) small = own.Refuses _ (own.UnknownStatement id small)
  read-so prepared byte (Ok meaning.ResetConnection) small = own.Okay 2 (search arith)
  read-so prepared byte (Ok (meaning.Refused code)) small = own.Refuses _ own.UnknownCommand

-- Whoever is told it: of the number alone it is seen whose it is.

abbrev third : List (List ℕ) → List ℕ
third (a ∷ b ∷ payload ∷ others) = payload
third _ = []

abbrev status_in : List (List ℕ) → ℕ
status_in payloads = slice_index_or (third payloads) 3 0 + 256 * slice_index_or (third payloads) 4 0

abbrev is_one : List (List ℕ) → Bool
is_one (payload ∷ []) = true
is_one _ = false

module _ (rules : List Rule) (c : ClientNo) where
  status-low : (payloads : List (List ℕ)) → IsAnswer rules c payloads → status_in payloads ≤ 3
  status-low payloads is = elim is as (λ p q. status_in p ≤ 3) [
    | own.Nothing ↦ search arith
    | own.Okay status small ↦ search arith
    | own.OkByRule status text small of ↦ search arith
    | own.Number status small ↦ search arith
    | own.Refuses payload why ↦ search arith
  ]

  one-so : (d : ClientNo) (payloads : List (List ℕ)) → IsAnswer rules c payloads → is_one payloads ≡ true → IsAnswer rules d payloads
  one-so d payloads is = elim is as (λ p q. is_one p ≡ true → IsAnswer rules d p) [
    | own.Nothing ↦ λ one. own.Nothing
    | own.Okay status small ↦ λ one. own.Okay status small
    | own.OkByRule status text small of ↦ λ one. own.OkByRule status text small of
    | own.Number status small ↦ λ one. absurd (cc)
    | own.Refuses payload why ↦ λ one. own.Refuses payload why
  ]

  whoever : (d : ClientNo) (said : Told) → IsAnswer rules c (payloads_of c.0 said) → IsAnswer rules d (payloads_of d.0 said)
  whoever d told.Nothing is = own.Nothing
  whoever d (told.Ok status info) is = one-so d _ is refl
  whoever d (told.ConnectionId status) is =
      let small = status-low _ is in
      own.Number status (omega (arith, small))
  whoever d (told.Error why) is = one-so d _ is refl

-- and so what code found of a message
pub found-so : (rules : List Rule) (caller : Caller) (standing : Standing) (prepared : Option Prepared) (byte : ℕ) (read : Result Meaning CommandFault)
    (found : Judged) → IsSmall read → value_of caller prepared found ≡ judging.by_parsed router_reads rules caller standing prepared byte read
    → IsOwnDraft rules found.draft
found-so rules caller standing prepared byte read found small is =
    by found.draft (subst (IsSpoken rules caller.number) (sym (ap (λ (j : judging.Judged). j.draft) is)) (read-so rules caller standing prepared byte read small.fits))
  where
    by : (draft : Draft) → IsSpoken rules caller.number (draft_of caller prepared draft) → IsOwnDraft rules draft
    by drafts.Ends so = tt
    by (drafts.Answers said) so = λ d. whoever rules caller.number d said so
    by (drafts.Sends going) so = tt
