-- What a draft can be, by its message's bytes, and by whether its client prepared the statement that it names.
use Rattle.std.specs.Prelude.{◌≡◌, ◌||◌, ℕ, Bool, true, false, nat_eq, List, [], ◌∷◌, Option, Some, None, Result, Ok, Err, if◌then◌else◌}
use Rattle.std.specs.Option.{option_and_then}
use Rattle.std.proofs.Common.{refl, sym, ap, subst, ◌∙◌, inl, inr}
use Rattle.command_parse.specs.Meaning as meaning
use Rattle.command_parse.specs.Meaning.{Meaning, has_no_reply}
use Rattle.command_parse.specs.Whole.{close_of, execute_by, execute_of, fetch_of, long_data_of, of_known, reset_of}
use Rattle.command_parse.specs.declared.fault.CommandFault.{CommandFault}
use Rattle.command_parse.specs.declared.fault.CommandFault.TheVariants as fault
use Rattle.command_parse.specs.declared.statement.Known.{Known}
use Rattle.mx_base.specs.Fields.{number_at}
use Rattle.pin_classifier.specs.Classes.{class_of}
use Rattle.pin_classifier.specs.declared.class.Class.{Class}
use Rattle.pin_classifier.specs.declared.class.Refusal.{Refusal}
use Rattle.pin_classifier.specs.declared.class.Refusal.TheVariants as refusal
use Rattle.query_rules.specs.declared.ask.Routed.{Routed}
use Rattle.query_rules.specs.declared.ask.Stop.{Stop}
use Rattle.query_rules.specs.declared.ask.Stop.TheVariants as stop
use Rattle.query_rules.specs.declared.rule.Rule.{Rule}
use Rattle.server_rule.specs.Classes.{router_reads}
use Rattle.session_state.specs.declared.place.Place.{Place}
use Rattle.private_model.specs.Story.{Key}
use Rattle.log_story.specs.Plan.{com_execute, com_field_list, com_init_db, com_long_data, com_prepare, com_query, com_reset, com_statement_reset}
use Rattle.router_promises.specs.Errors as error
use Rattle.router_promises.specs.Statements.{com_close}
use Rattle.router_promises.specs.Verdicts as verdicts
use Rattle.router_promises.specs.Verdicts.{Wanted, is_connection_id, plain_route}
use Rattle.message_judge.specs.Judging as judging
use Rattle.message_judge.specs.declared.caller.Caller.{Caller}
use Rattle.message_judge.specs.declared.caller.Prepared.{Prepared}
use Rattle.message_judge.specs.declared.caller.Standing.{Standing}
use Rattle.message_judge.proofs.Commands.{Faulty, IsRead, Whole, numbered-some, reads, split}
use Rattle.core_promises.specs.Statements.{number_named}
use Rattle.core_turns.specs.Judged.{IsExecute, IsPlain, SaysQuit, byte_of, is_whole}

-- A query, or a text that is prepared under the next number; or what has no text.

abbrev pub IsTextSo : (next : Option ℕ) → (stands : Place) → (payload : List ℕ) → Class → (text : Option (List ℕ)) → (key : Option Key) → (number : ℕ) → Type 0
IsTextSo next stands payload class None key number = ⊥
IsTextSo next stands payload class (Some text) None number = (nat_eq (byte_of payload) com_query ≡ true) × (class ≡ class_of text)
IsTextSo next stands payload class (Some text) (Some key) number =
    (nat_eq (byte_of payload) com_prepare ≡ true) × (class ≡ class_of text) × (next ≡ Some number) × (key ≡ record { text = text; place = stands })

abbrev pub IsOwnSo : (next : Option ℕ) → (stands : Place) → (payload : List ℕ) → Option Class → Wanted → Type 0
IsOwnSo next stands payload (Some class) wanted = IsTextSo next stands payload class wanted.route.text wanted.key wanted.route.number
IsOwnSo next stands payload None wanted = IsPlain payload × (wanted.route.text ≡ None) × (wanted.key ≡ None) × (wanted.route.number ≡ 0)

-- an execute
abbrev pub IsRunSo : Caller → Prepared → (payload : List ℕ) → Wanted → Type 0
IsRunSo caller known payload wanted =
    IsExecute known payload
    × (wanted ≡ record { route = record (plain_route wanted.route.hostgroup) { multiplex = wanted.route.multiplex }; key = judging.run_key caller known })

abbrev pub IsSentSo : Caller → Standing → Option Prepared → (payload : List ℕ) → Option Class → Wanted → Type 0
IsSentSo caller standing None payload class wanted = IsOwnSo standing.next_number caller.place payload class wanted
IsSentSo caller standing (Some known) payload class wanted = IsRunSo caller known payload wanted

abbrev pub IsSo : Caller → Standing → Option Prepared → (payload : List ℕ) → judging.Draft → Type 0
IsSo caller standing prepared payload judging.Ends = SaysQuit payload
IsSo caller standing prepared payload (judging.Answers payloads) = Unit {0}
IsSo caller standing prepared payload (judging.Sends class wanted) = IsSentSo caller standing prepared payload class wanted

-- what the router answers itself, whoever asks

abbrev is_own : Result Meaning CommandFault → Bool
is_own (Ok meaning.Quit) = false
is_own (Ok (meaning.InitDb schema)) = false
is_own (Ok (meaning.Query text)) = false
is_own (Ok (meaning.FieldList rest)) = false
is_own (Ok (meaning.Prepare text)) = false
is_own meant = true

module _ (payload : List ℕ) where
  execute-own : (number : Option ℕ) → number_at 4 1 payload ≡ number → is_own (execute_of None payload) ≡ true
  execute-own None is = rw is refl
  execute-own (Some id) is = rw is refl

  close-own : (number : Option ℕ) → number_at 4 1 payload ≡ number → is_own (close_of payload) ≡ true
  close-own None is = rw is refl
  close-own (Some id) is = rw is refl

  reset-own : (number : Option ℕ) → number_at 4 1 payload ≡ number → is_own (reset_of None payload) ≡ true
  reset-own None is = rw is refl
  reset-own (Some id) is = rw is refl

  fetch-own : (number : Option ℕ) → number_at 4 1 payload ≡ number → is_own (fetch_of payload) ≡ true
  fetch-own None is = rw is refl
  fetch-own (Some id) is = rw is refl

  part-own : (id : ℕ) → number_at 4 1 payload ≡ Some id → (parameter : Option ℕ) → number_at 2 5 payload ≡ parameter
      → is_own (long_data_of payload) ≡ true
  part-own id is None at = rw (is, at) refl
  part-own id is (Some parameter) at = rw (is, at) refl

  long-own : (number : Option ℕ) → number_at 4 1 payload ≡ number → is_own (long_data_of payload) ≡ true
  long-own None is = rw is refl
  long-own (Some id) is = part-own id is (number_at 2 5 payload) refl

module _ (rules : List Rule) (caller : Caller) (standing : Standing) where
  abbrev so : Option Prepared → (payload : List ℕ) → judging.Draft → Type 0
  so prepared payload draft = IsSo caller standing prepared payload draft

  faults : (prepared : Option Prepared) (payload : List ℕ) (byte : ℕ) (why : CommandFault) → so prepared payload (judging.faulty byte why)
  faults prepared payload byte why = by (has_no_reply byte) refl why where
    by : (silent : Bool) → has_no_reply byte ≡ silent → (why : CommandFault) → so prepared payload (judging.faulty byte why)
    by silent is (fault.UnknownStatement id) = tt
    by true is fault.Empty = rw is tt
    by true is (fault.Short at) = rw is tt
    by true is fault.TypesMissing = rw is tt
    by false is fault.Empty = rw is tt
    by false is (fault.Short at) = rw is tt
    by false is fault.TypesMissing = rw is tt

  owns : (payload : List ℕ) (byte : ℕ) (meant : Result Meaning CommandFault) → is_own meant ≡ true
      → so None payload (judging.by_parsed router_reads rules caller standing None byte meant).draft
  owns payload byte (Err why) own = faults None payload byte why
  owns payload byte (Ok meaning.Quit) own = absurd (cc)
  owns payload byte (Ok (meaning.InitDb schema)) own = absurd (cc)
  owns payload byte (Ok (meaning.Query text)) own = absurd (cc)
  owns payload byte (Ok (meaning.FieldList rest)) own = absurd (cc)
  owns payload byte (Ok (meaning.Prepare text)) own = absurd (cc)
  owns payload byte (Ok meaning.Ping) own = tt
  owns payload byte (Ok (meaning.Execute id types nulls values)) own = tt
  owns payload byte (Ok (meaning.LongData id parameter bytes)) own = tt
  owns payload byte (Ok (meaning.Close id)) own = tt
  owns payload byte (Ok (meaning.ResetStmt id)) own = tt
  owns payload byte (Ok (meaning.Fetch id)) own = tt
  owns payload byte (Ok meaning.ResetConnection) own = tt
  owns payload byte (Ok (meaning.Refused code)) own = tt

  -- what has a class, and isn't refused for it
  classed : (prepared : Option Prepared) (payload : List ℕ) (class : Class) (why : Option Refusal) (wanted : Wanted)
      → IsSentSo caller standing prepared payload (Some class) wanted → so prepared payload (judging.by_class class why wanted)
  classed prepared payload class (Some refusal.SetsServer) wanted sent = tt
  classed prepared payload class (Some refusal.NamesConnection) wanted sent = tt
  classed prepared payload class (Some refusal.ReadsLast) wanted sent = tt
  classed prepared payload class None wanted sent = by (is_connection_id class.shape) where
    by : (asks : Bool) → so prepared payload (if asks then judging.answers_one error.names_connection else judging.Sends (Some class) wanted)
    by true = tt
    by false = sent

  -- a query, and a text to be prepared

  abbrev wanted_by : Routed → (number : Option ℕ) → Wanted
  wanted_by routed number = judging.prepares_as caller routed number (record {
    route = record (plain_route (judging.hostgroup_for caller standing (class_of routed.text) routed.hostgroup)) { text = Some routed.text; multiplex = routed.multiplex };
    key = None;
  })

  ruled-so : (payload : List ℕ) (routed : Routed) (number : Option ℕ) → IsOwnSo standing.next_number caller.place payload (Some (class_of routed.text)) (wanted_by routed number)
      → (why : Option Stop) → so None payload (judging.ruled router_reads caller standing routed number why)
  unfolding router_reads
  ruled-so payload routed number sent None = classed None payload (class_of routed.text) (class_of routed.text).refusal (wanted_by routed number) sent
  ruled-so payload routed number sent (Some (stop.Error text)) = tt
  ruled-so payload routed number sent (Some (stop.Ok text)) = tt

  asked-so : (rest : List ℕ) → so None (com_query ∷ rest) (judging.asks router_reads rules caller standing rest).draft
  asked-so rest = by (is_connection_id (router_reads.class rest).shape) where
    routed : Routed
    routed = judging.pass_of rules caller rest

    by : (asks : Bool)
        → so None (com_query ∷ rest)
        (if asks then judging.still caller (judging.connection_id caller standing) else judging.by_pass router_reads caller standing routed None).draft
    by true = tt
    by false = ruled-so (com_query ∷ rest) routed None (refl, refl) routed.stop

  prepared-so : (rest : List ℕ) (next : Option ℕ) → standing.next_number ≡ next
      → so None (com_prepare ∷ rest) (judging.prepares router_reads rules caller standing rest next).draft
  prepared-so rest None none = tt
  prepared-so rest (Some number) some =
      let routed : Routed = judging.pass_of rules caller rest in
      ruled-so (com_prepare ∷ rest) routed (Some number) (refl, refl, some, refl) routed.stop

  -- by the message's bytes
  own-so : (payload : List ℕ) → so None payload (judging.judged router_reads rules caller standing None payload).draft
  own-so [] = tt
  own-so (byte ∷ rest) =
      split byte verdicts.com_quit (λ is. moved is (refl, refl))
      (λ quit. split byte com_init_db (λ is. moved is (inl refl, refl, refl, refl))
      (λ init. split byte com_query (λ is. moved is (asked-so rest))
      (λ query. split byte com_field_list (λ is. moved is (inr refl, refl, refl, refl))
      (λ fields. split byte verdicts.com_ping (λ is. moved is tt)
      (λ ping. split byte com_prepare (λ is. moved is (prepared-so rest standing.next_number refl))
      (λ prepare. split byte com_execute (λ is. moved is (owns (com_execute ∷ rest) com_execute _ (execute-own (com_execute ∷ rest) _ refl)))
      (λ execute. split byte com_long_data (λ is. moved is (owns (com_long_data ∷ rest) com_long_data _ (long-own (com_long_data ∷ rest) _ refl)))
      (λ long. split byte com_close (λ is. moved is (owns (com_close ∷ rest) com_close _ (close-own (com_close ∷ rest) _ refl)))
      (λ close. split byte com_statement_reset (λ is. moved is (owns (com_statement_reset ∷ rest) com_statement_reset _ (reset-own (com_statement_reset ∷ rest) _ refl)))
      (λ resets. split byte verdicts.com_fetch (λ is. moved is (owns (verdicts.com_fetch ∷ rest) verdicts.com_fetch _ (fetch-own (verdicts.com_fetch ∷ rest) _ refl)))
      (λ fetch. split byte com_reset (λ is. moved is tt)
      (λ reset. rw (quit, init, query, fields, ping, prepare, execute, long, close, resets, fetch, reset) tt))))))))))))
    where
      moved : {k : ℕ} → byte ≡ k → so None (k ∷ rest) (judging.judged router_reads rules caller standing None (k ∷ rest)).draft
          → so None (byte ∷ rest) (judging.judged router_reads rules caller standing None (byte ∷ rest)).draft
      moved is given = subst (λ b. so None (b ∷ rest) (judging.judged router_reads rules caller standing None (b ∷ rest)).draft) (sym is) given

  -- An execute of what its client prepared, or a STMT_RESET.

  module _ (known : Prepared) (rest : List ℕ) (number : ℕ) where
    abbrev read_as : Known
    read_as = record { params = known.params; bound = known.bound }

    abbrev executes : List ℕ
    executes = com_execute ∷ rest

    abbrev resets : List ℕ
    resets = com_statement_reset ∷ rest

    run-read : (result : Result Meaning CommandFault) (whole : Bool) → IsRead number result whole → is_whole known executes ≡ whole
        → so (Some known) executes (judging.by_parsed router_reads rules caller standing (Some known) com_execute result).draft
    run-read _ _ (Whole types nulls values) is = classed (Some known) executes known.class known.class.refusal _ ((refl, is), refl)
    run-read _ _ (Faulty why plain) is = faults (Some known) executes com_execute why

    run-so : number_at 4 1 executes ≡ Some number → so (Some known) executes (judging.judged router_reads rules caller standing (Some known) executes).draft
    run-so at =
        subst (λ (meant : Result Meaning CommandFault). so (Some known) executes (judging.by_parsed router_reads rules caller standing (Some known) com_execute meant).draft)
        (sym (numbered-some executes (λ id. of_known id (Some read_as) (execute_by executes id)) number at))
        (run-read (execute_by executes number read_as) (is_whole known executes) (reads number read_as executes) refl)

    reset-so : number_at 4 1 resets ≡ Some number → so (Some known) resets (judging.judged router_reads rules caller standing (Some known) resets).draft
    reset-so at =
        subst (λ (meant : Result Meaning CommandFault). so (Some known) resets (judging.by_parsed router_reads rules caller standing (Some known) com_statement_reset meant).draft)
        (sym (numbered-some resets (λ id. of_known id (Some read_as) (λ (k : Known). Ok (meaning.ResetStmt id))) number at)) tt

  named-so : (known : Prepared) (number : ℕ) (payload : List ℕ) → number_named payload ≡ Some number
      → so (Some known) payload (judging.judged router_reads rules caller standing (Some known) payload).draft
  named-so known number [] named = absurd (let e = named in cc)
  named-so known number (byte ∷ rest) named =
      split byte com_execute (λ is. moved com_execute is (run-so known rest number (at com_execute is)))
      (λ execute. split byte com_statement_reset (λ is. moved com_statement_reset is (reset-so known rest number (at com_statement_reset is)))
      (λ resets. absurd (let none : None ≡ Some number = rw (execute, resets) at named in cc)))
    where
      at : (k : ℕ) → byte ≡ k → number_named (k ∷ rest) ≡ Some number
      at k is = subst (λ (b : ℕ). number_named (b ∷ rest) ≡ Some number) is named

      moved : (k : ℕ) → byte ≡ k → so (Some known) (k ∷ rest) (judging.judged router_reads rules caller standing (Some known) (k ∷ rest)).draft
          → so (Some known) (byte ∷ rest) (judging.judged router_reads rules caller standing (Some known) (byte ∷ rest)).draft
      moved k is given = subst (λ b. so (Some known) (b ∷ rest) (judging.judged router_reads rules caller standing (Some known) (b ∷ rest)).draft) (sym is) given

  has-number : (f : ℕ → Option Prepared) (named : Option ℕ) (known : Prepared) → option_and_then f named ≡ Some known → (number : ℕ) × (named ≡ Some number)
  has-number f None known is = absurd (let e = is in cc)
  has-number f (Some number) known is = (number, refl)

  -- by what its client prepared
  pub judged-so : (f : ℕ → Option Prepared) (payload : List ℕ) (prepared : Option Prepared)
      → ((known : Prepared) → prepared ≡ Some known → option_and_then f (number_named payload) ≡ Some known)
      → so prepared payload (judging.judged router_reads rules caller standing prepared payload).draft
  judged-so f payload None named = own-so payload
  judged-so f payload (Some known) named =
      let at = has-number f (number_named payload) known (named known refl) in
      named-so known at.0 payload at.1
