-- What becomes of a message by what is known of its client is the promise's verdict.
use Rattle.std.specs.Prelude.{◌≡◌, ℕ, zero, suc, Bool, true, false, not, ◌&&◌, ◌||◌, is_none, is_some, nat_eq, nat_le, length, List, [], ◌∷◌, Option, Some, None, Result, Ok, Err, if◌then◌else◌, unwrap_or}
use Rattle.std.specs.Option.{option_map_or, option_or}
use Rattle.std.proofs.Common.{refl, sym, ap, subst, ◌∙◌, true≢false}
use Rattle.client_session.specs.Errors.{malformed_command}
use Rattle.command_parse.specs.Meaning as meaning
use Rattle.command_parse.specs.Meaning.{Meaning, has_no_reply}
use Rattle.command_parse.specs.Whole.{execute_by, of_known}
use Rattle.command_parse.specs.declared.fault.CommandFault.{CommandFault}
use Rattle.command_parse.specs.declared.fault.CommandFault.TheVariants as fault
use Rattle.hostgroups.specs.declared.server.Server.{Server}
use Rattle.mx_base.specs.Fields.{number_at}
use Rattle.mx_base.specs.declared.names.ClientNo.{ClientNo}
use Rattle.mx_base.specs.declared.names.Hostgroup.{Hostgroup}
use Rattle.pin_classifier.specs.declared.class.Class.{Class}
use Rattle.pin_classifier.specs.declared.class.Refusal.{Refusal}
use Rattle.pin_classifier.specs.declared.class.Refusal.TheVariants as refusal
use Rattle.query_rules.specs.declared.ask.Routed.{Routed}
use Rattle.query_rules.specs.declared.ask.Stop.{Stop}
use Rattle.query_rules.specs.declared.ask.Stop.TheVariants as stop
use Rattle.session_state.specs.Pins.{reads_own}
use Rattle.session_state.specs.declared.pin.Pin.{Pin}
use Rattle.session_state.specs.declared.place.Place.{Place}
use Rattle.private_model.specs.Story.{Key}
use Rattle.log_story.specs.Executes as executes
use Rattle.log_story.specs.Executes.{given_in}
use Rattle.log_story.specs.Plan.{com_execute, com_field_list, com_init_db, com_long_data, com_prepare, com_query, com_reset, com_statement_reset}
use Rattle.log_story.specs.Tale.{view_of}
use Rattle.router_promises.specs.Errors as error
use Rattle.router_promises.specs.Router.{home_of}
use Rattle.router_promises.specs.Running.{has_online}
use Rattle.router_promises.specs.Statements.{com_close, execute_size, is_full, is_whole_execute, known_statement, next_number}
use Rattle.router_promises.specs.Takings.{Taking, ordinal_of}
use Rattle.router_promises.specs.Terms.{Terms, plan_in, setup_in}
use Rattle.router_promises.specs.Verdicts as verdicts
use Rattle.router_promises.specs.Verdicts.{Kind, Verdict, Wanted, flag_behind, held_in, kind_in, last_due, transaction_in, user_in, verdict}
use Rattle.message_judge.specs.Callers.{IsCaller, IsNamed, IsPrepared, IsPreparedOr, Stands, bound_in, is_there, number_in}
use Rattle.message_judge.specs.Judging as judging
use Rattle.message_judge.specs.Judging.{Draft, Judged, judged}
use Rattle.message_judge.specs.declared.caller.Caller.{Caller}
use Rattle.message_judge.specs.declared.caller.Prepared.{Prepared}
use Rattle.message_judge.specs.declared.caller.Standing.{Standing}
use Rattle.message_judge.proofs.Typed.{lacks-same}
use Rattle.message_judge.proofs.Commands.{Faulty, IsRead, IsSilent, Whole, is_unknown, is_whole, long-silent, numbered-none, numbered-some, reads, split}

module _ (terms : Terms) (servers : List Server) (flag : ℕ) (taking : Taking) where
  -- what there is to know
  abbrev caller : Caller
  caller = record {
    number = taking.client.number;
    user = user_in terms taking;
    home = home_of terms.router (user_in terms taking);
    place = (view_of (setup_in terms) taking.tale).places taking.client.number;
    flag = flag;
    last = last_due taking.tale.story taking.client.number;
  }

  abbrev standing : Standing
  standing = record { transaction = transaction_in terms taking; next_number = number_in terms taking }

  abbrev pins : Hostgroup → Pin
  pins h = (held_in terms taking h).pin

  abbrev there : Hostgroup → Bool
  there = is_there terms servers taking

  abbrev value : Draft → Verdict
  value draft = judging.verdict_by pins there draft

  sent : (wanted : Wanted) → verdicts.sent_unless terms servers taking wanted ≡ judging.sent_unless (there wanted.route.hostgroup) wanted
  sent wanted = by (is_some (held_in terms taking wanted.route.hostgroup).home) (has_online servers wanted.route.hostgroup)
    where
      by : (home online : Bool)
          → (if not home && not online then verdicts.tells_one (error.no_server_in wanted.route.hostgroup.0) else verdicts.Goes wanted)
          ≡ judging.sent_unless (home || online) wanted
      by true online = refl
      by false true = refl
      by false false = refl

  gone : (class : Class) (wanted : Wanted)
      → verdicts.unless_gone terms servers taking class wanted
      ≡ judging.admitted (Some class) (pins wanted.route.hostgroup) (there wanted.route.hostgroup) wanted
  gone class wanted = by (reads_own class (pins wanted.route.hostgroup))
    where
      by : (own : Bool)
          → (if own then verdicts.sent_unless terms servers taking wanted else verdicts.tells_one error.diagnostics_gone)
          ≡ (if own then judging.sent_unless (there wanted.route.hostgroup) wanted else verdicts.tells_one error.diagnostics_gone)
      by true = sent wanted
      by false = refl

  refused : (class : Class) (why : Option Refusal) (wanted : Wanted)
      → verdicts.unless_refused terms servers taking class why wanted ≡ value (judging.by_class class why wanted)
  refused class (Some refusal.SetsServer) wanted = refl
  refused class (Some refusal.NamesConnection) wanted = refl
  refused class (Some refusal.ReadsLast) wanted = refl
  refused class None wanted = by (verdicts.is_connection_id class.shape)
    where
      by : (asks : Bool)
          → (if asks then verdicts.tells_one error.names_connection else verdicts.unless_gone terms servers taking class wanted)
          ≡ value (if asks then judging.answers_one error.names_connection else judging.Sends (Some class) wanted)
      by true = refl
      by false = gone class wanted

  -- a text that is asked, and one that is to be prepared

  ruled-asked : (routed : Routed) (why : Option Stop)
      → verdicts.ruled terms servers taking routed 0 None why
      ≡ value (judging.ruled terms.router.reads caller standing routed None why)
  ruled-asked routed None = refused (terms.router.reads.class routed.text) (terms.router.reads.class routed.text).refusal _
  ruled-asked routed (Some (stop.Error text)) = refl
  ruled-asked routed (Some (stop.Ok text)) = refl

  ruled-prepared : (routed : Routed) (number : ℕ) (why : Option Stop)
      → verdicts.ruled terms servers taking routed number (Some (record { text = routed.text; place = caller.place })) why
      ≡ value (judging.ruled terms.router.reads caller standing routed (Some number) why)
  ruled-prepared routed number None = refused (terms.router.reads.class routed.text) (terms.router.reads.class routed.text).refusal _
  ruled-prepared routed number (Some (stop.Error text)) = refl
  ruled-prepared routed number (Some (stop.Ok text)) = refl

  -- the flag behind a message of this kind
  abbrev flag_by : Kind → ℕ
  flag_by kind = if verdicts.is_restart kind then 0
      else option_map_or (λ text. unwrap_or (verdicts.pass_of terms flag taking text).next_flag flag) (verdicts.text_passed terms taking kind) flag

  -- both sides of a message of this kind, with the flag behind it
  pub record IsSame (kind : Kind) (found : Judged) : Type 0 where
    pub verdict : verdicts.verdict_by terms servers flag taking kind ≡ value found.draft
    pub flag_is : flag_by kind ≡ found.flag

  asked : (text : List ℕ) → IsSame (verdicts.Asks text) (judging.asks terms.router.reads terms.router.rules caller standing text)
  asked text = record { verdict = by (verdicts.is_connection_id (terms.router.reads.class text).shape); flag_is = flags (verdicts.is_connection_id (terms.router.reads.class text).shape) }
    where
      routed : Routed
      routed = verdicts.pass_of terms flag taking text

      by : (asks : Bool)
          → (if asks then verdicts.connection_id terms taking else verdicts.ruled terms servers taking routed 0 None routed.stop)
          ≡ value (if asks then judging.still caller (judging.connection_id caller standing) else judging.by_pass terms.router.reads caller standing routed None).draft
      by true = refl
      by false = ruled-asked routed routed.stop

      flags : (asks : Bool)
          → option_map_or (λ tx. unwrap_or (verdicts.pass_of terms flag taking tx).next_flag flag) (if asks then None else Some text) flag
          ≡ (if asks then judging.still caller (judging.connection_id caller standing) else judging.by_pass terms.router.reads caller standing routed None).flag
      flags true = refl
      flags false = refl

  prepared_as : (text : List ℕ) → IsSame (verdicts.Prepares text) (judging.prepares terms.router.reads terms.router.rules caller standing text standing.next_number)
  prepared_as text = record { verdict = by full; flag_is = flags full }
    where
      full : Bool
      full = is_full (view_of (setup_in terms) taking.tale) (plan_in terms) taking.client (ordinal_of taking)

      next : ℕ
      next = next_number (view_of (setup_in terms) taking.tale) (plan_in terms) taking.client (ordinal_of taking)

      routed : Routed
      routed = verdicts.pass_of terms flag taking text

      by : (f : Bool)
          → (if f then verdicts.tells_one error.too_many_statements
          else verdicts.ruled terms servers taking routed next (Some (record { text = routed.text; place = caller.place })) routed.stop)
          ≡ value (judging.prepares terms.router.reads terms.router.rules caller standing text (if f then None else Some next)).draft
      by true = refl
      by false = ruled-prepared routed next routed.stop

      flags : (f : Bool)
          → option_map_or (λ tx. unwrap_or (verdicts.pass_of terms flag taking tx).next_flag flag) (if f then None else Some text) flag
          ≡ (judging.prepares terms.router.reads terms.router.rules caller standing text (if f then None else Some next)).flag
      flags true = refl
      flags false = refl

  -- an execute of a statement that the client knows

  ran : (known : executes.Prepared) (prepared : Prepared) (number : ℕ) → IsPrepared terms taking number known prepared
      → verdicts.run_by terms servers taking known ≡ value (judging.runs caller standing (Some prepared))
  ran known prepared number is =
      rw (is.went, is.key, sym is.class, sym is.hostgroup, sym is.multiplex) (refused prepared.class prepared.class.refusal (record {
        route = record (verdicts.plain_route (unwrap_or standing.transaction prepared.hostgroup)) { multiplex = prepared.multiplex };
        key = judging.run_key caller prepared;
      }))

  read : (known : executes.Prepared) (prepared : Prepared) (number : ℕ) (payload : List ℕ) → IsPrepared terms taking number known prepared
      → {meant : Result Meaning CommandFault} {whole : Bool} → IsRead number meant whole
      → IsSame (if whole then verdicts.Executes known else verdicts.Malformed)
      (judging.by_parsed terms.router.reads terms.router.rules caller standing (Some prepared) com_execute meant)
  read known prepared number payload is (Whole types nulls values) = record { verdict = ran known prepared number is; flag_is = refl }
  read known prepared number payload is (Faulty why plain) = record { verdict = told why plain; flag_is = refl }
    where
      told : (why : CommandFault) → is_unknown why ≡ false
          → verdicts.tells_one malformed_command ≡ value (judging.faulty com_execute why)
      told fault.Empty plain = refl
      told (fault.Short at) plain = refl
      told (fault.UnknownStatement id) plain = absurd (true≢false plain)
      told fault.TypesMissing plain = refl

  -- whether the promise has it whole
  whole-same : (known : executes.Prepared) (prepared : Prepared) (number : ℕ) (payload : List ℕ) → IsPrepared terms taking number known prepared
      → is_whole_execute (plan_in terms) taking.client (ordinal_of taking) number known payload
      ≡ is_whole (record { params = prepared.params; bound = prepared.bound }) payload
  whole-same known prepared number payload is =
      rw (is.params, is.bound) (lacks-same known.params payload (bound_in terms taking number known).types)

  executed_as : (number : ℕ) (payload : List ℕ) (known : Option executes.Prepared) (prepared : Option Prepared) → IsPreparedOr terms taking number known prepared
      → IsSame (verdicts.executed (plan_in terms) taking.client (ordinal_of taking) number payload known)
      (judging.by_parsed terms.router.reads terms.router.rules caller standing prepared com_execute (of_known number (judging.known_of prepared) (execute_by payload number)))
  executed_as number payload None prepared is = rw is (record { verdict = refl; flag_is = refl })
  executed_as number payload (Some known) None is = absurd is
  executed_as number payload (Some known) (Some prepared) is =
      rw (whole-same known prepared number payload is) (read known prepared number payload is (reads number (record { params = prepared.params; bound = prepared.bound }) payload))

  -- a STMT_RESET
  reset_as : (number : ℕ) (payload : List ℕ) (known : Option executes.Prepared) (prepared : Option Prepared) → IsPreparedOr terms taking number known prepared
      → IsSame (if is_some known then verdicts.ResetsStatement else verdicts.Unprepared number)
      (judging.by_parsed terms.router.reads terms.router.rules caller standing prepared com_statement_reset
      (of_known number (judging.known_of prepared) (λ k. Ok (meaning.ResetStmt number))))
  reset_as number payload None prepared is = rw is (record { verdict = refl; flag_is = refl })
  reset_as number payload (Some known) None is = absurd is
  reset_as number payload (Some known) (Some prepared) is = record { verdict = refl; flag_is = refl }

  -- By the message's bytes.

  abbrev kind_at : List ℕ → Kind
  kind_at payload = verdicts.kind_of (view_of (setup_in terms) taking.tale) (plan_in terms) taking.client (ordinal_of taking) payload

  abbrev Names : List ℕ → Option Prepared → Type 0
  Names payload prepared =
      (number : ℕ) → number_at 4 1 payload ≡ Some number
      → IsPreparedOr terms taking number
      (known_statement (view_of (setup_in terms) taking.tale) (plan_in terms) taking.client number (ordinal_of taking)) prepared

  module _ (prepared : Option Prepared) where
    abbrev Same : List ℕ → Type 0
    Same payload = IsSame (kind_at payload) (judged terms.router.reads terms.router.rules caller standing prepared payload)

    -- a command by the number behind its byte, where the number is there, and where it isn't
    executes-so : (rest : List ℕ) → Names (com_execute ∷ rest) prepared → (number : Option ℕ) → number_at 4 1 (com_execute ∷ rest) ≡ number → Same (com_execute ∷ rest)
    executes-so rest names None is =
        rw is (record { verdict = refl; flag_is = refl })
    executes-so rest names (Some number) is =
        rw is (executed_as number (com_execute ∷ rest) _ prepared (names number is))

    resets-so : (rest : List ℕ) → Names (com_statement_reset ∷ rest) prepared → (number : Option ℕ) → number_at 4 1 (com_statement_reset ∷ rest) ≡ number → Same (com_statement_reset ∷ rest)
    resets-so rest names None is =
        rw is (record { verdict = refl; flag_is = refl })
    resets-so rest names (Some number) is =
        rw is (reset_as number (com_statement_reset ∷ rest) _ prepared (names number is))

    fetches-so : (rest : List ℕ) → (number : Option ℕ) → number_at 4 1 (verdicts.com_fetch ∷ rest) ≡ number → Same (verdicts.com_fetch ∷ rest)
    fetches-so rest None is =
        rw is (record { verdict = refl; flag_is = refl })
    fetches-so rest (Some number) is =
        rw is (record { verdict = refl; flag_is = refl })

    -- these have no answer, whole or not
    closes-so : (rest : List ℕ) → (number : Option ℕ) → number_at 4 1 (com_close ∷ rest) ≡ number → Same (com_close ∷ rest)
    closes-so rest None is = rw (numbered-none (com_close ∷ rest) (λ id. Ok (meaning.Close id)) is) (record { verdict = refl; flag_is = refl })
    closes-so rest (Some number) is = rw (numbered-some (com_close ∷ rest) (λ id. Ok (meaning.Close id)) number is) (record { verdict = refl; flag_is = refl })

    silent : (byte : ℕ) (meant : Result Meaning CommandFault) → has_no_reply byte ≡ true → IsSilent meant
        → IsSame verdicts.Silent (judging.by_parsed terms.router.reads terms.router.rules caller standing prepared byte meant)
    silent byte (Ok (meaning.LongData id parameter bytes)) no_reply is = record { verdict = refl; flag_is = refl }
    silent byte (Err fault.Empty) no_reply is = rw no_reply (record { verdict = refl; flag_is = refl })
    silent byte (Err (fault.Short at)) no_reply is = rw no_reply (record { verdict = refl; flag_is = refl })
    silent byte (Err fault.TypesMissing) no_reply is = rw no_reply (record { verdict = refl; flag_is = refl })
    silent byte _ no_reply is = absurd is

    same : (payload : List ℕ) → Names payload prepared → Same payload
    same [] names = record { verdict = refl; flag_is = refl }
    same (byte ∷ rest) names =
        split byte com_query (λ is. moved is (asked rest))
        (λ query. split byte com_prepare (λ is. moved is (prepared_as rest))
        (λ prepare. split byte com_init_db (λ is. moved is (record { verdict = sent _; flag_is = refl }))
        (λ init. split byte com_field_list (λ is. moved is (record { verdict = sent _; flag_is = refl }))
        (λ fields. split byte verdicts.com_quit (λ is. moved is (record { verdict = refl; flag_is = refl }))
        (λ quit. split byte verdicts.com_ping (λ is. moved is (record { verdict = refl; flag_is = refl }))
        (λ ping. split byte com_reset (λ is. moved is (record { verdict = refl; flag_is = refl }))
        (λ reset. split byte com_long_data (λ is. moved is (silent com_long_data _ refl (long-silent (com_long_data ∷ rest))))
        (λ long. split byte com_close (λ is. moved is (closes-so rest _ refl))
        (λ close. split byte com_execute (λ is. moved is (executes-so rest (λ number at. names number (ap (λ b. number_at 4 1 (b ∷ rest)) is ∙ at)) _ refl))
        (λ execute. split byte verdicts.com_fetch (λ is. moved is (fetches-so rest _ refl))
        (λ fetch. split byte com_statement_reset (λ is. moved is (resets-so rest (λ number at. names number (ap (λ b. number_at 4 1 (b ∷ rest)) is ∙ at)) _ refl))
        (λ resets. rw (query, prepare, init, fields, quit, ping, reset, long, close, execute, fetch, resets) (record { verdict = refl; flag_is = refl })))))))))))))
      where
        moved : {k : ℕ} → byte ≡ k → Same (k ∷ rest) → Same (byte ∷ rest)
        moved is so = subst (λ b. Same (b ∷ rest)) (sym is) so

-- For the caller that the code has.

caller-is : (terms : Terms) (servers : List Server) (flag : ℕ) (taking : Taking) (other : Caller) → IsCaller terms flag taking other → other ≡ caller terms servers flag taking
caller-is terms servers flag taking other is =
    ap (λ (n : ClientNo). record other { number = n }) is.number
    ∙ ap (λ (u : List ℕ). record other { number = taking.client.number; user = u }) is.user
    ∙ ap (λ (h : Hostgroup). record other { number = taking.client.number; user = user_in terms taking; home = h }) is.home
    ∙ ap (λ (p : Place). record other { number = taking.client.number; user = user_in terms taking; home = home_of terms.router (user_in terms taking); place = p }) is.place
    ∙ ap (λ (f : ℕ). record other { number = taking.client.number; user = user_in terms taking; home = home_of terms.router (user_in terms taking); place = (view_of (setup_in terms) taking.tale).places taking.client.number; flag = f }) is.flag_is
    ∙ ap (λ (l : Option Hostgroup). record (caller terms servers flag taking) { last = l }) is.last

standing-is : (terms : Terms) (servers : List Server) (flag : ℕ) (taking : Taking) (other : Standing) → Stands terms taking other → other ≡ standing terms servers flag taking
standing-is terms servers flag taking other is =
    ap (λ (h : Option Hostgroup). record other { transaction = h }) is.transaction
    ∙ ap (λ (n : Option ℕ). record (standing terms servers flag taking) { next_number = n }) is.next_number

pub judged-so : (terms : Terms) (servers : List Server) (flag : ℕ) (taking : Taking) (other : Caller) (how : Standing) (prepared : Option Prepared)
    → IsCaller terms flag taking other → Stands terms taking how → IsNamed terms taking prepared
    → IsSame terms servers flag taking (kind_in terms taking) (judged terms.router.reads terms.router.rules other how prepared taking.message.payload)
judged-so terms servers flag taking other how prepared is stands names =
    rw (caller-is terms servers flag taking other is, standing-is terms servers flag taking how stands) (same terms servers flag taking prepared taking.message.payload names)
