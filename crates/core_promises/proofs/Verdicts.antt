-- What the verdict says of a message, by its first byte.
use Rattle.std.specs.Prelude.{◌≡◌, ◌⊎◌, ◌||◌, ℕ, suc, Bool, true, false, drop, nat_eq, slice_index_or, length, List, [], ◌∷◌, Option, Some, None, Result, Ok, Err, refl, if◌then◌else◌, unwrap_or}
use Rattle.std.proofs.Common.{sym, ap, subst, ◌∙◌, inl, inr}
use Rattle.mx_wire.specs.Log.{Log}
use Rattle.client_session.specs.Errors.{malformed_command}
use Rattle.command_parse.specs.Meaning as meaning
use Rattle.command_parse.specs.Meaning.{Meaning, has_no_reply}
use Rattle.command_parse.specs.declared.fault.CommandFault.{CommandFault}
use Rattle.command_parse.specs.declared.fault.CommandFault.TheVariants as fault
use Rattle.pin_classifier.specs.Classes.{class_of}
use Rattle.pin_classifier.specs.declared.class.Class.{Class}
use Rattle.pin_classifier.specs.declared.class.Refusal.{Refusal}
use Rattle.pin_classifier.specs.declared.class.Refusal.TheVariants as refusal
use Rattle.query_rules.specs.Effects.{is_first_flag}
use Rattle.query_rules.specs.Passing.{route_of}
use Rattle.query_rules.specs.declared.ask.Ask.{Ask}
use Rattle.query_rules.specs.declared.ask.Routed.{Routed}
use Rattle.query_rules.specs.declared.ask.Stop.{Stop}
use Rattle.query_rules.specs.declared.ask.Stop.TheVariants as stop
use Rattle.query_rules.specs.declared.rule.Rule.{Rule}
use Rattle.reply_text.specs.Replies.{ok_payload}
use Rattle.server_rule.specs.Classes.{router_reads}
use Rattle.session_state.specs.Pins.{reads_own}
use Rattle.session_state.specs.declared.pin.Pin.{Pin}
use Rattle.session_state.specs.declared.place.Place.{Place}
use Rattle.private_model.specs.Names.{ClientNo, MessageName}
use Rattle.private_model.specs.Story.{Key}
use Rattle.private_model.specs.View.{Setup}
use Rattle.log_story.specs.Owed.{name_of}
use Rattle.log_story.specs.Plan.{Plan, Route, com_execute, com_field_list, com_init_db, com_long_data, com_prepare, com_query, com_reset, com_statement_reset}
use Rattle.log_story.specs.Tale.{Client}
use Rattle.router_promises.proofs.Refusals.{never}
use Rattle.router_promises.specs.Errors as error
use Rattle.router_promises.specs.Statements.{com_close}
use Rattle.router_promises.specs.Terms.{Terms, plan_in, setup_in, tale_at}
use Rattle.router_promises.specs.Verdicts.{Goes, Parts, Tells, Verdict, Wanted, com_fetch, com_ping, com_quit, is_connection_id, plain_route}
use Rattle.message_judge.specs.Judging as judging
use Rattle.message_judge.proofs.Commands.{split}
use Rattle.message_judge.specs.declared.caller.Prepared.{Prepared}
use Rattle.core_promises.specs.Asks.{AsksOwnOf, AsksSo, IsRewritten, IsTextOf}
use Rattle.core_promises.specs.Judges.{AreJudged, IsJudged, IsRoutedFor, IsVerdictFor, JudgesSo, Knowledge, Rulebook, Situation, rulebook_of, situation_of, verdict_on, book_for}
use Rattle.core_promises.specs.Wrong.{is_for_servers}
use Rattle.core_promises.proofs.Commands.{IsRunOnly, IsUnsent, close-unsent, execute-runs, fetch-unsent, long-unsent, reset-unsent}
use Rattle.core_promises.proofs.Wanted.{OfGoing, OfSending, classed as classed_so, drafted as admitted_so}

-- a query, or a text to be prepared
abbrev pub is_text_byte : (byte : ℕ) → Bool
is_text_byte byte = nat_eq byte com_query || nat_eq byte com_prepare

-- What goes to a server is a query or a text to be prepared, as a text that isn't refused, and that no rule answers; or the choice of a schema, the
-- question for a table's columns, or an execute.

pub record IsPassed (rules : List Rule) (user schema payload text : List ℕ) : Type 0 where
  pub asks : is_text_byte (slice_index_or payload 0 0) ≡ true
  pub made : IsRewritten rules payload text
  pub login : made.ask.user ≡ user
  pub placed : made.ask.schema ≡ schema
  pub free : (class_of text).refusal ≡ None
  pub flag : is_first_flag rules made.ask.flag ≡ true
  pub unstopped : (route_of rules made.ask).stop ≡ None

abbrev pub GoesSo : List Rule → (user schema payload : List ℕ) → Option (List ℕ) → Type 0
GoesSo rules user schema payload None =
    (nat_eq (slice_index_or payload 0 0) com_init_db
    || (nat_eq (slice_index_or payload 0 0) com_field_list || nat_eq (slice_index_or payload 0 0) com_execute))
    ≡ true
GoesSo rules user schema payload (Some text) = IsPassed rules user schema payload text

abbrev pub IsSo : List Rule → (user schema payload : List ℕ) → Verdict → Type 0
IsSo rules user schema payload verdict = OfGoing (λ (wanted : Wanted). GoesSo rules user schema payload wanted.route.text) verdict

abbrev IsDraft : List Rule → (user schema payload : List ℕ) → judging.Draft → Type 0
IsDraft rules user schema payload draft = OfSending (λ (wanted : Wanted). GoesSo rules user schema payload wanted.route.text) draft

-- A query that goes to no server is answered by an error, by a rule's OK, or by more than one payload.

pub record IsByRule (rules : List Rule) (user schema text payload : List ℕ) : Type 0 where
  pub ask : Ask
  pub own : ask.text ≡ text
  pub login : ask.user ≡ user
  pub placed : ask.schema ≡ schema
  pub flag : is_first_flag rules ask.flag ≡ true
  pub said : List ℕ
  pub stops : (route_of rules ask).stop ≡ Some (stop.Ok said)
  pub status : ℕ
  pub is : payload ≡ ok_payload status said

abbrev pub AnswersSo : List Rule → (user schema text : List ℕ) → (payloads : List (List ℕ)) → Type 0
AnswersSo rules user schema text [] = ⊥
AnswersSo rules user schema text (payload ∷ []) = (slice_index_or payload 0 0 ≡ 255) ⊎ IsByRule rules user schema text payload
AnswersSo rules user schema text (payload ∷ other ∷ payloads) = Unit {0}

abbrev pub IsToldSo : List Rule → (user schema text : List ℕ) → Verdict → Type 0
IsToldSo rules user schema text Parts = ⊥
IsToldSo rules user schema text (Tells payloads) = AnswersSo rules user schema text payloads
IsToldSo rules user schema text (Goes wanted) = Unit {0}

abbrev IsToldDraft : List Rule → (user schema text : List ℕ) → judging.Draft → Type 0
IsToldDraft rules user schema text judging.Ends = ⊥
IsToldDraft rules user schema text (judging.Answers payloads) = AnswersSo rules user schema text payloads
IsToldDraft rules user schema text (judging.Sends class wanted) = Unit {0}

pub record IsPlainOk (payloads : List (List ℕ)) : Type 0 where
  pub status : ℕ
  pub is : payloads ≡ ok_payload status [] ∷ []

abbrev IsPinged : Verdict → Type 0
IsPinged (Tells payloads) = IsPlainOk payloads
IsPinged _ = ⊥

-- where a server isn't there
abbrev pub IsRefusing : Verdict → Type 0
IsRefusing (Tells (payload ∷ [])) = slice_index_or payload 0 0 ≡ 255
IsRefusing (Goes wanted) = Unit {0}
IsRefusing _ = ⊥

sent-refusing : (there : Bool) (wanted : Wanted) → IsRefusing (judging.sent_unless there wanted)
unfolding error.no_server_in
sent-refusing true wanted = tt
sent-refusing false wanted = refl

module _ (rules : List Rule) (known : Knowledge) (flagged : is_first_flag rules known.caller.flag ≡ true) where
  abbrev user : List ℕ
  user = known.caller.user

  abbrev schema : List ℕ
  schema = known.caller.place.schema

  -- of a draft, as it is admitted

  drafted : (payload : List ℕ) (draft : judging.Draft) → IsDraft rules user schema payload draft → IsSo rules user schema payload (judging.verdict_by known.pins known.is_there draft)
  drafted payload draft so = admitted_so (λ (wanted : Wanted). GoesSo rules user schema payload wanted.route.text) known.pins known.is_there draft so

  sent-told : (text : List ℕ) (there : Bool) (wanted : Wanted) → IsToldSo rules user schema text (judging.sent_unless there wanted)
  unfolding error.no_server_in
  sent-told text true wanted = tt
  sent-told text false wanted = inl refl

  admitted-told : (text : List ℕ) (class : Option Class) (pin : Pin) (there : Bool) (wanted : Wanted) → IsToldSo rules user schema text (judging.admitted class pin there wanted)
  unfolding error.diagnostics_gone
  admitted-told text None pin there wanted = sent-told text there wanted
  admitted-told text (Some class) pin there wanted = by (reads_own class pin) where
    by : (own : Bool) → IsToldSo rules user schema text (if own then judging.sent_unless there wanted else Tells (error.diagnostics_gone ∷ []))
    by true = sent-told text there wanted
    by false = inl refl

  drafted-told : (text : List ℕ) (draft : judging.Draft) → IsToldDraft rules user schema text draft → IsToldSo rules user schema text (judging.verdict_by known.pins known.is_there draft)
  drafted-told text judging.Ends so = so
  drafted-told text (judging.Answers payloads) so = so
  drafted-told text (judging.Sends class wanted) so = admitted-told text class _ _ wanted

  -- a query, or a text to be prepared, by the class of its text and by the rules

  classed : (payload text : List ℕ) (why : Option Refusal) (wanted : Wanted) → is_text_byte (slice_index_or payload 0 0) ≡ true
      → (class_of text).refusal ≡ why → wanted.route.text ≡ Some text → (made : IsRewritten rules payload text) → made.ask.user ≡ user → made.ask.schema ≡ schema
      → is_first_flag rules made.ask.flag ≡ true → (route_of rules made.ask).stop ≡ None
      → IsDraft rules user schema payload (judging.by_class (class_of text) why wanted)
  classed payload text why wanted asks is text_is made login placed flag unstopped =
      classed_so (λ (w : Wanted). GoesSo rules user schema payload w.route.text) (class_of text) why wanted
      (λ free named.
      subst (GoesSo rules user schema payload) (sym text_is)
      (record { asks = asks; made = made; login = login; placed = placed; free = is ∙ free; flag = flag; unstopped = unstopped }))

  same-text : (routed : Routed) (number : Option ℕ) (wanted : Wanted) → (judging.prepares_as known.caller routed number wanted).route.text ≡ wanted.route.text
  same-text routed None wanted = refl
  same-text routed (Some number) wanted = refl

  ruled : (payload : List ℕ) → is_text_byte (slice_index_or payload 0 0) ≡ true → (ask : Ask) → ask.text ≡ drop 1 payload → (number : Option ℕ) (why : Option Stop)
      → ask.user ≡ user → ask.schema ≡ schema → is_first_flag rules ask.flag ≡ true → (route_of rules ask).stop ≡ why
      → IsDraft rules user schema payload (judging.ruled router_reads known.caller known.standing (route_of rules ask) number why)
  unfolding router_reads
  ruled payload asks ask own number None login placed flag is =
      classed payload (route_of rules ask).text (class_of (route_of rules ask).text).refusal _ asks refl (same-text (route_of rules ask) number _)
      (record { ask = ask; own = own; is = refl }) login placed flag is
  ruled payload asks ask own number (Some (stop.Error text)) login placed flag is = tt
  ruled payload asks ask own number (Some (stop.Ok text)) login placed flag is = tt

  -- a command for a prepared statement

  faulty-so : (payload : List ℕ) (byte : ℕ) (why : CommandFault) → IsDraft rules user schema payload (judging.faulty byte why)
  faulty-so payload byte why = by why where
    silent : (none : Bool) → IsDraft rules user schema payload (if none then judging.Answers [] else judging.answers_one malformed_command)
    silent true = tt
    silent false = tt

    by : (why : CommandFault) → IsDraft rules user schema payload (judging.faulty byte why)
    by (fault.UnknownStatement id) = tt
    by fault.Empty = silent (has_no_reply byte)
    by (fault.Short at) = silent (has_no_reply byte)
    by fault.TypesMissing = silent (has_no_reply byte)

  -- those that the router answers itself
  unsent : (payload : List ℕ) (byte : ℕ) (read : Result Meaning CommandFault) → IsUnsent read
      → IsDraft rules user schema payload (judging.by_parsed router_reads rules known.caller known.standing known.prepared byte read).draft
  unsent payload byte (Err why) is = faulty-so payload byte why
  unsent payload byte (Ok (meaning.LongData id parameter bytes)) is = tt
  unsent payload byte (Ok (meaning.Close id)) is = tt
  unsent payload byte (Ok (meaning.ResetStmt id)) is = tt
  unsent payload byte (Ok (meaning.Fetch id)) is = tt
  unsent payload byte (Ok _) is = absurd is

  -- an execute
  run-so : (rest : List ℕ) (prepared : Option Prepared) → IsDraft rules user schema (com_execute ∷ rest) (judging.runs known.caller known.standing prepared)
  run-so rest None = tt
  run-so rest (Some prepared) =
      classed_so (λ (w : Wanted). GoesSo rules user schema (com_execute ∷ rest) w.route.text) prepared.class prepared.class.refusal _ (λ free named. refl)

  runs-only : (rest : List ℕ) (read : Result Meaning CommandFault) → IsRunOnly read
      → IsDraft rules user schema (com_execute ∷ rest) (judging.by_parsed router_reads rules known.caller known.standing known.prepared com_execute read).draft
  runs-only rest (Err why) is = faulty-so (com_execute ∷ rest) com_execute why
  runs-only rest (Ok (meaning.Execute id types nulls values)) is = run-so rest known.prepared
  runs-only rest (Ok _) is = absurd is

  classed-told : (text : List ℕ) (class : Class) (why : Option Refusal) (wanted : Wanted) → IsToldDraft rules user schema text (judging.by_class class why wanted)
  unfolding error.sets_server error.names_connection error.diagnostics_gone
  classed-told text class (Some refusal.SetsServer) wanted = inl refl
  classed-told text class (Some refusal.NamesConnection) wanted = inl refl
  classed-told text class (Some refusal.ReadsLast) wanted = inl refl
  classed-told text class None wanted = by (is_connection_id class.shape) where
    by : (asks : Bool) → IsToldDraft rules user schema text (if asks then judging.answers_one error.names_connection else judging.Sends (Some class) wanted)
    by true = inl refl
    by false = tt

  ruled-told : (ask : Ask) (why : Option Stop) → ask.user ≡ user → ask.schema ≡ schema → is_first_flag rules ask.flag ≡ true → (route_of rules ask).stop ≡ why
      → IsToldDraft rules user schema ask.text (judging.ruled router_reads known.caller known.standing (route_of rules ask) None why)
  unfolding error.refused_by_rule
  ruled-told ask None login placed flag is =
      let class : Class = router_reads.class (route_of rules ask).text in
      let wanted : Wanted = record {
        route = record (plain_route (judging.hostgroup_for known.caller known.standing class (route_of rules ask).hostgroup)) {
          text = Some (route_of rules ask).text;
          multiplex = (route_of rules ask).multiplex;
        };
        key = None;
      } in
      classed-told ask.text class class.refusal wanted
  ruled-told ask (Some (stop.Error text)) login placed flag is = inl refl
  ruled-told ask (Some (stop.Ok text)) login placed flag is =
      inr (record {
        ask = ask;
        own = refl;
        login = login;
        placed = placed;
        flag = flag;
        said = text;
        stops = is;
        status = judging.own_status known.caller known.standing;
        is = refl;
      })

  module _ (text : List ℕ) where
    abbrev ask : Ask
    ask = record { user = known.caller.user; schema = known.caller.place.schema; flag = known.caller.flag; text = text; default_hostgroup = known.caller.home }

    abbrev asked_by : Bool → judging.Judged
    asked_by asks =
        if asks then judging.still known.caller (judging.connection_id known.caller known.standing)
        else judging.by_pass router_reads known.caller known.standing (judging.pass_of rules known.caller text) None

    asked : IsDraft rules user schema (com_query ∷ text) (judging.asks router_reads rules known.caller known.standing text).draft
    asked = by (is_connection_id (router_reads.class text).shape) where
      by : (asks : Bool) → IsDraft rules user schema (com_query ∷ text) (asked_by asks).draft
      by true = tt
      by false = ruled (com_query ∷ text) refl ask refl None (route_of rules ask).stop refl refl flagged refl

    prepared : (number : Option ℕ) → IsDraft rules user schema (com_prepare ∷ text) (judging.prepares router_reads rules known.caller known.standing text number).draft
    prepared None = tt
    prepared (Some number) = ruled (com_prepare ∷ text) refl ask refl (Some number) (route_of rules ask).stop refl refl flagged refl

    asked-told : IsToldDraft rules user schema text (judging.asks router_reads rules known.caller known.standing text).draft
    asked-told = by (is_connection_id (router_reads.class text).shape) where
      by : (asks : Bool) → IsToldDraft rules user schema text (asked_by asks).draft
      by true = tt
      by false = ruled-told ask (route_of rules ask).stop refl refl flagged refl

  -- of any message

  judged-so : (payload : List ℕ) → IsSo rules user schema payload (verdict_on rules known payload)
  judged-so [] = tt
  judged-so (byte ∷ rest) =
      split byte com_query (λ is. moved is (drafted (com_query ∷ rest) _ (asked rest)))
      (λ query. split byte com_init_db (λ is. moved is (drafted (com_init_db ∷ rest) (judging.plain known.caller known.standing) refl))
      (λ init. split byte com_field_list (λ is. moved is (drafted (com_field_list ∷ rest) (judging.plain known.caller known.standing) refl))
      (λ fields. split byte com_quit (λ is. moved is tt)
      (λ quit. split byte com_ping (λ is. moved is tt)
      (λ ping. split byte com_prepare (λ is. moved is (drafted (com_prepare ∷ rest) _ (prepared rest known.standing.next_number)))
      (λ prepare. split byte com_execute (λ is. moved is (drafted (com_execute ∷ rest) _ (runs-only rest _ (execute-runs (judging.known_of known.prepared) (com_execute ∷ rest)))))
      (λ execute. split byte com_long_data (λ is. moved is (drafted (com_long_data ∷ rest) _ (unsent (com_long_data ∷ rest) com_long_data _ (long-unsent (com_long_data ∷ rest)))))
      (λ long. split byte com_close (λ is. moved is (drafted (com_close ∷ rest) _ (unsent (com_close ∷ rest) com_close _ (close-unsent (com_close ∷ rest)))))
      (λ close. split byte com_statement_reset
      (λ is. moved is (drafted (com_statement_reset ∷ rest) _ (unsent (com_statement_reset ∷ rest) com_statement_reset _ (reset-unsent (judging.known_of known.prepared) (com_statement_reset ∷ rest)))))
      (λ resets. split byte com_fetch (λ is. moved is (drafted (com_fetch ∷ rest) _ (unsent (com_fetch ∷ rest) com_fetch _ (fetch-unsent (com_fetch ∷ rest)))))
      (λ fetch. split byte com_reset (λ is. moved is tt)
      (λ reset. rw (query, init, fields, quit, ping, prepare, execute, long, close, resets, fetch, reset) tt))))))))))))
    where
      moved : {k : ℕ} → byte ≡ k → IsSo rules user schema (k ∷ rest) (verdict_on rules known (k ∷ rest)) → IsSo rules user schema (byte ∷ rest) (verdict_on rules known (byte ∷ rest))
      moved is so = subst (λ b. IsSo rules user schema (b ∷ rest) (verdict_on rules known (b ∷ rest))) (sym is) so

  query-told : (text : List ℕ) → IsToldSo rules user schema text (verdict_on rules known (com_query ∷ text))
  query-told text = drafted-told text (judging.asks router_reads rules known.caller known.standing text).draft (asked-told text)

or-left : (a b : Bool) → a ≡ true → (a || b) ≡ true
or-left true b is = refl
or-left false b is = never (sym is)

or-right : (a b : Bool) → b ≡ true → (a || b) ≡ true
or-right true b is = refl
or-right false b is = is

-- by no other command
pub goes-not : {A : Type 0} (rules : List Rule) (user schema payload : List ℕ) (text : Option (List ℕ)) → GoesSo rules user schema payload text → is_for_servers (slice_index_or payload 0 0) ≡ false → A
goes-not rules user schema payload None so other = never (sym (or-right (is_text_byte (slice_index_or payload 0 0)) _ so) ∙ other)
goes-not rules user schema payload (Some text) so other = never (sym (or-left (is_text_byte (slice_index_or payload 0 0)) _ so.asks) ∙ other)

-- for something that is known

module _ (book : Rulebook) (situation : Situation) (c : ClientNo) where
  abbrev whose : List ℕ
  whose = situation.user

  abbrev where_it_stands : List ℕ
  where_it_stands = situation.place.schema

  pub goes-so : (keys : (key : ℕ) → Option Key) (payload : List ℕ) (route : Route) → IsRoutedFor book situation keys c payload route
      → GoesSo book.rules whose where_it_stands payload route.text
  goes-so keys payload route routed =
      let for : IsVerdictFor book situation c payload (Goes routed.wanted) = routed.is in
      subst (λ (place : Place). GoesSo book.rules whose place.schema payload route.text) for.place
      (subst (λ (u : List ℕ). GoesSo book.rules u for.known.caller.place.schema payload route.text) for.login
      (subst (GoesSo book.rules for.known.caller.user for.known.caller.place.schema payload) (ap (λ (r : Route). r.text) routed.routed)
      (subst (IsSo book.rules for.known.caller.user for.known.caller.place.schema payload) (sym for.is) (judged-so book.rules for.known for.flag payload))))

  pub answers-so : (text : List ℕ) (payloads : List (List ℕ)) → IsVerdictFor book situation c (com_query ∷ text) (Tells payloads)
      → AnswersSo book.rules whose where_it_stands text payloads
  answers-so text payloads for =
      subst (λ (place : Place). AnswersSo book.rules whose place.schema text payloads) for.place
      (subst (λ (u : List ℕ). AnswersSo book.rules u for.known.caller.place.schema text payloads) for.login
      (subst (IsToldSo book.rules for.known.caller.user for.known.caller.place.schema text) (sym for.is) (query-told book.rules for.known for.flag text)))

  -- the choice of a schema is answered by a server, or refused
  pub choice-told : (schema : List ℕ) (payloads : List (List ℕ)) → IsVerdictFor book situation c (com_init_db ∷ schema) (Tells payloads)
      → IsRefusing (Tells payloads)
  choice-told schema payloads for =
      subst IsRefusing (sym for.is) (sent-refusing (for.known.is_there (unwrap_or for.known.standing.transaction for.known.caller.home)) _)

  -- a PING is answered OK, without a text
  pub ping-told : (rest : List ℕ) (payloads : List (List ℕ)) → IsVerdictFor book situation c (com_ping ∷ rest) (Tells payloads) → IsPlainOk payloads
  ping-told rest payloads for =
      subst IsPinged (sym for.is) (record { status = judging.own_status for.known.caller for.known.standing; is = refl })

  -- the text that it has
  text-so : (payload : List ℕ) (text : Option (List ℕ)) → GoesSo book.rules whose where_it_stands payload text → IsTextOf book.rules payload text
  text-so payload None so = tt
  text-so payload (Some text) so = so.made

  pub asks-text : (keys : (key : ℕ) → Option Key) (payload : List ℕ) (route : Route) → IsRoutedFor book situation keys c payload route
      → IsTextOf book.rules payload route.text
  asks-text keys payload route routed = text-so payload route.text (goes-so keys payload route routed)

-- of each client

asks-own : (book : Rulebook) (rules : MessageName → List Rule) (setup : Setup) (plan : Plan) (log : Log) (client : Client)
    → AreJudged book rules setup plan log client → AsksOwnOf rules plan client
asks-own book rules setup plan log client judged k message route within there goes =
    let is : IsJudged (book_for book rules (name_of client (suc k))) setup plan log (name_of client (suc k)) message.payload = judged k message within there in
    asks-text (book_for book rules (name_of client (suc k))) (situation_of setup plan is.taking) client.number (λ key. Some (setup.keys key)) message.payload route (is.goes route goes)

pub asks-by : (terms : Terms) (rules : MessageName → List Rule) (log : Log) → JudgesSo terms rules log → AsksSo terms rules log
asks-by terms rules log judges k d within =
    asks-own (rulebook_of terms.router) rules (setup_in terms) (plan_in terms) log (slice_index_or (tale_at terms log).clients k d)
    (judges k d within)
