-- Two plans that are the same in what a client's messages so far look up give the same verdict on its next one.
use Rattle.std.specs.Prelude.{◌≡◌, ◌+◌, ◌-◌, ℕ, suc, Bool, true, false, not, ◌&&◌, ◌||◌, is_some, nat_eq, nat_le, if◌then◌else◌, unwrap_or, length, take, List, [], ◌∷◌, ◌++◌, Option, Some, None}
use Rattle.std.specs.List.{list_any}
use Rattle.std.specs.Option.{option_and_then, option_map_or, option_or}
use Rattle.std.proofs.Common.{refl, ap, ◌∙◌, arith}
use Rattle.std.proofs.lemmas.List.{length-take}
use Rattle.mx_base.specs.declared.names.{Port.Port, Port.TheVariants.Admin, Port.TheVariants.Traffic}
use Rattle.mx_base.specs.Fields.{number_at}
use Rattle.hostgroups.specs.declared.server.Server.{Server}
use Rattle.packet_frame.specs.Packets.{Framed}
use Rattle.pin_classifier.specs.declared.class.Class.{Class}
use Rattle.pin_classifier.specs.declared.class.Refusal.{Refusal}
use Rattle.pin_classifier.specs.declared.class.Refusal.TheVariants as refusal
use Rattle.query_rules.specs.declared.ask.Routed.{Routed}
use Rattle.query_rules.specs.declared.ask.Stop.{Stop}
use Rattle.query_rules.specs.declared.ask.Stop.TheVariants as stop
use Rattle.private_model.specs.Commands.{Args, Reply, is_made}
use Rattle.private_model.specs.Story.{Key}
use Rattle.private_model.specs.Names.{LinkId}
use Rattle.private_model.specs.View.{View}
use Rattle.log_story.specs.Executes.{Prepared, args_in, prepared_by, prepared_in}
use Rattle.log_story.specs.Owed.{messages, name_of}
use Rattle.log_story.specs.Plan.{Plan, Route, com_execute, com_field_list, com_init_db, com_long_data, com_prepare, com_query, com_reset}
use Rattle.log_story.specs.Tale.{Client, view_of}
use Rattle.tale_world.specs.Served.{SameFor}
use Rattle.tale_world.proofs.Looking.{same_args, same_messages, same_prepared}
use Rattle.router_promises.specs.Statements.{are_types, between, com_close, drops, execute_size, is_byte, is_full, is_whole_execute, known_statement, next_number, numbers_given, standing}
use Rattle.router_promises.specs.Takings.{Taking}
use Rattle.router_promises.specs.Terms.{Terms, Tried, setup_in}
use Rattle.router_promises.specs.Verdicts.{Asks, Chooses, Executes, Kind, Lists, Malformed, Pings, Prepares, Quits, ResetsStatement, Restarts, Silent, Unknown, Unprepared, Verdict, Wanted}
use Rattle.router_promises.specs.Errors.{too_many_statements}
use Rattle.router_promises.specs.Verdicts.{com_fetch, connection_id, is_connection_id, tells_one, com_ping, com_quit, executed, flag_behind, hostgroup_for, is_restart, is_with_number, kind_in, kind_of, pass_of, plain_route, ruled, run_by, text_passed, transaction_in, unless_refused, unplaced, verdict, verdict_at, verdict_by, with_number}
use Rattle.shared_router.specs.Judged.{with_plan, with_rest}

module _ (client : Client) (view : View) (moment : ℕ) (p q : Plan) (same : SameFor client view moment p q) where
  abbrev ordinal : ℕ
  ordinal = suc client.taken

  said : messages p client ≡ messages q client
  said = same_messages client view moment p q same

  -- Statements.

  abbrev known_by : (number : ℕ) → List Framed → Option Prepared → Option Prepared
  known_by number ms found =
      option_and_then (λ (prepared : Prepared). if not (list_any (drops number) (between (suc prepared.ordinal) ordinal ms)) then Some prepared else None) found

  known : (number : ℕ) → known_statement view p client number ordinal ≡ known_statement view q client number ordinal
  known number =
      ap (known_by number (messages p client)) (same_prepared client view moment p q same number 1 (messages p client))
      ∙ ap (λ (ms : List Framed). known_by number ms (prepared_by view q client number 1 ms)) said

  given_one : (b : Bool) (reply : Option Reply) (r s : Option Route) → (is_some reply ≡ true → r ≡ s)
      → (if b && option_map_or is_made reply false then option_map_or (λ (route : Route). route.number ∷ []) r [] else [])
      ≡ (if b && option_map_or is_made reply false then option_map_or (λ (route : Route). route.number ∷ []) s [] else [])
  given_one b (Some reply) r s routes = ap (λ (o : Option Route). if b && is_made reply then option_map_or (λ (route : Route). route.number ∷ []) o [] else []) (routes refl)
  given_one true None r s routes = refl
  given_one false None r s routes = refl

  given : (i : ℕ) (xs : List Framed) → numbers_given view p client i xs ≡ numbers_given view q client i xs
  given i [] = refl
  given i (x ∷ xs) =
      let name = name_of client i in
      ap (λ (ns : List ℕ). ns ++ numbers_given view p client (suc i) xs) (given_one (is_byte com_prepare x.payload) (view.replies name) (p.routes name) (q.routes name) (same.routes name))
      ∙ ap (λ (ns : List ℕ). (if is_byte com_prepare x.payload && option_map_or is_made (view.replies name) false then option_map_or (λ (route : Route). route.number ∷ []) (q.routes name) [] else []) ++ ns) (given (suc i) xs)

  all_given : numbers_given view p client 1 (take (ordinal - 1) (messages p client)) ≡ numbers_given view q client 1 (take (ordinal - 1) (messages q client))
  all_given = given 1 (take (ordinal - 1) (messages p client)) ∙ ap (λ (ms : List Framed). numbers_given view q client 1 (take (ordinal - 1) ms)) said

  stands : (numbers : List ℕ) → standing view p client ordinal numbers ≡ standing view q client ordinal numbers
  stands [] = refl
  stands (number ∷ numbers) =
      ap (λ (o : Option Prepared). (if is_some o then 1 else 0) + standing view p client ordinal numbers) (known number)
      ∙ ap (λ n. (if is_some (known_statement view q client number ordinal) then 1 else 0) + n) (stands numbers)

  pub full_same : is_full view p client ordinal ≡ is_full view q client ordinal
  full_same =
      ap (λ (ns : List ℕ). nat_le 4294967295 (length ns) || nat_le 65535 (standing view p client ordinal ns)) all_given
      ∙ ap (λ n. nat_le 4294967295 (length (numbers_given view q client 1 (take (ordinal - 1) (messages q client)))) || nat_le 65535 n)
      (stands (numbers_given view q client 1 (take (ordinal - 1) (messages q client))))

  pub number_same : next_number view p client ordinal ≡ next_number view q client ordinal
  number_same = ap (λ (ns : List ℕ). suc (length ns)) all_given

  whole_same : (number : ℕ) (prepared : Prepared) (payload : List ℕ)
      → is_whole_execute p client ordinal number prepared payload ≡ is_whole_execute q client ordinal number prepared payload
  whole_same number prepared payload =
      ap (λ (args : Args). nat_le (execute_size prepared.params payload) (length payload) && not (not (nat_eq prepared.params 0) && not (are_types prepared.params args.types)))
      (same_args client view moment p q same prepared.params number prepared.ordinal (take (ordinal - 1) (messages p client)) payload (omega (arith, length-take (ordinal - 1) (messages p client)))
      ∙ ap (λ (ms : List Framed). args_in prepared.params number (λ i. not (is_some (q.routes (name_of client i)))) prepared.ordinal (take (ordinal - 1) ms) payload) said)

  -- What a message is.

  executed_same : (number : ℕ) (payload : List ℕ) (found : Option Prepared) → executed p client ordinal number payload found ≡ executed q client ordinal number payload found
  executed_same number payload None = refl
  executed_same number payload (Some prepared) = ap (λ b. if b then Executes prepared else Malformed) (whole_same number prepared payload)

  abbrev with_known : (byte number : ℕ) → (executes : Kind) → (found : Option Prepared) → Kind
  with_known byte number executes found =
      if nat_eq byte com_execute then executes
      else if nat_eq byte com_fetch then Unprepared number
      else if is_some found then ResetsStatement
      else Unprepared number

  number_kind : (byte : ℕ) (payload : List ℕ) (number : Option ℕ) → with_number view p client ordinal byte payload number ≡ with_number view q client ordinal byte payload number
  number_kind byte payload None = refl
  number_kind byte payload (Some number) =
      ap (λ (found : Option Prepared). with_known byte number (executed p client ordinal number payload found) found) (known number)
      ∙ ap (λ (k : Kind). with_known byte number k (known_statement view q client number ordinal)) (executed_same number payload (known_statement view q client number ordinal))

  abbrev kind_by : (byte : ℕ) → (rest : List ℕ) → Kind → Kind
  kind_by byte rest k =
      if nat_eq byte com_query then Asks rest
      else if nat_eq byte com_prepare then Prepares rest
      else if nat_eq byte com_init_db then Chooses
      else if nat_eq byte com_field_list then Lists
      else if nat_eq byte com_quit then Quits
      else if nat_eq byte com_ping then Pings
      else if nat_eq byte com_reset then Restarts
      else if nat_eq byte com_long_data || nat_eq byte com_close then Silent
      else if is_with_number byte then k
      else Unknown

  pub kind_same : (payload : List ℕ) → kind_of view p client ordinal payload ≡ kind_of view q client ordinal payload
  kind_same [] = refl
  kind_same (byte ∷ rest) = ap (kind_by byte rest) (number_kind byte (byte ∷ rest) (number_at 4 1 (byte ∷ rest)))

  -- What is executed was prepared by a message that has a reply.

  abbrev IsReplied : Option Prepared → Type 0
  IsReplied None = Unit {0}
  IsReplied (Some prepared) = is_some (view.replies (name_of client prepared.ordinal)) ≡ true

  abbrev Knows : Kind → Type 0
  Knows (Executes prepared) = is_some (view.replies (name_of client prepared.ordinal)) ≡ true
  Knows _ = Unit {0}

  if_replied : (b : Bool) (x y : Option Prepared) → IsReplied x → IsReplied y → IsReplied (if b then x else y)
  if_replied true x y first second = first
  if_replied false x y first second = second

  or_replied : (x y : Option Prepared) → IsReplied x → IsReplied y → IsReplied (option_or x y)
  or_replied None y first second = second
  or_replied (Some prepared) y first second = first

  in_replied : (number i : ℕ) (payload : List ℕ) (route : Option Route) (reply : Option Reply) → view.replies (name_of client i) ≡ reply → IsReplied (prepared_in number i payload route reply)
  in_replied number i payload (Some route) (Some reply) is = if_replied _ (Some _) None (ap (λ (o : Option Reply). is_some o) is) tt
  in_replied number i payload (Some route) None is = tt
  in_replied number i payload None (Some reply) is = tt
  in_replied number i payload None None is = tt

  by_replied : (plan : Plan) (number i : ℕ) (xs : List Framed) → IsReplied (prepared_by view plan client number i xs)
  by_replied plan number i [] = tt
  by_replied plan number i (x ∷ xs) = or_replied _ _ (in_replied number i x.payload (plan.routes (name_of client i)) (view.replies (name_of client i)) refl) (by_replied plan number (suc i) xs)

  then_replied : (live : Prepared → Bool) (found : Option Prepared) → IsReplied found → IsReplied (option_and_then (λ (prepared : Prepared). if live prepared then Some prepared else None) found)
  then_replied live None is = tt
  then_replied live (Some prepared) is = if_replied (live prepared) (Some prepared) None is tt

  known_replied : (plan : Plan) (number : ℕ) → IsReplied (known_statement view plan client number ordinal)
  known_replied plan number =
      then_replied (λ (prepared : Prepared). not (list_any (drops number) (between (suc prepared.ordinal) ordinal (messages plan client)))) (prepared_by view plan client number 1 (messages plan client))
      (by_replied plan number 1 (messages plan client))

  if_knows : (b : Bool) (x y : Kind) → Knows x → Knows y → Knows (if b then x else y)
  if_knows true x y first second = first
  if_knows false x y first second = second

  executed_knows : (plan : Plan) (number : ℕ) (payload : List ℕ) (found : Option Prepared) → IsReplied found → Knows (executed plan client ordinal number payload found)
  executed_knows plan number payload None is = tt
  executed_knows plan number payload (Some prepared) is = if_knows (is_whole_execute plan client ordinal number prepared payload) (Executes prepared) Malformed is tt

  number_knows : (plan : Plan) (byte : ℕ) (payload : List ℕ) (number : Option ℕ) → Knows (with_number view plan client ordinal byte payload number)
  number_knows plan byte payload None = tt
  number_knows plan byte payload (Some number) =
      let found = known_statement view plan client number ordinal in
      if_knows (nat_eq byte com_execute) _ _ (executed_knows plan number payload found (known_replied plan number))
      (if_knows (nat_eq byte com_fetch) (Unprepared number) _ tt (if_knows (is_some found) ResetsStatement (Unprepared number) tt tt))

  pub kind_knows : (plan : Plan) (payload : List ℕ) → Knows (kind_of view plan client ordinal payload)
  kind_knows plan [] = tt
  kind_knows plan (byte ∷ rest) =
      if_knows (nat_eq byte com_query) (Asks rest) _ tt
      (if_knows (nat_eq byte com_prepare) (Prepares rest) _ tt
      (if_knows (nat_eq byte com_init_db) Chooses _ tt
      (if_knows (nat_eq byte com_field_list) Lists _ tt
      (if_knows (nat_eq byte com_quit) Quits _ tt
      (if_knows (nat_eq byte com_ping) Pings _ tt
      (if_knows (nat_eq byte com_reset) Restarts _ tt
      (if_knows (nat_eq byte com_long_data || nat_eq byte com_close) Silent _ tt
      (if_knows (is_with_number byte) _ Unknown (number_knows plan byte (byte ∷ rest) (number_at 4 1 (byte ∷ rest))) tt))))))))

-- The verdict.

module _ (terms : Terms) (p q : Plan) (bare : LinkId → Bool) (tried : ℕ → Tried) (servers : List Server) (flag : ℕ) (taking : Taking)
    (same : SameFor taking.client (view_of (setup_in terms) taking.tale) taking.tale.moment p q) where
  abbrev by_p : Terms
  by_p = with_plan terms p

  abbrev by_q : Terms
  by_q = with_rest terms q bare tried

  abbrev view : View
  view = view_of (setup_in terms) taking.tale

  refused_same : (class : Class) (by : Option Refusal) (wanted : Wanted) → unless_refused by_p servers taking class by wanted ≡ unless_refused by_q servers taking class by wanted
  refused_same class (Some refusal.SetsServer) wanted = refl
  refused_same class (Some refusal.NamesConnection) wanted = refl
  refused_same class (Some refusal.ReadsLast) wanted = refl
  refused_same class None wanted = refl

  ruled_same : (routed : Routed) (number : ℕ) (key : Option Key) (by : Option Stop) → ruled by_p servers taking routed number key by ≡ ruled by_q servers taking routed number key by
  ruled_same routed number key None =
      let class = terms.router.reads.class routed.text in
      refused_same class class.refusal (record {
        route = record (plain_route (hostgroup_for terms taking class routed.hostgroup)) { text = Some routed.text; number = number; multiplex = routed.multiplex };
        key = key;
      })
  ruled_same routed number key (Some (stop.Error text)) = refl
  ruled_same routed number key (Some (stop.Ok text)) = refl

  abbrev run_with : (prepared : Prepared) → Option Route → Verdict
  run_with prepared r =
      let class = terms.router.reads.class (terms.decided.keys prepared.key).text in
      let asked = unwrap_or r (plain_route (record { 0 = 0 })) in
      unless_refused by_p servers taking class class.refusal (record {
        route = record (plain_route (unwrap_or (transaction_in terms taking) asked.hostgroup)) { multiplex = asked.multiplex };
        key = unplaced (terms.decided.keys prepared.key).place.schema (terms.decided.keys prepared.key) (view.places taking.client.number).schema;
      })

  run_same : (prepared : Prepared) → is_some (view.replies (name_of taking.client prepared.ordinal)) ≡ true → run_by by_p servers taking prepared ≡ run_by by_q servers taking prepared
  run_same prepared has =
      let name = name_of taking.client prepared.ordinal in
      let class = terms.router.reads.class (terms.decided.keys prepared.key).text in
      let asked = unwrap_or (q.routes name) (plain_route (record { 0 = 0 })) in
      ap (run_with prepared) (same.routes name has)
      ∙ refused_same class class.refusal (record {
        route = record (plain_route (unwrap_or (transaction_in terms taking) asked.hostgroup)) { multiplex = asked.multiplex };
        key = unplaced (terms.decided.keys prepared.key).place.schema (terms.decided.keys prepared.key) (view.places taking.client.number).schema;
      })

  abbrev prepares_with : (text : List ℕ) → (full : Bool) → (number : ℕ) → Verdict
  prepares_with text full number =
      let routed = pass_of terms flag taking text in
      if full then tells_one too_many_statements
      else ruled by_p servers taking routed number (Some (record { text = routed.text; place = view.places taking.client.number })) routed.stop

  by_kind : (kind : Kind) → Knows taking.client view taking.tale.moment p q same kind → verdict_by by_p servers flag taking kind ≡ verdict_by by_q servers flag taking kind
  by_kind Quits knows = refl
  by_kind Pings knows = refl
  by_kind Restarts knows = refl
  by_kind Chooses knows = refl
  by_kind Lists knows = refl
  by_kind (Asks text) knows = ap
      (λ (v : Verdict). if is_connection_id (terms.router.reads.class text).shape then connection_id terms taking else v)
      (ruled_same (pass_of terms flag taking text) 0 None (pass_of terms flag taking text).stop)
  by_kind (Prepares text) knows =
      let routed = pass_of terms flag taking text in
      ap (λ b. prepares_with text b (next_number view p taking.client (suc taking.client.taken))) (full_same taking.client view taking.tale.moment p q same)
      ∙ ap (λ n. prepares_with text (is_full view q taking.client (suc taking.client.taken)) n) (number_same taking.client view taking.tale.moment p q same)
      ∙ ap (λ (v : Verdict). if is_full view q taking.client (suc taking.client.taken) then tells_one too_many_statements else v)
      (ruled_same routed (next_number view q taking.client (suc taking.client.taken)) (Some (record { text = routed.text; place = view.places taking.client.number })) routed.stop)
  by_kind (Executes prepared) knows = run_same prepared knows
  by_kind ResetsStatement knows = refl
  by_kind Silent knows = refl
  by_kind (Unprepared number) knows = refl
  by_kind Malformed knows = refl
  by_kind Unknown knows = refl

  by_port : (port : Port) (kind : Kind) → Knows taking.client view taking.tale.moment p q same kind
      → verdict_at port by_p servers flag taking kind ≡ verdict_at port by_q servers flag taking kind
  by_port Traffic kind knows = by_kind kind knows
  by_port Admin kind knows = refl

  pub verdict_same : verdict by_p servers flag taking ≡ verdict by_q servers flag taking
  verdict_same =
      ap (verdict_at taking.client.port by_p servers flag taking) (kind_same taking.client view taking.tale.moment p q same taking.message.payload)
      ∙ by_port taking.client.port (kind_in by_q taking) (kind_knows taking.client view taking.tale.moment p q same q taking.message.payload)

  -- and so the client's flag behind it

  abbrev flag_with : Option (List ℕ) → ℕ
  flag_with passed = option_map_or (λ text. unwrap_or (pass_of terms flag taking text).next_flag flag) passed flag

  passed_same : (kind : Kind) → text_passed by_p taking kind ≡ text_passed by_q taking kind
  passed_same (Prepares text) = ap (λ b. if b then None else Some text) (full_same taking.client view taking.tale.moment p q same)
  passed_same (Asks text) = refl
  passed_same Quits = refl
  passed_same Pings = refl
  passed_same Restarts = refl
  passed_same Chooses = refl
  passed_same Lists = refl
  passed_same (Executes prepared) = refl
  passed_same ResetsStatement = refl
  passed_same Silent = refl
  passed_same (Unprepared number) = refl
  passed_same Malformed = refl
  passed_same Unknown = refl

  pub flag_same : flag_behind by_p flag taking ≡ flag_behind by_q flag taking
  flag_same =
      ap (λ (kind : Kind). if is_restart kind then 0 else flag_with (text_passed by_p taking kind)) (kind_same taking.client view taking.tale.moment p q same taking.message.payload)
      ∙ ap (λ (passed : Option (List ℕ)). if is_restart (kind_in by_q taking) then 0 else flag_with passed) (passed_same (kind_in by_q taking))
