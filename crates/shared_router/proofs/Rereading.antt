-- Executes read as they are spelt at each moment of a log of ours: what becomes due was judged whole, and what servers tell are bytes.
use Rattle.std.specs.Prelude.{◌≡◌, ◌<◌, ◌≤◌, ◌+◌, ◌*◌, ◌-◌, ℕ, suc, Bool, true, false, ◌&&◌, ◌||◌, not, drop, is_some, length, nat_eq, nat_le, slice_get, slice_index_or, take, if◌then◌else◌, unwrap_or, List, [], ◌∷◌, ◌++◌, Option, Some, None}
use Rattle.std.specs.Option.{option_and_then, option_map, option_or}
use Rattle.std.proofs.Common.{refl, sym, ap, ◌∙◌, subst, append_assoc, append-nil, arith, length-append, take-append-drop}
use Rattle.std.proofs.lemmas.Bool.{and_parts, ne_eqb}
use Rattle.hostgroups.specs.declared.server.Server.{Server}
use Rattle.mx_base.specs.Fields.{number_at}
use Rattle.mx_base.specs.declared.names.Port.{Port}
use Rattle.mx_wire.specs.Log.{Log}
use Rattle.mx_wire.specs.Moments.{AtEachMoment, LawfulAfter, lawful-more}
use Rattle.mx_wire.specs.Tells.{Fits}
use Rattle.mx_wire.specs.declared.entry.Entry.{Entry}
use Rattle.mx_wire.specs.declared.entry.Entry.TheVariants as entry
use Rattle.packet_frame.specs.Packets.{Framed}
use Rattle.private_model.proofs.Maps.{number_of}
use Rattle.private_model.specs.Commands.{Command, FieldList, InitDb, Prepare, Query, Reply, end_of, is_made}
use Rattle.private_model.specs.Lawful.{IsLawful}
use Rattle.private_model.specs.Names.{ClientNo, MessageName}
use Rattle.private_model.specs.View.{Setup, View}
use Rattle.log_story.specs.Executes.{Prepared, Request, args_in, executed_by, prepared_by, prepared_in, requested, run_of, text_asked}
use Rattle.log_story.specs.Owed.{messages, name_of}
use Rattle.log_story.specs.Plan.{Plan, Route, com_execute, com_field_list, com_init_db, com_prepare, com_query}
use Rattle.log_story.specs.Tale.{Client, Tale, view_of}
use Rattle.log_story.specs.Telling.{tale_step}
use Rattle.router_promises.proofs.Saying.{now-tale}
use Rattle.router_promises.specs.Now.{flag_taken, now_at}
use Rattle.router_promises.specs.Running.{servers_after}
use Rattle.router_promises.specs.Statements.{are_types, execute_size, is_live, is_whole_execute, known_statement}
use Rattle.router_promises.specs.Takings.{Taking, as_told, message_in, ordinal_of, takings_at}
use Rattle.router_promises.specs.Terms.{Terms, plan_in, setup_in, tale_at}
use Rattle.router_promises.specs.Verdicts.{Executes, Malformed, Unprepared, executed, kind_in, kind_of, verdict, verdict_at, verdict_by, with_number}
use Rattle.shared_router.specs.Fixed.{Fixed, IsNumbered}
use Rattle.shared_router.specs.Judged.{AreJudged, IsJudged, IsMet, JudgedSo}
use Rattle.shared_router.specs.Ours.{IsOurLog, IsOurs}
use Rattle.shared_router.specs.Shared.{final_terms, world_at}
use Rattle.shared_router.specs.Spelt.{RunsReadSo}
use Rattle.shared_router.proofs.Along.{IsAt, lawful_there}
use Rattle.shared_router.proofs.Arguing.{args_whole, weight}
use Rattle.run_laws.specs.Becoming.{AllBecame}
use Rattle.shared_router.proofs.Becoming.{IsGood, step_became}
use Rattle.run_laws.specs.Wholes.{AreWhole}
use Rattle.shared_router.proofs.Furthering.{tale_more}
use Rattle.shared_router.proofs.Looked.{Each}
use Rattle.shared_router.proofs.Owing.{owes_at}
use Rattle.shared_router.proofs.Ported.{is_traffic}
use Rattle.shared_router.proofs.Plain.{IsPlain, plain_of}
use Rattle.shared_router.proofs.Prompting.{prompts_kept}
use Rattle.run_laws.proofs.Readable.{all_replies, readable}
use Rattle.shared_router.proofs.Routing.{routes_kept}
use Rattle.shared_router.proofs.Seated.{AreLike, clients_by, freed_clients, numbered_step, step_like, told_clients}
use Rattle.shared_router.proofs.Numbered.{AreNumbered}
use Rattle.run_laws.proofs.Telling.{first_tells, keeps, step_tells, told_tells}
use Rattle.run_laws.specs.Reads.{HasArgs, HasItsArgs, IsSmall}
use Rattle.run_laws.specs.Tells.{GetsBytes, TellsBytes}
use Rattle.shared_router.proofs.Weighing.{IsReadIn, messages_weight, read_by, read_like, weight_at, weight_drop, weight_take}

isnt : {A : Type 0} → false ≡ true → A
isnt is = absurd (cc)

no_some : {A B : Type 0} (a : A) → None ≡ Some a → B
no_some a is = absurd (cc)

some_of : {A : Type 0} (a b : A) → Some a ≡ Some b → a ≡ b
some_of a b is = cc

-- a text has no arguments
text_has : (byte : ℕ) (rest : List ℕ) (command : Command) → text_asked byte rest ≡ Some command → HasArgs command
text_has byte rest command is = by_tests (nat_eq byte com_query) (nat_eq byte com_init_db) (nat_eq byte com_field_list) (nat_eq byte com_prepare) is where
  by_tests : (query chooses lists prepares : Bool)
      → (if query then Some (Query rest) else if chooses then Some (InitDb rest) else if lists then Some (FieldList rest) else if prepares then Some (Prepare rest) else None) ≡ Some command
      → HasArgs command
  by_tests true chooses lists prepares now = subst HasArgs (some_of (Query rest) command now) tt
  by_tests false true lists prepares now = subst HasArgs (some_of (InitDb rest) command now) tt
  by_tests false false true prepares now = subst HasArgs (some_of (FieldList rest) command now) tt
  by_tests false false false true now = subst HasArgs (some_of (Prepare rest) command now) tt
  by_tests false false false false now = no_some command now

-- how many parameters a statement has that a server prepared

of_prepared : (number ordinal : ℕ) (payload : List ℕ) (route : Option Route) (reply : Option Reply) → ((r : Reply) → reply ≡ Some r → IsSmall (end_of r))
    → (prepared : Prepared) → prepared_in number ordinal payload route reply ≡ Some prepared → prepared.params < 65536
of_prepared number ordinal payload None reply small prepared is = no_some prepared is
of_prepared number ordinal payload (Some route) None small prepared is = no_some prepared is
of_prepared number ordinal payload (Some route) (Some reply) small prepared is =
    by_test (nat_eq (slice_index_or payload 0 0) com_prepare && (nat_eq route.number number && is_made reply)) is
  where
    by_test : (b : Bool) → (if b then Some (record { key = route.key; params = (end_of reply).params; ordinal = ordinal }) else None) ≡ Some prepared → prepared.params < 65536
    by_test true now = subst (λ (p : Prepared). p.params < 65536) (some_of _ prepared now) (small reply refl).params
    by_test false now = no_some prepared now

few_params : (view : View) (plan : Plan) (client : Client) (number i : ℕ) (ms : List Framed) → ((m : MessageName) (r : Reply) → view.replies m ≡ Some r → IsSmall (end_of r))
    → (prepared : Prepared) → prepared_by view plan client number i ms ≡ Some prepared → prepared.params < 65536
few_params view plan client number i [] small prepared is = no_some prepared is
few_params view plan client number i (message ∷ others) small prepared is =
    by_first (prepared_in number i message.payload (plan.routes (name_of client i)) (view.replies (name_of client i))) refl is (few_params view plan client number (suc i) others small prepared)
  where
    by_first : (o : Option Prepared) → prepared_in number i message.payload (plan.routes (name_of client i)) (view.replies (name_of client i)) ≡ o
        → option_or o (prepared_by view plan client number (suc i) others) ≡ Some prepared
        → (prepared_by view plan client number (suc i) others ≡ Some prepared → prepared.params < 65536) → prepared.params < 65536
    by_first None at now later = later now
    by_first (Some p) at now later =
        of_prepared number i message.payload (plan.routes (name_of client i)) (view.replies (name_of client i)) (λ r replied. small (name_of client i) r replied) prepared (at ∙ now)

-- what is sent to a server wasn't answered instead

module _ (terms : Terms) (servers : List Server) (flag : ℕ) (taking : Taking) (route : Route) (goes : (plan_in terms).routes (message_in taking) ≡ Some route) where
  abbrev view : View
  view = view_of (setup_in terms) taking.tale

  abbrev plan : Plan
  plan = plan_in terms

  abbrev client : Client
  client = taking.client

  unmalformed : IsJudged terms taking (verdict_by terms servers flag taking Malformed) → ⊥
  unmalformed is = no_some route (sym is.route ∙ goes)

  unknown_not : (number : ℕ) → IsJudged terms taking (verdict_by terms servers flag taking (Unprepared number)) → ⊥
  unknown_not number is = no_some route (sym is.route ∙ goes)

  -- so an execute is whole
  whole_by : (number : ℕ) (payload : List ℕ) (prepared : Prepared) (live whole : Bool) → is_whole_execute plan client (ordinal_of taking) number prepared payload ≡ whole
      → IsJudged terms taking (verdict_by terms servers flag taking (executed plan client (ordinal_of taking) number payload (if live then Some prepared else None))) → whole ≡ true
  whole_by number payload prepared false whole at is = absurd (unknown_not number is)
  whole_by number payload prepared true true at is = refl
  whole_by number payload prepared true false at is =
      absurd (unmalformed (subst (λ b. IsJudged terms taking (verdict_by terms servers flag taking (if b then Executes prepared else Malformed))) at is))

  whole_so : (number : ℕ) (payload : List ℕ) (prepared : Prepared) → prepared_by view plan client number 1 (messages plan client) ≡ Some prepared
      → IsJudged terms taking (verdict_by terms servers flag taking (executed plan client (ordinal_of taking) number payload (known_statement view plan client number (ordinal_of taking))))
      → is_whole_execute plan client (ordinal_of taking) number prepared payload ≡ true
  whole_so number payload prepared found is =
      whole_by number payload prepared (is_live plan client number (ordinal_of taking) prepared) (is_whole_execute plan client (ordinal_of taking) number prepared payload) refl
      (subst (λ (o : Option Prepared). IsJudged terms taking (verdict_by terms servers flag taking (executed plan client (ordinal_of taking) number payload
      (option_and_then (λ p. if is_live plan client number (ordinal_of taking) p then Some p else None) o)))) found is)

  -- which an execute is by its first byte
  kind_there : (payload : List ℕ) (number : ℕ) → nat_eq (slice_index_or payload 0 0) com_execute ≡ true → number_at 4 1 payload ≡ Some number
      → kind_of view plan client (ordinal_of taking) payload ≡ executed plan client (ordinal_of taking) number payload (known_statement view plan client number (ordinal_of taking))
  kind_there [] number byte at = isnt byte
  kind_there (byte ∷ rest) number first at = by_byte byte (number_of byte com_execute first) at where
    by_byte : (b : ℕ) → b ≡ com_execute → number_at 4 1 (b ∷ rest) ≡ Some number
        → kind_of view plan client (ordinal_of taking) (b ∷ rest) ≡ executed plan client (ordinal_of taking) number (b ∷ rest) (known_statement view plan client number (ordinal_of taking))
    by_byte b same = subst (λ x. number_at 4 1 (x ∷ rest) ≡ Some number
        → kind_of view plan client (ordinal_of taking) (x ∷ rest) ≡ executed plan client (ordinal_of taking) number (x ∷ rest) (known_statement view plan client number (ordinal_of taking)))
        (sym same) (λ there. ap (λ o. with_number view plan client (ordinal_of taking) com_execute (com_execute ∷ rest) o) there)

types_so : (params : ℕ) (types : Bool) → not (not (nat_eq params 0) && not types) ≡ true → 0 < params → types ≡ true
types_so params true is some = refl
types_so params false is some = isnt (sym (ap (λ b. not (not b && true)) (ne_eqb params 0 (λ e. omega (arith, e, some)))) ∙ is)

-- Along a log of ours.

module _ (fixed : Fixed) (numbered : IsNumbered fixed) (log : Log) (our : IsOurLog fixed log) where
  abbrev t : Terms
  t = final_terms fixed log

  abbrev last : Plan
  last = plan_in t

  abbrev setup : Setup
  setup = setup_in t

  judged_all : LawfulAfter (JudgedSo fixed.starves t) [] log
  judged_all = routes_kept fixed numbered log (prompts_kept fixed log (let few : length log < 281474976710656 = our.bounded in omega (arith, few)) our.ours our.fits)

  -- what is taken up at an entry is judged, by the servers and flags of then
  pub judged_at : (before later : Log) (e : Entry) → before ++ e ∷ later ≡ log
      → (servers : List Server) × (flags : ClientNo → ℕ) × AreJudged fixed.starves t servers flags (takings_at setup last (tale_at t before) e)
  judged_at before later e is =
      let servers : List Server = servers_after t (now_at t before).clock (now_at t before).tale e (now_at t before).servers in (
        servers,
        (now_at t before).flags,
        subst (λ (x : Tale). AreJudged fixed.starves t servers (now_at t before).flags (takings_at setup last x e)) (now-tale t before)
            (lawful_there (JudgedSo fixed.starves t) before later log e is judged_all),
      )

  pub plain : (client : Client) (ordinal : ℕ) → IsPlain (last.routes (name_of client ordinal))
  plain client ordinal = plain_of ((world_at fixed log).decided.routes (name_of client ordinal)) ((owes_at fixed log).plain (name_of client ordinal))

  -- A message that goes to a server and is judged has its arguments, where it isn't too long.

  module _ (entries : ℕ) (bounded : 65536 * entries ≤ 18446744073709551616) where
    abbrev Good : Taking → Type 0
    Good taking = IsGood setup last HasItsArgs TellsBytes (keeps setup last) (IsReadIn entries) (λ client read. read) plain taking

    module _ (servers : List Server) (flag : ℕ) (taking : Taking) (judged : IsJudged t taking (verdict t servers flag taking)) (tells : TellsBytes taking.tale)
        (read : IsReadIn entries taking.client) (next : slice_get (messages last taking.client) taking.client.taken ≡ Some taking.message)
        (route : Route) (goes : last.routes (message_in taking) ≡ Some route) where
      abbrev there : View
      there = view_of setup taking.tale

      abbrev whom : Client
      whom = taking.client

      abbrev payload : List ℕ
      payload = taking.message.payload

      traffic : IsJudged t taking (verdict_by t servers flag taking (kind_in t taking))
      traffic =
          subst (λ (port : Port). IsJudged t taking (verdict_at port t servers flag taking (kind_in t taking)))
          (is_traffic t servers flag taking route goes false judged) judged

      light : weight (messages last whom) ≤ 18446744073709551616
      light = (let less = messages_weight last whom in omega (arith, less, read, bounded))

      args_so : (number : ℕ) → nat_eq (slice_index_or payload 0 0) com_execute ≡ true → number_at 4 1 payload ≡ Some number → (prepared : Prepared)
          → prepared_by there last whom number 1 (messages last whom) ≡ Some prepared
          → AreWhole prepared.params (args_in prepared.params number (λ i. not (is_some (last.routes (name_of whom i)))) prepared.ordinal (take (ordinal_of taking - 1) (messages last whom)) payload)
      args_so number byte at prepared found =
          let refused : ℕ → Bool = λ i. not (is_some (last.routes (name_of whom i))) in
          let before : List Framed = take (ordinal_of taking - 1) (messages last whom) in
          let few : prepared.params < 65536 = few_params there last whom number 1 (messages last whom) (all_replies setup taking.tale.story tells.heard) prepared found in
          let kind = kind_there t servers flag taking route goes payload number byte at in
          let whole = whole_so t servers flag taking route goes number payload prepared found (subst (λ k. IsJudged t taking (verdict_by t servers flag taking k)) kind traffic) in
          let both = and_parts (nat_le (execute_size prepared.params payload) (length payload)) _ whole in
          let dropped = weight_drop prepared.ordinal before in
          let taken = weight_take (ordinal_of taking - 1) (messages last whom) in
          let long = weight_at (messages last whom) whom.taken taking.message next in
          args_whole number refused prepared.ordinal before payload prepared.params few both.0
          (λ some. types_so prepared.params (are_types prepared.params (args_in prepared.params number refused prepared.ordinal before payload).types) both.1 some)
          (omega (arith, dropped, taken, light)) (omega (arith, long, light))

      abbrev runs : ℕ → Prepared → Request
      runs number prepared =
          run_of setup (args_in prepared.params number (λ i. not (is_some (last.routes (name_of whom i)))) prepared.ordinal (take (ordinal_of taking - 1) (messages last whom)) payload)
          (there.places whom.number).schema route.key prepared.key

      execute_has : (number : ℕ) → nat_eq (slice_index_or payload 0 0) com_execute ≡ true → number_at 4 1 payload ≡ Some number → (request : Request)
          → executed_by setup there last whom (ordinal_of taking) route payload number ≡ Some request → HasArgs request.command
      execute_has number byte at request is =
          by_prepared (prepared_by there last whom number 1 (messages last whom)) (λ prepared found. args_so number byte at prepared found) is
        where
          by_prepared : (o : Option Prepared) → ((prepared : Prepared) → o ≡ Some prepared → AreWhole prepared.params
              (args_in prepared.params number (λ i. not (is_some (last.routes (name_of whom i)))) prepared.ordinal (take (ordinal_of taking - 1) (messages last whom)) payload))
              → option_map (runs number) o ≡ Some request → HasArgs request.command
          by_prepared None each now = no_some request now
          by_prepared (Some prepared) each now = subst (λ (r : Request). HasArgs r.command) (some_of (runs number prepared) request now) (prepared.params, each prepared refl)

      request_has : (request : Request) → requested setup there last whom (ordinal_of taking) route payload ≡ Some request → HasArgs request.command
      request_has request is = by_byte (nat_eq (slice_index_or payload 0 0) com_execute) refl is where
        by_number : (o : Option ℕ) → number_at 4 1 payload ≡ o → nat_eq (slice_index_or payload 0 0) com_execute ≡ true
            → option_and_then (executed_by setup there last whom (ordinal_of taking) route payload) o ≡ Some request → HasArgs request.command
        by_number None at byte now = no_some request now
        by_number (Some number) at byte now = execute_has number byte at request now

        by_text : (o : Option Command) → ((command : Command) → o ≡ Some command → HasArgs command)
            → option_map (λ command. record { command = command; key = route.key }) o ≡ Some request → HasArgs request.command
        by_text None each now = no_some request now
        by_text (Some command) each now = subst (λ (r : Request). HasArgs r.command) (some_of _ request now) (each command refl)

        by_byte : (b : Bool) → nat_eq (slice_index_or payload 0 0) com_execute ≡ b
            → (if b then option_and_then (executed_by setup there last whom (ordinal_of taking) route payload) (number_at 4 1 payload)
            else option_map (λ command. record { command = command; key = route.key }) (text_asked (slice_index_or payload 0 0) (unwrap_or route.text (drop 1 payload)))) ≡ Some request
            → HasArgs request.command
        by_byte true byte now = by_number (number_at 4 1 payload) refl byte now
        by_byte false byte now =
            by_text (text_asked (slice_index_or payload 0 0) (unwrap_or route.text (drop 1 payload)))
            (λ command at. text_has (slice_index_or payload 0 0) (unwrap_or route.text (drop 1 payload)) command at) now

    good_one : (servers : List Server) (flag : ℕ) (taking : Taking) (starves : Bool) → IsMet starves t taking (verdict t servers flag taking) → Good taking
    good_one servers flag taking true left tells read next route goes request is = no_some route (sym left.route ∙ goes)
    good_one servers flag taking false judged tells read next route goes request is = request_has servers flag taking judged tells read next route goes request is

    good_all : (servers : List Server) (flags : ClientNo → ℕ) (takings : List Taking) → AreJudged fixed.starves t servers flags takings → Each Good takings
    good_all servers flags [] judged = tt
    good_all servers flags (taking ∷ takings) judged = (
      good_one servers (flags taking.client.number) taking (fixed.starves taking.tale.moment taking.client.number) judged.0,
      good_all servers (flag_taken t flags taking) takings judged.1,
    )

  -- At each moment.

  record IsRead (entries : ℕ) (tale : Tale) : Type 0 where
    pub tells : TellsBytes tale
    pub became : AllBecame setup HasItsArgs tale.story
    pub numbers : AreNumbered 1 tale.clients
    pub read : Each (IsReadIn entries) tale.clients

  gets_by : (before : Log) (tale : Tale) (e : Entry) → IsOurs fixed before e → GetsBytes tale e
  gets_by before tale (entry.Got link bytes) ours = λ there. ours.1
  gets_by before tale _ ours = tt

  step_read : (before later : Log) (e : Entry) → IsAt log before e later → IsOurs fixed before e → (entries : ℕ) → entries ≡ length before → IsRead entries (tale_at t before)
      → IsRead (suc entries) (tale_at t (before ++ e ∷ []))
  step_read before later e at ours entries count is =
      let old : Tale = tale_at t before in
      let new : Tale = tale_step setup last old e in
      let gets : GetsBytes old e = gets_by before old e ours in
      let clients : (as_told setup last old e).clients ≡ clients_by setup last old e = freed_clients setup last old e ∙ told_clients setup last old e in
      let told_read : Each (IsReadIn (suc entries)) (clients_by setup last old e) = read_by setup last entries before old e at.fits.0 is.read in
      let size : length before + length (e ∷ later) ≡ length log = sym (length-append before (e ∷ later)) ∙ ap (λ (l : Log). length l) at.is in
      let few : length log < 281474976710656 = our.bounded in
      let bounded : 65536 * suc entries ≤ 18446744073709551616 = omega (arith, size, few, count) in
      let judged = judged_at before later e at.is in
      subst (IsRead (suc entries)) (sym (tale_more t before e)) (record {
        tells = step_tells setup last old e gets is.tells;
        became = step_became setup last HasItsArgs TellsBytes (keeps setup last) (IsReadIn (suc entries)) (λ client read. read) plain old e
            (told_tells setup last old e gets is.tells)
            (good_all (suc entries) bounded judged.0 judged.1 (takings_at setup last old e) judged.2)
            (subst (Each (IsReadIn (suc entries))) (sym clients) told_read) is.became;
        numbers = numbered_step setup last old e is.numbers;
        read = read_like (suc entries) (clients_by setup last old e) new.clients
            (subst (λ (cs : List Client). AreLike cs new.clients) (told_clients setup last old e) (step_like setup last old e is.numbers)) told_read;
      })

  read_from : (before later rest : Log) → before ++ (later ++ rest) ≡ log → LawfulAfter Fits [] before → LawfulAfter Fits before (later ++ rest)
      → LawfulAfter (IsOurs fixed) before (later ++ rest) → IsRead (length before) (tale_at t before) → IsRead (length (before ++ later)) (tale_at t (before ++ later))
  read_from before [] rest is so_far fits ours read = subst (λ (l : Log). IsRead (length l) (tale_at t l)) (sym (append-nil before)) read
  read_from before (e ∷ later) rest is so_far fits ours read =
      let size : length (before ++ e ∷ []) ≡ length before + 1 = length-append before (e ∷ []) in
      let count : suc (length before) ≡ length (before ++ e ∷ []) = omega (arith, size) in
      let next : IsRead (length (before ++ e ∷ [])) (tale_at t (before ++ e ∷ [])) =
      subst (λ n. IsRead n (tale_at t (before ++ e ∷ []))) count
      (step_read before (later ++ rest) e (record { is = is; so_far = so_far; fits = fits }) ours.0 (length before) refl read) in
      subst (λ (l : Log). IsRead (length l) (tale_at t l)) (append_assoc before (e ∷ []) later)
      (read_from (before ++ e ∷ []) later rest (append_assoc before (e ∷ []) (later ++ rest) ∙ is) (lawful-more Fits before e so_far fits.0) fits.1 ours.1 next)

  read_at : (before rest : Log) → before ++ rest ≡ log → IsRead (length before) (tale_at t before)
  read_at before rest is =
      read_from [] before rest is tt (subst (λ (l : Log). LawfulAfter Fits [] l) (sym is) our.fits) (subst (λ (l : Log). LawfulAfter (IsOurs fixed) [] l) (sym is) our.ours)
      (record { tells = first_tells setup last; became = tt; numbers = tt; read = tt })

  pub reads_kept : ((n : ℕ) → IsLawful setup (tale_at t (take n log)).story) → AtEachMoment (RunsReadSo t) log
  reads_kept lawful n link stands =
      let read = read_at (take n log) (drop n log) (take-append-drop n log) in
      (readable setup (tale_at t (take n log)).story (lawful n) read.became read.tells.heard link).asked
