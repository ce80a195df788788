-- So each message that is taken up goes, or is answered, as is promised, also where its client ends by it.
use Rattle.std.specs.Prelude.{◌≡◌, ◌≤◌, ◌⊎◌, ℕ, suc, Bool, true, false, ◌&&◌, ◌||◌, find, is_none, map, nat_lt, if◌then◌else◌, List, [], ◌∷◌, ◌++◌, Option, Some, None}
use Rattle.std.specs.List.{list_any}
use Rattle.std.proofs.Common.{refl, sym, ap, ◌∙◌, subst, append_assoc, arith, inl, inr}
use Rattle.std.proofs.lemmas.Bool.{and_from, eq-eqb, lt-ltb, ltb-false, or_left, or_right}
use Rattle.mx_base.specs.declared.names.{Port.Port, Port.TheVariants.Admin, Port.TheVariants.Traffic}
use Rattle.hostgroups.specs.declared.server.Server.{Server}
use Rattle.mx_wire.specs.Log.{Log}
use Rattle.mx_wire.specs.Moments.{LawfulAfter}
use Rattle.mx_wire.specs.declared.entry.Entry.{Entry}
use Rattle.pin_classifier.specs.declared.class.Class.{Class}
use Rattle.pin_classifier.specs.declared.class.Refusal.{Refusal}
use Rattle.pin_classifier.specs.declared.class.Refusal.TheVariants as refusal
use Rattle.query_rules.specs.declared.ask.Routed.{Routed}
use Rattle.query_rules.specs.declared.ask.Stop.{Stop}
use Rattle.query_rules.specs.declared.ask.Stop.TheVariants as stop
use Rattle.session_state.specs.Pins.{reads_own}
use Rattle.private_model.proofs.Maps.{client_of}
use Rattle.private_model.specs.Names.{ClientNo, MessageName}
use Rattle.private_model.specs.Story.{Key, is_client}
use Rattle.private_model.specs.View.{Setup}
use Rattle.log_story.specs.Owed.{name_of}
use Rattle.log_story.specs.Plan.{Behind, Plan, Route, is_before, own_at}
use Rattle.log_story.specs.Tale.{Client, Tale, view_of}
use Rattle.tale_world.specs.Deciding.{World}
use Rattle.router_promises.specs.Ends.{breaks_client, is_accepted, is_at_fault, is_left, is_quit, is_refused, loses_client, must_end, quits_at}
use Rattle.router_promises.specs.Errors as error
use Rattle.router_promises.specs.Errors.{out_of_memory}
use Rattle.router_promises.specs.Now.{Now, entry_now, flag_taken, now_at, takings_now, while_ending}
use Rattle.router_promises.specs.Routed.{AreSo, IsSo, IsStarved, RoutesSo}
use Rattle.router_promises.specs.Running.{servers_after}
use Rattle.router_promises.specs.Statements.{is_full, next_number}
use Rattle.router_promises.specs.Takings.{Taking, as_told, message_in, ordinal_of}
use Rattle.router_promises.specs.Terms.{Terms, plan_in, setup_in}
use Rattle.router_promises.specs.Verdicts.{Asks, Chooses, Executes, Goes, Kind, Lists, Malformed, Parts, Pings, Prepares, Quits, ResetsStatement, Restarts, Silent, Tells, Unknown, Unprepared, Verdict, Wanted}
use Rattle.router_promises.specs.Verdicts.{connection_id, has_nowhere, held_in, is_connection_id, kind_in, pass_of, ruled, sent_unless, tells_one, unless_gone}
use Rattle.router_promises.specs.Verdicts.{unless_refused, verdict, verdict_at, verdict_by}
use Rattle.shared_router.specs.Ends.{Ending, ending_of, goes, has_too_much, is_refused_now, is_starved, must_go, was_left}
use Rattle.shared_router.specs.Fixed.{Fixed, IsNumbered, setup_of}
use Rattle.shared_router.specs.Judged.{AreJudged, IsJudged, IsMet, JudgedSo}
use Rattle.shared_router.specs.More.{More}
use Rattle.shared_router.specs.Shared.{final_terms, world_at}
use Rattle.shared_router.proofs.Ended as ended
use Rattle.shared_router.proofs.Looked.{Each, IsLooked, each-so, going-looks, looks_at}
use Rattle.shared_router.proofs.Musts.{IsEnding, ending_world, left-same, must-same}
use Rattle.shared_router.proofs.Parting.{even_at}
use Rattle.shared_router.proofs.Single.{IsAlone, both-each, counts_at, each-alone, going-counts}
use Rattle.shared_router.proofs.Takings.{IsLast, IsOf, Taken, going-stays, is_his, last-taken, of-clients}
use Rattle.shared_router.proofs.Walks.{if_either}
use Rattle.shared_router.proofs.Worded.{left-goes}

isnt : {A : Type 0} → false ≡ true → A
isnt is = absurd (cc)

-- Only of a QUIT the verdict is that its client parts.

abbrev PartsFor : (quits : Bool) → Verdict → Type 0
PartsFor quits Parts = quits ≡ true
PartsFor quits (Tells payloads) = Unit {0}
PartsFor quits (Goes wanted) = Unit {0}

module _ (terms : Terms) (servers : List Server) (taking : Taking) where
  abbrev Stays : Verdict → Type 0
  Stays v = PartsFor false v

  sent-stays : (wanted : Wanted) → Stays (sent_unless terms servers taking wanted)
  sent-stays wanted = if_either Stays (has_nowhere terms servers taking wanted.route.hostgroup) (tells_one (error.no_server_in wanted.route.hostgroup.0)) (Goes wanted) tt tt

  gone-stays : (class : Class) (wanted : Wanted) → Stays (unless_gone terms servers taking class wanted)
  gone-stays class wanted =
      if_either Stays (reads_own class (held_in terms taking wanted.route.hostgroup).pin) (sent_unless terms servers taking wanted)
      (tells_one error.diagnostics_gone) (sent-stays wanted) tt

  refused-stays : (class : Class) (by : Option Refusal) (wanted : Wanted) → Stays (unless_refused terms servers taking class by wanted)
  refused-stays class (Some refusal.SetsServer) wanted = tt
  refused-stays class (Some refusal.NamesConnection) wanted = tt
  refused-stays class (Some refusal.ReadsLast) wanted = tt
  refused-stays class None wanted =
      if_either Stays (is_connection_id class.shape) (tells_one error.names_connection) (unless_gone terms servers taking class wanted) tt (gone-stays class wanted)

  ruled-stays : (routed : Routed) (number : ℕ) (key : Option Key) (by : Option Stop) → Stays (ruled terms servers taking routed number key by)
  ruled-stays routed number key None = let class = terms.router.reads.class routed.text in refused-stays class class.refusal _
  ruled-stays routed number key (Some (stop.Error text)) = tt
  ruled-stays routed number key (Some (stop.Ok text)) = tt

  kind-parts : (flag : ℕ) (kind : Kind) → PartsFor (is_quit kind) (verdict_by terms servers flag taking kind)
  kind-parts flag Quits = refl
  kind-parts flag Pings = tt
  kind-parts flag Restarts = tt
  kind-parts flag Chooses = sent-stays _
  kind-parts flag Lists = sent-stays _
  kind-parts flag (Asks text) =
      if_either Stays (is_connection_id (terms.router.reads.class text).shape) (connection_id terms taking)
      (ruled terms servers taking (pass_of terms flag taking text) 0 None (pass_of terms flag taking text).stop) tt
      (ruled-stays (pass_of terms flag taking text) 0 None (pass_of terms flag taking text).stop)
  kind-parts flag (Prepares text) =
      let view = view_of (setup_in terms) taking.tale in
      let routed = pass_of terms flag taking text in
      if_either Stays (is_full view (plan_in terms) taking.client (ordinal_of taking)) (tells_one error.too_many_statements) _ tt
      (ruled-stays routed (next_number view (plan_in terms) taking.client (ordinal_of taking))
      (Some (record { text = routed.text; place = view.places taking.client.number })) routed.stop)
  kind-parts flag (Executes prepared) =
      let class = terms.router.reads.class (terms.decided.keys prepared.key).text in refused-stays class class.refusal _
  kind-parts flag ResetsStatement = tt
  kind-parts flag Silent = tt
  kind-parts flag (Unprepared number) = tt
  kind-parts flag Malformed = tt
  kind-parts flag Unknown = tt

  verdict-parts : (port : Port) (flag : ℕ) (kind : Kind) → PartsFor (is_quit kind) (verdict_at port terms servers flag taking kind)
  verdict-parts Traffic flag kind = kind-parts flag kind
  verdict-parts Admin flag Quits = refl
  verdict-parts Admin flag _ = tt

-- what is found in a list has what each there has
each-found : {A : Type 0} (Q : A → Type 0) (test : A → Bool) (xs : List A) (y : A) → Each Q xs → find test xs ≡ Some y → Q y
each-found Q test [] y each is = absurd (cc)
each-found Q test (x ∷ xs) y each is = by_test (test x) is (each-found Q test xs y each.1) where
  by_test : (b : Bool) → (if b then Some x else find test xs) ≡ Some y → (find test xs ≡ Some y → Q y) → Q y
  by_test true is later = subst Q (let same : x ≡ y = cc in same) each.0
  by_test false is later = later is

-- each of these numbers
each-numbers : (P : ClientNo → Type 0) (xs ys : List Client) → map (λ (x : Client). x.number) xs ≡ map (λ (x : Client). x.number) ys
    → Each (λ (x : Client). P x.number) xs → Each (λ (y : Client). P y.number) ys
each-numbers P xs ys same each = back ys (subst (Each P) same (forth xs each)) where
  forth : (xs : List Client) → Each (λ (x : Client). P x.number) xs → Each P (map (λ (x : Client). x.number) xs)
  forth [] each = tt
  forth (x ∷ xs) each = (each.0, forth xs each.1)

  back : (ys : List Client) → Each P (map (λ (y : Client). y.number) ys) → Each (λ (y : Client). P y.number) ys
  back [] each = tt
  back (y ∷ ys) each = (each.0, back ys each.1)

any-one : {A : Type 0} (test : A → Bool) (x : A) (xs : List A) → test x ≡ true → list_any test (x ∷ xs) ≡ true
any-one test x xs is = ap (λ b. b || list_any test xs) is

any-later : {A : Type 0} (test : A → Bool) (x : A) (xs : List A) → list_any test xs ≡ true → list_any test (x ∷ xs) ≡ true
any-later test x xs any = or_right (test x) (list_any test xs) any

client-itself : (n : ClientNo) → is_client n n ≡ true
client-itself n = eq-eqb n.0 n.0 refl

module _ (fixed : Fixed) (numbered : IsNumbered fixed) (before later : Log) (e : Entry) where
  abbrev setup : Setup
  setup = setup_of fixed

  abbrev t : Terms
  t = final_terms fixed (before ++ e ∷ later)

  abbrev plan : Plan
  plan = plan_in t

  abbrev there : Now
  there = now_at t before

  abbrev d : World More
  d = ending_world fixed numbered before e

  abbrev x : Ending
  x = ending_of fixed d e

  abbrev m : ℕ
  m = d.tale.moment

  so : IsEnding fixed numbered before e (before ++ e ∷ later)
  so = ended.so fixed numbered before later e

  abbrev takings : List Taking
  takings = takings_now t there e

  -- it is left as it is taken up: it goes nowhere, and isn't answered
  abbrev pub Left : MessageName → Type 0
  Left name = (plan.routes name ≡ None) × (own_at plan m name ≡ None)

  abbrev pub Ends : ClientNo → Type 0
  Ends n = (k : ℕ) × ((plan.ends n ≡ Some k) × (k ≤ m))

  -- where it ends by it, it is told so
  pub record IsLeft (n : ClientNo) : Type 0 where
    pub ends : Ends n
    pub word : plan.ends n ≡ Some m → plan.words n ≡ Some (record { from = m; place = Behind; payloads = out_of_memory ∷ [] })

  pub record Must (n : ClientNo) : Type 0 where
    pub quits : list_any (λ (taking : Taking). is_client taking.client.number n && is_quit (kind_in t taking)) takings ≡ true → Ends n
    pub starves : fixed.starves m n ≡ true → Each (Taken setup plan n Left) takings → list_any (is_his setup plan n Left) takings ≡ true → IsLeft n

  -- A client of the tale behind what is taken up.

  module _ (client : Client) (looked : IsLooked d.decided client) (alone : IsAlone d.tale.clients client) where
    ends-if : goes x client ≡ true → Ends client.number
    ends-if going = ended.goes-ends fixed numbered before later e client looked alone going

    quits-end : quits_at t there e client ≡ true → Ends client.number
    quits-end quits =
        let breaks = breaks_client setup there (while_ending t there e) e client in
        let must : must_end t (before ++ e ∷ []) there (while_ending t there e) e client ≡ true =
        or_right (loses_client e client) _ (or_right (is_accepted e client && _) _ (or_right (is_refused t client) _
        (or_right (is_at_fault t (while_ending t there e) client) _ (or_left (quits_at t there e client) breaks quits)))) in
        ends-if (or_left (must_go x client) _ (sym (must-same fixed numbered before e (before ++ e ∷ later) so client looked) ∙ must))

    -- its last message was left
    pub was-left : (i : ℕ) → client.taken ≡ suc i → Left (name_of client (suc i)) → was_left x client ≡ true
    was-left i taken left =
        sym (left-same fixed numbered before e (before ++ e ∷ later) so client looked)
        ∙ ap (λ (tale : Tale). is_left t (record (while_ending t there e) { tale = tale }) client) so.tale
        ∙ ap (λ k. nat_lt 0 k && (is_none (plan.routes (name_of client k)) && is_none (own_at plan m (name_of client k)))) taken
        ∙ and_from (nat_lt 0 (suc i)) _ (lt-ltb 0 (suc i) (omega arith))
        (and_from (is_none (plan.routes (name_of client (suc i)))) _ (ap (λ (o : Option Route). is_none o) left.0) (ap (λ (o : Option (List (List ℕ))). is_none o) left.1))

    starves-end : fixed.starves m client.number ≡ true → Each (Taken setup plan client.number Left) takings
        → list_any (is_his setup plan client.number Left) takings ≡ true → IsLeft client.number
    starves-end starves taken any =
        let all : Each (IsLast setup plan client.number Left) d.tale.clients =
        subst (λ (tale : Tale). Each (IsLast setup plan client.number Left) tale.clients) so.tale
        (last-taken setup plan client.number Left (view_of setup there.tale) e (as_told setup plan there.tale e).clients (as_told setup plan there.tale e) taken (inr any)) in
        let last = each-found (IsLast setup plan client.number Left) (λ (y : Client). is_client y.number client.number) d.tale.clients client all alone.found (client-itself client.number) in
        let entry : entry_now x.now ≡ m = ended.x-entry fixed numbered before later e in
        let left : (is_refused_now x client && was_left x client) ≡ true =
        and_from (is_refused_now x client) (was_left x client) (ap (λ k. fixed.starves k client.number) entry ∙ starves) (was-left last.0 last.1.0 last.1.1) in
        record {
          ends = ends-if (or_right (must_go x client) _ (or_right (has_too_much x client) (is_starved x client) (left-goes x client left)));
          word = λ planned. ended.left-said fixed numbered before later e client looked alone planned left
              ∙ ap (λ k. Some (record { from = k; place = Behind; payloads = out_of_memory ∷ [] })) entry;
        }

  musts : Each (λ (client : Client). Must client.number) d.tale.clients
  musts =
      each-so (λ (client : Client). IsLooked d.decided client × IsAlone d.tale.clients client) (λ (client : Client). Must client.number) d.tale.clients
      (λ client both. record { quits = quits-end client both.0 both.1; starves = starves-end client both.0 both.1 })
      (both-each (IsLooked d.decided) (IsAlone d.tale.clients) d.tale.clients (going-looks fixed (world_at fixed before) e (even_at fixed before) (looks_at fixed before))
      (each-alone 1 d.tale.clients (going-counts fixed (world_at fixed before) e (counts_at fixed before))))

  -- What is taken up.

  abbrev AreOf : List Taking → Type 0
  AreOf = Each (IsOf setup plan Must m)

  pub all-of : AreOf takings
  all-of =
      let first : Tale = as_told setup plan there.tale e in
      let stays = going-stays setup plan (view_of setup there.tale) e first.clients first in
      of-clients setup plan Must m (view_of setup there.tale) e first.clients first (sym stays.moment ∙ ap (λ (tale : Tale). tale.moment) so.tale)
      (each-numbers Must d.tale.clients first.clients (ap (λ (tale : Tale). map (λ (y : Client). y.number) tale.clients) (sym so.tale) ∙ stays.numbers) musts)

  ends-now : (taking : Taking) → IsOf setup plan Must m taking → Ends taking.client.number → plan.ends taking.client.number ≡ Some taking.tale.moment
  ends-now taking of has =
      let early : nat_lt has.0 m ≡ false = ap (λ (o : Option ℕ). is_before m o) (sym has.1.0) ∙ of.alive in
      let same : has.0 ≡ m = (let low : m ≤ has.0 = ltb-false has.0 m early in omega (arith, low, has.1.1)) in
      has.1.0 ∙ ap (λ k. Some k) (same ∙ sym of.now)

  abbrev Judged : List Server → (ClientNo → ℕ) → List Taking → Type 0
  Judged servers flags row = AreJudged fixed.starves t servers flags row

  -- where memory is refused to it, each is left
  pub all-left : (servers : List Server) (n : ClientNo) → fixed.starves m n ≡ true → (row : List Taking) (flags : ClientNo → ℕ) → AreOf row → Judged servers flags row
      → Each (Taken setup plan n Left) row
  all-left servers n starves [] flags of judged = tt
  all-left servers n starves (taking ∷ row) flags of judged = (
    λ his. left (ap (λ k. fixed.starves k taking.client.number) of.0.now ∙ ap (fixed.starves m) (same his) ∙ starves),
    all-left servers n starves row (flag_taken t flags taking) of.1 judged.1,
  ) where
    same : is_client taking.client.number n ≡ true → taking.client.number ≡ n
    same his = client_of taking.client.number n his

    left : fixed.starves taking.tale.moment taking.client.number ≡ true → Left (message_in taking)
    left is =
        let met = subst (λ b. IsMet b t taking (verdict t servers (flags taking.client.number) taking)) is judged.0 in
        (met.route, subst (λ k. own_at plan k (message_in taking) ≡ None) of.0.now met.unanswered)

  module _ (servers : List Server) (whole : ClientNo → ℕ) (all : Judged servers whole takings) where
    abbrev Inside : List Taking → Type 0
    Inside row = (test : Taking → Bool) → list_any test row ≡ true → list_any test takings ≡ true

    one-so : (taking : Taking) (row : List Taking) (v : Verdict) → Inside (taking ∷ row) → IsOf setup plan Must m taking → PartsFor (is_quit (kind_in t taking)) v
        → IsJudged t taking v → IsSo t taking v
    one-so taking row Parts inside of quits judged = record { route = judged.route; unanswered = judged.unanswered; ends = ends-now taking of (of.one.quits said) } where
      said : list_any (λ (other : Taking). is_client other.client.number taking.client.number && is_quit (kind_in t other)) takings ≡ true
      said = inside (λ (other : Taking). is_client other.client.number taking.client.number && is_quit (kind_in t other))
          (any-one (λ (other : Taking). is_client other.client.number taking.client.number && is_quit (kind_in t other)) taking row
          (and_from (is_client taking.client.number taking.client.number) (is_quit (kind_in t taking)) (client-itself taking.client.number) quits))
    one-so taking row (Tells payloads) inside of quits judged = judged
    one-so taking row (Goes wanted) inside of quits judged = judged

    met-so : (taking : Taking) (row : List Taking) (v : Verdict) (b : Bool) → fixed.starves taking.tale.moment taking.client.number ≡ b → Inside (taking ∷ row)
        → IsOf setup plan Must m taking → PartsFor (is_quit (kind_in t taking)) v → IsMet b t taking v → IsSo t taking v ⊎ IsStarved t taking
    met-so taking row v false is inside of quits met = inl (one-so taking row v inside of quits met)
    met-so taking row v true is inside of quits met =
        let n = taking.client.number in
        let now : fixed.starves m n ≡ true = ap (λ k. fixed.starves k n) (sym of.now) ∙ is in
        let left : IsLeft n = of.one.starves now (all-left servers n now takings whole all-of all)
        (inside (is_his setup plan n Left) (any-one (is_his setup plan n Left) taking row (client-itself n))) in
        let ends : plan.ends n ≡ Some taking.tale.moment = ends-now taking of left.ends in
        inr (record {
          left = record { route = met.route; unanswered = met.unanswered; ends = ends };
          word = left.word (ends ∙ ap (λ k. Some k) of.now) ∙ ap (λ k. Some (record { from = k; place = Behind; payloads = out_of_memory ∷ [] })) (sym of.now);
        })

    row-so : (row : List Taking) (flags : ClientNo → ℕ) → Inside row → AreOf row → Judged servers flags row → AreSo t servers flags row
    row-so [] flags inside of judged = tt
    row-so (taking ∷ row) flags inside of judged = (
      met-so taking row (verdict t servers (flags taking.client.number) taking) (fixed.starves taking.tale.moment taking.client.number) refl inside of.0
          (verdict-parts t servers taking taking.client.port (flags taking.client.number) (kind_in t taking)) judged.0,
      row-so row (flag_taken t flags taking) (λ test any. inside test (any-later test taking row any)) of.1 judged.1,
    )

  pub routes-there : JudgedSo fixed.starves t before e → RoutesSo t before e
  routes-there judged =
      row-so (servers_after t there.clock there.tale e there.servers) there.flags judged takings there.flags (λ test any. any) all-of judged

-- along a log

routes-from : (fixed : Fixed) → IsNumbered fixed → (before later whole : Log) → before ++ later ≡ whole
    → LawfulAfter (JudgedSo fixed.starves (final_terms fixed whole)) before later → LawfulAfter (RoutesSo (final_terms fixed whole)) before later
routes-from fixed numbered before [] whole is judged = tt
routes-from fixed numbered before (e ∷ later) whole is judged = (
  subst (λ l. RoutesSo (final_terms fixed l) before e) is
      (routes-there fixed numbered before later e (subst (λ l. JudgedSo fixed.starves (final_terms fixed l) before e) (sym is) judged.0)),
  routes-from fixed numbered (before ++ e ∷ []) later whole (append_assoc before (e ∷ []) later ∙ is) judged.1,
)

pub routes-along : (fixed : Fixed) → IsNumbered fixed → (whole : Log) → LawfulAfter (JudgedSo fixed.starves (final_terms fixed whole)) [] whole
    → LawfulAfter (RoutesSo (final_terms fixed whole)) [] whole
routes-along fixed numbered whole judged = routes-from fixed numbered [] whole whole refl judged
