-- Whether a client has to end at an entry, by the last terms and by the world's then.
use Rattle.std.specs.Prelude.{◌≡◌, ◌≤◌, ℕ, zero, suc, Bool, false, not, ◌&&◌, ◌||◌, is_none, is_some, length, nat_eq, nat_lt, unwrap_or, List, [], ◌∷◌, ◌++◌, Option, None}
use Rattle.std.specs.List.{list_any}
use Rattle.std.specs.Option.{option_map_or}
use Rattle.std.proofs.Common.{refl, sym, ap, ◌∙◌, subst, append_assoc, arith}
use Rattle.client_session.specs.Answers.{messages_of}
use Rattle.client_session.specs.Arrivals.{arrival_of, is_served}
use Rattle.client_session.specs.Setups.{Setup as Service}
use Rattle.hostgroups.specs.declared.server.Server.{Server}
use Rattle.mx_wire.specs.Log.{Log}
use Rattle.mx_wire.specs.declared.entry.Entry.{Entry}
use Rattle.private_model.specs.View.{Setup}
use Rattle.log_story.specs.Clients.{clients_go_on, is_answered}
use Rattle.log_story.specs.Owed.{messages, name_of, talk_of}
use Rattle.log_story.specs.Plan.{Plan, Route, own_at}
use Rattle.log_story.specs.Tale.{Client, Tale, view_of}
use Rattle.tale_world.specs.Decided.{Agrees, Decided, plan_of}
use Rattle.tale_world.specs.Deciding.{World}
use Rattle.tale_world.proofs.Agreeing.{agrees-itself, same_own}
use Rattle.router_promises.proofs.Saying.{now-tale}
use Rattle.router_promises.specs.Ends.{breaks_client, is_accepted, is_at_fault, is_left, is_refused, loses_client, must_end, quits_at}
use Rattle.router_promises.specs.Due.{served}
use Rattle.router_promises.specs.Now as now
use Rattle.router_promises.specs.Now.{Now, now_at, while_ending}
use Rattle.router_promises.specs.Takings.{as_told, takings_at}
use Rattle.router_promises.specs.Terms.{Terms, tale_at}
use Rattle.shared_router.specs.Ends.{ending_of, must_go, was_left}
use Rattle.shared_router.specs.Fixed.{Fixed, IsNumbered, setup_of}
use Rattle.shared_router.specs.Judged.{heard, with_plan}
use Rattle.shared_router.specs.More.{More, now_of, terms_of}
use Rattle.shared_router.specs.Shared.{final_terms, shared, world_at}
use Rattle.shared_router.proofs.Ending.{agrees-ending, going-so, quits_by, quits-same}
use Rattle.shared_router.proofs.Looked.{IsLooked}
use Rattle.shared_router.proofs.Parting.{even_at, fold_more, tale_then, world_more}
use Rattle.shared_router.proofs.Routing.{agrees_behind, same_at}
use Rattle.shared_router.proofs.Since.{going-before, going-on}
use Rattle.shared_router.proofs.Staying.{all_stay, freeing_stays, log_at, step_stays}
use Rattle.tale_world.specs.World.{is_counted, is_told}

module _ (fixed : Fixed) (numbered : IsNumbered fixed) where
  abbrev setup : Setup
  setup = setup_of fixed

  abbrev pub last_plan : Log → Plan
  last_plan log = plan_of (world_at fixed log).decided

  -- as clients go on at an entry, behind the beginning of the log
  abbrev pub ending_world : Log → Entry → World More
  ending_world before e = going-on fixed (world_at fixed before) e

  -- The world before clients are ended is what the promise has by the last terms.
  pub record IsEnding (before : Log) (e : Entry) (log : Log) : Type 0 where
    pub agrees : Agrees (ending_world before e).decided (ending_world before e).tale.moment (last_plan log)
    pub was : (now_at (final_terms fixed log) before).tale ≡ (world_at fixed before).tale
    pub tale : (while_ending (final_terms fixed log) (now_at (final_terms fixed log) before) e).tale ≡ (ending_world before e).tale
    pub servers : (while_ending (final_terms fixed log) (now_at (final_terms fixed log) before) e).servers ≡ (ending_world before e).more.servers
    pub entries : (ending_world before e).more.log ≡ before ++ e ∷ []
    pub known : (ending_world before e).more.before ≡ now_of fixed (world_at fixed before)

  pub ending-so : (before later : Log) (e : Entry) (log : Log) → before ++ e ∷ later ≡ log → IsEnding before e log
  ending-so before later e log is =
      let w : World More = world_at fixed before in
      let t : Terms = final_terms fixed log in
      let plan : Plan = last_plan log in
      let a : World More = is_told setup (shared fixed) w e in
      let b : World More = is_counted (shared fixed) a e in
      let c : World More = heard fixed w e in
      let there : Now = now_at t before in
      let agrees : Agrees (going-on fixed w e).decided (going-on fixed w e).tale.moment plan =
      agrees-ending fixed numbered w e plan (even_at fixed before) (agrees_behind fixed numbered before later e log is) in
      let tale : there.tale ≡ w.tale = now-tale t before ∙ subst (λ l. tale_at (final_terms fixed l) before ≡ w.tale) is (tale_then fixed before (e ∷ later)) in
      let so = going-so fixed numbered w e plan (even_at fixed before) agrees in
      let step : now_at t (before ++ e ∷ []) ≡ now.next t there e = fold_more (now.next t) before (e ∷ []) (now.at_first t) in
      let same = subst (λ l. (now_at (final_terms fixed l) (before ++ e ∷ [])).servers ≡ (world_at fixed (before ++ e ∷ [])).more.servers)
      (behind before later e log is) (same_at fixed numbered (before ++ e ∷ []) later).servers in
      record {
        agrees = agrees;
        was = tale;
        tale = ap (λ x. clients_go_on setup plan (view_of setup x) e (as_told setup plan x e)) tale ∙ sym so.tale;
        servers = ap (λ (x : Now). x.servers) (sym step) ∙ same ∙ ap (λ (x : World More). x.more.servers) (world_more fixed before (e ∷ []))
            ∙ (step_stays fixed w e).servers
            ∙ sym ((all_stay fixed (view_of setup w.tale) e c.tale.clients c).servers ∙ (freeing_stays fixed b.tale.links b).servers);
        entries = (all_stay fixed (view_of setup w.tale) e c.tale.clients c).log ∙ (freeing_stays fixed b.tale.links b).log ∙ ap (λ l. l ++ e ∷ []) (log_at fixed before);
        known = going-before fixed w e;
      }
    where
      behind : (before later : Log) (e : Entry) (log : Log) → before ++ e ∷ later ≡ log → (before ++ e ∷ []) ++ later ≡ log
      behind before later e log is = append_assoc before (e ∷ []) later ∙ is

  -- Whether a message is answered.
  pub answered-same : (d : Decided) (tale : Tale) (plan : Plan) (client : Client) → Agrees d tale.moment plan → IsLooked d client → (i : ℕ) → i ≤ client.taken
      → is_answered plan tale (view_of setup tale) client i ≡ is_answered (plan_of d) tale (view_of setup tale) client i
  answered-same d tale plan client agrees looked zero below = refl
  answered-same d tale plan client agrees looked (suc i) below =
      let own = looked.own i below in
      ap (λ (o : Option (List (List ℕ))). is_some o || is_some ((view_of setup tale).replies (name_of client (suc i))))
      (sym (same_own d tale.moment plan agrees (name_of client (suc i)) own.0 own.1))

  -- Whether its last message was left.

  abbrev left_by : Plan → (moment : ℕ) → Client → (ordinal : ℕ) → Bool
  left_by plan moment client ordinal =
      nat_lt 0 ordinal && (is_none (plan.routes (name_of client ordinal)) && is_none (own_at plan moment (name_of client ordinal)))

  left-at : (d : Decided) (moment : ℕ) (plan : Plan) (client : Client) → Agrees d moment plan → IsLooked d client → (i : ℕ) → i ≤ client.taken
      → left_by plan moment client i ≡ left_by (plan_of d) moment client i
  left-at d moment plan client agrees looked zero below = refl
  left-at d moment plan client agrees looked (suc i) below =
      let name = name_of client (suc i) in
      let route = looked.routes i below in
      let own = looked.own i below in
      ap (λ (o : Option Route). nat_lt 0 (suc i) && (is_none o && is_none (own_at plan moment name)))
      (agrees.routes name route.0 route.1 ∙ sym (ap (λ (o : Option (Option Route)). unwrap_or o None) route.1))
      ∙ ap (λ (o : Option (List (List ℕ))). nat_lt 0 (suc i) && (is_none ((plan_of d).routes name) && is_none o))
      (sym (same_own d moment plan agrees name own.0 own.1))

  -- The causes, one by one.

  abbrev must_by : (loses accepted served refused faulty quits breaks : Bool) → Bool
  must_by loses accepted served refused faulty quits breaks =
      loses || ((accepted && not served) || (refused || (faulty || (quits || breaks))))

  module _ (before : Log) (e : Entry) (log : Log) (so : IsEnding before e log) (client : Client) (looked : IsLooked (ending_world before e).decided client) where
    abbrev t : Terms
    t = final_terms fixed log

    abbrev plan : Plan
    plan = last_plan log

    abbrev w : World More
    w = world_at fixed before

    abbrev d : World More
    d = ending_world before e

    abbrev there : Now
    there = now_at t before

    abbrev ending : Now
    ending = while_ending t there e

    abbrev serving : Service → Plan
    serving service = record plan { service = service }

    pub served-same : served t (before ++ e ∷ []) client ≡ served (terms_of fixed d) d.more.log client
    served-same =
        ap (λ service. option_map_or (is_served service) (arrival_of client.number.0 (before ++ e ∷ [])) false) so.agrees.service
        ∙ ap (λ l. option_map_or (is_served d.decided.service) (arrival_of client.number.0 l) false) (sym so.entries)

    refused-same : is_refused t client ≡ is_refused (terms_of fixed d) client
    refused-same = ap (λ service. is_refused (with_plan t (serving service)) client) so.agrees.service

    faulty_by : Service → (answered : Bool) → Bool
    faulty_by service answered =
        is_some (messages_of (talk_of (serving service) client)).fault && (nat_eq client.taken (length (messages (serving service) client)) && answered)

    fault-same : is_at_fault t ending client ≡ is_at_fault (terms_of fixed d) (now_of fixed d) client
    unfolding faulty_by
    fault-same =
        ap (λ x. faulty_by plan.service (is_answered plan x (view_of setup x) client client.taken)) so.tale
        ∙ ap (faulty_by plan.service) (answered-same d.decided d.tale plan client so.agrees looked client.taken (omega arith))
        ∙ ap (λ service. faulty_by service (is_answered (plan_of d.decided) d.tale (view_of setup d.tale) client client.taken)) so.agrees.service

    quit-same : quits_at t there e client ≡ quits_at (terms_of fixed d) d.more.before e client
    quit-same =
        ap (λ x. list_any (quits_by fixed numbered plan client) (takings_at setup plan x e)) so.was
        ∙ quits-same fixed numbered client plan (plan_of d.decided) w e (even_at fixed before) so.agrees (agrees-itself d.decided d.tale.moment)
        ∙ ap (λ (n : Now). list_any (quits_by fixed numbered (plan_of d.decided) client) (takings_at setup (plan_of d.decided) n.tale e)) (sym so.known)

    pub left-same : is_left t ending client ≡ was_left (ending_of fixed d e) client
    left-same =
        ap (λ (tale : Tale). left_by plan tale.moment client client.taken) so.tale
        ∙ left-at d.decided d.tale.moment plan client so.agrees looked client.taken (omega arith)

    abbrev was_at : Tale → Now
    was_at tale = record there { tale = tale }

    abbrev is_at_end : Tale → List Server → Now
    is_at_end tale servers = record ending { tale = tale; servers = servers }

    breaks-same : breaks_client setup there ending e client ≡ breaks_client setup d.more.before (now_of fixed d) e client
    breaks-same =
        ap (λ x. breaks_client setup (was_at x) ending e client) so.was
        ∙ ap (λ x. breaks_client setup (was_at w.tale) (is_at_end x ending.servers) e client) so.tale
        ∙ ap (λ x. breaks_client setup (was_at w.tale) (is_at_end d.tale x) e client) so.servers
        ∙ ap (λ (n : Now). breaks_client setup n (now_of fixed d) e client) (sym so.known)

    pub must-same : must_end t (before ++ e ∷ []) there ending e client ≡ must_go (ending_of fixed d e) client
    must-same =
        let loses = loses_client e client in
        let accepted = is_accepted e client in
        ap (λ x. must_by loses accepted x (is_refused t client) (is_at_fault t ending client) (quits_at t there e client) (breaks_client setup there ending e client)) served-same
        ∙ ap (λ x. must_by loses accepted (served (terms_of fixed d) d.more.log client) x (is_at_fault t ending client) (quits_at t there e client) (breaks_client setup there ending e client)) refused-same
        ∙ ap (λ x. must_by loses accepted (served (terms_of fixed d) d.more.log client) (is_refused (terms_of fixed d) client) x (quits_at t there e client) (breaks_client setup there ending e client)) fault-same
        ∙ ap (λ x. must_by loses accepted (served (terms_of fixed d) d.more.log client) (is_refused (terms_of fixed d) client) (is_at_fault (terms_of fixed d) (now_of fixed d) client) x (breaks_client setup there ending e client)) quit-same
        ∙ ap (λ x. must_by loses accepted (served (terms_of fixed d) d.more.log client) (is_refused (terms_of fixed d) client) (is_at_fault (terms_of fixed d) (now_of fixed d) client)
        (quits_at (terms_of fixed d) d.more.before e client) x) breaks-same
