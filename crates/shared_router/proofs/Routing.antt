-- Each entry, and each log: what is taken up is judged by the last plan.
use Rattle.std.specs.Prelude.{◌≡◌, ◌≤◌, ◌<◌, ℕ, suc, fold, List, [], ◌∷◌, ◌++◌, ◌⊎◌, ◌||◌, ◌&&◌, Bool, true, false, not, if◌then◌else◌, Option, Some, None}
use Rattle.std.specs.List.{list_any}
use Rattle.std.specs.Option.{option_map, option_map_or}
use Rattle.std.proofs.Common.{refl, sym, ap, ◌∙◌, subst, append_assoc, append-nil, arith, inl, inr}
use Rattle.mx_base.specs.declared.names.LinkId.{LinkId}
use Rattle.mx_wire.specs.Log.{Log, moment_step, opened_links}
use Rattle.mx_wire.specs.Moments.{LawfulAfter}
use Rattle.mx_wire.specs.declared.entry.Entry.{Entry}
use Rattle.mx_wire.specs.declared.entry.Entry.TheVariants as entry
use Rattle.hostgroups.specs.Servers.{once_open_failed}
use Rattle.hostgroups.specs.declared.server.Server.{Server}
use Rattle.private_model.specs.Names.{ServerId}
use Rattle.private_model.specs.Story.{is_link_id}
use Rattle.server_side.specs.Login.{opening}
use Rattle.router_promises.specs.Running.{fails_badly, is_failed, servers_after, shunned_by}
use Rattle.tale_world.proofs.Links.{log_links}
use Rattle.private_model.specs.View.{Setup}
use Rattle.server_side.specs.Account.{Account as Login}
use Rattle.log_story.specs.Plan.{Plan}
use Rattle.log_story.specs.Servers.{links_are_freed}
use Rattle.log_story.specs.Tale.{Tale, counted, is_to_server, view_of}
use Rattle.log_story.specs.Telling.{told, wire_with}
use Rattle.tale_world.specs.Decided.{Agrees, plan_of}
use Rattle.tale_world.specs.Deciding.{Deciding, World}
use Rattle.tale_world.specs.World.{are_freed, decided_told, freed_there, go_on, is_counted, is_ended, is_told, world_step}
use Rattle.tale_world.proofs.Agreeing.{agrees-itself, agrees-less, filled-there, same_login}
use Rattle.tale_world.proofs.Following.{are_freed_follows, counted_agrees, ended_agrees, going_even, go_on_follows, step_even, stepped, told-more, told_same}
use Rattle.tale_world.proofs.Telling.{ends_moment, told_moment}
use Rattle.router_promises.proofs.Saying.{now-tale}
use Rattle.router_promises.specs.Now as now
use Rattle.router_promises.specs.Now.{flag_taken, now_at, taken_since, takings_now}
use Rattle.router_promises.specs.Takings.{as_told, takings_at, takings_from}
use Rattle.router_promises.specs.Terms.{Terms, Tried, plan_in, tale_at}
use Rattle.shared_router.specs.Fixed.{Fixed, IsNumbered, setup_of}
use Rattle.shared_router.specs.Judged.{AreJudged, IsPromptAt, JudgedSo, PromptSo, heard}
use Rattle.shared_router.specs.More.{More, terms_of}
use Rattle.shared_router.specs.Shared.{final_terms, shared, world_at}
use Rattle.shared_router.proofs.Parting.{agrees_then, even_at, first, fold_more, next, tale_then, world_more}
use Rattle.shared_router.proofs.Walking.{terms, walk_all}

module _ (fixed : Fixed) (numbered : IsNumbered fixed) where
  abbrev setup : Setup
  setup = setup_of fixed

  abbrev by : Deciding More
  by = shared fixed

  -- links that are given back change nothing else
  freeing_more : (xs : List LinkId) (w : World More) → (fold (freed_there setup by) w xs).more ≡ w.more
  freeing_more [] w = refl
  freeing_more (x ∷ xs) w = freeing_more xs (freed_there setup by w x)

  pub closed : (w : World More) (e : Entry) → w.decided.until ≡ w.tale.moment → (heard fixed w e).tale.moment ≤ suc (heard fixed w e).decided.until
  closed w e even =
      let a : World More = is_told setup by w e in
      let b : World More = is_counted by a e in
      let m = suc a.tale.moment in
      let to_c = are_freed_follows setup by m b refl in
      let kept : a.tale.moment ≡ w.tale.moment = told_moment setup (plan_of a.decided) w.tale e in
      let until_a : a.decided.until ≡ w.decided.until = (told-more setup by w e).until in
      let until_c : (heard fixed w e).decided.until ≡ b.decided.until = to_c.more.until in
      let now_c : (heard fixed w e).tale.moment ≡ m = to_c.now in
      omega arith

  pub record IsRouted (plan : Plan) (bare : LinkId → Bool) (tried : ℕ → Tried) (w : World More) (e : Entry) : Type 0 where
    pub judged : IsPromptAt fixed w e
        → AreJudged fixed.starves (terms fixed numbered plan bare tried (heard fixed w e).more.servers (heard fixed w e).more.clock) (heard fixed w e).more.servers w.more.flags (takings_at setup plan w.tale e)
    pub stay : (world_step setup by w e).more.servers ≡ (is_told setup by w e).more.servers
    pub tick : (world_step setup by w e).more.clock ≡ (is_told setup by w e).more.clock
    pub flags : (world_step setup by w e).more.flags
        ≡ fold (flag_taken (terms fixed numbered plan bare tried (heard fixed w e).more.servers (heard fixed w e).more.clock)) w.more.flags (takings_at setup plan w.tale e)
    pub since : (world_step setup by w e).more.since ≡ fold (taken_since (heard fixed w e).more.clock) w.more.since (takings_at setup plan w.tale e)

  routed_at : (plan : Plan) (bare : LinkId → Bool) (tried : ℕ → Tried) (w : World More) (e : Entry) → w.decided.until ≡ w.tale.moment
      → Agrees (world_step setup by w e).decided (world_step setup by w e).tale.moment plan → IsRouted plan bare tried w e
  routed_at plan bare tried w e even agrees =
      let a : World More = is_told setup by w e in
      let b : World More = is_counted by a e in
      let c : World More = are_freed setup by b in
      let d : World More = go_on setup by (view_of setup w.tale) e c in
      let f : World More = is_ended by d e in
      let m = suc a.tale.moment in
      let to_c = are_freed_follows setup by m b refl in
      let gone : suc d.decided.until ≡ d.tale.moment = going_even setup by w e even in
      let now_f : f.tale.moment ≡ d.tale.moment = ends_moment (plan_of f.decided) d.tale.clients d.tale in
      let to_g = are_freed_follows setup by f.tale.moment f refl in
      let on_f : Agrees f.decided f.tale.moment plan = agrees-less f.decided (world_step setup by w e).decided f.tale.moment plan to_g.more
      (subst (λ k. Agrees (world_step setup by w e).decided k plan) to_g.now agrees) in
      let early : d.decided.until < d.tale.moment = omega arith in
      let on_d : Agrees d.decided d.tale.moment plan = ended_agrees setup by d e plan early (subst (λ k. Agrees f.decided k plan) now_f on_f) in
      let closed_c : c.tale.moment ≤ suc c.decided.until = closed w e even in
      let to_d = go_on_follows setup by c.tale.moment (view_of setup w.tale) e c refl closed_c in
      let on_d_c : Agrees d.decided c.tale.moment plan = subst (λ k. Agrees d.decided k plan) to_d.now on_d in
      let on_c : Agrees c.decided c.tale.moment plan = agrees-less c.decided d.decided c.tale.moment plan to_d.more on_d_c in
      let on_c_m : Agrees c.decided m plan = subst (λ k. Agrees c.decided k plan) to_c.now on_c in
      let on_b : Agrees b.decided m plan = agrees-less b.decided c.decided m plan to_c.more on_c_m in
      let on_a : Agrees a.decided a.tale.moment plan = counted_agrees setup by a e plan on_b in
      let first : a.tale ≡ told setup plan w.tale e = told_same setup by w e a.tale.moment plan (told_moment setup (plan_of a.decided) w.tale e) on_a in
      let tale : c.tale ≡ as_told setup plan w.tale e = to_c.same plan on_c_m ∙ ap (λ t. links_are_freed setup plan (counted t)) first in
      let kept : c.more ≡ a.more = freeing_more b.tale.links b in
      let walked = walk_all fixed numbered plan bare tried c.more.servers c.more.clock c.tale.moment (view_of setup w.tale) e c.tale.clients c refl closed_c refl refl on_d_c in
      let flags : c.more.flags ≡ w.more.flags = ap (λ (x : More). x.flags) kept in
      let from : c.more.since ≡ w.more.since = ap (λ (x : More). x.since) kept in
      let there = terms fixed numbered plan bare tried c.more.servers c.more.clock in
      let takings : takings_from setup plan (view_of setup w.tale) e c.tale.clients c.tale ≡ takings_at setup plan w.tale e =
      ap (λ t. takings_from setup plan (view_of setup w.tale) e t.clients t) tale in
      record {
        judged = λ prompt. subst (λ ts. AreJudged fixed.starves there c.more.servers w.more.flags ts) takings
            (subst (λ fl. AreJudged fixed.starves there c.more.servers fl (takings_from setup plan (view_of setup w.tale) e c.tale.clients c.tale)) flags (walked.judged prompt));
        stay = ap (λ (x : More). x.servers) (freeing_more f.tale.links f) ∙ walked.stay ∙ ap (λ (x : More). x.servers) kept;
        tick = ap (λ (x : More). x.clock) (freeing_more f.tale.links f) ∙ walked.tick ∙ ap (λ (x : More). x.clock) kept;
        flags = ap (λ (x : More). x.flags) (freeing_more f.tale.links f) ∙ walked.flags
            ∙ ap (λ fl. fold (flag_taken there) fl (takings_from setup plan (view_of setup w.tale) e c.tale.clients c.tale)) flags
            ∙ ap (λ ts. fold (flag_taken there) w.more.flags ts) takings;
        since = ap (λ (x : More). x.since) (freeing_more f.tale.links f) ∙ walked.since
            ∙ ap (λ fl. fold (taken_since c.more.clock) fl (takings_from setup plan (view_of setup w.tale) e c.tale.clients c.tale)) from
            ∙ ap (λ ts. fold (taken_since c.more.clock) w.more.since ts) takings;
      }

  -- Servers' states: the login of each link of the tale is decided.

  abbrev pub HasLogins : World More → Type 0
  HasLogins w = (link : LinkId) → is_to_server w.tale link ≡ true → (login : Login) × (w.decided.logins link ≡ Some login)

  logins_kept : (w : World More) (e : Entry) → w.decided.until ≡ w.tale.moment → (link : LinkId) (login : Login) → (decided_told setup by w e).logins link ≡ Some login
      → (world_step setup by w e).decided.logins link ≡ Some login
  logins_kept w e even link login is =
      let a : World More = is_told setup by w e in
      let b : World More = is_counted by a e in
      let c : World More = are_freed setup by b in
      let d : World More = go_on setup by (view_of setup w.tale) e c in
      let f : World More = is_ended by d e in
      let to_c = are_freed_follows setup by (suc a.tale.moment) b refl in
      let to_d = go_on_follows setup by c.tale.moment (view_of setup w.tale) e c refl (closed w e even) in
      let to_g = are_freed_follows setup by f.tale.moment f refl in
      to_g.more.logins link login (to_d.more.logins link login (to_c.more.logins link login is))

  any_of : (link : LinkId) (a b : List LinkId) → list_any (is_link_id link) (a ++ b) ≡ true → (list_any (is_link_id link) a ≡ true) ⊎ (list_any (is_link_id link) b ≡ true)
  any_of link [] b is = inr is
  any_of link (x ∷ a) b is = by_test (is_link_id link x) refl (any_of link a b) is where
    by_test : (t : Bool) → is_link_id link x ≡ t → (list_any (is_link_id link) (a ++ b) ≡ true → (list_any (is_link_id link) a ≡ true) ⊎ (list_any (is_link_id link) b ≡ true))
        → (t || list_any (is_link_id link) (a ++ b)) ≡ true → ((is_link_id link x || list_any (is_link_id link) a) ≡ true) ⊎ (list_any (is_link_id link) b ≡ true)
    by_test true same later found = inl (ap (λ t. t || list_any (is_link_id link) a) same)
    by_test false same later found = elim (later found) [
      | inl first ↦ inl (ap (λ t. t || list_any (is_link_id link) a) same ∙ first)
      | inr second ↦ inr second
    ]

  opened_login : (w : World More) (e : Entry) (link : LinkId) → list_any (is_link_id link) (opened_links (e ∷ [])) ≡ true → (login : Login) × ((decided_told setup by w e).logins link ≡ Some login)
  opened_login w (entry.Opened server address other) link is =
      (_, filled-there (λ l. is_link_id l other) (λ l. by.login w other) w.decided.logins link (first is))
    where
      first : (is_link_id link other || false) ≡ true → is_link_id link other ≡ true
      first found = by_test (is_link_id link other) found where
        by_test : (t : Bool) → (t || false) ≡ true → t ≡ true
        by_test true found = refl
        by_test false found = found
  opened_login w _ link is = absurd (cc)

  logins_step : (w : World More) (e : Entry) → w.decided.until ≡ w.tale.moment → HasLogins w → HasLogins (world_step setup by w e)
  logins_step w e even has link to_server =
      let v : World More = world_step setup by w e in
      let plan : Plan = plan_of v.decided in
      let links : v.tale.links ≡ w.tale.links ++ opened_links (e ∷ []) =
      ap (λ (t : Tale). t.links) (stepped setup by w e plan even (agrees-itself v.decided v.tale.moment)).same ∙ log_links setup plan (e ∷ []) w.tale in
      elim (any_of link w.tale.links (opened_links (e ∷ [])) (ap (list_any (is_link_id link)) (sym links) ∙ to_server)) [
        | inl old ↦ let login = has link old in (login.0, logins_kept w e even link login.0 ((told-more setup by w e).logins link login.0 login.1))
        | inr new ↦ let login = opened_login w e link new in (login.0, logins_kept w e even link login.0 login.1)
      ]

  logins_from : (log : Log) (w : World More) → w.decided.until ≡ w.tale.moment → HasLogins w → HasLogins (fold (next fixed) w log)
  logins_from [] w even has = has
  logins_from (e ∷ log) w even has = logins_from log (next fixed w e) (step_even setup by w e) (logins_step w e even has)

  pub logins_at : (log : Log) → HasLogins (world_at fixed log)
  logins_at log = logins_from log (first fixed) refl (λ link is. absurd (cc))

  -- so servers' states are the same by terms that agree

  none_of : (tale : Tale) (b c : Bool) → (if b then None else option_map (λ (l : LinkId). (tale.wires l).server) (if c then None else None)) ≡ None
  none_of tale true c = refl
  none_of tale false true = refl
  none_of tale false false = refl

  abbrev shuns : Tale → LinkId → (there refusal failed begun : Bool) → Option ServerId
  shuns tale link there refusal failed begun =
      if refusal then None
      else option_map (λ (l : LinkId). (tale.wires l).server) (if failed then if there && (not (tale.wires link).entered && not begun) then Some link else None else None)

  shuns_none : (tale : Tale) (link : LinkId) (refusal failed begun : Bool) → shuns tale link false refusal failed begun ≡ None
  shuns_none tale link refusal failed begun = none_of tale refusal failed

  abbrev shuns_by : Tale → LinkId → (bytes : List ℕ) → Login → Option ServerId
  shuns_by tale link bytes login =
      let opened = opening login (wire_with tale link bytes).unread in
      shuns tale link (is_to_server tale link) (not (fails_badly opened)) (is_failed opened) (is_failed (opening login (tale.wires link).unread))

  abbrev loses_by : Tale → LinkId → Login → Option ServerId
  loses_by tale link login = shuns tale link (is_to_server tale link) false true (is_failed (opening login (tale.wires link).unread))

  either_login : (tale : Tale) (link : LinkId) (makes : Bool → Login → Option ServerId) (p q : Login) → ((login : Login) → makes false login ≡ None)
      → (is_to_server tale link ≡ true → p ≡ q) → makes (is_to_server tale link) p ≡ makes (is_to_server tale link) q
  either_login tale link makes p q nothing same = by_test (is_to_server tale link) same where
    by_test : (b : Bool) → (b ≡ true → p ≡ q) → makes b p ≡ makes b q
    by_test true same = ap (makes true) (same refl)
    by_test false same = nothing p ∙ sym (nothing q)

  shunned_same : (one other : Terms) (tale : Tale) (e : Entry) → ((link : LinkId) → is_to_server tale link ≡ true → (plan_in one).logins link ≡ (plan_in other).logins link)
      → shunned_by one tale e ≡ shunned_by other tale e
  shunned_same one other tale (entry.Got link bytes) same =
      either_login tale link (λ there login. let opened = opening login (wire_with tale link bytes).unread in
      shuns tale link there (not (fails_badly opened)) (is_failed opened) (is_failed (opening login (tale.wires link).unread)))
      ((plan_in one).logins link) ((plan_in other).logins link)
      (λ login. shuns_none tale link (not (fails_badly (opening login (wire_with tale link bytes).unread))) (is_failed (opening login (wire_with tale link bytes).unread))
      (is_failed (opening login (tale.wires link).unread))) (same link)
  shunned_same one other tale (entry.Ended link) same =
      either_login tale link (λ there login. shuns tale link there false true (is_failed (opening login (tale.wires link).unread)))
      ((plan_in one).logins link) ((plan_in other).logins link) (λ login. refl) (same link)
  shunned_same one other tale (entry.ReadFailed link) same =
      either_login tale link (λ there login. shuns tale link there false true (is_failed (opening login (tale.wires link).unread)))
      ((plan_in one).logins link) ((plan_in other).logins link) (λ login. refl) (same link)
  shunned_same one other tale (entry.WriteFailed link) same =
      either_login tale link (λ there login. shuns tale link there false true (is_failed (opening login (tale.wires link).unread)))
      ((plan_in one).logins link) ((plan_in other).logins link) (λ login. refl) (same link)
  shunned_same one other tale _ same = refl

  servers_same : (one other : Terms) (clock : ℕ) (tale : Tale) (e : Entry) (servers : List Server)
      → ((link : LinkId) → is_to_server tale link ≡ true → (plan_in one).logins link ≡ (plan_in other).logins link)
      → servers_after one clock tale e servers ≡ servers_after other clock tale e servers
  servers_same one other clock tale (entry.Woke until_ms now_ms) servers same = refl
  servers_same one other clock tale e servers same = ap (λ found. option_map_or (λ server. once_open_failed servers server clock) found servers) (shunned_same one other tale e same)

  -- along a log

  -- the promise's `Now`, by the last terms, is the world's in these
  pub record IsSame (t : Terms) (log : Log) : Type 0 where
    pub flags : (now_at t log).flags ≡ (world_at fixed log).more.flags
    pub since : (now_at t log).since ≡ (world_at fixed log).more.since
    pub servers : (now_at t log).servers ≡ (world_at fixed log).more.servers
    pub clock : (now_at t log).clock ≡ (world_at fixed log).more.clock

  pub record IsStepSo (t : Terms) (before : Log) (e : Entry) : Type 0 where
    pub judged : PromptSo fixed before e → JudgedSo fixed.starves t before e
    pub same : IsSame t (before ++ e ∷ [])

  -- the last plan agrees with what is decided behind each entry
  pub agrees_behind : (before later : Log) (e : Entry) (log : Log) → before ++ e ∷ later ≡ log
      → Agrees (next fixed (world_at fixed before) e).decided (next fixed (world_at fixed before) e).tale.moment (plan_of (world_at fixed log).decided)
  agrees_behind before later e log is =
      let plan : Plan = plan_of (world_at fixed log).decided in
      subst (λ (x : World More). Agrees x.decided x.tale.moment plan) (world_more fixed before (e ∷ []))
      (subst (λ (l : Log). Agrees (world_at fixed (before ++ e ∷ [])).decided (world_at fixed (before ++ e ∷ [])).tale.moment (plan_of (world_at fixed l).decided))
      (append_assoc before (e ∷ []) later ∙ is) (agrees_then fixed (before ++ e ∷ []) later))

  step_so : (before later : Log) (e : Entry) (log : Log) → before ++ e ∷ later ≡ log → IsSame (final_terms fixed log) before → IsStepSo (final_terms fixed log) before e
  step_so before later e log is same =
      let w : World More = world_at fixed before in
      let last : World More = world_at fixed log in
      let t : Terms = final_terms fixed log in
      let n : now.Now = now_at t before in
      let told_then : World More = is_told setup by w e in
      let plan : Plan = plan_of last.decided in
      let agrees : Agrees (next fixed w e).decided (next fixed w e).tale.moment plan = agrees_behind before later e log is in
      let routed = routed_at plan last.more.bare last.more.tried w e (even_at fixed before) agrees in
      let on_w : Agrees w.decided w.tale.moment plan = (stepped setup by w e plan (even_at fixed before) agrees).before in
      let kept : (heard fixed w e).more ≡ told_then.more = freeing_more (is_counted by told_then e).tale.links (is_counted by told_then e) in
      let tale : n.tale ≡ w.tale = now-tale t before ∙ subst (λ l. tale_at (final_terms fixed l) before ≡ w.tale) is (tale_then fixed before (e ∷ later)) in
      let servers : servers_after t n.clock n.tale e n.servers ≡ told_then.more.servers =
      ap (λ x. servers_after t n.clock x e n.servers) tale ∙ ap (λ c. servers_after t c w.tale e n.servers) same.clock ∙ ap (λ s. servers_after t w.more.clock w.tale e s) same.servers
      ∙ servers_same t (terms_of fixed w) w.more.clock w.tale e w.more.servers
      (λ link there. let login = logins_at before link there in sym (same_login w.decided w.tale.moment plan on_w link login.0 login.1)) in
      let step : now_at t (before ++ e ∷ []) ≡ now.next t n e = fold_more (now.next t) before (e ∷ []) (now.at_first t) in
      let world : World More = next fixed w e in
      let world_is : world ≡ world_at fixed (before ++ e ∷ []) = sym (world_more fixed before (e ∷ [])) in
      let clock : moment_step n.clock e ≡ told_then.more.clock = ap (λ c. moment_step c e) same.clock in
      let ticked : (heard fixed w e).more.clock ≡ told_then.more.clock = ap (λ (x : More). x.clock) kept in record {
        judged = λ prompt. subst (λ s. AreJudged fixed.starves t s n.flags (takings_at setup plan n.tale e)) (sym servers)
            (subst (λ x. AreJudged fixed.starves t told_then.more.servers n.flags (takings_at setup plan x e)) (sym tale)
            (subst (λ fl. AreJudged fixed.starves t told_then.more.servers fl (takings_at setup plan w.tale e)) (sym same.flags)
            (subst (λ (x : More). AreJudged fixed.starves t x.servers w.more.flags (takings_at setup plan w.tale e)) kept (routed.judged prompt))));
        same = record {
          flags = ap (λ (x : now.Now). x.flags) step
              ∙ ap (λ x. fold (flag_taken t) n.flags (takings_at setup plan x e)) tale
              ∙ ap (λ fl. fold (flag_taken t) fl (takings_at setup plan w.tale e)) same.flags
              ∙ sym routed.flags ∙ ap (λ (x : World More). x.more.flags) world_is;
          since = ap (λ (x : now.Now). x.since) step
              ∙ ap (λ x. fold (taken_since (moment_step n.clock e)) n.since (takings_at setup plan x e)) tale
              ∙ ap (λ f. fold (taken_since (moment_step n.clock e)) f (takings_at setup plan w.tale e)) same.since
              ∙ ap (λ c. fold (taken_since c) w.more.since (takings_at setup plan w.tale e)) (clock ∙ sym ticked)
              ∙ sym routed.since ∙ ap (λ (x : World More). x.more.since) world_is;
          servers = ap (λ (x : now.Now). x.servers) step ∙ servers ∙ sym routed.stay ∙ ap (λ (x : World More). x.more.servers) world_is;
          clock = ap (λ (x : now.Now). x.clock) step ∙ clock ∙ sym routed.tick ∙ ap (λ (x : World More). x.more.clock) world_is;
        };
      }

  same_from : (before middle later log : Log) → before ++ (middle ++ later) ≡ log → IsSame (final_terms fixed log) before → IsSame (final_terms fixed log) (before ++ middle)
  same_from before [] later log is same = subst (IsSame (final_terms fixed log)) (sym (append-nil before)) same
  same_from before (e ∷ middle) later log is same =
      subst (IsSame (final_terms fixed log)) (append_assoc before (e ∷ []) middle)
      (same_from (before ++ e ∷ []) middle later log (append_assoc before (e ∷ []) (middle ++ later) ∙ is) (step_so before (middle ++ later) e log is same).same)

  pub same_at : (before later : Log) → IsSame (final_terms fixed (before ++ later)) before
  same_at before later = same_from [] before later (before ++ later) refl (record { flags = refl; since = refl; servers = refl; clock = refl })

  pub judged_at : (before later : Log) (e : Entry) → PromptSo fixed before e → JudgedSo fixed.starves (final_terms fixed (before ++ e ∷ later)) before e
  judged_at before later e prompt = (step_so before later e (before ++ e ∷ later) refl (same_at before (e ∷ later))).judged prompt

  routes_from : (before later log : Log) → before ++ later ≡ log
      → LawfulAfter (PromptSo fixed) before later → LawfulAfter (JudgedSo fixed.starves (final_terms fixed log)) before later
  routes_from before [] log is prompt = tt
  routes_from before (e ∷ later) log is prompt = (
    subst (λ l. JudgedSo fixed.starves (final_terms fixed l) before e) is (judged_at before later e prompt.0),
    routes_from (before ++ e ∷ []) later log (append_assoc before (e ∷ []) later ∙ is) prompt.1,
  )

  pub routes_kept : (log : Log) → LawfulAfter (PromptSo fixed) [] log → LawfulAfter (JudgedSo fixed.starves (final_terms fixed log)) [] log
  routes_kept log prompt = routes_from [] log log refl prompt
