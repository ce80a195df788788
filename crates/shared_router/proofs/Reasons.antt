-- Each statement that is given up at an entry of a log has its cause.
use Rattle.std.specs.Prelude.{◌≡◌, ◌≢◌, ◌+◌, ◌<◌, ◌≤◌, List, ℕ, suc, Bool, true, false, not, ◌&&◌, is_some, length, nat_eq, nat_le, if◌then◌else◌, [], ◌∷◌, ◌++◌, Option, Some, None}
use Rattle.std.specs.List.{list_any}
use Rattle.std.specs.Option.{option_and_then}
use Rattle.std.proofs.Common.{refl, sym, ap, ◌∙◌, subst, append-nil, append_assoc, arith, inl, inr, length-append}
use Rattle.std.proofs.lemmas.Bool.{and_from, and_parts, leb-false, leb-true, not-true}
use Rattle.mx_base.specs.declared.names.LinkId.{LinkId}
use Rattle.mx_wire.specs.Log.{Log}
use Rattle.mx_wire.specs.Moments.{AllLawful, LawfulAfter}
use Rattle.mx_wire.specs.Tells.{Fits}
use Rattle.mx_wire.specs.declared.entry.Entry.{Entry}
use Rattle.private_model.specs.Names.{MessageName}
use Rattle.private_model.specs.Story.{is_client}
use Rattle.private_model.specs.View.{Setup}
use Rattle.log_story.specs.Plan.{OwnAnswer, Route, is_by_now, own_at}
use Rattle.log_story.specs.Tale.{Client, view_of}
use Rattle.tale_world.specs.Decided.{Agrees, plan_of}
use Rattle.tale_world.specs.Deciding.{World}
use Rattle.tale_world.proofs.Agreeing.{same_login, same_own}
use Rattle.tale_world.proofs.Following.{stepped, told-more}
use Rattle.tale_world.proofs.Telling.{told_moment}
use Rattle.router_promises.specs.Errors.{out_of_memory}
use Rattle.router_promises.specs.GivenUp.{Cause, GivesUp, NoMemory, is_in_work}
use Rattle.router_promises.specs.Now as now
use Rattle.router_promises.specs.Now.{Now, entry_now, now_at}
use Rattle.router_promises.specs.Terms.{Terms, Tried, plan_in}
use Rattle.router_promises.specs.Uses.{error_code}
use Rattle.shared_router.specs.Fixed.{Fixed, IsNumbered, setup_of}
use Rattle.shared_router.specs.Given.{AreGivenUp, GivenUpSo}
use Rattle.shared_router.specs.Judged.{JudgedSo}
use Rattle.shared_router.specs.More.{More, now_of, terms_of}
use Rattle.shared_router.specs.Ours.{IsOurLog}
use Rattle.shared_router.specs.Shared.{final_terms, shared, world_at}
use Rattle.shared_router.proofs.Caused.{caused_so, payload_so}
use Rattle.shared_router.proofs.Ended as ended
use Rattle.shared_router.proofs.Giving.{decided_so, is_given, told_world}
use Rattle.shared_router.proofs.Lasting.{alike_at, bare_from, tried_from}
use Rattle.shared_router.proofs.Later.{AreAlike}
use Rattle.shared_router.proofs.Musts.{ending_world}
use Rattle.shared_router.proofs.Opening.{moment_at}
use Rattle.shared_router.proofs.Owing.{due_seen_at}
use Rattle.shared_router.proofs.Parting.{even_at, fold_more}
use Rattle.shared_router.proofs.Prompting.{prompts_kept}
use Rattle.shared_router.proofs.Routing.{agrees_behind, logins_at, routes_kept}
use Rattle.shared_router.proofs.Same.{now_is, now_same, some_of}
use Rattle.shared_router.proofs.Starving.{fed-ends}
use Rattle.shared_router.proofs.Staying.{step_at}
use Rattle.shared_router.proofs.Waking.{held_then}

later_not_yet : (from moment : ℕ) → from ≡ suc moment → nat_le from moment ≡ false
later_not_yet from moment at = by_test (nat_le from moment) refl where
  by_test : (b : Bool) → nat_le from moment ≡ b → b ≡ false
  by_test false is = refl
  by_test true is = absurd (omega (arith, at, leb-true from moment is))

memory_code : nat_eq (error_code (out_of_memory ∷ [])) 9199 ≡ true
unfolding out_of_memory
memory_code = refl

-- what goes to a server has an ordinal
abbrev AreCounted : Terms → Type 0
AreCounted terms = (m : MessageName) (r : Route) → (plan_in terms).routes m ≡ Some r → m.ordinal ≢ 0

module _ (fixed : Fixed) (numbered : IsNumbered fixed) (before later : Log) (e : Entry) (fits : LawfulAfter Fits before (e ∷ later))
    (judged : JudgedSo fixed.starves (final_terms fixed (before ++ e ∷ later)) before e) (counted : AreCounted (final_terms fixed (before ++ e ∷ later))) where
  abbrev setup : Setup
  setup = setup_of fixed

  abbrev w : World More
  w = world_at fixed before

  abbrev a : World More
  a = told_world fixed before later e

  abbrev last : World More
  last = world_at fixed (before ++ e ∷ later)

  abbrev t : Terms
  t = final_terms fixed (before ++ e ∷ later)

  abbrev here : Now
  here = now_of fixed w

  -- the last plan agrees with what was decided as the entry is told
  agrees_told : Agrees a.decided w.tale.moment (plan_of last.decided)
  agrees_told =
      let told = stepped setup (shared fixed) w e (plan_of last.decided) (even_at fixed before) (agrees_behind fixed numbered before later e (before ++ e ∷ later) refl) in
      subst (λ n. Agrees a.decided n (plan_of last.decided)) (told_moment setup (plan_of a.decided) w.tale e) told.told

  bare_told : (link : LinkId) → a.more.bare link ≡ (world_at fixed (before ++ e ∷ [])).more.bare link
  bare_told link = ap (λ (f : LinkId → Bool). f link) (sym (step_at fixed before e).bare)

  pub alike_told : AreAlike fixed w.tale a last
  alike_told =
      let more = told-more setup (shared fixed) w e in
      let was = alike_at fixed numbered before (e ∷ later) fits in
      record {
        logins = λ link there.
            let login = logins_at fixed numbered before link there in
            sym (same_login a.decided w.tale.moment (plan_of last.decided) agrees_told link login.0 (more.logins link login.0 login.1));
        bare = λ link there. was.bare link there ∙ sym (bare_told link ∙ bare_from fixed before (e ∷ []) (fits.0, tt) link there);
        own = λ n due is.
            let own = some_of (w.decided.own _) (due_seen_at fixed before n due is) in
            sym (same_own a.decided w.tale.moment (plan_of last.decided) agrees_told _ own.0 (more.own _ own.0 own.1));
      }

  pub tried_told : last.more.tried (entry_now here) ≡ a.more.tried (entry_now here)
  tried_told =
      let n : ℕ = entry_now here in
      let at : n ≡ length before + 1 = moment_at fixed numbered before in
      let long : length (before ++ e ∷ []) ≡ length before + 1 = length-append before (e ∷ []) in
      subst (λ (l : Log). (world_at fixed l).more.tried n ≡ (world_at fixed (before ++ e ∷ [])).more.tried n) (append_assoc before (e ∷ []) later)
      (tried_from fixed (before ++ e ∷ []) later n (omega (arith, at, long)))
      ∙ ap (λ (f : ℕ → Tried). f n) (step_at fixed before e).tried

  now_here : now_at t before ≡ here
  now_here = now_is fixed t before (now_same fixed numbered before (e ∷ later))

  pub servers_told : (now.next t here e).servers ≡ a.more.servers
  servers_told =
      let behind : now_at t (before ++ e ∷ []) ≡ now_of fixed (world_at fixed (before ++ e ∷ [])) =
      subst (λ (l : Log). now_at (final_terms fixed l) (before ++ e ∷ []) ≡ now_of fixed (world_at fixed (before ++ e ∷ []))) (append_assoc before (e ∷ []) later)
      (now_is fixed (final_terms fixed ((before ++ e ∷ []) ++ later)) (before ++ e ∷ []) (now_same fixed numbered (before ++ e ∷ []) later)) in
      ap (λ (n : Now). (now.next t n e).servers) (sym now_here)
      ∙ ap (λ (n : Now). n.servers) (sym (fold_more (now.next t) before (e ∷ []) (now.at_first t)) ∙ behind)
      ∙ (step_at fixed before e).servers

  module _ (m : MessageName) (answer : OwnAnswer) (own : (plan_of last.decided).own m ≡ Some answer) (from : answer.from ≡ entry_now here) where
    at : answer.from ≡ suc w.tale.moment
    at = (let one : w.tale.moment + 1 ≡ suc w.tale.moment = omega arith in from ∙ one)

    not_yet : own_at (plan_of last.decided) w.tale.moment m ≡ None
    not_yet =
        ap (λ (o : Option OwnAnswer). option_and_then (λ (x : OwnAnswer). if nat_le x.from w.tale.moment then Some x.payloads else None) o) own
        ∙ ap (λ b. if b then Some answer.payloads else None) (later_not_yet answer.from w.tale.moment at)

    works : is_in_work (terms_of fixed a) here m ≡ true → is_in_work t here m ≡ true
    works is =
        let takes : Bool = list_any (λ (client : Client). is_client client.number m.client && nat_eq client.taken m.ordinal) w.tale.clients in
        let unheard : Bool = not (is_some ((view_of setup w.tale).replies m)) in
        let parts = and_parts takes (unheard && not (is_some (own_at (plan_of a.decided) w.tale.moment m))) is in
        let second = and_parts unheard (not (is_some (own_at (plan_of a.decided) w.tale.moment m))) parts.1 in
        and_from takes (unheard && not (is_some (own_at (plan_of last.decided) w.tale.moment m))) parts.0
        (and_from unheard (not (is_some (own_at (plan_of last.decided) w.tale.moment m))) second.0 (ap (λ o. not (is_some o)) not_yet))

    -- memory was refused to its client, which goes on until the entry: so it ends by it
    starving : (route : Route) (payload : List ℕ) → (plan_of last.decided).routes m ≡ Some route → is_in_work (terms_of fixed a) here m ≡ true
        → answer.payloads ≡ payload ∷ [] → out_of_memory ≡ payload
        → (fixed.starves (entry_now here) m.client && not (is_by_now w.tale.moment (a.decided.ends m.client))) ≡ true
        → Cause t here (now.next t here e) e m route payload
    starving route payload goes in_work one memory refused =
        subst (λ p. Cause t here (now.next t here e) e m route p) memory
        (NoMemory (ends.1.0 ∙ ap (λ k. Some k) (let late : w.tale.moment < ends.0 = later_end (a.decided.ends m.client) refl alive in omega (arith, late, ends.1.1, one_more))))
      where
        one_more : (ending_world fixed numbered before e).tale.moment ≡ suc w.tale.moment
        one_more = ended.moment-so fixed numbered before later e

        alive : is_by_now w.tale.moment (a.decided.ends m.client) ≡ false
        alive = not-true _ (and_parts (fixed.starves (entry_now here) m.client) _ refused).1

        ends : (k : ℕ) × (((plan_of last.decided).ends m.client ≡ Some k) × (k ≤ (ending_world fixed numbered before e).tale.moment))
        ends = fed-ends fixed numbered before later e m answer (record {
          own = own;
          from = at ∙ sym one_more;
          code = ap (λ p. nat_eq (error_code p) 9199) (one ∙ ap (λ p. p ∷ []) (sym memory)) ∙ memory_code;
          starves = ap (λ k. fixed.starves k m.client) (sym (let one : entry_now here ≡ suc w.tale.moment = omega arith in one ∙ sym one_more))
              ∙ (and_parts (fixed.starves (entry_now here) m.client) _ refused).0;
          counted = counted m route goes;
          works = subst (λ (n : Now). list_any (λ (client : Client). is_client client.number m.client && nat_eq client.taken m.ordinal) n.tale.clients ≡ true) (sym now_here)
              (and_parts (list_any (λ (client : Client). is_client client.number m.client && nat_eq client.taken m.ordinal) w.tale.clients) _ in_work).0;
        }) judged

        even : a.decided.until ≡ w.tale.moment
        even = (told-more setup (shared fixed) w e).until ∙ even_at fixed before

        later_end : (o : Option ℕ) → a.decided.ends m.client ≡ o → is_by_now w.tale.moment o ≡ false → w.tale.moment < ends.0
        later_end None is apart = (let late : a.decided.until < ends.0 = agrees_told.going m.client ends.0 is ends.1.0 in omega (arith, late, even))
        later_end (Some k) is apart =
            let same : k ≡ ends.0 = (let two : Some k ≡ Some ends.0 = sym (agrees_told.ended m.client k is) ∙ ends.1.0 in cc) in
            let late : w.tale.moment < k = leb-false k w.tale.moment apart in omega (arith, late, same)

    pub given_here : GivesUp t here (now.next t here e) e m answer.payloads
    given_here =
        let given = is_given fixed before later e m answer at own in
        let route : Route = given.route in
        let goes : (plan_of last.decided).routes m ≡ Some route = agrees_told.routes m (Some route) (decided_so (a.decided.routes m) route given.goes) in
        record {
          route = route;
          goes = goes;
          in_work = works given.in_work;
          payload = given.payload;
          one = given.one;
          why = elim (caused_so fixed a.more.log here a last alike_told tried_told a.more.readied a.more.servers (now.next t here e) servers_told e m route given.payload given.caused) [
            | inl cause ↦ cause
            | inr none ↦ (let p = payload_so _ out_of_memory given.payload none in starving route given.payload goes given.in_work given.one p.1 p.0)
          ];
        }

  given_then : GivenUpSo t before e
  given_then = subst (λ (n : Now). AreGivenUp t n e) (sym now_here) (λ m answer own from. given_here m answer own from)

-- along a log

given_from : (fixed : Fixed) → IsNumbered fixed → (before later log : Log) → before ++ later ≡ log → LawfulAfter Fits before later
    → LawfulAfter (JudgedSo fixed.starves (final_terms fixed log)) before later → AreCounted (final_terms fixed log) → LawfulAfter (GivenUpSo (final_terms fixed log)) before later
given_from fixed numbered before [] log is fits judged counted = tt
given_from fixed numbered before (e ∷ later) log is fits judged counted = (
  subst (λ l. GivenUpSo (final_terms fixed l) before e) is
      (given_then fixed numbered before later e fits (subst (λ l. JudgedSo fixed.starves (final_terms fixed l) before e) (sym is) judged.0)
      (subst (λ l. AreCounted (final_terms fixed l)) (sym is) counted)),
  given_from fixed numbered (before ++ e ∷ []) later log (append_assoc before (e ∷ []) later ∙ is) fits.1 judged.1 counted,
)

pub given_along : (fixed : Fixed) → IsNumbered fixed → (log : Log) → IsOurLog fixed log → AllLawful (GivenUpSo (final_terms fixed log)) log
given_along fixed numbered log our =
    let held = held_then fixed log [] log (append-nil log) our in
    given_from fixed numbered [] log log refl our.fits (routes_kept fixed numbered log (prompts_kept fixed log (omega (arith, our.bounded)) our.ours our.fits))
    (λ m r goes none. (let first : 1 ≤ m.ordinal = held.1.tabled.counted m r (decided_so ((world_at fixed log).decided.routes m) r goes) in omega (arith, first, none)))
