-- A walk through what is taken up at an entry: each message is judged by the plan that agrees behind it.
use Rattle.std.specs.Prelude.{◌≡◌, ◌≤◌, ℕ, zero, suc, Bool, true, false, if◌then◌else◌, fold, length, slice_get, List, [], ◌∷◌, ◌++◌, Option, Some, None}
use Rattle.std.specs.Option.{option_map_or}
use Rattle.std.proofs.Common.{refl, sym, ap, ◌∙◌, subst, arith}
use Rattle.client_session.specs.Setups.{Setup as Service}
use Rattle.hostgroups.specs.declared.server.Server.{Server}
use Rattle.mx_wire.specs.declared.entry.Entry.{Entry}
use Rattle.packet_frame.specs.Packets.{Framed}
use Rattle.private_model.specs.Names.{ClientNo, LinkId}
use Rattle.private_model.specs.Story.{is_client, put}
use Rattle.private_model.specs.View.{Setup, View}
use Rattle.log_story.specs.Clients.{client_goes_on, next_taken}
use Rattle.log_story.specs.Owed.{messages}
use Rattle.log_story.specs.Plan.{Plan}
use Rattle.log_story.specs.Tale.{Client, Tale, with_client}
use Rattle.tale_world.specs.Decided.{Agrees, Decided, plan_of}
use Rattle.tale_world.specs.Deciding.{Deciding, World}
use Rattle.tale_world.specs.World.{are_taken, decided_last, decided_looked, decided_next, goes_on, is_called, next_message, next_of, taken_once, with_more, with_taken}
use Rattle.tale_world.proofs.Agreeing.{agrees-less}
use Rattle.tale_world.proofs.Following.{are_taken_follow, called_same, goes_on_follows, going_follows, once_same, since-looked}
use Rattle.tale_world.proofs.Looking.{next_moment}
use Rattle.router_promises.specs.Now.{flag_taken, taken_since}
use Rattle.router_promises.specs.Takings.{Taking, takings_by, takings_from, takings_of, taking_then}
use Rattle.router_promises.specs.Terms.{Terms, Tried}
use Rattle.router_promises.specs.Verdicts.{verdict}
use Rattle.shared_router.specs.Fixed.{Fixed, IsNumbered, setup_of}
use Rattle.shared_router.specs.Judged.{AreJudged, ArePrompt, IsMet, IsPrompt, looked_last}
use Rattle.shared_router.specs.More.{More, terms_of}
use Rattle.shared_router.specs.Shared.{shared, starves_now, taking_in, takes_by}
use Rattle.shared_router.proofs.Judging.{judged_later, same_later}
use Rattle.shared_router.proofs.Verdicts.{flag_same}

pub none_then : (client : Client) (tale : Tale) (found : Option Framed) (later : Tale → List Taking) → taking_then client tale found None later ≡ []
none_then client tale None later = refl
none_then client tale (Some message) later = refl

fold_on : {S A : Type 0} (f : S → A → S) (a b : List A) (s : S) → fold f s (a ++ b) ≡ fold f (fold f s a) b
fold_on f [] b s = refl
fold_on f (x ∷ a) b s = fold_on f a b (f s x)

module _ (fixed : Fixed) (numbered : IsNumbered fixed) (plan : Plan) (bare : LinkId → Bool) (tried : ℕ → Tried) (servers : List Server) (clock : ℕ) where
  abbrev setup : Setup
  setup = setup_of fixed

  abbrev by : Deciding More
  by = shared fixed

  abbrev pub terms : Terms
  terms = record {
    router = fixed.router;
    decided = record { plan = plan; keys = fixed.keys; accounts = fixed.accounts; places = fixed.places; administered = fixed.administered; bare = bare; tried = tried };
    stored = fixed.stored;
  }

  -- Where nothing was decided of messages before they come up, each is judged.
  pub record IsWalked (prompt : Type 0) (w last : World More) (takings : List Taking) : Type 0 where
    pub judged : prompt → AreJudged fixed.starves terms servers w.more.flags takings
    pub flags : last.more.flags ≡ fold (flag_taken terms) w.more.flags takings
    pub since : last.more.since ≡ fold (taken_since clock) w.more.since takings
    pub stay : last.more.servers ≡ w.more.servers
    pub tick : last.more.clock ≡ w.more.clock

  judged_on : (a b : List Taking) (flags : ClientNo → ℕ) → AreJudged fixed.starves terms servers flags a → AreJudged fixed.starves terms servers (fold (flag_taken terms) flags a) b → AreJudged fixed.starves terms servers flags (a ++ b)
  judged_on [] b flags first second = second
  judged_on (x ∷ a) b flags first second = (first.0, judged_on a b (flag_taken terms flags x) first.1 second)

  walked_on : (p q : Type 0) (u v w : World More) (a b : List Taking) → IsWalked p u v a → IsWalked q v w b → IsWalked (p × q) u w (a ++ b)
  walked_on p q u v w a b first second = record {
    judged = λ prompt. judged_on a b u.more.flags (first.judged prompt.0) (subst (λ f. AreJudged fixed.starves terms servers f b) first.flags (second.judged prompt.1));
    flags = second.flags ∙ ap (λ f. fold (flag_taken terms) f b) first.flags ∙ sym (fold_on (flag_taken terms) a b u.more.flags);
    since = second.since ∙ ap (λ f. fold (taken_since clock) f b) first.since ∙ sym (fold_on (taken_since clock) a b u.more.since);
    stay = second.stay ∙ first.stay;
    tick = second.tick ∙ first.tick;
  }

  stays : (p : Type 0) (w : World More) (d : Decided) → IsWalked p w (record w { decided = d }) []
  stays p w d = record { judged = λ prompt. tt; flags = refl; since = refl; stay = refl; tick = refl }

  -- One message.

  abbrev pub after : World More → Client → Decided
  after w client = decided_next setup by w client

  abbrev pub looked : World More → Client → Decided
  looked w client = decided_looked setup by w client

  abbrev pub found_by : Client → Service → Option Framed
  found_by client service = slice_get (messages (record plan { service = service }) client) client.taken

  abbrev pub later_by : (most : ℕ) → Client → Tale → List Taking
  later_by most client other = takings_of most setup plan (next_of client) (with_client (next_of client) other)

  -- the message that is taken up

  abbrev pub IsNext : World More → Client → Framed → Type 0
  IsNext w client message = next_message (looked w client) client ≡ Some message

  found_of : (p : Plan) (client : Client) (tale other : Tale) (o : Option Framed) → next_taken setup p client o tale ≡ Some other → (message : Framed) × (o ≡ Some message)
  found_of p client tale other None is = absurd (cc)
  found_of p client tale other (Some message) is = (message, refl)

  pub taken_found : (w : World More) (client : Client) (tale : Tale) → taken_once setup by w client ≡ Some tale → (message : Framed) × IsNext w client message
  taken_found w client tale is =
      let found = found_of (plan_of (after w client)) client w.tale tale (slice_get (messages (plan_of (after w client)) client) client.taken) is in
      (found.0, ap (found_by client) (sym (since-looked setup by w client).service) ∙ found.1)

  more_taken : (w : World More) (client : Client) (message : Framed) (tale : Tale) → IsNext w client message
      → (with_taken setup by w client tale).more ≡ takes_by fixed w client message
  more_taken w client message tale next =
      ap (with_more by w client) (ap (found_by client) (since-looked setup by w client).service ∙ next)

  flags_taken : (w : World More) (client : Client) (message : Framed) → Agrees (after w client) w.tale.moment plan
      → (takes_by fixed w client message).flags ≡ flag_taken terms w.more.flags (taking_in w client message)
  flags_taken w client message agrees = ap (λ n. put is_client w.more.flags client.number n)
      (flag_same (terms_of fixed w) (plan_of w.decided) plan bare tried servers (w.more.flags client.number) (taking_in w client message)
      (same_later fixed w client message bare tried plan agrees))

  pub takings_once : (most : ℕ) (w : World More) (client : Client) (message : Framed) (tale : Tale) → IsNext w client message → Agrees (after w client) w.tale.moment plan
      → Agrees (looked w client) w.tale.moment plan → taken_once setup by w client ≡ Some tale
      → takings_of (suc most) setup plan client w.tale ≡ taking_in w client message ∷ takings_of most setup plan (next_of client) (with_taken setup by w client tale).tale
  takings_once most w client message tale next agrees on_looked is =
      ap (λ found. taking_then client w.tale (slice_get (messages plan client) client.taken) found (later_by most client)) (sym (once_same setup by w client plan agrees) ∙ is)
      ∙ ap (λ found. taking_then client w.tale found (Some tale) (later_by most client)) (ap (found_by client) on_looked.service ∙ next)

  walk_once : (most : ℕ) (w last : World More) (client : Client) (message : Framed) (tale : Tale) → w.more.servers ≡ servers → w.more.clock ≡ clock → IsNext w client message
      → Agrees (after w client) w.tale.moment plan → taken_once setup by w client ≡ Some tale
      → IsWalked (IsPrompt fixed most (next_of client) (with_taken setup by w client tale)) (with_taken setup by w client tale) last
      (takings_of most setup plan (next_of client) (with_taken setup by w client tale).tale)
      → IsWalked (IsPrompt fixed (suc most) client w) w last (takings_of (suc most) setup plan client w.tale)
  walk_once most w last client message tale there ticked next agrees is rest =
      let v : World More = with_taken setup by w client tale in
      let taking : Taking = taking_in w client message in
      let takings = takings_of most setup plan (next_of client) v.tale in
      let more : v.more ≡ takes_by fixed w client message = more_taken w client message tale next in
      let flag : v.more.flags ≡ flag_taken terms w.more.flags taking = ap (λ (m : More). m.flags) more ∙ flags_taken w client message agrees in
      let from : v.more.since ≡ taken_since clock w.more.since taking = ap (λ (m : More). m.since) more ∙ ap (λ c. taken_since c w.more.since taking) ticked in
      let on_looked : Agrees (looked w client) w.tale.moment plan = agrees-less (looked w client) (after w client) w.tale.moment plan (since-looked setup by w client) agrees in
      subst (IsWalked (IsPrompt fixed (suc most) client w) w last) (sym (takings_once most w client message tale next agrees on_looked is)) (record {
        judged = λ prompt. let said = prompt tale is message next in (
          subst (λ s. IsMet (starves_now fixed w client) terms taking (verdict terms s (w.more.flags client.number) taking)) there
              (judged_later fixed w client message bare tried numbered plan said.0 agrees),
          subst (λ f. AreJudged fixed.starves terms servers f takings) flag (rest.judged said.1),
        );
        flags = rest.flags ∙ ap (λ f. fold (flag_taken terms) f takings) flag;
        since = rest.since ∙ ap (λ f. fold (taken_since clock) f takings) from;
        stay = rest.stay ∙ ap (λ (m : More). m.servers) more;
        tick = rest.tick ∙ ap (λ (m : More). m.clock) more;
      })

  -- A client.

  abbrev IsClientWalk : (moment most : ℕ) → Client → World More → Type 0
  IsClientWalk moment most client w = w.tale.moment ≡ moment → w.more.servers ≡ servers → w.more.clock ≡ clock
      → Agrees (are_taken most setup by client w).decided moment plan
      → IsWalked (IsPrompt fixed most client w) w (are_taken most setup by client w) (takings_of most setup plan client w.tale)

  walk_client : (moment most : ℕ) (client : Client) (w : World More) → IsClientWalk moment most client w
  walk_client moment zero client w now there ticked agrees = stays (Unit {0}) w w.decided
  walk_client moment (suc most) client w now there ticked agrees = by_found (taken_once setup by w client) refl (walk_client moment most (next_of client)) agrees where
    goes : Option Tale → World More
    goes found = option_map_or (λ tale. are_taken most setup by (next_of client) (with_taken setup by w client tale)) found (record w { decided = after w client })

    by_found : (found : Option Tale) → taken_once setup by w client ≡ found → ((v : World More) → IsClientWalk moment most (next_of client) v)
        → Agrees (goes found).decided moment plan → IsWalked (IsPrompt fixed (suc most) client w) w (goes found) (takings_of (suc most) setup plan client w.tale)
    by_found None is others agrees =
        let here : Agrees (after w client) w.tale.moment plan = subst (λ k. Agrees (after w client) k plan) (sym now) agrees in
        subst (IsWalked (IsPrompt fixed (suc most) client w) w (goes None))
        (sym (ap (λ found. taking_then client w.tale (slice_get (messages plan client) client.taken) found (later_by most client)) (sym (once_same setup by w client plan here) ∙ is)
        ∙ none_then client w.tale (slice_get (messages plan client) client.taken) (later_by most client)))
        (stays (IsPrompt fixed (suc most) client w) w (after w client))
    by_found (Some tale) is others agrees =
        let v : World More = with_taken setup by w client tale in
        let last : World More = are_taken most setup by (next_of client) v in
        let kept : tale.moment ≡ w.tale.moment = next_moment setup (plan_of (after w client)) client
        (slice_get (messages (plan_of (after w client)) client) client.taken) w.tale tale is in
        let follow = are_taken_follow setup by moment most (next_of client) v (kept ∙ now) in
        let on_v : Agrees (after w client) moment plan = agrees-less (after w client) last.decided moment plan follow.more agrees in
        let on_w : Agrees (after w client) w.tale.moment plan = subst (λ k. Agrees (after w client) k plan) (sym now) on_v in
        let found = taken_found w client tale is in
        let more : v.more ≡ takes_by fixed w client found.0 = more_taken w client found.0 tale found.1 in
        walk_once most w last client found.0 tale there ticked found.1 on_w is
        (others v (kept ∙ now) (ap (λ (m : More). m.servers) more ∙ there) (ap (λ (m : More). m.clock) more ∙ ticked) agrees)

  -- Each client, and all.

  abbrev IsCalled : View → Entry → World More → Client → Type 0
  IsCalled view e w client =
      is_called (decided_last by w client) w.tale.moment view e client ≡ true
      → IsPrompt fixed (length (messages (plan_of (decided_last by w client)) client)) client (looked_last fixed w client)

  walk_one : (moment : ℕ) (view : View) (e : Entry) (w : World More) (client : Client) → w.tale.moment ≡ moment → moment ≤ suc w.decided.until → w.more.servers ≡ servers
      → w.more.clock ≡ clock → Agrees (goes_on setup by view e w client).decided moment plan
      → IsWalked (IsCalled view e w client) w (goes_on setup by view e w client) (takings_by setup plan view e w.tale client)
  walk_one moment view e w client now closed there ticked agrees =
      by_test (is_called v.decided w.tale.moment view e client) refl agrees
    where
      v : World More
      v = looked_last fixed w client

      by_test : (b : Bool) → is_called v.decided w.tale.moment view e client ≡ b
          → Agrees (if b then are_taken (length (messages (plan_of v.decided) client)) setup by client v else v).decided moment plan
          → IsWalked (IsCalled view e w client) w (if b then are_taken (length (messages (plan_of v.decided) client)) setup by client v else v) (takings_by setup plan view e w.tale client)
      by_test false is on = subst (IsWalked (IsCalled view e w client) w v)
          (ap (λ b. if b then takings_of (length (messages plan client)) setup plan client w.tale else [])
          (sym is ∙ called_same setup by moment view e w client now closed plan on)) (stays (IsCalled view e w client) w v.decided)
      by_test true is on =
          let most = length (messages (plan_of v.decided) client) in
          let last : World More = are_taken most setup by client v in
          let first : Agrees v.decided moment plan = agrees-less v.decided last.decided moment plan (are_taken_follow setup by moment most client v now).more on in
          let walked : IsWalked (IsPrompt fixed most client v) v last (takings_of most setup plan client w.tale) = walk_client moment most client v now there ticked on in
          subst (IsWalked (IsCalled view e w client) w last)
          (ap (λ service. takings_of (length (messages (record plan { service = service }) client)) setup plan client w.tale) (sym first.service)
          ∙ ap (λ b. if b then takings_of (length (messages plan client)) setup plan client w.tale else [])
          (sym is ∙ called_same setup by moment view e w client now closed plan first))
          (record { judged = λ prompt. walked.judged (prompt is); flags = walked.flags; since = walked.since; stay = walked.stay; tick = walked.tick })

  pub walk_all : (moment : ℕ) (view : View) (e : Entry) (clients : List Client) (w : World More) → w.tale.moment ≡ moment → moment ≤ suc w.decided.until → w.more.servers ≡ servers
      → w.more.clock ≡ clock → Agrees (fold (goes_on setup by view e) w clients).decided moment plan
      → IsWalked (ArePrompt fixed view e clients w) w (fold (goes_on setup by view e) w clients) (takings_from setup plan view e clients w.tale)
  walk_all moment view e [] w now closed there ticked agrees = stays (Unit {0}) w w.decided
  walk_all moment view e (client ∷ clients) w now closed there ticked agrees =
      let v : World More = goes_on setup by view e w client in
      let last : World More = fold (goes_on setup by view e) v clients in
      let one = goes_on_follows setup by moment view e w client now closed in
      let until : v.decided.until ≡ w.decided.until = one.more.until in
      let on : moment ≤ suc v.decided.until = omega arith in
      let follow = going_follows setup by moment view e clients v one.now on in
      let on_v : Agrees v.decided moment plan = agrees-less v.decided last.decided moment plan follow.more agrees in
      let here = walk_one moment view e w client now closed there ticked on_v in
      let rest = walk_all moment view e clients v one.now on (here.stay ∙ there) (here.tick ∙ ticked) agrees in
      walked_on (IsCalled view e w client) (ArePrompt fixed view e clients v) w v last (takings_by setup plan view e w.tale client)
      (takings_from setup plan view e clients (client_goes_on setup plan view e w.tale client)) here
      (subst (λ t. IsWalked (ArePrompt fixed view e clients v) v last (takings_from setup plan view e clients t)) (one.same plan on_v) rest)
