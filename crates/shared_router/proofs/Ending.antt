-- The world behind what is taken up at an entry, before clients are ended: by each plan that agrees with it, what is taken up and told is the same.
use Rattle.std.specs.Prelude.{◌≡◌, ◌≤◌, ℕ, zero, suc, Bool, true, false, ◌&&◌, ◌||◌, fold, length, slice_get, if◌then◌else◌, List, [], ◌∷◌, ◌++◌, Option, Some, None}
use Rattle.std.specs.List.{list_any}
use Rattle.std.specs.Option.{option_map_or}
use Rattle.std.proofs.Common.{refl, sym, ap, ◌∙◌, subst, arith}
use Rattle.mx_wire.specs.declared.entry.Entry.{Entry}
use Rattle.packet_frame.specs.Packets.{Framed}
use Rattle.private_model.specs.Story.{is_client}
use Rattle.private_model.specs.View.{Setup, View}
use Rattle.log_story.specs.Clients.{client_goes_on, clients_go_on}
use Rattle.log_story.specs.Owed.{messages}
use Rattle.log_story.specs.Plan.{Plan}
use Rattle.log_story.specs.Servers.{links_are_freed}
use Rattle.log_story.specs.Tale.{Client, Tale, counted, view_of, with_client}
use Rattle.log_story.specs.Telling.{told}
use Rattle.tale_world.specs.Decided.{Agrees, plan_of}
use Rattle.tale_world.specs.Deciding.{Deciding, World}
use Rattle.tale_world.specs.World.{are_taken, decided_looked, decided_next, goes_on, is_called, is_counted, is_ended, is_told, next_message, next_of, taken_once, with_taken, world_step}
use Rattle.tale_world.proofs.Agreeing.{agrees-less}
use Rattle.tale_world.proofs.Following.{are_freed_follows, are_taken_follow, called_same, counted_agrees, ended_agrees, go_on_follows, goes_on_follows, going_even, going_follows, once_same, since-looked, told_same}
use Rattle.tale_world.proofs.Looking.{next_moment}
use Rattle.tale_world.proofs.Telling.{ends_moment, told_moment}
use Rattle.router_promises.specs.Ends.{is_quit}
use Rattle.router_promises.specs.Takings.{Taking, as_told, takings_at, takings_by, takings_from, takings_of, taking_then}
use Rattle.router_promises.specs.Verdicts.{Kind, kind_of}
use Rattle.shared_router.specs.Fixed.{Fixed, IsNumbered, setup_of}
use Rattle.shared_router.specs.Judged.{heard, looked_last}
use Rattle.shared_router.specs.More.{More}
use Rattle.shared_router.specs.Shared.{shared, taking_in}
use Rattle.shared_router.proofs.Judging.{same_later}
use Rattle.shared_router.proofs.Since.{going-on, heard-closed}
use Rattle.shared_router.proofs.Verdicts.{kind_same}
use Rattle.shared_router.proofs.Walking.{none_then, taken_found, takings_once}

pub any-on : {A : Type 0} (f : A → Bool) (a b : List A) → list_any f (a ++ b) ≡ (list_any f a || list_any f b)
any-on f [] b = refl
any-on f (x ∷ a) b = by_test (f x) (any-on f a b) where
  by_test : (t : Bool) → list_any f (a ++ b) ≡ (list_any f a || list_any f b) → (t || list_any f (a ++ b)) ≡ ((t || list_any f a) || list_any f b)
  by_test true same = refl
  by_test false same = same

module _ (fixed : Fixed) (numbered : IsNumbered fixed) where
  abbrev setup : Setup
  setup = setup_of fixed

  abbrev by : Deciding More
  by = shared fixed

  -- a plan that agrees behind the entry agrees as clients are ended, and before

  pub agrees-ended : (w : World More) (e : Entry) (plan : Plan) → Agrees (world_step setup by w e).decided (world_step setup by w e).tale.moment plan
      → Agrees (is_ended by (going-on fixed w e) e).decided (going-on fixed w e).tale.moment plan
  agrees-ended w e plan agrees =
      let d : World More = going-on fixed w e in
      let f : World More = is_ended by d e in
      let now_f : f.tale.moment ≡ d.tale.moment = ends_moment (plan_of f.decided) d.tale.clients d.tale in
      let to_g = are_freed_follows setup by f.tale.moment f refl in
      subst (λ k. Agrees f.decided k plan) now_f (agrees-less f.decided (world_step setup by w e).decided f.tale.moment plan to_g.more
      (subst (λ k. Agrees (world_step setup by w e).decided k plan) to_g.now agrees))

  pub agrees-ending : (w : World More) (e : Entry) (plan : Plan) → w.decided.until ≡ w.tale.moment
      → Agrees (world_step setup by w e).decided (world_step setup by w e).tale.moment plan
      → Agrees (going-on fixed w e).decided (going-on fixed w e).tale.moment plan
  agrees-ending w e plan even agrees =
      let gone : suc (going-on fixed w e).decided.until ≡ (going-on fixed w e).tale.moment = going_even setup by w e even in
      ended_agrees setup by (going-on fixed w e) e plan (omega (arith, gone)) (agrees-ended w e plan agrees)

  -- what was told until then
  pub record IsGoing (w : World More) (e : Entry) (plan : Plan) : Type 0 where
    pub there : Agrees (going-on fixed w e).decided (heard fixed w e).tale.moment plan
    pub told : (heard fixed w e).tale ≡ as_told setup plan w.tale e
    pub tale : (going-on fixed w e).tale ≡ clients_go_on setup plan (view_of setup w.tale) e (as_told setup plan w.tale e)

  pub going-so : (w : World More) (e : Entry) (plan : Plan) → w.decided.until ≡ w.tale.moment
      → Agrees (going-on fixed w e).decided (going-on fixed w e).tale.moment plan → IsGoing w e plan
  going-so w e plan even on_d =
      let a : World More = is_told setup by w e in
      let b : World More = is_counted by a e in
      let c : World More = heard fixed w e in
      let d : World More = going-on fixed w e in
      let m = suc a.tale.moment in
      let to_c = are_freed_follows setup by m b refl in
      let to_d = go_on_follows setup by c.tale.moment (view_of setup w.tale) e c refl (heard-closed fixed w e even) in
      let on_d_c : Agrees d.decided c.tale.moment plan = subst (λ k. Agrees d.decided k plan) to_d.now on_d in
      let on_c : Agrees c.decided c.tale.moment plan = agrees-less c.decided d.decided c.tale.moment plan to_d.more on_d_c in
      let on_c_m : Agrees c.decided m plan = subst (λ k. Agrees c.decided k plan) to_c.now on_c in
      let on_b : Agrees b.decided m plan = agrees-less b.decided c.decided m plan to_c.more on_c_m in
      let on_a : Agrees a.decided a.tale.moment plan = counted_agrees setup by a e plan on_b in
      let one : a.tale ≡ told setup plan w.tale e = told_same setup by w e a.tale.moment plan (told_moment setup (plan_of a.decided) w.tale e) on_a in
      let heard_so : c.tale ≡ as_told setup plan w.tale e = to_c.same plan on_c_m ∙ ap (λ t. links_are_freed setup plan (counted t)) one in
      record {
        there = on_d_c;
        told = heard_so;
        tale = to_d.same plan on_d_c ∙ ap (clients_go_on setup plan (view_of setup w.tale) e) heard_so;
      }

  -- Whether a QUIT of a client is taken up is the same by any two plans that agree.

  abbrev pub quits_by : Plan → Client → Taking → Bool
  quits_by plan who taking =
      is_client taking.client.number who.number
      && is_quit (kind_of (view_of setup taking.tale) plan taking.client (suc taking.client.taken) taking.message.payload)

  module _ (who : Client) (p q : Plan) where
    quit-same : (w : World More) (client : Client) (message : Framed) → Agrees (decided_next setup by w client) w.tale.moment p → Agrees (decided_next setup by w client) w.tale.moment q
        → quits_by p who (taking_in w client message) ≡ quits_by q who (taking_in w client message)
    quit-same w client message on_p on_q =
        let view : View = view_of setup w.tale in
        let by_p = kind_same client view w.tale.moment (plan_of w.decided) p (same_later fixed w client message w.more.bare w.more.tried p on_p) message.payload in
        let by_q = kind_same client view w.tale.moment (plan_of w.decided) q (same_later fixed w client message w.more.bare w.more.tried q on_q) message.payload in
        ap (λ (k : Kind). is_client client.number who.number && is_quit k) (sym by_p ∙ by_q)

    none-taken : (plan : Plan) (most : ℕ) (client : Client) (w : World More) → Agrees (decided_next setup by w client) w.tale.moment plan → taken_once setup by w client ≡ None
        → takings_of (suc most) setup plan client w.tale ≡ []
    none-taken plan most client w agrees is =
        ap (λ found. taking_then client w.tale (slice_get (messages plan client) client.taken) found (λ other. takings_of most setup plan (next_of client) (with_client (next_of client) other)))
        (sym (once_same setup by w client plan agrees) ∙ is)
        ∙ none_then client w.tale (slice_get (messages plan client) client.taken) (λ other. takings_of most setup plan (next_of client) (with_client (next_of client) other))

    one-taken : (plan : Plan) (most : ℕ) (client : Client) (w : World More) (message : Framed) (tale : Tale) → next_message (decided_looked setup by w client) client ≡ Some message
        → Agrees (decided_next setup by w client) w.tale.moment plan → taken_once setup by w client ≡ Some tale
        → takings_of (suc most) setup plan client w.tale ≡ taking_in w client message ∷ takings_of most setup plan (next_of client) (with_taken setup by w client tale).tale
    one-taken plan most client w message tale found agrees is =
        takings_once fixed numbered plan w.more.bare w.more.tried w.more.servers w.more.clock most w client message tale found agrees
        (agrees-less (decided_looked setup by w client) (decided_next setup by w client) w.tale.moment plan (since-looked setup by w client) agrees) is

    quits-client : (moment most : ℕ) (client : Client) (w : World More) → w.tale.moment ≡ moment
        → Agrees (are_taken most setup by client w).decided moment p → Agrees (are_taken most setup by client w).decided moment q
        → list_any (quits_by p who) (takings_of most setup p client w.tale) ≡ list_any (quits_by q who) (takings_of most setup q client w.tale)
    quits-client moment zero client w now on_p on_q = refl
    quits-client moment (suc most) client w now on_p on_q = by_found (taken_once setup by w client) refl (quits-client moment most (next_of client)) on_p on_q where
      goes : Option Tale → World More
      goes found = option_map_or (λ tale. are_taken most setup by (next_of client) (with_taken setup by w client tale)) found (record w { decided = decided_next setup by w client })

      IsSo : (k : ℕ) → Client → World More → Type 0
      IsSo k one v = list_any (quits_by p who) (takings_of k setup p one v.tale) ≡ list_any (quits_by q who) (takings_of k setup q one v.tale)

      by_found : (found : Option Tale) → taken_once setup by w client ≡ found
          → ((v : World More) → v.tale.moment ≡ moment → Agrees (are_taken most setup by (next_of client) v).decided moment p → Agrees (are_taken most setup by (next_of client) v).decided moment q
          → IsSo most (next_of client) v)
          → Agrees (goes found).decided moment p → Agrees (goes found).decided moment q → IsSo (suc most) client w
      by_found None is others on_p on_q =
          let here = λ (plan : Plan) (on : Agrees (decided_next setup by w client) moment plan).
          ap (list_any (quits_by plan who)) (none-taken plan most client w (subst (λ k. Agrees (decided_next setup by w client) k plan) (sym now) on) is) in
          here p on_p ∙ sym (here q on_q)
      by_found (Some tale) is others on_p on_q =
          let v : World More = with_taken setup by w client tale in
          let last : World More = are_taken most setup by (next_of client) v in
          let kept : tale.moment ≡ w.tale.moment = next_moment setup (plan_of (decided_next setup by w client)) client
          (slice_get (messages (plan_of (decided_next setup by w client)) client) client.taken) w.tale tale is in
          let follow = are_taken_follow setup by moment most (next_of client) v (kept ∙ now) in
          let back = λ (plan : Plan) (on : Agrees last.decided moment plan).
          subst (λ k. Agrees (decided_next setup by w client) k plan) (sym now) (agrees-less (decided_next setup by w client) last.decided moment plan follow.more on) in
          let found = taken_found fixed numbered p w.more.bare w.more.tried w.more.servers w.more.clock w client tale is in
          let quit = quit-same w client found.0 (back p on_p) (back q on_q) in
          ap (list_any (quits_by p who)) (one-taken p most client w found.0 tale found.1 (back p on_p) is)
          ∙ ap (λ b. b || list_any (quits_by p who) (takings_of most setup p (next_of client) v.tale)) quit
          ∙ ap (λ b. quits_by q who (taking_in w client found.0) || b) (others v (kept ∙ now) on_p on_q)
          ∙ sym (ap (list_any (quits_by q who)) (one-taken q most client w found.0 tale found.1 (back q on_q) is))

    -- each client, and all

    by_service : (plan : Plan) (moment : ℕ) (view : View) (e : Entry) (w : World More) (client : Client) → w.tale.moment ≡ moment → moment ≤ suc w.decided.until
        → Agrees (looked_last fixed w client).decided moment plan → is_called (looked_last fixed w client).decided w.tale.moment view e client ≡ true
        → takings_of (length (messages (plan_of (looked_last fixed w client).decided) client)) setup plan client w.tale ≡ takings_by setup plan view e w.tale client
    by_service plan moment view e w client now closed agrees is =
        ap (λ service. takings_of (length (messages (record plan { service = service }) client)) setup plan client w.tale) (sym agrees.service)
        ∙ ap (λ b. if b then takings_of (length (messages plan client)) setup plan client w.tale else [])
        (sym is ∙ called_same setup by moment view e w client now closed plan agrees)

    not_called : (plan : Plan) (moment : ℕ) (view : View) (e : Entry) (w : World More) (client : Client) → w.tale.moment ≡ moment → moment ≤ suc w.decided.until
        → Agrees (looked_last fixed w client).decided moment plan → is_called (looked_last fixed w client).decided w.tale.moment view e client ≡ false
        → takings_by setup plan view e w.tale client ≡ []
    not_called plan moment view e w client now closed agrees is =
        ap (λ b. if b then takings_of (length (messages plan client)) setup plan client w.tale else [])
        (sym (called_same setup by moment view e w client now closed plan agrees) ∙ is)

    quits-one : (moment : ℕ) (view : View) (e : Entry) (w : World More) (client : Client) → w.tale.moment ≡ moment → moment ≤ suc w.decided.until
        → Agrees (goes_on setup by view e w client).decided moment p → Agrees (goes_on setup by view e w client).decided moment q
        → list_any (quits_by p who) (takings_by setup p view e w.tale client) ≡ list_any (quits_by q who) (takings_by setup q view e w.tale client)
    quits-one moment view e w client now closed on_p on_q = by_test (is_called v.decided w.tale.moment view e client) refl on_p on_q where
      v : World More
      v = looked_last fixed w client

      after : Bool → World More
      after b = if b then are_taken (length (messages (plan_of v.decided) client)) setup by client v else v

      by_test : (b : Bool) → is_called v.decided w.tale.moment view e client ≡ b → Agrees (after b).decided moment p → Agrees (after b).decided moment q
          → list_any (quits_by p who) (takings_by setup p view e w.tale client) ≡ list_any (quits_by q who) (takings_by setup q view e w.tale client)
      by_test false is on_p on_q =
          ap (list_any (quits_by p who)) (not_called p moment view e w client now closed on_p is)
          ∙ sym (ap (list_any (quits_by q who)) (not_called q moment view e w client now closed on_q is))
      by_test true is on_p on_q =
          let most = length (messages (plan_of v.decided) client) in
          let last : World More = are_taken most setup by client v in
          let follow = are_taken_follow setup by moment most client v now in
          let first_p : Agrees v.decided moment p = agrees-less v.decided last.decided moment p follow.more on_p in
          let first_q : Agrees v.decided moment q = agrees-less v.decided last.decided moment q follow.more on_q in
          ap (list_any (quits_by p who)) (sym (by_service p moment view e w client now closed first_p is))
          ∙ quits-client moment most client v now on_p on_q
          ∙ ap (list_any (quits_by q who)) (by_service q moment view e w client now closed first_q is)

    quits-all : (moment : ℕ) (view : View) (e : Entry) (clients : List Client) (w : World More) → w.tale.moment ≡ moment → moment ≤ suc w.decided.until
        → Agrees (fold (goes_on setup by view e) w clients).decided moment p → Agrees (fold (goes_on setup by view e) w clients).decided moment q
        → list_any (quits_by p who) (takings_from setup p view e clients w.tale) ≡ list_any (quits_by q who) (takings_from setup q view e clients w.tale)
    quits-all moment view e [] w now closed on_p on_q = refl
    quits-all moment view e (client ∷ clients) w now closed on_p on_q =
        let v : World More = goes_on setup by view e w client in
        let last : World More = fold (goes_on setup by view e) v clients in
        let one = goes_on_follows setup by moment view e w client now closed in
        let until : v.decided.until ≡ w.decided.until = one.more.until in
        let on : moment ≤ suc v.decided.until = omega (arith, until, closed) in
        let follow = going_follows setup by moment view e clients v one.now on in
        let v_p : Agrees v.decided moment p = agrees-less v.decided last.decided moment p follow.more on_p in
        let v_q : Agrees v.decided moment q = agrees-less v.decided last.decided moment q follow.more on_q in
        let here = quits-one moment view e w client now closed v_p v_q in
        let rest = quits-all moment view e clients v one.now on on_p on_q in
        let each = λ (plan : Plan) (on_v : Agrees v.decided moment plan).
        any-on (quits_by plan who) (takings_by setup plan view e w.tale client) (takings_from setup plan view e clients (client_goes_on setup plan view e w.tale client))
        ∙ ap (λ t. list_any (quits_by plan who) (takings_by setup plan view e w.tale client) || list_any (quits_by plan who) (takings_from setup plan view e clients t)) (sym (one.same plan on_v)) in
        each p v_p
        ∙ ap (λ b. b || list_any (quits_by p who) (takings_from setup p view e clients v.tale)) here
        ∙ ap (λ b. list_any (quits_by q who) (takings_by setup q view e w.tale client) || b) rest
        ∙ sym (each q v_q)

    pub quits-same : (w : World More) (e : Entry) → w.decided.until ≡ w.tale.moment → Agrees (going-on fixed w e).decided (going-on fixed w e).tale.moment p
        → Agrees (going-on fixed w e).decided (going-on fixed w e).tale.moment q
        → list_any (quits_by p who) (takings_at setup p w.tale e) ≡ list_any (quits_by q who) (takings_at setup q w.tale e)
    quits-same w e even on_p on_q =
        let c : World More = heard fixed w e in
        let so_p = going-so w e p even on_p in
        let so_q = going-so w e q even on_q in
        let each = λ (plan : Plan) (so : c.tale ≡ as_told setup plan w.tale e).
        ap (λ (t : Tale). list_any (quits_by plan who) (takings_from setup plan (view_of setup w.tale) e t.clients t)) so in
        sym (each p so_p.told)
        ∙ quits-all c.tale.moment (view_of setup w.tale) e c.tale.clients c refl (heard-closed fixed w e even) so_p.there so_q.there
        ∙ each q so_q.told
