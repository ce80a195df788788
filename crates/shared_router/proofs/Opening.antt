-- Links are opened for statements that wait.
use Rattle.std.specs.Prelude.{◌≡◌, ◌+◌, ◌<◌, ℕ, suc, Bool, true, false, ◌&&◌, cond, find, fold, length, nat_eq, if◌then◌else◌, List, [], ◌∷◌, ◌++◌, Option, Some, None}
use Rattle.std.specs.Option.{option_map, option_map_or}
use Rattle.std.proofs.Common.{refl, sym, ap, ◌∙◌, subst, append_assoc, arith, length-append}
use Rattle.hostgroups.specs.Servers.{server_at}
use Rattle.hostgroups.specs.declared.server.Server.{Server}
use Rattle.mx_base.specs.declared.names.Address.{Address}
use Rattle.mx_base.specs.declared.names.Hostgroup.{Hostgroup}
use Rattle.mx_base.specs.declared.names.LinkId.{LinkId}
use Rattle.mx_base.specs.declared.names.ServerId.{ServerId}
use Rattle.mx_wire.specs.Log.{Log}
use Rattle.mx_wire.specs.Moments.{LawfulAfter}
use Rattle.mx_wire.specs.Tells.{Fits}
use Rattle.mx_wire.specs.declared.entry.Entry.{Entry}
use Rattle.mx_wire.specs.declared.entry.Entry.TheVariants as entry
use Rattle.private_model.proofs.Maps.{hostgroup_of as hostgroup_is, same_link, same_number}
use Rattle.private_model.specs.Names.{ClientNo}
use Rattle.private_model.specs.Story.{BecameDue, Broke, Dropped, Due, Freed, Gone, Heard, Left, LoggedIn, Mirrored, Ran, Sent, Story, Unprepared, is_hostgroup}
use Rattle.server_side.specs.Account.{Account as Login}
use Rattle.log_story.specs.Plan.{Plan}
use Rattle.log_story.specs.Tale.{Tale}
use Rattle.tale_world.specs.Decided.{plan_of}
use Rattle.tale_world.specs.Deciding.{World}
use Rattle.tale_world.specs.Policy as policy
use Rattle.tale_world.specs.Policy.{Rest, Waiter, Wanted, next_open, opens_for, wants_link}
use Rattle.tale_world.proofs.Agreeing.{agrees-itself}
use Rattle.tale_world.proofs.Following.{step_even, stepped}
use Rattle.tale_world.proofs.Links.{step_of}
use Rattle.tale_world.proofs.Telling.{told_moment}
use Rattle.tale_world.proofs.Policies.{opens_few}
use Rattle.router_promises.specs.Keys.{LinkKey, has_room, how_many, is_free, is_in, is_opening, is_waiting, numbered_from, waiting}
use Rattle.router_promises.specs.Now.{Now, entry_now, now_at}
use Rattle.router_promises.specs.Opens.{MayOpen, OpensSo}
use Rattle.router_promises.specs.Running.{hostgroup_of}
use Rattle.router_promises.specs.Terms.{Terms, Tried, entry_behind, plan_in}
use Rattle.shared_router.specs.Fixed.{Fixed, IsNumbered, setup_of}
use Rattle.shared_router.specs.Known.{Known, known, present_by, view_by}
use Rattle.shared_router.specs.Lends.{settled, waiter_of, waiters_by}
use Rattle.shared_router.specs.More.{More, now_of, terms_of}
use Rattle.shared_router.specs.Ours.{IsOurs, OpensThere}
use Rattle.shared_router.specs.Shared.{final_terms, shared, world_at}
use Rattle.shared_router.proofs.Accounts.{AreUsers, IsUser, UsersSo}
use Rattle.shared_router.specs.Wishes.{can_open, opened_for, pick, tried_by}
use Rattle.shared_router.proofs.Counting.{from_key, settled_free, settled_opening, settled_so, settled_unsent}
use Rattle.shared_router.proofs.Later.{free_count, opening_count, waiters_same}
use Rattle.shared_router.proofs.Lasting.{alike_at, bare_from, opened_as, opened_there, tried_from}
use Rattle.shared_router.proofs.Parting.{first, next}
use Rattle.shared_router.proofs.Routing.{agrees_behind}
use Rattle.shared_router.proofs.Same.{now_is, now_same}
use Rattle.shared_router.proofs.Staying.{log_at, step_at}

-- what is found passes the test
pub found_so : {A : Type 0} (test : A → Bool) (xs : List A) (a : A) → find test xs ≡ Some a → test a ≡ true
found_so test [] a is = absurd (cc)
found_so test (x ∷ xs) a is = by_test (test x) refl is (found_so test xs a) where
  by_test : (b : Bool) → test x ≡ b → cond b (Some x) (find test xs) ≡ Some a → (find test xs ≡ Some a → test a ≡ true) → test a ≡ true
  by_test true passes is later = let same : x ≡ a = cc in ap test (sym same) ∙ passes
  by_test false fails is later = later is

pub left_is : (a b : Bool) → (a && b) ≡ true → a ≡ true
left_is true b is = refl
left_is false b is = absurd (cc)

pub right_is : (a b : Bool) → (a && b) ≡ true → b ≡ true
right_is true b is = is
right_is false b is = absurd (cc)

group_by : (o : Option Hostgroup) (hostgroup : Hostgroup) → option_map_or (λ h. is_hostgroup h hostgroup) o false ≡ true → o ≡ Some hostgroup
group_by None hostgroup is = absurd (cc)
group_by (Some h) hostgroup is = ap (λ g. Some g) (hostgroup_is h hostgroup is)

-- Whose key is opened for.

abbrev AllUsers : Fixed → List Waiter → Type 0
AllUsers fixed [] = Unit {0}
AllUsers fixed (w ∷ later) = IsUser fixed w.key.account × AllUsers fixed later

users_on : (fixed : Fixed) (a b : List Waiter) → AllUsers fixed a → AllUsers fixed b → AllUsers fixed (a ++ b)
users_on fixed [] b one two = two
users_on fixed (w ∷ a) b one two = (one.0, users_on fixed a b one.1 two)

-- for whom, and where
record IsWantedBy (fixed : Fixed) (picks : Hostgroup → Option ServerId) (wanted : Wanted) : Type 0 where
  pub user : IsUser fixed wanted.key.account
  pub there : picks wanted.key.hostgroup ≡ Some wanted.server

wanted_so : (fixed : Fixed) (rest : Rest) (picks : Hostgroup → Option ServerId) (waiters : List Waiter) (wanted : Wanted) → AllUsers fixed waiters
    → next_open rest picks waiters ≡ Some wanted → IsWantedBy fixed picks wanted
wanted_so fixed rest picks [] wanted users is = absurd (cc)
wanted_so fixed rest picks (w ∷ later) wanted users is = by_test (wants_link rest w.key) (picks w.key.hostgroup) refl is (wanted_so fixed rest picks later wanted users.1) where
  by_test : (b : Bool) (o : Option ServerId) → picks w.key.hostgroup ≡ o
      → (if b then option_map_or (λ server. Some (record { key = w.key; server = server })) o (next_open rest picks later) else next_open rest picks later) ≡ Some wanted
      → (next_open rest picks later ≡ Some wanted → IsWantedBy fixed picks wanted) → IsWantedBy fixed picks wanted
  by_test false o at is others = others is
  by_test true None at is others = others is
  by_test true (Some server) at is others =
      let here : Wanted = record { key = w.key; server = server } in
      let same : here ≡ wanted = cc in
      subst (IsWantedBy fixed picks) same (record { user = users.0; there = at })

module _ (fixed : Fixed) (w : World More) where
  abbrev k : Known
  k = known fixed w

  last_user : (client : ClientNo) (hostgroup : Hostgroup) (b : Bool) (due : Option Due) → ((d : Due) → due ≡ Some d → IsUser fixed (fixed.accounts client))
      → AllUsers fixed (if b then option_map_or (λ d. waiter_of k (present_by k client hostgroup) d ∷ []) due [] else [])
  last_user client hostgroup false due is = tt
  last_user client hostgroup true None is = tt
  last_user client hostgroup true (Some d) is = (is d refl, tt)

  waiters_users : AreUsers fixed w → (story : Story) → AllUsers fixed (waiters_by k story)
  waiters_users users [] = tt
  waiters_users users (BecameDue client hostgroup ordinal at command multiplex ∷ past) =
      users_on fixed (waiters_by k past) _ (waiters_users users past)
      (last_user client hostgroup (is_waiting k.terms k.now client hostgroup ordinal) ((view_by k).dues (present_by k client hostgroup))
      (λ d is. users (present_by k client hostgroup) d is))
  waiters_users users (LoggedIn link server account ∷ past) = waiters_users users past
  waiters_users users (Sent link question ∷ past) = waiters_users users past
  waiters_users users (Ran link ∷ past) = waiters_users users past
  waiters_users users (Heard link reply ∷ past) = waiters_users users past
  waiters_users users (Freed link ∷ past) = waiters_users users past
  waiters_users users (Unprepared link number ∷ past) = waiters_users users past
  waiters_users users (Dropped link ∷ past) = waiters_users users past
  waiters_users users (Gone link ∷ past) = waiters_users users past
  waiters_users users (Left client ∷ past) = waiters_users users past
  waiters_users users (Broke ∷ past) = waiters_users users past
  waiters_users users (Mirrored client job ∷ past) = waiters_users users past

  -- by the world's own terms
  opens_now : AreUsers fixed w → (server : ServerId) (address : Address) → OpensThere k server address
      → MayOpen (terms_of fixed w) w.more.log (now_of fixed w) server address (tried_by k)
  opens_now users server address is =
      let wanted : Wanted = is.wanted in
      let its : IsWantedBy fixed (pick k) wanted =
      wanted_so fixed (settled k) (pick k) (settled k).waiters wanted (subst (AllUsers fixed) (sym (settled_so k).waiters) (waiters_users users k.now.tale.story)) is.next in
      let passes : (is_in fixed.router wanted.server wanted.key.hostgroup && has_room k.log k.now wanted.server) ≡ true =
      found_so (can_open k wanted.key.hostgroup) (fixed.picks (entry_now k.now) wanted.key.hostgroup ∷ numbered_from 1 fixed.router.servers) wanted.server its.there in
      let few : policy.free (settled k) wanted.key + policy.opening (settled k) wanted.key < policy.unsent (settled k) wanted.key =
      opens_few (settled k) (pick k) (settled k).waiters wanted is.next in
      let key : LinkKey = from_key wanted.key in
      let free : policy.free (settled k) wanted.key ≡ how_many is_free k.terms k.log k.now key = settled_free k wanted.key in
      let opening : policy.opening (settled k) wanted.key ≡ how_many is_opening k.terms k.log k.now key = settled_opening k wanted.key in
      let unsent : policy.unsent (settled k) wanted.key ≡ waiting k.terms k.now key = settled_unsent k wanted.key in
      subst (λ o. MayOpen (terms_of fixed w) w.more.log (now_of fixed w) server address (opened_for fixed o)) (sym is.next)
      (subst (λ s. MayOpen (terms_of fixed w) w.more.log (now_of fixed w) s address (opened_for fixed (Some wanted))) is.there (record {
        key = key;
        group = group_by (hostgroup_of fixed.router wanted.server) wanted.key.hostgroup (left_is _ _ passes);
        account = its.user.same;
        bare = refl;
        there = ap (λ s. option_map (λ (x : Server). x.row.address) (server_at w.more.servers s)) is.there ∙ is.lies;
        room = right_is _ _ passes;
        known = its.user.known;
        wanted = omega (arith, few, free, opening, unsent);
      }))

-- by the last terms

module _ (fixed : Fixed) (numbered : IsNumbered fixed) (before later : Log) (e : Entry) (fits : LawfulAfter Fits before (e ∷ later)) where
  abbrev w0 : World More
  w0 = world_at fixed before

  abbrev last : World More
  last = world_at fixed (before ++ e ∷ later)

  abbrev t : Terms
  t = final_terms fixed (before ++ e ∷ later)

  waiting_is : (key : LinkKey) → waiting t (now_of fixed w0) key ≡ waiting (terms_of fixed w0) (now_of fixed w0) key
  waiting_is key = ap (λ ms. length ms) (waiters_same fixed before (now_of fixed w0) w0 last (alike_at fixed numbered before (e ∷ later) fits) key w0.tale.story)

  opens_then : (server : ServerId) (address : Address) (tried : Tried) → MayOpen (terms_of fixed w0) w0.more.log (now_of fixed w0) server address tried
      → MayOpen t before (now_at t before) server address tried
  opens_then server address tried may =
      let alike = alike_at fixed numbered before (e ∷ later) fits in
      let now : Now = now_of fixed w0 in
      let here : MayOpen (terms_of fixed w0) before now server address tried =
      subst (λ l. MayOpen (terms_of fixed w0) l now server address tried) (log_at fixed before) may in
      let free : how_many is_free t before now here.key ≡ how_many is_free (terms_of fixed w0) before now here.key = free_count fixed before now w0 last alike here.key in
      let opening : how_many is_opening t before now here.key ≡ how_many is_opening (terms_of fixed w0) before now here.key = opening_count fixed before now w0 last alike here.key in
      let waits : waiting t now here.key ≡ waiting (terms_of fixed w0) now here.key = waiting_is here.key in
      let few : how_many is_free (terms_of fixed w0) before now here.key + how_many is_opening (terms_of fixed w0) before now here.key < waiting (terms_of fixed w0) now here.key = here.wanted in
      subst (λ (n : Now). MayOpen t before n server address tried) (sym (now_is fixed t before (now_same fixed numbered before (e ∷ later)))) (record {
        key = here.key;
        group = here.group;
        account = here.account;
        bare = here.bare;
        there = here.there;
        room = here.room;
        known = here.known;
        wanted = omega (arith, free, opening, waits, few);
      })

-- at each entry

tried_by_parts : (tried : Tried) (login : Login) (bare : Bool) → login ≡ tried.login → bare ≡ tried.bare → tried ≡ record { login = login; bare = bare }
tried_by_parts tried login bare l b = λ i. record { login = sym l i; bare = sym b i }

module _ (fixed : Fixed) (numbered : IsNumbered fixed) where
  opened_tried : (before later : Log) (server : ServerId) (address : Address) (link : LinkId) → LawfulAfter Fits before (entry.Opened server address link ∷ later)
      → tried_by (known fixed (world_at fixed before))
      ≡ record {
        login = (plan_in (final_terms fixed (before ++ entry.Opened server address link ∷ later))).logins link;
        bare = (final_terms fixed (before ++ entry.Opened server address link ∷ later)).decided.bare link;
      }
  opened_tried before later server address link fits =
      let e : Entry = entry.Opened server address link in
      let w : World More = world_at fixed before in
      let tried : Tried = tried_by (known fixed w) in
      let agrees = agrees_behind fixed numbered before later e (before ++ e ∷ later) refl in
      let behind : (world_at fixed (before ++ e ∷ [])).more.bare link ≡ tried.bare =
      ap (λ (f : LinkId → Bool). f link) (step_at fixed before e).bare ∙ ap (λ b. if b then tried.bare else w.more.bare link) (same_link link) in
      let kept : (world_at fixed (before ++ e ∷ later)).more.bare link ≡ (world_at fixed (before ++ e ∷ [])).more.bare link =
      subst (λ (l : Log). (world_at fixed l).more.bare link ≡ (world_at fixed (before ++ e ∷ [])).more.bare link) (append_assoc before (e ∷ []) later)
      (bare_from fixed (before ++ e ∷ []) later fits.1 link (opened_there fixed before server address link)) in
      tried_by_parts tried _ _ (agrees.logins link tried.login (opened_as fixed before server address link fits.0.fresh)) (kept ∙ behind)

  failed_tried : (before later : Log) (server : ServerId) (address : Address)
      → tried_by (known fixed (world_at fixed before)) ≡ (final_terms fixed (before ++ entry.OpenFailed server address ∷ later)).decided.tried (entry_behind before)
  failed_tried before later server address =
      let e : Entry = entry.OpenFailed server address in
      let w : World More = world_at fixed before in
      let n : ℕ = entry_behind before in
      let long : length (before ++ e ∷ []) ≡ length before + 1 = length-append before (e ∷ []) in
      let behind : (world_at fixed (before ++ e ∷ [])).more.tried n ≡ tried_by (known fixed w) =
      ap (λ (f : ℕ → Tried). f n) (step_at fixed before e).tried
      ∙ ap (λ (l : Log). if nat_eq n (entry_behind l) then tried_by (known fixed w) else w.more.tried n) (log_at fixed before)
      ∙ ap (λ b. if b then tried_by (known fixed w) else w.more.tried n) (same_number n) in
      let kept : (world_at fixed (before ++ e ∷ later)).more.tried n ≡ (world_at fixed (before ++ e ∷ [])).more.tried n =
      subst (λ (l : Log). (world_at fixed l).more.tried n ≡ (world_at fixed (before ++ e ∷ [])).more.tried n) (append_assoc before (e ∷ []) later)
      (tried_from fixed (before ++ e ∷ []) later n (omega (arith, long))) in
      sym behind ∙ sym kept

  -- as many entries were told

  step_moment : (w : World More) (e : Entry) → w.decided.until ≡ w.tale.moment → (next fixed w e).tale.moment ≡ suc w.tale.moment
  step_moment w e even =
      let v : World More = next fixed w e in
      let plan : Plan = plan_of v.decided in
      ap (λ (x : Tale). x.moment) (stepped (setup_of fixed) (shared fixed) w e plan even (agrees-itself v.decided v.tale.moment)).same
      ∙ step_of (λ (x : Tale). x.moment) (λ story x. refl) (λ clients x. refl) (setup_of fixed) plan w.tale e
      ∙ ap (λ n. suc n) (told_moment (setup_of fixed) plan w.tale e)

  moment_from : (log : Log) (w : World More) → w.decided.until ≡ w.tale.moment → (fold (next fixed) w log).tale.moment ≡ w.tale.moment + length log
  moment_from [] w even = omega arith
  moment_from (e ∷ log) w even =
      let one : (next fixed w e).tale.moment ≡ suc w.tale.moment = step_moment w e even in
      let rest : (fold (next fixed) (next fixed w e) log).tale.moment ≡ (next fixed w e).tale.moment + length log =
      moment_from log (next fixed w e) (step_even (setup_of fixed) (shared fixed) w e) in
      omega (arith, one, rest)

  pub moment_at : (log : Log) → entry_now (now_of fixed (world_at fixed log)) ≡ entry_behind log
  moment_at log =
      let all : (world_at fixed log).tale.moment ≡ 0 + length log = moment_from log (first fixed) refl in omega (arith, all)

  -- so for whom an open failed is told at its entry
  failed_now : (before later : Log) (server : ServerId) (address : Address)
      → tried_by (known fixed (world_at fixed before))
      ≡ (final_terms fixed (before ++ entry.OpenFailed server address ∷ later)).decided.tried (entry_now (now_at (final_terms fixed (before ++ entry.OpenFailed server address ∷ later)) before))
  failed_now before later server address =
      let e : Entry = entry.OpenFailed server address in
      let t = final_terms fixed (before ++ e ∷ later) in
      failed_tried before later server address
      ∙ ap (λ n. t.decided.tried n) (sym (ap (λ (n : Now). entry_now n) (now_is fixed t before (now_same fixed numbered before (e ∷ later))) ∙ moment_at before))

  opens_by : (before later : Log) (e : Entry) → AreUsers fixed (world_at fixed before) → LawfulAfter Fits before (e ∷ later) → IsOurs fixed before e
      → OpensSo (final_terms fixed (before ++ e ∷ later)) before e
  opens_by before later (entry.Opened server address link) users fits our =
      let e : Entry = entry.Opened server address link in
      let t = final_terms fixed (before ++ e ∷ later) in
      subst (λ tried. MayOpen t before (now_at t before) server address tried) (opened_tried before later server address link fits)
      (opens_then fixed numbered before later e fits server address (tried_by (known fixed (world_at fixed before))) (opens_now fixed (world_at fixed before) users server address our))
  opens_by before later (entry.OpenFailed server address) users fits our =
      let e : Entry = entry.OpenFailed server address in
      let t = final_terms fixed (before ++ e ∷ later) in
      subst (λ tried. MayOpen t before (now_at t before) server address tried) (failed_now before later server address)
      (opens_then fixed numbered before later e fits server address (tried_by (known fixed (world_at fixed before))) (opens_now fixed (world_at fixed before) users server address our))
  opens_by before later _ users fits our = tt

  opens_from : (before later log : Log) → before ++ later ≡ log → LawfulAfter (UsersSo fixed) before later → LawfulAfter Fits before later → LawfulAfter (IsOurs fixed) before later
      → LawfulAfter (OpensSo (final_terms fixed log)) before later
  opens_from before [] log is users fits our = tt
  opens_from before (e ∷ later) log is users fits our = (
    subst (λ l. OpensSo (final_terms fixed l) before e) is (opens_by before later e users.0 fits our.0),
    opens_from (before ++ e ∷ []) later log (append_assoc before (e ∷ []) later ∙ is) users.1 fits.1 our.1,
  )

  pub opens_kept : (log : Log) → LawfulAfter (UsersSo fixed) [] log → LawfulAfter (IsOurs fixed) [] log → LawfulAfter Fits [] log
      → LawfulAfter (OpensSo (final_terms fixed log)) [] log
  opens_kept log users our fits = opens_from [] log log refl users fits our
