-- Nothing is decided of a message before it comes up, and no breach is told, along a log.
use Rattle.std.specs.Prelude.{◌≡◌, ◌⊎◌, ◌+◌, ◌*◌, ◌≤◌, ◌<◌, ℕ, zero, suc, Bool, true, false, not, ◌&&◌, ◌||◌, fold, if◌then◌else◌, length, take}
use Rattle.std.specs.Prelude.{unwrap_or, List, [], ◌∷◌, ◌++◌, Option, Some, None}
use Rattle.std.specs.Option.{option_map_or}
use Rattle.std.proofs.Common.{refl, sym, ap, ◌∙◌, subst, append_assoc, append-nil, arith, inl, inr, length-append}
use Rattle.std.proofs.lemmas.Bool.{and_parts, ne_eqb}
use Rattle.mx_base.specs.declared.names.LinkId.{LinkId}
use Rattle.mx_base.specs.declared.tag.Tag.{Tag}
use Rattle.mx_base.specs.declared.tag.Tag.TheVariants as tag
use Rattle.mx_wire.specs.Log.{Log}
use Rattle.mx_wire.specs.Moments.{LawfulAfter}
use Rattle.mx_wire.specs.Tells.{Fits}
use Rattle.mx_wire.specs.declared.entry.Entry.{Entry}
use Rattle.mx_wire.specs.declared.entry.Entry.TheVariants as entry
use Rattle.private_model.proofs.Maps.{message_is, same_message}
use Rattle.private_model.specs.Names.{MessageName}
use Rattle.private_model.specs.Story.{Broke, Happening, is_client, is_message, message_of}
use Rattle.private_model.specs.View.{Setup, View}
use Rattle.server_rule.specs.Servers.{is_some_of}
use Rattle.log_story.specs.Owed.{messages, name_of}
use Rattle.log_story.specs.Plan.{Route, job_of}
use Rattle.log_story.specs.Servers.{begins, begun_by, begun_on, may_begin, or_broke, quits_for, writes}
use Rattle.log_story.specs.Tale.{Client, Tale, Wire, is_to_server, new_client, view_of, with_wire}
use Rattle.tale_world.specs.Decided.{Decided, plan_of}
use Rattle.tale_world.specs.Deciding.{Deciding, World}
use Rattle.tale_world.specs.Tested.{PassesBy, has_broken}
use Rattle.tale_world.specs.Tests.{may_tell}
use Rattle.tale_world.specs.World.{are_taken, decided_last, decided_next, decided_told, go_on, goes_on, is_asked, is_called}
use Rattle.tale_world.specs.World.{is_counted, is_ended, is_tagged, is_told, next_of, tagged, taken_once, with_step, with_taken}
use Rattle.tale_world.proofs.Agreeing.{filled-kept}
use Rattle.tale_world.proofs.Following.{told-more}
use Rattle.shared_router.specs.Causes.{known_before}
use Rattle.shared_router.specs.Fixed.{Fixed, setup_of}
use Rattle.shared_router.specs.Judged.{ArePrompt, IsPrompt, IsPromptAt, PromptSo, heard, looked_last}
use Rattle.shared_router.specs.More.{More}
use Rattle.shared_router.specs.Ours.{IsOurs}
use Rattle.shared_router.specs.Shared.{shared, world_at}
use Rattle.shared_router.proofs.Decidedly.{are_more, first_decided}
use Rattle.shared_router.proofs.Passing.{passes_so}
use Rattle.shared_router.proofs.Stepping.{AreBegun, begun_then, first_begun}
use Rattle.shared_router.proofs.Fitly.{first_fit}
use Rattle.shared_router.proofs.Lonely.{first_lone}
use Rattle.shared_router.proofs.Numbered.{AreNumbered, IsIn, IsOld, IsReady, latest_in, numbered_comes, old_comes, old_moves}
use Rattle.shared_router.proofs.Numbered.{there_in}
use Rattle.shared_router.proofs.Parting.{first, next, world_more}
use Rattle.shared_router.proofs.Walks.{Comes, Keeping, Says, entry_keeps, writes_keeps}
use Rattle.shared_router.proofs.Holding.{IsHeld, IsJob, IsTabled, are_freed_held, breaks_loose, counted_held, ending_held, filled_by, holding, isnt, loose, loosely, no_some, some_of, tabled_moves, unbroken_told, whole, work_old}
use Rattle.shared_router.proofs.TakingUp.{apart_then, fresh_then, none_held, ready_then, taken_held}

module _ (fixed : Fixed) where
  abbrev setup : Setup
  setup = setup_of fixed

  abbrev by : Deciding More
  by = shared fixed

  abbrev Held : ℕ → World More → Type 0
  Held n w = IsHeld setup n w.decided w.tale.clients w.tale.story

  -- As many as can be.

  prompt_held : (most n : ℕ) (client : Client) (w : World More) → n < 18446744073709551616 → Held n w → IsReady client w.tale.clients → IsPrompt fixed most client w
  prompt_held zero n client w small held ready = tt
  prompt_held (suc most) n client w small held ready = λ tale is message next. (
    fresh_then fixed n w client held ready small tale is message next,
    prompt_held most n (next_of client) (with_taken setup by w client tale) small (taken_held fixed n w client held ready tale is) (ready_then fixed n w client held ready tale is),
  )

  record AreTaken (n : ℕ) (client : Client) (old new : World More) : Type 0 where
    pub held : Held n new
    pub others : (other : Client) → is_client client.number other.number ≡ false → IsReady other old.tale.clients → IsReady other new.tale.clients

  taking_held : (most n : ℕ) (client : Client) (w : World More) → Held n w → IsReady client w.tale.clients → AreTaken n client w (are_taken most setup by client w)
  taking_held zero n client w held ready = record { held = held; others = λ other apart was. was }
  taking_held (suc most) n client w held ready = by_found (taken_once setup by w client) refl (taking_held most n (next_of client)) where
    by_found : (o : Option Tale) → taken_once setup by w client ≡ o
        → ((v : World More) → Held n v → IsReady (next_of client) v.tale.clients → AreTaken n (next_of client) v (are_taken most setup by (next_of client) v))
        → AreTaken n client w (option_map_or (λ tale. are_taken most setup by (next_of client) (with_taken setup by w client tale)) o (record w { decided = decided_next setup by w client }))
    by_found None is later = record { held = none_held fixed n w client held ready is; others = λ other apart was. was }
    by_found (Some tale) is later =
        let rest = later (with_taken setup by w client tale) (taken_held fixed n w client held ready tale is) (ready_then fixed n w client held ready tale is) in
        record { held = rest.held; others = λ other apart was. rest.others other apart (apart_then fixed n w client held ready tale is other apart was) }

  -- A client, and all of them.

  last_held : (n : ℕ) (w : World More) (client : Client) → Held n w → IsReady client w.tale.clients → Held n (looked_last fixed w client)
  last_held n w client held ready =
      let which = λ (m : MessageName). is_message m (name_of client client.taken) in
      record {
        tabled = record {
          routes = held.tabled.routes;
          own = λ m x is. elim (filled_by which (by.given w) w.decided.own m x is) [
            | inl was ↦ held.tabled.own m x was
            | inr now ↦ inl (subst (IsOld w.tale.clients) (sym (message_is m (name_of client client.taken) now.0)) ready.there)
          ];
          lone = held.tabled.lone;
          counted = held.tabled.counted;
        };
        decided = record {
          due = λ k due is.
              let goes = held.decided.due k due is in
              record {
                route = goes.route;
                routed = goes.routed;
                there = goes.there;
                lone = goes.lone;
                own = goes.own;
                looked = filled-kept which (by.given w) w.decided.own (message_of k due) goes.own goes.looked;
              };
          stands = held.decided.stands;
          answered = held.decided.answered;
          carried = held.decided.carried;
        };
        numbered = held.numbered;
        few = held.few;
        lone = held.lone;
        fit = held.fit;
        unbroken = held.unbroken;
      }

  record Goes (n : ℕ) (view : View) (e : Entry) (client : Client) (w : World More) : Type 0 where
    pub taken : AreTaken n client w (goes_on setup by view e w client)
    pub prompt : is_called (decided_last by w client) w.tale.moment view e client ≡ true
        → IsPrompt fixed (length (messages (plan_of (decided_last by w client)) client)) client (looked_last fixed w client)

  goes_held : (n : ℕ) (view : View) (e : Entry) (client : Client) (w : World More) → n < 18446744073709551616 → Held n w → IsReady client w.tale.clients → Goes n view e client w
  goes_held n view e client w small held ready = record {
    taken = by_test (is_called v.decided w.tale.moment view e client);
    prompt = λ called. prompt_held most n client v small on_v ready;
  } where
    v : World More
    v = looked_last fixed w client

    most : ℕ
    most = length (messages (plan_of v.decided) client)

    on_v : Held n v
    on_v = last_held n w client held ready

    by_test : (b : Bool) → AreTaken n client w (if b then are_taken most setup by client v else v)
    by_test true = let rest = taking_held most n client v on_v ready in record { held = rest.held; others = rest.others }
    by_test false = record { held = on_v; others = λ other apart was. was }

  abbrev AllReady : List Client → List Client → Type 0
  AllReady [] clients = Unit {0}
  AllReady (client ∷ more) clients = IsReady client clients × AllReady more clients

  -- those behind it have other numbers
  all_apart : (client : Client) (from : ℕ) (xs old new : List Client) → AreNumbered from xs → client.number.0 < from
      → ((other : Client) → is_client client.number other.number ≡ false → IsReady other old → IsReady other new) → AllReady xs old → AllReady xs new
  all_apart client from [] old new are less keeps ready = tt
  all_apart client from (x ∷ xs) old new are less keeps ready = (
    keeps x (ne_eqb client.number.0 x.number.0 (λ same. let at : x.number.0 ≡ from = are.0 in omega (arith, same, less, at))) ready.0,
    all_apart client (suc from) xs old new are.1 (omega arith) keeps ready.1,
  )

  record AllGo (n : ℕ) (view : View) (e : Entry) (xs : List Client) (w : World More) : Type 0 where
    pub held : Held n (fold (goes_on setup by view e) w xs)
    pub prompt : ArePrompt fixed view e xs w

  all_go : (n : ℕ) (view : View) (e : Entry) (from : ℕ) (xs : List Client) (w : World More) → n < 18446744073709551616 → Held n w → AreNumbered from xs
      → AllReady xs w.tale.clients → AllGo n view e xs w
  all_go n view e from [] w small held are ready = record { held = held; prompt = tt }
  all_go n view e from (client ∷ xs) w small held are ready =
      let one = goes_held n view e client w small held ready.0 in
      let v : World More = goes_on setup by view e w client in
      let at : client.number.0 ≡ from = are.0 in
      let rest = all_go n view e (suc from) xs v small one.taken.held are.1
      (all_apart client (suc from) xs w.tale.clients v.tale.clients are.1 (omega (arith, at)) one.taken.others ready.1) in
      record { held = rest.held; prompt = (one.prompt, rest.prompt) }

  all_ready : (list xs : List Client) → AreNumbered 1 list → ((c : Client) → IsIn c xs → IsIn c list) → AllReady xs list
  all_ready list [] are within = tt
  all_ready list (x ∷ xs) are within = (
    record { latest = latest_in x 1 list are (within x (inl refl)); there = there_in x list (within x (inl refl)) },
    all_ready list xs are (λ c there. within c (inr there)),
  )

  -- An entry is told: a tag names what is known.

  abbrev told_by : World More → LinkId → Tag → List ℕ → Decided
  told_by w link for bytes = with_step by w link for bytes

  abbrev Tells : World More → LinkId → Tag → List ℕ → List Happening → Type 0
  Tells w link for bytes es = may_tell setup es w.tale.story ≡ true

  -- of what isn't known a breach is told
  not_broke : (w : World More) (happens : Route → List Happening) (o : Option Route) → may_tell setup (or_broke happens o) w.tale.story ≡ true → (r : Route) × (o ≡ Some r)
  not_broke w happens None told = isnt told
  not_broke w happens (Some r) told = (r, refl)

  known_by : (w : World More) (link : LinkId) (for : Tag) (bytes : List ℕ) (m : MessageName) (happens : Route → List Happening)
      → may_tell setup (or_broke happens ((plan_of (told_by w link for bytes)).routes m)) w.tale.story ≡ true → (r : Route) × (w.decided.routes m ≡ Some (Some r))
  known_by w link for bytes m happens told =
      let found = not_broke w happens ((plan_of (told_by w link for bytes)).routes m) told in (
        found.0,
        elim (filled_by (is_tagged (tagged for)) (by.routed w) w.decided.routes m (Some found.0) (some_route ((told_by w link for bytes).routes m) found.0 found.1)) [
          | inl was ↦ was
          | inr now ↦ no_some found.0 now.1
        ],
      )
    where
      some_route : (o : Option (Option Route)) (r : Route) → unwrap_or o None ≡ Some r → o ≡ Some (Some r)
      some_route None r is = no_some r is
      some_route (Some x) r is = ap (λ (y : Option Route). Some y) is

  tag_known : (w : World More) (link : LinkId) (for : Tag) (bytes : List ℕ) (named m : MessageName) → tagged for ≡ Some named → is_message m named ≡ true
      → may_tell setup (begun_by setup (plan_of (told_by w link for bytes)) w.tale.moment (view_of setup w.tale) link (w.tale.wires link).begun for) w.tale.story ≡ true
      → (r : Route) × (w.decided.routes m ≡ Some (Some r))
  tag_known w link (tag.For client ordinal) bytes named m is same told =
      let at : m ≡ record { client = client; ordinal = ordinal } = message_is m named same ∙ sym (some_of _ named is) in
      subst (λ (k : MessageName). (r : Route) × (w.decided.routes k ≡ Some (Some r))) (sym at) (known_by w link (tag.For client ordinal) bytes (record { client = client; ordinal = ordinal }) _ told)
  tag_known w link (tag.Prep client ordinal) bytes named m is same told =
      let at : m ≡ record { client = client; ordinal = ordinal } = message_is m named same ∙ sym (some_of _ named is) in
      subst (λ (k : MessageName). (r : Route) × (w.decided.routes k ≡ Some (Some r))) (sym at) (known_by w link (tag.Prep client ordinal) bytes (record { client = client; ordinal = ordinal }) _ told)
  tag_known w link (tag.Mirror client ordinal) bytes named m is same told =
      let at : m ≡ record { client = client; ordinal = ordinal } = message_is m named same ∙ sym (some_of _ named is) in
      subst (λ (k : MessageName). (r : Route) × (w.decided.routes k ≡ Some (Some r))) (sym at) (known_by w link (tag.Mirror client ordinal) bytes (record { client = client; ordinal = ordinal }) _ told)
  tag_known w link (tag.Sync client hostgroup) bytes named m is same told = no_some named is
  tag_known w link (tag.End client hostgroup) bytes named m is same told = no_some named is
  tag_known w link tag.Own bytes named m is same told = no_some named is
  tag_known w link tag.Reply bytes named m is same told = no_some named is

  step_tabled : (n : ℕ) (w : World More) (link : LinkId) (for : Tag) (bytes : List ℕ) → Held n w
      → may_tell setup (begun_on setup (plan_of (told_by w link for bytes)) w.tale.moment (view_of setup w.tale) link (w.tale.wires link) for) w.tale.story ≡ true
      → IsTabled (told_by w link for bytes) w.tale.clients
  step_tabled n w link for bytes held told = record {
    routes = λ m x is. elim (filled_by (is_tagged (tagged for)) (by.routed w) w.decided.routes m x is) [
      | inl was ↦ held.tabled.routes m x was
      | inr now ↦ by_tag (tagged for) refl m now.0
    ];
    own = λ m x is. elim (filled_by (is_asked (tagged for)) (by.given w) w.decided.own m x is) [
      | inl was ↦ held.tabled.own m x was
      | inr now ↦ by_asked (tagged for) refl m now.0
    ];
    lone = λ m r is. elim (filled_by (is_tagged (tagged for)) (by.routed w) w.decided.routes m (Some r) is) [
      | inl was ↦ held.tabled.lone m r was
      | inr now ↦ no_some r now.1
    ];
    counted = λ m r is. elim (filled_by (is_tagged (tagged for)) (by.routed w) w.decided.routes m (Some r) is) [
      | inl was ↦ held.tabled.counted m r was
      | inr now ↦ no_some r now.1
    ];
  } where
    wire : Wire
    wire = w.tale.wires link

    d : Decided
    d = told_by w link for bytes

    begun : List Happening
    begun = begun_by setup (plan_of d) w.tale.moment (view_of setup w.tale) link wire.begun for

    unbroken : (b : Bool) → may_tell setup (if b then Broke ∷ [] else begun) w.tale.story ≡ true → may_tell setup begun w.tale.story ≡ true
    unbroken true is = isnt is
    unbroken false is = is

    begun_told : may_tell setup begun w.tale.story ≡ true
    begun_told = unbroken (is_some_of wire.unread && not (quits_for for ((plan_of d).steps link wire.begun))) told

    known : (named m : MessageName) → tagged for ≡ Some named → is_message m named ≡ true → (r : Route) × (w.decided.routes m ≡ Some (Some r))
    known named m at is = tag_known w link for bytes named m at is begun_told

    by_tag : (o : Option MessageName) → tagged for ≡ o → (m : MessageName) → is_tagged o m ≡ true → IsOld w.tale.clients m
    by_tag None at m is = isnt is
    by_tag (Some named) at m is = let r = known named m at is in held.tabled.routes m (Some r.0) r.1

    by_asked : (o : Option MessageName) → tagged for ≡ o → (m : MessageName) → is_asked o m ≡ true → IsOld w.tale.clients m ⊎ IsJob m
    by_asked None at m is = isnt is
    by_asked (Some named) at m is = by_first (is_message m named) refl is where
      by_first : (b : Bool) → is_message m named ≡ b → (b || is_message m (record { client = job_of named; ordinal = 1 })) ≡ true → IsOld w.tale.clients m ⊎ IsJob m
      by_first true same is = inl (by_tag (Some named) at m same)
      by_first false same is =
          let r = known named named at (same_message named) in
          let more : 1 ≤ named.ordinal = held.tabled.counted named r.0 r.1 in
          let job : 18446744073709551616 ≤ named.ordinal * 18446744073709551616 + named.client.0 = omega (arith, more) in
          inr (subst IsJob (sym (message_is m (record { client = job_of named; ordinal = 1 }) is)) job)

  if_tabled : (b : Bool) (x y : Decided) (clients : List Client) → (b ≡ true → IsTabled x clients) → IsTabled y clients → IsTabled (if b then x else y) clients
  if_tabled true x y clients one other = one refl
  if_tabled false x y clients one other = other

  told_tabled : (n : ℕ) (w : World More) (e : Entry) → Held n w → PassesBy setup by w e → IsTabled (decided_told setup by w e) w.tale.clients
  told_tabled n w (entry.Opened server address link) held passes =
      record { routes = held.tabled.routes; own = held.tabled.own; lone = held.tabled.lone; counted = held.tabled.counted }
  told_tabled n w (entry.Got link bytes) held passes =
      record { routes = held.tabled.routes; own = held.tabled.own; lone = held.tabled.lone; counted = held.tabled.counted }
  told_tabled n w (entry.Wrote link for bytes) held passes =
      if_tabled (is_to_server w.tale link && may_begin setup link (w.tale.wires link) w.tale) (with_step by w link for bytes) w.decided w.tale.clients
      (λ both. let parts = and_parts (is_to_server w.tale link) _ both in
      step_tabled n w link for bytes held
      (subst (λ b. may_tell setup (begun_on setup (plan_of (if b then with_step by w link for bytes else w.decided)) w.tale.moment (view_of setup w.tale) link (w.tale.wires link) for) w.tale.story ≡ true) both
      (passes parts.0 parts.1)))
      held.tabled
  told_tabled n w _ held passes = held.tabled

  told_held : (n : ℕ) (w : World More) (e : Entry) → Held n w → PassesBy setup by w e → Held (suc n) (is_told setup by w e)
  told_held n w e held passes = entry_keeps setup (plan_of d) (holding setup (suc n) d) w.tale e (comes e) (says e passes refl) start where
    d : Decided
    d = decided_told setup by w e

    start : IsHeld setup (suc n) d w.tale.clients w.tale.story
    start = record {
      tabled = told_tabled n w e held passes;
      decided = are_more w.decided d (view_of setup w.tale) (told-more setup by w e) held.decided;
      numbered = held.numbered;
      few = omega (arith, held.few);
      lone = held.lone;
      fit = held.fit;
      unbroken = held.unbroken;
    }

    passed : (link : LinkId) (for : Tag) (bytes : List ℕ) → entry.Wrote link for bytes ≡ e → is_to_server w.tale link ≡ true → may_begin setup link (w.tale.wires link) w.tale ≡ true
        → PassesBy setup by w (entry.Wrote link for bytes)
        → has_broken (begun_on setup (plan_of d) w.tale.moment (view_of setup w.tale) link (w.tale.wires link) for ++ w.tale.story) ≡ false
    passed link for bytes same there begins passes =
        unbroken_told setup (begun_on setup (plan_of d) w.tale.moment (view_of setup w.tale) link (w.tale.wires link) for) w.tale.story
        (subst (λ (x : Entry). may_tell setup (begun_on setup (plan_of (decided_told setup by w x)) w.tale.moment (view_of setup w.tale) link (w.tale.wires link) for) w.tale.story ≡ true) same
        (passes there begins)) held.unbroken

    comes : (x : Entry) → Comes setup (plan_of d) (holding setup (suc n) d) w.tale x
    comes (entry.Accepted port link salt) =
        let one : Client = new_client (length w.tale.clients + 1) port link salt in
        record {
          tabled = tabled_moves d w.tale.clients (w.tale.clients ++ one ∷ []) (λ m was. old_comes m w.tale.clients (one ∷ []) was) start.tabled;
          decided = start.decided;
          numbered = numbered_comes 1 w.tale.clients one held.numbered (omega arith);
          few = let size : length (w.tale.clients ++ one ∷ []) ≡ length w.tale.clients + 1 = length-append w.tale.clients (one ∷ []) in omega (arith, size, held.few);
          lone = held.lone;
          fit = held.fit;
          unbroken = held.unbroken;
        }
    comes _ = tt

    says : (x : Entry) → PassesBy setup by w x → x ≡ e → Says setup (plan_of d) (holding setup (suc n) d) w.tale x
    says (entry.Wrote link for bytes) passes same = λ there.
        let written = writes setup (plan_of d) link for bytes (w.tale.wires link) w.tale in
        whole setup (suc n) d written.clients written.story
        (writes_keeps setup (plan_of d) (loosely setup (suc n) d) (breaks_loose setup (suc n) d) link for bytes (w.tale.wires link) w.tale (loose setup (suc n) d w.tale.clients w.tale.story start))
        (by_begins (may_begin setup link (w.tale.wires link) w.tale) (λ begins. passed link for bytes same there begins passes))
      where
        by_begins : (b : Bool) → (b ≡ true → has_broken (begun_on setup (plan_of d) w.tale.moment (view_of setup w.tale) link (w.tale.wires link) for ++ w.tale.story) ≡ false)
            → has_broken (if b then begins setup (plan_of d) link for bytes (w.tale.wires link) w.tale
            else with_wire link (record (w.tale.wires link) { written = (w.tale.wires link).written ++ bytes }) w.tale).story ≡ false
        by_begins true passed = passed refl
        by_begins false passed = held.unbroken
    says _ passes same = tt

  -- what is old stays so as an entry is told
  abbrev old_keeping : (m : MessageName) → Keeping setup
  old_keeping m = record {
    holds = λ clients story. IsOld clients m;
    more = λ clients past e may was. was;
    moves = λ clients past f stays was. old_moves f stays m clients was;
  }

  old_told : (w : World More) (e : Entry) (m : MessageName) → IsOld w.tale.clients m → IsOld (is_told setup by w e).tale.clients m
  old_told w e m was = entry_keeps setup (plan_of (decided_told setup by w e)) (old_keeping m) w.tale e (comes e) (says e) was where
    comes : (x : Entry) → Comes setup (plan_of (decided_told setup by w e)) (old_keeping m) w.tale x
    comes (entry.Accepted port link salt) = old_comes m w.tale.clients (new_client (length w.tale.clients + 1) port link salt ∷ []) was
    comes _ = tt

    says : (x : Entry) → Says setup (plan_of (decided_told setup by w e)) (old_keeping m) w.tale x
    says (entry.Wrote link for bytes) = λ there.
        writes_keeps setup (plan_of (decided_told setup by w e)) (old_keeping m) (λ clients past was. was) link for bytes (w.tale.wires link) w.tale was
    says _ = tt

  -- Each entry.

  pub heard_held : (n : ℕ) (w : World More) (e : Entry) → Held n w → PassesBy setup by w e → Held (suc n) (heard fixed w e)
  heard_held n w e held passes =
      let told_then : World More = is_told setup by w e in
      are_freed_held fixed (suc n) (is_counted by told_then e)
      (counted_held fixed (suc n) told_then e (λ m given. old_told w e m (work_old fixed (known_before fixed told_then) told_then.more.servers e m given)) (told_held n w e held passes))

  pub record IsStepHeld (n : ℕ) (w : World More) (e : Entry) : Type 0 where
    pub held : Held (suc n) (next fixed w e)
    pub prompt : IsPromptAt fixed w e

  pub step_held : (n : ℕ) (w : World More) (e : Entry) → suc n < 18446744073709551616 → Held n w → PassesBy setup by w e → IsStepHeld n w e
  step_held n w e small held passes =
      let c : World More = heard fixed w e in
      let on_c = heard_held n w e held passes in
      let all = all_go (suc n) (view_of setup w.tale) e 1 c.tale.clients c small on_c on_c.numbered (all_ready c.tale.clients c.tale.clients on_c.numbered (λ x there. there)) in
      let d : World More = go_on setup by (view_of setup w.tale) e c in
      record { held = are_freed_held fixed (suc n) (is_ended by d e) (ending_held fixed (suc n) d e all.held); prompt = all.prompt }

  -- and each log

  pub first_held : Held 0 (first fixed)
  first_held = record {
    tabled = record { routes = λ m x is. no_some x is; own = λ m x is. no_some x is; lone = λ m r is. no_some _ is; counted = λ m r is. no_some _ is };
    decided = first_decided _ setup;
    numbered = tt;
    few = omega arith;
    lone = first_lone setup;
    fit = first_fit setup;
    unbroken = refl;
  }

  -- a world that holds so much, and in which only steps that began were decided
  pub record IsReached (n : ℕ) (log : Log) : Type 0 where
    pub held : Held n (world_at fixed log)
    pub begun : AreBegun fixed (world_at fixed log)

  pub first_reached : IsReached 0 []
  first_reached = record { held = first_held; begun = first_begun fixed }

  pub reached_step : (n : ℕ) (before : Log) (e : Entry) → suc n < 18446744073709551616 → IsReached n before → IsOurs fixed before e → Fits before e
      → IsStepHeld n (world_at fixed before) e
  reached_step n before e small is ours fits = step_held n (world_at fixed before) e small is.held (passes_so fixed before e is.begun is.held.decided ours fits)

  pub reached_next : (n : ℕ) (before : Log) (e : Entry) → suc n < 18446744073709551616 → IsReached n before → IsOurs fixed before e → Fits before e
      → IsReached (suc n) (before ++ e ∷ [])
  reached_next n before e small is ours fits = record {
    held = subst (λ (v : World More). Held (suc n) v) (sym (world_more fixed before (e ∷ []))) (reached_step n before e small is ours fits).held;
    begun = begun_then fixed before e fits is.begun;
  }

  prompts_from : (before later : Log) (n : ℕ) → n + length later < 18446744073709551616 → IsReached n before → LawfulAfter (IsOurs fixed) before later → LawfulAfter Fits before later
      → LawfulAfter (PromptSo fixed) before later
  prompts_from before [] n small is ours fits = tt
  prompts_from before (e ∷ later) n small is ours fits = (
    (reached_step n before e (omega arith) is ours.0 fits.0).prompt,
    prompts_from (before ++ e ∷ []) later (suc n) (omega arith) (reached_next n before e (omega arith) is ours.0 fits.0) ours.1 fits.1,
  )

  pub prompts_kept : (log : Log) → length log < 18446744073709551616 → LawfulAfter (IsOurs fixed) [] log → LawfulAfter Fits [] log → LawfulAfter (PromptSo fixed) [] log
  prompts_kept log small ours fits = prompts_from [] log 0 (omega arith) first_reached ours fits

  -- no breach is told at any moment
  whole_from : (before later : Log) (n k : ℕ) → n + length later < 18446744073709551616 → IsReached n before → LawfulAfter (IsOurs fixed) before later → LawfulAfter Fits before later
      → has_broken (world_at fixed (before ++ take k later)).tale.story ≡ false
  whole_from before later n zero small is ours fits = subst (λ (l : Log). has_broken (world_at fixed l).tale.story ≡ false) (sym (append-nil before)) is.held.unbroken
  whole_from before [] n (suc k) small is ours fits = subst (λ (l : Log). has_broken (world_at fixed l).tale.story ≡ false) (sym (append-nil before)) is.held.unbroken
  whole_from before (e ∷ later) n (suc k) small is ours fits =
      subst (λ (l : Log). has_broken (world_at fixed l).tale.story ≡ false) (append_assoc before (e ∷ []) (take k later))
      (whole_from (before ++ e ∷ []) later (suc n) k (omega arith) (reached_next n before e (omega arith) is ours.0 fits.0) ours.1 fits.1)

  pub unbroken_at : (log : Log) (k : ℕ) → length log < 18446744073709551616 → LawfulAfter (IsOurs fixed) [] log → LawfulAfter Fits [] log
      → has_broken (world_at fixed (take k log)).tale.story ≡ false
  unbroken_at log k small ours fits = whole_from [] log 0 k (omega arith) first_reached ours fits
