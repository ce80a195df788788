-- What is held of what was decided: it is of messages that were taken up, and of what is due it was decided; and no breach is told.
use Rattle.std.specs.Prelude.{◌≡◌, ◌⊎◌, ◌≤◌, ℕ, suc, Bool, true, false, ◌&&◌, ◌||◌, fold, is_some, nat_eq, if◌then◌else◌, length, map}
use Rattle.std.specs.Prelude.{unwrap_or, List, [], ◌∷◌, ◌++◌, Option, Some, None}
use Rattle.std.specs.List.{list_any}
use Rattle.std.specs.Option.{option_and_then, option_map_or}
use Rattle.std.proofs.Common.{refl, ap, ◌∙◌, arith, inl, inr}
use Rattle.std.proofs.lemmas.Bool.{and_from, and_parts, le-leb, or_left, or_right}
use Rattle.std.proofs.lemmas.List.{length-map}
use Rattle.hostgroups.specs.declared.server.Server.{Server}
use Rattle.mx_base.specs.declared.names.LinkId.{LinkId}
use Rattle.mx_wire.specs.declared.entry.Entry.{Entry}
use Rattle.private_model.proofs.Maps.{message_is, number_of}
use Rattle.private_model.specs.Names.{Hostgroup, MessageName, SessionName}
use Rattle.private_model.specs.Story.{Broke, Due, Freed, Happening, Story, is_client, is_message, message_of}
use Rattle.private_model.specs.View.{Carried, Joined, Lent, Nobody, Setup, View, view_after}
use Rattle.log_story.specs.Plan.{OwnAnswer, Route}
use Rattle.log_story.specs.Servers.{is_done}
use Rattle.log_story.specs.Tale.{Client, Tale, link_in, tell, view_of}
use Rattle.tale_world.specs.Decided.{Decided, IsMore, filled, plan_of}
use Rattle.tale_world.specs.Deciding.{Deciding, World}
use Rattle.tale_world.specs.Tested.{has_broken}
use Rattle.tale_world.specs.Tests.{may_happen, may_tell}
use Rattle.tale_world.specs.World.{are_freed, decided_ends, decided_freed, freed_there, given_up}
use Rattle.tale_world.specs.World.{is_counted, is_ended, looked_for}
use Rattle.tale_world.proofs.Following.{freed_follows}
use Rattle.router_promises.specs.GivenUp.{is_in_work}
use Rattle.router_promises.specs.Terms.{plan_in}
use Rattle.shared_router.specs.Causes.{cause_of, given_by}
use Rattle.shared_router.specs.Fixed.{Fixed, setup_of}
use Rattle.shared_router.specs.Known.{Known}
use Rattle.shared_router.specs.More.{More}
use Rattle.shared_router.specs.Shared.{shared}
use Rattle.shared_router.proofs.Decidedly.{AreDecided, GoesTo, are_more, keeps_more}
use Rattle.shared_router.proofs.Fitly.{Fit, more_fit}
use Rattle.shared_router.proofs.Lonely.{Lone, more_lone}
use Rattle.shared_router.proofs.Numbered.{AreNumbered, IsOld, numbered_moves, old_moves}
use Rattle.shared_router.proofs.Walks.{Keeping, MayTell, Stays, ending_keeps, if_either}

-- the name of a job's message
abbrev pub IsJob : MessageName → Type 0
IsJob m = 18446744073709551616 ≤ m.client.0

-- what is decided is of old messages, and is known of where one goes
pub record IsTabled (d : Decided) (clients : List Client) : Type 0 where
  pub routes : (m : MessageName) (x : Option Route) → d.routes m ≡ Some x → IsOld clients m
  pub own : (m : MessageName) (x : Option OwnAnswer) → d.own m ≡ Some x → IsOld clients m ⊎ IsJob m
  pub lone : (m : MessageName) (r : Route) → d.routes m ≡ Some (Some r) → r.mirror ≡ None
  pub counted : (m : MessageName) (r : Route) → d.routes m ≡ Some (Some r) → 1 ≤ m.ordinal

pub record IsHeld (setup : Setup) (n : ℕ) (d : Decided) (clients : List Client) (story : Story) : Type 0 where
  pub tabled : IsTabled d clients
  pub decided : AreDecided d (view_after setup story)
  pub numbered : AreNumbered 1 clients
  pub few : length clients ≤ n
  pub lone : Lone setup story
  pub fit : Fit setup story
  pub unbroken : has_broken story ≡ false

-- the same but for breaches
pub record IsLoose (setup : Setup) (n : ℕ) (d : Decided) (clients : List Client) (story : Story) : Type 0 where
  pub tabled : IsTabled d clients
  pub decided : AreDecided d (view_after setup story)
  pub numbered : AreNumbered 1 clients
  pub few : length clients ≤ n
  pub lone : Lone setup story
  pub fit : Fit setup story

pub isnt : {A : Type 0} → false ≡ true → A
isnt is = absurd (cc)

pub no_some : {A B : Type 0} (a : A) → None ≡ Some a → B
no_some a is = absurd (cc)

pub some_of : {A : Type 0} (a b : A) → Some a ≡ Some b → a ≡ b
some_of a b is = cc

-- What is put into a table was there, or is new.
pub filled_by : {K A : Type 0} (which : K → Bool) (value : K → A) (f : K → Option A) (k : K) (x : A) → filled which value f k ≡ Some x
    → (f k ≡ Some x) ⊎ ((which k ≡ true) × (value k ≡ x))
filled_by {A = A} which value f k x is = by_test (which k) refl is where
  by_there : (o : Option A) → f k ≡ o → which k ≡ true → Some (unwrap_or o (value k)) ≡ Some x → (f k ≡ Some x) ⊎ ((which k ≡ true) × (value k ≡ x))
  by_there None at here is = inr (here, some_of (value k) x is)
  by_there (Some y) at here is = inl (at ∙ is)

  by_test : (b : Bool) → which k ≡ b → (if b then Some (unwrap_or (f k) (value k)) else f k) ≡ Some x → (f k ≡ Some x) ⊎ ((which k ≡ true) × (value k ≡ x))
  by_test true here is = by_there (f k) refl here is
  by_test false here is = inl is

-- More is decided of what was decided.
pub tabled_moves : (d : Decided) (old new : List Client) → ((m : MessageName) → IsOld old m → IsOld new m) → IsTabled d old → IsTabled d new
tabled_moves d old new keeps tabled = record {
  routes = λ m x is. keeps m (tabled.routes m x is);
  own = λ m x is. elim (tabled.own m x is) [
    | inl was ↦ inl (keeps m was)
    | inr job ↦ inr job
  ];
  lone = tabled.lone;
  counted = tabled.counted;
}

pub unbroken_more : (view : View) (e : Happening) (past : Story) → MayTell view e → has_broken past ≡ false → has_broken (e ∷ past) ≡ false
unbroken_more view Broke past may none = absurd may
unbroken_more view _ past may none = none

-- what passes the test is no breach
pub unbroken_told : (setup : Setup) (es : List Happening) (past : Story) → may_tell setup es past ≡ true → has_broken past ≡ false → has_broken (es ++ past) ≡ false
unbroken_told setup [] past told none = none
unbroken_told setup (e ∷ es) past told none =
    let parts = and_parts (may_tell setup es past) _ told in one e parts.1 (unbroken_told setup es past parts.0 none)
  where
    one : (x : Happening) → may_happen setup (view_after setup (es ++ past)) x ≡ true → has_broken (es ++ past) ≡ false → has_broken (x ∷ (es ++ past)) ≡ false
    one Broke is none = isnt is
    one _ is none = none

module _ (setup : Setup) (n : ℕ) (d : Decided) where
  pub more_loose : (clients : List Client) (past : Story) (e : Happening) → MayTell (view_after setup past) e → IsLoose setup n d clients past → IsLoose setup n d clients (e ∷ past)
  more_loose clients past e may held = record { tabled = held.tabled; decided = keeps_more d setup past e may held.decided; numbered = held.numbered; few = held.few; lone = more_lone setup past e may held.lone; fit = more_fit setup past e may held.lone held.fit }

  pub moves_loose : (clients : List Client) (past : Story) (f : Client → Client) → Stays f → IsLoose setup n d clients past → IsLoose setup n d (map f clients) past
  moves_loose clients past f stays held = record {
    tabled = tabled_moves d clients (map f clients) (λ m was. old_moves f stays m clients was) held.tabled;
    decided = held.decided;
    numbered = numbered_moves f stays 1 clients held.numbered;
    few = let same : length (map f clients) ≡ length clients = length-map clients f in omega (arith, same, held.few);
    lone = held.lone;
    fit = held.fit;
  }

  abbrev pub loosely : Keeping setup
  loosely = record { holds = IsLoose setup n d; more = more_loose; moves = moves_loose }

  pub breaks_loose : (clients : List Client) (past : Story) → IsLoose setup n d clients past → IsLoose setup n d clients (Broke ∷ past)
  breaks_loose clients past held = record { tabled = held.tabled; decided = held.decided; numbered = held.numbered; few = held.few; lone = held.lone; fit = held.fit }

  pub loose : (clients : List Client) (story : Story) → IsHeld setup n d clients story → IsLoose setup n d clients story
  loose clients story held = record { tabled = held.tabled; decided = held.decided; numbered = held.numbered; few = held.few; lone = held.lone; fit = held.fit }

  pub whole : (clients : List Client) (story : Story) → IsLoose setup n d clients story → has_broken story ≡ false → IsHeld setup n d clients story
  whole clients story held none = record { tabled = held.tabled; decided = held.decided; numbered = held.numbered; few = held.few; lone = held.lone; fit = held.fit; unbroken = none }

  pub more_held : (clients : List Client) (past : Story) (e : Happening) → MayTell (view_after setup past) e → IsHeld setup n d clients past → IsHeld setup n d clients (e ∷ past)
  more_held clients past e may held =
      whole clients (e ∷ past) (more_loose clients past e may (loose clients past held)) (unbroken_more (view_after setup past) e past may held.unbroken)

  pub moves_held : (clients : List Client) (past : Story) (f : Client → Client) → Stays f → IsHeld setup n d clients past → IsHeld setup n d (map f clients) past
  moves_held clients past f stays held = whole (map f clients) past (moves_loose clients past f stays (loose clients past held)) held.unbroken

  abbrev pub holding : Keeping setup
  holding = record { holds = IsHeld setup n d; more = more_held; moves = moves_held }

module _ (fixed : Fixed) where
  abbrev pub setup : Setup
  setup = setup_of fixed

  abbrev pub by : Deciding More
  by = shared fixed

  abbrev pub Held : ℕ → World More → Type 0
  Held n w = IsHeld setup n w.decided w.tale.clients w.tale.story

  -- Links are given back.

  pub record IsLooked (dues : SessionName → Option Due) (m : MessageName) : Type 0 where
    pub name : SessionName
    pub due : Due
    pub at : dues name ≡ Some due
    pub same : m ≡ message_of name due

  pub looked_is : (dues : SessionName → Option Due) (carried : Carried) (m : MessageName) → looked_for dues carried m ≡ true → IsLooked dues m
  looked_is dues Nobody m is = isnt is
  looked_is dues (Joined n) m is = isnt is
  looked_is dues (Lent n) m is = by_due (dues n) refl is where
    by_due : (o : Option Due) → dues n ≡ o → option_map_or (λ due. is_message m (message_of n due)) o false ≡ true → IsLooked dues m
    by_due None at is = isnt is
    by_due (Some due) at is = record { name = n; due = due; at = at; same = message_is m (message_of n due) is }

  -- it was looked at before whether what is due is answered
  pub due_looked : (d : Decided) (clients : List Client) (story : Story) (m : MessageName) → IsTabled d clients → AreDecided d (view_after setup story)
      → IsLooked (view_after setup story).dues m → IsOld clients m ⊎ IsJob m
  due_looked d clients story m tabled decided looked =
      let goes = decided.due looked.name looked.due looked.at in
      tabled.own m goes.own (ap d.own looked.same ∙ goes.looked)

  pub freed_held : (n : ℕ) (w : World More) (link : LinkId) → Held n w → Held n (freed_there setup by w link)
  freed_held n w link held =
      let d : Decided = decided_freed setup by w link in
      let more : IsMore w.decided d = (freed_follows setup by w.tale.moment w link refl).more in
      let carries = (link_in setup w.tale link).carries in
      let start : IsHeld setup n d w.tale.clients w.tale.story = record {
        tabled = record {
          routes = held.tabled.routes;
          own = λ m x is. elim (filled_by (looked_for (view_of setup w.tale).dues carries) (by.given w) w.decided.own m x is) [
            | inl was ↦ held.tabled.own m x was
            | inr looked ↦ due_looked w.decided w.tale.clients w.tale.story m held.tabled held.decided (looked_is (view_of setup w.tale).dues carries m looked.0)
          ];
          lone = held.tabled.lone;
          counted = held.tabled.counted;
        };
        decided = are_more w.decided d (view_of setup w.tale) more held.decided;
        numbered = held.numbered;
        few = held.few;
        lone = held.lone;
        fit = held.fit;
        unbroken = held.unbroken;
      } in
      if_either (λ (t : Tale). IsHeld setup n d t.clients t.story) (is_done (plan_of d) w.tale.moment (view_of setup w.tale) (w.tale.wires link) (link_in setup w.tale link))
      (tell (Freed link) w.tale) w.tale (more_held setup n d w.tale.clients w.tale.story (Freed link) tt start) start

  pub freeing_held : (n : ℕ) (xs : List LinkId) (w : World More) → Held n w → Held n (fold (freed_there setup by) w xs)
  freeing_held n [] w held = held
  freeing_held n (x ∷ xs) w held = freeing_held n xs (freed_there setup by w x) (freed_held n w x held)

  pub are_freed_held : (n : ℕ) (w : World More) → Held n w → Held n (are_freed setup by w)
  are_freed_held n w held = freeing_held n w.tale.links w held

  -- Messages are given up: those that are in work.

  pub given_is : (moment : ℕ) (payloads : Option (List (List ℕ))) (own : Option (Option OwnAnswer)) (x : Option OwnAnswer) → given_up moment payloads own ≡ Some x
      → (is_some payloads ≡ true) ⊎ (own ≡ Some x)
  given_is moment None own x is = inr is
  given_is moment (Some payloads) own x is = inl refl

  pub given_some : (moment : ℕ) (payloads : Option (List (List ℕ))) (own : Option OwnAnswer) → (x : Option OwnAnswer) × (given_up moment payloads (Some own) ≡ Some x)
  given_some moment None own = (own, refl)
  given_some moment (Some payloads) None = (_, refl)
  given_some moment (Some payloads) (Some answer) = (Some answer, refl)

  pub counted_held : (n : ℕ) (w : World More) (e : Entry) → ((m : MessageName) → is_some (by.gives_up w e m) ≡ true → IsOld w.tale.clients m) → Held n w → Held n (is_counted by w e)
  counted_held n w e in_work held = record {
    tabled = record {
      routes = held.tabled.routes;
      own = λ m x is. elim (given_is (suc w.tale.moment) (by.gives_up w e m) (w.decided.own m) x is) [
        | inl given ↦ inl (in_work m given)
        | inr was ↦ held.tabled.own m x was
      ];
      lone = held.tabled.lone;
      counted = held.tabled.counted;
    };
    decided = record {
      due = λ k due is.
          let goes = held.decided.due k due is in
          let given = given_some (suc w.tale.moment) (by.gives_up w e (message_of k due)) goes.own in
          record {
            route = goes.route;
            routed = goes.routed;
            there = goes.there;
            lone = goes.lone;
            own = given.0;
            looked = ap (given_up (suc w.tale.moment) (by.gives_up w e (message_of k due))) goes.looked ∙ given.1;
          };
      stands = held.decided.stands;
      answered = held.decided.answered;
      carried = held.decided.carried;
    };
    numbered = held.numbered;
    few = held.few;
    lone = held.lone;
    fit = held.fit;
    unbroken = held.unbroken;
  }

  -- what is given up is in work
  pub work_old : (k : Known) (servers : List Server) (e : Entry) (m : MessageName) → is_some (given_by k servers e m) ≡ true → IsOld k.now.tale.clients m
  work_old k servers e m given = by_test (is_in_work k.terms k.now m) refl given where
    found : (clients : List Client) → list_any (λ (client : Client). is_client client.number m.client && nat_eq client.taken m.ordinal) clients ≡ true → IsOld clients m
    found [] is = isnt is
    found (client ∷ clients) is = by_first (is_client client.number m.client && nat_eq client.taken m.ordinal) refl is (found clients) where
      by_first : (b : Bool) → (is_client client.number m.client && nat_eq client.taken m.ordinal) ≡ b
          → (b || list_any (λ (c : Client). is_client c.number m.client && nat_eq c.taken m.ordinal) clients) ≡ true
          → (list_any (λ (c : Client). is_client c.number m.client && nat_eq c.taken m.ordinal) clients ≡ true → IsOld clients m) → IsOld (client ∷ clients) m
      by_first true here is later =
          let parts = and_parts (is_client client.number m.client) (nat_eq client.taken m.ordinal) here in
          or_left _ _ (and_from _ _ parts.0 (le-leb m.ordinal client.taken (let same : client.taken ≡ m.ordinal = number_of client.taken m.ordinal parts.1 in omega arith)))
      by_first false here is later = or_right _ _ (later is)

    by_test : (b : Bool) → is_in_work k.terms k.now m ≡ b
        → is_some (if b then option_and_then (λ route. option_and_then (λ payload. Some (payload ∷ []))
        (cause_of (record { known = k; servers = servers; e = e; m = m; route = route }))) ((plan_in k.terms).routes m) else None) ≡ true
        → IsOld k.now.tale.clients m
    by_test true works given = found k.now.tale.clients (and_parts _ _ works).0
    by_test false works given = isnt given

  pub goes_as : (old new : Decided) (m : MessageName) (hostgroup : Hostgroup) → new.routes ≡ old.routes → new.own ≡ old.own → GoesTo old m hostgroup → GoesTo new m hostgroup
  goes_as old new m hostgroup routes own goes = record {
    route = goes.route;
    routed = ap (λ f. f m) routes ∙ goes.routed;
    there = goes.there;
    lone = goes.lone;
    own = goes.own;
    looked = ap (λ f. f m) own ∙ goes.looked;
  }

  -- Clients are ended.

  pub ending_held : (n : ℕ) (w : World More) (e : Entry) → Held n w → Held n (is_ended by w e)
  ending_held n w e held =
      ending_keeps setup (plan_of (decided_ends by w e)) (holding setup n (decided_ends by w e)) w.tale (record {
        tabled = record { routes = held.tabled.routes; own = held.tabled.own; lone = held.tabled.lone; counted = held.tabled.counted };
        decided = record { due = λ k due is. goes_as w.decided (decided_ends by w e) (message_of k due) k.hostgroup refl refl (held.decided.due k due is); stands = held.decided.stands; answered = held.decided.answered; carried = held.decided.carried };
        numbered = held.numbered;
        few = held.few;
        lone = held.lone;
        fit = held.fit;
        unbroken = held.unbroken;
      })
