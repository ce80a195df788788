-- What the promise reads of terms is the same by the last terms of a log as by those that its world has then: of links that there are, and of
-- statements that are due.
use Rattle.std.specs.Prelude.{◌≡◌, ◌+◌, ℕ, Bool, true, false, not, ◌&&◌, ◌||◌, cond, count_by, fold, is_some, nat_eq, if◌then◌else◌, List, [], ◌∷◌, ◌++◌, Option, Some, None}
use Rattle.std.specs.List.{list_any}
use Rattle.std.specs.Option.{option_map_or}
use Rattle.std.proofs.lemmas.Bool.{or_left, or_right}
use Rattle.std.proofs.Common.{refl, ap, ◌∙◌}
use Rattle.mx_base.specs.declared.names.LinkId.{LinkId}
use Rattle.mx_wire.specs.Log.{Log}
use Rattle.private_model.proofs.Maps.{same_link}
use Rattle.private_model.specs.Names.{ClientNo, Hostgroup, MessageName, SessionName}
use Rattle.private_model.specs.Story.{BecameDue, Broke, Dropped, Due, Freed, Gone, Heard, Left, LoggedIn, Mirrored, Ran, Sent, Story, Unprepared, is_hostgroup, is_link_id, message_of}
use Rattle.private_model.specs.View.{Setup, View}
use Rattle.server_side.specs.Account.{Account as Login}
use Rattle.log_story.specs.Plan.{Plan, own_at}
use Rattle.log_story.specs.Tale.{Tale, is_to_server, view_of}
use Rattle.tale_world.specs.Decided.{plan_of}
use Rattle.tale_world.specs.Deciding.{World}
use Rattle.router_promises.specs.Closes.{waits_elsewhere}
use Rattle.router_promises.specs.Dues.{is_due, is_unsent}
use Rattle.router_promises.specs.Keys.{LinkKey, how_many, is_free, is_idle, is_key, is_of_key, is_opening, is_stepping, is_waiting, key_for, key_of, waiters_in}
use Rattle.router_promises.specs.Now.{Now, is_here, present_now}
use Rattle.router_promises.specs.Running.{is_failed, opening_on}
use Rattle.router_promises.specs.Terms.{Terms}
use Rattle.shared_router.specs.Fixed.{Fixed, setup_of}
use Rattle.shared_router.specs.More.{More, terms_of}

-- Terms that are the same in what a tale's links and dues look up.
pub record AreAlike (fixed : Fixed) (tale : Tale) (v last : World More) : Type 0 where
  pub logins : (link : LinkId) → is_to_server tale link ≡ true → (plan_of last.decided).logins link ≡ (plan_of v.decided).logins link
  pub bare : (link : LinkId) → is_to_server tale link ≡ true → last.more.bare link ≡ v.more.bare link
  pub own : (n : SessionName) (due : Due) → (view_of (setup_of fixed) tale).dues n ≡ Some due
      → own_at (plan_of last.decided) tale.moment (message_of n due) ≡ own_at (plan_of v.decided) tale.moment (message_of n due)

-- of links that are there

abbrev pub adds : (LinkId → Bool) → ℕ → LinkId → ℕ
adds test n link = n + cond (test link) 1 0

counts_same : (f g : LinkId → Bool) (links : List LinkId) (n : ℕ) → ((link : LinkId) → list_any (is_link_id link) links ≡ true → f link ≡ g link)
    → fold (adds f) n links ≡ fold (adds g) n links
counts_same f g [] n same = refl
counts_same f g (x ∷ links) n same =
    ap (λ b. fold (adds f) (n + cond b 1 0) links) (same x (or_left (is_link_id x x) _ (same_link x)))
    ∙ counts_same f g links (adds g n x) (λ link there. same link (or_right (is_link_id link x) _ there))

pub count_same : (f g : LinkId → Bool) (links : List LinkId) → ((link : LinkId) → list_any (is_link_id link) links ≡ true → f link ≡ g link)
    → count_by f links ≡ count_by g links
count_same f g links same = counts_same f g links 0 same

module _ (fixed : Fixed) (log : Log) (now : Now) (v last : World More) (alike : AreAlike fixed now.tale v last) where
  abbrev one : Terms
  one = terms_of fixed last

  abbrev other : Terms
  other = terms_of fixed v

  abbrev setup : Setup
  setup = setup_of fixed

  abbrev key_with : Login → (bare : Bool) → LinkId → Option LinkKey
  key_with login bare link = key_of
      (record other { decided = record other.decided { plan = record (plan_of v.decided) { logins = λ l. login }; bare = λ l. bare } }) now link

  pub key_same : (link : LinkId) → is_to_server now.tale link ≡ true → key_of one now link ≡ key_of other now link
  key_same link there =
      ap (λ login. key_with login (last.more.bare link) link) (alike.logins link there)
      ∙ ap (λ bare. key_with ((plan_of v.decided).logins link) bare link) (alike.bare link there)

  pub of_key_same : (key : LinkKey) (link : LinkId) → is_to_server now.tale link ≡ true → is_of_key one now key link ≡ is_of_key other now key link
  of_key_same key link there = ap (λ o. option_map_or (λ a. is_key a key) o false) (key_same link there)

  pub failed_same : (link : LinkId) → is_to_server now.tale link ≡ true → is_failed (opening_on one now.tale link) ≡ is_failed (opening_on other now.tale link)
  failed_same link there =
      ap (λ login. is_failed (opening_on (record other { decided = record other.decided { plan = record (plan_of v.decided) { logins = λ l. login } } }) now.tale link))
      (alike.logins link there)

  abbrev opening_by : LinkId → (failed : Bool) → Bool
  opening_by link failed = is_here log link && (is_to_server now.tale link && (not (now.tale.wires link).entered && not failed))

  opening_same : (link : LinkId) → is_to_server now.tale link ≡ true → is_opening one log now link ≡ is_opening other log now link
  opening_same link there = ap (opening_by link) (failed_same link there)

  pub free_count : (key : LinkKey) → how_many is_free one log now key ≡ how_many is_free other log now key
  free_count key = count_same (λ link. is_of_key one now key link && is_free one log now link) (λ link. is_of_key other now key link && is_free other log now link) now.tale.links
      (λ link there. ap (λ b. b && is_free other log now link) (of_key_same key link there))

  pub idle_count : (key : LinkKey) → how_many is_idle one log now key ≡ how_many is_idle other log now key
  idle_count key = count_same (λ link. is_of_key one now key link && is_idle one log now link) (λ link. is_of_key other now key link && is_idle other log now link) now.tale.links
      (λ link there. ap (λ b. b && is_idle other log now link) (of_key_same key link there))

  pub stepping_count : (key : LinkKey) → how_many is_stepping one log now key ≡ how_many is_stepping other log now key
  stepping_count key = count_same (λ link. is_of_key one now key link && is_stepping one log now link) (λ link. is_of_key other now key link && is_stepping other log now link) now.tale.links
      (λ link there. ap (λ b. b && is_stepping other log now link) (of_key_same key link there))

  pub opening_count : (key : LinkKey) → how_many is_opening one log now key ≡ how_many is_opening other log now key
  opening_count key = count_same (λ link. is_of_key one now key link && is_opening one log now link) (λ link. is_of_key other now key link && is_opening other log now link) now.tale.links
      (λ link there. ap (λ b. b && is_opening one log now link) (of_key_same key link there) ∙ ap (λ b. is_of_key other now key link && b) (opening_same link there))

  -- of statements that are due

  abbrev view : View
  view = view_of setup now.tale

  abbrev kept_by : Plan → SessionName → Option Due → Bool
  kept_by plan n due = option_map_or (λ (d : Due). not (is_some (own_at plan now.tale.moment (message_of n d)))) due false

  kept_same : (n : SessionName) (due : Option Due)
      → ((d : Due) → due ≡ Some d → own_at (plan_of last.decided) now.tale.moment (message_of n d) ≡ own_at (plan_of v.decided) now.tale.moment (message_of n d))
      → kept_by (plan_of last.decided) n due ≡ kept_by (plan_of v.decided) n due
  kept_same n None same = refl
  kept_same n (Some d) same = ap (λ o. not (is_some o)) (same d refl)

  pub due_same : (n : SessionName) → is_due one now.tale n ≡ is_due other now.tale n
  due_same n = kept_same n (view.dues n) (λ d is. alike.own n d is)

  pub unsent_same : (n : SessionName) → is_unsent one now.tale n ≡ is_unsent other now.tale n
  unsent_same n = ap (λ b. b && not (is_some (view.held n).home)) (due_same n)

  pub waiting_same : (client : ClientNo) (hostgroup : Hostgroup) (ordinal : ℕ) → is_waiting one now client hostgroup ordinal ≡ is_waiting other now client hostgroup ordinal
  waiting_same client hostgroup ordinal =
      ap (λ b. b && option_map_or (λ (d : Due). nat_eq d.ordinal ordinal) (view.dues (present_now setup now client hostgroup)) false)
      (unsent_same (present_now setup now client hostgroup))

  pub waiters_same : (key : LinkKey) (story : Story) → waiters_in one now key story ≡ waiters_in other now key story
  waiters_same key [] = refl
  waiters_same key (BecameDue client hostgroup ordinal at command multiplex ∷ past) =
      let last_of : Bool → List MessageName = λ b. if b && is_key (key_for setup now client hostgroup) key then record { client = client; ordinal = ordinal } ∷ [] else [] in
      ap (λ ms. ms ++ last_of (is_waiting one now client hostgroup ordinal)) (waiters_same key past)
      ∙ ap (λ b. waiters_in other now key past ++ last_of b) (waiting_same client hostgroup ordinal)
  waiters_same key (LoggedIn link server account ∷ past) = waiters_same key past
  waiters_same key (Sent link question ∷ past) = waiters_same key past
  waiters_same key (Ran link ∷ past) = waiters_same key past
  waiters_same key (Heard link reply ∷ past) = waiters_same key past
  waiters_same key (Freed link ∷ past) = waiters_same key past
  waiters_same key (Unprepared link number ∷ past) = waiters_same key past
  waiters_same key (Dropped link ∷ past) = waiters_same key past
  waiters_same key (Gone link ∷ past) = waiters_same key past
  waiters_same key (Left client ∷ past) = waiters_same key past
  waiters_same key (Broke ∷ past) = waiters_same key past
  waiters_same key (Mirrored client job ∷ past) = waiters_same key past

  pub elsewhere_same : (key : LinkKey) (story : Story) → waits_elsewhere one now key story ≡ waits_elsewhere other now key story
  elsewhere_same key [] = refl
  elsewhere_same key (BecameDue client hostgroup ordinal at command multiplex ∷ past) =
      let apart : Bool = is_hostgroup hostgroup key.hostgroup && not (is_key (key_for setup now client hostgroup) key) in
      ap (λ b. (b && apart) || waits_elsewhere one now key past) (waiting_same client hostgroup ordinal)
      ∙ ap (λ b. (is_waiting other now client hostgroup ordinal && apart) || b) (elsewhere_same key past)
  elsewhere_same key (LoggedIn link server account ∷ past) = elsewhere_same key past
  elsewhere_same key (Sent link question ∷ past) = elsewhere_same key past
  elsewhere_same key (Ran link ∷ past) = elsewhere_same key past
  elsewhere_same key (Heard link reply ∷ past) = elsewhere_same key past
  elsewhere_same key (Freed link ∷ past) = elsewhere_same key past
  elsewhere_same key (Unprepared link number ∷ past) = elsewhere_same key past
  elsewhere_same key (Dropped link ∷ past) = elsewhere_same key past
  elsewhere_same key (Gone link ∷ past) = elsewhere_same key past
  elsewhere_same key (Left client ∷ past) = elsewhere_same key past
  elsewhere_same key (Broke ∷ past) = elsewhere_same key past
  elsewhere_same key (Mirrored client job ∷ past) = elsewhere_same key past
