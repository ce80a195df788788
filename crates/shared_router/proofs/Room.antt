-- Where no server of a hostgroup has room, an idle link of another key there is closed for those that wait.
use Rattle.std.specs.Prelude.{◌≡◌, ◌+◌, ◌<◌, Bool, true, false, not, ◌&&◌, ◌||◌, length, nat_le, if◌then◌else◌, List, [], ◌∷◌, ◌++◌, Option, Some, None}
use Rattle.std.specs.Option.{option_map, option_map_or}
use Rattle.std.proofs.Common.{refl, sym, ap, ◌∙◌, subst, arith}
use Rattle.std.proofs.lemmas.Bool.{and_from, and_parts, or_left, or_right}
use Rattle.mx_base.specs.declared.names.Hostgroup.{Hostgroup}
use Rattle.mx_base.specs.declared.names.LinkId.{LinkId}
use Rattle.mx_wire.specs.Log.{is_open}
use Rattle.private_model.proofs.Maps.{hostgroup_of as hostgroup_is, same_number}
use Rattle.private_model.specs.Names.{MessageName}
use Rattle.private_model.specs.Story.{BecameDue, Broke, Dropped, Freed, Gone, Heard, Left, LoggedIn, Mirrored, Ran, Sent, Story, Unprepared, is_hostgroup}
use Rattle.tale_world.specs.Policy as policy
use Rattle.tale_world.specs.Tests.{is_account, is_flag}
use Rattle.tale_world.proofs.Testing.{same_account}
use Rattle.router_promises.specs.Closes.{is_full, is_in_the_way, is_past_reset, is_spoilt, waits_elsewhere, was_amiss}
use Rattle.router_promises.specs.Keys.{LinkKey, has_room_in, is_at_work, is_bare, is_free, is_idle, is_in, is_key, is_nobodys, is_of_key, is_vacant, is_waiting, key_for, key_of, waiters_in, waiting}
use Rattle.router_promises.specs.Now.{is_here, is_online, link_now, wire_now, was_lost}
use Rattle.router_promises.specs.Running.{hostgroup_of, is_soft, status_in}
use Rattle.router_promises.specs.Terms.{login_as, plan_in}
use Rattle.shared_router.specs.Known.{Known, setup_by}
use Rattle.shared_router.specs.Lends.{as_key}
use Rattle.shared_router.specs.Owed.{is_let_go, is_refused, is_to_close}
use Rattle.shared_router.proofs.Counting.{from_key, key_is}

flag_of : (a b : Bool) → is_flag a b ≡ true → a ≡ b
flag_of true true is = refl
flag_of false false is = refl
flag_of true false is = absurd (cc)
flag_of false true is = absurd (cc)

pub key_is_one : (a b : policy.Key) → policy.is_key a b ≡ true → a ≡ b
key_is_one a b is =
    let first = and_parts (is_hostgroup a.hostgroup b.hostgroup) (is_account a.account b.account && is_flag a.bare b.bare) is in
    let second = and_parts (is_account a.account b.account) (is_flag a.bare b.bare) first.1 in
    let group = hostgroup_is a.hostgroup b.hostgroup first.0 in
    let account = same_account a.account b.account second.0 in
    let bare = flag_of a.bare b.bare second.1 in
    λ i. record { hostgroup = group i; account = account i; bare = bare i }

pub link_key_is : (a b : LinkKey) → is_key a b ≡ true → a ≡ b
link_key_is a b is = ap from_key (key_is_one (as_key a) (as_key b) (key_is a (as_key b) ∙ is))

turned : (a b : LinkKey) → is_key a b ≡ false → is_key b a ≡ false
turned a b apart = by_test (is_key b a) refl where
  by_test : (c : Bool) → is_key b a ≡ c → is_key b a ≡ false
  by_test false is = is
  by_test true is =
      let same : b ≡ a = link_key_is b a is in
      let one : is_key a a ≡ true = subst (λ x. is_key x a ≡ true) same is in
      let other : is_key a b ≡ true = subst (λ x. is_key a x ≡ true) (sym same) one in absurd (let never : false ≡ true = sym apart ∙ other in cc)

module _ (k : Known) (key other : LinkKey) (group : other.hostgroup ≡ key.hostgroup) (apart : is_key other key ≡ false) where
  elsewhere : (story : Story) → 0 < length (waiters_in k.terms k.now key story) → waits_elsewhere k.terms k.now other story ≡ true
  elsewhere [] some = absurd (omega (arith, some))
  elsewhere (BecameDue client hostgroup ordinal at command multiplex ∷ past) some =
      by_test (is_waiting k.terms k.now client hostgroup ordinal) (is_key (key_for (setup_by k) k.now client hostgroup) key) refl some (elsewhere past)
    where
      mine : Bool → List MessageName
      mine b = if b then record { client = client; ordinal = ordinal } ∷ [] else []

      before : (xs : List MessageName) → 0 < length (xs ++ []) → 0 < length xs
      before [] none = none
      before (x ∷ xs) none = omega arith

      here : is_key (key_for (setup_by k) k.now client hostgroup) key ≡ true
          → (is_hostgroup hostgroup other.hostgroup && not (is_key (key_for (setup_by k) k.now client hostgroup) other)) ≡ true
      here is =
          let same : key_for (setup_by k) k.now client hostgroup ≡ key = link_key_is (key_for (setup_by k) k.now client hostgroup) key is in
          let there : hostgroup ≡ other.hostgroup = ap (λ (x : LinkKey). x.hostgroup) same ∙ sym group in
          and_from (is_hostgroup hostgroup other.hostgroup) (not (is_key (key_for (setup_by k) k.now client hostgroup) other))
          (subst (λ h. is_hostgroup hostgroup h ≡ true) there (same_number hostgroup.0))
          (ap (λ x. not (is_key x other)) same ∙ ap not (turned other key apart))

      by_test : (a b : Bool) → is_key (key_for (setup_by k) k.now client hostgroup) key ≡ b
          → 0 < length (waiters_in k.terms k.now key past ++ mine (a && b))
          → (0 < length (waiters_in k.terms k.now key past) → waits_elsewhere k.terms k.now other past ≡ true)
          → ((a && (is_hostgroup hostgroup other.hostgroup && not (is_key (key_for (setup_by k) k.now client hostgroup) other))) || waits_elsewhere k.terms k.now other past) ≡ true
      by_test true true is some later = or_left (is_hostgroup hostgroup other.hostgroup && not (is_key (key_for (setup_by k) k.now client hostgroup) other)) _ (here is)
      by_test true false is some later = or_right (is_hostgroup hostgroup other.hostgroup && not (is_key (key_for (setup_by k) k.now client hostgroup) other)) _
          (later (before (waiters_in k.terms k.now key past) some))
      by_test false b is some later = later (before (waiters_in k.terms k.now key past) some)
  elsewhere (LoggedIn link server account ∷ past) some = elsewhere past some
  elsewhere (Sent link question ∷ past) some = elsewhere past some
  elsewhere (Ran link ∷ past) some = elsewhere past some
  elsewhere (Heard link reply ∷ past) some = elsewhere past some
  elsewhere (Freed link ∷ past) some = elsewhere past some
  elsewhere (Unprepared link number ∷ past) some = elsewhere past some
  elsewhere (Dropped link ∷ past) some = elsewhere past some
  elsewhere (Gone link ∷ past) some = elsewhere past some
  elsewhere (Left client ∷ past) some = elsewhere past some
  elsewhere (Broke ∷ past) some = elsewhere past some
  elsewhere (Mirrored client job ∷ past) some = elsewhere past some

module _ (k : Known) (key : LinkKey) (some : 0 < waiting k.terms k.now key) (full : has_room_in k.terms.router k.log k.now key.hostgroup ≡ false)
    (link : LinkId) (stays : is_to_close k link ≡ false) (idle : is_idle k.terms k.log k.now link ≡ true) where
  vacant : ((is_open link k.log ≡ true) × ((wire_now k.now link).entered && is_nobodys (link_now (setup_by k) k.now link).carries ≡ true))
  vacant =
      let free = and_parts (is_free k.terms k.log k.now link) (not (is_at_work k.terms k.log k.now link)) idle in
      let parts = and_parts (is_vacant k.terms k.log k.now link) (is_online k.now (wire_now k.now link).server) free.0 in
      let two = and_parts (is_here k.log link && (wire_now k.now link).entered) (not (wire_now k.now link).quits && is_nobodys (link_now (setup_by k) k.now link).carries) parts.0 in
      let first = and_parts (is_here k.log link) (wire_now k.now link).entered two.0 in
      let second = and_parts (not (wire_now k.now link).quits) (is_nobodys (link_now (setup_by k) k.now link).carries) two.1 in
      ((and_parts (is_open link k.log) (not (was_lost k.log link)) first.0).0, and_from (wire_now k.now link).entered (is_nobodys (link_now (setup_by k) k.now link).carries) first.1 second.1)

  closes_it : (other : LinkKey) → key_of k.terms k.now link ≡ Some other → other.hostgroup ≡ key.hostgroup → is_key other key ≡ false → is_to_close k link ≡ true
  closes_it other keyed group apart =
      let way : is_in_the_way k.terms k.now (key_of k.terms k.now link) ≡ true = ap (is_in_the_way k.terms k.now) keyed ∙ elsewhere k key other group apart k.now.tale.story some in
      let no_room : is_full k.terms.router k.log k.now (key_of k.terms k.now link) ≡ true =
      ap (is_full k.terms.router k.log k.now) keyed ∙ ap (λ h. not (has_room_in k.terms.router k.log k.now h)) group ∙ ap not full in
      let soft : Bool = status_in is_soft k.now.servers (wire_now k.now link).server in
      let long : Bool = nat_le ((k.now.uses link).used + k.terms.router.proxy.idle_ms) k.now.clock in
      let let_go : is_let_go k link ≡ true = and_from _ _ vacant.1 (or_right soft _ (or_right long _ (and_from _ _ way no_room))) in
      and_from _ _ vacant.0
      (or_right (wire_now k.now link).quits _ (or_right (is_spoilt k.terms k.log k.now link) _ (or_right (was_amiss (setup_by k) link k.now.tale.story) _
      (or_right (is_refused k link) _ (or_right (is_past_reset (setup_by k) k.now link) _ let_go)))))

  pub none_in_the_way : is_in k.terms.router (wire_now k.now link).server key.hostgroup ≡ true → is_of_key k.terms k.now key link ≡ true
  none_in_the_way lies = by_group (hostgroup_of k.terms.router (wire_now k.now link).server) refl lies where
    made : Hostgroup → LinkKey
    made h = record { hostgroup = h; account = login_as ((plan_in k.terms).logins link); bare = is_bare k.terms k.now link }

    by_key : (other : LinkKey) → key_of k.terms k.now link ≡ Some other → other.hostgroup ≡ key.hostgroup → (b : Bool) → is_key other key ≡ b → is_of_key k.terms k.now key link ≡ true
    by_key other keyed group true is = ap (λ o. option_map_or (λ (a : LinkKey). is_key a key) o false) keyed ∙ is
    by_key other keyed group false apart = absurd (let never : false ≡ true = sym stays ∙ closes_it other keyed group apart in cc)

    by_group : (o : Option Hostgroup) → hostgroup_of k.terms.router (wire_now k.now link).server ≡ o → option_map_or (λ h. is_hostgroup h key.hostgroup) o false ≡ true → is_of_key k.terms k.now key link ≡ true
    by_group None at is = absurd (cc)
    by_group (Some h) at is = by_key (made h) (ap (λ o. option_map made o) at) (hostgroup_is h key.hostgroup is) (is_key (made h) key) refl
