-- Where the loop waits, no link is to be closed or opened.
use Rattle.std.specs.Prelude.{All, ◌≡◌, ◌⊎◌, ◌+◌, ◌<◌, ◌≤◌, ℕ, zero, suc, Bool, true, false, not, ◌&&◌, ◌||◌, cond, filter, find, is_some, length, nat_le, List, [], ◌∷◌, ◌++◌, Option, Some, None}
use Rattle.std.specs.List.{list_any}
use Rattle.std.specs.Option.{option_map, option_or}
use Rattle.std.proofs.Common.{refl, sym, ap, ◌∙◌, subst, append_assoc, arith, inl, inr}
use Rattle.std.proofs.lemmas.Bool.{and_parts, leb-false}
use Rattle.mx_base.specs.declared.names.Hostgroup.{Hostgroup}
use Rattle.mx_base.specs.declared.names.LinkId.{LinkId}
use Rattle.mx_base.specs.declared.names.ServerId.{ServerId}
use Rattle.mx_wire.specs.Log.{Log, is_open}
use Rattle.mx_wire.specs.Moments.{LawfulAfter}
use Rattle.mx_wire.specs.Tells.{Fits}
use Rattle.mx_wire.specs.declared.entry.Entry.{Entry}
use Rattle.mx_wire.specs.declared.entry.Entry.TheVariants as entry
use Rattle.ready_loop.specs.Drained.{all_accepted, all_named}
use Rattle.private_model.proofs.Maps.{link_of}
use Rattle.private_model.specs.Story.{is_link_id}
use Rattle.log_story.specs.Tale.{Client, is_to_server}
use Rattle.tale_world.specs.Deciding.{World}
use Rattle.tale_world.specs.Policy as policy
use Rattle.tale_world.specs.Policy.{Rest, Waiter, wants_link}
use Rattle.tale_world.specs.Served.{AreServed}
use Rattle.tale_world.proofs.Policies.{none_opened}
use Rattle.router_promises.specs.Closes.{is_full, is_in_the_way, is_joined, is_past_reset, is_spoilt, is_unlent, was_amiss, was_refused}
use Rattle.router_promises.specs.Keys.{LinkKey, has_room_in, how_many, is_at_work, is_free, is_nobodys, is_opening, is_resting, key_of, numbered_from, waiting}
use Rattle.router_promises.specs.Now.{Now, entry_now, is_here, link_now, now_at, wire_now}
use Rattle.router_promises.specs.Running.{is_soft, status_in}
use Rattle.router_promises.specs.Terms.{Terms}
use Rattle.shared_router.specs.Fixed.{Fixed, IsNumbered, setup_of}
use Rattle.shared_router.specs.Known.{Known, known}
use Rattle.shared_router.specs.Lends.{as_key, settled}
use Rattle.shared_router.specs.More.{More, now_of, terms_of}
use Rattle.shared_router.specs.Ours.{IsOurs, MayWait}
use Rattle.shared_router.specs.Owed.{asks, close_by, is_to_close, parts}
use Rattle.shared_router.specs.Rests.{LeavesInTime, CalmSo, HasEnough, IsCalm, IsKept}
use Rattle.shared_router.specs.Shared.{final_terms, world_at}
use Rattle.shared_router.specs.Wishes.{can_open, pick, wanted_by}
use Rattle.shared_router.proofs.Closing.{spoilt_same}
use Rattle.shared_router.proofs.Counting.{settled_free, settled_opening, settled_unsent}
use Rattle.shared_router.proofs.Lasting.{alike_at}
use Rattle.shared_router.proofs.Later.{AreAlike, free_count, of_key_same, opening_count, waiters_same}
use Rattle.shared_router.proofs.Leaving.{all_leave}
use Rattle.shared_router.proofs.Parting.{agrees_then, even_at}
use Rattle.shared_router.proofs.Room.{key_is_one, none_in_the_way}
use Rattle.shared_router.proofs.Same.{now_is, now_same}
use Rattle.shared_router.proofs.Staying.{log_at}

pub left_false : (a b : Bool) → (a || b) ≡ false → a ≡ false
left_false false b is = refl
left_false true b is = absurd (cc)

pub right_false : (a b : Bool) → (a || b) ≡ false → b ≡ false
right_false false b is = is
right_false true b is = absurd (cc)

-- of two tests that don't hold together, where the first does
pub then_false : (a b : Bool) → (a && b) ≡ false → a ≡ true → b ≡ false
then_false true b is so = is
then_false false b is so = absurd (cc)

pub none_if : {A : Type 0} (o : Option A) → is_some o ≡ false → o ≡ None
none_if None is = refl
none_if (Some a) is = absurd (cc)

none_after : {A : Type 0} (a b : Option A) → option_or a b ≡ None → b ≡ None
none_after None b is = is
none_after (Some a) b is = absurd (cc)

none_before : {A : Type 0} (a b : Option A) → option_or a b ≡ None → a ≡ None
none_before None b is = refl
none_before (Some a) b is = absurd (cc)

none_mapped : (o : Option Client) → option_map (λ (client : Client). client.link) o ≡ None → o ≡ None
none_mapped None is = refl
none_mapped (Some client) is = absurd (cc)

-- what isn't found isn't there
pub none_there : (test : LinkId → Bool) (links : List LinkId) (link : LinkId) → find test links ≡ None → list_any (is_link_id link) links ≡ true → test link ≡ false
none_there test [] link none there = absurd (cc)
none_there test (x ∷ links) link none there = by_test (test x) (is_link_id link x) refl refl none there (none_there test links link) where
  by_test : (b c : Bool) → test x ≡ b → is_link_id link x ≡ c → cond b (Some x) (find test links) ≡ None → (c || list_any (is_link_id link) links) ≡ true
      → (find test links ≡ None → list_any (is_link_id link) links ≡ true → test link ≡ false) → test link ≡ false
  by_test true c passes here none there later = absurd (cc)
  by_test false true fails here none there later = ap test (link_of link x here) ∙ fails
  by_test false false fails here none there later = later none there

none_any : {A : Type 0} (test : A → Bool) (xs : List A) → find test xs ≡ None → list_any test xs ≡ false
none_any test [] none = refl
none_any test (x ∷ xs) none = by_test (test x) none (none_any test xs) where
  by_test : (b : Bool) → cond b (Some x) (find test xs) ≡ None → (find test xs ≡ None → list_any test xs ≡ false) → (b || list_any test xs) ≡ false
  by_test true none later = absurd (cc)
  by_test false none later = later none

-- Nothing is asked for.

module _ (k : Known) where
  pub nothing_closes : asks k ≡ false → close_by k ≡ None
  nothing_closes is = none_if (close_by k) (left_false (is_some (close_by k)) (is_some (wanted_by k)) is)

  pub nothing_opens : asks k ≡ false → wanted_by k ≡ None
  nothing_opens is = none_if (wanted_by k) (right_false (is_some (close_by k)) (is_some (wanted_by k)) is)

  pub nobody_parts : asks k ≡ false → find (parts k) k.now.tale.clients ≡ None
  nobody_parts is = none_mapped (find (parts k) k.now.tale.clients)
      (none_before (option_map (λ (client : Client). client.link) (find (parts k) k.now.tale.clients)) (find (is_to_close k) k.now.tale.links) (nothing_closes is))

  pub stays_open : asks k ≡ false → (link : LinkId) → is_to_server k.now.tale link ≡ true → is_to_close k link ≡ false
  stays_open is link there =
      none_there (is_to_close k) k.now.tale.links link
      (none_after (option_map (λ (client : Client). client.link) (find (parts k) k.now.tale.clients)) (find (is_to_close k) k.now.tale.links) (nothing_closes is)) there

-- A link that is kept.

module _ (fixed : Fixed) (log : Log) (now : Now) (v last : World More) (alike : AreAlike fixed now.tale v last) (link : LinkId) (there : is_to_server now.tale link ≡ true) where
  abbrev one : Terms
  one = terms_of fixed last

  abbrev other : Terms
  other = terms_of fixed v

  abbrev let_go : Bool
  let_go = is_unlent (setup_of fixed) now link
      && (status_in is_soft now.servers (wire_now now link).server
      || (nat_le ((now.uses link).used + fixed.router.proxy.idle_ms) now.clock
      || (is_in_the_way other now (key_of other now link) && is_full fixed.router log now (key_of other now link))))

  usable : (a b : Bool) → a ≡ false → b ≡ false → (not a && not b) ≡ true
  usable false false one two = refl
  usable true b one two = absurd (cc)
  usable false true one two = absurd (cc)

  rests_unlent : is_resting one log now link ≡ true → is_unlent (setup_of fixed) now link ≡ true
  rests_unlent is =
      let vacant = and_parts ((is_here log link && (wire_now now link).entered) && (not (wire_now now link).quits && is_nobodys (link_now (setup_of fixed) now link).carries))
      (not (is_at_work one log now link)) is in
      let two = and_parts (is_here log link && (wire_now now link).entered) (not (wire_now now link).quits && is_nobodys (link_now (setup_of fixed) now link).carries) vacant.0 in
      let first = and_parts (is_here log link) (wire_now now link).entered two.0 in
      let second = and_parts (not (wire_now now link).quits) (is_nobodys (link_now (setup_of fixed) now link).carries) two.1 in
      both (wire_now now link).entered (is_nobodys (link_now (setup_of fixed) now link).carries) first.1 second.1
    where
      both : (a b : Bool) → a ≡ true → b ≡ true → (a && b) ≡ true
      both true true p q = refl
      both false b p q = absurd (cc)
      both true false p q = absurd (cc)

  kept_so : (is_open link log
      && ((wire_now now link).quits || (is_spoilt other log now link
      || (was_amiss (setup_of fixed) link now.tale.story
      || ((was_refused (setup_of fixed) link now.tale.story && not (is_joined (link_now (setup_of fixed) now link).carries))
      || (is_past_reset (setup_of fixed) now link || let_go)))))) ≡ false
      → is_open link log ≡ true → IsKept one log now link
  kept_so is opened =
      let refused : Bool = was_refused (setup_of fixed) link now.tale.story && not (is_joined (link_now (setup_of fixed) now link).carries) in
      let amiss : Bool = was_amiss (setup_of fixed) link now.tale.story in
      let past : Bool = is_past_reset (setup_of fixed) now link in
      let both = then_false (is_open link log) ((wire_now now link).quits || (is_spoilt other log now link || (amiss || (refused || (past || let_go))))) is opened in
      let first = right_false (wire_now now link).quits (is_spoilt other log now link || (amiss || (refused || (past || let_go)))) both in
      let second = right_false (is_spoilt other log now link) (amiss || (refused || (past || let_go))) first in
      let third = right_false amiss (refused || (past || let_go)) second in
      let fourth = right_false past let_go (right_false refused (past || let_go) third) in
      record {
        stays = left_false (wire_now now link).quits (is_spoilt other log now link || (amiss || (refused || (past || let_go)))) both;
        sound = usable (is_spoilt one log now link) amiss
            (spoilt_same fixed log now v last alike link there ∙ left_false (is_spoilt other log now link) (amiss || (refused || (past || let_go))) first)
            (left_false amiss (refused || (past || let_go)) second);
        young = λ rests.
            let soft : Bool = status_in is_soft now.servers (wire_now now link).server in
            let long : Bool = nat_le ((now.uses link).used + fixed.router.proxy.idle_ms) now.clock in
            let room : Bool = is_in_the_way other now (key_of other now link) && is_full fixed.router log now (key_of other now link) in
            let none = then_false (is_unlent (setup_of fixed) now link) (soft || (long || room)) fourth (rests_unlent rests) in
            leb-false ((now.uses link).used + fixed.router.proxy.idle_ms) now.clock (left_false long room (right_false soft (long || room) none));
      }

-- Enough links.

-- of each key that someone waits for
abbrev Enough : Rest → (Hostgroup → Option ServerId) → policy.Key → List Waiter → Type 0
Enough rest picks key ws =
    (length (filter (λ (w : Waiter). policy.is_key w.key key) ws) ≡ zero) ⊎ ((wants_link rest key ≡ false) ⊎ (picks key.hostgroup ≡ None))

enough_so : (rest : Rest) (picks : Hostgroup → Option ServerId) (key : policy.Key) (ws : List Waiter) → AreServed rest picks ws → Enough rest picks key ws
enough_so rest picks key [] served = inl refl
enough_so rest picks key (w ∷ ws) served = by_test (policy.is_key w.key key) refl (enough_so rest picks key ws served.1) where
  by_test : (b : Bool) → policy.is_key w.key key ≡ b → Enough rest picks key ws
      → (length (cond b (w ∷ filter (λ (x : Waiter). policy.is_key x.key key) ws) (filter (λ (x : Waiter). policy.is_key x.key key) ws)) ≡ zero)
      ⊎ ((wants_link rest key ≡ false) ⊎ (picks key.hostgroup ≡ None))
  by_test true is later = inr (subst (λ (x : policy.Key). (wants_link rest x ≡ false) ⊎ (picks x.hostgroup ≡ None)) (key_is_one w.key key is) served.0)
  by_test false is later = later

module _ (k : Known) (key : LinkKey) where
  abbrev waits : ℕ
  waits = waiting k.terms k.now key

  abbrev frees : ℕ
  frees = how_many is_free k.terms k.log k.now key

  abbrev opens : ℕ
  opens = how_many is_opening k.terms k.log k.now key

  enough_then_room : asks k ≡ false → (waits ≤ frees + opens) ⊎ (has_room_in k.terms.router k.log k.now key.hostgroup ≡ false)
  enough_then_room is =
      let unsent : policy.unsent (settled k) (as_key key) ≡ waits = settled_unsent k (as_key key) in
      let free : policy.free (settled k) (as_key key) ≡ frees = settled_free k (as_key key) in
      let opening : policy.opening (settled k) (as_key key) ≡ opens = settled_opening k (as_key key) in
      let first : ServerId = k.fixed.picks (entry_now k.now) key.hostgroup in
      elim (enough_so (settled k) (pick k) (as_key key) (settled k).waiters (none_opened (settled k) (pick k) (settled k).waiters (nothing_opens k is))) [
        | inl none ↦ inl (let zero_waits : policy.unsent (settled k) (as_key key) ≡ 0 = none in omega (arith, zero_waits, unsent))
        | inr some ↦ elim some [
          | inl few ↦ inl (let more : policy.unsent (settled k) (as_key key) < suc (policy.free (settled k) (as_key key) + policy.opening (settled k) (as_key key)) =
              leb-false (suc (policy.free (settled k) (as_key key) + policy.opening (settled k) (as_key key))) (policy.unsent (settled k) (as_key key)) few in
              omega (arith, more, unsent, free, opening))
          | inr full ↦ inr (right_false (can_open k key.hostgroup first) (has_room_in k.terms.router k.log k.now key.hostgroup)
              (none_any (can_open k key.hostgroup) (first ∷ numbered_from 1 k.terms.router.servers) full))
        ]
      ]

  pub enough_now : asks k ≡ false → HasEnough k.terms k.log k.now key
  enough_now is = by_waits waits refl where
    by_room : 0 < waits → (waits ≤ frees + opens) ⊎ (has_room_in k.terms.router k.log k.now key.hostgroup ≡ false) → HasEnough k.terms k.log k.now key
    by_room some (inl few) = inl few
    by_room some (inr full) = inr (full, λ link there idle lies. none_in_the_way k key some full link (stays_open k is link there) idle lies)

    by_waits : (n : ℕ) → waits ≡ n → HasEnough k.terms k.log k.now key
    by_waits zero none = inl (omega (arith, none))
    by_waits (suc n) some = by_room (omega (arith, some)) (enough_then_room is)

-- By the last terms, at each entry.

module _ (fixed : Fixed) (numbered : IsNumbered fixed) where
  enough_then : (before later : Log) (e : Entry) → LawfulAfter Fits before (e ∷ later) → (key : LinkKey)
      → HasEnough (terms_of fixed (world_at fixed before)) before (now_of fixed (world_at fixed before)) key
      → HasEnough (final_terms fixed (before ++ e ∷ later)) before (now_of fixed (world_at fixed before)) key
  enough_then before later e fits key enough =
      let w : World More = world_at fixed before in
      let last : World More = world_at fixed (before ++ e ∷ later) in
      let now : Now = now_of fixed w in
      let alike = alike_at fixed numbered before (e ∷ later) fits in
      let free : how_many is_free (terms_of fixed last) before now key ≡ how_many is_free (terms_of fixed w) before now key = free_count fixed before now w last alike key in
      let opening : how_many is_opening (terms_of fixed last) before now key ≡ how_many is_opening (terms_of fixed w) before now key = opening_count fixed before now w last alike key in
      let waits : waiting (terms_of fixed last) now key ≡ waiting (terms_of fixed w) now key = ap (λ ms. length ms) (waiters_same fixed before now w last alike key w.tale.story) in
      elim enough [
        | inl few ↦ inl (let fewer : waiting (terms_of fixed w) now key ≤ how_many is_free (terms_of fixed w) before now key + how_many is_opening (terms_of fixed w) before now key = few in
            omega (arith, fewer, free, opening, waits))
        | inr full ↦ inr (full.0, λ link there idle lies. of_key_same fixed before now w last alike key link there ∙ full.1 link there idle lies)
      ]

  calm_at : (before later : Log) (e : Entry) → LawfulAfter Fits before (e ∷ later) → MayWait (known fixed (world_at fixed before))
      → IsCalm (final_terms fixed (before ++ e ∷ later)) before (now_at (final_terms fixed (before ++ e ∷ later)) before)
  calm_at before later e fits may =
      let w : World More = world_at fixed before in
      let k : Known = known fixed w in
      let t : Terms = final_terms fixed (before ++ e ∷ later) in
      let now : Now = now_of fixed w in
      let same : w.more.log ≡ before = log_at fixed before in
      subst (λ (n : Now). IsCalm t before n) (sym (now_is fixed t before (now_same fixed numbered before (e ∷ later)))) (record {
        accepted = λ port. subst (λ (l : Log). all_accepted port l ≡ true) same (may.accepted port);
        named = subst (λ (l : Log). all_named l ≡ true) same may.named;
        leaving = subst (λ (l : Log). All (LeavesInTime t l now) w.tale.clients) same
            (all_leave fixed w (world_at fixed (before ++ e ∷ later)) (agrees_then fixed before (e ∷ later)) (even_at fixed before) w.tale.clients (nobody_parts k may.acted));
        kept = λ link there opened.
            subst (λ (l : Log). is_open link l ≡ true → IsKept t l now link) same
            (kept_so fixed w.more.log now w (world_at fixed (before ++ e ∷ later)) (alike_at fixed numbered before (e ∷ later) fits) link there (stays_open k may.acted link there)) opened;
        enough = λ key. enough_then before later e fits key
            (subst (λ (l : Log). HasEnough (terms_of fixed w) l now key) same (enough_now k key may.acted));
      })

  calms_by : (before later : Log) (e : Entry) → LawfulAfter Fits before (e ∷ later) → IsOurs fixed before e → CalmSo (final_terms fixed (before ++ e ∷ later)) before e
  calms_by before later (entry.Woke until_ms now_ms) fits our = calm_at before later (entry.Woke until_ms now_ms) fits our.0
  calms_by before later entry.WaitFailed fits our = calm_at before later entry.WaitFailed fits our
  calms_by before later entry.Over fits our = calm_at before later entry.Over fits our
  calms_by before later _ fits our = tt

  calms_from : (before later log : Log) → before ++ later ≡ log → LawfulAfter Fits before later → LawfulAfter (IsOurs fixed) before later
      → LawfulAfter (CalmSo (final_terms fixed log)) before later
  calms_from before [] log is fits our = tt
  calms_from before (e ∷ later) log is fits our = (
    subst (λ l. CalmSo (final_terms fixed l) before e) is (calms_by before later e fits our.0),
    calms_from (before ++ e ∷ []) later log (append_assoc before (e ∷ []) later ∙ is) fits.1 our.1,
  )

  pub calms_kept : (log : Log) → LawfulAfter (IsOurs fixed) [] log → LawfulAfter Fits [] log → LawfulAfter (CalmSo (final_terms fixed log)) [] log
  calms_kept log our fits = calms_from [] log log refl fits our
