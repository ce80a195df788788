-- Links to servers are closed for a cause.
use Rattle.std.specs.Prelude.{◌≡◌, ◌⊎◌, ◌+◌, Bool, true, false, not, ◌&&◌, ◌||◌, find, nat_le, [], ◌∷◌, ◌++◌, Option, Some, None}
use Rattle.std.specs.Option.{option_map, option_or}
use Rattle.std.proofs.Common.{refl, sym, ap, ◌∙◌, subst, append_assoc, inl, inr}
use Rattle.std.proofs.lemmas.Bool.{leb-true}
use Rattle.hostgroups.specs.Servers.{is_known}
use Rattle.mx_base.specs.declared.names.LinkId.{LinkId}
use Rattle.mx_wire.specs.Log.{Log, is_open}
use Rattle.mx_wire.specs.Moments.{LawfulAfter, lawful-more}
use Rattle.mx_wire.specs.Tells.{Fits}
use Rattle.mx_wire.specs.declared.entry.Entry.{Entry}
use Rattle.mx_wire.specs.declared.entry.Entry.TheVariants as entry
use Rattle.log_story.specs.Tale.{Client, is_to_server}
use Rattle.tale_world.specs.Deciding.{World}
use Rattle.router_promises.specs.Closes as closing
use Rattle.router_promises.specs.Closes.{ClosesSo, MayDrop, MayQuit, has_bad_bytes, is_full, is_in_the_way, is_joined, is_past_reset, is_spoilt, is_unlent, was_amiss, was_refused}
use Rattle.router_promises.specs.Keys.{LinkKey, key_of}
use Rattle.router_promises.specs.Now.{Now, link_now, now_at, was_lost, wire_now}
use Rattle.router_promises.specs.Running.{is_off, is_soft, status_in}
use Rattle.router_promises.specs.Terms.{Terms}
use Rattle.shared_router.specs.Fixed.{Fixed, IsNumbered, setup_of}
use Rattle.shared_router.specs.Known.{Known, known}
use Rattle.shared_router.specs.More.{More, now_of, terms_of}
use Rattle.shared_router.specs.Ours.{IsOurs}
use Rattle.shared_router.specs.Owed.{close_by, is_to_close, parts}
use Rattle.shared_router.specs.Shared.{final_terms, world_at}
use Rattle.shared_router.proofs.Apart.{IsSeat, all_find, seats_at}
use Rattle.shared_router.proofs.Later.{AreAlike, elsewhere_same, failed_same, key_same}
use Rattle.shared_router.proofs.Lasting.{alike_at}
use Rattle.shared_router.proofs.Opening.{found_so, left_is, right_is}
use Rattle.shared_router.proofs.Same.{now_is, now_same}
use Rattle.shared_router.proofs.Staying.{log_at}

either_of : (a b : Bool) → (a || b) ≡ true → (a ≡ true) ⊎ (b ≡ true)
either_of true b is = inl refl
either_of false b is = inr is

not_so : (b : Bool) → not b ≡ true → b ≡ false
not_so false is = refl
not_so true is = absurd (cc)

isnt : {A : Type 0} → true ≡ false → A
isnt is = absurd (cc)

some_is : {A : Type 0} (a b : A) → Some a ≡ Some b → a ≡ b
some_is a b is = cc

-- By terms that are alike in what is said of the moment.
module _ (fixed : Fixed) (log : Log) (now : Now) (v last : World More) (alike : AreAlike fixed now.tale v last) (link : LinkId) (there : is_to_server now.tale link ≡ true) where
  abbrev one : Terms
  one = terms_of fixed last

  abbrev other : Terms
  other = terms_of fixed v

  pub spoilt_same : is_spoilt one log now link ≡ is_spoilt other log now link
  spoilt_same = ap
      (λ failed. was_lost log link || ((not (wire_now now link).entered && failed) || (has_bad_bytes (setup_of fixed) now link
      || (status_in is_off now.servers (wire_now now link).server || not (is_known now.servers (wire_now now link).server)))))
      (failed_same fixed log now v last alike link there)

  pub way_same : (key : Option LinkKey) → is_in_the_way one now key ≡ is_in_the_way other now key
  way_same None = refl
  way_same (Some key) = elsewhere_same fixed log now v last alike key now.tale.story

  let_go : (is_unlent (setup_of fixed) now link
      && (status_in is_soft now.servers (wire_now now link).server
      || (nat_le ((now.uses link).used + fixed.router.proxy.idle_ms) now.clock
      || (is_in_the_way other now (key_of other now link) && is_full fixed.router log now (key_of other now link))))) ≡ true
      → MayQuit one log now link
  let_go is =
      let unlent : is_unlent (setup_of fixed) now link ≡ true = left_is _ _ is in
      let key = key_same fixed log now v last alike link there in
      elim (either_of (status_in is_soft now.servers (wire_now now link).server) _ (right_is (is_unlent (setup_of fixed) now link) _ is)) [
        | inl soft ↦ closing.Leaving unlent soft
        | inr more ↦ elim (either_of (nat_le ((now.uses link).used + fixed.router.proxy.idle_ms) now.clock) _ more) [
          | inl long ↦ closing.Idle unlent (leb-true _ _ long)
          | inr room ↦ closing.MakesRoom unlent
              (way_same (key_of one now link) ∙ ap (is_in_the_way other now) key ∙ left_is _ _ room)
              (ap (is_full fixed.router log now) key ∙ right_is (is_in_the_way other now (key_of other now link)) _ room)
        ]
      ]

  abbrev has_cause : Bool
  has_cause = is_spoilt other log now link
      || (was_amiss (setup_of fixed) link now.tale.story
      || ((was_refused (setup_of fixed) link now.tale.story && not (is_joined (link_now (setup_of fixed) now link).carries))
      || (is_past_reset (setup_of fixed) now link
      || (is_unlent (setup_of fixed) now link
      && (status_in is_soft now.servers (wire_now now link).server
      || (nat_le ((now.uses link).used + fixed.router.proxy.idle_ms) now.clock
      || (is_in_the_way other now (key_of other now link) && is_full fixed.router log now (key_of other now link))))))))

  quits_so : has_cause ≡ true → MayQuit one log now link
  quits_so is = elim (either_of (is_spoilt other log now link) _ is) [
    | inl spoilt ↦ closing.Spoilt (spoilt_same ∙ spoilt)
    | inr second ↦ elim (either_of (was_amiss (setup_of fixed) link now.tale.story) _ second) [
      | inl amiss ↦ closing.Amiss amiss
      | inr third ↦ elim (either_of (was_refused (setup_of fixed) link now.tale.story && not (is_joined (link_now (setup_of fixed) now link).carries)) _ third) [
        | inl refused ↦ closing.Refused (left_is _ _ refused)
            (not_so (is_joined (link_now (setup_of fixed) now link).carries) (right_is (was_refused (setup_of fixed) link now.tale.story) _ refused))
        | inr fourth ↦ elim (either_of (is_past_reset (setup_of fixed) now link) _ fourth) [
          | inl past ↦ closing.PastReset past
          | inr idle ↦ let_go idle
        ]
      ]
    ]
  ]

  pub drops_so : (is_open link log && ((wire_now now link).quits || has_cause)) ≡ true → MayDrop one log now link
  drops_so is = elim (either_of (wire_now now link).quits _ (right_is (is_open link log) _ is)) [
    | inl told ↦ closing.WasTold told
    | inr why ↦ closing.HasCause (quits_so why)
  ]

  -- one that wasn't told QUIT has another cause
  pub untold_so : (is_open link log && ((wire_now now link).quits || has_cause)) ≡ true → (wire_now now link).quits ≡ false → MayQuit one log now link
  untold_so is untold = elim (either_of (wire_now now link).quits _ (right_is (is_open link log) _ is)) [
    | inl told ↦ isnt (sym told ∙ untold)
    | inr why ↦ quits_so why
  ]

-- which of the two it is
module _ {A : Type 0} where
  one_of : (x y : Option A) (a : A) → option_or x y ≡ Some a → (x ≡ Some a) ⊎ (y ≡ Some a)
  one_of None y a is = inr is
  one_of (Some b) y a is = inl is

mapped : {A B : Type 0} (f : A → B) (o : Option A) (b : B) → option_map f o ≡ Some b → (a : A) × ((o ≡ Some a) × (f a ≡ b))
mapped f None b is = absurd (cc)
mapped f (Some a) b is = (a, (refl, some_is (f a) b is))

module _ (fixed : Fixed) (numbered : IsNumbered fixed) where
  -- by the world's own tests it is one that is to be closed, and no client's
  pub closed_so : (before : Log) (link : LinkId) → LawfulAfter Fits [] before → close_by (known fixed (world_at fixed before)) ≡ Some link
      → is_to_server (world_at fixed before).tale link ≡ true → is_to_close (known fixed (world_at fixed before)) link ≡ true
  closed_so before link fits is there =
      let k : Known = known fixed (world_at fixed before) in
      elim (one_of (option_map (λ (client : Client). client.link) (find (parts k) k.now.tale.clients)) (find (is_to_close k) k.now.tale.links) link is) [
        | inl parted ↦
            let found = mapped (λ (client : Client). client.link) (find (parts k) k.now.tale.clients) link parted in
            let seat : IsSeat fixed before found.0.link =
            all_find (IsSeat fixed before) (parts k) k.now.tale.clients found.0 (seats_at fixed before fits) found.1.0 in
            isnt (sym there ∙ ap (is_to_server k.now.tale) (sym found.1.1) ∙ seat.apart)
        | inr closed ↦ found_so (is_to_close k) k.now.tale.links link closed
      ]

  closes_by : (before later : Log) (e : Entry) → LawfulAfter Fits [] before → LawfulAfter Fits before (e ∷ later) → IsOurs fixed before e
      → ClosesSo (final_terms fixed (before ++ e ∷ later)) before e
  closes_by before later (entry.Closed link) so_far fits our = λ there.
      let e : Entry = entry.Closed link in
      let w : World More = world_at fixed before in
      let t : Terms = final_terms fixed (before ++ e ∷ later) in
      let same : now_at t before ≡ now_of fixed w = now_is fixed t before (now_same fixed numbered before (e ∷ later)) in
      let here : is_to_server w.tale link ≡ true = ap (λ (n : Now). is_to_server n.tale link) (sym same) ∙ there in
      subst (λ (n : Now). MayDrop t before n link) (sym same)
      (subst (λ (l : Log). MayDrop t l (now_of fixed w) link) (log_at fixed before)
      (drops_so fixed w.more.log (now_of fixed w) w (world_at fixed (before ++ e ∷ later)) (alike_at fixed numbered before (e ∷ later) fits) link here
      (closed_so before link so_far our here)))
  closes_by before later _ so_far fits our = tt

  closes_from : (before later log : Log) → before ++ later ≡ log → LawfulAfter Fits [] before → LawfulAfter Fits before later → LawfulAfter (IsOurs fixed) before later
      → LawfulAfter (ClosesSo (final_terms fixed log)) before later
  closes_from before [] log is so_far fits our = tt
  closes_from before (e ∷ later) log is so_far fits our = (
    subst (λ l. ClosesSo (final_terms fixed l) before e) is (closes_by before later e so_far fits our.0),
    closes_from (before ++ e ∷ []) later log (append_assoc before (e ∷ []) later ∙ is) (lawful-more Fits before e so_far fits.0) fits.1 our.1,
  )

  pub closes_kept : (log : Log) → LawfulAfter (IsOurs fixed) [] log → LawfulAfter Fits [] log → LawfulAfter (ClosesSo (final_terms fixed log)) [] log
  closes_kept log our fits = closes_from [] log log refl tt fits our
