-- The links of clients that ended close for a cause, and so the promise on ends is kept.
use Rattle.std.specs.Prelude.{◌≡◌, ◌+◌, ◌⊎◌, ℕ, Bool, true, false, not, ◌&&◌, ◌||◌, All, bytes_eq, find, nat_le, if◌then◌else◌, List, [], ◌∷◌, ◌++◌, Option, Some, None}
use Rattle.std.specs.List.{list_any}
use Rattle.std.specs.Option.{option_map, option_map_or, option_or}
use Rattle.std.proofs.Common.{refl, sym, ap, ◌∙◌, subst, append_assoc, inl, inr}
use Rattle.std.proofs.lemmas.Bool.{and_parts, leb-true, not-true, or_cases, or_left, or_right}
use Rattle.std.proofs.lemmas.Slice.Eq.{bytes_eq-Decides}
use Rattle.client_session.specs.Arrivals.{arrival_of, is_served}
use Rattle.mx_base.specs.declared.names.LinkId.{LinkId}
use Rattle.mx_wire.specs.Log.{Log, is_link, link_of, written_of}
use Rattle.mx_wire.specs.Moments.{LawfulAfter, lawful-more}
use Rattle.mx_wire.specs.Tells.{Fits}
use Rattle.mx_wire.specs.declared.entry.Entry.{Entry}
use Rattle.mx_wire.specs.declared.entry.Entry.TheVariants as entry
use Rattle.private_model.proofs.Maps.{same_link}
use Rattle.private_model.specs.Story.{is_link_id}
use Rattle.private_model.specs.View.{Setup}
use Rattle.log_story.specs.Plan.{Plan, is_by_now}
use Rattle.log_story.specs.Tale.{Client, is_to_server, view_of}
use Rattle.tale_world.specs.Decided.{Agrees}
use Rattle.tale_world.specs.Deciding.{World}
use Rattle.router_promises.specs.Due.{due_to, served}
use Rattle.router_promises.specs.Ends.{AllWritten, Broken, EndsSo, MayPart, NotServed, PartsBy, PartsRight, TimeIsOver, Unheard, is_unheard, moment_in}
use Rattle.router_promises.specs.Now.{Now, is_loss, now_at}
use Rattle.router_promises.specs.Terms.{Terms}
use Rattle.shared_router.specs.Fixed.{Fixed, IsNumbered, setup_of}
use Rattle.shared_router.specs.Known.{Known, known}
use Rattle.shared_router.specs.More.{More, now_of}
use Rattle.shared_router.specs.Ours.{IsOurs}
use Rattle.shared_router.specs.Owed.{close_by, is_to_close, may_part, parts, was_tried}
use Rattle.shared_router.specs.Shared.{final_terms, world_at}
use Rattle.shared_router.proofs.Apart as apart
use Rattle.shared_router.proofs.Apart.{IsSeat, seats_at}
use Rattle.shared_router.proofs.Distinct.{distinct_at, only}
use Rattle.shared_router.proofs.Ended.{ends-there}
use Rattle.shared_router.proofs.Looked.{Each, IsLooked, each-all, each-so, looks_at}
use Rattle.shared_router.proofs.Musts.{last_plan}
use Rattle.shared_router.proofs.Owes.{owes-so}
use Rattle.shared_router.proofs.Parting.{agrees_then}
use Rattle.shared_router.proofs.Same.{now_is, now_same}
use Rattle.shared_router.proofs.Single.{both-each}
use Rattle.shared_router.proofs.Staying.{log_at}
use Rattle.shared_router.proofs.LastWords.{words-there}

isnt : {A : Type 0} → false ≡ true → A
isnt is = absurd (cc)

find-true : {A : Type 0} (test : A → Bool) (xs : List A) (x : A) → find test xs ≡ Some x → test x ≡ true
find-true test [] x is = absurd (cc)
find-true test (y ∷ xs) x is = by_test (test y) refl is (find-true test xs x) where
  by_test : (b : Bool) → test y ≡ b → (if b then Some y else find test xs) ≡ Some x → (find test xs ≡ Some x → test x ≡ true) → test x ≡ true
  by_test true at so later = (let same : y ≡ x = cc in ap test (sym same) ∙ at)
  by_test false at so later = later so

found-there : (test : LinkId → Bool) (links : List LinkId) (link : LinkId) → find test links ≡ Some link → list_any (is_link_id link) links ≡ true
found-there test [] link is = absurd (cc)
found-there test (y ∷ links) link is = by_test (test y) is (found-there test links link) where
  by_test : (b : Bool) → (if b then Some y else find test links) ≡ Some link → (find test links ≡ Some link → list_any (is_link_id link) links ≡ true)
      → (is_link_id link y || list_any (is_link_id link) links) ≡ true
  by_test true so later = (let same : y ≡ link = cc in or_left _ (list_any (is_link_id link) links) (ap (is_link_id link) same ∙ same_link link))
  by_test false so later = or_right (is_link_id link y) _ (later so)

-- which of the two closes
one-of : (found : Option Client) (other : Option LinkId) (link : LinkId) → option_or (option_map (λ (client : Client). client.link) found) other ≡ Some link
    → ((client : Client) × ((found ≡ Some client) × (client.link ≡ link))) ⊎ (other ≡ Some link)
one-of None other link is = inr is
one-of (Some client) other link is = (let same : client.link ≡ link = cc in inl (client, (refl, same)))

seats-each : (fixed : Fixed) (log : Log) (xs : List Client) → apart.AllOf (IsSeat fixed log) xs → Each (λ (c : Client). IsSeat fixed log c.link) xs
seats-each fixed log [] all = tt
seats-each fixed log (x ∷ xs) all = (all.0, seats-each fixed log xs all.1)

by-now-kept : (moment : ℕ) (old new : Option ℕ) → ((n : ℕ) → old ≡ Some n → new ≡ Some n) → is_by_now moment old ≡ true → new ≡ old
by-now-kept moment None new kept is = isnt is
by-now-kept moment (Some n) new kept is = kept n refl

module _ (fixed : Fixed) (numbered : IsNumbered fixed) (before later : Log) (e : Entry) where
  abbrev setup : Setup
  setup = setup_of fixed

  abbrev t : Terms
  t = final_terms fixed (before ++ e ∷ later)

  abbrev plan : Plan
  plan = last_plan fixed numbered (before ++ e ∷ later)

  abbrev w : World More
  w = world_at fixed before

  abbrev here : Now
  here = now_of fixed w

  -- by the log itself
  abbrev k : Known
  k = record (known fixed w) { log = before }

  agrees : Agrees w.decided w.tale.moment plan
  agrees = agrees_then fixed before (e ∷ later)

  module _ (client : Client) (looked : IsLooked w.decided client) (parted : parts k client ≡ true) where
    conditions : (is_by_now w.tale.moment (w.decided.ends client.number) ≡ true) × (may_part k client ≡ true)
    conditions = and_parts _ (may_part k client) (and_parts _ (is_by_now w.tale.moment (w.decided.ends client.number) && may_part k client) parted).1

    ends-kept : plan.ends client.number ≡ w.decided.ends client.number
    ends-kept = by-now-kept w.tale.moment (w.decided.ends client.number) (plan.ends client.number) (λ n is. agrees.ended client.number n is) conditions.0

    ended-so : is_by_now w.tale.moment (plan.ends client.number) ≡ true
    ended-so = ap (is_by_now w.tale.moment) ends-kept ∙ conditions.0

    all-written : bytes_eq (written_of client.link before) (due_to k.terms k.now client) ≡ true → MayPart t before here client
    all-written is =
        AllWritten ((bytes_eq-Decides (written_of client.link before) (due_to k.terms k.now client)).0 is
        ∙ sym (owes-so fixed before (e ∷ later) (view_of setup w.tale).replies client looked))

    is-over : nat_le (moment_in before (w.decided.ends client.number) + fixed.router.proxy.wait_ms) w.more.clock ≡ true → MayPart t before here client
    is-over is =
        TimeIsOver (leb-true (moment_in before (plan.ends client.number) + fixed.router.proxy.wait_ms) w.more.clock
        (ap (λ o. nat_le (moment_in before o + fixed.router.proxy.wait_ms) w.more.clock) ends-kept ∙ is))

    not-served : (not (served k.terms before client) && was_tried k client.link) ≡ true → MayPart t before here client
    not-served is =
        let both = and_parts (not (served k.terms before client)) (was_tried k client.link) is in
        NotServed (ap (λ service. option_map_or (is_served service) (arrival_of client.number.0 before) false) agrees.service
        ∙ not-true (served k.terms before client) both.0) both.1

    was-unheard : is_unheard k.terms before client ≡ true → MayPart t before here client
    was-unheard is = Unheard (ap (λ o. unheard_by o) ends-kept ∙ is) where
      unheard_by : Option ℕ → Bool
      unheard_by o = is_unheard (record t { decided = record t.decided { plan = record plan { ends = λ c. o } } }) before client

    may-so : MayPart t before here client
    may-so =
        let lossy = list_any (λ e. is_loss e && is_link client.link (link_of e)) before in
        let late = nat_le (moment_in before (w.decided.ends client.number) + fixed.router.proxy.wait_ms) w.more.clock in
        let turned = not (served k.terms before client) && was_tried k client.link in
        let unheard = is_unheard k.terms before client in
        elim (or_cases (bytes_eq (written_of client.link before) (due_to k.terms k.now client)) (lossy || (late || (turned || unheard))) conditions.1) [
          | inl written ↦ all-written written
          | inr second ↦ elim (or_cases lossy (late || (turned || unheard)) second) [
            | inl broken ↦ Broken broken
            | inr third ↦ elim (or_cases late (turned || unheard) third) [
              | inl over ↦ is-over over
              | inr fourth ↦ elim (or_cases turned unheard fourth) [
                | inl away ↦ not-served away
                | inr none ↦ was-unheard none
              ]
            ]
          ]
        ]

  -- each client of the link that closes

  parts-right : LawfulAfter Fits [] before → (link : LinkId) → close_by (known fixed w) ≡ Some link → Each (PartsRight t before here link) w.tale.clients
  parts-right fits link closes =
      let closing : close_by k ≡ Some link = subst (λ l. close_by (record (known fixed w) { log = l }) ≡ Some link) (log_at fixed before) closes in
      elim (one-of (find (parts k) w.tale.clients) (find (is_to_close k) w.tale.links) link closing) [
        | inl found ↦
            each-so (λ (c : Client). IsLooked w.decided c × (c.link ≡ found.0.link → c ≡ found.0)) (PartsRight t before here link) w.tale.clients
            (λ c both.
            let parted : c.link ≡ link → parts k c ≡ true = λ is. ap (parts k) (both.1 (is ∙ sym found.1.1)) ∙ find-true (parts k) w.tale.clients found.0 found.1.0 in
            record { ended = λ is. ended-so c both.0 (parted is); may = λ is. may-so c both.0 (parted is) })
            (both-each (IsLooked w.decided) (λ (c : Client). c.link ≡ found.0.link → c ≡ found.0) w.tale.clients (looks_at fixed before)
            (only (parts k) found.0 w.tale.clients (distinct_at fixed before fits) found.1.0))
        | inr closed ↦
            let there : is_to_server w.tale link ≡ true = found-there (is_to_close k) w.tale.links link closed in
            each-so (λ (c : Client). IsSeat fixed before c.link) (PartsRight t before here link) w.tale.clients
            (λ c seat. record {
              ended = λ is. isnt (sym seat.apart ∙ ap (is_to_server w.tale) is ∙ there);
              may = λ is. isnt (sym seat.apart ∙ ap (is_to_server w.tale) is ∙ there);
            })
            (seats-each fixed before w.tale.clients (seats_at fixed before fits))
      ]

module _ (fixed : Fixed) (numbered : IsNumbered fixed) where
  parts-by : (before later : Log) (e : Entry) → LawfulAfter Fits [] before → IsOurs fixed before e → PartsBy (final_terms fixed (before ++ e ∷ later)) before (now_at (final_terms fixed (before ++ e ∷ later)) before) e
  parts-by before later (entry.Closed link) fits ours =
      let e : Entry = entry.Closed link in
      let t : Terms = final_terms fixed (before ++ e ∷ later) in
      let w : World More = world_at fixed before in
      subst (λ (n : Now). All (PartsRight t before n link) n.tale.clients) (sym (now_is fixed t before (now_same fixed numbered before (e ∷ later))))
      (each-all (PartsRight t before (now_of fixed w) link) w.tale.clients (parts-right fixed numbered before later e fits link ours))
  parts-by before later _ fits ours = tt

  ends-from : (before later whole : Log) → before ++ later ≡ whole → LawfulAfter Fits [] before → LawfulAfter Fits before later → LawfulAfter (IsOurs fixed) before later
      → LawfulAfter (EndsSo (final_terms fixed whole)) before later
  ends-from before [] whole is so_far fits ours = tt
  ends-from before (e ∷ later) whole is so_far fits ours = (
    subst (λ l. EndsSo (final_terms fixed l) before e) is (record {
      ends = ends-there fixed numbered before later e;
      words = words-there fixed numbered before later e fits.0;
      parts = parts-by before later e so_far ours.0;
    }),
    ends-from (before ++ e ∷ []) later whole (append_assoc before (e ∷ []) later ∙ is) (lawful-more Fits before e so_far fits.0) fits.1 ours.1,
  )

  pub parted-along : (whole : Log) → LawfulAfter (IsOurs fixed) [] whole → LawfulAfter Fits [] whole → LawfulAfter (EndsSo (final_terms fixed whole)) [] whole
  parted-along whole ours fits = ends-from [] whole whole refl tt fits ours
