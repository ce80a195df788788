-- Where a write to a client failed, the client has ended.
use Rattle.std.specs.Prelude.{◌≡◌, ◌≤◌, ◌+◌, ℕ, suc, Bool, true, false, ◌&&◌, ◌||◌, if◌then◌else◌, length, List, [], ◌∷◌, ◌++◌, Option, Some, None}
use Rattle.std.specs.List.{list_any}
use Rattle.std.proofs.Common.{refl, sym, ap, ◌∙◌, subst, append_assoc, append-nil, arith}
use Rattle.std.proofs.lemmas.Bool.{and_from, and_parts, le-leb, leb-true, or_left}
use Rattle.mx_base.specs.declared.names.LinkId.{LinkId}
use Rattle.mx_wire.specs.Log.{Log, is_link, is_open, link_of, of_link}
use Rattle.mx_wire.specs.Moments.{AllLawful, LawfulAfter}
use Rattle.mx_wire.specs.Tells.{Fits}
use Rattle.mx_wire.specs.declared.entry.Entry.{Entry}
use Rattle.mx_wire.specs.declared.entry.Entry.TheVariants as entry
use Rattle.private_model.specs.Story.{is_link_id}
use Rattle.log_story.specs.Plan.{is_by_now}
use Rattle.log_story.specs.Tale.{Client, Tale, client_gets, client_hears, new_client}
use Rattle.log_story.specs.Telling.{tale_step, told}
use Rattle.tale_world.specs.Deciding.{World}
use Rattle.router_promises.specs.Ends.{EndsRight, is_closing}
use Rattle.router_promises.specs.Now.{is_loss, next, now_at}
use Rattle.router_promises.specs.Rest.{is_failed_write}
use Rattle.router_promises.specs.Terms.{Terms, plan_in}
use Rattle.router_promises.specs.Wakes.{has_ended}
use Rattle.shared_router.specs.Fixed.{Fixed, IsNumbered, setup_of}
use Rattle.shared_router.specs.More.{More, now_of}
use Rattle.shared_router.specs.Ours.{IsOurLog}
use Rattle.shared_router.specs.Shared.{final_terms, world_at}
use Rattle.shared_router.specs.Waited.{AreUnbroken, AsItWaits}
use Rattle.shared_router.proofs.Along.{as_it_waits}
use Rattle.shared_router.proofs.Attending.{all-each}
use Rattle.shared_router.proofs.Closed.{its_more}
use Rattle.shared_router.proofs.Ended.{behind-moment, behind-tale, ends-there, moment-so}
use Rattle.shared_router.proofs.Gathering.{fails_lose}
use Rattle.shared_router.proofs.Growing.{numbered_at, tale_so}
use Rattle.shared_router.proofs.Looked.{Each, IfComes, Seats, each-all, each-last, each-map, each-so, told-seats}
use Rattle.shared_router.proofs.Parting.{world_more}
use Rattle.shared_router.proofs.Seated.{AreLike, IsLike, step_like}
use Rattle.shared_router.proofs.Single.{both-each}
use Rattle.shared_router.proofs.Staying.{log_at}

isnt : {A : Type 0} → false ≡ true → A
isnt is = absurd (cc)

either : {A : Type 0} (P : A → Type 0) (b : Bool) (x y : A) → P x → P y → P (if b then x else y)
either P true x y one other = one
either P false x y one other = other

each_like : (Q : Client → Type 0) → ((x y : Client) → IsLike x y → Q x → Q y) → (xs ys : List Client) → AreLike xs ys → Each Q xs → Each Q ys
each_like Q keeps [] [] like all = tt
each_like Q keeps [] (y ∷ ys) like all = absurd like
each_like Q keeps (x ∷ xs) [] like all = absurd like
each_like Q keeps (x ∷ xs) (y ∷ ys) like all = (keeps x y like.0 all.0, each_like Q keeps xs ys like.1 all.1)

-- a moment that came is past
later_too : (early late : ℕ) (o : Option ℕ) → early ≤ late → is_by_now early o ≡ true → is_by_now late o ≡ true
later_too early late None less is = isnt is
later_too early late (Some n) less is = (let was = leb-true n early is in le-leb n late (omega (arith, was, less)))

abbrev failed : LinkId → Log → Bool
failed link log = list_any is_failed_write (of_link link log)

-- by the last entry, or before
failed_now : (link : LinkId) (log : Log) (e : Entry) → failed link (log ++ e ∷ []) ≡ true → (is_link link (link_of e) && is_failed_write e) ≡ false → failed link log ≡ true
failed_now link log e is other = by_first (of_link link log) (ap (list_any is_failed_write) (sym (its_more link log (e ∷ []))) ∙ is) where
  none : (b : Bool) → (b && is_failed_write e) ≡ false → list_any is_failed_write (if b then e ∷ [] else []) ≡ false
  none true fine = ap (λ f. f || false) fine
  none false fine = refl

  by_first : (xs : Log) → list_any is_failed_write (xs ++ of_link link (e ∷ [])) ≡ true → list_any is_failed_write xs ≡ true
  by_first [] some = isnt (sym (none (is_link link (link_of e)) other) ∙ some)
  by_first (x ∷ xs) some = by_test (is_failed_write x) some (by_first xs) where
    by_test : (b : Bool) → (b || list_any is_failed_write (xs ++ of_link link (e ∷ []))) ≡ true
        → (list_any is_failed_write (xs ++ of_link link (e ∷ [])) ≡ true → list_any is_failed_write xs ≡ true) → (b || list_any is_failed_write xs) ≡ true
    by_test true some later = refl
    by_test false some later = later some

none_new : (link : LinkId) (log : Log) → of_link link log ≡ [] → failed link log ≡ true → false ≡ true
none_new link log new is = ap (list_any is_failed_write) (sym new) ∙ is

module _ (fixed : Fixed) (numbered : IsNumbered fixed) (log : Log) where
  abbrev t : Terms
  t = final_terms fixed log

  abbrev moment_at : Log → ℕ
  moment_at before = (world_at fixed before).tale.moment

  abbrev HasParted : Log → ℕ → Client → Type 0
  HasParted before moment client = failed client.link before ≡ true → is_by_now moment ((plan_in t).ends client.number) ≡ true

  like_parted : (before : Log) (moment : ℕ) (x y : Client) → IsLike x y → HasParted before moment x → HasParted before moment y
  like_parted before moment x y like was is =
      ap (λ n. is_by_now moment ((plan_in t).ends n)) like.number ∙ was (ap (λ l. failed l before) (sym like.link) ∙ is)

  seats : (before : Log) (moment : ℕ) → Seats (λ link. of_link link before ≡ []) (Each (HasParted before moment))
  seats before moment = record {
    comes = λ cs port link salt new all. each-last (HasParted before moment) cs (new_client (length cs + 1) port link salt) all (λ is. isnt (none_new link before new is));
    hears = λ cs link bytes all. each-map (HasParted before moment) (HasParted before moment) (client_hears link bytes) cs
        (λ c was. either (HasParted before moment) (is_link_id c.link link) (record c { read = c.read ++ bytes }) c was was) all;
    gets = λ cs link count all. each-map (HasParted before moment) (HasParted before moment) (client_gets link count) cs
        (λ c was. either (HasParted before moment) (is_link_id c.link link) (record c { written = c.written + count }) c was was) all;
  }

  comes_new : (before : Log) (e : Entry) → Fits before e → IfComes (λ link. of_link link before ≡ []) e
  comes_new before (entry.Accepted port link salt) fits = fits.fresh
  comes_new before _ fits = tt

  -- the entry itself ends whom it fails
  now_parted : (before : Log) (moment : ℕ) (e : Entry) (client : Client) → moment_at before ≤ moment
      → ((is_link client.link (link_of e) && is_failed_write e) ≡ true → is_by_now moment ((plan_in t).ends client.number) ≡ true)
      → HasParted before (moment_at before) client → HasParted (before ++ e ∷ []) moment client
  now_parted before moment e client less must was is = by_test (is_link client.link (link_of e) && is_failed_write e) refl where
    by_test : (b : Bool) → (is_link client.link (link_of e) && is_failed_write e) ≡ b → is_by_now moment ((plan_in t).ends client.number) ≡ true
    by_test true here = must here
    by_test false other = later_too (moment_at before) moment ((plan_in t).ends client.number) less (was (failed_now client.link before e is other))

  -- whom the last entry fails, it ends
  abbrev IsNow : Log → Entry → Log → Client → Type 0
  IsNow before e whole client = (is_link client.link (link_of e) && is_failed_write e) ≡ true
      → is_by_now (moment_at (before ++ e ∷ [])) ((plan_in (final_terms fixed whole)).ends client.number) ≡ true

  abbrev EndsNow : Log → Entry → Log → Type 0
  EndsNow before e whole = Each (IsNow before e whole) (world_at fixed (before ++ e ∷ [])).tale.clients

  ends_now : (before later : Log) (e : Entry) → EndsNow before e (before ++ e ∷ later)
  ends_now before later e =
      let whole : Log = before ++ e ∷ later in
      let terms : Terms = final_terms fixed whole in
      let tales : (next terms (now_at terms before) e).tale ≡ (world_at fixed (before ++ e ∷ [])).tale =
      behind-tale fixed numbered before later e ∙ ap (λ (v : World More). v.tale) (sym (world_more fixed before (e ∷ []))) in
      let all = all-each (EndsRight terms (before ++ e ∷ []) (now_at terms before) (next terms (now_at terms before) e) e) (next terms (now_at terms before) e).tale.clients
      (ends-there fixed numbered before later e) in
      subst (Each (IsNow before e whole)) (ap (λ (x : Tale). x.clients) tales)
      (each-so (EndsRight terms (before ++ e ∷ []) (now_at terms before) (next terms (now_at terms before) e) e)
      (IsNow before e whole)
      (next terms (now_at terms before) e).tale.clients
      (λ c right it.
      let parts = and_parts (is_link c.link (link_of e)) (is_failed_write e) it in
      ap (λ (x : Tale). is_by_now x.moment ((plan_in terms).ends c.number)) (sym tales)
      ∙ right.must (or_left _ _ (and_from (is_link c.link (link_of e)) _ parts.0 (or_left (is_loss e) (is_closing e) (fails_lose e parts.1))))) all)

  moments : (before later : Log) (e : Entry) → moment_at (before ++ e ∷ []) ≡ suc (moment_at before)
  moments before later e =
      ap (λ (v : World More). v.tale.moment) (world_more fixed before (e ∷ [])) ∙ ap (λ (x : Tale). x.moment) (sym (behind-tale fixed numbered before later e))
      ∙ behind-moment fixed numbered before later e ∙ moment-so fixed numbered before later e

  abbrev AreParted : Log → Type 0
  AreParted before = Each (HasParted before (moment_at before)) (world_at fixed before).tale.clients

  parted_step : (before later : Log) (e : Entry) → before ++ e ∷ later ≡ log → Fits before e → AreParted before → AreParted (before ++ e ∷ [])
  parted_step before later e is fits all =
      let m : ℕ = moment_at before in
      let tale : Tale = (world_at fixed before).tale in
      let new : Tale = (world_at fixed (before ++ e ∷ [])).tale in
      let step = tale_so fixed before e in
      let next_moment : moment_at (before ++ e ∷ []) ≡ suc m = moments before later e in
      let told_so : Each (HasParted before m) (told (setup_of fixed) step.0 tale e).clients =
      told-seats (λ link. of_link link before ≡ []) (Each (HasParted before m)) (seats before m) (setup_of fixed) step.0 tale e (comes_new before e fits) all in
      let was : Each (HasParted before m) new.clients = subst (λ (x : Tale). Each (HasParted before m) x.clients) (sym step.1)
      (each_like (HasParted before m) (like_parted before m) (told (setup_of fixed) step.0 tale e).clients (tale_step (setup_of fixed) step.0 tale e).clients
      (step_like (setup_of fixed) step.0 tale e (numbered_at fixed before)) told_so) in
      let now : EndsNow before e log = subst (EndsNow before e) is (ends_now before later e) in
      each-so (λ (c : Client). IsNow before e log c × HasParted before m c) (HasParted (before ++ e ∷ []) (moment_at (before ++ e ∷ []))) new.clients
      (λ c both. now_parted before (moment_at (before ++ e ∷ [])) e c (omega (arith, next_moment)) both.0 both.1)
      (both-each (IsNow before e log) (HasParted before m) new.clients now was)

  parted_from : (before later : Log) → before ++ later ≡ log → LawfulAfter Fits before later → AreParted before
      → (cut : Log) (rest : Log) → cut ++ rest ≡ later → AreParted (before ++ cut)
  parted_from before later is fits all [] rest same = subst AreParted (sym (append-nil before)) all
  parted_from before [] is fits all (e ∷ cut) rest same = absurd (cc)
  parted_from before (x ∷ later) is fits all (e ∷ cut) rest same =
      let first : e ≡ x = cc in
      let others : cut ++ rest ≡ later = cc in
      subst AreParted (append_assoc before (e ∷ []) cut)
      (subst (λ y. AreParted ((before ++ y ∷ []) ++ cut)) (sym first)
      (parted_from (before ++ x ∷ []) later (append_assoc before (x ∷ []) later ∙ is) fits.1 (parted_step before later x is fits.0 all) cut rest others))

abbrev IsUnbroken : Fixed → Log → Log → Client → Type 0
IsUnbroken fixed log before client =
    is_open client.link before ≡ true → has_ended (final_terms fixed log) (now_of fixed (world_at fixed before)) client ≡ false → failed client.link before ≡ false

pub breaks_nobody : (fixed : Fixed) (log : Log) → IsNumbered fixed → IsOurLog fixed log → AllLawful (AsItWaits AreUnbroken (final_terms fixed log)) log
breaks_nobody fixed log numbered our =
    as_it_waits fixed numbered log AreUnbroken (λ before later e at may.
    let w : World More = world_at fixed before in
    let all = parted_from fixed numbered log [] log refl our.fits tt before (e ∷ later) at.is in
    subst (λ (l : Log). AreUnbroken (final_terms fixed log) l (now_of fixed w)) (sym (log_at fixed before))
    (each-all (IsUnbroken fixed log before) w.tale.clients
    (each-so (HasParted fixed numbered log before w.tale.moment) (IsUnbroken fixed log before) w.tale.clients (λ c parted opened goes. unless (failed c.link before) _ parted goes) all))) our
  where
    unless : (b ended : Bool) → (b ≡ true → ended ≡ true) → ended ≡ false → b ≡ false
    unless false ended so goes = refl
    unless true ended so goes = isnt (sym goes ∙ so refl)
