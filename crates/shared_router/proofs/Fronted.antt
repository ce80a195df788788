-- Where what clients are due goes on, what was written to each is a front of it at each moment.
use Rattle.std.specs.Prelude.{◌≡◌, ◌+◌, ◌<◌, ℕ, Bool, true, false, All, drop, find, if◌then◌else◌, length, map, take, List, [], ◌∷◌, ◌++◌, Option, Some, None}
use Rattle.std.specs.List.{flat_map}
use Rattle.std.proofs.Common.{refl, sym, ap, ◌∙◌, subst, append_assoc, append-nil, take-append-drop}
use Rattle.mx_base.specs.declared.names.LinkId.{LinkId}
use Rattle.mx_base.specs.declared.tag.Tag.{Tag}
use Rattle.mx_wire.specs.Growth.{bytes-idle, bytes-other, bytes-same}
use Rattle.mx_wire.specs.Log.{Log, is_link, wrote_bytes, written_of}
use Rattle.mx_wire.specs.Moments.{AtEachMoment, LawfulAfter, lawful-more}
use Rattle.mx_wire.specs.Tells.{Fits}
use Rattle.mx_wire.specs.declared.entry.Entry.{Entry}
use Rattle.mx_wire.specs.declared.entry.Entry.TheVariants as entry
use Rattle.private_model.proofs.Maps as maps
use Rattle.private_model.specs.Story.{is_link_id}
use Rattle.log_story.specs.Honest.{IsFront}
use Rattle.log_story.specs.Plan.{Plan}
use Rattle.log_story.specs.Tale.{Client, Tale, client_gets, client_hears, is_to_server, new_client, view_of}
use Rattle.log_story.specs.Telling.{tale_step, told}
use Rattle.log_story.proofs.Writing.{front-trans}
use Rattle.tale_world.specs.Deciding.{World}
use Rattle.router_promises.specs.Due.{DueSo, due_to}
use Rattle.router_promises.specs.Terms.{Terms, tale_at}
use Rattle.shared_router.specs.Fixed.{Fixed, setup_of}
use Rattle.shared_router.specs.Known.{Known, known}
use Rattle.shared_router.specs.More.{More}
use Rattle.shared_router.specs.Onward.{GoOn, GoesOn, GoesOnSo, due_in}
use Rattle.shared_router.specs.Ours.{IsOurs}
use Rattle.shared_router.specs.Owed.{owed_on_client, owed_on_server}
use Rattle.shared_router.specs.Shared.{final_terms, world_at}
use Rattle.shared_router.proofs.Apart as apart
use Rattle.shared_router.proofs.Apart.{IsSeat, seats_at}
use Rattle.shared_router.proofs.Distinct.{distinct_at, only}
use Rattle.shared_router.proofs.Growing.{numbered_at, tale_so}
use Rattle.shared_router.proofs.Looked.{Each, IsLooked, each-all, each-so, looks_at}
use Rattle.shared_router.proofs.Owes.{owes-so}
use Rattle.shared_router.proofs.Parting.{tale_then}
use Rattle.shared_router.proofs.Saying.{on_front}
use Rattle.shared_router.proofs.Seated.{AreLike, clients_by, step_like, told_clients}
use Rattle.shared_router.proofs.Single.{both-each}
use Rattle.shared_router.proofs.Staying.{log_at}
use Rattle.shared_router.proofs.Passing.{no_front}

nothing_first : (xs : List ℕ) → IsFront [] xs
nothing_first xs = record { rest = xs; is = refl }

-- the clients behind an entry: those that there were, each on its link, and others, to whom nothing was written yet
abbrev pub AreKept : (written : LinkId → List ℕ) → (was is : List Client) → Type 0
AreKept written [] ys = Each (λ (y : Client). written y.link ≡ []) ys
AreKept written (x ∷ xs) [] = ⊥
AreKept written (x ∷ xs) (y ∷ ys) = (y.link ≡ x.link) × AreKept written xs ys

module _ (written : LinkId → List ℕ) where
  kept_itself : (xs : List Client) → AreKept written xs xs
  kept_itself [] = tt
  kept_itself (x ∷ xs) = (refl, kept_itself xs)

  kept_map : (f : Client → Client) → ((c : Client) → (f c).link ≡ c.link) → (xs : List Client) → AreKept written xs (map f xs)
  kept_map f each [] = tt
  kept_map f each (x ∷ xs) = (each x, kept_map f each xs)

  kept_comes : (xs : List Client) (one : Client) → written one.link ≡ [] → AreKept written xs (xs ++ one ∷ [])
  kept_comes [] one is = (is, tt)
  kept_comes (x ∷ xs) one is = (refl, kept_comes xs one is)

  if_kept : (b : Bool) (xs ys zs : List Client) → AreKept written xs ys → AreKept written xs zs → AreKept written xs (if b then ys else zs)
  if_kept true xs ys zs one other = one
  if_kept false xs ys zs one other = other

  none_like : (ys zs : List Client) → AreLike ys zs → Each (λ (y : Client). written y.link ≡ []) ys → Each (λ (y : Client). written y.link ≡ []) zs
  none_like [] [] like all = tt
  none_like [] (z ∷ zs) like all = absurd like
  none_like (y ∷ ys) [] like all = absurd like
  none_like (y ∷ ys) (z ∷ zs) like all = (ap written like.0.link ∙ all.0, none_like ys zs like.1 all.1)

  kept_like : (xs ys zs : List Client) → AreLike ys zs → AreKept written xs ys → AreKept written xs zs
  kept_like [] ys zs like kept = none_like ys zs like kept
  kept_like (x ∷ xs) [] zs like kept = absurd kept
  kept_like (x ∷ xs) (y ∷ ys) [] like kept = absurd like
  kept_like (x ∷ xs) (y ∷ ys) (z ∷ zs) like kept = (like.0.link ∙ kept.0, kept_like xs ys zs like.1 kept.1)

if_link : (b : Bool) (x y : Client) (link : LinkId) → x.link ≡ link → y.link ≡ link → (if b then x else y).link ≡ link
if_link true x y link one other = one
if_link false x y link one other = other

find_true : (test : Client → Bool) (xs : List Client) (x : Client) → find test xs ≡ Some x → test x ≡ true
find_true test [] x is = absurd (cc)
find_true test (y ∷ xs) x is = by_test (test y) refl is (find_true test xs x) where
  by_test : (b : Bool) → test y ≡ b → (if b then Some y else find test xs) ≡ Some x → (find test xs ≡ Some x → test x ≡ true) → test x ≡ true
  by_test true at so later = (let same : y ≡ x = cc in ap test (sym same) ∙ at)
  by_test false at so later = later so

seats_each : (fixed : Fixed) (log : Log) (xs : List Client) → apart.AllOf (IsSeat fixed log) xs → Each (λ (c : Client). IsSeat fixed log c.link) xs
seats_each fixed log [] all = tt
seats_each fixed log (x ∷ xs) all = (all.0, seats_each fixed log xs all.1)

-- what is due behind the entry goes on with what was
go_on : (terms : Terms) (old new : Tale) (written : LinkId → List ℕ) (xs ys : List Client) → AreKept written xs ys → GoOn (due_in terms old) (due_in terms new) xs ys
    → Each (λ (x : Client). IsFront (written x.link) (due_in terms old x)) xs → Each (λ (y : Client). IsFront (written y.link) (due_in terms new y)) ys
go_on terms old new written [] ys kept on fronts =
    each-so (λ (y : Client). written y.link ≡ []) (λ (y : Client). IsFront (written y.link) (due_in terms new y)) ys
    (λ y none. subst (λ xs. IsFront xs (due_in terms new y)) (sym none) (nothing_first (due_in terms new y))) kept
go_on terms old new written (x ∷ xs) [] kept on fronts = absurd kept
go_on terms old new written (x ∷ xs) (y ∷ ys) kept on fronts = (
  subst (λ link. IsFront (written link) (due_in terms new y)) (sym kept.0) (front-trans (written x.link) (due_in terms old x) (due_in terms new y) fronts.0 on.0),
  go_on terms old new written xs ys kept.1 on.1 fronts.1,
)

module _ (fixed : Fixed) (before later : Log) where
  abbrev terms : Terms
  terms = final_terms fixed (before ++ later)

  abbrev w : World More
  w = world_at fixed before

  abbrev k : Known
  k = known fixed w

  -- What was written to it, and what it is due by the last plan.
  abbrev pub IsFronted : Client → Type 0
  IsFronted client = IsFront (written_of client.link before) (due_in terms w.tale client)

  pub last_due : (client : Client) → IsLooked w.decided client → due_in terms w.tale client ≡ due_to k.terms k.now client
  last_due client looked = owes-so fixed before later (view_of (setup_of fixed) w.tale).replies client looked

  -- What is written to a client goes on with what it is due.

  abbrev Goes : List ℕ → Client → Type 0
  Goes bytes client = IsFront bytes (drop (length (written_of client.link before)) (due_in terms w.tale client))

  module _ (link : LinkId) (bytes : List ℕ) (some : 0 < length bytes) (fits : LawfulAfter Fits [] before) (there : is_to_server w.tale link ≡ false) where
    goes_by : (found : Option Client) → find (λ (c : Client). is_link_id c.link link) w.tale.clients ≡ found → IsFront bytes (owed_on_client k found).bytes
        → Each (λ (c : Client). c.link ≡ link → Goes bytes c) w.tale.clients
    goes_by None is front = no_front bytes front some
    goes_by (Some one) is front =
        let same : one.link ≡ link = maps.link_of one.link link (find_true (λ (c : Client). is_link_id c.link link) w.tale.clients one is) in
        each-so (λ (c : Client). IsLooked w.decided c × (c.link ≡ one.link → c ≡ one)) (λ (c : Client). c.link ≡ link → Goes bytes c) w.tale.clients
        (λ c both at.
        let it : c ≡ one = both.1 (at ∙ sym same) in
        let now : IsFront bytes (drop (length (written_of one.link before)) (due_to k.terms k.now one)) =
        subst (λ (l : Log). IsFront bytes (drop (length (written_of one.link l)) (due_to k.terms k.now one))) (log_at fixed before) front in
        subst (λ xs. IsFront bytes (drop (length (written_of c.link before)) xs)) (sym (last_due c both.0))
        (subst (λ (o : Client). IsFront bytes (drop (length (written_of o.link before)) (due_to k.terms k.now o))) (sym it) now))
        (both-each (IsLooked w.decided) (λ (c : Client). c.link ≡ one.link → c ≡ one) w.tale.clients (looks_at fixed before)
        (only (λ (c : Client). is_link_id c.link link) one w.tale.clients (distinct_at fixed before fits) is))

    pub goes_so : IsFront bytes (if is_to_server w.tale link then owed_on_server k link else owed_on_client k (find (λ (c : Client). is_link_id c.link link) w.tale.clients)).bytes
        → Each (λ (c : Client). c.link ≡ link → Goes bytes c) w.tale.clients
    goes_so front =
        goes_by (find (λ (c : Client). is_link_id c.link link) w.tale.clients) refl
        (subst (λ b. IsFront bytes (if b then owed_on_server k link else owed_on_client k (find (λ (c : Client). is_link_id c.link link) w.tale.clients)).bytes) there front)

-- Behind an entry what was written is still a front of what was due before it.

module _ (fixed : Fixed) (before later : Log) (e : Entry) where
  abbrev last : Terms
  last = final_terms fixed (before ++ e ∷ later)

  abbrev tale : Tale
  tale = (world_at fixed before).tale

  abbrev pub IsStill : Client → Type 0
  IsStill client = IsFront (written_of client.link (before ++ e ∷ [])) (due_in last tale client)

  pub still_idle : wrote_bytes e ≡ [] → Each (IsFronted fixed before (e ∷ later)) tale.clients → Each IsStill tale.clients
  still_idle idle fronts =
      each-so (IsFronted fixed before (e ∷ later)) IsStill tale.clients
      (λ c front. subst (λ xs. IsFront xs (due_in last tale c)) (sym (bytes-idle wrote_bytes c.link before e idle)) front) fronts

module _ (fixed : Fixed) (before later : Log) (link : LinkId) (tag : Tag) (bytes : List ℕ) where
  abbrev wrote : Entry
  wrote = entry.Wrote link tag bytes

  abbrev w_then : World More
  w_then = world_at fixed before

  abbrev Was : Client → Type 0
  Was client = IsFronted fixed before (wrote ∷ later) client

  abbrev IsNow : Client → Type 0
  IsNow client = IsStill fixed before later wrote client

  abbrev due_then : Client → List ℕ
  due_then client = due_in (final_terms fixed (before ++ wrote ∷ later)) w_then.tale client

  still_here : (c : Client) → (c.link ≡ link → IsFront bytes (drop (length (written_of c.link before)) (due_then c))) → Was c → IsNow c
  still_here c goes front = by_test (is_link c.link (Some link)) refl where
    by_test : (b : Bool) → is_link c.link (Some link) ≡ b → IsNow c
    by_test true is =
        subst (λ xs. IsFront xs (due_then c)) (sym (bytes-same wrote_bytes c.link before wrote is))
        (on_front (written_of c.link before) bytes (due_then c) front (goes (maps.link_of c.link link is)))
    by_test false is = subst (λ xs. IsFront xs (due_then c)) (sym (bytes-other wrote_bytes c.link before wrote is)) front

  still_there : (c : Client) → (c.link ≡ link → ⊥) → Was c → IsNow c
  still_there c apart front = still_here c (λ is. absurd (apart is)) front

  pub still_wrote : LawfulAfter Fits [] before → Fits before wrote → IsOurs fixed before wrote → Each Was w_then.tale.clients → Each IsNow w_then.tale.clients
  still_wrote fits now ours fronts = by_test (is_to_server w_then.tale link) refl where
    by_test : (b : Bool) → is_to_server w_then.tale link ≡ b → Each IsNow w_then.tale.clients
    by_test true there =
        each-so (λ (c : Client). IsSeat fixed before c.link × Was c) IsNow w_then.tale.clients
        (λ c both. still_there c (λ is. absurd (let no : false ≡ true = sym both.0.apart ∙ ap (is_to_server w_then.tale) is ∙ there in cc)) both.1)
        (both-each (λ (c : Client). IsSeat fixed before c.link) Was w_then.tale.clients (seats_each fixed before w_then.tale.clients (seats_at fixed before fits)) fronts)
    by_test false there =
        each-so (λ (c : Client). (c.link ≡ link → IsFront bytes (drop (length (written_of c.link before)) (due_then c))) × Was c) IsNow w_then.tale.clients
        (λ c both. still_here c both.0 both.1)
        (both-each (λ (c : Client). c.link ≡ link → IsFront bytes (drop (length (written_of c.link before)) (due_then c))) Was w_then.tale.clients
        (goes_so fixed before (wrote ∷ later) link bytes now.some fits there ours.front) fronts)

module _ (fixed : Fixed) where
  still : (before later : Log) (e : Entry) → LawfulAfter Fits [] before → Fits before e → IsOurs fixed before e
      → Each (IsFronted fixed before (e ∷ later)) (world_at fixed before).tale.clients → Each (IsStill fixed before later e) (world_at fixed before).tale.clients
  still before later (entry.Wrote link tag bytes) fits now ours fronts = still_wrote fixed before later link tag bytes fits now ours fronts
  still before later e fits now ours fronts = still_idle fixed before later e refl fronts

  -- the clients behind an entry

  kept_by : (plan : Plan) (before : Log) (e : Entry) → Fits before e → (tale : Tale) → AreKept (λ l. written_of l (before ++ e ∷ [])) tale.clients (clients_by (setup_of fixed) plan tale e)
  kept_by plan before (entry.Accepted port link salt) fits tale =
      kept_comes (λ l. written_of l (before ++ entry.Accepted port link salt ∷ [])) tale.clients (new_client (length tale.clients + 1) port link salt)
      (bytes-idle wrote_bytes link before (entry.Accepted port link salt) refl ∙ ap (λ (l : Log). flat_map wrote_bytes l) fits.fresh)
  kept_by plan before (entry.Got link bytes) fits tale =
      if_kept (λ l. written_of l (before ++ entry.Got link bytes ∷ [])) (is_to_server tale link) tale.clients tale.clients (map (client_hears link bytes) tale.clients)
      (kept_itself (λ l. written_of l (before ++ entry.Got link bytes ∷ [])) tale.clients)
      (kept_map (λ l. written_of l (before ++ entry.Got link bytes ∷ [])) (client_hears link bytes)
      (λ c. if_link (is_link_id c.link link) (record c { read = c.read ++ bytes }) c c.link refl refl) tale.clients)
  kept_by plan before (entry.Wrote link tag bytes) fits tale =
      if_kept (λ l. written_of l (before ++ entry.Wrote link tag bytes ∷ [])) (is_to_server tale link) tale.clients tale.clients (map (client_gets link (length bytes)) tale.clients)
      (kept_itself (λ l. written_of l (before ++ entry.Wrote link tag bytes ∷ [])) tale.clients)
      (kept_map (λ l. written_of l (before ++ entry.Wrote link tag bytes ∷ [])) (client_gets link (length bytes))
      (λ c. if_link (is_link_id c.link link) (record c { written = c.written + length bytes }) c c.link refl refl) tale.clients)
  kept_by plan before e fits tale = kept_itself (λ l. written_of l (before ++ e ∷ [])) tale.clients

  kept_step : (before : Log) (e : Entry) → Fits before e
      → AreKept (λ l. written_of l (before ++ e ∷ [])) (world_at fixed before).tale.clients (world_at fixed (before ++ e ∷ [])).tale.clients
  kept_step before e fits =
      let tale : Tale = (world_at fixed before).tale in
      let step = tale_so fixed before e in
      subst (λ (t : Tale). AreKept (λ l. written_of l (before ++ e ∷ [])) tale.clients t.clients) (sym step.1)
      (kept_like (λ l. written_of l (before ++ e ∷ [])) tale.clients (told (setup_of fixed) step.0 tale e).clients (tale_step (setup_of fixed) step.0 tale e).clients
      (step_like (setup_of fixed) step.0 tale e (numbered_at fixed before))
      (subst (AreKept (λ l. written_of l (before ++ e ∷ [])) tale.clients) (sym (told_clients (setup_of fixed) step.0 tale e)) (kept_by step.0 before e fits tale)))

  -- Along a log.

  abbrev AreFronted : Log → Terms → Type 0
  AreFronted before terms = Each (λ (c : Client). IsFront (written_of c.link before) (due_in terms (world_at fixed before).tale c)) (world_at fixed before).tale.clients

  front_step : (before later : Log) (e : Entry) → LawfulAfter Fits [] before → Fits before e → IsOurs fixed before e
      → GoesOn (final_terms fixed (before ++ e ∷ later)) (world_at fixed before).tale (world_at fixed (before ++ e ∷ [])).tale
      → AreFronted before (final_terms fixed (before ++ e ∷ later)) → AreFronted (before ++ e ∷ []) (final_terms fixed (before ++ e ∷ later))
  front_step before later e fits now ours on fronts =
      go_on (final_terms fixed (before ++ e ∷ later)) (world_at fixed before).tale (world_at fixed (before ++ e ∷ [])).tale (λ l. written_of l (before ++ e ∷ []))
      (world_at fixed before).tale.clients (world_at fixed (before ++ e ∷ [])).tale.clients (kept_step before e now) on (still before later e fits now ours fronts)

  goes_at : (before later : Log) (e : Entry) → GoesOnSo (final_terms fixed (before ++ e ∷ later)) before e
      → GoesOn (final_terms fixed (before ++ e ∷ later)) (world_at fixed before).tale (world_at fixed (before ++ e ∷ [])).tale
  goes_at before later e on =
      let whole : before ++ e ∷ later ≡ (before ++ e ∷ []) ++ later = sym (append_assoc before (e ∷ []) later) in
      let next : tale_at (final_terms fixed (before ++ e ∷ later)) (before ++ e ∷ []) ≡ (world_at fixed (before ++ e ∷ [])).tale =
      subst (λ l. tale_at (final_terms fixed l) (before ++ e ∷ []) ≡ (world_at fixed (before ++ e ∷ [])).tale) (sym whole) (tale_then fixed (before ++ e ∷ []) later) in
      subst (λ t. GoesOn (final_terms fixed (before ++ e ∷ later)) (world_at fixed before).tale t) next
      (subst (λ t. GoesOn (final_terms fixed (before ++ e ∷ later)) t (tale_at (final_terms fixed (before ++ e ∷ later)) (before ++ e ∷ []))) (tale_then fixed before (e ∷ later)) on)

  fronts_from : (before later rest : Log) → LawfulAfter Fits [] before → LawfulAfter Fits before later → LawfulAfter (IsOurs fixed) before later
      → LawfulAfter (GoesOnSo (final_terms fixed ((before ++ later) ++ rest))) before later
      → AreFronted before (final_terms fixed ((before ++ later) ++ rest)) → AreFronted (before ++ later) (final_terms fixed ((before ++ later) ++ rest))
  fronts_from before [] rest so_far fits ours on fronts =
      subst (λ l. AreFronted l (final_terms fixed ((before ++ []) ++ rest))) (sym (append-nil before)) fronts
  fronts_from before (e ∷ later) rest so_far fits ours on fronts =
      let whole : (before ++ e ∷ later) ++ rest ≡ ((before ++ e ∷ []) ++ later) ++ rest = ap (λ (l : Log). l ++ rest) (sym (append_assoc before (e ∷ []) later)) in
      let flat : (before ++ e ∷ later) ++ rest ≡ before ++ e ∷ (later ++ rest) = append_assoc before (e ∷ later) rest in
      let one : AreFronted (before ++ e ∷ []) (final_terms fixed ((before ++ e ∷ later) ++ rest)) =
      subst (λ l. AreFronted (before ++ e ∷ []) (final_terms fixed l)) (sym flat)
      (front_step before (later ++ rest) e so_far fits.0 ours.0 (goes_at before (later ++ rest) e (subst (λ l. GoesOnSo (final_terms fixed l) before e) flat on.0))
      (subst (λ l. AreFronted before (final_terms fixed l)) flat fronts)) in
      subst (λ l. AreFronted l (final_terms fixed ((before ++ e ∷ later) ++ rest))) (append_assoc before (e ∷ []) later)
      (subst (λ l. AreFronted ((before ++ e ∷ []) ++ later) (final_terms fixed l)) (sym whole)
      (fronts_from (before ++ e ∷ []) later rest (lawful-more Fits before e so_far fits.0) fits.1 ours.1
      (subst (λ l. LawfulAfter (GoesOnSo (final_terms fixed l)) (before ++ e ∷ []) later) whole on.1)
      (subst (λ l. AreFronted (before ++ e ∷ []) (final_terms fixed l)) whole one)))

  due_then_so : (before later : Log) → AreFronted before (final_terms fixed (before ++ later)) → DueSo (final_terms fixed (before ++ later)) before
  due_then_so before later fronts =
      subst (λ (t : Tale). All (λ (c : Client). IsFront (written_of c.link before) (due_in (final_terms fixed (before ++ later)) t c)) t.clients) (sym (tale_then fixed before later))
      (each-all (λ (c : Client). IsFront (written_of c.link before) (due_in (final_terms fixed (before ++ later)) (world_at fixed before).tale c)) (world_at fixed before).tale.clients fronts)

  lawful_front : (Rule : Log → Entry → Type 0) (before one other : Log) → LawfulAfter Rule before (one ++ other) → LawfulAfter Rule before one
  lawful_front Rule before [] other all = tt
  lawful_front Rule before (e ∷ one) other all = (all.0, lawful_front Rule (before ++ e ∷ []) one other all.1)

  due_there : (one other log : Log) → one ++ other ≡ log → LawfulAfter (IsOurs fixed) [] log → LawfulAfter Fits [] log
      → LawfulAfter (GoesOnSo (final_terms fixed log)) [] log → DueSo (final_terms fixed log) one
  due_there one other log is ours fits on =
      let ours_one : LawfulAfter (IsOurs fixed) [] one = lawful_front (IsOurs fixed) [] one other (subst (LawfulAfter (IsOurs fixed) []) (sym is) ours) in
      let fits_one : LawfulAfter Fits [] one = lawful_front Fits [] one other (subst (LawfulAfter Fits []) (sym is) fits) in
      let on_one : LawfulAfter (GoesOnSo (final_terms fixed (one ++ other))) [] one =
      lawful_front (GoesOnSo (final_terms fixed (one ++ other))) [] one other (subst (λ l. LawfulAfter (GoesOnSo (final_terms fixed l)) [] l) (sym is) on) in
      subst (λ l. DueSo (final_terms fixed l) one) is (due_then_so one other (fronts_from [] one other tt fits_one ours_one on_one tt))

  pub due_kept : (log : Log) → LawfulAfter (IsOurs fixed) [] log → LawfulAfter Fits [] log → LawfulAfter (GoesOnSo (final_terms fixed log)) [] log
      → AtEachMoment (DueSo (final_terms fixed log)) log
  due_kept log ours fits on n = due_there (take n log) (drop n log) log (take-append-drop n log) ours fits on
