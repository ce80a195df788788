-- Clients stay, and what was read of them is the beginning of what is: so who says in a login that is whole who it is says so later.
use Rattle.std.specs.Prelude.{◌≡◌, ◌+◌, All, ℕ, zero, suc, drop, length, map, take, List, [], ◌∷◌, ◌++◌}
use Rattle.std.proofs.Common.{refl, sym, ap, ◌∙◌, subst, append_assoc, append-nil, arith, take-append-drop}
use Rattle.client_session.specs.Accounts.{account_of}
use Rattle.client_session.specs.Answers.{account, account_in, opening_of}
use Rattle.client_side.specs.Laws.{Grows, opening-grows}
use Rattle.client_side.specs.Login.{Fails, Opening, Says, Waits, opening}
use Rattle.mx_wire.specs.Log.{Log}
use Rattle.mx_wire.specs.Moments.{AtEachMoment}
use Rattle.mx_wire.specs.declared.entry.Entry.{Entry}
use Rattle.mx_wire.specs.declared.entry.Entry.TheVariants as entry
use Rattle.private_model.specs.Story.{is_link_id}
use Rattle.private_model.specs.View.{Setup}
use Rattle.log_story.specs.Owed.{talk_of}
use Rattle.log_story.specs.Plan.{Plan}
use Rattle.log_story.specs.Tale.{Client, Tale, client_gets, client_hears, is_to_server, new_client}
use Rattle.log_story.specs.Telling.{tale_step, told}
use Rattle.tale_world.specs.Decided.{plan_of}
use Rattle.tale_world.specs.Deciding.{World}
use Rattle.tale_world.proofs.Agreeing.{agrees-itself}
use Rattle.tale_world.proofs.Following.{stepped}
use Rattle.router_promises.specs.Terms.{AreWhoTheySay, IsWhoItSays, Terms, plan_in, tale_at}
use Rattle.shared_router.specs.Fixed.{Fixed, setup_of}
use Rattle.shared_router.specs.More.{More}
use Rattle.shared_router.specs.Shared.{final_terms, shared, world_at}
use Rattle.shared_router.proofs.Dues.{either}
use Rattle.shared_router.proofs.Numbered.{AreNumbered}
use Rattle.shared_router.proofs.Parting.{even_at, next, tale_then, world_more}
use Rattle.shared_router.proofs.Users.{all_of}
use Rattle.shared_router.proofs.Seated.{AllOf, AreLike, clients_by, numbered_step, step_like, told_clients}
use Rattle.client_session.specs.Setups.{users_at}

pub record IsGrown (x y : Client) : Type 0 where
  pub number : y.number ≡ x.number
  pub port : y.port ≡ x.port
  pub salt : y.salt ≡ x.salt
  pub more : List ℕ
  pub read : y.read ≡ x.read ++ more

-- each is there later, and others may be
abbrev pub AreGrown : List Client → List Client → Type 0
AreGrown [] ys = Unit {0}
AreGrown (x ∷ xs) [] = ⊥
AreGrown (x ∷ xs) (y ∷ ys) = IsGrown x y × AreGrown xs ys

grown_itself : (xs : List Client) → AreGrown xs xs
grown_itself [] = tt
grown_itself (x ∷ xs) = (record { number = refl; port = refl; salt = refl; more = []; read = sym (append-nil x.read) }, grown_itself xs)

grown_on : (xs ys zs : List Client) → AreGrown xs ys → AreGrown ys zs → AreGrown xs zs
grown_on [] ys zs one two = tt
grown_on (x ∷ xs) [] zs one two = absurd one
grown_on (x ∷ xs) (y ∷ ys) [] one two = absurd two
grown_on (x ∷ xs) (y ∷ ys) (z ∷ zs) one two = (
  record {
    number = two.0.number ∙ one.0.number;
    port = two.0.port ∙ one.0.port;
    salt = two.0.salt ∙ one.0.salt;
    more = one.0.more ++ two.0.more;
    read = two.0.read ∙ ap (λ r. r ++ two.0.more) one.0.read ∙ append_assoc x.read one.0.more two.0.more;
  },
  grown_on xs ys zs one.1 two.1,
)

grown_like : (xs ys : List Client) → AreLike xs ys → AreGrown xs ys
grown_like [] ys like = tt
grown_like (x ∷ xs) [] like = absurd like
grown_like (x ∷ xs) (y ∷ ys) like =
    (record { number = like.0.number; port = like.0.port; salt = like.0.salt; more = []; read = like.0.read ∙ sym (append-nil x.read) }, grown_like xs ys like.1)

grown_comes : (xs : List Client) (one : Client) → AreGrown xs (xs ++ one ∷ [])
grown_comes [] one = tt
grown_comes (x ∷ xs) one = (record { number = refl; port = refl; salt = refl; more = []; read = sym (append-nil x.read) }, grown_comes xs one)

grown_map : (f : Client → Client) → ((c : Client) → IsGrown c (f c)) → (xs : List Client) → AreGrown xs (map f xs)
grown_map f each [] = tt
grown_map f each (x ∷ xs) = (each x, grown_map f each xs)

module _ (setup : Setup) (plan : Plan) where
  grown_by : (tale : Tale) (e : Entry) → AreGrown tale.clients (clients_by setup plan tale e)
  grown_by tale (entry.Accepted port link salt) = grown_comes tale.clients (new_client (length tale.clients + 1) port link salt)
  grown_by tale (entry.Got link bytes) =
      either (AreGrown tale.clients) (is_to_server tale link) tale.clients (map (client_hears link bytes) tale.clients) (grown_itself tale.clients)
      (grown_map (client_hears link bytes)
      (λ c. either (IsGrown c) (is_link_id c.link link) (record c { read = c.read ++ bytes }) c (record { number = refl; port = refl; salt = refl; more = bytes; read = refl })
      (record { number = refl; port = refl; salt = refl; more = []; read = sym (append-nil c.read) })) tale.clients)
  grown_by tale (entry.Wrote link tag bytes) =
      either (AreGrown tale.clients) (is_to_server tale link) tale.clients (map (client_gets link (length bytes)) tale.clients) (grown_itself tale.clients)
      (grown_map (client_gets link (length bytes))
      (λ c. either (IsGrown c) (is_link_id c.link link) (record c { written = c.written + length bytes }) c
      (record { number = refl; port = refl; salt = refl; more = []; read = sym (append-nil c.read) })
      (record { number = refl; port = refl; salt = refl; more = []; read = sym (append-nil c.read) })) tale.clients)
  grown_by tale _ = grown_itself tale.clients

  grown_step : (tale : Tale) (e : Entry) → AreNumbered 1 tale.clients → AreGrown tale.clients (tale_step setup plan tale e).clients
  grown_step tale e are =
      grown_on tale.clients (told setup plan tale e).clients (tale_step setup plan tale e).clients
      (subst (AreGrown tale.clients) (sym (told_clients setup plan tale e)) (grown_by tale e))
      (grown_like (told setup plan tale e).clients (tale_step setup plan tale e).clients (step_like setup plan tale e are))

-- Along a log.

module _ (fixed : Fixed) where
  pub tale_so : (log : Log) (e : Entry) → (plan : Plan) × ((world_at fixed (log ++ e ∷ [])).tale ≡ tale_step (setup_of fixed) plan (world_at fixed log).tale e)
  tale_so log e =
      let w : World More = world_at fixed log in
      let v : World More = next fixed w e in (
        plan_of v.decided,
        ap (λ (x : World More). x.tale) (world_more fixed log (e ∷ []))
            ∙ (stepped (setup_of fixed) (shared fixed) w e (plan_of v.decided) (even_at fixed log) (agrees-itself v.decided v.tale.moment)).same,
      )

  numbered_from : (before later : Log) → AreNumbered 1 (world_at fixed before).tale.clients → AreNumbered 1 (world_at fixed (before ++ later)).tale.clients
  numbered_from before [] are = subst (λ (l : Log). AreNumbered 1 (world_at fixed l).tale.clients) (sym (append-nil before)) are
  numbered_from before (e ∷ later) are =
      let step = tale_so before e in
      subst (λ (l : Log). AreNumbered 1 (world_at fixed l).tale.clients) (append_assoc before (e ∷ []) later)
      (numbered_from (before ++ e ∷ []) later (subst (λ (t : Tale). AreNumbered 1 t.clients) (sym step.1) (numbered_step (setup_of fixed) step.0 (world_at fixed before).tale e are)))

  pub numbered_at : (log : Log) → AreNumbered 1 (world_at fixed log).tale.clients
  numbered_at log = numbered_from [] log tt

  pub grown_from : (before later : Log) → AreGrown (world_at fixed before).tale.clients (world_at fixed (before ++ later)).tale.clients
  grown_from before [] =
      subst (λ (l : Log). AreGrown (world_at fixed before).tale.clients (world_at fixed l).tale.clients) (sym (append-nil before)) (grown_itself (world_at fixed before).tale.clients)
  grown_from before (e ∷ later) =
      let step = tale_so before e in
      let one : AreGrown (world_at fixed before).tale.clients (world_at fixed (before ++ e ∷ [])).tale.clients =
      subst (λ (t : Tale). AreGrown (world_at fixed before).tale.clients t.clients) (sym step.1) (grown_step (setup_of fixed) step.0 (world_at fixed before).tale e (numbered_at before)) in
      subst (λ (l : Log). AreGrown (world_at fixed before).tale.clients (world_at fixed l).tale.clients) (append_assoc before (e ∷ []) later)
      (grown_on (world_at fixed before).tale.clients (world_at fixed (before ++ e ∷ [])).tale.clients (world_at fixed ((before ++ e ∷ []) ++ later)).tale.clients
      one (grown_from (before ++ e ∷ []) later))

-- Who says so later said so.

abbrev pub IsWho : Terms → Client → Type 0
IsWho t client = IsWhoItSays t client (opening_of (talk_of (plan_in t) client))

module _ (t : Terms) (x y : Client) (grown : IsGrown x y) where
  opening_later : (o : Opening) → opening_of (talk_of (plan_in t) x) ≡ o → Grows o grown.more (opening_of (talk_of (plan_in t) y))
  opening_later o is =
      subst (λ r. Grows o grown.more (opening (plan_in t).service.limit r)) (sym grown.read)
      (subst (λ b. Grows b grown.more (opening (plan_in t).service.limit (x.read ++ grown.more))) is (opening-grows (plan_in t).service.limit x.read grown.more))

  earlier : IsWho t y → (o : Opening) → opening_of (talk_of (plan_in t) x) ≡ o → IsWhoItSays t x o
  earlier who (Waits switched) is = tt
  earlier who (Fails switched fault id) is = tt
  earlier who (Says switched response id rest) is = λ login found.
      let later : opening_of (talk_of (plan_in t) y) ≡ Says switched response id (rest ++ grown.more) = opening_later (Says switched response id rest) is in
      let says : IsWhoItSays t y (Says switched response id (rest ++ grown.more)) = subst (IsWhoItSays t y) later who in
      let same : account (talk_of (plan_in t) y) ≡ account (talk_of (plan_in t) x) =
      ap (λ o. account_in (talk_of (plan_in t) y) o) later
      ∙ (λ i. account_of (users_at (plan_in t).service (grown.port i)) (grown.salt i) response)
      ∙ sym (ap (λ o. account_in (talk_of (plan_in t) x) o) is) in
      let both = says login (same ∙ found) in
      (ap (λ n. t.decided.accounts n) (sym grown.number) ∙ both.0, ap (λ n. t.decided.places n) (sym grown.number) ∙ both.1)

  pub who_earlier : IsWho t y → IsWho t x
  who_earlier who = earlier who (opening_of (talk_of (plan_in t) x)) refl

who_all : (t : Terms) (xs ys : List Client) → AreGrown xs ys → AllOf (IsWho t) ys → AllOf (IsWho t) xs
who_all t [] ys grown who = tt
who_all t (x ∷ xs) [] grown who = absurd grown
who_all t (x ∷ xs) (y ∷ ys) grown who = (who_earlier t x y grown.0 who.0, who_all t xs ys grown.1 who.1)

pub all_from : (Q : Client → Type 0) (xs : List Client) → AllOf Q xs → All Q xs
all_from Q [] all k d within = absurd (omega (arith, within))
all_from Q (x ∷ xs) all zero d within = all.0
all_from Q (x ∷ xs) all (suc k) d within = all_from Q xs all.1 k d (omega (arith, within))

module _ (fixed : Fixed) (log : Log) where
  abbrev last : Terms
  last = final_terms fixed log

  who_then : (before later : Log) → before ++ later ≡ log → AreWhoTheySay last log → AreWhoTheySay last before
  who_then before later is who =
      let tale : tale_at last before ≡ (world_at fixed before).tale =
      subst (λ l. tale_at (final_terms fixed l) before ≡ (world_at fixed before).tale) is (tale_then fixed before later) in
      let whole : tale_at last log ≡ (world_at fixed log).tale =
      subst (λ l. tale_at (final_terms fixed l) log ≡ (world_at fixed log).tale) (append-nil log) (tale_then fixed log []) in
      let ends : AllOf (IsWho last) (world_at fixed (before ++ later)).tale.clients =
      subst (λ (l : Log). AllOf (IsWho last) (world_at fixed l).tale.clients) (sym is)
      (all_of (IsWho last) (world_at fixed log).tale.clients (subst (λ (x : Tale). All (IsWho last) x.clients) whole who)) in
      subst (λ (x : Tale). All (IsWho last) x.clients) (sym tale)
      (all_from (IsWho last) (world_at fixed before).tale.clients
      (who_all last (world_at fixed before).tale.clients (world_at fixed (before ++ later)).tale.clients (grown_from fixed before later) ends))

  pub who_kept : AreWhoTheySay last log → AtEachMoment (AreWhoTheySay last) log
  who_kept who n = who_then (take n log) (drop n log) (take-append-drop n log) who
