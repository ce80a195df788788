-- Behind an entry each client was read, and has taken up, as much or more; and no more than its messages.
use Rattle.std.specs.Prelude.{◌≡◌, ◌+◌, ◌≤◌, ◌<◌, ℕ, zero, suc, Bool, true, false, ◌&&◌, ◌||◌, not, fold, length, map, if◌then◌else◌, slice_get, List, [], ◌∷◌, ◌++◌, Option, Some, None}
use Rattle.std.specs.Option.{option_map_or}
use Rattle.std.proofs.Common.{refl, sym, ap, ◌∙◌, subst, append-nil, arith, inl, inr, length-append}
use Rattle.std.proofs.lemmas.Option.{slice_get_within}
use Rattle.mx_wire.specs.Log.{Log}
use Rattle.mx_wire.specs.Moments.{LawfulAfter}
use Rattle.mx_wire.specs.declared.entry.Entry.{Entry}
use Rattle.mx_wire.specs.declared.entry.Entry.TheVariants as entry
use Rattle.packet_frame.specs.Packets.{Framed}
use Rattle.private_model.proofs.Maps.{client_of}
use Rattle.private_model.specs.Names.{ClientNo}
use Rattle.private_model.specs.Story.{is_client, is_link_id}
use Rattle.private_model.specs.View.{Setup, View}
use Rattle.log_story.specs.Clients.{client_goes_on, is_event_of, is_up, next_taken, taken_by, taken_up}
use Rattle.log_story.specs.Honest.{IsFront}
use Rattle.log_story.specs.Owed.{due_until, messages, name_of, talk_of}
use Rattle.log_story.specs.Plan.{Plan, gives_up, is_before}
use Rattle.log_story.specs.Tale.{Client, Tale, client_gets, client_hears, first_tale, is_to_server, new_client, view_of, with_client}
use Rattle.log_story.specs.Telling.{tale_step, told}
use Rattle.router_promises.specs.Terms.{Terms, plan_in, setup_in, tale_at}
use Rattle.shared_router.specs.Onward.{AnswersStay, AnswersStaySo, GoOn, UntilGoesOnSo, until_in}
use Rattle.shared_router.proofs.Adding.{messages_on, until_on}
use Rattle.shared_router.proofs.Looked.{Each}
use Rattle.shared_router.proofs.Numbered.{AreNumbered, IsIn}
use Rattle.shared_router.proofs.Parting.{fold_more}
use Rattle.shared_router.proofs.Seated.{AllOf, IsLike, clients_by, freed, freed_clients, numbered_step, numbered_told, step_clients, taken_clients, told_clients}
use Rattle.shared_router.proofs.Users as users
use Rattle.mx_base.specs.declared.names.Port.{Port}

either : {A : Type 0} (P : A → Type 0) (b : Bool) (x y : A) → P x → P y → P (if b then x else y)
either P true x y first second = first
either P false x y first second = second

module _ (setup : Setup) (plan : Plan) where
  abbrev pub IsWithin : Client → Type 0
  IsWithin client = client.taken ≤ length (messages plan client)

  -- as messages are taken up
  pub record IsOn (x y : Client) : Type 0 where
    pub like : IsLike x y
    pub least : x.taken ≤ y.taken
    pub within : IsWithin y

  abbrev AreOn : List Client → List Client → Type 0
  AreOn [] [] = Unit {0}
  AreOn [] (y ∷ ys) = ⊥
  AreOn (x ∷ xs) [] = ⊥
  AreOn (x ∷ xs) (y ∷ ys) = IsOn x y × AreOn xs ys

  on_itself : (x : Client) → IsWithin x → IsOn x x
  on_itself x within = record { like = record { number = refl; link = refl; port = refl; salt = refl; read = refl }; least = omega arith; within = within }

  are_themselves : (xs : List Client) → Each IsWithin xs → AreOn xs xs
  are_themselves [] all = tt
  are_themselves (x ∷ xs) all = (on_itself x all.0, are_themselves xs all.1)

  -- it is further than each of its number
  abbrev IsOf : List Client → Client → Type 0
  IsOf [] client = Unit {0}
  IsOf (x ∷ xs) client = (is_client x.number client.number ≡ true → IsOn x client) × IsOf xs client

  of_next : (xs : List Client) (client : Client) → suc client.taken ≤ length (messages plan client) → IsOf xs client → IsOf xs (record client { taken = suc client.taken })
  of_next [] client within of = tt
  of_next (x ∷ xs) client within of = (
    λ is. let on = of.0 is in record {
      like = record { number = on.like.number; link = on.like.link; port = on.like.port; salt = on.like.salt; read = on.like.read };
      least = (let least = on.least in omega (arith, least));
      within = within;
    },
    of_next xs client within of.1,
  )

  of_later : (from : ℕ) (xs : List Client) (y : Client) → AreNumbered from xs → y.number.0 < from → IsOf xs y
  of_later from [] y are less = tt
  of_later from (x ∷ xs) y are less = (
    λ is. absurd (let same : x.number.0 ≡ y.number.0 = ap (λ (n : ClientNo). n.0) (client_of x.number y.number is) in let first : x.number.0 ≡ from = are.0 in omega arith),
    of_later (suc from) xs y are.1 (omega arith),
  )

  number_from : (from : ℕ) (xs : List Client) (y : Client) → AreNumbered from xs → IsIn y xs → from ≤ y.number.0
  number_from from [] y are there = absurd there
  number_from from (x ∷ xs) y are (inl same) = let is : y.number.0 ≡ from = ap (λ (c : Client). c.number.0) same ∙ are.0 in omega arith
  number_from from (x ∷ xs) y are (inr there) = let later : suc from ≤ y.number.0 = number_from (suc from) xs y are.1 there in omega arith

  of_numbered : (from : ℕ) (xs : List Client) (y : Client) → AreNumbered from xs → IsIn y xs → Each IsWithin xs → IsOf xs y
  of_numbered from [] y are there all = absurd there
  of_numbered from (x ∷ xs) y are (inl same) all = (
    λ is. subst (λ c. IsOn x c) (sym same) (on_itself x all.0),
    of_later (suc from) xs y are.1 (let is : y.number.0 ≡ from = ap (λ (c : Client). c.number.0) same ∙ are.0 in omega arith),
  )
  of_numbered from (x ∷ xs) y are (inr there) all = (
    λ is. absurd (let same : x.number.0 ≡ y.number.0 = ap (λ (n : ClientNo). n.0) (client_of x.number y.number is) in let first : x.number.0 ≡ from = are.0 in
        let later : suc from ≤ y.number.0 = number_from (suc from) xs y are.1 there in omega arith),
    of_numbered (suc from) xs y are.1 there all.1,
  )

  each_in : (Q : Client → Type 0) (xs : List Client) → ((y : Client) → IsIn y xs → Q y) → Each Q xs
  each_in Q [] each = tt
  each_in Q (x ∷ xs) each = (each x (inl refl), each_in Q xs (λ y there. each y (inr there)))

  with_on : (xs ys : List Client) (client : Client) → AreOn xs ys → IsOf xs client
      → AreOn xs (map (λ (other : Client). if is_client other.number client.number then client else other) ys)
  with_on [] [] client on of = tt
  with_on [] (y ∷ ys) client on of = absurd on
  with_on (x ∷ xs) [] client on of = absurd on
  with_on (x ∷ xs) (y ∷ ys) client on of = (by_test (is_client y.number client.number) refl, with_on xs ys client on.1 of.1) where
    by_test : (b : Bool) → is_client y.number client.number ≡ b → IsOn x (if b then client else y)
    by_test true is = of.0 (ap (λ n. is_client n client.number) (sym on.0.like.number) ∙ is)
    by_test false is = on.0

  module _ (whole : List Client) where
    abbrev Has : Tale → Type 0
    Has tale = AreOn whole tale.clients

    up_on : (most : ℕ) (client : Client) (tale : Tale) → IsOf whole client → Has tale → Has (taken_up most setup plan client tale)
    up_on zero client tale of has = has
    up_on (suc most) client tale of has = by_found (slice_get (messages plan client) client.taken) refl (up_on most onward) where
      onward : Client
      onward = record client { taken = suc client.taken }

      goes : Option Tale → Tale
      goes found = option_map_or (λ other. taken_up most setup plan onward (with_client onward other)) found tale

      by_found : (found : Option Framed) → slice_get (messages plan client) client.taken ≡ found → ((other : Tale) → IsOf whole onward → Has other → Has (taken_up most setup plan onward other))
          → Has (goes (next_taken setup plan client found tale))
      by_found None is others = has
      by_found (Some message) is others = by_test (is_up setup plan client tale) where
        other : Tale
        other = taken_by setup plan client (suc client.taken) message (plan.routes (name_of client (suc client.taken))) tale

        still : IsOf whole onward
        still = of_next whole client (slice_get_within (messages plan client) client.taken message is) of

        by_test : (b : Bool) → Has (goes (if b then Some other else None))
        by_test true =
            others (with_client onward other) still
            (with_on whole other.clients onward
            (subst (AreOn whole) (sym (taken_clients setup plan client (suc client.taken) message (plan.routes (name_of client (suc client.taken))) tale)) has) still)
        by_test false = has

    going_on : (view : View) (e : Entry) (xs : List Client) (tale : Tale) → Each (IsOf whole) xs → Has tale → Has (fold (client_goes_on setup plan view e) tale xs)
    going_on view e [] tale all has = has
    going_on view e (x ∷ xs) tale all has =
        going_on view e xs (client_goes_on setup plan view e tale x) all.1
        (either Has ((is_event_of view x e || gives_up plan tale.moment (name_of x x.taken)) && not (is_before tale.moment (plan.ends x.number)))
        (taken_up (length (messages plan x)) setup plan x tale) tale (up_on (length (messages plan x)) x tale all.0 has) has)

  step_on : (tale : Tale) (e : Entry) → AreNumbered 1 tale.clients → Each IsWithin (told setup plan tale e).clients
      → AreOn (told setup plan tale e).clients (tale_step setup plan tale e).clients
  step_on tale e are all =
      let xs : List Client = (told setup plan tale e).clients in
      let of_all : Each (IsOf xs) xs = each_in (IsOf xs) xs (λ y there. of_numbered 1 xs y (numbered_told setup plan tale e are) there all) in
      subst (AreOn xs) (sym (step_clients setup plan tale e))
      (going_on xs (view_of setup tale) e (freed setup plan tale e).clients (freed setup plan tale e) (subst (Each (IsOf xs)) (sym (freed_clients setup plan tale e)) of_all)
      (subst (AreOn xs) (sym (freed_clients setup plan tale e)) (are_themselves xs all)))

  -- Behind an entry.

  pub record IsFurther (x y : Client) : Type 0 where
    pub number : y.number ≡ x.number
    pub port : y.port ≡ x.port
    pub salt : y.salt ≡ x.salt
    pub more : List ℕ
    pub read : y.read ≡ x.read ++ more
    pub least : x.taken ≤ y.taken
    pub within : IsWithin y

  abbrev pub AreFurther : List Client → List Client → Type 0
  AreFurther [] ys = Each IsWithin ys
  AreFurther (x ∷ xs) [] = ⊥
  AreFurther (x ∷ xs) (y ∷ ys) = IsFurther x y × AreFurther xs ys

  within_all : (xs ys : List Client) → AreFurther xs ys → Each IsWithin ys
  within_all [] ys all = all
  within_all (x ∷ xs) [] all = absurd all
  within_all (x ∷ xs) (y ∷ ys) all = (all.0.within, within_all xs ys all.1)

  within_on : (ys zs : List Client) → AreOn ys zs → Each IsWithin zs
  within_on [] [] on = tt
  within_on [] (z ∷ zs) on = absurd on
  within_on (y ∷ ys) [] on = absurd on
  within_on (y ∷ ys) (z ∷ zs) on = (on.0.within, within_on ys zs on.1)

  further_on : (xs ys zs : List Client) → AreFurther xs ys → AreOn ys zs → AreFurther xs zs
  further_on [] ys zs one on = within_on ys zs on
  further_on (x ∷ xs) [] zs one on = absurd one
  further_on (x ∷ xs) (y ∷ ys) [] one on = absurd on
  further_on (x ∷ xs) (y ∷ ys) (z ∷ zs) one on = (
    record {
      number = on.0.like.number ∙ one.0.number;
      port = on.0.like.port ∙ one.0.port;
      salt = on.0.like.salt ∙ one.0.salt;
      more = one.0.more;
      read = on.0.like.read ∙ one.0.read;
      least = (let first = one.0.least in let second = on.0.least in omega (arith, first, second));
      within = on.0.within;
    },
    further_on xs ys zs one.1 on.1,
  )

  stays : (x : Client) → IsWithin x → IsFurther x x
  stays x within = record { number = refl; port = refl; salt = refl; more = []; read = sym (append-nil x.read); least = omega arith; within = within }

  all_stay : (xs : List Client) → Each IsWithin xs → AreFurther xs xs
  all_stay [] all = tt
  all_stay (x ∷ xs) all = (stays x all.0, all_stay xs all.1)

  one_comes : (xs : List Client) (one : Client) → IsWithin one → Each IsWithin xs → AreFurther xs (xs ++ one ∷ [])
  one_comes [] one is all = (is, tt)
  one_comes (x ∷ xs) one is all = (stays x all.0, one_comes xs one is all.1)

  all_move : (f : Client → Client) → ((c : Client) → IsWithin c → IsFurther c (f c)) → (xs : List Client) → Each IsWithin xs → AreFurther xs (map f xs)
  all_move f each [] all = tt
  all_move f each (x ∷ xs) all = (each x all.0, all_move f each xs all.1)

  hears_within : (bytes : List ℕ) (c : Client) → IsWithin c → IsWithin (record c { read = c.read ++ bytes })
  hears_within bytes c within =
      let has = messages_on (talk_of plan c) bytes in
      let size : length (messages plan (record c { read = c.read ++ bytes })) ≡ length (messages plan c) + length has.others =
      ap (λ (ms : List Framed). length ms) has.messages ∙ length-append (messages plan c) has.others in
      omega (arith, size, within)

  further_by : (tale : Tale) (e : Entry) → Each IsWithin tale.clients → AreFurther tale.clients (clients_by setup plan tale e)
  further_by tale (entry.Accepted port link salt) all =
      one_comes tale.clients (new_client (length tale.clients + 1) port link salt) (omega arith) all
  further_by tale (entry.Got link bytes) all =
      either (AreFurther tale.clients) (is_to_server tale link) tale.clients (map (client_hears link bytes) tale.clients) (all_stay tale.clients all)
      (all_move (client_hears link bytes)
      (λ c within. either (IsFurther c) (is_link_id c.link link) (record c { read = c.read ++ bytes }) c
      (record { number = refl; port = refl; salt = refl; more = bytes; read = refl; least = omega arith; within = hears_within bytes c within }) (stays c within)) tale.clients all)
  further_by tale (entry.Wrote link tag bytes) all =
      either (AreFurther tale.clients) (is_to_server tale link) tale.clients (map (client_gets link (length bytes)) tale.clients) (all_stay tale.clients all)
      (all_move (client_gets link (length bytes))
      (λ c within. either (IsFurther c) (is_link_id c.link link) (record c { written = c.written + length bytes }) c
      (record { number = refl; port = refl; salt = refl; more = []; read = sym (append-nil c.read); least = omega arith; within = within }) (stays c within)) tale.clients all)
  further_by tale _ all = all_stay tale.clients all

  pub further_step : (tale : Tale) (e : Entry) → AreNumbered 1 tale.clients → Each IsWithin tale.clients → AreFurther tale.clients (tale_step setup plan tale e).clients
  further_step tale e are all =
      let here : AreFurther tale.clients (told setup plan tale e).clients = subst (AreFurther tale.clients) (sym (told_clients setup plan tale e)) (further_by tale e all) in
      further_on tale.clients (told setup plan tale e).clients (tale_step setup plan tale e).clients here
      (step_on tale e are (within_all tale.clients (told setup plan tale e).clients here))

  pub within_step : (tale : Tale) (e : Entry) → AreNumbered 1 tale.clients → Each IsWithin tale.clients → Each IsWithin (tale_step setup plan tale e).clients
  within_step tale e are all = within_all tale.clients (tale_step setup plan tale e).clients (further_step tale e are all)

-- So what it is due but for last words goes on.

module _ (terms : Terms) where
  abbrev setup_there : Setup
  setup_there = setup_in terms

  abbrev plan_there : Plan
  plan_there = plan_in terms

  module _ (old new : Tale) where
    abbrev due_by : (number : ClientNo) → Port → (salt read : List ℕ) → Client → List ℕ
    due_by number port salt read y = due_until (view_of setup_there new).replies plan_there new.moment (record y { number = number; port = port; salt = salt; read = read })

    until_there : (x y : Client) → IsFurther setup_there plan_there x y → IsWithin setup_there plan_there x → AnswersStay terms old new x
        → IsFront (until_in terms old x) (until_in terms new y)
    until_there x y on within stay =
        let same : until_in terms new y ≡ until_in terms new (record x { read = x.read ++ on.more; taken = y.taken; link = y.link; written = y.written }) =
        (λ i. due_by (on.number i) (on.port i) (on.salt i) (on.read i) y) in
        let z : Client = record x { link = y.link; written = y.written } in
        let size : length (messages plan_there y) ≡ length (messages plan_there (record z { read = x.read ++ on.more; taken = y.taken })) =
        (λ i. length (messages plan_there (record y { number = on.number i; port = on.port i; salt = on.salt i; read = on.read i }))) in
        subst (IsFront (until_in terms old x)) (sym same)
        (until_on plan_there old.moment new.moment (view_of setup_there old).replies (view_of setup_there new).replies z on.more y.taken on.least within
        (subst (λ n. y.taken ≤ n) size on.within) stay)

    until_all : (xs ys : List Client) → AreFurther setup_there plan_there xs ys → Each (IsWithin setup_there plan_there) xs → AllOf (AnswersStay terms old new) xs
        → GoOn (until_in terms old) (until_in terms new) xs ys
    until_all [] ys on within stay = tt
    until_all (x ∷ xs) [] on within stay = absurd on
    until_all (x ∷ xs) (y ∷ ys) on within stay = (until_there x y on.0 within.0 stay.0, until_all xs ys on.1 within.1 stay.1)

  pub tale_more : (log : Log) (e : Entry) → tale_at terms (log ++ e ∷ []) ≡ tale_step setup_there plan_there (tale_at terms log) e
  tale_more log e = fold_more (tale_step setup_there plan_there) log (e ∷ []) first_tale

  until_from : (before later : Log) → AreNumbered 1 (tale_at terms before).clients → Each (IsWithin setup_there plan_there) (tale_at terms before).clients
      → LawfulAfter (AnswersStaySo terms) before later → LawfulAfter (UntilGoesOnSo terms) before later
  until_from before [] are within stay = tt
  until_from before (e ∷ later) are within stay =
      let tale : Tale = tale_at terms before in
      let further = further_step setup_there plan_there tale e are within in
      let next : tale_at terms (before ++ e ∷ []) ≡ tale_step setup_there plan_there tale e = tale_more before e in (
        until_all tale (tale_at terms (before ++ e ∷ [])) tale.clients (tale_at terms (before ++ e ∷ [])).clients
            (subst (λ (t : Tale). AreFurther setup_there plan_there tale.clients t.clients) (sym next) further) within
            (users.all_of (AnswersStay terms tale (tale_at terms (before ++ e ∷ []))) tale.clients stay.0),
        until_from (before ++ e ∷ []) later (subst (λ (t : Tale). AreNumbered 1 t.clients) (sym next) (numbered_step setup_there plan_there tale e are))
            (subst (λ (t : Tale). Each (IsWithin setup_there plan_there) t.clients) (sym next) (within_step setup_there plan_there tale e are within)) stay.1,
      )

  pub until_along : (log : Log) → LawfulAfter (AnswersStaySo terms) [] log → LawfulAfter (UntilGoesOnSo terms) [] log
  until_along log stay = until_from [] log tt tt stay
