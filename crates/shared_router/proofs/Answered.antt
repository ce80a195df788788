-- Behind an entry each message before a client's last is answered, where those that were taken up before stay so; and who has ended took up
-- no more.
use Rattle.std.specs.Prelude.{◌≡◌, ◌+◌, ◌<◌, ◌≤◌, ℕ, zero, suc, Bool, true, false, ◌&&◌, ◌||◌, not, fold, is_some, length, map, nat_le, if◌then◌else◌, slice_get, List, [], ◌∷◌, ◌++◌, Option, Some, None}
use Rattle.std.specs.Option.{option_map_or}
use Rattle.std.proofs.Common.{refl, sym, ap, ◌∙◌, subst, arith}
use Rattle.std.proofs.lemmas.Bool.{and_parts, leb-false, leb-true}
use Rattle.mx_base.specs.declared.names.LinkId.{LinkId}
use Rattle.mx_wire.specs.declared.entry.Entry.{Entry}
use Rattle.mx_wire.specs.declared.entry.Entry.TheVariants as entry
use Rattle.packet_frame.specs.Packets.{Framed}
use Rattle.private_model.proofs.Maps.{client_of}
use Rattle.private_model.specs.Commands.{Reply}
use Rattle.private_model.specs.Names.{ClientNo, MessageName}
use Rattle.private_model.specs.Story.{Freed, Happening, Heard, Left, LoggedIn, Ran, Sent, Unprepared, is_client, is_link_id}
use Rattle.private_model.specs.View.{Setup, View}
use Rattle.log_story.proofs.Moving.{taken-moved}
use Rattle.log_story.specs.Clients.{client_goes_on, clients_are_ended, clients_go_on, ended_if_now, is_answered, is_event_of, is_up, next_taken, taken_by, taken_up}
use Rattle.log_story.specs.Owed.{messages, name_of}
use Rattle.log_story.specs.Plan.{Plan, gives_up, is_before, is_now, own_at}
use Rattle.log_story.specs.Servers.{freed_if_done, is_done, links_are_freed}
use Rattle.log_story.specs.Tale.{Client, Tale, client_gets, client_hears, is_to_server, link_in, new_client, tell, view_of, with_client}
use Rattle.log_story.specs.Telling.{tale_step, told}
use Rattle.tale_world.proofs.Looking.{next_moment}
use Rattle.run_laws.proofs.Going.{IsCalm, Keeps, ended_keeps, freed_keeps, going_keeps, ifs, taken_keeps}
use Rattle.shared_router.proofs.Looked.{Each, each-last, each-map}
use Rattle.shared_router.proofs.Seated.{clients_by, freed, freed_clients, step_clients, told_clients}

isnt : {A : Type 0} → false ≡ true → A
isnt is = absurd (cc)

-- Moments.

module _ (setup : Setup) (plan : Plan) where
  up_moment : (most : ℕ) (client : Client) (tale : Tale) → (taken_up most setup plan client tale).moment ≡ tale.moment
  up_moment zero client tale = refl
  up_moment (suc most) client tale = by_next (next_taken setup plan client found tale) refl (up_moment most onward) where
    found : Option Framed
    found = slice_get (messages plan client) client.taken

    onward : Client
    onward = record client { taken = suc client.taken }

    by_next : (o : Option Tale) → next_taken setup plan client found tale ≡ o → ((other : Tale) → (taken_up most setup plan onward other).moment ≡ other.moment)
        → (option_map_or (λ other. taken_up most setup plan onward (with_client onward other)) o tale).moment ≡ tale.moment
    by_next None is later = refl
    by_next (Some other) is later = later (with_client onward other) ∙ next_moment setup plan client found tale other is

  if_moment : (b : Bool) (x y : Tale) (n : ℕ) → x.moment ≡ n → y.moment ≡ n → (if b then x else y).moment ≡ n
  if_moment true x y n one other = one
  if_moment false x y n one other = other

  going_moment : (view : View) (e : Entry) (xs : List Client) (tale : Tale) → (fold (client_goes_on setup plan view e) tale xs).moment ≡ tale.moment
  going_moment view e [] tale = refl
  going_moment view e (x ∷ xs) tale =
      going_moment view e xs (client_goes_on setup plan view e tale x)
      ∙ if_moment ((is_event_of view x e || gives_up plan tale.moment (name_of x x.taken)) && not (is_before tale.moment (plan.ends x.number)))
      (taken_up (length (messages plan x)) setup plan x tale) tale tale.moment (up_moment (length (messages plan x)) x tale) refl

  ending_moment : (xs : List Client) (tale : Tale) → (fold (ended_if_now plan) tale xs).moment ≡ tale.moment
  ending_moment [] tale = refl
  ending_moment (x ∷ xs) tale =
      ending_moment xs (ended_if_now plan tale x) ∙ if_moment (is_now tale.moment (plan.ends x.number)) (tell (Left x.number) tale) tale tale.moment refl refl

  freeing_moment : (xs : List LinkId) (tale : Tale) → (fold (freed_if_done setup plan) tale xs).moment ≡ tale.moment
  freeing_moment [] tale = refl
  freeing_moment (x ∷ xs) tale =
      freeing_moment xs (freed_if_done setup plan tale x)
      ∙ if_moment (is_done plan tale.moment (view_of setup tale) (tale.wires x) (link_in setup tale x)) (tell (Freed x) tale) tale tale.moment refl refl

-- By what was replied, and answered by the router, at a moment.

module _ (setup : Setup) (plan : Plan) (replies : MessageName → Option Reply) (moment : ℕ) where
  abbrev pub is_said : ClientNo → (ordinal : ℕ) → Bool
  is_said n zero = true
  is_said n (suc i) = is_some (own_at plan moment (record { client = n; ordinal = suc i })) || is_some (replies (record { client = n; ordinal = suc i }))

  -- so it is of each message before the last
  abbrev pub AreSaid : ClientNo → (taken : ℕ) → Type 0
  AreSaid n taken = (i : ℕ) → suc i ≤ taken → is_said n i ≡ true

  abbrev pub Said : Client → Type 0
  Said client = AreSaid client.number client.taken

  -- this is so in a tale
  pub record IsThen (tale : Tale) : Type 0 where
    pub heard : (view_of setup tale).replies ≡ replies
    pub now : tale.moment ≡ moment

  pub said_then : (tale : Tale) → IsThen tale → (client : Client) (i : ℕ) → is_answered plan tale (view_of setup tale) client i ≡ is_said client.number i
  said_then tale so client zero = refl
  said_then tale so client (suc i) =
      ap (λ n. is_some (own_at plan n (name_of client (suc i))) || is_some ((view_of setup tale).replies (name_of client (suc i)))) so.now
      ∙ ap (λ (f : MessageName → Option Reply). is_some (own_at plan moment (name_of client (suc i))) || is_some (f (name_of client (suc i)))) so.heard

  abbrev Same : Tale → Type 0
  Same tale = (view_of setup tale).replies ≡ replies

  calm_same : (tale : Tale) (e : Happening) → IsCalm e → Same tale → Same (tell e tale)
  calm_same tale (LoggedIn link server account) calm same = absurd calm
  calm_same tale (Sent link question) calm same = absurd calm
  calm_same tale (Ran link) calm same = absurd calm
  calm_same tale (Heard link other) calm same = absurd calm
  calm_same tale (Unprepared link number) calm same = absurd calm
  calm_same tale _ calm same = same

  same_keeps : Keeps Same
  same_keeps = record { tells = calm_same; moves = λ tale client same. same; counts = λ tale same. same }

  -- The clients that there were, beside those behind the entry: who has ended took up no more; and what numbers others have.

  module _ (IsOther : ClientNo → Type 0) where
    pub record IsCounted (x y : Client) : Type 0 where
      pub number : y.number ≡ x.number
      pub still : is_before moment (plan.ends x.number) ≡ true → y.taken ≡ x.taken

    abbrev pub AreCounted : List Client → List Client → Type 0
    AreCounted [] ys = Each (λ (y : Client). IsOther y.number) ys
    AreCounted (x ∷ xs) [] = ⊥
    AreCounted (x ∷ xs) (y ∷ ys) = IsCounted x y × AreCounted xs ys

    record Is (whole : List Client) (tale : Tale) : Type 0 where
      pub so : IsThen tale
      pub counted : AreCounted whole tale.clients
      pub said : Each Said tale.clients

    -- a message is taken up, as the one before it is answered
    said_next : (client : Client) → Said client → is_said client.number client.taken ≡ true → AreSaid client.number (suc client.taken)
    said_next client said last i below = by_test (nat_le (suc i) client.taken) refl where
      by_test : (b : Bool) → nat_le (suc i) client.taken ≡ b → is_said client.number i ≡ true
      by_test true is = said i (leb-true (suc i) client.taken is)
      by_test false is =
          let more : client.taken < suc i = leb-false (suc i) client.taken is in
          let same : client.taken ≡ i = omega (arith, more, below) in
          subst (λ n. is_said client.number n ≡ true) same last

    with_counted : (xs ys : List Client) (client : Client) → is_before moment (plan.ends client.number) ≡ false → AreCounted xs ys
        → AreCounted xs (map (λ (other : Client). if is_client other.number client.number then client else other) ys)
    with_counted [] ys client going counted =
        each-map (λ (y : Client). IsOther y.number) (λ (y : Client). IsOther y.number) (λ (other : Client). if is_client other.number client.number then client else other) ys
        (λ y is. by_test y is (is_client y.number client.number) refl) counted
      where
        by_test : (y : Client) → IsOther y.number → (b : Bool) → is_client y.number client.number ≡ b → IsOther (if b then client else y).number
        by_test y is true same = subst IsOther (client_of y.number client.number same) is
        by_test y is false other = is
    with_counted (x ∷ xs) [] client going counted = absurd counted
    with_counted (x ∷ xs) (y ∷ ys) client going counted = (by_test (is_client y.number client.number) refl, with_counted xs ys client going counted.1) where
      by_test : (b : Bool) → is_client y.number client.number ≡ b → IsCounted x (if b then client else y)
      by_test true same =
          let it : client.number ≡ x.number = sym (client_of y.number client.number same) ∙ counted.0.number in
          record { number = it; still = λ ended. isnt (sym going ∙ ap (λ n. is_before moment (plan.ends n)) it ∙ ended) }
      by_test false other = counted.0

    up_is : (whole : List Client) (most : ℕ) (client : Client) (tale : Tale) → is_before moment (plan.ends client.number) ≡ false → Said client → Is whole tale
        → Is whole (taken_up most setup plan client tale)
    up_is whole zero client tale going said is = is
    up_is whole (suc most) client tale going said is = by_found (slice_get (messages plan client) client.taken) (up_is whole most onward) where
      onward : Client
      onward = record client { taken = suc client.taken }

      goes : Option Tale → Tale
      goes found = option_map_or (λ other. taken_up most setup plan onward (with_client onward other)) found tale

      by_found : (found : Option Framed)
          → ((other : Tale) → is_before moment (plan.ends client.number) ≡ false → Said onward → Is whole other → Is whole (taken_up most setup plan onward other))
          → Is whole (goes (next_taken setup plan client found tale))
      by_found None others = is
      by_found (Some message) others = by_test (is_up setup plan client tale) refl where
        other : Tale
        other = taken_by setup plan client (suc client.taken) message (plan.routes (name_of client (suc client.taken))) tale

        moved : other.moment ≡ tale.moment
        moved = (taken-moved setup plan client (suc client.taken) message (plan.routes (name_of client (suc client.taken))) tale).moment

        clients : other.clients ≡ tale.clients
        clients = (taken-moved setup plan client (suc client.taken) message (plan.routes (name_of client (suc client.taken))) tale).clients

        either : (b : Bool) (x y : Client) → Said x → Said y → Said (if b then x else y)
        either true x y one two = one
        either false x y one two = two

        by_test : (b : Bool) → is_up setup plan client tale ≡ b → Is whole (goes (if b then Some other else None))
        by_test true up =
            let last : is_said client.number client.taken ≡ true =
            sym (said_then tale is.so client client.taken) ∙ (and_parts (is_answered plan tale (view_of setup tale) client client.taken) _ up).0 in
            let more : Said onward = said_next client said last in
            others (with_client onward other) going more (record {
              so = record {
                heard = taken_keeps setup plan Same same_keeps client (suc client.taken) message (plan.routes (name_of client (suc client.taken))) tale is.so.heard;
                now = moved ∙ is.so.now;
              };
              counted = with_counted whole other.clients onward going (subst (AreCounted whole) (sym clients) is.counted);
              said = each-map Said Said (λ (one : Client). if is_client one.number client.number then onward else one) other.clients
                  (λ one there. either (is_client one.number client.number) onward one more there) (subst (Each Said) (sym clients) is.said);
            })
        by_test false up = is

    going_is : (whole : List Client) (view : View) (e : Entry) (xs : List Client) (tale : Tale) → Each Said xs → Is whole tale
        → Is whole (fold (client_goes_on setup plan view e) tale xs)
    going_is whole view e [] tale all is = is
    going_is whole view e (x ∷ xs) tale all is =
        going_is whole view e xs (client_goes_on setup plan view e tale x) all.1
        (by_test (is_event_of view x e || gives_up plan tale.moment (name_of x x.taken)) (is_before tale.moment (plan.ends x.number)) refl)
      where
        by_test : (called ended : Bool) → is_before tale.moment (plan.ends x.number) ≡ ended
            → Is whole (if called && not ended then taken_up (length (messages plan x)) setup plan x tale else tale)
        by_test true false going =
            up_is whole (length (messages plan x)) x tale (ap (λ n. is_before n (plan.ends x.number)) (sym is.so.now) ∙ going) all.0 is
        by_test true true ended = is
        by_test false ended at = is

    -- An entry is told.

    counted_itself : (xs : List Client) → AreCounted xs xs
    counted_itself [] = tt
    counted_itself (x ∷ xs) = (record { number = refl; still = λ ended. refl }, counted_itself xs)

    counted_comes : (xs : List Client) (one : Client) → IsOther one.number → AreCounted xs (xs ++ one ∷ [])
    counted_comes [] one other = (other, tt)
    counted_comes (x ∷ xs) one other = (record { number = refl; still = λ ended. refl }, counted_comes xs one other)

    counted_moves : (f : Client → Client) → ((c : Client) → IsCounted c (f c)) → (xs : List Client) → AreCounted xs (map f xs)
    counted_moves f each [] = tt
    counted_moves f each (x ∷ xs) = (each x, counted_moves f each xs)

    if_counted : (b : Bool) (c x y : Client) → IsCounted c x → IsCounted c y → IsCounted c (if b then x else y)
    if_counted true c x y one two = one
    if_counted false c x y one two = two

    abbrev pub Comes : Tale → Entry → Type 0
    Comes tale (entry.Accepted port link salt) = IsOther (record { 0 = length tale.clients + 1 })
    Comes tale _ = Unit {0}

    counted_by : (tale : Tale) (e : Entry) → Comes tale e → AreCounted tale.clients (clients_by setup plan tale e)
    counted_by tale (entry.Accepted port link salt) comes = counted_comes tale.clients (new_client (length tale.clients + 1) port link salt) comes
    counted_by tale (entry.Got link bytes) comes =
        ifs (AreCounted tale.clients) (is_to_server tale link) tale.clients (map (client_hears link bytes) tale.clients) (counted_itself tale.clients)
        (counted_moves (client_hears link bytes)
        (λ c. if_counted (is_link_id c.link link) c (record c { read = c.read ++ bytes }) c (record { number = refl; still = λ ended. refl }) (record { number = refl; still = λ ended. refl })) tale.clients)
    counted_by tale (entry.Wrote link tag bytes) comes =
        ifs (AreCounted tale.clients) (is_to_server tale link) tale.clients (map (client_gets link (length bytes)) tale.clients) (counted_itself tale.clients)
        (counted_moves (client_gets link (length bytes))
        (λ c. if_counted (is_link_id c.link link) c (record c { written = c.written + length bytes }) c (record { number = refl; still = λ ended. refl }) (record { number = refl; still = λ ended. refl })) tale.clients)
    counted_by tale _ comes = counted_itself tale.clients

    if_said : (b : Bool) (x y : Client) → Said x → Said y → Said (if b then x else y)
    if_said true x y one two = one
    if_said false x y one two = two

    said_by : (tale : Tale) (e : Entry) → Each Said tale.clients → Each Said (clients_by setup plan tale e)
    said_by tale (entry.Accepted port link salt) all = each-last Said tale.clients (new_client (length tale.clients + 1) port link salt) all (λ i below. absurd (omega (arith, below)))
    said_by tale (entry.Got link bytes) all =
        ifs (Each Said) (is_to_server tale link) tale.clients (map (client_hears link bytes) tale.clients) all
        (each-map Said Said (client_hears link bytes) tale.clients (λ c said. if_said (is_link_id c.link link) (record c { read = c.read ++ bytes }) c said said) all)
    said_by tale (entry.Wrote link tag bytes) all =
        ifs (Each Said) (is_to_server tale link) tale.clients (map (client_gets link (length bytes)) tale.clients) all
        (each-map Said Said (client_gets link (length bytes)) tale.clients (λ c said. if_said (is_link_id c.link link) (record c { written = c.written + length bytes }) c said said) all)
    said_by tale _ all = all

    abbrev gone : Tale → Entry → Tale
    gone tale e = clients_go_on setup plan (view_of setup tale) e (freed setup plan tale e)

    -- where this is so behind the entry
    pub record IsBehind (tale : Tale) (e : Entry) : Type 0 where
      pub counted : AreCounted tale.clients (tale_step setup plan tale e).clients
      pub said : Each Said (tale_step setup plan tale e).clients

    behind_of : (tale : Tale) (e : Entry) → IsThen (freed setup plan tale e) → Comes tale e → Each Said tale.clients → IsBehind tale e
    behind_of tale e so comes all =
        let same : (freed setup plan tale e).clients ≡ clients_by setup plan tale e = freed_clients setup plan tale e ∙ told_clients setup plan tale e in
        let told_so : Each Said (freed setup plan tale e).clients = subst (Each Said) (sym same) (said_by tale e all) in
        let is : Is tale.clients (gone tale e) = going_is tale.clients (view_of setup tale) e (freed setup plan tale e).clients (freed setup plan tale e) told_so
        (record { so = so; counted = subst (AreCounted tale.clients) (sym same) (counted_by tale e comes); said = told_so }) in
        record {
          counted = subst (AreCounted tale.clients) (sym (step_clients setup plan tale e)) is.counted;
          said = subst (Each Said) (sym (step_clients setup plan tale e)) is.said;
        }

-- Behind an entry no more is replied or answered than as messages begin to be taken up.
module _ (setup : Setup) (plan : Plan) (tale : Tale) (e : Entry) where
  abbrev first : Tale
  first = freed setup plan tale e

  abbrev went : Tale
  went = clients_go_on setup plan (view_of setup tale) e first

  abbrev ended : Tale
  ended = clients_are_ended plan went

  abbrev pub later : Tale
  later = tale_step setup plan tale e

  abbrev then_heard : MessageName → Option Reply
  then_heard = (view_of setup first).replies

  stays : (view_of setup later).replies ≡ then_heard
  stays =
      freed_keeps setup plan (Same setup plan then_heard first.moment) (same_keeps setup plan then_heard first.moment) ended.links ended
      (ended_keeps setup plan (Same setup plan then_heard first.moment) (same_keeps setup plan then_heard first.moment) went.clients went
      (going_keeps setup plan (Same setup plan then_heard first.moment) (same_keeps setup plan then_heard first.moment) (view_of setup tale) e first.clients first refl))

  moment_stays : later.moment ≡ first.moment
  moment_stays =
      freeing_moment setup plan ended.links ended ∙ ending_moment setup plan went.clients went ∙ going_moment setup plan (view_of setup tale) e first.clients first

  pub behind : (IsOther : ClientNo → Type 0) → Comes setup plan (view_of setup later).replies later.moment IsOther tale e
      → Each (Said setup plan (view_of setup later).replies later.moment) tale.clients
      → IsBehind setup plan (view_of setup later).replies later.moment IsOther tale e
  behind IsOther comes all =
      behind_of setup plan (view_of setup later).replies later.moment IsOther tale e (record { heard = sym stays; now = sym moment_stays }) comes all

  -- so it is as clients are ended
  pub ending_then : IsThen setup plan (view_of setup later).replies later.moment went
  ending_then = record {
    heard = going_keeps setup plan (Same setup plan (view_of setup later).replies later.moment) (same_keeps setup plan (view_of setup later).replies later.moment)
        (view_of setup tale) e first.clients first (sym stays);
    now = going_moment setup plan (view_of setup tale) e first.clients first ∙ sym moment_stays;
  }

  pub later_then : IsThen setup plan (view_of setup later).replies later.moment later
  later_then = record { heard = refl; now = refl }
