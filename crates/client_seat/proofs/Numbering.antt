-- What a client has prepared stands so as more is read of it, and as it is answered; and what an answer made stands under its number.
use Rattle.std.specs.Prelude.{◌≡◌, ◌<◌, ◌≤◌, ℕ, zero, suc, ◌+◌, Bool, true, false, ◌&&◌, not, is_some, nat_eq, List, [], ◌∷◌, ◌++◌, drop, if◌then◌else◌, length, slice_index_or, take, Option, Some, None}
use Rattle.std.specs.List.{list_any}
use Rattle.std.specs.Option.{option_or}
use Rattle.std.proofs.Common.{◌∙◌, refl, sym, ap, subst, arith}
use Rattle.std.proofs.lemmas.Bool.{true≢false}
use Rattle.packet_frame.specs.Packets.{Framed}
use Rattle.private_model.specs.Commands.{Reply, end_of, is_made}
use Rattle.private_model.specs.View.{View}
use Rattle.log_story.specs.Executes.{Prepared, bound_by, prepared_by, prepared_in}
use Rattle.log_story.specs.Owed.{messages, name_of}
use Rattle.log_story.specs.Plan.{Plan, Route, com_prepare}
use Rattle.log_story.specs.Tale.{Client}
use Rattle.client_seat.specs.Numbers.{Numbered, drops}
use Rattle.client_seat.specs.Stands.{IsNumbered, IsOnward, Known, Makes, is_refused}

no_some : {A B : Type 0} (a : A) → None ≡ Some a → B
no_some a is = absurd (let no = is in cc)

some_of : {A : Type 0} (a b : A) → Some a ≡ Some b → a ≡ b
some_of a b is = cc

-- What a message prepared, by its route and its reply.

if_some : {A : Type 0} (b : Bool) (x y : A) → (if b then Some x else None) ≡ Some y → (b ≡ true) × (x ≡ y)
if_some true x y is = (refl, some_of x y is)
if_some false x y is = no_some y is

-- it has the place of its message, and a reply
in_place : (number i : ℕ) (payload : List ℕ) (route : Option Route) (reply : Option Reply) (p : Prepared) → prepared_in number i payload route reply ≡ Some p
    → (p.ordinal ≡ i) × (is_some reply ≡ true)
in_place number i payload None reply p is = no_some p is
in_place number i payload (Some route) None p is = no_some p is
in_place number i payload (Some route) (Some reply) p is =
    let made = if_some {A = Prepared} (nat_eq (slice_index_or payload 0 0) com_prepare && (nat_eq route.number number && is_made reply))
    (record { key = route.key; params = (end_of reply).params; ordinal = i }) p is in
    (ap (λ (q : Prepared). q.ordinal) (sym made.1), refl)

-- none is found at a place before the first
behind : (view : View) (plan : Plan) (client : Client) (number i : ℕ) (ms : List Framed) (p : Prepared) → prepared_by view plan client number i ms ≡ Some p
    → i ≤ p.ordinal
behind view plan client number i [] p is = no_some p is
behind view plan client number i (message ∷ others) p is =
    by (λ later. behind view plan client number (suc i) others p later)
    (prepared_in number i message.payload (plan.routes (name_of client i)) (view.replies (name_of client i))) refl is where
      by : (prepared_by view plan client number (suc i) others ≡ Some p → suc i ≤ p.ordinal) → (found : Option Prepared) → prepared_in number i message.payload (plan.routes (name_of client i)) (view.replies (name_of client i)) ≡ found
          → option_or found (prepared_by view plan client number (suc i) others) ≡ Some p → i ≤ p.ordinal
      by rest (Some q) at first =
          let same : q ≡ p = some_of q p first in
          let place : p.ordinal ≡ i = (in_place number i message.payload (plan.routes (name_of client i)) (view.replies (name_of client i)) p (at ∙ ap (λ (q : Prepared). Some q) same)).0 in
          omega (arith, place)
      by rest None at later = (let more : suc i ≤ p.ordinal = rest later in omega (arith, more))

module _ (x y : Known) (client other : Client) (on : IsOnward x y client other) where
  named : (i : ℕ) → name_of other i ≡ name_of client i
  named i = λ k. record { client = on.number k; ordinal = i }

  -- replies to what was taken up
  replies_before : (i : ℕ) → i < client.taken → y.view.replies (name_of other i) ≡ x.view.replies (name_of client i)
  replies_before i below = ap y.view.replies (named i) ∙ on.earlier i below

  routes_same : (i : ℕ) → y.plan.routes (name_of other i) ≡ x.plan.routes (name_of client i)
  routes_same i = (λ k. (on.plan k).routes (name_of other i)) ∙ ap x.plan.routes (named i)

  in_same : (number i : ℕ) (payload : List ℕ) (p : Prepared) → i ≤ client.taken
      → prepared_in number i payload (x.plan.routes (name_of client i)) (x.view.replies (name_of client i)) ≡ Some p
      → prepared_in number i payload (y.plan.routes (name_of other i)) (y.view.replies (name_of other i)) ≡ Some p
  in_same number i payload p within is = by (x.view.replies (name_of client i)) refl where
    by : (reply : Option Reply) → x.view.replies (name_of client i) ≡ reply
        → prepared_in number i payload (y.plan.routes (name_of other i)) (y.view.replies (name_of other i)) ≡ Some p
    by None at =
        let some = (in_place number i payload (x.plan.routes (name_of client i)) (x.view.replies (name_of client i)) p is).1 in
        absurd (true≢false (sym some ∙ ap is_some at))
    by (Some reply) at =
        (λ k. prepared_in number i payload (routes_same i k) ((ap y.view.replies (named i) ∙ on.stays i reply within at ∙ sym at) k)) ∙ is

  goes : (number i : ℕ) (ms : List Framed) (p : Prepared) → p.ordinal ≤ client.taken → prepared_by x.view x.plan client number i ms ≡ Some p
      → prepared_by y.view y.plan other number i (ms ++ on.more) ≡ Some p
  goes number i [] p within is = no_some p is
  goes number i (message ∷ others) p within is =
      by (λ later. goes number (suc i) others p within later)
      (prepared_in number i message.payload (x.plan.routes (name_of client i)) (x.view.replies (name_of client i))) refl is where
        by : (prepared_by x.view x.plan client number (suc i) others ≡ Some p
            → prepared_by y.view y.plan other number (suc i) (others ++ on.more) ≡ Some p) → (found : Option Prepared) → prepared_in number i message.payload (x.plan.routes (name_of client i)) (x.view.replies (name_of client i)) ≡ found
            → option_or found (prepared_by x.view x.plan client number (suc i) others) ≡ Some p
            → option_or (prepared_in number i message.payload (y.plan.routes (name_of other i)) (y.view.replies (name_of other i)))
            (prepared_by y.view y.plan other number (suc i) (others ++ on.more)) ≡ Some p
        by rest (Some q) at first =
            let same : q ≡ p = some_of q p first in
            let found = at ∙ ap (λ (r : Prepared). Some r) same in
            let place : p.ordinal ≡ i = (in_place number i message.payload (x.plan.routes (name_of client i)) (x.view.replies (name_of client i)) p found).0 in
            ap (λ (o : Option Prepared). option_or o (prepared_by y.view y.plan other number (suc i) (others ++ on.more)))
            (in_same number i message.payload p (omega (arith, place, within)) found)
        by rest None at later =
            let rest_within : suc i ≤ p.ordinal = behind x.view x.plan client number (suc i) others p later in
            let below : i < client.taken = omega (arith, rest_within, within) in
            (λ k. option_or (prepared_in number i message.payload (routes_same i k) (replies_before i below k))
            (prepared_by y.view y.plan other number (suc i) (others ++ on.more)))
            ∙ ap (λ (o : Option Prepared). option_or o (prepared_by y.view y.plan other number (suc i) (others ++ on.more))) at
            ∙ rest later

  take_front : (n : ℕ) (sent more : List Framed) → n ≤ length sent → take n (sent ++ more) ≡ take n sent
  take_front zero sent more within = refl
  take_front (suc n) [] more within = absurd (omega arith)
  take_front (suc n) (one ∷ sent) more within = ap (λ (rest : List Framed). one ∷ rest) (take_front n sent more (omega arith))

  sent_same : client.taken ≤ length (messages x.plan client) → take other.taken (messages y.plan other) ≡ take client.taken (messages x.plan client)
  sent_same within =
      (λ k. take (on.taken k) (on.all k)) ∙ take_front client.taken (messages x.plan client) on.more within

  refused_same : is_refused y other ≡ is_refused x client
  refused_same = λ k i. not (is_some (routes_same i k))

  pub goes_on : (named_by : ℕ → ℕ) (number : ℕ) (one : Numbered) → client.taken ≤ length (messages x.plan client) → IsNumbered x client named_by number one
      → IsNumbered y other named_by number one
  goes_on named_by number one within is = record {
    ordinal = is.ordinal;
    prepared =
        ap (prepared_by y.view y.plan other number 1) on.all
        ∙ goes number 1 (messages x.plan client) _ is.taken_up is.prepared;
    taken_up = subst (λ (n : ℕ). is.ordinal ≤ n) (sym on.taken) is.taken_up;
    bound =
        (λ k. bound_by one.prepared.params number (refused_same k) (suc is.ordinal) (drop is.ordinal (sent_same within k)) (record { types = None; long = [] }))
        ∙ is.bound;
    route = is.route;
    went = routes_same is.ordinal ∙ is.went;
    hostgroup = is.hostgroup;
    multiplex = is.multiplex;
    live = (λ k. list_any (λ (sent : Framed). drops number sent.payload) (drop is.ordinal (sent_same within k))) ∙ is.live;
  }

-- A text was prepared.

none_front : (view : View) (plan : Plan) (client : Client) (number i : ℕ) (before : List Framed) (message : Framed) (more : List Framed)
    → prepared_by view plan client number i before ≡ None
    → prepared_by view plan client number i (before ++ (message ∷ more))
    ≡ prepared_by view plan client number (i + length before) (message ∷ more)
none_front view plan client number i [] message more none =
    let here : i ≡ i + 0 = omega arith in ap (λ (k : ℕ). prepared_by view plan client number k (message ∷ more)) here
none_front view plan client number i (one ∷ before) message more none =
    by (λ later. none_front view plan client number (suc i) before message more later)
    (prepared_in number i one.payload (plan.routes (name_of client i)) (view.replies (name_of client i))) refl none where
      by : (prepared_by view plan client number (suc i) before ≡ None
          → prepared_by view plan client number (suc i) (before ++ (message ∷ more))
          ≡ prepared_by view plan client number (suc i + length before) (message ∷ more)) → (found : Option Prepared) → prepared_in number i one.payload (plan.routes (name_of client i)) (view.replies (name_of client i)) ≡ found
          → option_or found (prepared_by view plan client number (suc i) before) ≡ None
          → option_or (prepared_in number i one.payload (plan.routes (name_of client i)) (view.replies (name_of client i)))
          (prepared_by view plan client number (suc i) (before ++ (message ∷ more)))
          ≡ prepared_by view plan client number (i + length (one ∷ before)) (message ∷ more)
      by rest (Some q) at is = no_some q (sym is)
      by rest None at is =
          let later : suc i + length before ≡ i + length (one ∷ before) = omega arith in
          ap (λ (o : Option Prepared). option_or o (prepared_by view plan client number (suc i) (before ++ (message ∷ more)))) at
          ∙ rest is
          ∙ ap (λ (k : ℕ). prepared_by view plan client number k (message ∷ more)) later

take_length : (n : ℕ) (sent : List Framed) → n ≤ length sent → length (take n sent) ≡ n
take_length zero sent within = refl
take_length (suc n) [] within = absurd (omega arith)
take_length (suc n) (one ∷ sent) within = omega (arith, take_length n sent (omega arith))

none_left : (n : ℕ) (sent : List Framed) → length sent ≡ n → drop n sent ≡ []
none_left zero [] all = refl
none_left zero (one ∷ sent) all = absurd (omega arith)
none_left (suc n) [] all = refl
none_left (suc n) (one ∷ sent) all = none_left n sent (omega arith)

abbrev as_made : Route → Reply → (ordinal : ℕ) → (made : Bool) → Option Prepared
as_made route reply ordinal made = if made then Some (record { key = route.key; params = (end_of reply).params; ordinal = ordinal }) else None

pub makes : (x : Known) (client : Client) (named_by : ℕ → ℕ) (number : ℕ) (one : Numbered) → Makes x client named_by number one
    → IsNumbered x client named_by number one
makes x client named_by number one is = record {
  ordinal = client.taken;
  prepared =
      ap (prepared_by x.view x.plan client number 1) is.all
      ∙ none_front x.view x.plan client number 1 is.before is.message is.behind is.first
      ∙ ap (λ (k : ℕ). prepared_by x.view x.plan client number k (is.message ∷ is.behind)) is.place
      ∙ ap (λ (o : Option Prepared). option_or o (prepared_by x.view x.plan client number (suc client.taken) is.behind)) found;
  taken_up = omega arith;
  bound =
      ap (λ (sent : List Framed). bound_by one.prepared.params number (is_refused x client) (suc client.taken) sent (record { types = None; long = [] }))
      (none_left client.taken (take client.taken (messages x.plan client)) (take_length client.taken (messages x.plan client) within))
      ∙ sym is.unbound;
  route = is.route;
  went = is.routed;
  hostgroup = is.hostgroup;
  multiplex = is.multiplex;
  live =
      ap (list_any (λ (sent : Framed). drops number sent.payload))
      (none_left client.taken (take client.taken (messages x.plan client)) (take_length client.taken (messages x.plan client) within));
} where
  within : client.taken ≤ length (messages x.plan client)
  within = is.within

  tests : (nat_eq (slice_index_or is.message.payload 0 0) com_prepare && (nat_eq is.route.number number && is_made is.reply)) ≡ true
  tests = λ k. is.prepares k && (is.under k && is.made k)

  found : prepared_in number client.taken is.message.payload (x.plan.routes (name_of client client.taken)) (x.view.replies (name_of client client.taken))
      ≡ Some (record { key = named_by one.prepared.key; params = one.prepared.params; ordinal = client.taken })
  found =
      (λ k. prepared_in number client.taken is.message.payload (is.routed k) (is.replied k))
      ∙ ap (as_made is.route is.reply client.taken) tests
      ∙ (λ k. Some (record { key = is.key k; params = is.params k; ordinal = client.taken }))
