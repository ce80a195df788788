-- The texts of what a client knows stay kept, as more of its messages are taken up, and are answered.
use Rattle.std.specs.Prelude.{◌≡◌, ◌<◌, ◌≤◌, ◌+◌, ◌-◌, ◌++◌, ◌||◌, ◌&&◌, ℕ, zero, suc, Bool, true, false, drop, is_some, nat_eq, nat_lt, not, if◌then◌else◌, length, slice_index_or, take, List, [], ◌∷◌, Option, Some, None}
use Rattle.std.specs.List.{list_any}
use Rattle.std.specs.Option.{option_and_then, option_or}
use Rattle.std.proofs.Common.{refl, sym, ap, ◌∙◌, subst, arith}
use Rattle.std.proofs.lemmas.Bool.{eqb-true, ltb-false, ltb-true, or_parts, true≢false}
use Rattle.std.proofs.lemmas.Option.{none-some, same_Some}
use Rattle.packet_frame.specs.Packets.{Framed}
use Rattle.private_model.specs.Commands.{Reply, end_of, is_made}
use Rattle.private_model.specs.Names.{ClientNo, MessageName}
use Rattle.private_model.specs.Story.{Key}
use Rattle.private_model.specs.View.{Setup, View}
use Rattle.log_story.specs.Clients.{is_answered}
use Rattle.log_story.specs.Executes.{Prepared, prepared_by, prepared_in}
use Rattle.log_story.specs.Owed.{messages, name_of}
use Rattle.log_story.specs.Plan.{Plan, Route, com_prepare, own_at}
use Rattle.log_story.specs.Tale.{Client, Tale, view_of}
use Rattle.core_laws.proofs.OfPrepared.Knowing.{none_replied, size_of}
use Rattle.router_promises.specs.Statements.{between, drops, is_live, known_statement}
use Rattle.router_laws.specs.decisions.Held.{IsHeld}

-- What prepared a statement.

record IsMadeBy (number ordinal : ℕ) (routed : Option Route) (replied : Option Reply) (made : Prepared) : Type 0 where
  route : Route
  routed_is : routed ≡ Some route
  number_is : route.number ≡ number
  key : made.key ≡ route.key
  at : made.ordinal ≡ ordinal
  replied_is : is_some replied ≡ true

made_in : (number ordinal : ℕ) (payload : List ℕ) (routed : Option Route) (replied : Option Reply) (made : Prepared)
    → prepared_in number ordinal payload routed replied ≡ Some made → IsMadeBy number ordinal routed replied made
made_in number ordinal payload None None made is = absurd (none-some made is)
made_in number ordinal payload None (Some reply) made is = absurd (none-some made is)
made_in number ordinal payload (Some route) None made is = absurd (none-some made is)
made_in number ordinal payload (Some route) (Some reply) made is =
    by (nat_eq (slice_index_or payload 0 0) com_prepare) (nat_eq route.number number) (is_made reply) refl is where
      by : (a b d : Bool) → nat_eq route.number number ≡ b
          → (if a && (b && d) then Some (record { key = route.key; params = (end_of reply).params; ordinal = ordinal }) else None) ≡ Some made
          → IsMadeBy number ordinal (Some route) (Some reply) made
      by true true true same has =
          let one = same_Some (record { key = route.key; params = (end_of reply).params; ordinal = ordinal }) made has in
          record {
            route = route;
            routed_is = refl;
            number_is = eqb-true route.number number same;
            key = ap (λ (p : Prepared). p.key) (sym one);
            at = ap (λ (p : Prepared). p.ordinal) (sym one);
            replied_is = refl;
          }
      by true true false same has = absurd (none-some made has)
      by true false d same has = absurd (none-some made has)
      by false b d same has = absurd (none-some made has)

record IsMadeAt (view : View) (plan : Plan) (client : Client) (number i size : ℕ) (made : Prepared) : Type 0 where
  least : i ≤ made.ordinal
  below : made.ordinal < i + size
  route : Route
  routed : plan.routes (name_of client made.ordinal) ≡ Some route
  number_is : route.number ≡ number
  key : made.key ≡ route.key
  replied : is_some (view.replies (name_of client made.ordinal)) ≡ true

made_at : (view : View) (plan : Plan) (client : Client) (number i : ℕ) (ms : List Framed) (made : Prepared)
    → prepared_by view plan client number i ms ≡ Some made → IsMadeAt view plan client number i (length ms) made
made_at view plan client number i [] made is = absurd (none-some made is)
made_at view plan client number i (message ∷ ms) made is =
    by (prepared_in number i message.payload (plan.routes (name_of client i)) (view.replies (name_of client i))) refl is
    (λ rest. made_at view plan client number (suc i) ms made rest) where
      by : (found : Option Prepared) → prepared_in number i message.payload (plan.routes (name_of client i)) (view.replies (name_of client i)) ≡ found
          → option_or found (prepared_by view plan client number (suc i) ms) ≡ Some made
          → (prepared_by view plan client number (suc i) ms ≡ Some made → IsMadeAt view plan client number (suc i) (length ms) made)
          → IsMadeAt view plan client number i (length (message ∷ ms)) made
      by None none rest later =
          let it : IsMadeAt view plan client number (suc i) (length ms) made = later rest in
          let least : suc i ≤ made.ordinal = it.least in
          let below : made.ordinal < suc i + length ms = it.below in
          record {
            least = omega (arith, least);
            below = omega (arith, below);
            route = it.route;
            routed = it.routed;
            number_is = it.number_is;
            key = it.key;
            replied = it.replied;
          }
      by (Some one) here same later =
          let it : IsMadeBy number i (plan.routes (name_of client i)) (view.replies (name_of client i)) made =
          made_in number i message.payload (plan.routes (name_of client i)) (view.replies (name_of client i)) made (here ∙ same) in
          let at : made.ordinal ≡ i = it.at in
          record {
            least = omega (arith, at);
            below = omega (arith, at);
            route = it.route;
            routed = ap (λ (k : ℕ). plan.routes (name_of client k)) at ∙ it.routed_is;
            number_is = it.number_is;
            key = it.key;
            replied = ap (λ (k : ℕ). is_some (view.replies (name_of client k))) at ∙ it.replied_is;
          }

-- Where replies stay, and its own was there, it was prepared before, by messages of which there are more now.
first_stays : (x y : View) (plan : Plan) (was now : Client) (number i : ℕ) (ms more : List Framed) (made : Prepared) → now.number ≡ was.number
    → ((m : MessageName) (reply : Reply) → x.replies m ≡ Some reply → y.replies m ≡ Some reply)
    → is_some (x.replies (name_of was made.ordinal)) ≡ true → made.ordinal < i + length ms
    → prepared_by y plan now number i (ms ++ more) ≡ Some made → prepared_by x plan was number i ms ≡ Some made
first_stays x y plan was now number i [] more made named stays replied below is =
    let at : IsMadeAt y plan now number i (length more) made = made_at y plan now number i more made is in
    let least : i ≤ made.ordinal = at.least in
    absurd (omega (arith, least, below))
first_stays x y plan was now number i (message ∷ ms) more made named stays replied below is =
    by (x.replies (name_of was i)) refl
    (prepared_in number i message.payload (plan.routes (name_of was i)) (y.replies (name_of was i))) refl
    (ap (λ (c : ClientNo).
    option_or (prepared_in number i message.payload (plan.routes (record { client = c; ordinal = i })) (y.replies (record { client = c; ordinal = i })))
    (prepared_by y plan now number (suc i) (ms ++ more))) (sym named) ∙ is)
    (λ rest. first_stays x y plan was now number (suc i) ms more made named stays replied (omega (arith, below)) rest) where
      by : (reply : Option Reply) → x.replies (name_of was i) ≡ reply → (found : Option Prepared)
          → prepared_in number i message.payload (plan.routes (name_of was i)) (y.replies (name_of was i)) ≡ found
          → option_or found (prepared_by y plan now number (suc i) (ms ++ more)) ≡ Some made
          → (prepared_by y plan now number (suc i) (ms ++ more) ≡ Some made → prepared_by x plan was number (suc i) ms ≡ Some made)
          → option_or (prepared_in number i message.payload (plan.routes (name_of was i)) (x.replies (name_of was i)))
          (prepared_by x plan was number (suc i) ms) ≡ Some made
      by None at None none rest later =
          ap (λ (o : Option Prepared). option_or o (prepared_by x plan was number (suc i) ms))
          (none_replied number i message.payload (plan.routes (name_of was i)) (x.replies (name_of was i)) at) ∙ later rest
      by None at (Some one) here same later =
          let it : IsMadeBy number i (plan.routes (name_of was i)) (y.replies (name_of was i)) made =
          made_in number i message.payload (plan.routes (name_of was i)) (y.replies (name_of was i)) made (here ∙ same) in
          absurd (true≢false (sym replied ∙ ap (λ (k : ℕ). is_some (x.replies (name_of was k))) it.at ∙ ap is_some at))
      by (Some reply) at None none rest later =
          ap (λ (o : Option Prepared). option_or o (prepared_by x plan was number (suc i) ms))
          (ap (prepared_in number i message.payload (plan.routes (name_of was i))) (at ∙ sym (stays (name_of was i) reply at)) ∙ none) ∙ later rest
      by (Some reply) at (Some one) here same later =
          ap (λ (o : Option Prepared). option_or o (prepared_by x plan was number (suc i) ms))
          (ap (prepared_in number i message.payload (plan.routes (name_of was i))) (at ∙ sym (stays (name_of was i) reply at)) ∙ here) ∙ same

-- Nothing that was taken up before drops it.

take_parts : (n m : ℕ) (xs ys : List Framed) → n ≤ m → n ≤ length xs → (rest : List Framed) × (take m (xs ++ ys) ≡ take n xs ++ rest)
take_parts zero m xs ys less within = (take m (xs ++ ys), refl)
take_parts (suc n) zero xs ys less within = absurd (omega (arith, less))
take_parts (suc n) (suc m) [] ys less within = absurd (omega (arith, within))
take_parts (suc n) (suc m) (x ∷ xs) ys less within =
    let rest = take_parts n m xs ys (omega (arith, less)) (omega (arith, within)) in (rest.0, ap (λ (zs : List Framed). x ∷ zs) rest.1)

drop_parts : (k : ℕ) (xs ys : List Framed) → k ≤ length xs → drop k (xs ++ ys) ≡ drop k xs ++ ys
drop_parts zero xs ys within = refl
drop_parts (suc k) [] ys within = absurd (omega (arith, within))
drop_parts (suc k) (x ∷ xs) ys within = drop_parts k xs ys (omega (arith, within))

any_front : (f : Framed → Bool) (xs ys : List Framed) → list_any f (xs ++ ys) ≡ false → list_any f xs ≡ false
any_front f [] ys none = refl
any_front f (x ∷ xs) ys none = by (f x) none (λ rest. any_front f xs ys rest) where
  by : (b : Bool) → (b || list_any f (xs ++ ys)) ≡ false → (list_any f (xs ++ ys) ≡ false → list_any f xs ≡ false) → (b || list_any f xs) ≡ false
  by true wrong later = wrong
  by false rest later = later rest

since : (plan : Plan) (client : Client) (made : Prepared)
    → between (suc made.ordinal) (suc client.taken) (messages plan client) ≡ drop made.ordinal (take client.taken (messages plan client))
since plan client made =
    let first : suc made.ordinal - 1 ≡ made.ordinal = omega arith in
    let last : suc client.taken - 1 ≡ client.taken = omega arith in
    λ i. drop (first i) (take (last i) (messages plan client))

not_true : (b : Bool) → not b ≡ true → b ≡ false
not_true true wrong = absurd (true≢false (sym wrong))
not_true false isnt = refl

-- A client with its tale, before and behind: more of its messages were taken up, whose texts are kept, and of those before only the last wasn't
-- answered; nothing that the router answers itself is answered by a server.
pub record HoldsOn (keys : (number : ℕ) → Option Key) (setup : Setup) (plan : Plan) (old new : Tale) (was now : Client) : Type 0 where
  pub number : now.number ≡ was.number
  pub more : List Framed
  pub all : messages plan now ≡ messages plan was ++ more
  pub within : was.taken ≤ length (messages plan was)
  pub taken : was.taken ≤ now.taken
  pub stays : (m : MessageName) (reply : Reply) → (view_of setup old).replies m ≡ Some reply → (view_of setup new).replies m ≡ Some reply
  pub owns : (m : MessageName) → is_some (own_at plan old.moment m) ≡ true → is_some (own_at plan new.moment m) ≡ true
  pub unserved : (k : ℕ) → 0 < k → k ≤ now.taken → is_some (own_at plan new.moment (name_of now k)) ≡ true
      → (view_of setup new).replies (name_of now k) ≡ None
  pub to_come : (k : ℕ) → now.taken < k → (view_of setup new).replies (name_of now k) ≡ None
  pub earlier : (k : ℕ) → k < was.taken → is_answered plan old (view_of setup old) was k ≡ true
  pub fresh : (k : ℕ) (route : Route) → was.taken < k → k ≤ now.taken → plan.routes (name_of now k) ≡ Some route → 0 < route.number
      → is_some (keys route.key) ≡ true

module _ (keys : (number : ℕ) → Option Key) (setup : Setup) (plan : Plan) (old new : Tale) (was now : Client)
    (on : HoldsOn keys setup plan old new was now) (held : 0 < was.taken → IsHeld keys setup plan old was) where
  abbrev x : View
  x = view_of setup old

  abbrev y : View
  y = view_of setup new

  named : (k : ℕ) → name_of was k ≡ name_of now k
  named k = ap (λ (c : ClientNo). record { client = c; ordinal = k }) (sym on.number)

  unowned : (k : ℕ) → 0 < k → k ≤ now.taken → is_some (y.replies (name_of now k)) ≡ true → (b : Bool)
      → is_some (own_at plan old.moment (name_of was k)) ≡ b → b ≡ false
  unowned k some below replied true mine =
      absurd (true≢false (sym replied
      ∙ ap is_some (on.unserved k some below
      (subst (λ (m : MessageName). is_some (own_at plan new.moment m) ≡ true) (named k) (on.owns (name_of was k) mine)))))
  unowned k some below replied false mine = refl

  open_before : (k : ℕ) → 0 < k → is_some (own_at plan old.moment (name_of was k)) ≡ false → is_some (x.replies (name_of was k)) ≡ false
      → is_answered plan old x was k ≡ false
  open_before zero some mine theirs = absurd (omega (arith, some))
  open_before (suc n) some mine theirs = λ i. mine i || theirs i

  last_of : (k : ℕ) → k ≤ was.taken → is_answered plan old x was k ≡ false → k ≡ was.taken
  last_of k below open_then = by (nat_lt k was.taken) refl where
    by : (b : Bool) → nat_lt k was.taken ≡ b → k ≡ was.taken
    by true less = absurd (true≢false (sym (on.earlier k (ltb-true k was.taken less)) ∙ open_then))
    by false least = let at = ltb-false k was.taken least in omega (arith, at, below)

  module _ (number : ℕ) (some : 0 < number) (made : Prepared) (has : prepared_by y plan now number 1 (messages plan now) ≡ Some made)
      (live : is_live plan now number (suc now.taken) made ≡ true) where
    making : IsMadeAt y plan now number 1 (length (messages plan now)) made
    making = made_at y plan now number 1 (messages plan now) made has

    first : 0 < made.ordinal
    first = let least : 1 ≤ made.ordinal = making.least in omega (arith, least)

    by_now : made.ordinal ≤ now.taken
    by_now = by (nat_lt now.taken made.ordinal) refl where
      by : (b : Bool) → nat_lt now.taken made.ordinal ≡ b → made.ordinal ≤ now.taken
      by true past = absurd (true≢false (sym making.replied ∙ ap is_some (on.to_come made.ordinal (ltb-true now.taken made.ordinal past))))
      by false upto = ltb-false now.taken made.ordinal upto

    routed_some : 0 < making.route.number
    routed_some = let same : making.route.number ≡ number = making.number_is in omega (arith, some, same)

    keyed : is_some (keys making.route.key) ≡ true → is_some (keys made.key) ≡ true
    keyed is = ap (λ (k : ℕ). is_some (keys k)) making.key ∙ is

    -- where it was prepared before

    module _ (below : made.ordinal ≤ was.taken) where
      some_taken : 0 < was.taken
      some_taken = omega (arith, below, first)

      place : made.ordinal ≤ length (take was.taken (messages plan was))
      place = let size = size_of was.taken (messages plan was) on.within in omega (arith, below, size)

      live_then : is_live plan was number (suc was.taken) made ≡ true
      live_then =
          let none : list_any (drops number) (drop made.ordinal (take now.taken (messages plan now))) ≡ false =
          ap (list_any (drops number)) (sym (since plan now made)) ∙ not_true _ live in
          let parts = take_parts was.taken now.taken (messages plan was) on.more on.taken on.within in
          let split : drop made.ordinal (take now.taken (messages plan now)) ≡ drop made.ordinal (take was.taken (messages plan was)) ++ parts.0 =
          ap (λ (ms : List Framed). drop made.ordinal (take now.taken ms)) on.all ∙ ap (drop made.ordinal) parts.1
          ∙ drop_parts made.ordinal (take was.taken (messages plan was)) parts.0 place in
          ap (λ (ms : List Framed). not (list_any (drops number) ms)) (since plan was made)
          ∙ ap not (any_front (drops number) (drop made.ordinal (take was.taken (messages plan was))) parts.0
          (ap (list_any (drops number)) (sym split) ∙ none))

      known_then : is_some (x.replies (name_of was made.ordinal)) ≡ true → known_statement x plan was number (suc was.taken) ≡ Some made
      known_then replied =
          let size : made.ordinal < 1 + length (messages plan was) = (let within = on.within in omega (arith, below, within)) in
          ap (option_and_then (λ (p : Prepared). if is_live plan was number (suc was.taken) p then Some p else None))
          (first_stays x y plan was now number 1 (messages plan was) on.more made on.number on.stays replied size
          (ap (prepared_by y plan now number 1) (sym on.all) ∙ has))
          ∙ ap (λ (b : Bool). if b then Some made else None) live_then

      before : (r : Option Reply) → x.replies (name_of was made.ordinal) ≡ r → is_some (keys made.key) ≡ true
      before (Some reply) replied = (held some_taken).known number made some (known_then (ap is_some replied))
      before None none =
          let mine : is_some (own_at plan old.moment (name_of was made.ordinal)) ≡ false =
          unowned made.ordinal first by_now making.replied (is_some (own_at plan old.moment (name_of was made.ordinal))) refl in
          let open_then : is_answered plan old x was made.ordinal ≡ false = open_before made.ordinal first mine (ap is_some none) in
          let last : made.ordinal ≡ was.taken = last_of made.ordinal below open_then in
          keyed ((held some_taken).asked making.route
          (ap (λ (k : ℕ). plan.routes (name_of was k)) (sym last) ∙ ap plan.routes (named made.ordinal) ∙ making.routed) routed_some
          (ap (is_answered plan old x was) (sym last) ∙ open_then))

    pub made_held : is_some (keys made.key) ≡ true
    made_held = by (nat_lt was.taken made.ordinal) refl where
      by : (b : Bool) → nat_lt was.taken made.ordinal ≡ b → is_some (keys made.key) ≡ true
      by true later = keyed (on.fresh made.ordinal making.route (ltb-true was.taken made.ordinal later) by_now making.routed routed_some)
      by false early = before (ltb-false was.taken made.ordinal early) (x.replies (name_of was made.ordinal)) refl

  -- what it knows

  pub known_held : (number : ℕ) (made : Prepared) → 0 < number → known_statement y plan now number (suc now.taken) ≡ Some made → is_some (keys made.key) ≡ true
  known_held number made some is = by_made (prepared_by y plan now number 1 (messages plan now)) refl is where
    by_live : (p : Prepared) → prepared_by y plan now number 1 (messages plan now) ≡ Some p → (b : Bool)
        → is_live plan now number (suc now.taken) p ≡ b → (if b then Some p else None) ≡ Some made → is_some (keys made.key) ≡ true
    by_live p at false dead wrong = absurd (none-some made wrong)
    by_live p at true live same =
        subst (λ (q : Prepared). is_some (keys q.key) ≡ true) (same_Some p made same) (made_held number some p at live)

    by_made : (found : Option Prepared) → prepared_by y plan now number 1 (messages plan now) ≡ found
        → option_and_then (λ (p : Prepared). if is_live plan now number (suc now.taken) p then Some p else None) found ≡ Some made
        → is_some (keys made.key) ≡ true
    by_made None at wrong = absurd (none-some made wrong)
    by_made (Some p) at same = by_live p at (is_live plan now number (suc now.taken) p) refl same

  -- and what is being prepared

  mine_before : (n : ℕ) → is_answered plan new y now (suc n) ≡ false → (b : Bool) → is_some (own_at plan old.moment (name_of was (suc n))) ≡ b → b ≡ false
  mine_before n is true mine =
      absurd (true≢false (sym (subst (λ (m : MessageName). is_some (own_at plan new.moment m) ≡ true) (named (suc n)) (on.owns (name_of was (suc n)) mine))
      ∙ (or_parts (is_some (own_at plan new.moment (name_of now (suc n)))) (is_some (y.replies (name_of now (suc n)))) is).0))
  mine_before n is false mine = refl

  theirs_before : (n : ℕ) → is_answered plan new y now (suc n) ≡ false → (r : Option Reply) → x.replies (name_of was (suc n)) ≡ r → is_some r ≡ false
  theirs_before n is None none = refl
  theirs_before n is (Some reply) replied =
      absurd (true≢false (sym (ap is_some (sym (ap y.replies (named (suc n))) ∙ on.stays (name_of was (suc n)) reply replied))
      ∙ (or_parts (is_some (own_at plan new.moment (name_of now (suc n)))) (is_some (y.replies (name_of now (suc n)))) is).1))

  open_same : (n : ℕ) → is_answered plan new y now n ≡ false → is_answered plan old x was n ≡ false
  open_same zero is = absurd (true≢false is)
  open_same (suc n) is =
      λ i. mine_before n is (is_some (own_at plan old.moment (name_of was (suc n)))) refl i || theirs_before n is (x.replies (name_of was (suc n))) refl i

  taken_some : (n : ℕ) → is_answered plan old x was n ≡ false → 0 < n
  taken_some zero is = absurd (true≢false is)
  taken_some (suc n) is = omega arith

  asked_held : (route : Route) → plan.routes (name_of now now.taken) ≡ Some route → 0 < route.number → is_answered plan new y now now.taken ≡ false
      → is_some (keys route.key) ≡ true
  asked_held route routed some is = by (nat_lt was.taken now.taken) refl where
    by : (b : Bool) → nat_lt was.taken now.taken ≡ b → is_some (keys route.key) ≡ true
    by true later = on.fresh now.taken route (ltb-true was.taken now.taken later) (omega arith) routed some
    by false early =
        let least = ltb-false was.taken now.taken early in
        let more = on.taken in
        let same : now.taken ≡ was.taken = omega (arith, least, more) in
        let open_then : is_answered plan old x was was.taken ≡ false =
        subst (λ (k : ℕ). is_answered plan old x was k ≡ false) same (open_same now.taken is) in
        (held (taken_some was.taken open_then)).asked route
        (ap plan.routes (named was.taken) ∙ ap (λ (k : ℕ). plan.routes (name_of now k)) (sym same) ∙ routed) some open_then

  pub held_on : IsHeld keys setup plan new now
  held_on = record { known = known_held; asked = asked_held }
