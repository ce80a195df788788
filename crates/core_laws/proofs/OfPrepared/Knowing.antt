-- What a client knows of what it prepared stands under its numbers: as it was, and behind a message that prepared nothing.
use Rattle.std.specs.Prelude.{◌≡◌, ◌≤◌, ◌<◌, ◌+◌, ◌-◌, ℕ, zero, suc, Bool, true, false, not, ◌&&◌, ◌||◌, is_some, nat_eq, drop, length, slice_index_or, take, if◌then◌else◌, List, [], ◌∷◌, ◌++◌, Option, Some, None}
use Rattle.std.specs.List.{list_any}
use Rattle.std.specs.Option.{option_and_then, option_or}
use Rattle.std.proofs.Common.{refl, sym, ap, ◌∙◌, subst, arith}
use Rattle.std.proofs.lemmas.List.{drop-append-le}
use Rattle.std.proofs.lemmas.Option.{none-some, same_Some}
use Rattle.packet_frame.specs.Packets.{Framed}
use Rattle.private_model.specs.Commands.{Reply, end_of, is_made}
use Rattle.private_model.specs.Names.{ClientNo, MessageName}
use Rattle.private_model.specs.View.{View}
use Rattle.log_story.specs.Executes.{Prepared, prepared_by, prepared_in}
use Rattle.log_story.specs.Owed.{messages, name_of}
use Rattle.log_story.specs.Plan.{Plan, Route, com_prepare}
use Rattle.log_story.specs.Tale as tales
use Rattle.stmt_map.specs.declared.client.ClientStatements.{ClientStatements}
use Rattle.client_seat.specs.Numbers.{drops, number_in}
use Rattle.core_stands.specs.Stands.{KnowsFirst}
use Rattle.router_promises.specs.Statements.{between, is_live, known_statement}

-- What messages prepared, where replies to them are the same.

pub same_prepared : (x y : View) (plan : Plan) (was now : tales.Client) (number i : ℕ) (ms : List Framed) → now.number ≡ was.number
    → ((k : ℕ) → i ≤ k → k < i + length ms → y.replies (name_of was k) ≡ x.replies (name_of was k))
    → prepared_by y plan now number i ms ≡ prepared_by x plan was number i ms
same_prepared x y plan was now number i [] named same = refl
same_prepared x y plan was now number i (message ∷ others) named same =
    let route : plan.routes (name_of now i) ≡ plan.routes (name_of was i) =
    ap (λ (c : ClientNo). plan.routes (record { client = c; ordinal = i })) named in
    let reply : y.replies (name_of now i) ≡ x.replies (name_of was i) =
    ap (λ (c : ClientNo). y.replies (record { client = c; ordinal = i })) named ∙ same i (omega arith) (omega arith) in
    (λ j. option_or (prepared_in number i message.payload (route j) (reply j)) (prepared_by y plan now number (suc i) others))
    ∙ ap (option_or (prepared_in number i message.payload (plan.routes (name_of was i)) (x.replies (name_of was i))))
    (same_prepared x y plan was now number (suc i) others named (λ k from below. same k (omega (arith, from)) (omega (arith, below))))

pub last_of : (n : ℕ) (ms : List Framed) → suc n ≤ length ms → (message : Framed) × (take (suc n) ms ≡ take n ms ++ message ∷ [])
last_of n [] within = absurd (omega (arith, within))
last_of zero (m ∷ ms) within = (m, refl)
last_of (suc n) (m ∷ ms) within = let rest = last_of n ms (omega (arith, within)) in (rest.0, ap (λ (front : List Framed). m ∷ front) rest.1)

pub size_of : (n : ℕ) (ms : List Framed) → n ≤ length ms → length (take n ms) ≡ n
size_of zero ms within = refl
size_of (suc n) [] within = absurd (omega (arith, within))
size_of (suc n) (m ∷ ms) within = let rest = size_of n ms (omega (arith, within)) in omega (arith, rest)

-- The same messages, and replies to them.
pub knows_same : (x y : View) (plan : Plan) (was now : tales.Client) (s : ClientStatements) (n : ℕ) → now.number ≡ was.number
    → take n (messages plan now) ≡ take n (messages plan was) → take now.taken (messages plan now) ≡ take was.taken (messages plan was)
    → ((k : ℕ) → 1 ≤ k → k < 1 + length (take n (messages plan was)) → y.replies (name_of was k) ≡ x.replies (name_of was k))
    → KnowsFirst x plan was s n → KnowsFirst y plan now s n
knows_same x y plan was now s n number front all replies knows k made some has kept =
    knows k made some
    (sym (ap (prepared_by y plan now k 1) front ∙ same_prepared x y plan was now k 1 (take n (messages plan was)) number replies) ∙ has)
    (ap (λ (ms : List Framed). list_any (λ (sent : Framed). drops k sent.payload) (drop made.ordinal ms)) (sym all) ∙ kept)

-- of none
pub knows_none : (view : View) (plan : Plan) (client : tales.Client) (s : ClientStatements) → KnowsFirst view plan client s 0
knows_none view plan client s number made some has kept = absurd (none-some made has)

-- One message more.

pub none_behind : (view : View) (plan : Plan) (client : tales.Client) (number i : ℕ) (ms : List Framed) (message : Framed)
    → prepared_in number (i + length ms) message.payload (plan.routes (name_of client (i + length ms))) (view.replies (name_of client (i + length ms))) ≡ None
    → prepared_by view plan client number i (ms ++ message ∷ []) ≡ prepared_by view plan client number i ms
none_behind view plan client number i [] message makes =
    let here : i + 0 ≡ i = omega arith in
    ap (λ (o : Option Prepared). option_or o None)
    (subst (λ (k : ℕ). prepared_in number k message.payload (plan.routes (name_of client k)) (view.replies (name_of client k)) ≡ None) here makes)
none_behind view plan client number i (one ∷ ms) message makes =
    let later : i + length (one ∷ ms) ≡ suc i + length ms = omega arith in
    ap (option_or (prepared_in number i one.payload (plan.routes (name_of client i)) (view.replies (name_of client i))))
    (none_behind view plan client number (suc i) ms message
    (subst (λ (k : ℕ). prepared_in number k message.payload (plan.routes (name_of client k)) (view.replies (name_of client k)) ≡ None) later makes))

pub none_more : (view : View) (plan : Plan) (client : tales.Client) (number i : ℕ) (ms : List Framed) (message : Framed)
    → prepared_by view plan client number i ms ≡ None
    → prepared_in number (i + length ms) message.payload (plan.routes (name_of client (i + length ms))) (view.replies (name_of client (i + length ms))) ≡ None
    → prepared_by view plan client number i (ms ++ message ∷ []) ≡ None
none_more view plan client number i ms message none makes = none_behind view plan client number i ms message makes ∙ none

pub knows_behind : (view : View) (plan : Plan) (client : tales.Client) (s : ClientStatements) (n : ℕ) → suc n ≤ length (messages plan client)
    → ((number : ℕ) (payload : List ℕ) → 0 < number
    → prepared_in number (suc n) payload (plan.routes (name_of client (suc n))) (view.replies (name_of client (suc n))) ≡ None)
    → KnowsFirst view plan client s n → KnowsFirst view plan client s (suc n)
knows_behind view plan client s n within makes knows number made some has kept =
    let last = last_of n (messages plan client) within in
    let size : length (take n (messages plan client)) ≡ n = size_of n (messages plan client) (omega (arith, within)) in
    let place : suc n ≡ 1 + length (take n (messages plan client)) = omega (arith, size) in
    let front : prepared_by view plan client number 1 (take (suc n) (messages plan client)) ≡ prepared_by view plan client number 1 (take n (messages plan client)) =
    ap (prepared_by view plan client number 1) last.1
    ∙ none_behind view plan client number 1 (take n (messages plan client)) last.0
    (subst (λ (k : ℕ). prepared_in number k last.0.payload (plan.routes (name_of client k)) (view.replies (name_of client k)) ≡ None) place
    (makes number last.0.payload some)) in
    knows number made some (sym front ∙ has) kept

-- What no server was asked for, or answered, prepared nothing.

pub none_replied : (number ordinal : ℕ) (payload : List ℕ) (route : Option Route) (reply : Option Reply) → reply ≡ None
    → prepared_in number ordinal payload route reply ≡ None
none_replied number ordinal payload None None is = refl
none_replied number ordinal payload (Some route) None is = refl
none_replied number ordinal payload route (Some reply) is = absurd (let no = is in cc)

pub none_routed : (number ordinal : ℕ) (payload : List ℕ) (route : Option Route) (reply : Option Reply) → route ≡ None
    → prepared_in number ordinal payload route reply ≡ None
none_routed number ordinal payload None None is = refl
none_routed number ordinal payload None (Some reply) is = refl
none_routed number ordinal payload (Some route) reply is = absurd (let no = is in cc)

none_to_come : (view : View) (plan : Plan) (client : tales.Client) (number i : ℕ) (ms : List Framed)
    → ((k : ℕ) → i ≤ k → view.replies (name_of client k) ≡ None) → prepared_by view plan client number i ms ≡ None
none_to_come view plan client number i [] none = refl
none_to_come view plan client number i (message ∷ others) none =
    (λ j. option_or (none_replied number i message.payload (plan.routes (name_of client i)) (view.replies (name_of client i)) (none i (omega arith)) j)
    (prepared_by view plan client number (suc i) others))
    ∙ none_to_come view plan client number (suc i) others (λ k least. none k (omega (arith, least)))

front_made : (view : View) (plan : Plan) (client : tales.Client) (number i n : ℕ) (ms : List Framed)
    → ((k : ℕ) → i + n ≤ k → view.replies (name_of client k) ≡ None)
    → prepared_by view plan client number i ms ≡ prepared_by view plan client number i (take n ms)
front_made view plan client number i zero ms none = none_to_come view plan client number i ms (λ k least. none k (omega (arith, least)))
front_made view plan client number i (suc n) [] none = refl
front_made view plan client number i (suc n) (message ∷ others) none =
    ap (option_or (prepared_in number i message.payload (plan.routes (name_of client i)) (view.replies (name_of client i))))
    (front_made view plan client number (suc i) n others (λ k least. none k (omega (arith, least))))

-- So what it knows as its next message is taken up stands there.

pub knows_statement : (view : View) (plan : Plan) (client : tales.Client) (s : ClientStatements)
    → ((k : ℕ) → client.taken < k → view.replies (name_of client k) ≡ None) → KnowsFirst view plan client s client.taken
    → (number : ℕ) (made : Prepared) → 0 < number → known_statement view plan client number (suc client.taken) ≡ Some made
    → is_some (number_in s number) ≡ true
knows_statement view plan client s none knows number made some is =
    by_made (prepared_by view plan client number 1 (messages plan client)) refl is where
      since : (p : Prepared) → between (suc p.ordinal) (suc client.taken) (messages plan client) ≡ drop p.ordinal (take client.taken (messages plan client))
      since p =
          let first : suc p.ordinal - 1 ≡ p.ordinal = omega arith in
          let last : suc client.taken - 1 ≡ client.taken = omega arith in
          λ i. drop (first i) (take (last i) (messages plan client))

      kept_of : (b : Bool) → not b ≡ true → b ≡ false
      kept_of true wrong = absurd (let never : false ≡ true = wrong in cc)
      kept_of false isnt = refl

      by_live : (p : Prepared) → prepared_by view plan client number 1 (messages plan client) ≡ Some p → (b : Bool)
          → is_live plan client number (suc client.taken) p ≡ b → (if b then Some p else None) ≡ Some made → is_some (number_in s number) ≡ true
      by_live p at false dead wrong = absurd (none-some made wrong)
      by_live p at true live same =
          knows number p some
          (sym (front_made view plan client number 1 client.taken (messages plan client) (λ k least. none k (omega (arith, least)))) ∙ at)
          (ap (λ (ms : List Framed). list_any (λ (m : Framed). drops number m.payload) ms) (sym (since p)) ∙ kept_of _ live)

      by_made : (found : Option Prepared) → prepared_by view plan client number 1 (messages plan client) ≡ found
          → option_and_then (λ (p : Prepared). if is_live plan client number (suc client.taken) p then Some p else None) found ≡ Some made
          → is_some (number_in s number) ≡ true
      by_made None at wrong = absurd (none-some made wrong)
      by_made (Some p) at same = by_live p at (is_live plan client number (suc client.taken) p) refl same

-- and so it does where replies are the same
pub statement_same : (x y : View) (plan : Plan) (client : tales.Client) (number : ℕ) → y.replies ≡ x.replies
    → known_statement y plan client number (suc client.taken) ≡ known_statement x plan client number (suc client.taken)
statement_same x y plan client number replies =
    ap (option_and_then (λ (p : Prepared). if is_live plan client number (suc client.taken) p then Some p else None))
    (same_prepared x y plan client client number 1 (messages plan client) refl
    (λ k from below. ap (λ (r : MessageName → Option Reply). r (name_of client k)) replies))

-- What was prepared was by one of these messages.

if_ordinal : (b : Bool) (route : Route) (params ordinal : ℕ) (made : Prepared)
    → (if b then Some (record { key = route.key; params = params; ordinal = ordinal }) else None) ≡ Some made → made.ordinal ≡ ordinal
if_ordinal true route params ordinal made is =
    ap (λ (p : Prepared). p.ordinal) (sym (same_Some (record { key = route.key; params = params; ordinal = ordinal }) made is))
if_ordinal false route params ordinal made is = absurd (none-some made is)

ordinal_in : (number ordinal : ℕ) (payload : List ℕ) (route : Option Route) (reply : Option Reply) (made : Prepared)
    → prepared_in number ordinal payload route reply ≡ Some made → made.ordinal ≡ ordinal
ordinal_in number ordinal payload None None made is = absurd (none-some made is)
ordinal_in number ordinal payload None (Some reply) made is = absurd (none-some made is)
ordinal_in number ordinal payload (Some route) None made is = absurd (none-some made is)
ordinal_in number ordinal payload (Some route) (Some reply) made is =
    if_ordinal (nat_eq (slice_index_or payload 0 0) com_prepare && (nat_eq route.number number && is_made reply)) route (end_of reply).params ordinal made is

pub ordinal_within : (view : View) (plan : Plan) (client : tales.Client) (number i : ℕ) (ms : List Framed) (made : Prepared)
    → prepared_by view plan client number i ms ≡ Some made → made.ordinal < i + length ms
ordinal_within view plan client number i [] made is = absurd (none-some made is)
ordinal_within view plan client number i (message ∷ others) made is =
    by (prepared_in number i message.payload (plan.routes (name_of client i)) (view.replies (name_of client i))) refl is
    (λ rest. let later = ordinal_within view plan client number (suc i) others made rest in omega (arith, later)) where
      by : (found : Option Prepared) → prepared_in number i message.payload (plan.routes (name_of client i)) (view.replies (name_of client i)) ≡ found
          → option_or found (prepared_by view plan client number (suc i) others) ≡ Some made
          → (prepared_by view plan client number (suc i) others ≡ Some made → made.ordinal < i + length (message ∷ others))
          → made.ordinal < i + length (message ∷ others)
      by None none rest later = later rest
      by (Some one) here same later =
          let it : one ≡ made = same_Some one made same in
          let at : one.ordinal ≡ i =
          ordinal_in number i message.payload (plan.routes (name_of client i)) (view.replies (name_of client i)) one here in
          let its : made.ordinal ≡ i = ap (λ (p : Prepared). p.ordinal) (sym it) ∙ at in omega (arith, its)

-- A message that is taken up drops nothing that stays.

any_behind : (gone : Framed → Bool) (sent : List Framed) (message : Framed) → list_any gone (sent ++ message ∷ []) ≡ false
    → (list_any gone sent ≡ false) × (gone message ≡ false)
any_behind gone [] message none = (refl, first (gone message) none) where
  first : (b : Bool) → (b || false) ≡ false → b ≡ false
  first true is = is
  first false is = refl
any_behind gone (one ∷ sent) message none = by (gone one) none (λ later. any_behind gone sent message later) where
  by : (b : Bool) → (b || list_any gone (sent ++ message ∷ [])) ≡ false
      → (list_any gone (sent ++ message ∷ []) ≡ false → (list_any gone sent ≡ false) × (gone message ≡ false))
      → ((b || list_any gone sent) ≡ false) × (gone message ≡ false)
  by true is rest = absurd (let never : true ≡ false = is in cc)
  by false is rest = rest is

pub kept_since : (number n : ℕ) (sent : List Framed) (message : Framed) → n ≤ length sent
    → list_any (λ (m : Framed). drops number m.payload) (drop n (sent ++ message ∷ [])) ≡ false
    → (list_any (λ (m : Framed). drops number m.payload) (drop n sent) ≡ false) × (drops number message.payload ≡ false)
kept_since number n sent message within kept =
    any_behind (λ (m : Framed). drops number m.payload) (drop n sent) message
    (ap (list_any (λ (m : Framed). drops number m.payload)) (sym (drop-append-le n sent (message ∷ []) within)) ∙ kept)
