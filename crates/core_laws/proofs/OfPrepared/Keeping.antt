-- What a client has prepared stands so as more is read of it, as others are answered, and as its last message is answered that prepares nothing more.
use Rattle.std.specs.Prelude.{◌≡◌, ◌⊎◌, ◌<◌, ◌≤◌, ◌-◌, ◌+◌, ℕ, zero, suc, Bool, true, false, is_some, nat_lt, length, take, List, [], ◌++◌, Some, None}
use Rattle.std.proofs.Common.{refl, sym, ap, ◌∙◌, subst, arith, inl, inr, length-append}
use Rattle.std.proofs.lemmas.Bool.{ltb-false, ltb-true, true≢false}
use Rattle.std.proofs.lemmas.List.{take-append-le}
use Rattle.packet_frame.specs.Packets.{Framed, Split, split}
use Rattle.private_model.specs.Commands.{Reply}
use Rattle.private_model.specs.Names.{ClientNo, MessageName}
use Rattle.private_model.specs.View.{View}
use Rattle.log_story.specs.Executes.{prepared_by, prepared_in}
use Rattle.log_story.specs.Owed.{messages, name_of}
use Rattle.log_story.specs.Plan.{Plan, own_at}
use Rattle.log_story.specs.Tale as tales
use Rattle.log_story.specs.Tale.{Tale, view_of}
use Rattle.client_seat.proofs.Numbering.{goes_on}
use Rattle.client_seat.specs.Numbers.{number_in}
use Rattle.client_seat.specs.Seats.{is_ended}
use Rattle.client_seat.specs.Stands.{IsHeardIn, IsOnward}
use Rattle.client_seat.specs.declared.phase.Phase.{Phase}
use Rattle.client_seat.specs.declared.phase.Phase.TheVariants as phase
use Rattle.client_seat.specs.declared.seat.Seat.{Seat}
use Rattle.stmt_map.specs.declared.client.ClientStatements.{ClientStatements}
use Rattle.core_tables.specs.declared.client.Client.{Client}
use Rattle.core_stands.specs.Clients.{IsClient}
use Rattle.core_stands.specs.Grounds.{Ground, known_on, view_on}
use Rattle.core_stands.specs.Stands.{IsPrepared, KnowsFirst}
use Rattle.core_laws.proofs.OfPrepared.Knowing.{knows_behind, knows_none, knows_same, last_of, none_more, same_prepared, size_of}

-- No more was taken up than there is.

pub heard_within : (at : Phase) (plan : Plan) (client : tales.Client) (seat : Seat) → is_ended at ≡ false → IsHeardIn at plan client seat
    → client.taken ≤ length (messages plan client)
heard_within phase.Ended plan client seat going is = absurd (true≢false going)
heard_within phase.LoggingIn plan client seat going is = omega (arith, is.untaken)
heard_within (phase.Serving login) plan client seat going is =
    let all : messages plan client ≡ is.gone ++ (split plan.service.limit 0 seat.client.framer.kept).messages =
    ap (λ (s : Split). s.messages) is.rest in
    let size : length (messages plan client) ≡ length is.gone + length (split plan.service.limit 0 seat.client.framer.kept).messages =
    ap length all ∙ length-append is.gone (split plan.service.limit 0 seat.client.framer.kept).messages in
    omega (arith, size, is.size)

pub going_within : (g : Ground) (client : tales.Client) (row : Client) → IsClient g client row → is_ended row.desk.seat.phase ≡ false
    → client.taken ≤ length (messages g.plan client)
going_within g client row is going = heard_within row.desk.seat.phase g.plan client row.desk.seat going is.heard

-- The client's last message prepares nothing under a number.
abbrev pub MakesNone : View → Plan → tales.Client → Type 0
MakesNone view plan client =
    (number : ℕ) (payload : List ℕ) → 0 < number
    → prepared_in number client.taken payload (plan.routes (name_of client client.taken)) (view.replies (name_of client client.taken)) ≡ None

-- A client with its row, as it was and as it is.
pub record IsAs (g : Ground) (tale : Tale) (was client : tales.Client) (old row : Client) : Type 0 where
  pub number : client.number ≡ was.number
  pub taken : client.taken ≡ was.taken
  pub more : List Framed
  pub all : messages g.plan client ≡ messages g.plan was ++ more
  pub earlier : (k : ℕ) → k < was.taken → (view_of g.setup tale).replies (name_of was k) ≡ (view_on g).replies (name_of was k)
  pub stays : (k : ℕ) (reply : Reply) → k ≤ was.taken → (view_on g).replies (name_of was k) ≡ Some reply
      → (view_of g.setup tale).replies (name_of was k) ≡ Some reply
  pub statements : row.desk.seat.statements ≡ old.desk.seat.statements
  pub answered : row.desk.seat.answered ≡ true → ((old.desk.seat.answered ≡ true)
      × ((view_of g.setup tale).replies (name_of was was.taken) ≡ (view_on g).replies (name_of was was.taken)))
      ⊎ MakesNone (view_of g.setup tale) g.plan was
  pub unserved : (k : ℕ) → 0 < k → k ≤ was.taken → is_some (own_at g.plan tale.moment (name_of was k)) ≡ true
      → (view_of g.setup tale).replies (name_of was k) ≡ None

module _ (g : Ground) (tale : Tale) (over fresh : ClientNo → Bool) (was client : tales.Client) (old row : Client) (is : IsAs g tale was client old row)
    (within : was.taken ≤ length (messages g.plan was)) (prepared : IsPrepared g was old) where
  abbrev after : Ground
  after = record g { tale = tale; over = over; fresh = fresh }

  onward : IsOnward (known_on g) (known_on after) was client
  onward = record {
    plan = refl;
    number = is.number;
    taken = is.taken;
    more = is.more;
    all = is.all;
    earlier = is.earlier;
    stays = is.stays;
  }

  -- the same messages were taken up
  front : (n : ℕ) → n ≤ was.taken → take n (messages g.plan client) ≡ take n (messages g.plan was)
  front n less = ap (take n) is.all ∙ take-append-le n (messages g.plan was) is.more (omega (arith, less, within))

  sized : (n : ℕ) → n ≤ was.taken → length (take n (messages g.plan was)) ≡ n
  sized n less = size_of n (messages g.plan was) (omega (arith, less, within))

  -- those before the last
  unused_then : (number : ℕ) → old.desk.seat.statements.last < number
      → prepared_by (view_on after) g.plan client number 1 (take (was.taken - 1) (messages g.plan was)) ≡ None
  unused_then number greater =
      let size = sized (was.taken - 1) (omega arith) in
      same_prepared (view_on g) (view_on after) g.plan was client number 1 (take (was.taken - 1) (messages g.plan was)) is.number
      (λ k from below. is.earlier k (omega (arith, from, below, size))) ∙ prepared.unused number greater

  -- and the last, once it is answered

  reply_same : (view_on after).replies (name_of was was.taken) ≡ (view_on g).replies (name_of was was.taken) → (k : ℕ) → k ≤ was.taken
      → (view_on after).replies (name_of was k) ≡ (view_on g).replies (name_of was k)
  reply_same same k below = by (nat_lt k was.taken) refl where
    by : (less : Bool) → nat_lt k was.taken ≡ less → (view_on after).replies (name_of was k) ≡ (view_on g).replies (name_of was k)
    by true at = is.earlier k (ltb-true k was.taken at)
    by false at =
        let least = ltb-false k was.taken at in
        let last : was.taken ≡ k = omega (arith, least, below) in
        subst (λ (n : ℕ). (view_on after).replies (name_of was n) ≡ (view_on g).replies (name_of was n)) last same

  kept_as : old.desk.seat.answered ≡ true → (view_on after).replies (name_of was was.taken) ≡ (view_on g).replies (name_of was was.taken) → (number : ℕ)
      → old.desk.seat.statements.last < number
      → prepared_by (view_on after) g.plan client number 1 (take was.taken (messages g.plan was)) ≡ None
  kept_as answered same number greater =
      let size = sized was.taken (omega arith) in
      same_prepared (view_on g) (view_on after) g.plan was client number 1 (take was.taken (messages g.plan was)) is.number
      (λ k from below. reply_same same k (omega (arith, below, size))) ∙ prepared.kept answered number greater

  kept_none : (n : ℕ) → was.taken ≡ n → MakesNone (view_on after) g.plan was → (number : ℕ)
      → old.desk.seat.statements.last < number
      → prepared_by (view_on after) g.plan client number 1 (take n (messages g.plan was)) ≡ None
  kept_none zero taken none number greater = refl
  kept_none (suc n) taken none number greater =
      let last = last_of n (messages g.plan was) (omega (arith, taken, within)) in
      let size : length (take n (messages g.plan was)) ≡ n = sized n (omega (arith, taken)) in
      let place : was.taken ≡ 1 + length (take n (messages g.plan was)) = omega (arith, taken, size) in
      let named : name_of was was.taken ≡ name_of client was.taken = ap (λ (c : ClientNo). record { client = c; ordinal = was.taken }) (sym is.number) in
      let before : was.taken - 1 ≡ n = omega (arith, taken) in
      ap (prepared_by (view_on after) g.plan client number 1) last.1
      ∙ none_more (view_on after) g.plan client number 1 (take n (messages g.plan was)) last.0
      (subst (λ (k : ℕ). prepared_by (view_on after) g.plan client number 1 (take k (messages g.plan was)) ≡ None) before (unused_then number greater))
      (subst (λ (k : ℕ). prepared_in number k last.0.payload (g.plan.routes (name_of client k)) ((view_on after).replies (name_of client k)) ≡ None) place
      (subst (λ (m : MessageName). prepared_in number was.taken last.0.payload (g.plan.routes m) ((view_on after).replies m) ≡ None) named
      (none number last.0.payload (omega (arith, greater)))))

  -- what it knows

  all_same : take client.taken (messages g.plan client) ≡ take was.taken (messages g.plan was)
  all_same = (λ i. take (is.taken i) (messages g.plan client)) ∙ front was.taken (omega arith)

  known_then : KnowsFirst (view_on after) g.plan client old.desk.seat.statements (was.taken - 1)
  known_then =
      let size = sized (was.taken - 1) (omega arith) in
      knows_same (view_on g) (view_on after) g.plan was client old.desk.seat.statements (was.taken - 1) is.number (front (was.taken - 1) (omega arith)) all_same
      (λ k from below. is.earlier k (omega (arith, from, below, size))) prepared.known

  stands_as : old.desk.seat.answered ≡ true → (view_on after).replies (name_of was was.taken) ≡ (view_on g).replies (name_of was was.taken)
      → KnowsFirst (view_on after) g.plan client old.desk.seat.statements was.taken
  stands_as answered same =
      let size = sized was.taken (omega arith) in
      knows_same (view_on g) (view_on after) g.plan was client old.desk.seat.statements was.taken is.number (front was.taken (omega arith)) all_same
      (λ k from below. reply_same same k (omega (arith, below, size))) (prepared.stands answered)

  stands_behind : (n : ℕ) → was.taken ≡ n → MakesNone (view_on after) g.plan was
      → KnowsFirst (view_on after) g.plan client old.desk.seat.statements n
  stands_behind zero taken none = knows_none (view_on after) g.plan client old.desk.seat.statements
  stands_behind (suc n) taken none =
      let before : was.taken - 1 ≡ n = omega (arith, taken) in
      let more : length (messages g.plan client) ≡ length (messages g.plan was) + length is.more =
      ap length is.all ∙ length-append (messages g.plan was) is.more in
      let named : (k : ℕ) → name_of was k ≡ name_of client k = λ k. ap (λ (c : ClientNo). record { client = c; ordinal = k }) (sym is.number) in
      knows_behind (view_on after) g.plan client old.desk.seat.statements n (omega (arith, more, taken, within))
      (λ number payload some.
      subst (λ (m : MessageName). prepared_in number (suc n) payload (g.plan.routes m) ((view_on after).replies m) ≡ None) (named (suc n))
      (subst (λ (k : ℕ). prepared_in number k payload (g.plan.routes (name_of was k)) ((view_on after).replies (name_of was k)) ≡ None) taken
      (none number payload some)))
      (subst (λ (k : ℕ). KnowsFirst (view_on after) g.plan client old.desk.seat.statements k) before known_then)

  pub prepared_as : IsPrepared after client row
  prepared_as = record {
    each = λ number one at.
        goes_on (known_on g) (known_on after) was client onward (λ (key : ℕ). key) number one within
        (prepared.each number one (ap (λ (s : ClientStatements). number_in s number) (sym is.statements) ∙ at));
    unused = λ number greater.
        (λ i. prepared_by (view_on after) g.plan client number 1 (take (is.taken i - 1) (messages g.plan client)))
        ∙ ap (prepared_by (view_on after) g.plan client number 1) (front (was.taken - 1) (omega arith))
        ∙ unused_then number (last_then number greater);
    kept = λ answered number greater.
        (λ i. prepared_by (view_on after) g.plan client number 1 (take (is.taken i) (messages g.plan client)))
        ∙ ap (prepared_by (view_on after) g.plan client number 1) (front was.taken (omega arith))
        ∙ elim (is.answered answered) [
          | inl both ↦ kept_as both.0 both.1 number (last_then number greater)
          | inr none ↦ kept_none was.taken refl none number (last_then number greater)
        ];
    known =
        subst (λ (n : ℕ). KnowsFirst (view_on after) g.plan client row.desk.seat.statements (n - 1)) (sym is.taken)
        (subst (λ (s : ClientStatements). KnowsFirst (view_on after) g.plan client s (was.taken - 1)) (sym is.statements) known_then);
    stands = λ answered.
        subst (λ (n : ℕ). KnowsFirst (view_on after) g.plan client row.desk.seat.statements n) (sym is.taken)
        (subst (λ (s : ClientStatements). KnowsFirst (view_on after) g.plan client s was.taken) (sym is.statements)
        (elim (is.answered answered) [ inl both ↦ stands_as both.0 both.1 | inr none ↦ stands_behind was.taken refl none ]));
    unserved = λ k some below own.
        let same : name_of was k ≡ name_of client k = ap (λ (c : ClientNo). record { client = c; ordinal = k }) (sym is.number) in
        let taken : client.taken ≡ was.taken = is.taken in
        subst (λ (m : MessageName). (view_on after).replies m ≡ None) same
        (is.unserved k some (omega (arith, taken, below))
        (subst (λ (m : MessageName). is_some (own_at g.plan tale.moment m) ≡ true) (sym same) own));
  } where
    last_then : (number : ℕ) → row.desk.seat.statements.last < number → old.desk.seat.statements.last < number
    last_then number greater = subst (λ (s : ClientStatements). s.last < number) is.statements greater
