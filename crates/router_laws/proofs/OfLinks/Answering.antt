-- A plan that answers one message more by the next moment.
use Rattle.std.specs.Prelude.{◌≡◌, ◌≤◌, ℕ, suc, Bool, true, false, not, ◌&&◌, ◌||◌, is_some, nat_le, if◌then◌else◌, List, [], ◌∷◌, Option, Some, None}
use Rattle.std.specs.Option.{option_and_then}
use Rattle.std.proofs.Common.{refl, sym, ap, ◌∙◌, subst, arith, append-nil}
use Rattle.std.proofs.lemmas.Bool.{le-leb, lt-leb, true≢false}
use Rattle.std.proofs.lemmas.Option.{none-some}
use Rattle.packet_frame.specs.Packets.{Framed}
use Rattle.private_model.proofs.Maps.{message_is, same_message}
use Rattle.private_model.specs.Names.{MessageName, SessionName}
use Rattle.private_model.specs.Story.{Due, is_message, message_of}
use Rattle.private_model.specs.View.{Carried, Joined, Lent, Link, Nobody, View}
use Rattle.session_state.specs.Pins.{needs_reset}
use Rattle.log_story.specs.Honest.{IsFront}
use Rattle.log_story.specs.Owed.{due_bytes}
use Rattle.log_story.specs.Plan.{OwnAnswer, Plan, own_at, word_at}
use Rattle.log_story.specs.Servers.{is_done, is_done_by, is_given_up, is_left, is_quiet, is_settled}
use Rattle.log_story.specs.Tale as tales
use Rattle.log_story.specs.Tale.{Wire, is_reset_step}
use Rattle.client_seat.specs.Seats.{ended, is_ended}
use Rattle.client_seat.specs.Stands.{IsWrittenOf, Known, answer_to, due_so_far}
use Rattle.client_seat.specs.declared.phase.Phase.{Phase}
use Rattle.client_seat.specs.declared.phase.Phase.TheVariants as phase
use Rattle.core_tables.specs.declared.client.Client.{Client}
use Rattle.core_stands.specs.Clients.{IsClient, IsFrontOf, IsOwing, IsPhase}
use Rattle.core_stands.specs.Grounds.{Ground, known_on, view_on}
use Rattle.core_laws.proofs.OfEntry.Parting.{ends_grow, row_within}
use Rattle.core_laws.specs.entry.Dues.{Continues}
use Rattle.router_laws.proofs.OfLinks.Supposing.{supposed}

-- The plan.

module _ (g : Ground) (m : MessageName) where
  abbrev moment : ℕ
  moment = suc g.tale.moment

  abbrev answer : OwnAnswer
  answer = record { from = moment; payloads = [] ∷ [] }

  abbrev pub own : MessageName → Option OwnAnswer
  own other = if is_message other m then Some answer else g.plan.own other

  abbrev pub answering : Ground
  answering = supposed g own

  abbrev own_by : (now : ℕ) → Option OwnAnswer → Option (List (List ℕ))
  own_by now found = option_and_then (λ (a : OwnAnswer). if nat_le a.from now then Some a.payloads else None) found

  abbrev answer_if : Bool → Option (List (List ℕ))
  answer_if b = if b then Some ([] ∷ []) else None

  not_yet : nat_le moment g.tale.moment ≡ false
  not_yet = lt-leb moment g.tale.moment (omega arith)

  by_then : nat_le moment moment ≡ true
  by_then = le-leb moment moment (omega arith)

  -- it isn't answered yet
  pub now_alike : own_at g.plan g.tale.moment m ≡ None → (n : MessageName)
      → own_at answering.plan g.tale.moment n ≡ own_at g.plan g.tale.moment n
  now_alike none n = by (is_message n m) refl where
    by : (b : Bool) → is_message n m ≡ b → own_by g.tale.moment (if b then Some answer else g.plan.own n) ≡ own_at g.plan g.tale.moment n
    by true same = ap answer_if not_yet ∙ sym (ap (own_at g.plan g.tale.moment) (message_is n m same) ∙ none)
    by false other = refl

  pub then_alike : (n : MessageName) → is_message n m ≡ false → own_at answering.plan moment n ≡ own_at g.plan moment n
  then_alike n other = ap (λ (b : Bool). own_by moment (if b then Some answer else g.plan.own n)) other

  pub then_answered : own_at answering.plan moment m ≡ Some ([] ∷ [])
  then_answered = ap (λ (b : Bool). own_by moment (if b then Some answer else g.plan.own m)) (same_message m) ∙ ap answer_if by_then

  pub then_more : (n : MessageName) → is_some (own_at g.plan moment n) ≡ true → is_some (own_at answering.plan moment n) ≡ true
  then_more n some = by (is_message n m) refl where
    by : (b : Bool) → is_message n m ≡ b → is_some (own_at answering.plan moment n) ≡ true
    by true same = ap is_some (ap (own_at answering.plan moment) (message_is n m same) ∙ then_answered)
    by false other = ap is_some (then_alike n other) ∙ some

-- Links that are given back by a plan are so by one that answers more.

and_more : (a b c : Bool) → (b ≡ true → c ≡ true) → (a && b) ≡ true → (a && c) ≡ true
and_more true b c more is = more is
and_more false b c more is = is

or_more : (a b c : Bool) → (a ≡ true → c ≡ true) → (a || b) ≡ true → (c || b) ≡ true
or_more true b c more is = ap (λ (x : Bool). x || b) (more refl)
or_more false b true more is = refl
or_more false b false more is = is

less : (a b : Bool) → (a ≡ true → b ≡ true) → b ≡ false → a ≡ false
less true b more is = absurd (true≢false (sym (more refl) ∙ is))
less false b more is = refl

module _ (plan other : Plan) (moment : ℕ)
    (more : (n : MessageName) → is_some (own_at plan moment n) ≡ true → is_some (own_at other moment n) ≡ true) (view : View) where
  given_more : (n : SessionName) (due : Option Due) → is_given_up plan moment n due ≡ true → is_given_up other moment n due ≡ true
  given_more n None is = is
  given_more n (Some due) is = more (message_of n due) is

  done_more : (carried : Carried) → is_done_by plan moment view carried ≡ true → is_done_by other moment view carried ≡ true
  done_more Nobody is = is
  done_more (Joined n) is = is
  done_more (Lent n) is =
      and_more (not (needs_reset (view.held n).pin))
      ((is_settled (view.held n) && is_given_up plan moment n (view.dues n)) || is_left view n)
      ((is_settled (view.held n) && is_given_up other moment n (view.dues n)) || is_left view n)
      (or_more (is_settled (view.held n) && is_given_up plan moment n (view.dues n)) (is_left view n)
      (is_settled (view.held n) && is_given_up other moment n (view.dues n))
      (and_more (is_settled (view.held n)) (is_given_up plan moment n (view.dues n)) (is_given_up other moment n (view.dues n))
      (given_more n (view.dues n)))) is

  all_more : (wire : Wire) (link : Link) → is_done plan moment view wire link ≡ true → is_done other moment view wire link ≡ true
  all_more wire link =
      and_more link.usable (is_quiet link.stage && (not (is_reset_step wire.step) && is_done_by plan moment view link.carries))
      (is_quiet link.stage && (not (is_reset_step wire.step) && is_done_by other moment view link.carries))
      (and_more (is_quiet link.stage) (not (is_reset_step wire.step) && is_done_by plan moment view link.carries)
      (not (is_reset_step wire.step) && is_done_by other moment view link.carries)
      (and_more (not (is_reset_step wire.step)) (is_done_by plan moment view link.carries) (is_done_by other moment view link.carries)
      (done_more link.carries)))

  pub done_less : (wire : Wire) (link : Link) → is_done other moment view wire link ≡ false → is_done plan moment view wire link ≡ false
  done_less wire link = less (is_done plan moment view wire link) (is_done other moment view wire link) (all_more wire link)

-- What one that ends by the next moment was owed is a front of what it is owed then, where its answers stay.
module _ (g : Ground) (client : tales.Client) (row : Client) (is : IsClient g client row) (going : g.over client.number ≡ false)
    (looked : g.fresh client.number ≡ false) (wordless : word_at g.plan (suc g.tale.moment) client.number ≡ None) where
  abbrev known_then : Known
  known_then = record { plan = g.plan; view = view_on g; moment = suc g.tale.moment }

  unended : (b : Bool) → IsPhase b g client row → b ≡ false
  unended false phase = refl
  unended true phase = absurd (true≢false (sym phase.over ∙ going))

  owed_by : (at : Phase) → is_ended at ≡ false → IsOwing at (g.fresh client.number) g client row.desk.seat
      → IsWrittenOf client row.desk.seat (due_so_far (known_on g) client)
  owed_by phase.LoggingIn on owing = subst (λ (b : Bool). IsOwing phase.LoggingIn b g client row.desk.seat) looked owing
  owed_by (phase.Serving login) on owing = owing
  owed_by phase.Ended on owing = absurd (true≢false on)

  owed : IsWrittenOf client row.desk.seat (due_so_far (known_on g) client)
  owed = owed_by row.desk.seat.phase (unended (is_ended row.desk.seat.phase) is.phase) is.owed

  pub front_then : ((ordinal : ℕ) (message : Framed) (bytes : List ℕ) → ordinal ≤ client.taken
      → answer_to (known_on g) client ordinal message ≡ Some bytes → answer_to known_then client ordinal message ≡ Some bytes)
      → IsFrontOf client (ended row.desk.seat) (due_bytes (view_on g).replies g.plan (suc g.tale.moment) client)
  front_then stays = record {
    written = owed.written;
    size = owed.size;
    front = subst (λ (due : List ℕ). IsFront due (due_bytes (view_on g).replies g.plan (suc g.tale.moment) client)) owed.all
        (ends_grow (known_on g) known_then client client continues (λ word said. absurd (none-some word (sym wordless ∙ said))));
  } where
    continues : Continues (known_on g) known_then client client
    continues = record {
      plan = refl;
      number = refl;
      port = refl;
      salt = refl;
      more = [];
      read = sym (append-nil client.read);
      taken = omega arith;
      within = row_within g client row is going;
      answers = stays;
    }
