-- A client stands in another ground as one that is like it stood: what it is owed, and which of its messages are answered, is the same.
use Rattle.std.specs.Prelude.{◌≡◌, ◌<◌, ◌≤◌, ◌+◌, ◌-◌, ℕ, zero, suc, Bool, true, false, not, ◌||◌, is_some, nat_eq, if◌then◌else◌, length, slice_get, take, List, [], ◌∷◌, ◌++◌, Option, Some, None}
use Rattle.std.specs.Option.{option_map}
use Rattle.std.proofs.Common.{◌∙◌, refl, sym, ap, subst, arith}
use Rattle.std.proofs.lemmas.List.{length-take}
use Rattle.packet_frame.specs.Packets.{Framed, next_id}
use Rattle.server_side.specs.Account.{Account as Login}
use Rattle.private_model.specs.Names.{MessageName}
use Rattle.session_vars.specs.Settings.{collation_settings}
use Rattle.client_session.specs.Answers.{fault_answer, front, messages_of}
use Rattle.log_story.specs.Clients.{is_answered}
use Rattle.log_story.specs.Owed.{answered_with, due_bytes, due_for, error_behind, messages, name_of, number_of, talk_of, with_word}
use Rattle.log_story.specs.Plan.{Route, own_at, word_at}
use Rattle.log_story.specs.Servers.{logged_in_as}
use Rattle.log_story.specs.Tale as tales
use Rattle.client_seat.specs.Seats.{account_in, is_ended}
use Rattle.client_seat.specs.Stands.{IsWrittenOf, due_so_far}
use Rattle.client_seat.specs.declared.phase.Phase.{Phase}
use Rattle.client_seat.specs.declared.phase.Phase.TheVariants as phase
use Rattle.client_seat.specs.declared.seat.Seat.{Seat}
use Rattle.client_desk.specs.declared.work.Work.{Work}
use Rattle.stmt_map.specs.declared.client.ClientStatements.{ClientStatements}
use Rattle.core_tables.specs.declared.client.Client.{Client}
use Rattle.core_stands.specs.Clients.{IsClientOr, IsFrontOf, IsGoing, IsOver, IsOwing, IsPhase, IsWorkingOr}
use Rattle.core_stands.specs.Grounds.{Ground, known_on, view_on}
use Rattle.core_laws.proofs.OfArrival.Changing.{reseat}
use Rattle.core_laws.proofs.OfArrival.Finding.{false-true}
use Rattle.core_laws.proofs.OfArrival.Grounding.{Aside, regrounded}

pub record IsLike (g : Ground) (by : Aside) (x y : tales.Client) : Type 0 where
  pub number : y.number ≡ x.number
  pub taken : y.taken ≡ x.taken
  pub own : (ordinal : ℕ) → ordinal ≤ x.taken → own_at g.plan by.moment (name_of x ordinal) ≡ own_at g.plan g.tale.moment (name_of x ordinal)

module _ (g : Ground) (by : Aside) (x y : tales.Client) (like : IsLike g by x y) where
  abbrev after : Ground
  after = regrounded by g

  own-like : (ordinal : ℕ) → ordinal ≤ x.taken → own_at g.plan by.moment (name_of y ordinal) ≡ own_at g.plan g.tale.moment (name_of x ordinal)
  own-like ordinal below =
      ap (λ n. own_at g.plan by.moment (record { client = n; ordinal = ordinal })) like.number ∙ like.own ordinal below

  due-like : (last : List ℕ) (ordinal : ℕ) (sent : List Framed) → ordinal + length sent ≤ suc x.taken
      → due_for (view_on g).replies g.plan by.moment y last ordinal sent ≡ due_for (view_on g).replies g.plan g.tale.moment x last ordinal sent
  due-like last ordinal [] below = refl
  due-like last ordinal (message ∷ others) below =
      let here : ordinal ≤ x.taken = omega arith in
      let rest : suc ordinal + length others ≤ suc x.taken = omega arith in
      λ i. answered_with (own-like ordinal here i) ((view_on g).replies (record { client = like.number i; ordinal = ordinal }))
      (number_of g.plan (record { client = like.number i; ordinal = ordinal })) (next_id message.last)
      (due-like last (suc ordinal) others rest i)

  pub due-taken : (last : List ℕ) → due_for (view_on g).replies g.plan by.moment y last 1 (take x.taken (messages g.plan x))
      ≡ due_for (view_on g).replies g.plan g.tale.moment x last 1 (take x.taken (messages g.plan x))
  due-taken last = due-like last 1 (take x.taken (messages g.plan x)) (omega (arith, length-take x.taken (messages g.plan x)))

  -- all that was so far, where the same was taken up

  pub so-far-like : front (talk_of g.plan y) ≡ front (talk_of g.plan x) → take x.taken (messages g.plan y) ≡ take x.taken (messages g.plan x)
      → due_so_far (known_on after) y ≡ due_so_far (known_on g) x
  so-far-like said sent =
      (λ i. said i ++ due_for (view_on g).replies g.plan by.moment y [] 1 (take (like.taken i) (messages g.plan y)))
      ∙ ap (λ (xs : List Framed). front (talk_of g.plan x) ++ due_for (view_on g).replies g.plan by.moment y [] 1 xs) sent
      ∙ ap (λ (due : List ℕ). front (talk_of g.plan x) ++ due) (due-taken [])

  -- and all in all, where the same was read of it

  bytes-like : talk_of g.plan y ≡ talk_of g.plan x → word_at g.plan by.moment y.number ≡ word_at g.plan g.tale.moment x.number
      → due_bytes (view_on g).replies g.plan by.moment y ≡ due_bytes (view_on g).replies g.plan g.tale.moment x
  bytes-like talk word =
      (λ i. with_word (talk i) (front (talk i) ++ due_for (view_on g).replies g.plan by.moment y
      (if nat_eq (like.taken i) (length (messages_of (talk i)).messages) then fault_answer g.plan.service.limit (messages_of (talk i)).fault else [])
      1 (take (like.taken i) (messages_of (talk i)).messages)) (word i))
      ∙ ap (λ (due : List ℕ). with_word (talk_of g.plan x) (front (talk_of g.plan x) ++ due) (word_at g.plan g.tale.moment x.number))
      (due-taken (error_behind g.plan x))

  pub owing-like : (at : Phase) (fresh : Bool) (old new : Seat) → talk_of g.plan y ≡ talk_of g.plan x
      → (is_ended at ≡ true → word_at g.plan by.moment y.number ≡ word_at g.plan g.tale.moment x.number)
      → ((due : List ℕ) → IsWrittenOf x old due → IsWrittenOf y new due) → ((due : List ℕ) → IsFrontOf x old due → IsFrontOf y new due)
      → IsOwing at fresh g x old → IsOwing at fresh after y new
  owing-like phase.LoggingIn true old new talk word writes fronts is = tt
  owing-like phase.LoggingIn false old new talk word writes fronts is =
      subst (λ (due : List ℕ). IsWrittenOf y new due) (sym (so-far-like (ap front talk) (ap (λ t. take x.taken (messages_of t).messages) talk)))
      (writes (due_so_far (known_on g) x) is)
  owing-like (phase.Serving account) fresh old new talk word writes fronts is =
      subst (λ (due : List ℕ). IsWrittenOf y new due) (sym (so-far-like (ap front talk) (ap (λ t. take x.taken (messages_of t).messages) talk)))
      (writes (due_so_far (known_on g) x) is)
  owing-like phase.Ended fresh old new talk word writes fronts is =
      subst (λ (due : List ℕ). IsFrontOf y new due) (sym (bytes-like talk (word refl)))
      (fronts (due_bytes (view_on g).replies g.plan g.tale.moment x) is)

  -- which of its messages are answered

  pub answered-like : (ordinal : ℕ) → ordinal ≤ x.taken → is_answered g.plan after.tale (view_on g) y ordinal ≡ is_answered g.plan g.tale (view_on g) x ordinal
  answered-like zero below = refl
  answered-like (suc n) below = λ i. is_some (own-like (suc n) below i) || is_some ((view_on g).replies (record { client = like.number i; ordinal = suc n }))

  -- So it goes on, where its seat says so.

  abbrev LogsInAs : Seat → Type 0
  LogsInAs seat = (login : Login) → account_in seat.phase ≡ Some login → g.setup.accounts y.number ≡ logged_in_as login

  abbrev Collates : Seat → Type 0
  Collates seat = (login : Login) → account_in seat.phase ≡ Some login → (g.setup.places y.number).settings ≡ collation_settings seat.collation

  abbrev IsUnmoved : Seat → Type 0
  IsUnmoved seat = seat.phase ≡ phase.LoggingIn → (view_on g).places y.number ≡ g.setup.places y.number

  -- what its work needs of its seat is there still
  abbrev AreKept : (old new : Seat) → Type 0
  AreKept old new = (new.first ≡ old.first) × (new.statements ≡ old.statements)

  abbrev IsSaid : Option Work → Type 0
  IsSaid work = is_some work ≡ true → (message : Framed) → slice_get (messages g.plan y) (x.taken - 1) ≡ Some message
      → slice_get (messages g.plan x) (x.taken - 1) ≡ Some message

  working-like : (row : Client) (seat : Seat) (work : Option Work) → seat.outbox.coming ≡ row.desk.seat.outbox.coming
      → (is_some work ≡ true → AreKept row.desk.seat seat) → IsSaid work → IsWorkingOr g x row work → IsWorkingOr after y (reseat seat row) work
  working-like row seat None same kept said is = same ∙ is
  working-like row seat (Some work) same kept said is = record {
    last = is.last ∙ sym like.taken;
    went = is.went;
    number = λ prepares.
        let next = is.number prepares in
        let last : seat.statements.last ≡ row.desk.seat.statements.last = ap (λ (s : ClientStatements). s.last) (kept refl).1 in (
          ap (number_of g.plan) (λ i. record { client = like.number i; ordinal = work.ordinal }) ∙ next.0 ∙ ap (λ (n : ℕ). n + 1) (sym last),
          subst (λ (n : ℕ). n < 4294967295) (sym last) next.1,
        );
    only = λ some. is.only (subst (λ (n : ℕ). 0 < n) (ap (number_of g.plan) (λ i. record { client = like.number i; ordinal = work.ordinal })) some);
    prepares = λ prepares message at.
        is.prepares prepares message (said refl message (ap (λ (n : ℕ). slice_get (messages g.plan y) (n - 1)) (sym like.taken) ∙ at));
    keyed = λ prepares route routed.
        is.keyed prepares route (sym (ap g.plan.routes (λ i. record { client = like.number i; ordinal = like.taken i })) ∙ routed);
    first = λ message at. (kept refl).0 ∙ is.first message (said refl message (ap (λ (n : ℕ). slice_get (messages g.plan y) (n - 1)) (sym like.taken) ∙ at));
    unsent = λ unsent. same ∙ is.unsent unsent;
    there = λ sent. is.there sent ∙ ap (view_on g).carriers (λ i. record { client = sym like.number i; ordinal = work.ordinal });
  }

  pub going-like : (row : Client) (seat : Seat) → by.over y.number ≡ false → seat.answered ≡ row.desk.seat.answered
      → seat.outbox.coming ≡ row.desk.seat.outbox.coming → (is_some row.desk.work ≡ true → AreKept row.desk.seat seat) → IsSaid row.desk.work
      → LogsInAs seat → Collates seat → IsUnmoved seat → IsGoing g x row → IsGoing after y (reseat seat row)
  going-like row seat over answered coming kept said account collation unmoved is = record {
    going = over;
    earlier = λ ordinal below.
        let within : ordinal ≤ x.taken = omega (arith, below, like.taken) in
        answered-like ordinal within ∙ is.earlier ordinal (omega (arith, below, like.taken));
    answered = answered ∙ is.answered ∙ sym (ap (is_answered g.plan after.tale (view_on g) y) like.taken ∙ answered-like x.taken (omega arith));
    went = is.went ∙ ap (λ (m : MessageName). option_map (λ (route : Route). route.hostgroup) (g.plan.routes m))
        (λ i. record { client = sym like.number i; ordinal = sym like.taken i });
    busy = is.busy ∙ ap not (sym answered);
    working = working-like row seat row.desk.work coming kept said is.working;
    unmoved = unmoved;
    account = account;
    collation = collation;
  }

  pub over-like : (row : Client) (seat : Seat) → by.over y.number ≡ true
      → word_at g.plan by.moment y.number ≡ word_at g.plan g.tale.moment x.number → IsOver g x row → IsOver after y (reseat seat row)
  over-like row seat over word is = record {
    over = over;
    idle = is.idle;
    told = λ some ordinal below.
        let within : ordinal ≤ x.taken = omega (arith, below, like.taken) in
        answered-like ordinal within ∙ is.told (ap is_some (sym word) ∙ some) ordinal within;
    homeless = is.homeless;
  }

-- The same client, whatever else is there.

pub record IsAsBefore (g : Ground) (by : Aside) (x : tales.Client) : Type 0 where
  pub own : (ordinal : ℕ) → ordinal ≤ x.taken → own_at g.plan by.moment (name_of x ordinal) ≡ own_at g.plan g.tale.moment (name_of x ordinal)
  pub word : g.over x.number ≡ true → word_at g.plan by.moment x.number ≡ word_at g.plan g.tale.moment x.number
  pub over : by.over x.number ≡ g.over x.number
  pub fresh : by.fresh x.number ≡ g.fresh x.number

module _ (g : Ground) (by : Aside) (x : tales.Client) (before : IsAsBefore g by x) where
  abbrev later : Ground
  later = regrounded by g

  like : IsLike g by x x
  like = record { number = refl; taken = refl; own = before.own }

  phase-before : (row : Client) (ended : Bool) → IsPhase ended g x row → IsPhase ended later x row
  phase-before row true is = over-like g by x x like row row.desk.seat (before.over ∙ is.over) (before.word is.over) is
  phase-before row false is =
      going-like g by x x like row row.desk.seat (before.over ∙ is.going) refl refl (λ busy. (refl, refl)) (λ busy message at. at) is.account is.collation is.unmoved is

  over-of : (row : Client) (ended : Bool) → IsPhase ended g x row → ended ≡ true → g.over x.number ≡ true
  over-of row true is does = is.over
  over-of row false is does = false-true false refl does

  pub client-before : (row : Option Client) → IsClientOr g x row → IsClientOr later x row
  client-before None is = record { over = before.over ∙ is.over; homeless = is.homeless }
  client-before (Some row) is = record {
    who = is.who;
    heard = is.heard;
    owed =
        subst (λ (fresh : Bool). IsOwing row.desk.seat.phase fresh later x row.desk.seat) (sym before.fresh)
        (owing-like g by x x like row.desk.seat.phase (g.fresh x.number) row.desk.seat row.desk.seat refl
        (λ ended. before.word (over-of row (is_ended row.desk.seat.phase) is.phase ended)) (λ due was. was) (λ due was. was) is.owed);
    desk = is.desk;
    coming = is.coming;
    phase = phase-before row (is_ended row.desk.seat.phase) is.phase;
  }
