-- A header is walked over at once.
use Rattle.std.proofs.Common.{◌≡◌, ◌≤◌, ◌<◌, ℕ, suc, ◌+◌, ◌*◌, Bool, true, false, not, nat_eq, List, [], ◌∷◌, ◌++◌, length, take, drop, slice_set, slice_index_or, refl, ◌∙◌, sym, ap, subst, arith, append_assoc, inl, inr}
use Rattle.std.specs.Prelude.{Option, Some, None, if◌then◌else◌}
use Rattle.std.proofs.lemmas.Bool.{and_parts, cases_Bool}
use Rattle.std.proofs.lemmas.List.{drop-set-lt, length-set, set-get_or, take_more_set}
use Rattle.std.proofs.lemmas.Option.{none-some}
use Rattle.std.proofs.Math.Seq.{drop-cons}
use Rattle.reply_track.specs.declared.body.Body.{Body}
use Rattle.reply_track.specs.declared.place.Place.{Place}
use Rattle.reply_track.specs.declared.place.Place.TheVariants.{First, Second, Third, Id as IdPlace, Body as BodyPlace}
use Rattle.reply_track.specs.declared.place.State.{State}
use Rattle.reply_track.specs.declared.place.Outcome.{Outcome}
use Rattle.reply_track.specs.declared.place.Outcome.TheVariants.{On}
use Rattle.reply_track.specs.Steps.{body_takes_length, body_takes_low, step, written}
use Rattle.reply_track.specs.Runs.{headed, headed_at, in_body, is_header, run, run_by, renumbered, renumbered_by}
use Rattle.reply_track.proofs.Walking.{InWalk}

-- it goes on at this byte
walk-on : (began : State) (given : List ℕ) (state next : State) (piece : List ℕ) (at byte new : ℕ) → InWalk began given state piece at → at < length piece
    → byte ≡ slice_index_or piece at 0 → new ≡ written state byte → step state byte ≡ On next → InWalk began given next (slice_set piece at new) (at + 1)
walk-on began given state next piece at byte new so_far inside is_byte is_new on =
    let cut : drop at piece ≡ byte ∷ drop (suc at) piece = rw is_byte (drop-cons piece at 0 inside) in
    let one : at + 1 ≡ suc at = omega arith in
    let behind : drop (at + 1) (slice_set piece at new) ≡ drop (suc at) piece =
    drop-set-lt (at + 1) piece at new (omega arith) ∙ ap (λ n. drop n piece) one in
    let front : take (at + 1) (slice_set piece at new) ≡ take at piece ++ new ∷ [] = take_more_set piece at new inside in
    let size : length (slice_set piece at new) ≡ length piece = length-set piece at new in
    record {
      are = so_far.are;
      within = omega (arith, size);
      size = size ∙ so_far.size;
      runs = so_far.runs ∙ ap (run state) cut ∙ ap (λ (o : Outcome). run_by o byte (drop (suc at) piece) (λ (n : State). run n (drop (suc at) piece))) on
          ∙ ap (run next) (sym behind);
      writes = so_far.writes ∙ ap (λ bs. take at piece ++ bs) (ap (renumbered state) cut
          ∙ ap (λ (o : Outcome). renumbered_by o (written state byte) byte (drop (suc at) piece) (λ (n : State). renumbered n (drop (suc at) piece))) on
          ∙ ap (λ n. n ∷ renumbered next (drop (suc at) piece)) (sym is_new))
          ∙ sym (append_assoc (take at piece) (new ∷ []) (renumbered next (drop (suc at) piece)))
          ∙ ap (λ bs. bs ++ renumbered next (drop (suc at) piece)) (sym front)
          ∙ ap (λ bs. take (at + 1) (slice_set piece at new) ++ renumbered next bs) (sym behind);
    }

-- and this byte stays for the client
walk-kept : (began : State) (given : List ℕ) (state next : State) (piece : List ℕ) (at byte : ℕ) → InWalk began given state piece at → at < length piece
    → byte ≡ slice_index_or piece at 0 → byte ≡ written state byte → step state byte ≡ On next → InWalk began given next piece (at + 1)
walk-kept began given state next piece at byte so_far inside is_byte is_new on =
    let same : slice_set piece at byte ≡ piece = ap (slice_set piece at) is_byte ∙ set-get_or piece at 0 in
    let P : List ℕ → Type 0 = λ bs. InWalk began given next bs (at + 1) in
    subst P same (walk-on began given state next piece at byte byte so_far inside is_byte is_new on)

abbrev at_first : (server client number : ℕ) (body : Body) → State
at_first server client number body = record { server = server; client = client; number = number; place = First; body = body }

abbrev placed : State → Place → State
placed state place = record state { place = place }

-- the steps at a header
record Heads (state : State) (a b c id : ℕ) : Type 0 where
  pub low : step state a ≡ On (placed state (Second a))
  pub high : step (placed state (Second a)) b ≡ On (placed state (Third (a + 256 * b)))
  pub whole : step (placed state (Third (a + 256 * b))) c ≡ On (placed state (IdPlace ((a + 256 * b) + 65536 * c)))
  pub numbers : step (placed state (IdPlace ((a + 256 * b) + 65536 * c))) id ≡ On (in_body state ((a + 256 * b) + 65536 * c))

heads : (server client number : ℕ) (body : Body) (a b c id : ℕ) → is_header (at_first server client number body) a b c id ≡ true
    → Heads (at_first server client number body) a b c id
heads server client number body a b c id is =
    let numbered : nat_eq id server ≡ true = (and_parts _ _ is).0 in
    let others = (and_parts _ _ is).1 in
    let some : not (nat_eq ((a + 256 * b) + 65536 * c) 0) ≡ true = (and_parts _ _ others).0 in
    let fits = (and_parts _ _ others).1 in
    let first : body_takes_low body a ≡ true = (and_parts _ _ fits).0 in
    let both = (and_parts _ _ fits).1 in
    let second : body_takes_low body (a + 256 * b) ≡ true = (and_parts _ _ both).0 in
    let third : body_takes_length body ((a + 256 * b) + 65536 * c) ≡ true = (and_parts _ _ both).1 in
    let filled : nat_eq ((a + 256 * b) + 65536 * c) 0 ≡ false = not_true _ some in
    record {
      low = rw first refl;
      high = rw second refl;
      whole = rw third refl;
      numbers = rw numbered (rw filled refl);
    } where
      not_true : (b : Bool) → not b ≡ true → b ≡ false
      not_true false is = refl
      not_true true is = absurd (cc)

some_same : (x y : State) → Some x ≡ Some y → x ≡ y
some_same x y same = ap (λ (o : Option State). option_or_this o x) same
  where
    option_or_this : Option State → State → State
    option_or_this (Some s) d = s
    option_or_this None d = d

-- what is found behind one
record IsBehind (state next : State) (a b c id : ℕ) : Type 0 where
  pub first : state.place ≡ First
  pub is : is_header state a b c id ≡ true
  pub makes : next ≡ in_body state ((a + 256 * b) + 65536 * c)

headed-behind : (state next : State) (place : Place) (a b c id : ℕ) → state.place ≡ place → headed_at state place a b c id ≡ Some next → IsBehind state next a b c id
headed-behind state next First a b c id at is = elim (cases_Bool (is_header state a b c id)) [
  | inl here ↦ record { first = at; is = here; makes = some_same next (in_body state ((a + 256 * b) + 65536 * c)) (sym is ∙ ap (λ (y : Bool). if y then Some (in_body state ((a + 256 * b) + 65536 * c)) else None) here) }
  | inr not_here ↦ absurd (none-some next (sym (ap (λ (y : Bool). if y then Some (in_body state ((a + 256 * b) + 65536 * c)) else None) not_here) ∙ is))
]
headed-behind state next (Second low) a b c id at is = absurd (none-some next is)
headed-behind state next (Third low) a b c id at is = absurd (none-some next is)
headed-behind state next (IdPlace size) a b c id at is = absurd (none-some next is)
headed-behind state next (BodyPlace left long) a b c id at is = absurd (none-some next is)

-- so the client's id is written, and the walk goes on in the body
walked-header : (began : State) (given : List ℕ) (server client number : ℕ) (body : Body) (piece : List ℕ) (at a b c id : ℕ)
    → InWalk began given (at_first server client number body) piece at → at + 4 ≤ length piece → a ≡ slice_index_or piece at 0 → b ≡ slice_index_or piece (at + 1) 0
    → c ≡ slice_index_or piece (at + 2) 0 → id ≡ slice_index_or piece (at + 3) 0 → Heads (at_first server client number body) a b c id
    → InWalk began given (in_body (at_first server client number body) ((a + 256 * b) + 65536 * c)) (slice_set piece (at + 3) client) (at + 4)
walked-header began given server client number body piece at a b c id so_far fits is_a is_b is_c is_id steps =
    let state = at_first server client number body in
    let two : at + 1 + 1 ≡ at + 2 = omega arith in
    let three : at + 2 + 1 ≡ at + 3 = omega arith in
    let four : at + 3 + 1 ≡ at + 4 = omega arith in
    let first = walk-kept began given state _ piece at a so_far (omega arith) is_a refl steps.low in
    let second = subst (λ n. InWalk began given (placed state (Third (a + 256 * b))) piece n) two
    (walk-kept began given (placed state (Second a)) _ piece (at + 1) b first (omega arith) is_b refl steps.high) in
    let third = subst (λ n. InWalk began given (placed state (IdPlace ((a + 256 * b) + 65536 * c))) piece n) three
    (walk-kept began given (placed state (Third (a + 256 * b))) _ piece (at + 2) c second (omega arith) is_c refl steps.whole) in
    subst (λ n. InWalk began given (in_body state ((a + 256 * b) + 65536 * c)) (slice_set piece (at + 3) client) n) four
    (walk-on began given (placed state (IdPlace ((a + 256 * b) + 65536 * c))) _ piece (at + 3) id client third (omega arith) is_id refl steps.numbers)

at_place : (state : State) → state.place ≡ First → state ≡ at_first state.server state.client state.number state.body
at_place state first = ap (λ (p : Place). record state { place = p }) first

pub walk-headed : (began : State) (given : List ℕ) (state next : State) (piece : List ℕ) (at a b c id : ℕ) → InWalk began given state piece at
    → at + 4 ≤ length piece → a ≡ slice_index_or piece at 0 → b ≡ slice_index_or piece (at + 1) 0 → c ≡ slice_index_or piece (at + 2) 0
    → id ≡ slice_index_or piece (at + 3) 0 → headed state a b c id ≡ Some next → InWalk began given next (slice_set piece (at + 3) state.client) (at + 4)
walk-headed began given state next piece at a b c id so_far fits is_a is_b is_c is_id is =
    let found = headed-behind state next state.place a b c id refl is in
    let same : state ≡ at_first state.server state.client state.number state.body = at_place state found.first in
    let P : State → Type 0 = λ s. InWalk began given (in_body s ((a + 256 * b) + 65536 * c)) (slice_set piece (at + 3) state.client) (at + 4) in
    let Q : State → Type 0 = λ s. InWalk began given s piece at in
    let is_headed : is_header (at_first state.server state.client state.number state.body) a b c id ≡ true =
    subst (λ (s : State). is_header s a b c id ≡ true) same found.is in
    subst (λ (s : State). InWalk began given s (slice_set piece (at + 3) state.client) (at + 4)) (sym found.makes)
    (subst P (sym same)
    (walked-header began given state.server state.client state.number state.body piece at a b c id (subst Q same so_far) fits is_a is_b is_c is_id
    (heads state.server state.client state.number state.body a b c id is_headed)))
