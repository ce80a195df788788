-- A piece that was walked over up to a place.
use Rattle.std.proofs.Common.{◌≡◌, ◌≤◌, ◌<◌, ℕ, zero, suc, ◌+◌, ◌-◌, Bool, false, nat_le, List, [], ◌∷◌, ◌++◌, length, take, drop, slice_set, slice_index_or, refl, ◌∙◌, sym, ap, subst, arith, length-drop, append_assoc, add-one}
use Rattle.std.proofs.lemmas.Bool.{lt-leb}
use Rattle.std.proofs.lemmas.List.{drop-drop, take-append-drop, take-set, drop-set}
use Rattle.std.proofs.Math.Seq.{drop-cons, take-add}
use Rattle.std.proofs.Math.Nat.{sub-zero}
use Rattle.mx_base.specs.Fields.{AreBytes}
use Rattle.reply_track.specs.declared.due.Next.{Next}
use Rattle.reply_track.specs.declared.reply.Progress.TheVariants.{Done}
use Rattle.reply_track.specs.declared.reply.ReplyEnd.{ReplyEnd}
use Rattle.reply_track.specs.declared.body.Body.{Body}
use Rattle.reply_track.specs.declared.body.Body.TheVariants.{Due as DueBody, Cell as CellBody, Number as NumberBody, Rest}
use Rattle.reply_track.specs.declared.place.Place.{Place}
use Rattle.reply_track.specs.declared.place.Place.TheVariants.{First, Second, Third, Id as IdPlace, Body as BodyPlace}
use Rattle.reply_track.specs.declared.place.State.{State}
use Rattle.reply_track.specs.declared.place.Outcome.{Outcome}
use Rattle.reply_track.specs.declared.place.Outcome.TheVariants.{On, Over}
use Rattle.reply_track.specs.Steps.{step, written}
use Rattle.reply_track.specs.Runs.{run, run_by, renumbered, renumbered_by, progress_of, StandsAt, Walked, passed_at, passed, place_behind, behind}
use Rattle.reply_track.specs.Runs.Ending.{Ended}

-- so far it was walked over, from the state and the bytes at the beginning
pub record InWalk (began : State) (given : List ℕ) (state : State) (piece : List ℕ) (at : ℕ) : Type 0 where
  pub are : AreBytes given
  pub within : at ≤ length piece
  pub size : length piece ≡ length given
  pub runs : run began given ≡ run state (drop at piece)
  pub writes : renumbered began given ≡ take at piece ++ renumbered state (drop at piece)

at_left : (server client number left : ℕ) (long : Bool) (next : Next) → State
at_left server client number left long next = record { server = server; client = client; number = number; place = BodyPlace left long; body = Rest next }

record Passes (state other : State) (bytes : List ℕ) (count : ℕ) : Type 0 where
  pub runs : run state bytes ≡ run other (drop count bytes)
  pub writes : renumbered state bytes ≡ take count bytes ++ renumbered other (drop count bytes)

passes : (server client number : ℕ) (long : Bool) (next : Next) (count left : ℕ) (bytes : List ℕ) → count < left → count ≤ length bytes
    → Passes (at_left server client number left long next) (at_left server client number (left - count) long next) bytes count
unfolding at_left
passes server client number long next zero left bytes less most = rw (sub-zero left) (record { runs = refl; writes = refl })
passes server client number long next (suc count) left [] less most = absurd (omega arith)
passes server client number long next (suc count) left (b ∷ bytes) less most =
    let others = passes server client number long next count (left - 1) bytes (omega arith) (omega arith) in
    let same : left - 1 - count ≡ left - suc count = omega arith in
    let more : 1 < left = omega arith in
    let behind_one : Passes (at_left server client number (left - 1) long next) (at_left server client number (left - suc count) long next) bytes count = rw (← same) others in
    let several : nat_le left 1 ≡ false = lt-leb left 1 more in
    let stepped : step (at_left server client number left long next) b ≡ On (at_left server client number (left - 1) long next) = rw several refl in
    record {
      runs = ap (λ (o : Outcome). run_by o b bytes (λ (n : State). run n bytes)) stepped ∙ behind_one.runs;
      writes = ap (λ (o : Outcome). renumbered_by o b b bytes (λ (n : State). renumbered n bytes)) stepped ∙ ap (λ bs. b ∷ bs) behind_one.writes;
    }

skips_at : (server client number : ℕ) (place : Place) (body : Body) (count : ℕ) (bytes : List ℕ) → count ≡ passed_at body place (length bytes) → 0 < count
    → Passes (record { server = server; client = client; number = number; place = place; body = body }) (record { server = server; client = client; number = number; place = place_behind place count; body = body }) bytes count
unfolding at_left
skips_at server client number place (DueBody due) count bytes is some = absurd (omega arith)
skips_at server client number place (CellBody cell) count bytes is some = absurd (omega arith)
skips_at server client number place (NumberBody field size value) count bytes is some = absurd (omega arith)
skips_at server client number First (Rest next) count bytes is some = absurd (omega arith)
skips_at server client number (Second low) (Rest next) count bytes is some = absurd (omega arith)
skips_at server client number (Third low) (Rest next) count bytes is some = absurd (omega arith)
skips_at server client number (IdPlace length) (Rest next) count bytes is some = absurd (omega arith)
skips_at server client number (BodyPlace left long) (Rest next) count bytes is some = passes server client number long next count left bytes (omega arith) (omega arith)

pub walk-passed : (began : State) (given : List ℕ) (state other : State) (piece : List ℕ) (at most count : ℕ) → InWalk began given state piece at → at ≤ length piece → most ≡ length piece - at → count ≡ passed state most → 0 < count → other ≡ behind state count
    → InWalk began given other piece (at + count)
walk-passed began given state other piece at most count so_far inside is_most is some goes =
    let rest : length (drop at piece) ≡ most = omega (arith, length-drop at piece) in
    let skip = skips_at state.server state.client state.number state.place state.body count (drop at piece) (rw rest is) some in
    let least : count ≤ most = rw is (passed_most state.body state.place most) in
    let left : drop count (drop at piece) ≡ drop (at + count) piece = drop-drop count at piece in
    rw goes (record {
      are = so_far.are;
      within = omega arith;
      size = so_far.size;
      runs = so_far.runs ∙ skip.runs ∙ ap (run (behind state count)) left;
      writes = so_far.writes ∙ ap (λ bs. take at piece ++ bs) (skip.writes ∙ ap (λ bs. take count (drop at piece) ++ renumbered (behind state count) bs) left)
          ∙ sym (append_assoc (take at piece) (take count (drop at piece)) (renumbered (behind state count) (drop (at + count) piece))) ∙ ap (λ bs. bs ++ renumbered (behind state count) (drop (at + count) piece)) (sym (take-add at count piece));
    }) where
      passed_most : (body : Body) (place : Place) (most : ℕ) → passed_at body place most ≤ most
      passed_most (DueBody due) place most = omega arith
      passed_most (CellBody cell) place most = omega arith
      passed_most (NumberBody field size value) place most = omega arith
      passed_most (Rest next) First most = omega arith
      passed_most (Rest next) (Second low) most = omega arith
      passed_most (Rest next) (Third low) most = omega arith
      passed_most (Rest next) (IdPlace length) most = omega arith
      passed_most (Rest next) (BodyPlace left long) most = omega arith

-- it ends at this byte
pub walk-over : (began : State) (given : List ℕ) (state : State) (piece : List ℕ) (at byte new : ℕ) (end : ReplyEnd) → InWalk began given state piece at → at < length piece → byte ≡ slice_index_or piece at 0 → new ≡ written state byte → step state byte ≡ Over end
    → Walked began given state (slice_set piece at new) (Done (at + 1) end)
walk-over began given state piece at byte new end so_far inside is_byte is_new over =
    let cut : drop at piece ≡ byte ∷ drop (suc at) piece = rw is_byte (drop-cons piece at 0 inside) in
    let runs : run began given ≡ Ended end (drop (suc at) piece) = so_far.runs ∙ ap (run state) cut ∙ ap (λ (o : Outcome). run_by o byte (drop (suc at) piece) (λ (n : State). run n (drop (suc at) piece))) over in
    let writes : renumbered began given ≡ take at piece ++ (new ∷ drop (suc at) piece) = so_far.writes ∙ ap (λ bs. take at piece ++ bs) (ap (renumbered state) cut ∙ ap (λ (o : Outcome). renumbered_by o (written state byte) byte (drop (suc at) piece) (λ (n : State). renumbered n (drop (suc at) piece))) over ∙ ap (λ n. n ∷ drop (suc at) piece) (sym is_new)) in
    let set : slice_set piece at new ≡ take at piece ++ (new ∷ drop (suc at) piece) = sym (take-append-drop at (slice_set piece at new)) ∙ cc (take-set piece at new, drop-set piece at new inside, add-one at) in
    let place : length given - length (drop (suc at) piece) ≡ at + 1 = omega (arith, length-drop (suc at) piece, so_far.size) in
    record {
      are = so_far.are;
      answers = sym (ap (progress_of (length given)) runs ∙ ap (λ n. Done n end) place);
      writes = set ∙ sym writes;
      stands = subst (StandsAt state) (sym runs) tt;
    }
