-- Pieces of a reply, one behind the other.
use Rattle.std.proofs.Common.{◌≡◌, ◌<◌, ℕ, zero, suc, ◌+◌, ◌-◌, List, [], ◌++◌, length, Option, Some, None, refl, ◌∙◌, sym, ap, subst, arith, lit<, length-append}
use Rattle.mx_base.specs.declared.tag.Tag.{Tag}
use Rattle.mx_base.specs.Fields.{AreBytes}
use Rattle.reply_track.specs.declared.place.State.{State}
use Rattle.reply_track.specs.Runs.{Ending, run, renumbered, progress_of}
use Rattle.reply_track.specs.Runs.Ending.{Going, Ended, Failed}
use Rattle.reply_track.specs.Tracking.{Sought, Answers, started}
use Rattle.reply_track.proofs.Answering.{answers}
use Rattle.reply_track.proofs.Replying.{SameEnd, run-same, run-more, ended-shorter, failed-shorter}
use Rattle.reply_relay.specs.declared.asked.Asked.{Asked}
use Rattle.reply_relay.specs.declared.asked.Replying.{Replying}
use Rattle.reply_relay.specs.declared.asked.Wanted.{Wanted}
use Rattle.reply_relay.specs.declared.relay.Relay.{Relay}
use Rattle.reply_relay.specs.Relays.{Hearing, asking, relay_taken, counted, due, due_by, followed, read_on, hearing_by, hears, reply_to, replying_to}
use Rattle.reply_relay.specs.Relaying.{IsRelaying, IsRelayed, ReadsAs}

counted-again : (a b : ℕ) → counted (counted 0 a) b ≡ counted 0 (a + b)
counted-again a b = grind arith

pub begins : (tag : Tag) (packets : List ℕ) (wanted : Wanted) (n : ℕ) → 0 < n
    → IsRelaying (reply_to packets wanted) [] [] (relay_taken n (asking tag packets (Some wanted)))
begins tag packets wanted zero some = absurd (omega arith)
begins tag packets wanted (suc n) some = record {
  replying = replying_to packets wanted;
  due = let same : 0 + suc n ≡ suc n = omega arith in ap (λ (sent : ℕ). due_by sent (Some (replying_to packets wanted))) same;
  took = record { small = omega arith; are = λ i. lit< tt; goes = refl; makes = refl };
  count = refl;
}

-- a reply that goes on stays due
still-due : (asked : Option Asked) (replying next : Replying) → due (record { asked = asked }) ≡ Some replying → due (followed next (record { asked = asked })) ≡ Some next
still-due None replying next is = absurd (cc)
still-due (Some asked) replying next is = by asked.sent is where
  by : (sent : ℕ) → due_by sent asked.reply ≡ Some replying → due_by sent (Some next) ≡ Some next
  by zero is = absurd (cc)
  by (suc sent) is = refl

module _ (sought : Sought) (read passed piece : List ℕ) (relay : Relay) (at : IsRelaying sought read passed relay) where
  abbrev state : State
  state = at.replying.tracker.state

  heard : hears piece relay ≡ hearing_by piece at.replying relay (run state piece)
  heard = rw at.due refl

  told : AreBytes piece → (ending : Ending) → run state piece ≡ ending
      → IsRelayed sought read passed piece (hearing_by piece at.replying relay ending).told (hearing_by piece at.replying relay ending).relay (hearing_by piece at.replying relay ending).piece
  told are (Going next) goes =
      let more = answers sought read passed piece (renumbered state piece) state next (progress_of (length piece) (run state piece)) are at.took
      (record { are = are; answers = refl; writes = refl; stands = rw goes refl }) in
      let said : Answers sought read passed piece (renumbered state piece) next (progress_of (length piece) (Going next)) =
      subst (λ (e : Ending). Answers sought read passed piece (renumbered state piece) next (progress_of (length piece) e)) goes more in (
        said.goes_on,
        record {
          replying = read_on (length piece) next at.replying;
          due = still-due relay.asked at.replying (read_on (length piece) next at.replying) at.due;
          took = said.took;
          count = ap (λ n. counted n (length piece)) at.count ∙ counted-again (length read) (length piece) ∙ ap (counted 0) (sym (length-append read piece));
        },
      )
  told are (Ended end rest) goes =
      let more = answers sought read passed piece (renumbered state piece) state state (progress_of (length piece) (run state piece)) are at.took
      (record { are = are; answers = refl; writes = refl; stands = rw goes tt }) in
      (subst (λ (e : Ending). Answers sought read passed piece (renumbered state piece) state (progress_of (length piece) e)) goes more, refl)
  told are (Failed rest) goes =
      let more = answers sought read passed piece (renumbered state piece) state state (progress_of (length piece) (run state piece)) are at.took
      (record { are = are; answers = refl; writes = refl; stands = rw goes tt }) in (
        length piece - length rest,
        subst (λ (e : Ending). Answers sought read passed piece (renumbered state piece) state (progress_of (length piece) e)) goes more,
        ap (λ n. counted n (length piece - length rest)) at.count ∙ counted-again (length read) (length piece - length rest),
      )

  pub pieces : AreBytes piece → IsRelayed sought read passed piece (hears piece relay).told (hears piece relay).relay (hears piece relay).piece
  pieces are = subst (λ (h : Hearing). IsRelayed sought read passed piece h.told h.relay h.piece) (sym heard) (told are (run state piece) refl)

  all : run (started sought) (read ++ piece) ≡ run state piece
  all = run-more (started sought) state read piece at.took.goes

  read-by : (ending other : Ending) → run state piece ≡ ending → SameEnd ending other
      → ReadsAs (length piece) (length (read ++ piece)) (hearing_by piece at.replying relay ending).told other
  read-by (Going a) (Going b) is same = tt
  read-by (Ended end rest) (Ended last behind) is same =
      (same.0, omega (arith, ended-shorter state piece rest end is, ap length same.1))
  read-by (Failed rest) (Failed behind) is same =
      ap (λ n. counted n (length piece - length rest)) at.count ∙ counted-again (length read) (length piece - length rest)
      ∙ ap (counted 0) (omega (arith, failed-shorter state piece rest is, length-append read piece, ap length same))
  read-by (Going a) (Ended last behind) is same = absurd same
  read-by (Going a) (Failed behind) is same = absurd same
  read-by (Ended end rest) (Going b) is same = absurd same
  read-by (Ended end rest) (Failed behind) is same = absurd same
  read-by (Failed rest) (Going b) is same = absurd same
  read-by (Failed rest) (Ended last behind) is same = absurd same

  pub as-one : (client number : ℕ) → ReadsAs (length piece) (length (read ++ piece)) (hears piece relay).told (run (started (record sought { client = client; number = number })) (read ++ piece))
  as-one client number =
      let other : Ending = run (started (record sought { client = client; number = number })) (read ++ piece) in
      let same : SameEnd (run state piece) other = subst (λ (e : Ending). SameEnd e other) all (run-same (read ++ piece) (started sought) (started (record sought { client = client; number = number })) refl) in
      subst (λ (h : Hearing). ReadsAs (length piece) (length (read ++ piece)) h.told other) (sym heard) (read-by (run state piece) other refl same)
