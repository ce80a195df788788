use Rattle.std.proofs.Common.{◌≡◌, ℕ, ◌+◌, ◌%◌, ◌^◌, length, refl, sym, ap, ◌∙◌, arith, length-append}
use Rattle.reply_track.proofs.Replying.{renumbered-more, run-more}
use Rattle.reply_track.specs.Tracking.{started}
use Rattle.lent_link.proofs.laws.pieces_are_one.Goals as goal

more_read : (a b : ℕ) → (a % 2 ^ 64 + b) % 2 ^ 64 ≡ (a + b) % 2 ^ 64
more_read a b = omega arith

pub returns : goal.returns
returns c = record {
  none = λ sought. record { goes = refl; count = refl };
  ends = λ sought bytes piece r is. run-more (started sought) r.tracker.state bytes piece is.goes;
  handed = λ sought bytes piece r is. renumbered-more (started sought) r.tracker.state bytes piece is.goes;
  goes = λ sought bytes piece r state is more. record {
    goes = run-more (started sought) r.tracker.state bytes piece is.goes ∙ more;
    count = ap (λ (n : ℕ). n % 2 ^ 64) (length-append bytes piece) ∙ sym (more_read (length bytes) (length piece))
        ∙ ap (λ (n : ℕ). (n + length piece) % 2 ^ 64) is.count;
  };
}
