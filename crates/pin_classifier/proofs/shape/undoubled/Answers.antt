use Rattle.std.proofs.Common.{◌≡◌, ◌+◌, ◌&&◌, ℕ, false, nat_eq, List, [], ◌∷◌, ◌++◌, drop, get_or, sym, ◌∙◌, ap, append_assoc, eq-eqb}
use Rattle.std.proofs.lemmas.Bool.{and_left, and_right, ne_eqb}
use Rattle.std.proofs.lemmas.List.{drop_more}
use Rattle.pin_classifier.specs.Shapes.{undoubled}
use Rattle.pin_classifier.proofs.Backticks.{undoubled_behind, undoubled-left_out, undoubled-kept}
use Rattle.pin_classifier.proofs.shape.undoubled.Goals as goal
use Rattle.pin_classifier.proofs.shape.undoubled.Goals.{then-doubles+then-byte-eq96, else-doubles+in_ok-push, else-doubles-via-then-doubles+else-byte-eq96, else-doubles-via-else-doubles}

pub loop-byte-preserved : goal.loop-byte-preserved
loop-byte-preserved c =
    let out = c.loop-byte.out.items in
    let bytes = c.args.bytes.now in
    let k = c.loop-byte.byte-index in
    let byte = get_or bytes k 0 in
    let rest = drop (k + 1) bytes in
    let doubles = c.loop-byte.doubles in
    let left : drop k bytes ≡ byte ∷ rest = drop_more bytes k 0 c.loop-byte-test.true in
    let before : out ++ undoubled_behind doubles (byte ∷ rest) ≡ undoubled bytes = ap (λ (xs : List ℕ). out ++ undoubled_behind doubles xs) (sym left) ∙ c.loop-byte.invariant in
    elim c.if-doubles.branch [
      | then-doubles+then-byte-eq96 w ↦
          let left_out : undoubled_behind doubles (byte ∷ rest) ≡ undoubled_behind false rest = ap (λ d. undoubled_behind d (byte ∷ rest)) w.if-doubles.true ∙ undoubled-left_out byte rest (eq-eqb byte 96 w.if-byte-eq96.true) in
          ap (λ v. v.items ++ undoubled_behind c.if-doubles.doubles rest) w.out-is
          ∙ ap (λ d. out ++ undoubled_behind d rest) w.doubles-is
          ∙ sym (ap (λ (xs : List ℕ). out ++ xs) left_out)
          ∙ before
      | else-doubles+in_ok-push w ↦
          let no_double : doubles && nat_eq byte 96 ≡ false = elim w.else-doubles.branch [
            | else-doubles-via-then-doubles+else-byte-eq96 x ↦ and_right doubles (nat_eq byte 96) (ne_eqb byte 96 x.if-byte-eq96.false)
            | else-doubles-via-else-doubles x ↦ and_left doubles (nat_eq byte 96) x.if-doubles.false
          ] in
          ap (λ v. v.items ++ undoubled_behind c.if-doubles.doubles rest) w.out-is
          ∙ ap (λ d. w.push.new.self.items ++ undoubled_behind d rest) w.doubles-is
          ∙ ap (λ (xs : List ℕ). xs ++ undoubled_behind (nat_eq byte 96) rest) w.in_ok-push.ensures.items
          ∙ append_assoc out (byte ∷ []) (undoubled_behind (nat_eq byte 96) rest)
          ∙ sym (ap (λ (xs : List ℕ). out ++ xs) (undoubled-kept doubles byte rest no_double))
          ∙ before
    ]
