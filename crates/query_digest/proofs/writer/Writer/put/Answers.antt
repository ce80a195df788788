use Rattle.std.proofs.Common.{◌≡◌, List, ◌++◌, ◌∷◌, None, ◌∙◌, sym, ap, append_assoc}
use Rattle.std.proofs.lemmas.List.Concat.{flat_map-append}
use Rattle.std.proofs.lemmas.Result.{on_ok_weaker}
use Rattle.query_digest.specs.Parts.{Spaced, folded, spelled, spaced_bytes}
use Rattle.query_digest.specs.Writing.{grown, part_of, held_parts}
use Rattle.query_digest.proofs.Folding.{apart_folds, nothing}
use Rattle.query_digest.proofs.writer.Writer.put.Goals as goal

pub returns : goal.returns
returns c =
    let held = c.args.self.now.held in
    let apart = c.args.apart in
    let part = part_of c.args.piece in
    let before = c.args.self.now.out.items in
    let none : grown held apart part ≡ None = sym c.grown.ensures ∙ nothing c.grown.result c.in_default.not-Some in
    let next : List Spaced → List Spaced = λ rest. record { apart = apart; part = part } ∷ rest in
    let released = c.in_ok-release.ensures in
    on_ok_weaker c.begin.result (λ begun rest.
    begun rest
    ∙ ap (λ xs. xs ++ spelled (folded (next rest))) released.out
    ∙ append_assoc before (spelled (held_parts held)) (spelled (folded (next rest)))
    ∙ ap (λ xs. before ++ xs) (sym (flat_map-append spaced_bytes (held_parts held) (folded (next rest))) ∙ ap spelled (sym (apart_folds held apart part rest none))))
    c.begin.ensures
