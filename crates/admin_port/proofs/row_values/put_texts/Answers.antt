use Rattle.std.specs.Prelude.{◌++◌, [], ◌∷◌, codes}
use Rattle.std.proofs.Common.{◌∙◌}
use Rattle.std.proofs.lemmas.Result.{on_ok_weaker}
use Rattle.admin_port.specs.RowValues.{named}
use Rattle.admin_port.proofs.Pushed.{three}
use Rattle.admin_port.proofs.row_values.put_texts.Goals as goal

pub returns : goal.returns
returns c =
    on_ok_weaker c.put-3.result
    (λ last. three c.args.pairs.now.items c.put.new.pairs.items c.put-2.new.pairs.items c.put-3.new.pairs.items
    (named (codes "digest") c.in_ok-digest.digest) (named (codes "match_digest") c.in_ok-match_digest.match_digest) (named (codes "match_pattern") c.in_ok-match_pattern.match_pattern)
    last c.in_ok-put-2.ensures c.in_ok-put.ensures
    ∙ (λ i. c.args.pairs.now.items ++ named (codes "digest") (c.in_ok-digest.ensures i) ∷ named (codes "match_digest") (c.in_ok-match_digest.ensures i) ∷ named (codes "match_pattern") (c.in_ok-match_pattern.ensures i) ∷ []))
    c.put-3.ensures
