use Rattle.std.specs.Prelude.{◌++◌, [], ◌∷◌, codes}
use Rattle.std.proofs.Common.{◌∙◌}
use Rattle.std.proofs.lemmas.Result.{on_ok_weaker}
use Rattle.admin_port.specs.RowValues.{named}
use Rattle.admin_port.proofs.Pushed.{three}
use Rattle.admin_port.proofs.row_values.put_answers.Goals as goal

pub returns : goal.returns
returns c =
    on_ok_weaker c.put-3.result
    (λ last. three c.args.pairs.now.items c.put.new.pairs.items c.put-2.new.pairs.items c.put-3.new.pairs.items
    (named (codes "multiplex") c.in_ok-multiplex.multiplex) (named (codes "error_msg") c.in_ok-error.error) (named (codes "OK_msg") c.in_ok-ok.ok)
    last c.in_ok-put-2.ensures c.in_ok-put.ensures
    ∙ (λ i. c.args.pairs.now.items ++ named (codes "multiplex") (c.in_ok-multiplex.ensures i) ∷ named (codes "error_msg") (c.in_ok-error.ensures i) ∷ named (codes "OK_msg") (c.in_ok-ok.ensures i) ∷ []))
    c.put-3.ensures
