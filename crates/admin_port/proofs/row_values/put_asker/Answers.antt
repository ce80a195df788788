use Rattle.std.specs.Prelude.{◌++◌, [], ◌∷◌, codes}
use Rattle.std.proofs.Common.{ap, ◌∙◌}
use Rattle.std.proofs.lemmas.Result.{on_ok_weaker}
use Rattle.admin_port.specs.RowValues.{named, number_value}
use Rattle.admin_port.proofs.Pushed.{three}
use Rattle.admin_port.proofs.row_values.put_asker.Goals as goal

pub returns : goal.returns
returns c =
    on_ok_weaker c.put-3.result
    (λ last. three c.args.pairs.now.items c.put.new.pairs.items c.put-2.new.pairs.items c.put-3.new.pairs.items
    (named (codes "username") c.in_ok-username.username) (named (codes "schemaname") c.in_ok-schemaname.schemaname) (named (codes "flagIN") c.in_ok-flag.flag)
    last c.in_ok-put-2.ensures c.in_ok-put.ensures
    ∙ (λ i. c.args.pairs.now.items ++ named (codes "username") (c.in_ok-username.ensures i) ∷ named (codes "schemaname") (c.in_ok-schemaname.ensures i) ∷ named (codes "flagIN") ((c.in_ok-flag.ensures ∙ ap number_value c.from.ensures) i) ∷ []))
    c.put-3.ensures
