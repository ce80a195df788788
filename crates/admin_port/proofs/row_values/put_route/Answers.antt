use Rattle.std.specs.Prelude.{◌++◌, [], ◌∷◌, codes}
use Rattle.std.proofs.Common.{◌∙◌}
use Rattle.std.proofs.lemmas.Result.{on_ok_weaker}
use Rattle.admin_port.specs.RowValues.{named}
use Rattle.admin_port.proofs.Pushed.{four}
use Rattle.admin_port.proofs.row_values.put_route.Goals as goal

pub returns : goal.returns
returns c =
    on_ok_weaker c.put-4.result
    (λ last. four c.args.pairs.now.items c.put.new.pairs.items c.put-2.new.pairs.items c.put-3.new.pairs.items c.put-4.new.pairs.items
    (named (codes "flagOUT") c.in_ok-out.out) (named (codes "next_query_flagIN") c.in_ok-next.next) (named (codes "replace_pattern") c.in_ok-template.template) (named (codes "destination_hostgroup") c.in_ok-destination.destination)
    last c.in_ok-put-3.ensures c.in_ok-put-2.ensures c.in_ok-put.ensures
    ∙ (λ i. c.args.pairs.now.items ++ named (codes "flagOUT") (c.in_ok-out.ensures i) ∷ named (codes "next_query_flagIN") (c.in_ok-next.ensures i) ∷ named (codes "replace_pattern") (c.in_ok-template.ensures i) ∷ named (codes "destination_hostgroup") (c.in_ok-destination.ensures i) ∷ []))
    c.put-4.ensures
