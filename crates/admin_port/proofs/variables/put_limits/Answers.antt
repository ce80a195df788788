use Rattle.std.specs.Prelude.{◌++◌, [], ◌∷◌, codes}
use Rattle.std.specs.Fmt.{decimal}
use Rattle.std.proofs.Common.{◌∙◌}
use Rattle.std.proofs.lemmas.Result.{on_ok_weaker}
use Rattle.admin_port.specs.Variables.{variable}
use Rattle.admin_port.proofs.Pushed.{three}
use Rattle.admin_port.proofs.variables.put_limits.Goals as goal

pub returns : goal.returns
returns c =
    on_ok_weaker c.put_number-3.result
    (λ last. three c.args.rows.now.items c.put_number.new.rows.items c.put_number-2.new.rows.items c.put_number-3.new.rows.items
    (variable (codes "max_clients") (decimal c.from.result)) (variable (codes "max_packet") (decimal c.args.proxy.now.max_packet))
    (variable (codes "buffer_budget") (decimal c.args.proxy.now.buffer_budget)) last c.in_ok-put_number-2.ensures c.in_ok-put_number.ensures
    ∙ (λ i. c.args.rows.now.items ++ variable (codes "max_clients") (decimal (c.from.ensures i)) ∷ variable (codes "max_packet") (decimal c.args.proxy.now.max_packet)
    ∷ variable (codes "buffer_budget") (decimal c.args.proxy.now.buffer_budget) ∷ []))
    c.put_number-3.ensures
