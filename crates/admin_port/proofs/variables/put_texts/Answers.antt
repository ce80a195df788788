use Rattle.std.specs.Prelude.{codes}
use Rattle.std.proofs.lemmas.Result.{on_ok_weaker}
use Rattle.admin_port.specs.Variables.{variable}
use Rattle.admin_port.proofs.Pushed.{three}
use Rattle.admin_port.proofs.variables.put_texts.Goals as goal

pub returns : goal.returns
returns c =
    on_ok_weaker c.put_text-3.result
    (λ last. three c.args.rows.now.items c.put_text.new.rows.items c.put_text-2.new.rows.items c.put_text-3.new.rows.items
    (variable (codes "admin_user") c.args.proxy.now.admin_user) (variable (codes "server_version") c.args.proxy.now.server_version)
    (variable (codes "default_schema") c.args.proxy.now.default_schema) last c.in_ok-put_text-2.ensures c.in_ok-put_text.ensures)
    c.put_text-3.ensures
