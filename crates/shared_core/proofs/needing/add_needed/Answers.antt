use Rattle.std.specs.Prelude.{◌||◌, Bool, nat_eq}
use Rattle.std.specs.HashSet.{contains}
use Rattle.std.proofs.Common.{ap, ◌∙◌}
use Rattle.std.proofs.lemmas.Result.{on_ok_weaker}
use Rattle.shared_core.specs.Needed.{have_prepared, works_on}
use Rattle.shared_core.proofs.Needed.{or_either}
use Rattle.shared_core.proofs.needing.add_needed.Goals as goal

pub returns : goal.returns
returns c =
    on_ok_weaker c.add_statements.result
    (λ added q. added q
    ∙ ap (λ (there : Bool). there || have_prepared c.args.row.now.desk.seat.statements q) (c.in_ok-add_work.ensures q)
    ∙ or_either (contains nat_eq c.args.needed.now q) (works_on c.args.row.now.desk.work q) (have_prepared c.args.row.now.desk.seat.statements q))
    c.add_statements.ensures
