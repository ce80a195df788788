use Rattle.std.proofs.Common.{rules, ap, ◌∙◌, ◌≡◌, ◌||◌, Bool, map, nat_eq}
use Rattle.std.specs.HashSet.{contains}
use Rattle.std.specs.Map.{values_of}
use Rattle.std.specs.Map.Iter.{deref}
use Rattle.std.proofs.lemmas.Map.Iter.{iter_end}
use Rattle.stmt_map.specs.declared.statement.Statement.{Statement}
use Rattle.shared_core.proofs.Needed.{any_shown}
use Rattle.shared_core.proofs.needing.add_statements.Goals as goal

pub returns : goal.returns
returns c = λ q.
    let all : map deref c.loop-statement.yielded ≡ values_of c.args.statements.now.statements.entries = search (rules, iter_end) in
    c.loop-statement.invariant q
    ∙ ap (λ (there : Bool). contains nat_eq c.args.needed.now q || there)
    (any_shown (λ (s : Statement). nat_eq s.prepared.key q) c.loop-statement.yielded (values_of c.args.statements.now.statements.entries) all)
