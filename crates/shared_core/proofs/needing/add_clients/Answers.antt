use Rattle.std.proofs.Common.{rules, ap, ◌∙◌, ◌≡◌, ◌||◌, Bool, map, nat_eq}
use Rattle.std.specs.HashSet.{contains}
use Rattle.std.specs.Map.{values_of}
use Rattle.std.specs.Map.Iter.{deref}
use Rattle.std.proofs.lemmas.Map.Iter.{iter_end}
use Rattle.core_tables.specs.Tables.{tables_of}
use Rattle.core_tables.specs.declared.client.Client.{Client}
use Rattle.shared_core.specs.Needed.{needs}
use Rattle.shared_core.proofs.Needed.{any_shown, or_true, value_among}
use Rattle.shared_core.proofs.needing.add_clients.Goals as goal

pub returns : goal.returns
unfolding tables_of
returns c = λ client row q there needed.
    let all : map deref c.loop-row.yielded ≡ values_of c.args.tables.now.clients.entries = search (rules, iter_end) in
    c.loop-row.invariant q
    ∙ ap (λ (b : Bool). contains nat_eq c.args.needed.now q || b)
    (any_shown (λ (r : Client). needs r q) c.loop-row.yielded (values_of c.args.tables.now.clients.entries) all
    ∙ value_among (nat_eq client.0) (λ (r : Client). needs r q) c.args.tables.now.clients.entries row there needed)
    ∙ or_true (contains nat_eq c.args.needed.now q)
