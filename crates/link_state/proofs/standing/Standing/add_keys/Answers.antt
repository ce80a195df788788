use Rattle.std.proofs.Common.{rules, ap, ◌∙◌, ◌≡◌, ◌||◌, Bool, map, nat_eq}
use Rattle.std.specs.HashSet.{contains}
use Rattle.std.specs.Map.{keys_of}
use Rattle.std.specs.Map.Iter.{deref}
use Rattle.std.proofs.lemmas.Map.Iter.{iter_end}
use Rattle.link_state.proofs.Keyed.{shown_keys}
use Rattle.link_state.proofs.standing.Standing.add_keys.Goals as goal

pub returns : goal.returns
returns c = λ q.
    let all : map deref c.loop-key.yielded ≡ keys_of c.self.inside.numbers.entries = search (rules, iter_end) in
    let seen : c.self.inside.numbers.entries ≡ c.args.self.now = search rules in
    c.loop-key.invariant q
    ∙ ap (λ (there : Bool). contains nat_eq c.args.all.now q || there) (shown_keys q c.loop-key.yielded c.args.self.now (all ∙ ap keys_of seen))
