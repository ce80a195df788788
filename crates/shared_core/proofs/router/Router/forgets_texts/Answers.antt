use Rattle.std.specs.Prelude.{nat_eq}
use Rattle.std.specs.HashSet.{contains}
use Rattle.std.proofs.lemmas.Result.{on_ok_weaker}
use Rattle.shared_core.specs.Stands.{tables}
use Rattle.shared_core.proofs.Needed.{keeps_texts}
use Rattle.shared_core.proofs.router.Router.forgets_texts.Goals as goal

pub returns-clause-kept : goal.returns-clause-kept
returns-clause-kept c =
    on_ok_weaker c.keep_only.result
    (λ kept. keeps_texts c.args.self.now.texts c.keep_only.new.self (tables c.args.self.now) (contains nat_eq c.add_links.new.needed)
    (λ client row number there needed. c.in_ok-add_links.ensures number (c.in_ok-add_clients.ensures client row number there needed)) kept)
    c.keep_only.ensures.kept
