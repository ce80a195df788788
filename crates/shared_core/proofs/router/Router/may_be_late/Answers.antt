use Rattle.std.proofs.Common.{sym, ◌∙◌}
use Rattle.core_texts.specs.Texts.{noted_at}
use Rattle.router_laws.specs.decisions.Noted.{WasNoted}
use Rattle.shared_core.specs.Stands.{tables}
use Rattle.shared_core.proofs.Causing.{late_by}
use Rattle.shared_core.proofs.router.Router.may_be_late.Goals as goal

pub returns-then-is_late-clause-late : goal.returns-then-is_late-clause-late
returns-then-is_late-clause-late c = λ waits.
    late_by c.args.wait_ms c.args.now_ms c.args.came (WasNoted (noted_at c.args.self.now.texts) (tables c.args.self.now) c.args.up.client)
    c.noted_since-noted.result c.args.up.why c.noted_since-noted.ensures (sym c.is_late.ensures ∙ c.if-is_late.true)
