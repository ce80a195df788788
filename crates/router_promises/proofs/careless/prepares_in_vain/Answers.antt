use Rattle.std.proofs.Common.{sym, ◌∙◌}
use Rattle.mx_base.specs.declared.tag.Tag.TheVariants as tags
use Rattle.router_promises.proofs.Cares.{may-begin}
use Rattle.router_promises.proofs.Refusals.{kept-at, never}
use Rattle.router_promises.proofs.careless.prepares_in_vain.Goals as goal

pub returns : goal.returns
returns c = λ terms before link client ordinal bytes has there begins unwanted.
    never (sym (may-begin terms before link (tags.Prep client ordinal) bytes (kept-at _ before has.more _ has.keeps.steps) there begins)
    ∙ unwanted)
