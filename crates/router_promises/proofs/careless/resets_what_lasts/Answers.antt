use Rattle.std.proofs.Common.{sym, ◌∙◌}
use Rattle.mx_base.specs.declared.tag.Tag.TheVariants as tags
use Rattle.router_promises.proofs.Cares.{may-begin}
use Rattle.router_promises.proofs.Refusals.{kept-at, never}
use Rattle.router_promises.proofs.careless.resets_what_lasts.Goals as goal

pub returns : goal.returns
returns c = λ terms before link client hostgroup bytes has there begins lasts.
    never (sym lasts
    ∙ may-begin terms before link (tags.End client hostgroup) bytes (kept-at _ before has.more _ has.keeps.steps) there begins)
