use Rattle.std.proofs.Common.{sym, ◌∙◌}
use Rattle.mx_base.proofs.Joined.{joined}
use Rattle.mx_base.proofs.fields.get_u32.Goals as goal

pub returns : goal.returns
returns c = sym (joined 2 2 c.args.at c.args.bytes.now c.in_ok-get_u16.field-0 c.in_ok-get_u16-2.field-0 (sym c.get_u16.ensures ∙ c.in_ok-get_u16.was) (sym c.get_u16-2.ensures ∙ c.in_ok-get_u16-2.was))
