use Rattle.std.proofs.Common.{sym, ◌∙◌}
use Rattle.client_session.specs.Errors.{connection_lost}
use Rattle.mx_wire.specs.declared.entry.Entry.TheVariants as entry
use Rattle.router_promises.proofs.Refusals.{never}
use Rattle.core_promises.proofs.Given.{cause-of, its-link}
use Rattle.core_promises.proofs.giving.gives_up_for_anothers_link.Goals as goal

pub returns : goal.returns
returns c = λ terms before link client given other.
    never (sym (its-link _ (cause-of terms before (entry.Ended link) client connection_lost given)) ∙ other)
