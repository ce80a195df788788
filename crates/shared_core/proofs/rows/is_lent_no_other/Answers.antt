use Rattle.std.specs.Prelude.{◌≡◌, true, nat_eq, IfSome, Option}
use Rattle.std.proofs.Common.{subst}
use Rattle.mx_base.specs.declared.names.LinkId.{LinkId}
use Rattle.shared_core.proofs.rows.is_lent_no_other.Goals as goal

pub returns-in-Some : goal.returns-in-Some
returns-in-Some c = λ is. subst (λ (o : Option LinkId). IfSome o (λ (home : LinkId). nat_eq home.0 c.args.link.0 ≡ true)) c.in-Some.ensures is

pub returns-in-None : goal.returns-in-None
returns-in-None c = λ is. subst (λ (o : Option LinkId). IfSome o (λ (home : LinkId). nat_eq home.0 c.args.link.0 ≡ true)) c.in-None.ensures tt
