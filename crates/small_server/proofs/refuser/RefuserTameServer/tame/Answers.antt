use Rattle.server_rule.specs.Classes.{router_reads}
use Rattle.small_server.specs.Refusing.{refuses_tame}
use Rattle.small_server.proofs.refuser.RefuserTameServer.tame.Goals as goal

pub returns : goal.returns
returns c = refuses_tame router_reads
