use Rattle.std.proofs.Common.{refl}
use Rattle.small_server.specs.Tally.{tests}
use Rattle.router_cases.specs.Worked.{log, nothing, reads, small, terms_with}
use Rattle.router_cases.proofs.Computed.{honest, worked}
use Rattle.router_cases.proofs.can_be_private.Goals as goal

pub returns : goal.returns
returns c = record {
  honest = honest;
  private = c.kept_is_written_privately.ensures (terms_with nothing) tests small log (c.laws_can_be_met.ensures reads) (λ at. refl)
      (c.kept_by_test.ensures (terms_with nothing) log (worked nothing)) honest;
}
