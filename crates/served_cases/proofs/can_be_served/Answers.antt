use Rattle.std.proofs.Common.{subst}
use Rattle.router_promises.specs.Headline.{Keeps}
use Rattle.server_rule.specs.Classes.{router_reads}
use Rattle.served_cases.specs.Served.{class_read, decided, log, reads_by, router_by, terms_by}
use Rattle.served_cases.proofs.Computed.{reads-is, right}
use Rattle.served_cases.proofs.Configured.{configured}
use Rattle.served_cases.proofs.Read.{read}
use Rattle.served_cases.proofs.can_be_served.Goals as goal

pub returns : goal.returns
returns c = record {
  read = read;
  serves = record {
    router = router_by router_reads;
    configured = configured;
    promises = record {
      decided = decided;
      keeps = λ stored.
          subst (λ reads. Keeps (terms_by reads stored) log) reads-is
          (c.kept_by_test.ensures (terms_by (reads_by class_read) stored) log (right stored));
    };
  };
}
