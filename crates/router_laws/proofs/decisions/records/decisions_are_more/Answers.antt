use Rattle.std.specs.Prelude.{length}
use Rattle.std.proofs.Common.{sym}
use Rattle.core_laws.specs.entry.Cores.{with_entry}
use Rattle.router_laws.proofs.OfDecisions.Recording.{is_more, one_more}
use Rattle.router_laws.specs.decisions.Deeds.{among, known_with}
use Rattle.router_laws.proofs.decisions.records.decisions_are_more.Goals as goal

pub returns : goal.returns
returns c = λ d n log e deeds recorded.
    is_more d n log e (among (known_with log e) deeds) (length (with_entry log e)) recorded (sym (one_more log e))
