use Rattle.audit_report.proofs.Digests as digests
use Rattle.audit_report.proofs.laws.digests_stay.Goals as goal

pub returns : goal.returns
returns c = digests.digests-stay
