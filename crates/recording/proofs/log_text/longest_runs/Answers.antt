use Rattle.recording.proofs.LongestRuns.{longest}
use Rattle.recording.proofs.log_text.longest_runs.Goals as goal

pub returns : goal.returns
returns c = longest
