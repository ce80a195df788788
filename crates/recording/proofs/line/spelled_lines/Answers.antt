use Rattle.recording.proofs.Spellings.{says_itself}
use Rattle.recording.proofs.line.spelled_lines.Goals as goal

pub returns : goal.returns
returns c = says_itself
