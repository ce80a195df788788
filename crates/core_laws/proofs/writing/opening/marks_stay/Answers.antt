use Rattle.core_laws.proofs.OfWriting.Marks.{drops, marks_so}
use Rattle.core_laws.proofs.writing.opening.marks_stay.Goals as goal

pub returns-clause-runs : goal.returns-clause-runs
returns-clause-runs c = λ service g t l stands to_server. marks_so c.clients_at_stay.ensures c.rows_run_unseen.ensures service g t l stands

pub returns-clause-drops : goal.returns-clause-drops
returns-clause-drops c = λ service g t l stands. drops c.clients_at_stay.ensures c.rows_run_unseen.ensures service g t l stands
