use Rattle.core_laws.proofs.OfParting.Reading.{any_kept, server_kept, unread_so}
use Rattle.core_laws.proofs.parting.frames.rows_of_others_stay.Goals as goal

pub returns-clause-row : goal.returns-clause-row
returns-clause-row c = server_kept

pub returns-clause-all : goal.returns-clause-all
returns-clause-all c = any_kept

pub returns-clause-unread : goal.returns-clause-unread
returns-clause-unread c = unread_so
