use Rattle.desk_laws.proofs.Changed.{first_messages, first_sessions}
use Rattle.desk_laws.proofs.sessions.first_stands.Goals as goal

pub returns-clause-sessions : goal.returns-clause-sessions
returns-clause-sessions c = first_sessions

pub returns-clause-messages : goal.returns-clause-messages
returns-clause-messages c = first_messages
