-- What the private world promises at a moment.
use Rattle.std.specs.Prelude.{◌≡◌, true, Some}
use Rattle.pin_classifier.specs.declared.class.Class.{Class}
use Rattle.private_model.specs.Names.{LinkId, ServerId, MessageName, SessionName}
use Rattle.private_model.specs.Commands.{Reply, class_of}
use Rattle.private_model.specs.Lawful.{IsPlaced}
use Rattle.private_model.specs.Story.{Due, Statement, message_of}
use Rattle.private_model.specs.View.{Answered, Asked, View}
use Rattle.private_model.specs.Worlds.{Private, Real, readied}
use Rattle.server_rule.specs.Classes.{Reads}
use Rattle.server_rule.specs.Servers.{AgreeWhere, Tests, with_diag, with_id}
use Rattle.server_rule.specs.declared.session.Session.{Session}

-- The session on the link is the private one, but for the insert id where the class doesn't mark it and for what diagnostics show
-- where it doesn't read it.
pub record IsSameFor (tests : Tests) (class : Class) (real private : Session) : Type 0 where
  pub rest : private ≡ with_diag private.diag (with_id private.last_id real)
  pub last_id : class.marks_id ≡ true → private.last_id ≡ real.last_id
  pub diag : AgreeWhere tests class.reads_diag class.reads_found private.diag real.diag

pub record MeetsPrivate (reads : Reads) (tests : Tests) (view : View) (real : Real) (private : Private) : Type 0 where
  pub stored : (server : ServerId) → private.stored server ≡ real.stored server
  -- a statement that is to run meets the session of its own
  pub sessions : (link : LinkId) (n : SessionName) (due : Due) → (real.peers link).alive ≡ true → (view.links link).stage ≡ Asked (Statement n due)
      → IsSameFor tests (class_of reads due.command) (real.peers link).session (readied due (private.sessions n))
  -- and the link was told what its client's statements left as it became due
  pub told : (link : LinkId) (n : SessionName) (due : Due) → (real.peers link).alive ≡ true → (view.links link).stage ≡ Asked (Statement n due) → IsPlaced (view.links link).told due.place
  -- one that ran is answered as there, however much of the answer is read yet
  pub answers : (link : LinkId) (n : SessionName) (due : Due) → (view.links link).stage ≡ Answered (Statement n due) → private.answers (message_of n due) ≡ Some (real.peers link).answer
  -- and so is each that was answered
  pub replies : (message : MessageName) (reply : Reply) → view.replies message ≡ Some reply → private.answers message ≡ Some reply
