-- What is due is a statement that was sent nowhere and has no reply, and is due in one session.
use Rattle.std.specs.Prelude.{◌≡◌, true, None, Some}
use Rattle.mx_wire.specs.Log.{Log}
use Rattle.private_model.specs.Lawful.{is_statement}
use Rattle.private_model.specs.Names.{SessionName}
use Rattle.private_model.specs.Story.{Due, message_of}
use Rattle.private_model.specs.View.{View}
use Rattle.log_story.specs.Tale.{view_of}
use Rattle.router_promises.specs.Terms.{Terms, setup_in, tale_at}

pub record IsFreshDue (view : View) (n : SessionName) (due : Due) : Type 0 where
  pub statement : is_statement due.command ≡ true
  pub unsent : view.carriers (message_of n due) ≡ None
  pub unheard : view.replies (message_of n due) ≡ None
  pub once : (m : SessionName) (other : Due) → view.dues m ≡ Some other → message_of m other ≡ message_of n due → m ≡ n

abbrev pub AreFreshDue : View → Type 0
AreFreshDue view = (n : SessionName) (due : Due) → view.dues n ≡ Some due → IsFreshDue view n due

abbrev pub FreshSo : Terms → Log → Type 0
FreshSo terms log = AreFreshDue (view_of (setup_in terms) (tale_at terms log))
