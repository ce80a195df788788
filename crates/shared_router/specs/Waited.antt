-- Parts of the promise that the loop waits at rest, in its own words.
use Rattle.std.specs.Prelude.{All, ◌≡◌, ◌⊎◌, ◌<◌, ◌≤◌, false, is_some, true, Some}
use Rattle.std.specs.List.{list_any}
use Rattle.mx_base.specs.declared.names.LinkId.{LinkId}
use Rattle.mx_wire.specs.Log.{Log, is_open, of_link, written_of}
use Rattle.mx_wire.specs.declared.entry.Entry.{Entry}
use Rattle.mx_wire.specs.declared.entry.Entry.TheVariants.{Over, WaitFailed, Woke}
use Rattle.ready_loop.specs.Drained.{write_dry}
use Rattle.private_model.specs.Names.{SessionName}
use Rattle.private_model.specs.View.{session_in}
use Rattle.log_story.specs.Honest.{IsStep}
use Rattle.log_story.specs.Owed.{name_of}
use Rattle.log_story.specs.Tale.{Client, is_to_server}
use Rattle.tale_world.specs.Policy.{Readied}
use Rattle.router_promises.specs.Due.{due_to}
use Rattle.router_promises.specs.Dues.{is_due}
use Rattle.router_promises.specs.Ends.{was_answered}
use Rattle.router_promises.specs.Keys.{LinkKey, how_many, is_at_work, is_idle, is_stepping, is_vacant, waiting}
use Rattle.router_promises.specs.Now.{Now, link_now, now_at, wire_now}
use Rattle.router_promises.specs.Rest.{IsBegunWhole, IsInWork, IsRead, is_answered_on, is_failed_write, owes_capture, owes_reset}
use Rattle.router_promises.specs.Terms.{Terms, plan_in, setup_in}
use Rattle.router_promises.specs.Wakes.{has_ended, wakes_at}
use Rattle.shared_router.specs.Fixed.{Fixed}
use Rattle.shared_router.specs.Known.{Known, known, link_by, present_by}
use Rattle.shared_router.specs.Lends.{readied_now}
use Rattle.shared_router.specs.Shared.{world_at}
use Rattle.shared_router.specs.Wishes.{wish_on}

-- it holds where the loop waits, or is over
abbrev pub AsItWaits : (Terms → Log → Now → Type 0) → Terms → Log → Entry → Type 0
AsItWaits Holds terms log (Woke until_ms now_ms) = Holds terms log (now_at terms log)
AsItWaits Holds terms log WaitFailed = Holds terms log (now_at terms log)
AsItWaits Holds terms log Over = Holds terms log (now_at terms log)
AsItWaits Holds terms log _ = Unit {0}

-- each open link was read dry, or may be left
abbrev pub AreRead : Terms → Log → Now → Type 0
AreRead terms log now = (link : LinkId) → IsRead terms log now link

-- All that a client is due is written, or its link takes no more; and where it ended, its link takes no more.
pub record IsTold (terms : Terms) (log : Log) (now : Now) (client : Client) : Type 0 where
  pub told : (written_of client.link log ≡ due_to terms now client) ⊎ (write_dry client.link log ≡ true)
  pub ends : has_ended terms now client ≡ true → write_dry client.link log ≡ true

-- of each client whose link is open
abbrev pub AreTold : Terms → Log → Now → Type 0
AreTold terms log now = All (λ (client : Client). is_open client.link log ≡ true → IsTold terms log now client) now.tale.clients

-- the loop asks to be woken at the first moment at which there is something to do
abbrev pub WakesSo : Terms → Log → Entry → Type 0
WakesSo terms log (Woke until_ms now_ms) = until_ms ≡ wakes_at terms log (now_at terms log)
WakesSo terms log _ = Unit {0}

-- What began on a link is written whole: a question, a STMT_CLOSE or a STMT_RESET.
pub record IsBegunThere (terms : Terms) (now : Now) (link : LinkId) : Type 0 where
  pub begun : IsBegunWhole (setup_in terms) now link (link_now (setup_in terms) now link).stage
  pub closed : IsStep (wire_now now link).step (wire_now now link).written

-- on each open link to a server that takes more
abbrev pub AreWhole : Terms → Log → Now → Type 0
AreWhole terms log now =
    (link : LinkId) → is_to_server now.tale link ≡ true → is_open link log ≡ true → write_dry link log ≡ false → IsBegunThere terms now link

-- neither the end of a session that was left is owed there nor its client's insert id
pub record OwesNoStep (terms : Terms) (now : Now) (link : LinkId) : Type 0 where
  pub reset : owes_reset (setup_in terms) now (link_now (setup_in terms) now link).carries ≡ false
  pub capture : owes_capture (setup_in terms) now (link_now (setup_in terms) now link).carries ≡ false

abbrev pub AskNothing : Terms → Log → Now → Type 0
AskNothing terms log now =
    (link : LinkId) → is_to_server now.tale link ≡ true → is_open link log ≡ true → write_dry link log ≡ false
    → is_answered_on (setup_in terms) now link ≡ true → OwesNoStep terms now link

-- no write to a client failed that goes on
abbrev pub AreUnbroken : Terms → Log → Now → Type 0
AreUnbroken terms log now =
    All (λ (client : Client). is_open client.link log ≡ true → has_ended terms now client ≡ false → list_any is_failed_write (of_link client.link log) ≡ false)
    now.tale.clients

-- Who waits is attended to.

-- the last message of a client that was taken up is answered or in work
abbrev pub IsWorked : Terms → Log → Now → Client → Type 0
IsWorked terms log now client = has_ended terms now client ≡ false → was_answered terms now client ≡ false
    → IsInWork terms log now client ((plan_in terms).routes (name_of client client.taken))

abbrev pub AreWorked : Terms → Log → Now → Type 0
AreWorked terms log now = All (λ (client : Client). is_open client.link log ≡ true → IsWorked terms log now client) now.tale.clients

-- where a link of a key is idle, no more statements wait than links are on their way to be lent
abbrev pub ServesAll : Terms → Log → Now → Type 0
ServesAll terms log now = (key : LinkKey) → 0 < how_many is_idle terms log now key → waiting terms now key ≤ how_many is_stepping terms log now key

pub record AreDone (terms : Terms) (log : Log) (now : Now) : Type 0 where
  pub clients : AreWorked terms log now
  pub idle : ServesAll terms log now

-- A link that carries nobody and on which something is wished is at work: something is unanswered there, or it takes no more.
abbrev pub WorksOn : Known → Type 0
WorksOn k = (link : LinkId) → is_to_server k.now.tale link ≡ true → is_vacant k.terms k.log k.now link ≡ true → is_some (wish_on k link) ≡ true
    → is_at_work k.terms k.log k.now link ≡ true

-- where the loop waits, or is over
abbrev pub WorksSo : Fixed → Log → Entry → Type 0
WorksSo fixed log (Woke until_ms now_ms) = WorksOn (known fixed (world_at fixed log))
WorksSo fixed log WaitFailed = WorksOn (known fixed (world_at fixed log))
WorksSo fixed log Over = WorksOn (known fixed (world_at fixed log))
WorksSo fixed log _ = Unit {0}

-- A link on which nothing stands, and which is readied for a statement that waits, or carries a session in which one is due, is asked for something: the
-- test before a first byte lets it by.

abbrev pub IsItsLink : Known → LinkId → SessionName → Type 0
IsItsLink k link n = ((r : Readied) × (readied_now k link ≡ Some r) × (r.name ≡ n)) ⊎ (session_in (link_by k link).carries ≡ Some n)

abbrev pub AsksForWhom : Known → Type 0
AsksForWhom k = (link : LinkId) (n : SessionName) → is_to_server k.now.tale link ≡ true → is_open link k.log ≡ true → IsItsLink k link n
    → present_by k n.client n.hostgroup ≡ n → is_due k.terms k.now.tale n ≡ true → is_at_work k.terms k.log k.now link ≡ false
    → is_some (wish_on k link) ≡ true

abbrev pub AsksSo : Fixed → Log → Entry → Type 0
AsksSo fixed log (Woke until_ms now_ms) = AsksForWhom (known fixed (world_at fixed log))
AsksSo fixed log WaitFailed = AsksForWhom (known fixed (world_at fixed log))
AsksSo fixed log Over = AsksForWhom (known fixed (world_at fixed log))
AsksSo fixed log _ = Unit {0}
