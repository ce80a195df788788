-- What is done by the time that the loop waits. What isn't said: that a link is lent to a statement that waits for one; that one begins which is
-- due where a link carries its session; that a link is read before it is logged in, or closed after bytes that can't be; and that a client is told
-- that what it sent can't be a message.
use Rattle.std.specs.Prelude.{◌≡◌, ◌⊎◌, ◌||◌, ◌++◌, ℕ, true, false, All, if◌then◌else◌, length, List, [], Option, Some, None}
use Rattle.std.specs.List.{list_any}
use Rattle.mx_base.specs.declared.names.LinkId.{LinkId}
use Rattle.mx_base.specs.declared.names.Port.{Port}
use Rattle.mx_wire.specs.Log.{Log, is_open, written_of}
use Rattle.mx_wire.specs.Moments.{AllLawful}
use Rattle.mx_wire.specs.declared.entry.Entry.{Entry}
use Rattle.mx_wire.specs.declared.entry.Entry.TheVariants.{Woke, WaitFailed, Over}
use Rattle.ready_loop.specs.Drained.{all_accepted, all_named, read_dry, write_dry}
use Rattle.private_model.specs.Names.{MessageName, SessionName}
use Rattle.link_laws.specs.Stands.{Codes}
use Rattle.log_story.specs.Headline.{tale_of}
use Rattle.log_story.specs.Owed.{last_error, name_of}
use Rattle.log_story.specs.Plan.{Route}
use Rattle.log_story.specs.Tale.{Client}
use Rattle.tale_world.specs.Decided.{Decided}
use Rattle.core_laws.specs.entry.Tells.{Fits, IsOf}
use Rattle.router_promises.specs.Closes.{has_bad_bytes}
use Rattle.router_promises.specs.Due.{due_to}
use Rattle.router_promises.specs.Dues.{is_due, is_unsent}
use Rattle.router_promises.specs.Ends.{is_at_fault, was_answered}
use Rattle.router_promises.specs.Now.{Now, held_now, link_now, now_at, present_now, view_now}
use Rattle.router_promises.specs.Rest.{IsBegunWhole, is_ahead, is_behind}
use Rattle.router_promises.specs.Terms.{Terms, plan_in, setup_in}
use Rattle.router_promises.specs.Wakes.{has_ended}

-- A link that is open carries the session of a statement, which was sent there or is still due; a question that began there is written whole, or
-- the link takes no more.
pub record IsOnItsWay (terms : Terms) (log : Log) (now : Now) (m : MessageName) (n : SessionName) : Type 0 where
  pub link : LinkId
  pub home : (held_now (setup_in terms) now n).home ≡ Some link
  pub opened : is_open link log ≡ true
  pub stated : ((view_now (setup_in terms) now).carriers m ≡ Some link) ⊎ (is_due terms now.tale n ≡ true)
  pub goes : (write_dry link log ≡ true) ⊎ IsBegunWhole (setup_in terms) now link (link_now (setup_in terms) now link).stage

-- it waits for a link, or is on its way
abbrev pub IsAtWork : Terms → Log → Now → Client → Option Route → Type 0
IsAtWork terms log now client None = ⊥
IsAtWork terms log now client (Some route) =
    (is_unsent terms now.tale (present_now (setup_in terms) now client.number route.hostgroup) ≡ true)
    ⊎ IsOnItsWay terms log now (name_of client client.taken) (present_now (setup_in terms) now client.number route.hostgroup)

-- the error for what can't be a message, where all is answered that it stands behind
abbrev pub error_to : Terms → Now → Client → List ℕ
error_to terms now client = if is_at_fault terms now client then last_error (plan_in terms) client else []

-- Of a client that goes on: all that it is due is written but for that error, or its link takes no more; its link was read dry, or it has
-- something in work and sent a mebibyte more; and its last message that was taken up is answered or at work.
pub record IsServed (terms : Terms) (log : Log) (now : Now) (client : Client) : Type 0 where
  pub told : (written_of client.link log ++ error_to terms now client ≡ due_to terms now client) ⊎ (write_dry client.link log ≡ true)
  pub read : (read_dry client.link log || is_ahead terms now client) ≡ true
  pub worked : was_answered terms now client ≡ false
      → IsAtWork terms log now client ((plan_in terms).routes (name_of client client.taken))

-- A link to a server that is logged in, and was neither lost nor closed, was read dry, or a client has a mebibyte unwritten whose session it
-- carries. Bytes that can't be end that.
abbrev pub IsHeardOn : Terms → Log → Now → LinkId → Type 0
IsHeardOn terms log now link =
    is_open link log ≡ true → (link_now (setup_in terms) now link).usable ≡ true → has_bad_bytes (setup_in terms) now link ≡ false
    → (read_dry link log || list_any (is_behind terms now link) now.tale.clients) ≡ true

-- Nobody waits at a port, each ready link was named, each link to a server is heard, and each client whose link is open is served.
pub record IsDone (terms : Terms) (log : Log) (now : Now) : Type 0 where
  pub accepted : (port : Port) → all_accepted port log ≡ true
  pub named : all_named log ≡ true
  pub heard : All (IsHeardOn terms log now) now.tale.links
  pub served : All (λ (client : Client). has_ended terms now client ≡ false → is_open client.link log ≡ true → IsServed terms log now client)
      now.tale.clients

abbrev pub WaitsBy : Terms → Log → Now → Entry → Type 0
WaitsBy terms log now (Woke until_ms now_ms) = IsDone terms log now
WaitsBy terms log now WaitFailed = IsDone terms log now
WaitsBy terms log now Over = IsDone terms log now
WaitsBy terms log now _ = Unit {0}

-- the loop waits where that is done
abbrev pub WaitsSo : Terms → Log → Entry → Type 0
WaitsSo terms log e = WaitsBy terms log (now_at terms log) e

-- Of a log: at each wait, by each plan that has what was decided.
abbrev pub AreDoneBy : (default : List ℕ) → Decided → Log → Type 0
AreDoneBy default d log =
    (terms : Terms) (codes : Codes) → IsOf d (length log) (plan_in terms)
    → Fits d.keys (setup_in terms) codes (plan_in terms) default (tale_of (setup_in terms) (plan_in terms) log) → AllLawful (WaitsSo terms) log
