-- What stands where the loop waits, or is over: parts of the promise that it waits at rest.
use Rattle.std.specs.Prelude.{All, ◌≡◌, ◌+◌, ◌<◌, ◌≤◌, ◌⊎◌, false, true}
use Rattle.mx_base.specs.declared.names.LinkId.{LinkId}
use Rattle.mx_base.specs.declared.names.Port.{Port}
use Rattle.mx_wire.specs.Log.{Log, is_open}
use Rattle.mx_wire.specs.declared.entry.Entry.{Entry}
use Rattle.mx_wire.specs.declared.entry.Entry.TheVariants.{Over, WaitFailed, Woke}
use Rattle.ready_loop.specs.Drained.{all_accepted, all_named, write_dry}
use Rattle.server_side.specs.Login.{said_of}
use Rattle.log_story.specs.Tale.{Client, is_to_server}
use Rattle.router_promises.specs.Closes.{is_usable}
use Rattle.router_promises.specs.Ends.{moment_in}
use Rattle.router_promises.specs.Keys.{LinkKey, has_room_in, how_many, is_free, is_idle, is_in, is_of_key, is_opening, is_resting, waiting}
use Rattle.router_promises.specs.Now.{Now, now_at, was_lost, wire_now}
use Rattle.router_promises.specs.Running.{is_entering, opening_on}
use Rattle.router_promises.specs.Terms.{Terms, plan_in}
use Rattle.router_promises.specs.Wakes.{has_ended}

-- a link to a server wasn't told QUIT, and can be used; and where it rests and carries nobody, it wasn't idle for long
pub record IsKept (terms : Terms) (log : Log) (now : Now) (link : LinkId) : Type 0 where
  pub stays : (wire_now now link).quits ≡ false
  pub sound : is_usable terms log now link ≡ true
  pub young : is_resting terms log now link ≡ true → now.clock < (now.uses link).used + terms.router.proxy.idle_ms

-- a client that ended: its link wasn't lost, and it has time yet to take what it is told
pub record IsLeaving (terms : Terms) (log : Log) (now : Now) (client : Client) : Type 0 where
  pub unbroken : was_lost log client.link ≡ false
  pub in_time : now.clock < moment_in log ((plan_in terms).ends client.number) + terms.router.proxy.wait_ms

abbrev pub LeavesInTime : Terms → Log → Now → Client → Type 0
LeavesInTime terms log now client = has_ended terms now client ≡ true → is_open client.link log ≡ true → IsLeaving terms log now client

-- no idle link of another key lies in its hostgroup, that could be closed to make room
abbrev pub NoneInTheWay : Terms → Log → Now → LinkKey → Type 0
NoneInTheWay terms log now key =
    (link : LinkId) → is_to_server now.tale link ≡ true → is_idle terms log now link ≡ true
    → is_in terms.router (wire_now now link).server key.hostgroup ≡ true → is_of_key terms now key link ≡ true

-- For the statements of a key as many links are free or opening; or no server of its hostgroup has room for one more, and no link can make
-- room.
abbrev pub HasEnough : Terms → Log → Now → LinkKey → Type 0
HasEnough terms log now key =
    (waiting terms now key ≤ how_many is_free terms log now key + how_many is_opening terms log now key)
    ⊎ ((has_room_in terms.router log now key.hostgroup ≡ false) × NoneInTheWay terms log now key)

-- Nobody waits at a port, and each ready link was named; clients that ended have time; each link to a server is kept; and each key has
-- enough.
pub record IsCalm (terms : Terms) (log : Log) (now : Now) : Type 0 where
  pub accepted : (port : Port) → all_accepted port log ≡ true
  pub named : all_named log ≡ true
  pub leaving : All (LeavesInTime terms log now) now.tale.clients
  pub kept : (link : LinkId) → is_to_server now.tale link ≡ true → is_open link log ≡ true → IsKept terms log now link
  pub enough : (key : LinkKey) → HasEnough terms log now key

abbrev pub CalmBy : Terms → Log → Now → Entry → Type 0
CalmBy terms log now (Woke until_ms now_ms) = IsCalm terms log now
CalmBy terms log now WaitFailed = IsCalm terms log now
CalmBy terms log now Over = IsCalm terms log now
CalmBy terms log now _ = Unit {0}

abbrev pub CalmSo : Terms → Log → Entry → Type 0
CalmSo terms log e = CalmBy terms log (now_at terms log) e

-- In a login all is written that there is to say, or the link takes no more.

abbrev pub SaysLogin : Terms → Log → Now → LinkId → Type 0
SaysLogin terms log now link =
    is_open link log ≡ true → is_entering terms now.tale link ≡ true → write_dry link log ≡ false
    → (wire_now now link).written ≡ said_of (opening_on terms now.tale link)

abbrev pub LogsInBy : Terms → Log → Now → Entry → Type 0
LogsInBy terms log now (Woke until_ms now_ms) = (link : LinkId) → SaysLogin terms log now link
LogsInBy terms log now WaitFailed = (link : LinkId) → SaysLogin terms log now link
LogsInBy terms log now Over = (link : LinkId) → SaysLogin terms log now link
LogsInBy terms log now _ = Unit {0}

abbrev pub LogsInSo : Terms → Log → Entry → Type 0
LogsInSo terms log e = LogsInBy terms log (now_at terms log) e
