-- Words for routers that are wrong: what no log has that keeps the promises.
use Rattle.std.specs.Prelude.{◌≡◌, ◌+◌, ◌<◌, false, ◌∷◌, ◌++◌}
use Rattle.std.specs.List.{list_any}
use Rattle.mx_base.specs.declared.names.LinkId.{LinkId}
use Rattle.mx_wire.specs.Log.{Log}
use Rattle.mx_wire.specs.declared.entry.Entry.{Entry}
use Rattle.mx_wire.specs.declared.entry.Entry.TheVariants.{Woke, WaitFailed, Over}
use Rattle.private_model.specs.Story.{Happening, Story}
use Rattle.router_promises.specs.Closes.{is_in_the_way, is_past_reset, is_spare, is_spoilt, is_starved_by, was_amiss, was_refused}
use Rattle.router_promises.specs.Headline.{Keeps}
use Rattle.router_promises.specs.Keys.{key_of}
use Rattle.router_promises.specs.Now.{Now, wire_now}
use Rattle.router_promises.specs.Running.{is_soft, status_in}
use Rattle.router_promises.specs.Terms.{Terms, setup_in, tale_at}

-- the entry is one of a log that keeps the promises, behind these
pub record Has (terms : Terms) (before : Log) (e : Entry) : Type 0 where
  pub more : Log
  pub keeps : Keeps terms (before ++ e ∷ more)

-- it is one of its story, behind these
pub record Tells (terms : Terms) (past : Story) (e : Happening) : Type 0 where
  pub log : Log
  pub keeps : Keeps terms log
  pub later : Story
  pub story : (tale_at terms log).story ≡ later ++ e ∷ past

abbrev pub IsWait : Entry → Type 0
IsWait (Woke until_ms now_ms) = Unit {0}
IsWait WaitFailed = Unit {0}
IsWait Over = Unit {0}
IsWait _ = ⊥

-- nothing is there for which a link to a server may be told QUIT
pub record HasNoCause (terms : Terms) (log : Log) (now : Now) (link : LinkId) : Type 0 where
  pub sound : is_spoilt terms log now link ≡ false
  pub answered : was_amiss (setup_in terms) link now.tale.story ≡ false
  pub obeyed : was_refused (setup_in terms) link now.tale.story ≡ false
  pub resettable : is_past_reset (setup_in terms) now link ≡ false
  pub online : status_in is_soft now.servers (wire_now now link).server ≡ false
  pub young : now.clock < (now.uses link).used + terms.router.proxy.idle_ms
  pub alone : is_in_the_way terms now (key_of terms now link) ≡ false
  pub fed : list_any (is_starved_by terms log now link) now.tale.clients ≡ false
  pub quiet : is_spare terms log link ≡ false
