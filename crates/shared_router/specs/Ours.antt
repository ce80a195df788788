-- The entries of a log that this router makes, by its world.
use Rattle.std.specs.Prelude.{◌≡◌, ◌<◌, ℕ, Bool, true, false, is_some, not, ◌&&◌, ◌||◌, length, List, Some, None}
use Rattle.std.specs.List.{list_any}
use Rattle.mx_base.specs.Fields.{AreBytes}
use Rattle.mx_base.specs.declared.names.Address.{Address}
use Rattle.mx_base.specs.declared.names.LinkId.{LinkId}
use Rattle.mx_base.specs.declared.names.Port.{Port}
use Rattle.mx_base.specs.declared.names.ServerId.{ServerId}
use Rattle.mx_base.specs.declared.tag.Tag.{Tag}
use Rattle.mx_wire.specs.Log.{Log, is_open}
use Rattle.mx_wire.specs.Moments.{AllLawful}
use Rattle.mx_wire.specs.Tells.{Fits}
use Rattle.mx_wire.specs.declared.entry.Entry.{Entry}
use Rattle.mx_wire.specs.declared.entry.Entry.TheVariants as entry
use Rattle.ready_loop.specs.Drained.{all_accepted, all_named, read_dry, write_dry}
use Rattle.private_model.specs.Story.{is_link_id}
use Rattle.log_story.specs.Honest.{IsFront}
use Rattle.log_story.specs.Plan.{word_at}
use Rattle.log_story.specs.Tale.{Client}
use Rattle.tale_world.specs.Deciding.{World}
use Rattle.tale_world.specs.Policy.{Wanted}
use Rattle.router_promises.specs.Closes.{has_bytes}
use Rattle.router_promises.specs.Rest.{is_spared_for}
use Rattle.router_promises.specs.Terms.{plan_in}
use Rattle.router_promises.specs.Wakes.{wakes_at}
use Rattle.shared_router.specs.Fixed.{Fixed}
use Rattle.shared_router.specs.Known.{Known, known}
use Rattle.shared_router.specs.More.{More}
use Rattle.shared_router.specs.Owed.{asks, close_by, closes, owed_on}
use Rattle.shared_router.specs.Shared.{world_at}
use Rattle.shared_router.specs.Wishes.{address_in, wanted_by}

-- What is written is a front of what is owed there, with its tag, once nothing else is to be done first.
pub record Writes (k : Known) (link : LinkId) (tag : Tag) (bytes : List ℕ) : Type 0 where
  pub acted : (not (asks k) || closes k link) ≡ true
  pub front : IsFront bytes (owed_on k link).bytes
  pub tagged : tag ≡ (owed_on k link).tag

-- What is read: all but what may be left.
abbrev pub reads : Known → LinkId → Bool
reads k link = not (list_any (is_spared_for k.terms k.now link) k.now.tale.clients)

-- who has its last word isn't heard any more: where that stands hangs on what was read
abbrev pub has_word : Known → LinkId → Bool
has_word k link =
    list_any (λ (client : Client). is_link_id client.link link && is_some (word_at (plan_in k.terms) k.now.tale.moment client.number)) k.now.tale.clients

-- The loop waits where nothing is left to do.
pub record MayWait (k : Known) : Type 0 where
  pub acted : asks k ≡ false
  pub accepted : (port : Port) → all_accepted port k.log ≡ true
  pub named : all_named k.log ≡ true
  pub read : (link : LinkId) → is_open link k.log ≡ true → reads k link ≡ true → read_dry link k.log ≡ true
  pub written : (link : LinkId) → is_open link k.log ≡ true → has_bytes (owed_on k link).bytes ≡ true → write_dry link k.log ≡ true

-- a link is opened once no other is to be closed
pub record OpensThere (k : Known) (server : ServerId) (address : Address) : Type 0 where
  pub nothing_closes : close_by k ≡ None
  pub wanted : Wanted
  pub next : wanted_by k ≡ Some wanted
  pub there : wanted.server ≡ server
  pub lies : address_in k server ≡ Some address

-- The router is told of what comes once all that it asked for is done, and does what it asks for.
abbrev pub OursBy : Fixed → World More → Entry → Type 0
OursBy fixed w (entry.Accepted port link salt) = asks (known fixed w) ≡ false
OursBy fixed w (entry.Got link bytes) = (asks (known fixed w) ≡ false) × AreBytes bytes × (has_word (known fixed w) link ≡ false)
OursBy fixed w (entry.Ended link) = asks (known fixed w) ≡ false
OursBy fixed w (entry.ReadFailed link) = asks (known fixed w) ≡ false
OursBy fixed w (entry.WriteFailed link) = (not (asks (known fixed w)) || closes (known fixed w) link) ≡ true
OursBy fixed w (entry.Wrote link tag bytes) = Writes (known fixed w) link tag bytes
OursBy fixed w (entry.Opened server address link) = OpensThere (known fixed w) server address
OursBy fixed w (entry.OpenFailed server address) = OpensThere (known fixed w) server address
OursBy fixed w (entry.Closed link) = close_by (known fixed w) ≡ Some link
OursBy fixed w (entry.Woke until_ms now_ms) = MayWait (known fixed w) × (until_ms ≡ wakes_at (known fixed w).terms (known fixed w).log (known fixed w).now)
OursBy fixed w entry.WaitFailed = MayWait (known fixed w)
OursBy fixed w entry.Over = MayWait (known fixed w)
OursBy fixed w _ = Unit {0}

abbrev pub IsOurs : Fixed → Log → Entry → Type 0
IsOurs fixed log e = OursBy fixed (world_at fixed log) e

-- a log of which each entry is ours, and a wire can tell it: told logs have fewer than 2^48 entries
pub record IsOurLog (fixed : Fixed) (log : Log) : Type 0 where
  pub ours : AllLawful (IsOurs fixed) log
  pub fits : AllLawful Fits log
  pub bounded : length log < 281474976710656
