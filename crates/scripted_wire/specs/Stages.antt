-- Where clients and links stand, and what calls change of that.
use Rattle.std.specs.Prelude.{◌≡◌, ℕ, ◌+◌, nat_le, Bool, true, false, ◌&&◌, List, [], ◌∷◌, ◌++◌, length, drop, set, slice_get, slice_index_or, Option, Some, None, if◌then◌else◌}
use Rattle.std.specs.List.{list_all, position}
use Rattle.std.specs.Option.{option_map}
use Rattle.scripted_wire.specs.Salts.{salt_of}
use Rattle.mx_wire.specs.declared.wire.Got.{Got}
use Rattle.mx_wire.specs.declared.wire.Got.TheVariants as got
use Rattle.scripted_wire.specs.Giving.{Gives}
use Rattle.scripted_wire.specs.Links.{LinkHears, ends, has_news, link_rests, new_link, unread}
use Rattle.scripted_wire.specs.Scripts.{first_client}
use Rattle.scripted_wire.specs.Serving.{first_link}
use Rattle.scripted_wire.specs.declared.server_link.LetsIn.TheVariants as whom
use Rattle.scripted_wire.specs.declared.link.Link.{Link}
use Rattle.scripted_wire.specs.declared.link.Peer.TheVariants as peer
use Rattle.scripted_wire.specs.declared.script.Script.{Script}
use Rattle.scripted_wire.specs.declared.stage.Stage.{Stage}

-- before the first call
pub record IsFirst (scripts : List Script) (s : Stage) : Type 0 where
  pub waiting : s.waiting ≡ record { scripts = scripts; came = 0 }
  pub links : s.links.items ≡ []
  pub moment : s.moment ≡ 0
  pub next : s.next ≡ 0

-- nothing changes but links, none of which goes
pub record KeepsLinks (old new : Stage) : Type 0 where
  pub moment : new.moment ≡ old.moment
  pub size : length new.links.items ≡ length old.links.items

-- A client comes, where one waits.

pub record ClientComes (script : Script) (old new : Stage) : Type 0 where
  pub frame : new ≡ record old { waiting = record old.waiting { came = old.waiting.came + 1 }; links = new.links }
  pub links : new.links.items ≡ old.links.items ++ new_link (peer.Client (first_client old.waiting.came script.user script.password)) ∷ []

abbrev pub AcceptsBy : Option Script → Bool → Stage → Stage → Type 0
AcceptsBy None came old new = (came ≡ false) × (new ≡ old)
AcceptsBy (Some script) came old new = (came ≡ true) × ClientComes script old new

abbrev pub Accepts : Bool → Stage → Stage → Type 0
Accepts came old new = AcceptsBy (slice_get old.waiting.scripts old.waiting.came) came old new

-- a link to a server comes
pub record Opens (server : ℕ) (old new : Stage) : Type 0 where
  pub frame : new ≡ record old { links = new.links }
  pub links : new.links.items ≡ old.links.items ++ new_link (peer.Server (first_link whom.Anybody server (record { 0 = length old.links.items }) (salt_of (length old.links.items)))) ∷ []

-- the first link from this one on of which there is something new
abbrev pub news_from : List Link → ℕ → Option ℕ
news_from links from = if nat_le (length links) from then None else option_map (λ n. from + n) (position has_news (drop from links))

-- A read of a link.

abbrev pub ReadsAt : Option Link → (old new : List ℕ) → Got → Type 0
ReadsAt None old new answer = answer ≡ got.NotReady
ReadsAt (Some link) old new answer = Gives (unread link.peer) (ends link.peer) old new answer

-- a link changes, where there is one of this number
abbrev pub changed_by : (Link → Link) → (at : ℕ) → Option Link → List Link → List Link
changed_by change at None links = links
changed_by change at (Some link) links = set links at (change link)

abbrev pub changed : (Link → Link) → (at : ℕ) → List Link → List Link
changed change at links = changed_by change at (slice_get links at) links

pub record Changes (change : Link → Link) (at : ℕ) (old new : Stage) : Type 0 where
  pub frame : new ≡ record old { links = new.links }
  pub links : new.links.items ≡ changed change at old.links.items

abbrev pub closes : Link → Link
closes link = record link { closed = true }

-- A write on one.

pub record LinkWritten (piece : List ℕ) (at : ℕ) (link : Link) (old new : Stage) : Type 0 where
  pub frame : new ≡ record old { links = new.links }
  pub links : new.links.items ≡ set old.links.items at (slice_index_or new.links.items at link)
  pub hears : LinkHears old.waiting.scripts piece link (slice_index_or new.links.items at link)

abbrev pub WritesBy : (piece : List ℕ) → (at : ℕ) → Option Link → Stage → Stage → Type 0
WritesBy piece at None old new = new ≡ old
WritesBy piece at (Some link) old new = LinkWritten piece at link old new

abbrev pub Writes : (piece : List ℕ) → (at : ℕ) → Stage → Stage → Type 0
Writes piece at old new = WritesBy piece at (slice_get old.links.items at) old new

-- Nobody waits at the port, nothing is left to read, and each client whose link is open has said all and was answered.
abbrev pub is_over : Stage → Bool
is_over s = nat_le (length s.waiting.scripts) s.waiting.came && list_all (link_rests s.waiting.scripts) s.links.items

-- a wake begins
abbrev pub awake : (now_ms : ℕ) → Stage → Stage
awake now_ms s = record s { moment = now_ms; next = 0 }
