-- Bytes on a link to a server let no client and no link come or go.
use Rattle.std.specs.Prelude.{◌≡◌, ℕ, Bool, true, false, if◌then◌else◌, is_some, nat_eq, List, Option, Some, None}
use Rattle.std.specs.Option.{option_and_then}
use Rattle.std.proofs.Common.{refl, sym, ap, ◌∙◌}
use Rattle.client_session.specs.Setups.{Setup as Service}
use Rattle.private_model.proofs.Maps.{client_of}
use Rattle.private_model.specs.Names.{ClientNo, LinkId}
use Rattle.stmt_map.specs.declared.statement.Prepared.{Prepared}
use Rattle.link_state.specs.declared.asking.Purpose.{Purpose}
use Rattle.link_state.specs.declared.asking.Purpose.TheVariants as purposes
use Rattle.served_link.specs.declared.news.News.{News}
use Rattle.served_link.specs.declared.news.News.TheVariants as news
use Rattle.core_tables.specs.Hearing.{Answer, answered_for, told_by}
use Rattle.core_tables.specs.Hearing as hearing
use Rattle.core_tables.specs.Parting.{freed_in, given_row, given_up_in}
use Rattle.core_tables.specs.Preparing.{IsKeptOf, IsKeptSo, Made, made_on}
use Rattle.core_tables.specs.Tables.{Tabled, client_put, link_changed}
use Rattle.core_tables.specs.declared.client.Client.{Client}
use Rattle.core_tables.specs.declared.server.Server.{Server}
use Rattle.core_laws.proofs.OfClients.Keeping.{going_keeps_rows, keeps_along, keeps_changed, keeps_freed, keeps_itself, keeps_link, keeps_same, some_mapped}
use Rattle.core_laws.specs.clients.Going.{GivenUp, Going, told_to}
use Rattle.core_laws.specs.clients.Keeps.{KeepsRows}
use Rattle.router_laws.specs.reading.Hears.{HearsSo}

answer_keeps : (purpose : Purpose) (a : Answer) (made : List ℕ) (t : Tabled) → KeepsRows t (answered_for purpose a made t)
answer_keeps (purposes.Statement n ordinal key) a made t = keeps_changed n.client _ t
answer_keeps (purposes.Prep n ordinal key) a made t = keeps_changed n.client _ t
answer_keeps (purposes.Sync n) a made t = keeps_changed n.client _ t
answer_keeps purposes.Own a made t = keeps_itself t
answer_keeps (purposes.End n) a made t = keeps_changed n.client _ t
answer_keeps (purposes.Capture n) a made t = keeps_changed n.client _ t

told_keeps : (what : News) (multiplex : Option Bool) (made : List ℕ) (t : Tabled) → KeepsRows t (told_by what multiplex made t)
told_keeps (news.Part n) multiplex made t = keeps_changed n.client _ t
told_keeps (news.Whole asking end number used) multiplex made t = answer_keeps asking.purpose _ _ t
told_keeps _ multiplex made t = keeps_itself t

either_keeps : (b : Bool) (t x y : Tabled) → KeepsRows t x → KeepsRows t y → KeepsRows t (if b then x else y)
either_keeps true t x y first second = first
either_keeps false t x y first second = second

-- what was prepared is kept in a client's row
put_keeps : (c : ClientNo) (row now : Client) (t : Tabled) → t.clients c ≡ Some row → KeepsRows t (client_put c (Some now) t)
put_keeps c row now t there = record {
  clients = λ other. by other (nat_eq c.0 other.0) refl;
  links = λ l. refl;
  numbers = λ l. refl;
} where
  by : (other : ClientNo) (b : Bool) → nat_eq c.0 other.0 ≡ b → is_some (if b then Some now else t.clients other) ≡ is_some (t.clients other)
  by other true same = sym (ap is_some (ap t.clients (sym (client_of c other same)) ∙ there))
  by other false apart = refl

kept_of_keeps : (prepared : Prepared) (c : ClientNo) (found : Option Client) (old new : Tabled) → old.clients c ≡ found
    → IsKeptOf prepared c found old new → KeepsRows old new
kept_of_keeps prepared c None old new at same = keeps_same old old new (keeps_itself old) same
kept_of_keeps prepared c (Some row) old new at is = keeps_same old _ new (put_keeps c row _ old at) is.same

kept_keeps : (made : Option Made) (old new : Tabled) → IsKeptSo made old new → KeepsRows old new
kept_keeps None old new same = keeps_same old old new (keeps_itself old) same
kept_keeps (Some made) old new is = kept_of_keeps made.1 made.0 (old.clients made.0) old new refl is

given_keeps : (given : ClientNo → Option (List ℕ)) (t : Tabled) → KeepsRows t (given_up_in given t)
given_keeps given t = record { clients = λ c. some_mapped (given_row (given c)) (t.clients c); links = λ l. refl; numbers = λ l. refl }

module _ (service : Service) (default : List ℕ) (l : LinkId) (bytes : List ℕ) (clock : ℕ) (given : Option GivenUp) (going : Option Going)
    (old new : Tabled) (so : HearsSo service default l bytes clock given going old new) where
  abbrev moved : Tabled
  moved = link_changed l (hearing.with_row so.hears.reading.row) old

  abbrev told : Tabled
  told = hearing.told_to so.hears.reading.row so.hears.reading.news so.hears.reading.made moved

  read_keeps : KeepsRows old so.read
  read_keeps =
      keeps_same old told so.read
      (keeps_along old moved told (keeps_link l (hearing.with_row so.hears.reading.row) old)
      (either_keeps (is_some so.hears.reading.row.left) moved moved
      (told_by so.hears.reading.news so.hears.reading.row.multiplex so.hears.reading.made moved) (keeps_itself moved)
      (told_keeps so.hears.reading.news so.hears.reading.row.multiplex so.hears.reading.made moved))) so.hears.tables

  heard_keeps : KeepsRows old so.heard
  heard_keeps = keeps_along old so.read so.heard read_keeps (kept_keeps (option_and_then (λ (s : Server). made_on so.said s.row) (so.read.links l)) so.read so.heard so.keeps)

  abbrev up : Tabled
  up = given_up_in (told_to given) so.heard

  pub hears_keep_rows : KeepsRows old new
  hears_keep_rows =
      keeps_along old so.heard new heard_keeps
      (keeps_along so.heard so.freed new
      (keeps_same so.heard (freed_in l up) so.freed
      (keeps_along so.heard up (freed_in l up) (given_keeps (told_to given) so.heard) (keeps_freed l up)) so.frees)
      (going_keeps_rows service default going so.freed new so.goes))
