-- Before the core closes a link to a server a write may be offered there.
use Rattle.std.specs.Prelude.{◌≡◌, ◌||◌, ℕ, Bool, true, false, not, is_some, nat_eq, if◌then◌else◌, Option, Some, None}
use Rattle.std.specs.Option.{option_and_then, option_map}
use Rattle.std.proofs.Common.{refl, sym, ap, ◌∙◌, subst}
use Rattle.std.proofs.lemmas.Bool.{false≢true, true≢false}
use Rattle.std.proofs.lemmas.Option.{none-some, same_Some}
use Rattle.private_model.specs.Names.{ClientNo, LinkId}
use Rattle.private_model.proofs.Maps.{same_link}
use Rattle.session_state.specs.declared.names.SessionName.{SessionName}
use Rattle.lent_link.specs.Links.{begun_by, is_in, wrote_in}
use Rattle.lent_link.specs.Links as links
use Rattle.lent_link.specs.declared.link.Begins.{Begins}
use Rattle.lent_link.specs.declared.link.Begins.TheVariants as begins
use Rattle.lent_link.specs.declared.link.LentLink.{LentLink}
use Rattle.server_side.specs.Backend.{taken}
use Rattle.served_link.specs.Writes.{began, kind_of, used_for, wrote}
use Rattle.served_link.specs.declared.row.Row.{Row}
use Rattle.served_link.specs.declared.writing.Kind.TheVariants.{GoesOn}
use Rattle.core_tables.specs.Parting.{changed_for, gone_row, lost_in, lost_row, name_in, present_at, present_in, unlinked}
use Rattle.core_tables.specs.Tables.{IsSame, Tabled, link_changed}
use Rattle.core_tables.specs.Writing.{begun_for, lasts, purpose_next, server_wrote, wrote_by, wrote_on}
use Rattle.core_tables.specs.declared.client.Client.{Client}
use Rattle.core_tables.specs.declared.server.Server.{Server}
use Rattle.router_laws.specs.links.Closes.{ClosesSo, IsFarewellNext, MayClose}

-- What is written so leaves whose session the link carries.

begun_same : (next : Option Begins) → IsFarewellNext next → (link : LentLink) → (begun_by next link).state ≡ link.state
begun_same None is link = refl
begun_same (Some begins.Quits) is link = refl
begun_same (Some (begins.Asks asking)) is link = absurd is
begun_same (Some (begins.Closes number)) is link = absurd is
begun_same (Some (begins.Resets number)) is link = absurd is

wrote_state : (count : ℕ) (link : LentLink) → IsFarewellNext link.next → (links.wrote_on count link).state ≡ link.state
wrote_state count link is = by (is_in link.login.stage) where
  by : (b : Bool) → (if b then wrote_in count link else record link { login = taken count link.login }).state ≡ link.state
  by false = refl
  by true = begun_same link.next is _

record IsUsed (row used : Row) : Type 0 where
  lost : used.lost ≡ row.lost
  left : used.left ≡ row.left
  link : used.link ≡ row.link

itself : (row : Row) → IsUsed row row
itself row = record { lost = refl; left = refl; link = refl }

used_on : (now : ℕ) (row : Row) (b : Bool) → IsUsed row (if b then row else record row { used = now })
used_on now row true = itself row
used_on now row false = record { lost = refl; left = refl; link = refl }

used_by : (now : ℕ) (row : Row) (next : Option Begins) → IsFarewellNext next → (inside : Bool)
    → IsUsed row (used_for (if inside then kind_of next else GoesOn) now row)
used_by now row next is false = used_on now row row.link.quits
used_by now row None is true = used_on now row row.link.quits
used_by now row (Some begins.Quits) is true = itself row
used_by now row (Some (begins.Asks asking)) is true = absurd is
used_by now row (Some (begins.Closes number)) is true = absurd is
used_by now row (Some (begins.Resets number)) is true = absurd is

began_none : (next : Option Begins) → IsFarewellNext next → (inside : Bool) → began (if inside then kind_of next else GoesOn) ≡ None
began_none next is false = refl
began_none None is true = refl
began_none (Some begins.Quits) is true = refl
began_none (Some (begins.Asks asking)) is true = absurd is
began_none (Some (begins.Closes number)) is true = absurd is
began_none (Some (begins.Resets number)) is true = absurd is

module _ (count now : ℕ) (server : Server) (is : IsFarewellNext server.row.link.next) where
  abbrev row : Row
  row = server.row

  abbrev used : Row
  used = used_for (if is_in row.link.login.stage then kind_of row.link.next else GoesOn) now row

  so : IsUsed row used
  so = used_by now row row.link.next is (is_in row.link.login.stage)

  state_same : (links.wrote_on count used.link).state ≡ row.link.state
  state_same = ap (λ (link : LentLink). (links.wrote_on count link).state) so.link ∙ wrote_state count row.link is

  pub present_same : present_at (server_wrote count now server) ≡ present_at server
  present_same = λ i. if so.lost i || is_some (so.left i) then None else name_in ((state_same i).carries)

  pub purpose_none : purpose_next row ≡ None
  purpose_none = began_none row.link.next is (is_in row.link.login.stage)

-- Tables in which the link stands as before, or is lost already: it may be closed then as before.

pub record IsAsBefore (l : LinkId) (t x : Tabled) : Type 0 where
  pub clients : (c : ClientNo) → x.clients c ≡ t.clients c
  pub numbers : (k : LinkId) → x.numbers k ≡ t.numbers k
  pub present : present_in l x ≡ present_in l t
  pub others : (k : LinkId) → nat_eq l.0 k.0 ≡ false → x.links k ≡ t.links k
  pub server : Server
  pub there : x.links l ≡ Some server

put_at : {A : Type 0} (b : Bool) (gone was new : A) → (b ≡ false → was ≡ new) → (if b then gone else was) ≡ (if b then gone else new)
put_at true gone was new same = refl
put_at false gone was new same = same refl

aside : {A : Type 0} (b : Bool) (put was : A) → b ≡ false → (if b then put else was) ≡ was
aside b put was is = ap (λ (x : Bool). if x then put else was) is

module _ (l : LinkId) (room : ClientNo → Bool) (t x : Tabled) (may : MayClose l room t) where
  module _ (before : IsAsBefore l t x) where
    pub closes_then : ClosesSo l room x (unlinked l (lost_in l t))
    closes_then = record {
      may = record {
        server = before.server;
        there = before.there;
        own = before.numbers l ∙ may.own;
        with_it = record {
          lives = λ n at. may.with_it.lives n (sym before.present ∙ at);
          work = λ n row at there. may.with_it.work n row (sym before.present ∙ at) (sym (before.clients n.client) ∙ there);
        };
        unawaited = λ n row at there full. may.unawaited n row (sym before.present ∙ at) (sym (before.clients n.client) ∙ there) full;
      };
      same = record {
        clients = λ c. λ i. changed_for gone_row (sym before.present i) c (sym (before.clients c) i);
        numbers = λ k. sym (before.numbers k);
        links = λ k. put_at (nat_eq l.0 k.0) None _ _ (λ apart. aside (nat_eq l.0 k.0) _ (t.links k) apart ∙ sym (before.others k apart)
            ∙ sym (aside (nat_eq l.0 k.0) _ (x.links k) apart));
      };
    }

  module _ (lost : IsSame x (lost_in l t)) where
    there_lost : x.links l ≡ Some (lost_row may.server)
    there_lost =
        lost.links l ∙ ap (λ (b : Bool). if b then option_map lost_row (t.links l) else t.links l) (same_link l) ∙ ap (option_map lost_row) may.there

    none_present : present_in l x ≡ None
    none_present = ap (option_and_then present_at) there_lost

    pub closes_lost : ClosesSo l room x (unlinked l (lost_in l t))
    closes_lost = record {
      may = record {
        server = lost_row may.server;
        there = there_lost;
        own = lost.numbers l ∙ may.own;
        with_it = record {
          lives = λ n at. absurd (none-some n (sym none_present ∙ at));
          work = λ n row at there. absurd (none-some n (sym none_present ∙ at));
        };
        unawaited = λ n row at there full. absurd (none-some n (sym none_present ∙ at));
      };
      same = record {
        clients = λ c. sym (lost.clients c) ∙ ap (λ (p : Option SessionName). changed_for gone_row p c (x.clients c)) (sym none_present);
        numbers = λ k. sym (lost.numbers k);
        links = λ k. put_at (nat_eq l.0 k.0) None _ _ (λ apart. sym (lost.links k) ∙ sym (aside (nat_eq l.0 k.0) _ (x.links k) apart));
      };
    }

    -- lost twice is lost once
    pub lost_again : ClosesSo l room t (unlinked l (lost_in l x))
    lost_again = record {
      may = may;
      same = record {
        clients = λ c. ap (λ (p : Option SessionName). changed_for gone_row p c (x.clients c)) none_present ∙ lost.clients c;
        numbers = λ k. lost.numbers k;
        links = λ k. put_at (nat_eq l.0 k.0) None _ _ (λ apart. aside (nat_eq l.0 k.0) _ (x.links k) apart ∙ lost.links k);
      };
    }

-- bytes were written there
pub wrote_before : (l : LinkId) (count now : ℕ) (t x : Tabled) (server : Server) → t.links l ≡ Some server → IsFarewellNext server.row.link.next
    → IsSame x (wrote_on l count now t) → IsAsBefore l t x
wrote_before l count now t x server there is wrote_so =
    let onto : Tabled = link_changed l (server_wrote count now) t in
    let same : wrote_on l count now t ≡ onto =
    ap (λ (found : Option Server). wrote_by found l count now t) there
    ∙ ap (λ p. begun_for p l (lasts server.row.link.next) onto) (purpose_none count now server is) in
    let there_now : x.links l ≡ Some (server_wrote count now server) =
    wrote_so.links l ∙ ap (λ (y : Tabled). y.links l) same
    ∙ ap (λ (b : Bool). if b then option_map (server_wrote count now) (t.links l) else t.links l) (same_link l)
    ∙ ap (option_map (server_wrote count now)) there in
    record {
      clients = λ c. wrote_so.clients c ∙ ap (λ (y : Tabled). y.clients c) same;
      numbers = λ k. wrote_so.numbers k ∙ ap (λ (y : Tabled). y.numbers k) same;
      present = ap (option_and_then present_at) there_now ∙ present_same count now server is ∙ ap (option_and_then present_at) (sym there);
      others = λ k apart. wrote_so.links k ∙ ap (λ (y : Tabled). y.links k) same
          ∙ aside (nat_eq l.0 k.0) (option_map (server_wrote count now) (t.links l)) (t.links k) apart;
      server = server_wrote count now server;
      there = there_now;
    }
