-- The row of a link behind a write.
use Rattle.std.specs.Prelude.{◌≡◌, ◌<◌, ◌≤◌, ℕ, Bool, true, false, not, ◌&&◌, ◌||◌, is_some, nat_lt, length, drop, if◌then◌else◌, List, [], ◌∷◌, ◌++◌, Option, Some, None}
use Rattle.std.specs.Option.{option_map}
use Rattle.std.proofs.Common.{refl, sym, ap, ◌∙◌, subst}
use Rattle.std.proofs.lemmas.Bool.{and_from, false≢true, true≢false}
use Rattle.std.proofs.lemmas.Option.{none-some}
use Rattle.server_side.specs.Account.{Account as Login}
use Rattle.server_side.specs.Backend.{BackendState, taken, taken_by}
use Rattle.server_rule.specs.Classes.{Reads}
use Rattle.private_model.specs.View.{Link, View}
use Rattle.log_story.specs.Tale.{Wire}
use Rattle.link_state.specs.States.{asked}
use Rattle.link_state.specs.Writes as writes
use Rattle.link_state.specs.declared.asking.Asking.{Asking}
use Rattle.link_state.specs.declared.writing.Writing.{Writing}
use Rattle.link_laws.specs.Stands.{Codes}
use Rattle.lent_link.specs.Links.{begun_by, is_in, wrote_in, wrote_on}
use Rattle.lent_link.specs.declared.link.Begins.{Begins}
use Rattle.lent_link.specs.declared.link.Begins.TheVariants as begins
use Rattle.lent_link.specs.declared.link.LentLink.{LentLink}
use Rattle.lent_link.specs.declared.link.Step.TheVariants.{Other}
use Rattle.served_link.specs.Writes.{began, kind_of, next_kind, used_for, wrote, wrote_behind}
use Rattle.served_link.specs.declared.row.Identity.{Identity}
use Rattle.served_link.specs.declared.row.LeftSession.{LeftSession}
use Rattle.served_link.specs.declared.row.Row.{Row}
use Rattle.served_link.specs.declared.writing.Kind.{Kind}
use Rattle.served_link.specs.declared.writing.Kind.TheVariants.{GoesOn, Asks, Drops, Quits}
use Rattle.row_laws.specs.Rows.{Enters, IsEntering, IsPart, IsPartBy, IsRow, Part, part_of}

-- What of a row a write leaves, but for its link.
pub record Wrote (now row : Row) (link : LentLink) : Type 0 where
  pub link_is : now.link ≡ link
  pub part : part_of now ≡ record (part_of row) { link = link }
  pub left : now.left ≡ row.left
  pub lost : now.lost ≡ row.lost
  pub identity : now.identity ≡ row.identity

used_so : (kind : Kind) (count now : ℕ) (row : Row) → Wrote (wrote_behind count (used_for kind now row)) row (wrote_on count row.link)
used_so GoesOn count now row = by row.link.quits where
  by : (quits : Bool) → Wrote (wrote_behind count (if quits then row else record row { used = now })) row (wrote_on count row.link)
  by true = record { link_is = refl; part = refl; left = refl; lost = refl; identity = refl }
  by false = record { link_is = refl; part = refl; left = refl; lost = refl; identity = refl }
used_so (Asks purpose) count now row = record { link_is = refl; part = refl; left = refl; lost = refl; identity = refl }
used_so (Drops number) count now row = record { link_is = refl; part = refl; left = refl; lost = refl; identity = refl }
used_so Quits count now row = record { link_is = refl; part = refl; left = refl; lost = refl; identity = refl }

pub wrote_so : (count now : ℕ) (row : Row) → Wrote (wrote count now row) row (wrote_on count row.link)
wrote_so count now row = used_so (next_kind row.link) count now row

-- The link: in the login, behind it as what began goes on, and as something begins.

pub wrote_outside : (count : ℕ) (link : LentLink) → is_in link.login.stage ≡ false → wrote_on count link ≡ record link { login = taken count link.login }
wrote_outside count link outside = ap (λ (there : Bool). if there then wrote_in count link else record link { login = taken count link.login }) outside

pub wrote_inside : (count : ℕ) (link : LentLink) → is_in link.login.stage ≡ true
    → wrote_on count link ≡ begun_by link.next (record link { next = None; writing = option_map (writes.wrote count) link.writing })
wrote_inside count link inside = ap (λ (there : Bool). if there then wrote_in count link else record link { login = taken count link.login }) inside

pub wrote_next : (count : ℕ) (link : LentLink) (next : Option Begins) → is_in link.login.stage ≡ true → link.next ≡ next
    → wrote_on count link ≡ begun_by next (record link { next = None; writing = option_map (writes.wrote count) link.writing })
wrote_next count link next inside same =
    wrote_inside count link inside ∙ ap (λ (n : Option Begins). begun_by n (record link { next = None; writing = option_map (writes.wrote count) link.writing })) same

taken_stage : (count : ℕ) (own : List ℕ) (login : BackendState) → (taken_by count own login).stage ≡ login.stage
taken_stage count [] login = refl
taken_stage count (byte ∷ bytes) login = refl

pub stays_outside : (count : ℕ) (login : BackendState) → is_in login.stage ≡ false → is_in (taken count login).stage ≡ false
stays_outside count login outside = ap is_in (taken_stage count login.own login) ∙ outside

-- what begins
pub kind_next : (link : LentLink) (next : Option Begins) → is_in link.login.stage ≡ true → link.next ≡ next → next_kind link ≡ kind_of next
kind_next link next inside same = ap (λ (there : Bool). if there then kind_of link.next else GoesOn) inside ∙ ap kind_of same

pub kind_outside : (link : LentLink) → is_in link.login.stage ≡ false → next_kind link ≡ GoesOn
kind_outside link outside = ap (λ (there : Bool). if there then kind_of link.next else GoesOn) outside

pub kind_none : (link : LentLink) → link.next ≡ None → next_kind link ≡ GoesOn
kind_none link none = by (is_in link.login.stage) where
  by : (inside : Bool) → (if inside then kind_of link.next else GoesOn) ≡ GoesOn
  by true = ap kind_of none
  by false = refl

-- A login that failed goes on as bytes are written still.

enters_spoilt : (login : Login) (row : Row) (wire : Wire) (link : Link) (count : ℕ) (bytes : List ℕ) → Enters login row wire link → row.link.spoilt ≡ true
    → IsEntering login (record (part_of row) { link = record row.link { login = taken count row.link.login } }) (record wire { written = wire.written ++ bytes }) link
enters_spoilt login row wire link count bytes is spoilt = record {
  entered = is.entered;
  stays = is.stays;
  stepless = is.stepless;
  unborn = is.unborn;
  outside = stays_outside count row.link.login is.outside;
  state = is.state;
  step = is.step;
  told = is.told;
  next = is.next;
  writing = is.writing;
  reading = is.reading;
  left = is.left;
  failed = is.failed;
  going = λ fine. absurd (true≢false (sym spoilt ∙ fine));
}

pub row_spoilt : (reads : Reads) (codes : Codes) (login : Login) (seen : View) (row now : Row) (wire : Wire) (link : Link) (count : ℕ) (bytes : List ℕ)
    → wire.entered ≡ false → wire.server ≡ row.link.server → Enters login row wire link → row.link.spoilt ≡ true → Wrote now row (wrote_on count row.link)
    → IsRow reads codes login seen now (record wire { written = wire.written ++ bytes }) link
row_spoilt reads codes login seen row now wire link count bytes outside server is spoilt wrote =
    let part : part_of now ≡ record (part_of row) { link = record row.link { login = taken count row.link.login } } =
    wrote.part ∙ ap (λ (at : LentLink). record (part_of row) { link = at }) (wrote_outside count row.link is.outside) in
    subst (λ (p : Part). IsPart reads codes login seen p (record wire { written = wire.written ++ bytes }) link) (sym part)
    (record {
      server = server;
      is = subst (λ (there : Bool). IsPartBy there reads codes login seen
          (record (part_of row) { link = record row.link { login = taken count row.link.login } }) (record wire { written = wire.written ++ bytes }) link)
          (sym outside) (enters_spoilt login row wire link count bytes is spoilt);
    })
