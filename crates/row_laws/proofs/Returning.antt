-- What is to be written next is taken back.
use Rattle.std.specs.Prelude.{◌≡◌, Bool, true, false, Option, Some, None}
use Rattle.std.proofs.Common.{refl, sym, ◌∙◌, subst}
use Rattle.private_model.specs.Names.{LinkId}
use Rattle.private_model.specs.View.{Link, Setup, View}
use Rattle.log_story.specs.Plan.{Plan}
use Rattle.log_story.specs.Tale.{Tale, Wire, view_of}
use Rattle.server_rule.specs.Classes.{Reads}
use Rattle.server_side.specs.Account.{Account as Login}
use Rattle.link_laws.specs.Stands.{Codes}
use Rattle.lent_link.specs.Links.{unbegun_by}
use Rattle.lent_link.specs.declared.link.Begins.{Begins}
use Rattle.served_link.specs.Rows.{taken_back}
use Rattle.served_link.specs.declared.row.Row.{Row}
use Rattle.row_laws.specs.Rows.{Enters, IsRowBy, IsRowIn, Serves}
use Rattle.row_laws.specs.Written.{IsWrittenBy}

back_serving : (reads : Reads) (codes : Codes) (login : Login) (seen : View) (row : Row) (wire : Wire) (link : Link) (next : Option Begins)
    → row.link.next ≡ next → Serves reads codes login seen row wire link
    → Serves reads codes login seen (record row { link = unbegun_by next row.link }) wire link
back_serving reads codes login seen row wire link None same is = is
back_serving reads codes login seen row wire link (Some next) same is =
    let over : IsWrittenBy (Some next) row.link.writing row.link.state.stage row.link.step row.link.quits wire.step wire.written link =
    subst (λ (there : Option Begins). IsWrittenBy there row.link.writing row.link.state.stage row.link.step row.link.quits wire.step wire.written link) same is.written in
    record {
      entered = is.entered;
      inside = is.inside;
      account = is.account;
      server = is.server;
      usable = is.usable;
      state = is.state;
      quits = is.quits;
      step = is.step;
      stepless = is.stepless;
      written = over.0;
      bad = is.bad;
      well = is.well;
      unread = is.unread;
      cell = is.cell;
      whose = is.whose;
      own = is.own;
      shared = is.shared;
    }

back_by : (entered : Bool) (reads : Reads) (codes : Codes) (login : Login) (seen : View) (row : Row) (wire : Wire) (link : Link)
    → IsRowBy entered reads codes login seen row wire link → IsRowBy entered reads codes login seen (taken_back row) wire link
back_by true reads codes login seen row wire link is = back_serving reads codes login seen row wire link row.link.next refl is
back_by false reads codes login seen row wire link is =
    subst (λ (next : Option Begins). Enters login (record row { link = unbegun_by next row.link }) wire link) (sym is.next) is

server_same : (next : Option Begins) (row : Row) → (record row { link = unbegun_by next row.link }).link.server ≡ row.link.server
server_same None row = refl
server_same (Some next) row = refl

pub taken_back_so : (setup : Setup) (codes : Codes) (plan : Plan) (tale : Tale) (l : LinkId) (row : Row) → IsRowIn setup codes plan tale l row
    → IsRowIn setup codes plan tale l (taken_back row)
taken_back_so setup codes plan tale l row is = record {
  server = is.server ∙ sym (server_same row.link.next row);
  is = back_by (tale.wires l).entered setup.reads codes (plan.logins l) (view_of setup tale) row (tale.wires l) ((view_of setup tale).links l) is.is;
}
