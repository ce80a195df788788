-- A link that was lost or closed is forgotten.
use Rattle.std.specs.Prelude.{◌≡◌, Bool, true, false, not, nat_eq, if◌then◌else◌, Option, Some, None}
use Rattle.std.proofs.Common.{refl, sym, ap, ◌∙◌, subst}
use Rattle.std.proofs.lemmas.Bool.{true≢false}
use Rattle.std.proofs.lemmas.Option.{none-some}
use Rattle.client_session.specs.Setups.{Setup as Service}
use Rattle.private_model.proofs.Maps.{number_of}
use Rattle.private_model.specs.Names.{LinkId, SessionName}
use Rattle.private_model.specs.View.{Link, Setup, View}
use Rattle.log_story.specs.Plan.{Plan}
use Rattle.log_story.specs.Tale.{Tale, Wire, is_to_server, link_in, view_of}
use Rattle.server_rule.specs.Classes.{Reads}
use Rattle.server_side.specs.Account.{Account as Login}
use Rattle.link_laws.specs.Stands.{Codes}
use Rattle.link_state.specs.declared.state.LinkState.{LinkState}
use Rattle.served_link.specs.declared.row.Row.{Row}
use Rattle.row_laws.specs.Rows.{IsRowBy, IsRowIn, Serves}
use Rattle.row_laws.specs.Whose.{name_in}
use Rattle.client_desk.specs.Desks.{session_of}
use Rattle.core_tables.specs.Parting.{unlinked}
use Rattle.core_tables.specs.Tables.{Tabled}
use Rattle.core_tables.specs.declared.server.Server.{Server}
use Rattle.core_stands.specs.Grounds.{Ground}
use Rattle.core_stands.specs.Servers.{IsServer, IsServerBy, IsServerOr}
use Rattle.core_stands.specs.Stands.{AreHomes, IsHome, Stands}
use Rattle.core_laws.proofs.OfParting.Moving.{stands_moved}
use Rattle.core_laws.proofs.OfParting.Reading.{unread_so}

-- a row that is there is that of a link to a server
server_by : (g : Ground) (t : Tabled) (l : LinkId) (server : Server) (b : Bool) → IsServerBy b g t l (Some server) → IsServer g t l server.row
server_by g t l server true is = is
server_by g t l server false is = absurd (none-some server (sym is))

pub server_there : (service : Service) (g : Ground) (t : Tabled) (l : LinkId) (server : Server) → Stands service g t → t.links l ≡ Some server → IsServer g t l server.row
server_there service g t l server is there =
    server_by g t l server (is_to_server g.tale l) (subst (λ (x : Option Server). IsServerOr g t l x) there (is.servers l))

-- one that carries somebody is logged in
carrier_by : (entered : Bool) (reads : Reads) (codes : Codes) (login : Login) (seen : View) (row : Row) (wire : Wire) (link : Link) (n : SessionName)
    → name_in row.link.state.carries ≡ Some n → IsRowBy entered reads codes login seen row wire link → Serves reads codes login seen row wire link
carrier_by true reads codes login seen row wire link n carries is = is
carrier_by false reads codes login seen row wire link n carries is =
    absurd (none-some n (sym (ap (λ (s : LinkState). name_in s.carries) is.state) ∙ carries))

pub carrier_serves : (setup : Setup) (codes : Codes) (plan : Plan) (tale : Tale) (l : LinkId) (row : Row) (n : SessionName) → name_in row.link.state.carries ≡ Some n
    → IsRowIn setup codes plan tale l row → Serves setup.reads codes (plan.logins l) (view_of setup tale) row (tale.wires l) ((view_of setup tale).links l)
carrier_serves setup codes plan tale l row n carries is =
    carrier_by (tale.wires l).entered setup.reads codes (plan.logins l) (view_of setup tale) row (tale.wires l) ((view_of setup tale).links l) n carries is.is

module _ (service : Service) (g : Ground) (t : Tabled) (l : LinkId) (is : Stands service g t) (unusable : (link_in g.setup g.tale l).usable ≡ false) where
  gone_by : (b : Bool) → is_to_server g.tale l ≡ b → IsServerBy b g (unlinked l t) l None
  gone_by true at = unusable
  gone_by false at = refl

  rest_by : (other : LinkId) (b : Bool) → nat_eq l.0 other.0 ≡ b → IsServerOr g (unlinked l t) other (if b then None else t.links other)
  rest_by other true same =
      let one : l ≡ other = (λ i. record { 0 = number_of l.0 other.0 same i }) in
      subst (λ (k : LinkId). IsServerOr g (unlinked l t) k None) one (gone_by (is_to_server g.tale l) refl)
  rest_by other false apart = unread_so g t (unlinked l t) other (t.links other) (is.servers other) (λ c. refl)

  -- no home is there
  apart_home : (other : LinkId) (server : Server) (n : SessionName) → IsHome t other n server → nat_eq l.0 other.0 ≡ false
  apart_home other server n home = by (nat_eq l.0 other.0) refl where
    by : (b : Bool) → nat_eq l.0 other.0 ≡ b → nat_eq l.0 other.0 ≡ false
    by false apart = apart
    by true same =
        let one : l ≡ other = (λ i. record { 0 = number_of l.0 other.0 same i }) in
        let serves = carrier_serves g.setup g.codes g.plan g.tale other server.row n home.carries (server_there service g t other server is home.there).row in
        absurd (true≢false (sym (serves.usable ∙ ap not home.whole) ∙ ap (λ (k : LinkId). (link_in g.setup g.tale k).usable) (sym one) ∙ unusable))

  was_there : (other : LinkId) (server : Server) (b : Bool) → (if b then None else t.links other) ≡ Some server → t.links other ≡ Some server
  was_there other server true there = absurd (none-some server there)
  was_there other server false there = there

  homes_so : AreHomes g (unlinked l t)
  homes_so = record {
    carried = λ c row h other there home.
        let carried = is.homes.carried c row h other there home in (
          carried.0,
          record {
            there = ap (λ (b : Bool). if b then None else t.links other) (apart_home other carried.0 (record { client = c; hostgroup = h; life = (session_of row.desk h).life }) carried.1) ∙ carried.1.there;
            carries = carried.1.carries;
            present = carried.1.present;
            whole = carried.1.whole;
          },
        );
    home = λ other server n there carries mine kept. is.homes.home other server n (was_there other server (nat_eq l.0 other.0) there) carries mine kept;
  }

  pub forgotten_so : Stands service g (unlinked l t)
  forgotten_so = stands_moved g g.tale.story g.tale.moment g.over t (unlinked l t) service is (record {
    rows = λ client seated was. was;
    there = λ c. refl;
    numbers = λ k. refl;
    servers = λ other. rest_by other (nat_eq l.0 other.0) refl;
    homes = homes_so;
    lawful = is.lawful;
    prepared = is.prepared;
    duly = is.duly;
  })
