-- Bytes are read in a login: the tables stand.
use Rattle.std.specs.Prelude.{◌≡◌, ℕ, Bool, true, false, not, if◌then◌else◌, List, [], ◌∷◌, Option, Some, is_some}
use Rattle.std.proofs.Common.{refl, sym, ap, ◌∙◌, subst}
use Rattle.client_session.specs.Setups.{Setup as Service}
use Rattle.server_side.specs.Backend.{BackendState}
use Rattle.server_side.specs.Hearing as hearing
use Rattle.server_side.specs.Hearing.{Got, entered_of}
use Rattle.server_side.specs.Login.{Fails, Goes, LogsIn, Opening, opening}
use Rattle.server_side.specs.declared.hear.Heard.{Heard}
use Rattle.server_side.specs.declared.hear.Heard.TheVariants as said
use Rattle.private_model.specs.Names.{LinkId}
use Rattle.private_model.specs.Story.{LoggedIn, Story, is_link_id, put}
use Rattle.private_model.specs.View as view
use Rattle.private_model.specs.View.{Link, new_link, view_after}
use Rattle.log_story.specs.Servers.{entered_by, logged_in_as, reads_on, reset_by, read_as}
use Rattle.log_story.specs.Tale.{Tale, Wire, is_reset_step, is_to_server, tell, with_wire}
use Rattle.log_story.specs.Telling.{server_says, wire_with}
use Rattle.reply_track.specs.declared.reply.ReplyKind.TheVariants as kinds
use Rattle.link_state.specs.States.{fresh}
use Rattle.link_state.specs.declared.state.LinkState.{LinkState}
use Rattle.lent_link.specs.declared.link.Begins.{Begins}
use Rattle.served_link.specs.Reads.{EntersBy, login_news, used_at, with_login}
use Rattle.served_link.specs.declared.news.News.{News}
use Rattle.served_link.specs.declared.row.Row.{Row}
use Rattle.row_laws.specs.Rows.{Enters, IsRowIn}
use Rattle.row_laws.specs.Whose.{name_in}
use Rattle.row_laws.proofs.Framing.{same_parts}
use Rattle.row_laws.proofs.Opening.{enters_in, put_there}
use Rattle.core_tables.specs.Hearing.{told_by, told_to, with_row}
use Rattle.core_tables.specs.Tables.{Tabled, link_changed}
use Rattle.core_tables.specs.declared.server.Server.{Server}
use Rattle.core_stands.specs.Grounds.{Ground, on, view_on}
use Rattle.core_stands.specs.Servers.{IsNextOf, IsPartedAt, IsReplyingAt, IsServer, IsStandingAt, IsAhead, OfLent}
use Rattle.core_stands.specs.Stands.{AreClients, Stands}
use Rattle.core_laws.proofs.OfParting.Apart.{put_apart}
use Rattle.core_laws.proofs.OfHearing.Elsewhere.{CarriedLaw, HomedLaw, IsNear}
use Rattle.core_laws.proofs.OfHearing.Kept.{with_story}
use Rattle.core_laws.proofs.OfHearing.Laws.{DeskLaws, OthersStay}
use Rattle.core_laws.proofs.OfHearing.Seated.{at_wired, clients_told}
use Rattle.core_laws.proofs.OfHearing.Standing.{StandsBut, rows_so, server_is}

-- what a login leaves of a row, and what it tells
pub record IsEntered (old new : Row) (told : News) : Type 0 where
  pub state : new.link.state ≡ old.link.state
  pub next : new.link.next ≡ old.link.next
  pub left : new.left ≡ old.left
  pub lost : new.lost ≡ old.lost
  pub user : new.identity.user ≡ old.identity.user
  pub found_rows : new.identity.found_rows ≡ old.identity.found_rows
  pub tells : (multiplex : Option Bool) (made : List ℕ) (t : Tabled) → told_by told multiplex made t ≡ t

heard_entered : (heard : Heard) (login : BackendState) (old : Row) → IsEntered old (with_login heard login old) (login_news heard)
heard_entered said.LoggedIn login old =
    record { state = refl; next = refl; left = refl; lost = refl; user = refl; found_rows = refl; tells = λ multiplex made t. refl }
heard_entered said.Quiet login old =
    record { state = refl; next = refl; left = refl; lost = refl; user = refl; found_rows = refl; tells = λ multiplex made t. refl }
heard_entered (said.Part used) login old =
    record { state = refl; next = refl; left = refl; lost = refl; user = refl; found_rows = refl; tells = λ multiplex made t. refl }
heard_entered (said.Whole used) login old =
    record { state = refl; next = refl; left = refl; lost = refl; user = refl; found_rows = refl; tells = λ multiplex made t. refl }

entered_so : (told : News) (new : Row) (got : Got) (old : Row) → EntersBy told new got old → IsEntered old new told
entered_so told new (hearing.Hears heard login) old is =
    subst (λ (n : News). IsEntered old new n) (sym is.0)
    (subst (λ (row : Row). IsEntered old row (login_news heard)) (sym is.1) (heard_entered heard login old))
entered_so told new (hearing.Fails fault) old is = record {
  state = ap (λ (row : Row). row.link.state) is.row;
  next = ap (λ (row : Row). row.link.next) is.row;
  left = ap (λ (row : Row). row.left) is.row;
  lost = ap (λ (row : Row). row.lost) is.row;
  user = ap (λ (row : Row). row.identity.user) is.row;
  found_rows = ap (λ (row : Row). row.identity.found_rows) is.row;
  tells = λ multiplex made t. ap (λ (n : News). told_by n multiplex made t) is.tells;
}

if_same : (b : Bool) (x y : Tabled) → y ≡ x → (if b then x else y) ≡ x
if_same true x y same = refl
if_same false x y same = same

module _ (laws : DeskLaws) (stay : OthersStay) (carried_law : CarriedLaw) (homed_law : HomedLaw)
    (service : Service) (g : Ground) (t : Tabled) (stands : Stands service g t) (l : LinkId) (server : Server) (there : t.links l ≡ Some server)
    (to_server : is_to_server g.tale l ≡ true) (kept : server.row.lost ≡ false) (fine : server.row.link.spoilt ≡ false)
    (bytes : List ℕ) (now : ℕ) (outside : (g.tale.wires l).entered ≡ false) (new : Row) (told : News)
    (enters : EntersBy told new (entered_of bytes (used_at now server.row).link.login) (used_at now server.row)) where
  abbrev row : Row
  row = used_at now server.row

  abbrev is_server : IsServer g t l server.row
  is_server = server_is laws stay carried_law homed_law service g t stands l server there to_server kept fine

  was : Enters (g.plan.logins l) server.row (g.tale.wires l) ((view_on g).links l)
  was = enters_in g.setup.reads g.codes (g.plan.logins l) (view_on g) server.row (g.tale.wires l) ((view_on g).links l) outside is_server.row

  is : IsEntered row new told
  is = entered_so told new (entered_of bytes row.link.login) row enters

  fresh_now : new.link.state ≡ fresh
  fresh_now = is.state ∙ was.state

  abbrev row_table : Tabled
  row_table = link_changed l (with_row new) t

  module _ (story : Story) (wires : LinkId → Wire) (near : IsNear g l story wires) (clients : AreClients (on g (with_story story wires g.tale)) t)
      (quiet : ((view_after g.setup story).links l).stage ≡ view.Quiet) where
    abbrev after : Ground
    after = on g (with_story story wires g.tale)

    server_so : IsRowIn g.setup g.codes g.plan (with_story story wires g.tale) l new → IsServer after row_table l new
    server_so row_is = record {
      row = row_is;
      user = is.user ∙ is_server.user;
      found_rows = is.found_rows ∙ is_server.found_rows;
      standing = subst (λ (stage : view.Stage). IsStandingAt stage after l) (sym quiet) tt;
      next = subst (λ (next : Option Begins). IsNextOf next after row_table new ((view_on after).links l)) (sym (is.next ∙ was.next)) tt;
      lent = λ whole mine unstated. subst (λ (state : LinkState). OfLent state.carries (IsAhead (view_on after))) (sym fresh_now) tt;
      parted = λ whole here left. subst (λ (state : LinkState). IsPartedAt state.stage after) (sym fresh_now) tt;
      replying = λ whole here mine. subst (λ (state : LinkState). IsReplyingAt state.stage after row_table l new) (sym fresh_now) tt;
    }

    pub entered_stands : (made : List ℕ) → IsRowIn g.setup g.codes g.plan (with_story story wires g.tale) l new
        → StandsBut after (told_to new told made row_table)
    entered_stands made row_is =
        subst (λ (x : Tabled). StandsBut after x) (sym (if_same (is_some new.left) row_table (told_by told new.multiplex made row_table) (is.tells new.multiplex made row_table)))
        (rows_so laws stay carried_law homed_law service g t stands l server there to_server kept fine story wires near clients new (server_so row_is) (record {
          carries = ap (λ (state : LinkState). name_in state.carries) is.state;
          lost = is.lost;
          left = λ none. sym is.left ∙ none;
          kept = λ none. is.left ∙ none;
        }))

  -- By how far the login is.

  abbrev fed : Wire
  fed = wire_with g.tale l bytes

  near_wire : (w : Wire) → IsNear g l g.tale.story (put is_link_id g.tale.wires l w)
  near_wire w = record {
    wire = λ other apart. put_apart is_link_id g.tale.wires l w other apart;
    link = λ other apart. refl;
    dues = λ n. refl;
    session = λ other row n apart is carried. same_parts (view_on g) (view_on g) n row.left refl refl refl refl;
    carriers = λ m. refl;
    replies = λ other m apart carrier. refl;
  }

  quiet_wire : ((view_on g).links l).stage ≡ view.Quiet
  quiet_wire = ap (λ (link : Link). link.stage) was.unborn

  wired_so : (w : Wire) (made : List ℕ) → IsRowIn g.setup g.codes g.plan (with_wire l w g.tale) l new → StandsBut (on g (with_wire l w g.tale)) (told_to new told made row_table)
  wired_so w made row_is =
      entered_stands g.tale.story (put is_link_id g.tale.wires l w) (near_wire w)
      (clients_told g t g.tale.story (put is_link_id g.tale.wires l w) stands.clients (λ client is. at_wired g t (put is_link_id g.tale.wires l w) client is)) quiet_wire made row_is

  logged_so : (rest : List ℕ) (made : List ℕ)
      → IsRowIn g.setup g.codes g.plan (tell (LoggedIn l fed.server (logged_in_as (g.plan.logins l))) (with_wire l (record fed { entered = true; unread = rest; written = [] }) g.tale)) l new
      → StandsBut (on g (tell (LoggedIn l fed.server (logged_in_as (g.plan.logins l))) (with_wire l (record fed { entered = true; unread = rest; written = [] }) g.tale)))
      (told_to new told made row_table)
  logged_so rest made row_is =
      entered_stands (LoggedIn l fed.server (logged_in_as (g.plan.logins l)) ∷ g.tale.story) (put is_link_id g.tale.wires l (record fed { entered = true; unread = rest; written = [] }))
      (record {
        wire = λ other apart. put_apart is_link_id g.tale.wires l (record fed { entered = true; unread = rest; written = [] }) other apart;
        link = λ other apart. put_apart is_link_id (view_on g).links l (new_link fed.server (logged_in_as (g.plan.logins l))) other apart;
        dues = λ n. refl;
        session = λ other row n apart is carried.
            same_parts (view_on g) (view_after g.setup (LoggedIn l fed.server (logged_in_as (g.plan.logins l)) ∷ g.tale.story)) n row.left refl refl refl refl;
        carriers = λ m. refl;
        replies = λ other m apart carrier. refl;
      })
      (clients_told g t (LoggedIn l fed.server (logged_in_as (g.plan.logins l)) ∷ g.tale.story) (put is_link_id g.tale.wires l (record fed { entered = true; unread = rest; written = [] }))
      stands.clients (λ client is.
      at_wired (on g (tell (LoggedIn l fed.server (logged_in_as (g.plan.logins l))) g.tale)) t
      (put is_link_id g.tale.wires l (record fed { entered = true; unread = rest; written = [] })) client
      (stay g t t client (LoggedIn l fed.server (logged_in_as (g.plan.logins l))) is refl refl refl)))
      (ap (λ (link : Link). link.stage) (put_there (view_on g).links l (new_link fed.server (logged_in_as (g.plan.logins l))))) made row_is

  says : server_says g.setup g.plan l bytes g.tale ≡ entered_by g.plan l fed (opening (g.plan.logins l) fed.unread) g.tale
  says =
      ap (λ (is : Bool). if is then entered_by g.plan l fed (opening (g.plan.logins l) fed.unread) g.tale
      else if is_reset_step (g.tale.wires l).step then reset_by l fed (read_as kinds.Command fed) g.tale else reads_on g.setup l fed g.tale) (ap not outside)

  by_opening : (made : List ℕ) (how : Opening) → IsRowIn g.setup g.codes g.plan (entered_by g.plan l fed how g.tale) l new
      → StandsBut (on g (entered_by g.plan l fed how g.tale)) (told_to new told made row_table)
  by_opening made (LogsIn spoken rest) row_is = logged_so rest made row_is
  by_opening made (Goes spoken) row_is = wired_so fed made row_is
  by_opening made (Fails spoken fault) row_is = wired_so fed made row_is

  pub login_so : (made : List ℕ) → IsRowIn g.setup g.codes g.plan (server_says g.setup g.plan l bytes g.tale) l new
      → StandsBut (on g (server_says g.setup g.plan l bytes g.tale)) (told_to new told made row_table)
  login_so made =
      subst (λ (T : Tale). IsRowIn g.setup g.codes g.plan T l new → StandsBut (on g T) (told_to new told made row_table)) (sym says)
      (by_opening made (opening (g.plan.logins l) fed.unread))
