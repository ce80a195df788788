-- A router goes on as links to servers are opened, written on and closed.
use Rattle.std.specs.Prelude.{◌≡◌, ◌||◌, ℕ, Bool, true, false, ◌&&◌, is_some, nat_eq, if◌then◌else◌, List, [], Option, Some, None}
use Rattle.std.specs.List.{list_any}
use Rattle.std.specs.Option.{option_and_then, option_map}
use Rattle.std.proofs.Common.{refl, sym, ap, ◌∙◌, subst, arith}
use Rattle.std.proofs.lemmas.List.Elements.{All-nil}
use Rattle.std.proofs.lemmas.Option.{none-some}
use Rattle.mx_base.specs.Sent.{Sent as Offer}
use Rattle.mx_base.specs.declared.names.Address.{Address}
use Rattle.mx_base.specs.declared.tag.Tag.{Tag}
use Rattle.mx_wire.specs.Log.{Log, is_link, is_open, link_of, open_step}
use Rattle.mx_wire.specs.declared.entry.Entry.{Entry}
use Rattle.mx_wire.specs.declared.entry.Entry.TheVariants as entry
use Rattle.private_model.proofs.Maps.{link_of as same_link_of, same_link}
use Rattle.private_model.specs.Names.{ClientNo, LinkId, ServerId}
use Rattle.private_model.specs.Story.{is_link_id}
use Rattle.private_model.specs.View.{Setup}
use Rattle.log_story.specs.Headline.{tale_of}
use Rattle.log_story.specs.Plan.{Plan, StepText}
use Rattle.log_story.specs.Tale.{is_to_server}
use Rattle.server_side.specs.Account.{Account as Login}
use Rattle.lent_link.specs.declared.link.Begins.{Begins}
use Rattle.link_state.specs.declared.asking.Purpose.{Purpose}
use Rattle.link_state.specs.declared.asking.Purpose.TheVariants as purposes
use Rattle.link_state.specs.declared.writing.Writing.{Writing}
use Rattle.served_link.specs.Rows.{new_row}
use Rattle.served_link.specs.declared.row.Row.{Row}
use Rattle.core_tables.specs.Parting.{lost_in, lost_row}
use Rattle.core_tables.specs.Tables.{Tabled, link_changed}
use Rattle.core_tables.specs.Writing.{begun_for, lasts, purpose_next, server_wrote, wrote_by, wrote_on}
use Rattle.core_tables.specs.declared.server.Server.{Server}
use Rattle.router_laws.proofs.OfDecisions.Listing.{is_tale_of, open_with}
use Rattle.router_laws.specs.decisions.Deeds.{Deeds, IsAlone, begun_at, is_opened, login_at, no_deeds}
use Rattle.router_laws.specs.decisions.Routers.{AreOpenJust}
use Rattle.core_laws.specs.entry.Cores.{with_entry}
use Rattle.router_laws.proofs.OfLinks.Calming.{IsIdleBy}
use Rattle.core_laws.proofs.OfLinks.Desks.{begun_links}
use Rattle.router_laws.proofs.OfDecisions.Speaking.{ours_of_link, ours_of_none}
use Rattle.router_laws.specs.links.Closes.{ClosesSo}
use Rattle.router_laws.specs.links.Opens.{OpensSo}
use Rattle.router_laws.specs.links.Writes.{WritesSo}
use Rattle.router_laws.specs.links.Steps.{begins_of, begins_on, step_by, step_of, step_on}

-- Deeds of nobody.

abbrev pub opening : Login → Deeds
opening login = record no_deeds { login = Some login }

abbrev pub writing : Option (Option StepText) → Deeds
writing begun = record no_deeds { begun = begun }

pub opening_idle : (login : Login) → IsIdleBy (opening login)
opening_idle login = record {
  alone = λ c. All-nil IsAlone;
  ours = λ rules texts. ours_of_link rules texts (Some login) None;
  none = record { given = λ c. refl; ends = λ c. refl };
  takes = λ c. refl;
}

pub writing_idle : (begun : Option (Option StepText)) → IsIdleBy (writing begun)
writing_idle begun = record {
  alone = λ c. All-nil IsAlone;
  ours = λ rules texts. ours_of_link rules texts None begun;
  none = record { given = λ c. refl; ends = λ c. refl };
  takes = λ c. refl;
}

pub none_idle : IsIdleBy no_deeds
none_idle = record {
  alone = λ c. All-nil IsAlone;
  ours = λ rules texts. ours_of_none rules texts;
  none = record { given = λ c. refl; ends = λ c. refl };
  takes = λ c. refl;
}

-- the login of the link that is opened
pub opening_login : (server : ServerId) (address : Address) (l : LinkId) (login : Login) → login_at (entry.Opened server address l) (opening login) l ≡ Some login
opening_login server address l login = ap (λ (b : Bool). if b then Some login else None) (same_link l)

-- the step that begins on the link to a server on which is written

pub writing_begun : (setup : Setup) (plan : Plan) (log : Log) (l : LinkId) (tag : Tag) (bytes : List ℕ) (begun : Option (Option StepText))
    → is_to_server (tale_of setup plan log) l ≡ true → begun_at log (entry.Wrote l tag bytes) (writing begun) l ≡ begun
writing_begun setup plan log l tag bytes begun known =
    let opened : is_opened l log ≡ true = ap (λ (links : List LinkId). list_any (is_link_id l) links) (sym (is_tale_of setup plan log).links) ∙ known in
    λ i. if same_link l i && opened i then begun else None

step_next : (next : Option Begins) (writes : Option Writing) (step : StepText) → step_by next writes ≡ Some step → is_some next ≡ true
step_next None writes step is = absurd (none-some step is)
step_next (Some next) writes step is = refl

begins_with : (row : Row) (step : StepText) → step_of row ≡ Some step → begins_of row ≡ Some (Some step)
begins_with row step is =
    (λ i. if step_next row.link.next row.link.writing step is i then Some (is i) else None)

pub begins_step : (l : LinkId) (t : Tabled) (step : StepText) → step_on l t ≡ Some step → begins_on l t ≡ Some (Some step)
begins_step l t step is = by (t.links l) is where
  by : (found : Option Server) → option_and_then (λ (server : Server). step_of server.row) found ≡ Some step
      → option_and_then (λ (server : Server). begins_of server.row) found ≡ Some (Some step)
  by None is = absurd (none-some step is)
  by (Some server) is = begins_with server.row step is

pub begins_there : (l : LinkId) (t : Tabled) (server : Server) → t.links l ≡ Some server → is_some (begins_on l t) ≡ is_some server.row.link.next
begins_there l t server there =
    ap (λ (found : Option Server). is_some (option_and_then (λ (x : Server). begins_of x.row) found)) there ∙ by (is_some server.row.link.next) where
      by : (b : Bool) → is_some (if b then Some (step_of server.row) else None) ≡ b
      by true = refl
      by false = refl

-- Which links have rows.

flipped : (a b : LinkId) → nat_eq a.0 b.0 ≡ false → nat_eq b.0 a.0 ≡ false
flipped a b apart = grind arith

module _ (log : Log) (t now : Tabled) (rows : AreOpenJust log t) where
  abbrev has : Tabled → LinkId → Bool
  has x k = is_some (x.links k) || is_some (x.numbers k)

  -- one of the entry's link, by itself; others as they were
  pub open_one : (e : Entry) (l : LinkId) → link_of e ≡ Some l → open_step (is_open l log) e ≡ has now l
      → ((k : LinkId) → nat_eq l.0 k.0 ≡ false → has now k ≡ has t k) → AreOpenJust (with_entry log e) now
  open_one e l named own others k =
      open_with log e k ∙ ap (λ (o : Option LinkId). if is_link k o then open_step (is_open k log) e else is_open k log) named ∙ by (nat_eq k.0 l.0) refl where
        by : (b : Bool) → nat_eq k.0 l.0 ≡ b → (if b then open_step (is_open k log) e else is_open k log) ≡ has now k
        by true here = subst (λ (x : LinkId). open_step (is_open x log) e ≡ has now x) (sym (same_link_of k l here)) own
        by false apart = rows k ∙ sym (others k (flipped k l apart))

-- The rows behind each kind.

abbrev pub has_row : Tabled → LinkId → Bool
has_row x k = is_some (x.links k) || is_some (x.numbers k)

pub put_aside : {A : Type 0} (l k : LinkId) (was new : A) → nat_eq l.0 k.0 ≡ false → (if nat_eq l.0 k.0 then new else was) ≡ was
put_aside l k was new apart = ap (λ (b : Bool). if b then new else was) apart

put_here : {A : Type 0} (l : LinkId) (was new : A) → (if nat_eq l.0 l.0 then new else was) ≡ new
put_here l was new = ap (λ (b : Bool). if b then new else was) (same_link l)

pub opened_row : (l : LinkId) (server : ServerId) (login : Login) (t now : Tabled) (so : OpensSo l server login t now)
    → now.links l ≡ Some (record { row = new_row so.opening login so.moment; slot = so.slot; spot = None })
opened_row l server login t now so = so.same.links l ∙ put_here l (t.links l) _

changed_has : (by : Server → Server) (l k : LinkId) (t : Tabled) → is_some (if nat_eq l.0 k.0 then option_map by (t.links l) else t.links k) ≡ is_some (t.links k)
changed_has by l k t = at (nat_eq l.0 k.0) refl where
  mapped : (found : Option Server) → is_some (option_map by found) ≡ is_some found
  mapped None = refl
  mapped (Some server) = refl

  at : (b : Bool) → nat_eq l.0 k.0 ≡ b → is_some (if b then option_map by (t.links l) else t.links k) ≡ is_some (t.links k)
  at false apart = refl
  at true here = mapped (t.links l) ∙ ap (λ (x : LinkId). is_some (t.links x)) (same_link_of l k here)

begun_numbers : (p : Option Purpose) (l : LinkId) (lasting : Bool) (t : Tabled) → (begun_for p l lasting t).numbers ≡ t.numbers
begun_numbers (Some (purposes.Statement name ordinal key)) l lasting t = refl
begun_numbers (Some (purposes.Prep name ordinal key)) l lasting t = refl
begun_numbers (Some (purposes.Sync name)) l lasting t = refl
begun_numbers (Some purposes.Own) l lasting t = refl
begun_numbers (Some (purposes.End name)) l lasting t = refl
begun_numbers (Some (purposes.Capture name)) l lasting t = refl
begun_numbers None l lasting t = refl

pub wrote_has : (l : LinkId) (offer : Offer) (count : ℕ) (t now : Tabled) → WritesSo l offer count t now → (k : LinkId) → has_row now k ≡ has_row t k
wrote_has l offer count t now so k =
    let onto : Tabled = link_changed l (server_wrote count so.moment) t in
    let row = so.server.row in
    let same : wrote_on l count so.moment t ≡ begun_for (purpose_next row) l (lasts row.link.next) onto =
    ap (λ (found : Option Server). wrote_by found l count so.moment t) so.there in
    let links : is_some (now.links k) ≡ is_some (t.links k) =
    ap is_some (so.same.links k ∙ ap (λ (x : Tabled). x.links k) same ∙ ap (λ (rows : LinkId → Option Server). rows k) (begun_links (purpose_next row) l (lasts row.link.next) onto))
    ∙ changed_has (server_wrote count so.moment) l k t in
    let numbers : is_some (now.numbers k) ≡ is_some (t.numbers k) =
    ap is_some (so.same.numbers k ∙ ap (λ (x : Tabled). x.numbers k) same
    ∙ ap (λ (rows : LinkId → Option ClientNo). rows k) (begun_numbers (purpose_next row) l (lasts row.link.next) onto)) in
    λ i. links i || numbers i

pub closed_none : (l : LinkId) (room : ClientNo → Bool) (t now : Tabled) → ClosesSo l room t now → has_row now l ≡ false
closed_none l room t now so =
    λ i. is_some ((so.same.links l ∙ put_here l ((lost_in l t).links l) None) i) || is_some ((so.same.numbers l ∙ so.may.own) i)

pub closed_has : (l : LinkId) (room : ClientNo → Bool) (t now : Tabled) → ClosesSo l room t now → (k : LinkId) → nat_eq l.0 k.0 ≡ false → has_row now k ≡ has_row t k
closed_has l room t now so k apart =
    let links : is_some (now.links k) ≡ is_some (t.links k) =
    ap is_some (so.same.links k ∙ put_aside l k ((lost_in l t).links k) None apart) ∙ changed_has lost_row l k t in
    λ i. links i || is_some (so.same.numbers k i)
