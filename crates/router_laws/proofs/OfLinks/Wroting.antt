-- Bytes are written on a link to a server.
use Rattle.std.specs.Prelude.{◌≡◌, ◌<◌, ◌≤◌, ℕ, Bool, true, false, not, ◌&&◌, ◌||◌, nat_eq, if◌then◌else◌, is_some, length, take, List, [], ◌∷◌, ◌++◌, Option, Some, None}
use Rattle.std.specs.List.{flat_map, list_any}
use Rattle.std.specs.Option.{option_map}
use Rattle.std.proofs.Common.{refl, sym, ap, ◌∙◌, subst, inl, inr}
use Rattle.std.proofs.lemmas.Bool.{false≢true, true≢false}
use Rattle.mx_base.specs.Sent.{Sent as Offer}
use Rattle.mx_base.specs.declared.tag.Tag.{Tag}
use Rattle.mx_wire.specs.Log.{Log, is_link, wrote_bytes, written_of}
use Rattle.mx_wire.specs.declared.entry.Entry.{Entry}
use Rattle.mx_wire.specs.declared.entry.Entry.TheVariants as entry
use Rattle.client_session.specs.Setups.{Setup as Service}
use Rattle.private_model.proofs.Maps.{link_of, same_number}
use Rattle.private_model.specs.Names.{ClientNo, LinkId}
use Rattle.private_model.specs.Story.{Broke, Happening, Sent, Story, Unprepared, is_link_id}
use Rattle.private_model.specs.View.{Setup}
use Rattle.link_laws.specs.Stands.{Codes}
use Rattle.link_state.specs.Dones.{is_quiet}
use Rattle.log_story.specs.Headline.{tale_of}
use Rattle.log_story.specs.Plan.{Plan}
use Rattle.log_story.specs.Said.{ClosesFirst}
use Rattle.log_story.specs.Servers.{begun_on, may_begin}
use Rattle.log_story.specs.Tale as tales
use Rattle.log_story.specs.Tale.{Tale, Wire, is_to_server, view_of}
use Rattle.log_story.specs.Telling.{tale_step, told}
use Rattle.tale_world.specs.Decided.{Decided}
use Rattle.tale_world.specs.Tested.{Passes}
use Rattle.lent_link.specs.Links.{begun_by, is_in, wrote_in}
use Rattle.lent_link.specs.Links as lent
use Rattle.lent_link.specs.Rests.{is_resetting, is_whole_or_none}
use Rattle.lent_link.specs.declared.link.Begins.{Begins}
use Rattle.lent_link.specs.declared.link.Begins.TheVariants as begins
use Rattle.lent_link.specs.declared.link.LentLink.{LentLink}
use Rattle.server_side.specs.Backend.{taken}
use Rattle.served_link.specs.Writes.{wrote}
use Rattle.served_link.specs.declared.row.Row.{Row}
use Rattle.step_laws.specs.Seats.{IsSeated}
use Rattle.step_laws.specs.Steps.{told_then}
use Rattle.core_tables.specs.Passing.{sends}
use Rattle.core_tables.specs.Tables.{IsSame, Tabled, link_changed}
use Rattle.core_tables.specs.Writing.{lasts, purpose_next, server_wrote, wrote_by, wrote_on}
use Rattle.core_tables.specs.declared.server.Server.{Server}
use Rattle.core_stands.specs.Grounds.{Ground, on, view_on}
use Rattle.core_stands.specs.Servers.{IsServer}
use Rattle.core_stands.specs.Stands.{IsAt, Rests, Stands}
use Rattle.core_laws.proofs.OfWriting.Knowing.{entered, enters_in, is_servers, over, server_at, serving}
use Rattle.core_laws.proofs.OfWriting.Lending.{MayBegin, goes_on, lent_so}
use Rattle.core_laws.proofs.OfWriting.Rows.{Wrote, wrote_so}
use Rattle.core_laws.proofs.OfEntry.Going.{tale_more}
use Rattle.core_laws.proofs.OfEntry.Lists.{seated_of}
use Rattle.core_laws.proofs.OfEntry.Telling.{IsBegun, on_begun}
use Rattle.core_laws.proofs.OfEntry.Uneventful.{Counting, Testing}
use Rattle.core_laws.specs.entry.Calms.{is_copy}
use Rattle.core_laws.specs.entry.Cores.{IsSafely, with_entry}
use Rattle.core_laws.specs.entry.Dues.{IsWrittenBy, written_by}
use Rattle.core_laws.specs.entry.Entries.{behind}
use Rattle.core_laws.specs.entry.Kinds.{IsUneventful}
use Rattle.core_laws.specs.entry.Safe.{IsSafe}
use Rattle.core_laws.specs.entry.Speaks.{IsSilentOrSpoken, IsSpoken}
use Rattle.core_laws.specs.entry.Tells.{ground}
use Rattle.router_laws.specs.clients.Behind.{IsDueBehind}
use Rattle.router_laws.specs.clients.Plans.{IsDecided, nobody, over_by}
use Rattle.core_laws.proofs.OfLinks.Desks.{begun_links}
use Rattle.core_laws.proofs.OfLinks.Uncalled.{Sames}
use Rattle.core_laws.proofs.OfLinks.Writes.{begun, gone_on, told_as, wrote_clients, wrote_links, wrote_rests, wrote_steps}
use Rattle.router_laws.proofs.OfLinks.Going.{same_over, uneventful}
use Rattle.router_laws.specs.links.Writes.{WritesSo}

-- A login that goes on doesn't fail by what is written.

begun_login : (next : Option Begins) (link : LentLink) → (begun_by next link).login ≡ link.login
begun_login None link = refl
begun_login (Some (begins.Asks asking)) link = refl
begun_login (Some (begins.Closes number)) link = refl
begun_login (Some (begins.Resets number)) link = refl
begun_login (Some begins.Quits) link = refl

wrote_well : (count : ℕ) (link : LentLink) (inside : Bool) → is_in link.login.stage ≡ inside
    → (is_in link.login.stage ≡ false → link.spoilt ≡ false)
    → is_in (if inside then wrote_in count link else record link { login = taken count link.login }).login.stage ≡ false
    → (if inside then wrote_in count link else record link { login = taken count link.login }).spoilt ≡ false
wrote_well count link true is well outside =
    absurd (true≢false (sym (ap (λ login. is_in login.stage) (begun_login link.next _) ∙ is) ∙ outside))
wrote_well count link false is well outside = well is

pub row_well : (count moment : ℕ) (row : Row) → (is_in row.link.login.stage ≡ false → row.link.spoilt ≡ false)
    → is_in (wrote count moment row).link.login.stage ≡ false → (wrote count moment row).link.spoilt ≡ false
row_well count moment row well outside =
    let w : Wrote (wrote count moment row) row (lent.wrote_on count row.link) = wrote_so count moment row in
    ap (λ (link : LentLink). link.spoilt) w.link_is
    ∙ wrote_well count row.link (is_in row.link.login.stage) refl well (ap (λ (link : LentLink). is_in link.login.stage) (sym w.link_is) ∙ outside)

-- It begins something just where something stands next.

begins_all : (inside quiet next whole plain : Bool) → inside ≡ true → quiet ≡ true → next ≡ true → plain ≡ true
    → (inside && (quiet && ((next || whole) && plain))) ≡ true
begins_all inside quiet next whole plain a b c d = λ i. a i && (b i && ((c i || whole) && d i))

module _ (law : MayBegin) (service : Service) (g : Ground) (t : Tabled) (l : LinkId) (server : Server) (stands : Stands service g t)
    (there : t.links l ≡ Some server) (offer : Offer) (lends : sends l t ≡ Some offer) where
  abbrev at : IsServer g t l server.row
  at = server_at service g t l server stands there

  begins_by : (next : Option Begins) → server.row.link.next ≡ next → may_begin g.setup l (g.tale.wires l) g.tale ≡ is_some next
  begins_by None same = by (may_begin g.setup l (g.tale.wires l) g.tale) refl where
    by : (b : Bool) → may_begin g.setup l (g.tale.wires l) g.tale ≡ b → b ≡ false
    by false is = refl
    by true is = absurd (goes_on law service g t l server.row stands at offer (lent_so t l server offer there lends).left same is)
  begins_by (Some next) same =
      let s = serving g t l server.row at next same in
      let o = over g t l server.row at next same in
      law g.setup g.codes g.plan g.tale l server.row at.row (entered g t l server.row at next same)
      ∙ begins_all (is_in server.row.link.login.stage) (is_quiet server.row.link.state.stage) (is_some server.row.link.next)
      (is_whole_or_none server.row.link.writing) (not (is_resetting server.row.link.step)) (ap is_in s.inside) o.quiet (ap is_some same) (ap not o.answered)

  pub begins_so : may_begin g.setup l (g.tale.wires l) g.tale ≡ is_some server.row.link.next
  begins_so = begins_by server.row.link.next refl

-- It writes nothing to clients.

none_on : (b : Bool) (e : Entry) → b ≡ false → flat_map wrote_bytes (if b then e ∷ [] else []) ≡ []
none_on true e is = absurd (true≢false is)
none_on false e is = refl

module _ (service : Service) (setup : Setup) (codes : Codes) (plan : Plan) (log : Log) (old new : Decided) (t now : Tabled) (roomy : ClientNo → Bool)
    (l : LinkId) (offer : Offer) (count : ℕ) (counting : Counting service) (testing : Testing service) (sames : Sames service)
    (decided : IsDecided (ground setup codes plan old log) nobody (over_by new)) (so : WritesSo l offer count t now)
    (rests : Rests service (ground setup codes plan old log) t roomy)
    (plain : may_begin setup l ((tale_of setup plan log).wires l) (tale_of setup plan log) ≡ true → is_copy offer.tag ≡ false)
    (stands : Stands service (on (ground setup codes plan old log)
    (told setup plan (tale_of setup plan log) (entry.Wrote l offer.tag (take count offer.bytes)))) now) where
  abbrev g : Ground
  g = ground setup codes plan old log

  abbrev bytes : List ℕ
  bytes = take count offer.bytes

  abbrev e : Entry
  e = entry.Wrote l offer.tag bytes

  calm : IsUneventful g
  calm = uneventful g (over_by new) decided

  known : is_to_server g.tale l ≡ true
  known = is_servers service g t l so.server rests.stands so.there

  pub rested : Rests service (behind g e (over_by new)) now roomy
  rested =
      subst (λ (over : ClientNo → Bool). Rests service (behind g e over) now roomy) (sym (same_over g (over_by new) decided))
      (wrote_rests service counting testing sames g t roomy rests calm l so.server so.there count so.moment now offer.tag bytes plain so.same stands)

  client_aside : (x : tales.Client) → IsAt g t x → is_link_id x.link l ≡ false
  client_aside x at = by (is_link_id x.link l) refl where
    by : (b : Bool) → is_link_id x.link l ≡ b → b ≡ false
    by false is = refl
    by true is = absurd (true≢false (sym known ∙ ap (is_to_server g.tale) (sym (link_of x.link l is)) ∙ at.aside))

  writes_none : (x : tales.Client) → IsSeated g.tale x → IsWrittenBy g e x
  writes_none x seated = inl (none_on (is_link x.link (Some l)) e (client_aside x (seated_of (IsAt g t) g.tale x seated rests.stands.clients.each)))

  pub due : IsDueBehind g log e nobody (over_by new) now
  due = record {
    writes = writes_none;
    unread = λ x seated ended. refl;
    says = λ was x seated on its going. absurd (false≢true its);
    there = λ x seated its. absurd (false≢true its);
    comes = λ x seated come. absurd come;
  }

  steps : tale_step setup plan g.tale e ≡ told_then setup plan g.tale e
  steps =
      wrote_steps service counting testing sames g t roomy rests calm l so.server so.there count so.moment now offer.tag bytes plain so.same stands

  pub step_clients : (tale_step setup plan g.tale e).clients ≡ g.tale.clients
  step_clients = ap (λ (tale : Tale). tale.clients) steps ∙ wrote_clients g l offer.tag bytes known

  step_is : tale_of setup plan (with_entry log e) ≡ told_then setup plan g.tale e
  step_is = tale_more setup plan log e ∙ steps

  -- the row behind it

  abbrev row_now : Server
  row_now = server_wrote count so.moment so.server

  changed_by : (b : Bool) → b ≡ true → (if b then option_map (server_wrote count so.moment) (t.links l) else t.links l) ≡ Some row_now
  changed_by true is = ap (option_map (server_wrote count so.moment)) so.there
  changed_by false is = absurd (false≢true is)

  pub row_there : now.links l ≡ Some row_now
  row_there =
      so.same.links l ∙ ap (λ (row : Option Server). (wrote_by row l count so.moment t).links l) so.there
      ∙ ap (λ (rows : LinkId → Option Server). rows l)
      (begun_links (purpose_next so.server.row) l (lasts so.server.row.link.next) (link_changed l (server_wrote count so.moment) t))
      ∙ changed_by (nat_eq l.0 l.0) (same_number l.0)

  abbrev made : Ground
  made = on g (told setup plan g.tale e)

  well_now : (made.tale.wires l).entered ≡ false → row_now.row.link.spoilt ≡ false
  well_now outside =
      row_well count so.moment so.server.row so.well
      (enters_in setup.reads codes (plan.logins l) (view_on made) row_now.row (made.tale.wires l) ((view_on made).links l) outside
      (server_at service made now l row_now stands row_there).row).outside

  abbrev with : Tale
  with = tale_of setup plan (with_entry log e)

  wrote_spoken : IsSpoken now with l
  wrote_spoken = record {
    server = row_now;
    there = row_there;
    well = λ outside. well_now (ap (λ (tale : Tale). (tale.wires l).entered) (sym step_is) ∙ outside);
  }

  spoken : (other : LinkId) → is_to_server with other ≡ true → IsSilentOrSpoken setup plan g.tale e with now other
  spoken other there = by (is_link_id other l) refl where
    by : (b : Bool) → is_link_id other l ≡ b → IsSilentOrSpoken setup plan g.tale e with now other
    by true here = inr (subst (IsSpoken now with) (sym (link_of other l here)) wrote_spoken)
    by false apart =
        inl (
          ap (list_any (is_link_id other)) (sym (wrote_links g l offer.tag bytes known)) ∙ ap (λ (tale : Tale). is_to_server tale other) (sym step_is)
              ∙ there,
          apart,
        )

  pub safely : Passes setup plan g.tale e → ClosesFirst setup g.tale e → IsSafely setup plan log e now
  safely passes closes = record {
    passes = passes;
    gets = tt;
    closes = closes;
    spoken = spoken;
  }
