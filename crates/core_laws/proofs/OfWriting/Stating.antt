-- A statement that passes may be sent.
use Rattle.std.specs.Prelude.{◌≡◌, ◌⊎◌, ◌<◌, ℕ, Bool, true, false, not, ◌&&◌, ◌||◌, is_some, nat_eq, bytes_eq, if◌then◌else◌, List, [], ◌∷◌, Option, Some, None}
use Rattle.std.specs.Option.{option_map_or}
use Rattle.std.proofs.Common.{refl, sym, ap, ◌∙◌, subst, inl, inr}
use Rattle.std.proofs.lemmas.Bool.{and_parts, and_from, or_cases, false≢true, true≢false, not-true}
use Rattle.std.proofs.lemmas.Option.{none-some, same_Some}
use Rattle.mx_base.specs.declared.tag.Tag.TheVariants as tags
use Rattle.client_session.specs.Setups.{Setup as Service}
use Rattle.session_state.specs.Pins.{is_pinned, reads_own}
use Rattle.session_state.specs.declared.place.Place.{Place}
use Rattle.server_side.specs.Account.{Account as Login}
use Rattle.server_rule.specs.Classes.{Reads}
use Rattle.private_model.proofs.Maps.{name_of as name_is, number_of, same_name, same_number}
use Rattle.private_model.specs.Commands.{Account, class_of, is_marked}
use Rattle.private_model.specs.Lawful.{is_statement}
use Rattle.private_model.specs.Names.{Hostgroup, LinkId, MessageName, SessionName}
use Rattle.private_model.specs.Story.{Due, Happening, Prep, Question, Sent, Statement, is_name, message_of}
use Rattle.private_model.specs.View.{Held, Link, View, present}
use Rattle.private_model.specs.View as view
use Rattle.log_story.specs.Owed.{name_of as message_named, number_of as own_of}
use Rattle.log_story.specs.Plan.{Route, own_at}
use Rattle.log_story.specs.Servers.{begun_by, logged_in_as, of_due}
use Rattle.log_story.specs.Servers.{routed as routed_to}
use Rattle.log_story.specs.Tale as tales
use Rattle.log_story.specs.Tale.{Wire, link_in}
use Rattle.tale_world.specs.Tests as tests
use Rattle.link_state.specs.Asks.{lends_by, lent_for, marks}
use Rattle.link_state.specs.Wants.{is_id}
use Rattle.link_state.specs.declared.asking.Asking.{Asking}
use Rattle.link_state.specs.declared.asking.Form.{Form}
use Rattle.link_state.specs.declared.asking.Purpose.{Purpose}
use Rattle.link_state.specs.declared.asking.Purpose.TheVariants as purposes
use Rattle.link_state.specs.declared.state.Carried.{Carried}
use Rattle.link_state.specs.declared.state.LinkState.{LinkState}
use Rattle.link_laws.specs.Stands.{IsForm, IsLink, carried_of}
use Rattle.lent_link.specs.declared.link.Begins.TheVariants as begins
use Rattle.served_link.specs.declared.row.Identity.{Identity}
use Rattle.served_link.specs.declared.row.Row.{Row}
use Rattle.client_seat.specs.Seats.{account_in}
use Rattle.client_desk.specs.Desks.{name_of, session_of}
use Rattle.client_desk.specs.declared.desk.Desk.{Desk}
use Rattle.client_desk.specs.declared.session.Session.{Session}
use Rattle.client_desk.specs.declared.work.Work.{Work}
use Rattle.desk_laws.specs.Stands.{IsDesk, IsSentOrNot, IsUnsent, IsWork, IsWorkOr, held_of, message_at}
use Rattle.row_laws.specs.Begins.{IsLender, IsReadied}
use Rattle.row_laws.specs.Whose.{IsFor, name_in}
use Rattle.core_tables.specs.Beginning.{first_number}
use Rattle.core_tables.specs.Passing.{begins_there, goes_on_there, is_account, is_blind, is_joined, is_lent_to, is_nobody, is_of, is_placed, may_state, passes_for, reads_its_own, with_work}
use Rattle.core_tables.specs.Tables.{Tabled}
use Rattle.core_tables.specs.declared.client.Client.{Client}
use Rattle.core_tables.specs.declared.server.Server.{Server}
use Rattle.core_stands.specs.Grounds.{Ground, view_on}
use Rattle.core_stands.specs.Servers.{IsNextStatement, IsServer, keyed_text, own_number}
use Rattle.core_stands.specs.Stands.{IsDuly, Stands}
use Rattle.core_laws.proofs.OfWriting.Numbering.{duly_at, first_is, own_unnumbered}
use Rattle.core_laws.proofs.OfWriting.Begun.{Begun, HasBytes, IsDueThere, IsStated, OfPurpose, due_sent, joined_lends, joined_name, lender_so, lent_name, lent_to_name, lives_so, no_bytes, present_stays, routed_so}
use Rattle.core_laws.proofs.OfWriting.Knowing.{Knows, going, knows, own_none, present_held, present_name, routed, same_link, serving, unread, working}
use Rattle.core_laws.proofs.OfWriting.Tests.{IsLiveFor, account_is, blind_is, blind_states, id_is, joined_is, keyed_is, lent_to_is, marks_is, nobody_is, own_is, own_states, placed_is}

or_left : (a b : Bool) → a ≡ true → (a || b) ≡ true
or_left a b is = ap (λ (x : Bool). x || b) is

or_right : (a b : Bool) → b ≡ true → (a || b) ≡ true
or_right true b is = refl
or_right false b is = is

-- The work is found, and passes.

pub record HasWork (name : SessionName) (t : Tabled) (test : Desk → Work → Bool) : Type 0 where
  pub client : Client
  pub there : t.clients name.client ≡ Some client
  pub work : Work
  pub in_work : client.desk.work ≡ Some work
  pub passes : test client.desk work ≡ true

work_by : (name : SessionName) (t : Tabled) (test : Desk → Work → Bool) (client : Client) → t.clients name.client ≡ Some client → (found : Option Work)
    → client.desk.work ≡ found → option_map_or (test client.desk) found false ≡ true → HasWork name t test
work_by name t test client there None same is = absurd (false≢true is)
work_by name t test client there (Some work) same is = record { client = client; there = there; work = work; in_work = same; passes = is }

client_by : (name : SessionName) (t : Tabled) (test : Desk → Work → Bool) (found : Option Client) → t.clients name.client ≡ found
    → option_map_or (λ (client : Client). option_map_or (test client.desk) client.desk.work false) found false ≡ true → HasWork name t test
client_by name t test None same is = absurd (false≢true is)
client_by name t test (Some client) same is = work_by name t test client same client.desk.work refl is

pub has_work : (name : SessionName) (t : Tabled) (test : Desk → Work → Bool) → with_work name t test ≡ true → HasWork name t test
has_work name t test is = client_by name t test (t.clients name.client) refl is

account_by : (identity : Identity) (found : Option Login)
    → option_map_or (is_account identity) found false ≡ true → (login : Login) × (found ≡ Some login) × (is_account identity login ≡ true)
account_by identity None is = absurd (false≢true is)
account_by identity (Some login) is = (login, refl, is)

-- Of an unsent statement at a desk that stands: what is due.

pub due_at : (service : Service) (g : Ground) (t : Tabled) (row : Client) (name : SessionName) (ordinal : ℕ) (work : Work) → Stands service g t
    → t.clients name.client ≡ Some row → row.desk.work ≡ Some work → work.sent ≡ false → is_of name ordinal row.desk work ≡ true
    → IsDueThere g row name ordinal work
due_at service g t row name ordinal work stands there in_work unsent of =
    let k : Knows g name.client row = knows service g t name.client row stands there in
    let goes = going g k.client row work in_work k.is in
    let works = working g k.client row work in_work goes in
    let route = routed g k.client row work in_work goes in
    let parts = and_parts (nat_eq work.ordinal ordinal) (is_name name (name_of row.desk work.hostgroup)) of in
    let is_work : IsWork g.setup.reads (view_on g) k.client.number row.desk.seat.place work =
    subst (λ (x : Option Work). IsWorkOr g.setup.reads (view_on g) k.client.number row.desk.seat.place x) in_work k.is.desk.work in
    record {
      client = k.client;
      number = k.known.number;
      taken = works.last;
      ordinal_is = number_of work.ordinal ordinal parts.0;
      desk = k.is.desk;
      names = name_is name (name_of row.desk work.hostgroup) parts.1;
      unsent = subst (λ (sent : Bool). IsSentOrNot sent g.setup.reads (view_on g) k.client.number row.desk.seat.place work) unsent is_work.sent_or_not;
      number_next = works.number;
      unanswered = is_work.unanswered;
      dry = works.unsent unsent;
      route = route.route;
      routed_there = route.routed;
      hostgroup = route.hostgroup;
      not_own = own_none g k.client row work in_work goes;
      account = goes.account;
    }

module _ (g : Ground) (row : Client) (name : SessionName) (ordinal : ℕ) (work : Work) (at : IsDueThere g row name ordinal work) where
  abbrev pub seen : View
  seen = view_on g

  abbrev pub due : Due
  due = at.unsent.due

  pub present_desk : present seen at.client.number work.hostgroup ≡ name
  present_desk = present_name g.setup.reads seen at.client.number row.desk at.desk work.hostgroup ∙ sym at.names

  pub due_is : seen.dues name ≡ Some due
  due_is = ap seen.dues (sym present_desk) ∙ at.unsent.is_due

  pub due_ordinal : due.ordinal ≡ ordinal
  due_ordinal = at.unsent.as_due.request.ordinal_is ∙ at.ordinal_is

  pub present_here : present seen name.client name.hostgroup ≡ name
  present_here = (λ i. present seen (sym at.number i) (ap (λ (n : SessionName). n.hostgroup) at.names i)) ∙ present_desk

  pub life_is : name.life ≡ seen.lives name.client name.hostgroup
  life_is = ap (λ (n : SessionName). n.life) (sym present_here)

  pub held_is : seen.held name ≡ held_of (session_of row.desk work.hostgroup)
  held_is = ap seen.held (sym present_desk) ∙ present_held g.setup.reads seen at.client.number row.desk at.desk work.hostgroup

  message_same : message_named at.client at.client.taken ≡ record { client = name.client; ordinal = ordinal }
  message_same = λ i. record { client = at.number i; ordinal = (sym at.taken ∙ at.ordinal_is) i }

  message_due : message_named at.client at.client.taken ≡ message_of name due
  message_due = message_same ∙ (λ i. record { client = name.client; ordinal = sym due_ordinal i })

  -- a question about it is told, as its message is routed
  asked_told : (question : SessionName → Due → Question) (l : LinkId)
      → routed_to g.plan name.client ordinal (λ (route : Route). of_due g.plan g.tale.moment seen l ordinal (present seen name.client route.hostgroup)
      (question (present seen name.client route.hostgroup))) ≡ Sent l (question name due) ∷ []
  asked_told question l =
      let says = λ (route : Route). of_due g.plan g.tale.moment seen l ordinal (present seen name.client route.hostgroup) (question (present seen name.client route.hostgroup)) in
      let there : present seen name.client at.route.hostgroup ≡ name = (λ i. present seen (sym at.number i) (at.hostgroup i)) ∙ present_desk in
      routed_so g.plan name.client ordinal says at.route (ap g.plan.routes (sym message_same) ∙ at.routed_there)
      ∙ ap (λ (n : SessionName). of_due g.plan g.tale.moment seen l ordinal n (question n)) there
      ∙ due_sent g.plan g.tale.moment seen l ordinal name due (question name) due_is due_ordinal (ap (own_at g.plan g.tale.moment) (sym message_due) ∙ at.not_own)

  pub statement_told : (l : LinkId) (begun : ℕ) → begun_by g.setup g.plan g.tale.moment seen l begun (tags.For name.client ordinal) ≡ Sent l (Statement name due) ∷ []
  statement_told l begun = asked_told (λ (n : SessionName) (d : Due). Statement n d) l

  pub prep_told : (l : LinkId) (begun : ℕ) → begun_by g.setup g.plan g.tale.moment seen l begun (tags.Prep name.client ordinal)
      ≡ Sent l (Prep name due.key (keyed_text g due)) ∷ []
  prep_told l begun = asked_told (λ (n : SessionName) (d : Due). Prep n d.key (keyed_text g d)) l

  message_at_due : message_of name due ≡ message_at at.client.number work.ordinal
  message_at_due = λ i. record { client = sym at.number i; ordinal = at.unsent.as_due.request.ordinal_is i }

  pub unanswered_there : seen.replies (message_of name due) ≡ None
  unanswered_there = ap seen.replies message_at_due ∙ at.unanswered

  pub unsent_there : seen.carriers (message_of name due) ≡ None
  unsent_there =
      let message : message_of name due ≡ message_at at.client.number work.ordinal =
      λ i. record { client = sym at.number i; ordinal = at.unsent.as_due.request.ordinal_is i } in
      ap seen.carriers message ∙ at.unsent.unsent

  -- whom the link carries

  module _ (link : Link) (server : Row) (same : IsLink g.setup.reads g.codes server.link.state link) where
    pub lends_same : tests.may_lend name link (seen.held name)
        ≡ ((is_nobody server.link.state.carries && not (is_some (session_of row.desk work.hostgroup).home)) || is_lent_to name server.link.state.carries)
    lends_same = λ i.
        ((ap tests.is_nobody same.carries ∙ nobody_is server.link.state.carries) i && not (is_some (held_is i).home))
        || (ap (tests.is_lent_to name) same.carries ∙ lent_to_is name server.link.state.carries) i

    pub joined_same : tests.is_joined name link.carries ≡ is_joined name server.link.state.carries
    joined_same = ap (tests.is_joined name) same.carries ∙ joined_is name server.link.state.carries

  homeless_so : (home : Option LinkId) → not (is_some home) ≡ true → home ≡ None
  homeless_so None is = refl
  homeless_so (Some at_link) is = absurd (false≢true is)

  pub home_by : (carries : Carried)
      → ((is_nobody carries && not (is_some (session_of row.desk work.hostgroup).home)) ≡ true) ⊎ (is_lent_to name carries ≡ true)
      → ((session_of row.desk work.hostgroup).home ≡ None) ⊎ (name_in carries ≡ Some name)
  home_by carries (inl vacant) =
      inl (homeless_so (session_of row.desk work.hostgroup).home (and_parts (is_nobody carries) (not (is_some (session_of row.desk work.hostgroup).home)) vacant).1)
  home_by carries (inr lent) = inr (lent_to_name name carries lent)

  -- by the link's row
  module _ (link : Link) (server : Row) (login : Login) (form : Form) (same : IsLink g.setup.reads g.codes server.link.state link)
      (account : link.account ≡ logged_in_as login) (user : server.identity.user ≡ login.user) (found : server.identity.found_rows ≡ login.found_rows)
      (is_form : IsForm g.setup.reads form due.command) where
    abbrev s : Session
    s = session_of row.desk work.hostgroup

    abbrev held : Held
    held = seen.held name

    abbrev state : LinkState
    state = server.link.state

    placed_same : tests.is_placed link.told due.place ≡ is_placed state.told row.desk.seat.place
    placed_same = (λ i. tests.is_placed (same.told i) (at.unsent.as_due.place_is i)) ∙ sym (placed_is state.told row.desk.seat.place)

    id_same : tests.is_id link.id held.id ≡ is_id state.id s.id
    id_same = (λ i. tests.is_id (same.id i) (held_is i).id) ∙ sym (id_is state.id s.id)

    marks_same : is_marked g.setup.reads due.command ≡ marks form
    marks_same = marks_is g.setup.reads form due.command is_form

    account_so : option_map_or (is_account server.identity) (account_in row.desk.seat.phase) false ≡ true
        → tests.is_account link.account (g.setup.accounts name.client) ≡ true
    account_so is =
        let by = account_by server.identity (account_in row.desk.seat.phase) is in
        (λ i. tests.is_account (account i) ((ap g.setup.accounts (sym at.number) ∙ at.account by.0 by.1) i))
        ∙ account_is server.identity login by.0 user found by.2

    begins_so : begins_there server form name row.desk work s ≡ true → tests.begins_there g.setup name due link held ≡ true
    begins_so is =
        let a = and_parts ((is_nobody state.carries && not (is_some s.home)) || is_lent_to name state.carries) _ is in
        let b = and_parts (not (is_pinned s.pin)) _ a.1 in
        let c = and_parts work.anew _ b.1 in
        let d = and_parts (is_placed state.told row.desk.seat.place) _ c.1 in
        let e = and_parts (option_map_or (is_account server.identity) (account_in row.desk.seat.phase) false) _ d.1 in
        let f = and_parts (is_blind form) _ e.1 in
        let k = and_parts (is_some s.id) (not (marks form) || is_id state.id s.id) f.1 in
        and_from (tests.may_lend name link held) _ (lends_same link server same ∙ a.0)
        (and_from (not (is_pinned held.pin)) _ (ap (λ (h : Held). not (is_pinned h.pin)) held_is ∙ b.0)
        (and_from due.anew _ (at.unsent.as_due.anew_is ∙ c.0)
        (and_from (tests.is_placed link.told due.place) _ (placed_same ∙ d.0)
        (and_from (tests.is_account link.account (g.setup.accounts name.client)) _ (account_so e.0)
        (and_from (tests.is_blind (class_of g.setup.reads due.command)) _ (blind_is g.setup.reads form due.command is_form f.0)
        (and_from (is_some held.id) _ (ap (λ (h : Held). is_some h.id) held_is ∙ k.0)
        ((λ i. not (marks_same i) || id_same i) ∙ k.1)))))))

    goes_so : goes_on_there server form name row.desk work s ≡ true → tests.goes_on_there g.setup name due link held ≡ true
    goes_so is =
        let a = and_parts (is_joined name state.carries) _ is in
        let b = and_parts (is_pinned s.pin) _ a.1 in
        let c = and_parts (not work.anew) _ b.1 in
        let d = and_parts (is_placed state.told row.desk.seat.place) _ c.1 in
        let e = and_parts (reads_its_own form s.pin) (not (marks form) || (state.marked || is_id state.id s.id)) d.1 in
        and_from (tests.is_joined name link.carries) _ (joined_same link server same ∙ a.0)
        (and_from (is_pinned held.pin) _ (ap (λ (h : Held). is_pinned h.pin) held_is ∙ b.0)
        (and_from (not due.anew) _ (ap not at.unsent.as_due.anew_is ∙ c.0)
        (and_from (tests.is_placed link.told due.place) _ (placed_same ∙ d.0)
        (and_from (reads_own (class_of g.setup.reads due.command) held.pin) _
        (ap (λ (h : Held). reads_own (class_of g.setup.reads due.command) h.pin) held_is ∙ own_is g.setup.reads form due.command s.pin is_form e.0)
        ((λ i. not (marks_same i) || (same.marked i || id_same i)) ∙ e.1)))))

    -- it may be stated, and the link carries its session then
    pub record MayState : Type 0 where
      pub statement : is_statement due.command ≡ true
      pub there : (tests.begins_there g.setup name due link held || tests.goes_on_there g.setup name due link held) ≡ true
      pub placed : tests.is_placed link.told due.place ≡ true
      pub carries : name_in (lends_by name state.carries) ≡ Some name
      pub home : (s.home ≡ None) ⊎ (name_in state.carries ≡ Some name)

    may_by : (begins_there server form name row.desk work s ≡ true) ⊎ (goes_on_there server form name row.desk work s ≡ true) → MayState
    may_by (inl begins) =
        let a = and_parts ((is_nobody state.carries && not (is_some s.home)) || is_lent_to name state.carries) _ begins in
        let b = and_parts (not (is_pinned s.pin)) _ a.1 in
        let c = and_parts work.anew _ b.1 in
        let d = and_parts (is_placed state.told row.desk.seat.place) _ c.1 in
        let e = and_parts (option_map_or (is_account server.identity) (account_in row.desk.seat.phase) false) _ d.1 in
        let f = and_parts (is_blind form) _ e.1 in
        record {
          statement = blind_states g.setup.reads form due.command is_form f.0;
          there = or_left _ (tests.goes_on_there g.setup name due link held) (begins_so begins);
          placed = placed_same ∙ d.0;
          carries = lent_name name state.carries (not (is_some s.home)) a.0;
          home = home_by state.carries (or_cases (is_nobody state.carries && not (is_some s.home)) (is_lent_to name state.carries) a.0);
        }
    may_by (inr goes) =
        let a = and_parts (is_joined name state.carries) _ goes in
        let b = and_parts (is_pinned s.pin) _ a.1 in
        let c = and_parts (not work.anew) _ b.1 in
        let d = and_parts (is_placed state.told row.desk.seat.place) _ c.1 in
        let e = and_parts (reads_its_own form s.pin) (not (marks form) || (state.marked || is_id state.id s.id)) d.1 in
        record {
          statement = own_states g.setup.reads form due.command s.pin is_form e.0;
          there = or_right (tests.begins_there g.setup name due link held) _ (goes_so goes);
          placed = placed_same ∙ d.0;
          carries = joined_lends name state.carries a.0;
          home = inr (joined_name name state.carries a.0);
        }

    pub may_so : (begins_there server form name row.desk work s || goes_on_there server form name row.desk work s) ≡ true → MayState
    may_so is = may_by (or_cases (begins_there server form name row.desk work s) (goes_on_there server form name row.desk work s) is)

    pub fits_so : IsDuly g.setup g.plan name due → IsLiveFor due.command (link.live due.key) → MayState
        → tests.fits g.setup seen link (Statement name due) ≡ true
    fits_so duly lives may =
        and_from (tests.has_due seen name due) _
        (ap (λ (d : Option Due). option_map_or (λ (other : Due). nat_eq other.ordinal due.ordinal) d false) due_is ∙ same_number due.ordinal)
        (and_from (not (is_some (seen.carriers (message_of name due)))) _ (ap (λ (c : Option LinkId). not (is_some c)) unsent_there)
        (and_from (is_name name (present seen name.client name.hostgroup)) _ (ap (is_name name) present_here ∙ same_name name)
        (and_from (is_statement due.command) _ may.statement
        (and_from (tests.is_keyed g.setup due.command due.key link.told link.live) _
        (keyed_is g.setup duly.route due due.command link.told link.live duly.keyed may.placed lives) may.there))))

-- As it stands next on a link it has its client's own number of what it prepares.

pub number_next : (service : Service) (g : Ground) (t : Tabled) (row : Client) (name : SessionName) (ordinal : ℕ) (work : Work) → Stands service g t
    → IsDueThere g row name ordinal work → first_number work.command row.desk.seat.statements ≡ own_number g name ordinal
number_next service g t row name ordinal work stands at =
    let due : Due = at.unsent.due in
    let duly = duly_at service g t stands name due (due_is g row name ordinal work at) in
    let message : message_named at.client work.ordinal ≡ message_at name.client ordinal = λ i. record { client = at.number i; ordinal = at.ordinal_is i } in
    first_is work.command row.desk.seat.statements (own_number g name ordinal)
    (λ prepares. (sym (ap (own_of g.plan) message) ∙ (at.number_next prepares).0, (at.number_next prepares).1))
    (λ other.
    ap (own_number g name) (sym (due_ordinal g row name ordinal work at))
    ∙ own_unnumbered g name due duly (λ prepares. other (sym at.unsent.as_due.request.kind ∙ prepares)))

-- A statement that passes begins.

module _ (service : Service) (g : Ground) (t : Tabled) (l : LinkId) (server : Row) (stands : Stands service g t) (is : IsServer g t l server)
    (asking : Asking) (same_next : server.link.next ≡ Some (begins.Asks asking)) (lost : server.lost ≡ false) (fine : server.link.spoilt ≡ false) where
  pub states : (name : SessionName) (ordinal key : ℕ) → asking.purpose ≡ purposes.Statement name ordinal key
      → with_work name t (may_state server asking.form name ordinal) ≡ true
      → IsNextStatement g t server (link_in g.setup g.tale l) asking name ordinal → HasBytes server.link.writing
      → Begun g t l server asking (tags.For name.client ordinal)
  states name ordinal key purpose passes next has_bytes =
      let has = has_work name t (may_state server asking.form name ordinal) passes in
      let row = has.client in
      let work = has.work in
      let a = and_parts (not work.sent) _ has.passes in
      let b = and_parts (is_of name ordinal row.desk work) _ a.1 in
      let at : IsDueThere g row name ordinal work =
      due_at service g t row name ordinal work stands has.there has.in_work (not-true work.sent a.0) b.0 in
      let there = due_is g row name ordinal work at in
      let said : IsReadied g.setup.reads g.codes server (link_in g.setup g.tale l) asking (Statement name (due g row name ordinal work at)) =
      next.said (due g row name ordinal work at) there (due_ordinal g row name ordinal work at) in
      let serves = serving g t l server is (begins.Asks asking) same_next in
      let same = same_link g t l server is (begins.Asks asking) same_next in
      let login = g.plan.logins l in
      let link = link_in g.setup g.tale l in
      let may = may_so g row name ordinal work at link server login asking.form same serves.account is.user is.found_rows said.asks.form b.1 in
      let life = life_is g row name ordinal work at in
      record {
        question = Statement name (due g row name ordinal work at);
        happens = no_bytes g l (tags.For name.client ordinal) (unread g t l server is (begins.Asks asking) same_next fine)
            ∙ statement_told g row name ordinal work at l (g.tale.wires l).begun;
        asked = record {
          said = said;
          step_none = tt;
          for = subst (λ (p : Purpose). IsFor p (lent_for p server.link.state.carries)) (sym purpose)
              (λ n same_n. may.carries ∙ same_n);
          lender = subst (λ (p : Purpose). IsLender (view_on g) server.link.state.carries (lent_for p server.link.state.carries)) (sym purpose)
              (lender_so (view_on g) name server.link.state.carries life);
          present = present_stays (view_on g) name server.link.state.carries server.left may.carries life (serves.whose lost);
        };
        stays = refl;
        fits = fits_so g row name ordinal work at link server login asking.form same serves.account is.user is.found_rows said.asks.form
            (duly_at service g t stands name (due g row name ordinal work at) there)
            (lives_so (due g row name ordinal work at).command (link.live (due g row name ordinal work at).key) server.link.writing has_bytes said.spelt_so) may;
        of_view = there;
        for = subst (λ (p : Purpose). OfPurpose p g t server (Statement name (due g row name ordinal work at))) (sym purpose) (record {
          client = row;
          there = has.there;
          work = work;
          in_work = has.in_work;
          unsent = not-true work.sent a.0;
          at = at;
          is = refl;
          home = may.home;
          carries = may.carries;
        });
      }
