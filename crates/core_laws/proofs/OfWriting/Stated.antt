-- As a client's statement goes out, its session has the link as its home.
use Rattle.std.specs.Prelude.{◌≡◌, ◌⊎◌, ◌<◌, ℕ, suc, Bool, true, false, not, ◌&&◌, ◌||◌, is_some, nat_eq, if◌then◌else◌, All, List, [], ◌∷◌, Option, Some, None}
use Rattle.std.specs.Option.{option_map}
use Rattle.std.proofs.Common.{refl, sym, ap, ◌∙◌, subst, arith, inl, inr}
use Rattle.std.proofs.lemmas.Bool.{false≢true, true≢false}
use Rattle.std.proofs.lemmas.List.Elements.{All-weaker}
use Rattle.std.proofs.lemmas.Option.{none-some, same_Some}
use Rattle.server_rule.specs.Classes.{Reads}
use Rattle.private_model.proofs.Maps.{client_of, hostgroup_of, link_of, same_link, same_message, same_name}
use Rattle.private_model.specs.Commands.{class_of}
use Rattle.private_model.specs.Names.{ClientNo, Hostgroup, LinkId, MessageName, SessionName}
use Rattle.private_model.specs.Story.{Due, Sent, Statement, is_client, is_hostgroup, is_link_id, is_message, is_name, message_of, put}
use Rattle.private_model.specs.View.{Held, Setup, View, view_step}
use Rattle.log_story.specs.Owed.{name_of as message_named}
use Rattle.log_story.specs.Tale as tales
use Rattle.log_story.specs.Tale.{Tale, Wire, view_of}
use Rattle.link_state.specs.Asks.{lends_by}
use Rattle.link_state.specs.declared.state.Carried.{Carried}
use Rattle.link_state.specs.declared.state.Carried.TheVariants.{Nobody, Lent, Joined}
use Rattle.client_desk.specs.Desks as desks
use Rattle.client_desk.specs.Desks.{name_of, session_of}
use Rattle.client_desk.specs.declared.desk.Desk.{Desk}
use Rattle.client_desk.specs.declared.session.Session.{Session}
use Rattle.client_desk.specs.declared.work.Work.{Work}
use Rattle.client_seat.specs.Seats.{is_ended}
use Rattle.desk_laws.specs.Stands.{IsDesk, held_of, name_at}
use Rattle.row_laws.specs.Whose.{name_in}
use Rattle.core_tables.specs.Tables.{Tabled, client_changed}
use Rattle.core_tables.specs.Writing.{client_sent}
use Rattle.core_tables.specs.declared.client.Client.{Client}
use Rattle.core_tables.specs.declared.server.Server.{Server}
use Rattle.core_stands.specs.Clients.{IsClient, IsClientOr, IsPhase}
use Rattle.core_stands.specs.Grounds.{Ground, on, view_on}
use Rattle.core_stands.specs.Stands.{AreClients, AreHomes, IsAt, IsHome}
use Rattle.core_laws.proofs.OfWriting.Framing.{client_apart, client_here, flipped}
use Rattle.core_laws.proofs.OfWriting.Homing.{sent_desk}
use Rattle.core_laws.proofs.OfWriting.Knowing.{going, working}
use Rattle.core_laws.proofs.OfWriting.Moving.{ComingStays, OthersStay, client_apart_sent, client_here_sent, clients_made, sent}

-- desk_laws' sent_stands
abbrev pub SentStands : Type 0
SentStands = (setup : Setup) (view : View) (c : ClientNo) (desk : Desk) → IsDesk setup.reads view c desk
    → (link : LinkId) (h : Hostgroup) (n : SessionName) (due : Due) (lasts : Bool) (work : Work) → n ≡ name_of desk h
    → lasts ≡ (class_of setup.reads due.command).outlasts_reset → desk.work ≡ Some work → work.hostgroup ≡ h → work.sent ≡ false
    → view.dues n ≡ Some due → IsDesk setup.reads (view_step setup view (Sent link (Statement n due))) c (desks.sent h link lasts desk)

put_here : {K A : Type 0} (is : K → K → Bool) (f : K → A) (k : K) (x : A) (j : K) → is j k ≡ true → put is f k x j ≡ x
put_here is f k x j here = ap (λ (b : Bool). if b then x else f j) here

pub not_ended : (ended : Bool) (g : Ground) (client : tales.Client) (row : Client) (work : Work) → row.desk.work ≡ Some work → IsPhase ended g client row → ended ≡ false
not_ended true g client row work in_work phase = absurd (none-some work (sym phase.idle ∙ in_work))
not_ended false g client row work in_work phase = refl

-- The client's row, and those of others.

module _ (g : Ground) (t now : Tabled) (l : LinkId) (wire : Wire) (n : SessionName) (due : Due) (row : Client) (work : Work) (lasting : Bool)
    (others : OthersStay) (coming : ComingStays) (sends : SentStands)
    (there : t.clients n.client ≡ Some row) (in_work : row.desk.work ≡ Some work) (unsent : work.sent ≡ false)
    (names : n ≡ name_of row.desk n.hostgroup) (hostgroup : work.hostgroup ≡ n.hostgroup) (dues : (view_on g).dues n ≡ Some due)
    (ordinal : due.ordinal ≡ work.ordinal) (lasts : lasting ≡ (class_of g.setup.reads due.command).outlasts_reset)
    (made : (c : ClientNo) → now.clients c ≡ (client_changed n.client (client_sent n.hostgroup l lasting) t).clients c)
    (numbers : (k : LinkId) → now.numbers k ≡ t.numbers k) where
  abbrev sent_now : Tale
  sent_now = sent g l wire (Statement n due)

  abbrev row_now : Client
  row_now = client_sent n.hostgroup l lasting row

  pub now_there : now.clients n.client ≡ Some row_now
  now_there = made n.client ∙ client_here n.client (client_sent n.hostgroup l lasting) t ∙ ap (option_map (client_sent n.hostgroup l lasting)) there

  pub now_apart : (c : ClientNo) → nat_eq n.client.0 c.0 ≡ false → now.clients c ≡ t.clients c
  now_apart c apart = made c ∙ client_apart n.client c (client_sent n.hostgroup l lasting) t apart

  row_of : (client : tales.Client) → client.number ≡ n.client → IsAt g t client → IsClient g client row
  row_of client number at = subst (λ (x : Option Client). IsClientOr g client x) (ap t.clients number ∙ there) at.row

  desk_now : (client : tales.Client) → client.number ≡ n.client → IsClient g client row
      → IsDesk g.setup.reads (view_of g.setup sent_now) client.number (desks.sent n.hostgroup l lasting row.desk)
  desk_now client number is =
      sends g.setup (view_on g) client.number row.desk is.desk l n.hostgroup n due lasting work names lasts in_work hostgroup unsent dues

  carried_there : (client : tales.Client) → client.number ≡ n.client → (view_of g.setup sent_now).carriers (message_named client work.ordinal) ≡ Some l
  carried_there client number =
      let message : message_named client work.ordinal ≡ message_of n due = λ i. record { client = number i; ordinal = sym ordinal i } in
      put_here is_message (view_on g).carriers (message_of n due) (Some l) (message_named client work.ordinal)
      (ap (λ (m : MessageName). is_message m (message_of n due)) message ∙ same_message (message_of n due))

  client_now : (client : tales.Client) → client.number ≡ n.client → IsClient g client row → IsClient (on g sent_now) client row_now
  client_now client number is =
      let goes = going g client row work in_work is in
      let works = working g client row work in_work goes in
      let desk = desk_now client number is in
      let homes = sent_desk g.setup (view_on g) client.number row.desk (desks.sent n.hostgroup l lasting row.desk) l n (Statement n due) refl is.desk desk names in
      client_here_sent g l wire n due others coming client row work lasting in_work goes works
      (not_ended (is_ended row.desk.seat.phase) g client row work in_work is.phase) desk
      (omega (arith, ordinal, works.last)) dues
      (ap (λ (h : Hostgroup). (session_of (desks.sent n.hostgroup l lasting row.desk) h).home) hostgroup ∙ homes.here
      ∙ sym (carried_there client number)) is

  at_by : (client : tales.Client) → IsAt g t client → (same : Bool) → is_client client.number n.client ≡ same → IsAt (on g sent_now) now client
  at_by client at true e =
      let number = client_of client.number n.client e in
      record {
        row = subst (λ (x : Option Client). IsClientOr (on g sent_now) client x) (sym (ap now.clients number ∙ now_there)) (client_now client number (row_of client number at));
        found = λ some. numbers client.link ∙ at.found (ap is_some (ap t.clients number ∙ there));
        aside = at.aside;
        alone = at.alone;
      }
  at_by client at false e =
      let same : now.clients client.number ≡ t.clients client.number = now_apart client.number (flipped client.number.0 n.client.0 e) in
      record {
        row = subst (λ (x : Option Client). IsClientOr (on g sent_now) client x) (sym same)
            (client_apart_sent g l wire n due others coming client (t.clients client.number) e at.row);
        found = λ some. numbers client.link ∙ at.found (ap is_some (sym same) ∙ some);
        aside = at.aside;
        alone = at.alone;
      }

  some_by : (c : ClientNo) (same : Bool) → nat_eq n.client.0 c.0 ≡ same → is_some (now.clients c) ≡ is_some (t.clients c)
  some_by c false e = ap is_some (now_apart c e)
  some_by c true e =
      let here : n.client ≡ c = client_of n.client c e in
      ap (λ (k : ClientNo). is_some (now.clients k)) (sym here) ∙ ap is_some now_there ∙ sym (ap is_some there) ∙ ap (λ (k : ClientNo). is_some (t.clients k)) here

  pub clients_sent : AreClients g t → AreClients (on g sent_now) now
  clients_sent are =
      clients_made g sent_now t now refl numbers (λ c. some_by c (nat_eq n.client.0 c.0) refl)
      (All-weaker (IsAt g t) (IsAt (on g sent_now) now) (λ client at. at_by client at (is_client client.number n.client) refl) g.tale.clients are.each) are
