-- As the preparation of its text goes out, a client's session is lent the link, and its statement stays due.
use Rattle.std.specs.Prelude.{◌≡◌, ◌<◌, ℕ, suc, Bool, true, false, is_some, nat_eq, if◌then◌else◌, All, List, Option, Some, None}
use Rattle.std.specs.Option.{option_map}
use Rattle.std.proofs.Common.{refl, sym, ap, ◌∙◌, subst}
use Rattle.std.proofs.lemmas.Bool.{false≢true}
use Rattle.std.proofs.lemmas.List.Elements.{All-weaker}
use Rattle.std.proofs.lemmas.Option.{none-some, same_Some}
use Rattle.private_model.proofs.Maps.{client_of, name_of as name_is}
use Rattle.private_model.specs.Names.{ClientNo, Hostgroup, LinkId, SessionName}
use Rattle.private_model.specs.Story.{Prep, Question, Sent, is_client, is_link_id, is_name, put}
use Rattle.private_model.specs.View.{Held, Setup, View, view_step}
use Rattle.log_story.specs.Tale as tales
use Rattle.log_story.specs.Tale.{Tale, Wire, tell, view_of}
use Rattle.client_desk.specs.Desks.{lent, name_of}
use Rattle.client_desk.specs.declared.desk.Desk.{Desk}
use Rattle.client_desk.specs.declared.work.Work.{Work}
use Rattle.client_seat.specs.Seats.{is_ended}
use Rattle.client_seat.specs.declared.phase.Phase.{Phase}
use Rattle.client_seat.specs.declared.phase.Phase.TheVariants as phase
use Rattle.desk_laws.specs.Stands.{HasRow, IsDesk}
use Rattle.core_tables.specs.Tables.{Tabled, client_changed}
use Rattle.core_tables.specs.Writing.{client_lent}
use Rattle.core_tables.specs.declared.client.Client.{Client}
use Rattle.core_stands.specs.Clients.{IsClient, IsClientOr, IsOwing, IsPhase, IsWorkingOr}
use Rattle.core_stands.specs.Grounds.{Ground, on, view_on}
use Rattle.core_stands.specs.Stands.{AreClients, IsAt}
use Rattle.core_laws.proofs.OfWriting.Framing.{Kept, Older, Onward, Reads, client_apart, client_here, flipped}
use Rattle.core_laws.proofs.OfWriting.Knowing.{going, working}
use Rattle.core_laws.proofs.OfWriting.Moving.{ClientsAtStay, ComingStays, clients_made, sent}
use Rattle.core_laws.proofs.OfWriting.Onwards.{home_id, home_pin}
use Rattle.core_laws.proofs.OfWriting.Stated.{not_ended}

-- desk_laws' lent_stands
abbrev pub LentStands : Type 0
LentStands = (setup : Setup) (view : View) (c : ClientNo) (desk : Desk) → IsDesk setup.reads view c desk
    → (link : LinkId) (h : Hostgroup) (n : SessionName) (key : ℕ) (text : List ℕ) → n ≡ name_of desk h → HasRow desk.sessions h
    → IsDesk setup.reads (view_step setup view (Sent link (Prep n key text))) c (lent h link desk)

-- Other links are as they were.

put_apart : {K A : Type 0} (is : K → K → Bool) (f : K → A) (k : K) (x : A) (j : K) → is j k ≡ false → put is f k x j ≡ f j
put_apart is f k x j apart = ap (λ (b : Bool). if b then x else f j) apart

pub onward_prep : (g : Ground) (l : LinkId) (wire : Wire) (n : SessionName) (key : ℕ) (text : List ℕ) → Onward g l (sent g l wire (Prep n key text))
onward_prep g l wire n key text = record {
  clients = refl;
  to_servers = λ other apart. refl;
  wires = λ other apart. put_apart is_link_id g.tale.wires l wire other apart;
  links = λ other apart. put_apart is_link_id (view_on g).links l _ other apart;
  lives = refl;
  pin = λ m. home_pin g l wire n m (is_name m n) refl;
  id = λ m. home_id g l wire n m (is_name m n) refl;
  lasting = λ m earlier. refl;
  dues = λ m due there. there;
  carriers = λ m other there. there;
  replies = refl;
  ahead = λ other m apart carries ahead. ahead;
}

-- Links read the same of a client of which only sessions change.

module _ (t : Tabled) (c : ClientNo) (h : Hostgroup) (l : LinkId) where
  abbrev by : Client → Client
  by = client_lent h l

  abbrev after : Tabled
  after = client_changed c by t

  record Was (found : Option Client) (row : Client) : Type 0 where
    old : Client
    there : found ≡ Some old
    is : by old ≡ row

  was_mapped : (found : Option Client) (row : Client) → option_map by found ≡ Some row → Was found row
  was_mapped None row is = absurd (none-some row is)
  was_mapped (Some old) row is = record { old = old; there = refl; is = same_Some (by old) row is }

  first_by : (same : Bool) (other : ClientNo) → nat_eq c.0 other.0 ≡ same → (row : Client) (work : Work)
      → (if same then option_map by (t.clients c) else t.clients other) ≡ Some row → row.desk.work ≡ Some work → Older t other row work
  first_by false other is row work at in_work =
      record { row_was = row; there = at; work_was = work; in_work = in_work; ordinal = refl; first = refl }
  first_by true other is row work at in_work =
      let was = was_mapped (t.clients c) row at in
      record {
        row_was = was.old;
        there = ap t.clients (sym (client_of c other is)) ∙ was.there;
        work_was = work;
        in_work = ap (λ (r : Client). r.desk.work) was.is ∙ in_work;
        ordinal = refl;
        first = ap (λ (r : Client). r.desk.seat.first) was.is;
      }

  kept_by : (same : Bool) (other : ClientNo) → nat_eq c.0 other.0 ≡ same → (row : Client) (work : Work) → t.clients other ≡ Some row → row.desk.work ≡ Some work
      → (if same then option_map by (t.clients c) else t.clients other) ≡ after.clients other → Kept after other row work
  kept_by false other is row work was in_work at =
      record { row_now = row; there = sym at ∙ was; work_now = work; in_work = in_work; ordinal = refl; sent = refl; hostgroup = refl; first = refl; coming = refl }
  kept_by true other is row work was in_work at = record {
    row_now = by row;
    there = sym at ∙ ap (option_map by) (ap t.clients (client_of c other is) ∙ was);
    work_now = work;
    in_work = in_work;
    ordinal = refl;
    sent = refl;
    hostgroup = refl;
    first = refl;
    coming = refl;
  }

  pub reads_lent : Reads t after
  reads_lent = record {
    firsts = λ other row work at in_work. first_by (nat_eq c.0 other.0) other refl row work at in_work;
    kept = λ other row work at in_work out. kept_by (nat_eq c.0 other.0) other refl row work at in_work refl;
  }

-- The client's row, and those of others.

module _ (g : Ground) (t now : Tabled) (l : LinkId) (n : SessionName) (key : ℕ) (text : List ℕ) (row : Client) (work : Work)
    (at_stay : ClientsAtStay) (coming : ComingStays) (lends : LentStands)
    (there : t.clients n.client ≡ Some row) (in_work : row.desk.work ≡ Some work) (unsent : work.sent ≡ false)
    (names : n ≡ name_of row.desk n.hostgroup) (has_row : HasRow row.desk.sessions n.hostgroup)
    (made : (c : ClientNo) → now.clients c ≡ (client_changed n.client (client_lent n.hostgroup l) t).clients c)
    (numbers : (k : LinkId) → now.numbers k ≡ t.numbers k) where
  abbrev prep : Question
  prep = Prep n key text

  abbrev prepared : Tale
  prepared = tell (Sent l prep) g.tale

  abbrev row_now : Client
  row_now = client_lent n.hostgroup l row

  pub now_there : now.clients n.client ≡ Some row_now
  now_there = made n.client ∙ client_here n.client (client_lent n.hostgroup l) t ∙ ap (option_map (client_lent n.hostgroup l)) there

  pub now_apart : (c : ClientNo) → nat_eq n.client.0 c.0 ≡ false → now.clients c ≡ t.clients c
  now_apart c apart = made c ∙ client_apart n.client c (client_lent n.hostgroup l) t apart

  pub desk_now : (c : ClientNo) → IsDesk g.setup.reads (view_on g) c row.desk → IsDesk g.setup.reads (view_of g.setup prepared) c row_now.desk
  desk_now c is = lends g.setup (view_on g) c row.desk is l n.hostgroup n key text names has_row

  owing : (client : tales.Client) (at : Phase) (fresh : Bool) → IsOwing at fresh g client row.desk.seat → IsOwing at fresh (on g prepared) client row.desk.seat
  owing client phase.LoggingIn true is = tt
  owing client phase.LoggingIn false is = is
  owing client (phase.Serving login) fresh is = is
  owing client phase.Ended fresh is = is

  client_now : (client : tales.Client) → IsClient g client row → IsClient (on g prepared) client row_now
  client_now client is =
      let goes = going g client row work in_work is in
      let works = working g client row work in_work goes in
      record {
        who = is.who;
        heard = is.heard;
        owed = owing client row.desk.seat.phase (g.fresh client.number) is.owed;
        desk = desk_now client.number is.desk;
        coming = coming g.setup (view_on g) client.number (suc client.taken) (Sent l prep) is.coming tt;
        phase = subst (λ (ended : Bool). IsPhase ended (on g prepared) client row_now)
            (sym (not_ended (is_ended row.desk.seat.phase) g client row work in_work is.phase)) (record {
              going = goes.going;
              earlier = goes.earlier;
              answered = goes.answered;
              went = goes.went;
              busy = goes.busy;
              working = subst (λ (w : Option Work). IsWorkingOr (on g prepared) client row_now w) (sym in_work) (record {
                last = works.last;
                went = works.went;
                number = works.number;
                only = works.only;
                prepares = works.prepares;
                keyed = works.keyed;
                first = works.first;
                unsent = works.unsent;
                there = λ out. absurd (false≢true (sym unsent ∙ out));
              });
              unmoved = goes.unmoved;
              collation = goes.collation;
              account = goes.account;
            });
      }

  at_by : (client : tales.Client) → IsAt g t client → (same : Bool) → is_client client.number n.client ≡ same → IsAt (on g prepared) now client
  at_by client at true e =
      let number = client_of client.number n.client e in
      let was : IsClient g client row = subst (λ (x : Option Client). IsClientOr g client x) (ap t.clients number ∙ there) at.row in
      record {
        row = subst (λ (x : Option Client). IsClientOr (on g prepared) client x) (sym (ap now.clients number ∙ now_there)) (client_now client was);
        found = λ some. numbers client.link ∙ at.found (ap is_some (ap t.clients number ∙ there));
        aside = at.aside;
        alone = at.alone;
      }
  at_by client at false e =
      at_stay g t now client (Sent l prep) at e (now_apart client.number (flipped client.number.0 n.client.0 e)) (numbers client.link)

  some_by : (c : ClientNo) (same : Bool) → nat_eq n.client.0 c.0 ≡ same → is_some (now.clients c) ≡ is_some (t.clients c)
  some_by c false e = ap is_some (now_apart c e)
  some_by c true e =
      let here : n.client ≡ c = client_of n.client c e in
      ap (λ (k : ClientNo). is_some (now.clients k)) (sym here) ∙ ap is_some now_there ∙ sym (ap is_some there) ∙ ap (λ (k : ClientNo). is_some (t.clients k)) here

  pub clients_lent : AreClients g t → AreClients (on g prepared) now
  clients_lent are =
      clients_made g prepared t now refl numbers (λ c. some_by c (nat_eq n.client.0 c.0) refl)
      (All-weaker (IsAt g t) (IsAt (on g prepared) now) (λ client at. at_by client at (is_client client.number n.client) refl) g.tale.clients are.each) are
