-- What is told as bytes are written leaves other links as they are.
use Rattle.std.specs.Prelude.{◌≡◌, ◌⊎◌, ◌<◌, ◌≤◌, ℕ, suc, Bool, true, false, not, ◌||◌, is_some, nat_eq, if◌then◌else◌, List, [], ◌∷◌, Option, Some, None}
use Rattle.std.specs.Option.{option_map}
use Rattle.std.proofs.Common.{refl, sym, ap, ◌∙◌, subst, arith}
use Rattle.std.proofs.lemmas.Bool.{false≢true, true≢false}
use Rattle.std.proofs.lemmas.Option.{none-some, same_Some}
use Rattle.private_model.proofs.Maps.{client_of, message_is, name_of as name_is, same_message, same_name}
use Rattle.private_model.specs.Names.{ClientNo, Hostgroup, LinkId, MessageName, SessionName}
use Rattle.private_model.specs.Story.{Due, Question, Statement, is_client, is_link_id, is_message, is_name, message_of, put}
use Rattle.private_model.specs.View.{Held, View, session_in}
use Rattle.log_story.specs.Tale.{Tale, Wire, view_of}
use Rattle.client_desk.specs.Desks as desks
use Rattle.client_desk.specs.Works.{gone_out}
use Rattle.client_desk.specs.declared.work.Work.{Work}
use Rattle.core_tables.specs.Tables.{Tabled, client_changed}
use Rattle.core_tables.specs.Writing.{client_sent}
use Rattle.core_tables.specs.declared.client.Client.{Client}
use Rattle.core_stands.specs.Grounds.{Ground, view_on}
use Rattle.core_stands.specs.Servers.{IsAhead}
use Rattle.core_laws.proofs.OfWriting.Begun.{IsDueThere, IsStated, IsStep}
use Rattle.core_laws.proofs.OfWriting.Framing.{Kept, Older, Onward, Reads}
use Rattle.core_laws.proofs.OfWriting.Moving.{Alike, sent, step_alike, still}
use Rattle.core_laws.proofs.OfWriting.Stating.{due_is, life_is, unsent_there}

put_apart : {K A : Type 0} (is : K → K → Bool) (f : K → A) (k : K) (x : A) (j : K) → is j k ≡ false → put is f k x j ≡ f j
put_apart is f k x j apart = ap (λ (b : Bool). if b then x else f j) apart

module _ (g : Ground) (l : LinkId) (wire : Wire) where
  pub onward_still : Onward g l (still g l wire)
  onward_still = record {
    clients = refl;
    to_servers = λ other apart. refl;
    wires = λ other apart. put_apart is_link_id g.tale.wires l wire other apart;
    links = λ other apart. refl;
    lives = refl;
    pin = λ n. refl;
    id = λ n. refl;
    lasting = λ n earlier. refl;
    dues = λ n due there. there;
    carriers = λ m other there. there;
    replies = refl;
    ahead = λ other n apart carries ahead. ahead;
  }

  pub onward_step : (q : Question) → IsStep q → Onward g l (sent g l wire q)
  onward_step q step =
      let alike : Alike (view_on g) (view_of g.setup (sent g l wire q)) = step_alike g.setup (view_on g) l q step in
      record {
        clients = refl;
        to_servers = λ other apart. refl;
        wires = λ other apart. put_apart is_link_id g.tale.wires l wire other apart;
        links = λ other apart. put_apart is_link_id (view_on g).links l _ other apart;
        lives = refl;
        pin = λ n. ap (λ (f : SessionName → Held). (f n).pin) alike.held;
        id = λ n. ap (λ (f : SessionName → Held). (f n).id) alike.held;
        lasting = λ n earlier. ap (λ (f : SessionName → Bool). f n) alike.lasting;
        dues = λ n due there. sym (ap (λ (f : SessionName → Option Due). f n) alike.dues) ∙ there;
        carriers = λ m other there. ap (λ (f : MessageName → Option LinkId). f m) alike.carriers ∙ there;
        replies = refl;
        ahead = λ other n apart carries ahead. ap (λ (f : SessionName → Option Due). is_some (f n)) alike.dues ∙ ahead;
      }

  -- a session gets the link as its home

  module _ (n : SessionName) where
    pub home_pin : (m : SessionName) (same : Bool) → is_name m n ≡ same
        → (if same then record ((view_on g).held n) { home = Some l } else (view_on g).held m).pin ≡ ((view_on g).held m).pin
    home_pin m true is = ap (λ (k : SessionName). ((view_on g).held k).pin) (sym (name_is m n is))
    home_pin m false is = refl

    pub home_id : (m : SessionName) (same : Bool) → is_name m n ≡ same
        → (if same then record ((view_on g).held n) { home = Some l } else (view_on g).held m).id ≡ ((view_on g).held m).id
    home_id m true is = ap (λ (k : SessionName). ((view_on g).held k).id) (sym (name_is m n is))
    home_id m false is = refl

  -- a statement goes out, which is due in a present session, and wasn't sent

  module _ (n : SessionName) (due : Due) (present : n.life ≡ (view_on g).lives n.client n.hostgroup) (unsent : (view_on g).carriers (message_of n due) ≡ None)
      (apart : (other : LinkId) (m : SessionName) → is_link_id other l ≡ false → session_in ((view_on g).links other).carries ≡ Some m → is_name m n ≡ false) where
    past_other : (m : SessionName) → m.life < (view_on g).lives m.client m.hostgroup → (same : Bool) → is_name m n ≡ same → same ≡ false
    past_other m earlier false is = refl
    past_other m earlier true is =
        let here : n.life < (view_on g).lives n.client n.hostgroup =
        subst (λ (k : SessionName). k.life < (view_on g).lives k.client k.hostgroup) (name_is m n is) earlier in
        absurd (omega (arith, here, present))

    due_by : (m : SessionName) (other : Due) (same : Bool) → (if same then None else (view_on g).dues m) ≡ Some other → (view_on g).dues m ≡ Some other
    due_by m other true there = absurd (none-some other there)
    due_by m other false there = there

    ahead_by : (m : SessionName) (same : Bool) → same ≡ false → IsAhead (view_on g) m → is_some (if same then None else (view_on g).dues m) ≡ true
    ahead_by m true is ahead = absurd (true≢false is)
    ahead_by m false is ahead = ahead

    carrier_by : (m : MessageName) (other : LinkId) (same : Bool) → is_message m (message_of n due) ≡ same → (view_on g).carriers m ≡ Some other
        → (if same then Some l else (view_on g).carriers m) ≡ Some other
    carrier_by m other true is there =
        absurd (none-some other (sym unsent ∙ ap (view_on g).carriers (sym (message_is m (message_of n due) is)) ∙ there))
    carrier_by m other false is there = there

    pub onward_statement : Onward g l (sent g l wire (Statement n due))
    onward_statement = record {
      clients = refl;
      to_servers = λ other apart. refl;
      wires = λ other apart. put_apart is_link_id g.tale.wires l wire other apart;
      links = λ other apart. put_apart is_link_id (view_on g).links l _ other apart;
      lives = refl;
      pin = λ m. home_pin n m (is_name m n) refl;
      id = λ m. home_id n m (is_name m n) refl;
      lasting = λ m earlier. put_apart is_name (view_on g).lasting n _ m (past_other m earlier (is_name m n) refl);
      dues = λ m other there. due_by m other (is_name m n) there;
      carriers = λ m other there. carrier_by m other (is_message m (message_of n due)) refl there;
      replies = refl;
      ahead = λ other m aside carries ahead. ahead_by m (is_name m n) (apart other m aside carries) ahead;
    }

-- The client's work goes out: links read the same of it as far as they do.

module _ (t : Tabled) (c : ClientNo) (row : Client) (work : Work) (there : t.clients c ≡ Some row) (in_work : row.desk.work ≡ Some work)
    (unsent : work.sent ≡ false) (h : Hostgroup) (l : LinkId) (lasting : Bool) where
  abbrev now : Tabled
  now = client_changed c (client_sent h l lasting) t

  first_by : (same : Bool) (other : ClientNo) → nat_eq c.0 other.0 ≡ same → (row_now : Client) (work_now : Work)
      → (if same then option_map (client_sent h l lasting) (t.clients c) else t.clients other) ≡ Some row_now → row_now.desk.work ≡ Some work_now
      → Older t other row_now work_now
  first_by false other is row_now work_now at in_now =
      record { row_was = row_now; there = at; work_was = work_now; in_work = in_now; ordinal = refl; first = refl }
  first_by true other is row_now work_now at in_now =
      let made : client_sent h l lasting row ≡ row_now =
      same_Some (client_sent h l lasting row) row_now (ap (option_map (client_sent h l lasting)) (sym there) ∙ at) in
      let gone : gone_out work ≡ work_now =
      same_Some (gone_out work) work_now
      (ap (option_map gone_out) (sym in_work) ∙ ap (λ (r : Client). r.desk.work) made ∙ in_now) in
      record {
        row_was = row;
        there = ap t.clients (sym (client_of c other is)) ∙ there;
        work_was = work;
        in_work = in_work;
        ordinal = ap (λ (w : Work). w.ordinal) gone;
        first = ap (λ (r : Client). r.desk.seat.first) made;
      }

  kept_by : (same : Bool) (other : ClientNo) → nat_eq c.0 other.0 ≡ same → (row_was : Client) (work_was : Work) → t.clients other ≡ Some row_was
      → row_was.desk.work ≡ Some work_was → work_was.sent ≡ true
      → (at : (if same then option_map (client_sent h l lasting) (t.clients c) else t.clients other) ≡ now.clients other) → Kept now other row_was work_was
  kept_by false other is row_was work_was was in_was sent_was at =
      record { row_now = row_was; there = sym at ∙ was; work_now = work_was; in_work = in_was; ordinal = refl; sent = refl; hostgroup = refl; first = refl; coming = refl }
  kept_by true other is row_was work_was was in_was sent_was at =
      let same_row : row ≡ row_was = same_Some row row_was (sym there ∙ ap t.clients (client_of c other is) ∙ was) in
      let same_work : work ≡ work_was = same_Some work work_was (sym in_work ∙ ap (λ (r : Client). r.desk.work) same_row ∙ in_was) in
      absurd (false≢true (sym unsent ∙ ap (λ (w : Work). w.sent) same_work ∙ sent_was))

  pub reads_sent : Reads t now
  reads_sent = record {
    firsts = λ other row_now work_now at in_now. first_by (nat_eq c.0 other.0) other refl row_now work_now at in_now;
    kept = λ other row_was work_was was in_was sent_was. kept_by (nat_eq c.0 other.0) other refl row_was work_was was in_was sent_was refl;
  }
