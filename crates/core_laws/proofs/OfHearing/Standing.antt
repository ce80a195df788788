-- Tables stand as bytes are read: all but the lawfulness of the story.
use Rattle.std.specs.Prelude.{◌≡◌, ◌⊎◌, ℕ, Bool, true, false, nat_eq, is_some, if◌then◌else◌, List, ◌∷◌, Option, Some, None}
use Rattle.std.specs.Option.{option_map}
use Rattle.std.proofs.Common.{refl, sym, ap, ◌∙◌, subst, inl, inr, arith}
use Rattle.std.proofs.lemmas.Bool.{true≢false}
use Rattle.client_session.specs.Setups.{Setup as Service}
use Rattle.private_model.proofs.Maps.{client_of, link_of, same_link, same_number}
use Rattle.private_model.specs.Commands.{Reply}
use Rattle.private_model.specs.Lawful.{IsLawful}
use Rattle.private_model.specs.Names.{ClientNo, LinkId, SessionName}
use Rattle.private_model.specs.Story.{Capture, Due, End, Heard, Own, Prep, Question, Statement, Story, Sync, is_link_id, message_of, put}
use Rattle.private_model.specs.View as view
use Rattle.private_model.specs.View.{Link, View, ran_by, view_after}
use Rattle.log_story.specs.Servers.{runs_first, with_run}
use Rattle.log_story.specs.Tale as tales
use Rattle.log_story.specs.Tale.{Tale, Wire, is_to_server, tell, view_of, with_wire}
use Rattle.link_state.specs.declared.asking.Asking.{Asking}
use Rattle.link_state.specs.declared.asking.Purpose.{Purpose}
use Rattle.link_state.specs.declared.asking.Purpose.TheVariants as purposes
use Rattle.link_state.specs.declared.state.Stage.{Stage}
use Rattle.link_state.specs.declared.state.Stage.TheVariants.{Quiet, Asked, Answered}
use Rattle.served_link.specs.declared.row.Row.{Row}
use Rattle.row_laws.specs.Rows.{IsRowIn}
use Rattle.row_laws.proofs.Opening.{stays_so}
use Rattle.row_laws.specs.Whose.{IsFor, IsUntouched, OfStatement, name_in}
use Rattle.served_link.specs.declared.row.LeftSession.{LeftSession}
use Rattle.client_desk.specs.Desks.{session_of}
use Rattle.client_desk.specs.declared.work.Work.{Work}
use Rattle.core_tables.specs.Hearing.{at_desk, grown_by, with_row}
use Rattle.core_tables.specs.Tables.{Tabled, client_changed, link_changed}
use Rattle.core_tables.specs.declared.client.Client.{Client}
use Rattle.core_tables.specs.declared.server.Server.{Server}
use Rattle.core_stands.specs.Clients.{IsClientOr}
use Rattle.core_stands.specs.Grounds.{Ground, on, view_on}
use Rattle.core_stands.specs.Servers.{IsReplying, IsReplyingAt, IsReplyingFor, IsServer, IsServerBy, IsServerOr, IsStanding, IsStandingAt}
use Rattle.core_stands.specs.Stands.{AreClients, AreHomes, IsAt, Stands}
use Rattle.core_laws.proofs.OfParting.Apart.{put_apart}
use Rattle.core_laws.proofs.OfHearing.Behind.{carried_for}
use Rattle.core_laws.proofs.OfHearing.Clients.{client_grown}
use Rattle.core_laws.proofs.OfHearing.Changing.{IsBefore, IsNow, client_before, client_elsewhere, client_now, link_elsewhere}
use Rattle.core_laws.proofs.OfHearing.Elsewhere.{AreFirst, AreShown, CarriedLaw, HomedLaw, IsNear, near_heard, near_ran, server_so}
use Rattle.core_laws.proofs.OfHearing.Homing.{KeepsCarried, KeepsHomes, both_kept, homes_kept, link_kept}
use Rattle.core_laws.proofs.OfHearing.Kept.{AsksAt, IsShown, with_story}
use Rattle.core_laws.proofs.OfHearing.Laws.{DeskLaws, OthersStay}
use Rattle.core_laws.proofs.OfHearing.Seated.{at_ran, clients_changed, clients_links, clients_told}

pub record StandsBut (g : Ground) (t : Tabled) : Type 0 where
  pub clients : AreClients g t
  pub servers : (l : LinkId) → IsServerOr g t l (t.links l)
  pub homes : AreHomes g t

-- one link's row is this, and others stand
all_servers : (g : Ground) (t : Tabled) (l : LinkId) (server : Server) → is_to_server g.tale l ≡ true → t.links l ≡ Some server → IsServer g t l server.row
    → ((k : LinkId) → is_link_id k l ≡ false → IsServerOr g t k (t.links k)) → (k : LinkId) → IsServerOr g t k (t.links k)
all_servers g t l server to there is others k = by (is_link_id k l) refl where
  itself : IsServerOr g t l (t.links l)
  itself =
      subst (λ (b : Bool). IsServerBy b g t l (t.links l)) (sym to)
      (subst (λ (row : Option Server). IsServerBy true g t l row) (sym there) is)

  by : (b : Bool) → is_link_id k l ≡ b → IsServerOr g t k (t.links k)
  by false apart = others k apart
  by true same = subst (λ (x : LinkId). IsServerOr g t x (t.links x)) (sym (link_of k l same)) itself

flip : (a b : LinkId) → is_link_id a b ≡ false → nat_eq b.0 a.0 ≡ false
flip a b apart = grind arith

pub tale_form : (tale : Tale) (l : LinkId) (w : Wire) (there : view.Stage)
    → with_wire l w (runs_first there l tale) ≡ with_story (runs_first there l tale).story (put is_link_id tale.wires l w) tale
tale_form tale l w (view.Asked question) = refl
tale_form tale l w view.Quiet = refl
tale_form tale l w (view.Answered question) = refl

-- a client's row as others read it
pub record IsGentle (by : Client → Client) : Type 0 where
  pub first : (row : Client) → (by row).desk.seat.first ≡ row.desk.seat.first
  pub work : (row : Client) (work : Work) → (by row).desk.work ≡ Some work → row.desk.work ≡ Some work

-- what is shown of clients doesn't wait for a link's row
shown_links : (g : Ground) (t : Tabled) (l : LinkId) (c : ClientNo) (by : Client → Client) (renews : Server → Server) → AreShown g t (client_changed c by t) l
    → AreShown g t (client_changed c by (link_changed l renews t)) l
shown_links g t l c by renews shown k server apart found row well whole here asking n ordinal key asks purpose is =
    let same = shown k server apart found row well whole here asking n ordinal key asks purpose is in
    record { now = same.now; there = same.there; first = same.first; work = same.work; coming = same.coming }

module _ (t : Tabled) (c : ClientNo) (by : Client → Client) (gentle : IsGentle by) where
  pub first_changed : AreFirst t (client_changed c by t)
  first_changed n ordinal from is = λ row work there in_work at. which row work in_work at (client_before c by t n.client row there) where
    which : (row : Client) (work : Work) → row.desk.work ≡ Some work → work.ordinal ≡ ordinal → IsBefore t.clients by c n.client row
        → row.desk.seat.first ≡ from
    which row work in_work at was = at_which was.which where
      at_which : ((c ≡ n.client) × (row ≡ by was.was)) ⊎ (row ≡ was.was) → row.desk.seat.first ≡ from
      at_which (inl (same, now)) =
          ap (λ (r : Client). r.desk.seat.first) now ∙ gentle.first was.was
          ∙ is was.was work was.there (gentle.work was.was work (ap (λ (r : Client). r.desk.work) (sym now) ∙ in_work)) at
      at_which (inr now) =
          ap (λ (r : Client). r.desk.seat.first) now
          ∙ is was.was work was.there (ap (λ (r : Client). r.desk.work) (sym now) ∙ in_work) at

module _ (laws : DeskLaws) (stay : OthersStay) (carried_law : CarriedLaw) (homed_law : HomedLaw)
    (service : Service) (g : Ground) (t : Tabled) (stands : Stands service g t) (l : LinkId) (server : Server) (there : t.links l ≡ Some server)
    (to_server : is_to_server g.tale l ≡ true) (kept : server.row.lost ≡ false) (fine : server.row.link.spoilt ≡ false) where
  pub server_is : IsServer g t l server.row
  server_is =
      subst (λ (row : Option Server). IsServerBy true g t l row) there
      (subst (λ (b : Bool). IsServerBy b g t l (t.links l)) to_server (stands.servers l))

  abbrev ran_story : Story
  ran_story = (with_run g.setup l g.tale).story

  abbrev wires_with : Wire → LinkId → Wire
  wires_with w = put is_link_id g.tale.wires l w

  -- the ground behind the bytes, but for an answer
  abbrev read_on : Wire → Ground
  read_on w = on g (with_story ran_story (wires_with w) g.tale)

  pub near : (w : Wire) → IsNear g l ran_story (wires_with w)
  near w = near_ran g l (wires_with w) (λ other apart. put_apart is_link_id g.tale.wires l w other apart) ((view_on g).links l).stage

  pub clients_read : (w : Wire) → AreClients (read_on w) t
  clients_read w =
      clients_told g t ran_story (wires_with w) stands.clients
      (λ client is. at_ran stay g t l (wires_with w) client ((view_on g).links l).stage is)

  -- A statement of a present session stands on one sound link alone.

  replying_of : (stage : Stage) (asking : Asking) (n : SessionName) (ordinal key : ℕ) → AsksAt stage asking → asking.purpose ≡ purposes.Statement n ordinal key
      → IsReplyingAt stage g t l server.row → IsReplying g t l server.row asking n ordinal
  replying_of Quiet asking n ordinal key asks purpose is = absurd asks
  replying_of (Asked at) asking n ordinal key asks purpose is =
      subst (λ (p : Purpose). IsReplyingFor p g t l server.row asking) purpose (subst (λ (a : Asking). IsReplyingFor a.purpose g t l server.row a) asks is)
  replying_of (Answered at) asking n ordinal key asks purpose is =
      subst (λ (p : Purpose). IsReplyingFor p g t l server.row asking) purpose (subst (λ (a : Asking). IsReplyingFor a.purpose g t l server.row a) asks is)

  pub replying_so : server.row.left ≡ None → (asking : Asking) (n : SessionName) (ordinal key : ℕ) → AsksAt server.row.link.state.stage asking
      → asking.purpose ≡ purposes.Statement n ordinal key → IsReplying g t l server.row asking n ordinal
  replying_so mine asking n ordinal key asks purpose =
      replying_of server.row.link.state.stage asking n ordinal key asks purpose (server_is.replying fine kept mine)

  named_by : (k : LinkId) (row : Row) → IsRowIn g.setup g.codes g.plan g.tale k row → (asking : Asking) (n : SessionName) (ordinal key : ℕ)
      → AsksAt row.link.state.stage asking → asking.purpose ≡ purposes.Statement n ordinal key → name_in row.link.state.carries ≡ Some n
  named_by k row is asking n ordinal key asks purpose =
      subst (λ (p : Purpose). IsFor p row.link.state.carries) purpose (carried_for g.setup g.codes g.plan g.tale k row is asking asks) n refl

  some_is : {A : Type 0} (a b : A) → Some a ≡ Some b → a ≡ b
  some_is a b same = cc

  alone : server.row.left ≡ None → (asking : Asking) (n : SessionName) (ordinal key : ℕ) → AsksAt server.row.link.state.stage asking
      → asking.purpose ≡ purposes.Statement n ordinal key
      → (k : LinkId) (other : Server) → is_link_id k l ≡ false → t.links k ≡ Some other → IsRowIn g.setup g.codes g.plan g.tale k other.row
      → other.row.lost ≡ false → other.row.left ≡ None → (asked : Asking) (m : SessionName) (at code : ℕ) → AsksAt other.row.link.state.stage asked
      → asked.purpose ≡ purposes.Statement m at code → IsReplying g t k other.row asked m at → n.client ≡ m.client → ⊥
  alone mine asking n ordinal key asks purpose k other apart found row whole here asked m at code asks_there purpose_there is same =
      let own : IsReplying g t l server.row asking n ordinal = replying_so mine asking n ordinal key asks purpose in
      let home = stands.homes.home l server n there (named_by l server.row server_is.row asking n ordinal key asks purpose) mine kept in
      let home_there = stands.homes.home k other m found (named_by k other.row row asked m at code asks_there purpose_there) here whole in
      let client_is : own.client ≡ is.client = some_is own.client is.client (sym own.there ∙ ap t.clients same ∙ is.there) in
      let row_is : home.0 ≡ home_there.0 = some_is home.0 home_there.0 (sym home.1 ∙ ap t.clients same ∙ home_there.1) in
      let work_is : own.work ≡ is.work = some_is own.work is.work (sym own.in_work ∙ ap (λ (r : Client). r.desk.work) client_is ∙ is.in_work) in
      let hostgroup_is : n.hostgroup ≡ m.hostgroup = sym own.hostgroup ∙ ap (λ (w : Work). w.hostgroup) work_is ∙ is.hostgroup in
      let links_are : Some l ≡ Some k =
      sym home.2 ∙ (λ i. (session_of (row_is i).desk (hostgroup_is i)).home) ∙ home_there.2 in
      true≢false (sym (same_link l) ∙ ap (λ (x : LinkId). is_link_id x l) (some_is l k links_are) ∙ apart)

  ran_replies : (stage : view.Stage) (n : SessionName) (due : Due) → (view_after g.setup (runs_first stage l g.tale).story).replies (message_of n due) ≡ (view_on g).replies (message_of n due)
  ran_replies view.Quiet n due = refl
  ran_replies (view.Asked question) n due = refl
  ran_replies (view.Answered question) n due = refl

  -- what stands there was sent there, and isn't answered
  standing_for : (w : Wire) (asked : Question) → OfStatement asked (IsStanding g l) → OfStatement asked (IsStanding (read_on w) l)
  standing_for w (Statement n due) is = record {
    carrier = (near w).carriers (message_of n due) ∙ is.carrier;
    unanswered = ran_replies ((view_on g).links l).stage n due ∙ is.unanswered;
  }
  standing_for w (Prep n key text) is = tt
  standing_for w (Sync n command) is = tt
  standing_for w (Own command) is = tt
  standing_for w (End n) is = tt
  standing_for w (Capture n) is = tt

  pub standing_read : (w : Wire) → (view_on (read_on w)).links l ≡ ran_by g.setup.reads ((view_on g).links l).stage ((view_on g).links l)
      → IsStandingAt ((view_on (read_on w)).links l).stage (read_on w) l
  standing_read w ran_is =
      subst (λ (link : Link). IsStandingAt link.stage (read_on w) l) (sym ran_is) (by ((view_on g).links l).stage refl server_is.standing) where
        by : (stage : view.Stage) → ((view_on g).links l).stage ≡ stage → IsStandingAt stage g l
            → IsStandingAt (ran_by g.setup.reads stage ((view_on g).links l)).stage (read_on w) l
        by view.Quiet same is = subst (λ (s : view.Stage). IsStandingAt s (read_on w) l) (sym same) tt
        by (view.Asked question) same is = standing_for w question is
        by (view.Answered question) same is = subst (λ (s : view.Stage). IsStandingAt s (read_on w) l) (sym same) (standing_for w question is)

  -- Nothing is told of the answer: only the link's row is another.

  pub rows_so : (story : Story) (wires : LinkId → Wire) → IsNear g l story wires → AreClients (on g (with_story story wires g.tale)) t → (new : Row)
      → IsServer (on g (with_story story wires g.tale)) (link_changed l (with_row new) t) l new → KeepsCarried server (with_row new server)
      → StandsBut (on g (with_story story wires g.tale)) (link_changed l (with_row new) t)
  rows_so story wires is_near clients new is carries = record {
    clients = clients_links (on g (with_story story wires g.tale)) t l (with_row new) clients;
    servers = all_servers (on g (with_story story wires g.tale)) (link_changed l (with_row new) t) l (with_row new server) to_server at_link is (λ k apart.
        subst (λ (r : Option Server). IsServerOr (on g (with_story story wires g.tale)) (link_changed l (with_row new) t) k r) (sym (link_elsewhere l (with_row new) t k (flip k l apart)))
        (server_so g t (link_changed l (with_row new) t) l story wires is_near (λ n ordinal from is. is)
        (λ k other apart found row well whole here asking n ordinal key asks purpose is.
        record { now = is.client; there = is.there; first = refl; work = refl; coming = refl }) k apart (stands.servers k)));
    homes = homes_kept g (on g (with_story story wires g.tale)) t (link_changed l (with_row new) t)
        (link_kept t l (with_row new) (λ found at. subst (λ (s : Server). KeepsCarried s (with_row new s)) (some_is server found (sym there ∙ at)) carries)) stands.homes;
  } where
    at_link : (link_changed l (with_row new) t).links l ≡ Some (with_row new server)
    at_link =
        ap (λ (b : Bool). if b then option_map (with_row new) (t.links l) else t.links l) (same_number l.0) ∙ ap (option_map (with_row new)) there

  pub quiet_so : (w : Wire) (new : Row) → IsServer (read_on w) (link_changed l (with_row new) t) l new → KeepsCarried server (with_row new server)
      → StandsBut (read_on w) (link_changed l (with_row new) t)
  quiet_so w new is carries = rows_so ran_story (wires_with w) (near w) (clients_read w) new is carries

  -- A piece of a client's reply came.

  module _ (w : Wire) (new : Row) (mine : server.row.left ≡ None) (asking : Asking) (n : SessionName) (ordinal key : ℕ)
      (asks : AsksAt server.row.link.state.stage asking) (purpose : asking.purpose ≡ purposes.Statement n ordinal key) where
    abbrev own : IsReplying g t l server.row asking n ordinal
    own = replying_so mine asking n ordinal key asks purpose

    -- what is read of clients where one changes whose statement stands on the link
    pub shown_alone : (by : Client → Client) → AreShown g t (client_changed n.client by t) l
    shown_alone by k other apart found row well whole here asked m at code asks_there purpose_there is =
        which (client_now n.client by t m.client is.client is.there) where
          which : IsNow (client_changed n.client by t).clients by n.client m.client is.client → IsShown t (client_changed n.client by t) m is.client
          which now = at_which now.which where
            at_which : ((n.client ≡ m.client) × (now.now ≡ by is.client)) ⊎ (now.now ≡ is.client) → IsShown t (client_changed n.client by t) m is.client
            at_which (inl (same, is_now)) =
                absurd (alone mine asking n ordinal key asks purpose k other apart found row whole here asked m at code asks_there purpose_there is same)
            at_which (inr is_now) = record {
              now = now.now;
              there = now.there;
              first = ap (λ (r : Client). r.desk.seat.first) is_now;
              work = ap (λ (r : Client). r.desk.work) is_now;
              coming = ap (λ (r : Client). r.desk.seat.outbox.coming) is_now;
            }

    -- it grows
    module _ (made : List ℕ) where
      abbrev grows : Client → Client
      grows = at_desk (grown_by made)

      abbrev told_table : Tabled
      told_table = client_changed n.client grows (link_changed l (with_row new) t)

      at_grown : (client : tales.Client) → IsAt (read_on w) t client → IsAt (read_on w) (client_changed n.client grows t) client
      at_grown client is = by (nat_eq n.client.0 client.number.0) refl where
        by : (b : Bool) → nat_eq n.client.0 client.number.0 ≡ b → IsAt (read_on w) (client_changed n.client grows t) client
        by false apart = record {
          row = subst (λ (row : Option Client). IsClientOr (read_on w) client row) (sym (client_elsewhere n.client grows t client.number apart)) is.row;
          found = λ some. is.found (ap (λ (row : Option Client). is_some row) (sym (client_elsewhere n.client grows t client.number apart)) ∙ some);
          aside = is.aside;
          alone = is.alone;
        }
        by true same = record {
          row = subst (λ (row : Option Client). IsClientOr (read_on w) client row) (sym now)
              (client_grown (read_on w) client own.client (subst (λ (row : Option Client). IsClientOr (read_on w) client row) found is.row) own.work own.in_work own.sent made);
          found = λ some. is.found (ap (λ (row : Option Client). is_some row) found);
          aside = is.aside;
          alone = is.alone;
        } where
          it : n.client ≡ client.number
          it = client_of n.client client.number same

          found : t.clients client.number ≡ Some own.client
          found = ap t.clients (sym it) ∙ own.there

          now : (client_changed n.client grows t).clients client.number ≡ Some (grows own.client)
          now =
              ap (λ (b : Bool). if b then option_map grows (t.clients n.client) else t.clients client.number) same ∙ ap (option_map grows) own.there

      pub part_so : IsServer (read_on w) told_table l new → KeepsCarried server (with_row new server) → StandsBut (read_on w) told_table
      part_so is carries = record {
        clients = clients_links (read_on w) (client_changed n.client grows t) l (with_row new)
            (clients_changed (read_on w) t ran_story (wires_with w) n.client grows (clients_read w) (λ client is. at_grown client is));
        servers = all_servers (read_on w) told_table l (with_row new server) to_server at_link is (λ k apart.
            subst (λ (r : Option Server). IsServerOr (read_on w) told_table k r) (sym (link_elsewhere l (with_row new) t k (flip k l apart)))
            (server_so g t told_table l ran_story (wires_with w) (near w)
            (first_changed t n.client grows (record { first = λ row. refl; work = λ row work is. is }))
            (shown_links g t l n.client grows (with_row new) (shown_alone grows)) k apart (stands.servers k)));
        homes = homes_kept g (read_on w) t told_table
            (both_kept t n.client grows (λ client found. record { home = λ h. refl; life = λ h. refl }) l (with_row new)
            (λ found at. subst (λ (s : Server). KeepsCarried s (with_row new s)) (some_is server found (sym there ∙ at)) carries)) stands.homes;
      } where
        at_link : (link_changed l (with_row new) t).links l ≡ Some (with_row new server)
        at_link =
            ap (λ (b : Bool). if b then option_map (with_row new) (t.links l) else t.links l) (same_number l.0) ∙ ap (option_map (with_row new)) there

  -- An answer is read.

  ran_standing : (stage : view.Stage) (question : Question) → ((view_on g).links l).stage ≡ stage → (ran_by g.setup.reads stage ((view_on g).links l)).stage ≡ view.Answered question
      → IsStandingAt stage g l → OfStatement question (IsStanding g l)
  ran_standing view.Quiet question same now is = (let no : view.Quiet ≡ view.Answered question = sym same ∙ now in absurd (cc))
  ran_standing (view.Asked asked) question same now is = (let it : asked ≡ question = cc in subst (λ (q : Question). OfStatement q (IsStanding g l)) it is)
  ran_standing (view.Answered asked) question same now is =
      (let it : asked ≡ question = answered_is asked question (sym same ∙ now) in subst (λ (q : Question). OfStatement q (IsStanding g l)) it is) where
        answered_is : (a b : Question) → view.Answered a ≡ view.Answered b → a ≡ b
        answered_is a b same = cc

  module _ (w : Wire) (new : Row) (reply : Reply) (question : Question) (stage_now : ((view_on (read_on w)).links l).stage ≡ view.Answered question)
      (ran_stage : (ran_by g.setup.reads ((view_on g).links l).stage ((view_on g).links l)).stage ≡ view.Answered question) where
    abbrev after : Ground
    after = on (read_on w) (tell (Heard l reply) (read_on w).tale)

    pub standing_so : OfStatement question (IsStanding (read_on w) l)
    standing_so = standing_for w question (ran_standing ((view_on g).links l).stage question refl ran_stage server_is.standing)

    ran_lawful : (stage : view.Stage) → IsLawful g.setup g.tale.story → IsLawful g.setup (runs_first stage l g.tale).story
    ran_lawful view.Quiet is = is
    ran_lawful (view.Asked asked) is = (is, tt)
    ran_lawful (view.Answered asked) is = is

    heard_near : IsNear (read_on w) l (Heard l reply ∷ ran_story) (wires_with w)
    heard_near =
        near_heard carried_law homed_law (read_on w) l reply question stage_now (ran_lawful ((view_on g).links l).stage stands.lawful) standing_so

    -- what the others' rows read of clients in tables behind it
    module _ (other : Tabled) (first : AreFirst t other)
        (shown : (k : LinkId) (at : Server) → is_link_id k l ≡ false → t.links k ≡ Some at → IsRowIn g.setup g.codes g.plan g.tale k at.row
        → at.row.link.spoilt ≡ false → at.row.lost ≡ false → at.row.left ≡ None
        → (asking : Asking) (n : SessionName) (ordinal key : ℕ) → AsksAt at.row.link.state.stage asking → asking.purpose ≡ purposes.Statement n ordinal key
        → (is : IsReplying g t k at.row asking n ordinal) → IsShown t other n is.client) where
      -- both steps at once
      both_near : IsNear g l (Heard l reply ∷ ran_story) (wires_with w)
      both_near = record {
        wire = λ k apart. (near w).wire k apart;
        link = λ k apart. heard_near.link k apart ∙ (near w).link k apart;
        dues = λ n. heard_near.dues n ∙ (near w).dues n;
        session = λ k row n apart is carried.
            along n row.left ((near w).session k row n apart is carried)
            (heard_near.session k row n apart (stays_so g.setup g.codes g.plan g.tale (read_on w).tale k row is ((near w).wire k apart) ((near w).link k apart)
            (λ m named. (near w).session k row m apart is named)) carried);
        carriers = λ m. heard_near.carriers m ∙ (near w).carriers m;
        replies = λ k m apart carrier. heard_near.replies k m apart ((near w).carriers m ∙ carrier) ∙ (near w).replies k m apart carrier;
      } where
        along : (n : SessionName) (left : Option LeftSession) → IsUntouched (view_on g) (view_on (read_on w)) n left
            → IsUntouched (view_on (read_on w)) (view_on after) n left → IsUntouched (view_on g) (view_on after) n left
        along n None one two = two ∙ one
        along n (Some left) one two = record {
          later = omega (arith, one.later, two.later);
          pin = two.pin ∙ one.pin;
          id = two.id ∙ one.id;
          lasting = two.lasting ∙ one.lasting;
        }

      pub servers_heard : (k : LinkId) → is_link_id k l ≡ false → IsServerOr after other k (t.links k)
      servers_heard k apart = server_so g t other l (Heard l reply ∷ ran_story) (wires_with w) both_near first shown k apart (stands.servers k)

    abbrev at_link : (link_changed l (with_row new) t).links l ≡ Some (with_row new server)
    at_link =
        ap (λ (b : Bool). if b then option_map (with_row new) (t.links l) else t.links l) (same_number l.0) ∙ ap (option_map (with_row new)) there

    -- of which no client is told
    pub untold_so : ((client : tales.Client) → IsAt (read_on w) t client → IsAt after t client)
        → IsServer after (link_changed l (with_row new) t) l new → KeepsCarried server (with_row new server) → StandsBut after (link_changed l (with_row new) t)
    untold_so clients is carries = record {
      clients = clients_links after t l (with_row new) (clients_told (read_on w) t (Heard l reply ∷ ran_story) (wires_with w) (clients_read w) clients);
      servers = all_servers after (link_changed l (with_row new) t) l (with_row new server) to_server at_link is (λ k apart.
          subst (λ (r : Option Server). IsServerOr after (link_changed l (with_row new) t) k r) (sym (link_elsewhere l (with_row new) t k (flip k l apart)))
          (servers_heard (link_changed l (with_row new) t) (λ n ordinal from is. is)
          (λ k other apart found row well whole here asking n ordinal key asks purpose is.
          record { now = is.client; there = is.there; first = refl; work = refl; coming = refl }) k apart));
      homes = homes_kept g after t (link_changed l (with_row new) t)
          (link_kept t l (with_row new) (λ found at. subst (λ (s : Server). KeepsCarried s (with_row new s)) (some_is server found (sym there ∙ at)) carries)) stands.homes;
    }

    -- of which a client is told
    pub told_so : (c : ClientNo) (by : Client → Client) → IsGentle by
        → ((client : tales.Client) → IsAt (read_on w) t client → IsAt after (client_changed c by t) client)
        → AreShown g t (client_changed c by t) l → ((row : Client) → t.clients c ≡ Some row → KeepsHomes row (by row))
        → IsServer after (client_changed c by (link_changed l (with_row new) t)) l new → KeepsCarried server (with_row new server)
        → StandsBut after (client_changed c by (link_changed l (with_row new) t))
    told_so c by gentle clients shown homes is carries = record {
      clients = clients_links after (client_changed c by t) l (with_row new)
          (clients_changed (read_on w) t (Heard l reply ∷ ran_story) (wires_with w) c by (clients_read w) clients);
      servers = all_servers after (client_changed c by (link_changed l (with_row new) t)) l (with_row new server) to_server at_link is (λ k apart.
          subst (λ (r : Option Server). IsServerOr after (client_changed c by (link_changed l (with_row new) t)) k r) (sym (link_elsewhere l (with_row new) t k (flip k l apart)))
          (servers_heard (client_changed c by (link_changed l (with_row new) t)) (first_changed t c by gentle) (shown_links g t l c by (with_row new) shown) k apart));
      homes = homes_kept g after t (client_changed c by (link_changed l (with_row new) t))
          (both_kept t c by homes l (with_row new)
          (λ found at. subst (λ (s : Server). KeepsCarried s (with_row new s)) (some_is server found (sym there ∙ at)) carries)) stands.homes;
    }
