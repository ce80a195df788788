-- Tables stand for what a step makes, by their parts.
use Rattle.std.specs.Prelude.{◌≡◌, ℕ, Bool, true, false, nat_eq, All, is_some, List, [], ◌∷◌, Option, Some, None}
use Rattle.std.specs.Option.{option_map}
use Rattle.std.proofs.Common.{refl, sym, ap, ◌∙◌}
use Rattle.std.proofs.lemmas.Bool.{false≢true}
use Rattle.std.proofs.lemmas.List.Elements.{All-cons, All-head, All-nil, All-tail}
use Rattle.std.proofs.lemmas.Option.{none-some}
use Rattle.mx_base.specs.declared.names.Hostgroup.{Hostgroup}
use Rattle.client_session.specs.Setups.{Setup as Service}
use Rattle.private_model.specs.Lawful.{IsLawful}
use Rattle.private_model.specs.Names.{ClientNo, LinkId, SessionName}
use Rattle.private_model.specs.Story.{Story}
use Rattle.log_story.specs.Tale as tales
use Rattle.log_story.specs.Tale.{is_to_server, link_in}
use Rattle.lent_link.specs.declared.link.Begins.{Begins}
use Rattle.lent_link.specs.declared.link.Begins.TheVariants as begins
use Rattle.link_state.specs.declared.asking.Asking.{Asking}
use Rattle.link_state.specs.declared.asking.Purpose.{Purpose}
use Rattle.link_state.specs.declared.asking.Purpose.TheVariants as purposes
use Rattle.link_state.specs.declared.state.Stage.{Stage}
use Rattle.link_state.specs.declared.state.Stage.TheVariants.{Quiet, Asked, Answered}
use Rattle.served_link.specs.declared.row.Row.{Row}
use Rattle.client_desk.specs.Desks.{session_of}
use Rattle.client_desk.specs.declared.session.Session.{Session}
use Rattle.row_laws.specs.Whose.{name_in}
use Rattle.step_laws.proofs.Seating.{counted_seats}
use Rattle.step_laws.specs.Seats.{IsSeated}
use Rattle.core_tables.specs.Tables.{Tabled}
use Rattle.core_tables.specs.declared.client.Client.{Client}
use Rattle.core_tables.specs.declared.server.Server.{Server}
use Rattle.core_stands.specs.Clients.{IsClient, IsClientOr}
use Rattle.core_stands.specs.Grounds.{Ground}
use Rattle.core_stands.specs.Servers.{IsNextFor, IsNextOf, IsReplyingAt, IsReplyingFor, IsServer, IsServerBy, IsServerOr}
use Rattle.core_stands.specs.Stands.{AreClients, AreDuly, AreHomes, ArePrepared, IsAt, IsKnown, Stands}
use Rattle.core_laws.proofs.OfParting.Grounds.{parted_after, taken_after}
use Rattle.core_laws.proofs.OfParting.Same.{known_so, row_of}
use Rattle.core_laws.proofs.OfParting.Standing.{stand_so, standing_at}

pub all_with : (P Q R : tales.Client → Type 0) → ((x : tales.Client) → P x → Q x → R x) → (xs : List tales.Client) → All P xs → All Q xs → All R xs
all_with P Q R both [] p q = All-nil R
all_with P Q R both (x ∷ xs) p q =
    All-cons R x xs (both x (All-head P x xs p) (All-head Q x xs q)) (all_with P Q R both xs (All-tail P x xs p) (All-tail Q x xs q))

pub some_of : {A : Type 0} (o : Option A) → is_some o ≡ true → (a : A) × (o ≡ Some a)
some_of None is = absurd (false≢true is)
some_of (Some a) is = (a, refl)

pub mapped : {A : Type 0} (f : A → A) (o : Option A) (b : A) → option_map f o ≡ Some b → (a : A) × (o ≡ Some a) × (f a ≡ b)
mapped f None b is = absurd (none-some b is)
mapped f (Some a) b is = (a, refl, (let same : Some (f a) ≡ Some b = is in cc))

-- Another moment of a tale with this story, and others that ended.

module _ (g : Ground) (story : Story) (moment : ℕ) (over : ClientNo → Bool) where
  abbrev pub after : Ground
  after = record g { tale = record g.tale { story = story; moment = moment }; over = over }

  module _ (t other : Tabled) where
    pub record Parts : Type 0 where
      pub rows : (client : tales.Client) → IsSeated g.tale client → IsClientOr g client (t.clients client.number)
          → IsClientOr after client (other.clients client.number)
      pub there : (c : ClientNo) → is_some (other.clients c) ≡ is_some (t.clients c)
      pub numbers : (l : LinkId) → other.numbers l ≡ t.numbers l
      pub servers : (l : LinkId) → IsServerOr after other l (other.links l)
      pub homes : AreHomes after other
      pub lawful : IsLawful g.setup story
      pub prepared : ArePrepared after other
      pub duly : AreDuly g.setup g.plan story

    at_moved : Parts → (client : tales.Client) → IsSeated g.tale client → IsAt g t client → IsAt after other client
    at_moved parts client seated is = record {
      row = parts.rows client seated is.row;
      found = λ there. parts.numbers client.link ∙ is.found (sym (parts.there client.number) ∙ there);
      aside = is.aside;
      alone = is.alone;
    }

    known_moved : (c : ClientNo) (client : tales.Client) → IsKnown g c client → IsKnown after c client
    known_moved c client is = record { seated = is.seated; number = is.number }

    clients_moved : Parts → AreClients g t → AreClients after other
    clients_moved parts are = record {
      counted = are.counted;
      each = all_with (IsSeated g.tale) (IsAt g t) (IsAt after other) (at_moved parts) g.tale.clients (counted_seats g.tale are.counted) are.each;
      known = λ c row there.
          let old = some_of (t.clients c) (sym (parts.there c) ∙ ap is_some there) in
          let known = are.known c old.0 old.1 in
          (known.0, known_moved c known.0 known.1);
      named = λ l c there.
          let named = are.named l c (sym (parts.numbers l) ∙ there) in
          (named.0, known_moved c named.0 named.1, named.2, parts.there c ∙ named.3);
    }

    pub stands_moved : (service : Service) → Stands service g t → Parts → Stands service after other
    stands_moved service is parts = record {
      service_is = is.service_is;
      room_is = is.room_is;
      clients = clients_moved parts is.clients;
      servers = parts.servers;
      homes = parts.homes;
      lawful = parts.lawful;
      prepared = parts.prepared;
      duly = parts.duly;
    }

-- Rows of links read no moment, and not who ended.

module _ (g : Ground) (lawful : IsLawful g.setup g.tale.story) (moment : ℕ) (over : ClientNo → Bool) (more : (c : ClientNo) → g.over c ≡ true → over c ≡ true)
    (t : Tabled) (l : LinkId) where
  abbrev then : Ground
  then = record g { tale = record g.tale { moment = moment }; over = over }

  module _ (row : Row) where
    next_for : (asking : Asking) (purpose : Purpose) → IsNextFor purpose g t row (link_in g.setup g.tale l) asking
        → IsNextFor purpose then t row (link_in g.setup g.tale l) asking
    next_for asking (purposes.Statement n ordinal key) is = record {
      said = is.said;
      first = is.first;
      asked = is.asked;
      number = is.number;
      taken_up = taken_after g g.tale.story moment over n ordinal is.taken_up;
    }
    next_for asking (purposes.Prep n ordinal key) is = record {
      said = is.said;
      told = is.told;
      taken_up = taken_after g g.tale.story moment over n ordinal is.taken_up;
    }
    next_for asking (purposes.Sync n) is = record { command = is.command; said = is.said }
    next_for asking purposes.Own is = record { command = is.command; said = is.said }
    next_for asking (purposes.End n) is = is
    next_for asking (purposes.Capture n) is = is

    next_then : (next : Option Begins) → IsNextOf next g t row (link_in g.setup g.tale l) → IsNextOf next then t row (link_in g.setup g.tale l)
    next_then None is = is
    next_then (Some (begins.Asks asking)) is = (is.0, next_for asking asking.purpose is.1)
    next_then (Some (begins.Closes number)) is = is
    next_then (Some (begins.Resets number)) is = is
    next_then (Some begins.Quits) is = is

    reply_for : (asking : Asking) (purpose : Purpose) → IsReplyingFor purpose g t l row asking → IsReplyingFor purpose then t l row asking
    reply_for asking (purposes.Statement n ordinal key) is = record {
      client = is.client;
      work = is.work;
      there = is.there;
      in_work = is.in_work;
      last = is.last;
      sent = is.sent;
      hostgroup = is.hostgroup;
      number = is.number;
      first = is.first;
      coming = is.coming;
    }
    reply_for asking (purposes.Prep n ordinal key) is = tt
    reply_for asking (purposes.Sync n) is = tt
    reply_for asking purposes.Own is = tt
    reply_for asking (purposes.End n) is = tt
    reply_for asking (purposes.Capture n) is = tt

    reply_then : (stage : Stage) → IsReplyingAt stage g t l row → IsReplyingAt stage then t l row
    reply_then Quiet is = tt
    reply_then (Asked asking) is = reply_for asking asking.purpose is
    reply_then (Answered asking) is = reply_for asking asking.purpose is

    pub server_then : IsServer g t l row → IsServer then t l row
    server_then is = record {
      row = is.row;
      user = is.user;
      found_rows = is.found_rows;
      lent = is.lent;
      parted = λ sound kept some. parted_after g g.tale.story moment over more row.link.state.stage (is.parted sound kept some);
      standing = standing_at then l (stand_so g.setup g.tale.story lawful);
      next = next_then row.link.next is.next;
      replying = λ sound kept mine. reply_then row.link.state.stage (is.replying sound kept mine);
    }

  by : (b : Bool) (row : Option Server) → IsServerBy b g t l row → IsServerBy b then t l row
  by true (Some server) is = server_then server.row is
  by true None is = is
  by false row is = is

  pub any_then : (row : Option Server) → IsServerOr g t l row → IsServerOr then t l row
  any_then row is = by (is_to_server g.tale l) row is

-- Homes, where no session changes.

pub record SameSessions (t other : Tabled) : Type 0 where
  pub before : (c : ClientNo) (row : Client) → other.clients c ≡ Some row
      → (old : Client) × (t.clients c ≡ Some old) × ((h : Hostgroup) → session_of row.desk h ≡ session_of old.desk h)
  pub behind : (c : ClientNo) (old : Client) → t.clients c ≡ Some old
      → (row : Client) × (other.clients c ≡ Some row) × ((h : Hostgroup) → session_of row.desk h ≡ session_of old.desk h)
  pub links : (l : LinkId) → other.links l ≡ t.links l

pub homes_kept : (g later : Ground) (t other : Tabled) → SameSessions t other → AreHomes g t → AreHomes later other
homes_kept g later t other same are = record {
  carried = λ c row h l there home.
      let old = same.before c row there in
      let carried = are.carried c old.0 h l old.1 (sym (ap (λ (s : Session). s.home) (old.2 h)) ∙ home) in (
        carried.0,
        record {
          there = same.links l ∙ carried.1.there;
          carries = carried.1.carries ∙ ap (λ (s : Session). Some (record { client = c; hostgroup = h; life = s.life })) (sym (old.2 h));
          present = carried.1.present;
          whole = carried.1.whole;
        },
      );
  home = λ l server n there carries mine kept.
      let home = are.home l server n (sym (same.links l) ∙ there) carries mine kept in
      let now = same.behind n.client home.0 home.1 in
      (now.0, now.1, ap (λ (s : Session). s.home) (now.2 n.hostgroup) ∙ home.2, ap (λ (s : Session). s.life) (now.2 n.hostgroup) ∙ home.3);
}

-- Homes, where what happens on one link leaves all others.
module _ (g later : Ground) (t other : Tabled) (l : LinkId) where
  pub record HomesBut : Type 0 where
    pub before : (c : ClientNo) (row : Client) (h : Hostgroup) (at : LinkId) → other.clients c ≡ Some row → (session_of row.desk h).home ≡ Some at
        → (old : Client) × (t.clients c ≡ Some old) × ((session_of old.desk h).home ≡ Some at) × ((session_of old.desk h).life ≡ (session_of row.desk h).life)
        × (nat_eq l.0 at.0 ≡ false)
    pub behind : (c : ClientNo) (old : Client) (h : Hostgroup) (at : LinkId) → t.clients c ≡ Some old → (session_of old.desk h).home ≡ Some at → nat_eq l.0 at.0 ≡ false
        → (row : Client) × (other.clients c ≡ Some row) × ((session_of row.desk h).home ≡ Some at) × ((session_of row.desk h).life ≡ (session_of old.desk h).life)
    pub elsewhere : (at : LinkId) → nat_eq l.0 at.0 ≡ false → other.links at ≡ t.links at
    pub here : (at : LinkId) (server : Server) (n : SessionName) → nat_eq l.0 at.0 ≡ true → other.links at ≡ Some server
        → name_in server.row.link.state.carries ≡ Some n → server.row.lost ≡ false → ⊥

  pub homes_but : HomesBut → AreHomes g t → AreHomes later other
  homes_but but are = record {
    carried = λ c row h at there home.
        let old = but.before c row h at there home in
        let carried = are.carried c old.0 h at old.1 old.2 in (
          carried.0,
          record {
            there = but.elsewhere at old.4 ∙ carried.1.there;
            carries = carried.1.carries ∙ ap (λ (life : ℕ). Some (record { client = c; hostgroup = h; life = life })) old.3;
            present = carried.1.present;
            whole = carried.1.whole;
          },
        );
    home = λ at server n there carries mine kept. by at server n there carries mine kept (nat_eq l.0 at.0) refl;
  } where
    by : (at : LinkId) (server : Server) (n : SessionName) → other.links at ≡ Some server → name_in server.row.link.state.carries ≡ Some n → server.row.left ≡ None
        → server.row.lost ≡ false → (b : Bool) → nat_eq l.0 at.0 ≡ b → (row : Client) × (other.clients n.client ≡ Some row)
        × ((session_of row.desk n.hostgroup).home ≡ Some at) × ((session_of row.desk n.hostgroup).life ≡ n.life)
    by at server n there carries mine kept true same = absurd (but.here at server n same there carries kept)
    by at server n there carries mine kept false apart =
        let old = are.home at server n (sym (but.elsewhere at apart) ∙ there) carries mine kept in
        let now = but.behind n.client old.0 n.hostgroup at old.1 old.2 apart in
        (now.0, now.1, now.2, now.3 ∙ old.3)

-- whose row it is then
pub known_after : (service : Service) (g later : Ground) (t other : Tabled) → Stands service g t
    → ((client : tales.Client) → IsSeated g.tale client → IsClientOr later client (other.clients client.number))
    → (c : ClientNo) (old row : Client) → t.clients c ≡ Some old → other.clients c ≡ Some row
    → (client : tales.Client) × IsKnown g c client × IsClient g client old × IsClient later client row
known_after service g later t other is rows c old row there now =
    let known = known_so service g t c old is there in
    (known.0, known.1, known.2, row_of later known.0 row (other.clients known.0.number) (ap other.clients known.1.number ∙ now) (rows known.0 known.1.seated))
