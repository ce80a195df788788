-- The link of a session is given back or lost: what of its client's row changes is the session.
use Rattle.std.specs.Prelude.{◌≡◌, ◌<◌, ◌≤◌, ℕ, suc, Bool, true, false, nat_eq, if◌then◌else◌, is_some, ◌||◌, List, Option, Some, None}
use Rattle.std.specs.Option.{option_and_then}
use Rattle.std.proofs.Common.{refl, sym, ap, ◌∙◌, arith}
use Rattle.std.proofs.lemmas.Bool.{true≢false}
use Rattle.std.proofs.lemmas.Option.{none-some}
use Rattle.mx_base.specs.declared.names.Hostgroup.{Hostgroup}
use Rattle.client_session.specs.Setups.{Setup as Service}
use Rattle.server_rule.specs.Classes.{Reads}
use Rattle.private_model.specs.Names.{ClientNo, LinkId, SessionName}
use Rattle.private_model.specs.Story.{Happening}
use Rattle.private_model.specs.View.{Held, View, present, session_in, view_step}
use Rattle.log_story.specs.Clients.{is_answered}
use Rattle.log_story.specs.Owed.{name_of}
use Rattle.log_story.specs.Tale as tales
use Rattle.log_story.specs.Tale.{tell}
use Rattle.client_seat.specs.Seats.{is_ended}
use Rattle.client_desk.specs.Desks.{session_of}
use Rattle.client_desk.specs.declared.desk.Desk.{Desk}
use Rattle.client_desk.specs.declared.session.Session.{Session}
use Rattle.client_desk.specs.declared.work.Work.{Work}
use Rattle.desk_laws.specs.Stands.{AreToCome, IsDesk, name_at}
use Rattle.row_laws.specs.Whose.{name_in}
use Rattle.core_tables.specs.Parting.{present_at, present_in}
use Rattle.core_tables.specs.Tables.{Tabled}
use Rattle.core_tables.specs.declared.client.Client.{Client}
use Rattle.core_tables.specs.declared.server.Server.{Server}
use Rattle.core_stands.specs.Clients.{IsClient, IsPhase, IsWorkingOr}
use Rattle.core_stands.specs.Grounds.{Ground, on, view_on}
use Rattle.core_stands.specs.Stands.{IsHome, Stands}
use Rattle.core_laws.proofs.OfParting.Homes.{homes_so}
use Rattle.core_laws.proofs.OfParting.Owing.{Alike, answered_alike, bytes_alike, owing_alike, so_far_alike}

-- Names.

pub flip_eq : (a b : ℕ) → nat_eq a b ≡ false → nat_eq b a ≡ false
flip_eq a b apart = grind arith

pub name_path : (n : SessionName) (c : ClientNo) (life : ℕ) → c ≡ n.client → life ≡ n.life → n ≡ name_at c n.hostgroup life
name_path n c life client lives = sym (λ i. record { client = client i; hostgroup = n.hostgroup; life = lives i })

-- what a desk says of its sessions

pub home_of : (reads : Reads) (view : View) (c : ClientNo) (desk : Desk) (h : Hostgroup) → IsDesk reads view c desk
    → (session_of desk h).home ≡ (view.held (present view c h)).home
home_of reads view c desk h is =
    ap (λ (held : Held). held.home) (sym (is.sessions.each h).held)
    ∙ ap (λ (life : ℕ). (view.held (name_at c h life)).home) (sym (is.sessions.each h).life)

pub life_of : (reads : Reads) (view : View) (c : ClientNo) (desk : Desk) (h : Hostgroup) → IsDesk reads view c desk → (session_of desk h).life ≡ view.lives c h
life_of reads view c desk h is = sym (is.sessions.each h).life

-- One client's row of which sessions changed, where none of its messages is sent or answered and it isn't moved.

module _ (g : Ground) (client : tales.Client) (e : Happening)
    (replies : (ordinal : ℕ) → (view_step g.setup (view_on g) e).replies (name_of client ordinal) ≡ (view_on g).replies (name_of client ordinal))
    (carriers : (ordinal : ℕ) → (view_step g.setup (view_on g) e).carriers (name_of client ordinal) ≡ (view_on g).carriers (name_of client ordinal))
    (places : (view_step g.setup (view_on g) e).places client.number ≡ (view_on g).places client.number) where
  abbrev after : Ground
  after = on g (tell e g.tale)

  alike : Alike g.plan client (view_on g) (view_on after) g.tale.moment g.tale.moment
  alike = record { own = λ ordinal below. refl; replies = replies }

  still : (ordinal : ℕ) → ordinal ≤ client.taken → is_answered g.plan g.tale (view_on after) client ordinal ≡ is_answered g.plan g.tale (view_on g) client ordinal
  still = answered_alike g.plan client (view_on g) (view_on after) g.tale.moment g.tale.moment alike g.tale after.tale refl refl

  module _ (row : Client) (sessions : List Session) where
    abbrev now : Client
    now = record row { desk = record row.desk { sessions = sessions } }

    working_now : (work : Option Work)
        → ((w : Work) → work ≡ Some w → w.sent ≡ true → (session_of now.desk w.hostgroup).home ≡ (session_of row.desk w.hostgroup).home)
        → IsWorkingOr g client row work → IsWorkingOr after client now work
    working_now None homes is = is
    working_now (Some work) homes is = record {
      last = is.last;
      went = is.went;
      number = is.number;
      only = is.only;
      prepares = is.prepares;
      keyed = is.keyed;
      first = is.first;
      unsent = is.unsent;
      there = λ sent. homes work refl sent ∙ is.there sent ∙ sym (carriers work.ordinal);
    }

    phase_now : ((w : Work) → row.desk.work ≡ Some w → w.sent ≡ true → (session_of now.desk w.hostgroup).home ≡ (session_of row.desk w.hostgroup).home)
        → ((h : Hostgroup) → (session_of row.desk h).home ≡ None → (session_of now.desk h).home ≡ None)
        → (ended : Bool) → IsPhase ended g client row → IsPhase ended after client now
    phase_now homes homeless true is = record {
      over = is.over;
      idle = is.idle;
      told = λ word ordinal below. still ordinal below ∙ is.told word ordinal below;
      homeless = λ h. homeless h (is.homeless h);
    }
    phase_now homes homeless false is = record {
      going = is.going;
      earlier = λ ordinal below. still ordinal (omega (arith, below)) ∙ is.earlier ordinal below;
      answered = is.answered ∙ sym (still client.taken (omega arith));
      went = is.went;
      busy = is.busy;
      working = working_now row.desk.work homes is.working;
      unmoved = λ at. places ∙ is.unmoved at;
      account = is.account;
      collation = is.collation;
    }

    pub row_redesked : IsClient g client row → IsDesk g.setup.reads (view_on after) client.number now.desk → AreToCome (view_on after) client.number (suc client.taken)
        → ((w : Work) → row.desk.work ≡ Some w → w.sent ≡ true → (session_of now.desk w.hostgroup).home ≡ (session_of row.desk w.hostgroup).home)
        → ((h : Hostgroup) → (session_of row.desk h).home ≡ None → (session_of now.desk h).home ≡ None) → IsClient after client now
    row_redesked is desk coming homes homeless = record {
      who = is.who;
      heard = is.heard;
      owed = owing_alike g after client row.desk.seat.phase (g.fresh client.number) row.desk.seat
          (so_far_alike g.plan client (view_on g) (view_on after) g.tale.moment g.tale.moment alike)
          (λ ended. bytes_alike g.plan client (view_on g) (view_on after) g.tale.moment g.tale.moment alike refl) is.owed;
      desk = desk;
      coming = coming;
      phase = phase_now homes homeless (is_ended row.desk.seat.phase) is.phase;
    }

-- The session that a link carries is its client's present one, by the row of the link; or it was left.

pub record IsPresent (t : Tabled) (l : LinkId) (n : SessionName) : Type 0 where
  pub server : Server
  pub there : t.links l ≡ Some server
  pub whole : server.row.lost ≡ false
  pub mine : server.row.left ≡ None
  pub carries : name_in server.row.link.state.carries ≡ Some n

present_by : (t : Tabled) (l : LinkId) (n : SessionName) (server : Server) → t.links l ≡ Some server → (lost : Bool) → server.row.lost ≡ lost
    → (left : Bool) → is_some server.row.left ≡ left → (if lost || left then None else name_in server.row.link.state.carries) ≡ Some n → IsPresent t l n
present_by t l n server there true lost left mine is = absurd (none-some n is)
present_by t l n server there false lost true mine is = absurd (none-some n is)
present_by t l n server there false lost false mine is =
    record { server = server; there = there; whole = lost; mine = none_of server.row.left mine; carries = is } where
      none_of : {A : Type 0} (o : Option A) → is_some o ≡ false → o ≡ None
      none_of None at = refl
      none_of (Some a) at = absurd (true≢false at)

pub present_so : (t : Tabled) (l : LinkId) (n : SessionName) → present_in l t ≡ Some n → IsPresent t l n
present_so t l n is = by (t.links l) refl is where
  by : (found : Option Server) → t.links l ≡ found → option_and_then present_at found ≡ Some n → IsPresent t l n
  by None at none = absurd (none-some n none)
  by (Some server) at some = present_by t l n server at server.row.lost refl (is_some server.row.left) refl some

pub present_home : (t : Tabled) (l : LinkId) (n : SessionName) (server : Server) → IsHome t l n server → present_in l t ≡ Some n
present_home t l n server home =
    ap (option_and_then present_at) home.there
    ∙ ap (λ (lost : Bool). if lost || is_some server.row.left then None else name_in server.row.link.state.carries) home.whole
    ∙ ap (λ (left : Bool). if left then None else name_in server.row.link.state.carries) (ap is_some home.present)
    ∙ home.carries

-- one that isn't present was left
pub past_so : (service : Service) (g : Ground) (t : Tabled) (l : LinkId) (n : SessionName) (row : Client) (client : tales.Client) → Stands service g t
    → session_in ((view_on g).links l).carries ≡ Some n → present_in l t ≡ None → client.number ≡ n.client → t.clients n.client ≡ Some row → IsClient g client row
    → n.life < (view_on g).lives n.client n.hostgroup
past_so service g t l n row client is carried none number there stands =
    let s = session_of row.desk n.hostgroup in
    let at = stands.desk.sessions.each n.hostgroup in
    let lives : (view_on g).lives n.client n.hostgroup ≡ s.life = ap (λ (c : ClientNo). (view_on g).lives c n.hostgroup) (sym number) ∙ at.life in
    let homed = homes_so g.setup g.tale.story is.lawful in
    let not_same : s.life ≡ n.life → ⊥ = λ same.
    let name : n ≡ name_at client.number n.hostgroup s.life = name_path n client.number s.life number same in
    let home : s.home ≡ Some l = ap (λ (h : Held). h.home) (sym at.held) ∙ ap (λ (m : SessionName). ((view_on g).held m).home) (sym name) ∙ homed.home l n carried in
    let carrier = is.homes.carried n.client row n.hostgroup l there home in
    none-some _ (sym none ∙ present_home t l (name_at n.client n.hostgroup s.life) carrier.0 carrier.1) in
    let not_later : s.life < n.life → ⊥ = λ later.
    let unborn = at.unborn n.life later in
    let name : n ≡ name_at client.number n.hostgroup n.life = name_path n client.number n.life number refl in
    none-some l (ap (λ (h : Held). h.home) (sym unborn.held) ∙ ap (λ (m : SessionName). ((view_on g).held m).home) (sym name) ∙ homed.home l n carried) in
    by s.life n.life not_same not_later ((view_on g).lives n.client n.hostgroup) lives where
      by : (a b : ℕ) → (a ≡ b → ⊥) → (a < b → ⊥) → (lives : ℕ) → lives ≡ a → b < lives
      by a b same later lives is_a = first_of (grind arith, omega (arith, same, later, is_a))
