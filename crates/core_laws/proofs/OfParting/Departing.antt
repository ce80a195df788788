-- A client leaves its sessions.
use Rattle.std.specs.Prelude.{◌≡◌, ◌⊎◌, ◌<◌, ◌^◌, ℕ, suc, Bool, true, false, not, ◌||◌, nat_eq, if◌then◌else◌, is_some, find, unwrap_or, ◌∷◌, List, [], Option, Some, None}
use Rattle.std.specs.Option.{option_map, option_map_or}
use Rattle.std.proofs.Common.{refl, sym, ap, ◌∙◌, subst, arith, inl, inr}
use Rattle.std.proofs.lemmas.Bool.{true≢false}
use Rattle.std.proofs.lemmas.Option.{none-some}
use Rattle.mx_base.specs.declared.names.Hostgroup.{Hostgroup}
use Rattle.client_session.specs.Setups.{Setup as Service}
use Rattle.server_side.specs.Account.{Account as Login}
use Rattle.private_model.proofs.Maps.{client_of, same_number}
use Rattle.private_model.specs.Lawful.{IsLawful}
use Rattle.private_model.specs.Names.{ClientNo, LinkId, SessionName}
use Rattle.private_model.specs.Story.{Left, is_client}
use Rattle.private_model.specs.View.{Held, Link, Setup, View, present, view_step}
use Rattle.log_story.specs.Plan.{Plan}
use Rattle.log_story.specs.Tale as tales
use Rattle.log_story.specs.Tale.{Tale, is_to_server, link_in, tell, view_of}
use Rattle.link_laws.specs.Stands.{Codes}
use Rattle.link_state.specs.declared.asking.Asking.{Asking}
use Rattle.link_state.specs.declared.asking.Purpose.{Purpose}
use Rattle.link_state.specs.declared.asking.Purpose.TheVariants as purposes
use Rattle.link_state.specs.declared.state.Carried.{Carried}
use Rattle.link_state.specs.declared.state.LinkState.{LinkState}
use Rattle.link_state.specs.declared.state.Stage.{Stage}
use Rattle.link_state.specs.declared.state.Stage.TheVariants.{Quiet, Asked, Answered}
use Rattle.lent_link.specs.declared.link.Begins.{Begins}
use Rattle.lent_link.specs.declared.link.Begins.TheVariants as begins
use Rattle.served_link.specs.Rows as rows
use Rattle.served_link.specs.declared.row.LeftSession.{LeftSession}
use Rattle.served_link.specs.declared.row.Row.{Row}
use Rattle.session_vars.specs.Settings.{collation_settings}
use Rattle.client_seat.specs.Seats.{account_in, is_ended}
use Rattle.client_seat.specs.declared.phase.Phase.{Phase}
use Rattle.client_seat.specs.declared.phase.Phase.TheVariants as phase
use Rattle.client_seat.specs.declared.seat.Seat.{Seat}
use Rattle.client_desk.specs.Desks as desks
use Rattle.client_desk.specs.Desks.{session_of}
use Rattle.client_desk.specs.Sessions.{first_session, is_in}
use Rattle.client_desk.specs.declared.desk.Desk.{Desk}
use Rattle.client_desk.specs.declared.session.Session.{Session}
use Rattle.client_desk.specs.declared.work.Work.{Work}
use Rattle.desk_laws.specs.Stands.{IsDesk, IsPlaced, name_at}
use Rattle.row_laws.specs.Apart.{IsSpared}
use Rattle.row_laws.specs.Rows.{IsRowBy, IsRowIn}
use Rattle.row_laws.specs.Whose.{IsFor, IsKept, IsOwn, name_in}
use Rattle.step_laws.specs.Seats.{IsSeated, seats}
use Rattle.core_tables.specs.Parting.{kept_at, left_in, left_row, parted_in, parted_row, with_kept}
use Rattle.core_tables.specs.Tables.{Tabled, client_put}
use Rattle.core_tables.specs.declared.client.Client.{Client}
use Rattle.core_tables.specs.declared.server.Server.{Server}
use Rattle.core_stands.specs.Clients.{IsClient, IsClientOr, IsGoing, IsPhase, IsWorking, IsWorkingOr}
use Rattle.core_stands.specs.Grounds.{Ground, ending, on, view_on}
use Rattle.core_stands.specs.Servers.{IsNextFor, IsNextOf, IsPartedAt, IsPartedFor, IsReplyingAt, IsReplyingFor, IsServer, IsServerBy, IsServerOr}
use Rattle.core_stands.specs.Stands.{AreHomes, IsAt, IsHome, Stands}
use Rattle.core_laws.specs.parting.Frames.{IsGlanced, IsNotInWork, KeepsNext, KeepsNextFor, KeepsOr, SparesNext, SparesNextFor, SparesRowOr, client_at, client_in, glance}
use Rattle.core_laws.specs.parting.Partings.{HasLives, IsAnew, IsEnding, IsLeaving}
use Rattle.core_laws.proofs.OfParting.Forgetting.{carrier_serves, server_there}
use Rattle.core_laws.proofs.OfParting.Freeing.{ComingStays, OthersStay}
use Rattle.core_laws.proofs.OfParting.Grounds.{taken_after}
use Rattle.core_laws.proofs.OfParting.Moving.{any_then, stands_moved}
use Rattle.core_laws.proofs.OfPrepared.Rows.{KeepsPrepared, RowOf, are_prepared, owns_stay, row_itself, row_kept}
use Rattle.core_laws.proofs.OfParting.Owing.{owing_alike}
use Rattle.core_laws.proofs.OfParting.Parting.{kept_so, none_kept_at}
use Rattle.core_laws.proofs.OfParting.Reading.{LinksStay, SessionsStay, any_kept, any_stays, next_kept, some_is}
use Rattle.core_laws.proofs.OfParting.Redesking.{flip_eq, home_of}
use Rattle.core_laws.proofs.OfParting.Same.{each_of, row_of}
use Rattle.core_laws.proofs.OfParting.Standing.{stand_so, standing_at}
use Rattle.core_laws.proofs.OfParting.Staying.{working_so}

-- The laws that are composed.

abbrev pub DesksLeave : Type 0
DesksLeave = (setup : Setup) (view : View) (c : ClientNo) (desk : Desk) → IsDesk setup.reads view c desk → (seat : Seat)
    → ((h : Hostgroup) → suc (view.lives c h) < 2 ^ 64) → seat.client.number ≡ desk.seat.client.number
    → IsPlaced seat.phase (view_step setup view (Left c)) c seat.place
    → IsDesk setup.reads (view_step setup view (Left c)) c (record (desks.left desk) { seat = seat })

abbrev pub RowsLeave : Type 0
RowsLeave = (setup : Setup) (codes : Codes) (plan : Plan) (tale : Tale) (l : LinkId) (row : Row) (client : ClientNo) (n : SessionName)
    (left : LeftSession) → (tale.wires l).entered ≡ true → name_in row.link.state.carries ≡ Some n → n.client ≡ client → row.left ≡ None
    → IsKept (view_of setup tale) n left → IsRowIn setup codes plan tale l row
    → IsRowIn setup codes plan (tell (Left client) tale) l (rows.left_by left row)

-- Who ended is another matter for a client that didn't.

module _ (h : Ground) (over : ClientNo → Bool) (client : tales.Client) (same : over client.number ≡ h.over client.number) where
  abbrev after : Ground
  after = record h { over = over }

  phase_over : (row : Client) (ended : Bool) → IsPhase ended h client row → IsPhase ended after client row
  phase_over row true is = record { over = same ∙ is.over; idle = is.idle; told = is.told; homeless = is.homeless }
  phase_over row false is = record {
    going = same ∙ is.going;
    earlier = is.earlier;
    answered = is.answered;
    went = is.went;
    busy = is.busy;
    working = working_so h after client row row.desk.work refl refl is.working;
    unmoved = is.unmoved;
    account = is.account;
    collation = is.collation;
  }

  pub client_over : (row : Option Client) → IsClientOr h client row → IsClientOr after client row
  client_over None is = record { over = same ∙ is.over; homeless = is.homeless }
  client_over (Some row) is = record {
    who = is.who;
    heard = is.heard;
    owed = owing_alike h after client row.desk.seat.phase (h.fresh client.number) row.desk.seat refl (λ ended. refl) is.owed;
    desk = is.desk;
    coming = is.coming;
    phase = phase_over row (is_ended row.desk.seat.phase) is.phase;
  }

spares_next : (c : ClientNo) (next : Option Begins) → SparesNext next (Left c)
spares_next c None = tt
spares_next c (Some (begins.Asks asking)) = by asking.purpose where
  by : (purpose : Purpose) → SparesNextFor purpose (Left c)
  by (purposes.Statement n ordinal key) = tt
  by (purposes.Prep n ordinal key) = tt
  by (purposes.Sync n) = tt
  by purposes.Own = tt
  by (purposes.End n) = tt
  by (purposes.Capture n) = tt
spares_next c (Some (begins.Closes number)) = tt
spares_next c (Some (begins.Resets number)) = tt
spares_next c (Some begins.Quits) = tt

-- the session for which a statement stands
stated_name : (purpose : Purpose) (carries : Carried) (c : ClientNo) → client_in purpose ≡ Some c → IsFor purpose carries
    → (n : SessionName) × (name_in carries ≡ Some n) × (n.client ≡ c)
stated_name (purposes.Statement n ordinal key) carries c at for = (n, for n refl, some_is n.client c at)
stated_name (purposes.Prep n ordinal key) carries c at for = absurd (none-some c at)
stated_name (purposes.Sync n) carries c at for = absurd (none-some c at)
stated_name purposes.Own carries c at for = absurd (none-some c at)
stated_name (purposes.End n) carries c at for = absurd (none-some c at)
stated_name (purposes.Capture n) carries c at for = absurd (none-some c at)

stated_at : (stage : Stage) (carries : Carried) (c : ClientNo) → client_at stage ≡ Some c → IsOwn stage carries
    → (n : SessionName) × (name_in carries ≡ Some n) × (n.client ≡ c)
stated_at Quiet carries c at own = absurd (none-some c at)
stated_at (Asked asking) carries c at own = stated_name asking.purpose carries c at own
stated_at (Answered asking) carries c at own = stated_name asking.purpose carries c at own

-- a link that carries nobody asks for nobody
own_by : (g : Ground) (l : LinkId) (row : Row) (entered : Bool) → IsRowBy entered g.setup.reads g.codes (g.plan.logins l) (view_on g) row (g.tale.wires l) ((view_on g).links l)
    → IsOwn row.link.state.stage row.link.state.carries
own_by g l row true is = is.own
own_by g l row false is =
    subst (λ (s : LinkState). IsOwn s.stage s.carries) (sym is.state) tt

module _ (links_stay : LinksStay) (untouched : SessionsStay) (others_stay : OthersStay) (coming_stays : ComingStays) (desks_leave : DesksLeave) (rows_leave : RowsLeave)
    (service : Service) (g : Ground) (t : Tabled) (client : tales.Client) (row : Client) (by : Seat → Seat) (is : Stands service g t) (seated : IsSeated g.tale client)
    (there : t.clients client.number ≡ Some row) (lives : HasLives (view_on g) client.number) (over : ClientNo → Bool)
    (as_before : (d : ClientNo) → is_client client.number d ≡ false → over d ≡ g.over d) (more : (d : ClientNo) → g.over d ≡ true → over d ≡ true)
    (ends_work : (work : Work) → row.desk.work ≡ Some work → over client.number ≡ true) where
  abbrev c : ClientNo
  c = client.number

  abbrev view : View
  view = view_on g

  abbrev told : Ground
  told = on g (tell (Left c) g.tale)

  abbrev later : Ground
  later = record told { over = over }

  abbrev seat : Seat
  seat = by row.desk.seat

  abbrev ss : List Session
  ss = row.desk.sessions

  abbrev other : Tabled
  other = client_put c (Some (left_row by row)) (parted_in ss t)

  lawful : IsLawful g.setup (Left c ∷ g.tale.story)
  lawful = (is.lawful, tt)

  stands : IsClient g client row
  stands =
      row_of g client row (t.clients c) there
      (each_of (IsAt g t) g client seated is.clients.each).row

  flip : (d : ClientNo) → nat_eq c.0 d.0 ≡ false → is_client d c ≡ false
  flip d apart = flip_eq c.0 d.0 apart

  -- Its sessions.

  session_found : (s : Session) → find (is_in s.hostgroup) ss ≡ Some s → session_of row.desk s.hostgroup ≡ s
  session_found s found = ap (λ (x : Option Session). unwrap_or x (first_session s.hostgroup row.desk.lefts)) found

  not_kept : (at : LinkId) → kept_at at ss ≡ None → (h : Hostgroup) → (session_of row.desk h).home ≡ Some at → ⊥
  not_kept at none h home = found_by (find (is_in h) ss) refl home where
    found_by : (x : Option Session) → find (is_in h) ss ≡ x → (unwrap_or x (first_session h row.desk.lefts)).home ≡ Some at → ⊥
    found_by None no_row none_home = none-some at none_home
    found_by (Some s) some at_home = none_kept_at at h ss s none some at_home

  -- the link that keeps one of them carries it
  record Keeper (at : LinkId) (kept : LeftSession) : Type 0 where
    n : SessionName
    of : n.client ≡ c
    server : Server
    home : IsHome t at n server
    known : IsKept view n kept

  keeper : (at : LinkId) (kept : LeftSession) → kept_at at ss ≡ Some kept → Keeper at kept
  keeper at kept some =
      let one = kept_so at ss kept stands.desk.sessions.distinct some in
      let h = one.s.hostgroup in
      let same = session_found one.s one.found in
      let carried = is.homes.carried c row h at there (ap (λ (s : Session). s.home) same ∙ one.home) in
      let at_desk = stands.desk.sessions.each h in
      record {
        n = name_at c h (session_of row.desk h).life;
        of = refl;
        server = carried.0;
        home = carried.1;
        known = record {
          pin = ap (λ (x : Held). x.pin) at_desk.held ∙ ap (λ (s : Session). s.pin) same ∙ ap (λ (k : LeftSession). k.pin) (sym one.is);
          id = ap (λ (x : Held). x.id) at_desk.held ∙ ap (λ (s : Session). s.id) same ∙ ap (λ (k : LeftSession). k.id) (sym one.is);
          lasting = at_desk.lasting ∙ ap (λ (s : Session). s.lasting) same ∙ ap (λ (k : LeftSession). k.lasting) (sym one.is);
        };
      }

  links_is : (at : LinkId) → other.links at ≡ option_map (with_kept (kept_at at ss)) (t.links at)
  links_is at = refl

  -- none of them is on a link that keeps nothing
  carries_none : (at : LinkId) (server : Server) (n : SessionName) → kept_at at ss ≡ None → t.links at ≡ Some server → name_in server.row.link.state.carries ≡ Some n
      → server.row.left ≡ None → server.row.lost ≡ false → n.client ≡ c → ⊥
  carries_none at server n none here carries mine kept of =
      let home = is.homes.home at server n here carries mine kept in
      let same : home.0 ≡ row = some_is home.0 row (sym home.1 ∙ ap t.clients of ∙ there) in
      not_kept at none n.hostgroup (ap (λ (r : Client). (session_of r.desk n.hostgroup).home) (sym same) ∙ home.2)

  -- Other clients.

  clients_is : (d : ClientNo) → nat_eq c.0 d.0 ≡ false → other.clients d ≡ t.clients d
  clients_is d apart = ap (λ (b : Bool). if b then Some (left_row by row) else (parted_in ss t).clients d) apart

  itself_is : (d : ClientNo) → nat_eq c.0 d.0 ≡ true → other.clients d ≡ Some (left_row by row)
  itself_is d same = ap (λ (b : Bool). if b then Some (left_row by row) else (parted_in ss t).clients d) same

  there_then : (d : ClientNo) → is_some (other.clients d) ≡ is_some (t.clients d)
  there_then d = at (nat_eq c.0 d.0) refl where
    at : (b : Bool) → nat_eq c.0 d.0 ≡ b → is_some (other.clients d) ≡ is_some (t.clients d)
    at true same = ap is_some (itself_is d same) ∙ sym (ap is_some (ap t.clients (sym (client_of c d same)) ∙ there))
    at false apart = ap is_some (clients_is d apart)

  module _ (now : IsClient later client (left_row by row))
      (keeps : is_ended seat.phase ≡ false → KeepsPrepared row.desk.seat seat) where
    rows_then : (one : tales.Client) → IsSeated g.tale one → IsClientOr g one (t.clients one.number) → IsClientOr later one (other.clients one.number)
    rows_then one one_seated was = at (nat_eq c.0 one.number.0) refl where
      at : (b : Bool) → nat_eq c.0 one.number.0 ≡ b → IsClientOr later one (other.clients one.number)
      at false apart =
          subst (λ (x : Option Client). IsClientOr later one x) (sym (clients_is one.number apart))
          (client_over told over one (as_before one.number apart) (t.clients one.number) (others_stay g one (t.clients one.number) (Left c) was (flip one.number apart)))
      at true same =
          let number : c ≡ one.number = client_of c one.number same in
          let lists : client ∷ [] ≡ one ∷ [] = sym seated ∙ ap (λ (d : ClientNo). seats g.tale d) number ∙ one_seated in
          let is_one : client ≡ one = cc in
          subst (λ (x : Option Client). IsClientOr later one x) (sym (itself_is one.number same)) (subst (λ (k : tales.Client). IsClient later k (left_row by row)) is_one now)

    -- Rows of links.

    glanced : (d : ClientNo) → nat_eq c.0 d.0 ≡ false → IsGlanced t other d
    glanced d apart = ap (option_map glance) (clients_is d apart)

    not_in_work : (d : ClientNo) (ordinal : ℕ) → nat_eq c.0 d.0 ≡ true → IsNotInWork other d ordinal
    not_in_work d ordinal same r work here in_work =
        let one : left_row by row ≡ r = some_is (left_row by row) r (sym (itself_is d same) ∙ here) in
        absurd (none-some work (ap (λ (x : Client). x.desk.work) one ∙ in_work))

    keeps_for : (purpose : Purpose) → KeepsNextFor t other purpose
    keeps_for (purposes.Statement n ordinal key) = at (nat_eq c.0 n.client.0) refl where
      at : (b : Bool) → nat_eq c.0 n.client.0 ≡ b → IsGlanced t other n.client ⊎ IsNotInWork other n.client ordinal
      at false apart = inl (glanced n.client apart)
      at true same = inr (not_in_work n.client ordinal same)
    keeps_for (purposes.Prep n ordinal key) = tt
    keeps_for (purposes.Sync n) = tt
    keeps_for purposes.Own = tt
    keeps_for (purposes.End n) = tt
    keeps_for (purposes.Capture n) = tt

    keeps_next : (next : Option Begins) → KeepsNext t other next
    keeps_next None = tt
    keeps_next (Some (begins.Asks asking)) = keeps_for asking.purpose
    keeps_next (Some (begins.Closes number)) = tt
    keeps_next (Some (begins.Resets number)) = tt
    keeps_next (Some begins.Quits) = tt

    keeps_row : (at : LinkId) → kept_at at ss ≡ None → (found : Option Server) → t.links at ≡ found → KeepsOr t other found
    keeps_row at none None here = tt
    keeps_row at none (Some server) here = record {
      next = keeps_next server.row.link.next;
      there = λ sound kept mine d stage. by_client kept mine d stage (nat_eq c.0 d.0) refl;
    } where
      by_client : server.row.lost ≡ false → server.row.left ≡ None → (d : ClientNo) → client_at server.row.link.state.stage ≡ Some d → (b : Bool) → nat_eq c.0 d.0 ≡ b
          → IsGlanced t other d
      by_client kept mine d stage false apart = glanced d apart
      by_client kept mine d stage true same =
          let was = server_there service g t at server is here in
          let named = stated_at server.row.link.state.stage server.row.link.state.carries d stage (own_by g at server.row (g.tale.wires at).entered was.row.is) in
          absurd (carries_none at server named.0 none here named.1 mine kept (named.2 ∙ sym (client_of c d same)))

    spares : (at : LinkId) → kept_at at ss ≡ None → (found : Option Server) → t.links at ≡ found → SparesRowOr view (Left c) found
    spares at none None here = tt
    spares at none (Some server) here =
        record { session = λ kept m carries. by_left m kept carries server.row.left refl; next = spares_next c server.row.link.next } where
          away : (m : SessionName) → server.row.lost ≡ false → name_in server.row.link.state.carries ≡ Some m → server.row.left ≡ None → (b : Bool) → is_client m.client c ≡ b
              → is_client m.client c ≡ false
          away m kept carries mine false apart = apart
          away m kept carries mine true same = absurd (carries_none at server m none here carries mine kept (client_of m.client c same))

          by_left : (m : SessionName) → server.row.lost ≡ false → name_in server.row.link.state.carries ≡ Some m → (left : Option LeftSession) → server.row.left ≡ left
              → IsSpared view (Left c) m left
          by_left m kept carries None mine = away m kept carries mine (is_client m.client c) refl
          by_left m kept carries (Some left) mine = tt

    next_for : (server : Server) (kept : LeftSession) (link : Link) (asking : Asking) (purpose : Purpose) → IsNextFor purpose g other server.row link asking
        → IsNextFor purpose later other (rows.left_by kept server.row) link asking
    next_for server kept link asking (purposes.Statement n ordinal key) at = record {
      said = at.said;
      first = at.first;
      asked = at.asked;
      number = at.number;
      taken_up = taken_after g (Left c ∷ g.tale.story) g.tale.moment over n ordinal at.taken_up;
    }
    next_for server kept link asking (purposes.Prep n ordinal key) at = record {
      said = at.said;
      told = at.told;
      taken_up = taken_after g (Left c ∷ g.tale.story) g.tale.moment over n ordinal at.taken_up;
    }
    next_for server kept link asking (purposes.Sync n) at = record { command = at.command; said = at.said }
    next_for server kept link asking purposes.Own at = record { command = at.command; said = at.said }
    next_for server kept link asking (purposes.End n) at = at
    next_for server kept link asking (purposes.Capture n) at = at

    next_then : (server : Server) (kept : LeftSession) (link : Link) (next : Option Begins) → IsNextOf next g other server.row link
        → IsNextOf next later other (rows.left_by kept server.row) link
    next_then server kept link None at = at
    next_then server kept link (Some (begins.Asks asking)) at = (at.0, next_for server kept link asking asking.purpose at.1)
    next_then server kept link (Some (begins.Closes number)) at = at
    next_then server kept link (Some (begins.Resets number)) at = at
    next_then server kept link (Some begins.Quits) at = at

    -- what stands there is its client's last message

    last_in : (work : Work) → row.desk.work ≡ Some work → (ended : Bool) → IsPhase ended g client row → work.ordinal ≡ client.taken
    last_in work in_work true was = absurd (none-some work (sym was.idle ∙ in_work))
    last_in work in_work false was =
        (let working : IsWorking g client row work = subst (λ (w : Option Work). IsWorkingOr g client row w) in_work was.working in working.last)

    parted_for : (at : LinkId) (kept : LeftSession) (k : Keeper at kept) (asking : Asking) (purpose : Purpose) → IsReplyingFor purpose g t at k.server.row asking
        → IsFor purpose k.server.row.link.state.carries → IsPartedFor purpose later
    parted_for at kept k asking (purposes.Statement m ordinal key) is_there for =
        let name : m ≡ k.n = some_is m k.n (sym (for m refl) ∙ k.home.carries) in
        let of : m.client ≡ c = ap (λ (x : SessionName). x.client) name ∙ k.of in
        let same : is_there.client ≡ row = some_is is_there.client row (sym is_there.there ∙ ap t.clients of ∙ there) in
        let in_work : row.desk.work ≡ Some is_there.work = ap (λ (x : Client). x.desk.work) (sym same) ∙ is_there.in_work in
        let last : is_there.work.ordinal ≡ client.taken = last_in is_there.work in_work (is_ended row.desk.seat.phase) stands.phase in (
          ap over of ∙ ends_work is_there.work in_work,
          record { client = client; seated = seated; number = sym of; by_now = omega (arith, last, is_there.last) },
        )
    parted_for at kept k asking (purposes.Prep m ordinal key) is_there for = tt
    parted_for at kept k asking (purposes.Sync m) is_there for = tt
    parted_for at kept k asking purposes.Own is_there for = tt
    parted_for at kept k asking (purposes.End m) is_there for = tt
    parted_for at kept k asking (purposes.Capture m) is_there for = tt

    parted_now : (at : LinkId) {kept : LeftSession} (k : Keeper at kept) (stage : Stage) → IsReplyingAt stage g t at k.server.row
        → IsOwn stage k.server.row.link.state.carries → IsPartedAt stage later
    parted_now at k Quiet is_there own = tt
    parted_now at k (Asked asking) is_there own = parted_for at _ k asking asking.purpose is_there own
    parted_now at k (Answered asking) is_there own = parted_for at _ k asking asking.purpose is_there own

    kept_then : (at : LinkId) (kept : LeftSession) (k : Keeper at kept) → IsServer later other at (rows.left_by kept k.server.row)
    kept_then at kept k =
        let r = k.server.row in
        let was = server_there service g t at k.server is k.home.there in
        let serves = carrier_serves g.setup g.codes g.plan g.tale at r k.n k.home.carries was.row in
        record {
          row = rows_leave g.setup g.codes g.plan g.tale at r c k.n kept serves.entered k.home.carries k.of k.home.present k.known was.row;
          user = was.user;
          found_rows = was.found_rows;
          lent = λ whole mine unstated. absurd (none-some kept (sym mine));
          parted = λ sound whole some. parted_now at k r.link.state.stage (was.replying sound whole k.home.present) serves.own;
          standing = standing_at later at (stand_so g.setup (Left c ∷ g.tale.story) lawful);
          next = next_then k.server kept (link_in g.setup g.tale at) r.link.next
              (next_kept g t other at r (link_in g.setup g.tale at) r.link.next (keeps_next r.link.next) was.next);
          replying = λ sound whole mine. absurd (none-some kept (sym mine));
        }

    server_by : (at : LinkId) (server : Server) (kept : LeftSession) → IsServer later other at (rows.left_by kept server.row) → (b : Bool) → IsServerBy b g t at (Some server)
        → IsServerBy b later other at (Some (parted_row kept server))
    server_by at server kept then_it true was = then_it
    server_by at server kept then_it false was = absurd (none-some server (sym was))

    servers_then : (at : LinkId) → IsServerOr later other at (other.links at)
    servers_then at =
        subst (λ (x : Option Server). IsServerOr later other at x) (sym (links_is at)) (by_kept (kept_at at ss) refl) where
          same_server : (x : Option Server) → option_map (with_kept None) x ≡ x
          same_server None = refl
          same_server (Some server) = refl

          by_kept : (x : Option LeftSession) → kept_at at ss ≡ x → IsServerOr later other at (option_map (with_kept (kept_at at ss)) (t.links at))
          by_kept None none =
              subst (λ (x : Option Server). IsServerOr later other at x)
              (sym (ap (λ (k : Option LeftSession). option_map (with_kept k) (t.links at)) none ∙ same_server (t.links at)))
              (any_then told lawful g.tale.moment over more other at (t.links at)
              (any_stays links_stay untouched g other at (Left c) (t.links at)
              (any_kept g t other at (t.links at) (is.servers at) (keeps_row at none (t.links at) refl)) (λ k named. absurd (none-some k named))
              (spares at none (t.links at) refl) lawful))
          by_kept (Some kept) some =
              let k = keeper at kept some in
              subst (λ (x : Option Server). IsServerOr later other at x)
              (sym (ap (λ (z : Option LeftSession). option_map (with_kept z) (t.links at)) some ∙ ap (option_map (parted_row kept)) k.home.there))
              (server_by at k.server kept (kept_then at kept k) (is_to_server g.tale at)
              (subst (λ (x : Option Server). IsServerOr g t at x) k.home.there (is.servers at)))

    -- Homes.

    homeless : (h : Hostgroup) → (session_of (left_row by row).desk h).home ≡ None
    homeless h =
        let at = stands.desk.sessions.each h in
        let life : (view_on later).lives c h ≡ suc (view.lives c h) =
        ap (λ (b : Bool). if b then suc (view.lives c h) else view.lives c h) (same_number c.0) in
        let above : (session_of row.desk h).life < suc (view.lives c h) = omega (arith, at.life) in
        home_of g.setup.reads (view_on later) c (left_row by row).desk h now.desk
        ∙ ap (λ (n : ℕ). (view.held (name_at c h n)).home) life
        ∙ ap (λ (x : Held). x.home) (at.unborn (suc (view.lives c h)) above).held

    unkept : (at : LinkId) (server : Server) (n : SessionName) → IsHome t at n server → is_client c n.client ≡ false → kept_at at ss ≡ None
    unkept at server n home apart = by_kept (kept_at at ss) refl where
      by_kept : (x : Option LeftSession) → kept_at at ss ≡ x → kept_at at ss ≡ None
      by_kept None none = none
      by_kept (Some kept) some =
          let k = keeper at kept some in
          let same : k.server ≡ server = some_is k.server server (sym k.home.there ∙ home.there) in
          let name : k.n ≡ n = some_is k.n n (sym k.home.carries ∙ ap (λ (s : Server). name_in s.row.link.state.carries) same ∙ home.carries) in
          let one : n.client ≡ c = ap (λ (m : SessionName). m.client) (sym name) ∙ k.of in
          absurd (true≢false (sym (ap (λ (d : ClientNo). is_client c d) one ∙ same_number c.0) ∙ apart))

    same_link : (at : LinkId) → kept_at at ss ≡ None → other.links at ≡ t.links at
    same_link at none = links_is at ∙ ap (λ (k : Option LeftSession). option_map (with_kept k) (t.links at)) none ∙ id_map (t.links at) where
      id_map : (x : Option Server) → option_map (with_kept None) x ≡ x
      id_map None = refl
      id_map (Some server) = refl

    homes_then : AreHomes later other
    homes_then = record {
      carried = λ d r h at here home. carried_by d r h at here home (nat_eq c.0 d.0) refl;
      home = λ at server n here carries mine kept. home_by at server n here carries mine kept (kept_at at ss) refl;
    } where
      carried_by : (d : ClientNo) (r : Client) (h : Hostgroup) (at : LinkId) → other.clients d ≡ Some r → (session_of r.desk h).home ≡ Some at → (b : Bool) → nat_eq c.0 d.0 ≡ b
          → (server : Server) × IsHome other at (record { client = d; hostgroup = h; life = (session_of r.desk h).life }) server
      carried_by d r h at here home true same =
          let one : left_row by row ≡ r = some_is (left_row by row) r (sym (itself_is d same) ∙ here) in
          absurd (none-some at (sym (homeless h) ∙ ap (λ (x : Client). (session_of x.desk h).home) one ∙ home))
      carried_by d r h at here home false apart =
          let carried = is.homes.carried d r h at (sym (clients_is d apart) ∙ here) home in (
            carried.0,
            record {
              there = same_link at (unkept at carried.0 (record { client = d; hostgroup = h; life = (session_of r.desk h).life }) carried.1 apart) ∙ carried.1.there;
              carries = carried.1.carries;
              present = carried.1.present;
              whole = carried.1.whole;
            },
          )

      home_by : (at : LinkId) (server : Server) (n : SessionName) → other.links at ≡ Some server → name_in server.row.link.state.carries ≡ Some n → server.row.left ≡ None
          → server.row.lost ≡ false → (x : Option LeftSession) → kept_at at ss ≡ x
          → (r : Client) × (other.clients n.client ≡ Some r) × ((session_of r.desk n.hostgroup).home ≡ Some at) × ((session_of r.desk n.hostgroup).life ≡ n.life)
      home_by at server n here carries mine kept (Some k) some =
          let keeps = keeper at k some in
          let now_there : Some (parted_row k keeps.server) ≡ Some server =
          sym (links_is at ∙ ap (λ (z : Option LeftSession). option_map (with_kept z) (t.links at)) some ∙ ap (option_map (parted_row k)) keeps.home.there) ∙ here in
          let one : parted_row k keeps.server ≡ server = some_is (parted_row k keeps.server) server now_there in
          absurd (none-some k (sym mine ∙ ap (λ (s : Server). s.row.left) (sym one)))
      home_by at server n here carries mine kept None none = by_client (nat_eq c.0 n.client.0) refl where
        was_there : t.links at ≡ Some server
        was_there = sym (same_link at none) ∙ here

        by_client : (b : Bool) → nat_eq c.0 n.client.0 ≡ b
            → (r : Client) × (other.clients n.client ≡ Some r) × ((session_of r.desk n.hostgroup).home ≡ Some at) × ((session_of r.desk n.hostgroup).life ≡ n.life)
        by_client true same = absurd (carries_none at server n none was_there carries mine kept (sym (client_of c n.client same)))
        by_client false apart =
            let old = is.homes.home at server n was_there carries mine kept in
            (old.0, clients_is n.client apart ∙ old.1, old.2, old.3)

    row_before : (d : ClientNo) (r : Client) → other.clients d ≡ Some r → is_ended r.desk.seat.phase ≡ false → (b : Bool) → nat_eq c.0 d.0 ≡ b → RowOf t d r
    row_before d r here going true same =
        let one : left_row by row ≡ r = some_is (left_row by row) r (sym (itself_is d same) ∙ here) in
        let kept = keeps (ap (λ (x : Client). is_ended x.desk.seat.phase) one ∙ going) in
        row_kept t d row r (ap t.clients (sym (client_of c d same)) ∙ there)
        (subst (λ (x : Client). KeepsPrepared row.desk.seat x.desk.seat) one kept)
    row_before d r here going false apart = row_itself t d r (sym (clients_is d apart) ∙ here) going

    left_by : Stands service later other
    left_by = stands_moved g (Left c ∷ g.tale.story) g.tale.moment over t other service is (record {
      rows = rows_then;
      there = there_then;
      numbers = λ at. refl;
      servers = servers_then;
      homes = homes_then;
      lawful = lawful;
      prepared = are_prepared g later.tale over g.fresh t other is.clients (λ m. refl) (owns_stay {g = g} {tale = later.tale} refl) is.prepared (λ one is_seated. is_seated)
          (λ d r here going. row_before d r here going (nat_eq c.0 d.0) refl);
      duly = is.duly;
    })

    pub left_then : Stands service later (left_in c by t)
    left_then =
        subst (λ (x : Tabled). Stands service later x)
        (sym (ap (λ (x : Option Client). option_map_or (λ (r : Client). client_put c (Some (left_row by r)) (parted_in r.desk.sessions t)) x t) there)) left_by

  -- its own row

  module _ (leaving : IsLeaving told client seat) where
    desk_then : IsDesk g.setup.reads (view_on later) c (left_row by row).desk
    desk_then = desks_leave g.setup view c row.desk stands.desk seat lives (leaving.who.number ∙ sym stands.desk.number) leaving.placed

    row_then : IsPhase (is_ended seat.phase) later client (left_row by row) → IsClient later client (left_row by row)
    row_then at = record {
      who = leaving.who;
      heard = leaving.heard;
      owed = owing_alike told later client seat.phase (g.fresh c) seat refl (λ ended. refl) leaving.owed;
      desk = desk_then;
      coming = coming_stays g.setup view c (suc client.taken) (Left c) stands.coming tt;
      phase = at;
    }

    going_was : (at : Phase) (login : Login) → at ≡ phase.Serving login → IsPhase (is_ended at) g client row → IsGoing g client row
    going_was at login serving was = subst (λ (x : Phase). IsPhase (is_ended x) g client row) serving was

    pub anew_then : IsAnew row.desk.seat seat → over c ≡ g.over c → Stands service later (left_in c by t)
    anew_then anew same =
        let was = going_was row.desk.seat.phase anew.login anew.served stands.phase in
        let going : IsGoing later client (left_row by row) = record {
          going = same ∙ was.going;
          earlier = was.earlier;
          answered = anew.answered ∙ sym anew.idle ∙ was.answered;
          went = was.went;
          busy = sym (ap not anew.answered);
          working = anew.coming;
          unmoved = λ logging. absurd (not_both anew.login (sym anew.serves ∙ logging));
          account = λ login account. was.account login (ap account_in (anew.served ∙ sym anew.serves) ∙ account);
          collation = λ login account.
              was.collation login (ap account_in (anew.served ∙ sym anew.serves) ∙ account) ∙ ap collation_settings (sym anew.collation);
        } in
        left_then (row_then (subst (λ (x : Phase). IsPhase (is_ended x) later client (left_row by row)) (sym anew.serves) going))
        (λ on. record { going = ap is_ended anew.served; statements = anew.statements; answered = anew.answered ∙ sym anew.idle }) where
          not_both : (login : Login) → phase.Serving login ≡ phase.LoggingIn → ⊥
          not_both login both = cc

    pub ends_then : IsEnding told client seat → over c ≡ true → Stands service later (left_in c by t)
    ends_then ends ended =
        left_then (row_then (subst (λ (b : Bool). IsPhase b later client (left_row by row)) (sym ends.ended) (record {
          over = ended;
          idle = refl;
          told = ends.told;
          homeless = λ h.
              let at = stands.desk.sessions.each h in
              let life : (view_on later).lives c h ≡ suc (view.lives c h) =
              ap (λ (b : Bool). if b then suc (view.lives c h) else view.lives c h) (same_number c.0) in
              let above : (session_of row.desk h).life < suc (view.lives c h) = omega (arith, at.life) in
              home_of g.setup.reads (view_on later) c (left_row by row).desk h desk_then
              ∙ ap (λ (n : ℕ). (view.held (name_at c h n)).home) life
              ∙ ap (λ (x : Held). x.home) (at.unborn (suc (view.lives c h)) above).held;
        }))) (λ on. absurd (true≢false (sym ends.ended ∙ on)))

or_true : (b : Bool) → b || true ≡ true
or_true true = refl
or_true false = refl

-- one that is served and answered has nothing in work
no_work : {A : Type 0} (g : Ground) (client : tales.Client) (row : Client) (work : Work) → row.desk.work ≡ Some work → row.desk.seat.answered ≡ true
    → {login : Login} → row.desk.seat.phase ≡ phase.Serving login → IsPhase (is_ended row.desk.seat.phase) g client row → A
no_work g client row work in_work idle served was = by (is_ended row.desk.seat.phase) was where
  by : {A : Type 0} (ended : Bool) → IsPhase ended g client row → A
  by true at = absurd (none-some work (sym at.idle ∙ in_work))
  by false at = absurd (true≢false (ap is_some (sym in_work) ∙ at.busy ∙ ap not idle))

pub anew_so : LinksStay → SessionsStay → OthersStay → ComingStays → DesksLeave → RowsLeave → (service : Service) (g : Ground) (t : Tabled) (client : tales.Client)
    (row : Client) (by : Seat → Seat) → Stands service g t → IsSeated g.tale client → t.clients client.number ≡ Some row → HasLives (view_on g) client.number
    → IsLeaving (on g (tell (Left client.number) g.tale)) client (by row.desk.seat) → IsAnew row.desk.seat (by row.desk.seat)
    → Stands service (on g (tell (Left client.number) g.tale)) (left_in client.number by t)
anew_so links sessions others coming desks_leave rows_leave service g t client row by is seated there lives leaving anew =
    anew_then links sessions others coming desks_leave rows_leave service g t client row by is seated there lives g.over (λ d apart. refl) (λ d ended. ended)
    (λ work in_work. no_work g client row work in_work anew.idle anew.served
    (row_of g client row (t.clients client.number) there (each_of (IsAt g t) g client seated is.clients.each).row).phase) leaving anew refl

pub ends_so : LinksStay → SessionsStay → OthersStay → ComingStays → DesksLeave → RowsLeave → (service : Service) (g : Ground) (t : Tabled) (client : tales.Client)
    (row : Client) (by : Seat → Seat) → Stands service g t → IsSeated g.tale client → t.clients client.number ≡ Some row → HasLives (view_on g) client.number
    → IsLeaving (on g (tell (Left client.number) g.tale)) client (by row.desk.seat) → IsEnding (on g (tell (Left client.number) g.tale)) client (by row.desk.seat)
    → Stands service (ending client.number (on g (tell (Left client.number) g.tale))) (left_in client.number by t)
ends_so links sessions others coming desks_leave rows_leave service g t client row by is seated there lives leaving ends =
    let over : ClientNo → Bool = λ other. is_client client.number other || g.over other in
    ends_then links sessions others coming desks_leave rows_leave service g t client row by is seated there lives over
    (λ d apart. ap (λ (b : Bool). b || g.over d) apart) (λ d ended. ap (λ (b : Bool). is_client client.number d || b) ended ∙ or_true (is_client client.number d))
    (λ work in_work. ap (λ (b : Bool). b || g.over client.number) (same_number client.number.0)) leaving ends (ap (λ (b : Bool). b || g.over client.number) (same_number client.number.0))
