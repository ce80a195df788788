-- A link is given back.
use Rattle.std.specs.Prelude.{◌≡◌, ◌⊎◌, ◌<◌, ℕ, suc, Bool, true, false, not, ◌&&◌, nat_eq, if◌then◌else◌, is_some, ◌∷◌, Option, Some, None}
use Rattle.std.specs.Option.{option_map, option_map_or}
use Rattle.std.proofs.Common.{refl, sym, ap, ◌∙◌, subst, inl, inr}
use Rattle.std.proofs.lemmas.Bool.{true≢false, false≢true}
use Rattle.std.proofs.lemmas.Option.{none-some}
use Rattle.mx_base.specs.declared.names.Hostgroup.{Hostgroup}
use Rattle.client_session.specs.Setups.{Setup as Service}
use Rattle.private_model.proofs.Maps.{client_of, link_of, name_of, same_link, same_name}
use Rattle.private_model.specs.Lawful.{IsLawful, MayFree}
use Rattle.private_model.specs.Names.{ClientNo, LinkId, SessionName}
use Rattle.private_model.specs.Story as story
use Rattle.private_model.specs.Story.{Freed, Happening, is_client, is_link_id, is_name, put}
use Rattle.private_model.specs.View.{Held, Link, Setup, View, freed, present, session_in, view_step}
use Rattle.log_story.specs.Owed.{name_of as message_name}
use Rattle.log_story.specs.Plan.{Plan}
use Rattle.log_story.specs.Servers.{freed_if_done, is_done}
use Rattle.log_story.specs.Tale as tales
use Rattle.log_story.specs.Tale.{Tale, is_to_server, link_in, tell, view_of}
use Rattle.link_laws.specs.Stands.{Codes}
use Rattle.link_state.specs.Dones.{is_quiet}
use Rattle.link_state.specs.declared.asking.Asking.{Asking}
use Rattle.link_state.specs.declared.asking.Purpose.{Purpose}
use Rattle.link_state.specs.declared.asking.Purpose.TheVariants as purposes
use Rattle.link_state.specs.declared.state.Stage.{Stage}
use Rattle.link_state.specs.declared.state.Stage.TheVariants.{Quiet, Asked, Answered}
use Rattle.lent_link.specs.declared.link.Begins.{Begins}
use Rattle.lent_link.specs.declared.link.Begins.TheVariants as begins
use Rattle.served_link.specs.Rows as rows
use Rattle.served_link.specs.declared.row.Row.{Row}
use Rattle.served_link.specs.declared.row.LeftSession.{LeftSession}
use Rattle.client_seat.specs.Seats.{is_ended}
use Rattle.client_desk.specs.Desks as desks
use Rattle.client_desk.specs.Desks.{session_of}
use Rattle.client_desk.specs.declared.desk.Desk.{Desk}
use Rattle.client_desk.specs.declared.work.Work.{Work}
use Rattle.desk_laws.specs.Spares.{Spares, SparesToCome, named, touches}
use Rattle.desk_laws.specs.Stands.{AreToCome, IsDesk, IsWork, IsWorkOr, name_at}
use Rattle.row_laws.specs.Apart.{IsSpared}
use Rattle.row_laws.specs.Begins.{IsReadied}
use Rattle.row_laws.specs.Rows.{IsRowIn}
use Rattle.row_laws.specs.Whose.{name_in}
use Rattle.step_laws.specs.Seats.{IsSeated}
use Rattle.core_tables.specs.Parting.{changed_for, freed_in, freed_of, freed_row, freed_server, is_done_for, is_done_in, present_in}
use Rattle.core_tables.specs.Tables.{Tabled}
use Rattle.core_tables.specs.declared.client.Client.{Client}
use Rattle.core_tables.specs.declared.server.Server.{Server}
use Rattle.core_stands.specs.Clients.{IsClient, IsClientOr, IsForgotten, IsPhase, IsWorking, IsWorkingOr}
use Rattle.core_stands.specs.Grounds.{Ground, on, view_on}
use Rattle.core_stands.specs.Servers.{IsNextFor, IsNextOf, IsReplyingAt, IsServer, IsServerBy, IsServerOr, keyed_text}
use Rattle.core_stands.specs.Stands.{IsAt, Stands}
use Rattle.core_laws.proofs.OfParting.Named.{row_carries}
use Rattle.core_laws.proofs.OfParting.Forgetting.{carrier_serves, server_there}
use Rattle.core_laws.proofs.OfParting.Grounds.{taken_after}
use Rattle.core_laws.proofs.OfParting.Homes.{homes_so}
use Rattle.core_laws.proofs.OfPrepared.Rows.{are_prepared, owns_stay, row_seated, seat_changed}
use Rattle.core_laws.proofs.OfParting.Moving.{HomesBut, homes_but, known_after, mapped, some_of, stands_moved}
use Rattle.core_laws.proofs.OfParting.Reading.{LinksStay, SessionsStay, any_kept, any_stays, server_kept, some_is}
use Rattle.core_laws.proofs.OfParting.Redesking.{flip_eq, home_of, life_of, name_path, past_so, present_so, row_redesked}
use Rattle.core_laws.proofs.OfParting.Same.{each_of}
use Rattle.core_laws.proofs.OfParting.Testing.{test_so}
use Rattle.core_laws.proofs.OfParting.Standing.{said_at, stand_so, standing_at}
use Rattle.core_laws.specs.parting.Frames.{IsGlanced, Keeps, KeepsNext, KeepsNextFor, KeepsOr, SparesNext, SparesNextFor, SparesRowOr, glance}

-- The laws that are composed.

abbrev pub OthersStay : Type 0
OthersStay = (g : Ground) (client : tales.Client) (row : Option Client) (e : Happening) → IsClientOr g client row → touches (view_on g) e client.number ≡ false
    → IsClientOr (on g (tell e g.tale)) client row

abbrev pub PartedStays : Type 0
PartedStays = (setup : Setup) (view : View) (c : ClientNo) (desk : Desk) (e : Happening) (n : SessionName) → IsDesk setup.reads view c desk
    → named view e ≡ Some n → n.life < view.lives n.client n.hostgroup → Spares view desk e → IsDesk setup.reads (view_step setup view e) c desk

abbrev pub ComingStays : Type 0
ComingStays = (setup : Setup) (view : View) (c : ClientNo) (from : ℕ) (e : Happening) → AreToCome view c from → SparesToCome view c from e
    → AreToCome (view_step setup view e) c from

abbrev pub DesksFree : Type 0
DesksFree = (setup : Setup) (view : View) (c : ClientNo) (desk : Desk) → IsDesk setup.reads view c desk → (link : LinkId) (h : Hostgroup)
    → session_in (view.links link).carries ≡ Some (desks.name_of desk h) → IsDesk setup.reads (view_step setup view (Freed link)) c (desks.freed h desk)

abbrev pub RowsFree : Type 0
RowsFree = (setup : Setup) (codes : Codes) (plan : Plan) (tale : Tale) (l : LinkId) (row : Row) → (tale.wires l).entered ≡ true → is_quiet row.link.state.stage ≡ true
    → IsRowIn setup codes plan tale l row → IsRowIn setup codes plan (tell (Freed l) tale) l (rows.freed row)

-- Rows that change for one client keep what links read of them.

pub changed_glanced : (by : Hostgroup → Client → Client) → ((h : Hostgroup) (row : Client) → glance (by h row) ≡ glance row) → (n : Option SessionName) (c : ClientNo) (row : Option Client)
    → option_map glance (changed_for by n c row) ≡ option_map glance row
changed_glanced by same None c row = refl
changed_glanced by same (Some n) c row = at (nat_eq n.client.0 c.0) row where
  at : (b : Bool) (found : Option Client) → option_map glance (if b then option_map (by n.hostgroup) found else found) ≡ option_map glance found
  at true None = refl
  at true (Some row) = ap Some (same n.hostgroup row)
  at false found = refl

pub changed_there : (by : Hostgroup → Client → Client) (n : Option SessionName) (c : ClientNo) (row : Option Client) → is_some (changed_for by n c row) ≡ is_some row
changed_there by None c row = refl
changed_there by (Some n) c row = at (nat_eq n.client.0 c.0) row where
  at : (b : Bool) (found : Option Client) → is_some (if b then option_map (by n.hostgroup) found else found) ≡ is_some found
  at true None = refl
  at true (Some row) = refl
  at false found = refl

-- the row of another client, or of this one
pub record ChangedFrom (by : Hostgroup → Client → Client) (n : Option SessionName) (c : ClientNo) (found : Option Client) (row : Client) : Type 0 where
  pub old : Client
  pub there : found ≡ Some old
  pub how : (row ≡ old) ⊎ ((name : SessionName) × (n ≡ Some name) × (name.client ≡ c) × (row ≡ by name.hostgroup old))

pub changed_from : (by : Hostgroup → Client → Client) (n : Option SessionName) (c : ClientNo) (found : Option Client) (row : Client) → changed_for by n c found ≡ Some row
    → ChangedFrom by n c found row
changed_from by None c found row is = record { old = row; there = is; how = inl refl }
changed_from by (Some n) c found row is = at (nat_eq n.client.0 c.0) refl is where
  at : (b : Bool) → nat_eq n.client.0 c.0 ≡ b → (if b then option_map (by n.hostgroup) found else found) ≡ Some row → ChangedFrom by (Some n) c found row
  at false apart there = record { old = row; there = there; how = inl refl }
  at true same there =
      let old = mapped (by n.hostgroup) found row there in
      record { old = old.0; there = old.1; how = inr (n, refl, client_of n.client c same, sym old.2) }

pub glanced_row : (t other : Tabled) → ((c : ClientNo) → IsGlanced t other c) → (row : Row) → Keeps t other row
glanced_row t other same row = record { next = at row.link.next; there = λ sound kept mine c here. same c } where
  for : (purpose : Purpose) → KeepsNextFor t other purpose
  for (purposes.Statement n ordinal key) = inl (same n.client)
  for (purposes.Prep n ordinal key) = tt
  for (purposes.Sync n) = tt
  for purposes.Own = tt
  for (purposes.End n) = tt
  for (purposes.Capture n) = tt

  at : (next : Option Begins) → KeepsNext t other next
  at None = tt
  at (Some (begins.Asks asking)) = for asking.purpose
  at (Some (begins.Closes number)) = tt
  at (Some (begins.Resets number)) = tt
  at (Some begins.Quits) = tt

pub glanced_or : (t other : Tabled) → ((c : ClientNo) → IsGlanced t other c) → (row : Option Server) → KeepsOr t other row
glanced_or t other same None = tt
glanced_or t other same (Some server) = glanced_row t other same server.row

-- What is told of the view.

freed_held : (view : View) (l : LinkId) (n m : SessionName) → session_in (view.links l).carries ≡ Some n → (setup : Setup)
    → (view_step setup view (Freed l)).held m ≡ put is_name view.held n (record (view.held n) { home = None }) m
freed_held view l n m carried setup =
    ap (λ (x : Option SessionName). option_map_or (λ (k : SessionName). put is_name view.held k (record (view.held k) { home = None })) x view.held m) carried

-- a home is as before, or none
freed_home : (setup : Setup) (view : View) (l : LinkId) (n m : SessionName) → session_in (view.links l).carries ≡ Some n
    → ((view_step setup view (Freed l)).held m).home ≡ (if is_name m n then None else (view.held m).home)
freed_home setup view l n m carried = ap (λ (h : Held). h.home) (freed_held view l n m carried setup) ∙ by (is_name m n) where
  by : (b : Bool) → (if b then record (view.held n) { home = None } else view.held m).home ≡ (if b then None else (view.held m).home)
  by true = refl
  by false = refl

none_stays : (b : Bool) (home : Option LinkId) → home ≡ None → (if b then None else home) ≡ None
none_stays true home is = refl
none_stays false home is = is

was_home : (b : Bool) (home : Option LinkId) (l : LinkId) → (if b then None else home) ≡ Some l → (b ≡ false) × (home ≡ Some l)
was_home true home l is = absurd (none-some l is)
was_home false home l is = (refl, is)

spares_next : (l : LinkId) (next : Option Begins) → SparesNext next (Freed l)
spares_next l None = tt
spares_next l (Some (begins.Asks asking)) = by asking.purpose where
  by : (purpose : Purpose) → SparesNextFor purpose (Freed l)
  by (purposes.Statement n ordinal key) = tt
  by (purposes.Prep n ordinal key) = tt
  by (purposes.Sync n) = tt
  by purposes.Own = tt
  by (purposes.End n) = tt
  by (purposes.Capture n) = tt
spares_next l (Some (begins.Closes number)) = tt
spares_next l (Some (begins.Resets number)) = tt
spares_next l (Some begins.Quits) = tt

-- Whether it is done.

pub record IsDoneThere (t : Tabled) (l : LinkId) : Type 0 where
  pub server : Server
  pub there : t.links l ≡ Some server
  pub n : SessionName
  pub carries : name_in server.row.link.state.carries ≡ Some n
  pub whole : server.row.lost ≡ false
  pub quiet : is_quiet server.row.link.state.stage ≡ true

and_parts : (a b : Bool) → a && b ≡ true → (a ≡ true) × (b ≡ true)
and_parts true b is = (refl, is)
and_parts false b is = absurd (false≢true is)

not_true : (b : Bool) → not b ≡ true → b ≡ false
not_true true is = absurd (false≢true is)
not_true false is = refl

done_there : (t : Tabled) (l : LinkId) → is_done_in l t ≡ true → IsDoneThere t l
done_there t l is = by (t.links l) refl is where
  at : (server : Server) → t.links l ≡ Some server → (name : Option SessionName) → name_in server.row.link.state.carries ≡ name → is_done_for t server name ≡ true → IsDoneThere t l
  at server there None carries none = absurd (false≢true none)
  at server there (Some n) carries done =
      let parts = and_parts (not server.row.lost) _ done in
      let inside = and_parts _ _ parts.1 in
      let quiet = and_parts (is_quiet server.row.link.state.stage) _ inside.1 in
      record { server = server; there = there; n = n; carries = carries; whole = not_true server.row.lost parts.0; quiet = quiet.0 }

  by : (found : Option Server) → t.links l ≡ found → option_map_or (λ (server : Server). is_done_for t server (name_in server.row.link.state.carries)) found false ≡ true
      → IsDoneThere t l
  by None there none = absurd (false≢true none)
  by (Some server) there done = at server there (name_in server.row.link.state.carries) refl done

-- It is given back.

module _ (links_stay : LinksStay) (untouched : SessionsStay) (others_stay : OthersStay) (parted_stays : PartedStays) (coming_stays : ComingStays) (desks_free : DesksFree)
    (rows_free : RowsFree) (service : Service) (g : Ground) (t : Tabled) (l : LinkId) (is : Stands service g t) (done : IsDoneThere t l)
    (may : MayFree (view_on g) ((view_on g).links l)) where
  abbrev n : SessionName
  n = done.n

  abbrev view : View
  view = view_on g

  abbrev later : Ground
  later = on g (tell (Freed l) g.tale)

  abbrev other : Tabled
  other = freed_of l t

  carried : session_in (view.links l).carries ≡ Some n
  carried = row_carries g.setup g.codes g.plan g.tale l done.server.row (server_there service g t l done.server is done.there).row ∙ done.carries

  lawful : IsLawful g.setup (Freed l ∷ g.tale.story)
  lawful = (is.lawful, may)

  present_is : (present_in l t ≡ None) ⊎ (present_in l t ≡ Some n)
  present_is = by (present_in l t) refl where
    by : (p : Option SessionName) → present_in l t ≡ p → (present_in l t ≡ None) ⊎ (present_in l t ≡ Some n)
    by None at = inl at
    by (Some m) at =
        let there = present_so t l m at in
        let same : there.server ≡ done.server = some_is there.server done.server (sym there.there ∙ done.there) in
        let one : m ≡ n = some_is m n (sym there.carries ∙ ap (λ (s : Server). name_in s.row.link.state.carries) same ∙ done.carries) in
        inr (at ∙ ap Some one)

  -- what a client's homes are then
  home_then : (c : ClientNo) (desk : Desk) (h : Hostgroup) → IsDesk g.setup.reads (view_on later) c desk
      → (session_of desk h).home ≡ (if is_name (present view c h) n then None else (view.held (present view c h)).home)
  home_then c desk h at = home_of g.setup.reads (view_on later) c desk h at ∙ freed_home g.setup view l n (present view c h) carried

  homeless_then : (c : ClientNo) (old now : Desk) → IsDesk g.setup.reads view c old → IsDesk g.setup.reads (view_on later) c now
      → (h : Hostgroup) → (session_of old h).home ≡ None → (session_of now h).home ≡ None
  homeless_then c old now at behind h none =
      home_then c now h behind ∙ none_stays (is_name (present view c h) n) (view.held (present view c h)).home (sym (home_of g.setup.reads view c old h at) ∙ none)

  kept_home : (c : ClientNo) (old now : Desk) → IsDesk g.setup.reads view c old → IsDesk g.setup.reads (view_on later) c now
      → (h : Hostgroup) → is_name (present view c h) n ≡ false → (session_of now h).home ≡ (session_of old h).home
  kept_home c old now at behind h apart =
      home_then c now h behind ∙ ap (λ (b : Bool). if b then None else (view.held (present view c h)).home) apart ∙ sym (home_of g.setup.reads view c old h at)

  -- a sent statement isn't in work there
  sent_apart : (client : tales.Client) (row : Client) → IsClient g client row → (work : Work) → row.desk.work ≡ Some work → work.sent ≡ true
      → is_name (present view client.number work.hostgroup) n ≡ false
  sent_apart client row stands work in_work sent = by (is_name (present view client.number work.hostgroup) n) refl where
    working : (ended : Bool) → IsPhase ended g client row → IsWorking g client row work
    working true at = absurd (none-some work (sym at.idle ∙ in_work))
    working false at = subst (λ (w : Option Work). IsWorkingOr g client row w) in_work at.working

    by : (b : Bool) → is_name (present view client.number work.hostgroup) n ≡ b → is_name (present view client.number work.hostgroup) n ≡ false
    by false apart = apart
    by true same =
        let one : present view client.number work.hostgroup ≡ n = name_of (present view client.number work.hostgroup) n same in
        let home : (session_of row.desk work.hostgroup).home ≡ Some l =
        home_of g.setup.reads view client.number row.desk work.hostgroup stands.desk
        ∙ ap (λ (m : SessionName). (view.held m).home) one ∙ (homes_so g.setup g.tale.story is.lawful).home l n carried in
        let carrier : view.carriers (message_name client work.ordinal) ≡ Some l =
        sym ((working (is_ended row.desk.seat.phase) stands.phase).there sent) ∙ home in
        let open_work : IsWork g.setup.reads view client.number row.desk.seat.place work =
        subst (λ (w : Option Work). IsWorkOr g.setup.reads view client.number row.desk.seat.place w) in_work stands.desk.work in
        let said = (stand_so g.setup g.tale.story is.lawful).back (message_name client work.ordinal) l carrier open_work.unanswered in
        absurd (none-some (message_name client work.ordinal) (sym (ap said_at may.quiet) ∙ said))

  -- its client's row
  module _ (client : tales.Client) (number : client.number ≡ n.client) (row : Client) (there : t.clients client.number ≡ Some row) (stands : IsClient g client row) where
    coming_then : AreToCome (view_on later) client.number (suc client.taken)
    coming_then = coming_stays g.setup view client.number (suc client.taken) (Freed l) stands.coming tt

    there_n : t.clients n.client ≡ Some row
    there_n = ap t.clients (sym number) ∙ there

    row_past : present_in l t ≡ None → IsClient later client row
    row_past none =
        let desk = parted_stays g.setup view client.number row.desk (Freed l) n stands.desk carried (past_so service g t l n row client is carried none number there_n stands) tt in
        row_redesked g client (Freed l) (λ ordinal. refl) (λ ordinal. refl) refl row row.desk.sessions stands desk coming_then (λ work at sent. refl) (λ h none. none)

    row_present : present_in l t ≡ Some n → IsClient later client (freed_row n.hostgroup row)
    row_present at =
        let p = present_so t l n at in
        let home = is.homes.home l p.server n p.there p.carries p.mine p.whole in
        let same : home.0 ≡ row = some_is home.0 row (sym home.1 ∙ there_n) in
        let life : (session_of row.desk n.hostgroup).life ≡ n.life = ap (λ (r : Client). (session_of r.desk n.hostgroup).life) (sym same) ∙ home.3 in
        let name : n ≡ desks.name_of row.desk n.hostgroup =
        name_path n row.desk.seat.client.number (session_of row.desk n.hostgroup).life (stands.desk.number ∙ number) life in
        let desk = desks_free g.setup view client.number row.desk stands.desk l n.hostgroup (carried ∙ ap Some name) in
        row_redesked g client (Freed l) (λ ordinal. refl) (λ ordinal. refl) refl row (desks.freed n.hostgroup row.desk).sessions stands desk coming_then
        (λ work in_work sent. kept_home client.number row.desk (desks.freed n.hostgroup row.desk) stands.desk desk work.hostgroup (sent_apart client row stands work in_work sent))
        (homeless_then client.number row.desk (desks.freed n.hostgroup row.desk) stands.desk desk)

  forgotten_then : (client : tales.Client) → IsForgotten g client → IsForgotten later client
  forgotten_then client gone = record {
    over = gone.over;
    homeless = λ h. freed_home g.setup view l n (present view client.number h) carried
        ∙ none_stays (is_name (present view client.number h) n) (view.held (present view client.number h)).home (gone.homeless h);
  }

  changed_apart : (c : ClientNo) (found : Option Client) → nat_eq n.client.0 c.0 ≡ false → changed_for freed_row (present_in l t) c found ≡ found
  changed_apart c found apart = elim present_is [
    | inl none ↦ ap (λ (p : Option SessionName). changed_for freed_row p c found) none
    | inr here ↦ ap (λ (p : Option SessionName). changed_for freed_row p c found) here ∙ ap (λ (b : Bool). if b then option_map (freed_row n.hostgroup) found else found) apart
  ]

  rows_then : (client : tales.Client) → IsSeated g.tale client → IsClientOr g client (t.clients client.number) → IsClientOr later client (other.clients client.number)
  rows_then client seated was = by (nat_eq n.client.0 client.number.0) refl (t.clients client.number) refl was where
    flip : nat_eq n.client.0 client.number.0 ≡ false → is_client client.number n.client ≡ false
    flip apart = flip_eq n.client.0 client.number.0 apart

    itself : client.number ≡ n.client → nat_eq n.client.0 client.number.0 ≡ true → (found : Option Client) → t.clients client.number ≡ found → IsClientOr g client found
        → IsClientOr later client (changed_for freed_row (present_in l t) client.number found)
    itself number same None there gone =
        subst (λ (x : Option Client). IsClientOr later client x) (sym (none_changed (present_in l t))) (forgotten_then client gone) where
          none_changed : (p : Option SessionName) → changed_for freed_row p client.number None ≡ None
          none_changed None = refl
          none_changed (Some m) = at (nat_eq m.client.0 client.number.0) where
            at : (b : Bool) → (if b then option_map (freed_row m.hostgroup) None else None) ≡ None
            at true = refl
            at false = refl
    itself number same (Some row) there stands = elim present_is [
      | inl none ↦ subst (λ (p : Option SessionName). IsClientOr later client (changed_for freed_row p client.number (Some row))) (sym none)
          (row_past client number row there stands none)
      | inr here ↦ subst (λ (p : Option SessionName). IsClientOr later client (changed_for freed_row p client.number (Some row))) (sym here)
          (subst (λ (b : Bool). IsClientOr later client (if b then option_map (freed_row n.hostgroup) (Some row) else Some row)) (sym same)
          (row_present client number row there stands here))
    ]

    by : (b : Bool) → nat_eq n.client.0 client.number.0 ≡ b → (found : Option Client) → t.clients client.number ≡ found → IsClientOr g client found
        → IsClientOr later client (changed_for freed_row (present_in l t) client.number found)
    by true same found there stands = itself (sym (client_of n.client client.number same)) same found there stands
    by false apart found there stands =
        subst (λ (x : Option Client). IsClientOr later client x) (sym (changed_apart client.number found apart))
        (others_stay g client found (Freed l) stands
        (ap (λ (x : Option SessionName). option_map_or (λ (name : SessionName). is_client client.number name.client) x false) carried ∙ flip apart))

  -- rows of links

  glances : (c : ClientNo) → IsGlanced t other c
  glances c = changed_glanced freed_row (λ h row. refl) (present_in l t) c (t.clients c)

  readied_then : (asking : Asking) (question : story.Question) → IsReadied g.setup.reads g.codes done.server.row (view.links l) asking question
      → IsReadied g.setup.reads g.codes (rows.freed done.server.row) (freed (view.links l)) asking question
  readied_then asking question at = record { asks = at.asks; spelt_so = at.spelt_so; shared = at.shared; cell_so = at.cell_so }

  next_for : (asking : Asking) (purpose : Purpose) → IsNextFor purpose g other done.server.row (view.links l) asking
      → IsNextFor purpose later other (rows.freed done.server.row) (freed (view.links l)) asking
  next_for asking (purposes.Statement m ordinal key) at = record {
    said = λ due there same. readied_then asking (story.Statement m due) (at.said due there same);
    first = at.first;
    asked = at.asked;
    number = at.number;
    taken_up = taken_after g (Freed l ∷ g.tale.story) g.tale.moment g.over m ordinal at.taken_up;
  }
  next_for asking (purposes.Prep m ordinal key) at = record {
    said = λ due there same. readied_then asking (story.Prep m due.key (keyed_text g due)) (at.said due there same);
    told = at.told;
    taken_up = taken_after g (Freed l ∷ g.tale.story) g.tale.moment g.over m ordinal at.taken_up;
  }
  next_for asking (purposes.Sync m) at = record { command = at.command; said = readied_then asking (story.Sync m at.command) at.said }
  next_for asking purposes.Own at = record { command = at.command; said = readied_then asking (story.Own at.command) at.said }
  next_for asking (purposes.End m) at = readied_then asking (story.End m) at
  next_for asking (purposes.Capture m) at = readied_then asking (story.Capture m) at

  next_then : (next : Option Begins) → IsNextOf next g other done.server.row (view.links l) → IsNextOf next later other (rows.freed done.server.row) (freed (view.links l))
  next_then None at = at
  next_then (Some (begins.Asks asking)) at = (at.0, next_for asking asking.purpose at.1)
  next_then (Some (begins.Closes number)) at = at
  next_then (Some (begins.Resets number)) at = at
  next_then (Some begins.Quits) at = at

  no_reply : (stage : Stage) → is_quiet stage ≡ true → IsReplyingAt stage later other l (rows.freed done.server.row)
  no_reply Quiet quiet = tt
  no_reply (Asked asking) quiet = absurd (false≢true quiet)
  no_reply (Answered asking) quiet = absurd (false≢true quiet)

  here_then : IsServer later other l (rows.freed done.server.row)
  here_then =
      let was = server_there service g t l done.server is done.there in
      let stands = server_kept g t other l done.server.row was (glanced_row t other glances done.server.row) in
      let serves = carrier_serves g.setup g.codes g.plan g.tale l done.server.row n done.carries was.row in
      let link_is : put is_link_id view.links l (freed (view.links l)) l ≡ freed (view.links l) = ap (λ (b : Bool). if b then freed (view.links l) else view.links l) (same_link l) in
      record {
        row = rows_free g.setup g.codes g.plan g.tale l done.server.row serves.entered done.quiet was.row;
        user = stands.user;
        found_rows = stands.found_rows;
        lent = λ kept mine unstated. tt;
        parted = λ sound kept some. absurd (false≢true some);
        standing = standing_at later l (stand_so g.setup (Freed l ∷ g.tale.story) lawful);
        next = subst (λ (x : Link). IsNextOf done.server.row.link.next later other (rows.freed done.server.row) x) (sym link_is) (next_then done.server.row.link.next stands.next);
        replying = λ sound kept mine. no_reply done.server.row.link.state.stage done.quiet;
      }

  spares : (row : Option Server) → SparesRowOr view (Freed l) row
  spares None = tt
  spares (Some server) = record { session = λ kept m carries. by m server.row.left; next = spares_next l server.row.link.next } where
    by : (m : SessionName) → (left : Option LeftSession) → IsSpared view (Freed l) m left
    by m None = tt
    by m (Some left) = tt

  flip_link : (at : LinkId) → nat_eq l.0 at.0 ≡ false → is_link_id at l ≡ false
  flip_link at apart = flip_eq l.0 at.0 apart

  servers_by : (at : LinkId) (b : Bool) → nat_eq l.0 at.0 ≡ b → IsServerOr later other at (if b then option_map freed_server (t.links l) else t.links at)
  servers_by at false apart =
      any_kept later t other at (t.links at) (any_stays links_stay untouched g t at (Freed l) (t.links at) (is.servers at)
      (λ k named. ap (λ (x : LinkId). is_link_id at x) (sym (some_is l k named)) ∙ flip_link at apart) (spares (t.links at)) lawful) (glanced_or t other glances (t.links at))
  servers_by at true same =
      let one : l ≡ at = link_of l at same in
      subst (λ (k : LinkId). IsServerOr later other k (option_map freed_server (t.links l))) one
      (subst (λ (x : Option Server). IsServerOr later other l (option_map freed_server x)) (sym done.there)
      (by_server (is_to_server g.tale l) (subst (λ (x : Option Server). IsServerOr g t l x) done.there (is.servers l)))) where
        by_server : (b : Bool) → IsServerBy b g t l (Some done.server) → IsServerBy b later other l (Some (freed_server done.server))
        by_server true at = here_then
        by_server false at = absurd (none-some done.server (sym at))

  -- homes

  homes_but_so : HomesBut g later t other l
  homes_but_so = record {
    before = before_so;
    behind = behind_so;
    elsewhere = λ at apart. ap (λ (b : Bool). if b then option_map freed_server (t.links l) else t.links at) apart;
    here = here_so;
  } where
    rows_later : (client : tales.Client) → IsSeated g.tale client → IsClientOr later client (other.clients client.number)
    rows_later client seated = rows_then client seated (each_of (IsAt g t) g client seated is.clients.each).row

    link_not : (c : ClientNo) (old : Client) (h : Hostgroup) (at : LinkId) → t.clients c ≡ Some old → (session_of old.desk h).home ≡ Some at
        → is_name (name_at c h (session_of old.desk h).life) n ≡ false → nat_eq l.0 at.0 ≡ false
    link_not c old h at there home apart = by (nat_eq l.0 at.0) refl where
      by : (b : Bool) → nat_eq l.0 at.0 ≡ b → nat_eq l.0 at.0 ≡ false
      by false no_link = no_link
      by true same =
          let one : l ≡ at = link_of l at same in
          let carrier = is.homes.carried c old h at there home in
          let server : carrier.0 ≡ done.server = some_is carrier.0 done.server (sym carrier.1.there ∙ ap t.links (sym one) ∙ done.there) in
          let name : name_at c h (session_of old.desk h).life ≡ n =
          some_is (name_at c h (session_of old.desk h).life) n
          (sym carrier.1.carries ∙ ap (λ (s : Server). name_in s.row.link.state.carries) server ∙ done.carries) in
          absurd (true≢false (sym (ap (λ (m : SessionName). is_name m n) name ∙ same_name n) ∙ apart))

    before_so : (c : ClientNo) (row : Client) (h : Hostgroup) (at : LinkId) → other.clients c ≡ Some row → (session_of row.desk h).home ≡ Some at
        → (old : Client) × (t.clients c ≡ Some old) × ((session_of old.desk h).home ≡ Some at) × ((session_of old.desk h).life ≡ (session_of row.desk h).life)
        × (nat_eq l.0 at.0 ≡ false)
    before_so c row h at there home =
        let from = changed_from freed_row (present_in l t) c (t.clients c) row there in
        let known = known_after service g later t other is rows_later c from.old row from.there there in
        let client = known.0 in
        let was = was_home (is_name (present view client.number h) n) (view.held (present view client.number h)).home at
        (sym (home_then client.number row.desk h known.3.desk) ∙ home) in
        let old_home : (session_of from.old.desk h).home ≡ Some at = home_of g.setup.reads view client.number from.old.desk h known.2.desk ∙ was.1 in
        let old_life = life_of g.setup.reads view client.number from.old.desk h known.2.desk in
        let life : (session_of from.old.desk h).life ≡ (session_of row.desk h).life = old_life ∙ sym (life_of g.setup.reads (view_on later) client.number row.desk h known.3.desk) in
        let name : present view client.number h ≡ name_at c h (session_of from.old.desk h).life =
        (λ i. record { client = known.1.number i; hostgroup = h; life = view.lives client.number h }) ∙ ap (λ (x : ℕ). name_at c h x) (sym old_life) in (
          from.old,
          from.there,
          old_home,
          life,
          link_not c from.old h at from.there old_home (ap (λ (m : SessionName). is_name m n) (sym name) ∙ was.0),
        )

    behind_so : (c : ClientNo) (old : Client) (h : Hostgroup) (at : LinkId) → t.clients c ≡ Some old → (session_of old.desk h).home ≡ Some at → nat_eq l.0 at.0 ≡ false
        → (row : Client) × (other.clients c ≡ Some row) × ((session_of row.desk h).home ≡ Some at) × ((session_of row.desk h).life ≡ (session_of old.desk h).life)
    behind_so c old h at there home apart =
        let now = some_of (other.clients c) (changed_there freed_row (present_in l t) c (t.clients c) ∙ ap is_some there) in
        let known = known_after service g later t other is rows_later c old now.0 there now.1 in
        let client = known.0 in
        let view_home : (view.held (present view client.number h)).home ≡ Some at = sym (home_of g.setup.reads view client.number old.desk h known.2.desk) ∙ home in (
          now.0,
          now.1,
          kept_home client.number old.desk now.0.desk known.2.desk known.3.desk h (not_n client.number h at view_home apart) ∙ home,
          life_of g.setup.reads (view_on later) client.number now.0.desk h known.3.desk ∙ sym (life_of g.setup.reads view client.number old.desk h known.2.desk),
        ) where
          not_n : (d : ClientNo) (k : Hostgroup) (to : LinkId) → (view.held (present view d k)).home ≡ Some to → nat_eq l.0 to.0 ≡ false → is_name (present view d k) n ≡ false
          not_n d k to at_home no_link = by (is_name (present view d k) n) refl where
            by : (b : Bool) → is_name (present view d k) n ≡ b → is_name (present view d k) n ≡ false
            by false is_not = is_not
            by true same =
                let one : present view d k ≡ n = name_of (present view d k) n same in
                let link : l ≡ to =
                some_is l to (sym ((homes_so g.setup g.tale.story is.lawful).home l n carried) ∙ ap (λ (m : SessionName). (view.held m).home) (sym one) ∙ at_home) in
                absurd (true≢false (sym (ap (λ (x : LinkId). nat_eq l.0 x.0) (sym link) ∙ same_link l) ∙ no_link))

    here_so : (at : LinkId) (server : Server) (m : SessionName) → nat_eq l.0 at.0 ≡ true → other.links at ≡ Some server
        → name_in server.row.link.state.carries ≡ Some m → server.row.lost ≡ false → ⊥
    here_so at server m same there carries kept =
        let now : Some (freed_server done.server) ≡ Some server =
        ap (option_map freed_server) (sym done.there) ∙ ap (λ (b : Bool). if b then option_map freed_server (t.links l) else t.links at) (sym same) ∙ there in
        none-some m (ap (λ (s : Server). name_in s.row.link.state.carries) (some_is (freed_server done.server) server now) ∙ carries)

  pub freed_then : Stands service later other
  freed_then = stands_moved g (Freed l ∷ g.tale.story) g.tale.moment g.over t other service is (record {
    rows = rows_then;
    there = λ c. changed_there freed_row (present_in l t) c (t.clients c);
    numbers = λ k. refl;
    servers = λ at. servers_by at (nat_eq l.0 at.0) refl;
    homes = homes_but g later t other l homes_but_so is.homes;
    lawful = lawful;
    prepared = are_prepared g later.tale g.over g.fresh t other is.clients (λ m. refl) (owns_stay {g = g} {tale = later.tale} refl) is.prepared (λ client seated. seated)
        (λ c row there going.
        let of = seat_changed freed_row (λ h r. refl) (present_in l t) c (t.clients c) row there in
        row_seated t c of.old row of.there of.seat going);
    duly = is.duly;
  })

-- or not
pub freed_so : LinksStay → SessionsStay → OthersStay → PartedStays → ComingStays → DesksFree → RowsFree
    → ((setup : Setup) (plan : Plan) (tale : Tale) (link : LinkId) → is_done plan tale.moment (view_of setup tale) (tale.wires link) (link_in setup tale link) ≡ true
    → MayFree (view_of setup tale) (link_in setup tale link))
    → (service : Service) (g : Ground) (t : Tabled) (l : LinkId) → Stands service g t → is_to_server g.tale l ≡ true
    → Stands service (on g (freed_if_done g.setup g.plan g.tale l)) (freed_in l t)
freed_so links sessions others parted coming desks_free rows_free lawfully service g t l is to =
    by (is_done_in l t) refl (test_so service g t l is to) where
      by : (b : Bool) → is_done_in l t ≡ b → is_done g.plan g.tale.moment (view_on g) (g.tale.wires l) (link_in g.setup g.tale l) ≡ is_done_in l t
          → Stands service (on g (freed_if_done g.setup g.plan g.tale l)) (freed_in l t)
      by true done same =
          let law : is_done g.plan g.tale.moment (view_on g) (g.tale.wires l) (link_in g.setup g.tale l) ≡ true = same ∙ done in
          subst (λ (b : Bool). Stands service (on g (if b then tell (Freed l) g.tale else g.tale)) (freed_in l t)) (sym law)
          (subst (λ (b : Bool). Stands service (on g (tell (Freed l) g.tale)) (if b then freed_of l t else t)) (sym done)
          (freed_then links sessions others parted coming desks_free rows_free service g t l is (done_there t l done) (lawfully g.setup g.plan g.tale l law)))
      by false done same =
          let law : is_done g.plan g.tale.moment (view_on g) (g.tale.wires l) (link_in g.setup g.tale l) ≡ false = same ∙ done in
          subst (λ (b : Bool). Stands service (on g (if b then tell (Freed l) g.tale else g.tale)) (freed_in l t)) (sym law)
          (subst (λ (b : Bool). Stands service g (if b then freed_of l t else t)) (sym done) is)
