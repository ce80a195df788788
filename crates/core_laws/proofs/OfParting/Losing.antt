-- A link is lost, and the entry is counted.
use Rattle.std.specs.Prelude.{◌≡◌, ◌⊎◌, ◌<◌, ◌^◌, ℕ, suc, Bool, true, false, ◌&&◌, nat_eq, if◌then◌else◌, is_some, ◌∷◌, List, Option, Some, None, []}
use Rattle.std.specs.Option.{option_map, option_map_or}
use Rattle.std.proofs.Common.{refl, sym, ap, ◌∙◌, subst, arith, inl, inr}
use Rattle.std.proofs.lemmas.Bool.{true≢false, false≢true}
use Rattle.std.proofs.lemmas.Option.{none-some, same_Some}
use Rattle.mx_base.specs.declared.names.Hostgroup.{Hostgroup}
use Rattle.client_session.specs.Setups.{Setup as Service}
use Rattle.server_rule.specs.Classes.{Reads}
use Rattle.private_model.proofs.Maps.{client_of, link_of, name_of, same_link, same_name}
use Rattle.private_model.specs.Lawful.{IsLawful}
use Rattle.private_model.specs.Names.{ClientNo, LinkId, SessionName}
use Rattle.private_model.specs.Story as story
use Rattle.private_model.specs.Story.{Gone, is_client, is_hostgroup, is_link_id, is_name}
use Rattle.private_model.specs.View.{Held, Link, Setup, View, lives_after, present, session_in, view_step}
use Rattle.log_story.specs.Plan.{Plan}
use Rattle.log_story.specs.Tale as tales
use Rattle.log_story.specs.Tale.{Tale, counted, is_to_server, tell}
use Rattle.link_laws.specs.Stands.{Codes}
use Rattle.link_state.specs.declared.asking.Asking.{Asking}
use Rattle.link_state.specs.declared.asking.Purpose.{Purpose}
use Rattle.link_state.specs.declared.asking.Purpose.TheVariants as purposes
use Rattle.lent_link.specs.declared.link.Begins.{Begins}
use Rattle.lent_link.specs.declared.link.Begins.TheVariants as begins
use Rattle.served_link.specs.Rows as rows
use Rattle.served_link.specs.declared.row.LeftSession.{LeftSession}
use Rattle.served_link.specs.declared.row.Row.{Row}
use Rattle.client_desk.specs.Desks as desks
use Rattle.client_desk.specs.Desks.{session_of}
use Rattle.client_desk.specs.declared.desk.Desk.{Desk}
use Rattle.client_desk.specs.declared.session.Session.{Session}
use Rattle.client_desk.specs.declared.work.Work.{Work}
use Rattle.desk_laws.specs.Spares.{IsElsewhere, is_of}
use Rattle.desk_laws.specs.Stands.{HasRow, IsDesk, IsSession, name_at}
use Rattle.row_laws.specs.Apart.{IsNot, IsSpared}
use Rattle.row_laws.specs.Begins.{IsReadied}
use Rattle.row_laws.specs.Rows.{IsRowIn}
use Rattle.row_laws.specs.Whose.{name_in}
use Rattle.step_laws.specs.Seats.{IsSeated}
use Rattle.core_tables.specs.Parting.{changed_for, given_row, given_up_in, gone_row, lost_in, lost_row, present_in}
use Rattle.core_tables.specs.Tables.{Tabled}
use Rattle.core_tables.specs.declared.client.Client.{Client}
use Rattle.core_tables.specs.declared.server.Server.{Server}
use Rattle.core_stands.specs.Clients.{IsClient, IsClientOr, IsForgotten}
use Rattle.core_stands.specs.Grounds.{Ground, on, view_on}
use Rattle.core_stands.specs.Servers.{IsNextFor, IsNextOf, IsServer, IsServerBy, IsServerOr, keyed_text}
use Rattle.core_stands.specs.Stands.{IsAt, Stands}
use Rattle.core_laws.specs.parting.Frames.{IsGlanced, KeepsOr, SparesNext, SparesNextFor, SparesRowOr, glance}
use Rattle.core_laws.specs.parting.Partings.{AreCounted, AreGivenUp, IsCounted, IsLosing}
use Rattle.core_laws.proofs.OfParting.Named.{row_carries}
use Rattle.core_laws.proofs.OfParting.Counting.{AnswersOwed, DesksGiveUp, client_counted, kept_next, kept_row, sessions_so}
use Rattle.core_laws.proofs.OfParting.Forgetting.{server_there}
use Rattle.core_laws.proofs.OfParting.Freeing.{ComingStays, OthersStay, PartedStays, changed_from, changed_glanced, changed_there, glanced_or, glanced_row}
use Rattle.core_laws.proofs.OfParting.Grounds.{taken_after}
use Rattle.core_laws.proofs.OfParting.Homes.{homes_so}
use Rattle.core_laws.proofs.OfPrepared.Rows.{RowOf, are_prepared, row_gives_up, row_seated, seat_changed, seat_mapped}
use Rattle.core_laws.proofs.OfParting.Owning.{owns_given}
use Rattle.core_laws.proofs.OfParting.Moving.{HomesBut, any_then, homes_but, known_after, mapped, some_of, stands_moved}
use Rattle.core_laws.proofs.OfParting.Reading.{LinksStay, SessionsStay, any_kept, any_stays, next_kept, some_is}
use Rattle.core_laws.proofs.OfParting.Redesking.{flip_eq, home_of, life_of, name_path, past_so, present_so, row_redesked}
use Rattle.core_laws.proofs.OfParting.Same.{each_of}
use Rattle.core_laws.proofs.OfParting.Standing.{stand_so, standing_at}
use Rattle.client_seat.specs.Answers.{answered}
use Rattle.client_seat.specs.Seats.{is_ended}

-- The laws that are composed.

abbrev pub HomesHaveRows : Type 0
HomesHaveRows = (reads : Reads) (view : View) (c : ClientNo) (desk : Desk) → IsDesk reads view c desk → (h : Hostgroup) (link : LinkId)
    → (view.held (desks.name_of desk h)).home ≡ Some link → HasRow desk.sessions h

abbrev pub DesksGo : Type 0
DesksGo = (setup : Setup) (view : View) (c : ClientNo) (desk : Desk) → IsDesk setup.reads view c desk → (link : LinkId) (h : Hostgroup)
    → session_in (view.links link).carries ≡ Some (desks.name_of desk h) → HasRow desk.sessions h → suc (view.lives c h) < 2 ^ 64 → IsElsewhere h desk.work
    → IsDesk setup.reads (view_step setup view (Gone link)) c (desks.gone h desk)

abbrev pub RowsGo : Type 0
RowsGo = (setup : Setup) (codes : Codes) (plan : Plan) (tale : Tale) (l : LinkId) (row : Row) → IsRowIn setup codes plan tale l row
    → IsRowIn setup codes plan (tell (Gone l) tale) l (rows.lost row)

-- What is told of the view.

abbrev is_it : SessionName → Option SessionName → Bool
is_it m carried = option_map_or (λ (n : SessionName). is_name m n) carried false

module _ (setup : Setup) (view : View) (l : LinkId) where
  abbrev view_then : View
  view_then = view_step setup view (Gone l)

  abbrev carried : Option SessionName
  carried = session_in (view.links l).carries

  lives_by : (c : ClientNo) (h : Hostgroup) (x : Option SessionName) → option_map_or (λ n. lives_after n view.lives) x view.lives c h
      ≡ (if is_it (present view c h) x then suc (view.lives c h) else view.lives c h)
  lives_by c h None = refl
  lives_by c h (Some n) = refl

  pub gone_lives : (c : ClientNo) (h : Hostgroup) → view_then.lives c h ≡ (if is_it (present view c h) carried then suc (view.lives c h) else view.lives c h)
  gone_lives c h = lives_by c h carried

  -- the session that follows has no home
  pub gone_home : (c : ClientNo) (h : Hostgroup) (s : Session) → IsSession view c h s
      → (view_then.held (present view_then c h)).home ≡ (if is_it (present view c h) carried then None else (view.held (present view c h)).home)
  gone_home c h s at =
      ap (λ (life : ℕ). (view.held (name_at c h life)).home) (gone_lives c h) ∙ by (is_it (present view c h) carried) where
        by : (b : Bool) → (view.held (name_at c h (if b then suc (view.lives c h) else view.lives c h))).home ≡ (if b then None else (view.held (present view c h)).home)
        by false = refl
        by true =
            let above : s.life < suc (view.lives c h) = omega (arith, at.life) in
            ap (λ (x : Held). x.home) (at.unborn (suc (view.lives c h)) above).held

none_stays : (b : Bool) (home : Option LinkId) → home ≡ None → (if b then None else home) ≡ None
none_stays true home is = refl
none_stays false home is = is

was_home : (b : Bool) (home : Option LinkId) (l : LinkId) → (if b then None else home) ≡ Some l → (b ≡ false) × (home ≡ Some l)
was_home true home l is = absurd (none-some l is)
was_home false home l is = (refl, is)

is_it_so : (m : SessionName) (x : Option SessionName) → is_it m x ≡ true → x ≡ Some m
is_it_so m None is = absurd (false≢true is)
is_it_so m (Some n) is = ap Some (sym (name_of m n is))

spares_next : (l : LinkId) (next : Option Begins) → SparesNext next (Gone l)
spares_next l None = tt
spares_next l (Some (begins.Asks asking)) = by asking.purpose where
  by : (purpose : Purpose) → SparesNextFor purpose (Gone l)
  by (purposes.Statement n ordinal key) = tt
  by (purposes.Prep n ordinal key) = tt
  by (purposes.Sync n) = tt
  by purposes.Own = tt
  by (purposes.End n) = tt
  by (purposes.Capture n) = tt
spares_next l (Some (begins.Closes number)) = tt
spares_next l (Some (begins.Resets number)) = tt
spares_next l (Some begins.Quits) = tt

changed_given : (q : Option (List ℕ)) (p : Option SessionName) (c : ClientNo) (found : Option Client)
    → option_map (given_row q) (changed_for gone_row p c found) ≡ changed_for gone_row p c (option_map (given_row q) found)
changed_given q None c found = refl
changed_given q (Some n) c found = by (nat_eq n.client.0 c.0) found where
  row_by : (r : Option (List ℕ)) (row : Client) → given_row r (gone_row n.hostgroup row) ≡ gone_row n.hostgroup (given_row r row)
  row_by None row = refl
  row_by (Some payload) row = refl

  by : (b : Bool) (x : Option Client) → option_map (given_row q) (if b then option_map (gone_row n.hostgroup) x else x)
      ≡ (if b then option_map (gone_row n.hostgroup) (option_map (given_row q) x) else option_map (given_row q) x)
  by true None = refl
  by true (Some row) = ap Some (row_by q row)
  by false x = refl

given_there : (q : Option (List ℕ)) (x : Option Client) → is_some (option_map (given_row q) x) ≡ is_some x
given_there q None = refl
given_there q (Some row) = refl

none_changed : (p : Option SessionName) (c : ClientNo) → changed_for gone_row p c None ≡ None
none_changed None c = refl
none_changed (Some m) c = at (nat_eq m.client.0 c.0) where
  at : (b : Bool) → (if b then option_map (gone_row m.hostgroup) None else None) ≡ None
  at true = refl
  at false = refl

module _ (links_stay : LinksStay) (untouched : SessionsStay) (others_stay : OthersStay) (parted_stays : PartedStays) (coming_stays : ComingStays)
    (have_rows : HomesHaveRows) (desks_go : DesksGo) (rows_go : RowsGo) (desks_give : DesksGiveUp) (owes : AnswersOwed)
    (service : Service) (g : Ground) (t : Tabled) (l : LinkId) (given : ClientNo → Option (List ℕ)) (is : Stands service g t) (losing : IsLosing g t l given)
    (gives : AreGivenUp given (λ other. is_link_id other l) t) (are : AreCounted g given) where
  abbrev view : View
  view = view_on g

  abbrev one : Ground
  one = on g (counted g.tale)

  abbrev told : Ground
  told = on g (tell (Gone l) g.tale)

  abbrev later : Ground
  later = on g (counted (tell (Gone l) g.tale))

  abbrev p : Option SessionName
  p = present_in l t

  abbrev x : Option SessionName
  x = session_in (view.links l).carries

  abbrev other : Tabled
  other = given_up_in given (lost_in l t)

  lawful : IsLawful g.setup (Gone l ∷ g.tale.story)
  lawful = (is.lawful, tt)

  -- whom the row carries the link carries
  present_carried : (n : SessionName) → p ≡ Some n → x ≡ Some n
  present_carried n at =
      let there = present_so t l n at in
      row_carries g.setup g.codes g.plan g.tale l there.server.row (server_there service g t l there.server is there.there).row ∙ there.carries

  home_then : (c : ClientNo) (old now : Desk) (h : Hostgroup) → IsDesk g.setup.reads view c old → IsDesk g.setup.reads (view_on later) c now
      → (session_of now h).home ≡ (if is_it (present view c h) x then None else (view.held (present view c h)).home)
  home_then c old now h at after =
      home_of g.setup.reads (view_on later) c now h after ∙ gone_home g.setup view l c h (session_of old h) (at.sessions.each h)

  homeless_then : (c : ClientNo) (old now : Desk) → IsDesk g.setup.reads view c old → IsDesk g.setup.reads (view_on later) c now
      → (h : Hostgroup) → (session_of old h).home ≡ None → (session_of now h).home ≡ None
  homeless_then c old now at after h none =
      home_then c old now h at after
      ∙ none_stays (is_it (present view c h) x) (view.held (present view c h)).home (sym (home_of g.setup.reads view c old h at) ∙ none)

  kept_home : (c : ClientNo) (old now : Desk) → IsDesk g.setup.reads view c old → IsDesk g.setup.reads (view_on later) c now
      → (h : Hostgroup) → is_it (present view c h) x ≡ false → (session_of now h).home ≡ (session_of old h).home
  kept_home c old now at after h apart =
      home_then c old now h at after ∙ ap (λ (b : Bool). if b then None else (view.held (present view c h)).home) apart
      ∙ sym (home_of g.setup.reads view c old h at)

  -- Clients, behind the count.

  counted_row : (client : tales.Client) → IsSeated g.tale client → (found : Option Client) → t.clients client.number ≡ found → IsClientOr g client found
      → IsClientOr one client (option_map (given_row (given client.number)) found)
  counted_row client seated found there was =
      client_counted desks_give owes g client (given client.number) found
      (each_of (λ (c : tales.Client). IsCounted g (given c.number) c) g client seated are)
      (λ payload some. let at = gives.in_work client.number payload some in (at.0, at.1, sym there ∙ at.2.there, at.2.in_work)) was

  module _ (client : tales.Client) (n : SessionName) (named : x ≡ Some n) (number : client.number ≡ n.client) (row : Client)
      (there : t.clients client.number ≡ Some row) (stands : IsClient g client row) (given_so : IsClient one client (given_row (given client.number) row)) where
    abbrev q : Option (List ℕ)
    q = given client.number

    there_n : t.clients n.client ≡ Some row
    there_n = ap t.clients (sym number) ∙ there

    row_past : p ≡ None → IsClient later client (given_row q row)
    row_past none =
        let desk = parted_stays g.setup view client.number (given_row q row).desk (Gone l) n given_so.desk named
        (past_so service g t l n row client is named none number there_n stands) tt in
        row_redesked one client (Gone l) (λ ordinal. refl) (λ ordinal. refl) refl (given_row q row) (given_row q row).desk.sessions given_so desk
        (coming_stays g.setup view client.number (suc client.taken) (Gone l) given_so.coming tt) (λ work at sent. refl) (λ h none. none)

    elsewhere_by : (r : Option (List ℕ)) → IsElsewhere n.hostgroup row.desk.work ⊎ (is_some r ≡ true) → IsElsewhere n.hostgroup (given_row r row).desk.work
    elsewhere_by (Some payload) either = tt
    elsewhere_by None (inl at) = at
    elsewhere_by None (inr some) = absurd (false≢true some)

    not_it : (work : Work) → (w : Option Work) → w ≡ Some work → IsElsewhere n.hostgroup w → is_it (present view client.number work.hostgroup) x ≡ false
    not_it work None at is_else = absurd (none-some work at)
    not_it work (Some other_work) at is_else =
        let same : other_work ≡ work = some_is other_work work at in
        let apart : is_hostgroup work.hostgroup n.hostgroup ≡ false = subst (λ (w : Work). is_hostgroup w.hostgroup n.hostgroup ≡ false) same is_else in
        ap (λ (y : Option SessionName). is_it (present view client.number work.hostgroup) y) named
        ∙ by (is_client client.number n.client) apart where
          by : (b : Bool) → is_hostgroup work.hostgroup n.hostgroup ≡ false
              → (b && (is_hostgroup work.hostgroup n.hostgroup && nat_eq (view.lives client.number work.hostgroup) n.life)) ≡ false
          by true off = ap (λ (c : Bool). c && nat_eq (view.lives client.number work.hostgroup) n.life) off
          by false off = refl

    row_present : p ≡ Some n → IsClient later client (gone_row n.hostgroup (given_row q row))
    row_present at =
        let present_at = present_so t l n at in
        let home = is.homes.home l present_at.server n present_at.there present_at.carries present_at.mine present_at.whole in
        let same : home.0 ≡ row = some_is home.0 row (sym home.1 ∙ there_n) in
        let desk : Desk = (given_row q row).desk in
        let session : session_of desk n.hostgroup ≡ session_of row.desk n.hostgroup = sessions_so given t q row n.hostgroup in
        let life : (session_of desk n.hostgroup).life ≡ n.life =
        ap (λ (s : Session). s.life) session ∙ ap (λ (r : Client). (session_of r.desk n.hostgroup).life) (sym same) ∙ home.3 in
        let name : n ≡ desks.name_of desk n.hostgroup =
        name_path n desk.seat.client.number (session_of desk n.hostgroup).life (given_so.desk.number ∙ number) life in
        let homed : (view.held (desks.name_of desk n.hostgroup)).home ≡ Some l =
        ap (λ (m : SessionName). (view.held m).home) (sym name) ∙ (homes_so g.setup g.tale.story is.lawful).home l n named in
        let has = have_rows g.setup.reads view client.number desk given_so.desk n.hostgroup l homed in
        let bounded : suc (view.lives client.number n.hostgroup) < 2 ^ 64 =
        subst (λ (c : ClientNo). suc (view.lives c n.hostgroup) < 2 ^ 64) (sym number) (losing.lives n at) in
        let work = subst (λ (c : ClientNo). IsElsewhere n.hostgroup row.desk.work ⊎ (is_some (given c) ≡ true)) (sym number) (losing.work n row at there_n) in
        let away = elsewhere_by q work in
        let now = desks_go g.setup view client.number desk given_so.desk l n.hostgroup (named ∙ ap Some name) has bounded away in
        row_redesked one client (Gone l) (λ ordinal. refl) (λ ordinal. refl) refl (given_row q row) (desks.gone n.hostgroup desk).sessions given_so now
        (coming_stays g.setup view client.number (suc client.taken) (Gone l) given_so.coming tt)
        (λ w in_work sent. kept_home client.number desk (desks.gone n.hostgroup desk) given_so.desk now w.hostgroup (not_it w desk.work in_work away))
        (homeless_then client.number desk (desks.gone n.hostgroup desk) given_so.desk now)

  forgotten_then : (client : tales.Client) (n : SessionName) → x ≡ Some n → IsForgotten g client → IsForgotten later client
  forgotten_then client n named gone = record {
    over = gone.over;
    homeless = λ h.
        let not_it : is_it (present view client.number h) x ≡ false = by h (is_it (present view client.number h) x) refl in
        ap (λ (life : ℕ). (view.held (name_at client.number h life)).home)
        (gone_lives g.setup view l client.number h ∙ ap (λ (b : Bool). if b then suc (view.lives client.number h) else view.lives client.number h) not_it)
        ∙ gone.homeless h;
  } where
    by : (h : Hostgroup) (b : Bool) → is_it (present view client.number h) x ≡ b → is_it (present view client.number h) x ≡ false
    by h false at = at
    by h true at =
        absurd (none-some l (sym (gone.homeless h) ∙ (homes_so g.setup g.tale.story is.lawful).home l (present view client.number h)
        (is_it_so (present view client.number h) x at)))

  apart_then : (client : tales.Client) (found : Option Client) → is_of client.number x ≡ false → IsClientOr one client found → IsClientOr later client found
  apart_then client found apart was = others_stay one client found (Gone l) was apart

  changed_apart : (c : ClientNo) (found : Option Client) (y : Option SessionName) → ((n : SessionName) → y ≡ Some n → nat_eq n.client.0 c.0 ≡ false)
      → changed_for gone_row y c found ≡ found
  changed_apart c found None apart = refl
  changed_apart c found (Some n) apart = ap (λ (b : Bool). if b then option_map (gone_row n.hostgroup) found else found) (apart n refl)

  rows_then : (client : tales.Client) → IsSeated g.tale client → IsClientOr g client (t.clients client.number) → IsClientOr later client (other.clients client.number)
  rows_then client seated was =
      subst (λ (y : Option Client). IsClientOr later client y) (sym (changed_given (given client.number) p client.number (t.clients client.number)))
      (by_carried x refl) where
        counted_so : IsClientOr one client (option_map (given_row (given client.number)) (t.clients client.number))
        counted_so = counted_row client seated (t.clients client.number) refl was

        flip : (n : SessionName) → nat_eq n.client.0 client.number.0 ≡ false → is_client client.number n.client ≡ false
        flip n apart = flip_eq n.client.0 client.number.0 apart

        itself : (n : SessionName) → x ≡ Some n → client.number ≡ n.client → nat_eq n.client.0 client.number.0 ≡ true → (y : Option Client) → t.clients client.number ≡ y
            → IsClientOr g client y → IsClientOr one client (option_map (given_row (given client.number)) y)
            → IsClientOr later client (changed_for gone_row p client.number (option_map (given_row (given client.number)) y))
        itself n named number same None there gone given_so =
            subst (λ (z : Option Client). IsClientOr later client z) (sym (none_changed p client.number)) (forgotten_then client n named gone)
        itself n named number same (Some row) there stands given_so = at p refl where
          at : (y : Option SessionName) → p ≡ y → IsClientOr later client (changed_for gone_row y client.number (Some (given_row (given client.number) row)))
          at None none = row_past client n named number row there stands given_so none
          at (Some m) here =
              let one_name : m ≡ n = some_is m n (sym (present_carried m here) ∙ named) in
              subst (λ (k : SessionName). IsClientOr later client (changed_for gone_row (Some k) client.number (Some (given_row (given client.number) row)))) (sym one_name)
              (subst (λ (b : Bool). IsClientOr later client (if b then option_map (gone_row n.hostgroup) (Some (given_row (given client.number) row))
              else Some (given_row (given client.number) row))) (sym same)
              (row_present client n named number row there stands given_so (here ∙ ap Some one_name)))

        by_number : (n : SessionName) → x ≡ Some n → (b : Bool) → nat_eq n.client.0 client.number.0 ≡ b
            → IsClientOr later client (changed_for gone_row p client.number (option_map (given_row (given client.number)) (t.clients client.number)))
        by_number n named true same = itself n named (sym (client_of n.client client.number same)) same (t.clients client.number) refl was counted_so
        by_number n named false apart =
            subst (λ (z : Option Client). IsClientOr later client z)
            (sym (changed_apart client.number (option_map (given_row (given client.number)) (t.clients client.number)) p
            (λ m here. ap (λ (k : SessionName). nat_eq k.client.0 client.number.0) (some_is m n (sym (present_carried m here) ∙ named)) ∙ apart)))
            (apart_then client (option_map (given_row (given client.number)) (t.clients client.number))
            (ap (λ (y : Option SessionName). is_of client.number y) named ∙ flip n apart) counted_so)

        by_carried : (y : Option SessionName) → x ≡ y
            → IsClientOr later client (changed_for gone_row p client.number (option_map (given_row (given client.number)) (t.clients client.number)))
        by_carried None none =
            subst (λ (z : Option Client). IsClientOr later client z)
            (sym (changed_apart client.number (option_map (given_row (given client.number)) (t.clients client.number)) p
            (λ m here. absurd (none-some m (sym none ∙ present_carried m here)))))
            (apart_then client (option_map (given_row (given client.number)) (t.clients client.number))
            (ap (λ (y : Option SessionName). is_of client.number y) none) counted_so)
        by_carried (Some n) named = by_number n named (nat_eq n.client.0 client.number.0) refl

  there_then : (c : ClientNo) → is_some (other.clients c) ≡ is_some (t.clients c)
  there_then c = given_there (given c) (changed_for gone_row p c (t.clients c)) ∙ changed_there gone_row p c (t.clients c)

  -- Rows of links.

  abbrev gave : Tabled
  gave = given_up_in given t

  glances : (c : ClientNo) → IsGlanced gave other c
  glances c =
      ap (option_map glance) (changed_given (given c) p c (t.clients c)) ∙ changed_glanced gone_row (λ h row. refl) p c (gave.clients c)

  kept_server : (at : LinkId) → is_link_id at l ≡ false → (found : Option Server) → t.links at ≡ found → KeepsOr t gave found
  kept_server at apart None there = tt
  kept_server at apart (Some server) there = kept_row given t server.row (λ c some stage. gives.aside c at server some there apart stage)

  not_carried : (at : LinkId) (m : SessionName) (server : Server) → is_link_id at l ≡ false → t.links at ≡ Some server → name_in server.row.link.state.carries ≡ Some m
      → IsNot m x
  not_carried at m server apart there carries k named = by (is_name m k) refl where
    by : (b : Bool) → is_name m k ≡ b → is_name m k ≡ false
    by false is_not = is_not
    by true same =
        let homed = homes_so g.setup g.tale.story is.lawful in
        let here : (view.held m).home ≡ Some at =
        homed.home at m (row_carries g.setup g.codes g.plan g.tale at server.row (server_there service g t at server is there).row ∙ carries) in
        let link : at ≡ l = some_is at l (sym here ∙ ap (λ (y : SessionName). (view.held y).home) (name_of m k same) ∙ homed.home l k named) in
        absurd (true≢false (sym (ap (λ (y : LinkId). is_link_id y l) link ∙ same_link l) ∙ apart))

  spares : (at : LinkId) → is_link_id at l ≡ false → (row : Option Server) → t.links at ≡ row → SparesRowOr view (Gone l) row
  spares at apart None there = tt
  spares at apart (Some server) there = record {
    session = λ kept m carries. by m server.row.left (not_carried at m server apart there carries);
    next = spares_next l server.row.link.next;
  } where
    by : (m : SessionName) (left : Option LeftSession) → IsNot m x → IsSpared view (Gone l) m left
    by m None not_it = not_it
    by m (Some left) not_it = tt

  readied_then : (row : Row) (asking : Asking) (question : story.Question) → IsReadied g.setup.reads g.codes row (view.links l) asking question
      → IsReadied g.setup.reads g.codes (rows.lost row) (record (view.links l) { usable = false }) asking question
  readied_then row asking question at = record { asks = at.asks; spelt_so = at.spelt_so; shared = at.shared; cell_so = at.cell_so }

  next_for : (row : Row) (asking : Asking) (purpose : Purpose) → IsNextFor purpose g other row (view.links l) asking
      → IsNextFor purpose later other (rows.lost row) (record (view.links l) { usable = false }) asking
  next_for row asking (purposes.Statement m ordinal key) at = record {
    said = λ due there same. readied_then row asking (story.Statement m due) (at.said due there same);
    first = at.first;
    asked = at.asked;
    number = at.number;
    taken_up = taken_after g (Gone l ∷ g.tale.story) (suc g.tale.moment) g.over m ordinal at.taken_up;
  }
  next_for row asking (purposes.Prep m ordinal key) at = record {
    said = λ due there same. readied_then row asking (story.Prep m due.key (keyed_text g due)) (at.said due there same);
    told = at.told;
    taken_up = taken_after g (Gone l ∷ g.tale.story) (suc g.tale.moment) g.over m ordinal at.taken_up;
  }
  next_for row asking (purposes.Sync m) at = record { command = at.command; said = readied_then row asking (story.Sync m at.command) at.said }
  next_for row asking purposes.Own at = record { command = at.command; said = readied_then row asking (story.Own at.command) at.said }
  next_for row asking (purposes.End m) at = readied_then row asking (story.End m) at
  next_for row asking (purposes.Capture m) at = readied_then row asking (story.Capture m) at

  next_then : (row : Row) (next : Option Begins) → IsNextOf next g other row (view.links l)
      → IsNextOf next later other (rows.lost row) (record (view.links l) { usable = false })
  next_then row None at = at
  next_then row (Some (begins.Asks asking)) at = (at.0, next_for row asking asking.purpose at.1)
  next_then row (Some (begins.Closes number)) at = at
  next_then row (Some (begins.Resets number)) at = at
  next_then row (Some begins.Quits) at = at

  link_is : (view_on later).links l ≡ record (view.links l) { usable = false }
  link_is = ap (λ (b : Bool). if b then record (view.links l) { usable = false } else view.links l) (same_link l)

  here_then : (server : Server) → IsServer g t l server.row → IsServer later other l (rows.lost server.row)
  here_then server was =
      let row = server.row in
      let next = next_kept g gave other l row (view.links l) row.link.next (glanced_row gave other glances row).next
      (next_kept g t gave l row (view.links l) row.link.next (kept_next given t row.link.next) was.next) in
      record {
        row = rows_go g.setup g.codes g.plan g.tale l row was.row;
        user = was.user;
        found_rows = was.found_rows;
        lent = λ kept mine unstated. absurd (true≢false kept);
        parted = λ sound kept some. absurd (true≢false kept);
        standing = standing_at later l (stand_so g.setup (Gone l ∷ g.tale.story) lawful);
        next = subst (λ (y : Link). IsNextOf row.link.next later other (rows.lost row) y) (sym link_is) (next_then row row.link.next next);
        replying = λ sound kept mine. absurd (true≢false kept);
      }

  here_by : (b : Bool) (found : Option Server) → IsServerBy b g t l found → IsServerBy b later other l (option_map lost_row found)
  here_by true (Some server) was = here_then server was
  here_by true None was = ap (λ (y : Link). y.usable) link_is
  here_by false found was = ap (option_map lost_row) was

  flip_link : (at : LinkId) → nat_eq l.0 at.0 ≡ false → is_link_id at l ≡ false
  flip_link at apart = flip_eq l.0 at.0 apart

  servers_by : (at : LinkId) (b : Bool) → nat_eq l.0 at.0 ≡ b → IsServerOr later other at (if b then option_map lost_row (t.links l) else t.links at)
  servers_by at true same =
      subst (λ (k : LinkId). IsServerOr later other k (option_map lost_row (t.links l))) (link_of l at same)
      (here_by (is_to_server g.tale l) (t.links l) (is.servers l))
  servers_by at false apart =
      let away = flip_link at apart in
      let first = any_kept g t gave at (t.links at) (is.servers at) (kept_server at away (t.links at) refl) in
      let then_other = any_kept g gave other at (t.links at) first (glanced_or gave other glances (t.links at)) in
      let gone = any_stays links_stay untouched g other at (Gone l) (t.links at) then_other
      (λ k named. ap (λ (y : LinkId). is_link_id at y) (sym (some_is l k named)) ∙ away) (spares at away (t.links at) refl) lawful in
      any_then told lawful (suc g.tale.moment) g.over (λ c ended. ended) other at (t.links at) gone

  -- Homes.

  homes_but_so : HomesBut g later t other l
  homes_but_so = record {
    before = before_so;
    behind = behind_so;
    elsewhere = λ at apart. ap (λ (b : Bool). if b then option_map lost_row (t.links l) else t.links at) apart;
    here = here_so;
  } where
    rows_later : (client : tales.Client) → IsSeated g.tale client → IsClientOr later client (other.clients client.number)
    rows_later client seated = rows_then client seated (each_of (IsAt g t) g client seated is.clients.each).row

    not_link : (m : SessionName) (at : LinkId) → (view.held m).home ≡ Some at → is_it m x ≡ false → nat_eq l.0 at.0 ≡ false
    not_link m at home apart = by (nat_eq l.0 at.0) refl where
      by : (b : Bool) → nat_eq l.0 at.0 ≡ b → nat_eq l.0 at.0 ≡ false
      by false no_link = no_link
      by true same =
          let carries : x ≡ Some m =
          (homes_so g.setup g.tale.story is.lawful).back m l (home ∙ ap (λ (y : LinkId). Some y) (sym (link_of l at same))) in
          absurd (true≢false (sym (ap (λ (y : Option SessionName). is_it m y) carries ∙ same_name m) ∙ apart))

    not_it : (m : SessionName) (at : LinkId) → (view.held m).home ≡ Some at → nat_eq l.0 at.0 ≡ false → is_it m x ≡ false
    not_it m at home no_link = by (is_it m x) refl where
      by : (b : Bool) → is_it m x ≡ b → is_it m x ≡ false
      by false is_not = is_not
      by true same =
          let link : l ≡ at = some_is l at (sym ((homes_so g.setup g.tale.story is.lawful).home l m (is_it_so m x same)) ∙ home) in
          absurd (true≢false (sym (ap (λ (y : LinkId). nat_eq l.0 y.0) (sym link) ∙ same_link l) ∙ no_link))

    before_so : (c : ClientNo) (row : Client) (h : Hostgroup) (at : LinkId) → other.clients c ≡ Some row → (session_of row.desk h).home ≡ Some at
        → (old : Client) × (t.clients c ≡ Some old) × ((session_of old.desk h).home ≡ Some at) × ((session_of old.desk h).life ≡ (session_of row.desk h).life)
        × (nat_eq l.0 at.0 ≡ false)
    before_so c row h at there home =
        let mid = mapped (given_row (given c)) (changed_for gone_row p c (t.clients c)) row there in
        let from = changed_from gone_row p c (t.clients c) mid.0 mid.1 in
        let known = known_after service g later t other is rows_later c from.old row from.there there in
        let client = known.0 in
        let was = was_home (is_it (present view client.number h) x) (view.held (present view client.number h)).home at
        (sym (home_then client.number from.old.desk row.desk h known.2.desk known.3.desk) ∙ home) in
        let life : (session_of from.old.desk h).life ≡ (session_of row.desk h).life =
        life_of g.setup.reads view client.number from.old.desk h known.2.desk
        ∙ sym (gone_lives g.setup view l client.number h ∙ ap (λ (b : Bool). if b then suc (view.lives client.number h) else view.lives client.number h) was.0)
        ∙ sym (life_of g.setup.reads (view_on later) client.number row.desk h known.3.desk) in (
          from.old,
          from.there,
          home_of g.setup.reads view client.number from.old.desk h known.2.desk ∙ was.1,
          life,
          not_link (present view client.number h) at was.1 was.0,
        )

    behind_so : (c : ClientNo) (old : Client) (h : Hostgroup) (at : LinkId) → t.clients c ≡ Some old → (session_of old.desk h).home ≡ Some at → nat_eq l.0 at.0 ≡ false
        → (row : Client) × (other.clients c ≡ Some row) × ((session_of row.desk h).home ≡ Some at) × ((session_of row.desk h).life ≡ (session_of old.desk h).life)
    behind_so c old h at there home apart =
        let now = some_of (other.clients c) (there_then c ∙ ap is_some there) in
        let known = known_after service g later t other is rows_later c old now.0 there now.1 in
        let client = known.0 in
        let is_not = not_it (present view client.number h) at (sym (home_of g.setup.reads view client.number old.desk h known.2.desk) ∙ home) apart in (
          now.0,
          now.1,
          kept_home client.number old.desk now.0.desk known.2.desk known.3.desk h is_not ∙ home,
          life_of g.setup.reads (view_on later) client.number now.0.desk h known.3.desk
              ∙ (gone_lives g.setup view l client.number h ∙ ap (λ (b : Bool). if b then suc (view.lives client.number h) else view.lives client.number h) is_not)
              ∙ sym (life_of g.setup.reads view client.number old.desk h known.2.desk),
        )

    here_so : (at : LinkId) (server : Server) (m : SessionName) → nat_eq l.0 at.0 ≡ true → other.links at ≡ Some server
        → name_in server.row.link.state.carries ≡ Some m → server.row.lost ≡ false → ⊥
    here_so at server m same there carries kept =
        let old = mapped lost_row (t.links l) server
        (ap (λ (b : Bool). if b then option_map lost_row (t.links l) else t.links at) (sym same) ∙ there) in
        true≢false (ap (λ (s : Server). s.row.lost) old.2 ∙ kept)

  row_before : (c : ClientNo) (row : Client) (given_to : Option (List ℕ)) → given c ≡ given_to → other.clients c ≡ Some row
      → is_ended row.desk.seat.phase ≡ false → RowOf t c row
  row_before c row None none there going =
      let was = seat_mapped (given_row None) (λ r. refl) (changed_for gone_row p c (t.clients c)) row
      (ap (λ (x : Option (List ℕ)). option_map (given_row x) (changed_for gone_row p c (t.clients c))) (sym none) ∙ there) in
      let of = seat_changed gone_row (λ h r. refl) p c (t.clients c) was.old was.there in
      row_seated t c of.old row of.there (was.seat ∙ of.seat) going
  row_before c row (Some payload) some there going =
      let at = gives.in_work c payload some in
      let mid = mapped (given_row (Some payload)) (changed_for gone_row p c (t.clients c)) row
      (ap (λ (x : Option (List ℕ)). option_map (given_row x) (changed_for gone_row p c (t.clients c))) (sym some) ∙ there) in
      let of = seat_changed gone_row (λ h r. refl) p c (t.clients c) mid.0 mid.1 in
      let one : of.old ≡ at.0 = same_Some of.old at.0 (sym of.there ∙ at.2.there) in
      row_gives_up t c at.0 row at.1 (payload ∷ []) at.2.there at.2.in_work
      (ap (λ (r : Client). r.desk.seat) (sym mid.2) ∙ ap (answered (payload ∷ [])) (of.seat ∙ ap (λ (r : Client). r.desk.seat) one)) going

  pub lost_so : Stands service later other
  lost_so = stands_moved g (Gone l ∷ g.tale.story) (suc g.tale.moment) g.over t other service is (record {
    rows = rows_then;
    there = there_then;
    numbers = λ k. refl;
    servers = λ at. servers_by at (nat_eq l.0 at.0) refl;
    homes = homes_but g later t other l homes_but_so is.homes;
    lawful = lawful;
    prepared = are_prepared g later.tale g.over g.fresh t other is.clients (λ m. refl) (owns_given g t later.tale given (λ other. is_link_id other l) refl is.clients gives are) is.prepared (λ client seated. seated)
        (λ c row there going. row_before c row (given c) refl there going);
    duly = is.duly;
  })
