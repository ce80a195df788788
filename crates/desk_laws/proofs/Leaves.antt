-- A link is given back or lost, and a client leaves its sessions.
use Rattle.std.specs.Prelude.{◌≡◌, ◌<◌, ℕ, suc, ◌^◌, Bool, false, if◌then◌else◌, Option, Some, None}
use Rattle.std.specs.Option.{option_map_or}
use Rattle.std.proofs.Common.{refl, ap, sym, ◌∙◌, arith, subst}
use Rattle.private_model.specs.Names.{ClientNo, Hostgroup, LinkId, SessionName}
use Rattle.private_model.specs.Story.{Freed, Gone, Left, is_client, is_hostgroup, is_name, put}
use Rattle.private_model.specs.View.{Answered, Held, Setup, Stage, View, due_of, first_view, held_heard, lives_after, place_after, present, view_heard, view_step}
use Rattle.private_model.specs.View as views
use Rattle.client_seat.specs.Takings.{begun_anew}
use Rattle.session_vars.specs.Settings.{collation_settings}
use Rattle.client_seat.specs.declared.seat.Seat.{Seat}
use Rattle.client_desk.specs.Desks.{anew_in, name_of, session_of, taken_on}
use Rattle.client_desk.specs.Desks as desks
use Rattle.client_desk.specs.Sessions.{next_life, next_session, parted_by, parted_of, unhomed}
use Rattle.client_desk.specs.declared.desk.Desk.{Desk}
use Rattle.client_desk.specs.declared.session.Parted.{Parted}
use Rattle.client_desk.specs.declared.session.Session.{Session}
use Rattle.client_desk.specs.declared.work.Work.{Work}
use Rattle.desk_laws.specs.Spares.{IsElsewhere}
use Rattle.desk_laws.specs.Stands.{HasRow, IsDesk, IsParted, IsPlaced, IsSession, name_at}
use Rattle.desk_laws.proofs.Changed.{desk_changed, name_is, next_is, same_work, SameWork, sessions_changed, some_is}
use Rattle.desk_laws.proofs.Clear.{ClearOr, clear_same, due_same}
use Rattle.desk_laws.proofs.Names.{in_other_hostgroup, of_other_life, put_apart, put_here, same_client, same_name}
use Rattle.desk_laws.proofs.Rows.{distinct_next, session_hostgroup, session_next, session_put, session_unhomed}

module _ (setup : Setup) (view : View) (c : ClientNo) (desk : Desk) (is : IsDesk setup.reads view c desk) where
  -- A link is given back.

  freed_view : (link : LinkId) (n : SessionName) → views.session_in (view.links link).carries ≡ Some n → (m : SessionName)
      → (view_step setup view (Freed link)).held m ≡ put is_name view.held n (record (view.held n) { home = None }) m
  freed_view link n carries m =
      ap (λ (x : Option SessionName). option_map_or (λ (k : SessionName). put is_name view.held k (record (view.held k) { home = None })) x view.held m) carries

  freed_session : (link : LinkId) (h : Hostgroup) (s : Session) → views.session_in (view.links link).carries ≡ Some (name_at c h s.life) → IsSession view c h s
      → IsSession (view_step setup view (Freed link)) c h (unhomed s)
  freed_session link h s carries at =
      let n = name_at c h s.life in
      let frees : Held → Held = λ held. record held { home = None } in
      record {
        life = at.life;
        held = freed_view link n carries n ∙ put_here is_name view.held n (frees (view.held n)) n (same_name n) ∙ ap frees at.held;
        lasting = at.lasting;
        unborn = λ life above.
            let unborn = at.unborn life above in
            record {
              held = freed_view link n carries (name_at c h life)
                  ∙ put_apart is_name view.held n (frees (view.held n)) (name_at c h life) (of_other_life c h life s.life above) ∙ unborn.held;
              due = unborn.due;
              lasting = unborn.lasting;
            };
      }

  -- what a link carries is this session, so those of other hostgroups are clear of it
  clear_of : (link : LinkId) (h : Hostgroup) (life : ℕ) → views.session_in (view.links link).carries ≡ Some (name_at c h life) → (g : Hostgroup)
      → is_hostgroup g h ≡ false → ClearOr view c g (views.session_in (view.links link).carries)
  clear_of link h life carries g apart =
      subst (λ (m : Option SessionName). ClearOr view c g m) (sym carries) (λ other from. in_other_hostgroup c g h other life apart)

  pub freed_so : (link : LinkId) (h : Hostgroup) → views.session_in (view.links link).carries ≡ Some (name_of desk h)
      → IsDesk setup.reads (view_step setup view (Freed link)) c (desks.freed h desk)
  freed_so link h carries =
      let s = session_of desk h in
      let after = view_step setup view (Freed link) in
      let named : views.session_in (view.links link).carries ≡ Some (name_at c h s.life) = carries ∙ ap Some (name_is setup.reads view c desk h (name_of desk h) is refl) in
      desk_changed setup.reads view after c desk (unhomed s) is
      (sessions_changed view after c h desk.lefts desk.sessions (unhomed s) is.sessions (session_hostgroup desk.lefts desk.sessions h)
      (session_unhomed desk.lefts desk.sessions h) (freed_session link h s named (is.sessions.each h))
      (λ g apart. clear_same setup view c g (Freed link) (clear_of link h s.life named g apart)))
      refl (same_work view after c desk.work (λ ordinal. record { carrier = refl; reply = refl }) (λ g. refl))

  -- A link is lost, and the client leaves.

  -- the session that follows: nothing happened in it
  next_one : (after : View) (h : Hostgroup) (s : Session) → after.lives c h ≡ suc (view.lives c h) → suc (view.lives c h) < 2 ^ 64
      → ((n : SessionName) → after.held n ≡ view.held n) → ((n : SessionName) → after.dues n ≡ view.dues n) → ((n : SessionName) → after.lasting n ≡ view.lasting n)
      → IsSession view c h s → IsSession after c h (next_session s)
  next_one after h s lives bounded helds dues lastings at =
      let next : next_life s.life ≡ suc s.life = next_is s.life (subst (λ (life : ℕ). suc life < 2 ^ 64) at.life bounded) in
      let above : s.life < next_life s.life = rw next (omega arith) in
      let first = at.unborn (next_life s.life) above in
      record {
        life = lives ∙ ap suc at.life ∙ sym next;
        held = helds (name_at c h (next_life s.life)) ∙ first.held;
        lasting = lastings (name_at c h (next_life s.life)) ∙ first.lasting;
        unborn = λ life later.
            let over : s.life < life = omega arith in
            let unborn = at.unborn life over in
            record {
              held = helds (name_at c h life) ∙ unborn.held;
              due = dues (name_at c h life) ∙ unborn.due;
              lasting = lastings (name_at c h life) ∙ unborn.lasting;
            };
      }

  gone_lives : (link : LinkId) (h : Hostgroup) → views.session_in (view.links link).carries ≡ Some (name_at c h (session_of desk h).life)
      → (view_step setup view (Gone link)).lives c h ≡ suc (view.lives c h)
  gone_lives link h carries =
      ap (λ (x : Option SessionName). option_map_or (λ (k : SessionName). lives_after k view.lives) x view.lives c h) carries
      ∙ ap (λ (life : ℕ). if is_name (name_at c h (view.lives c h)) (name_at c h life) then suc (view.lives c h) else view.lives c h) (sym (is.sessions.each h).life)
      ∙ ap (λ (same : Bool). if same then suc (view.lives c h) else view.lives c h) (same_name (name_at c h (view.lives c h)))

  gone_work : (link : LinkId) (h : Hostgroup) (work : Option Work) → views.session_in (view.links link).carries ≡ Some (name_at c h (session_of desk h).life)
      → IsElsewhere h work → SameWork view (view_step setup view (Gone link)) c work
  gone_work link h None carries elsewhere = tt
  gone_work link h (Some work) carries elsewhere = (
    record { carrier = refl; reply = refl },
    due_same setup view c work.hostgroup (Gone link) (clear_of link h (session_of desk h).life carries work.hostgroup elsewhere) tt,
  )

  pub gone_so : (link : LinkId) (h : Hostgroup) → views.session_in (view.links link).carries ≡ Some (name_of desk h) → HasRow desk.sessions h
      → suc (view.lives c h) < 2 ^ 64 → IsElsewhere h desk.work
      → IsDesk setup.reads (view_step setup view (Gone link)) c (desks.gone h desk)
  gone_so link h carries there bounded elsewhere =
      let s = session_of desk h in
      let after = view_step setup view (Gone link) in
      let of_h : (next_session s).hostgroup ≡ h = session_hostgroup desk.lefts desk.sessions h in
      let named : views.session_in (view.links link).carries ≡ Some (name_at c h s.life) = carries ∙ ap Some (name_is setup.reads view c desk h (name_of desk h) is refl) in
      desk_changed setup.reads view after c desk (next_session s) is
      (sessions_changed view after c h desk.lefts desk.sessions (next_session s) is.sessions of_h
      (session_put desk.lefts desk.sessions (next_session s) h of_h there)
      (next_one after h s (gone_lives link h named) bounded (λ n. refl) (λ n. refl) (λ n. refl) (is.sessions.each h))
      (λ g apart. clear_same setup view c g (Gone link) (clear_of link h s.life named g apart)))
      refl (gone_work link h desk.work named elsewhere)

  left_lives : (h : Hostgroup) → (view_step setup view (Left c)).lives c h ≡ suc (view.lives c h)
  left_lives h = ap (λ (same : Bool). if same then suc (view.lives c h) else view.lives c h) (same_client c)

  pub left_so : (seat : Seat) → ((h : Hostgroup) → suc (view.lives c h) < 2 ^ 64) → seat.client.number ≡ desk.seat.client.number
      → IsPlaced seat.phase (view_step setup view (Left c)) c seat.place
      → IsDesk setup.reads (view_step setup view (Left c)) c (record (desks.left desk) { seat = seat })
  left_so seat bounded number stands =
      let after = view_step setup view (Left c) in
      record {
        number = number ∙ is.number;
        sessions = record {
          each = λ h. subst (λ (x : Session). IsSession after c h x) (sym (session_next desk.lefts desk.sessions h))
              (next_one after h (session_of desk h) (left_lives h) (bounded h) (λ n. refl) (λ n. refl) (λ n. refl) (is.sessions.each h));
          distinct = distinct_next desk.sessions is.sessions.distinct;
        };
        place = stands;
        work = tt;
        row = tt;
      }

  -- what is handed on of a session that is left
  pub parted_so : (h : Hostgroup) (p : Parted) → parted_of (session_of desk h) ≡ Some p → IsParted (view_step setup view (Left c)) c p
  parted_so h p parts = by (session_of desk h).home refl parts where
    by : (home : Option LinkId) → (session_of desk h).home ≡ home → parted_by (session_of desk h) home ≡ Some p → IsParted (view_step setup view (Left c)) c p
    by None none given = absurd (cc)
    by (Some link) some given =
        let s = session_of desk h in
        let at = is.sessions.each h in
        let of_h : s.hostgroup ≡ h = session_hostgroup desk.lefts desk.sessions h in
        let one : Parted = record { hostgroup = s.hostgroup; life = s.life; link = link; pin = s.pin; id = s.id; lasting = s.lasting } in
        let same : one ≡ p = some_is one p given in
        subst (λ (q : Parted). IsParted (view_step setup view (Left c)) c q) same (record {
          held = ap (λ (g : Hostgroup). view.held (name_at c g s.life)) of_h ∙ at.held ∙ ap (λ (x : Option LinkId). record { pin = s.pin; id = s.id; home = x }) some;
          lasting = ap (λ (g : Hostgroup). view.lasting (name_at c g s.life)) of_h ∙ at.lasting;
          left =
              let one_more : (view_step setup view (Left c)).lives c s.hostgroup ≡ suc s.life =
              left_lives s.hostgroup ∙ ap (λ (g : Hostgroup). suc (view.lives c g)) of_h ∙ ap suc at.life in
              rw one_more (omega arith);
        })

-- A client that begins anew has the settings of its login.
pub anew_so : (setup : Setup) (view : View) (c : ClientNo) (seat : Seat) → view.places c ≡ seat.place → (setup.places c).settings ≡ collation_settings seat.collation
    → (view_step setup view (Left c)).places c ≡ (begun_anew seat).place
anew_so setup view c seat stands settings =
    put_here is_client view.places c (record (view.places c) { settings = (setup.places c).settings }) c (same_client c)
    ∙ (λ i. record { schema = (stands i).schema; settings = settings i })
