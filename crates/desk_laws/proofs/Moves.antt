-- A statement becomes due and goes out.
use Rattle.std.specs.Prelude.{◌≡◌, ℕ, Bool, false, not, ◌||◌, List, Option, Some, None}
use Rattle.std.specs.Option.{option_map}
use Rattle.std.proofs.Common.{refl, ap, sym, ◌∙◌, subst}
use Rattle.session_state.specs.Pins.{is_pinned}
use Rattle.private_model.specs.Commands.{Command, class_of}
use Rattle.private_model.specs.Names.{ClientNo, Hostgroup, LinkId, SessionName}
use Rattle.private_model.specs.Story.{BecameDue, Due, Happening, Prep, Sent, Statement, is_message, is_name, message_of, put}
use Rattle.private_model.specs.View.{Held, Setup, View, due_of, present, view_step}
use Rattle.client_desk.specs.Desks.{anew_in, name_of, session_of, taken_on}
use Rattle.client_desk.specs.Desks as desks
use Rattle.client_desk.specs.Sessions.{homed, put_in, stated}
use Rattle.client_desk.specs.Works.{gone_out, outlasts}
use Rattle.client_desk.specs.declared.desk.Desk.{Desk}
use Rattle.client_desk.specs.declared.session.Session.{Session}
use Rattle.client_desk.specs.declared.work.Work.{Work}
use Rattle.desk_laws.specs.Stands.{HasRow, HasRowFor, IsDesk, IsRequest, IsSentOrNot, IsSession, IsUnsent, IsWork, IsWorkOr, message_at, name_at}
use Rattle.desk_laws.proofs.Changed.{asked_due, desk_changed, name_is, places_stay, present_held, present_is, same_work, sessions_changed}
use Rattle.desk_laws.proofs.Clear.{clear_same}
use Rattle.desk_laws.proofs.Names.{in_other_hostgroup, of_other_life, put_apart, put_here, same_message, same_name}
use Rattle.desk_laws.proofs.Rows.{distinct_with_row, has_row, row_put, session_hostgroup, session_put, session_with_row}
use Rattle.desk_laws.proofs.Same.{session_stays}

module _ (setup : Setup) (view : View) (c : ClientNo) (desk : Desk) (is : IsDesk setup.reads view c desk) where
  pub due_so : (work : Work) (ordinal key : ℕ) (command : Command) (multiplex : Option Bool) → IsRequest setup.reads ordinal key command multiplex work
      → view.places c ≡ desk.seat.place → view.carriers (message_at c ordinal) ≡ None → view.replies (message_at c ordinal) ≡ None
      → IsDesk setup.reads (view_step setup view (BecameDue c work.hostgroup ordinal key command multiplex)) c (taken_on work desk)
  due_so work ordinal key command multiplex asked stands unsent unanswered =
      let e : Happening = BecameDue c work.hostgroup ordinal key command multiplex in
      let n = present view c work.hostgroup in
      let s = session_of desk work.hostgroup in
      record {
        number = is.number;
        sessions = record {
          each = λ g. subst (λ (x : Session). IsSession (view_step setup view e) c g x) (sym (session_with_row desk.lefts work.hostgroup g desk.sessions))
              (session_stays view (view_step setup view e) c g (session_of desk g) (clear_same setup view c g e tt) (is.sessions.each g));
          distinct = distinct_with_row desk.lefts work.hostgroup desk.sessions is.sessions.distinct;
        };
        place = places_stay view (view_step setup view e) c desk.seat.phase desk.seat.place refl is.place;
        work = record {
          sent_or_not = record {
            due = due_of view n ordinal key command multiplex;
            is_due = put_here is_name view.dues n (Some (due_of view n ordinal key command multiplex)) n (same_name n);
            as_due = record {
              request = asked_due setup.reads ordinal key command multiplex work (anew_in desk work.hostgroup) asked;
              place_is = stands;
              anew_is = ap (λ (held : Held). not (is_pinned held.pin)) (present_held view c work.hostgroup s (is.sessions.each work.hostgroup));
            };
            unsent = subst (λ (k : ℕ). view.carriers (message_at c k) ≡ None) asked.ordinal_is unsent;
          };
          unanswered = subst (λ (k : ℕ). view.replies (message_at c k) ≡ None) asked.ordinal_is unanswered;
        };
        row = has_row desk.lefts work.hostgroup desk.sessions;
      }

  -- A preparation goes out on the way to a statement.

  lent_session : (link : LinkId) (h : Hostgroup) (key : ℕ) (text : List ℕ) (s : Session) → IsSession view c h s
      → IsSession (view_step setup view (Sent link (Prep (name_at c h s.life) key text))) c h (homed link s)
  lent_session link h key text s at =
      let n = name_at c h s.life in
      let homes : Held → Held = λ held. record held { home = Some link } in
      record {
        life = at.life;
        held = put_here is_name view.held n (homes (view.held n)) n (same_name n) ∙ ap homes at.held;
        lasting = at.lasting;
        unborn = λ life above.
            let unborn = at.unborn life above in
            record {
              held = put_apart is_name view.held n (homes (view.held n)) (name_at c h life) (of_other_life c h life s.life above) ∙ unborn.held;
              due = unborn.due;
              lasting = unborn.lasting;
            };
      }

  lent_at : (link : LinkId) (h : Hostgroup) (key : ℕ) (text : List ℕ) → HasRow desk.sessions h
      → IsDesk setup.reads (view_step setup view (Sent link (Prep (name_at c h (session_of desk h).life) key text))) c (desks.lent h link desk)
  lent_at link h key text there =
      let s = session_of desk h in
      let e : Happening = Sent link (Prep (name_at c h s.life) key text) in
      let of_h : (homed link s).hostgroup ≡ h = session_hostgroup desk.lefts desk.sessions h in
      desk_changed setup.reads view (view_step setup view e) c desk (homed link s) is
      (sessions_changed view (view_step setup view e) c h desk.lefts desk.sessions (homed link s) is.sessions of_h
      (session_put desk.lefts desk.sessions (homed link s) h of_h there) (lent_session link h key text s (is.sessions.each h))
      (λ g apart. clear_same setup view c g e (λ life from. in_other_hostgroup c g h life s.life apart)))
      refl (same_work view (view_step setup view e) c desk.work (λ ordinal. record { carrier = refl; reply = refl }) (λ g. refl))

  pub lent_so : (link : LinkId) (h : Hostgroup) (n : SessionName) (key : ℕ) (text : List ℕ) → n ≡ name_of desk h → HasRow desk.sessions h
      → IsDesk setup.reads (view_step setup view (Sent link (Prep n key text))) c (desks.lent h link desk)
  lent_so link h n key text names there =
      subst (λ (m : SessionName). IsDesk setup.reads (view_step setup view (Sent link (Prep m key text))) c (desks.lent h link desk))
      (sym (name_is setup.reads view c desk h n is names)) (lent_at link h key text there)

  -- The statement goes out.

  stated_session : (link : LinkId) (h : Hostgroup) (due : Due) (outlasts : Bool) (s : Session) → outlasts ≡ (class_of setup.reads due.command).outlasts_reset
      → IsSession view c h s → IsSession (view_step setup view (Sent link (Statement (name_at c h s.life) due))) c h (stated link outlasts s)
  stated_session link h due outlasts s lasts at =
      let n = name_at c h s.life in
      let homes : Held → Held = λ held. record held { home = Some link } in
      record {
        life = at.life;
        held = put_here is_name view.held n (homes (view.held n)) n (same_name n) ∙ ap homes at.held;
        lasting = put_here is_name view.lasting n _ n (same_name n) ∙ (λ i. at.lasting i || sym lasts i);
        unborn = λ life above.
            let unborn = at.unborn life above in
            let other = of_other_life c h life s.life above in
            record {
              held = put_apart is_name view.held n (homes (view.held n)) (name_at c h life) other ∙ unborn.held;
              due = put_apart is_name view.dues n None (name_at c h life) other ∙ unborn.due;
              lasting = put_apart is_name view.lasting n _ (name_at c h life) other ∙ unborn.lasting;
            };
      }

  stated_work : (link : LinkId) (h : Hostgroup) (due : Due) (work : Work) → work.hostgroup ≡ h → work.sent ≡ false
      → view.dues (name_at c h (session_of desk h).life) ≡ Some due → IsWork setup.reads view c desk.seat.place work
      → IsWork setup.reads (view_step setup view (Sent link (Statement (name_at c h (session_of desk h).life) due))) c desk.seat.place (gone_out work)
  stated_work link h due work of_h unsent at is_work =
      let n = name_at c h (session_of desk h).life in
      let waits : IsUnsent setup.reads view c desk.seat.place work = subst (λ (sent : Bool). IsSentOrNot sent setup.reads view c desk.seat.place work) unsent is_work.sent_or_not in
      let there : view.dues (present view c work.hostgroup) ≡ Some due =
      ap (λ (g : Hostgroup). view.dues (present view c g)) of_h ∙ ap view.dues (present_is view c h (session_of desk h) (is.sessions.each h)) ∙ at in
      let some : Some waits.due ≡ Some due = sym waits.is_due ∙ there in
      let same : waits.due ≡ due = cc in
      let ordinal : due.ordinal ≡ work.ordinal = ap (λ (d : Due). d.ordinal) (sym same) ∙ waits.as_due.request.ordinal_is in
      record {
        sent_or_not = record {
          link = link;
          carrier = subst (λ (k : ℕ). (put is_message view.carriers (message_of n due) (Some link)) (message_at c k) ≡ Some link) ordinal
              (put_here is_message view.carriers (message_of n due) (Some link) (message_of n due) (same_message (message_of n due)));
        };
        unanswered = is_work.unanswered;
      }

  stated_at : (link : LinkId) (h : Hostgroup) (due : Due) (outlasts : Bool) (work : Work) → outlasts ≡ (class_of setup.reads due.command).outlasts_reset
      → desk.work ≡ Some work → work.hostgroup ≡ h → work.sent ≡ false → view.dues (name_at c h (session_of desk h).life) ≡ Some due
      → IsDesk setup.reads (view_step setup view (Sent link (Statement (name_at c h (session_of desk h).life) due))) c (desks.sent h link outlasts desk)
  stated_at link h due outlasts work lasts works of_h unsent at =
      let s = session_of desk h in
      let e : Happening = Sent link (Statement (name_at c h s.life) due) in
      let named_h : (stated link outlasts s).hostgroup ≡ h = session_hostgroup desk.lefts desk.sessions h in
      let row : HasRow desk.sessions work.hostgroup = subst (λ (w : Option Work). HasRowFor desk.sessions w) works is.row in
      let there : HasRow desk.sessions h = subst (λ (g : Hostgroup). HasRow desk.sessions g) of_h row in
      let is_work : IsWork setup.reads view c desk.seat.place work = subst (λ (w : Option Work). IsWorkOr setup.reads view c desk.seat.place w) works is.work in
      record {
        number = is.number;
        sessions = sessions_changed view (view_step setup view e) c h desk.lefts desk.sessions (stated link outlasts s) is.sessions named_h
            (session_put desk.lefts desk.sessions (stated link outlasts s) h named_h there) (stated_session link h due outlasts s lasts (is.sessions.each h))
            (λ g apart. clear_same setup view c g e (λ life from. in_other_hostgroup c g h life s.life apart));
        place = places_stay view (view_step setup view e) c desk.seat.phase desk.seat.place refl is.place;
        work = subst (λ (w : Option Work). IsWorkOr setup.reads (view_step setup view e) c desk.seat.place (option_map gone_out w)) (sym works)
            (stated_work link h due work of_h unsent at is_work);
        row = subst (λ (w : Option Work). HasRowFor (put_in desk.sessions (stated link outlasts s)) (option_map gone_out w)) (sym works)
            (row_put desk.sessions (stated link outlasts s) work.hostgroup row);
      }

  pub sent_so : (link : LinkId) (h : Hostgroup) (n : SessionName) (due : Due) (outlasts : Bool) (work : Work) → n ≡ name_of desk h
      → outlasts ≡ (class_of setup.reads due.command).outlasts_reset → desk.work ≡ Some work → work.hostgroup ≡ h → work.sent ≡ false
      → view.dues n ≡ Some due → IsDesk setup.reads (view_step setup view (Sent link (Statement n due))) c (desks.sent h link outlasts desk)
  sent_so link h n due outlasts work names lasts works of_h unsent at =
      let same = name_is setup.reads view c desk h n is names in
      subst (λ (m : SessionName). IsDesk setup.reads (view_step setup view (Sent link (Statement m due))) c (desks.sent h link outlasts desk)) (sym same)
      (stated_at link h due outlasts work lasts works of_h unsent (subst (λ (m : SessionName). view.dues m ≡ Some due) same at))
