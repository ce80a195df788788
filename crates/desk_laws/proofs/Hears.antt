-- An answer is read.
use Rattle.std.specs.Prelude.{◌≡◌, ℕ, Bool, false, Option, Some, None}
use Rattle.std.proofs.Common.{refl, ap, sym, ◌∙◌, subst}
use Rattle.server_rule.specs.Replies.{one_number}
use Rattle.private_model.specs.Commands.{Reply, end_of, is_ok, is_prepare}
use Rattle.private_model.specs.Names.{ClientNo, Hostgroup, LinkId, SessionName}
use Rattle.private_model.specs.Story.{Capture, Due, End, Heard, Own, Prep, Question, Statement, Sync, command_of, is_client, is_hostgroup, is_name, put}
use Rattle.private_model.specs.View.{Answered, Held, Setup, Stage, View, held_heard, place_after, view_heard, view_step}
use Rattle.link_state.specs.declared.asking.Asking.{Asking}
use Rattle.link_laws.specs.Stands.{Codes, IsAsking}
use Rattle.link_laws.proofs.Keeps.{id_question}
use Rattle.client_seat.specs.declared.phase.Phase.{Phase}
use Rattle.client_seat.specs.declared.phase.Phase.TheVariants as phase
use Rattle.client_seat.specs.declared.seat.Seat.{Seat}
use Rattle.client_desk.specs.Answers.{heard}
use Rattle.client_desk.specs.Desks.{anew_in, name_of, session_of, taken_on}
use Rattle.client_desk.specs.Desks as desks
use Rattle.client_desk.specs.Sessions.{put_in}
use Rattle.client_desk.specs.declared.desk.Desk.{Desk}
use Rattle.client_desk.specs.declared.session.Session.{Session}
use Rattle.desk_laws.specs.Spares.{IsAside, asked_for}
use Rattle.desk_laws.specs.Stands.{AreSessions, HasRow, IsDesk, IsPlaced, IsSession, IsShared, held_of, name_at}
use Rattle.desk_laws.proofs.Answering.{pin_same}
use Rattle.desk_laws.proofs.Changed.{aside_shared, desk_changed, moved_so, name_is, same_work, sessions_changed}
use Rattle.desk_laws.proofs.Clear.{ClearOr, heard_same}
use Rattle.desk_laws.proofs.Names.{in_other_hostgroup, of_other_life, put_apart, put_here, same_client, same_name}
use Rattle.desk_laws.proofs.Rows.{session_hostgroup, session_put}
use Rattle.desk_laws.proofs.Same.{Same, SameMessage}

module _ (setup : Setup) (codes : Codes) (view : View) (c : ClientNo) (desk : Desk) (is : IsDesk setup.reads view c desk) where
  heard_held : (asking : Asking) (question : Question) (shared : Option Bool) (reply : Reply) (s : Session) → IsAsking setup.reads codes asking question
      → reply.to_prepare ≡ is_prepare (command_of question) → IsShared question shared
      → held_heard setup.reads question reply (held_of s) ≡ held_of (heard asking shared (end_of reply) (one_number reply.payloads) s)
  heard_held asking question shared reply s asks kinds same = λ i. record {
    pin = pin_same setup.reads codes asking.purpose asking.form question shared reply s.pin asks.purpose asks.form kinds same i;
    id = id_question setup.reads codes asking.purpose asking.form question reply s.id asks.purpose asks.form i;
    home = s.home;
  }

  -- of a question for this session
  heard_view : (link : LinkId) (reply : Reply) (question : Question) (n : SessionName) → asked_for question ≡ Some n → (m : SessionName)
      → (view_heard setup view link reply (Answered question)).held m ≡ put is_name view.held n (held_heard setup.reads question reply (view.held n)) m
  heard_view link reply (Statement k due) n names m = let same : k ≡ n = cc in ap (λ (x : SessionName). put is_name view.held x (held_heard setup.reads (Statement k due) reply (view.held x)) m) same
  heard_view link reply (Prep k key text) n names m = let same : k ≡ n = cc in ap (λ (x : SessionName). put is_name view.held x (held_heard setup.reads (Prep k key text) reply (view.held x)) m) same
  heard_view link reply (Sync k command) n names m = let same : k ≡ n = cc in ap (λ (x : SessionName). put is_name view.held x (held_heard setup.reads (Sync k command) reply (view.held x)) m) same
  heard_view link reply (Own command) n names m = absurd (cc)
  heard_view link reply (End k) n names m = let same : k ≡ n = cc in ap (λ (x : SessionName). put is_name view.held x (held_heard setup.reads (End k) reply (view.held x)) m) same
  heard_view link reply (Capture k) n names m = let same : k ≡ n = cc in ap (λ (x : SessionName). put is_name view.held x (held_heard setup.reads (Capture k) reply (view.held x)) m) same

  heard_session : (link : LinkId) (reply : Reply) (question : Question) (asking : Asking) (shared : Option Bool) (h : Hostgroup) (s : Session)
      → asked_for question ≡ Some (name_at c h s.life) → IsAsking setup.reads codes asking question → reply.to_prepare ≡ is_prepare (command_of question)
      → IsShared question shared → IsSession view c h s
      → IsSession (view_heard setup view link reply (Answered question)) c h (heard asking shared (end_of reply) (one_number reply.payloads) s)
  heard_session link reply question asking shared h s names asks kinds same at =
      let n = name_at c h s.life in
      let hears : Held → Held = held_heard setup.reads question reply in
      record {
        life = at.life;
        held = heard_view link reply question n names n ∙ put_here is_name view.held n (hears (view.held n)) n (same_name n) ∙ ap hears at.held
            ∙ heard_held asking question shared reply s asks kinds same;
        lasting = at.lasting;
        unborn = λ life above.
            let unborn = at.unborn life above in
            record {
              held = heard_view link reply question n names (name_at c h life)
                  ∙ put_apart is_name view.held n (hears (view.held n)) (name_at c h life) (of_other_life c h life s.life above) ∙ unborn.held;
              due = unborn.due;
              lasting = unborn.lasting;
            };
      }

  heard_others : (link : LinkId) (reply : Reply) (question : Question) (h : Hostgroup) (life : ℕ) → asked_for question ≡ Some (name_at c h life)
      → (g : Hostgroup) → is_hostgroup g h ≡ false → Same view (view_heard setup view link reply (Answered question)) c g
  heard_others link reply question h life names g apart =
      heard_same setup view c g link reply (Answered question)
      (subst (λ (m : Option SessionName). ClearOr view c g m) (sym names) (λ other from. in_other_hostgroup c g h other life apart))

  heard_sessions : (link : LinkId) (reply : Reply) (question : Question) (asking : Asking) (shared : Option Bool) (h : Hostgroup)
      → asked_for question ≡ Some (name_at c h (session_of desk h).life) → IsAsking setup.reads codes asking question
      → reply.to_prepare ≡ is_prepare (command_of question) → IsShared question shared → HasRow desk.sessions h
      → AreSessions (view_heard setup view link reply (Answered question)) c desk.lefts
      (put_in desk.sessions (heard asking shared (end_of reply) (one_number reply.payloads) (session_of desk h)))
  heard_sessions link reply question asking shared h names asks kinds same there =
      let s = session_of desk h in
      let new = heard asking shared (end_of reply) (one_number reply.payloads) s in
      let of_h : new.hostgroup ≡ h = session_hostgroup desk.lefts desk.sessions h in
      sessions_changed view (view_heard setup view link reply (Answered question)) c h desk.lefts desk.sessions new is.sessions of_h
      (session_put desk.lefts desk.sessions new h of_h there) (heard_session link reply question asking shared h s names asks kinds same (is.sessions.each h))
      (heard_others link reply question h s.life names)

  -- of a question that is no statement

  aside_message : (link : LinkId) (reply : Reply) (question : Question) → IsAside question → (ordinal : ℕ)
      → SameMessage view (view_heard setup view link reply (Answered question)) c ordinal
  aside_message link reply (Statement n due) aside ordinal = absurd aside
  aside_message link reply (Prep n key text) aside ordinal = record { carrier = refl; reply = refl }
  aside_message link reply (Sync n command) aside ordinal = record { carrier = refl; reply = refl }
  aside_message link reply (Own command) aside ordinal = record { carrier = refl; reply = refl }
  aside_message link reply (End n) aside ordinal = record { carrier = refl; reply = refl }
  aside_message link reply (Capture n) aside ordinal = record { carrier = refl; reply = refl }

  aside_place : (link : LinkId) (reply : Reply) (question : Question) → IsAside question
      → (view_heard setup view link reply (Answered question)).places c ≡ view.places c
  aside_place link reply (Statement n due) aside = absurd aside
  aside_place link reply (Prep n key text) aside = refl
  aside_place link reply (Sync n command) aside = refl
  aside_place link reply (Own command) aside = refl
  aside_place link reply (End n) aside = refl
  aside_place link reply (Capture n) aside = refl

  aside_at : (link : LinkId) (reply : Reply) (question : Question) (asking : Asking) (shared : Option Bool) (h : Hostgroup) → IsAside question
      → asked_for question ≡ Some (name_at c h (session_of desk h).life) → IsAsking setup.reads codes asking question
      → reply.to_prepare ≡ is_prepare (command_of question) → IsShared question shared → HasRow desk.sessions h
      → IsDesk setup.reads (view_heard setup view link reply (Answered question)) c
      (desks.heard_in h asking shared (end_of reply) (one_number reply.payloads) desk)
  aside_at link reply question asking shared h aside names asks kinds same there =
      let after = view_heard setup view link reply (Answered question) in
      desk_changed setup.reads view after c desk (heard asking shared (end_of reply) (one_number reply.payloads) (session_of desk h)) is
      (heard_sessions link reply question asking shared h names asks kinds same there) (aside_place link reply question aside)
      (same_work view after c desk.work (aside_message link reply question aside) (λ g. refl))

  pub heard_so : (link : LinkId) (reply : Reply) (question : Question) (asking : Asking) (shared : Option Bool) (h : Hostgroup)
      → (view.links link).stage ≡ Answered question → IsAside question → asked_for question ≡ Some (name_of desk h) → IsAsking setup.reads codes asking question
      → reply.to_prepare ≡ is_prepare (command_of question) → HasRow desk.sessions h
      → IsDesk setup.reads (view_step setup view (Heard link reply)) c (desks.heard_in h asking shared (end_of reply) (one_number reply.payloads) desk)
  heard_so link reply question asking shared h there aside names asks kinds row =
      let named = names ∙ ap Some (name_is setup.reads view c desk h (name_of desk h) is refl) in
      subst (λ (stage : Stage). IsDesk setup.reads (view_heard setup view link reply stage) c (desks.heard_in h asking shared (end_of reply) (one_number reply.payloads) desk))
      (sym there) (aside_at link reply question asking shared h aside named asks kinds (aside_shared question shared aside) row)

  -- of a statement, which may move the client and is answered

  statement_at : (link : LinkId) (reply : Reply) (due : Due) (asking : Asking) (h : Hostgroup) (seat : Seat)
      → seat.client.number ≡ desk.seat.client.number → seat.phase ≡ desk.seat.phase
      → seat.place ≡ (desks.moved_by asking.form (is_ok reply) desk.seat).place
      → IsAsking setup.reads codes asking (Statement (name_at c h (session_of desk h).life) due) → reply.to_prepare ≡ is_prepare due.command
      → HasRow desk.sessions h
      → IsDesk setup.reads (view_heard setup view link reply (Answered (Statement (name_at c h (session_of desk h).life) due))) c
      (record (desks.heard_in h asking due.multiplex (end_of reply) (one_number reply.payloads) desk) { seat = seat; work = None })
  statement_at link reply due asking h seat number phases moved asks kinds row =
      let n = name_at c h (session_of desk h).life in
      let after = view_heard setup view link reply (Answered (Statement n due)) in
      record {
        number = number ∙ is.number;
        sessions = heard_sessions link reply (Statement n due) asking due.multiplex h refl asks kinds refl row;
        place = by seat.phase phases;
        work = tt;
        row = tt;
      } where
        by : (at : Phase) → at ≡ desk.seat.phase
            → IsPlaced at (view_heard setup view link reply (Answered (Statement (name_at c h (session_of desk h).life) due))) c seat.place
        by phase.LoggingIn e = tt
        by phase.Ended e = tt
        by (phase.Serving account) e =
            let stands : view.places c ≡ desk.seat.place = subst (λ (at : Phase). IsPlaced at view c desk.seat.place) (sym e) is.place in
            put_here is_client view.places c (place_after setup.reads due.command reply (view.places c)) c (same_client c)
            ∙ ap (place_after setup.reads due.command reply) stands ∙ moved_so setup.reads asking.form due.command reply desk.seat asks.form ∙ sym moved

  pub answered_so : (link : LinkId) (reply : Reply) (n : SessionName) (due : Due) (asking : Asking) (h : Hostgroup) (seat : Seat)
      → (view.links link).stage ≡ Answered (Statement n due) → n ≡ name_of desk h → seat.client.number ≡ desk.seat.client.number
      → seat.phase ≡ desk.seat.phase → seat.place ≡ (desks.moved_by asking.form (is_ok reply) desk.seat).place
      → IsAsking setup.reads codes asking (Statement n due) → reply.to_prepare ≡ is_prepare due.command → HasRow desk.sessions h
      → IsDesk setup.reads (view_step setup view (Heard link reply)) c
      (record (desks.heard_in h asking due.multiplex (end_of reply) (one_number reply.payloads) desk) { seat = seat; work = None })
  answered_so link reply n due asking h seat there names number phases moved asks kinds row =
      let same = name_is setup.reads view c desk h n is names in
      let stands : (view.links link).stage ≡ Answered (Statement (name_at c h (session_of desk h).life) due) =
      there ∙ ap (λ (m : SessionName). Answered (Statement m due)) same in
      subst (λ (stage : Stage). IsDesk setup.reads (view_heard setup view link reply stage) c
      (record (desks.heard_in h asking due.multiplex (end_of reply) (one_number reply.payloads) desk) { seat = seat; work = None })) (sym stands)
      (statement_at link reply due asking h seat number phases moved
      (subst (λ (m : SessionName). IsAsking setup.reads codes asking (Statement m due)) same asks) kinds row)
