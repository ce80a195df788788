-- A desk of which one session changed.
use Rattle.std.specs.Prelude.{◌≡◌, ◌<◌, ℕ, suc, ◌^◌, Bool, true, false, List, [], Option, Some, None}
use Rattle.std.proofs.Common.{refl, ap, sym, ◌∙◌, arith, subst}
use Rattle.std.proofs.lemmas.Option.{none-some}
use Rattle.pin_classifier.specs.declared.class.Class.{Class}
use Rattle.session_state.specs.Classes.{Neither, effect_of, schema_by, settings_by}
use Rattle.session_state.specs.declared.place.Place.{Place}
use Rattle.server_rule.specs.Classes.{Reads}
use Rattle.private_model.specs.Commands as commands
use Rattle.private_model.specs.Commands.{Command, Reply, class_of, end_of, is_ok, is_prepare}
use Rattle.private_model.specs.Names.{ClientNo, Hostgroup, LinkId, SessionName}
use Rattle.private_model.specs.Story.{Capture, End, Own, Prep, Question, Statement, Sync, is_hostgroup}
use Rattle.private_model.specs.View.{Held, Setup, View, first_view, place_after, present}
use Rattle.link_state.specs.declared.asking.Form.{Form}
use Rattle.link_state.specs.declared.asking.Form.TheVariants.{Text, Fields, Prepare, SetId, ReadId, Reset}
use Rattle.link_laws.specs.Stands.{IsForm}
use Rattle.client_seat.specs.Seats.{place_by}
use Rattle.client_seat.specs.declared.phase.Phase.{Phase}
use Rattle.client_seat.specs.declared.phase.Phase.TheVariants as phase
use Rattle.client_seat.specs.declared.seat.Seat.{Seat}
use Rattle.client_desk.specs.Desks.{anew_in, name_of, session_of, taken_on}
use Rattle.client_desk.specs.Desks as desks
use Rattle.client_desk.specs.Sessions.{next_life, put_in, session_in}
use Rattle.client_desk.specs.Works.{outlasts}
use Rattle.client_desk.specs.declared.desk.Desk.{Desk}
use Rattle.client_desk.specs.declared.session.Session.{Session}
use Rattle.client_desk.specs.declared.work.Work.{Work}
use Rattle.desk_laws.specs.Spares.{IsAside}
use Rattle.desk_laws.specs.Stands.{AreSessions, AreToCome, HasRow, HasRowFor, IsDesk, IsPlaced, IsRequest, IsSession, IsShared, IsWorkOr, held_of, name_at}
use Rattle.desk_laws.proofs.Names.{hostgroup_of}
use Rattle.desk_laws.proofs.Rows.{distinct_put, home_row, row_put, session_elsewhere}
use Rattle.desk_laws.proofs.Same.{Same, SameDue, SameMessage, session_stays, work_stays}

-- The present session, by its name.

pub present_is : (view : View) (c : ClientNo) (h : Hostgroup) (s : Session) → IsSession view c h s → present view c h ≡ name_at c h s.life
present_is view c h s is = ap (λ (life : ℕ). name_at c h life) is.life

pub present_held : (view : View) (c : ClientNo) (h : Hostgroup) (s : Session) → IsSession view c h s → view.held (present view c h) ≡ held_of s
present_held view c h s is = ap view.held (present_is view c h s is) ∙ is.held

pub name_is : (reads : Reads) (view : View) (c : ClientNo) (desk : Desk) (h : Hostgroup) (n : SessionName) → IsDesk reads view c desk → n ≡ name_of desk h
    → n ≡ name_at c h (session_of desk h).life
name_is reads view c desk h n is names = names ∙ ap (λ (d : ClientNo). name_at d h (session_of desk h).life) is.number

pub present_name_so : (reads : Reads) (view : View) (c : ClientNo) (desk : Desk) → IsDesk reads view c desk → (h : Hostgroup)
    → present view c h ≡ name_of desk h
present_name_so reads view c desk is h =
    present_is view c h (session_of desk h) (is.sessions.each h) ∙ sym (name_is reads view c desk h (name_of desk h) is refl)

pub present_held_so : (reads : Reads) (view : View) (c : ClientNo) (desk : Desk) → IsDesk reads view c desk → (h : Hostgroup)
    → view.held (present view c h) ≡ held_of (session_of desk h)
present_held_so reads view c desk is h = present_held view c h (session_of desk h) (is.sessions.each h)

pub present_lasting_so : (reads : Reads) (view : View) (c : ClientNo) (desk : Desk) → IsDesk reads view c desk → (h : Hostgroup)
    → view.lasting (present view c h) ≡ (session_of desk h).lasting
present_lasting_so reads view c desk is h =
    ap view.lasting (present_is view c h (session_of desk h) (is.sessions.each h)) ∙ (is.sessions.each h).lasting

pub homes_so : (reads : Reads) (view : View) (c : ClientNo) (desk : Desk) → IsDesk reads view c desk → (h : Hostgroup) (link : LinkId)
    → (view.held (name_of desk h)).home ≡ Some link → HasRow desk.sessions h
homes_so reads view c desk is h link at =
    home_row desk.lefts desk.sessions h link
    (ap (λ (held : Held). held.home) (sym (present_held_so reads view c desk is h))
    ∙ ap (λ (n : SessionName). (view.held n).home) (present_name_so reads view c desk is h) ∙ at)

-- Before anything happens.

pub first_sessions : (setup : Setup) (c : ClientNo) → AreSessions (first_view setup) c 0 []
first_sessions setup c = record {
  each = λ h. record { life = refl; held = refl; lasting = refl; unborn = λ life above. record { held = refl; due = refl; lasting = refl } };
  distinct = tt;
}

pub first_messages : (setup : Setup) (c : ClientNo) (from : ℕ) → AreToCome (first_view setup) c from
first_messages setup c from = record {
  unsent = λ ordinal after. refl;
  unanswered = λ ordinal after. refl;
  due = λ n due its there. absurd (none-some due there);
}

-- What a reset may not take back.
pub outlasts_so : (reads : Reads) (form : Form) (command : Command) → IsForm reads form command → outlasts form ≡ (class_of reads command).outlasts_reset
outlasts_so reads (Text class) (commands.Query text) is = ap (λ (x : Class). x.outlasts_reset) is.is
outlasts_so reads (Text class) (commands.Run text schema settings args) is = ap (λ (x : Class). x.outlasts_reset) is.is
outlasts_so reads (Text class) (commands.InitDb schema) is = ap (λ (x : Class). x.outlasts_reset) is
outlasts_so reads Fields (commands.FieldList rest) is = refl
outlasts_so reads (Prepare class) (commands.Prepare text) is = refl
outlasts_so reads (SetId id) (commands.SetId n) is = refl
outlasts_so reads ReadId commands.ReadId is = refl
outlasts_so reads Reset commands.Reset is = refl
outlasts_so reads _ _ is = absurd is

-- One session changed, and those of other hostgroups are the same.

pub sessions_changed : (view after : View) (c : ClientNo) (h : Hostgroup) (lefts : ℕ) (rows : List Session) (s : Session) → AreSessions view c lefts rows
    → s.hostgroup ≡ h → session_in lefts (put_in rows s) h ≡ s → IsSession after c h s
    → ((g : Hostgroup) → is_hostgroup g h ≡ false → Same view after c g) → AreSessions after c lefts (put_in rows s)
sessions_changed view after c h lefts rows s are of_h there now same =
    record { each = λ g. by g (is_hostgroup g h) refl; distinct = distinct_put rows s are.distinct } where
      by : (g : Hostgroup) (here : Bool) → is_hostgroup g h ≡ here → IsSession after c g (session_in lefts (put_in rows s) g)
      by g true e =
          subst (λ (k : Hostgroup). IsSession after c k (session_in lefts (put_in rows s) k)) (sym (hostgroup_of g h e))
          (subst (λ (x : Session). IsSession after c h x) (sym there) now)
      by g false e =
          let apart : is_hostgroup g s.hostgroup ≡ false = subst (λ (k : Hostgroup). is_hostgroup g k ≡ false) (sym of_h) e in
          subst (λ (x : Session). IsSession after c g x) (sym (session_elsewhere lefts rows s g apart))
          (session_stays view after c g (session_in lefts rows g) (same g e) (are.each g))

-- of the rest of a desk, where its work isn't touched

abbrev pub SameWork : (view after : View) → ClientNo → Option Work → Type 0
SameWork view after c None = Unit {0}
SameWork view after c (Some work) = SameMessage view after c work.ordinal × SameDue view after c work.hostgroup

pub works_stay : (reads : Reads) (view after : View) (c : ClientNo) (place : Place) (work : Option Work) → SameWork view after c work
    → IsWorkOr reads view c place work → IsWorkOr reads after c place work
works_stay reads view after c place None same is = tt
works_stay reads view after c place (Some work) same is = work_stays reads view after c place work same.0 same.1 is

pub same_work : (view after : View) (c : ClientNo) (work : Option Work) → ((ordinal : ℕ) → SameMessage view after c ordinal)
    → ((h : Hostgroup) → SameDue view after c h) → SameWork view after c work
same_work view after c None messages dues = tt
same_work view after c (Some work) messages dues = (messages work.ordinal, dues work.hostgroup)

pub rows_stay : (rows : List Session) (s : Session) (work : Option Work) → HasRowFor rows work → HasRowFor (put_in rows s) work
rows_stay rows s None there = tt
rows_stay rows s (Some work) there = row_put rows s work.hostgroup there

pub places_stay : (view after : View) (c : ClientNo) (at : Phase) (place : Place) → after.places c ≡ view.places c → IsPlaced at view c place → IsPlaced at after c place
places_stay view after c phase.LoggingIn place same is = tt
places_stay view after c (phase.Serving account) place same is = same ∙ is
places_stay view after c phase.Ended place same is = tt

-- the desk with another row, of which all else is as before
pub desk_changed : (reads : Reads) (view after : View) (c : ClientNo) (desk : Desk) (s : Session) → IsDesk reads view c desk
    → AreSessions after c desk.lefts (put_in desk.sessions s) → after.places c ≡ view.places c → SameWork view after c desk.work
    → IsDesk reads after c (record desk { sessions = put_in desk.sessions s })
desk_changed reads view after c desk s is sessions places works = record {
  number = is.number;
  sessions = sessions;
  place = places_stay view after c desk.seat.phase desk.seat.place places is.place;
  work = works_stay reads view after c desk.seat.place desk.work works is.work;
  row = rows_stay desk.sessions s desk.work is.row;
}

-- A statement becomes due.

pub asked_due : (reads : Reads) (ordinal key : ℕ) (command : Command) (multiplex : Option Bool) (work : Work) (new : Bool) → IsRequest reads ordinal key command multiplex work
    → IsRequest reads ordinal key command multiplex (record work { anew = new; sent = false })
asked_due reads ordinal key command multiplex work new asked =
    record { ordinal_is = asked.ordinal_is; key_is = asked.key_is; multiplex_is = asked.multiplex_is; kind = asked.kind; marks = asked.marks; form = asked.form; body = asked.body }

pub some_is : {A : Type 0} (a b : A) → Some a ≡ Some b → a ≡ b
some_is a b e = cc

-- the life behind one, of few
pub next_is : (life : ℕ) → suc life < 2 ^ 64 → next_life life ≡ suc life
next_is life few = omega arith

-- a question that is no statement has no word of a rule
pub aside_shared : (question : Question) (shared : Option Bool) → IsAside question → IsShared question shared
aside_shared (Statement n due) shared aside = absurd aside
aside_shared (Prep n key text) shared aside = tt
aside_shared (Sync n command) shared aside = tt
aside_shared (Own command) shared aside = tt
aside_shared (End n) shared aside = tt
aside_shared (Capture n) shared aside = tt

-- Where a client stands behind a statement.

text_moved : (class other : Class) (ok : Bool) (place : Place) → class ≡ other
    → record { schema = schema_by (effect_of other) ok place.schema; settings = settings_by (effect_of other) ok place.settings } ≡ place_by class ok place
text_moved class other ok place is = λ i. place_by (sym is i) ok place

none_moved : (ok : Bool) (place : Place) → record { schema = schema_by Neither ok place.schema; settings = settings_by Neither ok place.settings } ≡ place
none_moved true place = refl
none_moved false place = refl

pub moved_so : (reads : Reads) (form : Form) (command : Command) (reply : Reply) (seat : Seat) → IsForm reads form command
    → place_after reads command reply seat.place ≡ (desks.moved_by form (is_ok reply) seat).place
moved_so reads (Text class) (commands.Query text) reply seat is = text_moved class (reads.class text) (is_ok reply) seat.place is.is
moved_so reads (Text class) (commands.Run text schema settings args) reply seat is = text_moved class (reads.class text) (is_ok reply) seat.place is.is
moved_so reads (Text class) (commands.InitDb schema) reply seat is = text_moved class (class_of reads (commands.InitDb schema)) (is_ok reply) seat.place is
moved_so reads Fields (commands.FieldList rest) reply seat is = none_moved (is_ok reply) seat.place
moved_so reads (Prepare class) (commands.Prepare text) reply seat is = none_moved (is_ok reply) seat.place
moved_so reads (SetId id) (commands.SetId n) reply seat is = none_moved (is_ok reply) seat.place
moved_so reads ReadId commands.ReadId reply seat is = none_moved (is_ok reply) seat.place
moved_so reads Reset commands.Reset reply seat is = none_moved (is_ok reply) seat.place
moved_so reads _ _ reply seat is = absurd is
