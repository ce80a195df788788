-- Of a client that didn't come nothing happened.
use Rattle.std.specs.Prelude.{◌≡◌, ◌≤◌, ◌<◌, ℕ, zero, suc, Bool, true, false, if◌then◌else◌, is_some, List, [], ◌∷◌, Option, Some, None}
use Rattle.std.specs.Option.{option_map_or}
use Rattle.std.proofs.Common.{refl, sym, ap, ◌∙◌, subst, arith, inl, inr}
use Rattle.std.proofs.lemmas.Bool.{false≢true, ne_eqb, true≢false}
use Rattle.std.proofs.lemmas.Option.{none-some}
use Rattle.mx_base.specs.declared.names.Hostgroup.{Hostgroup}
use Rattle.mx_base.specs.declared.names.LinkId.{LinkId}
use Rattle.session_state.specs.declared.place.Place.{Place}
use Rattle.private_model.proofs.Maps.{client_of, name_of}
use Rattle.private_model.specs.Commands.{Reply}
use Rattle.private_model.specs.Lawful.{Fits, IsLawful, MayCome}
use Rattle.private_model.specs.Names.{ClientNo, SessionName}
use Rattle.private_model.specs.Story.{BecameDue, Broke, Capture, Dropped, Due, End, Freed, Gone, Happening, Heard, Left, LoggedIn, Mirrored, Own, Prep, Question, Ran, Sent, Statement, Story, Sync, Unprepared, for_statement, is_client, is_name, put}
use Rattle.private_model.specs.View.{Answered, Asked, Held, Joined, Quiet, Setup, Stage, View, first_view, place_after, present, session_in, view_after, view_heard, view_step}
use Rattle.client_desk.specs.declared.session.Session.{Session}
use Rattle.desk_laws.specs.Spares.{SparesAnswered, SparesAsked, SparesSent, SparesToCome, answered_for, asked_for, is_of, touches}
use Rattle.desk_laws.specs.Stands.{AreSessions, AreToCome, name_at}
use Rattle.core_laws.specs.parting.Frames.{AreHomed, asker_at}
use Rattle.router_laws.proofs.OfClients.Walking.{AllKnown, AskedIn, KnownIn}

abbrev pub StrangersStay : Type 0
StrangersStay = (setup : Setup) (view : View) (c : ClientNo) (lefts : ℕ) (rows : List Session) (e : Happening) → AreSessions view c lefts rows
    → touches view e c ≡ false → AreSessions (view_step setup view e) c lefts rows

abbrev pub ComingStays : Type 0
ComingStays = (setup : Setup) (view : View) (c : ClientNo) (from : ℕ) (e : Happening) → AreToCome view c from → SparesToCome view c from e
    → AreToCome (view_step setup view e) c from

pub record IsStrange (setup : Setup) (view : View) (c : ClientNo) : Type 0 where
  pub sessions : AreSessions view c 0 []
  pub coming : AreToCome view c 1
  pub place : view.places c ≡ setup.places c
  pub dues : (m : SessionName) → is_client c m.client ≡ true → view.dues m ≡ None

module _ (setup : Setup) (view : View) (c : ClientNo) (homed : AreHomed view.links view.held) (s : IsStrange setup view c) where
  -- no session of it has a home, so no link carries one, or has a question for one

  no_home : (m : SessionName) → is_client c m.client ≡ true → (view.held m).home ≡ None
  no_home m mine = by m.life refl where
    named_as : (life : ℕ) → m.life ≡ life → m ≡ name_at c m.hostgroup life
    named_as life same = λ i. record { client = sym (client_of c m.client mine) i; hostgroup = m.hostgroup; life = same i }

    by : (life : ℕ) → m.life ≡ life → (view.held m).home ≡ None
    by zero same =
        ap (λ (k : SessionName). (view.held k).home) (named_as zero same) ∙ ap (λ (held : Held). held.home) (s.sessions.each m.hostgroup).held
    by (suc life) same =
        ap (λ (k : SessionName). (view.held k).home) (named_as (suc life) same)
        ∙ ap (λ (held : Held). held.home) ((s.sessions.each m.hostgroup).unborn (suc life) (omega arith)).held

  not_carried : (l : LinkId) (m : SessionName) → session_in (view.links l).carries ≡ Some m → is_client c m.client ≡ false
  not_carried l m is = by (is_client c m.client) refl where
    by : (b : Bool) → is_client c m.client ≡ b → is_client c m.client ≡ false
    by false other = other
    by true mine = absurd (none-some l (sym (no_home m mine) ∙ homed.home l m is))

  not_due : (m : SessionName) (due : Due) → view.dues m ≡ Some due → is_client c m.client ≡ false
  not_due m due is = by (is_client c m.client) refl where
    by : (b : Bool) → is_client c m.client ≡ b → is_client c m.client ≡ false
    by false other = other
    by true mine = absurd (none-some due (sym (s.dues m mine) ∙ is))

  some_due : (m : SessionName) (found : Option Due) → view.dues m ≡ found → is_some found ≡ true → is_client c m.client ≡ false
  some_due m None is some = absurd (false≢true some)
  some_due m (Some due) is some = not_due m due is

  of_carried : (l : LinkId) (found : Option SessionName) → session_in (view.links l).carries ≡ found → is_of c found ≡ false
  of_carried l None is = refl
  of_carried l (Some m) is = not_carried l m is

  joined : (l : LinkId) (m : SessionName) → (view.links l).carries ≡ Joined m → is_client c m.client ≡ false
  joined l m is = not_carried l m (ap session_in is)

  asked_apart : (l : LinkId) (question : Question) → Fits setup view (view.links l) question → AskedIn view question → is_of c (asked_for question) ≡ false
  asked_apart l (Statement m due) fits known = not_due m due fits.is_due
  asked_apart l (Prep m key text) fits known = some_due m (view.dues m) refl known
  asked_apart l (Sync m command) fits known = joined l m fits.carries
  asked_apart l (Own command) fits known = refl
  asked_apart l (End m) fits known = joined l m fits.carries
  asked_apart l (Capture m) fits known = joined l m fits.carries

  asker_apart : (l : LinkId) (found : Option SessionName) → asker_at (view.links l).stage ≡ found → is_of c found ≡ false
  asker_apart l None is = refl
  asker_apart l (Some m) is = not_carried l m (homed.asked l m is)

  answered_apart : (l : LinkId) (stage : Stage) → (view.links l).stage ≡ stage → is_of c (answered_for stage) ≡ false
  answered_apart l Quiet is = refl
  answered_apart l (Asked question) is = refl
  answered_apart l (Answered question) is = asker_apart l (asked_for question) (ap asker_at is)

  module _ (n : ℕ) (beyond : n < c.0) where
    other_client : (client : ClientNo) → client.0 ≤ n → is_client c client ≡ false
    other_client client less = ne_eqb c.0 client.0 (λ same. omega (arith, same, less, beyond))

    untouched : (e : Happening) → MayCome setup view e → KnownIn n view e → touches view e c ≡ false
    untouched (BecameDue client hostgroup ordinal key command multiplex) may known = other_client client known
    untouched (Left client) may known = other_client client known
    untouched (Mirrored client job) may known = absurd known
    untouched (Sent link question) may known = asked_apart link question may.fits known
    untouched (Heard link reply) may known = answered_apart link (view.links link).stage refl
    untouched (Freed link) may known = of_carried link (session_in (view.links link).carries) refl
    untouched (Gone link) may known = of_carried link (session_in (view.links link).carries) refl
    untouched (LoggedIn link server account) may known = refl
    untouched (Ran link) may known = refl
    untouched (Unprepared link number) may known = refl
    untouched (Dropped link) may known = refl
    untouched Broke may known = refl

    spares_asked : (question : Question) → is_of c (asked_for question) ≡ false → SparesAsked c 1 question
    spares_asked (Statement m due) apart = inl apart
    spares_asked (Prep m key text) apart = tt
    spares_asked (Sync m command) apart = tt
    spares_asked (Own command) apart = tt
    spares_asked (End m) apart = tt
    spares_asked (Capture m) apart = tt

    spares_sent : (question : Question) → is_of c (asked_for question) ≡ false → SparesSent view c 1 question
    spares_sent (Statement m due) apart = inl apart
    spares_sent (Prep m key text) apart = tt
    spares_sent (Sync m command) apart = tt
    spares_sent (Own command) apart = tt
    spares_sent (End m) apart = tt
    spares_sent (Capture m) apart = tt

    spares_answered : (stage : Stage) → is_of c (answered_for stage) ≡ false → SparesAnswered c 1 stage
    spares_answered Quiet apart = tt
    spares_answered (Asked question) apart = tt
    spares_answered (Answered question) apart = spares_asked question apart

    spared : (e : Happening) → MayCome setup view e → KnownIn n view e → SparesToCome view c 1 e
    spared (Sent link question) may known = spares_sent question (asked_apart link question may.fits known)
    spared (Heard link reply) may known = spares_answered (view.links link).stage (answered_apart link (view.links link).stage refl)
    spared (BecameDue client hostgroup ordinal key command multiplex) may known = other_client client known
    spared (Left client) may known = tt
    spared (Mirrored client job) may known = tt
    spared (Freed link) may known = tt
    spared (Gone link) may known = tt
    spared (LoggedIn link server account) may known = tt
    spared (Ran link) may known = tt
    spared (Unprepared link number) may known = tt
    spared (Dropped link) may known = tt
    spared Broke may known = tt

    put_place : (places : ClientNo → Place) (client : ClientNo) (place : Place) → is_client c client ≡ false → put is_client places client place c ≡ places c
    put_place places client place other = ap (λ (b : Bool). if b then place else places c) other

    place_heard : (link : LinkId) (reply : Reply) (stage : Stage) → is_of c (answered_for stage) ≡ false
        → (view_heard setup view link reply stage).places c ≡ view.places c
    place_heard link reply Quiet apart = refl
    place_heard link reply (Asked question) apart = refl
    place_heard link reply (Answered (Statement m due)) apart =
        put_place view.places m.client (place_after setup.reads due.command reply (view.places m.client)) apart
    place_heard link reply (Answered (Prep m key text)) apart = refl
    place_heard link reply (Answered (Sync m command)) apart = refl
    place_heard link reply (Answered (Own command)) apart = refl
    place_heard link reply (Answered (End m)) apart = refl
    place_heard link reply (Answered (Capture m)) apart = refl

    place_stays : (e : Happening) → KnownIn n view e → (view_step setup view e).places c ≡ view.places c
    place_stays (Heard link reply) known =
        place_heard link reply (view.links link).stage (answered_apart link (view.links link).stage refl)
    place_stays (Left client) known = put_place view.places client _ (other_client client known)
    place_stays (Mirrored client job) known = absurd known
    place_stays (BecameDue client hostgroup ordinal key command multiplex) known = refl
    place_stays (Sent link question) known = refl
    place_stays (Freed link) known = refl
    place_stays (Gone link) known = refl
    place_stays (LoggedIn link server account) known = refl
    place_stays (Ran link) known = refl
    place_stays (Unprepared link number) known = refl
    place_stays (Dropped link) known = refl
    place_stays Broke known = refl

    due_put : (m k : SessionName) (found : Option Due) → is_client c m.client ≡ true → is_client c k.client ≡ false
        → put is_name view.dues k found m ≡ view.dues m
    due_put m k found mine other = ap (λ (b : Bool). if b then found else view.dues m) (by (is_name m k) refl) where
      by : (b : Bool) → is_name m k ≡ b → is_name m k ≡ false
      by false is = is
      by true is =
          absurd (true≢false (sym (ap (is_client c) (ap (λ (x : SessionName). x.client) (sym (name_of m k is))) ∙ mine) ∙ other))

    none_put : (m k : SessionName) → is_client c m.client ≡ true → put is_name view.dues k None m ≡ None
    none_put m k mine = by (is_name m k) where
      by : (b : Bool) → (if b then None else view.dues m) ≡ None
      by true = refl
      by false = s.dues m mine

    dues_sent : (m : SessionName) → is_client c m.client ≡ true → (question : Question)
        → (for_statement question (λ k due. put is_name view.dues k None) view.dues) m ≡ None
    dues_sent m mine (Statement k due) = none_put m k mine
    dues_sent m mine (Prep k key text) = s.dues m mine
    dues_sent m mine (Sync k command) = s.dues m mine
    dues_sent m mine (Own command) = s.dues m mine
    dues_sent m mine (End k) = s.dues m mine
    dues_sent m mine (Capture k) = s.dues m mine

    dues_heard : (m : SessionName) → is_client c m.client ≡ true → (link : LinkId) (reply : Reply) (stage : Stage)
        → (view_heard setup view link reply stage).dues m ≡ None
    dues_heard m mine link reply Quiet = s.dues m mine
    dues_heard m mine link reply (Asked question) = s.dues m mine
    dues_heard m mine link reply (Answered question) = s.dues m mine

    dues_stay : (e : Happening) → KnownIn n view e → (m : SessionName) → is_client c m.client ≡ true → (view_step setup view e).dues m ≡ None
    dues_stay (BecameDue client hostgroup ordinal key command multiplex) known m mine =
        due_put m (present view client hostgroup) _ mine (other_client client known) ∙ s.dues m mine
    dues_stay (Sent link question) known m mine = dues_sent m mine question
    dues_stay (Heard link reply) known m mine = dues_heard m mine link reply (view.links link).stage
    dues_stay (Left client) known m mine = s.dues m mine
    dues_stay (Mirrored client job) known m mine = absurd known
    dues_stay (Freed link) known m mine = s.dues m mine
    dues_stay (Gone link) known m mine = s.dues m mine
    dues_stay (LoggedIn link server account) known m mine = s.dues m mine
    dues_stay (Ran link) known m mine = s.dues m mine
    dues_stay (Unprepared link number) known m mine = s.dues m mine
    dues_stay (Dropped link) known m mine = s.dues m mine
    dues_stay Broke known m mine = s.dues m mine

    pub strange_step : StrangersStay → ComingStays → (e : Happening) → MayCome setup view e → KnownIn n view e → IsStrange setup (view_step setup view e) c
    strange_step strangers coming e may known = record {
      sessions = strangers setup view c 0 [] e s.sessions (untouched e may known);
      coming = coming setup view c 1 e s.coming (spared e may known);
      place = place_stays e known ∙ s.place;
      dues = dues_stay e known;
    }

-- So it is of all that was told of clients numbered up to some number, of those beyond.
pub strange_story : StrangersStay → ComingStays
    → ((setup : Setup) (story : Story) → IsLawful setup story → AreHomed (view_after setup story).links (view_after setup story).held)
    → (setup : Setup) (n : ℕ) (c : ClientNo) → n < c.0 → AreSessions (first_view setup) c 0 [] → AreToCome (first_view setup) c 1
    → (story : Story) → IsLawful setup story → AllKnown setup n story → IsStrange setup (view_after setup story) c
strange_story strangers coming homed setup n c beyond first_sessions first_coming [] lawful known =
    record { sessions = first_sessions; coming = first_coming; place = refl; dues = λ m mine. refl }
strange_story strangers coming homed setup n c beyond first_sessions first_coming (e ∷ past) lawful known =
    strange_step setup (view_after setup past) c (homed setup past lawful.0)
    (strange_story strangers coming homed setup n c beyond first_sessions first_coming past lawful.0 known.0) n beyond strangers coming e lawful.1 known.1
