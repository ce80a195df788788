-- What happens to other names leaves views the same.
use Rattle.std.specs.Prelude.{◌≡◌, ◌<◌, ◌≤◌, ℕ, Bool, true, false, Option, Some, None}
use Rattle.std.specs.Option.{option_map_or}
use Rattle.std.proofs.Common.{refl, ap, sym, ◌∙◌, arith}
use Rattle.private_model.specs.Commands.{Reply}
use Rattle.private_model.specs.Names.{ClientNo, Hostgroup, LinkId, SessionName}
use Rattle.private_model.specs.Story.{BecameDue, Broke, Capture, Dropped, End, Freed, Gone, Happening, Heard, Left, LoggedIn, Mirrored, Own, Prep, Question, Ran, Sent, Statement, Sync, Unprepared, is_client, is_hostgroup, is_message, is_name, message_of, put}
use Rattle.private_model.specs.View.{Answered, Asked, Carried, Joined, Lent, Nobody, Quiet, Setup, Stage, View, held_freed, held_heard, lives_after, present, session_in, view_heard, view_step}
use Rattle.desk_laws.specs.Spares.{answered_for, asked_for, named}
use Rattle.desk_laws.specs.Stands.{message_at, name_at}
use Rattle.desk_laws.proofs.Names.{apart_numbers, client_of, hostgroup_of, of_other_client, put_apart}
use Rattle.desk_laws.proofs.Same.{Same, SameDue, SameMessage}

-- A name that is none of a client's in a hostgroup, from the present one on.

abbrev pub Clear : View → ClientNo → Hostgroup → SessionName → Type 0
Clear view c h n = (life : ℕ) → view.lives c h ≤ life → is_name (name_at c h life) n ≡ false

abbrev pub ClearOr : View → ClientNo → Hostgroup → Option SessionName → Type 0
ClearOr view c h None = Unit {0}
ClearOr view c h (Some n) = Clear view c h n

abbrev pub IsClear : View → ClientNo → Hostgroup → Happening → Type 0
IsClear view c h (Left client) = is_client c client ≡ false
IsClear view c h e = ClearOr view c h (named view e)

-- what becomes due isn't this client's
abbrev pub ClearDue : ClientNo → Happening → Type 0
ClearDue c (BecameDue client hostgroup ordinal key command multiplex) = is_client c client ≡ false
ClearDue c e = Unit {0}

-- a statement isn't this message
abbrev pub ClearAsked : ClientNo → (ordinal : ℕ) → Question → Type 0
ClearAsked c ordinal (Statement n due) = is_message (message_at c ordinal) (message_of n due) ≡ false
ClearAsked c ordinal _ = Unit {0}

abbrev pub ClearAnswered : ClientNo → (ordinal : ℕ) → Stage → Type 0
ClearAnswered c ordinal (Answered question) = ClearAsked c ordinal question
ClearAnswered c ordinal _ = Unit {0}

abbrev pub ClearMessage : View → ClientNo → (ordinal : ℕ) → Happening → Type 0
ClearMessage view c ordinal (Sent link question) = ClearAsked c ordinal question
ClearMessage view c ordinal (Heard link reply) = ClearAnswered c ordinal (view.links link).stage
ClearMessage view c ordinal e = Unit {0}

-- the client isn't moved
abbrev pub ClearMoved : ClientNo → Stage → Type 0
ClearMoved c (Answered (Statement n due)) = is_client c n.client ≡ false
ClearMoved c _ = Unit {0}

abbrev pub ClearPlace : View → ClientNo → Happening → Type 0
ClearPlace view c (Heard link reply) = ClearMoved c (view.links link).stage
ClearPlace view c (Left client) = is_client c client ≡ false
ClearPlace view c (Mirrored client job) = is_client c job ≡ false
ClearPlace view c e = Unit {0}

-- what becomes due in a present session is due in none that is to come
later_due : (view : View) (c : ClientNo) (h : Hostgroup) (client : ClientNo) (hostgroup : Hostgroup) (life : ℕ) → view.lives c h < life
    → is_name (name_at c h life) (present view client hostgroup) ≡ false
later_due view c h client hostgroup life above = by (is_client c client) (is_hostgroup h hostgroup) refl refl where
  by : (one two : Bool) → is_client c client ≡ one → is_hostgroup h hostgroup ≡ two → is_name (name_at c h life) (present view client hostgroup) ≡ false
  by false two e f = rw e refl
  by true false e f = rw (e, f) refl
  by true true e f =
      let same : view.lives client hostgroup ≡ view.lives c h = λ i. view.lives (sym (client_of c client e) i) (sym (hostgroup_of h hostgroup f) i) in
      let below : view.lives client hostgroup < life = omega arith in
      rw (e, f, apart_numbers life (view.lives client hostgroup) below) refl

module _ (setup : Setup) (view : View) (c : ClientNo) (h : Hostgroup) where
  sent_same : (link : LinkId) (question : Question) → ClearOr view c h (asked_for question) → Same view (view_step setup view (Sent link question)) c h
  sent_same link (Statement n due) clear = record {
    lives = refl;
    held = λ life from. put_apart is_name view.held n (record (view.held n) { home = Some link }) (name_at c h life) (clear life from);
    lasting = λ life from. put_apart is_name view.lasting n _ (name_at c h life) (clear life from);
    dues = λ life above. let from : view.lives c h ≤ life = omega arith in put_apart is_name view.dues n None (name_at c h life) (clear life from);
  }
  sent_same link (Prep n key text) clear = record {
    lives = refl;
    held = λ life from. put_apart is_name view.held n (record (view.held n) { home = Some link }) (name_at c h life) (clear life from);
    lasting = λ life from. refl;
    dues = λ life above. refl;
  }
  sent_same link (Sync n command) clear = record { lives = refl; held = λ life from. refl; lasting = λ life from. refl; dues = λ life above. refl }
  sent_same link (Own command) clear = record { lives = refl; held = λ life from. refl; lasting = λ life from. refl; dues = λ life above. refl }
  sent_same link (End n) clear = record { lives = refl; held = λ life from. refl; lasting = λ life from. refl; dues = λ life above. refl }
  sent_same link (Capture n) clear = record { lives = refl; held = λ life from. refl; lasting = λ life from. refl; dues = λ life above. refl }

  heard_by_name : (link : LinkId) (reply : Reply) (question : Question) (n : SessionName) → Clear view c h n
      → ((m : SessionName) → (view_heard setup view link reply (Answered question)).held m ≡ put is_name view.held n (held_heard setup.reads question reply (view.held n)) m)
      → Same view (view_heard setup view link reply (Answered question)) c h
  heard_by_name link reply question n clear is = record {
    lives = refl;
    held = λ life from. is (name_at c h life) ∙ put_apart is_name view.held n (held_heard setup.reads question reply (view.held n)) (name_at c h life) (clear life from);
    lasting = λ life from. refl;
    dues = λ life above. refl;
  }

  pub heard_same : (link : LinkId) (reply : Reply) (stage : Stage) → ClearOr view c h (answered_for stage) → Same view (view_heard setup view link reply stage) c h
  heard_same link reply Quiet clear = record { lives = refl; held = λ life from. refl; lasting = λ life from. refl; dues = λ life above. refl }
  heard_same link reply (Asked question) clear = record { lives = refl; held = λ life from. refl; lasting = λ life from. refl; dues = λ life above. refl }
  heard_same link reply (Answered (Statement n due)) clear = heard_by_name link reply (Statement n due) n clear (λ m. refl)
  heard_same link reply (Answered (Prep n key text)) clear = heard_by_name link reply (Prep n key text) n clear (λ m. refl)
  heard_same link reply (Answered (Sync n command)) clear = heard_by_name link reply (Sync n command) n clear (λ m. refl)
  heard_same link reply (Answered (Own command)) clear = record { lives = refl; held = λ life from. refl; lasting = λ life from. refl; dues = λ life above. refl }
  heard_same link reply (Answered (End n)) clear = heard_by_name link reply (End n) n clear (λ m. refl)
  heard_same link reply (Answered (Capture n)) clear = heard_by_name link reply (Capture n) n clear (λ m. refl)

  freed_held : (carried : Carried) → ClearOr view c h (session_in carried) → (life : ℕ) → view.lives c h ≤ life
      → held_freed carried view.held (name_at c h life) ≡ view.held (name_at c h life)
  freed_held Nobody clear life from = refl
  freed_held (Lent n) clear life from = put_apart is_name view.held n (record (view.held n) { home = None }) (name_at c h life) (clear life from)
  freed_held (Joined n) clear life from = put_apart is_name view.held n (record (view.held n) { home = None }) (name_at c h life) (clear life from)

  gone_lives : (n : SessionName) → Clear view c h n → lives_after n view.lives c h ≡ view.lives c h
  gone_lives n clear = let other : is_name (name_at c h (view.lives c h)) n ≡ false = clear (view.lives c h) (omega arith) in rw other refl

  gone_by : (carried : Carried) → ClearOr view c h (session_in carried) → option_map_or (λ n. lives_after n view.lives) (session_in carried) view.lives c h ≡ view.lives c h
  gone_by Nobody clear = refl
  gone_by (Lent n) clear = gone_lives n clear
  gone_by (Joined n) clear = gone_lives n clear

  pub clear_same : (e : Happening) → IsClear view c h e → Same view (view_step setup view e) c h
  clear_same (LoggedIn link server account) clear = record { lives = refl; held = λ life from. refl; lasting = λ life from. refl; dues = λ life above. refl }
  clear_same (BecameDue client hostgroup ordinal key command multiplex) clear = record {
    lives = refl;
    held = λ life from. refl;
    lasting = λ life from. refl;
    dues = λ life above. put_apart is_name view.dues (present view client hostgroup) _ (name_at c h life) (later_due view c h client hostgroup life above);
  }
  clear_same (Sent link question) clear = sent_same link question clear
  clear_same (Ran link) clear = record { lives = refl; held = λ life from. refl; lasting = λ life from. refl; dues = λ life above. refl }
  clear_same (Heard link reply) clear = heard_same link reply (view.links link).stage clear
  clear_same (Freed link) clear = record { lives = refl; held = freed_held (view.links link).carries clear; lasting = λ life from. refl; dues = λ life above. refl }
  clear_same (Unprepared link number) clear = record { lives = refl; held = λ life from. refl; lasting = λ life from. refl; dues = λ life above. refl }
  clear_same (Dropped link) clear = record { lives = refl; held = λ life from. refl; lasting = λ life from. refl; dues = λ life above. refl }
  clear_same (Gone link) clear = record { lives = gone_by (view.links link).carries clear; held = λ life from. refl; lasting = λ life from. refl; dues = λ life above. refl }
  clear_same (Left client) clear = record { lives = rw clear refl; held = λ life from. refl; lasting = λ life from. refl; dues = λ life above. refl }
  clear_same Broke clear = record { lives = refl; held = λ life from. refl; lasting = λ life from. refl; dues = λ life above. refl }
  clear_same (Mirrored client job) clear = record { lives = refl; held = λ life from. refl; lasting = λ life from. refl; dues = λ life above. refl }

  -- what is due in the present session

  sent_due : (link : LinkId) (question : Question) → ClearOr view c h (asked_for question) → SameDue view (view_step setup view (Sent link question)) c h
  sent_due link (Statement n due) clear = put_apart is_name view.dues n None (present view c h) (clear (view.lives c h) (omega arith))
  sent_due link (Prep n key text) clear = refl
  sent_due link (Sync n command) clear = refl
  sent_due link (Own command) clear = refl
  sent_due link (End n) clear = refl
  sent_due link (Capture n) clear = refl

  heard_due : (link : LinkId) (reply : Reply) (stage : Stage) → SameDue view (view_heard setup view link reply stage) c h
  heard_due link reply Quiet = refl
  heard_due link reply (Asked question) = refl
  heard_due link reply (Answered question) = refl

  pub due_same : (e : Happening) → IsClear view c h e → ClearDue c e → SameDue view (view_step setup view e) c h
  due_same (LoggedIn link server account) clear other = refl
  due_same (BecameDue client hostgroup ordinal key command multiplex) clear other =
      put_apart is_name view.dues (present view client hostgroup) _ (present view c h) (of_other_client c h (view.lives c h) (present view client hostgroup) other)
  due_same (Sent link question) clear other = sent_due link question clear
  due_same (Ran link) clear other = refl
  due_same (Heard link reply) clear other = heard_due link reply (view.links link).stage
  due_same (Freed link) clear other = refl
  due_same (Unprepared link number) clear other = refl
  due_same (Dropped link) clear other = refl
  due_same (Gone link) clear other = ap (λ (life : ℕ). view.dues (name_at c h life)) (gone_by (view.links link).carries clear)
  due_same (Left client) clear other = rw clear refl
  due_same Broke clear other = refl
  due_same (Mirrored client job) clear other = refl

-- Messages, and where clients stand.

module _ (setup : Setup) (view : View) (c : ClientNo) where
  sent_message : (ordinal : ℕ) (link : LinkId) (question : Question) → ClearAsked c ordinal question → SameMessage view (view_step setup view (Sent link question)) c ordinal
  sent_message ordinal link (Statement n due) clear =
      record { carrier = put_apart is_message view.carriers (message_of n due) (Some link) (message_at c ordinal) clear; reply = refl }
  sent_message ordinal link (Prep n key text) clear = record { carrier = refl; reply = refl }
  sent_message ordinal link (Sync n command) clear = record { carrier = refl; reply = refl }
  sent_message ordinal link (Own command) clear = record { carrier = refl; reply = refl }
  sent_message ordinal link (End n) clear = record { carrier = refl; reply = refl }
  sent_message ordinal link (Capture n) clear = record { carrier = refl; reply = refl }

  heard_message : (ordinal : ℕ) (link : LinkId) (reply : Reply) (stage : Stage) → ClearAnswered c ordinal stage → SameMessage view (view_heard setup view link reply stage) c ordinal
  heard_message ordinal link reply Quiet clear = record { carrier = refl; reply = refl }
  heard_message ordinal link reply (Asked question) clear = record { carrier = refl; reply = refl }
  heard_message ordinal link reply (Answered (Statement n due)) clear =
      record { carrier = refl; reply = put_apart is_message view.replies (message_of n due) (Some reply) (message_at c ordinal) clear }
  heard_message ordinal link reply (Answered (Prep n key text)) clear = record { carrier = refl; reply = refl }
  heard_message ordinal link reply (Answered (Sync n command)) clear = record { carrier = refl; reply = refl }
  heard_message ordinal link reply (Answered (Own command)) clear = record { carrier = refl; reply = refl }
  heard_message ordinal link reply (Answered (End n)) clear = record { carrier = refl; reply = refl }
  heard_message ordinal link reply (Answered (Capture n)) clear = record { carrier = refl; reply = refl }

  pub message_same : (ordinal : ℕ) (e : Happening) → ClearMessage view c ordinal e → SameMessage view (view_step setup view e) c ordinal
  message_same ordinal (Sent link question) clear = sent_message ordinal link question clear
  message_same ordinal (Heard link reply) clear = heard_message ordinal link reply (view.links link).stage clear
  message_same ordinal (LoggedIn link server account) clear = record { carrier = refl; reply = refl }
  message_same ordinal (BecameDue client hostgroup other key command multiplex) clear = record { carrier = refl; reply = refl }
  message_same ordinal (Ran link) clear = record { carrier = refl; reply = refl }
  message_same ordinal (Freed link) clear = record { carrier = refl; reply = refl }
  message_same ordinal (Unprepared link number) clear = record { carrier = refl; reply = refl }
  message_same ordinal (Dropped link) clear = record { carrier = refl; reply = refl }
  message_same ordinal (Gone link) clear = record { carrier = refl; reply = refl }
  message_same ordinal (Left client) clear = record { carrier = refl; reply = refl }
  message_same ordinal Broke clear = record { carrier = refl; reply = refl }
  message_same ordinal (Mirrored client job) clear = record { carrier = refl; reply = refl }

  heard_place : (link : LinkId) (reply : Reply) (stage : Stage) → ClearMoved c stage → (view_heard setup view link reply stage).places c ≡ view.places c
  heard_place link reply Quiet clear = refl
  heard_place link reply (Asked question) clear = refl
  heard_place link reply (Answered (Statement n due)) clear = put_apart is_client view.places n.client _ c clear
  heard_place link reply (Answered (Prep n key text)) clear = refl
  heard_place link reply (Answered (Sync n command)) clear = refl
  heard_place link reply (Answered (Own command)) clear = refl
  heard_place link reply (Answered (End n)) clear = refl
  heard_place link reply (Answered (Capture n)) clear = refl

  pub place_same : (e : Happening) → ClearPlace view c e → (view_step setup view e).places c ≡ view.places c
  place_same (Heard link reply) clear = heard_place link reply (view.links link).stage clear
  place_same (Left client) clear = put_apart is_client view.places client _ c clear
  place_same (Mirrored client job) clear = put_apart is_client view.places job (view.places client) c clear
  place_same (LoggedIn link server account) clear = refl
  place_same (BecameDue client hostgroup ordinal key command multiplex) clear = refl
  place_same (Sent link question) clear = refl
  place_same (Ran link) clear = refl
  place_same (Freed link) clear = refl
  place_same (Unprepared link number) clear = refl
  place_same (Dropped link) clear = refl
  place_same (Gone link) clear = refl
  place_same Broke clear = refl
