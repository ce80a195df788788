-- A client stands as an answer to what was asked for it is read.
use Rattle.std.specs.Prelude.{◌≡◌, ◌⊎◌, ◌<◌, ◌≤◌, ◌+◌, ℕ, zero, suc, Bool, true, false, not, ◌||◌, is_some, nat_eq, if◌then◌else◌, length, List, [], ◌∷◌, ◌++◌, take, Option, Some, None}
use Rattle.std.proofs.Common.{refl, sym, ap, ◌∙◌, subst, inl, inr, arith, append-nil, append_assoc}
use Rattle.std.proofs.lemmas.Bool.{false≢true, true≢false}
use Rattle.std.proofs.lemmas.List.{length-take}
use Rattle.mx_base.specs.declared.names.Hostgroup.{Hostgroup}
use Rattle.packet_frame.specs.Packets.{Framed, next_id, spellings}
use Rattle.session_state.specs.declared.place.Place.{Place}
use Rattle.server_rule.specs.Replies.{one_number}
use Rattle.private_model.proofs.Maps.{message_is, name_of as name_from, same_message}
use Rattle.private_model.specs.Commands.{Reply, end_of, is_ok, is_prepare}
use Rattle.private_model.specs.Names.{ClientNo, LinkId, MessageName, SessionName}
use Rattle.private_model.specs.Story.{Capture, Due, End, Heard, Own, Prep, Question, Statement, Sync, is_message, is_name, message_of, put}
use Rattle.private_model.specs.View as view
use Rattle.private_model.specs.View.{Held, View, held_by, held_heard, present, view_heard, view_step}
use Rattle.log_story.specs.Clients.{is_answered}
use Rattle.log_story.specs.Honest.{IsFront}
use Rattle.log_story.specs.Owed.{kind_of as owed_kind}
use Rattle.reply_track.specs.Grammar.{renamed}
use Rattle.log_story.specs.Owed.{due_bytes, error_behind, messages, name_of, number_of, talk_of, with_word}
use Rattle.log_story.specs.Plan.{LastWord, own_at, word_at}
use Rattle.log_story.specs.Tale as tales
use Rattle.log_story.specs.Tale.{tell}
use Rattle.client_session.specs.Answers.{front}
use Rattle.link_state.specs.declared.asking.Asking.{Asking}
use Rattle.link_laws.specs.Stands.{IsAsking}
use Rattle.client_seat.proofs.Keeping.{more-due}
use Rattle.client_seat.proofs.Owing.{due-same, due_from, step, told_by as told_first}
use Rattle.client_seat.specs.Answers.{grown, replied}
use Rattle.client_seat.specs.Seats.{is_ended}
use Rattle.client_seat.specs.Stands.{IsHeardIn, IsWrittenOf, answer_by, answer_to, due_so_far}
use Rattle.client_seat.specs.declared.phase.Phase.{Phase}
use Rattle.client_seat.specs.declared.phase.Phase.TheVariants as phase
use Rattle.client_seat.specs.declared.seat.Seat.{Seat}
use Rattle.client_desk.specs.Desks.{moved_by, name_of as name_at_desk}
use Rattle.client_desk.specs.Sessions.{session_in}
use Rattle.client_desk.specs.declared.desk.Desk.{Desk}
use Rattle.client_desk.specs.declared.session.Session.{Session}
use Rattle.client_desk.specs.declared.work.Work.{Work}
use Rattle.core_laws.proofs.OfParting.Apart.{put_apart}
use Rattle.desk_laws.specs.Spares.{IsAside, SparesAnswered, SparesAsked}
use Rattle.desk_laws.specs.Stands.{AreSessions, AreToCome, HasRow, IsDesk, name_at}
use Rattle.core_tables.specs.Hearing.{Answer, at_desk, replied_by, told_of}
use Rattle.core_tables.specs.declared.client.Client.{Client}
use Rattle.core_stands.specs.Clients.{IsClient, IsForgotten, IsFrontOf, IsGoing, IsOwing, IsPhase, IsWorking, IsWorkingOr}
use Rattle.core_stands.specs.Grounds.{Ground, known_on, on, view_on}
use Rattle.core_laws.proofs.OfHearing.Clients.{IsSettled, moved_grown, moved_is, placed, working_on}
use Rattle.core_laws.proofs.OfHearing.Laws.{DeskLaws}
use Rattle.core_laws.proofs.OfHearing.Messages.{of_other_ordinal, put_here}
use Rattle.core_laws.proofs.OfHearing.Replied.{IsLast, is_last, replied_due}

-- No answer moves a session's home.

put_home : (held : SessionName → Held) (n : SessionName) (x : Held) (m : SessionName) → x.home ≡ (held n).home → (put is_name held n x m).home ≡ (held m).home
put_home held n x m same = by (is_name m n) refl where
  by : (b : Bool) → is_name m n ≡ b → (put is_name held n x m).home ≡ (held m).home
  by true e =
      ap (λ (b : Bool). (if b then x else held m).home) e ∙ same ∙ ap (λ (k : SessionName). (held k).home) (sym (name_from m n e))
  by false e = ap (λ (b : Bool). (if b then x else held m).home) e

module _ (laws : DeskLaws) (g : Ground) (l : LinkId) (reply : Reply) (question : Question) (there : ((view_on g).links l).stage ≡ view.Answered question) where
  abbrev seen : View
  seen = view_on g

  abbrev after : Ground
  after = on g (tell (Heard l reply) g.tale)

  abbrev new : View
  new = view_on after

  pub heard_at : new ≡ view_heard g.setup seen l reply (view.Answered question)
  heard_at = ap (view_heard g.setup seen l reply) there

  home_by : (asked : Question) (m : SessionName) → (held_by g.setup.reads asked reply seen.held m).home ≡ (seen.held m).home
  home_by (Statement n due) m = put_home seen.held n (held_heard g.setup.reads (Statement n due) reply (seen.held n)) m refl
  home_by (Prep n key text) m = put_home seen.held n (held_heard g.setup.reads (Prep n key text) reply (seen.held n)) m refl
  home_by (Sync n command) m = put_home seen.held n (held_heard g.setup.reads (Sync n command) reply (seen.held n)) m refl
  home_by (Own command) m = refl
  home_by (End n) m = put_home seen.held n (held_heard g.setup.reads (End n) reply (seen.held n)) m refl
  home_by (Capture n) m = put_home seen.held n (held_heard g.setup.reads (Capture n) reply (seen.held n)) m refl

  pub home_kept : (c : ClientNo) (h : Hostgroup) → (new.held (present new c h)).home ≡ (seen.held (present seen c h)).home
  home_kept c h = ap (λ (v : View). (v.held (present v c h)).home) heard_at ∙ home_by question (present seen c h)

  -- so sessions that heard have their homes and lives

  pub sessions_settled : (c : ClientNo) (lefts : ℕ) (old sessions : List Session) → AreSessions seen c lefts old → AreSessions new c lefts sessions
      → IsSettled lefts old sessions
  sessions_settled c lefts old sessions was now = record { home = home; life = life } where
    life : (h : Hostgroup) → (session_in lefts sessions h).life ≡ (session_in lefts old h).life
    life h = sym (now.each h).life ∙ ap (λ (v : View). v.lives c h) heard_at ∙ (was.each h).life

    home : (h : Hostgroup) → (session_in lefts sessions h).home ≡ (session_in lefts old h).home
    home h =
        sym (ap (λ (held : Held). held.home) (now.each h).held)
        ∙ ap (λ (v : View). (v.held (name_at c h (session_in lefts sessions h).life)).home) heard_at
        ∙ home_by question (name_at c h (session_in lefts sessions h).life)
        ∙ ap (λ (n : ℕ). (seen.held (name_at c h n)).home)
        (sym (now.each h).life ∙ ap (λ (v : View). v.lives c h) heard_at ∙ (was.each h).life)
        ∙ ap (λ (held : Held). held.home) (was.each h).held

  pub settled_so : (c : ClientNo) (desk : Desk) (sessions : List Session) → IsDesk g.setup.reads seen c desk
      → IsDesk g.setup.reads new c (record desk { sessions = sessions }) → IsSettled desk.lefts desk.sessions sessions
  settled_so c desk sessions old now = sessions_settled c desk.lefts desk.sessions sessions old.sessions now.sessions

  pub forgotten_so : (client : tales.Client) → IsForgotten g client → IsForgotten after client
  forgotten_so client is = record { over = is.over; homeless = λ h. home_kept client.number h ∙ is.homeless h }

  coming_so : (client : tales.Client) → SparesAsked client.number (suc client.taken) question → AreToCome seen client.number (suc client.taken)
      → AreToCome new client.number (suc client.taken)
  coming_so client spares is =
      laws.comes g.setup seen client.number (suc client.taken) (Heard l reply) is
      (subst (λ (stage : view.Stage). SparesAnswered client.number (suc client.taken) stage) (sym there) spares)

  -- A client is owed the same where its messages are answered the same.

  abbrev AreSame : tales.Client → Type 0
  AreSame client = (k : ℕ) (message : Framed) → answer_to (known_on after) client k message ≡ answer_to (known_on g) client k message

  owed_same : (client : tales.Client) (seat : Seat) → AreSame client → (at : Phase) (fresh : Bool) → IsOwing at fresh g client seat
      → IsOwing at fresh after client seat
  owed_same client seat same at fresh is = by at fresh is where
    so_far : due_so_far (known_on g) client ≡ due_so_far (known_on after) client
    so_far =
        ap (λ (due : List ℕ). front (talk_of g.plan client) ++ due)
        (sym (due-same (known_on g) (known_on after) client [] 1 (take client.taken (messages g.plan client)) same))

    all : due_bytes seen.replies g.plan g.tale.moment client ≡ due_bytes new.replies g.plan g.tale.moment client
    all =
        ap (λ (due : List ℕ). with_word (talk_of g.plan client) (front (talk_of g.plan client) ++ due) (word_at g.plan g.tale.moment client.number))
        (sym (due-same (known_on g) (known_on after) client (error_behind g.plan client) 1 (take client.taken (messages g.plan client)) same))

    by : (at : Phase) (fresh : Bool) → IsOwing at fresh g client seat → IsOwing at fresh after client seat
    by phase.LoggingIn true is = tt
    by phase.LoggingIn false is = subst (λ (due : List ℕ). IsWrittenOf client seat due) so_far is
    by (phase.Serving account) fresh is = subst (λ (due : List ℕ). IsWrittenOf client seat due) so_far is
    by phase.Ended fresh is = subst (λ (due : List ℕ). IsFrontOf client seat due) all is

  -- To a question that is no statement: the desk alone has something new.

  module _ (aside : IsAside question) (client : tales.Client) (row : Client) (is : IsClient g client row) (sessions : List Session)
      (desk_so : IsDesk g.setup.reads new client.number (record row.desk { sessions = sessions })) where
    settled : IsSettled row.desk.lefts row.desk.sessions sessions
    settled = settled_so client.number row.desk sessions is.desk desk_so

    aside_replies : (asked : Question) → IsAside asked → (view_heard g.setup seen l reply (view.Answered asked)).replies ≡ seen.replies
    aside_replies (Statement n due) aside = absurd aside
    aside_replies (Prep n key text) aside = refl
    aside_replies (Sync n command) aside = refl
    aside_replies (Own command) aside = refl
    aside_replies (End n) aside = refl
    aside_replies (Capture n) aside = refl

    aside_places : (asked : Question) → IsAside asked → (view_heard g.setup seen l reply (view.Answered asked)).places client.number ≡ seen.places client.number
    aside_places (Statement n due) aside = absurd aside
    aside_places (Prep n key text) aside = refl
    aside_places (Sync n command) aside = refl
    aside_places (Own command) aside = refl
    aside_places (End n) aside = refl
    aside_places (Capture n) aside = refl

    aside_spares : (asked : Question) → IsAside asked → SparesAsked client.number (suc client.taken) asked
    aside_spares (Statement n due) aside = absurd aside
    aside_spares (Prep n key text) aside = tt
    aside_spares (Sync n command) aside = tt
    aside_spares (Own command) aside = tt
    aside_spares (End n) aside = tt
    aside_spares (Capture n) aside = tt

    same_replies : new.replies ≡ seen.replies
    same_replies = ap (λ (v : View). v.replies) heard_at ∙ aside_replies question aside

    answers_same : AreSame client
    answers_same k message =
        ap (λ (replies : MessageName → Option Reply). answer_by (own_at g.plan g.tale.moment (name_of client k)) (replies (name_of client k))
        (number_of g.plan (name_of client k)) (next_id message.last)) same_replies

    answered_same : (ordinal : ℕ) → is_answered g.plan g.tale seen client ordinal ≡ is_answered g.plan after.tale new client ordinal
    answered_same zero = refl
    answered_same (suc k) =
        ap (λ (replies : MessageName → Option Reply). is_some (own_at g.plan g.tale.moment (name_of client (suc k))) || is_some (replies (name_of client (suc k))))
        (sym same_replies)

    abbrev told_row : Client
    told_row = record row { desk = record row.desk { sessions = sessions } }

    aside_phase : (ended : Bool) → IsPhase ended g client row → IsPhase ended after client told_row
    aside_phase true is = record {
      over = is.over;
      idle = is.idle;
      told = λ word ordinal within. sym (answered_same ordinal) ∙ is.told word ordinal within;
      homeless = λ h. settled.home h ∙ is.homeless h;
    }
    aside_phase false is = record {
      going = is.going;
      earlier = λ ordinal below. sym (answered_same ordinal) ∙ is.earlier ordinal below;
      answered = is.answered ∙ answered_same client.taken;
      went = is.went;
      busy = is.busy;
      working = working_on g after.tale client row (record row.desk { sessions = sessions }) row.desk.work refl refl refl settled.home (λ m. ap (λ (v : View). v.carriers m) heard_at) is.working;
      unmoved = λ entering. ap (λ (v : View). v.places client.number) heard_at ∙ aside_places question aside ∙ is.unmoved entering;
      account = is.account;
      collation = is.collation;
    }

    pub aside_so : IsClient after client told_row
    aside_so = record {
      who = is.who;
      heard = is.heard;
      owed = owed_same client row.desk.seat answers_same row.desk.seat.phase (g.fresh client.number) is.owed;
      desk = desk_so;
      coming = coming_so client (aside_spares question aside) is.coming;
      phase = aside_phase (is_ended row.desk.seat.phase) is.phase;
    }

  -- To a statement of a session that was left, whose client ended: it may be due more than it is told.

  module _ (client : tales.Client) (row : Client) (is : IsClient g client row) (n : SessionName) (due : Due) (is_statement : question ≡ Statement n due)
      (of : n.client ≡ client.number) (over : g.over n.client ≡ true) (unanswered : seen.replies (message_of n due) ≡ None)
      (taken : due.ordinal < suc client.taken) (desk_so : IsDesk g.setup.reads new client.number row.desk) where
    replies_are : (m : MessageName) → new.replies m ≡ put is_message seen.replies (message_of n due) (Some reply) m
    replies_are m =
        ap (λ (v : View). v.replies m) heard_at
        ∙ ap (λ (asked : Question). (view_heard g.setup seen l reply (view.Answered asked)).replies m) is_statement

    -- what is answered stays so, by the same
    kept_at : (k : ℕ) → is_some (own_at g.plan g.tale.moment (name_of client k)) || is_some (seen.replies (name_of client k)) ≡ true
        → (new.replies (name_of client k) ≡ seen.replies (name_of client k)) ⊎ (is_some (own_at g.plan g.tale.moment (name_of client k)) ≡ true)
    kept_at k told = by (is_message (name_of client k) (message_of n due)) refl where
      by : (same : Bool) → is_message (name_of client k) (message_of n due) ≡ same
          → (new.replies (name_of client k) ≡ seen.replies (name_of client k)) ⊎ (is_some (own_at g.plan g.tale.moment (name_of client k)) ≡ true)
      by true e =
          inr (sym (or_none (is_some (own_at g.plan g.tale.moment (name_of client k))))
          ∙ sym (ap (λ (r : Option Reply). is_some (own_at g.plan g.tale.moment (name_of client k)) || is_some r)
          (ap seen.replies (message_is (name_of client k) (message_of n due) e) ∙ unanswered)) ∙ told) where
            or_none : (b : Bool) → b || false ≡ b
            or_none true = refl
            or_none false = refl
      by false e = inl (replies_are (name_of client k) ∙ put_apart is_message seen.replies (message_of n due) (Some reply) (name_of client k) e)

    abbrev told_by_reply : (k : ℕ) → Framed → Option Reply → Option (List ℕ)
    told_by_reply k message r =
        answer_by (own_at g.plan g.tale.moment (name_of client k)) r (number_of g.plan (name_of client k)) (next_id message.last)

    own_alone : (own : Option (List (List ℕ))) (a b : Option Reply) (number id : ℕ) → is_some own ≡ true → answer_by own a number id ≡ answer_by own b number id
    own_alone None a b number id is = absurd (false≢true is)
    own_alone (Some payloads) a b number id is = refl

    none_before : (own : Option (List (List ℕ))) (reply : Option Reply) (number id : ℕ) → answer_by own reply number id ≡ None
        ⊎ (is_some own || is_some reply ≡ true)
    none_before None None number id = inl refl
    none_before None (Some reply) number id = inr refl
    none_before (Some payloads) reply number id = inr refl

    same_answer : (k : ℕ) (message : Framed) → is_some (own_at g.plan g.tale.moment (name_of client k)) || is_some (seen.replies (name_of client k)) ≡ true
        → answer_to (known_on after) client k message ≡ answer_to (known_on g) client k message
    same_answer k message told = by (kept_at k told) where
      by : (new.replies (name_of client k) ≡ seen.replies (name_of client k)) ⊎ (is_some (own_at g.plan g.tale.moment (name_of client k)) ≡ true)
          → answer_to (known_on after) client k message ≡ answer_to (known_on g) client k message
      by (inl same) = ap (told_by_reply k message) same
      by (inr own) =
          own_alone (own_at g.plan g.tale.moment (name_of client k)) (new.replies (name_of client k)) (seen.replies (name_of client k))
          (number_of g.plan (name_of client k)) (next_id message.last) own

    told_front : (answer : Option (List ℕ)) (a b : List ℕ) → IsFront a b → IsFront (told_first answer a) (told_first answer b)
    told_front None a b is = record { rest = []; is = refl }
    told_front (Some bytes) a b is =
        record { rest = is.rest; is = append_assoc bytes a is.rest ∙ ap (λ (more : List ℕ). bytes ++ more) is.is }

    front_by : (i : ℕ) (message : Framed) (a b : List ℕ) → IsFront a b
        → IsFront (told_first (answer_to (known_on g) client i message) a) (told_first (answer_to (known_on after) client i message) b)
    front_by i message a b rest =
        by (none_before (own_at g.plan g.tale.moment (name_of client i)) (seen.replies (name_of client i)) (number_of g.plan (name_of client i)) (next_id message.last)) where
          by : (answer_to (known_on g) client i message ≡ None)
              ⊎ (is_some (own_at g.plan g.tale.moment (name_of client i)) || is_some (seen.replies (name_of client i)) ≡ true)
              → IsFront (told_first (answer_to (known_on g) client i message) a) (told_first (answer_to (known_on after) client i message) b)
          by (inl none) =
              subst (λ (answer : Option (List ℕ)). IsFront (told_first answer a) (told_first (answer_to (known_on after) client i message) b)) (sym none)
              (record { rest = told_first (answer_to (known_on after) client i message) b; is = refl })
          by (inr told) =
              subst (λ (answer : Option (List ℕ)). IsFront (told_first (answer_to (known_on g) client i message) a) (told_first answer b)) (sym (same_answer i message told))
              (told_front (answer_to (known_on g) client i message) a b rest)

    -- so what it is due begins as before
    due_front : (last : List ℕ) (i : ℕ) (sent : List Framed)
        → IsFront (due_from (known_on g) client last i sent) (due_from (known_on after) client last i sent)
    due_front last i [] = record { rest = []; is = append-nil last }
    due_front last i (message ∷ others) =
        subst (λ (old : List ℕ). IsFront old (due_from (known_on after) client last i (message ∷ others))) (sym (step (known_on g) client last i message others))
        (subst (λ (now : List ℕ). IsFront (told_first (answer_to (known_on g) client i message) (due_from (known_on g) client last (suc i) others)) now)
        (sym (step (known_on after) client last i message others))
        (front_by i message (due_from (known_on g) client last (suc i) others) (due_from (known_on after) client last (suc i) others) (due_front last (suc i) others)))

    abbrev sent_of : List Framed
    sent_of = take client.taken (messages g.plan client)

    abbrev until : (due : List ℕ) → List ℕ
    until due = with_word (talk_of g.plan client) (front (talk_of g.plan client) ++ due) (word_at g.plan g.tale.moment client.number)

    front_more : (a b c : List ℕ) → IsFront b c → IsFront (a ++ b) (a ++ c)
    front_more a b c is = record { rest = is.rest; is = append_assoc a b is.rest ∙ ap (λ (more : List ℕ). a ++ more) is.is }

    along : (a b c : List ℕ) → IsFront a b → IsFront b c → IsFront a c
    along a b c one two = record { rest = one.rest ++ two.rest; is = sym (append_assoc a one.rest two.rest) ∙ ap (λ (xs : List ℕ). xs ++ two.rest) one.is ∙ two.is }

    -- with a last word nothing more is due
    all_front : IsPhase true g client row → IsFront (due_bytes seen.replies g.plan g.tale.moment client) (due_bytes new.replies g.plan g.tale.moment client)
    all_front ended = by (word_at g.plan g.tale.moment client.number) refl where
      by : (word : Option LastWord) → word_at g.plan g.tale.moment client.number ≡ word
          → IsFront (due_bytes seen.replies g.plan g.tale.moment client) (due_bytes new.replies g.plan g.tale.moment client)
      by None none =
          subst (λ (word : Option LastWord). IsFront
          (with_word (talk_of g.plan client) (front (talk_of g.plan client) ++ due_from (known_on g) client (error_behind g.plan client) 1 sent_of) word)
          (with_word (talk_of g.plan client) (front (talk_of g.plan client) ++ due_from (known_on after) client (error_behind g.plan client) 1 sent_of) word)) (sym none)
          (front_more (front (talk_of g.plan client)) (due_from (known_on g) client (error_behind g.plan client) 1 sent_of)
          (due_from (known_on after) client (error_behind g.plan client) 1 sent_of) (due_front (error_behind g.plan client) 1 sent_of))
      by (Some word) some = record {
        rest = [];
        is = append-nil (due_bytes seen.replies g.plan g.tale.moment client)
            ∙ ap until (sym (same_until (error_behind g.plan client) 0 sent_of (omega (arith, length-take client.taken (messages g.plan client)))));
      } where
        told_all : (ordinal : ℕ) → ordinal ≤ client.taken → is_answered g.plan g.tale seen client ordinal ≡ true
        told_all = ended.told (ap (λ (w : Option LastWord). is_some w) some)

        same_until : (last : List ℕ) (i : ℕ) (sent : List Framed) → suc i + length sent ≤ suc client.taken
            → due_from (known_on after) client last (suc i) sent ≡ due_from (known_on g) client last (suc i) sent
        same_until last i [] within = refl
        same_until last i (message ∷ others) within =
            let here : suc i ≤ client.taken = omega arith in
            let fewer : suc (suc i) + length others ≤ suc client.taken = omega arith in
            step (known_on after) client last (suc i) message others
            ∙ ap (λ (answer : Option (List ℕ)). told_first answer (due_from (known_on after) client last (suc (suc i)) others)) (same_answer (suc i) message (told_all (suc i) here))
            ∙ ap (told_first (answer_to (known_on g) client (suc i) message)) (same_until last (suc i) others fewer)
            ∙ sym (step (known_on g) client last (suc i) message others)

    still_told : (ordinal : ℕ) → is_answered g.plan g.tale seen client ordinal ≡ true → is_answered g.plan after.tale new client ordinal ≡ true
    still_told zero told = refl
    still_told (suc k) told = by (kept_at (suc k) told) where
      by : (new.replies (name_of client (suc k)) ≡ seen.replies (name_of client (suc k))) ⊎ (is_some (own_at g.plan g.tale.moment (name_of client (suc k))) ≡ true)
          → is_answered g.plan after.tale new client (suc k) ≡ true
      by (inl same) = ap (λ (r : Option Reply). is_some (own_at g.plan g.tale.moment (name_of client (suc k))) || is_some r) same ∙ told
      by (inr own) = ap (λ (b : Bool). b || is_some (new.replies (name_of client (suc k)))) own

    parted_phase : (ended : Bool) → IsPhase ended g client row → (ended ≡ true) × IsPhase true g client row
    parted_phase true is = (refl, is)
    parted_phase false is = absurd (true≢false (sym over ∙ ap g.over of ∙ is.going))

    ended_so : IsPhase true g client row
    ended_so = (parted_phase (is_ended row.desk.seat.phase) is.phase).1

    is_over : is_ended row.desk.seat.phase ≡ true
    is_over = (parted_phase (is_ended row.desk.seat.phase) is.phase).0

    owed_parted : (at : Phase) (fresh : Bool) → is_ended at ≡ true → IsOwing at fresh g client row.desk.seat → IsOwing at fresh after client row.desk.seat
    owed_parted phase.LoggingIn fresh ended is = absurd (false≢true ended)
    owed_parted (phase.Serving account) fresh ended is = absurd (false≢true ended)
    owed_parted phase.Ended fresh ended is = record {
      written = is.written;
      size = is.size;
      front = along (is.written ++ row.desk.seat.outbox.due) (due_bytes seen.replies g.plan g.tale.moment client) (due_bytes new.replies g.plan g.tale.moment client)
          is.front (all_front ended_so);
    }

    phase_parted : (ended : Bool) → ended ≡ true → IsPhase ended after client row
    phase_parted false is_true = absurd (false≢true is_true)
    phase_parted true is_true = record {
      over = ended_so.over;
      idle = ended_so.idle;
      told = λ word ordinal within. still_told ordinal (ended_so.told word ordinal within);
      homeless = ended_so.homeless;
    }

    pub parted_so : IsClient after client row
    parted_so = record {
      who = is.who;
      heard = is.heard;
      owed = owed_parted row.desk.seat.phase (g.fresh client.number) is_over is.owed;
      desk = desk_so;
      coming = coming_so client (subst (λ (asked : Question). SparesAsked client.number (suc client.taken) asked) (sym is_statement) (inr taken)) is.coming;
      phase = phase_parted (is_ended row.desk.seat.phase) is_over;
    }

  -- To its statement.

  module _ (client : tales.Client) (row : Client) (is : IsClient g client row) (n : SessionName) (due : Due) (is_statement : question ≡ Statement n due)
      (asking : Asking) (asks : IsAsking g.setup.reads g.codes asking (Statement n due)) (kinds : reply.to_prepare ≡ is_prepare due.command)
      (work : Work) (in_work : row.desk.work ≡ Some work) (ordinal_is : due.ordinal ≡ work.ordinal)
      (name_so : n ≡ name_at_desk row.desk n.hostgroup) (has_row : HasRow row.desk.sessions n.hostgroup) (made : List ℕ)
      (pieces : row.desk.seat.outbox.coming ++ made ≡ spellings row.desk.seat.first (renamed (owed_kind reply) (number_of g.plan (message_of n due)) reply.payloads)) where
    abbrev seat : Seat
    seat = row.desk.seat

    abbrev answer : Answer
    answer = record { asking = asking; multiplex = due.multiplex; end = end_of reply; number = one_number reply.payloads }

    abbrev place : Place
    place = (moved_by asking.form (is_ok reply) (grown made seat)).place

    abbrev seat_now : Seat
    seat_now = replied (placed place (grown made seat))

    abbrev row_now : Client
    row_now = record row { desk = record (told_of answer n.hostgroup row.desk) { seat = seat_now; work = None } }

    row_is : at_desk (replied_by answer n.hostgroup made) row ≡ row_now
    row_is =
        ap (λ (s : Seat). record row { desk = record (told_of answer n.hostgroup row.desk) { seat = replied s; work = None } })
        (moved_is asking.form (is_ok reply) (grown made seat))

    -- it goes on, and a message of it isn't answered

    phase_false : (ended : Bool) → IsPhase ended g client row → (ended ≡ false) × IsGoing g client row
    phase_false true over = absurd (none_some over.idle) where
      none_some : row.desk.work ≡ None → ⊥
      none_some idle = let no : Some work ≡ None = sym in_work ∙ idle in cc
    phase_false false going = (refl, going)

    ended_is : is_ended seat.phase ≡ false
    ended_is = (phase_false (is_ended seat.phase) is.phase).0

    going : IsGoing g client row
    going = (phase_false (is_ended seat.phase) is.phase).1

    working_at : (at : Option Work) → at ≡ Some work → IsWorkingOr g client row at → IsWorking g client row work
    working_at None same is = absurd (cc)
    working_at (Some other) same is =
        let it : other ≡ work = cc in
        subst (λ (w : Work). IsWorking g client row w) it is

    working : IsWorking g client row work
    working = working_at row.desk.work in_work going.working

    last_is : due.ordinal ≡ client.taken
    last_is = ordinal_is ∙ working.last

    unanswered : seat.answered ≡ false
    unanswered = by seat.answered (ap (λ (w : Option Work). is_some w) (sym in_work) ∙ going.busy) where
      by : (answered : Bool) → true ≡ not answered → answered ≡ false
      by true busy = absurd (true≢false busy)
      by false busy = refl

    law_unanswered : is_answered g.plan g.tale seen client client.taken ≡ false
    law_unanswered = sym going.answered ∙ unanswered

    record IsMore : Type 0 where
      k : ℕ
      count : client.taken ≡ suc k

    more : (taken : ℕ) → client.taken ≡ taken → IsMore
    more zero same = absurd (true≢false (ap (is_answered g.plan g.tale seen client) (sym same) ∙ law_unanswered))
    more (suc k) same = record { k = k; count = same }

    some : IsMore
    some = more client.taken refl

    name_is : message_of n due ≡ name_of client client.taken
    name_is =
        let of : n.client ≡ client.number = ap (λ (m : SessionName). m.client) name_so ∙ is.who.number in
        λ i. record { client = of i; ordinal = last_is i }

    replies_now : (m : MessageName) → new.replies m ≡ put is_message seen.replies (name_of client client.taken) (Some reply) m
    replies_now m =
        ap (λ (v : View). v.replies m) heard_at
        ∙ ap (λ (asked : Question). (view_heard g.setup seen l reply (view.Answered asked)).replies m) is_statement
        ∙ ap (λ (message : MessageName). put is_message seen.replies message (Some reply) m) name_is

    heard_by_phase : (at : Phase) → is_ended at ≡ false → IsHeardIn at g.plan client seat
        → IsHeardIn at g.plan client seat_now × IsLast g.plan client
    heard_by_phase phase.LoggingIn going is = absurd (unsuc client.taken is.untaken some.count) where
      unsuc : (taken : ℕ) → taken ≡ 0 → taken ≡ suc some.k → ⊥
      unsuc taken none more = (let no : 0 ≡ suc some.k = sym none ∙ more in absurd (omega (arith, no)))
    heard_by_phase (phase.Serving account) going is = (
      record {
        limit = is.limit;
        known = is.known;
        logged_in = is.logged_in;
        faultless = is.faultless;
        arrived = is.arrived;
        gone = is.gone;
        size = is.size;
        rest = is.rest;
      },
      is_last g.plan client seat account some.k is some.count,
    )
    heard_by_phase phase.Ended going is = absurd (true≢false going)

    heard_now : IsHeardIn seat.phase g.plan client seat_now × IsLast g.plan client
    heard_now = heard_by_phase seat.phase ended_is is.heard

    last : IsLast g.plan client
    last = heard_now.1

    bytes_are : spellings (next_id last.message.last) (renamed (owed_kind reply) (number_of g.plan (name_of client client.taken)) reply.payloads)
        ≡ row.desk.seat.outbox.coming ++ made
    bytes_are =
        (λ i. spellings (sym (working.first last.message last.at) i) (renamed (owed_kind reply) (number_of g.plan (sym name_is i)) reply.payloads)) ∙ sym pieces

    due_grows : due_so_far (known_on after) client ≡ due_so_far (known_on g) client ++ (row.desk.seat.outbox.coming ++ made)
    due_grows =
        replied_due g.plan g.tale.moment g.tale refl seen new client reply replies_now last law_unanswered going.earlier
        ∙ ap (λ (more : List ℕ). due_so_far (known_on g) client ++ more) bytes_are

    owed_by_phase : (at : Phase) (fresh : Bool) → is_ended at ≡ false → IsOwing at fresh g client seat → IsOwing at fresh after client seat_now
    owed_by_phase phase.LoggingIn true goes is = tt
    owed_by_phase phase.LoggingIn false goes is =
        subst (λ (due : List ℕ). IsWrittenOf client seat_now due) (sym due_grows)
        (more-due client seat seat_now (due_so_far (known_on g) client) (row.desk.seat.outbox.coming ++ made) refl is)
    owed_by_phase (phase.Serving account) fresh goes is =
        subst (λ (due : List ℕ). IsWrittenOf client seat_now due) (sym due_grows)
        (more-due client seat seat_now (due_so_far (known_on g) client) (row.desk.seat.outbox.coming ++ made) refl is)
    owed_by_phase phase.Ended fresh goes is = absurd (true≢false goes)

    earlier_now : (ordinal : ℕ) → ordinal < client.taken → is_answered g.plan after.tale new client ordinal ≡ true
    earlier_now zero below = refl
    earlier_now (suc k) below =
        let apart : nat_eq (suc k) client.taken ≡ false = grind arith in
        ap (λ (r : Option Reply). is_some (own_at g.plan g.tale.moment (name_of client (suc k))) || is_some r)
        (replies_now (name_of client (suc k))
        ∙ put_apart is_message seen.replies (name_of client client.taken) (Some reply) (name_of client (suc k))
        (of_other_ordinal client.number (suc k) (name_of client client.taken) apart))
        ∙ going.earlier (suc k) below

    -- it is logged in
    entering_not : (at : Phase) → at ≡ phase.LoggingIn → IsHeardIn at g.plan client seat → ⊥
    entering_not phase.LoggingIn same is = (let no : 0 ≡ suc some.k = sym is.untaken ∙ some.count in absurd (omega (arith, no)))
    entering_not (phase.Serving account) same is = absurd (cc)
    entering_not phase.Ended same is = absurd (cc)

    answered_now : true ≡ is_answered g.plan after.tale new client client.taken
    answered_now = sym (
        ap (is_answered g.plan after.tale new client) some.count
        ∙ ap (λ (r : Option Reply). is_some (own_at g.plan g.tale.moment (name_of client (suc some.k))) || is_some r) there_now
        ∙ or_true (is_some (own_at g.plan g.tale.moment (name_of client (suc some.k))))) where
          there_now : new.replies (name_of client (suc some.k)) ≡ Some reply
          there_now =
              ap (λ (ordinal : ℕ). new.replies (name_of client ordinal)) (sym some.count) ∙ replies_now (name_of client client.taken)
              ∙ put_here is_message seen.replies (name_of client client.taken) (Some reply) (name_of client client.taken) (same_message (name_of client client.taken))

          or_true : (b : Bool) → b || true ≡ true
          or_true true = refl
          or_true false = refl

    phase_now : (ended : Bool) → ended ≡ false → IsPhase ended after client row_now
    phase_now true not_ended = absurd (true≢false not_ended)
    phase_now false not_ended = record {
      going = going.going;
      earlier = earlier_now;
      answered = answered_now;
      went = going.went;
      busy = refl;
      working = refl;
      unmoved = λ entering. absurd (entering_not seat.phase entering is.heard);
      account = going.account;
      collation = going.collation;
    }

    now_so : IsClient after client row_now
    now_so = record {
      who = record { link = is.who.link; number = is.who.number; port = is.who.port; salt = is.who.salt; drained = is.who.drained };
      heard = heard_now.0;
      owed = owed_by_phase seat.phase (g.fresh client.number) ended_is is.owed;
      desk = laws.answers g.setup g.codes seen client.number row.desk is.desk l reply n due asking n.hostgroup seat_now
          (there ∙ ap view.Answered is_statement) name_so refl refl (moved_grown asking.form (is_ok reply) made seat) asks kinds has_row;
      coming = coming_so client (subst (λ (asked : Question). SparesAsked client.number (suc client.taken) asked) (sym is_statement)
          (inr (omega (arith, last_is)))) is.coming;
      phase = phase_now (is_ended seat.phase) ended_is;
    }

    pub replied_so : IsClient after client (at_desk (replied_by answer n.hostgroup made) row)
    replied_so = subst (λ (r : Client). IsClient after client r) (sym row_is) now_so
