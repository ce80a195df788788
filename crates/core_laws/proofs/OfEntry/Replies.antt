-- In a lawful story a message is answered once: its reply stays.
use Rattle.std.specs.Prelude.{◌≡◌, ◌≤◌, ℕ, suc, Bool, true, false, if◌then◌else◌, nat_eq, nat_le, List, [], ◌∷◌, ◌++◌, Option, Some, None}
use Rattle.std.specs.Option.{option_and_then, option_map_or}
use Rattle.std.proofs.Common.{refl, sym, ap, ◌∙◌, subst, arith}
use Rattle.std.proofs.lemmas.Bool.{true≢false}
use Rattle.std.proofs.lemmas.Option.{none-some}
use Rattle.mx_wire.specs.declared.entry.Entry.{Entry}
use Rattle.packet_frame.specs.Packets.{Framed, next_id}
use Rattle.client_seat.specs.Stands.{Known, answer_by, answer_to}
use Rattle.private_model.proofs.Maps.{link_of, message_is, messages, put-other, put-same, same_link}
use Rattle.private_model.specs.Commands.{Reply}
use Rattle.private_model.specs.Lawful.{Fits, IsLawful, MayCome}
use Rattle.private_model.specs.Names.{LinkId, MessageName}
use Rattle.private_model.specs.Story.{BecameDue, Broke, Capture, Dropped, End, Freed, Gone, Happening, Heard, Left, LoggedIn, Mirrored}
use Rattle.private_model.specs.Story.{Own, Prep, Question, Ran, Sent, Statement, Story, Sync, Unprepared, is_link_id, is_message, message_of, put}
use Rattle.private_model.specs.View.{Answered, Asked, Link, Quiet, Setup, Stage, View, asked, ran_by, view_after, view_heard, view_step}
use Rattle.log_story.proofs.Walking.{Kept, step_keeps}
use Rattle.log_story.specs.Owed.{name_of, number_of}
use Rattle.log_story.specs.Plan.{OwnAnswer, Plan, gives_up, own_at}
use Rattle.log_story.specs.Tale.{Client, Tale, view_of}
use Rattle.log_story.specs.Telling.{tale_step}
use Rattle.core_laws.specs.entry.Dues.{AnswersStay}

-- the message whose statement stands there

abbrev pub asked_by : Question → Option MessageName
asked_by (Statement n due) = Some (message_of n due)
asked_by _ = None

abbrev pub message_on : Stage → Option MessageName
message_on Quiet = None
message_on (Asked question) = asked_by question
message_on (Answered question) = asked_by question

pub record IsCarried (carriers : MessageName → Option LinkId) (replies : MessageName → Option Reply) (l : LinkId) (m : MessageName) : Type 0 where
  pub carrier : carriers m ≡ Some l
  pub unanswered : replies m ≡ None

pub record AreOnce (view : View) : Type 0 where
  pub standing : (l : LinkId) (m : MessageName) → message_on (view.links l).stage ≡ Some m → IsCarried view.carriers view.replies l m
  pub unsent : (m : MessageName) → view.carriers m ≡ None → view.replies m ≡ None

none_there : (m : MessageName) (there : Option MessageName) → None ≡ Some m → there ≡ Some m
none_there m there none = absurd (none-some m none)

module _ (setup : Setup) (view : View) (once : AreOnce view) where
  abbrev Stands : (LinkId → Link) → Type 0
  Stands links = (l : LinkId) (m : MessageName) → message_on (links l).stage ≡ Some m → IsCarried view.carriers view.replies l m

  -- a link changes, on which the same statement stands, or none
  put_stands : (link : LinkId) (to : Link) → ((m : MessageName) → message_on to.stage ≡ Some m → message_on (view.links link).stage ≡ Some m)
      → Stands (put is_link_id view.links link to)
  put_stands link to same l m = by (is_link_id l link) refl where
    by : (b : Bool) → is_link_id l link ≡ b → message_on (if b then to else view.links l).stage ≡ Some m → IsCarried view.carriers view.replies l m
    by true here on = subst (λ (k : LinkId). IsCarried view.carriers view.replies k m) (sym (link_of l link here)) (once.standing link m (same m on))
    by false other on = once.standing l m on

  there_none : (link : LinkId) (m : MessageName) → None ≡ Some m → message_on (view.links link).stage ≡ Some m
  there_none link m none = none_there m (message_on (view.links link).stage) none

  -- A statement is sent.

  module _ (link : LinkId) (key : MessageName) (fresh : view.carriers key ≡ None) where
    abbrev sent : MessageName → Option LinkId
    sent = put is_message view.carriers key (Some link)

    other_key : (l : LinkId) (m : MessageName) → view.carriers m ≡ Some l → is_message m key ≡ false
    other_key l m there = by (is_message m key) refl where
      by : (b : Bool) → is_message m key ≡ b → is_message m key ≡ false
      by false is = is
      by true is = absurd (none-some l (sym fresh ∙ ap view.carriers (sym (message_is m key is)) ∙ there))

    carried_still : (l : LinkId) (m : MessageName) → view.carriers m ≡ Some l → sent m ≡ Some l
    carried_still l m is = put-other messages view.carriers key (Some link) m (other_key l m is) ∙ is

    unsent_still : (m : MessageName) → sent m ≡ None → view.replies m ≡ None
    unsent_still m none = by (is_message m key) refl where
      by : (b : Bool) → is_message m key ≡ b → view.replies m ≡ None
      by true is =
          absurd (none-some link (sym none ∙ ap (put is_message view.carriers key (Some link)) (message_is m key is)
          ∙ put-same messages view.carriers key (Some link)))
      by false is = once.unsent m (sym (put-other messages view.carriers key (Some link) m is) ∙ none)

    key_carried : (m : MessageName) → Some key ≡ Some m → IsCarried sent view.replies link m
    key_carried m is =
        let same : key ≡ m = cc in
        subst (λ (k : MessageName). IsCarried sent view.replies link k) same
        (record { carrier = put-same messages view.carriers key (Some link); unanswered = once.unsent key fresh })

    sent_stands : (to : Link) → message_on to.stage ≡ Some key → (l : LinkId) (m : MessageName)
        → message_on (put is_link_id view.links link to l).stage ≡ Some m → IsCarried sent view.replies l m
    sent_stands to its l m = by (is_link_id l link) refl where
      by : (b : Bool) → is_link_id l link ≡ b → message_on (if b then to else view.links l).stage ≡ Some m → IsCarried sent view.replies l m
      by true here on = subst (λ (k : LinkId). IsCarried sent view.replies k m) (sym (link_of l link here)) (key_carried m (sym its ∙ on))
      by false other on =
          let was : IsCarried view.carriers view.replies l m = once.standing l m on in
          record { carrier = carried_still l m was.carrier; unanswered = was.unanswered }

  sent_once : (link : LinkId) (question : Question) → Fits setup view (view.links link) question → AreOnce (view_step setup view (Sent link question))
  sent_once link (Statement n due) fits = record {
    standing = sent_stands link (message_of n due) fits.unsent (asked (Statement n due) (view.links link)) refl;
    unsent = unsent_still link (message_of n due) fits.unsent;
  }
  sent_once link (Prep n key text) fits =
      record { standing = put_stands link (asked (Prep n key text) (view.links link)) (there_none link); unsent = once.unsent }
  sent_once link (Sync n command) fits =
      record { standing = put_stands link (asked (Sync n command) (view.links link)) (there_none link); unsent = once.unsent }
  sent_once link (Own command) fits =
      record { standing = put_stands link (asked (Own command) (view.links link)) (there_none link); unsent = once.unsent }
  sent_once link (End n) fits = record { standing = put_stands link (asked (End n) (view.links link)) (there_none link); unsent = once.unsent }
  sent_once link (Capture n) fits = record { standing = put_stands link (asked (Capture n) (view.links link)) (there_none link); unsent = once.unsent }

  -- It is answered.

  module _ (link : LinkId) (key : MessageName) (reply : Reply) (on : message_on (view.links link).stage ≡ Some key) where
    abbrev answered : MessageName → Option Reply
    answered = put is_message view.replies key (Some reply)

    key_there : view.carriers key ≡ Some link
    key_there = (once.standing link key on).carrier

    elsewhere : (l : LinkId) (m : MessageName) → is_link_id l link ≡ false → view.carriers m ≡ Some l → is_message m key ≡ false
    elsewhere l m other there = by (is_message m key) refl where
      by : (b : Bool) → is_message m key ≡ b → is_message m key ≡ false
      by false is = is
      by true is =
          let same : Some l ≡ Some link = sym there ∙ ap view.carriers (message_is m key is) ∙ key_there in
          let links : l ≡ link = cc in
          absurd (true≢false (sym (same_link link) ∙ ap (λ (k : LinkId). is_link_id k link) (sym links) ∙ other))

    heard_stands : (to : Link) → message_on to.stage ≡ None → (l : LinkId) (m : MessageName)
        → message_on (put is_link_id view.links link to l).stage ≡ Some m → IsCarried view.carriers answered l m
    heard_stands to quiet l m = by (is_link_id l link) refl where
      by : (b : Bool) → is_link_id l link ≡ b → message_on (if b then to else view.links l).stage ≡ Some m → IsCarried view.carriers answered l m
      by true here on = absurd (none-some m (sym quiet ∙ on))
      by false other on =
          let was : IsCarried view.carriers view.replies l m = once.standing l m on in
          record {
            carrier = was.carrier;
            unanswered = put-other messages view.replies key (Some reply) m (elsewhere l m other was.carrier) ∙ was.unanswered;
          }

    unsent_unanswered : (m : MessageName) → view.carriers m ≡ None → answered m ≡ None
    unsent_unanswered m none = by (is_message m key) refl where
      by : (b : Bool) → is_message m key ≡ b → answered m ≡ None
      by true is = absurd (none-some link (sym none ∙ ap view.carriers (message_is m key is) ∙ key_there))
      by false is = put-other messages view.replies key (Some reply) m is ∙ once.unsent m none

    -- whose answer was there isn't this one
    answer_stays : (m : MessageName) (old : Reply) → view.replies m ≡ Some old → answered m ≡ Some old
    answer_stays m old is = by (is_message m key) refl where
      by : (b : Bool) → is_message m key ≡ b → answered m ≡ Some old
      by true same = absurd (none-some old (sym (once.standing link key on).unanswered ∙ ap view.replies (sym (message_is m key same)) ∙ is))
      by false other = put-other messages view.replies key (Some reply) m other ∙ is

  heard_once : (link : LinkId) (reply : Reply) (stage : Stage) → (view.links link).stage ≡ stage → AreOnce (view_heard setup view link reply stage)
  heard_once link reply Quiet is = once
  heard_once link reply (Asked question) is = once
  heard_once link reply (Answered (Statement n due)) is =
      let on : message_on (view.links link).stage ≡ Some (message_of n due) = ap message_on is in
      record {
        standing = heard_stands link (message_of n due) reply on _ refl;
        unsent = unsent_unanswered link (message_of n due) reply on;
      }
  heard_once link reply (Answered (Prep n key text)) is = record { standing = put_stands link _ (there_none link); unsent = once.unsent }
  heard_once link reply (Answered (Sync n command)) is = record { standing = put_stands link _ (there_none link); unsent = once.unsent }
  heard_once link reply (Answered (Own command)) is = record { standing = put_stands link _ (there_none link); unsent = once.unsent }
  heard_once link reply (Answered (End n)) is = record { standing = put_stands link _ (there_none link); unsent = once.unsent }
  heard_once link reply (Answered (Capture n)) is = record { standing = put_stands link _ (there_none link); unsent = once.unsent }

  heard_keeps : (link : LinkId) (reply : Reply) (stage : Stage) → (view.links link).stage ≡ stage → (m : MessageName) (old : Reply)
      → view.replies m ≡ Some old → (view_heard setup view link reply stage).replies m ≡ Some old
  heard_keeps link reply Quiet is m old there = there
  heard_keeps link reply (Asked question) is m old there = there
  heard_keeps link reply (Answered (Statement n due)) is m old there = answer_stays link (message_of n due) reply (ap message_on is) m old there
  heard_keeps link reply (Answered (Prep n key text)) is m old there = there
  heard_keeps link reply (Answered (Sync n command)) is m old there = there
  heard_keeps link reply (Answered (Own command)) is m old there = there
  heard_keeps link reply (Answered (End n)) is m old there = there
  heard_keeps link reply (Answered (Capture n)) is m old there = there

  -- what runs is what stood there
  ran_same : (stage : Stage) (there : Link) → there.stage ≡ stage → (m : MessageName) → message_on (ran_by setup.reads stage there).stage ≡ Some m
      → message_on there.stage ≡ Some m
  ran_same Quiet there is m on = on
  ran_same (Asked question) there is m on = ap message_on is ∙ on
  ran_same (Answered question) there is m on = on

  happens_once : (e : Happening) → MayCome setup view e → AreOnce (view_step setup view e)
  happens_once (LoggedIn link server account) may = record { standing = put_stands link _ (there_none link); unsent = once.unsent }
  happens_once (BecameDue client hostgroup ordinal key command multiplex) may = record { standing = once.standing; unsent = once.unsent }
  happens_once (Sent link question) may = sent_once link question may.fits
  happens_once (Ran link) may = record {
    standing = put_stands link (ran_by setup.reads (view.links link).stage (view.links link)) (ran_same (view.links link).stage (view.links link) refl);
    unsent = once.unsent;
  }
  happens_once (Heard link reply) may = heard_once link reply (view.links link).stage refl
  happens_once (Freed link) may = record { standing = put_stands link _ (λ m on. on); unsent = once.unsent }
  happens_once (Unprepared link number) may = record { standing = put_stands link _ (λ m on. on); unsent = once.unsent }
  happens_once (Dropped link) may = once
  happens_once (Gone link) may = record { standing = put_stands link _ (λ m on. on); unsent = once.unsent }
  happens_once (Left client) may = record { standing = once.standing; unsent = once.unsent }
  happens_once Broke may = once
  happens_once (Mirrored client job) may = record { standing = once.standing; unsent = once.unsent }

  happens_keeps : (e : Happening) (m : MessageName) (old : Reply) → view.replies m ≡ Some old → (view_step setup view e).replies m ≡ Some old
  happens_keeps (Heard link reply) m old there = heard_keeps link reply (view.links link).stage refl m old there
  happens_keeps (LoggedIn link server account) m old there = there
  happens_keeps (BecameDue client hostgroup ordinal key command multiplex) m old there = there
  happens_keeps (Sent link question) m old there = there
  happens_keeps (Ran link) m old there = there
  happens_keeps (Freed link) m old there = there
  happens_keeps (Unprepared link number) m old there = there
  happens_keeps (Dropped link) m old there = there
  happens_keeps (Gone link) m old there = there
  happens_keeps (Left client) m old there = there
  happens_keeps Broke m old there = there
  happens_keeps (Mirrored client job) m old there = there

module _ (setup : Setup) where
  pub story_once : (story : Story) → IsLawful setup story → AreOnce (view_after setup story)
  story_once [] lawful = record { standing = λ l m on. absurd (none-some m on); unsent = λ m none. refl }
  story_once (e ∷ past) lawful = happens_once setup (view_after setup past) (story_once past lawful.0) e lawful.1

  later_keeps : (more past : Story) → IsLawful setup (more ++ past) → (m : MessageName) (old : Reply)
      → (view_after setup past).replies m ≡ Some old → (view_after setup (more ++ past)).replies m ≡ Some old
  later_keeps [] past lawful m old there = there
  later_keeps (e ∷ more) past lawful m old there =
      happens_keeps setup (view_after setup (more ++ past)) (story_once (more ++ past) lawful.0) e m old (later_keeps more past lawful.0 m old there)

-- A tale's story goes on from what it was.

record IsLater (past story : Story) : Type 0 where
  more : Story
  is : story ≡ more ++ past

later : (setup : Setup) (past : Story) → Kept setup
later setup past = record {
  holds = IsLater past;
  more = λ story e may is. record { more = e ∷ is.more; is = ap (λ (xs : Story). e ∷ xs) is.is };
}

pub replies_on : (setup : Setup) (plan : Plan) (tale : Tale) (e : Entry) → IsLawful setup (tale_step setup plan tale e).story → (m : MessageName) (reply : Reply)
    → (view_of setup tale).replies m ≡ Some reply → (view_of setup (tale_step setup plan tale e)).replies m ≡ Some reply
unfolding later
replies_on setup plan tale e lawful m reply there =
    let is : IsLater tale.story (tale_step setup plan tale e).story =
    step_keeps setup plan (later setup tale.story) tale e (record { more = []; is = refl }) in
    subst (λ (story : Story). (view_after setup story).replies m ≡ Some reply) (sym is.is)
    (later_keeps setup is.more tale.story (subst (IsLawful setup) is.is lawful) m reply there)

-- And so does its client's answer.

abbrev own_in : (moment : ℕ) → Option OwnAnswer → Option (List (List ℕ))
own_in moment answer = option_and_then (λ (a : OwnAnswer). if nat_le a.from moment then Some a.payloads else None) answer

by_then : (from moment : ℕ) → nat_le from moment ≡ true → nat_le from (suc moment) ≡ true
by_then from moment is = grind arith

not_now : (from moment : ℕ) → nat_le from moment ≡ false → nat_eq from (suc moment) ≡ false → nat_le from (suc moment) ≡ false
not_now from moment late other = grind arith

own_stays : (moment : ℕ) (answer : Option OwnAnswer) (payloads : List (List ℕ)) → own_in moment answer ≡ Some payloads
    → own_in (suc moment) answer ≡ Some payloads
own_stays moment None payloads is = is
own_stays moment (Some a) payloads is = by (nat_le a.from moment) refl is where
  by : (b : Bool) → nat_le a.from moment ≡ b → (if b then Some a.payloads else None) ≡ Some payloads
      → (if nat_le a.from (suc moment) then Some a.payloads else None) ≡ Some payloads
  by true early is = ap (λ (b : Bool). if b then Some a.payloads else None) (by_then a.from moment early) ∙ is
  by false late is = absurd (none-some payloads is)

own_none : (moment : ℕ) (answer : Option OwnAnswer) → own_in moment answer ≡ None
    → option_map_or (λ (a : OwnAnswer). nat_eq a.from (suc moment)) answer false ≡ false → own_in (suc moment) answer ≡ None
own_none moment None none other = refl
own_none moment (Some a) none other = by (nat_le a.from moment) refl none where
  by : (b : Bool) → nat_le a.from moment ≡ b → (if b then Some a.payloads else None) ≡ None
      → (if nat_le a.from (suc moment) then Some a.payloads else None) ≡ None
  by true early is = absurd (none-some a.payloads (sym is))
  by false late is = ap (λ (b : Bool). if b then Some a.payloads else None) (not_now a.from moment late other)

own_stays_at : (plan : Plan) (moment : ℕ) (m : MessageName) (payloads : List (List ℕ)) → own_at plan moment m ≡ Some payloads
    → own_at plan (suc moment) m ≡ Some payloads
own_stays_at plan moment m payloads is = own_stays moment (plan.own m) payloads is

own_none_at : (plan : Plan) (moment : ℕ) (m : MessageName) → own_at plan moment m ≡ None → gives_up plan (suc moment) m ≡ false
    → own_at plan (suc moment) m ≡ None
own_none_at plan moment m none other = own_none moment (plan.own m) none other

module _ (x y : Known) (client : Client) (stay : AnswersStay x y client) where
  abbrev named : ℕ → MessageName
  named ordinal = name_of client ordinal

  own_at_y : (m : MessageName) (own : Option (List (List ℕ))) → own_at x.plan (suc x.moment) m ≡ own → own_at y.plan y.moment m ≡ own
  own_at_y m own is = (λ i. own_at (stay.plan i) (stay.moment i) m) ∙ is

  answered_by : (ordinal : ℕ) (message : Framed) (bytes : List ℕ) (own : Option (List (List ℕ))) (reply : Option Reply) → ordinal ≤ client.taken
      → own_at x.plan x.moment (named ordinal) ≡ own → x.view.replies (named ordinal) ≡ reply
      → answer_by own reply (number_of x.plan (named ordinal)) (next_id message.last) ≡ Some bytes → answer_to y client ordinal message ≡ Some bytes
  answered_by ordinal message bytes (Some payloads) reply within own there is =
      let now : own_at y.plan y.moment (named ordinal) ≡ Some payloads =
      own_at_y (named ordinal) (Some payloads) (own_stays_at x.plan x.moment (named ordinal) payloads own) in
      (λ i. answer_by (now i) (y.view.replies (named ordinal)) (number_of (stay.plan i) (named ordinal)) (next_id message.last)) ∙ is
  answered_by ordinal message bytes None (Some reply) within own there is =
      let now : own_at y.plan y.moment (named ordinal) ≡ None =
      own_at_y (named ordinal) None (own_none_at x.plan x.moment (named ordinal) own
      (subst (λ (m : ℕ). gives_up x.plan m (named ordinal) ≡ false) stay.moment (stay.given ordinal reply within there own))) in
      (λ i. answer_by (now i) (stay.replies (named ordinal) reply there i) (number_of (stay.plan i) (named ordinal)) (next_id message.last)) ∙ is
  answered_by ordinal message bytes None None within own there is = absurd (none-some bytes is)

  pub answers_on : (ordinal : ℕ) (message : Framed) (bytes : List ℕ) → ordinal ≤ client.taken → answer_to x client ordinal message ≡ Some bytes
      → answer_to y client ordinal message ≡ Some bytes
  answers_on ordinal message bytes within is =
      answered_by ordinal message bytes (own_at x.plan x.moment (named ordinal)) (x.view.replies (named ordinal)) within refl refl is
