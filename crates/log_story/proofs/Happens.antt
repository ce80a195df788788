-- What each happening leaves as it was.
use Rattle.std.specs.Prelude.{◌≡◌, ◌&&◌, ◌||◌, ℕ, suc, Bool, true, false, if◌then◌else◌, nat_eq, Option, Some, None}
use Rattle.std.specs.Option.{option_map_or}
use Rattle.std.proofs.Common.{◌∙◌, refl, ap, arith}
use Rattle.session_state.specs.declared.place.Place.{Place}
use Rattle.private_model.proofs.Maps.{at_each, names, put-other, put-same}
use Rattle.private_model.specs.Commands.{Account, Command, Reply, class_of}
use Rattle.private_model.specs.Names.{ClientNo, Hostgroup, LinkId, MessageName, ServerId, SessionName}
use Rattle.private_model.specs.Story.{BecameDue, Capture, Dropped, Due, End, Freed, Gone, Heard, Left, LoggedIn, Mirrored, Own, Prep, Question, Ran, Sent}
use Rattle.private_model.specs.Story.{Statement, Sync, Unprepared}
use Rattle.private_model.specs.Story.{is_client, is_hostgroup, is_link_id, is_message, is_name, message_of, put}
use Rattle.private_model.specs.View.{Answered, Asked, Carried, Held, Joined, Lent, Link, Nobody, Quiet, Setup, Stage, View, asked, closed_number, due_of, freed}
use Rattle.private_model.specs.View.{heard, held_freed, held_heard}
use Rattle.private_model.specs.View.{lives_after, new_link, place_after, present, ran_by, session_in, view_heard, view_step}
use Rattle.log_story.proofs.Frames.{Rests, is_whose, no_link_at, nobody, only_client, only_link, asker, asker_at}

-- Tests.

pub or_left : (a b : Bool) → (a || b) ≡ false → a ≡ false
or_left true b is = is
or_left false b is = refl

pub or_right : (a b : Bool) → (a || b) ≡ false → b ≡ false
or_right true b is = absurd (cc)
or_right false b is = is

pub flipped : (a b : ClientNo) → is_client a b ≡ false → is_client b a ≡ false
flipped a b other = grind (arith, other)

name_apart : (a b : SessionName) → is_client a.client b.client ≡ false → is_name a b ≡ false
name_apart a b other = ap (λ x. x && (is_hostgroup a.hostgroup b.hostgroup && nat_eq a.life b.life)) other

message_apart : (a b : MessageName) → is_client a.client b.client ≡ false → is_message a b ≡ false
message_apart a b other = ap (λ x. x && nat_eq a.ordinal b.ordinal) other

-- tables with one entry put

pub put_link : {A : Type 0} (f : LinkId → A) (link : LinkId) (x : A) (l : LinkId) → is_link_id l link ≡ false → put is_link_id f link x l ≡ f l
put_link f link x l other = ap (λ b. if b then x else f l) other

put_name : {A : Type 0} (f : SessionName → A) (n : SessionName) (x : A) (m : SessionName) → is_client n.client m.client ≡ false → put is_name f n x m ≡ f m
put_name f n x m other = ap (λ b. if b then x else f m) (name_apart m n (flipped n.client m.client other))

put_message : {A : Type 0} (f : MessageName → A) (m : MessageName) (x : A) (k : MessageName) → is_client m.client k.client ≡ false
    → put is_message f m x k ≡ f k
put_message f m x k other = ap (λ b. if b then x else f k) (message_apart k m (flipped m.client k.client other))

-- another home leaves pin and insert id
module _ (held : SessionName → Held) (n : SessionName) (home : Option LinkId) where
  abbrev homed : SessionName → Held
  homed = put is_name held n (record (held n) { home = home })

  home_pin : (m : SessionName) → (homed m).pin ≡ (held m).pin
  home_pin = at_each names (λ m. (homed m).pin ≡ (held m).pin) n (ap (λ (h : Held). h.pin) (put-same names held n (record (held n) { home = home })))
      (λ m other. ap (λ (h : Held). h.pin) (put-other names held n (record (held n) { home = home }) m other))

  home_id : (m : SessionName) → (homed m).id ≡ (held m).id
  home_id = at_each names (λ m. (homed m).id ≡ (held m).id) n (ap (λ (h : Held). h.id) (put-same names held n (record (held n) { home = home })))
      (λ m other. ap (λ (h : Held). h.id) (put-other names held n (record (held n) { home = home }) m other))

-- It rests as it was, goes on, and may be said of more links and clients.

pub same-rests : (touched : LinkId → Bool) (whose : ClientNo → Bool) (view : View) → Rests touched whose view view
same-rests touched whose view =
    record { link = λ l other. refl; pin = λ n other. refl; id = λ n other. refl; due = λ n other. refl; life = λ c h other. refl; reply = λ m other. refl }

pub rests-on : (touched : LinkId → Bool) (whose : ClientNo → Bool) (old mid new : View) → Rests touched whose old mid → Rests touched whose mid new
    → Rests touched whose old new
rests-on touched whose old mid new first next = record {
  link = λ l other. next.link l other ∙ first.link l other;
  pin = λ n other. next.pin n other ∙ first.pin n other;
  id = λ n other. next.id n other ∙ first.id n other;
  due = λ n other. next.due n other ∙ first.due n other;
  life = λ c h other. next.life c h other ∙ first.life c h other;
  reply = λ m other. next.reply m other ∙ first.reply m other;
}

pub rests-more : (touched touched' : LinkId → Bool) (whose whose' : ClientNo → Bool) (old new : View) → ((l : LinkId) → touched' l ≡ false → touched l ≡ false)
    → ((c : ClientNo) → whose' c ≡ false → whose c ≡ false) → Rests touched whose old new → Rests touched' whose' old new
rests-more touched touched' whose whose' old new links clients rests = record {
  link = λ l other. rests.link l (links l other);
  pin = λ n other. rests.pin n (clients n.client other);
  id = λ n other. rests.id n (clients n.client other);
  due = λ n other. rests.due n (clients n.client other);
  life = λ c h other. rests.life c h (clients c other);
  reply = λ m other. rests.reply m (clients m.client other);
}

pub whosever : (touched : LinkId → Bool) (whose : ClientNo → Bool) (old new : View) → Rests touched nobody old new → Rests touched whose old new
whosever touched whose old new = rests-more touched touched nobody whose old new (λ l other. other) (λ c other. refl)

-- Each happening.

module _ (setup : Setup) (view : View) where
  -- one link alone
  link-rests : (link : LinkId) (x : Link) → Rests (only_link link) nobody view (record view { links = put is_link_id view.links link x })
  link-rests link x = record {
    link = put_link view.links link x;
    pin = λ n other. refl;
    id = λ n other. refl;
    due = λ n other. refl;
    life = λ c h other. refl;
    reply = λ m other. refl;
  }

  pub logged-in-rests : (link : LinkId) (server : ServerId) (account : Account)
      → Rests (only_link link) nobody view (view_step setup view (LoggedIn link server account))
  logged-in-rests link server account = link-rests link (new_link server account)

  pub ran-rests : (link : LinkId) → Rests (only_link link) nobody view (view_step setup view (Ran link))
  ran-rests link = link-rests link (ran_by setup.reads (view.links link).stage (view.links link))

  pub unprepared-rests : (link : LinkId) (number : ℕ) → Rests (only_link link) nobody view (view_step setup view (Unprepared link number))
  unprepared-rests link number = link-rests link (closed_number number (view.links link))

  pub dropped-rests : (link : LinkId) → Rests (only_link link) nobody view (view_step setup view (Dropped link))
  dropped-rests link = same-rests (only_link link) nobody view

  pub mirrored-rests : (client job : ClientNo) → Rests no_link_at nobody view (view_step setup view (Mirrored client job))
  mirrored-rests client job =
      record { link = λ l other. refl; pin = λ n other. refl; id = λ n other. refl; due = λ n other. refl; life = λ c h other. refl; reply = λ m other. refl }

  pub due-rests : (client : ClientNo) (hostgroup : Hostgroup) (ordinal key : ℕ) (command : Command) (multiplex : Option Bool)
      → Rests no_link_at (only_client client) view (view_step setup view (BecameDue client hostgroup ordinal key command multiplex))
  due-rests client hostgroup ordinal key command multiplex =
      let n = present view client hostgroup in
      record {
        link = λ l other. refl;
        pin = λ m other. refl;
        id = λ m other. refl;
        due = λ m other. put_name view.dues n (Some (due_of view n ordinal key command multiplex)) m (flipped m.client client other);
        life = λ c h other. refl;
        reply = λ m other. refl;
      }

  pub left-rests : (client : ClientNo) → Rests no_link_at (only_client client) view (view_step setup view (Left client))
  left-rests client = record {
    link = λ l other. refl;
    pin = λ n other. refl;
    id = λ n other. refl;
    due = λ n other. refl;
    life = λ c h other. ap (λ b. if b then suc (view.lives c h) else view.lives c h) other;
    reply = λ m other. refl;
  }

  pub freed-rests : (link : LinkId) → Rests (only_link link) nobody view (view_step setup view (Freed link))
  freed-rests link = record {
    link = put_link view.links link (freed (view.links link));
    pin = λ n other. pins (view.links link).carries n;
    id = λ n other. ids (view.links link).carries n;
    due = λ n other. refl;
    life = λ c h other. refl;
    reply = λ m other. refl;
  }
    where
      pins : (carried : Carried) (m : SessionName) → (held_freed carried view.held m).pin ≡ (view.held m).pin
      pins Nobody m = refl
      pins (Lent n) m = home_pin view.held n None m
      pins (Joined n) m = home_pin view.held n None m

      ids : (carried : Carried) (m : SessionName) → (held_freed carried view.held m).id ≡ (view.held m).id
      ids Nobody m = refl
      ids (Lent n) m = home_id view.held n None m
      ids (Joined n) m = home_id view.held n None m

  pub gone-rests : (link : LinkId) → Rests (only_link link) (is_whose (session_in (view.links link).carries)) view (view_step setup view (Gone link))
  gone-rests link = record {
    link = put_link view.links link (record (view.links link) { usable = false });
    pin = λ n other. refl;
    id = λ n other. refl;
    due = λ n other. refl;
    life = λ c h other. lives (session_in (view.links link).carries) c h other;
    reply = λ m other. refl;
  }
    where
      lives : (session : Option SessionName) (c : ClientNo) (h : Hostgroup) → is_whose session c ≡ false
          → option_map_or (λ n. lives_after n view.lives) session view.lives c h ≡ view.lives c h
      lives None c h other = refl
      lives (Some n) c h other = ap (λ b. if b then suc (view.lives c h) else view.lives c h)
          (name_apart (record { client = c; hostgroup = h; life = view.lives c h }) n (flipped n.client c other))

  -- a reply to a question of a session
  session-rests : (link : LinkId) (x : Link) (n : SessionName) (h : Held) (places : ClientNo → Place) (replies : MessageName → Option Reply)
      → ((m : MessageName) → is_client n.client m.client ≡ false → replies m ≡ view.replies m)
      → Rests (only_link link) (is_whose (Some n)) view
      (record view { links = put is_link_id view.links link x; held = put is_name view.held n h; places = places; replies = replies })
  session-rests link x n h places replies reply = record {
    link = put_link view.links link x;
    pin = λ m other. ap (λ (k : Held). k.pin) (put_name view.held n h m other);
    id = λ m other. ap (λ (k : Held). k.id) (put_name view.held n h m other);
    due = λ m other. refl;
    life = λ c g other. refl;
    reply = reply;
  }

  -- a question that a home is made for
  homes-rests : (link : LinkId) (x : Link) (n : SessionName) (dues : SessionName → Option Due) (carriers : MessageName → Option LinkId) (lasting : SessionName → Bool)
      → ((m : SessionName) → is_client n.client m.client ≡ false → dues m ≡ view.dues m) → Rests (only_link link) (is_whose (Some n)) view
      (record view {
        links = put is_link_id view.links link x;
        held = put is_name view.held n
            (record (view.held n) { home = Some link });
        dues = dues;
        carriers = carriers;
        lasting = lasting;
      })
  homes-rests link x n dues carriers lasting due = record {
    link = put_link view.links link x;
    pin = λ m other. home_pin view.held n (Some link) m;
    id = λ m other. home_id view.held n (Some link) m;
    due = due;
    life = λ c h other. refl;
    reply = λ m other. refl;
  }

  pub sent-rests : (link : LinkId) (question : Question)
      → Rests (only_link link) (is_whose (asker question)) view (view_step setup view (Sent link question))
  sent-rests link (Statement n due) = homes-rests link (asked (Statement n due) (view.links link)) n (put is_name view.dues n None)
      (put is_message view.carriers (message_of n due) (Some link)) (put is_name view.lasting n (view.lasting n || (class_of setup.reads due.command).outlasts_reset))
      (put_name view.dues n None)
  sent-rests link (Prep n key text) = homes-rests link (asked (Prep n key text) (view.links link)) n view.dues view.carriers view.lasting (λ m other. refl)
  sent-rests link (Sync n command) =
      whosever (only_link link) (is_whose (Some n)) view (view_step setup view (Sent link (Sync n command)))
      (link-rests link (asked (Sync n command) (view.links link)))
  sent-rests link (Own command) = link-rests link (asked (Own command) (view.links link))
  sent-rests link (End n) =
      whosever (only_link link) (is_whose (Some n)) view (view_step setup view (Sent link (End n))) (link-rests link (asked (End n) (view.links link)))
  sent-rests link (Capture n) =
      whosever (only_link link) (is_whose (Some n)) view (view_step setup view (Sent link (Capture n))) (link-rests link (asked (Capture n) (view.links link)))

  pub heard-rests : (link : LinkId) (reply : Reply)
      → Rests (only_link link) (is_whose (asker_at (view.links link).stage)) view (view_step setup view (Heard link reply))
  heard-rests link reply = by (view.links link).stage
    where
      x : Question → Link
      x question = heard setup.reads question reply (view.links link)

      its : (question : Question) (n : SessionName) → Held
      its question n = held_heard setup.reads question reply (view.held n)

      by : (stage : Stage) → Rests (only_link link) (is_whose (asker_at stage)) view (view_heard setup view link reply stage)
      by Quiet = same-rests (only_link link) nobody view
      by (Asked question) = same-rests (only_link link) (is_whose (asker question)) view
      by (Answered (Statement n due)) =
          session-rests link (x (Statement n due)) n (its (Statement n due) n)
          (put is_client view.places n.client (place_after setup.reads due.command reply (view.places n.client)))
          (put is_message view.replies (message_of n due) (Some reply)) (put_message view.replies (message_of n due) (Some reply))
      by (Answered (Prep n key text)) = session-rests link (x (Prep n key text)) n (its (Prep n key text) n) view.places view.replies (λ m other. refl)
      by (Answered (Sync n command)) = session-rests link (x (Sync n command)) n (its (Sync n command) n) view.places view.replies (λ m other. refl)
      by (Answered (Own command)) = link-rests link (x (Own command))
      by (Answered (End n)) = session-rests link (x (End n)) n (its (End n) n) view.places view.replies (λ m other. refl)
      by (Answered (Capture n)) = session-rests link (x (Capture n)) n (its (Capture n) n) view.places view.replies (λ m other. refl)
