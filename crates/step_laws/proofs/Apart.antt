-- What happens to others leaves what is looked at of a client.
use Rattle.std.specs.Prelude.{◌≡◌, ◌≤◌, ℕ, suc, Bool, true, false, ◌&&◌, nat_eq, if◌then◌else◌, List, [], ◌∷◌, Option, Some, None}
use Rattle.std.specs.Option.{option_map_or}
use Rattle.std.proofs.Common.{refl, ap, ◌∙◌}
use Rattle.private_model.specs.Commands.{Reply}
use Rattle.private_model.specs.Names.{ClientNo, Hostgroup, LinkId, SessionName}
use Rattle.private_model.specs.Story.{BecameDue, Broke, Capture, Dropped, End, Freed, Gone, Happening, Heard, Left, LoggedIn, Mirrored, Own, Prep, Question, Ran, Sent}
use Rattle.private_model.specs.Story.{Statement, Sync, Unprepared, is_client, is_hostgroup}
use Rattle.private_model.specs.View.{Answered, Asked, Held, Quiet, Setup, Stage, View, held_heard, lives_after, place_after, session_in, view_heard, view_step}
use Rattle.log_story.specs.Clients.{captures_first}
use Rattle.log_story.specs.Owed.{name_of}
use Rattle.log_story.specs.Plan.{Plan, own_at}
use Rattle.log_story.specs.Tale.{Client, Tale, counted, tell, view_of}
use Rattle.step_laws.specs.Freed.{freed_in, is_done_at}
use Rattle.step_laws.specs.Taken.{GivesUpNone, IsAsItWas, is_heard_of, touched_client}
use Rattle.step_laws.proofs.Counting.{own_still}
use Rattle.step_laws.proofs.Giving.{kept_in}
use Rattle.step_laws.proofs.Others.{IsAlike, as_it_was}
use Rattle.step_laws.proofs.Sparing.{freed_leaves, home_leaves}

abbrev of_life : ClientNo → Hostgroup → (life : ℕ) → SessionName
of_life client h life = record { client = client; hostgroup = h; life = life }

-- What is looked at of a client in a view.
record Looks (client : ClientNo) (old new : View) : Type 0 where
  replies : (ordinal : ℕ) → new.replies (record { client = client; ordinal = ordinal }) ≡ old.replies (record { client = client; ordinal = ordinal })
  life : (h : Hostgroup) → new.lives client h ≡ old.lives client h
  captures : (h : Hostgroup) (life : ℕ) → captures_first (new.held (of_life client h life)) ≡ captures_first (old.held (of_life client h life))
  place : new.places client ≡ old.places client

looks_itself : (client : ClientNo) (view : View) → Looks client view view
looks_itself client view = record { replies = λ ordinal. refl; life = λ h. refl; captures = λ h life. refl; place = refl }

looks_on : (client : ClientNo) (old mid new : View) → Looks client old mid → Looks client mid new → Looks client old new
looks_on client old mid new first next = record {
  replies = λ ordinal. next.replies ordinal ∙ first.replies ordinal;
  life = λ h. next.life h ∙ first.life h;
  captures = λ h life. next.captures h life ∙ first.captures h life;
  place = next.place ∙ first.place;
}

-- At the same moment, and at another at which nothing more of its is answered.
looks_alike : (setup : Setup) (plan : Plan) (client : Client) (old new : Tale)
    → ((ordinal : ℕ) → ordinal ≤ client.taken → own_at plan new.moment (name_of client ordinal) ≡ own_at plan old.moment (name_of client ordinal))
    → Looks client.number (view_of setup old) (view_of setup new) → IsAlike setup plan client old new
looks_alike setup plan client old new own looks = record {
  own = own;
  replies = looks.replies;
  captures = λ h. ap (λ life. captures_first ((view_of setup new).held (of_life client.number h life))) (looks.life h)
      ∙ looks.captures h ((view_of setup old).lives client.number h);
  place = looks.place;
}

module _ (setup : Setup) (view : View) (client : ClientNo) where
  abbrev Stays : Happening → Type 0
  Stays e = touched_client view e client ≡ false → Looks client view (view_step setup view e)

  -- what an answer makes of the session whose it is
  held_apart : (n : SessionName) (x : Held) → is_client client n.client ≡ false → (h : Hostgroup) (life : ℕ)
      → captures_first (if is_client client n.client && (is_hostgroup h n.hostgroup && nat_eq life n.life) then x else view.held (of_life client h life))
      ≡ captures_first (view.held (of_life client h life))
  held_apart n x other h life =
      ap (λ b. captures_first (if b && (is_hostgroup h n.hostgroup && nat_eq life n.life) then x else view.held (of_life client h life))) other

  session_stays : (link : LinkId) (reply : Reply) (question : Question) (n : SessionName) → is_client client n.client ≡ false
      → view_heard setup view link reply (Answered question)
      ≡ record (view_heard setup view link reply (Answered question)) {
        held = λ m. if is_client m.client n.client && (is_hostgroup m.hostgroup n.hostgroup && nat_eq m.life n.life) then held_heard setup.reads question reply (view.held n)
            else view.held m;
        places = view.places;
        replies = view.replies;
      } → Looks client view (view_heard setup view link reply (Answered question))
  session_stays link reply question n other is = record {
    replies = λ ordinal. ap (λ (v : View). v.replies (record { client = client; ordinal = ordinal })) is;
    life = λ h. refl;
    captures = λ h life. ap (λ (v : View). captures_first (v.held (of_life client h life))) is
        ∙ held_apart n (held_heard setup.reads question reply (view.held n)) other h life;
    place = ap (λ (v : View). v.places client) is;
  }

  heard_stays : (link : LinkId) (reply : Reply) (stage : Stage) → is_heard_of stage client ≡ false → Looks client view (view_heard setup view link reply stage)
  heard_stays link reply Quiet other = looks_itself client view
  heard_stays link reply (Asked question) other = looks_itself client view
  heard_stays link reply (Answered (Statement n due)) other = record {
    replies = λ ordinal. ap (λ b. if b && nat_eq ordinal due.ordinal then Some reply else view.replies (record { client = client; ordinal = ordinal })) other;
    life = λ h. refl;
    captures = held_apart n (held_heard setup.reads (Statement n due) reply (view.held n)) other;
    place = ap (λ b. if b then place_after setup.reads due.command reply (view.places n.client) else view.places client) other;
  }
  heard_stays link reply (Answered (Prep n key text)) other = session_stays link reply (Prep n key text) n other refl
  heard_stays link reply (Answered (Sync n command)) other = session_stays link reply (Sync n command) n other refl
  heard_stays link reply (Answered (Own command)) other =
      record { replies = λ ordinal. refl; life = λ h. refl; captures = λ h life. refl; place = refl }
  heard_stays link reply (Answered (End n)) other = session_stays link reply (End n) n other refl
  heard_stays link reply (Answered (Capture n)) other = session_stays link reply (Capture n) n other refl

  gone_life : (session : Option SessionName) → option_map_or (λ m. is_client client m.client) session false ≡ false → (h : Hostgroup)
      → option_map_or (λ n. lives_after n view.lives) session view.lives client h ≡ view.lives client h
  gone_life None other h = refl
  gone_life (Some n) other h =
      ap (λ b. if b && (is_hostgroup h n.hostgroup && nat_eq (view.lives client h) n.life) then suc (view.lives client h) else view.lives client h) other

  sent_stays : (link : LinkId) (question : Question) → Looks client view (view_step setup view (Sent link question))
  sent_stays link (Statement n due) = record {
    replies = λ ordinal. refl;
    life = λ h. refl;
    captures = λ h life. home_leaves captures_first (λ x home. refl) view.held n (Some link) (of_life client h life);
    place = refl;
  }
  sent_stays link (Prep n key text) = record {
    replies = λ ordinal. refl;
    life = λ h. refl;
    captures = λ h life. home_leaves captures_first (λ x home. refl) view.held n (Some link) (of_life client h life);
    place = refl;
  }
  sent_stays link (Sync n command) = record { replies = λ ordinal. refl; life = λ h. refl; captures = λ h life. refl; place = refl }
  sent_stays link (Own command) = record { replies = λ ordinal. refl; life = λ h. refl; captures = λ h life. refl; place = refl }
  sent_stays link (End n) = record { replies = λ ordinal. refl; life = λ h. refl; captures = λ h life. refl; place = refl }
  sent_stays link (Capture n) = record { replies = λ ordinal. refl; life = λ h. refl; captures = λ h life. refl; place = refl }

  each_stays : (e : Happening) → Stays e
  each_stays (LoggedIn link server account) other = record { replies = λ ordinal. refl; life = λ h. refl; captures = λ h life. refl; place = refl }
  each_stays (BecameDue whose hostgroup ordinal key command multiplex) other =
      record { replies = λ ordinal. refl; life = λ h. refl; captures = λ h life. refl; place = refl }
  each_stays (Sent link question) other = sent_stays link question
  each_stays (Ran link) other = record { replies = λ ordinal. refl; life = λ h. refl; captures = λ h life. refl; place = refl }
  each_stays (Heard link reply) other = heard_stays link reply (view.links link).stage other
  each_stays (Freed link) other = record {
    replies = λ ordinal. refl;
    life = λ h. refl;
    captures = λ h life. freed_leaves captures_first (λ x home. refl) (view.links link).carries view.held (of_life client h life);
    place = refl;
  }
  each_stays (Unprepared link number) other = record { replies = λ ordinal. refl; life = λ h. refl; captures = λ h life. refl; place = refl }
  each_stays (Dropped link) other = looks_itself client view
  each_stays (Gone link) other = record {
    replies = λ ordinal. refl;
    life = gone_life (session_in (view.links link).carries) other;
    captures = λ h life. refl;
    place = refl;
  }
  each_stays (Left whose) other = record {
    replies = λ ordinal. refl;
    life = λ h. ap (λ b. if b then suc (view.lives client h) else view.lives client h) other;
    captures = λ h life. refl;
    place = ap (λ b. if b then record (view.places whose) { settings = (setup.places whose).settings } else view.places client) other;
  }
  each_stays Broke other = looks_itself client view
  each_stays (Mirrored whose job) other = record {
    replies = λ ordinal. refl;
    life = λ h. refl;
    captures = λ h life. refl;
    place = ap (λ b. if b then view.places whose else view.places client) other;
  }

module _ (setup : Setup) (plan : Plan) (client : Client) where
  pub told_apart : (e : Happening) (tale : Tale) → touched_client (view_of setup tale) e client.number ≡ false → IsAsItWas setup plan tale (tell e tale) client
  told_apart e tale other =
      as_it_was setup plan client tale (tell e tale) (looks_alike setup plan client tale (tell e tale) (λ ordinal below. refl) (each_stays setup (view_of setup tale) client.number e other))

  pub counted_apart : (tale : Tale) → GivesUpNone plan (suc tale.moment) client → IsAsItWas setup plan tale (counted tale) client
  counted_apart tale none =
      as_it_was setup plan client tale (counted tale)
      (looks_alike setup plan client tale (counted tale) (λ ordinal below. own_still plan tale.moment (name_of client ordinal) (none ordinal below))
      (looks_itself client.number (view_of setup tale)))

  given_looks : (b : Bool) (link : LinkId) (tale : Tale) → Looks client.number (view_of setup tale) (view_of setup (if b then tell (Freed link) tale else tale))
  given_looks true link tale = each_stays setup (view_of setup tale) client.number (Freed link) refl
  given_looks false link tale = looks_itself client.number (view_of setup tale)

  freed_looks : (links : List LinkId) (tale : Tale) → Looks client.number (view_of setup tale) (view_of setup (freed_in setup plan links tale))
  freed_looks [] tale = looks_itself client.number (view_of setup tale)
  freed_looks (link ∷ links) tale =
      let next = freed_in setup plan (link ∷ []) tale in
      looks_on client.number (view_of setup tale) (view_of setup next) (view_of setup (freed_in setup plan links next))
      (given_looks (is_done_at setup plan tale link) link tale) (freed_looks links next)

  pub freed_apart : (links : List LinkId) (tale : Tale) → IsAsItWas setup plan tale (freed_in setup plan links tale) client
  freed_apart links tale =
      let new = freed_in setup plan links tale in
      as_it_was setup plan client tale new
      (looks_alike setup plan client tale new (λ ordinal below. ap (λ m. own_at plan m (name_of client ordinal)) (kept_in setup plan (λ (t : Tale). t.moment) (λ story t. refl) links tale))
      (freed_looks links tale))
