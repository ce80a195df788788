-- What each happening leaves of links and sessions.
use Rattle.std.specs.Prelude.{◌≡◌, ℕ, suc, Bool, true, false, ◌&&◌, ◌||◌, not, is_some, nat_eq, if◌then◌else◌, Option, Some, None}
use Rattle.std.specs.Option.{option_map_or}
use Rattle.std.proofs.Common.{refl, sym, ap, ◌∙◌, inl, inr}
use Rattle.std.proofs.lemmas.Bool.{and_from, and_parts, cases_Bool, or_parts}
use Rattle.private_model.proofs.Maps.{name_of}
use Rattle.private_model.specs.Commands.{Reply}
use Rattle.private_model.specs.Names.{ClientNo, Hostgroup, LinkId, SessionName}
use Rattle.private_model.specs.Story.{BecameDue, Broke, Capture, Dropped, Due, End, Freed, Gone, Happening, Heard, Left, LoggedIn, Mirrored, Own, Prep, Question, Ran, Sent}
use Rattle.private_model.specs.Story.{Statement, Sync, Unprepared, is_client, is_hostgroup, is_link_id, is_name, put}
use Rattle.private_model.specs.View.{Answered, Asked, Carried, Held, Joined, Lent, Link, Nobody, Quiet, Setup, Stage, View, asked, closed_number, due_of, freed, heard}
use Rattle.private_model.specs.View.{held_freed, held_heard, lives_after, new_link, present, ran_by, session_in, view_heard, view_step}
use Rattle.session_state.specs.Pins.{is_pinned, needs_reset}
use Rattle.session_state.specs.declared.pin.Pin.{Pin}
use Rattle.log_story.specs.Plan.{Plan}
use Rattle.log_story.specs.Servers.{is_done, is_done_by, is_given_up, is_left, is_quiet}
use Rattle.log_story.specs.Tale.{Tale, Wire, is_reset_step, link_in, tell, view_of, with_wire}
use Rattle.step_laws.specs.Freed.{is_done_at}
use Rattle.step_laws.specs.Spared.{IsAsBefore, Spares, SparesIn, Stays, carries_of, is_beside, is_heard_by, is_newest, touched_link, touched_session}

-- By what a link is done.

abbrev pub lent_by : (given left : Bool) → Pin → Option ℕ → Bool
lent_by given left pin id = not (needs_reset pin) && (((not (is_pinned pin) && is_some id) && given) || left)

abbrev joined_by : (left : Bool) → Pin → Option ℕ → Bool
joined_by left pin id = not (needs_reset pin) && ((not (is_pinned pin) && is_some id) || left)

-- a link carries none of these
pub of_other : (whose : SessionName → Bool) (carried : Carried) → carries_of whose carried ≡ false → (n : SessionName) → session_in carried ≡ Some n → whose n ≡ false
of_other whose carried other n is = sym (ap (λ (s : Option SessionName). option_map_or whose s false) is) ∙ other

module _ (setup : Setup) (plan : Plan) (old new : Tale) where
  done_carried : (carried : Carried) → ((n : SessionName) → session_in carried ≡ Some n → IsAsBefore setup plan old new n)
      → is_done_by plan new.moment (view_of setup new) carried ≡ is_done_by plan old.moment (view_of setup old) carried
  done_carried Nobody same = refl
  done_carried (Lent n) same = let s = same n refl in λ i. lent_by (s.given i) (s.left i) (s.pin i) (s.id i)
  done_carried (Joined n) same = let s = same n refl in λ i. joined_by (s.left i) (s.pin i) (s.id i)

  pub done_as_before : (link : LinkId) → Stays setup plan old new link → is_done_at setup plan new link ≡ is_done_at setup plan old link
  done_as_before link stays =
      let known = link_in setup old link in
      (λ i. is_done plan new.moment (view_of setup new) (stays.wire i) (stays.link i))
      ∙ ap (λ b. known.usable && (is_quiet known.stage && (not (is_reset_step (old.wires link).step) && b))) (done_carried known.carries stays.session)

  pub stays_spared : (touched : LinkId → Bool) (whose : SessionName → Bool) → SparesIn setup touched whose old new → (link : LinkId) → touched link ≡ false
      → carries_of whose (link_in setup old link).carries ≡ false → Stays setup plan old new link
  stays_spared touched whose spares link untouched other = record {
    wire = spares.wire link untouched;
    link = spares.view.link link untouched;
    session = λ n is. let apart : whose n ≡ false = of_other whose (link_in setup old link).carries other n is in record {
      pin = spares.view.pin n apart;
      id = spares.view.id n apart;
      left = spares.view.left n apart;
      given = λ i. is_given_up plan (spares.moment i) n (spares.view.due n apart i);
    };
  }

-- It spares what it spared, and goes on, and may be said of more.

pub spares_itself : (touched : LinkId → Bool) (whose : SessionName → Bool) (view : View) → Spares touched whose view view
spares_itself touched whose view =
    record { link = λ l other. refl; pin = λ n other. refl; id = λ n other. refl; due = λ n other. refl; left = λ n other. refl }

pub spares_on : (touched : LinkId → Bool) (whose : SessionName → Bool) (old mid new : View) → Spares touched whose old mid → Spares touched whose mid new
    → Spares touched whose old new
spares_on touched whose old mid new first next = record {
  link = λ l other. next.link l other ∙ first.link l other;
  pin = λ n other. next.pin n other ∙ first.pin n other;
  id = λ n other. next.id n other ∙ first.id n other;
  due = λ n other. next.due n other ∙ first.due n other;
  left = λ n other. next.left n other ∙ first.left n other;
}

pub spares_more : (touched touched' : LinkId → Bool) (whose whose' : SessionName → Bool) (old new : View) → ((l : LinkId) → touched' l ≡ false → touched l ≡ false)
    → ((n : SessionName) → whose' n ≡ false → whose n ≡ false) → Spares touched whose old new → Spares touched' whose' old new
spares_more touched touched' whose whose' old new links sessions spares = record {
  link = λ l other. spares.link l (links l other);
  pin = λ n other. spares.pin n (sessions n other);
  id = λ n other. spares.id n (sessions n other);
  due = λ n other. spares.due n (sessions n other);
  left = λ n other. spares.left n (sessions n other);
}

module _ (setup : Setup) (touched : LinkId → Bool) (whose : SessionName → Bool) where
  pub spares_along : (old mid new : Tale) → SparesIn setup touched whose old mid → SparesIn setup touched whose mid new → SparesIn setup touched whose old new
  spares_along old mid new first next = record {
    moment = next.moment ∙ first.moment;
    wire = λ l other. next.wire l other ∙ first.wire l other;
    view = spares_on touched whose (view_of setup old) (view_of setup mid) (view_of setup new) first.view next.view;
  }

  -- by clients and links alone nothing changes here
  pub spares_told : (tale new : Tale) → new.moment ≡ tale.moment → new.wires ≡ tale.wires → new.story ≡ tale.story → SparesIn setup touched whose tale new
  spares_told tale new moment wires story = record {
    moment = moment;
    wire = λ l other. ap (λ (w : LinkId → Wire). w l) wires;
    view = record {
      link = λ l other. ap (λ s. (view_of setup (record tale { story = s })).links l) story;
      pin = λ n other. ap (λ s. ((view_of setup (record tale { story = s })).held n).pin) story;
      id = λ n other. ap (λ s. ((view_of setup (record tale { story = s })).held n).id) story;
      due = λ n other. ap (λ s. (view_of setup (record tale { story = s })).dues n) story;
      left = λ n other. ap (λ s. is_left (view_of setup (record tale { story = s })) n) story;
    };
  }

pub more_spared : (setup : Setup) (touched touched' : LinkId → Bool) (whose whose' : SessionName → Bool) (old new : Tale)
    → ((l : LinkId) → touched' l ≡ false → touched l ≡ false) → ((n : SessionName) → whose' n ≡ false → whose n ≡ false)
    → SparesIn setup touched whose old new → SparesIn setup touched' whose' old new
more_spared setup touched touched' whose whose' old new links sessions spares = record {
  moment = spares.moment;
  wire = λ l other. spares.wire l (links l other);
  view = spares_more touched touched' whose whose' (view_of setup old) (view_of setup new) links sessions spares.view;
}

-- Tables with one entry put.

put_apart : {A : Type 0} (f : LinkId → A) (link : LinkId) (x : A) (l : LinkId) → is_link_id l link ≡ false → put is_link_id f link x l ≡ f l
put_apart f link x l other = ap (λ b. if b then x else f l) other

name_apart : {A B : Type 0} (of : A → B) (f : SessionName → A) (n : SessionName) (x : A) (m : SessionName) → is_name m n ≡ false → of (put is_name f n x m) ≡ of (f m)
name_apart of f n x m other = ap (λ b. of (if b then x else f m)) other

-- another home leaves Pin and insert id
pub home_leaves : {A : Type 0} (of : Held → A) → ((h : Held) (home : Option LinkId) → of (record h { home = home }) ≡ of h)
    → (held : SessionName → Held) (n : SessionName) (home : Option LinkId) (m : SessionName) → of (put is_name held n (record (held n) { home = home }) m) ≡ of (held m)
home_leaves of leaves held n home m = elim (cases_Bool (is_name m n)) [
  | inl here ↦ ap (λ b. of (if b then record (held n) { home = home } else held m)) here ∙ leaves (held n) home ∙ ap (λ k. of (held k)) (sym (name_of m n here))
  | inr other ↦ ap (λ b. of (if b then record (held n) { home = home } else held m)) other
]

pub freed_leaves : {A : Type 0} (of : Held → A) → ((h : Held) (home : Option LinkId) → of (record h { home = home }) ≡ of h)
    → (carried : Carried) (held : SessionName → Held) (m : SessionName) → of (held_freed carried held m) ≡ of (held m)
freed_leaves of leaves Nobody held m = refl
freed_leaves of leaves (Lent n) held m = home_leaves of leaves held n None m
freed_leaves of leaves (Joined n) held m = home_leaves of leaves held n None m

-- Who was left.

abbrev left_at : SessionName → (life : ℕ) → Bool
left_at m life = not (is_name m (record { client = m.client; hostgroup = m.hostgroup; life = life }))

no_name : (a b : Bool) → not (a && (b && false)) ≡ true
no_name true true = refl
no_name true false = refl
no_name false b = refl

left_apart : (m : SessionName) (life : ℕ) → nat_eq m.life life ≡ false → left_at m life ≡ true
left_apart m life other =
    ap (λ b. not (is_client m.client m.client && (is_hostgroup m.hostgroup m.hostgroup && b))) other
    ∙ no_name (is_client m.client m.client) (is_hostgroup m.hostgroup m.hostgroup)

module _ (view : View) (m : SessionName) where
  abbrev life : ℕ
  life = view.lives m.client m.hostgroup

  aged : (b : Bool) → (b && is_newest view m) ≡ false → left_at m (if b then suc life else life) ≡ left_at m life
  aged false other = refl
  aged true other =
      let parts = or_parts (nat_eq m.life life) (nat_eq m.life (suc life)) other in
      left_apart m (suc life) parts.1 ∙ sym (left_apart m life parts.0)

  -- the session of a link that is lost
  beside_test : (n : SessionName) (b : Bool) → is_name (record { client = m.client; hostgroup = m.hostgroup; life = life }) n ≡ b
      → (is_beside n m && is_newest view m) ≡ false → (b && is_newest view m) ≡ false
  beside_test n false is other = refl
  beside_test n true is other =
      let parts = and_parts (is_client m.client n.client) (is_hostgroup m.hostgroup n.hostgroup && nat_eq life n.life) is in
      let more = and_parts (is_hostgroup m.hostgroup n.hostgroup) (nat_eq life n.life) parts.1 in
      ap (λ b. b && is_newest view m) (sym (and_from (is_client m.client n.client) (is_hostgroup m.hostgroup n.hostgroup) parts.0 more.0)) ∙ other

  gone_left : (session : Option SessionName) → (option_map_or (λ n. is_beside n m) session false && is_newest view m) ≡ false
      → left_at m (option_map_or (λ n. lives_after n view.lives) session view.lives m.client m.hostgroup) ≡ left_at m life
  gone_left None other = refl
  gone_left (Some n) other =
      aged (is_name (record { client = m.client; hostgroup = m.hostgroup; life = life }) n)
      (beside_test n (is_name (record { client = m.client; hostgroup = m.hostgroup; life = life }) n) refl other)

-- Each happening.

module _ (setup : Setup) (view : View) where
  -- one link alone
  link_spared : (link : LinkId) (x : Link) (whose : SessionName → Bool) → Spares (λ l. is_link_id l link) whose view (record view { links = put is_link_id view.links link x })
  link_spared link x whose = record {
    link = put_apart view.links link x;
    pin = λ n other. refl;
    id = λ n other. refl;
    due = λ n other. refl;
    left = λ n other. refl;
  }

  due_spared : (client : ClientNo) (hostgroup : Hostgroup) (due : Due)
      → Spares (λ l. false) (λ n. is_name n (present view client hostgroup)) view (record view { dues = put is_name view.dues (present view client hostgroup) (Some due) })
  due_spared client hostgroup due = record {
    link = λ l other. refl;
    pin = λ n other. refl;
    id = λ n other. refl;
    due = λ n other. name_apart (λ (d : Option Due). d) view.dues (present view client hostgroup) (Some due) n other;
    left = λ n other. refl;
  }

  sent_spared : (link : LinkId) (question : Question)
      → Spares (λ l. is_link_id l link) (touched_session view (Sent link question)) view (view_step setup view (Sent link question))
  sent_spared link (Statement n due) = record {
    link = put_apart view.links link (asked (Statement n due) (view.links link));
    pin = λ m other. home_leaves (λ (h : Held). h.pin) (λ h home. refl) view.held n (Some link) m;
    id = λ m other. home_leaves (λ (h : Held). h.id) (λ h home. refl) view.held n (Some link) m;
    due = λ m other. name_apart (λ (d : Option Due). d) view.dues n None m other;
    left = λ m other. refl;
  }
  sent_spared link (Prep n key text) = record {
    link = put_apart view.links link (asked (Prep n key text) (view.links link));
    pin = λ m other. home_leaves (λ (h : Held). h.pin) (λ h home. refl) view.held n (Some link) m;
    id = λ m other. home_leaves (λ (h : Held). h.id) (λ h home. refl) view.held n (Some link) m;
    due = λ m other. refl;
    left = λ m other. refl;
  }
  sent_spared link (Sync n command) = link_spared link (asked (Sync n command) (view.links link)) (touched_session view (Sent link (Sync n command)))
  sent_spared link (Own command) = link_spared link (asked (Own command) (view.links link)) (touched_session view (Sent link (Own command)))
  sent_spared link (End n) = link_spared link (asked (End n) (view.links link)) (touched_session view (Sent link (End n)))
  sent_spared link (Capture n) = link_spared link (asked (Capture n) (view.links link)) (touched_session view (Sent link (Capture n)))

  -- a reply to a question of a session
  asker_spared : (link : LinkId) (question : Question) (n : SessionName) (reply : Reply)
      → view_heard setup view link reply (Answered question)
      ≡ record (view_heard setup view link reply (Answered question)) { held = put is_name view.held n (held_heard setup.reads question reply (view.held n)) }
      → Spares (λ l. is_link_id l link) (λ m. is_name m n) view (view_heard setup view link reply (Answered question))
  asker_spared link question n reply held = record {
    link = put_apart view.links link (heard setup.reads question reply (view.links link));
    pin = λ m other. ap (λ (v : View). (v.held m).pin) held ∙ name_apart (λ (h : Held). h.pin) view.held n (held_heard setup.reads question reply (view.held n)) m other;
    id = λ m other. ap (λ (v : View). (v.held m).id) held ∙ name_apart (λ (h : Held). h.id) view.held n (held_heard setup.reads question reply (view.held n)) m other;
    due = λ m other. refl;
    left = λ m other. refl;
  }

  heard_spared : (link : LinkId) (reply : Reply) (stage : Stage) → Spares (λ l. is_link_id l link) (is_heard_by stage) view (view_heard setup view link reply stage)
  heard_spared link reply Quiet = spares_itself (λ l. is_link_id l link) (is_heard_by Quiet) view
  heard_spared link reply (Asked question) = spares_itself (λ l. is_link_id l link) (is_heard_by (Asked question)) view
  heard_spared link reply (Answered (Statement n due)) = asker_spared link (Statement n due) n reply refl
  heard_spared link reply (Answered (Prep n key text)) = asker_spared link (Prep n key text) n reply refl
  heard_spared link reply (Answered (Sync n command)) = asker_spared link (Sync n command) n reply refl
  heard_spared link reply (Answered (Own command)) = link_spared link (heard setup.reads (Own command) reply (view.links link)) (is_heard_by (Answered (Own command)))
  heard_spared link reply (Answered (End n)) = asker_spared link (End n) n reply refl
  heard_spared link reply (Answered (Capture n)) = asker_spared link (Capture n) n reply refl

  freed_spared : (link : LinkId) → Spares (λ l. is_link_id l link) (λ n. false) view (view_step setup view (Freed link))
  freed_spared link = record {
    link = put_apart view.links link (freed (view.links link));
    pin = λ n other. freed_leaves (λ (h : Held). h.pin) (λ h home. refl) (view.links link).carries view.held n;
    id = λ n other. freed_leaves (λ (h : Held). h.id) (λ h home. refl) (view.links link).carries view.held n;
    due = λ n other. refl;
    left = λ n other. refl;
  }

  gone_spared : (link : LinkId) → Spares (λ l. is_link_id l link) (touched_session view (Gone link)) view (view_step setup view (Gone link))
  gone_spared link = record {
    link = put_apart view.links link (record (view.links link) { usable = false });
    pin = λ n other. refl;
    id = λ n other. refl;
    due = λ n other. refl;
    left = λ n other. gone_left view n (session_in (view.links link).carries) other;
  }

  left_spared : (client : ClientNo) → Spares (λ l. false) (touched_session view (Left client)) view (view_step setup view (Left client))
  left_spared client = record {
    link = λ l other. refl;
    pin = λ n other. refl;
    id = λ n other. refl;
    due = λ n other. refl;
    left = λ n other. aged view n (is_client n.client client) other;
  }

  pub each_spares : (e : Happening) → Spares (touched_link e) (touched_session view e) view (view_step setup view e)
  each_spares (LoggedIn link server account) = link_spared link (new_link server account) (λ n. false)
  each_spares (BecameDue client hostgroup ordinal key command multiplex) =
      due_spared client hostgroup (due_of view (present view client hostgroup) ordinal key command multiplex)
  each_spares (Sent link question) = sent_spared link question
  each_spares (Ran link) = link_spared link (ran_by setup.reads (view.links link).stage (view.links link)) (λ n. false)
  each_spares (Heard link reply) = heard_spared link reply (view.links link).stage
  each_spares (Freed link) = freed_spared link
  each_spares (Unprepared link number) = link_spared link (closed_number number (view.links link)) (λ n. false)
  each_spares (Dropped link) = spares_itself (λ l. false) (λ n. false) view
  each_spares (Gone link) = gone_spared link
  each_spares (Left client) = left_spared client
  each_spares Broke = spares_itself (λ l. false) (λ n. false) view
  each_spares (Mirrored client job) =
      record { link = λ l other. refl; pin = λ n other. refl; id = λ n other. refl; due = λ n other. refl; left = λ n other. refl }

module _ (setup : Setup) where
  pub tell_spares : (e : Happening) (tale : Tale) → SparesIn setup (touched_link e) (touched_session (view_of setup tale) e) tale (tell e tale)
  tell_spares e tale = record { moment = refl; wire = λ l other. refl; view = each_spares setup (view_of setup tale) e }

  pub wire_spares : (link : LinkId) (wire : Wire) (whose : SessionName → Bool) (tale : Tale)
      → SparesIn setup (λ l. is_link_id l link) whose tale (with_wire link wire tale)
  wire_spares link wire whose tale = record {
    moment = refl;
    wire = put_apart tale.wires link wire;
    view = spares_itself (λ l. is_link_id l link) whose (view_of setup tale);
  }
