-- What stands on links to servers is a front of its one spelling: what a tale's steps keep of that.
use Rattle.std.specs.Prelude.{◌≡◌, ◌<◌, ℕ, ◌-◌, Bool, true, false, not, ◌||◌, if◌then◌else◌, length, take, List, [], ◌∷◌, ◌++◌, Option, Some, None}
use Rattle.std.specs.List.{list_any}
use Rattle.std.proofs.Common.{refl, sym, ap, ◌∙◌, subst, append_assoc}
use Rattle.mx_base.specs.declared.names.LinkId.{LinkId}
use Rattle.packet_frame.specs.Packets.{spelling}
use Rattle.private_model.proofs.Maps.{link_of, same_link}
use Rattle.private_model.specs.Commands.{Quit, Reply, is_prepare}
use Rattle.private_model.specs.Names.{Hostgroup}
use Rattle.private_model.specs.Story.{BecameDue, Broke, Capture, Dropped, End, Freed, Gone, Happening, Heard, Left, LoggedIn, Mirrored, Own, Prep, Question, Ran, Sent, Statement, Story, Sync, Unprepared}
use Rattle.private_model.specs.Story.{command_of, for_statement, is_link_id, put}
use Rattle.private_model.specs.View.{Answered, Asked, Carried, Joined, Lent, Link, Nobody, Quiet, Setup, Stage, View, freed, heard, new_link, ran_by, view_after, view_heard}
use Rattle.reply_track.specs.Replying.{payloads_in}
use Rattle.reply_track.specs.Runs.{Ended, Ending, Failed, Going}
use Rattle.reply_track.specs.declared.reply.ReplyKind.TheVariants as kind
use Rattle.server_side.specs.Account.{Account as Login}
use Rattle.server_side.specs.Laws.{opening-said}
use Rattle.server_side.specs.Login as login
use Rattle.server_side.specs.Login.{Goes, LogsIn, Opening, opening, said_of}
use Rattle.log_story.specs.Honest.{IsFront, number_for}
use Rattle.log_story.specs.Plan.{Asks, Closes, Plan, Resets, StepText, step_payload, text_payload}
use Rattle.log_story.specs.Servers.{entered_by, heard_by, hears, is_quiet, kind_by, logged_in_as, read_as, reply_id, reads_on, reset_by, runs_first, with_run}
use Rattle.log_story.specs.Tale.{Tale, Wire, is_reset_step, is_to_server, link_in, tell, view_of}
use Rattle.log_story.specs.Telling.{server_says, wire_with}
use Rattle.router_promises.specs.Router.{Router}
use Rattle.router_promises.specs.Running.{hostgroup_of}
use Rattle.router_promises.specs.Tags.{StandsIn, hostgroup_asked}
use Rattle.shared_router.specs.Spelt.{spelt}
use Rattle.run_laws.proofs.Going.{IsCalm}

-- a STMT_CLOSE or a STMT_RESET stands there
abbrev pub is_mute : Option StepText → Bool
is_mute None = false
is_mute (Some (Asks command)) = false
is_mute (Some (Closes number)) = true
is_mute (Some (Resets number)) = true

-- All that is to be written of what stands there.

abbrev pub text_if_quits : Bool → List ℕ
text_if_quits true = spelling 0 (text_payload Quit)
text_if_quits false = []

abbrev pub text_of_step : (quits : Bool) → Option StepText → List ℕ
text_of_step quits None = text_if_quits quits
text_of_step quits (Some (Asks command)) = text_if_quits quits
text_of_step quits (Some (Closes number)) = spelling 0 (step_payload (Closes number))
text_of_step quits (Some (Resets number)) = spelling 0 (step_payload (Resets number))

abbrev pub text_on : (quits : Bool) → Option StepText → Stage → (live : ℕ → Option ℕ) → List ℕ
text_on quits step Quiet live = text_of_step quits step
text_on quits step (Asked question) live = spelt (command_of question) (number_for question live)
text_on quits step (Answered question) live = spelt (command_of question) (number_for question live)

-- a command stands there that is asked or answered, or a STMT_CLOSE or a STMT_RESET
abbrev pub has_begun : Option StepText → Stage → Bool
has_begun step stage = is_mute step || not (is_quiet stage)

-- whose hostgroup a question is of, and whom a link carries

abbrev pub group_on : Stage → Option Hostgroup
group_on Quiet = None
group_on (Asked question) = hostgroup_asked question
group_on (Answered question) = hostgroup_asked question

abbrev pub group_in : Carried → Option Hostgroup
group_in Nobody = None
group_in (Lent n) = Some n.hostgroup
group_in (Joined n) = Some n.hostgroup

-- on a link of this hostgroup
pub record IsClean (group : Option Hostgroup) (wire : Wire) (carries : Carried) (stage : Stage) (live : ℕ → Option ℕ) : Type 0 where
  pub front : IsFront wire.written (text_on wire.quits wire.step stage live)
  pub mute : is_mute wire.step ≡ true → (is_quiet stage ≡ true) × (wire.quits ≡ false)
  pub ends : wire.quits ≡ true → is_quiet stage ≡ true
  pub some : has_begun wire.step stage ≡ true → 0 < length wire.written
  pub stands : StandsIn group (group_on stage)
  pub carried : StandsIn group (group_in carries)

abbrev pub Cleanly : Router → Wire → Link → Type 0
Cleanly router wire link = IsClean (hostgroup_of router wire.server) wire link.carries link.stage link.live

-- in a login
pub record IsEntering (login : Login) (wire : Wire) : Type 0 where
  pub front : IsFront wire.written (said_of (opening login wire.unread))
  pub begun : wire.step ≡ None
  pub stays : wire.quits ≡ false

abbrev pub IsStanding : Router → (entered : Bool) → Login → Wire → Link → Type 0
IsStanding router false login wire link = IsEntering login wire
IsStanding router true login wire link = Cleanly router wire link

abbrev pub Stood : Router → Wire → Login → Link → Type 0
Stood router wire login link = IsStanding router wire.entered login wire link

isnt : {A : Type 0} → false ≡ true → A
isnt is = absurd (cc)

mute_if : (step : Option StepText) (quiet : Bool) → quiet ≡ true → (is_mute step || not quiet) ≡ true → is_mute step ≡ true
mute_if step true is begun = by_mute (is_mute step) begun where
  by_mute : (b : Bool) → (b || false) ≡ true → b ≡ true
  by_mute true begun = refl
  by_mute false begun = begun
mute_if step false is begun = isnt is

reset_mute : (step : Option StepText) → is_reset_step step ≡ true → is_mute step ≡ true
reset_mute (Some (Resets number)) is = refl
reset_mute (Some (Closes number)) is = isnt is
reset_mute (Some (Asks command)) is = isnt is
reset_mute None is = isnt is

quiet_so : (stage : Stage) → stage ≡ Quiet → is_quiet stage ≡ true
quiet_so stage is = ap is_quiet is

-- nothing was written of it yet
pub none_written : (text : List ℕ) → IsFront [] text
none_written text = record { rest = text; is = refl }

-- Tables.

pub other_put : {A : Type 0} (f : LinkId → A) (k : LinkId) (x : A) (l : LinkId) → is_link_id l k ≡ false → put is_link_id f k x l ≡ f l
other_put f k x l is = ap (λ b. if b then x else f l) is

pub put_there : {A : Type 0} (f : LinkId → A) (k : LinkId) (x : A) → put is_link_id f k x k ≡ x
put_there f k x = ap (λ b. if b then x else f k) (same_link k)

put_like : {A : Type 0} (of : Link → A) (links : LinkId → Link) (k : LinkId) (value : Link) → of value ≡ of (links k) → (l : LinkId)
    → of (put is_link_id links k value l) ≡ of (links l)
put_like of links k value same l = by_test (is_link_id l k) refl where
  by_test : (b : Bool) → is_link_id l k ≡ b → of (if b then value else links l) ≡ of (links l)
  by_test true here = same ∙ ap (λ j. of (links j)) (sym (link_of l k here))
  by_test false other = refl

-- Happenings that leave what stands on links.

-- who was of a hostgroup is, or nobody is carried
abbrev KeepsGroup : (old new : Carried) → Type 0
KeepsGroup old new = (group : Option Hostgroup) → StandsIn group (group_in old) → StandsIn group (group_in new)

-- by a run a statement joins its session
ran_group : (group : Option Hostgroup) (question : Question) (carries : Carried) → StandsIn group (hostgroup_asked question) → StandsIn group (group_in carries)
    → StandsIn group (group_in (for_statement question (λ n due. Joined n) carries))
ran_group group (Statement n due) carries stands carried = stands
ran_group group (Prep n key text) carries stands carried = carried
ran_group group (Sync n command) carries stands carried = carried
ran_group group (Own command) carries stands carried = carried
ran_group group (End n) carries stands carried = carried
ran_group group (Capture n) carries stands carried = carried

module _ (router : Router) (setup : Setup) where
  abbrev pub links_in : Story → LinkId → Link
  links_in story = (view_after setup story).links

  calm_of : {A : Type 0} (of : Link → A) → ((l m : Link) → l.stage ≡ m.stage → l.live ≡ m.live → of l ≡ of m) → (past : Story) (e : Happening) → IsCalm e → (l : LinkId)
      → of (links_in (e ∷ past) l) ≡ of (links_in past l)
  calm_of of same past (LoggedIn link server account) calm l = absurd calm
  calm_of of same past (Sent link question) calm l = absurd calm
  calm_of of same past (Ran link) calm l = absurd calm
  calm_of of same past (Heard link reply) calm l = absurd calm
  calm_of of same past (Unprepared link number) calm l = absurd calm
  calm_of of same past (Freed link) calm l = put_like of (links_in past) link _ (same _ _ refl refl) l
  calm_of of same past (Gone link) calm l = put_like of (links_in past) link _ (same _ _ refl refl) l
  calm_of of same past (BecameDue client hostgroup ordinal key command multiplex) calm l = refl
  calm_of of same past (Dropped link) calm l = refl
  calm_of of same past (Left client) calm l = refl
  calm_of of same past Broke calm l = refl
  calm_of of same past (Mirrored client job) calm l = refl

  calm_carries : (past : Story) (e : Happening) → IsCalm e → (l : LinkId) → KeepsGroup (links_in past l).carries (links_in (e ∷ past) l).carries
  calm_carries past (LoggedIn link server account) calm l = absurd calm
  calm_carries past (Sent link question) calm l = absurd calm
  calm_carries past (Ran link) calm l = absurd calm
  calm_carries past (Heard link reply) calm l = absurd calm
  calm_carries past (Unprepared link number) calm l = absurd calm
  calm_carries past (Freed link) calm l = by_test (is_link_id l link) where
    by_test : (b : Bool) → KeepsGroup (links_in past l).carries (if b then freed (links_in past link) else links_in past l).carries
    by_test true = λ group was. tt
    by_test false = λ group was. was
  calm_carries past (Gone link) calm l = λ group was.
      subst (λ c. StandsIn group (group_in c)) (sym (put_like (λ (x : Link). x.carries) (links_in past) link (record (links_in past link) { usable = false }) refl l)) was
  calm_carries past (BecameDue client hostgroup ordinal key command multiplex) calm l = λ group was. was
  calm_carries past (Dropped link) calm l = λ group was. was
  calm_carries past (Left client) calm l = λ group was. was
  calm_carries past Broke calm l = λ group was. was
  calm_carries past (Mirrored client job) calm l = λ group was. was

  stood_like : (entered : Bool) (login : Login) (wire : Wire) (old new : Link) → new.stage ≡ old.stage → new.live ≡ old.live → KeepsGroup old.carries new.carries
      → IsStanding router entered login wire old → IsStanding router entered login wire new
  stood_like false login wire old new stage live keeps stood = stood
  stood_like true login wire old new stage live keeps stood =
      subst (λ (s : Stage). IsClean (hostgroup_of router wire.server) wire new.carries s new.live) (sym stage)
      (subst (λ (f : ℕ → Option ℕ). IsClean (hostgroup_of router wire.server) wire new.carries old.stage f) (sym live)
      (record { front = stood.front; mute = stood.mute; ends = stood.ends; some = stood.some; stands = stood.stands; carried = keeps (hostgroup_of router wire.server) stood.carried }))

  -- what happens on one link leaves the others

  heard_apart : (view : View) (k : LinkId) (reply : Reply) (stage : Stage) (l : LinkId) → is_link_id l k ≡ false → (view_heard setup view k reply stage).links l ≡ view.links l
  heard_apart view k reply Quiet l other = refl
  heard_apart view k reply (Asked question) l other = refl
  heard_apart view k reply (Answered question) l other = other_put view.links k _ l other

  heard_carries : (view : View) (k : LinkId) (reply : Reply) (stage : Stage) → ((view_heard setup view k reply stage).links k).carries ≡ (view.links k).carries
  heard_carries view k reply Quiet = refl
  heard_carries view k reply (Asked question) = refl
  heard_carries view k reply (Answered question) = ap (λ (x : Link). x.carries) (put_there view.links k (heard setup.reads question reply (view.links k)))

  heard_quiet : (view : View) (k : LinkId) (reply : Reply) (stage : Stage) (question : Question) → stage ≡ Answered question
      → ((view_heard setup view k reply stage).links k).stage ≡ Quiet
  heard_quiet view k reply Quiet question is = absurd (cc)
  heard_quiet view k reply (Asked other) question is = absurd (cc)
  heard_quiet view k reply (Answered other) question is = ap (λ (x : Link). x.stage) (put_there view.links k (heard setup.reads other reply (view.links k)))

  module _ (plan : Plan) where
    abbrev pub At : (LinkId → Wire) → Story → LinkId → Type 0
    At wires story l = Stood router (wires l) (plan.logins l) (links_in story l)

    abbrev pub AllStand : List LinkId → (LinkId → Wire) → Story → Type 0
    AllStand links wires story = (l : LinkId) → list_any (is_link_id l) links ≡ true → At wires story l

    abbrev pub AllOn : Tale → Type 0
    AllOn tale = AllStand tale.links tale.wires tale.story

    pub tell_calm : (links : List LinkId) (wires : LinkId → Wire) (past : Story) (e : Happening) → IsCalm e → AllStand links wires past → AllStand links wires (e ∷ past)
    tell_calm links wires past e calm all l there =
        stood_like (wires l).entered (plan.logins l) (wires l) (links_in past l) (links_in (e ∷ past) l)
        (calm_of (λ (x : Link). x.stage) (λ a b one two. one) past e calm l) (calm_of (λ (x : Link). x.live) (λ a b one two. two) past e calm l)
        (calm_carries past e calm l) (all l there)

    pub one_changes : (links : List LinkId) (wires new : LinkId → Wire) (past story : Story) (k : LinkId)
        → ((l : LinkId) → is_link_id l k ≡ false → new l ≡ wires l) → ((l : LinkId) → is_link_id l k ≡ false → links_in story l ≡ links_in past l)
        → (list_any (is_link_id k) links ≡ true → At new story k) → AllStand links wires past → AllStand links new story
    one_changes links wires new past story k same_wires same_links now all l there = by_test (is_link_id l k) refl where
      by_test : (b : Bool) → is_link_id l k ≡ b → At new story l
      by_test true here = subst (λ j. list_any (is_link_id j) links ≡ true → At new story j) (sym (link_of l k here)) now there
      by_test false other =
          subst (λ (w : Wire). Stood router w (plan.logins l) (links_in story l)) (sym (same_wires l other))
          (subst (λ (x : Link). Stood router (wires l) (plan.logins l) x) (sym (same_links l other)) (all l there))

    -- another wire on one link, and what is told of it
    pub one_on : (tale : Tale) (k : LinkId) (wire : Wire) (story : Story) → ((l : LinkId) → is_link_id l k ≡ false → links_in story l ≡ links_in tale.story l)
        → (is_to_server tale k ≡ true → Stood router wire (plan.logins k) (links_in story k)) → AllOn tale → AllStand tale.links (put is_link_id tale.wires k wire) story
    one_on tale k wire story apart now all =
        one_changes tale.links tale.wires (put is_link_id tale.wires k wire) tale.story story k (λ l other. other_put tale.wires k wire l other) apart
        (λ there. subst (λ (w : Wire). Stood router w (plan.logins k) (links_in story k)) (sym (put_there tale.wires k wire)) (now there)) all

    -- A run.

    ran_stood : (stage : Stage) (link : Link) (entered : Bool) (login : Login) (wire : Wire) → link.stage ≡ stage → IsStanding router entered login wire link
        → IsStanding router entered login wire (ran_by setup.reads stage link)
    ran_stood Quiet link entered login wire is stood = stood
    ran_stood (Answered question) link entered login wire is stood = stood
    ran_stood (Asked question) link false login wire is stood = stood
    ran_stood (Asked question) link true login wire is stood =
        let group : Option Hostgroup = hostgroup_of router wire.server in
        let now : IsClean group wire link.carries (Asked question) link.live = subst (λ (s : Stage). IsClean group wire link.carries s link.live) is stood in
        record { front = now.front; mute = now.mute; ends = now.ends; some = now.some; stands = now.stands; carried = ran_group group question link.carries now.stands now.carried }

    pub ran_stands : (k : LinkId) (tale : Tale) → AllOn tale → AllOn (tell (Ran k) tale)
    ran_stands k tale all =
        let links = links_in tale.story in
        one_changes tale.links tale.wires tale.wires tale.story (Ran k ∷ tale.story) k (λ l other. refl) (λ l other. other_put links k _ l other)
        (λ there. subst (λ (x : Link). Stood router (tale.wires k) (plan.logins k) x) (sym (put_there links k (ran_by setup.reads (links k).stage (links k))))
        (ran_stood (links k).stage (links k) (tale.wires k).entered (plan.logins k) (tale.wires k) refl (all k there))) all

    runs_stand : (stage : Stage) (k : LinkId) (tale : Tale) → AllOn tale → AllOn (runs_first stage k tale)
    runs_stand (Asked question) k tale all = ran_stands k tale all
    runs_stand Quiet k tale all = all
    runs_stand (Answered question) k tale all = all

    runs_wires : (stage : Stage) (k : LinkId) (tale : Tale) → (runs_first stage k tale).wires ≡ tale.wires
    runs_wires (Asked question) k tale = refl
    runs_wires Quiet k tale = refl
    runs_wires (Answered question) k tale = refl

    -- Bytes of a server: of one that is logged in, what stands there stays, or is answered.

    clean_read : (wire : Wire) (unread : List ℕ) (link : Link) → Cleanly router wire link → Cleanly router (record wire { unread = unread }) link
    clean_read wire unread link clean = record { front = clean.front; mute = clean.mute; ends = clean.ends; some = clean.some; stands = clean.stands; carried = clean.carried }

    heard_stand : (k : LinkId) (question : Question) (wire : Wire) (ending : Ending) (tale : Tale) → wire.entered ≡ true
        → (links_in tale.story k).stage ≡ Answered question → (is_to_server tale k ≡ true → Cleanly router wire (links_in tale.story k))
        → AllOn tale → AllOn (heard_by k question wire ending tale)
    heard_stand k question wire (Ended end rest) tale entered is clean all =
        let reply : Reply = record { to_prepare = is_prepare (command_of question); payloads = payloads_in (reply_id wire) (take (length wire.unread - length rest) wire.unread) } in
        let story : Story = Heard k reply ∷ tale.story in
        let after : Wire = record wire { unread = rest; written = [] } in
        one_on tale k after story (λ l other. heard_apart (view_of setup tale) k reply (links_in tale.story k).stage l other)
        (λ there. subst (λ b. IsStanding router b (plan.logins k) after (links_in story k)) (sym entered) (record {
          front = none_written _;
          mute = λ mute. (quiet_so (links_in story k).stage (heard_quiet (view_of setup tale) k reply (links_in tale.story k).stage question is), ((clean there).mute mute).1);
          ends = λ quits. quiet_so (links_in story k).stage (heard_quiet (view_of setup tale) k reply (links_in tale.story k).stage question is);
          some = λ begun. isnt (sym (ap is_quiet is) ∙ ((clean there).mute (mute_if wire.step (is_quiet (links_in story k).stage)
              (quiet_so (links_in story k).stage (heard_quiet (view_of setup tale) k reply (links_in tale.story k).stage question is)) begun)).0);
          stands = subst (λ (s : Stage). StandsIn (hostgroup_of router wire.server) (group_on s)) (sym (heard_quiet (view_of setup tale) k reply (links_in tale.story k).stage question is)) tt;
          carried = subst (λ c. StandsIn (hostgroup_of router wire.server) (group_in c)) (sym (heard_carries (view_of setup tale) k reply (links_in tale.story k).stage)) (clean there).carried;
        })) all
    heard_stand k question wire (Going state) tale entered is clean all =
        one_on tale k wire tale.story (λ l other. refl)
        (λ there. subst (λ b. IsStanding router b (plan.logins k) wire (links_in tale.story k)) (sym entered) (clean there)) all
    heard_stand k question wire (Failed rest) tale entered is clean all =
        one_on tale k wire tale.story (λ l other. refl)
        (λ there. subst (λ b. IsStanding router b (plan.logins k) wire (links_in tale.story k)) (sym entered) (clean there)) all

    hears_stand : (k : LinkId) (wire : Wire) (stage : Stage) (tale : Tale) → (links_in tale.story k).stage ≡ stage → wire.entered ≡ true
        → (is_to_server tale k ≡ true → Cleanly router wire (links_in tale.story k)) → AllOn tale → AllOn (hears k wire stage tale)
    hears_stand k wire (Answered question) tale is entered clean all =
        heard_stand k question wire (read_as (kind_by (command_of question)) wire) tale entered is clean all
    hears_stand k wire Quiet tale is entered clean all =
        one_on tale k wire tale.story (λ l other. refl)
        (λ there. subst (λ b. IsStanding router b (plan.logins k) wire (links_in tale.story k)) (sym entered) (clean there)) all
    hears_stand k wire (Asked question) tale is entered clean all =
        one_on tale k wire tale.story (λ l other. refl)
        (λ there. subst (λ b. IsStanding router b (plan.logins k) wire (links_in tale.story k)) (sym entered) (clean there)) all

    reads_stand : (k : LinkId) (bytes : List ℕ) (tale : Tale) → (tale.wires k).entered ≡ true → AllOn tale → AllOn (reads_on setup k (wire_with tale k bytes) tale)
    reads_stand k bytes tale entered all =
        let ran : Tale = with_run setup k tale in
        let on : AllOn ran = runs_stand (link_in setup tale k).stage k tale all in
        let same : ran.wires k ≡ tale.wires k = ap (λ (f : LinkId → Wire). f k) (runs_wires (link_in setup tale k).stage k tale) in
        hears_stand k (wire_with tale k bytes) (link_in setup ran k).stage ran refl entered
        (λ there. clean_read (tale.wires k) ((tale.wires k).unread ++ bytes) (links_in ran.story k)
        (subst (λ b. IsStanding router b (plan.logins k) (tale.wires k) (links_in ran.story k)) entered
        (subst (λ (w : Wire). Stood router w (plan.logins k) (links_in ran.story k)) same (on k there)))) on

    -- the answer to a STMT_RESET
    reset_stands : (k : LinkId) (wire : Wire) (ending : Ending) (tale : Tale) → wire.entered ≡ true → is_reset_step wire.step ≡ true
        → (is_to_server tale k ≡ true → Cleanly router wire (links_in tale.story k)) → AllOn tale → AllOn (reset_by k wire ending tale)
    reset_stands k wire (Ended end rest) tale entered resets clean all =
        one_on tale k (record wire { unread = rest; written = []; step = None }) tale.story (λ l other. refl)
        (λ there. subst (λ b. IsStanding router b (plan.logins k) (record wire { unread = rest; written = []; step = None }) (links_in tale.story k)) (sym entered) (record {
          front = none_written _;
          mute = λ mute. isnt mute;
          ends = λ quits. (clean there).ends quits;
          some = λ begun. isnt (sym (ap not ((clean there).mute (reset_mute wire.step resets)).0) ∙ begun);
          stands = (clean there).stands;
          carried = (clean there).carried;
        })) all
    reset_stands k wire (Going state) tale entered resets clean all =
        one_on tale k wire tale.story (λ l other. refl)
        (λ there. subst (λ b. IsStanding router b (plan.logins k) wire (links_in tale.story k)) (sym entered) (clean there)) all
    reset_stands k wire (Failed rest) tale entered resets clean all =
        one_on tale k wire tale.story (λ l other. refl)
        (λ there. subst (λ b. IsStanding router b (plan.logins k) wire (links_in tale.story k)) (sym entered) (clean there)) all

    -- in a login: what is to be said grows
    login_grows : (login : Login) (wire : Wire) (bytes : List ℕ) → IsEntering login wire → IsEntering login (record wire { unread = wire.unread ++ bytes })
    login_grows login wire bytes is =
        let grown = opening-said login wire.unread bytes in
        record {
          front = record { rest = is.front.rest ++ grown.0; is = sym (append_assoc wire.written is.front.rest grown.0) ∙ ap (λ (xs : List ℕ). xs ++ grown.0) is.front.is ∙ grown.1 };
          begun = is.begun;
          stays = is.stays;
        }

    enters_stand : (k : LinkId) (wire : Wire) (at : Opening) (tale : Tale) → wire.entered ≡ false → (is_to_server tale k ≡ true → IsEntering (plan.logins k) wire)
        → AllOn tale → AllOn (entered_by plan k wire at tale)
    enters_stand k wire (LogsIn said rest) tale entered is all =
        let past = tale.story in
        let story : Story = LoggedIn k wire.server (logged_in_as (plan.logins k)) ∷ past in
        let after : Wire = record wire { entered = true; unread = rest; written = [] } in
        one_on tale k after story (λ l other. other_put (links_in past) k _ l other)
        (λ there. subst (λ (x : Link). Stood router after (plan.logins k) x) (sym (put_there (links_in past) k (new_link wire.server (logged_in_as (plan.logins k))))) (record {
          front = none_written _;
          mute = λ mute. (refl, (is there).stays);
          ends = λ quits. refl;
          some = λ begun. isnt (sym (ap (λ step. is_mute step || false) (is there).begun) ∙ begun);
          stands = tt;
          carried = tt;
        })) all
    enters_stand k wire (Goes said) tale entered is all =
        one_on tale k wire tale.story (λ l other. refl)
        (λ there. subst (λ b. IsStanding router b (plan.logins k) wire (links_in tale.story k)) (sym entered) (is there)) all
    enters_stand k wire (login.Fails said fault) tale entered is all =
        one_on tale k wire tale.story (λ l other. refl)
        (λ there. subst (λ b. IsStanding router b (plan.logins k) wire (links_in tale.story k)) (sym entered) (is there)) all

    pub says_stand : (k : LinkId) (bytes : List ℕ) (tale : Tale) → AllOn tale → AllOn (server_says setup plan k bytes tale)
    says_stand k bytes tale all = by_entered (tale.wires k).entered refl where
      wire : Wire
      wire = wire_with tale k bytes

      read : (tale.wires k).entered ≡ true → is_to_server tale k ≡ true → Cleanly router wire (links_in tale.story k)
      read entered there = clean_read (tale.wires k) ((tale.wires k).unread ++ bytes) (links_in tale.story k)
          (subst (λ b. IsStanding router b (plan.logins k) (tale.wires k) (links_in tale.story k)) entered (all k there))

      by_reset : (b : Bool) → is_reset_step (tale.wires k).step ≡ b → (tale.wires k).entered ≡ true
          → AllOn (if b then reset_by k wire (read_as kind.Command wire) tale else reads_on setup k wire tale)
      by_reset true resets entered = reset_stands k wire (read_as kind.Command wire) tale entered resets (read entered) all
      by_reset false other entered = reads_stand k bytes tale entered all

      by_entered : (b : Bool) → (tale.wires k).entered ≡ b
          → AllOn (if not b then entered_by plan k wire (opening (plan.logins k) wire.unread) tale
          else if is_reset_step (tale.wires k).step then reset_by k wire (read_as kind.Command wire) tale else reads_on setup k wire tale)
      by_entered true entered = by_reset (is_reset_step (tale.wires k).step) refl entered
      by_entered false entered =
          enters_stand k wire (opening (plan.logins k) wire.unread) tale entered
          (λ there. login_grows (plan.logins k) (tale.wires k) bytes (subst (λ b. IsStanding router b (plan.logins k) (tale.wires k) (links_in tale.story k)) entered (all k there))) all
