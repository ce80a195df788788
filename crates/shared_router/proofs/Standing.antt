-- What stands on links to servers is a front of its one spelling, behind each entry.
use Rattle.std.specs.Prelude.{◌≡◌, ◌<◌, ℕ, suc, Bool, true, false, ◌&&◌, ◌||◌, if◌then◌else◌, length, map, List, [], ◌∷◌, ◌++◌, Option}
use Rattle.std.specs.List.{list_any}
use Rattle.std.proofs.Common.{refl, sym, ap, ◌∙◌, subst}
use Rattle.mx_base.specs.declared.names.LinkId.{LinkId}
use Rattle.mx_base.specs.declared.tag.Tag.{Tag}
use Rattle.mx_wire.specs.declared.entry.Entry.{Entry}
use Rattle.mx_wire.specs.declared.entry.Entry.TheVariants as entry
use Rattle.private_model.proofs.Maps.{link_of}
use Rattle.private_model.specs.Names.{Hostgroup}
use Rattle.private_model.specs.Story.{Capture, Dropped, End, Happening, Own, Prep, Question, Sent, Statement, Sync, Unprepared}
use Rattle.private_model.specs.Story.{command_of, is_link_id, put}
use Rattle.private_model.specs.View.{Answered, Asked, Carried, Joined, Lent, Link, Nobody, Quiet, Setup, Stage, asked, carried_for, closed_number}
use Rattle.log_story.specs.Honest.{IsFront, number_for}
use Rattle.log_story.specs.Plan.{Plan, StepText}
use Rattle.log_story.specs.Servers.{begins, begun_on, is_quiet, may_begin, quits_for, step_for, writes}
use Rattle.log_story.specs.Tale.{Tale, Wire, client_gets, first_tale, is_to_server, new_wire, tell, view_of, with_wire}
use Rattle.log_story.specs.Telling.{told, tale_step}
use Rattle.router_promises.specs.Router.{Router}
use Rattle.router_promises.specs.Running.{hostgroup_of}
use Rattle.router_promises.specs.Tags.{StandsIn, hostgroup_asked}
use Rattle.shared_router.specs.Spelt.{spelt}
use Rattle.run_laws.proofs.Going.{IsCalm, Keeps, ifs, losing_keeps, step_keeps}
use Rattle.shared_router.proofs.Spelling.{AllOn, AllStand, At, IsClean, IsStanding, Stood, group_in, is_mute, links_in, none_written, one_on, other_put, put_there, ran_stands, says_stand, tell_calm, text_of_step}

isnt : {A : Type 0} → false ≡ true → A
isnt is = absurd (cc)

-- What begins: a QUIT or a STMT_RESET, of which no story tells, a STMT_CLOSE, or a question; and its first bytes are those of its spelling.
pub data Starts (k : LinkId) (bytes : List ℕ) (group : Option Hostgroup) (quits : Bool) (step : Option StepText) (live : ℕ → Option ℕ) : List Happening → Type 0 where
  Tells : IsFront bytes (text_of_step quits step) → (is_mute step ≡ true → quits ≡ false) → Starts k bytes group quits step live []
  Closes : (number : ℕ) → IsFront bytes (text_of_step quits step) → (is_mute step ≡ true → quits ≡ false)
      → Starts k bytes group quits step live (Unprepared k number ∷ [])
  Asks : (question : Question) → IsFront bytes (spelt (command_of question) (number_for question live)) → is_mute step ≡ false → quits ≡ false
      → StandsIn group (hostgroup_asked question) → Starts k bytes group quits step live (Sent k question ∷ [])

-- whom a link carries as a question goes there
sent_group : (group : Option Hostgroup) (question : Question) (carries : Carried) → StandsIn group (hostgroup_asked question) → StandsIn group (group_in carries)
    → StandsIn group (group_in (carried_for question carries))
sent_group group (Statement n due) Nobody stands carried = stands
sent_group group (Statement n due) (Lent m) stands carried = carried
sent_group group (Statement n due) (Joined m) stands carried = carried
sent_group group (Prep n key text) Nobody stands carried = stands
sent_group group (Prep n key text) (Lent m) stands carried = carried
sent_group group (Prep n key text) (Joined m) stands carried = carried
sent_group group (Sync n command) carries stands carried = carried
sent_group group (Own command) carries stands carried = carried
sent_group group (End n) carries stands carried = carried
sent_group group (Capture n) carries stands carried = carried

quiet_is : (stage : Stage) → is_quiet stage ≡ true → stage ≡ Quiet
quiet_is Quiet is = refl
quiet_is (Asked question) is = isnt is
quiet_is (Answered question) is = isnt is

left_of : (a b : Bool) → (a && b) ≡ true → a ≡ true
left_of true b is = refl
left_of false b is = isnt is

right_of : (a b : Bool) → (a && b) ≡ true → b ≡ true
right_of true b is = is
right_of false b is = isnt is

module _ (router : Router) (setup : Setup) (plan : Plan) where
  abbrev pub On : Tale → Type 0
  On tale = AllOn router setup plan tale

  calm : (tale : Tale) (e : Happening) → IsCalm e → On tale → On (tell e tale)
  calm tale e is all = tell_calm router setup plan tale.links tale.wires tale.story e is all

  keeps : Keeps On
  keeps = record { tells = calm; moves = λ tale client all. all; counts = λ tale all. all }

  -- A link comes.

  was_there : (l k : LinkId) (links : List LinkId) → is_link_id l k ≡ false → list_any (is_link_id l) (links ++ k ∷ []) ≡ true → list_any (is_link_id l) links ≡ true
  was_there l k [] other is = isnt (sym (ap (λ b. b || false) other) ∙ is)
  was_there l k (x ∷ links) other is = by_test (is_link_id l x) is (was_there l k links other) where
    by_test : (b : Bool) → (b || list_any (is_link_id l) (links ++ k ∷ [])) ≡ true → (list_any (is_link_id l) (links ++ k ∷ []) ≡ true → list_any (is_link_id l) links ≡ true)
        → (b || list_any (is_link_id l) links) ≡ true
    by_test true is later = refl
    by_test false is later = later is

  opened_stand : (k : LinkId) (wire : Wire) (tale : Tale) → Stood router wire (plan.logins k) (links_in router setup tale.story k) → On tale
      → AllStand router setup plan (tale.links ++ k ∷ []) (put is_link_id tale.wires k wire) tale.story
  opened_stand k wire tale now all l there = by_test (is_link_id l k) refl where
    by_test : (b : Bool) → is_link_id l k ≡ b → At router setup plan (put is_link_id tale.wires k wire) tale.story l
    by_test true here =
        subst (λ j. At router setup plan (put is_link_id tale.wires k wire) tale.story j) (sym (link_of l k here))
        (subst (λ (w : Wire). Stood router w (plan.logins k) (links_in router setup tale.story k)) (sym (put_there tale.wires k wire)) now)
    by_test false other =
        subst (λ (w : Wire). Stood router w (plan.logins l) (links_in router setup tale.story l)) (sym (other_put tale.wires k wire l other)) (all l (was_there l k tale.links other there))

  -- Bytes are written on a link to a server.

  abbrev begun_wire : LinkId → Tag → List ℕ → Tale → Wire
  begun_wire k for bytes tale =
      let wire : Wire = tale.wires k in
      let step = plan.steps k wire.begun in
      record wire { written = bytes; step = step_for for step; begun = suc wire.begun; quits = wire.quits || quits_for for step }

  abbrev more_wire : LinkId → List ℕ → Tale → Wire
  more_wire k bytes tale = record (tale.wires k) { written = (tale.wires k).written ++ bytes }

  abbrev pub WritesThere : (begins : Bool) → LinkId → Tag → List ℕ → Tale → Type 0
  WritesThere true k for bytes tale =
      Starts k bytes (hostgroup_of router (tale.wires k).server) (begun_wire k for bytes tale).quits (begun_wire k for bytes tale).step (links_in router setup tale.story k).live
      (begun_on setup plan tale.moment (view_of setup tale) k (tale.wires k) for)
  WritesThere false k for bytes tale = Stood router (more_wire k bytes tale) (plan.logins k) (links_in router setup tale.story k)

  abbrev pub WritesWell : Tale → Entry → Type 0
  WritesWell tale (entry.Wrote k for bytes) =
      (0 < length bytes) × (is_to_server tale k ≡ true → WritesThere (may_begin setup k (tale.wires k) tale) k for bytes tale)
  WritesWell tale _ = Unit {0}

  starts_stand : (k : LinkId) (bytes : List ℕ) (wire : Wire) (tale : Tale) (es : List Happening) → wire.entered ≡ true → 0 < length bytes → wire.written ≡ bytes
      → (links_in router setup tale.story k).stage ≡ Quiet → Starts k bytes (hostgroup_of router wire.server) wire.quits wire.step (links_in router setup tale.story k).live es
      → (is_to_server tale k ≡ true → StandsIn (hostgroup_of router wire.server) (group_in (links_in router setup tale.story k).carries)) → On tale
      → AllStand router setup plan tale.links (put is_link_id tale.wires k wire) (es ++ tale.story)
  starts_stand k bytes wire tale es entered some is quiet (Tells front mute) carried all =
      one_on router setup plan tale k wire tale.story (λ l other. refl)
      (λ there. subst (λ b. IsStanding router b (plan.logins k) wire (links_in router setup tale.story k)) (sym entered)
      (subst (λ (s : Stage). IsClean (hostgroup_of router wire.server) wire (links_in router setup tale.story k).carries s (links_in router setup tale.story k).live) (sym quiet) (record {
        front = subst (λ bs. IsFront bs (text_of_step wire.quits wire.step)) (sym is) front;
        mute = λ m. (refl, mute m);
        ends = λ quits. refl;
        some = λ begun. subst (λ bs. 0 < length bs) (sym is) some;
        stands = tt;
        carried = carried there;
      }))) all
  starts_stand k bytes wire tale es entered some is quiet (Closes number front mute) carried all =
      let links = links_in router setup tale.story in
      one_on router setup plan tale k wire (Unprepared k number ∷ tale.story) (λ l other. other_put links k _ l other)
      (λ there. subst (λ (x : Link). Stood router wire (plan.logins k) x) (sym (put_there links k (closed_number number (links k))))
      (subst (λ b. IsStanding router b (plan.logins k) wire (closed_number number (links k))) (sym entered)
      (subst (λ (s : Stage). IsClean (hostgroup_of router wire.server) wire (closed_number number (links k)).carries s (closed_number number (links k)).live) (sym quiet) (record {
        front = subst (λ bs. IsFront bs (text_of_step wire.quits wire.step)) (sym is) front;
        mute = λ m. (refl, mute m);
        ends = λ quits. refl;
        some = λ begun. subst (λ bs. 0 < length bs) (sym is) some;
        stands = tt;
        carried = carried there;
      })))) all
  starts_stand k bytes wire tale es entered some is quiet (Asks question front plain stays group) carried all =
      let links = links_in router setup tale.story in
      one_on router setup plan tale k wire (Sent k question ∷ tale.story) (λ l other. other_put links k _ l other)
      (λ there. subst (λ (x : Link). Stood router wire (plan.logins k) x) (sym (put_there links k (asked question (links k))))
      (subst (λ b. IsStanding router b (plan.logins k) wire (asked question (links k))) (sym entered) (record {
        front = subst (λ bs. IsFront bs (spelt (command_of question) (number_for question (links k).live))) (sym is) front;
        mute = λ m. isnt (sym plain ∙ m);
        ends = λ quits. isnt (sym stays ∙ quits);
        some = λ begun. subst (λ bs. 0 < length bs) (sym is) some;
        stands = group;
        carried = sent_group (hostgroup_of router wire.server) question (links k).carries group (carried there);
      }))) all

  writes_stand : (k : LinkId) (for : Tag) (bytes : List ℕ) (tale : Tale) → is_to_server tale k ≡ true → 0 < length bytes
      → WritesThere (may_begin setup k (tale.wires k) tale) k for bytes tale → On tale → On (writes setup plan k for bytes (tale.wires k) tale)
  writes_stand k for bytes tale there some well all = by_test (may_begin setup k (tale.wires k) tale) refl well where
    by_test : (b : Bool) → may_begin setup k (tale.wires k) tale ≡ b → WritesThere b k for bytes tale
        → On (if b then begins setup plan k for bytes (tale.wires k) tale else with_wire k (more_wire k bytes tale) tale)
    by_test true begins well =
        starts_stand k bytes (begun_wire k for bytes tale) tale (begun_on setup plan tale.moment (view_of setup tale) k (tale.wires k) for)
        (left_of (tale.wires k).entered _ begins) some refl
        (quiet_is (links_in router setup tale.story k).stage (left_of _ _ (right_of (tale.wires k).entered _ begins))) well
        (λ is. (subst (λ b. IsStanding router b (plan.logins k) (tale.wires k) (links_in router setup tale.story k)) (left_of (tale.wires k).entered _ begins) (all k is)).carried) all
    by_test false begins well = one_on router setup plan tale k (more_wire k bytes tale) tale.story (λ l other. refl) (λ is. well) all

  told_stand : (tale : Tale) (e : Entry) → WritesWell tale e → On tale → On (told setup plan tale e)
  told_stand tale (entry.Opened server address link) well all =
      opened_stand link (new_wire server) tale (record { front = none_written _; begun = refl; stays = refl }) all
  told_stand tale (entry.Got link bytes) well all = ifs On (is_to_server tale link) _ _ (says_stand router setup plan link bytes tale all) all
  told_stand tale (entry.Wrote link for bytes) well all = by_there (is_to_server tale link) refl where
    by_there : (b : Bool) → is_to_server tale link ≡ b
        → On (if b then writes setup plan link for bytes (tale.wires link) tale else record tale { clients = map (client_gets link (length bytes)) tale.clients })
    by_there true there = writes_stand link for bytes tale there well.0 (well.1 there) all
    by_there false there = all
  told_stand tale (entry.Exec link) well all =
      ifs On (tale.wires link).entered _ _
      (ifs (λ (e : Happening). On (tell e tale)) (tale.wires link).quits _ _ (calm tale (Dropped link) tt all) (ran_stands router setup plan link tale all)) all
  told_stand tale (entry.Drop link) well all = calm tale (Dropped link) tt all
  told_stand tale (entry.Ended link) well all = losing_keeps setup plan On keeps link tale all
  told_stand tale (entry.ReadFailed link) well all = losing_keeps setup plan On keeps link tale all
  told_stand tale (entry.WriteFailed link) well all = losing_keeps setup plan On keeps link tale all
  told_stand tale (entry.Closed link) well all = losing_keeps setup plan On keeps link tale all
  told_stand tale _ well all = all

  pub step_stands : (tale : Tale) (e : Entry) → WritesWell tale e → On tale → On (tale_step setup plan tale e)
  step_stands tale e well all = step_keeps setup plan On keeps tale e (told_stand tale e well all)

  pub first_stands : On first_tale
  first_stands l there = isnt there
