-- What is wished on a link begins there as it is spelt, in its session's hostgroup.
use Rattle.std.specs.Prelude.{◌≡◌, true, false, List, ℕ, Option, Some, None}
use Rattle.std.specs.Option.{option_map, option_map_or}
use Rattle.std.proofs.Common.{refl, ap, subst}
use Rattle.mx_base.specs.declared.names.LinkId.{LinkId}
use Rattle.mx_base.specs.declared.tag.Tag.TheVariants as tags
use Rattle.private_model.specs.Commands.{Command, FieldList, InitDb, Prepare, Query, Quit, ReadId, Reset, Run, SetId}
use Rattle.private_model.specs.Names.{Hostgroup, SessionName}
use Rattle.private_model.specs.Story.{Capture, Due, End, Own, Prep, Question, Statement, Sync, command_of}
use Rattle.private_model.specs.View.{Carried, Link, Setup, is_quit}
use Rattle.log_story.specs.Honest.{IsFront}
use Rattle.log_story.specs.Plan.{Asks, Plan, StepText}
use Rattle.log_story.specs.Tale.{view_of}
use Rattle.tale_world.specs.Decided.{Agrees}
use Rattle.tale_world.specs.Deciding.{World}
use Rattle.tale_world.specs.Policy.{Readied}
use Rattle.tale_world.specs.Wishes.{Says, Sends, Wish, before_question}
use Rattle.router_promises.specs.Keys.{LinkKey, is_bare, is_key, key_for}
use Rattle.router_promises.specs.Running.{hostgroup_of}
use Rattle.router_promises.specs.Tags.{StandsIn, hostgroup_asked}
use Rattle.shared_router.specs.Fixed.{Fixed, setup_of}
use Rattle.router_promises.specs.Terms.{login_as, plan_in}
use Rattle.shared_router.specs.Known.{Known, known, link_by, setup_by}
use Rattle.shared_router.specs.Lends.{readied_now}
use Rattle.shared_router.specs.More.{More}
use Rattle.shared_router.specs.Spelt.{question_spelt}
use Rattle.shared_router.specs.Wishes.{kept_due, standing_on, tag_of, texts, wish_spelt, wish_step, wish_tag}
use Rattle.shared_router.proofs.Beginning.{Captures, Ends, ForJoined, ForLent, ForWaiter, IsForm, Preparing, Stating, Stepping, Wished, carried_wished, isnt, says_mute}
use Rattle.shared_router.proofs.Decidedly.{AreDecided}
use Rattle.shared_router.proofs.Readying.{readied_near}
use Rattle.shared_router.proofs.Room.{link_key_is}
use Rattle.shared_router.proofs.Speaking.{Right, asked_starts, tells, text_starts, told_of}
use Rattle.shared_router.proofs.Spelling.{group_in}
use Rattle.shared_router.proofs.Starting.{wish_told}
use Rattle.shared_router.proofs.Wished.{IsPlainStep, IsRight, question_right}
use Rattle.shared_router.proofs.Wishing.{IsWished}

plain_stays : (command : Command) → IsPlainStep command → is_quit command ≡ false
plain_stays (Query text) plain = refl
plain_stays (InitDb schema) plain = refl
plain_stays (FieldList rest) plain = refl
plain_stays (SetId n) plain = refl
plain_stays ReadId plain = refl
plain_stays (Prepare text) plain = refl
plain_stays (Run text schema settings args) plain = refl
plain_stays Reset plain = refl
plain_stays Quit plain = absurd plain

-- In the hostgroup of the link.

module _ (k : Known) (link : LinkId) (carried : StandsIn (hostgroup_of k.terms.router (k.now.tale.wires link).server) (group_in (link_by k link).carries)) where
  abbrev group : Option Hostgroup
  group = hostgroup_of k.terms.router (k.now.tale.wires link).server

  abbrev InGroup : Question → Type 0
  InGroup question = StandsIn group (hostgroup_asked question)

  own_group : (n : SessionName) (due : Due) (question : Question) → group ≡ Some n.hostgroup → IsForm (setup_by k) n due Own question → InGroup question
  own_group n due question is (Stepping command) = tt
  own_group n due question is Preparing = is
  own_group n due question is Stating = is

  sync_group : (n : SessionName) (due : Due) (question : Question) → group ≡ Some n.hostgroup → IsForm (setup_by k) n due (Sync n) question → InGroup question
  sync_group n due question is (Stepping command) = is
  sync_group n due question is Preparing = is
  sync_group n due question is Stating = is

  -- a readied link is of the hostgroup
  near_group : (r : Readied) → readied_now k link ≡ Some r → group ≡ Some r.name.hostgroup
  near_group r is = by_group group (readied_near k link r is) where
    its : LinkKey
    its = key_for (setup_by k) k.now r.name.client r.name.hostgroup

    makes : Hostgroup → LinkKey
    makes hostgroup = record { hostgroup = hostgroup; account = login_as ((plan_in k.terms).logins link); bare = is_bare k.terms k.now link }

    by_group : (o : Option Hostgroup) → option_map_or (λ other. is_key other its) (option_map makes o) false ≡ true → o ≡ Some r.name.hostgroup
    by_group None near = isnt near
    by_group (Some h) near = ap (λ (key : LinkKey). Some key.hostgroup) (link_key_is (makes h) its near)

  pub wished_group : (c : Carried) (question : Question) → (link_by k link).carries ≡ c → Wished (setup_by k) (kept_due k) (readied_now k link) c question → InGroup question
  wished_group c question is wished = by_form c question wished (subst (λ x. StandsIn group (group_in x)) is carried) where
    by_form : (c : Carried) (question : Question) → Wished (setup_by k) (kept_due k) (readied_now k link) c question → StandsIn group (group_in c) → InGroup question
    by_form c question (ForWaiter r q is form) of_link = own_group r.name r.due q (near_group r is) form
    by_form c question (ForLent n due q at form) of_link = own_group n due q of_link form
    by_form c question (ForJoined n due q here at form) of_link = sync_group n due q of_link form
    by_form c question (Captures n here) of_link = of_link
    by_form c question (Ends n left) of_link = of_link

-- As it is spelt.

module _ (fixed : Fixed) (w : World More) (plan : Plan) (link : LinkId) (bytes : List ℕ)
    (decided : AreDecided w.decided (view_of (setup_of fixed) w.tale)) (agrees : Agrees w.decided w.tale.moment plan)
    (carried : StandsIn (hostgroup_of fixed.router (w.tale.wires link).server) (group_in ((view_of (setup_of fixed) w.tale).links link).carries)) where
  abbrev setup : Setup
  setup = setup_of fixed

  abbrev k : Known
  k = known fixed w

  abbrev there : Link
  there = (view_of setup w.tale).links link

  question_well : (question : Question) → (w.tale.wires link).quits ≡ false → IsRight texts fixed.ids setup (kept_due k) there.carries question
      → StandsIn (hostgroup_of fixed.router (w.tale.wires link).server) (hostgroup_asked question) → IsFront bytes (question_spelt question there)
      → tells fixed w plan link bytes (tag_of k question) (Asks (command_of question)) ≡ told_of link (Sends question)
      → Right fixed w plan link bytes (tag_of k question) (Asks (command_of question))
  question_well (Own command) stays plain group front told =
      asked_starts fixed w plan link bytes tags.Own (Asks command) (Own command) stays (plain_stays command plain) refl front group told
  question_well (Sync n command) stays plain group front told =
      asked_starts fixed w plan link bytes (tag_of k (Sync n command)) (Asks command) (Sync n command) stays refl refl front group told
  question_well (Statement n due) stays plain group front told =
      asked_starts fixed w plan link bytes (tag_of k (Statement n due)) (Asks due.command) (Statement n due) stays refl refl front group told
  question_well (Prep n key text) stays plain group front told =
      asked_starts fixed w plan link bytes (tag_of k (Prep n key text)) (Asks (command_of (Prep n key text))) (Prep n key text) stays refl refl front group told
  question_well (End n) stays plain group front told =
      asked_starts fixed w plan link bytes (tag_of k (End n)) (Asks (command_of (End n))) (End n) stays refl refl front group told
  question_well (Capture n) stays plain group front told =
      asked_starts fixed w plan link bytes (tag_of k (Capture n)) (Asks (command_of (Capture n))) (Capture n) stays refl refl front group told

  abbrev Well : Wish → Type 0
  Well wish =
      IsFront bytes (wish_spelt k link wish) → tells fixed w plan link bytes (wish_tag k wish) (wish_step wish) ≡ told_of link wish
      → Right fixed w plan link bytes (wish_tag k wish) (wish_step wish)

  pub wish_well : (wish : Wish) → IsWished k link wish → IsFront bytes (wish_spelt k link wish) → Right fixed w plan link bytes (wish_tag k wish) (wish_step wish)
  wish_well wish is front =
      subst Well is.is (asked (before_question there (standing_on k link) is.question) refl) front (wish_told fixed w plan link bytes decided agrees wish is)
    where
      asked : (o : Option StepText) → before_question there (standing_on k link) is.question ≡ o → Well (option_map_or (λ text. Says text) o (Sends is.question))
      asked None at =
          question_well is.question is.stays (question_right texts fixed.ids setup (kept_due k) there (readied_now k link) is.question is.asks)
          (wished_group k link carried there.carries is.question refl (carried_wished fixed.ids setup (kept_due k) (readied_now k link) is.question there there.carries is.asks))
      asked (Some text) at = text_starts fixed w plan link bytes text is.stays (says_mute there (standing_on k link) is.question text at)
