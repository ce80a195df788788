-- The steps and preparations of our router are wanted.
use Rattle.std.specs.Prelude.{◌≡◌, ◌+◌, ◌<◌, ℕ, suc, Bool, true, false, not, ◌&&◌, ◌||◌, bytes_eq, is_some, length, nat_eq, nat_le, List, [], ◌∷◌, ◌++◌, Option, Some, None}
use Rattle.std.specs.List.{list_any}
use Rattle.std.specs.Option.{option_map, option_map_or}
use Rattle.std.proofs.Common.{refl, sym, ap, ◌∙◌, subst, append_assoc, arith, inl, inr}
use Rattle.std.proofs.lemmas.Bool.{and_from, or_left, or_right}
use Rattle.std.proofs.lemmas.Slice.Eq.{bytes_eq-Decides}
use Rattle.mx_base.specs.declared.names.LinkId.{LinkId}
use Rattle.mx_base.specs.declared.tag.Tag.{Tag}
use Rattle.mx_wire.specs.Log.{Log}
use Rattle.mx_wire.specs.Moments.{LawfulAfter}
use Rattle.mx_wire.specs.Tells.{Fits}
use Rattle.mx_wire.specs.declared.entry.Entry.{Entry}
use Rattle.mx_wire.specs.declared.entry.Entry.TheVariants as entry
use Rattle.private_model.proofs.Maps.{client_of, hostgroup_of as group_of, name_of as named, same_number}
use Rattle.private_model.specs.Commands.{Command, FieldList, InitDb, Prepare, Query, Quit, ReadId, Reset, Run, SetId}
use Rattle.private_model.specs.Names.{Hostgroup, MessageName, SessionName}
use Rattle.private_model.specs.Lawful.{is_statement}
use Rattle.private_model.specs.Story.{Due, Own, Prep, Question, Statement, Sync, command_of, is_client, is_hostgroup, is_name, message_of}
use Rattle.private_model.specs.View.{Carried, Joined, Lent, Link, Nobody, Setup, View, present}
use Rattle.server_rule.specs.Classes.{Reads}
use Rattle.session_state.specs.Pins.{is_pinned}
use Rattle.log_story.specs.Plan.{Asks, Closes, Plan, Resets, Route, StepText}
use Rattle.log_story.specs.Servers.{is_quiet, may_begin}
use Rattle.log_story.specs.Tale.{Client, is_to_server, link_in, view_of}
use Rattle.tale_world.specs.Decided.{Agrees, plan_of}
use Rattle.tale_world.specs.Deciding.{World}
use Rattle.tale_world.specs.Policy.{Readied, next_question}
use Rattle.tale_world.specs.Tests.{begins_there as may_start, goes_on_there, has_due, is_joined, is_keyed, is_lent, is_nobody, is_own_step, is_set, is_step_of, may_begin_question, may_state}
use Rattle.tale_world.specs.Wishes.{Says, Sends, Wish, before_question}
use Rattle.router_promises.specs.Dues.{is_due}
use Rattle.router_promises.specs.Keys.{LinkKey, is_bare, is_key, key_for, key_of}
use Rattle.router_promises.specs.Now.{Now, now_at, present_now, wire_now}
use Rattle.router_promises.specs.Steps.{IsClose, is_prepare_of, is_prepared_anew, prepares, is_prep_wanted, is_wanted, live_keys, some_wants, wants_prepared, wants_there}
use Rattle.router_promises.specs.Running.{hostgroup_of}
use Rattle.router_promises.specs.Tags.{StandsIn}
use Rattle.router_promises.specs.Terms.{Terms, login_as, plan_in}
use Rattle.router_promises.specs.Wants.{prepares_first, wants}
use Rattle.shared_router.specs.Fixed.{Fixed, IsNumbered, setup_of}
use Rattle.shared_router.specs.Known.{Known, known}
use Rattle.shared_router.specs.Leads.{IsWantedThere, LeadsAs, LeadsFor, LeadsSo, ReadsNothing, SpellsIds}
use Rattle.shared_router.specs.Lends.{is_near, readied_now}
use Rattle.shared_router.specs.More.{More, now_of, terms_of}
use Rattle.shared_router.specs.Ours.{IsOurs}
use Rattle.shared_router.specs.Shared.{final_terms, world_at}
use Rattle.shared_router.specs.Waits.{Waits}
use Rattle.shared_router.specs.Wishes.{is_present, kept_due, ordinal_due, standing_on, tag_of, texts, wish_step, wish_tag}
use Rattle.shared_router.proofs.Beginning.{isnt, left_of, no_some, right_of, says_mute}
use Rattle.shared_router.proofs.Clearing.{IsOfMany, prep_clears, state_clears}
use Rattle.shared_router.proofs.Decidedly.{AreDecided, GoesTo}
use Rattle.shared_router.proofs.Lasting.{alike_at}
use Rattle.shared_router.proofs.Later.{AreAlike, due_same, key_same, waiters_same}
use Rattle.shared_router.proofs.Leading.{Asked, Captures, Ends, ForJoined, ForLent, ForWaiter, MayLead, Prepares, Source, States, Steps, carrying, source_of}
use Rattle.shared_router.proofs.Listed.{readied_listed}
use Rattle.shared_router.proofs.Numbered.{IsOld, has_taken}
use Rattle.shared_router.proofs.Parting.{agrees_then}
use Rattle.shared_router.proofs.Prompting.{IsReached, first_reached, reached_next}
use Rattle.shared_router.proofs.Readying.{readied_near, readied_waits}
use Rattle.shared_router.proofs.Room.{link_key_is}
use Rattle.shared_router.proofs.Same.{now_is, now_same}
use Rattle.shared_router.proofs.Saying.{stands_at}
use Rattle.shared_router.proofs.Spelling.{Cleanly, IsStanding, group_in}
use Rattle.shared_router.proofs.Standing.{On}
use Rattle.shared_router.proofs.Passing.{Begun, Parts, Wishes, begun_so}
use Rattle.shared_router.proofs.Stepping.{AreBegun}
use Rattle.shared_router.proofs.Tagging.{step_is}
use Rattle.shared_router.proofs.Wishing.{IsWished, Stands, kept_at, readied_at, wished}

-- What the test of a step says of it.

text_there : (reads : Reads) (nothing : ReadsNothing reads) (tx : Bool) (text : List ℕ) → is_set (reads.class text) tx ≡ true → not (bytes_eq text []) ≡ true
text_there reads nothing tx [] is = isnt (sym (nothing tx) ∙ is)
text_there reads nothing tx (x ∷ text) is = refl

any_so : {A : Type 0} (f g : A → Bool) (xs : List A) → ((x : A) → f x ≡ true → g x ≡ true) → list_any f xs ≡ true → list_any g xs ≡ true
any_so f g [] so is = is
any_so f g (x ∷ xs) so is = by_test (f x) (so x) is (any_so f g xs so) where
  by_test : (b : Bool) → (b ≡ true → g x ≡ true) → (b || list_any f xs) ≡ true → (list_any f xs ≡ true → list_any g xs ≡ true) → (g x || list_any g xs) ≡ true
  by_test true here is later = or_left (g x) _ (here refl)
  by_test false here is later = or_right (g x) _ (later is)

-- what goes somewhere is a message that was taken up
abbrev AreOld : World More → Type 0
AreOld w = (m : MessageName) (route : Option Route) → w.decided.routes m ≡ Some route → IsOld w.tale.clients m

module _ (fixed : Fixed) (ids : SpellsIds fixed) (nothing : ReadsNothing fixed.router.reads) (w last : World More) (alike : AreAlike fixed w.tale w last) (link : LinkId)
    (decided : AreDecided w.decided (view_of (setup_of fixed) w.tale)) (agrees : Agrees w.decided w.tale.moment (plan_of last.decided))
    (to_server : is_to_server w.tale link ≡ true) (old : AreOld w)
    (carried : StandsIn (hostgroup_of fixed.router (w.tale.wires link).server) (group_in (link_in (setup_of fixed) w.tale link).carries)) where
  abbrev setup : Setup
  setup = setup_of fixed

  abbrev plan : Plan
  plan = plan_of last.decided

  abbrev t : Terms
  t = terms_of fixed last

  abbrev k : Known
  k = known fixed w

  abbrev now : Now
  now = now_of fixed w

  abbrev view : View
  view = view_of setup w.tale

  abbrev there : Link
  there = view.links link

  abbrev May : Question → Type 0
  May q = may_begin_question setup view there q ≡ true

  -- the test

  own_tested : (c : Command) → May (Own c) → is_own_step setup.reads c ≡ true
  own_tested c may = right_of (is_nobody there.carries || is_lent there.carries) _ (right_of (is_quiet there.stage) _ (right_of there.usable _ may))

  own_leads : (c : Command) → May (Own c) → MayLead c
  own_leads (InitDb schema) may = own_tested (InitDb schema) may
  own_leads (Query text) may = text_there setup.reads nothing false text (own_tested (Query text) may)
  own_leads (FieldList rest) may = tt
  own_leads (SetId n) may = tt
  own_leads ReadId may = tt
  own_leads (Prepare text) may = tt
  own_leads (Run text schema settings args) may = tt
  own_leads Reset may = tt
  own_leads Quit may = tt

  sync_tested : (n : SessionName) (c : Command) → May (Sync n c) → is_step_of setup.reads c (view.held n).pin (view.held n).id ≡ true
  sync_tested n c may =
      right_of (is_pinned (view.held n).pin) _ (right_of (is_joined n there.carries) _ (right_of (is_quiet there.stage) _ (right_of there.usable _ may)))

  sync_leads : (n : SessionName) (c : Command) → May (Sync n c) → MayLead c
  sync_leads n (InitDb schema) may = sync_tested n (InitDb schema) may
  sync_leads n (Query text) may = text_there setup.reads nothing (view.held n).pin.tx text (sync_tested n (Query text) may)
  sync_leads n (FieldList rest) may = tt
  sync_leads n (SetId id) may = tt
  sync_leads n ReadId may = tt
  sync_leads n (Prepare text) may = tt
  sync_leads n (Run text schema settings args) may = tt
  sync_leads n Reset may = tt
  sync_leads n Quit may = tt

  -- what is due by one is due by the other

  due_then : (n : SessionName) → is_due k.terms w.tale n ≡ true → is_due t w.tale n ≡ true
  due_then n is = due_same fixed w.more.log now w last alike n ∙ is

  -- steps

  wants_so : (n : SessionName) (due : Due) (c : Command) → is_due k.terms w.tale n ≡ true → view.dues n ≡ Some due → wants setup there (view.held n) due c ≡ true
      → wants_there t now link n c ≡ true
  wants_so n due c is at wanted =
      and_from (is_due t w.tale n) _ (due_then n is) (ap (λ o. option_map_or (λ (d : Due). wants setup there (view.held n) d c) o false) at ∙ wanted)

  waiter_wants : (r : Readied) (c : Command) → readied_now k link ≡ Some r → wants setup there (view.held r.name) r.due c ≡ true
      → some_wants t now link c (key_of t now link) ≡ true
  waiter_wants r c readied wanted =
      ap (some_wants t now link c) (key_same fixed w.more.log now w last alike link to_server)
      ∙ by_key (key_of k.terms now link) (readied_near k link r readied)
    where
      waits : Waits k r
      waits = readied_waits k link r readied

      its : LinkKey
      its = key_for setup now r.name.client r.name.hostgroup

      by_key : (o : Option LinkKey) → option_map_or (λ other. is_key other its) o false ≡ true → some_wants t now link c o ≡ true
      by_key None near = isnt near
      by_key (Some key) near =
          let same : key ≡ its = link_key_is key its near in
          let test : MessageName → Bool = λ m. wants_there t now link (present_now setup now m.client key.hostgroup) c in
          ap (list_any test) (waiters_same fixed w.more.log now w last alike key w.tale.story)
          ∙ readied_listed k link r readied key (subst (λ (x : LinkKey). is_key its x ≡ true) (sym same) (subst (λ (x : LinkKey). is_key x its ≡ true) same near)) test
          (λ m client. ap (λ n. wants_there t now link n c)
          (ap (λ a. present_now setup now a key.hostgroup) client ∙ ap (λ (x : LinkKey). present_now setup now r.name.client x.hostgroup) same ∙ waits.present)
          ∙ wants_so r.name r.due c (readied_at k r waits).waits waits.due wanted)

  -- preparations

  prep_wanted : (n : SessionName) (due : Due) → Stands k n due → present view n.client n.hostgroup ≡ n → prepares_first there due.command due.key ≡ true
      → is_prep_wanted t now link (message_of n due) ≡ true
  prep_wanted n due stands here first =
      let goes : GoesTo w.decided (message_of n due) n.hostgroup = decided.due n due stands.at in
      ap (λ o. option_map_or (λ (route : Route). wants_prepared t now link (present_now setup now n.client route.hostgroup) due.ordinal) o false)
      (agrees.routes (message_of n due) (Some goes.route) goes.routed)
      ∙ ap (λ (h : Hostgroup). wants_prepared t now link (present_now setup now n.client h) due.ordinal) goes.there
      ∙ ap (λ m. wants_prepared t now link m due.ordinal) here
      ∙ and_from (is_due t w.tale n) _ (due_then n stands.waits)
      (ap (λ o. option_map_or (λ (d : Due). nat_eq d.ordinal due.ordinal && prepares_first there d.command d.key) o false) stands.at
      ∙ and_from (nat_eq due.ordinal due.ordinal) _ (same_number due.ordinal) first)

  -- Questions.

  abbrev Good : Question → Type 0
  Good q = May q → is_present k q ≡ true → LeadsFor t now link (Asks (command_of q)) (tag_of k q)

  step_good : (c : Command) → (MayLead c → is_wanted t now link c there.carries ≡ true) → MayLead c → IsWantedThere t now link (Asks c)
  step_good (InitDb schema) each may = each may
  step_good (Query text) each may = each may
  step_good (FieldList rest) each may = each may
  step_good (SetId n) each may = each may
  step_good ReadId each may = each may
  step_good (Prepare text) each may = each may
  step_good (Run text schema settings args) each may = each may
  step_good Reset each may = each may
  step_good Quit each may = tt

  carried_so : (c : Command) (carried : Carried) → there.carries ≡ carried → is_wanted t now link c carried ≡ true → is_wanted t now link c there.carries ≡ true
  carried_so c carried is wanted = ap (is_wanted t now link c) is ∙ wanted

  prep_good : (n : SessionName) (due : Due) → Stands k n due → prepares_first there due.command due.key ≡ true → Good (Prep n due.key (setup.keys due.key).text)
  prep_good n due stands first may here =
      subst (λ i. is_prep_wanted t now link (record { client = n.client; ordinal = i }) ≡ true) (sym (ap ordinal_due stands.at))
      (prep_wanted n due stands (sym (named n (present view n.client n.hostgroup) here)) first)

  waiter_good : (r : Readied) (q : Question) → readied_now k link ≡ Some r → there.carries ≡ Nobody → Asked setup (carrying Nobody there) (view.held r.name) r.name r.due Own q → Good q
  waiter_good r q readied carried (Steps c each) may here = step_good c (λ leads. carried_so c Nobody carried (waiter_wants r c readied (each leads))) (own_leads c may)
  waiter_good r q readied carried (Prepares first) may here = prep_good r.name r.due (readied_at k r (readied_waits k link r readied)) first may here
  waiter_good r q readied carried States may here = tt

  lent_good : (n : SessionName) (due : Due) (q : Question) → (kept_due k).dues n ≡ Some due → there.carries ≡ Lent n
      → Asked setup (carrying (Lent n) there) (view.held n) n due Own q → Good q
  lent_good n due q at carried (Steps c each) may here =
      let stands : Stands k n due = kept_at k n due at in
      step_good c (λ leads. carried_so c (Lent n) carried (wants_so n due c stands.waits stands.at (each leads))) (own_leads c may)
  lent_good n due q at carried (Prepares first) may here = prep_good n due (kept_at k n due at) first may here
  lent_good n due q at carried States may here = tt

  joined_good : (n : SessionName) (due : Due) (q : Question) → (kept_due k).dues n ≡ Some due → there.carries ≡ Joined n
      → Asked setup (carrying (Joined n) there) (view.held n) n due (Sync n) q → Good q
  joined_good n due q at carried (Steps c each) may here =
      let stands : Stands k n due = kept_at k n due at in
      step_good c (λ leads. carried_so c (Joined n) carried (wants_so n due c stands.waits stands.at (each leads))) (sync_leads n c may)
  joined_good n due q at carried (Prepares first) may here = prep_good n due (kept_at k n due at) first may here
  joined_good n due q at carried States may here = tt

  source_good : (c : Carried) (q : Question) → there.carries ≡ c → Source setup (kept_due k) there (readied_now k link) c q → Good q
  source_good c q carried (ForWaiter r x is asked) = waiter_good r q is carried asked
  source_good c q carried (ForLent n due x at asked) = lent_good n due q at carried asked
  source_good c q carried (ForJoined n due x here at asked) = joined_good n due q at carried asked
  source_good c q carried (Captures n) = λ may here. tt
  source_good c q carried (Ends n) = λ may here. tt

  question_good : (q : Question) → next_question texts fixed.ids setup (kept_due k) there (readied_now k link) ≡ Some q → Good q
  question_good q is = source_good there.carries q refl (source_of fixed.ids ids setup (kept_due k) there (readied_now k link) q there.carries is)

  -- STMT_CLOSE

  abbrev Clear : Question → Type 0
  Clear q = May q → (number : ℕ) → before_question there (standing_on k link) q ≡ Some (Closes number) → IsClose t now link number

  abbrev keys_there : List ℕ
  keys_there = live_keys setup now link

  abbrev long_there : List ℕ
  long_there = (now.uses link).long

  many_clear : (number : ℕ) → IsOfMany there.live keys_there number → IsClose t now link number
  many_clear number many = record { key = many.given.key; live = many.given.gives; needed = or_left (nat_le 1000 (length keys_there)) _ many.many }

  prep_clear : (n : SessionName) (due : Due) → prepares_first there due.command due.key ≡ true → Clear (Prep n due.key (setup.keys due.key).text)
  prep_clear n due first may number is = many_clear number (prep_clears there keys_there long_there number n due (setup.keys due.key).text first is)

  -- the link's server is of its session's hostgroup
  abbrev Hosted : SessionName → Type 0
  Hosted n = hostgroup_of fixed.router (w.tale.wires link).server ≡ Some n.hostgroup

  -- what is due prepares what stands there under its key
  module _ (n : SessionName) (due : Due) (at : view.dues n ≡ Some due) (waits : is_due k.terms w.tale n ≡ true) (may : May (Statement n due)) where
    abbrev text : List ℕ
    text = (fixed.keys due.key).text

    abbrev anew : SessionName → Bool
    anew m = is_due t w.tale m && prepares text (view.dues m)

    stated : may_state setup view n due there ≡ true
    stated = right_of (is_quiet there.stage) _ (right_of there.usable _ may)

    -- behind what is due, and that none carries it
    placed : (is_name n (present view n.client n.hostgroup)
        && (is_statement due.command
        && (is_keyed setup due.command due.key there.told there.live && (may_start setup n due there (view.held n) || goes_on_there setup n due there (view.held n))))) ≡ true
    placed = right_of (not (is_some (view.carriers (message_of n due)))) _ (right_of (has_due view n due) _ stated)

    here : n ≡ present view n.client n.hostgroup
    here = named n (present view n.client n.hostgroup) (left_of (is_name n (present view n.client n.hostgroup)) _ placed)

    keyed : is_keyed setup due.command due.key there.told there.live ≡ true
    keyed =
        left_of (is_keyed setup due.command due.key there.told there.live) _
        (right_of (is_statement due.command) _ (right_of (is_name n (present view n.client n.hostgroup)) _ placed))

    prepares_text : (other : List ℕ) → due.command ≡ Prepare other → prepares text (view.dues n) ≡ true
    prepares_text other prepares_it =
        ap (prepares text) at ∙ ap (is_prepare_of text) prepares_it
        ∙ (bytes_eq-Decides text other).1 (sym ((bytes_eq-Decides other text).0
        (left_of (bytes_eq other text) _ (subst (λ c. is_keyed setup c due.key there.told there.live ≡ true) prepares_it keyed))))

    client_anew : (other : List ℕ) → due.command ≡ Prepare other → (client : Client) → has_taken (message_of n due) client ≡ true
        → anew (present view client.number n.hostgroup) ≡ true
    client_anew other prepares_it client its =
        subst (λ c. anew (present view c n.hostgroup) ≡ true) (sym (client_of client.number n.client (left_of (is_client client.number n.client) _ its)))
        (subst (λ m. anew m ≡ true) here (and_from (is_due t w.tale n) (prepares text (view.dues n)) (due_then n waits) (prepares_text other prepares_it)))

    pub prepared_anew : (other : List ℕ) → due.command ≡ Prepare other → Hosted n → is_prepared_anew t now text (key_of t now link) ≡ true
    prepared_anew other prepares_it hosted =
        let goes = decided.due n due at in
        ap (λ (o : Option Hostgroup). is_prepared_anew t now text
        (option_map (λ h. record { hostgroup = h; account = login_as ((plan_in t).logins link); bare = is_bare t now link }) o)) hosted
        ∙ any_so (has_taken (message_of n due)) (λ (client : Client). anew (present view client.number n.hostgroup)) w.tale.clients (client_anew other prepares_it)
        (old (message_of n due) (Some goes.route) goes.routed)

  state_clear : (n : SessionName) (due : Due) → view.dues n ≡ Some due → is_due k.terms w.tale n ≡ true → Hosted n → Clear (Statement n due)
  state_clear n due at waits hosted may number is = elim (state_clears there keys_there long_there number n due is) [
    | inl many ↦ many_clear number many
    | inr again ↦ record {
      key = due.key;
      live = again.there;
      needed = or_right (nat_le 1000 (length keys_there)) _ (prepared_anew n due at waits may again.text again.prepares hosted);
    }
  ]

  own_clear : (n : SessionName) (due : Due) (c : Carried) (q : Question) → view.dues n ≡ Some due → is_due k.terms w.tale n ≡ true → Hosted n
      → Asked setup (carrying c there) (view.held n) n due Own q → Clear q
  own_clear n due c q at waits hosted (Steps command each) may number is = no_some (Closes number) is
  own_clear n due c q at waits hosted (Prepares first) may number is = prep_clear n due first may number is
  own_clear n due c q at waits hosted States may number is = state_clear n due at waits hosted may number is

  sync_clear : (n : SessionName) (due : Due) (c : Carried) (q : Question) → view.dues n ≡ Some due → is_due k.terms w.tale n ≡ true → Hosted n
      → Asked setup (carrying c there) (view.held n) n due (Sync n) q → Clear q
  sync_clear n due c q at waits hosted (Steps command each) may number is = no_some (Closes number) is
  sync_clear n due c q at waits hosted (Prepares first) may number is = prep_clear n due first may number is
  sync_clear n due c q at waits hosted States may number is = state_clear n due at waits hosted may number is

  -- a link that is readied for it is of its key
  near_hosted : (r : Readied) → is_near k link r ≡ true → Hosted r.name
  near_hosted r near = by_group (hostgroup_of fixed.router (w.tale.wires link).server) near where
    by_group : (o : Option Hostgroup)
        → option_map_or (λ other. is_key other (key_for setup now r.name.client r.name.hostgroup))
        (option_map (λ h. record { hostgroup = h; account = login_as ((plan_in k.terms).logins link); bare = is_bare k.terms now link }) o) false ≡ true
        → o ≡ Some r.name.hostgroup
    by_group None is = isnt is
    by_group (Some h) is = ap (λ x. Some x) (group_of h r.name.hostgroup (left_of (is_hostgroup h r.name.hostgroup) _ is))

  source_clear : (c : Carried) (q : Question) → StandsIn (hostgroup_of fixed.router (w.tale.wires link).server) (group_in c)
      → Source setup (kept_due k) there (readied_now k link) c q → Clear q
  source_clear c q stands (ForWaiter r x is asked) =
      let due_there : Stands k r.name r.due = readied_at k r (readied_waits k link r is) in
      own_clear r.name r.due Nobody q due_there.at due_there.waits (near_hosted r (readied_near k link r is)) asked
  source_clear c q stands (ForLent n due x at asked) = own_clear n due (Lent n) q (kept_at k n due at).at (kept_at k n due at).waits stands asked
  source_clear c q stands (ForJoined n due x here_now at asked) = sync_clear n due (Joined n) q (kept_at k n due at).at (kept_at k n due at).waits stands asked
  source_clear c q stands (Captures n) = λ may number is. no_some (Closes number) is
  source_clear c q stands (Ends n) = λ may number is. no_some (Closes number) is

  question_clear : (q : Question) → next_question texts fixed.ids setup (kept_due k) there (readied_now k link) ≡ Some q → Clear q
  question_clear q is = source_clear there.carries q carried (source_of fixed.ids ids setup (kept_due k) there (readied_now k link) q there.carries is)

  abbrev GoodWish : Wish → Type 0
  GoodWish wish = LeadsFor t now link (wish_step wish) (wish_tag k wish)

  text_good : (q : Question) (text : StepText) → May q → Clear q → before_question there (standing_on k link) q ≡ Some text → IsWantedThere t now link text
  text_good q (Asks command) may clear is = isnt (says_mute there (standing_on k link) q (Asks command) is)
  text_good q (Closes number) may clear is = clear may number is
  text_good q (Resets number) may clear is = tt

  pub wish_good : (wish : Wish) → IsWished k link wish → GoodWish wish
  wish_good wish is = subst GoodWish is.is (by_before (before_question there (standing_on k link) is.question) refl) where
    by_before : (o : Option StepText) → before_question there (standing_on k link) is.question ≡ o → GoodWish (option_map_or (λ text. Says text) o (Sends is.question))
    by_before None before = question_good is.question is.asks is.may is.present
    by_before (Some text) before = text_good is.question text is.may (question_clear is.question is.asks) before

-- Along a log.

module _ (fixed : Fixed) (numbered : IsNumbered fixed) (ids : SpellsIds fixed) (nothing : ReadsNothing fixed.router.reads) where
  module _ (before later : Log) (link : LinkId) (tag : Tag) (bytes : List ℕ) (begun : AreBegun fixed (world_at fixed before))
      (decided : AreDecided (world_at fixed before).decided (view_of (setup_of fixed) (world_at fixed before).tale)) (old : AreOld (world_at fixed before))
      (stood : On fixed.router (setup_of fixed) (plan_of (world_at fixed (before ++ entry.Wrote link tag bytes ∷ later)).decided) (world_at fixed before).tale) where
    abbrev e : Entry
    e = entry.Wrote link tag bytes

    abbrev w : World More
    w = world_at fixed before

    abbrev last : World More
    last = world_at fixed (before ++ e ∷ later)

    abbrev last_terms : Terms
    last_terms = final_terms fixed (before ++ e ∷ later)

    abbrev begins_there : Bool
    begins_there = may_begin (setup_of fixed) link (wire_now (now_at last_terms before) link) (now_at last_terms before).tale

    same_now : now_at last_terms before ≡ now_of fixed w
    same_now = now_is fixed last_terms before (now_same fixed numbered before (e ∷ later))

    module _ (fits : LawfulAfter Fits before (e ∷ later)) (our : IsOurs fixed before e) where
      abbrev step : StepText
      step = (plan_of last.decided).steps link (w.tale.wires link).begun

      carries_so : is_to_server w.tale link ≡ true → may_begin (setup_of fixed) link (w.tale.wires link) w.tale ≡ true
          → StandsIn (hostgroup_of fixed.router (w.tale.wires link).server) (group_in (link_in (setup_of fixed) w.tale link).carries)
      carries_so to_server begins =
          let clean : Cleanly fixed.router (w.tale.wires link) (link_in (setup_of fixed) w.tale link) =
          subst (λ b. IsStanding fixed.router b ((plan_of last.decided).logins link) (w.tale.wires link) (link_in (setup_of fixed) w.tale link))
          (left_of (w.tale.wires link).entered _ begins) (stood link to_server) in
          clean.carried

      by_begun : is_to_server w.tale link ≡ true → may_begin (setup_of fixed) link (w.tale.wires link) w.tale ≡ true
          → Begun (known fixed w) link tag step → LeadsFor last_terms (now_of fixed w) link step tag
      by_begun to_server begins (Parts closing untold asks own) =
          subst (λ s. LeadsFor last_terms (now_of fixed w) link s tag) (sym asks)
          (subst (λ x. LeadsFor last_terms (now_of fixed w) link (Asks Quit) x) (sym own) tt)
      by_begun to_server begins (Wishes wish at tagged asks) =
          subst (λ s. LeadsFor last_terms (now_of fixed w) link s tag) (sym asks) (subst (λ x. LeadsFor last_terms (now_of fixed w) link (wish_step wish) x) (sym tagged)
          (wish_good fixed ids nothing w last (alike_at fixed numbered before (e ∷ later) fits) link decided (agrees_then fixed before (e ∷ later)) to_server old (carries_so to_server begins)
          wish (wished (known fixed w) link wish at)))

      here_so : is_to_server w.tale link ≡ true → may_begin (setup_of fixed) link (w.tale.wires link) w.tale ≡ true → LeadsFor last_terms (now_of fixed w) link step tag
      here_so there begins =
          by_begun there begins
          (begun_so (known fixed w) link tag bytes step fits.0.some
          (step_is fixed numbered before later link tag bytes begun there begins) our there begins)

      by_begins : is_to_server (now_at last_terms before).tale link ≡ true → (b : Bool) → begins_there ≡ b → LeadsAs last_terms (now_at last_terms before) link tag b
      by_begins to_server false at = tt
      by_begins to_server true at =
          subst (λ (n : Now). LeadsFor last_terms n link ((plan_in last_terms).steps link (wire_now n link).begun) tag) (sym same_now)
          (here_so (ap (λ (n : Now). is_to_server n.tale link) (sym same_now) ∙ to_server)
          (ap (λ (n : Now). may_begin (setup_of fixed) link (wire_now n link) n.tale) (sym same_now) ∙ at))

  abbrev Stood : Log → Log → Type 0
  Stood before log = On fixed.router (setup_of fixed) (plan_of (world_at fixed log).decided) (world_at fixed before).tale

  leads_by : (before later : Log) (e : Entry) (n : ℕ) → IsReached fixed n before → Stood before (before ++ e ∷ later) → LawfulAfter Fits before (e ∷ later)
      → IsOurs fixed before e → LeadsSo (final_terms fixed (before ++ e ∷ later)) before e
  leads_by before later (entry.Wrote link tag bytes) n reached stood fits our =
      let old : AreOld (world_at fixed before) = reached.held.tabled.routes in
      λ there. by_begins before later link tag bytes reached.begun reached.held.decided old stood fits our there
      (begins_there before later link tag bytes reached.begun reached.held.decided old stood) refl
  leads_by before later _ n reached stood fits our = tt

  leads_from : (before later log : Log) (n : ℕ) → before ++ later ≡ log → n + length later < 18446744073709551616 → IsReached fixed n before
      → ((first rest : Log) → first ++ rest ≡ log → Stood first log)
      → LawfulAfter Fits before later → LawfulAfter (IsOurs fixed) before later → LawfulAfter (LeadsSo (final_terms fixed log)) before later
  leads_from before [] log n is small reached stood fits our = tt
  leads_from before (e ∷ later) log n is small reached stood fits our = (
    subst (λ l. LeadsSo (final_terms fixed l) before e) is
        (leads_by before later e n reached (subst (λ l. Stood before l) (sym is) (stood before (e ∷ later) is)) fits our.0),
    leads_from (before ++ e ∷ []) later log (suc n) (append_assoc before (e ∷ []) later ∙ is) (omega arith) (reached_next fixed n before e (omega arith) reached our.0 fits.0) stood fits.1 our.1,
  )

  pub leads_kept : (log : Log) → length log < 18446744073709551616 → LawfulAfter (IsOurs fixed) [] log → LawfulAfter Fits [] log
      → LawfulAfter (LeadsSo (final_terms fixed log)) [] log
  leads_kept log small our fits =
      leads_from [] log log 0 refl (omega arith) (first_reached fixed)
      (λ first rest is. subst (λ l. Stood first l) is (stands_at fixed numbered first rest
      (subst (λ l. length l < 18446744073709551616) (sym is) small) (subst (λ l. LawfulAfter (IsOurs fixed) [] l) (sym is) our) (subst (λ l. LawfulAfter Fits [] l) (sym is) fits)))
      fits our
