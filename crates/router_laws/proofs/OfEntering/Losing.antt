-- A client's link is lost.
use Rattle.std.specs.Prelude.{◌≡◌, ◌&&◌, ℕ, suc, Bool, true, false, All, is_some, List, [], Some, None}
use Rattle.std.proofs.Common.{refl, sym, ap, ◌∙◌, subst, inl, inr}
use Rattle.std.proofs.lemmas.Bool.{false≢true}
use Rattle.std.proofs.lemmas.List.Elements.{All-nil}
use Rattle.mx_base.specs.declared.names.LinkId.{LinkId}
use Rattle.mx_wire.specs.Log.{Log}
use Rattle.mx_wire.specs.Tells.{MayFollow}
use Rattle.mx_wire.specs.declared.entry.Entry.{Entry}
use Rattle.core_service.specs.Serves.{rules_in}
use Rattle.core_service.specs.declared.service.Service.{Service}
use Rattle.client_session.specs.Setups.{Setup as Serving}
use Rattle.client_seat.specs.Seats.{account_in, is_ended}
use Rattle.client_seat.specs.declared.phase.Phase.{Phase}
use Rattle.client_seat.specs.declared.phase.Phase.TheVariants as phase
use Rattle.private_model.specs.Names.{ClientNo, LinkId}
use Rattle.private_model.specs.Story.{is_client, is_link_id}
use Rattle.private_model.specs.View.{Setup}
use Rattle.link_laws.specs.Stands.{Codes}
use Rattle.log_story.specs.Plan.{Plan}
use Rattle.log_story.specs.Headline.{tale_of}
use Rattle.log_story.specs.Tale as tales
use Rattle.log_story.specs.Tale.{Tale}
use Rattle.tale_world.specs.Decided.{Decided}
use Rattle.core_tables.specs.Tables.{Tabled}
use Rattle.core_stands.specs.Grounds.{Ground}
use Rattle.core_stands.specs.Stands.{IsKnown, Stands}
use Rattle.router_laws.specs.decisions.Counting.{BeginsSo}
use Rattle.router_laws.specs.decisions.Deeds.{Deeds}
use Rattle.router_laws.proofs.OfDecisions.Judging.{judges_of_none}
use Rattle.router_laws.proofs.OfDecisions.Speaking.{end_ours}
use Rattle.router_laws.proofs.OfWaits.Then.{loss_waits}
use Rattle.core_promises.specs.Ruled.{AreRuled, ruling_of}
use Rattle.router_laws.specs.decisions.Speaks.{IsOurs, IsPartingOurs}
use Rattle.router_laws.specs.decisions.Goings.{end_of}
use Rattle.core_promises.specs.Administers.{Administered}
use Rattle.router_laws.specs.decisions.Routers.{IsRouter}
use Rattle.core_laws.specs.entry.Cores.{with_entry}
use Rattle.core_laws.specs.entry.Safe.{IsSafe}
use Rattle.core_laws.specs.entry.Tells.{ground}
use Rattle.core_laws.specs.clients.Follows.{Parting}
use Rattle.core_laws.specs.clients.Turns.{Choice, Halt, Rests as Resting}
use Rattle.router_laws.proofs.OfClients.Leaving.{loss_of}
use Rattle.router_laws.proofs.OfClients.Linking.{client_there, is_client_row, known, link_is}
use Rattle.router_laws.proofs.OfClients.Saying.{arrived_there, goes_there}
use Rattle.router_laws.specs.clients.Counted.{GoesTaking}
use Rattle.router_laws.specs.clients.Finds.{GoesFinding}
use Rattle.router_laws.specs.clients.Leaves.{IsLossOf, LeavesAgain, LeavesAtOnce, LeavesGoing}
use Rattle.router_laws.specs.clients.Plans.{FitsThen, IsDecided, PlansEnd, PlansTurns, nobody, over_by}
use Rattle.router_laws.proofs.OfDecisions.Kept.{anew_kept}
use Rattle.router_laws.proofs.OfDecisions.KeptOn.{before_kept}
use Rattle.router_laws.specs.decisions.Held.{AreHeldSince}
use Rattle.router_laws.proofs.OfEntering.Deciding as deciding
use Rattle.router_laws.proofs.OfDecisions.Stating.{IsNumbered, numbered_then}
use Rattle.router_laws.proofs.OfEntering.Deciding.{Told}
use Rattle.router_laws.proofs.OfEntering.Opening.{again_keeps, at_once_keeps, going_keeps, loss_opens, opens_kept}
use Rattle.router_laws.specs.entering.Rooms.{OthersLack}
use Rattle.core_texts.specs.declared.texts.Texts.{Texts}
use Rattle.core_texts.specs.Texts.{key_at}
use Rattle.core_promises.specs.Endings.{IsPartedAt, is_its_own}
use Rattle.private_model.proofs.Maps.{same_number}
use Rattle.router_laws.proofs.OfDecisions.Ending.{one_ends, or_left}
use Rattle.router_laws.proofs.OfDecisions.Fates.{none_some}
use Rattle.router_laws.proofs.OfDecisions.Noting.{any_seated}
use Rattle.router_laws.specs.clients.Speaks.{IsLinkOf}
use Rattle.router_laws.specs.decisions.Partings.{IsPartCause}
use Rattle.core_tables.specs.declared.client.Client.{Client}

-- The laws by which it goes.

abbrev Again : Type 0
Again = (service : Serving) (default : List ℕ) (setup : Setup) (codes : Codes) (plan : Plan) (log : Log) (e : Entry) (old new : Decided)
    (t now : Tabled) (roomy : ClientNo → Bool) (link : LinkId) (c : ClientNo) → FitsThen new.keys setup codes plan default log e → IsLossOf link e
    → IsSafe setup plan log → IsDecided (ground setup codes plan old log) nobody (over_by new) → LeavesAgain link c t now
    → GoesTaking service setup codes plan log e old new t now roomy roomy c 0

abbrev AtOnce : Type 0
AtOnce = (service : Serving) (default : List ℕ) (setup : Setup) (codes : Codes) (plan : Plan) (log : Log) (e : Entry) (old new : Decided)
    (t now : Tabled) (roomy room : ClientNo → Bool) (link : LinkId) (c : ClientNo) (links : List LinkId)
    → FitsThen new.keys setup codes plan default log e → IsLossOf link e → IsSafe setup plan log
    → PlansEnd (ground setup codes plan old log) log c (over_by new) → LeavesAtOnce link links c roomy t now
    → ((other : ClientNo) → is_client c other ≡ false → room other ≡ false → roomy other ≡ false)
    → GoesTaking service setup codes plan log e old new t now roomy room c 0

abbrev Going : Type 0
Going = (service : Serving) (default : List ℕ) (setup : Setup) (codes : Codes) (plan : Plan) (log : Log) (e : Entry) (old new : Decided)
    (t now : Tabled) (roomy room : ClientNo → Bool) (link : LinkId) (c : ClientNo) (links : List LinkId) (ordinal : ℕ) (choices : List Choice)
    (halt : Halt) (parting : Parting) → FitsThen new.keys setup codes plan default log e → IsLossOf link e → IsSafe setup plan log
    → PlansTurns service (ground setup codes plan old log) log c ordinal choices halt parting (over_by new)
    → (so : LeavesGoing service default link links ordinal choices halt parting c t now)
    → ((other : ClientNo) → is_client c other ≡ false → room other ≡ false → roomy other ≡ false)
    → GoesFinding service default setup codes plan log e old new t now roomy room c ordinal choices halt so.between so.follows.turned so.follows.turns

loss_begins : (link : LinkId) (e : Entry) → IsLossOf link e → (deeds : Deeds) (setup : Setup) (tale : Tale) → BeginsSo setup tale e deeds
loss_begins link e (inl same) deeds setup tale = subst (λ (x : Entry). BeginsSo setup tale x deeds) (sym same) tt
loss_begins link e (inr (inl same)) deeds setup tale = subst (λ (x : Entry). BeginsSo setup tale x deeds) (sym same) tt
loss_begins link e (inr (inr same)) deeds setup tale = subst (λ (x : Entry). BeginsSo setup tale x deeds) (sym same) tt

serves : (at : Phase) (b : Bool) → (is_some (account_in at) && b) ≡ true → is_ended at ≡ false
serves phase.LoggingIn b is = refl
serves (phase.Serving account) b is = refl
serves phase.Ended b is = absurd (false≢true is)

-- Its own link is lost.

own_there : (service : Serving) (g : Ground) (t : Tabled) (link : LinkId) (c : ClientNo) (row : Client) (stands : Stands service g t) (its : IsLinkOf link c row t)
    → is_its_own g.tale link c ≡ true
own_there service g t link c row stands its =
    let client : tales.Client = client_there service g t link c row stands its in
    let is : IsKnown g c client = known service g t link c row stands its in
    any_seated (λ (x : tales.Client). is_client x.number c && is_link_id x.link link) g.tale client is.seated
    ((λ i. is_client (is.number i) c && is_link_id (link_is service g t link c row stands its i) link) ∙ (λ i. same_number c.0 i && same_number link.0 i))

loss_parted : (setup : Setup) (plan : Plan) (log : Log) (link : LinkId) (e : Entry) (c : ClientNo) → IsLossOf link e
    → is_its_own (tale_of setup plan log) link c ≡ true → IsPartedAt setup plan log e c
loss_parted setup plan log link e c (inl same) own = subst (λ (x : Entry). IsPartedAt setup plan log x c) (sym same) (or_left _ _ own)
loss_parted setup plan log link e c (inr (inl same)) own = subst (λ (x : Entry). IsPartedAt setup plan log x c) (sym same) (or_left _ _ own)
loss_parted setup plan log link e c (inr (inr same)) own = subst (λ (x : Entry). IsPartedAt setup plan log x c) (sym same) (or_left _ _ own)

pub again_routed : Again → (service : Service) (texts : Texts) (admin : Administered) (log : Log) (e : Entry) (t now : Tabled) (roomy : ClientNo → Bool) (link : LinkId) (c : ClientNo)
    → IsRouter service texts admin log t roomy → MayFollow log e → IsLossOf link e → LeavesAgain link c t now
    → IsRouter service texts admin (with_entry log e) now roomy
again_routed law service texts admin log e t now roomy link c router may lost so =
    deciding.goes_router service log e t now roomy roomy router may c [] Resting None (All-nil (IsOurs (rules_in service) texts c)) tt admin (loss_waits service log e link router.core.decided lost)
    (judges_of_none service log e router.core.decided router.counts c None admin
    (λ setup codes plan of fits. one_ends (IsPartCause service.buffer_budget setup plan log e) c None (λ end is. none_some None end refl is)))
    (λ setup codes plan of fits.
    let was = deciding.before service log e t now roomy roomy router may c [] Resting None (All-nil (IsOurs (rules_in service) texts c)) tt setup codes plan of fits in
    law service.setup service.default_schema setup codes plan log e router.core.decided
    (deciding.new service log e t now roomy roomy router may c [] Resting None (All-nil (IsOurs (rules_in service) texts c)) tt) t now roomy link c fits lost was.safe
    (deciding.decided_none service log e t now roomy roomy router may c [] Resting None (All-nil (IsOurs (rules_in service) texts c)) tt setup codes plan of fits refl refl) so)
    ((loss_of link e lost).none_comes) (loss_begins link e lost _)
    (opens_kept log e t now (loss_opens link e lost) (again_keeps link c t now so) router.open_just)

pub at_once_routed : AtOnce → (service : Service) (texts : Texts) (admin : Administered) (log : Log) (e : Entry) (t now : Tabled) (roomy room : ClientNo → Bool) (link : LinkId)
    (c : ClientNo) (links : List LinkId) → IsRouter service texts admin log t roomy → MayFollow log e → IsLossOf link e
    → LeavesAtOnce link links c roomy t now → OthersLack c roomy room → IsRouter service texts admin (with_entry log e) now room
at_once_routed law service texts admin log e t now roomy room link c links router may lost so others =
    deciding.goes_router service log e t now roomy room router may c [] Resting (Some None) (All-nil (IsOurs (rules_in service) texts c)) tt admin (loss_waits service log e link router.core.decided lost)
    (judges_of_none service log e router.core.decided router.counts c (Some None) admin
    (λ setup codes plan of fits.
    let was = deciding.before service log e t now roomy room router may c [] Resting (Some None) (All-nil (IsOurs (rules_in service) texts c)) tt setup codes plan of fits in
    one_ends (IsPartCause service.buffer_budget setup plan log e) c (Some None)
    (λ end is.
    inl (loss_parted setup plan log link e c lost (own_there service.setup (ground setup codes plan router.core.decided log) t link c so.row was.rests.stands so.its)))))
    (λ setup codes plan of fits.
    let was = deciding.before service log e t now roomy room router may c [] Resting (Some None) (All-nil (IsOurs (rules_in service) texts c)) tt setup codes plan of fits in
    let g : Ground = ground setup codes plan router.core.decided log in
    let client : tales.Client = client_there service.setup g t link c so.row was.rests.stands so.its in
    let is : IsKnown g c client = known service.setup g t link c so.row was.rests.stands so.its in
    let own = is_client_row service.setup g t link c so.row was.rests.stands so.its in
    let going : g.over client.number ≡ false = goes_there g client so.row own so.going in
    let still : g.over c ≡ false = ap g.over (sym is.number) ∙ going in
    law service.setup service.default_schema setup codes plan log e router.core.decided
    (deciding.new service log e t now roomy room router may c [] Resting (Some None) (All-nil (IsOurs (rules_in service) texts c)) tt) t now roomy room link c links fits lost was.safe
    (deciding.end_of_it service log e t now roomy room router may c [] Resting (Some None) (All-nil (IsOurs (rules_in service) texts c)) tt setup codes plan of fits client is.seated
    is.number still refl refl) so others)
    ((loss_of link e lost).none_comes) (loss_begins link e lost _)
    (opens_kept log e t now (loss_opens link e lost) (at_once_keeps link links c roomy t now so) router.open_just)

pub going_routed : Going → Told → (service : Service) (texts : Texts) (admin is : Administered) (log : Log) (e : Entry) (t now : Tabled) (roomy room : ClientNo → Bool) (link : LinkId)
    (c : ClientNo) (links : List LinkId) (ordinal : ℕ) (choices : List Choice) (halt : Halt) (parting : Parting)
    → (router : IsRouter service texts admin log t roomy) → MayFollow log e → IsLossOf link e
    → (so : LeavesGoing service.setup service.default_schema link links ordinal choices halt parting c t now)
    → All (IsOurs (rules_in service) texts c) choices → IsPartingOurs parting
    → OthersLack c roomy room
    → AreRuled (ruling_of service texts.since (key_at texts) admin is) choices halt service.setup service.default_schema c so.between so.follows.turned so.follows.turns
    → AreHeldSince texts service.default_schema router.core.decided log → admin.rules ≡ rules_in service
    → IsRouter service texts is (with_entry log e) now room
going_routed law told service texts admin is log e t now roomy room link c links ordinal choices halt parting router may lost so ours told_ours others ruled since settled =
    deciding.finds_router service log e t now roomy room router may c choices halt (end_of parting) ours (end_ours parting told_ours) is settled ordinal so.between
    so.follows.turned so.follows.turns ruled (loss_waits service log e link router.core.decided lost)
    (λ setup codes plan of fits.
    let was = deciding.before service log e t now roomy room router may c choices halt (end_of parting) ours (end_ours parting told_ours) setup codes plan of fits in
    let g : Ground = ground setup codes plan router.core.decided log in
    let client : tales.Client = client_there service.setup g t link c so.row was.rests.stands so.its in
    let at : IsKnown g c client = known service.setup g t link c so.row was.rests.stands so.its in
    let own = is_client_row service.setup g t link c so.row was.rests.stands so.its in
    let lives : is_ended so.row.desk.seat.phase ≡ false = serves so.row.desk.seat.phase so.row.desk.seat.answered so.rests in
    let going : g.over client.number ≡ false = goes_there g client so.row own lives in
    let still : g.over c ≡ false = ap g.over (sym at.number) ∙ going in
    let arrived : so.row.desk.seat.client.arrived ≡ client.taken = arrived_there g client so.row own lives in
    record {
      so = law service.setup service.default_schema setup codes plan log e router.core.decided
          (deciding.new service log e t now roomy room router may c choices halt (end_of parting) ours (end_ours parting told_ours)) t now roomy room link c links ordinal choices halt
          parting fits lost was.safe
          (deciding.turns_of_it service log e t now roomy room router may c choices halt (end_of parting) ours (end_ours parting told_ours) setup codes plan of fits client at.seated at.number
          still ordinal parting (so.next ∙ ap suc arrived) refl so.follows.once told) so others;
      next = so.next ∙ ap suc (arrived ∙ deciding.counted_so service log e t now roomy room router may c choices halt (end_of parting) ours
          (end_ours parting told_ours) setup codes plan of fits client at.seated at.number still);
      numbered = subst (IsNumbered (tale_of setup plan (with_entry log e))) at.number (numbered_then setup plan log e client at.seated);
      kept = anew_kept (ruling_of service texts.since (key_at texts) admin is) links c so.row t so.between so.leaves so.its.there
          (before_kept (ruling_of service texts.since (key_at texts) admin is) service.setup setup codes plan router.core.decided log t client c at.number
          was.rests.stands at.seated going (since setup codes plan was.of was.fits));
    })
    (λ setup codes plan of fits.
    let was = deciding.before service log e t now roomy room router may c choices halt (end_of parting) ours (end_ours parting told_ours) setup codes plan of fits in
    one_ends (IsPartCause service.buffer_budget setup plan log e) c (end_of parting)
    (λ end is.
    inl (loss_parted setup plan log link e c lost (own_there service.setup (ground setup codes plan router.core.decided log) t link c so.row was.rests.stands so.its))))
    ((loss_of link e lost).none_comes) (loss_begins link e lost _)
    (opens_kept log e t now (loss_opens link e lost)
    (going_keeps service.setup service.default_schema link links ordinal choices halt parting c t now so) router.open_just)
