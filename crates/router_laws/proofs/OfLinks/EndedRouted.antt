-- A router goes on with a loss of a link with which its client ends.
use Rattle.std.specs.Prelude.{◌≡◌, suc, Bool, true, false, List, [], Some, None, ◌||◌, if◌then◌else◌, is_some, Option}
use Rattle.std.proofs.Common.{refl, sym, ap, ◌∙◌, subst, inl}
use Rattle.std.proofs.lemmas.List.Elements.{All-nil}
use Rattle.std.proofs.lemmas.Option.{none-some}
use Rattle.mx_base.specs.declared.names.LinkId.{LinkId}
use Rattle.mx_wire.specs.Log.{Log}
use Rattle.mx_wire.specs.Tells.{MayFollow}
use Rattle.mx_wire.specs.declared.entry.Entry.{Entry}
use Rattle.core_service.specs.Serves.{rules_in}
use Rattle.core_service.specs.declared.service.Service.{Service}
use Rattle.core_texts.specs.declared.texts.Texts.{Texts}
use Rattle.private_model.specs.Names.{ClientNo, SessionName}
use Rattle.log_story.specs.Plan.{word_at}
use Rattle.log_story.specs.Tale as tales
use Rattle.log_story.specs.Tale.{first_tale}
use Rattle.client_seat.specs.Seats.{ended, is_ended}
use Rattle.client_desk.specs.declared.work.Work.{Work}
use Rattle.step_laws.specs.Freed.{Ascend}
use Rattle.tale_world.proofs.Links.{log_links}
use Rattle.tale_world.specs.Decided.{Decided}
use Rattle.core_tables.specs.Parting.{lost_in, name_in, present_at, present_in}
use Rattle.core_tables.specs.Tables.{Tabled}
use Rattle.core_tables.specs.declared.client.Client.{Client}
use Rattle.core_stands.specs.Clients.{IsClient, IsPhase}
use Rattle.core_stands.specs.Grounds.{Ground}
use Rattle.core_stands.specs.Stands.{IsKnown}
use Rattle.core_laws.proofs.OfClients.Keeping.{keeps_all_freed, keeps_along, keeps_left, keeps_same}
use Rattle.core_laws.proofs.OfEntry.Uneventful.{given_same, nobody_given}
use Rattle.core_laws.proofs.OfParting.Same.{known_so}
use Rattle.core_laws.specs.clients.Keeps.{KeepsRows}
use Rattle.core_laws.specs.clients.Turns.{Rests as Resting}
use Rattle.core_laws.specs.entry.Cores.{with_entry}
use Rattle.core_laws.specs.entry.Freeing.{all_freed}
use Rattle.core_laws.specs.entry.Tells.{ground}
use Rattle.router_laws.proofs.OfEntering.Deciding as deciding
use Rattle.router_laws.proofs.OfLinks.Breaking.{lost_plain}
use Rattle.router_laws.proofs.OfLinks.Ended.{Laws}
use Rattle.router_laws.proofs.OfLinks.EndedRests.{ended_goes}
use Rattle.router_laws.proofs.OfLinks.LossOnward.{loses_open, lost_begins, lost_keeps}
use Rattle.router_laws.specs.clients.Counted.{GoesTaking}
use Rattle.router_laws.specs.clients.Plans.{IsDecided, PlansEnd, ends_of, over_by}
use Rattle.router_laws.proofs.OfDecisions.Judging.{judges_of_none, PartsThen}
use Rattle.router_laws.proofs.OfWaits.Then.{break_waits}
use Rattle.router_laws.specs.decisions.Speaks.{IsOurs}
use Rattle.core_promises.specs.Administers.{Administered}
use Rattle.router_laws.specs.decisions.Routers.{IsRouter}
use Rattle.router_laws.specs.links.Loses.{Break, LosesEnded, entry_by}
use Rattle.core_laws.proofs.OfHearing.Elsewhere.{CarriedLaw}
use Rattle.core_tables.specs.declared.server.Server.{Server}
use Rattle.private_model.proofs.Maps.{same_number}
use Rattle.private_model.specs.Story.{is_client}
use Rattle.std.specs.Option.{option_and_then, option_map_or}
use Rattle.router_laws.proofs.OfDecisions.Causing.{lost_at}
use Rattle.router_laws.proofs.OfDecisions.Ending.{one_ends}
use Rattle.router_laws.proofs.OfDecisions.Fates.{none_some}
use Rattle.router_laws.specs.decisions.Causes.{carries_of}
use Rattle.router_laws.specs.decisions.Deeds.{no_deeds, parting, taking}
use Rattle.router_laws.specs.decisions.Partings.{IsPartCause}

-- No client and no link comes or goes.
ended_keeps : (l : LinkId) (c : ClientNo) (links : List LinkId) (t now : Tabled) → LosesEnded l c links t now → KeepsRows t now
ended_keeps l c links t now so =
    keeps_along t (lost_in l t) now (keeps_same t _ (lost_in l t) (lost_keeps nobody_given l t) (given_same (lost_in l t)))
    (keeps_along (lost_in l t) so.parted now (keeps_same (lost_in l t) _ so.parted (keeps_left c ended (lost_in l t)) so.parts.same)
    (keeps_same so.parted (all_freed links so.parted) now (keeps_all_freed links so.parted) so.freed))

-- who has a statement in work goes on
works_going : (g : Ground) (client : tales.Client) (row : Client) (work : Work) → row.desk.work ≡ Some work → (b : Bool) → IsPhase b g client row
    → g.over client.number ≡ false
works_going g client row work works true is = absurd (none-some work (sym is.idle ∙ works))
works_going g client row work works false is = is.going

-- The link's row, which carries a session of it.

server_there : (l : LinkId) (t : Tabled) (name : SessionName) → present_in l t ≡ Some name → (server : Server) × (t.links l ≡ Some server)
server_there l t name carries = by (t.links l) refl carries where
  by : (found : Option Server) → t.links l ≡ found → option_and_then present_at found ≡ Some name → (server : Server) × (t.links l ≡ Some server)
  by None at is = none_some None name refl is
  by (Some server) at is = (server, at)

carries_when : (b : Bool) (name : SessionName) (carries : Option SessionName) (c : ClientNo) → (if b then None else carries) ≡ Some name → name.client ≡ c
    → option_map_or (λ (n : SessionName). is_client c n.client) carries false ≡ true
carries_when true name carries c is its = none_some None name refl is
carries_when false name carries c is its =
    ap (λ (o : Option SessionName). option_map_or (λ (n : SessionName). is_client c n.client) o false) is ∙ ap (is_client c) its ∙ same_number c.0

carried_by : (l : LinkId) (t : Tabled) (c : ClientNo) (name : SessionName) → present_in l t ≡ Some name → name.client ≡ c → carries_of l t c ≡ true
carried_by l t c name carries its = by (t.links l) carries where
  by : (found : Option Server) → option_and_then present_at found ≡ Some name
      → option_map_or (λ (server : Server). option_map_or (λ (n : SessionName). is_client c n.client) (name_in server.row.link.state.carries) false) found false ≡ true
  by None is = none_some None name refl is
  by (Some server) is = carries_when (server.row.lost || is_some server.row.left) name (name_in server.row.link.state.carries) c is its

module _ {texts : Texts} {admin : Administered} (laws : Laws) (service : Service) (log : Log) (t now : Tabled) (roomy : ClientNo → Bool) (l : LinkId) (how : Break)
    (c : ClientNo) (links : List LinkId) (router : IsRouter service texts admin log t roomy) (may : MayFollow log (entry_by how l))
    (so : LosesEnded l c links t now) (carried : CarriedLaw) where
  abbrev e : Entry
  e = entry_by how l

  abbrev new : Decided
  new = deciding.new service log e t now roomy roomy router may c [] Resting (Some None) (All-nil (IsOurs (rules_in service) texts c)) tt

  goes : deciding.GoesBy service log e t now roomy roomy router may c [] Resting (Some None) (All-nil (IsOurs (rules_in service) texts c)) tt
  goes setup codes plan of fits =
      let was = deciding.before service log e t now roomy roomy router may c [] Resting (Some None) (All-nil (IsOurs (rules_in service) texts c)) tt setup codes plan of fits in
      let g : Ground = ground setup codes plan router.core.decided log in
      let found = known_so service.setup g t c so.row was.rests.stands so.at_work.there in
      let client : tales.Client = found.0 in
      let is : IsKnown g c client = found.1 in
      let row : IsClient g client so.row = found.2 in
      let going : g.over client.number ≡ false = works_going g client so.row so.work so.at_work.in_work (is_ended so.row.desk.seat.phase) row.phase in
      let ends : PlansEnd g log c (over_by new) =
      deciding.end_of_it service log e t now roomy roomy router may c [] Resting (Some None) (All-nil (IsOurs (rules_in service) texts c)) tt setup codes plan of fits client is.seated
      is.number (ap g.over (sym is.number) ∙ going) refl refl in
      subst (λ (n : ClientNo). GoesTaking service.setup setup codes plan log e router.core.decided new t now roomy roomy n 0) is.number
      (ended_goes laws service.setup setup codes plan log l how router.core.decided new t now roomy client links was.rests is.seated
      (subst (λ (n : ClientNo). LosesEnded l n links t now) (sym is.number) so)
      (subst (λ (n : ClientNo). IsDecided g (ends_of n true) (over_by new)) (sym is.number) ends.decided)
      (ap (word_at plan (suc g.tale.moment)) is.number ∙ ends.wordless_now) (λ m route its routed. fits.single m route routed)
      (subst (λ (ks : List LinkId). Ascend (λ k. k.0) ks) (sym (log_links setup plan log first_tale)) ends.rising))

  carries_it : carries_of l t c ≡ true
  carries_it = carried_by l t c so.name so.carries so.its

  -- its link carries a session of it
  parts : PartsThen service log e router.core.decided router.counts (parting c (Some None) (taking c [] Resting no_deeds))
  parts setup codes plan of fits =
      let was = deciding.before service log e t now roomy roomy router may c [] Resting (Some None) (All-nil (IsOurs (rules_in service) texts c)) tt setup codes plan of fits in
      let server = server_there l t so.name so.carries in
      one_ends (IsPartCause service.buffer_budget setup plan log e) c (Some None)
      (λ end is. inl (lost_at carried service.wait_ms setup codes plan router.core.decided log t l server.0 server.1 (was.rests.stands.servers l) how c carries_it))

  pub ended_routed : IsRouter service texts admin (with_entry log e) now roomy
  ended_routed =
      deciding.goes_router service log e t now roomy roomy router may c [] Resting (Some None) (All-nil (IsOurs (rules_in service) texts c)) tt admin (break_waits service log how l router.core.decided)
      (judges_of_none service log e router.core.decided router.counts c (Some None) admin parts) goes
      (λ tale x come. (lost_plain tale how l).comes x come) (λ setup tale. lost_begins setup tale how l _)
      (loses_open log t now how l router.open_just (ended_keeps l c links t now so))
