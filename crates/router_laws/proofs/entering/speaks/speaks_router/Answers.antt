use Rattle.router_laws.proofs.OfDecisions.Speaking.{end_ours}
use Rattle.std.specs.Prelude.{◌≡◌, suc, false}
use Rattle.std.proofs.Common.{ap, refl, subst, sym, ◌∙◌}
use Rattle.mx_wire.specs.declared.entry.Entry.TheVariants.{Got}
use Rattle.log_story.specs.Tale as tales
use Rattle.core_stands.specs.Grounds.{Ground}
use Rattle.core_stands.specs.Stands.{IsKnown}
use Rattle.core_laws.specs.entry.Cores.{with_entry}
use Rattle.core_laws.specs.entry.Tells.{ground}
use Rattle.core_promises.specs.Ruled.{ruling_of}
use Rattle.core_texts.specs.Texts.{key_at}
use Rattle.router_laws.proofs.OfDecisions.Kept.{spoke_kept}
use Rattle.router_laws.proofs.OfDecisions.KeptOn.{before_kept}
use Rattle.log_story.specs.Headline.{tale_of}
use Rattle.router_laws.proofs.OfDecisions.Stating.{IsNumbered, numbered_then}
use Rattle.router_laws.proofs.OfClients.Linking.{client_there, is_client_row, known}
use Rattle.router_laws.proofs.OfClients.Saying.{arrived_there, goes_there}
use Rattle.router_laws.specs.decisions.Goings.{end_of}
use Rattle.router_laws.proofs.OfEntering.Deciding as deciding
use Rattle.router_laws.proofs.OfEntering.Opening.{opens_kept, speaks_keep}
use Rattle.router_laws.proofs.entering.speaks.speaks_router.Goals as goal
use Rattle.router_laws.proofs.OfDecisions.Ending.{one_ends, part_cause}
use Rattle.router_laws.specs.decisions.Partings.{IsPartCause}

pub returns : goal.returns
returns law = λ service texts admin is log t now roomy room link bytes c ordinal choices halt parting links router may so ours told_ours parted others ruled since settled.
    deciding.finds_router service log (Got link bytes) t now roomy room router may c choices halt (end_of parting) ours (end_ours parting told_ours)
    is settled ordinal so.heard so.follows.turned so.follows.turns ruled (λ terms codes of fits. tt)
    (λ setup codes plan of fits.
    let was = deciding.before service log (Got link bytes) t now roomy room router may c choices halt (end_of parting) ours (end_ours parting told_ours) setup codes plan of fits in
    let g : Ground = ground setup codes plan router.core.decided log in
    let client : tales.Client = client_there service.setup g t link c so.row was.rests.stands so.its in
    let at : IsKnown g c client = known service.setup g t link c so.row was.rests.stands so.its in
    let own = is_client_row service.setup g t link c so.row was.rests.stands so.its in
    let going : g.over client.number ≡ false = goes_there g client so.row own so.going in
    let still : g.over c ≡ false = ap g.over (sym at.number) ∙ going in
    let arrived : so.row.desk.seat.client.arrived ≡ client.taken = arrived_there g client so.row own so.going in
    record {
      so = law.speaks_go.ensures service.setup service.default_schema setup codes plan log router.core.decided
          (deciding.new service log (Got link bytes) t now roomy room router may c choices halt (end_of parting) ours (end_ours parting told_ours)) t now roomy room link bytes c ordinal choices halt parting
          links fits was.safe
          (deciding.turns_of_it service log (Got link bytes) t now roomy room router may c choices halt (end_of parting) ours (end_ours parting told_ours) setup codes plan of fits client at.seated at.number
          still ordinal parting (so.next ∙ ap suc arrived) refl so.follows.once law.told_stands.ensures) so others;
      next = so.next ∙ ap suc (arrived ∙ deciding.counted_so service log (Got link bytes) t now roomy room router may c choices halt (end_of parting) ours
          (end_ours parting told_ours) setup codes plan of fits client at.seated at.number still);
      numbered = subst (IsNumbered (tale_of setup plan (with_entry log (Got link bytes)))) at.number (numbered_then setup plan log (Got link bytes) client at.seated);
      kept = spoke_kept (ruling_of service texts.since (key_at texts) admin is) c bytes t so.heard so.hears
          (before_kept (ruling_of service texts.since (key_at texts) admin is) service.setup setup codes plan router.core.decided log t client c at.number
          was.rests.stands at.seated going (since setup codes plan was.of was.fits));
    })
    (λ setup codes plan of fits.
    one_ends (IsPartCause service.buffer_budget setup plan log (Got link bytes)) c (end_of parting)
    (part_cause service.buffer_budget setup plan log (Got link bytes) c ⊥ (λ none. absurd none) parting parted))
    (λ tale x come. come) (λ setup tale. tt)
    (opens_kept log (Got link bytes) t now (λ was. refl)
    (speaks_keep service.setup service.default_schema link bytes c ordinal choices halt parting links t now so) router.open_just)
