use Rattle.ready_loop.proofs.Ending.{stood_before, refused, both, on_ok}
use Rattle.std.proofs.Common.{rules, refl}
use Rattle.ready_loop.proofs.Offering.{proceeded}
use Rattle.ready_loop.proofs.Steps.{stays}
use Rattle.ready_loop.proofs.Counting.{unnamed, named}
use Rattle.ready_loop.proofs.Marking as marking
use Rattle.ready_loop.proofs.Watching as watching
use Rattle.ready_loop.proofs.calls.name_once.Goals as goal

pub returns-in-Some-clause-serves : goal.returns-in-Some-clause-serves
returns-in-Some-clause-serves g c = on_ok c.named.result _ _ _ c.unless_refused.ensures.ok (both c.named.result _ _ c.named.ensures.marks c.named.ensures.queue) (λ queued. record {
  standing = stays _ _ _ _ c.quiet.ensures _ _ _ _ c.requires.going.serves.standing c.in-Some.ensures.told (λ log. tt) tt;
  tracks = named _ _ _ _ _ _ refl refl (marking.named _ _ _ queued.0) (marking.others _ _ _ _ queued.0) c.requires.going.serves.tracks c.in-Some.ensures.told;
  watches = watching.joined _ _ _ _ (λ m. refl) _ _ _ queued.0 queued.1 c.requires.going.serves.watches;
})

pub returns-in-None-clause-serves : goal.returns-in-None-clause-serves
returns-in-None-clause-serves g c = record {
  standing = stays _ _ _ _ c.quiet.ensures _ _ _ _ c.requires.going.serves.standing c.in-None.ensures.told (λ log. tt) tt;
  tracks = unnamed _ _ _ _ _ refl refl (λ l. refl) c.requires.going.serves.tracks c.in-None.ensures.told;
  watches = c.requires.going.serves.watches;
}

pub returns-in-Some-clause-made : goal.returns-in-Some-clause-made
returns-in-Some-clause-made g c = record {
  made_it = search rules;
  more = search rules;
  wakes = search rules;
  ends = refused _ _ _ _ _ _ _ _ _ _ c.unless_refused.ensures.err (stood_before _ _ _ _ _ _ _ _ (λ log marks is all. tt) c.requires.going.serves.standing c.in-Some.ensures.told refl);
  proceeds = proceeded _ _ _ _ _ _ _ _ _ _ _ _ c.in-Some.ensures.told tt tt c.in-Some.ensures.rule c.in-Some.ensures.port_faults c.in-Some.ensures.faults (search rules);
}

pub returns-in-None-clause-made : goal.returns-in-None-clause-made
returns-in-None-clause-made g c = record {
  made_it = search rules;
  more = search rules;
  wakes = search rules;
  ends = search rules;
  proceeds = proceeded _ _ _ _ _ _ _ _ _ _ _ _ c.in-None.ensures.told tt tt c.in-None.ensures.rule c.in-None.ensures.port_faults c.in-None.ensures.faults refl;
}
