use Rattle.std.proofs.Common.{rules, refl, ap, ◌∙◌, sym}
use Rattle.ready_loop.proofs.Offering.{proceeded}
use Rattle.ready_loop.proofs.Steps.{goes_on, stays}
use Rattle.ready_loop.proofs.Counting.{unnamed, named}
use Rattle.ready_loop.proofs.Marking as marking
use Rattle.ready_loop.proofs.Watching as watching
use Rattle.ready_loop.specs.Serving.{IsPortFault}
use Rattle.std.specs.Option.{option_map}
use Rattle.ready_loop.specs.Links.{dry_mark}
use Rattle.ready_loop.proofs.Ending.{ends_with, woke_on, stood_before, refused, both, on_ok}
use Rattle.ready_loop.proofs.calls.accept_once.Goals as goal

pub returns-in-Link-clause-serves : goal.returns-in-Link-clause-serves
returns-in-Link-clause-serves g c =
    let told = both c.come.result _ _ c.come.ensures.carries c.come.ensures.changes in
    let queued = both c.come.result _ _ c.come.ensures.marks c.come.ensures.queue in
    on_ok c.come.result _ _ _ c.unless_refused.ensures.ok (both c.come.result _ _ told queued) (λ came. record {
      standing = goes_on _ _ _ _ c.quiet.ensures _ _ _ _ _ c.requires.going.serves.standing c.in-Link.ensures.told (λ log. tt) (came.0.0 _ refl);
      tracks = named _ _ _ _ _ _ refl (c.come.ensures.round ∙ c.accepted.ensures) (ap (option_map dry_mark) came.1.0.same) (marking.others _ _ _ _ came.1.0) c.requires.going.serves.tracks c.in-Link.ensures.told;
      watches = watching.opened _ _ _ _ _ _ came.1.0 came.1.1 (watching.changes _ _ _ _ _ _ came.0.1 c.requires.going.serves.watches);
    })

pub returns-in-Link-clause-made : goal.returns-in-Link-clause-made
returns-in-Link-clause-made g c = record {
  made_it = search rules;
  more = search rules;
  wakes = search rules;
  ends = refused _ _ _ _ _ _ _ _ _ _ c.unless_refused.ensures.err (stood_before _ _ _ _ _ _ _ _ (λ log marks is all. c.requires.going.acted) c.requires.going.serves.standing c.in-Link.ensures.told (sym c.come.ensures.serves_by));
  proceeds = proceeded _ _ _ _ _ _ _ _ _ _ _ _ c.in-Link.ensures.told tt tt c.in-Link.ensures.rule c.in-Link.ensures.cause.later c.in-Link.ensures.faults (search rules);
}

pub returns-in-NotReady-clause-serves : goal.returns-in-NotReady-clause-serves
returns-in-NotReady-clause-serves g c = record {
  standing = stays _ _ _ _ c.quiet.ensures _ _ _ _ c.requires.going.serves.standing c.in-NotReady.ensures.told (λ log. tt) tt;
  tracks = unnamed _ _ _ _ _ refl c.accepted-in-NotReady.ensures (λ l. refl) c.requires.going.serves.tracks c.in-NotReady.ensures.told;
  watches = c.requires.going.serves.watches;
}

pub returns-in-Failed-clause-made : goal.returns-in-Failed-clause-made
returns-in-Failed-clause-made g c = record {
  made_it = search rules;
  more = search rules;
  wakes = search rules;
  ends = record {
    ends = record {
      standing = stays _ _ _ _ c.quiet.ensures _ _ _ _ c.requires.going.serves.standing c.in-Failed.ensures.told (λ log. tt) tt;
      halted = c.requires.going.going;
      woke = woke_on _ _ _ _ c.requires.going.serves.tracks c.in-Failed.ensures.told refl refl;
      so = ends_with IsPortFault _ _ _ c.in-Failed.ensures.told tt;
    };
    rose = λ fault. c.in-Failed.ensures.cause.rose refl;
  };
  proceeds = proceeded _ _ _ _ _ _ _ _ _ _ _ _ c.in-Failed.ensures.told tt tt c.in-Failed.ensures.rule c.in-Failed.ensures.cause.later c.in-Failed.ensures.faults (search rules);
}

pub returns-in-NotReady-clause-made : goal.returns-in-NotReady-clause-made
returns-in-NotReady-clause-made g c = record {
  made_it = search rules;
  more = search rules;
  wakes = search rules;
  ends = search rules;
  proceeds = proceeded _ _ _ _ _ _ _ _ _ _ _ _ c.in-NotReady.ensures.told tt tt c.in-NotReady.ensures.rule c.in-NotReady.ensures.cause.later c.in-NotReady.ensures.faults refl;
}
