use Rattle.ready_loop.proofs.Ending.{stood_before, refused, both, on_ok}
use Rattle.std.proofs.Common.{rules, refl, inr, sym}
use Rattle.ready_loop.proofs.Offering.{owed-for, proceeded, proceeds-so, write-offers}
use Rattle.ready_loop.proofs.Steps.{goes_on, stays, written, may_take}
use Rattle.ready_loop.proofs.Counting.{named}
use Rattle.ready_loop.proofs.Marking as marking
use Rattle.ready_loop.proofs.Watching as watching
use Rattle.ready_loop.proofs.Opening.{open_marked}
use Rattle.mx_wire.specs.declared.wire.Took.TheVariants as took
use Rattle.ready_loop.proofs.calls.write_once.Goals as goal

pub write-requires-clause-open : goal.write-requires-clause-open
write-requires-clause-open g c = open_marked _ _ _ _ _ c.requires.going.serves.tracks c.requires.wet

pub taken-requires-clause-lent : goal.taken-requires-clause-lent
taken-requires-clause-lent g c = may_take c.in-Some.piece _ _ c.in-Some.ensures c.in-Took.ensures.bound.fits

pub returns-in-Took-clause-serves : goal.returns-in-Took-clause-serves
returns-in-Took-clause-serves g c = record {
  standing = written _ _ _ _ c.quiet.ensures _ _ _ _ _ c.in-Some.piece _ _ c.requires.going.serves.standing c.in-Some.ensures c.in-Took.ensures.told c.taken.ensures.carries;
  tracks = named _ _ _ _ _ _ refl refl (marking.wrote c.args.table.now.links c.args.link c.requires.wet) (λ other apart. refl) c.requires.going.serves.tracks c.in-Took.ensures.told;
  watches = watching.changes _ _ _ _ _ _ c.taken.ensures.changes c.requires.going.serves.watches;
}

pub returns-in-NotReady-clause-serves : goal.returns-in-NotReady-clause-serves
returns-in-NotReady-clause-serves g c = record {
  standing = stays _ _ _ _ c.quiet.ensures _ _ _ _ c.requires.going.serves.standing c.in-NotReady.ensures.told (λ log. tt) tt;
  tracks = named _ _ _ _ _ _ refl refl (marking.write_nothing _ _ _ c.write_dry.ensures.marks) (marking.others _ _ _ _ c.write_dry.ensures.marks) c.requires.going.serves.tracks c.in-NotReady.ensures.told;
  watches = watching.dried _ _ _ _ (λ m. refl) (λ m is. is) (λ m is. refl) _ _ _ c.write_dry.ensures.marks c.write_dry.ensures.queue c.requires.going.serves.watches;
}

pub returns-in-Failed-clause-serves : goal.returns-in-Failed-clause-serves
returns-in-Failed-clause-serves g c = on_ok c.take.result _ _ _ c.unless_refused.ensures.ok (both c.take.result _ _ c.take.ensures.carries c.take.ensures.changes) (λ taken. record {
  standing = goes_on _ _ _ _ c.quiet.ensures _ _ _ _ _ c.requires.going.serves.standing c.in-Failed.ensures.told (λ log. tt) (taken.0 _ (inr refl));
  tracks = named _ _ _ _ _ _ refl refl refl (λ other apart. refl) c.requires.going.serves.tracks c.in-Failed.ensures.told;
  watches = watching.changes _ _ _ _ _ _ taken.1 c.requires.going.serves.watches;
})

pub returns-in-Failed-clause-made : goal.returns-in-Failed-clause-made
returns-in-Failed-clause-made g c = record {
  made_it = search rules;
  more = search rules;
  wakes = search rules;
  ends = refused _ _ _ _ _ _ _ _ _ _ c.unless_refused.ensures.err (stood_before _ _ _ _ _ _ _ _ (λ log marks is all. c.requires.going.acted) c.requires.going.serves.standing c.in-Failed.ensures.told (sym c.take.ensures.serves_by));
  proceeds = proceeded _ _ _ _ _ _ _ _ _ _ _ _ c.in-Failed.ensures.told tt tt c.in-Failed.ensures.rule c.in-Failed.ensures.port_faults c.in-Failed.ensures.cause.later (search rules);
}

pub returns-in-Took-clause-made : goal.returns-in-Took-clause-made
returns-in-Took-clause-made g c = record {
  made_it = search rules;
  more = search rules;
  wakes = search rules;
  ends = search rules;
  proceeds = proceeds-so _ _ _ _ _ _ _ _ _ _ _ _ c.in-Took.ensures.told tt c.in-Took.ensures.rule c.in-Took.ensures.port_faults c.in-Took.ensures.cause.later c.taken.ensures.serves_by
      (write-offers _ _ _ _ _ _ c.in-Some.piece _ (took.Took c.in-Took.n) c.in-Took.ensures.told c.in-Took.ensures.takes c.in-Some.ensures
      (owed-for _ _ _ _ c.quiet.ensures _ _ _ _ _ c.requires.going.serves.standing (λ log sent held lends. c.lends.ensures _ log _ sent held c.requires.going.acted lends)));
}

pub returns-in-NotReady-clause-made : goal.returns-in-NotReady-clause-made
returns-in-NotReady-clause-made g c = record {
  made_it = search rules;
  more = search rules;
  wakes = search rules;
  ends = search rules;
  proceeds = proceeded _ _ _ _ _ _ _ _ _ _ _ _ c.in-NotReady.ensures.told tt tt c.in-NotReady.ensures.rule c.in-NotReady.ensures.port_faults c.in-NotReady.ensures.cause.later refl;
}
