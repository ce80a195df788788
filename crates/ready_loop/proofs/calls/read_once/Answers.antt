use Rattle.std.proofs.Common.{rules, refl, sym, ◌++◌, ◌∙◌, subst}
use Rattle.mx_wire.specs.Tells.{Tells}
use Rattle.mx_wire.specs.declared.entry.Entry.{Entry}
use Rattle.ready_loop.proofs.Offering.{proceeded}
use Rattle.ready_loop.proofs.Steps.{goes_on, stays}
use Rattle.ready_loop.proofs.Counting.{named}
use Rattle.ready_loop.proofs.Ending.{stood_before, refused, both, on_ok}
use Rattle.ready_loop.proofs.Hearing as hearing
use Rattle.ready_loop.proofs.Marking as marking
use Rattle.ready_loop.proofs.Watching as watching
use Rattle.ready_loop.proofs.Opening.{open_marked}
use Rattle.ready_loop.proofs.calls.read_once.Goals as goal

pub read-got-requires-clause-open : goal.read-got-requires-clause-open
read-got-requires-clause-open g c = open_marked _ _ _ _ _ c.requires.going.serves.tracks c.requires.wet

pub returns-in_default-clause-serves : goal.returns-in_default-clause-serves
returns-in_default-clause-serves g c =
    let told = subst (λ (e : Entry). Tells (g.W.Wire.told c.args.wire.now) e (g.W.Wire.told c.read-got.new.self)) (hearing.nothing c.args.link c.read-got.new.into c.read-got.result (sym c.hear.ensures ∙ c.in_default.is)) c.read-got.ensures.told in
    record {
      standing = stays _ _ _ _ c.quiet.ensures _ _ _ _ c.requires.going.serves.standing told (λ log. tt) tt;
      tracks = named _ _ _ _ _ _ refl refl (marking.read_nothing _ _ _ c.read_dry.ensures.marks) (marking.others _ _ _ _ c.read_dry.ensures.marks) c.requires.going.serves.tracks told;
      watches = watching.dried _ _ _ _ (λ m. refl) (λ m is. refl) (λ m is. is) _ _ _ c.read_dry.ensures.marks c.read_dry.ensures.queue c.requires.going.serves.watches;
    }

pub returns-in_default-clause-made : goal.returns-in_default-clause-made
returns-in_default-clause-made g c = record {
  made_it = record { entry_of = _; tells = c.read-got.ensures.told; is = hearing.made _ _ c.read-got.result };
  more = search rules;
  wakes = search rules;
  ends = search rules;
  proceeds = proceeded _ _ _ _ _ _ _ _ _ _ _ _ c.read-got.ensures.told (hearing.unwritten _ _ c.read-got.result) (hearing.unlistened _ _ c.read-got.result) c.read-got.ensures.rule c.read-got.ensures.port_faults c.read-got.ensures.cause.later (search rules);
}

pub returns-clause-serves : goal.returns-clause-serves
returns-clause-serves g c =
    let heard = sym c.hear.ensures ∙ c.in-Some.is in
    on_ok c.take.result _ _ _ c.unless_refused.ensures.ok (both c.take.result _ _ c.take.ensures.carries c.take.ensures.changes) (λ taken. record {
      standing = goes_on _ _ _ _ c.quiet.ensures _ _ _ _ _ c.requires.going.serves.standing c.read-got.ensures.told (λ log. hearing.due g.M.Machine.reads g.M.Machine.sends g.M.Machine.asks c.args.core.now log _ _ c.read-got.result c.requires.wanted) (taken.0 _ (hearing.told _ _ _ _ c.read-got.result _ heard));
      tracks = named _ _ _ _ _ c.args.link (hearing.of_link _ _ c.read-got.result) (hearing.counted _ _ c.read-got.result _) (hearing.still_wet c.args.table.now.links _ _ c.read-got.result _ heard c.requires.wet) (λ other apart. refl) c.requires.going.serves.tracks c.read-got.ensures.told;
      watches = watching.changes _ _ _ _ _ _ taken.1 c.requires.going.serves.watches;
    })

pub returns-clause-made : goal.returns-clause-made
returns-clause-made g c = record {
  made_it = record { entry_of = _; tells = c.read-got.ensures.told; is = hearing.made _ _ c.read-got.result };
  more = search rules;
  wakes = search rules;
  ends = refused _ _ _ _ _ _ _ _ _ _ c.unless_refused.ensures.err (stood_before _ _ _ _ _ _ _ _ (λ log marks is all. hearing.wanted g.M.Machine.reads g.M.Machine.sends g.M.Machine.asks g.M.Machine.until g.M.Machine.awaits c.args.core.now (log ++ marks) _ _ c.read-got.result _ c.requires.going.acted c.are_bytes.ensures (sym c.hear.ensures ∙ c.in-Some.is)) c.requires.going.serves.standing c.read-got.ensures.told (sym c.take.ensures.serves_by));
  proceeds = proceeded _ _ _ _ _ _ _ _ _ _ _ _ c.read-got.ensures.told (hearing.unwritten _ _ c.read-got.result) (hearing.unlistened _ _ c.read-got.result) c.read-got.ensures.rule c.read-got.ensures.port_faults c.read-got.ensures.cause.later (search rules);
}
