use Rattle.std.proofs.Common.{length}
use Rattle.scripted_wire.specs.Plays.{cast_of}
use Rattle.scripted_wire.proofs.Playing.{begun, played-first, sound-first}
use Rattle.scripted_wire.proofs.scripted.Scripted.new.Goals as goal

pub invariant_of-result : goal.invariant_of-result
invariant_of-result g c =
    let s = c.new-stage.result in (
      sound-first (length s.links.items) s.moment c.new-2.result c.new-2.ensures,
      played-first g.R.TameServer.step (cast_of c.and-began.result.items) (record { stage = s; hosted = c.new-hosts.result }) c.new-2.result c.new-2.ensures
          (begun c.and-began.result.items c.new.result.items c.new-hosts.result s _ _ c.new.ensures c.and-began.ensures c.new-hosts.ensures c.new-stage.ensures),
    )
