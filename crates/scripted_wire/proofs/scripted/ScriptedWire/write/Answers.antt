use Rattle.std.proofs.Common.{◌≡◌, length, refl, ap, arith}
use Rattle.mx_wire.specs.declared.entry.Entry.TheVariants as entry
use Rattle.scripted_wire.specs.Plays.{cast_of}
use Rattle.scripted_wire.proofs.Playing.{played-if, played-one}
use Rattle.scripted_wire.proofs.Sound.{open_low, sound_one, sound_if}
use Rattle.scripted_wire.proofs.scripted.ScriptedWire.write.Goals as goal

pub invariant_of-self : goal.invariant_of-self
invariant_of-self g c =
    let s = c.self.inside.stage in
    let hosts = c.self.inside.hosts in (
      sound_one (length s.links.items) s.moment (length s.links.items) s.moment c.self.inside.told (entry.WriteFailed c.args.link) c.add.new.self c.self.invariant.0 c.add.ensures (omega arith) refl
          (λ log is. open_low (length s.links.items) s.moment c.self.inside.told _ c.args.link (ap (λ v. v.told) c.self.view_is) c.requires.open c.self.invariant.0 log is) (λ m. refl),
      played-one g.R.TameServer.step (cast_of c.self.inside.began.items) (record { stage = s; hosted = hosts }) (record { stage = s; hosted = hosts }) c.self.inside.told (entry.WriteFailed c.args.link) c.add.new.self
          c.self.invariant.1 c.add.ensures (record { unmarked = refl; does = refl; hosted = refl }),
    )

pub invariant_of-self-in-Ok : goal.invariant_of-self-in-Ok
invariant_of-self-in-Ok g c =
    let s = c.self.inside.stage in
    let hosts = c.self.inside.hosts in
    let kept = c.write.ensures.kept in
    let n : length c.write.new.self.links.items ≡ length s.links.items = kept.size in (
      sound_if (length s.links.items) s.moment (length c.write.new.self.links.items) c.write.new.self.moment c.self.inside.told c.write_entry.result (entry.Wrote c.args.link c.args.tag c.args.piece.now) c.add_if.new.self c.self.invariant.0 c.add_if.ensures c.write_entry.ensures (omega arith) kept.moment
          (λ log is. rw n (open_low (length s.links.items) s.moment c.self.inside.told _ c.args.link (ap (λ v. v.told) c.self.view_is) c.requires.open c.self.invariant.0 log is)) (λ m. refl),
      played-if g.R.TameServer.step (cast_of c.self.inside.began.items) (record { stage = s; hosted = hosts }) (record { stage = c.write.new.self; hosted = hosts }) c.self.inside.told c.write_entry.result (entry.Wrote c.args.link c.args.tag c.args.piece.now) c.add_if.new.self
          c.self.invariant.1 c.add_if.ensures c.write_entry.ensures (record { unmarked = refl; does = c.in-Ok.ensures.ok; hosted = refl }),
    )
