use Rattle.std.proofs.Common.{◌≡◌, length, refl, ap, arith}
use Rattle.mx_wire.specs.declared.entry.Entry.TheVariants as entry
use Rattle.scripted_wire.specs.Plays.{cast_of}
use Rattle.scripted_wire.specs.Stages.{closes}
use Rattle.scripted_wire.proofs.Playing.{played-one}
use Rattle.scripted_wire.proofs.Sound.{open_low, sound_one}
use Rattle.scripted_wire.proofs.Staged.{changes_keep}
use Rattle.scripted_wire.proofs.scripted.ScriptedWire.close.Goals as goal

pub invariant_of-self : goal.invariant_of-self
invariant_of-self g c =
    let s = c.self.inside.stage in
    let kept = changes_keep closes c.args.link.0 s c.close.new.self c.close.ensures in
    let n : length c.close.new.self.links.items ≡ length s.links.items = kept.size in
    let hosts = c.self.inside.hosts in (
      sound_one (length s.links.items) s.moment (length c.close.new.self.links.items) c.close.new.self.moment c.self.inside.told (entry.Closed c.args.link) c.add.new.self c.self.invariant.0 c.add.ensures (omega arith) kept.moment
          (λ log is. rw n (open_low (length s.links.items) s.moment c.self.inside.told _ c.args.link (ap (λ v. v.told) c.self.view_is) c.requires.open c.self.invariant.0 log is)) (λ m. refl),
      played-one g.R.TameServer.step (cast_of c.self.inside.began.items) (record { stage = s; hosted = hosts }) (record { stage = c.close.new.self; hosted = hosts }) c.self.inside.told (entry.Closed c.args.link) c.add.new.self
          c.self.invariant.1 c.add.ensures (record { unmarked = refl; does = c.close.ensures; hosted = refl }),
    )
