use Rattle.std.proofs.Common.{◌≡◌, length, refl, ap, arith}
use Rattle.mx_wire.specs.Answers.{got_entry}
use Rattle.mx_wire.specs.declared.entry.Entry.TheVariants as entry
use Rattle.scripted_wire.specs.Links.{read_on}
use Rattle.scripted_wire.specs.Plays.{cast_of}
use Rattle.scripted_wire.proofs.Playing.{played-if, played-one, read-turn}
use Rattle.scripted_wire.proofs.Sound.{open_low, sound_one, sound_if}
use Rattle.scripted_wire.proofs.Reading.{got_idle, got_link}
use Rattle.scripted_wire.proofs.Staged.{changes_keep}
use Rattle.scripted_wire.proofs.scripted.ScriptedWire.read.Goals as goal

pub invariant_of-self : goal.invariant_of-self
invariant_of-self g c =
    let s = c.self.inside.stage in
    let hosts = c.self.inside.hosts in (
      sound_one (length s.links.items) s.moment (length s.links.items) s.moment c.self.inside.told (entry.ReadFailed c.args.link) c.add.new.self c.self.invariant.0 c.add.ensures (omega arith) refl
          (λ log is. open_low (length s.links.items) s.moment c.self.inside.told _ c.args.link (ap (λ v. v.told) c.self.view_is) c.requires.open c.self.invariant.0 log is) (λ m. refl),
      played-one g.R.TameServer.step (cast_of c.self.inside.began.items) (record { stage = s; hosted = hosts }) (record { stage = s; hosted = hosts }) c.self.inside.told (entry.ReadFailed c.args.link) c.add.new.self
          c.self.invariant.1 c.add.ensures (record { unmarked = refl; does = refl; hosted = refl }),
    )

pub invariant_of-self-2 : goal.invariant_of-self-2
invariant_of-self-2 g c =
    let s = c.self.inside.stage in
    let hosts = c.self.inside.hosts in
    let got = c.read-got.result in
    let into = c.read-got.new.into in
    let new = c.read-got.new.self in
    let kept = changes_keep (read_on got) c.args.link.0 s new c.read-got.ensures.after in
    let n : length new.links.items ≡ length s.links.items = kept.size in (
      sound_if (length s.links.items) s.moment (length new.links.items) new.moment c.self.inside.told c.read_entry.result (got_entry c.args.link into got) c.add_if.new.self c.self.invariant.0 c.add_if.ensures c.read_entry.ensures (omega arith) kept.moment
          (λ log is. rw (n, got_link c.args.link into got) (open_low (length s.links.items) s.moment c.self.inside.told _ c.args.link (ap (λ v. v.told) c.self.view_is) c.requires.open c.self.invariant.0 log is)) (got_idle c.args.link into got),
      played-if g.R.TameServer.step (cast_of c.self.inside.began.items) (record { stage = s; hosted = hosts }) (record { stage = new; hosted = hosts }) c.self.inside.told c.read_entry.result (got_entry c.args.link into got) c.add_if.new.self
          c.self.invariant.1 c.add_if.ensures c.read_entry.ensures (read-turn g.R.TameServer.step c.args.link c.args.into.now into got s new hosts c.read-got.ensures.reads c.read-got.ensures.after c.read-got.ensures.right),
    )
