use Rattle.std.proofs.Common.{◌≡◌, ◌<◌, ℕ, length, refl, ap, arith}
use Rattle.mx_wire.specs.declared.entry.Entry.TheVariants as entry
use Rattle.scripted_wire.specs.Plays.{cast_of}
use Rattle.scripted_wire.specs.declared.stage.Stage.{Stage}
use Rattle.scripted_wire.proofs.Playing.{played-one}
use Rattle.scripted_wire.proofs.Sound.{is_below, sound_one}
use Rattle.scripted_wire.proofs.scripted.ScriptedWire.next_ready.Goals as goal

pub invariant_of-self : goal.invariant_of-self
invariant_of-self g c =
    let s = c.self.inside.stage in
    let new = c.name.new.self in
    let hosts = c.self.inside.hosts in
    let n : length new.links.items ≡ length s.links.items = ap {A = Stage} {B = ℕ} (λ t. length t.links.items) c.name.ensures.frame in
    let m : new.moment ≡ s.moment = ap {A = Stage} {B = ℕ} (λ t. t.moment) c.name.ensures.frame in
    let low : c.in-Some.link.0 < length s.links.items = c.in-Some.ensures.bound in (
      sound_one (length s.links.items) s.moment (length new.links.items) new.moment c.self.inside.told (entry.Named c.in-Some.link) c.add.new.self c.self.invariant.0 c.add.ensures (omega arith) m
          (λ log is. is_below c.in-Some.link.0 (length new.links.items) (omega arith)) (λ k. refl),
      played-one g.R.TameServer.step (cast_of c.self.inside.began.items) (record { stage = s; hosted = hosts }) (record { stage = new; hosted = hosts }) c.self.inside.told (entry.Named c.in-Some.link) c.add.new.self
          c.self.invariant.1 c.add.ensures (record { unmarked = refl; does = record { is = c.in-Some.ensures.named; frame = c.name.ensures.frame }; hosted = refl }),
    )

pub invariant_of-self-in-None : goal.invariant_of-self-in-None
invariant_of-self-in-None g c =
    let s = c.self.inside.stage in
    let new = c.name.new.self in
    let hosts = c.self.inside.hosts in
    let n : length new.links.items ≡ length s.links.items = ap {A = Stage} {B = ℕ} (λ t. length t.links.items) c.name.ensures.frame in
    let m : new.moment ≡ s.moment = ap {A = Stage} {B = ℕ} (λ t. t.moment) c.name.ensures.frame in (
      sound_one (length s.links.items) s.moment (length new.links.items) new.moment c.self.inside.told entry.NoneNamed c.add-in-None.new.self c.self.invariant.0 c.add-in-None.ensures (omega arith) m (λ log is. refl) (λ k. refl),
      played-one g.R.TameServer.step (cast_of c.self.inside.began.items) (record { stage = s; hosted = hosts }) (record { stage = new; hosted = hosts }) c.self.inside.told entry.NoneNamed c.add-in-None.new.self
          c.self.invariant.1 c.add-in-None.ensures (record { unmarked = refl; does = record { is = c.in-None.ensures.named; frame = c.name.ensures.frame }; hosted = refl }),
    )
