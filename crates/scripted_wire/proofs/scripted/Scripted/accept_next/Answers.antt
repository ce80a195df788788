use Rattle.std.proofs.Common.{◌≡◌, ◌+◌, ℕ, true, false, length, refl, ap, subst, arith}
use Rattle.mx_base.specs.declared.names.Port.TheVariants.{Traffic}
use Rattle.mx_wire.specs.declared.entry.Entry.TheVariants as entry
use Rattle.scripted_wire.specs.Plays.{cast_of}
use Rattle.scripted_wire.specs.Stages.{Accepts}
use Rattle.scripted_wire.specs.declared.stage.Stage.{Stage}
use Rattle.scripted_wire.proofs.Playing.{accepts-none, played-one}
use Rattle.scripted_wire.proofs.Sound.{is_below, is_new, sound_one, tells_one}
use Rattle.scripted_wire.proofs.Staged.{accepts_one}
use Rattle.scripted_wire.proofs.scripted.Scripted.accept_next.Goals as goal

pub invariant_of-self : goal.invariant_of-self
invariant_of-self g c =
    let s = c.self.inside.stage in
    let hosts = c.self.inside.hosts in
    let one = accepts_one c.in-Ok-true.field-0 s c.accept.new.self c.in-Ok-true.field-0-test c.in-Ok-true.ensures.ok in
    let n : length c.accept.new.self.links.items ≡ length s.links.items + 1 = one.size in
    let id : c.next_link-id.result.0 ≡ length s.links.items = c.next_link-id.ensures in
    let comes : Accepts true s c.accept.new.self = subst (λ came. Accepts came s c.accept.new.self) c.in-Ok-true.field-0-test c.in-Ok-true.ensures.ok in (
      sound_one (length s.links.items) s.moment (length c.accept.new.self.links.items) c.accept.new.self.moment c.self.inside.told (entry.Accepted Traffic c.next_link-id.result c.salt_of-salt.result) c.add.new.self c.self.invariant.0 c.add.ensures (omega arith) one.moment
          (λ log is. is_below c.next_link-id.result.0 (length c.accept.new.self.links.items) (omega arith)) (λ m. refl),
      played-one g.R.TameServer.step (cast_of c.self.inside.began.items) (record { stage = s; hosted = hosts }) (record { stage = c.accept.new.self; hosted = hosts }) c.self.inside.told (entry.Accepted Traffic c.next_link-id.result c.salt_of-salt.result) c.add.new.self
          c.self.invariant.1 c.add.ensures (record { unmarked = refl; does = record { next = id; comes = comes }; hosted = refl }),
    )

pub invariant_of-self-in-Ok-false : goal.invariant_of-self-in-Ok-false
invariant_of-self-in-Ok-false g c =
    let s = c.self.inside.stage in
    let new = c.accept.new.self in
    let hosts = c.self.inside.hosts in
    let same : new ≡ s = accepts-none c.in-Ok-false.field-0 s new c.in-Ok-false.field-0-test c.in-Ok-false.ensures.ok in
    let n : length new.links.items ≡ length s.links.items = ap {A = Stage} {B = ℕ} (λ t. length t.links.items) same in
    let m : new.moment ≡ s.moment = ap {A = Stage} {B = ℕ} (λ t. t.moment) same in
    let none : Accepts false s new = subst (λ came. Accepts came s new) c.in-Ok-false.field-0-test c.in-Ok-false.ensures.ok in (
      sound_one (length s.links.items) s.moment (length new.links.items) new.moment c.self.inside.told (entry.AcceptNothing Traffic) c.add-in-Ok-false.new.self c.self.invariant.0 c.add-in-Ok-false.ensures (omega arith) m (λ log is. refl) (λ k. refl),
      played-one g.R.TameServer.step (cast_of c.self.inside.began.items) (record { stage = s; hosted = hosts }) (record { stage = new; hosted = hosts }) c.self.inside.told (entry.AcceptNothing Traffic) c.add-in-Ok-false.new.self
          c.self.invariant.1 c.add-in-Ok-false.ensures (record { unmarked = refl; does = none; hosted = refl }),
    )

pub returns-in-Ok-true-clause-told : goal.returns-in-Ok-true-clause-told
returns-in-Ok-true-clause-told g c =
    let s = c.self.inside.stage in
    rw (← c.self.view_is) (tells_one c.self.inside.told (entry.Accepted Traffic c.next_link-id.result c.salt_of-salt.result) c.add.new.self c.add.ensures
    (λ log is. record { fresh = is_new (length s.links.items) s.moment c.self.inside.told c.next_link-id.result c.next_link-id.ensures c.self.invariant.0 log is; salted = c.salt_of-salt.ensures.salted }))
