use Rattle.std.proofs.Common.{◌≡◌, ◌+◌, length, refl, sym, arith}
use Rattle.mx_wire.specs.declared.entry.Entry.TheVariants as entry
use Rattle.scripted_wire.specs.Plays.{cast_of}
use Rattle.scripted_wire.proofs.Playing.{played-one}
use Rattle.scripted_wire.proofs.Sound.{is_below, may_open, sound_one, tells_one}
use Rattle.scripted_wire.proofs.Staged.{opens_one}
use Rattle.scripted_wire.proofs.scripted.Scripted.open_to.Goals as goal

pub invariant_of-self : goal.invariant_of-self
invariant_of-self g c =
    let s = c.self.inside.stage in
    let hosts = c.self.inside.hosts in
    let one = opens_one c.in-Some.at s c.open.new.self c.in-Ok.ensures.ok in
    let n : length c.open.new.self.links.items ≡ length s.links.items + 1 = one.size in
    let id : c.next_link-id.result.0 ≡ length s.links.items = c.next_link-id.ensures in (
      sound_one (length s.links.items) s.moment (length c.open.new.self.links.items) c.open.new.self.moment c.self.inside.told (entry.Opened c.args.server c.args.address c.next_link-id.result) c.add.new.self c.self.invariant.0 c.add.ensures (omega arith) one.moment
          (λ log is. is_below c.next_link-id.result.0 (length c.open.new.self.links.items) (omega arith)) (λ m. refl),
      played-one g.R.TameServer.step (cast_of c.self.inside.began.items) (record { stage = s; hosted = hosts }) (record { stage = c.open.new.self; hosted = hosts }) c.self.inside.told (entry.Opened c.args.server c.args.address c.next_link-id.result) c.add.new.self
          c.self.invariant.1 c.add.ensures (record { unmarked = refl; does = record { next = id; at = c.in-Some.at; place = sym c.in-Some.ensures; opens = c.in-Ok.ensures.ok }; hosted = refl }),
    )

pub returns-in-Ok-clause-told : goal.returns-in-Ok-clause-told
returns-in-Ok-clause-told g c =
    let s = c.self.inside.stage in
    rw (← c.self.view_is) (tells_one c.self.inside.told (entry.Opened c.args.server c.args.address c.next_link-id.result) c.add.new.self c.add.ensures
    (λ log is. may_open (length s.links.items) s.moment c.self.inside.told c.next_link-id.result c.next_link-id.ensures c.self.invariant.0 log is))
