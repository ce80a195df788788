use Rattle.std.proofs.Common.{length, refl}
use Rattle.mx_base.specs.declared.names.Port.TheVariants.{Admin}
use Rattle.mx_wire.specs.declared.entry.Entry.TheVariants as entry
use Rattle.scripted_wire.specs.Plays.{cast_of}
use Rattle.scripted_wire.proofs.Playing.{calm}
use Rattle.scripted_wire.proofs.scripted.ScriptedWire.accept.Goals as goal

pub invariant_of-self : goal.invariant_of-self
invariant_of-self g c =
    let s = c.self.inside.stage in
    calm g.R.TameServer.step (cast_of c.self.inside.began.items) (record { stage = s; hosted = c.self.inside.hosts }) (length s.links.items) s.moment c.self.inside.told (entry.AcceptFailed c.args.port) c.add.new.self c.self.invariant c.add.ensures
    refl (λ m. refl) (record { unmarked = refl; does = refl; hosted = refl })

pub invariant_of-self-in-Admin : goal.invariant_of-self-in-Admin
invariant_of-self-in-Admin g c =
    let s = c.self.inside.stage in
    calm g.R.TameServer.step (cast_of c.self.inside.began.items) (record { stage = s; hosted = c.self.inside.hosts }) (length s.links.items) s.moment c.self.inside.told (entry.AcceptNothing Admin) c.add-in-Admin.new.self c.self.invariant c.add-in-Admin.ensures
    refl (λ m. refl) (record { unmarked = refl; does = refl; hosted = refl })
