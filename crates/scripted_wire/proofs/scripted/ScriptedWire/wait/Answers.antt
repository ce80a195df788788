use Rattle.std.proofs.Common.{◌≡◌, ◌≤◌, ◌∙◌, ℕ, Bool, true, false, length, refl, sym, ap, subst, arith}
use Rattle.std.specs.Prelude.{◌&&◌, not}
use Rattle.mx_wire.specs.Log.{Log}
use Rattle.mx_wire.specs.declared.entry.Entry.TheVariants as entry
use Rattle.server_rule.specs.Servers.{Step}
use Rattle.scripted_wire.specs.Plays.{AreServed, Ends, Scene, cast_of}
use Rattle.scripted_wire.specs.Stages.{is_over}
use Rattle.scripted_wire.specs.declared.stage.Stage.{Stage}
use Rattle.scripted_wire.proofs.Playing.{calm, played-wait}
use Rattle.scripted_wire.proofs.Sound.{Calls, later_than, stays_sound, tells}
use Rattle.scripted_wire.proofs.scripted.ScriptedWire.wait.Goals as goal

ends-so : (step : Step) (old new : Scene) (marks : Log) (worked over : Bool) → true ≡ (not worked && over) → over ≡ is_over new.stage → AreServed step old marks worked new.stage new.hosted → Ends step old marks new
ends-so step old new marks false over done is served = record { served = served; over = sym (done ∙ is) }
ends-so step old new marks true over done is served = absurd (cc)

pub invariant_of-self : goal.invariant_of-self
invariant_of-self g c =
    let s = c.self.inside.stage in
    calm g.R.TameServer.step (cast_of c.self.inside.began.items) (record { stage = s; hosted = c.self.inside.hosts }) (length s.links.items) s.moment c.self.inside.told entry.WaitFailed c.add.new.self c.self.invariant c.add.ensures
    refl (λ m. refl) (record { unmarked = refl; does = refl; hosted = refl })

pub invariant_of-self-then-is_done : goal.invariant_of-self-then-is_done
invariant_of-self-then-is_done g c =
    let s = c.self.inside.stage in
    let hosts = c.self.inside.hosts in
    let new = c.serve.new.self in
    let n : length new.links.items ≡ length s.links.items = c.serve.ensures.kept.size in
    let m : new.moment ≡ s.moment = c.serve.ensures.kept.moment in
    let all = c.in-Ok.ensures.served in
    let later : Scene = record { stage = new; hosted = c.serve.new.hosts } in (
      stays_sound (length s.links.items) s.moment (length new.links.items) new.moment c.self.inside.told entry.Over c.add-then-is_done.new.self c.self.invariant.0
          (record { mid = c.serve.new.told; marks = c.in-Ok.ensures.marks; one = c.add-then-is_done.ensures }) (omega arith) (omega arith) (λ log is. refl) (λ k le. omega arith),
      played-wait g.R.TameServer.step (cast_of c.self.inside.began.items) (record { stage = s; hosted = hosts }) later c.self.inside.told c.serve.new.told all.marks entry.Over c.add-then-is_done.new.self
          c.self.invariant.1 all.adds c.add-then-is_done.ensures
          (ends-so g.R.TameServer.step (record { stage = s; hosted = hosts }) later all.marks c.in-Ok.worked (is_over new) (sym c.if-is_done.true ∙ c.is_done.ensures) refl (record { frame = all.frame; is = all.is })),
    )

pub invariant_of-self-2 : goal.invariant_of-self-2
invariant_of-self-2 g c =
    let s = c.self.inside.stage in
    let hosts = c.self.inside.hosts in
    let mid = c.serve.new.self in
    let new = c.wake.new.self in
    let n : length mid.links.items ≡ length s.links.items = c.serve.ensures.kept.size in
    let m : mid.moment ≡ s.moment = c.serve.ensures.kept.moment in
    let on : mid.moment ≤ new.moment = c.wake.ensures.later in
    let k : length new.links.items ≡ length mid.links.items = ap {A = Stage} {B = ℕ} (λ t. length t.links.items) c.wake.ensures.next in
    let all = c.in-Ok.ensures.served in (
      stays_sound (length s.links.items) s.moment (length new.links.items) new.moment c.self.inside.told (entry.Woke c.args.until_ms new.moment) c.add-2.new.self c.self.invariant.0
          (record { mid = c.serve.new.told; marks = c.in-Ok.ensures.marks; one = c.add-2.ensures }) (omega arith) (omega arith) (λ log is. refl) (λ b le. omega arith),
      played-wait g.R.TameServer.step (cast_of c.self.inside.began.items) (record { stage = s; hosted = hosts }) (record { stage = new; hosted = c.serve.new.hosts }) c.self.inside.told c.serve.new.told all.marks
          (entry.Woke c.args.until_ms new.moment) c.add-2.new.self c.self.invariant.1 all.adds c.add-2.ensures
          (record { worked = c.in-Ok.worked; stage = mid; served = record { frame = all.frame; is = all.is }; wakes = c.wake.ensures.next }),
    )

pub returns-clause-told : goal.returns-clause-told
returns-clause-told g c =
    let s = c.self.inside.stage in
    let call : Calls (length s.links.items) c.self.inside.told (entry.Woke c.args.until_ms c.wake.new.self.moment) c.add-2.new.self = record { mid = c.serve.new.told; marks = c.in-Ok.ensures.marks; one = c.add-2.ensures } in
    let m : c.serve.new.self.moment ≡ s.moment = c.serve.ensures.kept.moment in
    let on : c.serve.new.self.moment ≤ c.wake.new.self.moment = c.wake.ensures.later in
    rw (← c.self.view_is) (tells (length s.links.items) c.self.inside.told _ c.add-2.new.self call
    (λ log is. later_than (length s.links.items) s.moment c.self.inside.told call.marks.marks log call.marks.are c.self.invariant.0 is c.wake.new.self.moment (omega arith)))
