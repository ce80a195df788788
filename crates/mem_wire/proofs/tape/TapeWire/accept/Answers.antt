use Rattle.std.proofs.Common.{refl, ap, sym, ◌∙◌, ◌++◌}
use Rattle.mx_wire.specs.declared.entry.Entry.TheVariants as entry
use Rattle.mem_wire.specs.Adds.{late_entries}
use Rattle.mem_wire.proofs.Telling.{tells, goes_on}
use Rattle.mem_wire.proofs.Courses.{within-moves, within-enters}
use Rattle.mem_wire.proofs.Links.{late_are}
use Rattle.mem_wire.proofs.Following.{new-link, salt-next}
use Rattle.mem_wire.proofs.Standing.{client-is}
use Rattle.mem_wire.proofs.Entries.{tape-stays}
use Rattle.mem_wire.proofs.Arrivals.{follows-accepted}
use Rattle.std.proofs.lemmas.Option.{slice_get_within}
use Rattle.mem_wire.proofs.Results.{on_ok}
use Rattle.mem_wire.proofs.tape.TapeWire.accept.Goals as goal

pub invariant_of-self : goal.invariant_of-self
invariant_of-self c =
    let s = c.self.inside.stage in
    tape-stays _ s _ c.self.inside.told _ (entry.AcceptNothing c.args.port) c.self.invariant
    (within-moves _ s _ c.self.invariant.within refl) (record { frame = refl; late = c.clear.ensures })
    c.add_call.ensures (λ log is follows. refl) (λ m. refl)
    (record { woke = refl; accepted = λ port. refl; opened = refl; known = λ recording log. refl; named = λ links. refl; got = refl; open_is = λ was. refl; told = λ was. refl; blocked = λ was. refl; wrote = refl }) (record { call = record { unmarked = refl; judge = λ log call. call }; due = λ log. refl }) refl (λ log follows stands. client-is _ s (log ++ late_entries s.late) c.args.port stands ∙ sym c.next_client.ensures ∙ c.in_default.is) (λ log follows. follows.turns)

pub returns-in_default-clause-told : goal.returns-in_default-clause-told
returns-in_default-clause-told c =
    let late = c.self.inside.stage.late in
    rw (← c.self.view_is) (tells c.self.inside.told (late_entries late) _ _ c.add_call.ensures (late_are late) (λ log is. tt))

pub accept-requires : goal.accept-requires
accept-requires c = slice_get_within _ _ c.in-Some.client (sym c.next_client.ensures ∙ c.in-Some.is)

pub invariant_of-self-else-is_err : goal.invariant_of-self-else-is_err
invariant_of-self-else-is_err c =
    let s = c.self.inside.stage in
    let accepts = on_ok c.accept.result _ (sym c.is_err.ensures.value ∙ c.if-is_err.false) c.accept.ensures.ok in
    goes_on _ s c.accept.new.stage c.self.inside.told _ (late_entries s.late) _ c.self.invariant
    (within-enters _ s c.accept.new.stage c.self.invariant.within (ap (λ t. t.cut) accepts.frame) (ap (λ t. t.last) accepts.frame) (ap (λ t. t.refusals) accepts.frame))
    (rw c.next_link-id.ensures at c.add_call-2.ensures)
    (λ log is follows. follows-accepted _ s c.accept.new.stage log c.args.port c.in-Some.client c.self.invariant.within follows (sym c.next_client.ensures ∙ c.in-Some.is) accepts)

pub returns-else-is_err-clause-told : goal.returns-else-is_err-clause-told
returns-else-is_err-clause-told c =
    let s = c.self.inside.stage in
    rw (← c.self.view_is) (tells c.self.inside.told (late_entries s.late) _ _ c.add_call-2.ensures (late_are s.late) (λ log is.
    let follows = c.self.invariant.follows log is in
    record {
      fresh = rw c.next_link-id.ensures (new-link _ s log follows);
      salted = salt-next _ s log c.args.port c.in-Some.client follows (sym c.next_client.ensures ∙ c.in-Some.is);
    }))
