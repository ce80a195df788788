use Rattle.std.proofs.Common.{◌≡◌, List, ap, subst, sym, ◌∙◌}
use Rattle.mx_base.specs.declared.names.LinkId.{LinkId}
use Rattle.mx_wire.specs.Log.{Log}
use Rattle.mx_wire.specs.declared.entry.Entry.TheVariants as entry
use Rattle.recording.specs.declared.entry.RecordEntry.{RecordEntry}
use Rattle.mem_wire.specs.declared.stage.Stage.{Stage}
use Rattle.mem_wire.specs.Adds.{late_entries, Calls}
use Rattle.mem_wire.specs.Refusals.{Knows}
use Rattle.mem_wire.specs.Steps.{next_link, Asks}
use Rattle.mem_wire.proofs.Telling.{tells, goes_on}
use Rattle.mem_wire.proofs.Courses.{within-asked, within-enters}
use Rattle.mem_wire.proofs.Links.{late_are}
use Rattle.mem_wire.proofs.Following.{may-open}
use Rattle.mem_wire.proofs.Entries.{follows-refused}
use Rattle.mem_wire.proofs.Arrivals.{opens-asked, follows-opened}
use Rattle.mem_wire.proofs.Results.{on_ok}
use Rattle.mem_wire.proofs.tape.TapeWire.open.Goals as goal

pub invariant_of-self-then-refused : goal.invariant_of-self-then-refused
invariant_of-self-then-refused c =
    let s = c.self.inside.stage in
    let mid = c.ask_open.new.stage in
    let entries = c.self.inside.entries.items in
    let asks = subst (λ (es : List RecordEntry). Asks es c.in-Ok.refused s mid) c.deref.ensures.value c.in-Ok.ensures.ok in
    goes_on _ s _ c.self.inside.told _ (late_entries s.late) (entry.OpenFailed c.args.server c.args.address) c.self.invariant
    (within-asked _ s _ c.self.invariant.within (ap {A = Stage} (λ t. record t { late = c.clear.new.self }) c.ask_open.ensures.frame)
    (subst (λ (es : List RecordEntry). Knows es mid.refusals) c.deref.ensures.value c.ask_open.ensures.knows))
    (subst (λ (marks : Log). Calls c.self.inside.told marks (entry.OpenFailed c.args.server c.args.address) c.add_call.new.told) (ap {A = Stage} (λ t. late_entries t.late) c.ask_open.ensures.frame) c.add_call.ensures)
    (λ log is follows. follows-refused _ s _ log c.args.server c.args.address follows (ap {A = Stage} (λ t. record t { late = c.clear.new.self }) asks.frame) c.clear.ensures (sym asks.is ∙ c.if-refused.true))

pub returns-then-refused-clause-told : goal.returns-then-refused-clause-told
returns-then-refused-clause-told c =
    let s = c.self.inside.stage in
    rw (← c.self.view_is) (tells c.self.inside.told (late_entries s.late) (entry.OpenFailed c.args.server c.args.address) _
    (subst (λ (marks : Log). Calls c.self.inside.told marks (entry.OpenFailed c.args.server c.args.address) c.add_call.new.told) (ap {A = Stage} (λ t. late_entries t.late) c.ask_open.ensures.frame) c.add_call.ensures)
    (late_are s.late) (λ log is. tt))

pub invariant_of-self-else-is_err : goal.invariant_of-self-else-is_err
invariant_of-self-else-is_err c =
    let s = c.self.inside.stage in
    let mid = c.ask_open.new.stage in
    let new = c.open.new.stage in
    let asks = subst (λ (es : List RecordEntry). Asks es c.in-Ok.refused s mid) c.deref.ensures.value c.in-Ok.ensures.ok in
    let right = sym c.is_err.ensures.value ∙ c.if-is_err.false in
    let opens = on_ok c.open.result _ right c.open.ensures.ok in
    let link : c.next_link-id.result ≡ next_link s = c.next_link-id.ensures ∙ ap {A = Stage} next_link c.ask_open.ensures.frame in
    goes_on _ s new c.self.inside.told _ (late_entries s.late) (entry.Opened c.args.server c.args.address (next_link s)) c.self.invariant
    (within-enters _ mid new (within-asked _ s mid c.self.invariant.within (c.ask_open.ensures.frame ∙ ap (λ late. record s { opens = mid.opens; refusals = mid.refusals; late = late }) (sym (ap {A = Stage} (λ t. t.late) c.ask_open.ensures.frame))) (subst (λ (es : List RecordEntry). Knows es mid.refusals) c.deref.ensures.value c.ask_open.ensures.knows))
    (ap (λ t. t.cut) opens.frame) (ap (λ t. t.last) opens.frame) (on_ok c.open.result _ right c.open.ensures.refusals))
    (subst (λ (l : LinkId). Calls c.self.inside.told (late_entries s.late) (entry.Opened c.args.server c.args.address l) c.add_call-2.new.told) link
    (subst (λ (marks : Log). Calls c.self.inside.told marks (entry.Opened c.args.server c.args.address c.next_link-id.result) c.add_call-2.new.told) (ap {A = Stage} (λ t. late_entries t.late) c.ask_open.ensures.frame) c.add_call-2.ensures))
    (λ log is follows. follows-opened _ s new log c.args.server c.args.address c.self.invariant.within follows (opens-asked s mid new c.ask_open.ensures.frame opens)
    (on_ok c.open.result _ right c.open.ensures.opens ∙ ap (λ t. t.opens) asks.frame) (sym asks.is ∙ c.if-refused.false))

pub returns-else-is_err-clause-told : goal.returns-else-is_err-clause-told
returns-else-is_err-clause-told c =
    let s = c.self.inside.stage in
    let link : c.next_link-id.result ≡ next_link s = c.next_link-id.ensures ∙ ap {A = Stage} next_link c.ask_open.ensures.frame in
    rw (← c.self.view_is) (tells c.self.inside.told (late_entries s.late) (entry.Opened c.args.server c.args.address c.next_link-id.result) _
    (subst (λ (marks : Log). Calls c.self.inside.told marks (entry.Opened c.args.server c.args.address c.next_link-id.result) c.add_call-2.new.told) (ap {A = Stage} (λ t. late_entries t.late) c.ask_open.ensures.frame) c.add_call-2.ensures)
    (late_are s.late) (λ log is.
    rw link (may-open _ s log (c.self.invariant.follows log is))))
