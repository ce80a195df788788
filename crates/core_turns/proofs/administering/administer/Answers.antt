use Rattle.std.specs.Prelude.{◌≡◌, ℕ, Bool, List, []}
use Rattle.std.proofs.Common.{subst, sym}
use Rattle.core_promises.specs.Administers.{IsAdminAnswer}
use Rattle.core_service.specs.Serves.{rules_in}
use Rattle.core_tables.specs.Tables.{tables_of}
use Rattle.core_turns.specs.Administering.{IsWritten, IsWrittenAs, administered}
use Rattle.core_turns.proofs.Administered.{by, quits-at, told-up}
use Rattle.core_turns.proofs.administering.administer.Goals as goal

pub returns-then-branch-clause-is : goal.returns-then-branch-clause-is
returns-then-branch-clause-is c =
    let said : c.as_slice.result.now ≡ c.append_reply.new.out.items = cc in
    let was = administered (rules_in c.args.service.now) c.args.admin.now in
    let is = administered (rules_in c.args.service.now) c.append_reply.new.admin in
    λ book since keys ordinal. told-up (by book since keys was is) c.args.client (tables_of c.args.marked.now.tables) (tables_of c.tell.new.marked.tables)
    c.as_slice.result.now c.requires.port
    (λ row there message found.
    subst (λ (packets : List ℕ). IsWrittenAs (IsAdminAnswer message.payload was is) row.desk.seat.first [] packets) (sym said)
    (subst (λ (before : List ℕ). IsWrittenAs (IsAdminAnswer message.payload was is) row.desk.seat.first before c.append_reply.new.out.items) c.new-packets.ensures.items
    (subst (λ (answered : Bool). IsWritten answered message.payload was is row.desk.seat.first c.new-packets.result.items c.append_reply.new.out.items) c.if-branch.true
    (c.in_ok-append_reply.ensures row there message found))))
    (c.in_ok-tell.ensures.is (by book since keys was is))

pub returns-clause-is : goal.returns-clause-is
returns-clause-is c =
    let was = administered (rules_in c.args.service.now) c.args.admin.now in
    let is = administered (rules_in c.args.service.now) c.append_reply.new.admin in
    λ book since keys ordinal row there message found.
    let quits = subst (λ (answered : Bool). IsWritten answered message.payload was is row.desk.seat.first c.new-packets.result.items c.append_reply.new.out.items)
    c.if-branch.false (c.in_ok-append_reply.ensures row there message found) in (quits-at message (tables_of c.args.marked.now.tables) quits.0, quits.1)
