use Rattle.std.specs.Prelude.{◌≡◌, false, Bool, List, ℕ}
use Rattle.std.proofs.Common.{refl, sym, subst, ◌∙◌}
use Rattle.std.proofs.lemmas.Result.{IfOk-weaker, on_ok_weaker}
use Rattle.client_seat.specs.declared.next.Next.{Next}
use Rattle.client_seat.specs.declared.next.Next.TheVariants as next
use Rattle.core_tables.specs.Arrivals.{IsUpIn, looked, next_of}
use Rattle.core_tables.specs.Tables.{IsSame, Tabled, tables_of}
use Rattle.marked_tables.proofs.Going.{goes_along}
use Rattle.core_turns.specs.Administering.{ruling_by}
use Rattle.core_turns.specs.Turned.{IsLookable}
use Rattle.core_turns.proofs.Turning.{ends-there, looked-some, rests-there, taken-next, there-of, up-there}
use Rattle.core_turns.proofs.taking.take_there.Goals as goal

pub returns-in-Nothing-clause-is : goal.returns-in-Nothing-clause-is
returns-in-Nothing-clause-is c =
    let old : Tabled = tables_of c.args.marked.now.tables in
    let between : Tabled = tables_of c.look.new.self.tables in
    let at = there-of (old.clients c.args.client) c.requires.there in
    let able : IsLookable false at.0 = subst (λ (b : Bool). IsLookable b at.0) c.if-branch.false (c.in_ok-waits.ensures at.0 at.1) in
    let same : IsSame between (looked c.args.service.now.setup c.args.service.now.default_schema c.args.client old) =
    subst (λ (d : List ℕ). IsSame between (looked c.args.service.now.setup d c.args.client old)) c.as_slice.ensures c.in_ok-look.ensures.is in
    let said : next.Nothing ≡ next_of c.args.service.now.setup c.args.service.now.default_schema (old.clients c.args.client) =
    subst (λ (d : List ℕ). next.Nothing ≡ next_of c.args.service.now.setup d (old.clients c.args.client)) c.as_slice.ensures
    (sym c.in-Nothing.is ∙ c.in_ok-look.ensures.next) in
    (rests-there c.args.service.now.setup c.args.service.now.default_schema c.args.client old between at.0 at.1 same able said, refl)

pub returns-in-Ended-clause-is : goal.returns-in-Ended-clause-is
returns-in-Ended-clause-is c =
    let old : Tabled = tables_of c.args.marked.now.tables in
    let between : Tabled = tables_of c.look.new.self.tables in
    let at = there-of (old.clients c.args.client) c.requires.there in
    let able : IsLookable false at.0 = subst (λ (b : Bool). IsLookable b at.0) c.if-branch.false (c.in_ok-waits.ensures at.0 at.1) in
    let same : IsSame between (looked c.args.service.now.setup c.args.service.now.default_schema c.args.client old) =
    subst (λ (d : List ℕ). IsSame between (looked c.args.service.now.setup d c.args.client old)) c.as_slice.ensures c.in_ok-look.ensures.is in
    let said : next.Ended ≡ next_of c.args.service.now.setup c.args.service.now.default_schema (old.clients c.args.client) =
    subst (λ (d : List ℕ). next.Ended ≡ next_of c.args.service.now.setup d (old.clients c.args.client)) c.as_slice.ensures
    (sym c.in-Ended.is ∙ c.in_ok-look.ensures.next) in
    (ends-there c.args.service.now.setup c.args.service.now.default_schema c.args.client old between at.0 at.1 same able said, refl)

pub returns-in-Message-clause-is : goal.returns-in-Message-clause-is
returns-in-Message-clause-is c =
    let old : Tabled = tables_of c.args.marked.now.tables in
    let between : Tabled = tables_of c.look.new.self.tables in
    let at = there-of (old.clients c.args.client) c.requires.there in
    let able : IsLookable false at.0 = subst (λ (b : Bool). IsLookable b at.0) c.if-branch.false (c.in_ok-waits.ensures at.0 at.1) in
    let same : IsSame between (looked c.args.service.now.setup c.args.service.now.default_schema c.args.client old) =
    subst (λ (d : List ℕ). IsSame between (looked c.args.service.now.setup d c.args.client old)) c.as_slice.ensures c.in_ok-look.ensures.is in
    let said : next.Message c.in-Message.ordinal ≡ next_of c.args.service.now.setup c.args.service.now.default_schema (old.clients c.args.client) =
    subst (λ (d : List ℕ). next.Message c.in-Message.ordinal ≡ next_of c.args.service.now.setup d (old.clients c.args.client)) c.as_slice.ensures
    (sym c.in-Message.is ∙ c.in_ok-look.ensures.next) in
    let up : IsUpIn (next.Message c.in-Message.ordinal) (between.clients c.args.client) =
    subst (λ (n : Next). IsUpIn n (between.clients c.args.client)) c.in-Message.is c.in_ok-look.ensures.up in
    IfOk-weaker c.take_up.result _ _
    (λ turned taken. taken-next c.args.service.now.setup c.args.service.now.default_schema c.args.client old between at.0 at.1 same (ruling_by c.args.service.now c.take_up.new.texts c.args.admin.now c.take_up.new.admin) c.in-Message.ordinal turned _
    able said up taken) c.take_up.ensures.is

pub returns-in-Message-clause-goes : goal.returns-in-Message-clause-goes
returns-in-Message-clause-goes c = on_ok_weaker c.take_up.result
    (λ goes. goes_along c.args.marked.now c.look.new.self c.take_up.new.marked c.in_ok-look.ensures.goes goes) c.take_up.ensures.goes

pub take_up-requires : goal.take_up-requires
take_up-requires c =
    let old : Tabled = tables_of c.args.marked.now.tables in
    let between : Tabled = tables_of c.look.new.self.tables in
    let up : IsUpIn (next.Message c.in-Message.ordinal) (between.clients c.args.client) =
    subst (λ (n : Next). IsUpIn n (between.clients c.args.client)) c.in-Message.is c.in_ok-look.ensures.up in
    record { up = up-there c.in-Message.ordinal (between.clients c.args.client) (looked-some c.args.service.now.setup c.as_slice.result.now c.args.client old between c.requires.there c.in_ok-look.ensures.is) up }
