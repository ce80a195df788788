use Rattle.std.specs.Prelude.{Option}
use Rattle.std.proofs.Common.{subst, sym, ◌∙◌}
use Rattle.core_promises.specs.Ruled.{book_of}
use Rattle.core_service.specs.Serves.{rules_in}
use Rattle.core_turns.specs.Administering.{administered, ruling_by}
use Rattle.core_tables.specs.Tables.{tables_of}
use Rattle.core_texts.specs.Texts.{key_at}
use Rattle.core_turns.specs.Turned.{HasGoneFurther}
use Rattle.core_turns.specs.declared.turn.Stop.{Stop}
use Rattle.core_turns.proofs.Partings.{begins, gone-leaves, gone-so, goes-on}
use Rattle.core_turns.proofs.onward.go_on.Goals as goal

pub returns-in-Some-clause-is : goal.returns-in-Some-clause-is
returns-in-Some-clause-is c =
    gone-so (book_of c.args.service.now) c.args.service.now.setup c.args.service.now.default_schema c.args.client c.in-Some.stop c.args.texts.now c.turns.texts c.go_further.new.texts (administered (rules_in c.args.service.now) c.args.admin.now) (administered (rules_in c.args.service.now) c.turns.admin) (administered (rules_in c.args.service.now) c.go_further.new.admin) c.args.marked.now c.turns.marked c.go_further.new.marked
    (sym c.is_away.ensures ∙ c.if-is_away.false) c.turns.invariant c.in_ok-stop.ensures.more
    (subst (λ (o : Option Stop). HasGoneFurther o (ruling_by c.args.service.now c.go_further.new.texts c.turns.admin c.go_further.new.admin) c.args.service.now.setup c.args.service.now.default_schema c.args.client (tables_of c.turns.marked.tables)
    (tables_of c.go_further.new.marked.tables)) c.in-Some.is c.in_ok-stop.ensures.is)

pub turns-preserved : goal.turns-preserved
turns-preserved c =
    goes-on (book_of c.args.service.now) c.args.service.now.setup c.args.service.now.default_schema c.args.client c.args.texts.now c.turns.texts c.go_further.new.texts (administered (rules_in c.args.service.now) c.args.admin.now) (administered (rules_in c.args.service.now) c.turns.admin) (administered (rules_in c.args.service.now) c.go_further.new.admin) c.args.marked.now c.turns.marked c.go_further.new.marked
    c.turns.invariant
    (subst (λ (o : Option Stop). HasGoneFurther o (ruling_by c.args.service.now c.go_further.new.texts c.turns.admin c.go_further.new.admin) c.args.service.now.setup c.args.service.now.default_schema c.args.client (tables_of c.turns.marked.tables)
    (tables_of c.go_further.new.marked.tables)) c.in_default.is c.in_ok-stop.ensures.is) c.in_ok-stop.ensures.goes c.in_ok-stop.ensures.more

pub turns-init : goal.turns-init
turns-init c =
    begins (book_of c.args.service.now) c.args.service.now.setup c.args.service.now.default_schema c.args.client c.args.texts.now (administered (rules_in c.args.service.now) c.args.admin.now) c.args.marked.now
    (sym c.is_away.ensures ∙ c.if-is_away.false)

pub returns-in-Some-clause-leaves : goal.returns-in-Some-clause-leaves
returns-in-Some-clause-leaves c =
    gone-leaves (book_of c.args.service.now) c.args.service.now.setup c.args.service.now.default_schema c.args.client c.go_further.new.texts (administered (rules_in c.args.service.now) c.args.admin.now) (administered (rules_in c.args.service.now) c.go_further.new.admin) c.in-Some.stop
    (tables_of c.args.marked.now.tables) (tables_of c.go_further.new.marked.tables)
    (gone-so (book_of c.args.service.now) c.args.service.now.setup c.args.service.now.default_schema c.args.client c.in-Some.stop c.args.texts.now c.turns.texts c.go_further.new.texts (administered (rules_in c.args.service.now) c.args.admin.now) (administered (rules_in c.args.service.now) c.turns.admin) (administered (rules_in c.args.service.now) c.go_further.new.admin) c.args.marked.now c.turns.marked c.go_further.new.marked
    (sym c.is_away.ensures ∙ c.if-is_away.false) c.turns.invariant c.in_ok-stop.ensures.more
    (subst (λ (o : Option Stop). HasGoneFurther o (ruling_by c.args.service.now c.go_further.new.texts c.turns.admin c.go_further.new.admin) c.args.service.now.setup c.args.service.now.default_schema c.args.client (tables_of c.turns.marked.tables)
    (tables_of c.go_further.new.marked.tables)) c.in-Some.is c.in_ok-stop.ensures.is))
