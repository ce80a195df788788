use Rattle.std.proofs.Common.{sym, ◌∙◌, ap, codes}
use Rattle.session_vars.specs.Transactions.{mode_changes}
use Rattle.session_vars.proofs.Dispatch.{ok_is, mode_alone, scope_no_symbol, scope_outside, scoped_alone}
use Rattle.session_vars.proofs.LastTokens.{first_says}
use Rattle.session_vars.proofs.read.scoped_changes.Goals as goal

pub returns-then-says_there-clause-changes : goal.returns-then-says_there-clause-changes
returns-then-says_there-clause-changes c =
    let left = c.next-scope.new.self.left in
    let rest = c.next-transaction.new.self.left in
    let alone = mode_alone c.args.text.now c.args.tokens.now.left left rest c.next-scope.result c.next-transaction.result c.requires.scope c.next-scope.ensures.token (sym (first_says c.args.text.now left c.first.result (codes "TRANSACTION") c.first.ensures) ∙ sym c.says_there.ensures ∙ c.if-says_there.true) c.next-transaction.ensures.token in
    ok_is c.mode_changes.result _ _ (ap mode_changes c.mode_of.ensures.mode ∙ sym alone) c.mode_changes.ensures

pub returns-else-says_there-clause-changes : goal.returns-else-says_there-clause-changes
returns-else-says_there-clause-changes c = scoped_alone c.args.text.now c.args.tokens.now.left c.next-scope.new.self.left c.next-scope.result c.assignments.result c.requires.scope c.next-scope.ensures.token (sym (first_says c.args.text.now c.next-scope.new.self.left c.first.result (codes "TRANSACTION") c.first.ensures) ∙ sym c.says_there.ensures ∙ c.if-says_there.false) c.assignments.ensures.changes

pub assignments-requires-clause-taken : goal.assignments-requires-clause-taken
assignments-requires-clause-taken c = scope_no_symbol c.args.text.now c.args.tokens.now.left c.next-scope.new.self.left c.next-scope.result c.requires.scope c.next-scope.ensures.token

pub assignments-requires-clause-outside : goal.assignments-requires-clause-outside
assignments-requires-clause-outside c = scope_outside c.args.text.now c.args.tokens.now.left c.next-scope.new.self.left c.next-scope.result c.args.tokens.now.depth c.next-scope.new.self.depth c.requires.scope c.next-scope.ensures.token c.requires.outside c.next-scope.ensures.depth
