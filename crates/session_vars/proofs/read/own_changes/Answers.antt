use Rattle.std.proofs.Common.{sym, ◌∙◌, codes}
use Rattle.std.proofs.lemmas.Bool.{or_from}
use Rattle.session_vars.proofs.Dispatch.{ok_is, assigned_alone}
use Rattle.session_vars.proofs.LastTokens.{first_says}
use Rattle.session_vars.proofs.read.own_changes.Goals as goal

pub returns-clause-changes : goal.returns-clause-changes
returns-clause-changes c =
    let text = c.args.text.now in
    let left = c.args.tokens.now.left in
    let unscoped = or_from _ _
    (sym (first_says text left c.args.first (codes "SESSION") c.requires.first) ∙ sym c.says_there.ensures ∙ c.if-says_there.false)
    (sym (first_says text left c.args.first (codes "LOCAL") c.requires.first) ∙ sym c.says_there-else-says_there.ensures ∙ c.if-says_there-2.false) in
    ok_is c.assignments.result _ _ (sym (assigned_alone text left unscoped)) c.assignments.ensures.changes
