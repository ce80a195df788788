use Rattle.core_laws.proofs.OfWriting.Nexts.{captures_so, closes_so, ends_so, quits_so, resets_so}
use Rattle.core_tables.specs.Beginning.{capture_begun, end_begun, quit_begun, step_begun}
use Rattle.link_state.specs.declared.wish.Wish.TheVariants as wishes
use Rattle.core_laws.proofs.writing.beginning.others_begin.Goals as goal

pub returns-clause-captures : goal.returns-clause-captures
returns-clause-captures c = λ service g t after l server n stands open_so same.
    c.same_stands.ensures service g (capture_begun l n t) after
    (captures_so c.rows_take_next.ensures service g t l server stands open_so c.ends_are_readied.ensures.captures n) same

pub returns-clause-ends : goal.returns-clause-ends
returns-clause-ends c = λ service g t after l server n stands open_so same.
    c.same_stands.ensures service g (end_begun l n t) after
    (ends_so c.rows_take_next.ensures service g t l server stands open_so c.ends_are_readied.ensures.ends n) same

pub returns-clause-closes : goal.returns-clause-closes
returns-clause-closes c = λ service g t after l server purpose number stands open_so same.
    c.same_stands.ensures service g (step_begun l purpose (wishes.Closes number) t) after
    (closes_so c.rows_take_next.ensures service g t l server stands open_so purpose number (c.others_are_spelt.ensures.closes number purpose server.row)) same

pub returns-clause-resets : goal.returns-clause-resets
returns-clause-resets c = λ service g t after l server purpose number stands open_so same.
    c.same_stands.ensures service g (step_begun l purpose (wishes.Resets number) t) after
    (resets_so c.rows_take_next.ensures service g t l server stands open_so purpose number (c.others_are_spelt.ensures.resets number purpose server.row)) same

pub returns-clause-quits : goal.returns-clause-quits
returns-clause-quits c = λ service g t after l server stands open_so same.
    c.same_stands.ensures service g (quit_begun l t) after
    (quits_so c.rows_take_next.ensures service g t l server stands open_so c.others_are_spelt.ensures.quits) same
