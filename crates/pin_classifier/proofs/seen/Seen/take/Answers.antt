use Rattle.std.proofs.Common.{◌∙◌, ◌||◌, ◌&&◌, ap, codes}
use Rattle.sql_tokens.specs.Words.{is_word}
use Rattle.pin_classifier.specs.Passing.{is_release, with_call, with_variable}
use Rattle.pin_classifier.specs.Statement.{is_plain_word}
use Rattle.pin_classifier.proofs.seen.Seen.take.Goals as goal

pub returns : goal.returns
returns c =
    let before = c.args.self.now in
    let word = c.word_of-word.ensures in
    λ i. record {
      opening = c.take.ensures i;
      unread = before.unread || c.is_unread.ensures i;
      calls = (c.take-2.ensures ∙ ap (λ name. with_call before.calls name) c.callee.ensures) i;
      variables = (c.take-3.ensures ∙ ap (λ name. with_variable before.variables name) c.variable_of.ensures) i;
      temporary = before.temporary || (c.is_word.ensures ∙ ap (λ w. is_word w (codes "TEMPORARY")) word) i;
      release = before.release || (c.is_release.ensures ∙ ap (λ w. is_release c.args.text.now c.args.before w) word) i;
      calc_rows = before.calc_rows || (c.is_word-2.ensures ∙ ap (λ w. is_word w (codes "SQL_CALC_FOUND_ROWS")) word) i;
      returning = before.returning || (c.is_word-3.ensures ∙ ap (λ w. is_word w (codes "RETURNING")) word) i;
      value = before.value || (c.is_word-4.ensures ∙ ap (λ w. is_word w (codes "VALUE")) word) i;
      from = before.from || (c.is_from.ensures ∙ ap (λ w. is_word w (codes "FROM") && is_plain_word c.args.token.kind) word) i;
      dual = before.dual || (c.is_word-5.ensures ∙ ap (λ w. is_word w (codes "DUAL")) word) i;
      into = before.into || (c.is_word-6.ensures ∙ ap (λ w. is_word w (codes "INTO")) word) i;
      quoted_call = before.quoted_call || c.is_quoted_call.ensures i;
      user_variable = before.user_variable || c.is_variable.ensures i;
    }
