use Rattle.std.proofs.Common.{List, ℕ, ◌++◌, sym, ◌∙◌, ap}
use Rattle.session_vars.specs.Modes.{joined_at}
use Rattle.sql_tokens.specs.Words.{inside}
use Rattle.session_vars.proofs.Adding.{after_of, opening_step, front_step, base_step}
use Rattle.session_vars.proofs.Dispatch.{ok_is}
use Rattle.session_vars.proofs.modes.+joined_at.Goals as goal

pub returns-then-is_opening : goal.returns-then-is_opening
returns-then-is_opening t c = ok_is c.joined_at.result _ _ (opening_step _ c.args.text.now c.args.depth c.args.front.now c.args.tokens.now c.in-len1-up.len_at_least c.in-len1-up-after.len_at_least (sym c.is_opening.ensures ∙ c.if-is_opening.true)) c.joined_at.ensures

pub returns-then-is_front : goal.returns-then-is_front
returns-then-is_front t c =
    let rest = after_of (after_of c.args.tokens.now) in
    let grown = c.in_ok-append.ensures.ok ∙ ap (λ (list : List ℕ). c.args.front.now ++ list) (c.inside.ensures ∙ ap inside c.bytes_of.ensures) in
    ok_is c.joined_at-then-is_front.result _ _
    (ap (λ (front : List ℕ). joined_at c.args.text.now c.args.depth front rest) grown
    ∙ front_step _ c.args.text.now c.args.depth c.args.front.now c.args.tokens.now c.in-len1-up.len_at_least c.in-len1-up-after.len_at_least (sym c.is_opening.ensures ∙ c.if-is_opening.false) (sym c.is_front.ensures ∙ c.if-is_front.true))
    c.joined_at-then-is_front.ensures

pub returns : goal.returns
returns t c = ok_is c.joined_with.result _ _ (base_step _ c.args.text.now c.args.depth c.args.front.now c.as_slice.result.now c.args.tokens.now c.as_slice.ensures c.in-len1-up.len_at_least c.in-len1-up-after.len_at_least (sym c.is_opening.ensures ∙ c.if-is_opening.false) (sym c.is_front.ensures ∙ c.if-is_front.false)) c.joined_with.ensures
