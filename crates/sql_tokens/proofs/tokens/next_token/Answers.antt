use Rattle.std.proofs.Common.{◌≡◌, ◌<◌, ◌+◌, ◌∙◌, length, drop, sym, ap, eqb-true, arith}
use Rattle.std.proofs.lemmas.Bool.{eqb-false}
use Rattle.std.specs.List.{prefix_len}
use Rattle.sql_tokens.specs.Bytes.{is_white}
use Rattle.sql_tokens.proofs.Scan.{next_start, start_within, none_left, next_is}
use Rattle.sql_tokens.proofs.tokens.next_token.Goals as goal

pub overflow_add-start : goal.overflow_add-start
overflow_add-start c =
    let start : c.args.place + c.white_run.result ≡ next_start c.args.text.now c.args.place = ap (λ n. c.args.place + n) (c.white_run.ensures ∙ ap (prefix_len is_white) c.behind.ensures.rest) in
    omega (arith, start_within c.args.text.now c.args.place c.requires)

pub returns-then-is_empty : goal.returns-then-is_empty
returns-then-is_empty c =
    let start : c.args.place + c.white_run.result ≡ next_start c.args.text.now c.args.place = ap (λ n. c.args.place + n) (c.white_run.ensures ∙ ap (prefix_len is_white) c.behind.ensures.rest) in
    let empty : length c.behind-rest.result.now ≡ 0 = eqb-true _ 0 (sym c.is_empty.ensures ∙ c.if-is_empty.true) in
    none_left c.args.text.now c.args.place (ap (λ n. length (drop n c.args.text.now)) (sym start) ∙ ap length (sym c.behind-rest.ensures.rest) ∙ empty)

pub overflow_add-result : goal.overflow_add-result
overflow_add-result c =
    let some : 0 < length c.behind-rest.result.now = let ne = eqb-false (length c.behind-rest.result.now) 0 (sym c.is_empty.ensures ∙ c.if-is_empty.false) in omega arith in
    let next = next_is c.args.text.now c.args.place c.white_run.result c.behind-rest.result.now c.token_at-kind.result (c.white_run.ensures ∙ ap (prefix_len is_white) c.behind.ensures.rest) c.behind-rest.ensures.rest c.token_at-kind.ensures some in
    omega (arith, next.1)

pub returns : goal.returns
returns c =
    let some : 0 < length c.behind-rest.result.now = let ne = eqb-false (length c.behind-rest.result.now) 0 (sym c.is_empty.ensures ∙ c.if-is_empty.false) in omega arith in
    next_is c.args.text.now c.args.place c.white_run.result c.behind-rest.result.now c.token_at-kind.result (c.white_run.ensures ∙ ap (prefix_len is_white) c.behind.ensures.rest) c.behind-rest.ensures.rest c.token_at-kind.ensures some
