use Rattle.std.proofs.Common.{ℕ, ◌++◌, List, length, slice_range, option_map, option_copied, sym, ◌∙◌, ap}
use Rattle.std.proofs.lemmas.Bool.{ne_eqb}
use Rattle.session_vars.specs.Modes.{list_of, lists_behind}
use Rattle.session_vars.proofs.Adding.{closed_lists, one_more_list, passed_on}
use Rattle.session_vars.proofs.modes.+push_lists.Goals as goal

pub returns-in-len1-up-2 : goal.returns-in-len1-up-2
returns-in-len1-up-2 t c =
    passed_on c.push_lists.result _ _ _
    (ap (option_map (λ more. c.args.lists.now ++ more)) (closed_lists _ c.args.text.now c.args.depth c.args.tokens.now c.in-len1-up.len_at_least (ne_eqb c.args.depth 0 c.if-depth-eq0.false) (sym c.is_symbol.ensures ∙ c.if-is_symbol.true)))
    c.push_lists.ensures

pub returns-in_ok-append-in-len2-up : goal.returns-in_ok-append-in-len2-up
returns-in_ok-append-in-len2-up t c =
    let text = c.args.text.now in
    let tokens = c.args.tokens.now in
    let list = c.in-Some.list.now in
    passed_on c.push_lists-in-len2-up.result _ _ _
    (ap (λ (front : List ℕ). option_map (λ more. front ++ more) (lists_behind text c.args.depth (slice_range tokens 2 (length tokens)))) c.in_ok-append-in-len2-up.ensures.ok
    ∙ one_more_list _ text c.args.depth tokens c.args.lists.now list c.in-len2-up.len_at_least (ne_eqb c.args.depth 0 c.if-depth-eq0.false) (sym c.is_symbol.ensures ∙ c.if-is_symbol.false) (sym c.is_symbol-2.ensures ∙ c.if-is_symbol-2.true) (ap (list_of _) (sym c.bytes_of.ensures) ∙ sym c.list_of.ensures ∙ ap option_copied c.in-Some.is))
    c.push_lists-in-len2-up.ensures
