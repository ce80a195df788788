use Rattle.std.proofs.Common.{◌≡◌, ◌≤◌, suc, false, List, [], ◌∷◌, ◌++◌, take, length, sym, ◌∙◌, ap, arith}
use Rattle.std.proofs.lemmas.Bool.{cond-true, cond-false}
use Rattle.std.proofs.lemmas.List.{append-nil, take_all, take-append-le}
use Rattle.sql_tokens.specs.declared.token.Token.{Token}
use Rattle.session_vars.specs.Scopes.{before_comma, behind_comma, deeper, divides}
use Rattle.session_vars.proofs.set_tokens.SetTokens.next_part.Goals as goal

whole_part : (part rest : List Token) → rest ≡ [] → length part ≤ 65 → part ≡ take 65 (part ++ rest)
whole_part part rest none short = sym (take_all 65 part short) ∙ ap (take 65) (sym (append-nil part)) ∙ ap (λ (more : List Token). take 65 (part ++ more)) (sym none)

-- a token for which there is no room
pub tokens-preserved : goal.tokens-preserved
tokens-preserved c =
    let text = c.args.text.now in
    let part = c.tokens.part.items in
    let before = c.tokens.self.left in
    let token = c.in-Some.token in
    let left = c.next.new.self.left in
    let next : before ≡ token ∷ left = c.in-Some.ensures.token in
    let depth = c.tokens.self.depth in
    let inner = c.next.new.self.depth in
    let deep : inner ≡ deeper text token depth = c.in-Some.ensures.depth in
    let other : divides text depth token ≡ false = sym c.in-Some.ensures.due ∙ c.if-self.false in
    let behind : behind_comma text depth before ≡ behind_comma text inner left = ap (behind_comma text depth) next ∙ cond-false (divides text depth token) _ _ other ∙ sym (ap (λ n. behind_comma text n left) deep) in
    let full : 65 ≤ length part = omega arith in
    let size : length before ≡ suc (length left) = ap length next in
    record {
      kept = take-append-le 65 part (before_comma text inner left) full ∙ sym (take-append-le 65 part (before_comma text depth before) full) ∙ c.tokens.invariant.kept;
      short = c.tokens.invariant.short;
      rest = sym behind ∙ c.tokens.invariant.rest;
      shorter = omega arith;
      scope = c.next.ensures.scope ∙ c.tokens.invariant.scope;
    }

-- a comma outside brackets, and the end
pub returns-then-self-clause-part : goal.returns-then-self-clause-part
returns-then-self-clause-part c =
    let text = c.args.text.now in
    let part = c.tokens.part.items in
    let depth = c.tokens.self.depth in
    let token = c.in-Some.token in
    let none : before_comma text depth c.tokens.self.left ≡ [] = ap (before_comma text depth) c.in-Some.ensures.token ∙ cond-true (divides text depth token) _ _ (sym c.in-Some.ensures.due ∙ c.if-self.true) in
    whole_part part (before_comma text depth c.tokens.self.left) none c.tokens.invariant.short ∙ c.tokens.invariant.kept

pub returns-clause-part : goal.returns-clause-part
returns-clause-part c =
    let text = c.args.text.now in
    let part = c.tokens.part.items in
    let depth = c.tokens.self.depth in
    whole_part part (before_comma text depth c.tokens.self.left) (ap (before_comma text depth) c.in_default.ensures.token.0) c.tokens.invariant.short ∙ c.tokens.invariant.kept
