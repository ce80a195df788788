use Rattle.std.proofs.Common.{◌<◌, ◌≡◌, ◌∙◌, true, false, length, get_or, drop, length-drop, sym, ap, add-zero, arith}
use Rattle.std.proofs.lemmas.List.{get_or-drop}
use Rattle.sql_tokens.specs.Quotes.{begins_pair, is_inside, to_closing}
use Rattle.sql_tokens.proofs.Ends.{stops_at, passes, past_pair, at_closing, past_byte, past_plain}
use Rattle.sql_tokens.proofs.quote.to_closing.Goals as goal

pub loop-i-preserved-then-is_inside : goal.loop-i-preserved-then-is_inside
loop-i-preserved-then-is_inside c =
    let quote = c.args.quote in
    let rest = drop c.loop-i.i c.args.bytes.now in
    let some : 0 < length rest = omega (arith, length-drop c.loop-i.i c.args.bytes.now) in
    let first : get_or rest 0 0 ≡ get_or c.args.bytes.now c.loop-i.i 0 = get_or-drop c.loop-i.i c.args.bytes.now 0 0 ∙ ap (λ i. get_or c.args.bytes.now i 0) (add-zero c.loop-i.i) in
    let inside : is_inside quote (get_or rest 0 0) ≡ true = ap (is_inside quote) first ∙ sym c.is_inside.ensures ∙ c.if-is_inside.true in
    passes (to_closing quote) c.args.bytes.now c.loop-i.i 1 c.loop-i.invariant (past_plain quote rest some inside)

pub loop-i-preserved-then-begins_pair : goal.loop-i-preserved-then-begins_pair
loop-i-preserved-then-begins_pair c =
    let quote = c.args.quote in
    let rest = drop c.loop-i.i c.args.bytes.now in
    let pair : begins_pair quote rest ≡ true = ap (begins_pair quote) (sym c.behind.ensures.rest) ∙ sym c.begins_pair.ensures ∙ c.if-begins_pair.true in
    passes (to_closing quote) c.args.bytes.now c.loop-i.i 2 c.loop-i.invariant (past_pair quote rest pair)

pub returns-then-bytes-i : goal.returns-then-bytes-i
returns-then-bytes-i c =
    let quote = c.args.quote in
    let rest = drop c.loop-i.i c.args.bytes.now in
    let some : 0 < length rest = omega (arith, length-drop c.loop-i.i c.args.bytes.now) in
    let alone : begins_pair quote rest ≡ false = ap (begins_pair quote) (sym c.behind.ensures.rest) ∙ sym c.begins_pair.ensures ∙ c.if-begins_pair.false in
    let first : get_or rest 0 0 ≡ get_or c.args.bytes.now c.loop-i.i 0 = get_or-drop c.loop-i.i c.args.bytes.now 0 0 ∙ ap (λ i. get_or c.args.bytes.now i 0) (add-zero c.loop-i.i) in
    stops_at (to_closing quote) c.args.bytes.now c.loop-i.i 1 c.loop-i.invariant (at_closing quote rest some alone (first ∙ c.if-bytes-i.true))

pub loop-i-preserved : goal.loop-i-preserved
loop-i-preserved c =
    let quote = c.args.quote in
    let rest = drop c.loop-i.i c.args.bytes.now in
    let some : 0 < length rest = omega (arith, length-drop c.loop-i.i c.args.bytes.now) in
    let alone : begins_pair quote rest ≡ false = ap (begins_pair quote) (sym c.behind.ensures.rest) ∙ sym c.begins_pair.ensures ∙ c.if-begins_pair.false in
    let first : get_or rest 0 0 ≡ get_or c.args.bytes.now c.loop-i.i 0 = get_or-drop c.loop-i.i c.args.bytes.now 0 0 ∙ ap (λ i. get_or c.args.bytes.now i 0) (add-zero c.loop-i.i) in
    passes (to_closing quote) c.args.bytes.now c.loop-i.i 1 c.loop-i.invariant (past_byte quote rest some alone (λ is. c.if-bytes-i.false (sym first ∙ is)))
