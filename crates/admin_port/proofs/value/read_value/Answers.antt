use Rattle.std.specs.Prelude.{List, ℕ, Option, Some}
use Rattle.std.proofs.Common.{ap, sym, ◌∙◌}
use Rattle.sql_tokens.specs.declared.token.TokenKind.{TokenKind}
use Rattle.admin_port.specs.Values.{value_by}
use Rattle.admin_port.specs.declared.value.Value.{Value}
use Rattle.admin_port.specs.declared.value.Value.TheVariants.{Text}
use Rattle.admin_port.proofs.value.read_value.Goals as goal

pub returns-in_ok-quoted_text-in-Quoted : goal.returns-in_ok-quoted_text-in-Quoted
returns-in_ok-quoted_text-in-Quoted c =
    ap (value_by c.args.token.now.kind) (sym c.bytes_of-bytes.ensures)
    ∙ ap (λ (kind : TokenKind). value_by kind c.bytes_of-bytes.result.now) c.in-Quoted.is
    ∙ ap (λ (said : List ℕ). Some (Text said)) (sym c.in_ok-quoted_text-in-Quoted.ensures)
