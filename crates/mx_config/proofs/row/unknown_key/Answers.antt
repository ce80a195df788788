use Rattle.std.proofs.Common.{string_bytes, option_map, map, ap, sym, ◌∙◌}
use Rattle.mx_config.proofs.Keys.{least_unknown-first}
use Rattle.mx_config.proofs.row.unknown_key.Goals as goal

pub returns-in-Some : goal.returns-in-Some
returns-in-Some c =
    let least = least_unknown-first (map (λ k. k.now) c.args.known.now) c.args.members.now.entries c.in-Some.ensures.ascend in
    rw c.as_str.ensures.value (ap (option_map string_bytes) c.in-Some.ensures.first ∙ sym least)

pub returns-in-None : goal.returns-in-None
returns-in-None c =
    let least = least_unknown-first (map (λ k. k.now) c.args.known.now) c.args.members.now.entries c.in-None.ensures.ascend in
    ap (option_map string_bytes) c.in-None.ensures.first ∙ sym least
