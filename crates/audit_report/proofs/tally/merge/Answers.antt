use Rattle.std.proofs.Common.{◌≡◌, ◌∷◌, List, sym, ap, subst, ◌∙◌}
use Rattle.std.specs.List.{IsDistinct}
use Rattle.std.specs.Map.{keys_of, lookup}
use Rattle.std.proofs.lemmas.Map.Keys.{IsDistinct-tail}
use Rattle.indexmap.specs.IndexMap.{get}
use Rattle.audit_report.specs.Keys.{same_key}
use Rattle.audit_report.specs.Tallies.{both}
use Rattle.audit_report.specs.declared.key.Key.{Key}
use Rattle.audit_report.specs.declared.tally.Tally.{Tally}
use Rattle.audit_report.proofs.Counting.{left-counted}
use Rattle.audit_report.proofs.tally.merge.Goals as goal

pub loop-key-preserved : goal.loop-key-preserved
loop-key-preserved c =
    let at = c.loop-key in
    let next : at.key-iterator ≡ (c.in-Some.key, c.in-Some.tally) ∷ c.next.new.self = c.in-Some.ensures.steps in
    let apart : IsDistinct same_key (keys_of ((c.in-Some.key, c.in-Some.tally) ∷ c.next.new.self)) = subst (λ (es : List (Key × Tally)). IsDistinct same_key (keys_of es)) next at.invariant.apart in
    record {
      tallies = λ q. left-counted (get same_key at.tallies q) (get same_key c.count.new.tallies q) (c.in-Some.key, c.in-Some.tally) c.next.new.self q apart (c.in_ok-count.ensures q)
          ∙ ap (λ (es : List (Key × Tally)). both (get same_key at.tallies q) (lookup (same_key q) es)) (sym next)
          ∙ at.invariant.tallies q;
      apart = IsDistinct-tail same_key c.in-Some.key (keys_of c.next.new.self) apart;
    }
