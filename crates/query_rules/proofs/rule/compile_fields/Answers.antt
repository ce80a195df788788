use Rattle.std.proofs.Common.{refl}
use Rattle.query_rules.proofs.rule.compile_fields.Goals as goal

pub returns-clause-sound : goal.returns-clause-sound
returns-clause-sound c = record {
  match_digest = (c.in_ok-match_digest.match_digest, c.in_ok-match_digest.ensures.ok);
  match_pattern = (c.in_ok-match_pattern.match_pattern, c.in_ok-match_pattern.ensures.ok);
  replaces = rw (← c.replaces_nothing.ensures) c.if-replaces_nothing.false;
}

pub returns-then-replaces_nothing-clause-fault : goal.returns-then-replaces_nothing-clause-fault
returns-then-replaces_nothing-clause-fault c = (
  refl,
  rw (← c.replaces_nothing.ensures) c.if-replaces_nothing.true,
  (c.in_ok-match_digest.match_digest, c.in_ok-match_digest.ensures.ok),
  (c.in_ok-match_pattern.match_pattern, c.in_ok-match_pattern.ensures.ok),
)
