use Rattle.std.specs.Prelude.{take}
use Rattle.core_laws.proofs.OfLinks.Writes.{lent_plain, wrote_rests}
use Rattle.core_laws.proofs.links.nobodys.writes_rest.Goals as goal

pub returns : goal.returns
returns c = λ service g t now roomy l server offer count moment rests there lent planned some within calm same.
    wrote_rests service (c.counts_alone.ensures service) (c.freed_stands.ensures.test service) (c.same_stands.ensures service) g t roomy rests calm l server there
    count moment now offer.tag (take count offer.bytes)
    (lent_plain c.rows_may_begin.ensures service g t l server offer rests.stands there lent) same
    (c.writes_stand.ensures service g t now l server offer count moment rests.stands there lent planned some within same)
