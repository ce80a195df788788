use Rattle.core_laws.proofs.OfLinks.Opens.{opened_rests}
use Rattle.core_laws.proofs.links.nobodys.opens_rest.Goals as goal

pub returns : goal.returns
returns c = λ service g t now roomy server address l slot opening moment rests new unborn apart of_server calm same.
    opened_rests service (c.counts_alone.ensures service) (c.freed_stands.ensures.test service) (c.same_stands.ensures service) g t roomy rests calm server address l
    slot opening (g.plan.logins l) moment now same
    (c.links_open.ensures service g t now server address l slot opening moment rests.stands new unborn apart of_server same)
