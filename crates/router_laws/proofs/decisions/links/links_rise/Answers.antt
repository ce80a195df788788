use Rattle.std.proofs.Common.{subst, sym}
use Rattle.router_laws.proofs.OfDecisions.Listing.{all_rise, is_tale_of, rising}
use Rattle.router_laws.proofs.decisions.links.links_rise.Goals as goal

pub returns : goal.returns
returns c = record {
  log = λ log all. all_rise log all;
  tale = λ setup plan log all. subst rising (sym (is_tale_of setup plan log).links) (all_rise log all);
}
