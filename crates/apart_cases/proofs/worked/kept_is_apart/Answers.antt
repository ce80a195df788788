use Rattle.core_promises.proofs.Verdicts.{asks-by}
use Rattle.apart_cases.proofs.worked.kept_is_apart.Goals as goal

pub returns : goal.returns
returns c = λ terms log keeps rules administers speaks gives ends waits judges copies. record {
  router = keeps.router;
  fits = keeps.fits;
  who = keeps.who;
  said = c.said_log.ensures terms log keeps;
  lawful = keeps.lawful;
  due = keeps.due;
  rules = rules;
  administers = administers;
  speaks = speaks;
  gives = gives;
  ends = ends;
  waits = waits;
  asks = asks-by terms rules log judges;
  judges = judges;
  copies = copies;
}
