use Rattle.core_laws.proofs.OfLinks.OneRead.{read_its, read_on_link, read_spared}
use Rattle.core_laws.proofs.links.reading.reads_are_of_one.Goals as goal

pub returns : goal.returns
returns c = record {
  on_link = λ service g t roomy l bytes client rests is.
      read_on_link service g t roomy rests l bytes client is (c.lawful_homes.ensures g.setup g.tale.story rests.stands.lawful);
  spared = λ service g t roomy l bytes client rests is.
      read_spared service g t roomy rests l bytes client is (c.lawful_homes.ensures g.setup g.tale.story rests.stands.lawful);
  its = λ service g t roomy l bytes client rests is.
      read_its service g t roomy rests l bytes client is (c.lawful_homes.ensures g.setup g.tale.story rests.stands.lawful);
}
