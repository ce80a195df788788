use Rattle.core_laws.proofs.OfClients.Following.{followed}
use Rattle.core_laws.proofs.clients.follows.follows_rest.Goals as goal

pub returns : goal.returns
returns c = λ service default g t mid now roomy room over fresh e client freed choices halt parting links rests is unlooked stands so overs rooms.
    followed (record {
      turns = c.turns_stand.ensures;
      leaves = c.left_stands.ensures.ends;
      homed = c.lawful_homes.ensures;
      same = c.same_stands.ensures;
      frees = c.links_are_given_back.ensures;
      one = c.entries_of_one.ensures;
    }) service default g t mid now roomy room over fresh e client freed choices halt parting links rests is unlooked stands so overs rooms
