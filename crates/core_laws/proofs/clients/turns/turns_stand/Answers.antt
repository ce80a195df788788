use Rattle.core_laws.proofs.OfClients.Turning.{turns_so}
use Rattle.core_laws.proofs.clients.turns.turns_stand.Goals as goal

pub returns : goal.returns
returns c = λ service default first client from g t now choices halt is has turns.
    turns_so (record {
      looks = c.clients_look.ensures;
      waits = c.waits_are_idle.ensures;
      taken = c.next_is_taken.ensures;
      owns = c.own_answers_stand.ensures;
      resets = c.resets_stand.ensures;
      quitting = c.quits_stand.ensures;
      dues = c.dues_stand.ensures;
      leaves = c.left_stands.ensures.ends;
      same = c.same_stands.ensures;
    }) service default first client from g t now choices halt is has turns
