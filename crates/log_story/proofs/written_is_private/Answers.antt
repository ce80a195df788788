use Rattle.log_story.proofs.Writing.{private-each}
use Rattle.log_story.proofs.written_is_private.Goals as goal

pub returns : goal.returns
returns c = λ setup plan tests server log tame accepted lawful says servers due.
    private-each setup plan server log due (c.private_bytes.ensures setup plan tests server log tame accepted lawful says servers)
