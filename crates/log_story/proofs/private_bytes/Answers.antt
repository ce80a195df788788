use Rattle.log_story.proofs.private_bytes.Goals as goal

pub returns : goal.returns
returns c = λ setup plan tests server log tame accepted lawful says servers.
    c.honest_bytes.ensures setup plan tests server log tame accepted lawful (c.honest_log.ensures setup plan server log says servers)
