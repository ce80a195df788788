use Rattle.log_story.specs.Headline.{tale_of}
use Rattle.log_story.specs.Tale.{view_of}
use Rattle.router_laws.proofs.OfClients.Unseen.{IsStrange, strange_story}
use Rattle.router_laws.proofs.OfClients.Walking.{tale_known}
use Rattle.router_laws.proofs.clients.comes.strangers_are_unseen.Goals as goal

pub returns : goal.returns
returns c = λ setup plan log n single lawful beyond.
    let is : IsStrange setup (view_of setup (tale_of setup plan log)) n =
    strange_story c.strangers_stay.ensures c.coming_stays.ensures c.lawful_homes.ensures setup _ n beyond
    (c.first_stands.ensures.sessions setup n) (c.first_stands.ensures.messages setup n 1) (tale_of setup plan log).story lawful
    (tale_known setup plan single log) in
    (is.sessions, is.coming, is.place)
