use Rattle.core_laws.proofs.OfEntry.Uneventful.{others_rest}
use Rattle.core_laws.proofs.entry.kinds.other_links_rest.Goals as goal

pub returns : goal.returns
returns c = λ service old new t now l rested stands stands_now links same.
    others_rest service (c.freed_stands.ensures.test service) old new t now l rested stands stands_now links same
