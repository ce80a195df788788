use Rattle.std.specs.List.{list_any}
use Rattle.std.proofs.Common.{◌∙◌, ap}
use Rattle.private_model.specs.Story.{is_link_id}
use Rattle.mx_wire.specs.declared.entry.Entry.TheVariants.{Got}
use Rattle.log_story.specs.Tale.{counted}
use Rattle.log_story.specs.Telling.{told}
use Rattle.core_tables.specs.Parting.{given_up_in}
use Rattle.core_stands.specs.Grounds.{on}
use Rattle.core_laws.proofs.OfLinks.OneRead.{read_links}
use Rattle.core_laws.proofs.links.freed.reads_stand.Goals as goal

pub returns : goal.returns
returns c = λ service g t mid heard l server bytes now result given stands there at whole fine named all some hears keeps lawful gives counts.
    c.freed_stands.ensures.stands service (on g (counted (told g.setup g.plan g.tale (Got l bytes)))) (given_up_in given heard) l
    (c.counted_stands.ensures service (on g (told g.setup g.plan g.tale (Got l bytes))) heard given
    (c.bytes_are_heard.ensures service g t mid heard l server bytes now result stands there at whole fine named all some hears keeps lawful) gives counts)
    (ap (list_any (is_link_id l)) (read_links g l bytes) ∙ there)
