use Rattle.mx_wire.specs.declared.entry.Entry.TheVariants.{Got}
use Rattle.core_laws.proofs.links.reading.reads_rest.Goals as goal

pub returns : goal.returns
returns c = λ service g t gone now roomy room l bytes client ended over tale rests is ends theirs goes stands ends_now rooms calm same.
    c.carried_rest.ensures service g t gone now roomy room (Got l bytes) l client ended over tale rests
    (c.reads_are_of_one.ensures.on_link service g t roomy l bytes client rests is) ends theirs
    (c.reads_are_of_one.ensures.its service g t roomy l bytes client rests is) (c.reads_are_of_one.ensures.spared service g t roomy l bytes client rests is)
    goes stands ends_now rooms calm same
