use Rattle.marked_tables.proofs.Rising.{among_gains, put_gains}
use Rattle.marked_tables.proofs.homes.put_in.Goals as goal

pub returns-in_ok-insert-in-Some : goal.returns-in_ok-insert-in-Some
returns-in_ok-insert-in-Some c =
    put_gains c.args.links.now.items c.insert.new.self.items c.args.link c.in-Some.place c.requires (rw c.as_slice.ensures.value at c.in-Some.ensures.place)
    c.in_ok-insert-in-Some.ensures.items

pub returns-in-None : goal.returns-in-None
returns-in-None c =
    among_gains c.args.links.now.items c.args.link c.requires (rw c.as_slice.ensures.value at c.in-None.ensures.there)
