use Rattle.slot_lists.proofs.lists.SlotLists.new.Goals as goal

pub returns-clause-first : goal.returns-clause-first
returns-clause-first c = c.in_ok-vec.ensures.items_if_clones_equal (λ y e. e)
