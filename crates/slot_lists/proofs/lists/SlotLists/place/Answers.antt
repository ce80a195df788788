use Rattle.std.proofs.Common.{◌≡◌, ◌+◌, ◌≤◌, ◌<◌, ◌⊎◌, length, arith, ap, inl, inr, ◌∙◌}
use Rattle.std.specs.Prelude.{slice_index}
use Rattle.std.proofs.lemmas.List.{get_or_read}
use Rattle.std.proofs.lemmas.List.Elements.{All-get_or}
use Rattle.slot_lists.specs.Chains.{Chains}
use Rattle.slot_lists.proofs.Walking.{walked_all, walked_here, walked_more}
use Rattle.slot_lists.proofs.lists.SlotLists.place.Goals as goal
use Rattle.slot_lists.proofs.lists.SlotLists.place.Goals.{then-at-self-via-then-at-self, then-at-self-via-else-at-self+then-moments-at}

pub returns-then-at-self-clause-stop : goal.returns-then-at-self-clause-stop
returns-then-at-self-clause-stop c = λ order spells.
    let slots : c.self.inside.slots ≡ c.args.self.now.slots = ap (λ (s : Chains). s.slots) c.self.view_is in
    let why : (c.args.self.now.slots ≤ c.loop.at) ⊎ (slice_index c.args.moments.now c.loop.at ≤ c.args.moment) =
    elim c.then-at-self.branch [
      | then-at-self-via-then-at-self w ↦ inl (omega (arith, slots, w.if-at-self.true))
      | then-at-self-via-else-at-self+then-moments-at w ↦ inr w.if-moments-at.true
    ] in
    walked_here _ _ order _ _ _ _ spells (c.loop.invariant.1 order spells) why

pub loop-preserved : goal.loop-preserved
loop-preserved c =
    let slots : c.self.inside.slots ≡ c.args.self.now.slots = ap (λ (s : Chains). s.slots) c.self.view_is in
    let lists : c.self.inside.lists ≡ c.args.self.now.lists = ap (λ (s : Chains). s.lists) c.self.view_is in
    let small : c.loop.at < length c.self.inside.next.items =
    omega (arith, c.self.invariant.next_length, c.loop.invariant.0, slots, lists) in
    let read : c.index-at-in-loop.result.now ≡ slice_index c.self.inside.next.items c.loop.at =
    get_or_read c.self.inside.next.items c.loop.at c.index-at-in-loop.result.now small c.index-at-in-loop.ensures 0 in
    let next : c.index-at-in-loop.result.now ≡ slice_index c.args.self.now.next c.loop.at =
    read ∙ ap (λ (s : Chains). slice_index s.next c.loop.at) c.self.view_is in
    let within = All-get_or (λ node. node < c.self.inside.slots + c.self.inside.lists) c.self.inside.next.items c.loop.at 0 small
    c.self.invariant.next_within in (
      omega (arith, read, within, slots, lists),
      λ order spells. walked_more _ _ order _ _ _ _ _ c.requires.list spells (c.loop.invariant.1 order spells)
          (omega (arith, slots, c.if-at-self.false)) c.if-moments-at.false next,
    )

pub returns-clause-stop : goal.returns-clause-stop
returns-clause-stop c = λ order spells.
    let slots : c.self.inside.slots ≡ c.args.self.now.slots = ap (λ (s : Chains). s.slots) c.self.view_is in
    walked_all _ _ order _ _ _ _ spells (c.loop.invariant.1 order spells) (omega (arith, slots, c.loop-test.false))
