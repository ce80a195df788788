use Rattle.std.proofs.Common.{◌≡◌, ◌++◌, ◌+◌, List, ℕ, ap, sym, ◌∙◌, subst, take, map}
use Rattle.std.proofs.lemmas.List.{take_all}
use Rattle.packet_frame.specs.Packets.{split}
use Rattle.packet_frame.specs.FramerState.{FramerState}
use Rattle.packet_frame.specs.Pieces.{joined, payload_of, AllTaken}
use Rattle.packet_frame.proofs.Taking.{all-none, all-fed, all-payloads, all-fault, joined-next}
use Rattle.packet_frame.proofs.pieces.payloads_of.Goals as goal

pub loop-piece-init : goal.loop-piece-init
loop-piece-init c = rw (c.new-framer.ensures, c.new-payloads.ensures.items) (all-none c.args.limit c.args.first)

pub loop-piece-preserved : goal.loop-piece-preserved
loop-piece-preserved c =
    let at = c.loop-piece.invariant in
    let bytes : List ℕ = joined (take c.loop-piece.piece-index c.args.pieces.now) in
    let fed = all-fed c.args.limit c.args.first bytes c.as_slice.result.now c.loop-piece.payloads.items c.loop-piece.fault c.loop-piece.framer c.feed.new.self c.in_ok-feed.ensures.ok at in
    let more : joined (take (c.loop-piece.piece-index + 1) c.args.pieces.now) ≡ bytes ++ c.as_slice.result.now =
    joined-next c.args.pieces.now c.loop-piece.piece-index c.piece-item.result c.loop-piece-test.true ∙ ap (λ (xs : List ℕ). bytes ++ xs) (sym (c.as_slice.ensures ∙ c.piece-item.is)) in
    let all : AllTaken c.args.limit c.args.first (bytes ++ c.as_slice.result.now) c.take_messages.new.payloads.items c.in_ok-fault.fault c.take_messages.new.framer = record {
      same = c.take_messages.ensures.same ∙ ap (λ (s : FramerState). s.limit) c.in_ok-feed.ensures.ok ∙ at.same;
      part = c.in_ok-fault.ensures.part (split c.args.limit c.args.first (bytes ++ c.as_slice.result.now)) fed;
      dry = c.in_ok-fault.ensures.dry;
      faulty = c.in_ok-fault.ensures.faulty;
    } in
    subst (λ (xs : List ℕ). AllTaken c.args.limit c.args.first xs c.take_messages.new.payloads.items c.in_ok-fault.fault c.take_messages.new.framer) (sym more) all

pub returns-clause-payloads : goal.returns-clause-payloads
returns-clause-payloads c =
    let whole : take c.loop-piece.piece-index c.args.pieces.now ≡ c.args.pieces.now = take_all c.loop-piece.piece-index c.args.pieces.now c.loop-piece-test.false in
    subst (λ (pieces : List (List ℕ)). c.loop-piece.payloads.items ≡ map payload_of (split c.args.limit c.args.first (joined pieces)).messages) whole
    (all-payloads c.args.limit c.args.first (joined (take c.loop-piece.piece-index c.args.pieces.now)) c.loop-piece.payloads.items c.loop-piece.fault c.loop-piece.framer c.loop-piece.invariant)

pub returns-clause-fault : goal.returns-clause-fault
returns-clause-fault c =
    let whole : take c.loop-piece.piece-index c.args.pieces.now ≡ c.args.pieces.now = take_all c.loop-piece.piece-index c.args.pieces.now c.loop-piece-test.false in
    subst (λ (pieces : List (List ℕ)). c.loop-piece.fault ≡ (split c.args.limit c.args.first (joined pieces)).fault) whole
    (all-fault c.args.limit c.args.first (joined (take c.loop-piece.piece-index c.args.pieces.now)) c.loop-piece.payloads.items c.loop-piece.fault c.loop-piece.framer c.loop-piece.invariant)
