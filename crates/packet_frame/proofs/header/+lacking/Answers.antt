use Rattle.std.proofs.Common.{◌≡◌, ◌-◌, ◌+◌, inl, inr, length, ap, sym, ◌∙◌, arith}
use Rattle.packet_frame.specs.declared.header.Header.{Header}
use Rattle.packet_frame.specs.Packets.{packet_length, lacking}
use Rattle.packet_frame.proofs.Headers.{lacking-cut, lacking-long, lacking-short}
use Rattle.packet_frame.proofs.header.+lacking.Goals as goal
use Rattle.packet_frame.proofs.header.+lacking.Goals.{else-body-eq-LONGEST-via-then-body-eq-LONGEST+else-bytes, else-body-eq-LONGEST-via-else-body-eq-LONGEST}

pub returns-in_default : goal.returns-in_default
returns-in_default t c = lacking-cut c.args.bytes.now (omega (arith, c.in_default.ensures))

pub returns-then-bytes : goal.returns-then-bytes
returns-then-bytes t c =
    let size : c.in-Some.header.length ≡ packet_length c.args.bytes.now = ap (λ (h : Header). h.length) c.in-Some.ensures.1 in
    c.lacking.ensures ∙ ap lacking c.split_at.ensures.back ∙ lacking-long c.args.bytes.now c.in-Some.ensures.0 (sym size ∙ c.if-body-eq-LONGEST.true) c.if-bytes.true

pub returns : goal.returns
returns t c =
    let size : c.in-Some.header.length ≡ packet_length c.args.bytes.now = ap (λ (h : Header). h.length) c.in-Some.ensures.1 in
    let left : c.saturating_sub.result ≡ (4 + packet_length c.args.bytes.now) - length c.args.bytes.now = c.saturating_sub.ensures ∙ ap (λ n. (4 + n) - length c.args.bytes.now) size in
    elim c.else-body-eq-LONGEST.branch [
      | else-body-eq-LONGEST-via-then-body-eq-LONGEST+else-bytes w ↦ left ∙ lacking-short c.args.bytes.now c.in-Some.ensures.0 (inr (omega (arith, w.if-bytes.false)))
      | else-body-eq-LONGEST-via-else-body-eq-LONGEST w ↦ left ∙ lacking-short c.args.bytes.now c.in-Some.ensures.0 (inl (λ long. w.if-body-eq-LONGEST.false (size ∙ long)))
    ]
