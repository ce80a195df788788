use Rattle.std.proofs.Common.{◌≡◌, ◌≤◌, ℕ, ◌+◌, Some, length, ap, sym, ◌∙◌, arith}
use Rattle.packet_frame.specs.Packets.{first_packet, message_within, next_id}
use Rattle.link_state.specs.Ids.{behind_found, body_in, longest_message}
use Rattle.link_state.proofs.Walking.{ends, goes_on, within_there}
use Rattle.link_state.proofs.ids.+last_of.Goals as goal

pub overflow_add-body : goal.overflow_add-body
overflow_add-body t c =
    omega (arith, c.requires, within_there c.args.announced c.args.id c.args.bytes.now c.in-Some.body (sym c.in-Some.is ∙ c.body_of.ensures))

pub split_at-requires : goal.split_at-requires
split_at-requires t c = within_there c.args.announced c.args.id c.args.bytes.now c.in-Some.body (sym c.in-Some.is ∙ c.body_of.ensures)

pub overflow_add-announced : goal.overflow_add-announced
overflow_add-announced t c =
    omega (
      arith,
      c.requires,
      c.if-body-eq-LONGEST_BODY.true,
      within_there c.args.announced c.args.id c.args.bytes.now c.in-Some.body (sym c.in-Some.is ∙ c.body_of.ensures),
    )

pub last_of-requires : goal.last_of-requires
last_of-requires t c =
    let told : Some c.in-Some.body ≡ body_in (first_packet longest_message c.args.announced c.args.id c.args.bytes.now) = sym c.in-Some.is ∙ c.body_of.ensures in
    let within : 4 + c.in-Some.body ≤ length c.args.bytes.now = within_there c.args.announced c.args.id c.args.bytes.now c.in-Some.body told in
    (omega (arith, within, c.split_at.ensures.back_len), omega (arith, c.requires, within, c.split_at.ensures.back_len, c.if-body-eq-LONGEST_BODY.true))

pub returns-then-body-eq-LONGEST_BODY : goal.returns-then-body-eq-LONGEST_BODY
returns-then-body-eq-LONGEST_BODY t c =
    let follows : c.last_of.result ≡ behind_found (message_within (length c.split_at.result.1.now) longest_message (c.args.announced + 16777215)
    (next_id c.args.id) c.split_at.result.1.now) c.args.last =
    c.last_of.ensures ∙ ap (λ (id : ℕ). behind_found (message_within (length c.split_at.result.1.now) longest_message (c.args.announced + 16777215)
    id c.split_at.result.1.now) c.args.last) c.following.ensures in
    goes_on c.args.announced c.args.id c.args.last c.in-Some.body c.last_of.result c.args.bytes.now c.split_at.result.1.now
    (sym c.in-Some.is ∙ c.body_of.ensures) c.if-body-eq-LONGEST_BODY.true c.split_at.ensures.back follows

pub returns-else-body-eq-LONGEST_BODY : goal.returns-else-body-eq-LONGEST_BODY
returns-else-body-eq-LONGEST_BODY t c =
    ends c.args.announced c.args.id c.args.last c.in-Some.body c.last_of-else-body-eq-LONGEST_BODY.result c.args.bytes.now c.split_at.result.1.now
    (sym c.in-Some.is ∙ c.body_of.ensures) c.if-body-eq-LONGEST_BODY.false c.split_at.ensures.back c.last_of-else-body-eq-LONGEST_BODY.ensures
