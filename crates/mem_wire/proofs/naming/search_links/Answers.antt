use Rattle.std.proofs.Common.{◌==◌, if◌then◌else◌, ◌≡◌, ◌<◌, length, slice_index_or, Some, sym, ◌∙◌, ap, arith}
use Rattle.std.specs.Prelude.{slice_get, ◌&&◌}
use Rattle.std.specs.Ordering.{nat_cmp}
use Rattle.std.specs.BTreeSet.{contains}
use Rattle.std.proofs.lemmas.Option.{slice_get-get_or}
use Rattle.mem_wire.proofs.InTurn.{passes-here, passes-link}
use Rattle.mem_wire.proofs.naming.search_links.Goals as goal

pub returns-in-Some-link_to_name-clause-passes : goal.returns-in-Some-link_to_name-clause-passes
returns-in-Some-link_to_name-clause-passes c =
    passes-here c.args.wake c.args.tracks.now c.args.places.now c.args.turns.now c.loop-number.turns c.in-Some.number c.loop-number.invariant
    c.in-Some.ensures.later (omega arith) c.in-Some.ensures.least

pub returns-in-Some-link_to_name-clause-some : goal.returns-in-Some-link_to_name-clause-some
returns-in-Some-link_to_name-clause-some c = record {
  named = sym c.link_to_name.ensures ∙ c.in-Some-link_to_name.is;
  here = slice_get-get_or c.args.places.now c.in-Some.number 0 (omega arith);
}

pub loop-number-preserved : goal.loop-number-preserved
loop-number-preserved c =
    let number = c.in-Some.number in
    let places = c.args.places.now in
    let within : number < length places = omega arith in
    let here : slice_get places number ≡ Some (slice_index_or places number 0) = slice_get-get_or places number 0 within in
    passes-link c.args.wake c.args.tracks.now places c.args.turns.now c.loop-number.turns c.pass.new.self number (slice_index_or places number 0)
    (passes-here c.args.wake c.args.tracks.now places c.args.turns.now c.loop-number.turns number c.loop-number.invariant c.in-Some.ensures.later within c.in-Some.ensures.least)
    within here (sym c.link_to_name.ensures ∙ c.in_default-link_to_name.is) c.pass.ensures.frame
    (λ n. c.pass.ensures.pending n ∙ ap (λ b. if n == number then b && contains nat_cmp c.loop-number.turns.pending n else contains nat_cmp c.loop-number.turns.pending n) c.may_be_ready.ensures)
