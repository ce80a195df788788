use Rattle.std.proofs.Common.{◌≡◌, sym, ap, refl, ◌∙◌}
use Rattle.std.specs.Prelude.{slice_get, Some}
use Rattle.std.proofs.lemmas.Option.{slice_get-get_or}
use Rattle.stmt_map.proofs.long.append_at.Goals as goal

pub returns-clause-ok : goal.returns-clause-ok
returns-clause-ok c =
    let at : slice_get c.args.parts.now.items c.args.place ≡ Some c.index_mut.result.now =
    slice_get-get_or c.args.parts.now.items c.args.place c.index_mut.result.now c.requires ∙ ap Some (sym c.index_mut.ensures.value) in
    rw (at, c.in_ok-append.ensures.ok) refl
