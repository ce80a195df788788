use Rattle.std.proofs.Common.{◌≡◌, ◌++◌, ◌∷◌, ◌-◌, ◌∙◌, [], ap, None, Some}
use Rattle.mem_rule.specs.Notes.{note_at, notes_from}
use Rattle.mem_server.proofs.Reading.{all_read, one_more}
use Rattle.mem_server.proofs.note.notes_of.Goals as goal

pub returns-in-None : goal.returns-in-None
returns-in-None c =
    let none : note_at c.loop-left.at c.args.bytes.now ≡ None = let a = c.in_ok-note_at.ensures in let b = c.in-None.is in let w = c.in_ok-note_at.was in cc in
    all_read c.loop-left.left c.loop-left.at c.args.bytes.now c.loop-left.notes c.loop-left-test.true c.loop-left.invariant none

pub loop-left-preserved : goal.loop-left-preserved
loop-left-preserved c =
    let there : note_at c.loop-left.at c.args.bytes.now ≡ Some (c.in-Some.note, c.in-Some.next) = let a = c.in_ok-note_at.ensures in let b = c.in-Some.is in let w = c.in_ok-note_at.was in cc in
    let pushed : c.push.new.self ≡ c.loop-left.notes ++ c.in-Some.note ∷ [] = let p = c.in_ok-push-in-Some.ensures.ok in cc in
    ap (λ items. items ++ notes_from (c.loop-left.left - 1) c.in-Some.next c.args.bytes.now) pushed
    ∙ one_more c.loop-left.left c.loop-left.at c.args.bytes.now c.loop-left.notes c.in-Some.note c.in-Some.next c.loop-left-test.true c.loop-left.invariant there
