use Rattle.std.proofs.Common.{◌≡◌, true, refl}
use Rattle.std.specs.Prelude.{is_some, Option, Some, None}
use Rattle.link_state.specs.declared.state.Stage.{Stage}
use Rattle.link_state.specs.declared.state.Stage.TheVariants.{Quiet, Asked, Answered}
use Rattle.lent_link.specs.Links.{is_in, left_at, left_in, unbegun_by}
use Rattle.lent_link.specs.Rests.{may_begin}
use Rattle.lent_link.specs.declared.link.Begins.{Begins}
use Rattle.lent_link.specs.declared.link.LentLink.{LentLink}
use Rattle.lent_link.proofs.laws.wishes_are_taken_back.Goals as goal

may_by : (next : Option Begins) (link : LentLink) → link.next ≡ next → may_begin (unbegun_by next link) ≡ may_begin link
may_by None link is = refl
may_by (Some next) link is = rw is refl

none_left : (stage : Stage) → left_at stage None ≡ None
none_left Quiet = refl
none_left (Asked asking) = refl
none_left (Answered asking) = refl

left_by : (next : Option Begins) (link : LentLink) → is_in link.login.stage ≡ true → is_some next ≡ true → left_in (unbegun_by next link) ≡ None
left_by None link entered some = absurd cc
left_by (Some next) link entered some = rw entered (none_left link.state.stage)

pub returns-clause-may : goal.returns-clause-may
returns-clause-may c link = may_by link.next link refl

pub returns-clause-nothing : goal.returns-clause-nothing
returns-clause-nothing c link entered some = left_by link.next link entered some
