-- What is so of each statement as it becomes due, and of each that stands on a link.
use Rattle.std.specs.Prelude.{List, [], ◌∷◌}
use Rattle.private_model.specs.Names.{SessionName}
use Rattle.private_model.specs.Story.{BecameDue, Due, Question, Statement, Story}
use Rattle.private_model.specs.View.{Answered, Asked, Quiet, Setup, Stage, due_of, present, view_after}

-- of each as it became due, in which session
abbrev pub AllBecame : Setup → (P : SessionName → Due → Type 0) → Story → Type 0
AllBecame setup P [] = Unit {0}
AllBecame setup P (BecameDue client hostgroup ordinal key command multiplex ∷ past) =
    P (present (view_after setup past) client hostgroup)
    (due_of (view_after setup past) (present (view_after setup past) client hostgroup) ordinal key command multiplex)
    × AllBecame setup P past
AllBecame setup P (e ∷ past) = AllBecame setup P past

abbrev pub OfAsked : (P : SessionName → Due → Type 0) → Question → Type 0
OfAsked P (Statement n due) = P n due
OfAsked P _ = Unit {0}

abbrev pub OfStage : (P : SessionName → Due → Type 0) → Stage → Type 0
OfStage P Quiet = Unit {0}
OfStage P (Asked question) = OfAsked P question
OfStage P (Answered question) = OfAsked P question
