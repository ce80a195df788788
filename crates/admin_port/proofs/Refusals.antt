-- A refused statement changes nothing.
use Rattle.std.proofs.Common.{◌≡◌, ℕ, Bool, false, List, Option, Some, None, refl}
use Rattle.admin_port.specs.Answers.{IsAnswered, IsAnsweredBy, Reply, answered_by, done_or, refusal_for, reply_of}
use Rattle.admin_port.specs.Answers.Reply.{Done, Rows, Refused, Loads, ShutsDown}
use Rattle.admin_port.specs.Staged.{StagedRows, changed}
use Rattle.admin_port.specs.Statements.{statement_of}
use Rattle.admin_port.specs.declared.answer.Refusal.{Refusal}
use Rattle.admin_port.specs.declared.running.Running.{Running}
use Rattle.admin_port.specs.declared.statement.Statement.{Statement}
use Rattle.admin_port.specs.declared.statement.Statement.TheVariants.{Select, Stage, Load, ShowTables, ShowVariables, VersionComment, Accepted, Shutdown}

-- what is staged after an answer, where it is a refusal
abbrev IfRefused : (staged : StagedRows) → StagedRows × Reply → Type 0
IfRefused staged (after, Refused refusal) = after ≡ staged
IfRefused staged _ = Unit {0}

done_or_leaves : (staged : StagedRows) (refusal : Refusal) (o : Option StagedRows) → IfRefused staged (done_or staged refusal o)
done_or_leaves staged refusal None = refl
done_or_leaves staged refusal (Some new) = tt

same_leaves : (staged : StagedRows) (reply : Reply) → IfRefused staged (staged, reply)
same_leaves staged Done = tt
same_leaves staged (Rows s) = tt
same_leaves staged (Refused refusal) = refl
same_leaves staged (Loads table) = tt
same_leaves staged ShutsDown = tt

answered_leaves : (patterned : Bool) (text : List ℕ) (staged : StagedRows) (running : Running) (statement : Option Statement) → IfRefused staged (answered_by patterned text staged running statement)
answered_leaves patterned text staged running None = refl
answered_leaves patterned text staged running (Some (Select query)) = same_leaves staged _
answered_leaves patterned text staged running (Some (Stage action change)) = done_or_leaves staged (refusal_for change.table) (changed patterned staged action change)
answered_leaves patterned text staged running (Some (Load table)) = tt
answered_leaves patterned text staged running (Some ShowTables) = tt
answered_leaves patterned text staged running (Some (ShowVariables pattern)) = same_leaves staged _
answered_leaves patterned text staged running (Some VersionComment) = tt
answered_leaves patterned text staged running (Some Accepted) = tt
answered_leaves patterned text staged running (Some Shutdown) = tt

by_leaves : (text : List ℕ) (staged : StagedRows) (running : Running) (statement : Option Statement) (after : StagedRows × Reply) → IsAnsweredBy text staged running statement after → IfRefused staged after
by_leaves text staged running None after is = rw is (answered_leaves false text staged running None)
by_leaves text staged running (Some statement) after is = rw is.1.1 (answered_leaves is.0 text staged running (Some statement))

pub refused_leaves : (text : List ℕ) (staged after : StagedRows) (running : Running) (refusal : Refusal)
    → IsAnswered text staged running (after, Refused refusal) → after ≡ staged
refused_leaves text staged after running refusal is = by_leaves text staged running (statement_of text) (after, Refused refusal) is
