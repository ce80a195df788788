-- What a statement is answered, by the steps to it.
use Rattle.std.proofs.Common.{◌≡◌, ◌∙◌, ℕ, Bool, List, Option, Some, None, Result, Ok, Err, IfOk, ap, subst, sym}
use Rattle.mx_base.specs.declared.memory.OutOfMemory.{OutOfMemory}
use Rattle.admin_port.specs.Answers.{IsAnswered, IsAnsweredBy, Reply, answered_by, done_or, reply_of, rows_or, unknown}
use Rattle.admin_port.specs.Answers.Reply.{Done, Rows, Refused}
use Rattle.admin_port.specs.Patterns.{ArePatterned, patterns_of}
use Rattle.admin_port.specs.Selecting.{selected}
use Rattle.admin_port.specs.Sheets.{Sheet}
use Rattle.admin_port.specs.Staged.{StagedRows}
use Rattle.admin_port.specs.Statements.{statement_of}
use Rattle.admin_port.specs.declared.answer.Answer.{Answer}
use Rattle.admin_port.specs.declared.answer.Refusal.{Refusal}
use Rattle.admin_port.specs.declared.running.Running.{Running}
use Rattle.admin_port.specs.declared.statement.Query.{Query}
use Rattle.admin_port.specs.declared.statement.Statement.{Statement}

-- what is said, or a refusal

pub rows_said : (refusal : Refusal) (said : Option Sheet) (read : Sheet) → said ≡ Some read → Rows read ≡ rows_or refusal said
rows_said refusal said read is = ap (rows_or refusal) (sym is)

pub none_said : (refusal : Refusal) (said : Option Sheet) (reply : Reply) → said ≡ None → reply ≡ Refused refusal → reply ≡ rows_or refusal said
none_said refusal said reply is refused = refused ∙ ap (rows_or refusal) (sym is)

pub done_said : (staged new : StagedRows) (refusal : Refusal) (said : Option StagedRows) → said ≡ Some new → (new, Done) ≡ done_or staged refusal said
done_said staged new refusal said is = ap (done_or staged refusal) (sym is)

pub kept_said : (staged new : StagedRows) (refusal : Refusal) (said : Option StagedRows) → said ≡ None → new ≡ staged → (new, Refused refusal) ≡ done_or staged refusal said
kept_said staged new refusal said is same = subst (λ (o : Option StagedRows). (new, Refused refusal) ≡ done_or staged refusal o) (sym is) (λ i. (same i, Refused refusal))

-- what is read of a table that was shown
pub rows_read : (refusal : Refusal) (query : Query) (table whole read : Sheet) → table ≡ whole → selected query table ≡ Some read → Rows read ≡ rows_or refusal (selected query whole)
rows_read refusal query table whole read same is = ap (rows_or refusal) (sym is ∙ ap (selected query) same)

pub none_read : (refusal : Refusal) (query : Query) (table whole : Sheet) (reply : Reply) → table ≡ whole → selected query table ≡ None → reply ≡ Refused refusal
    → reply ≡ rows_or refusal (selected query whole)
none_read refusal query table whole reply same is refused = refused ∙ ap (rows_or refusal) (sym is ∙ ap (selected query) same)

pub tested : (text : List ℕ) (staged after : StagedRows) (running : Running) (statement : Statement) (patterned : Bool) (result : Result Answer OutOfMemory)
    → ArePatterned patterned (patterns_of statement) → IfOk result (λ answer. (after, reply_of answer) ≡ answered_by patterned text staged running (Some statement))
    → IfOk result (λ answer. IsAnsweredBy text staged running (Some statement) (after, reply_of answer))
tested text staged after running statement patterned (Err refused) are is = tt
tested text staged after running statement patterned (Ok answer) are is = (patterned, (are, is))

pub answered_some : (text : List ℕ) (staged after : StagedRows) (running : Running) (statement : Statement) (result : Result Answer OutOfMemory) → statement_of text ≡ Some statement
    → IfOk result (λ answer. IsAnsweredBy text staged running (Some statement) (after, reply_of answer)) → IfOk result (λ answer. IsAnswered text staged running (after, reply_of answer))
answered_some text staged after running statement result read is =
    subst (λ (found : Option Statement). IfOk result (λ answer. IsAnsweredBy text staged running found (after, reply_of answer))) (sym read) is

pub answered_none : (text : List ℕ) (staged after : StagedRows) (running : Running) (result : Result Answer OutOfMemory) → statement_of text ≡ None → after ≡ staged
    → IfOk result (λ answer. reply_of answer ≡ Refused (unknown text)) → IfOk result (λ answer. IsAnswered text staged running (after, reply_of answer))
answered_none text staged after running (Err refused) read same is = tt
answered_none text staged after running (Ok answer) read same is =
    subst (λ (found : Option Statement). IsAnsweredBy text staged running found (after, reply_of answer)) (sym read) (λ i. (same i, is i))

pub ruleset answered = (rows_said, none_said, done_said, kept_said, rows_read, none_read, tested, answered_some, answered_none)
