-- What an administrator's statement may make.
use Rattle.std.specs.Prelude.{◌≡◌, ◌≢◌, ◌≤◌, ◌<◌, ◌-◌, ◌+◌, ◌⊎◌, ℕ, zero, suc, All, Bool, true, false, nat_lt, slice_get, slice_index_or, List, [], ◌∷◌, Option, Some, None}
use Rattle.std.proofs.Common.{refl, sym, ap, subst, ◌∙◌, arith, inl, inr}
use Rattle.std.proofs.lemmas.Bool.{ltb-false, ltb-true}
use Rattle.mx_base.specs.declared.names.Port.{Port}
use Rattle.mx_base.specs.declared.names.Port.TheVariants.{Traffic}
use Rattle.packet_frame.specs.Packets.{Framed}
use Rattle.std.proofs.lemmas.Option.{none-some, get_or_from_slice_get, same_Some, slice_get_within}
use Rattle.router_promises.proofs.Refusals.{at-index}
use Rattle.query_rules.specs.declared.rule.Rule.{Rule}
use Rattle.admin_port.specs.Answers.{IsAnsweredBy, Reply, answered_by, done_or, refusal_for, rows_or, unknown, variables}
use Rattle.admin_port.specs.Answers.Reply.{Done, Rows, Refused, Loads, ShutsDown}
use Rattle.admin_port.specs.Selecting.{selected}
use Rattle.admin_port.specs.Sheets.{Sheet, shown}
use Rattle.admin_port.specs.Staged.{StagedRows, changed}
use Rattle.admin_port.specs.Statements.{statement_of}
use Rattle.admin_port.specs.declared.answer.Refusal.{Refusal}
use Rattle.admin_port.specs.declared.running.Running.{Running}
use Rattle.admin_port.specs.declared.statement.Query.{Query}
use Rattle.admin_port.specs.declared.statement.StagedTable.TheVariants as tables
use Rattle.admin_port.specs.declared.statement.Statement.{Statement}
use Rattle.admin_port.specs.declared.statement.Statement.TheVariants.{Select, Stage, Load, ShowTables, ShowVariables, VersionComment, Accepted, Shutdown}
use Rattle.log_story.specs.Owed.{messages, name_of}
use Rattle.log_story.specs.Plan.{Plan}
use Rattle.log_story.specs.Tale.{Client}
use Rattle.router_promises.specs.Takings.{Taking}
use Rattle.core_promises.specs.Administered.{AllTaken, AreTaken, IsTaken, MakesIf, Outcomes, taken_at}
use Rattle.core_promises.specs.Administers.{Administered, IsDone, IsStatementAnswer, Makes}

-- What isn't answered by an OK of its own changes nothing that is staged.

abbrev LeavesBut : (staged after : StagedRows) → Reply → Type 0
LeavesBut staged after Done = Unit {0}
LeavesBut staged after (Rows s) = after ≡ staged
LeavesBut staged after (Refused refusal) = after ≡ staged
LeavesBut staged after (Loads table) = after ≡ staged
LeavesBut staged after ShutsDown = after ≡ staged

same_leaves : (staged : StagedRows) (reply : Reply) → LeavesBut staged staged reply
same_leaves staged Done = tt
same_leaves staged (Rows s) = refl
same_leaves staged (Refused refusal) = refl
same_leaves staged (Loads table) = refl
same_leaves staged ShutsDown = refl

staged_leaves : (staged : StagedRows) (refusal : Refusal) (made : Option StagedRows)
    → LeavesBut staged (done_or staged refusal made).0 (done_or staged refusal made).1
staged_leaves staged refusal None = refl
staged_leaves staged refusal (Some new) = tt

answered_leaves : (patterned : Bool) (text : List ℕ) (staged : StagedRows) (running : Running) (statement : Option Statement)
    → LeavesBut staged (answered_by patterned text staged running statement).0 (answered_by patterned text staged running statement).1
answered_leaves patterned text staged running None = refl
answered_leaves patterned text staged running (Some (Select query)) =
    same_leaves staged (rows_or (unknown text) (selected query (shown query.table staged running)))
answered_leaves patterned text staged running (Some (Stage action change)) =
    staged_leaves staged (refusal_for change.table) (changed patterned staged action change)
answered_leaves patterned text staged running (Some (Load table)) = refl
answered_leaves patterned text staged running (Some ShowTables) = refl
answered_leaves patterned text staged running (Some (ShowVariables pattern)) =
    same_leaves staged (rows_or (unknown text) (variables pattern running.variables.now))
answered_leaves patterned text staged running (Some VersionComment) = refl
answered_leaves patterned text staged running (Some Accepted) = tt
answered_leaves patterned text staged running (Some Shutdown) = refl

abbrev LeavesPair : StagedRows → StagedRows × Reply → Type 0
LeavesPair staged after = LeavesBut staged after.0 after.1

by_leaves : (text : List ℕ) (staged : StagedRows) (running : Running) (statement : Option Statement) (after : StagedRows × Reply)
    → IsAnsweredBy text staged running statement after → LeavesPair staged after
by_leaves text staged running None after is = subst (LeavesPair staged) (sym is) (answered_leaves false text staged running None)
by_leaves text staged running (Some statement) after is =
    subst (LeavesPair staged) (sym is.1.1) (answered_leaves is.0 text staged running (Some statement))

pub refused_stays : (text : List ℕ) (was is : Administered) (reply : Reply) → IsStatementAnswer text was is reply → reply ≢ Done → is.staged ≡ was.staged
refused_stays text was is reply answer other =
    by answer.wanted (by_leaves text was.staged answer.running (statement_of text) (is.staged, answer.wanted) answer.answered) answer.done where
      by : (wanted : Reply) → LeavesBut was.staged is.staged wanted → IsDone wanted reply → is.staged ≡ was.staged
      by Done leaves done = absurd (other done)
      by (Rows s) leaves done = leaves
      by (Refused refusal) leaves done = leaves
      by (Loads table) leaves done = leaves
      by ShutsDown leaves done = leaves

-- nothing but a LOAD of rules changes which are in force
pub only_loads : (text : List ℕ) (was is : Administered) (reply : Reply) → IsStatementAnswer text was is reply → reply ≢ Loads tables.Rules → is.rules ≡ was.rules
only_loads text was is Done answer other = answer.forces
only_loads text was is (Rows s) answer other = answer.forces
only_loads text was is (Refused refusal) answer other = answer.forces
only_loads text was is (Loads tables.Rules) answer other = absurd (other refl)
only_loads text was is (Loads tables.Servers) answer other = answer.forces
only_loads text was is ShutsDown answer other = answer.forces

-- A table that is read is that of the staged rows.

read_done : (text : List ℕ) (table : Option Sheet) (wanted reply : Reply) → wanted ≡ rows_or (unknown text) table → IsDone wanted reply
    → reply ≡ rows_or (unknown text) table
read_done text None wanted reply is done = subst (λ (w : Reply). IsDone w reply) is done
read_done text (Some s) wanted reply is done = subst (λ (w : Reply). IsDone w reply) is done

pub reads_staged : (text : List ℕ) (was is : Administered) (reply : Reply) (query : Query) (answer : IsStatementAnswer text was is reply)
    → statement_of text ≡ Some (Select query) → reply ≡ rows_or (unknown text) (selected query (shown query.table was.staged answer.running))
reads_staged text was is reply query answer reads =
    let by : IsAnsweredBy text was.staged answer.running (Some (Select query)) (is.staged, answer.wanted) =
    subst (λ (s : Option Statement). IsAnsweredBy text was.staged answer.running s (is.staged, answer.wanted)) reads answer.answered in
    read_done text (selected query (shown query.table was.staged answer.running)) answer.wanted reply
    (ap (λ (after : StagedRows × Reply). after.1) by.1.1) answer.done

-- A message is judged by the rules that were in force before its entry.

from-first : (first k : ℕ) → first ≤ k → (first ≡ k) ⊎ (suc first ≤ k)
from-first first k least = by (nat_lt first k) refl where
  by : (b : Bool) → nat_lt first k ≡ b → (first ≡ k) ⊎ (suc first ≤ k)
  by true less = inr (let more : first < k = ltb-true first k less in omega (arith, more))
  by false not = inl (let most : k ≤ first = ltb-false first k not in omega (arith, most, least))

module _ (outcomes : Outcomes) (plan : Plan) (takings : List Taking) (force : List Rule) where
  taken_judged : (client : Client) (first count : ℕ) (was is : Administered) → AreTaken outcomes plan takings force client first count was is → (k : ℕ)
      → first ≤ k → k < first + count → outcomes.rules (name_of client (suc k)) ≡ force
  taken_judged client first zero was is taken k least less = absurd (omega (arith, least, less))
  taken_judged client first (suc count) was is taken k least less = elim (from-first first k least) [
    | inl here ↦ subst (λ (n : ℕ). outcomes.rules (name_of client (suc n)) ≡ force) here taken.1.0.judged
    | inr later ↦ taken_judged client (suc first) count taken.0 is taken.1.1 k later (omega (arith, less))
  ]

  pub all_judged : (before now : List Client) (was is : Administered) → AllTaken outcomes plan takings force before now was is → (i k : ℕ) (client : Client)
      → slice_get now i ≡ Some client → taken_at before i ≤ k → k < client.taken → outcomes.rules (name_of client (suc k)) ≡ force
  all_judged before [] was is all i k client at least less = absurd (none-some client at)
  all_judged [] (first ∷ now) was is all zero k client at least less =
      let same : first ≡ client = same_Some first client at in
      subst (λ (c : Client). k < c.taken → outcomes.rules (name_of c (suc k)) ≡ force) same
      (λ within. taken_judged first 0 first.taken was all.0 all.1.0 k (omega arith) (omega (arith, within))) less
  all_judged [] (first ∷ now) was is all (suc i) k client at least less = all_judged [] now all.0 is all.1.1 i k client at least less
  all_judged (old ∷ before) (first ∷ now) was is all zero k client at least less =
      let same : first ≡ client = same_Some first client at in
      subst (λ (c : Client). k < c.taken → outcomes.rules (name_of c (suc k)) ≡ force) same
      (λ within. taken_judged first old.taken (first.taken - old.taken) was all.0 all.1.0 k least (omega (arith, within, least))) less
  all_judged (old ∷ before) (first ∷ now) was is all (suc i) k client at least less = all_judged before now all.0 is all.1.1 i k client at least less

-- Where no message of an administrator is taken up nothing changes.

slice_get_is : {A : Type 0} (xs : List A) (k : ℕ) (x : A) → slice_get xs k ≡ Some x → slice_index_or xs k x ≡ x
slice_get_is xs k x is = get_or_from_slice_get xs k x x is

quiet_if : (found : Option Framed) (port : Port) (answer : Option (List (List ℕ))) (was is : Administered) → port ≡ Traffic → MakesIf found port answer was is
    → is ≡ was
quiet_if None port answer was is traffic makes = makes
quiet_if (Some message) port answer was is traffic makes = subst (λ (p : Port). Makes p message.payload answer was is) traffic makes

module _ (outcomes : Outcomes) (plan : Plan) (takings : List Taking) (force : List Rule)
    (quiet : All (λ (taking : Taking). taking.client.port ≡ Traffic) takings) where
  quiet_one : (client : Client) (k : ℕ) (was is : Administered) → IsTaken outcomes plan takings force client k was is → is ≡ was
  quiet_one client k was is taken =
      quiet_if (slice_get (messages plan client) k) taken.taking.client.port (outcomes.answers (name_of client (suc k))) was is
      (at-index (λ (taking : Taking). taking.client.port ≡ Traffic) takings taken.among.place taken.taking quiet
      (slice_get_within takings taken.among.place taken.taking taken.among.there)
      (slice_get_is takings taken.among.place taken.taking taken.among.there)) taken.makes

  quiet_of : (client : Client) (k count : ℕ) (was is : Administered) → AreTaken outcomes plan takings force client k count was is → is ≡ was
  quiet_of client k zero was is taken = taken
  quiet_of client k (suc count) was is taken = quiet_of client (suc k) count taken.0 is taken.1.1 ∙ quiet_one client k was taken.0 taken.1.0

  pub quiet_all : (before now : List Client) (was is : Administered) → AllTaken outcomes plan takings force before now was is → is ≡ was
  quiet_all before [] was is all = all
  quiet_all [] (client ∷ clients) was is all = quiet_all [] clients all.0 is all.1.1 ∙ quiet_of client 0 client.taken was all.0 all.1.0
  quiet_all (old ∷ before) (client ∷ clients) was is all =
      quiet_all before clients all.0 is all.1.1 ∙ quiet_of client old.taken (client.taken - old.taken) was all.0 all.1.0
