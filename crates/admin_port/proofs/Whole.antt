-- Each table that is answered has columns, and a cell for each of them in each row.
use Rattle.std.proofs.Common.{◌≡◌, ◌<◌, ◌++◌, ◌∷◌, [], ℕ, Bool, true, false, List, length, map, get_or, All, IfOk, IfSome, Option, Some, None, Result, Ok, Err, refl, sym, ◌∙◌, subst, nat_eq, codes, if◌then◌else◌, zero-lt-suc, decimal}
use Rattle.std.specs.Prelude.{option_map}
use Rattle.std.proofs.Math.ListN.{get_or-map}
use Rattle.std.proofs.lemmas.List.{length-map}
use Rattle.std.proofs.lemmas.List.Elements.{All-cons, All-filter, All-map, All-nil, All-take}
use Rattle.hostgroups.specs.declared.row.ServerName.{ServerName}
use Rattle.mx_base.specs.declared.names.ClientNo.{ClientNo}
use Rattle.mx_base.specs.Steps.{◌>>=◌}
use Rattle.mx_base.specs.declared.memory.OutOfMemory.{OutOfMemory}
use Rattle.admin_port.specs.Answers.{HasWholeTable, IsAnswered, IsAnsweredBy, Reply, answered_by, done_or, is_quick, like, one_column, reply_of, rows_or, table_names, unknown, variables, variables_sheet, refusal_for}
use Rattle.admin_port.specs.Answers.Reply.{Done, Rows, Refused, Loads, ShutsDown}
use Rattle.admin_port.specs.RowValues.{cell_of, rule_columns, server_columns}
use Rattle.admin_port.specs.Selecting.{at_places, cell_at, columns_at, count_sheet, kept, limited, named_sheet, picked_sheet, place_in, places_from, same_cell, selected}
use Rattle.admin_port.specs.Sheets.{Cell, IsWhole, Sheet, digest_cells, digest_columns, event_cells, event_columns, kind_text, named_cells, number_cell, place_cells, pool_cells, pool_columns, process_cells, process_columns, rule_cells, server_cells, sheet, sheet_of, shown, state_text, total_columns}
use Rattle.admin_port.specs.Staged.{StagedRows, changed}
use Rattle.admin_port.specs.Statements.{statement_of}
use Rattle.admin_port.specs.declared.answer.Answer.{Answer}
use Rattle.admin_port.specs.declared.answer.Answer.TheVariants as answers
use Rattle.admin_port.specs.declared.answer.Refusal.{Refusal}
use Rattle.admin_port.specs.declared.pair.Pair.{Pair}
use Rattle.admin_port.specs.declared.running.EventRow.{EventRow}
use Rattle.admin_port.specs.declared.running.NamedRow.{NamedRow}
use Rattle.admin_port.specs.declared.running.ProcessRow.{ProcessRow}
use Rattle.admin_port.specs.declared.running.Running.{Running}
use Rattle.admin_port.specs.declared.statement.Picked.{Picked}
use Rattle.admin_port.specs.declared.statement.Picked.TheVariants as picks
use Rattle.admin_port.specs.declared.statement.Query.{Query}
use Rattle.admin_port.specs.declared.statement.ShownTable.{ShownTable}
use Rattle.admin_port.specs.declared.statement.ShownTable.TheVariants.{Servers, RuntimeServers, Rules, RuntimeRules, Digests, Pool, Processes, Totals, Events}
use Rattle.admin_port.specs.declared.statement.Statement.{Statement}
use Rattle.admin_port.specs.declared.statement.Statement.TheVariants.{Select, Stage, Load, ShowTables, ShowVariables, VersionComment, Accepted, Shutdown}
use Rattle.reply_text.specs.declared.table.Table.{Table}

-- The same of what is seen of a table.
abbrev pub Full : Sheet → Type 0
Full s = (0 < length s.columns) × All (λ row. length row ≡ length s.columns) s.rows

-- Steps of which each may give nothing.

each_of : {A B : Type 0} (P : B → Type 0) (o : Option A) (next : A → Option B) → ((x : A) → IfSome (next x) P) → IfSome (o >>= next) P
each_of P None next each = tt
each_of P (Some x) next each = each x

each_from : {A B : Type 0} (Q : A → Type 0) (P : B → Type 0) (o : Option A) (next : A → Option B) → IfSome o Q → ((x : A) → Q x → IfSome (next x) P) → IfSome (o >>= next) P
each_from Q P None next some each = tt
each_from Q P (Some x) next some each = each x some

each_if : {B : Type 0} (P : B → Type 0) (yes : Bool) (o : Option B) → IfSome o P → IfSome (if yes then o else None) P
each_if P true o some = some
each_if P false o some = tt

-- Tables as they are.

full_sheet : {X : Type 0} (columns : List (List ℕ)) (cells : X → List Cell) (rows : List X) → 0 < length columns → ((row : X) → length (cells row) ≡ length columns) → Full (sheet columns cells rows)
full_sheet columns cells rows some each = (some, All-map (λ row. length row ≡ length columns) cells rows (λ k d h. each _))

process_count : (row : ProcessRow) → length (process_cells row) ≡ 8
process_count row = by row.server where
  by : (server : Option ServerName)
      → length ((number_cell row.client.0 ∷ Some row.user ∷ []) ++ (place_cells server ++ (Some (state_text row.state) ∷ option_map decimal row.time_ms ∷ row.pinned_by ∷ []))) ≡ 8
  by None = refl
  by (Some server) = refl

event_count : (row : EventRow) → length (event_cells row) ≡ 8
event_count row = by row.server where
  by : (server : Option ServerName)
      → length ((number_cell row.moment_ms ∷ Some (kind_text row.kind) ∷ option_map (λ (client : ClientNo). decimal client.0) row.client ∷ [])
      ++ (place_cells server ++ (option_map decimal row.code ∷ Some row.text ∷ []))) ≡ 8
  by None = refl
  by (Some server) = refl

shown_full : (table : ShownTable) (staged : StagedRows) (running : Running) → Full (shown table staged running)
shown_full Servers staged running = full_sheet server_columns server_cells staged.servers (zero-lt-suc 5) (λ row. refl)
shown_full RuntimeServers staged running = full_sheet server_columns server_cells running.servers.now (zero-lt-suc 5) (λ row. refl)
shown_full Rules staged running = full_sheet rule_columns rule_cells staged.rules (zero-lt-suc 16) (λ row. refl)
shown_full RuntimeRules staged running = full_sheet rule_columns rule_cells running.rules.now (zero-lt-suc 16) (λ row. refl)
shown_full Digests staged running = full_sheet digest_columns digest_cells running.digests.now (zero-lt-suc 5) (λ row. refl)
shown_full Pool staged running = full_sheet pool_columns pool_cells running.pool.now (zero-lt-suc 5) (λ row. refl)
shown_full Processes staged running = full_sheet process_columns process_cells running.processes.now (zero-lt-suc 7) process_count
shown_full Totals staged running = full_sheet total_columns named_cells running.totals.now (zero-lt-suc 1) (λ row. refl)
shown_full Events staged running = full_sheet event_columns event_cells running.events.now (zero-lt-suc 7) event_count

-- What a SELECT reads of one.

kept_full : (condition : Option Pair) (s : Sheet) → Full s → IfSome (kept condition s) Full
kept_full None s full = full
kept_full (Some pair) s full = each_of Full (place_in s.columns pair.column) _ (λ place. (full.0, All-filter (λ (row : List Cell). same_cell (cell_at row place) (cell_of pair.value)) (λ (row : List Cell). length row ≡ length s.columns) s.rows full.1))

pushed : (before : List ℕ) (at : ℕ) → 0 < length (before ++ at ∷ [])
pushed [] at = zero-lt-suc 0
pushed (b ∷ before) at = zero-lt-suc (length (before ++ at ∷ []))

some_places : (columns : List (List ℕ)) (before : List ℕ) (names : List (List ℕ)) → 0 < length before → IfSome (places_from columns before names) (λ places. 0 < length places)
some_places columns before [] some = some
some_places columns before (name ∷ names) some = each_of (λ places. 0 < length places) (place_in columns name) _ (λ at. some_places columns (before ++ at ∷ []) names (pushed before at))

places_of_some : (columns : List (List ℕ)) (names : List (List ℕ)) → nat_eq (length names) 0 ≡ false → IfSome (places_from columns [] names) (λ places. 0 < length places)
places_of_some columns [] some = absurd (cc)
places_of_some columns (name ∷ names) some = each_of (λ places. 0 < length places) (place_in columns name) _ (λ at. some_places columns (at ∷ []) names (zero-lt-suc 0))

full_at : (columns : List (List ℕ)) (places : List ℕ) (rows : List (List Cell)) → 0 < length places → Full (sheet (columns_at columns places) (at_places places) rows)
full_at columns places rows some = full_sheet (columns_at columns places) (at_places places) rows
    (rw (length-map places (λ place. get_or columns place [])) some)
    (λ row. length-map places (cell_at row) ∙ sym (length-map places (λ place. get_or columns place [])))

named_full : (names : List (List ℕ)) (s : Sheet) → nat_eq (length names) 0 ≡ false → IfSome (named_sheet names s) Full
named_full names s some = each_from (λ places. 0 < length places) Full (places_from s.columns [] names) _ (places_of_some s.columns names some) (λ places more. full_at s.columns places s.rows more)

named_if : (none : Bool) (names : List (List ℕ)) (s : Sheet) → nat_eq (length names) 0 ≡ none → IfSome (if none then None else named_sheet names s) Full
named_if true names s is = tt
named_if false names s is = named_full names s is

picked_full : (picked : Picked) (s : Sheet) → Full s → IfSome (picked_sheet picked s) Full
picked_full picks.All s full = full
picked_full picks.Count s full = (
  zero-lt-suc 0,
  All-cons (λ (row : List Cell). length row ≡ length (count_sheet (length s.rows)).columns)
      (Some (decimal (length s.rows)) ∷ []) [] refl (All-nil (λ (row : List Cell). length row ≡ length (count_sheet (length s.rows)).columns)),
)
picked_full (picks.Columns names) s full = named_if (nat_eq (length names) 0) names s refl

limited_full : (most : Option ℕ) (s : Sheet) → Full s → Full (limited most s)
limited_full None s full = full
limited_full (Some n) s full = (full.0, All-take (λ (row : List Cell). length row ≡ length s.columns) n s.rows full.1)

selected_full : (query : Query) (s : Sheet) → Full s → IfSome (selected query s) Full
selected_full query s full = each_from Full Full (kept query.condition s) _ (kept_full query.condition s full)
    (λ left left_full. each_from Full Full (picked_sheet query.picked left) _ (picked_full query.picked left left_full) (λ picked picked_is. limited_full query.limit picked picked_is))

-- Answers.

abbrev FullReply : Reply → Type 0
FullReply (Rows s) = Full s
FullReply _ = Unit {0}

rows_or_full : (refusal : Refusal) (o : Option Sheet) → IfSome o Full → FullReply (rows_or refusal o)
rows_or_full refusal None full = tt
rows_or_full refusal (Some s) full = full

done_or_full : (staged : StagedRows) (refusal : Refusal) (o : Option StagedRows) → FullReply (done_or staged refusal o).1
done_or_full staged refusal None = tt
done_or_full staged refusal (Some new) = tt

variables_full : (pattern : Option (List ℕ)) (rows : List NamedRow) → IfSome (variables pattern rows) Full
variables_full None rows = full_sheet total_columns named_cells rows (zero-lt-suc 1) (λ row. refl)
variables_full (Some pattern) rows = each_if Full (is_quick pattern) _ (full_sheet total_columns named_cells _ (zero-lt-suc 1) (λ row. refl))

one_column_full : (name : List ℕ) (values : List (List ℕ)) → Full (one_column name values)
one_column_full name values = full_sheet (name ∷ []) (λ value. Some value ∷ []) values (zero-lt-suc 0) (λ value. refl)

answered_full : (patterned : Bool) (text : List ℕ) (staged : StagedRows) (running : Running) (statement : Option Statement) → FullReply (answered_by patterned text staged running statement).1
answered_full patterned text staged running None = tt
answered_full patterned text staged running (Some (Select query)) = rows_or_full (unknown text) _ (selected_full query _ (shown_full query.table staged running))
answered_full patterned text staged running (Some (Stage action change)) = done_or_full staged (refusal_for change.table) (changed patterned staged action change)
answered_full patterned text staged running (Some (Load table)) = tt
answered_full patterned text staged running (Some ShowTables) = one_column_full (codes "tables") table_names
answered_full patterned text staged running (Some (ShowVariables pattern)) = rows_or_full (unknown text) _ (variables_full pattern running.variables.now)
answered_full patterned text staged running (Some VersionComment) = one_column_full (codes "@@version_comment") (codes "mx_proxy" ∷ [])
answered_full patterned text staged running (Some Accepted) = tt
answered_full patterned text staged running (Some Shutdown) = tt

by_full : (text : List ℕ) (staged : StagedRows) (running : Running) (statement : Option Statement) (after : StagedRows × Reply) → IsAnsweredBy text staged running statement after → FullReply after.1
by_full text staged running None after is = rw is (answered_full false text staged running None)
by_full text staged running (Some statement) after is = rw is.1.1 (answered_full is.0 text staged running (Some statement))

-- what holds of each of the seen elements holds of each as it is seen
seen : {X Y : Type 0} (P : Y → Type 0) (f : X → Y) (xs : List X) → All P (map f xs) → All (λ x. P (f x)) xs
seen P f xs all = λ k d h. subst P (get_or-map f xs k d) (all k (f d) (rw (length-map xs f) h))

whole_answer : (answer : Answer) → FullReply (reply_of answer) → HasWholeTable answer
whole_answer answers.Done full = tt
whole_answer (answers.Rows table) full = (full.0, seen (λ row. length row ≡ length table.columns.items) (λ row. row.items) table.rows.items full.1)
whole_answer (answers.Refused refusal) full = tt
whole_answer (answers.Load table) full = tt
whole_answer answers.Shutdown full = tt

pub whole_if : (text : List ℕ) (staged after : StagedRows) (running : Running) (result : Result Answer OutOfMemory)
    → IfOk result (λ answer. IsAnswered text staged running (after, reply_of answer)) → IfOk result HasWholeTable
whole_if text staged after running (Err refused) is = tt
whole_if text staged after running (Ok answer) is = whole_answer answer (by_full text staged running (statement_of text) (after, reply_of answer) is)
