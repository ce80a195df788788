-- What begins on a link, as code has it to write next and as the law takes it.
use Rattle.std.specs.Prelude.{◌≡◌, ℕ, Bool, true, false, suc, ◌||◌, List, [], ◌∷◌, Option, Some, None}
use Rattle.reply_relay.specs.Cells.{CellRead, new_cell}
use Rattle.private_model.specs.Commands.{Quit}
use Rattle.private_model.specs.Names.{LinkId}
use Rattle.private_model.specs.Story.{Happening, Question, Sent, Unprepared, command_of}
use Rattle.private_model.specs.View.{Link, View}
use Rattle.log_story.specs.Honest.{number_for}
use Rattle.log_story.specs.Plan as plan
use Rattle.log_story.specs.Plan.{StepText, step_payload, text_payload}
use Rattle.log_story.specs.Tale.{Wire}
use Rattle.server_rule.specs.Classes.{Reads}
use Rattle.link_state.specs.Asks.{lent_for}
use Rattle.link_state.specs.Spells.{spelt}
use Rattle.link_state.specs.declared.asking.Asking.{Asking}
use Rattle.link_state.specs.declared.asking.Form.{Form}
use Rattle.link_state.specs.declared.asking.Form.TheVariants.{ReadId}
use Rattle.link_state.specs.declared.state.Carried.{Carried}
use Rattle.link_state.specs.declared.state.Carried.TheVariants.{Nobody, Lent}
use Rattle.link_state.specs.declared.writing.Writing.{Writing}
use Rattle.link_laws.specs.Stands.{Codes, IsAsking}
use Rattle.lent_link.specs.declared.link.Begins.{Begins}
use Rattle.lent_link.specs.declared.link.Begins.TheVariants as begins
use Rattle.served_link.specs.declared.row.Row.{Row}
use Rattle.row_laws.specs.Whose.{IsFor, OfStatement}
use Rattle.row_laws.specs.Written.{spelt_as}

-- the wire as these bytes begin something, by the step that this is, and whether that is the QUIT
abbrev pub wire_begun : (bytes : List ℕ) → (step : Option StepText) → (quits : Bool) → Wire → Wire
wire_begun bytes step quits wire = record wire { written = bytes; step = step; begun = suc wire.begun; quits = wire.quits || quits }

-- no step of its own stands beside a question
abbrev pub IsNoStep : Option StepText → Type 0
IsNoStep None = Unit {0}
IsNoStep (Some (plan.Asks command)) = Unit {0}
IsNoStep _ = ⊥

abbrev pub IsNext : Option Writing → List ℕ → Type 0
IsNext None said = ⊥
IsNext (Some w) said = w.bytes ≡ said

-- what is read of the answer to a question for an insert id
abbrev pub IsCellNext : Form → Option CellRead → Type 0
IsCellNext ReadId cell = cell ≡ Some new_cell
IsCellNext _ cell = Unit {0}

-- a link that carries nobody is lent to a session that its client has at present
abbrev pub IsLender : View → Carried → Carried → Type 0
IsLender seen Nobody (Lent n) = n.life ≡ seen.lives n.client n.hostgroup
IsLender seen _ _ = Unit {0}

-- What stands next on a link is a question: what is asked, its spelling, what a rule says of sharing the link behind it, and the cell where a
-- number is read of its answer. That stays so until it begins.
pub record IsReadiedBy (reads : Reads) (codes : Codes) (writing : Option Writing) (multiplex : Option Bool) (cell : Option CellRead) (link : Link)
    (asking : Asking) (question : Question) : Type 0 where
  pub asks : IsAsking reads codes asking question
  pub spelt_so : IsNext writing (spelt_as (command_of question) (number_for question link.live))
  pub shared : OfStatement question (λ n due. multiplex ≡ due.multiplex)
  pub cell_so : IsCellNext asking.form cell

abbrev pub IsReadied : Reads → Codes → Row → Link → Asking → Question → Type 0
IsReadied reads codes row link asking question = IsReadiedBy reads codes row.link.writing row.multiplex row.cell link asking question

-- It begins: of no session that was left, where it is a statement.
pub record IsAsked (reads : Reads) (codes : Codes) (seen : View) (row : Row) (link : Link) (asking : Asking) (question : Question)
    (step : Option StepText) : Type 0 where
  pub said : IsReadied reads codes row link asking question
  pub step_none : IsNoStep step
  pub for : IsFor asking.purpose (lent_for asking.purpose row.link.state.carries)
  pub lender : IsLender seen row.link.state.carries (lent_for asking.purpose row.link.state.carries)
  pub present : OfStatement question (λ n due. row.left ≡ None)

-- What begins with a byte, by what code has next: what is told of it, the step that it is, and whether it is the QUIT. Nothing else begins on
-- a link that is spoilt.
abbrev pub IsBeginning : Begins → Reads → Codes → View → LinkId → Row → Link → List Happening → (step : Option StepText) → (quits : Bool) → Type 0
IsBeginning (begins.Asks asking) reads codes seen l row link happens step quits =
    (question : Question) × (happens ≡ Sent l question ∷ []) × IsAsked reads codes seen row link asking question step
    × (quits ≡ false) × (row.link.spoilt ≡ false)
IsBeginning (begins.Closes number) reads codes seen l row link happens step quits =
    (happens ≡ Unprepared l number ∷ []) × (step ≡ Some (plan.Closes number)) × IsNext row.link.writing (spelt (step_payload (plan.Closes number)))
    × (quits ≡ false) × (row.link.spoilt ≡ false)
IsBeginning (begins.Resets number) reads codes seen l row link happens step quits =
    (happens ≡ []) × (step ≡ Some (plan.Resets number)) × IsNext row.link.writing (spelt (step_payload (plan.Resets number)))
    × (quits ≡ false) × (row.link.spoilt ≡ false)
IsBeginning begins.Quits reads codes seen l row link happens step quits =
    (happens ≡ []) × IsNoStep step × IsNext row.link.writing (spelt (text_payload Quit)) × (quits ≡ true)
