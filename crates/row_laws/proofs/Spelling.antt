-- What code has stand next is what the law's question is spelt as.
use Rattle.std.specs.Prelude.{◌≡◌, ℕ, ◌∷◌, ◌++◌, List, codes as text_of, decimal, Option, Some, None}
use Rattle.std.proofs.Common.{refl, sym, ap, ◌∙◌}
use Rattle.pin_classifier.specs.Classes.{class_of as class_read}
use Rattle.reply_relay.specs.Cells.{CellRead}
use Rattle.server_rule.specs.Classes.{Reads}
use Rattle.private_model.specs.Commands.{Command, FieldList, InitDb, Prepare, Query, Quit, ReadId, Reset, Run, SetId}
use Rattle.private_model.specs.Story as story
use Rattle.private_model.specs.Story.{Due, Question, command_of}
use Rattle.private_model.specs.Names.{SessionName}
use Rattle.private_model.specs.View.{Link}
use Rattle.link_state.specs.Classes.{use_class}
use Rattle.link_state.specs.Spells.{spelt}
use Rattle.link_state.specs.declared.asking.Form.{Form}
use Rattle.link_state.specs.declared.asking.Form.TheVariants as forms
use Rattle.link_state.specs.declared.asking.Purpose.{Purpose}
use Rattle.link_state.specs.declared.asking.Purpose.TheVariants as purposes
use Rattle.link_state.specs.declared.wish.Wish.{Wish}
use Rattle.link_state.specs.declared.wish.Wish.TheVariants as wishes
use Rattle.link_laws.specs.Stands.{Codes, IsForm, IsPurpose}
use Rattle.served_link.specs.Begins.{captures, ends, prepares, step_begins}
use Rattle.served_link.specs.States.{purpose_of, states}
use Rattle.served_link.specs.declared.row.Row.{Row}
use Rattle.served_link.specs.declared.stating.Stated.{Stated}
use Rattle.row_laws.specs.Begins.{IsCellNext, IsNext, IsReadied}
use Rattle.row_laws.specs.Readied.{AreClasses, IsClients, IsSaid, IsStepFor, IsWished, form_of}
use Rattle.row_laws.specs.Written.{spelt_as}

-- Steps.

form_so : (reads : Reads) (wish : Wish) (command : Command) → AreClasses reads → IsWished wish command → IsForm reads (form_of wish) command
form_so reads (wishes.Schema schema) (InitDb there) are is = ap use_class is
form_so reads (wishes.Settings text) (Query there) are is = record {
  is = ap class_read is ∙ sym (are.class there);
  hides = ap (λ (t : List ℕ). (class_read t).sets_id) is ∙ sym (are.hides there);
}
form_so reads (wishes.SetId id) (SetId n) are is = is
form_so reads _ _ are is = absurd is

said_so : (wish : Wish) (command : Command) (purpose : Purpose) (row : Row) → IsWished wish command
    → IsNext (step_begins purpose wish row).link.writing (spelt_as command None)
said_so (wishes.Schema schema) (InitDb there) purpose row is = ap (λ (t : List ℕ). spelt (2 ∷ t)) is
said_so (wishes.Settings text) (Query there) purpose row is = ap (λ (t : List ℕ). spelt (3 ∷ t)) is
said_so (wishes.SetId id) (SetId n) purpose row is = ap (λ (k : ℕ). spelt (3 ∷ (text_of "SET SESSION last_insert_id = " ++ decimal k))) is
said_so _ _ purpose row is = absurd is

cell_any : (wish : Wish) (command : Command) (cell : Option CellRead) → IsWished wish command → IsCellNext (form_of wish) cell
cell_any (wishes.Schema schema) (InitDb there) cell is = tt
cell_any (wishes.Settings text) (Query there) cell is = tt
cell_any (wishes.SetId id) (SetId n) cell is = tt
cell_any _ _ cell is = absurd is

pub step_so : (reads : Reads) (codes : Codes) (row : Row) (link : Link) (purpose : Purpose) (wish : Wish) (question : Question) → AreClasses reads
    → IsStepFor purpose → IsPurpose codes purpose question → IsWished wish (command_of question)
    → IsReadied reads codes (step_begins purpose wish row) link (record { purpose = purpose; form = form_of wish }) question
step_so reads codes row link (purposes.Sync name) wish (story.Sync n command) are step for is = record {
  asks = record { purpose = for; form = form_so reads wish command are is };
  spelt_so = said_so wish command (purposes.Sync name) row is;
  shared = tt;
  cell_so = cell_any wish command (step_begins (purposes.Sync name) wish row).cell is;
}
step_so reads codes row link purposes.Own wish (story.Own command) are step for is = record {
  asks = record { purpose = for; form = form_so reads wish command are is };
  spelt_so = said_so wish command purposes.Own row is;
  shared = tt;
  cell_so = cell_any wish command (step_begins purposes.Own wish row).cell is;
}
step_so reads codes row link (purposes.Sync name) wish _ are step for is = absurd for
step_so reads codes row link purposes.Own wish _ are step for is = absurd for
step_so reads codes row link _ wish _ are step for is = absurd step

-- Preparations, ends and captures.

pub prep_so : (reads : Reads) (codes : Codes) (row : Row) (link : Link) (name n : SessionName) (ordinal number key : ℕ) (text there : List ℕ)
    → AreClasses reads → IsPurpose codes (purposes.Prep name ordinal number) (story.Prep n key there) → text ≡ there
    → IsReadied reads codes (prepares name ordinal number text row) link
    (record { purpose = purposes.Prep name ordinal number; form = forms.Prepare (class_read text) }) (story.Prep n key there)
prep_so reads codes row link name n ordinal number key text there are for is = record {
  asks = record {
    purpose = for;
    form = record {
      is = ap class_read is ∙ sym (are.class there);
      hides = ap (λ (t : List ℕ). (class_read t).sets_id) is ∙ sym (are.hides there);
    };
  };
  spelt_so = ap (λ (t : List ℕ). spelt (0x16 ∷ t)) is;
  shared = tt;
  cell_so = tt;
}

pub end_so : (reads : Reads) (codes : Codes) (row : Row) (link : Link) (name n : SessionName) → name ≡ n
    → IsReadied reads codes (ends name row) link (record { purpose = purposes.End name; form = forms.Reset }) (story.End n)
end_so reads codes row link name n for = record { asks = record { purpose = for; form = tt }; spelt_so = refl; shared = tt; cell_so = tt }

pub capture_so : (reads : Reads) (codes : Codes) (row : Row) (link : Link) (name n : SessionName) → name ≡ n
    → IsReadied reads codes (captures name row) link (record { purpose = purposes.Capture name; form = forms.ReadId }) (story.Capture n)
capture_so reads codes row link name n for = record { asks = record { purpose = for; form = tt }; spelt_so = refl; shared = tt; cell_so = refl }

-- Statements.

stated_as : (command : Command) (number : Option ℕ) (said : List ℕ) → IsSaid command number said → said ≡ spelt_as command number
stated_as (Run text schema settings args) None said is = absurd is
stated_as (Run text schema settings args) (Some number) said is = is
stated_as (Query text) number said is = is
stated_as (InitDb schema) number said is = is
stated_as (FieldList rest) number said is = is
stated_as (SetId n) number said is = is
stated_as ReadId number said is = is
stated_as (Prepare text) number said is = is
stated_as Reset number said is = is
stated_as Quit number said is = is

no_cell : (form : Form) (cell : Option CellRead) → IsClients form → IsCellNext form cell
no_cell (forms.Text class) cell is = tt
no_cell forms.Fields cell is = tt
no_cell (forms.Prepare class) cell is = tt
no_cell (forms.SetId id) cell is = tt
no_cell forms.ReadId cell is = absurd is
no_cell forms.Reset cell is = tt

pub statement_so : (reads : Reads) (codes : Codes) (row : Row) (link : Link) (s : Stated) (form : Form) (said : List ℕ) (n : SessionName) (due : Due)
    → IsPurpose codes (purpose_of s) (story.Statement n due) → IsForm reads form due.command → IsClients form
    → IsSaid due.command (link.live due.key) said → s.multiplex ≡ due.multiplex
    → IsReadied reads codes (states s form said row) link (record { purpose = purpose_of s; form = form }) (story.Statement n due)
statement_so reads codes row link s form said n due for is clients so shared = record {
  asks = record { purpose = for; form = is };
  spelt_so = stated_as due.command (link.live due.key) said so;
  shared = shared;
  cell_so = no_cell form (states s form said row).cell clients;
}
