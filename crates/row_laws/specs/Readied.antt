-- What a wish or a statement of code is, as the law's command.
use Rattle.std.specs.Prelude.{◌≡◌, ℕ, List, Option, Some, None}
use Rattle.pin_classifier.specs.Classes.{class_of}
use Rattle.server_rule.specs.Classes.{Reads}
use Rattle.private_model.specs.Commands.{Args, Command, InitDb, Query, Run, SetId}
use Rattle.log_story.specs.Plan.{text_payload}
use Rattle.link_state.specs.Classes.{use_class}
use Rattle.link_state.specs.Spells.{executes, spelt}
use Rattle.link_state.specs.declared.asking.Form.{Form}
use Rattle.link_state.specs.declared.asking.Form.TheVariants as forms
use Rattle.link_state.specs.declared.asking.Purpose.{Purpose}
use Rattle.link_state.specs.declared.asking.Purpose.TheVariants.{Own, Sync}
use Rattle.link_state.specs.declared.wish.Wish.{Wish}
use Rattle.link_state.specs.declared.wish.Wish.TheVariants as wishes

-- texts are read as code reads them
pub record AreClasses (reads : Reads) : Type 0 where
  pub class : (text : List ℕ) → reads.class text ≡ class_of text
  pub hides : (text : List ℕ) → reads.hides_id text ≡ (class_of text).sets_id

-- a step is of a session, or of nobody
abbrev pub IsStepFor : Purpose → Type 0
IsStepFor (Sync name) = Unit {0}
IsStepFor Own = Unit {0}
IsStepFor _ = ⊥

abbrev pub IsWished : Wish → Command → Type 0
IsWished (wishes.Schema schema) (InitDb there) = schema ≡ there
IsWished (wishes.Settings text) (Query there) = text ≡ there
IsWished (wishes.SetId id) (SetId n) = id ≡ n.value
IsWished _ _ = ⊥

abbrev pub form_of : Wish → Form
form_of (wishes.Schema schema) = forms.Text (use_class schema)
form_of (wishes.Settings text) = forms.Text (class_of text)
form_of (wishes.SetId id) = forms.SetId id
form_of _ = forms.Reset

-- A client's statement: its packets as they came, or an execute by the number of what that executes.

abbrev pub IsExecuted : Args → (number : Option ℕ) → List ℕ → Type 0
IsExecuted args None said = ⊥
IsExecuted args (Some number) said = said ≡ executes number args.nulls args.types args.values args.long

abbrev pub IsSaid : Command → (number : Option ℕ) → List ℕ → Type 0
IsSaid (Run text schema settings args) number said = IsExecuted args number said
IsSaid command number said = said ≡ spelt (text_payload command)

-- no client asks the router's question for an insert id
abbrev pub IsClients : Form → Type 0
IsClients forms.ReadId = ⊥
IsClients _ = Unit {0}
