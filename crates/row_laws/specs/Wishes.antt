-- How what code has go to a link next stands for the law's wish.
use Rattle.std.specs.Prelude.{◌≡◌, ℕ, List, map, Option, Some, None}
use Rattle.session_vars.specs.Settings.{AreSettings, difference_of}
use Rattle.session_vars.specs.Texts.{names_text, session_text}
use Rattle.session_vars.specs.declared.change.SlotValue.{SlotValue}
use Rattle.session_state.specs.declared.place.Place.{Place}
use Rattle.private_model.specs.Commands as commands
use Rattle.private_model.specs.Commands.{Command, Number, is_marked}
use Rattle.private_model.specs.Names.{SessionName}
use Rattle.private_model.specs.Story as story
use Rattle.private_model.specs.Story.{Due, Question, is_name}
use Rattle.private_model.specs.View.{Held, Link, Setup, View, present}
use Rattle.log_story.specs.Plan as plan
use Rattle.tale_world.specs.Policy.{Texts}
use Rattle.tale_world.specs.Wishes as law
use Rattle.tale_world.specs.Wishes.{Standing, before_question}
use Rattle.link_laws.specs.Stands.{Codes, IsLink}
use Rattle.link_state.specs.Places.{calm, first_text}
use Rattle.link_state.specs.declared.state.LinkState.{LinkState}
use Rattle.link_state.specs.declared.wish.Command as code
use Rattle.link_state.specs.declared.wish.Command.TheVariants as kinds
use Rattle.link_state.specs.declared.wish.Session.{Session}
use Rattle.link_state.specs.declared.wish.Task.{Task}
use Rattle.link_state.specs.declared.wish.Task.TheVariants as tasks
use Rattle.link_state.specs.declared.wish.Wanted.{Wanted}
use Rattle.link_state.specs.declared.wish.Wish.{Wish}
use Rattle.link_state.specs.declared.wish.Wish.TheVariants.{Schema, Settings, SetId, Prepare, Statement, Closes, Resets}

-- texts are as code spells them
pub record AreTexts (texts : Texts) : Type 0 where
  pub leads : (from to : List SlotValue) → texts.leads from to ≡ first_text (names_text (difference_of from to)) (session_text (difference_of from to))
  pub calm : (settings told : List SlotValue) → texts.calm settings told ≡ calm settings told

-- What is wanted of a link for a statement that is due.

abbrev pub kind_of : Command → code.Command
kind_of (commands.Prepare text) = kinds.Prepare
kind_of (commands.Run text schema settings args) = kinds.Execute
kind_of _ = kinds.Plain

abbrev pub IsKeyed : Codes → (number : ℕ) → Command → (key : ℕ) → Type 0
IsKeyed codes number (commands.Prepare text) key = codes key ≡ Some number
IsKeyed codes number (commands.Run text schema settings args) key = codes key ≡ Some number
IsKeyed codes number _ key = Unit {0}

pub record IsWanted (setup : Setup) (codes : Codes) (due : Due) (held : Held) (wanted : Wanted) : Type 0 where
  pub command : wanted.command ≡ kind_of due.command
  pub key : IsKeyed codes wanted.key due.command due.key
  pub marks : wanted.marks ≡ is_marked setup.reads due.command
  pub id : wanted.id ≡ held.id

-- the insert id of a session is a number of 64 bits
abbrev pub HasNumber : (fits : ℕ → Option Number) → Option ℕ → Type 0
HasNumber fits id = (n : ℕ) → id ≡ Some n → (number : Number) × (fits n ≡ Some number) × (number.value ≡ n)

abbrev pub numbers_of : List (ℕ × ℕ) → List ℕ
numbers_of live = map (λ entry. entry.1) live

-- nothing is said before a step
abbrev pub IsStepper : Link → Standing → (step : Command → Question) → Type 0
IsStepper link standing step = (command : Command) → before_question link standing (step command) ≡ None

-- what code asks by is what the law does
pub record IsWishing (texts : Texts) (fits : ℕ → Option Number) (setup : Setup) (codes : Codes) (state : LinkState) (link : Link) (held : Held)
    (due : Due) (wanted : Wanted) (place of_key : Place) (long : List ℕ) (standing : Standing) (step : Command → Question) : Type 0 where
  pub texts_so : AreTexts texts
  pub stands : IsLink setup.reads codes state link
  pub wanted_so : IsWanted setup codes due held wanted
  pub number : HasNumber fits held.id
  pub place_so : place ≡ due.place
  pub of_key_so : of_key ≡ (setup.keys due.key).place
  pub told : AreSettings state.told.settings
  pub of_place : AreSettings place.settings
  pub of_text : AreSettings of_key.settings
  pub live : standing.live ≡ numbers_of state.live
  pub long_so : standing.long ≡ long
  pub stepper : IsStepper link standing step

-- The wish is the law's.

pub record IsIdStep (id : ℕ) (step : Command → Question) (question : Question) : Type 0 where
  pub number : Number
  pub value : number.value ≡ id
  pub is : question ≡ step (commands.SetId number)

abbrev pub IsWish : Setup → SessionName → Due → (step : Command → Question) → Wish → law.Wish → Type 0
IsWish setup n due step (Schema schema) (law.Sends question) = question ≡ step (commands.InitDb schema)
IsWish setup n due step (Settings text) (law.Sends question) = question ≡ step (commands.Query text)
IsWish setup n due step (SetId id) (law.Sends question) = IsIdStep id step question
IsWish setup n due step Prepare (law.Sends question) = question ≡ story.Prep n due.key (setup.keys due.key).text
IsWish setup n due step Statement (law.Sends question) = question ≡ story.Statement n due
IsWish setup n due step (Closes number) (law.Says text) = text ≡ plan.Closes number
IsWish setup n due step (Resets number) (law.Says text) = text ≡ plan.Resets number
IsWish setup n due step _ _ = ⊥

-- And so is what a link is for that carries a session.

pub record IsSession (seen : View) (n : SessionName) (s : Session) : Type 0 where
  pub is_present : s.present ≡ is_name n (present seen n.client n.hostgroup)
  pub pin : s.pin ≡ (seen.held n).pin
  pub id : s.id ≡ (seen.held n).id
  pub lasting : s.lasting ≡ seen.lasting n

-- the question that a task is, where `due` is the one for what is due
abbrev pub question_of : Task → SessionName → (due : Option Question) → Option Question
question_of tasks.States n due = due
question_of tasks.Captures n due = Some (story.Capture n)
question_of tasks.Ends n due = Some (story.End n)
question_of tasks.Rests n due = None
