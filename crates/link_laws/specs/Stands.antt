-- How what code keeps of a link stands for the law's link. Of a question it keeps what its answer needs; and it has numbers of its own for
-- the law's keys, of which one may be given again.
use Rattle.std.specs.Prelude.{◌≡◌, ℕ, List, [], ◌∷◌, Option, Some, None}
use Rattle.std.specs.Option.{option_and_then}
use Rattle.pin_classifier.specs.declared.class.Class.{Class}
use Rattle.server_rule.specs.Classes.{Reads}
use Rattle.private_model.specs.Commands as commands
use Rattle.private_model.specs.Commands.{Command, class_of}
use Rattle.private_model.specs.Story as story
use Rattle.private_model.specs.Story.{Due, Question, command_of}
use Rattle.private_model.specs.Names.{SessionName}
use Rattle.private_model.specs.View as view
use Rattle.private_model.specs.View.{Link}
use Rattle.link_state.specs.Stood.{number_of}
use Rattle.link_state.specs.declared.asking.Asking.{Asking}
use Rattle.link_state.specs.declared.asking.Form.{Form}
use Rattle.link_state.specs.declared.asking.Form.TheVariants.{Text, Fields, Prepare, SetId, ReadId, Reset}
use Rattle.link_state.specs.declared.asking.Purpose.{Purpose}
use Rattle.link_state.specs.declared.asking.Purpose.TheVariants as purposes
use Rattle.link_state.specs.declared.state.Carried.{Carried}
use Rattle.link_state.specs.declared.state.Carried.TheVariants.{Nobody, Lent, Joined}
use Rattle.link_state.specs.declared.state.LinkState.{LinkState}
use Rattle.link_state.specs.declared.state.Stage.{Stage}
use Rattle.link_state.specs.declared.state.Stage.TheVariants.{Quiet, Asked, Answered}

-- the code's number of each of the law's keys, where it has one
abbrev pub Codes : Type 0
Codes = (key : ℕ) → Option ℕ

-- no number stands for two keys
abbrev pub AreApart : Codes → Type 0
AreApart codes = (a b number : ℕ) → codes a ≡ Some number → codes b ≡ Some number → a ≡ b

-- it is the class of this text
pub record IsRead (reads : Reads) (class : Class) (text : List ℕ) : Type 0 where
  pub is : class ≡ reads.class text
  pub hides : class.sets_id ≡ reads.hides_id text

abbrev pub IsForm : Reads → Form → Command → Type 0
IsForm reads (Text class) (commands.Query text) = IsRead reads class text
IsForm reads (Text class) (commands.Run text schema settings args) = IsRead reads class text
IsForm reads (Text class) (commands.InitDb schema) = class ≡ class_of reads (commands.InitDb schema)
IsForm reads Fields (commands.FieldList rest) = Unit {0}
IsForm reads (Prepare class) (commands.Prepare text) = IsRead reads class text
IsForm reads (SetId id) (commands.SetId n) = id ≡ n.value
IsForm reads ReadId commands.ReadId = Unit {0}
IsForm reads Reset commands.Reset = Unit {0}
IsForm reads _ _ = ⊥

-- the key of a statement counts where that is prepared or executed
abbrev pub IsKeyOf : Codes → (number : ℕ) → Command → (key : ℕ) → Type 0
IsKeyOf codes number (commands.Prepare text) key = codes key ≡ Some number
IsKeyOf codes number (commands.Run text schema settings args) key = codes key ≡ Some number
IsKeyOf codes number _ key = Unit {0}

-- for whom a question is, and of which statement

pub record IsStated (codes : Codes) (said : SessionName) (counted number : ℕ) (n : SessionName) (due : Due) : Type 0 where
  pub name : said ≡ n
  pub ordinal : counted ≡ due.ordinal
  pub key : IsKeyOf codes number due.command due.key

pub record IsPrepared (codes : Codes) (said : SessionName) (number : ℕ) (n : SessionName) (prepared : ℕ) : Type 0 where
  pub name : said ≡ n
  pub key : codes prepared ≡ Some number

abbrev pub IsPurpose : Codes → Purpose → Question → Type 0
IsPurpose codes (purposes.Statement name ordinal number) (story.Statement n due) = IsStated codes name ordinal number n due
IsPurpose codes (purposes.Prep name ordinal number) (story.Prep n key text) = IsPrepared codes name number n key
IsPurpose codes (purposes.Sync name) (story.Sync n command) = name ≡ n
IsPurpose codes purposes.Own (story.Own command) = Unit {0}
IsPurpose codes (purposes.End name) (story.End n) = name ≡ n
IsPurpose codes (purposes.Capture name) (story.Capture n) = name ≡ n
IsPurpose codes _ _ = ⊥

pub record IsAsking (reads : Reads) (codes : Codes) (asking : Asking) (question : Question) : Type 0 where
  pub purpose : IsPurpose codes asking.purpose question
  pub form : IsForm reads asking.form (command_of question)

abbrev pub IsStage : Reads → Codes → Stage → view.Stage → Type 0
IsStage reads codes Quiet view.Quiet = Unit {0}
IsStage reads codes (Asked asking) (view.Asked question) = IsAsking reads codes asking question
IsStage reads codes (Answered asking) (view.Answered question) = IsAsking reads codes asking question
IsStage reads codes _ _ = ⊥

abbrev pub carried_of : Carried → view.Carried
carried_of Nobody = view.Nobody
carried_of (Lent name) = view.Lent name
carried_of (Joined name) = view.Joined name

-- each key stands once
abbrev pub AreOnce : List (ℕ × ℕ) → Type 0
AreOnce [] = Unit {0}
AreOnce (entry ∷ entries) = (number_of entries entry.0 ≡ None) × AreOnce entries

-- what is prepared there under one of the law's keys
abbrev pub number_at : Codes → List (ℕ × ℕ) → (key : ℕ) → Option ℕ
number_at codes live key = option_and_then (number_of live) (codes key)

pub record IsLink (reads : Reads) (codes : Codes) (state : LinkState) (link : Link) : Type 0 where
  pub told : link.told ≡ state.told
  pub id : link.id ≡ state.id
  pub live : (key : ℕ) → link.live key ≡ number_at codes state.live key
  pub once : AreOnce state.live
  pub carries : link.carries ≡ carried_of state.carries
  pub marked : link.marked ≡ state.marked
  pub stage : IsStage reads codes state.stage link.stage

-- Keys get other numbers, but for those that are prepared there and the one that is asked for.

abbrev pub key_for : Question → Option ℕ
key_for (story.Statement n due) = Some due.key
key_for (story.Prep n key text) = Some key
key_for _ = None

abbrev pub key_asked : view.Stage → Option ℕ
key_asked view.Quiet = None
key_asked (view.Asked question) = key_for question
key_asked (view.Answered question) = key_for question

pub record IsNaming (was codes : Codes) (state : LinkState) (link : Link) : Type 0 where
  pub live : (key : ℕ) → number_at codes state.live key ≡ number_at was state.live key
  pub asked : (key number : ℕ) → key_asked link.stage ≡ Some key → was key ≡ Some number → codes key ≡ Some number
