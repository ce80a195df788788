-- What stands on a link, as code and the law have it: the law's may run before code sees a byte of the answer.
use Rattle.std.specs.Prelude.{◌≡◌, Bool, true, false}
use Rattle.std.proofs.Common.{refl, sym, ap, ◌∙◌, subst, inl, inr}
use Rattle.std.proofs.lemmas.Bool.{false≢true, true≢false}
use Rattle.server_rule.specs.Classes.{Reads}
use Rattle.private_model.specs.Commands as commands
use Rattle.private_model.specs.Commands.{Command}
use Rattle.private_model.specs.View as view
use Rattle.private_model.specs.View.{Link, ran_by}
use Rattle.log_story.specs.Servers as servers
use Rattle.log_story.specs.Servers.{kind_by}
use Rattle.link_state.specs.Asks.{kind_of}
use Rattle.link_state.specs.Dones.{is_quiet}
use Rattle.link_state.specs.States.{ran, ran_in}
use Rattle.link_state.specs.declared.asking.Asking.{Asking}
use Rattle.link_state.specs.declared.asking.Form.{Form}
use Rattle.link_state.specs.declared.asking.Form.TheVariants.{Text, Fields, Prepare, SetId, ReadId, Reset}
use Rattle.link_state.specs.declared.state.LinkState.{LinkState}
use Rattle.link_state.specs.declared.state.Stage.{Stage}
use Rattle.link_state.specs.declared.state.Stage.TheVariants.{Quiet, Asked, Answered}
use Rattle.link_laws.proofs.Keeps.{ran_at}
use Rattle.link_laws.specs.Stands.{Codes, IsForm, IsLink, IsStage}
use Rattle.row_laws.specs.Rows.{IsSeen, is_asked}

abbrev pub is_asked_law : view.Stage → Bool
is_asked_law (view.Asked question) = true
is_asked_law _ = false

-- the kind of the answer is the law's
pub kind_same : (reads : Reads) (form : Form) (command : Command) → IsForm reads form command → kind_of form ≡ kind_by command
kind_same reads (Text class) (commands.Query text) is = refl
kind_same reads (Text class) (commands.Run text schema settings args) is = refl
kind_same reads (Text class) (commands.InitDb schema) is = refl
kind_same reads Fields (commands.FieldList rest) is = refl
kind_same reads (Prepare class) (commands.Prepare text) is = refl
kind_same reads (SetId id) (commands.SetId n) is = refl
kind_same reads ReadId commands.ReadId is = refl
kind_same reads Reset commands.Reset is = refl
kind_same reads _ _ is = absurd is

-- what runs is what was asked, and nothing else of the link changes that bytes are read by

abbrev pub ran_stage : view.Stage → view.Stage
ran_stage (view.Asked question) = view.Answered question
ran_stage stage = stage

pub record IsRan (old new : Link) : Type 0 where
  pub stage : new.stage ≡ ran_stage old.stage
  pub live : new.live ≡ old.live
  pub server : new.server ≡ old.server
  pub account : new.account ≡ old.account
  pub usable : new.usable ≡ old.usable

pub ran_parts : (reads : Reads) (link : Link) → IsRan link (ran_by reads link.stage link)
ran_parts reads link = by link.stage refl where
  by : (there : view.Stage) → link.stage ≡ there → IsRan link (ran_by reads there link)
  by view.Quiet same = record { stage = same ∙ ap ran_stage (sym same); live = refl; server = refl; account = refl; usable = refl }
  by (view.Asked question) same = record { stage = ap ran_stage (sym same); live = refl; server = refl; account = refl; usable = refl }
  by (view.Answered question) same = record { stage = same ∙ ap ran_stage (sym same); live = refl; server = refl; account = refl; usable = refl }

module _ (reads : Reads) (codes : Codes) where
  -- what isn't asked, or is answered, doesn't run
  stays_quiet : (state : LinkState) (link : Link) (there : view.Stage) → IsStage reads codes Quiet there → IsLink reads codes state link
      → IsLink reads codes state (ran_by reads there link)
  stays_quiet state link view.Quiet is stands = stands
  stays_quiet state link _ is stands = absurd is

  stays_answered : (state : LinkState) (link : Link) (there : view.Stage) (asking : Asking) → IsStage reads codes (Answered asking) there
      → IsLink reads codes state link → IsLink reads codes state (ran_by reads there link)
  stays_answered state link (view.Answered question) asking is stands = stands
  stays_answered state link _ asking is stands = absurd is

  ran_again : (state : LinkState) (link : Link) (stage : Stage) → state.stage ≡ stage → IsLink reads codes (ran_in stage state) link
      → IsLink reads codes (ran_in stage state) (ran_by reads link.stage link)
  ran_again state link Quiet same stands =
      stays_quiet state link link.stage (subst (λ (s : Stage). IsStage reads codes s link.stage) same stands.stage) stands
  ran_again state link (Answered asking) same stands =
      stays_answered state link link.stage asking (subst (λ (s : Stage). IsStage reads codes s link.stage) same stands.stage) stands
  ran_again state link (Asked asking) same stands = stays_answered (ran_in (Asked asking) state) link link.stage asking stands.stage stands

  pub run_so : (state : LinkState) (link : Link) → IsSeen reads codes state link → IsLink reads codes (ran state) (ran_by reads link.stage link)
  run_so state link (inl stands) = ran_at reads codes state link stands state.stage link.stage stands.stage
  run_so state link (inr stands) = ran_again state link state.stage refl stands

  -- where nothing is asked that isn't answered yet, both have the same
  pub is_link : (state : LinkState) (link : Link) (stage : Stage) → state.stage ≡ stage → is_asked stage ≡ false → IsSeen reads codes state link
      → IsLink reads codes state link
  is_link state link stage same unasked (inl stands) = stands
  is_link state link Quiet same unasked (inr stands) = subst (λ (s : Stage). IsLink reads codes (ran_in s state) link) same stands
  is_link state link (Answered asking) same unasked (inr stands) = subst (λ (s : Stage). IsLink reads codes (ran_in s state) link) same stands
  is_link state link (Asked asking) same unasked (inr stands) = absurd (true≢false unasked)

  quiet_at : (stage : Stage) (there : view.Stage) → IsStage reads codes stage there → is_quiet stage ≡ servers.is_quiet there
  quiet_at Quiet view.Quiet is = refl
  quiet_at (Asked asking) (view.Asked question) is = refl
  quiet_at (Answered asking) (view.Answered question) is = refl
  quiet_at _ _ is = absurd is

  quiet_ran : (state : LinkState) (stage : Stage) → state.stage ≡ stage → is_quiet (ran_in stage state).stage ≡ is_quiet stage
  quiet_ran state Quiet same = ap is_quiet same
  quiet_ran state (Asked asking) same = refl
  quiet_ran state (Answered asking) same = ap is_quiet same

  pub quiet_same : (state : LinkState) (link : Link) → IsSeen reads codes state link → is_quiet state.stage ≡ servers.is_quiet link.stage
  quiet_same state link (inl stands) = quiet_at state.stage link.stage stands.stage
  quiet_same state link (inr stands) = sym (quiet_ran state state.stage refl) ∙ quiet_at (ran state).stage link.stage stands.stage

  -- what the law has as asked is asked in code

  asked_at : (stage : Stage) (there : view.Stage) → IsStage reads codes stage there → is_asked_law there ≡ true → is_asked stage ≡ true
  asked_at (Asked asking) (view.Asked question) is asked = refl
  asked_at Quiet view.Quiet is asked = absurd (false≢true asked)
  asked_at (Answered asking) (view.Answered question) is asked = absurd (false≢true asked)
  asked_at _ _ is asked = absurd is

  never_asked : (state : LinkState) (stage : Stage) → state.stage ≡ stage → is_asked (ran_in stage state).stage ≡ false
  never_asked state Quiet same = ap is_asked same
  never_asked state (Asked asking) same = refl
  never_asked state (Answered asking) same = ap is_asked same

  pub asked_seen : (state : LinkState) (link : Link) → IsSeen reads codes state link → is_asked_law link.stage ≡ true → is_asked state.stage ≡ true
  asked_seen state link (inl stands) asked = asked_at state.stage link.stage stands.stage asked
  asked_seen state link (inr stands) asked =
      absurd (true≢false (sym (asked_at (ran state).stage link.stage stands.stage asked) ∙ never_asked state state.stage refl))
