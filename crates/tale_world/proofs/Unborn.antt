-- No session that is to come is touched by what a tale tells.
use Rattle.std.specs.Prelude.{◌≡◌, ◌<◌, ◌≤◌, ◌⊎◌, ℕ, suc, Bool, true, false, if◌then◌else◌, fold, Option, Some, None}
use Rattle.std.specs.Option.{option_map_or}
use Rattle.std.proofs.Common.{refl, ap, ◌∙◌, subst, inl, inr, arith}
use Rattle.std.proofs.lemmas.Bool.{cases_Bool}
use Rattle.mx_base.specs.declared.names.LinkId.{LinkId}
use Rattle.mx_wire.specs.Log.{Log}
use Rattle.private_model.proofs.Maps.{name_of}
use Rattle.private_model.specs.Commands.{Reply}
use Rattle.private_model.specs.Names.{ClientNo, Hostgroup, SessionName}
use Rattle.private_model.specs.Story.{BecameDue, Broke, Capture, Dropped, Due, End, Freed, Gone, Happening, Heard, Left, LoggedIn, Mirrored, Own, Prep, Question, Ran, Sent, Statement, Sync, Unprepared}
use Rattle.private_model.specs.Story.{is_client, is_link_id, is_name, for_statement, put}
use Rattle.private_model.specs.View.{Answered, Asked, Carried, Held, Joined, Lent, Link, Nobody, Quiet, Setup, Stage, View, asked, carried_for, first_held, freed, heard, held_by, held_for}
use Rattle.private_model.specs.View.{lives_after, lives_left, new_link, present, ran_by, session_in, view_after, view_heard, view_step}
use Rattle.log_story.specs.Plan.{Plan}
use Rattle.log_story.specs.Tale.{first_tale, view_of}
use Rattle.log_story.specs.Telling.{tale_step}
use Rattle.log_story.proofs.Frames.{asker, asker_at}
use Rattle.log_story.proofs.Walking.{IsOfHere, Kept, MayBeTold, log_keeps}
use Rattle.tale_world.specs.Unborn.{AreUnborn}

abbrev Lives : Type 0
Lives = ClientNo → Hostgroup → ℕ

-- it isn't to come, by these lives
abbrev IsBy : Lives → SessionName → Type 0
IsBy lives n = n.life ≤ lives n.client n.hostgroup

abbrev IsLater : Lives → SessionName → Type 0
IsLater lives n = lives n.client n.hostgroup < n.life

record IsKnown (lives : Lives) (link : Link) : Type 0 where
  pub carried : (n : SessionName) → session_in link.carries ≡ Some n → IsBy lives n
  pub asked : (n : SessionName) → asker_at link.stage ≡ Some n → IsBy lives n

record Untouched (lives : Lives) (holds : SessionName → Held) (owes : SessionName → Option Due) (at : LinkId → Link) : Type 0 where
  pub held : (n : SessionName) → IsLater lives n → holds n ≡ first_held
  pub dues : (n : SessionName) → IsLater lives n → owes n ≡ None
  pub links : (l : LinkId) → IsKnown lives (at l)

no_some : {A B : Type 0} (a : A) → None ≡ Some a → B
no_some a is = absurd (cc)

some-of : {A : Type 0} (a b : A) → Some a ≡ Some b → a ≡ b
some-of a b is = cc

put_link : (P : Link → Type 0) (links : LinkId → Link) (link : LinkId) (value : Link) → P value → ((l : LinkId) → P (links l)) → (l : LinkId)
    → P (put is_link_id links link value l)
put_link P links link value now each l = by_test (is_link_id l link) where
  by_test : (b : Bool) → P (if b then value else links l)
  by_test true = now
  by_test false = each l

-- a name that isn't to come is none that is
other_name : (lives : Lives) (n m : SessionName) → IsBy lives m → IsLater lives n → is_name n m ≡ false
other_name lives n m born later = elim (cases_Bool (is_name n m)) [
  | inl same ↦ absurd (let both : IsLater lives m = subst (λ (k : SessionName). IsLater lives k) (name_of n m same) later in omega arith)
  | inr other ↦ other
]

put_name : {A : Type 0} (lives : Lives) (f : SessionName → A) (m : SessionName) (value base : A) → IsBy lives m → ((n : SessionName) → IsLater lives n → f n ≡ base)
    → (n : SessionName) → IsLater lives n → put is_name f m value n ≡ base
put_name lives f m value base born each n later = ap (λ b. if b then value else f n) (other_name lives n m born later) ∙ each n later

put_base : {A : Type 0} (lives : Lives) (f : SessionName → A) (m : SessionName) (base : A) → ((n : SessionName) → IsLater lives n → f n ≡ base)
    → (n : SessionName) → IsLater lives n → put is_name f m base n ≡ base
put_base lives f m base each n later = by_test (is_name n m) where
  by_test : (b : Bool) → (if b then base else f n) ≡ base
  by_test true = refl
  by_test false = each n later

-- whose question it is
asker_by : (lives : Lives) (links : LinkId → Link) (link : LinkId) (n : SessionName) → IsBy lives n ⊎ (session_in (links link).carries ≡ Some n)
    → IsKnown lives (links link) → IsBy lives n
asker_by lives links link n (inl born) known = born
asker_by lives links link n (inr carried) known = known.carried n carried

module _ (setup : Setup) where
  asked_by : (lives : Lives) (question : Question) (link : Link) → ((n : SessionName) → asker question ≡ Some n → IsBy lives n) → IsKnown lives link
      → IsKnown lives (asked question link)
  asked_by lives question link mine known = record { carried = by_carried question link.carries mine known.carried; asked = mine } where
    by_carried : (question : Question) (carried : Carried) → ((n : SessionName) → asker question ≡ Some n → IsBy lives n)
        → ((n : SessionName) → session_in carried ≡ Some n → IsBy lives n) → (n : SessionName) → session_in (carried_for question carried) ≡ Some n → IsBy lives n
    by_carried (Statement m due) Nobody mine was n is = mine n is
    by_carried (Statement m due) (Lent other) mine was n is = was n is
    by_carried (Statement m due) (Joined other) mine was n is = was n is
    by_carried (Prep m key text) Nobody mine was n is = mine n is
    by_carried (Prep m key text) (Lent other) mine was n is = was n is
    by_carried (Prep m key text) (Joined other) mine was n is = was n is
    by_carried (Sync m command) carried mine was n is = was n is
    by_carried (Own command) carried mine was n is = was n is
    by_carried (End m) carried mine was n is = was n is
    by_carried (Capture m) carried mine was n is = was n is

  ran_known : (lives : Lives) (stage : Stage) (link : Link) → ((n : SessionName) → asker_at stage ≡ Some n → IsBy lives n) → IsKnown lives link
      → IsKnown lives (ran_by setup.reads stage link)
  ran_known lives (Asked question) link mine known = record { carried = by_question question link.carries mine known.carried; asked = mine } where
    by_question : (question : Question) (carried : Carried) → ((n : SessionName) → asker question ≡ Some n → IsBy lives n)
        → ((n : SessionName) → session_in carried ≡ Some n → IsBy lives n) → (n : SessionName)
        → session_in (for_statement question (λ m due. Joined m) carried) ≡ Some n → IsBy lives n
    by_question (Statement m due) carried mine was n is = mine n is
    by_question (Prep m key text) carried mine was n is = was n is
    by_question (Sync m command) carried mine was n is = was n is
    by_question (Own command) carried mine was n is = was n is
    by_question (End m) carried mine was n is = was n is
    by_question (Capture m) carried mine was n is = was n is
  ran_known lives Quiet link mine known = known
  ran_known lives (Answered question) link mine known = known

  held_asked : (lives : Lives) (question : Question) (link : LinkId) (held : SessionName → Held) → ((n : SessionName) → asker question ≡ Some n → IsBy lives n)
      → ((n : SessionName) → IsLater lives n → held n ≡ first_held) → (n : SessionName) → IsLater lives n → held_for question link held n ≡ first_held
  held_asked lives (Statement m due) link held mine each = put_name lives held m _ first_held (mine m refl) each
  held_asked lives (Prep m key text) link held mine each = put_name lives held m _ first_held (mine m refl) each
  held_asked lives (Sync m command) link held mine each = each
  held_asked lives (Own command) link held mine each = each
  held_asked lives (End m) link held mine each = each
  held_asked lives (Capture m) link held mine each = each

  dues_asked : (lives : Lives) (question : Question) (dues : SessionName → Option Due) → ((n : SessionName) → IsLater lives n → dues n ≡ None)
      → (n : SessionName) → IsLater lives n → for_statement question (λ m due. put is_name dues m None) dues n ≡ None
  dues_asked lives (Statement m due) dues each = put_base lives dues m None each
  dues_asked lives (Prep m key text) dues each = each
  dues_asked lives (Sync m command) dues each = each
  dues_asked lives (Own command) dues each = each
  dues_asked lives (End m) dues each = each
  dues_asked lives (Capture m) dues each = each

  held_answered : (lives : Lives) (question : Question) (reply : Reply) (held : SessionName → Held) → ((n : SessionName) → asker question ≡ Some n → IsBy lives n)
      → ((n : SessionName) → IsLater lives n → held n ≡ first_held) → (n : SessionName) → IsLater lives n → held_by setup.reads question reply held n ≡ first_held
  held_answered lives (Statement m due) reply held mine each = put_name lives held m _ first_held (mine m refl) each
  held_answered lives (Prep m key text) reply held mine each = put_name lives held m _ first_held (mine m refl) each
  held_answered lives (Sync m command) reply held mine each = put_name lives held m _ first_held (mine m refl) each
  held_answered lives (Own command) reply held mine each = each
  held_answered lives (End m) reply held mine each = put_name lives held m _ first_held (mine m refl) each
  held_answered lives (Capture m) reply held mine each = put_name lives held m _ first_held (mine m refl) each

  heard_known : (view : View) (link : LinkId) (reply : Reply) (stage : Stage) → ((n : SessionName) → asker_at stage ≡ Some n → IsBy view.lives n)
      → Untouched view.lives view.held view.dues view.links
      → Untouched (view_heard setup view link reply stage).lives (view_heard setup view link reply stage).held (view_heard setup view link reply stage).dues (view_heard setup view link reply stage).links
  heard_known view link reply (Answered question) mine old = record {
    held = held_answered view.lives question reply view.held mine old.held;
    dues = old.dues;
    links = put_link (IsKnown view.lives) view.links link (heard setup.reads question reply (view.links link))
        (record { carried = (old.links link).carried; asked = λ n is. no_some n is }) old.links;
  }
  heard_known view link reply Quiet mine old = old
  heard_known view link reply (Asked question) mine old = old

  held_left : (lives : Lives) (session : Option SessionName) (held : SessionName → Held) → ((n : SessionName) → session ≡ Some n → IsBy lives n)
      → ((n : SessionName) → IsLater lives n → held n ≡ first_held) → (n : SessionName) → IsLater lives n
      → option_map_or (λ m. put is_name held m (record (held m) { home = None })) session held n ≡ first_held
  held_left lives None held mine each = each
  held_left lives (Some m) held mine each = put_name lives held m _ first_held (mine m refl) each

  -- lives only grow
  later_too : (old new : Lives) (held : SessionName → Held) (dues : SessionName → Option Due) (links : LinkId → Link) → ((c : ClientNo) (h : Hostgroup) → old c h ≤ new c h)
      → Untouched old held dues links → Untouched new held dues links
  later_too old new held dues links grows was = record {
    held = λ n later. was.held n (let more : old n.client n.hostgroup ≤ new n.client n.hostgroup = grows n.client n.hostgroup in omega arith);
    dues = λ n later. was.dues n (let more : old n.client n.hostgroup ≤ new n.client n.hostgroup = grows n.client n.hostgroup in omega arith);
    links = λ l. record {
      carried = λ n is. let born : IsBy old n = (was.links l).carried n is in let more : old n.client n.hostgroup ≤ new n.client n.hostgroup = grows n.client n.hostgroup in omega arith;
      asked = λ n is. let born : IsBy old n = (was.links l).asked n is in let more : old n.client n.hostgroup ≤ new n.client n.hostgroup = grows n.client n.hostgroup in omega arith;
    };
  }

  up_if : (b : Bool) (x : ℕ) → x ≤ (if b then suc x else x)
  up_if true x = omega arith
  up_if false x = omega arith

  lives_grow : (lives : Lives) (session : Option SessionName) (c : ClientNo) (h : Hostgroup) → lives c h ≤ option_map_or (λ n. lives_after n lives) session lives c h
  lives_grow lives None c h = omega arith
  lives_grow lives (Some n) c h = up_if (is_name (record { client = c; hostgroup = h; life = lives c h }) n) (lives c h)

  abbrev Holds : View → Type 0
  Holds view = Untouched view.lives view.held view.dues view.links

  same_link : (view : View) (link : LinkId) (value : Link) → IsKnown view.lives value → Holds view
      → Untouched view.lives view.held view.dues (put is_link_id view.links link value)
  same_link view link value now old = record { held = old.held; dues = old.dues; links = put_link (IsKnown view.lives) view.links link value now old.links }

  step_known : (view : View) (e : Happening) → MayBeTold view e → Holds view → Holds (view_step setup view e)
  step_known view (LoggedIn link server account) may old =
      same_link view link (new_link server account) (record { carried = λ n is. no_some n is; asked = λ n is. no_some n is }) old
  step_known view (BecameDue client hostgroup ordinal key command multiplex) may old = record {
    held = old.held;
    dues = put_name view.lives view.dues (present view client hostgroup) _ None (omega arith) old.dues;
    links = old.links;
  }
  step_known view (Sent link question) may old = record {
    held = held_asked view.lives question link view.held mine old.held;
    dues = dues_asked view.lives question view.dues old.dues;
    links = put_link (IsKnown view.lives) view.links link (asked question (view.links link)) (asked_by view.lives question (view.links link) mine (old.links link)) old.links;
  }
    where
      of_here : (session : Option SessionName) → IsOfHere view link session → (n : SessionName) → session ≡ Some n → IsBy view.lives n
      of_here None here n is = no_some n is
      of_here (Some m) here n is = subst (IsBy view.lives) (some-of m n is) (asker_by view.lives view.links link m here (old.links link))

      mine : (n : SessionName) → asker question ≡ Some n → IsBy view.lives n
      mine = of_here (asker question) may
  step_known view (Ran link) may old =
      same_link view link (ran_by setup.reads (view.links link).stage (view.links link))
      (ran_known view.lives (view.links link).stage (view.links link) (old.links link).asked (old.links link)) old
  step_known view (Heard link reply) may old = heard_known view link reply (view.links link).stage (old.links link).asked old
  step_known view (Freed link) may old = record {
    held = held_left view.lives (session_in (view.links link).carries) view.held (old.links link).carried old.held;
    dues = old.dues;
    links = put_link (IsKnown view.lives) view.links link (freed (view.links link)) (record { carried = λ n is. no_some n is; asked = (old.links link).asked }) old.links;
  }
  step_known view (Unprepared link number) may old = same_link view link _ (record { carried = (old.links link).carried; asked = (old.links link).asked }) old
  step_known view (Dropped link) may old = old
  step_known view (Gone link) may old =
      later_too view.lives (option_map_or (λ n. lives_after n view.lives) (session_in (view.links link).carries) view.lives) view.held view.dues _
      (lives_grow view.lives (session_in (view.links link).carries))
      (same_link view link (record (view.links link) { usable = false }) (record { carried = (old.links link).carried; asked = (old.links link).asked }) old)
  step_known view (Left client) may old =
      later_too view.lives (lives_left client view.lives) view.held view.dues view.links (λ c h. up_if (is_client c client) (view.lives c h)) old
  step_known view (Mirrored client job) may old = old
  step_known view Broke may old = old

  abbrev untouched : Kept setup
  untouched = record { holds = λ story. Holds (view_after setup story); more = λ past e may holds. step_known (view_after setup past) e may holds }

  pub unborn_so : (plan : Plan) (log : Log) → AreUnborn (view_of setup (fold (tale_step setup plan) first_tale log))
  unborn_so plan log =
      let first : Holds (view_of setup first_tale) = record {
        held = λ n later. refl;
        dues = λ n later. refl;
        links = λ l. record { carried = λ n is. no_some n is; asked = λ n is. no_some n is };
      } in
      let last : Holds (view_of setup (fold (tale_step setup plan) first_tale log)) = log_keeps setup plan untouched log first_tale first in
      record { held = last.held; dues = last.dues; carried = λ l. (last.links l).carried; asked = λ l. (last.links l).asked }
