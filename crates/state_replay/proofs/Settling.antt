-- The step to settings, and settings with another's autocommit.
use Rattle.std.proofs.Common.{◌≡◌, ◌≢◌, ℕ, false, List, get_or-set_other, sym, subst, ap, ◌∙◌, arith}
use Rattle.std.specs.Prelude.{IsTrue, Option}
use Rattle.session_vars.specs.declared.change.Change.{Change}
use Rattle.session_vars.specs.declared.change.SlotValue.{SlotValue}
use Rattle.session_vars.specs.declared.change.SlotValue.TheVariants.{Default}
use Rattle.session_vars.specs.declared.slot.Slot.TheVariants.{Autocommit, Names}
use Rattle.session_vars.specs.Settings.{changed, difference_of, is_text, value_at}
use Rattle.session_vars.specs.Texts.{names_text, session_text}
use Rattle.state_replay.specs.Steps.{calm, settings_step, text_step}

pub settles : (told wanted : List SlotValue) (changes : List Change) (names session : Option (List ℕ)) → changes ≡ difference_of told wanted
    → names ≡ names_text changes → session ≡ session_text changes → text_step names session ≡ settings_step told wanted
unfolding settings_step
settles told wanted changes names session e n s =
    ap (λ (text : Option (List ℕ)). text_step text session) n
    ∙ ap (λ (text : Option (List ℕ)). text_step (names_text changes) text) s
    ∙ ap (λ (all : List Change). text_step (names_text all) (session_text all)) e

pub calms : (settings told all new : List SlotValue) (value : SlotValue) → value ≡ value_at told Autocommit → all ≡ settings
    → new ≡ changed all (record { slot = Autocommit; value = value; adds = false }) → new ≡ calm settings told
unfolding calm
calms settings told all new value v a n =
    n ∙ ap (λ (s : List SlotValue). changed s (record { slot = Autocommit; value = value; adds = false })) a
    ∙ ap (λ (w : SlotValue). changed settings (record { slot = Autocommit; value = w; adds = false })) v

pub names_stay : (settings all new : List SlotValue) (value : SlotValue) → all ≡ settings
    → new ≡ changed all (record { slot = Autocommit; value = value; adds = false }) → IsTrue (is_text (value_at settings Names))
    → IsTrue (is_text (value_at new Names))
names_stay settings all new value a n h =
    let apart : 0 ≢ 3 = omega arith in
    let same : value_at (changed settings (record { slot = Autocommit; value = value; adds = false })) Names ≡ value_at settings Names =
    get_or-set_other settings 3 0 value Default apart in
    let is = n ∙ ap (λ (s : List SlotValue). changed s (record { slot = Autocommit; value = value; adds = false })) a in
    subst (λ (s : List SlotValue). IsTrue (is_text (value_at s Names))) (sym is)
    (subst (λ (w : SlotValue). IsTrue (is_text w)) (sym same) h)
