-- A link is of use until it is lost.
use Rattle.std.specs.Prelude.{◌≡◌, Bool, false, true, if◌then◌else◌}
use Rattle.std.proofs.Common.{refl, sym, ap, ◌∙◌, inl, inr}
use Rattle.std.proofs.lemmas.Bool.{cases_Bool}
use Rattle.mx_base.specs.declared.names.LinkId.{LinkId}
use Rattle.private_model.proofs.Maps.{link_of}
use Rattle.private_model.specs.Commands.{Reply}
use Rattle.private_model.specs.Story.{Freed, Gone, Happening, Heard, LoggedIn, Ran, Sent, Unprepared, is_link_id, put}
use Rattle.private_model.specs.View.{Answered, Asked, Link, Quiet, Setup, Stage, View, asked, closed_number, freed, heard, new_link, ran_by, view_heard, view_step}

isnt : {A : Type 0} → false ≡ true → A
isnt is = absurd (cc)

module _ (setup : Setup) where
  -- a link is lost, or another
  abbrev pub StaysUsed : Happening → LinkId → Type 0
  StaysUsed (Gone link) l = is_link_id l link ≡ false
  StaysUsed _ l = Unit {0}

  abbrev pub IsUsed : View → LinkId → Type 0
  IsUsed view l = (view.links l).usable ≡ true

  put_used : (links : LinkId → Link) (link : LinkId) (value : Link) (l : LinkId) → (is_link_id l link ≡ true → value.usable ≡ true) → (links l).usable ≡ true
      → (put is_link_id links link value l).usable ≡ true
  put_used links link value l here used = elim (cases_Bool (is_link_id l link)) [
    | inl same ↦ ap (λ b. (if b then value else links l).usable) same ∙ here same
    | inr other ↦ ap (λ b. (if b then value else links l).usable) other ∙ used
  ]

  -- what becomes of a link that stays of use
  of_used : (links : LinkId → Link) (link : LinkId) (of : Link → Link) → ((x : Link) → (of x).usable ≡ x.usable) → (l : LinkId) → (links l).usable ≡ true
      → (put is_link_id links link (of (links link)) l).usable ≡ true
  of_used links link of same l used =
      put_used links link (of (links link)) l (λ here. same (links link) ∙ ap (λ k. (links k).usable) (sym (link_of l link here)) ∙ used) used

  ran_used : (stage : Stage) (x : Link) → (ran_by setup.reads stage x).usable ≡ x.usable
  ran_used Quiet x = refl
  ran_used (Asked question) x = refl
  ran_used (Answered question) x = refl

  heard_used : (view : View) (link : LinkId) (reply : Reply) (stage : Stage) (l : LinkId) → IsUsed view l → IsUsed (view_heard setup view link reply stage) l
  heard_used view link reply Quiet l used = used
  heard_used view link reply (Asked question) l used = used
  heard_used view link reply (Answered question) l used = of_used view.links link (heard setup.reads question reply) (λ x. refl) l used

  pub used_after : (view : View) (e : Happening) (l : LinkId) → StaysUsed e l → IsUsed view l → IsUsed (view_step setup view e) l
  used_after view (LoggedIn link server account) l stays used = put_used view.links link (new_link server account) l (λ here. refl) used
  used_after view (Sent link question) l stays used = of_used view.links link (asked question) (λ x. refl) l used
  used_after view (Ran link) l stays used = of_used view.links link (λ x. ran_by setup.reads x.stage x) (λ x. ran_used x.stage x) l used
  used_after view (Heard link reply) l stays used = heard_used view link reply (view.links link).stage l used
  used_after view (Freed link) l stays used = of_used view.links link freed (λ x. refl) l used
  used_after view (Unprepared link number) l stays used = of_used view.links link (closed_number number) (λ x. refl) l used
  used_after view (Gone link) l stays used = put_used view.links link (record (view.links link) { usable = false }) l (λ here. isnt (sym stays ∙ here)) used
  used_after view _ l stays used = used
