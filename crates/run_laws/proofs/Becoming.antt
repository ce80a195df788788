-- What is so of each statement as it becomes due is so of what is due, and of what stands on a link in a lawful story.
use Rattle.std.specs.Prelude.{◌≡◌, Bool, true, false, if◌then◌else◌, List, [], ◌∷◌, Option, Some, None}
use Rattle.std.proofs.Common.{refl, sym, ap, ◌∙◌, subst}
use Rattle.std.proofs.lemmas.Option.{none-some, same_Some}
use Rattle.mx_base.specs.declared.names.LinkId.{LinkId}
use Rattle.private_model.proofs.Maps.{name_of}
use Rattle.private_model.specs.Commands.{Reply}
use Rattle.private_model.specs.Lawful.{Fits, IsLawful}
use Rattle.private_model.specs.Names.{SessionName}
use Rattle.private_model.specs.Story.{BecameDue, Broke, Capture, Dropped, Due, End, Freed, Gone, Happening, Heard, Left, LoggedIn, Mirrored, Own, Prep, Question, Ran, Sent, Statement, Story, Sync, Unprepared}
use Rattle.private_model.specs.Story.{for_statement, is_link_id, is_name, put}
use Rattle.private_model.specs.View.{Answered, Asked, Link, Quiet, Setup, Stage, View, asked, closed_number, due_of, freed, heard, new_link, present, ran_by, view_after, view_heard}
use Rattle.run_laws.specs.Becoming.{AllBecame, OfAsked, OfStage}

-- where one follows from the other
pub became_so : (setup : Setup) (P Q : SessionName → Due → Type 0) → ((n : SessionName) (due : Due) → P n due → Q n due) → (story : Story)
    → AllBecame setup P story → AllBecame setup Q story
became_so setup P Q so [] all = tt
became_so setup P Q so (BecameDue client hostgroup ordinal key command multiplex ∷ past) all = (so _ _ all.0, became_so setup P Q so past all.1)
became_so setup P Q so (LoggedIn link server account ∷ past) all = became_so setup P Q so past all
became_so setup P Q so (Sent link question ∷ past) all = became_so setup P Q so past all
became_so setup P Q so (Ran link ∷ past) all = became_so setup P Q so past all
became_so setup P Q so (Heard link reply ∷ past) all = became_so setup P Q so past all
became_so setup P Q so (Freed link ∷ past) all = became_so setup P Q so past all
became_so setup P Q so (Unprepared link number ∷ past) all = became_so setup P Q so past all
became_so setup P Q so (Dropped link ∷ past) all = became_so setup P Q so past all
became_so setup P Q so (Gone link ∷ past) all = became_so setup P Q so past all
became_so setup P Q so (Left client ∷ past) all = became_so setup P Q so past all
became_so setup P Q so (Broke ∷ past) all = became_so setup P Q so past all
became_so setup P Q so (Mirrored client job ∷ past) all = became_so setup P Q so past all

module _ (setup : Setup) (P : SessionName → Due → Type 0) where
  -- What is due.

  abbrev DuesAre : (SessionName → Option Due) → Type 0
  DuesAre dues = (n : SessionName) (due : Due) → dues n ≡ Some due → P n due

  put_dues : (dues : SessionName → Option Due) (n : SessionName) (o : Option Due) → ((due : Due) → o ≡ Some due → P n due) → DuesAre dues
      → DuesAre (put is_name dues n o)
  put_dues dues n o now are m due is = by_test (is_name m n) refl is where
    by_test : (b : Bool) → is_name m n ≡ b → (if b then o else dues m) ≡ Some due → P m due
    by_test true same here = subst (λ (k : SessionName). P k due) (sym (name_of m n same)) (now due here)
    by_test false other there = are m due there

  sent_dues : (question : Question) (dues : SessionName → Option Due) → DuesAre dues
      → DuesAre (for_statement question (λ n due. put is_name dues n None) dues)
  sent_dues (Statement n due) dues are = put_dues dues n None (λ d is. absurd (none-some d is)) are
  sent_dues (Prep n key text) dues are = are
  sent_dues (Sync n command) dues are = are
  sent_dues (Own command) dues are = are
  sent_dues (End n) dues are = are
  sent_dues (Capture n) dues are = are

  heard_dues : (view : View) (link : LinkId) (reply : Reply) (stage : Stage) → DuesAre view.dues → DuesAre (view_heard setup view link reply stage).dues
  heard_dues view link reply Quiet are = are
  heard_dues view link reply (Asked question) are = are
  heard_dues view link reply (Answered question) are = are

  pub all_dues : (story : Story) → AllBecame setup P story → DuesAre (view_after setup story).dues
  all_dues [] all = λ n due is. absurd (none-some due is)
  all_dues (BecameDue client hostgroup ordinal key command multiplex ∷ past) all =
      let view : View = view_after setup past in
      let n : SessionName = present view client hostgroup in
      put_dues view.dues n (Some (due_of view n ordinal key command multiplex)) (λ due is. subst (P n) (same_Some _ due is) all.0) (all_dues past all.1)
  all_dues (Sent link question ∷ past) all = sent_dues question (view_after setup past).dues (all_dues past all)
  all_dues (Heard link reply ∷ past) all =
      heard_dues (view_after setup past) link reply ((view_after setup past).links link).stage (all_dues past all)
  all_dues (LoggedIn link server account ∷ past) all = all_dues past all
  all_dues (Ran link ∷ past) all = all_dues past all
  all_dues (Freed link ∷ past) all = all_dues past all
  all_dues (Unprepared link number ∷ past) all = all_dues past all
  all_dues (Dropped link ∷ past) all = all_dues past all
  all_dues (Gone link ∷ past) all = all_dues past all
  all_dues (Left client ∷ past) all = all_dues past all
  all_dues (Broke ∷ past) all = all_dues past all
  all_dues (Mirrored client job ∷ past) all = all_dues past all

  -- What stands on links.

  abbrev LinksAre : (LinkId → Link) → Type 0
  LinksAre links = (l : LinkId) → OfStage P (links l).stage

  put_link : (links : LinkId → Link) (k : LinkId) (link : Link) → OfStage P link.stage → LinksAre links → LinksAre (put is_link_id links k link)
  put_link links k link now are l = by_test (is_link_id l k) where
    by_test : (b : Bool) → OfStage P (if b then link else links l).stage
    by_test true = now
    by_test false = are l

  fits_dues : (view : View) (link : Link) (question : Question) → Fits setup view link question → DuesAre view.dues → OfAsked P question
  fits_dues view link (Statement n due) fits are = are n due fits.is_due
  fits_dues view link (Prep n key text) fits are = tt
  fits_dues view link (Sync n command) fits are = tt
  fits_dues view link (Own command) fits are = tt
  fits_dues view link (End n) fits are = tt
  fits_dues view link (Capture n) fits are = tt

  ran_stage : (stage : Stage) (link : Link) → link.stage ≡ stage → OfStage P link.stage → OfStage P (ran_by setup.reads stage link).stage
  ran_stage Quiet link at is = is
  ran_stage (Answered question) link at is = is
  ran_stage (Asked question) link at is = subst (OfStage P) at is

  heard_links : (view : View) (k : LinkId) (reply : Reply) (stage : Stage) → LinksAre view.links → LinksAre (view_heard setup view k reply stage).links
  heard_links view k reply Quiet are = are
  heard_links view k reply (Asked question) are = are
  heard_links view k reply (Answered question) are = put_link view.links k (heard setup.reads question reply (view.links k)) tt are

  pub all_asked : (story : Story) → IsLawful setup story → AllBecame setup P story → LinksAre (view_after setup story).links
  all_asked [] lawful all = λ l. tt
  all_asked (LoggedIn link server account ∷ past) lawful all =
      put_link (view_after setup past).links link (new_link server account) tt (all_asked past lawful.0 all)
  all_asked (BecameDue client hostgroup ordinal key command multiplex ∷ past) lawful all = all_asked past lawful.0 all.1
  all_asked (Sent link question ∷ past) lawful all =
      let view : View = view_after setup past in
      put_link view.links link (asked question (view.links link)) (fits_dues view (view.links link) question lawful.1.fits (all_dues past all))
      (all_asked past lawful.0 all)
  all_asked (Ran link ∷ past) lawful all =
      let view : View = view_after setup past in
      let are : LinksAre view.links = all_asked past lawful.0 all in
      put_link view.links link (ran_by setup.reads (view.links link).stage (view.links link)) (ran_stage (view.links link).stage (view.links link) refl (are link)) are
  all_asked (Heard link reply ∷ past) lawful all =
      let view : View = view_after setup past in
      heard_links view link reply (view.links link).stage (all_asked past lawful.0 all)
  all_asked (Freed link ∷ past) lawful all =
      let view : View = view_after setup past in
      let are : LinksAre view.links = all_asked past lawful.0 all in
      put_link view.links link (freed (view.links link)) (are link) are
  all_asked (Unprepared link number ∷ past) lawful all =
      let view : View = view_after setup past in
      let are : LinksAre view.links = all_asked past lawful.0 all in
      put_link view.links link (closed_number number (view.links link)) (are link) are
  all_asked (Gone link ∷ past) lawful all =
      let view : View = view_after setup past in
      let are : LinksAre view.links = all_asked past lawful.0 all in
      put_link view.links link (record (view.links link) { usable = false }) (are link) are
  all_asked (Dropped link ∷ past) lawful all = all_asked past lawful.0 all
  all_asked (Left client ∷ past) lawful all = all_asked past lawful.0 all
  all_asked (Broke ∷ past) lawful all = all_asked past lawful.0 all
  all_asked (Mirrored client job ∷ past) lawful all = all_asked past lawful.0 all
