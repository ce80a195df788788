-- Which links are to be given back.
use Rattle.std.specs.Prelude.{◌≡◌, ◌<◌, ℕ, Bool, true, false, All, fold, List, [], ◌∷◌}
use Rattle.std.specs.List.{list_any}
use Rattle.private_model.specs.Names.{LinkId}
use Rattle.private_model.specs.Story.{is_link_id}
use Rattle.private_model.specs.View.{Setup}
use Rattle.log_story.specs.Plan.{Plan}
use Rattle.log_story.specs.Servers.{freed_if_done, is_done}
use Rattle.log_story.specs.Tale.{Tale, is_to_server, link_in, view_of}

abbrev pub is_done_at : Setup → Plan → Tale → LinkId → Bool
is_done_at setup plan tale link =
    is_done plan tale.moment (view_of setup tale) (tale.wires link) (link_in setup tale link)

-- none of the links to servers is, but for those that pass a test
abbrev pub NoneDoneBut : Setup → Plan → (touched : LinkId → Bool) → Tale → Type 0
NoneDoneBut setup plan touched tale =
    (link : LinkId) → is_to_server tale link ≡ true → touched link ≡ false
    → is_done_at setup plan tale link ≡ false

abbrev pub NoneDone : Setup → Plan → Tale → Type 0
NoneDone setup plan tale =
    (link : LinkId) → is_to_server tale link ≡ true → is_done_at setup plan tale link ≡ false

-- those of these that are to be are given back, in this order
abbrev pub freed_in : Setup → Plan → List LinkId → Tale → Tale
freed_in setup plan links tale = fold (freed_if_done setup plan) tale links

abbrev pub is_among : List LinkId → LinkId → Bool
is_among links link = list_any (is_link_id link) links

-- These are links to servers, and all that are to be given back are among them.
pub record AreAll (setup : Setup) (plan : Plan) (links : List LinkId) (tale : Tale) : Type 0 where
  pub theirs : (link : LinkId) → is_among links link ≡ true → is_to_server tale link ≡ true
  pub all : NoneDoneBut setup plan (is_among links) tale

-- their places go up
abbrev pub Ascend : (place : LinkId → ℕ) → List LinkId → Type 0
Ascend place [] = Unit {0}
Ascend place (x ∷ xs) = All (λ y. place x < place y) xs × Ascend place xs
