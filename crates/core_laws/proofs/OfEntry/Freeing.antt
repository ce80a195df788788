-- Links are given back one by one, as they are named.
use Rattle.std.specs.Prelude.{◌≡◌, Bool, true, false, All, if◌then◌else◌, List, [], ◌∷◌}
use Rattle.std.proofs.Common.{refl, ◌∙◌}
use Rattle.std.proofs.lemmas.List.Elements.{All-head, All-tail, All-weaker}
use Rattle.client_session.specs.Setups.{Setup as Service}
use Rattle.private_model.specs.Names.{LinkId}
use Rattle.std.specs.List.{list_any}
use Rattle.private_model.specs.Story.{Freed, is_link_id}
use Rattle.private_model.specs.View.{Setup}
use Rattle.log_story.specs.Plan.{Plan}
use Rattle.log_story.specs.Servers.{freed_if_done, is_done}
use Rattle.log_story.specs.Tale.{Tale, is_to_server, link_in, tell, view_of}
use Rattle.step_laws.specs.Freed.{freed_in}
use Rattle.core_tables.specs.Parting as tables
use Rattle.core_tables.specs.Tables.{Tabled}
use Rattle.core_stands.specs.Grounds.{Ground, on}
use Rattle.core_stands.specs.Stands.{Stands}
use Rattle.core_laws.specs.entry.Freeing.{all_freed}

abbrev Frees : Service → Type 0
Frees service =
    (g : Ground) (t : Tabled) (l : LinkId) → Stands service g t → is_to_server g.tale l ≡ true
    → Stands service (on g (freed_if_done g.setup g.plan g.tale l)) (tables.freed_in l t)

same_links : (setup : Setup) (plan : Plan) (tale : Tale) (l : LinkId) → (freed_if_done setup plan tale l).links ≡ tale.links
same_links setup plan tale l = by (is_done plan tale.moment (view_of setup tale) (tale.wires l) (link_in setup tale l)) where
  by : (b : Bool) → (if b then tell (Freed l) tale else tale).links ≡ tale.links
  by true = refl
  by false = refl

still_servers : (setup : Setup) (plan : Plan) (tale : Tale) (l other : LinkId) → is_to_server tale other ≡ true
    → is_to_server (freed_if_done setup plan tale l) other ≡ true
still_servers setup plan tale l other there = (λ i. list_any (is_link_id other) (same_links setup plan tale l i)) ∙ there

pub frees_all : (service : Service) → Frees service → (links : List LinkId) (g : Ground) (t : Tabled) → Stands service g t
    → All (λ (l : LinkId). is_to_server g.tale l ≡ true) links
    → Stands service (on g (freed_in g.setup g.plan links g.tale)) (all_freed links t)
frees_all service frees [] g t stands there = stands
frees_all service frees (l ∷ links) g t stands there =
    let next : Tale = freed_if_done g.setup g.plan g.tale l in
    frees_all service frees links (on g next) (tables.freed_in l t)
    (frees g t l stands (All-head (λ (k : LinkId). is_to_server g.tale k ≡ true) l links there))
    (All-weaker (λ (k : LinkId). is_to_server g.tale k ≡ true) (λ (k : LinkId). is_to_server next k ≡ true)
    (λ k is. still_servers g.setup g.plan g.tale l k is) links (All-tail (λ (k : LinkId). is_to_server g.tale k ≡ true) l links there))
