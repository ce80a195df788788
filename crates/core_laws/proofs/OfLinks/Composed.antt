-- An entry of a link to a server that carries a session, by its parts.
use Rattle.std.specs.Prelude.{◌≡◌, Bool, true, false, ◌||◌, All, filter, List, [], ◌∷◌}
use Rattle.std.specs.List.{list_any}
use Rattle.std.proofs.Common.{refl, sym, ◌∙◌, ap, subst}
use Rattle.std.proofs.lemmas.List.Elements.{All-cons, All-filter, All-nil, All-weaker}
use Rattle.mx_wire.specs.declared.entry.Entry.{Entry}
use Rattle.client_session.specs.Setups.{Setup as Service}
use Rattle.private_model.proofs.Maps.{same_link, same_number}
use Rattle.private_model.specs.Names.{ClientNo, LinkId}
use Rattle.private_model.specs.Story.{is_client, is_link_id}
use Rattle.log_story.specs.Clients.{client_goes_on}
use Rattle.log_story.specs.Tale.{Client, Tale, is_to_server}
use Rattle.log_story.specs.Telling.{tale_step}
use Rattle.step_laws.proofs.Apart.{freed_apart}
use Rattle.step_laws.proofs.Giving.{kept_in}
use Rattle.step_laws.proofs.Leaving.{leave_spares}
use Rattle.step_laws.proofs.Others.{idle_by}
use Rattle.step_laws.proofs.Stepping.{step_parting}
use Rattle.step_laws.proofs.Taking.{goes_spares}
use Rattle.step_laws.specs.Freed.{freed_in, is_among}
use Rattle.step_laws.specs.Seats.{IsSeated, is_its}
use Rattle.step_laws.specs.Steps.{IsOfOne, carries_parting, leave}
use Rattle.step_laws.specs.Taken.{AreSingle, IsIdle}
use Rattle.core_tables.specs.Tables.{IsSame, Tabled}
use Rattle.core_stands.specs.Grounds.{Ground, on, view_on}
use Rattle.core_stands.specs.Stands.{Stands}
use Rattle.core_laws.specs.entry.Entries.{AreCalmToo, behind}
use Rattle.core_laws.specs.entry.Freeing.{all_freed}
use Rattle.core_laws.proofs.OfLinks.Uncalled.{Sames}
use Rattle.core_laws.specs.links.Parting.{first_freed, parted, parting_links}

or_there : (a b : Bool) → b ≡ true → (a || b) ≡ true
or_there true b there = refl
or_there false b there = there

each_among : (xs : List LinkId) → All (λ (x : LinkId). is_among xs x ≡ true) xs
each_among [] = All-nil (λ (x : LinkId). is_among [] x ≡ true)
each_among (l ∷ xs) =
    All-cons (λ (x : LinkId). is_among (l ∷ xs) x ≡ true) l xs (ap (λ (b : Bool). b || is_among xs l) (same_link l))
    (All-weaker (λ (x : LinkId). is_among xs x ≡ true) (λ (x : LinkId). is_among (l ∷ xs) x ≡ true)
    (λ x there. or_there (is_link_id x l) (is_among xs x) there) xs (each_among xs))

abbrev pub GivesBack : Service → Type 0
GivesBack service = (g : Ground) (t : Tabled) (links : List LinkId) → Stands service g t → All (λ (l : LinkId). is_to_server g.tale l ≡ true) links
    → Stands service (on g (freed_in g.setup g.plan links g.tale)) (all_freed links t)

module _ (g : Ground) (e : Entry) (l : LinkId) (client : Client) (ended : List ClientNo) (over : ClientNo → Bool) (tale : Tale)
    (of_one : IsOfOne g.setup g.plan g.tale e client ended (first_freed g e l)) (theirs : All (λ (c : ClientNo). is_its client c ≡ true) ended)
    (single : AreSingle g.plan (is_its client)) (goes : client_goes_on g.setup g.plan (view_on g) e (first_freed g e l) client ≡ tale) where
  abbrev links : List LinkId
  links = parting_links g e l client

  step_is : tale_step g.setup g.plan g.tale e ≡ freed_in g.setup g.plan links (leave ended tale)
  step_is =
      step_parting g.setup g.plan g.tale e client ended (first_freed g e l) of_one
      ∙ ap (λ (gone : Tale). freed_in g.setup g.plan links (leave ended gone)) goes

  links_same : (leave ended tale).links ≡ (first_freed g e l).links
  links_same =
      (leave_spares g.setup (is_its client) ended tale theirs).to_servers ∙ ap (λ (gone : Tale). gone.links) (sym goes)
      ∙ (goes_spares g.setup (is_its client) g.plan single (view_on g) e client (first_freed g e l) (same_number client.number.0)).to_servers

  to_servers : All (λ (x : LinkId). is_to_server (leave ended tale) x ≡ true) links
  to_servers =
      All-weaker (λ (x : LinkId). is_among (first_freed g e l).links x ≡ true) (λ (x : LinkId). is_to_server (leave ended tale) x ≡ true)
      (λ x there. ap (list_any (is_link_id x)) links_same ∙ there) links
      (All-filter (carries_parting g.setup g.plan (is_its client) (first_freed g e l)) (λ (x : LinkId). is_among (first_freed g e l).links x ≡ true)
      (first_freed g e l).links (each_among (first_freed g e l).links))

  pub stands_behind : (service : Service) → GivesBack service → Sames service → (gone now : Tabled) → Stands service (parted g ended over tale) gone
      → IsSame now (all_freed links gone) → Stands service (behind g e over) now
  stands_behind service gives sames gone now stands same =
      sames (behind g e over) (all_freed links gone) now
      (subst (λ (x : Tale). Stands service (record g { tale = x; over = over }) (all_freed links gone)) (sym step_is)
      (gives (parted g ended over tale) gone links stands to_servers)) same

  clients_same : (tale_step g.setup g.plan g.tale e).clients ≡ (leave ended tale).clients
  clients_same =
      ap (λ (x : Tale). x.clients) step_is ∙ kept_in g.setup g.plan (λ (x : Tale). x.clients) (λ story x. refl) links (leave ended tale)

  pub calm_behind : (room : ClientNo → Bool) → AreCalmToo (is_its client) (parted g ended over tale) room
      → AreCalmToo (is_its client) (behind g e over) room
  calm_behind room calm c seated its going full =
      let before : IsSeated (leave ended tale) c =
      subst (λ (xs : List Client). filter (λ (other : Client). is_client other.number c.number) xs ≡ c ∷ []) clients_same seated in
      subst (λ (x : Tale). IsIdle g.setup g.plan x c) (sym step_is)
      (idle_by g.setup g.plan c (leave ended tale) (freed_in g.setup g.plan links (leave ended tale))
      (freed_apart g.setup g.plan c links (leave ended tale)).up (calm c before its going full))
