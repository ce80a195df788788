-- A client of which an entry is stands before its turns.
use Rattle.std.specs.Prelude.{◌≡◌, ℕ, Bool, filter, List, [], ◌∷◌}
use Rattle.std.proofs.Common.{refl, sym, ap, ◌∙◌, subst}
use Rattle.mx_wire.specs.declared.entry.Entry.{Entry}
use Rattle.client_session.specs.Setups.{Setup as Service}
use Rattle.private_model.specs.Names.{ClientNo}
use Rattle.private_model.specs.Story.{is_client}
use Rattle.log_story.specs.Tale as tales
use Rattle.log_story.specs.Tale.{Tale}
use Rattle.step_laws.proofs.Giving.{kept_in}
use Rattle.step_laws.specs.Seats.{IsSeated}
use Rattle.step_laws.specs.Steps.{told_then}
use Rattle.core_tables.specs.Tables.{Tabled}
use Rattle.core_stands.specs.Grounds.{Ground}
use Rattle.core_stands.specs.Stands.{Stands}
use Rattle.core_laws.proofs.OfEntry.Looping.{taking_begins}
use Rattle.core_laws.specs.clients.Chosen.{IsTurning}
use Rattle.core_laws.specs.clients.Following.{IsFollowing, to_look}
use Rattle.core_laws.specs.clients.Follows.{Parting}
use Rattle.core_laws.specs.clients.Turns.{Choice, Halt}

module _ (service : Service) (default : List ℕ) (g : Ground) (mid : Tabled) (fresh : ClientNo → Bool) (e : Entry) (client : tales.Client) (freed : Tale)
    (choices : List Choice) (halt : Halt) (parting : Parting) (is : IsFollowing service default g e client freed choices halt parting)
    (stands : Stands service (to_look g fresh freed) mid) where
  abbrev heard : Tale
  heard = told_then g.setup g.plan g.tale e

  clients_same : freed.clients ≡ heard.clients
  clients_same =
      ap (λ (x : Tale). x.clients) (sym is.of_one.first) ∙ kept_in g.setup g.plan (λ (x : Tale). x.clients) (λ story x. refl) heard.links heard

  pub seated_first : IsSeated freed client
  seated_first =
      subst (λ (xs : List tales.Client). filter (λ (other : tales.Client). is_client other.number client.number) xs ≡ client ∷ []) (sym clients_same)
      is.of_one.seated

  pub turning_of : IsTurning service default client freed (to_look g fresh freed) mid client
  turning_of = record {
    taking = taking_begins service (to_look g fresh freed) mid client stands seated_first;
    classes = is.classes;
    let_in = record { account = is.let_in.account; place = is.let_in.place };
    going = is.going;
    unrouted = is.unrouted;
  }
