-- What the router answers itself by the next moment, where statements are given up that are in work: it answered it already, or no reply to it was read.
use Rattle.std.specs.Prelude.{◌≡◌, ◌⊎◌, ◌≤◌, ◌&&◌, ℕ, suc, Bool, true, false, is_some, nat_eq, List, Option, Some, None}
use Rattle.std.proofs.Common.{refl, sym, ap, ◌∙◌, inl, inr}
use Rattle.std.proofs.lemmas.Bool.{eqb-true}
use Rattle.std.proofs.lemmas.Option.{none-some}
use Rattle.private_model.specs.Names.{ClientNo, LinkId}
use Rattle.log_story.specs.Owed.{name_of}
use Rattle.log_story.specs.Plan.{own_at}
use Rattle.log_story.specs.Tale as tales
use Rattle.log_story.specs.Tale.{Tale}
use Rattle.client_seat.specs.Seats.{is_ended}
use Rattle.client_desk.specs.declared.work.Work.{Work}
use Rattle.step_laws.specs.Seats.{IsSeated}
use Rattle.core_tables.specs.Tables.{Tabled}
use Rattle.core_tables.specs.declared.client.Client.{Client}
use Rattle.core_stands.specs.Clients.{IsClient, IsGoing, IsPhase}
use Rattle.core_stands.specs.Grounds.{Ground, view_on}
use Rattle.core_stands.specs.Stands.{AreClients}
use Rattle.core_laws.specs.parting.Partings.{AreCounted, AreGivenUp, IsCounted}
use Rattle.core_laws.proofs.OfParting.Same.{each_of}
use Rattle.core_laws.proofs.OfPrepared.Rows.{OwnsStay, its_client, unreplied}

pub owns_given : (g : Ground) (t : Tabled) (tale : Tale) (given : ClientNo → Option (List ℕ)) (excepted : LinkId → Bool)
    → tale.moment ≡ suc g.tale.moment → AreClients g t → AreGivenUp given excepted t → AreCounted g given → OwnsStay g tale
owns_given g t tale given excepted moment are gives counts = record {
  each = λ client seated k below own.
      by client seated k below (ap (λ (n : ℕ). is_some (own_at g.plan n (name_of client k))) (sym moment) ∙ own)
      (each_of (λ (c : tales.Client). IsCounted g (given c.number) c) g client seated counts) (given client.number) refl
      (nat_eq k client.taken) refl;
} where
  going_of : (client : tales.Client) (row : Client) (work : Work) → row.desk.work ≡ Some work → (ended : Bool) → IsPhase ended g client row
      → IsGoing g client row
  going_of client row work in_work true is = absurd (none-some work (sym is.idle ∙ in_work))
  going_of client row work in_work false is = is

  by : (client : tales.Client) → IsSeated g.tale client → (k : ℕ) → k ≤ client.taken
      → is_some (own_at g.plan (suc g.tale.moment) (name_of client k)) ≡ true → IsCounted g (given client.number) client
      → (p : Option (List ℕ)) → given client.number ≡ p → (last : Bool) → nat_eq k client.taken ≡ last
      → (is_some (own_at g.plan g.tale.moment (name_of client k)) ≡ true) ⊎ ((view_on g).replies (name_of client k) ≡ None)
  by client seated k below own is None none last at =
      inl (ap is_some (sym (is.own k below (ap (λ (p : Option (List ℕ)). is_some p && nat_eq k client.taken) none))) ∙ own)
  by client seated k below own is (Some payload) some false at =
      inl (ap is_some (sym (is.own k below (λ i. is_some (some i) && at i))) ∙ own)
  by client seated k below own is (Some payload) some true at =
      let works = gives.in_work client.number payload some in
      let was : IsClient g client works.0 = its_client g t client works.0 are seated works.2.there in
      let going : IsGoing g client works.0 = going_of client works.0 works.1 works.2.in_work (is_ended works.0.desk.seat.phase) was.phase in
      inr (ap (λ (n : ℕ). (view_on g).replies (name_of client n)) (eqb-true k client.taken at)
      ∙ unreplied g client works.0 going (ap is_some works.2.in_work))
