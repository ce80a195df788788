-- What laws know of the tables' standing.
use Rattle.std.specs.Prelude.{◌≡◌, ℕ, false, IfSome, List, Option, Some}
use Rattle.std.proofs.Common.{inl, subst, sym}
use Rattle.client_session.specs.Setups.{Setup as Service}
use Rattle.private_model.specs.Names.{ClientNo, LinkId}
use Rattle.core_tables.specs.Tables.{Tabled}
use Rattle.core_stands.specs.Grounds.{Ground}
use Rattle.core_stands.specs.Stands.{Stands}
use Rattle.core_laws.specs.parting.Partings.{AreGivenUp}
use Rattle.router_laws.specs.reading.Givings.{MayBeGivenUp}
use Rattle.router_laws.specs.wakes.Calling.{IsUnsent}

-- what wasn't sent may be given up

may_be : (l : LinkId) (c : ClientNo) (t : Tabled) → IsUnsent c t → MayBeGivenUp l c t
may_be l c t is = record {
  row = is.row;
  work = is.work;
  at_work = is.at_work;
  aside = inl is.unsent;
  lent = subst (λ (home : Option LinkId). IfSome home (λ (at : LinkId). at ≡ l)) (sym is.unlent) tt;
}

abbrev pub GivenAside : Type 0
GivenAside = (service : Service) (g : Ground) (t : Tabled) (l : LinkId) (given : ClientNo → Option (List ℕ)) → Stands service g t
    → ((c : ClientNo) (payload : List ℕ) → given c ≡ Some payload → MayBeGivenUp l c t) → AreGivenUp given (λ other. false) t

pub unsent_aside : GivenAside → (service : Service) (g : Ground) (t : Tabled) (given : ClientNo → Option (List ℕ)) → Stands service g t
    → ((c : ClientNo) (payload : List ℕ) → given c ≡ Some payload → IsUnsent c t) → AreGivenUp given (λ l. false) t
unsent_aside aside service g t given stands unsent =
    let any : LinkId = record { 0 = 0 } in
    aside service g t any given stands (λ c payload is. may_be any c t (unsent c payload is))
