-- Links and homes agree as rows change that keep what that is about.
use Rattle.std.specs.Prelude.{◌≡◌, ◌⊎◌, ℕ, Some, None}
use Rattle.std.proofs.Common.{refl, sym, ap, ◌∙◌, subst, inl, inr}
use Rattle.mx_base.specs.declared.names.Hostgroup.{Hostgroup}
use Rattle.private_model.specs.Names.{ClientNo, LinkId}
use Rattle.row_laws.specs.Whose.{name_in}
use Rattle.client_desk.specs.Desks.{session_of}
use Rattle.core_tables.specs.Tables.{Tabled, client_changed, link_changed}
use Rattle.core_tables.specs.declared.client.Client.{Client}
use Rattle.core_tables.specs.declared.server.Server.{Server}
use Rattle.core_stands.specs.Grounds.{Ground}
use Rattle.core_stands.specs.Stands.{AreHomes}
use Rattle.core_laws.proofs.OfHearing.Changing.{IsBefore, IsNow, client_before, client_now, link_before, link_now}

-- its sessions have their homes and lives
pub record KeepsHomes (old new : Client) : Type 0 where
  pub home : (h : Hostgroup) → (session_of new.desk h).home ≡ (session_of old.desk h).home
  pub life : (h : Hostgroup) → (session_of new.desk h).life ≡ (session_of old.desk h).life

-- it carries whom it carried
pub record KeepsCarried (old new : Server) : Type 0 where
  pub carries : name_in new.row.link.state.carries ≡ name_in old.row.link.state.carries
  pub lost : new.row.lost ≡ old.row.lost
  pub left : new.row.left ≡ None → old.row.left ≡ None
  pub kept : old.row.left ≡ None → new.row.left ≡ None

pub homes_same : (client : Client) → KeepsHomes client client
homes_same client = record { home = λ h. refl; life = λ h. refl }

pub carried_same : (server : Server) → KeepsCarried server server
carried_same server = record { carries = refl; lost = refl; left = λ is. is; kept = λ is. is }

pub record AreKept (t other : Tabled) : Type 0 where
  pub back : (c : ClientNo) (now : Client) → other.clients c ≡ Some now → (was : Client) × (t.clients c ≡ Some was) × KeepsHomes was now
  pub on : (c : ClientNo) (was : Client) → t.clients c ≡ Some was → (now : Client) × (other.clients c ≡ Some now) × KeepsHomes was now
  pub link_back : (l : LinkId) (now : Server) → other.links l ≡ Some now → (was : Server) × (t.links l ≡ Some was) × KeepsCarried was now
  pub link_on : (l : LinkId) (was : Server) → t.links l ≡ Some was → (now : Server) × (other.links l ≡ Some now) × KeepsCarried was now

pub homes_kept : (g after : Ground) (t other : Tabled) → AreKept t other → AreHomes g t → AreHomes after other
homes_kept g after t other kept are = record {
  carried = λ c now h l there home.
      let was = kept.back c now there in
      let found = are.carried c was.0 h l was.1 (sym (was.2.home h) ∙ home) in
      let new = kept.link_on l found.0 found.1.there in (
        new.0,
        record {
          there = new.1;
          carries = new.2.carries ∙ found.1.carries ∙ ap (λ (life : ℕ). Some (record { client = c; hostgroup = h; life = life })) (sym (was.2.life h));
          present = new.2.kept found.1.present;
          whole = new.2.lost ∙ found.1.whole;
        },
      );
  home = λ l now n there carries present whole.
      let was = kept.link_back l now there in
      let found = are.home l was.0 n was.1 (sym was.2.carries ∙ carries) (was.2.left present) (sym was.2.lost ∙ whole) in
      let new = kept.on n.client found.0 found.1 in
      (new.0, new.1, new.2.home n.hostgroup ∙ found.2, new.2.life n.hostgroup ∙ found.3);
}

-- a client's row and a link's
module _ (t : Tabled) (c : ClientNo) (by : Client → Client) (keeps : (client : Client) → t.clients c ≡ Some client → KeepsHomes client (by client))
    (l : LinkId) (renews : Server → Server) (carries : (server : Server) → t.links l ≡ Some server → KeepsCarried server (renews server)) where
  abbrev other : Tabled
  other = client_changed c by (link_changed l renews t)

  client_which : (k : ClientNo) (was now : Client) → t.clients k ≡ Some was → ((c ≡ k) × (now ≡ by was)) ⊎ (now ≡ was) → KeepsHomes was now
  client_which k was now there (inl (same, is)) =
      subst (λ (x : Client). KeepsHomes was x) (sym is) (keeps was (ap t.clients same ∙ there))
  client_which k was now there (inr is) = subst (λ (x : Client). KeepsHomes was x) (sym is) (homes_same was)

  link_which : (k : LinkId) (was now : Server) → t.links k ≡ Some was → ((l ≡ k) × (now ≡ renews was)) ⊎ (now ≡ was) → KeepsCarried was now
  link_which k was now there (inl (same, is)) =
      subst (λ (x : Server). KeepsCarried was x) (sym is) (carries was (ap t.links same ∙ there))
  link_which k was now there (inr is) = subst (λ (x : Server). KeepsCarried was x) (sym is) (carried_same was)

  pub both_kept : AreKept t other
  both_kept = record {
    back = λ k now there.
        let found : IsBefore t.clients by c k now = client_before c by t k now there in
        (found.was, found.there, client_which k found.was now found.there found.which);
    on = λ k was there.
        let found : IsNow (client_changed c by t).clients by c k was = client_now c by t k was there in
        (found.now, found.there, client_which k was found.now there found.which);
    link_back = λ k now there.
        let found : IsBefore t.links renews l k now = link_before l renews t k now there in
        (found.was, found.there, link_which k found.was now found.there found.which);
    link_on = λ k was there.
        let found : IsNow (link_changed l renews t).links renews l k was = link_now l renews t k was there in
        (found.now, found.there, link_which k was found.now there found.which);
  }

-- a link's row alone
pub link_kept : (t : Tabled) (l : LinkId) (renews : Server → Server) → ((server : Server) → t.links l ≡ Some server → KeepsCarried server (renews server))
    → AreKept t (link_changed l renews t)
link_kept t l renews carries = record {
  back = λ k now there. (now, there, homes_same now);
  on = λ k was there. (was, there, homes_same was);
  link_back = λ k now there.
      let found : IsBefore t.links renews l k now = link_before l renews t k now there in
      (found.was, found.there, which k found.was now found.there found.which);
  link_on = λ k was there.
      let found : IsNow (link_changed l renews t).links renews l k was = link_now l renews t k was there in
      (found.now, found.there, which k was found.now there found.which);
} where
  which : (k : LinkId) (was now : Server) → t.links k ≡ Some was → ((l ≡ k) × (now ≡ renews was)) ⊎ (now ≡ was) → KeepsCarried was now
  which k was now there (inl (same, is)) =
      subst (λ (x : Server). KeepsCarried was x) (sym is) (carries was (ap t.links same ∙ there))
  which k was now there (inr is) = subst (λ (x : Server). KeepsCarried was x) (sym is) (carried_same was)
