-- Which links are open behind an entry.
use Rattle.std.specs.Prelude.{◌≡◌, ◌||◌, ℕ, Bool, true, false, is_some, nat_eq, if◌then◌else◌, List, [], ◌∷◌, ◌++◌, Option, Some, None}
use Rattle.std.proofs.Common.{refl, sym, ap, ◌∙◌, subst}
use Rattle.std.proofs.lemmas.Bool.{eqb-true, eq-eqb, ne_eqb}
use Rattle.mx_base.specs.declared.tag.Tag.{Tag}
use Rattle.mx_wire.specs.Log.{Log, is_link, is_open, link_of, open_step}
use Rattle.mx_wire.specs.declared.entry.Entry.{Entry}
use Rattle.mx_wire.specs.declared.entry.Entry.TheVariants as entry
use Rattle.private_model.specs.Names.{ClientNo, LinkId}
use Rattle.core_tables.specs.Arrivals.{without}
use Rattle.core_tables.specs.Tables.{IsSame, Tabled}
use Rattle.core_tables.specs.declared.client.Client.{Client}
use Rattle.core_tables.specs.declared.server.Server.{Server}
use Rattle.router_laws.specs.clients.Parts.{PartsSo}
use Rattle.router_laws.specs.clients.Writes.{WroteSo}
use Rattle.router_laws.proofs.OfDecisions.Fates.{false_true}
use Rattle.router_laws.proofs.OfDecisions.Listing.{open_with}
use Rattle.router_laws.specs.decisions.Routers.{AreOpenJust}
use Rattle.router_laws.specs.routers.Somehow.{AreLinked, IsLinked}

-- Where each link has a row that had one, and no other.

pub opens_same : (log : Log) (e : Entry) (t now : Tabled) → ((was : Bool) → open_step was e ≡ was)
    → ((l : LinkId) → is_some (now.links l) ≡ is_some (t.links l)) → ((l : LinkId) → is_some (now.numbers l) ≡ is_some (t.numbers l))
    → AreOpenJust log t → AreOpenJust (log ++ e ∷ []) now
opens_same log e t now stays links numbers just l =
    open_with log e l ∙ by (is_link l (link_of e)) ∙ just l ∙ (λ i. sym (links l) i || sym (numbers l) i) where
      by : (b : Bool) → (if b then open_step (is_open l log) e else is_open l log) ≡ is_open l log
      by true = stays (is_open l log)
      by false = refl

-- A client is written to.
pub wrote_opens : (log : Log) (link : LinkId) (tag : Tag) (bytes : List ℕ) (count : ℕ) (c : ClientNo) (roomy room : ClientNo → Bool) (t now : Tabled)
    → WroteSo link bytes count c roomy room t now → AreOpenJust log t → AreOpenJust (log ++ entry.Wrote link tag bytes ∷ []) now
wrote_opens log link tag bytes count c roomy room t now so just =
    opens_same log (entry.Wrote link tag bytes) t now (λ was. refl) (λ l. ap (λ (o : Option Server). is_some o) (so.same.links l))
    (λ l. ap (λ (o : Option ClientNo). is_some o) (so.same.numbers l)) just

-- A client's link is closed.

eq_sym : (a b : ℕ) → nat_eq a b ≡ nat_eq b a
eq_sym a b = by (nat_eq b a) refl where
  by : (x : Bool) → nat_eq b a ≡ x → nat_eq a b ≡ x
  by true is = eq-eqb a b (sym (eqb-true b a is))
  by false isnt = ne_eqb a b (λ same. false_true (nat_eq b a) isnt (eq-eqb b a (sym same)))

module _ (log : Log) (link : LinkId) (c : ClientNo) (t now : Tabled) (so : PartsSo link c t now) (linked : AreLinked t) (just : AreOpenJust log t) where
  its : IsLinked link c t
  its = linked link c so.its.numbered

  abbrev gone : Tabled
  gone = without c (Some its.row) t

  same : IsSame now gone
  same = subst (λ (row : Option Client). IsSame now (without c row t)) its.there so.same

  number : (k : LinkId) → nat_eq its.row.desk.seat.link.0 k.0 ≡ nat_eq k.0 link.0
  number k = ap (λ (x : LinkId). nat_eq x.0 k.0) its.link ∙ eq_sym link.0 k.0

  closed_by : (k : LinkId) (b : Bool) → nat_eq k.0 link.0 ≡ b → (if b then false else is_open k log) ≡ (is_some (t.links k) || is_some (gone.numbers k))
  closed_by k true is =
      let at : k.0 ≡ link.0 = eqb-true k.0 link.0 is in
      let none : t.links k ≡ None = ap (λ (x : ℕ). t.links (record { 0 = x })) at ∙ its.aside in
      sym (λ i. is_some (none i) || is_some (if (number k ∙ is) i then None else t.numbers k))
  closed_by k false isnt = just k ∙ ap (λ (b : Bool). is_some (t.links k) || is_some (if b then None else t.numbers k)) (sym (number k ∙ isnt))

  pub parts_open : AreOpenJust (log ++ entry.Closed link ∷ []) now
  parts_open k =
      open_with log (entry.Closed link) k ∙ closed_by k (nat_eq k.0 link.0) refl
      ∙ sym (λ i. is_some (same.links k i) || is_some (same.numbers k i))
