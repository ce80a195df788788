-- Tables that are the same stand alike, and a row is that of one of the tale's clients.
use Rattle.std.specs.Prelude.{◌≡◌, All, is_some, List, [], Option, Some}
use Rattle.std.proofs.Common.{sym, ap, ◌∙◌, subst}
use Rattle.std.proofs.lemmas.List.Elements.{All-filter, All-head, All-weaker}
use Rattle.client_session.specs.Setups.{Setup as Service}
use Rattle.private_model.specs.Names.{ClientNo, LinkId}
use Rattle.private_model.specs.Story.{Happening, is_client}
use Rattle.log_story.specs.Tale as tales
use Rattle.log_story.specs.Tale.{tell}
use Rattle.step_laws.specs.Seats.{IsSeated}
use Rattle.core_tables.specs.Tables.{IsSame, Tabled}
use Rattle.core_tables.specs.declared.client.Client.{Client}
use Rattle.core_tables.specs.declared.server.Server.{Server}
use Rattle.core_stands.specs.Clients.{IsClient, IsClientOr}
use Rattle.core_stands.specs.Grounds.{Ground, on}
use Rattle.core_stands.specs.Servers.{IsServerOr}
use Rattle.core_stands.specs.Stands.{AreClients, AreHomes, IsAt, IsKnown, Stands}
use Rattle.core_laws.proofs.OfParting.Reading.{unread_so}

-- a row, in a table that has it

pub row_of : (g : Ground) (client : tales.Client) (row : Client) (found : Option Client) → found ≡ Some row → IsClientOr g client found → IsClient g client row
row_of g client row found there is = subst (λ (x : Option Client). IsClientOr g client x) there is

pub server_of : (g : Ground) (t : Tabled) (l : LinkId) (server : Server) (found : Option Server) → found ≡ Some server → IsServerOr g t l found
    → IsServerOr g t l (Some server)
server_of g t l server found there is = subst (λ (x : Option Server). IsServerOr g t l x) there is

pub each_of : (P : tales.Client → Type 0) (g : Ground) (client : tales.Client) → IsSeated g.tale client → All P g.tale.clients → P client
each_of P g client seated all =
    All-head P client []
    (subst (λ (xs : List tales.Client). All P xs) seated (All-filter (λ (other : tales.Client). is_client other.number client.number) P g.tale.clients all))

module _ (g : Ground) (t other : Tabled) (same : IsSame other t) where
  at_same : (client : tales.Client) → IsAt g t client → IsAt g other client
  at_same client is = record {
    row = subst (λ (x : Option Client). IsClientOr g client x) (sym (same.clients client.number)) is.row;
    found = λ there. same.numbers client.link ∙ is.found (ap is_some (sym (same.clients client.number)) ∙ there);
    aside = is.aside;
    alone = is.alone;
  }

  clients_same : AreClients g t → AreClients g other
  clients_same are = record {
    counted = are.counted;
    each = All-weaker (IsAt g t) (IsAt g other) at_same g.tale.clients are.each;
    known = λ c row there. are.known c row (sym (same.clients c) ∙ there);
    named = λ l c there.
        let named = are.named l c (sym (same.numbers l) ∙ there) in
        (named.0, named.1, named.2, ap is_some (same.clients c) ∙ named.3);
  }

  homes_same : AreHomes g t → AreHomes g other
  homes_same are = record {
    carried = λ c row h l there home.
        let carried = are.carried c row h l (sym (same.clients c) ∙ there) home in
        (carried.0, record { there = same.links l ∙ carried.1.there; carries = carried.1.carries; present = carried.1.present; whole = carried.1.whole });
    home = λ l server n there carries mine kept.
        let home = are.home l server n (sym (same.links l) ∙ there) carries mine kept in
        (home.0, same.clients n.client ∙ home.1, home.2, home.3);
  }

  pub stands_same : (service : Service) → Stands service g t → Stands service g other
  stands_same service is = record {
    service_is = is.service_is;
    room_is = is.room_is;
    clients = clients_same is.clients;
    servers = λ l. subst (λ (x : Option Server). IsServerOr g other l x) (sym (same.links l)) (unread_so g t other l (t.links l) (is.servers l) same.clients);
    homes = homes_same is.homes;
    lawful = is.lawful;
    prepared = λ client seated row there going. is.prepared client seated row (sym (same.clients client.number) ∙ there) going;
    duly = is.duly;
  }

-- whose row it is
pub known_so : (service : Service) (g : Ground) (t : Tabled) (c : ClientNo) (row : Client) → Stands service g t → t.clients c ≡ Some row
    → (client : tales.Client) × IsKnown g c client × IsClient g client row
known_so service g t c row is there =
    let known = is.clients.known c row there in
    let at = each_of (IsAt g t) g known.0 known.1.seated is.clients.each in
    (known.0, known.1, row_of g known.0 row (t.clients known.0.number) (ap t.clients known.1.number ∙ there) at.row)

-- what a client has stays where it is
pub at_stays : (g : Ground) (t other : Tabled) (client : tales.Client) (e : Happening) → IsClientOr (on g (tell e g.tale)) client (t.clients client.number)
    → IsAt g t client → other.clients client.number ≡ t.clients client.number → other.numbers client.link ≡ t.numbers client.link
    → IsAt (on g (tell e g.tale)) other client
at_stays g t other client e row is same named = record {
  row = subst (λ (x : Option Client). IsClientOr (on g (tell e g.tale)) client x) (sym same) row;
  found = λ there. named ∙ is.found (ap is_some (sym same) ∙ there);
  aside = is.aside;
  alone = is.alone;
}
