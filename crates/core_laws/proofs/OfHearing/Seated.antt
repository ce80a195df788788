-- Clients stand as a link is read, each by its row.
use Rattle.std.specs.Prelude.{◌≡◌, Bool, true, false, is_some, nat_eq, slice_index_or, if◌then◌else◌, Option, Some, None}
use Rattle.std.specs.Option.{option_map}
use Rattle.std.proofs.Common.{refl, sym, ap, ◌∙◌, subst, arith}
use Rattle.std.proofs.lemmas.Bool.{false≢true}
use Rattle.private_model.proofs.Maps.{client_of, same_number}
use Rattle.private_model.specs.Commands.{Reply}
use Rattle.private_model.specs.Names.{ClientNo, LinkId, SessionName}
use Rattle.private_model.specs.Story.{Heard, Question, Ran, Story, is_client}
use Rattle.private_model.specs.View as view
use Rattle.private_model.specs.View.{View}
use Rattle.log_story.specs.Servers.{runs_first}
use Rattle.log_story.specs.Tale as tales
use Rattle.log_story.specs.Tale.{Wire, tell}
use Rattle.desk_laws.specs.Spares.{asked_for, is_of, answered_for, touches}
use Rattle.core_tables.specs.Tables.{Tabled, client_changed, link_changed}
use Rattle.core_tables.specs.declared.client.Client.{Client}
use Rattle.core_tables.specs.declared.server.Server.{Server}
use Rattle.core_stands.specs.Clients.{IsClient, IsClientOr}
use Rattle.core_stands.specs.Grounds.{Ground, on, view_on}
use Rattle.core_stands.specs.Stands.{AreClients, IsAt}
use Rattle.core_laws.proofs.OfHearing.Answering.{forgotten_so}
use Rattle.core_laws.proofs.OfHearing.Changing.{IsBefore, client_before, client_elsewhere, client_now}
use Rattle.core_laws.proofs.OfHearing.Clients.{client_wired}
use Rattle.core_laws.proofs.OfHearing.Kept.{with_story}
use Rattle.core_laws.proofs.OfHearing.Laws.{DeskLaws, OthersStay}

pub at_wired : (g : Ground) (t : Tabled) (wires : LinkId → Wire) (client : tales.Client) → IsAt g t client
    → IsAt (on g (with_story g.tale.story wires g.tale)) t client
at_wired g t wires client is =
    record { row = client_wired g wires client (t.clients client.number) is.row; found = is.found; aside = is.aside; alone = is.alone }

pub at_ran : OthersStay → (g : Ground) (t : Tabled) (l : LinkId) (wires : LinkId → Wire) (client : tales.Client) (there : view.Stage) → IsAt g t client
    → IsAt (on g (with_story (runs_first there l g.tale).story wires g.tale)) t client
at_ran stay g t l wires client (view.Asked question) is =
    at_wired (on g (tell (Ran l) g.tale)) t wires client (stay g t t client (Ran l) is refl refl refl)
at_ran stay g t l wires client view.Quiet is = at_wired g t wires client is
at_ran stay g t l wires client (view.Answered question) is = at_wired g t wires client is

-- other tables of links, and the same clients
at_links : (g : Ground) (t : Tabled) (l : LinkId) (by : Server → Server) (client : tales.Client) → IsAt g t client → IsAt g (link_changed l by t) client
at_links g t l by client is = record { row = is.row; found = is.found; aside = is.aside; alone = is.alone }

-- A client's row changes as something is heard for it.

module _ (laws : DeskLaws) (stay : OthersStay) (g : Ground) (t : Tabled) (l : LinkId) (reply : Reply) (question : Question)
    (there : ((view_on g).links l).stage ≡ view.Answered question) where
  abbrev after : Ground
  after = on g (tell (Heard l reply) g.tale)

  touched_is : (c : ClientNo) → touches (view_on g) (Heard l reply) c ≡ is_of c (asked_for question)
  touched_is c = ap (λ (stage : view.Stage). is_of c (answered_for stage)) there

  -- of nobody's session
  pub at_nobody : (client : tales.Client) → asked_for question ≡ None → IsAt g t client → IsAt after t client
  at_nobody client nobody is =
      stay g t t client (Heard l reply) is (touched_is client.number ∙ ap (is_of client.number) nobody) refl refl

  module _ (n : SessionName) (names : asked_for question ≡ Some n) where
    apart_is : (c : ClientNo) → is_client c n.client ≡ false → touches (view_on g) (Heard l reply) c ≡ false
    apart_is c apart = touched_is c ∙ ap (is_of c) names ∙ apart

    -- its client has the same row
    pub at_same : (client : tales.Client) → ((row : Client) → client.number ≡ n.client → t.clients client.number ≡ Some row → IsClient g client row → IsClient after client row)
        → IsAt g t client → IsAt after t client
    at_same client same is = by (is_client client.number n.client) refl where
      row_by : client.number ≡ n.client → (row : Option Client) → t.clients client.number ≡ row → IsClientOr g client row → IsClientOr after client row
      row_by it None found is = forgotten_so laws g l reply question there client is
      row_by it (Some row) found is = same row it found is

      by : (b : Bool) → is_client client.number n.client ≡ b → IsAt after t client
      by false apart = stay g t t client (Heard l reply) is (apart_is client.number apart) refl refl
      by true it = record {
        row = row_by (client_of client.number n.client it) (t.clients client.number) refl is.row;
        found = is.found;
        aside = is.aside;
        alone = is.alone;
      }

    -- its row is another
    module _ (by_row : Client → Client) where
      abbrev other : Tabled
      other = client_changed n.client by_row t

      flipped : (c : ClientNo) → is_client c n.client ≡ false → nat_eq n.client.0 c.0 ≡ false
      flipped c apart = grind arith

      at_its : (c : ClientNo) → c ≡ n.client → other.clients c ≡ option_map by_row (t.clients c)
      at_its c it =
          ap (λ (k : ClientNo). other.clients k) it
          ∙ ap (λ (b : Bool). if b then option_map by_row (t.clients n.client) else t.clients n.client) (same_number n.client.0)
          ∙ ap (λ (k : ClientNo). option_map by_row (t.clients k)) (sym it)

      some_mapped : (found : Option Client) → is_some (option_map by_row found) ≡ is_some found
      some_mapped None = refl
      some_mapped (Some row) = refl

      pub at_changed : (client : tales.Client)
          → ((row : Client) → client.number ≡ n.client → t.clients client.number ≡ Some row → IsClient g client row → IsClient after client (by_row row))
          → IsAt g t client → IsAt after other client
      at_changed client changed is = by (is_client client.number n.client) refl where
        row_by : client.number ≡ n.client → (row : Option Client) → t.clients client.number ≡ row → IsClientOr g client row
            → IsClientOr after client (option_map by_row row)
        row_by it None found is = forgotten_so laws g l reply question there client is
        row_by it (Some row) found is = changed row it found is

        by : (b : Bool) → is_client client.number n.client ≡ b → IsAt after other client
        by false apart =
            stay g t other client (Heard l reply) is (apart_is client.number apart)
            (client_elsewhere n.client by_row t client.number (flipped client.number apart)) refl
        by true it =
            let its : client.number ≡ n.client = client_of client.number n.client it in
            record {
              row = subst (λ (row : Option Client). IsClientOr after client row) (sym (at_its client.number its))
                  (row_by its (t.clients client.number) refl is.row);
              found = λ some. is.found (sym (some_mapped (t.clients client.number)) ∙ ap (λ (row : Option Client). is_some row) (sym (at_its client.number its)) ∙ some);
              aside = is.aside;
              alone = is.alone;
            }

-- All of them.

pub clients_links : (g : Ground) (t : Tabled) (l : LinkId) (by : Server → Server) → AreClients g t → AreClients g (link_changed l by t)
clients_links g t l by are = record {
  counted = are.counted;
  each = λ k d within. at_links g t l by (slice_index_or g.tale.clients k d) (are.each k d within);
  known = are.known;
  named = are.named;
}

-- in a tale with the same clients
pub clients_told : (g : Ground) (t : Tabled) (story : Story) (wires : LinkId → Wire) → AreClients g t
    → ((client : tales.Client) → IsAt g t client → IsAt (on g (with_story story wires g.tale)) t client)
    → AreClients (on g (with_story story wires g.tale)) t
clients_told g t story wires are each = record {
  counted = are.counted;
  each = λ k d within. each (slice_index_or g.tale.clients k d) (are.each k d within);
  known = λ c row there.
      let found = are.known c row there in
      (found.0, record { seated = found.1.seated; number = found.1.number });
  named = λ l c there.
      let found = are.named l c there in
      (found.0, record { seated = found.1.seated; number = found.1.number }, found.2, found.3);
}

-- and with another row
module _ (g : Ground) (t : Tabled) (story : Story) (wires : LinkId → Wire) (c : ClientNo) (by : Client → Client) where
  abbrev told : Ground
  told = on g (with_story story wires g.tale)

  abbrev changed : Tabled
  changed = client_changed c by t

  some_in : (k : ClientNo) → is_some (t.clients k) ≡ true → is_some (changed.clients k) ≡ true
  some_in k some = at (t.clients k) refl some where
    at : (row : Option Client) → t.clients k ≡ row → is_some row ≡ true → is_some (changed.clients k) ≡ true
    at None found some = absurd (false≢true some)
    at (Some row) found some =
        let now = client_now c by t k row found in
        ap (λ (r : Option Client). is_some r) now.there

  pub clients_changed : AreClients g t → ((client : tales.Client) → IsAt g t client → IsAt told changed client) → AreClients told changed
  clients_changed are each = record {
    counted = are.counted;
    each = λ k d within. each (slice_index_or g.tale.clients k d) (are.each k d within);
    known = λ k row there.
        let was : IsBefore t.clients by c k row = client_before c by t k row there in
        let found = are.known k was.was was.there in
        (found.0, record { seated = found.1.seated; number = found.1.number });
    named = λ l k there.
        let found = are.named l k there in
        (found.0, record { seated = found.1.seated; number = found.1.number }, found.2, some_in k found.3);
  }
