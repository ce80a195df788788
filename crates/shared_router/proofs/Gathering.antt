-- The parts of rest make the whole.
use Rattle.std.specs.Prelude.{All, ◌≡◌, Bool, true, false, ◌||◌, List, [], ◌∷◌}
use Rattle.std.specs.List.{list_any}
use Rattle.std.proofs.Common.{refl, sym}
use Rattle.mx_base.specs.declared.names.LinkId.{LinkId}
use Rattle.mx_wire.specs.Log.{Log, is_open, of_link}
use Rattle.mx_wire.specs.declared.entry.Entry.{Entry}
use Rattle.mx_wire.specs.declared.entry.Entry.TheVariants.{WriteFailed}
use Rattle.private_model.specs.Story.{is_link_id}
use Rattle.log_story.specs.Tale.{Client, is_to_server}
use Rattle.router_promises.specs.Now.{Now, is_loss}
use Rattle.router_promises.specs.Rest.{IsAtRest, IsClientAtRest, IsServerAtRest, IsSound, is_failed_write}
use Rattle.router_promises.specs.Terms.{Terms}
use Rattle.router_promises.specs.Wakes.{has_ended}
use Rattle.shared_router.specs.Rests.{IsCalm, LeavesInTime, SaysLogin}
use Rattle.shared_router.specs.Waited.{AreDone, AreRead, AreTold, AreUnbroken, AreWhole, AskNothing, IsTold, IsWorked}
use Rattle.shared_router.proofs.Attending.{all-each, each-and}
use Rattle.shared_router.proofs.Looked.{each-all, each-so}
use Rattle.shared_router.proofs.Sufficing.{each_there, shared_so}

isnt : {A : Type 0} → true ≡ false → A
isnt is = absurd (cc)

-- a write that failed lost its link

pub fails_lose : (e : Entry) → is_failed_write e ≡ true → is_loss e ≡ true
fails_lose (WriteFailed link) is = refl
fails_lose _ is = isnt (sym is)

none_failed : (log : Log) → list_any is_loss log ≡ false → list_any is_failed_write log ≡ false
none_failed [] none = refl
none_failed (e ∷ log) none = by_test (is_failed_write e) (is_loss e) (fails_lose e) none (none_failed log) where
  by_test : (failed lost : Bool) → (failed ≡ true → lost ≡ true) → (lost || list_any is_loss log) ≡ false
      → (list_any is_loss log ≡ false → list_any is_failed_write log ≡ false) → (failed || list_any is_failed_write log) ≡ false
  by_test failed true so none later = isnt none
  by_test true false so none later = isnt (sym (so refl))
  by_test false false so none later = later none

module _ (terms : Terms) (log : Log) (now : Now) where
  abbrev Told : Client → Type 0
  Told client = is_open client.link log ≡ true → IsTold terms log now client

  abbrev Unbroken : Client → Type 0
  Unbroken client = is_open client.link log ≡ true → has_ended terms now client ≡ false → list_any is_failed_write (of_link client.link log) ≡ false

  abbrev Done : Client → Type 0
  Done client = is_open client.link log ≡ true → IsWorked terms log now client

  client_rests : (client : Client) → LeavesInTime terms log now client → Told client → Unbroken client → Done client → IsClientAtRest terms log now client
  client_rests client leaves told unbroken done opened = record {
    told = (told opened).told;
    worked = done opened;
    unbroken = by_ended (has_ended terms now client) refl;
    ends = (told opened).ends;
    in_time = λ ended. (leaves ended opened).in_time;
  } where
    by_ended : (b : Bool) → has_ended terms now client ≡ b → list_any is_failed_write (of_link client.link log) ≡ false
    by_ended true ended = none_failed (of_link client.link log) (leaves ended opened).unbroken
    by_ended false goes = unbroken opened goes

  module _ (calm : IsCalm terms log now) (says : (link : LinkId) → SaysLogin terms log now link) (whole : AreWhole terms log now) (none : AskNothing terms log now)
      (link : LinkId) (there : is_to_server now.tale link ≡ true) (opened : is_open link log ≡ true) where
    server_rests : IsSound terms log now link
    server_rests = record {
      sound = (calm.kept link there opened).sound;
      stays = (calm.kept link there opened).stays;
      young = (calm.kept link there opened).young;
      owes = λ goes. record {
        login = λ enters. says link opened enters goes;
        begun = (whole link there opened goes).begun;
        closed = (whole link there opened goes).closed;
        reset = λ answered. (none link there opened goes answered).reset;
        capture = λ answered. (none link there opened goes answered).capture;
      };
    }

  abbrev clients : List Client
  clients = now.tale.clients

  clients_rest : IsCalm terms log now → AreTold terms log now → AreUnbroken terms log now → AreDone terms log now → All (IsClientAtRest terms log now) clients
  clients_rest calm told unbroken done =
      each-all (IsClientAtRest terms log now) clients
      (each-so (λ (c : Client). LeavesInTime terms log now c × (Told c × (Unbroken c × Done c))) (IsClientAtRest terms log now) clients
      (λ c facts. client_rests c facts.0 facts.1.0 facts.1.1.0 facts.1.1.1)
      (each-and (LeavesInTime terms log now) (λ (c : Client). Told c × (Unbroken c × Done c)) clients (all-each (LeavesInTime terms log now) clients calm.leaving)
      (each-and Told (λ (c : Client). Unbroken c × Done c) clients (all-each Told clients told)
      (each-and Unbroken Done clients (all-each Unbroken clients unbroken) (all-each Done clients done.clients)))))

  pub rest_of_parts : IsCalm terms log now → AreRead terms log now → AreTold terms log now → ((link : LinkId) → SaysLogin terms log now link)
      → AreUnbroken terms log now → AreWhole terms log now → AskNothing terms log now → AreDone terms log now → IsAtRest terms log now
  rest_of_parts calm read told says unbroken whole none done = record {
    accepted = calm.accepted;
    named = calm.named;
    read_clients = λ i d within. read _;
    read_servers = λ i d within. read _;
    clients = clients_rest calm told unbroken done;
    servers = each-all (IsServerAtRest terms log now) now.tale.links
        (each-so (λ link. list_any (is_link_id link) now.tale.links ≡ true) (IsServerAtRest terms log now) now.tale.links
        (λ link there opened. server_rests calm says whole none link there opened) (each_there now.tale.links));
    shared = λ key. shared_so terms log now key (calm.enough key) (done.idle key);
  }
