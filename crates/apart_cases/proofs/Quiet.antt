-- Where no message of an administrator is taken up along a log, nothing is made.
use Rattle.std.specs.Prelude.{◌≡◌, ◌-◌, ◌&&◌, ◌||◌, ℕ, zero, suc, Bool, true, false, slice_get, List, [], ◌∷◌, Option, Some, None}
use Rattle.std.specs.List.{list_any}
use Rattle.std.proofs.Common.{refl, sym, subst}
use Rattle.std.proofs.lemmas.Bool.{and_parts}
use Rattle.mx_base.specs.declared.names.Port.{Port}
use Rattle.mx_base.specs.declared.names.Port.TheVariants.{Traffic}
use Rattle.mx_wire.specs.Log.{Log}
use Rattle.packet_frame.specs.Packets.{Framed}
use Rattle.query_rules.specs.declared.rule.Rule.{Rule}
use Rattle.private_model.specs.Names.{MessageName}
use Rattle.private_model.specs.Story.{is_message}
use Rattle.private_model.specs.View.{Setup}
use Rattle.log_story.specs.Owed.{messages, name_of}
use Rattle.log_story.specs.Plan.{Plan}
use Rattle.log_story.specs.Tale.{Client, Tale}
use Rattle.log_story.specs.Telling.{tale_step}
use Rattle.router_promises.specs.Takings.{Taking, message_in, takings_at}
use Rattle.core_laws.specs.clients.Found.{IsAmong}
use Rattle.core_promises.specs.Administered.{AdministersAlong, AllTaken, AreTaken, IsTaken, MakesIf, Outcomes}
use Rattle.core_promises.specs.Administers.{Administered, Makes}
use Rattle.apart_cases.specs.Tests.{all_clients, all_taken, are_taken, is_clients, is_taken_in}
use Rattle.apart_cases.proofs.Asking.{clients-port, same-name}

record IsClientsAmong (takings : List Taking) (name : MessageName) : Type 0 where
  taking : Taking
  among : IsAmong takings name taking
  port : taking.client.port ≡ Traffic

taken-in : (takings : List Taking) (name : MessageName) → list_any (is_taken_in name) takings ≡ true → IsClientsAmong takings name
taken-in [] name any = absurd (let no : false ≡ true = any in cc)
taken-in (taking ∷ takings) name any = by (is_taken_in name taking) refl any (taken-in takings name) where
  by : (b : Bool) → is_taken_in name taking ≡ b → (b || list_any (is_taken_in name) takings) ≡ true
      → (list_any (is_taken_in name) takings ≡ true → IsClientsAmong takings name) → IsClientsAmong (taking ∷ takings) name
  by true is some later =
      let parts = and_parts (is_message (message_in taking) name) (is_clients taking.client.port) is in
      record {
        taking = taking;
        among = record { place = 0; there = refl; named = same-name (message_in taking) name parts.0 };
        port = clients-port taking.client.port parts.1;
      }
  by false is some later =
      let found = later some in
      record {
        taking = found.taking;
        among = record { place = suc found.among.place; there = found.among.there; named = found.among.named };
        port = found.port;
      }

-- a client's message makes nothing
makes-none : (found : Option Framed) (port : Port) (answer : Option (List (List ℕ))) (was : Administered) → port ≡ Traffic → MakesIf found port answer was was
makes-none None port answer was is = refl
makes-none (Some message) port answer was is = subst (λ (p : Port). Makes p message.payload answer was was) (sym is) refl

module _ (outcomes : Outcomes) (setup : Setup) (plan : Plan) (was : Administered) (ruled : (name : MessageName) → outcomes.rules name ≡ was.rules) where
  module _ (takings : List Taking) where
    one-taken : (client : Client) (k : ℕ) → list_any (is_taken_in (name_of client (suc k))) takings ≡ true
        → IsTaken outcomes plan takings was.rules client k was was
    one-taken client k any =
        let found = taken-in takings (name_of client (suc k)) any in
        record {
          judged = ruled (name_of client (suc k));
          taking = found.taking;
          among = found.among;
          makes = makes-none (slice_get (messages plan client) k) found.taking.client.port (outcomes.answers (name_of client (suc k))) was found.port;
        }

    some-taken : (client : Client) (k count : ℕ) → are_taken takings client k count ≡ true → AreTaken outcomes plan takings was.rules client k count was was
    some-taken client k zero are = refl
    some-taken client k (suc count) are =
        let parts = and_parts (list_any (is_taken_in (name_of client (suc k))) takings) (are_taken takings client (suc k) count) are in
        (was, (one-taken client k parts.0, some-taken client (suc k) count parts.1))

    each-taken : (before now : List Client) → all_taken takings before now ≡ true → AllTaken outcomes plan takings was.rules before now was was
    each-taken before [] are = refl
    each-taken [] (client ∷ clients) are =
        let parts = and_parts (are_taken takings client 0 client.taken) (all_taken takings [] clients) are in
        (was, (some-taken client 0 client.taken parts.0, each-taken [] clients parts.1))
    each-taken (old ∷ before) (client ∷ clients) are =
        let parts = and_parts (are_taken takings client old.taken (client.taken - old.taken)) (all_taken takings before clients) are in
        (was, (some-taken client old.taken (client.taken - old.taken) parts.0, each-taken before clients parts.1))

  pub quiet-along : (tale : Tale) (log : Log) → all_clients setup plan tale log ≡ true → AdministersAlong outcomes setup plan tale log was was
  quiet-along tale [] are = refl
  quiet-along tale (e ∷ log) are =
      let parts =
      and_parts (all_taken (takings_at setup plan tale e) tale.clients (tale_step setup plan tale e).clients) (all_clients setup plan (tale_step setup plan tale e) log)
      are in
      (was, (each-taken (takings_at setup plan tale e) tale.clients (tale_step setup plan tale e).clients parts.0, quiet-along (tale_step setup plan tale e) log parts.1))
