-- What a client has prepared, as its messages are taken up, and what its executes ask for.
use Rattle.std.specs.Prelude.{◌≡◌, ◌≤◌, ℕ, zero, suc, ◌+◌, ◌-◌, Bool, true, false, nat_eq, List, [], ◌∷◌, ◌++◌, ◌||◌, drop, if◌then◌else◌, length, slice_index_or, take, unwrap_or, Option, Some, None}
use Rattle.std.specs.List.{list_any}
use Rattle.std.specs.Option.{option_and_then, option_map, option_or}
use Rattle.std.proofs.Common.{◌∙◌, refl, sym, ap, arith}
use Rattle.mx_base.specs.Fields.{number_at}
use Rattle.packet_frame.specs.Packets.{Framed}
use Rattle.private_model.specs.Commands.{Command}
use Rattle.private_model.specs.View.{Setup}
use Rattle.log_story.specs.Executes.{Bound, Prepared, args_in, bound_after, bound_by, executed_by, given_in, requested, run_of, text_asked}
use Rattle.log_story.specs.Owed.{messages}
use Rattle.log_story.specs.Plan.{Route, com_execute}
use Rattle.log_story.specs.Tale.{Client}
use Rattle.stmt_map.specs.declared.client.ClientStatements.{ClientStatements}
use Rattle.client_seat.specs.Numbers.{Numbered, drops, noted, number_in}
use Rattle.client_seat.specs.Requests.{Runs, Says, args_by, asked_in, request_of, run_in}
use Rattle.client_seat.specs.Stands.{IsNext, IsNumbered, Known, is_refused}

bound-behind : (params number : ℕ) (refused : ℕ → Bool) (i : ℕ) (sent : List Framed) (message : Framed) (bound : Bound)
    → bound_by params number refused i (sent ++ message ∷ []) bound
    ≡ bound_after params number (refused (i + length sent)) message.payload (bound_by params number refused i sent bound)
bound-behind params number refused i [] message bound =
    let here : i ≡ i + 0 = omega arith in ap (λ (k : ℕ). bound_after params number (refused k) message.payload bound) here
bound-behind params number refused i (other ∷ sent) message bound =
    let later : suc i + length sent ≡ i + length (other ∷ sent) = omega arith in
    bound-behind params number refused (suc i) sent message (bound_after params number (refused i) other.payload bound)
    ∙ ap (λ (k : ℕ). bound_after params number (refused k) message.payload (bound_by params number refused (suc i) sent (bound_after params number (refused i) other.payload bound))) later

drop-front : (n : ℕ) (sent : List Framed) (message : Framed) → n ≤ length sent → drop n (sent ++ message ∷ []) ≡ drop n sent ++ message ∷ []
drop-front zero sent message within = refl
drop-front (suc n) [] message within = absurd (omega arith)
drop-front (suc n) (one ∷ sent) message within = drop-front n sent message (omega arith)

drop-length : (n : ℕ) (sent : List Framed) → n ≤ length sent → n + length (drop n sent) ≡ length sent
drop-length zero sent within = omega arith
drop-length (suc n) [] within = absurd (omega arith)
drop-length (suc n) (one ∷ sent) within = omega (arith, drop-length n sent (omega arith))

take-length : (n : ℕ) (sent : List Framed) → n ≤ length sent → length (take n sent) ≡ n
take-length zero sent within = refl
take-length (suc n) [] within = absurd (omega arith)
take-length (suc n) (one ∷ sent) within = omega (arith, take-length n sent (omega arith))

noted-bound : (drops : Bool) (one now : Numbered) (bound : Bound) → (if drops then None else Some (record one { bound = bound })) ≡ Some now
    → record one { bound = bound } ≡ now
noted-bound true one now bound is = (let no : None ≡ Some now = is in cc)
noted-bound false one now bound is = cc

noted-live : (drops : Bool) (one now : Numbered) (bound : Bound) → (if drops then None else Some (record one { bound = bound })) ≡ Some now → drops ≡ false
noted-live true one now bound is = absurd (let no : None ≡ Some now = is in cc)
noted-live false one now bound is = refl

none-drop : (gone : Framed → Bool) (sent : List Framed) (message : Framed) → list_any gone sent ≡ false → gone message ≡ false
    → list_any gone (sent ++ message ∷ []) ≡ false
none-drop gone [] message none keeps = ap (λ (b : Bool). b || false) keeps
none-drop gone (one ∷ sent) message none keeps = by (gone one) refl none (λ later. none-drop gone sent message later keeps) where
  by : (b : Bool) → gone one ≡ b → (b || list_any gone sent) ≡ false
      → (list_any gone sent ≡ false → list_any gone (sent ++ message ∷ []) ≡ false)
      → (gone one || list_any gone (sent ++ message ∷ [])) ≡ false
  by true is wrong rest = absurd (let never : true ≡ false = wrong in cc)
  by false is later rest = ap (λ (b : Bool). b || list_any gone (sent ++ message ∷ [])) is ∙ rest later

-- a message is taken up
pub number-noted : (x : Known) (client : Client) (named : ℕ → ℕ) (number : ℕ) (one now : Numbered) (message : Framed) → IsNumbered x client named number one
    → client.taken ≤ length (messages x.plan client) → IsNext x.plan client message
    → noted (is_refused x client (suc client.taken)) number message.payload one ≡ Some now
    → IsNumbered x (record client { taken = suc client.taken }) named number now
number-noted x client named number one now message was within next is =
    let refused = is_refused x client in
    let sent = take client.taken (messages x.plan client) in
    let start : Bound = record { types = None; long = [] } in
    let long_enough : was.ordinal ≤ length sent = omega (arith, take-length client.taken (messages x.plan client) within, was.taken_up) in
    let place : suc was.ordinal + length (drop was.ordinal sent) ≡ suc client.taken =
    omega (arith, drop-length was.ordinal sent long_enough, take-length client.taken (messages x.plan client) within) in
    let same : record one { bound = bound_after one.prepared.params number (refused (suc client.taken)) message.payload one.bound } ≡ now =
    noted-bound (drops number message.payload) one now (bound_after one.prepared.params number (refused (suc client.taken)) message.payload one.bound) is in
    record {
      ordinal = was.ordinal;
      prepared = was.prepared ∙ ap (λ (n : Numbered). Some (record { key = named n.prepared.key; params = n.prepared.params; ordinal = was.ordinal })) same;
      taken_up = omega (arith, was.taken_up);
      bound =
          ap (λ (n : Numbered). bound_by n.prepared.params number refused (suc was.ordinal) (drop was.ordinal (take (suc client.taken) (messages x.plan client))) start) (sym same)
          ∙ ap (λ (all : List Framed). bound_by one.prepared.params number refused (suc was.ordinal) (drop was.ordinal all) start) next.before
          ∙ ap (λ (all : List Framed). bound_by one.prepared.params number refused (suc was.ordinal) all start) (drop-front was.ordinal sent message long_enough)
          ∙ bound-behind one.prepared.params number refused (suc was.ordinal) (drop was.ordinal sent) message start
          ∙ ap (λ (k : ℕ). bound_after one.prepared.params number (refused k) message.payload (bound_by one.prepared.params number refused (suc was.ordinal) (drop was.ordinal sent) start)) place
          ∙ ap (bound_after one.prepared.params number (refused (suc client.taken)) message.payload) was.bound
          ∙ ap (λ (n : Numbered). n.bound) same;
      route = was.route;
      went = was.went;
      hostgroup = was.hostgroup ∙ ap (λ (n : Numbered). n.prepared.hostgroup) same;
      multiplex = was.multiplex ∙ ap (λ (n : Numbered). n.prepared.multiplex) same;
      live =
          ap (λ (all : List Framed). list_any (λ (m : Framed). drops number m.payload) (drop was.ordinal all)) next.before
          ∙ ap (list_any (λ (m : Framed). drops number m.payload)) (drop-front was.ordinal sent message long_enough)
          ∙ none-drop (λ (m : Framed). drops number m.payload) (drop was.ordinal sent) message was.live
          (noted-live (drops number message.payload) one now (bound_after one.prepared.params number (refused (suc client.taken)) message.payload one.bound) is);
    }

-- What a message asks for.

text-asks : (setup : Setup) (stands : List ℕ) (key : ℕ) (named : ℕ → ℕ) (asked : Option Command)
    → option_map (λ (command : Command). record { command = command; key = key }) asked
    ≡ option_map (request_of setup stands key named) (option_map (λ command. Says command) asked)
text-asks setup stands key named None = refl
text-asks setup stands key named (Some command) = refl

-- the schema in which the client stands
abbrev stands_in : Known → Client → List ℕ
stands_in x client = (x.view.places client.number).schema

pub asks-text : (x : Known) (setup : Setup) (client : Client) (statements : ClientStatements) (named : ℕ → ℕ) (route : Route) (payload : List ℕ)
    → nat_eq (slice_index_or payload 0 0) com_execute ≡ false
    → requested setup x.view x.plan client (suc client.taken) route payload ≡ option_map (request_of setup (stands_in x client) route.key named) (asked_in statements payload route.text)
asks-text x setup client statements named route payload other =
    rw other (text-asks setup (stands_in x client) route.key named (text_asked (slice_index_or payload 0 0) (unwrap_or route.text (drop 1 payload))))

pub asks-run : (x : Known) (setup : Setup) (client : Client) (statements : ClientStatements) (named : ℕ → ℕ) (route : Route) (payload : List ℕ) (number : ℕ) (one : Numbered)
    → nat_eq (slice_index_or payload 0 0) com_execute ≡ true → number_at 4 1 payload ≡ Some number → number_in statements number ≡ Some one
    → IsNumbered x client named number one
    → requested setup x.view x.plan client (suc client.taken) route payload ≡ option_map (request_of setup (stands_in x client) route.key named) (asked_in statements payload route.text)
asks-run x setup client statements named route payload number one runs at found is =
    rw runs (law ∙ sym code) where
      before : take (suc client.taken - 1) (messages x.plan client) ≡ take client.taken (messages x.plan client)
      before = let one_less : suc client.taken - 1 ≡ client.taken = omega arith in ap (λ (n : ℕ). take n (messages x.plan client)) one_less

      law : option_and_then (executed_by setup x.view x.plan client (suc client.taken) route payload) (number_at 4 1 payload) ≡ Some (run_of setup (args_by one payload) (stands_in x client) route.key (named one.prepared.key))
      law =
          ap (option_and_then (executed_by setup x.view x.plan client (suc client.taken) route payload)) at
          ∙ ap (option_map (λ (prepared : Prepared). run_of setup (args_in prepared.params number (is_refused x client) prepared.ordinal (take (suc client.taken - 1) (messages x.plan client)) payload) (stands_in x client) route.key prepared.key)) is.prepared
          ∙ ap (λ (sent : List Framed). Some (run_of setup (args_in one.prepared.params number (is_refused x client) is.ordinal sent payload) (stands_in x client) route.key (named one.prepared.key))) before
          ∙ ap (λ (bound : Bound). Some (run_of setup (record (given_in one.prepared.params payload) {
            types = option_or (given_in one.prepared.params payload).types bound.types;
            long = bound.long;
          }) (stands_in x client) route.key (named one.prepared.key))) is.bound

      code : option_map (request_of setup (stands_in x client) route.key named) (run_in statements payload) ≡ Some (run_of setup (args_by one payload) (stands_in x client) route.key (named one.prepared.key))
      code =
          ap (λ (n : Option ℕ). option_map (request_of setup (stands_in x client) route.key named) (option_map (λ (numbered : Numbered). Runs numbered.prepared.key (args_by numbered payload)) (option_and_then (number_in statements) n))) at
          ∙ ap (λ (o : Option Numbered). option_map (request_of setup (stands_in x client) route.key named) (option_map (λ (numbered : Numbered). Runs numbered.prepared.key (args_by numbered payload)) o)) found
