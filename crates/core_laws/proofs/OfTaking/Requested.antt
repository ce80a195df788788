-- What a message asks for in a story, by what its client has prepared.
use Rattle.std.specs.Prelude.{◌≡◌, ℕ, suc, Bool, true, false, nat_eq, if◌then◌else◌, drop, slice_index_or, take, List, [], Option, Some, None}
use Rattle.std.specs.Option.{option_and_then, option_map}
use Rattle.std.proofs.Common.{refl, sym, ap, subst, ◌∙◌}
use Rattle.std.proofs.lemmas.Option.{none-some}
use Rattle.mx_base.specs.Fields.{number_at}
use Rattle.packet_frame.specs.Packets.{Framed}
use Rattle.run_laws.proofs.Binding.{bound_none, bound_parts}
use Rattle.run_laws.specs.Wholes.{AreParts}
use Rattle.log_story.specs.Executes as executes
use Rattle.log_story.specs.Executes.{Bound, bound_by, requested}
use Rattle.log_story.specs.Owed.{messages}
use Rattle.log_story.specs.Plan.{Route, com_execute}
use Rattle.log_story.specs.Tale as tales
use Rattle.client_seat.proofs.Preparing.{asks-run, asks-text}
use Rattle.client_seat.specs.Numbers.{Numbered, number_in}
use Rattle.client_seat.specs.Requests.{Asked, Runs, args_by, asked_in, request_of, run_in, text_in}
use Rattle.client_seat.specs.Stands.{IsNumbered, is_refused}
use Rattle.stmt_map.specs.declared.client.ClientStatements.{ClientStatements}
use Rattle.core_tables.specs.declared.client.Client.{Client}
use Rattle.core_stands.specs.Grounds.{Ground, known_on, view_on}
use Rattle.core_stands.specs.Stands.{IsPrepared}
use Rattle.core_laws.specs.clients.Turns.{AreBoundSo}

-- What was bound to it is bound by its messages.
pub bound_so : (g : Ground) (client : tales.Client) (row : Client) → IsPrepared g client row → AreBoundSo row.desk.seat.statements
bound_so g client row prepared number one there = record {
  parts = subst (λ (b : Bound). AreParts one.prepared.params [] b.long) is.bound (bound_parts one.prepared.params number refused (suc is.ordinal) since unbound tt);
  untyped = λ none. subst (λ (b : Bound). b.types ≡ None) is.bound
      (subst (λ (params : ℕ). (bound_by params number refused (suc is.ordinal) since unbound).types ≡ None) (sym none)
      (bound_none number refused (suc is.ordinal) since unbound refl));
}
  where
    is : IsNumbered (known_on g) client (λ (key : ℕ). key) number one
    is = prepared.each number one there

    unbound : Bound
    unbound = record { types = None; long = [] }

    refused : ℕ → Bool
    refused = is_refused (known_on g) client

    since : List Framed
    since = drop is.ordinal (take client.taken (messages g.plan client))

module _ (g : Ground) (client : tales.Client) (row : Client) (prepared : IsPrepared g client row) (route : Route) (payload : List ℕ)
    (request : executes.Request) where
  abbrev statements : ClientStatements
  statements = row.desk.seat.statements

  abbrev asks : Option Asked → Option executes.Request
  asks asked = option_map (request_of g.setup ((view_on g).places client.number).schema route.key (λ (key : ℕ). key)) asked

  run_asked : (found : Option ℕ) → number_at 4 1 payload ≡ found → nat_eq (slice_index_or payload 0 0) com_execute ≡ true
      → asks (run_in statements payload) ≡ Some request → asks (asked_in statements payload route.text) ≡ Some request
      → requested g.setup (view_on g) g.plan client (suc client.taken) route payload ≡ Some request
  run_asked None none is ran asked =
      absurd (none-some request (sym (ap (λ (n : Option ℕ). asks (option_map (λ (one : Numbered). Runs one.prepared.key (args_by one payload))
      (option_and_then (number_in statements) n))) none) ∙ ran))
  run_asked (Some number) at is ran asked = by (number_in statements number) refl where
    by : (one : Option Numbered) → number_in statements number ≡ one
        → requested g.setup (view_on g) g.plan client (suc client.taken) route payload ≡ Some request
    by None none =
        absurd (none-some request (sym (ap (λ (n : Option ℕ). asks (option_map (λ (one : Numbered). Runs one.prepared.key (args_by one payload))
        (option_and_then (number_in statements) n))) at
        ∙ ap (λ (one : Option Numbered). asks (option_map (λ (x : Numbered). Runs x.prepared.key (args_by x payload)) one)) none) ∙ ran))
    by (Some one) there =
        asks-run (known_on g) g.setup client statements (λ (key : ℕ). key) route payload number one is at there (prepared.each number one there) ∙ asked

  pub asked_so : asks (asked_in statements payload route.text) ≡ Some request
      → requested g.setup (view_on g) g.plan client (suc client.taken) route payload ≡ Some request
  asked_so asked = by (nat_eq (slice_index_or payload 0 0) com_execute) refl where
    by : (runs : Bool) → nat_eq (slice_index_or payload 0 0) com_execute ≡ runs
        → requested g.setup (view_on g) g.plan client (suc client.taken) route payload ≡ Some request
    by false other = asks-text (known_on g) g.setup client statements (λ (key : ℕ). key) route payload other ∙ asked
    by true is =
        run_asked (number_at 4 1 payload) refl is
        (sym (ap (λ (b : Bool). asks (if b then run_in statements payload else text_in payload route.text)) is) ∙ asked) asked
