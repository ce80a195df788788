-- What a client has prepared stands so as its next message is taken up.
use Rattle.std.specs.Prelude.{◌≡◌, ◌≤◌, ◌<◌, ◌+◌, ◌-◌, ℕ, suc, Bool, true, false, not, drop, if◌then◌else◌, is_some, length, nat_lt, take, List, [], ◌∷◌, ◌++◌, Option, Some, None}
use Rattle.std.specs.List.{list_any}
use Rattle.std.specs.Option.{option_and_then}
use Rattle.std.proofs.Common.{refl, sym, ap, ◌∙◌, subst, arith}
use Rattle.std.proofs.lemmas.Bool.{ltb-false, ltb-true}
use Rattle.std.proofs.lemmas.Option.{none-some, slice_get_within}
use Rattle.packet_frame.specs.Packets.{Framed}
use Rattle.private_model.specs.Names.{MessageName}
use Rattle.private_model.specs.Story.{Story}
use Rattle.log_story.specs.Executes.{bound_after, prepared_by, prepared_in}
use Rattle.log_story.specs.Owed.{messages, name_of}
use Rattle.log_story.specs.Plan.{Route, own_at}
use Rattle.log_story.specs.Tale as tales
use Rattle.log_story.specs.Tale.{view_of, with_client}
use Rattle.step_laws.specs.Taken.{next_of}
use Rattle.client_seat.proofs.Numbering.{goes_on}
use Rattle.client_seat.proofs.Preparing.{number-noted}
use Rattle.client_seat.specs.Numbers.{AreNoted, Numbered, drops, noted, number_in}
use Rattle.client_seat.specs.Stands.{IsNext, IsNumbered, IsOnward, is_refused}
use Rattle.core_tables.specs.declared.client.Client.{Client}
use Rattle.core_stands.specs.Grounds.{Ground, known_on, on, view_on}
use Rattle.core_stands.specs.Stands.{IsPrepared, KnowsFirst}
use Rattle.core_laws.proofs.OfPrepared.Keeping.{MakesNone}
use Rattle.core_laws.proofs.OfPrepared.Knowing.{kept_since, knows_behind, none_more, none_routed, ordinal_within, same_prepared, size_of}

module _ (g : Ground) (past : Story) (client : tales.Client) (row new : Client) (message : Framed) (refused : Bool)
    (prepared : IsPrepared g client row) (answered : row.desk.seat.answered ≡ true) (next : IsNext g.plan client message)
    (refuses : is_refused (known_on g) client (suc client.taken) ≡ refused)
    (are : AreNoted refused message.payload row.desk.seat.statements new.desk.seat.statements)
    (replies : (m : MessageName) → (view_of g.setup (record g.tale { story = past })).replies m ≡ (view_on g).replies m)
    (to_come : (view_on g).replies (name_of client (suc client.taken)) ≡ None) where
  abbrev after : Ground
  after = on g (with_client (next_of client) (record g.tale { story = past }))

  within : client.taken < length (messages g.plan client)
  within = slice_get_within (messages g.plan client) client.taken message next.next

  within_then : suc client.taken ≤ length (messages g.plan client)
  within_then = omega (arith, within)

  onward : IsOnward (known_on g) (known_on after) (next_of client) (next_of client)
  onward = record {
    plan = refl;
    number = refl;
    taken = refl;
    more = [];
    all = sym (nothing_more (messages g.plan client));
    earlier = λ k below. replies (name_of client k);
    stays = λ k reply least at. replies (name_of client k) ∙ at;
  } where
    nothing_more : (ms : List Framed) → ms ++ [] ≡ ms
    nothing_more [] = refl
    nothing_more (m ∷ ms) = ap (λ (others : List Framed). m ∷ others) (nothing_more ms)

  each_then : (number : ℕ) (one : Numbered) → number_in new.desk.seat.statements number ≡ Some one
      → IsNumbered (known_on after) (next_of client) (λ (key : ℕ). key) number one
  each_then number one at = by (number_in row.desk.seat.statements number) refl where
    by : (found : Option Numbered) → number_in row.desk.seat.statements number ≡ found
        → IsNumbered (known_on after) (next_of client) (λ (key : ℕ). key) number one
    by None was =
        let none : None ≡ Some one = sym (ap (option_and_then (noted refused number message.payload)) was) ∙ sym (are.each number) ∙ at in
        absurd (none-some one none)
    by (Some found) was =
        let here : noted refused number message.payload found ≡ Some one =
        sym (ap (option_and_then (noted refused number message.payload)) was) ∙ sym (are.each number) ∙ at in
        let taken_up : IsNumbered (known_on g) (next_of client) (λ (key : ℕ). key) number one =
        number-noted (known_on g) client (λ (key : ℕ). key) number found one message (prepared.each number found was) (omega (arith, within)) next
        (ap (λ (b : Bool). noted b number message.payload found) refuses ∙ here) in
        goes_on (known_on g) (known_on after) (next_of client) (next_of client) onward (λ (key : ℕ). key) number one within_then taken_up

  -- of what was taken up before
  unused_then : (number : ℕ) → new.desk.seat.statements.last < number
      → prepared_by (view_on after) g.plan (next_of client) number 1 (take client.taken (messages g.plan client)) ≡ None
  unused_then number greater =
      same_prepared (view_on g) (view_on after) g.plan client (next_of client) number 1 (take client.taken (messages g.plan client)) refl
      (λ k from below. replies (name_of client k))
      ∙ prepared.kept answered number (subst (λ (last : ℕ). last < number) are.last greater)

  -- what isn't dropped by it stays
  stays_noted : (number : ℕ) → drops number message.payload ≡ false → is_some (number_in row.desk.seat.statements number) ≡ true
      → is_some (number_in new.desk.seat.statements number) ≡ true
  stays_noted number kept some = ap is_some (are.each number) ∙ by (number_in row.desk.seat.statements number) some where
    by : (found : Option Numbered) → is_some found ≡ true → is_some (option_and_then (noted refused number message.payload) found) ≡ true
    by None is = is
    by (Some one) is =
        ap (λ (b : Bool). is_some (if b then None else Some (record one {
          bound = bound_after one.prepared.params number refused message.payload one.bound;
        }))) kept

  known_then : KnowsFirst (view_on after) g.plan (next_of client) new.desk.seat.statements client.taken
  known_then number made some has kept =
      let front = take client.taken (messages g.plan client) in
      let size : length front ≡ client.taken = size_of client.taken (messages g.plan client) (omega (arith, within)) in
      let was : prepared_by (view_on g) g.plan client number 1 front ≡ Some made =
      sym (same_prepared (view_on g) (view_on after) g.plan client (next_of client) number 1 front refl (λ k from below. replies (name_of client k))) ∙ has in
      let place : made.ordinal < 1 + length front = ordinal_within (view_on g) g.plan client number 1 front made was in
      let since = kept_since number made.ordinal front message (omega (arith, place))
      (ap (λ (ms : List Framed). list_any (λ (sent : Framed). drops number sent.payload) (drop made.ordinal ms)) (sym next.before) ∙ kept) in
      stays_noted number since.1 (prepared.stands answered number made some was since.0)

  unserved_then : (k : ℕ) → 0 < k → k ≤ suc client.taken → is_some (own_at g.plan g.tale.moment (name_of client k)) ≡ true
      → (view_on after).replies (name_of client k) ≡ None
  unserved_then k some below own = replies (name_of client k) ∙ by (nat_lt client.taken k) refl where
    by : (b : Bool) → nat_lt client.taken k ≡ b → (view_on g).replies (name_of client k) ≡ None
    by true past =
        let more = ltb-true client.taken k past in
        let last : suc client.taken ≡ k = omega (arith, more, below) in
        subst (λ (n : ℕ). (view_on g).replies (name_of client n) ≡ None) last to_come
    by false within_it = prepared.unserved k some (ltb-false client.taken k within_it) own

  -- where it makes nothing under another number, if it is answered
  pub prepared_then : (new.desk.seat.answered ≡ true → MakesNone (view_on after) g.plan (next_of client))
      → IsPrepared after (next_of client) new
  prepared_then makes = record {
    each = each_then;
    unused = λ number greater.
        let before : suc client.taken - 1 ≡ client.taken = omega arith in
        ap (λ (n : ℕ). prepared_by (view_on after) g.plan (next_of client) number 1 (take n (messages g.plan client))) before
        ∙ unused_then number greater;
    kept = λ back number greater.
        let size : length (take client.taken (messages g.plan client)) ≡ client.taken =
        size_of client.taken (messages g.plan client) (omega (arith, within)) in
        let place : suc client.taken ≡ 1 + length (take client.taken (messages g.plan client)) = omega (arith, size) in
        ap (prepared_by (view_on after) g.plan (next_of client) number 1) next.before
        ∙ none_more (view_on after) g.plan (next_of client) number 1 (take client.taken (messages g.plan client)) message (unused_then number greater)
        (subst (λ (k : ℕ). prepared_in number k message.payload (g.plan.routes (name_of client k)) ((view_on after).replies (name_of client k)) ≡ None) place
        (makes back number message.payload (omega (arith, greater))));
    known =
        let before : suc client.taken - 1 ≡ client.taken = omega arith in
        subst (λ (n : ℕ). KnowsFirst (view_on after) g.plan (next_of client) new.desk.seat.statements n) (sym before) known_then;
    stands = λ back.
        knows_behind (view_on after) g.plan (next_of client) new.desk.seat.statements client.taken within_then
        (λ number payload some. makes back number payload some) known_then;
    unserved = unserved_then;
  }

  -- one that goes to no server makes nothing
  pub prepared_unrouted : g.plan.routes (name_of client (suc client.taken)) ≡ None → IsPrepared after (next_of client) new
  prepared_unrouted unrouted =
      prepared_then (λ back number payload some.
      none_routed number (suc client.taken) payload (g.plan.routes (name_of client (suc client.taken)))
      ((view_on after).replies (name_of client (suc client.taken))) unrouted)

pub refuses_unrouted : (route : Option Route) → route ≡ None → not (is_some route) ≡ true
refuses_unrouted route none = ap (λ (r : Option Route). not (is_some r)) none
