-- A client comes.
use Rattle.std.specs.Prelude.{◌≡◌, ℕ, suc, ◌+◌, Bool, true, false, All, length, List, [], ◌∷◌, ◌++◌}
use Rattle.std.proofs.Common.{refl, sym, ap, ◌∙◌, subst, arith}
use Rattle.std.proofs.lemmas.Bool.{true≢false}
use Rattle.std.proofs.lemmas.List.Elements.{All-append, All-cons, All-head, All-nil, All-tail, All-weaker}
use Rattle.mx_base.specs.declared.names.Port.{Port}
use Rattle.mx_wire.specs.declared.entry.Entry.{Entry}
use Rattle.mx_wire.specs.declared.entry.Entry.TheVariants.{Accepted}
use Rattle.packet_frame.specs.Laws.{first_message-empty}
use Rattle.client_session.specs.Setups.{Setup as Service}
use Rattle.client_side.specs.Login.{Waits, by_message, login_limit, opening}
use Rattle.private_model.proofs.Maps.{client_of, same_number}
use Rattle.private_model.specs.Names.{ClientNo, LinkId}
use Rattle.log_story.specs.Owed.{messages, name_of, talk_of}
use Rattle.log_story.specs.Plan.{gives_up}
use Rattle.log_story.specs.Tale.{Client, Tale, counted}
use Rattle.log_story.specs.Telling.{tale_step}
use Rattle.step_laws.proofs.Seating.{counted_seats, told_counted}
use Rattle.step_laws.proofs.Taking.{past_idle}
use Rattle.step_laws.specs.Seats.{IsSeated, is_its, seats}
use Rattle.step_laws.specs.Freed.{NoneDone}
use Rattle.step_laws.specs.Steps.{told_then}
use Rattle.step_laws.specs.Taken.{IsIdle}
use Rattle.core_tables.specs.Tables.{Tabled}
use Rattle.core_stands.specs.Grounds.{Ground, on}
use Rattle.core_stands.specs.Stands.{Rests, Stands}
use Rattle.core_laws.specs.arrival.Comes.{IsComing, accepted, newest}
use Rattle.core_laws.proofs.OfEntry.Composing.{rest_of_nobody, told_alone}
use Rattle.core_laws.proofs.OfEntry.Growing.{no_messages}
use Rattle.core_laws.proofs.OfEntry.Uneventful.{Makes, all_spared, of_nobody}
use Rattle.core_laws.specs.entry.Entries.{behind}
use Rattle.core_laws.specs.entry.Kinds.{IsStill, IsUneventful}

opening_none : (limit : ℕ) → opening limit [] ≡ Waits false
unfolding opening
opening_none limit = ap (by_message limit) (first_message-empty (login_limit limit) 1)

all_last : (P : Client → Type 0) (xs : List Client) (x : Client) → All P (xs ++ x ∷ []) → P x
all_last P [] x all = All-head P x [] all
all_last P (y ∷ xs) x all = all_last P xs x (All-tail P y (xs ++ x ∷ []) all)

heads : (a b : Client) → a ∷ [] ≡ b ∷ [] → a ≡ b
heads a b same = cc

module _ (service : Service) (g : Ground) (t now : Tabled) (roomy : ClientNo → Bool) (port : Port) (link : LinkId) (salt : List ℕ)
    (rests : Rests service g t roomy) (calm : IsUneventful g) (coming : IsComing g port link salt)
    (kept : gives_up g.plan (suc g.tale.moment) (name_of (newest g port link salt) 0) ≡ false)
    (stands : Stands service (accepted port link salt g) now) (undone : NoneDone g.setup g.plan (counted g.tale)) where
  abbrev new : Client
  new = newest g port link salt

  abbrev e : Entry
  e = Accepted port link salt

  abbrev made : Tale
  made = record g.tale { clients = g.tale.clients ++ new ∷ [] }

  -- it says nothing yet

  silent : messages g.plan new ≡ []
  silent = no_messages (talk_of g.plan new) [] false (opening_none g.plan.service.limit)

  idle_in : (tale : Tale) → IsIdle g.setup g.plan tale new
  idle_in tale = past_idle g.setup g.plan new tale (let size : length (messages g.plan new) ≡ 0 = ap length silent in omega (arith, size))

  still_now : (client : Client) → IsStill g client → IsStill (on g made) client
  still_now client still = record { keeps = still.keeps; word = still.word }

  new_still : IsStill (on g made) new
  new_still = record {
    keeps = λ ordinal within.
        let first : ordinal ≡ 0 = omega (arith, within) in
        subst (λ (n : ℕ). gives_up g.plan (suc g.tale.moment) (name_of new n) ≡ false) (sym first) kept;
    word = λ over. absurd (true≢false (sym over ∙ coming.unseen.going));
  }

  makes : Makes g e made
  makes = record {
    told_as = refl;
    moment = refl;
    rested = rests.rested;
    still = All-append (IsStill (on g made)) g.tale.clients (new ∷ []) (All-weaker (IsStill g) (IsStill (on g made)) still_now g.tale.clients calm.still)
        (All-cons (IsStill (on g made)) new [] new_still (All-nil (IsStill (on g made))));
    uncalled = λ client. refl;
  }

  -- it is the one of its number

  new_seated : IsSeated (told_then g.setup g.plan g.tale e) new
  new_seated =
      all_last (IsSeated (told_then g.setup g.plan g.tale e)) g.tale.clients new
      (counted_seats (told_then g.setup g.plan g.tale e) (told_counted g.setup g.plan g.tale e rests.stands.clients.counted))

  its_own : (client : Client) → IsSeated (tale_step g.setup g.plan g.tale e) client → is_its new client.number ≡ true → client ≡ new
  its_own client seated its =
      heads client new (sym seated
      ∙ ap (λ (tale : Tale). seats tale client.number) (told_alone service g t now roomy roomy e rests (of_nobody g e made makes calm.endless undone))
      ∙ ap (seats (told_then g.setup g.plan g.tale e)) (client_of client.number new.number its) ∙ new_seated)

  pub come_rests : Rests service (behind g e g.over) now roomy
  come_rests =
      rest_of_nobody service g t now roomy roomy e rests (of_nobody g e made makes calm.endless undone) (is_its new) (same_number new.number.0)
      (all_spared (is_its new) g e calm (λ c. tt)) stands (λ c other full. full)
      (λ client seated its going full.
      subst (IsIdle g.setup g.plan (tale_step g.setup g.plan g.tale e)) (sym (its_own client seated its)) (idle_in (tale_step g.setup g.plan g.tale e)))
