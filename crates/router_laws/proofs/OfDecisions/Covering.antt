-- What was found of a client's messages among some takings is so among others that cover these.
use Rattle.std.specs.Prelude.{◌≡◌, ◌<◌, ◌≤◌, ℕ, suc, Bool, true, is_some, length, slice_get, take, List, [], ◌∷◌, Option, Some, None}
use Rattle.std.proofs.Common.{refl, sym, ap, ◌∙◌, subst}
use Rattle.mx_wire.specs.declared.entry.Entry.{Entry}
use Rattle.packet_frame.specs.Packets.{Framed}
use Rattle.client_session.specs.Answers.{Talk, messages_of}
use Rattle.client_session.specs.Setups.{Setup as Service}
use Rattle.private_model.specs.Commands.{Reply}
use Rattle.private_model.specs.Names.{ClientNo, MessageName}
use Rattle.private_model.specs.View.{Setup}
use Rattle.log_story.specs.Executes.{Prepared, prepared_by}
use Rattle.log_story.specs.Owed.{messages, name_of}
use Rattle.log_story.specs.Plan.{Plan, Route, own_at}
use Rattle.client_seat.specs.Numbers.{Numbered, number_in}
use Rattle.client_seat.specs.Stands.{IsNumbered, Known}
use Rattle.core_laws.proofs.OfPrepared.Knowing.{same_prepared, statement_same}
use Rattle.log_story.specs.Tale as tales
use Rattle.log_story.specs.Tale.{Tale, view_of}
use Rattle.client_desk.specs.declared.desk.Desk.{Desk}
use Rattle.desk_laws.specs.Stands.{message_at}
use Rattle.core_tables.specs.Tables.{Tabled}
use Rattle.core_stands.specs.Grounds.{Ground}
use Rattle.core_stands.specs.Stands.{Stands}
use Rattle.core_laws.proofs.OfClients.Finding.{seated_first}
use Rattle.core_laws.specs.clients.Following.{IsFollowing, to_look}
use Rattle.core_laws.specs.clients.Follows.{Parting}
use Rattle.core_laws.specs.clients.Found.{AreFoundAt, IsFoundAt, IsFoundIn, IsLastAmong, desk_up, known_at}
use Rattle.core_laws.specs.clients.Turns.{Answers, Choice, Ends, Goes, Halt, IsTurn, Quits, Rests, Turns, Waits}
use Rattle.core_promises.proofs.Takings.{Covers, IsSeenAlike, entry_covers}
use Rattle.router_promises.specs.Statements.{known_statement}
use Rattle.router_promises.specs.Takings.{Taking, takings_at, takings_of}

-- What stands under a number stays so where replies are the same.
numbered_seen : (x y : Known) (client : tales.Client) → y.plan ≡ x.plan → y.view.replies ≡ x.view.replies → (number : ℕ) (one : Numbered)
    → IsNumbered x client (λ (key : ℕ). key) number one → IsNumbered y client (λ (key : ℕ). key) number one
numbered_seen x y client plan replies number one is =
    subst (λ (p : Plan). IsNumbered (record y { plan = p }) client (λ (key : ℕ). key) number one) (sym plan) (record {
      ordinal = is.ordinal;
      prepared =
          same_prepared x.view y.view x.plan client client number 1 (messages x.plan client) refl
          (λ k from below. ap (λ (r : MessageName → Option Reply). r (name_of client k)) replies)
          ∙ is.prepared;
      taken_up = is.taken_up;
      bound = is.bound;
      route = is.route;
      went = is.went;
      hostgroup = is.hostgroup;
      multiplex = is.multiplex;
      live = is.live;
    })

module _ (setup : Setup) (plan : Plan) (c : ClientNo) where
  seen_in : (desk : Desk) (up : Framed) (message : Option Framed) (old new : Taking) → new.client ≡ old.client → IsSeenAlike setup c old.tale new.tale
      → IsFoundIn c desk up setup plan old message → IsFoundIn c desk up setup plan new message
  seen_in desk up message old new client seen found = record {
    message_is = found.message_is;
    port = ap (λ (x : tales.Client). x.port) client ∙ found.port;
    login = found.login;
    place = seen.place ∙ found.place;
    held = λ h. (λ i. seen.held i (record { client = c; hostgroup = h; life = seen.life h i })) ∙ found.held h;
    prepared = λ number one at.
        subst (λ (x : tales.Client). IsNumbered (known_at setup plan new.tale) x (λ (key : ℕ). key) number one) (sym client)
        (numbered_seen (known_at setup plan old.tale) (known_at setup plan new.tale) old.client refl seen.replies number one (found.prepared number one at));
    unused = λ number greater.
        subst (λ (x : tales.Client). prepared_by (view_of setup new.tale) plan x number 1 (take x.taken (messages plan x)) ≡ None) (sym client)
        (same_prepared (view_of setup old.tale) (view_of setup new.tale) plan old.client old.client number 1 (take old.client.taken (messages plan old.client)) refl
        (λ k from below. ap (λ (r : MessageName → Option Reply). r (name_of old.client k)) seen.replies)
        ∙ found.unused number greater);
    known =
        subst (λ (x : tales.Client). (number : ℕ) (made : Prepared) → 0 < number
        → known_statement (view_of setup new.tale) plan x number (suc x.taken) ≡ Some made → is_some (number_in desk.seat.statements number) ≡ true) (sym client)
        (λ number made some is.
        found.known number made some (sym (statement_same (view_of setup old.tale) (view_of setup new.tale) plan old.client number seen.replies) ∙ is));
    unserved =
        subst (λ (x : tales.Client). (ordinal : ℕ) → 0 < ordinal → ordinal ≤ x.taken
        → is_some (own_at plan new.tale.moment (name_of x ordinal)) ≡ true → (view_of setup new.tale).replies (name_of x ordinal) ≡ None) (sym client)
        (λ k some below own.
        ap (λ (r : MessageName → Option Reply). r (name_of old.client k)) seen.replies
        ∙ found.unserved k some below (ap (λ (n : ℕ). is_some (own_at plan n (name_of old.client k))) (sym seen.moment) ∙ own));
  }

  seen_at : (choice : Choice) (service : Service) (default : List ℕ) (before after : Tabled) (turn : IsTurn choice service default c before after)
      (message : Option Framed) (old new : Taking) → new.client ≡ old.client → IsSeenAlike setup c old.tale new.tale
      → IsFoundAt choice service default c before after turn setup plan old message
      → IsFoundAt choice service default c before after turn setup plan new message
  seen_at (Goes route keyed) service default before after turn message old new client seen found =
      seen_in (desk_up service default turn.up.row) turn.up.message message old new client seen found
  seen_at (Answers payloads) service default before after turn message old new client seen found =
      seen_in (desk_up service default turn.up.row) turn.up.message message old new client seen found

  module _ (takings others : List Taking) (covers : Covers setup c takings others) where
    last_covered : (halt : Halt) (name : MessageName) → IsLastAmong halt takings name → IsLastAmong halt others name
    last_covered Waits name last = tt
    last_covered Rests name last = tt
    last_covered Ends name last = tt
    last_covered Quits name last = let at = covers name last.0 last.1 in (at.other, at.among)

    pub found_covered : (choices : List Choice) (halt : Halt) (service : Service) (default : List ℕ) (before after : Tabled)
        (turns : Turns choices halt service default c before after) (talk : Talk) (k : ℕ)
        → AreFoundAt choices halt service default c before after turns setup plan takings talk k
        → AreFoundAt choices halt service default c before after turns setup plan others talk k
    found_covered [] halt service default before after turns talk k found = (last_covered halt (message_at c (suc k)) found.0, found.1)
    found_covered (choice ∷ rest) halt service default before after turns talk k found =
        let at = covers (message_at c (suc k)) found.0.taking found.0.among in (
          record {
            taking = at.other;
            among = at.among;
            at =
                seen_at choice service default before turns.0 turns.1 (slice_get (messages_of talk).messages k) found.0.taking at.other at.client at.seen
                found.0.at;
          },
          found_covered rest halt service default turns.0 after turns.2 talk (suc k) found.1,
        )

-- what follows for one client at an entry is among all that is taken up there
pub follow_covers : (service : Service) (default : List ℕ) (g : Ground) (mid : Tabled) (fresh : ClientNo → Bool) (e : Entry) (client : tales.Client)
    (freed : Tale) (choices : List Choice) (halt : Halt) (parting : Parting) → IsFollowing service default g e client freed choices halt parting
    → Stands service (to_look g fresh freed) mid
    → ((m : MessageName) (route : Route) → g.plan.routes m ≡ Some route → route.mirror ≡ None) → (c : ClientNo) → client.number ≡ c
    → Covers g.setup c (takings_of (length (messages g.plan client)) g.setup g.plan client freed) (takings_at g.setup g.plan g.tale e)
follow_covers service default g mid fresh e client freed choices halt parting is stands single c number =
    subst (λ (n : ClientNo).
    Covers g.setup n (takings_of (length (messages g.plan client)) g.setup g.plan client freed) (takings_at g.setup g.plan g.tale e)) number
    (entry_covers g.setup g.plan single g.tale e client freed is.of_one.first
    (seated_first service default g mid fresh e client freed choices halt parting is stands) is.called)
