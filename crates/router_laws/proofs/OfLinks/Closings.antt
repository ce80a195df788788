-- The core closes a link to a server by its own wish.
use Rattle.std.specs.Prelude.{◌≡◌, ◌<◌, ℕ, suc, Bool, true, false, not, ◌&&◌, ◌||◌, All, is_some, nat_eq, if◌then◌else◌, List, [], ◌∷◌, filter, Option, Some, None}
use Rattle.std.specs.Option.{option_map, option_map_or}
use Rattle.std.proofs.Common.{refl, sym, ap, ◌∙◌, subst, arith}
use Rattle.std.proofs.lemmas.Bool.{false≢true, true≢false}
use Rattle.std.proofs.lemmas.List.Elements.{All-weaker}
use Rattle.mx_wire.specs.Log.{Log}
use Rattle.mx_wire.specs.declared.entry.Entry.{Entry}
use Rattle.mx_wire.specs.declared.entry.Entry.TheVariants as entry
use Rattle.session_state.specs.declared.names.SessionName.{SessionName}
use Rattle.client_session.specs.Setups.{Setup as Service}
use Rattle.private_model.proofs.Maps.{client_of, link_of, same_link}
use Rattle.private_model.specs.Names.{ClientNo, LinkId}
use Rattle.private_model.specs.Story.{Gone, is_client, is_link_id}
use Rattle.private_model.specs.View.{Link, session_in}
use Rattle.log_story.specs.Clients.{is_answered, is_up, waits_for_capture}
use Rattle.log_story.specs.Owed.{has_room}
use Rattle.log_story.specs.Tale as tales
use Rattle.log_story.specs.Tale.{Tale, counted, is_to_server, link_in, tell, view_of}
use Rattle.log_story.specs.Telling.{tale_step, told}
use Rattle.step_laws.proofs.Apart.{counted_apart}
use Rattle.step_laws.proofs.Others.{idle_by}
use Rattle.step_laws.specs.Freed.{NoneDone}
use Rattle.step_laws.specs.Seats.{IsSeated, seats}
use Rattle.step_laws.specs.Spared.{carries_of}
use Rattle.step_laws.specs.Steps.{told_then}
use Rattle.step_laws.specs.Taken.{IsIdle, is_called}
use Rattle.core_tables.specs.Parting.{changed_for, given_up_in, gone_row, is_done_in, lost_in, present_in, unlinked}
use Rattle.core_tables.specs.Tables.{IsSame, Tabled}
use Rattle.core_tables.specs.declared.client.Client.{Client}
use Rattle.core_stands.specs.Clients.{IsClientOr}
use Rattle.core_stands.specs.Grounds.{Ground, on, view_on}
use Rattle.core_stands.specs.Stands.{IsAt, IsCalm, Rests, Stands}
use Rattle.core_laws.proofs.OfWriting.Knowing.{at_client, is_servers}
use Rattle.core_laws.proofs.OfEntry.Composing.{rest_of_nobody, told_alone}
use Rattle.core_laws.proofs.OfEntry.Lists.{seated_of}
use Rattle.core_laws.proofs.OfEntry.Uneventful.{Testing, given_same, nobody_given, not_called}
use Rattle.core_laws.specs.entry.Calms.{IsLostOf}
use Rattle.core_laws.specs.entry.Entries.{AreCalmToo, AreSpared, IsOfNobody, IsSpared, behind}
use Rattle.core_laws.specs.entry.Kinds.{IsStill}
use Rattle.core_laws.proofs.OfClients.Facts.{waits_so}
use Rattle.core_laws.specs.clients.Turns.{waits_at}
use Rattle.router_laws.specs.clients.Behind.{IsDueBehind, IsEntered}
use Rattle.router_laws.specs.clients.Plans.{IsDecided, nobody}
use Rattle.core_laws.proofs.OfLinks.Lost.{lost_as}
use Rattle.core_laws.proofs.OfLinks.Uncalled.{Sames}
use Rattle.router_laws.proofs.OfLinks.Going.{plain_due, same_over}
use Rattle.router_laws.proofs.OfLinks.Leaving.{HasGone, has_gone}
use Rattle.router_laws.proofs.OfLinks.Rowing.{forgotten_undone}
use Rattle.router_laws.specs.links.Closes.{ClosesSo}

-- the tale with the link gone, and the entry counted
abbrev pub gone_tale : Tale → LinkId → Tale
gone_tale tale l = counted (tell (Gone l) tale)

abbrev pub closed : Tabled → LinkId → Tabled
closed t l = unlinked l (given_up_in nobody_given (lost_in l t))

pub unusable : (g : Ground) (l : LinkId) → (link_in g.setup (gone_tale g.tale l) l).usable ≡ false
unusable g l =
    ap (λ (b : Bool). (if b then record ((view_on g).links l) { usable = false } else (view_on g).links l).usable) (same_link l)

module _ (service : Service) (testing : Testing service) (sames : Sames service) (g : Ground) (t now : Tabled) (roomy room : ClientNo → Bool) (l : LinkId)
    (over : ClientNo → Bool) (decided : IsDecided g nobody over) (so : ClosesSo l room t now) (rooms : (c : ClientNo) → room c ≡ false → roomy c ≡ false)
    (rests : Rests service g t roomy) (stands : Stands service (on g (gone_tale g.tale l)) (closed t l)) where
  abbrev e : Entry
  e = entry.Closed l

  abbrev later : Tale
  later = gone_tale g.tale l

  known : is_to_server g.tale l ≡ true
  known = is_servers service g t l so.may.server rests.stands so.may.there

  told_as : later ≡ told_then g.setup g.plan g.tale e
  told_as = ap counted (sym (lost_as g.tale l known))

  now_same : IsSame now (closed t l)
  now_same = record {
    clients = λ c. so.same.clients c ∙ (given_same (lost_in l t)).clients c;
    numbers = so.same.numbers;
    links = so.same.links;
  }

  stands_now : Stands service (on g later) now
  stands_now = sames (on g later) (closed t l) now stands now_same

  undone : NoneDone g.setup g.plan later
  undone x there =
      testing (on g later) (closed t l) x stands there
      ∙ forgotten_undone service g t l nobody_given rests.stands (λ other apart c row work some at home. false≢true some) x (sym (testing g t x rests.stands there) ∙ rests.rested x there)

  not_called_then : (x : tales.Client) → IsStill g x → is_called g.plan later.moment (view_on g) e x ≡ false
  not_called_then x still = not_called g.plan later.moment (view_on g) e x refl (still.keeps x.taken (omega arith))

  of_nobody : IsOfNobody g e
  of_nobody = record {
    unfreed = subst (NoneDone g.setup g.plan) told_as undone;
    uncalled = subst (λ (tale : Tale). All (λ (x : tales.Client). is_called g.plan tale.moment (view_on g) e x ≡ false) tale.clients) told_as
        (All-weaker (IsStill g) (λ (x : tales.Client). is_called g.plan later.moment (view_on g) e x ≡ false) not_called_then g.tale.clients decided.still);
    endless = decided.ends;
  }

  step_is : tale_step g.setup g.plan g.tale e ≡ later
  step_is = told_alone service g t now roomy roomy e rests of_nobody ∙ sym told_as

  -- of others nothing is told

  abbrev whose : ClientNo → Bool
  whose c = carries_of (λ (m : SessionName). is_client c m.client) (link_in g.setup g.tale l).carries

  no_client : (c : ClientNo) (x : tales.Client) → IsAt g t x → is_link_id x.link l ≡ true → is_client c x.number ≡ false
  no_client c x at here = absurd (true≢false (sym known ∙ ap (is_to_server g.tale) (sym (link_of x.link l here)) ∙ at.aside))

  aside : (c : ClientNo) → whose c ≡ false → IsLostOf g.setup g.tale l c
  aside c other = record {
    carried = λ there. other;
    theirs = All-weaker (IsAt g t) (λ (x : tales.Client). is_link_id x.link l ≡ true → is_client c x.number ≡ false) (no_client c) g.tale.clients
        rests.stands.clients.each;
  }

  spared : AreSpared whose g e
  spared =
      All-weaker (IsStill g) (λ (x : tales.Client). whose x.number ≡ false → IsSpared g e x)
      (λ x still other. record { aside = aside x.number other; keeps = still.keeps }) g.tale.clients decided.still

  -- its own client has nothing to take up either

  module _ (x : tales.Client) (seated : IsSeated g.tale x) (going : g.over x.number ≡ false) (full : room x.number ≡ false) where
    abbrev Up : Tale → Type 0
    Up tale = waits_for_capture (view_of g.setup tale) g.plan x ≡ waits_for_capture (view_of g.setup g.tale) g.plan x

    unawaited : (n : SessionName) (row : Client) → present_in l t ≡ Some n → t.clients n.client ≡ Some row → nat_eq n.client.0 x.number.0 ≡ true
        → waits_at row ≡ false
    unawaited n row at there same = so.may.unawaited n row at there (ap room (client_of n.client x.number same) ∙ full)

    waits_by : (found : Option Client) → t.clients x.number ≡ found → IsClientOr g x found → Up later
    waits_by None there is = absurd (true≢false (sym is.over ∙ going))
    waits_by (Some row) there is =
        let gone : HasGone service g t l rests.stands x.number row there unawaited =
        has_gone service g t l rests.stands x.number row there unawaited in
        let there_now : now.clients x.number ≡ Some gone.row_now = so.same.clients x.number ∙ gone.is in
        sym (waits_so service (on g later) now x gone.row_now stands_now seated there_now going) ∙ gone.waits
        ∙ waits_so service g t x row rests.stands seated there going

    waits_same : Up later
    waits_same = waits_by (t.clients x.number) refl (seated_of (IsAt g t) g.tale x seated rests.stands.clients.each).row

    -- the link gone, and then the entry counted
    gone_up : is_up g.setup g.plan x (tell (Gone l) g.tale) ≡ is_up g.setup g.plan x g.tale
    gone_up =
        ap (λ (waits : Bool). is_answered g.plan g.tale (view_on g) x x.taken
        && (not waits && has_room (view_on g).replies g.plan g.tale.moment x)) waits_same

    up_same : is_up g.setup g.plan x later ≡ is_up g.setup g.plan x g.tale
    up_same =
        (counted_apart g.setup g.plan x (tell (Gone l) g.tale) (seated_of (IsStill g) g.tale x seated decided.still).keeps).up ∙ gone_up

    pub still_idle : IsIdle g.setup g.plan later x
    still_idle =
        idle_by g.setup g.plan x g.tale later up_same
        (seated_of (IsCalm g roomy) g.tale x seated rests.calm going (rooms x.number full))

  own : AreCalmToo whose (behind g e g.over) room
  own x seated its going full =
      let before : IsSeated g.tale x = ap (λ (tale : Tale). seats tale x.number) (sym step_is) ∙ seated in
      subst (λ (tale : Tale). IsIdle g.setup g.plan tale x) (sym step_is) (still_idle x before going full)

  closed_rests : Rests service (behind g e g.over) now room
  closed_rests =
      rest_of_nobody service g t now roomy room e rests of_nobody whose tt spared
      (subst (λ (tale : Tale). Stands service (on g tale) now) told_as stands_now) (λ c other full. rooms c full) own

  pub closed_over : Rests service (behind g e over) now room
  closed_over = subst (λ (x : ClientNo → Bool). Rests service (behind g e x) now room) (sym (same_over g over decided)) closed_rests

  pub closed_clients : (tale_step g.setup g.plan g.tale e).clients ≡ g.tale.clients
  closed_clients = ap (λ (tale : Tale). tale.clients) step_is

pub closing_due : (g : Ground) (log : Log) (l : LinkId) (over : ClientNo → Bool) (now : Tabled) → IsDueBehind g log (entry.Closed l) nobody over now
closing_due g log l over now =
    plain_due g log (entry.Closed l) over now (record { writes = refl; reads = λ k. refl; comes = λ x come. come })
