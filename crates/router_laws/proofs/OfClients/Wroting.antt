-- Bytes are written to a client.
use Rattle.std.specs.Prelude.{◌≡◌, ◌≤◌, ◌+◌, ◌&&◌, ◌||◌, ℕ, suc, nat_lt, not, Bool, true, false, All, if◌then◌else◌, length, map, slice_get, List, [], ◌∷◌, ◌++◌, Option, Some, None}
use Rattle.std.specs.List.{flat_map}
use Rattle.std.proofs.Common.{refl, sym, ap, ◌∙◌, subst, append-nil, arith, inl, inr, length-append}
use Rattle.std.proofs.lemmas.Bool.{false≢true, true≢false}
use Rattle.std.proofs.lemmas.List.{length-take}
use Rattle.std.proofs.lemmas.List.Elements.{All-map, All-weaker}
use Rattle.std.proofs.lemmas.Option.{none-some}
use Rattle.mx_base.specs.declared.names.LinkId.{LinkId}
use Rattle.mx_base.specs.declared.tag.Tag.{Tag}
use Rattle.mx_wire.specs.Log.{Log, wrote_bytes}
use Rattle.mx_wire.specs.declared.entry.Entry.{Entry}
use Rattle.mx_wire.specs.declared.entry.Entry.TheVariants.{Wrote}
use Rattle.packet_frame.specs.Packets.{Framed}
use Rattle.client_seat.specs.Seats.{has_room, is_ended, wrote}
use Rattle.client_seat.specs.Stands.{IsWrittenOf, due_so_far}
use Rattle.client_seat.specs.declared.phase.Phase.{Phase}
use Rattle.client_seat.specs.declared.phase.Phase.TheVariants as phase
use Rattle.client_seat.specs.declared.seat.Seat.{Seat}
use Rattle.client_session.specs.Setups.{Setup as Service}
use Rattle.private_model.proofs.Maps.{client_of, same_link}
use Rattle.private_model.specs.Names.{ClientNo}
use Rattle.private_model.specs.Story.{is_client, is_link_id}
use Rattle.private_model.specs.View.{Setup}
use Rattle.log_story.specs.Clients.{is_answered, is_up, next_taken, taken_by, waits_for_capture}
use Rattle.log_story.specs.Owed as owed
use Rattle.log_story.specs.Owed.{messages, name_of, unwritten}
use Rattle.log_story.specs.Plan.{Plan}
use Rattle.log_story.specs.Servers.{writes}
use Rattle.log_story.specs.Tale as tales
use Rattle.log_story.specs.Tale.{Tale, client_gets, counted, is_to_server, view_of}
use Rattle.log_story.specs.Telling.{tale_step, told}
use Rattle.step_laws.proofs.Apart.{counted_apart}
use Rattle.step_laws.proofs.Seating.{counted_seats}
use Rattle.step_laws.specs.Seats.{IsSeated, seats}
use Rattle.step_laws.specs.Taken.{IsAsItWas, IsIdle}
use Rattle.core_tables.specs.Arrivals.{seated as reseated, written_to}
use Rattle.core_tables.specs.Tables.{IsSame, Tabled}
use Rattle.core_tables.specs.declared.client.Client.{Client}
use Rattle.core_stands.specs.Clients.{IsClient, IsClientOr, IsOwing, IsPhase}
use Rattle.core_stands.specs.Grounds.{Ground, known_on, on, view_on}
use Rattle.core_stands.specs.Stands.{IsAt, IsCalm, Rests, Stands}
use Rattle.core_laws.proofs.OfArrival.Changing.{changed-so}
use Rattle.core_laws.proofs.OfArrival.Finding.{client-true, seated-by}
use Rattle.core_laws.proofs.OfArrival.Idling.{down-idles}
use Rattle.core_laws.proofs.OfEntry.Composing.{told_alone}
use Rattle.core_laws.proofs.OfEntry.Lists.{seated_of}
use Rattle.core_laws.proofs.OfEntry.Uneventful.{Counting, Makes, Testing, counted_rests, of_nobody}
use Rattle.core_laws.specs.entry.Dues.{IsWrittenBy, written_by}
use Rattle.core_laws.specs.entry.Entries.{behind}
use Rattle.core_laws.specs.entry.Kinds.{IsStill, IsUneventful}
use Rattle.router_laws.proofs.OfClients.Linking.{client_there, is_client_row, known, link_is, none_written, off_server}
use Rattle.router_laws.specs.clients.Behind.{IsDueBehind}
use Rattle.router_laws.specs.clients.Plans.{IsDecided, nobody}
use Rattle.router_laws.specs.clients.Writes.{WroteSo, lacks_event}

and_third : (a b c : Bool) → c ≡ false → (a && (b && c)) ≡ false
and_third true true c is = is
and_third true false c is = refl
and_third false b c is = refl

-- Who takes up nothing goes on so, where its next message is up or not as it was.
pub idle_moves : (setup : Setup) (plan : Plan) (x y : tales.Client) (old new : Tale)
    → slice_get (messages plan y) y.taken ≡ slice_get (messages plan x) x.taken → is_up setup plan y new ≡ is_up setup plan x old
    → IsIdle setup plan old x → IsIdle setup plan new y
idle_moves setup plan x y old new slot up idle = by (slice_get (messages plan x) x.taken) refl where
  none_of : (made : Tale) (b : Bool) → (if b then Some made else None) ≡ None → b ≡ false
  none_of made false none = refl
  none_of made true none = absurd (none-some made (sym none))

  by : (found : Option Framed) → slice_get (messages plan x) x.taken ≡ found → IsIdle setup plan new y
  by None is = ap (λ (m : Option Framed). next_taken setup plan y m new) (slot ∙ is)
  by (Some m) is =
      down-idles setup plan y new
      (up
      ∙ none_of (taken_by setup plan x (suc x.taken) m (plan.routes (name_of x (suc x.taken))) old) (is_up setup plan x old)
      (sym (ap (λ (found : Option Framed). next_taken setup plan x found old) is) ∙ idle))

-- How much waits for one that goes on, by its row.

room_by : (g : Ground) (x : tales.Client) (seat : Seat) → g.plan.room ≡ 1048576 → IsWrittenOf x seat (due_so_far (known_on g) x)
    → owed.has_room (view_on g).replies g.plan g.tale.moment x ≡ has_room seat
room_by g x seat room is =
    let all : length (due_so_far (known_on g) x) ≡ length is.written + length seat.outbox.due =
    ap (λ (bytes : List ℕ). length bytes) is.all ∙ length-append is.written seat.outbox.due in
    let left : unwritten (view_on g).replies g.plan g.tale.moment x ≡ length seat.outbox.due = omega (arith, all, is.size) in
    λ i. nat_lt (left i) (room i)

pub room_of : (g : Ground) (x : tales.Client) (row : Client) → g.plan.room ≡ 1048576 → IsClient g x row → g.fresh x.number ≡ false
    → is_ended row.desk.seat.phase ≡ false → owed.has_room (view_on g).replies g.plan g.tale.moment x ≡ has_room row.desk.seat
room_of g x row room is looked going = by row.desk.seat.phase (g.fresh x.number) looked going is.owed where
  by : (at : Phase) (fresh : Bool) → fresh ≡ false → is_ended at ≡ false → IsOwing at fresh g x row.desk.seat
      → owed.has_room (view_on g).replies g.plan g.tale.moment x ≡ has_room row.desk.seat
  by phase.LoggingIn true old going owing = absurd (true≢false old)
  by phase.LoggingIn false old going owing = room_by g x row.desk.seat room owing
  by (phase.Serving account) fresh old going owing = room_by g x row.desk.seat room owing
  by phase.Ended fresh old going owing = absurd (true≢false going)

module _ (service : Service) (g : Ground) (t now : Tabled) (roomy room : ClientNo → Bool) (log : Log) (over : ClientNo → Bool) (link : LinkId) (tag : Tag)
    (bytes : List ℕ) (count : ℕ) (c : ClientNo) (so : WroteSo link bytes count c roomy room t now) (decided : IsDecided g nobody over)
    (rests : Rests service g t roomy) where
  abbrev e : Entry
  e = Wrote link tag bytes

  abbrev made : Tale
  made = record g.tale { clients = map (client_gets link (length bytes)) g.tale.clients }

  abbrev client : tales.Client
  client = client_there service g t link c so.row rests.stands so.its

  abbrev gets : tales.Client
  gets = record client { written = client.written + length bytes }

  number : client.number ≡ c
  number = (known service g t link c so.row rests.stands so.its).number

  to_client : is_to_server g.tale link ≡ false
  to_client = off_server service g t link c so.row rests.stands so.its

  pub size : length bytes ≡ count
  size =
      let few : count ≤ length so.row.desk.seat.outbox.due = so.few in
      ap (λ (xs : List ℕ). length xs) so.front ∙ omega (arith, few, length-take count so.row.desk.seat.outbox.due)

  pub sized : IsSame now (written_to c (length bytes) t)
  sized = subst (λ (n : ℕ). IsSame now (written_to c n t)) (sym size) so.same

  pub few : length bytes ≤ length so.row.desk.seat.outbox.due
  few = subst (λ (n : ℕ). n ≤ length so.row.desk.seat.outbox.due) (sym size) so.few

  pub calm : IsUneventful g
  calm = record { still = decided.still; endless = decided.ends }

  or_nobody : (a : Bool) → a ≡ (a || false)
  or_nobody true = refl
  or_nobody false = refl

  same_over : over ≡ g.over
  same_over = λ i. λ n. (decided.overs n ∙ sym (or_nobody (g.over n))) i

  -- The tale.

  told_as : told g.setup g.plan g.tale e ≡ made
  told_as = ap (λ (b : Bool). if b then writes g.setup g.plan link tag bytes (g.tale.wires link) g.tale else made) to_client

  got_still : (x : tales.Client) → IsStill g x → IsStill (on g made) (client_gets link (length bytes) x)
  got_still x still = by (is_link_id x.link link) where
    by : (b : Bool) → IsStill (on g made) (if b then record x { written = x.written + length bytes } else x)
    by true = record { keeps = still.keeps; word = still.word }
    by false = record { keeps = still.keeps; word = still.word }

  makes : Makes g e made
  makes = record {
    told_as = told_as;
    moment = refl;
    rested = rests.rested;
    still = All-map (IsStill (on g made)) (client_gets link (length bytes)) g.tale.clients
        (All-weaker (IsStill g) (λ (x : tales.Client). IsStill (on g made) (client_gets link (length bytes) x)) got_still g.tale.clients decided.still);
    uncalled = λ x. refl;
  }

  gets_is : client_gets link (length bytes) client ≡ gets
  gets_is =
      ap (λ (b : Bool). if b then gets else client)
      (ap (λ (l : LinkId). is_link_id l link) (link_is service g t link c so.row rests.stands so.its) ∙ same_link link)

  gets_number : (x : tales.Client) → (client_gets link (length bytes) x).number ≡ x.number
  gets_number x = by (is_link_id x.link link) where
    by : (b : Bool) → (if b then record x { written = x.written + length bytes } else x).number ≡ x.number
    by true = refl
    by false = refl

  module _ (counting : Counting service) (testing : Testing service) (stands : Stands service (on g (told g.setup g.plan g.tale e)) now)
      (wide : Rests service (behind g e g.over) now (λ other. is_client c other || roomy other)) where
    stands_made : Stands service (on g made) now
    stands_made = subst (λ (tale : Tale). Stands service (on g tale) now) told_as stands

    step_is : tale_step g.setup g.plan g.tale e ≡ counted made
    step_is =
        told_alone service g t now roomy roomy e rests
        (of_nobody g e made makes decided.ends
        (counted_rests service testing (on g made) now stands_made (counting (on g made) now stands_made makes.still) rests.rested))
        ∙ ap counted told_as

    abbrev new : Ground
    new = behind g e g.over

    gets_seated : IsSeated made gets
    gets_seated =
        subst (IsSeated made) gets_is
        (seated-by (client_gets link (length bytes)) gets_number g.tale.clients client (known service g t link c so.row rests.stands so.its).seated)

    its_own : (x : tales.Client) → IsSeated new.tale x → x.number ≡ c → x ≡ gets
    its_own x seated same =
        let there : IsSeated made x = subst (λ (tale : Tale). IsSeated tale x) step_is seated in
        let both : x ∷ [] ≡ gets ∷ [] =
        sym there ∙ ap (λ (n : ClientNo). seats made n) (same ∙ sym number) ∙ gets_seated in
        cc

    -- whether it is up

    row_now : now.clients c ≡ Some (reseated (wrote count) so.row)
    row_now = changed-so (wrote count) c t now so.row so.its.there so.same

    old_room : is_ended so.row.desk.seat.phase ≡ false
        → owed.has_room (view_on g).replies g.plan g.tale.moment client ≡ has_room so.row.desk.seat
    old_room going =
        room_of g client so.row rests.stands.room_is (is_client_row service g t link c so.row rests.stands so.its) (rests.looked client.number) going

    gets_row : (x : tales.Client) → IsSeated new.tale x → x.number ≡ c → IsClient new x (reseated (wrote count) so.row)
    gets_row x seated same =
        subst (λ (found : Option Client). IsClientOr new x found) (ap now.clients same ∙ row_now)
        (seated_of (IsAt new now) new.tale x seated wide.stands.clients.each).row

    new_room : (x : tales.Client) → IsSeated new.tale x → x.number ≡ c → is_ended so.row.desk.seat.phase ≡ false
        → owed.has_room (view_on new).replies g.plan new.tale.moment x ≡ has_room (wrote count so.row.desk.seat)
    new_room x seated same going =
        room_of new x (reseated (wrote count) so.row) wide.stands.room_is (gets_row x seated same) (wide.looked x.number) going

    abbrev up_with : Tale → (room_there : Bool) → Bool
    up_with tale room_there =
        is_answered g.plan tale (view_of g.setup tale) client client.taken && (not (waits_for_capture (view_of g.setup tale) g.plan client) && room_there)

    counts_same : IsAsItWas g.setup g.plan g.tale (counted g.tale) client
    counts_same =
        counted_apart g.setup g.plan client g.tale
        (seated_of (IsStill g) g.tale client (known service g t link c so.row rests.stands so.its).seated decided.still).keeps

    -- it has room as it had
    up_same : has_room so.row.desk.seat ≡ true → has_room (wrote count so.row.desk.seat) ≡ true → is_ended so.row.desk.seat.phase ≡ false
        → IsSeated new.tale gets → is_up g.setup g.plan gets (counted made) ≡ is_up g.setup g.plan client g.tale
    up_same full full_now going seated =
        let now_room : owed.has_room (view_of g.setup (counted made)).replies g.plan (counted made).moment gets ≡ true =
        subst (λ (tale : Tale). owed.has_room (view_of g.setup tale).replies g.plan tale.moment gets ≡ true) step_is
        (new_room gets seated number going ∙ full_now) in
        let was_room : owed.has_room (view_of g.setup (counted g.tale)).replies g.plan (counted g.tale).moment client ≡ true =
        counts_same.room ∙ old_room going ∙ full in
        ap (up_with (counted made)) (now_room ∙ sym was_room) ∙ counts_same.up

    idle_so : (x : tales.Client) → IsSeated new.tale x → x.number ≡ c → is_ended so.row.desk.seat.phase ≡ false → g.over c ≡ false → roomy c ≡ false
        → (a b : Bool) → has_room so.row.desk.seat ≡ a → has_room (wrote count so.row.desk.seat) ≡ b → (not a && b) ≡ false
        → IsIdle g.setup g.plan new.tale x
    idle_so x seated same ended going calmed a false full full_now lacks =
        down-idles g.setup g.plan x new.tale (and_third _ _ _ (new_room x seated same ended ∙ full_now))
    idle_so x seated same ended going calmed false true full full_now lacks = absurd (true≢false lacks)
    idle_so x seated same ended going calmed true true full full_now lacks =
        let own : x ≡ gets = its_own x seated same in
        let idle : IsIdle g.setup g.plan g.tale client =
        seated_of (IsCalm g roomy) g.tale client (known service g t link c so.row rests.stands so.its).seated rests.calm
        (ap g.over number ∙ going) (ap roomy number ∙ calmed) in
        subst (λ (y : tales.Client). IsIdle g.setup g.plan new.tale y) (sym own)
        (subst (λ (tale : Tale). IsIdle g.setup g.plan tale gets) (sym step_is)
        (idle_moves g.setup g.plan client gets g.tale (counted made) refl
        (up_same full full_now ended (subst (IsSeated new.tale) own seated)) idle))

    phase_by : (x : tales.Client) (b : Bool) → IsPhase b new x (reseated (wrote count) so.row) → g.over x.number ≡ false → b ≡ false
    phase_by x false is going = refl
    phase_by x true is going = absurd (true≢false (sym is.over ∙ going))

    or_left : (a b : Bool) → (a || b) ≡ false → a ≡ false
    or_left true b none = absurd (true≢false none)
    or_left false b none = refl

    or_right : (a b : Bool) → (a || b) ≡ false → b ≡ false
    or_right true b none = absurd (true≢false none)
    or_right false b none = none

    calm_so : (x : tales.Client) → IsSeated new.tale x → IsCalm new (λ other. is_client c other || roomy other) x → IsCalm new room x
    calm_so x seated wider going full = by (is_client c x.number) refl where
      spare : (roomy x.number || (is_client c x.number && lacks_event count so.row)) ≡ false
      spare = so.roomy_then x.number full

      by : (b : Bool) → is_client c x.number ≡ b → IsIdle g.setup g.plan new.tale x
      by false other = wider going ((λ i. other i || roomy x.number) ∙ or_left (roomy x.number) (is_client c x.number && lacks_event count so.row) spare)
      by true mine =
          let same : x.number ≡ c = sym (client-true c x.number mine) in
          let unended : is_ended so.row.desk.seat.phase ≡ false =
          phase_by x (is_ended so.row.desk.seat.phase) (gets_row x seated same).phase going in
          let lacks : lacks_event count so.row ≡ false =
          ap (λ (b : Bool). b && lacks_event count so.row) (sym mine)
          ∙ or_right (roomy x.number) (is_client c x.number && lacks_event count so.row) spare in
          idle_so x seated same unended (ap g.over (sym same) ∙ going)
          (ap roomy (sym same) ∙ or_left (roomy x.number) (is_client c x.number && lacks_event count so.row) spare)
          (has_room so.row.desk.seat) (has_room (wrote count so.row.desk.seat)) refl refl
          (ap (λ (b : Bool). not b && (not (has_room so.row.desk.seat) && has_room (wrote count so.row.desk.seat))) (sym unended) ∙ lacks)

    pub wrote_rests : Rests service (behind g e over) now room
    wrote_rests =
        subst (λ (ends : ClientNo → Bool). Rests service (behind g e ends) now room) (sym same_over)
        (record {
          stands = wide.stands;
          over = wide.over;
          looked = wide.looked;
          rested = wide.rested;
          calm = λ k d within. calm_so _ (counted_seats new.tale wide.stands.clients.counted k d within) (wide.calm k d within);
        })

  -- what is written to it

  same_client : (x : tales.Client) → IsSeated g.tale x → x.number ≡ c → x ≡ client
  same_client x seated same =
      let both : x ∷ [] ≡ client ∷ [] =
      sym seated ∙ ap (λ (n : ClientNo). seats g.tale n) (same ∙ sym number) ∙ (known service g t link c so.row rests.stands so.its).seated in
      cc

  written_so : written_by client.link e ≡ bytes
  written_so =
      ap (λ (b : Bool). flat_map wrote_bytes (if b then e ∷ [] else []))
      (ap (λ (l : LinkId). is_link_id l link) (link_is service g t link c so.row rests.stands so.its) ∙ same_link link)
      ∙ append-nil bytes

  writes_by : (x : tales.Client) → IsSeated g.tale x → IsWrittenBy g e x
  writes_by x seated = by (is_client x.number c) refl where
    by : (b : Bool) → is_client x.number c ≡ b → IsWrittenBy g e x
    by false other = inl (none_written service g t link c so.row rests.stands so.its x tag bytes seated other)
    by true mine =
        subst (IsWrittenBy g e) (sym (same_client x seated (client_of x.number c mine)))
        (inr (record {
          row = so.row;
          stands = is_client_row service g t link c so.row rests.stands so.its;
          looked = rests.looked client.number;
          count = count;
          taken = written_so ∙ so.front;
        }))

  pub wrote_due : IsDueBehind g log e nobody over now
  wrote_due = record {
    writes = writes_by;
    unread = λ x seated ended. refl;
    says = λ was x seated on its going. absurd (false≢true its);
    there = λ x seated its. absurd (false≢true its);
    comes = λ x seated come. absurd come;
  }
