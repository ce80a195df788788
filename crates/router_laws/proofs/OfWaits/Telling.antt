-- What a client that goes on is due is written, but for the error for what can't be a message, or its link takes no more.
use Rattle.std.specs.Prelude.{◌≡◌, ◌⊎◌, ◌<◌, ◌≤◌, ◌+◌, ◌&&◌, ◌||◌, ℕ, zero, suc, Bool, true, false, is_some, length, nat_eq, take, if◌then◌else◌, List, [], ◌∷◌, ◌++◌, IsSome, Option, Some, None}
use Rattle.std.specs.Option.{option_map_or}
use Rattle.std.proofs.Common.{refl, sym, ap, ◌∙◌, subst, append_assoc, append-nil, arith, inl, inr}
use Rattle.std.proofs.lemmas.Bool.{lt-ltb, true≢false}
use Rattle.std.proofs.lemmas.Bool.Decides.{nat_tests}
use Rattle.std.proofs.lemmas.List.{length-take-le}
use Rattle.mx_base.specs.Sent.{Sent}
use Rattle.mx_base.specs.declared.names.ClientNo.{ClientNo}
use Rattle.mx_base.specs.declared.names.LinkId.{LinkId}
use Rattle.mx_base.specs.declared.tag.Tag.TheVariants as tags
use Rattle.mx_wire.specs.Log.{Log, written_of}
use Rattle.packet_frame.specs.Packets.{Framed, next_id, spellings}
use Rattle.packet_frame.specs.declared.fault.FrameFault.{FrameFault}
use Rattle.reply_track.specs.Grammar.{renamed}
use Rattle.client_seat.specs.Seats.{is_ended, wants_read}
use Rattle.client_seat.specs.Stands.{IsWrittenOf, due_so_far}
use Rattle.client_seat.specs.declared.phase.Phase.{Phase}
use Rattle.client_seat.specs.declared.phase.Phase.TheVariants as phase
use Rattle.client_seat.specs.declared.seat.Seat.{Seat}
use Rattle.client_session.specs.Answers.{fault_answer, front, messages_of}
use Rattle.private_model.specs.Commands.{Reply}
use Rattle.private_model.specs.Names.{MessageName}
use Rattle.log_story.specs.Clients.{is_answered}
use Rattle.log_story.specs.Honest.{IsFront}
use Rattle.log_story.specs.Owed.{answered_with, due_bytes, due_for, due_until, error_behind, kind_of, last_error, messages, name_of, number_of, talk_of, with_word}
use Rattle.log_story.specs.Plan.{Plan, own_at, word_at}
use Rattle.log_story.specs.Tale as tales
use Rattle.core_tables.specs.Passing as passing
use Rattle.core_tables.specs.Passing.{as_reply}
use Rattle.core_tables.specs.Tables.{Tabled}
use Rattle.core_tables.specs.declared.client.Client.{Client}
use Rattle.core_tables.specs.declared.server.Server.{Server}
use Rattle.core_stands.specs.Clients.{IsOwing}
use Rattle.core_stands.specs.Grounds.{Ground, known_on, view_on}
use Rattle.core_stands.specs.Servers.{IsServerBy, IsServerOr}
use Rattle.core_stands.specs.Stands.{IsAt}
use Rattle.core_says.specs.Says.{is_clients, is_own, is_own_of, reads_by, reads_client, reads_in, reads_row, sends_by, sends_in}
use Rattle.core_laws.proofs.OfEntry.Parting.{row_within}
use Rattle.core_laws.proofs.OfEntry.Writing.{fronts_same}
use Rattle.core_laws.specs.entry.Dues.{IsWrittenTo, due_by}
use Rattle.router_laws.proofs.OfWaits.Rows.{HasRow}

-- What stands behind the answers is due where all are answered, and not where one isn't.

answered_more : (own : Option (List (List ℕ))) (reply : Option Reply) (number id : ℕ) (later more : List ℕ) → (is_some own || is_some reply) ≡ true
    → answered_with own reply number id (later ++ more) ≡ answered_with own reply number id later ++ more
answered_more (Some payloads) reply number id later more some = sym (append_assoc (spellings id payloads) later more)
answered_more None (Some reply) number id later more some =
    sym (append_assoc (spellings id (renamed (kind_of reply) number reply.payloads)) later more)
answered_more None None number id later more none = absurd (true≢false (sym none))

module _ (replies : MessageName → Option Reply) (plan : Plan) (moment : ℕ) (client : tales.Client) where
  abbrev is_there : (ordinal : ℕ) → Bool
  is_there ordinal = is_some (own_at plan moment (name_of client ordinal)) || is_some (replies (name_of client ordinal))

  all_there : (last : List ℕ) (i : ℕ) (sent : List Framed) → ((k : ℕ) → i ≤ k → k < i + length sent → is_there k ≡ true)
      → due_for replies plan moment client last i sent ≡ due_for replies plan moment client [] i sent ++ last
  all_there last i [] there = refl
  all_there last i (message ∷ sent) there =
      ap (answered_with (own_at plan moment (name_of client i)) (replies (name_of client i)) (number_of plan (name_of client i)) (next_id message.last))
      (all_there last (suc i) sent (λ k from to. there k (omega (arith, from)) (omega (arith, to))))
      ∙ answered_more (own_at plan moment (name_of client i)) (replies (name_of client i)) (number_of plan (name_of client i)) (next_id message.last)
      (due_for replies plan moment client [] (suc i) sent) last (there i (omega arith) (omega arith))

  stuck : (own : Option (List (List ℕ))) (reply : Option Reply) (number id : ℕ) (one other : List ℕ) → (is_some own || is_some reply) ≡ false
      → answered_with own reply number id one ≡ answered_with own reply number id other
  stuck (Some payloads) reply number id one other none = absurd (true≢false none)
  stuck None (Some reply) number id one other none = absurd (true≢false none)
  stuck None None number id one other none = refl

  one_isnt : (last : List ℕ) (k i : ℕ) (sent : List Framed) → i ≤ k → k < i + length sent → is_there k ≡ false
      → due_for replies plan moment client last i sent ≡ due_for replies plan moment client [] i sent
  one_isnt last k i [] from to none = absurd (omega (arith, from, to))
  one_isnt last k i (message ∷ sent) from to none = elim (at_or k i from) [
    | inl here ↦
        stuck (own_at plan moment (name_of client i)) (replies (name_of client i)) (number_of plan (name_of client i)) (next_id message.last)
        (due_for replies plan moment client last (suc i) sent) (due_for replies plan moment client [] (suc i) sent)
        (subst (λ (n : ℕ). is_there n ≡ false) here none)
    | inr later ↦
        ap (answered_with (own_at plan moment (name_of client i)) (replies (name_of client i)) (number_of plan (name_of client i)) (next_id message.last))
        (one_isnt last k (suc i) sent later (omega (arith, to)) none)
  ] where
    at_or : (n m : ℕ) → m ≤ n → (n ≡ m) ⊎ (suc m ≤ n)
    at_or n m least = search arith

-- the error for what can't be a message, where it stands behind all answers
abbrev pub error_on : Ground → tales.Client → List ℕ
error_on g client =
    if is_some (messages_of (talk_of g.plan client)).fault
    && (nat_eq client.taken (length (messages g.plan client)) && is_answered g.plan g.tale (view_on g) client client.taken)
    then last_error g.plan client else []

-- Of a client that goes on all is answered but maybe its last message.

module _ (g : Ground) (t : Tabled) (client : tales.Client) (has : HasRow g t client) (within : client.taken ≤ length (messages g.plan client)) where
  abbrev replies : MessageName → Option Reply
  replies = (view_on g).replies

  abbrev due_with : List ℕ → List ℕ
  due_with last = due_for replies g.plan g.tale.moment client last 1 (take client.taken (messages g.plan client))

  abbrev answered : Bool
  answered = is_answered g.plan g.tale (view_on g) client client.taken

  abbrev faulty : Bool
  faulty = is_some (messages_of (talk_of g.plan client)).fault

  abbrev error : List ℕ
  error = error_on g client

  count : length (take client.taken (messages g.plan client)) ≡ client.taken
  count = length-take-le client.taken (messages g.plan client) within

  by_ordinal : (ordinal : ℕ) → 0 < ordinal
      → is_answered g.plan g.tale (view_on g) client ordinal ≡ is_there replies g.plan g.tale.moment client ordinal
  by_ordinal zero some = absurd (omega (arith, some))
  by_ordinal (suc n) some = refl

  earlier_or : (k : ℕ) → k < suc client.taken → (k < client.taken) ⊎ (k ≡ client.taken)
  earlier_or k below = search arith

  each_there : answered ≡ true → (k : ℕ) → 1 ≤ k → k < 1 + length (take client.taken (messages g.plan client))
      → is_there replies g.plan g.tale.moment client k ≡ true
  each_there all k from to =
      sym (by_ordinal k from)
      ∙ elim (earlier_or k (omega (arith, to, count))) as (λ e. is_answered g.plan g.tale (view_on g) client k ≡ true) [
        | inl earlier ↦ has.going.earlier k earlier
        | inr last ↦ ap (is_answered g.plan g.tale (view_on g) client) last ∙ all
      ]

  taken_some : answered ≡ false → 0 < client.taken
  taken_some none = by client.taken refl where
    by : (n : ℕ) → client.taken ≡ n → 0 < client.taken
    by zero is = absurd (true≢false (sym (ap (is_answered g.plan g.tale (view_on g) client) is) ∙ none))
    by (suc n) is = omega (arith, is)

  stops : answered ≡ false → due_with (error_behind g.plan client) ≡ due_with []
  stops none =
      let some : 0 < client.taken = taken_some none in
      one_isnt replies g.plan g.tale.moment client (error_behind g.plan client) client.taken 1 (take client.taken (messages g.plan client))
      (omega (arith, some)) (omega (arith, count)) (sym (by_ordinal client.taken some) ∙ none)

  -- nothing stands behind all answers where there is no fault
  error_by : (fault : Option FrameFault) (all : Bool)
      → (if all then fault_answer g.plan.service.limit fault else []) ≡ (if is_some fault && (all && true) then fault_answer g.plan.service.limit fault else [])
  error_by None true = refl
  error_by None false = refl
  error_by (Some fault) true = refl
  error_by (Some fault) false = refl

  none_by : (fault all : Bool) → (if fault && (all && false) then last_error g.plan client else []) ≡ []
  none_by true true = refl
  none_by true false = refl
  none_by false all = refl

  due_split : (there : Bool) → answered ≡ there → due_with (error_behind g.plan client) ≡ due_with [] ++ error
  due_split true all =
      all_there replies g.plan g.tale.moment client (error_behind g.plan client) 1 (take client.taken (messages g.plan client)) (each_there all)
      ∙ ap (λ (bytes : List ℕ). due_with [] ++ bytes) (
      error_by (messages_of (talk_of g.plan client)).fault (nat_eq client.taken (length (messages g.plan client)))
      ∙ ap (λ (b : Bool). if faulty && (nat_eq client.taken (length (messages g.plan client)) && b) then last_error g.plan client else []) (sym all)
      )
  due_split false none =
      stops none ∙ sym (append-nil (due_with []))
      ∙ ap (λ (bytes : List ℕ). due_with [] ++ bytes) (
      sym (none_by faulty (nat_eq client.taken (length (messages g.plan client))))
      ∙ ap (λ (b : Bool). if faulty && (nat_eq client.taken (length (messages g.plan client)) && b) then last_error g.plan client else []) (sym none)
      )

  until_is : due_until replies g.plan g.tale.moment client ≡ due_so_far (known_on g) client ++ error
  until_is =
      ap (λ (bytes : List ℕ). front (talk_of g.plan client) ++ bytes) (due_split answered refl)
      ∙ sym (append_assoc (front (talk_of g.plan client)) (due_with []) error)

  pub due_is : word_at g.plan g.tale.moment client.number ≡ None
      → due_bytes replies g.plan g.tale.moment client ≡ due_so_far (known_on g) client ++ error
  due_is silent =
      ap (with_word (talk_of g.plan client) (due_until replies g.plan g.tale.moment client)) silent ∙ until_is

-- Its link is its own, and no server's.

module _ (g : Ground) (t : Tabled) (client : tales.Client) (has : HasRow g t client) (at : IsAt g t client)
    (servers : IsServerOr g t client.link (t.links client.link)) where
  none_there : t.links client.link ≡ None
  none_there = subst (λ (b : Bool). IsServerBy b g t client.link (t.links client.link)) at.aside servers

  found : t.numbers client.link ≡ Some client.number
  found = at.found (ap (λ (row : Option Client). is_some row) has.there)

  same_link : (one other : LinkId) → one ≡ other → nat_eq one.0 other.0 ≡ true
  same_link one other same = subst (λ (l : LinkId). nat_eq one.0 l.0 ≡ true) same (grind (arith, nat_tests))

  own : is_own client.link has.row ≡ true
  own = same_link has.row.desk.seat.link client.link has.stands.who.link

  pub reads_own : reads_in t client.link ≡ wants_read has.row.desk.seat
  reads_own =
      ap (λ (s : Option Server). reads_by s t client.link) none_there ∙ ap (reads_client t client.link) found
      ∙ ap (λ (row : Option Client). option_map_or (reads_row client.link) row false) has.there
      ∙ ap (λ (b : Bool). b && wants_read has.row.desk.seat) own

  clients_is : is_clients t client.link (t.numbers client.link) ≡ true
  clients_is = ap (is_clients t client.link) found ∙ ap (is_own_of client.link) has.there ∙ own

  abbrev reply_of : Option ClientNo → Option Sent
  reply_of number =
      option_map_or (λ (c : ClientNo). option_map_or (λ (row : Client). as_reply row.desk.seat.outbox.due) (t.clients c) None) number None

  pub sends_own : sends_in t client.link ≡ as_reply has.row.desk.seat.outbox.due
  sends_own =
      ap (λ (s : Option Server). sends_by s t client.link) none_there
      ∙ ap (λ (b : Bool). if b then passing.sends client.link t else None) clients_is
      ∙ ap (λ (s : Option Server). passing.sends_by s client.link t) none_there ∙ ap reply_of found
      ∙ ap (λ (row : Option Client). option_map_or (λ (other : Client). as_reply other.desk.seat.outbox.due) row None) has.there

-- What is to be written is due: where nothing is, all is written.

some_sent : (bytes : List ℕ) → 0 < length bytes → IsSome (as_reply bytes)
some_sent bytes some =
    let sent : Sent = record { tag = tags.Reply; bytes = bytes } in
    let found : Bool → Option Sent = λ b. if b then Some sent else None in
    subst (λ (b : Bool). IsSome (found b)) (sym (lt-ltb 0 (length bytes) some)) refl

owed_by : (g : Ground) (client : tales.Client) (seat : Seat) (at : Phase) (fresh : Bool) → fresh ≡ false → is_ended at ≡ false
    → IsOwing at fresh g client seat → IsWrittenOf client seat (due_so_far (known_on g) client)
owed_by g client seat phase.LoggingIn true old going owing = absurd (true≢false old)
owed_by g client seat phase.LoggingIn false old going owing = owing
owed_by g client seat (phase.Serving account) fresh old going owing = owing
owed_by g client seat phase.Ended fresh old going owing = absurd (true≢false going)

module _ (g : Ground) (t : Tabled) (log : Log) (client : tales.Client) (has : HasRow g t client) (at : IsAt g t client)
    (servers : IsServerOr g t client.link (t.links client.link)) (looked : g.fresh client.number ≡ false)
    (to : IsWrittenTo g log client) (silent : word_at g.plan g.tale.moment client.number ≡ None) where
  owed : IsWrittenOf client has.row.desk.seat (due_so_far (known_on g) client)
  owed = owed_by g client has.row.desk.seat has.row.desk.seat.phase (g.fresh client.number) looked has.goes has.stands.owed

  written_front : IsFront (written_of client.link log) (due_so_far (known_on g) client)
  written_front =
      subst (λ (b : Bool). IsFront (written_of client.link log) (due_by b (known_on g) client)) has.going.going to.front

  all_written : has.row.desk.seat.outbox.due ≡ [] → written_of client.link log ≡ due_so_far (known_on g) client
  all_written none =
      let all : due_so_far (known_on g) client ≡ owed.written =
      owed.all ∙ ap (λ (bytes : List ℕ). owed.written ++ bytes) none ∙ append-nil owed.written in
      fronts_same (written_of client.link log) owed.written (due_so_far (known_on g) client) written_front
      (record { rest = []; is = append-nil owed.written ∙ sym all }) (to.size ∙ sym owed.size)
      ∙ sym all

  -- all that it is due is written but its error, or there is more for its link
  pub told_or : (written_of client.link log ++ error_on g client ≡ due_bytes (view_on g).replies g.plan g.tale.moment client)
      ⊎ IsSome (sends_in t client.link)
  told_or = by has.row.desk.seat.outbox.due refl where
    by : (due : List ℕ) → has.row.desk.seat.outbox.due ≡ due
        → (written_of client.link log ++ error_on g client ≡ due_bytes (view_on g).replies g.plan g.tale.moment client) ⊎ IsSome (sends_in t client.link)
    by [] is =
        inl (ap (λ (bytes : List ℕ). bytes ++ error_on g client) (all_written is)
        ∙ sym (due_is g t client has (row_within g client has.row has.stands has.going.going) silent))
    by (byte ∷ bytes) is =
        inr (subst (λ (sent : Option Sent). IsSome sent) (sym (sends_own g t client has at servers ∙ ap as_reply is))
        (some_sent (byte ∷ bytes) (omega arith)))
