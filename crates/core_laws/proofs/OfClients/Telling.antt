-- A client that is served and waits for nothing is told its last word, and ends: that is what it is due by the plan.
use Rattle.std.specs.Prelude.{◌≡◌, ◌≤◌, ◌<◌, ◌⊎◌, ◌++◌, ℕ, zero, suc, Bool, true, false, not, All, if◌then◌else◌, is_some, length, nat_eq, take, List, [], ◌∷◌, Option, Some, None}
use Rattle.std.specs.Option.{option_map, option_map_or}
use Rattle.std.proofs.Common.{refl, sym, ap, ◌∙◌, subst, arith, append-nil, append_assoc, inl, inr}
use Rattle.std.proofs.lemmas.Bool.{false≢true, true≢false}
use Rattle.std.proofs.lemmas.Option.{none-some, same_Some}
use Rattle.client_session.specs.Answers.{fault_answer, front, messages_of}
use Rattle.client_session.specs.Setups.{Setup as Service}
use Rattle.packet_frame.specs.Laws.{split-nothing, split-whole}
use Rattle.packet_frame.specs.Packets.{Found, Framed, Split, first_message, id_of_answer, spelling, spellings, split, with_front}
use Rattle.packet_frame.specs.Packets.Found.{Faulty, Nothing, Whole}
use Rattle.packet_frame.specs.declared.fault.FrameFault.{FrameFault}
use Rattle.server_side.specs.Account.{Account as Login}
use Rattle.client_side.specs.Client.{ClientState}
use Rattle.client_side.specs.declared.stage.Stage.{Stage}
use Rattle.client_side.specs.declared.stage.Stage.TheVariants as stage
use Rattle.private_model.specs.Names.{ClientNo}
use Rattle.private_model.specs.Story.{Left}
use Rattle.log_story.specs.Clients.{is_answered}
use Rattle.log_story.specs.Honest.{IsFront}
use Rattle.log_story.specs.Owed.{due_bytes, due_for, due_until, error_behind, last_error, messages, talk_of, with_word as with_last, word_in}
use Rattle.log_story.specs.Plan.{Behind, LastWord, WordPlace, word_at}
use Rattle.log_story.specs.Tale as tales
use Rattle.log_story.specs.Tale.{Tale, tell}
use Rattle.client_seat.specs.Seats.{account_in, ended, is_ended}
use Rattle.client_seat.specs.Stands.{IsHeardIn, IsServed, IsWrittenOf, due_so_far}
use Rattle.client_seat.specs.Words.{behind_by, behind_in, behind_messages, with_word, word_id, word_id_in}
use Rattle.client_seat.specs.declared.phase.Phase.{Phase}
use Rattle.client_seat.specs.declared.phase.Phase.TheVariants as phase
use Rattle.client_seat.specs.declared.seat.Seat.{Seat}
use Rattle.step_laws.specs.Seats.{IsSeated}
use Rattle.core_tables.specs.Arrivals.{seated}
use Rattle.core_tables.specs.Parting.{kept_at, left_in, left_row, parted_in, with_kept}
use Rattle.core_tables.specs.Tables.{IsSame, Tabled, client_changed, client_put}
use Rattle.core_tables.specs.declared.client.Client.{Client}
use Rattle.core_tables.specs.declared.server.Server.{Server}
use Rattle.core_stands.specs.Clients.{IsClient, IsFrontOf, IsGoing, IsOwing}
use Rattle.core_stands.specs.Grounds.{Ground, ending, known_on, on, view_on}
use Rattle.core_stands.specs.Stands.{Stands}
use Rattle.core_laws.specs.parting.Partings.{HasLives, IsEnding, IsLeaving}
use Rattle.core_laws.proofs.OfClients.Facts.{has_lives, its_going, its_row}
use Rattle.core_laws.specs.clients.Following.{StandTold}
use Rattle.core_laws.specs.clients.Follows.{IsUnfaulty, LeavesTold}
use Rattle.core_laws.specs.clients.Turns.{MayLeave}

-- Tables in which it was told and left are those in which it left so.

abbrev pub told_seat : (payload : List ℕ) → ClientState → Seat → Seat
told_seat payload client seat = ended (with_word payload client seat)

left_at : (c : ClientNo) (by : Seat → Seat) (t : Tabled) (row : Client) → t.clients c ≡ Some row
    → left_in c by t ≡ client_put c (Some (left_row by row)) (parted_in row.desk.sessions t)
left_at c by t row at =
    ap (λ (found : Option Client). option_map_or (λ (r : Client). client_put c (Some (left_row by r)) (parted_in r.desk.sessions t)) found t) at

put_client : (c other : ClientNo) (row : Option Client) (x y : Option Client) (b : Bool) → nat_eq c.0 other.0 ≡ b
    → x ≡ (if nat_eq c.0 other.0 then row else y) → (a : Option Client) → (if b then a else x) ≡ (if b then a else y)
put_client c other row x y true at same a = refl
put_client c other row x y false at same a = same ∙ ap (λ (b : Bool). if b then row else y) at

module _ (payload : List ℕ) (c : ClientNo) (old new : Tabled) (so : LeavesTold payload c old new) where
  abbrev word : Seat → Seat
  word = with_word payload so.told.client

  row_told : so.leaves.row ≡ seated word so.row
  row_told =
      same_Some so.leaves.row (seated word so.row)
      (sym so.leaves.there ∙ so.told.same.clients c ∙ ap (λ (b : Bool). if b then option_map (seated word) (old.clients c) else old.clients c) (itself c)
      ∙ ap (option_map (seated word)) so.there)
    where
      itself : (k : ClientNo) → nat_eq k.0 k.0 ≡ true
      itself k = search arith

  abbrev sessions_of : Client → Tabled → Tabled
  sessions_of row t = parted_in row.desk.sessions t

  told_same : IsSame (client_put c (Some (left_row ended (seated word so.row))) (sessions_of so.row so.between))
      (client_put c (Some (left_row (told_seat payload so.told.client) so.row)) (sessions_of so.row old))
  told_same = record {
    clients = λ other.
        put_client c other (option_map (seated word) (old.clients c)) (so.between.clients other) (old.clients other) (nat_eq c.0 other.0) refl
        (so.told.same.clients other) (Some (left_row (told_seat payload so.told.client) so.row));
    numbers = λ l. so.told.same.numbers l;
    links = λ l. ap (option_map (with_kept (kept_at l so.row.desk.sessions))) (so.told.same.links l);
  }

  pub may_leave : MayLeave so.row
  may_leave = subst MayLeave row_told so.leaves.lives

  pub left_told : IsSame new (left_in c (told_seat payload so.told.client) old)
  left_told =
      let first : left_in c ended so.between ≡ client_put c (Some (left_row ended (seated word so.row))) (sessions_of so.row so.between) =
      left_at c ended so.between (seated word so.row) (so.leaves.there ∙ ap Some row_told) in
      let last : left_in c (told_seat payload so.told.client) old
      ≡ client_put c (Some (left_row (told_seat payload so.told.client) so.row)) (sessions_of so.row old) =
      left_at c (told_seat payload so.told.client) old so.row so.there in
      record {
        clients = λ other. so.leaves.same.clients other ∙ ap (λ (t : Tabled). t.clients other) first ∙ told_same.clients other
            ∙ ap (λ (t : Tabled). t.clients other) (sym last);
        numbers = λ l. so.leaves.same.numbers l ∙ ap (λ (t : Tabled). t.numbers l) first ∙ told_same.numbers l
            ∙ ap (λ (t : Tabled). t.numbers l) (sym last);
        links = λ l. so.leaves.same.links l ∙ ap (λ (t : Tabled). t.links l) first ∙ told_same.links l
            ∙ ap (λ (t : Tabled). t.links l) (sym last);
      }

-- What it is due then.

serves_as : (at : Phase) → is_some (account_in at) ≡ true → (login : Login) × (at ≡ phase.Serving login)
serves_as phase.LoggingIn is = absurd (false≢true is)
serves_as (phase.Serving login) is = (login, refl)
serves_as phase.Ended is = absurd (false≢true is)

no_more : (front : List Framed) (xs : List Framed) → length (front ++ xs) ≡ length front → (m : Framed) (ys : List Framed) → xs ≡ m ∷ ys → ⊥
no_more [] xs same m ys is = let no : length (m ∷ ys) ≡ 0 = ap (λ (l : List Framed). length l) (sym is) ∙ same in absurd (omega (arith, no))
no_more (x ∷ front) xs same m ys is = no_more front xs (omega (arith, same)) m ys is

module _ (service : Service) (g : Ground) (t : Tabled) (client : tales.Client) (row : Client) (stands : Stands service g t)
    (seated_there : IsSeated g.tale client) (there : t.clients client.number ≡ Some row) (going : g.over client.number ≡ false)
    (serves : is_some (account_in row.desk.seat.phase) ≡ true) (answered : row.desk.seat.answered ≡ true)
    (unfaulty : IsUnfaulty row.desk.seat.client) (payload : List ℕ) (word : LastWord)
    (said : word_at g.plan g.tale.moment client.number ≡ Some word) (behind : word.place ≡ Behind) (is_payload : word.payloads ≡ payload ∷ [])
    (kept : ClientState) where
  abbrev seat : Seat
  seat = row.desk.seat

  abbrev framer_limit : ℕ
  framer_limit = seat.client.framer.limit

  row_is : IsClient g client row
  row_is = its_row service g t client row stands seated_there there

  going_is : IsGoing g client row
  going_is = its_going service g t client row stands seated_there there going

  phase_is : (login : Login) × (seat.phase ≡ phase.Serving login)
  phase_is = serves_as seat.phase serves

  served : IsServed g.plan client seat phase_is.0
  served = subst (λ (at : Phase). IsHeardIn at g.plan client seat) phase_is.1 row_is.heard

  written : IsWrittenOf client seat (due_so_far (known_on g) client)
  written = subst (λ (at : Phase). IsOwing at (g.fresh client.number) g client seat) phase_is.1 row_is.owed

  abbrev split_kept : Split
  split_kept = split g.plan.service.limit 0 seat.client.framer.kept

  abbrev all : Split
  all = messages_of (talk_of g.plan client)

  all_is : all ≡ with_front served.gone split_kept
  all_is = served.rest

  -- no error stands behind

  none_by : (found : Found) → first_message framer_limit 0 seat.client.framer.kept ≡ found → nat_eq client.taken (length all.messages) ≡ true
      → all.fault ≡ None
  none_by Nothing is same =
      ap (λ (s : Split). s.fault) all_is
      ∙ ap (λ (s : Split). s.fault) (split-nothing g.plan.service.limit 0 seat.client.framer.kept
      (ap (λ (n : ℕ). first_message n 0 seat.client.framer.kept) (sym served.limit) ∙ is))
  none_by (Whole message rest) is same =
      let more = ap (λ (s : Split). s.messages) (split-whole g.plan.service.limit 0 seat.client.framer.kept message rest
      (ap (λ (n : ℕ). first_message n 0 seat.client.framer.kept) (sym served.limit) ∙ is)) in
      absurd (no_more served.gone split_kept.messages
      (ap (λ (s : Split). length s.messages) (sym all_is) ∙ sym (eq_of client.taken (length all.messages) same) ∙ sym served.size)
      message (split g.plan.service.limit 0 rest).messages more)
    where
      eq_of : (a b : ℕ) → nat_eq a b ≡ true → a ≡ b
      eq_of a b is = grind arith
  none_by (Faulty fault) is same = absurd (unfaulty served.logged_in served.faultless fault is)

  error_by : (b : Bool) → nat_eq client.taken (length all.messages) ≡ b → (if b then last_error g.plan client else []) ≡ []
  error_by false at = refl
  error_by true at =
      ap (fault_answer g.plan.service.limit) (none_by (first_message framer_limit 0 seat.client.framer.kept) refl at)

  no_error : error_behind g.plan client ≡ []
  no_error = error_by (nat_eq client.taken (length (messages g.plan client))) refl

  -- its id

  id_is : word_id seat ≡ id_of_answer all.rest
  id_is =
      ap (λ (at : Phase). word_id_in at seat) phase_is.1
      ∙ ap (λ (at : Stage). id_of_answer (behind_in at seat.client)) served.logged_in
      ∙ ap (λ (fault : Option FrameFault). id_of_answer (behind_by fault seat.client.framer)) served.faultless
      ∙ ap (λ (n : ℕ). id_of_answer (split n 0 seat.client.framer.kept).rest) served.limit
      ∙ ap (λ (s : Split). id_of_answer s.rest) (sym all_is)

  abbrev so_far : List ℕ
  so_far = due_so_far (known_on g) client

  abbrev last : List ℕ
  last = spelling (word_id seat) payload

  until_is : due_until (view_on g).replies g.plan g.tale.moment client ≡ so_far
  until_is =
      ap (λ (error : List ℕ). front_of ++ due_for (view_on g).replies g.plan g.tale.moment client error 1 (take client.taken (messages g.plan client)))
      no_error
    where
      front_of : List ℕ
      front_of = front (talk_of g.plan client)

  due_is : due_bytes (view_on g).replies g.plan g.tale.moment client ≡ so_far ++ last
  due_is =
      ap (λ (w : Option LastWord). with_last (talk_of g.plan client) (due_until (view_on g).replies g.plan g.tale.moment client) w) said
      ∙ ap (λ (place : WordPlace). word_in (talk_of g.plan client) (due_until (view_on g).replies g.plan g.tale.moment client) place word.payloads) behind
      ∙ (λ i. until_is i ++ spellings (sym id_is i) (is_payload i))
      ∙ ap (λ (bytes : List ℕ). so_far ++ bytes) (append-nil last)

  front_is : IsFrontOf client (told_seat payload kept seat) (due_bytes (view_on g).replies g.plan g.tale.moment client)
  front_is = record {
    written = written.written;
    size = written.size;
    front = record {
      rest = [];
      is = append-nil (written.written ++ (seat.outbox.due ++ last))
          ∙ sym (append_assoc written.written seat.outbox.due last) ∙ ap (λ (bytes : List ℕ). bytes ++ last) (sym written.all) ∙ sym due_is;
    };
  }

  abbrev after : Ground
  after = on g (tell (Left client.number) g.tale)

  pub leaves_told : kept.number ≡ seat.client.number → kept.salt ≡ seat.client.salt → kept.outgoing ≡ []
      → IsLeaving after client (told_seat payload kept seat)
  leaves_told number salt drained = record {
    who = record { link = row_is.who.link; number = number ∙ row_is.who.number; port = row_is.who.port; salt = salt ∙ row_is.who.salt; drained = drained };
    heard = tt;
    owed = record { written = front_is.written; size = front_is.size; front = front_is.front };
    placed = tt;
  }

  answered_by : (ordinal : ℕ) → (ordinal < client.taken) ⊎ (ordinal ≡ client.taken) → is_answered g.plan g.tale (view_on g) client ordinal ≡ true
  answered_by ordinal (inl before) = going_is.earlier ordinal before
  answered_by ordinal (inr same) =
      ap (λ (k : ℕ). is_answered g.plan g.tale (view_on g) client k) same ∙ sym going_is.answered ∙ answered

  either : (a b : ℕ) → a ≤ b → (a < b) ⊎ (a ≡ b)
  either a b le = search arith

  answered_all : (ordinal : ℕ) → ordinal ≤ client.taken → is_answered g.plan g.tale (view_on g) client ordinal ≡ true
  answered_all ordinal within = answered_by ordinal (either ordinal client.taken within)

  pub ends_told : ((ordinal : ℕ) → ordinal ≤ client.taken → is_answered g.plan g.tale (view_on g) client ordinal ≡ true
      → is_answered g.plan after.tale (view_on after) client ordinal ≡ true) → IsEnding after client (told_seat payload kept seat)
  ends_told stays = record { ended = refl; told = λ worded ordinal within. stays ordinal within (answered_all ordinal within) }

-- as it leaves its messages stay answered
stays_answered : (g : Ground) (c : ClientNo) (client : tales.Client) (ordinal : ℕ) → is_answered g.plan g.tale (view_on g) client ordinal ≡ true
    → is_answered g.plan (tell (Left c) g.tale) (view_on (on g (tell (Left c) g.tale))) client ordinal ≡ true
stays_answered g c client zero is = refl
stays_answered g c client (suc ordinal) is = is

abbrev pub LeavingLaw : Type 0
LeavingLaw =
    (service : Service) (g : Ground) (t : Tabled) (client : tales.Client) (row : Client) (by : Seat → Seat) → Stands service g t
    → IsSeated g.tale client → t.clients client.number ≡ Some row
    → HasLives (view_on g) client.number
    → IsLeaving (on g (tell (Left client.number) g.tale)) client (by row.desk.seat)
    → IsEnding (on g (tell (Left client.number) g.tale)) client (by row.desk.seat)
    → Stands service (ending client.number (on g (tell (Left client.number) g.tale))) (left_in client.number by t)

pub stand_told : LeavingLaw → ((service : Service) (g : Ground) (t other : Tabled) → Stands service g t → IsSame other t → Stands service g other)
    → (service : Service) (payload : List ℕ) (g : Ground) (c : ClientNo) (moment : ℕ) (word : LastWord) → g.over c ≡ false
    → word_at g.plan moment c ≡ Some word → word.place ≡ Behind → word.payloads ≡ payload ∷ [] → StandTold payload service g c moment
stand_told leaves same service payload g c moment word going said behind is_payload client tale t now number at seated_there stands so =
    let h : Ground = on g tale in
    let there : t.clients client.number ≡ Some so.row = ap t.clients number ∙ so.there in
    let going_there : g.over client.number ≡ false = ap g.over number ∙ going in
    let said_there : word_at g.plan tale.moment client.number ≡ Some word = (λ i. word_at g.plan (at i) (number i)) ∙ said in
    let row_lives : MayLeave so.row = may_leave payload c t now so in
    same service (ending c (on g (tell (Left c) tale))) (left_in c (told_seat payload so.told.client) t) now
    (subst (λ (n : ClientNo). Stands service (ending n (on g (tell (Left n) tale))) (left_in n (told_seat payload so.told.client) t)) number
    (leaves service h t client so.row (told_seat payload so.told.client) stands seated_there there
    (has_lives service h t client so.row stands seated_there there row_lives)
    (leaves_told service h t client so.row stands seated_there there going_there so.serves so.answered so.unfaulty payload word said_there behind is_payload
    so.told.client so.still_it.number so.still_it.salt so.still_it.drained)
    (ends_told service h t client so.row stands seated_there there going_there so.serves so.answered so.unfaulty payload word said_there behind is_payload
    so.told.client (λ ordinal within is. stays_answered h client.number client ordinal is)))) (left_told payload c t now so)
