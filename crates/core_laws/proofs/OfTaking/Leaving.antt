-- A client leaves its sessions as its message is taken up: it begins anew, or it ends.
use Rattle.std.specs.Prelude.{◌≡◌, ◌<◌, ℕ, suc, ◌+◌, Bool, true, false, if◌then◌else◌, is_some, length, nat_eq, take, List, [], ◌∷◌, ◌++◌, Option, Some, None}
use Rattle.std.specs.Option.{option_map_or}
use Rattle.std.proofs.Common.{refl, sym, ap, ◌∙◌, subst, append-nil, arith}
use Rattle.std.proofs.lemmas.Option.{slice_get_within}
use Rattle.packet_frame.specs.Packets.{Framed, next_id}
use Rattle.client_session.specs.Answers.{front}
use Rattle.private_model.proofs.Maps.{same_number}
use Rattle.private_model.specs.Names.{ClientNo}
use Rattle.private_model.specs.Story.{Left}
use Rattle.private_model.specs.View.{view_step}
use Rattle.log_story.specs.Honest.{IsFront}
use Rattle.log_story.specs.Owed.{due_bytes, error_behind, last_error, messages, name_of, number_of, talk_of, with_word}
use Rattle.log_story.specs.Plan.{word_at}
use Rattle.log_story.specs.Tale as tales
use Rattle.log_story.specs.Tale.{tell, with_client}
use Rattle.step_laws.specs.Taken.{next_of}
use Rattle.stmt_map.specs.declared.client.ClientStatements.{ClientStatements}
use Rattle.client_seat.proofs.Owing.{due_from, step, told_by}
use Rattle.client_seat.specs.Answers.{grown, replied}
use Rattle.client_seat.specs.Seats.{ended}
use Rattle.client_seat.specs.Stands.{IsHeardIn, IsNext, IsWrittenOf, Known, answer_by, answer_to, due_so_far}
use Rattle.client_seat.specs.Takings.{begun_anew, passed}
use Rattle.client_seat.specs.declared.phase.Phase.{Phase}
use Rattle.client_seat.specs.declared.phase.Phase.TheVariants as phase
use Rattle.client_seat.specs.declared.seat.Seat.{Seat}
use Rattle.client_desk.specs.Desks.{left}
use Rattle.desk_laws.proofs.Dues.{due_before}
use Rattle.desk_laws.specs.Stands.{IsPlaced}
use Rattle.core_tables.specs.Arrivals.{seated}
use Rattle.core_tables.specs.Parting.{left_in, left_row, parted_in}
use Rattle.core_tables.specs.Tables.{IsSame, Tabled, client_put}
use Rattle.core_tables.specs.Taking.{answers, passes, passes_found}
use Rattle.core_tables.specs.declared.client.Client.{Client}
use Rattle.core_stands.specs.Clients.{IsClient, IsOwing}
use Rattle.core_stands.specs.Grounds.{Ground, ending, known_on, on, view_on}
use Rattle.core_laws.specs.parting.Partings.{IsAnew, IsEnding, IsLeaving}
use Rattle.core_laws.specs.taking.Takes.{is_reset, own_of}
use Rattle.core_laws.proofs.OfTaking.Behind.{IsFound, Seats, nothing_coming, owed}
use Rattle.core_laws.proofs.OfTaking.Owing.{due_size}

-- Tables.

pub same_along : (a b c : Tabled) → IsSame a b → IsSame b c → IsSame a c
same_along a b c one other = record {
  clients = λ x. one.clients x ∙ other.clients x;
  numbers = λ l. one.numbers l ∙ other.numbers l;
  links = λ l. one.links l ∙ other.links l;
}

module _ (t : Tabled) (client : tales.Client) (row : Client) (there : t.clients client.number ≡ Some row) where
  left_is : (by : Seat → Seat)
      → left_in client.number by t ≡ client_put client.number (Some (left_row by row)) (parted_in row.desk.sessions t)
  left_is by =
      ap (λ (found : Option Client). option_map_or (λ (x : Client). client_put client.number (Some (left_row by x)) (parted_in x.desk.sessions t)) found t) there

  pub left_there : (by : Seat → Seat) → (left_in client.number by t).clients client.number ≡ Some (left_row by row)
  left_there by =
      ap (λ (x : Tabled). x.clients client.number) (left_is by)
      ∙ ap (λ (b : Bool). if b then Some (left_row by row) else (parted_in row.desk.sessions t).clients client.number) (same_number client.number.0)

  -- whatever its seat becomes as it leaves, its row may be put there behind
  pub put_behind : (by other : Seat → Seat) (new : Client)
      → IsSame (client_put client.number (Some new) (left_in client.number by t)) (client_put client.number (Some new) (left_in client.number other t))
  put_behind by other new = record {
    clients = λ x. at x (nat_eq client.number.0 x.0) refl;
    numbers = λ l. ap (λ (x : Tabled). x.numbers l) (left_is by) ∙ ap (λ (x : Tabled). x.numbers l) (sym (left_is other));
    links = λ l. ap (λ (x : Tabled). x.links l) (left_is by) ∙ ap (λ (x : Tabled). x.links l) (sym (left_is other));
  } where
    beside : (f : Seat → Seat) (x : ClientNo) → nat_eq client.number.0 x.0 ≡ false
        → (left_in client.number f t).clients x ≡ (parted_in row.desk.sessions t).clients x
    beside f x apart =
        ap (λ (y : Tabled). y.clients x) (left_is f)
        ∙ ap (λ (b : Bool). if b then Some (left_row f row) else (parted_in row.desk.sessions t).clients x) apart

    at : (x : ClientNo) (b : Bool) → nat_eq client.number.0 x.0 ≡ b
        → (if b then Some new else (left_in client.number by t).clients x) ≡ (if b then Some new else (left_in client.number other t).clients x)
    at x true e = refl
    at x false e = beside by x e ∙ sym (beside other x e)

-- It begins anew.

module _ (flag : ℕ) (packets : List ℕ) (statements : ClientStatements) (row : Client) (message : Framed)
    (found : row.desk.seat.client.framer.found ≡ Some message) where
  abbrev pub anew_row : Client
  anew_row = record row {
    desk = record (left row.desk) { seat = replied (grown packets (record (passed flag message (begun_anew row.desk.seat)) { statements = statements })) };
    went = None;
  }

  pub anew_is : is_reset message ≡ true → answers flag packets statements (left_row (λ (seat : Seat). seat) row) ≡ anew_row
  anew_is reset =
      ap (λ (f : Option Framed). seated (λ (s : Seat). replied (grown packets s)) (passes_found flag statements f (left_row (λ (seat : Seat). seat) row))) found
      ∙ ap (λ (b : Bool). record row {
        desk = record (left row.desk) {
          seat = replied (grown packets (record (passed flag message (if b then begun_anew row.desk.seat else row.desk.seat)) { statements = statements }));
        };
        went = None;
      }) reset

module _ (flag : ℕ) (statements : ClientStatements) (row : Client) (message : Framed)
    (found : row.desk.seat.client.framer.found ≡ Some message) where
  abbrev pub quit_row : Client
  quit_row = record row {
    desk = record (left row.desk) { seat = record (passed flag message (ended row.desk.seat)) { statements = statements } };
    went = None;
  }

  pub quit_is : is_reset message ≡ false → passes flag statements (left_row ended row) ≡ quit_row
  quit_is plain =
      ap (λ (f : Option Framed). passes_found flag statements f (left_row ended row)) found
      ∙ ap (λ (b : Bool). record row {
        desk = record (left row.desk) {
          seat = record (passed flag message (if b then begun_anew (ended row.desk.seat) else ended row.desk.seat)) { statements = statements };
        };
        went = None;
      }) plain

module _ (g : Ground) (client : tales.Client) (row : Client) (is : IsClient g client row) (up : IsFound g.plan client row.desk.seat) where
  abbrev pub gone : Ground
  gone = on g (tell (Left client.number) g.tale)

  -- the seat as it begins anew
  abbrev pub anew_found : IsFound g.plan client (begun_anew row.desk.seat)
  anew_found = record {
    account = up.account;
    serves = up.serves;
    served = record {
      limit = up.served.limit;
      known = up.served.known;
      logged_in = up.served.logged_in;
      faultless = up.served.faultless;
      arrived = up.served.arrived;
      gone = up.served.gone;
      size = up.served.size;
      rest = up.served.rest;
    };
    message = up.message;
    rest = up.rest;
    whole = up.whole;
    found = up.found;
    next = up.next;
    answered = up.answered;
    first = up.first;
  }

  pub is_anew : IsAnew row.desk.seat (begun_anew row.desk.seat)
  is_anew = record {
    login = up.account;
    served = up.serves;
    serves = up.serves;
    idle = up.answered;
    answered = up.answered;
    coming = nothing_coming g client row is up;
    collation = refl;
    statements = refl;
  }

  pub leaves_anew : (view_step g.setup (view_on g) (Left client.number)).places client.number ≡ (begun_anew row.desk.seat).place
      → IsLeaving gone client (begun_anew row.desk.seat)
  leaves_anew stands = record {
    who = record { link = is.who.link; number = is.who.number; port = is.who.port; salt = is.who.salt; drained = is.who.drained };
    heard = subst (λ (at : Phase). IsHeardIn at g.plan client (begun_anew row.desk.seat)) (sym up.serves) anew_found.served;
    owed = subst (λ (at : Phase). IsOwing at (g.fresh client.number) gone client (begun_anew row.desk.seat)) (sym up.serves) written;
    placed = subst (λ (at : Phase). IsPlaced at (view_on gone) client.number (begun_anew row.desk.seat).place) (sym up.serves) stands;
  } where
    written : IsWrittenOf client (begun_anew row.desk.seat) (due_so_far (known_on g) client)
    written = let was = owed g client row is up in record { written = was.written; size = was.size; all = was.all }

-- It ends: nothing stands behind what it was answered.

module _ (x : Known) (client : tales.Client) (message : Framed) (next : IsNext x.plan client message) where
  due_stops : (last : List ℕ) (i : ℕ) (sent : List Framed) → answer_to x client (i + length sent) message ≡ None
      → due_from x client last i (sent ++ message ∷ []) ≡ due_from x client [] i sent
  due_stops last i [] none =
      step x client last i message []
      ∙ ap (λ (answer : Option (List ℕ)). told_by answer last) (ap (λ (k : ℕ). answer_to x client k message) (omega arith) ∙ none)
  due_stops last i (other ∷ sent) none =
      step x client last i other (sent ++ message ∷ [])
      ∙ ap (told_by (answer_to x client i other)) (due_stops last (suc i) sent (ap (λ (k : ℕ). answer_to x client k message) (omega arith) ∙ none))
      ∙ sym (step x client [] i other sent)

  abbrev before : List Framed
  before = take client.taken (messages x.plan client)

  no_error : error_behind x.plan client ≡ []
  no_error =
      let within : client.taken < length (messages x.plan client) = slice_get_within (messages x.plan client) client.taken message next.next in
      ap (λ (b : Bool). if b then last_error x.plan client else []) (apart client.taken (length (messages x.plan client)) within) where
        apart : (a b : ℕ) → a < b → nat_eq a b ≡ false
        apart a b below = grind arith

  module _ (wordless : word_at x.plan x.moment client.number ≡ None) where
    worded : (due : List ℕ) → with_word (talk_of x.plan client) due (word_at x.plan x.moment client.number) ≡ due
    worded due = ap (with_word (talk_of x.plan client) due) wordless

    pub all_due : due_bytes x.view.replies x.plan x.moment client ≡ due_so_far x client
    all_due =
        worded (front (talk_of x.plan client) ++ due_from x client (error_behind x.plan client) 1 before)
        ∙ ap (λ (error : List ℕ). front (talk_of x.plan client) ++ due_from x client error 1 before) no_error

    pub due_still : answer_to x client (suc client.taken) message ≡ None
        → due_bytes x.view.replies x.plan x.moment (next_of client) ≡ due_bytes x.view.replies x.plan x.moment client
    due_still none =
        worded (front (talk_of x.plan client)
        ++ due_from x client (error_behind x.plan (next_of client)) 1 (take (suc client.taken) (messages x.plan client)))
        ∙ ap (λ (xs : List Framed). front (talk_of x.plan client) ++ due_from x client (error_behind x.plan (next_of client)) 1 xs) next.before
        ∙ ap (λ (due : List ℕ). front (talk_of x.plan client) ++ due)
        (due_stops (error_behind x.plan (next_of client)) 1 before
        (ap (λ (k : ℕ). answer_to x client k message) (omega (arith, due_size x client message next)) ∙ none))
        ∙ sym all_due

whole_front : (front whole : List ℕ) → whole ≡ front → IsFront front whole
whole_front front whole same = record { rest = []; is = append-nil front ∙ sym same }

module _ (g : Ground) (client : tales.Client) (row : Client) (is : IsClient g client row) (up : IsFound g.plan client row.desk.seat)
    (wordless : word_at g.plan g.tale.moment client.number ≡ None) where
  abbrev pub over : Ground
  over = ending client.number (on g (tell (Left client.number) g.tale))

  pub leaves_ended : IsLeaving (on g (tell (Left client.number) g.tale)) client (ended row.desk.seat)
  leaves_ended = record {
    who = record { link = is.who.link; number = is.who.number; port = is.who.port; salt = is.who.salt; drained = is.who.drained };
    heard = tt;
    owed =
        let was = owed g client row is up in
        record {
          written = was.written;
          size = was.size;
          front = whole_front _ _ (all_due (known_on g) client up.message up.next wordless ∙ was.all);
        };
    placed = tt;
  }

  pub ends_so : IsEnding (on g (tell (Left client.number) g.tale)) client (ended row.desk.seat)
  ends_so = record { ended = refl; told = λ some. let no : false ≡ true = sym (ap is_some wordless) ∙ some in absurd (cc) }

  module _ (flag : ℕ) (statements : ClientStatements) (now : IsClient over client (left_row ended row)) (own : own_of g client ≡ None)
      (seats : Seats) where
    abbrev quits : Client
    quits = quit_row flag statements row up.message up.found

    no_answer : answer_to (known_on over) client (suc client.taken) up.message ≡ None
    no_answer = λ i. answer_by (own i) (is.coming.unanswered (suc client.taken) (omega arith) i)
        (number_of g.plan (name_of client (suc client.taken))) (next_id up.message.last)

    pub quit_stands : IsClient (on over (with_client (next_of client) over.tale)) (next_of client) quits
    quit_stands = record {
      who = record { link = is.who.link; number = is.who.number; port = is.who.port; salt = is.who.salt; drained = is.who.drained };
      heard = tt;
      owed = record {
        written = now.owed.written;
        size = now.owed.size;
        front = subst (IsFront (now.owed.written ++ quits.desk.seat.outbox.due))
            (sym (due_still (known_on over) client up.message up.next wordless no_answer)) now.owed.front;
      };
      desk = seats g.setup.reads (view_on over) client.number (left_row ended row).desk now.desk quits.desk.seat refl refl tt;
      coming = record {
        unsent = λ ordinal below. now.coming.unsent ordinal (omega arith);
        unanswered = λ ordinal below. now.coming.unanswered ordinal (omega arith);
        due = due_before (view_on over).dues (view_on over).carriers client.number (suc client.taken) now.coming.due (suc (suc client.taken)) (omega arith);
      };
      phase = record {
        over = now.phase.over;
        idle = now.phase.idle;
        told = λ some. let no : false ≡ true = sym (ap is_some wordless) ∙ some in absurd (cc);
        homeless = now.phase.homeless;
      };
    }
