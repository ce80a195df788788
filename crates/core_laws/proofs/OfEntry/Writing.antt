-- What was written to clients is due to them, from entry to entry.
use Rattle.std.specs.Prelude.{◌≡◌, ◌⊎◌, ℕ, ◌+◌, Bool, true, false, All, length, take, drop, List, [], ◌∷◌, ◌++◌, Option, None}
use Rattle.std.proofs.Common.{refl, sym, ap, ◌∙◌, subst, append_assoc, append-nil, arith, length-append, inl, inr}
use Rattle.std.proofs.lemmas.Bool.{true≢false}
use Rattle.std.proofs.lemmas.List.{take-append-drop}
use Rattle.mx_wire.specs.Log.{Log, written_of}
use Rattle.mx_wire.specs.declared.entry.Entry.{Entry}
use Rattle.client_seat.specs.Seats.{is_ended}
use Rattle.client_seat.specs.declared.seat.Seat.{Seat}
use Rattle.client_seat.specs.Stands.{IsWrittenOf, Known, due_so_far}
use Rattle.client_seat.specs.declared.phase.Phase.{Phase}
use Rattle.client_seat.specs.declared.phase.Phase.TheVariants as phase
use Rattle.client_session.specs.Answers.{front}
use Rattle.log_story.specs.Headline.{WritesDue, tale_of}
use Rattle.log_story.specs.Honest.{IsFront}
use Rattle.log_story.specs.Owed.{due_bytes, due_until, error_behind, messages, talk_of, with_word}
use Rattle.log_story.specs.Plan.{LastWord, word_at}
use Rattle.log_story.specs.Tale.{Client, Tale, view_of}
use Rattle.log_story.proofs.Writing.{front-trans}
use Rattle.core_tables.specs.declared.client.Client as code
use Rattle.core_stands.specs.Clients.{IsClient, IsFrontOf, IsOwing, IsPhase}
use Rattle.core_stands.specs.Grounds.{Ground, known_on, view_on}
use Rattle.core_laws.proofs.OfEntry.Growing.{front_behind, last_front}
use Rattle.core_laws.proofs.OfEntry.Lists.{seated_of, written_more}
use Rattle.core_laws.specs.entry.Dues.{AreSilent, AreWrittenTo, IsCome, IsGrown, IsWrittenTo, WritesTo, due_by, due_on, written_by}

-- What was written is due at a moment.

until_front : (x : Known) (client : Client) → IsFront (due_so_far x client) (due_until x.view.replies x.plan x.moment client)
until_front x client =
    front_behind (front (talk_of x.plan client)) _ _
    (last_front x client (error_behind x.plan client) 1 (take client.taken (messages x.plan client)))

bytes_front : (over : Bool) (x : Known) (client : Client) → (over ≡ false → word_at x.plan x.moment client.number ≡ None)
    → IsFront (due_by over x client) (due_bytes x.view.replies x.plan x.moment client)
bytes_front true x client silent = record { rest = []; is = append-nil _ }
bytes_front false x client silent =
    subst (λ (word : Option LastWord). IsFront (due_so_far x client)
    (with_word (talk_of x.plan client) (due_until x.view.replies x.plan x.moment client) word)) (sym (silent refl)) (until_front x client)

pub writes_due : (g : Ground) (log : Log) → g.tale ≡ tale_of g.setup g.plan log → AreSilent g → AreWrittenTo g log → WritesDue g.setup g.plan log
writes_due g log is silent to =
    subst (λ (tale : Tale). All (λ (client : Client). IsFront (written_of client.link log)
    (due_bytes (view_of g.setup tale).replies g.plan tale.moment client)) tale.clients) is
    (λ k d within. front-trans _ _ _ (to k d within).front (bytes_front _ (known_on g) _ (silent k d within)))

-- Two fronts of the same size are the same.
pub fronts_same : (a b whole : List ℕ) → IsFront a whole → IsFront b whole → length a ≡ length b → a ≡ b
fronts_same [] [] whole one two same = refl
fronts_same [] (y ∷ b) whole one two same = absurd (omega (arith, same))
fronts_same (x ∷ a) [] whole one two same = absurd (omega (arith, same))
fronts_same (x ∷ a) (y ∷ b) [] one two same = absurd (let none : x ∷ (a ++ one.rest) ≡ [] = one.is in cc)
fronts_same (x ∷ a) (y ∷ b) (z ∷ whole) one two same =
    let heads : x ≡ y = cc in
    let first : a ++ one.rest ≡ whole = let all : x ∷ (a ++ one.rest) ≡ z ∷ whole = one.is in cc in
    let second : b ++ two.rest ≡ whole = let all : y ∷ (b ++ two.rest) ≡ z ∷ whole = two.is in cc in
    let tails : a ≡ b = fronts_same a b whole (record { rest = one.rest; is = first }) (record { rest = two.rest; is = second }) (omega (arith, same)) in
    λ i. heads i ∷ tails i

-- Entry by entry.

module _ (old new : Ground) (log : Log) (e : Entry) (to : AreWrittenTo old log) (goes : WritesTo old log e) where
  grown_to : (client : Client) → IsGrown old new e client → IsWrittenTo new (log ++ e ∷ []) client
  grown_to client is =
      let was : IsWrittenTo old log is.was = seated_of (IsWrittenTo old log) old.tale is.was is.seated to in
      let all : written_of client.link (log ++ e ∷ []) ≡ written_of is.was.link log ++ written_by is.was.link e =
      ap (λ l. written_of l (log ++ e ∷ [])) is.link ∙ written_more is.was.link log e in
      record {
        size = ap length all ∙ length-append (written_of is.was.link log) (written_by is.was.link e)
            ∙ ap (λ (n : ℕ). n + length (written_by is.was.link e)) was.size ∙ sym is.count;
        front = subst (λ (bytes : List ℕ). IsFront bytes (due_on new client)) (sym all)
            (front-trans _ _ _ (goes is.was is.seated) is.due);
        told = is.told;
      }

  come_to : (client : Client) → IsCome log e client → IsWrittenTo new (log ++ e ∷ []) client
  come_to client is = record {
    size = ap length is.none ∙ sym is.count;
    front = subst (λ (bytes : List ℕ). IsFront bytes (due_on new client)) (sym is.none) (record { rest = due_on new client; is = refl });
    told = λ over ordinal message word some within. absurd (omega (arith, some, within, is.untaken));
  }

  either_to : (client : Client) → IsGrown old new e client ⊎ IsCome log e client → IsWrittenTo new (log ++ e ∷ []) client
  either_to client (inl grown) = grown_to client grown
  either_to client (inr come) = come_to client come

  pub all_written : All (λ (client : Client). IsGrown old new e client ⊎ IsCome log e client) new.tale.clients → AreWrittenTo new (log ++ e ∷ [])
  all_written each = λ k d within. either_to _ (each k d within)

-- What is written to a client is what stands first of what is to be written to it.

module _ (client : Client) (seat : Seat) (count : ℕ) (written : List ℕ) (size : length written ≡ client.written) where
  written_front : (due : List ℕ) → IsFrontOf client seat due → IsFront written due → IsFront (written ++ take count seat.outbox.due) due
  written_front due is front =
      let first : IsFront is.written due =
      record { rest = seat.outbox.due ++ is.front.rest; is = sym (append_assoc is.written seat.outbox.due is.front.rest) ∙ is.front.is } in
      let same : is.written ≡ written = fronts_same is.written written due first front (is.size ∙ sym size) in
      let taken : IsFront (written ++ take count seat.outbox.due) (is.written ++ seat.outbox.due) =
      record {
        rest = drop count seat.outbox.due;
        is = append_assoc written (take count seat.outbox.due) (drop count seat.outbox.due)
            ∙ ap (λ (bytes : List ℕ). written ++ bytes) (take-append-drop count seat.outbox.due)
            ∙ ap (λ (bytes : List ℕ). bytes ++ seat.outbox.due) (sym same);
      } in
      front-trans (written ++ take count seat.outbox.due) (is.written ++ seat.outbox.due) due taken is.front

  all_front : (due : List ℕ) → IsWrittenOf client seat due → IsFrontOf client seat due
  all_front due is =
      record { written = is.written; size = is.size; front = record { rest = []; is = append-nil (is.written ++ seat.outbox.due) ∙ sym is.all } }

  by_phase : (g : Ground) (at : Phase) (fresh : Bool) → fresh ≡ false → IsOwing at fresh g client seat
      → IsFront written (due_by (is_ended at) (known_on g) client)
      → IsFront (written ++ take count seat.outbox.due) (due_by (is_ended at) (known_on g) client)
  by_phase g phase.LoggingIn true old is front = absurd (true≢false old)
  by_phase g phase.LoggingIn false old is front =
      written_front (due_so_far (known_on g) client) (all_front (due_so_far (known_on g) client) is) front
  by_phase g (phase.Serving account) fresh old is front =
      written_front (due_so_far (known_on g) client) (all_front (due_so_far (known_on g) client) is) front
  by_phase g phase.Ended fresh old is front = written_front (due_bytes (view_on g).replies g.plan g.tale.moment client) is front

-- one is over whose seat ended
over_by : (g : Ground) (client : Client) (row : code.Client) (ended : Bool) → IsPhase ended g client row → g.over client.number ≡ ended
over_by g client row true is = is.over
over_by g client row false is = is.going

-- by the row of the client
pub row_writes : (g : Ground) (log : Log) (client : Client) (row : code.Client) (count : ℕ) → IsClient g client row → g.fresh client.number ≡ false
    → IsWrittenTo g log client → IsFront (written_of client.link log ++ take count row.desk.seat.outbox.due) (due_on g client)
row_writes g log client row count is looked to =
    let over : g.over client.number ≡ is_ended row.desk.seat.phase = over_by g client row (is_ended row.desk.seat.phase) is.phase in
    subst (λ (b : Bool). IsFront (written_of client.link log ++ take count row.desk.seat.outbox.due) (due_by b (known_on g) client)) (sym over)
    (by_phase client row.desk.seat count (written_of client.link log) to.size g row.desk.seat.phase (g.fresh client.number) looked is.owed
    (subst (λ (b : Bool). IsFront (written_of client.link log) (due_by b (known_on g) client)) over to.front))
