-- What was written to clients is due to them behind an entry.
use Rattle.std.specs.Prelude.{◌≡◌, ◌⊎◌, ◌≤◌, ◌<◌, ◌+◌, ℕ, suc, Bool, true, false, ◌||◌, All, is_some, length, List, Option, Some, None}
use Rattle.std.proofs.Common.{refl, sym, ap, ◌∙◌, subst, arith, inl, inr}
use Rattle.std.proofs.lemmas.Bool.{false≢true, true≢false}
use Rattle.std.proofs.lemmas.List.Elements.{All-weaker}
use Rattle.mx_wire.specs.Log.{Log}
use Rattle.mx_wire.specs.declared.entry.Entry.{Entry}
use Rattle.packet_frame.specs.Packets.{Framed, next_id}
use Rattle.client_seat.specs.Stands.{Known, answer_by, answer_to, due_so_far}
use Rattle.client_session.specs.Setups.{Setup as Service}
use Rattle.private_model.specs.Names.{ClientNo, MessageName}
use Rattle.private_model.specs.View.{Setup}
use Rattle.log_story.specs.Honest.{IsFront}
use Rattle.log_story.specs.Owed.{due_bytes, messages, name_of}
use Rattle.log_story.specs.Plan.{Plan, gives_up, is_before, is_by_now, word_at}
use Rattle.log_story.specs.Tale as tales
use Rattle.log_story.specs.Tale.{Client, Tale, is_to_server}
use Rattle.log_story.specs.Telling.{tale_step}
use Rattle.step_laws.proofs.Seating.{counted_seats}
use Rattle.step_laws.proofs.Telling.{told_spares}
use Rattle.step_laws.specs.Seats.{IsSeated}
use Rattle.tale_world.proofs.Links.{step_of}
use Rattle.core_tables.specs.Tables.{Tabled}
use Rattle.core_tables.specs.declared.client.Client as rows
use Rattle.core_stands.specs.Clients.{IsClient, IsClientOr}
use Rattle.core_stands.specs.Grounds.{Ground, known_on, view_on}
use Rattle.core_stands.specs.Stands.{IsAt, Rests, Stands}
use Rattle.core_laws.proofs.OfEntry.Growing.{due_grows}
use Rattle.core_laws.proofs.OfEntry.Lists.{seated_of}
use Rattle.core_laws.proofs.OfEntry.Parting.{ends_grow, over_grows, row_told, row_within}
use Rattle.core_laws.proofs.OfEntry.Replies.{answers_on, replies_on}
use Rattle.core_laws.proofs.OfEntry.Safely.{all_written_by}
use Rattle.core_laws.proofs.OfEntry.Writing.{all_written}
use Rattle.core_laws.specs.entry.Dues.{AnswersStay, AreWrittenTo, Continues, EndsSaying, IsCome, IsGrown, IsToldAll, IsWrittenTo, StaysOver, due_by, due_on, written_by}
use Rattle.core_laws.specs.entry.Cores.{with_entry}
use Rattle.core_laws.specs.entry.Entries.{behind}
use Rattle.core_laws.specs.entry.Kinds.{IsStill}
use Rattle.router_laws.proofs.OfDecisions.Gathering.{still_kept}
use Rattle.router_laws.specs.decisions.Plans.{KeepsAnswers}
use Rattle.router_laws.proofs.OfClients.Continuing.{all_were}
use Rattle.router_laws.specs.clients.Behind.{IsDueBehind}
use Rattle.router_laws.specs.clients.Continues.{HasCome, IsContinued, WasThere}
use Rattle.router_laws.specs.clients.Plans.{IsDecided}

pub moment_more : (setup : Setup) (plan : Plan) (tale : Tale) (e : Entry) → (tale_step setup plan tale e).moment ≡ suc tale.moment
moment_more setup plan tale e =
    step_of (λ (t : Tale). t.moment) (λ story t. refl) (λ clients t. refl) setup plan tale e
    ∙ ap suc (told_spares setup plan tale e).moment

-- one that ended by a moment ended before the next
pub ended_before : (moment : ℕ) (at : Option ℕ) → is_by_now moment at ≡ true → is_before (suc moment) at ≡ true
ended_before moment None by = by
ended_before moment (Some n) by = grind arith

answer_named : (y : Known) (was now : Client) (ordinal : ℕ) (message : Framed) → now.number ≡ was.number
    → answer_to y now ordinal message ≡ answer_to y was ordinal message
answer_named y was now ordinal message number =
    ap (λ (c : ClientNo). answer_to y (record was { number = c }) ordinal message) number

-- what one that is over is due goes by these alone
due_same : (y : Known) (was now : Client) → now.number ≡ was.number → now.port ≡ was.port → now.salt ≡ was.salt → now.read ≡ was.read → now.taken ≡ was.taken
    → due_bytes y.view.replies y.plan y.moment was ≡ due_bytes y.view.replies y.plan y.moment now
due_same y was now number port salt read taken =
    λ i. due_bytes y.view.replies y.plan y.moment
    (record { number = sym number i; link = was.link; port = sym port i; salt = sym salt i; read = sym read i; written = was.written; taken = sym taken i })

module _ (service : Service) (g : Ground) (t now : Tabled) (roomy : ClientNo → Bool) (log : Log) (e : Entry) (whose over : ClientNo → Bool)
    (rests : Rests service g t roomy) (stands : Stands service (behind g e over) now) (kept : All (KeepsAnswers g) g.tale.clients)
    (overs : (c : ClientNo) → over c ≡ (g.over c || whose c))
    (due : IsDueBehind g log e whose over now) (to : AreWrittenTo g log) where
  abbrev new : Ground
  new = behind g e over

  moment : new.tale.moment ≡ suc g.tale.moment
  moment = moment_more g.setup g.plan g.tale e

  module _ (was client : Client) (seated : IsSeated g.tale was) (on : IsContinued g.plan g.tale e was client) where
    still : KeepsAnswers g was
    still = seated_of (KeepsAnswers g) g.tale was seated kept

    written : IsWrittenTo g log was
    written = seated_of (IsWrittenTo g log) g.tale was seated to

    at : IsAt g t was
    at = seated_of (IsAt g t) g.tale was seated rests.stands.clients.each

    stay : AnswersStay (known_on g) (known_on new) was
    stay = record {
      plan = refl;
      moment = moment;
      replies = λ m reply there. replies_on g.setup g.plan g.tale e stands.lawful m reply there;
      given = λ ordinal reply within there own.
          subst (λ (n : ℕ). gives_up g.plan n (name_of was ordinal) ≡ false) (sym moment) (still.given ordinal reply within there own);
    }

    answers : (ordinal : ℕ) (message : Framed) (bytes : List ℕ) → ordinal ≤ was.taken → answer_to (known_on g) was ordinal message ≡ Some bytes
        → answer_to (known_on new) client ordinal message ≡ Some bytes
    answers ordinal message bytes within is =
        answer_named (known_on new) was client ordinal message on.number
        ∙ answers_on (known_on g) (known_on new) was stay ordinal message bytes within is

    -- it goes on

    within_by : (row : Option rows.Client) → IsClientOr g was row → g.over was.number ≡ false → was.taken ≤ length (messages g.plan was)
    within_by None is going = absurd (true≢false (sym is.over ∙ going))
    within_by (Some row) is going = row_within g was row is going

    continues : g.over was.number ≡ false → Continues (known_on g) (known_on new) was client
    continues going = record {
      plan = refl;
      number = on.number;
      port = on.port;
      salt = on.salt;
      more = on.more;
      read = on.read;
      taken = on.taken;
      within = within_by (t.clients was.number) at.row going;
      answers = answers;
    }

    -- it was over

    module _ (ended : g.over was.number ≡ true) where
      word_same : word_at new.plan new.tale.moment was.number ≡ word_at g.plan g.tale.moment was.number
      word_same = ap (λ (n : ℕ). word_at g.plan n was.number) moment ∙ still.word ended

      stays : StaysOver (known_on g) (known_on new) was
      stays = record {
        plan = refl;
        word = word_same;
        answers = answers_on (known_on g) (known_on new) was stay;
        told = written.told ended;
      }

      taken_same : client.taken ≡ was.taken
      taken_same = on.over (ended_before g.tale.moment (g.plan.ends was.number) (sym (rests.over was.number) ∙ ended))

      due_over : IsFront (due_bytes (view_on g).replies g.plan g.tale.moment was) (due_bytes (view_on new).replies new.plan new.tale.moment client)
      due_over =
          subst (IsFront (due_bytes (view_on g).replies g.plan g.tale.moment was))
          (due_same (known_on new) was client on.number on.port on.salt (on.kept (due.unread was seated ended)) taken_same)
          (over_grows (known_on g) (known_on new) was stays)

      still_some : (ordinal : ℕ) (message : Framed) (answer : Option (List ℕ)) → answer_to (known_on g) was ordinal message ≡ answer
          → is_some answer ≡ true → ordinal ≤ was.taken → is_some (answer_to (known_on new) client ordinal message) ≡ true
      still_some ordinal message None is some within = absurd (false≢true some)
      still_some ordinal message (Some bytes) is some within = ap is_some (answers ordinal message bytes within is)

      told_over : IsToldAll new client
      told_over ordinal message word some within =
          let before : ordinal ≤ was.taken = omega (arith, within, taken_same) in
          still_some ordinal message (answer_to (known_on g) was ordinal message) refl
          (written.told ended ordinal message
          (ap is_some (sym word_same ∙ ap (λ (c : ClientNo). word_at new.plan new.tale.moment c) (sym on.number)) ∙ word) some before) before

    -- all of them

    over_now : over client.number ≡ (g.over was.number || whose was.number)
    over_now = ap over on.number ∙ overs was.number

    front_by : (a b : Bool) → g.over was.number ≡ a → whose was.number ≡ b
        → IsFront (due_by a (known_on g) was) (due_by (a || b) (known_on new) client)
    front_by true b ended ends = due_over ended
    front_by false true going ends =
        ends_grow (known_on g) (known_on new) was client (continues going) (due.says was client seated on ends going)
    front_by false false going ends = due_grows (known_on g) (known_on new) was client (continues going)

    row_by : (row : Option rows.Client) → is_some row ≡ true → over client.number ≡ true → IsClientOr new client row → IsToldAll new client
    row_by None none ended is = absurd (false≢true none)
    row_by (Some row) some ended is = row_told new client row is ended

    told_by : IsSeated new.tale client → (a b : Bool) → g.over was.number ≡ a → whose was.number ≡ b → over client.number ≡ true
        → IsToldAll new client
    told_by there true b ended ends is = told_over ended
    told_by there false true going ends is =
        row_by (now.clients client.number)
        (ap (λ (c : ClientNo). is_some (now.clients c)) on.number ∙ due.there was seated ends) is
        (seated_of (IsAt new now) new.tale client there stands.clients.each).row
    told_by there false false going ends is =
        absurd (false≢true (sym (over_now ∙ (λ i. going i || ends i)) ∙ is))

    grown : IsSeated new.tale client → IsGrown g new e client
    grown there = record {
      was = was;
      seated = seated;
      link = on.link;
      count = on.written at.aside;
      due = subst (λ (b : Bool). IsFront (due_on g was) (due_by b (known_on new) client)) (sym over_now)
          (front_by (g.over was.number) (whose was.number) refl refl);
      told = told_by there (g.over was.number) (whose was.number) refl refl;
    }

  grown_or : (client : Client) → IsSeated new.tale client → WasThere g.plan g.tale e client ⊎ HasCome g.tale e client
      → IsGrown g new e client ⊎ IsCome log e client
  grown_or client there (inl is) = inl (grown is.was client is.seated is.continued there)
  grown_or client there (inr come) = inr (due.comes client there come)

  pub written_with : AreWrittenTo new (with_entry log e)
  written_with =
      all_written g new log e to (all_written_by g log e to due.writes)
      (λ k d within. grown_or _ (counted_seats new.tale stands.clients.counted k d within)
      (all_were g.setup g.plan g.tale e rests.stands.clients.counted k d within))

-- where nothing is given up
pub written_behind : (service : Service) (g : Ground) (t now : Tabled) (roomy : ClientNo → Bool) (log : Log) (e : Entry) (whose over : ClientNo → Bool)
    → Rests service g t roomy → Stands service (behind g e over) now → IsDecided g whose over → IsDueBehind g log e whose over now → AreWrittenTo g log
    → AreWrittenTo (behind g e over) (with_entry log e)
written_behind service g t now roomy log e whose over rests stands decided due to =
    written_with service g t now roomy log e whose over rests stands (still_kept g decided.still) decided.overs due to
