-- What is done by the time that the loop waits.
use Rattle.std.specs.Prelude.{◌≡◌, ◌⊎◌, ◌||◌, ◌++◌, ℕ, Bool, true, false, is_some, length, nat_le, slice_index_or, if◌then◌else◌, Option, Some, None}
use Rattle.std.specs.Option.{option_and_then}
use Rattle.std.proofs.Common.{refl, sym, ap, ◌∙◌, subst, inl, inr}
use Rattle.std.proofs.lemmas.Bool.{lt-leb, true≢false}
use Rattle.mx_wire.specs.Log.{Log, is_open, written_of}
use Rattle.ready_loop.specs.Drained.{read_dry, write_dry}
use Rattle.client_session.specs.Setups.{Setup as Serving}
use Rattle.private_model.specs.Names.{ClientNo}
use Rattle.link_laws.specs.Stands.{Codes}
use Rattle.log_story.specs.Headline.{tale_of}
use Rattle.log_story.specs.Owed.{name_of}
use Rattle.log_story.specs.Plan.{LastWord, Plan, word_at}
use Rattle.log_story.specs.Tale as tales
use Rattle.log_story.specs.Tale.{Tale}
use Rattle.tale_world.specs.Decided.{Decided}
use Rattle.core_tables.specs.Tables.{Tabled}
use Rattle.core_stands.specs.Grounds.{Ground}
use Rattle.core_stands.specs.Stands.{IsAt, Rests}
use Rattle.core_laws.specs.entry.Dues.{AreWrittenTo, IsWrittenTo}
use Rattle.core_laws.specs.entry.Safe.{IsSafe}
use Rattle.core_laws.specs.entry.Tells.{IsOf, ground}
use Rattle.router_promises.proofs.Saying.{now-tale}
use Rattle.router_promises.specs.Due.{due_to}
use Rattle.router_promises.specs.Ends.{was_answered}
use Rattle.router_promises.specs.Now.{Now, now_at}
use Rattle.router_promises.specs.Rest.{is_ahead}
use Rattle.router_promises.specs.Terms.{Terms, plan_in, setup_in}
use Rattle.router_promises.specs.Wakes.{has_ended}
use Rattle.core_promises.specs.Waits.{IsAtWork, IsDone, IsServed, error_to}
use Rattle.router_laws.proofs.OfDecisions.Listing.{is_tale_of}
use Rattle.router_laws.proofs.OfWaits.Hearing.{heard}
use Rattle.router_laws.proofs.OfWaits.Reading.{read_or}
use Rattle.router_laws.proofs.OfWaits.Rows.{HasRow, going_of, ground_now, row_of}
use Rattle.router_laws.proofs.OfWaits.Telling.{told_or}
use Rattle.router_laws.proofs.OfWaits.Working.{worked}
use Rattle.router_laws.specs.decisions.Routers.{AreOpenJust}
use Rattle.router_laws.specs.waits.Drained.{IsDrainedFor}
use Rattle.run_laws.specs.Tells.{TellsBytes}

-- to one that goes on no last word is said by now
wordless_by : (d : Decided) (moment : ℕ) (plan : Plan) (c : ClientNo) (word : Option LastWord) → IsOf d moment plan → d.words c ≡ None
    → plan.words c ≡ word → word_at plan moment c ≡ None
wordless_by d moment plan c None of none is =
    ap (λ (said : Option LastWord). option_and_then (λ (word : LastWord). if nat_le word.from moment then Some word else None) said) is
wordless_by d moment plan c (Some word) of none is =
    ap (λ (said : Option LastWord). option_and_then (λ (word : LastWord). if nat_le word.from moment then Some word else None) said) is
    ∙ ap (λ (b : Bool). if b then Some word else None) (lt-leb word.from moment (of.untold c word none is))

unended : {A : Type 0} → (o : Option A) → is_some o ≡ false → o ≡ None
unended None is = refl
unended (Some x) is = absurd (true≢false is)

or_second : (a b : Bool) → b ≡ true → (a || b) ≡ true
or_second true b is = refl
or_second false b is = is

module _ (service : Serving) (terms : Terms) (codes : Codes) (d : Decided) (log : Log) (t : Tabled) (roomy : ClientNo → Bool)
    (of : IsOf d (length log) (plan_in terms))
    (rests : Rests service (ground (setup_in terms) codes (plan_in terms) d log) t roomy)
    (written : AreWrittenTo (ground (setup_in terms) codes (plan_in terms) d log) log)
    (silent : (c : ClientNo) → d.ends c ≡ None → d.words c ≡ None) (drained : IsDrainedFor t log) where
  abbrev now : Now
  now = now_at terms log

  abbrev over : ClientNo → Bool
  over c = is_some (d.ends c)

  abbrev with_tale : Tale → Ground
  with_tale tale = record (ground_now terms codes over now) { tale = tale }

  abbrev g : Ground
  g = ground_now terms codes over now

  same : now.tale ≡ tale_of (setup_in terms) (plan_in terms) log
  same = now-tale terms log

  rests_now : Rests service g t roomy
  rests_now = subst (λ (tale : Tale). Rests service (with_tale tale) t roomy) (sym same) rests

  written_now : AreWrittenTo g log
  written_now = subst (λ (tale : Tale). AreWrittenTo (with_tale tale) log) (sym same) written

  moment_is : now.tale.moment ≡ length log
  moment_is = ap (λ (tale : Tale). tale.moment) same ∙ (is_tale_of (setup_in terms) (plan_in terms) log).moment

  wordless : (c : ClientNo) → over c ≡ false → word_at (plan_in terms) now.tale.moment c ≡ None
  wordless c on =
      ap (λ (n : ℕ). word_at (plan_in terms) n c) moment_is
      ∙ wordless_by d (length log) (plan_in terms) c ((plan_in terms).words c) of (silent c (unended (d.ends c) on)) refl

  module _ (client : tales.Client) (at : IsAt g t client) (to : IsWrittenTo g log client) (ended : has_ended terms now client ≡ false)
      (opened : is_open client.link log ≡ true) where
    on : over client.number ≡ false
    on = going_of terms codes over now client rests_now.over ended

    has : HasRow g t client
    has = row_of g t client at on

    told : (written_of client.link log ++ error_to terms now client ≡ due_to terms now client) ⊎ (write_dry client.link log ≡ true)
    told = elim (told_or g t log client has at (rests_now.stands.servers client.link) refl to (wordless client.number on)) [
      | inl all ↦ inl all
      | inr more ↦ inr (drained.written client.link opened more)
    ]

    read : (read_dry client.link log || is_ahead terms now client) ≡ true
    read = elim (read_or terms codes over now t client has at (rests_now.stands.servers client.link)) [
      | inl reads ↦ ap (λ (b : Bool). b || is_ahead terms now client) (drained.read client.link opened reads)
      | inr ahead ↦ or_second (read_dry client.link log) (is_ahead terms now client) ahead
    ]

    served : (was_answered terms now client ≡ false → IsAtWork terms log now client ((plan_in terms).routes (name_of client client.taken)))
        → IsServed terms log now client
    served worked = record { told = told; read = read; worked = worked }

  -- and its statement is at work, where its last message isn't answered
  abbrev AreAtWork : Type 0
  AreAtWork =
      (client : tales.Client) → IsAt g t client → has_ended terms now client ≡ false → is_open client.link log ≡ true
      → was_answered terms now client ≡ false → IsAtWork terms log now client ((plan_in terms).routes (name_of client client.taken))

  done_by : AreAtWork → IsDone terms log now
  done_by worked = record {
    accepted = drained.accepted;
    named = drained.named;
    heard = heard service terms codes over now log t roomy rests_now drained;
    served = λ k other within. λ ended opened.
        let client = slice_index_or now.tale.clients k other in
        let at : IsAt g t client = rests_now.stands.clients.each k other within in
        served client at (written_now k other within) ended opened (worked client at ended opened);
  }

  told_bytes : IsSafe (setup_in terms) (plan_in terms) log → TellsBytes now.tale
  told_bytes safe = subst TellsBytes (sym same) safe.told

  pub done : IsSafe (setup_in terms) (plan_in terms) log → AreOpenJust log t → IsDone terms log now
  done safe open_just = done_by (worked service terms codes over now log t roomy rests_now open_just drained (told_bytes safe).heard)
