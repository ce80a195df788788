-- Keys that are more: what stood under a number stands there.
use Rattle.std.proofs.lemmas.Bool.{true≢false}
use Rattle.std.specs.Prelude.{◌≡◌, ◌⊎◌, ◌<◌, ◌≤◌, ℕ, List, Option, Some, None, true, is_some}
use Rattle.std.proofs.Common.{refl, arith, inl, inr, sym, ap, subst, ◌∙◌}
use Rattle.std.proofs.lemmas.List.Elements.{All-weaker}
use Rattle.mx_base.specs.declared.names.ClientNo.{ClientNo}
use Rattle.private_model.specs.Story.{Key}
use Rattle.client_desk.specs.declared.desk.Desk.{Desk}
use Rattle.router_promises.specs.Verdicts.{Verdict}
use Rattle.client_session.specs.Setups.{Setup}
use Rattle.core_tables.specs.Tables.{Tabled}
use Rattle.core_laws.specs.clients.Turns.{Answers, Choice, Goes, Halt, IsTurn, Keyed, Turns}
use Rattle.core_promises.specs.Administers.{Administered}
use Rattle.core_promises.specs.Judges.{IsVerdictFor, Rulebook}
use Rattle.core_promises.specs.Ruled.{AreKeptBy, AreRuled, IsRuled, Ruling, situation_at}
use Rattle.core_promises.proofs.Knowing.{verdict_within}
use Rattle.core_promises.proofs.Ruling.{HasKeys, are_ruled_more, knows_more, ruled_more}
use Rattle.core_texts.specs.Texts.{AreMore, key_at}
use Rattle.core_texts.specs.declared.texts.Texts.{Texts}
use Rattle.core_texts.proofs.Keeping.{same_more}
use Rattle.core_turns.specs.Taken.{AreUnder}
use Rattle.core_turns.specs.Turned.{IsSaid}

-- by the texts that are kept
abbrev pub ruled_by : Rulebook → Texts → (was is : Administered) → Ruling
ruled_by book texts was is = record { book = book; since = texts.since; keys = key_at texts; was = was; is = is }

pub keys_of : (old new : Texts) → AreMore old new → HasKeys new.since (key_at old) (key_at new)
keys_of old new more = record { each = more.kept; back = λ number key early at. from number key early (more.fresh number key at) } where
  from : (number : ℕ) (key : Key) → number ≤ new.since → (key_at old number ≡ Some key) ⊎ ((old.last < number) × (number ≤ new.last))
      → key_at old number ≡ Some key
  from number key early (inl was) = was
  from number key early (inr fresh) =
      let since : new.since ≡ old.since = more.since in
      let within : old.since ≤ old.last = old.begun in
      let above : old.last < number = fresh.0 in absurd (omega (arith, early, since, within, above))

pub same_texts : (t : Texts) → AreMore t t
same_texts t = same_more t t refl refl (λ c. refl) (λ n. refl)

pub more_along : (a b c : Texts) → AreMore a b → AreMore b c → AreMore a c
more_along a b c one more = record {
  last = omega (arith, one.last, more.last);
  since = more.since ∙ one.since;
  noted = λ d. more.noted d ∙ one.noted d;
  kept = λ n key at. more.kept n key (one.kept n key at);
  fresh = λ n key at. by n key (more.fresh n key at);
}
  where
    went : (n : ℕ) (key : Key) → (key_at a n ≡ Some key) ⊎ ((a.last < n) × (n ≤ b.last))
        → (key_at a n ≡ Some key) ⊎ ((a.last < n) × (n ≤ c.last))
    went n key (inl at) = inl at
    went n key (inr new) = inr (new.0, omega (arith, new.1, more.last))

    by : (n : ℕ) (key : Key) → (key_at b n ≡ Some key) ⊎ ((b.last < n) × (n ≤ c.last)) → (key_at a n ≡ Some key) ⊎ ((a.last < n) × (n ≤ c.last))
    by n key (inl at) = went n key (one.fresh n key at)
    by n key (inr new) = inr (omega (arith, new.0, one.last), new.1)

-- Turns stand by more texts.

module _ (book : Rulebook) (old new : Texts) (more : AreMore old new) (setup : Setup) (default : List ℕ) (c : ClientNo) where
  abbrev since_now : (was is : Administered) → ℕ → Ruling
  since_now was is since = record { book = book; since = since; keys = key_at old; was = was; is = is }

  pub turn_more : (was is : Administered) (choice : Choice) (from to : Tabled) (turn : IsTurn choice setup default c from to)
      → IsRuled (ruled_by book old was is) choice setup default c from to turn → IsRuled (ruled_by book new was is) choice setup default c from to turn
  turn_more was is choice from to turn ruled =
      ruled_more book new.since (key_at old) (key_at new) (keys_of old new more) setup default c was is choice from to turn
      (subst (λ (since : ℕ). IsRuled (since_now was is since) choice setup default c from to turn) (sym more.since) ruled)

  pub turns_more : (was is : Administered) (choices : List Choice) (halt : Halt) (from to : Tabled)
      (turns : Turns choices halt setup default c from to) → AreRuled (ruled_by book old was is) choices halt setup default c from to turns
      → AreRuled (ruled_by book new was is) choices halt setup default c from to turns
  turns_more was is choices halt from to turns ruled =
      are_ruled_more book new.since (key_at old) (key_at new) (keys_of old new more) setup default c was is choices halt from to turns
      (subst (λ (since : ℕ). AreRuled (since_now was is since) choices halt setup default c from to turns) (sym more.since) ruled)

-- so does what is said of statements whose texts are kept

module _ (book : Rulebook) (old new : Texts) (more : AreMore old new) where
  pub more_verdict : (desk : Desk) → AreKeptBy new.since (key_at new) desk.seat.statements → (c : ClientNo) (payload : List ℕ) (verdict : Verdict)
      → IsVerdictFor book (situation_at (key_at old) desk) c payload verdict → IsVerdictFor book (situation_at (key_at new) desk) c payload verdict
  more_verdict desk kept c payload verdict is =
      verdict_within book (situation_at (key_at old) desk) (situation_at (key_at new) desk)
      (knows_more book new.since (key_at old) (key_at new) (keys_of old new more) desk kept) c payload verdict is

  more_under : (keyed : List Keyed) → AreUnder (key_at old) keyed → AreUnder (key_at new) keyed
  more_under keyed under =
      All-weaker (λ (one : Keyed). key_at old one.number ≡ Some one.key) (λ (one : Keyed). key_at new one.number ≡ Some one.key)
      (λ one at. more.kept one.number one.key at) keyed under

  more_some : (number : ℕ) (found : Option Key) → key_at old number ≡ found → is_some found ≡ true → is_some (key_at new number) ≡ true
  more_some number None at is = absurd (true≢false (sym is))
  more_some number (Some key) at is = ap is_some (more.kept number key at)

  pub more_said : (was is then now : Administered) (c : ClientNo) (choice : Choice) → IsSaid (ruled_by book old was is) c choice
      → IsSaid (ruled_by book new then now) c choice
  more_said was is then now c (Goes route keyed) said =
      (said.0, more_under keyed said.1, λ numbered. more_some route.key (key_at old route.key) refl (said.2 numbered))
  more_said was is then now c (Answers payloads) said = said

pub same_said : (book : Rulebook) (texts : Texts) (was is then now : Administered) (c : ClientNo) (choice : Choice)
    → IsSaid (ruled_by book texts was is) c choice → IsSaid (ruled_by book texts then now) c choice
same_said book texts = more_said book texts texts (same_texts texts)
