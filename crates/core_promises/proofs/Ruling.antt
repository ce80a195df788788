-- Turns that are ruled by some texts are ruled by more.
use Rattle.std.specs.Prelude.{◌≡◌, ◌<◌, ◌≤◌, ℕ, is_some, true, List, [], ◌∷◌, Option, Some, None}
use Rattle.std.specs.Option.{option_and_then, option_map}
use Rattle.std.proofs.Common.{refl, sym, ap, ◌∙◌}
use Rattle.std.proofs.lemmas.Bool.{true≢false}
use Rattle.client_desk.specs.declared.desk.Desk.{Desk}
use Rattle.client_session.specs.Setups.{Setup}
use Rattle.mx_base.specs.declared.names.ClientNo.{ClientNo}
use Rattle.private_model.specs.Story.{Key}
use Rattle.stmt_map.specs.Client.{statement_at}
use Rattle.stmt_map.specs.declared.client.ClientStatements.{ClientStatements}
use Rattle.stmt_map.specs.declared.statement.Statement.{Statement}
use Rattle.core_tables.specs.Tables.{Tabled}
use Rattle.core_laws.specs.clients.Found.{desk_up}
use Rattle.core_laws.specs.clients.Turns.{Answers, Choice, Goes, Halt, IsTurn, Turns}
use Rattle.message_judge.specs.declared.caller.Prepared.{Prepared}
use Rattle.core_promises.proofs.Knowing.{KnowsMore, routed_within, told_within}
use Rattle.core_promises.specs.Administers.{Administered}
use Rattle.core_promises.specs.Judges.{Rulebook}
use Rattle.core_promises.specs.Ruled.{AreKeptBy, AreRuled, IsKept, IsRuled, Ruling, known_as, known_by, situation_at}

-- What stood under a number stands there, and under those that were given before the entry nothing else does.
pub record HasKeys (since : ℕ) (keys more : (key : ℕ) → Option Key) : Type 0 where
  pub each : (number : ℕ) (key : Key) → keys number ≡ Some key → more number ≡ Some key
  pub back : (number : ℕ) (key : Key) → number ≤ since → more number ≡ Some key → keys number ≡ Some key

none_is : {A B : Type 0} (a : A) → None ≡ Some a → B
none_is a is = absurd (let no = is in cc)

some_there : {A : Type 0} (o : Option A) → is_some o ≡ true → (a : A) × (o ≡ Some a)
some_there None some = absurd (true≢false (sym some))
some_there (Some a) some = (a, refl)

module _ (book : Rulebook) (since : ℕ) (keys more : (key : ℕ) → Option Key) (has : HasKeys since keys more) where
  -- what is kept was so before
  kept_at : (s : Statement) → IsKept since more s → IsKept since keys s
  kept_at s kept =
      let key = some_there (more s.prepared.key) kept.there in
      record { early = kept.early; there = ap is_some (has.back s.prepared.key key.0 kept.early key.1) }

  pub kept_before : (statements : ClientStatements) → AreKeptBy since more statements → AreKeptBy since keys statements
  kept_before statements kept number s some at = kept_at s (kept number s some at)

  -- what is known of it

  by_key : (s : Statement) (found : Option Key) → keys s.prepared.key ≡ found → (one : Prepared)
      → option_map (λ (key : Key). known_as key s) found ≡ Some one → known_by more s ≡ Some one
  by_key s None at one is = none_is one is
  by_key s (Some key) at one is = ap (option_map (λ (key : Key). known_as key s)) (has.each s.prepared.key key at) ∙ is

  by_number : (found : Option Statement) (one : Prepared) → option_and_then (known_by keys) found ≡ Some one
      → option_and_then (known_by more) found ≡ Some one
  by_number None one is = none_is one is
  by_number (Some s) one is = by_key s (keys s.prepared.key) refl one is

  key_back : (s : Statement) → IsKept since more s → (found : Option Key) → more s.prepared.key ≡ found → (one : Prepared)
      → option_map (λ (key : Key). known_as key s) found ≡ Some one → known_by keys s ≡ Some one
  key_back s kept None at one is = none_is one is
  key_back s kept (Some key) at one is = ap (option_map (λ (key : Key). known_as key s)) (has.back s.prepared.key key kept.early at) ∙ is

  number_back : (statements : ClientStatements) → AreKeptBy since more statements → (number : ℕ) → 0 < number → (found : Option Statement)
      → statement_at statements number ≡ found → (one : Prepared) → option_and_then (known_by more) found ≡ Some one
      → option_and_then (known_by keys) found ≡ Some one
  number_back statements kept number some None at one is = none_is one is
  number_back statements kept number some (Some s) at one is = key_back s (kept number s some at) (more s.prepared.key) refl one is

  pub knows_more : (desk : Desk) → AreKeptBy since more desk.seat.statements → KnowsMore (situation_at keys desk) (situation_at more desk)
  knows_more desk kept = record {
    port = refl;
    user = refl;
    place = refl;
    pins = refl;
    homes = refl;
    statements = λ number one is. by_number (statement_at desk.seat.statements number) one is;
    back = λ number one some is.
        number_back desk.seat.statements kept number some (statement_at desk.seat.statements number) refl one is;
    given = λ number is. is;
  }

  abbrev before : (was is : Administered) → Ruling
  before was is = record { book = book; since = since; keys = keys; was = was; is = is }

  abbrev behind : (was is : Administered) → Ruling
  behind was is = record { book = book; since = since; keys = more; was = was; is = is }

  module _ (setup : Setup) (default : List ℕ) (c : ClientNo) where
    pub ruled_more : (was is : Administered) (choice : Choice) (old new : Tabled) (turn : IsTurn choice setup default c old new)
        → IsRuled (before was is) choice setup default c old new turn → IsRuled (behind was is) choice setup default c old new turn
    ruled_more was is (Goes route keyed) old new turn ruled = (
      λ kept. routed_within book _ _ (knows_more (desk_up setup default turn.up.row) kept) keys more has.each c turn.up.message.payload route
          (ruled.0 (kept_before (desk_up setup default turn.up.row).seat.statements kept)),
      ruled.1,
    )
    ruled_more was is (Answers payloads) old new turn ruled = (
      λ kept. told_within book _ _ (knows_more (desk_up setup default turn.up.row) kept) c turn.up.message.payload payloads
          (ruled.0 (kept_before (desk_up setup default turn.up.row).seat.statements kept)),
      ruled.1,
    )

    pub are_ruled_more : (was is : Administered) (choices : List Choice) (halt : Halt) (old new : Tabled)
        (turns : Turns choices halt setup default c old new) → AreRuled (before was is) choices halt setup default c old new turns
        → AreRuled (behind was is) choices halt setup default c old new turns
    are_ruled_more was is [] halt old new turns ruled = ruled
    are_ruled_more was is (choice ∷ others) halt old new turns ruled = (
      ruled.0,
      (ruled_more was ruled.0 choice old turns.0 turns.1 ruled.1.0, are_ruled_more ruled.0 is others halt turns.0 new turns.2 ruled.1.1),
    )
