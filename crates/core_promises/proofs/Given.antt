-- What a router that keeps its clients apart gives up for.
use Rattle.std.specs.Prelude.{◌≡◌, ◌⊎◌, ◌<◌, ◌≤◌, ◌+◌, ◌++◌, ℕ, suc, Bool, true, false, length, slice_index_or, List, [], ◌∷◌, Option, Some, None}
use Rattle.std.proofs.Common.{refl, sym, ap, ◌∙◌, subst, arith, inl, inr, length-append}
use Rattle.client_session.specs.Errors.{bad_server_bytes, connection_lost, connection_refused}
use Rattle.mx_wire.specs.Log.{Log, moment_of}
use Rattle.mx_wire.specs.declared.entry.Entry.{Entry}
use Rattle.mx_wire.specs.declared.entry.Entry.TheVariants as entry
use Rattle.private_model.specs.Names.{MessageName}
use Rattle.private_model.specs.View.{Setup}
use Rattle.log_story.specs.Headline.{tale_of}
use Rattle.log_story.specs.Owed.{name_of}
use Rattle.log_story.specs.Plan.{OwnAnswer, Plan, Route}
use Rattle.log_story.specs.Tale.{Client}
use Rattle.router_promises.proofs.Refusals.{at-index, never}
use Rattle.router_promises.specs.Errors.{no_connection, replay_refused, server_shutdown}
use Rattle.router_promises.specs.Now.{is_gone}
use Rattle.router_promises.specs.Terms.{Terms, plan_in, setup_in, tale_at}
use Rattle.core_promises.specs.Causes.{AreCaused, BadBytes, HasCause, HeldUp, IsCause, IsHeardCause, IsLateCause, IsLossCause, IsToldAtOnce, LinkLost, LoginBroken, LoginRefused, ShutDown, StepRefused, WaitedTooLong, WasTakenUp, is_taken_up, may_give_up}
use Rattle.core_promises.specs.Wrong.{AnswersAtOnce, IsGivenUp}

-- Two ways to cut a log at the same place are one.

one-entry : (a b : Entry) (xs ys : Log) → ◌≡◌ {A = Log} (a ∷ xs) (b ∷ ys) → a ≡ b
one-entry a b xs ys is = cc

one-log : (a b : Entry) (xs ys : Log) → ◌≡◌ {A = Log} (a ∷ xs) (b ∷ ys) → xs ≡ ys
one-log a b xs ys is = cc

pub same-cut : (xs ys : Log) (a b : Entry) (later more : Log) → length xs ≡ length ys → xs ++ a ∷ later ≡ ys ++ b ∷ more → (xs ≡ ys) × (a ≡ b)
same-cut [] [] a b later more long is = (refl, one-entry a b later more is)
same-cut [] (y ∷ ys) a b later more long is = absurd (omega (arith, long))
same-cut (x ∷ xs) [] a b later more long is = absurd (omega (arith, long))
same-cut (x ∷ xs) (y ∷ ys) a b later more long is =
    let rest = same-cut xs ys a b later more (omega (arith, long)) (one-log x y (xs ++ a ∷ later) (ys ++ b ∷ more) is) in
    let first : x ≡ y = one-entry x y (xs ++ a ∷ later) (ys ++ b ∷ more) is in
    ((λ i. first i ∷ rest.0 i), rest.1)

one-payload : (a b : List ℕ) → ◌≡◌ {A = List (List ℕ)} (a ∷ []) (b ∷ []) → a ≡ b
one-payload a b is = cc

-- what is answered at an entry isn't answered as it is taken up
behind : {Cause : Type 0} (plan : Plan) (name : MessageName) (answer : OwnAnswer) → 0 < answer.from → IsToldAtOnce plan name answer ⊎ Cause → Cause
behind plan name answer later (inl once) = let at : answer.from ≡ 0 = once.0 in absurd (omega (arith, later, at))
behind plan name answer later (inr cause) = cause

-- so it had its cause
pub cause-of : (terms : Terms) (before : Log) (e : Entry) (client : Client) (payload : List ℕ) → (given : IsGivenUp terms before e client payload)
    → IsCause terms.router.proxy.wait_ms (setup_in terms) (plan_in terms) before e (name_of client (suc given.count)) payload
cause-of terms before e client payload given =
    let log : Log = before ++ e ∷ given.more in
    let here : suc (length before) ≤ length log = omega (arith, length-append before (e ∷ given.more)) in
    let answer : OwnAnswer = record { from = suc (length before); payloads = payload ∷ [] } in
    let has : HasCause terms.router.proxy.wait_ms (setup_in terms) (plan_in terms) log (name_of client (suc given.count)) answer =
    behind (plan_in terms) (name_of client (suc given.count)) answer (omega arith)
    (at-index (AreCaused terms.router.proxy.wait_ms (setup_in terms) (plan_in terms) log) (tale_at terms log).clients given.place client given.keeps.gives
    given.within given.is given.count answer given.taken given.own here) in
    let from = has.from in
    let cut = same-cut before has.before e has.entry given.more has.later (omega (arith, from)) has.there in
    let Told : List ℕ → Type 0 = λ p. IsCause terms.router.proxy.wait_ms (setup_in terms) (plan_in terms) before e (name_of client (suc given.count)) p in
    subst Told (one-payload has.payload payload (sym has.one))
    (subst (λ (l : Log). IsCause terms.router.proxy.wait_ms (setup_in terms) (plan_in terms) l e (name_of client (suc given.count)) has.payload) (sym cut.0)
    (subst (λ (x : Entry). IsCause terms.router.proxy.wait_ms (setup_in terms) (plan_in terms) has.before x (name_of client (suc given.count)) has.payload) (sym cut.1) has.why))

-- What goes to a server is answered by the router at an entry alone, and for a cause.

route-found : (route : Route) (found : Option Route) → found ≡ Some route → found ≡ None → ⊥
route-found route (Some other) is none = absurd (cc)
route-found route None is none = absurd (cc)

pub not-at-once : (terms : Terms) (log : Log) (client : Client) → AnswersAtOnce terms log client → ⊥
not-at-once terms log client runs =
    by (at-index (AreCaused terms.router.proxy.wait_ms (setup_in terms) (plan_in terms) log) (tale_at terms log).clients runs.place client runs.keeps.gives
    runs.within runs.is runs.count runs.answer runs.taken runs.own (omega (arith, runs.once))) where
      once : runs.answer.from ≡ 0
      once = runs.once

      by : IsToldAtOnce (plan_in terms) (name_of client (suc runs.count)) runs.answer
          ⊎ HasCause terms.router.proxy.wait_ms (setup_in terms) (plan_in terms) log (name_of client (suc runs.count)) runs.answer → ⊥
      by (inl told) = route-found runs.route ((plan_in terms).routes (name_of client (suc runs.count))) runs.goes told.1
      by (inr has) = let from = has.from in absurd (omega (arith, once, from))

pub at-no-other : (wait_ms : ℕ) (setup : Setup) (plan : Plan) (log : Log) (e : Entry) (m : MessageName) (payload : List ℕ)
    → IsCause wait_ms setup plan log e m payload → may_give_up e ≡ false → ⊥
at-no-other wait_ms setup plan log (entry.Woke until_ms now_ms) m payload cause none = never none
at-no-other wait_ms setup plan log (entry.Got link bytes) m payload cause none = never none
at-no-other wait_ms setup plan log (entry.Ended link) m payload cause none = never none
at-no-other wait_ms setup plan log (entry.ReadFailed link) m payload cause none = never none
at-no-other wait_ms setup plan log (entry.WriteFailed link) m payload cause none = never none
at-no-other wait_ms setup plan log (entry.OpenFailed server address) m payload cause none = never none
at-no-other wait_ms setup plan log e m payload cause none = cause

-- The code of an error tells its cause; its lower byte is enough.

abbrev code : List ℕ → ℕ
code payload = slice_index_or payload 1 0

late-lost : (wait_ms now_ms : ℕ) (came : Bool) (By : ℕ → Type 0) (payload : List ℕ) → IsLateCause wait_ms now_ms came By payload → code payload ≡ 141 → ⊥
unfolding bad_server_bytes no_connection server_shutdown
late-lost wait_ms now_ms came By _ (WaitedTooLong since by late) at = omega (arith, at)
late-lost wait_ms now_ms came By _ (ShutDown shut) at = omega (arith, at)
late-lost wait_ms now_ms came By _ HeldUp at = omega (arith, at)

heard-lost : (carried : Bool) (payload : List ℕ) → IsHeardCause carried payload → code payload ≡ 141 → ⊥
unfolding bad_server_bytes connection_refused replay_refused
heard-lost carried _ (StepRefused refused) at = omega (arith, at)
heard-lost carried _ LoginRefused at = omega (arith, at)
heard-lost carried _ (BadBytes place carries) at = omega (arith, at)

refused-lost : (payload : List ℕ) → payload ≡ connection_refused → code payload ≡ 141 → ⊥
unfolding connection_refused
refused-lost payload is at = let same : code payload ≡ 143 = ap code is in omega (arith, at, same)

is-lost : code connection_lost ≡ 141
unfolding connection_lost
is-lost = refl

by-a-loss : (wait_ms : ℕ) (setup : Setup) (plan : Plan) (log : Log) (e : Entry) (m : MessageName) (payload : List ℕ)
    → IsCause wait_ms setup plan log e m payload → code payload ≡ 141 → is_gone e ≡ false → ⊥
by-a-loss wait_ms setup plan log (entry.Woke until_ms now_ms) m payload cause at gone = late-lost wait_ms now_ms _ _ payload cause at
by-a-loss wait_ms setup plan log (entry.Got link bytes) m payload cause at gone = heard-lost _ payload cause at
by-a-loss wait_ms setup plan log (entry.Ended link) m payload cause at gone = never gone
by-a-loss wait_ms setup plan log (entry.ReadFailed link) m payload cause at gone = never gone
by-a-loss wait_ms setup plan log (entry.WriteFailed link) m payload cause at gone = never gone
by-a-loss wait_ms setup plan log (entry.OpenFailed server address) m payload cause at gone = refused-lost payload cause at
by-a-loss wait_ms setup plan log e m payload cause at gone = cause

pub no-loss : (wait_ms : ℕ) (setup : Setup) (plan : Plan) (log : Log) (e : Entry) (m : MessageName) → IsCause wait_ms setup plan log e m connection_lost
    → is_gone e ≡ false → ⊥
no-loss wait_ms setup plan log e m cause = by-a-loss wait_ms setup plan log e m connection_lost cause is-lost

carries : (carried : Bool) (payload : List ℕ) → IsLossCause carried payload → code payload ≡ 141 → carried ≡ true
unfolding connection_refused
carries carried _ (LinkLost is) at = is
carries carried _ LoginBroken at = absurd (omega (arith, at))

pub its-link : (carried : Bool) → IsLossCause carried connection_lost → carried ≡ true
its-link carried cause = carries carried connection_lost cause is-lost

-- who waited too long had been taken up by a moment, and waited since
pub record HasWaited (wait_ms now_ms : ℕ) (By : ℕ → Type 0) : Type 0 where
  pub since : ℕ
  pub taken : By since
  pub long : since + wait_ms ≤ now_ms

long-enough : (wait_ms now_ms : ℕ) (came : Bool) (By : ℕ → Type 0) (payload : List ℕ) → IsLateCause wait_ms now_ms came By payload → code payload ≡ 142
    → HasWaited wait_ms now_ms By
unfolding bad_server_bytes server_shutdown
long-enough wait_ms now_ms came By _ (WaitedTooLong since taken late) at = record { since = since; taken = taken; long = late }
long-enough wait_ms now_ms came By _ (ShutDown shut) at = absurd (omega (arith, at))
long-enough wait_ms now_ms came By _ HeldUp at = absurd (omega (arith, at))

is-late : (since now_ms : ℕ) → code (no_connection since now_ms) ≡ 142
unfolding no_connection
is-late since now_ms = refl

pub waited : (wait_ms now_ms since : ℕ) (came : Bool) (By : ℕ → Type 0) → IsLateCause wait_ms now_ms came By (no_connection since now_ms)
    → HasWaited wait_ms now_ms By
waited wait_ms now_ms since came By cause = long-enough wait_ms now_ms came By (no_connection since now_ms) cause (is-late since now_ms)

-- so where it wasn't taken up at any moment that is so far behind, none is given up so
pub too-soon : (wait_ms now_ms : ℕ) (setup : Setup) (plan : Plan) (log : Log) (m : MessageName) → HasWaited wait_ms now_ms (WasTakenUp setup plan log m)
    → ((past later : Log) → log ≡ past ++ later → moment_of past + wait_ms ≤ now_ms → is_taken_up m (tale_of setup plan past) ≡ false) → ⊥
too-soon wait_ms now_ms setup plan log m has untaken =
    let moment : moment_of has.taken.before ≡ has.since = has.taken.moment in
    let long : has.since + wait_ms ≤ now_ms = has.long in
    never (sym has.taken.taken ∙ untaken has.taken.before has.taken.later has.taken.there (omega (arith, moment, long)))
