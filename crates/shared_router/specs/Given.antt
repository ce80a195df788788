-- What is said of statements that are given up.
use Rattle.std.specs.Prelude.{◌≡◌, ◌+◌, ◌≤◌, ℕ, true, [], ◌∷◌, Some}
use Rattle.mx_wire.specs.Log.{Log}
use Rattle.mx_wire.specs.declared.entry.Entry.{Entry}
use Rattle.private_model.specs.Names.{MessageName}
use Rattle.log_story.specs.Plan.{OwnAnswer, Route}
use Rattle.router_promises.specs.Errors.{replay_refused}
use Rattle.router_promises.specs.GivenUp.{GivesUp, is_in_work}
use Rattle.router_promises.specs.Keys.{is_waiting}
use Rattle.router_promises.specs.Now.{Now, entry_now, next, now_at}
use Rattle.router_promises.specs.Terms.{Terms, plan_in}
use Rattle.shared_router.specs.Known.{Known}

-- each has its cause, by what is known before the entry and behind it

abbrev pub AreGivenUp : Terms → Now → Entry → Type 0
AreGivenUp terms now e = (m : MessageName) (answer : OwnAnswer) → (plan_in terms).own m ≡ Some answer → answer.from ≡ entry_now now
    → GivesUp terms now (next terms now e) e m answer.payloads

abbrev pub GivenUpSo : Terms → Log → Entry → Type 0
GivenUpSo terms log e = AreGivenUp terms (now_at terms log) e

-- and a step that was refused gives up one

abbrev pub IsRefusedWith : Terms → Now → (code : ℕ) → MessageName → Type 0
IsRefusedWith terms now code m = (plan_in terms).own m ≡ Some (record { from = entry_now now; payloads = replay_refused code ∷ [] })

abbrev pub RefusesOne : Terms → Now → Type 0
RefusesOne terms now = (code : ℕ) (m other : MessageName) → IsRefusedWith terms now code m → IsRefusedWith terms now code other → m ≡ other

abbrev pub RefusesOneSo : Terms → Log → Entry → Type 0
RefusesOneSo terms log e = RefusesOne terms (now_at terms log)

-- one that waited too long, as the loop wakes
pub record IsOverdue (k : Known) (now_ms : ℕ) (m : MessageName) (route : Route) : Type 0 where
  pub in_work : is_in_work k.terms k.now m ≡ true
  pub goes : (plan_in k.terms).routes m ≡ Some route
  pub waits : is_waiting k.terms k.now m.client route.hostgroup m.ordinal ≡ true
  pub long : k.now.since m + k.terms.router.proxy.wait_ms ≤ now_ms
