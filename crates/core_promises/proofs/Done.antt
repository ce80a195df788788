-- What is done where the loop waits.
use Rattle.std.specs.Prelude.{◌≡◌, ◌⊎◌, true, false, Bool, ◌||◌, Option, Some, None}
use Rattle.std.proofs.Common.{subst, sym, ◌∙◌, inl, inr}
use Rattle.mx_base.specs.declared.names.LinkId.{LinkId}
use Rattle.mx_wire.specs.Log.{Log, is_open}
use Rattle.mx_wire.specs.declared.entry.Entry.{Entry}
use Rattle.mx_wire.specs.declared.entry.Entry.TheVariants as entry
use Rattle.log_story.specs.Owed.{name_of}
use Rattle.log_story.specs.Plan.{Route}
use Rattle.log_story.specs.Tale.{Client}
use Rattle.private_model.specs.Names.{MessageName, SessionName}
use Rattle.private_model.specs.Story.{Question}
use Rattle.private_model.specs.View.{Asked, Stage}
use Rattle.ready_loop.specs.Drained.{write_dry}
use Rattle.router_promises.specs.Dues.{is_due}
use Rattle.router_promises.specs.Ends.{was_answered}
use Rattle.router_promises.specs.Now.{Now, held_now, link_now, now_at, view_now}
use Rattle.router_promises.specs.Rest.{IsBegunWhole}
use Rattle.router_promises.specs.Terms.{Terms, plan_in, setup_in}
use Rattle.router_promises.specs.Wakes.{has_ended}
use Rattle.router_promises.specs.Wrong.{IsWait}
use Rattle.router_promises.proofs.Refusals.{at-index, kept-at, never}
use Rattle.core_promises.specs.Waits.{IsAtWork, IsDone, IsOnItsWay, IsServed, WaitsBy, WaitsSo}
use Rattle.core_promises.specs.Wrong.{Expects, GoesOn, HasWait, session_for}

done-by : (terms : Terms) (log : Log) (now : Now) (e : Entry) → IsWait e → WaitsBy terms log now e → IsDone terms log now
done-by terms log now (entry.Woke until_ms now_ms) wait done = done
done-by terms log now entry.WaitFailed wait done = done
done-by terms log now entry.Over wait done = done
done-by terms log now _ wait done = elim wait [ ]

pub done-at : (terms : Terms) (before : Log) → HasWait terms before → IsDone terms before (now_at terms before)
done-at terms before wait =
    done-by terms before (now_at terms before) wait.e wait.is (kept-at (WaitsSo terms) before wait.has.more wait.e wait.has.keeps.waits)

pub served-at : (terms : Terms) (before : Log) (client : Client) → HasWait terms before → GoesOn terms before client → IsServed terms before (now_at terms before) client
served-at terms before client wait goes =
    at-index (λ (c : Client). has_ended terms (now_at terms before) c ≡ false → is_open c.link before ≡ true → IsServed terms before (now_at terms before) c)
    (now_at terms before).tale.clients goes.place client (done-at terms before wait).served goes.within goes.is goes.stays goes.opened

pub neither : (a b : Bool) → a ≡ false → b ≡ false → (a || b) ≡ true → ⊥
neither false false x y is = never (sym is)
neither true b x y is = never x
neither false true x y is = never y

pub work-at : (terms : Terms) (before : Log) (client : Client) (route : Option Route) → HasWait terms before → GoesOn terms before client
    → was_answered terms (now_at terms before) client ≡ false → (plan_in terms).routes (name_of client client.taken) ≡ route
    → IsAtWork terms before (now_at terms before) client route
work-at terms before client route wait goes open_yet goes_to =
    subst (IsAtWork terms before (now_at terms before) client) goes_to ((served-at terms before client wait goes).worked open_yet)

-- a statement that doesn't wait for a link is on its way
pub way-at : (terms : Terms) (before : Log) (client : Client) (route : Route) → Expects terms before client route
    → IsOnItsWay terms before (now_at terms before) (name_of client client.taken) (session_for terms before client route)
way-at terms before client route expects = elim (work-at terms before client (Some route) expects.wait expects.goes expects.unanswered expects.goes_to) [
  | inl unsent ↦ never (sym unsent ∙ expects.sent)
  | inr way ↦ way
]

pub same-link : (a b : LinkId) → ◌≡◌ {A = Option LinkId} (Some a) (Some b) → a ≡ b
same-link a b is = cc

pub no-home : {A : Type 0} (a : LinkId) → ◌≡◌ {A = Option LinkId} (Some a) None → A
no-home a is = absurd (cc)

-- on the link that carries its session
module _ (terms : Terms) (before : Log) (m : MessageName) (n : SessionName) (link : LinkId) (way : IsOnItsWay terms before (now_at terms before) m n)
    (home : (held_now (setup_in terms) (now_at terms before) n).home ≡ Some link) where
  same : way.link ≡ link
  same = same-link way.link link (sym way.home ∙ home)

  pub stated-on : ((view_now (setup_in terms) (now_at terms before)).carriers m ≡ Some link) ⊎ (is_due terms (now_at terms before).tale n ≡ true)
  stated-on = subst (λ (l : LinkId). ((view_now (setup_in terms) (now_at terms before)).carriers m ≡ Some l) ⊎ (is_due terms (now_at terms before).tale n ≡ true)) same way.stated

  pub begun-on : (question : Question) → (link_now (setup_in terms) (now_at terms before) link).stage ≡ Asked question
      → (write_dry link before ≡ true) ⊎ IsBegunWhole (setup_in terms) (now_at terms before) link (Asked question)
  begun-on question asked =
      let goes : (write_dry link before ≡ true) ⊎ IsBegunWhole (setup_in terms) (now_at terms before) link (link_now (setup_in terms) (now_at terms before) link).stage =
      subst (λ (l : LinkId). (write_dry l before ≡ true) ⊎ IsBegunWhole (setup_in terms) (now_at terms before) l (link_now (setup_in terms) (now_at terms before) l).stage) same way.goes in
      subst (λ (s : Stage). (write_dry link before ≡ true) ⊎ IsBegunWhole (setup_in terms) (now_at terms before) link s) asked goes
