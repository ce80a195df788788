-- Of a router's log all is done at a wait.
use Rattle.std.specs.Prelude.{◌≡◌, Bool, length, None}
use Rattle.std.proofs.Common.{sym, subst, inl, inr}
use Rattle.mx_wire.specs.Log.{Log}
use Rattle.mx_wire.specs.declared.entry.Entry.{Entry}
use Rattle.mx_wire.specs.declared.entry.Entry.TheVariants as entry
use Rattle.private_model.specs.Names.{ClientNo, LinkId}
use Rattle.link_laws.specs.Stands.{Codes}
use Rattle.log_story.specs.Headline.{tale_of}
use Rattle.core_service.specs.declared.service.Service.{Service}
use Rattle.core_texts.specs.declared.texts.Texts.{Texts}
use Rattle.core_tables.specs.Tables.{Tabled}
use Rattle.core_stands.specs.Stands.{Rests}
use Rattle.core_laws.specs.entry.Dues.{AreWrittenTo}
use Rattle.core_laws.specs.entry.Safe.{IsSafe}
use Rattle.core_laws.specs.entry.Tells.{Fits, IsOf, ground}
use Rattle.tale_world.specs.Decided.{Decided}
use Rattle.router_promises.specs.Now.{now_at}
use Rattle.router_promises.specs.Terms.{Terms, plan_in, setup_in}
use Rattle.core_promises.specs.Waits.{IsDone}
use Rattle.router_laws.specs.clients.Leaves.{IsLossOf}
use Rattle.router_laws.specs.links.Loses.{Break, ReadEnds, ReadFails, WriteFails, entry_by}
use Rattle.core_promises.specs.Administers.{Administered}
use Rattle.router_laws.specs.decisions.Routers.{AreOpenJust, IsRouter, WaitsThen}
use Rattle.router_laws.specs.waits.Drained.{IsDrainedAt, IsDrainedFor}

-- the law
abbrev pub Done : Type 0
Done = (service : Service) (terms : Terms) (codes : Codes) (d : Decided) (log : Log) (t : Tabled) (roomy : ClientNo → Bool)
    → IsOf d (length log) (plan_in terms)
    → Fits d.keys (setup_in terms) codes (plan_in terms) service.default_schema (tale_of (setup_in terms) (plan_in terms) log)
    → Rests service.setup (ground (setup_in terms) codes (plan_in terms) d log) t roomy
    → AreWrittenTo (ground (setup_in terms) codes (plan_in terms) d log) log → IsSafe (setup_in terms) (plan_in terms) log
    → ((c : ClientNo) → d.ends c ≡ None → d.words c ≡ None) → AreOpenJust log t → IsDrainedFor t log
    → IsDone terms log (now_at terms log)

module _ {texts : Texts} {admin : Administered} (done : Done) (service : Service) (log : Log) (t : Tabled) (roomy : ClientNo → Bool) (router : IsRouter service texts admin log t roomy) where
  -- whatever the decisions call for
  all_done : IsDrainedFor t log → (terms : Terms) (codes : Codes) → IsOf router.core.decided (length log) (plan_in terms)
      → Fits router.core.decided.keys (setup_in terms) codes (plan_in terms) service.default_schema (tale_of (setup_in terms) (plan_in terms) log)
      → IsDone terms log (now_at terms log)
  all_done drained terms codes of fits =
      done service terms codes router.core.decided log t roomy of fits (router.core.rests (setup_in terms) codes (plan_in terms) of fits)
      (router.core.written (setup_in terms) codes (plan_in terms) of fits) (router.core.safe (setup_in terms) codes (plan_in terms) of fits)
      router.recorded.silent router.open_just drained

  pub waits_then : (e : Entry) → IsDrainedAt t log e → WaitsThen service log e router.core.decided
  waits_then (entry.Woke until_ms now_ms) drained = all_done drained
  waits_then entry.WaitFailed drained = all_done drained
  waits_then entry.Over drained = all_done drained
  waits_then _ drained = λ terms codes of fits. tt

-- A loss is no wait.

pub break_waits : (service : Service) (log : Log) (how : Break) (l : LinkId) (d : Decided) → WaitsThen service log (entry_by how l) d
break_waits service log ReadEnds l d = λ terms codes of fits. tt
break_waits service log ReadFails l d = λ terms codes of fits. tt
break_waits service log WriteFails l d = λ terms codes of fits. tt

pub loss_waits : (service : Service) (log : Log) (e : Entry) (l : LinkId) (d : Decided) → IsLossOf l e → WaitsThen service log e d
loss_waits service log e l d (inl ended) = subst (λ (x : Entry). WaitsThen service log x d) (sym ended) (break_waits service log ReadEnds l d)
loss_waits service log e l d (inr (inl failed)) = subst (λ (x : Entry). WaitsThen service log x d) (sym failed) (break_waits service log ReadFails l d)
loss_waits service log e l d (inr (inr failed)) = subst (λ (x : Entry). WaitsThen service log x d) (sym failed) (break_waits service log WriteFails l d)
