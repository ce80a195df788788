use Rattle.std.specs.Prelude.{◌≡◌, ℕ, List, Option}
use Rattle.std.proofs.Common.{inl, subst, ◌∙◌}
use Rattle.proxy_run.specs.Run.{Says}
use Rattle.proxy_run.proofs.running.say_fault.Goals as goal

says-as : (line other : List ℕ) (old : Option (List ℕ)) (before : ℕ) (new : Option (List ℕ)) (now : ℕ) → other ≡ line → Says other old before new now → Says line old before new now
says-as line other old before new now same says = subst (λ l. Says l old before new now) same says

pub returns-in-Ok : goal.returns-in-Ok
returns-in-Ok g c = inl (record { is = c.say.ensures.status; says = says-as _ _ _ _ _ _ (c.as_bytes.ensures.value ∙ c.in-Ok.ensures.ok) c.say.ensures.says })
