-- Servers that show their diagnostics whole, wherever they show any.
use Rattle.std.specs.Prelude.{◌≡◌, Bool, true, false, List, ℕ}
use Rattle.std.proofs.Common.{refl, sym, ap, ◌∙◌, subst}
use Rattle.server_rule.specs.Laws.{IsBlind}
use Rattle.server_rule.specs.Servers.{AgreeWhere, Outcome, Step, Tests, with_diag}
use Rattle.server_rule.specs.declared.command.Cmd.{Cmd}
use Rattle.server_rule.specs.declared.session.Session.{Session}

pub blind_same : (tests : Tests) (own_diag own_found : Bool) (diag diag' : List ℕ) (there here : Outcome) → there ≡ here → IsBlind tests own_diag own_found diag diag' there here
blind_same tests own_diag own_found diag diag' there here same = subst (λ x. IsBlind tests own_diag own_found diag diag' x here) (sym same)
    (record { stored = refl; reply = refl; session = refl; warnings = λ was. refl; found = λ was. refl })

pub blind_whole : (tests : Tests) → ((diag : List ℕ) → tests.warnings diag ≡ diag) → (step : Step) (stored : List ℕ) (s : Session) (c : Cmd) (diag : List ℕ) (sees sees_found own_diag own_found : Bool)
    → (sees ≡ false → step stored (with_diag diag s) c ≡ step stored s c) → AgreeWhere tests sees sees_found diag s.diag
    → IsBlind tests own_diag own_found diag s.diag (step stored (with_diag diag s) c) (step stored s c)
blind_whole tests whole step stored s c diag true sees_found own_diag own_found unseen agree =
    blind_same tests own_diag own_found diag s.diag _ _ (ap (λ d. step stored (with_diag d s) c) (sym (whole diag) ∙ agree.warnings refl ∙ whole s.diag))
blind_whole tests whole step stored s c diag false sees_found own_diag own_found unseen agree = blind_same tests own_diag own_found diag s.diag _ _ (unseen refl)
