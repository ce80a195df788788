-- What goes to a server is a message of a client at the port of clients.
use Rattle.std.specs.Prelude.{◌≡◌, ℕ, Bool, true, false, List, Some, None}
use Rattle.std.proofs.Common.{refl, sym, ◌∙◌}
use Rattle.hostgroups.specs.declared.server.Server.{Server}
use Rattle.mx_base.specs.declared.names.{Port.Port, Port.TheVariants.Admin, Port.TheVariants.Traffic}
use Rattle.log_story.specs.Plan.{Route}
use Rattle.router_promises.specs.Takings.{Taking, message_in}
use Rattle.router_promises.specs.Terms.{Terms, plan_in}
use Rattle.router_promises.specs.Verdicts.{Kind, Quits, kind_in, verdict, verdict_at}
use Rattle.shared_router.specs.Judged.{IsMet}

module _ (terms : Terms) (servers : List Server) (flag : ℕ) (taking : Taking) (route : Route) (goes : (plan_in terms).routes (message_in taking) ≡ Some route) where
  no_route : {A : Type 0} → (plan_in terms).routes (message_in taking) ≡ None → A
  no_route is = let none : None ≡ Some route = sym is ∙ goes in absurd (cc)

  by_port : (port : Port) (kind : Kind) (starves : Bool) → IsMet starves terms taking (verdict_at port terms servers flag taking kind) → port ≡ Traffic
  by_port Traffic kind starves met = refl
  by_port Admin kind true left = no_route left.route
  by_port Admin Quits false left = no_route left.route
  by_port Admin _ false told = no_route told.route

  pub is_traffic : (starves : Bool) → IsMet starves terms taking (verdict terms servers flag taking) → taking.client.port ≡ Traffic
  is_traffic starves met = by_port taking.client.port (kind_in terms taking) starves met
