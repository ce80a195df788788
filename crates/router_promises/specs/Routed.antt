-- That the plan's word on each message is the configuration's.
use Rattle.std.specs.Prelude.{◌≡◌, ◌⊎◌, ℕ, List, [], ◌∷◌, Option, Some, None}
use Rattle.hostgroups.specs.declared.server.Server.{Server}
use Rattle.mx_wire.specs.Log.{Log}
use Rattle.mx_wire.specs.declared.entry.Entry.{Entry}
use Rattle.private_model.specs.Names.{ClientNo}
use Rattle.private_model.specs.Story.{Key}
use Rattle.log_story.specs.Plan.{Behind, own_at}
use Rattle.router_promises.specs.Errors.{out_of_memory}
use Rattle.router_promises.specs.Now.{Now, flag_taken, now_at, takings_now}
use Rattle.router_promises.specs.Running.{servers_after}
use Rattle.router_promises.specs.Takings.{Taking, message_in}
use Rattle.router_promises.specs.Terms.{Terms, plan_in}
use Rattle.router_promises.specs.Verdicts.{Goes, Parts, Tells, Verdict, Wanted, verdict}

-- what is prepared stands under its key
abbrev pub IsKeyed : Terms → (key : ℕ) → Option Key → Type 0
IsKeyed terms key None = Unit {0}
IsKeyed terms key (Some wanted) = terms.decided.keys key ≡ wanted

-- the message goes where it should, as the text that it should; the key's number is the router's choice
pub record IsRoute (terms : Terms) (taking : Taking) (wanted : Wanted) : Type 0 where
  pub key : ℕ
  pub route : (plan_in terms).routes (message_in taking) ≡ Some (record wanted.route { key = key })
  pub keyed : IsKeyed terms key wanted.key
  pub unanswered : own_at (plan_in terms) taking.tale.moment (message_in taking) ≡ None

-- the router answers it at once
pub record IsTold (terms : Terms) (taking : Taking) (payloads : List (List ℕ)) : Type 0 where
  pub route : (plan_in terms).routes (message_in taking) ≡ None
  pub own : (plan_in terms).own (message_in taking) ≡ Some (record { from = 0; payloads = payloads })

-- its client ends by it
pub record IsParting (terms : Terms) (taking : Taking) : Type 0 where
  pub route : (plan_in terms).routes (message_in taking) ≡ None
  pub unanswered : own_at (plan_in terms) taking.tale.moment (message_in taking) ≡ None
  pub ends : (plan_in terms).ends taking.client.number ≡ Some taking.tale.moment

-- there is no memory for it: its client ends by it, and is told so
pub record IsStarved (terms : Terms) (taking : Taking) : Type 0 where
  pub left : IsParting terms taking
  pub word : (plan_in terms).words taking.client.number
      ≡ Some (record { from = taking.tale.moment; place = Behind; payloads = out_of_memory ∷ [] })

abbrev pub IsSo : Terms → Taking → Verdict → Type 0
IsSo terms taking Parts = IsParting terms taking
IsSo terms taking (Tells payloads) = IsTold terms taking payloads
IsSo terms taking (Goes wanted) = IsRoute terms taking wanted

abbrev pub AreSo : Terms → List Server → (flags : ClientNo → ℕ) → List Taking → Type 0
AreSo terms servers flags [] = Unit {0}
AreSo terms servers flags (taking ∷ takings) =
    (IsSo terms taking (verdict terms servers (flags taking.client.number) taking) ⊎ IsStarved terms taking)
    × AreSo terms servers (flag_taken terms flags taking) takings

abbrev pub RoutesBy : Terms → Now → Entry → Type 0
RoutesBy terms now e = AreSo terms (servers_after terms now.clock now.tale e now.servers) now.flags (takings_now terms now e)

-- at each entry, each message that is taken up
abbrev pub RoutesSo : Terms → Log → Entry → Type 0
RoutesSo terms log e = RoutesBy terms (now_at terms log) e
