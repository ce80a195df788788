-- How what is known of a client stands for the promise's taking of its message.
use Rattle.std.specs.Prelude.{◌≡◌, ℕ, suc, ◌-◌, Bool, not, ◌||◌, is_some, drop, List, take, [], Option, Some, None, if◌then◌else◌}
use Rattle.hostgroups.specs.declared.server.Server.{Server}
use Rattle.mx_base.specs.Fields.{number_at}
use Rattle.mx_base.specs.declared.names.Hostgroup.{Hostgroup}
use Rattle.mx_base.specs.declared.names.Port.TheVariants.{Traffic}
use Rattle.log_story.specs.Executes.{Bound, bound_by}
use Rattle.log_story.specs.Executes as executes
use Rattle.log_story.specs.Owed.{messages, name_of}
use Rattle.log_story.specs.Plan.{Route}
use Rattle.log_story.specs.Tale.{view_of}
use Rattle.router_promises.specs.Router.{home_of}
use Rattle.router_promises.specs.Running.{has_online}
use Rattle.router_promises.specs.Statements.{are_types, is_full, known_statement, next_number}
use Rattle.router_promises.specs.Takings.{Taking, ordinal_of}
use Rattle.router_promises.specs.Terms.{Terms, plan_in, setup_in}
use Rattle.router_promises.specs.Verdicts.{held_in, last_due, transaction_in, user_in}
use Rattle.message_judge.specs.declared.caller.Caller.{Caller}
use Rattle.message_judge.specs.declared.caller.Prepared.{Prepared}
use Rattle.message_judge.specs.declared.caller.Standing.{Standing}

pub record IsCaller (terms : Terms) (flag : ℕ) (taking : Taking) (caller : Caller) : Type 0 where
  pub port : taking.client.port ≡ Traffic
  pub number : caller.number ≡ taking.client.number
  pub user : caller.user ≡ user_in terms taking
  pub home : caller.home ≡ home_of terms.router (user_in terms taking)
  pub place : caller.place ≡ (view_of (setup_in terms) taking.tale).places taking.client.number
  pub flag_is : caller.flag ≡ flag
  pub last : caller.last ≡ last_due taking.tale.story taking.client.number

-- the number of the next statement that it prepares, where it may have one more
abbrev pub number_in : Terms → Taking → Option ℕ
number_in terms taking =
    let view = view_of (setup_in terms) taking.tale in
    if is_full view (plan_in terms) taking.client (ordinal_of taking) then None
    else Some (next_number view (plan_in terms) taking.client (ordinal_of taking))

pub record Stands (terms : Terms) (taking : Taking) (standing : Standing) : Type 0 where
  pub transaction : standing.transaction ≡ transaction_in terms taking
  pub next_number : standing.next_number ≡ number_in terms taking

-- what was bound to a statement before the message
abbrev pub bound_in : Terms → Taking → (number : ℕ) → executes.Prepared → Bound
bound_in terms taking number prepared =
    bound_by prepared.params number (λ i. not (is_some ((plan_in terms).routes (name_of taking.client i)))) (suc prepared.ordinal)
    (drop prepared.ordinal (take (ordinal_of taking - 1) (messages (plan_in terms) taking.client))) (record { types = None; long = [] })

pub record IsPrepared (terms : Terms) (taking : Taking) (number : ℕ) (known : executes.Prepared) (prepared : Prepared) : Type 0 where
  pub params : prepared.params ≡ known.params
  pub bound : prepared.bound ≡ are_types known.params (bound_in terms taking number known).types
  pub key : terms.decided.keys known.key ≡ record { text = prepared.text; place = prepared.place }
  pub class : prepared.class ≡ terms.router.reads.class prepared.text
  pub route : Route
  pub went : (plan_in terms).routes (name_of taking.client known.ordinal) ≡ Some route
  pub hostgroup : prepared.hostgroup ≡ route.hostgroup
  pub multiplex : prepared.multiplex ≡ route.multiplex

-- the statement of a number, or none
abbrev pub IsPreparedOr : Terms → Taking → (number : ℕ) → Option executes.Prepared → Option Prepared → Type 0
IsPreparedOr terms taking number (Some known) (Some prepared) = IsPrepared terms taking number known prepared
IsPreparedOr terms taking number None prepared = prepared ≡ None
IsPreparedOr terms taking number (Some known) None = ⊥

-- that of the number which the message names
abbrev pub IsNamed : Terms → Taking → Option Prepared → Type 0
IsNamed terms taking prepared =
    (number : ℕ) → number_at 4 1 taking.message.payload ≡ Some number
    → IsPreparedOr terms taking number (known_statement (view_of (setup_in terms) taking.tale) (plan_in terms) taking.client number (ordinal_of taking)) prepared

-- there is a link that carries its session in the hostgroup, or a server
abbrev pub is_there : Terms → List Server → Taking → Hostgroup → Bool
is_there terms servers taking hostgroup = is_some (held_in terms taking hostgroup).home || has_online servers hostgroup
