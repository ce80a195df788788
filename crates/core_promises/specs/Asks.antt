-- What a server is asked for a client: the client's own text, or what the rules make of it.
use Rattle.std.specs.Prelude.{◌≡◌, ◌<◌, ℕ, suc, All, drop, slice_get, List, Option, Some, None}
use Rattle.mx_wire.specs.Log.{Log}
use Rattle.packet_frame.specs.Packets.{Framed}
use Rattle.query_rules.specs.Passing.{route_of}
use Rattle.query_rules.specs.declared.ask.Ask.{Ask}
use Rattle.query_rules.specs.declared.rule.Rule.{Rule}
use Rattle.private_model.specs.Names.{MessageName}
use Rattle.log_story.specs.Owed.{messages, name_of}
use Rattle.log_story.specs.Plan.{Plan, Route}
use Rattle.log_story.specs.Tale.{Client}
use Rattle.router_promises.specs.Terms.{Terms, plan_in, tale_at}

-- by some flag, user and schema
pub record IsRewritten (rules : List Rule) (payload text : List ℕ) : Type 0 where
  pub ask : Ask
  pub own : ask.text ≡ drop 1 payload
  pub is : text ≡ (route_of rules ask).text

-- the text of a route, if it has one, is that of the message with this payload
abbrev pub IsTextOf : List Rule → (payload : List ℕ) → Option (List ℕ) → Type 0
IsTextOf rules payload None = Unit {0}
IsTextOf rules payload (Some text) = IsRewritten rules payload text

-- of each message that was taken up and goes to a server
abbrev pub AsksOwnOf : (rules : MessageName → List Rule) → Plan → Client → Type 0
AsksOwnOf rules plan client =
    (k : ℕ) (message : Framed) (route : Route) → k < client.taken → slice_get (messages plan client) k ≡ Some message
    → plan.routes (name_of client (suc k)) ≡ Some route → IsTextOf (rules (name_of client (suc k))) message.payload route.text

-- of each client
abbrev pub AsksSo : Terms → (rules : MessageName → List Rule) → Log → Type 0
AsksSo terms rules log = All (AsksOwnOf rules (plan_in terms)) (tale_at terms log).clients

-- no message goes to a second server
abbrev pub CopiesNothing : Plan → Type 0
CopiesNothing plan = (m : MessageName) (route : Route) → plan.routes m ≡ Some route → route.mirror ≡ None
