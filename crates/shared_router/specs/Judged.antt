-- What a plan says of a message that is taken up, by the verdict on it.
use Rattle.std.specs.Prelude.{◌≡◌, ℕ, zero, suc, Bool, false, length, true, All, List, [], ◌∷◌, ◌++◌, Some, None}
use Rattle.hostgroups.specs.declared.server.Server.{Server}
use Rattle.mx_wire.specs.Log.{Log}
use Rattle.mx_wire.specs.declared.entry.Entry.{Entry}
use Rattle.packet_frame.specs.Packets.{Framed}
use Rattle.private_model.specs.Names.{ClientNo, LinkId}
use Rattle.private_model.specs.View.{View}
use Rattle.log_story.specs.Owed.{messages, name_of}
use Rattle.log_story.specs.Plan.{Plan, own_at}
use Rattle.log_story.specs.Tale.{Client, Tale, view_of}
use Rattle.tale_world.specs.Decided.{plan_of}
use Rattle.tale_world.specs.Deciding.{World}
use Rattle.tale_world.specs.World.{are_freed, decided_last, decided_looked, goes_on, is_called, is_counted, is_told, is_up, next_message, next_of, taken_once, with_taken}
use Rattle.router_promises.specs.Ends.{EndsRight, WordRight}
use Rattle.router_promises.specs.Now.{flag_taken, next, now_at, takings_now}
use Rattle.router_promises.specs.Routed.{IsRoute, IsTold}
use Rattle.router_promises.specs.Running.{servers_after}
use Rattle.router_promises.specs.Takings.{Taking, message_in}
use Rattle.router_promises.specs.Terms.{Terms, Tried, plan_in}
use Rattle.router_promises.specs.Verdicts.{Goes, Parts, Tells, Verdict, verdict}
use Rattle.shared_router.specs.Fixed.{Fixed, setup_of}
use Rattle.shared_router.specs.More.{More}
use Rattle.shared_router.specs.Shared.{shared, world_at}

-- the same but for the plan, and for what the world has beside it

abbrev pub with_plan : Terms → Plan → Terms
with_plan terms plan = record terms { decided = record terms.decided { plan = plan } }

abbrev pub with_rest : Terms → Plan → (bare : LinkId → Bool) → (tried : ℕ → Tried) → Terms
with_rest terms plan bare tried = record terms { decided = record terms.decided { plan = plan; bare = bare; tried = tried } }

-- its client parts by it: neither a route nor an answer by now
pub record IsLeft (terms : Terms) (taking : Taking) : Type 0 where
  pub route : (plan_in terms).routes (message_in taking) ≡ None
  pub unanswered : own_at (plan_in terms) taking.tale.moment (message_in taking) ≡ None

abbrev pub IsJudged : Terms → Taking → Verdict → Type 0
IsJudged terms taking Parts = IsLeft terms taking
IsJudged terms taking (Tells payloads) = IsTold terms taking payloads
IsJudged terms taking (Goes wanted) = IsRoute terms taking wanted

-- where memory is refused, it is left
abbrev pub IsMet : (starves : Bool) → Terms → Taking → Verdict → Type 0
IsMet true terms taking verdict = IsLeft terms taking
IsMet false terms taking verdict = IsJudged terms taking verdict

-- A message comes up, and nothing was decided of it before.
pub record IsFresh (fixed : Fixed) (w : World More) (client : Client) (message : Framed) : Type 0 where
  pub up : is_up (setup_of fixed) (decided_looked (setup_of fixed) (shared fixed) w client) w.tale client ≡ true
  pub next : next_message (decided_looked (setup_of fixed) (shared fixed) w client) client ≡ Some message
  pub route : (decided_looked (setup_of fixed) (shared fixed) w client).routes (name_of client (suc client.taken)) ≡ None
  pub own : (decided_looked (setup_of fixed) (shared fixed) w client).own (name_of client (suc client.taken)) ≡ None

-- each in a row, by the flags that those before it leave
abbrev pub AreJudged : (starves : ℕ → ClientNo → Bool) → Terms → List Server → (flags : ClientNo → ℕ) → List Taking → Type 0
AreJudged starves terms servers flags [] = Unit {0}
AreJudged starves terms servers flags (taking ∷ takings) =
    IsMet (starves taking.tale.moment taking.client.number) terms taking (verdict terms servers (flags taking.client.number) taking)
    × AreJudged starves terms servers (flag_taken terms flags taking) takings

-- of each message that is taken up at an entry nothing was decided before it came up

abbrev pub IsPrompt : Fixed → (most : ℕ) → Client → World More → Type 0
IsPrompt fixed zero client w = Unit {0}
IsPrompt fixed (suc most) client w =
    (tale : Tale) → taken_once (setup_of fixed) (shared fixed) w client ≡ Some tale
    → (message : Framed) → next_message (decided_looked (setup_of fixed) (shared fixed) w client) client ≡ Some message
    → IsFresh fixed w client message × IsPrompt fixed most (next_of client) (with_taken (setup_of fixed) (shared fixed) w client tale)

-- as the client's last message was looked at
abbrev pub looked_last : Fixed → World More → Client → World More
looked_last fixed w client = record w { decided = decided_last (shared fixed) w client }

abbrev pub ArePrompt : Fixed → View → Entry → List Client → World More → Type 0
ArePrompt fixed view e [] w = Unit {0}
ArePrompt fixed view e (client ∷ clients) w =
    (is_called (decided_last (shared fixed) w client) w.tale.moment view e client ≡ true
    → IsPrompt fixed (length (messages (plan_of (decided_last (shared fixed) w client)) client)) client (looked_last fixed w client))
    × ArePrompt fixed view e clients (goes_on (setup_of fixed) (shared fixed) view e w client)

-- as messages are looked at
abbrev pub heard : Fixed → World More → Entry → World More
heard fixed w e = are_freed (setup_of fixed) (shared fixed) (is_counted (shared fixed) (is_told (setup_of fixed) (shared fixed) w e) e)

abbrev pub IsPromptAt : Fixed → World More → Entry → Type 0
IsPromptAt fixed w e = ArePrompt fixed (view_of (setup_of fixed) w.tale) e (heard fixed w e).tale.clients (heard fixed w e)

-- along a log

abbrev pub PromptSo : Fixed → Log → Entry → Type 0
PromptSo fixed log e = IsPromptAt fixed (world_at fixed log) e

-- the promise on routes, but that of a client that parts less is said, and of one for which there is no memory
abbrev pub JudgedSo : (starves : ℕ → ClientNo → Bool) → Terms → Log → Entry → Type 0
JudgedSo starves terms log e = AreJudged starves terms (servers_after terms (now_at terms log).clock (now_at terms log).tale e (now_at terms log).servers) (now_at terms log).flags
    (takings_now terms (now_at terms log) e)

-- the promise on ends, but for last words and for when the links of clients that ended close
abbrev pub EndsFor : Terms → Log → Entry → Type 0
EndsFor terms log e =
    let later = next terms (now_at terms log) e in
    All (EndsRight terms (log ++ e ∷ []) (now_at terms log) later e) later.tale.clients

-- and on last words
abbrev pub WordsFor : Terms → Log → Entry → Type 0
WordsFor terms log e =
    let later = next terms (now_at terms log) e in
    All (WordRight terms (log ++ e ∷ []) (now_at terms log) later e) later.tale.clients
