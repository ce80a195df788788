-- What a log that keeps clients apart has at a moment, and what its story tells.
use Rattle.std.specs.Prelude.{◌≡◌, ℕ, ◌+◌, ◌<◌, Bool, true, false, All, List, [], ◌∷◌, ◌++◌, fold, length, slice_index_or, Option, Some, None}
use Rattle.std.proofs.Common.{ap, arith, inl, inr, length-append, subst, sym, ◌∙◌}
use Rattle.client_session.specs.Answers.{account, opening_of}
use Rattle.client_side.specs.Login.{Says}
use Rattle.handshake.specs.declared.response.Response.{Response}
use Rattle.mx_base.specs.declared.names.LinkId.{LinkId}
use Rattle.mx_wire.specs.Log.{Log, written_of}
use Rattle.mx_wire.specs.declared.entry.Entry.{Entry}
use Rattle.server_side.specs.Account.{Account as Login}
use Rattle.private_model.specs.Lawful.{IsLawful, IsStatement, MayCome, MayFree, MayLend}
use Rattle.private_model.specs.Names.{SessionName}
use Rattle.private_model.specs.Story.{Due, Happening, Story}
use Rattle.private_model.specs.View.{Carried, Held, Joined, Lent, Link, Nobody, Quiet, Setup, Stage, View, view_after}
use Rattle.session_state.specs.Pins.{needs_reset}
use Rattle.log_story.specs.Honest.{IsFront}
use Rattle.log_story.specs.Owed.{due_bytes, talk_of}
use Rattle.log_story.specs.Plan.{Plan, StepText}
use Rattle.log_story.specs.Said.{ClosesFirst, IsNothing, IsSaid, IsSaidBehind, SaysFrom, SaysSo, SaysThere}
use Rattle.log_story.specs.Tale.{Client, Tale, Wire, first_tale, is_to_server, link_in, view_of}
use Rattle.log_story.specs.Telling.{tale_step}
use Rattle.router_promises.specs.Due.{DueSo, due_to}
use Rattle.router_promises.specs.Now.{now_at}
use Rattle.router_promises.specs.Terms.{AreWhoTheySay, IsWhoItSays, Terms, login_as, plan_in, setup_in, tale_at}
use Rattle.router_promises.proofs.Refusals.{at-index, came-at, held-at}
use Rattle.router_promises.proofs.Saying.{lawful-last, now-tale}
use Rattle.core_promises.specs.Sessions.{KeepsApart}
use Rattle.core_promises.specs.Wrong.{Has, Tells}

-- what is told of a story could come
pub could-come : (terms : Terms) (past : Story) (e : Happening) → Tells terms past e → MayCome (setup_in terms) (view_after (setup_in terms) past) e
could-come terms past e tells =
    came-at (setup_in terms) tells.later past e (subst (IsLawful (setup_in terms)) tells.story (lawful-last terms tells.log tells.keeps.lawful))

-- Links that are lent.

pub joined-lent : {A : Type 0} (a b : SessionName) → ◌≡◌ {A = Carried} (Joined a) (Lent b) → A
joined-lent a b is = absurd (cc)

lent-nobody : {A : Type 0} (a : SessionName) → ◌≡◌ {A = Carried} (Lent a) Nobody → A
lent-nobody a is = absurd (cc)

same-lent : (a b : SessionName) → ◌≡◌ {A = Carried} (Lent a) (Lent b) → a ≡ b
same-lent a b is = cc

pub same-joined : (a b : SessionName) → ◌≡◌ {A = Carried} (Joined a) (Joined b) → a ≡ b
same-joined a b is = cc

lent-by : (n other : SessionName) (link : Link) (held : Held) → MayLend n link held → link.carries ≡ Lent other → other ≡ n
lent-by n other link held (inl vacant) carries = lent-nobody other (sym carries ∙ vacant.free)
lent-by n other link held (inr lent) carries = same-lent other n (sym carries ∙ lent)

pub lent-to : (setup : Setup) (view : View) (n other : SessionName) (due : Due) (link : Link) → IsStatement setup view n due link → link.carries ≡ Lent other → other ≡ n
lent-to setup view n other due link is carries = elim is.how [
  | inl begins ↦ lent-by n other link (view.held n) begins.lends carries
  | inr goes_on ↦ joined-lent n other (sym goes_on.carries ∙ carries)
]

-- what is given back needs no reset
pub freed-clean : (view : View) (link : Link) (n : SessionName) → MayFree view link → link.carries ≡ Joined n → needs_reset (view.held n).pin ≡ false
freed-clean view link n free carries = elim free.carries [
  | inl joined ↦ subst (λ (m : SessionName). needs_reset (view.held m).pin ≡ false) (same-joined free.who n (sym joined ∙ carries)) free.harmless
  | inr lent ↦ joined-lent n free.who (sym carries ∙ lent)
]

-- Bytes for clients.

pub front-at : (terms : Terms) (before more : Log) (k : ℕ) (client : Client) → KeepsApart terms (before ++ more) → k < length (now_at terms before).tale.clients
    → slice_index_or (now_at terms before).tale.clients k client ≡ client → IsFront (written_of client.link before) (due_to terms (now_at terms before) client)
front-at terms before more k client keeps within is =
    at-index (λ (x : Client). IsFront (written_of x.link before) (due_bytes (view_of (setup_in terms) (now_at terms before).tale).replies (plan_in terms) (now_at terms before).tale.moment x))
    (now_at terms before).tale.clients k client
    (subst (λ (t : Tale). All (λ (x : Client). IsFront (written_of x.link before) (due_bytes (view_of (setup_in terms) t).replies (plan_in terms) t.moment x)) t.clients)
    (sym (now-tale terms before)) (held-at (DueSo terms) before more keeps.due)) within is

-- no front is longer than the whole
pub no-longer : (front whole : List ℕ) (byte : ℕ) (bytes : List ℕ) → IsFront front whole → front ≡ whole ++ byte ∷ bytes → ⊥
no-longer front whole byte bytes is longer =
    let all : length (front ++ is.rest) ≡ length whole = ap length is.is in
    let parts : length (front ++ is.rest) ≡ length front + length is.rest = length-append front is.rest in
    let long : length front ≡ length (whole ++ byte ∷ bytes) = ap length longer in
    let more : length (whole ++ byte ∷ bytes) ≡ length whole + length (byte ∷ bytes) = length-append whole (byte ∷ bytes) in
    omega (arith, all, parts, long, more)

-- Who clients are.

pub who-at : (terms : Terms) (before more : Log) (k : ℕ) (client : Client) (switched : Bool) (response : Response) (id : ℕ) (rest : List ℕ) (login : Login)
    → KeepsApart terms (before ++ more) → k < length (tale_at terms before).clients → slice_index_or (tale_at terms before).clients k client ≡ client
    → opening_of (talk_of (plan_in terms) client) ≡ Says switched response id rest → account (talk_of (plan_in terms) client) ≡ Some login
    → terms.decided.accounts client.number ≡ login_as login
who-at terms before more k client switched response id rest login keeps within is says logs_in =
    let who : IsWhoItSays terms client (opening_of (talk_of (plan_in terms) client)) =
    at-index (λ (c : Client). IsWhoItSays terms c (opening_of (talk_of (plan_in terms) c))) (tale_at terms before).clients k client
    (held-at (AreWhoTheySay terms) before more keeps.who) within is in
    let so : IsWhoItSays terms client (Says switched response id rest) = subst (IsWhoItSays terms client) says who in
    (so login logs_in).0

-- Bytes for servers.

says-from : (setup : Setup) (plan : Plan) (tale : Tale) (before more : Log) → SaysFrom setup plan tale (before ++ more) → SaysFrom setup plan (fold (tale_step setup plan) tale before) more
says-from setup plan tale [] more says = says
says-from setup plan tale (e ∷ before) more says = says-from setup plan (tale_step setup plan tale e) before more says.2

says-now : (setup : Setup) (plan : Plan) (tale : Tale) (log : Log) → SaysFrom setup plan tale log → SaysSo setup plan tale
says-now setup plan tale [] says = says
says-now setup plan tale (e ∷ log) says = says.0

pub says-at : (terms : Terms) (before more : Log) → KeepsApart terms (before ++ more) → SaysSo (setup_in terms) (plan_in terms) (tale_at terms before)
says-at terms before more keeps =
    says-now (setup_in terms) (plan_in terms) (tale_at terms before) more (says-from (setup_in terms) (plan_in terms) first_tale before more keeps.said)

pub closes-at : (terms : Terms) (before : Log) (e : Entry) → Has terms before e → ClosesFirst (setup_in terms) (tale_at terms before) e
closes-at terms before e has = (says-from (setup_in terms) (plan_in terms) first_tale before (e ∷ has.more) has.keeps.said).1

-- what is written where nothing stands
pub nothing-at : (terms : Terms) (before more : Log) (link : LinkId) → KeepsApart terms (before ++ more) → is_to_server (tale_at terms before) link ≡ true
    → ((tale_at terms before).wires link).entered ≡ true → (link_in (setup_in terms) (tale_at terms before) link).stage ≡ Quiet
    → ((tale_at terms before).wires link).step ≡ None → ((tale_at terms before).wires link).quits ≡ false → ((tale_at terms before).wires link).written ≡ []
nothing-at terms before more link keeps there entered quiet no_step stays =
    let tale = tale_at terms before in
    let wire : Wire = tale.wires link in
    let at : Link = link_in (setup_in terms) tale link in
    let says : SaysThere (setup_in terms) (plan_in terms) tale link = says-at terms before more keeps link there in
    let said : IsSaidBehind wire at = subst (λ (b : Bool). IsSaid b ((plan_in terms).logins link) wire at) entered says in
    let none : IsNothing Quiet wire.step wire.written = subst (λ (s : Stage). IsNothing s wire.step wire.written) quiet (said.nothing stays) in
    subst (λ (s : Option StepText). IsNothing Quiet s wire.written) no_step none
