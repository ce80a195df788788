-- What is made of the tables as clients go on and statements are given up, and what stays as it was.
use Rattle.std.specs.Prelude.{◌≡◌, ◌<◌, ℕ, Bool, true, All, is_some, if◌then◌else◌, map, List, [], ◌∷◌, ◌++◌, Option, Some, None}
use Rattle.std.specs.BTreeSet.{BTreeSet, contains}
use Rattle.std.specs.List.{list_any}
use Rattle.std.specs.Option.{option_map}
use Rattle.std.specs.Ordering.{nat_cmp}
use Rattle.mx_base.specs.declared.names.ClientNo.{ClientNo}
use Rattle.mx_base.specs.declared.names.LinkId.{LinkId}
use Rattle.private_model.specs.Story.{is_client}
use Rattle.session_state.specs.declared.names.SessionName.{SessionName}
use Rattle.client_seat.specs.Seats.{account_in}
use Rattle.core_policy.specs.declared.verdict.GiveUp.{GiveUp}
use Rattle.core_service.specs.Failures.{payload_of}
use Rattle.core_service.specs.Serves.{rules_in}
use Rattle.core_service.specs.declared.failure.Failure.{Failure}
use Rattle.core_service.specs.declared.service.Service.{Service}
use Rattle.core_tables.specs.Parting.{given_up, given_up_in}
use Rattle.core_tables.specs.Tables.{IsSame, Tabled}
use Rattle.core_tables.specs.declared.client.Client.{Client}
use Rattle.core_laws.specs.clients.Follows.{FollowsSo, IsUnfaulty, Parting, PartsSo, Stays, ends_by, quits_by}
use Rattle.core_laws.specs.clients.Going.{GivenUp, GoesSo, Going, IsCalled, is_going, told_to}
use Rattle.core_laws.specs.clients.Turns.{Choice, Halt, MayLeave, Rests}
use Rattle.own_words.specs.Own.{IsFailure}
use Rattle.core_promises.specs.Administers.{Administered}
use Rattle.core_promises.specs.Ruled.{AreRuled, Ruling, ruling_of}
use Rattle.core_texts.specs.Texts.{AreMore, key_at}
use Rattle.core_texts.specs.declared.texts.Texts.{Texts}
use Rattle.router_laws.specs.decisions.Partings.{IsOusted, IsPartedFor}
use Rattle.router_laws.specs.decisions.Rulings.{AreRuledAll, IsRuledOn}
use Rattle.router_laws.specs.decisions.Speaks.{AreGivenOurs, AreGoingOurs, IsOurs, IsPartingOurs}
use Rattle.marked_tables.specs.Goes.{GoesOn}
use Rattle.marked_tables.specs.Homes.{Rise, is_among, is_home_in}
use Rattle.router_laws.specs.reading.Givings.{MayBeGivenUp}
use Rattle.router_laws.specs.links.Loses.{IsGivenUpWith}
use Rattle.router_laws.specs.wakes.Calling.{AllGoOn, Caller, CallerGoesOn, CallsSo}
use Rattle.router_laws.specs.wakes.Deciding.{IsCallerOurs}
use Rattle.shared_core.specs.Causes.{given_with, is_heard, is_lost}
use Rattle.shared_core.specs.Stands.{work_of, worked}
use Rattle.shared_core.specs.declared.router.Router.{Router}

-- The texts that are kept behind turns, and what administrators work on, before them and behind.
pub record Made : Type 0 where
  pub texts : Texts
  pub was : Administered
  pub is : Administered

abbrev pub made_by : Service → (old new : Router) → Made
made_by service old new = record { texts = new.texts; was = worked service (work_of old); is = worked service (work_of new) }

abbrev pub ruling_in : Service → Made → Ruling
ruling_in service made = ruling_of service made.texts.since (key_at made.texts) made.was made.is

-- What stays as it was as clients go on: all but tables, marks, what is chosen by, and what administrators work on; the links that aren't marked
-- say no more than before, and texts are kept.
pub record KeepsBut (old new : Router) : Type 0 where
  pub goes : GoesOn old.marked new.marked
  pub roomy : new.roomy ≡ old.roomy
  pub came : new.came ≡ old.came
  pub asked : new.asked ≡ old.asked
  pub client : new.leaving ≡ old.leaving
  pub link : new.closing ≡ old.closing
  pub texts : AreMore old.texts new.texts

-- and else what administrators work on too
pub record Keeps (old new : Router) : Type 0 where
  pub goes : GoesOn old.marked new.marked
  pub roomy : new.roomy ≡ old.roomy
  pub came : new.came ≡ old.came
  pub asked : new.asked ≡ old.asked
  pub client : new.leaving ≡ old.leaving
  pub link : new.closing ≡ old.closing
  pub texts : AreMore old.texts new.texts
  pub work : work_of new ≡ work_of old

-- one of these clients
abbrev pub is_of : List ClientNo → ClientNo → Bool
is_of clients c = list_any (is_client c) clients

-- their numbers go up
abbrev pub AreRising : List ClientNo → Type 0
AreRising [] = Unit {0}
AreRising (client ∷ others) = All (λ (other : ClientNo). client.0 < other.0) others × AreRising others

-- the links that carry their sessions, in the order of their ids
pub record AreAllHomes (clients : List ClientNo) (links : List LinkId) (t : Tabled) : Type 0 where
  pub rises : Rise links
  pub homes : (c : ClientNo) (l : LinkId) → is_of clients c ≡ true → is_home_in l (t.clients c) ≡ true → is_among l links ≡ true

-- those of these that are links to servers
abbrev pub known_in : Tabled → List LinkId → List LinkId
known_in t [] = []
known_in t (l ∷ ls) = if is_some (t.links l) then l ∷ known_in t ls else known_in t ls

-- one more, where that is one
abbrev pub known_more : Tabled → LinkId → List LinkId → List LinkId
known_more t l known = if is_some (t.links l) then known ++ l ∷ [] else known

-- A client took up what it could, and was ended, if it was to. What it was answered, and its last word, are the router's own, and what became of
-- each message is what the verdict says. It was ended without a word only if it was to be, and with one where too much is kept.
pub record HasGone (service : Service) (made : Made) (c : ClientNo) (ends : Bool) (old new : Tabled) : Type 0 where
  pub choices : List Choice
  pub halt : Halt
  pub parting : Parting
  pub ours : All (IsOurs (rules_in service) made.texts c) choices
  pub word : IsPartingOurs parting
  pub goes : CallerGoesOn service.setup service.default_schema
      (record { client = c; choices = choices; halt = halt; parting = parting }) old new
  pub ruled : AreRuled (ruling_in service made) choices halt service.setup service.default_schema c old goes.turned goes.turns
  pub ended : ends ≡ true → ends_by halt parting ≡ true
  pub why : IsPartedFor service.buffer_budget (ends ≡ true) parting

-- How it was ended behind its turns: without a word only where it was to be.

pub record HasParted (budget : ℕ) (c : ClientNo) (ends : Bool) (halt : Halt) (old new : Tabled) : Type 0 where
  pub parting : Parting
  pub word : IsPartingOurs parting
  pub once : quits_by halt ≡ true → parting ≡ Stays
  pub parts : PartsSo parting c old new
  pub ended : ends ≡ true → ends_by halt parting ≡ true
  pub why : IsPartedFor budget (ends ≡ true) parting

-- behind turns that rest no error stands next of one that waits for nothing
abbrev pub IsRested : ClientNo → Tabled → Type 0
IsRested c t =
    (row : Client) → t.clients c ≡ Some row → is_some (account_in row.desk.seat.phase) ≡ true → row.desk.seat.answered ≡ true
    → IsUnfaulty row.desk.seat.client

abbrev pub RestsBehind : Halt → ClientNo → Tabled → Type 0
RestsBehind Rests c t = IsRested c t
RestsBehind _ c t = Unit {0}

-- it is there, and has lives to leave
pub record MayEnd (c : ClientNo) (t : Tabled) : Type 0 where
  pub row : Client
  pub there : t.clients c ≡ Some row
  pub lives : MayLeave row

-- And links were given back that carried its sessions.
pub record HasFollowed (service : Service) (made : Made) (c : ClientNo) (ends : Bool) (old new : Tabled) : Type 0 where
  pub choices : List Choice
  pub halt : Halt
  pub parting : Parting
  pub links : List LinkId
  pub ours : All (IsOurs (rules_in service) made.texts c) choices
  pub word : IsPartingOurs parting
  pub follows : FollowsSo service.setup service.default_schema c choices halt parting links old new
  pub ruled : AreRuled (ruling_in service made) choices halt service.setup service.default_schema c old follows.turned follows.turns
  pub ended : ends ≡ true → ends_by halt parting ≡ true
  pub why : IsPartedFor service.buffer_budget (ends ≡ true) parting

-- Several clients did, one after the other; those that were ended without a word were for a reason.

abbrev pub AreParted : (budget : ℕ) → (Why : ClientNo → Type 0) → List Caller → Type 0
AreParted budget Why callers = All (λ (k : Caller). IsPartedFor budget (Why k.client) k.parting) callers

pub record HaveFollowed (service : Service) (made : Made) (Why : ClientNo → Type 0) (clients : List ClientNo) (old new : Tabled) : Type 0 where
  pub callers : List Caller
  pub links : List LinkId
  pub named : map (λ (k : Caller). k.client) callers ≡ clients
  pub ours : All (IsCallerOurs (rules_in service) made.texts) callers
  pub calls : CallsSo service.setup service.default_schema callers links old new
  pub ruled : AreRuledAll (ruling_in service made) callers service.setup service.default_schema old calls.turned calls.going
  pub why : AreParted service.buffer_budget Why callers

-- by what they were called
pub record HaveGone (service : Service) (made : Made) (Why : ClientNo → Type 0) (clients : List ClientNo) (old new : Tabled) : Type 0 where
  pub callers : List Caller
  pub named : map (λ (k : Caller). k.client) callers ≡ clients
  pub ours : All (IsCallerOurs (rules_in service) made.texts) callers
  pub going : AllGoOn callers service.setup service.default_schema old new
  pub ruled : AreRuledAll (ruling_in service made) callers service.setup service.default_schema old new going
  pub why : AreParted service.buffer_budget Why callers

-- where it is one of these, and an administrator came, or it isn't logged in
abbrev pub IsOut : (ending : BTreeSet ℕ) → (came : Bool) → Tabled → ClientNo → Type 0
IsOut ending came t c = (contains nat_cmp ending c.0 ≡ true) × IsOusted came t c

-- The router answered a client's statement itself, by this failure.
pub record HasAnswered (c : ClientNo) (why : Failure) (old new : Tabled) : Type 0 where
  pub own : IsFailure (payload_of why)
  pub same : IsSame new (given_up c (payload_of why) old)

abbrev pub up_client : Option GiveUp → Option ClientNo
up_client given = option_map (λ (up : GiveUp). up.client) given

abbrev pub told_client : Option GivenUp → Option ClientNo
told_client told = option_map (λ (up : GivenUp). up.client) told

-- It did, if it was to.
pub record HasGiven (given : Option GiveUp) (old new : Tabled) : Type 0 where
  pub told : Option GivenUp
  pub ours : AreGivenOurs told
  pub its : told_client told ≡ up_client given
  pub is : told ≡ option_map given_with given
  pub same : IsSame new (given_up_in (told_to told) old)

-- Who is called by a link that carries this session, where that client's statement is given up: its own client; or else one that goes on.
abbrev pub IsFor : Option SessionName → ClientNo → Tabled → Type 0
IsFor (Some name) c t = c ≡ name.client
IsFor None c t = is_going (t.clients c) ≡ true

-- What may be given up as bytes come on a link, and as a link is lost.

pub record MayBeGiven (link : LinkId) (name : Option SessionName) (up : GiveUp) (t : Tabled) : Type 0 where
  pub its : IsFor name up.client t
  pub may : MayBeGivenUp link up.client t
  pub why : is_heard (is_some name) up.why ≡ true

pub record MayBeGivenWith (link : LinkId) (name : Option SessionName) (up : GiveUp) (t : Tabled) : Type 0 where
  pub its : IsFor name up.client t
  pub may : IsGivenUpWith link up.client t
  pub why : is_lost (is_some name) up.why ≡ true

-- Whoever was called went on.

abbrev pub called_by : Option SessionName → (given : Option ClientNo) → Tabled → Option ClientNo
called_by (Some name) given t = if is_going (t.clients name.client) then Some name.client else None
called_by None given t = given

-- without a word only where the link carries a session
abbrev pub IsEndedFor : (budget : ℕ) → (carried : Bool) → Option Going → Type 0
IsEndedFor budget carried None = Unit {0}
IsEndedFor budget carried (Some going) = IsPartedFor budget (carried ≡ true) going.parting

pub record HasCalled (service : Service) (made : Made) (name : Option SessionName) (told : Option GivenUp) (old new : Tabled) : Type 0 where
  pub going : Option Going
  pub called : IsCalled name told old (option_map (λ (g : Going). g.client) going)
  pub ours : AreGoingOurs (rules_in service) made.texts going
  pub goes : GoesSo going service.setup service.default_schema old new
  pub ruled : IsRuledOn (ruling_in service made) going service.setup service.default_schema old new goes
  pub why : IsEndedFor service.buffer_budget (is_some name) going
