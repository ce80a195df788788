use Rattle.shared_core.proofs.Clients.{settled_rules}
-- Statements are given up and clients are called: what the router makes of that carries it over the entry.
use Rattle.std.specs.Prelude.{◌≡◌, ◌<◌, ◌||◌, ℕ, Bool, true, false, All, is_some, map, nat_eq, not, if◌then◌else◌, List, [], ◌∷◌, ◌++◌, Option, Some, None}
use Rattle.std.specs.BTreeSet.{BTreeSet, IsEmpty}
use Rattle.std.specs.Option.{option_map}
use Rattle.std.proofs.Common.{refl, sym, ap, ◌∙◌, subst}
use Rattle.std.proofs.lemmas.Bool.{true≢false}
use Rattle.std.proofs.lemmas.List.Elements.{All-append, All-cons, All-nil}
use Rattle.mx_base.specs.declared.names.Address.{Address}
use Rattle.mx_base.specs.declared.names.ClientNo.{ClientNo}
use Rattle.mx_base.specs.declared.names.LinkId.{LinkId}
use Rattle.mx_base.specs.declared.names.ServerId.{ServerId}
use Rattle.mx_wire.specs.Log.{Log}
use Rattle.mx_wire.specs.Tells.{MayFollow}
use Rattle.mx_wire.specs.declared.entry.Entry.TheVariants.{OpenFailed, Woke}
use Rattle.private_model.proofs.Maps.{client_of}
use Rattle.private_model.specs.Story.{is_client}
use Rattle.client_seat.specs.Seats.{is_ended}
use Rattle.core_policy.specs.declared.verdict.GiveUp.{GiveUp}
use Rattle.core_service.specs.Failures.{payload_of}
use Rattle.core_service.specs.Serves.{rules_in}
use Rattle.core_service.specs.declared.failure.Failure.{Failure}
use Rattle.core_service.specs.declared.service.Service.{Service}
use Rattle.core_tables.specs.Parting.{given_row, given_up}
use Rattle.core_tables.specs.Tables.{IsSame, Tabled}
use Rattle.core_tables.specs.declared.client.Client.{Client}
use Rattle.core_laws.specs.clients.Going.{GivenUp, is_going}
use Rattle.core_laws.specs.entry.Cores.{with_entry}
use Rattle.router_laws.specs.decisions.Held.{AreHeldSince}
use Rattle.router_laws.specs.decisions.Routers.{IsLearned, IsRouter}
use Rattle.router_laws.specs.wakes.Calling.{Caller, GivesUpAll, IsThere, is_called, is_given}
use Rattle.client_session.specs.Errors.{connection_refused}
use Rattle.core_promises.specs.Causes.{IsLateCause}
use Rattle.core_promises.specs.InForce.{has_administrator}
use Rattle.core_promises.specs.Ruled.{ruling_of}
use Rattle.router_laws.specs.decisions.Causes.{AreLate, AreRefused}
use Rattle.router_laws.specs.decisions.Noted.{Notes, WasNoted}
use Rattle.router_laws.specs.decisions.Partings.{AreNotOusted, AreOusted}
use Rattle.router_laws.specs.decisions.Rulings.{AreRuledAll}
use Rattle.router_laws.specs.decisions.Speaks.{IsGivenOurs}
use Rattle.router_laws.specs.waits.Drained.{IsDrainedFor}
use Rattle.router_laws.specs.wakes.Deciding.{IsCallerOurs}
use Rattle.router_laws.specs.wakes.Waking.{FailsSo, WakesSo}
use Rattle.router_laws.proofs.OfWakes.Settled.{same_itself}
use Rattle.router_laws.proofs.OfDecisions.Learning.{learned}
use Rattle.core_texts.specs.declared.texts.Texts.{Texts}
use Rattle.core_texts.specs.Texts.{AreMore, HasBegun, key_at, noted_at}
use Rattle.core_promises.specs.Administers.{Administered}
use Rattle.shared_core.proofs.Causing.{late_before, late_more, late_noted, refused_by}
use Rattle.shared_core.proofs.Coming.{come_as, come_awake}
use Rattle.shared_core.specs.Causes.{given_with, is_refused}
use Rattle.shared_core.specs.Follows.{AreRising, HasAnswered, HaveFollowed, IsOut, Made, is_of, made_by}
use Rattle.shared_core.specs.Stands.{Carries, CarriesWhere, IsSettled, is_roomy, tables, work_of, worked}
use Rattle.shared_core.specs.Wakes.{AreCalled, HasFailed, HasWoken, HaveGivenUp, IsWaiting}
use Rattle.shared_core.specs.declared.roomy.Roomy.{Roomy}
use Rattle.shared_core.specs.declared.router.Router.{Router}
use Rattle.shared_core.proofs.Carrying.{carries_since, none_come}
use Rattle.shared_core.proofs.Goings.{called-so}
use Rattle.shared_core.proofs.Partings.{all-still, not-ousted, one-still, ousted-more, ousted-so}
use Rattle.shared_core.proofs.Numbers.{or_by, or_first, there_by}
use Rattle.shared_core.proofs.Rooming.{or_true}
use Rattle.shared_core.proofs.Tabling.{tables_are}

-- Who goes on does so still as a statement is given up.

going_row : (payload : List ℕ) (row : Option Client) → is_going (option_map (given_row (Some payload)) row) ≡ is_going row
going_row payload (Some row) = refl
going_row payload None = refl

going_still : (c : ClientNo) (payload : List ℕ) (old new : Tabled) → IsSame new (given_up c payload old) → (d : ClientNo)
    → is_going (new.clients d) ≡ is_going (old.clients d)
going_still = one-still is_going going_row

all_going : (given : List GivenUp) (old new : Tabled) → GivesUpAll given old new → (d : ClientNo) → is_going (new.clients d) ≡ is_going (old.clients d)
all_going = all-still is_going going_row

-- Whose statements are given up.

gives_along : (xs ys : List GivenUp) (s t u : Tabled) → GivesUpAll xs s t → GivesUpAll ys t u → GivesUpAll (xs ++ ys) s u
gives_along [] ys s t u same next = subst (λ (x : Tabled). GivesUpAll ys x u) (tables_are t s same) next
gives_along (x ∷ xs) ys s t u gives next = (gives.0, gives.1, gives_along xs ys gives.0 t u gives.2 next)

given_either : {A : Type 0} (xs ys : List GivenUp) (c : ClientNo) → is_given (xs ++ ys) c ≡ true → (is_given xs c ≡ true → A)
    → (is_given ys c ≡ true → A) → A
given_either [] ys c is left right = right is
given_either (x ∷ xs) ys c is left right =
    or_by (is_client c x.client) (is_given (xs ++ ys) c) is (λ e. left (or_first (is_client c x.client) (is_given xs c) e))
    (λ e. given_either xs ys c e (λ its. left (or_true (is_client c x.client) (is_given xs c) its)) right)

pub none_given : (wait_ms now_ms : ℕ) (came : Bool) (notes : Notes) (roomy : Roomy) (t : Tabled) → HaveGivenUp wait_ms now_ms came notes roomy roomy t t
none_given wait_ms now_ms came notes roomy t = record {
  given = [];
  ours = All-nil _;
  late = All-nil _;
  gives = same_itself t;
  calls = λ c is. absurd (true≢false (sym is));
  going = λ c is. absurd (true≢false (sym is));
  kept = λ c is. is;
}

-- one that is given up is answered by the router's own
all_one : (up : GiveUp) {old new : Tabled} (answered : HasAnswered up.client up.why old new) → All IsGivenOurs (given_with up ∷ [])
all_one up answered = All-cons IsGivenOurs (given_with up) [] answered.own (All-nil IsGivenOurs)

alone_so : (P : GivenUp → Type 0) (up : GivenUp) → P up → All P (up ∷ [])
alone_so P up is = All-cons P up [] is (All-nil P)

its_alone : (c d : ClientNo) → (is_client d c || false) ≡ true → d ≡ c
its_alone c d is = by (is_client d c) refl is where
  by : (b : Bool) → is_client d c ≡ b → (b || false) ≡ true → d ≡ c
  by true its some = client_of d c its
  by false its some = absurd (true≢false (sym some))

pub one_given : (wait_ms now_ms : ℕ) (came : Bool) (notes : Notes) (before called : Roomy) (up : GiveUp) (old new : Tabled)
    → IsLateCause wait_ms now_ms came (WasNoted notes old up.client) (payload_of up.why)
    → IsWaiting up.client old → HasAnswered up.client up.why old new → is_roomy called up.client ≡ true
    → ((d : ClientNo) → is_roomy before d ≡ true → is_roomy called d ≡ true) → HaveGivenUp wait_ms now_ms came notes before called old new
one_given wait_ms now_ms came notes before called up old new late waiting answered its kept = record {
  given = given_with up ∷ [];
  ours = all_one up answered;
  late = alone_so (λ (one : GivenUp). IsLateCause wait_ms now_ms came (WasNoted notes old one.client) one.payload) (given_with up) late;
  gives = (new, record { late = waiting.unsent; same = answered.same }, same_itself new);
  calls = λ d is. ap (is_roomy called) (its_alone up.client d is) ∙ its;
  going = λ d is.
      going_still up.client (payload_of up.why) old new answered.same d
      ∙ (ap (λ (n : ClientNo). is_going (old.clients n)) (its_alone up.client d is) ∙ waiting.going);
  kept = kept;
}

pub given_along : (wait_ms now_ms : ℕ) (came : Bool) (notes other : Notes) (a b c : Roomy) (s t u : Tabled) → ((d : ClientNo) → other d ≡ notes d)
    → HaveGivenUp wait_ms now_ms came notes a b s t → HaveGivenUp wait_ms now_ms came other b c t u → HaveGivenUp wait_ms now_ms came notes a c s u
given_along wait_ms now_ms came notes other a b c s t u same first next = record {
  given = first.given ++ next.given;
  ours = All-append IsGivenOurs first.given next.given first.ours next.ours;
  late = All-append (λ (up : GivenUp). IsLateCause wait_ms now_ms came (WasNoted notes s up.client) up.payload) first.given next.given first.late
      (late_before wait_ms now_ms came notes first.given s t first.gives next.given
      (late_noted wait_ms now_ms came other notes t (λ d. sym (same d)) next.given next.late));
  gives = gives_along first.given next.given s t u first.gives next.gives;
  calls = λ d is. given_either first.given next.given d is (λ e. next.kept d (first.calls d e)) (λ e. next.calls d e);
  going = λ d is. given_either first.given next.given d is (λ e. all_going next.given t u next.gives d ∙ first.going d e) (λ e. next.going d e);
  kept = λ d is. next.kept d (first.kept d is);
}

-- They follow.

called_of : (callers : List Caller) (clients : List ClientNo) → map (λ (k : Caller). k.client) callers ≡ clients → (c : ClientNo)
    → is_called callers c ≡ is_of clients c
called_of callers clients named c = called-so callers c ∙ ap (λ (cs : List ClientNo). is_of cs c) named

going_there : (t : Tabled) (c : ClientNo) (row : Client) → t.clients c ≡ Some row → is_ended row.desk.seat.phase ≡ false → is_going (t.clients c) ≡ true
going_there t c row there going = ap is_going there ∙ ap not going

-- more were called before
pub given_since : (wait_ms now_ms : ℕ) (came : Bool) (notes : Notes) (first roomy called : Roomy) (old new : Tabled)
    → ((c : ClientNo) → is_roomy first c ≡ true → is_roomy roomy c ≡ true) → HaveGivenUp wait_ms now_ms came notes roomy called old new
    → HaveGivenUp wait_ms now_ms came notes first called old new
given_since wait_ms now_ms came notes first roomy called old new more given = record {
  given = given.given;
  ours = given.ours;
  late = given.late;
  gives = given.gives;
  calls = given.calls;
  going = given.going;
  kept = λ c has. given.kept c (more c has);
}

pub have_woken : (service : Service) (ending : BTreeSet ℕ) (before : Texts) (made : Made) (now_ms : ℕ) (came still : Bool) (roomy called : Roomy)
    (clients : List ClientNo) (old mid new : Tabled) → still ≡ came → AreMore before made.texts
    → HaveGivenUp service.wait_ms now_ms came (noted_at before) roomy called old mid → AreCalled called clients mid
    → HaveFollowed service made (IsOut ending still mid) clients mid new → HasWoken service made now_ms came roomy old new
have_woken service ending before made now_ms came still roomy called clients old mid new same more given are followed = record {
  given = given.given;
  callers = followed.callers;
  links = followed.links;
  given_ours = given.ours;
  late = late_noted service.wait_ms now_ms came (noted_at before) (noted_at made.texts) old more.noted given.given given.late;
  ours = followed.ours;
  parted = ousted-so service.buffer_budget ending still came same given.given old mid given.gives followed.callers followed.why;
  so = record {
    late = mid;
    gives = given.gives;
    all_given = λ c is. called_of followed.callers clients followed.named c ∙ are.all c (given.calls c is) (given.going c is);
    all_roomy = λ c row has there going.
        called_of followed.callers clients followed.named c ∙ are.all c (given.kept c has) (going_there mid c row there going);
    calls = followed.calls;
  };
  ruled = followed.ruled;
}

pub none_fails : (service : Service) (made : Made) → made.is ≡ made.was → (t : Tabled) → HasFailed service made t t
none_fails service made nothing t = record {
  given = [];
  callers = [];
  links = [];
  given_ours = All-nil _;
  refused = All-nil _;
  ours = All-nil _;
  parted = All-nil _;
  so = record {
    late = t;
    gives = same_itself t;
    all_given = λ c is. is;
    none_else = λ c is. is;
    calls = record {
      in_order = tt;
      there = All-nil (λ (k : Caller). IsThere t k.client);
      homes = record {
        homes = λ c row h l whose. absurd (true≢false (sym whose));
        known = All-nil (λ (l : LinkId). is_some (t.links l) ≡ true);
        rising = tt;
      };
      turned = t;
      going = same_itself t;
      freed = same_itself t;
    };
  };
  ruled = nothing;
}

pub one_fails : (service : Service) (made : Made) (ending : BTreeSet ℕ) (came : Bool) (up : GiveUp) (old mid new : Tabled) → IsEmpty ending
    → is_refused up.why ≡ true → IsWaiting up.client old → HasAnswered up.client up.why old mid
    → HaveFollowed service made (IsOut ending came mid) (up.client ∷ []) mid new → HasFailed service made old new
one_fails service made ending came up old mid new empty refused waiting answered followed = record {
  given = given_with up ∷ [];
  callers = followed.callers;
  links = followed.links;
  given_ours = all_one up answered;
  refused = alone_so (λ (one : GivenUp). one.payload ≡ connection_refused) (given_with up) (refused_by up.why refused);
  ours = followed.ours;
  parted = not-ousted service.buffer_budget ending came mid empty followed.callers followed.why;
  so = record {
    late = mid;
    gives = (mid, record { late = waiting.unsent; same = answered.same }, same_itself mid);
    all_given = λ d is. called_of followed.callers (up.client ∷ []) followed.named d ∙ is;
    none_else = λ d is. sym (called_of followed.callers (up.client ∷ []) followed.named d) ∙ is;
    calls = followed.calls;
  };
  ruled = followed.ruled;
}

-- one client that was given up is there, and alone

pub rising_one : (c : ClientNo) → AreRising (c ∷ [])
rising_one c = (All-nil (λ (other : ClientNo). c.0 < other.0), tt)

pub there_one : (c : ClientNo) (why : Failure) (old mid : Tabled) → IsWaiting c old → HasAnswered c why old mid → All (λ (d : ClientNo). IsThere mid d) (c ∷ [])
there_one c why old mid waiting answered =
    All-cons (λ (d : ClientNo). IsThere mid d) c []
    (there_by mid c (mid.clients c) refl (going_still c (payload_of why) old mid answered.same c ∙ waiting.going))
    (All-nil (λ (d : ClientNo). IsThere mid d))

-- The router is carried over the entry.

abbrev pub Fails : Type 0
Fails = (service : Service) (texts : Texts) (admin is : Administered) (log : Log) (t now : Tabled) (roomy : ClientNo → Bool) (given : List GivenUp)
    (callers : List Caller) (links : List LinkId) (server : ServerId) (address : Address) → (router : IsRouter service texts admin log t roomy)
    → MayFollow log (OpenFailed server address) → (fails : FailsSo service.setup service.default_schema given callers links t now) → All IsGivenOurs given → AreRefused given
    → All (IsCallerOurs (rules_in service) texts) callers → AreNotOusted service.buffer_budget callers
    → AreRuledAll (ruling_of service texts.since (key_at texts) admin is) callers service.setup service.default_schema fails.late fails.calls.turned fails.calls.going
    → AreHeldSince texts service.default_schema router.core.decided log
    → admin.rules ≡ rules_in service → IsRouter service texts is (with_entry log (OpenFailed server address)) now roomy

pub fails_carries : Fails → (service : Service) (server : ServerId) (old new : Router) → HasFailed service (made_by service old new) (tables old) (tables new)
    → new.roomy ≡ old.roomy → new.came ≡ old.came → AreMore old.texts new.texts → HasBegun old.texts → (address : Address) → IsSettled old
    → Carries service (OpenFailed server address) old new
fails_carries law service server old new failed roomy came more begun address loaded =
    carries_since service old new roomy came more begun (OpenFailed server address) (refl, λ moment. refl) (λ log may is.
    law service new.texts (worked service (work_of old)) (worked service (work_of new)) log (tables old) (tables new) (is_roomy old.roomy) failed.given failed.callers failed.links server address
    is.router may failed.so failed.given_ours failed.refused failed.ours failed.parted failed.ruled is.since (settled_rules service old loaded))

abbrev pub Wakes : Type 0
Wakes = (service : Service) (texts : Texts) (admin is : Administered) (log : Log) (t now : Tabled) (roomy room : ClientNo → Bool) (given : List GivenUp)
    (callers : List Caller) (links : List LinkId) (until_ms now_ms : ℕ) → (router : IsRouter service texts admin log t roomy) → MayFollow log (Woke until_ms now_ms)
    → IsDrainedFor t log → (wakes : WakesSo service.setup service.default_schema given callers links roomy t now) → All IsGivenOurs given
    → AreLate service.wait_ms now_ms (has_administrator log) (noted_at texts) t given
    → All (IsCallerOurs (rules_in service) texts) callers → AreOusted service.buffer_budget (has_administrator log) t callers
    → AreRuledAll (ruling_of service texts.since (key_at texts) admin is) callers service.setup service.default_schema wakes.late wakes.calls.turned wakes.calls.going
    → AreHeldSince texts service.default_schema router.core.decided log
    → admin.rules ≡ rules_in service → IsRouter service texts is (with_entry log (Woke until_ms now_ms)) now room

pub wakes_carries : Wakes → (service : Service) (now_ms : ℕ) (old new : Router)
    → HasWoken service (made_by service old new) now_ms old.came.administrator old.roomy (tables old) (tables new)
    → new.came ≡ record old.came { clock = now_ms } → AreMore old.texts new.texts → HasBegun old.texts → (until_ms : ℕ) → IsSettled old
    → CarriesWhere (IsDrainedFor (tables old)) service (Woke until_ms now_ms) old new
wakes_carries law service now_ms old new woken came more begun until_ms loaded log drained may stands = record {
  router = law service new.texts (worked service (work_of old)) (worked service (work_of new)) log (tables old) (tables new) (is_roomy old.roomy) (is_roomy new.roomy) woken.given woken.callers
      woken.links until_ms now_ms learnt.router may drained woken.so woken.given_ours
      (late_more service.wait_ms now_ms old.came.administrator (has_administrator log) (noted_at new.texts) (tables old) stands.counted.administrator
      woken.given woken.late) woken.ours
      (ousted-more service.buffer_budget old.came.administrator (has_administrator log) (tables old) stands.counted.administrator woken.callers
      woken.parted) woken.ruled learnt.since (settled_rules service old loaded);
  counted = come_as (with_entry log (Woke until_ms now_ms)) (record old.came { clock = now_ms }) new.came came
      (come_awake log old.came until_ms now_ms stands.counted);
}
  where
    learnt : IsLearned service new.texts (worked service (work_of old)) log (tables old) (is_roomy old.roomy)
    learnt = learned service old.texts new.texts (worked service (work_of old)) log (tables old) (is_roomy old.roomy) stands.router begun more
