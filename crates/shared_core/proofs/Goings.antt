-- Clients go on, one after the other.
use Rattle.std.proofs.lemmas.Bool.{true≢false}
use Rattle.std.specs.Prelude.{◌≡◌, ◌<◌, ◌≤◌, ◌+◌, ℕ, Bool, true, false, not, ◌||◌, All, drop, get_or, length, map, take, List, [], ◌∷◌, ◌++◌, Option, Some, None, is_some}
use Rattle.std.proofs.Common.{◌∙◌, ap, arith, refl, subst, sym}
use Rattle.std.proofs.lemmas.List.{drop_more, take_all, take_more}
use Rattle.std.proofs.lemmas.List.Elements.{All-append, All-cons, All-head, All-nil, All-tail}
use Rattle.mx_base.specs.declared.names.ClientNo.{ClientNo}
use Rattle.mx_base.specs.declared.names.LinkId.{LinkId}
use Rattle.private_model.proofs.Maps.{same_number}
use Rattle.private_model.specs.Story.{is_client, Key}
use Rattle.client_session.specs.Setups.{Setup}
use Rattle.client_seat.specs.Seats.{ended, is_ended}
use Rattle.core_service.specs.Serves.{rules_in}
use Rattle.core_service.specs.declared.service.Service.{Service}
use Rattle.query_rules.specs.declared.rule.Rule.{Rule}
use Rattle.core_promises.specs.Administers.{Administered}
use Rattle.core_promises.specs.Ruled.{AreRuled, Ruling, book_of, from, ruling_of, until}
use Rattle.core_texts.specs.Texts.{AreMore, key_at}
use Rattle.core_texts.specs.declared.texts.Texts.{Texts}
use Rattle.router_laws.specs.decisions.Partings.{IsPartedFor}
use Rattle.router_laws.specs.decisions.Rulings.{AreRuledAll}
use Rattle.router_laws.specs.decisions.Speaks.{IsOurs}
use Rattle.core_tables.specs.Parting.{left_in}
use Rattle.core_tables.specs.Tables.{IsSame, Tabled}
use Rattle.core_tables.specs.declared.client.Client.{Client}
use Rattle.core_turns.proofs.Keys.{turns_more}
use Rattle.core_turns.specs.Turned as turned
use Rattle.core_turns.specs.Turned.{HasGoneOn, IsSaid, RuledTurns, halt_of, is_away}
use Rattle.core_turns.specs.declared.turn.Stop.{Stop}
use Rattle.core_turns.specs.declared.turn.Went.{Went}
use Rattle.core_laws.specs.entry.Freeing.{all_freed}
use Rattle.core_laws.proofs.OfClients.Unfaulty.{turns_unfaulty}
use Rattle.core_laws.specs.clients.Follows.{LeavesThere, Leaves, Stays, ends_by, quits_by}
use Rattle.core_laws.specs.clients.Going.{is_going}
use Rattle.core_laws.specs.clients.Turns.{Answers, Choice, Ends, Goes, Halt, Quits, Rests, Turns, Waits}
use Rattle.router_laws.specs.wakes.Calling.{AllGoOn, AreHomesOf, AreInOrder, Caller, CallerGoesOn, IsThere, is_called}
use Rattle.router_laws.specs.wakes.Deciding.{IsCallerOurs}
use Rattle.shared_core.proofs.Keeping.{made_then, tables_chosen}
use Rattle.shared_core.proofs.Others.{still_same}
use Rattle.shared_core.proofs.Partings.{part-weaker}
use Rattle.shared_core.proofs.Tabling.{tables_are}
use Rattle.shared_core.specs.Follows.{AreRising, HasFollowed, HasGone, HasParted, HaveFollowed, HaveGone, Keeps, Made, MayEnd, RestsBehind, is_of, made_by, ruling_in}
use Rattle.shared_core.specs.Rows.{HasLives}
use Rattle.shared_core.specs.Stands.{Chooses, Shown, tables, tables_in, work_of, worked}
use Rattle.shared_core.specs.declared.router.Router.{Router}

same-itself : (t : Tabled) → IsSame t t
same-itself t = record { clients = λ c. refl; numbers = λ l. refl; links = λ l. refl }

or-last : (a : Bool) → (a || true) ≡ true
or-last true = refl
or-last false = refl

-- What is chosen by behind its turns leaves what they were.
pub went_chosen : (service : Service) (c : ClientNo) (went : Option Went) (old mid new : Router) → Chooses mid new
    → HasGoneOn RuledTurns went (ruling_in service (made_by service old mid)) service.setup service.default_schema c (tables old) (tables mid)
    → HasGoneOn RuledTurns went (ruling_in service (made_by service old new)) service.setup service.default_schema c (tables old) (tables new)
went_chosen service c went old mid new chosen gone =
    let P : Shown → Type 0 = λ s. HasGoneOn RuledTurns went
    (ruling_of service s.texts.since (key_at s.texts) (worked service (work_of old)) (worked service s.work)) service.setup service.default_schema c (tables old)
    (tables_in s) in
    subst P (sym chosen.same) gone

-- How a client is ended.

pub stays-so : (budget : ℕ) (c : ClientNo) (ends : Bool) (halt : Halt) (t : Tabled) → (ends ≡ true → ends_by halt Stays ≡ true)
    → HasParted budget c ends halt t t
stays-so budget c ends halt t ended =
    record { parting = Stays; word = tt; once = λ is. refl; parts = same-itself t; ended = ended; why = tt }

pub leaves-so : (budget : ℕ) (c : ClientNo) (ends : Bool) (halt : Halt) (old new : Tabled) → ends ≡ true → quits_by halt ≡ false
    → LeavesThere c old new → HasParted budget c ends halt old new
leaves-so budget c ends halt old new on goes leaves = record {
  parting = Leaves;
  word = tt;
  once = λ is. absurd (let no = goes in let yes = is in cc);
  parts = leaves;
  ended = λ is. or-last (quits_by halt);
  why = on;
}

pub stays-off : (budget : ℕ) (c : ClientNo) (ends : Bool) (halt : Halt) (t : Tabled) → ends ≡ false → HasParted budget c ends halt t t
stays-off budget c ends halt t off = stays-so budget c ends halt t (λ is. absurd (let no = off in let yes = is in cc))

pub off-so : (budget : ℕ) (c : ClientNo) (ends : Bool) (halt : Halt) (old new : Tabled) → ends ≡ false → HasParted budget c false halt old new
    → HasParted budget c ends halt old new
off-so budget c ends halt old new off parts = let P : Bool → Type 0 = λ b. HasParted budget c b halt old new in subst P (sym off) parts

pub may-so : (c : ClientNo) (t : Tabled) (row : Client) → Some row ≡ t.clients c → HasLives row.desk → MayEnd c t
may-so c t row at lives = record { row = row; there = sym at; lives = λ h. let two = lives h in omega (arith, two) }

pub leaves-by : (c : ClientNo) (old new : Tabled) → MayEnd c old → IsSame new (left_in c ended old) → LeavesThere c old new
leaves-by c old new may same = record { row = may.row; there = may.there; lives = may.lives; same = same }

pub stop-so : (budget : ℕ) (c : ClientNo) (ends : Bool) (stop other : Stop) (old new : Tabled) → stop ≡ other
    → (RestsBehind (halt_of other) c old → HasParted budget c ends (halt_of other) old new) → RestsBehind (halt_of stop) c old
    → HasParted budget c ends (halt_of stop) old new
stop-so budget c ends stop other old new is parts =
    let P : Stop → Type 0 = λ s. RestsBehind (halt_of s) c old → HasParted budget c ends (halt_of s) old new in
    subst P (sym is) parts

pub parts-so : (budget : ℕ) (c : ClientNo) (ends : Bool) (halt : Halt) (a b d e : Router) → Chooses a b
    → (RestsBehind halt c (tables b) → HasParted budget c ends halt (tables b) (tables d)) → Chooses d e → RestsBehind halt c (tables a)
    → HasParted budget c ends halt (tables a) (tables e)
parts-so budget c ends halt a b d e before parts behind rested =
    let P : Tabled → Type 0 = λ t. RestsBehind halt c t → HasParted budget c ends halt t (tables d) in
    let Q : Tabled → Type 0 = λ t. HasParted budget c ends halt (tables a) t in
    subst Q (sym (tables_chosen d e behind)) (subst P (tables_chosen a b before) parts rested)

-- What is ours by some texts is so by more.

choice_more : (rules : List Rule) (old new : Texts) → AreMore old new → (c : ClientNo) (choice : Choice) → IsOurs rules old c choice
    → IsOurs rules new c choice
choice_more rules old new more c (Goes route keyed) is =
    (is.0, (λ k d within. (let one = get_or keyed k d in more.kept one.number one.key (is.1 k d within))), λ numbered. stays (key_at old route.key) refl (is.2 numbered)) where
      stays : (found : Option Key) → key_at old route.key ≡ found → is_some found ≡ true → is_some (key_at new route.key) ≡ true
      stays None at some = absurd (true≢false (sym some))
      stays (Some key) at some = ap is_some (more.kept route.key key at)
choice_more rules old new more c (Answers payloads) is = is

pub ours_more : (rules : List Rule) (old new : Texts) → AreMore old new → (c : ClientNo) (choices : List Choice) → All (IsOurs rules old c) choices
    → All (IsOurs rules new c) choices
ours_more rules old new more c choices all = λ k d within. choice_more rules old new more c (get_or choices k d) (all k d within)

-- Its turns, and how it is ended behind them.

said-ours : (service : Service) (made : Made) (c : ClientNo) (choices : List Choice) → All (IsSaid (ruling_in service made) c) choices
    → All (IsOurs (rules_in service) made.texts c) choices
said-ours service made c choices all = λ k d within. one (get_or choices k d) (all k d within) where
  one : (choice : Choice) → IsSaid (ruling_in service made) c choice → IsOurs (rules_in service) made.texts c choice
  one (Goes route keyed) is = is
  one (Answers payloads) is = is

rests-behind : (setup : Setup) (default : List ℕ) (c : ClientNo) (choices : List Choice) (halt : Halt) (old mid : Tabled)
    → Turns choices halt setup default c old mid → RestsBehind halt c mid
rests-behind setup default c choices Waits old mid turns = tt
rests-behind setup default c choices Rests old mid turns = λ row at serves answered.
    turns_unfaulty setup default c choices old mid row turns at serves answered
rests-behind setup default c choices Quits old mid turns = tt
rests-behind setup default c choices Ends old mid turns = tt

-- with the texts of then
abbrev pub with_texts : Made → Texts → Made
with_texts made texts = record made { texts = texts }

pub gone-so : (service : Service) (took_made : Made) (texts : Texts) → AreMore took_made.texts texts → (c : ClientNo) (ends : Bool) (took : Option Went) (went : Went)
    (old mid new : Tabled) → took ≡ Some went
    → HasGoneOn RuledTurns took (ruling_in service took_made) service.setup service.default_schema c old mid
    → (RestsBehind (halt_of went.stop) c mid → HasParted service.buffer_budget c ends (halt_of went.stop) mid new)
    → HasGone service (with_texts took_made texts) c ends old new
gone-so service took_made texts more c ends took went old mid new is gone parts =
    let P : Option Went → Type 0 = λ o. HasGoneOn RuledTurns o (ruling_in service took_made) service.setup service.default_schema c old mid in
    let on : turned.HasGone RuledTurns went.stop (ruling_in service took_made) service.setup service.default_schema c old mid = subst P is gone in
    let parted : HasParted service.buffer_budget c ends (halt_of went.stop) mid new =
    parts (rests-behind service.setup service.default_schema c on.choices (halt_of went.stop) old mid on.turned.0) in
    record {
      choices = on.choices;
      halt = halt_of went.stop;
      parting = parted.parting;
      ours = ours_more (rules_in service) took_made.texts texts more c on.choices (said-ours service took_made c on.choices on.said);
      word = parted.word;
      goes = record { turned = mid; turns = on.turned.0; once = parted.once; parts = parted.parts };
      ruled = turns_more (book_of service) took_made.texts texts more service.setup service.default_schema c took_made.was took_made.is on.choices
          (halt_of went.stop) old mid on.turned.0 on.turned.1;
      ended = parted.ended;
      why = parted.why;
    }

pub away-going : (row : Option Client) → is_away row ≡ true → is_going row ≡ true → ⊥
away-going None away going = let e = going in cc
away-going (Some row) away going = by (is_ended row.desk.seat.phase) away going where
  by : (b : Bool) → b ≡ true → not b ≡ true → ⊥
  by true is off = let e = off in cc
  by false is off = let e = is in cc

pub absent-so : (service : Service) (made : Made) (c : ClientNo) (ends : Bool) (took : Option Went) (old mid new : Tabled) → took ≡ None
    → HasGoneOn RuledTurns took (ruling_in service made) service.setup service.default_schema c old mid → is_going (old.clients c) ≡ true
    → HasGone service made c ends old new
absent-so service made c ends took old mid new is gone going =
    let P : Option Went → Type 0 = λ o. HasGoneOn RuledTurns o (ruling_in service made) service.setup service.default_schema c old mid in
    let absent = subst P is gone in
    absurd (away-going (old.clients c) absent.0.away going)

-- And links are given back that carried its sessions.

pub followed-so : (service : Service) (made : Made) (c : ClientNo) (ends : Bool) (homes : List LinkId) (old mid new : Tabled)
    → AreHomesOf (is_of (c ∷ [])) homes old → HasGone service made c ends old mid → IsSame new (all_freed homes mid) → is_going (old.clients c) ≡ true
    → HasFollowed service made c ends old new
followed-so service made c ends homes old mid new are gone freed going = by (old.clients c) refl going where
  by : (found : Option Client) → old.clients c ≡ found → is_going found ≡ true → HasFollowed service made c ends old new
  by None at is = absurd (let e = is in cc)
  by (Some row) at is = record {
    choices = gone.choices;
    halt = gone.halt;
    parting = gone.parting;
    links = homes;
    ours = gone.ours;
    word = gone.word;
    follows = record {
      homes = record {
        row = row;
        there = at;
        homes = λ h l home there. are.homes c row h l (ap (λ (b : Bool). b || false) (same_number c.0)) at home there;
        known = are.known;
        rising = are.rising;
      };
      turned = gone.goes.turned;
      turns = gone.goes.turns;
      once = gone.goes.once;
      parted = mid;
      parts = gone.goes.parts;
      freed = freed;
    };
    ruled = gone.ruled;
    ended = gone.ended;
    why = gone.why;
  }

-- Several do.

callers_more : (rules : List Rule) (old new : Texts) → AreMore old new → (callers : List Caller) → All (IsCallerOurs rules old) callers
    → All (IsCallerOurs rules new) callers
callers_more rules old new more callers all = λ k d within.
    (let one : IsCallerOurs rules old (get_or callers k d) = all k d within in
    record { choices = ours_more rules old new more (get_or callers k d).client (get_or callers k d).choices one.choices; parting = one.parting })

all_ruled_more : (service : Service) (old new : Texts) → AreMore old new → (was is : Administered) (callers : List Caller) (setup : Setup) (default : List ℕ)
    (a b : Tabled) (going : AllGoOn callers setup default a b) → AreRuledAll (ruling_of service old.since (key_at old) was is) callers setup default a b going
    → AreRuledAll (ruling_of service new.since (key_at new) was is) callers setup default a b going
all_ruled_more service old new more was is [] setup default a b going ruled = ruled
all_ruled_more service old new more was is (k ∷ ks) setup default a b going ruled = (
  ruled.0,
  (
    turns_more (book_of service) old new more setup default k.client was ruled.0 k.choices k.halt a going.1.turned going.1.turns ruled.1.0,
    all_ruled_more service old new more ruled.0 is ks setup default going.0 b going.2 ruled.1.1,
  ),
)

pub gone-more : (service : Service) (before : Made) (texts : Texts) → AreMore before.texts texts → (Why : ClientNo → Type 0) (clients : List ClientNo)
    (old new : Tabled) → HaveGone service before Why clients old new → HaveGone service (with_texts before texts) Why clients old new
gone-more service before texts more Why clients old new gone = record {
  callers = gone.callers;
  named = gone.named;
  ours = callers_more (rules_in service) before.texts texts more gone.callers gone.ours;
  going = gone.going;
  ruled = all_ruled_more service before.texts texts more before.was before.is gone.callers service.setup service.default_schema old new gone.going gone.ruled;
  why = gone.why;
}

pub followed-more : (service : Service) (before : Made) (texts : Texts) → AreMore before.texts texts → (c : ClientNo) (ends : Bool) (old new : Tabled)
    → HasFollowed service before c ends old new → HasFollowed service (with_texts before texts) c ends old new
followed-more service before texts more c ends old new followed = record {
  choices = followed.choices;
  halt = followed.halt;
  parting = followed.parting;
  links = followed.links;
  ours = ours_more (rules_in service) before.texts texts more c followed.choices followed.ours;
  word = followed.word;
  follows = followed.follows;
  ruled = turns_more (book_of service) before.texts texts more service.setup service.default_schema c before.was before.is followed.choices followed.halt
      old followed.follows.turned followed.follows.turns followed.ruled;
  ended = followed.ended;
  why = followed.why;
}

-- what is chosen by, and what is given back, behind it

pub followed-kept : (service : Service) (a b now : Router) → Keeps b now → (c : ClientNo) (ends : Bool) (old new : Tabled)
    → HasFollowed service (made_by service a b) c ends old new → HasFollowed service (made_by service a now) c ends old new
followed-kept service a b now keeps c ends old new followed =
    subst (λ (made : Made). HasFollowed service made c ends old new) (sym (made_then service a b now keeps))
    (followed-more service (made_by service a b) now.texts keeps.texts c ends old new followed)

pub gone-kept : (service : Service) (a b now : Router) → Keeps b now → (Why : ClientNo → Type 0) (clients : List ClientNo) (old new : Tabled)
    → HaveGone service (made_by service a b) Why clients old new → HaveGone service (made_by service a now) Why clients old new
gone-kept service a b now keeps Why clients old new gone =
    subst (λ (made : Made). HaveGone service made Why clients old new) (sym (made_then service a b now keeps))
    (gone-more service (made_by service a b) now.texts keeps.texts Why clients old new gone)

-- who goes on last, behind others, by rules
abbrev pub GoesRuled : Ruling → Caller → Setup → (default : List ℕ) → (old new : Tabled) → Type 0
GoesRuled ruling k setup default old new =
    (goes : CallerGoesOn setup default k old new) × AreRuled ruling k.choices k.halt setup default k.client old goes.turned goes.turns

abbrev pub AllGoRuled : Ruling → List Caller → Setup → (default : List ℕ) → (old new : Tabled) → Type 0
AllGoRuled ruling callers setup default old new =
    (going : AllGoOn callers setup default old new) × AreRuledAll ruling callers setup default old new going

gone-along : (ruling : Ruling) (then : Administered) (callers : List Caller) (last : Caller) (setup : Setup) (default : List ℕ) (old mid new : Tabled)
    → AllGoRuled (until ruling then) callers setup default old mid → GoesRuled (from ruling then) last setup default mid new
    → AllGoRuled ruling (callers ++ last ∷ []) setup default old new
gone-along ruling then [] last setup default old mid new all goes =
    let P : Tabled → Type 0 = λ t. GoesRuled (from ruling then) last setup default t new in
    let Q : Administered → Type 0 = λ a. GoesRuled (from ruling a) last setup default old new in
    let first : GoesRuled ruling last setup default old new = subst Q all.1 (subst P (tables_are mid old all.0) goes) in
    ((new, first.0, same-itself new), (ruling.is, (first.1, refl)))
gone-along ruling then (k ∷ ks) last setup default old mid new all goes =
    let rest : AllGoRuled (from ruling all.1.0) (ks ++ last ∷ []) setup default all.0.0 new =
    gone-along (from ruling all.1.0) then ks last setup default all.0.0 mid new (all.0.2, all.1.1.1) goes in
    ((all.0.0, all.0.1, rest.0), (all.1.0, (all.1.1.0, rest.1)))

named-along : (callers : List Caller) (last : Caller)
    → map (λ (k : Caller). k.client) (callers ++ last ∷ []) ≡ map (λ (k : Caller). k.client) callers ++ last.client ∷ []
named-along [] last = refl
named-along (k ∷ ks) last = ap (λ (cs : List ClientNo). k.client ∷ cs) (named-along ks last)

none-gone : (service : Service) (made : Made) → made.is ≡ made.was → (Why : ClientNo → Type 0) (t : Tabled) → HaveGone service made Why [] t t
none-gone service made nothing Why t =
    record { callers = []; named = refl; ours = All-nil _; going = same-itself t; ruled = nothing; why = All-nil _ }

-- what was made of what there was before, and behind

abbrev making : Texts → (was is : Administered) → Made
making texts was is = record { texts = texts; was = was; is = is }

one-more : (service : Service) (texts : Texts) (was then is : Administered) (Why : ClientNo → Type 0) (clients : List ClientNo) (c : ClientNo) (ends : Bool)
    (old mid new : Tabled) → HaveGone service (making texts was then) Why clients old mid → HasGone service (making texts then is) c ends mid new
    → (ends ≡ true → Why c) → HaveGone service (making texts was is) Why (clients ++ c ∷ []) old new
one-more service texts was then is Why clients c ends old mid new before gone reason =
    let last : Caller = record { client = c; choices = gone.choices; halt = gone.halt; parting = gone.parting } in
    let along : AllGoRuled (ruling_of service texts.since (key_at texts) was is) (before.callers ++ last ∷ []) service.setup service.default_schema old new =
    gone-along (ruling_of service texts.since (key_at texts) was is) then before.callers last service.setup service.default_schema old mid new
    (before.going, before.ruled) (gone.goes, gone.ruled) in
    record {
      callers = before.callers ++ last ∷ [];
      named = named-along before.callers last ∙ ap (λ (cs : List ClientNo). cs ++ c ∷ []) before.named;
      ours = let P : Caller → Type 0 = IsCallerOurs (rules_in service) texts in
          All-append P before.callers (last ∷ []) before.ours
          (All-cons P last [] (record { choices = gone.ours; parting = gone.word }) (All-nil P));
      going = along.0;
      ruled = along.1;
      why = let P : Caller → Type 0 = λ k. IsPartedFor service.buffer_budget (Why k.client) k.parting in
          All-append P before.callers (last ∷ []) before.why
          (All-cons P last [] (part-weaker service.buffer_budget (ends ≡ true) (Why c) reason gone.parting gone.why) (All-nil P));
    }

-- those behind are there as before, each behind who went on
pub record HaveGoneSoFar (service : Service) (made : Made) (Why : ClientNo → Type 0) (done left : List ClientNo) (old now : Tabled) : Type 0 where
  pub gone : HaveGone service made Why done old now
  pub rising : AreRising left
  pub there : All (λ (c : ClientNo). IsThere old c) left
  pub same : All (λ (c : ClientNo). now.clients c ≡ old.clients c) left

goes-there : (t : Tabled) (c : ClientNo) → IsThere t c → is_going (t.clients c) ≡ true
goes-there t c is = ap is_going is.there ∙ ap not is.going

further : (service : Service) (before_texts texts : Texts) → AreMore before_texts texts → (was then is : Administered) (Why : ClientNo → Type 0)
    (done others : List ClientNo) (c : ClientNo) (ends : Bool) (old mid new : Tabled)
    → HaveGoneSoFar service (making before_texts was then) Why done (c ∷ others) old mid
    → (is_going (mid.clients c) ≡ true → HasGone service (making texts then is) c ends mid new) → (mid.clients c ≡ old.clients c → ends ≡ true → Why c)
    → HaveGoneSoFar service (making texts was is) Why (done ++ c ∷ []) others old new
further service before_texts texts more was then is Why done others c ends old mid new before goes reason =
    let P : ClientNo → Type 0 = λ o. IsThere old o in
    let S : ClientNo → Type 0 = λ o. mid.clients o ≡ old.clients o in
    let same : mid.clients c ≡ old.clients c = All-head S c others before.same in
    let gone : HasGone service (making texts then is) c ends mid new =
    goes (ap is_going same ∙ goes-there old c (All-head P c others before.there)) in
    record {
      gone = one-more service texts was then is Why done c ends old mid new
          (gone-more service (making before_texts was then) texts more Why done old mid before.gone) gone (reason same);
      rising = before.rising.1;
      there = All-tail P c others before.there;
      same = still_same service.setup service.default_schema
          (record { client = c; choices = gone.choices; halt = gone.halt; parting = gone.parting }) old mid new gone.goes others before.rising.0
          (All-tail S c others before.same);
    }

pub gone-first : (service : Service) (r : Router) (Why : ClientNo → Type 0) (clients : List ClientNo) (t : Tabled) → AreRising clients
    → All (λ (c : ClientNo). IsThere t c) clients → HaveGoneSoFar service (made_by service r r) Why [] clients t t
gone-first service r Why clients t rising there =
    record { gone = none-gone service (made_by service r r) refl Why t; rising = rising; there = there; same = λ k d within. refl }

pub gone-next : (d : ClientNo) (service : Service) (a b now : Router) → AreMore b.texts now.texts → (Why : ClientNo → Type 0) (clients : List ClientNo)
    (i : ℕ) (ends : Bool) (old mid new : Tabled) → i < length clients
    → HaveGoneSoFar service (made_by service a b) Why (take i clients) (drop i clients) old mid
    → (is_going (mid.clients (get_or clients i d)) ≡ true → HasGone service (made_by service b now) (get_or clients i d) ends mid new)
    → (mid.clients (get_or clients i d) ≡ old.clients (get_or clients i d) → ends ≡ true → Why (get_or clients i d))
    → HaveGoneSoFar service (made_by service a now) Why (take (i + 1) clients) (drop (i + 1) clients) old new
gone-next d service a b now more Why clients i ends old mid new within before goes reason =
    let P : List ClientNo → Type 0 = λ cs. HaveGoneSoFar service (made_by service a now) Why cs (drop (i + 1) clients) old new in
    let Q : List ClientNo → Type 0 = λ cs. HaveGoneSoFar service (made_by service a b) Why (take i clients) cs old mid in
    subst P (sym (take_more clients i d within))
    (further service b.texts now.texts more (worked service (work_of a)) (worked service (work_of b)) (worked service (work_of now)) Why (take i clients)
    (drop (i + 1) clients) (get_or clients i d) ends old mid new (subst Q (drop_more clients i d within) before) goes reason)

pub gone-all : (service : Service) (made : Made) (Why : ClientNo → Type 0) (clients : List ClientNo) (i : ℕ) (old new : Tabled) → length clients ≤ i
    → HaveGoneSoFar service made Why (take i clients) (drop i clients) old new → HaveGone service made Why clients old new
gone-all service made Why clients i old new end is =
    let P : List ClientNo → Type 0 = λ cs. HaveGone service made Why cs old new in
    subst P (take_all i clients end) is.gone

in-order : (callers : List Caller) → AreRising (map (λ (k : Caller). k.client) callers) → AreInOrder callers
in-order [] rising = tt
in-order (k ∷ ks) rising = (all ks rising.0, in-order ks rising.1) where
  all : (others : List Caller) → All (λ (other : ClientNo). k.client.0 < other.0) (map (λ (o : Caller). o.client) others)
      → All (λ (other : Caller). k.client.0 < other.client.0) others
  all [] is = All-nil _
  all (o ∷ os) is = All-cons (λ (other : Caller). k.client.0 < other.client.0) o os
      (All-head (λ (other : ClientNo). k.client.0 < other.0) o.client (map (λ (one : Caller). one.client) os) is)
      (all os (All-tail (λ (other : ClientNo). k.client.0 < other.0) o.client (map (λ (one : Caller). one.client) os) is))

all-there : (t : Tabled) (callers : List Caller) → All (λ (c : ClientNo). IsThere t c) (map (λ (k : Caller). k.client) callers)
    → All (λ (k : Caller). IsThere t k.client) callers
all-there t [] all = All-nil _
all-there t (k ∷ ks) all =
    All-cons (λ (o : Caller). IsThere t o.client) k ks (All-head (λ (c : ClientNo). IsThere t c) k.client (map (λ (o : Caller). o.client) ks) all)
    (all-there t ks (All-tail (λ (c : ClientNo). IsThere t c) k.client (map (λ (o : Caller). o.client) ks) all))

pub called-so : (callers : List Caller) (c : ClientNo) → is_called callers c ≡ is_of (map (λ (k : Caller). k.client) callers) c
called-so [] c = refl
called-so (k ∷ ks) c = ap (λ (b : Bool). is_client c k.client || b) (called-so ks c)

pub have-followed : (service : Service) (made : Made) (Why : ClientNo → Type 0) (clients : List ClientNo) (homes : List LinkId) (old mid new : Tabled)
    → AreHomesOf (is_of clients) homes old → HaveGone service made Why clients old mid → IsSame new (all_freed homes mid) → AreRising clients
    → All (λ (c : ClientNo). IsThere old c) clients → HaveFollowed service made Why clients old new
have-followed service made Why clients homes old mid new are gone freed rising there = record {
  callers = gone.callers;
  links = homes;
  named = gone.named;
  ours = gone.ours;
  calls = record {
    in_order = in-order gone.callers (let P : List ClientNo → Type 0 = λ cs. AreRising cs in subst P (sym gone.named) rising);
    there = all-there old gone.callers (let P : List ClientNo → Type 0 = λ cs. All (λ (c : ClientNo). IsThere old c) cs in
        subst P (sym gone.named) there);
    homes = record {
      homes = λ c row h l whose at home known. are.homes c row h l (sym (its c) ∙ whose) at home known;
      known = are.known;
      rising = are.rising;
    };
    turned = mid;
    going = gone.going;
    freed = freed;
  };
  ruled = gone.ruled;
  why = gone.why;
} where
  its : (c : ClientNo) → is_called gone.callers c ≡ is_of clients c
  its c = called-so gone.callers c ∙ ap (λ (cs : List ClientNo). is_of cs c) gone.named
