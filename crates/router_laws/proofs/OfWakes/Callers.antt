-- Clients that are called go on, one after the other.
use Rattle.std.specs.Prelude.{◌≡◌, ◌+◌, ◌||◌, not, ℕ, suc, Bool, true, false, All, length, List, [], ◌∷◌, ◌++◌, None}
use Rattle.std.specs.List.{list_any}
use Rattle.std.proofs.Common.{refl, sym, ap, ◌∙◌, subst}
use Rattle.std.proofs.lemmas.List.Elements.{All-cons, All-head, All-nil, All-tail, All-weaker}
use Rattle.std.proofs.lemmas.List.Folds.{list_any-append}
use Rattle.client_session.specs.Setups.{Setup as Service}
use Rattle.private_model.proofs.Maps.{same_number}
use Rattle.private_model.specs.Names.{ClientNo}
use Rattle.private_model.specs.Story.{Left, is_client}
use Rattle.private_model.specs.View.{Setup}
use Rattle.log_story.specs.Owed.{messages, name_of}
use Rattle.log_story.specs.Plan.{Plan}
use Rattle.log_story.specs.Tale as tales
use Rattle.log_story.specs.Tale.{Tale, tell}
use Rattle.row_laws.specs.Readied.{AreClasses}
use Rattle.step_laws.proofs.Others.{idle_alike, spared_alike}
use Rattle.step_laws.proofs.Taking.{others_along, others_itself, taken_up_spares}
use Rattle.step_laws.specs.Seats.{IsSeated, is_its, seats}
use Rattle.step_laws.specs.Steps.{ends_now, leave}
use Rattle.step_laws.specs.Taken.{AreSingle, IsIdle, SparesOthers, all_taken}
use Rattle.core_tables.specs.Tables.{Tabled}
use Rattle.core_stands.specs.Grounds.{Ground}
use Rattle.core_stands.specs.Stands.{Stands}
use Rattle.core_laws.specs.arrival.Looks.{IsLetIn}
use Rattle.core_laws.specs.clients.Chosen.{PlanHas}
use Rattle.core_laws.specs.clients.Following.{IsPartedIn}
use Rattle.core_laws.specs.clients.Follows.{PartsSo, ends_by, quits_by}
use Rattle.core_laws.specs.clients.Turns.{Turns, count_by}
use Rattle.router_laws.proofs.OfWakes.Going.{IsOut, Laws, MayGoOn, early_with, out, over_with}
use Rattle.router_laws.proofs.OfWakes.Later.{LeftLater, flipped, idle_later, left_later, taken_later}
use Rattle.router_laws.specs.wakes.Calling.{AllGoOn, Caller, CallerGoesOn}

-- all that these take up, one after the other
abbrev pub all_gone : Setup → Plan → List tales.Client → Tale → Tale
all_gone setup plan [] tale = tale
all_gone setup plan (x ∷ xs) tale = all_gone setup plan xs (all_taken setup plan x tale)

-- A client of the tale is this caller, by a plan that has what was decided of it.
pub record IsCaller (service : Service) (default : List ℕ) (g : Ground) (caller : Caller) (x : tales.Client) : Type 0 where
  pub number : x.number ≡ caller.client
  pub let_in : IsLetIn g default x
  pub going : g.over x.number ≡ false
  pub unrouted : g.plan.routes (name_of x 0) ≡ None
  pub chosen : PlanHas caller.choices caller.halt g.setup.keys g.plan (suc g.tale.moment) (name_of x (suc x.taken))
  pub ends : ends_now g.plan (suc g.tale.moment) x.number ≡ ends_by caller.halt caller.parting
  pub parted : (tale : Tale) (over : ClientNo → Bool) → over x.number ≡ false → quits_by caller.halt ≡ false
      → IsPartedIn caller.parting service (record g { tale = tale; over = over }) x.number (suc g.tale.moment)

abbrev pub AreCallers : Service → (default : List ℕ) → Ground → List Caller → List tales.Client → Type 0
AreCallers service default g [] [] = Unit {0}
AreCallers service default g [] (x ∷ xs) = ⊥
AreCallers service default g (caller ∷ callers) [] = ⊥
AreCallers service default g (caller ∷ callers) (x ∷ xs) = IsCaller service default g caller x × AreCallers service default g callers xs

-- who ended

abbrev pub ended_with : Bool → ClientNo → List ClientNo → List ClientNo
ended_with true c cs = cs ++ c ∷ []
ended_with false c cs = cs

abbrev pub is_ended_by : Caller → Bool
is_ended_by caller = ends_by caller.halt caller.parting

abbrev pub ended_on : List Caller → List tales.Client → List ClientNo → List ClientNo
ended_on [] xs cs = cs
ended_on (caller ∷ callers) [] cs = cs
ended_on (caller ∷ callers) (x ∷ xs) cs = ended_on callers xs (ended_with (is_ended_by caller) x.number cs)

abbrev pub is_in : List ClientNo → ClientNo → Bool
is_in cs c = list_any (λ (x : ClientNo). is_client x c) cs

abbrev pub AreAside : List ClientNo → tales.Client → Type 0
AreAside cs x = All (λ (c : ClientNo). is_client x.number c ≡ false) cs

-- each behind another has another number, and isn't among these
abbrev pub AreApart : List ClientNo → List tales.Client → Type 0
AreApart cs [] = Unit {0}
AreApart cs (x ∷ xs) = AreAside cs x × All (λ (y : tales.Client). is_client y.number x.number ≡ false) xs × AreApart cs xs

module _ (laws : Laws) (service : Service) (default : List ℕ) (g : Ground) (looked : (x : ClientNo) → g.fresh x ≡ false)
    (classes : AreClasses g.setup.reads) (single : (whose : ClientNo → Bool) → AreSingle g.plan whose) where
  abbrev gone : tales.Client → Tale → Tale
  gone x tale = all_taken g.setup g.plan x tale

  abbrev pub with_over : (ClientNo → Bool) → Tale → Ground
  with_over over tale = record g { tale = tale; over = over }

  -- The tables stand as clients left at once, which is as good as leaving behind all.
  pub record IsAt (cs : List ClientNo) (early late : Tale) (over : ClientNo → Bool) (t : Tabled) : Type 0 where
    pub stands : Stands service (with_over over early) t
    pub later : LeftLater g.setup g.plan cs early late
    pub overs : (c : ClientNo) → over c ≡ (g.over c || is_in cs c)
    pub moment : early.moment ≡ suc g.tale.moment

  -- One of them.

  leave_clients : (cs : List ClientNo) (tale : Tale) → (leave cs tale).clients ≡ tale.clients
  leave_clients [] tale = refl
  leave_clients (c ∷ cs) tale = leave_clients cs (tell (Left c) tale)

  pub seated_early : (cs : List ClientNo) (early late : Tale) (x : tales.Client) → LeftLater g.setup g.plan cs early late → IsSeated late x → IsSeated early x
  seated_early cs early late x later seated =
      ap (λ (xs : List tales.Client). seats (record early { clients = xs }) x.number) (sym later.like.clients ∙ leave_clients cs late) ∙ seated

  none_in : (cs : List ClientNo) (x : tales.Client) → AreAside cs x → is_in cs x.number ≡ false
  none_in [] x aside = refl
  none_in (c ∷ cs) x aside =
      (λ i. flipped x.number c (All-head (λ (k : ClientNo). is_client x.number k ≡ false) c cs aside) i || is_in cs x.number)
      ∙ none_in cs x (All-tail (λ (k : ClientNo). is_client x.number k ≡ false) c cs aside)

  over_more : (a b d : Bool) → (b || (a || d)) ≡ (a || (d || (b || false)))
  over_more true true d = refl
  over_more true false d = refl
  over_more false true true = refl
  over_more false true false = refl
  over_more false false true = refl
  over_more false false false = refl

  overs_with : (b : Bool) (c : ClientNo) (cs : List ClientNo) (over : ClientNo → Bool) → ((k : ClientNo) → over k ≡ (g.over k || is_in cs k)) → (k : ClientNo)
      → over_with b c over k ≡ (g.over k || is_in (ended_with b c cs) k)
  overs_with true c cs over overs k =
      ap (λ (b : Bool). is_client c k || b) (overs k) ∙ over_more (g.over k) (is_client c k) (is_in cs k)
      ∙ ap (λ (b : Bool). g.over k || b) (sym (list_any-append (λ (x : ClientNo). is_client x k) cs (c ∷ [])))
  overs_with false c cs over overs k = overs k

  later_with : (b : Bool) (c : ClientNo) (cs : List ClientNo) (early late : Tale) → LeftLater g.setup g.plan cs early late
      → LeftLater g.setup g.plan (ended_with b c cs) (early_with b c early) late
  later_with true c cs early late later = left_later g.setup g.plan cs c early late later
  later_with false c cs early late later = later

  moment_with : (b : Bool) (c : ClientNo) (tale : Tale) → (early_with b c tale).moment ≡ tale.moment
  moment_with true c tale = refl
  moment_with false c tale = refl

  abbrev most : tales.Client → ℕ
  most x = length (messages g.plan x)

  -- what it took up, where it stands then
  pub record IsDone (late : Tale) (caller : Caller) (x : tales.Client) : Type 0 where
    pub last : tales.Client
    pub seated : IsSeated late last
    pub number : last.number ≡ x.number
    pub count : last.taken ≡ x.taken + count_by caller.choices caller.halt
    pub idle : is_ended_by caller ≡ false → IsIdle g.setup g.plan late last

  pub record IsOn (cs : List ClientNo) (late : Tale) (caller : Caller) (x : tales.Client) (t : Tabled) : Type 0 where
    pub early : Tale
    pub over : ClientNo → Bool
    pub at : IsAt (ended_with (is_ended_by caller) x.number cs) early (gone x late) over t
    pub done : IsDone (gone x late) caller x

  module _ (cs : List ClientNo) (early late : Tale) (over : ClientNo → Bool) (t now : Tabled) (at : IsAt cs early late over t) (caller : Caller)
      (x : tales.Client) (is : IsCaller service default g caller x) (aside : AreAside cs x) (seated : IsSeated late x)
      (goes : CallerGoesOn service default caller t now) where
    abbrev h : Ground
    h = with_over over early

    going : over x.number ≡ false
    going = at.overs x.number ∙ (λ i. is.going i || is_in cs x.number) ∙ none_in cs x aside

    pub may : MayGoOn service default h early x caller
    may = record {
      seated = seated_early cs early late x at.later seated;
      single = single (is_its x);
      classes = classes;
      let_in = record { account = is.let_in.account; place = is.let_in.place };
      going = going;
      unrouted = is.unrouted;
      chosen = subst (λ (m : ℕ). PlanHas caller.choices caller.halt g.setup.keys g.plan m (name_of x (suc x.taken))) (sym at.moment) is.chosen;
      once = goes.once;
      parted = λ stays. subst (λ (m : ℕ). IsPartedIn caller.parting service h x.number m) (sym at.moment) (is.parted early over going stays);
    }

    went : IsOut service h early x caller now
    went =
        out laws service default h looked early t goes.turned now x caller may at.stands
        (subst (λ (c : ClientNo). Turns caller.choices caller.halt service default c t goes.turned) (sym is.number) goes.turns)
        (subst (λ (c : ClientNo). PartsSo caller.parting c goes.turned now) (sym is.number) goes.parts)

    later : LeftLater g.setup g.plan cs (gone x early) (gone x late)
    later = taken_later g.setup g.plan cs (most x) x early late aside (single (is_its x)) at.later

    same_clients : (gone x early).clients ≡ (gone x late).clients
    same_clients = sym later.like.clients ∙ leave_clients cs (gone x late)

    aside_of : (y : tales.Client) → y.number ≡ x.number → AreAside cs y
    aside_of y number = subst (λ (n : ClientNo). All (λ (c : ClientNo). is_client n c ≡ false) cs) (sym number) aside

    pub goes_on : IsOn cs late caller x now
    goes_on = record {
      early = early_with (is_ended_by caller) x.number (gone x early);
      over = over_with (is_ended_by caller) x.number over;
      at = record {
        stands = went.stands;
        later = later_with (is_ended_by caller) x.number cs (gone x early) (gone x late) later;
        overs = overs_with (is_ended_by caller) x.number cs over at.overs;
        moment = moment_with (is_ended_by caller) x.number (gone x early)
            ∙ (taken_up_spares g.setup (is_its x) g.plan (single (is_its x)) (most x) x early (same_number x.number.0)).moment ∙ at.moment;
      };
      done = record {
        last = went.last;
        seated = ap (λ (xs : List tales.Client). seats (record (gone x late) { clients = xs }) went.last.number) (sym same_clients) ∙ went.seated;
        number = went.number;
        count = went.count;
        idle = λ none.
            idle_later g.setup g.plan cs went.last (gone x early) (gone x late) (aside_of went.last went.number) (single (is_its went.last)) later
            (went.idle none);
      };
    }

  -- Others leave it as it stands.

  gone_spares : (whose : ClientNo → Bool) (xs : List tales.Client) (tale : Tale) → All (λ (x : tales.Client). whose x.number ≡ true) xs
      → SparesOthers g.setup whose tale (all_gone g.setup g.plan xs tale)
  gone_spares whose [] tale its = others_itself g.setup whose tale
  gone_spares whose (x ∷ xs) tale its =
      others_along g.setup whose tale (gone x tale) (all_gone g.setup g.plan xs (gone x tale))
      (taken_up_spares g.setup whose g.plan (single whose) (most x) x tale (All-head (λ (y : tales.Client). whose y.number ≡ true) x xs its))
      (gone_spares whose xs (gone x tale) (All-tail (λ (y : tales.Client). whose y.number ≡ true) x xs its))

  done_kept : (caller : Caller) (x : tales.Client) (xs : List tales.Client) (late : Tale) → All (λ (y : tales.Client). is_client y.number x.number ≡ false) xs
      → IsDone late caller x → IsDone (all_gone g.setup g.plan xs late) caller x
  done_kept caller x xs late others done =
      let whose : ClientNo → Bool = λ (n : ClientNo). not (is_client n x.number) in
      let last : Tale = all_gone g.setup g.plan xs late in
      let spares : SparesOthers g.setup whose late last =
      gone_spares whose xs late
      (All-weaker (λ (y : tales.Client). is_client y.number x.number ≡ false) (λ (y : tales.Client). whose y.number ≡ true) (λ y other. ap not other) xs others) in
      let its : whose done.last.number ≡ false =
      ap (λ (n : ClientNo). not (is_client n x.number)) done.number ∙ ap not (same_number x.number.0) in
      record {
        last = done.last;
        seated = spares.seat done.last.number its ∙ done.seated;
        number = done.number;
        count = done.count;
        idle = λ none.
            idle_alike g.setup g.plan done.last late last (spared_alike g.setup g.plan whose late last spares done.last its) (done.idle none);
      }

  -- All of them.

  abbrev pub DonesOf : List Caller → List tales.Client → Tale → Type 0
  DonesOf [] xs late = Unit {0}
  DonesOf (caller ∷ callers) [] late = Unit {0}
  DonesOf (caller ∷ callers) (x ∷ xs) late = IsDone late caller x × DonesOf callers xs late

  aside_more : (cs : List ClientNo) (c : ClientNo) (y : tales.Client) → AreAside cs y → is_client y.number c ≡ false → AreAside (cs ++ c ∷ []) y
  aside_more [] c y aside other =
      All-cons (λ (k : ClientNo). is_client y.number k ≡ false) c [] other (All-nil (λ (k : ClientNo). is_client y.number k ≡ false))
  aside_more (d ∷ cs) c y aside other =
      All-cons (λ (k : ClientNo). is_client y.number k ≡ false) d (cs ++ c ∷ [])
      (All-head (λ (k : ClientNo). is_client y.number k ≡ false) d cs aside)
      (aside_more cs c y (All-tail (λ (k : ClientNo). is_client y.number k ≡ false) d cs aside) other)

  apart_more : (cs : List ClientNo) (c : ClientNo) (xs : List tales.Client) → AreApart cs xs → All (λ (y : tales.Client). is_client y.number c ≡ false) xs
      → AreApart (cs ++ c ∷ []) xs
  apart_more cs c [] apart others = tt
  apart_more cs c (x ∷ xs) apart others = (
    aside_more cs c x apart.0 (All-head (λ (y : tales.Client). is_client y.number c ≡ false) x xs others),
    apart.1,
    apart_more cs c xs apart.2 (All-tail (λ (y : tales.Client). is_client y.number c ≡ false) x xs others),
  )

  pub apart_with : (b : Bool) (cs : List ClientNo) (c : ClientNo) (xs : List tales.Client) → AreApart cs xs → All (λ (y : tales.Client). is_client y.number c ≡ false) xs
      → AreApart (ended_with b c cs) xs
  apart_with true cs c xs apart others = apart_more cs c xs apart others
  apart_with false cs c xs apart others = apart

  pub seated_still : (x : tales.Client) (xs : List tales.Client) (late : Tale) → All (λ (y : tales.Client). is_client y.number x.number ≡ false) xs
      → All (IsSeated late) xs → All (IsSeated (gone x late)) xs
  seated_still x xs late others seated =
      All-weaker (λ (y : tales.Client). (IsSeated late y) × (is_client y.number x.number ≡ false)) (IsSeated (gone x late))
      (λ y both. (taken_up_spares g.setup (is_its x) g.plan (single (is_its x)) (most x) x late (same_number x.number.0)).seat y.number both.1 ∙ both.0) xs
      (λ k d within. (seated k d within, others k d within))

  pub record AllWent (cs : List ClientNo) (late : Tale) (callers : List Caller) (xs : List tales.Client) (t : Tabled) : Type 0 where
    pub early : Tale
    pub over : ClientNo → Bool
    pub at : IsAt (ended_on callers xs cs) early (all_gone g.setup g.plan xs late) over t
    pub dones : DonesOf callers xs (all_gone g.setup g.plan xs late)

  pub all_went : (callers : List Caller) (xs : List tales.Client) → AreCallers service default g callers xs → (cs : List ClientNo) (early late : Tale)
      (over : ClientNo → Bool) (t now : Tabled) → AreApart cs xs → All (IsSeated late) xs → IsAt cs early late over t → AllGoOn callers service default t now
      → AllWent cs late callers xs now
  all_went [] [] are cs early late over t now apart seated at same = record {
    early = early;
    over = over;
    at = record {
      stands = laws.same service (with_over over early) t now at.stands same;
      later = at.later;
      overs = at.overs;
      moment = at.moment;
    };
    dones = tt;
  }
  all_went [] (x ∷ xs) are cs early late over t now apart seated at goes = absurd are
  all_went (caller ∷ callers) [] are cs early late over t now apart seated at goes = absurd are
  all_went (caller ∷ callers) (x ∷ xs) are cs early late over t now apart seated at goes =
      let first = goes_on cs early late over t goes.0 at caller x are.0 apart.0 (All-head (IsSeated late) x xs seated) goes.1 in
      let rest =
      all_went callers xs are.1 (ended_with (is_ended_by caller) x.number cs) first.early (gone x late) first.over goes.0 now
      (apart_with (is_ended_by caller) cs x.number xs apart.2 apart.1)
      (seated_still x xs late apart.1 (All-tail (IsSeated late) x xs seated)) first.at goes.2 in
      record {
        early = rest.early;
        over = rest.over;
        at = rest.at;
        dones = (done_kept caller x xs (gone x late) apart.1 first.done, rest.dones);
      }
