-- What becomes of the messages of clients that are called and go on, one after the other.
use Rattle.std.specs.Prelude.{◌≡◌, ◌||◌, ℕ, suc, Bool, true, false, not, if◌then◌else◌, All, length, List, [], ◌∷◌, Some, None}
use Rattle.std.proofs.Common.{refl, sym, ap, ◌∙◌, subst}
use Rattle.std.proofs.lemmas.Bool.{false≢true}
use Rattle.std.proofs.lemmas.List.Elements.{All-head, All-tail, All-weaker, filter_passes}
use Rattle.mx_wire.specs.declared.entry.Entry.{Entry}
use Rattle.client_session.specs.Setups.{Setup as Service}
use Rattle.private_model.proofs.Maps.{client_of, same_number}
use Rattle.private_model.specs.Names.{ClientNo, LinkId, MessageName}
use Rattle.private_model.specs.Story.{is_client}
use Rattle.log_story.specs.Owed.{messages}
use Rattle.log_story.specs.Plan.{Route}
use Rattle.log_story.specs.Servers.{links_are_freed}
use Rattle.log_story.specs.Tale as tales
use Rattle.log_story.specs.Tale.{Tale, counted, view_of}
use Rattle.row_laws.specs.Readied.{AreClasses}
use Rattle.step_laws.proofs.Giving.{none_in}
use Rattle.step_laws.proofs.Leaving.{leave_spares}
use Rattle.step_laws.proofs.Taking.{taken_up_spares}
use Rattle.step_laws.specs.Freed.{NoneDone}
use Rattle.step_laws.specs.Seats.{IsSeated, clients_of, is_its}
use Rattle.step_laws.specs.Steps.{leave, told_then}
use Rattle.step_laws.specs.Taken.{AreSingle, SparesOthers, all_taken}
use Rattle.step_laws.specs.Taken.{is_called as is_called_by}
use Rattle.core_tables.specs.Tables.{Tabled}
use Rattle.core_stands.specs.Grounds.{Ground, on, view_on}
use Rattle.core_stands.specs.Stands.{Rests, Stands}
use Rattle.core_laws.proofs.OfEntry.Lists.{seated_of}
use Rattle.core_laws.specs.clients.Follows.{PartsSo}
use Rattle.core_laws.specs.clients.Turns.{Turns}
use Rattle.core_promises.proofs.Takings.{Covers, IsSeenAlike, cover_on, entry_covers, paired_cover, seen_back, seen_itself, seen_like, seen_on, seen_spared, takings_paired}
use Rattle.core_promises.specs.Ruled.{AreRuled, Ruling}
use Rattle.router_promises.specs.Takings.{Taking, takings_at, takings_of}
use Rattle.core_promises.specs.Administers.{Administered}
use Rattle.router_laws.proofs.OfWakes.States.{AreRuledEach, ruled_each, ruling_at, state_of}
use Rattle.router_laws.specs.decisions.Judges.{HasKeys, JudgedFrom, judging_of}
use Rattle.router_laws.specs.decisions.Rulings.{AreRuledAll}
use Rattle.router_laws.proofs.OfDecisions.JudgedOn.{TurnsJudge}
use Rattle.router_laws.proofs.OfDecisions.KeptOn.{AreKnownHeld, held_alike}
use Rattle.router_laws.specs.decisions.Held.{keys_since}
use Rattle.router_laws.proofs.OfWakes.Called as called
use Rattle.router_laws.proofs.OfWakes.Called.{Frees, IsCalling}
use Rattle.router_laws.proofs.OfWakes.Callers as callers
use Rattle.router_laws.proofs.OfWakes.Callers.{AreApart, AreAside, AreCallers, IsAt, IsCaller, ended_with, is_ended_by, with_over}
use Rattle.router_laws.proofs.OfWakes.Going as going
use Rattle.router_laws.proofs.OfWakes.Going.{Laws, MayGoOn}
use Rattle.router_laws.specs.wakes.Calling.{AllGoOn, Caller, CallerGoesOn, CallsSo, is_called}
use Rattle.router_laws.specs.wakes.Deciding.{found_in}

module _ (laws : Laws) (judges : TurnsJudge) (ruling : Ruling) (states : (number : ℕ) → Administered) (service : Service) (default : List ℕ) (g : Ground) (looked : (x : ClientNo) → g.fresh x ≡ false)
    (classes : AreClasses g.setup.reads) (single : (whose : ClientNo → Bool) → AreSingle g.plan whose) (heard : Tale) (whose : ClientNo → Bool)
    (keyed : HasKeys ruling.keys g.setup) (takings : List Taking)
    (covers : (x : tales.Client) → IsSeated heard x → whose x.number ≡ true → g.over x.number ≡ false
    → Covers g.setup x.number (takings_of (length (messages g.plan x)) g.setup g.plan x heard) takings)
    (held : (x : tales.Client) → IsSeated heard x → g.over x.number ≡ false
    → AreKnownHeld (keys_since ruling.since ruling.keys) (view_of g.setup heard) g.plan x) where
  abbrev At : List ClientNo → (early late : Tale) → (ClientNo → Bool) → Tabled → Type 0
  At cs early late over t = IsAt laws service default g looked classes single cs early late over t

  alone : (m : MessageName) (route : Route) → g.plan.routes m ≡ Some route → route.mirror ≡ None
  alone m route is = single (λ c. true) m route refl is

  -- of this caller, which is this client
  abbrev pub IsCallerJudged : Caller → tales.Client → Type 0
  IsCallerJudged caller x =
      JudgedFrom (judging_of (ruling_at ruling.book ruling.since ruling.keys states x.number)) g.setup g.plan x takings x.taken caller.choices caller.halt

  -- it stands as the entry was told
  pub record IsHeard (late : Tale) (x : tales.Client) : Type 0 where
    pub seated : IsSeated heard x
    pub its : whose x.number ≡ true
    pub seen : IsSeenAlike g.setup x.number heard late

  module _ (cs : List ClientNo) (early late : Tale) (over : ClientNo → Bool) (t now : Tabled) (at : At cs early late over t) (caller : Caller)
      (x : tales.Client) (is : IsCaller service default g caller x) (aside : AreAside cs x) (seated : IsSeated late x) (there : IsHeard late x)
      (goes : CallerGoesOn service default caller t now)
      (ruled : AreRuled (ruling_at ruling.book ruling.since ruling.keys states caller.client) caller.choices caller.halt service default caller.client t goes.turned goes.turns) where
    abbrev h : Ground
    h = with_over laws service default g looked classes single over early

    may : MayGoOn service default h early x caller
    may = callers.may laws service default g looked classes single cs early late over t now at caller x is aside seated goes

    -- whoever left before it changes nothing of it

    abbrev others : ClientNo → Bool
    others n = not (is_client x.number n)

    spared : SparesOthers g.setup others late (leave cs late)
    spared =
        leave_spares g.setup others cs late
        (All-weaker (λ (c : ClientNo). is_client x.number c ≡ false) (λ (c : ClientNo). others c ≡ true) (λ c other. ap not other) cs aside)

    seen_early : IsSeenAlike g.setup x.number early heard
    seen_early =
        let left : IsSeenAlike g.setup x.number late (leave cs late) =
        seen_spared g.setup x.number others late (leave cs late) spared (ap not (same_number x.number.0)) in
        seen_on g.setup x.number early (leave cs late) heard (seen_like g.setup x.number early (leave cs late) at.later.like)
        (seen_on g.setup x.number (leave cs late) late heard (seen_back g.setup x.number late (leave cs late) left)
        (seen_back g.setup x.number heard late there.seen))

    abbrev its_takings : Tale → List Taking
    its_takings tale = takings_of (length (messages g.plan x)) g.setup g.plan x tale

    covered : Covers g.setup x.number (its_takings early) takings
    covered =
        cover_on g.setup x.number (its_takings early) (its_takings heard) takings
        (paired_cover g.setup x.number (its_takings early) (its_takings heard)
        (takings_paired g.setup g.plan alone (length (messages g.plan x)) x early heard seen_early))
        (covers x there.seated there.its is.going)

    one_judged : IsCallerJudged caller x
    one_judged =
        subst (λ (c : ClientNo). JudgedFrom (judging_of (ruling_at ruling.book ruling.since ruling.keys states c)) g.setup g.plan x takings x.taken caller.choices caller.halt)
        (sym is.number)
        (judges (ruling_at ruling.book ruling.since ruling.keys states caller.client) service default x x early (on h early) t goes.turned caller.choices caller.halt caller.client is.number
        (going.turning laws service default h looked early t goes.turned now x caller may at.stands
        (subst (λ (c : ClientNo). Turns caller.choices caller.halt service default c t goes.turned) (sym is.number) goes.turns)
        (subst (λ (c : ClientNo). PartsSo caller.parting c goes.turned now) (sym is.number) goes.parts))
        may.chosen goes.turns ruled
        (held_alike (view_of g.setup heard) (view_of g.setup early) (sym seen_early.replies) g.plan x (keys_since ruling.since ruling.keys)
        (held x there.seated is.going))
        keyed takings (subst (λ (c : ClientNo). Covers g.setup c (its_takings early) takings) is.number covered))

  abbrev pub AreJudgedAll : List Caller → List tales.Client → Type 0
  AreJudgedAll [] xs = Unit {0}
  AreJudgedAll (caller ∷ others) [] = Unit {0}
  AreJudgedAll (caller ∷ others) (x ∷ xs) = IsCallerJudged caller x × AreJudgedAll others xs

  -- as another takes up its messages
  heard_still : (x : tales.Client) (xs : List tales.Client) (late : Tale) → All (λ (y : tales.Client). is_client y.number x.number ≡ false) xs
      → All (IsHeard late) xs → All (IsHeard (all_taken g.setup g.plan x late)) xs
  heard_still x xs late others there =
      let next : Tale = all_taken g.setup g.plan x late in
      All-weaker (λ (y : tales.Client). IsHeard late y × (is_client y.number x.number ≡ false)) (IsHeard next)
      (λ y both. record {
        seated = both.0.seated;
        its = both.0.its;
        seen = seen_on g.setup y.number heard late next both.0.seen
            (seen_spared g.setup y.number (is_its x) late next
            (taken_up_spares g.setup (is_its x) g.plan (single (is_its x)) (length (messages g.plan x)) x late (same_number x.number.0)) both.1);
      }) xs (λ k d within. (there k d within, others k d within))

  pub all_judged : (ks : List Caller) (xs : List tales.Client) → AreCallers service default g ks xs → (cs : List ClientNo) (early late : Tale)
      (over : ClientNo → Bool) (t now : Tabled) → AreApart cs xs → All (IsSeated late) xs → All (IsHeard late) xs → At cs early late over t
      → (goes : AllGoOn ks service default t now) → AreRuledEach ruling.book ruling.since ruling.keys states ks service default t now goes → AreJudgedAll ks xs
  all_judged [] xs are cs early late over t now apart seated there at goes ruled = tt
  all_judged (k ∷ ks) [] are cs early late over t now apart seated there at goes ruled = tt
  all_judged (k ∷ ks) (x ∷ xs) are cs early late over t now apart seated there at goes ruled =
      let here : IsSeated late x = All-head (IsSeated late) x xs seated in
      let first = callers.goes_on laws service default g looked classes single cs early late over t goes.0 at k x are.0 apart.0 here goes.1 in (
        one_judged cs early late over t goes.0 at k x are.0 apart.0 here (All-head (IsHeard late) x xs there) goes.1 ruled.0,
        all_judged ks xs are.1 (ended_with (is_ended_by k) x.number cs) first.early (all_taken g.setup g.plan x late)
            first.over goes.0 now
            (callers.apart_with laws service default g looked classes single (is_ended_by k) cs x.number xs apart.2 apart.1)
            (callers.seated_still laws service default g looked classes single x xs late apart.1 (All-tail (IsSeated late) x xs seated))
            (heard_still x xs late apart.1 (All-tail (IsHeard late) x xs there)) first.at goes.2 ruled.1,
      )

  -- One of them.

  pub record IsJudgedIn (ks : List Caller) (tale : Tale) (c : ClientNo) : Type 0 where
    pub caller : Caller
    pub found : found_in ks c ≡ Some caller
    pub x : tales.Client
    pub seated : IsSeated tale x
    pub number : x.number ≡ c
    pub judged : IsCallerJudged caller x

  judged_first : (tale : Tale) (c : ClientNo) (k : Caller) (ks : List Caller) (y : tales.Client) → IsSeated tale y → IsCaller service default g k y
      → IsCallerJudged k y → (is_called ks c ≡ true → IsJudgedIn ks tale c) → (b : Bool) → is_client c k.client ≡ b → (b || is_called ks c) ≡ true
      → IsJudgedIn (k ∷ ks) tale c
  judged_first tale c k ks y seated caller judged later true same there = record {
    caller = k;
    found = ap (λ (b : Bool). if b then Some k else found_in ks c) same;
    x = y;
    seated = seated;
    number = caller.number ∙ sym (client_of c k.client same);
    judged = judged;
  }
  judged_first tale c k ks y seated caller judged later false other there =
      let at : IsJudgedIn ks tale c = later there in
      record {
        caller = at.caller;
        found = ap (λ (b : Bool). if b then Some k else found_in ks c) other ∙ at.found;
        x = at.x;
        seated = at.seated;
        number = at.number;
        judged = at.judged;
      }

  pub judged_in : (tale : Tale) (c : ClientNo) (ks : List Caller) (ys : List tales.Client) → AreCallers service default g ks ys → All (IsSeated tale) ys
      → AreJudgedAll ks ys → is_called ks c ≡ true → IsJudgedIn ks tale c
  judged_in tale c [] ys theirs seated judged there = absurd (false≢true there)
  judged_in tale c (k ∷ ks) [] theirs seated judged there = absurd theirs
  judged_in tale c (k ∷ ks) (y ∷ ys) theirs seated judged there =
      judged_first tale c k ks y (All-head (IsSeated tale) y ys seated) theirs.0 judged.0
      (judged_in tale c ks ys theirs.1 (All-tail (IsSeated tale) y ys seated) judged.1) (is_client c k.client) refl there

-- All that are called.
module _ (laws : Laws) (frees : Frees) (judges : TurnsJudge) (ruling : Ruling) (service : Service) (default : List ℕ) (g : Ground) (t mid now : Tabled)
    (roomy room over : ClientNo → Bool) (e : Entry) (ks : List Caller) (links : List LinkId) (rests : Rests service g t roomy)
    (is : IsCalling service default g e ks over roomy room) (stands : Stands service (on g (counted g.tale)) mid)
    (rested : NoneDone g.setup g.plan (counted g.tale)) (so : CallsSo service default ks links mid now)
    (ruled : AreRuledAll ruling ks service default mid so.turned so.going) (keyed : HasKeys ruling.keys g.setup)
    (held : (x : tales.Client) → IsSeated g.tale x → g.over x.number ≡ false
    → AreKnownHeld (keys_since ruling.since ruling.keys) (view_on g) g.plan x) where
  abbrev pub states : (number : ℕ) → Administered
  states = state_of service default ruling ks mid so.turned so.going ruled

  abbrev heard : Tale
  heard = counted g.tale

  abbrev xs : List tales.Client
  xs = clients_of (is_called ks) heard

  abbrev takings : List Taking
  takings = takings_at g.setup g.plan g.tale e

  alone_there : (m : MessageName) (route : Route) → g.plan.routes m ≡ Some route → route.mirror ≡ None
  alone_there m route has = is.single (λ c. true) m route refl has

  told_so : links_are_freed g.setup g.plan (told_then g.setup g.plan g.tale e) ≡ heard
  told_so = ap (λ (tale : Tale). links_are_freed g.setup g.plan (counted tale)) is.told_same ∙ none_in g.setup g.plan heard.links heard rested

  pub covers : (x : tales.Client) → IsSeated heard x → is_called ks x.number ≡ true → g.over x.number ≡ false
      → Covers g.setup x.number (takings_of (length (messages g.plan x)) g.setup g.plan x heard) takings
  covers x seated its going =
      entry_covers g.setup g.plan alone_there g.tale e x heard told_so seated
      (seated_of (λ (y : tales.Client). g.over y.number ≡ false → is_called ks y.number ≡ true
      → is_called_by g.plan (suc g.tale.moment) (view_on g) e y ≡ true) heard x seated is.calls going its)

  abbrev IsHeardThere : tales.Client → Type 0
  IsHeardThere = IsHeard laws judges ruling states service default g rests.looked is.classes is.single heard (is_called ks) keyed takings covers held heard

  heard_there : All IsHeardThere xs
  heard_there =
      All-weaker (λ (y : tales.Client). IsSeated heard y × (is_called ks y.number ≡ true)) IsHeardThere
      (λ y both. record { seated = both.0; its = both.1; seen = seen_itself g.setup y.number heard }) xs
      (λ k d within. (
        called.seated_xs laws frees service default g t mid now roomy room over e ks links rests is stands rested so k d within,
        filter_passes (λ (y : tales.Client). is_called ks y.number) heard.clients k d within,
      ))

  judged : AreJudgedAll laws judges ruling states service default g rests.looked is.classes is.single heard (is_called ks) keyed takings covers held ks xs
  judged =
      all_judged laws judges ruling states service default g rests.looked is.classes is.single heard (is_called ks) keyed takings covers held ks xs
      (called.are laws frees service default g t mid now roomy room over e ks links rests is stands rested so) [] heard heard g.over mid so.turned
      (called.kept_apart (is_called ks) 1 heard.clients
      (called.numbered laws frees service default g t mid now roomy room over e ks links rests is stands rested so))
      (called.seated_xs laws frees service default g t mid now roomy room over e ks links rests is stands rested so) heard_there
      (called.first laws frees service default g t mid now roomy room over e ks links rests is stands rested so) so.going (ruled_each service default ruling ks mid so.turned so.going ruled so.in_order)

  pub judged_of : (c : ClientNo) → is_called ks c ≡ true
      → IsJudgedIn laws judges ruling states service default g rests.looked is.classes is.single heard (is_called ks) keyed takings covers held ks heard c
  judged_of c there =
      judged_in laws judges ruling states service default g rests.looked is.classes is.single heard (is_called ks) keyed takings covers held heard c ks xs
      (called.are laws frees service default g t mid now roomy room over e ks links rests is stands rested so)
      (called.seated_xs laws frees service default g t mid now roomy room over e ks links rests is stands rested so) judged there
