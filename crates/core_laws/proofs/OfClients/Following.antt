-- What follows for one client: its turns, its end, and links that are given back.
use Rattle.std.specs.Prelude.{◌≡◌, ◌+◌, ◌<◌, ◌^◌, ℕ, suc, Bool, true, false, not, ◌&&◌, ◌||◌, All, filter, if◌then◌else◌, is_some, List, [], ◌∷◌, Option, Some, None}
use Rattle.std.proofs.Common.{refl, sym, ap, ◌∙◌, subst}
use Rattle.std.proofs.lemmas.Bool.{false≢true, true≢false}
use Rattle.std.proofs.lemmas.List.Elements.{All-cons, All-nil}
use Rattle.mx_wire.specs.declared.entry.Entry.{Entry}
use Rattle.client_session.specs.Setups.{Setup as Service}
use Rattle.private_model.proofs.Maps.{client_of, same_number}
use Rattle.private_model.specs.Lawful.{IsLawful}
use Rattle.private_model.specs.Names.{ClientNo, LinkId}
use Rattle.private_model.specs.Story.{Freed, Left, Story, is_client}
use Rattle.private_model.specs.View.{Setup, view_after}
use Rattle.log_story.specs.Clients.{client_goes_on}
use Rattle.log_story.specs.Owed.{name_of}
use Rattle.log_story.specs.Plan.{Plan, word_at}
use Rattle.log_story.specs.Servers.{freed_if_done, links_are_freed}
use Rattle.log_story.specs.Tale as tales
use Rattle.log_story.specs.Tale.{Tale, is_to_server, tell, view_of}
use Rattle.log_story.specs.Telling.{tale_step}
use Rattle.client_seat.specs.Seats.{ended}
use Rattle.client_seat.specs.declared.seat.Seat.{Seat}
use Rattle.step_laws.proofs.Apart.{freed_apart}
use Rattle.step_laws.proofs.Giving.{kept_in, none_left}
use Rattle.step_laws.proofs.Others.{idle_by}
use Rattle.step_laws.proofs.Stepping.{step_one}
use Rattle.step_laws.proofs.Taking.{called, goes_spares}
use Rattle.step_laws.specs.Freed.{NoneDone, freed_in, is_done_at}
use Rattle.step_laws.specs.Seats.{IsSeated, is_its, seats}
use Rattle.step_laws.specs.Steps.{IsOfOne, ends_now, leave, told_then}
use Rattle.step_laws.specs.Taken.{AreSingle, IsIdle, all_taken}
use Rattle.core_tables.specs.Parting.{left_in}
use Rattle.core_tables.specs.Tables.{IsSame, Tabled}
use Rattle.core_tables.specs.declared.client.Client.{Client}
use Rattle.core_stands.specs.Grounds.{Ground, ending, looked_at, on, view_on}
use Rattle.core_stands.specs.Stands.{Rests, Stands}
use Rattle.core_laws.specs.parting.Frames.{AreHomed}
use Rattle.core_laws.specs.parting.Partings.{HasLives, IsEnding, IsLeaving}
use Rattle.core_laws.proofs.OfEntry.Looping.{taking_begins}
use Rattle.core_laws.specs.entry.Calms.{EndNow}
use Rattle.core_laws.specs.entry.Entries.{AreCalmToo, AreSpared, TellsOf, behind}
use Rattle.core_laws.specs.entry.Freeing.{all_freed}
use Rattle.core_laws.proofs.OfClients.Ending.{ends_so, gone_looked, leaves_so}
use Rattle.core_laws.proofs.OfClients.Facts.{has_lives}
use Rattle.core_laws.proofs.OfClients.Homing as homing
use Rattle.core_laws.specs.clients.Chosen.{IsGone, IsLookedFor, IsStanding, IsTurning, PlanHas, StandsBehind}
use Rattle.core_laws.specs.clients.Following.{IsFollowed, IsFollowing, IsPartedIn, ended_by, to_look}
use Rattle.core_laws.specs.clients.Follows.{FollowsSo, Leaves, LeavesThere, Parting, PartsSo, Stays, Tells, ends_by, parts_by, quits_by}
use Rattle.core_laws.specs.clients.Turns.{Choice, Ends, Halt, Quits, Rests as Resting, Turns, Waits, count_by}

-- The laws by which it goes.
pub record Laws : Type 0 where
  pub turns : (service : Service) (default : List ℕ) (first client : tales.Client) (from : Tale) (g : Ground) (t now : Tabled)
      (choices : List Choice) (halt : Halt) → IsTurning service default first from g t client
      → PlanHas choices halt g.setup.keys g.plan g.tale.moment (name_of client (suc client.taken))
      → Turns choices halt service default client.number t now
      → StandsBehind halt service first from (client.taken + count_by choices halt) g client.number now
  pub leaves : (service : Service) (g : Ground) (t : Tabled) (client : tales.Client) (row : Client) (by : Seat → Seat) → Stands service g t
      → IsSeated g.tale client → t.clients client.number ≡ Some row
      → HasLives (view_on g) client.number
      → IsLeaving (on g (tell (Left client.number) g.tale)) client (by row.desk.seat)
      → IsEnding (on g (tell (Left client.number) g.tale)) client (by row.desk.seat)
      → Stands service (ending client.number (on g (tell (Left client.number) g.tale))) (left_in client.number by t)
  pub homed : (setup : Setup) (story : Story) → IsLawful setup story → AreHomed (view_after setup story).links (view_after setup story).held
  pub same : (service : Service) (g : Ground) (t other : Tabled) → Stands service g t → IsSame other t → Stands service g other
  pub frees : (service : Service) (g : Ground) (t : Tabled) (links : List LinkId) → Stands service g t
      → All (λ (l : LinkId). is_to_server g.tale l ≡ true) links
      → Stands service (on g (freed_in g.setup g.plan links g.tale)) (all_freed links t)
  pub one : (service : Service) (g : Ground) (t now : Tabled) (roomy room : ClientNo → Bool) (e : Entry) (over : ClientNo → Bool)
      (client : tales.Client) (ended : List ClientNo) (freed : Tale) → Rests service g t roomy
      → IsOfOne g.setup g.plan g.tale e client ended freed → All (λ (c : ClientNo). is_its client c ≡ true) ended
      → TellsOf (is_its client) g.tale e → AreSpared (is_its client) g e → Stands service (behind g e over) now
      → EndNow g (behind g e over) → ((c : ClientNo) → is_its client c ≡ false → room c ≡ false → roomy c ≡ false)
      → AreCalmToo (is_its client) (behind g e over) room → Rests service (behind g e over) now room

-- Who is over.

still_over : (a b e : Bool) → e ≡ false → (a || (b && e)) ≡ a
still_over true b e is = refl
still_over false true e is = is
still_over false false e is = refl

one_over : (a b e : Bool) → e ≡ true → (a || (b && e)) ≡ (b || a)
one_over true true e is = refl
one_over true false e is = refl
one_over false true e is = is
one_over false false e is = refl

-- Who leaves, and links that are given back, leave clients and runs.

leave_clients : (cs : List ClientNo) (tale : Tale) → (leave cs tale).clients ≡ tale.clients
leave_clients [] tale = refl
leave_clients (c ∷ cs) tale = leave_clients cs (tell (Left c) tale)

none_left_to : (a b : Bool) → b ≡ false → (not a && b) ≡ false
none_left_to true b none = refl
none_left_to false b none = none

pub ended_its : (client : tales.Client) (b : Bool) → All (λ (c : ClientNo). is_its client c ≡ true) (if b then client.number ∷ [] else [])
ended_its client true =
    All-cons (λ (c : ClientNo). is_its client c ≡ true) client.number [] (same_number client.number.0) (All-nil (λ (c : ClientNo). is_its client c ≡ true))
ended_its client false = All-nil (λ (c : ClientNo). is_its client c ≡ true)

module _ (laws : Laws) (service : Service) (default : List ℕ) (g : Ground) (t mid now : Tabled) (roomy room over fresh : ClientNo → Bool) (e : Entry)
    (client : tales.Client) (freed : Tale) (choices : List Choice) (halt : Halt) (parting : Parting) (links : List LinkId)
    (rests : Rests service g t roomy) (is : IsFollowing service default g e client freed choices halt parting)
    (unlooked : (c : ClientNo) → is_client client.number c ≡ false → fresh c ≡ false) (stands : Stands service (to_look g fresh freed) mid)
    (so : FollowsSo service default client.number choices halt parting links mid now)
    (overs : (c : ClientNo) → over c ≡ (g.over c || ends_now g.plan (suc g.tale.moment) c))
    (rooms : (c : ClientNo) → is_its client c ≡ false → room c ≡ false → roomy c ≡ false) where
  abbrev c : ClientNo
  c = client.number

  abbrev ends : List ClientNo
  ends = ended_by halt parting c

  abbrev taken : ℕ
  taken = client.taken + count_by choices halt

  abbrev heard : Tale
  heard = told_then g.setup g.plan g.tale e

  abbrev at_first : Ground
  at_first = to_look g fresh freed

  theirs : All (λ (x : ClientNo). is_its client x ≡ true) ends
  theirs = ended_its client (ends_by halt parting)

  clients_same : freed.clients ≡ heard.clients
  clients_same =
      ap (λ (x : Tale). x.clients) (sym is.of_one.first) ∙ kept_in g.setup g.plan (λ (x : Tale). x.clients) (λ story x. refl) heard.links heard

  seated : IsSeated freed client
  seated =
      subst (λ (xs : List tales.Client). filter (λ (other : tales.Client). is_client other.number c) xs ≡ client ∷ []) (sym clients_same) is.of_one.seated

  rested : NoneDone g.setup g.plan freed
  rested = subst (NoneDone g.setup g.plan) is.of_one.first (none_left g.setup g.plan heard)

  -- what it takes up

  goes_is : client_goes_on g.setup g.plan (view_on g) e freed client ≡ all_taken g.setup g.plan client freed
  goes_is = called g.setup g.plan (view_on g) e freed client is.called

  turning : IsTurning service default client freed at_first mid client
  turning = record {
    taking = taking_begins service at_first mid client stands seated;
    classes = is.classes;
    let_in = record { account = is.let_in.account; place = is.let_in.place };
    going = is.going;
    unrouted = is.unrouted;
  }

  turned : StandsBehind halt service client freed taken at_first c so.turned
  turned = laws.turns service default client client freed at_first mid so.turned choices halt turning is.chosen so.turns

  moment_is : (tale : Tale) → all_taken g.setup g.plan client freed ≡ tale → tale.moment ≡ freed.moment
  moment_is tale all =
      ap (λ (x : Tale). x.moment) (sym all ∙ sym goes_is)
      ∙ (goes_spares g.setup (is_its client) g.plan is.of_one.single (view_on g) e client freed (same_number c.0)).moment

  -- Behind its end.

  abbrev parted_on : Tale → Ground
  parted_on tale = record g { tale = leave ends tale; over = over }

  pub record IsOut : Type 0 where
    pub last : tales.Client
    pub tale : Tale
    pub seated : IsSeated tale last
    pub number : last.number ≡ c
    pub count : last.taken ≡ taken
    pub all : all_taken g.setup g.plan client freed ≡ tale
    pub whole : Stands service (parted_on tale) so.parted
    pub calm : over c ≡ false → IsIdle g.setup g.plan (leave ends tale) last

  over_still : ends_by halt parting ≡ false → over ≡ g.over
  over_still none = λ i x.
      (overs x ∙ ap (λ (b : Bool). g.over x || b) (is.ends x) ∙ still_over (g.over x) (is_client c x) (ends_by halt parting) none) i

  over_then : ends_by halt parting ≡ true → over ≡ (λ (x : ClientNo). is_client c x || g.over x)
  over_then one = λ i x.
      (overs x ∙ ap (λ (b : Bool). g.over x || b) (is.ends x) ∙ one_over (g.over x) (is_client c x) (ends_by halt parting) one) i

  its_over : ends_by halt parting ≡ true → over c ≡ true
  its_over one = ap (λ (by : ClientNo → Bool). by c) (over_then one) ∙ ap (λ (b : Bool). b || g.over c) (same_number c.0)

  none_ends : (b : Bool) → b ≡ false → (if b then c ∷ [] else []) ≡ []
  none_ends b none = ap (λ (x : Bool). if x then c ∷ [] else []) none

  one_ends : (b : Bool) → b ≡ true → (if b then c ∷ [] else []) ≡ c ∷ []
  one_ends b one = ap (λ (x : Bool). if x then c ∷ [] else []) one

  -- whose bytes were looked at
  fresh_same : (now_fresh : ClientNo → Bool) → now_fresh c ≡ false → ((x : ClientNo) → fresh x ≡ false → now_fresh x ≡ false) → now_fresh ≡ g.fresh
  fresh_same now_fresh looked others = λ i x. (by x (is_client c x) refl ∙ sym (rests.looked x)) i where
    by : (x : ClientNo) (b : Bool) → is_client c x ≡ b → now_fresh x ≡ false
    by x true its = ap now_fresh (sym (client_of c x its)) ∙ looked
    by x false aside = others x (unlooked x aside)

  module _ (there : IsLookedFor service client freed taken at_first c so.turned) where
    abbrev s : IsStanding service client freed taken at_first so.turned
    s = there.standing

    stood : Stands service (on g s.tale) so.turned
    stood =
        subst (λ (f : ClientNo → Bool). Stands service (to_look g f s.tale) so.turned)
        (fresh_same s.fresh there.looked s.unlooked) s.taking.stands

    -- it goes on
    goes_on : ends_by halt parting ≡ false → IsSame so.parted so.turned → IsOut
    goes_on none same = record {
      last = s.client;
      tale = s.tale;
      seated = s.taking.seated;
      number = s.taking.number;
      count = s.count;
      all = s.all;
      whole =
          subst (λ (by : ClientNo → Bool). Stands service (record g { tale = leave ends s.tale; over = by }) so.parted) (sym (over_still none))
          (subst (λ (cs : List ClientNo). Stands service (on g (leave cs s.tale)) so.parted) (sym (none_ends (ends_by halt parting) none))
          (laws.same service (on g s.tale) so.turned so.parted stood same));
      calm = λ going.
          subst (λ (cs : List ClientNo). IsIdle g.setup g.plan (leave cs s.tale) s.client) (sym (none_ends (ends_by halt parting) none)) s.idle;
    }

    -- it is ended
    ended_then : ends_by halt parting ≡ true → Stands service (ending c (on g (tell (Left c) s.tale))) so.parted → IsOut
    ended_then one last_stands = record {
      last = s.client;
      tale = s.tale;
      seated = s.taking.seated;
      number = s.taking.number;
      count = s.count;
      all = s.all;
      whole =
          subst (λ (by : ClientNo → Bool). Stands service (record g { tale = leave ends s.tale; over = by }) so.parted) (sym (over_then one))
          (subst (λ (cs : List ClientNo). Stands service (record g { tale = leave cs s.tale; over = λ (x : ClientNo). is_client c x || g.over x }) so.parted)
          (sym (one_ends (ends_by halt parting) one)) last_stands);
      calm = λ going. absurd (false≢true (sym going ∙ its_over one));
    }

    leaves_there : LeavesThere c so.turned so.parted → word_at g.plan freed.moment c ≡ None
        → Stands service (ending c (on g (tell (Left c) s.tale))) so.parted
    leaves_there parts wordless =
        let at : so.turned.clients s.client.number ≡ Some parts.row =
        subst (λ (n : ClientNo). so.turned.clients n ≡ Some parts.row) (sym s.taking.number) parts.there in
        let going : g.over s.client.number ≡ false = ap g.over s.taking.number ∙ is.going in
        let looked : g.fresh s.client.number ≡ false = rests.looked s.client.number in
        let silent : word_at g.plan s.tale.moment s.client.number ≡ None =
        (λ i. word_at g.plan (moment_is s.tale s.all i) (s.taking.number i)) ∙ wordless in
        laws.same service (ending c (on g (tell (Left c) s.tale))) (left_in c ended so.turned) so.parted
        (subst (λ (n : ClientNo). Stands service (ending n (on g (tell (Left n) s.tale))) (left_in n ended so.turned)) s.taking.number
        (laws.leaves service (on g s.tale) so.turned s.client parts.row ended stood s.taking.seated at
        (has_lives service (on g s.tale) so.turned s.client parts.row stood s.taking.seated at parts.lives)
        (leaves_so service (on g s.tale) so.turned s.client parts.row stood s.taking.seated at going looked silent)
        (ends_so service (on g s.tale) so.turned s.client parts.row stood s.taking.seated at going looked silent))) parts.same

    standing_out : (by : Parting) → ends_by halt parting ≡ parts_by by → PartsSo by c so.turned so.parted
        → IsPartedIn by service g c freed.moment → IsOut
    standing_out Stays how parts word = goes_on how parts
    standing_out Leaves how parts word = ended_then how (leaves_there parts word)
    standing_out (Tells payload) how parts word =
        ended_then how (word s.client s.tale so.turned so.parted s.taking.number (moment_is s.tale s.all) s.taking.seated stood parts)

  -- it ended in its turns
  gone_out : ends_by halt parting ≡ true → parting ≡ Stays → IsGone service client freed taken at_first c so.turned → IsOut
  gone_out one stays s =
      let gone : Ground = ending c (to_look g s.fresh (tell (Left c) s.tale)) in
      let looked : Stands service (looked_at c gone) so.turned =
      gone_looked service gone so.turned c s.stands (ap (λ (b : Bool). b || g.over c) (same_number c.0)) in
      let same : IsSame so.parted so.turned = subst (λ (by : Parting). PartsSo by c so.turned so.parted) stays so.parts in
      let fresh_is : (looked_at c gone).fresh ≡ g.fresh =
      fresh_same (looked_at c gone).fresh (ap (λ (b : Bool). not b && s.fresh c) (same_number c.0))
      (λ x none. none_left_to (is_client c x) (s.fresh x) (s.unlooked x none)) in
      let last_stands : Stands service (ending c (on g (tell (Left c) s.tale))) so.parted =
      laws.same service (ending c (on g (tell (Left c) s.tale))) so.turned so.parted
      (subst (λ (f : ClientNo → Bool). Stands service (ending c (to_look g f (tell (Left c) s.tale))) so.turned) fresh_is looked) same in
      record {
        last = s.client;
        tale = s.tale;
        seated = s.seated;
        number = s.number;
        count = s.count;
        all = s.all;
        whole =
            subst (λ (by : ClientNo → Bool). Stands service (record g { tale = leave ends s.tale; over = by }) so.parted) (sym (over_then one))
            (subst (λ (cs : List ClientNo). Stands service (record g { tale = leave cs s.tale; over = λ (x : ClientNo). is_client c x || g.over x }) so.parted)
            (sym (one_ends (ends_by halt parting) one)) last_stands);
        calm = λ going. absurd (false≢true (sym going ∙ its_over one));
      }

  out_by : (at : Halt) → halt ≡ at → StandsBehind at service client freed taken at_first c so.turned → IsOut
  out_by Waits same there = standing_out there parting (ap (λ (h : Halt). ends_by h parting) same) so.parts is.parted
  out_by Resting same there = standing_out there parting (ap (λ (h : Halt). ends_by h parting) same) so.parts is.parted
  out_by Quits same there = gone_out (ap (λ (h : Halt). ends_by h parting) same) (so.once (ap quits_by same)) there
  out_by Ends same there = gone_out (ap (λ (h : Halt). ends_by h parting) same) (so.once (ap quits_by same)) there

  out : IsOut
  out = out_by halt refl turned

  -- Links are given back.

  homed : AreHomed (view_of g.setup freed).links (view_of g.setup freed).held
  homed = laws.homed g.setup freed.story stands.lawful

  abbrev last : Tale
  last = leave ends (client_goes_on g.setup g.plan (view_on g) e freed client)

  last_is : leave ends out.tale ≡ last
  last_is = ap (leave ends) (sym (goes_is ∙ out.all))

  step_is : tale_step g.setup g.plan g.tale e ≡ freed_in g.setup g.plan links last
  step_is =
      step_one g.setup g.plan g.tale e client ends freed (freed_in g.setup g.plan links last) is.of_one
      (homing.as_named service g freed fresh mid stands client links so.homes seated homed rested is.of_one.single e ends theirs is.rising)

  stands_behind : Stands service (behind g e over) now
  stands_behind =
      subst (λ (x : Tale). Stands service (record g { tale = x; over = over }) now) (sym step_is)
      (laws.same service (record g { tale = freed_in g.setup g.plan links last; over = over }) (all_freed links so.parted) now
      (laws.frees service (record g { tale = last; over = over }) so.parted links
      (subst (λ (x : Tale). Stands service (record g { tale = x; over = over }) so.parted) last_is out.whole)
      (homing.all_to_servers service g freed fresh mid stands client links so.homes seated homed rested is.of_one.single e ends theirs)) so.freed)

  -- it stands there as itself

  clients_last : (tale_step g.setup g.plan g.tale e).clients ≡ out.tale.clients
  clients_last =
      ap (λ (x : Tale). x.clients) step_is ∙ kept_in g.setup g.plan (λ (x : Tale). x.clients) (λ story x. refl) links last
      ∙ ap (λ (x : Tale). x.clients) (sym last_is) ∙ leave_clients ends out.tale

  its_last : (x : tales.Client) → IsSeated (tale_step g.setup g.plan g.tale e) x → is_its client x.number ≡ true → x ≡ out.last
  its_last x seated_there its =
      let number : x.number ≡ out.last.number = client_of x.number c its ∙ sym out.number in
      let both : x ∷ [] ≡ out.last ∷ [] =
      sym seated_there
      ∙ (λ i. filter (λ (other : tales.Client). is_client other.number (number i)) (clients_last i))
      ∙ out.seated in
      cc

  calm_behind : AreCalmToo (is_its client) (behind g e over) room
  calm_behind x seated_there its going full =
      let same : x ≡ out.last = its_last x seated_there its in
      let still : over c ≡ false = ap over (sym (client_of x.number c its)) ∙ going in
      let idle : IsIdle g.setup g.plan last out.last =
      subst (λ (tale : Tale). IsIdle g.setup g.plan tale out.last) last_is (out.calm still) in
      subst (λ (tale : Tale). IsIdle g.setup g.plan tale x) (sym step_is)
      (subst (λ (y : tales.Client). IsIdle g.setup g.plan (freed_in g.setup g.plan links last) y) (sym same)
      (idle_by g.setup g.plan out.last last (freed_in g.setup g.plan links last)
      (freed_apart g.setup g.plan out.last links last).up idle))

  pub followed : IsFollowed service g e client freed taken over room now
  followed = record {
    rests = laws.one service g t now roomy room e over client ends freed rests is.of_one theirs is.tells is.spared stands_behind overs rooms calm_behind;
    counts = λ x seated_there its. ap (λ (y : tales.Client). y.taken) (its_last x seated_there its) ∙ out.count;
  }
