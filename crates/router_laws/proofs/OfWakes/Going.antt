-- One client that is called goes on, and ends or doesn't.
use Rattle.std.specs.Prelude.{◌≡◌, ◌+◌, ◌||◌, ◌&&◌, not, ℕ, suc, Bool, true, false, length, List, Some, None}
use Rattle.std.proofs.Common.{refl, sym, ap, ◌∙◌, subst}
use Rattle.std.proofs.lemmas.Bool.{true≢false}
use Rattle.client_session.specs.Setups.{Setup as Service}
use Rattle.private_model.proofs.Maps.{same_number}
use Rattle.private_model.specs.Names.{ClientNo}
use Rattle.private_model.specs.Story.{Left, is_client}
use Rattle.log_story.specs.Owed.{messages, name_of}
use Rattle.log_story.specs.Plan.{word_at}
use Rattle.log_story.specs.Tale as tales
use Rattle.log_story.specs.Tale.{Tale, tell}
use Rattle.row_laws.specs.Readied.{AreClasses}
use Rattle.client_seat.specs.Seats.{ended}
use Rattle.client_seat.specs.declared.seat.Seat.{Seat}
use Rattle.step_laws.proofs.Taking.{taken_up_spares}
use Rattle.step_laws.specs.Seats.{IsSeated, is_its}
use Rattle.step_laws.specs.Taken.{AreSingle, IsIdle, all_taken}
use Rattle.core_tables.specs.Parting.{left_in}
use Rattle.core_tables.specs.Tables.{IsSame, Tabled}
use Rattle.core_tables.specs.declared.client.Client.{Client}
use Rattle.core_stands.specs.Grounds.{Ground, ending, looked_at, on, view_on}
use Rattle.core_stands.specs.Stands.{Stands}
use Rattle.core_laws.specs.parting.Partings.{HasLives, IsEnding, IsLeaving}
use Rattle.core_laws.specs.arrival.Looks.{IsLetIn}
use Rattle.core_laws.proofs.OfEntry.Looping.{taking_begins}
use Rattle.core_laws.proofs.OfClients.Ending.{ends_so, gone_looked, leaves_so}
use Rattle.core_laws.proofs.OfClients.Facts.{has_lives}
use Rattle.core_laws.specs.clients.Chosen.{IsGone, IsLookedFor, IsStanding, IsTurning, PlanHas, StandsBehind, turned_to}
use Rattle.core_laws.specs.clients.Following.{IsPartedIn}
use Rattle.core_laws.specs.clients.Follows.{Leaves, LeavesThere, Parting, PartsSo, Stays, Tells, ends_by, parts_by, quits_by}
use Rattle.core_laws.specs.clients.Turns.{Choice, Ends, Halt, Quits, Rests as Resting, Turns, Waits, count_by}
use Rattle.router_laws.specs.wakes.Calling.{Caller}

-- The laws by which it goes.
pub record Laws : Type 0 where
  pub turns : (service : Service) (default : List ℕ) (first client : tales.Client) (from : Tale) (g : Ground) (t now : Tabled)
      (choices : List Choice) (halt : Halt) → IsTurning service default first from g t client
      → PlanHas choices halt g.setup.keys g.plan g.tale.moment (name_of client (suc client.taken))
      → Turns choices halt service default client.number t now
      → StandsBehind halt service first from (client.taken + count_by choices halt) g client.number now
  pub leaves : (service : Service) (g : Ground) (t : Tabled) (client : tales.Client) (row : Client) (by : Seat → Seat) → Stands service g t
      → IsSeated g.tale client → t.clients client.number ≡ Some row
      → HasLives (view_on g) client.number
      → IsLeaving (on g (tell (Left client.number) g.tale)) client (by row.desk.seat)
      → IsEnding (on g (tell (Left client.number) g.tale)) client (by row.desk.seat)
      → Stands service (ending client.number (on g (tell (Left client.number) g.tale))) (left_in client.number by t)
  pub same : (service : Service) (g : Ground) (t other : Tabled) → Stands service g t → IsSame other t → Stands service g other

-- it left, or not

abbrev pub early_with : Bool → ClientNo → Tale → Tale
early_with true c tale = tell (Left c) tale
early_with false c tale = tale

abbrev pub over_with : Bool → ClientNo → (ClientNo → Bool) → ClientNo → Bool
over_with true c over = λ (other : ClientNo). is_client c other || over other
over_with false c over = over

abbrev pub left_ground : Bool → Ground → ClientNo → Tale → Ground
left_ground b h c tale = record h { tale = early_with b c tale; over = over_with b c h.over }

-- It is called, by a plan that has what was decided of it.
pub record MayGoOn (service : Service) (default : List ℕ) (h : Ground) (early : Tale) (client : tales.Client) (caller : Caller) : Type 0 where
  pub seated : IsSeated early client
  pub single : AreSingle h.plan (is_its client)
  pub classes : AreClasses h.setup.reads
  pub let_in : IsLetIn h default client
  pub going : h.over client.number ≡ false
  pub unrouted : h.plan.routes (name_of client 0) ≡ None
  pub chosen : PlanHas caller.choices caller.halt h.setup.keys h.plan early.moment (name_of client (suc client.taken))
  pub once : quits_by caller.halt ≡ true → caller.parting ≡ Stays
  pub parted : quits_by caller.halt ≡ false → IsPartedIn caller.parting service h client.number early.moment

-- What stands behind it.
pub record IsOut (service : Service) (h : Ground) (early : Tale) (client : tales.Client) (caller : Caller) (now : Tabled) : Type 0 where
  pub last : tales.Client
  pub seated : IsSeated (all_taken h.setup h.plan client early) last
  pub number : last.number ≡ client.number
  pub count : last.taken ≡ client.taken + count_by caller.choices caller.halt
  pub stands : Stands service (left_ground (ends_by caller.halt caller.parting) h client.number (all_taken h.setup h.plan client early)) now
  pub idle : ends_by caller.halt caller.parting ≡ false → IsIdle h.setup h.plan (all_taken h.setup h.plan client early) last

none_left_to : (a b : Bool) → b ≡ false → (not a && b) ≡ false
none_left_to true b none = refl
none_left_to false b none = none

module _ (laws : Laws) (service : Service) (default : List ℕ) (h : Ground) (looked : (x : ClientNo) → h.fresh x ≡ false) (early : Tale) (t turned now : Tabled)
    (client : tales.Client) (caller : Caller) (is : MayGoOn service default h early client caller) (stands : Stands service (on h early) t)
    (turns : Turns caller.choices caller.halt service default client.number t turned) (parts : PartsSo caller.parting client.number turned now) where
  abbrev c : ClientNo
  c = client.number

  abbrev at_first : Ground
  at_first = on h early

  abbrev gone : Tale
  gone = all_taken h.setup h.plan client early

  abbrev taken : ℕ
  taken = client.taken + count_by caller.choices caller.halt

  abbrev ends : Bool
  ends = ends_by caller.halt caller.parting

  pub turning : IsTurning service default client early at_first t client
  turning = record {
    taking = taking_begins service at_first t client stands is.seated;
    classes = is.classes;
    let_in = record { account = is.let_in.account; place = is.let_in.place };
    going = is.going;
    unrouted = is.unrouted;
  }

  behind_turns : StandsBehind caller.halt service client early taken at_first c turned
  behind_turns = laws.turns service default client client early at_first t turned caller.choices caller.halt turning is.chosen turns

  moment_is : (tale : Tale) → gone ≡ tale → tale.moment ≡ early.moment
  moment_is tale all =
      ap (λ (x : Tale). x.moment) (sym all)
      ∙ (taken_up_spares h.setup (is_its client) h.plan is.single (length (messages h.plan client)) client early (same_number c.0)).moment

  -- nobody's bytes are left to look at
  fresh_same : (now_fresh : ClientNo → Bool) → now_fresh c ≡ false → ((x : ClientNo) → h.fresh x ≡ false → now_fresh x ≡ false) → now_fresh ≡ h.fresh
  fresh_same now_fresh its others = λ i x. (others x (looked x) ∙ sym (looked x)) i

  module _ (there : IsLookedFor service client early taken at_first c turned) where
    abbrev s : IsStanding service client early taken at_first turned
    s = there.standing

    stood : Stands service (on h s.tale) turned
    stood =
        subst (λ (f : ClientNo → Bool). Stands service (turned_to at_first s.tale f) turned)
        (fresh_same s.fresh there.looked s.unlooked) s.taking.stands

    out_with : (b : Bool) → ends ≡ b → Stands service (left_ground b h c s.tale) now → (b ≡ false → IsIdle h.setup h.plan s.tale s.client)
        → IsOut service h early client caller now
    out_with b how last_stands idle = record {
      last = s.client;
      seated = subst (λ (x : Tale). IsSeated x s.client) (sym s.all) s.taking.seated;
      number = s.taking.number;
      count = s.count;
      stands = subst (λ (x : Bool). Stands service (left_ground x h c gone) now) (sym how)
          (subst (λ (x : Tale). Stands service (left_ground b h c x) now) (sym s.all) last_stands);
      idle = λ going. subst (λ (x : Tale). IsIdle h.setup h.plan x s.client) (sym s.all) (idle (sym how ∙ going));
    }

    leaves_there : LeavesThere c turned now → word_at h.plan early.moment c ≡ None → Stands service (ending c (on h (tell (Left c) s.tale))) now
    leaves_there leaving wordless =
        let at : turned.clients s.client.number ≡ Some leaving.row =
        subst (λ (n : ClientNo). turned.clients n ≡ Some leaving.row) (sym s.taking.number) leaving.there in
        let going : h.over s.client.number ≡ false = ap h.over s.taking.number ∙ is.going in
        let unseen : h.fresh s.client.number ≡ false = looked s.client.number in
        let silent : word_at h.plan s.tale.moment s.client.number ≡ None =
        (λ i. word_at h.plan (moment_is s.tale s.all i) (s.taking.number i)) ∙ wordless in
        laws.same service (ending c (on h (tell (Left c) s.tale))) (left_in c ended turned) now
        (subst (λ (n : ClientNo). Stands service (ending n (on h (tell (Left n) s.tale))) (left_in n ended turned)) s.taking.number
        (laws.leaves service (on h s.tale) turned s.client leaving.row ended stood s.taking.seated at
        (has_lives service (on h s.tale) turned s.client leaving.row stood s.taking.seated at leaving.lives)
        (leaves_so service (on h s.tale) turned s.client leaving.row stood s.taking.seated at going unseen silent)
        (ends_so service (on h s.tale) turned s.client leaving.row stood s.taking.seated at going unseen silent))) leaving.same

    standing_out : (by : Parting) → ends ≡ parts_by by → PartsSo by c turned now → IsPartedIn by service h c early.moment
        → IsOut service h early client caller now
    standing_out Stays how same word =
        out_with false how (laws.same service (on h s.tale) turned now stood same) (λ going. s.idle)
    standing_out Leaves how leaving word = out_with true how (leaves_there leaving word) (λ going. absurd (true≢false going))
    standing_out (Tells payload) how leaving word =
        out_with true how (word s.client s.tale turned now s.taking.number (moment_is s.tale s.all) s.taking.seated stood leaving)
        (λ going. absurd (true≢false going))

  -- it ended in its turns
  gone_out : ends ≡ true → caller.parting ≡ Stays → IsGone service client early taken at_first c turned → IsOut service h early client caller now
  gone_out one stays s =
      let left : Ground = ending c (turned_to at_first (tell (Left c) s.tale) s.fresh) in
      let seen : Stands service (looked_at c left) turned =
      gone_looked service left turned c s.stands (ap (λ (b : Bool). b || h.over c) (same_number c.0)) in
      let same : IsSame now turned = subst (λ (by : Parting). PartsSo by c turned now) stays parts in
      let fresh_is : (looked_at c left).fresh ≡ h.fresh =
      fresh_same (looked_at c left).fresh (ap (λ (b : Bool). not b && s.fresh c) (same_number c.0))
      (λ x none. none_left_to (is_client c x) (s.fresh x) (s.unlooked x none)) in
      let last_stands : Stands service (ending c (on h (tell (Left c) s.tale))) now =
      laws.same service (ending c (on h (tell (Left c) s.tale))) turned now
      (subst (λ (f : ClientNo → Bool). Stands service (ending c (turned_to at_first (tell (Left c) s.tale) f)) turned) fresh_is seen) same in
      record {
        last = s.client;
        seated = subst (λ (x : Tale). IsSeated x s.client) (sym s.all) s.seated;
        number = s.number;
        count = s.count;
        stands = subst (λ (b : Bool). Stands service (left_ground b h c gone) now) (sym one)
            (subst (λ (x : Tale). Stands service (left_ground true h c x) now) (sym s.all) last_stands);
        idle = λ going. absurd (true≢false (sym one ∙ going));
      }

  out_by : (at : Halt) → caller.halt ≡ at → StandsBehind at service client early taken at_first c turned → IsOut service h early client caller now
  out_by Waits same there = standing_out there caller.parting (ap (λ (x : Halt). ends_by x caller.parting) same) parts (is.parted (ap quits_by same))
  out_by Resting same there = standing_out there caller.parting (ap (λ (x : Halt). ends_by x caller.parting) same) parts (is.parted (ap quits_by same))
  out_by Quits same there = gone_out (ap (λ (x : Halt). ends_by x caller.parting) same) (is.once (ap quits_by same)) there
  out_by Ends same there = gone_out (ap (λ (x : Halt). ends_by x caller.parting) same) (is.once (ap quits_by same)) there

  pub out : IsOut service h early client caller now
  out = out_by caller.halt refl behind_turns
