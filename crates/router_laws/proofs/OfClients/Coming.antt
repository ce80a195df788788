-- A client comes: it is served, or turned away.
use Rattle.std.specs.Prelude.{◌≡◌, ◌≤◌, ◌<◌, ◌+◌, ◌&&◌, ◌||◌, ◌⊎◌, ◌^◌, ℕ, zero, suc, nat_eq, Bool, true, false, All, filter, fold, if◌then◌else◌, is_some, length, List, [], ◌∷◌, ◌++◌, Option, Some, None}
use Rattle.std.proofs.Common.{refl, sym, ap, ◌∙◌, subst, append-nil, arith, inl, inr, lit<}
use Rattle.std.proofs.lemmas.Bool.{eqb-true, false≢true, true≢false}
use Rattle.std.proofs.lemmas.List.Elements.{All-append, All-cons, All-head, All-nil, All-tail, All-weaker}
use Rattle.mx_base.specs.declared.names.LinkId.{LinkId}
use Rattle.mx_base.specs.declared.names.Port.{Port}
use Rattle.mx_wire.specs.Log.{Log, accepted_links, is_link, link_of, of_link, wrote_bytes, written_of}
use Rattle.mx_wire.specs.declared.entry.Entry.{Entry}
use Rattle.mx_wire.specs.declared.entry.Entry.TheVariants.{Accepted}
use Rattle.mx_wire.specs.declared.entry.Entry.TheVariants as entry
use Rattle.std.specs.List.{flat_map}
use Rattle.client_session.specs.Setups.{Setup as Service}
use Rattle.private_model.proofs.Maps.{client_of, same_number}
use Rattle.private_model.specs.Names.{ClientNo}
use Rattle.private_model.specs.Story.{Left, is_client, is_link_id}
use Rattle.private_model.specs.View.{Setup}
use Rattle.link_laws.specs.Stands.{Codes}
use Rattle.log_story.specs.Headline.{tale_of}
use Rattle.log_story.specs.Owed.{name_of}
use Rattle.log_story.specs.Plan.{Plan, gives_up}
use Rattle.log_story.specs.Servers.{links_are_freed}
use Rattle.log_story.specs.Tale as tales
use Rattle.log_story.specs.Tale.{Tale, counted, first_tale, is_to_server, new_client, tell, view_of}
use Rattle.log_story.specs.Telling.{tale_step, told}
use Rattle.client_seat.specs.Seats.{ended, new_seat, turned_away}
use Rattle.client_desk.specs.Desks.{session_of}
use Rattle.desk_laws.specs.Stands.{AreSessions, AreToCome}
use Rattle.stmt_map.specs.declared.client.ClientStatements.{ClientStatements}
use Rattle.step_laws.proofs.Giving.{none_in}
use Rattle.step_laws.proofs.Seating.{counted_seats, step_counted, told_counted}
use Rattle.step_laws.proofs.Stepping.{step_none}
use Rattle.step_laws.specs.Freed.{NoneDone}
use Rattle.step_laws.specs.Seats.{AreCounted, IsSeated, numbers, seats}
use Rattle.step_laws.specs.Steps.{IsOfNone, ended_now, ends_now, leave, told_then}
use Rattle.step_laws.specs.Taken.{IsIdle, IsPassed, is_called}
use Rattle.tale_world.proofs.Links.{new_link}
use Rattle.tale_world.specs.Decided.{Decided}
use Rattle.core_tables.specs.Arrivals.{came, newcomer}
use Rattle.core_tables.specs.Parting.{left_in}
use Rattle.core_tables.specs.Tables.{IsSame, Tabled, client_put}
use Rattle.core_tables.specs.declared.client.Client.{Client}
use Rattle.core_tables.specs.declared.client.ClientNote.{ClientNote}
use Rattle.core_stands.specs.Grounds.{Ground, ending, on, view_on}
use Rattle.core_stands.specs.Stands.{Rests, Stands}
use Rattle.core_laws.specs.parting.Frames.{AreHomed}
use Rattle.core_laws.proofs.OfArrival.Changing.{number-same, put-same}
use Rattle.core_laws.proofs.OfArrival.Finding.{client-same, client-true}
use Rattle.core_laws.specs.arrival.Comes.{IsComing, IsNewLink, IsUnseen, accepted, newest}
use Rattle.core_laws.proofs.OfEntry.Calming.{none_idle}
use Rattle.core_laws.proofs.OfEntry.Composing.{told_alone}
use Rattle.core_laws.proofs.OfEntry.Lists.{seated_of, written_more}
use Rattle.core_laws.proofs.OfEntry.Resting.{entry_rests, none_seats}
use Rattle.core_laws.proofs.OfEntry.Uneventful.{Makes, none_counted, not_called, of_nobody}
use Rattle.core_laws.specs.entry.Dues.{IsCome, written_by}
use Rattle.core_laws.specs.entry.Entries.{IsOfNobody, behind}
use Rattle.core_laws.specs.entry.Kinds.{IsStill, IsUneventful}
use Rattle.core_laws.specs.entry.Tells.{ground}
use Rattle.router_laws.proofs.OfClients.Closing.{left_undone}
use Rattle.router_laws.proofs.OfClients.Continuing.{all_were}
use Rattle.router_laws.proofs.OfClients.Linking.{unwritten}
use Rattle.router_laws.proofs.OfClients.Losing.{Alike, Ends, ended_again}
use Rattle.router_laws.proofs.OfClients.Saying.{ended_is}
use Rattle.router_laws.proofs.OfClients.Walking.{numbers_within}
use Rattle.router_laws.specs.clients.Behind.{IsDueBehind}
use Rattle.router_laws.specs.clients.Comes.{IsReceived, IsTurnedAway}
use Rattle.router_laws.specs.clients.Continues.{HasCome, IsLike, WasThere}
use Rattle.router_laws.specs.clients.Plans.{IsDecided, ends_of, nobody}
use Rattle.router_laws.specs.clients.Speaks.{IsLinkOf}

-- A link that is new is no client's.

abbrev Apart : LinkId → tales.Client → Type 0
Apart link x = is_link_id x.link link ≡ false

named_none : (link : LinkId) (e : Entry) (log : Log) → of_link link (e ∷ log) ≡ [] → (is_link link (link_of e) ≡ false) × (of_link link log ≡ [])
named_none link e log none = by (is_link link (link_of e)) refl none where
  by : (b : Bool) → is_link link (link_of e) ≡ b → (if b then e ∷ of_link link log else of_link link log) ≡ []
      → (is_link link (link_of e) ≡ false) × (of_link link log ≡ [])
  by true here is = absurd (cc)
  by false other is = (other, is)

other_way : (a b : ℕ) → nat_eq a b ≡ false → nat_eq b a ≡ false
other_way a b apart = by (nat_eq b a) refl where
  by : (c : Bool) → nat_eq b a ≡ c → nat_eq b a ≡ false
  by false is = is
  by true is = absurd (true≢false (sym (ap (λ (n : ℕ). nat_eq n b) (sym (eqb-true b a is)) ∙ same_number b) ∙ apart))

came_apart : (tale : Tale) (e : Entry) (link : LinkId) (z : tales.Client) → is_link link (link_of e) ≡ false → HasCome tale e z → Apart link z
came_apart tale (entry.Accepted port l salt) link z other come = ap (λ (k : LinkId). is_link_id k link) come.link ∙ other_way link.0 l.0 other
came_apart tale e link z other come = absurd come

step_apart : (setup : Setup) (plan : Plan) (tale : Tale) (e : Entry) (link : LinkId) → AreCounted 1 (numbers tale) → is_link link (link_of e) ≡ false
    → All (Apart link) tale.clients → All (Apart link) (tale_step setup plan tale e).clients
step_apart setup plan tale e link are other apart =
    All-weaker (λ (z : tales.Client). WasThere plan tale e z ⊎ HasCome tale e z) (Apart link) each (tale_step setup plan tale e).clients
    (all_were setup plan tale e are) where
      each : (z : tales.Client) → WasThere plan tale e z ⊎ HasCome tale e z → Apart link z
      each z (inl is) = ap (λ (k : LinkId). is_link_id k link) is.continued.link ∙ seated_of (Apart link) tale is.was is.seated apart
      each z (inr come) = came_apart tale e link z other come

pub new_apart : (setup : Setup) (plan : Plan) (link : LinkId) (log : Log) (tale : Tale) → AreCounted 1 (numbers tale) → of_link link log ≡ []
    → All (Apart link) tale.clients → All (Apart link) (fold (tale_step setup plan) tale log).clients
new_apart setup plan link [] tale are none apart = apart
new_apart setup plan link (e ∷ log) tale are none apart =
    let both = named_none link e log none in
    new_apart setup plan link log (tale_step setup plan tale e) (step_counted setup plan tale e are) both.1
    (step_apart setup plan tale e link are both.0 apart)

all_last : (P : tales.Client → Type 0) (xs : List tales.Client) (x : tales.Client) → All P (xs ++ x ∷ []) → P x
all_last P [] x all = All-head P x [] all
all_last P (y ∷ xs) x all = all_last P xs x (All-tail P y (xs ++ x ∷ []) all)

-- As it comes, whatever becomes of it.

module _ (service : Service) (g : Ground) (t : Tabled) (roomy : ClientNo → Bool) (port : Port) (link : LinkId) (salt : List ℕ) (c : ClientNo)
    (rests : Rests service g t roomy) (count : c ≡ (newest g port link salt).number) (still : All (IsStill g) g.tale.clients)
    (kept : gives_up g.plan (suc g.tale.moment) (record { client = c; ordinal = 0 }) ≡ false) (going : g.over c ≡ false) where
  abbrev e : Entry
  e = Accepted port link salt

  abbrev it : tales.Client
  it = newest g port link salt

  abbrev made : Tale
  made = record g.tale { clients = g.tale.clients ++ it ∷ [] }

  still_now : (x : tales.Client) → IsStill g x → IsStill (on g made) x
  still_now x is = record { keeps = is.keeps; word = is.word }

  new_still : IsStill (on g made) it
  new_still = record {
    keeps = λ ordinal within.
        let first : ordinal ≡ 0 = omega (arith, within) in
        (λ i. gives_up g.plan (suc g.tale.moment) (record { client = sym count i; ordinal = first i })) ∙ kept;
    word = λ over. absurd (true≢false (sym over ∙ ap g.over (sym count) ∙ going));
  }

  makes : Makes g e made
  makes = record {
    told_as = refl;
    moment = refl;
    rested = rests.rested;
    still = All-append (IsStill (on g made)) g.tale.clients (it ∷ []) (All-weaker (IsStill g) (IsStill (on g made)) still_now g.tale.clients still)
        (All-cons (IsStill (on g made)) it [] new_still (All-nil (IsStill (on g made))));
    uncalled = λ x. refl;
  }

  pub it_seated : IsSeated (told_then g.setup g.plan g.tale e) it
  it_seated =
      all_last (IsSeated (told_then g.setup g.plan g.tale e)) g.tale.clients it
      (counted_seats (told_then g.setup g.plan g.tale e) (told_counted g.setup g.plan g.tale e rests.stands.clients.counted))

  pub step_alone : ((x : ClientNo) → ends_now g.plan (suc g.tale.moment) x ≡ false) → NoneDone g.setup g.plan (counted g.tale)
      → tale_step g.setup g.plan g.tale e ≡ counted made
  step_alone endless undone = told_alone service g t t roomy roomy e rests (of_nobody g e made makes endless (λ l there. undone l there))

  -- who of its number stands behind the entry is it
  pub its_own : (tale : Tale) → tale.clients ≡ made.clients → (x : tales.Client) → IsSeated tale x → x.number ≡ it.number → x ≡ it
  its_own tale same x seated mine =
      let both : x ∷ [] ≡ it ∷ [] =
      sym seated ∙ ap (λ (xs : List tales.Client). filter (λ (y : tales.Client). is_client y.number x.number) xs) same
      ∙ ap (seats made) mine ∙ it_seated in
      cc

  -- nobody of those who were there has its number
  pub not_there : (x : tales.Client) → IsSeated g.tale x → is_client c x.number ≡ false
  not_there x seated =
      let within : x.number.0 ≤ 0 + length g.tale.clients =
      seated_of (λ (y : tales.Client). y.number.0 ≤ 0 + length g.tale.clients) g.tale x seated
      (numbers_within 0 g.tale.clients rests.stands.clients.counted) in
      by (is_client c x.number) refl within where
        by : (b : Bool) → is_client c x.number ≡ b → x.number.0 ≤ 0 + length g.tale.clients → is_client c x.number ≡ false
        by false is within = is
        by true is within =
            let same : x.number.0 ≡ length g.tale.clients + 1 =
            ap (λ (n : ClientNo). n.0) (sym (client-true c x.number is) ∙ count) in
            absurd (omega (arith, same, within))

  pub uncalled_all : All (λ (x : tales.Client). is_called g.plan (suc g.tale.moment) (view_on g) e x ≡ false) made.clients
  uncalled_all =
      All-weaker (IsStill (on g made)) (λ (x : tales.Client). is_called g.plan (suc g.tale.moment) (view_on g) e x ≡ false)
      (λ x is. not_called g.plan (suc g.tale.moment) (view_on g) e x refl (is.keeps x.taken (omega arith))) made.clients makes.still

-- On its link nothing was written.
pub comes_so : (g : Ground) (log : Log) (port : Port) (link : LinkId) (salt : List ℕ) (tale : Tale) → of_link link log ≡ []
    → ((x : tales.Client) → IsSeated tale x → x.number ≡ (newest g port link salt).number → x ≡ newest g port link salt) → (x : tales.Client) → IsSeated tale x
    → HasCome g.tale (Accepted port link salt) x → IsCome log (Accepted port link salt) x
comes_so g log port link salt tale none own x seated come = record {
  none = ap (λ (l : LinkId). written_of l (log ++ Accepted port link salt ∷ [])) come.link ∙ written_more link log (Accepted port link salt)
      ∙ (λ i. flat_map wrote_bytes (none i) ++ unwritten (Accepted port link salt) refl link i);
  count = come.written;
  untaken = ap (λ (y : tales.Client). y.taken) (own x seated come.number);
}

-- It is served.

module _ (service : Service) (g : Ground) (t now : Tabled) (roomy : ClientNo → Bool) (log : Log) (over : ClientNo → Bool) (port : Port) (link : LinkId)
    (salt : List ℕ) (c : ClientNo) (fresh : of_link link log ≡ []) (count : c ≡ (newest g port link salt).number) (decided : IsDecided g nobody over)
    (kept : gives_up g.plan (suc g.tale.moment) (record { client = c; ordinal = 0 }) ≡ false) (going : g.over c ≡ false)
    (so : IsReceived (new_seat link c salt port service) link c t now) (rests : Rests service g t roomy) where
  abbrev here : Entry
  here = Accepted port link salt

  or_nobody : (a : Bool) → a ≡ (a || false)
  or_nobody true = refl
  or_nobody false = refl

  same_over : over ≡ g.over
  same_over = λ i. λ n. (decided.overs n ∙ sym (or_nobody (g.over n))) i

  pub calm : IsUneventful g
  calm = record { still = decided.still; endless = decided.ends }

  pub kept_it : gives_up g.plan (suc g.tale.moment) (name_of (newest g port link salt) 0) ≡ false
  kept_it = ap (λ (n : ClientNo). gives_up g.plan (suc g.tale.moment) (record { client = n; ordinal = 0 })) (sym count) ∙ kept

  pub as_newest : IsSame now (came (newest g port link salt).number link (new_seat link (newest g port link salt).number salt port service so.statements) so.note t)
  as_newest = subst (λ (n : ClientNo). IsSame now (came n link (new_seat link n salt port service so.statements) so.note t)) count so.same

  pub served_rests : Rests service (behind g here g.over) now roomy → Rests service (behind g here over) now roomy
  served_rests is = subst (λ (o : ClientNo → Bool). Rests service (behind g here o) now roomy) (sym same_over) is

  module _ (undone : NoneDone g.setup g.plan (counted g.tale)) where
    step_is : tale_step g.setup g.plan g.tale here ≡ counted (record g.tale { clients = g.tale.clients ++ newest g port link salt ∷ [] })
    step_is = step_alone service g t roomy port link salt c rests count decided.still kept going decided.ends undone

    pub served_due : IsDueBehind g log here nobody over now
    served_due = record {
      writes = λ x seated. inl (unwritten here refl x.link);
      unread = λ x seated is. refl;
      says = λ was x seated on_it its is. absurd (false≢true its);
      there = λ x seated its. absurd (false≢true its);
      comes = λ x seated come.
          comes_so g log port link salt (tale_step g.setup g.plan g.tale here) fresh
          (its_own service g t roomy port link salt c rests count decided.still kept going (tale_step g.setup g.plan g.tale here)
          (ap (λ (tale : Tale). tale.clients) step_is)) x seated come;
    }

-- It is turned away.

module _ (service : Service) (g : Ground) (t now : Tabled) (roomy : ClientNo → Bool) (log : Log) (over : ClientNo → Bool) (port : Port) (link : LinkId)
    (salt : List ℕ) (c : ClientNo) (fresh : of_link link log ≡ []) (count : c ≡ (newest g port link salt).number) (decided : IsDecided g (ends_of c true) over)
    (kept : gives_up g.plan (suc g.tale.moment) (record { client = c; ordinal = 0 }) ≡ false) (going : g.over c ≡ false)
    (so : IsTurnedAway port link salt c t now) (rests : Rests service g t roomy) where
  abbrev at : Entry
  at = Accepted port link salt

  abbrev new : tales.Client
  new = newest g port link salt

  abbrev heard : Tale
  heard = told_then g.setup g.plan g.tale at

  pub away_newest : IsSame so.between (came new.number link (turned_away link new.number salt port so.comes.statements) so.comes.note t)
  away_newest =
      subst (λ (n : ClientNo). IsSame so.between (came n link (turned_away link n salt port so.comes.statements) so.comes.note t)) count so.comes.same

  abbrev row : Client
  row = newcomer (turned_away link new.number salt port so.comes.statements) so.comes.note

  row_there : so.between.clients new.number ≡ Some row
  row_there = away_newest.clients new.number ∙ put-same new.number (Some row) t

  its : IsLinkOf link new.number row so.between
  its = record {
    numbered = away_newest.numbers link ∙ number-same link (Some new.number) (client_put new.number (Some row) t);
    there = row_there;
  }

  one_over : (a b : Bool) → (a || (b && true)) ≡ (b || a)
  one_over true true = refl
  one_over true false = refl
  one_over false true = refl
  one_over false false = refl

  over_is : (λ (x : ClientNo). is_client new.number x || g.over x) ≡ over
  over_is = λ i x.
      (ap (λ (n : ClientNo). is_client n x || g.over x) (sym count) ∙ sym (decided.overs x ∙ one_over (g.over x) (is_client c x))) i

  over_its : over new.number ≡ true
  over_its = ap (λ (o : ClientNo → Bool). o new.number) (sym over_is) ∙ ap (λ (b : Bool). b || g.over new.number) (same_number new.number.0)

  decided_new : IsDecided g (ends_of new.number true) over
  decided_new = subst (λ (n : ClientNo). IsDecided g (ends_of n true) over) count decided

  module _ (undone : NoneDone g.setup g.plan (counted g.tale)) (alike : Alike) (law : Ends)
      (away : Stands service (ending new.number (accepted port link salt g)) so.between)
      (homed : AreHomed (view_of g.setup heard).links (view_of g.setup heard).held) where
    abbrev gone : Ground
    gone = ending new.number (accepted port link salt g)

    seated : IsSeated heard new
    seated = it_seated service g t roomy port link salt c rests count decided.still kept going

    gone_over : gone.over new.number ≡ true
    gone_over = ap (λ (b : Bool). b || g.over new.number) (same_number new.number.0)

    abbrev last : Tale
    last = tell (Left new.number) heard

    stands_last : Stands service (record g { tale = last; over = over }) now
    stands_last =
        subst (λ (o : ClientNo → Bool). Stands service (record g { tale = last; over = o }) now) over_is
        (alike service (on gone last) (left_in c ended so.between) now
        (subst (λ (n : ClientNo). Stands service (on gone last) (left_in n ended so.between)) (sym count)
        (ended_again service gone so.between new row away seated row_there gone_over law (λ h. lit< tt))) so.ends)

    undone_heard : NoneDone g.setup g.plan heard
    undone_heard = λ l there. undone l there

    undone_last : NoneDone g.setup g.plan last
    undone_last = left_undone service gone so.between link new.number row away its refl homed undone_heard

    none : IsOfNone g.setup g.plan g.tale at (new.number ∷ []) heard
    none = record {
      first = none_in g.setup g.plan heard.links heard (λ l there. undone_heard l there);
      passes = All-weaker (λ (x : tales.Client). is_called g.plan (suc g.tale.moment) (view_on g) at x ≡ false)
          (λ (x : tales.Client). false ≡ false → IsPassed g.setup g.plan (view_on g) at heard x) (λ x uncalled other. inl uncalled) heard.clients
          (uncalled_all service g t roomy port link salt c rests count decided.still kept going);
      ends = ended_is g at new true over decided_new seated;
    }

    step_away : tale_step g.setup g.plan g.tale at ≡ last
    step_away =
        step_none g.setup g.plan g.tale at (new.number ∷ []) heard last none (none_in g.setup g.plan last.links last (λ l there. undone_last l there))

    theirs : All (λ (n : ClientNo). is_client new.number n ≡ true) (new.number ∷ [])
    theirs =
        All-cons (λ (n : ClientNo). is_client new.number n ≡ true) new.number [] (same_number new.number.0)
        (All-nil (λ (n : ClientNo). is_client new.number n ≡ true))

    pub away_rests : Rests service (behind g at over) now roomy
    away_rests =
        entry_rests service g t now roomy roomy at over (is_client new.number) rests
        (subst (λ (tale : Tale). Stands service (record g { tale = tale; over = over }) now) (sym step_away) stands_last)
        (λ x. decided.overs x ∙ ap (λ (b : Bool). g.over x || b) (sym (decided.ends x)))
        (none_seats g.setup g.plan (is_client new.number) g.tale at (new.number ∷ []) heard none (same_number new.number.0))
        (λ x there apart idle.
        none_idle g.setup g.plan x g.tale at (new.number ∷ []) heard (is_client new.number) none theirs apart
        (record { aside = tt; keeps = (seated_of (IsStill g) g.tale x there decided.still).keeps; idle = idle }))
        (λ x apart full. full)
        (λ x there mine is full. absurd (true≢false (sym (ap over (sym (client-true new.number x.number mine)) ∙ over_its) ∙ is)))

    and_true : (a : Bool) → (a && true) ≡ true → a ≡ true
    and_true true is = refl
    and_true false is = is

    pub away_due : IsDueBehind g log at (ends_of c true) over now
    away_due = record {
      writes = λ x there. inl (unwritten at refl x.link);
      unread = λ x there is. refl;
      says = λ was x there on_it mine is. absurd (false≢true (sym (not_new was there) ∙ and_true (is_client c was.number) mine));
      there = λ x there mine. absurd (false≢true (sym (not_new x there) ∙ and_true (is_client c x.number) mine));
      comes = λ x there come.
          comes_so g log port link salt (tale_step g.setup g.plan g.tale at) fresh
          (its_own service g t roomy port link salt c rests count decided.still kept going (tale_step g.setup g.plan g.tale at)
          (ap (λ (tale : Tale). tale.clients) step_away)) x there come;
    } where
      not_new : (x : tales.Client) → IsSeated g.tale x → is_client c x.number ≡ false
      not_new x there = not_there service g t roomy port link salt c rests count decided.still kept going x there

-- By the log, it is the newest, and nothing happened of it.

pub number_is : (g : Ground) (port : Port) (link : LinkId) (salt : List ℕ) (c : ClientNo) (log : Log) → length g.tale.clients ≡ length (accepted_links log)
    → c.0 ≡ length (accepted_links log) + 1 → c ≡ (newest g port link salt).number
number_is g port link salt c log tally counts =
    let same : c.0 ≡ length g.tale.clients + 1 = omega (arith, tally, counts) in
    λ i. record { 0 = same i }

pub coming_so : (setup : Setup) (codes : Codes) (plan : Plan) (old : Decided) (log : Log) (port : Port) (link : LinkId) (salt : List ℕ) (c : ClientNo)
    → of_link link log ≡ [] → c ≡ (newest (ground setup codes plan old log) port link salt).number
    → All (IsStill (ground setup codes plan old log)) (ground setup codes plan old log).tale.clients
    → plan.routes (record { client = c; ordinal = 0 }) ≡ None → is_some (old.ends c) ≡ false
    → AreSessions (view_of setup (tale_of setup plan log)) c 0 [] × AreToCome (view_of setup (tale_of setup plan log)) c 1
    × ((view_of setup (tale_of setup plan log)).places c ≡ setup.places c) → IsComing (ground setup codes plan old log) port link salt
coming_so setup codes plan old log port link salt c fresh count still unrouted going unseen =
    let g : Ground = ground setup codes plan old log in
    let it : IsUnseen g (record (newest g port link salt) { number = c }) =
    record { sessions = unseen.0; coming = unseen.1; place = unseen.2; unrouted = unrouted; going = going } in
    record {
      still = none_counted g still;
      link_is = record {
        aside = new_link setup plan log link fresh;
        alone = new_apart setup plan link log first_tale tt fresh (All-nil (Apart link));
      };
      unseen = subst (λ (n : ClientNo). IsUnseen g (record (newest g port link salt) { number = n })) count it;
    }
