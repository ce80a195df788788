-- Entries by which nothing is given back, nobody is called and nobody ended.
use Rattle.std.specs.Prelude.{◌≡◌, ℕ, suc, ◌+◌, Bool, true, false, not, ◌||◌, ◌&&◌, All, if◌then◌else◌, is_some, length, map, List, Option, Some, None}
use Rattle.std.specs.List.{list_any}
use Rattle.std.specs.Option.{option_map}
use Rattle.std.proofs.Common.{refl, sym, ap, ◌∙◌, subst, arith}
use Rattle.std.proofs.lemmas.Bool.{false≢true, true≢false}
use Rattle.std.proofs.lemmas.List.Elements.{All-map, All-weaker}
use Rattle.std.proofs.lemmas.Option.{none-some}
use Rattle.mx_base.specs.declared.tag.Tag.{Tag}
use Rattle.mx_wire.specs.declared.entry.Entry.{Entry}
use Rattle.mx_wire.specs.declared.entry.Entry.TheVariants as entry
use Rattle.client_session.specs.Setups.{Setup as Service}
use Rattle.private_model.proofs.Maps.{link_of, same_number}
use Rattle.private_model.specs.Names.{ClientNo, LinkId}
use Rattle.private_model.specs.Story.{Dropped, Ran, is_client, is_link_id}
use Rattle.private_model.specs.View.{Answered, Asked, Link, Quiet, Setup, Stage, View, ran_by}
use Rattle.log_story.specs.Clients.{is_event_of}
use Rattle.log_story.specs.Owed.{name_of}
use Rattle.log_story.specs.Plan.{Plan, gives_up, is_before}
use Rattle.log_story.specs.Servers.{is_done, writes}
use Rattle.log_story.specs.Tale.{Client, Tale, client_gets, counted, is_to_server, link_in, tell, view_of}
use Rattle.log_story.specs.Telling.{tale_step, told}
use Rattle.step_laws.proofs.Counting.{own_still}
use Rattle.step_laws.specs.Freed.{NoneDone, NoneDoneBut}
use Rattle.step_laws.specs.Steps.{ends_now, told_then}
use Rattle.step_laws.specs.Taken.{is_called}
use Rattle.core_tables.specs.Parting.{given_row, given_up_in, is_done_in}
use Rattle.core_tables.specs.Tables.{IsSame, Tabled}
use Rattle.core_tables.specs.declared.client.Client as code
use Rattle.core_stands.specs.Grounds.{Ground, on, view_on}
use Rattle.core_stands.specs.Stands.{IsAt, IsKnown, Rests, Stands}
use Rattle.core_laws.specs.parting.Partings.{AreCounted, AreGivenUp, IsCounted}
use Rattle.core_laws.proofs.OfEntry.Composing.{rest_of_nobody, told_alone}
use Rattle.core_laws.proofs.OfEntry.Lists.{seated_of}
use Rattle.core_laws.specs.entry.Calms.{IsAside}
use Rattle.core_laws.specs.entry.Entries.{AreCalmToo, AreSpared, IsOfNobody, IsSpared, OfItsLink, TellsOf, behind}
use Rattle.core_laws.specs.entry.Kinds.{IsQuiet, IsStill, IsUneventful}

-- Nothing is given up.

abbrev pub nobody_given : ClientNo → Option (List ℕ)
nobody_given c = None

pub none_given : (t : Tabled) → AreGivenUp nobody_given (λ l. false) t
none_given t = record {
  in_work = λ c payload given. absurd (none-some payload given);
  aside = λ c l server given there other stands. absurd (false≢true given);
}

counts : (g : Ground) (client : Client) → IsStill g client → IsCounted g None client
counts g client still = record {
  own = λ ordinal within other. own_still g.plan g.tale.moment (name_of client ordinal) (still.keeps ordinal within);
  given_up = λ payload given. absurd (none-some payload given);
  word = still.word;
}

pub none_counted : (g : Ground) → All (IsStill g) g.tale.clients → AreCounted g nobody_given
none_counted g still = All-weaker (IsStill g) (λ (client : Client). IsCounted g None client) (counts g) g.tale.clients still

row_same : (row : Option code.Client) → row ≡ option_map (given_row None) row
row_same None = refl
row_same (Some row) = refl

pub given_same : (t : Tabled) → IsSame t (given_up_in nobody_given t)
given_same t = record { clients = λ c. row_same (t.clients c); numbers = λ l. refl; links = λ l. refl }

-- No link is given back.

module _ (setup : Setup) (plan : Plan) where
  -- what ran isn't to be given back

  ends_false : (a b : Bool) → b ≡ false → (a && b) ≡ false
  ends_false true b none = none
  ends_false false b none = refl

  module _ (tale : Tale) (l : LinkId) where
    abbrev done_with : Link → Bool
    done_with link = is_done plan tale.moment (view_of setup tale) (tale.wires l) link

    ran_undone : (stage : Stage) (link : Link) → link.stage ≡ stage → done_with link ≡ false → done_with (ran_by setup.reads stage link) ≡ false
    ran_undone Quiet link is undone = undone
    ran_undone (Answered question) link is undone = undone
    ran_undone (Asked question) link is undone = ends_false link.usable false refl

  -- views that differ in links alone
  pub ran_rests : (tale : Tale) (l : LinkId) → NoneDone setup plan tale → NoneDone setup plan (tell (Ran l) tale)
  ran_rests tale l rested other there = by (is_link_id other l) refl where
    at : Link
    at = link_in setup tale l

    by : (b : Bool) → is_link_id other l ≡ b
        → is_done plan tale.moment (view_of setup tale) (tale.wires other) (if b then ran_by setup.reads at.stage at else link_in setup tale other) ≡ false
    by false aside = rested other there
    by true here =
        let same : other ≡ l = link_of other l here in
        subst (λ (k : LinkId). is_done plan tale.moment (view_of setup tale) (tale.wires k) (ran_by setup.reads at.stage at) ≡ false) (sym same)
        (ran_undone tale l at.stage at refl (rested l (subst (λ (k : LinkId). is_to_server tale k ≡ true) same there)))

  pub exec_rests : (tale : Tale) (l : LinkId) → NoneDone setup plan tale → NoneDone setup plan (told setup plan tale (entry.Exec l))
  exec_rests tale l rested = by (tale.wires l).entered (tale.wires l).quits where
    by : (a b : Bool) → NoneDone setup plan (if a then tell (if b then Dropped l else Ran l) tale else tale)
    by true true = rested
    by true false = ran_rests tale l rested
    by false b = rested

-- Nobody is called.

pub not_called : (plan : Plan) (moment : ℕ) (view : View) (e : Entry) (client : Client) → is_event_of view client e ≡ false
    → gives_up plan moment (name_of client client.taken) ≡ false → is_called plan moment view e client ≡ false
not_called plan moment view e client aside kept =
    ap (λ (b : Bool). (b || gives_up plan moment (name_of client client.taken)) && not (is_before moment (plan.ends client.number))) aside
    ∙ ap (λ (b : Bool). b && not (is_before moment (plan.ends client.number))) kept

-- An entry makes this tale, at the same moment, by which no link is to be given back, and which is no event of its clients.
pub record Makes (g : Ground) (e : Entry) (made : Tale) : Type 0 where
  pub told_as : told g.setup g.plan g.tale e ≡ made
  pub moment : made.moment ≡ g.tale.moment
  pub rested : NoneDone g.setup g.plan made
  pub still : All (IsStill (on g made)) made.clients
  pub uncalled : (client : Client) → is_event_of (view_on g) client e ≡ false

module _ (g : Ground) (e : Entry) (made : Tale) (makes : Makes g e made) (endless : (c : ClientNo) → ends_now g.plan (suc g.tale.moment) c ≡ false) where
  then_as : counted made ≡ told_then g.setup g.plan g.tale e
  then_as = ap counted (sym makes.told_as)

  not_called_of : (client : Client) → IsStill (on g made) client → is_called g.plan (suc made.moment) (view_on g) e client ≡ false
  not_called_of client still =
      not_called g.plan (suc made.moment) (view_on g) e client (makes.uncalled client) (still.keeps client.taken (omega arith))

  pub of_nobody : NoneDone g.setup g.plan (counted made) → IsOfNobody g e
  of_nobody undone = record {
    unfreed = subst (NoneDone g.setup g.plan) then_as undone;
    uncalled = subst (λ (tale : Tale). All (λ (client : Client). is_called g.plan tale.moment (view_on g) e client ≡ false) tale.clients) then_as
        (All-weaker (IsStill (on g made)) (λ (client : Client). is_called g.plan (suc made.moment) (view_on g) e client ≡ false) not_called_of
        made.clients makes.still);
    endless = endless;
  }

  -- where the tables stand for it, they do once it is counted
  pub stands_then : (service : Service) (t : Tabled)
      → (Stands service (on g made) t → All (IsStill (on g made)) made.clients → Stands service (on g (counted made)) t)
      → Stands service (on g made) t → Stands service (on g (told_then g.setup g.plan g.tale e)) t
  stands_then service t counts stands =
      subst (λ (tale : Tale). Stands service (on g tale) t) then_as (counts stands makes.still)

-- Others aren't concerned.
pub all_spared : (whose : ClientNo → Bool) (g : Ground) (e : Entry) → IsUneventful g → ((c : ClientNo) → IsAside g.setup g.tale e c) → AreSpared whose g e
all_spared whose g e calm aside =
    All-weaker (IsStill g) (λ (client : Client). whose client.number ≡ false → IsSpared g e client)
    (λ client still other. record { aside = aside client.number; keeps = still.keeps }) g.tale.clients calm.still

pub none_calm : (g : Ground) (roomy : ClientNo → Bool) → AreCalmToo (λ c. false) g roomy
none_calm g roomy client seated its = absurd (false≢true its)

-- Entries that tell nothing, and marks.

quiet_makes : (g : Ground) (e : Entry) → NoneDone g.setup g.plan g.tale → IsQuiet g e → IsUneventful g → Makes g e g.tale
quiet_makes g e rested quiet calm = record {
  told_as = quiet.told_same;
  moment = refl;
  rested = rested;
  still = calm.still;
  uncalled = quiet.uncalled;
}

module _ (g : Ground) (l : LinkId) (calm : IsUneventful g) where
  ran_still : (client : Client) → IsStill g client → IsStill (on g (tell (Ran l) g.tale)) client
  ran_still client still = record { keeps = still.keeps; word = still.word }

  dropped_still : (client : Client) → IsStill g client → IsStill (on g (tell (Dropped l) g.tale)) client
  dropped_still client still = record { keeps = still.keeps; word = still.word }

  drop_makes : NoneDone g.setup g.plan g.tale → Makes g (entry.Drop l) (tell (Dropped l) g.tale)
  drop_makes rested = record {
    told_as = refl;
    moment = refl;
    rested = rested;
    still = All-weaker (IsStill g) (IsStill (on g (tell (Dropped l) g.tale))) dropped_still g.tale.clients calm.still;
    uncalled = λ client. refl;
  }

  abbrev run : Tale
  run = told g.setup g.plan g.tale (entry.Exec l)

  run_still : (a b : Bool) → All (IsStill (on g (if a then tell (if b then Dropped l else Ran l) g.tale else g.tale)))
      (if a then tell (if b then Dropped l else Ran l) g.tale else g.tale).clients
  run_still true true = All-weaker (IsStill g) (IsStill (on g (tell (Dropped l) g.tale))) dropped_still g.tale.clients calm.still
  run_still true false = All-weaker (IsStill g) (IsStill (on g (tell (Ran l) g.tale))) ran_still g.tale.clients calm.still
  run_still false b = calm.still

  run_moment : (a b : Bool) → (if a then tell (if b then Dropped l else Ran l) g.tale else g.tale).moment ≡ g.tale.moment
  run_moment true b = refl
  run_moment false b = refl

  exec_makes : NoneDone g.setup g.plan g.tale → Makes g (entry.Exec l) run
  exec_makes rested = record {
    told_as = refl;
    moment = run_moment (g.tale.wires l).entered (g.tale.wires l).quits;
    rested = exec_rests g.setup g.plan g.tale l rested;
    still = run_still (g.tale.wires l).entered (g.tale.wires l).quits;
    uncalled = λ client. refl;
  }

-- The tables rest, where they stand for what the entry makes once that is counted.

abbrev pub Counting : Service → Type 0
Counting service = (g : Ground) (t : Tabled) → Stands service g t → All (IsStill g) g.tale.clients → Stands service (on g (counted g.tale)) t

-- by rows a link is done or not, whatever the moment
abbrev pub Testing : Service → Type 0
Testing service =
    (g : Ground) (t : Tabled) (l : LinkId) → Stands service g t → is_to_server g.tale l ≡ true
    → is_done g.plan g.tale.moment (view_on g) (g.tale.wires l) (link_in g.setup g.tale l) ≡ is_done_in l t

pub counted_rests : (service : Service) → Testing service → (g : Ground) (t : Tabled) → Stands service g t → Stands service (on g (counted g.tale)) t
    → NoneDone g.setup g.plan g.tale → NoneDone g.setup g.plan (counted g.tale)
counted_rests service testing g t stands counts rested l there =
    testing (on g (counted g.tale)) t l counts there ∙ sym (testing g t l stands there) ∙ rested l there

pub others_rest : (service : Service) → Testing service → (old new : Ground) (t now : Tabled) (l : LinkId) → NoneDone old.setup old.plan old.tale
    → Stands service old t → Stands service new now → new.tale.links ≡ old.tale.links
    → ((other : LinkId) → is_link_id other l ≡ false → is_done_in other now ≡ is_done_in other t)
    → NoneDoneBut new.setup new.plan (λ other. is_link_id other l) new.tale
others_rest service testing old new t now l rested stands stands_now links same other there aside =
    let before : is_to_server old.tale other ≡ true =
    (λ i. list_any (is_link_id other) (sym links i)) ∙ there in
    testing new now other stands_now there ∙ same other aside ∙ sym (testing old t other stands before) ∙ rested other before

module _ (service : Service) (counting : Counting service) (testing : Testing service) (g : Ground) (t : Tabled) (roomy : ClientNo → Bool) (rests : Rests service g t roomy)
    (calm : IsUneventful g) where
  made_nobody : (e : Entry) (made : Tale) → Makes g e made → Stands service (on g made) t → IsOfNobody g e
  made_nobody e made makes stands =
      of_nobody g e made makes calm.endless
      (counted_rests service testing (on g made) t stands (counting (on g made) t stands makes.still) makes.rested)

  -- the entry is told and counted, and no more
  made_steps : (e : Entry) (made : Tale) → Makes g e made → Stands service (on g made) t
      → tale_step g.setup g.plan g.tale e ≡ told_then g.setup g.plan g.tale e
  made_steps e made makes stands = told_alone service g t t roomy roomy e rests (made_nobody e made makes stands)

  pub quiet_steps : (e : Entry) → IsQuiet g e → tale_step g.setup g.plan g.tale e ≡ told_then g.setup g.plan g.tale e
  quiet_steps e quiet = made_steps e g.tale (quiet_makes g e rests.rested quiet calm) rests.stands

  pub drop_steps : (l : LinkId) → Stands service (on g (told g.setup g.plan g.tale (entry.Drop l))) t
      → tale_step g.setup g.plan g.tale (entry.Drop l) ≡ told_then g.setup g.plan g.tale (entry.Drop l)
  drop_steps l stands = made_steps (entry.Drop l) (tell (Dropped l) g.tale) (drop_makes g l calm rests.rested) stands

  pub run_steps : (l : LinkId) → Stands service (on g (told g.setup g.plan g.tale (entry.Exec l))) t
      → tale_step g.setup g.plan g.tale (entry.Exec l) ≡ told_then g.setup g.plan g.tale (entry.Exec l)
  run_steps l stands = made_steps (entry.Exec l) (run g l calm) (exec_makes g l calm rests.rested) stands

  made_rests : (e : Entry) (made : Tale) → Makes g e made → ((c : ClientNo) → IsAside g.setup g.tale e c) → TellsOf (λ c. false) g.tale e
      → Stands service (on g made) t → Rests service (behind g e g.over) t roomy
  made_rests e made makes aside tells stands =
      rest_of_nobody service g t t roomy roomy e rests (made_nobody e made makes stands) (λ c. false) tells
      (all_spared (λ c. false) g e calm aside)
      (stands_then g e made makes calm.endless service t (counting (on g made) t) stands)
      (λ c other full. full) (none_calm (behind g e g.over) roomy)

  pub quiet_rests : (e : Entry) → IsQuiet g e → Rests service (behind g e g.over) t roomy
  quiet_rests e quiet = made_rests e g.tale (quiet_makes g e rests.rested quiet calm) quiet.aside quiet.of_none rests.stands

  pub drop_rests : (l : LinkId) → Stands service (on g (told g.setup g.plan g.tale (entry.Drop l))) t → Rests service (behind g (entry.Drop l) g.over) t roomy
  drop_rests l stands = made_rests (entry.Drop l) (tell (Dropped l) g.tale) (drop_makes g l calm rests.rested) (λ c. tt) tt stands

  pub run_rests : (l : LinkId) → Stands service (on g (told g.setup g.plan g.tale (entry.Exec l))) t → Rests service (behind g (entry.Exec l) g.over) t roomy
  run_rests l stands = made_rests (entry.Exec l) (run g l calm) (exec_makes g l calm rests.rested) (λ c. tt) tt stands

  -- Bytes are written to a client.

  module _ (now : Tabled) (link : LinkId) (tag : Tag) (bytes : List ℕ) (c : ClientNo) (there : t.numbers link ≡ Some c)
      (stands : Stands service (on g (told g.setup g.plan g.tale (entry.Wrote link tag bytes))) now) where
    abbrev found : (client : Client) × IsKnown g c client × (client.link ≡ link) × (is_some (t.clients c) ≡ true)
    found = rests.stands.clients.named link c there

    at : IsAt g t found.0
    at = seated_of (IsAt g t) g.tale found.0 found.1.seated rests.stands.clients.each

    to_client : is_to_server g.tale link ≡ false
    to_client = ap (is_to_server g.tale) (sym found.2) ∙ at.aside

    abbrev wrote : Tale
    wrote = record g.tale { clients = map (client_gets link (length bytes)) g.tale.clients }

    wrote_as : told g.setup g.plan g.tale (entry.Wrote link tag bytes) ≡ wrote
    wrote_as = ap (λ (b : Bool). if b then writes g.setup g.plan link tag bytes (g.tale.wires link) g.tale else wrote) to_client

    got_still : (client : Client) → IsStill g client → IsStill (on g wrote) (client_gets link (length bytes) client)
    got_still client still = by (is_link_id client.link link) where
      by : (b : Bool) → IsStill (on g wrote) (if b then record client { written = client.written + length bytes } else client)
      by true = record { keeps = still.keeps; word = still.word }
      by false = record { keeps = still.keeps; word = still.word }

    wrote_makes : Makes g (entry.Wrote link tag bytes) wrote
    wrote_makes = record {
      told_as = wrote_as;
      moment = refl;
      rested = rests.rested;
      still = All-map (IsStill (on g wrote)) (client_gets link (length bytes)) g.tale.clients
          (All-weaker (IsStill g) (λ (client : Client). IsStill (on g wrote) (client_gets link (length bytes) client)) got_still g.tale.clients calm.still);
      uncalled = λ client. refl;
    }

    its_link : OfItsLink (is_client c) link g.tale
    its_link =
        All-weaker (λ (other : Client). is_link_id other.link found.0.link ≡ true → other.number ≡ found.0.number)
        (λ (other : Client). is_link_id other.link link ≡ true → is_client c other.number ≡ true)
        (λ other same of.
        let number : other.number ≡ c =
        same (subst (λ (k : LinkId). is_link_id other.link k ≡ true) (sym found.2) of) ∙ found.1.number in
        subst (λ (n : ClientNo). is_client c n ≡ true) (sym number) (same_number c.0))
        g.tale.clients at.alone

    or_false : (a b : Bool) → (a || b) ≡ false → b ≡ false
    or_false true b none = absurd (true≢false none)
    or_false false b none = none

    or_true : (a b : Bool) → a ≡ true → (a || b) ≡ false → ⊥
    or_true true b is none = true≢false none
    or_true false b is none = false≢true is

    wrote_stands : Stands service (on g wrote) now
    wrote_stands = subst (λ (tale : Tale). Stands service (on g tale) now) wrote_as stands

    pub wrote_rests : Rests service (behind g (entry.Wrote link tag bytes) g.over) now (λ other. is_client c other || roomy other)
    wrote_rests =
        rest_of_nobody service g t now roomy (λ other. is_client c other || roomy other) (entry.Wrote link tag bytes) rests
        (of_nobody g (entry.Wrote link tag bytes) wrote wrote_makes calm.endless
        (counted_rests service testing (on g wrote) now wrote_stands (counting (on g wrote) now wrote_stands wrote_makes.still) rests.rested)) (is_client c) its_link
        (all_spared (is_client c) g (entry.Wrote link tag bytes) calm (λ other to_server. absurd (true≢false (sym to_server ∙ to_client))))
        (stands_then g (entry.Wrote link tag bytes) wrote wrote_makes calm.endless service now (counting (on g wrote) now) wrote_stands)
        (λ other aside full. or_false (is_client c other) (roomy other) full)
        (λ client seated its going full. absurd (or_true (is_client c client.number) (roomy client.number) its full))
