-- A core goes on with a loss of a link to a server.
use Rattle.std.specs.Prelude.{◌≡◌, ◌⊎◌, ◌+◌, ℕ, suc, Bool, true, false, ◌&&◌, ◌||◌, not, All, is_some, length, List, [], Option, Some, None}
use Rattle.std.proofs.Common.{refl, sym, ap, ◌∙◌, subst, inl, inr}
use Rattle.std.proofs.lemmas.Bool.{false≢true}
use Rattle.std.proofs.lemmas.List.Elements.{All-weaker}
use Rattle.mx_wire.specs.Log.{Log, is_open, open_step}
use Rattle.mx_wire.specs.Moments.{AllLawful}
use Rattle.mx_wire.specs.Tells.{MayFollow}
use Rattle.mx_wire.specs.declared.entry.Entry.{Entry}
use Rattle.mx_wire.specs.Log as logs
use Rattle.core_service.specs.Serves.{rules_in}
use Rattle.core_service.specs.declared.service.Service.{Service}
use Rattle.core_texts.specs.declared.texts.Texts.{Texts}
use Rattle.client_session.specs.Setups.{Setup as Serving}
use Rattle.private_model.specs.Names.{ClientNo, LinkId}
use Rattle.private_model.specs.Story.{is_link_id}
use Rattle.private_model.specs.View.{Setup}
use Rattle.link_laws.specs.Stands.{Codes}
use Rattle.log_story.specs.Headline.{tale_of}
use Rattle.log_story.specs.Plan.{Plan, WordPlace, word_at}
use Rattle.log_story.specs.Said.{ClosesFirst}
use Rattle.log_story.specs.Tale as tales
use Rattle.log_story.specs.Tale.{Tale, is_to_server}
use Rattle.log_story.specs.Telling.{tale_step}
use Rattle.step_laws.specs.Freed.{Ascend}
use Rattle.step_laws.specs.Seats.{IsSeated}
use Rattle.step_laws.specs.Steps.{ends_now}
use Rattle.tale_world.specs.Decided.{Decided}
use Rattle.tale_world.specs.Tested.{Passes}
use Rattle.core_tables.specs.Parting.{changed_at, given_row, given_up_in, gone_row, lost_in, lost_row, present_in}
use Rattle.core_tables.specs.Tables.{Tabled}
use Rattle.core_tables.specs.declared.client.Client.{Client}
use Rattle.core_stands.specs.Grounds.{Ground, known_on}
use Rattle.core_stands.specs.Stands.{IsAt, Rests, Stands}
use Rattle.core_laws.proofs.OfParting.Freeing.{changed_there}
use Rattle.core_laws.specs.parting.Partings.{AreGivenUp}
use Rattle.core_laws.proofs.OfEntry.Going.{tale_more}
use Rattle.core_laws.proofs.OfEntry.Lists.{seated_of}
use Rattle.core_laws.proofs.OfEntry.Safely.{log_goes_on}
use Rattle.core_laws.specs.entry.Calms.{EndNow}
use Rattle.core_laws.specs.entry.Cores.{GoesOn, IsSafely, with_entry}
use Rattle.core_laws.specs.entry.Dues.{AreSilent, AreWrittenTo, EndsSaying, IsSaidLast}
use Rattle.core_laws.specs.entry.Entries.{behind}
use Rattle.core_laws.specs.entry.Grows.{IsHeardMore}
use Rattle.core_laws.specs.entry.Speaks.{IsSilentOrSpoken}
use Rattle.core_laws.specs.entry.Tells.{Fits, IsOf, ground}
use Rattle.router_laws.proofs.OfClients.Continuing.{all_were}
use Rattle.router_laws.proofs.OfClients.Duing.{moment_more, written_with}
use Rattle.router_laws.proofs.OfClients.Entering.{heard_always, off_gets, off_spoken, with_is}
use Rattle.router_laws.proofs.OfClients.Linking.{unwritten}
use Rattle.router_laws.specs.clients.Behind.{IsDueBehind}
use Rattle.router_laws.specs.clients.Continues.{HasCome, IsContinued, WasThere}
use Rattle.router_laws.specs.clients.Plans.{over_by}
use Rattle.core_laws.proofs.OfClients.Keeping.{going_keeps_rows, keeps_along, keeps_link, keeps_same, some_mapped}
use Rattle.core_laws.specs.clients.Going.{GivenUp, Going, told_to}
use Rattle.core_laws.specs.clients.Keeps.{KeepsRows}
use Rattle.router_laws.specs.decisions.Counting.{BeginsSo, TakesSo}
use Rattle.router_laws.specs.decisions.Deeds as deeds
use Rattle.router_laws.specs.decisions.Deeds.{Counts, Deeds, counts_with, decided_with, taken_by}
use Rattle.router_laws.specs.decisions.Goings.{deeds_of}
use Rattle.router_laws.proofs.OfDecisions.Working.{all_sent}
use Rattle.router_laws.specs.decisions.Judges.{AreSent}
use Rattle.router_laws.specs.decisions.Plans.{AreUngiven, AreUnreplied, HasDeeds, KeepsAnswers, PlansSo}
use Rattle.router_laws.specs.decisions.Records.{AreCountsOf, IsRecorded}
use Rattle.core_promises.specs.Administers.{Administered}
use Rattle.router_laws.specs.decisions.Routers.{AreOpenJust, GoesSo, IsBefore, IsRouter}
use Rattle.router_laws.proofs.OfReading.Onward.{none_left, or_first, or_second, there_by, word_placed}
use Rattle.router_laws.proofs.OfReading.Rested.{Follows}
use Rattle.router_laws.specs.reading.Hearing.{TellsSo}
use Rattle.router_laws.proofs.OfLinks.Breaking.{lost_off, lost_plain}
use Rattle.router_laws.proofs.OfLinks.Giving.{given_up_with}
use Rattle.router_laws.proofs.OfLinks.Going.{IsPlain}
use Rattle.router_laws.proofs.OfLinks.LossRests.{going_lost}
use Rattle.router_laws.proofs.OfLinks.Losses as losses
use Rattle.router_laws.proofs.OfLinks.Losses.{AreLost, IsLoss}
use Rattle.router_laws.proofs.OfLinks.Routing.{has_row, open_one}
use Rattle.router_laws.specs.links.Loses.{Break, LosesSo, ReadEnds, ReadFails, WriteFails, entry_by}
use Rattle.router_laws.proofs.OfDecisions.Speaking.{going_told}
use Rattle.router_laws.specs.decisions.Speaks.{AreGoingOurs}

-- The laws by which it goes.
pub record Laws : Type 0 where
  pub losses : losses.Laws
  pub follows : Follows
  pub ungiven : (service : Serving) (g : Ground) (t : Tabled) (given : ClientNo → Option (List ℕ)) (excepted : LinkId → Bool) → Stands service g t
      → AreGivenUp given excepted t → AreUngiven g (λ c. is_some (given c))
  pub unreplied : (service : Serving) (g : Ground) (t : Tabled) (given : ClientNo → Option (List ℕ)) (excepted : LinkId → Bool)
      → Stands service g t → AreGivenUp given excepted t → AreUnreplied g (λ c. is_some (given c))
  pub kept : (g : Ground) (log : Log) (e : Entry) (deeds : Deeds) → PlansSo g log e deeds → AreUnreplied g (λ c. is_some (deeds.given c))
      → All (KeepsAnswers g) g.tale.clients
  pub ends : (d : Decided) (n : Counts) (log : Log) (e : Entry) (deeds : Deeds) (setup : Setup) (codes : Codes) (plan : Plan)
      → IsRecorded d n log → IsOf (decided_with deeds n log e d) (length (with_entry log e)) plan
      → EndNow (ground setup codes plan d log) (ground setup codes plan (decided_with deeds n log e d) (with_entry log e))
  pub counts : (setup : Setup) (plan : Plan) (d : Decided) (n : Counts) (log : Log) (e : Entry) (deeds : Deeds) → IsRecorded d n log → MayFollow log e
      → AreCountsOf n (tale_of setup plan log) → TakesSo n deeds (tale_step setup plan (tale_of setup plan log) e)
      → BeginsSo setup (tale_of setup plan log) e deeds
      → AreCountsOf (counts_with deeds n log e) (tale_of setup plan (with_entry log e))
  pub stood : (service : Service) (texts : Texts) (admin : Administered) (log : Log) (e : Entry) (t : Tabled) (roomy : ClientNo → Bool) (deeds : Deeds)
      (setup : Setup) (codes : Codes) (plan : Plan) → (router : IsRouter service texts admin log t roomy) → MayFollow log e
      → IsOf (decided_with deeds router.counts log e router.core.decided) (length (with_entry log e)) plan
      → Fits (decided_with deeds router.counts log e router.core.decided).keys setup codes plan service.default_schema (tale_of setup plan (with_entry log e))
      → All (λ (client : tales.Client). IsHeardMore (tale_of setup plan (with_entry log e)) client) (tale_of setup plan log).clients
      → IsBefore service texts admin log e t roomy router deeds setup codes plan
  pub rise : (setup : Setup) (plan : Plan) (log : Log) → AllLawful MayFollow log → Ascend (λ l. l.0) (tale_of setup plan log).links

-- What a loss is for the rest.

lost_passes : (setup : Setup) (plan : Plan) (tale : Tale) (how : Break) (l : LinkId) → Passes setup plan tale (entry_by how l)
lost_passes setup plan tale ReadEnds l = tt
lost_passes setup plan tale ReadFails l = tt
lost_passes setup plan tale WriteFails l = tt

lost_closes : (setup : Setup) (tale : Tale) (how : Break) (l : LinkId) → ClosesFirst setup tale (entry_by how l)
lost_closes setup tale ReadEnds l = tt
lost_closes setup tale ReadFails l = tt
lost_closes setup tale WriteFails l = tt

pub lost_begins : (setup : Setup) (tale : Tale) (how : Break) (l : LinkId) (decided : Deeds) → BeginsSo setup tale (entry_by how l) decided
lost_begins setup tale ReadEnds l decided = tt
lost_begins setup tale ReadFails l decided = tt
lost_begins setup tale WriteFails l decided = tt

-- No client and no link comes or goes by it.

pub lost_keeps : (given : ClientNo → Option (List ℕ)) (l : LinkId) (t : Tabled) → KeepsRows t (given_up_in given (lost_in l t))
lost_keeps given l t =
    let gone : Tabled = changed_at gone_row (present_in l t) t in
    let lost : Tabled = lost_in l t in
    keeps_along t lost (given_up_in given lost)
    (keeps_along t gone lost
    (record { clients = λ c. changed_there gone_row (present_in l t) c (t.clients c); links = λ k. refl; numbers = λ k. refl })
    (keeps_link l lost_row gone))
    (record { clients = λ c. some_mapped (given_row (given c)) (lost.clients c); links = λ k. refl; numbers = λ k. refl })

pub loses_keep_rows : (service : Serving) (default : List ℕ) (l : LinkId) (given : Option GivenUp) (going : Option Going) (old new : Tabled)
    → LosesSo service default l given going old new → KeepsRows old new
loses_keep_rows service default l given going old new so =
    keeps_along old so.lost new (keeps_same old _ so.lost (lost_keeps (told_to given) l old) so.loses)
    (going_keeps_rows service default going so.lost new so.goes)

lost_link : (how : Break) (l : LinkId) → logs.link_of (entry_by how l) ≡ Some l
lost_link ReadEnds l = refl
lost_link ReadFails l = refl
lost_link WriteFails l = refl

lost_open : (how : Break) (l : LinkId) (b : Bool) → open_step b (entry_by how l) ≡ b
lost_open ReadEnds l b = refl
lost_open ReadFails l b = refl
lost_open WriteFails l b = refl

-- just the links that were open before have rows
pub loses_open : (log : Log) (t now : Tabled) (how : Break) (l : LinkId) → AreOpenJust log t → KeepsRows t now
    → AreOpenJust (with_entry log (entry_by how l)) now
loses_open log t now how l rows keeps =
    let same : (k : LinkId) → has_row now k ≡ has_row t k = λ k. λ i. keeps.links k i || is_some (keeps.numbers k i) in
    open_one log t now rows (entry_by how l) l (lost_link how l) (lost_open how l (is_open l log) ∙ rows l ∙ sym (same l)) (λ k apart. same k)

module _ {texts : Texts} {admin : Administered} (laws : Laws) (service : Service) (log : Log) (t now : Tabled) (roomy : ClientNo → Bool) (l : LinkId) (how : Break)
    (given : Option GivenUp) (going : Option Going) (router : IsRouter service texts admin log t roomy) (follow : MayFollow log (entry_by how l))
    (so : LosesSo service.setup service.default_schema l given going t now) (ours : AreGoingOurs (rules_in service) texts going)
    (tells : TellsSo going service.setup) (setup : Setup) (codes : Codes) (plan : Plan)
    (of : IsOf (decided_with (deeds_of given going) router.counts log (entry_by how l) router.core.decided) (length (with_entry log (entry_by how l))) plan)
    (fits : Fits (decided_with (deeds_of given going) router.counts log (entry_by how l) router.core.decided).keys setup codes plan service.default_schema (tale_of setup plan (with_entry log (entry_by how l)))) where
  abbrev e : Entry
  e = entry_by how l

  abbrev its_deeds : Deeds
  its_deeds = deeds_of given going

  abbrev d : Decided
  d = router.core.decided

  abbrev n : Counts
  n = router.counts

  abbrev later : Decided
  later = decided_with its_deeds n log e d

  abbrev g : Ground
  g = ground setup codes plan d log

  abbrev over : ClientNo → Bool
  over = over_by later

  pub before : IsBefore service texts admin log e t roomy router its_deeds setup codes plan
  before = laws.stood service texts admin log e t roomy its_deeds setup codes plan router follow of fits (heard_always setup plan log e)

  gives : AreGivenUp (told_to given) (λ (other : LinkId). is_link_id other l) t
  gives = given_up_with service.setup g t l given before.rests.stands so.may

  -- what is given up wasn't answered before

  plans : PlansSo g log e its_deeds
  plans = before.so (going_told d.keys (rules_in service) texts given going router.known ours)
      (laws.ungiven service.setup g t (told_to given) (λ (other : LinkId). is_link_id other l) before.rests.stands gives)

  unreplied : AreUnreplied g (λ (c : ClientNo). is_some (told_to given c))
  unreplied = laws.unreplied service.setup g t (told_to given) (λ (other : LinkId). is_link_id other l) before.rests.stands gives

  -- and it went to a server
  pub sent : AreSent plan g.tale (λ (c : ClientNo). is_some (told_to given c))
  sent = all_sent service.setup g t (told_to given) (λ (other : LinkId). is_link_id other l) before.rests.stands gives

  pub is : IsLoss service.setup service.default_schema g log e given going
  is = record {
    plans = plans;
    classes = before.fits.classes;
    who = before.fits.who;
    rising = laws.rise setup plan log router.lawful;
    tells = tells;
  }

  overs : (c : ClientNo) → over c ≡ (g.over c || ends_now plan (suc g.tale.moment) c)
  overs = laws.ends d n log e its_deeds setup codes plan router.recorded of

  lost : AreLost service.setup g e its_deeds over roomy now
  lost = going_lost laws.losses laws.follows service.setup service.default_schema g log t now roomy roomy over l how given going before.rests is so overs (λ c full. full)

  -- who is ended, and told

  abbrev whose : ClientNo → Bool
  whose c = ends_now plan (suc g.tale.moment) c

  has : (was : tales.Client) → IsSeated g.tale was → HasDeeds g its_deeds was
  has was seated = seated_of (HasDeeds g its_deeds) g.tale was seated plans.each

  ended_open : (was : tales.Client) → IsSeated g.tale was → whose was.number ≡ true → (b : Bool) → g.over was.number ≡ b → g.over was.number ≡ false
  ended_open was seated ends false is = is
  ended_open was seated ends true is =
      absurd (false≢true (sym ((has was seated).ends
      ∙ ap (λ (b : Bool). not b && is_some (deeds.ends_in its_deeds was.number)) is) ∙ ends))

  kept_rows : KeepsRows t now
  kept_rows = loses_keep_rows service.setup service.default_schema l given going t now so

  row_there : (was : tales.Client) → IsSeated g.tale was → whose was.number ≡ true → is_some (now.clients was.number) ≡ true
  row_there was seated ends =
      kept_rows.clients was.number
      ∙ there_by g was (t.clients was.number) (seated_of (IsAt g t) g.tale was seated before.rests.stands.clients.each).row
      (ended_open was seated ends (g.over was.number) refl)

  says : (was client : tales.Client) → IsSeated g.tale was → IsContinued plan g.tale e was client → whose was.number ≡ true
      → g.over was.number ≡ false → EndsSaying (known_on g) (known_on (behind g e over)) was client
  says was client seated on ends goes_still word told_word =
      subst (λ (place : WordPlace). IsSaidLast place plan was)
      (sym (word_placed given going was.number (suc g.tale.moment) word
      (sym ((has was seated).word goes_still)
      ∙ (λ i. word_at plan (sym (moment_more setup plan g.tale e) i) (sym on.number i)) ∙ told_word))) tt

  plain : IsPlain g.tale e
  plain = lost_plain g.tale how l

  due : IsDueBehind g log e whose over now
  due = record {
    writes = λ client seated. inl (unwritten e plain.writes client.link);
    unread = λ client seated ended. plain.reads client.link;
    says = says;
    there = row_there;
    comes = λ client seated come. absurd (plain.comes client come);
  }

  kept : All (KeepsAnswers g) g.tale.clients
  kept = laws.kept g log e its_deeds plans unreplied

  -- who goes on has no last word

  wordless : (was : tales.Client) → IsSeated g.tale was → over was.number ≡ false → word_at plan (suc g.tale.moment) was.number ≡ None
  wordless was seated open_still =
      let none : (g.over was.number || whose was.number) ≡ false = sym (overs was.number) ∙ open_still in
      let goes : g.over was.number ≡ false = or_first (g.over was.number) (whose was.number) none in
      (has was seated).word goes
      ∙ none_left (deeds.ends_in its_deeds was.number)
      (ap (λ (b : Bool). not b && is_some (deeds.ends_in its_deeds was.number)) (sym goes) ∙ sym (has was seated).ends
      ∙ or_second (g.over was.number) (whose was.number) none)
      (suc g.tale.moment)

  abbrev last : Tale
  last = tale_step setup plan g.tale e

  abbrev Were : tales.Client → Type 0
  Were client = WasThere plan g.tale e client ⊎ HasCome g.tale e client

  pub were : All Were last.clients
  were = all_were setup plan g.tale e before.rests.stands.clients.counted

  silent_at : (client : tales.Client) → Were client → over client.number ≡ false → word_at plan last.moment client.number ≡ None
  silent_at client (inr come) open_still = absurd (plain.comes client come)
  silent_at client (inl was) open_still =
      (λ i. word_at plan (moment_more setup plan g.tale e i) (was.continued.number i))
      ∙ wordless was.was was.seated (ap over (sym was.continued.number) ∙ open_still)

  silent_last : All (λ (client : tales.Client). over client.number ≡ false → word_at plan last.moment client.number ≡ None) last.clients
  silent_last =
      All-weaker Were (λ (client : tales.Client). over client.number ≡ false → word_at plan last.moment client.number ≡ None) silent_at last.clients were

  same : ground setup codes plan later (with_entry log e) ≡ behind g e over
  same = with_is service.setup setup codes plan log e d later t now roomy roomy whose

  silent : AreSilent (ground setup codes plan later (with_entry log e))
  silent = subst AreSilent (sym same) silent_last

  -- it is safe

  safely : IsSafely setup plan log e now
  safely = record {
    passes = lost_passes setup plan g.tale how l;
    gets = off_gets g.tale e (lost_off g.tale how l);
    closes = lost_closes setup g.tale how l;
    spoken = subst (λ (x : Tale). (other : LinkId) → is_to_server x other ≡ true → IsSilentOrSpoken setup plan g.tale e x now other)
        (sym (tale_more setup plan log e)) (off_spoken setup plan g.tale e now (lost_off g.tale how l));
  }

  goes : GoesOn service.setup setup codes plan log e d later t now roomy roomy
  goes = record {
    heard = heard_always setup plan log e;
    rests = λ rests. subst (λ (x : Ground). Rests service.setup x now roomy) (sym same) lost.rests;
    written = λ rests behind_it to.
        subst (λ (x : Ground). AreWrittenTo x (with_entry log e)) (sym same)
        (written_with service.setup g t now roomy log e whose over before.rests lost.rests.stands kept overs due to);
    safe = λ rests behind_it to safe. log_goes_on service.setup setup codes plan later log e now safe safely behind_it.stands silent to;
  }

  -- as many were taken up

  takes_by : (client : tales.Client) → IsSeated last client → Were client
      → client.taken ≡ n.taken client.number + taken_by (its_deeds.calls client.number) (its_deeds.halts client.number)
  takes_by client seated (inr come) = absurd (plain.comes client come)
  takes_by client seated (inl was) =
      lost.counts client was.was seated was.seated was.continued.number
      ∙ ap (λ (k : ℕ). k + taken_by (its_deeds.calls client.number) (its_deeds.halts client.number))
      (seated_of (λ (x : tales.Client). x.taken ≡ n.taken x.number) g.tale was.was was.seated before.counts.taken
      ∙ ap n.taken (sym was.continued.number))

  takes : TakesSo n its_deeds last
  takes client seated = takes_by client seated (seated_of Were last client seated were)

  pub goes_so : GoesSo service.setup setup codes plan log e d n its_deeds t now roomy roomy
  goes_so = record {
    goes = goes;
    counts = laws.counts setup plan d n log e its_deeds router.recorded follow before.counts takes (lost_begins setup g.tale how l its_deeds);
  }
