-- A core goes on with bytes on a link to a server.
use Rattle.std.specs.Prelude.{◌≡◌, ◌⊎◌, ◌+◌, ℕ, suc, Bool, true, false, ◌&&◌, ◌||◌, not, All, is_some, if◌then◌else◌, length, List, [], ◌∷◌, Option, Some, None}
use Rattle.std.proofs.Common.{refl, sym, ap, ◌∙◌, subst, inl, inr}
use Rattle.std.proofs.lemmas.Bool.{false≢true, true≢false}
use Rattle.std.proofs.lemmas.List.Elements.{All-weaker}
use Rattle.std.proofs.lemmas.Option.{none-some, same_Some}
use Rattle.mx_base.specs.Fields.{AreBytes}
use Rattle.mx_wire.specs.Log.{Log}
use Rattle.mx_wire.specs.Moments.{AllLawful}
use Rattle.mx_wire.specs.Tells.{MayFollow}
use Rattle.mx_wire.specs.declared.entry.Entry.{Entry}
use Rattle.mx_wire.specs.declared.entry.Entry.TheVariants as entry
use Rattle.core_service.specs.Serves.{rules_in}
use Rattle.core_service.specs.declared.service.Service.{Service}
use Rattle.core_texts.specs.declared.texts.Texts.{Texts}
use Rattle.client_session.specs.Setups.{Setup as Serving}
use Rattle.private_model.proofs.Maps.{link_of}
use Rattle.private_model.specs.Names.{ClientNo, LinkId}
use Rattle.private_model.specs.Story.{is_link_id}
use Rattle.private_model.specs.View.{Setup}
use Rattle.link_laws.specs.Stands.{Codes}
use Rattle.log_story.specs.Headline.{tale_of}
use Rattle.log_story.specs.Owed.{name_of}
use Rattle.log_story.specs.Plan.{Behind, LastWord, Plan, WordPlace, own_at, word_at}
use Rattle.log_story.specs.Tale as tales
use Rattle.log_story.specs.Tale.{Tale, is_to_server}
use Rattle.log_story.specs.Telling.{tale_step, told}
use Rattle.step_laws.proofs.Telling.{told_spares}
use Rattle.step_laws.specs.Freed.{Ascend}
use Rattle.step_laws.specs.Seats.{IsSeated}
use Rattle.step_laws.specs.Steps.{ends_now}
use Rattle.tale_world.proofs.Links.{step_of}
use Rattle.tale_world.specs.Decided.{Decided}
use Rattle.core_tables.specs.Tables.{Tabled}
use Rattle.core_tables.specs.declared.client.Client.{Client}
use Rattle.core_stands.specs.Clients.{IsClientOr}
use Rattle.core_stands.specs.Grounds.{Ground, known_on, on, view_on}
use Rattle.core_stands.specs.Stands.{IsAt, Rests, Stands}
use Rattle.core_laws.specs.parting.Partings.{AreGivenUp}
use Rattle.core_laws.proofs.OfEntry.Going.{tale_more}
use Rattle.core_laws.proofs.OfEntry.Lists.{seated_of}
use Rattle.core_laws.proofs.OfEntry.Safely.{log_goes_on}
use Rattle.core_laws.specs.entry.Calms.{EndNow}
use Rattle.core_laws.specs.entry.Cores.{GoesOn, IsSafely, with_entry}
use Rattle.core_laws.specs.entry.Dues.{AreSilent, AreWrittenTo, EndsSaying, IsSaidLast}
use Rattle.core_laws.specs.entry.Entries.{behind}
use Rattle.core_laws.specs.entry.Grows.{IsHeardMore}
use Rattle.core_laws.specs.entry.Speaks.{IsSilentOrSpoken}
use Rattle.core_laws.specs.entry.Tells.{Fits, IsOf, ground}
use Rattle.router_laws.proofs.OfClients.Continuing.{all_were}
use Rattle.router_laws.proofs.OfClients.Duing.{moment_more, written_with}
use Rattle.router_laws.proofs.OfClients.Entering.{heard_always, with_is}
use Rattle.router_laws.proofs.OfClients.Linking.{unwritten}
use Rattle.router_laws.specs.clients.Behind.{IsDueBehind}
use Rattle.router_laws.specs.clients.Continues.{HasCome, IsContinued, WasThere}
use Rattle.router_laws.specs.clients.Plans.{over_by}
use Rattle.core_laws.specs.clients.Following.{StandTold}
use Rattle.core_laws.specs.clients.Follows.{Leaves, Parting, Stays, Tells}
use Rattle.core_laws.specs.clients.Going.{GivenUp, Going, told_to}
use Rattle.core_laws.specs.clients.Keeps.{KeepsRows}
use Rattle.core_laws.specs.clients.Turns.{Ends, Halt, Quits, Rests as Resting, Waits}
use Rattle.router_laws.specs.decisions.Counting.{BeginsSo, TakesSo}
use Rattle.router_laws.specs.decisions.Deeds as deeds
use Rattle.router_laws.specs.decisions.Deeds.{Counts, Deeds, Word, counts_with, decided_with, taken_by}
use Rattle.router_laws.specs.decisions.Goings.{deeds_of, end_of}
use Rattle.router_laws.proofs.OfDecisions.Working.{all_sent}
use Rattle.router_laws.specs.decisions.Judges.{AreSent}
use Rattle.router_laws.specs.decisions.Plans.{AreUngiven, AreUnreplied, HasDeeds, KeepsAnswers, PlansSo}
use Rattle.router_laws.specs.decisions.Records.{AreCountsOf, IsRecorded}
use Rattle.core_promises.specs.Administers.{Administered}
use Rattle.router_laws.specs.decisions.Routers.{GoesSo, IsBefore, IsRouter}
use Rattle.core_laws.proofs.OfLinks.OneRead.{read_clients, read_links}
use Rattle.router_laws.proofs.OfReading.Hearing as hearing
use Rattle.router_laws.proofs.OfReading.Lawfully.{told_none}
use Rattle.router_laws.proofs.OfReading.Rested.{Follows, going_heard}
use Rattle.router_laws.proofs.OfReading.Rows.{hears_keep_rows}
use Rattle.router_laws.proofs.OfReading.Spoken.{all_spoken}
use Rattle.router_laws.specs.reading.Hearing.{AreHeard, IsHearing, TellsFor, TellsSo, last_word}
use Rattle.router_laws.specs.reading.Hears.{HearsSo}
use Rattle.router_laws.proofs.OfDecisions.Speaking.{going_told}
use Rattle.router_laws.specs.decisions.Speaks.{AreGoingOurs}

-- The laws by which it goes.
pub record Laws : Type 0 where
  pub reads : hearing.Laws
  pub follows : Follows
  pub ungiven : (service : Serving) (g : Ground) (t : Tabled) (given : ClientNo → Option (List ℕ)) (excepted : LinkId → Bool) → Stands service g t
      → AreGivenUp given excepted t → AreUngiven g (λ c. is_some (given c))
  pub unreplied : (service : Serving) (g : Ground) (t : Tabled) (given : ClientNo → Option (List ℕ)) (excepted : LinkId → Bool)
      → Stands service g t → AreGivenUp given excepted t → AreUnreplied g (λ c. is_some (given c))
  pub kept : (g : Ground) (log : Log) (e : Entry) (deeds : Deeds) → PlansSo g log e deeds → AreUnreplied g (λ c. is_some (deeds.given c))
      → All (KeepsAnswers g) g.tale.clients
  pub ends : (d : Decided) (n : Counts) (log : Log) (e : Entry) (deeds : Deeds) (setup : Setup) (codes : Codes) (plan : Plan)
      → IsRecorded d n log → IsOf (decided_with deeds n log e d) (length (with_entry log e)) plan
      → EndNow (ground setup codes plan d log) (ground setup codes plan (decided_with deeds n log e d) (with_entry log e))
  pub counts : (setup : Setup) (plan : Plan) (d : Decided) (n : Counts) (log : Log) (e : Entry) (deeds : Deeds) → IsRecorded d n log → MayFollow log e
      → AreCountsOf n (tale_of setup plan log) → TakesSo n deeds (tale_step setup plan (tale_of setup plan log) e)
      → BeginsSo setup (tale_of setup plan log) e deeds
      → AreCountsOf (counts_with deeds n log e) (tale_of setup plan (with_entry log e))
  pub stood : (service : Service) (texts : Texts) (admin : Administered) (log : Log) (e : Entry) (t : Tabled) (roomy : ClientNo → Bool) (deeds : Deeds)
      (setup : Setup) (codes : Codes) (plan : Plan) → (router : IsRouter service texts admin log t roomy) → MayFollow log e
      → IsOf (decided_with deeds router.counts log e router.core.decided) (length (with_entry log e)) plan
      → Fits (decided_with deeds router.counts log e router.core.decided).keys setup codes plan service.default_schema (tale_of setup plan (with_entry log e))
      → All (λ (client : tales.Client). IsHeardMore (tale_of setup plan (with_entry log e)) client) (tale_of setup plan log).clients
      → IsBefore service texts admin log e t roomy router deeds setup codes plan
  pub rise : (setup : Setup) (plan : Plan) (log : Log) → AllLawful MayFollow log → Ascend (λ l. l.0) (tale_of setup plan log).links
  pub tells : (service : Serving) (payload : List ℕ) (g : Ground) (c : ClientNo) (moment : ℕ) (word : LastWord) → g.over c ≡ false
      → word_at g.plan moment c ≡ Some word → word.place ≡ Behind → word.payloads ≡ payload ∷ [] → StandTold payload service g c moment

-- who is told its last word stands as it is told

tells_for : Laws → (parting : Parting) (service : Serving) (c : ClientNo) → TellsFor parting service c
tells_for laws Stays service c = tt
tells_for laws Leaves service c = tt
tells_for laws (Tells payload) service c =
    λ g moment over looked said. laws.tells service payload g c moment (last_word moment payload) over said refl refl

tells_so : Laws → (going : Option Going) (service : Serving) → TellsSo going service
tells_so laws None service = tt
tells_so laws (Some going) service = tells_for laws going.parting service going.client

-- A last word stands behind all.

placed_by : (halt : Halt) (later : Option (Option Word)) (now : ℕ) (word : LastWord)
    → ((w : Word) → later ≡ Some (Some w) → w.place ≡ Behind) → deeds.said_at now (deeds.ends_by halt later) ≡ Some word → word.place ≡ Behind
placed_by Quits later now word behind_all said = absurd (none-some word said)
placed_by Ends later now word behind_all said = absurd (none-some word said)
placed_by Waits None now word behind_all said = absurd (none-some word said)
placed_by Waits (Some None) now word behind_all said = absurd (none-some word said)
placed_by Waits (Some (Some w)) now word behind_all said =
    ap (λ (x : LastWord). x.place) (sym (same_Some _ word said)) ∙ behind_all w refl
placed_by Resting None now word behind_all said = absurd (none-some word said)
placed_by Resting (Some None) now word behind_all said = absurd (none-some word said)
placed_by Resting (Some (Some w)) now word behind_all said =
    ap (λ (x : LastWord). x.place) (sym (same_Some _ word said)) ∙ behind_all w refl

end_placed : (parting : Parting) (w : Word) → end_of parting ≡ Some (Some w) → w.place ≡ Behind
end_placed Stays w is = absurd (none-some (Some w) is)
end_placed Leaves w is = absurd (none-some w (same_Some None (Some w) is))
end_placed (Tells payload) w is =
    ap (λ (x : Word). x.place) (sym (same_Some _ w (same_Some _ (Some w) is)))

one_placed : (b : Bool) (parting : Parting) (w : Word) → (if b then end_of parting else None) ≡ Some (Some w) → w.place ≡ Behind
one_placed true parting w is = end_placed parting w is
one_placed false parting w is = absurd (none-some (Some w) is)

pub word_placed : (given : Option GivenUp) (going : Option Going) (c : ClientNo) (now : ℕ) (word : LastWord)
    → deeds.word_of (deeds_of given going) now c ≡ Some word → word.place ≡ Behind
word_placed given None c now word said = absurd (none-some word said)
word_placed given (Some it) c now word said =
    placed_by ((deeds_of given (Some it)).halts c) ((deeds_of given (Some it)).ends c) now word (λ w is. one_placed _ it.parting w is) said

pub none_left : (end : Option (Option Word)) → is_some end ≡ false → (now : ℕ) → deeds.said_at now end ≡ None
none_left None is now = refl
none_left (Some end) is now = absurd (true≢false is)

pub or_first : (a b : Bool) → (a || b) ≡ false → a ≡ false
or_first false b is = refl
or_first true b is = absurd (true≢false is)

pub or_second : (a b : Bool) → (a || b) ≡ false → b ≡ false
or_second false b is = is
or_second true b is = absurd (true≢false is)

pub there_by : (g : Ground) (client : tales.Client) (found : Option Client) → IsClientOr g client found → g.over client.number ≡ false → is_some found ≡ true
there_by g client None is going = absurd (true≢false (sym is.over ∙ going))
there_by g client (Some row) is going = refl

module _ {texts : Texts} {admin : Administered} (laws : Laws) (service : Service) (log : Log) (t now : Tabled) (roomy : ClientNo → Bool) (l : LinkId) (bytes : List ℕ)
    (clock : ℕ) (given : Option GivenUp) (going : Option Going) (router : IsRouter service texts admin log t roomy) (follow : MayFollow log (entry.Got l bytes))
    (bytes_are : AreBytes bytes) (so : HearsSo service.setup service.default_schema l bytes clock given going t now)
    (ours : AreGoingOurs (rules_in service) texts going) (setup : Setup)
    (codes : Codes) (plan : Plan)
    (of : IsOf (decided_with (deeds_of given going) router.counts log (entry.Got l bytes) router.core.decided) (length (with_entry log (entry.Got l bytes))) plan)
    (fits : Fits (decided_with (deeds_of given going) router.counts log (entry.Got l bytes) router.core.decided).keys setup codes plan service.default_schema (tale_of setup plan (with_entry log (entry.Got l bytes)))) where
  abbrev e : Entry
  e = entry.Got l bytes

  abbrev its_deeds : Deeds
  its_deeds = deeds_of given going

  abbrev d : Decided
  d = router.core.decided

  abbrev n : Counts
  n = router.counts

  abbrev later : Decided
  later = decided_with its_deeds n log e d

  abbrev g : Ground
  g = ground setup codes plan d log

  abbrev over : ClientNo → Bool
  over = over_by later

  abbrev said : Tale
  said = told setup plan g.tale e

  pub before : IsBefore service texts admin log e t roomy router its_deeds setup codes plan
  before = laws.stood service texts admin log e t roomy its_deeds setup codes plan router follow of fits (heard_always setup plan log e)

  stands : Stands service.setup (on g said) so.heard
  stands =
      hearing.read_stands laws.reads service.setup service.default_schema g t now roomy l bytes clock given going before.rests before.fits.named bytes_are follow.fits.some so

  gives : AreGivenUp (told_to given) (λ (other : LinkId). false) so.heard
  gives =
      hearing.read_gives laws.reads service.setup service.default_schema g t now roomy l bytes clock given going before.rests before.fits.named bytes_are follow.fits.some so

  there : is_to_server g.tale l ≡ true
  there =
      hearing.read_there laws.reads service.setup service.default_schema g t now roomy l bytes clock given going before.rests before.fits.named bytes_are follow.fits.some so

  said_clients : said.clients ≡ g.tale.clients
  said_clients = read_clients g l bytes there

  said_moment : said.moment ≡ g.tale.moment
  said_moment = (told_spares setup plan g.tale e).moment

  -- what is given up wasn't answered before

  ungiven : AreUngiven g (λ (c : ClientNo). is_some (told_to given c))
  ungiven =
      subst (λ (m : ℕ). All (λ (client : tales.Client). is_some (told_to given client.number) ≡ true
      → own_at plan m (name_of client client.taken) ≡ None) g.tale.clients) said_moment
      (subst (All (λ (client : tales.Client). is_some (told_to given client.number) ≡ true
      → own_at plan said.moment (name_of client client.taken) ≡ None)) said_clients
      (laws.ungiven service.setup (on g said) so.heard (told_to given) (λ (other : LinkId). false) stands gives))

  unreplied : AreUnreplied g (λ (c : ClientNo). is_some (told_to given c))
  unreplied =
      All-weaker (λ (client : tales.Client). is_some (told_to given client.number) ≡ true → (view_on (on g said)).replies (name_of client client.taken) ≡ None)
      (λ (client : tales.Client). is_some (told_to given client.number) ≡ true → (view_on g).replies (name_of client client.taken) ≡ None)
      (λ client none is. told_none g l bytes there (name_of client client.taken) (none is)) g.tale.clients
      (subst (All (λ (client : tales.Client). is_some (told_to given client.number) ≡ true
      → (view_on (on g said)).replies (name_of client client.taken) ≡ None)) said_clients
      (laws.unreplied service.setup (on g said) so.heard (told_to given) (λ (other : LinkId). false) stands gives))

  -- and it went to a server
  pub sent : AreSent plan g.tale (λ (c : ClientNo). is_some (told_to given c))
  sent =
      subst (All (λ (client : tales.Client). is_some (told_to given client.number) ≡ true → is_some (plan.routes (name_of client client.taken)) ≡ true))
      said_clients (all_sent service.setup (on g said) so.heard (told_to given) (λ (other : LinkId). false) stands gives)

  plans : PlansSo g log e its_deeds
  plans = before.so (going_told d.keys (rules_in service) texts given going router.known ours) ungiven

  pub is : IsHearing service.setup service.default_schema g log l bytes given going
  is = record {
    plans = plans;
    named = before.fits.named;
    classes = before.fits.classes;
    who = before.fits.who;
    bytes_are = bytes_are;
    some = follow.fits.some;
    rising = laws.rise setup plan log router.lawful;
    tells = tells_so laws going service.setup;
  }

  overs : (c : ClientNo) → over c ≡ (g.over c || ends_now plan (suc g.tale.moment) c)
  overs = laws.ends d n log e its_deeds setup codes plan router.recorded of

  heard : AreHeard service.setup g l bytes its_deeds over roomy now
  heard =
      going_heard laws.reads laws.follows service.setup service.default_schema g log t now roomy roomy over l bytes clock given going before.rests is so overs (λ c full. full)

  -- who is ended, and told

  abbrev whose : ClientNo → Bool
  whose c = ends_now plan (suc g.tale.moment) c

  has : (was : tales.Client) → IsSeated g.tale was → HasDeeds g its_deeds was
  has was seated = seated_of (HasDeeds g its_deeds) g.tale was seated plans.each

  at : (was : tales.Client) → IsSeated g.tale was → IsAt g t was
  at was seated = seated_of (IsAt g t) g.tale was seated before.rests.stands.clients.each

  ended_open : (was : tales.Client) → IsSeated g.tale was → whose was.number ≡ true → (b : Bool) → g.over was.number ≡ b → g.over was.number ≡ false
  ended_open was seated ends false is = is
  ended_open was seated ends true is =
      absurd (false≢true (sym ((has was seated).ends
      ∙ ap (λ (b : Bool). not b && is_some (deeds.ends_in its_deeds was.number)) is) ∙ ends))

  kept_rows : KeepsRows t now
  kept_rows = hears_keep_rows service.setup service.default_schema l bytes clock given going t now so

  row_there : (was : tales.Client) → IsSeated g.tale was → whose was.number ≡ true → is_some (now.clients was.number) ≡ true
  row_there was seated ends =
      kept_rows.clients was.number
      ∙ there_by g was (t.clients was.number) (at was seated).row (ended_open was seated ends (g.over was.number) refl)

  pub unread_by : (was : tales.Client) → IsSeated g.tale was → (b : Bool) → is_link_id was.link l ≡ b → is_link_id was.link l ≡ false
  unread_by was seated false apart = apart
  unread_by was seated true here =
      absurd (true≢false (sym there ∙ ap (is_to_server g.tale) (sym (link_of was.link l here)) ∙ (at was seated).aside))

  says : (was client : tales.Client) → IsSeated g.tale was → IsContinued plan g.tale e was client → whose was.number ≡ true
      → g.over was.number ≡ false → EndsSaying (known_on g) (known_on (behind g e over)) was client
  says was client seated on ends goes_still word told_word =
      subst (λ (place : WordPlace). IsSaidLast place plan was)
      (sym (word_placed given going was.number (suc g.tale.moment) word
      (sym ((has was seated).word goes_still)
      ∙ (λ i. word_at plan (sym (moment_more setup plan g.tale e) i) (sym on.number i)) ∙ told_word))) tt

  due : IsDueBehind g log e whose over now
  due = record {
    writes = λ client seated. inl (unwritten e refl client.link);
    unread = λ client seated ended. unread_by client seated (is_link_id client.link l) refl;
    says = says;
    there = row_there;
    comes = λ client seated come. absurd come;
  }

  kept : All (KeepsAnswers g) g.tale.clients
  kept = laws.kept g log e its_deeds plans unreplied

  -- who goes on has no last word

  wordless : (was : tales.Client) → IsSeated g.tale was → over was.number ≡ false → word_at plan (suc g.tale.moment) was.number ≡ None
  wordless was seated open_still =
      let none : (g.over was.number || whose was.number) ≡ false = sym (overs was.number) ∙ open_still in
      let goes : g.over was.number ≡ false = or_first (g.over was.number) (whose was.number) none in
      (has was seated).word goes
      ∙ none_left (deeds.ends_in its_deeds was.number)
      (ap (λ (b : Bool). not b && is_some (deeds.ends_in its_deeds was.number)) (sym goes) ∙ sym (has was seated).ends
      ∙ or_second (g.over was.number) (whose was.number) none)
      (suc g.tale.moment)

  abbrev last : Tale
  last = tale_step setup plan g.tale e

  pub were : All (λ (client : tales.Client). WasThere plan g.tale e client ⊎ HasCome g.tale e client) last.clients
  were = all_were setup plan g.tale e before.rests.stands.clients.counted

  silent_at : (client : tales.Client) → WasThere plan g.tale e client ⊎ HasCome g.tale e client → over client.number ≡ false
      → word_at plan last.moment client.number ≡ None
  silent_at client (inr come) open_still = absurd come
  silent_at client (inl was) open_still =
      (λ i. word_at plan (moment_more setup plan g.tale e i) (was.continued.number i))
      ∙ wordless was.was was.seated (ap over (sym was.continued.number) ∙ open_still)

  silent_last : All (λ (client : tales.Client). over client.number ≡ false → word_at plan last.moment client.number ≡ None) last.clients
  silent_last =
      All-weaker (λ (client : tales.Client). WasThere plan g.tale e client ⊎ HasCome g.tale e client)
      (λ (client : tales.Client). over client.number ≡ false → word_at plan last.moment client.number ≡ None) silent_at last.clients were

  same : ground setup codes plan later (with_entry log e) ≡ behind g e over
  same = with_is service.setup setup codes plan log e d later t now roomy roomy whose

  silent : AreSilent (ground setup codes plan later (with_entry log e))
  silent = subst AreSilent (sym same) silent_last

  -- it is safe

  links_same : last.links ≡ g.tale.links
  links_same = step_of (λ (x : Tale). x.links) (λ story x. refl) (λ clients x. refl) setup plan g.tale e ∙ read_links g l bytes

  safely : IsSafely setup plan log e now
  safely = record {
    passes = tt;
    gets = λ known. bytes_are;
    closes = tt;
    spoken = subst (λ (x : Tale). (other : LinkId) → is_to_server x other ≡ true → IsSilentOrSpoken setup plan g.tale e x now other)
        (sym (tale_more setup plan log e))
        (all_spoken setup plan g.tale l bytes there now (kept_rows.links l ∙ ap is_some so.there) links_same);
  }

  goes : GoesOn service.setup setup codes plan log e d later t now roomy roomy
  goes = record {
    heard = heard_always setup plan log e;
    rests = λ rests. subst (λ (x : Ground). Rests service.setup x now roomy) (sym same) heard.rests;
    written = λ rests behind_it to.
        subst (λ (x : Ground). AreWrittenTo x (with_entry log e)) (sym same)
        (written_with service.setup g t now roomy log e whose over before.rests heard.rests.stands kept overs due to);
    safe = λ rests behind_it to safe. log_goes_on service.setup setup codes plan later log e now safe safely behind_it.stands silent to;
  }

  -- as many were taken up

  takes_by : (client : tales.Client) → IsSeated last client → WasThere plan g.tale e client ⊎ HasCome g.tale e client
      → client.taken ≡ n.taken client.number + taken_by (its_deeds.calls client.number) (its_deeds.halts client.number)
  takes_by client seated (inr come) = absurd come
  takes_by client seated (inl was) =
      heard.counts client was.was seated was.seated was.continued.number
      ∙ ap (λ (k : ℕ). k + taken_by (its_deeds.calls client.number) (its_deeds.halts client.number))
      (seated_of (λ (x : tales.Client). x.taken ≡ n.taken x.number) g.tale was.was was.seated before.counts.taken
      ∙ ap n.taken (sym was.continued.number))

  takes : TakesSo n its_deeds last
  takes client seated =
      takes_by client seated
      (seated_of (λ (x : tales.Client). WasThere plan g.tale e x ⊎ HasCome g.tale e x) last client seated were)

  pub goes_so : GoesSo service.setup setup codes plan log e d n its_deeds t now roomy roomy
  goes_so = record {
    goes = goes;
    counts = laws.counts setup plan d n log e its_deeds router.recorded follow before.counts takes tt;
  }
