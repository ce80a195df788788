-- Bytes come on a client's link, and it goes on.
use Rattle.std.specs.Prelude.{◌≡◌, ◌<◌, ◌≤◌, ◌&&◌, ◌||◌, ◌++◌, ◌+◌, ℕ, suc, not, Bool, true, false, All, if◌then◌else◌, is_some, map, slice_index_or, List, [], ◌∷◌, Option, Some, None}
use Rattle.std.specs.Option.{option_map_or}
use Rattle.std.proofs.Common.{refl, sym, ap, ◌∙◌, subst, arith, append-nil, inl}
use Rattle.std.proofs.lemmas.Bool.{false≢true, true≢false}
use Rattle.std.proofs.lemmas.List.Elements.{All-map, All-weaker}
use Rattle.mx_base.specs.declared.names.LinkId.{LinkId}
use Rattle.mx_wire.specs.Log.{Log, opened_links}
use Rattle.mx_wire.specs.declared.entry.Entry.{Entry}
use Rattle.mx_wire.specs.declared.entry.Entry.TheVariants.{Got}
use Rattle.client_seat.specs.Seats.{is_ended}
use Rattle.client_seat.specs.Stands.{IsHeardIn}
use Rattle.client_seat.specs.declared.phase.Phase.{Phase}
use Rattle.client_seat.specs.declared.phase.Phase.TheVariants as phase
use Rattle.client_session.specs.Setups.{Setup as Service}
use Rattle.private_model.proofs.Maps.{client_of, same_link, same_number}
use Rattle.private_model.specs.Names.{ClientNo, MessageName, SessionName}
use Rattle.private_model.specs.Story.{is_client, is_link_id}
use Rattle.private_model.specs.View.{Link, Nobody, Setup, no_link, session_in}
use Rattle.link_laws.specs.Stands.{Codes}
use Rattle.log_story.specs.Clients.{is_event_of}
use Rattle.log_story.specs.Headline.{tale_of}
use Rattle.log_story.specs.Owed.{name_of}
use Rattle.log_story.specs.Plan.{Alone, Behind, ForLogin, LastWord, Plan, Route, WordPlace, gives_up, is_before, is_by_now, word_at}
use Rattle.log_story.specs.Tale as tales
use Rattle.log_story.specs.Tale.{Tale, client_hears, counted, first_tale, is_to_server, link_in, view_of}
use Rattle.log_story.specs.Telling.{server_says, tale_step, told}
use Rattle.step_laws.proofs.Leaving.{none_ended, one_ended}
use Rattle.step_laws.proofs.Telling.{told_spares}
use Rattle.row_laws.specs.Readied.{AreClasses}
use Rattle.step_laws.specs.Freed.{Ascend, NoneDone}
use Rattle.step_laws.specs.Seats.{IsSeated, is_its, seats}
use Rattle.step_laws.specs.Steps.{EndsNone, EndsOnly, IsOfOne, ended_now, ends_now, told_then}
use Rattle.step_laws.specs.Taken.{AreSingle, is_called}
use Rattle.tale_world.proofs.Lawfully.{IsSound, lost_in, sound_so}
use Rattle.tale_world.proofs.Links.{log_links}
use Rattle.tale_world.specs.Decided.{Decided}
use Rattle.core_tables.specs.Tables.{Tabled}
use Rattle.core_tables.specs.declared.client.Client.{Client}
use Rattle.core_stands.specs.Clients.{IsClient, IsPhase}
use Rattle.core_stands.specs.Grounds.{Ground, freshened, known_on, on, view_on}
use Rattle.core_stands.specs.Stands.{Rests, Stands}
use Rattle.core_laws.proofs.OfArrival.Finding.{client-same, client-true}
use Rattle.core_laws.specs.arrival.Looks.{IsLetIn}
use Rattle.core_laws.proofs.OfEntry.Lists.{seated_of}
use Rattle.core_laws.specs.entry.Calms.{EndNow}
use Rattle.core_laws.specs.entry.Cores.{with_entry}
use Rattle.core_laws.specs.entry.Dues.{EndsSaying, IsSaidLast}
use Rattle.core_laws.specs.entry.Entries as entries
use Rattle.core_laws.specs.entry.Entries.{AreSpared, TellsOf, behind}
use Rattle.core_laws.specs.entry.Kinds.{IsSpeaking, IsStill}
use Rattle.core_laws.specs.entry.Safe.{IsSafe}
use Rattle.core_laws.specs.entry.Tells.{ground}
use Rattle.core_laws.proofs.OfClients.Keeping.{follows_keep_rows}
use Rattle.core_laws.specs.clients.Chosen.{PlanHas}
use Rattle.core_laws.specs.clients.Following.{IsFollowed, IsFollowing, IsPartedIn, ended_by, to_look}
use Rattle.core_laws.specs.clients.Follows.{Parting, ends_by}
use Rattle.core_laws.specs.clients.Turns.{Choice, Halt, count_by}
use Rattle.router_laws.proofs.OfClients.Duing.{moment_more}
use Rattle.router_laws.proofs.OfClients.Linking.{alone_there, client_there, is_client_row, known, link_is, off_server, unwritten}
use Rattle.router_laws.specs.clients.Behind.{IsDueBehind}
use Rattle.router_laws.specs.clients.Continues.{IsContinued}
use Rattle.router_laws.specs.clients.Plans.{IsDecided, PlansTurns, ends_of}
use Rattle.router_laws.specs.clients.Speaks.{SpeaksSo}

-- A client that goes on, by its row.

module _ (g : Ground) (client : tales.Client) (row : Client) (own : IsClient g client row) (going : is_ended row.desk.seat.phase ≡ false) where
  going_by : (b : Bool) → b ≡ false → IsPhase b g client row → g.over client.number ≡ false
  going_by false is phase = phase.going
  going_by true is phase = absurd (true≢false is)

  pub goes_there : g.over client.number ≡ false
  goes_there = going_by (is_ended row.desk.seat.phase) going own.phase

  arrived_by : (at : Phase) → is_ended at ≡ false → IsHeardIn at g.plan client row.desk.seat → row.desk.seat.client.arrived ≡ client.taken
  arrived_by phase.LoggingIn e is = is.arrived ∙ sym is.untaken
  arrived_by (phase.Serving account) e is = is.arrived
  arrived_by phase.Ended e is = absurd (true≢false e)

  pub arrived_there : row.desk.seat.client.arrived ≡ client.taken
  arrived_there = arrived_by row.desk.seat.phase going own.heard

-- it isn't ended before the next moment
pub not_before : (moment : ℕ) (at : Option ℕ) → is_by_now moment at ≡ false → is_before (suc moment) at ≡ false
not_before moment None isnt = refl
not_before moment (Some n) isnt = grind arith

-- on a link that is none to a server nobody is carried
pub nobody_there : (setup : Setup) (plan : Plan) (log : Log) (link : LinkId) → IsSafe setup plan log
    → is_to_server (tale_of setup plan log) link ≡ false → (link_in setup (tale_of setup plan log) link).carries ≡ Nobody
nobody_there setup plan log link safe off =
    let sound : IsSound setup plan (lost_in log) (tale_of setup plan log) = sound_so setup plan log safe.tested in
    ap (λ (l : Link). l.carries) (sound.fresh link (sound.outside link off))

-- Whom the plan ends: this client alone, or nobody.

module _ (g : Ground) (e : Entry) (x : tales.Client) (ends : Bool) (over : ClientNo → Bool) (decided : IsDecided g (ends_of x.number ends) over)
    (seated : IsSeated (told_then g.setup g.plan g.tale e) x) where
  abbrev heard : Tale
  heard = told_then g.setup g.plan g.tale e

  now_is : heard.moment ≡ suc g.tale.moment
  now_is = ap suc (told_spares g.setup g.plan g.tale e).moment

  ends_then : (c : ClientNo) → ends_now g.plan heard.moment c ≡ ends_of x.number ends c
  ends_then c = ap (λ (n : ℕ). ends_now g.plan n c) now_is ∙ decided.ends c

  and_false : (a : Bool) → (a && false) ≡ false
  and_false true = refl
  and_false false = refl

  pub ended_is : ended_now g.plan heard ≡ (if ends then x.number ∷ [] else [])
  ended_is = by ends refl where
    by : (b : Bool) → ends ≡ b → ended_now g.plan heard ≡ (if b then x.number ∷ [] else [])
    by false none =
        none_ended g.plan heard
        (λ k d within. ends_then _ ∙ ap (λ (b : Bool). is_client x.number (slice_index_or heard.clients k d).number && b) none
        ∙ and_false (is_client x.number (slice_index_or heard.clients k d).number))
    by true its =
        one_ended g.plan x heard
        (record {
          seated = seated;
          ends = ends_then x.number ∙ ap (λ (b : Bool). is_client x.number x.number && b) its ∙ and_true (is_client x.number x.number) (same_number x.number.0);
          others = λ k d within apart. ends_then _ ∙ other_ends (slice_index_or heard.clients k d) apart;
        }) where
          and_true : (a : Bool) → a ≡ true → (a && true) ≡ true
          and_true true is = refl
          and_true false is = is

          other_ends : (y : tales.Client) → is_its x y.number ≡ false → (is_client x.number y.number && ends) ≡ false
          other_ends y apart = flip (is_client x.number y.number) refl where
            flip : (b : Bool) → is_client x.number y.number ≡ b → (is_client x.number y.number && ends) ≡ false
            flip false other = ap (λ (b : Bool). b && ends) other
            flip true same =
                absurd (true≢false (sym (client-same y.number x.number (sym (client_of x.number y.number same))) ∙ apart))

module _ (service : Service) (default : List ℕ) (setup : Setup) (codes : Codes) (plan : Plan) (log : Log) (old : Decided) (over : ClientNo → Bool)
    (t now : Tabled) (roomy room : ClientNo → Bool) (link : LinkId) (bytes : List ℕ) (c : ClientNo) (ordinal : ℕ) (choices : List Choice) (halt : Halt)
    (parting : Parting) (links : List LinkId) (safe : IsSafe setup plan log)
    (plans : PlansTurns service (ground setup codes plan old log) log c ordinal choices halt parting over)
    (so : SpeaksSo service default link bytes c ordinal choices halt parting links t now)
    (rests : Rests service (ground setup codes plan old log) t roomy) where
  abbrev g : Ground
  g = ground setup codes plan old log

  abbrev e : Entry
  e = Got link bytes

  abbrev client : tales.Client
  client = client_there service g t link c so.row rests.stands so.its

  abbrev said : tales.Client
  said = record client { read = client.read ++ bytes }

  own : IsClient g client so.row
  own = is_client_row service g t link c so.row rests.stands so.its

  number : client.number ≡ c
  number = (known service g t link c so.row rests.stands so.its).number

  seated : IsSeated g.tale client
  seated = (known service g t link c so.row rests.stands so.its).seated

  to_client : is_to_server g.tale link ≡ false
  to_client = off_server service g t link c so.row rests.stands so.its

  going : g.over client.number ≡ false
  going = goes_there g client so.row own so.going

  -- as it is told

  abbrev made : Tale
  made = record g.tale { clients = map (client_hears link bytes) g.tale.clients }

  told_is : told setup plan g.tale e ≡ made
  told_is = ap (λ (b : Bool). if b then server_says setup plan link bytes g.tale else made) to_client

  pub said_is : client_hears link bytes client ≡ said
  said_is =
      ap (λ (b : Bool). if b then said else client)
      (ap (λ (l : LinkId). is_link_id l link) (link_is service g t link c so.row rests.stands so.its) ∙ same_link link)

  abbrev freed : Tale
  freed = told_then setup plan g.tale e

  now_moment : freed.moment ≡ suc g.tale.moment
  now_moment = ap suc (told_spares setup plan g.tale e).moment

  abbrev fresher : Tale → Ground
  fresher tale = freshened c (on g tale)

  still_by : (x : tales.Client) → IsStill g x → (b : Bool) → IsStill (fresher made) (if b then record x { read = x.read ++ bytes } else x)
  still_by x still true = record { keeps = still.keeps; word = still.word }
  still_by x still false = record { keeps = still.keeps; word = still.word }

  pub still_then : All (IsStill (fresher (told setup plan g.tale e))) (told setup plan g.tale e).clients
  still_then =
      subst (λ (tale : Tale). All (IsStill (fresher tale)) tale.clients) (sym told_is)
      (All-map (IsStill (fresher made)) (client_hears link bytes) g.tale.clients
      (All-weaker (IsStill g) (λ (x : tales.Client). IsStill (fresher made) (client_hears link bytes x))
      (λ x still. still_by x still (is_link_id x.link link)) g.tale.clients plans.decided.still))

  pub speaking : AreSingle plan (is_its client) → NoneDone setup plan (counted g.tale) → IsSpeaking g link client
  speaking single rested = record {
    seated = seated;
    its_link = link_is service g t link c so.row rests.stands so.its;
    aside = to_client;
    alone = All-weaker (λ (x : tales.Client). is_link_id x.link link ≡ true → x.number ≡ c)
        (λ (x : tales.Client). is_link_id x.link link ≡ true → x.number ≡ client.number) (λ x alone its. alone its ∙ sym number) g.tale.clients
        (alone_there service g t link c so.row rests.stands so.its);
    nobody = nobody_there setup plan log link safe to_client;
    going = going;
    still = plans.decided.still;
    rested = rested;
    single = single;
  }

  decided_said : IsDecided g (ends_of said.number (ends_by halt parting)) over
  decided_said = subst (λ (n : ClientNo). IsDecided g (ends_of n (ends_by halt parting)) over) (sym number) plans.decided

  pub ends_said : IsSeated freed (client_hears link bytes client) → ended_now plan freed ≡ ended_by halt parting said.number
  ends_said there =
      ended_is g e said (ends_by halt parting) over decided_said (subst (IsSeated freed) said_is there)

  -- it is called

  abbrev carried : Option SessionName
  carried = session_in (link_in setup g.tale link).carries

  its_event : is_event_of (view_on g) said e ≡ true
  its_event =
      ap (λ (l : LinkId). is_link_id l link || option_map_or (λ (n : SessionName). is_client n.client said.number) carried false)
      (link_is service g t link c so.row rests.stands so.its)
      ∙ ap (λ (b : Bool). b || option_map_or (λ (n : SessionName). is_client n.client said.number) carried false) (same_link link)

  called : is_called plan freed.moment (view_on g) e said ≡ true
  called =
      ap (λ (n : ℕ). is_called plan n (view_on g) e said) now_moment
      ∙ ap (λ (b : Bool). (b || gives_up plan (suc g.tale.moment) (name_of said said.taken)) && not (is_before (suc g.tale.moment) (plan.ends said.number)))
      its_event
      ∙ ap not (not_before g.tale.moment (plan.ends said.number) (sym (rests.over said.number) ∙ going))

  -- what the entry tells of

  tells : TellsOf (is_its said) g.tale e
  tells =
      All-weaker (λ (x : tales.Client). is_link_id x.link link ≡ true → x.number ≡ c) (λ (x : tales.Client). is_link_id x.link link ≡ true → is_its said x.number ≡ true)
      (λ x alone its. client-same x.number said.number (alone its ∙ sym number)) g.tale.clients
      (alone_there service g t link c so.row rests.stands so.its)

  spared : AreSpared (is_its said) g e
  spared =
      All-weaker (IsStill g) (λ (x : tales.Client). is_its said x.number ≡ false → entries.IsSpared g e x)
      (λ x still apart. record { aside = λ server. absurd (true≢false (sym server ∙ to_client)); keeps = still.keeps }) g.tale.clients
      plans.decided.still

  links_are : (tale : Tale) → tale ≡ counted made → Ascend (λ l. l.0) tale.links
  links_are tale same =
      subst (λ (ls : List LinkId). Ascend (λ l. l.0) ls)
      (sym (ap (λ (s : Tale). s.links) same ∙ log_links setup plan log first_tale)) plans.rising

  pub following : IsOfOne setup plan g.tale e (client_hears link bytes client) (ended_by halt parting said.number) freed → AreClasses setup.reads
      → IsLetIn g default said → IsFollowing service default g e said freed choices halt parting
  following of_one classes let_in = record {
    of_one = subst (λ (x : tales.Client). IsOfOne setup plan g.tale e x (ended_by halt parting said.number) freed) said_is of_one;
    tells = tells;
    spared = spared;
    called = called;
    going = going;
    classes = classes;
    let_in = let_in;
    unrouted = ap (λ (n : ClientNo). plan.routes (record { client = n; ordinal = 0 })) number ∙ plans.unrouted;
    chosen = has_chosen;
    parted = subst (λ (n : ℕ). IsPartedIn parting service g said.number n) (sym now_moment)
        (subst (λ (n : ClientNo). IsPartedIn parting service g n (suc g.tale.moment)) (sym number) plans.parted);
    ends = decided_said.ends;
    rising = links_are freed (ap counted told_is);
  } where
    names : record { client = c; ordinal = ordinal } ≡ name_of said (suc said.taken)
    names = λ i. record { client = sym number i; ordinal = (so.next ∙ ap suc (arrived_there g client so.row own so.going)) i }

    has_chosen : PlanHas choices halt setup.keys plan freed.moment (name_of said (suc said.taken))
    has_chosen =
        subst (λ (n : ℕ). PlanHas choices halt setup.keys plan n (name_of said (suc said.taken))) (sym now_moment)
        (subst (λ (m : MessageName). PlanHas choices halt setup.keys plan (suc g.tale.moment) m) names plans.chosen)

  -- the tables, as it is told
  pub mid_stands : Stands service (fresher freed) so.heard → Stands service (to_look g (λ x. is_client c x || g.fresh x) freed) so.heard
  mid_stands stands = stands

  pub fresh_others : (x : ClientNo) → is_client said.number x ≡ false → (is_client c x || g.fresh x) ≡ false
  fresh_others x apart =
      ap (λ (b : Bool). b || g.fresh x) (ap (λ (n : ClientNo). is_client n x) (sym number) ∙ apart) ∙ rests.looked x

  pub over_then : (x : ClientNo) → over x ≡ (g.over x || ends_now plan (suc g.tale.moment) x)
  over_then x = plans.decided.overs x ∙ ap (λ (b : Bool). g.over x || b) (sym (plans.decided.ends x))

  pub rooms : ((x : ClientNo) → is_client c x ≡ false → room x ≡ false → roomy x ≡ false) → (x : ClientNo) → is_its said x ≡ false → room x ≡ false
      → roomy x ≡ false
  rooms others x apart full = others x (flip (is_client c x) refl) full where
    flip : (b : Bool) → is_client c x ≡ b → is_client c x ≡ false
    flip false other = other
    flip true same = absurd (true≢false (sym (client-same x said.number (sym (client-true c x same) ∙ sym number)) ∙ apart))

  -- what is due behind it

  not_heard : (x : tales.Client) → IsSeated g.tale x → g.over x.number ≡ true → is_link_id x.link link ≡ false
  not_heard x there ended = by (is_link_id x.link link) refl where
    by : (b : Bool) → is_link_id x.link link ≡ b → is_link_id x.link link ≡ false
    by false aside = aside
    by true its =
        let same : x.number ≡ c =
        seated_of (λ (y : tales.Client). is_link_id y.link link ≡ true → y.number ≡ c) g.tale x there
        (alone_there service g t link c so.row rests.stands so.its) its in
        absurd (true≢false (sym (ap g.over (sym (same ∙ sym number)) ∙ ended) ∙ going))

  pub spoken_due : Rests service (behind g e over) now room → IsDueBehind g log e (ends_of c (ends_by halt parting)) over now
  spoken_due behind_it = record {
    writes = λ x there. inl (unwritten e refl x.link);
    unread = not_heard;
    says = λ was x there on its goes word at. says_word was x on its word at;
    there = λ x there its. row_there x its;
    comes = λ x there come. absurd come;
  } where
    and_left : (a b : Bool) → (a && b) ≡ true → a ≡ true
    and_left true b is = refl
    and_left false b is = is

    row_there : (x : tales.Client) → (is_client c x.number && ends_by halt parting) ≡ true → is_some (now.clients x.number) ≡ true
    row_there x its =
        let same : c ≡ x.number = client-true c x.number (and_left (is_client c x.number) (ends_by halt parting) its) in
        let kept = follows_keep_rows service default c choices halt parting links so.heard now so.follows in
        ap (λ (n : ClientNo). is_some (now.clients n)) (sym same)
        ∙ (behind_it.stands.clients.named link c (kept.numbers link ∙ so.hears.numbers link ∙ so.its.numbered)).3

    says_word : (was x : tales.Client) → IsContinued g.plan g.tale e was x → (is_client c was.number && ends_by halt parting) ≡ true
        → (word : LastWord) → word_at g.plan (behind g e over).tale.moment x.number ≡ Some word → IsSaidLast word.place g.plan was
    says_word was x on its word at =
        let same : c ≡ was.number = client-true c was.number (and_left (is_client c was.number) (ends_by halt parting) its) in
        subst (λ (p : WordPlace). IsSaidLast p g.plan was)
        (sym (plans.said word
        (sym (λ i. word_at g.plan (moment_more setup plan g.tale e i) ((on.number ∙ sym same) i)) ∙ at))) tt
