-- Tables that settle stand for the tale as before.
use Rattle.std.specs.Prelude.{◌≡◌, ◌||◌, ℕ, Bool, true, false, nat_eq, is_some, List, [], ◌∷◌, ◌++◌, Option, Some, None, if◌then◌else◌}
use Rattle.std.specs.Option.{option_map}
use Rattle.std.proofs.Common.{refl, sym, ap, ◌∙◌}
use Rattle.mx_wire.specs.Log.{Log}
use Rattle.core_service.specs.declared.service.Service.{Service}
use Rattle.client_session.specs.Setups.{Setup as Serving}
use Rattle.private_model.proofs.Maps.{link_of}
use Rattle.private_model.specs.Commands.{Command, InitDb, Query, SetId}
use Rattle.private_model.specs.Names.{ClientNo, LinkId, SessionName}
use Rattle.link_state.specs.declared.asking.Form.{Form}
use Rattle.link_state.specs.declared.asking.Purpose.{Purpose}
use Rattle.link_state.specs.declared.asking.Purpose.TheVariants as purposes
use Rattle.link_state.specs.declared.wish.Wish.{Wish}
use Rattle.link_state.specs.declared.wish.Wish.TheVariants as wishes
use Rattle.link_state.specs.declared.writing.Writing.{Writing}
use Rattle.link_state.specs.Stood.{number_of}
use Rattle.lent_link.specs.declared.link.Begins.{Begins}
use Rattle.lent_link.specs.declared.link.Begins.TheVariants as begins
use Rattle.served_link.specs.Begins.{captures, ends, farewell, prepares, step_begins}
use Rattle.served_link.specs.Rows.{readied_for, taken_back}
use Rattle.row_laws.specs.Readied.{AreClasses, IsStepFor, IsWished}
use Rattle.client_desk.specs.Desks.{name_of}
use Rattle.client_desk.specs.Works.{packets_in}
use Rattle.client_desk.specs.declared.work.Work.{Work}
use Rattle.core_tables.specs.Beginning.{back_by, capture_begun, end_begun, given, given_for, next_back, quit_begun, stated_of, step_begun, text_begun, text_by, text_for, text_stands, with_row}
use Rattle.core_tables.specs.Noting.{with_spot}
use Rattle.core_tables.specs.Preparing.{prep_begun, prep_by, prep_for, run_at, run_begun, run_by, run_for, run_stands}
use Rattle.core_tables.specs.Tables.{IsSame, Tabled, link_changed}
use Rattle.core_tables.specs.declared.client.Client.{Client}
use Rattle.core_tables.specs.declared.server.Server.{Server}
use Rattle.core_stands.specs.Grounds.{AreNamed, Ground}
use Rattle.core_stands.specs.Stands.{Rests, Stands}
use Rattle.core_laws.specs.entry.Tells.{AreOpen, IsCore}
use Rattle.core_promises.specs.Administers.{Administered}
use Rattle.router_laws.specs.decisions.Routers.{AreKnown, AreOpenJust, IsRouter}
use Rattle.core_laws.specs.writing.Planned.{IsOpen, IsToPrepare}
use Rattle.router_laws.proofs.OfWakes.Aside.{RowsStay, noted_aside, readied_aside, shelved_aside, stands_aside}
use Rattle.router_laws.proofs.OfWakes.Beginning.{is_open, to_prepare}
use Rattle.router_laws.specs.wakes.Settling.{AreSettled, Captures, Ends, MaySettle, MayStep, Notes, Prepares, Quits, Readies, Runs, Settles, SettlesBy, Settling, Shelves, States, Stays, Steps, TakesBack, settled}
use Rattle.core_texts.specs.declared.texts.Texts.{Texts}
use Rattle.core_texts.specs.Texts.{key_at}
use Rattle.router_laws.proofs.OfDecisions.Speaking.{known_keys}
use Rattle.router_laws.specs.decisions.Judges.{HasKeys}

-- They settle along.

pub same_itself : (t : Tabled) → IsSame t t
same_itself t = record { clients = λ c. refl; numbers = λ l. refl; links = λ l. refl }

along : (texts : Texts) (steps others : List Settling) (t mid now : Tabled) → AreSettled texts steps t mid → AreSettled texts others mid now
    → AreSettled texts (steps ++ Stays ∷ others) t now
along texts [] others t mid now first next = (mid, record { may = tt; same = first }, next)
along texts (step ∷ steps) others t mid now first next = (first.0, first.1, along texts steps others first.0 mid now first.2 next)

pub settles_along : (texts : Texts) (t mid now : Tabled) → Settles texts t mid → Settles texts mid now → Settles texts t now
settles_along texts t mid now first next =
    record { steps = first.steps ++ Stays ∷ next.steps; path = along texts first.steps next.steps t mid now first.path next.path }

pub settles_one : (texts : Texts) (step : Settling) (t now : Tabled) → SettlesBy texts step t now → Settles texts t now
settles_one texts step t now by = record { steps = step ∷ []; path = (now, by, same_itself now) }

-- What the laws of what stands next say.

pub record Laws : Type 0 where
  pub same : (service : Serving) (g : Ground) (t other : Tabled) → Stands service g t → IsSame other t → Stands service g other
  pub rows : RowsStay
  pub back : (service : Serving) (g : Ground) (t after : Tabled) (l : LinkId) → Stands service g t → IsSame after (next_back l t) → Stands service g after
  pub text : (service : Serving) (g : Ground) (t after : Tabled) (l : LinkId) (server : Server) (n : SessionName) (client : Client) (work : Work)
      → Stands service g t → IsOpen g t l server → t.clients n.client ≡ Some client → client.desk.work ≡ Some work → work.sent ≡ false
      → n ≡ name_of client.desk work.hostgroup → AreNamed g.codes → IsSame after (text_begun l n t) → Stands service g after
  pub runs : (service : Serving) (g : Ground) (t after : Tabled) (l : LinkId) (server : Server) (n : SessionName) (client : Client) (work : Work)
      → Stands service g t → IsOpen g t l server → t.clients n.client ≡ Some client → client.desk.work ≡ Some work → work.sent ≡ false
      → n ≡ name_of client.desk work.hostgroup → AreNamed g.codes → IsSame after (run_begun l n t) → Stands service g after
  pub preps : (service : Serving) (g : Ground) (t after : Tabled) (l : LinkId) (server : Server) (n : SessionName) (client : Client) (work : Work)
      (text : List ℕ) → Stands service g t → IsOpen g t l server → AreClasses g.setup.reads → t.clients n.client ≡ Some client
      → client.desk.work ≡ Some work → IsToPrepare g l n work.ordinal work.key text → IsSame after (prep_begun l n text t) → Stands service g after
  pub step : (service : Serving) (g : Ground) (t after : Tabled) (l : LinkId) (server : Server) (purpose : Purpose) (wish : Wish) (command : Command)
      → Stands service g t → IsOpen g t l server → AreClasses g.setup.reads → IsStepFor purpose → IsWished wish command
      → IsSame after (step_begun l purpose wish t) → Stands service g after
  pub captures : (service : Serving) (g : Ground) (t after : Tabled) (l : LinkId) (server : Server) (n : SessionName) → Stands service g t
      → IsOpen g t l server → IsSame after (capture_begun l n t) → Stands service g after
  pub ends : (service : Serving) (g : Ground) (t after : Tabled) (l : LinkId) (server : Server) (n : SessionName) → Stands service g t
      → IsOpen g t l server → IsSame after (end_begun l n t) → Stands service g after
  pub closes : (service : Serving) (g : Ground) (t after : Tabled) (l : LinkId) (server : Server) (purpose : Purpose) (number : ℕ) → Stands service g t
      → IsOpen g t l server → IsSame after (step_begun l purpose (wishes.Closes number) t) → Stands service g after
  pub resets : (service : Serving) (g : Ground) (t after : Tabled) (l : LinkId) (server : Server) (purpose : Purpose) (number : ℕ) → Stands service g t
      → IsOpen g t l server → IsSame after (step_begun l purpose (wishes.Resets number) t) → Stands service g after
  pub quits : (service : Serving) (g : Ground) (t after : Tabled) (l : LinkId) (server : Server) → Stands service g t → IsOpen g t l server
      → IsSame after (quit_begun l t) → Stands service g after

-- One step.

module _ (laws : Laws) (service : Serving) (texts : Texts) (g : Ground) (classes : AreClasses g.setup.reads) (named : AreNamed g.codes)
    (keys : HasKeys (key_at texts) g.setup) where
  steps_by : (l : LinkId) (purpose : Purpose) (wish : Wish) (command : Command) (t : Tabled) → IsWished wish command → MayStep l purpose wish t
      → Stands service g t → Stands service g (step_begun l purpose wish t)
  steps_by l purpose wish command t wished may is =
      laws.step service g t (step_begun l purpose wish t) l may.begins.server purpose wish command is (is_open service g t l is may.begins) classes
      may.for_whom wished (same_itself (step_begun l purpose wish t))

  steps_to : (l : LinkId) (purpose : Purpose) (wish : Wish) (t : Tabled) → MayStep l purpose wish t → Stands service g t
      → Stands service g (step_begun l purpose wish t)
  steps_to l purpose (wishes.Schema schema) t may is = steps_by l purpose (wishes.Schema schema) (InitDb schema) t refl may is
  steps_to l purpose (wishes.Settings text) t may is = steps_by l purpose (wishes.Settings text) (Query text) t refl may is
  steps_to l purpose (wishes.SetId id) t may is =
      steps_by l purpose (wishes.SetId id) (SetId (record { value = id; fits = may.by })) t refl may is
  steps_to l purpose (wishes.Closes number) t may is =
      laws.closes service g t (step_begun l purpose (wishes.Closes number) t) l may.begins.server purpose number is (is_open service g t l is may.begins)
      (same_itself (step_begun l purpose (wishes.Closes number) t))
  steps_to l purpose (wishes.Resets number) t may is =
      laws.resets service g t (step_begun l purpose (wishes.Resets number) t) l may.begins.server purpose number is (is_open service g t l is may.begins)
      (same_itself (step_begun l purpose (wishes.Resets number) t))
  steps_to l purpose wishes.Prepare t may is = absurd may.by
  steps_to l purpose wishes.Statement t may is = absurd may.by

  settles_step : (step : Settling) (t : Tabled) → MaySettle texts step t → Stands service g t → Stands service g (settled step t)
  settles_step Stays t may is = is
  settles_step (Notes c note) t may is = stands_aside g t (settled (Notes c note) t) (noted_aside c note t) laws.rows service is
  settles_step (Readies l who) t may is = stands_aside g t (settled (Readies l who) t) (readied_aside l who t) laws.rows service is
  settles_step (Shelves l spot) t may is = stands_aside g t (settled (Shelves l spot) t) (shelved_aside l spot t) laws.rows service is
  settles_step (TakesBack l) t may is = laws.back service g t (next_back l t) l is (same_itself (next_back l t))
  settles_step (States l n) t may is =
      laws.text service g t (text_begun l n t) l may.begins.server n may.client may.work is (is_open service g t l is may.begins) may.there may.in_work may.unsent
      may.named named (same_itself (text_begun l n t))
  settles_step (Runs l n) t may is =
      laws.runs service g t (run_begun l n t) l may.begins.server n may.client may.work is (is_open service g t l is may.begins) may.there may.in_work may.unsent
      may.named named (same_itself (run_begun l n t))
  settles_step (Prepares l n text) t may is =
      laws.preps service g t (prep_begun l n text t) l may.states.begins.server n may.states.client may.states.work text is
      (is_open service g t l is may.states.begins) classes may.states.there may.states.in_work (to_prepare service texts g t l n text is named keys may)
      (same_itself (prep_begun l n text t))
  settles_step (Steps l purpose wish) t may is = steps_to l purpose wish t may is
  settles_step (Captures l n) t may is =
      laws.captures service g t (capture_begun l n t) l may.server n is (is_open service g t l is may) (same_itself (capture_begun l n t))
  settles_step (Ends l n) t may is = laws.ends service g t (end_begun l n t) l may.server n is (is_open service g t l is may) (same_itself (end_begun l n t))
  settles_step (Quits l) t may is = laws.quits service g t (quit_begun l t) l may.server is (is_open service g t l is may) (same_itself (quit_begun l t))

  settled_stands : (steps : List Settling) (t now : Tabled) → AreSettled texts steps t now → Stands service g t → Stands service g now
  settled_stands [] t now same is = laws.same service g t now is same
  settled_stands (step ∷ steps) t now path is =
      settled_stands steps path.0 now path.2
      (laws.same service g (settled step t) path.0 (settles_step step t path.1.may is) path.1.same)

  pub settles_stand : (t now : Tabled) → Settles texts t now → Stands service g t → Stands service g now
  settles_stand t now by is = settled_stands by.steps t now by.path is

  pub settles_rest : (t now : Tabled) (roomy : ClientNo → Bool) → Settles texts t now → Rests service g t roomy → Rests service g now roomy
  settles_rest t now roomy by is = record {
    stands = settles_stand t now by is.stands;
    over = is.over;
    looked = is.looked;
    rested = is.rested;
    calm = is.calm;
  }

-- No row comes or goes.

pub record HasRows (t now : Tabled) : Type 0 where
  pub links : (l : LinkId) → is_some (now.links l) ≡ is_some (t.links l)
  pub numbers : (l : LinkId) → now.numbers l ≡ t.numbers l

rows_itself : (t : Tabled) → HasRows t t
rows_itself t = record { links = λ l. refl; numbers = λ l. refl }

rows_along : (t mid now : Tabled) → HasRows t mid → HasRows mid now → HasRows t now
rows_along t mid now first next = record { links = λ l. next.links l ∙ first.links l; numbers = λ l. next.numbers l ∙ first.numbers l }

some_changed : (by : Server → Server) (a : Option Server) → is_some (option_map by a) ≡ is_some a
some_changed by None = refl
some_changed by (Some a) = refl

changed_by : (by : Server → Server) (t : Tabled) (l k : LinkId) (b : Bool) → nat_eq l.0 k.0 ≡ b
    → is_some (if b then option_map by (t.links l) else t.links k) ≡ is_some (t.links k)
changed_by by t l k false other = refl
changed_by by t l k true same = some_changed by (t.links l) ∙ ap (λ (n : LinkId). is_some (t.links n)) (link_of l k same)

rows_changed : (l : LinkId) (by : Server → Server) (t : Tabled) → HasRows t (link_changed l by t)
rows_changed l by t = record { links = λ k. changed_by by t l k (nat_eq l.0 k.0) refl; numbers = λ k. refl }

rows_given_for : (purpose : Purpose) (form : Form) (packets : List ℕ) (t : Tabled) → HasRows t (given_for purpose form packets t)
rows_given_for (purposes.Statement n ordinal key) form packets t = record { links = λ l. refl; numbers = λ l. refl }
rows_given_for (purposes.Prep n ordinal key) form packets t = rows_itself t
rows_given_for (purposes.Sync n) form packets t = rows_itself t
rows_given_for purposes.Own form packets t = rows_itself t
rows_given_for (purposes.End n) form packets t = rows_itself t
rows_given_for (purposes.Capture n) form packets t = rows_itself t

rows_given : (next : Option Begins) (writing : Option Writing) (t : Tabled) → HasRows t (given next writing t)
rows_given None writing t = rows_itself t
rows_given (Some (begins.Asks asking)) None t = rows_itself t
rows_given (Some (begins.Asks asking)) (Some w) t = rows_given_for asking.purpose asking.form w.bytes t
rows_given (Some (begins.Closes number)) writing t = rows_itself t
rows_given (Some (begins.Resets number)) writing t = rows_itself t
rows_given (Some begins.Quits) writing t = rows_itself t

rows_back : (l : LinkId) (server : Option Server) (t : Tabled) → HasRows t (back_by l server t)
rows_back l None t = rows_itself t
rows_back l (Some server) t =
    let between = given server.row.link.next server.row.link.writing t in
    rows_along t between (back_by l (Some server) t) (rows_given server.row.link.next server.row.link.writing t) (rows_changed l (with_row taken_back) between)

rows_text_by : (l : LinkId) (n : SessionName) (client : Client) (work : Option Work) (t : Tabled) → HasRows t (text_by l n client work t)
rows_text_by l n client None t = rows_itself t
rows_text_by l n client (Some work) t =
    let changed = rows_changed l (with_row (text_stands (stated_of client.desk n work) work.form (packets_in work.body))) t in
    record { links = changed.links; numbers = λ k. refl }

rows_text : (l : LinkId) (n : SessionName) (server : Option Server) (client : Option Client) (t : Tabled) → HasRows t (text_for l n server client t)
rows_text l n None client t = rows_itself t
rows_text l n (Some server) None t = rows_itself t
rows_text l n (Some server) (Some client) t = rows_text_by l n client client.desk.work t

rows_run_at : (l : LinkId) (n : SessionName) (client : Client) (work : Work) (there : Option ℕ) (t : Tabled) → HasRows t (run_at l n client work there t)
rows_run_at l n client work None t = rows_itself t
rows_run_at l n client work (Some there) t =
    let changed = rows_changed l (with_row (run_stands (stated_of client.desk n work) there work.form work.body)) t in
    record { links = changed.links; numbers = λ k. refl }

rows_run_by : (l : LinkId) (n : SessionName) (server : Server) (client : Client) (work : Option Work) (t : Tabled) → HasRows t (run_by l n server client work t)
rows_run_by l n server client None t = rows_itself t
rows_run_by l n server client (Some work) t = rows_run_at l n client work (number_of server.row.link.state.live work.key) t

rows_run : (l : LinkId) (n : SessionName) (server : Option Server) (client : Option Client) (t : Tabled) → HasRows t (run_for l n server client t)
rows_run l n None client t = rows_itself t
rows_run l n (Some server) None t = rows_itself t
rows_run l n (Some server) (Some client) t = rows_run_by l n server client client.desk.work t

rows_prep_by : (l : LinkId) (n : SessionName) (text : List ℕ) (work : Option Work) (t : Tabled) → HasRows t (prep_by l n text work t)
rows_prep_by l n text None t = rows_itself t
rows_prep_by l n text (Some work) t = rows_changed l (with_row (prepares n work.ordinal work.key text)) t

rows_prep : (l : LinkId) (n : SessionName) (text : List ℕ) (client : Option Client) (t : Tabled) → HasRows t (prep_for l n text client t)
rows_prep l n text None t = rows_itself t
rows_prep l n text (Some client) t = rows_prep_by l n text client.desk.work t

rows_step : (step : Settling) (t : Tabled) → HasRows t (settled step t)
rows_step Stays t = rows_itself t
rows_step (Notes c note) t = record { links = λ l. refl; numbers = λ l. refl }
rows_step (Readies l who) t = rows_changed l (with_row (readied_for who)) t
rows_step (Shelves l spot) t = rows_changed l (with_spot spot) t
rows_step (TakesBack l) t = rows_back l (t.links l) t
rows_step (States l n) t = rows_text l n (t.links l) (t.clients n.client) t
rows_step (Runs l n) t = rows_run l n (t.links l) (t.clients n.client) t
rows_step (Prepares l n text) t = rows_prep l n text (t.clients n.client) t
rows_step (Steps l purpose wish) t = rows_changed l (with_row (step_begins purpose wish)) t
rows_step (Captures l n) t = rows_changed l (with_row (captures n)) t
rows_step (Ends l n) t = rows_changed l (with_row (ends n)) t
rows_step (Quits l) t = rows_changed l (with_row farewell) t

rows_same : (t now : Tabled) → IsSame now t → HasRows t now
rows_same t now same = record { links = λ l. ap is_some (same.links l); numbers = same.numbers }

rows_settled : (texts : Texts) (steps : List Settling) (t now : Tabled) → AreSettled texts steps t now → HasRows t now
rows_settled texts [] t now same = rows_same t now same
rows_settled texts (step ∷ steps) t now path =
    rows_along t path.0 now
    (rows_along t (settled step t) path.0 (rows_step step t) (rows_same (settled step t) path.0 path.1.same))
    (rows_settled texts steps path.0 now path.2)

pub open_settled : (texts : Texts) (log : Log) (t now : Tabled) → Settles texts t now → AreOpen log t → AreOpen log now
open_settled texts log t now by opened l there =
    let rows = rows_settled texts by.steps t now by.path in
    (λ i. rows.links l i || is_some (rows.numbers l i)) ∙ opened l there

pub core_settled : (laws : Laws) (service : Serving) (texts : Texts) (default : List ℕ) (log : Log) (t now : Tabled) (roomy : ClientNo → Bool)
    → (core : IsCore service default log t roomy) → AreKnown texts core.decided.keys → Settles texts t now → IsCore service default log now roomy
core_settled laws service texts default log t now roomy core known by = record {
  decided = core.decided;
  rests = λ setup codes plan of fits.
      settles_rest laws service texts _ fits.classes fits.named (known_keys texts core.decided.keys known setup fits.keyed) t now roomy by
      (core.rests setup codes plan of fits);
  safe = core.safe;
  written = core.written;
  opened = open_settled texts log t now by core.opened;
}

-- just the links that are open have a row
just_settled : (texts : Texts) (log : Log) (t now : Tabled) → Settles texts t now → AreOpenJust log t → AreOpenJust log now
just_settled texts log t now by just l =
    let rows = rows_settled texts by.steps t now by.path in
    just l ∙ sym (λ i. rows.links l i || is_some (rows.numbers l i))

pub router_settled : (laws : Laws) (service : Service) (texts : Texts) (admin : Administered) (log : Log) (t now : Tabled) (roomy : ClientNo → Bool)
    → IsRouter service texts admin log t roomy → Settles texts t now → IsRouter service texts admin log now roomy
unfolding core_settled
router_settled laws service texts admin log t now roomy router by = record {
  core = core_settled laws service.setup texts service.default_schema log t now roomy router.core router.known by;
  counts = router.counts;
  recorded = router.recorded;
  counted = router.counted;
  known = router.known;
  lawful = router.lawful;
  open_just = just_settled texts log t now by router.open_just;
  rules = router.rules;
  first = router.first;
  began = router.began;
  administers = router.administers;
  spoken = router.spoken;
  waited = router.waited;
  judged = router.judged;
  held = router.held;
  noted = router.noted;
  caused = router.caused;
  ended = router.ended;
}
