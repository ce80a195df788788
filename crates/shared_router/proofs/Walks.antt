-- What each happening keeps that an entry tells before messages are taken up, the story then has; and so where links are given back and
-- clients are ended. A statement that is sent is one that is due.
use Rattle.std.specs.Prelude.{◌≡◌, ℕ, ◌+◌, Bool, true, false, ◌&&◌, not, nat_eq, fold, is_some, if◌then◌else◌, length, map, unwrap_or, List, [], ◌∷◌, ◌++◌}
use Rattle.std.specs.Prelude.{Option, Some, None}
use Rattle.std.proofs.Common.{refl}
use Rattle.mx_base.specs.declared.names.LinkId.{LinkId}
use Rattle.mx_base.specs.declared.tag.Tag.{Tag}
use Rattle.mx_base.specs.declared.tag.Tag.TheVariants as tag
use Rattle.mx_wire.specs.declared.entry.Entry.{Entry}
use Rattle.mx_wire.specs.declared.entry.Entry.TheVariants as entry
use Rattle.reply_track.specs.Runs.{Ending}
use Rattle.reply_track.specs.Runs.Ending.{Going, Ended, Failed}
use Rattle.reply_track.specs.declared.reply.ReplyKind.TheVariants as kind
use Rattle.server_side.specs.Login.{Opening, Goes, LogsIn, Fails, opening}
use Rattle.server_rule.specs.Servers.{is_some_of}
use Rattle.private_model.specs.Commands.{Command}
use Rattle.private_model.specs.Names.{SessionName}
use Rattle.private_model.specs.Story.{BecameDue, Broke, Capture, Dropped, Due, End, Freed, Gone, Happening, Left, Own, Prep, Question, Ran, Sent, Statement, Story, Sync, command_of, is_client, is_link_id, is_name, message_of}
use Rattle.private_model.specs.View.{Answered, Asked, Carried, Joined, Lent, Nobody, Quiet, Setup, Stage, View, present, session_in, view_after}
use Rattle.log_story.specs.Clients.{client_leaves, clients_are_ended, ended_if_now}
use Rattle.log_story.specs.Plan.{Asks, Closes, Plan, Resets, StepText, is_now, job_of, own_at}
use Rattle.log_story.specs.Servers.{begins, begun_by, begun_on, copy_by, due_in, of_due, or_broke, ended_by, entered_by, freed_if_done, heard_by, hears, is_done, kind_by, links_are_freed, may_begin}
use Rattle.log_story.specs.Servers.{quits_by, quits_for, read_as, reset_by, runs_first, stepped, tell_all, with_run, writes}
use Rattle.log_story.specs.Tale.{Client, Tale, Wire, client_gets, client_hears, is_reset_step, is_to_server, link_in, new_client, tell, view_of, with_wire}
use Rattle.log_story.specs.Telling.{is_lost_or_left, server_says, told, wire_with}

pub if_either : {A : Type 0} (P : A → Type 0) (b : Bool) (x y : A) → P x → P y → P (if b then x else y)
if_either P true x y first second = first
if_either P false x y first second = second

folds : {A : Type 0} (P : Tale → Type 0) (f : Tale → A → Tale) → ((tale : Tale) (a : A) → P tale → P (f tale a)) → (xs : List A) (tale : Tale) → P tale
    → P (fold f tale xs)
folds P f keeps [] tale holds = holds
folds P f keeps (x ∷ xs) tale holds = folds P f keeps xs (f tale x) (keeps tale x holds)

-- a question is of what is due
abbrev pub IsOfDue : View → Question → Type 0
IsOfDue view (Statement n due) = view.dues n ≡ Some due
IsOfDue view _ = Unit {0}

abbrev pub MayTell : View → Happening → Type 0
MayTell view (BecameDue client hostgroup ordinal key command multiplex) = ⊥
MayTell view (Sent link question) = IsOfDue view question
MayTell view Broke = ⊥
MayTell view _ = Unit {0}

-- a client is moved, and stays who it is
pub record Stays (f : Client → Client) : Type 0 where
  pub number : (c : Client) → (f c).number ≡ c.number
  pub taken : (c : Client) → (f c).taken ≡ c.taken

pub record Keeping (setup : Setup) : Type 1 where
  pub holds : List Client → Story → Type 0
  pub more : (clients : List Client) (past : Story) (e : Happening) → MayTell (view_after setup past) e → holds clients past → holds clients (e ∷ past)
  pub moves : (clients : List Client) (past : Story) (f : Client → Client) → Stays f → holds clients past → holds (map f clients) past

pub hears_stays : (link : LinkId) (bytes : List ℕ) → Stays (client_hears link bytes)
hears_stays link bytes = record { number = λ c. by_number c (is_link_id c.link link); taken = λ c. by_taken c (is_link_id c.link link) } where
  by_number : (c : Client) (b : Bool) → (if b then record c { read = c.read ++ bytes } else c).number ≡ c.number
  by_number c true = refl
  by_number c false = refl

  by_taken : (c : Client) (b : Bool) → (if b then record c { read = c.read ++ bytes } else c).taken ≡ c.taken
  by_taken c true = refl
  by_taken c false = refl

pub gets_stays : (link : LinkId) (count : ℕ) → Stays (client_gets link count)
gets_stays link count = record { number = λ c. by_number c (is_link_id c.link link); taken = λ c. by_taken c (is_link_id c.link link) } where
  by_number : (c : Client) (b : Bool) → (if b then record c { written = c.written + count } else c).number ≡ c.number
  by_number c true = refl
  by_number c false = refl

  by_taken : (c : Client) (b : Bool) → (if b then record c { written = c.written + count } else c).taken ≡ c.taken
  by_taken c true = refl
  by_taken c false = refl

-- what is due by this ordinal is what is due there
due_there : (plan : Plan) (moment ordinal : ℕ) (n : SessionName) (o : Option Due) (due : Due) → due_in plan moment ordinal n o ≡ Some due → o ≡ Some due
due_there plan moment ordinal n None due is = absurd (cc)
due_there plan moment ordinal n (Some other) due is = by_test (nat_eq other.ordinal ordinal && not (is_some (own_at plan moment (message_of n other)))) is where
  by_test : (b : Bool) → (if b then Some other else None) ≡ Some due → Some other ≡ Some due
  by_test true is = is
  by_test false is = absurd (cc)

module _ (setup : Setup) (plan : Plan) (k : Keeping setup) where
  abbrev Holds : Tale → Type 0
  Holds tale = k.holds tale.clients tale.story

  -- Clients are ended, and links given back.

  pub ending_keeps : (tale : Tale) → Holds tale → Holds (clients_are_ended plan tale)
  ending_keeps tale holds =
      folds Holds (ended_if_now plan) (λ other client found. if_either Holds (is_now other.moment (plan.ends client.number))
      (tell (Left client.number) other) other (k.more _ _ _ tt found) found) tale.clients tale holds

  pub freeing_keeps : (tale : Tale) → Holds tale → Holds (links_are_freed setup plan tale)
  freeing_keeps tale holds =
      folds Holds (freed_if_done setup plan)
      (λ other link found. if_either Holds (is_done plan other.moment (view_of setup other) (other.wires link) (link_in setup other link))
      (tell (Freed link) other) other (k.more _ _ _ tt found) found) tale.links tale holds

  -- An entry is told.

  entered_keeps : (link : LinkId) (wire : Wire) (at : Opening) (tale : Tale) → Holds tale → Holds (entered_by plan link wire at tale)
  entered_keeps link wire (LogsIn said rest) tale holds = k.more _ _ _ tt holds
  entered_keeps link wire (Goes said) tale holds = holds
  entered_keeps link wire (Fails said fault) tale holds = holds

  heard_keeps : (link : LinkId) (question : Question) (wire : Wire) (ending : Ending) (tale : Tale) → Holds tale → Holds (heard_by link question wire ending tale)
  heard_keeps link question wire (Ended end rest) tale holds = k.more _ _ _ tt holds
  heard_keeps link question wire (Going state) tale holds = holds
  heard_keeps link question wire (Failed rest) tale holds = holds

  hears_keeps : (link : LinkId) (wire : Wire) (stage : Stage) (tale : Tale) → Holds tale → Holds (hears link wire stage tale)
  hears_keeps link wire (Answered question) tale holds = heard_keeps link question wire (read_as (kind_by (command_of question)) wire) tale holds
  hears_keeps link wire Quiet tale holds = holds
  hears_keeps link wire (Asked question) tale holds = holds

  runs_keeps : (stage : Stage) (link : LinkId) (tale : Tale) → Holds tale → Holds (runs_first stage link tale)
  runs_keeps (Asked question) link tale holds = k.more _ _ _ tt holds
  runs_keeps Quiet link tale holds = holds
  runs_keeps (Answered question) link tale holds = holds

  reset_keeps : (link : LinkId) (wire : Wire) (ending : Ending) (tale : Tale) → Holds tale → Holds (reset_by link wire ending tale)
  reset_keeps link wire (Ended end rest) tale holds = holds
  reset_keeps link wire (Going state) tale holds = holds
  reset_keeps link wire (Failed rest) tale holds = holds

  says_keeps : (link : LinkId) (bytes : List ℕ) (tale : Tale) → Holds tale → Holds (server_says setup plan link bytes tale)
  says_keeps link bytes tale holds =
      let wire : Wire = wire_with tale link bytes in
      if_either Holds (not (tale.wires link).entered) _ _ (entered_keeps link wire (opening (plan.logins link) wire.unread) tale holds)
      (if_either Holds (is_reset_step (tale.wires link).step) _ _ (reset_keeps link wire (read_as kind.Command wire) tale holds)
      (hears_keeps link wire (link_in setup (with_run setup link tale) link).stage (with_run setup link tale) (runs_keeps (link_in setup tale link).stage link tale holds)))

  losing_keeps : (link : LinkId) (tale : Tale) → Holds tale → Holds (is_lost_or_left link tale)
  losing_keeps link tale holds =
      if_either Holds (is_to_server tale link) (tell (Gone link) tale) (fold (client_leaves link) tale tale.clients) (k.more _ _ _ tt holds)
      (folds Holds (client_leaves link) (λ other client found. if_either Holds (is_link_id client.link link) (tell (Left client.number) other) other
      (k.more _ _ _ tt found) found) tale.clients tale holds)

  -- a client that comes is looked at apart
  abbrev pub Comes : Tale → Entry → Type 0
  Comes tale (entry.Accepted port link salt) = k.holds (tale.clients ++ new_client (length tale.clients + 1) port link salt ∷ []) tale.story
  Comes tale _ = Unit {0}

  -- and so is what is written on a link to a server
  abbrev pub Says : Tale → Entry → Type 0
  Says tale (entry.Wrote link for bytes) = is_to_server tale link ≡ true → Holds (writes setup plan link for bytes (tale.wires link) tale)
  Says tale _ = Unit {0}

  if_then : {A : Type 0} (P : A → Type 0) (b : Bool) (x y : A) → (b ≡ true → P x) → P y → P (if b then x else y)
  if_then P true x y first second = first refl
  if_then P false x y first second = second

  pub entry_keeps : (tale : Tale) (e : Entry) → Comes tale e → Says tale e → Holds tale → Holds (told setup plan tale e)
  entry_keeps tale (entry.Accepted port link salt) comes says holds = comes
  entry_keeps tale (entry.Got link bytes) comes says holds =
      if_either Holds (is_to_server tale link) _ _ (says_keeps link bytes tale holds) (k.moves tale.clients tale.story (client_hears link bytes) (hears_stays link bytes) holds)
  entry_keeps tale (entry.Wrote link for bytes) comes says holds =
      if_then Holds (is_to_server tale link) _ _ says
      (k.moves tale.clients tale.story (client_gets link (length bytes)) (gets_stays link (length bytes)) holds)
  entry_keeps tale (entry.Exec link) comes says holds =
      if_either Holds (tale.wires link).entered _ _
      (if_either (λ e. Holds (tell e tale)) (tale.wires link).quits (Dropped link) (Ran link) (k.more _ _ _ tt holds) (k.more _ _ _ tt holds)) holds
  entry_keeps tale (entry.Drop link) comes says holds = k.more _ _ _ tt holds
  entry_keeps tale (entry.Ended link) comes says holds = losing_keeps link tale holds
  entry_keeps tale (entry.ReadFailed link) comes says holds = losing_keeps link tale holds
  entry_keeps tale (entry.WriteFailed link) comes says holds = losing_keeps link tale holds
  entry_keeps tale (entry.Closed link) comes says holds = losing_keeps link tale holds
  entry_keeps tale _ comes says holds = holds

-- What is written on a link to a server, where a breach may be told too.

module _ (setup : Setup) (plan : Plan) (k : Keeping setup) (breaks : (clients : List Client) (past : Story) → k.holds clients past → k.holds clients (Broke ∷ past)) where
  abbrev HoldsThere : Tale → Type 0
  HoldsThere tale = k.holds tale.clients tale.story

  else_broke : {A : Type 0} (happens : A → List Happening) (found : Option A) (tale : Tale) → ((a : A) → found ≡ Some a → HoldsThere (tell_all (happens a) tale)) → HoldsThere tale
      → HoldsThere (tell_all (or_broke happens found) tale)
  else_broke happens None tale each holds = breaks _ _ holds
  else_broke happens (Some a) tale each holds = each a refl

  due_keeps : (link : LinkId) (ordinal : ℕ) (n : SessionName) (question : Due → Question) (tale : Tale)
      → ((due : Due) → (view_of setup tale).dues n ≡ Some due → IsOfDue (view_of setup tale) (question due)) → HoldsThere tale
      → HoldsThere (tell_all (of_due plan tale.moment (view_of setup tale) link ordinal n question) tale)
  due_keeps link ordinal n question tale here holds =
      else_broke _ (due_in plan tale.moment ordinal n ((view_of setup tale).dues n)) tale
      (λ due is. k.more _ _ _ (here due (due_there plan tale.moment ordinal n ((view_of setup tale).dues n) due is)) holds) holds

  stepped_keeps : (link : LinkId) (question : Command → Question) (step : StepText) (tale : Tale)
      → ((command : Command) → IsOfDue (view_of setup tale) (question command)) → HoldsThere tale → HoldsThere (tell_all (stepped link question step) tale)
  stepped_keeps link question (Asks command) tale here holds = k.more _ _ _ (here command) holds
  stepped_keeps link question (Closes number) tale here holds = k.more _ _ _ tt holds
  stepped_keeps link question (Resets number) tale here holds = holds

  -- a job leaves as it sends its one statement
  job_keeps : (link : LinkId) (n : SessionName) (tale : Tale) → HoldsThere tale
      → HoldsThere (tell_all (or_broke (λ due. Left n.client ∷ Sent link (Statement n due) ∷ []) (due_in plan tale.moment 1 n ((view_of setup tale).dues n))) tale)
  job_keeps link n tale holds =
      else_broke (λ due. Left n.client ∷ Sent link (Statement n due) ∷ []) (due_in plan tale.moment 1 n ((view_of setup tale).dues n)) tale
      (λ due is. k.more _ _ _ tt (k.more _ _ _ (due_there plan tale.moment 1 n ((view_of setup tale).dues n) due is) holds)) holds

  copy_keeps : (link : LinkId) (n : SessionName) (carried : Carried) (tale : Tale) → HoldsThere tale
      → HoldsThere (tell_all (copy_by plan tale.moment (view_of setup tale) link n carried) tale)
  copy_keeps link n (Joined who) tale holds =
      if_either (λ es. HoldsThere (tell_all es tale)) (is_client who.client n.client) (Sent link (End who) ∷ [])
      (of_due plan tale.moment (view_of setup tale) link 1 n (Statement n)) (k.more _ _ _ tt holds)
      (due_keeps link 1 n (Statement n) tale (λ due is. is) holds)
  copy_keeps link n Nobody tale holds = job_keeps link n tale holds
  copy_keeps link n (Lent who) tale holds = job_keeps link n tale holds

  ended_keeps : (view : View) (link : LinkId) (n : SessionName) (tale : Tale) → HoldsThere tale → HoldsThere (tell (Sent link (ended_by view n)) tale)
  ended_keeps view link n tale holds =
      if_either (λ q. HoldsThere (tell (Sent link q) tale)) (is_name n (present view n.client n.hostgroup)) (Capture n) (End n)
      (k.more _ _ _ tt holds) (k.more _ _ _ tt holds)

  begun_keeps : (link : LinkId) (begun : ℕ) (for : Tag) (tale : Tale) → HoldsThere tale
      → HoldsThere (tell_all (begun_by setup plan tale.moment (view_of setup tale) link begun for) tale)
  begun_keeps link begun (tag.For client ordinal) tale holds =
      else_broke _ (plan.routes (record { client = client; ordinal = ordinal })) tale
      (λ route at. due_keeps link ordinal (present (view_of setup tale) client route.hostgroup) (Statement (present (view_of setup tale) client route.hostgroup)) tale
      (λ due is. is) holds) holds
  begun_keeps link begun (tag.Prep client ordinal) tale holds =
      else_broke _ (plan.routes (record { client = client; ordinal = ordinal })) tale
      (λ route at. due_keeps link ordinal (present (view_of setup tale) client route.hostgroup)
      (λ due. Prep (present (view_of setup tale) client route.hostgroup) due.key (setup.keys due.key).text) tale (λ due is. tt) holds) holds
  begun_keeps link begun (tag.Mirror client ordinal) tale holds =
      else_broke _ (plan.routes (record { client = client; ordinal = ordinal })) tale
      (λ route at. else_broke _ route.mirror tale
      (λ hostgroup is. copy_keeps link (present (view_of setup tale) (job_of (record { client = client; ordinal = ordinal })) hostgroup)
      (link_in setup tale link).carries tale holds) holds) holds
  begun_keeps link begun (tag.Sync client hostgroup) tale holds =
      stepped_keeps link (Sync (present (view_of setup tale) client hostgroup)) (plan.steps link begun) tale (λ command. tt) holds
  begun_keeps link begun (tag.End client hostgroup) tale holds =
      let view = view_of setup tale in
      ended_keeps view link (unwrap_or (session_in (view.links link).carries) (present view client hostgroup)) tale holds
  begun_keeps link begun tag.Own tale holds =
      if_either (λ es. HoldsThere (tell_all es tale)) (quits_by (plan.steps link begun)) [] (stepped link Own (plan.steps link begun)) holds
      (stepped_keeps link Own (plan.steps link begun) tale (λ command. tt) holds)
  begun_keeps link begun tag.Reply tale holds = breaks _ _ holds

  begun_on_keeps : (link : LinkId) (wire : Wire) (for : Tag) (tale : Tale) → HoldsThere tale
      → HoldsThere (tell_all (begun_on setup plan tale.moment (view_of setup tale) link wire for) tale)
  begun_on_keeps link wire for tale holds =
      if_either (λ es. HoldsThere (tell_all es tale)) (is_some_of wire.unread && not (quits_for for (plan.steps link wire.begun))) (Broke ∷ [])
      (begun_by setup plan tale.moment (view_of setup tale) link wire.begun for) (breaks _ _ holds) (begun_keeps link wire.begun for tale holds)

  pub writes_keeps : (link : LinkId) (for : Tag) (bytes : List ℕ) (wire : Wire) (tale : Tale) → HoldsThere tale → HoldsThere (writes setup plan link for bytes wire tale)
  writes_keeps link for bytes wire tale holds =
      if_either HoldsThere (may_begin setup link wire tale) (begins setup plan link for bytes wire tale) (with_wire link (record wire { written = wire.written ++ bytes }) tale)
      (begun_on_keeps link wire for tale holds) holds
