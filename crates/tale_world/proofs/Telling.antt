-- An entry is told in the same way by plans that are the same where it looks.
use Rattle.std.specs.Prelude.{Bool, List, None, Option, Some, [], false, fold, if◌then◌else◌, is_some, nat_eq, not, suc, true, ℕ, ◌&&◌, ◌++◌, ◌||◌, ◌∷◌, ◌≡◌}
use Rattle.std.proofs.Common.{refl, sym, ap, ◌∙◌, subst}
use Rattle.mx_base.specs.declared.names.LinkId.{LinkId}
use Rattle.mx_base.specs.declared.tag.Tag.{Tag}
use Rattle.mx_base.specs.declared.tag.Tag.TheVariants as tag
use Rattle.mx_wire.specs.Log.{opened_link}
use Rattle.mx_wire.specs.declared.entry.Entry.{Entry}
use Rattle.mx_wire.specs.declared.entry.Entry.TheVariants as entry
use Rattle.reply_track.specs.Runs.{Ending}
use Rattle.reply_track.specs.Runs.Ending.{Going, Ended, Failed}
use Rattle.reply_track.specs.declared.reply.ReplyKind.TheVariants as kind
use Rattle.server_side.specs.Account.{Account}
use Rattle.server_side.specs.Login.{Opening, Goes, LogsIn, Fails, opening}
use Rattle.private_model.specs.Names.{ClientNo, Hostgroup, MessageName, SessionName}
use Rattle.private_model.proofs.Maps.{number_of, same_message}
use Rattle.private_model.specs.Story.{Broke, Due, End, Freed, Happening, Left, LoggedIn, Own, Prep, Question, Sent, Statement, Story, Sync, command_of, is_client, is_link_id, is_message, message_of}
use Rattle.private_model.specs.View.{Answered, Asked, Carried, Joined, Lent, Nobody, Quiet, Setup, Stage, View, present}
use Rattle.log_story.specs.Clients.{client_leaves, ended_if_now}
use Rattle.log_story.specs.Plan.{Plan, Route, StepText, is_now, job_of, own_at}
use Rattle.log_story.specs.Servers.{begins, begun_by, begun_on, copy_by, due_in, entered_by, freed_if_done, heard_by, hears, is_done, is_done_by, is_given_up, logged_in_as, of_due, or_broke}
use Rattle.log_story.specs.Servers.{is_left, is_quiet, is_settled, kind_by, may_begin, quits_by, quits_for, read_as, reads_on, reset_by, runs_first, step_for, stepped, tell_all, with_run, writes}
use Rattle.log_story.specs.Tale.{Client, Tale, Wire, is_reset_step, is_to_server, link_in, new_wire, tell, view_of, with_wire}
use Rattle.log_story.specs.Telling.{is_lost_or_left, server_says, told, wire_with}
use Rattle.session_state.specs.Pins.{needs_reset}
use Rattle.tale_world.specs.World.{is_asked, is_tagged, tagged}
use Rattle.server_rule.specs.Servers.{is_some_of}
use Rattle.std.proofs.lemmas.Bool.{or_left, or_right}

-- A login, by who logs in.

entered_same : (p q : Plan) (link : LinkId) (wire : Wire) (at : Opening) (tale : Tale) → p.logins link ≡ q.logins link
    → entered_by p link wire at tale ≡ entered_by q link wire at tale
entered_same p q link wire (LogsIn said rest) tale same =
    ap (λ (login : Account). tell (LoggedIn link wire.server (logged_in_as login))
    (with_wire link (record wire { entered = true; unread = rest; written = [] }) tale)) same
entered_same p q link wire (Goes said) tale same = refl
entered_same p q link wire (Fails said fault) tale same = refl

pub says_same : (setup : Setup) (p q : Plan) (link : LinkId) (bytes : List ℕ) (tale : Tale) → p.logins link ≡ q.logins link
    → server_says setup p link bytes tale ≡ server_says setup q link bytes tale
says_same setup p q link bytes tale same =
    let wire : Wire = wire_with tale link bytes in
    let enters : entered_by p link wire (opening (p.logins link) wire.unread) tale ≡ entered_by q link wire (opening (q.logins link) wire.unread) tale =
    ap (λ login. entered_by p link wire (opening login wire.unread) tale) same ∙ entered_same p q link wire (opening (q.logins link) wire.unread) tale same in
    ap (λ t. if not (tale.wires link).entered then t else if is_reset_step (tale.wires link).step then reset_by link wire (read_as kind.Command wire) tale
    else reads_on setup link wire tale) enters

-- A question begins, by where its message goes, and by the step.

broke_same : {A : Type 0} (f g : A → List Happening) (found : Option A) → ((a : A) → found ≡ Some a → f a ≡ g a) → or_broke f found ≡ or_broke g found
broke_same f g None same = refl
broke_same f g (Some a) same = same a refl

-- what is due, where the router's answers to it are the same
due_same : (p q : Plan) (moment ordinal : ℕ) (n : SessionName) (due : Option Due)
    → (own_at p moment (record { client = n.client; ordinal = ordinal }) ≡ own_at q moment (record { client = n.client; ordinal = ordinal }))
    → due_in p moment ordinal n due ≡ due_in q moment ordinal n due
due_same p q moment ordinal n None own = refl
due_same p q moment ordinal n (Some due) own = by_test (nat_eq due.ordinal ordinal) refl where
  by_test : (b : Bool) → nat_eq due.ordinal ordinal ≡ b → (if b && not (is_some (own_at p moment (message_of n due))) then Some due else None)
      ≡ (if b && not (is_some (own_at q moment (message_of n due))) then Some due else None)
  by_test true same =
      let at : due.ordinal ≡ ordinal = number_of due.ordinal ordinal same in
      ap (λ (o : Option (List (List ℕ))). if not (is_some o) then Some due else None)
      (ap (λ (k : ℕ). own_at p moment (record { client = n.client; ordinal = k })) at ∙ own ∙ ap (λ (k : ℕ). own_at q moment (record { client = n.client; ordinal = k })) (sym at))
  by_test false same = refl

of_due_same : (p q : Plan) (moment : ℕ) (view : View) (link : LinkId) (ordinal : ℕ) (n : SessionName) (question : Due → Question)
    → own_at p moment (record { client = n.client; ordinal = ordinal }) ≡ own_at q moment (record { client = n.client; ordinal = ordinal })
    → of_due p moment view link ordinal n question ≡ of_due q moment view link ordinal n question
of_due_same p q moment view link ordinal n question own =
    ap (λ (d : Option Due). or_broke (λ due. Sent link (question due) ∷ []) d) (due_same p q moment ordinal n (view.dues n) own)

copy_same : (p q : Plan) (moment : ℕ) (view : View) (link : LinkId) (n : SessionName) (carried : Carried)
    → own_at p moment (record { client = n.client; ordinal = 1 }) ≡ own_at q moment (record { client = n.client; ordinal = 1 })
    → copy_by p moment view link n carried ≡ copy_by q moment view link n carried
copy_same p q moment view link n (Joined who) own =
    ap (λ es. if is_client who.client n.client then Sent link (End who) ∷ [] else es) (of_due_same p q moment view link 1 n (Statement n) own)
copy_same p q moment view link n Nobody own = ap (λ (d : Option Due). or_broke (λ due. Left n.client ∷ Sent link (Statement n due) ∷ []) d) (due_same p q moment 1 n (view.dues n) own)
copy_same p q moment view link n (Lent who) own = ap (λ (d : Option Due). or_broke (λ due. Left n.client ∷ Sent link (Statement n due) ∷ []) d) (due_same p q moment 1 n (view.dues n) own)

copies_same : (p q : Plan) (moment : ℕ) (view : View) (link : LinkId) (job : ClientNo) (mirror : Option Hostgroup)
    → own_at p moment (record { client = job; ordinal = 1 }) ≡ own_at q moment (record { client = job; ordinal = 1 })
    → or_broke (λ hostgroup. copy_by p moment view link (present view job hostgroup) (view.links link).carries) mirror
    ≡ or_broke (λ hostgroup. copy_by q moment view link (present view job hostgroup) (view.links link).carries) mirror
copies_same p q moment view link job mirror own =
    broke_same (λ hostgroup. copy_by p moment view link (present view job hostgroup) (view.links link).carries) (λ hostgroup. copy_by q moment view link (present view job hostgroup) (view.links link).carries) mirror
    (λ hostgroup is. copy_same p q moment view link (present view job hostgroup) (view.links link).carries own)

-- what is looked up for a question that begins is the same by both
pub record SameAsked (p q : Plan) (moment : ℕ) (link : LinkId) (begun : ℕ) (for : Tag) : Type 0 where
  pub routes : (m : MessageName) → is_tagged (tagged for) m ≡ true → p.routes m ≡ q.routes m
  pub own : (m : MessageName) → is_asked (tagged for) m ≡ true → own_at p moment m ≡ own_at q moment m
  pub steps : p.steps link begun ≡ q.steps link begun

asked_itself : (m : MessageName) → is_asked (Some m) m ≡ true
asked_itself m = or_left (is_message m m) _ (same_message m)

asked_copy : (m : MessageName) → is_asked (Some m) (record { client = job_of m; ordinal = 1 }) ≡ true
asked_copy m = or_right (is_message (record { client = job_of m; ordinal = 1 }) m) _ (same_message (record { client = job_of m; ordinal = 1 }))

pub begun_same : (setup : Setup) (p q : Plan) (moment : ℕ) (view : View) (link : LinkId) (begun : ℕ) (for : Tag) → SameAsked p q moment link begun for
    → begun_by setup p moment view link begun for ≡ begun_by setup q moment view link begun for
begun_same setup p q moment view link begun (tag.For client ordinal) same =
    let m : MessageName = record { client = client; ordinal = ordinal } in
    ap (λ (r : Option Route). or_broke (λ route. let n = present view client route.hostgroup in of_due p moment view link ordinal n (Statement n)) r) (same.routes m (same_message m))
    ∙ broke_same _ _ (q.routes m) (λ route is. of_due_same p q moment view link ordinal (present view client route.hostgroup) (Statement (present view client route.hostgroup)) (same.own m (asked_itself m)))
begun_same setup p q moment view link begun (tag.Prep client ordinal) same =
    let m : MessageName = record { client = client; ordinal = ordinal } in
    ap (λ (r : Option Route). or_broke (λ route. let n = present view client route.hostgroup in of_due p moment view link ordinal n (λ due. Prep n due.key (setup.keys due.key).text)) r) (same.routes m (same_message m))
    ∙ broke_same _ _ (q.routes m) (λ route is. of_due_same p q moment view link ordinal (present view client route.hostgroup)
    (λ due. Prep (present view client route.hostgroup) due.key (setup.keys due.key).text) (same.own m (asked_itself m)))
begun_same setup p q moment view link begun (tag.Mirror client ordinal) same =
    let m : MessageName = record { client = client; ordinal = ordinal } in
    ap (λ (r : Option Route). or_broke (λ route. or_broke (λ hostgroup. copy_by p moment view link (present view (job_of m) hostgroup) (view.links link).carries) route.mirror) r) (same.routes m (same_message m))
    ∙ broke_same _ _ (q.routes m) (λ route is. copies_same p q moment view link (job_of m) route.mirror (same.own (record { client = job_of m; ordinal = 1 }) (asked_copy m)))
begun_same setup p q moment view link begun (tag.Sync client hostgroup) same = ap (λ step. stepped link (Sync (present view client hostgroup)) step) same.steps
begun_same setup p q moment view link begun (tag.End client hostgroup) same = refl
begun_same setup p q moment view link begun tag.Own same = ap (λ step. if quits_by step then [] else stepped link Own step) same.steps
begun_same setup p q moment view link begun tag.Reply same = refl

pub begun_on_same : (setup : Setup) (p q : Plan) (moment : ℕ) (view : View) (link : LinkId) (wire : Wire) (for : Tag) → SameAsked p q moment link wire.begun for
    → begun_on setup p moment view link wire for ≡ begun_on setup q moment view link wire for
begun_on_same setup p q moment view link wire for same =
    ap (λ step. if is_some_of wire.unread && not (quits_for for step) then Broke ∷ [] else begun_by setup p moment view link wire.begun for) same.steps
    ∙ ap (λ es. if is_some_of wire.unread && not (quits_for for (q.steps link wire.begun)) then Broke ∷ [] else es) (begun_same setup p q moment view link wire.begun for same)

pub begins_same : (setup : Setup) (p q : Plan) (link : LinkId) (for : Tag) (bytes : List ℕ) (wire : Wire) (tale : Tale) → SameAsked p q tale.moment link wire.begun for
    → begins setup p link for bytes wire tale ≡ begins setup q link for bytes wire tale
begins_same setup p q link for bytes wire tale same =
    let wire_by : StepText → Wire = λ step. record wire { written = bytes; step = step_for for step; begun = suc wire.begun; quits = wire.quits || quits_for for step } in
    ap (λ happens. tell_all happens (with_wire link (wire_by (p.steps link wire.begun)) tale)) (begun_on_same setup p q tale.moment (view_of setup tale) link wire for same)
    ∙ ap (λ step. tell_all (begun_on setup q tale.moment (view_of setup tale) link wire for) (with_wire link (wire_by step) tale)) same.steps

-- Clients are ended, by the entry.

if_kept : (b : Bool) (x y : Tale) (n : ℕ) → x.moment ≡ n → y.moment ≡ n → (if b then x else y).moment ≡ n
if_kept true x y n first second = first
if_kept false x y n first second = second

pub ends_same : (p q : Plan) (moment : ℕ) → ((c : ClientNo) → is_now moment (p.ends c) ≡ is_now moment (q.ends c)) → (xs : List Client) (tale : Tale)
    → tale.moment ≡ moment → fold (ended_if_now p) tale xs ≡ fold (ended_if_now q) tale xs
ends_same p q moment each [] tale now = refl
ends_same p q moment each (x ∷ xs) tale now =
    let here : is_now tale.moment (p.ends x.number) ≡ is_now tale.moment (q.ends x.number) =
    subst (λ k. is_now k (p.ends x.number) ≡ is_now k (q.ends x.number)) (sym now) (each x.number) in
    ap (λ b. fold (ended_if_now p) (if b then tell (Left x.number) tale else tale) xs) here
    ∙ ends_same p q moment each xs (ended_if_now q tale x) (if_kept (is_now tale.moment (q.ends x.number)) (tell (Left x.number) tale) tale moment now now)

pub ends_moment : (p : Plan) (xs : List Client) (tale : Tale) → (fold (ended_if_now p) tale xs).moment ≡ tale.moment
ends_moment p [] tale = refl
ends_moment p (x ∷ xs) tale =
    ends_moment p xs (ended_if_now p tale x) ∙ if_kept (is_now tale.moment (p.ends x.number)) (tell (Left x.number) tale) tale tale.moment refl refl

-- A link is given back, by whether what it was lent for is given up.

given_same : (p q : Plan) (moment : ℕ) (n : SessionName) (due : Option Due)
    → ((d : Due) → due ≡ Some d → own_at p moment (message_of n d) ≡ own_at q moment (message_of n d))
    → is_given_up p moment n due ≡ is_given_up q moment n due
given_same p q moment n None own = refl
given_same p q moment n (Some d) own = ap (λ (o : Option (List (List ℕ))). is_some o) (own d refl)

-- the answers of the router that are looked at
abbrev pub SameOwn : (p q : Plan) (moment : ℕ) (dues : SessionName → Option Due) → Carried → Type 0
SameOwn p q moment dues carries = (n : SessionName) (d : Due) → carries ≡ Lent n → dues n ≡ Some d → own_at p moment (message_of n d) ≡ own_at q moment (message_of n d)

done_same : (p q : Plan) (moment : ℕ) (view : View) (carries : Carried) → SameOwn p q moment view.dues carries
    → is_done_by p moment view carries ≡ is_done_by q moment view carries
done_same p q moment view Nobody own = refl
done_same p q moment view (Lent n) own =
    ap (λ g. not (needs_reset (view.held n).pin) && ((is_settled (view.held n) && g) || is_left view n))
    (given_same p q moment n (view.dues n) (λ d is. own n d refl is))
done_same p q moment view (Joined n) own = refl

pub freed_same : (setup : Setup) (p q : Plan) (tale : Tale) (link : LinkId)
    → SameOwn p q tale.moment (view_of setup tale).dues (link_in setup tale link).carries → freed_if_done setup p tale link ≡ freed_if_done setup q tale link
freed_same setup p q tale link own =
    let there = link_in setup tale link in
    ap (λ b. if there.usable && (is_quiet there.stage && (not (is_reset_step (tale.wires link).step) && b)) then tell (Freed link) tale else tale)
    (done_same p q tale.moment (view_of setup tale) there.carries own)

pub freed_moment : (setup : Setup) (p : Plan) (tale : Tale) (link : LinkId) → (freed_if_done setup p tale link).moment ≡ tale.moment
freed_moment setup p tale link =
    if_kept (is_done p tale.moment (view_of setup tale) (tale.wires link) (link_in setup tale link)) (tell (Freed link) tale) tale tale.moment refl refl

-- What an entry that is told leaves: what doesn't look at the story, at clients and at what passes on links.

module _ {A : Type 0} (of : Tale → A) (tells : (story : Story) (t : Tale) → of (record t { story = story }) ≡ of t)
    (wires : (link : LinkId) (wire : Wire) (t : Tale) → of (with_wire link wire t) ≡ of t) (seats : (clients : List Client) (t : Tale) → of (record t { clients = clients }) ≡ of t) where
  either_of : (b : Bool) (x y : Tale) (a : A) → of x ≡ a → of y ≡ a → of (if b then x else y) ≡ a
  either_of true x y a first second = first
  either_of false x y a first second = second

  entered_of : (p : Plan) (link : LinkId) (wire : Wire) (at : Opening) (tale : Tale) → of (entered_by p link wire at tale) ≡ of tale
  entered_of p link wire (LogsIn said rest) tale =
      tells _ (with_wire link (record wire { entered = true; unread = rest; written = [] }) tale) ∙ wires link (record wire { entered = true; unread = rest; written = [] }) tale
  entered_of p link wire (Goes said) tale = wires link wire tale
  entered_of p link wire (Fails said fault) tale = wires link wire tale

  reset_of : (link : LinkId) (wire : Wire) (ending : Ending) (tale : Tale) → of (reset_by link wire ending tale) ≡ of tale
  reset_of link wire (Ended end rest) tale = wires link (record wire { unread = rest; written = []; step = None }) tale
  reset_of link wire (Going state) tale = wires link wire tale
  reset_of link wire (Failed rest) tale = wires link wire tale

  heard_of : (link : LinkId) (question : Question) (wire : Wire) (ending : Ending) (tale : Tale) → of (heard_by link question wire ending tale) ≡ of tale
  heard_of link question wire (Ended end rest) tale =
      tells _ (with_wire link (record wire { unread = rest; written = [] }) tale) ∙ wires link (record wire { unread = rest; written = [] }) tale
  heard_of link question wire (Going state) tale = wires link wire tale
  heard_of link question wire (Failed rest) tale = wires link wire tale

  hears_of : (link : LinkId) (wire : Wire) (stage : Stage) (tale : Tale) → of (hears link wire stage tale) ≡ of tale
  hears_of link wire Quiet tale = wires link wire tale
  hears_of link wire (Asked question) tale = wires link wire tale
  hears_of link wire (Answered question) tale = heard_of link question wire (read_as (kind_by (command_of question)) wire) tale

  runs_of : (stage : Stage) (link : LinkId) (tale : Tale) → of (runs_first stage link tale) ≡ of tale
  runs_of Quiet link tale = refl
  runs_of (Asked question) link tale = tells _ tale
  runs_of (Answered question) link tale = refl

  reads_of : (setup : Setup) (link : LinkId) (wire : Wire) (tale : Tale) → of (reads_on setup link wire tale) ≡ of tale
  reads_of setup link wire tale =
      hears_of link wire (link_in setup (with_run setup link tale) link).stage (with_run setup link tale) ∙ runs_of (link_in setup tale link).stage link tale

  says_of : (setup : Setup) (p : Plan) (link : LinkId) (bytes : List ℕ) (tale : Tale) → of (server_says setup p link bytes tale) ≡ of tale
  says_of setup p link bytes tale =
      let wire : Wire = wire_with tale link bytes in
      either_of (not (tale.wires link).entered) _ _ (of tale) (entered_of p link wire (opening (p.logins link) wire.unread) tale)
      (either_of (is_reset_step (tale.wires link).step) _ _ (of tale) (reset_of link wire (read_as kind.Command wire) tale) (reads_of setup link wire tale))

  writes_of : (setup : Setup) (p : Plan) (link : LinkId) (for : Tag) (bytes : List ℕ) (wire : Wire) (tale : Tale) → of (writes setup p link for bytes wire tale) ≡ of tale
  writes_of setup p link for bytes wire tale =
      let step = p.steps link wire.begun in
      let begun : Wire = record wire { written = bytes; step = step_for for step; begun = suc wire.begun; quits = wire.quits || quits_for for step } in
      either_of (may_begin setup link wire tale) _ _ (of tale) (tells _ (with_wire link begun tale) ∙ wires link begun tale) (wires link (record wire { written = wire.written ++ bytes }) tale)

  leaves_of : (link : LinkId) (xs : List Client) (tale : Tale) → of (fold (client_leaves link) tale xs) ≡ of tale
  leaves_of link [] tale = refl
  leaves_of link (x ∷ xs) tale =
      leaves_of link xs (client_leaves link tale x) ∙ either_of (is_link_id x.link link) (tell (Left x.number) tale) tale (of tale) (tells _ tale) refl

  lost_of : (link : LinkId) (tale : Tale) → of (is_lost_or_left link tale) ≡ of tale
  lost_of link tale = either_of (is_to_server tale link) _ _ (of tale) (tells _ tale) (leaves_of link tale.clients tale)

  pub told_of : (setup : Setup) (p : Plan) (tale : Tale) (e : Entry) → ((link : LinkId) → opened_link e ≡ Some link → of (record tale { links = tale.links ++ link ∷ [] }) ≡ of tale) → of (told setup p tale e) ≡ of tale
  told_of setup p tale (entry.Accepted port link salt) opens = seats _ tale
  told_of setup p tale (entry.Opened server address link) opens =
      wires link (new_wire server) (record tale { links = tale.links ++ link ∷ [] }) ∙ opens link refl
  told_of setup p tale (entry.Got link bytes) opens = either_of (is_to_server tale link) _ _ (of tale) (says_of setup p link bytes tale) (seats _ tale)
  told_of setup p tale (entry.Wrote link for bytes) opens =
      either_of (is_to_server tale link) _ _ (of tale) (writes_of setup p link for bytes (tale.wires link) tale) (seats _ tale)
  told_of setup p tale (entry.Exec link) opens = either_of (tale.wires link).entered _ _ (of tale) (tells _ tale) refl
  told_of setup p tale (entry.Drop link) opens = tells _ tale
  told_of setup p tale (entry.Ended link) opens = lost_of link tale
  told_of setup p tale (entry.ReadFailed link) opens = lost_of link tale
  told_of setup p tale (entry.WriteFailed link) opens = lost_of link tale
  told_of setup p tale (entry.Closed link) opens = lost_of link tale
  told_of setup p tale _ opens = refl

pub told_moment : (setup : Setup) (p : Plan) (tale : Tale) (e : Entry) → (told setup p tale e).moment ≡ tale.moment
told_moment setup p tale e =
    told_of (λ (t : Tale). t.moment) (λ story t. refl) (λ link wire t. refl) (λ clients t. refl) setup p tale e (λ link is. refl)
