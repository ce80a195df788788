-- A row stands for its link in a tale as a link opens, and as what isn't read or written there happens.
use Rattle.std.specs.Prelude.{◌≡◌, ℕ, suc, Bool, true, false, if◌then◌else◌, List, [], Option, Some, None}
use Rattle.std.proofs.Common.{refl, sym, ap, ◌∙◌, subst, inl, inr, arith}
use Rattle.std.proofs.lemmas.Bool.{false≢true, true≢false}
use Rattle.std.proofs.lemmas.Option.{none-some}
use Rattle.mx_base.specs.declared.names.Address.{Address}
use Rattle.mx_wire.specs.declared.entry.Entry.TheVariants.{Opened}
use Rattle.packet_frame.specs.Laws.{first_message-empty}
use Rattle.private_model.proofs.Maps.{same_link, same_number}
use Rattle.server_rule.specs.Classes.{Reads}
use Rattle.server_side.specs.Account.{Account as Login}
use Rattle.server_side.specs.Laws.{opening-new}
use Rattle.server_side.specs.Login.{Goes, greeting_by, most_payload, opening}
use Rattle.private_model.specs.Names.{ClientNo, LinkId, ServerId, SessionName}
use Rattle.private_model.specs.Story.{Freed, Gone, Left, Ran, command_of, is_client, is_link_id, put}
use Rattle.private_model.specs.View as view
use Rattle.private_model.specs.View.{Link, Setup, View, no_link, ran_by, view_step}
use Rattle.log_story.specs.Honest.{number_for}
use Rattle.log_story.specs.Plan.{Plan}
use Rattle.log_story.specs.Tale.{Tale, Wire, new_wire, tell, view_of}
use Rattle.log_story.specs.Telling.{told}
use Rattle.link_state.specs.Dones.{is_quiet}
use Rattle.link_state.specs.declared.state.Carried.{Carried}
use Rattle.link_state.specs.declared.state.Carried.TheVariants.{Nobody, Lent, Joined}
use Rattle.link_state.specs.States.{ran}
use Rattle.link_state.specs.declared.state.LinkState.{LinkState}
use Rattle.link_state.specs.declared.state.Stage.{Stage}
use Rattle.link_state.specs.declared.state.Stage.TheVariants.{Quiet, Asked, Answered}
use Rattle.link_state.specs.declared.writing.Writing.{Writing}
use Rattle.link_laws.specs.Stands.{Codes, IsLink}
use Rattle.lent_link.specs.declared.link.Begins.{Begins}
use Rattle.lent_link.specs.declared.link.LentLink.{LentLink}
use Rattle.lent_link.specs.declared.link.Step.{Step}
use Rattle.lent_link.specs.declared.link.Step.TheVariants.{Other, Closes, Resets}
use Rattle.served_link.specs.Rows.{freed, left_by, lost, new_row}
use Rattle.served_link.specs.declared.row.LeftSession.{LeftSession}
use Rattle.served_link.specs.declared.row.Opening.{Opening}
use Rattle.served_link.specs.declared.row.Row.{Row}
use Rattle.row_laws.specs.Rows.{Enters, IsRow, IsRowBy, IsRowIn, IsSeen, Serves, is_failed}
use Rattle.row_laws.specs.Whose.{IsHolder, IsKept, IsLeft, IsOwn, IsUntouched, IsWhose, name_in}
use Rattle.row_laws.specs.Written.{IsSpelt, IsWritten, IsWrittenBy, spelt_as}
use Rattle.row_laws.proofs.Expecting.{keeps}
use Rattle.row_laws.proofs.Framing.{same_parts, whose_on}
use Rattle.row_laws.proofs.Hearing.{quiet_is}
use Rattle.row_laws.proofs.Seeing.{is_link}

pub put_there : {A : Type 0} (f : LinkId → A) (l : LinkId) (x : A) → put is_link_id f l x l ≡ x
put_there f l x = ap (λ (same : Bool). if same then x else f l) (same_link l)

-- by parts

pub row_by : (reads : Reads) (codes : Codes) (login : Login) (seen : View) (row : Row) (wire : Wire) (link : Link) → wire.entered ≡ true
    → wire.server ≡ row.link.server → Serves reads codes login seen row wire link → IsRow reads codes login seen row wire link
row_by reads codes login seen row wire link entered server is =
    record { server = server; is = subst (λ (there : Bool). IsRowBy there reads codes login seen row wire link) (sym entered) is }

pub entering_by : (reads : Reads) (codes : Codes) (login : Login) (seen : View) (row : Row) (wire : Wire) (link : Link) → wire.entered ≡ false
    → wire.server ≡ row.link.server → Enters login row wire link → IsRow reads codes login seen row wire link
entering_by reads codes login seen row wire link entered server is =
    record { server = server; is = subst (λ (there : Bool). IsRowBy there reads codes login seen row wire link) (sym entered) is }

pub serves_in : (reads : Reads) (codes : Codes) (login : Login) (seen : View) (row : Row) (wire : Wire) (link : Link) → wire.entered ≡ true
    → IsRow reads codes login seen row wire link → Serves reads codes login seen row wire link
serves_in reads codes login seen row wire link entered is = subst (λ (there : Bool). IsRowBy there reads codes login seen row wire link) entered is.is

pub enters_in : (reads : Reads) (codes : Codes) (login : Login) (seen : View) (row : Row) (wire : Wire) (link : Link) → wire.entered ≡ false
    → IsRow reads codes login seen row wire link → Enters login row wire link
enters_in reads codes login seen row wire link entered is = subst (λ (there : Bool). IsRowBy there reads codes login seen row wire link) entered is.is

same_some : (a b : SessionName) → Some a ≡ Some b → a ≡ b
same_some a b same = cc

-- A link opens.

opening_none : (login : Login) → opening login [] ≡ Goes []
unfolding opening
opening_none login = ap (greeting_by login) (first_message-empty most_payload 0)

open_so : (login : Login) (at : Opening) (now : ℕ) → Enters login (new_row at login now) (new_wire at.server) no_link
open_so login at now = record {
  entered = refl;
  stays = refl;
  stepless = refl;
  unborn = refl;
  outside = refl;
  state = refl;
  step = refl;
  told = refl;
  next = refl;
  writing = refl;
  reading = refl;
  left = refl;
  failed = ap is_failed (opening_none login);
  going = λ fine. record { account = refl; login_so = opening-new login; goes = opening_none login };
}

pub opened_so : (setup : Setup) (codes : Codes) (plan : Plan) (tale : Tale) (server : ServerId) (address : Address) (l : LinkId) (at : Opening) (now : ℕ)
    → (view_of setup tale).links l ≡ no_link → at.server ≡ server
    → IsRowIn setup codes plan (told setup plan tale (Opened server address l)) l (new_row at (plan.logins l) now)
opened_so setup codes plan tale server address l at now unborn same =
    subst (λ (wire : Wire). IsRow setup.reads codes (plan.logins l) (view_of setup tale) (new_row at (plan.logins l) now) wire ((view_of setup tale).links l))
    (ap new_wire same ∙ sym (put_there tale.wires l (new_wire server)))
    (subst (λ (link : Link). IsRow setup.reads codes (plan.logins l) (view_of setup tale) (new_row at (plan.logins l) now) (new_wire at.server) link) (sym unborn)
    (record { server = refl; is = open_so (plan.logins l) at now }))

-- What happens elsewhere.

pub serves_on : (reads : Reads) (codes : Codes) (login : Login) (seen new : View) (row : Row) (wire : Wire) (link : Link)
    → ((n : SessionName) → name_in row.link.state.carries ≡ Some n → IsUntouched seen new n row.left) → Serves reads codes login seen row wire link
    → Serves reads codes login new row wire link
serves_on reads codes login seen new row wire link untouched is = record {
  entered = is.entered;
  inside = is.inside;
  account = is.account;
  server = is.server;
  usable = is.usable;
  state = is.state;
  quits = is.quits;
  step = is.step;
  stepless = is.stepless;
  written = is.written;
  bad = is.bad;
  well = is.well;
  unread = is.unread;
  cell = is.cell;
  whose = λ here. whose_on seen new row.link.state.carries row.left untouched (is.whose here);
  own = is.own;
  shared = is.shared;
}

row_on : (entered : Bool) (reads : Reads) (codes : Codes) (login : Login) (seen new : View) (row : Row) (wire : Wire) (link : Link)
    → ((n : SessionName) → name_in row.link.state.carries ≡ Some n → IsUntouched seen new n row.left) → IsRowBy entered reads codes login seen row wire link
    → IsRowBy entered reads codes login new row wire link
row_on true reads codes login seen new row wire link untouched is = serves_on reads codes login seen new row wire link untouched is
row_on false reads codes login seen new row wire link untouched is = is

pub stays_so : (setup : Setup) (codes : Codes) (plan : Plan) (old new : Tale) (l : LinkId) (row : Row) → IsRowIn setup codes plan old l row
    → new.wires l ≡ old.wires l → (view_of setup new).links l ≡ (view_of setup old).links l
    → ((n : SessionName) → name_in row.link.state.carries ≡ Some n → IsUntouched (view_of setup old) (view_of setup new) n row.left)
    → IsRowIn setup codes plan new l row
stays_so setup codes plan old new l row is wires links untouched =
    subst (λ (wire : Wire). IsRow setup.reads codes (plan.logins l) (view_of setup new) row wire ((view_of setup new).links l)) (sym wires)
    (subst (λ (link : Link). IsRow setup.reads codes (plan.logins l) (view_of setup new) row (old.wires l) link) (sym links)
    (record {
      server = is.server;
      is = row_on (old.wires l).entered setup.reads codes (plan.logins l) (view_of setup old) (view_of setup new) row (old.wires l) ((view_of setup old).links l)
          untouched is.is;
    }))

-- It runs unseen.

ran_unborn : (reads : Reads) → ran_by reads no_link.stage no_link ≡ no_link
ran_unborn reads = refl

run_by : (entered : Bool) (reads : Reads) (codes : Codes) (login : Login) (seen : View) (row : Row) (wire : Wire) (link : Link)
    → IsRowBy entered reads codes login seen row wire link → IsRowBy entered reads codes login seen row wire (ran_by reads link.stage link)
run_by true reads codes login seen row wire link is = keeps reads codes login seen row wire link is
run_by false reads codes login seen row wire link is = record {
  entered = is.entered;
  stays = is.stays;
  stepless = is.stepless;
  unborn = ap (λ (there : Link). ran_by reads there.stage there) is.unborn;
  outside = is.outside;
  state = is.state;
  step = is.step;
  told = is.told;
  next = is.next;
  writing = is.writing;
  reading = is.reading;
  left = is.left;
  failed = is.failed;
  going = is.going;
}

pub ran_so : (setup : Setup) (codes : Codes) (plan : Plan) (tale : Tale) (l : LinkId) (row : Row) → IsRowIn setup codes plan tale l row
    → IsRowIn setup codes plan (tell (Ran l) tale) l row
ran_so setup codes plan tale l row is =
    let seen : View = view_of setup tale in
    subst (λ (link : Link). IsRow setup.reads codes (plan.logins l) (view_step setup seen (Ran l)) row (tale.wires l) link)
    (sym (put_there seen.links l (ran_by setup.reads (seen.links l).stage (seen.links l))))
    (record {
      server = is.server;
      is = row_on (tale.wires l).entered setup.reads codes (plan.logins l) seen (view_step setup seen (Ran l)) row (tale.wires l)
          (ran_by setup.reads (seen.links l).stage (seen.links l)) (λ n carried. same_parts seen (view_step setup seen (Ran l)) n row.left refl refl refl refl)
          (run_by (tale.wires l).entered setup.reads codes (plan.logins l) seen row (tale.wires l) (seen.links l) is.is);
    })

-- What is written is as before where what stands on the link is, and what is prepared there.

spelt_with : (there : view.Stage) (step : Step) (quits : Bool) (old new : Link) (said : List ℕ) → new.live ≡ old.live → IsSpelt there step quits old said
    → IsSpelt there step quits new said
spelt_with (view.Asked question) step false old new said live is = is ∙ ap (λ (of : ℕ → Option ℕ). spelt_as (command_of question) (number_for question of)) (sym live)
spelt_with (view.Answered question) step false old new said live is = is ∙ ap (λ (of : ℕ → Option ℕ). spelt_as (command_of question) (number_for question of)) (sym live)
spelt_with view.Quiet (Closes number) false old new said live is = is
spelt_with view.Quiet (Resets number) false old new said live is = is
spelt_with view.Quiet Other true old new said live is = is
spelt_with _ _ _ old new said live is = absurd is

written_with : (row : LentLink) (wire : Wire) (old new : Link) → new.stage ≡ old.stage → new.live ≡ old.live → IsWritten row wire old → IsWritten row wire new
written_with row wire old new stage live is = by row.next row.writing is where
  by : (next : Option Begins) (writing : Option Writing) → IsWrittenBy next writing row.state.stage row.step row.quits wire.step wire.written old
      → IsWrittenBy next writing row.state.stage row.step row.quits wire.step wire.written new
  by None None is = is
  by None (Some w) is = record {
    some = is.some;
    within = is.within;
    spelt_so = subst (λ (there : view.Stage). IsSpelt there row.step row.quits new w.bytes) (sym stage)
        (spelt_with old.stage row.step row.quits old new w.bytes live is.spelt_so);
    front = is.front;
  }
  by (Some next) writing is = is

-- It is given back.

freed_parts : (reads : Reads) (codes : Codes) (login : Login) (seen new : View) (row : Row) (wire : Wire) (link : Link) → is_quiet row.link.state.stage ≡ true
    → Serves reads codes login seen row wire link → Serves reads codes login new (freed row) wire (view.freed link)
freed_parts reads codes login seen new row wire link quiet is =
    let stands : IsLink reads codes row.link.state link =
    is_link reads codes row.link.state link Quiet (quiet_is row.link.state.stage quiet) refl is.state in
    record {
      entered = is.entered;
      inside = is.inside;
      account = is.account;
      server = is.server;
      usable = is.usable;
      state = inl (record {
        told = stands.told;
        id = stands.id;
        live = stands.live;
        once = stands.once;
        carries = refl;
        marked = refl;
        stage = stands.stage;
      });
      quits = is.quits;
      step = is.step;
      stepless = is.stepless;
      written = written_with row.link wire link (view.freed link) refl refl is.written;
      bad = is.bad;
      well = is.well;
      unread = is.unread;
      cell = is.cell;
      whose = λ here. refl;
      own = quiet_own row.link.state.stage quiet;
      shared = is.shared;
    } where
      quiet_own : (stage : Stage) → is_quiet stage ≡ true → IsOwn stage Nobody
      quiet_own Quiet quiet = tt
      quiet_own (Asked asking) quiet = absurd (false≢true quiet)
      quiet_own (Answered asking) quiet = absurd (false≢true quiet)

pub freed_so : (setup : Setup) (codes : Codes) (plan : Plan) (tale : Tale) (l : LinkId) (row : Row) → (tale.wires l).entered ≡ true
    → is_quiet row.link.state.stage ≡ true → IsRowIn setup codes plan tale l row → IsRowIn setup codes plan (tell (Freed l) tale) l (freed row)
freed_so setup codes plan tale l row entered quiet is =
    let seen : View = view_of setup tale in
    subst (λ (link : Link). IsRow setup.reads codes (plan.logins l) (view_step setup seen (Freed l)) (freed row) (tale.wires l) link)
    (sym (put_there seen.links l (view.freed (seen.links l))))
    (row_by setup.reads codes (plan.logins l) (view_step setup seen (Freed l)) (freed row) (tale.wires l) (view.freed (seen.links l)) entered is.server
    (freed_parts setup.reads codes (plan.logins l) seen (view_step setup seen (Freed l)) row (tale.wires l) (seen.links l) quiet
    (serves_in setup.reads codes (plan.logins l) seen row (tale.wires l) (seen.links l) entered is)))

-- It is lost, or closed.

abbrev unusable : Link → Link
unusable link = record link { usable = false }

lost_by : (entered : Bool) (reads : Reads) (codes : Codes) (login : Login) (seen new : View) (row : Row) (wire : Wire) (link : Link)
    → IsRowBy entered reads codes login seen row wire link → IsRowBy entered reads codes login new (lost row) wire (unusable link)
lost_by true reads codes login seen new row wire link is = record {
  entered = is.entered;
  inside = is.inside;
  account = is.account;
  server = is.server;
  usable = refl;
  state = seen_unusable is.state;
  quits = is.quits;
  step = is.step;
  stepless = is.stepless;
  written = written_with row.link wire link (unusable link) refl refl is.written;
  bad = is.bad;
  well = is.well;
  unread = is.unread;
  cell = is.cell;
  whose = λ here. absurd (true≢false here);
  own = is.own;
  shared = is.shared;
} where
  stands_unusable : (state : LinkState) → IsLink reads codes state link → IsLink reads codes state (unusable link)
  stands_unusable state stands = record {
    told = stands.told;
    id = stands.id;
    live = stands.live;
    once = stands.once;
    carries = stands.carries;
    marked = stands.marked;
    stage = stands.stage;
  }

  seen_unusable : IsSeen reads codes row.link.state link → IsSeen reads codes row.link.state (unusable link)
  seen_unusable (inl stands) = inl (stands_unusable row.link.state stands)
  seen_unusable (inr stands) = inr (stands_unusable (ran row.link.state) stands)
lost_by false reads codes login seen new row wire link is = record {
  entered = is.entered;
  stays = is.stays;
  stepless = is.stepless;
  unborn = ap unusable is.unborn;
  outside = is.outside;
  state = is.state;
  step = is.step;
  told = is.told;
  next = is.next;
  writing = is.writing;
  reading = is.reading;
  left = is.left;
  failed = is.failed;
  going = is.going;
}

pub lost_so : (setup : Setup) (codes : Codes) (plan : Plan) (tale : Tale) (l : LinkId) (row : Row) → IsRowIn setup codes plan tale l row
    → IsRowIn setup codes plan (tell (Gone l) tale) l (lost row)
lost_so setup codes plan tale l row is =
    let seen : View = view_of setup tale in
    subst (λ (link : Link). IsRow setup.reads codes (plan.logins l) (view_step setup seen (Gone l)) (lost row) (tale.wires l) link)
    (sym (put_there seen.links l (unusable (seen.links l))))
    (record {
      server = is.server;
      is = lost_by (tale.wires l).entered setup.reads codes (plan.logins l) seen (view_step setup seen (Gone l)) row (tale.wires l) (seen.links l) is.is;
    })

-- Its client leaves the session that it carries.

left_there : (setup : Setup) (seen : View) (client : ClientNo) (n : SessionName) (left : LeftSession) → n.client ≡ client
    → n.life ≡ seen.lives n.client n.hostgroup → IsKept seen n left → IsLeft (view_step setup seen (Left client)) n left
left_there setup seen client n left same present kept =
    let more : (view_step setup seen (Left client)).lives n.client n.hostgroup ≡ suc (seen.lives n.client n.hostgroup) =
    ap (λ (is : Bool). if is then suc (seen.lives n.client n.hostgroup) else seen.lives n.client n.hostgroup)
    (ap (λ (c : ClientNo). is_client n.client c) (sym same) ∙ same_number n.client.0) in
    record { earlier = omega (arith, more, present); pin = kept.pin; id = kept.id; lasting = kept.lasting }

left_whose : (setup : Setup) (seen : View) (client : ClientNo) (carries : Carried) (was : Option LeftSession) (left : LeftSession) (n : SessionName)
    → name_in carries ≡ Some n → n.client ≡ client → was ≡ None → IsKept seen n left → IsWhose seen carries was
    → IsWhose (view_step setup seen (Left client)) carries (Some left)
left_whose setup seen client Nobody was left n named same none kept is = absurd (none-some n named)
left_whose setup seen client (Lent m) was left n named same none kept is =
    subst (λ (name : SessionName). IsLeft (view_step setup seen (Left client)) name left) (sym (same_some m n named))
    (left_there setup seen client n left same
    (subst (λ (name : SessionName). IsHolder seen name None) (same_some m n named) (subst (λ (l : Option LeftSession). IsHolder seen m l) none is)) kept)
left_whose setup seen client (Joined m) was left n named same none kept is =
    subst (λ (name : SessionName). IsLeft (view_step setup seen (Left client)) name left) (sym (same_some m n named))
    (left_there setup seen client n left same
    (subst (λ (name : SessionName). IsHolder seen name None) (same_some m n named) (subst (λ (l : Option LeftSession). IsHolder seen m l) none is)) kept)

pub left_so : (setup : Setup) (codes : Codes) (plan : Plan) (tale : Tale) (l : LinkId) (row : Row) (client : ClientNo) (n : SessionName) (left : LeftSession)
    → (tale.wires l).entered ≡ true → name_in row.link.state.carries ≡ Some n → n.client ≡ client → row.left ≡ None → IsKept (view_of setup tale) n left
    → IsRowIn setup codes plan tale l row → IsRowIn setup codes plan (tell (Left client) tale) l (left_by left row)
left_so setup codes plan tale l row client n left entered named same none kept row_is =
    let seen : View = view_of setup tale in
    let is = serves_in setup.reads codes (plan.logins l) seen row (tale.wires l) (seen.links l) entered row_is in
    row_by setup.reads codes (plan.logins l) (view_step setup seen (Left client)) (left_by left row) (tale.wires l) (seen.links l) entered row_is.server (record {
      entered = is.entered;
      inside = is.inside;
      account = is.account;
      server = is.server;
      usable = is.usable;
      state = is.state;
      quits = is.quits;
      step = is.step;
      stepless = is.stepless;
      written = is.written;
      bad = is.bad;
      well = is.well;
      unread = is.unread;
      cell = is.cell;
      whose = λ here. left_whose setup seen client row.link.state.carries row.left left n named same none kept (is.whose here);
      own = is.own;
      shared = is.shared;
    })
