-- A row stands for its link as bytes are read in its login.
use Rattle.std.specs.Prelude.{◌≡◌, ℕ, Bool, true, false, not, ◌||◌, nat_eq, if◌then◌else◌, ◌++◌, List, [], ◌∷◌, length, None}
use Rattle.std.proofs.Common.{refl, sym, ap, ◌∙◌, subst, inl, arith}
use Rattle.std.proofs.lemmas.Bool.{false≢true, true≢false}
use Rattle.std.proofs.lemmas.List.{append-nil}
use Rattle.reply_track.specs.declared.reply.ReplyKind.TheVariants as kinds
use Rattle.server_rule.specs.Classes.{Reads}
use Rattle.server_side.specs.Account.{Account as Login}
use Rattle.server_side.specs.Backend.{BackendState}
use Rattle.server_side.specs.Hearing.{Fails as GotFails, Got, Hears, entered_of}
use Rattle.server_side.specs.Laws.{opening-entered}
use Rattle.server_side.specs.Login.{Fails, Goes, LogsIn, Opening, opening}
use Rattle.server_side.specs.Reading.{EntersBy as Tells, FailsBy, IsLoggingIn, IsOpening}
use Rattle.server_side.specs.declared.fault.BackendFault.{BackendFault}
use Rattle.server_side.specs.declared.hear.Heard.TheVariants as said
use Rattle.server_side.specs.declared.stage.Stage.{Stage}
use Rattle.server_side.specs.declared.stage.Stage.TheVariants as stages
use Rattle.private_model.specs.Names.{LinkId}
use Rattle.private_model.specs.Story as story
use Rattle.private_model.specs.Story.{Happening}
use Rattle.private_model.specs.View.{Link, Setup, View, new_link, view_step}
use Rattle.log_story.specs.Plan.{Plan}
use Rattle.log_story.specs.Servers.{entered_by, logged_in_as, read_as, reads_on, reset_by}
use Rattle.log_story.specs.Tale.{Tale, Wire, is_reset_step, view_of, with_wire}
use Rattle.log_story.specs.Telling.{server_says, wire_with}
use Rattle.link_state.specs.States.{fresh}
use Rattle.link_laws.specs.Stands.{Codes}
use Rattle.link_laws.proofs.Keeps.{new_so}
use Rattle.lent_link.specs.Hears.{entered_as}
use Rattle.lent_link.specs.Links.{is_in}
use Rattle.lent_link.specs.declared.link.LentLink.{LentLink}
use Rattle.lent_link.specs.declared.link.Step.TheVariants.{Other}
use Rattle.served_link.specs.Reads.{EntersBy}
use Rattle.served_link.specs.declared.news.News.{News}
use Rattle.served_link.specs.declared.row.Row.{Row}
use Rattle.row_laws.specs.Rows.{Enters, IsLogin, IsRow, IsRowIn, IsServing, Part, Serves, is_failed, part_of}
use Rattle.row_laws.specs.Unread.{has_bytes}
use Rattle.row_laws.proofs.Opening.{entering_by, enters_in, put_there}
use Rattle.row_laws.proofs.Splitting.{none_whole}

-- no login that isn't through is one that is
outside_by : (stage : Stage) (login : BackendState) (read written : List ℕ) → IsOpening stage login read written → is_in stage ≡ false
outside_by stages.Greeting login read written is = refl
outside_by stages.Welcome login read written is = refl
outside_by stages.Switched login read written is = refl
outside_by stages.In login read written is = absurd is
outside_by stages.Lost login read written is = absurd is

-- bytes behind the login spoil the link
behind_same : (rest : List ℕ) → has_bytes rest ≡ not (nat_eq (length rest) 0)
behind_same [] = refl
behind_same (byte ∷ rest) = grind arith

none_behind : (rest : List ℕ) → not (nat_eq (length rest) 0) ≡ false → rest ≡ []
none_behind [] fine = refl
none_behind (byte ∷ rest) fine = absurd (true≢false (behind_same (byte ∷ rest) ∙ fine))

-- The login goes on.

goes_on : (account : Login) (row : Row) (wire : Wire) (link : Link) (bytes : List ℕ) (left : BackendState) → Enters account row wire link
    → row.link.spoilt ≡ false → row.link.login.account ≡ account → IsLoggingIn left (wire.unread ++ bytes) (wire.written ++ left.own)
    → left.account ≡ row.link.login.account → opening row.link.login.account (wire.unread ++ bytes) ≡ Goes (wire.written ++ left.own)
    → Enters account (record row { link = record row.link { login = left } }) (record wire { unread = wire.unread ++ bytes }) link
goes_on account row wire link bytes left is fine of logging same goes =
    let told : opening account (wire.unread ++ bytes) ≡ Goes (wire.written ++ left.own) =
    ap (λ (who : Login). opening who (wire.unread ++ bytes)) (sym of) ∙ goes in
    record {
      entered = is.entered;
      stays = is.stays;
      stepless = is.stepless;
      unborn = is.unborn;
      outside = outside_by left.stage left (wire.unread ++ bytes) (wire.written ++ left.own) logging.is;
      state = is.state;
      step = is.step;
      told = is.told;
      next = is.next;
      writing = is.writing;
      reading = is.reading;
      left = is.left;
      failed = ap is_failed told ∙ sym fine;
      going = λ still. record { account = same ∙ of; login_so = logging; goes = told };
    }

-- It fails.

fails_so : (account : Login) (row : Row) (wire : Wire) (link : Link) (bytes : List ℕ) (left : BackendState) → Enters account row wire link
    → left.stage ≡ stages.Lost → is_failed (opening account (wire.unread ++ bytes)) ≡ true
    → Enters account (record row { link = record row.link { login = left; spoilt = true } }) (record wire { unread = wire.unread ++ bytes }) link
fails_so account row wire link bytes left is over failed = record {
  entered = is.entered;
  stays = is.stays;
  stepless = is.stepless;
  unborn = is.unborn;
  outside = ap is_in over;
  state = is.state;
  step = is.step;
  told = is.told;
  next = is.next;
  writing = is.writing;
  reading = is.reading;
  left = is.left;
  failed = failed;
  going = λ still. absurd (true≢false still);
}

-- It is through.

-- as it stands then
abbrev entered_link : (link : LentLink) (left : BackendState) → LentLink
entered_link link left = record link {
  login = left;
  spoilt = not (nat_eq (length left.framer.kept) 0);
  state = fresh;
  step = Other;
  quits = false;
  next = None;
  writing = None;
  reading = None;
}

entered_so : (reads : Reads) (codes : Codes) (account : Login) (seen : View) (row : Part) (wire : Wire) (left : BackendState) → left.stage ≡ stages.In
    → IsServing reads codes account seen (record row { link = entered_link row.link left; lost = false; left = None })
    (record wire { entered = true; unread = left.framer.kept; written = []; step = None; quits = false }) (new_link wire.server (logged_in_as account))
entered_so reads codes account seen row wire left inside = record {
  entered = refl;
  inside = inside;
  account = refl;
  server = refl;
  usable = refl;
  state = inl (new_so reads codes wire.server (logged_in_as account));
  quits = refl;
  step = tt;
  stepless = λ other. absurd (true≢false other);
  written = record { quiet = refl; answered = refl; stays = refl; is_step = tt; whole = none_whole; nothing = refl };
  bad = behind_same left.framer.kept;
  well = λ asked. absurd (false≢true asked);
  unread = λ fine. record { none = none_behind left.framer.kept fine; unanswered = refl };
  cell = λ fine. tt;
  whose = λ here. refl;
  own = tt;
  shared = tt;
}

enters_so : (reads : Reads) (codes : Codes) (account : Login) (seen : View) (row : Row) (wire : Wire) (link : Link) (left : BackendState)
    → Enters account row wire link → row.link.spoilt ≡ false → row.lost ≡ false → left.stage ≡ stages.In
    → Serves reads codes account seen (record row { link = entered_as said.LoggedIn left row.link })
    (record wire { entered = true; unread = left.framer.kept; written = [] }) (new_link wire.server (logged_in_as account))
enters_so reads codes account seen row wire link left is fine here inside =
    let behind : Bool = not (nat_eq (length left.framer.kept) 0) in
    subst (λ (there : Part). IsServing reads codes account seen there
    (record wire { entered = true; unread = left.framer.kept; written = [] }) (new_link wire.server (logged_in_as account)))
    (λ i. record (part_of row) {
      link = record row.link {
        login = left;
        spoilt = sym fine i || behind;
        state = sym is.state i;
        step = sym is.step i;
        quits = sym is.told i;
        next = sym is.next i;
        writing = sym is.writing i;
        reading = sym is.reading i;
      };
      lost = sym here i;
      left = sym is.left i;
    })
    (subst (λ (there : Wire). IsServing reads codes account seen (record (part_of row) { link = entered_link row.link left; lost = false; left = None })
    there (new_link wire.server (logged_in_as account)))
    (λ i. record wire { entered = true; unread = left.framer.kept; written = []; step = sym is.stepless i; quits = sym is.stays i })
    (entered_so reads codes account seen (part_of row) wire left inside))

-- By what the piece tells.

module _ (setup : Setup) (codes : Codes) (plan : Plan) (tale : Tale) (l : LinkId) (row : Row) (bytes : List ℕ) (is : IsRowIn setup codes plan tale l row)
    (outside : (tale.wires l).entered ≡ false) (fine : row.link.spoilt ≡ false) (here : row.lost ≡ false) where
  abbrev wire : Wire
  wire = tale.wires l

  abbrev fed : Wire
  fed = wire_with tale l bytes

  enters : Enters (plan.logins l) row wire ((view_of setup tale).links l)
  enters = enters_in setup.reads codes (plan.logins l) (view_of setup tale) row wire ((view_of setup tale).links l) outside is

  going : IsLogin (plan.logins l) row.link wire
  going = enters.going fine

  abbrev Stands : Tale → Row → Type 0
  Stands new row = IsRowIn setup codes plan new l row

  -- nothing but what is unread changes
  stays : (new : Row) → fed.server ≡ new.link.server → Enters (plan.logins l) new fed ((view_of setup tale).links l) → Stands (with_wire l fed tale) new
  stays new server so =
      subst (λ (there : Wire). IsRow setup.reads codes (plan.logins l) (view_of setup tale) new there ((view_of setup tale).links l))
      (sym (put_there tale.wires l fed))
      (entering_by setup.reads codes (plan.logins l) (view_of setup tale) new fed ((view_of setup tale).links l) enters.entered server so)

  through : (left : BackendState) → left.stage ≡ stages.In → (rest : List ℕ) → left.framer.kept ≡ rest
      → Stands (entered_by plan l fed (LogsIn (wire.written ++ left.own) rest) tale) (record row { link = entered_as said.LoggedIn left row.link })
  through left inside rest same =
      let happens : Happening = story.LoggedIn l wire.server (logged_in_as (plan.logins l)) in
      let new : Wire = record fed { entered = true; unread = rest; written = [] } in
      let serves : Serves setup.reads codes (plan.logins l) (view_step setup (view_of setup tale) happens) (record row { link = entered_as said.LoggedIn left row.link })
      (record wire { entered = true; unread = left.framer.kept; written = [] }) (new_link wire.server (logged_in_as (plan.logins l))) =
      enters_so setup.reads codes (plan.logins l) (view_step setup (view_of setup tale) happens) row wire ((view_of setup tale).links l) left enters fine here inside in
      subst (λ (there : Wire). IsRow setup.reads codes (plan.logins l) (view_step setup (view_of setup tale) happens)
      (record row { link = entered_as said.LoggedIn left row.link }) there ((view_step setup (view_of setup tale) happens).links l))
      (sym (put_there tale.wires l new))
      (subst (λ (link : Link). IsRow setup.reads codes (plan.logins l) (view_step setup (view_of setup tale) happens)
      (record row { link = entered_as said.LoggedIn left row.link }) new link)
      (sym (put_there (view_of setup tale).links l (new_link wire.server (logged_in_as (plan.logins l)))))
      (record {
        server = is.server;
        is = subst (λ (unread : List ℕ). Serves setup.reads codes (plan.logins l) (view_step setup (view_of setup tale) happens)
            (record row { link = entered_as said.LoggedIn left row.link }) (record wire { entered = true; unread = unread; written = [] })
            (new_link wire.server (logged_in_as (plan.logins l)))) same serves;
      }))

  -- it goes on

  quiet : (left : BackendState) (o : Opening) → opening (plan.logins l) fed.unread ≡ o → Tells (Hears said.Quiet left) row.link.login wire.written fed.unread
      → Stands (entered_by plan l fed o tale) (record row { link = entered_as said.Quiet left row.link })
  quiet left o so tells =
      let told : opening (plan.logins l) fed.unread ≡ Goes (wire.written ++ left.own) =
      ap (λ (who : Login). opening who fed.unread) (sym going.account) ∙ tells.2 in
      subst (λ (there : Opening). Stands (entered_by plan l fed there tale) (record row { link = entered_as said.Quiet left row.link })) (sym told ∙ so)
      (stays (record row { link = entered_as said.Quiet left row.link }) is.server
      (goes_on (plan.logins l) row wire ((view_of setup tale).links l) bytes left enters fine going.account tells.0 tells.1 tells.2))

  logged_in : (left : BackendState) (o : Opening) → opening (plan.logins l) fed.unread ≡ o → Tells (Hears said.LoggedIn left) row.link.login wire.written fed.unread
      → Stands (entered_by plan l fed o tale) (record row { link = entered_as said.LoggedIn left row.link })
  logged_in left o so tells =
      let told : opening (plan.logins l) fed.unread ≡ LogsIn (wire.written ++ left.own) left.framer.kept =
      ap (λ (who : Login). opening who fed.unread) (sym going.account) ∙ ap (opening row.link.login.account) (sym (append-nil fed.unread))
      ∙ ap (λ (who : Login). opening who (fed.unread ++ [])) (sym tells.1) ∙ (tells.0).is []
      ∙ ap (LogsIn (wire.written ++ left.own)) (append-nil left.framer.kept) in
      subst (λ (there : Opening). Stands (entered_by plan l fed there tale) (record row { link = entered_as said.LoggedIn left row.link })) (sym told ∙ so)
      (through left (tells.0).stage left.framer.kept refl)

  failed : (login : BackendState) (fault : BackendFault) (o : Opening) → opening (plan.logins l) fed.unread ≡ o → login.stage ≡ stages.Lost
      → FailsBy o fault → Stands (entered_by plan l fed o tale) (record row { link = record row.link { login = login; spoilt = true } })
  failed login fault (Fails words why) so over by =
      stays (record row { link = record row.link { login = login; spoilt = true } }) is.server
      (fails_so (plan.logins l) row wire ((view_of setup tale).links l) bytes login enters over (ap is_failed so))
  failed login fault (Goes words) so over by = absurd by
  failed login fault (LogsIn words rest) so over by = absurd by

  by_got : (news : News) (new : Row) (got : Got) → Tells got row.link.login wire.written fed.unread → EntersBy news new got row
      → Stands (entered_by plan l fed (opening (plan.logins l) fed.unread) tale) new
  by_got news new (Hears said.Quiet left) tells by =
      subst (Stands (entered_by plan l fed (opening (plan.logins l) fed.unread) tale)) (sym by.1) (quiet left (opening (plan.logins l) fed.unread) refl tells)
  by_got news new (Hears said.LoggedIn left) tells by =
      subst (Stands (entered_by plan l fed (opening (plan.logins l) fed.unread) tale)) (sym by.1) (logged_in left (opening (plan.logins l) fed.unread) refl tells)
  by_got news new (GotFails fault) tells by =
      subst (Stands (entered_by plan l fed (opening (plan.logins l) fed.unread) tale)) (sym by.row)
      (failed new.link.login fault (opening (plan.logins l) fed.unread) refl by.over
      (subst (λ (who : Login). FailsBy (opening who fed.unread) fault) going.account tells))
  by_got news new (Hears (said.Part used) left) tells by = absurd tells
  by_got news new (Hears (said.Whole used) left) tells by = absurd tells

  pub entered_there : (news : News) (new : Row) → EntersBy news new (entered_of bytes row.link.login) row
      → Stands (server_says setup plan l bytes tale) new
  entered_there news new by =
      subst (λ (is : Bool). Stands (if is then entered_by plan l fed (opening (plan.logins l) fed.unread) tale
      else if is_reset_step wire.step then reset_by l fed (read_as kinds.Command fed) tale else reads_on setup l fed tale) new) (sym (ap not outside))
      (by_got news new (entered_of bytes row.link.login) (opening-entered row.link.login bytes wire.unread wire.written going.login_so) by)
