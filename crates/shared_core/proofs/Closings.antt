-- A link to a server is closed by the core's own wish.
use Rattle.std.specs.Prelude.{◌≡◌, ◌<◌, ◌^◌, ◌⊎◌, ◌||◌, ◌++◌, ℕ, suc, Bool, true, false, not, is_some, if◌then◌else◌, length, nat_eq, List, [], ◌∷◌, IsSome, Option, Some, None}
use Rattle.std.specs.Option.{option_and_then, option_map, option_map_or}
use Rattle.std.proofs.Common.{refl, sym, ap, ◌∙◌, subst, inl, arith, append-nil}
use Rattle.std.proofs.lemmas.Bool.{eq-eqb, false≢true, true≢false}
use Rattle.std.proofs.lemmas.Option.{none-some, same_Some}
use Rattle.mx_base.specs.Sent.{Sent}
use Rattle.mx_base.specs.declared.names.ClientNo.{ClientNo}
use Rattle.mx_base.specs.declared.names.LinkId.{LinkId}
use Rattle.mx_wire.specs.Log.{AreMarks, Log}
use Rattle.mx_wire.specs.Tells.{IsOpen, MayFollow}
use Rattle.mx_wire.specs.declared.entry.Entry.{Entry}
use Rattle.mx_wire.specs.declared.entry.Entry.TheVariants.{Closed, Drop, Exec, WriteFailed, WriteNothing, Wrote}
use Rattle.ready_loop.specs.Machine.{IsFarewell}
use Rattle.session_state.specs.declared.names.SessionName.{SessionName}
use Rattle.client_desk.specs.declared.work.Work.{Work}
use Rattle.desk_laws.specs.Spares.{IsElsewhere}
use Rattle.link_marks.specs.Marks.{is_known}
use Rattle.core_says.specs.Says.{sends_by}
use Rattle.core_service.specs.declared.service.Service.{Service}
use Rattle.core_tables.specs.Parting.{lost_in, lost_row, present_in, unlinked}
use Rattle.core_tables.specs.Tables.{IsSame, Tabled, tables_of}
use Rattle.core_tables.specs.declared.client.Client.{Client}
use Rattle.core_tables.specs.declared.server.Server.{Server}
use Rattle.core_laws.specs.clients.Going.{is_going}
use Rattle.core_laws.specs.clients.Turns.{waits_at}
use Rattle.core_laws.specs.entry.Cores.{with_entry}
use Rattle.marked_tables.proofs.Going.{still_goes}
use Rattle.marked_tables.specs.Goes.{GoesOn, sends_on}
use Rattle.marked_tables.specs.declared.marked.MarkedTables.{MarkedTables}
use Rattle.router_laws.specs.decisions.Routers.{IsRouter}
use Rattle.router_laws.specs.links.Closes.{ClosesSo, IsLentThere, IsUnawaited, MayClose, MaySayFarewell}
use Rattle.router_laws.specs.links.Loses.{GoesWithIt}
use Rattle.router_laws.specs.routers.Somehow.{AreLinked}
use Rattle.core_texts.specs.declared.texts.Texts.{Texts}
use Rattle.core_promises.specs.Administers.{Administered}
use Rattle.shared_core.proofs.Coming.{BringsNone, come_as, come_on}
use Rattle.shared_core.specs.Came.{HaveCome}
use Rattle.shared_core.proofs.LinkWrites.{IsLent, is_lent}
use Rattle.shared_core.proofs.Machining.{stands_parted}
use Rattle.shared_core.specs.Follows.{Keeps}
use Rattle.shared_core.specs.Rows.{is_worked_in, work_at}
use Rattle.shared_core.specs.Stands as stands
use Rattle.shared_core.specs.Stands.{ClosesBy, IsClosed, PartsFor, Shown, StandsBy, StandsStill, is_roomy, parted, shown, tables, tables_in, without_client, without_link, work_of, worked}
use Rattle.shared_core.specs.declared.roomy.Roomy.{Roomy}
use Rattle.shared_core.specs.declared.router.Router.{Router}

-- What goes with it.

pub none_goes : (l : LinkId) (t : Tabled) → present_in l t ≡ None → GoesWithIt l (λ c. false) t
none_goes l t none = record {
  lives = λ n is. absurd (none-some n (sym none ∙ is));
  work = λ n row is there. absurd (none-some n (sym none ∙ is));
}

module _ (l : LinkId) (t : Tabled) (name : SessionName) (present : present_in l t ≡ Some name) where
  its : (n : SessionName) → present_in l t ≡ Some n → n ≡ name
  its n is = same_Some n name (sym is ∙ present)

  elsewhere : is_worked_in name t ≡ false → (row : Client) → t.clients name.client ≡ Some row → IsElsewhere name.hostgroup row.desk.work
  elsewhere none row there = by row.desk.work refl where
    by : (work : Option Work) → row.desk.work ≡ work → IsElsewhere name.hostgroup work
    by None is = tt
    by (Some work) is =
        let at : work_at name.client t ≡ Some work = ap (option_and_then (λ (r : Client). r.desk.work)) there ∙ is in
        sym (ap (λ (w : Option Work). option_map_or (λ (x : Work). nat_eq x.hostgroup.0 name.hostgroup.0) w false) at) ∙ none

  pub present_goes : name.life < 18446744073709551615 → is_worked_in name t ≡ false → GoesWithIt l (λ c. false) t
  present_goes lives none = record {
    lives = λ n is. subst (λ (m : SessionName). suc m.life < 2 ^ 64) (sym (its n is)) (omega (arith, lives));
    work = λ n row is there.
        subst (λ (m : SessionName). t.clients m.client ≡ Some row
        → IsElsewhere m.hostgroup row.desk.work ⊎ (false ≡ true)) (sym (its n is)) (λ at. inl (elsewhere none row at)) there;
  }

  pub present_unawaited : (room : ClientNo → Bool) → ((row : Client) → t.clients name.client ≡ Some row → room name.client ≡ false → waits_at row ≡ false)
      → IsUnawaited l room t
  present_unawaited room unless n row is there none =
      subst (λ (m : SessionName). t.clients m.client ≡ Some row → room m.client ≡ false → waits_at row ≡ false) (sym (its n is)) (unless row) there none

pub none_unawaited : (l : LinkId) (t : Tabled) (room : ClientNo → Bool) → present_in l t ≡ None → IsUnawaited l room t
none_unawaited l t room none n row is = absurd (none-some n (sym none ∙ is))

-- No client comes by what is told as a link is closed.

marks_alone : (marks : Log) → AreMarks marks → BringsNone marks
marks_alone [] are = (refl, λ moment. refl)
marks_alone (Exec link ∷ marks) are = marks_alone marks are.1
marks_alone (Drop link ∷ marks) are = marks_alone marks are.1
marks_alone (_ ∷ marks) are = absurd are.0

farewell_alone : (lent : Option Sent) (l : LinkId) (e : Entry) → IsFarewell lent l e → BringsNone (e ∷ [])
farewell_alone lent l (Wrote to tag bytes) is = (refl, λ moment. refl)
farewell_alone lent l (WriteNothing to) is = (refl, λ moment. refl)
farewell_alone lent l (WriteFailed to) is = (refl, λ moment. refl)
farewell_alone lent l _ is = absurd is

-- The laws by which a router goes on.

abbrev pub Links : Type 0
Links = (service : Service) (texts : Texts) (admin : Administered) (log : Log) (t : Tabled) (roomy : ClientNo → Bool) → IsRouter service texts admin log t roomy → AreLinked t

abbrev pub ClosesPlain : Type 0
ClosesPlain = (service : Service) (texts : Texts) (admin : Administered) (log : Log) (t now : Tabled) (roomy room : ClientNo → Bool) (l : LinkId)
    → IsRouter service texts admin log t roomy → MayFollow log (Closed l) → ((c : ClientNo) → room c ≡ false → roomy c ≡ false)
    → ClosesSo l room t now → IsRouter service texts admin (with_entry log (Closed l)) now room

abbrev pub ClosesOffered : Type 0
ClosesOffered = (service : Service) (texts : Texts) (admin : Administered) (log marks : Log) (e : Entry) (t : Tabled) (roomy room : ClientNo → Bool) (l : LinkId)
    (lent : Option Sent) → IsRouter service texts admin log t roomy → AreMarks marks
    → ((c : ClientNo) → room c ≡ false → roomy c ≡ false) → MayClose l room t
    → MaySayFarewell l (λ (c : ClientNo). not (is_going (t.clients c))) t → IsLentThere l lent t → IsFarewell lent l e
    → MayFollow log e → MayFollow (log ++ e ∷ [] ++ marks) (Closed l)
    → IsRouter service texts admin (log ++ e ∷ [] ++ marks ++ Closed l ∷ []) (unlinked l (lost_in l t)) room

abbrev pub ClosesLost : Type 0
ClosesLost = (service : Service) (texts : Texts) (admin : Administered) (log : Log) (t x : Tabled) (roomy room : ClientNo → Bool) (l : LinkId)
    → IsRouter service texts admin log t roomy → ((c : ClientNo) → room c ≡ false → roomy c ≡ false) → MayClose l room t
    → IsSame x (lost_in l t) → MayFollow log (Closed l)
    → IsRouter service texts admin (with_entry log (Closed l)) (unlinked l (lost_in l x)) room

-- What is known as a link to a server is to be closed: nothing is being closed, what goes with it, and who is called at the next wake.
pub record IsClosing (l : LinkId) (old mid : Router) : Type 0 where
  pub closed : IsClosed (shown old)
  pub server : Server
  pub there : (tables old).links l ≡ Some server
  pub with_it : GoesWithIt l (λ c. false) (tables old)
  pub unawaited : IsUnawaited l (is_roomy mid.roomy) (tables old)
  pub kept : (c : ClientNo) → is_roomy old.roomy c ≡ true → is_roomy mid.roomy c ≡ true
  pub same : mid ≡ record old { roomy = mid.roomy }

pub goes_same : (old mid : Router) → mid ≡ record old { roomy = mid.roomy } → GoesOn old.marked mid.marked
goes_same old mid same =
    subst (λ (m : MarkedTables). GoesOn old.marked m) (sym (ap (λ (r : Router). r.marked) same)) (still_goes old.marked)

-- Nothing is closed.
pub still_acts : (s : Shown) → IsClosed s → StandsStill (λ service log. PartsFor service log s) s
still_acts s closed = record { stands = λ service log before. before; closed = closed }

same_itself : (t : Tabled) → IsSame t t
same_itself t = record { clients = λ c. refl; numbers = λ n. refl; links = λ n. refl }

false_before : (a b : Bool) → (a ≡ true → b ≡ true) → b ≡ false → a ≡ false
false_before false b to none = refl
false_before true b to none = absurd (true≢false (sym (to refl) ∙ none))

module _ (links : Links) (l : LinkId) (old mid : Router) (is : IsClosing l old mid) where
  abbrev t : Tabled
  t = tables old

  abbrev room : ClientNo → Bool
  room = is_roomy mid.roomy

  rooms : (c : ClientNo) → room c ≡ false → is_roomy old.roomy c ≡ false
  rooms c none = false_before (is_roomy old.roomy c) (room c) (is.kept c) none

  -- how the router stood for a log
  module _ (service : Service) (log : Log) (before : PartsFor service log (shown old)) where
    stood : StandsBy service log t (shown old)
    stood = stands_parted service log (shown old) is.closed before

    is_open_then : IsOpen l log
    is_open_then = stood.router.open_just l ∙ ap (λ (row : Option Server). is_some row || is_some (t.numbers l)) is.there

    own : (found : Option ClientNo) → t.numbers l ≡ found → t.numbers l ≡ None
    own None at = at
    own (Some c) at = absurd (none-some is.server
        (sym (links service old.texts (worked service (work_of old)) log t (is_roomy old.roomy) stood.router l c at).aside ∙ is.there))

    may : MayClose l room t
    may = record { server = is.server; there = is.there; own = own (t.numbers l) refl; with_it = is.with_it; unawaited = is.unawaited }

    -- it stands so, who is roomy and how many came being the same
    stands_so : (now : Shown) (more : Log) (x : Tabled) → HaveCome more old.came → now.came ≡ old.came → now.roomy ≡ mid.roomy
        → now.texts ≡ old.texts → now.work ≡ work_of old → parted now ≡ x → IsRouter service old.texts (worked service (work_of old)) more x room
        → PartsFor service more now
    stands_so now more x have came roomy texts work parts router = record {
      router = subst (λ (r : Roomy). IsRouter service now.texts (worked service now.work) more (parted now) (is_roomy r)) (sym roomy)
          (subst (λ (y : Tabled). IsRouter service now.texts (worked service now.work) more y room) (sym parts)
          (subst (λ (k : Texts). IsRouter service k (worked service now.work) more x room) (sym texts)
          (subst (λ (w : stands.Work). IsRouter service old.texts (worked service w) more x room) (sym work) router)));
      counted = come_as more old.came now.came came have;
    }

  -- what is left behind, where the link is being closed
  parts_so : (now : Shown) → now.leaving ≡ None → now.closing ≡ Some l → parted now ≡ unlinked l (lost_in l (tables_in now))
  parts_so now leaving closing =
      ap (λ (at : Option LinkId). without_link at (without_client now.leaving (tables_in now))) closing
      ∙ ap (λ (c : Option ClientNo). without_link (Some l) (without_client c (tables_in now))) leaving

  abbrev Before : Service → Log → Type 0
  Before service log = PartsFor service log (shown old)

  came_so : mid.came ≡ old.came
  came_so = ap (λ (r : Router). r.came) is.same

  texts_so : mid.texts ≡ old.texts
  texts_so = ap (λ (r : Router). r.texts) is.same

  work_so : work_of mid ≡ work_of old
  work_so = ap work_of is.same

  marked_so : mid.marked ≡ old.marked
  marked_so = ap (λ (r : Router). r.marked) is.same

  leaving_so : mid.leaving ≡ None
  leaving_so = ap (λ (r : Router). r.leaving) is.same ∙ is.closed.client

  -- One that may say a farewell.

  module _ (plain : ClosesPlain) (offered : ClosesOffered) (farewell : MaySayFarewell l (λ (c : ClientNo). not (is_going (t.clients c))) t) where
    abbrev closing : Shown
    closing = record (shown mid) { closing = Some l }

    parts : parted closing ≡ unlinked l (lost_in l t)
    parts = parts_so closing leaving_so refl ∙ ap (λ (m : MarkedTables). unlinked l (lost_in l (tables_of m.tables))) marked_so

    lent_by : (sent : Sent) → sends_on old.marked l ≡ Some sent → IsLent old.marked l sent
    lent_by sent at = is_lent old.marked l sent at (subst (λ (row : Option Server). IsSome row) (sym is.there) refl)

    lent_there : IsLentThere l (sends_on old.marked l) t
    lent_there = record {
      lends = λ sent at. (lent_by sent at).lent;
      well = λ sent at server there.
          let lent : IsLent old.marked l sent = lent_by sent at in
          subst (λ (s : Server). s.row.link.spoilt ≡ false) (same_Some lent.server server (sym lent.there ∙ there)) lent.well;
    }

    come_then : (log : Log) (e : Entry) (marks : Log) → BringsNone (e ∷ []) → AreMarks marks → HaveCome log old.came
        → HaveCome (log ++ e ∷ [] ++ marks ++ Closed l ∷ []) old.came
    come_then log e marks first are have =
        come_on (log ++ e ∷ [] ++ marks) (Closed l ∷ []) old.came (refl, λ moment. refl)
        (come_on (log ++ e ∷ []) marks old.came (marks_alone marks are) (come_on log (e ∷ []) old.came first have))

    pub farewell_closes : ClosesBy Before closing l
    farewell_closes = record {
      opened = λ service log before. is_open_then service log before;
      plain = λ none service log follows before.
          stands_so service log before closing (log ++ Closed l ∷ []) (unlinked l (lost_in l t)) (come_on log (Closed l ∷ []) old.came (refl, λ moment. refl) (stood service log before).counted) came_so refl texts_so work_so parts
          (plain service old.texts (worked service (work_of old)) log t (unlinked l (lost_in l t)) (is_roomy old.roomy) room l
          (stood service log before).router follows rooms (record { may = may service log before; same = same_itself _ }));
      offered = λ some service log e marks says are follows next before.
          let said : IsFarewell (sends_on old.marked l) l e =
          subst (λ (m : MarkedTables). IsFarewell (sends_on m l) l e) marked_so says in
          stands_so service log before closing (log ++ e ∷ [] ++ marks ++ Closed l ∷ []) (unlinked l (lost_in l t))
          (come_then log e marks (farewell_alone (sends_on old.marked l) l e said) are (stood service log before).counted) came_so refl texts_so work_so parts
          (offered service old.texts (worked service (work_of old)) log marks e t (is_roomy old.roomy) room l (sends_on old.marked l)
          (stood service log before).router are rooms (may service log before) farewell lent_there said follows next);
    }

  -- One that was lost says nothing more.

  module _ (lost : ClosesLost) (new : Router) (loses : IsSame (tables new) (lost_in l (tables mid)))
      (keeps : Keeps (record mid { closing = Some l }) new) (texts_lost : new.texts ≡ mid.texts) where
    parts_lost : parted (shown new) ≡ unlinked l (lost_in l (tables new))
    parts_lost = parts_so (shown new) (keeps.client ∙ leaving_so) keeps.link

    lost_so : IsSame (tables new) (lost_in l t)
    lost_so = subst (λ (m : MarkedTables). IsSame (tables new) (lost_in l (tables_of m.tables))) marked_so loses

    row_lost : (tables new).links l ≡ Some (lost_row is.server)
    row_lost =
        lost_so.links l
        ∙ ap (λ (b : Bool). if b then option_map lost_row (t.links l) else t.links l) (eq-eqb l.0 l.0 refl)
        ∙ ap (option_map lost_row) is.there

    silent_if : (known : Bool) → IsSome (if known then sends_by (Some (lost_row is.server)) (tables new) l else None) → ⊥
    silent_if true some = false≢true some
    silent_if false some = false≢true some

    silent : IsSome (sends_on new.marked l) → ⊥
    silent some =
        silent_if (is_known new.marked.changed l)
        (subst (λ (row : Option Server). IsSome (if is_known new.marked.changed l then sends_by row (tables new) l else None)) row_lost some)

    pub lost_closes : ClosesBy Before (shown new) l
    lost_closes = record {
      opened = λ service log before. is_open_then service log before;
      plain = λ none service log follows before.
          stands_so service log before (shown new) (log ++ Closed l ∷ []) (unlinked l (lost_in l (tables new))) (come_on log (Closed l ∷ []) old.came (refl, λ moment. refl) (stood service log before).counted)
          (keeps.came ∙ came_so) keeps.roomy (texts_lost ∙ texts_so) (keeps.work ∙ work_so) parts_lost
          (lost service old.texts (worked service (work_of old)) log t (tables new) (is_roomy old.roomy) room l
          (stood service log before).router rooms (may service log before) lost_so follows);
      offered = λ some service log e marks says are follows next before. absurd (silent some);
    }
