-- A row stands for its link in a tale as bytes are written there.
use Rattle.std.specs.Prelude.{◌≡◌, ◌<◌, ◌≤◌, ℕ, ◌+◌, Bool, true, false, not, ◌&&◌, nat_lt, if◌then◌else◌, List, [], ◌∷◌, ◌++◌, drop, length, take, Option, Some, None}
use Rattle.std.specs.Option.{option_map}
use Rattle.std.proofs.Common.{refl, sym, ap, ◌∙◌, subst, append_assoc, arith}
use Rattle.std.proofs.lemmas.Bool.{ltb-true}
use Rattle.std.proofs.lemmas.List.{length-drop, take-append-drop}
use Rattle.std.proofs.lemmas.Option.{none-some}
use Rattle.mx_base.specs.Sent.{Sent as Offer}
use Rattle.mx_base.specs.declared.tag.Tag.{Tag}
use Rattle.mx_base.specs.declared.tag.Tag.TheVariants as tags
use Rattle.server_rule.specs.Classes.{Reads}
use Rattle.server_rule.specs.Servers.{is_some_of}
use Rattle.server_side.specs.Account.{Account as Login}
use Rattle.server_side.specs.Backend.{BackendState, taken, taken_by, left_by}
use Rattle.server_side.specs.Login.{Goes}
use Rattle.server_side.specs.Reading.{IsLoggingIn, IsOpening}
use Rattle.server_side.specs.declared.stage.Stage.{Stage as LoginStage}
use Rattle.server_side.specs.declared.stage.Stage.TheVariants as stages
use Rattle.private_model.specs.Names.{LinkId, SessionName}
use Rattle.private_model.specs.Commands.{Quit}
use Rattle.private_model.specs.Story.{Capture, End, Happening, Own, Prep, Question, Sent, Statement, Sync, Unprepared, is_link_id, is_name, put}
use Rattle.private_model.specs.View as view
use Rattle.private_model.specs.View.{Link, Setup, View, view_step}
use Rattle.log_story.specs.Plan as plan
use Rattle.log_story.specs.Plan.{Plan, StepText, step_payload, text_payload}
use Rattle.log_story.specs.Servers as servers
use Rattle.log_story.specs.Servers.{begins as law_begins, begun_on, may_begin, quits_for, step_for, tell_all, writes, written_in}
use Rattle.log_story.specs.Tale.{Tale, Wire, is_reset_step, link_in, view_of, with_wire}
use Rattle.link_state.specs.Asks.{lent_for}
use Rattle.link_state.specs.Spells.{spelt}
use Rattle.link_state.specs.States as states
use Rattle.link_state.specs.Writes as code_writes
use Rattle.link_state.specs.declared.state.Stage.{Stage}
use Rattle.link_state.specs.declared.state.Stage.TheVariants.{Quiet, Asked, Answered}
use Rattle.link_state.specs.declared.writing.Writing.{Writing}
use Rattle.link_laws.specs.Stands.{Codes}
use Rattle.lent_link.specs.Links.{begun_by, is_in, left_at, left_in, left_of, wrote_in, wrote_on}
use Rattle.lent_link.specs.declared.link.Begins.{Begins}
use Rattle.lent_link.specs.declared.link.Begins.TheVariants as begins
use Rattle.lent_link.specs.declared.link.LentLink.{LentLink}
use Rattle.lent_link.specs.declared.link.Step.TheVariants.{Other, Closes, Resets}
use Rattle.served_link.specs.Writes.{next_kind, used_for, wrote, wrote_behind}
use Rattle.served_link.specs.declared.row.LeftSession.{LeftSession}
use Rattle.served_link.specs.declared.row.Row.{Row}
use Rattle.served_link.specs.declared.writing.Kind.{Kind}
use Rattle.served_link.specs.declared.writing.Kind.TheVariants.{GoesOn, Asks, Drops, Quits}
use Rattle.row_laws.specs.Begins.{IsBeginning, IsNext, wire_begun}
use Rattle.row_laws.specs.Rows.{Enters, IsEntering, IsLogin, IsPart, IsPartBy, IsRowIn, IsServing, Part, Serves, part_of}
use Rattle.row_laws.specs.Unread.{kind_answered}
use Rattle.row_laws.specs.Whose.{IsUntouched, OfStatement}
use Rattle.row_laws.specs.Written.{IsBegun, IsOver, IsUnsent, IsWrittenBy}
use Rattle.row_laws.proofs.Beginning.{asks_so, closes_so, going_so, quits_so, resets_so}
use Rattle.row_laws.proofs.Framing.{lender_on, same_parts}
use Rattle.row_laws.proofs.Opening.{enters_in, put_there, serves_in}
use Rattle.row_laws.proofs.Readying.{over_begins, part_waits}
use Rattle.row_laws.proofs.Sparing.{sent_id, sent_lasting, sent_pin}

-- What of a row stands for something is of the link alone, whatever else is noted of the write.

used_part : (kind : Kind) (count now : ℕ) (row : Row) → part_of (wrote_behind count (used_for kind now row)) ≡ record (part_of row) { link = wrote_on count row.link }
used_part GoesOn count now row = by row.link.quits where
  by : (quits : Bool) → part_of (wrote_behind count (if quits then row else record row { used = now })) ≡ record (part_of row) { link = wrote_on count row.link }
  by true = refl
  by false = refl
used_part (Asks purpose) count now row = refl
used_part (Drops number) count now row = refl
used_part Quits count now row = refl

pub wrote_part : (count now : ℕ) (row : Row) → part_of (wrote count now row) ≡ record (part_of row) { link = wrote_on count row.link }
wrote_part count now row = used_part (next_kind row.link) count now row

same_offer : (a b : Offer) → Some a ≡ Some b → a ≡ b
same_offer a b same = cc

-- What is offered behind the login: what is left of what stands there, or of what is to begin.

pub record IsOffered (stage : Stage) (out : Option Writing) (offer : Offer) : Type 0 where
  pub writing : Writing
  pub there : out ≡ Some writing
  pub part : writing.sent < length writing.bytes
  pub rest : offer.bytes ≡ drop writing.sent writing.bytes
  pub unanswered : kind_answered stage ≡ None

offered_left : (stage : Stage) (w : Writing) (offer : Offer) → kind_answered stage ≡ None → left_of (Some w) ≡ Some offer → IsOffered stage (Some w) offer
offered_left stage w offer unanswered = by (nat_lt w.sent (length w.bytes)) refl where
  by : (part : Bool) → nat_lt w.sent (length w.bytes) ≡ part → (if part then Some (record { tag = w.tag; bytes = drop w.sent w.bytes }) else None) ≡ Some offer
      → IsOffered stage (Some w) offer
  by false all same = absurd (none-some offer same)
  by true part same = record {
    writing = w;
    there = refl;
    part = ltb-true w.sent (length w.bytes) part;
    rest = ap (λ (o : Offer). o.bytes) (sym (same_offer (record { tag = w.tag; bytes = drop w.sent w.bytes }) offer same));
    unanswered = unanswered;
  }

offered_by : (stage : Stage) (writing : Option Writing) (offer : Offer) → left_at stage writing ≡ Some offer → IsOffered stage writing offer
offered_by (Answered asking) writing offer same = absurd (none-some offer same)
offered_by Quiet None offer same = absurd (none-some offer same)
offered_by (Asked asking) None offer same = absurd (none-some offer same)
offered_by Quiet (Some w) offer same = offered_left Quiet w offer refl same
offered_by (Asked asking) (Some w) offer same = offered_left (Asked asking) w offer refl same

part_serving : (reads : Reads) (codes : Codes) (login : Login) (seen : View) (part : Part) (wire : Wire) (link : Link) → wire.entered ≡ true
    → wire.server ≡ part.link.server → IsServing reads codes login seen part wire link → IsPart reads codes login seen part wire link
part_serving reads codes login seen part wire link entered server is =
    record { server = server; is = subst (λ (there : Bool). IsPartBy there reads codes login seen part wire link) (sym entered) is }

part_entering : (reads : Reads) (codes : Codes) (login : Login) (seen : View) (part : Part) (wire : Wire) (link : Link) → wire.entered ≡ false
    → wire.server ≡ part.link.server → IsEntering login part wire link → IsPart reads codes login seen part wire link
part_entering reads codes login seen part wire link entered server is =
    record { server = server; is = subst (λ (there : Bool). IsPartBy there reads codes login seen part wire link) (sym entered) is }

module _ (setup : Setup) (codes : Codes) (plan_of : Plan) (tale : Tale) (l : LinkId) (row : Row) (tag : Tag) (count now : ℕ) where
  abbrev wire : Wire
  wire = tale.wires l

  abbrev seen : View
  seen = view_of setup tale

  abbrev link : Link
  link = seen.links l

  abbrev Stands : Tale → Part → Type 0
  Stands at part = IsPart setup.reads codes (plan_of.logins l) (view_of setup at) part (at.wires l) ((view_of setup at).links l)

  -- bytes go on: the law has them behind what is written
  goes_tale : (bytes : List ℕ) → may_begin setup l wire tale ≡ false
      → writes setup plan_of l tag bytes wire tale ≡ with_wire l (record wire { written = wire.written ++ bytes }) tale
  goes_tale bytes waits =
      ap (λ (begins : Bool). if begins then law_begins setup plan_of l tag bytes wire tale else with_wire l (record wire { written = wire.written ++ bytes }) tale) waits

  in_going : (bytes : List ℕ) (part : Part) → may_begin setup l wire tale ≡ false
      → IsPart setup.reads codes (plan_of.logins l) seen part (record wire { written = wire.written ++ bytes }) link
      → Stands (writes setup plan_of l tag bytes wire tale) part
  in_going bytes part waits is =
      subst (λ (t : Tale). Stands t part) (sym (goes_tale bytes waits))
      (subst (λ (w : Wire). IsPart setup.reads codes (plan_of.logins l) seen part w link) (sym (put_there tale.wires l (record wire { written = wire.written ++ bytes }))) is)

  module _ (stands : IsRowIn setup codes plan_of tale l row) (offer : Offer) (offered : left_in row.link ≡ Some offer) (within : count ≤ length offer.bytes)
      (some : 0 < count) where
    abbrev bytes : List ℕ
    bytes = take count offer.bytes

    -- the login

    module _ (outside : wire.entered ≡ false) (fine : row.link.spoilt ≡ false) where
      enters : Enters (plan_of.logins l) row wire link
      enters = enters_in setup.reads codes (plan_of.logins l) seen row wire link outside stands

      abbrev login : BackendState
      login = row.link.login

      going : IsLogin (plan_of.logins l) row.link wire
      going = enters.going fine

      own_offered : left_by login.own login.command ≡ Some offer
      own_offered = ap (λ (inside : Bool). if inside then left_at row.link.state.stage row.link.writing else left_by login.own login.command) (sym enters.outside) ∙ offered

      own_is : (own : List ℕ) → left_by own None ≡ Some offer → (own ≡ offer.bytes) × (taken_by count own login ≡ record login { own = drop count own })
      own_is [] same = absurd (none-some offer same)
      own_is (byte ∷ rest) same = (ap (λ (o : Offer). o.bytes) (same_offer (record { tag = tags.Own; bytes = byte ∷ rest }) offer same), refl)

      own : (login.own ≡ offer.bytes) × (taken_by count login.own login ≡ record login { own = drop count login.own })
      own = own_is login.own (ap (left_by login.own) (sym going.login_so.idle) ∙ own_offered)

      link_now : wrote_on count row.link ≡ record row.link { login = record login { own = drop count login.own } }
      link_now =
          ap (λ (inside : Bool). if inside then wrote_in count row.link else record row.link { login = taken count login }) enters.outside
          ∙ ap (λ (at : BackendState). record row.link { login = at }) own.1

      said : (wire.written ++ bytes) ++ drop count login.own ≡ wire.written ++ login.own
      said =
          ap (λ (offered_bytes : List ℕ). (wire.written ++ take count offered_bytes) ++ drop count login.own) (sym own.0)
          ∙ append_assoc wire.written (take count login.own) (drop count login.own) ∙ ap (λ (all : List ℕ). wire.written ++ all) (take-append-drop count login.own)

      opening_own : (stage : LoginStage) → IsOpening stage login wire.unread (wire.written ++ login.own)
          → IsOpening stage (record login { own = drop count login.own }) wire.unread (wire.written ++ login.own)
      opening_own stages.Greeting is = is
      opening_own stages.Welcome is = is
      opening_own stages.Switched is = is
      opening_own stages.In is = is
      opening_own stages.Lost is = is

      login_on : IsLoggingIn (record login { own = drop count login.own }) wire.unread ((wire.written ++ bytes) ++ drop count login.own)
      login_on =
          subst (λ (all : List ℕ). IsLoggingIn (record login { own = drop count login.own }) wire.unread all) (sym said) (record {
            framer = going.login_so.framer;
            is = opening_own login.stage going.login_so.is;
            unreplied = going.login_so.unreplied;
            idle = going.login_so.idle;
          })

      waits : may_begin setup l wire tale ≡ false
      waits =
          ap (λ (inside : Bool). inside && (servers.is_quiet (link_in setup tale l).stage && (not (is_some_of (written_in wire.written).rest) && not (is_reset_step wire.step))))
          outside

      pub login_so : IsRowIn setup codes plan_of (writes setup plan_of l tag bytes wire tale) l (wrote count now row)
      login_so =
          subst (λ (part : Part). Stands (writes setup plan_of l tag bytes wire tale) part)
          (sym (wrote_part count now row ∙ ap (λ (at : LentLink). record (part_of row) { link = at }) link_now))
          (in_going bytes (record (part_of row) { link = record row.link { login = record login { own = drop count login.own } } }) waits
          (part_entering setup.reads codes (plan_of.logins l) seen (record (part_of row) { link = record row.link { login = record login { own = drop count login.own } } })
          (record wire { written = wire.written ++ bytes }) link outside stands.server (record {
            entered = enters.entered;
            stays = enters.stays;
            stepless = enters.stepless;
            unborn = enters.unborn;
            outside = enters.outside;
            state = enters.state;
            step = enters.step;
            told = enters.told;
            next = enters.next;
            writing = enters.writing;
            reading = enters.reading;
            left = enters.left;
            failed = enters.failed;
            going = λ well. record {
              account = going.account;
              login_so = login_on;
              goes = going.goes ∙ ap (λ (all : List ℕ). Goes all) (sym said);
            };
          })))

    -- behind it

    module _ (inside : wire.entered ≡ true) where
      serves : Serves setup.reads codes (plan_of.logins l) seen row wire link
      serves = serves_in setup.reads codes (plan_of.logins l) seen row wire link inside stands

      out : IsOffered row.link.state.stage row.link.writing offer
      out = offered_by row.link.state.stage row.link.writing offer
          (ap (λ (there : Bool). if there then left_at row.link.state.stage row.link.writing else left_by row.link.login.own row.link.login.command)
          (sym (ap is_in serves.inside)) ∙ offered)

      abbrev w : Writing
      w = out.writing

      wrote_inside : wrote_on count row.link ≡ begun_by row.link.next (record row.link { next = None; writing = Some (code_writes.wrote count w) })
      wrote_inside =
          ap (λ (there : Bool). if there then wrote_in count row.link else record row.link { login = taken count row.link.login }) (ap is_in serves.inside)
          ∙ ap (λ (writing : Option Writing). begun_by row.link.next (record row.link { next = None; writing = option_map (code_writes.wrote count) writing })) out.there

      more : w.sent + count ≤ length w.bytes
      more = omega (arith, ap length out.rest, length-drop w.sent w.bytes, within, out.part)

      -- what began goes on

      module _ (same_next : row.link.next ≡ None) where
        begun_there : IsBegun row.link.step row.link.quits w wire.written link
        begun_there =
            subst (λ (next : Option Begins). IsWrittenBy next (Some w) row.link.state.stage row.link.step row.link.quits wire.step wire.written link) same_next
            (subst (λ (writing : Option Writing). IsWrittenBy row.link.next writing row.link.state.stage row.link.step row.link.quits wire.step wire.written link)
            out.there serves.written)

        waits_now : may_begin setup l wire tale ≡ false
        waits_now = part_waits setup.reads codes (plan_of.logins l) seen row wire link serves w begun_there out.part

        pub goes_so : IsRowIn setup codes plan_of (writes setup plan_of l tag bytes wire tale) l (wrote count now row)
        goes_so =
            subst (λ (part : Part). Stands (writes setup plan_of l tag bytes wire tale) part)
            (sym (wrote_part count now row ∙ ap (λ (at : LentLink). record (part_of row) { link = at }) (wrote_inside
            ∙ ap (λ (next : Option Begins). begun_by next (record row.link { next = None; writing = Some (code_writes.wrote count w) })) same_next)))
            (in_going bytes (record (part_of row) { link = record row.link { next = None; writing = Some (code_writes.wrote count w) } }) waits_now
            (part_serving setup.reads codes (plan_of.logins l) seen
            (record (part_of row) { link = record row.link { next = None; writing = Some (code_writes.wrote count w) } })
            (record wire { written = wire.written ++ bytes }) link inside stands.server
            (subst (λ (xs : List ℕ). IsServing setup.reads codes (plan_of.logins l) seen
            (record (part_of row) { link = record row.link { next = None; writing = Some (code_writes.wrote count w) } })
            (record wire { written = wire.written ++ take count xs }) link) (sym out.rest)
            (going_so setup.reads codes (plan_of.logins l) seen row wire link serves w count some begun_there more out.unanswered))))

      -- something begins

      module _ (next : Begins) (same_next : row.link.next ≡ Some next) where
        over : IsOver row.link.state.stage row.link.step row.link.quits wire.step wire.written × IsUnsent (Some w)
        over =
            subst (λ (b : Option Begins). IsWrittenBy b (Some w) row.link.state.stage row.link.step row.link.quits wire.step wire.written link) same_next
            (subst (λ (writing : Option Writing). IsWrittenBy row.link.next writing row.link.state.stage row.link.step row.link.quits wire.step wire.written link)
            out.there serves.written)

        unsent : w.sent ≡ 0
        unsent = over.1

        front : bytes ≡ take count w.bytes
        front = ap (take count) (out.rest ∙ ap (λ (n : ℕ). drop n w.bytes) unsent)

        short : count ≤ length w.bytes
        short = omega (arith, more, unsent)

        abbrev step : Option StepText
        step = step_for tag (plan_of.steps l wire.begun)

        abbrev told_quit : Bool
        told_quit = quits_for tag (plan_of.steps l wire.begun)

        abbrev happens : List Happening
        happens = begun_on setup plan_of tale.moment seen l wire tag

        abbrev begun_tale : List Happening → List ℕ → (quits : Bool) → Tale
        begun_tale told xs quits = tell_all told (with_wire l (wire_begun xs step quits wire) tale)

        writes_begin : writes setup plan_of l tag bytes wire tale ≡ begun_tale happens bytes told_quit
        writes_begin =
            ap (λ (may : Bool). if may then law_begins setup plan_of l tag bytes wire tale else with_wire l (record wire { written = wire.written ++ bytes }) tale)
            (over_begins setup.reads codes (plan_of.logins l) seen row wire link serves over.0)

        -- the tale with what is told of it, and the link as it is then
        in_begun : (told : List Happening) (quits : Bool) (there : LentLink) (new : View) (after : Link) → happens ≡ told → told_quit ≡ quits
            → view_of setup (begun_tale told (take count w.bytes) quits) ≡ new → new.links l ≡ after
            → begun_by row.link.next (record row.link { next = None; writing = Some (code_writes.wrote count w) }) ≡ there
            → wire.server ≡ there.server
            → IsServing setup.reads codes (plan_of.logins l) new (record (part_of row) { link = there }) (wire_begun (take count w.bytes) step quits wire) after
            → IsRowIn setup codes plan_of (writes setup plan_of l tag bytes wire tale) l (wrote count now row)
        in_begun told quits there new after same_told same_quits same_view same_link same_there server is =
            subst (λ (part : Part). Stands (writes setup plan_of l tag bytes wire tale) part)
            (sym (wrote_part count now row ∙ ap (λ (at : LentLink). record (part_of row) { link = at }) (wrote_inside ∙ same_there)))
            (subst (λ (t : Tale). Stands t (record (part_of row) { link = there }))
            (sym (writes_begin ∙ ap (λ (xs : List ℕ). begun_tale happens xs told_quit) front
            ∙ ap (λ (told_now : List Happening). begun_tale told_now (take count w.bytes) told_quit) same_told
            ∙ ap (begun_tale told (take count w.bytes)) same_quits))
            (subst (λ (v : View). IsPart setup.reads codes (plan_of.logins l) v (record (part_of row) { link = there })
            (put is_link_id tale.wires l (wire_begun (take count w.bytes) step quits wire) l) (v.links l)) (sym same_view)
            (subst (λ (x : Wire). IsPart setup.reads codes (plan_of.logins l) new (record (part_of row) { link = there }) x (new.links l))
            (sym (put_there tale.wires l (wire_begun (take count w.bytes) step quits wire)))
            (subst (λ (k : Link). IsPart setup.reads codes (plan_of.logins l) new (record (part_of row) { link = there }) (wire_begun (take count w.bytes) step quits wire) k)
            (sym same_link)
            (part_serving setup.reads codes (plan_of.logins l) new (record (part_of row) { link = there }) (wire_begun (take count w.bytes) step quits wire) after inside
            server is)))))

        -- what is sent leaves sessions as they are, but for the statement of a present one

        spare_from : (question : Question) (left : LeftSession) (n : SessionName) → row.left ≡ Some left
            → OfStatement question (λ m due. row.left ≡ None) → OfStatement question (λ m due. is_name n m ≡ false)
        spare_from (Statement m due) left n there none = absurd (none-some left (sym none ∙ there))
        spare_from (Prep m key text) left n there none = tt
        spare_from (Sync m command) left n there none = tt
        spare_from (Own command) left n there none = tt
        spare_from (End m) left n there none = tt
        spare_from (Capture m) left n there none = tt

        sent_untouched : (question : Question) → OfStatement question (λ m due. row.left ≡ None) → (n : SessionName) (left : Option LeftSession)
            → row.left ≡ left → IsUntouched seen (view_step setup seen (Sent l question)) n left
        sent_untouched question present n None same = refl
        sent_untouched question present n (Some left) same = record {
          later = omega arith;
          pin = sent_pin question l seen.held n;
          id = sent_id question l seen.held n;
          lasting = sent_lasting setup seen n question (spare_from question left n same present) seen.lasting;
        }

        pub begin_so : IsBeginning next setup.reads codes seen l row link happens step told_quit
            → IsRowIn setup codes plan_of (writes setup plan_of l tag bytes wire tale) l (wrote count now row)
        begin_so = by next same_next where
          closed : (number : ℕ) → view_of setup (begun_tale (Unprepared l number ∷ []) (take count w.bytes) false) ≡ view_step setup seen (Unprepared l number)
          closed number = refl

          by : (b : Begins) → row.link.next ≡ Some b → IsBeginning b setup.reads codes seen l row link happens step told_quit
              → IsRowIn setup codes plan_of (writes setup plan_of l tag bytes wire tale) l (wrote count now row)
          by (begins.Asks asking) same is =
              let question : Question = is.0 in
              let new : View = view_step setup seen (Sent l question) in
              in_begun (Sent l question ∷ []) false
              (record row.link { next = None; writing = Some (code_writes.wrote count w); step = Other; state = states.asked asking row.link.state })
              new (view.asked question link) is.1 is.3 refl (put_there seen.links l (view.asked question link))
              (ap (λ (b : Option Begins). begun_by b (record row.link { next = None; writing = Some (code_writes.wrote count w) })) same) stands.server
              (asks_so setup.reads codes (plan_of.logins l) seen row wire link serves w count some over.0 unsent short new
              (λ n carried. sent_untouched question is.2.present n row.left refl) asking question step out.there is.4 (record {
                said = is.2.said;
                step_none = is.2.step_none;
                for = is.2.for;
                lender = lender_on seen new row.link.state.carries (lent_for asking.purpose row.link.state.carries) (λ n. refl) is.2.lender;
                present = is.2.present;
              }))
          by (begins.Closes number) same is =
              let new : View = view_step setup seen (Unprepared l number) in
              in_begun (Unprepared l number ∷ []) false
              (record row.link { next = None; writing = Some (code_writes.wrote count w); step = Closes number; state = states.closed_number number row.link.state })
              new (view.closed_number number link) is.0 is.3 refl (put_there seen.links l (view.closed_number number link))
              (ap (λ (b : Option Begins). begun_by b (record row.link { next = None; writing = Some (code_writes.wrote count w) })) same) stands.server
              (subst (λ (s : Option StepText). IsServing setup.reads codes (plan_of.logins l) new
              (record (part_of row) { link = record row.link { next = None; writing = Some (code_writes.wrote count w); step = Closes number; state = states.closed_number number row.link.state } })
              (wire_begun (take count w.bytes) s false wire) (view.closed_number number link)) (sym is.1)
              (closes_so setup.reads codes (plan_of.logins l) seen row wire link serves w count some over.0 unsent short new
              (λ n carried. same_parts seen new n row.left refl refl refl refl) number is.4
              (subst (λ (writing : Option Writing). IsNext writing (spelt (step_payload (plan.Closes number)))) out.there is.2)))
          by (begins.Resets number) same is =
              in_begun [] false (record row.link { next = None; writing = Some (code_writes.wrote count w); step = Resets number }) seen link is.0 is.3 refl refl
              (ap (λ (b : Option Begins). begun_by b (record row.link { next = None; writing = Some (code_writes.wrote count w) })) same) stands.server
              (subst (λ (s : Option StepText). IsServing setup.reads codes (plan_of.logins l) seen
              (record (part_of row) { link = record row.link { next = None; writing = Some (code_writes.wrote count w); step = Resets number } })
              (wire_begun (take count w.bytes) s false wire) link) (sym is.1)
              (resets_so setup.reads codes (plan_of.logins l) seen row wire link serves w count some over.0 unsent short seen
              (λ n carried. same_parts seen seen n row.left refl refl refl refl) number is.4
              (subst (λ (writing : Option Writing). IsNext writing (spelt (step_payload (plan.Resets number)))) out.there is.2)))
          by begins.Quits same is =
              in_begun [] true (record row.link { next = None; writing = Some (code_writes.wrote count w); step = Other; quits = true }) seen link is.0 is.3 refl refl
              (ap (λ (b : Option Begins). begun_by b (record row.link { next = None; writing = Some (code_writes.wrote count w) })) same) stands.server
              (quits_so setup.reads codes (plan_of.logins l) seen row wire link serves w count some over.0 unsent short seen
              (λ n carried. same_parts seen seen n row.left refl refl refl refl) step is.1
              (subst (λ (writing : Option Writing). IsNext writing (spelt (text_payload Quit))) out.there is.2))
