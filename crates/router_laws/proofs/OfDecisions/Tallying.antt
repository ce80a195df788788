-- The counts of a tale go on with an entry.
use Rattle.std.specs.Prelude.{◌≡◌, ◌<◌, ◌+◌, ◌&&◌, ◌||◌, ℕ, suc, Bool, true, false, is_some, nat_le, not, fold, if◌then◌else◌, length, map, slice_index_or, List, [], ◌∷◌, ◌++◌, Option, Some, None}
use Rattle.std.specs.List.{list_any}
use Rattle.std.proofs.Common.{refl, sym, ap, ◌∙◌, subst, arith}
use Rattle.std.proofs.lemmas.Bool.{eqb-true, le-leb}
use Rattle.mx_base.specs.declared.tag.Tag.{Tag}
use Rattle.mx_wire.specs.Log.{Log}
use Rattle.mx_wire.specs.Tells.{Fits, MayFollow}
use Rattle.mx_wire.specs.declared.entry.Entry.{Entry}
use Rattle.mx_wire.specs.declared.entry.Entry.TheVariants as entry
use Rattle.reply_track.specs.declared.reply.ReplyKind.TheVariants as kind
use Rattle.reply_track.specs.Runs.{Ending}
use Rattle.reply_track.specs.Runs.Ending.{Ended, Failed, Going}
use Rattle.server_side.specs.Login.{Fails, Goes, LogsIn, Opening, opening}
use Rattle.private_model.specs.Names.{LinkId, ServerId}
use Rattle.private_model.specs.Story.{Dropped, Gone, Left, Question, Ran, is_link_id}
use Rattle.private_model.specs.View.{Answered, Asked, Quiet, Setup, Stage}
use Rattle.log_story.specs.Clients.{client_leaves}
use Rattle.log_story.specs.Headline.{tale_of}
use Rattle.log_story.specs.Plan.{Plan, StepText}
use Rattle.log_story.specs.Servers.{begins, entered_by, heard_by, hears, kind_by, may_begin, quits_for, read_as, reads_on, reset_by, runs_first, step_for, with_run, writes}
use Rattle.log_story.specs.Tale.{Client, Tale, Wire, client_gets, client_hears, is_reset_step, is_to_server, link_in, new_wire, tell, with_wire}
use Rattle.log_story.specs.Telling.{is_lost_or_left, server_says, tale_step, told, wire_with}
use Rattle.private_model.specs.Story.{command_of}
use Rattle.step_laws.proofs.Seating.{counted_seats}
use Rattle.step_laws.specs.Seats.{IsSeated}
use Rattle.tale_world.proofs.Links.{step_of}
use Rattle.tale_world.specs.Decided.{Decided}
use Rattle.core_laws.specs.clients.Turns.{Rests}
use Rattle.core_laws.proofs.OfEntry.Going.{tale_more}
use Rattle.core_laws.specs.entry.Cores.{with_entry}
use Rattle.router_laws.proofs.OfDecisions.Fates.{false_true}
use Rattle.router_laws.proofs.OfDecisions.Keeping.{begun_among}
use Rattle.router_laws.proofs.OfDecisions.Listing.{counted_below, is_tale_of, opened_new}
use Rattle.router_laws.specs.decisions.Counting.{BeginsSo, TakesSo}
use Rattle.router_laws.specs.decisions.Deeds.{Counts, Deeds, begun_at, counts_with, is_opened, known_with, taken_by}
use Rattle.router_laws.specs.decisions.Records.{AreCountsOf, IsRecorded}

-- How many questions were begun on a link: what is read there, and what goes on there, leaves it.

module _ (l : LinkId) where
  abbrev pub at : Tale → ℕ
  at tale = (tale.wires l).begun

  if_at : (k : ℕ) (b : Bool) (x y : Tale) → at x ≡ k → at y ≡ k → at (if b then x else y) ≡ k
  if_at k true x y one other = one
  if_at k false x y one other = other

  wire_at : (link : LinkId) (wire : Wire) (tale : Tale) → wire.begun ≡ (tale.wires link).begun → at (with_wire link wire tale) ≡ at tale
  wire_at link wire tale same = by (is_link_id l link) refl where
    by : (b : Bool) → is_link_id l link ≡ b → (if b then wire else tale.wires l).begun ≡ (tale.wires l).begun
    by true is =
        let number : l.0 ≡ link.0 = eqb-true l.0 link.0 is in same ∙ ap (λ (k : ℕ). (tale.wires (record { 0 = k })).begun) (sym number)
    by false other = refl

  module _ (link : LinkId) (wire : Wire) (tale : Tale) (same : wire.begun ≡ (tale.wires link).begun) where
    entered_at : (plan : Plan) (said : Opening) → at (entered_by plan link wire said tale) ≡ at tale
    entered_at plan (LogsIn said rest) = wire_at link (record wire { entered = true; unread = rest; written = [] }) tale same
    entered_at plan (Goes said) = wire_at link wire tale same
    entered_at plan (Fails said fault) = wire_at link wire tale same

    reset_at : (ending : Ending) → at (reset_by link wire ending tale) ≡ at tale
    reset_at (Ended end rest) = wire_at link (record wire { unread = rest; written = []; step = None }) tale same
    reset_at (Going state) = wire_at link wire tale same
    reset_at (Failed rest) = wire_at link wire tale same

    heard_at : (question : Question) (ending : Ending) → at (heard_by link question wire ending tale) ≡ at tale
    heard_at question (Ended end rest) = wire_at link (record wire { unread = rest; written = [] }) tale same
    heard_at question (Going state) = wire_at link wire tale same
    heard_at question (Failed rest) = wire_at link wire tale same

    hears_at : (stage : Stage) → at (hears link wire stage tale) ≡ at tale
    hears_at Quiet = wire_at link wire tale same
    hears_at (Asked question) = wire_at link wire tale same
    hears_at (Answered question) = heard_at question (read_as (kind_by (command_of question)) wire)

  runs_wires : (stage : Stage) (link : LinkId) (tale : Tale) → (runs_first stage link tale).wires ≡ tale.wires
  runs_wires Quiet link tale = refl
  runs_wires (Asked question) link tale = refl
  runs_wires (Answered question) link tale = refl

  says_at : (setup : Setup) (plan : Plan) (link : LinkId) (bytes : List ℕ) (tale : Tale) → at (server_says setup plan link bytes tale) ≡ at tale
  says_at setup plan link bytes tale =
      let wire : Wire = wire_with tale link bytes in
      let run : (with_run setup link tale).wires ≡ tale.wires = runs_wires (link_in setup tale link).stage link tale in
      if_at (at tale) (not (tale.wires link).entered) (entered_by plan link wire (opening (plan.logins link) wire.unread) tale) _
      (entered_at link wire tale refl plan (opening (plan.logins link) wire.unread))
      (if_at (at tale) (is_reset_step (tale.wires link).step) (reset_by link wire (read_as kind.Command wire) tale) (reads_on setup link wire tale)
      (reset_at link wire tale refl (read_as kind.Command wire))
      (hears_at link wire (with_run setup link tale) (sym (ap (λ (wires : LinkId → Wire). (wires link).begun) run))
      (link_in setup (with_run setup link tale) link).stage
      ∙ ap (λ (wires : LinkId → Wire). (wires l).begun) run))

  leaving_at : (link : LinkId) (xs : List Client) (tale : Tale) → at (fold (client_leaves link) tale xs) ≡ at tale
  leaving_at link [] tale = refl
  leaving_at link (x ∷ xs) tale =
      leaving_at link xs (client_leaves link tale x) ∙ if_at (at tale) (is_link_id x.link link) (tell (Left x.number) tale) tale refl refl

  lost_at : (link : LinkId) (tale : Tale) → at (is_lost_or_left link tale) ≡ at tale
  lost_at link tale =
      if_at (at tale) (is_to_server tale link) (tell (Gone link) tale) (fold (client_leaves link) tale tale.clients) refl (leaving_at link tale.clients tale)

-- What an entry makes of it.

module _ (setup : Setup) (plan : Plan) (d : Decided) (n : Counts) (log : Log) (e : Entry) (deeds : Deeds) (recorded : IsRecorded d n log)
    (counts : AreCountsOf n (tale_of setup plan log)) where
  abbrev old : Tale
  old = tale_of setup plan log

  abbrev IsBegun : Entry → LinkId → Tale → Type 0
  IsBegun by l new = at l new ≡ (if is_some (begun_at log by deeds l) then suc (n.begun l) else n.begun l)

  to_server : (l : LinkId) → is_to_server old l ≡ is_opened l log
  to_server l = ap (λ (links : List LinkId). list_any (is_link_id l) links) (is_tale_of setup plan log).links

  opens_at : (server : ServerId) (link l : LinkId) → is_opened link log ≡ false → at l (with_wire link (new_wire server) (record old { links = old.links ++ link ∷ [] })) ≡ n.begun l
  opens_at server link l new = by (is_link_id l link) refl where
    by : (b : Bool) → is_link_id l link ≡ b → (if b then new_wire server else old.wires l).begun ≡ n.begun l
    by true is =
        let number : l.0 ≡ link.0 = eqb-true l.0 link.0 is in
        let zero : n.begun link ≡ 0 = (recorded.unopened link new).unbegun in
        sym zero ∙ ap (λ (k : ℕ). n.begun (record { 0 = k })) (sym number)
    by false other = counts.begun l

  module _ (link : LinkId) (for : Tag) (bytes : List ℕ) (l : LinkId) where
    abbrev wire : Wire
    wire = old.wires link

    abbrev step : StepText
    step = plan.steps link wire.begun

    abbrev begun_wire : Wire
    begun_wire = record wire { written = bytes; step = step_for for step; begun = suc wire.begun; quits = wire.quits || quits_for for step }

    abbrev more_wire : Wire
    more_wire = record wire { written = wire.written ++ bytes }

    one_begun : (its : Bool) → is_link_id l link ≡ its
        → (if its then begun_wire else old.wires l).begun ≡ (if its then suc (n.begun l) else n.begun l)
    one_begun true is =
        let number : l.0 ≡ link.0 = eqb-true l.0 link.0 is in
        ap suc (ap (λ (k : ℕ). (old.wires (record { 0 = k })).begun) (sym number) ∙ counts.begun l)
    one_begun false other = counts.begun l

    -- whether a question begins, as was decided

    at_if : (begins its : Bool) (found : Option (Option StepText)) → begins ≡ is_some found
        → (if begins then (if its then suc (n.begun l) else n.begun l) else n.begun l)
        ≡ (if is_some (if its && true then found else None) then suc (n.begun l) else n.begun l)
    at_if true true (Some x) is = refl
    at_if true true None is = false_true true is refl
    at_if true false found is = refl
    at_if false true None is = refl
    at_if false true (Some x) is = false_true false refl is
    at_if false false found is = refl

    may_at : (may : Bool) → at l (if may then begins setup plan link for bytes wire old else with_wire link more_wire old)
        ≡ (if may then (if is_link_id l link then suc (n.begun l) else n.begun l) else n.begun l)
    may_at true = one_begun (is_link_id l link) refl
    may_at false = wire_at l link more_wire old refl ∙ counts.begun l

    -- on a link to a server, and on a client's
    wrote_at : (there : Bool) → is_to_server old link ≡ there → (is_to_server old link ≡ true → may_begin setup link wire old ≡ is_some deeds.begun)
        → at l (if there then writes setup plan link for bytes wire old else record old { clients = map (client_gets link (length bytes)) old.clients })
        ≡ (if is_some (begun_at log (entry.Wrote link for bytes) deeds l) then suc (n.begun l) else n.begun l)
    wrote_at true is begins =
        may_at (may_begin setup link wire old) ∙ at_if (may_begin setup link wire old) (is_link_id l link) deeds.begun (begins is)
        ∙ by (is_link_id l link) refl where
          by : (its : Bool) → is_link_id l link ≡ its
              → (if is_some (if its && true then deeds.begun else None) then suc (n.begun l) else n.begun l)
              ≡ (if is_some (if its && is_opened l log then deeds.begun else None) then suc (n.begun l) else n.begun l)
          by true same =
              let number : l.0 ≡ link.0 = eqb-true l.0 link.0 same in
              let opened : is_opened l log ≡ true =
              ap (λ (k : ℕ). is_opened (record { 0 = k }) log) number ∙ sym (to_server link) ∙ is in
              ap (λ (b : Bool). if is_some (if b then deeds.begun else None) then suc (n.begun l) else n.begun l) (sym opened)
          by false other = refl
    wrote_at false isnt begins =
        counts.begun l ∙ by (is_link_id l link) refl where
          by : (its : Bool) → is_link_id l link ≡ its
              → n.begun l ≡ (if is_some (if its && is_opened l log then deeds.begun else None) then suc (n.begun l) else n.begun l)
          by true same =
              let number : l.0 ≡ link.0 = eqb-true l.0 link.0 same in
              let unopened : is_opened l log ≡ false =
              ap (λ (k : ℕ). is_opened (record { 0 = k }) log) number ∙ sym (to_server link) ∙ isnt in
              ap (λ (b : Bool). if is_some (if b then deeds.begun else None) then suc (n.begun l) else n.begun l) (sym unopened)
          by false other = refl

  told_at : (by : Entry) (l : LinkId) → Fits log by → BeginsSo setup old by deeds → IsBegun by l (told setup plan old by)
  told_at (entry.Opened server address link) l fits begins = opens_at server link l (opened_new log link fits.above)
  told_at (entry.Got link bytes) l fits begins =
      if_at l (at l old) (is_to_server old link) (server_says setup plan link bytes old) (record old { clients = map (client_hears link bytes) old.clients })
      (says_at l setup plan link bytes old) refl
      ∙ counts.begun l
  told_at (entry.Wrote link for bytes) l fits begins = wrote_at link for bytes l (is_to_server old link) refl begins
  told_at (entry.Exec link) l fits begins =
      if_at l (at l old) (old.wires link).entered (tell (if (old.wires link).quits then Dropped link else Ran link) old) old refl refl ∙ counts.begun l
  told_at (entry.Ended link) l fits begins = lost_at l link old ∙ counts.begun l
  told_at (entry.ReadFailed link) l fits begins = lost_at l link old ∙ counts.begun l
  told_at (entry.WriteFailed link) l fits begins = lost_at l link old ∙ counts.begun l
  told_at (entry.Closed link) l fits begins = lost_at l link old ∙ counts.begun l
  told_at _ l fits begins = counts.begun l

  -- All counts.

  module _ (may : MayFollow log e) (takes : TakesSo n deeds (tale_step setup plan old e)) (begins : BeginsSo setup old e deeds) where
    abbrev new : Tale
    new = tale_of setup plan (with_entry log e)

    begun_then : (l : LinkId) → at l (tale_step setup plan old e) ≡ (counts_with deeds n log e).begun l
    begun_then l = step_of (at l) (λ story t. refl) (λ clients t. refl) setup plan old e ∙ told_at e l may.fits begins
        ∙ ap (λ (o : Option (Option StepText)). if is_some o then suc (n.begun l) else n.begun l) (sym (begun_among (known_with log e) log e deeds l))

    known_new : (client : Client) → client.number.0 < 1 + length new.clients → nat_le client.number.0 (known_with log e) ≡ true
    known_new client less =
        let came : length new.clients ≡ known_with log e = (is_tale_of setup plan (with_entry log e)).clients in
        le-leb client.number.0 (known_with log e) (omega (arith, less, came))

    taken_then : (client : Client) → IsSeated new client → nat_le client.number.0 (known_with log e) ≡ true
        → client.taken ≡ (counts_with deeds n log e).taken client.number
    taken_then client seated came =
        takes client (subst (λ (tale : Tale). IsSeated tale client) (tale_more setup plan log e) seated)
        ∙ ap (λ (b : Bool). n.taken client.number + taken_by (if b then deeds.calls client.number else []) (if b then deeds.halts client.number else Rests))
        (sym came)

    pub counts_then : AreCountsOf (counts_with deeds n log e) new
    counts_then = record {
      taken = λ k dflt within.
          taken_then (slice_index_or new.clients k dflt) (counted_seats new (is_tale_of setup plan (with_entry log e)).counted k dflt within)
          (known_new (slice_index_or new.clients k dflt) (counted_below 1 new.clients (is_tale_of setup plan (with_entry log e)).counted k dflt within));
      begun = λ l. ap (at l) (tale_more setup plan log e) ∙ begun_then l;
    }
