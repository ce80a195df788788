-- What stands written on a link to a server was written there, so it has a tag.
use Rattle.std.specs.Prelude.{◌≡◌, ◌<◌, ℕ, suc, Bool, true, false, not, ◌||◌, fold, is_some, if◌then◌else◌, length, List, [], ◌∷◌, ◌++◌, Option, Some, None}
use Rattle.std.proofs.Common.{refl, sym, ap, ◌∙◌, subst, append_assoc, append-nil, arith}
use Rattle.mx_base.specs.declared.names.LinkId.{LinkId}
use Rattle.mx_base.specs.declared.tag.Tag.{Tag}
use Rattle.mx_wire.specs.Log as wire
use Rattle.mx_wire.specs.Log.{Log, is_link, of_link}
use Rattle.mx_wire.specs.declared.entry.Entry.{Entry}
use Rattle.mx_wire.specs.declared.entry.Entry.TheVariants as entry
use Rattle.private_model.proofs.Maps.{link_of}
use Rattle.private_model.specs.Story.{Question, command_of, is_link_id}
use Rattle.private_model.specs.View.{Answered, Asked, Quiet, Setup, Stage}
use Rattle.reply_track.specs.Runs.{Ending}
use Rattle.reply_track.specs.Runs.Ending.{Going, Ended, Failed}
use Rattle.reply_track.specs.declared.reply.ReplyKind.TheVariants as kind
use Rattle.server_side.specs.Login.{Opening, Goes, LogsIn, Fails, opening}
use Rattle.log_story.specs.Clients.{client_leaves}
use Rattle.log_story.specs.Plan.{Plan}
use Rattle.log_story.specs.Servers.{begins, entered_by, heard_by, hears, kind_by, may_begin, quits_for, read_as, reset_by, runs_first, step_for, with_run, writes}
use Rattle.log_story.specs.Tale.{Client, Tale, Wire, is_reset_step, is_to_server, link_in, new_wire, with_wire}
use Rattle.log_story.specs.Telling.{is_lost_or_left, server_says, tale_step, told, wire_with}
use Rattle.tale_world.proofs.Links.{step_of}
use Rattle.router_promises.specs.Tags.{last_tag, tag_step}
use Rattle.shared_router.specs.Fixed.{Fixed, setup_of}
use Rattle.shared_router.specs.Shared.{world_at}
use Rattle.shared_router.proofs.Growing.{tale_so}

-- what a wire may become as bytes are read there
pub record IsReadOn (P : Wire → Type 0) (w : Wire) : Type 0 where
  pub same : P w
  pub reads : (unread : List ℕ) → P (record w { unread = unread })
  pub enters : (unread : List ℕ) → P (record w { entered = true; unread = unread; written = [] })
  pub hears : (unread : List ℕ) → P (record w { unread = unread; written = [] })
  pub resets : (unread : List ℕ) → P (record w { unread = unread; written = []; step = None })

read_more : (P : Wire → Type 0) (w : Wire) (unread : List ℕ) → IsReadOn P w → IsReadOn P (record w { unread = unread })
read_more P w unread on = record { same = on.reads unread; reads = on.reads; enters = on.enters; hears = on.hears; resets = on.resets }

-- The wire of one link behind an entry.
module _ (setup : Setup) (plan : Plan) (l : LinkId) (P : Wire → Type 0) where
  abbrev At : Tale → Type 0
  At tale = P (tale.wires l)

  either : (b : Bool) (x y : Tale) → At x → At y → At (if b then x else y)
  either true x y first second = first
  either false x y first second = second

  -- a wire that is made of the link's own
  abbrev IsOf : LinkId → Wire → Type 0
  IsOf link w = is_link_id l link ≡ true → IsReadOn P w

  put_at : (link : LinkId) (w : Wire) (tale : Tale) → (is_link_id l link ≡ true → P w) → At tale → At (with_wire link w tale)
  put_at link w tale here at = by_test (is_link_id l link) refl where
    by_test : (b : Bool) → is_link_id l link ≡ b → P (if b then w else tale.wires l)
    by_test true same = here same
    by_test false apart = at

  entered_at : (link : LinkId) (w : Wire) (opened : Opening) (tale : Tale) → IsOf link w → At tale → At (entered_by plan link w opened tale)
  entered_at link w (LogsIn said rest) tale on at = put_at link (record w { entered = true; unread = rest; written = [] }) tale (λ here. (on here).enters rest) at
  entered_at link w (Goes said) tale on at = put_at link w tale (λ here. (on here).same) at
  entered_at link w (Fails said fault) tale on at = put_at link w tale (λ here. (on here).same) at

  reset_at : (link : LinkId) (w : Wire) (ending : Ending) (tale : Tale) → IsOf link w → At tale → At (reset_by link w ending tale)
  reset_at link w (Ended end rest) tale on at = put_at link (record w { unread = rest; written = []; step = None }) tale (λ here. (on here).resets rest) at
  reset_at link w (Going state) tale on at = put_at link w tale (λ here. (on here).same) at
  reset_at link w (Failed rest) tale on at = put_at link w tale (λ here. (on here).same) at

  heard_at : (link : LinkId) (question : Question) (w : Wire) (ending : Ending) (tale : Tale) → IsOf link w → At tale → At (heard_by link question w ending tale)
  heard_at link question w (Ended end rest) tale on at = put_at link (record w { unread = rest; written = [] }) tale (λ here. (on here).hears rest) at
  heard_at link question w (Going state) tale on at = put_at link w tale (λ here. (on here).same) at
  heard_at link question w (Failed rest) tale on at = put_at link w tale (λ here. (on here).same) at

  hears_at : (link : LinkId) (w : Wire) (stage : Stage) (tale : Tale) → IsOf link w → At tale → At (hears link w stage tale)
  hears_at link w (Answered question) tale on at = heard_at link question w (read_as (kind_by (command_of question)) w) tale on at
  hears_at link w Quiet tale on at = put_at link w tale (λ here. (on here).same) at
  hears_at link w (Asked question) tale on at = put_at link w tale (λ here. (on here).same) at

  runs_at : (stage : Stage) (link : LinkId) (tale : Tale) → At tale → At (runs_first stage link tale)
  runs_at (Asked question) link tale at = at
  runs_at Quiet link tale at = at
  runs_at (Answered question) link tale at = at

  says_at : (link : LinkId) (bytes : List ℕ) (tale : Tale) → IsReadOn P (tale.wires l) → At (server_says setup plan link bytes tale)
  says_at link bytes tale on =
      let w : Wire = wire_with tale link bytes in
      let ran : Tale = with_run setup link tale in
      let there : IsOf link w =
      λ here. read_more P (tale.wires link) ((tale.wires link).unread ++ bytes) (subst (λ k. IsReadOn P (tale.wires k)) (link_of l link here) on) in
      either (not (tale.wires link).entered) _ _ (entered_at link w (opening (plan.logins link) w.unread) tale there on.same)
      (either (is_reset_step (tale.wires link).step) _ _ (reset_at link w (read_as kind.Command w) tale there on.same)
      (hears_at link w (link_in setup ran link).stage ran there (runs_at (link_in setup tale link).stage link tale on.same)))

  leaves_at : (link : LinkId) (xs : List Client) (tale : Tale) → At tale → At (fold (client_leaves link) tale xs)
  leaves_at link [] tale at = at
  leaves_at link (x ∷ xs) tale at = leaves_at link xs (client_leaves link tale x) (either (is_link_id x.link link) _ tale at at)

  lost_at : (link : LinkId) (tale : Tale) → At tale → At (is_lost_or_left link tale)
  lost_at link tale at = either (is_to_server tale link) _ _ at (leaves_at link tale.clients tale at)

  -- what is written there, or a link that comes, is looked at apart
  abbrev pub Comes : Tale → Entry → Type 0
  Comes tale (entry.Wrote link for bytes) = is_link_id l link ≡ true → At (writes setup plan link for bytes (tale.wires link) tale)
  Comes tale (entry.Opened server address link) = is_link_id l link ≡ true → P (new_wire server)
  Comes tale _ = Unit {0}

  writes_at : (link : LinkId) (for : Tag) (bytes : List ℕ) (tale : Tale) → Comes tale (entry.Wrote link for bytes) → At tale
      → At (writes setup plan link for bytes (tale.wires link) tale)
  writes_at link for bytes tale comes at = by_test (is_link_id l link) refl where
    w : Wire
    w = tale.wires link

    by_test : (b : Bool) → is_link_id l link ≡ b → At (writes setup plan link for bytes w tale)
    by_test true here = comes here
    by_test false apart =
        either (may_begin setup link w tale) (begins setup plan link for bytes w tale) _
        (put_at link (record w { written = bytes; step = step_for for (plan.steps link w.begun); begun = suc w.begun; quits = w.quits || quits_for for (plan.steps link w.begun) })
        tale (λ here. absurd (let never : false ≡ true = sym apart ∙ here in cc)) at)
        (put_at link (record w { written = w.written ++ bytes }) tale (λ here. absurd (let never : false ≡ true = sym apart ∙ here in cc)) at)

  told_at : (tale : Tale) (e : Entry) → IsReadOn P (tale.wires l) → Comes tale e → At (told setup plan tale e)
  told_at tale (entry.Opened server address link) on comes = put_at link (new_wire server) (record tale { links = tale.links ++ link ∷ [] }) comes on.same
  told_at tale (entry.Got link bytes) on comes = either (is_to_server tale link) _ _ (says_at link bytes tale on) on.same
  told_at tale (entry.Wrote link for bytes) on comes = either (is_to_server tale link) _ _ (writes_at link for bytes tale comes on.same) on.same
  told_at tale (entry.Exec link) on comes = either (tale.wires link).entered _ _ on.same on.same
  told_at tale (entry.Ended link) on comes = lost_at link tale on.same
  told_at tale (entry.ReadFailed link) on comes = lost_at link tale on.same
  told_at tale (entry.WriteFailed link) on comes = lost_at link tale on.same
  told_at tale (entry.Closed link) on comes = lost_at link tale on.same
  told_at tale _ on comes = on.same

  pub wire_at : (tale : Tale) (e : Entry) → IsReadOn P (tale.wires l) → Comes tale e → At (tale_step setup plan tale e)
  wire_at tale e on comes =
      subst (λ (f : LinkId → Wire). P (f l)) (sym (step_of (λ (t : Tale). t.wires) (λ past t. refl) (λ clients t. refl) setup plan tale e)) (told_at tale e on comes)

-- The tag of what was written last on a link.

module _ (l : LinkId) where
  abbrev HasTag : Log → Type 0
  HasTag log = is_some (last_tag l log) ≡ true

  tag_kept : (last : Option Tag) (e : Entry) → is_some last ≡ true → is_some (tag_step last e) ≡ true
  tag_kept last (entry.Wrote link tag bytes) is = refl
  tag_kept last _ is = is

  -- of the log and one entry more
  tags_by : (log : Log) (e : Entry) → last_tag l (log ++ e ∷ []) ≡ (if is_link l (wire.link_of e) then tag_step (last_tag l log) e else last_tag l log)
  tags_by log e = from log None where
    from : (xs : Log) (last : Option Tag)
        → fold tag_step last (of_link l (xs ++ e ∷ [])) ≡ (if is_link l (wire.link_of e) then tag_step (fold tag_step last (of_link l xs)) e else fold tag_step last (of_link l xs))
    from [] last = by_test (is_link l (wire.link_of e)) where
      by_test : (b : Bool) → fold tag_step last (if b then e ∷ [] else []) ≡ (if b then tag_step last e else last)
      by_test true = refl
      by_test false = refl
    from (x ∷ xs) last = by_test (is_link l (wire.link_of x)) (from xs) where
      by_test : (b : Bool) → ((was : Option Tag) → fold tag_step was (of_link l (xs ++ e ∷ []))
          ≡ (if is_link l (wire.link_of e) then tag_step (fold tag_step was (of_link l xs)) e else fold tag_step was (of_link l xs)))
          → fold tag_step last (if b then x ∷ of_link l (xs ++ e ∷ []) else of_link l (xs ++ e ∷ []))
          ≡ (if is_link l (wire.link_of e) then tag_step (fold tag_step last (if b then x ∷ of_link l xs else of_link l xs)) e else fold tag_step last (if b then x ∷ of_link l xs else of_link l xs))
      by_test true later = later (tag_step last x)
      by_test false later = later last

  tag_more : (log : Log) (e : Entry) → HasTag log → HasTag (log ++ e ∷ [])
  tag_more log e has = ap is_some (tags_by log e) ∙ by_test (is_link l (wire.link_of e)) where
    by_test : (b : Bool) → is_some (if b then tag_step (last_tag l log) e else last_tag l log) ≡ true
    by_test true = tag_kept (last_tag l log) e has
    by_test false = has

  tag_new : (log : Log) (link : LinkId) (for : Tag) (bytes : List ℕ) → is_link_id l link ≡ true → HasTag (log ++ entry.Wrote link for bytes ∷ [])
  tag_new log link for bytes here =
      ap is_some (tags_by log (entry.Wrote link for bytes)) ∙ ap (λ b. is_some (if b then Some for else last_tag l log)) here

  abbrev pub IsTagged : Log → Wire → Type 0
  IsTagged log w = 0 < length w.written → HasTag log

  module _ (fixed : Fixed) where
    tagged_step : (log : Log) (e : Entry) → IsTagged log ((world_at fixed log).tale.wires l) → IsTagged (log ++ e ∷ []) ((world_at fixed (log ++ e ∷ [])).tale.wires l)
    tagged_step log e was =
        let tale : Tale = (world_at fixed log).tale in
        let step = tale_so fixed log e in
        subst (λ (t : Tale). IsTagged (log ++ e ∷ []) (t.wires l)) (sym step.1)
        (wire_at (setup_of fixed) step.0 l (IsTagged (log ++ e ∷ [])) tale e (record {
          same = λ some. tag_more log e (was some);
          reads = λ unread some. tag_more log e (was some);
          enters = λ unread some. absurd (omega (arith, some));
          hears = λ unread some. absurd (omega (arith, some));
          resets = λ unread some. absurd (omega (arith, some));
        }) (comes step.0 tale e))
      where
        comes : (plan : Plan) (tale : Tale) (x : Entry) → Comes (setup_of fixed) plan l (IsTagged (log ++ x ∷ [])) tale x
        comes plan tale (entry.Wrote link for bytes) = λ here some. tag_new log link for bytes here
        comes plan tale (entry.Opened server address link) = λ here some. absurd (omega (arith, some))
        comes plan tale _ = tt

    tagged_from : (before later : Log) → IsTagged before ((world_at fixed before).tale.wires l) → IsTagged (before ++ later) ((world_at fixed (before ++ later)).tale.wires l)
    tagged_from before [] was = subst (λ (x : Log). IsTagged x ((world_at fixed x).tale.wires l)) (sym (append-nil before)) was
    tagged_from before (e ∷ later) was =
        subst (λ (x : Log). IsTagged x ((world_at fixed x).tale.wires l)) (append_assoc before (e ∷ []) later)
        (tagged_from (before ++ e ∷ []) later (tagged_step before e was))

    pub tagged_at : (log : Log) → IsTagged log ((world_at fixed log).tale.wires l)
    tagged_at log = tagged_from [] log (λ some. absurd (omega (arith, some)))
