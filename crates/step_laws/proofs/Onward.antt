-- Tales that tell the same in another order go on alike at each entry.
use Rattle.std.specs.Prelude.{◌≡◌, ◌-◌, ◌+◌, ℕ, suc, true, not, ◌&&◌, ◌||◌, fold, if◌then◌else◌, length, map, take, List, [], ◌∷◌, ◌++◌, None}
use Rattle.std.specs.List.{list_any}
use Rattle.std.proofs.Common.{refl, sym, ap, subst}
use Rattle.mx_base.specs.declared.tag.Tag.{Tag}
use Rattle.mx_wire.specs.Log.{Log}
use Rattle.mx_wire.specs.declared.entry.Entry.{Entry}
use Rattle.mx_wire.specs.declared.entry.Entry.TheVariants as entry
use Rattle.reply_track.specs.Runs.{Ending}
use Rattle.reply_track.specs.Runs.Ending.{Ended, Failed, Going}
use Rattle.reply_track.specs.declared.reply.ReplyKind.TheVariants as kind
use Rattle.server_side.specs.Login.{Fails, Goes, LogsIn, Opening, opening}
use Rattle.private_model.specs.Names.{LinkId}
use Rattle.private_model.specs.Story.{Dropped, Gone, Happening, Heard, Left, LoggedIn, Question, Ran, command_of, is_link_id, put}
use Rattle.private_model.specs.View.{Answered, Asked, Quiet, Setup, Stage, View}
use Rattle.log_story.specs.Clients.{client_leaves, clients_are_ended, clients_go_on}
use Rattle.log_story.specs.Plan.{Plan}
use Rattle.log_story.specs.Servers.{begins, begun_on, entered_by, heard_by, hears, kind_by, links_are_freed, logged_in_as, may_begin, read_as, reads_on, reply_in, reset_by, runs_first}
use Rattle.log_story.specs.Servers.{step_for, quits_for, is_quiet, tell_all, with_run, writes, written_in}
use Rattle.log_story.specs.Tale.{Client, Tale, Wire, client_gets, client_hears, is_reset_step, is_to_server, link_in, new_client, new_wire, tell, view_of, with_wire}
use Rattle.log_story.specs.Telling.{is_lost_or_left, server_says, tale_step, told}
use Rattle.server_rule.specs.Servers.{is_some_of}
use Rattle.step_laws.specs.Like.{IsLike}
use Rattle.step_laws.specs.Steps.{told_then}
use Rattle.step_laws.proofs.Likewise.{like_all, like_all_freed, like_ended, like_go_on, like_if, like_tell}

module _ (setup : Setup) where
  abbrev Like : Tale → Tale → Type 0
  Like old new = IsLike setup old new

  -- what is told of a value that both have
  by_same : {A : Type 0} (makes : A → Tale → Tale) → ((a : A) (old new : Tale) → Like old new → Like (makes a old) (makes a new))
      → (a b : A) → b ≡ a → (old new : Tale) → Like old new → Like (makes a old) (makes b new)
  by_same makes goes a b same old new like = subst (λ c. Like (makes a old) (makes c new)) (sym same) (goes a old new like)

  like_wire : (link : LinkId) (wire : Wire) (old new : Tale) → Like old new → Like (with_wire link wire old) (with_wire link wire new)
  like_wire link wire old new like = record {
    moment = like.moment;
    view = like.view;
    clients = like.clients;
    links = like.links;
    wires = ap (λ (wires : LinkId → Wire). put is_link_id wires link wire) like.wires;
  }

  like_seats : (f : List Client → List Client) (old new : Tale) → Like old new → Like (record old { clients = f old.clients }) (record new { clients = f new.clients })
  like_seats f old new like = record { moment = like.moment; view = like.view; clients = ap f like.clients; links = like.links; wires = like.wires }

  like_opened : (link : LinkId) (old new : Tale) → Like old new → Like (record old { links = old.links ++ link ∷ [] }) (record new { links = new.links ++ link ∷ [] })
  like_opened link old new like =
      record { moment = like.moment; view = like.view; clients = like.clients; links = ap (λ links. links ++ link ∷ []) like.links; wires = like.wires }

  like_tell_all : (es : List Happening) (old new : Tale) → Like old new → Like (tell_all es old) (tell_all es new)
  like_tell_all [] old new like = like
  like_tell_all (e ∷ es) old new like = like_tell setup e (tell_all es old) (tell_all es new) (like_tell_all es old new like)

  module _ (plan : Plan) (link : LinkId) where
    -- Bytes are read on a link.

    like_entered : (wire : Wire) (said : Opening) (old new : Tale) → Like old new → Like (entered_by plan link wire said old) (entered_by plan link wire said new)
    like_entered wire (LogsIn said rest) old new like =
        let now = record wire { entered = true; unread = rest; written = [] } in
        like_tell setup (LoggedIn link wire.server (logged_in_as (plan.logins link))) (with_wire link now old) (with_wire link now new) (like_wire link now old new like)
    like_entered wire (Goes said) old new like = like_wire link wire old new like
    like_entered wire (Fails said fault) old new like = like_wire link wire old new like

    like_reset : (wire : Wire) (ending : Ending) (old new : Tale) → Like old new → Like (reset_by link wire ending old) (reset_by link wire ending new)
    like_reset wire (Ended end rest) old new like = like_wire link (record wire { unread = rest; written = []; step = None }) old new like
    like_reset wire (Going state) old new like = like_wire link wire old new like
    like_reset wire (Failed rest) old new like = like_wire link wire old new like

    like_heard : (question : Question) (wire : Wire) (ending : Ending) (old new : Tale) → Like old new
        → Like (heard_by link question wire ending old) (heard_by link question wire ending new)
    like_heard question wire (Ended end rest) old new like =
        let said = record wire { unread = rest; written = [] } in
        like_tell setup (Heard link (reply_in wire question (take (length wire.unread - length rest) wire.unread))) (with_wire link said old) (with_wire link said new)
        (like_wire link said old new like)
    like_heard question wire (Going state) old new like = like_wire link wire old new like
    like_heard question wire (Failed rest) old new like = like_wire link wire old new like

    like_hears : (wire : Wire) (stage : Stage) (old new : Tale) → Like old new → Like (hears link wire stage old) (hears link wire stage new)
    like_hears wire (Answered question) old new like = like_heard question wire (read_as (kind_by (command_of question)) wire) old new like
    like_hears wire Quiet old new like = like_wire link wire old new like
    like_hears wire (Asked question) old new like = like_wire link wire old new like

    like_run : (stage : Stage) (old new : Tale) → Like old new → Like (runs_first stage link old) (runs_first stage link new)
    like_run (Asked question) old new like = like_tell setup (Ran link) old new like
    like_run Quiet old new like = like
    like_run (Answered question) old new like = like

    stage_same : (old new : Tale) → Like old new → (link_in setup new link).stage ≡ (link_in setup old link).stage
    stage_same old new like = λ i. ((like.view i).links link).stage

    like_reads : (wire : Wire) (old new : Tale) → Like old new → Like (reads_on setup link wire old) (reads_on setup link wire new)
    like_reads wire old new like =
        let run : Like (with_run setup link old) (with_run setup link new) =
        by_same (λ stage t. runs_first stage link t) like_run (link_in setup old link).stage (link_in setup new link).stage (stage_same old new like) old new like in
        by_same (λ stage t. hears link wire stage t) (like_hears wire) (link_in setup (with_run setup link old) link).stage
        (link_in setup (with_run setup link new) link).stage (stage_same (with_run setup link old) (with_run setup link new) run)
        (with_run setup link old) (with_run setup link new) run

    abbrev says_by : List ℕ → Wire → Tale → Tale
    says_by bytes was tale =
        let wire = record was { unread = was.unread ++ bytes } in
        if not was.entered then entered_by plan link wire (opening (plan.logins link) wire.unread) tale
        else if is_reset_step was.step then reset_by link wire (read_as kind.Command wire) tale
        else reads_on setup link wire tale

    like_says : (bytes : List ℕ) (was : Wire) (old new : Tale) → Like old new → Like (says_by bytes was old) (says_by bytes was new)
    like_says bytes was old new like =
        let wire : Wire = record was { unread = was.unread ++ bytes } in
        like_if setup (not was.entered) (not was.entered) refl (entered_by plan link wire (opening (plan.logins link) wire.unread) old)
        (if is_reset_step was.step then reset_by link wire (read_as kind.Command wire) old else reads_on setup link wire old)
        (entered_by plan link wire (opening (plan.logins link) wire.unread) new)
        (if is_reset_step was.step then reset_by link wire (read_as kind.Command wire) new else reads_on setup link wire new)
        (like_entered wire (opening (plan.logins link) wire.unread) old new like)
        (like_if setup (is_reset_step was.step) (is_reset_step was.step) refl (reset_by link wire (read_as kind.Command wire) old) (reads_on setup link wire old)
        (reset_by link wire (read_as kind.Command wire) new) (reads_on setup link wire new)
        (like_reset wire (read_as kind.Command wire) old new like) (like_reads wire old new like))

    wire_same : (old new : Tale) → Like old new → new.wires link ≡ old.wires link
    wire_same old new like = λ i. like.wires i link

    like_server_says : (bytes : List ℕ) (old new : Tale) → Like old new → Like (server_says setup plan link bytes old) (server_says setup plan link bytes new)
    like_server_says bytes old new like =
        by_same (says_by bytes) (like_says bytes) (old.wires link) (new.wires link) (wire_same old new like) old new like

    -- Bytes are written there.

    abbrev begun_wire : Tag → List ℕ → Wire → Wire
    begun_wire for bytes wire =
        let step = plan.steps link wire.begun in
        record wire { written = bytes; step = step_for for step; begun = suc wire.begun; quits = wire.quits || quits_for for step }

    like_begins : (for : Tag) (bytes : List ℕ) (wire : Wire) (old new : Tale) → Like old new → Like (begins setup plan link for bytes wire old) (begins setup plan link for bytes wire new)
    like_begins for bytes wire old new like =
        by_same (λ es t. tell_all es t) like_tell_all (begun_on setup plan old.moment (view_of setup old) link wire for)
        (begun_on setup plan new.moment (view_of setup new) link wire for)
        (λ i. begun_on setup plan (like.moment i) (like.view i) link wire for)
        (with_wire link (begun_wire for bytes wire) old) (with_wire link (begun_wire for bytes wire) new) (like_wire link (begun_wire for bytes wire) old new like)

    like_writes : (for : Tag) (bytes : List ℕ) (wire : Wire) (old new : Tale) → Like old new
        → Like (writes setup plan link for bytes wire old) (writes setup plan link for bytes wire new)
    like_writes for bytes wire old new like =
        like_if setup (may_begin setup link wire old) (may_begin setup link wire new)
        (ap (λ stage. wire.entered && (is_quiet stage && (not (is_some_of (written_in wire.written).rest) && not (is_reset_step wire.step)))) (stage_same old new like))
        (begins setup plan link for bytes wire old) (with_wire link (record wire { written = wire.written ++ bytes }) old)
        (begins setup plan link for bytes wire new) (with_wire link (record wire { written = wire.written ++ bytes }) new)
        (like_begins for bytes wire old new like) (like_wire link (record wire { written = wire.written ++ bytes }) old new like)

    -- The link is lost, or its server runs something.

    to_server_same : (old new : Tale) → Like old new → is_to_server new link ≡ is_to_server old link
    to_server_same old new like = ap (list_any (is_link_id link)) like.links

    like_leaves : (client : Client) (old new : Tale) → Like old new → Like (client_leaves link old client) (client_leaves link new client)
    like_leaves client old new like =
        like_if setup (is_link_id client.link link) (is_link_id client.link link) refl (tell (Left client.number) old) old (tell (Left client.number) new) new
        (like_tell setup (Left client.number) old new like) like

    like_lost : (old new : Tale) → Like old new → Like (is_lost_or_left link old) (is_lost_or_left link new)
    like_lost old new like =
        like_if setup (is_to_server old link) (is_to_server new link) (to_server_same old new like) (tell (Gone link) old) (fold (client_leaves link) old old.clients)
        (tell (Gone link) new) (fold (client_leaves link) new new.clients) (like_tell setup (Gone link) old new like)
        (like_all setup (client_leaves link) like_leaves old.clients new.clients like.clients old new like)

    abbrev runs_by : Wire → Tale → Tale
    runs_by wire tale = if wire.entered then tell (if wire.quits then Dropped link else Ran link) tale else tale

    like_runs : (wire : Wire) (old new : Tale) → Like old new → Like (runs_by wire old) (runs_by wire new)
    like_runs wire old new like =
        let e : Happening = if wire.quits then Dropped link else Ran link in
        like_if setup wire.entered wire.entered refl (tell e old) old (tell e new) new (like_tell setup e old new like) like

  -- Each entry.

  module _ (plan : Plan) where
    pub like_told : (e : Entry) (old new : Tale) → Like old new → Like (told setup plan old e) (told setup plan new e)
    like_told (entry.Accepted port link salt) old new like =
        like_seats (λ cs. cs ++ new_client (length cs + 1) port link salt ∷ []) old new like
    like_told (entry.Opened server address link) old new like =
        like_wire link (new_wire server) (record old { links = old.links ++ link ∷ [] }) (record new { links = new.links ++ link ∷ [] }) (like_opened link old new like)
    like_told (entry.Got link bytes) old new like =
        like_if setup (is_to_server old link) (is_to_server new link) (to_server_same plan link old new like) (server_says setup plan link bytes old)
        (record old { clients = map (client_hears link bytes) old.clients }) (server_says setup plan link bytes new)
        (record new { clients = map (client_hears link bytes) new.clients }) (like_server_says plan link bytes old new like)
        (like_seats (map (client_hears link bytes)) old new like)
    like_told (entry.Wrote link for bytes) old new like =
        like_if setup (is_to_server old link) (is_to_server new link) (to_server_same plan link old new like) (writes setup plan link for bytes (old.wires link) old)
        (record old { clients = map (client_gets link (length bytes)) old.clients }) (writes setup plan link for bytes (new.wires link) new)
        (record new { clients = map (client_gets link (length bytes)) new.clients })
        (by_same (writes setup plan link for bytes) (like_writes plan link for bytes) (old.wires link) (new.wires link) (wire_same plan link old new like) old new like)
        (like_seats (map (client_gets link (length bytes))) old new like)
    like_told (entry.Exec link) old new like =
        by_same (runs_by plan link) (like_runs plan link) (old.wires link) (new.wires link) (wire_same plan link old new like) old new like
    like_told (entry.Drop link) old new like = like_tell setup (Dropped link) old new like
    like_told (entry.Ended link) old new like = like_lost plan link old new like
    like_told (entry.ReadFailed link) old new like = like_lost plan link old new like
    like_told (entry.WriteFailed link) old new like = like_lost plan link old new like
    like_told (entry.Closed link) old new like = like_lost plan link old new like
    like_told _ old new like = like

    like_told_then : (e : Entry) (old new : Tale) → Like old new → Like (told_then setup plan old e) (told_then setup plan new e)
    like_told_then e old new like =
        let one = like_told e old new like in
        record { moment = ap (λ n. suc n) one.moment; view = one.view; clients = one.clients; links = one.links; wires = one.wires }

    pub like_step : (e : Entry) (old new : Tale) → Like old new → Like (tale_step setup plan old e) (tale_step setup plan new e)
    like_step e old new like =
        let freed : Tale → Tale = λ t. links_are_freed setup plan (told_then setup plan t e) in
        let first : Like (freed old) (freed new) =
        like_all_freed setup plan (told_then setup plan old e) (told_then setup plan new e) (like_told_then e old new like) in
        let gone : Like (clients_go_on setup plan (view_of setup old) e (freed old)) (clients_go_on setup plan (view_of setup new) e (freed new)) =
        by_same (λ (view : View) t. clients_go_on setup plan view e t) (λ view. like_go_on setup plan view e) (view_of setup old) (view_of setup new) like.view
        (freed old) (freed new) first in
        like_all_freed setup plan (clients_are_ended plan (clients_go_on setup plan (view_of setup old) e (freed old)))
        (clients_are_ended plan (clients_go_on setup plan (view_of setup new) e (freed new)))
        (like_ended setup plan (clients_go_on setup plan (view_of setup old) e (freed old)) (clients_go_on setup plan (view_of setup new) e (freed new)) gone)

    pub like_log : (log : Log) (old new : Tale) → Like old new → Like (fold (tale_step setup plan) old log) (fold (tale_step setup plan) new log)
    like_log [] old new like = like
    like_log (e ∷ log) old new like = like_log log (tale_step setup plan old e) (tale_step setup plan new e) (like_step e old new like)
