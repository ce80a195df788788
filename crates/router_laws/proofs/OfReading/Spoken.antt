-- Behind bytes on a link to a server the router said on each link what there is to say: on that one by its row, on others as before.
use Rattle.std.specs.Prelude.{◌≡◌, ◌⊎◌, ℕ, Bool, true, false, not, if◌then◌else◌, is_some, map, List, [], Option, Some, None}
use Rattle.std.specs.List.{list_any}
use Rattle.std.proofs.Common.{refl, sym, ap, ◌∙◌, subst, inl, inr}
use Rattle.std.proofs.lemmas.Bool.{false≢true, true≢false}
use Rattle.std.proofs.lemmas.Option.{none-some}
use Rattle.mx_wire.specs.declared.entry.Entry.{Entry}
use Rattle.mx_wire.specs.declared.entry.Entry.TheVariants as entry
use Rattle.client_session.specs.Setups.{Setup as Service}
use Rattle.reply_track.specs.Runs.{Ending}
use Rattle.reply_track.specs.Runs.Ending.{Going, Ended, Failed}
use Rattle.reply_track.specs.declared.reply.ReplyKind.TheVariants as kind
use Rattle.server_side.specs.Login.{Opening, opening}
use Rattle.private_model.proofs.Maps.{link_of, same_link}
use Rattle.private_model.specs.Names.{LinkId}
use Rattle.private_model.specs.Story.{Question, command_of, is_link_id, put}
use Rattle.private_model.specs.View.{Answered, Asked, Quiet, Setup, Stage}
use Rattle.log_story.specs.Plan.{Plan}
use Rattle.log_story.specs.Servers.{entered_by, heard_by, hears, kind_by, read_as, reset_by, runs_first, with_run}
use Rattle.log_story.specs.Tale as tales
use Rattle.log_story.specs.Tale.{Tale, Wire, client_hears, is_reset_step, is_to_server, link_in, with_wire}
use Rattle.log_story.specs.Telling.{server_says, tale_step, told, wire_with}
use Rattle.tale_world.proofs.Links.{step_of}
use Rattle.core_tables.specs.Tables.{Tabled}
use Rattle.core_tables.specs.declared.server.Server.{Server}
use Rattle.core_laws.specs.entry.Speaks.{IsSilent, IsSilentOrSpoken, IsSpoken}

-- Once the router is logged in there, it stays so.

wire_put : (wires : LinkId → Wire) (l : LinkId) (wire : Wire) → wire.entered ≡ true → (put is_link_id wires l wire l).entered ≡ true
wire_put wires l wire is = ap (λ (b : Bool). (if b then wire else wires l).entered) (same_link l) ∙ is

module _ (setup : Setup) (plan : Plan) (tale : Tale) (l : LinkId) (bytes : List ℕ) (in_it : (tale.wires l).entered ≡ true) where
  abbrev wire : Wire
  wire = wire_with tale l bytes

  abbrev Enters : Tale → Type 0
  Enters x = (x.wires l).entered ≡ true

  reset_in : (ending : Ending) → Enters (reset_by l wire ending tale)
  reset_in (Ended end rest) = wire_put tale.wires l (record wire { unread = rest; written = []; step = None }) in_it
  reset_in (Going state) = wire_put tale.wires l wire in_it
  reset_in (Failed rest) = wire_put tale.wires l wire in_it

  heard_in : (question : Question) (ending : Ending) (x : Tale) → Enters (heard_by l question wire ending x)
  heard_in question (Ended end rest) x = wire_put x.wires l (record wire { unread = rest; written = [] }) in_it
  heard_in question (Going state) x = wire_put x.wires l wire in_it
  heard_in question (Failed rest) x = wire_put x.wires l wire in_it

  hears_in : (stage : Stage) (x : Tale) → Enters (hears l wire stage x)
  hears_in Quiet x = wire_put x.wires l wire in_it
  hears_in (Asked question) x = wire_put x.wires l wire in_it
  hears_in (Answered question) x = heard_in question (read_as (kind_by (command_of question)) wire) x

  second_in : (b : Bool) (x y : Tale) → b ≡ false → Enters y → Enters (if b then x else y)
  second_in false x y is second = second
  second_in true x y is second = absurd (true≢false is)

  both_in : (b : Bool) (x y : Tale) → Enters x → Enters y → Enters (if b then x else y)
  both_in true x y first second = first
  both_in false x y first second = second

  says_in : Enters (server_says setup plan l bytes tale)
  says_in =
      second_in (not (tale.wires l).entered) _ _ (ap not in_it)
      (both_in (is_reset_step (tale.wires l).step) _ _ (reset_in (read_as kind.Command wire))
      (hears_in (link_in setup (with_run setup l tale) l).stage (with_run setup l tale)))

  told_in : is_to_server tale l ≡ true → Enters (told setup plan tale (entry.Got l bytes))
  told_in there =
      subst (λ (b : Bool). Enters (if b then server_says setup plan l bytes tale
      else record tale { clients = map (client_hears l bytes) tale.clients })) (sym there) says_in

module _ (setup : Setup) (plan : Plan) (tale : Tale) (l : LinkId) (bytes : List ℕ) (there : is_to_server tale l ≡ true) (now : Tabled)
    (kept : is_some (now.links l) ≡ true) where
  abbrev e : Entry
  e = entry.Got l bytes

  abbrev behind : Tale
  behind = tale_step setup plan tale e

  out_before : ((told setup plan tale e).wires l).entered ≡ false → (b : Bool) → (tale.wires l).entered ≡ b → (tale.wires l).entered ≡ false
  out_before out false is = is
  out_before out true is = absurd (true≢false (sym (told_in setup plan tale l bytes is there) ∙ out))

  wires_same : behind.wires ≡ (told setup plan tale e).wires
  wires_same = step_of (λ (x : Tale). x.wires) (λ story x. refl) (λ clients x. refl) setup plan tale e

  spoken_row : (found : Option Server) → now.links l ≡ found → is_some found ≡ true → ((told setup plan tale e).wires l).entered ≡ true
      → IsSpoken now behind l
  spoken_row None at some in_it = absurd (false≢true some)
  spoken_row (Some server) at some in_it = record {
    server = server;
    there = at;
    well = λ out. absurd (true≢false (sym in_it ∙ sym (ap (λ (w : LinkId → Wire). (w l).entered) wires_same) ∙ out));
  }

  here : (b : Bool) → ((told setup plan tale e).wires l).entered ≡ b → (other : LinkId) → is_link_id other l ≡ true → is_to_server tale other ≡ true
      → IsSilentOrSpoken setup plan tale e behind now other
  here true in_it other same server =
      inr (subst (λ (k : LinkId). IsSpoken now behind k) (sym (link_of other l same)) (spoken_row (now.links l) refl kept in_it))
  here false out other same server =
      inl (
        server,
        λ is. record {
          before = ap (λ (k : LinkId). (tale.wires k).entered) (link_of other l same) ∙ out_before out (tale.wires l).entered refl;
          behind = ap (λ (k : LinkId). ((told setup plan tale e).wires k).entered) (link_of other l same) ∙ out;
        },
      )

  by_link : (other : LinkId) (b : Bool) → is_link_id other l ≡ b → is_to_server tale other ≡ true → IsSilentOrSpoken setup plan tale e behind now other
  by_link other true same server = here ((told setup plan tale e).wires l).entered refl other same server
  by_link other false aside server = inl (server, λ same. absurd (true≢false (sym same ∙ aside)))

  pub all_spoken : behind.links ≡ tale.links → (other : LinkId) → is_to_server behind other ≡ true
      → IsSilentOrSpoken setup plan tale e behind now other
  all_spoken links other server =
      by_link other (is_link_id other l) refl (ap (list_any (is_link_id other)) (sym links) ∙ server)
