-- Tables stand for a tale that is another but for the order in which that tells it.
use Rattle.std.specs.Prelude.{◌≡◌, ◌||◌, ℕ, zero, suc, Bool, true, false, is_some, Option, Some, None}
use Rattle.std.proofs.Common.{refl, sym, ap, ◌∙◌, subst}
use Rattle.client_session.specs.Setups.{Setup as Service}
use Rattle.private_model.specs.Lawful.{IsLawful}
use Rattle.private_model.specs.Names.{LinkId}
use Rattle.private_model.specs.Story as story
use Rattle.private_model.specs.Story.{Due, Question}
use Rattle.private_model.specs.View.{View, present}
use Rattle.tale_world.specs.Tests.{is_told_key}
use Rattle.log_story.specs.Clients.{is_answered}
use Rattle.log_story.specs.Owed.{due_bytes, name_of}
use Rattle.log_story.specs.Plan.{own_at}
use Rattle.log_story.specs.Tale as tales
use Rattle.log_story.specs.Tale.{Tale, is_to_server}
use Rattle.link_state.specs.declared.asking.Asking.{Asking}
use Rattle.link_state.specs.declared.asking.Purpose.{Purpose}
use Rattle.link_state.specs.declared.asking.Purpose.TheVariants as purposes
use Rattle.link_state.specs.declared.state.Stage.{Stage}
use Rattle.link_state.specs.declared.state.Stage.TheVariants.{Quiet, Asked, Answered}
use Rattle.lent_link.specs.declared.link.Begins.{Begins}
use Rattle.lent_link.specs.declared.link.Begins.TheVariants as begins
use Rattle.served_link.specs.declared.row.Row.{Row}
use Rattle.row_laws.specs.Begins.{IsReadied}
use Rattle.row_laws.specs.Rows.{IsRow}
use Rattle.client_seat.specs.Seats.{is_ended}
use Rattle.client_seat.specs.Stands.{due_so_far}
use Rattle.client_desk.specs.declared.work.Work.{Work}
use Rattle.desk_laws.specs.Stands.{AreToCome, IsDesk}
use Rattle.step_laws.specs.Like.{IsLike}
use Rattle.core_tables.specs.Tables.{Tabled}
use Rattle.core_tables.specs.declared.client.Client.{Client}
use Rattle.core_tables.specs.declared.server.Server.{Server}
use Rattle.core_stands.specs.Clients.{IsClient, IsClientOr, IsPhase, IsWorkingOr}
use Rattle.core_stands.specs.Grounds.{Ground, on, view_on}
use Rattle.core_stands.specs.Servers.{IsNextFor, IsNextOf, IsReplyingAt, IsReplyingFor, IsServer, IsServerBy, IsAhead, OfLent, keyed_text}
use Rattle.core_stands.specs.Stands.{Stands, AreDuly}
use Rattle.core_laws.proofs.OfParting.Grounds.{parted_after, taken_after}
use Rattle.core_laws.proofs.OfParting.Moving.{stands_moved}
use Rattle.core_laws.proofs.OfParting.Owing.{owing_alike}
use Rattle.core_laws.proofs.OfParting.Standing.{stand_so, standing_at}
use Rattle.core_laws.proofs.OfPrepared.Rows.{are_prepared, owns_stay, rows_same}

-- By another story, of which the same is known.

module _ (g : Ground) (told : story.Story) (same : view_on g ≡ view_on (on g (record g.tale { story = told }))) where
  abbrev after : Ground
  after = record g { tale = record g.tale { story = told; moment = g.tale.moment }; over = g.over }

  answered_same : (client : tales.Client) (ordinal : ℕ) → is_answered g.plan g.tale (view_on g) client ordinal
      ≡ is_answered g.plan after.tale (view_on after) client ordinal
  answered_same client zero = refl
  answered_same client (suc n) =
      ap (λ (v : View). is_some (own_at g.plan g.tale.moment (name_of client (suc n))) || is_some (v.replies (name_of client (suc n)))) same

  -- Clients.

  module _ (client : tales.Client) (row : Client) where
    working_same : (work : Option Work) → IsWorkingOr g client row work → IsWorkingOr after client row work
    working_same None is = is
    working_same (Some work) is = record {
      last = is.last;
      went = is.went;
      number = is.number;
      only = is.only;
      prepares = is.prepares;
      keyed = is.keyed;
      first = is.first;
      unsent = is.unsent;
      there = λ sent. is.there sent ∙ ap (λ (v : View). v.carriers (name_of client work.ordinal)) same;
    }

    phase_same : (ended : Bool) → IsPhase ended g client row → IsPhase ended after client row
    phase_same true is = record {
      over = is.over;
      idle = is.idle;
      told = λ some ordinal below. sym (answered_same client ordinal) ∙ is.told some ordinal below;
      homeless = is.homeless;
    }
    phase_same false is = record {
      going = is.going;
      earlier = λ ordinal below. sym (answered_same client ordinal) ∙ is.earlier ordinal below;
      answered = is.answered ∙ answered_same client client.taken;
      went = is.went;
      busy = is.busy;
      working = working_same row.desk.work is.working;
      unmoved = λ logging_in. ap (λ (v : View). v.places client.number) (sym same) ∙ is.unmoved logging_in;
      account = is.account;
      collation = is.collation;
    }

    client_same : IsClient g client row → IsClient after client row
    client_same is = record {
      who = is.who;
      heard = is.heard;
      owed = owing_alike g after client row.desk.seat.phase (g.fresh client.number) row.desk.seat
          (ap (λ (v : View). due_so_far (record { plan = g.plan; view = v; moment = g.tale.moment }) client) same)
          (λ ended. ap (λ (v : View). due_bytes v.replies g.plan g.tale.moment client) same) is.owed;
      desk = subst (λ (v : View). IsDesk g.setup.reads v client.number row.desk) same is.desk;
      coming = subst (λ (v : View). AreToCome v client.number (suc client.taken)) same is.coming;
      phase = phase_same (is_ended row.desk.seat.phase) is.phase;
    }

  found_same : (client : tales.Client) (found : Option Client) → IsClientOr g client found → IsClientOr after client found
  found_same client None is = record {
    over = is.over;
    homeless = λ h. ap (λ (v : View). (v.held (present v client.number h)).home) (sym same) ∙ is.homeless h;
  }
  found_same client (Some row) is = client_same client row is

  -- Links.

  module _ (t : Tabled) (l : LinkId) (row : Row) where
    readied_same : (asking : Asking) (question : Question) → IsReadied g.setup.reads g.codes row ((view_on g).links l) asking question
        → IsReadied g.setup.reads g.codes row ((view_on after).links l) asking question
    readied_same asking question is = subst (λ (v : View). IsReadied g.setup.reads g.codes row (v.links l) asking question) same is

    for_same : (purpose : Purpose) (asking : Asking) → IsNextFor purpose g t row ((view_on g).links l) asking
        → IsNextFor purpose after t row ((view_on after).links l) asking
    for_same (purposes.Statement n ordinal key) asking is = record {
      said = λ due there at.
          readied_same asking (story.Statement n due) (is.said due (ap (λ (v : View). v.dues n) same ∙ there) at);
      first = is.first;
      asked = λ due there at. is.asked due (ap (λ (v : View). v.dues n) same ∙ there) at;
      number = is.number;
      taken_up = taken_after g told g.tale.moment g.over n ordinal is.taken_up;
    }
    for_same (purposes.Prep n ordinal key) asking is = record {
      said = λ due there at.
          readied_same asking (story.Prep n due.key (keyed_text g due)) (is.said due (ap (λ (v : View). v.dues n) same ∙ there) at);
      told = λ due there at.
          ap (λ (v : View). is_told_key g.setup due.key (keyed_text g due) (v.links l).told) (sym same) ∙ is.told due (ap (λ (v : View). v.dues n) same ∙ there) at;
      taken_up = taken_after g told g.tale.moment g.over n ordinal is.taken_up;
    }
    for_same (purposes.Sync n) asking is = record { command = is.command; said = readied_same asking (story.Sync n is.command) is.said }
    for_same purposes.Own asking is = record { command = is.command; said = readied_same asking (story.Own is.command) is.said }
    for_same (purposes.End n) asking is = readied_same asking (story.End n) is
    for_same (purposes.Capture n) asking is = readied_same asking (story.Capture n) is

    next_same : (next : Option Begins) → IsNextOf next g t row ((view_on g).links l) → IsNextOf next after t row ((view_on after).links l)
    next_same None is = is
    next_same (Some (begins.Asks asking)) is = (is.0, for_same asking.purpose asking is.1)
    next_same (Some (begins.Closes number)) is = is
    next_same (Some (begins.Resets number)) is = is
    next_same (Some begins.Quits) is = is

    reply_same : (purpose : Purpose) (asking : Asking) → IsReplyingFor purpose g t l row asking → IsReplyingFor purpose after t l row asking
    reply_same (purposes.Statement n ordinal key) asking is = record {
      client = is.client;
      work = is.work;
      there = is.there;
      in_work = is.in_work;
      last = is.last;
      sent = is.sent;
      hostgroup = is.hostgroup;
      number = is.number;
      first = is.first;
      coming = is.coming;
    }
    reply_same (purposes.Prep n ordinal key) asking is = tt
    reply_same (purposes.Sync n) asking is = tt
    reply_same purposes.Own asking is = tt
    reply_same (purposes.End n) asking is = tt
    reply_same (purposes.Capture n) asking is = tt

    replying_same : (stage : Stage) → IsReplyingAt stage g t l row → IsReplyingAt stage after t l row
    replying_same Quiet is = tt
    replying_same (Asked asking) is = reply_same asking.purpose asking is
    replying_same (Answered asking) is = reply_same asking.purpose asking is

    server_same : IsLawful g.setup told → IsServer g t l row → IsServer after t l row
    server_same lawful is = record {
      row = subst (λ (v : View). IsRow g.setup.reads g.codes (g.plan.logins l) v row (g.tale.wires l) (v.links l)) same is.row;
      user = is.user;
      found_rows = is.found_rows;
      standing = standing_at after l (stand_so g.setup told lawful);
      next = next_same row.link.next is.next;
      lent = λ here mine unstated. subst (λ (v : View). OfLent row.link.state.carries (IsAhead v)) same (is.lent here mine unstated);
      parted = λ sound whole some.
          parted_after g told g.tale.moment g.over (λ c over. over) row.link.state.stage (is.parted sound whole some);
      replying = λ sound whole mine. replying_same row.link.state.stage (is.replying sound whole mine);
    }

  server_by : (t : Tabled) (l : LinkId) → IsLawful g.setup told → (to_server : Bool) (found : Option Server) → IsServerBy to_server g t l found
      → IsServerBy to_server after t l found
  server_by t l lawful true (Some server) is = server_same t l server.row lawful is
  server_by t l lawful true None is = ap (λ (v : View). (v.links l).usable) (sym same) ∙ is
  server_by t l lawful false found is = is

  stands_told : (service : Service) (t : Tabled) → IsLawful g.setup told → AreDuly g.setup g.plan told → Stands service g t → Stands service after t
  stands_told service t lawful duly is = stands_moved g told g.tale.moment g.over t t service is (record {
    rows = λ client seated row. found_same client (t.clients client.number) row;
    there = λ c. refl;
    numbers = λ l. refl;
    servers = λ l. server_by t l lawful (is_to_server g.tale l) (t.links l) (is.servers l);
    homes = record { carried = is.homes.carried; home = is.homes.home };
    lawful = lawful;
    prepared = are_prepared g after.tale g.over g.fresh t t is.clients (λ m. sym (ap (λ (v : View). v.replies m) same)) (owns_stay {g = g} {tale = after.tale} refl) is.prepared (λ client seated. seated)
        (rows_same t t (λ c. refl));
    duly = duly;
  })

pub stands_alike : (service : Service) (g : Ground) (a b : Tale) (t : Tabled) → IsLike g.setup a b → IsLawful g.setup b.story
    → AreDuly g.setup g.plan b.story → Stands service (on g a) t
    → Stands service (on g b) t
stands_alike service g a b t like lawful duly is =
    let path : record a { story = b.story } ≡ b = λ i. record {
      moment = sym like.moment i;
      story = b.story;
      clients = sym like.clients i;
      links = sym like.links i;
      wires = sym like.wires i;
    } in
    subst (λ (tale : Tale). Stands service (on g tale) t) path (stands_told (on g a) b.story (sym like.view) service t lawful duly is)
