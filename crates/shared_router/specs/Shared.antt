-- How the router with shared links decides.
use Rattle.std.specs.Prelude.{ℕ, Bool, ◌++◌, nat_eq, [], ◌∷◌, if◌then◌else◌, Option, Some, None}
use Rattle.std.specs.Option.{option_map_or}
use Rattle.mx_base.specs.declared.names.LinkId.{LinkId}
use Rattle.mx_wire.specs.Log.{Log, moment_step}
use Rattle.mx_wire.specs.declared.entry.Entry.{Entry}
use Rattle.mx_wire.specs.declared.entry.Entry.TheVariants.{Opened, OpenFailed}
use Rattle.packet_frame.specs.Packets.{Framed}
use Rattle.private_model.specs.Story.{is_link_id}
use Rattle.log_story.specs.Plan.{OwnAnswer, Route}
use Rattle.log_story.specs.Tale.{Client}
use Rattle.tale_world.specs.Deciding.{Deciding, World}
use Rattle.tale_world.specs.World.{world_after}
use Rattle.router_promises.specs.Now.{flag_taken, taken_since}
use Rattle.router_promises.specs.Router.{service_of}
use Rattle.router_promises.specs.Running.{servers_after}
use Rattle.router_promises.specs.Takings.{Taking}
use Rattle.router_promises.specs.Terms.{Terms, Tried, entry_behind}
use Rattle.router_promises.specs.Verdicts.{Goes, Parts, Tells, Verdict, Wanted, verdict}
use Rattle.shared_router.specs.Causes.{given_by, known_before}
use Rattle.shared_router.specs.Ends.{ending_of, ends_by, words_by}
use Rattle.shared_router.specs.Fixed.{Fixed, setup_of}
use Rattle.shared_router.specs.Known.{known}
use Rattle.shared_router.specs.Lends.{readied_now}
use Rattle.shared_router.specs.More.{More, first_more, now_of, terms_of}
use Rattle.shared_router.specs.Owed.{step_by}
use Rattle.shared_router.specs.Wishes.{tried_by}

-- What the router makes of a message as it comes up.

abbrev pub taking_in : World More → Client → Framed → Taking
taking_in w client message = record { client = client; message = message; tale = w.tale }

abbrev pub judged_by : Fixed → World More → Client → Framed → Verdict
judged_by fixed w client message = verdict (terms_of fixed w) w.more.servers (w.more.flags client.number) (taking_in w client message)

abbrev pub keyed : Fixed → Wanted → Route
keyed fixed wanted = record wanted.route { key = option_map_or fixed.number_of wanted.key 0 }

abbrev pub goes_by : Fixed → Verdict → Option Route
goes_by fixed Parts = None
goes_by fixed (Tells payloads) = None
goes_by fixed (Goes wanted) = Some (keyed fixed wanted)

abbrev pub told_by : Verdict → Option OwnAnswer
told_by Parts = None
told_by (Tells payloads) = Some (record { from = 0; payloads = payloads })
told_by (Goes wanted) = None

-- for want of memory it is left, whatever it is, and its client ends
abbrev pub starves_now : Fixed → World More → Client → Bool
starves_now fixed w client = fixed.starves w.tale.moment client.number

abbrev pub route_by : Fixed → World More → Client → Framed → Option Route
route_by fixed w client message = if starves_now fixed w client then None else goes_by fixed (judged_by fixed w client message)

abbrev pub answer_by : Fixed → World More → Client → Framed → Option OwnAnswer
answer_by fixed w client message = if starves_now fixed w client then None else told_by (judged_by fixed w client message)

-- As an entry is told: what has to be known of before it is kept.

abbrev pub tried_after : Fixed → World More → Entry → (entry : ℕ) → Tried
tried_after fixed w (OpenFailed server address) =
    λ entry. if nat_eq entry (entry_behind w.more.log) then tried_by (known fixed w) else w.more.tried entry
tried_after fixed w _ = w.more.tried

abbrev pub bare_after : Fixed → World More → Entry → LinkId → Bool
bare_after fixed w (Opened server address link) = λ other. if is_link_id other link then (tried_by (known fixed w)).bare else w.more.bare other
bare_after fixed w _ = w.more.bare

abbrev pub hears_by : Fixed → World More → Entry → More
hears_by fixed w e = record w.more {
  log = w.more.log ++ e ∷ [];
  last = Some e;
  before = now_of fixed w;
  clock = moment_step w.more.clock e;
  servers = servers_after (terms_of fixed w) w.more.clock w.tale e w.more.servers;
  readied = readied_now (known fixed w);
  bare = bare_after fixed w e;
  tried = tried_after fixed w e;
}

-- As a message is taken up.
abbrev pub takes_by : Fixed → World More → Client → Framed → More
takes_by fixed w client message = record w.more {
  flags = flag_taken (terms_of fixed w) w.more.flags (taking_in w client message);
  since = taken_since w.more.clock w.more.since (taking_in w client message);
}

abbrev pub shared : Fixed → Deciding More
shared fixed = record {
  login = λ w link. (tried_by (known fixed w)).login;
  step = λ w link for bytes. step_by (known fixed w) link;
  hears = hears_by fixed;
  gives_up = λ w e m. given_by (known_before fixed w) w.more.servers e m;
  ends = λ w e c. ends_by (ending_of fixed w e) c;
  words = λ w e c. words_by (ending_of fixed w e) c;
  route = λ w client ordinal message. route_by fixed w client message;
  answer = λ w client ordinal message. answer_by fixed w client message;
  takes = λ w client ordinal message. takes_by fixed w client message;
  routed = λ w m. None;
  given = λ w m. None;
  frees = λ w link. w.more;
}

-- the world, and the terms that it has in the end

abbrev pub world_at : Fixed → Log → World More
world_at fixed log = world_after (setup_of fixed) (shared fixed) (service_of fixed.router) 1048576 (first_more fixed) log

abbrev pub final_terms : Fixed → Log → Terms
final_terms fixed log = terms_of fixed (world_at fixed log)
