-- A core that stands for a log keeps clients apart in it, and so it did where memory was refused.
use Rattle.std.specs.Prelude.{◌≡◌, ◌⊎◌, ◌&&◌, ℕ, Bool, true, false, length, List, [], ◌∷◌, ◌++◌, None, Option, Some, unwrap_or}
use Rattle.std.proofs.Common.{refl, sym, ap, ◌∙◌, subst, inl, inr, append_assoc, append-nil}
use Rattle.std.proofs.lemmas.Option.{none-some}
use Rattle.client_session.specs.Setups.{Setup}
use Rattle.core_laws.specs.entry.Tells.{IsCore}
use Rattle.log_story.specs.Plan.{OwnAnswer, Route}
use Rattle.own_words.specs.Own.{IsOwn, SpeaksOwn}
use Rattle.query_rules.specs.declared.rule.Rule.{Rule}
use Rattle.tale_world.specs.Decided.{Decided, plan_of}
use Rattle.core_promises.proofs.Apart.{apart}
use Rattle.core_promises.specs.Causes.{CausedBy}
use Rattle.core_promises.specs.Endings.{EndedBy}
use Rattle.core_promises.specs.Sessions.{ServesApart}
use Rattle.core_promises.specs.Judges.{JudgesBy, Rulebook, rulebook_of}
use Rattle.core_promises.specs.Ruled.{book_of}
use Rattle.core_promises.specs.Waits.{AreDoneBy}
use Rattle.core_service.specs.Serves.{ServesBy}
use Rattle.query_rules.specs.Passing.{rules_of}
use Rattle.core_promises.specs.InForce.{has_administrator}
use Rattle.core_promises.specs.Administered.{AdministersBy, outcomes_at}
use Rattle.core_promises.specs.Administers.{Administered}
use Rattle.core_service.specs.declared.service.Service.{Service}
use Rattle.core_texts.specs.declared.texts.Texts.{Texts}
use Rattle.core_tables.specs.Tables.{Tabled}
use Rattle.mx_base.specs.declared.names.Address.{Address}
use Rattle.mx_base.specs.declared.names.LinkId.{LinkId}
use Rattle.mx_config.specs.declared.config.Config.{Config}
use Rattle.mx_wire.specs.Growth.{bytes-idle}
use Rattle.mx_wire.specs.Log.{AreMarks, IsMark, Log, written_of, wrote_bytes}
use Rattle.mx_wire.specs.Moments.{AllLawful, lawful-each, lawful-more}
use Rattle.mx_wire.specs.Tells.{Fits, MayFollow}
use Rattle.mx_wire.specs.declared.entry.Entry.{Entry}
use Rattle.mx_wire.specs.declared.entry.Entry.TheVariants as entry
use Rattle.private_model.specs.Names.{ClientNo, MessageName}
use Rattle.ready_loop.specs.Serving.{IsWanted, ListensFirst, Stood}
use Rattle.router_laws.specs.decisions.Routers.{IsRouter}
use Rattle.router_laws.specs.decisions.Speaks.{DecidesOwn}
use Rattle.router_promises.specs.Router.{IsConfiguredBy, Router, service_of}
use Rattle.row_laws.specs.Readied.{AreClasses}
use Rattle.server_rule.specs.Classes.{router_reads}
use Rattle.shared_core.specs.Machine.{IsStanding, is_stopped, unloaded}
use Rattle.shared_core.specs.Says.{awaits, reads, sends}
use Rattle.shared_core.specs.declared.whole.Core.{Core}
use Rattle.proxy_run.specs.Serve.{GoesOnWith}

abbrev router_by : Config → Service → Router
router_by config service = record {
  reads = router_reads;
  proxy = config.proxy;
  users = config.users;
  servers = config.servers;
  rules = rules_of service.configured;
}

configured_by : (config : Config) (service : Service) → ServesBy config service → IsConfiguredBy config (router_by config service)
configured_by config service by = record {
  reads = refl;
  proxy = refl;
  users = refl;
  servers = refl;
  rules = by.rules;
  patterns = by.patterns;
}

classes : AreClasses router_reads
unfolding router_reads
classes = record { class = λ text. refl; hides = λ text. refl }

fits-of : (log : Log) → AllLawful MayFollow log → AllLawful Fits log
fits-of log follows = lawful-each MayFollow (AllLawful Fits) log (λ l e may fit. lawful-more Fits l e fit may.fits) tt follows

-- what its messages are judged by is what the configuration has, but for rules that are loaded
book-is : (config : Config) (service : Service) → ServesBy config service
    → record (book_of service) { rules = rules_of service.configured } ≡ rulebook_of (router_by config service)
book-is config service by = λ i. record { rules = rules_of service.configured; home = λ user. by.homes user i; hostgroups = by.hostgroups i }

-- what a router of a log has, by how clients log in, the default schema, and what messages are judged by
record Served (setup : Setup) (wait_ms budget : ℕ) (default : List ℕ) (book : Rulebook) (log : Log) (t : Tabled) (roomy : ClientNo → Bool) : Type 0 where
  rules : MessageName → List Rule
  core : IsCore setup default log t roomy
  single : (m : MessageName) (route : Route) → core.decided.routes m ≡ Some (Some route) → route.mirror ≡ None
  administers : AdministersBy rules default core.decided book.rules log
  judges : JudgesBy book rules default core.decided log
  speaks : SpeaksOwn rules (plan_of core.decided)
  caused : CausedBy wait_ms default core.decided log
  ended : EndedBy budget default core.decided log
  waited : AreDoneBy default core.decided log

-- what was decided to be said are the router's own words
speaks_so : (rules : MessageName → List Rule) (d : Decided) → DecidesOwn rules d → SpeaksOwn rules (plan_of d)
speaks_so rules d spoken = record { own = λ m answer is. own m answer (d.own m) refl is; words = spoken.words } where
  own : (m : MessageName) (answer : OwnAnswer) (found : Option (Option OwnAnswer)) → d.own m ≡ found → unwrap_or found None ≡ Some answer
      → IsOwn (rules m) m.client answer.payloads
  own m answer None there is = absurd (none-some answer is)
  own m answer (Some None) there is = absurd (none-some answer is)
  own m answer (Some (Some other)) there is = spoken.own m answer (there ∙ ap Some is)

served_by : (service : Service) (texts : Texts) (admin : Administered) (log : Log) (t : Tabled) (roomy : ClientNo → Bool)
    → IsRouter service texts admin log t roomy
    → Served service.setup service.wait_ms service.buffer_budget service.default_schema (record (book_of service) { rules = rules_of service.configured }) log t roomy
served_by service texts admin log t roomy is = record {
  core = is.core;
  rules = is.rules;
  administers = λ setup codes plan of fits. record {
    first = is.first;
    began = is.began;
    last = admin;
    along = is.administers setup codes plan of fits (outcomes_at is.rules plan (length log))
        (λ client seated k less. record { judged = refl; answered = λ unrouted. refl });
  };
  single = is.recorded.alone;
  judges = is.judged;
  speaks = speaks_so is.rules is.core.decided is.spoken;
  caused = is.caused;
  ended = is.ended;
  waited = is.waited;
}

apart_of : (config : Config) (service : Service) (texts : Texts) (admin : Administered) (log : Log) (t : Tabled) (roomy : ClientNo → Bool) → ServesBy config service
    → IsRouter service texts admin log t roomy → ServesApart config log
apart_of config service texts admin log t roomy by stands =
    let router : Router = router_by config service in
    let kept : Served service.setup service.wait_ms service.buffer_budget service.default_schema (rulebook_of router) log t roomy =
    subst (λ (book : Rulebook). Served service.setup service.wait_ms service.buffer_budget service.default_schema book log t roomy) (book-is config service by)
    (served_by service texts admin log t roomy stands) in
    let is : Served (service_of router) config.proxy.wait_ms config.proxy.buffer_budget config.proxy.default_schema (rulebook_of router) log t roomy =
    rw (by.setup, by.wait_ms, by.buffer_budget, by.default_schema) at kept in
    record {
      router = router;
      configured = configured_by config service by;
      separates = apart router log t roomy is.core classes is.single is.rules is.administers is.judges is.speaks is.caused is.ended is.waited (fits-of log stands.lawful);
    }

-- what is loaded is none of the configuration's
loaded-by : (config : Config) (core : Core) → ServesBy config (unloaded core) → ServesBy config core.service
loaded-by config core by = record {
  listen = by.listen;
  admin_listen = by.admin_listen;
  setup = by.setup;
  default_schema = by.default_schema;
  homes = by.homes;
  hostgroups = by.hostgroups;
  wait_ms = by.wait_ms;
  buffer_budget = by.buffer_budget;
  rules = by.rules;
  patterns = by.patterns;
}

-- its log is one that the wire may tell
pub record Ran (config : Config) (log : Log) : Type 0 where
  pub fits : AllLawful Fits log
  pub serves : ServesApart config log

pub ran-of : (config : Config) (core : Core) (log : Log) → ServesBy config (unloaded core) → IsStanding core log → Ran config log
ran-of config core log by stands =
    let router = stands.stands.router in
    record { fits = fits-of log router.lawful; serves = apart_of config core.service _ _ log _ _ (loaded-by config core by) router }

right-of : (a b : Bool) → (a && b) ≡ true → b ≡ true
right-of true b both = both
right-of false b both = absurd (let no = both in cc)

-- where it has shut down an administrator came
pub shut-of : (core : Core) (log : Log) → IsStanding core log → is_stopped core ≡ true → has_administrator log ≡ true
shut-of core log stands stopped = stands.stands.counted.administrator (right-of core.router.stopped core.router.came.administrator stopped)

-- Marks and the answers of calls by which memory may be refused write nothing.

mark-silent : (e : Entry) → IsMark e → wrote_bytes e ≡ []
mark-silent (entry.Exec link) is = refl
mark-silent (entry.Drop link) is = refl
mark-silent _ is = absurd is

wanted-silent : (core : Core) (log : Log) (e : Entry)
    → IsWanted reads sends (λ (c : Core). c.router.acting) (λ (c : Core). c.router.until) awaits core log e → wrote_bytes e ≡ []
wanted-silent core log (entry.Wrote link tag bytes) wanted = absurd wanted
wanted-silent core log _ wanted = refl

mark-fits : (log : Log) (e : Entry) → IsMark e → Fits log e
mark-fits log (entry.Exec link) is = tt
mark-fits log (entry.Drop link) is = tt
mark-fits log _ is = absurd is

one-more : (l : Log) (e : Entry) (more : Log) → l ++ e ∷ [] ++ more ≡ l ++ e ∷ more
one-more l e more = append_assoc l (e ∷ []) more

marks-silent : (link : LinkId) (log marks : Log) → AreMarks marks → written_of link (log ++ marks) ≡ written_of link log
marks-silent link log [] are = ap (written_of link) (append-nil log)
marks-silent link log (e ∷ marks) are =
    ap (written_of link) (sym (one-more log e marks)) ∙ marks-silent link (log ++ e ∷ []) marks are.1 ∙ bytes-idle wrote_bytes link log e (mark-silent e are.0)

marks-fit : (log marks : Log) → AreMarks marks → AllLawful Fits log → AllLawful Fits (log ++ marks)
marks-fit log [] are fits = subst (AllLawful Fits) (sym (append-nil log)) fits
marks-fit log (e ∷ marks) are fits =
    subst (AllLawful Fits) (one-more log e marks) (marks-fit (log ++ e ∷ []) marks are.1 (lawful-more Fits log e fits (mark-fits log e are.0)))

pub record RanButLast (config : Config) (log : Log) : Type 0 where
  pub fits : AllLawful Fits log
  pub before : Log
  pub serves : ServesApart config before
  pub last : (log ≡ before) ⊎ GoesOnWith before log
  pub unwritten : (link : LinkId) → written_of link log ≡ written_of link before

pub stood-ran : (config : Config) (core : Core) (log : Log) → ServesBy config (unloaded core)
    → Stood IsStanding (IsWanted reads sends (λ (c : Core). c.router.acting) (λ (c : Core). c.router.until) awaits) unloaded core log
    → RanButLast config log
stood-ran config core log by was =
    let ran : Ran config was.before = ran-of config was.machine was.before (subst (ServesBy config) (sym was.serves_by) by) was.stood in
    elim was.but [
      | inl same ↦ record { fits = subst (AllLawful Fits) (sym same) ran.fits; before = was.before; serves = ran.serves; last = inl same; unwritten = λ link. ap (written_of link) same }
      | inr refused ↦ (
          let at : Log = was.before ++ refused.marks in
          record {
            fits = subst (AllLawful Fits) (sym refused.is) (lawful-more Fits at refused.last (marks-fit was.before refused.marks refused.only_marks ran.fits) refused.follows.fits);
            before = was.before;
            serves = ran.serves;
            last = inr (record { marks = refused.marks; only_marks = refused.only_marks; last = refused.last; is = refused.is });
            unwritten = λ link. ap (written_of link) refused.is
                ∙ bytes-idle wrote_bytes link at refused.last (wanted-silent was.machine at refused.last refused.is_wanted)
                ∙ marks-silent link was.before refused.marks refused.only_marks;
          })
    ]

-- the addresses are those of the configuration
pub listens-at : (told : Option Log) (traffic admin at_traffic at_admin : Address) → traffic ≡ at_traffic → admin ≡ at_admin → ListensFirst traffic admin told → ListensFirst at_traffic at_admin told
listens-at told traffic admin at_traffic at_admin same_traffic same_admin listens = rw (same_traffic, same_admin) at listens
