-- The tables that stand for a log as a core keep its clients apart.
use Rattle.std.specs.Prelude.{◌≡◌, ℕ, Bool, List, [], ◌∷◌, length, slice_index_or, Option, Some, None, unwrap_or}
use Rattle.std.proofs.Common.{refl, sym, ap, ◌∙◌}
use Rattle.std.proofs.lemmas.Option.{none-some}
use Rattle.session_vars.specs.Settings.{collation_settings, defaults}
use Rattle.client_session.specs.Answers.{opening_of}
use Rattle.client_side.specs.Login.{Fails, Opening, Says, Waits}
use Rattle.handshake.specs.declared.response.Response.{Response}
use Rattle.mx_wire.specs.Log.{Log}
use Rattle.mx_wire.specs.Moments.{AllLawful, moment-last}
use Rattle.mx_wire.specs.Tells.{Fits as FitsLog}
use Rattle.client_seat.specs.Seats as seats
use Rattle.server_rule.specs.Servers.{no_capabilities}
use Rattle.private_model.specs.Names.{ClientNo, MessageName, ServerId}
use Rattle.private_model.specs.Story.{Key}
use Rattle.private_model.specs.View.{Setup}
use Rattle.link_laws.specs.Stands.{Codes}
use Rattle.row_laws.specs.Readied.{AreClasses}
use Rattle.log_story.specs.Headline.{tale_of}
use Rattle.log_story.specs.Owed.{talk_of}
use Rattle.log_story.specs.Plan.{Plan, Route}
use Rattle.log_story.specs.Tale.{Client}
use Rattle.tale_world.proofs.Agreeing.{agrees-itself}
use Rattle.tale_world.specs.Decided.{Decided, plan_of}
use Rattle.core_tables.specs.Tables.{Tabled}
use Rattle.core_laws.specs.entry.Tells as tells
use Rattle.core_laws.specs.entry.Tells.{Fits, IsCore, IsOf}
use Rattle.router_promises.specs.Router as routers
use Rattle.router_promises.specs.Router.{Router, service_of}
use Rattle.router_promises.specs.Terms.{AreWhoTheySay, IsWhoItSays, Terms, plan_in, setup_in}
use Rattle.own_words.specs.Own.{SpeaksOwn}
use Rattle.core_promises.specs.Causes.{CausedBy}
use Rattle.core_promises.specs.Sessions.{KeepsApart, Separates}
use Rattle.query_rules.specs.declared.rule.Rule.{Rule}
use Rattle.core_promises.specs.Administered.{AdministersBy}
use Rattle.core_promises.specs.Judges.{JudgesBy, JudgesSo, rulebook_of}
use Rattle.core_promises.specs.Waits.{AreDoneBy}
use Rattle.core_promises.proofs.Verdicts.{asks-by}
use Rattle.core_promises.proofs.Past.{lawful_at}
use Rattle.core_promises.proofs.Who.{decided_by, terms_by, who_at}
use Rattle.core_promises.specs.Endings.{EndedBy}

-- a key is its own number
abbrev its_key : Codes
its_key key = Some key

abbrev no_key : Key
no_key = record { text = []; place = record { schema = []; settings = defaults } }

schema_same : (default : List ℕ) (named : Option (List ℕ)) → routers.schema_named default named ≡ seats.schema_named default named
schema_same default None = refl
schema_same default (Some []) = refl
schema_same default (Some (byte ∷ bytes)) = refl

place_same : (router : Router) (response : Response) → routers.first_place router response ≡ seats.first_place router.proxy.default_schema response
place_same router response =
    ap (λ schema. record { schema = schema; settings = collation_settings response.collation }) (schema_same router.proxy.default_schema response.schema)

who_so : (t : Terms) (client : Client) (o : Opening) → IsWhoItSays t client o
    → tells.IsWhoItSays (setup_in t) (plan_in t) t.router.proxy.default_schema client o
who_so t client (Says switched response id rest) who = λ login says.
    let both = who login says in (both.0, both.1 ∙ place_same t.router response)
who_so t client (Waits switched) who = tt
who_so t client (Fails switched fault id) who = tt

itself : (d : Decided) (moment : ℕ) → IsOf d moment (plan_of d)
itself d moment = record {
  agrees = agrees-itself d moment;
  told = λ c word is. is;
  untold = λ c word none is. absurd (none-some word (sym none ∙ is));
}

single_by : (routes : MessageName → Option (Option Route)) → ((m : MessageName) (route : Route) → routes m ≡ Some (Some route) → route.mirror ≡ None)
    → (m : MessageName) (route : Route) → unwrap_or (routes m) None ≡ Some route → route.mirror ≡ None
single_by routes single m route is = by (routes m) refl is where
  by : (found : Option (Option Route)) → routes m ≡ found → unwrap_or found None ≡ Some route → route.mirror ≡ None
  by None there is = absurd (none-some route is)
  by (Some None) there is = absurd (none-some route is)
  by (Some (Some other)) there is = single m route (there ∙ ap Some is)

module _ (router : Router) (log : Log) (t : Tabled) (roomy : ClientNo → Bool)
    (core : IsCore (service_of router) router.proxy.default_schema log t roomy) (classes : AreClasses router.reads)
    (single : (m : MessageName) (route : Route) → core.decided.routes m ≡ Some (Some route) → route.mirror ≡ None)
    (rules : MessageName → List Rule)
    (administers : AdministersBy rules router.proxy.default_schema core.decided router.rules log)
    (judges : JudgesBy (rulebook_of router) rules router.proxy.default_schema core.decided log) (speaks : SpeaksOwn rules (plan_of core.decided))
    (caused : CausedBy router.proxy.wait_ms router.proxy.default_schema core.decided log)
    (ended : EndedBy router.proxy.buffer_budget router.proxy.default_schema core.decided log)
    (waited : AreDoneBy router.proxy.default_schema core.decided log)
    (fits : AllLawful FitsLog log) where
  abbrev plan : Plan
  plan = plan_of core.decided

  abbrev base : Setup
  base = record {
    reads = router.reads;
    keys = λ key. unwrap_or (core.decided.keys key) no_key;
    accounts = λ c. record { user = []; capabilities = no_capabilities };
    places = λ c. record { schema = []; settings = defaults };
    stored = λ server. [];
  }

  module _ (stored : (server : ServerId) → List ℕ) where
    abbrev terms : Terms
    terms = terms_by router plan base log stored

    whole : AreWhoTheySay terms log
    whole = moment-last (AreWhoTheySay terms) log (who_at router plan base log stored)

    fitting : Fits core.decided.keys (setup_in terms) its_key plan router.proxy.default_schema (tale_of (setup_in terms) plan log)
    fitting = record {
      classes = classes;
      named = λ key. refl;
      keyed = λ k key was. ap (λ (o : Option Key). unwrap_or o no_key) was;
      who = λ k d within.
          let client : Client = slice_index_or (tale_of (setup_in terms) plan log).clients k d in
          who_so terms client (opening_of (talk_of plan client)) (whole k d within);
      single = single_by core.decided.routes single;
    }

    keeps : KeepsApart terms log
    keeps =
        let rests = core.rests (setup_in terms) its_key plan (itself core.decided (length log)) fitting in
        let judged : JudgesSo terms rules log = judges (setup_in terms) its_key plan (itself core.decided (length log)) fitting in
        let safe = core.safe (setup_in terms) its_key plan (itself core.decided (length log)) fitting in
        record {
          router = record { service = rests.stands.service_is; room = rests.stands.room_is };
          fits = fits;
          who = who_at router plan base log stored;
          said = safe.said;
          lawful = λ n. lawful_at (setup_in terms) plan n log rests.stands.lawful;
          due = safe.written;
          copies = single_by core.decided.routes single;
          rules = rules;
          administers = administers (setup_in terms) its_key plan (itself core.decided (length log)) fitting;
          asks = asks-by terms rules log judged;
          judges = judged;
          speaks = speaks;
          gives = caused (setup_in terms) its_key plan (itself core.decided (length log)) fitting;
          ends = ended (setup_in terms) its_key plan (itself core.decided (length log)) fitting;
          waits = waited terms its_key (itself core.decided (length log)) fitting;
        }

  pub apart : Separates router log
  apart = record { decided = decided_by router plan base log; keeps = keeps }
