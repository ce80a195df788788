-- What goes to a server is copied nowhere.
use Rattle.std.specs.Prelude.{◌≡◌, ℕ, Bool, true, false, if◌then◌else◌, List, Option, Some, None}
use Rattle.std.proofs.Common.{refl, sym, ap, ◌∙◌}
use Rattle.mx_base.specs.declared.names.{Port.Port, Port.TheVariants.Admin, Port.TheVariants.Traffic}
use Rattle.hostgroups.specs.declared.server.Server.{Server}
use Rattle.packet_frame.specs.Packets.{Framed}
use Rattle.pin_classifier.specs.declared.class.Class.{Class}
use Rattle.pin_classifier.specs.declared.class.Refusal.{Refusal}
use Rattle.pin_classifier.specs.declared.class.Refusal.TheVariants as refusal
use Rattle.query_rules.specs.declared.ask.Routed.{Routed}
use Rattle.query_rules.specs.declared.ask.Stop.{Stop}
use Rattle.query_rules.specs.declared.ask.Stop.TheVariants as stop
use Rattle.session_state.specs.Pins.{reads_own}
use Rattle.private_model.specs.Names.{Hostgroup}
use Rattle.private_model.specs.Story.{Key}
use Rattle.log_story.specs.Plan.{Route}
use Rattle.log_story.specs.Tale.{Client, view_of}
use Rattle.tale_world.specs.Deciding.{World}
use Rattle.router_promises.specs.Errors as error
use Rattle.router_promises.specs.Statements.{is_full, next_number}
use Rattle.router_promises.specs.Takings.{Taking, ordinal_of}
use Rattle.router_promises.specs.Terms.{Terms, plan_in, setup_in}
use Rattle.router_promises.specs.Verdicts.{Asks, Chooses, Executes, Goes, Kind, Lists, Malformed, Parts, Pings, Prepares, Quits, ResetsStatement, Restarts, Silent, Tells, Unknown, Unprepared, Verdict, Wanted}
use Rattle.router_promises.specs.Verdicts.{connection_id, has_nowhere, held_in, is_connection_id, kind_in, pass_of, ruled, sent_unless, tells_one, unless_gone}
use Rattle.router_promises.specs.Verdicts.{unless_refused, verdict_at, verdict_by}
use Rattle.shared_router.specs.Fixed.{Fixed}
use Rattle.shared_router.specs.More.{More, terms_of}
use Rattle.shared_router.specs.Shared.{goes_by, judged_by, route_by, starves_now}
use Rattle.shared_router.proofs.Walks.{if_either}

abbrev IsLone : Verdict → Type 0
IsLone Parts = Unit {0}
IsLone (Tells payloads) = Unit {0}
IsLone (Goes wanted) = wanted.route.mirror ≡ None

module _ (terms : Terms) (servers : List Server) (taking : Taking) where
  sent_lone : (wanted : Wanted) → wanted.route.mirror ≡ None → IsLone (sent_unless terms servers taking wanted)
  sent_lone wanted lone =
      if_either IsLone (has_nowhere terms servers taking wanted.route.hostgroup) (tells_one (error.no_server_in wanted.route.hostgroup.0)) (Goes wanted) tt lone

  gone_lone : (class : Class) (wanted : Wanted) → wanted.route.mirror ≡ None → IsLone (unless_gone terms servers taking class wanted)
  gone_lone class wanted lone =
      if_either IsLone (reads_own class (held_in terms taking wanted.route.hostgroup).pin) (sent_unless terms servers taking wanted)
      (tells_one error.diagnostics_gone) (sent_lone wanted lone) tt

  refused_lone : (class : Class) (by : Option Refusal) (wanted : Wanted) → wanted.route.mirror ≡ None → IsLone (unless_refused terms servers taking class by wanted)
  refused_lone class (Some refusal.SetsServer) wanted lone = tt
  refused_lone class (Some refusal.NamesConnection) wanted lone = tt
  refused_lone class (Some refusal.ReadsLast) wanted lone = tt
  refused_lone class None wanted lone =
      if_either IsLone (is_connection_id class.shape) (tells_one error.names_connection) (unless_gone terms servers taking class wanted) tt (gone_lone class wanted lone)

  ruled_lone : (routed : Routed) (number : ℕ) (key : Option Key) (by : Option Stop) → IsLone (ruled terms servers taking routed number key by)
  ruled_lone routed number key None =
      let class = terms.router.reads.class routed.text in refused_lone class class.refusal _ refl
  ruled_lone routed number key (Some (stop.Error text)) = tt
  ruled_lone routed number key (Some (stop.Ok text)) = tt

  kind_lone : (flag : ℕ) (kind : Kind) → IsLone (verdict_by terms servers flag taking kind)
  kind_lone flag Quits = tt
  kind_lone flag Pings = tt
  kind_lone flag Restarts = tt
  kind_lone flag Chooses = sent_lone _ refl
  kind_lone flag Lists = sent_lone _ refl
  kind_lone flag (Asks text) =
      if_either IsLone (is_connection_id (terms.router.reads.class text).shape) (connection_id terms taking)
      (ruled terms servers taking (pass_of terms flag taking text) 0 None (pass_of terms flag taking text).stop) tt
      (ruled_lone (pass_of terms flag taking text) 0 None (pass_of terms flag taking text).stop)
  kind_lone flag (Prepares text) =
      let view = view_of (setup_in terms) taking.tale in
      let routed = pass_of terms flag taking text in
      if_either IsLone (is_full view (plan_in terms) taking.client (ordinal_of taking)) (tells_one error.too_many_statements) _ tt
      (ruled_lone routed (next_number view (plan_in terms) taking.client (ordinal_of taking))
      (Some (record { text = routed.text; place = view.places taking.client.number })) routed.stop)
  kind_lone flag (Executes prepared) =
      let class = terms.router.reads.class (terms.decided.keys prepared.key).text in refused_lone class class.refusal _ refl
  kind_lone flag ResetsStatement = tt
  kind_lone flag Silent = tt
  kind_lone flag (Unprepared number) = tt
  kind_lone flag Malformed = tt
  kind_lone flag Unknown = tt

  verdict_lone : (port : Port) (flag : ℕ) (kind : Kind) → IsLone (verdict_at port terms servers flag taking kind)
  verdict_lone Traffic flag kind = kind_lone flag kind
  verdict_lone Admin flag Quits = tt
  verdict_lone Admin flag _ = tt

no_some : {A B : Type 0} (a : A) → None ≡ Some a → B
no_some a is = absurd (cc)

pub route_lone : (fixed : Fixed) (w : World More) (client : Client) (message : Framed) (r : Route) → route_by fixed w client message ≡ Some r → r.mirror ≡ None
route_lone fixed w client message r is = by_test (starves_now fixed w client) is where
  mirror_of : Option Route → Option Hostgroup
  mirror_of (Some route) = route.mirror
  mirror_of None = None

  by_verdict : (v : Verdict) → IsLone v → goes_by fixed v ≡ Some r → r.mirror ≡ None
  by_verdict Parts lone is = no_some r is
  by_verdict (Tells payloads) lone is = no_some r is
  by_verdict (Goes wanted) lone is = ap (λ (x : Option Route). mirror_of x) (sym is) ∙ lone

  by_test : (b : Bool) → (if b then None else goes_by fixed (judged_by fixed w client message)) ≡ Some r → r.mirror ≡ None
  by_test true is = no_some r is
  by_test false is =
      by_verdict (judged_by fixed w client message)
      (verdict_lone (terms_of fixed w) w.more.servers (record { client = client; message = message; tale = w.tale }) client.port (w.more.flags client.number)
      (kind_in (terms_of fixed w) (record { client = client; message = message; tale = w.tale }))) is
