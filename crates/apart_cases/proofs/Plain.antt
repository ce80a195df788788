-- A query that isn't refused goes to a server of its user's hostgroup as it is, where there are no rules and a server is there.
use Rattle.std.specs.Prelude.{◌≡◌, ℕ, Bool, true, false, not, ◌&&◌, ◌||◌, find, List, [], ◌∷◌, Option, Some, None, if◌then◌else◌, refl}
use Rattle.mx_base.specs.declared.names.Port.TheVariants.{Traffic}
use Rattle.pin_classifier.specs.Classes.{class_of}
use Rattle.pin_classifier.specs.declared.class.Class.{Class}
use Rattle.pin_classifier.specs.declared.class.Refusal.{Refusal}
use Rattle.session_state.specs.Pins.{is_pinned}
use Rattle.session_state.specs.declared.pin.Pin.{Pin}
use Rattle.server_rule.specs.Classes.{router_reads}
use Rattle.private_model.specs.Names.{ClientNo, Hostgroup}
use Rattle.private_model.specs.Story.{Key}
use Rattle.log_story.specs.Plan.{Route, com_query}
use Rattle.router_promises.specs.Errors.{diagnostics_gone, names_connection}
use Rattle.router_promises.specs.Verdicts.{Goes, Verdict, Wanted, is_connection_id, plain_route, tells_one}
use Rattle.message_judge.specs.Judging as judging
use Rattle.core_promises.specs.Judges.{IsClosed, IsRoutedFor, IsVerdictFor, Knowledge, Rulebook, Situation}

-- where no transaction is open, none is found

past-closed : (b : Bool) (g h : Hostgroup) (rest : Option Hostgroup) → b ≡ false → (if b then Some g else rest) ≡ Some h → rest ≡ Some h
past-closed true g h rest closed is = absurd (cc)
past-closed false g h rest closed is = is

closed-first : {A : Type 0} (pins : Hostgroup → Pin) → ((h : Hostgroup) → (pins h).tx ≡ false) → (hostgroups : List Hostgroup) (h : Hostgroup)
    → find (λ g. (pins g).tx) hostgroups ≡ Some h → A
closed-first pins closed [] h is = absurd (cc)
closed-first pins closed (g ∷ hostgroups) h is =
    closed-first pins closed hostgroups h (past-closed (pins g).tx g h (find (λ g. (pins g).tx) hostgroups) (closed g) is)

module _ (homes : (user : List ℕ) → Hostgroup) (hostgroups : List Hostgroup) (situation : Situation) (keys : (key : ℕ) → Option Key) (c : ClientNo)
    (text : List ℕ) where
  abbrev book : Rulebook
  book = record { rules = []; home = homes; hostgroups = hostgroups }

  abbrev home : Hostgroup
  home = homes situation.user

  abbrev class : Class
  class = class_of text

  abbrev pub as_it_is : Route
  as_it_is = record (plain_route home) { text = Some text }

  abbrev plainly : Wanted
  plainly = record { route = as_it_is; key = None }

  abbrev known : Knowledge
  known = record {
    caller = record { number = c; user = situation.user; home = home; place = situation.place; flag = 0; last = None };
    standing = record { transaction = None; next_number = None };
    prepared = None;
    pins = situation.pins;
    is_there = λ hostgroup. true;
  }

  abbrev wanted : (reads : Bool) → Wanted
  wanted reads = record { route = record (plain_route (if reads then home else home)) { text = Some text }; key = None }

  abbrev verdict_of : judging.Draft → Verdict
  verdict_of draft = judging.verdict_by known.pins known.is_there draft

  -- it reads no diagnostics

  by-reads : (id diag found : Bool) → diag ≡ false → found ≡ false → (pin : Pin)
      → Goes plainly
      ≡ (if (not diag || (is_pinned pin && pin.own_diag)) && (not found || (is_pinned pin && pin.own_found)) then Goes (wanted (id || diag)) else tells_one diagnostics_gone)
  by-reads true false false unread unfound pin = refl
  by-reads false false false unread unfound pin = refl
  by-reads id true found unread unfound pin = absurd (cc)
  by-reads id false true unread unfound pin = absurd (cc)

  module _ (unread : class.reads_diag ≡ false) (unfound : class.reads_found ≡ false) where
    by-shape : (asks : Bool) → asks ≡ false
        → Goes plainly ≡ verdict_of (if asks then judging.answers_one names_connection else judging.Sends (Some class) (wanted (class.reads_id || class.reads_diag)))
    by-shape true is = absurd (cc)
    by-shape false is =
        by-reads class.reads_id class.reads_diag class.reads_found unread unfound
        (situation.pins (wanted (class.reads_id || class.reads_diag)).route.hostgroup)

    by-refusal : (why : Option Refusal) → why ≡ None → is_connection_id class.shape ≡ false
        → Goes plainly ≡ verdict_of (judging.by_class class why (wanted (class.reads_id || class.reads_diag)))
    by-refusal (Some why) is plain = absurd (cc)
    by-refusal None is plain = by-shape (is_connection_id class.shape) plain

    asked : (asks : Bool) → asks ≡ false → class.refusal ≡ None → is_connection_id class.shape ≡ false
        → Goes plainly
        ≡ verdict_of (if asks then judging.still known.caller (judging.connection_id known.caller known.standing)
        else judging.by_pass router_reads known.caller known.standing (judging.pass_of [] known.caller text) None).draft
    unfolding router_reads
    asked true is free plain = absurd (cc)
    asked false is free plain = by-refusal class.refusal free plain

    for : class.refusal ≡ None → is_connection_id class.shape ≡ false → IsClosed situation
        → IsVerdictFor book situation c (com_query ∷ text) (Goes plainly)
    unfolding router_reads
    for free plain closed = record {
      known = known;
      client = refl;
      login = refl;
      home = refl;
      place = refl;
      transaction = record {
        first = λ hostgroup found. closed-first situation.pins closed hostgroups hostgroup found;
        in_transaction = λ hostgroup found. absurd (let none : None ≡ Some hostgroup = found in cc);
        none = λ none. closed;
      };
      pins = refl;
      there = λ h has. refl;
      flag = refl;
      prepared = λ one is. absurd (let none : None ≡ Some one = is in cc);
      named = λ number one is. absurd (let none : None ≡ Some number = is in cc);
      number = λ n is. absurd (let none : None ≡ Some n = is in cc);
      is = asked (is_connection_id class.shape) plain free plain;
    }

    pub goes-as-it-is : situation.port ≡ Traffic → class.refusal ≡ None → is_connection_id class.shape ≡ false → IsClosed situation
        → IsRoutedFor book situation keys c (com_query ∷ text) as_it_is
    goes-as-it-is port free plain closed = record {
      wanted = plainly;
      routed = refl;
      keyed = λ key is. absurd (let none : None ≡ Some key = is in cc);
      port = port;
      is = for free plain closed;
    }
