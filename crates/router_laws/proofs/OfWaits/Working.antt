-- Of a client that goes on: its last message, where it isn't answered, waits for a link or is on its way.
use Rattle.std.specs.Prelude.{◌≡◌, ◌⊎◌, ℕ, zero, suc, Bool, true, false, not, ◌&&◌, ◌||◌, is_some, IsSome, nat_lt, drop, length, take, if◌then◌else◌, List, [], ◌∷◌, ◌++◌, Option, Some, None}
use Rattle.std.specs.Option.{option_map, option_map_or}
use Rattle.std.proofs.Common.{refl, sym, ap, ◌∙◌, subst, arith, inl, inr, length-append}
use Rattle.std.proofs.lemmas.Bool.{ltb-false, or_parts, true≢false}
use Rattle.std.proofs.lemmas.List.{take_all}
use Rattle.std.proofs.lemmas.Option.{none-some, same_Some}
use Rattle.mx_base.specs.Sent.{Sent}
use Rattle.mx_wire.specs.Log.{Log, is_open}
use Rattle.ready_loop.specs.Drained.{write_dry}
use Rattle.client_session.specs.Setups.{Setup as Serving}
use Rattle.packet_frame.specs.Packets.{spelling}
use Rattle.server_rule.specs.Classes.{Reads}
use Rattle.server_side.specs.Account.{Account as Login}
use Rattle.server_side.specs.Backend.{left}
use Rattle.server_side.specs.declared.stage.Stage as sides
use Rattle.private_model.specs.Commands.{Command, FieldList, InitDb, Prepare, Query, Quit, ReadId, Reset, Run, SetId}
use Rattle.private_model.specs.Names.{ClientNo, Hostgroup, LinkId, SessionName}
use Rattle.private_model.specs.Story.{Due, Question, command_of}
use Rattle.private_model.specs.View as view
use Rattle.private_model.specs.View.{Held, Link, View, present}
use Rattle.log_story.specs.Assumed.{IsWhole}
use Rattle.log_story.specs.Clients.{is_answered}
use Rattle.log_story.specs.Honest.{IsWritten, number_for}
use Rattle.log_story.specs.Owed.{name_of}
use Rattle.log_story.specs.Plan.{Plan, Route, own_at, text_payload}
use Rattle.log_story.specs.Tale as tales
use Rattle.log_story.specs.Tale.{Tale, Wire}
use Rattle.link_laws.specs.Stands.{Codes}
use Rattle.link_state.specs.Dones.{is_quiet}
use Rattle.link_state.specs.Writes as writes
use Rattle.link_state.specs.declared.state.Stage.{Stage}
use Rattle.link_state.specs.declared.state.Stage.TheVariants as stages
use Rattle.link_state.specs.declared.writing.Writing.{Writing}
use Rattle.lent_link.specs.Links.{is_in, left_at, left_in, left_of}
use Rattle.lent_link.specs.declared.link.Begins.{Begins}
use Rattle.lent_link.specs.declared.link.Step.{Step}
use Rattle.served_link.specs.declared.row.Row.{Row}
use Rattle.client_desk.specs.Desks.{session_of}
use Rattle.client_desk.specs.declared.session.Session.{Session}
use Rattle.client_desk.specs.declared.work.Work.{Work}
use Rattle.desk_laws.specs.Stands.{IsSentOrNot, IsWorkOr, name_at}
use Rattle.row_laws.proofs.Seeing.{asked_seen, is_asked_law}
use Rattle.row_laws.specs.Rows.{Serves, is_asked}
use Rattle.row_laws.specs.Written.{IsBegun, IsSpelt, IsWrittenBy, spelt_as}
use Rattle.core_tables.specs.Passing as passing
use Rattle.core_tables.specs.Tables.{Tabled}
use Rattle.core_tables.specs.declared.client.Client.{Client}
use Rattle.core_tables.specs.declared.server.Server.{Server}
use Rattle.core_stands.specs.Clients.{IsClient, IsGoing, IsWorking, IsWorkingOr}
use Rattle.core_stands.specs.Grounds.{Ground, view_on}
use Rattle.core_stands.specs.Stands.{IsAt, IsHome, Rests, IsDuly}
use Rattle.core_laws.proofs.OfParting.Forgetting.{carrier_serves, server_there}
use Rattle.core_says.specs.Says.{begins_for, is_named, sends_by, sends_in}
use Rattle.core_promises.specs.Waits.{IsAtWork, IsOnItsWay}
use Rattle.router_promises.specs.Dues.{is_due, is_kept_due, is_unsent}
use Rattle.router_promises.specs.Ends.{was_answered}
use Rattle.router_promises.specs.Now.{Now, present_now}
use Rattle.router_promises.specs.Rest.{IsBegunWhole}
use Rattle.router_promises.specs.Terms.{Terms, plan_in, setup_in}
use Rattle.router_promises.specs.Wakes.{has_ended}
use Rattle.router_laws.proofs.OfWaits.Rows.{HasRow, ground_now, row_of}
use Rattle.router_laws.specs.decisions.Routers.{AreOpenJust}
use Rattle.router_laws.specs.waits.Drained.{IsDrainedFor}
use Rattle.run_laws.specs.Reads.{AllHeard, HasItsArgs, ReadsAsked, ReadsRun}
use Rattle.run_laws.proofs.Becoming.{became_so}
use Rattle.run_laws.proofs.Readable.{readable}
use Rattle.shared_router.proofs.Wholly.{whole_so}
use Rattle.shared_router.specs.Spelt.{spelt}

-- a command is spelt in one way
spelt_same : (command : Command) (number : Option ℕ) → spelt_as command number ≡ spelt command number
spelt_same (Run text schema settings args) None = refl
spelt_same (Run text schema settings args) (Some number) = refl
spelt_same (Query text) number = refl
spelt_same (InitDb schema) number = refl
spelt_same (FieldList rest) number = refl
spelt_same (SetId n) number = refl
spelt_same ReadId number = refl
spelt_same (Prepare text) number = refl
spelt_same Reset number = refl
spelt_same Quit number = refl

-- What began on a link is written whole, or something is left to write there.

all_or_some : (w : Writing) (written : List ℕ) → written ≡ take w.sent w.bytes → IsSome (writes.left_of w) ⊎ (written ≡ w.bytes)
all_or_some w written is = by (nat_lt w.sent (length w.bytes)) refl where
  by : (b : Bool) → nat_lt w.sent (length w.bytes) ≡ b → IsSome (writes.left_of w) ⊎ (written ≡ w.bytes)
  by true more =
      let some : Option Sent = Some (record { tag = w.tag; bytes = drop w.sent w.bytes }) in
      inl (ap (λ (b : Bool). is_some (if b then some else None)) more)
  by false none = inr (is ∙ take_all w.sent w.bytes (ltb-false w.sent (length w.bytes) none))

-- more of a question is to be written, and nothing else is
pub record HasLeft (row : Row) : Type 0 where
  pub sound : row.link.spoilt ≡ false
  pub none_next : row.link.next ≡ None
  pub left : IsSome (left_in row.link)

question_spelt : (step : Step) (quits : Bool) (link : Link) (question : Question) (said : List ℕ) → IsSpelt (view.Asked question) step quits link said
    → said ≡ spelt_as (command_of question) (number_for question link.live)
question_spelt step false link question said is = is
question_spelt step true link question said is = absurd is

left_asked : (stage : Stage) (writing : Option Writing) → is_asked stage ≡ true → left_at stage writing ≡ left_of writing
left_asked stages.Quiet writing is = refl
left_asked (stages.Asked asking) writing is = refl
left_asked (stages.Answered asking) writing is = absurd (true≢false (sym is))

unquiet : (stage : Stage) → is_asked stage ≡ true → is_quiet stage ≡ true → ⊥
unquiet stages.Quiet is quiet = absurd (true≢false (sym is))
unquiet (stages.Asked asking) is quiet = absurd (true≢false (sym quiet))
unquiet (stages.Answered asking) is quiet = absurd (true≢false (sym is))

module _ (reads : Reads) (codes : Codes) (login : Login) (seen : View) (row : Row) (wire : Wire) (link : Link)
    (serves : Serves reads codes login seen row wire link) (question : Question) (there : link.stage ≡ view.Asked question)
    (reads_so : ReadsRun (command_of question) (number_for question link.live)) where
  asked : is_asked row.link.state.stage ≡ true
  asked = asked_seen reads codes row.link.state link serves.state (ap is_asked_law there)

  left_is : (w : Writing) → row.link.writing ≡ Some w → left_in row.link ≡ writes.left_of w
  left_is w is =
      ap (λ (s : sides.Stage). if is_in s then left_at row.link.state.stage row.link.writing else left row.link.login) serves.inside
      ∙ left_asked row.link.state.stage row.link.writing asked ∙ ap left_of is

  begun_whole : (w : Writing) → row.link.next ≡ None → row.link.writing ≡ Some w → IsBegun row.link.step row.link.quits w wire.written link
      → HasLeft row ⊎ IsWhole (command_of question) (number_for question link.live) wire.written
  begun_whole w none is begun = by (all_or_some w wire.written begun.front) where
    said : w.bytes ≡ spelt_as (command_of question) (number_for question link.live)
    said = question_spelt row.link.step row.link.quits link question w.bytes
        (subst (λ (s : view.Stage). IsSpelt s row.link.step row.link.quits link w.bytes) there begun.spelt_so)

    by : IsSome (writes.left_of w) ⊎ (wire.written ≡ w.bytes) → HasLeft row ⊎ IsWhole (command_of question) (number_for question link.live) wire.written
    by (inl more) = inl (record { sound = serves.well asked; none_next = none; left = ap is_some (left_is w is) ∙ more })
    by (inr all) = inr (whole_so (command_of question) (number_for question link.live) wire.written reads_so
        (all ∙ said ∙ spelt_same (command_of question) (number_for question link.live)))

  by_next : (next : Option Begins) (writing : Option Writing) → row.link.next ≡ next → row.link.writing ≡ writing
      → IsWrittenBy next writing row.link.state.stage row.link.step row.link.quits wire.step wire.written link
      → HasLeft row ⊎ IsWhole (command_of question) (number_for question link.live) wire.written
  by_next None None none is over = absurd (unquiet row.link.state.stage asked over.quiet)
  by_next None (Some w) none is begun = begun_whole w none is begun
  by_next (Some next) writing none is over = absurd (unquiet row.link.state.stage asked over.0.quiet)

  pub asked_whole : HasLeft row ⊎ IsWhole (command_of question) (number_for question link.live) wire.written
  asked_whole = by_next row.link.next row.link.writing refl refl serves.written

-- what is left there is to be written
sends_left : (t : Tabled) (l : LinkId) (server : Server) → t.links l ≡ Some server → server.row.lost ≡ false → server.row.link.spoilt ≡ false
    → server.row.link.next ≡ None → sends_in t l ≡ left_in server.row.link
sends_left t l server at kept sound none =
    ap (λ (o : Option Server). sends_by o t l) at
    ∙ (λ i. if (not (kept i) && not (sound i)) && is_named t l (begins_for (none i)) then passing.sends l t else None)
    ∙ ap (λ (o : Option Server). passing.sends_by o l t) at
    ∙ ap (λ (o : Option Server).
    if option_map_or (λ (s : Server). passing.passes_next s.row.link.next s.row t) o false then left_in server.row.link else None) at
    ∙ ap (λ (next : Option Begins). if passing.passes_next next server.row t then left_in server.row.link else None) none

-- Of a client.

-- it has no answer of the router's
unowned : (plan : Plan) (tale : Tale) (seen : View) (client : tales.Client) (n : ℕ) → is_answered plan tale seen client n ≡ false
    → is_some (own_at plan tale.moment (name_of client n)) ≡ false
unowned plan tale seen client zero is = absurd (true≢false is)
unowned plan tale seen client (suc n) is =
    (or_parts (is_some (own_at plan tale.moment (name_of client (suc n)))) (is_some (seen.replies (name_of client (suc n)))) is).0

module _ (serving : Serving) (terms : Terms) (codes : Codes) (over : ClientNo → Bool) (now : Now) (log : Log) (t : Tabled) (roomy : ClientNo → Bool)
    (rests : Rests serving (ground_now terms codes over now) t roomy) (just : AreOpenJust log t) (drained : IsDrainedFor t log)
    (told : AllHeard now.tale.story) where
  abbrev g : Ground
  g = ground_now terms codes over now

  abbrev Goes : LinkId → view.Stage → Type 0
  Goes l stage = (write_dry l log ≡ true) ⊎ IsBegunWhole (setup_in terms) now l stage

  module _ (l : LinkId) (n : SessionName) (server : Server) (home : IsHome t l n server) where
    open_there : is_open l log ≡ true
    open_there = just l ∙ ap (λ (o : Option Server). is_some o || is_some (t.numbers l)) home.there

    serves : Serves (setup_in terms).reads codes ((plan_in terms).logins l) (view_on g) server.row (now.tale.wires l) ((view_on g).links l)
    serves = carrier_serves (setup_in terms) codes (plan_in terms) now.tale l server.row n home.carries
        (server_there serving g t l server rests.stands home.there).row

    reads_at : (question : Question) → ((view_on g).links l).stage ≡ view.Asked question
        → ReadsRun (command_of question) (number_for question ((view_on g).links l).live)
    reads_at question there =
        subst (λ (s : view.Stage). ReadsAsked s ((view_on g).links l).live) there
        (readable (setup_in terms) now.tale.story rests.stands.lawful
        (became_so (setup_in terms) (IsDuly (setup_in terms) (plan_in terms)) HasItsArgs (λ n due is. is.whole) now.tale.story rests.stands.duly) told l).asked

    asked_goes : (question : Question) → ((view_on g).links l).stage ≡ view.Asked question → Goes l (view.Asked question)
    asked_goes question there =
        by (asked_whole (setup_in terms).reads codes ((plan_in terms).logins l) (view_on g) server.row (now.tale.wires l) ((view_on g).links l)
        serves question there (reads_at question there)) where
          by : HasLeft server.row ⊎ IsWhole (command_of question) (number_for question ((view_on g).links l).live) (now.tale.wires l).written
              → Goes l (view.Asked question)
          by (inl has) = inl (drained.written l open_there (ap is_some (sends_left t l server home.there home.whole has.sound has.none_next) ∙ has.left))
          by (inr whole) = inr whole

    by_stage : (stage : view.Stage) → ((view_on g).links l).stage ≡ stage → Goes l stage
    by_stage view.Quiet there = inr tt
    by_stage (view.Asked question) there = asked_goes question there
    by_stage (view.Answered question) there = inr tt

    goes_there : Goes l ((view_on g).links l).stage
    goes_there = by_stage ((view_on g).links l).stage refl

  module _ (client : tales.Client) (at_client : IsAt (ground_now terms codes over now) t client) (going : has_ended terms now client ≡ false)
      (opened : is_open client.link log ≡ true) (unanswered : was_answered terms now client ≡ false) where
    abbrev AtWork : Hostgroup → Type 0
    AtWork h =
        (is_unsent terms now.tale (present_now (setup_in terms) now client.number h) ≡ true)
        ⊎ IsOnItsWay terms log now (name_of client client.taken) (present_now (setup_in terms) now client.number h)

    module _ (row : Client) (at : t.clients client.number ≡ Some row) (is : IsClient g client row) (work : Work) (working : IsWorking g client row work)
      where
        abbrev h : Hostgroup
        h = work.hostgroup

        abbrev s : Session
        s = session_of row.desk work.hostgroup

        abbrev n : SessionName
        n = present (view_on g) client.number work.hostgroup

        home_is : ((view_on g).held n).home ≡ s.home
        home_is =
            ap (λ (life : ℕ). ((view_on g).held (name_at client.number h life)).home) (is.desk.sessions.each h).life
            ∙ ap (λ (held : Held). held.home) (is.desk.sessions.each h).held

        on_way : (l : LinkId) → s.home ≡ Some l → ((view_on g).carriers (name_of client client.taken) ≡ Some l) ⊎ (is_due terms now.tale n ≡ true) → AtWork h
        on_way l home stated =
            let carried = rests.stands.homes.carried client.number row h l at home in
            inr (record {
              link = l;
              home = home_is ∙ home;
              opened = open_there l _ carried.0 carried.1;
              stated = stated;
              goes = goes_there l _ carried.0 carried.1;
            })

        module _ (due : Due) (is_there : (view_on g).dues n ≡ Some due) (last : due.ordinal ≡ work.ordinal) where
          due_so : is_due terms now.tale n ≡ true
          due_so =
              ap (is_kept_due terms now.tale n) is_there
              ∙ ap (λ (ordinal : ℕ). not (is_some (own_at (plan_in terms) now.tale.moment (record { client = client.number; ordinal = ordinal }))))
              (last ∙ working.last)
              ∙ ap not (unowned (plan_in terms) now.tale (view_on g) client client.taken unanswered)

          by_home : (o : Option LinkId) → s.home ≡ o → AtWork h
          by_home None homeless = inl (λ i. due_so i && not (is_some ((home_is ∙ homeless) i)))
          by_home (Some l) home = on_way l home (inr due_so)

        by_sent : (sent : Bool) → work.sent ≡ sent → IsSentOrNot sent (setup_in terms).reads (view_on g) client.number row.desk.seat.place work → AtWork h
        by_sent true sent out =
            on_way out.link (working.there sent ∙ out.carrier)
            (inl (subst (λ (k : ℕ). (view_on g).carriers (name_of client k) ≡ Some out.link) working.last out.carrier))
        by_sent false unsent waits = by_home waits.due waits.is_due waits.as_due.request.ordinal_is s.home refl

        by_route : (o : Option Route) → option_map (λ (route : Route). route.hostgroup) o ≡ Some h → AtWork h → IsAtWork terms log now client o
        by_route None went works = absurd (none-some h went)
        by_route (Some route) went works = subst AtWork (sym (same_Some route.hostgroup h went)) works

    by_work : (row : Client) → t.clients client.number ≡ Some row → IsClient g client row → IsGoing g client row → (o : Option Work)
        → IsWorkingOr g client row o → IsWorkOr (setup_in terms).reads (view_on g) client.number row.desk.seat.place o → is_some o ≡ true
        → IsAtWork terms log now client ((plan_in terms).routes (name_of client client.taken))
    by_work row at is goes None working its busy = absurd (true≢false (sym busy))
    by_work row at is goes (Some work) working its busy =
        by_route row at is work working ((plan_in terms).routes (name_of client client.taken)) (sym goes.went ∙ working.went)
        (by_sent row at is work working work.sent refl its.sent_or_not)

    has_row : HasRow g t client
    has_row = row_of g t client at_client (rests.over client.number ∙ going)

    pub worked : IsAtWork terms log now client ((plan_in terms).routes (name_of client client.taken))
    worked = by_work has_row.row has_row.there has_row.stands has_row.going has_row.row.desk.work has_row.going.working has_row.stands.desk.work
        (has_row.going.busy ∙ ap not (has_row.going.answered ∙ unanswered))
