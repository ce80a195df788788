-- What is asked on links to servers: links with which that has nothing to do.
use Rattle.std.specs.Prelude.{◌≡◌, ℕ, Bool, true, false, ◌||◌, is_some, if◌then◌else◌, take, List, Option, Some, None, Ok}
use Rattle.std.specs.Option.{option_map, option_and_then}
use Rattle.std.proofs.Common.{◌∙◌, refl, sym, ap, subst}
use Rattle.mx_base.specs.declared.names.ClientNo.{ClientNo}
use Rattle.mx_base.specs.declared.names.LinkId.{LinkId}
use Rattle.server_side.specs.Hearing as hearing
use Rattle.server_side.specs.Hearing.{Got, entered_of}
use Rattle.server_side.specs.declared.hear.Heard.{Heard}
use Rattle.server_side.specs.declared.hear.Heard.TheVariants as said
use Rattle.session_state.specs.declared.names.SessionName.{SessionName}
use Rattle.session_state.specs.declared.reply_end.ReplyEnd.{ReplyEnd}
use Rattle.link_state.specs.States.{answered_in}
use Rattle.link_state.specs.declared.asking.Form.{Form}
use Rattle.link_state.specs.declared.asking.Purpose.{Purpose}
use Rattle.link_state.specs.declared.asking.Purpose.TheVariants as purposes
use Rattle.link_state.specs.declared.state.Stage.{Stage}
use Rattle.link_state.specs.declared.state.Stage.TheVariants as stages
use Rattle.link_state.specs.declared.writing.Writing.{Writing}
use Rattle.lent_link.specs.Hears.{expecting, expecting_at, expecting_by, expecting_if, followed}
use Rattle.lent_link.specs.Links.{is_in}
use Rattle.lent_link.specs.declared.link.Begins.{Begins}
use Rattle.lent_link.specs.declared.link.Begins.TheVariants as begins
use Rattle.lent_link.specs.declared.link.LentLink.{LentLink}
use Rattle.lent_link.specs.declared.link.Step.{Step}
use Rattle.lent_link.specs.declared.link.Step.TheVariants as kinds
use Rattle.lent_link.specs.declared.reading.Reading.{Reading}
use Rattle.lent_link.specs.declared.reading.Took.{Took}
use Rattle.lent_link.specs.declared.reading.Took.TheVariants as took
use Rattle.served_link.specs.Hears.{link_in, link_read, made_in, news_by, news_whole, part_for, part_news, row_with, took_in}
use Rattle.served_link.specs.Reads.{EntersBy, ReadsIn, login_news, used_at}
use Rattle.served_link.specs.Writes.{began, kind_of}
use Rattle.served_link.specs.declared.writing.Kind.TheVariants.{GoesOn}
use Rattle.served_link.specs.declared.news.News.{News}
use Rattle.served_link.specs.declared.news.News.TheVariants as news
use Rattle.served_link.specs.declared.row.Row.{Row}
use Rattle.client_desk.specs.declared.work.Work.{Work}
use Rattle.client_desk.specs.Works.{formless, without_packets}
use Rattle.core_tables.specs.Beginning.{back_by, given, given_for, next_back, text_begun, text_by, text_for, with_work}
use Rattle.core_tables.specs.Hearing.{Answer, IsHeard, IsHeardBy, IsReading, answered_for, heard_on, told_by}
use Rattle.core_tables.specs.Hearing as hearings
use Rattle.core_tables.specs.Parting.{changed_at, freed_in, freed_of, freed_row, freed_server, gone_row, is_done_in, lost_in, lost_row, present_at, present_in}
use Rattle.core_tables.specs.Tables.{IsSame, Tabled, client_put, link_changed}
use Rattle.core_tables.specs.Writing.{begun_for, lasts, purpose_next, server_wrote, wrote_by, wrote_on}
use Rattle.core_tables.specs.declared.client.Client.{Client}
use Rattle.core_tables.specs.declared.said.Said.{Said}
use Rattle.core_tables.specs.declared.server.Server.{Server}
use Rattle.core_says.specs.Marking.{IsClearOf}
use Rattle.core_says.specs.Says.{IsQuieter}
use Rattle.core_says.proofs.Concerning.{quieter_on, same_quieter}
use Rattle.marked_tables.specs.Marking.{IsClearAt, IsClearFor, IsOther, IsUnasked, IsUncarried, carrier_at, client_of, next_at, next_client, stage_at, stage_client}
use Rattle.marked_tables.proofs.Clearing.{back_spares, freed_spares, gone_spares, grown_spares, lent_spares, replied_spares, sent_spares, told_spares, work_spares}
use Rattle.marked_tables.proofs.Quiet.{client_quiet, link_quiet, named_quiet, put_quiet, still_quiet}

clear_for : (t : Tabled) (a b : Option ClientNo) (link : LinkId) → a ≡ b → IsClearFor t a link → IsClearFor t b link
clear_for t a b link same clear = subst (λ (o : Option ClientNo). IsClearFor t o link) same clear

-- of clients' rows alone
same_clear : (a b : Tabled) (c : Option ClientNo) (link : LinkId) → ((n : ClientNo) → b.clients n ≡ a.clients n) → IsClearFor a c link → IsClearFor b c link
same_clear a b None link same clear = tt
same_clear a b (Some c) link same clear = subst (λ (row : Option Client). IsClearOf link row) (sym (same c)) clear

same_quiet : (a b : Tabled) (link : LinkId) → IsSame b a → IsQuieter a b link
same_quiet a b link same = same_quieter a b link same.clients (same.numbers link) (same.links link)

-- What was to begin is taken back.

for_quiet : (t : Tabled) (p : Purpose) (form : Form) (packets : List ℕ) (link : LinkId) → IsClearFor t (client_of p) link
    → IsQuieter t (given_for p form packets t) link
for_quiet t (purposes.Statement n ordinal key) form packets link clear = client_quiet t n.client _ link (back_spares n ordinal form packets link) clear
for_quiet t (purposes.Prep n ordinal key) form packets link clear = still_quiet t link
for_quiet t (purposes.Sync n) form packets link clear = still_quiet t link
for_quiet t purposes.Own form packets link clear = still_quiet t link
for_quiet t (purposes.End n) form packets link clear = still_quiet t link
for_quiet t (purposes.Capture n) form packets link clear = still_quiet t link

given_quiet : (t : Tabled) (next : Option Begins) (writing : Option Writing) (link : LinkId) → IsClearFor t (next_client next) link
    → IsQuieter t (given next writing t) link
given_quiet t None writing link clear = still_quiet t link
given_quiet t (Some (begins.Asks asking)) None link clear = still_quiet t link
given_quiet t (Some (begins.Asks asking)) (Some w) link clear = for_quiet t asking.purpose asking.form w.bytes link clear
given_quiet t (Some begins.Quits) writing link clear = still_quiet t link
given_quiet t (Some (begins.Closes number)) writing link clear = still_quiet t link
given_quiet t (Some (begins.Resets number)) writing link clear = still_quiet t link

back_quiet_by : (t : Tabled) (l : LinkId) (server : Option Server) (link : LinkId) → IsOther l link → IsClearFor t (next_at server) link
    → IsQuieter t (back_by l server t) link
back_quiet_by t l None link other clear = still_quiet t link
back_quiet_by t l (Some server) link other clear =
    let back : Tabled = given server.row.link.next server.row.link.writing t in
    quieter_on t back _ link (given_quiet t server.row.link.next server.row.link.writing link clear) (link_quiet back l _ link other)

pub back_quiet : (t : Tabled) (l link : LinkId) → IsUnasked t l link → IsQuieter t (next_back l t) link
back_quiet t l link un = back_quiet_by t l (t.links l) link un.other un.next

-- A client's statement is to begin.

work_quiet : (t : Tabled) (l : LinkId) (name : SessionName) (client : Client) (work : Option Work) (link : LinkId) → IsOther l link
    → t.clients name.client ≡ Some client → IsClearAt t name.client link → IsQuieter t (text_by l name client work t) link
work_quiet t l name client None link other is clear = still_quiet t link
work_quiet t l name client (Some work) link other is clear =
    let put : Tabled = client_put name.client (Some (with_work (Some (without_packets (formless work))) client)) t in
    quieter_on t put _ link
    (put_quiet t name.client _ link clear (work_spares _ link client (subst (λ (r : Option Client). IsClearOf link r) is clear)))
    (link_quiet put l _ link other)

text_quiet_by : (t : Tabled) (l : LinkId) (name : SessionName) (server : Option Server) (client : Option Client) (link : LinkId) → IsOther l link
    → t.clients name.client ≡ client → IsClearAt t name.client link → IsQuieter t (text_for l name server client t) link
text_quiet_by t l name None None link other is clear = still_quiet t link
text_quiet_by t l name None (Some client) link other is clear = still_quiet t link
text_quiet_by t l name (Some server) None link other is clear = still_quiet t link
text_quiet_by t l name (Some server) (Some client) link other is clear = work_quiet t l name client client.desk.work link other is clear

pub text_quiet : (t : Tabled) (l : LinkId) (name : SessionName) (link : LinkId) → IsOther l link → IsClearAt t name.client link
    → IsQuieter t (text_begun l name t) link
text_quiet t l name link other clear = text_quiet_by t l name (t.links l) (t.clients name.client) link other refl clear

-- Bytes are written there, and what is next begins.

began_clear : (t : Tabled) (is_inside : Bool) (next : Option Begins) (link : LinkId) → IsClearFor t (next_client next) link
    → IsClearFor t (option_and_then client_of (began (if is_inside then kind_of next else GoesOn))) link
began_clear t false next link clear = tt
began_clear t true None link clear = tt
began_clear t true (Some (begins.Asks asking)) link clear = clear
began_clear t true (Some begins.Quits) link clear = tt
began_clear t true (Some (begins.Closes number)) link clear = tt
began_clear t true (Some (begins.Resets number)) link clear = tt

begun_quiet : (t : Tabled) (p : Option Purpose) (l : LinkId) (lasting : Bool) (link : LinkId) → IsOther l link
    → IsClearFor t (option_and_then client_of p) link → IsQuieter t (begun_for p l lasting t) link
begun_quiet t None l lasting link other clear = still_quiet t link
begun_quiet t (Some (purposes.Statement n ordinal key)) l lasting link other clear =
    client_quiet t n.client _ link (sent_spares n.hostgroup l lasting link other) clear
begun_quiet t (Some (purposes.Prep n ordinal key)) l lasting link other clear = client_quiet t n.client _ link (lent_spares n.hostgroup l link other) clear
begun_quiet t (Some (purposes.Sync n)) l lasting link other clear = still_quiet t link
begun_quiet t (Some purposes.Own) l lasting link other clear = still_quiet t link
begun_quiet t (Some (purposes.End n)) l lasting link other clear = still_quiet t link
begun_quiet t (Some (purposes.Capture n)) l lasting link other clear = still_quiet t link

wrote_quiet_by : (t : Tabled) (l : LinkId) (count now : ℕ) (server : Option Server) (link : LinkId) → IsOther l link → IsClearFor t (next_at server) link
    → IsQuieter t (wrote_by server l count now t) link
wrote_quiet_by t l count now None link other clear = still_quiet t link
wrote_quiet_by t l count now (Some server) link other clear =
    let wrote : Tabled = link_changed l (server_wrote count now) t in
    quieter_on t wrote _ link (link_quiet t l _ link other)
    (begun_quiet wrote (purpose_next server.row) l (lasts server.row.link.next) link other
    (same_clear t wrote (option_and_then client_of (purpose_next server.row)) link (λ c. refl)
    (began_clear t (is_in server.row.link.login.stage) server.row.link.next link clear)))

pub wrote_quiet : (t : Tabled) (l : LinkId) (count now : ℕ) (link : LinkId) → IsUnasked t l link → IsQuieter t (wrote_on l count now t) link
wrote_quiet t l count now link un = wrote_quiet_by t l count now (t.links l) link un.other un.next

-- Bytes are read there. What they tell is of what stands there.

expected_at : (at : Stage) (link : LentLink) → link.state.stage ≡ at → stage_client (expecting_at at link).state.stage ≡ stage_client at
expected_at stages.Quiet link is = ap stage_client is
expected_at (stages.Asked asking) link is = rw is refl
expected_at (stages.Answered asking) link is = ap stage_client is

expected_by : (step : Step) (link : LentLink) → stage_client (expecting_by step link).state.stage ≡ stage_client link.state.stage
expected_by kinds.Other link = expected_at link.state.stage link refl
expected_by (kinds.Closes number) link = expected_at link.state.stage link refl
expected_by (kinds.Resets number) link = refl

expected_if : (under_way : Option Reading) (link : LentLink) → stage_client (expecting_if under_way link).state.stage ≡ stage_client link.state.stage
expected_if None link = expected_by link.step link
expected_if (Some reading) link = refl

followed_same : (took : Took) (reading : Reading) (size : ℕ) (link : LentLink) → (followed reading took size link).state.stage ≡ link.state.stage
followed_same took.Part reading size link = refl
followed_same (took.Whole used end) reading size link = refl
followed_same (took.Bad place) reading size link = refl

linked_in : (under_way : Option Reading) (piece : List ℕ) (link : LentLink) → (link_in under_way piece link).state.stage ≡ link.state.stage
linked_in None piece link = refl
linked_in (Some reading) piece link = followed_same _ _ _ link

read_stage : (piece : List ℕ) (link : LentLink) → stage_client (link_read piece link).state.stage ≡ stage_client link.state.stage
read_stage piece link = ap stage_client (linked_in (expecting link).reading piece (expecting link)) ∙ expected_if link.reading link

-- for whom news is

abbrev news_client : News → Option ClientNo
news_client (news.Part n) = Some n.client
news_client (news.Whole asking end number used) = client_of asking.purpose
news_client _ = None

-- where a client has nothing to do with it, no news is for one that has
part_clear : (t : Tabled) (p : Purpose) (link : LinkId) → IsClearFor t (client_of p) link → IsClearFor t (news_client (part_for p)) link
part_clear t (purposes.Statement n ordinal key) link clear = clear
part_clear t (purposes.Prep n ordinal key) link clear = tt
part_clear t (purposes.Sync n) link clear = tt
part_clear t purposes.Own link clear = tt
part_clear t (purposes.End n) link clear = tt
part_clear t (purposes.Capture n) link clear = tt

stage_part : (t : Tabled) (at : Stage) (link : LinkId) → IsClearFor t (stage_client at) link → IsClearFor t (news_client (part_news at)) link
stage_part t stages.Quiet link clear = tt
stage_part t (stages.Asked asking) link clear = tt
stage_part t (stages.Answered asking) link clear = part_clear t asking.purpose link clear

stage_whole : (t : Tabled) (at : Stage) (end : ReplyEnd) (number : Option ℕ) (used : ℕ) (link : LinkId) → IsClearFor t (stage_client at) link
    → IsClearFor t (news_client (news_whole (answered_in at) end number used)) link
stage_whole t stages.Quiet end number used link clear = tt
stage_whole t (stages.Asked asking) end number used link clear = tt
stage_whole t (stages.Answered asking) end number used link clear = clear

took_clear : (t : Tabled) (took : Took) (made : List ℕ) (row : Row) (link : LinkId) → IsClearFor t (stage_client row.link.state.stage) link
    → IsClearFor t (news_client (news_by took made row)) link
took_clear t took.Part made row link clear = stage_part t row.link.state.stage link clear
took_clear t (took.Whole used end) made row link clear = stage_whole t row.link.state.stage end _ used link clear
took_clear t (took.Bad place) made row link clear = tt

login_none : (heard : Heard) → news_client (login_news heard) ≡ None
login_none said.Quiet = refl
login_none said.LoggedIn = refl
login_none (said.Part used) = refl
login_none (said.Whole used) = refl

enters_none : (tells : News) (new : Row) (got : Got) (old : Row) → EntersBy tells new got old → news_client tells ≡ None
enters_none tells new (hearing.Hears heard login) old enters = ap news_client enters.0 ∙ login_none heard
enters_none tells new (hearing.Fails fault) old enters = ap news_client enters.tells

reads_clear : (t : Tabled) (is_inside : Bool) (tells : News) (new : Row) (made : List ℕ) (old : Row) (piece : List ℕ) (link : LinkId)
    → ReadsIn is_inside (Ok tells) new made old piece → IsClearFor t (stage_client old.link.state.stage) link → IsClearFor t (news_client tells) link
reads_clear t true tells new made old piece link reads clear =
    clear_for t _ _ link (sym (ap news_client reads.tells))
    (took_clear t (took_in (expecting old.link).reading piece) (made_in (expecting old.link).reading piece) (row_with piece old) link
    (clear_for t _ _ link (sym (read_stage piece old.link)) clear))
reads_clear t false tells new made old piece link reads clear =
    clear_for t _ _ link (sym (enters_none tells new (entered_of piece old.link.login) old reads)) tt

-- and what it makes of the tables

answered_quiet : (t : Tabled) (p : Purpose) (a : Answer) (made : List ℕ) (link : LinkId) → IsClearFor t (client_of p) link
    → IsQuieter t (answered_for p a made t) link
answered_quiet t (purposes.Statement n ordinal key) a made link clear = client_quiet t n.client _ link (replied_spares a n.hostgroup made link) clear
answered_quiet t (purposes.Prep n ordinal key) a made link clear = client_quiet t n.client _ link (told_spares a n.hostgroup link) clear
answered_quiet t (purposes.Sync n) a made link clear = client_quiet t n.client _ link (told_spares a n.hostgroup link) clear
answered_quiet t purposes.Own a made link clear = still_quiet t link
answered_quiet t (purposes.End n) a made link clear = client_quiet t n.client _ link (told_spares a n.hostgroup link) clear
answered_quiet t (purposes.Capture n) a made link clear = client_quiet t n.client _ link (told_spares a n.hostgroup link) clear

told_quiet : (t : Tabled) (tells : News) (multiplex : Option Bool) (made : List ℕ) (link : LinkId) → IsClearFor t (news_client tells) link
    → IsQuieter t (told_by tells multiplex made t) link
told_quiet t news.Nothing multiplex made link clear = still_quiet t link
told_quiet t news.LoggedIn multiplex made link clear = still_quiet t link
told_quiet t (news.LoginFailed shuns) multiplex made link clear = still_quiet t link
told_quiet t (news.Part n) multiplex made link clear = client_quiet t n.client _ link (grown_spares made link) clear
told_quiet t (news.Whole asking end number used) multiplex made link clear = answered_quiet t asking.purpose _ (take used made) link clear
told_quiet t news.ResetDone multiplex made link clear = still_quiet t link
told_quiet t (news.Bad place) multiplex made link clear = still_quiet t link

if_quiet : (b : Bool) (t after : Tabled) (link : LinkId) → IsQuieter t after link → IsQuieter t (if b then t else after) link
if_quiet true t after link quiet = still_quiet t link
if_quiet false t after link quiet = quiet

heard_by : (t : Tabled) (l : LinkId) (server : Server) (bytes : List ℕ) (now : ℕ) (reading : IsReading server.row bytes now) (link : LinkId)
    → IsOther l link → IsClearFor t (stage_client server.row.link.state.stage) link → IsQuieter t (heard_on l reading t) link
heard_by t l server bytes now reading link other clear =
    let read : Tabled = link_changed l (hearings.with_row reading.row) t in
    quieter_on t read _ link (link_quiet t l _ link other)
    (if_quiet (is_some reading.row.left) read _ link
    (told_quiet read reading.news reading.row.multiplex reading.made link
    (same_clear t read (news_client reading.news) link (λ c. refl)
    (reads_clear t (is_in server.row.link.login.stage) reading.news reading.row reading.made (used_at now server.row) bytes link reading.reads clear))))

heard_quiet_by : (t : Tabled) (l : LinkId) (server : Option Server) (bytes : List ℕ) (now : ℕ) (result : Said) (new : Tabled) (link : LinkId)
    → IsHeardBy server l bytes now result new t → IsOther l link → IsClearFor t (stage_at server) link → IsQuieter t new link
heard_quiet_by t l None bytes now result new link heard other clear = same_quiet t new link heard.0
heard_quiet_by t l (Some server) bytes now result new link heard other clear =
    quieter_on t (heard_on l heard.reading t) new link (heard_by t l server bytes now heard.reading link other clear)
    (same_quiet (heard_on l heard.reading t) new link heard.tables)

pub heard_quiet : (t : Tabled) (l : LinkId) (bytes : List ℕ) (now : ℕ) (result : Said) (new : Tabled) (link : LinkId)
    → IsHeard l bytes now result new t → IsUnasked t l link → IsQuieter t new link
heard_quiet t l bytes now result new link heard un = heard_quiet_by t l (t.links l) bytes now result new link heard un.other un.stage

-- A link is given back or lost, and with it the client changes whose session it carries.

present_by : (lost left : Bool) (name : Option SessionName) (t : Tabled) (link : LinkId) → IsClearFor t (option_map (λ (n : SessionName). n.client) name) link
    → IsClearFor t (option_map (λ (n : SessionName). n.client) (if lost || left then None else name)) link
present_by true left name t link clear = tt
present_by false true name t link clear = tt
present_by false false name t link clear = clear

present_clear : (t : Tabled) (server : Option Server) (link : LinkId) → IsClearFor t (carrier_at server) link
    → IsClearFor t (option_map (λ (n : SessionName). n.client) (option_and_then present_at server)) link
present_clear t None link clear = tt
present_clear t (Some server) link clear = present_by server.row.lost (is_some server.row.left) _ t link clear

pub lost_quiet : (t : Tabled) (l link : LinkId) → IsUncarried t l link → IsQuieter t (lost_in l t) link
lost_quiet t l link un =
    let gone : Tabled = changed_at gone_row (present_in l t) t in
    quieter_on t gone _ link
    (named_quiet t gone_row (present_in l t) link (λ h. gone_spares h link) (present_clear t (t.links l) link un.carrier))
    (link_quiet gone l lost_row link un.other)

freed_of_quiet : (t : Tabled) (l link : LinkId) → IsUncarried t l link → IsQuieter t (freed_of l t) link
freed_of_quiet t l link un =
    let freed : Tabled = changed_at freed_row (present_in l t) t in
    quieter_on t freed _ link
    (named_quiet t freed_row (present_in l t) link (λ h. freed_spares h link) (present_clear t (t.links l) link un.carrier))
    (link_quiet freed l freed_server link un.other)

then_quiet : (b : Bool) (t after : Tabled) (link : LinkId) → IsQuieter t after link → IsQuieter t (if b then after else t) link
then_quiet true t after link quiet = quiet
then_quiet false t after link quiet = still_quiet t link

pub freed_quiet : (t : Tabled) (l link : LinkId) → IsUncarried t l link → IsQuieter t (freed_in l t) link
freed_quiet t l link un = then_quiet (is_done_in l t) t (freed_of l t) link (freed_of_quiet t l link un)
