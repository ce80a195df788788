-- What begins on a link by what stands next there: what is told of it, and that it may be told.
use Rattle.std.specs.Prelude.{◌≡◌, ◌⊎◌, ◌<◌, ℕ, Bool, true, false, not, ◌&&◌, ◌||◌, is_some, nat_eq, nat_lt, length, drop, if◌then◌else◌, List, [], ◌∷◌, ◌++◌, Option, Some, None}
use Rattle.std.specs.Option.{option_map_or}
use Rattle.std.proofs.Common.{refl, sym, ap, ◌∙◌, subst, arith}
use Rattle.std.proofs.lemmas.Bool.{and_parts, and_from, false≢true, true≢false, not-true, ltb-true}
use Rattle.std.proofs.lemmas.Option.{none-some, same_Some}
use Rattle.mx_base.specs.Sent.{Sent as Offer}
use Rattle.mx_base.specs.declared.names.ClientNo.{ClientNo}
use Rattle.mx_base.specs.declared.names.Hostgroup.{Hostgroup}
use Rattle.mx_base.specs.declared.tag.Tag.{Tag}
use Rattle.mx_base.specs.declared.tag.Tag.TheVariants as tags
use Rattle.server_rule.specs.Classes.{Reads}
use Rattle.server_rule.specs.Servers.{is_some_of}
use Rattle.private_model.proofs.Maps.{name_of, number_of, same_number}
use Rattle.private_model.specs.Commands as commands
use Rattle.private_model.specs.Commands.{Command}
use Rattle.private_model.specs.Names.{LinkId, MessageName, SessionName}
use Rattle.private_model.specs.Story.{Broke, Capture, Due, End, Happening, Own, Prep, Question, Sent, Statement, Sync, message_of}
use Rattle.private_model.specs.View.{Link, Setup, View}
use Rattle.log_story.specs.Plan.{Plan, Route, StepText, own_at}
use Rattle.log_story.specs.Servers.{begun_by, begun_on, due_in, of_due, or_broke, quits_by, quits_for, routed, step_for}
use Rattle.log_story.specs.Servers as servers
use Rattle.log_story.specs.Tale.{Wire, link_in}
use Rattle.tale_world.specs.Tests as tests
use Rattle.tale_world.proofs.Testing.{IsOfView}
use Rattle.link_state.specs.Writes as writes
use Rattle.link_state.specs.declared.asking.Asking.{Asking}
use Rattle.link_state.specs.declared.asking.Purpose.{Purpose}
use Rattle.link_state.specs.declared.asking.Purpose.TheVariants as purposes
use Rattle.link_state.specs.declared.wish.Command.TheVariants.{Prepare}
use Rattle.server_side.specs.Account.{Account as Login}
use Rattle.log_story.specs.Owed.{name_of as message_named}
use Rattle.log_story.specs.Servers.{logged_in_as}
use Rattle.log_story.specs.Tale as tales
use Rattle.client_seat.specs.Seats.{account_in}
use Rattle.client_desk.specs.Desks as desks
use Rattle.client_desk.specs.Desks.{session_of}
use Rattle.client_desk.specs.declared.work.Work.{Work}
use Rattle.desk_laws.specs.Stands.{IsDesk, IsUnsent, message_at}
use Rattle.core_tables.specs.Tables.{Tabled}
use Rattle.core_tables.specs.declared.client.Client.{Client}
use Rattle.link_state.specs.declared.state.Carried.{Carried}
use Rattle.link_state.specs.declared.state.Carried.TheVariants.{Nobody, Lent, Joined}
use Rattle.link_state.specs.declared.state.Stage.{Stage}
use Rattle.link_state.specs.declared.state.Stage.TheVariants.{Quiet, Asked, Answered}
use Rattle.link_state.specs.declared.writing.Writing.{Writing}
use Rattle.link_state.specs.Asks.{lends_by}
use Rattle.lent_link.specs.Links.{left_at, left_of}
use Rattle.served_link.specs.declared.row.LeftSession.{LeftSession}
use Rattle.served_link.specs.declared.row.Row.{Row}
use Rattle.row_laws.specs.Begins.{IsAsked, IsLender, IsNext}
use Rattle.row_laws.specs.Written.{spelt_as}
use Rattle.row_laws.specs.Whose.{IsHolder, IsLeft, IsWhose, name_in}
use Rattle.core_tables.specs.Passing.{is_joined, is_lent_to, is_nobody}
use Rattle.core_stands.specs.Clients.{IsNumberedNext}
use Rattle.core_stands.specs.Grounds.{Ground, view_on}
use Rattle.core_stands.specs.Servers.{IsTagged, keyed_text}
use Rattle.core_laws.specs.writing.Planned.{planned_on}
use Rattle.core_laws.proofs.OfWriting.Tests.{IsLiveFor}

abbrev pub told_for : Ground → LinkId → Tag → List Happening
told_for g l tag = begun_on g.setup g.plan g.tale.moment (view_on g) l (g.tale.wires l) tag

-- Of an unsent statement at a desk that stands: what is due.

pub record IsDueThere (g : Ground) (row : Client) (name : SessionName) (ordinal : ℕ) (work : Work) : Type 0 where
  pub client : tales.Client
  pub number : client.number ≡ name.client
  pub taken : work.ordinal ≡ client.taken
  pub ordinal_is : work.ordinal ≡ ordinal
  pub desk : IsDesk g.setup.reads (view_on g) client.number row.desk
  pub names : name ≡ desks.name_of row.desk work.hostgroup
  pub unsent : IsUnsent g.setup.reads (view_on g) client.number row.desk.seat.place work
  pub number_next : work.command ≡ Prepare → IsNumberedNext g client row work
  pub unanswered : (view_on g).replies (message_at client.number work.ordinal) ≡ None
  pub dry : row.desk.seat.outbox.coming ≡ []
  pub route : Route
  pub routed_there : g.plan.routes (message_named client client.taken) ≡ Some route
  pub hostgroup : route.hostgroup ≡ work.hostgroup
  pub not_own : own_at g.plan g.tale.moment (message_named client client.taken) ≡ None
  pub account : (login : Login) → account_in row.desk.seat.phase ≡ Some login → g.setup.accounts client.number ≡ logged_in_as login

-- a statement that passes is its client's work
pub record IsStated (g : Ground) (t : Tabled) (row : Row) (name : SessionName) (ordinal : ℕ) (question : Question) : Type 0 where
  pub client : Client
  pub there : t.clients name.client ≡ Some client
  pub work : Work
  pub in_work : client.desk.work ≡ Some work
  pub unsent : work.sent ≡ false
  pub at : IsDueThere g client name ordinal work
  pub is : question ≡ Statement name at.unsent.due
  pub home : ((session_of client.desk work.hostgroup).home ≡ None) ⊎ (name_in row.link.state.carries ≡ Some name)
  pub carries : name_in (lends_by name row.link.state.carries) ≡ Some name

-- so is one whose text is prepared first
pub record IsPrepDue (g : Ground) (t : Tabled) (row : Row) (name : SessionName) (ordinal : ℕ) (question : Question) : Type 0 where
  pub client : Client
  pub there : t.clients name.client ≡ Some client
  pub work : Work
  pub in_work : client.desk.work ≡ Some work
  pub unsent : work.sent ≡ false
  pub at : IsDueThere g client name ordinal work
  pub is : question ≡ Prep name at.unsent.due.key (keyed_text g at.unsent.due)
  pub home : ((session_of client.desk work.hostgroup).home ≡ None) ⊎ (name_in row.link.state.carries ≡ Some name)
  pub carries : name_in (lends_by name row.link.state.carries) ≡ Some name
  pub present : row.left ≡ None

-- a question that is no statement and prepares none
abbrev pub IsStep : Question → Type 0
IsStep (Statement n due) = ⊥
IsStep (Prep n key text) = ⊥
IsStep _ = Unit {0}

abbrev pub OfPurpose : Purpose → Ground → Tabled → Row → Question → Type 0
OfPurpose (purposes.Statement name ordinal key) g t row question = IsStated g t row name ordinal question
OfPurpose (purposes.Prep name ordinal key) g t row question = IsPrepDue g t row name ordinal question
OfPurpose _ g t row question = IsStep question

-- A question begins, and may be sent.
pub record Begun (g : Ground) (t : Tabled) (l : LinkId) (row : Row) (asking : Asking) (tag : Tag) : Type 0 where
  pub question : Question
  pub happens : told_for g l tag ≡ Sent l question ∷ []
  pub asked : IsAsked g.setup.reads g.codes (view_on g) row (link_in g.setup g.tale l) asking question (step_for tag (planned_on g l))
  pub stays : quits_for tag (planned_on g l) ≡ false
  pub fits : tests.fits g.setup (view_on g) (link_in g.setup g.tale l) question ≡ true
  pub of_view : IsOfView (view_on g) question
  pub for : OfPurpose asking.purpose g t row question

-- The tag of what is lent is that of what stands next.

tag_left : (w : Writing) (offer : Offer) (tag : Tag) → writes.left_of w ≡ Some offer → w.tag ≡ tag → offer.tag ≡ tag
tag_left w offer tag = by (nat_lt w.sent (length w.bytes)) where
  by : (part : Bool) → (if part then Some (record { tag = w.tag; bytes = drop w.sent w.bytes }) else None) ≡ Some offer
      → w.tag ≡ tag → offer.tag ≡ tag
  by true same tagged = ap (λ (o : Offer). o.tag) (sym (same_Some (record { tag = w.tag; bytes = drop w.sent w.bytes }) offer same)) ∙ tagged
  by false same tagged = absurd (none-some offer same)

pub offered_tag : (stage : Stage) (writing : Option Writing) (offer : Offer) (tag : Tag) → left_at stage writing ≡ Some offer → IsTagged writing tag
    → offer.tag ≡ tag
offered_tag (Answered asking) writing offer tag same tagged = absurd (none-some offer same)
offered_tag Quiet None offer tag same tagged = absurd tagged
offered_tag (Asked asking) None offer tag same tagged = absurd tagged
offered_tag Quiet (Some w) offer tag same tagged = tag_left w offer tag same tagged
offered_tag (Asked asking) (Some w) offer tag same tagged = tag_left w offer tag same tagged

-- What is lent has bytes: so an execute that is spelt there has its number.

pub record HasBytes (writing : Option Writing) : Type 0 where
  pub w : Writing
  pub there : writing ≡ Some w
  pub more : w.sent < length w.bytes

bytes_left : (w : Writing) (offer : Offer) (part : Bool) → nat_lt w.sent (length w.bytes) ≡ part
    → (if part then Some (record { tag = w.tag; bytes = drop w.sent w.bytes }) else None) ≡ Some offer → HasBytes (Some w)
bytes_left w offer true some same = record { w = w; there = refl; more = ltb-true w.sent (length w.bytes) some }
bytes_left w offer false none same = absurd (none-some offer same)

pub bytes_lent : (stage : Stage) (writing : Option Writing) (offer : Offer) → left_at stage writing ≡ Some offer → HasBytes writing
bytes_lent (Answered asking) writing offer same = absurd (none-some offer same)
bytes_lent Quiet None offer same = absurd (none-some offer same)
bytes_lent (Asked asking) None offer same = absurd (none-some offer same)
bytes_lent Quiet (Some w) offer same = bytes_left w offer (nat_lt w.sent (length w.bytes)) refl same
bytes_lent (Asked asking) (Some w) offer same = bytes_left w offer (nat_lt w.sent (length w.bytes)) refl same

pub lives_so : (command : Command) (number : Option ℕ) (writing : Option Writing) → HasBytes writing → IsNext writing (spelt_as command number) → IsLiveFor command number
lives_so (commands.Run text schema settings args) (Some number) writing has next = refl
lives_so (commands.Run text schema settings args) None writing has next =
    let none : has.w.bytes ≡ [] = subst (λ (o : Option Writing). IsNext o []) has.there next in
    absurd (let size : length has.w.bytes ≡ 0 = ap length none in let more : has.w.sent < length has.w.bytes = has.more in omega (arith, size, more))
lives_so (commands.Query text) number writing has next = tt
lives_so (commands.InitDb schema) number writing has next = tt
lives_so (commands.FieldList rest) number writing has next = tt
lives_so (commands.SetId n) number writing has next = tt
lives_so (commands.Prepare text) number writing has next = tt
lives_so commands.ReadId number writing has next = tt
lives_so commands.Reset number writing has next = tt
lives_so commands.Quit number writing has next = tt

-- Nothing is unread there, or a QUIT begins.

pub no_bytes : (g : Ground) (l : LinkId) (tag : Tag) → (g.tale.wires l).unread ≡ []
    → told_for g l tag ≡ begun_by g.setup g.plan g.tale.moment (view_on g) l (g.tale.wires l).begun tag
no_bytes g l tag none =
    ap (λ (unread : List ℕ). if is_some_of unread && not (quits_for tag (planned_on g l)) then Broke ∷ []
    else begun_by g.setup g.plan g.tale.moment (view_on g) l (g.tale.wires l).begun tag) none

-- What is due is told as sent.

due_there : (plan : Plan) (moment ordinal : ℕ) (n : SessionName) (due : Due) → due.ordinal ≡ ordinal → own_at plan moment (message_of n due) ≡ None
    → due_in plan moment ordinal n (Some due) ≡ Some due
due_there plan moment ordinal n due same none =
    ap (λ (is : Bool). if is then Some due else None)
    (and_from (nat_eq due.ordinal ordinal) (not (is_some (own_at plan moment (message_of n due))))
    (ap (λ (k : ℕ). nat_eq k ordinal) same ∙ same_number ordinal) (ap (λ (own : Option (List (List ℕ))). not (is_some own)) none))

pub due_sent : (plan : Plan) (moment : ℕ) (seen : View) (l : LinkId) (ordinal : ℕ) (n : SessionName) (due : Due) (question : Due → Question) → seen.dues n ≡ Some due
    → due.ordinal ≡ ordinal → own_at plan moment (message_of n due) ≡ None → of_due plan moment seen l ordinal n question ≡ Sent l (question due) ∷ []
due_sent plan moment seen l ordinal n due question there same none =
    let says = λ (d : Due). Sent l (question d) ∷ [] in
    ap (λ (d : Option Due). or_broke says (due_in plan moment ordinal n d)) there
    ∙ ap (λ (d : Option Due). or_broke says d) (due_there plan moment ordinal n due same none)

pub routed_so : (plan : Plan) (client : ClientNo) (ordinal : ℕ) (happens : Route → List Happening) (route : Route)
    → plan.routes (record { client = client; ordinal = ordinal }) ≡ Some route → routed plan client ordinal happens ≡ happens route
routed_so plan client ordinal happens route there = ap (λ (r : Option Route). or_broke happens r) there

-- Whom the link carries.

pub lent_name : (name : SessionName) (c : Carried) (homeless : Bool) → ((is_nobody c && homeless) || is_lent_to name c) ≡ true
    → name_in (lends_by name c) ≡ Some name
lent_name name Nobody homeless is = refl
lent_name name (Lent m) homeless is = ap (λ (n : SessionName). Some n) (sym (name_of name m is))
lent_name name (Joined m) homeless is = absurd (false≢true is)

pub lent_to_name : (name : SessionName) (c : Carried) → is_lent_to name c ≡ true → name_in c ≡ Some name
lent_to_name name (Lent m) is = ap (λ (n : SessionName). Some n) (sym (name_of name m is))
lent_to_name name Nobody is = absurd (false≢true is)
lent_to_name name (Joined m) is = absurd (false≢true is)

pub joined_name : (name : SessionName) (c : Carried) → is_joined name c ≡ true → name_in c ≡ Some name
joined_name name (Joined m) is = ap (λ (n : SessionName). Some n) (sym (name_of name m is))
joined_name name Nobody is = absurd (false≢true is)
joined_name name (Lent m) is = absurd (false≢true is)

pub joined_lends : (name : SessionName) (c : Carried) → is_joined name c ≡ true → name_in (lends_by name c) ≡ Some name
joined_lends name (Joined m) is = ap (λ (n : SessionName). Some n) (sym (name_of name m is))
joined_lends name Nobody is = absurd (false≢true is)
joined_lends name (Lent m) is = absurd (false≢true is)

pub lender_so : (seen : View) (name : SessionName) (c : Carried) → name.life ≡ seen.lives name.client name.hostgroup → IsLender seen c (lends_by name c)
lender_so seen name Nobody present = present
lender_so seen name (Lent m) present = tt
lender_so seen name (Joined m) present = tt

pub lender_same : (seen : View) (c : Carried) → IsLender seen c c
lender_same seen Nobody = tt
lender_same seen (Lent m) = tt
lender_same seen (Joined m) = tt

-- a present session wasn't left

holder_none : (seen : View) (n m : SessionName) (left : Option LeftSession) → Some m ≡ Some n → n.life ≡ seen.lives n.client n.hostgroup → IsHolder seen m left
    → left ≡ None
holder_none seen n m None same present holds = refl
holder_none seen n m (Some left) same present holds =
    let is : IsLeft seen n left = subst (λ (k : SessionName). IsLeft seen k left) (same_Some m n same) holds in
    absurd (omega (arith, is.earlier, present))

pub present_stays : (seen : View) (n : SessionName) (c : Carried) (left : Option LeftSession) → name_in (lends_by n c) ≡ Some n
    → n.life ≡ seen.lives n.client n.hostgroup → IsWhose seen c left → left ≡ None
present_stays seen n Nobody left same present whose = whose
present_stays seen n (Lent m) left same present whose = holder_none seen n m left same present whose
present_stays seen n (Joined m) left same present whose = holder_none seen n m left same present whose
