-- What the row of a link reads: where that stays, the row stands as before.
use Rattle.std.specs.Prelude.{◌≡◌, ◌⊎◌, ℕ, Bool, true, false, nat_eq, if◌then◌else◌, ◌∷◌, Option, Some, None}
use Rattle.std.specs.Option.{option_map}
use Rattle.std.proofs.Common.{refl, sym, ap, ◌∙◌, subst, arith, inl, inr}
use Rattle.std.proofs.lemmas.Bool.{true≢false}
use Rattle.std.proofs.lemmas.Option.{none-some}
use Rattle.private_model.proofs.Maps.{name_of, same_message, same_number}
use Rattle.private_model.specs.Names.{ClientNo, LinkId, SessionName}
use Rattle.private_model.specs.Commands.{Reply}
use Rattle.private_model.specs.Lawful.{IsLawful}
use Rattle.private_model.specs.Story as story
use Rattle.private_model.specs.Story.{BecameDue, Broke, Dropped, Due, Freed, Gone, Happening, Heard, Left, LoggedIn, Mirrored, Question, Ran, Sent, Unprepared, is_message, is_name, put}
use Rattle.private_model.specs.View as view
use Rattle.private_model.specs.View.{Link, Setup, View, due_of, present, view_heard, view_step}
use Rattle.log_story.specs.Tale.{Wire, is_to_server, link_in, tell}
use Rattle.server_rule.specs.Classes.{Reads}
use Rattle.server_side.specs.Account.{Account as Login}
use Rattle.link_laws.specs.Stands.{Codes}
use Rattle.link_state.specs.declared.asking.Asking.{Asking}
use Rattle.link_state.specs.declared.asking.Purpose.{Purpose}
use Rattle.link_state.specs.declared.asking.Purpose.TheVariants as purposes
use Rattle.link_state.specs.declared.state.Carried.{Carried}
use Rattle.link_state.specs.declared.state.Carried.TheVariants.{Nobody, Lent, Joined}
use Rattle.link_state.specs.declared.state.Stage.{Stage}
use Rattle.link_state.specs.declared.state.Stage.TheVariants.{Quiet, Asked, Answered}
use Rattle.lent_link.specs.declared.link.Begins.{Begins}
use Rattle.lent_link.specs.declared.link.Begins.TheVariants as begins
use Rattle.served_link.specs.declared.row.LeftSession.{LeftSession}
use Rattle.served_link.specs.declared.row.Row.{Row}
use Rattle.row_laws.specs.Apart.{IsElsewhere, IsSpared}
use Rattle.row_laws.specs.Rows.{IsRow, IsRowBy, IsRowIn, Serves}
use Rattle.row_laws.specs.Whose.{IsHolder, IsUntouched, IsWhose, name_in}
use Rattle.client_desk.specs.declared.work.Work.{Work}
use Rattle.core_tables.specs.Tables.{Tabled}
use Rattle.core_tables.specs.declared.client.Client.{Client}
use Rattle.core_tables.specs.declared.server.Server.{Server}
use Rattle.core_stands.specs.Grounds.{Ground, on, view_on}
use Rattle.core_stands.specs.Servers.{IsFirst, IsNextFor, IsNextOf, IsReplyingAt, IsReplyingFor, IsServer, IsServerBy, IsServerOr}
use Rattle.core_laws.proofs.OfParting.Grounds.{parted_after, taken_after}
use Rattle.core_laws.proofs.OfParting.Standing.{stand_so, standing_at}
use Rattle.core_laws.proofs.OfParting.Ahead.{ahead_elsewhere}
use Rattle.core_laws.proofs.OfParting.Named.{row_carries}
use Rattle.core_laws.specs.parting.Frames.{Glance, IsGlanced, IsNotInWork, IsStated, Keeps, KeepsNext, KeepsNextFor, KeepsOr, SparesDue, SparesNext, SparesNextFor, SparesRow, SparesRowOr, Stated, client_at, client_in, glance, stated}

pub some_is : {A : Type 0} (a b : A) → Some a ≡ Some b → a ≡ b
some_is a b is = cc

-- The row itself.

pub holder_of : (seen : View) (carries : Carried) (left : Option LeftSession) (n : SessionName) → IsWhose seen carries left → name_in carries ≡ Some n
    → IsHolder seen n left
holder_of seen Nobody left n is named = absurd (none-some n named)
holder_of seen (Lent m) left n is named = subst (λ (k : SessionName). IsHolder seen k left) (some_is m n named) is
holder_of seen (Joined m) left n is named = subst (λ (k : SessionName). IsHolder seen k left) (some_is m n named) is

holder_on : (seen new : View) (n : SessionName) (left : Option LeftSession) → IsUntouched seen new n left → IsHolder seen n left → IsHolder new n left
holder_on seen new n None same is = is ∙ sym same
holder_on seen new n (Some left) same is =
    record { earlier = omega (arith, is.earlier, same.later); pin = same.pin ∙ is.pin; id = same.id ∙ is.id; lasting = same.lasting ∙ is.lasting }

pub whose_on : (seen new : View) (carries : Carried) (left : Option LeftSession) → ((n : SessionName) → name_in carries ≡ Some n → IsUntouched seen new n left)
    → IsWhose seen carries left → IsWhose new carries left
whose_on seen new Nobody left same is = is
whose_on seen new (Lent n) left same is = holder_on seen new n left (same n refl) is
whose_on seen new (Joined n) left same is = holder_on seen new n left (same n refl) is

module _ (reads : Reads) (codes : Codes) (login : Login) (seen new : View) (row : Row) (wire : Wire) (link : Link)
    (whose : row.lost ≡ false → IsWhose seen row.link.state.carries row.left → IsWhose new row.link.state.carries row.left) where
  serves_after : Serves reads codes login seen row wire link → Serves reads codes login new row wire link
  serves_after is = record {
    entered = is.entered;
    inside = is.inside;
    account = is.account;
    server = is.server;
    usable = is.usable;
    state = is.state;
    quits = is.quits;
    step = is.step;
    stepless = is.stepless;
    written = is.written;
    bad = is.bad;
    well = is.well;
    unread = is.unread;
    cell = is.cell;
    whose = λ here. whose here (is.whose here);
    own = is.own;
    shared = is.shared;
  }

  row_by : (entered : Bool) → IsRowBy entered reads codes login seen row wire link → IsRowBy entered reads codes login new row wire link
  row_by true is = serves_after is
  row_by false is = is

  pub row_after : IsRow reads codes login seen row wire link → IsRow reads codes login new row wire link
  row_after is = record { server = is.server; is = row_by wire.entered is.is }

-- What is due.

module _ (setup : Setup) (seen : View) (n : SessionName) (ordinal : ℕ) (due : Due) where
  heard_due : (stage : view.Stage) (link : LinkId) (reply : Reply) → (view_heard setup seen link reply stage).dues n ≡ Some due → seen.dues n ≡ Some due
  heard_due view.Quiet link reply there = there
  heard_due (view.Asked question) link reply there = there
  heard_due (view.Answered question) link reply there = there

  sent_due : (question : Question) (link : LinkId) → (view_step setup seen (Sent link question)).dues n ≡ Some due → seen.dues n ≡ Some due
  sent_due (story.Statement m other) link there = by (is_name n m) refl there where
    by : (b : Bool) → is_name n m ≡ b → (if b then None else seen.dues n) ≡ Some due → seen.dues n ≡ Some due
    by true same is = absurd (none-some due is)
    by false apart is = is
  sent_due (story.Prep m key text) link there = there
  sent_due (story.Sync m command) link there = there
  sent_due (story.Own command) link there = there
  sent_due (story.End m) link there = there
  sent_due (story.Capture m) link there = there

  -- what becomes due is another message
  new_due : (m : SessionName) (d : Due) → is_message (record { client = n.client; ordinal = ordinal }) (record { client = m.client; ordinal = d.ordinal }) ≡ false
      → due.ordinal ≡ ordinal → put is_name seen.dues m (Some d) n ≡ Some due → seen.dues n ≡ Some due
  new_due m d apart at there = by (is_name n m) refl there where
    by : (b : Bool) → is_name n m ≡ b → (if b then Some d else seen.dues n) ≡ Some due → seen.dues n ≡ Some due
    by false other is = is
    by true same is =
        let one : n ≡ m = name_of n m same in
        let also : ordinal ≡ d.ordinal = sym at ∙ ap (λ (x : Due). x.ordinal) (sym (some_is d due is)) in
        let here : is_message (record { client = n.client; ordinal = ordinal }) (record { client = m.client; ordinal = d.ordinal }) ≡ true =
        (λ i. is_message (record { client = (one i).client; ordinal = also i }) (record { client = m.client; ordinal = d.ordinal }))
        ∙ same_message (record { client = m.client; ordinal = d.ordinal }) in
        absurd (true≢false (sym here ∙ apart))

  pub due_before : (e : Happening) → SparesDue n ordinal e → due.ordinal ≡ ordinal
      → (view_step setup seen e).dues n ≡ Some due → seen.dues n ≡ Some due
  due_before (BecameDue client hostgroup at key command multiplex) apart same there =
      new_due (present seen client hostgroup) (due_of seen (present seen client hostgroup) at key command multiplex) apart same there
  due_before (Sent link question) apart same there = sent_due question link there
  due_before (Heard link reply) apart same there = heard_due (seen.links link).stage link reply there
  due_before (LoggedIn link server account) apart same there = there
  due_before (Ran link) apart same there = there
  due_before (Freed link) apart same there = there
  due_before (Unprepared link number) apart same there = there
  due_before (Dropped link) apart same there = there
  due_before (Gone link) apart same there = there
  due_before (Left client) apart same there = there
  due_before Broke apart same there = there
  due_before (Mirrored client job) apart same there = there

-- Something happens elsewhere, by the laws of row_laws.

abbrev pub LinksStay : Type 0
LinksStay = (setup : Setup) (seen : View) (e : Happening) (l : LinkId) → IsElsewhere l e → (view_step setup seen e).links l ≡ seen.links l

abbrev pub SessionsStay : Type 0
SessionsStay = (setup : Setup) (seen : View) (n : SessionName) (e : Happening) (left : Option LeftSession) → IsHolder seen n left → IsSpared seen e n left
    → IsUntouched seen (view_step setup seen e) n left

module _ (link_stays : LinksStay) (untouched : SessionsStay) (g : Ground) (t : Tabled) (l : LinkId) (e : Happening) where
  abbrev after : Ground
  after = on g (tell e g.tale)

  module _ (row : Row) where
    next_for : (link : Link) (asking : Asking) (purpose : Purpose) → SparesNextFor purpose e → IsNextFor purpose g t row link asking
        → IsNextFor purpose after t row link asking
    next_for link asking (purposes.Statement n ordinal key) spares is = record {
      said = λ due there same. is.said due (due_before g.setup (view_on g) n ordinal due e spares same there) same;
      first = is.first;
      asked = λ due there same. is.asked due (due_before g.setup (view_on g) n ordinal due e spares same there) same;
      number = is.number;
      taken_up = taken_after g (e ∷ g.tale.story) g.tale.moment g.over n ordinal is.taken_up;
    }
    next_for link asking (purposes.Prep n ordinal key) spares is = record {
      said = λ due there same. is.said due (due_before g.setup (view_on g) n ordinal due e spares same there) same;
      told = λ due there same. is.told due (due_before g.setup (view_on g) n ordinal due e spares same there) same;
      taken_up = taken_after g (e ∷ g.tale.story) g.tale.moment g.over n ordinal is.taken_up;
    }
    next_for link asking (purposes.Sync n) spares is = record { command = is.command; said = is.said }
    next_for link asking purposes.Own spares is = record { command = is.command; said = is.said }
    next_for link asking (purposes.End n) spares is = is
    next_for link asking (purposes.Capture n) spares is = is

    next_of : (link : Link) (next : Option Begins) → SparesNext next e → IsNextOf next g t row link → IsNextOf next after t row link
    next_of link None spares is = is
    next_of link (Some (begins.Asks asking)) spares is = (is.0, next_for link asking asking.purpose spares is.1)
    next_of link (Some (begins.Closes number)) spares is = is
    next_of link (Some (begins.Resets number)) spares is = is
    next_of link (Some begins.Quits) spares is = is

    replying_for : (asking : Asking) (purpose : Purpose) → IsReplyingFor purpose g t l row asking → IsReplyingFor purpose after t l row asking
    replying_for asking (purposes.Statement n ordinal key) is = record {
      client = is.client;
      work = is.work;
      there = is.there;
      in_work = is.in_work;
      last = is.last;
      sent = is.sent;
      hostgroup = is.hostgroup;
      number = is.number;
      first = is.first;
      coming = is.coming;
    }
    replying_for asking (purposes.Prep n ordinal key) is = tt
    replying_for asking (purposes.Sync n) is = tt
    replying_for asking purposes.Own is = tt
    replying_for asking (purposes.End n) is = tt
    replying_for asking (purposes.Capture n) is = tt

    pub replying_at : (stage : Stage) → IsReplyingAt stage g t l row → IsReplyingAt stage after t l row
    replying_at Quiet is = tt
    replying_at (Asked asking) is = replying_for asking asking.purpose is
    replying_at (Answered asking) is = replying_for asking asking.purpose is

    row_apart : IsRowIn g.setup g.codes g.plan g.tale l row → IsElsewhere l e → SparesRow (view_on g) e row
        → IsRowIn g.setup g.codes g.plan after.tale l row
    row_apart is other spares =
        subst (λ (link : Link). IsRow g.setup.reads g.codes (g.plan.logins l) (view_on after) row (g.tale.wires l) link)
        (sym (link_stays g.setup (view_on g) e l other))
        (row_after g.setup.reads g.codes (g.plan.logins l) (view_on g) (view_on after) row (g.tale.wires l) ((view_on g).links l)
        (λ here whose. whose_on (view_on g) (view_on after) row.link.state.carries row.left
        (λ n named. untouched g.setup (view_on g) n e row.left (holder_of (view_on g) row.link.state.carries row.left n whose named) (spares.session here n named)) whose) is)

    pub server_stays : IsServer g t l row → IsElsewhere l e → SparesRow (view_on g) e row → IsLawful g.setup (e ∷ g.tale.story) → IsServer after t l row
    server_stays is other spares lawful = record {
      row = row_apart is.row other spares;
      user = is.user;
      found_rows = is.found_rows;
      lent = λ kept mine unstated.
          ahead_elsewhere g.setup g.tale.story e l row.link.state.carries lawful other (row_carries g.setup g.codes g.plan g.tale l row is.row)
          (is.lent kept mine unstated);
      parted = λ sound kept some. parted_after g (e ∷ g.tale.story) g.tale.moment g.over (λ c ended. ended) row.link.state.stage (is.parted sound kept some);
      standing = standing_at after l (stand_so g.setup (e ∷ g.tale.story) lawful);
      next = subst (λ (link : Link). IsNextOf row.link.next after t row link) (sym (link_stays g.setup (view_on g) e l other))
          (next_of (link_in g.setup g.tale l) row.link.next spares.next is.next);
      replying = λ sound kept mine. replying_at row.link.state.stage (is.replying sound kept mine);
    }

  server_by : (b : Bool) (row : Option Server) → IsServerBy b g t l row → IsElsewhere l e → SparesRowOr (view_on g) e row
      → IsLawful g.setup (e ∷ g.tale.story) → IsServerBy b after t l row
  server_by true (Some server) is other spares lawful = server_stays server.row is other spares lawful
  server_by true None is other spares lawful = ap (λ (link : Link). link.usable) (link_stays g.setup (view_on g) e l other) ∙ is
  server_by false row is other spares lawful = is

  pub any_stays : (row : Option Server) → IsServerOr g t l row → IsElsewhere l e → SparesRowOr (view_on g) e row
      → IsLawful g.setup (e ∷ g.tale.story) → IsServerOr after t l row
  any_stays row is other spares lawful = server_by (is_to_server g.tale l) row is other spares lawful

-- Other rows change.

record Seen (t : Tabled) (c : ClientNo) (client : Client) : Type 0 where
  old : Client
  there : t.clients c ≡ Some old
  same : glance old ≡ glance client

seen_by : (t : Tabled) (c : ClientNo) (client : Client) (found : Option Client) → t.clients c ≡ found → option_map glance found ≡ Some (glance client) → Seen t c client
seen_by t c client None there is = absurd (none-some (glance client) is)
seen_by t c client (Some old) there is = record { old = old; there = there; same = some_is (glance old) (glance client) is }

seen : (t other : Tabled) (c : ClientNo) (client : Client) → option_map glance (t.clients c) ≡ option_map glance (other.clients c) → other.clients c ≡ Some client → Seen t c client
seen t other c client same there = seen_by t c client (t.clients c) refl (same ∙ ap (option_map glance) there)

record SeenWork (client : Client) (work : Work) : Type 0 where
  was : Work
  in_work : client.desk.work ≡ Some was
  same : stated was ≡ stated work

work_by : (client : Client) (work : Work) (found : Option Work) → client.desk.work ≡ found → option_map stated found ≡ Some (stated work) → SeenWork client work
work_by client work None at is = absurd (none-some (stated work) is)
work_by client work (Some was) at is = record { was = was; in_work = at; same = some_is (stated was) (stated work) is }

seen_work : (old client : Client) (work : Work) → glance old ≡ glance client → client.desk.work ≡ Some work → SeenWork old work
seen_work old client work same at = work_by old work old.desk.work refl (ap (λ (x : Glance). x.work) same ∙ ap (option_map stated) at)

module _ (g : Ground) (t other : Tabled) (l : LinkId) (row : Row) where
  first_kept : (n : SessionName) (ordinal : ℕ) → IsGlanced t other n.client ⊎ IsNotInWork other n.client ordinal → IsFirst t n ordinal row.link.first
      → IsFirst other n ordinal row.link.first
  first_kept n ordinal (inl same) is client work there in_work at =
      let old = seen t other n.client client (sym same) there in
      let was = seen_work old.old client work old.same in_work in
      ap (λ (x : Glance). x.first) (sym old.same)
      ∙ is old.old was.was old.there was.in_work (ap (λ (x : Stated). x.ordinal) was.same ∙ at)
  first_kept n ordinal (inr not) is client work there in_work at =
      absurd (true≢false (sym (ap (λ (x : ℕ). nat_eq x ordinal) at ∙ same_number ordinal) ∙ not client work there in_work))

  for_kept : (link : Link) (asking : Asking) (purpose : Purpose) → KeepsNextFor t other purpose → IsNextFor purpose g t row link asking
      → IsNextFor purpose g other row link asking
  for_kept link asking (purposes.Statement n ordinal key) keeps is = record { said = is.said; first = first_kept n ordinal keeps is.first; asked = is.asked; number = is.number; taken_up = is.taken_up }
  for_kept link asking (purposes.Prep n ordinal key) keeps is = record { said = is.said; told = is.told; taken_up = is.taken_up }
  for_kept link asking (purposes.Sync n) keeps is = is
  for_kept link asking purposes.Own keeps is = is
  for_kept link asking (purposes.End n) keeps is = is
  for_kept link asking (purposes.Capture n) keeps is = is

  pub next_kept : (link : Link) (next : Option Begins) → KeepsNext t other next → IsNextOf next g t row link → IsNextOf next g other row link
  next_kept link None keeps is = is
  next_kept link (Some (begins.Asks asking)) keeps is = (is.0, for_kept link asking asking.purpose keeps is.1)
  next_kept link (Some (begins.Closes number)) keeps is = is
  next_kept link (Some (begins.Resets number)) keeps is = is
  next_kept link (Some begins.Quits) keeps is = is

  reply_kept : (asking : Asking) (purpose : Purpose) → ((c : ClientNo) → client_in purpose ≡ Some c → IsGlanced t other c)
      → IsReplyingFor purpose g t l row asking → IsReplyingFor purpose g other l row asking
  reply_kept asking (purposes.Statement n ordinal key) keeps is =
      let now = seen other t n.client is.client (keeps n.client refl) is.there in
      let at = seen_work now.old is.client is.work now.same is.in_work in
      record {
        client = now.old;
        work = at.was;
        there = now.there;
        in_work = at.in_work;
        last = ap (λ (x : Stated). x.ordinal) at.same ∙ is.last;
        sent = ap (λ (x : Stated). x.sent) at.same ∙ is.sent;
        hostgroup = ap (λ (x : Stated). x.hostgroup) at.same ∙ is.hostgroup;
        number = is.number;
        first = ap (λ (x : Glance). x.first) now.same ∙ is.first;
        coming = ap (λ (x : Glance). x.coming) now.same ∙ is.coming;
      }
  reply_kept asking (purposes.Prep n ordinal key) keeps is = tt
  reply_kept asking (purposes.Sync n) keeps is = tt
  reply_kept asking purposes.Own keeps is = tt
  reply_kept asking (purposes.End n) keeps is = tt
  reply_kept asking (purposes.Capture n) keeps is = tt

  replies_kept : (stage : Stage) → ((c : ClientNo) → client_at stage ≡ Some c → IsGlanced t other c) → IsReplyingAt stage g t l row → IsReplyingAt stage g other l row
  replies_kept Quiet keeps is = tt
  replies_kept (Asked asking) keeps is = reply_kept asking asking.purpose keeps is
  replies_kept (Answered asking) keeps is = reply_kept asking asking.purpose keeps is

  pub server_kept : IsServer g t l row → Keeps t other row → IsServer g other l row
  server_kept is keeps = record {
    row = is.row;
    user = is.user;
    found_rows = is.found_rows;
    lent = is.lent;
    parted = is.parted;
    standing = is.standing;
    next = next_kept (link_in g.setup g.tale l) row.link.next keeps.next is.next;
    replying = λ sound kept mine. replies_kept row.link.state.stage (keeps.there sound kept mine) (is.replying sound kept mine);
  }

  -- what stands there is in work

  stated_for : (asking : Asking) (purpose : Purpose) (c : ClientNo) → client_in purpose ≡ Some c → IsReplyingFor purpose g t l row asking
      → (client : Client) × (work : Work) × IsStated t c client work
  stated_for asking (purposes.Statement n ordinal key) c at is =
      (is.client, is.work, record { there = subst (λ (k : ClientNo). t.clients k ≡ Some is.client) (some_is n.client c at) is.there; in_work = is.in_work; sent = is.sent })
  stated_for asking (purposes.Prep n ordinal key) c at is = absurd (none-some c at)
  stated_for asking (purposes.Sync n) c at is = absurd (none-some c at)
  stated_for asking purposes.Own c at is = absurd (none-some c at)
  stated_for asking (purposes.End n) c at is = absurd (none-some c at)
  stated_for asking (purposes.Capture n) c at is = absurd (none-some c at)

  stated_at : (stage : Stage) (c : ClientNo) → client_at stage ≡ Some c → IsReplyingAt stage g t l row → (client : Client) × (work : Work) × IsStated t c client work
  stated_at Quiet c at is = absurd (none-some c at)
  stated_at (Asked asking) c at is = stated_for asking asking.purpose c at is
  stated_at (Answered asking) c at is = stated_for asking asking.purpose c at is

  pub in_work_so : (c : ClientNo) → IsServer g t l row → row.link.spoilt ≡ false → row.lost ≡ false → row.left ≡ None → client_at row.link.state.stage ≡ Some c
      → (client : Client) × (work : Work) × IsStated t c client work
  in_work_so c is sound kept mine at = stated_at row.link.state.stage c at (is.replying sound kept mine)

module _ (g : Ground) (t other : Tabled) (l : LinkId) where
  any_by : (b : Bool) (row : Option Server) → IsServerBy b g t l row → KeepsOr t other row → IsServerBy b g other l row
  any_by true (Some server) is keeps = server_kept g t other l server.row is keeps
  any_by true None is keeps = is
  any_by false row is keeps = is

  pub any_kept : (row : Option Server) → IsServerOr g t l row → KeepsOr t other row → IsServerOr g other l row
  any_kept row is keeps = any_by (is_to_server g.tale l) row is keeps

  same_for : ((c : ClientNo) → other.clients c ≡ t.clients c) → (purpose : Purpose) → KeepsNextFor t other purpose
  same_for same (purposes.Statement n ordinal key) = inl (ap (option_map glance) (same n.client))
  same_for same (purposes.Prep n ordinal key) = tt
  same_for same (purposes.Sync n) = tt
  same_for same purposes.Own = tt
  same_for same (purposes.End n) = tt
  same_for same (purposes.Capture n) = tt

  same_next : ((c : ClientNo) → other.clients c ≡ t.clients c) → (next : Option Begins) → KeepsNext t other next
  same_next same None = tt
  same_next same (Some (begins.Asks asking)) = same_for same asking.purpose
  same_next same (Some (begins.Closes number)) = tt
  same_next same (Some (begins.Resets number)) = tt
  same_next same (Some begins.Quits) = tt

  keeps_same : ((c : ClientNo) → other.clients c ≡ t.clients c) → (row : Option Server) → KeepsOr t other row
  keeps_same same None = tt
  keeps_same same (Some server) = record {
    next = same_next same server.row.link.next;
    there = λ sound kept mine c at. ap (option_map glance) (same c);
  }

  pub unread_so : (row : Option Server) → IsServerOr g t l row → ((c : ClientNo) → other.clients c ≡ t.clients c) → IsServerOr g other l row
  unread_so row is same = any_kept row is (keeps_same same row)
