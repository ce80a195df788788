-- A step, the question for an insert id, and the end of a session may be sent where they pass.
use Rattle.std.specs.Prelude.{◌≡◌, ◌<◌, ℕ, zero, suc, ◌/◌, Bool, true, false, not, ◌&&◌, ◌||◌, is_some, nat_eq, bytes_eq, slice_index_or, length, if◌then◌else◌, List, [], ◌∷◌, unwrap_or, Option, Some, None}
use Rattle.std.specs.Option.{option_map_or}
use Rattle.std.proofs.Common.{refl, sym, ap, ◌∙◌, subst, arith}
use Rattle.std.proofs.lemmas.Bool.{and_parts, and_from, false≢true, true≢false, not-true}
use Rattle.std.proofs.lemmas.Option.{none-some, same_Some}
use Rattle.mx_base.specs.declared.names.ClientNo.{ClientNo}
use Rattle.mx_base.specs.declared.tag.Tag.TheVariants as tags
use Rattle.packet_frame.specs.Packets.{longest, packets, spelling}
use Rattle.client_session.specs.Setups.{Setup as Service}
use Rattle.pin_classifier.specs.declared.class.Class.{Class}
use Rattle.session_state.specs.Classes.{Effect, effect_of}
use Rattle.session_state.specs.Pins.{is_pinned, needs_reset}
use Rattle.server_rule.specs.Classes.{Reads}
use Rattle.private_model.proofs.Maps.{name_of as name_is, same_name}
use Rattle.private_model.specs.Commands as commands
use Rattle.private_model.specs.Commands.{Command, class_of}
use Rattle.private_model.specs.Names.{LinkId, SessionName}
use Rattle.private_model.specs.Story.{Capture, End, Happening, Own, Question, Sent, Sync, is_name}
use Rattle.private_model.specs.View as view
use Rattle.private_model.specs.View.{Held, Link, View, is_quit, present, session_in}
use Rattle.log_story.specs.Plan.{Asks, StepText, text_payload}
use Rattle.log_story.specs.Servers.{begun_by, ended_by, quits_by, quits_for, step_for, stepped}
use Rattle.log_story.specs.Tale.{Wire, link_in}
use Rattle.tale_world.specs.Tests as tests
use Rattle.link_state.specs.Asks.{lent_for}
use Rattle.link_state.specs.Wants.{is_id}
use Rattle.link_state.specs.declared.asking.Asking.{Asking}
use Rattle.link_state.specs.declared.asking.Form.{Form}
use Rattle.link_state.specs.declared.asking.Form.TheVariants.{Text, Fields, Prepare, SetId, ReadId, Reset}
use Rattle.link_state.specs.declared.asking.Purpose.{Purpose}
use Rattle.link_state.specs.declared.asking.Purpose.TheVariants as purposes
use Rattle.link_state.specs.declared.state.Carried.{Carried}
use Rattle.link_state.specs.declared.state.Carried.TheVariants as carried
use Rattle.link_state.specs.declared.writing.Writing.{Writing}
use Rattle.link_laws.specs.Stands.{IsForm, IsLink, carried_of}
use Rattle.lent_link.specs.declared.link.Begins.TheVariants as begins
use Rattle.served_link.specs.declared.row.LeftSession.{LeftSession}
use Rattle.served_link.specs.declared.row.Row.{Row}
use Rattle.client_desk.specs.Desks.{name_of, session_of}
use Rattle.client_desk.specs.declared.desk.Desk.{Desk}
use Rattle.client_desk.specs.declared.session.Session.{Session}
use Rattle.desk_laws.specs.Stands.{IsDesk, held_of}
use Rattle.row_laws.specs.Begins.{IsLender, IsNext, IsNoStep, IsReadied}
use Rattle.row_laws.specs.Whose.{IsFor, IsHolder, IsLeft, IsWhose, name_for, name_in}
use Rattle.row_laws.specs.Written.{spelt_as}
use Rattle.core_tables.specs.Passing.{is_command, is_joined, is_lent, is_nobody, is_own_step, is_set_by, is_step_of, is_text_step, may_capture, may_end, may_own, may_sync, names_schema, with_session}
use Rattle.core_tables.specs.Tables.{Tabled}
use Rattle.core_tables.specs.declared.client.Client.{Client}
use Rattle.core_stands.specs.Grounds.{Ground, view_on}
use Rattle.core_stands.specs.Servers.{IsServer}
use Rattle.core_stands.specs.Stands.{Stands}
use Rattle.core_laws.specs.writing.Planned.{IsPlannedStep, planned_on}
use Rattle.core_laws.proofs.OfWriting.Begun.{Begun, OfPurpose, joined_name, lender_same, no_bytes}
use Rattle.core_laws.proofs.OfWriting.Knowing.{Knows, knows, present_held, present_name, same_link, serving, unread}
use Rattle.core_laws.proofs.OfWriting.Tests.{id_is, joined_is, lent_is, nobody_is, set_is}

-- The first byte of a command stands behind a header.

code_in : (full id byte : ℕ) (rest : List ℕ) → slice_index_or (packets full id (byte ∷ rest)) 4 0 ≡ byte
code_in zero id byte rest = refl
code_in (suc full) id byte rest = refl

code_of : (byte : ℕ) (rest : List ℕ) → slice_index_or (spelling 0 (byte ∷ rest)) 4 0 ≡ byte
unfolding spelling
code_of byte rest = code_in (length (byte ∷ rest) / longest) 0 byte rest

command_is : (code byte : ℕ) (rest : List ℕ) (writing : Option Writing) → IsNext writing (spelling 0 (byte ∷ rest)) → is_command code writing ≡ nat_eq byte code
command_is code byte rest None is = absurd is
command_is code byte rest (Some w) is =
    ap (λ (bytes : List ℕ). nat_eq (slice_index_or bytes 4 0) code) is ∙ ap (λ (b : ℕ). nat_eq b code) (code_of byte rest)

no_command : (code : ℕ) (writing : Option Writing) → IsNext writing [] → nat_eq 0 code ≡ false → is_command code writing ≡ false
no_command code None is other = absurd is
no_command code (Some w) is other = ap (λ (bytes : List ℕ). nat_eq (slice_index_or bytes 4 0) code) is ∙ other

-- A text is a tracked SET, or chooses a schema.

or_second : (a b : Bool) → a ≡ false → (a || b) ≡ true → b ≡ true
or_second a b none is = ap (λ (x : Bool). x || b) (sym none) ∙ is

or_first : (a b : Bool) → b ≡ false → (a || b) ≡ true → a ≡ true
or_first true b none is = refl
or_first false b none is = absurd (false≢true (sym none ∙ is))

query_sets : (class : Class) (text : List ℕ) (writing : Option Writing) (tx : Bool) → IsNext writing (spelling 0 (3 ∷ text))
    → is_text_step class writing tx ≡ true → tests.is_set class tx ≡ true
query_sets class text writing tx said is =
    let other : (is_command 2 writing && names_schema (effect_of class)) ≡ false =
    ap (λ (b : Bool). b && names_schema (effect_of class)) (command_is 2 3 text writing said) in
    let sets = or_second (is_command 2 writing && names_schema (effect_of class)) (is_command 3 writing && is_set_by class tx (effect_of class)) other is in
    set_is class tx (effect_of class) (and_parts (is_command 3 writing) (is_set_by class tx (effect_of class)) sets).1

schema_named : (class : Class) (schema : List ℕ) (writing : Option Writing) (tx : Bool) → IsNext writing (spelling 0 (2 ∷ schema))
    → is_text_step class writing tx ≡ true → names_schema (effect_of class) ≡ true
schema_named class schema writing tx said is =
    let other : (is_command 3 writing && is_set_by class tx (effect_of class)) ≡ false =
    ap (λ (b : Bool). b && is_set_by class tx (effect_of class)) (command_is 3 2 schema writing said) in
    let names = or_first (is_command 2 writing && names_schema (effect_of class)) (is_command 3 writing && is_set_by class tx (effect_of class)) other is in
    (and_parts (is_command 2 writing) (names_schema (effect_of class)) names).1

never_runs : {A : Type 0} (class : Class) (writing : Option Writing) (tx : Bool) → IsNext writing [] → is_text_step class writing tx ≡ true → A
never_runs class writing tx said is =
    let second : (is_command 3 writing && is_set_by class tx (effect_of class)) ≡ false =
    ap (λ (b : Bool). b && is_set_by class tx (effect_of class)) (no_command 3 writing said refl) in
    let first = or_first (is_command 2 writing && names_schema (effect_of class)) (is_command 3 writing && is_set_by class tx (effect_of class)) second is in
    absurd (true≢false (sym (and_parts (is_command 2 writing) (names_schema (effect_of class)) first).0 ∙ no_command 2 writing said refl))

pub step_so : (reads : Reads) (form : Form) (command : Command) (writing : Option Writing) (s : Session) → IsForm reads form command
    → IsNext writing (spelt_as command None) → is_step_of form writing s ≡ true → tests.is_step_of reads command s.pin s.id ≡ true
step_so reads (Text class) (commands.Query text) writing s form said is =
    subst (λ (c : Class). tests.is_set c s.pin.tx ≡ true) form.is (query_sets class text writing s.pin.tx said is)
step_so reads (Text class) (commands.InitDb schema) writing s form said is =
    subst (λ (c : Class). names_schema (effect_of c) ≡ true) form (schema_named class schema writing s.pin.tx said is)
step_so reads (Text class) (commands.Run text schema settings args) writing s form said is = never_runs class writing s.pin.tx said is
step_so reads (SetId id) (commands.SetId n) writing s form said is =
    (λ i. tests.is_id s.id (Some (sym form i))) ∙ sym (id_is s.id (Some id)) ∙ is
step_so reads (Text class) _ writing s form said is = absurd form
step_so reads (SetId id) _ writing s form said is = absurd form
step_so reads Fields command writing s form said is = absurd (false≢true is)
step_so reads (Prepare class) command writing s form said is = absurd (false≢true is)
step_so reads ReadId command writing s form said is = absurd (false≢true is)
step_so reads Reset command writing s form said is = absurd (false≢true is)

pub own_step_so : (reads : Reads) (form : Form) (command : Command) (writing : Option Writing) → IsForm reads form command
    → IsNext writing (spelt_as command None) → is_own_step form writing ≡ true → tests.is_own_step reads command ≡ true
own_step_so reads (Text class) (commands.Query text) writing form said is =
    subst (λ (c : Class). tests.is_set c false ≡ true) form.is (query_sets class text writing false said is)
own_step_so reads (Text class) (commands.InitDb schema) writing form said is =
    subst (λ (c : Class). names_schema (effect_of c) ≡ true) form (schema_named class schema writing false said is)
own_step_so reads (Text class) (commands.Run text schema settings args) writing form said is = never_runs class writing false said is
own_step_so reads (SetId id) (commands.SetId n) writing form said is = refl
own_step_so reads (Text class) _ writing form said is = absurd form
own_step_so reads (SetId id) _ writing form said is = absurd form
own_step_so reads Fields command writing form said is = absurd (false≢true is)
own_step_so reads (Prepare class) command writing form said is = absurd (false≢true is)
own_step_so reads ReadId command writing form said is = absurd (false≢true is)
own_step_so reads Reset command writing form said is = absurd (false≢true is)

no_quit : (reads : Reads) (form : Form) (command : Command) → IsForm reads form command → is_quit command ≡ false
no_quit reads form (commands.Query text) is = refl
no_quit reads form (commands.InitDb schema) is = refl
no_quit reads form (commands.FieldList rest) is = refl
no_quit reads form (commands.SetId n) is = refl
no_quit reads form commands.ReadId is = refl
no_quit reads form (commands.Prepare text) is = refl
no_quit reads form (commands.Run text schema settings args) is = refl
no_quit reads form commands.Reset is = refl
no_quit reads (Text class) commands.Quit is = absurd is
no_quit reads Fields commands.Quit is = absurd is
no_quit reads (Prepare class) commands.Quit is = absurd is
no_quit reads (SetId id) commands.Quit is = absurd is
no_quit reads ReadId commands.Quit is = absurd is
no_quit reads Reset commands.Quit is = absurd is

-- The session is present, and passes.

pub record HasSession (name : SessionName) (t : Tabled) (test : Session → Bool) : Type 0 where
  pub client : Client
  pub there : t.clients name.client ≡ Some client
  pub names : name ≡ name_of client.desk name.hostgroup
  pub passes : test (session_of client.desk name.hostgroup) ≡ true

session_by : (name : SessionName) (t : Tabled) (test : Session → Bool) (found : Option Client) → t.clients name.client ≡ found
    → option_map_or (λ (client : Client). is_name name (name_of client.desk name.hostgroup) && test (session_of client.desk name.hostgroup)) found false ≡ true
    → HasSession name t test
session_by name t test None same is = absurd (false≢true is)
session_by name t test (Some client) same is =
    let parts = and_parts (is_name name (name_of client.desk name.hostgroup)) (test (session_of client.desk name.hostgroup)) is in
    record { client = client; there = same; names = name_is name (name_of client.desk name.hostgroup) parts.0; passes = parts.1 }

pub has_session : (name : SessionName) (t : Tabled) (test : Session → Bool) → with_session name t test ≡ true → HasSession name t test
has_session name t test is = session_by name t test (t.clients name.client) refl is

pub record IsPresent (g : Ground) (name : SessionName) (s : Session) : Type 0 where
  pub here : present (view_on g) name.client name.hostgroup ≡ name
  pub held : (view_on g).held name ≡ held_of s

pub present_at : (service : Service) (g : Ground) (t : Tabled) (name : SessionName) (test : Session → Bool) (has : HasSession name t test) → Stands service g t
    → IsPresent g name (session_of has.client.desk name.hostgroup)
present_at service g t name test has stands =
    let k : Knows g name.client has.client = knows service g t name.client has.client stands has.there in
    let here : present (view_on g) name.client name.hostgroup ≡ name =
    ap (λ (c : ClientNo). present (view_on g) c name.hostgroup) (sym k.known.number)
    ∙ present_name g.setup.reads (view_on g) k.client.number has.client.desk k.is.desk name.hostgroup ∙ sym has.names in
    record {
      here = here;
      held = ap (view_on g).held (sym here)
          ∙ ap (λ (c : ClientNo). (view_on g).held (present (view_on g) c name.hostgroup)) (sym k.known.number)
          ∙ present_held g.setup.reads (view_on g) k.client.number has.client.desk k.is.desk name.hostgroup;
    }

-- They begin.

module _ (service : Service) (g : Ground) (t : Tabled) (l : LinkId) (server : Row) (stands : Stands service g t) (is : IsServer g t l server)
    (asking : Asking) (same_next : server.link.next ≡ Some (begins.Asks asking)) (lost : server.lost ≡ false) (fine : server.link.spoilt ≡ false) where
  abbrev link : Link
  link = link_in g.setup g.tale l

  abbrev seen : View
  seen = view_on g

  same : IsLink g.setup.reads g.codes server.link.state link
  same = same_link g t l server is (begins.Asks asking) same_next

  whose : IsWhose seen server.link.state.carries server.left
  whose = (serving g t l server is (begins.Asks asking) same_next).whose lost

  none_unread : (g.tale.wires l).unread ≡ []
  none_unread = unread g t l server is (begins.Asks asking) same_next fine

  joins : (name : SessionName) → is_joined name server.link.state.carries ≡ true → tests.is_joined name link.carries ≡ true
  joins name joined = ap (tests.is_joined name) same.carries ∙ joined_is name server.link.state.carries ∙ joined

  for_joined : (name : SessionName) (p : Purpose) → name_for p ≡ Some name → lent_for p server.link.state.carries ≡ server.link.state.carries
      → is_joined name server.link.state.carries ≡ true → IsFor p (lent_for p server.link.state.carries)
  for_joined name p named lends joined n same_n =
      ap name_in lends ∙ joined_name name server.link.state.carries joined ∙ sym named ∙ same_n

  pub syncs : (name : SessionName) → asking.purpose ≡ purposes.Sync name → with_session name t (may_sync server asking.form name) ≡ true
      → IsPlannedStep g l server asking (Sync name) → Begun g t l server asking (tags.Sync name.client name.hostgroup)
  syncs name purpose passes planned =
      let has = has_session name t (may_sync server asking.form name) passes in
      let s = session_of has.client.desk name.hostgroup in
      let at = present_at service g t name (may_sync server asking.form name) has stands in
      let a = and_parts (is_joined name server.link.state.carries) _ has.passes in
      let b = and_parts (is_pinned s.pin) (is_step_of asking.form server.link.writing s) a.1 in
      let step = step_so g.setup.reads asking.form planned.command server.link.writing s planned.said.asks.form planned.said.spelt_so b.1 in
      record {
        question = Sync name planned.command;
        happens = no_bytes g l (tags.Sync name.client name.hostgroup) none_unread
            ∙ (λ i. stepped l (Sync (at.here i)) (planned.planned i));
        asked = record {
          said = planned.said;
          step_none = subst (λ (step : StepText). IsNoStep (Some step)) (sym planned.planned) tt;
          for = subst (λ (p : Purpose). IsFor p (lent_for p server.link.state.carries)) (sym purpose) (for_joined name (purposes.Sync name) refl refl a.0);
          lender = subst (λ (p : Purpose). IsLender seen server.link.state.carries (lent_for p server.link.state.carries)) (sym purpose)
              (lender_same seen server.link.state.carries);
          present = tt;
        };
        stays = refl;
        fits = and_from (tests.is_joined name link.carries) _ (joins name a.0)
            (and_from (is_pinned (seen.held name).pin) _ (ap (λ (h : Held). is_pinned h.pin) at.held ∙ b.0)
            (ap (λ (h : Held). tests.is_step_of g.setup.reads planned.command h.pin h.id) at.held ∙ step));
        of_view = tt;
        for = subst (λ (p : Purpose). OfPurpose p g t server (Sync name planned.command)) (sym purpose) tt;
      }

  pub owns : asking.purpose ≡ purposes.Own → may_own server asking.form ≡ true → IsPlannedStep g l server asking Own → Begun g t l server asking tags.Own
  owns purpose passes planned =
      let a = and_parts (is_nobody server.link.state.carries || is_lent server.link.state.carries) (is_own_step asking.form server.link.writing) passes in
      let step = own_step_so g.setup.reads asking.form planned.command server.link.writing planned.said.asks.form planned.said.spelt_so a.1 in
      let stays = ap quits_by planned.planned ∙ no_quit g.setup.reads asking.form planned.command planned.said.asks.form in
      record {
        question = Own planned.command;
        happens = no_bytes g l tags.Own none_unread
            ∙ (λ i. if stays i then [] else stepped l Own (planned.planned i));
        asked = record {
          said = planned.said;
          step_none = subst (λ (step : StepText). IsNoStep (Some step)) (sym planned.planned) tt;
          for = subst (λ (p : Purpose). IsFor p (lent_for p server.link.state.carries)) (sym purpose) (λ n none. absurd (none-some n none));
          lender = subst (λ (p : Purpose). IsLender seen server.link.state.carries (lent_for p server.link.state.carries)) (sym purpose)
              (lender_same seen server.link.state.carries);
          present = tt;
        };
        stays = stays;
        fits = and_from (tests.is_nobody link.carries || tests.is_lent link.carries) _
            ((λ i. (ap tests.is_nobody same.carries ∙ nobody_is server.link.state.carries) i || (ap tests.is_lent same.carries ∙ lent_is server.link.state.carries) i) ∙ a.0)
            step;
        of_view = tt;
        for = subst (λ (p : Purpose). OfPurpose p g t server (Own planned.command)) (sym purpose) tt;
      }

  -- the session that the link carries is the one that is named
  carries_it : (name : SessionName) (c : Carried) → is_joined name c ≡ true → session_in (carried_of c) ≡ Some name
  carries_it name (carried.Joined m) joined = ap (λ (n : SessionName). Some n) (sym (name_is name m joined))
  carries_it name (carried.Lent m) joined = absurd (false≢true joined)
  carries_it name carried.Nobody joined = absurd (false≢true joined)

  ends_it : (name : SessionName) → is_joined name server.link.state.carries ≡ true → (ends : Bool) → is_name name (present seen name.client name.hostgroup) ≡ ends
      → begun_by g.setup g.plan g.tale.moment seen l (g.tale.wires l).begun (tags.End name.client name.hostgroup)
      ≡ Sent l (if ends then Capture name else End name) ∷ []
  ends_it name joined ends is_it =
      let carries : session_in link.carries ≡ Some name = ap session_in same.carries ∙ carries_it name server.link.state.carries joined in
      ap (λ (n : Option SessionName). Sent l (ended_by seen (unwrap_or n (present seen name.client name.hostgroup))) ∷ []) carries
      ∙ ap (λ (b : Bool). Sent l (if b then Capture name else End name) ∷ []) is_it

  pub captures : (name : SessionName) → asking.purpose ≡ purposes.Capture name → with_session name t (may_capture server name) ≡ true
      → IsReadied g.setup.reads g.codes server link asking (Capture name) → Begun g t l server asking (tags.End name.client name.hostgroup)
  captures name purpose passes said =
      let has = has_session name t (may_capture server name) passes in
      let s = session_of has.client.desk name.hostgroup in
      let at = present_at service g t name (may_capture server name) has stands in
      let a = and_parts (is_joined name server.link.state.carries) _ has.passes in
      let b = and_parts (not (is_pinned s.pin)) (not (is_some s.id)) a.1 in
      record {
        question = Capture name;
        happens = no_bytes g l (tags.End name.client name.hostgroup) none_unread
            ∙ ends_it name a.0 true (ap (is_name name) at.here ∙ same_name name);
        asked = record {
          said = said;
          step_none = tt;
          for = subst (λ (p : Purpose). IsFor p (lent_for p server.link.state.carries)) (sym purpose) (for_joined name (purposes.Capture name) refl refl a.0);
          lender = subst (λ (p : Purpose). IsLender seen server.link.state.carries (lent_for p server.link.state.carries)) (sym purpose)
              (lender_same seen server.link.state.carries);
          present = tt;
        };
        stays = refl;
        fits = and_from (tests.is_joined name link.carries) _ (joins name a.0)
            (and_from (not (is_pinned (seen.held name).pin)) _ (ap (λ (h : Held). not (is_pinned h.pin)) at.held ∙ b.0)
            (ap (λ (h : Held). not (is_some h.id)) at.held ∙ b.1));
        of_view = tt;
        for = subst (λ (p : Purpose). OfPurpose p g t server (Capture name)) (sym purpose) tt;
      }

  left_by : (name : SessionName) (left : Option LeftSession) → option_map_or (may_end server name) left false ≡ true
      → (there : LeftSession) × (left ≡ Some there) × (may_end server name there ≡ true)
  left_by name None is_true = absurd (false≢true is_true)
  left_by name (Some left) is_true = (left, refl, is_true)

  whose_left : (name : SessionName) (c : Carried) (left : Option LeftSession) (there : LeftSession) → is_joined name c ≡ true → left ≡ Some there
      → IsWhose seen c left → IsLeft seen name there
  whose_left name (carried.Joined m) left there joined same_left holds =
      let at : IsHolder seen m (Some there) = subst (λ (x : Option LeftSession). IsHolder seen m x) same_left holds in
      subst (λ (n : SessionName). IsLeft seen n there) (sym (name_is name m joined)) at
  whose_left name (carried.Lent m) left there joined same_left holds = absurd (false≢true joined)
  whose_left name carried.Nobody left there joined same_left holds = absurd (false≢true joined)

  not_present : (name : SessionName) → name.life < seen.lives name.client name.hostgroup → (it : Bool) → is_name name (present seen name.client name.hostgroup) ≡ it
      → it ≡ false
  not_present name earlier false is_it = refl
  not_present name earlier true is_it =
      let same_life : name.life ≡ seen.lives name.client name.hostgroup = ap (λ (n : SessionName). n.life) (name_is name (present seen name.client name.hostgroup) is_it) in
      absurd (omega (arith, earlier, same_life))

  pub ends : (name : SessionName) → asking.purpose ≡ purposes.End name → option_map_or (may_end server name) server.left false ≡ true
      → IsReadied g.setup.reads g.codes server link asking (End name) → Begun g t l server asking (tags.End name.client name.hostgroup)
  ends name purpose passes said =
      let has = left_by name server.left passes in
      let a = and_parts (is_joined name server.link.state.carries) _ has.2 in
      let b = and_parts (needs_reset has.0.pin) (not has.0.lasting) a.1 in
      let left : IsLeft seen name has.0 = whose_left name server.link.state.carries server.left has.0 a.0 has.1 whose in
      let other : is_name name (present seen name.client name.hostgroup) ≡ false = not_present name left.earlier _ refl in
      record {
        question = End name;
        happens = no_bytes g l (tags.End name.client name.hostgroup) none_unread ∙ ends_it name a.0 false other;
        asked = record {
          said = said;
          step_none = tt;
          for = subst (λ (p : Purpose). IsFor p (lent_for p server.link.state.carries)) (sym purpose) (for_joined name (purposes.End name) refl refl a.0);
          lender = subst (λ (p : Purpose). IsLender seen server.link.state.carries (lent_for p server.link.state.carries)) (sym purpose)
              (lender_same seen server.link.state.carries);
          present = tt;
        };
        stays = refl;
        fits = and_from (tests.is_joined name link.carries) _ (joins name a.0)
            (and_from (not (is_name name (present seen name.client name.hostgroup))) _ (ap not other)
            (and_from (needs_reset (seen.held name).pin) _ (ap needs_reset left.pin ∙ b.0) (ap not left.lasting ∙ b.1)));
        of_view = tt;
        for = subst (λ (p : Purpose). OfPurpose p g t server (End name)) (sym purpose) tt;
      }
