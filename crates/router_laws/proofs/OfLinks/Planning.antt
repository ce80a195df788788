-- A plan that has what code says begins on a link has the step that stands next there.
use Rattle.std.specs.Prelude.{◌≡◌, ◌<◌, ◌≤◌, ◌+◌, ◌/◌, ◌%◌, ◌^◌, ℕ, zero, suc, Bool, true, false, ◌&&◌, ◌||◌, is_some, nat_eq, length, slice_index_or, take, drop, List, [], ◌∷◌, ◌++◌, unwrap_or, Option, Some, None}
use Rattle.std.specs.Option.{option_and_then}
use Rattle.std.proofs.Common.{refl, sym, ap, ◌∙◌, subst, append-nil, arith, length-append}
use Rattle.std.proofs.lemmas.Bool.{and_parts, false≢true}
use Rattle.std.proofs.lemmas.List.{take-append-drop}
use Rattle.std.proofs.Math.Nat.{mod-eq_of_lt}
use Rattle.packet_frame.specs.Packets.{Found, Framed, first_message, longest, next_id, packet, packets, spelling}
use Rattle.packet_frame.specs.Packets.Found.{Whole}
use Rattle.packet_frame.specs.RoundTrip.{first_message-again}
use Rattle.pin_classifier.specs.declared.class.Class.{Class}
use Rattle.session_state.specs.Classes.{effect_of}
use Rattle.session_state.specs.declared.names.SessionName.{SessionName}
use Rattle.server_rule.specs.Classes.{Reads}
use Rattle.server_rule.specs.Texts.{set_id_text}
use Rattle.private_model.specs.Commands as commands
use Rattle.private_model.specs.Commands.{Args, Command, InitDb, Number, Query, SetId}
use Rattle.private_model.specs.Names.{LinkId}
use Rattle.private_model.specs.Story as story
use Rattle.private_model.specs.View.{Link}
use Rattle.log_story.specs.Plan.{Asks, Closes, Resets, StepText, com_init_db, com_query, text_payload}
use Rattle.log_story.specs.Tale.{link_in}
use Rattle.client_session.specs.Setups.{Setup as Service}
use Rattle.mx_base.specs.Sent.{Sent as Offer}
use Rattle.link_state.specs.declared.asking.Asking.{Asking}
use Rattle.link_state.specs.declared.asking.Form.{Form}
use Rattle.link_state.specs.declared.asking.Form.TheVariants as forms
use Rattle.link_state.specs.declared.asking.Purpose.{Purpose}
use Rattle.link_state.specs.declared.asking.Purpose.TheVariants as purposes
use Rattle.link_state.specs.declared.writing.Writing.{Writing}
use Rattle.link_laws.specs.Stands.{Codes, IsForm, IsPurpose}
use Rattle.lent_link.specs.declared.link.Begins.{Begins}
use Rattle.lent_link.specs.declared.link.Begins.TheVariants as begins
use Rattle.served_link.specs.declared.row.Row.{Row}
use Rattle.client_desk.specs.Desks.{session_of}
use Rattle.client_desk.specs.declared.session.Session.{Session}
use Rattle.row_laws.specs.Begins.{IsNext, IsReadied}
use Rattle.row_laws.specs.Written.{spelt_as}
use Rattle.core_tables.specs.Passing.{is_command, is_own_step, is_set_by, is_step_of, is_text_step, may_own, may_sync, names_schema, passes_for, passes_next, sends, with_session}
use Rattle.core_tables.specs.Tables.{Tabled}
use Rattle.core_tables.specs.declared.server.Server.{Server}
use Rattle.core_stands.specs.Grounds.{Ground}
use Rattle.core_stands.specs.Servers.{IsNextFor, IsNextOf, IsServer}
use Rattle.core_stands.specs.Stands.{Stands}
use Rattle.core_laws.proofs.OfWriting.Knowing.{server_at}
use Rattle.core_laws.proofs.OfWriting.Lending.{IsLent, lent_so}
use Rattle.core_laws.proofs.OfWriting.Stepping.{has_session}
use Rattle.core_laws.specs.writing.Planned.{IsPlanned, IsPlannedFor, IsPlannedStep, planned_on}
use Rattle.router_laws.specs.links.Steps.{command_by, id_of, payload_found, payload_in, payload_of, step_by, step_for, step_of, step_on, text_command}

-- The payload that bytes spell is found in them.

body-fits : (full id : ℕ) (payload : List ℕ) → length payload ≤ length (packets full id payload)
body-fits zero id payload = omega arith
body-fits (suc full) id payload =
    let parts : length (take longest payload) + length (drop longest payload) ≡ length payload =
    sym (length-append (take longest payload) (drop longest payload)) ∙ ap length (take-append-drop longest payload) in
    omega (
      arith,
      parts,
      body-fits full (next_id id) (drop longest payload),
      length-append (packet id (take longest payload)) (packets full (next_id id) (drop longest payload)),
    )

spelling-fits : (payload : List ℕ) → length payload ≤ length (spelling 0 payload)
unfolding spelling
spelling-fits payload = body-fits (length payload / longest) 0 payload

found_so : (payload : List ℕ) → first_message (length (spelling 0 payload)) 0 (spelling 0 payload)
    ≡ Whole (record { first = 0; last = (0 + length payload / longest) % 256; payload = payload }) []
found_so payload =
    ap (first_message (length (spelling 0 payload)) 0) (sym (append-nil (spelling 0 payload)))
    ∙ first_message-again (length (spelling 0 payload)) 0 payload [] (omega arith) (spelling-fits payload)

payload_so : (payload : List ℕ) → payload_of (spelling 0 payload) ≡ payload
payload_so payload = ap payload_found (found_so payload)

payload_next : (writing : Option Writing) (payload : List ℕ) → IsNext writing (spelling 0 payload) → payload_in writing ≡ payload
payload_next None payload is = absurd is
payload_next (Some w) payload is = ap payload_of is ∙ payload_so payload

-- Nothing is no step.

no_code : (code : ℕ) (writing : Option Writing) → IsNext writing [] → nat_eq 0 code ≡ false → is_command code writing ≡ false
no_code code None is other = absurd is
no_code code (Some w) is other = ap (λ (bytes : List ℕ). nat_eq (slice_index_or bytes 4 0) code) is ∙ other

no_step : {A : Type 0} (class : Class) (writing : Option Writing) (tx : Bool) → IsNext writing [] → is_text_step class writing tx ≡ true → A
no_step class writing tx said is =
    absurd (false≢true ((λ i. (sym (no_code 2 writing said refl) i && names_schema (effect_of class))
    || (sym (no_code 3 writing said refl) i && is_set_by class tx (effect_of class))) ∙ is))

-- The command is the one that stands there.

abbrev Fits : Reads → Form → Option Writing → Command → Type 0
Fits reads form writing command = IsForm reads form command × IsNext writing (spelt_as command None)

fits_text : (reads : Reads) (class : Class) (writing : Option Writing) (payload : List ℕ) (command : Command) → payload_in writing ≡ payload
    → text_command payload ≡ command → Fits reads (forms.Text class) writing command → Fits reads (forms.Text class) writing (text_command (payload_in writing))
fits_text reads class writing payload command found is fits =
    subst (Fits reads (forms.Text class) writing) (sym (ap text_command found ∙ is)) fits

module _ (reads : Reads) (writing : Option Writing) where
  text_so : (class : Class) (command : Command) (tx : Bool) → is_text_step class writing tx ≡ true → Fits reads (forms.Text class) writing command
      → Fits reads (forms.Text class) writing (text_command (payload_in writing))
  text_so class (Query text) tx passes fits =
      fits_text reads class writing (com_query ∷ text) (Query text) (payload_next writing (com_query ∷ text) fits.1) refl fits
  text_so class (InitDb schema) tx passes fits =
      fits_text reads class writing (com_init_db ∷ schema) (InitDb schema) (payload_next writing (com_init_db ∷ schema) fits.1) refl fits
  text_so class (commands.Run text schema settings args) tx passes fits = no_step class writing tx fits.1 passes
  text_so class (commands.FieldList rest) tx passes fits = absurd fits.0
  text_so class (SetId n) tx passes fits = absurd fits.0
  text_so class commands.ReadId tx passes fits = absurd fits.0
  text_so class (commands.Prepare text) tx passes fits = absurd fits.0
  text_so class commands.Reset tx passes fits = absurd fits.0
  text_so class commands.Quit tx passes fits = absurd fits.0

  id_so : (id : ℕ) (command : Command) → Fits reads (forms.SetId id) writing command → Fits reads (forms.SetId id) writing (SetId (id_of id))
  id_so id (SetId n) fits =
      let less : n.value < 2 ^ 64 = n.fits in
      let same : n.value % 2 ^ 64 ≡ n.value = mod-eq_of_lt less in
      let is : id % 2 ^ 64 ≡ n.value = ap (λ (k : ℕ). k % 2 ^ 64) fits.0 ∙ same in
      (fits.0 ∙ sym is, subst (λ (k : ℕ). IsNext writing (spelling 0 (com_query ∷ set_id_text k))) (sym is) fits.1)
  id_so id (Query text) fits = absurd fits.0
  id_so id (InitDb schema) fits = absurd fits.0
  id_so id (commands.FieldList rest) fits = absurd fits.0
  id_so id commands.ReadId fits = absurd fits.0
  id_so id (commands.Prepare text) fits = absurd fits.0
  id_so id (commands.Run text schema settings args) fits = absurd fits.0
  id_so id commands.Reset fits = absurd fits.0
  id_so id commands.Quit fits = absurd fits.0

  own_so : (form : Form) (command : Command) → is_own_step form writing ≡ true → Fits reads form writing command
      → Fits reads form writing (command_by form (payload_in writing))
  own_so (forms.Text class) command passes fits = text_so class command false passes fits
  own_so (forms.SetId id) command passes fits = id_so id command fits
  own_so forms.Fields command passes fits = absurd (false≢true passes)
  own_so (forms.Prepare class) command passes fits = absurd (false≢true passes)
  own_so forms.ReadId command passes fits = absurd (false≢true passes)
  own_so forms.Reset command passes fits = absurd (false≢true passes)

  sync_so : (form : Form) (command : Command) (s : Session) → is_step_of form writing s ≡ true → Fits reads form writing command
      → Fits reads form writing (command_by form (payload_in writing))
  sync_so (forms.Text class) command s passes fits = text_so class command s.pin.tx passes fits
  sync_so (forms.SetId id) command s passes fits = id_so id command fits
  sync_so forms.Fields command s passes fits = absurd (false≢true passes)
  sync_so (forms.Prepare class) command s passes fits = absurd (false≢true passes)
  sync_so forms.ReadId command s passes fits = absurd (false≢true passes)
  sync_so forms.Reset command s passes fits = absurd (false≢true passes)

-- For whom it is doesn't depend on it.

own_purpose : (codes : Codes) (p : Purpose) (a b : Command) → IsPurpose codes p (story.Own a) → IsPurpose codes p (story.Own b)
own_purpose codes purposes.Own a b is = tt
own_purpose codes (purposes.Statement name ordinal key) a b is = absurd is
own_purpose codes (purposes.Prep name ordinal key) a b is = absurd is
own_purpose codes (purposes.Sync name) a b is = absurd is
own_purpose codes (purposes.End name) a b is = absurd is
own_purpose codes (purposes.Capture name) a b is = absurd is

sync_purpose : (codes : Codes) (p : Purpose) (n : SessionName) (a b : Command) → IsPurpose codes p (story.Sync n a) → IsPurpose codes p (story.Sync n b)
sync_purpose codes (purposes.Sync name) n a b is = is
sync_purpose codes purposes.Own n a b is = absurd is
sync_purpose codes (purposes.Statement name ordinal key) n a b is = absurd is
sync_purpose codes (purposes.Prep name ordinal key) n a b is = absurd is
sync_purpose codes (purposes.End name) n a b is = absurd is
sync_purpose codes (purposes.Capture name) n a b is = absurd is

-- So the plan's step is.

module _ (g : Ground) (t : Tabled) (l : LinkId) (row : Row) (asking : Asking) where
  abbrev link : Link
  link = link_in g.setup g.tale l

  abbrev ours : Command
  ours = command_by asking.form (payload_in row.link.writing)

  own_planned : may_own row asking.form ≡ true → planned_on g l ≡ Asks ours → IsNextFor purposes.Own g t row link asking
      → IsPlannedFor purposes.Own g l row asking
  own_planned passes planned next =
      let test = (and_parts _ (is_own_step asking.form row.link.writing) passes).1 in
      let fits = own_so g.setup.reads row.link.writing asking.form next.command test (next.said.asks.form, next.said.spelt_so) in
      record {
        command = ours;
        planned = planned;
        said = record {
          asks = record { purpose = own_purpose g.codes asking.purpose next.command ours next.said.asks.purpose; form = fits.0 };
          spelt_so = fits.1;
          shared = tt;
          cell_so = next.said.cell_so;
        };
      }

  sync_planned : (name : SessionName) → with_session name t (may_sync row asking.form name) ≡ true → planned_on g l ≡ Asks ours
      → IsNextFor (purposes.Sync name) g t row link asking → IsPlannedFor (purposes.Sync name) g l row asking
  sync_planned name passes planned next =
      let has = has_session name t (may_sync row asking.form name) passes in
      let a = and_parts _ _ has.passes in
      let b = and_parts _ (is_step_of asking.form row.link.writing (session_of has.client.desk name.hostgroup)) a.1 in
      let fits = sync_so g.setup.reads row.link.writing asking.form next.command (session_of has.client.desk name.hostgroup) b.1
      (next.said.asks.form, next.said.spelt_so) in
      record {
        command = ours;
        planned = planned;
        said = record {
          asks = record { purpose = sync_purpose g.codes asking.purpose name next.command ours next.said.asks.purpose; form = fits.0 };
          spelt_so = fits.1;
          shared = tt;
          cell_so = next.said.cell_so;
        };
      }

  planned_for : (p : Purpose) → asking.purpose ≡ p → passes_for p row asking.form t ≡ true → IsNextFor p g t row link asking
      → ((step : StepText) → step_for p asking.form row.link.writing ≡ Some step → planned_on g l ≡ step) → IsPlannedFor p g l row asking
  planned_for (purposes.Statement name ordinal key) same passes next planned = tt
  planned_for (purposes.Prep name ordinal key) same passes next planned = tt
  planned_for (purposes.Sync name) same passes next planned = sync_planned name passes (planned (Asks ours) refl) next
  planned_for purposes.Own same passes next planned = own_planned passes (planned (Asks ours) refl) next
  planned_for (purposes.End name) same passes next planned = tt
  planned_for (purposes.Capture name) same passes next planned = tt

module _ (g : Ground) (t : Tabled) (l : LinkId) (row : Row) (next_is : IsNextOf row.link.next g t row (link_in g.setup g.tale l)) where
  abbrev MayBegin : Option Begins → Type 0
  MayBegin next = (step : StepText) → step_by next row.link.writing ≡ Some step → planned_on g l ≡ step

  planned_by : (next : Option Begins) → row.link.next ≡ next → passes_next next row t ≡ true → MayBegin next → IsPlanned next g l row
  planned_by None same passes planned = tt
  planned_by (Some (begins.Asks asking)) same passes planned =
      planned_for g t l row asking asking.purpose refl (and_parts _ (passes_for asking.purpose row asking.form t) passes).1
      (subst (λ (x : Option Begins). IsNextOf x g t row (link_in g.setup g.tale l)) same next_is).1 planned
  planned_by (Some (begins.Closes number)) same passes planned = planned (Closes number) refl
  planned_by (Some (begins.Resets number)) same passes planned = planned (Resets number) refl
  planned_by (Some begins.Quits) same passes planned = planned (Asks commands.Quit) refl

pub planned_so : (service : Service) (g : Ground) (t : Tabled) (l : LinkId) (server : Server) (offer : Offer) → Stands service g t
    → t.links l ≡ Some server → sends l t ≡ Some offer → ((step : StepText) → step_on l t ≡ Some step → planned_on g l ≡ step)
    → IsPlanned server.row.link.next g l server.row
planned_so service g t l server offer stands there lends planned =
    planned_by g t l server.row (server_at service g t l server stands there).next server.row.link.next refl (lent_so t l server offer there lends).passes
    (λ step is. planned step (ap (λ (found : Option Server). option_and_then (λ (x : Server). step_of x.row) found) there ∙ is))
