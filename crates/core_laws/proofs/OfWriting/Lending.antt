-- What is lent of a question may be told.
use Rattle.std.specs.Prelude.{◌≡◌, ℕ, Bool, true, false, not, ◌&&◌, ◌||◌, is_some, nat_lt, length, drop, if◌then◌else◌, List, [], ◌∷◌, ◌++◌, Option, Some, None}
use Rattle.std.specs.Option.{option_map_or}
use Rattle.std.proofs.Common.{refl, sym, ap, ◌∙◌, subst}
use Rattle.std.proofs.lemmas.Bool.{and_parts, and_from, false≢true, true≢false, not-true}
use Rattle.std.proofs.lemmas.Option.{none-some, same_Some}
use Rattle.mx_base.specs.Sent.{Sent as Offer}
use Rattle.mx_base.specs.declared.tag.Tag.{Tag}
use Rattle.mx_base.specs.declared.tag.Tag.TheVariants as tags
use Rattle.client_session.specs.Setups.{Setup as Service}
use Rattle.server_rule.specs.Servers.{is_some_of}
use Rattle.server_side.specs.Backend as backends
use Rattle.private_model.specs.Commands.{Quit}
use Rattle.private_model.specs.Names.{LinkId}
use Rattle.private_model.specs.Story.{Broke, Happening, Own, Question, Sent, Unprepared}
use Rattle.private_model.specs.View.{Link, Setup}
use Rattle.log_story.specs.Plan as plan
use Rattle.log_story.specs.Plan.{Asks, Plan, StepText, step_payload, text_payload}
use Rattle.log_story.specs.Servers as servers
use Rattle.log_story.specs.Servers.{begun_on, quits_by, quits_for, stepped}
use Rattle.log_story.specs.Tale.{Tale, is_reset_step, link_in}
use Rattle.tale_world.specs.Tests as tests
use Rattle.tale_world.specs.Tests.{may_begin_question, may_tell}
use Rattle.link_state.specs.Dones.{is_quiet}
use Rattle.link_state.specs.Spells.{spelt}
use Rattle.link_state.specs.Writes as writes
use Rattle.link_state.specs.Writes.{is_whole}
use Rattle.link_state.specs.declared.asking.Asking.{Asking}
use Rattle.link_state.specs.declared.asking.Purpose.{Purpose}
use Rattle.link_state.specs.declared.asking.Purpose.TheVariants as purposes
use Rattle.link_state.specs.declared.state.Stage.{Stage}
use Rattle.link_state.specs.declared.state.Stage.TheVariants.{Quiet, Asked, Answered}
use Rattle.link_state.specs.declared.writing.Writing.{Writing}
use Rattle.lent_link.specs.Links.{is_in, left_at, left_in}
use Rattle.lent_link.specs.Rests.{is_resetting, is_whole_or_none, is_written, may_begin}
use Rattle.lent_link.specs.declared.link.Begins.{Begins}
use Rattle.lent_link.specs.declared.link.Begins.TheVariants as begins
use Rattle.served_link.specs.declared.row.Row.{Row}
use Rattle.link_laws.specs.Stands.{Codes}
use Rattle.row_laws.specs.Begins.{IsNext}
use Rattle.row_laws.specs.Rows.{IsRowIn}
use Rattle.core_tables.specs.Passing.{is_ready, may_state, passes, passes_for, passes_next, sends, sends_by, with_session, with_work}
use Rattle.core_tables.specs.Tables.{Tabled}
use Rattle.core_tables.specs.declared.server.Server.{Server}
use Rattle.core_stands.specs.Grounds.{Ground, view_on}
use Rattle.core_stands.specs.Servers.{IsNextFor, IsNextOf, IsServer, IsTagged, tag_for}
use Rattle.core_stands.specs.Stands.{Stands}
use Rattle.core_laws.specs.writing.Planned.{IsPlanned, IsPlannedFor, planned_on}
use Rattle.core_laws.proofs.OfWriting.Begun.{Begun, HasBytes, bytes_lent, no_bytes, offered_tag, told_for}
use Rattle.core_laws.proofs.OfWriting.Knowing.{entered, law_quiet, serves, serving, unread}
use Rattle.core_laws.proofs.OfWriting.Prepping.{preps}
use Rattle.core_laws.proofs.OfWriting.Stating.{states}
use Rattle.core_laws.proofs.OfWriting.Stepping.{captures, ends, owns, syncs}

-- What is lent passes, and is what is left there.

pub record IsLent (t : Tabled) (server : Row) (offer : Offer) : Type 0 where
  pub passes : passes_next server.link.next server t ≡ true
  pub left : left_in server.link ≡ Some offer

lent_by : (passes : Bool) (link : Option Offer) (offer : Offer) → (if passes then link else None) ≡ Some offer → (passes ≡ true) × (link ≡ Some offer)
lent_by true link offer same = (refl, same)
lent_by false link offer same = absurd (none-some offer same)

pub lent_so : (t : Tabled) (l : LinkId) (server : Server) (offer : Offer) → t.links l ≡ Some server → sends l t ≡ Some offer → IsLent t server.row offer
lent_so t l server offer there lent =
    let at : sends_by (Some server) l t ≡ Some offer = ap (λ (s : Option Server). sends_by s l t) (sym there) ∙ lent in
    let parts = lent_by (passes l t) (left_in server.row.link) offer at in
    record {
      passes = ap (λ (s : Option Server). option_map_or (λ (x : Server). passes_next x.row.link.next x.row t) s false) (sym there) ∙ parts.0;
      left = parts.1;
    }

-- One that goes on begins nothing.

part_left : (stage : Stage) (writing : Option Writing) (offer : Offer) → left_at stage writing ≡ Some offer → is_whole_or_none writing ≡ false
part_left (Answered asking) writing offer same = absurd (none-some offer same)
part_left Quiet None offer same = absurd (none-some offer same)
part_left (Asked asking) None offer same = absurd (none-some offer same)
part_left Quiet (Some w) offer same = by (nat_lt w.sent (length w.bytes)) same where
  by : (part : Bool) → (if part then Some (record { tag = w.tag; bytes = drop w.sent w.bytes }) else None) ≡ Some offer → not part ≡ false
  by true is = refl
  by false is = absurd (none-some offer is)
part_left (Asked asking) (Some w) offer same = by (nat_lt w.sent (length w.bytes)) same where
  by : (part : Bool) → (if part then Some (record { tag = w.tag; bytes = drop w.sent w.bytes }) else None) ≡ Some offer → not part ≡ false
  by true is = refl
  by false is = absurd (none-some offer is)

begins_none : (inside quiet whole next plain : Bool) → whole ≡ false → next ≡ false → (inside && (quiet && ((next || whole) && plain))) ≡ true → ⊥
begins_none inside quiet whole next plain part none is =
    let a = and_parts inside _ is in
    let b = and_parts quiet _ a.1 in
    let c = and_parts (next || whole) plain b.1 in
    false≢true ((λ i. sym none i || sym part i) ∙ c.0)

pub left_inside : (server : Row) (offer : Offer) → is_in server.link.login.stage ≡ true → left_in server.link ≡ Some offer
    → left_at server.link.state.stage server.link.writing ≡ Some offer
left_inside server offer inside same =
    ap (λ (there : Bool). if there then left_at server.link.state.stage server.link.writing else backends.left server.link.login) (sym inside) ∙ same

-- row_laws' rows_may_begin
abbrev pub MayBegin : Type 0
MayBegin = (setup : Setup) (codes : Codes) (plan : Plan) (tale : Tale) (l : LinkId) (row : Row) → IsRowIn setup codes plan tale l row
    → (tale.wires l).entered ≡ true → servers.may_begin setup l (tale.wires l) tale ≡ may_begin row.link

module _ (law : MayBegin) (service : Service) (g : Ground) (t : Tabled) (l : LinkId) (server : Row) (stands : Stands service g t) (is : IsServer g t l server) where
  goes_by : (inside : Bool) → (g.tale.wires l).entered ≡ inside → (offer : Offer) → left_in server.link ≡ Some offer → server.link.next ≡ None
      → servers.may_begin g.setup l (g.tale.wires l) g.tale ≡ true → ⊥
  goes_by false outside offer left none begins =
      false≢true (ap (λ (b : Bool). b && (servers.is_quiet (link_in g.setup g.tale l).stage && (not (is_some_of (servers.written_in (g.tale.wires l).written).rest)
      && not (is_reset_step (g.tale.wires l).step)))) (sym outside) ∙ begins)
  goes_by true inside offer left none begins =
      let s = serves g t l server is inside in
      begins_none (is_in server.link.login.stage) (is_quiet server.link.state.stage) (is_whole_or_none server.link.writing) (is_some server.link.next)
      (not (is_resetting server.link.step))
      (part_left server.link.state.stage server.link.writing offer (left_inside server offer (ap is_in s.inside) left)) (ap is_some none)
      (sym (law g.setup g.codes g.plan g.tale l server is.row inside) ∙ begins)

  pub goes_on : (offer : Offer) → left_in server.link ≡ Some offer → server.link.next ≡ None
      → servers.may_begin g.setup l (g.tale.wires l) g.tale ≡ true → ⊥
  goes_on offer = goes_by (g.tale.wires l).entered refl offer

  -- A question begins.

  module _ (asking : Asking) (same_next : server.link.next ≡ Some (begins.Asks asking)) (lost : server.lost ≡ false) (fine : server.link.spoilt ≡ false)
      (has_bytes : HasBytes server.link.writing) where
    begun_by : (p : Purpose) → asking.purpose ≡ p → passes_for p server asking.form t ≡ true
        → IsNextFor p g t server (link_in g.setup g.tale l) asking → IsPlannedFor p g l server asking → Begun g t l server asking (tag_for p)
    begun_by (purposes.Statement name ordinal key) same passes next planned =
        states service g t l server stands is asking same_next lost fine name ordinal key same passes next has_bytes
    begun_by (purposes.Prep name ordinal key) same passes next planned =
        preps service g t l server stands is asking same_next lost fine name ordinal key same passes next
    begun_by (purposes.Sync name) same passes next planned = syncs service g t l server stands is asking same_next lost fine name same passes planned
    begun_by purposes.Own same passes next planned = owns service g t l server stands is asking same_next lost fine same passes planned
    begun_by (purposes.End name) same passes next planned = ends service g t l server stands is asking same_next lost fine name same passes next
    begun_by (purposes.Capture name) same passes next planned = captures service g t l server stands is asking same_next lost fine name same passes next

  -- with the tag of what is lent
  pub record BegunFor (asking : Asking) (tag : Tag) : Type 0 where
    pub begun : Begun g t l server asking tag
    pub lost : server.lost ≡ false
    pub fine : server.link.spoilt ≡ false

  pub begun_so : (asking : Asking) (offer : Offer) → server.link.next ≡ Some (begins.Asks asking) → passes_next (Some (begins.Asks asking)) server t ≡ true
      → left_in server.link ≡ Some offer → IsPlanned (Some (begins.Asks asking)) g l server → BegunFor asking offer.tag
  begun_so asking offer same_next passes left planned =
      let a = and_parts (is_ready server) (passes_for asking.purpose server asking.form t) passes in
      let b = and_parts (not server.lost) _ a.0 in
      let c = and_parts (not server.link.spoilt) (is_quiet server.link.state.stage) b.1 in
      let lost = not-true server.lost b.0 in
      let fine = not-true server.link.spoilt c.0 in
      let next : IsNextOf (Some (begins.Asks asking)) g t server (link_in g.setup g.tale l) =
      subst (λ (x : Option Begins). IsNextOf x g t server (link_in g.setup g.tale l)) same_next is.next in
      let inside = ap is_in (serving g t l server is (begins.Asks asking) same_next).inside in
      let left_there = left_inside server offer inside left in
      let tag = offered_tag server.link.state.stage server.link.writing offer (tag_for asking.purpose) left_there next.0 in
      let has_bytes = bytes_lent server.link.state.stage server.link.writing offer left_there in
      record {
        begun = subst (λ (x : Tag). Begun g t l server asking x) (sym tag) (begun_by asking same_next lost fine has_bytes asking.purpose refl a.1 next.1 planned);
        lost = lost;
        fine = fine;
      }

  pub may_send : (asking : Asking) (tag : Tag) → server.link.next ≡ Some (begins.Asks asking) → (for : BegunFor asking tag)
      → may_begin_question g.setup (view_on g) (link_in g.setup g.tale l) for.begun.question ≡ true
  may_send asking tag same_next for =
      let s = serving g t l server is (begins.Asks asking) same_next in
      and_from (link_in g.setup g.tale l).usable _ (s.usable ∙ ap not for.lost)
      (and_from (servers.is_quiet (link_in g.setup g.tale l).stage) _ (law_quiet g t l server is (begins.Asks asking) same_next) for.begun.fits)

  asks_told : (asking : Asking) (tag : Tag) → server.link.next ≡ Some (begins.Asks asking) → BegunFor asking tag
      → may_tell g.setup (told_for g l tag) g.tale.story ≡ true
  asks_told asking tag same_next for =
      ap (λ (es : List Happening). may_tell g.setup es g.tale.story) for.begun.happens ∙ may_send asking tag same_next for

  -- The QUIT begins, of which nothing is told.

  and_false : (a : Bool) → (a && false) ≡ false
  and_false true = refl
  and_false false = refl

  pub quits_told : planned_on g l ≡ Asks Quit → told_for g l tags.Own ≡ []
  quits_told planned =
      ap (λ (step : StepText). if is_some_of (g.tale.wires l).unread && not (quits_by step) then Broke ∷ []
      else (if quits_by step then [] else stepped l Own step)) planned
      ∙ ap (λ (b : Bool). if b then Broke ∷ [] else []) (and_false (is_some_of (g.tale.wires l).unread))

  -- what the router asks of its own, and of nobody's, has its own tag
  pub own_tag : (next : Begins) (said : List ℕ)
      → (IsNextOf (Some next) g t server (link_in g.setup g.tale l) → IsTagged server.link.writing tags.Own × IsNext server.link.writing said)
      → (offer : Offer) → server.link.next ≡ Some next → left_in server.link ≡ Some offer → offer.tag ≡ tags.Own
  own_tag next said tagged offer same_next left =
      let stands_next : IsNextOf (Some next) g t server (link_in g.setup g.tale l) =
      subst (λ (x : Option Begins). IsNextOf x g t server (link_in g.setup g.tale l)) same_next is.next in
      let inside = ap is_in (serving g t l server is next same_next).inside in
      offered_tag server.link.state.stage server.link.writing offer tags.Own (left_inside server offer inside left) (tagged stands_next).0

  pub quit_tag : (offer : Offer) → server.link.next ≡ Some begins.Quits → left_in server.link ≡ Some offer → offer.tag ≡ tags.Own
  quit_tag offer same_next left = own_tag begins.Quits (spelt (text_payload Quit)) (λ next. next) offer same_next left

  -- A STMT_CLOSE and a STMT_RESET begin: of the second nothing is told.

  module _ (next : Begins) (same_next : server.link.next ≡ Some next) (fine : server.link.spoilt ≡ false) where
    stepped_told : (step : StepText) → quits_by step ≡ false → planned_on g l ≡ step → told_for g l tags.Own ≡ stepped l Own step
    stepped_told step stays planned =
        no_bytes g l tags.Own (unread g t l server is next same_next fine)
        ∙ ap (λ (x : StepText). if quits_by x then [] else stepped l Own x) planned
        ∙ ap (λ (b : Bool). if b then [] else stepped l Own step) stays

    pub closes_told : (number : ℕ) → planned_on g l ≡ plan.Closes number → told_for g l tags.Own ≡ Unprepared l number ∷ []
    closes_told number planned = stepped_told (plan.Closes number) refl planned

    pub resets_told : (number : ℕ) → planned_on g l ≡ plan.Resets number → told_for g l tags.Own ≡ []
    resets_told number planned = stepped_told (plan.Resets number) refl planned

    closes_may : (number : ℕ) → may_tell g.setup (Unprepared l number ∷ []) g.tale.story ≡ true
    closes_may number = law_quiet g t l server is next same_next

  pub fine_so : is_ready server ≡ true → server.link.spoilt ≡ false
  fine_so ready =
      not-true server.link.spoilt (and_parts (not server.link.spoilt) (is_quiet server.link.state.stage) (and_parts (not server.lost) _ ready).1).0

  -- All.

  tells_by : (next : Option Begins) → server.link.next ≡ next → (offer : Offer) → passes_next next server t ≡ true → left_in server.link ≡ Some offer
      → IsPlanned next g l server → servers.may_begin g.setup l (g.tale.wires l) g.tale ≡ true → may_tell g.setup (told_for g l offer.tag) g.tale.story ≡ true
  tells_by None same offer passes left planned begins = absurd (goes_on offer left same begins)
  tells_by (Some (begins.Asks asking)) same offer passes left planned begins = asks_told asking offer.tag same (begun_so asking offer same passes left planned)
  tells_by (Some (begins.Closes number)) same offer passes left planned starts =
      ap (λ (tag : Tag). may_tell g.setup (told_for g l tag) g.tale.story)
      (own_tag (begins.Closes number) (spelt (step_payload (plan.Closes number))) (λ next. next) offer same left)
      ∙ ap (λ (es : List Happening). may_tell g.setup es g.tale.story) (closes_told (begins.Closes number) same (fine_so passes) number planned)
      ∙ closes_may (begins.Closes number) same (fine_so passes) number
  tells_by (Some (begins.Resets number)) same offer passes left planned starts =
      ap (λ (tag : Tag). may_tell g.setup (told_for g l tag) g.tale.story)
      (own_tag (begins.Resets number) (spelt (step_payload (plan.Resets number))) (λ next. next) offer same left)
      ∙ ap (λ (es : List Happening). may_tell g.setup es g.tale.story) (resets_told (begins.Resets number) same (fine_so passes) number planned)
  tells_by (Some begins.Quits) same offer passes left planned begins =
      ap (λ (tag : Tag). may_tell g.setup (told_for g l tag) g.tale.story) (quit_tag offer same left)
      ∙ ap (λ (es : List Happening). may_tell g.setup es g.tale.story) (quits_told planned)

  pub tells : (offer : Offer) → IsLent t server offer → IsPlanned server.link.next g l server → servers.may_begin g.setup l (g.tale.wires l) g.tale ≡ true
      → may_tell g.setup (told_for g l offer.tag) g.tale.story ≡ true
  tells offer lent = tells_by server.link.next refl offer lent.passes lent.left
