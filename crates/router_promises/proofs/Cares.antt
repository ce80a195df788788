-- What no log has that keeps the promises: steps in vain, and clients that are kept or cut off.
use Rattle.std.specs.Prelude.{◌≡◌, ◌≢◌, ℕ, ◌+◌, ◌<◌, Bool, true, false, ◌&&◌, List, [], ◌∷◌, ◌++◌, length, slice_index_or, Option, Some, refl}
use Rattle.std.specs.List.{list_any}
use Rattle.std.proofs.Common.{arith, subst, sym, ◌∙◌}
use Rattle.mx_base.specs.declared.names.Hostgroup.{Hostgroup}
use Rattle.mx_base.specs.declared.names.LinkId.{LinkId}
use Rattle.mx_base.specs.declared.tag.Tag.{Tag}
use Rattle.mx_base.specs.declared.tag.Tag.TheVariants as tags
use Rattle.mx_wire.specs.Log.{Log, is_link, link_of, written_of}
use Rattle.mx_wire.specs.declared.entry.Entry.{Entry}
use Rattle.mx_wire.specs.declared.entry.Entry.TheVariants as entry
use Rattle.private_model.specs.Story.{Question}
use Rattle.private_model.specs.View.{Asked, Stage}
use Rattle.log_story.specs.Plan.{StepText, is_by_now}
use Rattle.log_story.specs.Servers.{may_begin}
use Rattle.log_story.specs.Tale.{Client, is_to_server}
use Rattle.router_promises.specs.Due.{due_to, served}
use Rattle.router_promises.specs.Ends.{AllWritten, Broken, EndsBy, EndsRight, MayPart, NotServed, PartsRight, TimeIsOver, Unheard, WordRight}
use Rattle.router_promises.specs.Ends.{is_measured, is_too_much, is_unheard, moment_in, must_end}
use Rattle.router_promises.specs.Now.{is_loss, link_now, next, now_at, while_ending, wire_now}
use Rattle.router_promises.specs.Running.{hostgroup_of}
use Rattle.router_promises.specs.Steps.{MayStepAs, MayStepFor, StepsSo}
use Rattle.router_promises.specs.Tags.{BeginsRight, StandsIn, StandsRight, TagsSo, WritesThere, WritesTo, hostgroup_asked}
use Rattle.router_promises.specs.Terms.{Terms, plan_in, setup_in}
use Rattle.router_promises.proofs.Refusals.{at-index, never}

-- what begins on a link may be a step there
pub may-begin : (terms : Terms) (before : Log) (link : LinkId) (tag : Tag) (bytes : List ℕ)
    → StepsSo terms before (entry.Wrote link tag bytes) → is_to_server (now_at terms before).tale link ≡ true
    → may_begin (setup_in terms) link (wire_now (now_at terms before) link) (now_at terms before).tale ≡ true
    → MayStepFor terms before (now_at terms before) link ((plan_in terms).steps link (wire_now (now_at terms before) link).begun) tag
may-begin terms before link tag bytes steps there begins =
    subst (λ (b : Bool). MayStepAs terms before (now_at terms before) link tag b) begins (steps there)

-- and be this step of nobody's
pub may-step : (terms : Terms) (before : Log) (link : LinkId) (step : StepText) (bytes : List ℕ)
    → StepsSo terms before (entry.Wrote link tags.Own bytes) → is_to_server (now_at terms before).tale link ≡ true
    → may_begin (setup_in terms) link (wire_now (now_at terms before) link) (now_at terms before).tale ≡ true
    → (plan_in terms).steps link (wire_now (now_at terms before) link).begun ≡ step
    → MayStepFor terms before (now_at terms before) link step tags.Own
may-step terms before link step bytes steps there begins is =
    subst (λ (s : StepText). MayStepFor terms before (now_at terms before) link s tags.Own) is
    (may-begin terms before link tags.Own bytes steps there begins)

pub stands-so : (terms : Terms) (before : Log) (link : LinkId) (tag : Tag) (bytes : List ℕ) (question : Question) (hostgroup : Hostgroup)
    → TagsSo terms before (entry.Wrote link tag bytes) → is_to_server (now_at terms before).tale link ≡ true
    → may_begin (setup_in terms) link (wire_now (now_at terms before) link) (now_at terms before).tale ≡ true
    → (link_now (setup_in terms) (next terms (now_at terms before) (entry.Wrote link tag bytes)) link).stage ≡ Asked question
    → hostgroup_asked question ≡ Some hostgroup
    → hostgroup_of terms.router (wire_now (next terms (now_at terms before) (entry.Wrote link tag bytes)) link).server ≡ Some hostgroup
stands-so terms before link tag bytes question hostgroup tagged there begins asked in_group =
    let now = now_at terms before in
    let later = next terms now (entry.Wrote link tag bytes) in
    let to : WritesTo terms before now link tag true later =
    subst (λ (b : Bool). WritesTo terms before now link tag b later) there tagged in
    let right : BeginsRight terms before now link tag later =
    subst (λ (b : Bool). WritesThere terms before now link tag b (wire_now now link).entered later) begins to in
    let group : StandsRight terms later link (Asked question) =
    subst (λ (stage : Stage). StandsRight terms later link stage) asked right.group in
    subst (λ (g : Option Hostgroup). StandsIn (hostgroup_of terms.router (wire_now later link).server) g) in_group group

-- Clients.

pub must-so : (terms : Terms) (before : Log) (e : Entry) (k : ℕ) (client : Client)
    → EndsBy terms before (now_at terms before) (next terms (now_at terms before) e) e
    → k < length (next terms (now_at terms before) e).tale.clients
    → slice_index_or (next terms (now_at terms before) e).tale.clients k client ≡ client
    → must_end terms (before ++ e ∷ []) (now_at terms before) (while_ending terms (now_at terms before) e) e client ≡ true
    → is_by_now (next terms (now_at terms before) e).tale.moment ((plan_in terms).ends client.number) ≡ true
must-so terms before e k client ends within is must =
    let now = now_at terms before in
    let right : EndsRight terms (before ++ e ∷ []) now (next terms now e) e client =
    at-index (EndsRight terms (before ++ e ∷ []) now (next terms now e) e) (next terms now e).tale.clients k client ends.ends within is in
    right.must must

pub full-so : (terms : Terms) (before : Log) (e : Entry) (k : ℕ) (client : Client)
    → EndsBy terms before (now_at terms before) (next terms (now_at terms before) e) e
    → k < length (next terms (now_at terms before) e).tale.clients
    → slice_index_or (next terms (now_at terms before) e).tale.clients k client ≡ client
    → is_measured terms (now_at terms before) (while_ending terms (now_at terms before) e) e client ≡ true
    → is_too_much terms (while_ending terms (now_at terms before) e) client ≡ true
    → is_by_now (next terms (now_at terms before) e).tale.moment ((plan_in terms).ends client.number) ≡ true
full-so terms before e k client ends within is measured much =
    let now = now_at terms before in
    let right : WordRight terms (before ++ e ∷ []) now (next terms now e) e client =
    at-index (WordRight terms (before ++ e ∷ []) now (next terms now e) e) (next terms now e).tale.clients k client ends.words within is in
    right.must measured much

may-part : (terms : Terms) (before : Log) (client : Client) → MayPart terms before (now_at terms before) client
    → written_of client.link before ≢ due_to terms (now_at terms before) client
    → list_any (λ e. is_loss e && is_link client.link (link_of e)) before ≡ false
    → (now_at terms before).clock < moment_in before ((plan_in terms).ends client.number) + terms.router.proxy.wait_ms
    → served terms before client ≡ true → is_unheard terms before client ≡ false → ⊥
may-part terms before client (AllWritten all) untold sound early known heard = untold all
may-part terms before client (Broken lost) untold sound early known heard = never (sym lost ∙ sound)
may-part terms before client (TimeIsOver late) untold sound early known heard = omega (arith, late, early)
may-part terms before client (NotServed away tried) untold sound early known heard = never (sym known ∙ away)
may-part terms before client (Unheard un) untold sound early known heard = never (sym un ∙ heard)

pub parted-so : (terms : Terms) (before : Log) (k : ℕ) (client : Client)
    → EndsBy terms before (now_at terms before) (next terms (now_at terms before) (entry.Closed client.link)) (entry.Closed client.link)
    → k < length (now_at terms before).tale.clients → slice_index_or (now_at terms before).tale.clients k client ≡ client
    → written_of client.link before ≢ due_to terms (now_at terms before) client
    → list_any (λ e. is_loss e && is_link client.link (link_of e)) before ≡ false
    → (now_at terms before).clock < moment_in before ((plan_in terms).ends client.number) + terms.router.proxy.wait_ms
    → served terms before client ≡ true → is_unheard terms before client ≡ false → ⊥
parted-so terms before k client ends within is untold sound early known heard =
    let now = now_at terms before in
    let right : PartsRight terms before now client.link client =
    at-index (PartsRight terms before now client.link) now.tale.clients k client ends.parts within is in
    may-part terms before client (right.may refl) untold sound early known heard
