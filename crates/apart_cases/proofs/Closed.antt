-- Where no reply shows a transaction, none is open in any session.
use Rattle.std.specs.Prelude.{◌≡◌, ◌&&◌, Bool, true, false, not, if◌then◌else◌, List, [], ◌∷◌, Option, Some, None}
use Rattle.std.specs.List.{list_all}
use Rattle.std.specs.Option.{option_map_or}
use Rattle.std.proofs.Common.{refl}
use Rattle.std.proofs.lemmas.Bool.{and_parts}
use Rattle.private_model.specs.Commands.{Command, Prepare, Reply, class_of, end_of, is_err, pin_statement}
use Rattle.private_model.specs.Names.{LinkId, SessionName}
use Rattle.private_model.specs.Story.{BecameDue, Broke, Capture, Dropped, Due, End, Freed, Gone, Happening, Heard, Left, LoggedIn, Mirrored, Own, Prep, Question, Ran, Sent, Statement, Story, Sync, Unprepared, is_name, put}
use Rattle.private_model.specs.View.{Answered, Asked, Carried, Held, Joined, Lent, Nobody, Quiet, Setup, Stage, View, held_by, held_for, held_freed, held_heard, pin_heard, view_after, view_heard, view_step}
use Rattle.server_rule.specs.Classes.{Reads}
use Rattle.session_state.specs.Endings.{shows_transaction}
use Rattle.session_state.specs.Pins.{is_pinned, pin_answered, pin_prepared, tx_after}
use Rattle.session_state.specs.declared.pin.Pin.{Pin}
use Rattle.apart_cases.specs.Tests.{opens, opens_none, shows_open}

abbrev AreClosed : (SessionName → Held) → Type 0
AreClosed held = (n : SessionName) → (held n).pin.tx ≡ false

-- a reply that shows none leaves a pin so

tx-closed : (shown : Option Bool) (old : Bool) → option_map_or (λ (b : Bool). b) shown false ≡ false → old ≡ false → tx_after shown old ≡ false
tx-closed None old shows was = was
tx-closed (Some shown) old shows was = shows

prepared-closed : (err : Bool) (answered prepared : Pin) → answered.tx ≡ false → prepared.tx ≡ false → (if err then answered else prepared).tx ≡ false
prepared-closed true answered prepared one other = one
prepared-closed false answered prepared one other = other

module _ (reads : Reads) (reply : Reply) (shows : shows_open reply ≡ false) where
  statement-closed : (command : Command) (multiplex : Option Bool) (pin : Pin) → pin.tx ≡ false → (pin_statement reads command multiplex reply pin).tx ≡ false
  statement-closed (Prepare text) multiplex pin was =
      prepared-closed (is_err reply) (pin_answered (reads.class text) multiplex (end_of reply) pin) (pin_prepared (reads.class text) (end_of reply) pin)
      (tx-closed (shows_transaction (end_of reply)) pin.tx shows was) was
  statement-closed command multiplex pin was = tx-closed (shows_transaction (end_of reply)) pin.tx shows was

  pin-closed : (question : Question) (pin : Pin) → pin.tx ≡ false → (pin_heard reads question reply pin).tx ≡ false
  pin-closed (Statement n due) pin was = statement-closed due.command due.multiplex pin was
  pin-closed (Prep n key text) pin was = prepared-closed (is_pinned pin) _ pin was was
  pin-closed (Sync n command) pin was = was
  pin-closed (Own command) pin was = was
  pin-closed (End n) pin was = refl
  pin-closed (Capture n) pin was = was

-- and so what happens leaves all sessions

put-closed : (held : SessionName → Held) (n : SessionName) (one : Held) → AreClosed held → one.pin.tx ≡ false → AreClosed (put is_name held n one)
put-closed held n one closed is m = by (is_name m n) where
  by : (b : Bool) → (if b then one else held m).pin.tx ≡ false
  by true = is
  by false = closed m

for-closed : (question : Question) (link : LinkId) (held : SessionName → Held) → AreClosed held → AreClosed (held_for question link held)
for-closed (Statement n due) link held closed = put-closed held n (record (held n) { home = Some link }) closed (closed n)
for-closed (Prep n key text) link held closed = put-closed held n (record (held n) { home = Some link }) closed (closed n)
for-closed (Sync n command) link held closed = closed
for-closed (Own command) link held closed = closed
for-closed (End n) link held closed = closed
for-closed (Capture n) link held closed = closed

module _ (reads : Reads) (reply : Reply) (shows : shows_open reply ≡ false) (held : SessionName → Held) (closed : AreClosed held) where
  heard-closed : (question : Question) (n : SessionName) → AreClosed (put is_name held n (held_heard reads question reply (held n)))
  heard-closed question n =
      put-closed held n (held_heard reads question reply (held n)) closed (pin-closed reads reply shows question (held n).pin (closed n))

  by-closed : (question : Question) → AreClosed (held_by reads question reply held)
  by-closed (Statement n due) = heard-closed (Statement n due) n
  by-closed (Prep n key text) = heard-closed (Prep n key text) n
  by-closed (Sync n command) = heard-closed (Sync n command) n
  by-closed (Own command) = closed
  by-closed (End n) = heard-closed (End n) n
  by-closed (Capture n) = heard-closed (Capture n) n

freed-closed : (carried : Carried) (held : SessionName → Held) → AreClosed held → AreClosed (held_freed carried held)
freed-closed Nobody held closed = closed
freed-closed (Lent n) held closed = put-closed held n (record (held n) { home = None }) closed (closed n)
freed-closed (Joined n) held closed = put-closed held n (record (held n) { home = None }) closed (closed n)

view-closed : (setup : Setup) (view : View) (link : LinkId) (reply : Reply) (stage : Stage) → shows_open reply ≡ false → AreClosed view.held
    → AreClosed (view_heard setup view link reply stage).held
view-closed setup view link reply (Answered question) shows closed = by-closed setup.reads reply shows view.held closed question
view-closed setup view link reply Quiet shows closed = closed
view-closed setup view link reply (Asked question) shows closed = closed

step-closed : (setup : Setup) (view : View) (e : Happening) → opens e ≡ false → AreClosed view.held → AreClosed (view_step setup view e).held
step-closed setup view (LoggedIn link server account) none closed = closed
step-closed setup view (BecameDue client hostgroup ordinal key command multiplex) none closed = closed
step-closed setup view (Sent link question) none closed = for-closed question link view.held closed
step-closed setup view (Ran link) none closed = closed
step-closed setup view (Heard link reply) none closed = view-closed setup view link reply (view.links link).stage none closed
step-closed setup view (Freed link) none closed = freed-closed (view.links link).carries view.held closed
step-closed setup view (Unprepared link number) none closed = closed
step-closed setup view (Dropped link) none closed = closed
step-closed setup view (Gone link) none closed = closed
step-closed setup view (Left client) none closed = closed
step-closed setup view Broke none closed = closed
step-closed setup view (Mirrored client job) none closed = closed

not-open : (b : Bool) → not b ≡ true → b ≡ false
not-open true is = absurd (cc)
not-open false is = refl

pub none-open : (setup : Setup) (story : Story) → opens_none story ≡ true → AreClosed (view_after setup story).held
none-open setup [] none = λ n. refl
none-open setup (e ∷ past) none =
    let parts = and_parts (not (opens e)) (opens_none past) none in
    step-closed setup (view_after setup past) e (not-open (opens e) parts.0) (none-open setup past parts.1)
