-- The steps that the router takes on links: each is wanted by a statement, and a series of them ends.
use Rattle.std.specs.Prelude.{◌≡◌, ℕ, ◌≤◌, Bool, true, false, ◌&&◌, ◌||◌, bytes_eq, is_some, nat_eq, nat_le, List, [], ◌∷◌, filter, length, Option, Some, None}
use Rattle.std.specs.Prelude.{if◌then◌else◌}
use Rattle.std.specs.List.{list_any}
use Rattle.std.specs.Option.{option_map_or}
use Rattle.mx_base.specs.declared.tag.Tag.{Tag}
use Rattle.mx_base.specs.declared.tag.Tag.TheVariants as tags
use Rattle.mx_wire.specs.Log.{Log}
use Rattle.mx_wire.specs.declared.entry.Entry.{Entry}
use Rattle.mx_wire.specs.declared.entry.Entry.TheVariants.{Wrote}
use Rattle.private_model.specs.Commands.{Command, Prepare, Quit}
use Rattle.private_model.specs.Names.{LinkId, MessageName, SessionName}
use Rattle.private_model.specs.Story.{Due, Prep, Question, Sent, Statement, Story, is_link_id}
use Rattle.private_model.specs.View.{Carried, Joined, Lent, Nobody, Setup}
use Rattle.log_story.specs.Plan.{Asks, Closes, Resets, Route, StepText}
use Rattle.log_story.specs.Servers.{may_begin}
use Rattle.log_story.specs.Tale.{Client, is_to_server}
use Rattle.router_promises.specs.Closes.{MayQuit, is_past_reset}
use Rattle.router_promises.specs.Dues.{is_due}
use Rattle.router_promises.specs.Keys.{LinkKey, key_of, waiters}
use Rattle.router_promises.specs.Now.{Now, held_now, link_now, now_at, present_now, view_now, wire_now}
use Rattle.router_promises.specs.Terms.{Terms, plan_in, setup_in}
use Rattle.router_promises.specs.Uses.{StepKind, kind_of_step, steps_of}
use Rattle.router_promises.specs.Wants.{prepares_first, wants}

-- Commands.

abbrev pub wants_there : Terms → Now → LinkId → SessionName → Command → Bool
wants_there terms now link n command =
    is_due terms now.tale n
    && option_map_or (λ (due : Due). wants (setup_in terms) (link_now (setup_in terms) now link)
    (held_now (setup_in terms) now n) due command) ((view_now (setup_in terms) now).dues n) false

abbrev pub some_wants : Terms → Now → LinkId → Command → Option LinkKey → Bool
some_wants terms now link command None = false
some_wants terms now link command (Some key) =
    list_any (λ (m : MessageName). wants_there terms now link
    (present_now (setup_in terms) now m.client key.hostgroup) command) (waiters terms now key)

-- a step is wanted by the statement whose link it is, or where it is nobody's by one that waits for a link of this key
abbrev pub is_wanted : Terms → Now → LinkId → Command → Carried → Bool
is_wanted terms now link command Nobody = some_wants terms now link command (key_of terms now link)
is_wanted terms now link command (Lent n) = wants_there terms now link n command
is_wanted terms now link command (Joined n) = wants_there terms now link n command

-- Each kind of step comes once between two questions on a link, and once more for each statement that lapsed meanwhile.
abbrev pub IsInSeries : Terms → Now → LinkId → Option StepKind → Type 0
IsInSeries terms now link None = ⊥
IsInSeries terms now link (Some kind) = steps_of kind (now.uses link) ≤ (now.uses link).lapsed

pub record IsStep (terms : Terms) (now : Now) (link : LinkId) (command : Command) : Type 0 where
  pub wanted : is_wanted terms now link command (link_now (setup_in terms) now link).carries ≡ true
  pub series : IsInSeries terms now link (kind_of_step command)

-- Prepared statements on a link.

-- the key of what is prepared by a question
abbrev pub key_in : Command → (key : ℕ) → List ℕ
key_in (Prepare text) key = key ∷ []
key_in _ key = []

abbrev pub key_prepared : Question → List ℕ
key_prepared (Prep n key text) = key ∷ []
key_prepared (Statement n due) = key_in due.command due.key
key_prepared _ = []

abbrev pub with_key : List ℕ → List ℕ → List ℕ
with_key [] keys = keys
with_key (key ∷ more) keys = if list_any (nat_eq key) keys then keys else key ∷ keys

abbrev pub keys_prepared : LinkId → Story → List ℕ
keys_prepared link [] = []
keys_prepared link (Sent other question ∷ past) =
    if is_link_id link other then with_key (key_prepared question) (keys_prepared link past) else keys_prepared link past
keys_prepared link (e ∷ past) = keys_prepared link past

-- those that stand
abbrev pub live_keys : Setup → Now → LinkId → List ℕ
live_keys setup now link = filter (λ key. is_some ((link_now setup now link).live key)) (keys_prepared link now.tale.story)

-- a statement that is due prepares this text
abbrev pub is_prepare_of : (text : List ℕ) → Command → Bool
is_prepare_of text (Prepare other) = bytes_eq text other
is_prepare_of text _ = false

abbrev pub prepares : (text : List ℕ) → Option Due → Bool
prepares text due = option_map_or (λ (d : Due). is_prepare_of text d.command) due false

abbrev pub is_prepared_anew : Terms → Now → (text : List ℕ) → Option LinkKey → Bool
is_prepared_anew terms now text None = false
is_prepared_anew terms now text (Some key) =
    list_any (λ (client : Client). is_due terms now.tale (present_now (setup_in terms) now client.number key.hostgroup)
    && prepares text ((view_now (setup_in terms) now).dues (present_now (setup_in terms) now client.number key.hostgroup))) now.tale.clients

-- A STMT_CLOSE names a live number, and comes where 1,000 stand there, or where its text is to be prepared anew.
pub record IsClose (terms : Terms) (now : Now) (link : LinkId) (number : ℕ) : Type 0 where
  pub key : ℕ
  pub live : (link_now (setup_in terms) now link).live key ≡ Some number
  pub needed : (nat_le 1000 (length (live_keys (setup_in terms) now link))
      || is_prepared_anew terms now (terms.decided.keys key).text (key_of terms now link)) ≡ true

-- a STMT_RESET names one with long data
abbrev pub IsReset : Now → LinkId → (number : ℕ) → Type 0
IsReset now link number = list_any (nat_eq number) (now.uses link).long ≡ true

-- a QUIT ends a link that may be closed
abbrev pub MayStep : Terms → Log → Now → LinkId → StepText → Type 0
MayStep terms log now link (Asks Quit) = MayQuit terms log now link
MayStep terms log now link (Asks command) = IsStep terms now link command
MayStep terms log now link (Closes number) = IsClose terms now link number
MayStep terms log now link (Resets number) = IsReset now link number

-- A text is prepared on the way to a statement that executes it, where it doesn't stand on the link.
abbrev pub wants_prepared : Terms → Now → LinkId → SessionName → (ordinal : ℕ) → Bool
wants_prepared terms now link n ordinal =
    is_due terms now.tale n
    && option_map_or (λ (due : Due). nat_eq due.ordinal ordinal && prepares_first (link_now (setup_in terms) now link) due.command due.key)
    ((view_now (setup_in terms) now).dues n) false

abbrev pub is_prep_wanted : Terms → Now → LinkId → MessageName → Bool
is_prep_wanted terms now link m =
    option_map_or (λ (route : Route). wants_prepared terms now link (present_now (setup_in terms) now m.client route.hostgroup) m.ordinal)
    ((plan_in terms).routes m) false

-- a statement is sent while it is due: not once it was given up
abbrev pub is_for_due : Terms → Now → MessageName → Bool
is_for_due terms now m =
    option_map_or (λ (route : Route). is_due terms now.tale
    (present_now (setup_in terms) now m.client route.hostgroup)) ((plan_in terms).routes m) false

-- no reset is written after a statement of which none takes back what it does
abbrev pub MayStepFor : Terms → Log → Now → LinkId → StepText → Tag → Type 0
MayStepFor terms log now link step tags.Own = MayStep terms log now link step
MayStepFor terms log now link step (tags.Sync client hostgroup) = MayStep terms log now link step
MayStepFor terms log now link step (tags.For client ordinal) = is_for_due terms now (record { client = client; ordinal = ordinal }) ≡ true
MayStepFor terms log now link step (tags.Prep client ordinal) =
    is_prep_wanted terms now link (record { client = client; ordinal = ordinal }) ≡ true
MayStepFor terms log now link step (tags.End client hostgroup) = is_past_reset (setup_in terms) now link ≡ false
MayStepFor terms log now link step _ = Unit {0}

abbrev pub MayStepAs : Terms → Log → Now → LinkId → Tag → (begins : Bool) → Type 0
MayStepAs terms log now link tag true = MayStepFor terms log now link ((plan_in terms).steps link (wire_now now link).begun) tag
MayStepAs terms log now link tag false = Unit {0}

abbrev pub StepsBy : Terms → Log → Now → Entry → Type 0
StepsBy terms log now (Wrote link tag bytes) =
    is_to_server now.tale link ≡ true → MayStepAs terms log now link tag (may_begin (setup_in terms) link (wire_now now link) now.tale)
StepsBy terms log now _ = Unit {0}

abbrev pub StepsSo : Terms → Log → Entry → Type 0
StepsSo terms log e = StepsBy terms log (now_at terms log) e
