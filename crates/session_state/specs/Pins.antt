-- Why a session keeps its link.
use Rattle.std.specs.Prelude.{Bool, true, false, not, ◌&&◌, ◌||◌, if◌then◌else◌, Option, Some, None}
use Rattle.pin_classifier.specs.declared.class.Class.{Class}
use Rattle.session_state.specs.Classes.{changes_place, frees_locks, is_lone_savepoint, leaves_diag, leaves_found, sets_next, takes_locks}
use Rattle.session_state.specs.Endings.{is_err, is_ok, is_prepared, shows_autocommit, shows_transaction, warns}
use Rattle.session_state.specs.declared.pin.Pin.{Pin}
use Rattle.session_state.specs.declared.reply_end.ReplyEnd.{ReplyEnd}

abbrev pub no_pin : Pin
no_pin = record { deep = false; locks = false; next_tx = false; tx = false; after_err = false; uncommitted = false; diag = false; own_diag = false; own_found = false; rule = false }

-- Only a reset takes it back. So does what a rule keeps: that may be anything, as no text shows it.
abbrev pub needs_reset : Pin → Bool
needs_reset pin = pin.tx || (pin.after_err || (pin.locks || (pin.next_tx || (pin.deep || (pin.uncommitted || pin.rule)))))

abbrev pub is_pinned : Pin → Bool
is_pinned pin = needs_reset pin || pin.diag

-- What one reply brings and takes. What it brings, it doesn't take.

abbrev pub tx_after : (shown : Option Bool) → Bool → Bool
tx_after (Some shown) old = shown
tx_after None old = old

abbrev pub locks_after : Class → ReplyEnd → Bool → Bool
locks_after class end old = if takes_locks class end then true else if frees_locks class end then false else old

-- the reply shows no transaction
abbrev pub shows_none : (shown : Option Bool) → Bool
shows_none (Some shown) = not shown
shows_none None = false

abbrev pub next_after : Class → ReplyEnd → Pin → Bool
next_after class end pin =
    if sets_next class end then true
    else if (pin.tx && (shows_none (shows_transaction end) && not class.next_tx)) then false
    else pin.next_tx

-- a savepoint that no transaction takes along is deep state
abbrev pub deep_after : Class → ReplyEnd → Pin → Bool
deep_after class end pin = pin.deep || (class.deep || is_lone_savepoint class end)

-- Without autocommit a statement may keep metadata locks, also where no transaction shows, until COMMIT or ROLLBACK is answered
-- OK or autocommit is on. A tracked SET and USE take none; what a statement that was refused took, the next reply tells.
abbrev pub uncommitted_by : (autocommit : Option Bool) → Class → ReplyEnd → Pin → Bool
uncommitted_by None class end pin = pin.uncommitted
uncommitted_by (Some on) class end pin =
    if (on || (class.ends_tx && is_ok end)) then false
    else not (changes_place class) || (pin.uncommitted || pin.after_err)

abbrev pub uncommitted_after : Class → ReplyEnd → Pin → Bool
uncommitted_after class end pin = uncommitted_by (shows_autocommit end) class end pin

abbrev pub diag_after : Class → ReplyEnd → Pin → Bool
diag_after class end pin = if (warns end || class.calc_rows) then true else if class.reads_diag then pin.diag else false

-- What a statement of this session left on the link that it keeps is its own, until it is unpinned: the next statement may be
-- lent another link.
abbrev pub own_after : (leaves own : Bool) → Pin → Bool
own_after leaves own pin = leaves || (is_pinned pin && own)

-- what a statement of this class reads of earlier ones was left by its own session, on the link that it keeps
abbrev pub reads_own : Class → Pin → Bool
reads_own class pin = (not class.reads_diag || (is_pinned pin && pin.own_diag)) && (not class.reads_found || (is_pinned pin && pin.own_found))

-- the rule's word on sharing the link
abbrev pub rule_after : (multiplex : Option Bool) → Bool → Bool
rule_after (Some shared) old = not shared
rule_after None old = old

abbrev pub pin_answered : Class → (multiplex : Option Bool) → ReplyEnd → Pin → Pin
pin_answered class multiplex end pin = record {
  deep = deep_after class end pin;
  locks = locks_after class end pin.locks;
  next_tx = next_after class end pin;
  tx = tx_after (shows_transaction end) pin.tx;
  after_err = is_err end;
  uncommitted = uncommitted_after class end pin;
  diag = diag_after class end pin;
  own_diag = own_after (leaves_diag class end) pin.own_diag pin;
  own_found = own_after (leaves_found class end) pin.own_found pin;
  rule = rule_after multiplex pin.rule;
}

-- an answer to a STMT_PREPARE other than an ERR, by the class of its text, brings and takes nothing but diagnostics
abbrev pub pin_prepared : Class → ReplyEnd → Pin → Pin
pin_prepared class end pin = record pin {
  diag = diag_after class end pin;
  own_diag = own_after (warns end) pin.own_diag pin;
  own_found = own_after false pin.own_found pin;
}

abbrev pub pin_after : Class → (multiplex : Option Bool) → ReplyEnd → Pin → Pin
pin_after class multiplex end pin =
    if is_prepared end then pin_prepared class end pin
    else pin_answered class multiplex end pin
