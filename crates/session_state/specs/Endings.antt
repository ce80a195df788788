-- How a reply ended.
use Rattle.std.specs.Prelude.{ℕ, ◌/◌, ◌%◌, Bool, true, false, not, ◌&&◌, ◌||◌, nat_eq, nat_lt, Option, Some, None}
use Rattle.session_state.specs.declared.reply_end.EndKind.{EndKind}
use Rattle.session_state.specs.declared.reply_end.EndKind.TheVariants.{Ok, Err, Prepared}
use Rattle.session_state.specs.declared.reply_end.ReplyEnd.{ReplyEnd}

abbrev pub is_ok_kind : EndKind → Bool
is_ok_kind Ok = true
is_ok_kind _ = false

abbrev pub is_err_kind : EndKind → Bool
is_err_kind Err = true
is_err_kind _ = false

abbrev pub is_prepared_kind : EndKind → Bool
is_prepared_kind Prepared = true
is_prepared_kind _ = false

abbrev pub is_ok : ReplyEnd → Bool
is_ok end = is_ok_kind end.kind

abbrev pub is_err : ReplyEnd → Bool
is_err end = is_err_kind end.kind

abbrev pub is_prepared : ReplyEnd → Bool
is_prepared end = is_prepared_kind end.kind

-- SERVER_STATUS_IN_TRANS, the lowest of the status flags
abbrev pub in_transaction : Option ℕ → Option Bool
in_transaction None = None
in_transaction (Some flags) = Some (nat_eq (flags % 2) 1)

-- whether a transaction is open, where the reply says it
abbrev pub shows_transaction : ReplyEnd → Option Bool
shows_transaction end = in_transaction end.flags

-- SERVER_STATUS_AUTOCOMMIT, the next one
abbrev pub autocommit_in : Option ℕ → Option Bool
autocommit_in None = None
autocommit_in (Some flags) = Some (nat_eq (flags / 2 % 2) 1)

-- whether autocommit is on, where the reply says it
abbrev pub shows_autocommit : ReplyEnd → Option Bool
shows_autocommit end = autocommit_in end.flags

-- it shows flags, and among them neither a transaction nor autocommit
abbrev pub shows_neither_in : Option ℕ → Bool
shows_neither_in None = false
shows_neither_in (Some flags) = not (nat_eq (flags % 2) 1) && not (nat_eq (flags / 2 % 2) 1)

abbrev pub shows_neither : ReplyEnd → Bool
shows_neither end = shows_neither_in end.flags

-- it leaves diagnostics
abbrev pub warns : ReplyEnd → Bool
warns end = is_err end || nat_lt 0 end.warnings

-- an insert id other than 0 is shown, or it can't be known whether there was one
abbrev pub brings_id : ReplyEnd → Bool
brings_id end = is_err end || (is_ok end && nat_lt 0 end.insert_id)
