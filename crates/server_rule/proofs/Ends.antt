-- What the end of a reply shows.
use Rattle.std.specs.Prelude.{◌≡◌, ℕ, Bool, true, false, if◌then◌else◌, List, [], Some, None}
use Rattle.std.proofs.Common.{refl}
use Rattle.mx_base.specs.Fields.{lenenc_at}
use Rattle.mx_base.specs.declared.fields.Field.{Field}
use Rattle.mx_base.specs.declared.fields.Field.TheVariants.{Value, Null, Short, Bad}
use Rattle.session_state.specs.Endings.{is_ok, is_err, shows_transaction}
use Rattle.session_state.specs.declared.reply_end.ReplyEnd.{ReplyEnd}
use Rattle.server_rule.specs.Replies.{err_end, first_payload, is_eof_payload, is_err_payload, last_payload, ok_behind, ok_behind_rows, prepared_end, reply_end, rows_end}

apart : {A : Type 0} {b : Bool} → b ≡ true → b ≡ false → A
apart is isnt = absurd (cc)

-- an ERR is no OK, and shows no flags
pub record IsSilent (end : ReplyEnd) : Type 0 where
  pub not_ok : is_ok end ≡ false
  pub silent : shows_transaction end ≡ None

-- what it shows of the transaction
pub record Shows (end : ReplyEnd) : Type 0 where
  pub in_trans : Bool
  pub shown : shows_transaction end ≡ Some in_trans

ok_by : (field : Field) (payload : List ℕ) → (is_err (ok_behind field payload) ≡ false) × Shows (ok_behind field payload)
ok_by (Value id next) payload = (refl, record { in_trans = _; shown = refl })
ok_by Null payload = (refl, record { in_trans = _; shown = refl })
ok_by Short payload = (refl, record { in_trans = _; shown = refl })
ok_by Bad payload = (refl, record { in_trans = _; shown = refl })

ok_rows : (field : Field) (payload : List ℕ) → (is_err (ok_behind_rows field payload) ≡ false) × Shows (ok_behind_rows field payload)
ok_rows (Value rows next) payload = ok_by (lenenc_at next payload) payload
ok_rows Null payload = (refl, record { in_trans = _; shown = refl })
ok_rows Short payload = (refl, record { in_trans = _; shown = refl })
ok_rows Bad payload = (refl, record { in_trans = _; shown = refl })

refused_by : (err eof : Bool) (field : Field) (payload : List ℕ) → is_err (if err then err_end payload else if eof then rows_end payload else ok_behind_rows field payload) ≡ true
    → IsSilent (if err then err_end payload else if eof then rows_end payload else ok_behind_rows field payload)
refused_by true eof field payload is = record { not_ok = refl; silent = refl }
refused_by false true field payload is = apart is refl
refused_by false false field payload is = apart is (ok_rows field payload).0

shown_by : (err eof : Bool) (field : Field) (payload : List ℕ) → is_err (if err then err_end payload else if eof then rows_end payload else ok_behind_rows field payload) ≡ false
    → Shows (if err then err_end payload else if eof then rows_end payload else ok_behind_rows field payload)
shown_by true eof field payload isnt = apart refl isnt
shown_by false true field payload isnt = record { in_trans = _; shown = refl }
shown_by false false field payload isnt = (ok_rows field payload).1

prepared_by : (err : Bool) (payload : List ℕ) → is_err (if err then err_end payload else prepared_end payload) ≡ true → IsSilent (if err then err_end payload else prepared_end payload)
prepared_by true payload is = record { not_ok = refl; silent = refl }
prepared_by false payload is = apart is refl

pub refused_end : (to_prepare : Bool) (payloads : List (List ℕ)) → is_err (reply_end to_prepare payloads) ≡ true → IsSilent (reply_end to_prepare payloads)
unfolding reply_end
refused_end true payloads is = prepared_by (is_err_payload (first_payload payloads)) (first_payload payloads) is
refused_end false payloads is =
    let payload = last_payload payloads in refused_by (is_err_payload payload) (is_eof_payload payload) (lenenc_at 1 payload) payload is

pub shown_end : (payloads : List (List ℕ)) → is_err (reply_end false payloads) ≡ false → Shows (reply_end false payloads)
unfolding reply_end
shown_end payloads isnt =
    let payload = last_payload payloads in shown_by (is_err_payload payload) (is_eof_payload payload) (lenenc_at 1 payload) payload isnt

-- nothing at all shows no transaction
pub nothing_shows : shows_transaction (reply_end false []) ≡ Some false
unfolding reply_end
nothing_shows = refl
