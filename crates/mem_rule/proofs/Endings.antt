-- How the replies of this server end.
use Rattle.std.specs.Prelude.{◌≡◌, ℕ, ◌+◌, ◌^◌, ◌<◌, true, false, List, [], ◌∷◌, ◌++◌, length}
use Rattle.std.proofs.Common.{refl, arith}
use Rattle.mx_base.specs.FieldLaws.{lenenc_at-again}
use Rattle.mx_base.specs.Fields.{lenenc, lenenc_at}
use Rattle.mx_base.specs.declared.fields.Field.{Field}
use Rattle.mx_base.specs.declared.fields.Field.TheVariants.{Value}
use Rattle.session_state.specs.Endings.{is_err, is_ok}
use Rattle.session_state.specs.declared.reply_end.EndKind.TheVariants.{Ok}
use Rattle.server_rule.specs.Replies.{ok_behind, ok_behind_rows, reply_end}
use Rattle.mem_rule.specs.Answers.{err_payload, ok_payload}
use Rattle.mem_rule.specs.declared.answer.Fault.{Fault}
use Rattle.mem_rule.specs.declared.answer.Fault.TheVariants as faults

behind_kind : (f : Field) (payload : List ℕ) → (ok_behind f payload).kind ≡ Ok
behind_kind (Value id next) payload = refl
behind_kind _ payload = refl

rows_kind : (f : Field) (payload : List ℕ) → (ok_behind_rows f payload).kind ≡ Ok
rows_kind (Value rows next) payload = behind_kind (lenenc_at next payload) payload
rows_kind _ payload = refl

-- an OK is one
pub ok_kind : (status rows id : ℕ) → (reply_end false (ok_payload status rows id ∷ [])).kind ≡ Ok
unfolding reply_end
ok_kind status rows id = rows_kind (lenenc_at 1 (ok_payload status rows id)) (ok_payload status rows id)

-- and shows its insert id
pub ok_shows_id : (status rows id : ℕ) → rows < 2 ^ 64 → id < 2 ^ 64 → (reply_end false (ok_payload status rows id ∷ [])).insert_id ≡ id
unfolding reply_end
ok_shows_id status rows id few small =
    let payload = ok_payload status rows id in
    let first : lenenc_at 1 payload ≡ _ = lenenc_at-again rows (0 ∷ []) (lenenc id ++ (status ∷ 0 ∷ 0 ∷ 0 ∷ [])) few in
    let second : lenenc_at (length (0 ∷ lenenc rows)) payload ≡ _ = lenenc_at-again id (0 ∷ lenenc rows) (status ∷ 0 ∷ 0 ∷ 0 ∷ []) small in
    let one : 1 + length (lenenc rows) ≡ length (0 ∷ lenenc rows) = omega arith in
    rw (first, one, second) refl

-- an ERR is one, and no OK
pub err_is_err : (fault : Fault) → is_err (reply_end false (err_payload fault ∷ [])) ≡ true
unfolding reply_end
err_is_err faults.NoTable = refl
err_is_err faults.Duplicate = refl
err_is_err faults.Locked = refl
err_is_err faults.Syntax = refl

pub err_isnt_ok : (fault : Fault) → is_ok (reply_end false (err_payload fault ∷ [])) ≡ false
unfolding reply_end
err_isnt_ok faults.NoTable = refl
err_isnt_ok faults.Duplicate = refl
err_isnt_ok faults.Locked = refl
err_isnt_ok faults.Syntax = refl
