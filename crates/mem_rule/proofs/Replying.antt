-- To choose a schema, to set tracked settings and to set the insert id are answered by one OK or one ERR.
use Rattle.std.specs.Prelude.{◌≡◌, ◌≢◌, ℕ, Bool, true, false, [], ◌∷◌}
use Rattle.std.proofs.Common.{refl, sym, inl, subst}
use Rattle.session_state.specs.Classes.{Effect, Tracked, Uses, Neither}
use Rattle.server_rule.specs.Classes.{effect_run, router_reads}
use Rattle.server_rule.specs.Laws.{IsOkOrErr, ReplyLaw}
use Rattle.server_rule.specs.declared.command.Cmd.{Cmd}
use Rattle.server_rule.specs.declared.session.Session.{Session}
use Rattle.mem_rule.specs.Answers.{ok_payload}
use Rattle.mem_rule.specs.Commands.{Ran, ran, with_settings}
use Rattle.mem_rule.specs.Stored.{step, tables_in, tests}
use Rattle.mem_rule.specs.Tables.{Tables}
use Rattle.mem_rule.proofs.Capturing.{setting}
use Rattle.mem_rule.proofs.Choosing.{choosing}
use Rattle.mem_rule.proofs.Resets.{ok_is_ok}
use Rattle.mem_rule.proofs.Tracking.{tracking}

plain : (status : ℕ) → IsOkOrErr (ok_payload status 0 0 ∷ [])
plain status = record { payload = ok_payload status 0 0; alone = refl; kind = inl (ok_is_ok status) }

by_settings : (on : Bool) (s : Session) → IsOkOrErr (with_settings on s).reply
by_settings true s = plain _
by_settings false s = plain _

of_effect : (t : Tables) (s : Session) (c : Cmd) (e : Effect) → effect_run router_reads c ≡ e → e ≢ Neither → IsOkOrErr (ran t s c).reply
of_effect t s c (Tracked changes) is some = subst (λ (r : Ran). IsOkOrErr r.reply) (sym (tracking t s c changes is)) (by_settings _ _)
of_effect t s c (Uses schema) is some = subst (λ (r : Ran). IsOkOrErr r.reply) (sym (choosing t s c schema is)) (plain _)
of_effect t s c Neither is some = absurd (some refl)

pub replying : ReplyLaw router_reads tests step
unfolding step
replying = record {
  changes = λ stored s ok c some. of_effect (tables_in stored) s c (effect_run router_reads c) refl some;
  set_id = λ stored s ok n small. subst (λ (r : Ran). IsOkOrErr r.reply) (sym (setting (tables_in stored) s n small)) (plain _);
}
