-- Resets and the ends of connections.
use Rattle.std.specs.Prelude.{◌≡◌, ℕ, true, false, [], ◌∷◌}
use Rattle.std.proofs.Common.{refl}
use Rattle.session_state.specs.Endings.{is_ok}
use Rattle.server_rule.specs.Classes.{router_reads}
use Rattle.server_rule.specs.Laws.{ResetLaw}
use Rattle.server_rule.specs.Replies.{reply_end}
use Rattle.mem_rule.specs.Answers.{ok_payload}
use Rattle.mem_rule.specs.Commands.{ran}
use Rattle.mem_rule.specs.Stored.{step, tests}

pub ok_is_ok : (status : ℕ) → is_ok (reply_end false (ok_payload status 0 0 ∷ [])) ≡ true
unfolding reply_end
ok_is_ok status = refl

pub reset : ResetLaw router_reads tests step
unfolding step ran
reset = record {
  answered = λ stored s ok. ok_is_ok 2;
  session = λ stored s ok. refl;
  deep = λ stored s ok lasts. refl;
  nothing_lasts = refl;
  brings = λ stored s ok c plain lasts. refl;
  blind = λ stored s ok n diag there. refl;
  idle = λ stored s ok no_tx no_locks no_deep. simp (no_locks, no_deep);
  close_reply = λ stored s ok. refl;
  close_stored = λ stored s ok. refl;
  close_session = λ stored s ok. refl;
}
