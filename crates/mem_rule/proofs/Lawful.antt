-- The server is tame.
use Rattle.std.specs.Prelude.{ℕ, List}
use Rattle.std.proofs.Common.{sym, ap, ◌∙◌}
use Rattle.server_rule.specs.Classes.{router_reads}
use Rattle.server_rule.specs.Laws.{IsTame}
use Rattle.server_rule.specs.Servers.{Runs}
use Rattle.server_rule.specs.declared.command.Cmd.{Cmd}
use Rattle.server_rule.specs.declared.session.Session.{Session}
use Rattle.mem_rule.specs.Commands.{RunsIn, ran}
use Rattle.mem_rule.specs.Stored.{step, stored_after, tables_out, tests}
use Rattle.mem_rule.specs.Tables.{Tables}
use Rattle.mem_rule.proofs.Accounts.{account}
use Rattle.mem_rule.proofs.Blindness.{blindness}
use Rattle.mem_rule.proofs.Choosing.{schemas}
use Rattle.mem_rule.proofs.Flagging.{flags_law}
use Rattle.mem_rule.proofs.Keeping.{keeps_tests}
use Rattle.mem_rule.proofs.Numbering.{numbering}
use Rattle.mem_rule.proofs.Ordinary.{ordinary}
use Rattle.mem_rule.proofs.Preparing.{preparing}
use Rattle.mem_rule.proofs.Replying.{replying}
use Rattle.mem_rule.proofs.Resets.{reset}
use Rattle.mem_rule.proofs.Storing.{stored_again, tables_again}
use Rattle.mem_rule.proofs.Tracking.{tracked}
use Rattle.mem_rule.proofs.Unlocking.{unlocking}

pub tame : IsTame router_reads tests step
tame = record {
  tests_kept = keeps_tests;
  account = account;
  reset = reset;
  tracked = tracked;
  schemas = schemas;
  texts = ordinary;
  blind = blindness;
  insert_id = numbering;
  flags = flags_law;
  preparing = preparing;
  unlock = unlocking;
  replies = replying;
}

-- a run of the server is a step on the list of its data
pub runs : (t : Tables) (s : Session) (c : Cmd) (t' : Tables) (s' : Session) (payloads : List (List ℕ)) → RunsIn t s c t' s' payloads → Runs step (tables_out t) s c (tables_out t') s' payloads
unfolding step
runs t s c t' s' payloads is = record {
  data_is = ap tables_out is.tables ∙ (sym (stored_again t (ran t s c).writes) ∙ ap (λ (tables : Tables). stored_after (tables_out t) (ran tables s c).writes) (sym (tables_again t)));
  session_is = is.session ∙ ap (λ (tables : Tables). (ran tables s c).session) (sym (tables_again t));
  reply_is = is.reply ∙ ap (λ (tables : Tables). (ran tables s c).reply) (sym (tables_again t));
}
