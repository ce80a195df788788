use Rattle.std.specs.Prelude.{◌≡◌, ℕ, List, [], ◌∷◌}
use Rattle.std.proofs.Common.{ap, refl, subst, sym}
use Rattle.client_session.specs.Errors.{malformed_command, unknown_command}
use Rattle.reply_text.specs.Replies.{ok_payload}
use Rattle.admin_port.specs.Payloads.{status}
use Rattle.admin_port.specs.declared.command.AdminCommand.{AdminCommand}
use Rattle.message_judge.specs.Told.{payloads_of}
use Rattle.message_judge.specs.declared.told.OwnError.TheVariants as own
use Rattle.message_judge.specs.declared.told.Told.TheVariants as told
use Rattle.core_promises.specs.Administers.{IsCommandAnswer}
use Rattle.core_service.specs.Serves.{rules_in}
use Rattle.core_turns.specs.Administering.{administered}
use Rattle.core_turns.proofs.administering.write_reply.Goals as goal

pub returns-in_ok-write_told-in-Ping : goal.returns-in_ok-write_told-in-Ping
returns-in_ok-write_told-in-Ping c =
    let was = administered (rules_in c.args.service.now) c.args.admin.now in
    let said : List (List ℕ) = payloads_of c.args.client.0 (told.Ok 2 c.new.result) in
    record {
      payloads = said;
      answer = (
        c.read_command.result,
        (
          c.read_command.ensures,
          subst (λ (command : AdminCommand). IsCommandAnswer command was was said) (sym c.in-Ping.is)
              (ap (λ (info : List ℕ). ok_payload status info ∷ []) c.new.ensures, refl),
        ),
      );
      spelt = c.in_ok-write_told-in-Ping.ensures;
    }

pub returns-in_ok-write_told-in-Malformed : goal.returns-in_ok-write_told-in-Malformed
returns-in_ok-write_told-in-Malformed c = record {
  payloads = malformed_command ∷ [];
  answer = (
    c.read_command.result,
    (
      c.read_command.ensures,
      subst (λ (command : AdminCommand). IsCommandAnswer command (administered (rules_in c.args.service.now) c.args.admin.now)
          (administered (rules_in c.args.service.now) c.args.admin.now) (malformed_command ∷ [])) (sym c.in-Malformed.is) (refl, refl),
    ),
  );
  spelt = c.in_ok-write_told-in-Malformed.ensures;
}

pub returns-in_ok-write_told-in-Unknown : goal.returns-in_ok-write_told-in-Unknown
returns-in_ok-write_told-in-Unknown c = record {
  payloads = unknown_command ∷ [];
  answer = (
    c.read_command.result,
    (
      c.read_command.ensures,
      subst (λ (command : AdminCommand). IsCommandAnswer command (administered (rules_in c.args.service.now) c.args.admin.now)
          (administered (rules_in c.args.service.now) c.args.admin.now) (unknown_command ∷ [])) (sym c.in-Unknown.is) (refl, refl),
    ),
  );
  spelt = c.in_ok-write_told-in-Unknown.ensures;
}
