use Rattle.std.specs.Prelude.{◌≡◌, List, Option}
use Rattle.std.specs.Option.{option_copied}
use Rattle.std.proofs.Common.{refl, sym, ap, subst}
use Rattle.std.proofs.lemmas.Result.{IfOk-weaker}
use Rattle.server_rule.specs.Classes.{router_reads}
use Rattle.message_judge.specs.Drafts.{draft_of}
use Rattle.message_judge.specs.Judging.{Judged, judged}
use Rattle.message_judge.specs.declared.caller.Prepared.{Prepared}
use Rattle.query_rules.specs.declared.rule.Rule.{Rule}
use Rattle.core_promises.specs.Ruled.{book_of, situation_at}
use Rattle.core_service.specs.Serves.{rules_in}
use Rattle.core_texts.specs.Texts.{key_at}
use Rattle.core_turns.proofs.Named.{known-named, named-known, next-fresh}
use Rattle.core_turns.proofs.judged.drafted.Goals as goal

pub returns-clause-known : goal.returns-clause-known
returns-clause-known c = IfOk-weaker c.judge.result _ _
    (λ found is. λ texts named. record {
      caller = c.in_ok-caller.caller;
      standing = record { transaction = c.transaction_of.result; next_number = c.next_number.result };
      client = c.in_ok-caller.ensures.client;
      login = c.in_ok-caller.ensures.login;
      home = c.in_ok-caller.ensures.home;
      place = c.in_ok-caller.ensures.place;
      transaction = c.transaction_of.ensures (book_of c.args.service.now) (situation_at (key_at texts) c.args.desk.now) (sym c.as_slice.ensures) refl;
      next_is = c.next_number.ensures;
      flag = c.in_ok-caller.ensures.flag;
      named = λ one known. named-known texts c.args.desk.now.seat.statements c.args.payload.now c.args.named.now named one known;
      known = λ number one at some known. known-named texts c.args.desk.now.seat.statements c.args.payload.now c.args.named.now named number one at known;
      number = λ n next. next-fresh c.args.desk.now.seat.statements n next;
      is = subst (λ (p : Option Prepared). draft_of c.in_ok-caller.caller p found.draft
          ≡ (judged router_reads (rules_in c.args.service.now) c.in_ok-caller.caller (record { transaction = c.transaction_of.result; next_number = c.next_number.result }) p c.args.payload.now).draft)
          c.prepared_in.ensures
          (subst (λ (rules : List Rule). draft_of c.in_ok-caller.caller (option_copied c.prepared_in.result) found.draft
          ≡ (judged router_reads rules c.in_ok-caller.caller (record { transaction = c.transaction_of.result; next_number = c.next_number.result }) (option_copied c.prepared_in.result) c.args.payload.now).draft)
          c.rules.ensures (ap (λ (j : Judged). j.draft) is));
    }) c.judge.ensures.is
