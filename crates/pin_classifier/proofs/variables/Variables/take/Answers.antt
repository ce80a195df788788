use Rattle.std.proofs.Common.{◌||◌}
use Rattle.pin_classifier.proofs.variables.Variables.take.Goals as goal

pub returns : goal.returns
returns c =
    let before = c.args.self.now in
    λ i. record {
      last_insert_id = before.last_insert_id || c.is_part.ensures i;
      identity = before.identity || c.is_part-2.ensures i;
      warning_count = before.warning_count || c.is_part-3.ensures i;
      error_count = before.error_count || c.is_part-4.ensures i;
      pseudo_thread_id = before.pseudo_thread_id || c.is_part-5.ensures i;
      last_gtid = before.last_gtid || c.is_part-6.ensures i;
      wide = before.wide || c.is_wide_name.ensures i;
    }
