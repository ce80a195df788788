-- An empty text is no SET.
use Rattle.std.specs.Prelude.{true, false}
use Rattle.std.proofs.Common.{refl}
use Rattle.pin_classifier.specs.Classes.{class_of}
use Rattle.pin_classifier.specs.Judged.{limited, sets_limit}
use Rattle.pin_classifier.specs.Opened.{opened_text, opens}
use Rattle.pin_classifier.specs.Shapes.{asks_connection_id, shape_of, used_schema}
use Rattle.sql_tokens.specs.Tokens.{tokens_from}
use Rattle.server_rule.specs.Classes.{router_reads}
use Rattle.shared_router.specs.Leads.{ReadsNothing}

pub reads_nothing : ReadsNothing router_reads
unfolding router_reads class_of limited sets_limit opens opened_text shape_of tokens_from asks_connection_id used_schema
reads_nothing true = refl
reads_nothing false = refl
