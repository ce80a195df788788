use Rattle.std.proofs.Common.{nat_eq, rules}
use Rattle.std.proofs.lemmas.Iterator.Search.{any_from_yields_List}
use Rattle.std.proofs.lemmas.Iterator.Splits.{YieldsList-from_slice_split}
use borrow.Author.Tests.{tests}
use Rattle.session_vars.specs.Values.{has_reading_mode, is_reading_mode, without_blanks}
use Rattle.session_vars.proofs.value.has_reading_mode.Goals as goal

pub returns : goal.returns
unfolding has_reading_mode
returns c = any_from_yields_List (λ mode. is_reading_mode (without_blanks mode)) _ _ _ c.any.ensures.ran (YieldsList-from_slice_split _ (λ b. nat_eq b 44) c.args.modes.now c.split.ensures.rest c.split.ensures.done c.split.ensures.closure (λ x b q k. search (rules, tests))) (λ x b q k. search (rules, tests))
