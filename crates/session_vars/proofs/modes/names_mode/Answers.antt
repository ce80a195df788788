use Rattle.std.proofs.Common.{nat_eq, ◌||◌, rules}
use Rattle.std.proofs.lemmas.Iterator.Search.{any_from_yields_List}
use Rattle.std.proofs.lemmas.Iterator.Splits.{YieldsList-from_slice_split}
use borrow.Author.Tests.{tests}
use Rattle.sql_tokens.specs.Words.{same_text}
use Rattle.session_vars.proofs.modes.names_mode.Goals as goal

pub returns : goal.returns
returns c = any_from_yields_List (λ named. same_text c.args.mode.now named) _ _ _ c.any.ensures.ran (YieldsList-from_slice_split _ (λ b. nat_eq b 44 || nat_eq b 39) c.args.value.now c.split.ensures.rest c.split.ensures.done c.split.ensures.closure (λ x b q k. search (rules, tests))) (λ x b q k. search (rules, tests))
