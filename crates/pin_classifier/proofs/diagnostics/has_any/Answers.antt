use Rattle.std.proofs.Common.{not, rules}
use Rattle.std.proofs.lemmas.Iterator.Search.{any_from_yields_List}
use Rattle.std.proofs.lemmas.Iterator.Splits.{YieldsList-from_slice_split}
use Rattle.std.specs.List.{list_any}
use borrow.Author.Tests.{tests}
use Rattle.sql_tokens.specs.Words.{same_text}
use Rattle.pin_classifier.specs.Diagnostics.{has_any, is_letter}
use Rattle.pin_classifier.specs.WordLists.{words_of}
use Rattle.pin_classifier.proofs.diagnostics.has_any.Goals as goal

pub returns : goal.returns
unfolding has_any
returns c = any_from_yields_List (λ one. list_any (same_text one) (words_of c.args.words)) _ _ _ c.any.ensures.ran (YieldsList-from_slice_split _ (λ b. not (is_letter b)) c.args.bytes.now c.split.ensures.rest c.split.ensures.done c.split.ensures.closure (λ x b q k. search (rules, tests))) (λ x b q k. search (rules, tests))
