use Rattle.sql_tokens.proofs.OneList.{are_tokens, only_tokens, are_spans}
use Rattle.sql_tokens.specs.Tokens.{tokens_of}
use Rattle.sql_tokens.proofs.laws.one_token_list.Goals as goal

pub returns-clause-found : goal.returns-clause-found
returns-clause-found c = λ text. are_tokens text 0

pub returns-clause-only : goal.returns-clause-only
returns-clause-only c = λ text. only_tokens text 0

pub returns-clause-spans : goal.returns-clause-spans
returns-clause-spans c = λ text. are_spans text 0 (tokens_of text) (are_tokens text 0)
