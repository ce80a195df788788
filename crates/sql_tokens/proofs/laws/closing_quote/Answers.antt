use Rattle.sql_tokens.proofs.Insides.{closing_closes, closing_is}
use Rattle.sql_tokens.proofs.laws.closing_quote.Goals as goal

pub returns-clause-found : goal.returns-clause-found
returns-clause-found c = closing_closes

pub returns-clause-only : goal.returns-clause-only
returns-clause-only c = closing_is
