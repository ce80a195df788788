use Rattle.sql_tokens.proofs.Insides.{block_ends, block_is}
use Rattle.sql_tokens.proofs.laws.block_end.Goals as goal

pub returns-clause-found : goal.returns-clause-found
returns-clause-found c = block_ends

pub returns-clause-only : goal.returns-clause-only
returns-clause-only c = block_is
