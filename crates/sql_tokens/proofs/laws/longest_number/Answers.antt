use Rattle.sql_tokens.proofs.LongestNumbers.{number_found, longest_number}
use Rattle.sql_tokens.proofs.laws.longest_number.Goals as goal

pub returns-clause-found : goal.returns-clause-found
returns-clause-found c = number_found

pub returns-clause-longest : goal.returns-clause-longest
returns-clause-longest c = longest_number
