use Rattle.sql_whitelist.proofs.Sending.{listed-alone}
use Rattle.sql_whitelist.proofs.laws.listed_alone.Goals as goal

pub returns : goal.returns
returns c = listed-alone
