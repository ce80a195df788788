use Rattle.std.proofs.Common.{eqb}
use Rattle.std.proofs.lemmas.List.Filters.{dedup_is}
use Rattle.sql_whitelist.proofs.Hashing.{are-hashes}
use Rattle.sql_whitelist.proofs.digest_hashes.hashes.Goals as goal

pub returns : goal.returns
returns c = are-hashes c.args.digests.now c.in_ok-hashes.hashes.items c.sort.new.self.items c.dedup.new.self.items c.in_ok-hashes.ensures c.in_ok-sort.ensures.permutation c.in_ok-sort.ensures.sorted (dedup_is eqb c.sort.new.self.items c.dedup.new.self.items c.dedup.ensures.filtered)
