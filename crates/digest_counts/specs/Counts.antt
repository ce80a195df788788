-- What a statement is counted under.
use Rattle.std.specs.Prelude.{ℕ, List, take}
use Rattle.mx_base.specs.declared.names.Hostgroup.{Hostgroup}
use Rattle.query_digest.specs.Digest.{digest_of}
use Rattle.query_digest.specs.declared.table.DigestKey.{DigestKey}

-- the first bytes of the digest of a text
abbrev pub digest_start : (text : List ℕ) → List ℕ
digest_start text = take 2048 (digest_of text)

-- where it was sent, the first bytes of its client's schema, its client's user, and the first bytes of its digest
abbrev pub key_for : Hostgroup → (schema user text : List ℕ) → DigestKey
key_for hostgroup schema user text = record { hostgroup = hostgroup; schema = take 256 schema; user = user; digest = digest_start text }
