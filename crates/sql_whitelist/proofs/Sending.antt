-- What a client may send that is held to a list.
use Rattle.std.proofs.Common.{◌≡◌, ◌↔◌, ℕ, Bool, true, false, not, ◌&&◌, eqb, bytes_eq, List, sym, refl, ap, ◌∙◌}
use Rattle.std.specs.List.{list_any}
use Rattle.std.proofs.lemmas.List.Folds.{Any-from_list_any, list_any-from_Any}
use Rattle.command_parse.specs.Meaning.{Meaning}
use Rattle.command_parse.specs.Meaning.Meaning.{Query, FieldList, Prepare}
use Rattle.query_digest.specs.Digest.{digest_of}
use Rattle.query_digest.specs.Hash.{hash_of}
use Rattle.sql_whitelist.specs.Commands.{HasText, IsListOf, IsListed, MaySend, is_refused}
use Rattle.sql_whitelist.specs.Held.{holds}
use Rattle.sql_whitelist.specs.Listed.{allows, has_hash}
use Rattle.sql_whitelist.specs.declared.list.Whitelist.{Whitelist}
use Rattle.sql_whitelist.specs.declared.row.ListRow.{ListRow}
use Rattle.sql_whitelist.proofs.Hashing.{has-in, in-has}
use Rattle.sql_whitelist.proofs.Listing.{own-bytes, same-bytes}

both-true : (a b : Bool) → (a && b) ≡ true → (a ≡ true) × (b ≡ true)
both-true true b is = (refl, is)
both-true false b is = absurd (cc)

not-false : (b : Bool) → not b ≡ false → b ≡ true
not-false true is = refl
not-false false is = absurd (cc)

module _ (user schema text : List ℕ) where
  abbrev hash : ℕ
  hash = hash_of (digest_of text)

  row-has : (row : ListRow) → has_hash row user schema hash ≡ true → HasText row user schema text
  row-has row is =
      let first = both-true (bytes_eq row.user user) (bytes_eq row.schema schema && list_any (λ listed. eqb listed hash) row.digests) is in
      let rest = both-true (bytes_eq row.schema schema) (list_any (λ listed. eqb listed hash) row.digests) first.1 in
      record { of_user = same-bytes row.user user first.0; in_schema = same-bytes row.schema schema rest.0; has = in-has hash row.digests rest.1 }

  has-row : (row : ListRow) → HasText row user schema text → has_hash row user schema hash ≡ true
  has-row row has = rw (own-bytes row.user user has.of_user, own-bytes row.schema schema has.in_schema) (has-in hash row.digests has.has)

  listed : (rows : List ListRow) → allows rows user schema hash ≡ true → IsListed rows user schema text
  listed rows is = (let a = Any-from_list_any (λ row. has_hash row user schema hash) rows is in (a.0, a.1, a.2, a.3, row-has a.1 a.4))

  is-listed : (rows : List ListRow) → IsListed rows user schema text → allows rows user schema hash ≡ true
  is-listed rows a = list_any-from_Any (λ row. has_hash row user schema hash) rows (a.0, a.1, a.2, a.3, has-row a.1 a.4)

  text-passes : (rows : List ListRow) (list : Whitelist) → IsListOf rows list → (not (holds list user schema hash) ≡ false) ↔ IsListed rows user schema text
  text-passes rows list same = (
    λ passes. listed rows (sym (same user schema hash) ∙ not-false (holds list user schema hash) passes),
    λ is. ap not (same user schema hash ∙ is-listed rows is),
  )

pub listed-alone : (rows : List ListRow) (list : Whitelist) (user schema : List ℕ) (command : Meaning) → IsListOf rows list → (is_refused (holds list user schema) command ≡ false) ↔ MaySend rows user schema command
listed-alone rows list user schema (Query text) same = text-passes user schema text rows list same
listed-alone rows list user schema (Prepare text) same = text-passes user schema text rows list same
listed-alone rows list user schema (FieldList rest) same = (λ passes. cc, λ none. absurd none)
listed-alone rows list user schema _ same = (λ passes. tt, λ any. refl)
