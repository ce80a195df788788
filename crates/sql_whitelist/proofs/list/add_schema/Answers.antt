use Rattle.std.proofs.Common.{◌≡◌, ◌||◌, ℕ, Bool, false, eqb, nat_eq, List, refl, ap, ◌∙◌}
use Rattle.std.specs.HashSet.{contains}
use Rattle.std.specs.List.{list_any}
use Rattle.std.specs.Option.{unwrap_or}
use Rattle.sql_whitelist.proofs.Listing.{put-back, schema-added}
use Rattle.sql_whitelist.proofs.list.add_schema.Goals as goal

pub returns : goal.returns
returns c = λ schema hash.
    let key : List ℕ = c.as_slice-schema.result.now in
    let more : Bool = list_any (λ listed. eqb listed hash) c.as_slice.result.now in
    let back = put-back c.args.schemas.now c.remove.new.self c.insert.new.self key schema c.in_ok-from_slice.field-0 c.add_hashes.new.digests c.remove.ensures.updates c.in_ok-insert.ensures.updates c.in_ok-from_slice.ensures.items in
    let none : contains nat_eq c.new.result hash ≡ false = rw (c.new.ensures.empty) refl in
    rw (← c.as_slice-schema.ensures, ← c.as_slice.ensures) (schema-added c.args.schemas.now c.insert.new.self key schema hash c.new.result c.add_hashes.new.digests more back none
    (c.in_ok-add_hashes.ensures hash ∙ ap (λ digests. contains nat_eq digests hash || more) (c.unwrap_or-digests.ensures ∙ ap (λ found. unwrap_or found c.new.result) c.remove.ensures.value)))
