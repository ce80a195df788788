use Rattle.std.proofs.Common.{◌≡◌, ◌||◌, ◌&&◌, ℕ, Bool, false, eqb, bytes_eq, List, refl, ap, ◌∙◌}
use Rattle.std.specs.List.{list_any}
use Rattle.std.specs.Option.{unwrap_or}
use Rattle.sql_whitelist.specs.Held.{in_schemas}
use Rattle.sql_whitelist.proofs.Listing.{put-back, user-added}
use Rattle.sql_whitelist.proofs.list.add_row.Goals as goal

pub returns : goal.returns
returns c = λ user schema hash.
    let key : List ℕ = c.as_slice-user.result.now in
    let more : Bool = bytes_eq c.args.row.now.schema schema && list_any (λ listed. eqb listed hash) c.args.row.now.digests in
    let back = put-back c.args.users.now c.remove.new.self c.insert.new.self key user c.in_ok-from_slice.field-0 c.add_schema.new.schemas c.remove.ensures.updates c.in_ok-insert.ensures.updates c.in_ok-from_slice.ensures.items in
    let none : in_schemas c.new.result schema hash ≡ false = rw (c.new.ensures.empty) refl in
    rw (← c.as_slice-user.ensures) (user-added c.args.users.now c.insert.new.self key user schema hash c.new.result c.add_schema.new.schemas more back none
    (c.in_ok-add_schema.ensures schema hash ∙ ap (λ schemas. in_schemas schemas schema hash || more) (c.unwrap_or-schemas.ensures ∙ ap (λ found. unwrap_or found c.new.result) c.remove.ensures.value)))
