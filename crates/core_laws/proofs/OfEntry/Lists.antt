-- Facts of clients in a tale, and of what a log with one more entry has written.
use Rattle.std.specs.Prelude.{◌≡◌, ◌<◌, All, length, [], ◌∷◌, ◌++◌}
use Rattle.std.specs.List.{flat_map}
use Rattle.std.proofs.Common.{ap, ◌∙◌, subst, arith}
use Rattle.std.proofs.lemmas.Grind.{flat_map-append}
use Rattle.std.proofs.lemmas.List.Elements.{All-filter, filter-append}
use Rattle.mx_base.specs.declared.names.LinkId.{LinkId}
use Rattle.mx_wire.specs.Log.{Log, is_link, link_of, of_link, written_of, wrote_bytes}
use Rattle.mx_wire.specs.declared.entry.Entry.{Entry}
use Rattle.private_model.specs.Story.{is_client}
use Rattle.log_story.specs.Tale.{Client, Tale}
use Rattle.step_laws.specs.Seats.{IsSeated}

-- what holds of each client of a tale holds of one that is seated there
pub seated_of : (P : Client → Type 0) (tale : Tale) (client : Client) → IsSeated tale client → All P tale.clients → P client
seated_of P tale client seated all =
    let one : All P (client ∷ []) =
    subst (All P) seated (All-filter (λ (other : Client). is_client other.number client.number) P tale.clients all) in
    one 0 client (let some : 0 < length (client ∷ []) = omega arith in some)

-- with one more entry
pub written_more : (l : LinkId) (log : Log) (e : Entry) → written_of l (log ++ e ∷ []) ≡ written_of l log ++ written_of l (e ∷ [])
written_more l log e =
    ap (flat_map wrote_bytes) (filter-append (λ (x : Entry). is_link l (link_of x)) log (e ∷ []))
    ∙ flat_map-append wrote_bytes (of_link l log) (of_link l (e ∷ []))
