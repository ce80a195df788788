-- A router goes on with bytes on a link to a server.
use Rattle.std.specs.Prelude.{◌≡◌, ◌||◌, ℕ, Bool, true, false, if◌then◌else◌, is_some, nat_eq, All, List, [], Option, Some, None}
use Rattle.std.proofs.Common.{refl, sym, ap, ◌∙◌}
use Rattle.mx_wire.specs.Log.{Log, is_link, is_open, link_of, open_step}
use Rattle.mx_wire.specs.declared.entry.Entry.{Entry}
use Rattle.mx_wire.specs.declared.entry.Entry.TheVariants.{Got}
use Rattle.private_model.specs.Names.{ClientNo, LinkId}
use Rattle.core_tables.specs.Tables.{Tabled}
use Rattle.core_laws.specs.entry.Cores.{with_entry}
use Rattle.core_laws.specs.clients.Keeps.{KeepsRows}
use Rattle.router_laws.specs.decisions.Routers.{AreOpenJust}

abbrev pub Opens : Type 0
Opens =
    (log : Log) (e : Entry) (l : LinkId) → is_open l (with_entry log e) ≡ (if is_link l (link_of e) then open_step (is_open l log) e else is_open l log)

pub read_opens : Opens → (log : Log) (l : LinkId) (bytes : List ℕ) (t now : Tabled) → KeepsRows t now → AreOpenJust log t
    → AreOpenJust (with_entry log (Got l bytes)) now
read_opens opens log l bytes t now keeps just k =
    opens log (Got l bytes) k ∙ by (is_link k (link_of (Got l bytes))) ∙ just k
    ∙ (λ i. sym (keeps.links k) i || is_some (sym (keeps.numbers k) i)) where
      by : (b : Bool) → (if b then open_step (is_open k log) (Got l bytes) else is_open k log) ≡ is_open k log
      by true = refl
      by false = refl
