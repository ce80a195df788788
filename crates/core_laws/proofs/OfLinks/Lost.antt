-- A link is lost: the entry is counted, and a link that is lost isn't done.
use Rattle.std.specs.Prelude.{◌≡◌, Bool, true, fold, if◌then◌else◌}
use Rattle.std.proofs.Common.{ap, sym, subst}
use Rattle.mx_wire.specs.declared.entry.Entry.{Entry}
use Rattle.client_session.specs.Setups.{Setup as Service}
use Rattle.private_model.specs.Names.{LinkId}
use Rattle.private_model.specs.Story.{Gone}
use Rattle.log_story.specs.Clients.{client_leaves}
use Rattle.log_story.specs.Servers.{freed_if_done}
use Rattle.log_story.specs.Tale.{Tale, counted, is_to_server, tell}
use Rattle.log_story.specs.Telling.{is_lost_or_left, told}
use Rattle.core_tables.specs.Parting.{freed_in}
use Rattle.core_tables.specs.Tables.{Tabled}
use Rattle.core_stands.specs.Grounds.{Ground, on}
use Rattle.core_stands.specs.Stands.{Stands}
use Rattle.core_laws.specs.links.Parting.{first_freed}

abbrev pub Frees : Service → Type 0
Frees service = (g : Ground) (t : Tabled) (l : LinkId) → Stands service g t → is_to_server g.tale l ≡ true
    → Stands service (on g (freed_if_done g.setup g.plan g.tale l)) (freed_in l t)

pub lost_as : (tale : Tale) (l : LinkId) → is_to_server tale l ≡ true → is_lost_or_left l tale ≡ tell (Gone l) tale
lost_as tale l there = ap (λ (b : Bool). if b then tell (Gone l) tale else fold (client_leaves l) tale tale.clients) there

pub lost_freed : (service : Service) → Frees service → (g : Ground) (t : Tabled) (l : LinkId) (e : Entry) → is_to_server g.tale l ≡ true
    → told g.setup g.plan g.tale e ≡ tell (Gone l) g.tale → Stands service (on g (counted (tell (Gone l) g.tale))) t
    → Stands service (on g (first_freed g e l)) (freed_in l t)
lost_freed service frees g t l e there same stands =
    subst (λ (tale : Tale). Stands service (on g (freed_if_done g.setup g.plan (counted tale) l)) (freed_in l t)) (sym same)
    (frees (on g (counted (tell (Gone l) g.tale))) t l stands there)
