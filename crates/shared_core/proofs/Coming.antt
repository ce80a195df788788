-- Who came, behind an entry too.
use Rattle.std.specs.Prelude.{◌≡◌, ◌||◌, ◌++◌, ◌+◌, Bool, false, fold, length, min, true, ℕ, List, [], ◌∷◌}
use Rattle.std.proofs.Common.{ap, append-nil, arith, refl, subst, sym, ◌∙◌}
use Rattle.std.proofs.lemmas.List.Elements.{filter_map-append}
use Rattle.std.proofs.lemmas.List.Sums.{fold-append}
use Rattle.mx_base.specs.declared.names.LinkId.{LinkId}
use Rattle.mx_base.specs.declared.names.Port.{Port}
use Rattle.mx_base.specs.declared.names.Port.TheVariants.{Admin, Traffic}
use Rattle.mx_wire.specs.Log.{Log, accepted_link, accepted_links, moment_of, moment_step}
use Rattle.mx_wire.specs.declared.entry.Entry.{Entry}
use Rattle.mx_wire.specs.declared.entry.Entry.TheVariants.{Accepted, Woke}
use Rattle.core_promises.specs.InForce.{has_administrator, is_administrators}
use Rattle.router_laws.proofs.OfDecisions.Forcing.{came_stays}
use Rattle.shared_core.specs.Came.{HaveCome, is_administrators_port}
use Rattle.shared_core.specs.declared.came.Came.{Came}

-- nobody comes by these, and the moment stays
abbrev pub BringsNone : Log → Type 0
BringsNone more = (accepted_links more ≡ []) × ((moment : ℕ) → fold moment_step moment more ≡ moment)

pub clock_on : (log more : Log) → ((moment : ℕ) → fold moment_step moment more ≡ moment) → moment_of (log ++ more) ≡ moment_of log
clock_on log more still = fold-append moment_step 0 log more ∙ still (moment_of log)

none_more : (log more : Log) → accepted_links more ≡ [] → length (accepted_links (log ++ more)) ≡ length (accepted_links log)
none_more log more none =
    ap (λ (xs : List LinkId). length xs)
    (filter_map-append accepted_link log more ∙ ap (λ (xs : List LinkId). accepted_links log ++ xs) none ∙ append-nil (accepted_links log))

pub come_on : (log more : Log) (came : Came) → BringsNone more → HaveCome log came → HaveCome (log ++ more) came
come_on log more came none have = record {
  clients = have.clients ∙ sym (none_more log more none.0);
  administrator = λ is. came_stays log more (have.administrator is);
  clock = have.clock ∙ sym (clock_on log more none.1);
}

-- the loop wakes
pub come_awake : (log : Log) (came : Came) (until_ms now_ms : ℕ) → HaveCome log came
    → HaveCome (log ++ Woke until_ms now_ms ∷ []) (record came { clock = now_ms })
come_awake log came until_ms now_ms have = record {
  clients = have.clients ∙ sym (none_more log (Woke until_ms now_ms ∷ []) refl);
  administrator = λ is. came_stays log (Woke until_ms now_ms ∷ []) (have.administrator is);
  clock = sym (fold-append moment_step 0 log (Woke until_ms now_ms ∷ []));
}

pub come_as : (log : Log) (old new : Came) → new ≡ old → HaveCome log old → HaveCome log new
come_as log old new same = subst (HaveCome log) (sym same)

-- one does
came-last : (log : Log) (link : LinkId) (salt : List ℕ) → has_administrator (log ++ Accepted Admin link salt ∷ []) ≡ true
came-last [] link salt = refl
came-last (e ∷ log) link salt = by (is_administrators e) (came-last log link salt) where
  by : (b : Bool) → has_administrator (log ++ Accepted Admin link salt ∷ []) ≡ true → (b || has_administrator (log ++ Accepted Admin link salt ∷ [])) ≡ true
  by true later = refl
  by false later = later

pub administrator_then : (log : Log) (came : Came) (port : Port) (link : LinkId) (salt : List ℕ) → HaveCome log came
    → (came.administrator || is_administrators_port port) ≡ true → has_administrator (log ++ Accepted port link salt ∷ []) ≡ true
administrator_then log came Admin link salt have is = came-last log link salt
administrator_then log came Traffic link salt have is = by came.administrator refl is where
  by : (b : Bool) → came.administrator ≡ b → (b || false) ≡ true → has_administrator (log ++ Accepted Traffic link salt ∷ []) ≡ true
  by true at some = came_stays log (Accepted Traffic link salt ∷ []) (have.administrator at)
  by false at some = absurd (let no : false ≡ true = some in cc)
