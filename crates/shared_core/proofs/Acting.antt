-- What the router asks for leaves it standing for what it stood for.
use Rattle.std.specs.Prelude.{◌≡◌, Bool, true, false, is_some, if◌then◌else◌, Option, Some, None, IsSome}
use Rattle.std.proofs.Common.{refl, sym, ap, ◌∙◌, subst}
use Rattle.std.proofs.lemmas.Bool.{true≢false}
use Rattle.mx_base.specs.declared.names.ClientNo.{ClientNo}
use Rattle.mx_base.specs.declared.names.LinkId.{LinkId}
use Rattle.mx_wire.specs.Log.{Log}
use Rattle.ready_loop.specs.declared.machines.Act.{Act}
use Rattle.ready_loop.specs.declared.machines.Act.TheVariants as act
use Rattle.core_policy.specs.declared.asks.Asked.{Asked}
use Rattle.core_service.specs.declared.service.Service.{Service}
use Rattle.core_tables.specs.Arrivals.{forgotten}
use Rattle.core_tables.specs.Parting.{lost_in, unlinked}
use Rattle.core_tables.specs.Tables.{IsSame, Tabled}
use Rattle.marked_tables.proofs.Going.{goes_along, still_goes}
use Rattle.marked_tables.specs.Goes.{GoesOn}
use Rattle.marked_tables.specs.declared.marked.MarkedTables.{MarkedTables}
use Rattle.shared_core.specs.Parts.{ForgetsBy}
use Rattle.shared_core.specs.Says.{IsAskedFor}
use Rattle.shared_core.specs.Stands.{ActsBy, ActsSo, Chooses, Forgets, IsClosed, PartsFor, Shown, StandsBy, StandsStill, work_of}
use Rattle.shared_core.specs.Stands.{parted, shown, tables, tables_in, without_client, without_link}
use Rattle.shared_core.specs.declared.router.Router.{Router}
use Rattle.shared_core.proofs.Machining.{acts_from, acts_shown, parted_stands, stands_as}
use Rattle.shared_core.proofs.Tabling.{same_by, tables_are}

-- Nothing is asked for.

pub still_acts : (r : Router) → IsClosed (shown r) → ActsSo r r None
still_acts r closed = record { stands = λ service log was. was; closed = closed }

-- It asked for nothing, and does not yet.
pub record AsksNone (old new : Router) : Type 0 where
  pub stands : StandsStill (λ service log. PartsFor service log (shown old)) (shown new)
  pub goes : GoesOn old.marked new.marked
  pub asked : new.asked ≡ None

pub asks_none : (r : Router) → IsClosed (shown r) → r.asked ≡ None → AsksNone r r
asks_none r closed asked = record { stands = still_acts r closed; goes = still_goes r.marked; asked = asked }

-- then this is asked for
pub asks_then : (old mid new : Router) (result : Option Act) → AsksNone old mid → ActsSo mid new result → ActsSo old new result
asks_then old mid new result none acts =
    acts_from (λ service log. PartsFor service log (shown old)) (λ service log. PartsFor service log (shown mid)) (shown new) result
    none.stands.stands acts

pub asks_more : (old mid new : Router) (result : Option Act) → AsksNone old mid → ActsSo mid new result → GoesOn mid.marked new.marked
    → IsAskedFor new.asked result → is_some result ≡ false → AsksNone old new
asks_more old mid new None none acts goes asked off = record {
  stands = record { stands = λ service log was. acts.stands service log (none.stands.stands service log was); closed = acts.closed };
  goes = goes_along old.marked mid.marked new.marked none.goes goes;
  asked = asked;
}
asks_more old mid new (Some result) none acts goes asked off = absurd (true≢false off)

-- An open is asked for.
pub opens_acts : (old : Router) (asked : Asked) → IsClosed (shown old)
    → ActsSo old (record old { asked = Some asked }) (Some (act.Open asked.server asked.address))
opens_acts old asked closed = record { stands = λ service log was. was; closed = closed }

-- What was closed is forgotten.

pub forgets_both : (old mid new : Router) → ForgetsBy (without_client old.leaving) old mid → mid.leaving ≡ None → mid.closing ≡ old.closing
    → ForgetsBy (without_link mid.closing) mid new → new.leaving ≡ mid.leaving → new.closing ≡ None → Forgets old new
forgets_both old mid new first left closing next left_then closed = record {
  tables = same_by (tables new) (parted (shown old))
      (tables_are (tables new) (without_link mid.closing (tables mid)) next.tables
      ∙ ap (λ l. without_link l (tables mid)) closing
      ∙ ap (λ (t : Tabled). without_link old.closing t) (tables_are (tables mid) (without_client old.leaving (tables old)) first.tables));
  closed = record { client = left_then ∙ left; link = closed };
  roomy = next.roomy ∙ first.roomy;
  came = next.came ∙ first.came;
  texts = next.texts ∙ first.texts;
  work = next.work ∙ first.work;
}

pub forgets_client : (r now : Router) (c : ClientNo) → Some c ≡ r.leaving → IsSame (tables now) (forgotten c (tables r)) → GoesOn r.marked now.marked
    → now.roomy ≡ r.roomy → now.came ≡ r.came → now.texts ≡ r.texts → work_of now ≡ work_of r → ForgetsBy (without_client r.leaving) r now
forgets_client r now c leaving same goes roomy came texts work =
    subst (λ (l : Option ClientNo). ForgetsBy (without_client l) r now) leaving
    (record { tables = same; goes = goes; roomy = roomy; came = came; texts = texts; work = work })

pub forgets_link : (r lost now : Router) (l : LinkId) → Some l ≡ r.closing → IsSame (tables lost) (lost_in l (tables r))
    → IsSame (tables now) (unlinked l (tables lost)) → GoesOn r.marked lost.marked → GoesOn lost.marked now.marked → now.roomy ≡ r.roomy
    → now.came ≡ r.came → now.texts ≡ r.texts → work_of now ≡ work_of r → ForgetsBy (without_link r.closing) r now
forgets_link r lost now l closing first next goes goes_then roomy came texts work =
    subst (λ (found : Option LinkId). ForgetsBy (without_link found) r now) closing
    (record {
      tables = same_by (tables now) (unlinked l (lost_in l (tables r)))
          (tables_are (tables now) (unlinked l (tables lost)) next ∙ ap (unlinked l) (tables_are (tables lost) (lost_in l (tables r)) first));
      goes = goes_along r.marked lost.marked now.marked goes goes_then;
      roomy = roomy;
      came = came;
      texts = texts;
      work = work;
    })

-- or none was

pub forgets_no_client : (r : Router) → None ≡ r.leaving → ForgetsBy (without_client r.leaving) r (record r { leaving = None })
forgets_no_client r leaving =
    subst (λ (l : Option ClientNo). ForgetsBy (without_client l) r (record r { leaving = None })) leaving
    (record { tables = same_by (tables r) (tables r) refl; goes = still_goes r.marked; roomy = refl; came = refl; texts = refl; work = refl })

pub forgets_no_link : (r : Router) → None ≡ r.closing → ForgetsBy (without_link r.closing) r (record r { closing = None })
forgets_no_link r closing =
    subst (λ (l : Option LinkId). ForgetsBy (without_link l) r (record r { closing = None })) closing
    (record { tables = same_by (tables r) (tables r) refl; goes = still_goes r.marked; roomy = refl; came = refl; texts = refl; work = refl })

-- What is asked for behind that.

pub forgotten_stands : (old mid : Router) → Forgets old mid → (service : Service) (log : Log) → PartsFor service log (shown old)
    → PartsFor service log (shown mid)
forgotten_stands old mid forgets service log was =
    parted_stands service log (shown mid) forgets.closed
    (stands_as service log (tables mid) (shown old) (shown mid) forgets.roomy forgets.came forgets.texts forgets.work
    (subst (λ (t : Tabled). StandsBy service log t (shown old)) (sym (tables_are (tables mid) (parted (shown old)) forgets.tables)) was))

pub next_acts : (old mid acted new : Router) (result : Option Act) → Forgets old mid → ActsSo mid acted result → shown new ≡ shown acted
    → ActsSo old new result
next_acts old mid acted new result forgets acts same =
    acts_shown (λ service log. PartsFor service log (shown old)) (shown acted) (shown new) result same
    (acts_from (λ service log. PartsFor service log (shown old)) (λ service log. PartsFor service log (shown mid)) (shown acted) result
    (forgotten_stands old mid forgets) acts)

pub next_goes : (old mid acted new : Router) → GoesOn old.marked mid.marked → GoesOn mid.marked acted.marked → shown new ≡ shown acted
    → GoesOn old.marked new.marked
next_goes old mid acted new first next same =
    goes_along old.marked mid.marked new.marked first
    (subst (λ (m : MarkedTables). GoesOn mid.marked m) (sym (ap (λ (s : Shown). s.marked) same)) next)

-- Behind it only the moment is known at which it wants to be woken.

pub timed_acts : (old acted new : Router) (result : Option Act) → ActsSo old acted result → shown new ≡ shown acted → ActsSo old new result
timed_acts old acted new result acts same =
    acts_shown (λ service log. PartsFor service log (shown old)) (shown acted) (shown new) result same acts

pub timed_goes : (old acted new : Router) → GoesOn old.marked acted.marked → shown new ≡ shown acted → GoesOn old.marked new.marked
timed_goes old acted new goes same = subst (λ (m : MarkedTables). GoesOn old.marked m) (sym (ap (λ (s : Shown). s.marked) same)) goes

pub asked_same : (result : Option Act) (a b : Option Asked) → b ≡ a → IsAskedFor a result → IsAskedFor b result
asked_same result a b same asked = subst (λ (x : Option Asked). IsAskedFor x result) (sym same) asked
