-- No more is read or written on links that aren't marked: over one call, and over several.
use Rattle.std.specs.Prelude.{◌≡◌, Bool, true, false, ◌&&◌, if◌then◌else◌, IsSome, Option, None}
use Rattle.std.proofs.Common.{◌∙◌, refl, subst, sym}
use Rattle.mx_base.specs.declared.names.LinkId.{LinkId}
use Rattle.ready_loop.specs.Changes.{ChangesOnly, LeavesBe}
use Rattle.core_tables.specs.Tables.{IsSame, Tabled, no_tables, tables_of}
use Rattle.core_tables.specs.declared.tables.Tables.{Tables}
use Rattle.core_says.specs.Says.{IsQuieter}
use Rattle.core_says.proofs.Concerning.{quieter_on, same_quieter}
use Rattle.link_marks.specs.Marks.{Marked, is_known, is_marked}
use Rattle.marked_tables.specs.Goes.{AreKnown, GoesOn, changed_on, has_row, reads_on, sends_on}
use Rattle.marked_tables.specs.Marking.{MarksBut}
use Rattle.marked_tables.specs.declared.marked.MarkedTables.{MarkedTables}
use Rattle.marked_tables.proofs.Staying.{KeepsRows, same_rows}

and_on : (a b c d : Bool) → (a ≡ true → c ≡ true) → (a ≡ true → b ≡ true → d ≡ true) → (a && b) ≡ true → (c && d) ≡ true
and_on true b c d first next is = rw (first refl) (next refl is)
and_on false b c d first next is = absurd (let e = is in cc)

some_on : {A : Type 0} → (a b : Bool) (x y : Option A) → (a ≡ true → b ≡ true) → (a ≡ true → IsSome x → IsSome y)
    → IsSome (if a then x else None) → IsSome (if b then y else None)
some_on true b x y first next is = rw (first refl) (next refl is)
some_on false b x y first next is = absurd (let e = is in cc)

and_left : (a b : Bool) → (a && b) ≡ true → a ≡ true
and_left true b is = refl
and_left false b is = absurd (let e = is in cc)

some_left : {A : Type 0} → (a : Bool) (x : Option A) → IsSome (if a then x else None) → a ≡ true
some_left true x is = refl
some_left false x is = absurd (let e = is in cc)

-- a link that is open and isn't marked was so, and no more is read or written there
pub record IsSpared (old : MarkedTables) (after : Tabled) (link : LinkId) : Type 0 where
  pub unmarked : is_marked old.changed link ≡ false
  pub known : is_known old.changed link ≡ true
  pub quieter : IsQuieter (tables_of old.tables) after link

pub spared_go : (old : MarkedTables) (t : Tables) (m : Marked) (after : Tabled) → IsSame (tables_of t) after
    → ((link : LinkId) → is_known m link ≡ true → is_marked m link ≡ false → IsSpared old after link)
    → (AreKnown old → (link : LinkId) → has_row after link ≡ true → is_known m link ≡ true)
    → GoesOn old (record { tables = t; changed = m })
spared_go old t m after same spared stay = record {
  changes = record {
    others = λ link off.
        let quieter : is_known m link ≡ true → IsQuieter (tables_of old.tables) (tables_of t) link =
        λ known. quieter_on (tables_of old.tables) after (tables_of t) link (spared link known off).quieter
        (same_quieter after (tables_of t) link same.clients (same.numbers link) (same.links link)) in
        record {
          read = λ is. (
            (spared link (and_left _ _ is) off).unmarked,
            and_on _ _ _ _ (λ known. (spared link known off).known) (λ known now. (quieter known).read now) is,
          );
          written = λ is. (
            (spared link (some_left _ _ is) off).unmarked,
            some_on _ _ _ _ (λ known. (spared link known off).known) (λ known now. (quieter known).written now) is,
          );
        };
  };
  known = λ are link is. stay are link (sym ((same_rows after (tables_of t) same).rows link) ∙ is);
}

-- where marks were set alone
pub goes_by : (Is : LinkId → Type 0) (old : MarkedTables) (t : Tables) (m : Marked) (after : Tabled) → MarksBut Is old.changed m
    → IsSame (tables_of t) after → ((link : LinkId) → Is link → IsQuieter (tables_of old.tables) after link)
    → KeepsRows (tables_of old.tables) after → GoesOn old (record { tables = t; changed = m })
goes_by Is old t m after marks same quiet keeps = spared_go old t m after same
    (λ link known off.
    let was : is_known old.changed link ≡ true = sym (marks.more.known link) ∙ known in
    record { unmarked = marks.more.kept link off; known = was; quieter = quiet link (marks.others link was off) })
    (λ are link is. marks.more.known link ∙ are link (sym (keeps.rows link) ∙ is))

-- Over several calls: both of these in `using(..)` of the tactic; the invariant of a loop is that it goes on from what was there first.

still_be : (m : MarkedTables) (link : LinkId) → changed_on m link ≡ false → LeavesBe changed_on reads_on sends_on m m link
still_be m link off = record { read = λ is. (off, is); written = λ is. (off, is) }

pub still_goes : (m : MarkedTables) → GoesOn m m
still_goes m = record { changes = record { others = λ link off. still_be m link off }; known = λ are. are }

pub goes_along : (a b c : MarkedTables) → GoesOn a b → GoesOn b c → GoesOn a c
goes_along a b c first next = record {
  changes = record {
    others = λ link off.
        let later : LeavesBe changed_on reads_on sends_on b c link = next.changes.others link off in
        record {
          read = λ is. let now = later.read is in (first.changes.others link now.0).read now.1;
          written = λ is. let now = later.written is in (first.changes.others link now.0).written now.1;
        };
  };
  known = λ are. next.known (first.known are);
}

-- of whatever has marked tables, as the loop has it
pub goes_only : {M : Type 0} → (marked : M → MarkedTables) (old new : M) → GoesOn (marked old) (marked new)
    → ChangesOnly (λ (m : M). changed_on (marked m)) (λ (m : M). reads_on (marked m)) (λ (m : M). sends_on (marked m)) old new
goes_only marked old new goes = record {
  others = λ link off.
      let on : LeavesBe changed_on reads_on sends_on (marked old) (marked new) link = goes.changes.others link off in
      record { read = λ is. on.read is; written = λ is. on.written is };
}

-- Links that have a row are known: at first, and where a mark is taken off.

pub first_known : (m : MarkedTables) → IsSame (tables_of m.tables) no_tables → AreKnown m
first_known m none = λ link is.
    let bad : true ≡ false = sym is ∙ (same_rows no_tables (tables_of m.tables) none).rows link in
    absurd cc

pub named_known : (old new : MarkedTables) → new.tables ≡ old.tables
    → ((link : LinkId) → is_known new.changed link ≡ is_known old.changed link) → AreKnown old → AreKnown new
named_known old new same known are = λ link is.
    known link ∙ are link (subst (λ (t : Tables). has_row (tables_of t) link ≡ true) same is)
