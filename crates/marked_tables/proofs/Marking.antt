-- Marks that are set one after another.
use Rattle.std.specs.Prelude.{◌≡◌, ◌&&◌, ◌||◌, Bool, true, false, Option, Some, None}
use Rattle.std.proofs.Common.{◌∙◌, refl, sym, subst}
use Rattle.mx_base.specs.declared.names.ClientNo.{ClientNo}
use Rattle.mx_base.specs.declared.names.LinkId.{LinkId}
use Rattle.link_marks.specs.Marks.{Marked, is_known, is_link, is_marked}
use Rattle.core_tables.specs.Tables.{Tabled}
use Rattle.core_tables.specs.declared.client.Client.{Client}
use Rattle.core_says.specs.Marking.{IsClearOf, IsMarkedAt, IsMarkedFor}
use Rattle.core_says.specs.Says.{is_at}
use Rattle.core_says.proofs.Links.{marked_some, more_none, more_on}
use Rattle.marked_tables.specs.Goes.{has_row}
use Rattle.marked_tables.specs.Marking.{IsClearAt, IsClearFor, IsOther, IsUnasked, IsUncarried, Leaves, MarksBut, carrier_at, next_at, stage_at}

pub marks_one : (l : LinkId) (old new : Marked) → ((other : LinkId) → is_known new other ≡ is_known old other)
    → ((other : LinkId) → is_marked new other ≡ ((is_link l other && is_known old l) || is_marked old other)) → MarksBut (IsOther l) old new
marks_one l old new known marked =
    let one : IsMarkedAt (Some l) old new = marked_some l old new known marked in
    record { more = one.more; others = λ link there off. one.away link there off }

pub marks_at : (at : Option LinkId) (old new : Marked) → IsMarkedAt at old new → MarksBut (λ link. is_at link at ≡ false) old new
marks_at at old new one = record { more = one.more; others = λ link there off. one.away link there off }

-- nothing has to do with nobody
pub marks_none : (t : Tabled) (c : ClientNo) (old : Marked) → t.clients c ≡ None → MarksBut (IsClearAt t c) old old
marks_none t c old none = record {
  more = more_none old;
  others = λ link known off. subst (λ (row : Option Client). IsClearOf link row) (sym none) tt;
}

pub marks_row : (t : Tabled) (c : ClientNo) (row : Client) (old new : Marked) → t.clients c ≡ Some row → IsMarkedFor row old new
    → MarksBut (IsClearAt t c) old new
marks_row t c row old new there marked = record {
  more = marked.more;
  others = λ link known off. subst (λ (at : Option Client). IsClearOf link at) (sym there) (marked.clear link known off);
}

pub marks_nobody : (t : Tabled) (old : Marked) → MarksBut (IsClearFor t None) old old
marks_nobody t old = record { more = more_none old; others = λ link known off. tt }

pub marks_both : (One Other : LinkId → Type 0) (a b c : Marked) → MarksBut One a b → MarksBut Other b c → MarksBut (λ link. One link × Other link) a c
marks_both One Other a b c first next = record {
  more = more_on a b c first.more next.more;
  others = λ link known off.
      (first.others link known (next.more.kept link off), next.others link (first.more.known link ∙ known) off);
}

marks_so : (One Other : LinkId → Type 0) (a b : Marked) → MarksBut One a b → ((link : LinkId) → One link → Other link) → MarksBut Other a b
marks_so One Other a b marks so = record { more = marks.more; others = λ link known off. so link (marks.others link known off) }

pub marks_asked : (t : Tabled) (l : LinkId) (a b c d : Marked) → MarksBut (IsOther l) a b → MarksBut (IsClearFor t (next_at (t.links l))) b c
    → MarksBut (IsClearFor t (stage_at (t.links l))) c d → MarksBut (IsUnasked t l) a d
marks_asked t l a b c d one next stage =
    marks_so _ _ a d (marks_both _ _ a c d (marks_both _ _ a b c one next) stage)
    (λ link so. record { other = so.0.0; next = so.0.1; stage = so.1 })

pub marks_carried : (t : Tabled) (l : LinkId) (a b c : Marked) → MarksBut (IsOther l) a b → MarksBut (IsClearFor t (carrier_at (t.links l))) b c
    → MarksBut (IsUncarried t l) a c
marks_carried t l a b c one carrier =
    marks_so _ _ a c (marks_both _ _ a b c one carrier) (λ link so. record { other = so.0; carrier = so.1 })

or_known : (a b c : Bool) → a ≡ true → b ≡ true → ((a && b) || c) ≡ true
or_known true true c one two = refl
or_known true false c one two = absurd (let e = two in cc)
or_known false b c one two = absurd (let e = one in cc)

or_other : (a b c : Bool) → a ≡ false → ((a && b) || c) ≡ c
or_other true b c off = absurd (let e = off in cc)
or_other false b c off = refl

pub leaves_one : (t : Tabled) (l : LinkId) (old mid new : Marked) → has_row t l ≡ false → is_link l l ≡ true
    → ((other : LinkId) → is_link l other ≡ false → is_known mid other ≡ is_known old other)
    → ((other : LinkId) → is_link l other ≡ false → is_marked mid other ≡ is_marked old other)
    → ((other : LinkId) → is_known new other ≡ is_known mid other)
    → ((other : LinkId) → is_marked new other ≡ ((is_link l other && is_known mid l) || is_marked mid other))
    → Leaves t l old new
leaves_one t l old mid new none itself known marked then_known then_marked = record {
  gone = λ is. then_marked l ∙ or_known _ _ _ itself (sym (then_known l) ∙ is);
  stays = λ row. absurd (let e : true ≡ false = sym row ∙ none in cc);
  known = λ link other. then_known link ∙ known link other;
  marked = λ link other. then_marked link ∙ (or_other _ _ _ other ∙ marked link other);
}

-- it has a row still
pub stays_one : (t : Tabled) (l : LinkId) (old new : Marked) → is_link l l ≡ true → ((other : LinkId) → is_known new other ≡ is_known old other)
    → ((other : LinkId) → is_marked new other ≡ ((is_link l other && is_known old l) || is_marked old other)) → Leaves t l old new
stays_one t l old new itself known marked = record {
  gone = λ is. marked l ∙ or_known _ _ _ itself (sym (known l) ∙ is);
  stays = λ row. known l;
  known = λ link other. known link;
  marked = λ link other. marked link ∙ or_other _ _ _ other;
}
