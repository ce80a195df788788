-- Numbers of the texts that clients need.
use Rattle.std.specs.Prelude.{◌≡◌, ℕ, ◌||◌, Bool, true, false, map, nat_eq, if◌then◌else◌, List, [], ◌∷◌, Option, Some}
use Rattle.std.specs.Borrow.{Bor}
use Rattle.std.specs.List.{list_any}
use Rattle.std.specs.Map.{lookup, values_of}
use Rattle.std.specs.Map.Iter.{deref}
use Rattle.std.proofs.Common.{refl, sym, ap, ◌∙◌}
use Rattle.std.proofs.lemmas.Bool.{eq-eqb}
use Rattle.std.proofs.lemmas.Option.{none-some, same_Some}
use Rattle.mx_base.specs.declared.names.ClientNo.{ClientNo}
use Rattle.client_desk.specs.declared.work.Work.{Work}
use Rattle.stmt_map.specs.Client.{statement_at}
use Rattle.stmt_map.specs.declared.statement.Statement.{Statement}
use Rattle.core_tables.specs.Tables.{Tabled}
use Rattle.core_tables.specs.declared.client.Client.{Client}
use Rattle.core_texts.specs.Texts.{AreLess, key_at, noted_at}
use Rattle.core_texts.specs.declared.texts.Texts.{Texts}
use Rattle.router_laws.specs.decisions.Held.{KeepsTexts}
use Rattle.shared_core.specs.Needed.{have_prepared, needs, works_on}
use Rattle.shared_core.specs.declared.router.Router.{Router}

pub or_true : (a : Bool) → (a || true) ≡ true
or_true true = refl
or_true false = refl

pub or_left : (a b d : Bool) → a ≡ (b || d) → b ≡ true → a ≡ true
or_left a b d is there = is ∙ ap (λ (x : Bool). x || d) there

pub or_either : (a b d : Bool) → ((a || b) || d) ≡ (a || (b || d))
or_either true b d = refl
or_either false b d = refl

-- what was shown
pub any_shown : {X : Type 0} (test : X → Bool) (xs : List (Bor X)) (values : List X) → map deref xs ≡ values
    → list_any (λ (x : Bor X). test x.now) xs ≡ list_any test values
any_shown {X} test xs values all = each xs ∙ ap (list_any test) all where
  each : (ys : List (Bor X)) → list_any (λ (x : Bor X). test x.now) ys ≡ list_any test (map deref ys)
  each [] = refl
  each (y ∷ ys) = ap (λ (b : Bool). test y.now || b) (each ys)

-- a value that is found is among the values
pub value_among : {X : Type 0} (at : ℕ → Bool) (test : X → Bool) (es : List (ℕ × X)) (x : X) → lookup at es ≡ Some x → test x ≡ true
    → list_any test (values_of es) ≡ true
value_among at test [] x is passes = absurd (none-some x is)
value_among {X} at test (e ∷ es) x is passes = by (at e.0) is (λ rest. value_among at test es x rest passes) where
  by : (b : Bool) → (if b then Some e.1 else lookup at es) ≡ Some x → (lookup at es ≡ Some x → list_any test (values_of es) ≡ true)
      → (test e.1 || list_any test (values_of es)) ≡ true
  by true same later = ap (λ (b : Bool). b || list_any test (values_of es)) (ap test (same_Some e.1 x same) ∙ passes)
  by false rest later = ap (λ (b : Bool). test e.1 || b) (later rest) ∙ or_true (test e.1)

pub work_needed : (row : Client) (work : Work) → row.desk.work ≡ Some work → needs row work.key ≡ true
work_needed row work in_work =
    ap (λ (b : Bool). b || have_prepared row.desk.seat.statements work.key)
    (ap (λ (w : Option Work). works_on w work.key) in_work ∙ eq-eqb work.key work.key refl)

pub statement_needed : (row : Client) (number : ℕ) (s : Statement) → statement_at row.desk.seat.statements number ≡ Some s → needs row s.prepared.key ≡ true
statement_needed row number s at =
    ap (λ (b : Bool). works_on row.desk.work s.prepared.key || b)
    (value_among (nat_eq number) (λ (x : Statement). nat_eq x.prepared.key s.prepared.key) row.desk.seat.statements.statements.entries s at
    (eq-eqb s.prepared.key s.prepared.key refl))
    ∙ or_true (works_on row.desk.work s.prepared.key)

-- Where what is needed stays, no row's text is forgotten.
pub keeps_texts : (old new : Texts) (t : Tabled) (has : ℕ → Bool)
    → ((client : ClientNo) (row : Client) (number : ℕ) → t.clients client ≡ Some row → needs row number ≡ true → has number ≡ true)
    → ((number : ℕ) → has number ≡ true → key_at new number ≡ key_at old number) → KeepsTexts old new t
keeps_texts old new t has all kept = record {
  statements = λ c row number s there at. kept s.prepared.key (all c row s.prepared.key there (statement_needed row number s at));
  works = λ c row work there in_work. kept work.key (all c row work.key there (work_needed row work in_work));
}

-- none is forgotten
pub keeps_itself : (texts : Texts) (t : Tabled) → KeepsTexts texts texts t
keeps_itself texts t = record { statements = λ c row number s there at. refl; works = λ c row work there in_work. refl }

-- As an event begins they are those that are left.

pub begun_less : (old mid new : Texts) → AreLess old mid → new.last ≡ mid.last → ((c : ClientNo) → noted_at new c ≡ noted_at mid c)
    → ((n : ℕ) → key_at new n ≡ key_at mid n) → AreLess old new
begun_less old mid new less last noted same = record {
  last = last ∙ less.last;
  noted = λ c one at. less.noted c one (sym (noted c) ∙ at);
  there = λ n key at. less.there n key (sym (same n) ∙ at);
}

pub begun_keeps : (old mid new : Texts) (t : Tabled) → KeepsTexts old mid t → ((n : ℕ) → key_at new n ≡ key_at mid n) → KeepsTexts old new t
begun_keeps old mid new t keeps same = record {
  statements = λ c row number statement there at. same statement.prepared.key ∙ keeps.statements c row number statement there at;
  works = λ c row work there at. same work.key ∙ keeps.works c row work there at;
}

pub begun_same : (old mid : Router) (texts : Texts) → mid ≡ record old { texts = mid.texts } → record mid { texts = texts } ≡ record old { texts = texts }
begun_same old mid texts same = ap (λ (r : Router). record r { texts = texts }) same
