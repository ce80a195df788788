-- A link that was closed isn't opened again: so one that is open was lost only as its log says.
use Rattle.std.specs.Prelude.{◌≡◌, Bool, true, false, ◌||◌, fold, if◌then◌else◌, [], ◌∷◌, ◌++◌}
use Rattle.std.specs.List.{list_any}
use Rattle.std.proofs.Common.{refl, sym, ap, ◌∙◌, subst, append_assoc, append-nil}
use Rattle.std.proofs.lemmas.Bool.{or_right}
use Rattle.mx_base.specs.declared.names.LinkId.{LinkId}
use Rattle.mx_wire.specs.Log.{Log, is_link, is_open, link_of, of_link, open_step}
use Rattle.mx_wire.specs.Moments.{LawfulAfter}
use Rattle.mx_wire.specs.Tells.{Fits}
use Rattle.mx_wire.specs.declared.entry.Entry.{Entry}
use Rattle.mx_wire.specs.declared.entry.Entry.TheVariants as entry
use Rattle.private_model.proofs.Maps as maps
use Rattle.private_model.specs.Story.{is_link_id}
use Rattle.tale_world.proofs.Lawfully.{loses, lost_in}
use Rattle.router_promises.specs.Now.{is_loss, was_lost}

isnt : {A : Type 0} → false ≡ true → A
isnt is = absurd (cc)

module _ (l : LinkId) where
  abbrev pub of_it : Log → Log
  of_it log = of_link l log

  pub its_more : (log more : Log) → of_it (log ++ more) ≡ of_it log ++ of_it more
  its_more [] more = refl
  its_more (x ∷ log) more = by_test (is_link l (link_of x)) (its_more log more) where
    by_test : (b : Bool) → of_it (log ++ more) ≡ of_it log ++ of_it more
        → (if b then x ∷ of_it (log ++ more) else of_it (log ++ more)) ≡ (if b then x ∷ of_it log else of_it log) ++ of_it more
    by_test true same = ap (λ xs. x ∷ xs) same
    by_test false same = same

  folded : (xs ys : Log) (b : Bool) → fold open_step b (xs ++ ys) ≡ fold open_step (fold open_step b xs) ys
  folded [] ys b = refl
  folded (x ∷ xs) ys b = folded xs ys (open_step b x)

  pub open_more : (log : Log) (e : Entry) → is_open l (log ++ e ∷ []) ≡ fold open_step (is_open l log) (of_it (e ∷ []))
  open_more log e = ap (fold open_step false) (its_more log (e ∷ [])) ∙ folded (of_it log) (of_it (e ∷ [])) false

  -- it came, and is closed
  record IsOver (log : Log) : Type 0 where
    pub closed : is_open l log ≡ false
    pub came : of_it log ≡ [] → ⊥

  empty_first : (xs ys : Log) → xs ++ ys ≡ [] → xs ≡ []
  empty_first [] ys is = refl
  empty_first (x ∷ xs) ys is = absurd (cc)

  -- it doesn't come again
  stays_closed : (log : Log) (e : Entry) (was : Bool) → Fits log e → is_link l (link_of e) ≡ true → (of_it log ≡ [] → ⊥) → was ≡ false → open_step was e ≡ false
  stays_closed log (entry.Accepted port link salt) was fits here came is = absurd (came (ap (λ k. of_link k log) (maps.link_of l link here) ∙ fits.fresh))
  stays_closed log (entry.Opened server address link) was fits here came is = absurd (came (ap (λ k. of_link k log) (maps.link_of l link here) ∙ fits.fresh))
  stays_closed log (entry.Closed link) was fits here came is = refl
  stays_closed log _ was fits here came is = is

  over_step : (log : Log) (e : Entry) → Fits log e → IsOver log → IsOver (log ++ e ∷ [])
  over_step log e fits over = record {
    closed = open_more log e ∙ by_test (is_link l (link_of e)) refl;
    came = λ none. over.came (empty_first (of_it log) (of_it (e ∷ [])) (sym (its_more log (e ∷ [])) ∙ none));
  } where
    by_test : (b : Bool) → is_link l (link_of e) ≡ b → fold open_step (is_open l log) (if b then e ∷ [] else []) ≡ false
    by_test true here = stays_closed log e (is_open l log) fits here over.came over.closed
    by_test false apart = over.closed

  over_later : (before later log : Log) → before ++ later ≡ log → LawfulAfter Fits before later → IsOver before → is_open l log ≡ false
  over_later before [] log is fits over = ap (is_open l) (sym is ∙ append-nil before) ∙ over.closed
  over_later before (e ∷ later) log is fits over =
      over_later (before ++ e ∷ []) later log (append_assoc before (e ∷ []) later ∙ is) fits.1 (over_step before e fits.0 over)

  closes_it : (before : Log) (link : LinkId) → is_link_id l link ≡ true → IsOver (before ++ entry.Closed link ∷ [])
  closes_it before link here = record {
    closed = open_more before (entry.Closed link) ∙ ap (λ b. fold open_step (is_open l before) (if b then entry.Closed link ∷ [] else [])) here;
    came = λ none. never (sym (its_more before (entry.Closed link ∷ []) ∙ ap (λ b. of_it before ++ (if b then entry.Closed link ∷ [] else [])) here) ∙ none);
  } where
    never : of_it before ++ entry.Closed link ∷ [] ≡ [] → ⊥
    never is = by_first (of_it before) is where
      by_first : (xs : Log) → xs ++ entry.Closed link ∷ [] ≡ [] → ⊥
      by_first [] is = absurd (cc)
      by_first (x ∷ xs) is = absurd (cc)

  lost_there : (before later log : Log) (e : Entry) → before ++ e ∷ later ≡ log → is_link l (link_of e) ≡ true → is_loss e ≡ true → was_lost log l ≡ true
  lost_there before later log e is here loss =
      ap (λ (x : Log). was_lost x l) (sym is) ∙ ap (list_any is_loss) (its_more before (e ∷ later) ∙ ap (λ b. of_it before ++ (if b then e ∷ of_it later else of_it later)) here)
      ∙ by_first (of_it before)
    where
      by_first : (xs : Log) → list_any is_loss (xs ++ e ∷ of_it later) ≡ true
      by_first [] = ap (λ b. b || list_any is_loss (of_it later)) loss
      by_first (x ∷ xs) = or_right (is_loss x) _ (by_first xs)

  -- where it is open and wasn't lost, no entry loses it
  module _ (log : Log) (opened : is_open l log ≡ true) (kept : was_lost log l ≡ false) where
    none_loses : (before later : Log) (e : Entry) → before ++ e ∷ later ≡ log → LawfulAfter Fits before (e ∷ later) → loses e l ≡ false
    none_loses before later e is fits = by_test (loses e l) refl where
      closing : (x : Entry) → e ≡ x → loses x l ≡ true → false ≡ true
      closing (entry.Ended link) at it = sym kept ∙ lost_there before later log e is (ap (λ y. is_link l (link_of y)) at ∙ it) (ap is_loss at)
      closing (entry.ReadFailed link) at it = sym kept ∙ lost_there before later log e is (ap (λ y. is_link l (link_of y)) at ∙ it) (ap is_loss at)
      closing (entry.WriteFailed link) at it = sym kept ∙ lost_there before later log e is (ap (λ y. is_link l (link_of y)) at ∙ it) (ap is_loss at)
      closing (entry.Closed link) at it =
          let split : (before ++ entry.Closed link ∷ []) ++ later ≡ log = append_assoc before (entry.Closed link ∷ []) later ∙ ap (λ y. before ++ y ∷ later) (sym at) ∙ is in
          sym (over_later (before ++ entry.Closed link ∷ []) later log split (subst (λ y. LawfulAfter Fits (before ++ y ∷ []) later) at fits.1) (closes_it before link it)) ∙ opened
      closing _ at it = it

      by_test : (b : Bool) → loses e l ≡ b → loses e l ≡ false
      by_test true it = isnt (closing e refl it)
      by_test false it = it

    none_lost : (before later : Log) → before ++ later ≡ log → LawfulAfter Fits before later → lost_in later l ≡ false
    none_lost before [] is fits = refl
    none_lost before (e ∷ later) is fits =
        ap (λ b. b || lost_in later l) (none_loses before later e is fits) ∙ none_lost (before ++ e ∷ []) later (append_assoc before (e ∷ []) later ∙ is) fits.1

    pub open_unlost : LawfulAfter Fits [] log → lost_in log l ≡ false
    open_unlost fits = none_lost [] log refl fits
