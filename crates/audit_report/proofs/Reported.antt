-- The tallies of all lines, by their keys in order, are the report.
use Rattle.std.proofs.Common.{◌≡◌, ◌≢◌, ℕ, suc, ◌+◌, ◌-◌, ◌^◌, ◌<◌, min, true, false, List, [], ◌∷◌, ◌++◌, map, length, get_or, Ordering, Option, Some, None, IfSome, sym, refl, ap, ◌∙◌, subst, inl, inr, append_assoc, append-nil, arith}
use Rattle.std.specs.declared.cmp.Ordering.TheVariants.{Less, Equal, Greater}
use Rattle.std.specs.Ordering.{is_eq, ordering_reverse}
use Rattle.std.specs.Cmp.{eq_by_cmp_equiv, tied_itself}
use Rattle.std.specs.List.{fold}
use Rattle.std.specs.List.Sorted.{IsStrictlySortedBy}
use Rattle.std.specs.Map.{keys_of, lookup}
use Rattle.std.specs.BTreeMap.{is_at}
use Rattle.std.specs.Option.{option_map, unwrap_or}
use Rattle.std.proofs.Math.Nat.{min-eq_left}
use Rattle.std.proofs.lemmas.Bool.{cases_Bool}
use Rattle.std.proofs.lemmas.List.{get_or_append_left, get_or_at, length-append}
use Rattle.std.proofs.lemmas.Map.{lookup-none}
use Rattle.std.proofs.lemmas.Map.Entries.{lookup_head, lookup_tail, none_past_head, none_below_head}
use Rattle.std.proofs.lemmas.Map.Keys.{sorted_tail, IsDistinct-from_sorted}
use Rattle.pin_classifier.specs.Classes.{class_of}
use Rattle.pin_classifier.specs.Kinds.{name_of}
use Rattle.query_digest.specs.Digest.{digest_of}
use Rattle.query_rules.specs.declared.rule.Rule.{Rule}
use Rattle.audit_report.specs.Keys.{key_cmp, key_of, named, same_key}
use Rattle.audit_report.specs.Report.{count_in, hostgroup_of, one_more, report_of, row_of}
use Rattle.audit_report.specs.Tallies.{both, of_key, row_at, tally_of}
use Rattle.audit_report.specs.declared.ask.AuditAsk.{AuditAsk}
use Rattle.audit_report.specs.declared.key.Key.{Key}
use Rattle.audit_report.specs.declared.row.ReportRow.{ReportRow}
use Rattle.audit_report.specs.declared.tally.Tally.{Tally}
use Rattle.audit_report.proofs.KeyOrder.{equal, key-back, key-exact, key-total, look-alike, named-place, row_key}
use Rattle.audit_report.proofs.InOrder.{IsInOrder, counted, entries, find_row, found-counted, ordered-counted}
use Rattle.audit_report.proofs.Tallying.{IsAmong, among, tally-push}

-- Entries in order with the same look-ups are the same.

not_none : {X : Type 0} (v : X) → Some v ≢ None
not_none v h = absurd (cc)

module _ {X : Type 0} where
  abbrev find : List (Key × X) → Key → Option X
  find es q = lookup (is_at (key_cmp q)) es

  at-head : (x : Key × X) (xs : List (Key × X)) → find (x ∷ xs) x.0 ≡ Some x.1
  at-head x xs = lookup_head (is_at (key_cmp x.0)) x xs (ap is_eq (tied_itself key-total x.0))

  past-head : (q : Key) (x : Key × X) (xs : List (Key × X)) → IsStrictlySortedBy key_cmp (keys_of (x ∷ xs)) → is_eq (key_cmp q x.0) ≡ true → find xs q ≡ None
  past-head q x xs s t = lookup-none (is_at (key_cmp q)) xs (none_past_head (eq_by_cmp_equiv key-total) q x xs (IsDistinct-from_sorted key_cmp _ s) t)

  module _ (x y : Key × X) (xs ys : List (Key × X)) (s : IsStrictlySortedBy key_cmp (keys_of (x ∷ xs))) (t : IsStrictlySortedBy key_cmp (keys_of (y ∷ ys))) (h : (q : Key) → find (x ∷ xs) q ≡ find (y ∷ ys) q) where
    by-heads : (r : Ordering) → key_cmp x.0 y.0 ≡ r → key_cmp x.0 y.0 ≡ Equal
    by-heads Less p = absurd (not_none x.1 (sym (at-head x xs) ∙ h x.0 ∙ lookup-none _ (y ∷ ys) (none_below_head key-total x.0 y ys t p)))
    by-heads Equal p = p
    by-heads Greater p = absurd (not_none y.1 (sym (at-head y ys) ∙ sym (h y.0) ∙ lookup-none _ (x ∷ xs) (none_below_head key-total y.0 x xs s (key-total.antisymm y.0 x.0 ∙ ap ordering_reverse p))))

    heads : x.0 ≡ y.0
    heads = key-exact x.0 y.0 (by-heads (key_cmp x.0 y.0) refl)

    values : x.1 ≡ y.1
    values = ap (λ u. unwrap_or u x.1) (sym (at-head x xs) ∙ h x.0 ∙ lookup_head (is_at (key_cmp x.0)) y ys (ap is_eq (by-heads (key_cmp x.0 y.0) refl)))

    tails : (q : Key) → find xs q ≡ find ys q
    tails q =
        let e : is_eq (key_cmp q y.0) ≡ is_eq (key_cmp q x.0) = ap (λ (k : Key). is_eq (key_cmp q k)) (sym heads) in
        elim (cases_Bool (is_eq (key_cmp q x.0))) [
          | inl b ↦ past-head q x xs s b ∙ sym (past-head q y ys t (e ∙ b))
          | inr b ↦ sym (lookup_tail (is_at (key_cmp q)) x xs b) ∙ h q ∙ lookup_tail (is_at (key_cmp q)) y ys (e ∙ b)
        ]

  same-entries : (es fs : List (Key × X)) → IsStrictlySortedBy key_cmp (keys_of es) → IsStrictlySortedBy key_cmp (keys_of fs) → ((q : Key) → find es q ≡ find fs q) → es ≡ fs
  same-entries [] [] s t h = refl
  same-entries [] (y ∷ ys) s t h = absurd (not_none y.1 (sym (h y.0 ∙ at-head y ys)))
  same-entries (x ∷ xs) [] s t h = absurd (not_none x.1 (sym (at-head x xs) ∙ h x.0))
  same-entries (x ∷ xs) (y ∷ ys) s t h =
      let r = same-entries xs ys (sorted_tail key_cmp x.0 (keys_of xs) s) (sorted_tail key_cmp y.0 (keys_of ys) t) (tails x y xs ys s t h) in
      λ i. (heads x y xs ys s t h i, values x y xs ys s t h i) ∷ r i

module _ (rules : List Rule) (ask : AuditAsk) where
  abbrev At : List (List ℕ) → Key → Tally → ReportRow
  At lines key tally = row_at rules ask lines key tally

  -- a row read later of the same line is the same
  same-row : (done : List (List ℕ)) (x : List ℕ) (q : Key) (tally : Tally) → IsAmong 0 (length done) tally → At done q tally ≡ At (done ++ x ∷ []) q tally
  same-row done x q tally among =
      let same : get_or (done ++ x ∷ []) tally.first [] ≡ get_or done tally.first [] = get_or_append_left done (x ∷ []) [] tally.first (let h = among.to in omega arith) in
      ap (λ line. let row : ReportRow = record { count = tally.count; class = named q.name; hostgroup = hostgroup_of rules ask line; digest = q.digest } in row) (sym same)

  -- the row of a line alone
  own-row : (done : List (List ℕ)) (x : List ℕ) (q : Key) → q ≡ key_of x → row_of rules ask x ≡ At (done ++ x ∷ []) q (record { count = 1; first = 0 + length done })
  unfolding key_of
  own-row done x q is =
      let line : get_or (done ++ x ∷ []) (0 + length done) [] ≡ x = get_or_at done x [] [] (0 + length done) (omega arith) in
      let class : named q.name ≡ name_of (class_of x) = ap (λ (k : Key). named k.name) is ∙ named-place (name_of (class_of x)) in
      let digest : q.digest ≡ digest_of x = ap (λ (k : Key). k.digest) is in
      rw (line, class, digest) refl

  key-row : (x : List ℕ) → row_key (row_of rules ask x) ≡ key_of x
  unfolding key_of
  key-row x = refl

  hit : (done : List (List ℕ)) (x : List ℕ) (q : Key) (tally : Option Tally) → length done < 2 ^ 64 - 1 → IfSome tally (IsAmong 0 (length done)) → same_key (key_of x) q ≡ true
      → counted (row_of rules ask x) q (option_map (At done q) tally) ≡ option_map (At (done ++ x ∷ []) q) (both tally (of_key (key_of x) (record { count = 1; first = 0 + length done }) q))
  hit done x q None few among same =
      let test : is_eq (key_cmp q (row_key (row_of rules ask x))) ≡ true = ap (λ (k : Key). is_eq (key_cmp q k)) (key-row x) ∙ sym (key-back (key_of x) q) ∙ same in
      let is : q ≡ key_of x = key-exact q (key_of x) (equal _ (sym (key-back (key_of x) q) ∙ same)) in
      rw (test, same) (ap (λ (row : ReportRow). Some row) (own-row done x q is))
  hit done x q (Some tally) few among same =
      let test : is_eq (key_cmp q (row_key (row_of rules ask x))) ≡ true = ap (λ (k : Key). is_eq (key_cmp q k)) (key-row x) ∙ sym (key-back (key_of x) q) ∙ same in
      let most : min (tally.count + 1) (2 ^ 64 - 1) ≡ tally.count + 1 = min-eq_left (let h = among.few in omega arith) in
      rw (test, same) (ap (λ (row : ReportRow). Some (one_more row)) (same-row done x q tally among) ∙ ap (λ n. let row : ReportRow = record (At (done ++ x ∷ []) q tally) { count = n } in Some row) (sym most))

  miss : (done : List (List ℕ)) (x : List ℕ) (q : Key) (tally : Option Tally) → IfSome tally (IsAmong 0 (length done)) → same_key (key_of x) q ≡ false
      → counted (row_of rules ask x) q (option_map (At done q) tally) ≡ option_map (At (done ++ x ∷ []) q) (both tally (of_key (key_of x) (record { count = 1; first = 0 + length done }) q))
  miss done x q None among other =
      let test : is_eq (key_cmp q (row_key (row_of rules ask x))) ≡ false = ap (λ (k : Key). is_eq (key_cmp q k)) (key-row x) ∙ sym (key-back (key_of x) q) ∙ other in
      rw (test, other) refl
  miss done x q (Some tally) among other =
      let test : is_eq (key_cmp q (row_key (row_of rules ask x))) ≡ false = ap (λ (k : Key). is_eq (key_cmp q k)) (key-row x) ∙ sym (key-back (key_of x) q) ∙ other in
      rw (test, other) (ap (λ (row : ReportRow). Some row) (same-row done x q tally among))

  stepped : (done : List (List ℕ)) (x : List ℕ) (q : Key) (tally : Option Tally) → length done < 2 ^ 64 - 1 → IfSome tally (IsAmong 0 (length done))
      → counted (row_of rules ask x) q (option_map (At done q) tally) ≡ option_map (At (done ++ x ∷ []) q) (both tally (of_key (key_of x) (record { count = 1; first = 0 + length done }) q))
  stepped done x q tally few among = elim (cases_Bool (same_key (key_of x) q)) [
    | inl same ↦ hit done x q tally few among same
    | inr other ↦ miss done x q tally among other
  ]

  -- the rows tell the tallies of the lines so far
  abbrev Tells : List (List ℕ) → List ReportRow → Type 0
  Tells done rows = IsInOrder rows × ((q : Key) → find_row q rows ≡ option_map (At done q) (tally_of q 0 done))

  one-line : (done : List (List ℕ)) (x : List ℕ) (rows : List ReportRow) → length done < 2 ^ 64 - 1 → Tells done rows → Tells (done ++ x ∷ []) (count_in (row_of rules ask x) rows)
  one-line done x rows few tells = (
    ordered-counted (row_of rules ask x) rows tells.0,
    λ q. found-counted (row_of rules ask x) rows q tells.0
        ∙ ap (counted (row_of rules ask x) q) (tells.1 q)
        ∙ stepped done x q (tally_of q 0 done) few (among q 0 done)
        ∙ ap (option_map (At (done ++ x ∷ []) q)) (sym (tally-push q 0 done x)),
  )

  abbrev step : List ReportRow → List ℕ → List ReportRow
  step rows line = count_in (row_of rules ask line) rows

  all-lines : (done rest : List (List ℕ)) (rows : List ReportRow) → length (done ++ rest) < 2 ^ 64 → Tells done rows → Tells (done ++ rest) (fold step rows rest)
  all-lines done [] rows few tells = subst (λ (l : List (List ℕ)). Tells l rows) (sym (append-nil done)) tells
  all-lines done (x ∷ rest) rows few tells =
      let all : (done ++ x ∷ []) ++ rest ≡ done ++ x ∷ rest = append_assoc done (x ∷ []) rest in
      let long : length done + suc (length rest) < 2 ^ 64 = subst (λ n. n < 2 ^ 64) (length-append done (x ∷ rest)) few in
      subst (λ (l : List (List ℕ)). Tells l (fold step rows (x ∷ rest))) all (all-lines (done ++ x ∷ []) rest (step rows x) (subst (λ (l : List (List ℕ)). length l < 2 ^ 64) (sym all) few) (one-line done x rows (omega arith) tells))

  in-order-none : IsInOrder []
  unfolding IsStrictlySortedBy
  in-order-none = tt

  told : (lines : List (List ℕ)) → length lines < 2 ^ 64 → Tells lines (report_of rules ask lines)
  told lines few = all-lines [] lines [] few (in-order-none, λ q. refl)

  -- entries with the rows of their tallies
  abbrev rowed : List (List ℕ) → List (Key × Tally) → List (Key × ReportRow)
  rowed lines [] = []
  rowed lines (e ∷ es) = (e.0, At lines e.0 e.1) ∷ rowed lines es

  rowed-keys : (lines : List (List ℕ)) (es : List (Key × Tally)) → keys_of (rowed lines es) ≡ keys_of es
  rowed-keys lines [] = refl
  rowed-keys lines (e ∷ es) = ap (λ ks. e.0 ∷ ks) (rowed-keys lines es)

  rowed-find : (lines : List (List ℕ)) (es : List (Key × Tally)) (q : Key) → find (rowed lines es) q ≡ option_map (At lines q) (find es q)
  rowed-find lines [] q = refl
  rowed-find lines (e ∷ es) q = elim (cases_Bool (is_eq (key_cmp q e.0))) [
    | inl same ↦ rw same (ap (λ (k : Key). Some (At lines k e.1)) (sym (key-exact q e.0 (equal _ same))))
    | inr other ↦ rw other (rowed-find lines es q)
  ]

  rows-back : (lines : List (List ℕ)) (es : List (Key × Tally)) → map (λ (e : Key × ReportRow). e.1) (rowed lines es) ≡ map (λ (e : Key × Tally). At lines e.0 e.1) es
  rows-back lines [] = refl
  rows-back lines (e ∷ es) = ap (λ rows. At lines e.0 e.1 ∷ rows) (rows-back lines es)

  entries-back : (rows : List ReportRow) → map (λ (e : Key × ReportRow). e.1) (entries rows) ≡ rows
  entries-back [] = refl
  entries-back (row ∷ rows) = ap (λ rest. row ∷ rest) (entries-back rows)

  pub reported : (lines : List (List ℕ)) (es : List (Key × Tally)) → length lines < 2 ^ 64 → IsStrictlySortedBy key_cmp (keys_of es) → ((q : Key) → lookup (same_key q) es ≡ tally_of q 0 lines)
      → map (λ (e : Key × Tally). At lines e.0 e.1) es ≡ report_of rules ask lines
  reported lines es few sorted tallies =
      let tells = told lines few in
      let found : (q : Key) → find (rowed lines es) q ≡ find (entries (report_of rules ask lines)) q = λ q. rowed-find lines es q ∙ ap (option_map (At lines q)) (sym (look-alike q es) ∙ tallies q) ∙ sym (tells.1 q) in
      let same = same-entries (rowed lines es) (entries (report_of rules ask lines)) (subst (IsStrictlySortedBy key_cmp) (sym (rowed-keys lines es)) sorted) tells.0 found in
      sym (rows-back lines es) ∙ ap (map (λ (e : Key × ReportRow). e.1)) same ∙ entries-back (report_of rules ask lines)
