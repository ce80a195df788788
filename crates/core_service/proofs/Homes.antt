-- Tables of users' own hostgroups, by the rows that are put in, the last first.
use Rattle.std.specs.HashMap.{HashMap, get}
use Rattle.std.specs.Option.{option_map_or}
use Rattle.std.specs.Prelude.{◌≡◌, ◌<◌, ◌≤◌, ◌-◌, ℕ, suc, Bool, true, false, bytes_eq, cond, drop, length, slice_index_or, List, ◌∷◌, Option, Some}
use Rattle.std.proofs.Common.{refl, sym, ap, ◌∙◌, arith}
use Rattle.std.proofs.Math.Seq.{drop-cons}
use Rattle.mx_config.specs.declared.config.UserRow.{UserRow}
use Rattle.core_service.specs.Serves.{home_by, home_in}
use Rattle.core_service.specs.declared.service.UserAt.{UserAt}

-- one row more, before the others
pub one_more : {S : Type 0} (before after : HashMap (List ℕ) UserAt S) (at : UserAt) (row : UserRow) (rows : List UserRow) (user : List ℕ)
    → at.home ≡ row.default_hostgroup → home_in before user ≡ home_by rows user
    → get bytes_eq after user ≡ cond (bytes_eq row.name user) (Some at) (get bytes_eq before user) → home_in after user ≡ home_by (row ∷ rows) user
one_more before after at row rows user home was puts =
    ap (λ (found : Option UserAt). option_map_or (λ (a : UserAt). a.home) found (record { 0 = 0 })) puts ∙ by (bytes_eq row.name user) refl
  where
    by : (here : Bool) → bytes_eq row.name user ≡ here
        → option_map_or (λ (a : UserAt). a.home) (cond (bytes_eq row.name user) (Some at) (get bytes_eq before user)) (record { 0 = 0 }) ≡ home_by (row ∷ rows) user
    by true is = rw is home
    by false is = rw is was

-- that is the one before the k-th
pub put_before : {S : Type 0} (before after : HashMap (List ℕ) UserAt S) (at : UserAt) (name : List ℕ) (rows : List UserRow) (k : ℕ) (row : UserRow)
    → 0 < k → k ≤ length rows → row ≡ slice_index_or rows (k - 1) row → name ≡ row.name → at.home ≡ row.default_hostgroup
    → ((user : List ℕ) → home_in before user ≡ home_by (drop k rows) user)
    → ((user : List ℕ) → get bytes_eq after user ≡ cond (bytes_eq name user) (Some at) (get bytes_eq before user))
    → (user : List ℕ) → home_in after user ≡ home_by (drop (k - 1) rows) user
put_before before after at name rows k row some within is named home was puts user =
    let less : k - 1 < length rows = omega (arith, some, within) in
    let next : suc (k - 1) ≡ k = omega (arith, some) in
    let all : drop (k - 1) rows ≡ row ∷ drop k rows =
    drop-cons rows (k - 1) row less ∙ (λ i. sym is i ∷ drop (next i) rows) in
    one_more before after at row (drop k rows) user home (was user)
    (puts user ∙ ap (λ (n : List ℕ). cond (bytes_eq n user) (Some at) (get bytes_eq before user)) named)
    ∙ ap (λ (rs : List UserRow). home_by rs user) (sym all)
