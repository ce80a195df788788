-- Rows that change in a table, and what links keep of sessions that are left.
use Rattle.std.specs.Prelude.{◌≡◌, ◌+◌, ◌<◌, ℕ, Bool, true, false, nat_eq, if◌then◌else◌, length, take, List, [], ◌∷◌, ◌++◌, Option, Some, None}
use Rattle.std.specs.Option.{option_map, option_or}
use Rattle.std.proofs.Common.{refl, sym, ap, ◌∙◌, get_or}
use Rattle.std.proofs.lemmas.List.{take_more}
use Rattle.mx_base.specs.declared.names.LinkId.{LinkId}
use Rattle.private_model.proofs.Maps.{number_of}
use Rattle.served_link.specs.declared.row.LeftSession.{LeftSession}
use Rattle.client_desk.specs.declared.session.Session.{Session}
use Rattle.core_tables.specs.Parting.{kept_at, kept_by, kept_of, parted_row, with_kept}
use Rattle.core_tables.specs.declared.server.Server.{Server}

-- where the numbers are the same, so are the rows
pub same_row : {A : Type 0} (f : A → A) (rows : ℕ → Option A) (a b : ℕ) → (if nat_eq a b then option_map f (rows a) else rows b) ≡ (if nat_eq a b then option_map f (rows b) else rows b)
same_row f rows a b = by (nat_eq a b) refl where
  by : (same : Bool) → nat_eq a b ≡ same → (if same then option_map f (rows a) else rows b) ≡ (if same then option_map f (rows b) else rows b)
  by true same = ap (λ (k : ℕ). option_map f (rows k)) (number_of a b same)
  by false apart = refl

pub none_kept : (o : Option Server) → o ≡ option_map (with_kept None) o
none_kept None = refl
none_kept (Some server) = refl

pub kept_there : (rows : ℕ → Option Server) (link at : LinkId) (s : Session)
    → (if nat_eq link.0 at.0 then option_map (parted_row (kept_of s)) (rows link.0) else rows at.0) ≡ option_map (with_kept (kept_by at (Some link) s)) (rows at.0)
kept_there rows link at s = by (nat_eq link.0 at.0) refl where
  by : (same : Bool) → nat_eq link.0 at.0 ≡ same
      → (if same then option_map (parted_row (kept_of s)) (rows link.0) else rows at.0) ≡ option_map (with_kept (if same then Some (kept_of s) else None)) (rows at.0)
  by true same = ap (λ (k : ℕ). option_map (parted_row (kept_of s)) (rows k)) (number_of link.0 at.0 same)
  by false apart = none_kept (rows at.0)

twice : (later first : Option LeftSession) (o : Option Server) → option_map (with_kept later) (option_map (with_kept first) o) ≡ option_map (with_kept (option_or later first)) o
twice None first None = refl
twice None first (Some server) = refl
twice (Some kept) first None = refl
twice (Some kept) None (Some server) = refl
twice (Some kept) (Some before) (Some server) = refl

or_none : {A : Type 0} (o : Option A) → o ≡ option_or o None
or_none None = refl
or_none (Some a) = refl

or_assoc : {A : Type 0} (a b c : Option A) → option_or (option_or a b) c ≡ option_or a (option_or b c)
or_assoc None b c = refl
or_assoc (Some x) b c = refl

kept_behind : (at : LinkId) (rows : List Session) (s : Session) → kept_at at (rows ++ s ∷ []) ≡ option_or (kept_by at s.home s) (kept_at at rows)
kept_behind at [] s = or_none (kept_by at s.home s)
kept_behind at (row ∷ rows) s =
    ap (λ (o : Option LeftSession). option_or o (kept_by at row.home row)) (kept_behind at rows s)
    ∙ or_assoc (kept_by at s.home s) (kept_at at rows) (kept_by at row.home row)

pub kept_more : (at : LinkId) (rows : List Session) (i : ℕ) (d : Session) (o was now : Option Server) → i < length rows
    → was ≡ option_map (with_kept (kept_at at (take i rows))) o
    → now ≡ option_map (with_kept (kept_by at (get_or rows i d).home (get_or rows i d))) was
    → now ≡ option_map (with_kept (kept_at at (take (i + 1) rows))) o
kept_more at rows i d o was now below before then_now =
    let s = get_or rows i d in
    let more : take (i + 1) rows ≡ take i rows ++ s ∷ [] = take_more rows i d below in
    then_now ∙ ap (option_map (with_kept (kept_by at s.home s))) before
    ∙ twice (kept_by at s.home s) (kept_at at (take i rows)) o
    ∙ ap (λ (k : Option LeftSession). option_map (with_kept k) o) (sym (kept_behind at (take i rows) s))
    ∙ ap (λ (all : List Session). option_map (with_kept (kept_at at all)) o) (sym more)
