-- What was written on a link, entry by entry.
use Rattle.std.proofs.Common.{◌≡◌, ◌∙◌, ℕ, Bool, true, false, List, [], ◌∷◌, ◌++◌, filter, flat_map, if◌then◌else◌, ap, refl, inl, inr}
use Rattle.std.proofs.lemmas.Bool.{cases_Bool}
use Rattle.mx_base.specs.declared.names.LinkId.{LinkId}
use Rattle.mx_wire.specs.Log.{Log, is_link, link_of, written_of, wrote_bytes}
use Rattle.mx_wire.specs.declared.entry.Entry.{Entry}
use Rattle.mx_wire.specs.declared.entry.Entry.TheVariants.{Wrote}
use Rattle.generated_load.specs.Replies.{wrote_on}

kept : {X A : Type 0} (p : X → Bool) (f : X → List A) (xs : List X) → flat_map f (filter p xs) ≡ flat_map (λ x. if p x then f x else []) xs
kept p f [] = refl
kept p f (x ∷ xs) = elim (cases_Bool (p x)) [
  | inl holds ↦ rw holds (ap (λ ys. f x ++ ys) (kept p f xs))
  | inr fails ↦ rw fails (kept p f xs)
]

each : {X A : Type 0} (f g : X → List A) → ((x : X) → f x ≡ g x) → (xs : List X) → flat_map f xs ≡ flat_map g xs
each f g same [] = refl
each f g same (x ∷ xs) = ap (λ ys. ys ++ flat_map f xs) (same x) ∙ ap (λ ys. g x ++ ys) (each f g same xs)

abbrev nothing_by : Bool → List ℕ
nothing_by b = if b then [] else []

nothing : (b : Bool) → nothing_by b ≡ []
nothing true = refl
nothing false = refl

one : (link : LinkId) (e : Entry) → (if is_link link (link_of e) then wrote_bytes e else []) ≡ wrote_on link e
one link (Wrote at tag bytes) = refl
one link e = nothing (is_link link (link_of e))

pub written_by : (link : LinkId) (log : Log) → written_of link log ≡ flat_map (wrote_on link) log
written_by link log =
    kept (λ e. is_link link (link_of e)) wrote_bytes log ∙ each (λ e. if is_link link (link_of e) then wrote_bytes e else []) (wrote_on link) (one link) log
