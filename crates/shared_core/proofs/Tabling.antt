-- Tables that are the same are one.
use Rattle.std.specs.Prelude.{◌≡◌, ◌<◌, ◌≤◌, ◌+◌, ℕ, get_or, length, take, List, [], ◌∷◌, ◌++◌}
use Rattle.std.proofs.Common.{◌∙◌, ap, refl, sym}
use Rattle.std.proofs.lemmas.List.{take_all, take_more}
use Rattle.mx_base.specs.declared.names.ClientNo.{ClientNo}
use Rattle.mx_base.specs.declared.names.LinkId.{LinkId}
use Rattle.core_tables.specs.Parting.{freed_in}
use Rattle.core_tables.specs.Tables.{IsSame, Tabled}
use Rattle.core_laws.specs.entry.Freeing.{all_freed}

pub tables_are : (a b : Tabled) → IsSame a b → a ≡ b
tables_are a b same = λ i. record {
  clients = λ (c : ClientNo). same.clients c i;
  numbers = λ (l : LinkId). same.numbers l i;
  links = λ (l : LinkId). same.links l i;
}

pub same_by : (a b : Tabled) → a ≡ b → IsSame a b
same_by a b is = record {
  clients = λ c. ap (λ (t : Tabled). t.clients c) is;
  numbers = λ l. ap (λ (t : Tabled). t.numbers l) is;
  links = λ l. ap (λ (t : Tabled). t.links l) is;
}

-- links are given back one by one

freed_along : (xs ys : List LinkId) (t : Tabled) → all_freed (xs ++ ys) t ≡ all_freed ys (all_freed xs t)
freed_along [] ys t = refl
freed_along (x ∷ xs) ys t = freed_along xs ys (freed_in x t)

pub freed_next : (d : LinkId) (links : List LinkId) (i : ℕ) (old mid new : Tabled) → i < length links
    → mid ≡ all_freed (take i links) old → IsSame new (freed_in (get_or links i d) mid) → new ≡ all_freed (take (i + 1) links) old
freed_next d links i old mid new within before one =
    tables_are new (freed_in (get_or links i d) mid) one
    ∙ (ap (freed_in (get_or links i d)) before
    ∙ (sym (freed_along (take i links) (get_or links i d ∷ []) old)
    ∙ sym (ap (λ (ls : List LinkId). all_freed ls old) (take_more links i d within))))

pub freed_all : (links : List LinkId) (i : ℕ) (old new : Tabled) → length links ≤ i → new ≡ all_freed (take i links) old
    → IsSame new (all_freed links old)
freed_all links i old new end is =
    same_by new (all_freed links old) (is ∙ ap (λ (ls : List LinkId). all_freed ls old) (take_all i links end))
