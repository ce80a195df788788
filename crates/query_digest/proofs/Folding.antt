-- Lists of values, folded while they come.
use Rattle.std.proofs.Common.{◌≡◌, Bool, true, false, cond, List, [], ◌∷◌, ◌++◌, Option, Some, None, refl, sym, ◌∙◌, ap}
use Rattle.query_digest.specs.declared.writer.Held.{Held}
use Rattle.query_digest.specs.Parts.{Part, Spaced, is_values, joined, folded}
use Rattle.query_digest.specs.Parts.Part.{Value, Values, Comma, Bytes}
use Rattle.query_digest.proofs.Joining.{one_list, alone, alone_with_comma}
use Rattle.query_digest.specs.Writing.{held_comma, held_values, held_parts, grown_by, grown}

held_is_values : (held : Held) → is_values (held_values held).part ≡ true
held_is_values held = elim held.many as (λ many. is_values (cond many Values Value) ≡ true) [ true ↦ refl | false ↦ refl ]

-- the digest of what is held and of others
abbrev held_folds : Held → List Spaced → List Spaced
held_folds held rest = joined (held_values held) (folded (held_comma held.comma ++ rest))

grown_by_folds : (held : Held) (comma : Option Bool) (apart : Bool) (part : Part) (new : Held) (rest : List Spaced) → grown_by held comma apart part ≡ Some new → held_folds new rest ≡ joined (held_values held) (folded (held_comma comma ++ (record { apart = apart; part = part } ∷ rest)))
grown_by_folds held None apart Comma new rest h = let is : record held { comma = Some apart } ≡ new = cc in ap (λ (n : Held). held_folds n rest) (sym is)
grown_by_folds held None apart Value new rest h = absurd (cc)
grown_by_folds held None apart Values new rest h = absurd (cc)
grown_by_folds held None apart (Bytes bytes) new rest h = absurd (cc)
grown_by_folds held (Some before) apart Comma new rest h = absurd (cc)
grown_by_folds held (Some before) apart (Bytes bytes) new rest h = absurd (cc)
grown_by_folds held (Some before) apart Value new rest h =
    let is : record held { many = true; comma = None } ≡ new = cc in
    ap (λ (n : Held). held_folds n rest) (sym is) ∙ one_list (held_values held) (record { apart = before; part = Comma }) (record { apart = apart; part = Value }) (folded rest) (held_is_values held) refl refl
grown_by_folds held (Some before) apart Values new rest h =
    let is : record held { many = true; comma = None } ≡ new = cc in
    ap (λ (n : Held). held_folds n rest) (sym is) ∙ one_list (held_values held) (record { apart = before; part = Comma }) (record { apart = apart; part = Values }) (folded rest) (held_is_values held) refl refl

apart_by_folds : (held : Held) (comma : Option Bool) (apart : Bool) (part : Part) (rest : List Spaced) → grown_by held comma apart part ≡ None → joined (held_values held) (folded (held_comma comma ++ (record { apart = apart; part = part } ∷ rest))) ≡ held_values held ∷ (held_comma comma ++ folded (record { apart = apart; part = part } ∷ rest))
apart_by_folds held None apart Comma rest h = absurd (cc)
apart_by_folds held None apart Value rest h = alone (held_values held) (record { apart = apart; part = Value }) (folded rest) refl
apart_by_folds held None apart Values rest h = alone (held_values held) (record { apart = apart; part = Values }) (folded rest) refl
apart_by_folds held None apart (Bytes bytes) rest h = alone (held_values held) (record { apart = apart; part = Bytes bytes }) (folded rest) refl
apart_by_folds held (Some before) apart Value rest h = absurd (cc)
apart_by_folds held (Some before) apart Values rest h = absurd (cc)
apart_by_folds held (Some before) apart Comma rest h = alone_with_comma (held_values held) (record { apart = before; part = Comma }) (record { apart = apart; part = Comma }) (folded rest) refl refl
apart_by_folds held (Some before) apart (Bytes bytes) rest h = alone_with_comma (held_values held) (record { apart = before; part = Comma }) (record { apart = apart; part = Bytes bytes }) (folded rest) refl refl

-- a part that belongs to what is held
pub grown_folds : (held : Option Held) (apart : Bool) (part : Part) (new : Held) (rest : List Spaced) → grown held apart part ≡ Some new → folded (held_parts (Some new) ++ rest) ≡ folded (held_parts held ++ (record { apart = apart; part = part } ∷ rest))
grown_folds None apart part new rest h = absurd (cc)
grown_folds (Some held) apart part new rest h = grown_by_folds held held.comma apart part new rest h

-- a part that doesn't
pub apart_folds : (held : Option Held) (apart : Bool) (part : Part) (rest : List Spaced) → grown held apart part ≡ None → folded (held_parts held ++ (record { apart = apart; part = part } ∷ rest)) ≡ held_parts held ++ folded (record { apart = apart; part = part } ∷ rest)
apart_folds None apart part rest h = refl
apart_folds (Some held) apart part rest h = apart_by_folds held held.comma apart part rest h

-- at the end
pub last_folds : (held : Option Held) → folded (held_parts held ++ []) ≡ held_parts held
last_folds None = refl
last_folds (Some held) = elim held.comma as (λ comma. folded (held_values held ∷ held_comma comma ++ []) ≡ held_values held ∷ held_comma comma) [ None ↦ refl | Some apart ↦ refl ]

pub nothing : {A : Type 0} (o : Option A) → ((x : A) → o ≡ Some x → ⊥) → o ≡ None
nothing None none = refl
nothing (Some x) none = absurd (none x refl)
