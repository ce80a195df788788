-- A text that is no pattern is found among those of all columns.
use Rattle.std.proofs.Common.{◌≡◌, ◌<◌, ℕ, suc, List, Option, Some, None, drop, get_or, inl, length, subst, sym}
use Rattle.std.proofs.Math.Seq.{drop-cons}
use Rattle.admin_port.specs.Patterns.{IsRefusedText, SomeRefused, onto, pattern_text, patterns_in}
use Rattle.admin_port.specs.declared.pair.Pair.{Pair}

some_first : (o : Option (List ℕ)) (texts : List (List ℕ)) → IsRefusedText o → SomeRefused (onto o texts)
some_first None texts one = absurd one
some_first (Some t) texts one = inl one

pub some_at : (pairs : List Pair) (k : ℕ) (pair : Pair) → k < length pairs → pair ≡ get_or pairs k pair → IsRefusedText (pattern_text pair)
    → SomeRefused (patterns_in (drop k pairs))
some_at pairs k pair less is one = subst (λ l. SomeRefused (patterns_in l)) (sym (drop-cons pairs k pair less))
    (some_first (pattern_text (get_or pairs k pair)) (patterns_in (drop (suc k) pairs)) (subst (λ p. IsRefusedText (pattern_text p)) is one))
