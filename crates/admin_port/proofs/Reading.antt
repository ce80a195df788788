-- Lists of names and of pairs, read one by one.
use Rattle.std.specs.Prelude.{◌≡◌, ℕ, Bool, true, if◌then◌else◌, List, [], ◌∷◌, ◌++◌, Option, Some, None, codes}
use Rattle.std.proofs.Common.{sym, ap, ◌∙◌}
use Rattle.sql_tokens.specs.declared.token.Token.{Token}
use Rattle.mx_base.specs.Steps.{◌>>=◌}
use Rattle.admin_port.specs.Pairs.{assigned, behind_word, column_of, names_from, pair_of, pairs_from, zipped_from}
use Rattle.admin_port.specs.Words.{reads}
use Rattle.admin_port.specs.declared.pair.Pair.{Pair}

pub names_on : (text : List ℕ) (names later : List (List ℕ)) (tokens behind rest : List Token) (name comma : Token) (n : List ℕ) (r : Bool)
    (start : Option (List (List ℕ))) → start ≡ names_from text names tokens → tokens ≡ name ∷ behind → behind ≡ comma ∷ rest
    → column_of text name ≡ Some n → r ≡ reads text comma (codes ",") → r ≡ true → later ≡ names ++ n ∷ [] → start ≡ names_from text later rest
names_on text names later tokens behind rest name comma n r start so first second column is reads_so all =
    so ∙ ap (names_from text names) (first ∙ ap (λ (l : List Token). name ∷ l) second)
    ∙ ap (λ (o : Option (List ℕ)). o >>= (λ (m : List ℕ). behind_word text (codes ",") comma (names_from text (names ++ m ∷ []) rest))) column
    ∙ ap (λ (b : Bool). if b then names_from text (names ++ n ∷ []) rest else None) (sym is ∙ reads_so)
    ∙ ap (λ (l : List (List ℕ)). names_from text l rest) (sym all)

pub pairs_on : (text between : List ℕ) (pairs later : List Pair) (tokens one two three rest : List Token) (column equals value next : Token) (pair : Pair) (r : Bool)
    (start : Option (List Pair)) → start ≡ pairs_from text between pairs tokens → tokens ≡ column ∷ one → one ≡ equals ∷ two → two ≡ value ∷ three
    → three ≡ next ∷ rest → assigned text column equals value ≡ Some pair → r ≡ reads text next between → r ≡ true → later ≡ pairs ++ pair ∷ []
    → start ≡ pairs_from text between later rest
pairs_on text between pairs later tokens one two three rest column equals value next pair r start so first second third fourth said is reads_so all =
    so
    ∙ ap (pairs_from text between pairs) (first ∙ ap (λ (l : List Token). column ∷ l) (second ∙ ap (λ (l : List Token). equals ∷ l) (third ∙ ap (λ (l : List Token). value ∷ l) fourth)))
    ∙ ap (λ (o : Option Pair). o >>= (λ (p : Pair). behind_word text between next (pairs_from text between (pairs ++ p ∷ []) rest))) said
    ∙ ap (λ (b : Bool). if b then pairs_from text between (pairs ++ pair ∷ []) rest else None) (sym is ∙ reads_so)
    ∙ ap (λ (l : List Pair). pairs_from text between l rest) (sym all)

pub zipped_on : (text : List ℕ) (pairs later : List Pair) (columns values behind ahead rest more : List Token) (column value comma next : Token) (pair : Pair)
    (r s : Bool) (start : Option (List Pair)) → start ≡ zipped_from text pairs columns values → columns ≡ column ∷ behind → values ≡ value ∷ ahead
    → behind ≡ comma ∷ rest → ahead ≡ next ∷ more → pair_of text column value ≡ Some pair → r ≡ reads text comma (codes ",") → r ≡ true
    → s ≡ reads text next (codes ",") → s ≡ true → later ≡ pairs ++ pair ∷ [] → start ≡ zipped_from text later rest more
zipped_on text pairs later columns values behind ahead rest more column value comma next pair r s start so first second third fourth said is reads_so is_next reads_next all =
    so
    ∙ ap (λ (l : List Token). zipped_from text pairs l values) (first ∙ ap (λ (l : List Token). column ∷ l) third)
    ∙ ap (zipped_from text pairs (column ∷ comma ∷ rest)) (second ∙ ap (λ (l : List Token). value ∷ l) fourth)
    ∙ ap (λ (o : Option Pair). o >>= (λ (p : Pair). behind_word text (codes ",") comma (behind_word text (codes ",") next (zipped_from text (pairs ++ p ∷ []) rest more)))) said
    ∙ ap (λ (b : Bool). if b then behind_word text (codes ",") next (zipped_from text (pairs ++ pair ∷ []) rest more) else None) (sym is ∙ reads_so)
    ∙ ap (λ (b : Bool). if b then zipped_from text (pairs ++ pair ∷ []) rest more else None) (sym is_next ∙ reads_next)
    ∙ ap (λ (l : List Pair). zipped_from text l rest more) (sym all)
