-- Words of a list, whatever stands around them.
use Rattle.std.specs.Prelude.{ℕ, Bool, false, not, ◌||◌, nat_eq, List, Option, Some, None}
use Rattle.std.specs.Char.{is_ascii_alphabetic}
use Rattle.std.specs.List.{list_any, slice_split}
use Rattle.sql_tokens.specs.Words.{same_text}
use Rattle.pin_classifier.specs.WordLists.{words_of}
use Rattle.pin_classifier.specs.declared.word_list.WordList.{WordList}

-- ASCII letters and `_`, of which the words of the lists are made
abbrev pub is_letter : ℕ → Bool
is_letter b = is_ascii_alphabetic b || nat_eq b 95

-- a longest run of these is a word of the list: also in quotes and comments, behind a number and between dots
unfoldable pub has_any : (list : WordList) → (bytes : List ℕ) → Bool
has_any list bytes = list_any (λ run. list_any (same_text run) (words_of list)) (slice_split (λ b. not (is_letter b)) bytes)

-- a name that is there and has one
abbrev pub names_any : (list : WordList) → Option (List ℕ) → Bool
names_any list None = false
names_any list (Some name) = has_any list name
