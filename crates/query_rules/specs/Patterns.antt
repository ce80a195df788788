-- Patterns and templates, in the words of `regex`.
use Rattle.std.specs.Prelude.{◌≡◌, ◌≢◌, ◌⊎◌, ℕ, Bool, false, List, is_some, IsUtf8}
use Rattle.regex.specs.Patterns.{Config, default_config, find, find_all}
use Rattle.regex.specs.Bytes.{regex_pattern, regex_source, regex_config, regex_names, IsReadFromSource, IsDefaultFailure}
use Rattle.regex.specs.Replace.{replaced_by, group_bytes}
use Rattle.regex.specs.Templates.{written_after}
use Rattle.regex.specs.declared.bytes.regex.Regex.{Regex}
use Rattle.regex.specs.declared.error.Error.{Error}
use Rattle.regex.specs.declared.error.Error.TheVariants.{OutOfMemory}

-- a pattern is one of bytes, and heeds case unless it says otherwise
abbrev pub on_bytes : Config
on_bytes = record default_config { utf8 = false }

-- the pattern is what `regex` reads in the text
pub record IsReadIn (text : List ℕ) (pattern : Regex) : Type 0 where
  pub source : regex_source pattern ≡ text
  pub config : regex_config pattern ≡ on_bytes
  pub read : IsReadFromSource pattern

abbrev pub IsPattern : List ℕ → Type 0
IsPattern text = (pattern : Regex) × IsReadIn text pattern

-- `regex` has an error for the text that isn't want of memory: it is no pattern, it nests too deep, or its program
-- would be too large
abbrev pub IsTurnedDown : List ℕ → Type 0
IsTurnedDown text = (error : Error) × (error ≢ OutOfMemory) × IsDefaultFailure text error

abbrev pub IsRefused : List ℕ → Type 0
IsRefused text = (¬ IsUtf8 text) ⊎ IsTurnedDown text

-- the pattern finds something in the text
abbrev pub finds : Regex → List ℕ → Bool
finds pattern text = is_some (find (regex_pattern pattern) text 0)

-- the text with, in the place of each match, what the template writes there
abbrev pub replaced : Regex → (template text : List ℕ) → List ℕ
replaced pattern template text =
    replaced_by (λ m. written_after (regex_names pattern) (group_bytes text m) template 0) text 0 (find_all (regex_pattern pattern) text)
