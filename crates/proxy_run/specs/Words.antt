-- What the words of the command line ask for.
use Rattle.std.specs.Prelude.{◌≡◌, ℕ, if◌then◌else◌, List, [], ◌∷◌, map, codes, Option, Some, None, string_bytes, String}
use Rattle.std.specs.declared.alloc.Global.{Global}
use Rattle.std.specs.Str.{bytes_eq}
use Rattle.proxy_run.specs.LoadWords.{load_words}
use Rattle.proxy_run.specs.ReportWords.{report_words}

abbrev pub texts : List (String Global) → List (List ℕ)
texts words = map string_bytes words

-- the names of the files that a replay reads
pub record Named : Type 0 where
  pub config : List ℕ
  pub recording : List ℕ

-- the replay that is asked for
abbrev pub replay_words : List (List ℕ) → Option Named
replay_words (command ∷ config ∷ recording ∷ []) = if bytes_eq command (codes "replay") then Some (record { config = config; recording = recording }) else None
replay_words _ = None

-- the name of the configuration to serve by
abbrev pub serve_words : List (List ℕ) → Option (List ℕ)
serve_words (command ∷ config ∷ []) = if bytes_eq command (codes "serve") then Some config else None
serve_words _ = None

-- the text that is asked for
abbrev pub help_text : List ℕ
help_text = codes "mx_proxy serve <config>\nmx_proxy replay <config> <recording>\nmx_proxy audit <config> <lines> <workers>\nmx_proxy learn <config> <lines> <workers>\nmx_proxy load <start> <clients> <statements>\nmx_proxy --help\nmx_proxy --version\nREADME.md says what each does.\n"

abbrev pub version_text : List ℕ
version_text = codes "mx_proxy 0.1.0\n"

abbrev pub text_word : List ℕ → Option (List ℕ)
text_word word =
    if bytes_eq word (codes "--help") then Some help_text
    else if bytes_eq word (codes "--version") then Some version_text
    else None

abbrev pub text_words : List (List ℕ) → Option (List ℕ)
text_words (word ∷ []) = text_word word
text_words _ = None

-- neither serving nor a replay is asked for
pub record IsUnknown (words : List (List ℕ)) : Type 0 where
  pub serves_not : serve_words words ≡ None
  pub replays_not : replay_words words ≡ None

-- nor is a report
pub record IsUnasked (words : List (List ℕ)) : Type 0 where
  pub unknown : IsUnknown words
  pub reports_not : report_words words ≡ None

-- nor is a load
pub record IsUnwanted (words : List (List ℕ)) : Type 0 where
  pub unasked : IsUnasked words
  pub loads_not : load_words words ≡ None

-- nor is a text
pub record IsNoCommand (words : List (List ℕ)) : Type 0 where
  pub unwanted : IsUnwanted words
  pub tells_not : text_words words ≡ None
