-- Values that SET statements give settings.
use Rattle.std.specs.Prelude.{◌≡◌, ◌⊎◌, ◌<◌, ℕ, true, List, [], ◌∷◌, ◌++◌, length, codes, Some}
use Rattle.sql_tokens.specs.Tokens.{token_at}
use Rattle.sql_tokens.specs.declared.token.TokenKind.{TokenKind}
use Rattle.sql_tokens.specs.declared.token.TokenKind.TheVariants.{Number}
use Rattle.session_vars.specs.Modes.{is_base_list, is_added_list, joined_text, server_mode, takes_modes}
use Rattle.session_vars.specs.Names.{is_one_word, lower_case}
use Rattle.session_vars.specs.Settings.{AreSettings, value_at}
use Rattle.session_vars.specs.Texts.{value_text}
use Rattle.session_vars.specs.Values.{is_character_set, value_of, negative_value}
use Rattle.session_vars.specs.declared.change.SlotValue.{SlotValue}
use Rattle.session_vars.specs.declared.change.SlotValue.TheVariants.{Default, Text}
use Rattle.session_vars.specs.declared.slot.Slot.{Slot}
use Rattle.session_vars.specs.declared.slot.Slot.TheVariants.{Names, CharacterSetResults, CollationConnection}

-- the bytes are one token of this kind
abbrev pub IsOneToken : TokenKind → List ℕ → Type 0
IsOneToken kind bytes = (0 < length bytes) × (token_at bytes ≡ (kind, length bytes))

-- what is written for this value is one token, which gives the setting this value
pub record IsOneValue (slot : Slot) (value : SlotValue) : Type 0 where
  pub kind : TokenKind
  pub token : IsOneToken kind (value_text value)
  pub gives : value_of slot kind (value_text value) ≡ Some value

-- it is `-` and a number
pub record IsNegative (slot : Slot) (value : SlotValue) : Type 0 where
  pub number : List ℕ
  pub parts : value_text value ≡ 45 ∷ number
  pub token : IsOneToken Number number
  pub gives : negative_value slot Number number ≡ Some value

-- a mode that is no session's own: the server's, or a list in quotes that ends with no comma
abbrev pub IsBase : List ℕ → Type 0
IsBase base = (base ≡ server_mode) ⊎ ((list : List ℕ) × ((base ≡ 39 ∷ [] ++ list ++ 39 ∷ []) × (is_base_list list ≡ true)))

-- it is such a mode to which lists are added
pub record IsJoined (slot : Slot) (value : SlotValue) : Type 0 where
  pub base : List ℕ
  pub lists : List ℕ
  pub takes : takes_modes slot ≡ true
  pub is : value ≡ Text (joined_text base lists)
  pub of_base : IsBase base
  pub are_lists : is_added_list lists ≡ true

-- an assignment gives this setting this value
abbrev pub IsAssignable : Slot → SlotValue → Type 0
IsAssignable slot value = IsOneValue slot value ⊎ (IsNegative slot value ⊎ IsJoined slot value)

-- the name of a character set, in lower case
abbrev pub IsCharacterSet : List ℕ → Type 0
IsCharacterSet name = (is_character_set name ≡ true) × (lower_case name ≡ name)

-- `c COLLATE k`, in lower case but for that word
pub record IsCollated (bytes : List ℕ) : Type 0 where
  pub set : List ℕ
  pub name : List ℕ
  pub parts : bytes ≡ set ++ codes " COLLATE " ++ name
  pub is_set : IsCharacterSet set
  pub is_word : is_one_word name ≡ true
  pub is_lower : lower_case name ≡ name

-- a SET statement gives this setting this value
abbrev pub IsTrackedValue : Slot → SlotValue → Type 0
IsTrackedValue Names Default = ⊥
IsTrackedValue Names (Text bytes) = IsCharacterSet bytes ⊎ IsCollated bytes
IsTrackedValue CharacterSetResults Default = Unit {0}
IsTrackedValue CollationConnection Default = Unit {0}
IsTrackedValue slot value = IsAssignable slot value

-- settings that SET statements give a session whose client named a collation
abbrev pub AreTracked : List SlotValue → Type 0
AreTracked values = AreSettings values × ((slot : Slot) → IsTrackedValue slot (value_at values slot))
