-- Replies as lists of payloads, as the manual has them (client/server protocol, "Command Phase").
use Rattle.std.specs.Prelude.{◌≡◌, ◌⊎◌, ◌<◌, ℕ, Bool, true, false, not, nat_eq, bit_and, All, List, [], ◌∷◌, ◌++◌, length, Option, Some, None}
use Rattle.reply_track.specs.declared.reply.ReplyEnd.{ReplyEnd}
use Rattle.reply_track.specs.declared.reply.ReplyKind.{ReplyKind}
use Rattle.reply_track.specs.declared.reply.ReplyKind.TheVariants.{Command, Prepare, Fields}
use Rattle.reply_track.specs.Payloads.{IsOk, IsErr, IsEof, IsCount, IsPlain, IsPrepared, named, ok_end, err_end, rows_end, prepared_end_of}

-- a payload that ends a reply, or the last result of one
pub record OkEnds (payload : List ℕ) (end : ReplyEnd) : Type 0 where
  pub flags : ℕ
  pub warnings : ℕ
  pub insert_id : ℕ
  pub ok : IsOk payload flags warnings insert_id
  pub is : end ≡ ok_end flags warnings insert_id

pub record ErrEnds (payload : List ℕ) (end : ReplyEnd) : Type 0 where
  pub code : ℕ
  pub err : IsErr payload code
  pub is : end ≡ err_end code

pub record EofEnds (payload : List ℕ) (end : ReplyEnd) : Type 0 where
  pub flags : ℕ
  pub warnings : ℕ
  pub eof : IsEof payload flags warnings
  pub is : end ≡ rows_end flags warnings

-- so many definitions and an EOF
pub record AreDefined (n : ℕ) (payloads : List (List ℕ)) : Type 0 where
  pub definitions : List (List ℕ)
  pub eof : List ℕ
  pub flags : ℕ
  pub warnings : ℕ
  pub is : payloads ≡ definitions ++ eof ∷ []
  pub count : length definitions ≡ n
  pub plain : All IsPlain definitions
  pub ends : IsEof eof flags warnings

-- a result set: a column count, so many definitions, an EOF, rows, and an EOF or an ERR
pub record IsSet (payloads : List (List ℕ)) (end : ReplyEnd) : Type 0 where
  pub count : List ℕ
  pub columns : ℕ
  pub definitions : List (List ℕ)
  pub rows : List (List ℕ)
  pub last : List ℕ
  pub is : payloads ≡ count ∷ (definitions ++ (rows ++ last ∷ []))
  pub counts : IsCount count columns
  pub defined : AreDefined columns definitions
  pub plain : All IsPlain rows
  pub ends : EofEnds last end ⊎ ErrEnds last end

-- a result: an OK, an ERR or a result set
pub record IsOne (Ends : List ℕ → ReplyEnd → Type 0) (payloads : List (List ℕ)) (end : ReplyEnd) : Type 0 where
  pub only : List ℕ
  pub is : payloads ≡ only ∷ []
  pub ends : Ends only end

abbrev pub IsResult : List (List ℕ) → ReplyEnd → Type 0
IsResult payloads end = IsOne OkEnds payloads end ⊎ (IsOne ErrEnds payloads end ⊎ IsSet payloads end)

-- MORE_RESULTS_EXISTS is in the status flags
abbrev pub has_more : Option ℕ → Bool
has_more None = false
has_more (Some flags) = not (nat_eq (bit_and flags 8) 0)

-- one or more results; another follows exactly where MORE_RESULTS_EXISTS says so in the last OK or EOF
pub data AreResults : List (List ℕ) → ReplyEnd → Type 0 where
  Last : {payloads : List (List ℕ)} {end : ReplyEnd} → IsResult payloads end → has_more end.flags ≡ false → AreResults payloads end
  Then : {payloads : List (List ℕ)} {end : ReplyEnd} (result others : List (List ℕ)) (middle : ReplyEnd) → payloads ≡ result ++ others
      → IsResult result middle → has_more middle.flags ≡ true → AreResults others end → AreResults payloads end

-- a field list: definitions and an EOF, or an ERR
pub record AreFields (payloads : List (List ℕ)) (end : ReplyEnd) : Type 0 where
  pub definitions : List (List ℕ)
  pub last : List ℕ
  pub is : payloads ≡ definitions ++ last ∷ []
  pub plain : All IsPlain definitions
  pub ends : EofEnds last end

-- the answer to a prepare: its first payload, definitions of the parameters and their EOF where there are any,
-- definitions of the columns and their EOF where there are any; or an ERR
abbrev pub AreDefinedOrNone : (n : ℕ) → List (List ℕ) → Type 0
AreDefinedOrNone n payloads = ((n ≡ 0) × (payloads ≡ [])) ⊎ ((0 < n) × AreDefined n payloads)

pub record IsPreparation (payloads : List (List ℕ)) (end : ReplyEnd) : Type 0 where
  pub first : List ℕ
  pub number : ℕ
  pub columns : ℕ
  pub params : ℕ
  pub warnings : ℕ
  pub param_definitions : List (List ℕ)
  pub column_definitions : List (List ℕ)
  pub is : payloads ≡ first ∷ (param_definitions ++ column_definitions)
  pub prepared : IsPrepared first number columns params warnings
  pub of_params : AreDefinedOrNone params param_definitions
  pub of_columns : AreDefinedOrNone columns column_definitions
  pub ends : end ≡ prepared_end_of number params warnings

-- the replies of a kind
abbrev pub IsReply : ReplyKind → List (List ℕ) → ReplyEnd → Type 0
IsReply Command payloads end = AreResults payloads end
IsReply Prepare payloads end = IsOne ErrEnds payloads end ⊎ IsPreparation payloads end
IsReply Fields payloads end = IsOne ErrEnds payloads end ⊎ AreFields payloads end

-- the same reply with another statement id
abbrev pub renamed : ReplyKind → (number : ℕ) → List (List ℕ) → List (List ℕ)
renamed Command number payloads = payloads
renamed Fields number payloads = payloads
renamed Prepare number [] = []
renamed Prepare number (first ∷ payloads) = named number first ∷ payloads
