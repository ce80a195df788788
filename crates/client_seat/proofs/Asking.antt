-- What a message asks for, by its first byte, and the arguments of an execute.
use Rattle.std.specs.Prelude.{◌≡◌, ◌≢◌, ◌<◌, ℕ, zero, suc, ◌+◌, ◌*◌, ◌/◌, Bool, true, false, nat_eq, List, [], ◌∷◌, drop, take, length, slice_index_or, Option, Some, None}
use Rattle.std.specs.Option.{option_map}
use Rattle.std.proofs.Common.{◌∙◌, refl, sym, ap, arith}
use Rattle.std.proofs.lemmas.Bool.Decides.{nat_tests}
use Rattle.packet_frame.specs.PacketLaws.{nat_eq-true}
use Rattle.packet_frame.specs.Packets.{spelling}
use Rattle.reply_track.specs.declared.reply.ReplyKind.{ReplyKind}
use Rattle.reply_track.specs.declared.reply.ReplyKind.TheVariants as kind
use Rattle.private_model.specs.Commands.{Command, FieldList, InitDb, Prepare, Query}
use Rattle.log_story.specs.Executes.{given_in, text_asked, typed}
use Rattle.log_story.specs.Plan.{com_field_list, com_init_db, com_prepare, com_query}
use Rattle.client_seat.specs.Requests.{Asked, IsText, Says, kind_of}

pub given_some : (params : ℕ) (payload : List ℕ) → params ≢ 0
    → given_in params payload ≡ typed params (take ((params + 7) / 8) (drop 10 payload)) (drop (10 + (params + 7) / 8) payload)
given_some zero payload some = absurd (some refl)
given_some (suc more) payload some = refl

pub given_none : (params : ℕ) (payload : List ℕ) → params ≡ 0 → given_in params payload ≡ record { types = None; nulls = []; values = []; long = [] }
given_none zero payload none = refl
given_none (suc more) payload none = absurd (omega arith)

pub typed_none : (params : ℕ) (nulls rest : List ℕ) → length rest ≡ 0 → typed params nulls rest ≡ record { types = None; nulls = nulls; values = []; long = [] }
typed_none params nulls [] none = refl
typed_none params nulls (sends ∷ rest) none = absurd (omega arith)

is-one : (n : ℕ) → n ≡ 1 → nat_eq n 1 ≡ true
is-one n one = grind (arith, nat_tests)

is-other : (n : ℕ) → n ≢ 1 → nat_eq n 1 ≡ false
is-other n other = grind (arith, nat_tests)

pub typed_plain : (params : ℕ) (nulls rest : List ℕ) → 0 < length rest → slice_index_or rest 0 0 ≢ 1
    → typed params nulls rest ≡ record { types = None; nulls = nulls; values = drop 1 rest; long = [] }
typed_plain params nulls [] some other = absurd (omega arith)
typed_plain params nulls (sends ∷ rest) some other = rw (is-other sends other) refl

pub typed_types : (params : ℕ) (nulls rest : List ℕ) → 0 < length rest → slice_index_or rest 0 0 ≡ 1
    → typed params nulls rest ≡ record { types = Some (take (2 * params) (drop 1 rest)); nulls = nulls; values = drop (2 * params) (drop 1 rest); long = [] }
typed_types params nulls [] some one = absurd (omega arith)
typed_types params nulls (sends ∷ rest) some one = rw (is-one sends one) refl

-- A text.

pub asks_nothing : (byte : ℕ) (rest : List ℕ) → kind_of byte ≡ None → text_asked byte rest ≡ None
asks_nothing byte rest none = by (nat_eq byte com_query) refl where
  last : nat_eq byte com_query ≡ false → nat_eq byte com_init_db ≡ false → nat_eq byte com_field_list ≡ false → (p : Bool) → nat_eq byte com_prepare ≡ p → text_asked byte rest ≡ None
  last q i f true is = (let no = rw (q, i, f, is) at none in cc)
  last q i f false is = rw (q, i, f, is) refl

  third : nat_eq byte com_query ≡ false → nat_eq byte com_init_db ≡ false → (f : Bool) → nat_eq byte com_field_list ≡ f → text_asked byte rest ≡ None
  third q i true is = (let no = rw (q, i, is) at none in cc)
  third q i false is = last q i is (nat_eq byte com_prepare) refl

  second : nat_eq byte com_query ≡ false → (i : Bool) → nat_eq byte com_init_db ≡ i → text_asked byte rest ≡ None
  second q true is = (let no = rw (q, is) at none in cc)
  second q false is = third q is (nat_eq byte com_field_list) refl

  by : (q : Bool) → nat_eq byte com_query ≡ q → text_asked byte rest ≡ None
  by true is = (let no = rw is at none in cc)
  by false is = second is (nat_eq byte com_init_db) refl

some-kind : (a b : ReplyKind) → Some a ≡ Some b → a ≡ b
some-kind a b same = cc

spelt-so : (byte first : ℕ) (rest packets : List ℕ) → nat_eq byte first ≡ true → packets ≡ spelling 0 (byte ∷ rest) → packets ≡ spelling 0 (first ∷ rest)
spelt-so byte first rest packets is spelt = spelt ∙ ap (λ (b : ℕ). spelling 0 (b ∷ rest)) (nat_eq-true byte first is)

pub asks_some : (byte : ℕ) (rest : List ℕ) (of : ReplyKind) (packets : List ℕ) (P : Option Asked → Type 0) → kind_of byte ≡ Some of → packets ≡ spelling 0 (byte ∷ rest)
    → ((command : Command) → IsText command of packets → P (Some (Says command))) → P (option_map (λ command. Says command) (text_asked byte rest))
asks_some byte rest of packets P is_kind spelt holds = by (nat_eq byte com_query) refl where
  last : nat_eq byte com_query ≡ false → nat_eq byte com_init_db ≡ false → nat_eq byte com_field_list ≡ false → (p : Bool) → nat_eq byte com_prepare ≡ p → P (option_map (λ command. Says command) (text_asked byte rest))
  last q i f true is =
      let same = rw (q, i, f, is) at is_kind in
      rw (q, i, f, is) (holds (Prepare rest) (record { kind = some-kind of kind.Prepare (sym same); spelt = spelt-so byte com_prepare rest packets is spelt }))
  last q i f false is = (let no = rw (q, i, f, is) at is_kind in cc)

  third : nat_eq byte com_query ≡ false → nat_eq byte com_init_db ≡ false → (f : Bool) → nat_eq byte com_field_list ≡ f → P (option_map (λ command. Says command) (text_asked byte rest))
  third q i true is =
      let same = rw (q, i, is) at is_kind in
      rw (q, i, is) (holds (FieldList rest) (record { kind = some-kind of kind.Fields (sym same); spelt = spelt-so byte com_field_list rest packets is spelt }))
  third q i false is = last q i is (nat_eq byte com_prepare) refl

  second : nat_eq byte com_query ≡ false → (i : Bool) → nat_eq byte com_init_db ≡ i → P (option_map (λ command. Says command) (text_asked byte rest))
  second q true is =
      let same = rw (q, is) at is_kind in
      rw (q, is) (holds (InitDb rest) (record { kind = some-kind of kind.Command (sym same); spelt = spelt-so byte com_init_db rest packets is spelt }))
  second q false is = third q is (nat_eq byte com_field_list) refl

  by : (q : Bool) → nat_eq byte com_query ≡ q → P (option_map (λ command. Says command) (text_asked byte rest))
  by true is =
      let same = rw is at is_kind in
      rw is (holds (Query rest) (record { kind = some-kind of kind.Command (sym same); spelt = spelt-so byte com_query rest packets is spelt }))
  by false is = second is (nat_eq byte com_init_db) refl

-- a payload that has a first byte is that byte and the others
pub payload_whole : (payload : List ℕ) (of : ReplyKind) → kind_of (slice_index_or payload 0 0) ≡ Some of → payload ≡ slice_index_or payload 0 0 ∷ drop 1 payload
payload_whole [] of is = (let no : None ≡ Some of = is in cc)
payload_whole (byte ∷ rest) of is = refl
