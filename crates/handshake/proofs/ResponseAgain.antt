-- Bytes that have a response's fields are read as that response.
use Rattle.std.specs.Prelude.{◌≡◌, ◌≤◌, ℕ, ◌+◌, Bool, true, false, not, cond, ◌||◌, List, [], ◌∷◌, ◌++◌, length, drop, unwrap_or, Option, Some, None, Ok, refl}
use Rattle.std.proofs.Common.{◌∙◌, ap, arith, zero-add, inl}
use Rattle.mx_base.specs.Fields.{number_at, value_to, lenenc, lenenc_at}
use Rattle.mx_base.specs.FieldLaws.{number_at-there, lenenc_at-again}
use Rattle.mx_base.specs.declared.fields.Field.TheVariants.{Value}
use Rattle.handshake.specs.declared.capability.TheConstants.{PROTOCOL_41, SECURE_CONNECTION, CONNECT_WITH_DB, PLUGIN_AUTH, CONNECT_ATTRS, PLUGIN_AUTH_LENENC_CLIENT_DATA}
use Rattle.handshake.specs.declared.response.Response.{Response}
use Rattle.handshake.specs.Capability.{has, needed_of_response}
use Rattle.handshake.specs.Reading.{◌>>=◌, optional_text}
use Rattle.handshake.specs.Spelling.{nul, IsEndingIf, under, spelled}
use Rattle.handshake.specs.Response.{ResponseFillers, response_fields, response_fillers, response_bytes, is_schema_last, is_plugin_last, IsNamed, IsResponse, HasResponse, head_fields, response_of}
use Rattle.handshake.proofs.FieldsAgain.{rest_of, number_field-is, number_field-again, bytes_field-again, text_field-again, last_text-again, spelled-more}
use Rattle.handshake.proofs.CountedAgain.{counted_field-there}

needed-again : (capabilities : ℕ) → has PROTOCOL_41 capabilities ≡ true → (has PLUGIN_AUTH_LENENC_CLIENT_DATA capabilities || has SECURE_CONNECTION capabilities) ≡ true → needed_of_response capabilities ≡ Ok tt
needed-again capabilities protocol counted = rw (protocol, counted) refl

length-again : (prefixed : Bool) (n : ℕ) (more : List ℕ) → n ≤ 255 → cond prefixed (lenenc_at 0 (cond prefixed (lenenc n) (n ∷ []) ++ more)) (value_to 1 (number_at 1 0 (cond prefixed (lenenc n) (n ∷ []) ++ more))) ≡ Value n (length (cond prefixed (lenenc n) (n ∷ [])))
length-again true n more small = lenenc_at-again n [] more (omega arith) ∙ ap (Value n) (zero-add (length (lenenc n)))
length-again false n more small = ap (value_to 1) (number_at-there 1 [] (n ∷ []) more refl) ∙ ap (λ (m : ℕ). Value m 1) (omega arith)

-- the bytes of a text that may be there
abbrev text_under : Bool → Option (List ℕ) → (ending more : List ℕ) → List ℕ
text_under there text ending more = cond there (unwrap_or text []) [] ++ (cond there ending [] ++ more)

plugin-again : {A : Type 0} (named last : Bool) (plugin : Option (List ℕ)) (ending more : List ℕ) (at : ℕ) (made : Option (List ℕ) → A) → IsNamed named plugin → IsEndingIf last ending more
    → (optional_text named last (rest_of (text_under named plugin ending more) at) >>= λ p. Ok (made p.0)) ≡ Ok (made plugin)
unfolding optional_text
plugin-again true true (Some text) ending more at made is ended = rw (last_text-again text ending more at is ended) refl
plugin-again true false (Some text) ending more at made is ended = rw (ended, text_field-again text more at is) refl
plugin-again true last None ending more at made is ended = absurd is
plugin-again false last (Some text) ending more at made is ended = absurd is
plugin-again false last None ending more at made is ended = refl

texts-again : {A : Type 0} (in_schema named followed : Bool) (schema plugin : Option (List ℕ)) (ending plugin_ending more : List ℕ) (at : ℕ) (made : Option (List ℕ) → Option (List ℕ) → A)
    → IsNamed in_schema schema → IsNamed named plugin → IsEndingIf (not (named || followed)) ending more → IsEndingIf (not followed) plugin_ending more
    → (optional_text in_schema (not (named || followed)) (rest_of (text_under in_schema schema ending (text_under named plugin plugin_ending more)) at) >>= λ s. optional_text named (not followed) s.1 >>= λ p. Ok (made s.0 p.0)) ≡ Ok (made schema plugin)
unfolding optional_text
texts-again true true followed (Some text) plugin ending plugin_ending more at made is also ended plugin_ended =
    rw (ended, text_field-again text (text_under true plugin plugin_ending more) at is) (plugin-again true (not followed) plugin plugin_ending more (at + (length text + 1)) (made (Some text)) also plugin_ended)
texts-again true false true (Some text) plugin ending plugin_ending more at made is also ended plugin_ended =
    rw (ended, text_field-again text (text_under false plugin plugin_ending more) at is) (plugin-again false false plugin plugin_ending more (at + (length text + 1)) (made (Some text)) also plugin_ended)
texts-again true false false (Some text) None ending plugin_ending more at made is also ended plugin_ended = rw (last_text-again text ending more at is ended) refl
texts-again true false false (Some text) (Some plugin) ending plugin_ending more at made is also ended plugin_ended = absurd also
texts-again true named followed None plugin ending plugin_ending more at made is also ended plugin_ended = absurd is
texts-again false named followed (Some text) plugin ending plugin_ending more at made is also ended plugin_ended = absurd is
texts-again false named followed None plugin ending plugin_ending more at made is also ended plugin_ended = plugin-again named (not followed) plugin plugin_ending more at (made None) also plugin_ended

fields-again : (bytes : List ℕ) (r : Response) (has_fields : HasResponse bytes r) → response_of (spelled (response_fields has_fields.fillers r) has_fields.more) ≡ Ok r
unfolding response_of head_fields response_fields
fields-again bytes r has_fields =
    let is : IsResponse r = has_fields.fits in
    let fillers : ResponseFillers = has_fields.fillers in
    let left : ℕ → List ℕ = λ n. spelled (drop n (response_fields fillers r)) has_fields.more in
    let at : ℕ = 4 + 4 + 1 + 23 + (length r.user + 1) in
    rw (
      number_field-again 4 r.capabilities (left 1) 0 is.capabilities,
      needed-again r.capabilities is.protocol_41 is.counted,
      number_field-again 4 r.max_packet (left 2) 4 is.max_packet,
      number_field-is 1 (r.collation ∷ []) (left 3) 8 r.collation refl (omega arith),
      bytes_field-again 23 fillers.filler (left 4) 9 has_fields.filler,
      text_field-again r.user (left 6) 32 is.user,
      has_fields.answer_length (r.answer ++ left 8),
      counted_field-there fillers.answer_length r.answer (left 8) at,
    )
    (texts-again (has CONNECT_WITH_DB r.capabilities) (has PLUGIN_AUTH r.capabilities) (has CONNECT_ATTRS r.capabilities) r.schema r.plugin fillers.schema_end fillers.plugin_end has_fields.more (at + (length fillers.answer_length + length r.answer))
    (λ schema plugin. record r { schema = schema; plugin = plugin }) is.schema is.plugin has_fields.schema_end has_fields.plugin_end)

pub response_of-has : (bytes : List ℕ) (r : Response) → HasResponse bytes r → response_of bytes ≡ Ok r
response_of-has bytes r has_fields = ap response_of has_fields.is ∙ fields-again bytes r has_fields

ends_by_nul : (last : Bool) (more : List ℕ) → IsEndingIf last nul more
ends_by_nul true more = inl refl
ends_by_nul false more = refl

pub response_bytes-has : (r : Response) (more : List ℕ) → IsResponse r → length r.answer ≤ 255 → HasResponse (response_bytes r ++ more) r
response_bytes-has r more is small =
    let attributes : List ℕ = under CONNECT_ATTRS r.capabilities (0 ∷ []) in
    record {
      fits = is;
      fillers = response_fillers r;
      filler = refl;
      answer_length = λ rest. length-again (has PLUGIN_AUTH_LENENC_CLIENT_DATA r.capabilities) (length r.answer) rest small;
      more = attributes ++ more;
      schema_end = ends_by_nul (is_schema_last r.capabilities) (attributes ++ more);
      plugin_end = ends_by_nul (is_plugin_last r.capabilities) (attributes ++ more);
      is = spelled-more (response_fields (response_fillers r) r) attributes more;
    }
