use Rattle.std.proofs.Common.{[], ◌∷◌}
use Rattle.std.proofs.lemmas.List.{append-nil}
use Rattle.handshake.specs.declared.capability.TheConstants.{CONNECT_ATTRS}
use Rattle.handshake.specs.Spelling.{under}
use Rattle.handshake.specs.Response.{response_fields}
use Rattle.handshake.proofs.response.write_response.Goals as goal

pub returns-clause-ok : goal.returns-clause-ok
unfolding response_fields
returns-clause-ok c =
    rw (c.to_le_bytes-offered.ensures, c.to_le_bytes-max_packet.ensures, c.text_field-user.ensures, c.as_slice.ensures, c.deref.ensures.value, c.in_ok-length.ensures, c.as_slice-answer.ensures, c.under-schema.ensures, c.under-schema_end.ensures, c.text_of.ensures, c.under-plugin.ensures, c.under-plugin_end.ensures, c.text_of-2.ensures, c.under-no_attributes.ensures, append-nil (under CONNECT_ATTRS c.args.response.now.capabilities (0 ∷ [])))
    at c.put_fields.ensures.ok
