use Rattle.handshake.specs.Greeting.{greeting_fields}
use Rattle.handshake.proofs.greeting.write_greeting.Goals as goal

pub returns-clause-ok : goal.returns-clause-ok
unfolding greeting_fields
returns-clause-ok c = rw (c.text_field-version.ensures, c.as_slice.ensures, c.to_le_bytes-connection.ensures, c.split_at.ensures.front, c.split_at.ensures.back, c.split_at-2.ensures.front, c.split_at-2.ensures.back, c.to_le_bytes-offered.ensures, c.to_le_bytes-status.ensures, c.under-plugin.ensures, c.under-plugin_end.ensures, c.text_field.ensures, c.as_slice-2.ensures) at c.put_fields.ensures.ok
