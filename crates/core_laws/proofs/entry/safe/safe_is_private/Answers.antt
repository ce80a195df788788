use Rattle.core_laws.proofs.entry.safe.safe_is_private.Goals as goal

pub returns : goal.returns
returns c = record {
  read = λ setup plan tests server log tame accepted safe honest.
      c.private_bytes.ensures setup plan tests server log tame accepted
      (c.lawful_by_tests.ensures setup plan log safe.tested safe.unbroken) safe.said honest;
  written = λ setup plan tests server log tame accepted safe honest.
      c.written_is_private.ensures setup plan tests server log tame accepted
      (c.lawful_by_tests.ensures setup plan log safe.tested safe.unbroken) safe.said honest safe.written;
}
