use Rattle.mx_config.proofs.Documents.{document_of-read, document_of-refused}
use Rattle.mx_config.proofs.read.read_config.Goals as goal

pub returns-in-Ok-clause-said : goal.returns-in-Ok-clause-said
returns-in-Ok-clause-said c = λ is_pattern agrees. rw (document_of-read c.args.bytes.now _ c.in-Ok.ensures.ok.0 c.in-Ok.ensures.ok.1) (c.read_file.ensures.said is_pattern agrees)

pub returns-else-is_memory-clause-said : goal.returns-else-is_memory-clause-said
returns-else-is_memory-clause-said c = λ is_pattern agrees.
    rw (document_of-refused c.args.bytes.now (c.in-Err.ensures.refused (λ memory. let yes = c.is_memory.ensures.1 memory in let no = c.if-is_memory.false in cc)), ← c.whole.ensures) c.refusal.ensures
