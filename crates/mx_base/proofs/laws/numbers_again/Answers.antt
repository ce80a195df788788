use Rattle.mx_base.specs.FieldLaws.{number_at-again, lenenc_at-again}
use Rattle.mx_base.proofs.laws.numbers_again.Goals as goal

pub returns-clause-fixed : goal.returns-clause-fixed
returns-clause-fixed c = number_at-again

pub returns-clause-lenenc : goal.returns-clause-lenenc
returns-clause-lenenc c = lenenc_at-again
