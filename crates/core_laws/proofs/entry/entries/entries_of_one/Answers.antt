use Rattle.core_laws.proofs.OfEntry.Composing.{rest_of_one}
use Rattle.core_laws.proofs.entry.entries.entries_of_one.Goals as goal

pub returns : goal.returns
returns c = λ service g t now roomy room e over client ended freed rests is theirs its spared stands ends rooms own.
    rest_of_one service g t now roomy room e rests over client ended freed is theirs its spared stands ends rooms own
