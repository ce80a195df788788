use Rattle.apart_cases.proofs.told.serves_others.Goals as goal

pub returns : goal.returns
returns c = λ terms log keeps other. other keeps.router.service
