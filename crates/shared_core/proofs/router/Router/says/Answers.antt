use Rattle.std.proofs.Common.{◌∙◌, refl}
use Rattle.core_texts.proofs.Keeping.{itself_more}
use Rattle.shared_core.proofs.Givings.{own-as}
use Rattle.shared_core.proofs.Keeping.{keeps_still}
use Rattle.shared_core.proofs.Last.{nobody-there}
use Rattle.shared_core.proofs.router.Router.says.Goals as goal

pub returns-in-None-clause-told : goal.returns-in-None-clause-told
returns-in-None-clause-told c = λ there. absurd (nobody-there _ c.in-None.ensures there)

pub returns-in-None-clause-keeps : goal.returns-in-None-clause-keeps
returns-in-None-clause-keeps c = keeps_still _

pub returns-clause-told : goal.returns-clause-told
returns-clause-told c = λ there. record {
  payload = c.as_slice.result.now;
  is = c.as_slice.ensures.value ∙ c.in_ok-payload.ensures.is;
  own = own-as _ _ _ c.as_slice.ensures.value c.in_ok-payload.ensures.is c.in_ok-payload.ensures.own;
  told = c.in_ok-last_word.ensures.is;
}

pub returns-clause-keeps : goal.returns-clause-keeps
returns-clause-keeps c =
    record {
      goes = c.in_ok-last_word.ensures.goes;
      roomy = refl;
      came = refl;
      asked = refl;
      client = refl;
      link = refl;
      texts = itself_more _;
      work = refl;
    }
