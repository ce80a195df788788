use Rattle.std.proofs.Common.{refl, subst, sym}
use Rattle.std.proofs.lemmas.Result.{on_ok_weaker}
use Rattle.core_texts.proofs.Keeping.{itself_more}
use Rattle.shared_core.proofs.Hears.{heard_so}
use Rattle.shared_core.proofs.Keeping.{but_behind, keeps_along, made_behind}
use Rattle.shared_core.specs.Follows.{HasCalled, Keeps, Made}
use Rattle.shared_core.specs.Stands.{tables}
use Rattle.shared_core.proofs.router.Router.hears.Goals as goal

pub returns-clause-hears : goal.returns-clause-hears
returns-clause-hears c =
    let kept : Keeps c.args.self.now c.free.new.self =
    keeps_along c.args.self.now _ _ c.free.ensures.keeps
    (keeps_along c.args.self.now _ _ c.in_ok-gives.ensures.keeps
    (let kept : Keeps c.args.self.now c.keeps.new.self = keeps_along c.args.self.now _ _ c.in_ok-keeps.ensures.keeps
    (record { goes = c.in_ok-said.ensures.goes; roomy = refl; came = refl; asked = refl; client = refl; link = refl; texts = itself_more _; work = refl }) in
    record {
      goes = kept.goes;
      roomy = kept.roomy;
      came = kept.came;
      asked = kept.asked;
      client = kept.client;
      link = kept.link;
      texts = kept.texts;
      work = kept.work;
    })) in
    on_ok_weaker c.call.result
    (λ calls there reads. heard_so c.hears_so.ensures.so c.hears_so.ensures.going c.args.service.now c.args.link c.args.bytes.now c.args.self.now
    c.call.new.self c.carried-name.result _ c.may_give-given.result _ _ _ _ c.carried-name.ensures c.in_ok-said.ensures.is c.in_ok-keeps.ensures.is
    c.may_give-given.ensures c.in_ok-gives.ensures.gives
    c.free.ensures.is
    (λ told its for.
    subst (λ (made : Made). HasCalled c.args.service.now made c.carried-name.result told (tables c.free.new.self) (tables c.call.new.self))
    (sym (made_behind c.args.service.now c.args.self.now c.free.new.self c.call.new.self kept)) (calls told its for)) there reads) c.call.ensures.calls

pub returns-clause-keeps : goal.returns-clause-keeps
returns-clause-keeps c =
    let kept : Keeps c.args.self.now c.free.new.self =
    keeps_along c.args.self.now _ _ c.free.ensures.keeps
    (keeps_along c.args.self.now _ _ c.in_ok-gives.ensures.keeps
    (let kept : Keeps c.args.self.now c.keeps.new.self = keeps_along c.args.self.now _ _ c.in_ok-keeps.ensures.keeps
    (record { goes = c.in_ok-said.ensures.goes; roomy = refl; came = refl; asked = refl; client = refl; link = refl; texts = itself_more _; work = refl }) in
    record {
      goes = kept.goes;
      roomy = kept.roomy;
      came = kept.came;
      asked = kept.asked;
      client = kept.client;
      link = kept.link;
      texts = kept.texts;
      work = kept.work;
    })) in
    on_ok_weaker c.call.result
    (λ keeps. but_behind c.args.self.now c.free.new.self c.call.new.self keeps kept) c.call.ensures.keeps
