-- Where nothing is decided at a moment, nothing is given up then, nobody is ended and nobody told a word.
use Rattle.std.specs.Prelude.{◌≡◌, ◌<◌, ◌≤◌, ℕ, suc, Bool, true, false, if◌then◌else◌, nat_eq, nat_le, Option, Some, None}
use Rattle.std.specs.Option.{option_and_then, option_map_or}
use Rattle.std.proofs.Common.{refl, sym, ap, ◌∙◌, subst, arith}
use Rattle.private_model.specs.Names.{ClientNo, MessageName}
use Rattle.log_story.specs.Plan.{LastWord, OwnAnswer, Plan, gives_up, word_at}
use Rattle.step_laws.specs.Steps.{ends_now}
use Rattle.tale_world.specs.Decided.{Decided}
use Rattle.core_laws.specs.entry.Grows.{DecidesNothing}
use Rattle.core_laws.specs.entry.Tells.{IsOf}

later_not : (from moment : ℕ) → moment < from → nat_eq from moment ≡ false
later_not from moment later = grind arith

early_not : (from moment : ℕ) → from ≤ moment → nat_eq from (suc moment) ≡ false
early_not from moment early = grind arith

early_by : (from moment : ℕ) → from ≤ moment → nat_le from moment ≡ true
early_by from moment early = grind arith

later_by : (from moment : ℕ) → moment < from → nat_le from moment ≡ false
later_by from moment later = grind arith

module _ (d : Decided) (moment : ℕ) (plan : Plan) (nothing : DecidesNothing d moment) (is : IsOf d (suc moment) plan) where
  own_by : (m : MessageName) (decided : Option OwnAnswer) (planned : Option OwnAnswer) → d.own m ≡ Some decided → plan.own m ≡ planned
      → option_map_or (λ (a : OwnAnswer). nat_eq a.from (suc moment)) planned false ≡ false
  own_by m decided None was planned = refl
  own_by m None (Some answer) was planned = later_not answer.from (suc moment) (is.agrees.unanswered m answer was planned)
  own_by m (Some own) (Some answer) was planned =
      let same : Some own ≡ Some answer = sym (is.agrees.answered m own was) ∙ planned in
      let answers : own ≡ answer = cc in
      subst (λ (a : OwnAnswer). nat_eq a.from (suc moment) ≡ false) answers (early_not own.from moment (nothing.answered m own was))

  pub none_given_up : (m : MessageName) (own : Option OwnAnswer) → d.own m ≡ Some own → gives_up plan (suc moment) m ≡ false
  none_given_up m own was = own_by m own (plan.own m) was refl

  end_by : (c : ClientNo) (decided planned : Option ℕ) → d.ends c ≡ decided → plan.ends c ≡ planned
      → option_map_or (λ (n : ℕ). nat_eq n (suc moment)) planned false ≡ false
  end_by c decided None was planned = refl
  end_by c None (Some at) was planned =
      let later : d.until < at = is.agrees.going c at was planned in later_not at (suc moment) (omega (arith, later, nothing.until))
  end_by c (Some end) (Some at) was planned =
      let same : Some end ≡ Some at = sym (is.agrees.ended c end was) ∙ planned in
      let ends : end ≡ at = cc in
      subst (λ (n : ℕ). nat_eq n (suc moment) ≡ false) ends (early_not end moment (nothing.ended c end was))

  pub none_ends : (c : ClientNo) → ends_now plan (suc moment) c ≡ false
  none_ends c = end_by c (d.ends c) (plan.ends c) refl refl

  abbrev word_in : (moment : ℕ) → Option LastWord → Option LastWord
  word_in at word = option_and_then (λ (w : LastWord). if nat_le w.from at then Some w else None) word

  both_by : (word : LastWord) (a b : ℕ) (due : Bool) → nat_le word.from a ≡ due → nat_le word.from b ≡ due → word_in a (Some word) ≡ word_in b (Some word)
  both_by word a b due one other = ap (λ (t : Bool). if t then Some word else None) (one ∙ sym other)

  word_by : (c : ClientNo) (decided planned : Option LastWord) → d.words c ≡ decided → plan.words c ≡ planned
      → word_in (suc moment) planned ≡ word_in moment planned
  word_by c decided None was planned = refl
  word_by c None (Some word) was planned =
      let later : suc moment < word.from = is.untold c word was planned in
      both_by word (suc moment) moment false (later_by word.from (suc moment) later) (later_by word.from moment (omega (arith, later)))
  word_by c (Some told) (Some word) was planned =
      let same : Some told ≡ Some word = sym (is.told c told was) ∙ planned in
      let words : told ≡ word = cc in
      let early : word.from ≤ moment = subst (λ (w : LastWord). w.from ≤ moment) words (nothing.told c told was) in
      both_by word (suc moment) moment true (early_by word.from (suc moment) (omega (arith, early))) (early_by word.from moment early)

  pub words_stay : (c : ClientNo) → word_at plan (suc moment) c ≡ word_at plan moment c
  words_stay c = word_by c (d.words c) (plan.words c) refl refl
