-- A plan that has what is decided behind an entry has what was decided before it.
use Rattle.std.specs.Prelude.{◌≡◌, ◌⊎◌, ◌<◌, ℕ, suc, All, List, ◌++◌, Some, None}
use Rattle.std.proofs.Common.{refl, sym, ap, ◌∙◌, subst, arith, inl, inr}
use Rattle.client_session.specs.Answers.{account, account_in, heard_more, opening_of}
use Rattle.client_side.specs.Laws.{opening-says-more}
use Rattle.client_side.specs.Login.{Fails, Opening, Says, Waits}
use Rattle.private_model.specs.Names.{ClientNo, MessageName}
use Rattle.private_model.specs.View.{Setup}
use Rattle.log_story.specs.Owed.{talk_of}
use Rattle.log_story.specs.Plan.{LastWord, OwnAnswer, Plan}
use Rattle.log_story.specs.Tale.{Client, Tale}
use Rattle.tale_world.specs.Decided.{Decided}
use Rattle.core_laws.proofs.OfEntry.Lists.{seated_of}
use Rattle.core_laws.specs.entry.Grows.{IsAnsweredLater, IsEndedLater, IsHeardMore, IsMoreBy, IsToldLater}
use Rattle.core_laws.specs.entry.Tells.{AreWhoTheySay, IsOf, IsWhoItSays}

module _ (old new : Decided) (moment : ℕ) (plan : Plan) (more : IsMoreBy moment old new) (is : IsOf new (suc moment) plan) where
  unanswered_before : (m : MessageName) (answer : OwnAnswer) → (new.own m ≡ Some None) ⊎ IsAnsweredLater moment (new.own m) → plan.own m ≡ Some answer
      → moment < answer.from
  unanswered_before m answer (inl still) planned = let later = is.agrees.unanswered m answer still planned in omega (arith, later)
  unanswered_before m answer (inr now) planned =
      let same : Some now.answer ≡ Some answer = sym (is.agrees.answered m now.answer now.is) ∙ planned in
      let answers : now.answer ≡ answer = cc in
      subst (λ (a : OwnAnswer). moment < a.from) answers now.later

  going_before : (c : ClientNo) (at : ℕ) → (new.ends c ≡ None) ⊎ IsEndedLater old.until (new.ends c) → plan.ends c ≡ Some at → old.until < at
  going_before c at (inl still) planned = let later = is.agrees.going c at still planned in omega (arith, later, more.until)
  going_before c at (inr now) planned =
      let same : Some now.at ≡ Some at = sym (is.agrees.ended c now.at now.is) ∙ planned in
      let ends : now.at ≡ at = cc in
      subst (λ (n : ℕ). old.until < n) ends now.later

  untold_before : (c : ClientNo) (word : LastWord) → (new.words c ≡ None) ⊎ IsToldLater moment (new.words c) → plan.words c ≡ Some word → moment < word.from
  untold_before c word (inl still) planned = let later = is.untold c word still planned in omega (arith, later)
  untold_before c word (inr now) planned =
      let same : Some now.word ≡ Some word = sym (is.told c now.word now.is) ∙ planned in
      let words : now.word ≡ word = cc in
      subst (λ (w : LastWord). moment < w.from) words now.later

  pub of_before : IsOf old moment plan
  of_before = record {
    agrees = record {
      service = is.agrees.service ∙ more.service;
      room = is.agrees.room ∙ more.room;
      logins = λ l login decided. is.agrees.logins l login (more.logins l login decided);
      routes = λ m route decided. is.agrees.routes m route (more.routes m route decided);
      answered = λ m answer decided. is.agrees.answered m answer (more.answered m answer decided);
      unanswered = λ m answer decided planned. unanswered_before m answer (more.unanswered m decided) planned;
      ended = λ c at decided. is.agrees.ended c at (more.ended c at decided);
      going = λ c at decided planned. going_before c at (more.going c decided) planned;
      steps = λ l n step decided. is.agrees.steps l n step (more.steps l n step decided);
    };
    told = λ c word decided. is.told c word (more.told c word decided);
    untold = λ c word decided planned. untold_before c word (more.untold c decided) planned;
  }

-- Clients are who they say.

module _ (setup : Setup) (plan : Plan) (default : List ℕ) where
  abbrev IsWho : Client → Type 0
  IsWho client = IsWhoItSays setup plan default client (opening_of (talk_of plan client))

  who_by : (old new : Client) (more : List ℕ) → new.number ≡ old.number → talk_of plan new ≡ heard_more (talk_of plan old) more → (to : Opening)
      → opening_of (talk_of plan old) ≡ to → IsWho new → IsWhoItSays setup plan default old to
  who_by old new more number same (Waits switched) at is = tt
  who_by old new more number same (Fails switched fault id) at is = tt
  who_by old new more number same (Says switched response id rest) at is =
      λ login known.
      let now : opening_of (talk_of plan new) ≡ Says switched response id (rest ++ more) =
      ap opening_of same ∙ opening-says-more plan.service.limit old.read more switched response id rest at in
      let says : IsWhoItSays setup plan default new (Says switched response id (rest ++ more)) =
      subst (IsWhoItSays setup plan default new) now is in
      let knows : account (talk_of plan new) ≡ Some login =
      (λ i. account_in (same i) (now i)) ∙ sym (ap (account_in (talk_of plan old)) at) ∙ known in
      let both = says login knows in
      (ap setup.accounts (sym number) ∙ both.0, ap setup.places (sym number) ∙ both.1)

  who_before : (new : Tale) (client : Client) → IsHeardMore new client → AreWhoTheySay setup plan default new.clients → IsWho client
  who_before new client is who =
      let same : talk_of plan is.now ≡ heard_more (talk_of plan client) is.more =
      λ i. record { setup = plan.service; number = (is.number i).0; port = is.port i; salt = is.salt i; read = is.read i } in
      who_by client is.now is.more is.number same (opening_of (talk_of plan client)) refl (seated_of IsWho new is.now is.seated who)

  pub all_before : (old new : Tale) → All (λ (client : Client). IsHeardMore new client) old.clients → AreWhoTheySay setup plan default new.clients
      → AreWhoTheySay setup plan default old.clients
  all_before old new more who = λ k d within. who_before new _ (more k d within) who
