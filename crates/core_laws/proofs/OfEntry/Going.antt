-- A log goes on with an entry.
use Rattle.std.specs.Prelude.{◌≡◌, [], ◌∷◌, ◌++◌, false, fold}
use Rattle.std.proofs.Common.{subst}
use Rattle.std.proofs.lemmas.List.Sums.{fold-append}
use Rattle.mx_wire.specs.Log.{Log}
use Rattle.mx_wire.specs.Moments.{moment-more}
use Rattle.mx_wire.specs.declared.entry.Entry.{Entry}
use Rattle.private_model.specs.View.{Setup}
use Rattle.log_story.specs.Headline.{WritesDue, tale_of}
use Rattle.log_story.specs.Plan.{Plan}
use Rattle.log_story.specs.Said.{ClosesFirst, SaysFrom, SaysSo}
use Rattle.log_story.specs.Tale.{Tale, first_tale}
use Rattle.log_story.specs.Telling.{story_of, tale_step}
use Rattle.tale_world.specs.Tested.{IsTestedFrom, Passes, has_broken}
use Rattle.core_laws.specs.entry.Safe.{IsSafe}
use Rattle.run_laws.specs.Tells.{TellsBytes}

module _ (setup : Setup) (plan : Plan) where
  abbrev pub after : Tale → Log → Tale
  after tale log = fold (tale_step setup plan) tale log

  says_more : (tale : Tale) (log : Log) (e : Entry) → SaysFrom setup plan tale log → ClosesFirst setup (after tale log) e
      → SaysSo setup plan (tale_step setup plan (after tale log) e) → SaysFrom setup plan tale (log ++ e ∷ [])
  says_more tale [] e is closes so = (is, closes, so)
  says_more tale (x ∷ log) e is closes so = (is.0, is.1, says_more (tale_step setup plan tale x) log e is.2 closes so)

  tested_more : (tale : Tale) (log : Log) (e : Entry) → IsTestedFrom setup plan tale log → Passes setup plan (after tale log) e
      → IsTestedFrom setup plan tale (log ++ e ∷ [])
  tested_more tale [] e is passes = (passes, tt)
  tested_more tale (x ∷ log) e is passes = (is.0, tested_more (tale_step setup plan tale x) log e is.1 passes)

  -- the tale with one more entry
  pub tale_more : (log : Log) (e : Entry) → tale_of setup plan (log ++ e ∷ []) ≡ tale_step setup plan (tale_of setup plan log) e
  tale_more log e = fold-append (tale_step setup plan) first_tale log (e ∷ [])

  pub safe_more : (log : Log) (e : Entry) → IsSafe setup plan log → Passes setup plan (tale_of setup plan log) e
      → has_broken (story_of setup plan (log ++ e ∷ [])) ≡ false → TellsBytes (tale_of setup plan (log ++ e ∷ []))
      → ClosesFirst setup (tale_of setup plan log) e → SaysSo setup plan (tale_of setup plan (log ++ e ∷ []))
      → WritesDue setup plan (log ++ e ∷ []) → IsSafe setup plan (log ++ e ∷ [])
  safe_more log e safe passes unbroken tells closes so due = record {
    tested = tested_more first_tale log e safe.tested passes;
    unbroken = unbroken;
    told = tells;
    said = says_more first_tale log e safe.said closes (subst (SaysSo setup plan) (tale_more log e) so);
    written = moment-more (WritesDue setup plan) log e safe.written due;
  }
