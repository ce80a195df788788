-- What a client said by an entry is what it had said as the entry was told.
use Rattle.std.specs.Prelude.{◌≡◌, ℕ, List}
use Rattle.std.proofs.Common.{sym, ap, ◌∙◌, subst}
use Rattle.mx_wire.specs.Log.{Log}
use Rattle.mx_wire.specs.declared.entry.Entry.{Entry}
use Rattle.client_session.specs.Answers.{Talk}
use Rattle.client_session.specs.Setups.{Setup as Service}
use Rattle.private_model.specs.Names.{ClientNo}
use Rattle.private_model.specs.View.{Setup}
use Rattle.log_story.specs.Headline.{tale_of}
use Rattle.log_story.specs.Owed.{talk_of}
use Rattle.log_story.specs.Plan.{Plan}
use Rattle.log_story.specs.Tale.{Client, Tale}
use Rattle.log_story.specs.Telling.{tale_step, told}
use Rattle.step_laws.specs.Seats.{IsSeated, seats}
use Rattle.core_tables.specs.Tables.{Tabled}
use Rattle.core_laws.proofs.OfEntry.Going.{tale_more}
use Rattle.core_laws.specs.clients.Found.{AreFoundAt}
use Rattle.core_laws.specs.clients.Turns.{Choice, Halt, Turns}
use Rattle.core_laws.specs.entry.Cores.{with_entry}
use Rattle.core_promises.proofs.Takings.{Covers}
use Rattle.router_promises.specs.Takings.{Taking, takings_at}
use Rattle.router_laws.proofs.OfClients.Counting.{one_seated}
use Rattle.router_laws.proofs.OfClients.Entering.{log_numbers}
use Rattle.router_laws.proofs.OfClients.LetIn.{told_there}
use Rattle.router_laws.proofs.OfDecisions.Covering.{found_covered}

module _ (setup : Setup) (plan : Plan) (log : Log) (e : Entry) (said x : Client) (seated : IsSeated (told setup plan (tale_of setup plan log) e) said)
    (there : IsSeated (tale_of setup plan (with_entry log e)) x) (number : x.number ≡ said.number) where
  abbrev new : Tale
  new = tale_step setup plan (tale_of setup plan log) e

  pub talk_then : talk_of plan x ≡ talk_of plan said
  talk_then =
      let later = told_there setup plan (tale_of setup plan log) e (log_numbers setup plan log) said seated in
      let here : IsSeated new x = subst (λ (tale : Tale). IsSeated tale x) (tale_more setup plan log e) there in
      let same : x ≡ later.0 =
      one_seated x later.0 (seats new x.number) (sym here) (ap (seats new) (number ∙ sym later.2.number) ∙ later.1) in
      ap (talk_of plan) same
      ∙ (λ i. talk_of plan (record said { number = later.2.number i; port = later.2.port i; salt = later.2.salt i; read = later.2.read i }))

  pub found_then : (choices : List Choice) (halt : Halt) (service : Service) (default : List ℕ) (c : ClientNo) (mid turned : Tabled)
      (turns : Turns choices halt service default c mid turned) (k : ℕ) → said.taken ≡ k → (takings : List Taking)
      → Covers setup c takings (takings_at setup plan (tale_of setup plan log) e)
      → AreFoundAt choices halt service default c mid turned turns setup plan takings (talk_of plan said) said.taken
      → AreFoundAt choices halt service default c mid turned turns setup plan (takings_at setup plan (tale_of setup plan log) e) (talk_of plan x) k
  found_then choices halt service default c mid turned turns k taken takings covers found =
      let others : List Taking = takings_at setup plan (tale_of setup plan log) e in
      subst (λ (talk : Talk). AreFoundAt choices halt service default c mid turned turns setup plan others talk k) (sym talk_then)
      (subst (AreFoundAt choices halt service default c mid turned turns setup plan others (talk_of plan said)) taken
      (found_covered setup plan c takings others covers choices halt service default mid turned turns (talk_of plan said) said.taken found))
