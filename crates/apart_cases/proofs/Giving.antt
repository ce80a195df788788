-- What is given up in the worked log of router_cases has its cause.
use Rattle.std.specs.Prelude.{◌≡◌, ℕ, suc, Bool, true, false, [], ◌∷◌, ◌++◌, Option, Some, None, if◌then◌else◌, refl, slice_index_or}
use Rattle.std.proofs.Common.{subst, inr}
use Rattle.client_session.specs.Errors.{connection_refused}
use Rattle.mx_base.specs.declared.names.Port.TheVariants.{Admin, Traffic}
use Rattle.mx_base.specs.declared.tag.Tag.TheVariants.{Reply as ReplyTag}
use Rattle.mx_wire.specs.declared.entry.Entry.TheVariants.{AcceptNothing, Got, NoneNamed, OpenFailed, ReadNothing, Woke, Wrote}
use Rattle.packet_frame.specs.Packets.{spelling}
use Rattle.private_model.specs.Names.{MessageName}
use Rattle.private_model.specs.Story.{is_message}
use Rattle.log_story.specs.Owed.{name_of}
use Rattle.log_story.specs.Plan.{OwnAnswer}
use Rattle.log_story.specs.Tale.{Client}
use Rattle.router_cases.specs.Worked.{Stored, comes, fourth_part, here, link, log, message, never, plan, proxy, query, second_part, server, terms_with, third_part}
use Rattle.router_promises.specs.Terms.{setup_in, tale_at}
use Rattle.core_promises.specs.Causes.{GivesUpSo, HasCause}
use Rattle.core_promises.specs.Endings.{EndsForCauses}

abbrev refused : OwnAnswer
refused = record { from = 8; payloads = connection_refused ∷ [] }

one-answer : (a b : OwnAnswer) → ◌≡◌ {A = Option OwnAnswer} (Some a) (Some b) → a ≡ b
one-answer a b is = cc

no-answer : {A : Type 0} (a : OwnAnswer) → ◌≡◌ {A = Option OwnAnswer} None (Some a) → A
no-answer a is = absurd (cc)

-- no link could be opened for it
cause-of : (stored : Stored) (m : MessageName) (is_first : Bool) (answer : OwnAnswer) → ◌≡◌ {A = Option OwnAnswer} (if is_first then Some refused else None) (Some answer)
    → HasCause proxy.wait_ms (setup_in (terms_with stored)) plan log m answer
cause-of stored m true answer is =
    subst (HasCause proxy.wait_ms (setup_in (terms_with stored)) plan log m) (one-answer refused answer is) (record {
      before = Woke never 0 ∷ (comes 1 ++ (AcceptNothing Traffic ∷ Got (link 1) query ∷ []));
      entry = OpenFailed server here;
      later = Wrote (link 1) ReplyTag (spelling 1 connection_refused) ∷ AcceptNothing Admin ∷ NoneNamed ∷ ReadNothing (link 1)
          ∷ (second_part ++ (third_part ++ fourth_part));
      there = refl;
      from = refl;
      payload = connection_refused;
      one = refl;
      why = refl;
    })
cause-of stored m false answer is = no-answer answer is

pub gives-worked : (stored : Stored) → GivesUpSo (terms_with stored) log
gives-worked stored = λ i dflt within k answer taken own by_now.
    let client : Client = slice_index_or (tale_at (terms_with stored) log).clients i dflt in
    inr (cause-of stored (name_of client (suc k)) (is_message (name_of client (suc k)) (message 1 1)) answer own)

-- nobody ends there

no-end : {A : Type 0} (at : ℕ) → ◌≡◌ {A = Option ℕ} None (Some at) → A
no-end at is = absurd (cc)

pub ends-worked : (stored : Stored) → EndsForCauses (terms_with stored) log
ends-worked stored = λ i dflt within at ended by_now. no-end at ended
