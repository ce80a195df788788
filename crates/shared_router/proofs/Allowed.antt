-- At each moment of a log, those of whom a statement is due are users of the configuration.
use Rattle.std.specs.Prelude.{◌≡◌, ℕ, length, slice_get, take, List, [], ◌∷◌, ◌++◌, Some}
use Rattle.std.proofs.Common.{refl, sym, ap, ◌∙◌, subst, append_assoc, arith}
use Rattle.std.proofs.lemmas.List.{take-append-le, take_all}
use Rattle.client_session.specs.Answers.{messages_of, opening_of}
use Rattle.hostgroups.specs.declared.server.Server.{Server}
use Rattle.mx_wire.specs.Log.{Log}
use Rattle.mx_wire.specs.Moments.{AtEachMoment, LawfulAfter}
use Rattle.mx_wire.specs.declared.entry.Entry.{Entry}
use Rattle.private_model.specs.Names.{ClientNo, SessionName}
use Rattle.private_model.specs.Story.{BecameDue, Due, Story}
use Rattle.private_model.specs.View.{Setup}
use Rattle.log_story.specs.Owed.{talk_of}
use Rattle.log_story.specs.Plan.{Plan}
use Rattle.log_story.specs.Tale.{Client, Tale}
use Rattle.log_story.specs.Telling.{tale_step, told}
use Rattle.router_promises.specs.Now.{flag_taken}
use Rattle.router_promises.specs.Takings.{Taking, takings_at}
use Rattle.router_promises.specs.Terms.{AreWhoTheySay, IsWhoItSays, Terms, plan_in, setup_in, tale_at}
use Rattle.run_laws.specs.Becoming.{AllBecame}
use Rattle.run_laws.proofs.Going.{Keeps}
use Rattle.shared_router.specs.Fixed.{Fixed, IsNumbered, setup_of}
use Rattle.shared_router.specs.Judged.{AreJudged}
use Rattle.shared_router.specs.Ours.{IsOurLog}
use Rattle.shared_router.specs.Shared.{final_terms, world_at}
use Rattle.shared_router.proofs.Accounts.{IsUser, UsersSo}
use Rattle.shared_router.proofs.Becoming.{IsGood, step_became}
use Rattle.shared_router.proofs.Dues.{AllDue, due_is}
use Rattle.shared_router.proofs.Furthering.{tale_more}
use Rattle.shared_router.proofs.Looked.{Each}
use Rattle.shared_router.proofs.Numbered.{AreNumbered}
use Rattle.shared_router.proofs.Parting.{service_kept, tale_then}
use Rattle.shared_router.proofs.Ported.{is_traffic}
use Rattle.shared_router.proofs.Rereading.{judged_at, plain}
use Rattle.shared_router.proofs.Seated.{AllOf, AreLike, freed_clients, numbered_step, step_like}
use Rattle.shared_router.proofs.Users.{SaysSo, all_more, all_of, says_like, says_of, talk_by, user_of_one}

module _ (fixed : Fixed) where
  abbrev IsOne : ClientNo → Type 0
  IsOne client = IsUser fixed (fixed.accounts client)

  abbrev OfUsers : SessionName → Due → Type 0
  OfUsers n due = IsOne n.client

  dues_of : (story : Story) → AllBecame (setup_of fixed) OfUsers story → AllDue (λ m. IsOne m.client) story
  dues_of [] all = tt
  dues_of (BecameDue client hostgroup ordinal key command multiplex ∷ past) all = (all.0, dues_of past all.1)
  dues_of (_ ∷ past) all = dues_of past all

  each_like : (xs ys : List Client) → AreLike xs ys → AllOf (SaysSo fixed) ys → Each (SaysSo fixed) xs
  each_like [] ys like says = tt
  each_like (x ∷ xs) [] like says = absurd like
  each_like (x ∷ xs) (y ∷ ys) like says = (says_like fixed x y like.0 says.0, each_like xs ys like.1 says.1)

  -- along a log

  module _ (numbered : IsNumbered fixed) (log : Log) (our : IsOurLog fixed log) (who : AtEachMoment (AreWhoTheySay (final_terms fixed log)) log) where
    abbrev t : Terms
    t = final_terms fixed log

    abbrev last : Plan
    last = plan_in t

    abbrev setup : Setup
    setup = setup_in t

    moment_so : (before later : Log) → before ++ later ≡ log → take (length before) log ≡ before
    moment_so before later is =
        ap (λ l. take (length before) l) (sym is) ∙ take-append-le (length before) before later (omega arith) ∙ take_all (length before) before (omega arith)

    says_then : (before later : Log) → before ++ later ≡ log → AllOf (SaysSo fixed) (tale_at t before).clients
    says_then before later is =
        let there : AreWhoTheySay t before = subst (AreWhoTheySay t) (moment_so before later is) (who (length before)) in
        all_more (λ c. IsWhoItSays t c (opening_of (talk_of last c))) (SaysSo fixed) (λ c says. says_of fixed t c refl (service_kept fixed log).0 says)
        (tale_at t before).clients
        (all_of (λ c. IsWhoItSays t c (opening_of (talk_of last c))) (tale_at t before).clients there)

    nothing : Keeps (λ tale. Unit {0})
    nothing = record { tells = λ tale e calm so. tt; moves = λ tale client so. tt; counts = λ tale so. tt }

    abbrev Good : Taking → Type 0
    Good taking = IsGood setup last OfUsers (λ tale. Unit {0}) nothing (SaysSo fixed) (λ client says. says) (plain fixed numbered log our) taking

    good_all : (servers : List Server) (flags : ClientNo → ℕ) (takings : List Taking) → AreJudged fixed.starves t servers flags takings → Each Good takings
    good_all servers flags [] judged = tt
    good_all servers flags (taking ∷ takings) judged = (
      (λ any says next route goes request is.
          user_of_one fixed taking.client taking.client.taken taking.message
          (is_traffic t servers (flags taking.client.number) taking route goes (fixed.starves taking.tale.moment taking.client.number) judged.0) says
          (subst (λ by. slice_get (messages_of (talk_by fixed by taking.client)).messages taking.client.taken ≡ Some taking.message) (service_kept fixed log).0 next)),
      good_all servers (flag_taken t flags taking) takings judged.1,
    )

    record AreKnown (tale : Tale) : Type 0 where
      pub numbers : AreNumbered 1 tale.clients
      pub users : AllBecame setup OfUsers tale.story

    known_step : (before later : Log) (e : Entry) → before ++ e ∷ later ≡ log → AreKnown (tale_at t before) → AreKnown (tale_at t (before ++ e ∷ []))
    known_step before later e is known =
        let old : Tale = tale_at t before in
        let new : Tale = tale_step setup last old e in
        let more : tale_at t (before ++ e ∷ []) ≡ new = tale_more t before e in
        let says : AllOf (SaysSo fixed) new.clients =
        subst (λ (x : Tale). AllOf (SaysSo fixed) x.clients) more (says_then (before ++ e ∷ []) later (append_assoc before (e ∷ []) later ∙ is)) in
        let judged = judged_at fixed numbered log our before later e is in
        subst AreKnown (sym more) (record {
          numbers = numbered_step setup last old e known.numbers;
          users = step_became setup last OfUsers (λ tale. Unit {0}) nothing (SaysSo fixed) (λ client says. says) (plain fixed numbered log our) old e tt
              (good_all judged.0 judged.1 (takings_at setup last old e) judged.2)
              (subst (Each (SaysSo fixed)) (sym (freed_clients setup last old e))
              (each_like (told setup last old e).clients new.clients (step_like setup last old e known.numbers) says)) known.users;
        })

    users_from : (before later : Log) → before ++ later ≡ log → AreKnown (tale_at t before) → LawfulAfter (UsersSo fixed) before later
    users_from before [] is known = tt
    users_from before (e ∷ later) is known =
        let tale : tale_at t before ≡ (world_at fixed before).tale =
        subst (λ l. tale_at (final_terms fixed l) before ≡ (world_at fixed before).tale) is (tale_then fixed before (e ∷ later)) in (
          λ n due there.
              due_is (λ m. IsOne m.client) (setup_of fixed) n (world_at fixed before).tale.story due
              (subst (λ (x : Tale). AllDue (λ m. IsOne m.client) x.story) tale (dues_of (tale_at t before).story known.users)) there,
          users_from (before ++ e ∷ []) later (append_assoc before (e ∷ []) later ∙ is) (known_step before later e is known),
        )

    pub users_so : LawfulAfter (UsersSo fixed) [] log
    users_so = users_from [] log refl (record { numbers = tt; users = tt })
