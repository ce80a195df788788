-- Last words along a log.
use Rattle.std.specs.Prelude.{◌≡◌, ◌+◌, ℕ, Bool, true, false, is_none, nat_lt, not, ◌&&◌, All, if◌then◌else◌, length, List, [], ◌∷◌, ◌++◌, Option, Some, None}
use Rattle.std.proofs.Common.{refl, sym, ap, ◌∙◌, subst, append_assoc, arith}
use Rattle.std.proofs.lemmas.Bool.{and_from, and_right}
use Rattle.client_session.specs.Answers.{opening_of}
use Rattle.client_side.specs.Login.{Waits}
use Rattle.mx_wire.specs.Log.{Log}
use Rattle.mx_wire.specs.Moments.{LawfulAfter}
use Rattle.mx_wire.specs.Tells.{Fits}
use Rattle.mx_wire.specs.declared.entry.Entry.{Entry}
use Rattle.mx_wire.specs.declared.entry.Entry.TheVariants as entry
use Rattle.private_model.specs.View.{Setup}
use Rattle.log_story.specs.Clients.{is_answered}
use Rattle.log_story.specs.Owed.{name_of, talk_of}
use Rattle.log_story.specs.Plan.{Alone, ForLogin, LastWord, Plan, own_at}
use Rattle.log_story.specs.Tale.{Client, view_of}
use Rattle.tale_world.specs.Deciding.{World}
use Rattle.router_promises.specs.Due.{served, turned_away}
use Rattle.router_promises.specs.Ends.{WordRight, buffers_word, is_accepted, was_answered}
use Rattle.router_promises.specs.Errors.{out_of_memory}
use Rattle.router_promises.specs.Now as now
use Rattle.router_promises.specs.Now.{Now, entry_now, now_at, while_ending}
use Rattle.router_promises.specs.Terms.{Terms, plan_in}
use Rattle.shared_router.specs.Ends.{Ending, away_word, ending_of, has_too_much, is_refused_now, is_turned_away, left_word, may_say_starved, must_go, says_last, was_left, word_to}
use Rattle.shared_router.specs.Fixed.{Fixed, IsNumbered, setup_of}
use Rattle.shared_router.specs.Judged.{WordsFor}
use Rattle.shared_router.specs.More.{More}
use Rattle.shared_router.specs.Shared.{final_terms, world_at}
use Rattle.shared_router.proofs.Coming.{IsFirst, accepted-idle}
use Rattle.shared_router.proofs.Among.{some_at}
use Rattle.shared_router.proofs.Ended as ended
use Rattle.shared_router.proofs.Looked.{Each, IsLooked, each-all, each-so, going-looks, looks_at}
use Rattle.shared_router.proofs.Musts.{IsEnding, ending_world, last_plan, served-same}
use Rattle.shared_router.proofs.Single.{IsAlone, both-each, counts_at, each-alone, going-counts}
use Rattle.shared_router.proofs.Parting.{even_at}
use Rattle.shared_router.proofs.Said.{login-waits, much-ends, word-right}
use Rattle.shared_router.proofs.Worded.{going-same-ends}

isnt : {A : Type 0} → false ≡ true → A
isnt is = absurd (cc)

each-any : {A : Type 0} (P : A → Type 0) (xs : List A) → ((x : A) → P x) → Each P xs
each-any P [] any = tt
each-any P (x ∷ xs) any = (any x, each-any P xs any)

-- one that is accepted is the last that came, and asked nothing

abbrev IsNewcomer : (count : ℕ) → Entry → Client → Type 0
IsNewcomer count e client = is_accepted e client ≡ true → IsFirst count client

newcomers : (fixed : Fixed) (numbered : IsNumbered fixed) (before : Log) (e : Entry) → Fits before e
    → Each (IsNewcomer (length (world_at fixed before).tale.clients + 1) e) (ending_world fixed numbered before e).tale.clients
newcomers fixed numbered before (entry.Accepted port link salt) fits = accepted-idle fixed before port link salt fits.fresh
newcomers fixed numbered before (entry.Exec link) fits = each-any _ _ (λ client is. isnt is)
newcomers fixed numbered before (entry.Got link bytes) fits = each-any _ _ (λ client is. isnt is)
newcomers fixed numbered before (entry.Listening port address) fits = each-any _ _ (λ client is. isnt is)
newcomers fixed numbered before (entry.ListenFailed port) fits = each-any _ _ (λ client is. isnt is)
newcomers fixed numbered before (entry.Woke until_ms now_ms) fits = each-any _ _ (λ client is. isnt is)
newcomers fixed numbered before entry.WaitFailed fits = each-any _ _ (λ client is. isnt is)
newcomers fixed numbered before entry.Over fits = each-any _ _ (λ client is. isnt is)
newcomers fixed numbered before (entry.Named link) fits = each-any _ _ (λ client is. isnt is)
newcomers fixed numbered before entry.NoneNamed fits = each-any _ _ (λ client is. isnt is)
newcomers fixed numbered before (entry.AcceptNothing port) fits = each-any _ _ (λ client is. isnt is)
newcomers fixed numbered before (entry.AcceptFailed port) fits = each-any _ _ (λ client is. isnt is)
newcomers fixed numbered before (entry.Opened at address link) fits = each-any _ _ (λ client is. isnt is)
newcomers fixed numbered before (entry.OpenFailed at address) fits = each-any _ _ (λ client is. isnt is)
newcomers fixed numbered before (entry.ReadNothing link) fits = each-any _ _ (λ client is. isnt is)
newcomers fixed numbered before (entry.Ended link) fits = each-any _ _ (λ client is. isnt is)
newcomers fixed numbered before (entry.ReadFailed link) fits = each-any _ _ (λ client is. isnt is)
newcomers fixed numbered before (entry.Wrote link tag bytes) fits = each-any _ _ (λ client is. isnt is)
newcomers fixed numbered before (entry.WriteNothing link) fits = each-any _ _ (λ client is. isnt is)
newcomers fixed numbered before (entry.WriteFailed link) fits = each-any _ _ (λ client is. isnt is)
newcomers fixed numbered before (entry.Closed link) fits = each-any _ _ (λ client is. isnt is)
newcomers fixed numbered before (entry.Drop link) fits = each-any _ _ (λ client is. isnt is)

-- a word in place of the answer to a login comes while that can't be answered yet

abbrev pub WaitsThere : Terms → Log → Client → Type 0
WaitsThere terms log client = (word : LastWord) → (plan_in terms).words client.number ≡ Some word → word.from ≡ entry_now (now_at terms log) → word.place ≡ ForLogin
    → (switched : Bool) × (opening_of (talk_of (plan_in terms) client) ≡ Waits switched)

abbrev pub LoginsFor : Terms → Log → Entry → Type 0
LoginsFor terms log e = Each (WaitsThere terms log) (now.next terms (now_at terms log) e).tale.clients

module _ (fixed : Fixed) (numbered : IsNumbered fixed) (before later : Log) (e : Entry) where
  abbrev setup : Setup
  setup = setup_of fixed

  abbrev t : Terms
  t = final_terms fixed (before ++ e ∷ later)

  abbrev plan : Plan
  plan = last_plan fixed numbered (before ++ e ∷ later)

  abbrev w : World More
  w = world_at fixed before

  abbrev d : World More
  d = ending_world fixed numbered before e

  abbrev x : Ending
  x = ending_of fixed d e

  abbrev there : Now
  there = now_at t before

  abbrev ending : Now
  ending = while_ending t there e

  abbrev behind : Now
  behind = now.next t there e

  abbrev count : ℕ
  count = length w.tale.clients + 1

  so : IsEnding fixed numbered before e (before ++ e ∷ later)
  so = ended.so fixed numbered before later e

  module _ (client : Client) (looked : IsLooked d.decided client) (alone : IsAlone d.tale.clients client) (newcomer : IsNewcomer count e client) where
    nothing-asked : is_accepted e client ≡ true → was_answered t ending client ≡ true
    nothing-asked accepted = ap (is_answered plan ending.tale (view_of setup ending.tale) client) (newcomer accepted).taken

    not-ended : is_accepted e client ≡ true → d.decided.ends client.number ≡ None
    not-ended accepted = by_end (d.decided.ends client.number) refl where
      by_end : (o : Option ℕ) → d.decided.ends client.number ≡ o → o ≡ None
      by_end None is = refl
      by_end (Some n) is =
          let last : client.number.0 ≡ count = (newcomer accepted).number in
          let early = some_at fixed before client.number n (ap (λ g. g client.number) (sym (going-same-ends fixed w e).ends) ∙ is) in
          absurd (omega (arith, last, early))

    abbrev away_from : ℕ → LastWord
    away_from from = record { from = from; place = Alone; payloads = turned_away }

    word_but : (left away : Bool) → Option LastWord
    word_but left away =
        if left then Some (left_word x) else if away then Some (away_word x) else if must_go x client then None
        else if has_too_much x client then Some (says_last x client (buffers_word x.terms x.ending client))
        else if is_refused_now x client && may_say_starved x client then Some (says_last x client out_of_memory) else None

    -- who asked nothing has no message that was left
    none-left : is_accepted e client ≡ true → (is_refused_now x client && was_left x client) ≡ false
    none-left accepted = and_right (is_refused_now x client) (was_left x client)
        (ap (λ n. nat_lt 0 n && (is_none ((plan_in x.terms).routes (name_of client n)) && is_none (own_at (plan_in x.terms) x.ending.tale.moment (name_of client n)))) (newcomer accepted).taken)

    word-if : is_accepted e client ≡ true → (is_accepted e client && not (served x.terms x.log client)) ≡ true → word_to x client ≡ Some (away_word x)
    unfolding word_but
    word-if accepted away = ap (λ b. word_but b (is_turned_away x client)) (none-left accepted) ∙ ap (word_but false) away

    away-told : is_accepted e client ≡ true → served t (before ++ e ∷ []) client ≡ false → word_to x client ≡ Some (away_word x)
    away-told accepted unserved =
        let refused : not (served x.terms x.log client) ≡ true = ap not (sym (served-same fixed numbered before e (before ++ e ∷ later) so client looked) ∙ unserved) in
        let away : (is_accepted e client && not (served x.terms x.log client)) ≡ true = and_from (is_accepted e client) (not (served x.terms x.log client)) accepted refused in
        word-if accepted away

    pub words-right : WordRight t (before ++ e ∷ []) there behind e client
    words-right = record {
      may = λ word planned at. word-right fixed numbered before later e client looked alone nothing-asked word planned at;
      away = λ accepted unserved.
          ended.word-so fixed numbered before later e client looked alone (away_word x) (not-ended accepted) (away-told accepted unserved)
          ∙ ap (λ n. Some (away_from n)) (ended.x-entry fixed numbered before later e ∙ sym (ended.entry-so fixed numbered before later e));
      must = much-ends fixed numbered before later e client looked alone;
    }

  pub words-there : Fits before e → All (WordRight t (before ++ e ∷ []) there behind e) behind.tale.clients
  words-there fits =
      subst (All (WordRight t (before ++ e ∷ []) there behind e)) (sym (ended.behind-clients fixed numbered before later e))
      (each-all (WordRight t (before ++ e ∷ []) there behind e) d.tale.clients
      (each-so (λ (client : Client). (IsLooked d.decided client × IsAlone d.tale.clients client) × IsNewcomer count e client) (WordRight t (before ++ e ∷ []) there behind e) d.tale.clients
      (λ client all. words-right client all.0.0 all.0.1 all.1)
      (both-each (λ (client : Client). IsLooked d.decided client × IsAlone d.tale.clients client) (IsNewcomer count e) d.tale.clients
      (both-each (IsLooked d.decided) (IsAlone d.tale.clients) d.tale.clients (going-looks fixed w e (even_at fixed before) (looks_at fixed before))
      (each-alone 1 d.tale.clients (going-counts fixed w e (counts_at fixed before))))
      (newcomers fixed numbered before e fits))))

  pub logins-there : LoginsFor t before e
  logins-there =
      subst (Each (WaitsThere t before)) (sym (ended.behind-clients fixed numbered before later e))
      (each-so (λ (client : Client). IsLooked d.decided client × IsAlone d.tale.clients client) (WaitsThere t before) d.tale.clients
      (λ client both word planned at place. login-waits fixed numbered before later e client both.0 both.1 word planned at place)
      (both-each (IsLooked d.decided) (IsAlone d.tale.clients) d.tale.clients (going-looks fixed w e (even_at fixed before) (looks_at fixed before))
      (each-alone 1 d.tale.clients (going-counts fixed w e (counts_at fixed before)))))

-- along a log

words-from : (fixed : Fixed) → IsNumbered fixed → (before later whole : Log) → before ++ later ≡ whole → LawfulAfter Fits before later
    → LawfulAfter (WordsFor (final_terms fixed whole)) before later
words-from fixed numbered before [] whole is fits = tt
words-from fixed numbered before (e ∷ later) whole is fits = (
  subst (λ l. WordsFor (final_terms fixed l) before e) is (words-there fixed numbered before later e fits.0),
  words-from fixed numbered (before ++ e ∷ []) later whole (append_assoc before (e ∷ []) later ∙ is) fits.1,
)

pub words-along : (fixed : Fixed) → IsNumbered fixed → (whole : Log) → LawfulAfter Fits [] whole → LawfulAfter (WordsFor (final_terms fixed whole)) [] whole
words-along fixed numbered whole fits = words-from fixed numbered [] whole whole refl fits
