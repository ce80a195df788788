-- That what becomes of a message is what the promise's verdict says.
use Rattle.std.specs.Prelude.{◌≡◌, ◌||◌, ℕ, Bool, true, false, is_some, List, Option, Some, None}
use Rattle.std.proofs.Common.{refl, sym, ap, subst, ◌∙◌}
use Rattle.mx_base.specs.declared.names.ClientNo.{ClientNo}
use Rattle.mx_base.specs.declared.names.Hostgroup.{Hostgroup}
use Rattle.pin_classifier.specs.declared.class.Class.{Class}
use Rattle.query_rules.specs.declared.rule.Rule.{Rule}
use Rattle.session_state.specs.declared.place.Place.{Place}
use Rattle.session_state.specs.declared.pin.Pin.{Pin}
use Rattle.router_promises.specs.Verdicts as promised
use Rattle.router_promises.specs.Verdicts.{Goes, Tells, Wanted, unplaced}
use Rattle.message_judge.specs.Drafts.{class_in, draft_of, verdict_by, wanted_of}
use Rattle.message_judge.specs.Judging as judging
use Rattle.message_judge.specs.Judging.{admitted}
use Rattle.message_judge.specs.Told.{payloads_of}
use Rattle.message_judge.specs.declared.caller.Caller.{Caller}
use Rattle.message_judge.specs.declared.caller.Prepared.{Prepared}
use Rattle.message_judge.specs.declared.draft.ClassOf.{ClassOf}
use Rattle.message_judge.specs.declared.draft.ClassOf.TheVariants as classes
use Rattle.message_judge.specs.declared.draft.Draft.{Draft}
use Rattle.message_judge.specs.declared.draft.Draft.TheVariants as drafts
use Rattle.message_judge.specs.declared.draft.Going.{Going}
use Rattle.message_judge.specs.declared.told.OwnError.{OwnError}
use Rattle.message_judge.specs.declared.told.Told.{Told}
use Rattle.core_promises.specs.Judges.{IsVerdictFor, Rulebook, Situation}
use Rattle.core_turns.specs.Judged.{IsAsPromised, IsDraftFor, IsOwnVerdict, IsVerdictOn, SaysQuit, goes_with, route_by, sent_by, sent_own, sent_text}
use Rattle.core_turns.specs.Preparing.{prepared_of}
use Rattle.core_turns.specs.declared.judged.Named.{Named}
use Rattle.core_turns.proofs.Drafts.{IsOwnSo, IsRunSo, IsSo, judged-so}
use Rattle.core_turns.proofs.Forms.{plain-so, query-so}

there-or : (home there : Bool) → (home ≡ true → there ≡ true) → (home || there) ≡ there
there-or true there is = sym (is refl)
there-or false there is = refl

-- What goes there without the name of a statement.

module _ (caller : Caller) (next : Option ℕ) (payload : List ℕ) (hostgroup : Hostgroup) (multiplex : Option Bool) where
  abbrev going_as : (text : Option (List ℕ)) (number : Option ℕ) → ClassOf → Going
  going_as text number class = record { hostgroup = hostgroup; text = text; number = number; multiplex = multiplex; class = class }

  abbrev wanted_as : (text : Option (List ℕ)) (number : Option ℕ) → ClassOf → Wanted
  wanted_as text number class = wanted_of caller None (going_as text number class)

  own-is : (text : Option (List ℕ)) (number : Option ℕ) (class : ClassOf)
      → IsOwnSo next caller.place payload (class_in None class) (wanted_as text number class)
      → IsVerdictOn None payload (sent_own payload (going_as text number class) class)
  own-is None number (classes.Own class) so = absurd so
  own-is (Some text) None (classes.Own class) so = query-so payload class text so.0 so.1
  own-is (Some text) (Some number) (classes.Own class) so = (so.0, so.1)
  own-is text number classes.Nothing so = plain-so payload so.0
  own-is text number classes.Prepared so = plain-so payload so.0

  module _ (book : Rulebook) (situation : Situation) (c : ClientNo) (place : caller.place ≡ situation.place) where
    abbrev for : promised.Verdict → Type 0
    for verdict = IsVerdictFor book situation c payload verdict

    plain-for : (text : Option (List ℕ)) (number : Option ℕ) (class : ClassOf) → text ≡ None → (wanted_as text number class).key ≡ None
        → for (Goes (wanted_as text number class)) → for (goes_with (route_by hostgroup None multiplex) None)
    plain-for None None classes.Nothing wordless keyless is = is
    plain-for None None classes.Prepared wordless keyless is = is
    plain-for None None (classes.Own class) wordless keyless is = is
    plain-for None (Some number) class wordless keyless is = absurd (let e = keyless in cc)
    plain-for (Some text) number class wordless keyless is = absurd (let e = wordless in cc)

    own-promised : (text : Option (List ℕ)) (number : Option ℕ) (class : ClassOf)
        → IsOwnSo next caller.place payload (class_in None class) (wanted_as text number class) → for (Goes (wanted_as text number class))
        → IsAsPromised book situation next c payload (sent_own payload (going_as text number class) class)
    own-promised None number (classes.Own class) so is = absurd so
    own-promised (Some text) None (classes.Own class) so is = is
    own-promised (Some text) (Some number) (classes.Own class) so is = record {
      number = number;
      next_is = so.2;
      ruled = subst (λ (p : Place). for (goes_with (record (route_by hostgroup (Some text) multiplex) { number = number }) (Some (record { text = text; place = p })))) place is;
    }
    own-promised text number classes.Nothing so is = plain-for text number classes.Nothing so.1 so.2 is
    own-promised text number classes.Prepared so is = plain-for text number classes.Prepared so.1 so.2 is

-- and an execute

run-promised : (book : Rulebook) (situation : Situation) (next : Option ℕ) (c : ClientNo) (caller : Caller) (payload : List ℕ) (going : Going) (one : Named) → caller.place ≡ situation.place
    → IsRunSo caller one.prepared payload (wanted_of caller (Some one.prepared) going)
    → IsVerdictFor book situation c payload (Goes (wanted_of caller (Some one.prepared) going))
    → IsAsPromised book situation next c payload (sent_by payload going (Some one))
run-promised book situation next c caller payload going one place so is =
    subst (λ (p : Place). IsVerdictFor book situation c payload
    (goes_with (route_by going.hostgroup None going.multiplex)
    (unplaced one.prepared.place.schema (record { text = one.prepared.text; place = one.prepared.place }) p.schema))) place
    (subst (λ (wanted : Wanted). IsVerdictFor book situation c payload (Goes wanted)) so.1 is)

-- By what is known of the client.

module _ (book : Rulebook) (situation : Situation) (next : Option ℕ) (c : ClientNo) (payload : List ℕ) (prepared : Option Prepared) (draft : Draft)
    (by : IsDraftFor book situation next c payload prepared draft) where
  by-draft : (is_there : Hostgroup → Bool) → ((h : Hostgroup) → is_some (situation.homes h) ≡ true → is_there h ≡ true) → (verdict : promised.Verdict)
      → verdict ≡ judging.verdict_by situation.pins is_there (draft_of by.caller prepared draft) → IsVerdictFor book situation c payload verdict
  by-draft is_there there verdict is = record {
    known = record { caller = by.caller; standing = by.standing; prepared = prepared; pins = situation.pins; is_there = is_there };
    client = by.client;
    login = by.login;
    home = by.home;
    place = by.place;
    transaction = by.transaction;
    pins = refl;
    there = there;
    flag = by.flag;
    prepared = by.named;
    named = by.known;
    number = λ n is_next. by.number n (sym by.next_is ∙ is_next);
    is = is ∙ ap (judging.verdict_by situation.pins is_there) by.is;
  }

  pub draft-so : IsSo by.caller by.standing prepared payload (draft_of by.caller prepared draft)
  draft-so = subst (IsSo by.caller by.standing prepared payload) (sym by.is) (judged-so book.rules by.caller by.standing situation.statements payload prepared by.named)

pub quits-so : (book : Rulebook) (situation : Situation) (next : Option ℕ) (c : ClientNo) (payload : List ℕ) (prepared : Option Prepared)
    → IsDraftFor book situation next c payload prepared drafts.Ends → SaysQuit payload
quits-so book situation next c payload prepared by = draft-so book situation next c payload prepared drafts.Ends by

pub answers-so : (book : Rulebook) (situation : Situation) (next : Option ℕ) (c : ClientNo) (payload : List ℕ) (prepared : Option Prepared) (told : Told)
    → IsDraftFor book situation next c payload prepared (drafts.Answers told) → IsVerdictFor book situation c payload (Tells (payloads_of c.0 told))
answers-so book situation next c payload prepared told by =
    by-draft book situation next c payload prepared (drafts.Answers told) by (λ h. true) (λ h has. refl) (Tells (payloads_of c.0 told))
    (ap (λ (n : ClientNo). Tells (payloads_of n.0 told)) (sym by.client))

module _ (book : Rulebook) (situation : Situation) (next : Option ℕ) (c : ClientNo) (payload : List ℕ) (going : Going) where
  pub admitted-so : (prepared : Option Prepared) (by : IsDraftFor book situation next c payload prepared (drafts.Sends going))
      (class : Option Class) → class ≡ class_in prepared going.class → (pin : Pin) → pin ≡ situation.pins going.hostgroup → (is_there : Bool)
      → (is_some (situation.homes going.hostgroup) ≡ true → is_there ≡ true) → (why : Option OwnError)
      → ((caller : Caller) (known : Option Prepared) (at : Going) → at.hostgroup ≡ going.hostgroup
      → verdict_by (wanted_of caller known at) why ≡ admitted class pin is_there (wanted_of caller known at))
      → IsVerdictFor book situation c payload (verdict_by (wanted_of by.caller prepared going) why)
  admitted-so prepared by class classed pin pinned is_there there why admits =
      by-draft book situation next c payload prepared (drafts.Sends going) by (λ h. is_some (situation.homes h) || is_there)
      (λ h has. ap (λ (b : Bool). b || is_there) has) (verdict_by (wanted_of by.caller prepared going) why)
      (admits by.caller prepared going refl
      ∙ (λ i. admitted (classed i) (pinned i) (sym (there-or (is_some (situation.homes going.hostgroup)) is_there there) i) (wanted_of by.caller prepared going)))

  -- What it becomes in code, and that this is as promised.

  pub sent-is : (named : Option Named) → IsDraftFor book situation next c payload (prepared_of named) (drafts.Sends going)
      → IsVerdictOn named payload (sent_by payload going named)
  sent-is (Some one) by = (refl, (draft-so book situation next c payload (Some one.prepared) (drafts.Sends going) by).0)
  sent-is None by =
      own-is by.caller by.standing.next_number payload going.hostgroup going.multiplex going.text going.number going.class
      (draft-so book situation next c payload None (drafts.Sends going) by)

  pub sent-promised : (named : Option Named) (by : IsDraftFor book situation next c payload (prepared_of named) (drafts.Sends going))
      → IsVerdictFor book situation c payload (Goes (wanted_of by.caller (prepared_of named) going))
      → IsAsPromised book situation next c payload (sent_by payload going named)
  sent-promised (Some one) by is =
      run-promised book situation next c by.caller payload going one by.place (draft-so book situation next c payload (Some one.prepared) (drafts.Sends going) by) is
  sent-promised None by is =
      subst (λ (n : Option ℕ). IsAsPromised book situation n c payload (sent_by payload going None)) by.next_is
      (own-promised by.caller by.standing.next_number payload going.hostgroup going.multiplex book situation c by.place going.text going.number going.class
      (draft-so book situation next c payload None (drafts.Sends going) by) is)

own-text : (rules : List Rule) (hostgroup : Hostgroup) (text : Option (List ℕ)) (multiplex : Option Bool) (number : Option ℕ) (class : Class)
    → IsOwnVerdict rules (sent_text hostgroup text multiplex number class)
own-text rules hostgroup None multiplex number class = tt
own-text rules hostgroup (Some text) multiplex None class = tt
own-text rules hostgroup (Some text) multiplex (Some number) class = tt

own-sent : (rules : List Rule) (payload : List ℕ) (going : Going) (class : ClassOf) → IsOwnVerdict rules (sent_own payload going class)
own-sent rules payload going (classes.Own class) = own-text rules going.hostgroup going.text going.multiplex going.number class
own-sent rules payload going classes.Nothing = tt
own-sent rules payload going classes.Prepared = tt

-- nothing is answered of it
pub sent-own : (rules : List Rule) (payload : List ℕ) (going : Going) (named : Option Named) → IsOwnVerdict rules (sent_by payload going named)
sent-own rules payload going (Some one) = tt
sent-own rules payload going None = own-sent rules payload going going.class
