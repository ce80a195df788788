-- A link that is readied for a statement is asked for it: the test doesn't refuse.
use Rattle.std.specs.Prelude.{◌≡◌, Bool, true, false, not, ◌&&◌, ◌||◌, is_some, nat_eq, if◌then◌else◌, Option, Some, None}
use Rattle.std.specs.Option.{option_and_then, option_map, option_map_or}
use Rattle.std.proofs.Common.{refl, sym, ap, ◌∙◌, subst}
use Rattle.std.proofs.lemmas.Bool.{and_from, and_parts, or_left}
use Rattle.private_model.proofs.Maps.{same_name, same_number}
use Rattle.private_model.specs.Names.{LinkId, SessionName}
use Rattle.private_model.specs.Story.{Own, Question, is_name}
use Rattle.private_model.specs.View.{Carried, Joined, Lent, Link, Nobody}
use Rattle.log_story.specs.Servers.{is_quiet}
use Rattle.tale_world.specs.Policy.{Readied, next_question, question_for}
use Rattle.tale_world.specs.Tests.{may_begin_question, may_lend}
use Rattle.tale_world.specs.Tests as tests
use Rattle.tale_world.specs.Waits.{IsFor, IsWaiting}
use Rattle.tale_world.specs.Wishes.{Wish, wish_for}
use Rattle.tale_world.proofs.Passing.{passes_so}
use Rattle.router_promises.specs.Closes.{has_bytes}
use Rattle.router_promises.specs.Dues.{is_due, is_unsent}
use Rattle.router_promises.specs.Keys.{is_nobodys}
use Rattle.router_promises.specs.Now.{is_here, wire_now}
use Rattle.shared_router.specs.Known.{Known, held_by, link_by, present_by, setup_by, view_by}
use Rattle.shared_router.specs.Lends.{readied_now}
use Rattle.shared_router.specs.Ready.{IsReadyFor}
use Rattle.shared_router.specs.Waits.{Waits}
use Rattle.shared_router.specs.Wishes.{asked_on, if_may, is_present, kept_due, may_go, standing_on, texts, wish_on}
use Rattle.shared_router.proofs.Beginning.{IsForm, Preparing, Stating, Stepping, form_of}
use Rattle.shared_router.proofs.Readying.{readied_waits}
use Rattle.shared_router.proofs.Unmarked.{unmarked_after}
use Rattle.shared_router.proofs.Vacant.{readied_vacant}

isnt : {A : Type 0} → true ≡ false → A
isnt is = absurd (cc)

nobody_is : (c : Carried) → is_nobodys c ≡ true → c ≡ Nobody
nobody_is Nobody is = refl
nobody_is (Lent n) is = isnt (sym is)
nobody_is (Joined n) is = isnt (sym is)

not_of : (b : Bool) → not b ≡ true → b ≡ false
not_of false is = refl
not_of true is = isnt (sym is)

some_if : {A : Type 0} (o : Option A) (a : A) → o ≡ Some a → is_some o ≡ true
some_if o a is = ap (λ x. is_some x) is

module _ (k : Known) (link : LinkId) (r : Readied) (at : readied_now k link ≡ Some r) (ready : IsReadyFor k link r) where
  abbrev there : Link
  there = link_by k link

  abbrev n : SessionName
  n = r.name

  waits : Waits k r
  waits = readied_waits k link r at

  vacant : (not (wire_now k.now link).quits && is_nobodys there.carries) ≡ true
  vacant = (and_parts (is_here k.log link && (wire_now k.now link).entered) _ (readied_vacant k link r at)).1

  nobody : there.carries ≡ Nobody
  nobody = nobody_is there.carries (and_parts (not (wire_now k.now link).quits) _ vacant).1

  stays : (wire_now k.now link).quits ≡ false
  stays = not_of (wire_now k.now link).quits (and_parts (not (wire_now k.now link).quits) _ vacant).0

  present : is_name n (present_by k n.client n.hostgroup) ≡ true
  present = subst (λ m. is_name n m ≡ true) (sym waits.present) (same_name n)

  homeless : not (is_some (held_by k n).home) ≡ true
  homeless =
      subst (λ m. not (is_some (held_by k m).home) ≡ true) waits.present
      (and_parts (is_due k.terms k.now.tale (present_by k n.client n.hostgroup)) _
      (and_parts (is_unsent k.terms k.now.tale (present_by k n.client n.hostgroup)) _ waits.waits).0).1

  waiting : IsWaiting (setup_by k) k.fixed.ids (view_by k) n r.due
  waiting = record {
    is_due = ap (λ o. option_map_or (λ other. nat_eq other.ordinal r.due.ordinal) o false) waits.due ∙ same_number r.due.ordinal;
    unsent = ap (λ o. not (is_some o)) ready.unsent;
    present = present;
    statement = ready.statement;
    of_key = ready.of_key;
    unpinned = ap not ready.unpinned;
    anew = ready.anew;
    blind = ready.blind;
    known = ready.known;
    in_bits = ready.in_bits;
  }

  lends : may_lend n there (held_by k n) ≡ true
  lends =
      or_left (tests.is_nobody there.carries && not (is_some (held_by k n).home)) _
      (and_from (tests.is_nobody there.carries) _ (ap tests.is_nobody nobody) homeless)

  free : IsFor (setup_by k) (view_by k) n there
  free = record { usable = ready.usable; quiet = ready.quiet; lends = lends; account = ready.account; unmarked = unmarked_after (setup_by k) k.now.tale.story link nobody }

  abbrev question : Question
  question = question_for texts k.fixed.ids (setup_by k) n r.due Own there (held_by k n)

  may : may_begin_question (setup_by k) (view_by k) there question ≡ true
  may = passes_so texts k.fixed.ids (setup_by k) (view_by k) n r.due there ready.read waiting free

  presented : (q : Question) → IsForm (setup_by k) n r.due Own q → is_present k q ≡ true
  presented q (Stepping command) = refl
  presented q Preparing = present
  presented q Stating = refl

  goes : may_go k link question ≡ true
  goes = and_from (may_begin_question (setup_by k) (view_by k) there question) (is_present k question) may
      (presented question (form_of k.fixed.ids (setup_by k) n r.due Own there (held_by k n)))

  abbrev with_carries : Carried → Link
  with_carries c = record there { carries = c }

  asks : next_question texts k.fixed.ids (setup_by k) (kept_due k) there (readied_now k link) ≡ Some question
  asks =
      ap (λ c. next_question texts k.fixed.ids (setup_by k) (kept_due k) (with_carries c) (readied_now k link)) nobody
      ∙ ap (λ b. if not b then None else option_map_or (λ (x : Readied). Some (question_for texts k.fixed.ids (setup_by k) x.name x.due Own (with_carries Nobody) (held_by k x.name))) (readied_now k link) None)
      (and_from (is_quiet there.stage) there.usable ready.quiet ready.usable)
      ∙ ap (λ o. option_map_or (λ (x : Readied). Some (question_for texts k.fixed.ids (setup_by k) x.name x.due Own (with_carries Nobody) (held_by k x.name))) o None) at
      ∙ ap (λ c. Some (question_for texts k.fixed.ids (setup_by k) n r.due Own (with_carries c) (held_by k n))) (sym nobody)

  abbrev as_wish : Option Question → Option Wish
  as_wish = option_map (wish_for there (standing_on k link))

  wish_is : wish_on k link ≡ Some (wish_for there (standing_on k link) question)
  wish_is =
      ap (λ b. if b || has_bytes (wire_now k.now link).unread then None else as_wish (asked_on k link)) stays
      ∙ ap (λ b. if b then None else as_wish (asked_on k link)) ready.unread
      ∙ ap (λ o. as_wish (option_and_then (if_may k link) o)) asks
      ∙ ap (λ b. as_wish (if b then Some question else None)) goes

  pub readied_asks : is_some (wish_on k link) ≡ true
  readied_asks = some_if (wish_on k link) (wish_for there (standing_on k link) question) wish_is
