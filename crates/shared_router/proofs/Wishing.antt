-- What is wished on a link is made of a question that may go there; and what is due there waits, and isn't answered.
use Rattle.std.specs.Prelude.{◌≡◌, Bool, true, false, ◌||◌, not, is_some, if◌then◌else◌, List, ℕ, Option, Some, None}
use Rattle.std.specs.Option.{option_and_then, option_map, option_map_or}
use Rattle.std.proofs.Common.{refl, sym, subst}
use Rattle.std.proofs.lemmas.Bool.{and_parts}
use Rattle.mx_base.specs.declared.names.LinkId.{LinkId}
use Rattle.private_model.specs.Names.{SessionName}
use Rattle.private_model.specs.Story.{Due, Question, message_of}
use Rattle.tale_world.specs.Policy.{Readied, next_question}
use Rattle.tale_world.specs.Tests.{may_begin_question}
use Rattle.tale_world.specs.Wishes.{Wish, wish_for}
use Rattle.log_story.specs.Plan.{own_at}
use Rattle.router_promises.specs.Closes.{has_bytes}
use Rattle.router_promises.specs.Dues.{is_due, is_unsent}
use Rattle.router_promises.specs.Now.{wire_now}
use Rattle.router_promises.specs.Terms.{plan_in}
use Rattle.shared_router.specs.Known.{Known, link_by, present_by, setup_by, view_by}
use Rattle.shared_router.specs.Lends.{readied_now}
use Rattle.shared_router.specs.Waits.{Waits}
use Rattle.shared_router.specs.Wishes.{asked_on, if_may, is_present, kept_due, may_go, standing_on, texts, wish_on}
use Rattle.shared_router.proofs.Beginning.{no_some, some_of}

isnt : {A : Type 0} → true ≡ false → A
isnt is = absurd (cc)

module _ (k : Known) (link : LinkId) where
  abbrev pub Asks : Question → Type 0
  Asks question = next_question texts k.fixed.ids (setup_by k) (kept_due k) (link_by k link) (readied_now k link) ≡ Some question

  pub record IsWished (wish : Wish) : Type 0 where
    pub stays : (wire_now k.now link).quits ≡ false
    pub read : has_bytes (wire_now k.now link).unread ≡ false
    pub question : Question
    pub asks : Asks question
    pub may : may_begin_question (setup_by k) (view_by k) (link_by k link) question ≡ true
    pub present : is_present k question ≡ true
    pub is : wish_for (link_by k link) (standing_on k link) question ≡ wish

  pub wished : (wish : Wish) → wish_on k link ≡ Some wish → IsWished wish
  wished wish is = by_barred (wire_now k.now link).quits (has_bytes (wire_now k.now link).unread) refl refl is where
    by_may : (question : Question) (b : Bool) → may_go k link question ≡ b → (wire_now k.now link).quits ≡ false → has_bytes (wire_now k.now link).unread ≡ false → Asks question
        → option_map (wish_for (link_by k link) (standing_on k link)) (if b then Some question else None) ≡ Some wish → IsWished wish
    by_may question true may stays read asks is =
        let parts = and_parts (may_begin_question (setup_by k) (view_by k) (link_by k link) question) (is_present k question) may in
        record { stays = stays; read = read; question = question; asks = asks; may = parts.0; present = parts.1; is = some_of _ wish is }
    by_may question false may stays read asks is = no_some wish is

    by_asked : (o : Option Question) → next_question texts k.fixed.ids (setup_by k) (kept_due k) (link_by k link) (readied_now k link) ≡ o
        → (wire_now k.now link).quits ≡ false → has_bytes (wire_now k.now link).unread ≡ false
        → option_map (wish_for (link_by k link) (standing_on k link)) (option_and_then (if_may k link) o) ≡ Some wish → IsWished wish
    by_asked None asks stays read is = no_some wish is
    by_asked (Some question) asks stays read is = by_may question (may_go k link question) refl stays read asks is

    by_barred : (quits unread : Bool) → (wire_now k.now link).quits ≡ quits → has_bytes (wire_now k.now link).unread ≡ unread
        → (if quits || unread then None else option_map (wish_for (link_by k link) (standing_on k link)) (asked_on k link)) ≡ Some wish → IsWished wish
    by_barred true unread quit read is = no_some wish is
    by_barred false true quit read is = no_some wish is
    by_barred false false quit read is =
        by_asked (next_question texts k.fixed.ids (setup_by k) (kept_due k) (link_by k link) (readied_now k link)) refl quit read is

-- What is due and may be asked for.

module _ (k : Known) where
  pub record Stands (n : SessionName) (due : Due) : Type 0 where
    pub at : (view_by k).dues n ≡ Some due
    pub waits : is_due k.terms k.now.tale n ≡ true

  pub kept_at : (n : SessionName) (due : Due) → (kept_due k).dues n ≡ Some due → Stands n due
  kept_at n due is = by_test (is_due k.terms k.now.tale n) refl is where
    by_test : (b : Bool) → is_due k.terms k.now.tale n ≡ b → (if b then (view_by k).dues n else None) ≡ Some due → Stands n due
    by_test true waits is = record { at = is; waits = waits }
    by_test false waits is = no_some due is

  pub readied_at : (r : Readied) → Waits k r → Stands r.name r.due
  readied_at r waits = record {
    at = waits.due;
    waits = subst (λ (n : SessionName). is_due k.terms k.now.tale n ≡ true) waits.present
        (and_parts (is_due k.terms k.now.tale (present_by k r.name.client r.name.hostgroup)) _
        (and_parts (is_unsent k.terms k.now.tale (present_by k r.name.client r.name.hostgroup)) _ waits.waits).0).0;
  }

  pub unanswered : (n : SessionName) (due : Due) → Stands n due → own_at (plan_in k.terms) k.now.tale.moment (message_of n due) ≡ None
  unanswered n due stands = by_own (own_at (plan_in k.terms) k.now.tale.moment (message_of n due)) (by_due ((view_by k).dues n) stands.at stands.waits) where
    by_due : (o : Option Due) → o ≡ Some due
        → option_map_or (λ (d : Due). not (is_some (own_at (plan_in k.terms) k.now.tale.moment (message_of n d)))) o false ≡ true
        → not (is_some (own_at (plan_in k.terms) k.now.tale.moment (message_of n due))) ≡ true
    by_due None at is = no_some due at
    by_due (Some other) at is =
        subst (λ (d : Due). not (is_some (own_at (plan_in k.terms) k.now.tale.moment (message_of n d))) ≡ true) (some_of other due at) is

    by_own : (o : Option (List (List ℕ))) → not (is_some o) ≡ true → o ≡ None
    by_own None is = refl
    by_own (Some payloads) is = isnt (sym is)
