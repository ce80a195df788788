-- What a statement leaves behind, and what the rules of sending make of it.
use Rattle.std.specs.Prelude.{◌≡◌, ◌≢◌, ◌⊎◌, ℕ, Bool, true, false, ◌||◌, if◌then◌else◌, Option, None, refl}
use Rattle.std.proofs.Common.{ap, inl, inr, subst, sym, ◌∙◌}
use Rattle.mx_base.specs.declared.names.LinkId.{LinkId}
use Rattle.private_model.specs.Commands.{Command, FieldList, InitDb, Prepare, Query, Quit, ReadId, Reply, Reset, Run, SetId, end_of, is_err, is_marked, pin_statement}
use Rattle.private_model.specs.Lawful.{IdsAgree, IsSettled, IsStatement, MayFree}
use Rattle.private_model.specs.Names.{SessionName}
use Rattle.private_model.specs.Story.{Due, Statement}
use Rattle.private_model.specs.View.{Answered, Held, Joined, Link, Setup, Stage, View, heard, held_heard, present, view_heard}
use Rattle.private_model.proofs.Maps.{link_ids, names, put-same}
use Rattle.router_promises.proofs.Refusals.{never, none-some}
use Rattle.server_rule.specs.Classes.{Reads}
use Rattle.session_state.specs.Pins.{is_pinned, needs_reset, pin_answered, pin_prepared}
use Rattle.session_state.specs.declared.pin.Pin.{Pin}
use Rattle.apart_cases.proofs.Kept.{freed-clean, joined-lent, same-joined}

-- Insert ids.

agreed : (of_link of_session : Option ℕ) → IdsAgree of_link of_session → of_link ≡ of_session
agreed of_link of_session agree = agree.link ∙ sym agree.session

later-or-agreed : (marked : Bool) (of_link of_session : Option ℕ) → (marked ≡ true) ⊎ IdsAgree of_link of_session → marked ≡ false → of_link ≡ of_session
later-or-agreed marked of_link of_session (inl later) first = never (sym later ∙ first)
later-or-agreed marked of_link of_session (inr agree) first = agreed of_link of_session agree

pub ids-agree : (setup : Setup) (view : View) (n : SessionName) (due : Due) (link : Link) → IsStatement setup view n due link
    → is_marked setup.reads due.command ≡ true → link.marked ≡ false → link.id ≡ (view.held n).id
ids-agree setup view n due link is marked first = elim is.how [
  | inl begins ↦ begins.begins.marks marked
  | inr goes_on ↦ later-or-agreed link.marked link.id (view.held n).id (goes_on.goes_on.marks marked) first
]

pub asked-first : (setup : Setup) (view : View) (n : SessionName) (due : Due) (link : Link) → IsStatement setup view n due link
    → is_pinned (view.held n).pin ≡ false → (view.held n).id ≡ None → ⊥
asked-first setup view n due link is free unknown = elim is.how [
  | inl begins ↦ none-some (sym unknown ∙ begins.begins.no_capture)
  | inr goes_on ↦ never (sym goes_on.goes_on.pinned ∙ free)
]

-- The session of a link that is given back.

carried-by : (view : View) (link : Link) (n : SessionName) (free : MayFree view link) → link.carries ≡ Joined n → free.who ≡ n
carried-by view link n free carries = elim free.carries [
  | inl joined ↦ same-joined free.who n (sym joined ∙ carries)
  | inr lent ↦ joined-lent n free.who (sym carries ∙ lent)
]

settled-or-left : (view : View) (n : SessionName) → IsSettled (view.held n) ⊎ (n ≢ present view n.client n.hostgroup) → (view.held n).id ≡ None → n ≡ present view n.client n.hostgroup → ⊥
settled-or-left view n (inl settled) unknown here = none-some (sym unknown ∙ settled.is_known)
settled-or-left view n (inr left) unknown here = left here

pub kept-until-known : (view : View) (link : Link) (n : SessionName) → MayFree view link → link.carries ≡ Joined n → (view.held n).id ≡ None
    → n ≡ present view n.client n.hostgroup → ⊥
kept-until-known view link n free carries unknown here =
    settled-or-left view n
    (subst (λ (m : SessionName). IsSettled (view.held m) ⊎ (m ≢ present view m.client m.hostgroup)) (carried-by view link n free carries) free.settled) unknown here

-- An error keeps its link, whatever is known of a transaction.

errs : (reads : Reads) (command : Command) (multiplex : Option Bool) (reply : Reply) (pin : Pin) → is_err reply ≡ true
    → (pin_statement reads command multiplex reply pin).after_err ≡ true
errs reads (Prepare text) multiplex reply pin err =
    ap (λ (b : Bool). (if b then pin_answered (reads.class text) multiplex (end_of reply) pin else pin_prepared (reads.class text) (end_of reply) pin).after_err) err ∙ err
errs reads (Query text) multiplex reply pin err = err
errs reads (InitDb schema) multiplex reply pin err = err
errs reads (FieldList rest) multiplex reply pin err = err
errs reads (Run text schema settings args) multiplex reply pin err = err
errs reads (SetId n) multiplex reply pin err = err
errs reads ReadId multiplex reply pin err = err
errs reads Reset multiplex reply pin err = err
errs reads Quit multiplex reply pin err = err

second : (a b c : Bool) → b ≡ true → (a || (b || c)) ≡ true
second true b c is = refl
second false b c is = ap (λ (x : Bool). x || c) is

resets-behind-an-error : (pin : Pin) → pin.after_err ≡ true → needs_reset pin ≡ true
resets-behind-an-error pin is = second pin.tx pin.after_err (pin.locks || (pin.next_tx || (pin.deep || (pin.uncommitted || pin.rule)))) is

pub kept-behind-an-error : (setup : Setup) (view : View) (n : SessionName) (due : Due) (link : LinkId) (reply : Reply)
    → (view.links link).stage ≡ Answered (Statement n due) → (view.links link).carries ≡ Joined n → is_err reply ≡ true
    → MayFree (view_heard setup view link reply (view.links link).stage) ((view_heard setup view link reply (view.links link).stage).links link) → ⊥
kept-behind-an-error setup view n due link reply answered carries err free =
    let later : View = view_heard setup view link reply (Answered (Statement n due)) in
    let there : MayFree later (later.links link) = subst (λ (s : Stage). MayFree (view_heard setup view link reply s) ((view_heard setup view link reply s).links link)) answered free in
    let same : (later.links link).carries ≡ Joined n = ap (λ (l : Link). l.carries) (put-same link_ids view.links link (heard setup.reads (Statement n due) reply (view.links link))) ∙ carries in
    let held : (later.held n).pin.after_err ≡ true = ap (λ (h : Held). h.pin.after_err) (put-same names view.held n (held_heard setup.reads (Statement n due) reply (view.held n)))
    ∙ errs setup.reads due.command due.multiplex reply (view.held n).pin err in
    never (sym (resets-behind-an-error (later.held n).pin held) ∙ freed-clean later (later.links link) n there same)
