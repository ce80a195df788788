-- What ends clients of a router that keeps its clients apart.
use Rattle.std.specs.Prelude.{◌≡◌, ◌≤◌, ◌+◌, ◌++◌, ◌||◌, ℕ, suc, Bool, true, false, length, [], ◌∷◌, None}
use Rattle.std.proofs.Common.{sym, ◌∙◌, subst, arith, length-append}
use Rattle.std.proofs.lemmas.Bool.{true≢false}
use Rattle.std.proofs.lemmas.Option.{none-some}
use Rattle.mx_wire.specs.Log.{Log}
use Rattle.mx_wire.specs.declared.entry.Entry.{Entry}
use Rattle.mx_wire.specs.declared.entry.Entry.TheVariants as entry
use Rattle.private_model.specs.Names.{ClientNo}
use Rattle.private_model.specs.View.{Setup}
use Rattle.log_story.specs.Headline.{tale_of}
use Rattle.log_story.specs.Plan.{Plan}
use Rattle.log_story.specs.Tale.{Client}
use Rattle.router_promises.proofs.Refusals.{at-index, never}
use Rattle.router_promises.specs.Terms.{Terms, plan_in, setup_in, tale_at}
use Rattle.core_promises.proofs.Given.{same-cut}
use Rattle.core_promises.specs.Endings.{EndsForCause, HasEndCause, IsEndCause, IsPartedAt, Parted, SaidSo, TooMuch, has_said_its_end, may_end}
use Rattle.core_promises.specs.Wrong.{IsEnded}

-- who said nothing that ends it, and has no last word, ended by the entry
by-entry : (budget : ℕ) (setup : Setup) (plan : Plan) (log : Log) (e : Entry) (c : ClientNo)
    → has_said_its_end plan (tale_of setup plan (log ++ e ∷ [])) c ≡ false → plan.words c ≡ None → IsEndCause budget setup plan log e c
    → IsPartedAt setup plan log e c
by-entry budget setup plan log e c silent wordless (SaidSo says) = absurd (true≢false (sym says ∙ silent))
by-entry budget setup plan log e c silent wordless (Parted there) = there
by-entry budget setup plan log e c silent wordless (TooMuch kept announced more told) = absurd (none-some _ (sym wordless ∙ told))

pub parted : (terms : Terms) (before : Log) (e : Entry) (client : Client) → IsEnded terms before e client
    → IsPartedAt (setup_in terms) (plan_in terms) before e client.number
parted terms before e client ended =
    let log : Log = before ++ e ∷ ended.more in
    let here : suc (length before) ≤ length log = omega (arith, length-append before (e ∷ ended.more)) in
    let has : HasEndCause terms.router.proxy.buffer_budget (setup_in terms) (plan_in terms) log client.number (suc (length before)) =
    at-index (EndsForCause terms.router.proxy.buffer_budget (setup_in terms) (plan_in terms) log) (tale_at terms log).clients ended.place client ended.keeps.ends
    ended.within ended.is (suc (length before)) ended.ends here in
    let from = has.from in
    let cut = same-cut before has.before e has.entry ended.more has.later (omega (arith, from)) has.there in
    by-entry terms.router.proxy.buffer_budget (setup_in terms) (plan_in terms) before e client.number ended.silent ended.wordless
    (subst (λ (l : Log). IsEndCause terms.router.proxy.buffer_budget (setup_in terms) (plan_in terms) l e client.number) (sym cut.0)
    (subst (λ (x : Entry). IsEndCause terms.router.proxy.buffer_budget (setup_in terms) (plan_in terms) has.before x client.number) (sym cut.1) has.why))

pub at-no-other : (setup : Setup) (plan : Plan) (log : Log) (e : Entry) (c : ClientNo) → IsPartedAt setup plan log e c → may_end e ≡ false → ⊥
at-no-other setup plan log (entry.Accepted port link salt) c there none = never none
at-no-other setup plan log (entry.Got link bytes) c there none = never none
at-no-other setup plan log (entry.Ended link) c there none = never none
at-no-other setup plan log (entry.ReadFailed link) c there none = never none
at-no-other setup plan log (entry.WriteFailed link) c there none = never none
at-no-other setup plan log (entry.Woke until_ms now_ms) c there none = never none
at-no-other setup plan log e c there none = there

pub neither : (a b : Bool) → (a || b) ≡ true → a ≡ false → b ≡ false → ⊥
neither true b is one other = never one
neither false b is one other = true≢false (sym is ∙ other)
