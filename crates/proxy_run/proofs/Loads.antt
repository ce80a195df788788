-- A load ends in Over, where all is said: no administrator comes to one.
use Rattle.std.specs.Prelude.{◌≡◌, ℕ, zero, suc, Bool, true, false, ◌||◌, List, [], ◌∷◌, ◌++◌, length, slice_get, Option, Some, None, refl}
use Rattle.std.specs.List.{fold, list_any}
use Rattle.std.proofs.Common.{sym, ◌∙◌, ap, append_assoc, inl, inr}
use Rattle.std.proofs.lemmas.List.Folds.{list_any-append}
use Rattle.std.proofs.lemmas.List.Sums.{fold-append}
use Rattle.mx_base.specs.declared.names.LinkId.{LinkId}
use Rattle.mx_base.specs.declared.names.Port.TheVariants as port
use Rattle.mx_wire.specs.Log.{Log}
use Rattle.mx_wire.specs.declared.entry.Entry.{Entry}
use Rattle.mx_wire.specs.declared.entry.Entry.TheVariants as entry
use Rattle.ready_loop.specs.Serving.{EndsWith, IsOver}
use Rattle.core_promises.specs.InForce.{has_administrator, is_administrators}
use Rattle.server_rule.specs.Servers.{Step}
use Rattle.scripted_wire.specs.Hosts.{Hosted}
use Rattle.scripted_wire.specs.Links.{link_served}
use Rattle.scripted_wire.specs.Marks.{marks_of}
use Rattle.scripted_wire.specs.Plays.{AllServed, AreServed, Cast, Does, IsCall, Plays, Scene, Turns, served_at, served_to}
use Rattle.scripted_wire.specs.Plays.Plays.{Begins, GoesOn}
use Rattle.scripted_wire.specs.Stages.{is_over}
use Rattle.scripted_wire.specs.declared.did.Did.{Did}
use Rattle.scripted_wire.specs.declared.did.Did.TheVariants as did
use Rattle.scripted_wire.specs.declared.link.Link.{Link}
use Rattle.scripted_wire.specs.declared.stage.Stage.{Stage}
use Rattle.proxy_run.specs.Serve.{IsServed}

-- No administrator comes.

none-both : (xs ys : Log) → has_administrator xs ≡ false → has_administrator ys ≡ false → has_administrator (xs ++ ys) ≡ false
none-both xs ys one other = list_any-append is_administrators xs ys ∙ ap (λ b. b || list_any is_administrators ys) one ∙ other

mark-none : (link : LinkId) (what : Did) → has_administrator (marks_of link what) ≡ false
mark-none link did.Nothing = refl
mark-none link did.Answered = refl
mark-none link did.Ran = refl
mark-none link did.Dropped = refl

at-none : (step : Step) (at : ℕ) (found : Option Link) (so : AllServed) → has_administrator so.marks ≡ false → has_administrator (served_at step at found so).marks ≡ false
at-none step at None so none = none
at-none step at (Some link) so none = none-both so.marks _ none (mark-none (record { 0 = at }) (link_served step link so.hosted).did)

served-none : (step : Step) (count : ℕ) (links : List Link) (hosted : Hosted) → has_administrator (served_to step count links hosted).marks ≡ false
served-none step zero links hosted = refl
served-none step (suc count) links hosted =
    let so : AllServed = served_to step count links hosted in at-none step count (slice_get so.links count) so (served-none step count links hosted)

marks-none : (step : Step) (old : Scene) (marks : Log) (worked : Bool) (stage : Stage) (hosted : Hosted) → AreServed step old marks worked stage hosted → has_administrator marks ≡ false
marks-none step old marks worked stage hosted served = ap {A = AllServed} (λ so. has_administrator so.marks) served.is ∙ served-none step (length old.stage.links.items) old.stage.links.items old.hosted

entry-none : (servers : ℕ) (e : Entry) (old new : Stage) → Does servers e old new → is_administrators e ≡ false
entry-none servers (entry.Accepted port.Admin link salt) old new does = absurd does
entry-none servers (entry.Accepted port.Traffic link salt) old new does = refl
entry-none servers _ old new does = refl

one-none : (e : Entry) → is_administrators e ≡ false → has_administrator (e ∷ []) ≡ false
one-none e none = ap (λ b. b || false) none

call-none : (old : Scene) (marks : Log) (e : Entry) (new : Scene) → IsCall old marks e new → has_administrator (marks ++ e ∷ []) ≡ false
call-none old marks e new call = none-both marks (e ∷ []) (ap has_administrator call.unmarked) (one-none e (entry-none _ e old.stage new.stage call.does))

turn-none : (step : Step) (old : Scene) (marks : Log) (e : Entry) (new : Scene) → Turns step old marks e new → has_administrator (marks ++ e ∷ []) ≡ false
turn-none step old marks (entry.Woke until_ms now_ms) new turn = none-both marks _ (marks-none step old marks turn.worked turn.stage new.hosted turn.served) refl
turn-none step old marks entry.Over new turn = none-both marks _ (marks-none step old marks false new.stage new.hosted turn.served) refl
turn-none step old marks _ new turn = call-none old marks _ new turn

pub no-administrator : (step : Step) (cast : Cast) (log : Log) (scene : Scene) → Plays step cast log scene → has_administrator log ≡ false
no-administrator step cast _ _ (Begins first begun) = refl
no-administrator step cast _ _ (GoesOn log marks e old new plays turn) =
    none-both log (marks ++ e ∷ []) (no-administrator step cast log old plays) (turn-none step old marks e new turn)

pub ends-over : (step : Step) (cast : Cast) (log : Log) (scene : Scene) → Plays step cast log scene → IsServed (Some log) → EndsWith IsOver (Some log)
ends-over step cast log scene plays (inl over) = over
ends-over step cast log scene plays (inr shut) =
    absurd (let both : true ≡ false = sym (shut.administrator log refl) ∙ no-administrator step cast log scene plays in cc)

-- Over comes where nothing is to come.

abbrev is_end : Entry → Bool
is_end entry.Over = true
is_end _ = false

abbrev is_at_end : Log → Bool
is_at_end log = fold (λ (was : Bool) (e : Entry). is_end e) false log

end-last : (log : Log) (e : Entry) → is_at_end (log ++ e ∷ []) ≡ is_end e
end-last log e = fold-append (λ (was : Bool) (x : Entry). is_end x) false log (e ∷ [])

end-of : (e : Entry) → IsOver e → is_end e ≡ true
end-of entry.Over is = refl
end-of _ is = absurd is

at-end : (log : Log) → EndsWith IsOver (Some log) → is_at_end log ≡ true
at-end log over =
    let last = over.last log refl in ap is_at_end last.1.2 ∙ end-last last.0 last.1.0 ∙ end-of last.1.0 last.1.1

over-then : (step : Step) (old : Scene) (marks : Log) (e : Entry) (new : Scene) → is_end e ≡ true → Turns step old marks e new → is_over new.stage ≡ true
over-then step old marks entry.Over new is turn = turn.over
over-then step old marks _ new is turn = absurd (let no : false ≡ true = is in cc)

over-at : (step : Step) (cast : Cast) (log : Log) (scene : Scene) → Plays step cast log scene → is_at_end log ≡ true → is_over scene.stage ≡ true
over-at step cast _ _ (Begins first begun) is = absurd (let no : false ≡ true = is in cc)
over-at step cast _ _ (GoesOn log marks e old new plays turn) is =
    over-then step old marks e new (sym (end-last (log ++ marks) e) ∙ ap is_at_end (append_assoc log marks (e ∷ [])) ∙ is) turn

pub all-said : (step : Step) (cast : Cast) (log : Log) (scene : Scene) → Plays step cast log scene → EndsWith IsOver (Some log) → is_over scene.stage ≡ true
all-said step cast log scene plays over = over-at step cast log scene plays (at-end log over)
