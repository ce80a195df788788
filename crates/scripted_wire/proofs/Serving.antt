-- What servers do at a wake, link by link.
use Rattle.std.proofs.Common.{◌≡◌, ◌∙◌, ℕ, suc, ◌+◌, Bool, false, ◌||◌, List, [], ◌++◌, length, set, Option, Some, None, refl, sym, ap, subst, arith, append-nil}
use Rattle.std.specs.Prelude.{slice_get}
use Rattle.mx_wire.specs.Adds.{Adds, adds-append}
use Rattle.mx_wire.specs.Log.{Log}
use Rattle.mx_wire.specs.declared.entry.Entry.{Entry}
use Rattle.server_rule.specs.Servers.{Step}
use Rattle.scripted_wire.specs.Hosts.{Hosted}
use Rattle.scripted_wire.specs.Links.{LinkServed, link_served}
use Rattle.scripted_wire.specs.Marks.{is_work, mark_of, option_log}
use Rattle.scripted_wire.specs.Plays.{AllServed, ServesTo, served_at, served_next, served_to, with_served}
use Rattle.scripted_wire.specs.declared.did.Did.{Did}
use Rattle.scripted_wire.specs.declared.link.Link.{Link}
use Rattle.scripted_wire.specs.declared.stage.Stage.{Stage}

pub serves-none : (step : Step) (stage : Stage) (hosted : Hosted) (told : Option Log) → ServesTo step 0 stage hosted told false stage hosted told
serves-none step stage hosted told = record {
  frame = refl;
  marks = [];
  is = refl;
  adds = record { told = λ log is. (log, is, sym (append-nil log)) };
}

pub serves-more : (step : Step) (at : ℕ) (old : Stage) (hosted : Hosted) (told : Option Log) (worked : Bool) (mid : Stage) (between : Hosted) (later : Option Log)
    → (link new-link : Link) (after : Hosted) (did : Did) (mark : Option Entry) (last : Option Log) (new : Stage) (work later-worked : Bool) → ServesTo step at old hosted told worked mid between later
    → slice_get mid.links.items at ≡ Some link → record { link = new-link; hosted = after; did = did } ≡ link_served step link between → new ≡ record mid { links = new.links }
    → new.links.items ≡ set mid.links.items at new-link → mark ≡ mark_of (record { 0 = at }) did → Adds later (option_log mark) last
    → work ≡ is_work did → later-worked ≡ (worked || work) → ServesTo step (at + 1) old hosted told later-worked new after last
serves-more step at old hosted told worked mid between later link new-link after did mark last new work later-worked so found run frame links is adds work-is worked-is =
    let before : AllServed = record { links = mid.links.items; hosted = between; marks = so.marks; worked = worked } in
    let it : LinkServed = record { link = new-link; hosted = after; did = did } in
    let now : AllServed = record { links = new.links.items; hosted = after; marks = so.marks ++ option_log (mark_of (record { 0 = at }) did); worked = worked || is_work did } in
    let here : now ≡ with_served at it before = rw links refl in
    let ran : with_served at it before ≡ with_served at (link_served step link between) before = ap {A = LinkServed} (λ served. with_served at served before) run in
    let there : served_at step at (Some link) before ≡ served_next step at before = ap (λ place. served_at step at place before) (sym found) in
    let all : served_next step at before ≡ served_next step at (served_to step at old.links.items hosted) = ap {A = AllServed} (served_next step at) so.is in
    let next : at + 1 ≡ suc at = omega arith in
    record {
      frame = frame ∙ ap {A = Stage} {B = Stage} (λ s. record s { links = new.links }) so.frame;
      marks = so.marks ++ option_log (mark_of (record { 0 = at }) did);
      is = rw (worked-is, work-is, next) (here ∙ ran ∙ there ∙ all);
      adds = adds-append told later last so.marks (option_log (mark_of (record { 0 = at }) did)) so.adds (subst (λ (m : Option Entry). Adds later (option_log m) last) is adds);
    }
