-- What stays as it was over several calls.
use Rattle.std.specs.Prelude.{◌≡◌}
use Rattle.std.proofs.Common.{◌∙◌, ap, refl, subst, sym}
use Rattle.core_tables.specs.Tables.{IsSame, Tabled}
use Rattle.marked_tables.specs.Goes.{GoesOn}
use Rattle.marked_tables.specs.declared.marked.MarkedTables.{MarkedTables}
use Rattle.marked_tables.proofs.Going.{goes_along, still_goes}
use Rattle.core_texts.proofs.Keeping.{itself_more, more_on}
use Rattle.core_service.specs.declared.service.Service.{Service}
use Rattle.shared_core.specs.Follows.{Keeps, KeepsBut, Made, made_by}
use Rattle.shared_core.specs.Stands.{Chooses, Moves, Shown, Work, shown, tables, tables_in, work_of, worked}
use Rattle.shared_core.specs.declared.router.Router.{Router}
use Rattle.shared_core.proofs.Carrying.{texts_more}

pub keeps_still : (r : Router) → Keeps r r
keeps_still r = record { goes = still_goes r.marked; roomy = refl; came = refl; asked = refl; client = refl; link = refl; texts = itself_more r.texts; work = refl }

pub keeps_along : (a b c : Router) → Keeps b c → Keeps a b → Keeps a c
keeps_along a b c next first = record {
  goes = goes_along a.marked b.marked c.marked first.goes next.goes;
  roomy = next.roomy ∙ first.roomy;
  came = next.came ∙ first.came;
  asked = next.asked ∙ first.asked;
  client = next.client ∙ first.client;
  link = next.link ∙ first.link;
  texts = more_on a.texts b.texts c.texts first.texts next.texts;
  work = next.work ∙ first.work;
}

-- as clients go on

pub keeps_but : (a b : Router) → Keeps a b → KeepsBut a b
keeps_but a b keeps = record {
  goes = keeps.goes;
  roomy = keeps.roomy;
  came = keeps.came;
  asked = keeps.asked;
  client = keeps.client;
  link = keeps.link;
  texts = keeps.texts;
}

pub but_along : (a b c : Router) → KeepsBut b c → KeepsBut a b → KeepsBut a c
but_along a b c next first = record {
  goes = goes_along a.marked b.marked c.marked first.goes next.goes;
  roomy = next.roomy ∙ first.roomy;
  came = next.came ∙ first.came;
  asked = next.asked ∙ first.asked;
  client = next.client ∙ first.client;
  link = next.link ∙ first.link;
  texts = more_on a.texts b.texts c.texts first.texts next.texts;
}

-- before, and behind

pub but_then : (a b c : Router) → Keeps b c → KeepsBut a b → KeepsBut a c
but_then a b c next first = but_along a b c (keeps_but b c next) first

pub but_behind : (a b c : Router) → KeepsBut b c → Keeps a b → KeepsBut a c
but_behind a b c next first = but_along a b c next (keeps_but a b first)

pub but_moves : (a b : Router) → KeepsBut a b → Moves a b
but_moves a b keeps = record { goes = keeps.goes; client = keeps.client; link = keeps.link }

-- what was made, where it stays as it was before and behind

pub made_then : (service : Service) (a b c : Router) → Keeps b c → made_by service a c ≡ record (made_by service a b) { texts = c.texts }
made_then service a b c keeps = ap (λ (w : Work). record { texts = c.texts; was = worked service (work_of a); is = worked service w }) keeps.work

pub made_behind : (service : Service) (a b c : Router) → Keeps a b → made_by service a c ≡ made_by service b c
made_behind service a b c keeps =
    sym (ap (λ (w : Work). record { texts = c.texts; was = worked service w; is = worked service (work_of c) }) keeps.work)

pub chosen_keeps : (a b : Router) → Chooses a b → Keeps a b
chosen_keeps a b chosen = record {
  goes = let P : MarkedTables → Type 0 = λ m. GoesOn a.marked m in
      subst P (sym (ap (λ (s : Shown). s.marked) chosen.same)) (still_goes a.marked);
  roomy = ap (λ (s : Shown). s.roomy) chosen.same;
  came = ap (λ (s : Shown). s.came) chosen.same;
  asked = chosen.asked;
  client = ap (λ (s : Shown). s.leaving) chosen.same;
  link = ap (λ (s : Shown). s.closing) chosen.same;
  texts = texts_more a.texts b.texts (ap (λ (s : Shown). s.texts) chosen.same);
  work = ap (λ (s : Shown). s.work) chosen.same;
}

pub keeps_then : (a b c : Router) → Chooses b c → Keeps a b → Keeps a c
keeps_then a b c chosen first = keeps_along a b c (chosen_keeps b c chosen) first

pub keeps_moves : (a b : Router) → Keeps a b → Moves a b
keeps_moves a b keeps = record { goes = keeps.goes; client = keeps.client; link = keeps.link }

pub chosen_still : (r : Router) → Chooses r r
chosen_still r = record { same = refl; asked = refl }

-- the tables are the same

pub tables_chosen : (a b : Router) → Chooses a b → tables b ≡ tables a
tables_chosen a b chosen = ap tables_in chosen.same

pub same_chosen : (a b : Router) (t : Tabled) → Chooses a b → IsSame (tables a) t → IsSame (tables b) t
same_chosen a b t chosen same =
    let P : Tabled → Type 0 = λ now. IsSame now t in
    subst P (sym (tables_chosen a b chosen)) same
