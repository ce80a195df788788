-- How many links a call leaves.
use Rattle.std.proofs.Common.{◌≡◌, ℕ, ◌+◌, Bool, true, false, List, length, Option, Some, None, refl, sym, ◌∙◌, ap, length-append}
use Rattle.std.specs.Prelude.{slice_get}
use Rattle.std.proofs.lemmas.List.{length-set}
use Rattle.scripted_wire.specs.Stages.{Accepts, AcceptsBy, Changes, KeepsLinks, Opens, changed_by}
use Rattle.scripted_wire.specs.declared.link.Link.{Link}
use Rattle.scripted_wire.specs.declared.script.Script.{Script}
use Rattle.scripted_wire.specs.declared.stage.Stage.{Stage}

-- one link more
pub record OneMore (old new : Stage) : Type 0 where
  pub moment : new.moment ≡ old.moment
  pub size : length new.links.items ≡ length old.links.items + 1

size-changed : (change : Link → Link) (at : ℕ) (found : Option Link) (links : List Link) → length (changed_by change at found links) ≡ length links
size-changed change at None links = refl
size-changed change at (Some link) links = length-set links at (change link)

pub changes_keep : (change : Link → Link) (at : ℕ) (old new : Stage) → Changes change at old new → KeepsLinks old new
changes_keep change at old new changes = record {
  moment = ap {A = Stage} (λ s. s.moment) changes.frame;
  size = ap length changes.links ∙ size-changed change at (slice_get old.links.items at) old.links.items;
}

pub opens_one : (server : ℕ) (old new : Stage) → Opens server old new → OneMore old new
opens_one server old new opens = record {
  moment = ap {A = Stage} (λ s. s.moment) opens.frame;
  size = ap length opens.links ∙ length-append old.links.items _;
}

accepts_by : (script : Option Script) (came : Bool) (old new : Stage) → came ≡ true → AcceptsBy script came old new → OneMore old new
accepts_by (Some script) came old new is accepts = record {
  moment = ap {A = Stage} (λ s. s.moment) accepts.1.frame;
  size = ap length accepts.1.links ∙ length-append old.links.items _;
}
accepts_by None came old new is accepts = absurd (let h : true ≡ false = sym is ∙ accepts.0 in cc)

pub accepts_one : (came : Bool) (old new : Stage) → came ≡ true → Accepts came old new → OneMore old new
accepts_one came old new is accepts = accepts_by (slice_get old.waiting.scripts old.waiting.came) came old new is accepts
