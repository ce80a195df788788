-- What the steps of a play leave of its stage.
use Rattle.std.proofs.Common.{◌≡◌, ℕ, ◌≤◌, [], List, length, sym, ◌∙◌, ap, subst, arith}
use Rattle.recording.specs.declared.entry.RecordEntry.{RecordEntry}
use Rattle.mem_wire.specs.declared.naming.ToName.{ToName}
use Rattle.std.specs.Prelude.{Option}
use Rattle.mem_wire.specs.declared.stage.Stage.{Stage}
use Rattle.mem_wire.specs.Refusals.{Knows}
use Rattle.mem_wire.specs.Tracks.{track_at, SameLinks}
use Rattle.mem_wire.specs.Steps.{KeepsPlaces, IsWithin, Wakes}
use Rattle.mem_wire.specs.Turns.{Searches}
use Rattle.mem_wire.proofs.Sound.{KeepsCourse}

-- a call that brings no link and no moment
pub record Moved (old new : Stage) : Type 0 where
  pub frame : new ≡ record old { tracks = new.tracks; late = new.late; turns = new.turns }
  pub late : new.late.marks ≡ []
  pub links : SameLinks old.tracks.items new.tracks.items

pub moved-moves : (old new : Stage) → new ≡ record old { tracks = new.tracks; late = new.late } → new.late.marks ≡ [] → SameLinks old.tracks.items new.tracks.items → Moved old new
moved-moves old new frame late links = record {
  links = links;
  frame = frame ∙ ap (λ turns. record old { tracks = new.tracks; late = new.late; turns = turns }) (sym (ap (λ s. s.turns) frame));
  late = late;
}

pub keeps-moved : (old new : Stage) → Moved old new → KeepsCourse old new
keeps-moved old new moved = record {
  cut = ap (λ s. s.cut) moved.frame;
  places = ap (λ s. s.places) moved.frame;
  opened = ap (λ s. s.opened) moved.frame;
  traffic = ap (λ s. s.traffic) moved.frame;
  admin = ap (λ s. s.admin) moved.frame;
  late = moved.late;
  links = moved.links;
}

pub within-keeps : (recording : List RecordEntry) (old new : Stage) → IsWithin recording old → KeepsPlaces old new → IsWithin recording new
within-keeps recording old new within keeps = record {
  cut = subst (λ (n : ℕ). n ≤ length recording) (sym keeps.cut) within.cut;
  last = subst (λ (n : ℕ). n ≤ new.cut) (sym keeps.last) (subst (λ (n : ℕ). old.last ≤ n) (sym keeps.cut) within.last);
  refusals = subst (Knows recording) (sym keeps.refusals) within.refusals;
}

-- an open was asked for
pub within-asked : (recording : List RecordEntry) (old new : Stage) → IsWithin recording old → new ≡ record old { opens = new.opens; refusals = new.refusals; late = new.late } → Knows recording new.refusals → IsWithin recording new
within-asked recording old new within frame knows = record {
  cut = subst (λ (n : ℕ). n ≤ length recording) (sym (ap (λ s. s.cut) frame)) within.cut;
  last = let last : new.last ≡ old.last = ap (λ s. s.last) frame in let cut : new.cut ≡ old.cut = ap (λ s. s.cut) frame in let h : old.last ≤ old.cut = within.last in omega arith;
  refusals = knows;
}

pub within-moves : (recording : List RecordEntry) (old new : Stage) → IsWithin recording old → new ≡ record old { tracks = new.tracks; late = new.late } → IsWithin recording new
within-moves recording old new within frame = within-keeps recording old new within (record {
  cut = ap (λ s. s.cut) frame;
  last = ap (λ s. s.last) frame;
  refusals = ap (λ s. s.refusals) frame;
})

pub within-search : (recording : List RecordEntry) (found : Option ToName) (old new : Stage) → IsWithin recording old → Searches found old new → IsWithin recording new
within-search recording found old new within search = within-keeps recording old new within (record {
  cut = ap (λ s. s.cut) search.frame;
  last = ap (λ s. s.last) search.frame;
  refusals = ap (λ s. s.refusals) search.frame;
})

pub within-enters : (recording : List RecordEntry) (old new : Stage) → IsWithin recording old → new.cut ≡ old.cut → new.last ≡ old.last → new.refusals ≡ old.refusals → IsWithin recording new
within-enters recording old new within cut last refusals = within-keeps recording old new within (record { cut = cut; last = last; refusals = refusals })

pub within-wakes : (recording lines : List RecordEntry) (next : ℕ) (old new : Stage) → IsWithin recording old → Wakes lines next old new → old.cut ≤ next → next ≤ length recording → IsWithin recording new
within-wakes recording lines next old new within wakes later end = record {
  refusals = subst (Knows recording) (sym (ap (λ s. s.refusals) wakes.frame)) within.refusals;
  cut = subst (λ (n : ℕ). n ≤ length recording) (sym (ap (λ s. s.cut) wakes.frame)) end;
  last = let last : new.last ≡ old.cut = ap (λ s. s.last) wakes.frame in let cut : new.cut ≡ next = ap (λ s. s.cut) wakes.frame in omega arith;
}

-- a search, and then the track of the link that it found is changed
pub moved-name : (found : Option ToName) (old mid new : Stage) → Searches found old mid → new ≡ record mid { tracks = new.tracks; late = new.late } → new.late.marks ≡ [] → SameLinks mid.tracks.items new.tracks.items → Moved old new
moved-name found old mid new looks frame late links = record {
  links = λ at. links at ∙ ap (λ s. (track_at s.tracks.items at).link) looks.frame;
  frame = frame ∙ ap {A = Stage} (λ s. record s { tracks = new.tracks; late = new.late }) looks.frame
      ∙ ap (λ turns. record old { tracks = new.tracks; late = new.late; turns = turns }) (sym (ap (λ s. s.turns) frame));
  late = late;
}
