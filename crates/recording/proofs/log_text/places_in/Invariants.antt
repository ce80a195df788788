use Rattle.std.proofs.Common.{◌≡◌, take}
use Rattle.mx_base.specs.declared.names.LinkId.{LinkId}
use Rattle.mx_wire.specs.Log.{of_link}
use Rattle.recording.specs.Places.{entries_at, places_of}
use Rattle.recording.proofs.log_text.places_in.Given as goal

abbrev pub invariant-loop-place : goal.invariant-loop-place
invariant-loop-place l = (link : LinkId) → entries_at l.log (places_of l.places link) ≡ of_link link (take l.place l.log)
