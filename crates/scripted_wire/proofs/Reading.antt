-- The entry of a read.
use Rattle.std.proofs.Common.{◌≡◌, ℕ, List, Some, refl}
use Rattle.mx_base.specs.declared.names.LinkId.{LinkId}
use Rattle.mx_wire.specs.Answers.{got_entry}
use Rattle.mx_wire.specs.Log.{link_of, moment_step}
use Rattle.mx_wire.specs.declared.wire.Got.{Got}
use Rattle.mx_wire.specs.declared.wire.Got.TheVariants as got

pub got_link : (link : LinkId) (into : List ℕ) (answer : Got) → link_of (got_entry link into answer) ≡ Some link
got_link link into (got.Got n) = refl
got_link link into got.NotReady = refl
got_link link into got.End = refl
got_link link into got.Failed = refl

pub got_idle : (link : LinkId) (into : List ℕ) (answer : Got) (m : ℕ) → moment_step m (got_entry link into answer) ≡ m
got_idle link into (got.Got n) m = refl
got_idle link into got.NotReady m = refl
got_idle link into got.End m = refl
got_idle link into got.Failed m = refl
