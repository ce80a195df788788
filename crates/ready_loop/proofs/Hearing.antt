-- What a machine is told of a read.
use Rattle.std.proofs.Common.{◌≡◌, ℕ, zero, suc, ◌+◌, Bool, false, true, List, [], ◌∷◌, Option, Some, None, take, arith, refl, subst, inl}
use Rattle.mx_base.specs.declared.names.LinkId.{LinkId}
use Rattle.mx_wire.specs.Log.{Log, link_of}
use Rattle.mx_wire.specs.Answers.{got_entry}
use Rattle.mx_wire.specs.declared.entry.Entry.TheVariants as entry
use Rattle.mx_wire.specs.declared.wire.Got.{Got}
use Rattle.mx_wire.specs.declared.wire.Got.TheVariants as got
use Rattle.ready_loop.specs.Drained.{IsDue}
use Rattle.ready_loop.specs.Heard.{heard_of}
use Rattle.ready_loop.specs.Links.{dry_of, dry_step, is_read_dry}
use Rattle.ready_loop.specs.Machine.{Target, IsToldOf}
use Rattle.ready_loop.specs.Round.{round_step}
use Rattle.mx_base.specs.Fields.{AreBytes}
use Rattle.mx_base.specs.Sent.{Sent}
use Rattle.ready_loop.specs.Serving.{IsWanted, call_of}
use Rattle.ready_loop.specs.declared.heard.Heard.{Heard}
use Rattle.ready_loop.specs.declared.links.Links.{Links}
use Rattle.ready_loop.specs.declared.round.Round.{Round}
use Rattle.ready_loop.specs.declared.table.Call.TheVariants as call
use Rattle.ready_loop.proofs.Listening.{IsNoListen}
use Rattle.ready_loop.proofs.Offering.{IsUnwritten}
use Rattle.ready_loop.proofs.Marking as marking

pub nothing : (link : LinkId) (into : List ℕ) (g : Got) → heard_of link g ≡ None → got_entry link into g ≡ entry.ReadNothing link
nothing link into (got.Got n) is = cc
nothing link into got.NotReady is = refl
nothing link into got.End is = cc
nothing link into got.Failed is = cc

-- what holds of the one event that is told
one : (P : Heard → Type 0) (a b : Heard) → (let o : Option Heard = Some a in o) ≡ Some b → P a → P b
one P a b is held = let same : a ≡ b = cc in subst P same held

pub told : (until_ms : ℕ) (awaited : Option Target) (link : LinkId) (into : List ℕ) (g : Got) (h : Heard) → heard_of link g ≡ Some h → IsToldOf until_ms awaited h.event (take h.length into) (got_entry link into g)
told until_ms awaited link into (got.Got n) h is = one (λ (h' : Heard). IsToldOf until_ms awaited h'.event (take h'.length into) (entry.Got link (take n into))) _ h is refl
told until_ms awaited link into got.NotReady h is = cc
told until_ms awaited link into got.End h is = one (λ (h' : Heard). IsToldOf until_ms awaited h'.event (take h'.length into) (entry.Ended link)) _ h is refl
told until_ms awaited link into got.Failed h is = one (λ (h' : Heard). IsToldOf until_ms awaited h'.event (take h'.length into) (entry.ReadFailed link)) _ h is (inl refl)

pub of_link : (link : LinkId) (into : List ℕ) (g : Got) → link_of (got_entry link into g) ≡ Some link
of_link link into (got.Got n) = refl
of_link link into got.NotReady = refl
of_link link into got.End = refl
of_link link into got.Failed = refl

pub counted : (link : LinkId) (into : List ℕ) (g : Got) (round : Round) → (record round { calls = round.calls + 1 }) ≡ round_step round (got_entry link into g)
counted link into (got.Got n) round = refl
counted link into got.NotReady round = refl
counted link into got.End round = refl
counted link into got.Failed round = refl

pub made : (link : LinkId) (into : List ℕ) (g : Got) → call_of (got_entry link into g) ≡ Some (call.Read link)
made link into (got.Got n) = refl
made link into got.NotReady = refl
made link into got.End = refl
made link into got.Failed = refl

pub unwritten : (link : LinkId) (into : List ℕ) (g : Got) → IsUnwritten (got_entry link into g)
unwritten link into (got.Got n) = tt
unwritten link into got.NotReady = tt
unwritten link into got.End = tt
unwritten link into got.Failed = tt

pub unlistened : (link : LinkId) (into : List ℕ) (g : Got) → IsNoListen (got_entry link into g)
unlistened link into (got.Got n) = tt
unlistened link into got.NotReady = tt
unlistened link into got.End = tt
unlistened link into got.Failed = tt

front-bytes : (n : ℕ) (into : List ℕ) → AreBytes into → AreBytes (take n into)
front-bytes zero into are i = search arith
front-bytes (suc n) [] are i = search arith
front-bytes (suc n) (b ∷ into) are zero = are 0
front-bytes (suc n) (b ∷ into) are (suc i) = front-bytes n into (λ j. are (suc j)) i

-- what is told of was wanted
pub wanted : {M : Type 0} (reads : M → LinkId → Bool) (sends : M → LinkId → Option Sent) (asks : M → Bool) (until : M → ℕ) (awaits : M → Option Target) (machine : M) (log : Log) (link : LinkId) (into : List ℕ) (g : Got) (h : Heard)
    → asks machine ≡ false → AreBytes into → heard_of link g ≡ Some h → IsWanted reads sends asks until awaits machine log (got_entry link into g)
wanted reads sends asks until awaits machine log link into (got.Got n) h acted are is = (acted, front-bytes n into are)
wanted reads sends asks until awaits machine log link into got.NotReady h acted are is = cc
wanted reads sends asks until awaits machine log link into got.End h acted are is = acted
wanted reads sends asks until awaits machine log link into got.Failed h acted are is = acted

pub due : {M : Type 0} (reads : M → LinkId → Bool) (sends : M → LinkId → Option Sent) (asks : M → Bool) (machine : M) (log : Log) (link : LinkId) (into : List ℕ) (g : Got) → reads machine link ≡ true → IsDue reads sends asks machine log (got_entry link into g)
due reads sends asks machine log link into (got.Got n) wanted = wanted
due reads sends asks machine log link into got.NotReady wanted = tt
due reads sends asks machine log link into got.End wanted = tt
due reads sends asks machine log link into got.Failed wanted = tt

-- a link of which something was heard is as dry as it was
pub still_wet : (links : Links) (link : LinkId) (into : List ℕ) (g : Got) (h : Heard) → heard_of link g ≡ Some h → is_read_dry links link ≡ Some false → dry_of links link ≡ dry_step (dry_of links link) (got_entry link into g)
still_wet links link into (got.Got n) h is wet = marking.got links link wet
still_wet links link into got.NotReady h is wet = cc
still_wet links link into got.End h is wet = refl
still_wet links link into got.Failed h is wet = refl
