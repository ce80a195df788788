-- So it is of what is due at each moment of a log of ours.
use Rattle.std.specs.Prelude.{◌≡◌, take, drop, Some}
use Rattle.std.proofs.Common.{refl, sym, subst}
use Rattle.std.proofs.lemmas.List.{take-append-drop}
use Rattle.mx_wire.specs.Log.{Log}
use Rattle.mx_wire.specs.Moments.{AtEachMoment}
use Rattle.private_model.specs.View.{View}
use Rattle.log_story.specs.Tale.{Tale, view_of}
use Rattle.router_promises.specs.Terms.{tale_at}
use Rattle.shared_router.specs.Fixed.{Fixed, setup_of}
use Rattle.shared_router.specs.Fresh.{AreFreshDue, FreshSo}
use Rattle.shared_router.specs.Ours.{IsOurLog}
use Rattle.shared_router.specs.Shared.{final_terms, world_at}
use Rattle.shared_router.proofs.Fitly.{AreFit}
use Rattle.shared_router.proofs.Lonely.{AreLoneIn}
use Rattle.shared_router.proofs.Parting.{tale_then}
use Rattle.shared_router.proofs.Waking.{held_then}

both_so : (view : View) → AreLoneIn view → AreFit view → AreFreshDue view
both_so view lone fit n due at = record {
  statement = (fit n due at).statement;
  unsent = (fit n due at).unsent;
  unheard = lone.due _ n (due, (at, refl));
  once = λ m other there same. lone.once _ m n (other, (there, same)) (due, (at, refl));
}

pub fresh_at : (fixed : Fixed) (log : Log) → IsOurLog fixed log → AtEachMoment (FreshSo (final_terms fixed log)) log
fresh_at fixed log our = λ j.
    let held = (held_then fixed (take j log) (drop j log) log (take-append-drop j log) our).1 in
    let same : tale_at (final_terms fixed log) (take j log) ≡ (world_at fixed (take j log)).tale =
    subst (λ (l : Log). tale_at (final_terms fixed l) (take j log) ≡ (world_at fixed (take j log)).tale) (take-append-drop j log) (tale_then fixed (take j log) (drop j log)) in
    subst (λ (t : Tale). AreFreshDue (view_of (setup_of fixed) t)) (sym same) (both_so (view_of (setup_of fixed) (world_at fixed (take j log)).tale) held.lone held.fit)
