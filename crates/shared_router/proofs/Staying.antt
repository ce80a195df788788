-- What an entry makes of the rest of what the router knows: only flags and since when move as messages are taken up.
use Rattle.std.specs.Prelude.{◌≡◌, ℕ, zero, suc, Bool, true, false, fold, length, if◌then◌else◌, List, [], ◌∷◌, ◌++◌, Option, Some, None}
use Rattle.std.specs.Option.{option_map_or}
use Rattle.std.proofs.Common.{refl, sym, ap, ◌∙◌, subst, append_assoc, append-nil}
use Rattle.mx_base.specs.declared.names.LinkId.{LinkId}
use Rattle.mx_wire.specs.Log.{Log}
use Rattle.mx_wire.specs.declared.entry.Entry.{Entry}
use Rattle.packet_frame.specs.Packets.{Framed}
use Rattle.private_model.specs.View.{Setup, View}
use Rattle.log_story.specs.Owed.{messages}
use Rattle.log_story.specs.Tale.{Client, Tale, view_of}
use Rattle.tale_world.specs.Decided.{plan_of}
use Rattle.tale_world.specs.Deciding.{Deciding, World}
use Rattle.tale_world.specs.World.{are_freed, are_taken, decided_last, decided_next, freed_there, go_on, goes_on, is_called, is_counted, is_ended, is_told, next_message, next_of, taken_once, with_more, with_taken}
use Rattle.shared_router.specs.Fixed.{Fixed, setup_of}
use Rattle.shared_router.specs.More.{More}
use Rattle.shared_router.specs.Shared.{hears_by, shared, world_at}
use Rattle.shared_router.proofs.Parting.{first, next, world_more}

pub record Stays (old new : More) : Type 0 where
  pub log : new.log ≡ old.log
  pub last : new.last ≡ old.last
  pub before : new.before ≡ old.before
  pub clock : new.clock ≡ old.clock
  pub servers : new.servers ≡ old.servers
  pub readied : new.readied ≡ old.readied
  pub bare : new.bare ≡ old.bare
  pub tried : new.tried ≡ old.tried

pub stays-refl : (m : More) → Stays m m
stays-refl m = record { log = refl; last = refl; before = refl; clock = refl; servers = refl; readied = refl; bare = refl; tried = refl }

stays-on : (a b c : More) → Stays a b → Stays b c → Stays a c
stays-on a b c one two = record {
  log = two.log ∙ one.log;
  last = two.last ∙ one.last;
  before = two.before ∙ one.before;
  clock = two.clock ∙ one.clock;
  servers = two.servers ∙ one.servers;
  readied = two.readied ∙ one.readied;
  bare = two.bare ∙ one.bare;
  tried = two.tried ∙ one.tried;
}

module _ (fixed : Fixed) where
  abbrev setup : Setup
  setup = setup_of fixed

  abbrev by : Deciding More
  by = shared fixed

  pub freeing_stays : (xs : List LinkId) (w : World More) → Stays w.more (fold (freed_there setup by) w xs).more
  freeing_stays [] w = stays-refl w.more
  freeing_stays (x ∷ xs) w = freeing_stays xs (freed_there setup by w x)

  taken_stays : (w : World More) (client : Client) (found : Option Framed) → Stays w.more (with_more by w client found)
  taken_stays w client None = stays-refl w.more
  taken_stays w client (Some message) = record { log = refl; last = refl; before = refl; clock = refl; servers = refl; readied = refl; bare = refl; tried = refl }

  taking_stays : (most : ℕ) (client : Client) (w : World More) → Stays w.more (are_taken most setup by client w).more
  taking_stays zero client w = stays-refl w.more
  taking_stays (suc most) client w = by_found (taken_once setup by w client) (taking_stays most (next_of client)) where
    by_found : (found : Option Tale) → ((v : World More) → Stays v.more (are_taken most setup by (next_of client) v).more)
        → Stays w.more (option_map_or (λ tale. are_taken most setup by (next_of client) (with_taken setup by w client tale)) found (record w { decided = decided_next setup by w client })).more
    by_found None later = stays-refl w.more
    by_found (Some tale) later =
        stays-on _ _ _ (taken_stays w client (next_message (decided_next setup by w client) client)) (later (with_taken setup by w client tale))

  going_stays : (view : View) (e : Entry) (w : World More) (client : Client) → Stays w.more (goes_on setup by view e w client).more
  going_stays view e w client = by_test (is_called (decided_last by w client) w.tale.moment view e client) where
    v : World More
    v = record w { decided = decided_last by w client }

    by_test : (b : Bool) → Stays w.more (if b then are_taken (length (messages (plan_of v.decided) client)) setup by client v else v).more
    by_test true = taking_stays (length (messages (plan_of v.decided) client)) client v
    by_test false = stays-refl w.more

  pub all_stay : (view : View) (e : Entry) (xs : List Client) (w : World More) → Stays w.more (fold (goes_on setup by view e) w xs).more
  all_stay view e [] w = stays-refl w.more
  all_stay view e (x ∷ xs) w = stays-on _ _ _ (going_stays view e w x) (all_stay view e xs (goes_on setup by view e w x))

  pub step_stays : (w : World More) (e : Entry) → Stays (hears_by fixed w e) (next fixed w e).more
  step_stays w e =
      let b : World More = is_counted by (is_told setup by w e) e in
      let c : World More = are_freed setup by b in
      let d : World More = go_on setup by (view_of setup w.tale) e c in
      let f : World More = is_ended by d e in
      stays-on _ _ _ (freeing_stays b.tale.links b) (stays-on _ _ _ (all_stay (view_of setup w.tale) e c.tale.clients c) (freeing_stays f.tale.links f))

  -- the log is the one of its entries

  log_from : (log : Log) (w : World More) → (fold (next fixed) w log).more.log ≡ w.more.log ++ log
  log_from [] w = sym (append-nil w.more.log)
  log_from (e ∷ log) w =
      log_from log (next fixed w e) ∙ ap (λ l. l ++ log) (step_stays w e).log ∙ append_assoc w.more.log (e ∷ []) log

  pub log_at : (log : Log) → (world_at fixed log).more.log ≡ log
  log_at log = log_from log (first fixed)

  pub step_at : (log : Log) (e : Entry) → Stays (hears_by fixed (world_at fixed log) e) (world_at fixed (log ++ e ∷ [])).more
  step_at log e = subst (λ (v : World More). Stays (hears_by fixed (world_at fixed log) e) v.more) (sym (world_more fixed log (e ∷ []))) (step_stays (world_at fixed log) e)
