-- The stage goes on standing where a link's track changes.
use Rattle.std.proofs.Common.{◌≡◌, ℕ, zero, suc, ◌<◌, ◌+◌, ◌-◌, Bool, true, false, nat_eq, List, [], ◌∷◌, ◌++◌, length, take, drop, if◌then◌else◌, Option, Some, None, refl, sym, ◌∙◌, ap, subst, arith, append-nil, append_assoc, add-zero, length-append}
use Rattle.std.specs.Prelude.{IfSome, IfNone, slice_get, not, ◌||◌}
use Rattle.std.specs.List.{cons_option}
use Rattle.std.proofs.lemmas.List.Folds.{list_any-append}
use Rattle.mx_base.specs.declared.names.LinkId.{LinkId}
use Rattle.mx_base.specs.declared.names.Port.{Port}
use Rattle.mx_base.specs.declared.names.Port.TheVariants.{Traffic, Admin}
use Rattle.mx_wire.specs.Log.{Log, link_of, is_link, opened_link, opened_links, read_of, got_bytes, written_of, wrote_bytes, is_open, open_step}
use Rattle.mx_wire.specs.Growth.{bytes-same, bytes-idle, step-same, same_number}
use Rattle.mx_wire.specs.declared.entry.Entry.{Entry}
use Rattle.mx_wire.specs.declared.entry.Entry.TheVariants as entry
use Rattle.recording.specs.declared.entry.RecordLink.{RecordLink}
use Rattle.recording.specs.declared.entry.RecordEntry.{RecordEntry}
use Rattle.mem_wire.specs.declared.room.Room.{Room}
use Rattle.mem_wire.specs.declared.track.Track.{Track}
use Rattle.mem_wire.specs.declared.stage.Stage.{Stage}
use Rattle.mem_wire.specs.Lines.{bytes_for, room_for}
use Rattle.mem_wire.specs.Came.{is_woke, is_accepted_at, wakes, accepted_at, is_open_call, since_wake, told_step, is_told, blocked_step, is_blocked, room_left, known, known_by, Known}
use Rattle.mem_wire.specs.Play.{named_step, named_since}
use Rattle.mem_wire.specs.Tracks.{track_at, place, room_in, SameLinks, ChangesTrack}
use Rattle.mem_wire.specs.Steps.{clients_of, accepted_of}
use Rattle.mem_wire.specs.Naming.{is_named}
use Rattle.mem_wire.specs.Stands.{CutsAt, Numbered, read_by, written_by, IsFresh, is_in, Fits, Stands}
use Rattle.mem_wire.proofs.Scenes.{opened-more, opens-same}
use Rattle.mem_wire.specs.CameLaws.{wakes-more, accepted-more, known-more, named-more}
use Rattle.mem_wire.proofs.StandSteps.{AlikeBut, each-track, fits-but, other-links, entered-like}
use Rattle.mem_wire.proofs.Quiet.{is_open-idle, step-idle, since-next, wrote-idle}

-- an entry that brings no link, no client and no moment
pub record Brings_nothing (e : Entry) : Type 0 where
  pub woke : is_woke e ≡ false
  pub accepted : (port : Port) → is_accepted_at port e ≡ false
  pub opened : opened_link e ≡ None
  pub known : (recording : List RecordEntry) (log : Log) → known_by recording log e ≡ []

pub if-own : {A : Type 0} (o : Option A) (P : A → Type 0) (x : A) → o ≡ Some x → IfSome o P → P x
if-own o P x is holds = let at : IfSome (Some x) P = subst (λ (p : Option _). IfSome p P) is holds in at

own-if : {A : Type 0} (o : Option A) (P : A → Type 0) (x : A) → o ≡ Some x → P x → IfSome o P
own-if o P x is holds = subst (λ (p : Option _). IfSome p P) (sym is) holds

none-own : {A : Type 0} (o : Option A) (P : Type 0) (x : A) → o ≡ Some x → IfNone o P
none-own o P x is = subst (λ (p : Option _). IfNone p P) (sym is) tt

clients-now : (old new : Stage) (port : Port) → clients_of port (record old { tracks = new.tracks; late = new.late; turns = new.turns }) ≡ clients_of port old
clients-now old new Traffic = refl
clients-now old new Admin = refl

accepted-now : (old new : Stage) (port : Port) → accepted_of port (record old { tracks = new.tracks; late = new.late; turns = new.turns }) ≡ accepted_of port old
accepted-now old new Traffic = refl
accepted-now old new Admin = refl

-- the track of a link stands in the list
pub present : (tracks : List Track) (at : ℕ) (link : LinkId) → (track_at tracks at).link ≡ Some link → at < length tracks
present [] zero link is = cc
present [] (suc at) link is = cc
present (t ∷ tracks) zero link is = omega arith
present (t ∷ tracks) (suc at) link is = let later : at < length tracks = present tracks at link is in omega arith

pub stands-moves : (recording : List RecordEntry) (old new : Stage) (log : Log) (e : Entry) (but : LinkId) (at : ℕ) (change : Track → Track) → Stands recording old log → ((spot : ℕ) (link : LinkId) → (track_at old.tracks.items spot).link ≡ Some link → slice_get old.places.items link.0 ≡ Some spot) → new ≡ record old { tracks = new.tracks; late = new.late; turns = new.turns } → ChangesTrack at change old.tracks.items new.tracks.items → SameLinks old.tracks.items new.tracks.items → slice_get old.places.items but.0 ≡ Some at → Brings_nothing e → is_open_call e ≡ false → AlikeBut but log (log ++ e ∷ []) → ((name : RecordLink) → place name ≡ at → Fits (take old.cut recording) old.last old.cut log name (track_at old.tracks.items (place name)) → Fits (take old.cut recording) old.last old.cut (log ++ e ∷ []) name (change (track_at old.tracks.items (place name)))) → Stands recording new (log ++ e ∷ [])
stands-moves recording old new log e but at change st linked frame changes links here brings unopened but_is mine =
    let woke : wakes (log ++ e ∷ []) ≡ wakes log = wakes-more log e ∙ ap (λ b. wakes log + length (if b then e ∷ [] else [])) brings.woke ∙ add-zero (wakes log) in
    let known_is : known recording (log ++ e ∷ []) ≡ known recording log = known-more recording log e ∙ ap (λ ks. known recording log ++ ks) (brings.known recording log) ∙ append-nil (known recording log) in
    let opened_is : opened_links (log ++ e ∷ []) ≡ opened_links log = opened-more log e ∙ ap (λ o. opened_links log ++ cons_option o []) brings.opened ∙ append-nil (opened_links log) in
    let now : Stage = record old { tracks = new.tracks; late = new.late; turns = new.turns } in
    subst (λ (s : Stage). Stands recording s (log ++ e ∷ [])) (sym frame) (record {
      cut = subst (CutsAt recording old.cut) (sym woke) st.cut;
      last = subst (λ (n : ℕ). CutsAt recording old.last (n - 1)) (sym woke) st.last;
      wake = st.wake;
      clients = λ port. clients-now old new port ∙ st.clients port;
      accepted = λ port. accepted-now old new port ∙ st.accepted port ∙ sym (accepted-more port log e ∙ ap (λ b. accepted_at port log + length (if b then e ∷ [] else [])) (brings.accepted port) ∙ add-zero (accepted_at port log));
      opened = opened_is ∙ st.opened;
      opens = st.opens ∙ sym (opens-same log e unopened);
      links = subst (λ (ks : List Known). Numbered 0 ks old.places.items) (sym known_is) st.links;
      placed = λ number spot is. links spot ∙ st.placed number spot is;
      entered = λ spot link is. entered-like old now spot (clients-now old new) (accepted-now old new) refl (st.entered spot link (sym (links spot) ∙ is));
      tracks = each-track at change old.tracks.items new.tracks.items (λ name t. Fits (take old.cut recording) old.last old.cut (log ++ e ∷ []) name t) changes
          (λ name is. mine name is (st.tracks name))
          (λ name other. fits-but (take old.cut recording) old.last old.cut but log (log ++ e ∷ []) name (track_at old.tracks.items (place name)) but_is (other-links old.places.items old.tracks.items but at linked here name other) (st.tracks name));
    })

-- Each kind of entry, on the track of its own link.

same-link : (link : LinkId) → is_link link (Some link) ≡ true
same-link link = same_number link.0

pub left-whole : (o : Option ℕ) → room_left o 0 ≡ o
left-whole None = refl
left-whole (Some n) = ap Some (let e : n - 0 ≡ n = omega arith in e)

-- room of which so much is written, and then more
left-more : (o : Option ℕ) (a b : ℕ) → room_left (room_left o a) b ≡ room_left o (a + b)
left-more None a b = refl
left-more (Some n) a b = ap Some (let e : (n - a) - b ≡ n - (a + b) = omega arith in e)

-- what an entry of the link leaves of its track
pub record Leaves (link : LinkId) (e : Entry) : Type 0 where
  pub of : link_of e ≡ Some link
  pub woke : is_woke e ≡ false
  pub opened : (was : Bool) → open_step was e ≡ was
  pub named : (links : List LinkId) → named_step links e ≡ links

-- the parts of a track that the entry changes, beside those that it leaves
pub mine-changes : (lines : List RecordEntry) (last cut : ℕ) (log : Log) (link : LinkId) (e : Entry) (name : RecordLink) (t : Track) (unread : List ℕ) (told blocked : Bool) (room : Option Room) → t.link ≡ Some link → Leaves link e → got_bytes e ++ unread ≡ t.unread → told_step t.told e ≡ told → blocked_step t.blocked e ≡ blocked
    → room_in last room ≡ room_left (room_in last t.room) (length (wrote_bytes e)) → IfSome room (λ r. r.wake < cut) → (blocked ≡ true → 0 < cut) → Fits lines last cut log name t → Fits lines last cut (log ++ e ∷ []) name (record t { unread = unread; told = told; blocked = blocked; room = room })
mine-changes lines last cut log link e name t unread told blocked room owner leaves read told_is blocked_is room_is dated woken fits =
    let here : is_link link (link_of e) ≡ true = ap (is_link link) leaves.of ∙ same-link link in
    let before : read_of link log ++ t.unread ≡ bytes_for name lines = ap (λ o. read_by o log ++ t.unread) (sym owner) ∙ fits.bytes in
    let was_told : is_told link log ≡ t.told = if-own t.link (λ l. is_told l log ≡ t.told) link owner fits.told in
    let was_blocked : is_blocked link log ≡ t.blocked = if-own t.link (λ l. is_blocked l log ≡ t.blocked) link owner fits.blocked in
    let wrote : written_of link (since_wake (log ++ e ∷ [])) ≡ written_of link (since_wake log) ++ wrote_bytes e = ap (written_of link) (since-next log e leaves.woke) ∙ bytes-same wrote_bytes link (since_wake log) e here in
    record {
      marks = fits.marks;
      bytes = ap (λ o. read_by o (log ++ e ∷ []) ++ unread) owner ∙ ap (λ bs. bs ++ unread) (bytes-same got_bytes link log e here)
          ∙ append_assoc (read_of link log) (got_bytes e) unread ∙ ap (λ bs. read_of link log ++ bs) read ∙ before;
      ending = fits.ending;
      room = room_is ∙ ap (λ o. room_left o (length (wrote_bytes e))) (fits.room ∙ ap (λ o. room_left (room_for name (drop last lines)) (written_by o log)) owner)
          ∙ left-more (room_for name (drop last lines)) (length (written_of link (since_wake log))) (length (wrote_bytes e))
          ∙ ap (room_left (room_for name (drop last lines))) (sym (length-append (written_of link (since_wake log)) (wrote_bytes e)) ∙ sym (ap length wrote))
          ∙ ap (λ o. room_left (room_for name (drop last lines)) (written_by o (log ++ e ∷ []))) (sym owner);
      opened = own-if t.link (λ l. is_open l (log ++ e ∷ []) ≡ not t.closed) link owner (is_open-idle link log e leaves.opened ∙ if-own t.link (λ l. is_open l log ≡ not t.closed) link owner fits.opened);
      told = own-if t.link (λ l. is_told l (log ++ e ∷ []) ≡ told) link owner (step-same told_step false link log e here ∙ ap (λ b. told_step b e) was_told ∙ told_is);
      blocked = own-if t.link (λ l. is_blocked l (log ++ e ∷ []) ≡ blocked) link owner (step-same blocked_step false link log e here ∙ ap (λ b. blocked_step b e) was_blocked ∙ blocked_is);
      named = own-if t.link (λ l. is_in l (named_since (log ++ e ∷ [])) ≡ is_named t.named last) link owner (ap (is_in link) (named-more log e ∙ leaves.named (named_since log)) ∙ if-own t.link (λ l. is_in l (named_since log) ≡ is_named t.named last) link owner fits.named);
      fresh = none-own t.link (IsFresh (record t { unread = unread; told = told; blocked = blocked; room = room })) link owner;
      stamp = fits.stamp;
      dated = dated;
      woken = woken;
    }

-- an entry that changes nothing but that the link is closed, or named
mine-keeps : (lines : List RecordEntry) (last cut : ℕ) (log : Log) (link : LinkId) (e : Entry) (name : RecordLink) (t : Track) (closed : Bool) (named : Option ℕ) → t.link ≡ Some link → link_of e ≡ Some link → is_woke e ≡ false → got_bytes e ≡ [] → wrote_bytes e ≡ [] → ((was : Bool) → told_step was e ≡ was) → ((was : Bool) → blocked_step was e ≡ was)
    → is_open link (log ++ e ∷ []) ≡ not closed → is_in link (named_since (log ++ e ∷ [])) ≡ is_named named last → IfSome named (λ wake. wake < cut) → Fits lines last cut log name t → Fits lines last cut (log ++ e ∷ []) name (record t { closed = closed; named = named })
mine-keeps lines last cut log link e name t closed named owner of woke got wrote told blocked opened_is named_is stamp fits =
    let before : read_of link log ++ t.unread ≡ bytes_for name lines = ap (λ o. read_by o log ++ t.unread) (sym owner) ∙ fits.bytes in
    record {
      marks = fits.marks;
      bytes = ap (λ o. read_by o (log ++ e ∷ []) ++ t.unread) owner ∙ ap (λ bs. bs ++ t.unread) (bytes-idle got_bytes link log e got) ∙ before;
      ending = fits.ending;
      room = fits.room ∙ ap (λ o. room_left (room_for name (drop last lines)) (written_by o log)) owner
          ∙ ap (λ bs. room_left (room_for name (drop last lines)) (length bs)) (sym (wrote-idle link log e woke wrote))
          ∙ ap (λ o. room_left (room_for name (drop last lines)) (written_by o (log ++ e ∷ []))) (sym owner);
      opened = own-if t.link (λ l. is_open l (log ++ e ∷ []) ≡ not closed) link owner opened_is;
      told = own-if t.link (λ l. is_told l (log ++ e ∷ []) ≡ t.told) link owner (step-idle told_step false link log e told ∙ if-own t.link (λ l. is_told l log ≡ t.told) link owner fits.told);
      blocked = own-if t.link (λ l. is_blocked l (log ++ e ∷ []) ≡ t.blocked) link owner (step-idle blocked_step false link log e blocked ∙ if-own t.link (λ l. is_blocked l log ≡ t.blocked) link owner fits.blocked);
      named = own-if t.link (λ l. is_in l (named_since (log ++ e ∷ [])) ≡ is_named named last) link owner named_is;
      fresh = none-own t.link (IsFresh (record t { closed = closed; named = named })) link owner;
      stamp = stamp;
      dated = fits.dated;
      woken = fits.woken;
    }

pub mine-closed : (lines : List RecordEntry) (last cut : ℕ) (log : Log) (link : LinkId) (name : RecordLink) (t : Track) → t.link ≡ Some link → Fits lines last cut log name t → Fits lines last cut (log ++ entry.Closed link ∷ []) name (record t { closed = true })
mine-closed lines last cut log link name t owner fits =
    let e = entry.Closed link in
    mine-keeps lines last cut log link e name t true t.named owner refl refl refl refl (λ was. refl) (λ was. refl)
    (step-same open_step false link log e (same-link link))
    (ap (is_in link) (named-more log e) ∙ if-own t.link (λ l. is_in l (named_since log) ≡ is_named t.named last) link owner fits.named) fits.stamp fits

or-true : (b : Bool) → (b || true) ≡ true
or-true true = refl
or-true false = refl

in-last : (link : LinkId) (links : List LinkId) → is_in link (links ++ link ∷ []) ≡ true
in-last link links = list_any-append (λ other. nat_eq other.0 link.0) links (link ∷ []) ∙ ap (λ b. is_in link links || (b || false)) (same_number link.0) ∙ or-true (is_in link links)

pub mine-named : (lines : List RecordEntry) (last cut : ℕ) (log : Log) (link : LinkId) (name : RecordLink) (t : Track) → last < cut → t.link ≡ Some link → Fits lines last cut log name t → Fits lines last cut (log ++ entry.Named link ∷ []) name (record t { named = Some last })
mine-named lines last cut log link name t low owner fits =
    let e = entry.Named link in
    mine-keeps lines last cut log link e name t t.closed (Some last) owner refl refl refl refl (λ was. refl) (λ was. refl)
    (is_open-idle link log e (λ was. refl) ∙ if-own t.link (λ l. is_open l log ≡ not t.closed) link owner fits.opened)
    (ap (is_in link) (named-more log e) ∙ in-last link (named_since log) ∙ sym (same_number last)) low fits
