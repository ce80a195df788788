-- The stage stands to the log as a play asks.
use Rattle.std.proofs.Common.{◌≡◌, ℕ, zero, suc, ◌≤◌, ◌+◌, ◌-◌, true, false, nat_eq, List, [], ◌∷◌, ◌++◌, length, take, drop, Option, Some, None, refl, sym, ◌∙◌, ap, subst, arith}
use Rattle.std.specs.Prelude.{IfSome, slice_get, not, if◌then◌else◌}
use Rattle.std.specs.List.{find}
use Rattle.mx_base.specs.declared.names.LinkId.{LinkId}
use Rattle.mx_base.specs.declared.names.Port.{Port}
use Rattle.mx_base.specs.declared.names.Port.TheVariants.{Traffic, Admin}
use Rattle.mx_wire.specs.Log.{Log, read_of, is_open}
use Rattle.recording.specs.declared.entry.RecordLink.{RecordLink}
use Rattle.recording.specs.declared.entry.RecordEntry.{RecordEntry}
use Rattle.mem_wire.specs.declared.track.Track.{Track}
use Rattle.mem_wire.specs.declared.late.Late.{Late}
use Rattle.mem_wire.specs.declared.refusals.Refusals.{Refusals}
use Rattle.mem_wire.specs.declared.stage.Stage.{Stage}
use Rattle.mem_wire.specs.Lines.{clients_at, bytes_for, ending_for, room_for, released, released_last}
use Rattle.mem_wire.specs.Came.{wakes, accepted_at, opens, is_told, is_blocked, room_left, next_client, Known, known, with_link, unread_of, unread, ending_of, known_ending, room_of, known_room}
use Rattle.mem_wire.specs.Play.{named_since}
use Rattle.mem_wire.specs.Tracks.{track_at, place, room_in}
use Rattle.mem_wire.specs.Steps.{clients_of, accepted_of, numbered, IsWithin}
use Rattle.mem_wire.specs.Naming.{is_named}
use Rattle.mem_wire.specs.Stands.{CutsAt, Numbered, read_by, written_by, is_in, Fits, Stands}
use Rattle.mem_wire.proofs.Scenes.{Alike}
use Rattle.mem_wire.proofs.StandSteps.{entered-like}
use Rattle.mem_wire.proofs.CutLaws.{cut-released, last-drop}

if-same : {A : Type 0} (o : Option A) (P Q : A → Type 0) → ((x : A) → P x → Q x) → IfSome o P → IfSome o Q
if-same None P Q f h = h
if-same (Some x) P Q f h = f x h

read_by-alike : (recording : List RecordEntry) (old new : Log) (o : Option LinkId) → Alike recording old new → read_by o new ≡ read_by o old
read_by-alike recording old new None alike = refl
read_by-alike recording old new (Some link) alike = alike.read link

written_by-alike : (recording : List RecordEntry) (old new : Log) (o : Option LinkId) → Alike recording old new → written_by o new ≡ written_by o old
written_by-alike recording old new None alike = refl
written_by-alike recording old new (Some link) alike = ap length (alike.wrote link)

pub fits-alike : (recording lines : List RecordEntry) (last cut : ℕ) (old new : Log) (name : RecordLink) (t : Track) → Alike recording old new → Fits lines last cut old name t → Fits lines last cut new name t
fits-alike recording lines last cut old new name t alike fits = record {
  marks = fits.marks;
  bytes = ap (λ bytes. bytes ++ t.unread) (read_by-alike recording old new t.link alike) ∙ fits.bytes;
  ending = fits.ending;
  room = fits.room ∙ ap (room_left (room_for name (drop last lines))) (sym (written_by-alike recording old new t.link alike));
  told = if-same t.link (λ link. is_told link old ≡ t.told) (λ link. is_told link new ≡ t.told) (λ link h. alike.told link ∙ h) fits.told;
  blocked = if-same t.link (λ link. is_blocked link old ≡ t.blocked) (λ link. is_blocked link new ≡ t.blocked) (λ link h. alike.blocked link ∙ h) fits.blocked;
  opened = if-same t.link (λ link. is_open link old ≡ not t.closed) (λ link. is_open link new ≡ not t.closed) (λ link h. alike.open_is link ∙ h) fits.opened;
  named = if-same t.link (λ link. is_in link (named_since old) ≡ is_named t.named last) (λ link. is_in link (named_since new) ≡ is_named t.named last) (λ link h. ap (is_in link) alike.named ∙ h) fits.named;
  fresh = fits.fresh;
  stamp = fits.stamp;
  dated = fits.dated;
  woken = fits.woken;
}

-- the stage with so many opens
abbrev Asked : Stage → ℕ → Refusals → Late → Stage
Asked s n refusals late = record s { opens = n; refusals = refusals; late = late }

clients-same : (s : Stage) (n : ℕ) (refusals : Refusals) (late : Late) (port : Port) → clients_of port (Asked s n refusals late) ≡ clients_of port s
clients-same s n refusals late Traffic = refl
clients-same s n refusals late Admin = refl

accepted-same : (s : Stage) (n : ℕ) (refusals : Refusals) (late : Late) (port : Port) → accepted_of port (Asked s n refusals late) ≡ accepted_of port s
accepted-same s n refusals late Traffic = refl
accepted-same s n refusals late Admin = refl

pub stands-alike : (recording : List RecordEntry) (s : Stage) (n : ℕ) (refusals : Refusals) (late : Late) (old new : Log) → Alike recording old new → n ≡ opens new → Stands recording s old → Stands recording (Asked s n refusals late) new
stands-alike recording s n refusals late old new alike count st = record {
  cut = subst (CutsAt recording s.cut) (sym alike.woke) st.cut;
  last = subst (λ (n : ℕ). CutsAt recording s.last (n - 1)) (sym alike.woke) st.last;
  wake = st.wake;
  clients = λ port. clients-same s n refusals late port ∙ st.clients port;
  accepted = λ port. accepted-same s n refusals late port ∙ st.accepted port ∙ sym (alike.accepted port);
  opened = alike.opened ∙ st.opened;
  opens = count;
  links = subst (λ (ks : List Known). Numbered 0 ks s.places.items) (sym alike.links) st.links;
  placed = st.placed;
  entered = λ at link is. entered-like s (Asked s n refusals late) at (clients-same s n refusals late) (accepted-same s n refusals late) refl (st.entered at link is);
  tracks = λ name. fits-alike recording (take s.cut recording) s.last s.cut old new name (track_at s.tracks.items (place name)) alike (st.tracks name);
}

pub client-is : (recording : List RecordEntry) (s : Stage) (log : Log) (port : Port) → Stands recording s log → next_client recording log port ≡ slice_get (clients_of port s) (accepted_of port s)
client-is recording s log port st =
    ap (λ (lines : List RecordEntry). slice_get (clients_at port lines) (accepted_at port log)) (cut-released recording s.cut (wakes log) st.cut)
    ∙ ap (λ cs. slice_get cs (accepted_at port log)) (sym (st.clients port)) ∙ ap (slice_get (clients_of port s)) (sym (st.accepted port))

-- the link of a number
number-misses : (n i : ℕ) → nat_eq n (n + suc i) ≡ false
number-misses n i = grind arith

number-hits : (n : ℕ) → nat_eq n (n + 0) ≡ true
number-hits n = grind arith

pub record Finds (number at : ℕ) (found : Option Known) : Type 0 where
  pub k : Known
  pub is : found ≡ Some k
  pub link_is : k.link ≡ numbered number
  pub place_is : place k.name ≡ at

pub with-number : (n i at : ℕ) (links : List Known) (places : List ℕ) → Numbered n links places → slice_get places i ≡ Some at → Finds (n + i) at (with_link (numbered (n + i)) links)
with-number n i at [] [] all is = cc
with-number n i at [] (p ∷ places) all is = absurd all
with-number n i at (k ∷ links) [] all is = absurd all
with-number n zero at (k ∷ links) (p ∷ places) all is = record {
  k = k;
  is = ap (λ b. if b then Some k else find (λ x. nat_eq x.link.0 (n + 0)) links) (ap (λ (l : LinkId). nat_eq l.0 (n + 0)) all.0 ∙ number-hits n);
  link_is = all.0 ∙ ap numbered (let e : n ≡ n + 0 = omega arith in e);
  place_is = all.1 ∙ (let e : p ≡ at = cc in e);
}
with-number n (suc i) at (k ∷ links) (p ∷ places) all is =
    let step : n + suc i ≡ (n + 1) + i = omega arith in
    let later = with-number (n + 1) i at links places all.2 is in
    record {
      k = later.k;
      is = ap (λ b. if b then Some k else find (λ x. nat_eq x.link.0 (n + suc i)) links) (ap (λ (l : LinkId). nat_eq l.0 (n + suc i)) all.0 ∙ number-misses n i)
          ∙ ap (λ (m : ℕ). with_link (numbered m) links) step ∙ later.is;
      link_is = later.link_is ∙ ap numbered (sym step);
      place_is = later.place_is;
    }

pub drop-read : (a b : List ℕ) → drop (length a) (a ++ b) ≡ b
drop-read [] b = refl
drop-read (x ∷ a) b = drop-read a b

-- what a link has is what its track has
pub record HasTrack (recording : List RecordEntry) (last : ℕ) (log : Log) (k : Known) (t : Track) : Type 0 where
  pub unread : unread_of recording log k ≡ t.unread
  pub ending : ending_of recording log k ≡ t.ending
  pub room : room_of recording log k ≡ room_in last t.room

pub has-track : (recording : List RecordEntry) (last cut : ℕ) (log : Log) (k : Known) (t : Track) → released (wakes log) recording ≡ take cut recording → released_last (wakes log) recording ≡ drop last (take cut recording) → t.link ≡ Some k.link → Fits (take cut recording) last cut log k.name t → HasTrack recording last log k t
has-track recording last cut log k t lines last_lines owner fits =
    let bytes : read_of k.link log ++ t.unread ≡ bytes_for k.name (take cut recording) = ap (λ o. read_by o log ++ t.unread) (sym owner) ∙ fits.bytes in
    record {
      unread = ap (λ (ls : List RecordEntry). drop (length (read_of k.link log)) (bytes_for k.name ls)) lines ∙ ap (drop (length (read_of k.link log))) (sym bytes) ∙ drop-read (read_of k.link log) t.unread;
      ending = ap (ending_for k.name) lines ∙ sym fits.ending;
      room = ap (λ (ls : List RecordEntry). room_left (room_for k.name ls) (written_by (Some k.link) log)) last_lines
          ∙ ap (λ o. room_left (room_for k.name (drop last (take cut recording))) (written_by o log)) (sym owner) ∙ sym fits.room;
    }

-- the same of a caller's link
pub record Has (recording : List RecordEntry) (last : ℕ) (log : Log) (link : LinkId) (t : Track) : Type 0 where
  pub unread : unread recording log (with_link link (known recording log)) ≡ t.unread
  pub ending : known_ending recording log (with_link link (known recording log)) ≡ t.ending
  pub room : known_room recording log (with_link link (known recording log)) ≡ room_in last t.room

pub has-is : (recording : List RecordEntry) (s : Stage) (log : Log) (link : LinkId) (at : ℕ) → IsWithin recording s → Stands recording s log → slice_get s.places.items link.0 ≡ Some at → Has recording s.last log link (track_at s.tracks.items at)
has-is recording s log link at within st here =
    let le : s.last ≤ s.cut = within.last in
    let zero_is : 0 + link.0 ≡ link.0 = omega arith in
    let found = with-number 0 link.0 at (known recording log) s.places.items st.links here in
    let same : found.k.link ≡ link = found.link_is ∙ ap numbered zero_is in
    let fits = subst (λ (p : ℕ). Fits (take s.cut recording) s.last s.cut log found.k.name (track_at s.tracks.items p)) found.place_is (st.tracks found.k.name) in
    let owner : (track_at s.tracks.items at).link ≡ Some found.k.link = st.placed link.0 at here ∙ ap Some (sym same) in
    let is : with_link found.k.link (known recording log) ≡ Some found.k = ap (λ (l : LinkId). with_link l (known recording log)) (same ∙ sym (ap numbered zero_is)) ∙ found.is in
    let has = has-track recording s.last s.cut log found.k (track_at s.tracks.items at) (cut-released recording s.cut (wakes log) st.cut) (last-drop recording s.last s.cut (wakes log) st.last st.cut (omega arith) within.cut) owner fits in
    subst (λ (l : LinkId). Has recording s.last log l (track_at s.tracks.items at)) same (record {
      unread = ap (unread recording log) is ∙ has.unread;
      ending = ap (known_ending recording log) is ∙ has.ending;
      room = ap (known_room recording log) is ∙ has.room;
    })
