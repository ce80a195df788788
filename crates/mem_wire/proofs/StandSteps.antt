-- How the stage goes on standing to the log, entry by entry.
use Rattle.std.proofs.Common.{◌≡◌, ◌⊎◌, ℕ, ◌<◌, ◌≤◌, ◌==◌, Bool, true, false, nat_eq, List, [], ◌∷◌, ◌++◌, length, take, drop, if◌then◌else◌, Option, Some, None, refl, sym, ◌∙◌, ap, subst, arith, inl, inr}
use Rattle.std.specs.Prelude.{IfSome, slice_get, not, ◌||◌}
use Rattle.std.proofs.lemmas.Bool.{eqb-true}
use Rattle.std.proofs.lemmas.Option.{slice_get_within}
use Rattle.std.proofs.lemmas.List.Folds.{list_any-append}
use Rattle.mx_base.specs.declared.names.LinkId.{LinkId}
use Rattle.mx_base.specs.declared.names.Port.{Port}
use Rattle.mx_base.specs.declared.names.Port.TheVariants.{Traffic, Admin}
use Rattle.mx_wire.specs.Log.{Log, link_of, is_link, read_of, got_bytes, is_open, open_step, written_of, wrote_bytes}
use Rattle.mx_wire.specs.Growth.{bool_cases, bytes-other, step-other, nat_eq-sym}
use Rattle.mx_wire.specs.declared.entry.Entry.{Entry}
use Rattle.recording.specs.declared.entry.RecordLink.{RecordLink}
use Rattle.recording.specs.declared.entry.RecordEntry.{RecordEntry}
use Rattle.mem_wire.specs.declared.track.Track.{Track}
use Rattle.mem_wire.specs.declared.late.Late.{Late}
use Rattle.mem_wire.specs.declared.turns.Turns.{Turns}
use Rattle.mem_wire.specs.declared.stage.Stage.{Stage}
use Rattle.mem_wire.specs.Lines.{clients_at, room_for}
use Rattle.mem_wire.specs.Came.{is_woke, accepted_at, since_wake, told_step, is_told, blocked_step, is_blocked, room_left}
use Rattle.mem_wire.proofs.Quiet.{since-next}
use Rattle.mem_wire.specs.Play.{named_since, named_step}
use Rattle.mem_wire.specs.Tracks.{track_at, place, ChangesTrack}
use Rattle.mem_wire.specs.Steps.{clients_of, accepted_of}
use Rattle.mem_wire.specs.Naming.{is_named}
use Rattle.mem_wire.specs.Stands.{read_by, written_by, is_in, Fits, Stands, Entered, client, server}
use Rattle.mem_wire.specs.CameLaws.{named-more}

-- what was entered stays entered
pub entered-like : (old new : Stage) (at : ℕ) → ((port : Port) → clients_of port new ≡ clients_of port old) → ((port : Port) → accepted_of port new ≡ accepted_of port old) → new.opened.items ≡ old.opened.items → Entered old at → Entered new at
entered-like old new at clients accepted opened (client port i waiting low is place) =
    client port i waiting (subst (λ (n : ℕ). i < n) (sym (accepted port)) low) (ap (λ cs. slice_get cs i) (clients port) ∙ is) place
entered-like old new at clients accepted opened (server k low place) = server k (subst (λ links. k ≤ length links) (sym opened) low) place

same-clients : (s : Stage) (late : Late) (turns : Turns) (port : Port) → clients_of port (record s { late = late; turns = turns }) ≡ clients_of port s
same-clients s late turns Traffic = refl
same-clients s late turns Admin = refl

same-accepted : (s : Stage) (late : Late) (turns : Turns) (port : Port) → accepted_of port (record s { late = late; turns = turns }) ≡ accepted_of port s
same-accepted s late turns Traffic = refl
same-accepted s late turns Admin = refl

clients-stay : (recording : List RecordEntry) (s : Stage) (log : Log) (late : Late) (turns : Turns) → Stands recording s log → (port : Port) → clients_of port (record s { late = late; turns = turns }) ≡ clients_at port (take s.cut recording)
clients-stay recording s log late turns st Traffic = st.clients Traffic
clients-stay recording s log late turns st Admin = st.clients Admin

accepted-stay : (recording : List RecordEntry) (s : Stage) (log : Log) (late : Late) (turns : Turns) → Stands recording s log → (port : Port) → accepted_of port (record s { late = late; turns = turns }) ≡ accepted_at port log
accepted-stay recording s log late turns st Traffic = st.accepted Traffic
accepted-stay recording s log late turns st Admin = st.accepted Admin

-- a change of the links that may be named, and of the late marks
pub stands-stay : (recording : List RecordEntry) (s : Stage) (log : Log) (late : Late) (turns : Turns) → Stands recording s log → Stands recording (record s { late = late; turns = turns }) log
stands-stay recording s log late turns st = record {
  cut = st.cut;
  last = st.last;
  wake = st.wake;
  clients = clients-stay recording s log late turns st;
  accepted = accepted-stay recording s log late turns st;
  opened = st.opened;
  opens = st.opens;
  links = st.links;
  placed = st.placed;
  entered = λ at owner is. entered-like s (record s { late = late; turns = turns }) at (λ port. same-clients s late turns port) (λ port. same-accepted s late turns port) refl (st.entered at owner is);
  tracks = st.tracks;
}

pub not_apart : (a b : ℕ) → a ≡ b → (a == b) ≡ false → ⊥
not_apart a b same apart = grind arith

-- a track that changes, and the others
pub each-track : (at : ℕ) (change : Track → Track) (old new : List Track) (P : RecordLink → Track → Type 0) → ChangesTrack at change old new → ((name : RecordLink) → place name ≡ at → P name (change (track_at old (place name)))) → ((name : RecordLink) → (place name ≡ at → ⊥) → P name (track_at old (place name))) → (name : RecordLink) → P name (track_at new (place name))
each-track at change old new P changes here other name = elim (bool_cases (place name == at)) [
  | inl is ↦ subst (P name) (sym (changes (place name) ∙ ap (λ b. if b then change (track_at old (place name)) else track_at old (place name)) is)) (here name (eqb-true (place name) at is))
  | inr apart ↦ subst (P name) (sym (changes (place name) ∙ ap (λ b. if b then change (track_at old (place name)) else track_at old (place name)) apart)) (other name (λ same. not_apart (place name) at same apart))
]

-- Two logs look alike but for one link.
pub record AlikeBut (but : LinkId) (old new : Log) : Type 0 where
  pub read : (link : LinkId) → nat_eq link.0 but.0 ≡ false → read_of link new ≡ read_of link old
  pub open_is : (link : LinkId) → nat_eq link.0 but.0 ≡ false → is_open link new ≡ is_open link old
  pub named : (link : LinkId) → nat_eq link.0 but.0 ≡ false → is_in link (named_since new) ≡ is_in link (named_since old)
  pub told : (link : LinkId) → nat_eq link.0 but.0 ≡ false → is_told link new ≡ is_told link old
  pub blocked : (link : LinkId) → nat_eq link.0 but.0 ≡ false → is_blocked link new ≡ is_blocked link old
  pub wrote : (link : LinkId) → nat_eq link.0 but.0 ≡ false → written_of link (since_wake new) ≡ written_of link (since_wake old)

or-false : (b : Bool) → (b || false) ≡ b
or-false true = refl
or-false false = refl

in-more : (link but : LinkId) (links : List LinkId) → nat_eq link.0 but.0 ≡ false → is_in link (links ++ but ∷ []) ≡ is_in link links
in-more link but links apart =
    list_any-append (λ other. nat_eq other.0 link.0) links (but ∷ [])
    ∙ ap (λ b. is_in link links || (b || false)) (nat_eq-sym link.0 but.0 apart) ∙ or-false (is_in link links)

pub but-entry : (but : LinkId) (log : Log) (e : Entry) → link_of e ≡ Some but → is_woke e ≡ false → ((links : List LinkId) → (named_step links e ≡ links) ⊎ (named_step links e ≡ links ++ but ∷ [])) → AlikeBut but log (log ++ e ∷ [])
but-entry but log e of still names = record {
  told = λ link apart. step-other told_step false link log e (ap (is_link link) of ∙ apart);
  blocked = λ link apart. step-other blocked_step false link log e (ap (is_link link) of ∙ apart);
  wrote = λ link apart. ap (written_of link) (since-next log e still) ∙ bytes-other wrote_bytes link (since_wake log) e (ap (is_link link) of ∙ apart);
  read = λ link apart. bytes-other got_bytes link log e (ap (is_link link) of ∙ apart);
  open_is = λ link apart. step-other open_step false link log e (ap (is_link link) of ∙ apart);
  named = λ link apart. elim (names (named_since log)) [
    | inl same ↦ ap (is_in link) (named-more log e ∙ same)
    | inr more ↦ ap (is_in link) (named-more log e ∙ more) ∙ in-more link but (named_since log) apart
  ];
}

if-both : {A : Type 0} (o : Option A) (P Q R : A → Type 0) → ((x : A) → P x → Q x → R x) → IfSome o P → IfSome o Q → IfSome o R
if-both None P Q R f p q = p
if-both (Some x) P Q R f p q = f x p q

read_by-but : (but : LinkId) (old new : Log) (o : Option LinkId) → AlikeBut but old new → IfSome o (λ link. nat_eq link.0 but.0 ≡ false) → read_by o new ≡ read_by o old
read_by-but but old new None alike apart = refl
read_by-but but old new (Some link) alike apart = alike.read link apart

written_by-but : (but : LinkId) (old new : Log) (o : Option LinkId) → AlikeBut but old new → IfSome o (λ link. nat_eq link.0 but.0 ≡ false) → written_by o new ≡ written_by o old
written_by-but but old new None alike apart = refl
written_by-but but old new (Some link) alike apart = ap length (alike.wrote link apart)

pub fits-but : (lines : List RecordEntry) (last cut : ℕ) (but : LinkId) (old new : Log) (name : RecordLink) (t : Track) → AlikeBut but old new → IfSome t.link (λ link. nat_eq link.0 but.0 ≡ false) → Fits lines last cut old name t → Fits lines last cut new name t
fits-but lines last cut but old new name t alike apart fits = record {
  marks = fits.marks;
  bytes = ap (λ bytes. bytes ++ t.unread) (read_by-but but old new t.link alike apart) ∙ fits.bytes;
  opened = if-both t.link (λ link. nat_eq link.0 but.0 ≡ false) (λ link. is_open link old ≡ not t.closed) (λ link. is_open link new ≡ not t.closed) (λ link away h. alike.open_is link away ∙ h) apart fits.opened;
  named = if-both t.link (λ link. nat_eq link.0 but.0 ≡ false) (λ link. is_in link (named_since old) ≡ is_named t.named last) (λ link. is_in link (named_since new) ≡ is_named t.named last) (λ link away h. alike.named link away ∙ h) apart fits.named;
  ending = fits.ending;
  room = fits.room ∙ ap (room_left (room_for name (drop last lines))) (sym (written_by-but but old new t.link alike apart));
  told = if-both t.link (λ link. nat_eq link.0 but.0 ≡ false) (λ link. is_told link old ≡ t.told) (λ link. is_told link new ≡ t.told) (λ link away h. alike.told link away ∙ h) apart fits.told;
  blocked = if-both t.link (λ link. nat_eq link.0 but.0 ≡ false) (λ link. is_blocked link old ≡ t.blocked) (λ link. is_blocked link new ≡ t.blocked) (λ link away h. alike.blocked link away ∙ h) apart fits.blocked;
  fresh = fits.fresh;
  stamp = fits.stamp;
  dated = fits.dated;
  woken = fits.woken;
}

-- the tracks of other places have other links
all-some : {A : Type 0} (o : Option A) (P : A → Type 0) → ((x : A) → o ≡ Some x → P x) → IfSome o P
all-some None P f = tt
all-some (Some x) P f = f x refl

apart-or-same : (a b : ℕ) → (a ≡ b) ⊎ (nat_eq a b ≡ false)
apart-or-same a b = elim (bool_cases (nat_eq a b)) [ inl same ↦ inl (eqb-true a b same) | inr apart ↦ inr apart ]

pub other-links : (places : List ℕ) (tracks : List Track) (but : LinkId) (at : ℕ) → ((spot : ℕ) (link : LinkId) → (track_at tracks spot).link ≡ Some link → slice_get places link.0 ≡ Some spot) → slice_get places but.0 ≡ Some at → (name : RecordLink) → (place name ≡ at → ⊥) → IfSome (track_at tracks (place name)).link (λ link. nat_eq link.0 but.0 ≡ false)
other-links places tracks but at linked here name other =
    all-some (track_at tracks (place name)).link (λ link. nat_eq link.0 but.0 ≡ false) (λ link is. elim (apart-or-same link.0 but.0) [
      | inr apart ↦ apart
      | inl same ↦ absurd (other (let e : Some (place name) ≡ Some at = sym (linked (place name) link is) ∙ ap (slice_get places) same ∙ here in cc))
    ])

pub new-links : (places : List ℕ) (tracks : List Track) → ((spot : ℕ) (link : LinkId) → (track_at tracks spot).link ≡ Some link → slice_get places link.0 ≡ Some spot) → (name : RecordLink) → IfSome (track_at tracks (place name)).link (λ link. nat_eq link.0 (length places) ≡ false)
new-links places tracks linked name =
    all-some (track_at tracks (place name)).link (λ link. nat_eq link.0 (length places) ≡ false) (λ link is.
    let low : link.0 < length places = slice_get_within places link.0 (place name) (linked (place name) link is) in
    grind arith)
