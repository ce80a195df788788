-- The stage goes on standing where a link comes.
use Rattle.std.proofs.Common.{◌≡◌, ◌⊎◌, ℕ, zero, suc, ◌<◌, ◌+◌, ◌-◌, ◌==◌, Bool, true, false, nat_eq, nat_lt, List, [], ◌∷◌, ◌++◌, length, take, drop, if◌then◌else◌, Option, Some, None, refl, sym, ◌∙◌, ap, subst, arith, inl, inr, add-zero}
use Rattle.std.specs.Prelude.{IfSome, IfNone, slice_get, not, fold}
use Rattle.std.specs.List.{flat_map}
use Rattle.std.proofs.lemmas.Bool.{eqb-true}
use Rattle.mx_base.specs.declared.names.LinkId.{LinkId}
use Rattle.mx_base.specs.declared.names.Port.{Port}
use Rattle.mx_wire.specs.Log.{Log, link_of, is_link, of_link, opened_links, read_of, got_bytes, written_of, wrote_bytes, is_open, open_step}
use Rattle.mx_wire.specs.Growth.{bool_cases, bytes-idle, step-same, same_number}
use Rattle.mx_wire.specs.declared.entry.Entry.{Entry}
use Rattle.mx_wire.specs.declared.entry.Entry.TheVariants as entry
use Rattle.recording.specs.declared.entry.RecordLink.{RecordLink}
use Rattle.recording.specs.declared.entry.RecordEntry.{RecordEntry}
use Rattle.mem_wire.specs.declared.track.Track.{Track}
use Rattle.mem_wire.specs.declared.stage.Stage.{Stage}
use Rattle.mem_wire.specs.Lines.{clients_at, room_for}
use Rattle.mem_wire.specs.Came.{is_woke, wakes, accepted_at, opens, since_step, since_wake, told_step, blocked_step, room_left, known, known_by, Known}
use Rattle.mem_wire.specs.Play.{named_since, named_step}
use Rattle.mem_wire.specs.Tracks.{track_at, place}
use Rattle.mem_wire.specs.Steps.{numbered, next_link, clients_of, accepted_of, Enters}
use Rattle.mem_wire.specs.Naming.{is_named}
use Rattle.mx_wire.specs.Tells.{link_below, all_below}
use Rattle.mem_wire.specs.Below.{links_below}
use Rattle.mem_wire.specs.Stands.{CutsAt, Numbered, read_by, written_by, IsFresh, is_in, Fits, Stands, Entered}
use Rattle.mem_wire.specs.CameLaws.{wakes-more, known-more, named-more}
use Rattle.mem_wire.proofs.StandSteps.{but-entry, each-track, fits-but, new-links}
use Rattle.mem_wire.proofs.Quiet.{step-idle, wrote-idle}
use Rattle.mem_wire.proofs.Links.{all_below-append, below-fresh, and-left, and-right, links_below-append}

named-one : (n : ℕ) (links : List LinkId) (e : Entry) → links_below n links ≡ true → link_below n (link_of e) ≡ true → links_below n (named_step links e) ≡ true
named-one n links (entry.Woke until_ms now_ms) low one = refl
named-one n links (entry.Named link) low one = links_below-append links (link ∷ []) n low (rw one refl)
named-one n links _ low one = low

-- links that a log has named are links of the log
named-from : (n : ℕ) (links : List LinkId) (log : Log) → links_below n links ≡ true → all_below n log ≡ true → links_below n (fold named_step links log) ≡ true
named-from n links [] low all = low
named-from n links (e ∷ log) low all = named-from n (named_step links e) log (named-one n links e low (and-left (link_below n (link_of e)) (all_below n log) all)) (and-right (link_below n (link_of e)) (all_below n log) all)

apart-below : (a n : ℕ) → nat_lt a n ≡ true → nat_eq a n ≡ false
apart-below a n low = grind arith

not-in : (n : ℕ) (links : List LinkId) → links_below n links ≡ true → is_in (numbered n) links ≡ false
not-in n [] low = refl
not-in n (l ∷ links) low =
    let here : nat_eq l.0 n ≡ false = apart-below l.0 n (and-left (nat_lt l.0 n) (links_below n links) low) in
    rw here (not-in n links (and-right (nat_lt l.0 n) (links_below n links) low))

pub numbered-more : (n : ℕ) (links : List Known) (places : List ℕ) (k : Known) (at : ℕ) → Numbered n links places → k.link ≡ numbered (n + length places) → place k.name ≡ at → Numbered n (links ++ k ∷ []) (places ++ at ∷ [])
numbered-more n [] [] k at all link spot = (link ∙ ap numbered (let e : n + 0 ≡ n = omega arith in e), spot, tt)
numbered-more n [] (p ∷ places) k at all link spot = absurd all
numbered-more n (l ∷ links) [] k at all link spot = absurd all
numbered-more n (l ∷ links) (p ∷ places) k at all link spot = (all.0, all.1, numbered-more (n + 1) links places k at all.2 (link ∙ ap numbered (let e : n + suc (length places) ≡ (n + 1) + length places = omega arith in e)) spot)

pub get-cases : (xs : List ℕ) (x i y : ℕ) → slice_get (xs ++ x ∷ []) i ≡ Some y → (slice_get xs i ≡ Some y) ⊎ ((i ≡ length xs) × (x ≡ y))
get-cases [] x zero y is = inr (refl, let e : x ≡ y = cc in e)
get-cases [] x (suc i) y is = cc
get-cases (z ∷ xs) x zero y is = inl is
get-cases (z ∷ xs) x (suc i) y is = elim (get-cases xs x i y is) [
  | inl old ↦ inl old
  | inr new ↦ inr (ap (λ (k : ℕ). suc k) new.0, new.1)
]

none-if : {A : Type 0} (o : Option A) (P : Type 0) → o ≡ None → IfNone o P → P
none-if None P is holds = holds
none-if (Some x) P is holds = cc

some-if-none : {A : Type 0} (o : Option A) (P : A → Type 0) → o ≡ None → IfSome o P
some-if-none None P is = tt
some-if-none (Some x) P is = cc

-- an entry that brings a link
pub record Brings_link (link : LinkId) (e : Entry) : Type 0 where
  pub told : (was : Bool) → told_step was e ≡ was
  pub blocked : (was : Bool) → blocked_step was e ≡ was
  pub wrote : wrote_bytes e ≡ []
  pub woke : is_woke e ≡ false
  pub of : link_of e ≡ Some link
  pub got : got_bytes e ≡ []
  pub opens : (was : Bool) → open_step was e ≡ true
  pub names : (links : List LinkId) → named_step links e ≡ links

since-below : (n : ℕ) (since log : Log) → all_below n since ≡ true → all_below n log ≡ true → all_below n (fold since_step since log) ≡ true
since-below n since [] low all = low
since-below n since (e ∷ log) low all =
    let one : link_below n (link_of e) ≡ true = and-left (link_below n (link_of e)) (all_below n log) all in
    since-below n (since_step since e) log (since-one n since e (is_woke e) low one) (and-right (link_below n (link_of e)) (all_below n log) all)
  where
    since-one : (m : ℕ) (before : Log) (x : Entry) (woke : Bool) → all_below m before ≡ true → link_below m (link_of x) ≡ true → all_below m (if woke then [] else before ++ x ∷ []) ≡ true
    since-one m before x true below one = refl
    since-one m before x false below one = all_below-append before (x ∷ []) m below (rw one refl)

mine-enters : (lines : List RecordEntry) (last cut n : ℕ) (log : Log) (e : Entry) (name : RecordLink) (t : Track) → all_below n log ≡ true → Brings_link (numbered n) e → t.link ≡ None → Fits lines last cut log name t → Fits lines last cut (log ++ e ∷ []) name (record t { link = Some (numbered n) })
mine-enters lines last cut n log e name t below brings none fits =
    let link = numbered n in
    let fresh : of_link link log ≡ [] = below-fresh link log below in
    let blank = none-if t.link (IsFresh t) none fits.fresh in
    let nothing : written_of link (since_wake log) ≡ [] = ap (flat_map wrote_bytes) (below-fresh link (since_wake log) (since-below n [] log refl below)) in
    let wrote : written_by (Some link) (log ++ e ∷ []) ≡ 0 = ap length (wrote-idle link log e brings.woke brings.wrote ∙ nothing) in
    let here : is_link link (link_of e) ≡ true = ap (is_link link) brings.of ∙ same_number n in
    let unread : read_of link (log ++ e ∷ []) ≡ [] = bytes-idle got_bytes link log e brings.got ∙ ap (flat_map got_bytes) fresh in
    record {
      marks = fits.marks;
      bytes = ap (λ bs. bs ++ t.unread) unread ∙ ap (λ o. read_by o log ++ t.unread) (sym none) ∙ fits.bytes;
      ending = fits.ending;
      room = fits.room ∙ ap (λ o. room_left (room_for name (drop last lines)) (written_by o log)) none ∙ ap (room_left (room_for name (drop last lines))) (sym wrote);
      told = step-idle told_step false link log e brings.told ∙ ap (fold told_step false) fresh ∙ sym blank.told;
      blocked = step-idle blocked_step false link log e brings.blocked ∙ ap (fold blocked_step false) fresh ∙ sym blank.blocked;
      opened = step-same open_step false link log e here ∙ brings.opens (is_open link log) ∙ ap not (sym blank.closed);
      named = ap (is_in link) (named-more log e ∙ brings.names (named_since log)) ∙ not-in n (named_since log) (named-from n [] log refl below) ∙ ap (λ o. is_named o last) (sym blank.named);
      fresh = tt;
      stamp = some-if-none t.named (λ wake. wake < cut) blank.named;
      dated = fits.dated;
      woken = fits.woken;
    }

pub none_some : (link : LinkId) → None ≡ Some link → ⊥
none_some link is = cc

pub stands-enters : (recording : List RecordEntry) (old new : Stage) (log : Log) (e : Entry) (at : ℕ) (name : RecordLink) → Stands recording old log → ((spot : ℕ) (link : LinkId) → (track_at old.tracks.items spot).link ≡ Some link → slice_get old.places.items link.0 ≡ Some spot) → all_below (length old.places.items) log ≡ true → Enters at old new → new.cut ≡ old.cut → new.last ≡ old.last → ((port : Port) → clients_of port new ≡ clients_of port old) → ((port : Port) → accepted_of port new ≡ accepted_at port (log ++ e ∷ [])) → opened_links (log ++ e ∷ []) ≡ new.opened.items → new.opens ≡ opens (log ++ e ∷ []) → place name ≡ at → (track_at old.tracks.items at).link ≡ None → known_by recording log e ≡ record { link = next_link old; name = name } ∷ [] → ((spot : ℕ) → Entered old spot → Entered new spot) → Entered new at → Brings_link (next_link old) e → Stands recording new (log ++ e ∷ [])
stands-enters recording old new log e at name st linked below enters cut last clients accepted opened opens_is spot_is none known_is entered entered_at brings =
    let n = length old.places.items in
    let woke : wakes (log ++ e ∷ []) ≡ wakes log = wakes-more log e ∙ ap (λ b. wakes log + length (if b then e ∷ [] else [])) brings.woke ∙ add-zero (wakes log) in
    let change : Track → Track = λ t. record t { link = Some (next_link old) } in
    let each = each-track at change old.tracks.items new.tracks.items (λ x t. Fits (take old.cut recording) old.last old.cut (log ++ e ∷ []) x t) enters.tracks
    (λ x is. mine-enters (take old.cut recording) old.last old.cut n log e x (track_at old.tracks.items (place x)) below brings (ap (λ (p : ℕ). (track_at old.tracks.items p).link) is ∙ none) (st.tracks x))
    (λ x other. fits-but (take old.cut recording) old.last old.cut (next_link old) log (log ++ e ∷ []) x (track_at old.tracks.items (place x)) (but-entry (next_link old) log e brings.of brings.woke (λ links. inl (brings.names links))) (new-links old.places.items old.tracks.items linked x) (st.tracks x)) in
    record {
      cut = subst (λ (c : ℕ). CutsAt recording c (wakes (log ++ e ∷ []))) (sym cut) (subst (CutsAt recording old.cut) (sym woke) st.cut);
      last = subst (λ (c : ℕ). CutsAt recording c (wakes (log ++ e ∷ []) - 1)) (sym last) (subst (λ (k : ℕ). CutsAt recording old.last (k - 1)) (sym woke) st.last);
      wake = λ some. let low : old.last < old.cut = st.wake (let some_old : 0 < old.cut = omega arith in some_old) in omega arith;
      clients = λ port. clients port ∙ st.clients port ∙ ap (λ (c : ℕ). clients_at port (take c recording)) (sym cut);
      accepted = accepted;
      opened = opened;
      opens = opens_is;
      links = subst (λ (ps : List ℕ). Numbered 0 (known recording (log ++ e ∷ [])) ps) (sym enters.places)
          (subst (λ (ks : List Known). Numbered 0 ks (old.places.items ++ at ∷ [])) (sym (known-more recording log e ∙ ap (λ ks. known recording log ++ ks) known_is))
          (numbered-more 0 (known recording log) old.places.items (record { link = next_link old; name = name }) at st.links (ap numbered (let z : n ≡ 0 + n = omega arith in z)) spot_is));
      placed = λ number spot is. elim (get-cases old.places.items at number spot (ap (λ (ps : List ℕ). slice_get ps number) (sym enters.places) ∙ is)) [
        | inl before ↦
            let owner : (track_at old.tracks.items spot).link ≡ Some (numbered number) = st.placed number spot before in
            elim (bool_cases (spot == at)) [
              | inl same ↦ absurd (none_some (numbered number) (sym none ∙ ap (λ (p : ℕ). (track_at old.tracks.items p).link) (sym (eqb-true spot at same)) ∙ owner))
              | inr apart ↦ ap (λ t. t.link) (enters.tracks spot ∙ ap (λ b. if b then change (track_at old.tracks.items spot) else track_at old.tracks.items spot) apart) ∙ owner
            ]
        | inr made ↦
            ap (λ (p : ℕ). (track_at new.tracks.items p).link) (sym made.1)
            ∙ ap (λ t. t.link) (enters.tracks at ∙ ap (λ b. if b then change (track_at old.tracks.items at) else track_at old.tracks.items at) (same_number at))
            ∙ ap (λ (k : ℕ). Some (numbered k)) (sym made.0)
      ];
      entered = λ spot link is. elim (bool_cases (spot == at)) [
        | inl same ↦ subst (Entered new) (sym (eqb-true spot at same)) entered_at
        | inr apart ↦ entered spot (st.entered spot link (sym (ap (λ t. t.link) (enters.tracks spot ∙ ap (λ b. if b then change (track_at old.tracks.items spot) else track_at old.tracks.items spot) apart)) ∙ is))
      ];
      tracks = λ x. subst (λ (c : ℕ). Fits (take c recording) new.last c (log ++ e ∷ []) x (track_at new.tracks.items (place x))) (sym cut) (subst (λ (l : ℕ). Fits (take old.cut recording) l old.cut (log ++ e ∷ []) x (track_at new.tracks.items (place x))) (sym last) (each x));
    }
