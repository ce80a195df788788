-- A play that is over has given all of its recording, where the loop was at rest.
use Rattle.std.specs.Prelude.{◌≡◌, ◌⊎◌, ℕ, zero, suc, ◌+◌, ◌≤◌, ◌&&◌, not, Bool, true, false, nat_eq, if◌then◌else◌, List, [], ◌∷◌, ◌++◌, length, drop, slice_get, Option, Some, None, refl}
use Rattle.std.specs.List.{find, list_any}
use Rattle.std.specs.Option.{option_or}
use Rattle.std.proofs.Common.{sym, ◌∙◌, ap, subst, append-nil, inl, inr, arith}
use Rattle.std.proofs.lemmas.Bool.{eqb-true}
use Rattle.std.proofs.lemmas.List.Folds.{find-append, list_any-append}
use Rattle.std.proofs.lemmas.List.Sums.{fold-append}
use Rattle.std.proofs.Math.Seq.{drop-append_seam}
use Rattle.mx_base.specs.declared.names.LinkId.{LinkId}
use Rattle.mx_base.specs.declared.names.Port.{Port}
use Rattle.mx_base.specs.declared.names.Port.TheVariants as port
use Rattle.mx_wire.specs.Log.{Log, link_of, is_link, read_of, got_bytes, open_step, is_open}
use Rattle.mx_wire.specs.Tells.{IsOpen}
use Rattle.mx_wire.specs.Moments.{AllLawful, lawful-last, lawful-each}
use Rattle.mx_wire.specs.Growth.{bool_cases, nat_eq-sym, step-same, step-other, bytes-other, bytes-idle}
use Rattle.mx_wire.specs.declared.entry.Entry.{Entry}
use Rattle.mx_wire.specs.declared.entry.Entry.TheVariants as entry
use Rattle.recording.specs.declared.entry.RecordEntry.{RecordEntry}
use Rattle.recording.specs.declared.entry.RecordEntry.TheVariants as line
use Rattle.recording.specs.Playable.{BeginsAtMoment, IsPlayable}
use Rattle.mem_wire.specs.declared.ending.Ending.{Ending}
use Rattle.mem_wire.specs.declared.waiting.Waiting.{Waiting}
use Rattle.mem_wire.specs.Lines.{moments, released, clients_at, bytes_for}
use Rattle.mem_wire.specs.Came.{is_woke, wakes, is_accepted_at, accepted_at, next_client, Known, as_client, known_by, known, with_link, unread_of, unread, ending_of, room_of, is_told, is_blocked}
use Rattle.mem_wire.specs.CameLaws.{wakes-more, accepted-more, named-more}
use Rattle.mem_wire.specs.Play.{named_step, named_since, is_ready, is_to_name, next_named, IsAnswerOf, IsPlay}
use Rattle.mem_wire.specs.Plays.{HasTaken, play-taken, released-all, with-link, known-before}
use Rattle.ready_loop.specs.Drained.{accept_step, name_step, read_step, all_accepted, all_named, read_dry}
use Rattle.proxy_run.specs.Replay.{IsPlayedOut}

-- the link wasn't named since the last wake, and not all ready links were
pub record IsUnnamed (link : LinkId) (log : Log) : Type 0 where
  pub naming : all_named log ≡ false
  pub unnamed : list_any (λ (other : LinkId). nat_eq other.0 link.0) (named_since log) ≡ false

-- where a port found nobody nobody waits, and a link that is read dry has nothing to read, or wasn't named yet
pub record IsSettled (recording : List RecordEntry) (log : Log) : Type 0 where
  pub accepted : (at_port : Port) → all_accepted at_port log ≡ true → next_client recording log at_port ≡ None
  pub read : (link : LinkId) (k : Known) → with_link link (known recording log) ≡ Some k → IsOpen link log → read_dry link log ≡ true → (unread_of recording log k ≡ []) ⊎ IsUnnamed link log

-- One entry more.

wakes-same : (log : Log) (e : Entry) → is_woke e ≡ false → wakes (log ++ e ∷ []) ≡ wakes log
wakes-same log e still =
    let more : wakes (log ++ e ∷ []) ≡ wakes log + 0 = wakes-more log e ∙ ap (λ b. wakes log + length (if b then e ∷ [] else [])) still in
    omega arith

accepted-same : (at_port : Port) (log : Log) (e : Entry) → is_accepted_at at_port e ≡ false → accepted_at at_port (log ++ e ∷ []) ≡ accepted_at at_port log
accepted-same at_port log e still =
    let more : accepted_at at_port (log ++ e ∷ []) ≡ accepted_at at_port log + 0 = accepted-more at_port log e ∙ ap (λ b. accepted_at at_port log + length (if b then e ∷ [] else [])) still in
    omega arith

next-same : (recording : List RecordEntry) (at_port : Port) (log : Log) (e : Entry) → is_woke e ≡ false → is_accepted_at at_port e ≡ false → next_client recording (log ++ e ∷ []) at_port ≡ next_client recording log at_port
next-same recording at_port log e still other = rw (wakes-same log e still, accepted-same at_port log e other) refl

-- a port is asked, or another one is
settled-accepted : (recording : List RecordEntry) (log : Log) (e : Entry) (at_port : Port) → IsAnswerOf recording log e → (all_accepted at_port log ≡ true → next_client recording log at_port ≡ None)
    → accept_step at_port (all_accepted at_port log) e ≡ true → next_client recording (log ++ e ∷ []) at_port ≡ None
settled-accepted recording log (entry.Woke until_ms now_ms) at_port call was done = cc
settled-accepted recording log (entry.AcceptNothing port.Traffic) port.Traffic call was done = next-same recording port.Traffic log (entry.AcceptNothing port.Traffic) refl refl ∙ call.answer
settled-accepted recording log (entry.AcceptNothing port.Admin) port.Admin call was done = next-same recording port.Admin log (entry.AcceptNothing port.Admin) refl refl ∙ call.answer
settled-accepted recording log (entry.AcceptNothing port.Traffic) port.Admin call was done = next-same recording port.Admin log (entry.AcceptNothing port.Traffic) refl refl ∙ was done
settled-accepted recording log (entry.AcceptNothing port.Admin) port.Traffic call was done = next-same recording port.Traffic log (entry.AcceptNothing port.Admin) refl refl ∙ was done
settled-accepted recording log (entry.Accepted port.Traffic link salt) port.Traffic call was done = cc
settled-accepted recording log (entry.Accepted port.Admin link salt) port.Admin call was done = cc
settled-accepted recording log (entry.Accepted port.Traffic link salt) port.Admin call was done = next-same recording port.Admin log (entry.Accepted port.Traffic link salt) refl refl ∙ was done
settled-accepted recording log (entry.Accepted port.Admin link salt) port.Traffic call was done = next-same recording port.Traffic log (entry.Accepted port.Admin link salt) refl refl ∙ was done
settled-accepted recording log _ at_port call was done = next-same recording at_port log _ refl refl ∙ was done

-- what the link's reading depends on stays
pub record IsLeft (link : LinkId) (log : Log) (e : Entry) : Type 0 where
  pub still : is_woke e ≡ false
  pub same_dry : read_dry link (log ++ e ∷ []) ≡ read_dry link log
  pub same_open : is_open link (log ++ e ∷ []) ≡ is_open link log
  pub same_read : read_of link (log ++ e ∷ []) ≡ read_of link log

unread-left : (recording : List RecordEntry) (log : Log) (e : Entry) (link : LinkId) (k : Known) → is_woke e ≡ false → read_of link (log ++ e ∷ []) ≡ read_of link log → with_link link (known recording log) ≡ Some k → unread_of recording (log ++ e ∷ []) k ≡ unread_of recording log k
unread-left recording log e link k still same found =
    let here : link ≡ k.link = sym (with-link link k (known recording log) found) in
    let read : read_of k.link (log ++ e ∷ []) ≡ read_of k.link log = subst (λ (l : LinkId). read_of l (log ++ e ∷ []) ≡ read_of l log) here same in
    rw (read, wakes-same log e still) refl

-- an entry that names no link, or another one
left-other : (link : LinkId) (log : Log) (e : Entry) → is_woke e ≡ false → is_link link (link_of e) ≡ false → IsLeft link log e
left-other link log e still other = record {
  still = still;
  same_dry = step-other read_step false link log e other;
  same_open = step-other open_step false link log e other;
  same_read = bytes-other got_bytes link log e other;
}

-- an entry that is no read, and opens and closes nothing
left-idle : (link : LinkId) (log : Log) (e : Entry) → is_woke e ≡ false → ((b : Bool) → read_step b e ≡ b) → ((b : Bool) → open_step b e ≡ b) → got_bytes e ≡ [] → IsLeft link log e
left-idle link log e still dry opened nothing = record {
  still = still;
  same_dry = elim (bool_cases (is_link link (link_of e))) [
    | inl here ↦ step-same read_step false link log e here ∙ dry (read_dry link log)
    | inr other ↦ step-other read_step false link log e other
  ];
  same_open = elim (bool_cases (is_link link (link_of e))) [
    | inl here ↦ step-same open_step false link log e here ∙ opened (is_open link log)
    | inr other ↦ step-other open_step false link log e other
  ];
  same_read = bytes-idle got_bytes link log e nothing;
}

unnamed-left : (link : LinkId) (log : Log) (e : Entry) → ((b : Bool) → name_step b e ≡ b) → ((ns : List LinkId) → named_step ns e ≡ ns) → IsUnnamed link log → IsUnnamed link (log ++ e ∷ [])
unnamed-left link log e naming named was = record {
  naming = fold-append name_step true log (e ∷ []) ∙ naming (all_named log) ∙ was.naming;
  unnamed = ap (list_any (λ (other : LinkId). nat_eq other.0 link.0)) (named-more log e ∙ named (named_since log)) ∙ was.unnamed;
}

-- it stays as it was
abbrev Read : List RecordEntry → Log → LinkId → Known → Type 0
Read recording log link k = (unread_of recording log k ≡ []) ⊎ IsUnnamed link log

abbrev Was : List RecordEntry → Log → LinkId → Known → Type 0
Was recording log link k = IsOpen link log → read_dry link log ≡ true → Read recording log link k

read-left : (recording : List RecordEntry) (log : Log) (e : Entry) (link : LinkId) (k : Known) → IsLeft link log e → (IsUnnamed link log → IsUnnamed link (log ++ e ∷ [])) → with_link link (known recording log) ≡ Some k → Was recording log link k → Was recording (log ++ e ∷ []) link k
read-left recording log e link k left unnamed found was opened dry = elim (was (sym left.same_open ∙ opened) (sym left.same_dry ∙ dry)) [
  | inl nothing ↦ inl (unread-left recording log e link k left.still left.same_read found ∙ nothing)
  | inr not_yet ↦ inr (unnamed not_yet)
]

-- where the search for a ready link finds none, a link that wasn't named has nothing to read
nothing-ready : (recording : List RecordEntry) (log : Log) (link : LinkId) (k : Known) (ks : List Known) → find (is_to_name recording log) ks ≡ None → with_link link ks ≡ Some k → is_to_name recording log k ≡ false
nothing-ready recording log link k [] none found = cc
nothing-ready recording log link k (x ∷ ks) none found = elim (bool_cases (is_to_name recording log x)) [
  | inl ready ↦ (let no : Some x ≡ None = rw ready at none in absurd (cc))
  | inr not_it ↦ elim (bool_cases (nat_eq x.link.0 link.0)) [
    | inl here ↦ (let is : Some x ≡ Some k = rw here at found in let same : x ≡ k = cc in subst (λ (o : Known). is_to_name recording log o ≡ false) same not_it)
    | inr other ↦ nothing-ready recording log link k ks (rw not_it at none) (rw other at found)
  ]
]

or-none : (a b : Option Known) → option_or a b ≡ None → b ≡ None
or-none None b none = none
or-none (Some x) b none = cc

empty-unread : (opened named : Bool) (bytes : List ℕ) (ends : Option Ending) (told blocked : Bool) (left : Option ℕ) → opened ≡ true → named ≡ false → (opened && (is_ready bytes ends told blocked left && not named)) ≡ false → bytes ≡ []
empty-unread opened named [] ends told blocked left is_opened unnamed unready = refl
empty-unread opened named (b ∷ bytes) ends told blocked left is_opened unnamed unready = cc

named-all : (recording : List RecordEntry) (log : Log) (link : LinkId) (k : Known) → next_named recording log ≡ None → with_link link (known recording log) ≡ Some k → IsOpen link log → IsUnnamed link log → unread_of recording log k ≡ []
named-all recording log link k none found opened unnamed =
    let here : link ≡ k.link = sym (with-link link k (known recording log) found) in
    let known_none : find (is_to_name recording log) (known recording log) ≡ None = or-none _ (find (is_to_name recording log) (known recording log)) (sym (find-append (is_to_name recording log) _ (known recording log)) ∙ none) in
    empty-unread (is_open k.link log) (list_any (λ (other : LinkId). nat_eq other.0 k.link.0) (named_since log)) (unread_of recording log k) (ending_of recording log k) (is_told k.link log) (is_blocked k.link log) (room_of recording log k)
    (subst (λ (l : LinkId). IsOpen l log) here opened)
    (subst (λ (l : LinkId). list_any (λ (other : LinkId). nat_eq other.0 l.0) (named_since log) ≡ false) here unnamed.unnamed)
    (nothing-ready recording log link k (known recording log) known_none found)

wet : (link : LinkId) (log : Log) (e : Entry) → is_link link (link_of e) ≡ true → read_step (read_dry link log) e ≡ false → read_dry link (log ++ e ∷ []) ≡ true → ⊥
wet link log e here is dry = (let no : true ≡ false = sym dry ∙ step-same read_step false link log e here ∙ is in cc)

same-link : (link other : LinkId) → nat_eq link.0 other.0 ≡ true → other ≡ link
same-link link other same = ap (λ n. let l : LinkId = record { 0 = n } in l) (sym (eqb-true link.0 other.0 same))

-- a link that was known
settled-read : (recording : List RecordEntry) (log : Log) (e : Entry) (link : LinkId) (k : Known) → IsAnswerOf recording log e → with_link link (known recording log) ≡ Some k → Was recording log link k → Was recording (log ++ e ∷ []) link k
settled-read recording log (entry.Woke until_ms now_ms) link k call found was opened dry =
    let e : Entry = entry.Woke until_ms now_ms in
    inr (record { naming = fold-append name_step true log (e ∷ []); unnamed = ap (list_any (λ (other : LinkId). nat_eq other.0 link.0)) (named-more log e) })
settled-read recording log entry.NoneNamed link k call found was opened dry =
    let left : IsLeft link log entry.NoneNamed = left-other link log entry.NoneNamed refl refl in
    let same = unread-left recording log entry.NoneNamed link k refl left.same_read found in
    inl (same ∙ elim (was (sym left.same_open ∙ opened) (sym left.same_dry ∙ dry)) [
      | inl nothing ↦ nothing
      | inr not_yet ↦ named-all recording log link k call.answer found (sym left.same_open ∙ opened) not_yet
    ])
settled-read recording log (entry.Named to) link k call found was opened dry = elim (bool_cases (nat_eq link.0 to.0)) [
  | inl here ↦ absurd (wet link log (entry.Named to) here refl dry)
  | inr other ↦ read-left recording log (entry.Named to) link k (left-other link log (entry.Named to) refl other) (λ unnamed. record {
    naming = fold-append name_step true log (entry.Named to ∷ []) ∙ unnamed.naming;
    unnamed = ap (list_any (λ (l : LinkId). nat_eq l.0 link.0)) (named-more log (entry.Named to)) ∙ list_any-append (λ (l : LinkId). nat_eq l.0 link.0) (named_since log) (to ∷ []) ∙ rw (unnamed.unnamed, nat_eq-sym link.0 to.0 other) refl;
  }) found was opened dry
]
settled-read recording log (entry.Got to bytes) link k call found was opened dry = elim (bool_cases (nat_eq link.0 to.0)) [
  | inl here ↦ absurd (wet link log (entry.Got to bytes) here refl dry)
  | inr other ↦ read-left recording log (entry.Got to bytes) link k (left-other link log (entry.Got to bytes) refl other) (unnamed-left link log (entry.Got to bytes) (λ b. refl) (λ ns. refl)) found was opened dry
]
settled-read recording log (entry.ReadNothing to) link k call found was opened dry = elim (bool_cases (nat_eq link.0 to.0)) [
  | inl here ↦ (
      let nothing : unread recording log (with_link link (known recording log)) ≡ [] = subst (λ (l : LinkId). unread recording log (with_link l (known recording log)) ≡ []) (same-link link to here) call.answer.read in
      inl (unread-left recording log (entry.ReadNothing to) link k refl (bytes-idle got_bytes link log (entry.ReadNothing to) refl) found ∙ (rw found at nothing)))
  | inr other ↦ read-left recording log (entry.ReadNothing to) link k (left-other link log (entry.ReadNothing to) refl other) (unnamed-left link log (entry.ReadNothing to) (λ b. refl) (λ ns. refl)) found was opened dry
]
settled-read recording log (entry.Accepted at to salt) link k call found was opened dry = elim (bool_cases (nat_eq link.0 to.0)) [
  | inl here ↦ absurd (wet link log (entry.Accepted at to salt) here refl dry)
  | inr other ↦ read-left recording log (entry.Accepted at to salt) link k (left-other link log (entry.Accepted at to salt) refl other) (unnamed-left link log (entry.Accepted at to salt) (λ b. refl) (λ ns. refl)) found was opened dry
]
settled-read recording log (entry.Opened server address to) link k call found was opened dry = elim (bool_cases (nat_eq link.0 to.0)) [
  | inl here ↦ absurd (wet link log (entry.Opened server address to) here refl dry)
  | inr other ↦ read-left recording log (entry.Opened server address to) link k (left-other link log (entry.Opened server address to) refl other) (unnamed-left link log (entry.Opened server address to) (λ b. refl) (λ ns. refl)) found was opened dry
]
settled-read recording log (entry.Closed to) link k call found was opened dry = elim (bool_cases (nat_eq link.0 to.0)) [
  | inl here ↦ (let no : false ≡ true = sym (step-same open_step false link log (entry.Closed to) here) ∙ opened in absurd (cc))
  | inr other ↦ read-left recording log (entry.Closed to) link k (left-other link log (entry.Closed to) refl other) (unnamed-left link log (entry.Closed to) (λ b. refl) (λ ns. refl)) found was opened dry
]
settled-read recording log _ link k call found was opened dry =
    read-left recording log _ link k (left-idle link log _ refl (λ b. refl) (λ b. refl) refl) (unnamed-left link log _ (λ b. refl) (λ ns. refl)) found was opened dry

-- a link that comes isn't dry
comes-wet : (recording : List RecordEntry) (log : Log) (e : Entry) (link : LinkId) (k : Known) → with_link link (known_by recording log e) ≡ Some k → read_dry link (log ++ e ∷ []) ≡ true → ⊥
comes-wet recording log (entry.Accepted at to salt) link k found dry = of (next_client recording log at) found where
  of : (client : Option Waiting) → with_link link (as_client to client) ≡ Some k → ⊥
  of None now = cc
  of (Some client) now = elim (bool_cases (nat_eq to.0 link.0)) [
    | inl same ↦ wet link log (entry.Accepted at to salt) (let here : nat_eq link.0 to.0 ≡ true = subst (λ n. nat_eq n to.0 ≡ true) (eqb-true to.0 link.0 same) (Rattle.mx_wire.specs.Growth.same_number to.0) in here) refl dry
    | inr other ↦ (let no : None ≡ Some k = rw other at now in cc)
  ]
comes-wet recording log (entry.Opened server address to) link k found dry = elim (bool_cases (nat_eq to.0 link.0)) [
  | inl same ↦ wet link log (entry.Opened server address to) (let here : nat_eq link.0 to.0 ≡ true = subst (λ n. nat_eq n to.0 ≡ true) (eqb-true to.0 link.0 same) (Rattle.mx_wire.specs.Growth.same_number to.0) in here) refl dry
  | inr other ↦ (let no : None ≡ Some k = rw other at found in cc)
]
comes-wet recording log _ link k found dry = cc

settled-more : (recording : List RecordEntry) (log : Log) (e : Entry) → IsAnswerOf recording log e → IsSettled recording log → IsSettled recording (log ++ e ∷ [])
settled-more recording log e call was = record {
  accepted = λ at_port done. settled-accepted recording log e at_port call (was.accepted at_port) (sym (fold-append (accept_step at_port) true log (e ∷ [])) ∙ done);
  read = λ link k found opened dry. elim (known-before recording log e link k found).before [
    | inl before ↦ settled-read recording log e link k call before (was.read link k before) opened dry
    | inr new ↦ absurd (comes-wet recording log e link k new.1 dry)
  ];
}

none-released : (recording : List RecordEntry) → BeginsAtMoment recording → released 0 recording ≡ []
none-released [] begins = refl
none-released (line.At ms ∷ later) begins = refl
none-released (_ ∷ later) begins = absurd begins

play-settled : (recording : List RecordEntry) (log : Log) → IsPlayable recording → IsPlay recording log → IsSettled recording log
play-settled recording log playable play = lawful-each (IsAnswerOf recording) (IsSettled recording) log (settled-more recording) (record {
  accepted = λ at_port done. rw (none-released recording playable.begins) refl;
  read = λ link k found opened dry. cc;
}) play

-- At the end.

none-past : (clients : List Waiting) (i : ℕ) → slice_get clients i ≡ None → length clients ≤ i
none-past [] i none = search arith
none-past (client ∷ clients) zero none = cc
none-past (client ∷ clients) (suc i) none = let past = none-past clients i none in omega arith

all-accepted : (recording : List RecordEntry) (log : Log) (at_port : Port) → HasTaken recording log → released (wakes log) recording ≡ recording → next_client recording log at_port ≡ None → accepted_at at_port log ≡ length (clients_at at_port recording)
all-accepted recording log at_port taken all none =
    let most : accepted_at at_port log ≤ length (clients_at at_port recording) = subst (λ (lines : List RecordEntry). accepted_at at_port log ≤ length (clients_at at_port lines)) all (taken.accepted at_port) in
    let past : slice_get (clients_at at_port recording) (accepted_at at_port log) ≡ None = subst (λ (lines : List RecordEntry). slice_get (clients_at at_port lines) (accepted_at at_port log) ≡ None) all none in
    let least = none-past (clients_at at_port recording) (accepted_at at_port log) past in
    omega arith

all-read : (recording : List RecordEntry) (log : Log) (link : LinkId) (k : Known) → HasTaken recording log → released (wakes log) recording ≡ recording → with_link link (known recording log) ≡ Some k → unread_of recording log k ≡ [] → read_of link log ≡ bytes_for k.name recording
all-read recording log link k taken all found nothing =
    let front = taken.read link k found in
    let here : k.link ≡ link = with-link link k (known recording log) found in
    let later : front.later ≡ [] =
    sym (drop-append_seam (read_of link log) front.later) ∙ ap (drop (length (read_of link log))) front.is
    ∙ ap (λ (l : LinkId). drop (length (read_of l log)) (bytes_for k.name (released (wakes log) recording))) (sym here) ∙ nothing in
    sym (append-nil (read_of link log)) ∙ ap (λ xs. read_of link log ++ xs) (sym later) ∙ front.is ∙ ap (bytes_for k.name) all

pub played-out : (recording : List RecordEntry) (log before : Log) → IsPlayable recording → IsPlay recording log
    → ((at_port : Port) → all_accepted at_port before ≡ true) → all_named before ≡ true → log ≡ before ++ entry.Over ∷ []
    → IsPlayedOut recording before
played-out recording log before playable play accepted named over =
    let last = lawful-last (IsAnswerOf recording) before entry.Over (subst (IsPlay recording) over play) in
    let taken = play-taken recording before last.0 in
    let settled = play-settled recording before playable last.0 in
    let most : length (moments recording) ≤ wakes before = last.1.answer in
    let all : released (wakes before) recording ≡ recording = released-all (wakes before) recording most in
    record {
      woke = (let few = taken.woke in omega arith);
      accepted = λ at_port. all-accepted recording before at_port taken all (settled.accepted at_port (accepted at_port));
      read = λ link k found opened dry. all-read recording before link k taken all found (elim (settled.read link k found opened dry) [
        | inl nothing ↦ nothing
        | inr unnamed ↦ (let no : true ≡ false = sym named ∙ unnamed.naming in absurd (cc))
      ]);
    }
