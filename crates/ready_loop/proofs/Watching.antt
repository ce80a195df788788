-- No link that is to be looked at is lost.
use Rattle.std.proofs.Common.{◌≡◌, ℕ, Bool, true, false, ◌||◌, nat_eq, List, [], ◌∷◌, ◌++◌, Option, Some, None, refl, sym, ◌∙◌, ap, subst, inl, inr}
use Rattle.std.specs.Prelude.{IsSome}
use Rattle.std.specs.Option.{option_map}
use Rattle.std.specs.List.{list_any}
use Rattle.std.proofs.lemmas.List.Folds.{list_any-append}
use Rattle.mx_base.specs.declared.names.LinkId.{LinkId}
use Rattle.mx_wire.specs.Growth.{bool_cases, same_number}
use Rattle.ready_loop.specs.Changes.{ChangesOnly, SaysSame, TakesChange}
use Rattle.mx_base.specs.Sent.{Sent}
use Rattle.ready_loop.specs.Links.{mark_of, is_in_queue, queue_with, Marks}
use Rattle.ready_loop.specs.Queued.{IsSettled, Watches}
use Rattle.ready_loop.specs.declared.links.Links.{Links}
use Rattle.ready_loop.specs.declared.links.Mark.{Mark}
use Rattle.ready_loop.proofs.Counting.{at_number}

-- over a call of the machine
pub changes : {M : Type 0} (reads : M → LinkId → Bool) (sends : M → LinkId → Option Sent) (changed : M → LinkId → Bool) (old new : M) (links : Links) → ChangesOnly changed reads sends old new → Watches (reads old) (sends old) (changed old) links → Watches (reads new) (sends new) (changed new) links
changes reads sends changed old new links only was = record {
  listed = was.listed;
  minded = λ link mark is queued calm.
      let leaves = only.others link calm in
      record {
        read = λ wanted. let before = leaves.read wanted in (was.minded link mark is queued before.0).read before.1;
        written = λ some. let before = leaves.written some in (was.minded link mark is queued before.0).written before.1;
      };
}

-- over a change of one link's mark
marked : (reads : LinkId → Bool) (sends : LinkId → Option Sent) (changed : LinkId → Bool) (old new : Links) (link : LinkId) (mark : Option Mark) → Marks old new link mark
    → ((m : Mark) → mark ≡ Some m → m.queued ≡ true → is_in_queue new link ≡ true)
    → ((m : Mark) → mark ≡ Some m → m.queued ≡ false → changed link ≡ false → IsSettled (reads link) (sends link) m)
    → ((other : LinkId) → nat_eq link.0 other.0 ≡ false → is_in_queue old other ≡ true → is_in_queue new other ≡ true)
    → Watches reads sends changed old → Watches reads sends changed new
marked reads sends changed old new link mark marks here minds rest was = record {
  listed = λ l m is queued. elim (bool_cases (nat_eq link.0 l.0)) [
    | inl same ↦ at_number (λ (l' : LinkId). mark_of new l' ≡ Some m → is_in_queue new l' ≡ true) link l same (λ is'. here m (sym marks.same ∙ is') queued) is
    | inr apart ↦ rest l apart (was.listed l m (sym (marks.others l apart) ∙ is) queued)
  ];
  minded = λ l m is queued calm. elim (bool_cases (nat_eq link.0 l.0)) [
    | inl same ↦ at_number (λ (l' : LinkId). mark_of new l' ≡ Some m → changed l' ≡ false → IsSettled (reads l') (sends l') m) link l same (λ is' calm'. minds m (sym marks.same ∙ is') queued calm') is calm
    | inr apart ↦ was.minded l m (sym (marks.others l apart) ∙ is) queued calm
  ];
}

in_more : (links new : Links) (link other : LinkId) → new.queue.items ≡ links.queue.items ++ link ∷ [] → is_in_queue links other ≡ true → is_in_queue new other ≡ true
in_more links new link other is before =
    let joined : list_any (λ (o : LinkId). nat_eq o.0 other.0) (links.queue.items ++ link ∷ []) ≡ (list_any (λ (o : LinkId). nat_eq o.0 other.0) links.queue.items || list_any (λ (o : LinkId). nat_eq o.0 other.0) (link ∷ [])) = list_any-append (λ (o : LinkId). nat_eq o.0 other.0) links.queue.items (link ∷ []) in
    ap (list_any (λ (o : LinkId). nat_eq o.0 other.0)) is ∙ joined ∙ ap (λ (b : Bool). b || list_any (λ (o : LinkId). nat_eq o.0 other.0) (link ∷ [])) before

or_true : (a b : Bool) → b ≡ true → (a || b) ≡ true
or_true true b is = refl
or_true false b is = is

last_in : (links new : Links) (link : LinkId) → new.queue.items ≡ links.queue.items ++ link ∷ [] → is_in_queue new link ≡ true
last_in links new link is =
    let itself : list_any (λ (o : LinkId). nat_eq o.0 link.0) (link ∷ []) ≡ true = ap (λ (b : Bool). b || false) (same_number link.0) in
    ap (list_any (λ (o : LinkId). nat_eq o.0 link.0)) is ∙ list_any-append (λ (o : LinkId). nat_eq o.0 link.0) links.queue.items (link ∷ []) ∙ or_true _ _ itself

in_same : (links new : Links) (other : LinkId) → new.queue.items ≡ links.queue.items → is_in_queue links other ≡ true → is_in_queue new other ≡ true
in_same links new other is before = ap (list_any (λ (o : LinkId). nat_eq o.0 other.0)) is ∙ before

-- a link is opened
pub opened : (reads : LinkId → Bool) (sends : LinkId → Option Sent) (changed : LinkId → Bool) (old new : Links) (link : LinkId) → Marks old new link (Some (record { read = false; write = false; queued = true })) → new.queue.items ≡ old.queue.items ++ link ∷ [] → Watches reads sends changed old → Watches reads sends changed new
opened reads sends changed old new link marks queue was = marked reads sends changed old new link (Some (record { read = false; write = false; queued = true })) marks
    (λ m is queued. last_in old new link queue)
    (λ m is queued calm. (let same : ◌≡◌ {A = Bool} true m.queued = cc in let no : true ≡ false = same ∙ queued in cc))
    (λ other apart before. in_more old new link other queue before) was

-- a link is closed
pub closed : (reads : LinkId → Bool) (sends : LinkId → Option Sent) (changed : LinkId → Bool) (old new : Links) (link : LinkId) → Marks old new link None → new.queue.items ≡ old.queue.items → Watches reads sends changed old → Watches reads sends changed new
closed reads sends changed old new link marks queue was = marked reads sends changed old new link None marks
    (λ m is queued. cc) (λ m is queued calm. cc) (λ other apart before. in_same old new other queue before) was

some_mapped : (f : Mark → Mark) (o : Option Mark) (m : Mark) → option_map f o ≡ Some m → (was : Mark) × (o ≡ Some was) × (m ≡ f was)
some_mapped f None m is = cc
some_mapped f (Some was) m is = (was, refl, cc)

-- a link that goes to the queue is in it
queued_in : (o : Option Mark) (was : Mark) (links new : Links) (link : LinkId) → o ≡ Some was → new.queue.items ≡ queue_with o links.queue.items link → (was.queued ≡ true → is_in_queue links link ≡ true) → is_in_queue new link ≡ true
queued_in o was links new link is queue before = elim (bool_cases was.queued) [
  | inl queued ↦ in_same links new link (let same : queue_with o links.queue.items link ≡ links.queue.items = rw (is, queued) refl in queue ∙ same) (before queued)
  | inr free ↦ last_in links new link (let more : queue_with o links.queue.items link ≡ links.queue.items ++ link ∷ [] = rw (is, free) refl in queue ∙ more)
]

others_in : (o : Option Mark) (links new : Links) (link other : LinkId) → new.queue.items ≡ queue_with o links.queue.items link → is_in_queue links other ≡ true → is_in_queue new other ≡ true
others_in None links new link other queue before = in_same links new other queue before
others_in (Some was) links new link other queue before = elim (bool_cases was.queued) [
  | inl queued ↦ in_same links new other (let same : queue_with (Some was) links.queue.items link ≡ links.queue.items = rw queued refl in queue ∙ same) before
  | inr free ↦ in_more links new link other (let more : queue_with (Some was) links.queue.items link ≡ links.queue.items ++ link ∷ [] = rw free refl in queue ∙ more) before
]

-- a link goes to the queue
pub joined : (reads : LinkId → Bool) (sends : LinkId → Option Sent) (changed : LinkId → Bool) (f : Mark → Mark) → ((m : Mark) → (f m).queued ≡ true) → (old new : Links) (link : LinkId) → Marks old new link (option_map f (mark_of old link)) → new.queue.items ≡ queue_with (mark_of old link) old.queue.items link → Watches reads sends changed old → Watches reads sends changed new
joined reads sends changed f all old new link marks queue was = marked reads sends changed old new link (option_map f (mark_of old link)) marks
    (λ m is queued. let before = some_mapped f (mark_of old link) m is in queued_in (mark_of old link) before.0 old new link before.1 queue (λ q. was.listed link before.0 before.1 q))
    (λ m is queued calm. (let before = some_mapped f (mark_of old link) m is in let no : true ≡ false = sym (all before.0) ∙ sym (ap (λ (m' : Mark). m'.queued) before.2) ∙ queued in cc))
    (λ other apart before. others_in (mark_of old link) old new link other queue before) was

-- a link that stays where it is, and of which no more is owed than before
pub dried : (reads : LinkId → Bool) (sends : LinkId → Option Sent) (changed : LinkId → Bool) (f : Mark → Mark) → ((m : Mark) → (f m).queued ≡ m.queued) → ((m : Mark) → m.read ≡ true → (f m).read ≡ true) → ((m : Mark) → m.write ≡ true → (f m).write ≡ true) → (old new : Links) (link : LinkId) → Marks old new link (option_map f (mark_of old link)) → new.queue.items ≡ old.queue.items → Watches reads sends changed old → Watches reads sends changed new
dried reads sends changed f same reads_on writes_on old new link marks queue was = marked reads sends changed old new link (option_map f (mark_of old link)) marks
    (λ m is queued. let before = some_mapped f (mark_of old link) m is in in_same old new link queue (was.listed link before.0 before.1 (sym (same before.0) ∙ sym (ap (λ (m' : Mark). m'.queued) before.2) ∙ queued)))
    (λ m is queued calm.
    let before = some_mapped f (mark_of old link) m is in
    let settled = was.minded link before.0 before.1 (sym (same before.0) ∙ sym (ap (λ (m' : Mark). m'.queued) before.2) ∙ queued) calm in
    record {
      read = λ wanted. ap (λ (m' : Mark). m'.read) before.2 ∙ reads_on before.0 (settled.read wanted);
      written = λ some. ap (λ (m' : Mark). m'.write) before.2 ∙ writes_on before.0 (settled.written some);
    })
    (λ other apart before. in_same old new other queue before) was

tail_in : (items : List LinkId) (link other : LinkId) → nat_eq link.0 other.0 ≡ false → list_any (λ (o : LinkId). nat_eq o.0 other.0) (link ∷ items) ≡ true → list_any (λ (o : LinkId). nat_eq o.0 other.0) items ≡ true
tail_in items link other apart before = sym (ap (λ (b : Bool). b || list_any (λ (o : LinkId). nat_eq o.0 other.0) items) apart) ∙ before

-- the link at the front of the queue leaves it, where no call of it is owed
pub left : (reads : LinkId → Bool) (sends : LinkId → Option Sent) (changed : LinkId → Bool) (old new : Links) (link : LinkId) (rest : List LinkId) → Marks old new link (option_map (λ (mark : Mark). record mark { queued = false }) (mark_of old link)) → old.queue.items ≡ link ∷ rest → new.queue.items ≡ rest
    → ((mark : Mark) → mark_of old link ≡ Some mark → mark.queued ≡ true → IsSettled (reads link) (sends link) mark) → Watches reads sends changed old → Watches reads sends changed new
left reads sends changed old new link rest marks front queue settled was = marked reads sends changed old new link (option_map (λ (mark : Mark). record mark { queued = false }) (mark_of old link)) marks
    (λ m is queued. (let before = some_mapped (λ (mark : Mark). record mark { queued = false }) (mark_of old link) m is in let no : false ≡ true = sym (ap (λ (m' : Mark). m'.queued) before.2) ∙ queued in cc))
    (λ m is queued calm.
    let before = some_mapped (λ (mark : Mark). record mark { queued = false }) (mark_of old link) m is in
    let one : IsSettled (reads link) (sends link) before.0 = elim (bool_cases before.0.queued) [
      | inl there ↦ settled before.0 before.1 there
      | inr free ↦ was.minded link before.0 before.1 free calm
    ] in
    record {
      read = λ wanted. ap (λ (m' : Mark). m'.read) before.2 ∙ one.read wanted;
      written = λ some. ap (λ (m' : Mark). m'.write) before.2 ∙ one.written some;
    })
    (λ other apart before. ap (list_any (λ (o : LinkId). nat_eq o.0 other.0)) queue ∙ tail_in rest link other apart (sym (ap (list_any (λ (o : LinkId). nat_eq o.0 other.0)) front) ∙ before)) was

-- a changed link was named, and went to the queue
pub renamed : {M : Type 0} (reads : M → LinkId → Bool) (sends : M → LinkId → Option Sent) (changed : M → LinkId → Bool) (until : M → ℕ) (is_stopped : M → Bool) (core next : M) (old new : Links) (link : LinkId)
    → SaysSame reads sends until is_stopped core next → TakesChange changed core next (Some link)
    → Marks old new link (option_map (λ (mark : Mark). record mark { queued = true }) (mark_of old link)) → new.queue.items ≡ queue_with (mark_of old link) old.queue.items link
    → Watches (reads core) (sends core) (changed core) old → Watches (reads next) (sends next) (changed next) new
renamed reads sends changed until is_stopped core next old new link same takes marks queue was =
    let now : Watches (reads core) (sends core) (changed core) new = joined (reads core) (sends core) (changed core) (λ (mark : Mark). record mark { queued = true }) (λ m. refl) old new link marks queue was in
    record {
      listed = now.listed;
      minded = λ l m is queued calm. elim (bool_cases (nat_eq link.0 l.0)) [
        | inl here ↦ at_number (λ (l' : LinkId). mark_of new l' ≡ Some m → IsSettled (reads next l') (sends next l') m) link l here (λ is'.
            let before = some_mapped (λ (mark : Mark). record mark { queued = true }) (mark_of old link) m (sym marks.same ∙ is') in
            let no : true ≡ false = sym (ap (λ (m' : Mark). m'.queued) before.2) ∙ queued in cc) is
        | inr apart ↦ elim (takes l calm) [
          | inl calm_before ↦ (
              let settled = now.minded l m is queued calm_before in
              record { read = λ wanted. settled.read (sym (same.read l) ∙ wanted); written = λ some. settled.written (subst IsSome (same.written l) some) })
          | inr itself ↦ (let no : true ≡ false = sym (same_number link.0) ∙ ap (λ (l' : LinkId). nat_eq link.0 l'.0) (sym itself) ∙ apart in cc)
        ]
      ];
    }

-- with the queue empty, each link that isn't changed is settled
pub emptied : (reads : LinkId → Bool) (sends : LinkId → Option Sent) (changed : LinkId → Bool) (links : Links) → Watches reads sends changed links → links.queue.items ≡ [] → (link : LinkId) (mark : Mark) → mark_of links link ≡ Some mark → changed link ≡ false → IsSettled (reads link) (sends link) mark
emptied reads sends changed links was none link mark is calm = elim (bool_cases mark.queued) [
  | inl queued ↦ (let no : false ≡ true = sym (ap (list_any (λ (o : LinkId). nat_eq o.0 link.0)) none) ∙ was.listed link mark is queued in cc)
  | inr free ↦ was.minded link mark is free calm
]
