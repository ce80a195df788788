-- One call of the wire, of which no failure is forgotten, and which offers what is owed.
use Rattle.std.proofs.Common.{◌≡◌, ℕ, ◌<◌, ◌≤◌, Bool, refl, subst, sym, ap, ◌∙◌, List, [], ◌∷◌, ◌++◌, length, take, Option, Some, None, append_assoc, append-nil, length-append, arith}
use Rattle.mx_base.specs.declared.names.LinkId.{LinkId}
use Rattle.mx_base.specs.declared.tag.Tag.{Tag}
use Rattle.mx_wire.specs.Answers.{took_entry}
use Rattle.mx_wire.specs.Log.{Log, IsMark, AreMarks}
use Rattle.mx_wire.specs.Moments.{AllLawful, lawful-more}
use Rattle.mx_wire.specs.Offers.{TakesBy, Offers, HasOffered}
use Rattle.mx_wire.specs.Tells.{Tells}
use Rattle.mx_wire.specs.declared.entry.Entry.{Entry}
use Rattle.mx_wire.specs.declared.entry.Entry.TheVariants as entry
use Rattle.mx_wire.specs.declared.wire.Took.{Took}
use Rattle.mx_wire.specs.declared.wire.Took.TheVariants as took
use Rattle.mx_base.specs.declared.piece.Piece.{Piece}
use Rattle.ready_loop.specs.declared.machines.Act.TheVariants as act
use Rattle.ready_loop.specs.Machine.{StandsFor, OwesFarewell}
use Rattle.mx_base.specs.Sent.{IsLent, Sent}
use Rattle.ready_loop.specs.Serving.{Begins, Proceeds, ListeningFor, OwedFor}
use Rattle.ready_loop.proofs.Listening.{IsNoListen, listens-on}
use Rattle.ready_loop.proofs.Steps.{IsStill, after_marks}

abbrev Owes : Type 1
Owes = Log → LinkId → (piece : List ℕ) → Type 0

abbrev Takes : Type 1
Takes = Log → LinkId → (piece taken : List ℕ) → Type 0

-- An entry that is no write.

abbrev pub IsUnwritten : Entry → Type 0
IsUnwritten (entry.Wrote link tag bytes) = ⊥
IsUnwritten _ = Unit {0}

unwritten-so : (owes : Owes) (takes : Takes) (log : Log) (e : Entry) → IsUnwritten e → Offers owes takes log e
unwritten-so owes takes log (entry.Wrote link tag bytes) none = absurd none
unwritten-so owes takes log _ none = tt

mark-unwritten : (e : Entry) → IsMark e → IsUnwritten e
mark-unwritten (entry.Exec link) mark = tt
mark-unwritten (entry.Drop link) mark = tt
mark-unwritten _ mark = absurd mark

marks-so : (owes : Owes) (takes : Takes) (log marks : Log) → AllLawful (Offers owes takes) log → AreMarks marks → AllLawful (Offers owes takes) (log ++ marks)
marks-so owes takes log [] all are = subst (AllLawful (Offers owes takes)) (sym (append-nil log)) all
marks-so owes takes log (e ∷ marks) all are =
    subst (AllLawful (Offers owes takes)) (append_assoc log (e ∷ []) marks)
    (marks-so owes takes (log ++ e ∷ []) marks (lawful-more (Offers owes takes) log e all (unwritten-so owes takes log e (mark-unwritten e are.0))) are.1)

call-so : (owes : Owes) (takes : Takes) (old new : Option Log) (e : Entry) → Tells old e new → ((log marks : Log) → old ≡ Some log → AreMarks marks → new ≡ Some ((log ++ marks) ++ e ∷ []) → Tells old e new → Offers owes takes (log ++ marks) e) → HasOffered owes takes old → HasOffered owes takes new
call-so owes takes old new e tells so was = record {
  holds = λ log is.
      let call = tells.appended log is in
      let marks = call.2.marks in
      subst (AllLawful (Offers owes takes)) (sym call.2.is)
      (lawful-more (Offers owes takes) (call.0 ++ marks) e (marks-so owes takes call.0 marks (was.holds call.0 call.1) call.2.only_marks)
      (so call.0 marks call.1 call.2.only_marks (is ∙ ap Some call.2.is) tells));
}

pub unwritten-offers : (owes : Owes) (takes : Takes) (old new : Option Log) (e : Entry) → Tells old e new → IsUnwritten e → HasOffered owes takes old → HasOffered owes takes new
unwritten-offers owes takes old new e tells none was = call-so owes takes old new e tells (λ log marks is are now told. unwritten-so owes takes (log ++ marks) e none) was

-- A write.

few-marks : (old new : Option Log) (log marks : Log) (e : Entry) → Tells old e new → new ≡ Some ((log ++ marks) ++ e ∷ []) → length (log ++ marks) < 281474976710656
few-marks old new log marks e tells is =
    let call = tells.appended ((log ++ marks) ++ e ∷ []) is in
    let bounded = call.2.lawful.bounded in
    let size : length ((log ++ marks) ++ e ∷ []) ≡ length ((call.0 ++ call.2.marks) ++ e ∷ []) = ap length call.2.is in
    let one = length-append (log ++ marks) (e ∷ []) in
    let two = length-append (call.0 ++ call.2.marks) (e ∷ []) in
    omega arith

pub write-offers : (owes : Owes) (takes : Takes) (old new : Option Log) (link : LinkId) (tag : Tag) (piece : Piece) (lent : Option Sent) (answer : Took) → Tells old (took_entry link tag piece.bytes.now answer) new → TakesBy takes link piece.bytes.now new
    → IsLent (Some piece) lent → OwedFor owes lent link old → HasOffered owes takes old → HasOffered owes takes new
write-offers owes takes old new link tag piece lent (took.Took n) tells by is_lent owed was = call-so owes takes old new (entry.Wrote link tag (take n piece.bytes.now)) tells (λ log marks is are now told. record {
  piece = piece.bytes.now;
  owed = lent-piece lent is_lent owed log marks is are (few-marks old new log marks (entry.Wrote link tag (take n piece.bytes.now)) told now);
  taken = by.taken (log ++ marks) tag (take n piece.bytes.now) now;
}) was where
  lent-piece : (lent : Option Sent) → IsLent (Some piece) lent → OwedFor owes lent link old → (log marks : Log) → old ≡ Some log → AreMarks marks → length (log ++ marks) < 281474976710656 → owes (log ++ marks) link piece.bytes.now
  lent-piece (Some sent) is_lent owed log marks is are few = subst (owes (log ++ marks) link) (sym is_lent.bytes) (owed.holds log marks sent is are few refl)
  lent-piece None is_lent owed log marks is are few = absurd is_lent
write-offers owes takes old new link tag piece lent took.NotReady tells by is_lent owed was = unwritten-offers owes takes old new (entry.WriteNothing link) tells tt was
write-offers owes takes old new link tag piece lent took.Failed tells by is_lent owed was = unwritten-offers owes takes old new (entry.WriteFailed link) tells tt was

pub took-elsewhere : (link : LinkId) (tag : Tag) (piece : List ℕ) (answer : Took) → IsNoListen (took_entry link tag piece answer)
took-elsewhere link tag piece (took.Took n) = tt
took-elsewhere link tag piece took.NotReady = tt
took-elsewhere link tag piece took.Failed = tt

-- what a machine that stands for the log lends is owed
pub owed-for : {M : Type 0} (stands : M → Log → Type 0) (reads : M → LinkId → Bool) (sends : M → LinkId → Option Sent) (asks : M → Bool) → IsStill stands reads sends asks → (owes : Owes) (machine : M) (told : Option Log) (lent : Option Sent) (link : LinkId)
    → StandsFor stands machine told → ((log : Log) (sent : Sent) → stands machine log → lent ≡ Some sent → owes log link sent.bytes) → OwedFor owes lent link told
owed-for stands reads sends asks still owes machine told lent link held law = record {
  holds = λ log marks sent is are few lends. law (log ++ marks) sent (after_marks stands reads sends asks still machine log marks are few (held.holds log is)) lends;
}

-- before the first entry
pub fresh-offers : (owes : Owes) (takes : Takes) (told : Option Log) → ((log : Log) → told ≡ Some log → log ≡ []) → HasOffered owes takes told
fresh-offers owes takes told fresh = record { holds = λ log is. subst (AllLawful (Offers owes takes)) (sym (fresh log is)) tt }

-- The call as a whole.

offers-as : {R S : Type 0} (owes : S → Owes) (takes : R → Takes) (s t : S) (r q : R) (told : Option Log) → t ≡ s → q ≡ r → HasOffered (owes s) (takes r) told → HasOffered (owes t) (takes q) told
offers-as owes takes s t r q told same alike has = subst (λ x. HasOffered (owes x) (takes q) told) (sym same) (subst (λ x. HasOffered (owes s) (takes x) told) (sym alike) has)

-- of which no machine need know
pub begins-so : {M W R S : Type 0} (service : M → S) (owes : S → Owes) (told : W → Option Log) (ruled_by : W → R) (takes : R → Takes) (port_faults faults : W → ℕ) (core next : M) (old new : W) (e : Entry)
    → Tells (told old) e (told new) → ruled_by new ≡ ruled_by old → port_faults old ≤ port_faults new → faults old ≤ faults new → service next ≡ service core
    → (HasOffered (owes (service core)) (takes (ruled_by old)) (told old) → HasOffered (owes (service core)) (takes (ruled_by old)) (told new)) → Begins service owes told ruled_by takes port_faults faults core next old new
begins-so service owes told ruled_by takes port_faults faults core next old new e tells ruled ports links same offers = record {
  advances = record {
    ruled = ruled;
    grew = λ log is. let call = tells.appended log is in (call.0, call.1, (call.2.marks ++ e ∷ [], call.2.is ∙ append_assoc call.0 call.2.marks (e ∷ [])));
    ports_failed = ports;
    links_failed = links;
  };
  serves_by = same;
  offered = λ was. offers-as owes takes (service core) (service next) (ruled_by old) (ruled_by new) (told new) same ruled (offers was);
}

-- one that writes nothing
pub begun : {M W R S : Type 0} (service : M → S) (owes : S → Owes) (told : W → Option Log) (ruled_by : W → R) (takes : R → Takes) (port_faults faults : W → ℕ) (core next : M) (old new : W) (e : Entry)
    → Tells (told old) e (told new) → IsUnwritten e → ruled_by new ≡ ruled_by old → port_faults old ≤ port_faults new → faults old ≤ faults new → service next ≡ service core → Begins service owes told ruled_by takes port_faults faults core next old new
begun service owes told ruled_by takes port_faults faults core next old new e tells none ruled ports links same =
    begins-so service owes told ruled_by takes port_faults faults core next old new e tells ruled ports links same (unwritten-offers (owes (service core)) (takes (ruled_by old)) (told old) (told new) e tells none)

-- and listens nowhere
pub proceeds-so : {M W R S : Type 0} (service : M → S) (owes : S → Owes) (told : W → Option Log) (ruled_by : W → R) (takes : R → Takes) (port_faults faults : W → ℕ) (core next : M) (old new : W) (e : Entry)
    → Tells (told old) e (told new) → IsNoListen e → ruled_by new ≡ ruled_by old → port_faults old ≤ port_faults new → faults old ≤ faults new → service next ≡ service core
    → (HasOffered (owes (service core)) (takes (ruled_by old)) (told old) → HasOffered (owes (service core)) (takes (ruled_by old)) (told new)) → Proceeds service owes told ruled_by takes port_faults faults core next old new
proceeds-so service owes told ruled_by takes port_faults faults core next old new e tells elsewhere ruled ports links same offers =
    let begins = begins-so service owes told ruled_by takes port_faults faults core next old new e tells ruled ports links same offers in
    record {
      advances = begins.advances;
      serves_by = begins.serves_by;
      offered = begins.offered;
      listens = λ traffic admin was. listens-on traffic admin (told old) (told new) e tells elsewhere was;
    }

pub proceeded : {M W R S : Type 0} (service : M → S) (owes : S → Owes) (told : W → Option Log) (ruled_by : W → R) (takes : R → Takes) (port_faults faults : W → ℕ) (core next : M) (old new : W) (e : Entry)
    → Tells (told old) e (told new) → IsUnwritten e → IsNoListen e → ruled_by new ≡ ruled_by old → port_faults old ≤ port_faults new → faults old ≤ faults new → service next ≡ service core → Proceeds service owes told ruled_by takes port_faults faults core next old new
proceeded service owes told ruled_by takes port_faults faults core next old new e tells none elsewhere ruled ports links same =
    proceeds-so service owes told ruled_by takes port_faults faults core next old new e tells elsewhere ruled ports links same (unwritten-offers (owes (service core)) (takes (ruled_by old)) (told old) (told new) e tells none)

-- and of the whole of a serving
pub offered-in-all : {M W R S : Type 0} (service : M → S) (owes : S → Owes) (told : W → Option Log) (ruled_by : W → R) (takes : R → Takes) (port_faults faults : W → ℕ) (core next : M) (old new : W)
    → Proceeds service owes told ruled_by takes port_faults faults core next old new → ((log : Log) → told old ≡ Some log → log ≡ []) → HasOffered (owes (service core)) (takes (ruled_by old)) (told new)
offered-in-all service owes told ruled_by takes port_faults faults core next old new proceeds fresh =
    offers-as owes takes (service next) (service core) (ruled_by new) (ruled_by old) (told new) (sym proceeds.serves_by) (sym proceeds.advances.ruled) (proceeds.offered (fresh-offers (owes (service core)) (takes (ruled_by old)) (told old) fresh))

-- one after another
pub proceeds-then : {M W R S : Type 0} (service : M → S) (owes : S → Owes) (told : W → Option Log) (ruled_by : W → R) (takes : R → Takes) (port_faults faults : W → ℕ) (core mid next : M) (old between new : W)
    → Proceeds service owes told ruled_by takes port_faults faults core mid old between → Proceeds service owes told ruled_by takes port_faults faults mid next between new → Proceeds service owes told ruled_by takes port_faults faults core next old new
proceeds-then service owes told ruled_by takes port_faults faults core mid next old between new one two = record {
  advances = record {
    ruled = two.advances.ruled ∙ one.advances.ruled;
    grew = λ log is.
        let later = two.advances.grew log is in
        let sooner = one.advances.grew later.0 later.1 in
        (sooner.0, sooner.1, (sooner.2.0 ++ later.2.0, later.2.1 ∙ ap (λ (l : Log). l ++ later.2.0) sooner.2.1 ∙ append_assoc sooner.0 sooner.2.0 later.2.0));
    ports_failed = (let a = one.advances.ports_failed in let b = two.advances.ports_failed in omega arith);
    links_failed = (let a = one.advances.links_failed in let b = two.advances.links_failed in omega arith);
  };
  serves_by = two.serves_by ∙ one.serves_by;
  offered = λ was. two.offered (one.offered was);
  listens = λ traffic admin was. two.listens traffic admin (one.listens traffic admin was);
}

-- what is lent for the one write before a close
pub owed-closing : {M S : Type 0} (stands : M → Log → Type 0) (reads : M → LinkId → Bool) (sends : M → LinkId → Option Sent) (asks : M → Bool) → IsStill stands reads sends asks → (service : M → S) (owes : S → Owes) (old new : M) (told : Option Log) (link : LinkId)
    → StandsFor stands old told → OwesFarewell stands (owes (service old)) sends old new (Some (act.Close link)) → service new ≡ service old → OwedFor (owes (service new)) (sends new link) link told
owed-closing stands reads sends asks still service owes old new told link held owed same =
    subst (λ s. OwedFor (owes s) (sends new link) link told) (sym same) (owed-for stands reads sends asks still (owes (service old)) old told (sends new link) link held owed)

-- a call that adds nothing
pub proceeds-same : {M W R S : Type 0} (service : M → S) (owes : S → Owes) (told : W → Option Log) (ruled_by : W → R) (takes : R → Takes) (port_faults faults : W → ℕ) (core : M) (old new : W)
    → told new ≡ told old → ruled_by new ≡ ruled_by old → port_faults old ≤ port_faults new → faults old ≤ faults new → Proceeds service owes told ruled_by takes port_faults faults core core old new
proceeds-same service owes told ruled_by takes port_faults faults core old new same ruled ports links = record {
  advances = record { ruled = ruled; grew = λ log is. (log, sym same ∙ is, ([], sym (append-nil log))); ports_failed = ports; links_failed = links };
  serves_by = refl;
  offered = λ was. offers-as owes takes (service core) (service core) (ruled_by old) (ruled_by new) (told new) refl ruled (subst (HasOffered (owes (service core)) (takes (ruled_by old))) (sym same) was);
  listens = λ traffic admin was. subst (ListeningFor traffic admin) (sym same) was;
}
