-- How a connection goes on, turn by turn.
use Rattle.std.specs.Prelude.{◌≡◌, ℕ, suc, Bool, true, false, List, [], ◌∷◌, ◌++◌, Option, Some, None, if◌then◌else◌, refl}
use Rattle.std.proofs.Common.{sym, ◌∙◌, ap, subst, append-nil, append_assoc}
use Rattle.std.specs.Io.KnownBytes.{Appends, Consumes}
use Rattle.server_rule.specs.Servers.{Step}
use Rattle.scripted_wire.specs.Hosts.{Hosted}
use Rattle.scripted_wire.specs.Marks.{is_work}
use Rattle.scripted_wire.specs.Serving.{Served, served}
use Rattle.scripted_wire.specs.declared.did.Did.{Did}
use Rattle.scripted_wire.specs.declared.server_link.ServerLink.{ServerLink}
use Rattle.toy_server.specs.Talks.{Stand, Talk, IsAfter, begun, bytes_in, emptied, goes_on, heard, all_said, said, served_on, talked}

-- the next thing is done, where there is one

chosen : (b : Bool) (x y : Stand) → b ≡ true → (if b then x else y) ≡ x
chosen b x y is = rw is refl

other : (b : Bool) (x y : Stand) → b ≡ false → (if b then x else y) ≡ y
other b x y is = rw is refl

next : (step : Step) (most less : ℕ) (at new : Stand) (did : Did) → most ≡ suc less → record { link = new.link; hosted = new.hosted; did = did } ≡ served step false at.link at.hosted
    → served_on step most at ≡ (if is_work did then served_on step less new else new)
unfolding served_on
next step most less at new did one is = ap (λ n. served_on step n at) one ∙ ap {A = Served} (goes_on (served_on step less)) (sym is)

pub works : (step : Step) (most less : ℕ) (at new : Stand) (did : Did) → most ≡ suc less → record { link = new.link; hosted = new.hosted; did = did } ≡ served step false at.link at.hosted
    → is_work did ≡ true → served_on step most at ≡ served_on step less new
works step most less at new did one is work = next step most less at new did one is ∙ chosen (is_work did) (served_on step less new) new work

pub rests : (step : Step) (most less : ℕ) (at new : Stand) (did : Did) → most ≡ suc less → record { link = new.link; hosted = new.hosted; did = did } ≡ served step false at.link at.hosted
    → is_work did ≡ false → served_on step most at ≡ new
rests step most less at new did one is rest = next step most less at new did one is ∙ other (is_work did) (served_on step less new) new rest

-- none is left to be done
pub stops : (step : Step) (at : Stand) → served_on step 0 at ≡ at
unfolding served_on
stops step at = refl

-- known bytes that are read, and that are written, one piece after the other

Consumes-on : (a b c : Option (List ℕ)) (xs ys : List ℕ) → Consumes a b xs → Consumes b c ys → Consumes a c (xs ++ ys)
Consumes-on None b c xs ys p q = tt
Consumes-on (Some x) None c xs ys p q = absurd p
Consumes-on (Some x) (Some y) None xs ys p q = absurd q
Consumes-on (Some x) (Some y) (Some z) xs ys p q = p ∙ ap (λ l. xs ++ l) q ∙ sym (append_assoc xs ys z)

Appends-on : (a b c : Option (List ℕ)) (xs ys : List ℕ) → Appends a b xs → Appends b c ys → Appends a c (xs ++ ys)
Appends-on None b c xs ys p q = tt
Appends-on (Some x) None c xs ys p q = absurd p
Appends-on (Some x) (Some y) None xs ys p q = absurd q
Appends-on (Some x) (Some y) (Some z) xs ys p q = q ∙ ap (λ l. l ++ ys) p ∙ append_assoc x xs ys

Consumes-none : (a : Option (List ℕ)) → Consumes a a []
Consumes-none None = tt
Consumes-none (Some x) = refl

Appends-none : (a : Option (List ℕ)) → Appends a a []
Appends-none None = tt
Appends-none (Some x) = sym (append-nil x)

-- nothing was told yet
pub begins : (step : Step) (unread written : Option (List ℕ)) (link : ServerLink) (hosted : Hosted) → IsAfter (talked step (begun link hosted)) unread unread written written link hosted
unfolding talked bytes_in
begins step unread written link hosted = record { pieces = []; read = Consumes-none unread; written = Appends-none written; is = refl }

-- what was said is written
pub says : (step : Step) (begin : Talk) (unread_old unread written_old written_mid written : Option (List ℕ)) (link new : ServerLink) (hosted : Hosted)
    → IsAfter (talked step begin) unread_old unread written_old written_mid link hosted → Appends written_mid written link.client.outgoing → new ≡ emptied link
    → IsAfter (all_said step begin) unread_old unread written_old written new hosted
says step begin unread_old unread written_old written_mid written link new hosted was more empty =
    let is : record { link = link; hosted = hosted } ≡ (talked step begin was.pieces).at = was.is in
    record {
      pieces = was.pieces;
      read = was.read;
      written = Appends-on written_old written_mid written (talked step begin was.pieces).written (talked step begin was.pieces).at.link.client.outgoing was.written (subst (λ (at : Stand). Appends written_mid written at.link.client.outgoing) is more);
      is = ap (λ (l : ServerLink). record { link = l; hosted = hosted }) empty ∙ ap (λ (at : Stand). record at { link = emptied at.link }) is;
    }

-- a piece is told
pub hears : (step : Step) (begin : Talk) (piece : List ℕ) (unread_old unread_mid unread written_old written : Option (List ℕ)) (link new : ServerLink) (hosted after : Hosted)
    → IsAfter (all_said step begin) unread_old unread_mid written_old written link hosted → Consumes unread_mid unread piece
    → record { link = new; hosted = after } ≡ heard step piece (record { link = link; hosted = hosted })
    → IsAfter (talked step begin) unread_old unread written_old written new after
unfolding talked bytes_in
hears step begin piece unread_old unread_mid unread written_old written link new hosted after was more is = record {
  pieces = piece ∷ was.pieces;
  read = Consumes-on unread_old unread_mid unread (bytes_in was.pieces) piece was.read more;
  written = was.written;
  is = is ∙ ap (λ (at : Stand). heard step piece at) was.is;
}

-- nothing is left to be read
pub ends : (step : Step) (begin : Talk) (unread_old unread_mid unread written_old written : Option (List ℕ)) (link : ServerLink) (hosted : Hosted)
    → IsAfter (all_said step begin) unread_old unread_mid written_old written link hosted → Consumes unread_mid unread []
    → IsAfter (all_said step begin) unread_old unread written_old written link hosted
ends step begin unread_old unread_mid unread written_old written link hosted was none = record {
  pieces = was.pieces;
  read = subst (λ bytes. Consumes unread_old unread bytes) (append-nil (bytes_in was.pieces)) (Consumes-on unread_old unread_mid unread (bytes_in was.pieces) [] was.read none);
  written = was.written;
  is = was.is;
}
