-- What a tracker reads in a definition or a row, a column count, an OK and the answer to a prepare.
use Rattle.std.proofs.Common.{◌≡◌, ◌≢◌, ◌≤◌, ◌<◌, ℕ, ◌+◌, ◌*◌, false, ◌&&◌, nat_eq, Some, List, [], ◌∷◌, ◌++◌, length, take, refl, ◌∙◌, sym, ap, arith, append-nil, min, lit<}
use Rattle.std.proofs.lemmas.Bool.{le-leb}
use Rattle.std.proofs.lemmas.Bool.Decides.{nat_tests}
use Rattle.std.proofs.lemmas.List.{take_all, get_or-take, length-take}
use Rattle.mx_base.specs.Fields.{little_endian}
use Rattle.packet_frame.specs.Packets.{longest}
use Rattle.reply_track.specs.declared.due.Due.{Due}
use Rattle.reply_track.specs.declared.due.Due.TheVariants.{Result as ResultDue, Answer, Listing, Definition, End, Row, Field}
use Rattle.reply_track.specs.declared.due.Behind.TheVariants.{Rows as RowsBehind}
use Rattle.reply_track.specs.declared.due.Next.TheVariants.{Goes}
use Rattle.reply_track.specs.declared.head.Cell.TheVariants.{CountZero}
use Rattle.reply_track.specs.declared.head.Number.TheVariants.{Count}
use Rattle.reply_track.specs.declared.body.Body.{Body}
use Rattle.reply_track.specs.declared.body.Body.TheVariants.{Due as DueBody, Cell as CellBody, Rest}
use Rattle.reply_track.specs.Payloads.{IsPlain}
use Rattle.reply_track.specs.Steps.{taken, opened, opened_by, rest_due, is_short, after_plain, number_of, count_taken, number_read, two_bytes}
use Rattle.reply_track.proofs.Crossing.{TakesLength, read_body, made_body}
use Rattle.reply_track.proofs.Messages.{rest-read, rest-made, Reads}
use Rattle.reply_track.proofs.Feeding.{Feeds, feed, feed-more, feed-number, shifted_all, two-read}
use Rattle.reply_track.proofs.Classes.{is_not, any_plain, PartReads, quiet_count}

-- a definition or a row
plain_taken : (due next : Due) (n b : ℕ) → after_plain due ≡ Some next → b ≢ 255 → (b ≡ 254 → 5 ≤ n → n < 9 → ⊥) → opened due n b ≡ Some (Rest (Goes next))
plain_taken due next n b may no_err no_eof = rw (is_not b 255 no_err, not_short) (by due may) where
  not_short : (nat_eq b 254 && is_short n) ≡ false
  not_short = grind (arith, nat_tests)

  by : (due : Due) → after_plain due ≡ Some next → opened_by due n b ≡ Some (Rest (Goes next))
  by ResultDue may = absurd (cc)
  by Answer may = absurd (cc)
  by Listing may = ap rest_due may
  by (Definition left behind) may = ap rest_due may
  by (End behind) may = absurd (cc)
  by Row may = ap rest_due may
  by Field may = ap rest_due may

plain_part : (due next : Due) (number : ℕ) (part : List ℕ) → after_plain due ≡ Some next → IsPlain part → PartReads due number part part (Goes next)
plain_part due next number [] may plain = record { takes = any_plain due next 0 may; reads = ap rest_due may; makes = refl }
plain_part due next number (b ∷ bytes) may plain =
    let first = plain_taken due next (length (b ∷ bytes)) b may plain.no_err (λ is least most. plain.no_eof bytes (ap (λ x. x ∷ bytes) is) least most) in
    let feeds = feed (DueBody due) (Rest (Goes next)) number b bytes first in
    record {
      takes = any_plain due next (length (b ∷ bytes)) may;
      reads = feeds.reads ∙ rest-read (Goes next) bytes;
      makes = feeds.makes ∙ ap (λ bs. b ∷ bs) (rest-made (Goes next) number bytes);
    }

plain_front : (payload : List ℕ) → IsPlain payload → IsPlain (take longest payload)
plain_front payload plain = record {
  no_err = rw (get_or-take longest payload 0 0 (lit< tt)) plain.no_err;
  no_eof = λ bytes is least most.
      let size : length (take longest payload) ≡ min longest (length payload) = length-take longest payload in
      let whole : take longest payload ≡ payload = take_all longest payload (omega arith) in
      plain.no_eof bytes (sym whole ∙ is) (rw whole at least) (rw whole at most);
}

pub plain-reads : (due next : Due) (number : ℕ) (payload : List ℕ) → after_plain due ≡ Some next → IsPlain payload → Reads due number payload payload (Goes next)
plain-reads due next number payload may plain =
    let part = plain_part due next number (take longest payload) may (plain_front payload plain) in
    record { takes = part.takes; reads = part.reads; makes = part.makes; others = refl; same = refl }

-- a column count
pub one_taken : (b : ℕ) → 0 < b → b < 251 → opened ResultDue 1 b ≡ Some (count_taken b 0)
one_taken b some small = rw (is_not b 255 (λ is. omega arith), is_not b 254 (λ is. omega arith), is_not b 0 (λ is. omega arith), le-leb b 250 (omega arith)) refl

-- the high bytes of a column count are zeros
zeros_feed : (number n : ℕ) (bytes : List ℕ) → little_endian bytes ≡ 0 → Feeds (count_taken n (length bytes)) number bytes bytes (Rest (Goes (Definition n RowsBehind))) []
zeros_feed number n [] none = record { reads = refl; makes = refl }
zeros_feed number n (b ∷ bytes) none =
    let is : b ≡ 0 = omega arith in
    let others : little_endian bytes ≡ 0 = omega arith in
    let rest = zeros_feed number n bytes others in
    let start : count_taken n (length (b ∷ bytes)) ≡ CellBody (CountZero n (length bytes)) = rw (is_not (length (b ∷ bytes)) 0 (λ e. omega arith)) (ap (λ k. CellBody (CountZero n k)) (omega arith)) in
    let step : taken (CellBody (CountZero n (length bytes))) (length (b ∷ bytes ++ [])) b ≡ Some (count_taken n (length bytes)) = rw is refl in
    let next : Body = Rest (Goes (Definition n RowsBehind)) in
    rw start (feed-more (CellBody (CountZero n (length bytes))) (count_taken n (length bytes)) next number (b ∷ []) (b ∷ []) bytes bytes [] (feed (CellBody (CountZero n (length bytes))) (count_taken n (length bytes)) number b (bytes ++ []) step) rest)

pub count_part : (number first size n a b : ℕ) (bytes : List ℕ) → opened ResultDue (length (first ∷ a ∷ b ∷ bytes)) first ≡ Some (number_of (Count (length bytes)) 2) → n ≡ little_endian (a ∷ b ∷ bytes) → 0 < n → n < 65536
    → TakesLength (DueBody ResultDue) (length (first ∷ a ∷ b ∷ bytes)) → PartReads ResultDue number (first ∷ a ∷ b ∷ bytes) (first ∷ a ∷ b ∷ bytes) (Goes (Definition n RowsBehind))
count_part number first size n a b bytes opens is some most takes =
    let high : little_endian bytes ≡ 0 = omega arith in
    let low : a + 256 * b ≡ n = omega (arith, high) in
    let two : two_bytes (shifted_all 0 (a ∷ b ∷ [])) ≡ n = two-read a b ∙ low in
    let more : Body = count_taken n (length bytes) in
    let next : Body = Rest (Goes (Definition n RowsBehind)) in
    let read : number_read (Count (length bytes)) (shifted_all 0 (a ∷ b ∷ [])) ≡ Some more = rw (two, is_not n 0 (λ e. omega arith)) refl in
    let one = feed (DueBody ResultDue) (number_of (Count (length bytes)) 2) number first ((a ∷ b ∷ bytes) ++ []) (rw (append-nil bytes) opens) in
    let numbers = feed-number (Count (length bytes)) more number (bytes ++ []) (b ∷ []) a 0 (quiet_count (length bytes)) read in
    let feeds : Feeds (DueBody ResultDue) number (first ∷ a ∷ b ∷ bytes) (first ∷ a ∷ b ∷ bytes) next [] =
    feed-more (DueBody ResultDue) (number_of (Count (length bytes)) 2) next number (first ∷ []) (first ∷ []) (a ∷ b ∷ bytes) (a ∷ b ∷ bytes) [] one
    (feed-more (number_of (Count (length bytes)) 2) more next number (a ∷ b ∷ []) (a ∷ b ∷ []) bytes bytes [] numbers (zeros_feed number n bytes high)) in
    record {
      takes = takes;
      reads = ap (λ bs. read_body (DueBody ResultDue) (first ∷ a ∷ b ∷ bs)) (sym (append-nil bytes)) ∙ feeds.reads;
      makes = ap (λ bs. made_body (DueBody ResultDue) number (first ∷ a ∷ b ∷ bs)) (sym (append-nil bytes)) ∙ feeds.makes ∙ ap (λ bs. first ∷ a ∷ b ∷ bs) (append-nil bytes);
    }
