-- What a tracker reads in each kind of payload.
use Rattle.std.proofs.Common.{◌≡◌, ◌≢◌, ◌≤◌, ◌<◌, ℕ, ◌+◌, ◌-◌, ◌*◌, ◌/◌, ◌%◌, true, false, nat_eq, Some, List, [], ◌∷◌, ◌++◌, length, take, refl, ◌∙◌, sym, ap, subst, arith, length-append}
use Rattle.std.proofs.lemmas.Bool.{le-leb}
use Rattle.std.proofs.lemmas.Bool.Decides.{nat_tests}
use Rattle.std.proofs.lemmas.List.{take_all, drop_all}
use Rattle.std.proofs.Math.Seq.{take-append-add}
use Rattle.packet_frame.specs.Packets.{longest}
use Rattle.reply_track.specs.declared.due.Due.{Due}
use Rattle.reply_track.specs.declared.due.Due.TheVariants.{Result as ResultDue, Answer, Listing, Definition, End, Row, Field}
use Rattle.reply_track.specs.declared.due.Next.{Next}
use Rattle.reply_track.specs.declared.due.Next.TheVariants.{Ends}
use Rattle.reply_track.specs.declared.head.Eof.{Eof}
use Rattle.reply_track.specs.declared.head.Cell.TheVariants.{ErrMark}
use Rattle.reply_track.specs.declared.head.Number.TheVariants.{Rows as RowsNumber, Insert, Flags, Code, Eof as EofNumber, Count}
use Rattle.reply_track.specs.declared.body.Body.{Body}
use Rattle.reply_track.specs.declared.body.Body.TheVariants.{Due as DueBody, Cell as CellBody, Rest}
use Rattle.reply_track.specs.Payloads.{IsTwo, IsErr, IsEof, err_end}
use Rattle.reply_track.specs.Steps.{taken, takes_err, is_short, eof_of, after_plain, after_eof, number_of, number_read, four_bytes}
use Rattle.reply_track.proofs.Crossing.{TakesLength, read_body, made_body}
use Rattle.reply_track.proofs.Messages.{part_read, rest-read, rest-made, Reads}
use Rattle.reply_track.proofs.Feeding.{Feeds, feed, feed-more, IsQuiet, feed-number, shifted_all, two-read, four-read}

pub is_not : (a b : ℕ) → a ≢ b → nat_eq a b ≡ false
is_not a b other = grind (arith, nat_tests)

-- the length of a payload fits where it has to be so long
long_enough : (due : Due) (n : ℕ) → takes_err due ≡ true → 9 ≤ n → TakesLength (DueBody due) n
long_enough ResultDue n may long = record { low = refl; lower = refl; whole = grind (arith, nat_tests) }
long_enough Answer n may long = record { low = refl; lower = refl; whole = le-leb 9 n long }
long_enough Listing n may long = record { low = refl; lower = refl; whole = refl }
long_enough (Definition left behind) n may long = absurd (cc)
long_enough (End behind) n may long = absurd (cc)
long_enough Row n may long = record { low = refl; lower = refl; whole = refl }
long_enough Field n may long = absurd (cc)

pub result_long : (n : ℕ) → 7 ≤ n → TakesLength (DueBody ResultDue) n
result_long n long = record { low = refl; lower = refl; whole = grind (arith, nat_tests) }

short_enough : (due : Due) (eof : Eof) (n : ℕ) → eof_of due ≡ Some eof → 5 ≤ n → n < 9 → TakesLength (DueBody due) n
short_enough ResultDue eof n may least most = absurd (cc)
short_enough Answer eof n may least most = absurd (cc)
short_enough Listing eof n may least most = record { low = refl; lower = refl; whole = refl }
short_enough (Definition left behind) eof n may least most = absurd (cc)
short_enough (End behind) eof n may least most =
    let small : n % 256 ≡ n = omega arith in
    let none : n / 256 % 256 ≡ 0 = omega arith in
    let is : is_short n ≡ true = rw (le-leb 5 n least, le-leb n 8 (omega arith)) refl in
    let lower : n % 256 + 256 * (n / 256 % 256) ≡ n = omega arith in
    record { low = rw small is; lower = rw lower is; whole = is }
short_enough Row eof n may least most = record { low = refl; lower = refl; whole = refl }
short_enough Field eof n may least most = record { low = refl; lower = refl; whole = refl }

pub any_plain : (due next : Due) (n : ℕ) → after_plain due ≡ Some next → TakesLength (DueBody due) n
any_plain ResultDue next n may = absurd (cc)
any_plain Answer next n may = absurd (cc)
any_plain Listing next n may = record { low = refl; lower = refl; whole = refl }
any_plain (Definition left behind) next n may = record { low = refl; lower = refl; whole = refl }
any_plain (End behind) next n may = absurd (cc)
any_plain Row next n may = record { low = refl; lower = refl; whole = refl }
any_plain Field next n may = record { low = refl; lower = refl; whole = refl }

-- a payload whose first bytes say all
pub record IsFront (due : Due) (number : ℕ) (front : List ℕ) (next : Next) : Type 0 where
  pub some : 0 < length front
  pub short : length front < 100
  pub takes : (n : ℕ) → length front ≤ n → TakesLength (DueBody due) n
  pub feeds : (rest : List ℕ) → Feeds (DueBody due) number front front (Rest next) rest

pub part_some : (body : Body) (bytes : List ℕ) → 0 < length bytes → part_read body bytes ≡ read_body body bytes
part_some body [] some = absurd (omega arith)
part_some body (b ∷ bytes) some = refl

pub front_reads : (due : Due) (number : ℕ) (front info : List ℕ) (next : Next) → IsFront due number front next → Reads due number (front ++ info) (front ++ info) next
front_reads due number front info next is =
    let more : ℕ = longest - length front in
    let place : length front + more ≡ longest = omega (arith, is.short) in
    let part : take longest (front ++ info) ≡ front ++ take more info = ap (λ n. take n (front ++ info)) (sym place) ∙ take-append-add front info more in
    let feeds = is.feeds (take more info) in
    let size : length front ≤ length (front ++ take more info) = omega (arith, length-append front (take more info)) in
    let read : part_read (DueBody due) (front ++ take more info) ≡ Some (Rest next) = part_some (DueBody due) (front ++ take more info) (omega (arith, is.some, size)) ∙ feeds.reads ∙ rest-read next (take more info) in
    let made : made_body (DueBody due) number (front ++ take more info) ≡ front ++ take more info = feeds.makes ∙ ap (λ bs. front ++ bs) (rest-made next number (take more info)) in
    record {
      takes = subst (λ bs. TakesLength (DueBody due) (length bs)) (sym part) (is.takes (length (front ++ take more info)) size);
      reads = subst (λ bs. part_read (DueBody due) bs ≡ Some (Rest next)) (sym part) read;
      makes = subst (λ bs. made_body (DueBody due) number bs ≡ bs) (sym part) made;
      others = refl;
      same = refl;
    }

-- a payload of one packet
pub record PartReads (due : Due) (number : ℕ) (part made : List ℕ) (next : Next) : Type 0 where
  pub takes : TakesLength (DueBody due) (length part)
  pub reads : part_read (DueBody due) part ≡ Some (Rest next)
  pub makes : made_body (DueBody due) number part ≡ made

pub short_reads : (due : Due) (number : ℕ) (payload handed : List ℕ) (next : Next) → length payload < 100 → length payload ≡ length handed → PartReads due number payload handed next → Reads due number payload handed next
short_reads due number payload handed next short same part =
    let whole : take longest payload ≡ payload = take_all longest payload (omega arith) in
    let whole_handed : take longest handed ≡ handed = take_all longest handed (omega arith) in
    record {
      takes = subst (λ bs. TakesLength (DueBody due) (length bs)) (sym whole) part.takes;
      reads = subst (λ bs. part_read (DueBody due) bs ≡ Some (Rest next)) (sym whole) part.reads;
      makes = ap (made_body (DueBody due) number) whole ∙ part.makes ∙ sym whole_handed;
      others = rw (drop_all longest payload (omega arith), drop_all longest handed (omega arith)) refl;
      same = same;
    }

-- an ERR
rest_feeds : (next : Next) (number : ℕ) (bytes rest : List ℕ) → Feeds (Rest next) number bytes bytes (Rest next) rest
rest_feeds next number [] rest = record { reads = refl; makes = refl }
rest_feeds next number (b ∷ bytes) rest = let others = rest_feeds next number bytes rest in record { reads = others.reads; makes = ap (λ bs. b ∷ bs) others.makes }

quiet_code : IsQuiet Code
quiet_code number left byte = refl

quiet_eof : (eof : Eof) → IsQuiet (EofNumber eof)
quiet_eof eof number left byte = refl

pub quiet_count : (size : ℕ) → IsQuiet (Count size)
quiet_count size number left byte = refl

pub quiet_flags : (insert_id : ℕ) → IsQuiet (Flags insert_id)
quiet_flags insert_id number left byte = refl

pub quiet_rows : IsQuiet RowsNumber
quiet_rows number left byte = refl

pub quiet_insert : (size : ℕ) → IsQuiet (Insert size)
quiet_insert size number left byte = refl

err_front : (due : Due) (number a b code : ℕ) (state : List ℕ) → takes_err due ≡ true → IsTwo a b code → length state ≡ 5 → IsFront due number (255 ∷ a ∷ b ∷ 35 ∷ state) (Ends (err_end code))
err_front due number a b code state may is five = record {
  some = omega arith;
  short = omega arith;
  takes = λ n most. long_enough due n may (omega arith);
  feeds = λ rest.
      let next : Next = Ends (err_end code) in
      let long : ℕ = length (255 ∷ ((a ∷ b ∷ 35 ∷ state) ++ rest)) in
      let first : taken (DueBody due) long 255 ≡ Some (number_of Code 2) = rw (may, le-leb 9 long (omega (arith, length-append state rest))) refl in
      let read : number_read Code (shifted_all 0 (a ∷ b ∷ [])) ≡ Some (CellBody (ErrMark code)) = ap (λ n. Some (CellBody (ErrMark n))) (two-read a b ∙ sym is.is) in
      feed-more (DueBody due) (number_of Code 2) (Rest next) number (255 ∷ []) (255 ∷ []) (a ∷ b ∷ 35 ∷ state) (a ∷ b ∷ 35 ∷ state) rest (feed (DueBody due) (number_of Code 2) number 255 ((a ∷ b ∷ 35 ∷ state) ++ rest) first)
      (feed-more (number_of Code 2) (CellBody (ErrMark code)) (Rest next) number (a ∷ b ∷ []) (a ∷ b ∷ []) (35 ∷ state) (35 ∷ state) rest (feed-number Code (CellBody (ErrMark code)) number ((35 ∷ state) ++ rest) (b ∷ []) a 0 quiet_code read)
      (feed-more (CellBody (ErrMark code)) (Rest next) (Rest next) number (35 ∷ []) (35 ∷ []) state state rest (feed (CellBody (ErrMark code)) (Rest next) number 35 (state ++ rest) refl) (rest_feeds next number state rest)));
}

pub err-reads : (due : Due) (number : ℕ) (payload : List ℕ) (code : ℕ) → takes_err due ≡ true → IsErr payload code → Reads due number payload payload (Ends (err_end code))
err-reads due number payload code may err =
    rw err.is (front_reads due number (255 ∷ err.a ∷ err.b ∷ 35 ∷ err.state) err.message (Ends (err_end code)) (err_front due number err.a err.b code err.state may err.error_code err.sql_state))

-- an EOF
pub eof-reads : (due : Due) (eof : Eof) (number : ℕ) (payload : List ℕ) (flags warnings : ℕ) → eof_of due ≡ Some eof → IsEof payload flags warnings → Reads due number payload payload (after_eof eof flags warnings)
eof-reads due eof number payload flags warnings may is =
    let w : ℕ = is.w in
    let v : ℕ = is.v in
    let f : ℕ = is.f in
    let g : ℕ = is.g in
    let next : Next = after_eof eof flags warnings in
    let long : ℕ = length (254 ∷ w ∷ v ∷ f ∷ g ∷ is.more) in
    let size : length payload ≡ long = ap length is.is in
    let most : long < 9 = omega (arith, size, is.short) in
    let short : is_short long ≡ true = rw (le-leb 5 long (omega arith), le-leb long 8 (omega arith)) refl in
    let first : taken (DueBody due) long 254 ≡ Some (number_of (EofNumber eof) 4) = rw (short, may) refl in
    let all : four_bytes (shifted_all 0 (w ∷ v ∷ f ∷ g ∷ [])) ≡ w + 256 * (v + 256 * (f + 256 * g)) = four-read w v f g in
    let low : four_bytes (shifted_all 0 (w ∷ v ∷ f ∷ g ∷ [])) % 65536 ≡ warnings = rw all (omega (arith, is.warning_count.low, is.warning_count.high, is.warning_count.is)) in
    let high : four_bytes (shifted_all 0 (w ∷ v ∷ f ∷ g ∷ [])) / 65536 ≡ flags = rw all (omega (arith, is.warning_count.low, is.warning_count.high, is.status_flags.is)) in
    let read : number_read (EofNumber eof) (shifted_all 0 (w ∷ v ∷ f ∷ g ∷ [])) ≡ Some (Rest next) = cc (low, high) in
    let feeds : Feeds (DueBody due) number (254 ∷ w ∷ v ∷ f ∷ g ∷ []) (254 ∷ w ∷ v ∷ f ∷ g ∷ []) (Rest next) is.more =
    feed-more (DueBody due) (number_of (EofNumber eof) 4) (Rest next) number (254 ∷ []) (254 ∷ []) (w ∷ v ∷ f ∷ g ∷ []) (w ∷ v ∷ f ∷ g ∷ []) is.more (feed (DueBody due) (number_of (EofNumber eof) 4) number 254 (w ∷ v ∷ f ∷ g ∷ is.more) first)
    (feed-number (EofNumber eof) (Rest next) number is.more (v ∷ f ∷ g ∷ []) w 0 (quiet_eof eof) read) in
    rw is.is (short_reads due number (254 ∷ w ∷ v ∷ f ∷ g ∷ is.more) (254 ∷ w ∷ v ∷ f ∷ g ∷ is.more) next (omega arith) refl (record {
      takes = short_enough due eof long may (omega arith) most;
      reads = feeds.reads ∙ rest-read next is.more;
      makes = feeds.makes ∙ ap (λ bs. 254 ∷ w ∷ v ∷ f ∷ g ∷ bs) (rest-made next number is.more);
    }))
