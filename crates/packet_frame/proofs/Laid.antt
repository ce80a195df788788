-- Where the bytes of joined packets stand.
use Rattle.std.proofs.Common.{◌≡◌, ◌≤◌, ℕ, zero, suc, ◌+◌, ◌-◌, ◌*◌, List, ◌++◌, length, take, drop, refl, ◌∙◌, sym, ap, arith, append_assoc, length-append, length-drop}
use Rattle.std.proofs.lemmas.List.{length-take-le, take-append-le, drop-append-le, drop-drop, drop-take, take_at, take-append-drop}
use Rattle.std.proofs.Math.Seq.{drop-append-add}
use lib.Seq.{paste}
use Rattle.packet_frame.specs.Packets.{longest}
use Rattle.packet_frame.specs.Joining.{joined_of, IsLaidOut, with_body}

-- the bytes that are left
pub left-length : (gone packets size : ℕ) (items : List ℕ) → IsLaidOut gone packets size items → 4 * packets + size ≤ length (drop gone items)
left-length gone packets size items at = omega (arith, length-drop gone items, at.there)

pub body-there : (packets size : ℕ) (bytes : List ℕ) → 4 * packets + size ≤ length bytes → size ≤ packets * longest → length (take size (drop 4 bytes)) ≡ size
body-there packets zero bytes there most = refl
body-there packets (suc size) bytes there most = length-take-le (suc size) (drop 4 bytes) (omega (arith, length-drop 4 bytes))

pub laid-size : (gone packets size : ℕ) (items : List ℕ) → IsLaidOut gone packets size items → length (take size (drop 4 (drop gone items))) ≡ size
laid-size gone packets size items at = body-there packets size (drop gone items) (left-length gone packets size items at) at.most

-- more bytes come
body-stays : (packets size : ℕ) (bytes more : List ℕ) → 4 * packets + size ≤ length bytes → size ≤ packets * longest → take size (drop 4 (bytes ++ more)) ≡ take size (drop 4 bytes)
body-stays packets zero bytes more there most = refl
body-stays packets (suc size) bytes more there most =
    ap (take (suc size)) (drop-append-le 4 bytes more (omega arith)) ∙ take-append-le (suc size) (drop 4 bytes) more (omega (arith, length-drop 4 bytes))

pub laid-more : (gone packets first size : ℕ) (items more : List ℕ) → IsLaidOut gone packets size items
    → joined_of packets first size (drop gone (items ++ more)) ≡ record (joined_of packets first size (drop gone items)) { rest = drop (4 * packets + size) (drop gone items) ++ more }
laid-more gone packets first size items more at =
    let left = left-length gone packets size items at in
    ap (joined_of packets first size) (drop-append-le gone items more (omega (arith, at.there)))
    ∙ cc (body-stays packets size (drop gone items) more left at.most, drop-append-le (4 * packets + size) (drop gone items) more left)

-- what follows the packets
pub laid-rest : (gone packets size : ℕ) (items : List ℕ) → drop (gone + (4 * packets + size)) items ≡ drop (4 * packets + size) (drop gone items)
laid-rest gone packets size items = sym (drop-drop (4 * packets + size) gone items)

-- what a list holds where one was written over another
over-front : (at size n : ℕ) (items body behind : List ℕ) → at + size ≤ length items → length body ≡ n → take (size + n) (drop at (take (at + size) items ++ body ++ behind)) ≡ take size (drop at items) ++ body
over-front at size n items body behind there is =
    let front : length (take (at + size) items) ≡ at + size = length-take-le (at + size) items there in
    let part : length (take size (drop at items)) ≡ size = length-take-le size (drop at items) (omega (arith, length-drop at items)) in
    let opened : drop at (take (at + size) items ++ body ++ behind) ≡ (take size (drop at items) ++ body) ++ behind =
    ap (drop at) (append_assoc (take (at + size) items) body behind) ∙ drop-append-le at (take (at + size) items) (body ++ behind) (omega (arith, front))
    ∙ ap (λ xs. xs ++ (body ++ behind)) (drop-take at size items) ∙ sym (append_assoc (take size (drop at items)) body behind) in
    ap (take (size + n)) opened ∙ take_at (take size (drop at items) ++ body) behind (size + n) (omega (arith, length-append (take size (drop at items)) body, part, is))

over-behind : (at n more : ℕ) (items body : List ℕ) → at ≤ length items → length body ≡ n → drop (at + n + more) (take at items ++ body ++ drop (at + n) items) ≡ drop (at + n + more) items
over-behind at n more items body there is =
    let front : length (take at items ++ body) ≡ at + n = omega (arith, length-append (take at items) body, length-take-le at items there, is) in
    ap (λ k. drop (k + more) (take at items ++ body ++ drop (at + n) items)) (sym front)
    ∙ drop-append-add (take at items ++ body) (drop (at + n) items) more ∙ drop-drop more (at + n) items

-- the next packet's body is moved behind those that are joined
pub laid-joined : (gone packets first size body : ℕ) (items : List ℕ) → IsLaidOut gone packets size items → 4 + body ≤ length (drop (4 * packets + size) (drop gone items))
    → joined_of (packets + 1) first (size + body) (drop gone (paste items (gone + 4 + size) (drop (gone + (4 * packets + size) + 4) items) body)) ≡ with_body body (joined_of packets first size (drop gone items))
laid-joined gone packets first size body items at whole =
    let from : ℕ = gone + (4 * packets + size) + 4 in
    let moved : List ℕ = take body (drop from items) in
    let left : length (drop (4 * packets + size) (drop gone items)) ≡ length items - gone - (4 * packets + size) = length-drop (4 * packets + size) (drop gone items) ∙ ap (λ n. n - (4 * packets + size)) (length-drop gone items) in
    let there : from + body ≤ length items = omega (arith, left, at.there) in
    let long : length moved ≡ body = length-take-le body (drop from items) (omega (arith, length-drop from items)) in
    let now : List ℕ = paste items (gone + 4 + size) (drop from items) body in
    let body_at : drop 4 (drop (4 * packets + size) (drop gone items)) ≡ drop from items =
    ap (drop 4) (drop-drop (4 * packets + size) gone items) ∙ drop-drop 4 (gone + (4 * packets + size)) items in
    let payload : take (size + body) (drop 4 (drop gone now)) ≡ take size (drop 4 (drop gone items)) ++ take body (drop 4 (drop (4 * packets + size) (drop gone items))) =
    ap (take (size + body)) (drop-drop 4 gone now)
    ∙ over-front (gone + 4) size body items moved (drop (gone + 4 + size + body) items) (omega (arith, there)) long
    ∙ ap (λ xs. take size xs ++ moved) (sym (drop-drop 4 gone items)) ∙ ap (λ xs. take size (drop 4 (drop gone items)) ++ take body xs) (sym body_at) in
    let far : gone + (4 * (packets + 1) + (size + body)) ≡ gone + 4 + size + body + 4 * packets = omega arith in
    let end : gone + 4 + size + body + 4 * packets ≡ gone + (4 * packets + size) + (4 + body) = omega arith in
    let rest : drop (4 * (packets + 1) + (size + body)) (drop gone now) ≡ drop (4 + body) (drop (4 * packets + size) (drop gone items)) =
    drop-drop (4 * (packets + 1) + (size + body)) gone now ∙ ap (λ n. drop n now) far
    ∙ over-behind (gone + 4 + size) body (4 * packets) items moved (omega (arith, there)) long
    ∙ ap (λ n. drop n items) end
    ∙ sym (drop-drop (4 + body) (gone + (4 * packets + size)) items) ∙ ap (drop (4 + body)) (laid-rest gone packets size items) in
    cc (payload, rest)

pub laid-again : (gone packets size body : ℕ) (items now : List ℕ) → IsLaidOut gone packets size items → body ≤ longest → 4 + body ≤ length (drop (4 * packets + size) (drop gone items)) → length now ≡ length items → IsLaidOut gone (packets + 1) (size + body) now
laid-again gone packets size body items now at most whole same =
    let left : length (drop (4 * packets + size) (drop gone items)) ≡ length items - gone - (4 * packets + size) = length-drop (4 * packets + size) (drop gone items) ∙ ap (λ n. n - (4 * packets + size)) (length-drop gone items) in
    record { there = omega (arith, left, at.there, same); most = omega (arith, at.most, most) }

-- and where it stands there already
pub paste-same : (at n : ℕ) (items : List ℕ) → items ≡ paste items at (drop at items) n
paste-same at n items =
    sym (append_assoc (take at items) (take n (drop at items)) (drop (at + n) items)
    ∙ ap (λ xs. take at items ++ (take n (drop at items) ++ xs)) (sym (drop-drop n at items))
    ∙ ap (λ xs. take at items ++ xs) (take-append-drop n (drop at items))
    ∙ take-append-drop at items)
