-- The steps of a reply: entries one after the other, filling to 8 bytes, and two first bytes before a part that was written. Assumes nothing.
use mathlib.Core.Path.{◌≡◌, refl, sym, ap, ◌∙◌}
use mathlib.Core.List.{List, [], ◌∷◌, ◌++◌, append-nil, append_assoc}
use Prim.Native.Nat.{ℕ, ◌+◌, ◌-◌, ◌*◌, ◌≤◌, ◌<◌, zero-le}
use native.Mathlib.Numerals.{add-one}
use native.Mathlib.Omega.{arith}
use lib.ListN.{length, get_or, set, take, drop, replicate, length-append, length-drop, length-replicate, drop_of_length-le, take-append-drop}
use lib.Seq.{take_at, drop_at, take_all, take-suc, take-append-add, drop-drop, sets, length-take-le}
use Rattle.storage.specs.Bytes.{bytes_of}
use Rattle.storage.proofs.Bytes.{bytes_of_length}
use Rattle.filter.specs.Filter.{filter_of, reported_mode, Counting}
use Rattle.entries.specs.Entries.{reported}
use Rattle.entries.proofs.Reported.{reported_long, reported_append}
use Rattle.addresses.specs.Table.{table_of, addresses_on}
use Rattle.addresses.specs.Calls.{Listing}
use Rattle.network_message.specs.Decoding.{longest}
use Rattle.replies.specs.Replies.{filled, list_body, Writing}
use Rattle.replies.proofs.Laying.{Laid, laid_none, laid_more, laid_front, laid_over}

-- ---- entries
reported_more : (es : List ℕ) (i : ℕ) → i < length es → reported (take (i + 1) es) ≡ reported (take i es) ++ bytes_of 3 (get_or es i 0)
unfolding reported
reported_more es i h = rw (add-one i, take-suc es i 0 h, reported_append (take i es) (get_or es i 0 ∷ [])) (ap (λ l. reported (take i es) ++ l) (append-nil (bytes_of 3 (get_or es i 0))))

-- after i entries, which stand past the first byte
pub record Entered (es s x : List ℕ) (i : ℕ) : Type 0 where
  pub within : i ≤ length es
  pub laid : Laid (take 1 s ++ reported (take i es)) s x

entered_long : (es s : List ℕ) (i : ℕ) → 1 ≤ length s → i ≤ length es → length (take 1 s ++ reported (take i es)) ≡ 1 + 3 * i
entered_long es s i h l =
    rw (length-append (take 1 s) (reported (take i es)), length-take-le 1 s h, reported_long (take i es), length-take-le i es l)

pub entered_none : {es s : List ℕ} → 1 ≤ length s → Entered es s s 0
unfolding reported
entered_none {es} {s} h =
    let e : take 1 s ++ [] ≡ take 1 s = append-nil (take 1 s) in
    record {
      within = zero-le;
      laid = record {
        written = rw (e, length-take-le 1 s h) (sym (take-append-drop 1 s));
        inside = rw (e, length-take-le 1 s h) h;
      };
    }

module _ {es s x : List ℕ} {i : ℕ} (room : 1 + 3 * length es ≤ length s) (E : Entered es s x i) where
  pub entered_one : i < length es → Entered es s (sets x (1 + 3 * i) (bytes_of 3 (get_or es i 0))) (i + 1)
  entered_one h =
      let more = bytes_of 3 (get_or es i 0) in
      let L = laid_more E.laid more (sym (entered_long es s i (omega arith) E.within)) (rw (bytes_of_length 3 (get_or es i 0)) (omega arith)) in
      record {
        within = omega arith;
        laid = rw (reported_more es i h, ← (append_assoc (take 1 s) (reported (take i es)) more)) L;
      }

-- all of a pair's entries, and its mode before them
pub list_written : {words s x : List ℕ} {m n i : ℕ} → Counting words n → m ≡ reported_mode (filter_of words).mode → 97 ≤ length s → n ≤ i → Entered (filter_of words).entries (set s 0 m) x i → Writing (list_body (filter_of words)) s x 97 (1 + 3 * n)
unfolding list_body
list_written {words} {s} {x} {m} {n} {i} C e room h E =
    let es = (filter_of words).entries in
    let head : Laid (m ∷ []) s (set s 0 m) = laid_more laid_none (m ∷ []) refl (omega arith) in
    let bytes : take 1 (set s 0 m) ++ reported (take i es) ≡ m ∷ reported es = rw (laid_front head refl, take_all i es (omega (arith, C.number))) in
    rw (← e)
    (laid_over head (omega arith) (record {
      written = rw bytes at E.laid.written;
      answer = omega (arith, reported_long es, C.number);
      small = omega (arith, C.small);
    }))

-- ---- filling
pub filled_long : (bytes : List ℕ) → length (filled bytes) ≡ length bytes + (8 - length bytes)
unfolding filled
filled_long bytes = rw (length-append bytes (replicate (8 - length bytes) 255), length-replicate {A = ℕ} (8 - length bytes) 255)

-- the first n bytes, and filling up to `at`
-- n bytes that are filled to 8, or stand as they are
filled_length : (s : List ℕ) (n : ℕ) → n ≤ length s → length (filled (take n s)) ≡ n + (8 - n)
unfolding filled
filled_length s n h =
    rw (length-take-le n s h, length-append (take n s) (replicate (8 - n) 255), length-take-le n s h, length-replicate {A = ℕ} (8 - n) 255)

pub filled_none : (s : List ℕ) (n : ℕ) → 8 ≤ n → n ≤ length s → Writing (filled (take n s)) s s (n + 8) n
unfolding filled
filled_none s n all fits =
    let z : 8 - n ≡ 0 = omega arith in
    let l : length (take n s ++ replicate (8 - length (take n s)) 255) ≡ n = filled_length s n fits ∙ omega arith in
    record {
      written = rw l (rw (length-take-le n s fits, z, append-nil (take n s)) (sym (take-append-drop n s)));
      answer = sym l;
      small = omega arith;
    }

pub filled_some : (s : List ℕ) (n : ℕ) {x : List ℕ} → n < 8 → 8 ≤ length s → x ≡ replicate (length (take (8 - n) (drop n s))) 255
    → Writing (filled (take n s)) s (take n s ++ (x ++ drop (8 - n) (drop n s))) (n + 8) 8
unfolding filled
filled_some s n few room e =
    let l : length (take n s ++ replicate (8 - length (take n s)) 255) ≡ n + (8 - n) = filled_length s n (omega arith) in
    record {
      written =
          rw l (rw (e, length-take-le (8 - n) (drop n s) (rw (length-drop n s) (omega arith)), length-take-le n s (omega arith), drop-drop (8 - n) n s)
          (sym (append_assoc (take n s) (replicate (8 - n) 255) (drop (n + (8 - n)) s))));
      answer = rw l (omega arith);
      small = omega arith;
    }

-- ---- two first bytes, and what stands after them
pub finished : (s : List ℕ) (a b : ℕ) {last : List ℕ} {n r : ℕ} → n ≤ 254 → 2 + n ≤ length s → Writing (filled (take (2 + n) (set (set s 0 a) 1 b))) (set (set s 0 a) 1 b) last (2 + n + 8) r → Writing (filled (a ∷ b ∷ take n (drop 2 s))) s last longest r
finished s a b {last} {n} {r} small fits W =
    let head : Laid (a ∷ b ∷ []) s (set (set s 0 a) 1 b) = laid_more laid_none (a ∷ b ∷ []) refl (omega arith) in
    let bytes : take (2 + n) (set (set s 0 a) 1 b) ≡ a ∷ b ∷ take n (drop 2 s) = rw head.written (take-append-add (a ∷ b ∷ []) (drop 2 s) n) in
    let over = laid_over head (rw (filled_long (take (2 + n) (set (set s 0 a) 1 b))) (omega arith)) W in
    rw (← bytes) (record { written = over.written; answer = over.answer; small = omega (arith, over.small) })

-- a body that stands from the third byte on
module _ (s body : List ℕ) {x : List ℕ} {n : ℕ} (two : 2 ≤ length s) (L : Laid (take 2 s ++ body) s x) (e : n ≡ length body) where
  pub headed : (a b : ℕ) {last : List ℕ} {r : ℕ} → Writing (filled (a ∷ b ∷ take n (drop 2 x))) x last longest r → Writing (filled (a ∷ b ∷ body)) s last longest r
  headed a b {last} {r} W =
      let head : length (take 2 s) ≡ 2 = length-take-le 2 s two in
      let rest = drop (length (take 2 s ++ body)) s in
      let bytes : take n (drop 2 x) ≡ body = rw (L.written, append_assoc (take 2 s) body rest, drop_at (take 2 s) (body ++ rest) 2 head) (take_at body rest n (sym e)) in
      laid_over L (omega (arith, length-append (take 2 s) body, filled_long (a ∷ b ∷ body))) (rw bytes at W)

-- put there by a run of stores
pub stored : (s body : List ℕ) → 2 + length body ≤ length s → Laid (take 2 s ++ body) s (sets s 2 body)
stored s body room =
    let head : length (take 2 s) ≡ 2 = length-take-le 2 s (omega arith) in
    let front : Laid (take 2 s) s s = record { written = rw head (sym (take-append-drop 2 s)); inside = omega arith } in
    laid_more front body (sym head) room

-- a part from the third byte on that was lent and came back with a body
module _ (s : List ℕ) {ys body : List ℕ} {n most : ℕ} (two : 2 ≤ length s) (P : Writing body (take (length s - 2) (drop 2 s)) ys most n) where
  whole : take 2 s ++ (ys ++ drop (length s - 2) (drop 2 s)) ≡ take 2 s ++ (body ++ drop (2 + length body) s)
  whole =
      rw (
        drop_of_length-le (drop 2 s) {i = length s - 2} (omega (arith, length-drop 2 s)),
        append-nil ys,
        P.written,
        take_all (length s - 2) (drop 2 s) (omega (arith, length-drop 2 s)),
        drop-drop (length body) 2 s,
      )

  pub replied : (a b : ℕ) {last : List ℕ} {r : ℕ} → 2 + length body ≤ length s → Writing (filled (a ∷ b ∷ take n (drop 2 (take 2 s ++ (ys ++ drop (length s - 2) (drop 2 s)))))) (take 2 s ++ (ys ++ drop (length s - 2) (drop 2 s))) last longest r → Writing (filled (a ∷ b ∷ body)) s last longest r
  replied a b {last} {r} room W =
      let long : length (take 2 s ++ body) ≡ 2 + length body = rw (length-append (take 2 s) body, length-take-le 2 s two) in
      let laid : Laid (take 2 s ++ body) s (take 2 s ++ (ys ++ drop (length s - 2) (drop 2 s))) = record {
        written = rw (long) (whole ∙ sym (append_assoc (take 2 s) body (drop (2 + length body) s)));
        inside = omega arith;
      } in
      headed s body two laid P.answer a b W

-- an address list is such a body
pub listing : {words before after : List ℕ} {port except r : ℕ} → Listing words port except before after r → Writing (addresses_on port except (table_of words)) before after 254 r
listing L = record { written = rw L.answer at L.written; answer = L.answer; small = L.small }
