-- Cutting an input byte by byte gives its lines: theorem `cut_right`. Order: what a byte and the end of the input bring, by cases; the line without
-- the CR of its end; what the buffer holds of a line; the theorem; the commands of the lines; what is handed on before the input ends. Assumes nothing.
use Rattle.std.specs.Prelude.{◌≡◌, Bool, true, false, cond, ◌||◌, ◌⊎◌, ℕ, zero, suc, ◌+◌, ◌-◌, ◌<◌, ◌≤◌, ltb, eqb, get_or, set}
use Rattle.std.proofs.Math.Path.{refl, ap, sym}
use Rattle.std.proofs.Common.{ap₂, ◌∙◌, inl, inr, add-one, arith, length-append, length-set, take-suc-set, take-take, get_or-take}
use mathlib.Core.List.{List, [], ◌∷◌, ◌++◌, map, flatten, append-nil, append_assoc}
use Rattle.std.proofs.Math.Decide.{dec_le, dec_lt, ℕ_discrete}
use Rattle.std.proofs.Math.ListN.{length, take}
use Rattle.std.proofs.Math.Seq.{length-take-le}
use borrow.Author.Tests.{eqb-false, le-leb, lt-leb, lt-ltb, le-ltb, eq-eqb, ne_eqb}
use Rattle.base.specs.Tests.{elem}
use Rattle.sheet.specs.declared.Fed.{Fed}
use Rattle.sheet.specs.Text.{lf, cr}
use Rattle.sheet.specs.Lines.{line_limit, without_cr, last_line, lines_from, lines, ended_part, Kept, whole, too_long, kept}
use Rattle.sheet.specs.Commands.{well_formed, command_of, kept_command}
use Rattle.sheet.specs.Cutting.{held_bytes, waiting, ended_answer, fed_buffer, fed_answer, finished_answer, handed_on, pending_after, Cutting, feed_byte, feed_bytes, feed_reads, start_cutting, finish_cutting}
use Rattle.sheet.specs.Cuts.{Short, Long, Assembled, LineEnds, LineGrows, handed_before}

-- an LF
module _ (buffer : List ℕ) (count : ℕ) where
  pub ended-empty : count ≡ 0 → ended_answer buffer count ≡ Fed.Line 0
  unfolding ended_answer
  ended-empty e = rw (eq-eqb count 0 e) refl

  pub ended-over : held_bytes < count → ended_answer buffer count ≡ Fed.TooLong
  unfolding ended_answer
  ended-over h = rw (ne_eqb count 0 (λ e. omega arith), lt-ltb held_bytes count h) refl

  module _ (some : count ≡ 0 → ⊥) (held : count ≤ held_bytes) where
    pub ended-cr : get_or buffer (count - 1) 0 ≡ cr → ended_answer buffer count ≡ Fed.Line (count - 1)
    unfolding ended_answer
    ended-cr e = rw (ne_eqb count 0 some, le-ltb held_bytes count held, eq-eqb (get_or buffer (count - 1) 0) cr e) refl

    pub ended-long : (get_or buffer (count - 1) 0 ≡ cr → ⊥) → line_limit < count → ended_answer buffer count ≡ Fed.TooLong
    unfolding ended_answer
    ended-long f h =
        rw (ne_eqb count 0 some, le-ltb held_bytes count held, ne_eqb (get_or buffer (count - 1) 0) cr f, lt-ltb line_limit count h) refl

    pub ended-line : (get_or buffer (count - 1) 0 ≡ cr → ⊥) → count ≤ line_limit → ended_answer buffer count ≡ Fed.Line count
    unfolding ended_answer
    ended-line f h =
        rw (ne_eqb count 0 some, le-ltb held_bytes count held, ne_eqb (get_or buffer (count - 1) 0) cr f, le-ltb line_limit count h) refl

-- a byte
module _ (buffer : List ℕ) (count b : ℕ) where
  pub fed-end : b ≡ lf → (fed_answer buffer count b ≡ ended_answer buffer count) × (fed_buffer buffer count b ≡ buffer)
  unfolding fed_answer fed_buffer
  fed-end e = (rw (eq-eqb b lf e) refl, rw (eq-eqb b lf e) refl)

  pub fed-held : (b ≡ lf → ⊥) → count < held_bytes → (fed_answer buffer count b ≡ Fed.More (waiting (count + 1))) × (fed_buffer buffer count b ≡ set buffer count b)
  unfolding fed_answer fed_buffer
  fed-held f h = (rw (ne_eqb b lf f, lt-ltb count held_bytes h) refl, rw (ne_eqb b lf f, lt-ltb count held_bytes h) refl)

  pub fed-over : (b ≡ lf → ⊥) → held_bytes ≤ count → (fed_answer buffer count b ≡ Fed.More (waiting (held_bytes + 1))) × (fed_buffer buffer count b ≡ buffer)
  unfolding fed_answer fed_buffer
  fed-over f h = (rw (ne_eqb b lf f, le-ltb count held_bytes h) refl, rw (ne_eqb b lf f, le-ltb count held_bytes h) refl)

-- the end of the input
pub finished-none : (count : ℕ) → count ≡ 0 → finished_answer count ≡ Fed.More (waiting 0)
unfolding finished_answer
finished-none count e = rw (eq-eqb count 0 e) refl

pub finished-long : (count : ℕ) → line_limit < count → finished_answer count ≡ Fed.TooLong
unfolding finished_answer
finished-long count h = rw (ne_eqb count 0 (λ e. omega arith), lt-ltb line_limit count h) refl

pub finished-line : (count : ℕ) → (count ≡ 0 → ⊥) → count ≤ line_limit → finished_answer count ≡ Fed.Line count
unfolding finished_answer
finished-line count some h = rw (ne_eqb count 0 some, le-ltb line_limit count h) refl

-- the bytes before an LF, the last of which stands at n: without it where it is a CR, as they are where it is not
without-cr : (line : List ℕ) (n : ℕ) → length line ≡ suc n → get_or line n 0 ≡ cr → without_cr line ≡ take n line
unfolding without_cr
without-cr [] n e q = absurd (omega arith)
without-cr (b ∷ []) zero e q = rw (eq-eqb b cr q) refl
without-cr (b ∷ []) (suc n) e q = absurd (omega arith)
without-cr (b ∷ c ∷ bs) zero e q = absurd (omega arith)
without-cr (b ∷ c ∷ bs) (suc n) e q = ap (λ l. b ∷ l) (without-cr (c ∷ bs) n (omega arith) q)

without-none : (line : List ℕ) (n : ℕ) → length line ≡ suc n → (get_or line n 0 ≡ cr → ⊥) → without_cr line ≡ line
unfolding without_cr
without-none [] n e f = refl
without-none (b ∷ []) zero e f = rw (ne_eqb b cr f) refl
without-none (b ∷ []) (suc n) e f = absurd (omega arith)
without-none (b ∷ c ∷ bs) zero e f = absurd (omega arith)
without-none (b ∷ c ∷ bs) (suc n) e f = ap (λ l. b ∷ l) (without-none (c ∷ bs) n (omega arith) f)

without-length : (line : List ℕ) → length line ≤ suc (length (without_cr line))
unfolding without_cr
without-length [] = omega arith
without-length (b ∷ []) = omega arith
without-length (b ∷ c ∷ bs) = let h = without-length (c ∷ bs) in omega arith

-- a line as it is handed on
kept_whole : (line : List ℕ) → length line ≤ line_limit → kept line ≡ whole line
unfolding kept
kept_whole line h = rw (le-leb (length line) line_limit h) refl

kept-long : (line : List ℕ) → line_limit < length line → kept line ≡ too_long
unfolding kept
kept-long line h = rw (lt-leb (length line) line_limit h) refl

pub assembled-none : (buffer : List ℕ) → held_bytes ≤ length buffer → Assembled buffer 0 []
assembled-none buffer room = record { room = room; came = inl (record { counted = refl; fits = omega arith; held = refl }) }

-- an LF behind bytes that are all held, by whether there are any, whether the last is a CR, and whether they are a line too many
module _ (buffer : List ℕ) (count : ℕ) (line : List ℕ) (s : Short buffer count line) where
  ended-none : count ≡ 0 → handed_on buffer (ended_answer buffer count) ≡ kept (without_cr line) ∷ []
  unfolding handed_on without_cr kept
  ended-none e =
      let l : line ≡ [] = sym s.held ∙ ap (λ k. take k buffer) e in
      ap (handed_on buffer) (ended-empty buffer count e) ∙ ap (λ l. kept (without_cr l) ∷ []) (sym l)

  module _ (some : count ≡ 0 → ⊥) where
    size : length line ≡ suc (count - 1)
    size = let c = s.counted in omega arith

    last-same : get_or line (count - 1) 0 ≡ get_or buffer (count - 1) 0
    last-same =
        let z = size in
        let c = s.counted in
        ap (λ l. get_or l (count - 1) 0) (sym s.held) ∙ get_or-take count buffer (count - 1) 0 (omega arith)

    ended-with-cr : get_or buffer (count - 1) 0 ≡ cr → handed_on buffer (ended_answer buffer count) ≡ kept (without_cr line) ∷ []
    unfolding handed_on
    ended-with-cr e =
        let z = size in
        let c = s.counted in
        let f = s.fits in
        let w : without_cr line ≡ take (count - 1) line = without-cr line (count - 1) size (last-same ∙ e) in
        let t : take (count - 1) buffer ≡ take (count - 1) line
        = sym (take-take (count - 1) count buffer (omega arith)) ∙ ap (take (count - 1)) s.held in
        let l : length (take (count - 1) line) ≡ count - 1 = length-take-le (count - 1) line (omega arith) in
        ap (handed_on buffer) (ended-cr buffer count some (omega arith) e)
        ∙ ap (λ t. whole t ∷ []) (t ∙ sym w)
        ∙ ap (λ k. k ∷ []) (sym (kept_whole (without_cr line) (rw w (omega arith))))

    ended-without : (get_or buffer (count - 1) 0 ≡ cr → ⊥) → Dec (count ≤ line_limit) → handed_on buffer (ended_answer buffer count) ≡ kept (without_cr line) ∷ []
    unfolding handed_on
    ended-without f (yes h) =
        let c = s.counted in
        let w : without_cr line ≡ line = without-none line (count - 1) size (λ q. f (sym last-same ∙ q)) in
        ap (handed_on buffer) (ended-line buffer count some (omega arith) f h)
        ∙ ap (λ t. whole t ∷ []) s.held
        ∙ ap (λ k. k ∷ []) (sym (kept_whole line (omega arith)))
        ∙ ap (λ l. kept l ∷ []) (sym w)
    ended-without f (no h) =
        let c = s.counted in
        let b = s.fits in
        let w : without_cr line ≡ line = without-none line (count - 1) size (λ q. f (sym last-same ∙ q)) in
        ap (handed_on buffer) (ended-long buffer count some (omega arith) f (omega arith))
        ∙ ap (λ k. k ∷ []) (sym (kept-long line (omega arith)))
        ∙ ap (λ l. kept l ∷ []) (sym w)

ended-right : (buffer : List ℕ) (count : ℕ) (line : List ℕ) → Short buffer count line ⊎ Long count line
    → handed_on buffer (ended_answer buffer count) ≡ kept (without_cr line) ∷ []
unfolding handed_on
ended-right buffer count line (inl s) = go (ℕ_discrete count 0) (ℕ_discrete (get_or buffer (count - 1) 0) cr)
  where
    go : Dec (count ≡ 0) → Dec (get_or buffer (count - 1) 0 ≡ cr) → handed_on buffer (ended_answer buffer count) ≡ kept (without_cr line) ∷ []
    go (yes e) d = ended-none buffer count line s e
    go (no some) (yes e) = ended-with-cr buffer count line s some e
    go (no some) (no f) = ended-without buffer count line s some f (dec_le count line_limit)
ended-right buffer count line (inr l) =
    let e = l.over in
    let m = l.more in
    let w = without-length line in
    ap (handed_on buffer) (ended-over buffer count (omega arith)) ∙ ap (λ k. k ∷ []) (sym (kept-long (without_cr line) (omega arith)))

-- and nothing is pending behind it
ended-pending : (buffer : List ℕ) (count : ℕ) → pending_after (ended_answer buffer count) ≡ 0
unfolding ended_answer pending_after
ended-pending buffer count = go (eqb count 0) (ltb held_bytes count) (eqb (get_or buffer (count - 1) 0) cr) (ltb line_limit count)
  where
    go : (a b c d : Bool) → pending_after (cond a (Fed.Line 0) (cond b Fed.TooLong (cond c (Fed.Line (count - 1)) (cond d Fed.TooLong (Fed.Line count))))) ≡ 0
    go true b c d = refl
    go false true c d = refl
    go false false true d = refl
    go false false false true = refl
    go false false false false = refl

-- a byte
pub assembled-end : {buffer : List ℕ} {count : ℕ} {line : List ℕ} (b : ℕ) → Assembled buffer count line → b ≡ lf → LineEnds buffer count b line
assembled-end {buffer} {count} {line} b a e =
    let f = fed-end buffer count b e in
    record {
      hands = ap₂ handed_on f.1 f.0 ∙ ended-right buffer count line a.came;
      leaves = rw (f.1, f.0, ended-pending buffer count) (assembled-none buffer a.room);
    }

pub assembled-more : {buffer : List ℕ} {count : ℕ} {line : List ℕ} (b : ℕ) → Assembled buffer count line → (b ≡ lf → ⊥) → LineGrows buffer count b line
unfolding handed_on pending_after
assembled-more {buffer} {count} {line} b a n = go a.came (dec_lt count held_bytes)
  where
    longer : length (line ++ (b ∷ [])) ≡ length line + 1
    longer = length-append line (b ∷ [])

    room : held_bytes ≤ length buffer
    room = a.room

    over : held_bytes ≤ count → held_bytes ≤ length line → LineGrows buffer count b line
    over h m =
        let f = fed-over buffer count b n h in
        let l = longer in
        record {
          hands = ap₂ handed_on f.1 f.0;
          leaves = rw (f.1, f.0) (record { room = room; came = inr (record { over = refl; more = omega arith }) });
        }

    go : Short buffer count line ⊎ Long count line → Dec (count < held_bytes) → LineGrows buffer count b line
    go (inl s) (yes h) =
        let f = fed-held buffer count b n h in
        let c = s.counted in
        let l = longer in
        let r = room in
        let z = length-set buffer count b in
        record {
          hands = ap₂ handed_on f.1 f.0;
          leaves =
              rw (f.1, f.0)
              (record {
                room = omega arith;
                came =
                    inl
                    (record {
                      counted = omega arith;
                      fits = omega arith;
                      held =
                          ap (λ k. take k (set buffer count b)) (add-one count) ∙ take-suc-set buffer count b (omega arith) ∙ ap (λ t. t ++ (b ∷ [])) s.held;
                    });
              });
        }
    go (inl s) (no h) = let c = s.counted in over (omega arith) (omega arith)
    go (inr l) (yes h) = absurd (let e = l.over in omega arith)
    go (inr l) (no h) = let m = l.more in over (omega arith) (omega arith)

-- the end of the input
pub assembled-finish : {buffer : List ℕ} {count : ℕ} {line : List ℕ} → Assembled buffer count line → handed_on buffer (finished_answer count) ≡ map kept (last_line line)
unfolding handed_on last_line
assembled-finish {buffer} {count} {line} a = go line a.came (dec_le count line_limit)
  where
    go : (line : List ℕ) → Short buffer count line ⊎ Long count line → Dec (count ≤ line_limit) → handed_on buffer (finished_answer count) ≡ map kept (last_line line)
    go [] (inl s) d = ap (handed_on buffer) (finished-none count s.counted)
    go (b ∷ bs) (inl s) (yes h) =
        let c = s.counted in
        ap (handed_on buffer) (finished-line count (λ e. omega arith) h)
        ∙ ap (λ t. whole t ∷ []) s.held
        ∙ ap (λ k. k ∷ []) (sym (kept_whole (b ∷ bs) (omega arith)))
    go (b ∷ bs) (inl s) (no h) =
        let c = s.counted in
        ap (handed_on buffer) (finished-long count (omega arith)) ∙ ap (λ k. k ∷ []) (sym (kept-long (b ∷ bs) (omega arith)))
    go [] (inr l) d = absurd (let m = l.more in omega arith)
    go (b ∷ bs) (inr l) d =
        let e = l.over in
        let m = l.more in
        ap (handed_on buffer) (finished-long count (omega arith)) ∙ ap (λ k. k ∷ []) (sym (kept-long (b ∷ bs) (omega arith)))

-- the lines that are still to come, by the next byte
lines_end : (line : List ℕ) (b : ℕ) (bs : List ℕ) → b ≡ lf → lines_from line (b ∷ bs) ≡ without_cr line ∷ lines_from [] bs
unfolding lines_from
lines_end line b bs e = rw (eq-eqb b lf e, lines_from) refl

lines_more : (line : List ℕ) (b : ℕ) (bs : List ℕ) → (b ≡ lf → ⊥) → lines_from line (b ∷ bs) ≡ lines_from (line ++ (b ∷ [])) bs
unfolding lines_from
lines_more line b bs f = rw (ne_eqb b lf f, lines_from) refl

-- bytes fed one after another, where `line` has come since the last end
pub feed-right : (bs : List ℕ) (s : Cutting) (line : List ℕ) → Assembled s.buffer s.pending line
    → finish_cutting (feed_bytes s bs) ≡ s.handed ++ map kept (lines_from line bs)
unfolding feed_bytes finish_cutting lines_from feed_byte
feed-right [] s line a = ap (λ k. s.handed ++ k) (assembled-finish a)
feed-right (b ∷ bs) s line a = go (ℕ_discrete b lf) (λ l a'. feed-right bs (feed_byte s b) l a')
  where
    go : Dec (b ≡ lf)
        → ((l : List ℕ) → Assembled (feed_byte s b).buffer (feed_byte s b).pending l → finish_cutting (feed_bytes (feed_byte s b) bs) ≡ (feed_byte s b).handed ++ map kept (lines_from l bs))
        → finish_cutting (feed_bytes (feed_byte s b) bs) ≡ s.handed ++ map kept (lines_from line (b ∷ bs))
    go (yes e) r =
        let d = assembled-end b a e in
        r [] d.leaves
        ∙ ap (λ k. s.handed ++ k ++ map kept (lines_from [] bs)) d.hands
        ∙ append_assoc s.handed (kept (without_cr line) ∷ []) (map kept (lines_from [] bs))
        ∙ ap (λ ls. s.handed ++ map kept ls) (sym (lines_end line b bs e))
    go (no f) r =
        let d = assembled-more b a f in
        r (line ++ (b ∷ [])) d.leaves
        ∙ ap (λ k. s.handed ++ k ++ map kept (lines_from (line ++ (b ∷ [])) bs)) d.hands
        ∙ ap (λ k. k ++ map kept (lines_from (line ++ (b ∷ [])) bs)) (append-nil s.handed)
        ∙ ap (λ ls. s.handed ++ map kept ls) (sym (lines_more line b bs f))

-- however the bytes are read
pub feed-append : (s : Cutting) (xs ys : List ℕ) → feed_bytes s (xs ++ ys) ≡ feed_bytes (feed_bytes s xs) ys
unfolding feed_bytes
feed-append s [] ys = refl
feed-append s (x ∷ xs) ys = feed-append (feed_byte s x) xs ys

pub reads-right : (s : Cutting) (reads : List (List ℕ)) → feed_reads s reads ≡ feed_bytes s (flatten reads)
unfolding feed_reads feed_bytes flatten
reads-right s [] = refl
reads-right s (bytes ∷ reads) = reads-right (feed_bytes s bytes) reads ∙ sym (feed-append s bytes (flatten reads))

-- R241, R242, R249, R250: whatever the buffer holds at first and however the input is read, what is handed on
-- are the lines of the whole input in their order, each with its bytes, or as too long
pub cut_right : (buffer : List ℕ) → held_bytes ≤ length buffer → (reads : List (List ℕ))
    → finish_cutting (feed_reads (start_cutting buffer) reads) ≡ map kept (lines (flatten reads))
unfolding start_cutting lines
cut_right buffer room reads =
    ap finish_cutting (reads-right (start_cutting buffer) reads) ∙ feed-right (flatten reads) (start_cutting buffer) [] (assembled-none buffer room)

-- and their commands are those of the lines
pub kept-command : (line : List ℕ) → kept_command (kept line) ≡ command_of line
unfolding kept_command kept command_of well_formed
kept-command line = go (dec_le (length line) line_limit)
  where
    go : Dec (length line ≤ line_limit) → kept_command (kept line) ≡ command_of line
    go (yes h) = ap kept_command (kept_whole line h)
    go (no h) = ap kept_command (kept-long line (omega arith)) ∙ rw (lt-leb (length line) line_limit (omega arith)) refl

pub kept-commands : (ls : List (List ℕ)) → map kept_command (map kept ls) ≡ map command_of ls
kept-commands [] = refl
kept-commands (l ∷ ls) = ap₂ (λ c cs. c ∷ cs) (kept-command l) (kept-commands ls)

pub commands-right : (buffer : List ℕ) → held_bytes ≤ length buffer → (reads : List (List ℕ))
    → map kept_command (finish_cutting (feed_reads (start_cutting buffer) reads)) ≡ map command_of (lines (flatten reads))
commands-right buffer room reads = ap (map kept_command) (cut_right buffer room reads) ∙ kept-commands (lines (flatten reads))

pub byte-behind : (earlier : List Kept) (s : Cutting) (b : ℕ) → feed_byte (handed_before earlier s) b ≡ handed_before earlier (feed_byte s b)
unfolding feed_byte
byte-behind earlier s b =
    ap (λ ks. record { handed = ks; buffer = (feed_byte s b).buffer; pending = (feed_byte s b).pending })
    (append_assoc earlier s.handed (handed_on (feed_byte s b).buffer (fed_answer s.buffer s.pending b)))

pub bytes-behind : (earlier : List Kept) (s : Cutting) (bs : List ℕ) → feed_bytes (handed_before earlier s) bs ≡ handed_before earlier (feed_bytes s bs)
unfolding feed_bytes
bytes-behind earlier s [] = refl
bytes-behind earlier s (b ∷ bs) = ap (λ c. feed_bytes c bs) (byte-behind earlier s b) ∙ bytes-behind earlier (feed_byte s b) bs

-- bytes that are no LF hand nothing on
neither : (x y : Bool) → x || y ≡ false → (x ≡ false) × (y ≡ false)
neither true y h = ((cc), (cc))
neither false y h = (refl, h)

byte-handed : (s : Cutting) (b : ℕ) → (b ≡ lf → ⊥) → (feed_byte s b).handed ≡ s.handed
unfolding feed_byte fed_answer handed_on
byte-handed s b f = rw (ne_eqb b lf f) (append-nil s.handed)

bytes-handed : (s : Cutting) (rest : List ℕ) → elem lf rest ≡ false → (feed_bytes s rest).handed ≡ s.handed
unfolding feed_bytes elem
bytes-handed s [] h = refl
bytes-handed s (b ∷ bs) h =
    let n = neither (eqb lf b) (elem lf bs) h in
    bytes-handed (feed_byte s b) bs n.1 ∙ byte-handed s b (λ e. eqb-false lf b n.0 (sym e))

-- so up to the last LF as many lines are handed on as of the whole
ended-handed : (s : Cutting) (bs : List ℕ) → (feed_bytes s bs).handed ≡ (feed_bytes s (ended_part bs)).handed
unfolding feed_bytes ended_part
ended-handed s [] = refl
ended-handed s (b ∷ bs) = go (elem lf (b ∷ bs)) refl (ended-handed (feed_byte s b) bs)
  where
    go : (t : Bool) → elem lf (b ∷ bs) ≡ t → (feed_bytes (feed_byte s b) bs).handed ≡ (feed_bytes (feed_byte s b) (ended_part bs)).handed
        → (feed_bytes s (b ∷ bs)).handed ≡ (feed_bytes s (cond t (b ∷ ended_part bs) [])).handed
    go true e r = r
    go false e r = bytes-handed s (b ∷ bs) e

-- and nothing is pending there
byte-pending : (s : Cutting) (b : ℕ) → b ≡ lf → (feed_byte s b).pending ≡ 0
unfolding feed_byte
byte-pending s b e = ap pending_after (fed-end s.buffer s.pending b e).0 ∙ ended-pending s.buffer s.pending

more-behind : (b : ℕ) (bs : List ℕ) → (b ≡ lf → ⊥) → elem lf (b ∷ bs) ≡ true → elem lf bs ≡ true
unfolding elem
more-behind b bs f h = rw (ne_eqb lf b (λ e. f (sym e))) at h

ended-none-pending : (s : Cutting) (bs : List ℕ) → (s.pending ≡ 0) ⊎ (elem lf bs ≡ true) → (feed_bytes s (ended_part bs)).pending ≡ 0
unfolding feed_bytes ended_part elem
ended-none-pending s [] (inl z) = z
ended-none-pending s [] (inr h) = cc
ended-none-pending s (b ∷ bs) h = go (elem lf (b ∷ bs)) refl (ℕ_discrete b lf) h (λ k. ended-none-pending (feed_byte s b) bs k)
  where
    go : (t : Bool) → elem lf (b ∷ bs) ≡ t → Dec (b ≡ lf) → (s.pending ≡ 0) ⊎ (elem lf (b ∷ bs) ≡ true)
        → (((feed_byte s b).pending ≡ 0) ⊎ (elem lf bs ≡ true) → (feed_bytes (feed_byte s b) (ended_part bs)).pending ≡ 0)
        → (feed_bytes s (cond t (b ∷ ended_part bs) [])).pending ≡ 0
    go true e (yes q) h r = r (inl (byte-pending s b q))
    go true e (no f) h r = r (inr (more-behind b bs f e))
    go false e d (inl z) r = z
    go false e d (inr k) r = cc

none-finished : (s : Cutting) → s.pending ≡ 0 → finish_cutting s ≡ s.handed
unfolding finish_cutting handed_on
none-finished s z = rw (finished-none s.pending z) (append-nil s.handed)

-- before the input ends, those lines have been handed on that have ended
pub cut-so-far : (buffer : List ℕ) → held_bytes ≤ length buffer → (reads : List (List ℕ))
    → (feed_reads (start_cutting buffer) reads).handed ≡ map kept (lines (ended_part (flatten reads)))
unfolding start_cutting feed_reads flatten
cut-so-far buffer room reads =
    let s : Cutting = start_cutting buffer in
    let ended : List ℕ = ended_part (flatten reads) in
    ap (λ c. c.handed) (reads-right s reads)
    ∙ ended-handed s (flatten reads)
    ∙ sym (none-finished (feed_bytes s ended) (ended-none-pending s (flatten reads) (inl refl)))
    ∙ cut_right buffer room (ended ∷ [])
    ∙ ap (λ l. map kept (lines l)) (append-nil ended)
