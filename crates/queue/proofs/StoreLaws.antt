-- What the stores of `append` and `remove` make of a queue's words. Order: a queue's words and its packets; one packet appended; packets moved
-- up by one place; the head removed. Assumes nothing.
use mathlib.Core.Path.{◌≡◌, ap, ap₂, sym, ◌∙◌}
use mathlib.Core.List.{List, [], ◌∷◌, ◌++◌}
use Prim.Native.Nat.{ℕ, suc, ◌+◌, ◌-◌, ◌<◌}
use native.Mathlib.Numerals.{add-one, one-add}
use native.Mathlib.Omega.{arith}
use lib.ListN.{length, get_or, drop, set, replicate, length-append}
use lib.Seq.{paste, append_snoc, set-append_seam, take-append_seam, drop-append_seam, drop-cons, get_or-drop, get_or-take}
use Rattle.network.specs.Layout.{queue_words, count_of, packets_of}
use Rattle.network.proofs.LayoutLaws.{queue_words-packets_of, length-packets_of}
use Rattle.network.specs.Refusals.{head}
use Rattle.queue.specs.Queue.{IsQueue, slots}

-- a queue is the words of its packets, as many as it says
pub whole : (part : List ℕ) → IsQueue part → queue_words (slots part) (packets_of part) ≡ part
whole part h =
    let l = h.count in
    queue_words-packets_of (slots part) part (omega arith) (omega arith) h.zeros

pub count : (part : List ℕ) → IsQueue part → length (packets_of part) ≡ count_of part
count part h =
    let l = h.count in
    length-packets_of (slots part) part (omega arith) (omega arith)

-- one packet appended: the first unused word and the number held are written
append-words : (c : ℕ) (ps : List ℕ) (p : ℕ) → length ps < c → set (set (queue_words c ps) (length ps + 1) p) 0 (length ps + 1) ≡ queue_words c (ps ++ (p ∷ []))
unfolding queue_words
append-words c ps p h =
    ap (λ (k : ℕ). set (set (queue_words c ps) k p) 0 k) (add-one (length ps))
    ∙ ap (λ (k : ℕ). suc (length ps) ∷ set (ps ++ replicate k 0) (length ps) p) free
    ∙ ap (λ (r : List ℕ). suc (length ps) ∷ r) (set-append_seam ps 0 (replicate (c - suc (length ps)) 0) p ∙ sym (append_snoc ps p (replicate (c - suc (length ps)) 0)))
    ∙ ap (λ (k : ℕ). k ∷ (ps ++ (p ∷ []) ++ replicate (c - k) 0)) (sym longer)
  where
    free : c - length ps ≡ suc (c - suc (length ps))
    free = omega arith

    longer : length (ps ++ (p ∷ [])) ≡ suc (length ps)
    longer = length-append ps (p ∷ []) ∙ add-one (length ps)

pub appended : (part : List ℕ) (p : ℕ) → IsQueue part → count_of part < slots part
    → set (set part (count_of part + 1) p) 0 (count_of part + 1) ≡ queue_words (slots part) (packets_of part ++ (p ∷ []))
appended part p h room =
    let e = count part h in
    ap₂ (λ (l : List ℕ) (k : ℕ). set (set l (k + 1) p) 0 (k + 1)) (sym (whole part h)) (sym e)
    ∙ append-words (slots part) (packets_of part) p (omega arith)

-- the words with so many of the packets behind the head moved up by one place
abbrev pub moved_up : List ℕ → ℕ → List ℕ
moved_up part i = paste part 1 (drop 2 part) i

-- the head removed: the others moved up, the word of the last one cleared, the number held written
remove-words : (c x : ℕ) (ps : List ℕ) → length ps < c
    → set (set (moved_up (queue_words c (x ∷ ps)) (length ps)) (suc (length ps)) 0) 0 (length ps) ≡ queue_words c ps
unfolding queue_words
remove-words c x ps h =
    ap₂ (λ (t d : List ℕ). length ps ∷ set (t ++ d) (length ps) 0) (take-append_seam ps zeros) last
    ∙ ap (λ (r : List ℕ). length ps ∷ r) (set-append_seam ps (get_or (x ∷ (ps ++ zeros)) (length ps) 0) zeros 0)
    ∙ ap (λ (k : ℕ). length ps ∷ (ps ++ replicate k 0)) free
  where
    zeros : List ℕ
    zeros = replicate (c - suc (length ps)) 0

    last : drop (1 + length ps) (queue_words c (x ∷ ps)) ≡ get_or (x ∷ (ps ++ zeros)) (length ps) 0 ∷ zeros
    last =
        ap (λ (k : ℕ). drop k (queue_words c (x ∷ ps))) (one-add (length ps))
        ∙ drop-cons (x ∷ (ps ++ zeros)) (length ps) 0 (let l = length-append ps zeros in omega arith)
        ∙ ap (λ (r : List ℕ). get_or (x ∷ (ps ++ zeros)) (length ps) 0 ∷ r) (drop-append_seam ps zeros)

    free : suc (c - suc (length ps)) ≡ c - length ps
    free = omega arith

pub removed : (part : List ℕ) (i : ℕ) → IsQueue part → i + 1 ≡ count_of part
    → set (set (moved_up part i) (count_of part) 0) 0 (count_of part - 1) ≡ queue_words (slots part) (drop 1 (packets_of part))
removed part i h e = go (packets_of part) (whole part h) (count part h)
  where
    go : (ps : List ℕ) → queue_words (slots part) ps ≡ part → length ps ≡ count_of part
        → set (set (moved_up part i) (count_of part) 0) 0 (count_of part - 1) ≡ queue_words (slots part) (drop 1 ps)
    go [] w l = absurd (let z : 0 ≡ count_of part = l in omega arith)
    go (x ∷ ps) w l =
        let n : suc (length ps) ≡ count_of part = l in
        let b = h.count in
        let ei : i ≡ length ps = omega arith in
        let em : count_of part - 1 ≡ length ps = omega arith in
        ap₂ (λ (p : List ℕ) (k : ℕ). set (set (moved_up p k) (count_of part) 0) 0 (count_of part - 1)) (sym w) ei
        ∙ ap₂ (λ (k m : ℕ). set (set (moved_up (queue_words (slots part) (x ∷ ps)) (length ps)) k 0) 0 m) (sym n) em
        ∙ remove-words (slots part) x ps (omega arith)

pub oldest : (part : List ℕ) → 0 < count_of part → get_or part 1 0 ≡ head (packets_of part)
unfolding head packets_of
oldest part h = sym (get_or-take (count_of part) (drop 1 part) 0 0 h ∙ get_or-drop 1 part 0 0)
