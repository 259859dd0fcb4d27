-- Laws of bytes that are put into a buffer one after another, for the functions that print. Order: lengths; bytes behind bytes; the same of what the
-- functions ensure; the elements of a list one after another; three runs of bytes. Assumes nothing.
use Rattle.std.specs.Prelude.{◌≡◌, refl, List, [], ◌∷◌, ◌++◌, ℕ, suc, ◌+◌, ◌<◌, ◌≤◌, length, get_or, take, drop, set}
use Rattle.std.proofs.Common.{ap, ap₂, sym, ◌∙◌, append-nil, append_assoc, add-zero, add_assoc, add-one, arith, length-append, length-drop, take-append-drop, length-take-le, take_all, take-suc, take_at, drop-drop}
use Rattle.std.proofs.Math.Seq.{split_at, drop-append-add}
use Rattle.std.proofs.lemmas.List.{set_split, set_at}
use Rattle.sheet.specs.Output.{written, Room, Put}
use Rattle.sheet.specs.Puts.{Putting, ToPut}

pub length-written : (out : List ℕ) (at : ℕ) (xs : List ℕ) → Room out at xs → length (written out at xs) ≡ length out
unfolding written
length-written out at xs room =
    let a = length-append (take at out) (xs ++ drop (at + length xs) out) in
    let b = length-append xs (drop (at + length xs) out) in
    let c = length-drop (at + length xs) out in
    let d = length-take-le at out (omega arith) in
    omega arith

-- bytes put behind bytes are the bytes of both
pub written-written : (out : List ℕ) (at : ℕ) (xs ys : List ℕ) → Room out at xs → written (written out at xs) (at + length xs) ys ≡ written out at (xs ++ ys)
unfolding written
written-written out at xs ys room =
    let front : List ℕ = take at out ++ xs in
    let back : List ℕ = drop (at + length xs) out in
    let l : length front ≡ at + length xs = length-append (take at out) xs ∙ ap (λ n. n + length xs) (length-take-le at out (omega arith)) in
    let w : take at out ++ (xs ++ back) ≡ front ++ back = sym (append_assoc (take at out) xs back) in
    let t : take (at + length xs) (take at out ++ (xs ++ back)) ≡ front = ap (take (at + length xs)) w ∙ take_at front back (at + length xs) l in
    let d : drop (at + length xs + length ys) (take at out ++ (xs ++ back)) ≡ drop (at + length (xs ++ ys)) out
    = ap (drop (at + length xs + length ys)) w
    ∙ ap (λ n. drop (n + length ys) (front ++ back)) (sym l)
    ∙ drop-append-add front back (length ys)
    ∙ drop-drop (length ys) (at + length xs) out
    ∙ ap (λ n. drop n out) (add_assoc at (length xs) (length ys) ∙ ap (λ n. at + n) (sym (length-append xs ys))) in
    ap₂ (λ f b. f ++ (ys ++ b)) t d
    ∙ append_assoc (take at out) xs (ys ++ drop (at + length (xs ++ ys)) out)
    ∙ ap (λ r. take at out ++ r) (sym (append_assoc xs ys (drop (at + length (xs ++ ys)) out)))

-- nothing put, and one byte put
pub put-none : (out : List ℕ) (at : ℕ) → at ≤ length out → Put out at [] out at
unfolding written
put-none out at room =
    record {
      leaves = sym (ap (λ n. take at out ++ drop n out) (add-zero at) ∙ take-append-drop at out);
      answers = sym (add-zero at);
    }

pub put_one : (out : List ℕ) (at b : ℕ) → at < length out → Put out at (b ∷ []) (set out at b) (at + 1)
unfolding written
put_one out at b h =
    record { leaves = set_split out at b h ∙ ap (λ n. take at out ++ b ∷ drop n out) (sym (add-one at)); answers = refl }

-- one byte put right before bytes that have been put
pub written-front : (out : List ℕ) (at b : ℕ) (bytes : List ℕ) → Room out (at + 1) bytes → set (written out (at + 1) bytes) at b ≡ written out at (b ∷ bytes)
unfolding written
written-front out at b bytes room =
    let back : List ℕ = drop (at + 1 + length bytes) out in
    let front : take (at + 1) out ≡ take at out ++ (get_or out at 0 ∷ []) = ap (λ n. take n out) (add-one at) ∙ take-suc out at 0 (omega arith) in
    let n : at + 1 + length bytes ≡ at + suc (length bytes) = omega arith in
    ap (λ l. set (l ++ (bytes ++ back)) at b) front
    ∙ ap (λ l. set l at b) (append_assoc (take at out) (get_or out at 0 ∷ []) (bytes ++ back))
    ∙ set_at (take at out) (get_or out at 0) (bytes ++ back) b at (length-take-le at out (omega arith))
    ∙ ap (λ k. take at out ++ (b ∷ bytes ++ drop k out)) n

-- there is room for bytes that are at most so many; for the first bytes, and behind them for the others
pub enough : (out : List ℕ) (at : ℕ) (bytes : List ℕ) (most : ℕ) → length bytes ≤ most → at + most ≤ length out → Room out at bytes
enough out at bytes most l h = omega arith

pub room-first : (out : List ℕ) (at : ℕ) (xs ys : List ℕ) → Room out at (xs ++ ys) → Room out at xs
room-first out at xs ys room = let l = length-append xs ys in omega arith

pub room-behind : {out : List ℕ} {at : ℕ} {xs out' : List ℕ} {next : ℕ} (ys : List ℕ) → Put out at xs out' next → Room out at (xs ++ ys) → Room out' next ys
room-behind {out} {at} {xs} {out'} {next} ys p room =
    let l = length-append xs ys in
    let k : length out' ≡ length out = ap length p.leaves ∙ length-written out at xs (omega arith) in
    let n : next ≡ at + length xs = p.answers in
    omega arith

pub put-behind : {out : List ℕ} {at : ℕ} {xs out' : List ℕ} {next : ℕ} {ys out'' : List ℕ} {last : ℕ} → Put out at xs out' next → Put out' next ys out'' last
    → Room out at xs → Put out at (xs ++ ys) out'' last
put-behind {out} {at} {xs} {out'} {next} {ys} {out''} {last} p q room =
    record {
      leaves = q.leaves ∙ ap₂ (λ o n. written o n ys) p.leaves p.answers ∙ written-written out at xs ys room;
      answers = q.answers ∙ ap (λ n. n + length ys) p.answers ∙ add_assoc at (length xs) (length ys) ∙ ap (λ n. at + n) (sym (length-append xs ys));
    }

pub put-length : {out : List ℕ} {at : ℕ} {xs out' : List ℕ} {next : ℕ} → Put out at xs out' next → Room out at xs → length out' ≡ length out
put-length {out} {at} {xs} p room = ap length p.leaves ∙ length-written out at xs room

module _ (one : ℕ → List ℕ) (every : List ℕ → List ℕ) (none : every [] ≡ []) (cons : (x : ℕ) (xs : List ℕ) → every (x ∷ xs) ≡ one x ++ every xs) where
  every_append : (xs ys : List ℕ) → every (xs ++ ys) ≡ every xs ++ every ys
  every_append [] ys = ap (λ r. r ++ every ys) (sym none)
  every_append (x ∷ xs) ys =
      cons x (xs ++ ys)
      ∙ ap (λ r. one x ++ r) (every_append xs ys)
      ∙ sym (append_assoc (one x) (every xs) (every ys))
      ∙ ap (λ r. r ++ every ys) (sym (cons x xs))

  every_one : (x : ℕ) → every (x ∷ []) ≡ one x
  every_one x = cons x [] ∙ ap (λ r. one x ++ r) none ∙ append-nil (one x)

  module _ {before : List ℕ} {at : ℕ} {l : List ℕ} (room : Room before at (every l)) where
    pub putting-none : Putting every before at l before at 0
    putting-none = record { within = omega arith; put = rw none (put-none before at (omega arith)) }

    module _ {out : List ℕ} {next i : ℕ} (p : Putting every before at l out next i) where
      parts : i < length l → every l ≡ every (take i l) ++ (one (get_or l i 0) ++ every (drop (suc i) l))
      parts h = ap every (split_at l i 0 h) ∙ every_append (take i l) (get_or l i 0 ∷ drop (suc i) l) ∙ ap (λ r. every (take i l) ++ r) (cons (get_or l i 0) (drop (suc i) l))

      room-so-far : i < length l → Room before at (every (take i l))
      room-so-far h = room-first before at (every (take i l)) (one (get_or l i 0) ++ every (drop (suc i) l)) (rw (parts h) at room)

      pub putting-room : i < length l → Room out next (one (get_or l i 0))
      putting-room h =
          room-first out next (one (get_or l i 0)) (every (drop (suc i) l))
          (room-behind (one (get_or l i 0) ++ every (drop (suc i) l)) p.put (rw (parts h) at room))

      pub putting-more : {out' : List ℕ} {next' : ℕ} → i < length l → Put out next (one (get_or l i 0)) out' next' → Putting every before at l out' next' (i + 1)
      putting-more h q =
          record {
            within = omega arith;
            put =
                rw
                (ap every (ap (λ n. take n l) (add-one i) ∙ take-suc l i 0 h)
                ∙ every_append (take i l) (get_or l i 0 ∷ [])
                ∙ ap (λ r. every (take i l) ++ r) (every_one (get_or l i 0)))
                (put-behind p.put q (room-so-far h));
          }

      pub putting-all : length l ≤ i → Put before at (every l) out next
      putting-all h = rw (take_all i l h) at p.put

-- three runs of bytes, one behind the other
module _ (out : List ℕ) (at : ℕ) (xs ys zs : List ℕ) (room : Room out at (xs ++ (ys ++ zs))) where
  pub first-room : Room out at xs
  first-room = room-first out at xs (ys ++ zs) room

  module _ {out₁ : List ℕ} {at₁ : ℕ} (p : Put out at xs out₁ at₁) where
    pub second-room : Room out₁ at₁ ys
    second-room = room-first out₁ at₁ ys zs (room-behind (ys ++ zs) p room)

    module _ {out₂ : List ℕ} {at₂ : ℕ} (q : Put out₁ at₁ ys out₂ at₂) where
      pub third-room : Room out₂ at₂ zs
      third-room = room-behind zs q (room-behind (ys ++ zs) p room)

      pub put_three : {out₃ : List ℕ} {at₃ : ℕ} → Put out₂ at₂ zs out₃ at₃ → Put out at (xs ++ (ys ++ zs)) out₃ at₃
      put_three r = put-behind p (put-behind q r second-room) first-room

pub all-to-put : (out : List ℕ) (at : ℕ) (bytes : List ℕ) → Room out at bytes → ToPut out at bytes out at bytes
all-to-put out at bytes room = record { room = room; done = λ out' last p. p }

module _ {before : List ℕ} {at : ℕ} {bytes out : List ℕ} {next : ℕ} (xs rest : List ℕ) (t : ToPut before at bytes out next (xs ++ rest)) where
  pub run_room : Room out next xs
  run_room = room-first out next xs rest t.room

  pub run-put : {out' : List ℕ} {next' : ℕ} → Put out next xs out' next' → ToPut before at bytes out' next' rest
  run-put {out'} {next'} p =
      record { room = room-behind rest p t.room; done = λ out'' last q. t.done out'' last (put-behind p q (room-first out next xs rest t.room)) }
