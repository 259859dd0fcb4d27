-- A number's digits, for `number_length` and the loop of `put_number`, which puts the last one first. Order: how many digits there are; the last digit and
-- those before it; the digits put. Assumes nothing.
use mathlib.Core.Path.{◌≡◌, refl, ap, sym, ◌∙◌, subst}
use mathlib.Core.List.{List, [], ◌∷◌, ◌++◌, append-nil, append_assoc}
use Prim.Native.Nat.{ℕ, zero, suc, ◌+◌, ◌*◌, ◌/◌, ◌%◌, ◌^◌, ◌<◌, ◌≤◌}
use Rattle.std.proofs.Math.Nat.{div-lt_iff_lt-mul, le-div_iff_mul-le, mod-eq_of_lt, mul-le-mul_right, one-le-pow, pow-suc, pow-succ', pow-zero, mul_comm}
use native.Mathlib.Decide.{dec_lt}
use native.Mathlib.Omega.{arith}
use lib.ListN.{length, set, length-append}
use Rattle.sheet.specs.Output.{numeral, written, Room, Put}
use Rattle.sheet.proofs.Numerals.{numeral-one, numeral-more, numeral-length-more, numeral-some}
use Rattle.sheet.proofs.Puts.{length-written, put-none, written-front}

-- the last digit of a number, and the digits before it: those of the number divided by the base, if there are any
record Last (base n : ℕ) : Type 0 where
  front : List ℕ
  digits : numeral base n ≡ front ++ ((48 + n % base) ∷ [])
  more : 0 < length front → front ≡ numeral base (n / base)

module _ (base : ℕ) (two : 2 ≤ base) where
  -- a number from a power of the base on, and below the next one
  pub between-powers : (k n : ℕ) → base ^ k ≤ n → n < base * base ^ k → length (numeral base n) ≡ k + 1
  between-powers zero n low high =
      let p : base * base ^ 0 ≡ base = ap (λ m. base * m) (pow-zero base) ∙ (omega arith) in
      ap length (numeral-one base two n (subst (λ m. n < m) p high))
  between-powers (suc k) n low high =
      let one = one-le-pow k base (omega arith) in
      let least : 1 * base ≤ base ^ k * base = mul-le-mul_right base one in
      let low' : base ^ k * base ≤ n = subst (λ m. m ≤ n) (pow-suc base k) low in
      let high' : n < base ^ suc k * base = subst (λ m. n < m) (mul_comm base (base ^ suc k)) high in
      let d = between-powers k (n / base) ((le-div_iff_mul-le {k = base} {x = base ^ k} {y = n} (omega arith)).1 low')
      (subst (λ m. n / base < m) (pow-succ' base k) ((div-lt_iff_lt-mul {k = base} {x = n} {y = base ^ suc k} (omega arith)).1 high')) in
      let m = numeral-length-more base two n (omega arith) in
      omega arith

  last : (n : ℕ) → Last base n
  last n = go (dec_lt n base)
    where
      go : Dec (n < base) → Last base n
      go (yes h) =
          record {
            front = [];
            digits = numeral-one base two n h ∙ ap (λ d. (48 + d) ∷ []) (sym (mod-eq_of_lt h));
            more = λ p. absurd (omega arith);
          }
      go (no h) = record { front = numeral base (n / base); digits = numeral-more base two n (omega arith); more = λ p. refl }

-- the digits from place i on have been put; if there are digits before it, they are those of `rest`
pub record Behind (base n : ℕ) (before : List ℕ) (at : ℕ) (out : List ℕ) (i rest : ℕ) : Type 0 where
  pub front : List ℕ
  pub low : List ℕ
  pub digits : numeral base n ≡ front ++ low
  pub place : i ≡ at + length front
  pub more : 0 < length front → front ≡ numeral base rest
  pub put : out ≡ written before i low

module _ (base n : ℕ) (two : 2 ≤ base) (before : List ℕ) (at : ℕ) (room : Room before at (numeral base n)) where
  pub behind-none : Behind base n before at before (at + length (numeral base n)) n
  behind-none =
      record {
        front = numeral base n;
        low = [];
        digits = sym (append-nil (numeral base n));
        place = refl;
        more = λ p. refl;
        put = (put-none before (at + length (numeral base n)) room).leaves;
      }

  module _ {out : List ℕ} {i rest : ℕ} (d : Behind base n before at out i rest) where
    room-low : Room before i d.low
    room-low =
        let l = ap length d.digits ∙ length-append d.front d.low in
        let p = d.place in
        omega arith

    pub behind_more : {j : ℕ} → at ≤ j → j + 1 ≡ i → Behind base n before at (set out j (48 + rest % base)) j (rest / base)
    behind_more {j} h e =
        let p = d.place in
        let r = last base two rest in
        let f : d.front ≡ r.front ++ ((48 + rest % base) ∷ []) = d.more (omega arith) ∙ r.digits in
        let l = ap length f ∙ length-append r.front ((48 + rest % base) ∷ []) in
        record {
          front = r.front;
          low = (48 + rest % base) ∷ d.low;
          digits = d.digits ∙ ap (λ ds. ds ++ d.low) f ∙ append_assoc r.front ((48 + rest % base) ∷ []) d.low;
          place = omega arith;
          more = r.more;
          put =
              ap (λ o. set o j (48 + rest % base)) (d.put ∙ ap (λ k. written before k d.low) (sym e))
              ∙ written-front before j (48 + rest % base) d.low (rw e room-low);
        }

    -- one digit is left: the number that is left itself
    module _ (e : i ≡ at + 1) where
      one-front : length d.front ≡ 1
      one-front = let p = d.place in omega arith

      front-is : d.front ≡ numeral base rest
      front-is = let l = one-front in d.more (omega arith)

      pub one-digit : rest < base
      one-digit = go (dec_lt rest base)
        where
          go : Dec (rest < base) → rest < base
          go (yes h) = h
          go (no h) =
              let l = ap length (sym front-is) ∙ one-front in
              let m = numeral-length-more base two rest (omega arith) in
              let s = numeral-some base two (rest / base) in
              absurd (omega arith)

      pub behind-place : at < length out
      behind-place =
          let l = ap length d.put ∙ length-written before i d.low room-low in
          let r = room-low in
          omega arith

      pub behind-all : Put before at (numeral base n) (set out at (48 + rest)) (at + length (numeral base n))
      behind-all =
          let digit : d.front ≡ (48 + rest) ∷ [] = front-is ∙ numeral-one base two rest one-digit in
          record {
            leaves =
                ap (λ o. set o at (48 + rest)) (d.put ∙ ap (λ k. written before k d.low) e)
                ∙ written-front before at (48 + rest) d.low (rw (sym e) room-low)
                ∙ ap (λ ds. written before at ds) (sym (d.digits ∙ ap (λ ds. ds ++ d.low) digit));
            answers = refl;
          }
