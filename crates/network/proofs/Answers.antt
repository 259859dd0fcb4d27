-- What the answer of each call tells whose answer is an enum: its number, the refusal or 0, and each of its values, where the call is refused
-- and where it is not. All of it is read by the definitions at the end of Calls.antt. A record for each call, with the law that the call's answer
-- keeps it. Order: an answer by its refusal; Move; Credit; First; Drain. Assumes nothing.
use Rattle.std.specs.Prelude.{◌≡◌, refl, Bool, true, false, cond, List, [], ◌∷◌, ℕ, zero, suc, eqb, Result, None, Some, Ok, Err}
use Rattle.std.proofs.Common.{ap, sym, arith, true≢false, suc-ne-zero, eq-eqb, ne_eqb}
use Rattle.network.specs.Routes.{deliver}
use Rattle.network.specs.Refusals.{network_refusal, move_refusal, credit_refusal}
use Rattle.network.specs.declared.Refusal.{Refusal}
use Rattle.network.specs.Refusals.{refusal_number, number_of, numbered}
use Rattle.network.proofs.RefusalLaws.{number-positive}
use Rattle.std.specs.Result.{is_ok, result_unwrap_or, IsErrAnd}
use Rattle.network.specs.Calls.{unless_refused, move_answer, credit_answer, first_answer, drain_answer, Answer}
use Rattle.network.specs.Calls.{moved_number, moved_packets, credit_number, credit_free, found_number, found_move, drained_number, drained_moves, drained_delivered, drained_stop}
use Rattle.network.specs.Answers.{MoveTells, CreditTells, FirstTells, DrainTells}

-- what is read of an answer, where the call is refused and where it is not
pub by-refusal : {A B : Type 0} (f : A → B) (refusal : ℕ) {after before : A} {told untold : B} → f after ≡ told → f before ≡ untold
    → f (unless_refused refusal after before) ≡ unless_refused refusal told untold
by-refusal f zero t u = t
by-refusal f (suc k) t u = rw (ne_eqb (suc k) 0 (suc-ne-zero k)) u

-- the number of an answer that is 0 where the call is not refused
pub told-number : {A : Type 0} (f : A → ℕ) (refusal : ℕ) {after before : A} → f after ≡ 0 → f before ≡ refusal → f (unless_refused refusal after before) ≡ refusal
told-number f zero t u = t
told-number f (suc k) t u = rw (ne_eqb (suc k) 0 (suc-ne-zero k)) u

-- what a call says and leaves whose refusal is k, and what its answer shows of k: refused by r
pub refused-says : {A : Type 0} {k : ℕ} (r : Refusal) (value : A) → k ≡ refusal_number r
    → ◌≡◌ {A = Answer A} (Err (refusal_number r)) (unless_refused k (Ok value) (Err k))
refused-says {A} {k} r value e =
    let p = number-positive r in
    let no' : eqb k 0 ≡ false = ne_eqb k 0 (λ z. omega arith) in
    rw no' (ap (λ (n : ℕ). Err n) (sym e))

pub refused-leaves : {A : Type 0} {k : ℕ} (r : Refusal) (after before : A) → k ≡ refusal_number r → before ≡ unless_refused k after before
refused-leaves {A} {k} r after before e =
    let p = number-positive r in
    let no' : eqb k 0 ≡ false = ne_eqb k 0 (λ z. omega arith) in
    rw no'

pub refusal-is : {A : Type 0} (k : ℕ) (value : A) (r : Refusal)
    → ◌≡◌ {A = Answer A} (Err (refusal_number r)) (unless_refused k (Ok value) (Err k)) → k ≡ refusal_number r
refusal-is {A} zero value r e = absurd (true≢false (sym (ap (λ (x : Answer A). is_ok x) e)))
refusal-is {A} (suc k) value r e = let h = rw (ne_eqb (suc k) 0 (suc-ne-zero k)) at e in sym (ap (λ (x : Answer A). number x) h)
  where
    number : Answer A → ℕ
    number (Ok x) = 0
    number (Err n) = n

-- a refusal that `?` passes on, and answers that are the same
pub passed-number : {A : Type 0} (o : Result A Refusal) (r : Refusal) → IsErrAnd o (λ x. x ≡ r) → number_of o ≡ refusal_number r
passed-number (Ok x) r e = absurd e
passed-number (Err x) r e = ap refusal_number e

pub passed-numbered : {A : Type 0} (o : Result A Refusal) (r : Refusal) → IsErrAnd o (λ x. x ≡ r) → ◌≡◌ {A = Answer A} (numbered o) (Err (refusal_number r))
passed-numbered (Ok x) r e = absurd e
passed-numbered (Err x) r e = ap (λ (k : Refusal). Err (refusal_number k)) e

pub same-number : {A : Type 0} {o p : Result A Refusal} → o ≡ p → number_of o ≡ number_of p
same-number {A} e = ap (λ (x : Result A Refusal). number_of x) e

pub same-numbered : {A : Type 0} {o p : Result A Refusal} → o ≡ p → numbered o ≡ numbered p
same-numbered {A} e = ap (λ (x : Result A Refusal). numbered x) e

-- and not refused
pub made-says : {A : Type 0} {k : ℕ} {said value : A} → k ≡ 0 → said ≡ value → ◌≡◌ {A = Answer A} (Ok said) (unless_refused k (Ok value) (Err k))
made-says {A} {k} z e = rw (eq-eqb k 0 z) (ap (λ (x : A). Ok x) e)

pub made-leaves : {A : Type 0} {k : ℕ} {left after : A} (before : A) → k ≡ 0 → left ≡ after → left ≡ unless_refused k after before
made-leaves {A} {k} before z e = rw (eq-eqb k 0 z) e

pub value-is : {A : Type 0} (k : ℕ) (value said : A) → ◌≡◌ {A = Answer A} (Ok said) (unless_refused k (Ok value) (Err k)) → (k ≡ 0) × (said ≡ value)
value-is {A} zero value said e = (refl, ap (λ (x : Answer A). result_unwrap_or x said) e)
value-is {A} (suc k) value said e = let h = rw (ne_eqb (suc k) 0 (suc-ne-zero k)) at e in absurd (true≢false (ap (λ (x : Answer A). is_ok x) h))

pub move-tells : (w : List ℕ) (n q o : ℕ) → MoveTells w n q o (move_answer w n q o)
unfolding move_answer moved_number moved_packets
move-tells w n q o =
    record {
      number = told-number moved_number (move_refusal w n q o) refl refl;
      packets = by-refusal moved_packets (move_refusal w n q o) (if-delivered (eqb o deliver) _) refl;
    }
  where
    if-delivered : (b : Bool) (p : ℕ) → moved_packets (Ok (cond b (Some p) None)) ≡ cond b (p ∷ []) []
    if-delivered true p = refl
    if-delivered false p = refl

pub credit-tells : (w : List ℕ) (n o : ℕ) → CreditTells w n o (credit_answer w n o)
unfolding credit_answer credit_number credit_free
credit-tells w n o =
    record {
      number = told-number credit_number (credit_refusal w n o) refl refl;
      free = by-refusal credit_free (credit_refusal w n o) refl refl;
    }

pub first-tells : (w : List ℕ) → FirstTells w (first_answer w)
unfolding first_answer found_number found_move
first-tells w =
    record {
      number = told-number found_number (network_refusal w) refl refl;
      move = by-refusal found_move (network_refusal w) refl refl;
    }

pub drain-tells : (w : List ℕ) (budget room : ℕ) → DrainTells w budget room (drain_answer w budget room)
unfolding drain_answer drained_number drained_moves drained_delivered drained_stop
drain-tells w budget room =
    record {
      number = told-number drained_number (network_refusal w) refl refl;
      moves = by-refusal drained_moves (network_refusal w) refl refl;
      delivered = by-refusal drained_delivered (network_refusal w) refl refl;
      stop = by-refusal drained_stop (network_refusal w) refl refl;
    }
