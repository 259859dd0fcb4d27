-- Where the part of the lent words stands that Look gives back: not refused, it is the queue's held words in their place, and no copy. Order: the
-- place of a word; what holds of the part; the laws that show it. Assumes nothing.
use Rattle.std.specs.Prelude.{◌≡◌, refl, ◌≢◌, List, ℕ, ◌+◌, ◌*◌, length}
use Rattle.std.proofs.Common.{ap, ◌∙◌}
use Rattle.std.specs.Borrow.{Bor}
use Rattle.network.specs.Sizes.{Shape}
use Rattle.network.specs.Layout.{shape, queue_start, held}
use Rattle.network.specs.Refusals.{look_refusal}
use Rattle.network.specs.Calls.{unless_refused, look_part, look_at}
use Rattle.network.proofs.Answers.{by-refusal}

-- the place of word i of those that begin at a place: a block of memory, and how many bytes into it, eight to a word
abbrev pub word_at : ℕ × ℕ → ℕ → ℕ × ℕ
word_at place i = (place.0, i * 8 + place.1)

-- A part of the lent words that shows a queue. Where an empty part stands on a refusal is left free.
pub record LookPlace (words : Bor (List ℕ)) (n q : ℕ) (part : Bor (List ℕ)) : Type 0 where
  pub begins : look_refusal words.now n q ≡ 0 → part.ref_ptr ≡ word_at words.ref_ptr (look_at words.now n q)
  pub long : length part.now ≡ unless_refused (look_refusal words.now n q) (length (held (shape words.now) words.now n q)) 0

-- how long the part is follows from what it holds
look-length : (w part : List ℕ) (n q : ℕ) → part ≡ look_part w n q → length part ≡ unless_refused (look_refusal w n q) (length (held (shape w) w n q)) 0
unfolding look_part
look-length w part n q e = ap length e ∙ by-refusal length (look_refusal w n q) refl refl

pub place-refused : (words part : Bor (List ℕ)) (n q : ℕ) → look_refusal words.now n q ≢ 0 → part.now ≡ look_part words.now n q → LookPlace words n q part
place-refused words part n q ne e = record { begins = λ z. absurd (ne z); long = look-length words.now part.now n q e }

pub place-shown : (S : Shape) (words part : Bor (List ℕ)) (n q start : ℕ) → S ≡ shape words.now → start ≡ queue_start S n q
    → part.ref_ptr ≡ word_at words.ref_ptr (start + 1) → part.now ≡ look_part words.now n q → LookPlace words n q part
unfolding look_at
place-shown S words part n q start s es p e =
    record {
      begins = λ _. p ∙ ap (λ (i : ℕ). word_at words.ref_ptr (i + 1)) (es ∙ ap (λ (T : Shape). queue_start T n q) s);
      long = look-length words.now part.now n q e;
    }
