-- Laws of Outs.antt. Order: what bench_look writes, test by test; that its two numbers say where the part stands that Look gives back. Assumes
-- nothing.
use Rattle.std.specs.Prelude.{◌≡◌, refl, ◌≢◌, List, [], ◌∷◌, ℕ, ◌+◌, ◌-◌, length, take, drop, get_or}
use Rattle.std.proofs.Common.{ap, ap₂, sym, ◌∙◌, arith, eq-eqb, ne_eqb}
use Rattle.network.specs.Sizes.{Shape}
use Rattle.network.specs.Layout.{shape, queue_start, held}
use Rattle.network.specs.Refusals.{look_refusal}
use Rattle.network.specs.Calls.{look_part, look_at}
use Rattle.queue.specs.HeldWords.{held-part}
use Rattle.calls.specs.Returns.{looking, look-shown}
use Rattle.bench_c.specs.Outs.{look_out}

pub look-cleared : (w : List ℕ) (n q : ℕ) → look_refusal w n q ≢ 0 → (0 ∷ 0 ∷ []) ≡ look_out w n q
unfolding look_out look_part
look-cleared w n q ne = rw (ne_eqb (look_refusal w n q) 0 ne)

pub look-told : (S : Shape) (w : List ℕ) (n q start count : ℕ) → S ≡ shape w → look_refusal w n q ≡ 0 → start ≡ queue_start S n q → count ≡ length (held S w n q)
    → ((start + 1) ∷ count ∷ []) ≡ look_out w n q
unfolding look_out look_at look_part
look-told S w n q start count e z es ec =
    rw (eq-eqb (look_refusal w n q) 0 z)
    (ap₂ (λ (i k : ℕ). (i + 1) ∷ k ∷ []) (es ∙ ap (λ (T : Shape). queue_start T n q) e) (ec ∙ ap (λ (T : Shape). length (held T w n q)) e))

-- "the packets are words[out[0]] to words[out[0] + out[1] - 1]"
pub look-out-part : (w : List ℕ) (n q : ℕ) → look_refusal w n q ≡ 0 → take (get_or (look_out w n q) 1 0) (drop (get_or (look_out w n q) 0 0) w) ≡ look_part w n q
look-out-part w n q z =
    let start : ℕ = queue_start (shape w) n q in
    let count : ℕ = length (held (shape w) w n q) in
    ap (λ (out : List ℕ). take (get_or out 1 0) (drop (get_or out 0 0) w)) (sym (look-told (shape w) w n q start count refl z refl refl))
    ∙ ap (λ (k : ℕ). take k (drop (start + 1) w)) (sym (from-to start count))
    ∙ look-shown (shape w) w _ n q refl z (held-part (shape w) w n q start count (looking (shape w) w n q (look_refusal w n q) refl z refl) refl refl)
  where
    from-to : (a k : ℕ) → a + 1 + k - (a + 1) ≡ k
    from-to a k = omega arith
