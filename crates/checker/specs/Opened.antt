-- What a call finds that opens the lent words (R181): the refusal, or that they are a network, with its sizes. Order: the answer; what holds in
-- each case; that the code shows it. Assumes nothing.
use Rattle.std.specs.Prelude.{◌≡◌, refl, ◌≢◌, List, ℕ, get_or, Result, Ok, Err}
use Rattle.std.proofs.lemmas.Bool.{eqb-false}
use Rattle.base.proofs.Tests.{true-T}
use Rattle.std.proofs.Common.{Bool, true, false, cond, eqb, ne_eqb, eq-eqb, eqb→eq, arith, ap, sym, ◌∙◌, subst}
use Rattle.network.specs.declared.Sizes.{Sizes}
use Rattle.network.specs.Sizes.{Shape, shape_of, sized}
use Rattle.network.specs.Layout.{shape}
use Rattle.network.specs.CheckLaws.{Network}
use Rattle.network.specs.Refusals.{refusal_number, numbered, network_refusal}
use Rattle.network.proofs.RefusalLaws.{network-passed, number-positive}
use Rattle.network.proofs.Answers.{value-is, refusal-is}
use Rattle.network.specs.Calls.{Answer, unless_refused}
use Rattle.network.specs.declared.Refusal.{Refusal}

-- the sizes that the words begin with
unfoldable pub sizes_in : List ℕ → Sizes
sizes_in w = sized (get_or w 0 0) (get_or w 1 0) (get_or w 2 0) (get_or w 3 0) (get_or w 4 0) (get_or w 5 0)

unfoldable pub opened : List ℕ → Answer Sizes
opened w = unless_refused (network_refusal w) (Ok (sizes_in w)) (Err (network_refusal w))

pub sizes-shape : (w : List ℕ) → shape_of (sizes_in w) ≡ shape w
unfolding shape_of sizes_in shape
sizes-shape w = refl

-- words that are a network, of these sizes
pub record Open (w : List ℕ) (s : Sizes) : Type 0 where
  pub passed : network_refusal w ≡ 0
  pub same : s ≡ sizes_in w
  pub sizes : shape_of s ≡ shape w
  pub network : Network (shape_of s) w

-- words that are none, by this number
pub record Shut (w : List ℕ) (r : ℕ) : Type 0 where
  pub says : network_refusal w ≡ r
  pub refused : r ≢ 0

pub broken : {w : List ℕ} {r : ℕ} → Shut w r → network_refusal w ≢ 0
broken k z = k.refused (sym k.says ∙ z)

-- what the answer o of the code shows
pub is_open : {w : List ℕ} {s : Sizes} {o : Result Sizes Refusal} → numbered o ≡ opened w → o ≡ Ok s → Open w s
unfolding opened
is_open {w} {s} {o} e n =
    let (z, same) = value-is (network_refusal w) _ _ (sym (ap (λ (r : Result Sizes Refusal). numbered r) n) ∙ e) in
    let sizes : shape_of s ≡ shape w = ap shape_of same ∙ sizes-shape w in
    record { passed = z; same = same; sizes = sizes; network = subst (λ (S : Shape). Network S w) (sym sizes) (network-passed w z) }

pub is-shut : {w : List ℕ} {r : Refusal} {o : Result Sizes Refusal} → numbered o ≡ opened w → o ≡ Err r → Shut w (refusal_number r)
unfolding opened
is-shut {w} {r} {o} e n =
    record { says = refusal-is (network_refusal w) _ _ (sym (ap (λ (r : Result Sizes Refusal). numbered r) n) ∙ e); refused = λ z. let p = number-positive r in omega arith }

-- the same by the refusal, or by the sizes; and of the definition itself
pub opened-shut : (w : List ℕ) (r : ℕ) → r ≡ network_refusal w → r ≢ 0 → ◌≡◌ {A = Answer Sizes} (Err r) (opened w)
unfolding opened
opened-shut w r e ne = rw (ne_eqb (network_refusal w) 0 (λ z. ne (e ∙ z))) (ap (λ (k : ℕ). Err k) e)

pub opened-open : (w : List ℕ) (s : Sizes) → network_refusal w ≡ 0 → s ≡ sizes_in w → ◌≡◌ {A = Answer Sizes} (Ok s) (opened w)
unfolding opened
opened-open w s z e = rw (eq-eqb (network_refusal w) 0 z) (ap (λ (k : Sizes). Ok k) e)

unfoldable pub Opens : List ℕ → Answer Sizes → Type 0
Opens w (Err r) = Shut w r
Opens w (Ok s) = Open w s

opens : (w : List ℕ) → Opens w (opened w)
unfolding opened Opens
opens w = go (eqb (network_refusal w) 0) refl
  where
    go : (b : Bool) → eqb (network_refusal w) 0 ≡ b → Opens w (cond b (Ok (sizes_in w)) (Err (network_refusal w)))
    go true e =
        let z : network_refusal w ≡ 0 = eqb→eq (network_refusal w) 0 (true-T _ e) in
        record { passed = z; same = refl; sizes = sizes-shape w; network = subst (λ (S : Shape). Network S w) (sym (sizes-shape w)) (network-passed w z) }
    go false e = record { says = refl; refused = eqb-false (network_refusal w) 0 e }
