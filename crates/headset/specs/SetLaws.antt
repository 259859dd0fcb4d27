-- Laws of Set.antt for a caller. Order: no member from `heads` on; what the lowest member says of any other. Assumes nothing.
use Rattle.std.specs.Prelude.{◌≡◌, false, List, ℕ, ◌+◌, ◌/◌, ◌%◌, ◌^◌, ◌<◌, ◌≤◌, eqb, None}
use Rattle.std.proofs.Common.{ap, ◌∙◌, arith}
use Rattle.std.proofs.Math.Nat.{zero-div}
use Rattle.std.proofs.Math.Decide.{dec_lt}
use Rattle.std.proofs.Math.ListN.{get_or-eq_default}
use Rattle.base.specs.Bits.{bit}
use Rattle.headset.specs.Set.{heads, first_head, bit_of, member, IsSet, LowestMember}

pub none-beyond : (set : List ℕ) → IsSet set → (m : ℕ) → heads ≤ m → member set m ≡ false
unfolding member bit_of bit
none-beyond set k m h =
    let l = k.words in
    ap (λ (w : ℕ). eqb (w / 2 ^ ((first_head + m) % 64) % 2) 1) (get_or-eq_default set 0 (omega arith))
    ∙ ap (λ (x : ℕ). eqb (x % 2) 1) (zero-div (2 ^ ((first_head + m) % 64)))

-- None: the set is empty
pub lowest-none : (set : List ℕ) → IsSet set → LowestMember set None → (m : ℕ) → member set m ≡ false
lowest-none set k l m = go (dec_lt m heads)
  where
    go : Dec (m < heads) → member set m ≡ false
    go (yes h) = l m h
    go (no h) = none-beyond set k m (omega arith)
